-- The forms of names in an interface definition (varlink.org, "Interface Definition").
use Rattle.std.specs.Prelude.{ℕ, ◌-◌, Bool, ◌||◌, ◌&&◌, ◌==◌, not, nat_lt, List, length, slice_index}
use Rattle.std.specs.List.{list_all, slice_split}
use Rattle.std.specs.Char.{is_ascii_alphanumeric, is_ascii_alphabetic, is_ascii_uppercase}

abbrev pub Bytes : Type 0
Bytes = List ℕ

-- the parts between the bytes `c`
abbrev pub parts : ℕ → Bytes → List Bytes
parts c name = slice_split (λ b. b == c) name

-- letters and digits, at least one
abbrev pub is_run : Bytes → Bool
is_run part = not (length part == 0) && list_all is_ascii_alphanumeric part

-- begins and ends with a letter or digit, and has letters, digits and `-` between
abbrev pub is_label : Bytes → Bool
is_label part = is_ascii_alphanumeric (slice_index part 0) && is_ascii_alphanumeric (slice_index part (length part - 1))
    && list_all (λ b. is_ascii_alphanumeric b || b == 45) part

-- at least two parts joined by `.`, of which the first begins with a letter
abbrev pub is_interface_name : Bytes → Bool
is_interface_name name = is_ascii_alphabetic (slice_index name 0) && nat_lt 1 (length (parts 46 name)) && list_all is_label (parts 46 name)

-- an upper-case letter, then letters and digits: [A-Z][A-Za-z0-9]*
abbrev pub is_member_name : Bytes → Bool
is_member_name name = is_ascii_uppercase (slice_index name 0) && list_all is_ascii_alphanumeric name

-- a letter first, and runs of letters and digits joined by single `_`: [A-Za-z](_?[A-Za-z0-9])*
abbrev pub is_field_name : Bytes → Bool
is_field_name name = is_ascii_alphabetic (slice_index name 0) && list_all is_run (parts 95 name)
