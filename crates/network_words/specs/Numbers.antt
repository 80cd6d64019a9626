-- Numbers among words: decimal, without a sign, and without a leading zero unless it is `0`.
use Rattle.std.specs.Prelude.{◌&&◌, ℕ, suc, List, decimal, nat_lt, if◌then◌else◌, Option, Some, None}
use Rattle.std.specs.Str.{bytes_eq}
use Rattle.std.specs.Str.Parse.{digits_value}

-- the number whose decimal text this is, where it is from 1 to `most`
abbrev pub number_to : ℕ → List ℕ → Option ℕ
number_to most text = let n = digits_value 10 text in
    if bytes_eq (decimal n) text && (nat_lt 0 n && nat_lt n (suc most)) then Some n else None
