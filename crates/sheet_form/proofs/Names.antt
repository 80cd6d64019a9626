-- interfaces beside the list of their names
use Rattle.std.proofs.Common.{◌≡◌, ℕ, ◌+◌, Bool, true, false, ◌||◌, not, cond, if◌then◌else◌, nat_lt, List, [], ◌∷◌, ◌++◌, map, length, position, Some, None, Ok, String, refl, sym, ap, ◌∙◌}
use Rattle.std.proofs.lemmas.List.{length-map, map-append}
use Rattle.std.specs.List.{list_any, prefix_len}
use Rattle.std.specs.Cmp.Lexicographic.{nat_list_eq_equiv}
use Rattle.std.specs.Str.{bytes_eq}
use Rattle.std.specs.String.{string_bytes, string_eq}
use Rattle.std.specs.declared.alloc.Global.{Global}
use Rattle.idl_tree.specs.Names.{Bytes}
use Rattle.idl_tree.specs.declared.trees.Interface.{Interface}
use Rattle.indexmap.specs.IndexSet.{insert_key}
use Rattle.sheet_form.specs.Answers.{unless}
use Rattle.rule_form.specs.Rules.{interface_place}
use Rattle.sheet_form.specs.Interfaces.{names_of, has_interface, is_reserved, name_fault, interface_behind}
use Rattle.sheet_form.specs.declared.faults.SheetFault.{SheetFault}
use Rattle.sheet_form.specs.declared.faults.SheetFault.TheVariants.{Reserved, TwiceInterface}

module _ {A B : Type 0} (f : A → B) where
  front-map : (test : B → Bool) (xs : List A) → prefix_len test (map f xs) ≡ prefix_len (λ x. test (f x)) xs
  front-map test [] = refl
  front-map test (x ∷ xs) = ap (λ (n : ℕ). cond (test (f x)) (1 + n) 0) (front-map test xs)

  pub position-map : (test : B → Bool) (xs : List A) → position test (map f xs) ≡ position (λ x. test (f x)) xs
  position-map test xs = λ j.
      let first = front-map (λ x. not (test x)) xs j in
      cond (nat_lt first (length-map xs f j)) (Some first) None

  pub any-map : (test : B → Bool) (xs : List A) → list_any test (map f xs) ≡ list_any (λ x. test (f x)) xs
  any-map test [] = refl
  any-map test (x ∷ xs) = ap (λ (b : Bool). test (f x) || b) (any-map test xs)

abbrev bytes_of : List (String Global) → List Bytes
bytes_of keys = map string_bytes keys

abbrev name_of : Interface → Bytes
name_of interface = interface.name

pub place_is : (keys : List (String Global)) (interfaces : List Interface) (name : Bytes) → bytes_of keys ≡ names_of interfaces
    → position (λ (key : String Global). bytes_eq name (string_bytes key)) keys ≡ interface_place interfaces name
place_is keys interfaces name same =
    sym (position-map string_bytes (bytes_eq name) keys) ∙ ap (position (bytes_eq name)) same
    ∙ position-map name_of (bytes_eq name) interfaces
    ∙ (λ j. position (λ (interface : Interface). nat_list_eq_equiv.symm name interface.name j) interfaces)

pub has_is : (keys : List (String Global)) (interfaces : List Interface) (name : Bytes) → bytes_of keys ≡ names_of interfaces
    → list_any (λ (key : String Global). bytes_eq name (string_bytes key)) keys ≡ has_interface interfaces name
has_is keys interfaces name same =
    sym (any-map string_bytes (bytes_eq name) keys) ∙ ap (list_any (bytes_eq name)) same
    ∙ any-map name_of (bytes_eq name) interfaces
    ∙ (λ j. list_any (λ (interface : Interface). nat_list_eq_equiv.symm name interface.name j) interfaces)

-- what is told of a name
pub twice_told : (before : List Interface) (k : ℕ) (name : Bytes) → false ≡ is_reserved name → true ≡ has_interface before name
    → Some (TwiceInterface k) ≡ name_fault before k name
twice_told before k name r h = λ j. if r j then Some (Reserved k) else (if h j then Some (TwiceInterface k) else None)

pub none_told : (before : List Interface) (k : ℕ) (name : Bytes) → false ≡ is_reserved name → false ≡ has_interface before name
    → None ≡ name_fault before k name
none_told before k name r h = λ j. if r j then Some (Reserved k) else (if h j then Some (TwiceInterface k) else None)

apart : (why other : SheetFault) (x interface : Interface) (r h : Bool) → unless (if r then Some why else (if h then Some other else None)) x (Ok interface)
    → (interface ≡ x) × (h ≡ false)
apart why other x interface true h n = absurd n
apart why other x interface false true n = absurd n
apart why other x interface false false n = (n, refl)

-- an interface that is read behind others has a name of its own
pub fresh : (before : List Interface) (text : Bytes) (interface : Interface) → interface_behind before text (Ok interface)
    → has_interface before interface.name ≡ false
fresh before text interface (x, accepts, named) =
    let both = apart (Reserved (length before)) (TwiceInterface (length before)) x interface (is_reserved x.name) (has_interface before x.name) named in
    ap (λ (i : Interface). has_interface before i.name) both.0 ∙ both.1

pub absent_name : (names : List Bytes) (interfaces : List Interface) (name : Bytes) → names ≡ names_of interfaces
    → has_interface interfaces name ≡ false → list_any (bytes_eq name) names ≡ false
absent_name names interfaces name same h =
    ap (list_any (bytes_eq name)) same ∙ any-map name_of (bytes_eq name) interfaces
    ∙ (λ j. list_any (λ (interface : Interface). nat_list_eq_equiv.symm name interface.name j) interfaces) ∙ h

pub key_added : (keys after : List (String Global)) (key : String Global) (name : Bytes) → list_any (bytes_eq name) (bytes_of keys) ≡ false
    → string_bytes key ≡ name → after ≡ insert_key string_eq keys key → bytes_of after ≡ bytes_of keys ++ name ∷ []
key_added keys after key name h is added =
    let absent = sym (any-map string_bytes (bytes_eq (string_bytes key)) keys) ∙ ap (λ (n : Bytes). list_any (bytes_eq n) (bytes_of keys)) is ∙ h in
    let pushed = ap (λ (b : Bool). if b then keys else keys ++ key ∷ []) absent in
    ap bytes_of (added ∙ pushed) ∙ map-append string_bytes keys (key ∷ []) ∙ ap (λ (n : Bytes). bytes_of keys ++ n ∷ []) is
