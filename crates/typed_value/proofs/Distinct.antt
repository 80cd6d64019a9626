-- names that are distinct in their bracket
use Rattle.std.proofs.Common.{◌≡◌, Bool, true, false, ◌||◌, ◌&&◌, cond, List, [], ◌∷◌, ◌++◌, Some, None, refl, sym, ap, ◌∙◌}
use Rattle.std.specs.Str.{bytes_eq}
use Rattle.std.proofs.lemmas.List.Folds.{list_any-append}
use Rattle.std.proofs.lemmas.Slice.Eq.{bytes_eq-Decides}
use Rattle.idl_tree.specs.Names.{Bytes}
use Rattle.idl_tree.specs.Faults.{Found, first_of, is_among, bracket_fault}
use Rattle.idl_tree.specs.declared.faults.NameFault.{NameFault}
use Rattle.idl_tree.specs.declared.faults.NameFault.TheVariants.{TwiceField}

pub split : (f : NameFault) (b : Bool) (o rest : Found) → cond b (Some f) (first_of o rest) ≡ None → (b ≡ false) × (o ≡ None) × (rest ≡ None)
split f true o rest h = let no : ◌≡◌ {A = Found} (Some f) None = h in absurd (cc)
split f false None rest h = (refl, refl, h)
split f false (Some other) rest h = let no : ◌≡◌ {A = Found} (Some other) None = h in absurd (cc)

-- a bracket without a fault: the first name is new, its type has no fault, and neither have the rest
pub bracket_split : (before : List Bytes) (pair : Bytes × Found) (pairs : List (Bytes × Found)) → bracket_fault before (pair ∷ pairs) ≡ None
    → (is_among before pair.0 ≡ false) × (pair.1 ≡ None) × (bracket_fault (before ++ pair.0 ∷ []) pairs ≡ None)
bracket_split before pair pairs h = split (TwiceField pair.0) (is_among before pair.0) pair.1 (bracket_fault (before ++ pair.0 ∷ []) pairs) h

or_split : (a b : Bool) → (a || (b || false)) ≡ false → (a ≡ false) × (b ≡ false)
or_split true b h = let no : true ≡ false = h in absurd (cc)
or_split false true h = let no : true ≡ false = h in absurd (cc)
or_split false false h = (refl, refl)

or_last : (a : Bool) → (a || (true || false)) ≡ true
or_last true = refl
or_last false = refl

or_first : (a b : Bool) → a ≡ true → (a || b) ≡ true
or_first a b h = rw h refl

pub among_split : (before : List Bytes) (name q : Bytes) → is_among (before ++ name ∷ []) q ≡ false → (is_among before q ≡ false) × (bytes_eq name q ≡ false)
among_split before name q h = or_split (is_among before q) (bytes_eq name q) (rw list_any-append at h)

pub among_last : (before : List Bytes) (name : Bytes) → is_among (before ++ name ∷ []) name ≡ true
among_last before name = rw (list_any-append, (bytes_eq-Decides name name).1 refl) (or_last (is_among before name))

pub among_more : (before : List Bytes) (name q : Bytes) → is_among before q ≡ true → is_among (before ++ name ∷ []) q ≡ true
among_more before name q h = rw list_any-append (or_first (is_among before q) _ h)

-- a name among those before is none that is not among them
pub apart : (before : List Bytes) (q name : Bytes) → is_among before q ≡ true → is_among before name ≡ false → q ≡ name → ⊥
apart before q name here none same = let no : true ≡ false = sym here ∙ ap (is_among before) same ∙ none in absurd (cc)

pub not_same : (name q : Bytes) → bytes_eq name q ≡ false → q ≡ name → ⊥
not_same name q h same = let no : true ≡ false = sym ((bytes_eq-Decides name q).1 (sym same)) ∙ h in absurd (cc)

pub first_true : (a b : Bool) → (a && b) ≡ true → a ≡ true
first_true true b h = refl
first_true false b h = h

pub second_true : (a b : Bool) → (a && b) ≡ true → b ≡ true
second_true true b h = h
second_true false b h = let no : false ≡ true = h in absurd (cc)
