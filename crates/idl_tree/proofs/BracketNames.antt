-- the names of a bracket, taken one after another
use Rattle.std.proofs.Common.{◌≡◌, ℕ, ◌+◌, ◌<◌, Bool, true, false, ◌||◌, cond, List, [], ◌∷◌, ◌++◌, Some, None, length, take, drop, get_or, map, refl, sym, ap, ◌∙◌}
use Rattle.std.specs.Str.{bytes_eq}
use Rattle.std.proofs.lemmas.List.{drop_more, take_more, map_push}
use Rattle.std.proofs.lemmas.List.Folds.{list_any-append}
use Rattle.idl_tree.specs.Names.{Bytes}
use Rattle.idl_tree.specs.Faults.{Found, first_of, is_among, bracket_fault, Reports}
use Rattle.idl_tree.specs.declared.faults.NameFault.{NameFault}
use Rattle.idl_tree.specs.declared.faults.NameFault.TheVariants.{TwiceType, TwiceMethod, TwiceError, TwiceField, UnknownType, Memory}

abbrev pub names_of : List (Bytes × Found) → List Bytes
names_of pairs = map (λ (pair : Bytes × Found). pair.0) pairs

-- what the names before place `i` and the rest give
abbrev pub fault_from : List (Bytes × Found) → ℕ → Found
fault_from pairs i = bracket_fault (names_of (take i pairs)) (drop i pairs)

pub fault_from_more : (pairs : List (Bytes × Found)) (i : ℕ) (d : Bytes × Found) → i < length pairs → get_or pairs i d ≡ d
    → fault_from pairs i ≡ cond (is_among (names_of (take i pairs)) d.0) (Some (TwiceField d.0))
    (first_of d.1 (fault_from pairs (i + 1)))
fault_from_more pairs i d within at =
    let cut : drop i pairs ≡ d ∷ drop (i + 1) pairs = drop_more pairs i d within ∙ ap (λ (x : Bytes × Found). x ∷ drop (i + 1) pairs) at in
    let more : names_of (take (i + 1) pairs) ≡ names_of (take i pairs) ++ d.0 ∷ [] =
    ap names_of (take_more pairs i d within ∙ ap (λ (x : Bytes × Found). take i pairs ++ x ∷ []) at) ∙ map_push (λ (pair : Bytes × Found). pair.0) (take i pairs) d in
    rw (cut, more) refl

or_false : (a b : Bool) → (a || (b || false)) ≡ (b || a)
or_false true true = refl
or_false true false = refl
or_false false true = refl
or_false false false = refl

pub is_among_more : (pairs : List (Bytes × Found)) (i : ℕ) (d : Bytes × Found) (q : Bytes) → i < length pairs → get_or pairs i d ≡ d
    → is_among (names_of (take (i + 1) pairs)) q ≡ (bytes_eq d.0 q || is_among (names_of (take i pairs)) q)
is_among_more pairs i d q within at =
    let more : names_of (take (i + 1) pairs) ≡ names_of (take i pairs) ++ d.0 ∷ [] =
    ap names_of (take_more pairs i d within ∙ ap (λ (x : Bytes × Found). take i pairs ++ x ∷ []) at) ∙ map_push (λ (pair : Bytes × Found). pair.0) (take i pairs) d in
    rw (more, list_any-append) (or_false (is_among (names_of (take i pairs)) q) (bytes_eq d.0 q))

-- a refusal reports whatever fault is the one that it was found to be
pub Reports-same : (fault : NameFault) (one other : Found) → Reports fault one → ((f : NameFault) → one ≡ Some f → other ≡ Some f) → Reports fault other
Reports-same (TwiceType name) one other is same = same (TwiceType name) is
Reports-same (TwiceMethod name) one other is same = same (TwiceMethod name) is
Reports-same (TwiceError name) one other is same = same (TwiceError name) is
Reports-same (TwiceField name) one other is same = same (TwiceField name) is
Reports-same (UnknownType name) one other is same = same (UnknownType name) is
Reports-same Memory one other is same = tt

module _ (pairs : List (Bytes × Found)) (i : ℕ) (d : Bytes × Found) (within : i < length pairs) (at : get_or pairs i d ≡ d) (left : fault_from pairs i ≡ fault_from pairs 0) where
  -- a name that stood before is the fault of all
  twice_found : (stood : Bool) → is_among (names_of (take i pairs)) d.0 ≡ stood
      → (f : NameFault) → cond stood (Some (TwiceField d.0)) None ≡ Some f → fault_from pairs 0 ≡ Some f
  twice_found true e f is = sym left ∙ fault_from_more pairs i d within at
      ∙ ap (λ (b : Bool). cond b (Some (TwiceField d.0)) (first_of d.1 (fault_from pairs (i + 1)))) e ∙ is
  twice_found false e f is = let none : ◌≡◌ {A = Found} None (Some f) = is in absurd (cc)

  pub twice_reported : (fault : NameFault) (stood : Bool) → stood ≡ is_among (names_of (take i pairs)) d.0
      → Reports fault (cond stood (Some (TwiceField d.0)) None) → Reports fault (fault_from pairs 0)
  twice_reported fault stood e is =
      Reports-same fault (cond stood (Some (TwiceField d.0)) None) (fault_from pairs 0) is (twice_found stood (sym e))

  new_name : (stood : Bool) → cond stood (Some (TwiceField d.0)) None ≡ None → stood ≡ false
  new_name true is = let none : ◌≡◌ {A = Found} (Some (TwiceField d.0)) None = is in absurd (cc)
  new_name false is = refl

  -- behind a new name come the faults of its type and of the names that follow
  pub past_name : (stood : Bool) → stood ≡ is_among (names_of (take i pairs)) d.0
      → cond stood (Some (TwiceField d.0)) None ≡ None
      → fault_from pairs 0 ≡ first_of d.1 (fault_from pairs (i + 1))
  past_name stood e is =
      sym left ∙ fault_from_more pairs i d within at
      ∙ ap (λ (b : Bool). cond b (Some (TwiceField d.0)) (first_of d.1 (fault_from pairs (i + 1)))) (sym e ∙ new_name stood is)

  pub past_type : (stood : Bool) → stood ≡ is_among (names_of (take i pairs)) d.0
      → cond stood (Some (TwiceField d.0)) None ≡ None → d.1 ≡ None
      → fault_from pairs (i + 1) ≡ fault_from pairs 0
  past_type stood e is none =
      sym (past_name stood e is ∙ ap (λ (found : Found). first_of found (fault_from pairs (i + 1))) none)

  pub type_reported : (fault : NameFault) (stood : Bool) → stood ≡ is_among (names_of (take i pairs)) d.0
      → cond stood (Some (TwiceField d.0)) None ≡ None → Reports fault d.1
      → Reports fault (fault_from pairs 0)
  type_reported fault stood e is reported =
      Reports-same fault d.1 (fault_from pairs 0) reported
      (λ f found. past_name stood e is ∙ ap (λ (found' : Found). first_of found' (fault_from pairs (i + 1))) found)
