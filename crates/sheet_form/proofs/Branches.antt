-- of the branches that a rule's JSON has, the last alone has no condition
use Rattle.std.proofs.Common.{◌≡◌, Bool, true, false, ◌&&◌, not, if◌then◌else◌, List, [], ◌∷◌, map, Option, Some, None, is_some, is_none, refl, sym, ap, ◌∙◌}
use Rattle.std.proofs.lemmas.Bool.{and_from}
use Rattle.serde_json.specs.Data.{Data, null, boolean, number, string, array, object, Items, no_items, item}
use Rattle.expression_draft.specs.Members.{◌>>=◌, only_if, has_no_item}
use Rattle.sheet_draft.specs.Outlines.{branches_by}
use Rattle.sheet_draft.specs.Rules.{parts_of, branch_of, branches_in}
use Rattle.sheet_draft.specs.declared.branches.BranchParts.{BranchParts}
use Rattle.sheet_draft.specs.declared.outlines.Version.{Version}
use Rattle.sheet_draft.specs.declared.outlines.Version.TheVariants.{One, Two}

-- it has a condition
abbrev pub part_asks : BranchParts → Bool
part_asks parts = is_some parts.when

-- which have one: all but the last
abbrev pub ends_alone : List Bool → Bool
ends_alone [] = false
ends_alone (asks ∷ []) = not asks
ends_alone (asks ∷ (next ∷ behind)) = asks && ends_alone (next ∷ behind)

some_same : {A : Type 0} {x y : A} → ◌≡◌ {A = Option A} (Some x) (Some y) → x ≡ y
some_same h = (cc)

none_some : {A : Type 0} {x : A} → ◌≡◌ {A = Option A} None (Some x) → ⊥
none_some h = absurd (cc)

parted : {A B : Type 0} (o : Option A) (f : A → Option B) (y : B) → (o >>= f) ≡ Some y → (x : A) × (o ≡ Some x) × (f x ≡ Some y)
parted None f y h = absurd (none_some h)
parted (Some x) f y h = (x, refl, h)

passed : {A : Type 0} (b : Bool) (x y : A) → only_if b (Some x) ≡ Some y → (b ≡ true) × (x ≡ y)
passed true x y h = (refl, some_same h)
passed false x y h = absurd (none_some h)

asks_or_not : (when : Option Data) (is_last : Bool) → (if is_last then is_none when else is_some when) ≡ true → is_some when ≡ not is_last
asks_or_not None true h = refl
asks_or_not None false h = h
asks_or_not (Some d) true h = sym h
asks_or_not (Some d) false h = refl

branch_asks : (is_last : Bool) (d : Data) (parts : BranchParts) → branch_of is_last d ≡ Some parts → part_asks parts ≡ not is_last
branch_asks is_last d parts h =
    let found = parted (parts_of d) (λ (p : BranchParts). only_if (if is_last then is_none p.when else is_some p.when) (Some p)) parts h in
    let same = passed (if is_last then is_none found.0.when else is_some found.0.when) found.0 parts found.2 in
    ap part_asks (sym same.1) ∙ asks_or_not found.0.when is_last same.0

-- the first branch, and the others
record Opened (d : Data) (behind : Items) (all : List BranchParts) : Type 0 where
  pub first : BranchParts
  pub others : List BranchParts
  pub first_is : branch_of (has_no_item behind) d ≡ Some first
  pub others_are : branches_in behind ≡ Some others
  pub all_are : all ≡ first ∷ others

opened : (d : Data) (behind : Items) (all : List BranchParts) → branches_in (item d behind) ≡ Some all → Opened d behind all
opened d behind all h =
    let one = parted (branch_of (has_no_item behind) d)
    (λ (branch : BranchParts). branches_in behind >>= λ (branches : List BranchParts). Some (branch ∷ branches)) all h in
    let more = parted (branches_in behind) (λ (branches : List BranchParts). Some (one.0 ∷ branches)) all one.2 in
    record { first = one.0; others = more.0; first_is = one.1; others_are = more.1; all_are = sym (some_same more.2) }

abbrev ways : List BranchParts → Bool
ways all = ends_alone (map part_asks all)

ways_in : (d : Data) (behind : Items) (all : List BranchParts) → branches_in (item d behind) ≡ Some all → ways all ≡ true
ways_in d no_items all h =
    let o = opened d no_items all h in
    let none : [] ≡ o.others = some_same o.others_are in
    let one : all ≡ o.first ∷ [] = o.all_are ∙ ap (λ (others : List BranchParts). o.first ∷ others) (sym none) in
    ap ways one ∙ ap not (branch_asks true d o.first o.first_is)
ways_in d (item e behind) all h =
    let o = opened d (item e behind) all h in
    let next = opened e behind o.others o.others_are in
    let more : all ≡ o.first ∷ (next.first ∷ next.others) = o.all_are ∙ ap (λ (others : List BranchParts). o.first ∷ others) next.all_are in
    let behind_it : ways (next.first ∷ next.others) ≡ true = ap ways (sym next.all_are) ∙ ways_in e behind o.others o.others_are in
    ap ways more ∙ and_from (part_asks o.first) (ways (next.first ∷ next.others)) (branch_asks false d o.first o.first_is) behind_it

pub branches_ways : (version : Version) (d : Data) (all : List BranchParts) → branches_by version d ≡ Some all → ends_alone (map part_asks all) ≡ true
branches_ways One d all h = ways_in d no_items all h
branches_ways Two null all h = absurd (none_some h)
branches_ways Two (boolean b) all h = absurd (none_some h)
branches_ways Two (number n) all h = absurd (none_some h)
branches_ways Two (string s) all h = absurd (none_some h)
branches_ways Two (array no_items) all h = absurd (none_some h)
branches_ways Two (array (item d behind)) all h = ways_in d behind all h
branches_ways Two (object ms) all h = absurd (none_some h)

branch_parts : (is_last : Bool) (d : Data) (parts : BranchParts) → branch_of is_last d ≡ Some parts → parts_of d ≡ Some parts
branch_parts is_last d parts h =
    let found = parted (parts_of d) (λ (p : BranchParts). only_if (if is_last then is_none p.when else is_some p.when) (Some p)) parts h in
    let same = passed (if is_last then is_none found.0.when else is_some found.0.when) found.0 parts found.2 in
    found.1 ∙ ap Some same.1

-- in version 1 there is one branch, without condition, which is the rule's object itself
pub record SoleBranch (d : Data) (all : List BranchParts) : Type 0 where
  pub parts : BranchParts
  pub parts_are : parts_of d ≡ Some parts
  pub all_are : all ≡ parts ∷ []
  pub none : part_asks parts ≡ false

pub sole_branch : (d : Data) (all : List BranchParts) → branches_by One d ≡ Some all → SoleBranch d all
sole_branch d all h =
    let o = opened d no_items all h in
    let none : [] ≡ o.others = some_same o.others_are in
    record {
      parts = o.first;
      parts_are = branch_parts true d o.first o.first_is;
      all_are = o.all_are ∙ ap (λ (others : List BranchParts). o.first ∷ others) (sym none);
      none = branch_asks true d o.first o.first_is;
    }

pub branches_of_one : (d : Data) (all : List BranchParts) → branches_by One d ≡ Some all → map part_asks all ≡ false ∷ []
branches_of_one d all h =
    let sole = sole_branch d all h in ap (map part_asks) sole.all_are ∙ ap (λ (b : Bool). b ∷ []) sole.none
