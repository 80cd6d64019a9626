-- comparisons one after another
use Rattle.std.proofs.Common.{◌≡◌, ℕ, zero, suc, ◌+◌, ◌<◌, List, [], ◌∷◌, ◌++◌, length, take, drop, get_or, Option, Some, None, refl, sym, ap, ◌∙◌, subst, arith}
use Rattle.std.proofs.lemmas.List.{append_assoc, append-nil, take_more}
use Rattle.std.proofs.Common.{Bool, true, false, not, bytes_eq}
use Rattle.std.proofs.lemmas.Slice.Eq.{bytes_eq-Decides}
use Rattle.std.specs.Prelude.{◌↔◌, Result, Ok, Err, IfOk}
use Rattle.idl_tree.specs.Names.{Bytes}
use Rattle.idl_tree.specs.Faults.{method_named, error_named}
use Rattle.idl_tree.specs.declared.trees.Interface.{Interface}
use Rattle.idl_tree.specs.declared.trees.Member.{Member}
use Rattle.idl_tree.specs.declared.trees.Part.{Part}
use Rattle.idl_tree.specs.declared.trees.Part.TheVariants.{Method, Fault}
use Rattle.idl_tree.specs.declared.trees.Body.{Body}
use Rattle.idl_compat.specs.Within.{Scopes, Pair, Within, bodies, leads_to_failure}
use Rattle.idl_compat.specs.Both.{AreOf}
use Rattle.idl_compat.specs.Order.{Comparison, has_method, of_bodies, Holds, AllHold, TellsBad, ToldBad, Compared, method_comparisons, error_comparisons, comparisons_of_method, comparisons_of_error, of_methods, of_errors, comparisons, MayReplace, FirstBad, DiffersFirst, Tells}
use Rattle.idl_compat.specs.declared.both.Both.{Both}
use Rattle.idl_compat.specs.declared.verdicts.Side.{Side}
use Rattle.idl_compat.specs.declared.verdicts.Side.TheVariants.{Input, Output, Error}
use Rattle.idl_compat.specs.declared.verdicts.Verdict.{Verdict}
use Rattle.idl_compat.specs.declared.verdicts.Verdict.TheVariants.{Compatible, OtherName, NoMethod, Differs}

pub hold_both : (some more : List Comparison) → AllHold some → AllHold more → AllHold (some ++ more)
hold_both [] more h k = k
hold_both (comparison ∷ some) more (here, later) k = (here, hold_both some more later k)

-- a list around a place
around : {X : Type 0} (xs : List X) (i : ℕ) (x : X) → i < length xs → x ≡ get_or xs i x → xs ≡ take i xs ++ x ∷ drop (i + 1) xs
around [] i x within at = absurd (omega arith)
around {X = X} (y ∷ ys) zero x within at = ap (λ (z : X). z ∷ ys) (sym at)
around {X = X} (y ∷ ys) (suc i) x within at =
    let next : suc (i + 1) ≡ suc i + 1 = omega arith in
    subst (λ (n : ℕ). y ∷ ys ≡ take (suc i) (y ∷ ys) ++ x ∷ drop n (y ∷ ys)) next (ap (λ (zs : List X). y ∷ zs) (around ys i x (omega arith) at))

methods_more : (old new : Interface) (some more : List Member) → of_methods old new (some ++ more) ≡ of_methods old new some ++ of_methods old new more
methods_more old new [] more = refl
methods_more old new (member ∷ some) more =
    ap (λ (cs : List Comparison). comparisons_of_method old new member.name member.part ++ cs) (methods_more old new some more)
    ∙ sym (append_assoc (comparisons_of_method old new member.name member.part) (of_methods old new some) (of_methods old new more))

errors_more : (old new : Interface) (some more : List Member) → of_errors old new (some ++ more) ≡ of_errors old new some ++ of_errors old new more
errors_more old new [] more = refl
errors_more old new (member ∷ some) more =
    ap (λ (cs : List Comparison). comparisons_of_error old new member.name member.part ++ cs) (errors_more old new some more)
    ∙ sym (append_assoc (comparisons_of_error old new member.name member.part) (of_errors old new some) (of_errors old new more))

next_members : (members : List Member) (i : ℕ) (member : Member) → i < length members → member ≡ get_or members i member → take (i + 1) members ≡ take i members ++ member ∷ []
next_members members i member within at = take_more members i member within ∙ ap (λ (m : Member). take i members ++ m ∷ []) (sym at)

pub methods_next : (old new : Interface) (members : List Member) (i : ℕ) (member : Member) → i < length members → member ≡ get_or members i member
    → AllHold (of_methods old new (take i members)) → AllHold (comparisons_of_method old new member.name member.part) → AllHold (of_methods old new (take (i + 1) members))
methods_next old new members i member within at before here =
    subst AllHold (sym (ap (of_methods old new) (next_members members i member within at) ∙ methods_more old new (take i members) (member ∷ [])
    ∙ ap (λ (cs : List Comparison). of_methods old new (take i members) ++ cs) (append-nil (comparisons_of_method old new member.name member.part))))
    (hold_both (of_methods old new (take i members)) (comparisons_of_method old new member.name member.part) before here)

pub errors_next : (old new : Interface) (members : List Member) (i : ℕ) (member : Member) → i < length members → member ≡ get_or members i member
    → AllHold (of_errors old new (take i members)) → AllHold (comparisons_of_error old new member.name member.part) → AllHold (of_errors old new (take (i + 1) members))
errors_next old new members i member within at before here =
    subst AllHold (sym (ap (of_errors old new) (next_members members i member within at) ∙ errors_more old new (take i members) (member ∷ [])
    ∙ ap (λ (cs : List Comparison). of_errors old new (take i members) ++ cs) (append-nil (comparisons_of_error old new member.name member.part))))
    (hold_both (of_errors old new (take i members)) (comparisons_of_error old new member.name member.part) before here)

-- what is told of a part is told of the whole, where all before it come out well
pub told_within : (fronts mid rest all : List Comparison) (verdict : Verdict) → all ≡ fronts ++ (mid ++ rest) → AllHold fronts → ToldBad mid verdict → ToldBad all verdict
told_within fronts mid rest all verdict is before bad = record {
  front = fronts ++ bad.front;
  bad = bad.bad;
  back = bad.back ++ rest;
  order = is ∙ ap (λ (cs : List Comparison). fronts ++ (cs ++ rest)) bad.order
      ∙ ap (λ (cs : List Comparison). fronts ++ cs) (append_assoc bad.front (bad.bad ∷ bad.back) rest)
      ∙ sym (append_assoc fronts bad.front (bad.bad ∷ (bad.back ++ rest)));
  before = hold_both fronts bad.front before bad.before;
  told = bad.told;
}

pub method_told : (old new : Interface) (members : List Member) (i : ℕ) (member : Member) (verdict : Verdict) → i < length members → member ≡ get_or members i member
    → AllHold (of_methods old new (take i members)) → ToldBad (comparisons_of_method old new member.name member.part) verdict → ToldBad (of_methods old new members) verdict
method_told old new members i member verdict within at before bad =
    told_within (of_methods old new (take i members)) (comparisons_of_method old new member.name member.part) (of_methods old new (drop (i + 1) members)) (of_methods old new members) verdict
    (ap (of_methods old new) (around members i member within at) ∙ methods_more old new (take i members) (member ∷ drop (i + 1) members)) before bad

pub error_told : (old new : Interface) (members : List Member) (i : ℕ) (member : Member) (verdict : Verdict) → i < length members → member ≡ get_or members i member
    → AllHold (of_errors old new (take i members)) → ToldBad (comparisons_of_error old new member.name member.part) verdict → ToldBad (of_errors old new members) verdict
error_told old new members i member verdict within at before bad =
    told_within (of_errors old new (take i members)) (comparisons_of_error old new member.name member.part) (of_errors old new (drop (i + 1) members)) (of_errors old new members) verdict
    (ap (of_errors old new) (around members i member within at) ∙ errors_more old new (take i members) (member ∷ drop (i + 1) members)) before bad

pub told_of : (some others : List Comparison) (found : Option Verdict) (verdict : Verdict) → some ≡ others → found ≡ Some verdict → Compared some found → ToldBad others verdict
told_of some others found verdict same is compared = subst (λ (cs : List Comparison). ToldBad cs verdict) same (subst (Compared some) is compared)

pub well_of : (some others : List Comparison) (found : Option Verdict) → some ≡ others → found ≡ None → Compared some found → AllHold others
well_of some others found same is compared = subst AllHold same (subst (Compared some) is compared)

pub of_both : (before after : Both) (old new : Interface) → AreOf before old new → AreOf after before.first.scope.now before.second.scope.now → AreOf after old new
of_both before after old new of then = record { first = then.first ∙ of.first; second = then.second ∙ of.second }

-- ---- one comparison

pub no_method : (old new : Interface) (name : Bytes) (part : Part) (input output : Body) (told : Bytes) → part ≡ Method input output → method_named name new ≡ None → told ≡ name
    → ToldBad (comparisons_of_method old new name part) (NoMethod told)
no_method old new name part input output told is gone same =
    subst (λ (p : Part). ToldBad (comparisons_of_method old new name p) (NoMethod told)) (sym is)
    (subst (λ (found : Option (Body × Body)). ToldBad (method_comparisons old new name input output found) (NoMethod told)) (sym gone)
    (record { front = []; bad = has_method name None; back = []; order = refl; before = tt; told = same }))

pub input_differs : (old new : Interface) (name : Bytes) (part : Part) (input output : Body) (found : Body × Body) (path : List Bytes) → part ≡ Method input output → method_named name new ≡ Some found
    → leads_to_failure (old, new) path (Some (bodies input found.0)) ≡ true → ToldBad (comparisons_of_method old new name part) (Differs name Input path)
input_differs old new name part input output found path is there leads =
    subst (λ (p : Part). ToldBad (comparisons_of_method old new name p) (Differs name Input path)) (sym is)
    (subst (λ (f : Option (Body × Body)). ToldBad (method_comparisons old new name input output f) (Differs name Input path)) (sym there)
    (record {
      front = has_method name (Some found) ∷ [];
      bad = of_bodies name Input (old, new) input found.0;
      back = of_bodies name Output (new, old) found.1 output ∷ [];
      order = refl;
      before = (tt, tt);
      told = (refl, refl, leads);
    }))

pub output_differs : (old new : Interface) (name : Bytes) (part : Part) (input output : Body) (found : Body × Body) (path : List Bytes) → part ≡ Method input output → method_named name new ≡ Some found
    → Within (old, new) (bodies input found.0) → leads_to_failure (new, old) path (Some (bodies found.1 output)) ≡ true → ToldBad (comparisons_of_method old new name part) (Differs name Output path)
output_differs old new name part input output found path is there within leads =
    subst (λ (p : Part). ToldBad (comparisons_of_method old new name p) (Differs name Output path)) (sym is)
    (subst (λ (f : Option (Body × Body)). ToldBad (method_comparisons old new name input output f) (Differs name Output path)) (sym there)
    (record {
      front = has_method name (Some found) ∷ of_bodies name Input (old, new) input found.0 ∷ [];
      bad = of_bodies name Output (new, old) found.1 output;
      back = [];
      order = refl;
      before = (tt, (within, tt));
      told = (refl, refl, leads);
    }))

pub error_differs : (old new : Interface) (name : Bytes) (part : Part) (body found : Body) (path : List Bytes) → part ≡ Fault body → error_named name new ≡ Some found
    → leads_to_failure (new, old) path (Some (bodies found body)) ≡ true → ToldBad (comparisons_of_error old new name part) (Differs name Error path)
error_differs old new name part body found path is there leads =
    subst (λ (p : Part). ToldBad (comparisons_of_error old new name p) (Differs name Error path)) (sym is)
    (subst (λ (f : Option Body). ToldBad (error_comparisons old new name body f) (Differs name Error path)) (sym there)
    (record { front = []; bad = of_bodies name Error (new, old) found body; back = []; order = refl; before = tt; told = (refl, refl, leads) }))

-- what is told by `differs`
pub differs_ok : {E : Type 0} (r : Result (Option Verdict) E) (verdict : Verdict) (cs : List Comparison) → IfOk r (λ found. found ≡ Some verdict) → ToldBad cs verdict → IfOk r (Compared cs)
differs_ok (Ok found) verdict cs is bad = subst (Compared cs) (sym is) bad
differs_ok (Err e) verdict cs is bad = tt

-- ---- the whole

all_together : (old new : Interface) → AllHold (of_methods old new old.members) → AllHold (of_errors old new old.members) → AllHold (comparisons old new)
all_together old new one other = hold_both (of_methods old new old.members) (of_errors old new old.members) one other

pub may_replace : (old new : Interface) → old.name ≡ new.name → AllHold (of_methods old new old.members) → AllHold (of_errors old new old.members) → MayReplace old new
may_replace old new same one other = (same, all_together old new one other)

no_compatible : (comparison : Comparison) → TellsBad comparison Compatible → ⊥
no_compatible (has_method name None) h = h
no_compatible (has_method name (Some found)) h = h
no_compatible (of_bodies member side scopes body reads) h = h

no_other : (comparison : Comparison) → TellsBad comparison OtherName → ⊥
no_other (has_method name None) h = h
no_other (has_method name (Some found)) h = h
no_other (of_bodies member side scopes body reads) h = h

first_bad : (old new : Interface) (verdict : Verdict) (told : ToldBad (comparisons old new) verdict) (bad : Comparison) → told.bad ≡ bad → FirstBad old new bad
first_bad old new verdict told bad is = record {
  front = told.front;
  back = told.back;
  order = told.order ∙ ap (λ (c : Comparison). told.front ++ c ∷ told.back) is;
  before = told.before;
}

gone_first : (old new : Interface) (name : Bytes) (told : ToldBad (comparisons old new) (NoMethod name)) (bad : Comparison) → told.bad ≡ bad → TellsBad bad (NoMethod name)
    → FirstBad old new (has_method name None)
gone_first old new name told (has_method other None) is same =
    first_bad old new (NoMethod name) told (has_method name None) (is ∙ ap (λ (n : Bytes). has_method n None) (sym same))
gone_first old new name told (has_method other (Some found)) is h = absurd h
gone_first old new name told (of_bodies member side scopes body reads) is h = absurd h

differs_first : (old new : Interface) (member : Bytes) (side : Side) (path : List Bytes) (told : ToldBad (comparisons old new) (Differs member side path)) (bad : Comparison) → told.bad ≡ bad
    → TellsBad bad (Differs member side path) → DiffersFirst old new member side path
differs_first old new member side path told (has_method other None) is h = absurd h
differs_first old new member side path told (has_method other (Some found)) is h = absurd h
differs_first old new member side path told (of_bodies other on scopes body reads) is (same, at, leads) = record {
  scopes = scopes;
  body = body;
  reads = reads;
  first = first_bad old new (Differs member side path) told (of_bodies member side scopes body reads)
      (is ∙ (λ i. of_bodies (sym same i) (sym at i) scopes body reads));
  leads = leads;
}

-- what is told of a list of comparisons is told of two definitions that have that list
tells_by : (old new : Interface) (verdict : Verdict) → old.name ≡ new.name → ToldBad (comparisons old new) verdict → Tells old new verdict
tells_by old new Compatible same bad = absurd (no_compatible bad.bad bad.told)
tells_by old new OtherName same bad = absurd (no_other bad.bad bad.told)
tells_by old new (NoMethod name) same bad = (same, gone_first old new name bad bad.bad refl bad.told)
tells_by old new (Differs member side path) same bad = (same, differs_first old new member side path bad bad.bad refl bad.told)

-- of the methods, and of the errors where all methods come out well
pub methods_tell : (old new : Interface) (verdict : Verdict) → old.name ≡ new.name → ToldBad (of_methods old new old.members) verdict → Tells old new verdict
methods_tell old new verdict same bad =
    tells_by old new verdict same (told_within [] (of_methods old new old.members) (of_errors old new old.members) (comparisons old new) verdict refl tt bad)

pub errors_tell : (old new : Interface) (verdict : Verdict) → old.name ≡ new.name → AllHold (of_methods old new old.members) → ToldBad (of_errors old new old.members) verdict → Tells old new verdict
errors_tell old new verdict same before bad =
    tells_by old new verdict same
    (told_within (of_methods old new old.members) (of_errors old new old.members) [] (comparisons old new) verdict
    (ap (λ (cs : List Comparison). of_methods old new old.members ++ cs) (sym (append-nil (of_errors old new old.members)))) before bad)

-- ---- compatible exactly where all comparisons come out well

one_of : (front back : List Comparison) (bad : Comparison) → AllHold (front ++ bad ∷ back) → Holds bad
one_of [] back bad (here, later) = here
one_of (comparison ∷ front) back bad (here, later) = one_of front back bad later

bad_stays : (old new : Interface) (bad : Comparison) → FirstBad old new bad → AllHold (comparisons old new) → Holds bad
bad_stays old new bad first all = one_of first.front first.back bad (subst AllHold first.order all)

not_both : (scopes : Scopes) (pair : Pair) (path : List Bytes) → Within scopes pair → leads_to_failure scopes path (Some pair) ≡ true → ⊥
not_both scopes pair path within leads = let no : true ≡ false = sym leads ∙ within path in absurd (cc)

pub compatible_where : (old new : Interface) (verdict : Verdict) → Tells old new verdict → (verdict ≡ Compatible) ↔ MayReplace old new
compatible_where old new Compatible tells = (λ is. tells, λ may. refl)
compatible_where old new OtherName tells = (λ is. absurd (cc), λ may. absurd (tells may.0))
compatible_where old new (NoMethod name) tells = (λ is. absurd (cc), λ may. absurd (bad_stays old new (has_method name None) tells.1 may.1))
compatible_where old new (Differs member side path) tells = (
  λ is. absurd (cc),
  λ may. absurd (not_both tells.1.scopes (bodies tells.1.body tells.1.reads) path
      (bad_stays old new (of_bodies member side tells.1.scopes tells.1.body tells.1.reads) tells.1.first may.1) tells.1.leads),
)

pub in_scopes : (path : List Bytes) (body reads : Body) (scopes others : Scopes) → scopes ≡ others → leads_to_failure scopes path (Some (bodies body reads)) ≡ true
    → leads_to_failure others path (Some (bodies body reads)) ≡ true
in_scopes path body reads scopes others same h = subst (λ (s : Scopes). leads_to_failure s path (Some (bodies body reads)) ≡ true) same h

-- ---- names

not_false : (b : Bool) → not b ≡ false → b ≡ true
not_false true h = refl
not_false false h = sym h

pub same_name : (one other : Bytes) (differ : Bool) → differ ≡ not (bytes_eq one other) → differ ≡ false → one ≡ other
same_name one other differ is h = (bytes_eq-Decides one other).0 (not_false (bytes_eq one other) (sym is ∙ h))

pub other_name : (one other : Bytes) (differ : Bool) → differ ≡ not (bytes_eq one other) → differ ≡ true → one ≡ other → ⊥
other_name one other differ is h same =
    let no : false ≡ true = sym (ap not ((bytes_eq-Decides one other).1 same)) ∙ sym is ∙ h in absurd (cc)
