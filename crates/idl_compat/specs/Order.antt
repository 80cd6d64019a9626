-- What is compared of two definitions, in which order, and what a verdict tells of it.
use Rattle.std.specs.Prelude.{◌≡◌, true, List, [], ◌∷◌, ◌++◌, Option, Some, None}
use Rattle.idl_tree.specs.Names.{Bytes}
use Rattle.idl_tree.specs.Faults.{method_named, error_named}
use Rattle.idl_tree.specs.declared.trees.Interface.{Interface}
use Rattle.idl_tree.specs.declared.trees.Member.{Member}
use Rattle.idl_tree.specs.declared.trees.Part.{Part}
use Rattle.idl_tree.specs.declared.trees.Part.TheVariants.{Method, Fault}
use Rattle.idl_tree.specs.declared.trees.Body.{Body}
use Rattle.idl_compat.specs.Within.{Scopes, Within, bodies, leads_to_failure}
use Rattle.idl_compat.specs.declared.verdicts.Side.{Side}
use Rattle.idl_compat.specs.declared.verdicts.Side.TheVariants.{Input, Output, Error}
use Rattle.idl_compat.specs.declared.verdicts.Verdict.{Verdict}
use Rattle.idl_compat.specs.declared.verdicts.Verdict.TheVariants.{Compatible, OtherName, NoMethod, Differs}

-- one comparison: that a method is still there, or a pair of bodies of a member
pub data Comparison : Type 0 where
  has_method : Bytes → Option (Body × Body) → Comparison
  of_bodies : Bytes → Side → Scopes → Body → Body → Comparison

-- it comes out well
abbrev pub Holds : Comparison → Type 0
Holds (has_method name None) = ⊥
Holds (has_method name (Some found)) = Unit {0}
Holds (of_bodies member side scopes body reads) = Within scopes (bodies body reads)

abbrev pub AllHold : List Comparison → Type 0
AllHold [] = Unit {0}
AllHold (comparison ∷ rest) = Holds comparison × AllHold rest

-- a method of the old definition and that of its name in the new one: what the old callers send is read by the new
-- service, and what the new service replies is read by the old callers
abbrev pub method_comparisons : Interface → Interface → Bytes → Body → Body → Option (Body × Body) → List Comparison
method_comparisons old new name input output None = has_method name None ∷ []
method_comparisons old new name input output (Some found) =
    has_method name (Some found) ∷ of_bodies name Input (old, new) input found.0
    ∷ of_bodies name Output (new, old) found.1 output ∷ []

-- an error of both: what the new service tells is read by the old callers; one that only the old has is no difference
abbrev pub error_comparisons : Interface → Interface → Bytes → Body → Option Body → List Comparison
error_comparisons old new name body None = []
error_comparisons old new name body (Some found) = of_bodies name Error (new, old) found body ∷ []

abbrev pub comparisons_of_method : Interface → Interface → Bytes → Part → List Comparison
comparisons_of_method old new name (Method input output) =
    method_comparisons old new name input output (method_named name new)
comparisons_of_method old new name part = []

abbrev pub comparisons_of_error : Interface → Interface → Bytes → Part → List Comparison
comparisons_of_error old new name (Fault body) = error_comparisons old new name body (error_named name new)
comparisons_of_error old new name part = []

abbrev pub of_methods : Interface → Interface → List Member → List Comparison
of_methods old new [] = []
of_methods old new (member ∷ members) = comparisons_of_method old new member.name member.part ++ of_methods old new members

abbrev pub of_errors : Interface → Interface → List Member → List Comparison
of_errors old new [] = []
of_errors old new (member ∷ members) = comparisons_of_error old new member.name member.part ++ of_errors old new members

-- all of them: the old definition's methods in order, then its errors in order
abbrev pub comparisons : Interface → Interface → List Comparison
comparisons old new = of_methods old new old.members ++ of_errors old new old.members

-- what tells of a comparison that it doesn't come out well
abbrev pub TellsBad : Comparison → Verdict → Type 0
TellsBad (has_method name None) (NoMethod told) = told ≡ name
TellsBad (of_bodies member side scopes body reads) (Differs told on path) =
    (told ≡ member) × (on ≡ side) × (leads_to_failure scopes path (Some (bodies body reads)) ≡ true)
TellsBad comparison verdict = ⊥

-- of these comparisons all come out well, or the first that doesn't is told
pub record ToldBad (comparisons : List Comparison) (verdict : Verdict) : Type 0 where
  pub front : List Comparison
  pub bad : Comparison
  pub back : List Comparison
  pub order : comparisons ≡ front ++ bad ∷ back
  pub before : AllHold front
  pub told : TellsBad bad verdict

abbrev pub Compared : List Comparison → Option Verdict → Type 0
Compared comparisons None = AllHold comparisons
Compared comparisons (Some verdict) = ToldBad comparisons verdict

-- the names are equal and every comparison comes out well
abbrev pub MayReplace : Interface → Interface → Type 0
MayReplace old new = (old.name ≡ new.name) × AllHold (comparisons old new)

-- the first comparison that doesn't come out well is that one
pub record FirstBad (old new : Interface) (bad : Comparison) : Type 0 where
  pub front : List Comparison
  pub back : List Comparison
  pub order : comparisons old new ≡ front ++ bad ∷ back
  pub before : AllHold front

-- and the words lead from its pair to one that fails
pub record DiffersFirst (old new : Interface) (member : Bytes) (side : Side) (path : List Bytes) : Type 0 where
  pub scopes : Scopes
  pub body : Body
  pub reads : Body
  pub first : FirstBad old new (of_bodies member side scopes body reads)
  pub leads : leads_to_failure scopes path (Some (bodies body reads)) ≡ true

-- what a verdict tells
abbrev pub Tells : Interface → Interface → Verdict → Type 0
Tells old new Compatible = MayReplace old new
Tells old new OtherName = old.name ≡ new.name → ⊥
Tells old new (NoMethod name) = (old.name ≡ new.name) × FirstBad old new (has_method name None)
Tells old new (Differs member side path) = (old.name ≡ new.name) × DiffersFirst old new member side path
