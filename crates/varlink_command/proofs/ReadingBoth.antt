-- Two files are read, and then what they hold.
use Rattle.std.proofs.Common.{◌≡◌, ℕ, List, [], ◌∷◌, ◌++◌, Option, Some, None, Result, Ok, Err, refl, ap, ◌∙◌, subst, inl}
use Rattle.std.specs.Prelude.{IfSome}
use Rattle.idl_tree.specs.declared.trees.Interface.{Interface}
use Rattle.varlink_command.specs.declared.faults.Fault.{Fault}
use Rattle.varlink_command.specs.declared.faults.Fault.TheVariants as fault
use Rattle.varlink_command.specs.Definitions.{definition_limit, Holds}
use Rattle.varlink_command.specs.Comparing.{AsksBoth, ReadTexts, ReadsBoth}

pub reads-both : (old new : Option (List ℕ)) (old_text new_text : List ℕ) (read : Result (Interface × Interface) Fault)
    → Holds definition_limit old old_text → Holds definition_limit new new_text → ReadTexts old_text new_text read → ReadsBoth old new read
reads-both old new old_text new_text (Ok trees) a b are =
    record { old_text = old_text; new_text = new_text; old_holds = a; new_holds = b; are = are }
reads-both old new old_text new_text (Err (fault.NoDefinition why)) a b are =
    record { old_text = old_text; new_text = new_text; old_holds = a; new_holds = b; are = are }
reads-both old new old_text new_text (Err fault.Memory) a b are = tt
reads-both old new old_text new_text (Err fault.BadWords) a b are = absurd are
reads-both old new old_text new_text (Err (fault.Unreadable file)) a b are = absurd are
reads-both old new old_text new_text (Err (fault.PastLimit file)) a b are = absurd are
reads-both old new old_text new_text (Err (fault.NoSheet why)) a b are = absurd are
reads-both old new old_text new_text (Err fault.NoWork) a b are = absurd are
reads-both old new old_text new_text (Err (fault.Incompatible line)) a b are = absurd are
reads-both old new old_text new_text (Err (fault.Cut bytes)) a b are = absurd are
reads-both old new old_text new_text (Err (fault.NotCall index)) a b are = absurd are
reads-both old new old_text new_text (Err (fault.TooLong index)) a b are = absurd are
reads-both old new old_text new_text (Err fault.ReadFault) a b are = absurd are
reads-both old new old_text new_text (Err fault.WriteFault) a b are = absurd are
reads-both old new old_text new_text (Err fault.Long) a b are = absurd are

joined : (ps qs rs : List (List ℕ)) → (ps ++ qs) ++ rs ≡ ps ++ (qs ++ rs)
joined [] qs rs = refl
joined (p ∷ ps) qs rs = ap (λ (all : List (List ℕ)). p ∷ all) (joined ps qs rs)

pub asks-both : (before between now : Option (List (List ℕ))) (old new : List ℕ) → IfSome before (λ paths. between ≡ Some (paths ++ old ∷ []))
    → IfSome between (λ paths. now ≡ Some (paths ++ new ∷ [])) → AsksBoth before now old new
asks-both None between now old new a b = tt
asks-both (Some paths) between now old new a b =
    let later : now ≡ Some ((paths ++ old ∷ []) ++ new ∷ []) =
    subst (λ (seen : Option (List (List ℕ))). IfSome seen (λ ps. now ≡ Some (ps ++ new ∷ []))) a b in
    inl (later ∙ ap (λ (all : List (List ℕ)). Some all) (joined paths (old ∷ []) (new ∷ [])))
