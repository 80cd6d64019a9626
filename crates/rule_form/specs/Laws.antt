-- What is formed is typed, and the test for `float` is right.
use Rattle.std.specs.Prelude.{◌≡◌, ◌↔◌, IsTrue, true, List, Ok}
use Rattle.idl_tree.specs.Floats.{BodyReaches}
use Rattle.idl_tree.specs.declared.trees.Interface.{Interface}
use Rattle.idl_tree.specs.declared.trees.Body.{Body}
use Rattle.sheet_rules.specs.Rules as rules
use Rattle.sheet_rules.specs.declared.forms.Register.{Register}
use Rattle.sheet_rules.specs.declared.forms.Rule.{Rule}
use Rattle.sheet_draft.specs.declared.drafts.RuleDraft.{RuleDraft}
use Rattle.rule_form.specs.Floats.{reaches_float, rule_has_no_float}
use Rattle.rule_form.specs.Rules.{rule_formed, has_one_way}

-- a rule that is formed is typed
abbrev pub FormedIsTyped : Type 0
FormedIsTyped = (interfaces : List Interface) (registers : List Register) (draft : RuleDraft) (rule : Rule)
    → rule_formed interfaces registers draft ≡ Ok rule → rules.rule_is_typed interfaces registers rule ≡ true

-- its branches have conditions where those of its draft have them
abbrev pub FormedHasOneWay : Type 0
FormedHasOneWay = (interfaces : List Interface) (registers : List Register) (draft : RuleDraft) (rule : Rule)
    → rule_formed interfaces registers draft ≡ Ok rule → rules.has_one_way rule.branches ≡ has_one_way draft.branches

-- neither its method reaches `float`, nor an error that it tells
abbrev pub FormedHasNoFloat : Type 0
FormedHasNoFloat = (interfaces : List Interface) (registers : List Register) (draft : RuleDraft) (rule : Rule)
    → rule_formed interfaces registers draft ≡ Ok rule → rule_has_no_float interfaces registers rule ≡ true

-- the test for `float` tells whether it is reached in finitely many steps
abbrev pub FloatsAreTold : Type 0
FloatsAreTold = (scope : Interface) (body : Body) → IsTrue (reaches_float scope body) ↔ BodyReaches scope body
