use Rattle.std.proofs.Common.{◌≡◌, true, length, subst}
use Rattle.std.specs.List.{list_all}
use Rattle.sheet_form.specs.RulePlaces.{is_within}
use Rattle.sheet_form.specs.declared.sheets.Contents.{Contents}
use Rattle.sheet_form.proofs.RulesTyped.{all_within}
use Rattle.sheet_form.proofs.sheets.Sheet.rules.Goals as goal

pub returns-clause-placed : goal.returns-clause-placed
returns-clause-placed c =
    let inside = c.self.inside.contents in
    subst (λ (sheet : Contents). list_all (is_within (length sheet.interfaces)) sheet.rules ≡ true) c.self.view_is
    (all_within inside.interfaces inside.registers inside.rules c.self.invariant.1.typed)
