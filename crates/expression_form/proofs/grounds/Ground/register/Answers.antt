use Rattle.std.proofs.Common.{sym, ◌∙◌}
use Rattle.std.specs.Str.{bytes_eq}
use Rattle.std.proofs.lemmas.Iterator.Adapters.{position_from-zero}
use Rattle.sheet_rules.specs.declared.forms.Register.{Register}
use Rattle.expression_form.proofs.grounds.Ground.register.Goals as goal

pub returns : goal.returns
returns c =
    c.place.ensures ∙ c.args.self.now.finds c.args.name.now
    ∙ sym (position_from-zero (λ (register : Register). bytes_eq register.name c.args.name.now) c.args.self.now.standing.registers.now)
