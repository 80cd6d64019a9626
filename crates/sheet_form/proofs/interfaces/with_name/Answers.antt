use Rattle.sheet_form.proofs.Names.{key_added}
use Rattle.sheet_form.proofs.interfaces.with_name.Goals as goal
use Rattle.sheet_form.proofs.interfaces.with_name.Goals.{in-Ok, in-Err}

pub returns : goal.returns
returns c =
    elim c.match-insert.branch [
      | in-Ok w ↦ rw w.result-is (key_added c.args.names.keys c.insert.new.self.keys c.in_ok-name.name c.args.name.now c.requires c.in_ok-name.ensures.ok w.in-Ok.ensures.keys)
      | in-Err w ↦ rw w.result-is tt
    ]
