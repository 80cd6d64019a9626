use Rattle.std.proofs.Common.{true, ◌∙◌}
use Rattle.std.specs.BTreeSet.{contains_text}
use Rattle.std.specs.Str.{bytes_eq}
use Rattle.std.specs.String.{string_bytes}
use Rattle.std.proofs.lemmas.Map.Text.{btree_set_updates_text}
use Rattle.sheet_draft.proofs.NameSets.{cond_or}
use Rattle.sheet_draft.proofs.registers.add_name.Goals as goal
use Rattle.sheet_draft.proofs.registers.add_name.Goals.{in-Ok, in-Err}

pub returns : goal.returns
returns c =
    elim c.match-insert.branch [
      | in-Ok w ↦ rw w.result-is (λ q.
          let changed = btree_set_updates_text (string_bytes c.in_ok-name.name) c.args.names.now c.insert.new.self true w.in-Ok.ensures.updates q in
          rw c.in_ok-name.ensures.ok at changed ∙ cond_or (bytes_eq c.args.name.now q) (contains_text c.args.names.now q))
      | in-Err w ↦ rw w.result-is tt
    ]
