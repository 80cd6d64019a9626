use Rattle.std.proofs.Common.{List, sym, subst}
use Rattle.idl_tree.specs.Names.{Bytes}
use Rattle.typed_value.specs.declared.vals.Val.{Val}
use Rattle.sheet_step.specs.Entries.{IsAt}
use Rattle.sheet_step.specs.Undoing.{TurnsEntries}
use Rattle.sheet_step.proofs.acts.put_in.Goals as goal

pub returns-in-At-clause-ok : goal.returns-in-At-clause-ok
returns-in-At-clause-ok c =
    let at : IsAt c.args.key c.args.vec.now.items c.in-At.place = rw (c.as_slice.ensures.value, c.as_str.ensures) at c.in-At.ensures in
    subst (λ (after : List (Bytes × Val)). TurnsEntries after c.args.vec.now.items c.replace_at.new.vec.items c.replace_at.result)
    (sym (at.with_it c.args.new)) (c.replace_at.ensures c.args.key at.here)
