use Rattle.idl_compat.proofs.Numbering.{on_ok, rows_along}
use Rattle.idl_compat.proofs.numbers.Table.number.Goals as goal

pub returns-clause-table : goal.returns-clause-table
returns-clause-table c = on_ok c.number.result (λ grown. record {
  rows = rows_along c.args.self.now.scope.now c.args.self.now.inner.items c.number.new.inner.items c.args.self.now.named.items c.args.self.now.scope.now.members grown c.requires.rows;
  told = grown.told;
}) c.number.ensures.grown
