use Rattle.std.proofs.Common.{arith, get_or}
use Rattle.std.proofs.lemmas.Option.{slice_get-get_or}
use Rattle.idl_compat.proofs.Visiting.{same_length, target_or, get_or_itself}
use Rattle.idl_compat.proofs.looks.target_at.Goals as goal

pub bounds-given-i-2 : goal.bounds-given-i-2
bounds-given-i-2 c = omega (arith, c.requires.within, same_length c.args.from.now.scope.now c.args.from.now.inner.items c.args.given.now.targets.now c.args.given.now.fields.now c.requires.given)

pub returns-clause-field : goal.returns-clause-field
returns-clause-field c = slice_get-get_or c.args.given.now.fields.now c.args.i c.index-given-i.result c.requires.within

pub returns-clause-target : goal.returns-clause-target
returns-clause-target c =
    target_or c.args.from.now.scope.now c.args.from.now.inner.items c.args.given.now.targets.now c.args.given.now.fields.now c.args.i
    (get_or c.args.given.now.fields.now c.args.i c.index-given-i.result) c.requires.given c.requires.within
    (get_or_itself c.args.given.now.fields.now c.args.i c.index-given-i.result c.requires.within)
