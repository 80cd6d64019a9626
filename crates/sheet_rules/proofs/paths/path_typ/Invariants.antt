use Rattle.std.proofs.Common.{◌≡◌, drop}
use Rattle.sheet_rules.specs.Settings.{path_typ}
use Rattle.sheet_rules.specs.Views.{typ_of}
use Rattle.sheet_rules.proofs.paths.path_typ.Given as goal

abbrev pub invariant-loop-place : goal.invariant-loop-place
invariant-loop-place l =
    path_typ l.interfaces (drop l.place-index l.path) (typ_of l.at) ≡ path_typ l.interfaces l.path (typ_of l.from)
