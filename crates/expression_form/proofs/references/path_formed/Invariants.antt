use Rattle.std.proofs.Common.{◌≡◌, drop}
use Rattle.sheet_rules.specs.Views.{typ_of}
use Rattle.expression_form.specs.References.{path_formed}
use Rattle.expression_form.proofs.After.{path_after}
use Rattle.expression_form.proofs.references.path_formed.Given as goal

abbrev pub invariant-loop-name : goal.invariant-loop-name
invariant-loop-name l =
    path_after l.path (path_formed l.interfaces (drop l.name-index l.names) (typ_of l.at)) ≡ path_formed l.interfaces l.names (typ_of l.from)
