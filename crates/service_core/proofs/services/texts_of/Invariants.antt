use Rattle.std.proofs.Common.{◌≡◌, map, take}
use Rattle.std.specs.List.{AllByRecursion}
use Rattle.idl_rules.specs.Canon.{Canon}
use Rattle.service_core.specs.Served.{IsServed}
use Rattle.service_core.proofs.services.texts_of.Given as goal

abbrev pub invariant-loop-interface : goal.invariant-loop-interface
invariant-loop-interface l = record {
  texts : l.texts ≡ map Canon (take l.interface-index l.interfaces);
  served : AllByRecursion IsServed (take l.interface-index l.interfaces);
}
