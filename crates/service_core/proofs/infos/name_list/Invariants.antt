use Rattle.std.proofs.Common.{◌≡◌, ◌∷◌, map, take}
use Rattle.serde_json.specs.View.{view}
use Rattle.serde_json.specs.Data.{string}
use Rattle.sheet_form.specs.Interfaces.{names_of}
use Rattle.service_core.specs.Descriptions.{service_name}
use Rattle.service_core.proofs.infos.name_list.Given as goal

abbrev pub invariant-loop-interface : goal.invariant-loop-interface
invariant-loop-interface l = map view l.list ≡ map string (service_name ∷ names_of (take l.interface-index l.interfaces))
