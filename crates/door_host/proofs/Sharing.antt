-- A worker, with its door and its seat, may go to another thread.
use denote.RattleType.{RattleType}
use denote.Ref.{NamedLft}
use mir.Syntax.{Ty}
use denote.Exit.{Kept}
use denote.Param.{arg, param}
use denote.Param.Send.{IsSend, IsSync, arg_send, param_send, sendable}
use Rattle.std.proofs.Crossing.{crosses}
use Rattle.std.proofs.MapsCrossing as maps
use Rattle.link_port.proofs.Sharing.{text_sync}
use Rattle.link_doors.specs.contracts.addresses.Address as address
use Rattle.resolver_core.specs.contracts.registries.Registry as registry
use Rattle.turn_desk.proofs.Sharing.{pass_send, desk_sync}
use Rattle.turn_desk.specs.declared.ledgers.Ledger as ledger
use Rattle.service_core.specs.contracts.requests.Request as request
use Rattle.service_desk.specs.contracts.seats.Seated as seated
use Rattle.door_host.specs.contracts.keepers.Keeper as keeper
use Rattle.service_desk.proofs.Sharing.{board_send, service_field_sync}

pub seated_send : (a : NamedLft) (L : RattleType) (h : ledger.Ghosts L.Denot request.the_row.Denot) → IsSend L → IsSend (seated.the_row a L h)
seated_send a L h l = search (sendable, pass_send, desk_sync, board_send, service_field_sync) depth 20

pub seated_field_send : (a : NamedLft) (L : RattleType) (h : ledger.Ghosts L.Denot request.the_row.Denot) → IsSend L → IsSend (seated.the_field a L h).row
seated_field_send a L h l = search (sendable, pass_send, desk_sync, board_send, service_field_sync) depth 20

address_sync : IsSync (address.the_field).row
address_sync = search (sendable, crosses, text_sync) depth 20

pub registry_sync : IsSync registry.the_row
registry_sync = search (sendable, crosses, maps.crosses, address_sync) depth 20

pub keeper_send : (a : NamedLft) (D L : RattleType) (h : ledger.Ghosts L.Denot request.the_row.Denot) → IsSend D → IsSend L → IsSend (keeper.the_row a D L h)
keeper_send a D L h d l = let s = seated_field_send a L h l in search (sendable, crosses) depth 20

-- so may a worker as threads take it
pub worker_send : (a : NamedLft) (D L : RattleType) (h : ledger.Ghosts L.Denot request.the_row.Denot) (δ : Ty) (k : Kept) → IsSend D → IsSend L → IsSend (param 1 (arg δ k (keeper.the_row a D L h)))
worker_send a D L h δ k d l = param_send 1 (arg δ k (keeper.the_row a D L h)) (arg_send δ k (keeper.the_row a D L h) (keeper_send a D L h d l))
