-- Sets that keep their order may go to another thread, and be shared.
use denote.RattleType.{RattleType}
use denote.Param.Send.{IsSend, IsSync, sendable}
use Rattle.std.specs.declared.cmp.PartialEq as eq
use Rattle.std.specs.declared.hash.Hash as hash
use Rattle.std.specs.declared.hash.Hasher as hasher
use Rattle.std.specs.declared.hash.BuildHasher as builder
use Rattle.std.proofs.Crossing.{crosses}
use Rattle.std.specs.contracts.alloc.Global as Heap
use Rattle.std.specs.contracts.impls.GlobalAllocator.TheImpl.{ghosts}
use Rattle.indexmap.specs.contracts.columns.Columns as columns
use Rattle.indexmap.specs.contracts.index_table.IndexTable as table
use Rattle.indexmap.specs.contracts.map.IndexMap as map
use Rattle.indexmap.specs.contracts.set.IndexSet as set

table_send : IsSend (table.the_field Heap.the_row ghosts).row
table_send = search (sendable, crosses) depth 20

table_sync : IsSync (table.the_field Heap.the_row ghosts).row
table_sync = search (sendable, crosses) depth 20

columns_send : (K V : RattleType) → IsSend K → IsSend V → IsSend (columns.the_field K V Heap.the_row ghosts).row
columns_send K V k v = search (sendable, crosses) depth 20

columns_sync : (K V : RattleType) → IsSync K → IsSync V → IsSync (columns.the_field K V Heap.the_row ghosts).row
columns_sync K V k v = search (sendable, crosses) depth 20

module _ (K V S T : RattleType) (e : eq.Ghosts K.Denot) (h : hash.Ghosts K.Denot) (b : builder.Ghosts S.Denot T.Denot) (w : hasher.Ghosts T.Denot) where
  map_send : IsSend K → IsSend V → IsSend S → IsSend (map.the_field K V S Heap.the_row T e h b w ghosts).row
  map_send k v s = let c = columns_send K V k v in search (sendable, table_send) depth 20

  map_sync : IsSync K → IsSync V → IsSync S → IsSync (map.the_field K V S Heap.the_row T e h b w ghosts).row
  map_sync k v s = let c = columns_sync K V k v in search (sendable, table_sync) depth 20

module _ (K S T : RattleType) (e : eq.Ghosts K.Denot) (h : hash.Ghosts K.Denot) (b : builder.Ghosts S.Denot T.Denot) (w : hasher.Ghosts T.Denot) where
  pub set_send : IsSend K → IsSend S → IsSend (set.the_field K S Heap.the_row T e h b w ghosts).row
  set_send k s = search (sendable, map_send) depth 20

  pub set_sync : IsSync K → IsSync S → IsSync (set.the_field K S Heap.the_row T e h b w ghosts).row
  set_sync k s = search (sendable, map_sync) depth 20
