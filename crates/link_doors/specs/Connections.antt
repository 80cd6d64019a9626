-- Connections in memory.
use Rattle.std.specs.Prelude.{◌≡◌, false, List, [], ◌∷◌, ⊤}
use Rattle.link_port.specs.InMemory.{SourceInMemory, SinkInMemory}

-- a connection in memory: a source and a sink
pub record ConnInMemory : Type 0 where
  pub source : SourceInMemory
  pub sink : SinkInMemory

-- nothing was written on it, and no call of it failed
abbrev pub IsNewInMemory : ConnInMemory → Type 0
IsNewInMemory conn = (conn.sink.written ≡ []) × (conn.source.calls.faults ≡ 0) × (conn.sink.calls.faults ≡ 0) × (conn.sink.finished ≡ false)

abbrev pub AreNew : List ConnInMemory → Type 0
AreNew [] = ⊤
AreNew (conn ∷ conns) = IsNewInMemory conn × AreNew conns
