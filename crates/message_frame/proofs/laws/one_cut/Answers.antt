use Rattle.message_frame.proofs.PieceLemmas.{ArePieces-pieces, ArePieces-only}
use Rattle.message_frame.proofs.laws.one_cut.Goals as goal

pub returns : goal.returns
returns c = λ bytes. (ArePieces-pieces bytes, ArePieces-only bytes)
