use Rattle.std.proofs.lemmas.List.{take_rest}
use Rattle.message_frame.proofs.NulLemmas.{FindsNul-none, FindsNul-some}
use Rattle.message_frame.proofs.framing.first_nul.Goals as goal

pub returns-in_err-place : goal.returns-in_err-place
returns-in_err-place c =
    rw c.from_residual.ensures
    (FindsNul-none c.args.bytes.now _ c.args.searched _ c.requires.no_nul
    (take_rest c.args.bytes.now c.args.searched) c.in_err-place.was c.memchr.ensures)

pub returns : goal.returns
returns c =
    FindsNul-some c.args.bytes.now _ c.args.searched _ _ c.requires.within c.requires.no_nul
    (take_rest c.args.bytes.now c.args.searched) c.in_ok-place.was c.memchr.ensures
