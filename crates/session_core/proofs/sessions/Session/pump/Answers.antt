use Rattle.std.proofs.Common.{rules}
use Rattle.session_core.proofs.WriteLemmas.{AppendsFront-part}
use Rattle.session_core.proofs.sessions.Session.pump.Goals as goal

pub returns-in-Err-clause-part : goal.returns-in-Err-clause-part
returns-in-Err-clause-part g c = AppendsFront-part _ _ c.in-Err.field-0.written _ _ (search rules) c.in-Err.ensures.short
