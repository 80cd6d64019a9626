use Rattle.std.proofs.Common.{◌≢◌, get_or, sym, ◌∙◌, true≢false, lit<, lit≤}
use Rattle.std.proofs.lemmas.Str.Pattern.{starts_char}
use Rattle.link_doors.proofs.AddressParts.{port_begins, port_read, port_refused}
use Rattle.link_doors.proofs.addresses.port_number.Goals as goal
use Rattle.link_doors.proofs.addresses.port_number.Goals.{then-starts_with-via-then-starts_with, then-starts_with-via-else-starts_with+then-starts_with-2}

pub returns-then-starts_with : goal.returns-then-starts_with
returns-then-starts_with c = elim c.then-starts_with.branch [
  | then-starts_with-via-then-starts_with w ↦
      sym (port_begins c.args.port.now 43 (lit≤ tt) ((starts_char 43 c.args.port.now _ c.starts_with.ensures.cases (lit< tt) (lit< tt)).0 w.if-starts_with.true))
  | then-starts_with-via-else-starts_with+then-starts_with-2 w ↦
      sym (port_begins c.args.port.now 48 (lit≤ tt) ((starts_char 48 c.args.port.now _ w.starts_with-else-starts_with.ensures.cases (lit< tt) (lit< tt)).0 w.if-starts_with-2.true))
]

pub returns-in-Ok : goal.returns-in-Ok
returns-in-Ok c =
    let plus : get_or c.args.port.now 0 0 ≢ 43 = λ e.
    true≢false (sym ((starts_char 43 c.args.port.now _ c.starts_with.ensures.cases (lit< tt) (lit< tt)).1 e) ∙ c.if-starts_with.false) in
    let zero : get_or c.args.port.now 0 0 ≢ 48 = λ e.
    true≢false (sym ((starts_char 48 c.args.port.now _ c.starts_with-else-starts_with.ensures.cases (lit< tt) (lit< tt)).1 e) ∙ c.if-starts_with-2.false) in
    sym (port_read c.args.port.now c.in-Ok.port plus zero c.in-Ok.ensures.value.0)

pub returns-in-Err : goal.returns-in-Err
returns-in-Err c =
    let plus : get_or c.args.port.now 0 0 ≢ 43 = λ e.
    true≢false (sym ((starts_char 43 c.args.port.now _ c.starts_with.ensures.cases (lit< tt) (lit< tt)).1 e) ∙ c.if-starts_with.false) in
    sym (port_refused c.args.port.now plus c.in-Err.ensures.value.0)
