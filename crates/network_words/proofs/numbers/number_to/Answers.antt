use Rattle.std.proofs.Common.{◌≢◌, ◌<◌, ◌^◌, get_or, sym, ◌∙◌, true≢false, lit<, lit≤, arith}
use Rattle.std.proofs.lemmas.Str.Pattern.{starts_char}
use Rattle.network_words.proofs.NumberTexts.{begins, is_read, is_refused}
use Rattle.network_words.proofs.numbers.number_to.Goals as goal
use Rattle.network_words.proofs.numbers.number_to.Goals.{then-starts_with-via-then-starts_with, then-starts_with-via-else-starts_with+then-starts_with-2}

pub returns-then-starts_with-clause-is : goal.returns-then-starts_with-clause-is
returns-then-starts_with-clause-is c = elim c.then-starts_with.branch [
  | then-starts_with-via-then-starts_with w ↦
      sym (begins c.args.most c.args.text.now 43 (omega arith) (lit≤ tt) ((starts_char 43 c.args.text.now _ c.starts_with.ensures.cases (lit< tt) (lit< tt)).0 w.if-starts_with.true))
  | then-starts_with-via-else-starts_with+then-starts_with-2 w ↦
      sym (begins c.args.most c.args.text.now 48 (omega arith) (lit≤ tt) ((starts_char 48 c.args.text.now _ w.starts_with-else-starts_with.ensures.cases (lit< tt) (lit< tt)).0 w.if-starts_with-2.true))
]

pub returns-in-Ok-clause-is : goal.returns-in-Ok-clause-is
returns-in-Ok-clause-is c =
    let plus : get_or c.args.text.now 0 0 ≢ 43 = λ e.
    true≢false (sym ((starts_char 43 c.args.text.now _ c.starts_with.ensures.cases (lit< tt) (lit< tt)).1 e) ∙ c.if-starts_with.false) in
    let zero : get_or c.args.text.now 0 0 ≢ 48 = λ e.
    true≢false (sym ((starts_char 48 c.args.text.now _ c.starts_with-else-starts_with.ensures.cases (lit< tt) (lit< tt)).1 e) ∙ c.if-starts_with-2.false) in
    c.up_to.ensures.is ∙ sym (is_read c.args.most c.args.text.now c.in-Ok.number plus zero c.in-Ok.ensures.value.0)

pub returns-in-Err-clause-is : goal.returns-in-Err-clause-is
returns-in-Err-clause-is c =
    let plus : get_or c.args.text.now 0 0 ≢ 43 = λ e.
    true≢false (sym ((starts_char 43 c.args.text.now _ c.starts_with.ensures.cases (lit< tt) (lit< tt)).1 e) ∙ c.if-starts_with.false) in
    sym (is_refused c.args.most c.args.text.now (omega arith) plus c.in-Err.ensures.value.0)
