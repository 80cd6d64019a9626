use Rattle.std.proofs.Common.{◌≡◌, ◌++◌, length, take, drop, sym, ap, ◌∙◌, subst, arith}
use Rattle.std.proofs.lemmas.List.{take-append-drop}
use Rattle.std.proofs.lemmas.Slice.Eq.{bytes_eq-Decides}
use Rattle.caller_form.specs.Compact.{IsWord}
use Rattle.caller_form.proofs.CompactLemmas.{word_takes, word_some}
use Rattle.caller_form.proofs.compact.take_word.Goals as goal

pub returns-clause-taken : goal.returns-clause-taken
returns-clause-taken c =
    let text = c.args.text.now in
    let word = c.as_bytes.result.now in
    let starts = (bytes_eq-Decides (take (length word) text) word).0 c.in_ok-rest.ensures.cases.0 in
    let whole : text ≡ word ++ drop (length word) text = sym (take-append-drop (length word) text) ∙ ap (λ s. s ++ drop (length word) text) starts in
    let front = whole ∙ ap (λ s. word ++ s) (sym c.in_ok-rest.ensures.cases.1) in
    word_takes c.args.sort text word c.in_ok-rest.rest.now (subst (IsWord c.args.sort) (sym c.as_bytes.ensures.value) c.requires) front

pub returns-clause-shorter : goal.returns-clause-shorter
returns-clause-shorter c =
    let some = word_some c.args.sort c.args.word.now c.requires in
    let long = c.in_ok-rest.ensures.cases.2 in
    let same = c.as_bytes.ensures.len in
    omega (arith, some, long, same)
