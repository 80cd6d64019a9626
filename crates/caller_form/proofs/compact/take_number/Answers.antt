use Rattle.std.proofs.Common.{◌≡◌, ◌++◌, length, true, is_some, arith, rules}
use Rattle.json.specs.Print.{IsNumber}
use Rattle.serde_json.specs.Read.{number_of}
use Rattle.caller_form.proofs.CompactLemmas.{number_takes, number_some}
use Rattle.caller_form.proofs.compact.take_number.Goals as goal

pub returns-then-is_in_range-clause-taken : goal.returns-then-is_in_range-clause-taken
returns-then-is_in_range-clause-taken c =
    let number = c.in_ok-number.number.now in
    let front : c.args.text.now ≡ number ++ c.split_at.result.1.now = grind (arith, c.split_at.ensures.by_index.0) in
    let is : IsNumber number = search rules in
    let ranged : is_some (number_of number) ≡ true = search rules in
    number_takes c.args.text.now number c.split_at.result.1.now front is ranged

pub returns-then-is_in_range-clause-shorter : goal.returns-then-is_in_range-clause-shorter
returns-then-is_in_range-clause-shorter c =
    let number = c.in_ok-number.number.now in
    let is : IsNumber number = search rules in
    let some = number_some number is in
    let same : length number ≡ length c.split_at.result.0.now = grind arith in
    omega (arith, some, same, c.split_at.ensures.back_len, c.split_at.ensures.front_len)
