use Rattle.std.proofs.Common.{◌≡◌, ◌-◌, ◌<◌, [], ◌∷◌, length, Some, None, refl, ap, ◌∙◌, arith}
use Rattle.json.specs.Token.{Token}
use Rattle.json.specs.Json.{after_end_array, read_key, value}
use Rattle.json.specs.Reads.{token_of}
use Rattle.json.proofs.Grammar.{left-parse_map, value_is, read_key-shorter}
use Rattle.serde_json.specs.Data.{null, boolean, string, item, no_members, put}
use Rattle.serde_json.specs.Read.{of_json, converted}
use Rattle.caller_form.proofs.TreeLemmas.{item_read, item_refused, items_over, member_read, member_refused, key_refused, members_over}
use Rattle.caller_form.specs.Kinds.{tree_at, behind}
use Rattle.caller_form.proofs.KindLemmas.{reads_number, refuses_number, reads_array, refuses_array, reads_object, refuses_object, refuses_deep_array, refuses_deep_object, refuses_end}
use Rattle.caller_form.proofs.kinds.+pass.Goals as goal

pub pass_items-items-preserved : goal.pass_items-items-preserved
pass_items-items-preserved t c =
    let p = value c.args.depth in
    let l = c.items in
    let n = l.invariant.0 in
    let r = c.pass_value.new.reader in
    let going : (after_end_array l.reader ≡ None) × (c.take_end_array.new.self ≡ l.reader) = grind arith in
    let tree = c.in_ok-pass_value.ensures.passed in
    let less : length r < length l.reader = rw (← going.1) c.in_ok-pass_value.ensures.shorter in
    let turn = item_read p n l.reader r tree.0 (omega (arith, l.invariant.1)) going.0 (rw (← going.1) tree.1) in
    (n - 1, omega (arith, l.invariant.1), l.invariant.2 ∙ ap behind turn ∙ left-parse_map (item tree.0) _, omega (arith, l.invariant.3))

pub pass_items-returns-in_err-pass_value-clause-passed : goal.pass_items-returns-in_err-pass_value-clause-passed
pass_items-returns-in_err-pass_value-clause-passed t c =
    let l = c.items in
    let going : (after_end_array l.reader ≡ None) × (c.take_end_array.new.self ≡ l.reader) = grind arith in
    let none = l.invariant.2 ∙ ap behind (item_refused (value c.args.depth) l.invariant.0 l.reader going.0 (rw (← going.1) c.in_err-pass_value.ensures.passed)) in
    grind (arith, none)

pub pass_items-returns-clause-passed : goal.pass_items-returns-clause-passed
pass_items-returns-clause-passed t c =
    let l = c.items in
    l.invariant.2 ∙ ap behind (items_over (value c.args.depth) l.invariant.0 l.reader c.take_end_array.new.self l.invariant.1 (grind arith))

pub pass_members-members-init : goal.pass_members-members-init
pass_members-members-init t c = (length c.args.reader.now, no_members, omega arith, refl, omega arith)

pub pass_members-returns-in_err-next_key-clause-passed : goal.pass_members-returns-in_err-next_key-clause-passed
pass_members-returns-in_err-next_key-clause-passed t c =
    let l = c.members in
    let none = l.invariant.3 ∙ ap behind (key_refused (value c.args.depth) l.invariant.1 l.invariant.0 l.reader c.in_err-next_key.ensures.value) in
    grind (arith, none)

pub pass_members-members-preserved : goal.pass_members-members-preserved
pass_members-members-preserved t c =
    let p = value c.args.depth in
    let l = c.members in
    let n = l.invariant.0 in
    let old = l.invariant.1 in
    let k = c.in-Some.field-0.now in
    let s = c.next_key.new.self in
    let r = c.pass_value.new.reader in
    let key : read_key l.reader ≡ Some (Some k, s) = grind arith in
    let tree = c.in_ok-pass_value.ensures.passed in
    let less = read_key-shorter l.reader (Some k) s key in
    let lesser = c.in_ok-pass_value.ensures.shorter in
    let turn = member_read p old n k l.reader s r tree.0 (omega (arith, l.invariant.2)) key tree.1 in
    (n - 1, put k tree.0 old, omega (arith, l.invariant.2), l.invariant.3 ∙ ap behind turn, omega (arith, l.invariant.4))

pub pass_members-returns-in_err-pass_value-clause-passed : goal.pass_members-returns-in_err-pass_value-clause-passed
pass_members-returns-in_err-pass_value-clause-passed t c =
    let l = c.members in
    let k = c.in-Some.field-0.now in
    let s = c.next_key.new.self in
    let key : read_key l.reader ≡ Some (Some k, s) = grind arith in
    let none = l.invariant.3 ∙ ap behind (member_refused (value c.args.depth) l.invariant.1 l.invariant.0 k l.reader s key c.in_err-pass_value.ensures.passed) in
    grind (arith, none)

pub pass_members-returns-clause-passed : goal.pass_members-returns-clause-passed
pass_members-returns-clause-passed t c =
    let l = c.members in
    l.invariant.3 ∙ ap behind (members_over (value c.args.depth) l.invariant.1 l.invariant.0 l.reader c.next_key.new.self l.invariant.2 (grind arith))

pub pass_token-returns-then-depth-eq0-clause-passed : goal.pass_token-returns-then-depth-eq0-clause-passed
pass_token-returns-then-depth-eq0-clause-passed t c =
    ap (λ k. tree_at c.args.depth (token_of k ∷ c.args.reader.now)) c.in-BeginArray.is ∙ refuses_deep_array c.args.depth c.args.reader.now (omega arith)

pub pass_token-returns-then-depth-eq0-2-clause-passed : goal.pass_token-returns-then-depth-eq0-2-clause-passed
pass_token-returns-then-depth-eq0-2-clause-passed t c =
    ap (λ k. tree_at c.args.depth (token_of k ∷ c.args.reader.now)) c.in-BeginObject.is ∙ refuses_deep_object c.args.depth c.args.reader.now (omega arith)

pub pass_token-returns-in_err-pass_items-in-BeginArray-clause-passed : goal.pass_token-returns-in_err-pass_items-in-BeginArray-clause-passed
pass_token-returns-in_err-pass_items-in-BeginArray-clause-passed t c =
    let none = ap (λ k. tree_at c.args.depth (token_of k ∷ c.args.reader.now)) c.in-BeginArray.is ∙ refuses_array c.args.depth c.args.reader.now (omega arith) c.in_err-pass_items-in-BeginArray.ensures.passed in
    grind (arith, none)

pub pass_token-returns-in_err-pass_members-in-BeginObject-clause-passed : goal.pass_token-returns-in_err-pass_members-in-BeginObject-clause-passed
pass_token-returns-in_err-pass_members-in-BeginObject-clause-passed t c =
    let none = ap (λ k. tree_at c.args.depth (token_of k ∷ c.args.reader.now)) c.in-BeginObject.is ∙ refuses_object c.args.depth c.args.reader.now (omega arith) c.in_err-pass_members-in-BeginObject.ensures.passed in
    grind (arith, none)

pub pass_token-returns-in-Null-clause-passed : goal.pass_token-returns-in-Null-clause-passed
pass_token-returns-in-Null-clause-passed t c =
    (null, ap (λ k. tree_at c.args.depth (token_of k ∷ c.args.reader.now)) c.in-Null.is ∙ ap (converted of_json) (value_is c.args.depth (Token.null ∷ c.args.reader.now)), refl)

pub pass_token-returns-in-Bool-clause-passed : goal.pass_token-returns-in-Bool-clause-passed
pass_token-returns-in-Bool-clause-passed t c =
    (boolean c.in-Bool.flag, ap (λ k. tree_at c.args.depth (token_of k ∷ c.args.reader.now)) c.in-Bool.is ∙ ap (converted of_json) (value_is c.args.depth (Token.boolean c.in-Bool.flag ∷ c.args.reader.now)), refl)

pub pass_token-returns-in-String-clause-passed : goal.pass_token-returns-in-String-clause-passed
pass_token-returns-in-String-clause-passed t c =
    (string c.in-String.text.now, ap (λ k. tree_at c.args.depth (token_of k ∷ c.args.reader.now)) c.in-String.is ∙ ap (converted of_json) (value_is c.args.depth (Token.string c.in-String.text.now ∷ c.args.reader.now)), refl)

pub pass_token-returns-then-is_in_range-clause-passed : goal.pass_token-returns-then-is_in_range-clause-passed
pass_token-returns-then-is_in_range-clause-passed t c =
    let read = reads_number c.args.depth c.in-Number.text.now c.args.reader.now (grind arith) in
    (read.0, ap (λ k. tree_at c.args.depth (token_of k ∷ c.args.reader.now)) c.in-Number.is ∙ read.1, read.2)

pub pass_token-returns-else-is_in_range-clause-passed : goal.pass_token-returns-else-is_in_range-clause-passed
pass_token-returns-else-is_in_range-clause-passed t c =
    ap (λ k. tree_at c.args.depth (token_of k ∷ c.args.reader.now)) c.in-Number.is ∙ refuses_number c.args.depth c.in-Number.text.now c.args.reader.now (grind arith)

pub pass_token-returns-in_ok-pass_items-in-BeginArray-clause-passed : goal.pass_token-returns-in_ok-pass_items-in-BeginArray-clause-passed
pass_token-returns-in_ok-pass_items-in-BeginArray-clause-passed t c =
    let read = reads_array c.args.depth c.args.reader.now c.pass_items.new.reader (omega arith) c.in_ok-pass_items-in-BeginArray.ensures.passed in
    (read.0, ap (λ k. tree_at c.args.depth (token_of k ∷ c.args.reader.now)) c.in-BeginArray.is ∙ read.1, read.2)

pub pass_token-returns-in_ok-pass_members-in-BeginObject-clause-passed : goal.pass_token-returns-in_ok-pass_members-in-BeginObject-clause-passed
pass_token-returns-in_ok-pass_members-in-BeginObject-clause-passed t c =
    let read = reads_object c.args.depth c.args.reader.now c.pass_members.new.reader (omega arith) c.in_ok-pass_members-in-BeginObject.ensures.passed in
    (read.0, ap (λ k. tree_at c.args.depth (token_of k ∷ c.args.reader.now)) c.in-BeginObject.is ∙ read.1, read.2)

pub pass_token-returns-in-EndObject-clause-passed : goal.pass_token-returns-in-EndObject-clause-passed
pass_token-returns-in-EndObject-clause-passed t c =
    let ts = c.args.reader.now in
    let none : value c.args.depth (token_of c.args.token ∷ ts) ≡ None = rw (value_is c.args.depth (token_of c.args.token ∷ ts)) (grind arith) in
    ap (converted of_json) none

pub pass_value-returns-in_err-token-clause-passed : goal.pass_value-returns-in_err-token-clause-passed
pass_value-returns-in_err-token-clause-passed t c =
    let empty : c.args.reader.now ≡ [] = grind arith in
    let none = ap (tree_at c.args.depth) empty ∙ refuses_end c.args.depth in
    grind (arith, none)
