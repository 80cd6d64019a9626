use Rattle.std.proofs.Common.{◌≡◌, ℕ, length, take, drop, map, subst, arith}
use Rattle.std.proofs.lemmas.List.{map-append, length-drop}
use Rattle.std.proofs.lemmas.List.Elements.{All-push}
use Rattle.idl_token.specs.Lex.{BadByteAt, lexeme}
use Rattle.idl_token.specs.declared.tokens.Item.{Item}
use Rattle.idl_token.proofs.OneList.{one_lex, stuck}
use Rattle.idl_token.proofs.Places.{LexAt-from_BeginsAt, begun_lexemes, begun_more, blanks_gone, nothing_left, slice_is}
use Rattle.idl_token.proofs.Utf8Items.{utf8_items}
use Rattle.idl_token.proofs.lexer.items.Goals as goal

pub returns-then-at-text-clause-found : goal.returns-then-at-text-clause-found
returns-then-at-text-clause-found c = (
  c.in_default.ensures.cases.1,
  (
    drop c.loop-found.end c.args.text.now,
    begun_lexemes _ _ _ c.loop-found.invariant.begun,
    nothing_left _ _ _ c.blanks_end-at.ensures.end c.if-at-text.true,
  ),
)

pub returns-then-at-text-clause-places : goal.returns-then-at-text-clause-places
returns-then-at-text-clause-places c =
    LexAt-from_BeginsAt _ _ _ _ c.loop-found.invariant.begun
    (nothing_left _ _ _ c.blanks_end-at.ensures.end c.if-at-text.true)

pub returns-then-at-text-clause-only : goal.returns-then-at-text-clause-only
returns-then-at-text-clause-only c =
    λ others lex. one_lex others _ _ lex (returns-then-at-text-clause-found c)

pub returns-then-at-text-clause-utf8 : goal.returns-then-at-text-clause-utf8
returns-then-at-text-clause-utf8 c =
    utf8_items _ _ _ c.in_default.ensures.cases.1 (begun_lexemes _ _ _ c.loop-found.invariant.begun)

pub returns-in_default-item_end-clause-bad_byte : goal.returns-in_default-item_end-clause-bad_byte
returns-in_default-item_end-clause-bad_byte c =
    let gone = blanks_gone _ _ _ c.blanks_end-at.ensures.end in
    let text = c.args.text.now in
    let place = c.blanks_end-at.result in
    let size = length-drop place text in
    let bad : BadByteAt place text = (
      map lexeme c.loop-found.found,
      drop c.loop-found.end text,
      begun_lexemes _ _ _ c.loop-found.invariant.begun,
      rw gone (omega arith),
      rw gone c.in_default-item_end.ensures.item,
      rw gone (omega arith),
    ) in
    λ at same. (c.in_default.ensures.cases.1, (let is : place ≡ at = cc in subst (λ (k : ℕ). BadByteAt k text) is bad))

pub returns-in_default-item_end-clause-none : goal.returns-in_default-item_end-clause-none
returns-in_default-item_end-clause-none c =
    let gone = blanks_gone _ _ _ c.blanks_end-at.ensures.end in
    let text = c.args.text.now in
    let place = c.blanks_end-at.result in
    let size = length-drop place text in
    λ at same others lex. stuck (map lexeme c.loop-found.found) others text (drop c.loop-found.end text) lex.1.0
    (begun_lexemes _ _ _ c.loop-found.invariant.begun) lex.1.1 (rw gone c.in_default-item_end.ensures.item) (rw gone (omega arith)) lex.1.2

pub loop-found-preserved : goal.loop-found-preserved
loop-found-preserved c =
    let ok = c.in_ok-push.ensures.ok in
    let text = c.args.text.now in
    let within = c.in-Some.ensures.within in
    record {
      within = within.1;
      begun = rw (ok, map-append) (begun_more c.loop-found.found c.in-Some.kind text c.loop-found.end c.blanks_end-at.result c.in-Some.next
          c.loop-found.invariant.begun c.blanks_end-at.ensures.end c.blanks_end-at.ensures.within c.in-Some.ensures.item);
      slices = rw ok (All-push (λ (item : Item). take (length item.text.now) (drop item.at text) ≡ item.text.now) c.loop-found.found _
          c.loop-found.invariant.slices (slice_is text c.blanks_end-at.result c.in-Some.next within.0 within.1));
    }
