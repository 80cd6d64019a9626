use Rattle.std.proofs.Common.{◌≡◌, ℕ, ◌<◌, ◌||◌, List, length, get_or, map, refl, sym, ap, ◌∙◌, arith}
use Rattle.std.specs.Str.{bytes_eq}
use Rattle.std.proofs.lemmas.List.{get_or-map, length-map}
use Rattle.idl_tree.specs.declared.trees.Named.{Named}
use Rattle.idl_tree.proofs.BracketNames.{twice_reported, past_type, is_among_more}
use Rattle.idl_tree.proofs.checks.check_names.Invariants.{pair_of}
use Rattle.idl_tree.proofs.checks.check_names.Goals as goal

pair_at : (names : List Named) (i : ℕ) (item : Named) → i < length names → item ≡ get_or names i item
    → get_or (map pair_of names) i (pair_of item) ≡ pair_of item
pair_at names i item within is = get_or-map pair_of names i item (pair_of item) within ∙ ap pair_of (sym is)

pub loop-named-preserved : goal.loop-named-preserved
loop-named-preserved c =
    let pairs = map pair_of c.args.names.now in
    let i = c.loop-named.named-index in
    let at = pair_at c.args.names.now i c.named-item.result c.loop-named-test.true c.named-item.is in
    let within : i < length pairs = omega (arith, length-map c.args.names.now pair_of) in
    let stood = c.loop-named.invariant.stood in
    record {
      stood = λ q. c.in_default.ensures.after q ∙ ap (λ b. bytes_eq c.named-item.result.name q || b) (stood q)
          ∙ sym (is_among_more pairs i (pair_of c.named-item.result) q within at);
      left = past_type pairs i (pair_of c.named-item.result) within at c.loop-named.invariant.left _ (stood c.named-item.result.name) c.in_default.ensures.answer refl;
    }

pub returns-in-Err : goal.returns-in-Err
returns-in-Err c =
    let pairs = map pair_of c.args.names.now in
    let i = c.loop-named.named-index in
    let at = pair_at c.args.names.now i c.named-item.result c.loop-named-test.true c.named-item.is in
    let within : i < length pairs = omega (arith, length-map c.args.names.now pair_of) in
    twice_reported pairs i (pair_of c.named-item.result) within at c.loop-named.invariant.left c.in-Err.fault _
    (c.loop-named.invariant.stood c.named-item.result.name) c.in-Err.ensures.answer
