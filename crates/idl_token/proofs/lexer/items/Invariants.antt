use Rattle.std.proofs.Common.{◌≡◌, ◌-◌, ◌≤◌, length, take, drop, map, All}
use Rattle.idl_token.specs.Lex.{placed}
use Rattle.idl_token.proofs.Places.{BeginsAt}
use Rattle.idl_token.proofs.lexer.items.Given as goal

abbrev pub invariant-loop-found : goal.invariant-loop-found
invariant-loop-found l =
    record {
      within : l.end ≤ length l.text;
      begun : BeginsAt (length l.text) (map placed l.found) l.text (drop l.end l.text);
      slices : All (λ item. take (length item.text.now) (drop item.at l.text) ≡ item.text.now) l.found;
    }

abbrev pub decreases-loop-found : goal.decreases-loop-found
decreases-loop-found l = length l.text - l.end
