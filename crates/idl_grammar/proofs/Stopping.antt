-- the item with which a reading stops, among the items of a text
use Rattle.std.proofs.Common.{◌≡◌, ℕ, ◌+◌, ◌<◌, List, [], ◌∷◌, ◌++◌, map, length, take, drop, get_or, append_assoc, refl, sym, ap, subst, ◌∙◌}
use Rattle.std.proofs.lemmas.List.{take_more, drop_more, take-append-drop, map-append}
use Rattle.idl_token.specs.Lex.{Bytes, Lexemes, Placed, LexAt, lexeme, placed}
use Rattle.idl_token.specs.declared.tokens.Item.{Item}
use Rattle.idl_rules.specs.Reading.{Reading}
use Rattle.idl_grammar.specs.Refuses.{bare, Stands}
use Rattle.idl_grammar.specs.Follows.{Takes, StopsAt}

pub bare_placed : (items : List Item) → bare (map placed items) ≡ map lexeme items
bare_placed [] = refl
bare_placed (item ∷ items) = ap (λ (rest : Lexemes). lexeme item ∷ rest) (bare_placed items)

module _ (items : List Item) (i : ℕ) (d : Item) (below : i < length items) (read : Lexemes → Reading) (reading : Reading)
    (stopped : read (map lexeme (take i items) ++ lexeme (get_or items i d) ∷ []) ≡ reading) where
  pub one_further : read (map lexeme (take (i + 1) items)) ≡ reading
  one_further = ap read (ap (map lexeme) (take_more items i d below)
      ∙ map-append lexeme (take i items) (get_or items i d ∷ [])) ∙ stopped

  pub stops_with : Takes read (map lexeme (take i items)) → StopsAt read reading items (get_or items i d).at
  stops_with taken = record {
    front = take i items;
    item = get_or items i d;
    rest = drop (i + 1) items;
    whole = sym (take-append-drop i items) ∙ ap (λ (x : List Item). take i items ++ x) (drop_more items i d below);
    place = refl;
    taken = taken;
    stopped = stopped;
  }

module _ (items : List Item) (read : Lexemes → Reading) (reading : Reading) (at : ℕ) (stop : StopsAt read reading items at) where
  pub cut_whole : map lexeme items ≡ (map lexeme stop.front ++ lexeme stop.item ∷ []) ++ map lexeme stop.rest
  cut_whole = ap (map lexeme) stop.whole ∙ map-append lexeme stop.front (stop.item ∷ stop.rest)
      ∙ sym (append_assoc (map lexeme stop.front) (lexeme stop.item ∷ []) (map lexeme stop.rest))

  pub stop_stands : (text : Bytes) → LexAt (length text) (map placed items) text
      → Stands text (map placed stop.front) (placed stop.item) (map placed stop.rest) at
  stop_stands text places = record {
    items = subst (λ (x : List Placed). LexAt (length text) x text)
        (ap (map placed) stop.whole ∙ map-append placed stop.front (stop.item ∷ stop.rest)) places;
    place = stop.place;
  }
