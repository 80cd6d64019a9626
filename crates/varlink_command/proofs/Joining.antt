-- What puts of several texts do together.
use Rattle.std.proofs.Common.{◌≡◌, ℕ, ◌+◌, ◌<◌, List, ◌++◌, length, drop, take, get_or, sym, ap, ◌∙◌, append_assoc}
use Rattle.std.proofs.lemmas.List.{take-append-drop, drop_more}
use Rattle.std.specs.Borrow.{Bor}
use Rattle.std.specs.declared.option.Option.{Option}
use Rattle.std.specs.Io.KnownBytes.{Appends}
use Rattle.std.proofs.KnownBytes.{Appends-trans}
use Rattle.link_port.specs.Flow.{AppendsFront}
use Rattle.varlink_command.specs.Lines.{joined}

-- the texts from i on are the text at i and those after it
pub joined-next : (texts : List (Bor (List ℕ))) (i : ℕ) (d : Bor (List ℕ)) (piece : List ℕ) → i < length texts → piece ≡ (get_or texts i d).now
    → joined (drop i texts) ≡ piece ++ joined (drop (i + 1) texts)
joined-next texts i d piece within is =
    ap joined (drop_more texts i d within) ∙ ap (λ (l : List ℕ). l ++ joined (drop (i + 1) texts)) (sym is)

-- what was appended so far, one text more, and what is then left
pub joined-done : (all done before piece after : List ℕ) → all ≡ done ++ before → before ≡ piece ++ after → all ≡ (done ++ piece) ++ after
joined-done all done before piece after whole next =
    whole ∙ ap (λ (l : List ℕ). done ++ l) next ∙ sym (append_assoc done piece after)

-- some texts were appended, and then a front of the next one
pub AppendsFront-more : (a b c : Option (List ℕ)) (all done piece after : List ℕ) (n : ℕ) → all ≡ (done ++ piece) ++ after
    → Appends a b done → Appends b c (take n piece) → AppendsFront a c all
AppendsFront-more a b c all done piece after n whole first second = record {
  front = done ++ take n piece;
  rest = drop n piece ++ after;
  whole = whole ∙ ap (λ (l : List ℕ). (done ++ l) ++ after) (sym (take-append-drop n piece))
      ∙ ap (λ (l : List ℕ). l ++ after) (sym (append_assoc done (take n piece) (drop n piece)))
      ∙ append_assoc (done ++ take n piece) (drop n piece) after;
  wrote = Appends-trans a b c _ _ first second;
}
