-- The figures of a work, piece by piece.
use Rattle.std.proofs.Common.{◌≡◌, ℕ, List, ◌++◌, codes, subst}
use Rattle.std.proofs.lemmas.List.{append_assoc}

pieces : (a b c d : List ℕ) → codes "definition " ++ (a ++ (codes "\ncalls " ++ (b ++ (codes "\nreplies " ++ (c ++ (codes "\ntotal " ++ (d ++ codes "\n")))))))
    ≡ codes "definition " ++ a ++ codes "\ncalls " ++ b ++ codes "\nreplies " ++ c ++ codes "\ntotal " ++ d ++ codes "\n"
pieces a b c d = simp append_assoc

pub figures_joined : (P : List ℕ → Type 0) (a b c d : List ℕ)
    → P (codes "definition " ++ (a ++ (codes "\ncalls " ++ (b ++ (codes "\nreplies " ++ (c ++ (codes "\ntotal " ++ (d ++ codes "\n"))))))))
    → P (codes "definition " ++ a ++ codes "\ncalls " ++ b ++ codes "\nreplies " ++ c ++ codes "\ntotal " ++ d ++ codes "\n")
figures_joined P a b c d h = subst P (pieces a b c d) h
