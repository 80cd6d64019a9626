-- The counts of a sheet, piece by piece.
use Rattle.std.proofs.Common.{◌≡◌, ℕ, List, ◌++◌, codes, subst}
use Rattle.std.specs.Prelude.{decimal}
use Rattle.std.proofs.lemmas.List.{append_assoc}

pieces : (a b c : ℕ) → codes "interfaces " ++ (decimal a ++ (codes "\nregisters " ++ (decimal b ++ (codes "\nrules " ++ (decimal c ++ codes "\n")))))
    ≡ codes "interfaces " ++ decimal a ++ codes "\nregisters " ++ decimal b ++ codes "\nrules " ++ decimal c ++ codes "\n"
pieces a b c = simp append_assoc

pub counts_joined : (P : List ℕ → Type 0) (a b c : ℕ)
    → P (codes "interfaces " ++ (decimal a ++ (codes "\nregisters " ++ (decimal b ++ (codes "\nrules " ++ (decimal c ++ codes "\n"))))))
    → P (codes "interfaces " ++ decimal a ++ codes "\nregisters " ++ decimal b ++ codes "\nrules " ++ decimal c ++ codes "\n")
counts_joined P a b c h = subst P (pieces a b c) h
