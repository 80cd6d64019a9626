-- What several calls of a sink or a source do together.
use Rattle.std.proofs.Common.{ℕ, ◌+◌, ◌-◌, List, drop, length, take, sym, subst}
use Rattle.std.proofs.Math.Seq.{take-add}
use Rattle.std.proofs.lemmas.List.{take_rest}
use Rattle.std.specs.Io.KnownBytes.{Appends}
use Rattle.std.proofs.KnownBytes.{Appends-trans}
use Rattle.std.specs.declared.option.Option.{Option}

-- a front was appended, and then a front of the rest, written as the range from n to the end
pub Appends-front : (a b c : Option (List ℕ)) (n m : ℕ) (piece : List ℕ)
    → Appends a b (take n piece) → Appends b c (take m (take (length piece - n) (drop n piece))) → Appends a c (take (n + m) piece)
Appends-front a b c n m piece first second =
    let rest : Appends b c (take m (drop n piece)) = subst (λ (l : List ℕ). Appends b c (take m l)) (take_rest piece n) second in
    subst (Appends a c) (sym (take-add n m piece)) (Appends-trans a b c _ _ first rest)
