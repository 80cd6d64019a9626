-- what a part of an expression means, where the whole means something
use Rattle.std.proofs.Common.{◌≡◌, Option, Some, None, IsSome, refl}
use Rattle.rule_values.specs.Meanings.{◌>>=◌}

pub then_some : {A B : Type 0} (o : Option A) (f : A → Option B) → IsSome (o >>= f) → IsSome o
then_some None f some = some
then_some (Some x) f some = refl
