-- The word of a call: the name of an interface, a dot, and the name of a method (varlink.org, "Method Call").
use Rattle.std.specs.Prelude.{◌==◌, ℕ, List, [], ◌∷◌, Option, Some, None, if◌then◌else◌}

-- `b` in front of the interface's name; where there is no dot behind, `b` may be the last one
abbrev pub led : ℕ → List ℕ → Option (List ℕ × List ℕ) → Option (List ℕ × List ℕ)
led b word (Some parts) = Some (b ∷ parts.0, parts.1)
led b word None = if b == 46 then Some ([], word) else None

-- the word is cut at its last dot, if it has one
abbrev pub at_dot : List ℕ → Option (List ℕ × List ℕ)
at_dot [] = None
at_dot (b ∷ word) = led b word (at_dot word)
