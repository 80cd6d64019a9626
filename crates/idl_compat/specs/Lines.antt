-- The line that tells a verdict.
use Rattle.std.specs.Prelude.{List, [], ◌∷◌, ◌++◌, codes}
use Rattle.idl_tree.specs.Names.{Bytes}
use Rattle.idl_compat.specs.declared.verdicts.Side.{Side}
use Rattle.idl_compat.specs.declared.verdicts.Side.TheVariants.{Input, Output, Error}
use Rattle.idl_compat.specs.declared.verdicts.Verdict.{Verdict}
use Rattle.idl_compat.specs.declared.verdicts.Verdict.TheVariants.{Compatible, OtherName, NoMethod, Differs}

abbrev pub side_name : Side → Bytes
side_name Input = codes "input"
side_name Output = codes "output"
side_name Error = codes "error"

-- each word behind a space
abbrev pub worded : List Bytes → Bytes
worded [] = []
worded (word ∷ words) = codes " " ++ word ++ worded words

abbrev pub line_of : Verdict → Bytes
line_of Compatible = codes "compatible"
line_of OtherName = codes "other name"
line_of (NoMethod name) = codes "no method " ++ name
line_of (Differs member side path) = codes "differs at " ++ member ++ codes " " ++ side_name side ++ worded path
