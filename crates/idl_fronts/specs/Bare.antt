-- items without the notes among them
use Rattle.std.specs.Prelude.{[], ◌∷◌}
use Rattle.idl_token.specs.Lex.{Lexemes}
use Rattle.idl_token.specs.declared.tokens.ItemKind.TheVariants.{Note}

abbrev pub without_notes : Lexemes → Lexemes
without_notes [] = []
without_notes ((Note, spelling) ∷ items) = without_notes items
without_notes (item ∷ items) = item ∷ without_notes items
