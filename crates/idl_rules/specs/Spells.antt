-- What a text spells and accepts.
use Rattle.std.specs.Prelude.{◌≡◌, ◌≤◌, ℕ, max, Bool, true, false, [], ◌∷◌, ◌++◌}
use Rattle.std.specs.List.{list_all}
use Rattle.idl_token.specs.declared.tokens.ItemKind.TheVariants.{Mark, Note}
use Rattle.idl_token.specs.Lex.{Bytes, Lexeme, Lexemes, Lex}
use Rattle.idl_tree.specs.Form.{Form, Deep}
use Rattle.idl_tree.specs.Faults.{Good}
use Rattle.idl_tree.specs.declared.trees.Interface.{Interface}
use Rattle.idl_rules.specs.Items.{Items}
use Rattle.idl_rules.specs.Settle.{Settle, depth_after}

-- the tree is in form, and the text's items, with their notes settled, are those of the tree
abbrev pub Spells : Interface → Bytes → Type 0
Spells tree text = Form tree × ((items : Lexemes) × Lex items text × (Settle items ≡ Items tree))

-- the text spells the tree, whose brackets are at most 64 deep and whose names are unique and defined
abbrev pub Accepts : Bytes → Interface → Type 0
Accepts text tree = Spells tree text × (Deep tree ≤ 64) × Good tree

-- words and marks alone
abbrev pub is_bare : Lexeme → Bool
is_bare (Note, spelling) = false
is_bare item = true

-- the items go on: words and marks behind them make them the items of a tree in form, its brackets of
-- any depth
abbrev pub GoesOn : Lexemes → Type 0
GoesOn items = (rest : Lexemes) × (tree : Interface) × (list_all is_bare rest ≡ true) × Form tree × (Settle (items ++ rest) ≡ Items tree)

-- the greatest number of brackets that are open along the items, behind `depth` open ones
abbrev pub depth_behind : ℕ → Lexeme → ℕ
depth_behind depth (Mark, spelling) = depth_after depth spelling
depth_behind depth item = depth

abbrev pub depth_at_end : ℕ → Lexemes → ℕ
depth_at_end depth [] = depth
depth_at_end depth (item ∷ items) = depth_at_end (depth_behind depth item) items

abbrev pub greatest_depth : ℕ → Lexemes → ℕ
greatest_depth depth [] = depth
greatest_depth depth (item ∷ items) = max depth (greatest_depth (depth_behind depth item) items)
