-- What a text spells as one type, and nothing else (varlink.org, "Interface Definition").
use Rattle.std.specs.Prelude.{◌≡◌, ◌≤◌, true, None}
use Rattle.std.specs.List.{list_all}
use Rattle.idl_token.specs.Lex.{Bytes, Lexemes, Lex}
use Rattle.idl_tree.specs.Form.{type_form, type_depth}
use Rattle.idl_tree.specs.Faults.{type_fault, defines}
use Rattle.idl_tree.specs.declared.trees.Interface.{Interface}
use Rattle.idl_tree.specs.declared.trees.TypeRef.{TypeRef}
use Rattle.idl_rules.specs.Items.{type_items}
use Rattle.idl_rules.specs.Spells.{is_bare}

-- the items are words and marks, those of the type, which is in form
pub record AreType (items : Lexemes) (of : TypeRef) : Type 0 where
  pub form : type_form of ≡ true
  pub bare : list_all is_bare items ≡ true
  pub same : items ≡ type_items of

-- the text has no note, and its items are those of the type
abbrev pub SpellsType : TypeRef → Bytes → Type 0
SpellsType of text = (items : Lexemes) × Lex items text × AreType items of

-- the text spells the type, whose brackets are at most 64 deep, whose names are distinct in each bracket,
-- and which uses types of the interface alone
abbrev pub AcceptsType : Bytes → Interface → TypeRef → Type 0
AcceptsType text scope of = SpellsType of text × (type_depth of ≤ 64) × (type_fault (defines scope) of ≡ None)
