-- the canonical text spells its tree and no other
use Rattle.std.proofs.Common.{◌≡◌, arith}
use Rattle.idl_tree.specs.Form.{Form, Deep}
use Rattle.idl_tree.specs.declared.trees.Interface.{Interface}
use Rattle.idl_rules.specs.Items.{Items}
use Rattle.idl_rules.specs.Canon.{Canon}
use Rattle.idl_rules.specs.Spells.{Spells}
use Rattle.idl_rules.proofs.Trees.{reads}
use Rattle.idl_rules.proofs.Uniqueness.{one_tree, read_tree}
use Rattle.idl_print.proofs.LaidTrees.{canon_lexes}

pub spells : (tree : Interface) → Form tree → Spells tree (Canon tree)
spells tree form =
    let lex = canon_lexes tree form in
    let read = reads (Deep tree) tree form (omega arith) in
    (form, (Items tree, lex, (read_tree (Deep tree) (Items tree) (Canon tree) tree lex read).settled))

pub spells_one : (tree : Interface) → Form tree → (other : Interface) → Spells other (Canon tree) → other ≡ tree
spells_one tree form other spelt = one_tree (Canon tree) other tree spelt (spells tree form)
