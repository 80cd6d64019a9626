-- Values of JSON that are passed over: of each its kind alone is told (RFC 8259, 3 "Values"). A number that is out of
-- range is no value, as where a tree is read.
use Rattle.std.specs.Prelude.{◌≡◌, ℕ, List, length, Option, Some, None, option_map, Result, Ok, Err, ⊤}
use Rattle.json.specs.Token.{Token}
use Rattle.json.specs.Json.{value, items, members}
use Rattle.json.specs.declared.reader.Invalid.{Invalid}
use Rattle.serde_json.specs.Data.{Data, null, boolean, number, string, array, Items, Members, no_members}
use Rattle.serde_json.specs.Read.{of_json, of_items, of_members, converted}
use Rattle.call_form.specs.CallOf.{IsObject}
use Rattle.caller_form.specs.declared.kinds.Kind.{Kind}
use Rattle.caller_form.specs.declared.kinds.Kind.TheVariants as kind

-- a number or an array
abbrev pub IsOther : Data → Type 0
IsOther (number n) = ⊤
IsOther (array ds) = ⊤
IsOther _ = ⊥

abbrev pub IsOfKind : Kind → Data → Type 0
IsOfKind kind.Null tree = tree ≡ null
IsOfKind (kind.Flag flag) tree = tree ≡ boolean flag
IsOfKind (kind.Text text) tree = tree ≡ string text.now
IsOfKind kind.Object tree = IsObject tree
IsOfKind kind.Other tree = IsOther tree

-- the tree that comes first of these tokens, and the tokens behind it
abbrev pub tree_at : ℕ → List Token → Option (Data × List Token)
tree_at depth tokens = converted of_json (value depth tokens)

-- the items of an array that was opened, and the tokens behind its end
abbrev pub items_at : ℕ → List Token → Option (Items × List Token)
items_at depth tokens = converted of_items (items (value depth) (length tokens) tokens)

-- the members of an object that was opened, and the tokens behind its end
abbrev pub members_at : ℕ → List Token → Option (Members × List Token)
members_at depth tokens = converted (λ ms. of_members ms no_members) (members (value depth) (length tokens) tokens)

-- a value was passed over, or none is there
abbrev pub Passes : ℕ → List Token → Result Kind Invalid → List Token → Type 0
Passes depth old (Ok kind) new = (tree : Data) × (tree_at depth old ≡ Some (tree, new)) × IsOfKind kind tree
Passes depth old (Err invalid) new = tree_at depth old ≡ None

abbrev pub behind : {A : Type 0} → Option (A × List Token) → Option (List Token)
behind there = option_map (λ p. p.1) there

-- what is there was passed over, or nothing is there
abbrev pub PassesAll : {A : Type 0} → Option (A × List Token) → Result ⊤ Invalid → List Token → Type 0
PassesAll there (Ok done) new = behind there ≡ Some new
PassesAll there (Err invalid) new = behind there ≡ None
