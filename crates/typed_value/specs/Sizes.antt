-- How deep a value nests, and how much it weighs.
use Rattle.std.specs.Prelude.{ℕ, suc, ◌+◌, Bool, true, List, length, map, sum}
use Rattle.std.specs.List.{list_all}
use Rattle.serde_json.specs.Data.{Data, null, boolean, number, string, array, object, Items, no_items, item, Members, no_members, member, depth}
use Rattle.idl_tree.specs.Form.{greatest}
use Rattle.idl_tree.specs.Names.{Bytes}
use Rattle.typed_value.specs.Ints.{has_only_ints}
use Rattle.typed_value.specs.declared.vals.Val.{Val}
use Rattle.typed_value.specs.declared.vals.Val.TheOpen.{Val-F}
use Rattle.typed_value.specs.declared.vals.Val.TheFolds.{fold-Val}

-- arrays, maps, structs, and the arrays and objects of foreign data, as many as stand within each other
abbrev pub level_step : Val-F ℕ → ℕ
level_step (Val-F.Items levels) = suc (greatest levels)
level_step (Val-F.Map entries) = suc (greatest (map (λ entry. entry.1) entries))
level_step (Val-F.Struct levels) = suc (greatest levels)
level_step (Val-F.Foreign d) = depth d
level_step value = 0

abbrev pub levels_of : Val → ℕ
levels_of = fold-Val ℕ level_step

-- a node of a JSON tree weighs 64, and the length of its string and of its keys
abbrev mutual
  pub data_weight : Data → ℕ
  data_weight null = 64
  data_weight (boolean b) = 64
  data_weight (number n) = 64
  data_weight (string s) = 64 + length s
  data_weight (array ds) = 64 + items_weight ds
  data_weight (object ms) = 64 + members_weight ms

  pub items_weight : Items → ℕ
  items_weight no_items = 0
  items_weight (item d ds) = data_weight d + items_weight ds

  pub members_weight : Members → ℕ
  members_weight no_members = 0
  members_weight (member k d ms) = length k + data_weight d + members_weight ms

-- a value weighs 64, and the length of each text and key in it, and its parts; foreign data weighs its
-- nodes
abbrev pub weight_step : Val-F ℕ → ℕ
weight_step (Val-F.Str s) = 64 + length s
weight_step (Val-F.Items weights) = 64 + sum weights
weight_step (Val-F.Map entries) = 64 + sum (map (λ entry. length entry.0 + entry.1) entries)
weight_step (Val-F.Struct weights) = 64 + sum weights
weight_step (Val-F.Foreign d) = data_weight d
weight_step value = 64

abbrev pub weight_of : Val → ℕ
weight_of = fold-Val ℕ weight_step

-- every number of foreign data is a whole number that 64 bits with a sign hold
abbrev pub whole_step : Val-F Bool → Bool
whole_step (Val-F.Items values) = list_all (λ whole. whole) values
whole_step (Val-F.Map entries) = list_all (λ entry. entry.1) entries
whole_step (Val-F.Struct values) = list_all (λ whole. whole) values
whole_step (Val-F.Foreign d) = has_only_ints d
whole_step value = true

abbrev pub is_whole : Val → Bool
is_whole = fold-Val Bool whole_step

abbrev pub entries_are_whole : List (Bytes × Val) → Bool
entries_are_whole entries = list_all (λ (entry : Bytes × Val). is_whole entry.1) entries
