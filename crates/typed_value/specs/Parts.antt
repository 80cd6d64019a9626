-- What the readers and writers of one level do.
use Rattle.std.specs.Prelude.{List, map, Option, option_map}
use Rattle.serde_json.specs.Data.{Data, Items, Members}
use Rattle.serde_json.specs.Find.{get, as_object}
use Rattle.idl_tree.specs.Names.{Bytes}
use Rattle.idl_tree.specs.declared.trees.Interface.{Interface}
use Rattle.idl_tree.specs.declared.trees.Field.{Field}
use Rattle.idl_tree.specs.declared.trees.Prefix.{Prefix}
use Rattle.idl_tree.specs.declared.trees.Core.{Core, out-Core}
use Rattle.typed_value.specs.Reads.{Reader, reader, item_readers, member_readers, all_of, entries_by, member_by, core_by}
use Rattle.typed_value.specs.declared.vals.Val.{Val}
use Rattle.typed_value.specs.declared.vals.Val.TheVariants as val

-- items by one type
abbrev pub item_reads : Interface → List Prefix → Core → Items → List (Option Val)
item_reads scope prefixes core ds = map (λ (reads : Reader). reads prefixes core) (item_readers scope ds)

abbrev pub items_at : Interface → List Prefix → Core → Items → Option Val
items_at scope prefixes core ds = option_map val.Items (all_of (item_reads scope prefixes core ds))

-- members by one type
abbrev pub member_reads : Interface → List Prefix → Core → Members → List (Option (Bytes × Val))
member_reads scope prefixes core ms =
    map (λ (member : Bytes × Reader). option_map (λ value. (member.0, value)) (member.1 prefixes core))
    (member_readers scope ms)

abbrev pub members_at : Interface → List Prefix → Core → Members → Option Val
members_at scope prefixes core ms =
    option_map val.Map (entries_by prefixes core (member_readers scope ms))

-- a field by the member of its name
abbrev pub field_at : Interface → Data → Field → Option Val
field_at scope d field = member_by field (option_map (reader scope) (get field.name d))

abbrev pub fields_at : Interface → Data → List Field → Option Val
fields_at scope d fields = option_map val.Struct (all_of (map (field_at scope d) fields))

-- a tree by a core
abbrev pub core_at : Interface → Core → Data → Option Val
core_at scope core d = core_by scope d (option_map (member_readers scope) (as_object d)) (out-Core core)
