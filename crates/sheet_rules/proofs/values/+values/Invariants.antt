use Rattle.std.proofs.Common.{◌≡◌, drop, length, map}
use Rattle.std.specs.List.{list_all}
use Rattle.idl_tree.specs.Names.{Bytes}
use Rattle.typed_value.specs.OfType.{Fit, fits, fields_fit}
use Rattle.typed_value.specs.declared.vals.Val.{Val}
use Rattle.sheet_rules.specs.Views.{core_of}
use Rattle.sheet_rules.proofs.values.+values.Given as goal

abbrev pub invariant-are_of-loop-value : goal.invariant-are_of-loop-value
invariant-are_of-loop-value l =
    list_all (λ (fit : Fit). fit l.prefixes (core_of l.kind)) (map (fits l.scope) (drop l.value-index l.values))
    ≡ list_all (λ (fit : Fit). fit l.prefixes (core_of l.kind)) (map (fits l.scope) l.values)

abbrev pub invariant-entries_are_of-loop-entry : goal.invariant-entries_are_of-loop-entry
invariant-entries_are_of-loop-entry l =
    list_all (λ (entry : Bytes × Val). fits l.scope entry.1 l.prefixes (core_of l.kind)) (drop l.entry-index l.entries)
    ≡ list_all (λ (entry : Bytes × Val). fits l.scope entry.1 l.prefixes (core_of l.kind)) l.entries

abbrev pub invariant-fields_are_of-loop-i : goal.invariant-fields_are_of-loop-i
invariant-fields_are_of-loop-i l = (length l.fields ≡ length l.values)
    × (fields_fit (drop l.i l.fields) (map (fits l.scope) (drop l.i l.values)) ≡ fields_fit l.fields (map (fits l.scope) l.values))
