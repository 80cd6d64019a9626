use Rattle.std.proofs.Common.{◌≡◌, length}
use Rattle.serde_json.specs.Find.{as_str}
use Rattle.sheet_draft.specs.Sheets.{each}
use Rattle.sheet_draft.specs.declared.places.Place.TheVariants.{Interface}
use Rattle.expression_draft.proofs.Rests.{item_count}
use Rattle.sheet_draft.proofs.Rests.{behind}
use Rattle.sheet_draft.proofs.registers.read_interfaces.Given as goal

abbrev pub invariant-loop-value : goal.invariant-loop-value
invariant-loop-value l = behind l.texts (each Interface as_str (length l.texts) l.items) ≡ each Interface as_str 0 l.fn.items

abbrev pub decreases-loop-value : goal.decreases-loop-value
decreases-loop-value l = item_count l.items
