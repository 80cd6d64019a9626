use Rattle.std.proofs.Common.{◌≡◌, length, map, []}
use Rattle.std.specs.BTreeSet.{contains_text}
use Rattle.idl_tree.specs.Names.{Bytes}
use Rattle.sheet_draft.specs.Outlines.{stood}
use Rattle.sheet_draft.specs.Sheets.{registers_from}
use Rattle.sheet_draft.specs.declared.drafts.RegisterDraft.{RegisterDraft}
use Rattle.expression_draft.proofs.Rests.{item_count}
use Rattle.sheet_draft.proofs.Rests.{behind}
use Rattle.sheet_draft.proofs.registers.read_registers.Given as goal

abbrev pub invariant-loop-value : goal.invariant-loop-value
invariant-loop-value l =
    record {
      names : (q : Bytes) → contains_text l.names q ≡ stood (map (λ (register : RegisterDraft). register.name) l.registers) q;
      left : behind l.registers (registers_from (map (λ (register : RegisterDraft). register.name) l.registers) (length l.registers) l.items)
          ≡ registers_from [] 0 l.fn.items;
    }

abbrev pub decreases-loop-value : goal.decreases-loop-value
decreases-loop-value l = item_count l.items
