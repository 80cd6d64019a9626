use Rattle.std.proofs.Common.{◌≡◌, drop}
use Rattle.std.specs.List.{list_all}
use Rattle.idl_tree.specs.Form.{is_note}
use Rattle.idl_tree.proofs.forms.are_notes.Given as goal

abbrev pub invariant-loop-note : goal.invariant-loop-note
invariant-loop-note l =
    list_all is_note (drop l.note-index l.notes) ≡ list_all is_note l.notes
