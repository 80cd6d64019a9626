use Rattle.std.proofs.Common.{◌≡◌, take}
use Rattle.idl_tree.proofs.copies.+copying.Given as goal

abbrev pub invariant-copy_fields-loop-field : goal.invariant-copy_fields-loop-field
invariant-copy_fields-loop-field l = l.copies ≡ take l.field-index l.fields
