use Rattle.std.proofs.Common.{◌≡◌, ◌+◌, false, ◌&&◌, map, length, sym, ◌∙◌}
use Rattle.std.specs.Prelude.{◌==◌}
use Rattle.std.proofs.lemmas.List.{length-map}
use Rattle.idl_tree.proofs.Opened.{struct_opens, enum_opens}
use Rattle.idl_rules.specs.Canon.{Layout, Entry, field_entry, named_entry, body_step, core_step, field_step, type_step}
use Rattle.idl_print.proofs.Lines.{printed_more, opened_printed}
use Rattle.idl_print.proofs.opened_lines.+opened.Goals as goal

pub push_field_lines-loop-place-preserved : goal.push_field_lines-loop-place-preserved
push_field_lines-loop-place-preserved t c =
    printed_more field_entry c.args.fields.now c.loop-place.place c.index-fields-place.result c.args.indent c.loop-place-test.true c.index-fields-place.is
    _ _ _ _ c.comma_behind-comma.ensures c.in_ok-push_field_line.ensures c.loop-place.invariant

pub push_opened_body-returns-in_ok-push_ending-in-Struct : goal.push_opened_body-returns-in_ok-push_ending-in-Struct
push_opened_body-returns-in_ok-push_ending-in-Struct t c =
    let opened = struct_opens Layout Layout Entry Layout body_step core_step field_step type_step c.in-Struct.fields c.in-Struct.ending in
    let count = length-map c.in-Struct.fields field_entry in
    let full : (length (map field_entry c.in-Struct.fields) == 0 && length c.in-Struct.ending == 0) ≡ false =
    rw count (rw (c.len.ensures, c.len-in-Struct.ensures) at (sym c.is_bare.ensures ∙ c.if-is_bare.false)) in
    let deeper : c.in-Some.inner ≡ c.args.indent + 2 = c.in-Some.ensures.1 in
    rw (c.in-Struct.is, opened)
    (opened_printed (map field_entry c.in-Struct.fields) c.in-Struct.ending c.args.indent c.in-Some.inner _ _ _ _ deeper full
    c.in_ok-push-in-Struct-2.ensures (rw c.as_slice.ensures at c.in_ok-push_field_lines-in-Struct.ensures)
    (rw c.as_slice-in-Struct.ensures at c.in_ok-push_ending-in-Struct.ensures))

pub push_opened_body-returns-in_ok-push_ending-in-Enum : goal.push_opened_body-returns-in_ok-push_ending-in-Enum
push_opened_body-returns-in_ok-push_ending-in-Enum t c =
    let opened = enum_opens Layout Layout Entry Layout body_step core_step field_step type_step c.in-Enum.names c.in-Enum.ending in
    let count = length-map c.in-Enum.names named_entry in
    let full : (length (map named_entry c.in-Enum.names) == 0 && length c.in-Enum.ending == 0) ≡ false =
    rw count (rw (c.len-in-Enum.ensures, c.len-in-Enum-2.ensures) at (sym c.is_bare-in-Enum.ensures ∙ c.if-is_bare-2.false)) in
    let deeper : c.in-Some.inner ≡ c.args.indent + 2 = c.in-Some.ensures.1 in
    rw (c.in-Enum.is, opened)
    (opened_printed (map named_entry c.in-Enum.names) c.in-Enum.ending c.args.indent c.in-Some.inner _ _ _ _ deeper full
    c.in_ok-push-in-Enum-2.ensures (rw c.as_slice-in-Enum.ensures at c.in_ok-push_name_lines-in-Enum.ensures)
    (rw c.as_slice-in-Enum-2.ensures at c.in_ok-push_ending-in-Enum.ensures))
