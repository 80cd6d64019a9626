use Rattle.std.proofs.Common.{append_assoc}
use Rattle.idl_tree.proofs.Opened.{struct_opens, enum_opens}
use Rattle.idl_rules.specs.Canon.{Layout, Entry, body_step, core_step, field_step, type_step}
use Rattle.idl_print.proofs.flat_lines.+flat.Goals as goal

pub push_flat_body-returns-in_ok-push-in-Struct : goal.push_flat_body-returns-in_ok-push-in-Struct
push_flat_body-returns-in_ok-push-in-Struct t c =
    let opened = struct_opens Layout Layout Entry Layout body_step core_step field_step type_step c.in-Struct.fields c.in-Struct.ending in
    rw (c.in_ok-push-in-Struct.ensures, c.in_ok-push_flat_fields-in-Struct.ensures, c.in_ok-push.ensures, c.as_slice.ensures, c.in-Struct.is, opened) (simp append_assoc)

pub push_flat_body-returns-in_ok-push-in-Enum : goal.push_flat_body-returns-in_ok-push-in-Enum
push_flat_body-returns-in_ok-push-in-Enum t c =
    let opened = enum_opens Layout Layout Entry Layout body_step core_step field_step type_step c.in-Enum.names c.in-Enum.ending in
    rw (c.in_ok-push-in-Enum.ensures, c.in_ok-push_flat_names-in-Enum.ensures, c.in_ok-push.ensures, c.as_slice-in-Enum.ensures, c.in-Enum.is, opened) (simp append_assoc)
