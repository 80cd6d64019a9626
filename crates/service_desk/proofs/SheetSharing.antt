-- A sheet may go to another thread, and be shared.
use denote.Param.Send.{IsSend, IsSync, sendable}
use Rattle.std.proofs.Crossing.{crosses}
use Rattle.std.proofs.MapsCrossing as maps
use Rattle.link_port.proofs.Sharing.{text_send, text_sync, list_send, list_sync, box_send, box_sync, value_sync}
use Rattle.idl_tree.proofs.Sharing.{checked_send, checked_sync}
use Rattle.idl_tree.proofs.trees.Body.TheLaws.TheKnot as bodies
use Rattle.idl_tree.specs.contracts.trees.Body as body
use Rattle.idl_tree.specs.contracts.trees.Named as named
use Rattle.typed_value.proofs.Sharing.{val_send}
use Rattle.typed_value.proofs.vals.Val.TheLaws.TheKnot as vals
use Rattle.typed_value.specs.contracts.vals.Val as val
use Rattle.idl_tree.specs.contracts.trees.Core as core
use Rattle.idl_tree.specs.contracts.trees.TypeRef as reference
use Rattle.sheet_draft.specs.contracts.drafts.Info as info
use Rattle.sheet_step.specs.contracts.registers.Registers as registers
use Rattle.sheet_form.specs.contracts.interfaces.Interfaces as interfaces
use Rattle.sheet_form.specs.contracts.rule_places.RulePlaces as places
use Rattle.sheet_form.specs.contracts.sheets.Contents as contents
use Rattle.sheet_form.specs.contracts.sheets.Sheet as sheet
use Rattle.service_desk.proofs.SetSharing.{set_send, set_sync}
use Rattle.sheet_rules.proofs.forms.Expr.TheLaws.TheKnot as exprs
use Rattle.sheet_rules.proofs.forms.Cond.TheLaws.TheKnot as conds
use Rattle.sheet_rules.specs.contracts.forms.Ref as ref
use Rattle.sheet_rules.specs.contracts.forms.Expr as expr
use Rattle.sheet_rules.specs.contracts.forms.Cond as cond
use Rattle.sheet_rules.specs.contracts.forms.Action as action
use Rattle.sheet_rules.specs.contracts.forms.Ending as ending
use Rattle.sheet_rules.specs.contracts.forms.Guard as guard
use Rattle.sheet_rules.specs.contracts.forms.Branch as branch
use Rattle.sheet_rules.specs.contracts.forms.Rule as rule
use Rattle.sheet_rules.specs.contracts.forms.Register as register

pub val_sync : IsSync (val.the_field).row
val_sync = search (sendable, crosses, vals.sync-Val, text_sync, list_sync, value_sync) depth 20

named_send : IsSend (named.the_field).row
named_send = search (sendable, crosses, text_send, list_send) depth 20

named_sync : IsSync (named.the_field).row
named_sync = search (sendable, crosses, text_sync, list_sync) depth 20

body_send : IsSend (body.the_field).row
body_send = search (sendable, crosses, bodies.send-Body, text_send, list_send, box_send, named_send) depth 20

body_sync : IsSync (body.the_field).row
body_sync = search (sendable, crosses, bodies.sync-Body, text_sync, list_sync, box_sync, named_sync) depth 20

core_send : IsSend (core.the_field).row
core_send = search (sendable, crosses, bodies.send-Core, text_send, list_send, box_send, named_send) depth 20

core_sync : IsSync (core.the_field).row
core_sync = search (sendable, crosses, bodies.sync-Core, text_sync, list_sync, box_sync, named_sync) depth 20

reference_send : IsSend (reference.the_field).row
reference_send = search (sendable, crosses, list_send, core_send) depth 20

reference_sync : IsSync (reference.the_field).row
reference_sync = search (sendable, crosses, list_sync, core_sync) depth 20

register_send : IsSend (register.the_field).row
register_send = search (sendable, crosses, text_send, reference_send, val_send) depth 20

register_sync : IsSync (register.the_field).row
register_sync = search (sendable, crosses, text_sync, reference_sync, val_sync) depth 20

ref_send : IsSend (ref.the_field).row
ref_send = search (sendable, crosses, list_send) depth 20

ref_sync : IsSync (ref.the_field).row
ref_sync = search (sendable, crosses, list_sync) depth 20

expr_send : IsSend (expr.the_field).row
expr_send = search (sendable, crosses, exprs.send-Expr, list_send, box_send, ref_send, val_send) depth 20

expr_sync : IsSync (expr.the_field).row
expr_sync = search (sendable, crosses, exprs.sync-Expr, list_sync, box_sync, ref_sync, val_sync) depth 20

cond_send : IsSend (cond.the_field).row
cond_send = search (sendable, crosses, conds.send-Cond, box_send, ref_send, expr_send) depth 20

cond_sync : IsSync (cond.the_field).row
cond_sync = search (sendable, crosses, conds.sync-Cond, box_sync, ref_sync, expr_sync) depth 20

action_send : IsSend (action.the_field).row
action_send = search (sendable, crosses, expr_send) depth 20

action_sync : IsSync (action.the_field).row
action_sync = search (sendable, crosses, expr_sync) depth 20

ending_send : IsSend (ending.the_field).row
ending_send = search (sendable, crosses, ref_send, expr_send) depth 20

ending_sync : IsSync (ending.the_field).row
ending_sync = search (sendable, crosses, ref_sync, expr_sync) depth 20

guard_send : IsSend (guard.the_field).row
guard_send = search (sendable, crosses, cond_send, text_send, expr_send) depth 20

guard_sync : IsSync (guard.the_field).row
guard_sync = search (sendable, crosses, cond_sync, text_sync, expr_sync) depth 20

branch_send : IsSend (branch.the_field).row
branch_send = search (sendable, crosses, cond_send, list_send, guard_send, action_send, ending_send) depth 20

branch_sync : IsSync (branch.the_field).row
branch_sync = search (sendable, crosses, cond_sync, list_sync, guard_sync, action_sync, ending_sync) depth 20

pub rule_send : IsSend (rule.the_field).row
rule_send = search (sendable, crosses, text_send, list_send, branch_send) depth 20

pub rule_sync : IsSync (rule.the_field).row
rule_sync = search (sendable, crosses, text_sync, list_sync, branch_sync) depth 20

interfaces_send : IsSend (interfaces.the_field).row
interfaces_send = search (sendable, crosses, maps.crosses, set_send, list_send, checked_send) depth 20

interfaces_sync : IsSync (interfaces.the_field).row
interfaces_sync = search (sendable, crosses, maps.crosses, set_sync, list_sync, checked_sync) depth 20

places_send : IsSend (places.the_field).row
places_send = search (sendable, crosses, maps.crosses) depth 20

places_sync : IsSync (places.the_field).row
places_sync = search (sendable, crosses, maps.crosses) depth 20

info_send : IsSend (info.the_field).row
info_send = search (sendable, crosses, text_send) depth 20

info_sync : IsSync (info.the_field).row
info_sync = search (sendable, crosses, text_sync) depth 20

contents_send : IsSend (contents.the_field).row
contents_send = search (sendable, crosses, info_send, interfaces_send, list_send, register_send, rule_send) depth 20

contents_sync : IsSync (contents.the_field).row
contents_sync = search (sendable, crosses, info_sync, interfaces_sync, list_sync, register_sync, rule_sync) depth 20

pub sheet_send : IsSend sheet.the_row
sheet_send = search (sendable, crosses, contents_send, places_send) depth 20

pub sheet_sync : IsSync sheet.the_row
sheet_sync = search (sendable, crosses, contents_sync, places_sync) depth 20

pub registers_send : IsSend (registers.the_field).row
registers_send = search (sendable, crosses, val_send) depth 20
