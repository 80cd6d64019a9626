-- Which outcomes are typed, and which are of one kind.
use Rattle.std.specs.Prelude.{Bool, true, false, ◌&&◌, Option, Some, option_and_then}
use Rattle.call_form.specs.declared.Raw.{Raw}
use Rattle.call_form.specs.declared.Raw.TheVariants.{Echo, Discard}
use Rattle.sheet_rules.specs.Types.{Typ, body_typ, array_part, passes}
use Rattle.sheet_rules.specs.Settings.{Setting, ref_typ}
use Rattle.sheet_rules.specs.Gives.{gives}
use Rattle.sheet_rules.specs.declared.forms.Expr.{Expr}
use Rattle.sheet_rules.specs.declared.forms.Ref.{Ref}
use Rattle.sheet_rules.specs.declared.forms.Ref.TheVariants as ref
use Rattle.sheet_rules.specs.declared.forms.Ending.{Ending}
use Rattle.sheet_rules.specs.declared.forms.Ending.TheVariants as ending

-- an expression gives the method's reply struct
abbrev pub gives_reply : Setting → Expr → Bool
gives_reply s expr = gives s expr (body_typ s.scope s.output)

-- the same, with items of a type
abbrev pub with_item : Setting → Option Typ → Setting
with_item s item = record {
  interfaces = s.interfaces;
  registers = s.registers;
  scope = s.scope;
  input = s.input;
  output = s.output;
  item = item;
}

abbrev pub is_no_item : Ref → Bool
is_no_item (ref.Item path) = false
is_no_item r = true

-- each item of an array is given the reply
abbrev pub gives_each : Setting → Ref → Expr → Bool
gives_each s over each = passes (λ part. gives_reply (with_item s (Some part)) each) (option_and_then array_part (ref_typ s over))

abbrev pub ending_is_typed : Setting → Ending → Bool
ending_is_typed s (ending.Reply expr) = gives_reply s expr
ending_is_typed s (ending.Stream over each last) = is_no_item over && gives_each s over each && gives_reply s last
ending_is_typed s (ending.Upgrade raw expr) = gives_reply s expr

-- two outcomes are of one kind, and upgrades have the same use of raw bytes
abbrev pub same_raw : Raw → Raw → Bool
same_raw Echo Echo = true
same_raw Discard Discard = true
same_raw one other = false

abbrev pub same_kind : Ending → Ending → Bool
same_kind (ending.Reply a) (ending.Reply b) = true
same_kind (ending.Stream r a b) (ending.Stream q c d) = true
same_kind (ending.Upgrade raw a) (ending.Upgrade other b) = same_raw raw other
same_kind one other = false
