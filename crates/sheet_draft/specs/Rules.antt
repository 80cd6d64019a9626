-- The forms of rules: guards, steps, outcomes and branches. The members of an object are told in the
-- byte order of their names, in which they are read; an object with other members is none of these.
use Rattle.std.specs.Prelude.{Bool, List, [], ◌∷◌, codes, if◌then◌else◌, Option, Some, None, is_none, is_some}
use Rattle.std.specs.Str.{bytes_eq}
use Rattle.serde_json.specs.Data.{Data, Items, no_items, item, Members}
use Rattle.serde_json.specs.Find.{as_str, as_array, as_object}
use Rattle.idl_tree.specs.Names.{Bytes}
use Rattle.call_form.specs.declared.Raw.{Raw}
use Rattle.call_form.specs.declared.Raw.TheVariants.{Echo, Discard}
use Rattle.expression_draft.specs.Members.{◌>>=◌, only_if, has_no_item, has_no_member, begins_with, named, next, optional}
use Rattle.expression_draft.specs.Expressions.{expr_of, ref_of, cond_of}
use Rattle.sheet_draft.specs.declared.drafts.GuardDraft.{GuardDraft}
use Rattle.sheet_draft.specs.declared.drafts.ActionDraft.{ActionDraft}
use Rattle.sheet_draft.specs.declared.drafts.ActionDraft.TheVariants.{Set, Push, Put, Drop}
use Rattle.sheet_draft.specs.declared.drafts.EndingDraft.{EndingDraft}
use Rattle.sheet_draft.specs.declared.drafts.EndingDraft.TheVariants.{Reply, Stream, Upgrade}
use Rattle.sheet_draft.specs.declared.branches.BranchParts.{BranchParts}

-- {"else":NAME,"need":COND,"with":E}
unfoldable pub guard_in : Members → Option GuardDraft
guard_in all = do
  error ← named (codes "else") as_str all
  need ← named (codes "need") cond_of error.1
  with ← named (codes "with") expr_of need.1
  only_if (has_no_member with.1) (Some (record { need = need.0; error = error.0; with = with.0 }))

abbrev pub guard_of : Data → Option GuardDraft
guard_of d = as_object d >>= guard_in

-- {"set":r,"to":E}
unfoldable pub set_in : Members → Option ActionDraft
set_in all = do
  register ← named (codes "set") as_str all
  value ← named (codes "to") expr_of register.1
  only_if (has_no_member value.1) (Some (Set register.0 value.0))

-- {"push":r,"value":E}
unfoldable pub push_in : Members → Option ActionDraft
push_in all = do
  register ← named (codes "push") as_str all
  value ← named (codes "value") expr_of register.1
  only_if (has_no_member value.1) (Some (Push register.0 value.0))

-- {"key":E,"put":r,"value":E}
unfoldable pub put_in : Members → Option ActionDraft
put_in all = do
  key ← named (codes "key") expr_of all
  register ← named (codes "put") as_str key.1
  value ← named (codes "value") expr_of register.1
  only_if (has_no_member value.1) (Some (Put register.0 key.0 value.0))

-- {"drop":r,"key":E}
unfoldable pub drop_in : Members → Option ActionDraft
drop_in all = do
  register ← named (codes "drop") as_str all
  key ← named (codes "key") expr_of register.1
  only_if (has_no_member key.1) (Some (Drop register.0 key.0))

-- no two forms of steps begin with the same name
abbrev pub step_in : Members → Option ActionDraft
step_in all = if begins_with (codes "set") all then set_in all
    else (if begins_with (codes "push") all then push_in all
    else (if begins_with (codes "key") all then put_in all else drop_in all))

abbrev pub step_of : Data → Option ActionDraft
step_of d = as_object d >>= step_in

-- {"each":E,"last":E,"stream":REF}
unfoldable pub stream_in : Members → Option EndingDraft
stream_in all = do
  each ← named (codes "each") expr_of all
  last ← named (codes "last") expr_of each.1
  over ← named (codes "stream") ref_of last.1
  only_if (has_no_member over.1) (Some (Stream over.0 each.0 last.0))

abbrev pub raw_named : Bytes → Option Raw
raw_named word = if bytes_eq word (codes "echo") then Some Echo
    else (if bytes_eq word (codes "discard") then Some Discard else None)

abbrev pub raw_of : Data → Option Raw
raw_of d = as_str d >>= raw_named

-- {"reply":E} and {"reply":E,"upgrade":"echo"}, or with "discard"
unfoldable pub reply_in : Members → Option EndingDraft
reply_in all = do
  reply ← named (codes "reply") expr_of all
  if has_no_member reply.1 then Some (Reply reply.0) else (do
    raw ← named (codes "upgrade") raw_of reply.1
    only_if (has_no_member raw.1) (Some (Upgrade raw.0 reply.0)))

abbrev pub outcome_in : Members → Option EndingDraft
outcome_in all = if begins_with (codes "each") all then stream_in all else reply_in all

abbrev pub outcome_of : Data → Option EndingDraft
outcome_of d = as_object d >>= outcome_in

-- the items of the first member, which is an array of this name; none where it has another name
abbrev pub items_if_any : Option Data → Option Items
items_if_any None = Some no_items
items_if_any (Some d) = as_array d

abbrev pub items_named : Bytes → Members → Option (Items × Members)
items_named name all = do
  let found = optional name all
  items ← items_if_any found.0
  Some (items, found.1)

-- {"guards":[..],"outcome":{..},"steps":[..],"when":{..}}, of which `outcome` alone must be there
unfoldable pub parts_in : Members → Option BranchParts
parts_in all = do
  guards ← items_named (codes "guards") all
  outcome ← next (codes "outcome") guards.1
  steps ← items_named (codes "steps") outcome.1
  let when = optional (codes "when") steps.1
  only_if (has_no_member when.1) (Some (record { when = when.0; guards = guards.0; steps = steps.0; outcome = outcome.0 }))

abbrev pub parts_of : Data → Option BranchParts
parts_of d = as_object d >>= parts_in

-- a branch: the last has no condition, and each other has one
abbrev pub branch_of : Bool → Data → Option BranchParts
branch_of is_last d = do
  parts ← parts_of d
  only_if (if is_last then is_none parts.when else is_some parts.when) (Some parts)

abbrev pub branches_in : Items → Option (List BranchParts)
branches_in no_items = Some []
branches_in (item d behind) = do
  branch ← branch_of (has_no_item behind) d
  branches ← branches_in behind
  Some (branch ∷ branches)
