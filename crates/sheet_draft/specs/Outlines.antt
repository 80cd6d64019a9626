-- The form of a sheet's object and of its registers. The members of an object are told in the byte
-- order of their names, in which they are read; an object with other members is none of these.
use Rattle.std.specs.Prelude.{ℕ, Bool, ◌==◌, ◌&&◌, not, List, [], ◌∷◌, codes, if◌then◌else◌, Option, Some, None}
use Rattle.std.specs.Str.{bytes_eq}
use Rattle.std.specs.List.{list_any}
use Rattle.serde_json.specs.Data.{Data, Items, array, no_items, item, Members}
use Rattle.serde_json.specs.Find.{as_str, as_array, as_object, as_number, as_u64}
use Rattle.idl_tree.specs.Names.{Bytes, is_field_name}
use Rattle.expression_draft.specs.Members.{◌>>=◌, has_no_member, named, next, only_if}
use Rattle.sheet_draft.specs.Rules.{branches_in}
use Rattle.sheet_draft.specs.declared.branches.BranchParts.{BranchParts}
use Rattle.sheet_draft.specs.declared.drafts.Info.{Info}
use Rattle.sheet_draft.specs.declared.drafts.RegisterDraft.{RegisterDraft}
use Rattle.sheet_draft.specs.declared.outlines.Contents.{Contents}
use Rattle.sheet_draft.specs.declared.outlines.Outline.{Outline}
use Rattle.sheet_draft.specs.declared.outlines.Version.{Version}
use Rattle.sheet_draft.specs.declared.outlines.Version.TheVariants.{One, Two}

-- {"initial":J,"name":NAME,"scope":INTERFACE,"type":TEXT}
abbrev pub register_texts : Members → Option ((Bytes × Bytes × Bytes) × Members)
register_texts all = do
  name ← named (codes "name") as_str all
  scope ← named (codes "scope") as_str name.1
  of ← named (codes "type") as_str scope.1
  Some ((name.0, scope.0, of.0), of.1)

unfoldable pub register_in : Members → Option RegisterDraft
register_in all = do
  initial ← next (codes "initial") all
  texts ← register_texts initial.1
  only_if (has_no_member texts.1)
      (Some (record { name = texts.0.0; scope = texts.0.1; of = texts.0.2; initial = initial.0 }))

abbrev pub register_of : Data → Option RegisterDraft
register_of d = as_object d >>= register_in

-- one of these names
abbrev pub stood : List Bytes → Bytes → Bool
stood before name = list_any (λ other. bytes_eq other name) before

-- a register whose name is a field name that has not stood before
abbrev pub register_behind : (Bytes → Bool) → Data → Option RegisterDraft
register_behind has_stood d = do
  register ← register_of d
  only_if (is_field_name register.name && not (has_stood register.name)) (Some register)

abbrev pub version_numbered : ℕ → Option Version
version_numbered n = if n == 1 then Some One else (if n == 2 then Some Two else None)

-- the whole number 1 or 2
abbrev pub version_of : Data → Option Version
version_of d = as_number d >>= as_u64 >>= version_numbered

-- {"interfaces":[..],"product":TEXT,"registers":[..],"rules":{..},"sheet":1,"url":TEXT,"vendor":TEXT,
-- "version":TEXT}, or with 2
abbrev pub tables_in : Members → Option ((Items × Members) × Members)
tables_in all = do
  registers ← named (codes "registers") as_array all
  rules ← named (codes "rules") as_object registers.1
  Some ((registers.0, rules.0), rules.1)

abbrev pub contents_in : Members → Option ((Contents × Bytes) × Members)
contents_in all = do
  interfaces ← named (codes "interfaces") as_array all
  product ← named (codes "product") as_str interfaces.1
  tables ← tables_in product.1
  let contents : Contents = record { interfaces = interfaces.0; registers = tables.0.0; rules = tables.0.1 }
  Some ((contents, product.0), tables.1)

abbrev pub info_in : Bytes → Members → Option (Info × Members)
info_in product all = do
  url ← named (codes "url") as_str all
  vendor ← named (codes "vendor") as_str url.1
  version ← named (codes "version") as_str vendor.1
  let info : Info = record { vendor = vendor.0; product = product; version = version.0; url = url.0 }
  Some (info, version.1)

unfoldable pub outline_in : Members → Option Outline
outline_in all = do
  contents ← contents_in all
  sheet ← named (codes "sheet") version_of contents.1
  info ← info_in contents.0.1 sheet.1
  only_if (has_no_member info.1) (Some (record { info = info.0; sheet = sheet.0; contents = contents.0.0 }))

abbrev pub outline_of : Data → Option Outline
outline_of d = as_object d >>= outline_in

-- the branches of a rule: in version 1 it is a branch itself, and in version 2 an array of at least one
abbrev pub branches_by : Version → Data → Option (List BranchParts)
branches_by One d = branches_in (item d no_items)
branches_by Two (array (item d behind)) = branches_in (item d behind)
branches_by Two d = None

-- what stands before the last `.`, and behind it
abbrev pub with_first : ℕ → Bytes → Option (Bytes × Bytes) → Option (Bytes × Bytes)
with_first b bytes (Some parts) = Some (b ∷ parts.0, parts.1)
with_first b bytes None = if b == 46 then Some ([], bytes) else None

abbrev pub at_last_dot : Bytes → Option (Bytes × Bytes)
at_last_dot [] = None
at_last_dot (b ∷ bytes) = with_first b bytes (at_last_dot bytes)
