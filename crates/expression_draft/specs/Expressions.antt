-- The forms of references, expressions and conditions: objects with one member.
use Rattle.std.specs.Prelude.{List, [], ◌∷◌, codes, if◌then◌else◌, Option, Some, None, option_map}
use Rattle.std.specs.Str.{bytes_eq}
use Rattle.serde_json.specs.Data.{Data, array, object, Items, no_items, item, Members, no_members, member}
use Rattle.serde_json.specs.Find.{as_array}
use Rattle.idl_tree.specs.Names.{Bytes}
use Rattle.expression_draft.specs.Members.{◌>>=◌, first_item, sole_item, sole_of, texts_of}
use Rattle.expression_draft.specs.declared.drafts.RefDraft.{RefDraft}
use Rattle.expression_draft.specs.declared.drafts.RefDraft.TheVariants.{Param, Register, Item}
use Rattle.expression_draft.specs.declared.drafts.ExprDraft.{ExprDraft}
use Rattle.expression_draft.specs.declared.drafts.ExprDraft.TheVariants.{From, Const, Struct, Sum, Length, At}
use Rattle.expression_draft.specs.declared.drafts.ExprDraft.TheVariants as expr
use Rattle.expression_draft.specs.declared.drafts.CondDraft.{CondDraft}
use Rattle.expression_draft.specs.declared.drafts.CondDraft.TheVariants.{Equal, Less, Present, Has, Not}
use Rattle.expression_draft.specs.declared.forms.RefForm.{RefForm}
use Rattle.expression_draft.specs.declared.forms.RefForm.TheVariants as ref_form
use Rattle.expression_draft.specs.declared.forms.ExprForm.{ExprForm}
use Rattle.expression_draft.specs.declared.forms.ExprForm.TheVariants as expr_form
use Rattle.expression_draft.specs.declared.forms.CondForm.{CondForm}
use Rattle.expression_draft.specs.declared.forms.CondForm.TheVariants as cond_form

-- the reference that a member of this name makes
abbrev pub ref_named : Bytes → Option RefForm
ref_named name = if bytes_eq name (codes "param") then Some ref_form.Param
    else (if bytes_eq name (codes "register") then Some ref_form.Register
    else (if bytes_eq name (codes "item") then Some ref_form.Item else None))

-- the expression that a member of this name makes
abbrev pub expr_named : Bytes → Option ExprForm
expr_named name = if bytes_eq name (codes "const") then Some expr_form.Const
    else (if bytes_eq name (codes "struct") then Some expr_form.Struct
    else (if bytes_eq name (codes "list") then Some expr_form.Items
    else (if bytes_eq name (codes "sum") then Some expr_form.Sum
    else (if bytes_eq name (codes "length") then Some expr_form.Length
    else (if bytes_eq name (codes "at") then Some expr_form.At
    else option_map expr_form.From (ref_named name))))))

-- the condition that a member of this name makes
abbrev pub cond_named : Bytes → Option CondForm
cond_named name = if bytes_eq name (codes "equal") then Some cond_form.Equal
    else (if bytes_eq name (codes "less") then Some cond_form.Less
    else (if bytes_eq name (codes "present") then Some cond_form.Present
    else (if bytes_eq name (codes "has") then Some cond_form.Has
    else (if bytes_eq name (codes "not") then Some cond_form.Not else None))))

-- a path of at least one name
abbrev pub some_names : List Bytes → Option (List Bytes)
some_names [] = None
some_names (name ∷ names) = Some (name ∷ names)

-- {"param":[f, ..]}, {"register":[r, ..]} and {"item":[..]}
abbrev pub path_by : RefForm → List Bytes → Option RefDraft
path_by ref_form.Param names = option_map Param (some_names names)
path_by ref_form.Register names = option_map Register (some_names names)
path_by ref_form.Item names = Some (Item names)

abbrev pub ref_by : RefForm → Data → Option RefDraft
ref_by form d = texts_of d >>= path_by form

-- a reference
abbrev pub ref_of : Data → Option RefDraft
ref_of d = do
  only ← sole_of d
  form ← ref_named only.0
  ref_by form only.1

abbrev mutual
  -- an expression
  pub expr_of : Data → Option ExprDraft
  expr_of (object (member name d no_members)) = expr_by (expr_named name) d
  expr_of d = None

  -- {"const":J}, {"struct":{..}}, {"list":[E, ..]}, {"sum":[E, E]}, {"length":REF} and
  -- {"at":[REF, E, E]}
  pub expr_by : Option ExprForm → Data → Option ExprDraft
  expr_by None d = None
  expr_by (Some (expr_form.From form)) d = option_map From (ref_by form d)
  expr_by (Some expr_form.Const) d = Some (Const d)
  expr_by (Some expr_form.Struct) (object members) = option_map Struct (members_of members)
  expr_by (Some expr_form.Items) (array items) = option_map expr.Items (exprs_of items)
  expr_by (Some expr_form.Sum) (array (item one (item other no_items))) = do
    x ← expr_of one
    y ← expr_of other
    Some (Sum x y)
  expr_by (Some expr_form.Length) d = option_map Length (ref_of d)
  expr_by (Some expr_form.At) (array (item over (item key (item other no_items)))) = do
    map ← ref_of over
    k ← expr_of key
    x ← expr_of other
    Some (At map k x)
  expr_by form d = None

  pub exprs_of : Items → Option (List ExprDraft)
  exprs_of no_items = Some []
  exprs_of (item d ds) = do
    x ← expr_of d
    xs ← exprs_of ds
    Some (x ∷ xs)

  -- the members of a struct, in the byte order of their names
  pub members_of : Members → Option (List (Bytes × ExprDraft))
  members_of no_members = Some []
  members_of (member name d ds) = do
    x ← expr_of d
    xs ← members_of ds
    Some ((name, x) ∷ xs)

-- items that are one expression, two of them, or a reference and one or two of them
abbrev pub last_expr : Items → Option ExprDraft
last_expr items = sole_item items >>= expr_of

abbrev pub two_in : Items → Option (ExprDraft × ExprDraft)
two_in items = do
  one ← first_item expr_of items
  other ← last_expr one.1
  Some (one.0, other)

abbrev pub at_in : Items → Option ExprDraft
at_in items = do
  map ← first_item ref_of items
  parts ← two_in map.1
  Some (At map.0 parts.0 parts.1)

abbrev pub ref_and_expr_in : Items → Option (RefDraft × ExprDraft)
ref_and_expr_in items = do
  ref ← first_item ref_of items
  x ← last_expr ref.1
  Some (ref.0, x)

-- [E, E]
abbrev pub two_exprs : Data → Option (ExprDraft × ExprDraft)
two_exprs d = as_array d >>= two_in

-- [REF, E]
abbrev pub ref_and_expr : Data → Option (RefDraft × ExprDraft)
ref_and_expr d = as_array d >>= ref_and_expr_in

abbrev mutual
  -- a condition
  pub cond_of : Data → Option CondDraft
  cond_of (object (member name d no_members)) = cond_by (cond_named name) d
  cond_of d = None

  -- {"equal":[REF, E]}, {"less":[E, E]}, {"present":REF}, {"has":[REF, E]} and {"not":COND}
  pub cond_by : Option CondForm → Data → Option CondDraft
  cond_by None d = None
  cond_by (Some cond_form.Equal) d = option_map (λ parts. Equal parts.0 parts.1) (ref_and_expr d)
  cond_by (Some cond_form.Less) d = option_map (λ parts. Less parts.0 parts.1) (two_exprs d)
  cond_by (Some cond_form.Present) d = option_map Present (ref_of d)
  cond_by (Some cond_form.Has) d = option_map (λ parts. Has parts.0 parts.1) (ref_and_expr d)
  cond_by (Some cond_form.Not) (object (member name d no_members)) = option_map Not (cond_by (cond_named name) d)
  cond_by (Some cond_form.Not) d = None
