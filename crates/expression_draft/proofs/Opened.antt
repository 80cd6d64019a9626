-- expressions and conditions, opened as the reader opens them
use Rattle.std.proofs.Common.{◌≡◌, Option, Some, None, option_map, refl, sym, ap}
use Rattle.serde_json.specs.Data.{Data, null, boolean, number, string, array, object, Items, no_items, item, no_members, member}
use Rattle.serde_json.specs.Find.{as_array}
use Rattle.idl_tree.specs.Names.{Bytes}
use Rattle.expression_draft.specs.Members.{◌>>=◌, sole_of}
use Rattle.expression_draft.specs.Expressions.{ref_of, expr_of, expr_by, expr_named, cond_of, cond_by, cond_named, last_expr, two_in, two_exprs, at_in}
use Rattle.expression_draft.specs.declared.drafts.RefDraft.{RefDraft}
use Rattle.expression_draft.specs.declared.drafts.ExprDraft.{ExprDraft}
use Rattle.expression_draft.specs.declared.drafts.ExprDraft.TheVariants.{Sum, At}
use Rattle.expression_draft.specs.declared.drafts.CondDraft.{CondDraft}
use Rattle.expression_draft.specs.declared.drafts.CondDraft.TheVariants.{Not}
use Rattle.expression_draft.specs.declared.forms.ExprForm.TheVariants as form
use Rattle.expression_draft.specs.declared.forms.CondForm.TheVariants as cond_form

abbrev pub opened : Option (Bytes × Data) → Option ExprDraft
opened only = only >>= λ part. expr_by (expr_named part.0) part.1

pub expr_is : (d : Data) → expr_of d ≡ opened (sole_of d)
expr_is null = refl
expr_is (boolean b) = refl
expr_is (number n) = refl
expr_is (string s) = refl
expr_is (array ds) = refl
expr_is (object no_members) = refl
expr_is (object (member name d no_members)) = refl
expr_is (object (member name d (member other e ms))) = refl

abbrev pub opened_cond : Option (Bytes × Data) → Option CondDraft
opened_cond only = only >>= λ part. cond_by (cond_named part.0) part.1

pub cond_is : (d : Data) → cond_of d ≡ opened_cond (sole_of d)
cond_is null = refl
cond_is (boolean b) = refl
cond_is (number n) = refl
cond_is (string s) = refl
cond_is (array ds) = refl
cond_is (object no_members) = refl
cond_is (object (member name d no_members)) = refl
cond_is (object (member name d (member other e ms))) = refl

pub not_is : (d : Data) → cond_by (Some cond_form.Not) d ≡ option_map Not (cond_of d)
not_is null = refl
not_is (boolean b) = refl
not_is (number n) = refl
not_is (string s) = refl
not_is (array ds) = refl
not_is (object no_members) = refl
not_is (object (member name d no_members)) = refl
not_is (object (member name d (member other e ms))) = refl

-- two items, the first of which is read
abbrev pair_behind : Option ExprDraft → Items → Option (ExprDraft × ExprDraft)
pair_behind x rest = (x >>= λ (a : ExprDraft). Some (a, rest)) >>= λ (one : ExprDraft × Items).
    last_expr one.1 >>= λ (other : ExprDraft). Some (one.0, other)

no_pair : (x : Option ExprDraft) (rest : Items) → last_expr rest ≡ None → pair_behind x rest ≡ None
no_pair None rest h = refl
no_pair (Some a) rest h = ap (λ (found : Option ExprDraft). found >>= λ (other : ExprDraft). Some (a, other)) h

abbrev summed : ExprDraft × ExprDraft → ExprDraft
summed parts = Sum parts.0 parts.1

sum_of_two : (a : ExprDraft) (y : Option ExprDraft)
    → (y >>= λ (b : ExprDraft). Some (Sum a b)) ≡ option_map summed (y >>= λ (b : ExprDraft). Some (a, b))
sum_of_two a None = refl
sum_of_two a (Some b) = refl

sum_behind : (x : Option ExprDraft) (d : Data)
    → (x >>= λ (a : ExprDraft). expr_of d >>= λ (b : ExprDraft). Some (Sum a b)) ≡ option_map summed (pair_behind x (item d no_items))
sum_behind None d = refl
sum_behind (Some a) d = sum_of_two a (expr_of d)

pub sum_is : (d : Data) → expr_by (Some form.Sum) d ≡ option_map summed (two_exprs d)
sum_is null = refl
sum_is (boolean b) = refl
sum_is (number n) = refl
sum_is (string s) = refl
sum_is (array no_items) = refl
sum_is (array (item one no_items)) = ap (option_map summed) (sym (no_pair (expr_of one) no_items refl))
sum_is (array (item one (item other no_items))) = sum_behind (expr_of one) other
sum_is (array (item one (item other (item d ds)))) =
    ap (option_map summed) (sym (no_pair (expr_of one) (item other (item d ds)) refl))
sum_is (object ms) = refl

-- a reference that is read, and two items
abbrev look_up : Option RefDraft → Items → Option ExprDraft
look_up x rest = (x >>= λ (a : RefDraft). Some (a, rest)) >>= λ (map : RefDraft × Items).
    two_in map.1 >>= λ (parts : ExprDraft × ExprDraft). Some (At map.0 parts.0 parts.1)

no_look_up : (x : Option RefDraft) (rest : Items) → two_in rest ≡ None → look_up x rest ≡ None
no_look_up None rest h = refl
no_look_up (Some a) rest h = ap (λ (found : Option (ExprDraft × ExprDraft)). found >>= λ (parts : ExprDraft × ExprDraft). Some (At a parts.0 parts.1)) h

at_of_two : (map : RefDraft) (a : ExprDraft) (y : Option ExprDraft)
    → (y >>= λ (b : ExprDraft). Some (At map a b))
    ≡ ((y >>= λ (b : ExprDraft). Some (a, b)) >>= λ (parts : ExprDraft × ExprDraft). Some (At map parts.0 parts.1))
at_of_two map a None = refl
at_of_two map a (Some b) = refl

at_of_pair : (map : RefDraft) (x : Option ExprDraft) (d : Data)
    → (x >>= λ (a : ExprDraft). expr_of d >>= λ (b : ExprDraft). Some (At map a b))
    ≡ (pair_behind x (item d no_items) >>= λ (parts : ExprDraft × ExprDraft). Some (At map parts.0 parts.1))
at_of_pair map None d = refl
at_of_pair map (Some a) d = at_of_two map a (expr_of d)

at_behind : (x : Option RefDraft) (key other : Data)
    → (x >>= λ (map : RefDraft). expr_of key >>= λ (a : ExprDraft). expr_of other >>= λ (b : ExprDraft). Some (At map a b))
    ≡ look_up x (item key (item other no_items))
at_behind None key other = refl
at_behind (Some map) key other = at_of_pair map (expr_of key) other

pub at_is : (d : Data) → expr_by (Some form.At) d ≡ (as_array d >>= at_in)
at_is null = refl
at_is (boolean b) = refl
at_is (number n) = refl
at_is (string s) = refl
at_is (array no_items) = refl
at_is (array (item over no_items)) = sym (no_look_up (ref_of over) no_items refl)
at_is (array (item over (item key no_items))) =
    sym (no_look_up (ref_of over) (item key no_items) (no_pair (expr_of key) no_items refl))
at_is (array (item over (item key (item other no_items)))) = at_behind (ref_of over) key other
at_is (array (item over (item key (item other (item d ds))))) =
    sym (no_look_up (ref_of over) (item key (item other (item d ds))) (no_pair (expr_of key) (item other (item d ds)) refl))
at_is (object ms) = refl
