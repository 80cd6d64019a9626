-- The parameters of a call nest 126 deep at most.
use Rattle.std.proofs.Common.{unwrap_or, max, ◌≡◌, ℕ, suc, ◌≤◌, Bool, true, false, cond, List, codes, Option, Some, None, Ok, Err, Result, refl, sym, ap, ◌∙◌, subst, arith}
use Rattle.std.specs.Ordering.{nat_cmp, match_ordering}
use Rattle.std.specs.Cmp.Lexicographic.{slice_cmp}
use Rattle.std.specs.declared.cmp.Ordering.{Ordering}
use Rattle.std.specs.declared.cmp.Ordering.TheVariants.{Less, Equal, Greater}
use Rattle.serde_json.specs.Data.{Data, Members, no_members, member, object, null, boolean, string, number, array, depth, members_depth}
use Rattle.serde_json.specs.Read.{read, max_depth}
use Rattle.serde_json.specs.Find.{get, get_member}
use Rattle.serde_json.proofs.Nesting.{depth-read}
use Rattle.call_form.specs.declared.Call.{Call}
use Rattle.call_form.specs.declared.CallFault.{CallFault}
use Rattle.call_form.specs.declared.CallFault.TheVariants.{NotObject}
use Rattle.call_form.specs.CallOf.{◌>>=◌, call_of, call_in, utf8_of, json_of, object_of, method_of, flag_of, parameters_of, found_json}

abbrev ok_or : {A : Type 0} → A → Result A CallFault → A
ok_or x (Ok a) = a
ok_or x (Err fault) = x

ok_same : {A : Type 0} (x y : A) (r : Result A CallFault) → r ≡ Ok y → r ≡ Ok x → x ≡ y
ok_same x y r e f = ap (ok_or x) (sym f ∙ e)

-- what a way that ends in Ok went through
bind_ok : {A B : Type 0} (r : Result A CallFault) (f : A → Result B CallFault) (b : B) → (r >>= f) ≡ Ok b → (a : A) × (r ≡ Ok a) × (f a ≡ Ok b)
bind_ok (Ok a) f b e = (a, refl, e)
bind_ok (Err fault) f b e = absurd (cc)

abbrev pub IsShallowCall : Call → Type 0
IsShallowCall call = depth call.parameters ≤ 126

-- a member nests no deeper than the members
by_order : (o : Ordering) (found : Option Data) (x d : Data) (n : ℕ) → (found ≡ Some d → depth d ≤ n) → match_ordering o found (Some x) found ≡ Some d → depth d ≤ max (depth x) n
by_order Less found x d n low e = let here = low e in omega arith
by_order Equal found x d n low e = let here = ap depth (ap (λ (o : Option Data). unwrap_or o x) e) in omega arith
by_order Greater found x d n low e = let here = low e in omega arith

member_depth : (key : List ℕ) (ms : Members) (d : Data) → get_member key ms ≡ Some d → depth d ≤ members_depth ms
member_depth key no_members d e = absurd (cc)
member_depth key (member l x ms) d e = by_order (slice_cmp nat_cmp key l) (get_member key ms) x d (members_depth ms) (member_depth key ms d) e

-- a member of an object nests less deep than the object
get_depth : (key : List ℕ) (tree d : Data) → get key tree ≡ Some d → suc (depth d) ≤ depth tree
get_depth key (object ms) d e = let low = member_depth key ms d e in omega arith
get_depth key null d e = absurd (cc)
get_depth key (boolean b) d e = absurd (cc)
get_depth key (number n) d e = absurd (cc)
get_depth key (string s) d e = absurd (cc)
get_depth key (array ds) d e = absurd (cc)

parameters_depth : (tree : Data) (found : Option Data) (p : Data) → depth tree ≤ 127 → ((d : Data) → found ≡ Some d → suc (depth d) ≤ depth tree)
    → parameters_of found ≡ Ok p → depth p ≤ 126
parameters_depth tree None p most low e = subst (λ (d : Data). depth d ≤ 126) (ok_same _ p _ e refl) (omega arith)
parameters_depth tree (Some null) p most low e = subst (λ (d : Data). depth d ≤ 126) (ok_same _ p _ e refl) (omega arith)
parameters_depth tree (Some (object ms)) p most low e = subst (λ (d : Data). depth d ≤ 126) (ok_same _ p _ e refl) (let here = low (object ms) refl in omega arith)
parameters_depth tree (Some (boolean b)) p most low e = absurd (cc)
parameters_depth tree (Some (number n)) p most low e = absurd (cc)
parameters_depth tree (Some (string s)) p most low e = absurd (cc)
parameters_depth tree (Some (array ds)) p most low e = absurd (cc)

-- how a call is read from an object, from each of its members on
abbrev made : List ℕ → Bool → Bool → Bool → Data → Result Call CallFault
made word oneway more upgrade given = Ok (record { method = word; parameters = given; oneway = oneway; more = more; upgrade = upgrade })

abbrev from_parameters : Data → List ℕ → Bool → Bool → Bool → Result Call CallFault
from_parameters tree word oneway more upgrade = parameters_of (get (codes "parameters") tree) >>= made word oneway more upgrade

abbrev from_upgrade : Data → List ℕ → Bool → Bool → Result Call CallFault
from_upgrade tree word oneway more = flag_of (get (codes "upgrade") tree) >>= from_parameters tree word oneway more

abbrev from_more : Data → List ℕ → Bool → Result Call CallFault
from_more tree word oneway = flag_of (get (codes "more") tree) >>= from_upgrade tree word oneway

abbrev from_oneway : Data → List ℕ → Result Call CallFault
from_oneway tree word = flag_of (get (codes "oneway") tree) >>= from_more tree word

-- the call of an object is no deeper than that
call_in_depth : (tree : Data) (call : Call) → depth tree ≤ 127 → call_in tree ≡ Ok call → IsShallowCall call
unfolding call_in
call_in_depth tree call most e =
    let word = bind_ok (method_of (get (codes "method") tree)) (from_oneway tree) call e in
    let oneway = bind_ok (flag_of (get (codes "oneway") tree)) (from_more tree word.0) call word.2 in
    let more = bind_ok (flag_of (get (codes "more") tree)) (from_upgrade tree word.0 oneway.0) call oneway.2 in
    let upgrade = bind_ok (flag_of (get (codes "upgrade") tree)) (from_parameters tree word.0 oneway.0 more.0) call more.2 in
    let given = bind_ok (parameters_of (get (codes "parameters") tree)) (made word.0 oneway.0 more.0 upgrade.0) call upgrade.2 in
    let low = parameters_depth tree (get (codes "parameters") tree) given.0 most (get_depth (codes "parameters") tree) given.1 in
    subst IsShallowCall (ok_same (record { method = word.0; parameters = given.0; oneway = oneway.0; more = more.0; upgrade = upgrade.0 }) call (made word.0 oneway.0 more.0 upgrade.0 given.0) given.2 refl) low

abbrev from_message : Data → Result Call CallFault
from_message tree = object_of tree >>= (λ message. call_in message)

abbrev from_text : List ℕ → Result Call CallFault
from_text text = json_of text >>= from_message

pub call_depth : (payload : List ℕ) (call : Call) → call_of payload ≡ Ok call → IsShallowCall call
unfolding call_of
call_depth payload call e =
    let text = bind_ok (utf8_of payload) from_text call e in
    let tree = bind_ok (json_of text.0) from_message call text.2 in
    let message = bind_ok (object_of tree.0) (λ (m : Data). call_in m) call tree.2 in
    call_in_depth message.0 call (whole text.0 tree.0 message.0 tree.1 message.1) message.2
  where
    found : (o : Option Data) (d : Data) → found_json o ≡ Ok d → o ≡ Some d
    found None d e = absurd (cc)
    found (Some x) d e = ap Some (ok_same x d (Ok x) e refl)

    same : (b : Bool) (x d : Data) → cond b (Ok x) (Err NotObject) ≡ Ok d → x ≡ d
    same true x d e = ok_same x d (Ok x) e refl
    same false x d e = absurd (cc)

    whole : (text : List ℕ) (x d : Data) → json_of text ≡ Ok x → object_of x ≡ Ok d → depth d ≤ 127
    whole text x d e f = subst (λ (t : Data). depth t ≤ 127) (same _ x d f) (depth-read text x (found (read text) x e))
