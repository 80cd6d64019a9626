-- What reading a payload as a call gives.
use Rattle.std.proofs.Common.{◌≡◌, ℕ, zero, suc, ◌≤◌, Bool, true, false, cond, List, length, take}
use Rattle.std.proofs.Common.{Option, Some, None, Result, Ok, Err, refl, sym, ◌∙◌, ap, subst}
use Rattle.std.proofs.Common.{inl, inr, arith, eq-eqb}
use Rattle.std.specs.Prelude.{IsUtf8, codes, ◌==◌}
use Rattle.std.specs.Str.{is_utf8}
use Rattle.std.specs.Str.Lossy.{utf8_valid_len, valid_len_up_to}
use Rattle.std.proofs.lemmas.Str.{utf8_valid_len-IsUtf8, IsUtf8-from_is_utf8, IsUtf8-nil}
use Rattle.std.proofs.lemmas.List.{take_all}
use Rattle.std.proofs.lemmas.Bool.Decides.{nat_tests}
use Rattle.serde_json.specs.Read.{read}
use Rattle.serde_json.specs.Find.{get}
use Rattle.serde_json.specs.Data.{Data, null, boolean, number, string, array, object}
use Rattle.call_form.specs.declared.Call.{Call}
use Rattle.call_form.specs.declared.CallFault.{CallFault}
use Rattle.call_form.specs.declared.CallFault.TheVariants.{NotUtf8, NotObject}
use Rattle.call_form.specs.CallOf.{IsObject, utf8_of, found_json, json_of, object_of}
use Rattle.call_form.specs.CallOf.{parameters_of, method_of, flag_of, call_in, call_of, ◌>>=◌}
use Rattle.call_form.specs.CallRules.{IsFlag, AreParameters, IsCall}

cond-le : (b : Bool) (x y n : ℕ) → x ≤ n → y ≤ n → cond b x y ≤ n
cond-le true x y n h k = h
cond-le false x y n h k = k

pub utf8_of-IsUtf8 : (payload : List ℕ) → IsUtf8 payload → utf8_of payload ≡ Ok payload
utf8_of-IsUtf8 payload is =
    ap (λ (whole : Bool). cond whole (Ok payload)
    (Err (NotUtf8 (utf8_valid_len payload))))
    (eq-eqb _ _ (utf8_valid_len-IsUtf8 payload is))

-- where the longest front that is UTF-8 is the whole
valid_up_to : (payload : List ℕ) (n : ℕ) → valid_len_up_to payload n ≤ n
valid_up_to payload zero = omega arith
valid_up_to payload (suc n) =
    let later : valid_len_up_to payload n ≤ n = valid_up_to payload n in
    cond-le (is_utf8 (take (suc n) payload)) (suc n) (valid_len_up_to payload n) (suc n)
    (omega arith) (omega arith)

IsUtf8-up_to-by : (payload : List ℕ) (n : ℕ) (b : Bool) → is_utf8 (take (suc n) payload) ≡ b →
    cond b (suc n) (valid_len_up_to payload n) ≡ suc n → IsUtf8 (take (suc n) payload)
IsUtf8-up_to-by payload n true is h = IsUtf8-from_is_utf8 (take (suc n) payload) is
IsUtf8-up_to-by payload n false is h = absurd (omega (arith, valid_up_to payload n))

IsUtf8-up_to : (payload : List ℕ) (n : ℕ) → valid_len_up_to payload n ≡ n → IsUtf8 (take n payload)
IsUtf8-up_to payload zero h = IsUtf8-nil
IsUtf8-up_to payload (suc n) h = IsUtf8-up_to-by payload n (is_utf8 (take (suc n) payload)) refl h

IsUtf8-from_len : (payload : List ℕ) → utf8_valid_len payload ≡ length payload → IsUtf8 payload
unfolding utf8_valid_len
IsUtf8-from_len payload h =
    subst (λ (bytes : List ℕ). IsUtf8 bytes) (take_all (length payload) payload (omega arith))
    (IsUtf8-up_to payload (length payload) h)

Ok-cond : {A : Type 0} (b : Bool) (x y : A) (fault : CallFault) →
    cond b (Ok x) (Err fault) ≡ Ok y → (b ≡ true) × (y ≡ x)
Ok-cond true x y fault is = (refl, cc)
Ok-cond false x y fault is = absurd cc

pub IsUtf8-utf8_of : (payload text : List ℕ) → utf8_of payload ≡ Ok text → IsUtf8 payload
    × (text ≡ payload)
IsUtf8-utf8_of payload text is =
    let parts =
    Ok-cond (utf8_valid_len payload == length payload) payload text
    (NotUtf8 (utf8_valid_len payload)) is in
    (IsUtf8-from_len payload (grind (arith, nat_tests, parts.0)), parts.1)

-- the steps of reading
bind-Ok : {A B : Type 0} (m : Result A CallFault) (x : A) (f : A → Result B CallFault) →
    m ≡ Ok x → (m >>= f) ≡ f x
bind-Ok m x f is = ap (λ (r : Result _ CallFault). r >>= f) is

Ok-bind : {A B : Type 0} (m : Result A CallFault) (f : A → Result B CallFault) (y : B) →
    (m >>= f) ≡ Ok y → (x : A) × ((m ≡ Ok x) × (f x ≡ Ok y))
Ok-bind (Ok x) f y is = (x, (refl, is))
Ok-bind (Err fault) f y is = absurd cc

flag_of-IsFlag : (found : Option Data) (flag : Bool) → IsFlag found flag → flag_of found ≡ Ok flag
flag_of-IsFlag found flag is =
    elim is [
      | inl here ↦ ap flag_of here
      | inr absent ↦ elim absent.0 [
        | inl none ↦ ap flag_of none ∙ ap (λ (b : Bool). Ok b) (sym absent.1)
        | inr empty ↦ ap flag_of empty ∙ ap (λ (b : Bool). Ok b) (sym absent.1)
      ]
    ]

IsFlag-flag_of : (found : Option Data) (flag : Bool) → flag_of found ≡ Ok flag → IsFlag found flag
IsFlag-flag_of None flag is = inr (inl refl, cc)
IsFlag-flag_of (Some null) flag is = inr (inr refl, cc)
IsFlag-flag_of (Some (boolean b)) flag is = inl cc
IsFlag-flag_of (Some (number n)) flag is = absurd cc
IsFlag-flag_of (Some (string s)) flag is = absurd cc
IsFlag-flag_of (Some (array ds)) flag is = absurd cc
IsFlag-flag_of (Some (object ms)) flag is = absurd cc

parameters_of-object : (d : Data) → IsObject d → parameters_of (Some d) ≡ Ok d
parameters_of-object null is = absurd cc
parameters_of-object (boolean b) is = absurd cc
parameters_of-object (number n) is = absurd cc
parameters_of-object (string s) is = absurd cc
parameters_of-object (array ds) is = absurd cc
parameters_of-object (object ms) is = refl

parameters_of-AreParameters : (found : Option Data) (parameters : Data) →
    AreParameters found parameters → parameters_of found ≡ Ok parameters
parameters_of-AreParameters found parameters are =
    elim are [
      | inl here ↦ ap parameters_of here.1 ∙ parameters_of-object parameters here.0
      | inr absent ↦ elim absent.0 [
        | inl none ↦ ap parameters_of none ∙ ap (λ (d : Data). Ok d) (sym absent.1)
        | inr empty ↦ ap parameters_of empty ∙ ap (λ (d : Data). Ok d) (sym absent.1)
      ]
    ]

AreParameters-parameters_of : (found : Option Data) (parameters : Data) →
    parameters_of found ≡ Ok parameters → AreParameters found parameters
AreParameters-parameters_of None parameters is = inr (inl refl, cc)
AreParameters-parameters_of (Some null) parameters is = inr (inr refl, cc)
AreParameters-parameters_of (Some (object ms)) parameters is =
    let same : object ms ≡ parameters = cc in
    inl (subst (λ (d : Data). IsObject d) same refl, ap (λ (d : Data). Some d) same)
AreParameters-parameters_of (Some (boolean b)) parameters is = absurd cc
AreParameters-parameters_of (Some (number n)) parameters is = absurd cc
AreParameters-parameters_of (Some (string s)) parameters is = absurd cc
AreParameters-parameters_of (Some (array ds)) parameters is = absurd cc

method_of-string : (found : Option Data) (word : List ℕ) → method_of found ≡ Ok word →
    found ≡ Some (string word)
method_of-string None word is = absurd cc
method_of-string (Some null) word is = absurd cc
method_of-string (Some (boolean b)) word is = absurd cc
method_of-string (Some (number n)) word is = absurd cc
method_of-string (Some (string s)) word is = cc
method_of-string (Some (array ds)) word is = absurd cc
method_of-string (Some (object ms)) word is = absurd cc

object_of-IsObject : (d : Data) → IsObject d → object_of d ≡ Ok d
object_of-IsObject d is = ap (λ (b : Bool). cond b (Ok d) (Err NotObject)) is

IsObject-object_of : (d e : Data) → object_of d ≡ Ok e → IsObject d × (e ≡ d)
IsObject-object_of null e is = absurd cc
IsObject-object_of (boolean b) e is = absurd cc
IsObject-object_of (number n) e is = absurd cc
IsObject-object_of (string s) e is = absurd cc
IsObject-object_of (array ds) e is = absurd cc
IsObject-object_of (object ms) e is = (refl, cc)

json_of-read : (text : List ℕ) (tree : Data) → read text ≡ Some tree → json_of text ≡ Ok tree
json_of-read text tree is = ap found_json is

found_json-Some : (found : Option Data) (tree : Data) → found_json found ≡ Ok tree →
    found ≡ Some tree
found_json-Some None tree is = absurd cc
found_json-Some (Some d) tree is = cc

read-json_of : (text : List ℕ) (tree : Data) → json_of text ≡ Ok tree → read text ≡ Some tree
read-json_of text tree is = found_json-Some (read text) tree is

call_in-IsCall : (payload : List ℕ) (call : Call) (is : IsCall payload call) →
    call_in is.tree ≡ Ok call
unfolding call_in
call_in-IsCall payload call is =
    bind-Ok _ call.method _ (ap method_of is.method)
    ∙ bind-Ok _ call.oneway _ (flag_of-IsFlag _ call.oneway is.oneway)
    ∙ bind-Ok _ call.more _ (flag_of-IsFlag _ call.more is.more)
    ∙ bind-Ok _ call.upgrade _ (flag_of-IsFlag _ call.upgrade is.upgrade)
    ∙ bind-Ok _ call.parameters _ (parameters_of-AreParameters _ call.parameters is.parameters)

pub call_of-IsCall : (payload : List ℕ) (call : Call) → IsCall payload call →
    call_of payload ≡ Ok call
unfolding call_of
call_of-IsCall payload call is =
    bind-Ok _ payload _ (utf8_of-IsUtf8 payload is.is_utf8)
    ∙ bind-Ok _ is.tree _ (json_of-read payload is.tree is.is_json)
    ∙ bind-Ok _ is.tree _ (object_of-IsObject is.tree is.is_object)
    ∙ call_in-IsCall payload call is

-- the members of the call that an object is
record HasMembers (tree : Data) (call : Call) : Type 0 where
  method : get (codes "method") tree ≡ Some (string call.method)
  oneway : IsFlag (get (codes "oneway") tree) call.oneway
  more : IsFlag (get (codes "more") tree) call.more
  upgrade : IsFlag (get (codes "upgrade") tree) call.upgrade
  parameters : AreParameters (get (codes "parameters") tree) call.parameters

Ok-same : {A : Type 0} (m : Result A CallFault) (x y : A) → m ≡ Ok x → m ≡ Ok y → x ≡ y
Ok-same m x y one other = cc

HasMembers-call_in : (tree : Data) (call : Call) → call_in tree ≡ Ok call → HasMembers tree call
unfolding call_in
HasMembers-call_in tree call is =
    let word = Ok-bind (method_of (get (codes "method") tree)) _ call is in
    let oneway = Ok-bind (flag_of (get (codes "oneway") tree)) _ call word.1.1 in
    let more = Ok-bind (flag_of (get (codes "more") tree)) _ call oneway.1.1 in
    let upgrade = Ok-bind (flag_of (get (codes "upgrade") tree)) _ call more.1.1 in
    let given = Ok-bind (parameters_of (get (codes "parameters") tree)) _ call upgrade.1.1 in
    let read : Call =
    record {
      method = word.0;
      parameters = given.0;
      oneway = oneway.0;
      more =
          more.0;
      upgrade = upgrade.0;
    } in
    let same : read ≡ call = Ok-same (Ok read) read call refl given.1.1 in
    let members : HasMembers tree read = record {
      method = method_of-string _ word.0 word.1.0;
      oneway = IsFlag-flag_of _ oneway.0 oneway.1.0;
      more = IsFlag-flag_of _ more.0 more.1.0;
      upgrade = IsFlag-flag_of _ upgrade.0 upgrade.1.0;
      parameters = AreParameters-parameters_of _ given.0 given.1.0;
    } in
    subst (λ (c : Call). HasMembers tree c) same members

pub IsCall-call_of : (payload : List ℕ) (call : Call) → call_of payload ≡ Ok call →
    IsCall payload call
unfolding call_of
IsCall-call_of payload call is =
    let text = Ok-bind (utf8_of payload) _ call is in
    let tree = Ok-bind (json_of text.0) _ call text.1.1 in
    let message = Ok-bind (object_of tree.0) _ call tree.1.1 in
    let utf8 = IsUtf8-utf8_of payload text.0 text.1.0 in
    let object = IsObject-object_of tree.0 message.0 message.1.0 in
    let members =
    HasMembers-call_in tree.0 call
    (subst (λ (d : Data). call_in d ≡ Ok call) object.1 message.1.1) in
    record {
      tree = tree.0;
      is_utf8 = utf8.0;
      is_json = subst (λ (bytes : List ℕ). read bytes ≡ Some tree.0) utf8.1
          (read-json_of text.0 tree.0 tree.1.0);
      is_object = object.0;
      method = members.method;
      oneway = members.oneway;
      more = members.more;
      upgrade = members.upgrade;
      parameters = members.parameters;
    }
