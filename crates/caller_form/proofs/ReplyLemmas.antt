-- What reading a payload as a reply gives.
use Rattle.std.proofs.Common.{◌≡◌, ℕ, Bool, true, false, cond, List, length}
use Rattle.std.proofs.Common.{Option, Some, None, Result, Ok, Err, refl, sym, ◌∙◌, ap, subst, inl, inr, eq-eqb}
use Rattle.std.specs.Prelude.{IsUtf8, codes, ◌==◌}
use Rattle.std.specs.Str.Lossy.{utf8_valid_len}
use Rattle.std.proofs.lemmas.Str.{utf8_valid_len-IsUtf8}
use Rattle.serde_json.specs.Read.{read}
use Rattle.serde_json.specs.Find.{get}
use Rattle.serde_json.specs.Data.{Data, null, boolean, number, string, array, object}
use Rattle.call_form.specs.declared.Reply.{Reply}
use Rattle.call_form.specs.declared.CallFault.TheVariants as call_fault
use Rattle.call_form.specs.CallOf.{IsObject}
use Rattle.call_form.specs.CallRules.{IsFlag, AreParameters}
use Rattle.call_form.proofs.CallLemmas as calls
use Rattle.caller_form.specs.declared.faults.ReplyFault.{ReplyFault}
use Rattle.caller_form.specs.declared.faults.ReplyFault.TheVariants.{NotUtf8, NotObject}
use Rattle.caller_form.specs.ReplyOf.{utf8_of, found_json, json_of, object_of, continues_of, error_of, parameters_of, reply_in, reply_of, ◌>>=◌}
use Rattle.caller_form.specs.ReplyRules.{IsError, IsReply}

pub utf8_of-IsUtf8 : (payload : List ℕ) → IsUtf8 payload → utf8_of payload ≡ Ok payload
utf8_of-IsUtf8 payload is =
    ap (λ (whole : Bool). cond whole (Ok payload) (Err (NotUtf8 (utf8_valid_len payload))))
    (eq-eqb _ _ (utf8_valid_len-IsUtf8 payload is))

Ok-cond : {A : Type 0} (b : Bool) (x y : A) (fault : ReplyFault) →
    cond b (Ok x) (Err fault) ≡ Ok y → (b ≡ true) × (y ≡ x)
Ok-cond true x y fault is = (refl, cc)
Ok-cond false x y fault is = absurd cc

-- a payload that is UTF-8 here is so for calls
IsUtf8-utf8_of : (payload text : List ℕ) → utf8_of payload ≡ Ok text → IsUtf8 payload × (text ≡ payload)
IsUtf8-utf8_of payload text is =
    let parts = Ok-cond (utf8_valid_len payload == length payload) payload text (NotUtf8 (utf8_valid_len payload)) is in
    let there = calls.IsUtf8-utf8_of payload payload
    (ap (λ (b : Bool). cond b (Ok payload) (Err (call_fault.NotUtf8 (utf8_valid_len payload)))) parts.0) in
    (there.0, parts.1)

bind-Ok : {A B : Type 0} (m : Result A ReplyFault) (x : A) (f : A → Result B ReplyFault) → m ≡ Ok x → (m >>= f) ≡ f x
bind-Ok m x f is = ap (λ (r : Result _ ReplyFault). r >>= f) is

Ok-bind : {A B : Type 0} (m : Result A ReplyFault) (f : A → Result B ReplyFault) (y : B) →
    (m >>= f) ≡ Ok y → (x : A) × ((m ≡ Ok x) × (f x ≡ Ok y))
Ok-bind (Ok x) f y is = (x, (refl, is))
Ok-bind (Err fault) f y is = absurd cc

-- ---- the members

continues_of-IsFlag : (found : Option Data) (flag : Bool) → IsFlag found flag → continues_of found ≡ Ok flag
continues_of-IsFlag found flag is =
    elim is [
      | inl here ↦ ap continues_of here
      | inr absent ↦ elim absent.0 [
        | inl none ↦ ap continues_of none ∙ ap (λ (b : Bool). Ok b) (sym absent.1)
        | inr empty ↦ ap continues_of empty ∙ ap (λ (b : Bool). Ok b) (sym absent.1)
      ]
    ]

IsFlag-continues_of : (found : Option Data) (flag : Bool) → continues_of found ≡ Ok flag → IsFlag found flag
IsFlag-continues_of None flag is = inr (inl refl, cc)
IsFlag-continues_of (Some null) flag is = inr (inr refl, cc)
IsFlag-continues_of (Some (boolean b)) flag is = inl cc
IsFlag-continues_of (Some (number n)) flag is = absurd cc
IsFlag-continues_of (Some (string s)) flag is = absurd cc
IsFlag-continues_of (Some (array ds)) flag is = absurd cc
IsFlag-continues_of (Some (object ms)) flag is = absurd cc

error_of-IsError : (found : Option Data) (name : Option (List ℕ)) → IsError found name → error_of found ≡ Ok name
error_of-IsError found (Some name) is = ap error_of is
error_of-IsError found None is = elim is [ inl none ↦ ap error_of none | inr empty ↦ ap error_of empty ]

as_error : (found : Option Data) (is name : Option (List ℕ)) → IsError found is → is ≡ name → IsError found name
as_error found is name holds same = subst (λ (n : Option (List ℕ)). IsError found n) same holds

Ok-same : {A : Type 0} (m : Result A ReplyFault) (x y : A) → m ≡ Ok x → m ≡ Ok y → x ≡ y
Ok-same m x y one other = cc

IsError-error_of : (found : Option Data) (name : Option (List ℕ)) → error_of found ≡ Ok name → IsError found name
IsError-error_of None name is = as_error None None name (inl refl) (Ok-same (Ok None) None name refl is)
IsError-error_of (Some null) name is = as_error (Some null) None name (inr refl) (Ok-same (Ok None) None name refl is)
IsError-error_of (Some (string s)) name is = as_error (Some (string s)) (Some s) name refl (Ok-same (Ok (Some s)) (Some s) name refl is)
IsError-error_of (Some (boolean b)) name is = absurd cc
IsError-error_of (Some (number n)) name is = absurd cc
IsError-error_of (Some (array ds)) name is = absurd cc
IsError-error_of (Some (object ms)) name is = absurd cc

pub parameters_of-object : (d : Data) → IsObject d → parameters_of (Some d) ≡ Ok d
parameters_of-object null is = absurd cc
parameters_of-object (boolean b) is = absurd cc
parameters_of-object (number n) is = absurd cc
parameters_of-object (string s) is = absurd cc
parameters_of-object (array ds) is = absurd cc
parameters_of-object (object ms) is = refl

parameters_of-AreParameters : (found : Option Data) (parameters : Data) → AreParameters found parameters → parameters_of found ≡ Ok parameters
parameters_of-AreParameters found parameters are =
    elim are [
      | inl here ↦ ap parameters_of here.1 ∙ parameters_of-object parameters here.0
      | inr absent ↦ elim absent.0 [
        | inl none ↦ ap parameters_of none ∙ ap (λ (d : Data). Ok d) (sym absent.1)
        | inr empty ↦ ap parameters_of empty ∙ ap (λ (d : Data). Ok d) (sym absent.1)
      ]
    ]

AreParameters-parameters_of : (found : Option Data) (parameters : Data) → parameters_of found ≡ Ok parameters → AreParameters found parameters
AreParameters-parameters_of None parameters is = inr (inl refl, cc)
AreParameters-parameters_of (Some null) parameters is = inr (inr refl, cc)
AreParameters-parameters_of (Some (object ms)) parameters is =
    let same : object ms ≡ parameters = cc in
    inl (subst (λ (d : Data). IsObject d) same refl, ap (λ (d : Data). Some d) same)
AreParameters-parameters_of (Some (boolean b)) parameters is = absurd cc
AreParameters-parameters_of (Some (number n)) parameters is = absurd cc
AreParameters-parameters_of (Some (string s)) parameters is = absurd cc
AreParameters-parameters_of (Some (array ds)) parameters is = absurd cc

-- ---- the object

object_of-IsObject : (d : Data) → IsObject d → object_of d ≡ Ok d
object_of-IsObject d is = ap (λ (b : Bool). cond b (Ok d) (Err NotObject)) is

IsObject-object_of : (d e : Data) → object_of d ≡ Ok e → IsObject d × (e ≡ d)
IsObject-object_of null e is = absurd cc
IsObject-object_of (boolean b) e is = absurd cc
IsObject-object_of (number n) e is = absurd cc
IsObject-object_of (string s) e is = absurd cc
IsObject-object_of (array ds) e is = absurd cc
IsObject-object_of (object ms) e is = (refl, cc)

found_json-Some : (found : Option Data) (tree : Data) → found_json found ≡ Ok tree → found ≡ Some tree
found_json-Some None tree is = absurd cc
found_json-Some (Some d) tree is = cc

-- ---- the reply

reply_in-IsReply : (payload : List ℕ) (reply : Reply) (is : IsReply payload reply) → reply_in is.tree ≡ Ok reply
unfolding reply_in
reply_in-IsReply payload reply is =
    bind-Ok _ reply.continues _ (continues_of-IsFlag _ reply.continues is.continues)
    ∙ bind-Ok _ reply.error _ (error_of-IsError _ reply.error is.error)
    ∙ bind-Ok _ reply.parameters _ (parameters_of-AreParameters _ reply.parameters is.parameters)

pub reply_of-IsReply : (payload : List ℕ) (reply : Reply) → IsReply payload reply → reply_of payload ≡ Ok reply
unfolding reply_of
reply_of-IsReply payload reply is =
    bind-Ok _ payload _ (utf8_of-IsUtf8 payload is.is_utf8)
    ∙ bind-Ok _ is.tree _ (ap found_json is.is_json)
    ∙ bind-Ok _ is.tree _ (object_of-IsObject is.tree is.is_object)
    ∙ reply_in-IsReply payload reply is

-- the members of the reply that an object is
record HasMembers (tree : Data) (reply : Reply) : Type 0 where
  continues : IsFlag (get (codes "continues") tree) reply.continues
  error : IsError (get (codes "error") tree) reply.error
  parameters : AreParameters (get (codes "parameters") tree) reply.parameters

HasMembers-reply_in : (tree : Data) (reply : Reply) → reply_in tree ≡ Ok reply → HasMembers tree reply
unfolding reply_in
HasMembers-reply_in tree reply is =
    let follows = Ok-bind (continues_of (get (codes "continues") tree)) _ reply is in
    let named = Ok-bind (error_of (get (codes "error") tree)) _ reply follows.1.1 in
    let given = Ok-bind (parameters_of (get (codes "parameters") tree)) _ reply named.1.1 in
    let made : Reply = record { parameters = given.0; continues = follows.0; error = named.0 } in
    let same : made ≡ reply = Ok-same (Ok made) made reply refl given.1.1 in
    let members : HasMembers tree made = record {
      continues = IsFlag-continues_of _ follows.0 follows.1.0;
      error = IsError-error_of _ named.0 named.1.0;
      parameters = AreParameters-parameters_of _ given.0 given.1.0;
    } in
    subst (λ (r : Reply). HasMembers tree r) same members

pub IsReply-reply_of : (payload : List ℕ) (reply : Reply) → reply_of payload ≡ Ok reply → IsReply payload reply
unfolding reply_of
IsReply-reply_of payload reply is =
    let text = Ok-bind (utf8_of payload) _ reply is in
    let tree = Ok-bind (json_of text.0) _ reply text.1.1 in
    let message = Ok-bind (object_of tree.0) _ reply tree.1.1 in
    let utf8 = IsUtf8-utf8_of payload text.0 text.1.0 in
    let object = IsObject-object_of tree.0 message.0 message.1.0 in
    let members = HasMembers-reply_in tree.0 reply
    (subst (λ (d : Data). reply_in d ≡ Ok reply) object.1 message.1.1) in
    record {
      tree = tree.0;
      is_utf8 = utf8.0;
      is_json = subst (λ (bytes : List ℕ). read bytes ≡ Some tree.0) utf8.1 (found_json-Some (read text.0) tree.0 tree.1.0);
      is_object = object.0;
      continues = members.continues;
      error = members.error;
      parameters = members.parameters;
    }
