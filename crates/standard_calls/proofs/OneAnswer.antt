-- what a reply says of a method is one answer
use Rattle.std.proofs.Common.{◌≡◌, ◌≢◌, Option, Some, None, Result, Ok, Err, refl, sym, ap, subst, ◌∙◌}
use Rattle.idl_tree.specs.Names.{Bytes}
use Rattle.idl_tree.specs.declared.trees.Body.{Body}
use Rattle.idl_tree.specs.declared.trees.Interface.{Interface}
use Rattle.idl_tree.specs.Floats.{BodyReaches}
use Rattle.idl_rules.specs.Spells.{Accepts}
use Rattle.idl_rules.proofs.Uniqueness.{one_tree}
use Rattle.idl_grammar.specs.Refuses.{Gives, Refuses, SameCause}
use Rattle.idl_grammar.specs.declared.faults.IdlFault.{IdlFault}
use Rattle.idl_grammar.specs.declared.faults.IdlFault.TheVariants as idl
use Rattle.idl_grammar.proofs.Answering.{complete}
use Rattle.idl_grammar.proofs.OneCause.{tells}
use Rattle.call_form.specs.declared.Reply.{Reply}
use Rattle.standard_calls.specs.Descriptions.{Output, output_named, IsMethod, MethodIs, Defines, ByText, Says, Answers, Same, text_in}
use Rattle.standard_calls.specs.declared.faults.NoDescription.{NoDescription}
use Rattle.standard_calls.specs.declared.faults.NoDescription.TheVariants.{ErrorReply, NoText, Idl, NoMethod, Float, Memory}

abbrev Answer : Type 0
Answer = Result Output NoDescription

-- a refusal for another cause than want of memory
same_cause : (one other : IdlFault) → one ≢ idl.Memory → other ≢ idl.Memory → SameCause one other → one ≡ other
same_cause (idl.Token x) (idl.Token y) told said h = h
same_cause (idl.Token x) (idl.Syntax y) told said h = h
same_cause (idl.Token x) (idl.TooDeep y) told said h = h
same_cause (idl.Token x) (idl.Name y) told said h = h
same_cause (idl.Token x) idl.Memory told said h = absurd (said refl)
same_cause (idl.Syntax x) (idl.Token y) told said h = h
same_cause (idl.Syntax x) (idl.Syntax y) told said h = h
same_cause (idl.Syntax x) (idl.TooDeep y) told said h = h
same_cause (idl.Syntax x) (idl.Name y) told said h = h
same_cause (idl.Syntax x) idl.Memory told said h = absurd (said refl)
same_cause (idl.TooDeep x) (idl.Token y) told said h = h
same_cause (idl.TooDeep x) (idl.Syntax y) told said h = h
same_cause (idl.TooDeep x) (idl.TooDeep y) told said h = h
same_cause (idl.TooDeep x) (idl.Name y) told said h = h
same_cause (idl.TooDeep x) idl.Memory told said h = absurd (said refl)
same_cause (idl.Name x) (idl.Token y) told said h = h
same_cause (idl.Name x) (idl.Syntax y) told said h = h
same_cause (idl.Name x) (idl.TooDeep y) told said h = h
same_cause (idl.Name x) (idl.Name y) told said h = h
same_cause (idl.Name x) idl.Memory told said h = absurd (said refl)
same_cause idl.Memory other told said h = absurd (told refl)

never_given : (cause : IdlFault) (interface : Interface) → cause ≢ idl.Memory → Gives (Err cause) interface → ⊥
never_given (idl.Token x) interface told h = h
never_given (idl.Syntax x) interface told h = h
never_given (idl.TooDeep x) interface told h = h
never_given (idl.Name x) interface told h = h
never_given idl.Memory interface told h = told refl

-- a text that is refused is no definition
never_both : (text : Bytes) (cause : IdlFault) (scope : Interface) → Refuses cause text → cause ≢ idl.Memory → Accepts text scope → ⊥
never_both text cause scope refused told accepted = never_given cause scope told (complete text (Err cause) refused scope accepted)

module _ (scope : Interface) (name : Bytes) where
  same_body : (one other : Body) → output_named scope name ≡ Some one → output_named scope name ≡ Some other → one ≡ other
  same_body one other h r = cc

  one_method : (one other : Answer) → MethodIs scope name one → MethodIs scope name other → other ≡ one
  one_method (Ok x) (Ok y) h r = ap Ok (r.0 ∙ sym h.0)
  one_method (Ok x) (Err NoMethod) h r = absurd (cc)
  one_method (Ok x) (Err Float) h r =
      absurd (h.1.2 (subst (λ (body : Body). BodyReaches scope body) (same_body r.0 h.1.0 r.1 h.1.1) r.2))
  one_method (Ok x) (Err (ErrorReply n)) h r = absurd r
  one_method (Ok x) (Err NoText) h r = absurd r
  one_method (Ok x) (Err (Idl why)) h r = absurd r
  one_method (Ok x) (Err Memory) h r = absurd r
  one_method (Err NoMethod) (Ok y) h r = absurd (cc)
  one_method (Err NoMethod) (Err NoMethod) h r = refl
  one_method (Err NoMethod) (Err Float) h r = absurd (cc)
  one_method (Err NoMethod) (Err (ErrorReply n)) h r = absurd r
  one_method (Err NoMethod) (Err NoText) h r = absurd r
  one_method (Err NoMethod) (Err (Idl why)) h r = absurd r
  one_method (Err NoMethod) (Err Memory) h r = absurd r
  one_method (Err Float) (Ok y) h r =
      absurd (r.1.2 (subst (λ (body : Body). BodyReaches scope body) (same_body h.0 r.1.0 h.1 r.1.1) h.2))
  one_method (Err Float) (Err NoMethod) h r = absurd (cc)
  one_method (Err Float) (Err Float) h r = refl
  one_method (Err Float) (Err (ErrorReply n)) h r = absurd r
  one_method (Err Float) (Err NoText) h r = absurd r
  one_method (Err Float) (Err (Idl why)) h r = absurd r
  one_method (Err Float) (Err Memory) h r = absurd r
  one_method (Err (ErrorReply n)) other h r = absurd h
  one_method (Err NoText) other h r = absurd h
  one_method (Err (Idl why)) other h r = absurd h
  one_method (Err Memory) other h r = absurd h

-- the definition that a text is, with what is said of the method
abbrev Placed : Bytes → Bytes → Answer → Type 0
Placed name text result = (scope : Interface) × Accepts text scope × MethodIs scope name result

both_placed : (name text : Bytes) (one other : Answer) → Placed name text one → Placed name text other → other ≡ one
both_placed name text one other h r =
    one_method h.0 name one other h.2
    (subst (λ (scope : Interface). MethodIs scope name other) (one_tree text r.0 h.0 r.1.0 h.1.0) r.2)

module _ (name text : Bytes) where
  refused_placed : (why : IdlFault) (other : Answer) → Defines name text (Err (Idl why)) → Placed name text other → ⊥
  refused_placed why other h r = never_both text why r.0 h.0 h.1 r.1

  one_defined : (one other : Answer) → Defines name text one → Defines name text other → other ≡ one
  one_defined (Err (Idl why)) (Err (Idl told)) h r = ap (λ (cause : IdlFault). Err (Idl cause)) (sym (same_cause why told h.1 r.1 (tells text (Err why) h.0 told r.0)))
  one_defined (Err (Idl why)) (Ok y) h r = absurd (refused_placed why (Ok y) h r)
  one_defined (Err (Idl why)) (Err (ErrorReply n)) h r = absurd (refused_placed why (Err (ErrorReply n)) h r)
  one_defined (Err (Idl why)) (Err NoText) h r = absurd (refused_placed why (Err NoText) h r)
  one_defined (Err (Idl why)) (Err NoMethod) h r = absurd (refused_placed why (Err NoMethod) h r)
  one_defined (Err (Idl why)) (Err Float) h r = absurd (refused_placed why (Err Float) h r)
  one_defined (Err (Idl why)) (Err Memory) h r = absurd (refused_placed why (Err Memory) h r)
  one_defined (Ok x) (Err (Idl why)) h r = absurd (refused_placed why (Ok x) r h)
  one_defined (Err (ErrorReply n)) (Err (Idl why)) h r = absurd (refused_placed why (Err (ErrorReply n)) r h)
  one_defined (Err NoText) (Err (Idl why)) h r = absurd (refused_placed why (Err NoText) r h)
  one_defined (Err NoMethod) (Err (Idl why)) h r = absurd (refused_placed why (Err NoMethod) r h)
  one_defined (Err Float) (Err (Idl why)) h r = absurd (refused_placed why (Err Float) r h)
  one_defined (Err Memory) (Err (Idl why)) h r = absurd (refused_placed why (Err Memory) r h)
  one_defined (Ok x) (Ok y) h r = both_placed name text (Ok x) (Ok y) h r
  one_defined (Ok x) (Err (ErrorReply m)) h r = both_placed name text (Ok x) (Err (ErrorReply m)) h r
  one_defined (Ok x) (Err NoText) h r = both_placed name text (Ok x) (Err NoText) h r
  one_defined (Ok x) (Err NoMethod) h r = both_placed name text (Ok x) (Err NoMethod) h r
  one_defined (Ok x) (Err Float) h r = both_placed name text (Ok x) (Err Float) h r
  one_defined (Ok x) (Err Memory) h r = both_placed name text (Ok x) (Err Memory) h r
  one_defined (Err (ErrorReply n)) (Ok y) h r = both_placed name text (Err (ErrorReply n)) (Ok y) h r
  one_defined (Err (ErrorReply n)) (Err (ErrorReply m)) h r = both_placed name text (Err (ErrorReply n)) (Err (ErrorReply m)) h r
  one_defined (Err (ErrorReply n)) (Err NoText) h r = both_placed name text (Err (ErrorReply n)) (Err NoText) h r
  one_defined (Err (ErrorReply n)) (Err NoMethod) h r = both_placed name text (Err (ErrorReply n)) (Err NoMethod) h r
  one_defined (Err (ErrorReply n)) (Err Float) h r = both_placed name text (Err (ErrorReply n)) (Err Float) h r
  one_defined (Err (ErrorReply n)) (Err Memory) h r = both_placed name text (Err (ErrorReply n)) (Err Memory) h r
  one_defined (Err NoText) (Ok y) h r = both_placed name text (Err NoText) (Ok y) h r
  one_defined (Err NoText) (Err (ErrorReply m)) h r = both_placed name text (Err NoText) (Err (ErrorReply m)) h r
  one_defined (Err NoText) (Err NoText) h r = both_placed name text (Err NoText) (Err NoText) h r
  one_defined (Err NoText) (Err NoMethod) h r = both_placed name text (Err NoText) (Err NoMethod) h r
  one_defined (Err NoText) (Err Float) h r = both_placed name text (Err NoText) (Err Float) h r
  one_defined (Err NoText) (Err Memory) h r = both_placed name text (Err NoText) (Err Memory) h r
  one_defined (Err NoMethod) (Ok y) h r = both_placed name text (Err NoMethod) (Ok y) h r
  one_defined (Err NoMethod) (Err (ErrorReply m)) h r = both_placed name text (Err NoMethod) (Err (ErrorReply m)) h r
  one_defined (Err NoMethod) (Err NoText) h r = both_placed name text (Err NoMethod) (Err NoText) h r
  one_defined (Err NoMethod) (Err NoMethod) h r = both_placed name text (Err NoMethod) (Err NoMethod) h r
  one_defined (Err NoMethod) (Err Float) h r = both_placed name text (Err NoMethod) (Err Float) h r
  one_defined (Err NoMethod) (Err Memory) h r = both_placed name text (Err NoMethod) (Err Memory) h r
  one_defined (Err Float) (Ok y) h r = both_placed name text (Err Float) (Ok y) h r
  one_defined (Err Float) (Err (ErrorReply m)) h r = both_placed name text (Err Float) (Err (ErrorReply m)) h r
  one_defined (Err Float) (Err NoText) h r = both_placed name text (Err Float) (Err NoText) h r
  one_defined (Err Float) (Err NoMethod) h r = both_placed name text (Err Float) (Err NoMethod) h r
  one_defined (Err Float) (Err Float) h r = both_placed name text (Err Float) (Err Float) h r
  one_defined (Err Float) (Err Memory) h r = both_placed name text (Err Float) (Err Memory) h r
  one_defined (Err Memory) (Ok y) h r = both_placed name text (Err Memory) (Ok y) h r
  one_defined (Err Memory) (Err (ErrorReply m)) h r = both_placed name text (Err Memory) (Err (ErrorReply m)) h r
  one_defined (Err Memory) (Err NoText) h r = both_placed name text (Err Memory) (Err NoText) h r
  one_defined (Err Memory) (Err NoMethod) h r = both_placed name text (Err Memory) (Err NoMethod) h r
  one_defined (Err Memory) (Err Float) h r = both_placed name text (Err Memory) (Err Float) h r
  one_defined (Err Memory) (Err Memory) h r = both_placed name text (Err Memory) (Err Memory) h r

one_by_text : (name : Bytes) (found : Result Bytes NoDescription) (one other : Answer) → ByText name found one → ByText name found other → other ≡ one
one_by_text name (Ok text) one other h r = one_defined name text one other h r
one_by_text name (Err why) one other h r = r ∙ sym h

pub one_answer : (reply : Reply) (name : Bytes) (result other : Answer) → Answers (Says reply name) result → Says reply name other → Same result other
one_answer reply name (Err Memory) other h r = tt
one_answer reply name (Ok x) other h r = one_by_text name (text_in reply) (Ok x) other h r
one_answer reply name (Err (ErrorReply n)) other h r = one_by_text name (text_in reply) (Err (ErrorReply n)) other h r
one_answer reply name (Err NoText) other h r = one_by_text name (text_in reply) (Err NoText) other h r
one_answer reply name (Err NoMethod) other h r = one_by_text name (text_in reply) (Err NoMethod) other h r
one_answer reply name (Err Float) other h r = one_by_text name (text_in reply) (Err Float) other h r
one_answer reply name (Err (Idl why)) other h r = one_by_text name (text_in reply) (Err (Idl why)) other h r
