-- a text has one cause of refusal as one type
use Rattle.std.proofs.Common.{◌≡◌, ℕ, ◌++◌, Option, Some, Result, Ok, Err, sym, ap, ◌∙◌, arith}
use Rattle.idl_token.specs.Lex.{Bytes, Lexemes}
use Rattle.idl_token.specs.declared.tokens.TokenFault.TheVariants as token
use Rattle.idl_tree.specs.Faults.{type_fault, defines}
use Rattle.idl_tree.specs.declared.trees.Interface.{Interface}
use Rattle.idl_tree.specs.declared.trees.TypeRef.{TypeRef}
use Rattle.idl_tree.specs.declared.faults.NameFault.{NameFault}
use Rattle.idl_tree.specs.declared.faults.NameFault.TheVariants as name
use Rattle.idl_rules.specs.Grammar.{Front, a_type}
use Rattle.idl_types.proofs.Readings.{one_type}
use Rattle.idl_grammar.proofs.Prefixes.{of_front}
use Rattle.idl_grammar.proofs.OnePlace.{same_bad_byte, same_stop, same_deep, stop_deep}
use Rattle.idl_grammar.proofs.TypeAnswering.{type_complete}
use Rattle.idl_grammar.specs.Refuses.{HasLex, Tells}
use Rattle.idl_grammar.specs.RefusesType.{AnswersType, MisnamesType, RefusesType, RefusesTypeNames}
use Rattle.idl_grammar.specs.declared.faults.IdlFault.{IdlFault}
use Rattle.idl_grammar.specs.declared.faults.IdlFault.TheVariants as fault

closed : (all front back : Lexemes) → Front a_type all → all ≡ front ++ back → Front a_type front
closed all front back begins same = of_front a_type all begins front back same

misnamed : (text : Bytes) (scope : Interface) (found : NameFault) → RefusesTypeNames found text scope → MisnamesType found text scope
misnamed text scope name.Memory h = absurd h
misnamed text scope (name.TwiceType w) h = h
misnamed text scope (name.TwiceMethod w) h = h
misnamed text scope (name.TwiceError w) h = h
misnamed text scope (name.TwiceField w) h = h
misnamed text scope (name.UnknownType w) h = h

cut : (text : Bytes) (scope : Interface) (found : NameFault) → RefusesTypeNames found text scope → HasLex text
cut text scope found h = let m = misnamed text scope found h in (m.1.0, m.1.1)

same_name : (text : Bytes) (scope : Interface) (found other : NameFault) → RefusesTypeNames found text scope → RefusesTypeNames other text scope → found ≡ other
same_name text scope found other h r =
    let m = misnamed text scope found h in
    let n = misnamed text scope other r in
    let both : ◌≡◌ {A = Option NameFault} (Some found) (Some other) = sym m.3 ∙ ap (type_fault (defines scope)) (one_type text m.0 n.0 m.1 n.1) ∙ n.3 in cc

pub type_tells : (text : Bytes) (scope : Interface) (result : Result TypeRef IdlFault) → AnswersType result text scope → (found : IdlFault) → RefusesType found text scope → Tells result found
type_tells text scope (Ok value) h (fault.Token (token.NotUtf8 x)) r = type_complete text scope (Err (fault.Token (token.NotUtf8 x))) r value h
type_tells text scope (Ok value) h (fault.Token (token.BadByte x)) r = type_complete text scope (Err (fault.Token (token.BadByte x))) r value h
type_tells text scope (Ok value) h (fault.Token token.Memory) r = absurd r
type_tells text scope (Ok value) h (fault.Syntax x) r = type_complete text scope (Err (fault.Syntax x)) r value h
type_tells text scope (Ok value) h (fault.TooDeep x) r = type_complete text scope (Err (fault.TooDeep x)) r value h
type_tells text scope (Ok value) h (fault.Name n) r = type_complete text scope (Err (fault.Name n)) r value h
type_tells text scope (Ok value) h fault.Memory r = tt
type_tells text scope (Err (fault.Token (token.NotUtf8 at))) h (fault.Token (token.NotUtf8 x)) r = ap (λ (n : ℕ). fault.Token (token.NotUtf8 n)) (h.1 ∙ sym r.1)
type_tells text scope (Err (fault.Token (token.NotUtf8 at))) h (fault.Token (token.BadByte x)) r = absurd (h.0 r.0)
type_tells text scope (Err (fault.Token (token.NotUtf8 at))) h (fault.Token token.Memory) r = absurd r
type_tells text scope (Err (fault.Token (token.NotUtf8 at))) h (fault.Syntax x) r = absurd (h.0 r.0.1.0)
type_tells text scope (Err (fault.Token (token.NotUtf8 at))) h (fault.TooDeep x) r = absurd (h.0 r.0.1.0)
type_tells text scope (Err (fault.Token (token.NotUtf8 at))) h (fault.Name n) r = absurd (h.0 (cut text scope n r).1.0)
type_tells text scope (Err (fault.Token (token.NotUtf8 at))) h fault.Memory r = tt
type_tells text scope (Err (fault.Token (token.BadByte at))) h (fault.Token (token.NotUtf8 x)) r = absurd (r.0 h.0)
type_tells text scope (Err (fault.Token (token.BadByte at))) h (fault.Token (token.BadByte x)) r = ap (λ (n : ℕ). fault.Token (token.BadByte n)) (same_bad_byte text at x h.1 r.1)
type_tells text scope (Err (fault.Token (token.BadByte at))) h (fault.Token token.Memory) r = absurd r
type_tells text scope (Err (fault.Token (token.BadByte at))) h (fault.Syntax x) r = absurd (h.2 r.0.0 r.0.1)
type_tells text scope (Err (fault.Token (token.BadByte at))) h (fault.TooDeep x) r = absurd (h.2 r.0.0 r.0.1)
type_tells text scope (Err (fault.Token (token.BadByte at))) h (fault.Name n) r = let c = cut text scope n r in absurd (h.2 c.0 c.1)
type_tells text scope (Err (fault.Token (token.BadByte at))) h fault.Memory r = tt
type_tells text scope (Err (fault.Token token.Memory)) h found r = absurd h
type_tells text scope (Err (fault.Syntax at)) h (fault.Token (token.NotUtf8 x)) r = absurd (r.0 h.0.1.0)
type_tells text scope (Err (fault.Syntax at)) h (fault.Token (token.BadByte x)) r = absurd (r.2 h.0.0 h.0.1)
type_tells text scope (Err (fault.Syntax at)) h (fault.Token token.Memory) r = absurd r
type_tells text scope (Err (fault.Syntax at)) h (fault.Syntax x) r = ap (λ (n : ℕ). fault.Syntax n) (same_stop (Front a_type) closed text at x h.2 r.2)
type_tells text scope (Err (fault.Syntax at)) h (fault.TooDeep x) r = absurd (stop_deep (Front a_type) closed text at x h.2 r.2)
type_tells text scope (Err (fault.Syntax at)) h (fault.Name n) r = let m = misnamed text scope n r in absurd (h.1 m.0 m.1)
type_tells text scope (Err (fault.Syntax at)) h fault.Memory r = tt
type_tells text scope (Err (fault.TooDeep at)) h (fault.Token (token.NotUtf8 x)) r = absurd (r.0 h.0.1.0)
type_tells text scope (Err (fault.TooDeep at)) h (fault.Token (token.BadByte x)) r = absurd (r.2 h.0.0 h.0.1)
type_tells text scope (Err (fault.TooDeep at)) h (fault.Token token.Memory) r = absurd r
type_tells text scope (Err (fault.TooDeep at)) h (fault.Syntax x) r = absurd (stop_deep (Front a_type) closed text x at r.2 h.2)
type_tells text scope (Err (fault.TooDeep at)) h (fault.TooDeep x) r = ap (λ (n : ℕ). fault.TooDeep n) (same_deep (Front a_type) closed text at x h.2 r.2)
type_tells text scope (Err (fault.TooDeep at)) h (fault.Name n) r = let m = misnamed text scope n r in let deep = h.1 m.0 m.1 in let low = m.2 in let no : ⊥ = omega arith in absurd no
type_tells text scope (Err (fault.TooDeep at)) h fault.Memory r = tt
type_tells text scope (Err (fault.Name k)) h (fault.Token (token.NotUtf8 x)) r = absurd (r.0 (cut text scope k h).1.0)
type_tells text scope (Err (fault.Name k)) h (fault.Token (token.BadByte x)) r = let c = cut text scope k h in absurd (r.2 c.0 c.1)
type_tells text scope (Err (fault.Name k)) h (fault.Token token.Memory) r = absurd r
type_tells text scope (Err (fault.Name k)) h (fault.Syntax x) r = let m = misnamed text scope k h in absurd (r.1 m.0 m.1)
type_tells text scope (Err (fault.Name k)) h (fault.TooDeep x) r = let m = misnamed text scope k h in let deep = r.1 m.0 m.1 in let low = m.2 in let no : ⊥ = omega arith in absurd no
type_tells text scope (Err (fault.Name k)) h (fault.Name n) r = ap (λ (f : NameFault). fault.Name f) (same_name text scope k n h r)
type_tells text scope (Err (fault.Name k)) h fault.Memory r = tt
type_tells text scope (Err fault.Memory) h found r = tt
