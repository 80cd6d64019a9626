-- a text has one cause of refusal
use Rattle.std.proofs.Common.{◌≡◌, ℕ, ◌++◌, Option, Some, Result, Ok, Err, sym, ap, ◌∙◌, arith}
use Rattle.idl_token.specs.Lex.{Bytes, Lexemes}
use Rattle.idl_token.specs.declared.tokens.TokenFault.TheVariants as token
use Rattle.idl_tree.specs.Faults.{first_fault}
use Rattle.idl_tree.specs.declared.trees.Interface.{Interface}
use Rattle.idl_tree.specs.declared.faults.NameFault.{NameFault}
use Rattle.idl_tree.specs.declared.faults.NameFault.TheVariants as name
use Rattle.idl_rules.specs.Grammar.{definition}
use Rattle.idl_rules.proofs.Uniqueness.{one_tree}
use Rattle.idl_fronts.specs.Bare.{without_notes}
use Rattle.idl_fronts.proofs.Wholes.{bare_append}
use Rattle.idl_grammar.proofs.Prefixes.{of_front}
use Rattle.idl_grammar.proofs.OnePlace.{same_bad_byte, same_stop, same_deep, stop_deep}
use Rattle.idl_grammar.proofs.Answering.{complete}
use Rattle.idl_grammar.specs.Refuses.{HasLex, BeginsDefinition, Answers, Misnames, Refuses, RefusesNames, Tells}
use Rattle.idl_grammar.specs.declared.faults.IdlFault.{IdlFault}
use Rattle.idl_grammar.specs.declared.faults.IdlFault.TheVariants as fault

closed : (all front back : Lexemes) → BeginsDefinition all → all ≡ front ++ back → BeginsDefinition front
closed all front back begins same =
    of_front definition (without_notes all) begins (without_notes front) (without_notes back) (ap without_notes same ∙ bare_append front back)

misnamed : (text : Bytes) (found : NameFault) → RefusesNames found text → Misnames found text
misnamed text name.Memory h = absurd h
misnamed text (name.TwiceType w) h = h
misnamed text (name.TwiceMethod w) h = h
misnamed text (name.TwiceError w) h = h
misnamed text (name.TwiceField w) h = h
misnamed text (name.UnknownType w) h = h

cut : (text : Bytes) (found : NameFault) → RefusesNames found text → HasLex text
cut text found h = let m = misnamed text found h in (m.1.1.0, m.1.1.1)

same_name : (text : Bytes) (found other : NameFault) → RefusesNames found text → RefusesNames other text → found ≡ other
same_name text found other h r =
    let m = misnamed text found h in
    let n = misnamed text other r in
    let both : ◌≡◌ {A = Option NameFault} (Some found) (Some other) = sym m.3 ∙ ap (first_fault) (one_tree text m.0 n.0 m.1 n.1) ∙ n.3 in cc

pub tells : (text : Bytes) (result : Result Interface IdlFault) → Answers result text → (found : IdlFault) → Refuses found text → Tells result found
tells text (Ok value) h (fault.Token (token.NotUtf8 x)) r = complete text (Err (fault.Token (token.NotUtf8 x))) r value h
tells text (Ok value) h (fault.Token (token.BadByte x)) r = complete text (Err (fault.Token (token.BadByte x))) r value h
tells text (Ok value) h (fault.Token token.Memory) r = absurd r
tells text (Ok value) h (fault.Syntax x) r = complete text (Err (fault.Syntax x)) r value h
tells text (Ok value) h (fault.TooDeep x) r = complete text (Err (fault.TooDeep x)) r value h
tells text (Ok value) h (fault.Name n) r = complete text (Err (fault.Name n)) r value h
tells text (Ok value) h fault.Memory r = tt
tells text (Err (fault.Token (token.NotUtf8 at))) h (fault.Token (token.NotUtf8 x)) r = ap (λ (n : ℕ). fault.Token (token.NotUtf8 n)) (h.1 ∙ sym r.1)
tells text (Err (fault.Token (token.NotUtf8 at))) h (fault.Token (token.BadByte x)) r = absurd (h.0 r.0)
tells text (Err (fault.Token (token.NotUtf8 at))) h (fault.Token token.Memory) r = absurd r
tells text (Err (fault.Token (token.NotUtf8 at))) h (fault.Syntax x) r = absurd (h.0 r.0.1.0)
tells text (Err (fault.Token (token.NotUtf8 at))) h (fault.TooDeep x) r = absurd (h.0 r.0.1.0)
tells text (Err (fault.Token (token.NotUtf8 at))) h (fault.Name n) r = absurd (h.0 (cut text n r).1.0)
tells text (Err (fault.Token (token.NotUtf8 at))) h fault.Memory r = tt
tells text (Err (fault.Token (token.BadByte at))) h (fault.Token (token.NotUtf8 x)) r = absurd (r.0 h.0)
tells text (Err (fault.Token (token.BadByte at))) h (fault.Token (token.BadByte x)) r = ap (λ (n : ℕ). fault.Token (token.BadByte n)) (same_bad_byte text at x h.1 r.1)
tells text (Err (fault.Token (token.BadByte at))) h (fault.Token token.Memory) r = absurd r
tells text (Err (fault.Token (token.BadByte at))) h (fault.Syntax x) r = absurd (h.2 r.0.0 r.0.1)
tells text (Err (fault.Token (token.BadByte at))) h (fault.TooDeep x) r = absurd (h.2 r.0.0 r.0.1)
tells text (Err (fault.Token (token.BadByte at))) h (fault.Name n) r = let c = cut text n r in absurd (h.2 c.0 c.1)
tells text (Err (fault.Token (token.BadByte at))) h fault.Memory r = tt
tells text (Err (fault.Token token.Memory)) h found r = absurd h
tells text (Err (fault.Syntax at)) h (fault.Token (token.NotUtf8 x)) r = absurd (r.0 h.0.1.0)
tells text (Err (fault.Syntax at)) h (fault.Token (token.BadByte x)) r = absurd (r.2 h.0.0 h.0.1)
tells text (Err (fault.Syntax at)) h (fault.Token token.Memory) r = absurd r
tells text (Err (fault.Syntax at)) h (fault.Syntax x) r = ap (λ (n : ℕ). fault.Syntax n) (same_stop BeginsDefinition closed text at x h.2 r.2)
tells text (Err (fault.Syntax at)) h (fault.TooDeep x) r = absurd (stop_deep BeginsDefinition closed text at x h.2 r.2)
tells text (Err (fault.Syntax at)) h (fault.Name n) r = let m = misnamed text n r in absurd (h.1 m.0 m.1)
tells text (Err (fault.Syntax at)) h fault.Memory r = tt
tells text (Err (fault.TooDeep at)) h (fault.Token (token.NotUtf8 x)) r = absurd (r.0 h.0.1.0)
tells text (Err (fault.TooDeep at)) h (fault.Token (token.BadByte x)) r = absurd (r.2 h.0.0 h.0.1)
tells text (Err (fault.TooDeep at)) h (fault.Token token.Memory) r = absurd r
tells text (Err (fault.TooDeep at)) h (fault.Syntax x) r = absurd (stop_deep BeginsDefinition closed text x at r.2 h.2)
tells text (Err (fault.TooDeep at)) h (fault.TooDeep x) r = ap (λ (n : ℕ). fault.TooDeep n) (same_deep BeginsDefinition closed text at x h.2 r.2)
tells text (Err (fault.TooDeep at)) h (fault.Name n) r = let m = misnamed text n r in let deep = h.1 m.0 m.1 in let low = m.2 in let no : ⊥ = omega arith in absurd no
tells text (Err (fault.TooDeep at)) h fault.Memory r = tt
tells text (Err (fault.Name k)) h (fault.Token (token.NotUtf8 x)) r = absurd (r.0 (cut text k h).1.0)
tells text (Err (fault.Name k)) h (fault.Token (token.BadByte x)) r = let c = cut text k h in absurd (r.2 c.0 c.1)
tells text (Err (fault.Name k)) h (fault.Token token.Memory) r = absurd r
tells text (Err (fault.Name k)) h (fault.Syntax x) r = let m = misnamed text k h in absurd (r.1 m.0 m.1)
tells text (Err (fault.Name k)) h (fault.TooDeep x) r = let m = misnamed text k h in let deep = r.1 m.0 m.1 in let low = m.2 in let no : ⊥ = omega arith in absurd no
tells text (Err (fault.Name k)) h (fault.Name n) r = ap (λ (f : NameFault). fault.Name f) (same_name text k n h r)
tells text (Err (fault.Name k)) h fault.Memory r = tt
tells text (Err fault.Memory) h found r = tt
