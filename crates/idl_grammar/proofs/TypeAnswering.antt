-- what the reading of a text's items tells of the text as one type
use Rattle.std.proofs.Common.{◌≡◌, ℕ, ◌≤◌, List, [], ◌∷◌, ◌++◌, map, length, Option, None, Result, Ok, Err, Some, sym, ap, subst, ◌∙◌, arith, inl, inr}
use Rattle.idl_token.specs.Lex.{Bytes, Lexemes, Lex, LexAt, lexeme, placed}
use Rattle.idl_token.specs.declared.tokens.Item.{Item}
use Rattle.idl_token.specs.declared.tokens.TokenFault.{TokenFault}
use Rattle.idl_token.specs.declared.tokens.TokenFault.TheVariants as token
use Rattle.idl_token.proofs.OneList.{one_lex}
use Rattle.idl_tree.specs.Form.{type_depth}
use Rattle.idl_tree.specs.Faults.{type_fault, defines}
use Rattle.idl_tree.specs.declared.trees.Interface.{Interface}
use Rattle.idl_tree.specs.declared.trees.TypeRef.{TypeRef}
use Rattle.idl_tree.specs.declared.faults.NameFault.{NameFault}
use Rattle.idl_tree.specs.declared.faults.NameFault.TheVariants as name
use Rattle.idl_rules.specs.Grammar.{Front, a_type}
use Rattle.idl_rules.specs.Spells.{greatest_depth, depth_at_end}
use Rattle.idl_rules.specs.Reading.{Reading, Strayed, TooFar}
use Rattle.idl_types.specs.Types.{AreType, SpellsType, AcceptsType}
use Rattle.idl_types.specs.TypeReading.{at_type, type_run}
use Rattle.idl_types.proofs.Readings.{type_go_on, type_run_append, taken_type, taken_front, taken_depth, stray_front, stray_type, missing_type, deep_stop, deep_type, one_type}
use Rattle.idl_grammar.proofs.Stopping.{bare_placed, cut_whole, stop_stands}
use Rattle.idl_grammar.specs.declared.faults.IdlFault.{IdlFault}
use Rattle.idl_grammar.specs.declared.faults.IdlFault.TheVariants as fault
use Rattle.idl_grammar.specs.Follows.{StopsAt, of_token}
use Rattle.idl_grammar.specs.Refuses.{Refuses}
use Rattle.idl_grammar.specs.RefusesType.{AnswersType, RefusesType, GivesType, MisnamesType}
use Rattle.idl_grammar.specs.FollowsType.{LeavesType, ReadsType, TypeOf, ChecksType}

-- the items of a text that spells a type are those of the type
spelled_items : (items : Lexemes) (text : Bytes) → Lex items text → (of : TypeRef)
    → SpellsType of text → AreType items of
spelled_items items text lex of (others, other, are) =
    subst (λ (x : Lexemes). AreType x of) (one_lex others items text other lex) are

module _ (items : List Item) (reading : Reading) (at : ℕ) (stop : StopsAt (type_run 64 at_type) reading items at) where
  cut_run : type_run 64 at_type (map lexeme items) ≡ type_go_on 64 reading (map lexeme stop.rest)
  cut_run = ap (λ (x : Lexemes). type_run 64 at_type x) (cut_whole items (type_run 64 at_type) reading at stop)
      ∙ type_run_append 64 at_type (map lexeme stop.front ++ lexeme stop.item ∷ []) (map lexeme stop.rest)
      ∙ ap (λ (r : Reading). type_go_on 64 r (map lexeme stop.rest)) stop.stopped

stray_at : (items : List Item) (text : Bytes) → Lex (map lexeme items) text → LexAt (length text) (map placed items) text
    → (at : ℕ) → StopsAt (type_run 64 at_type) Strayed items at
    → (scope : Interface) → RefusesType (fault.Syntax at) text scope
stray_at items text lex places at stop scope =
    let same = bare_placed stop.front in (
      (map lexeme items, lex),
      λ of spells. stray_type 64 (map lexeme items) (cut_run items Strayed at stop) of
          (spelled_items (map lexeme items) text lex of spells),
      inl (record {
        front = map placed stop.front;
        item = placed stop.item;
        rest = map placed stop.rest;
        stands = stop_stands items (type_run 64 at_type) Strayed at stop text places;
        goes = subst (λ (x : Lexemes). Front a_type x) (sym same)
            (taken_front 64 (map lexeme stop.front) stop.taken.0 stop.taken.1 stop.taken.2);
        stops = λ goes. stray_front 64 (map lexeme stop.front) (lexeme stop.item) stop.stopped
            (subst (λ (x : Lexemes). Front a_type (x ++ lexeme stop.item ∷ [])) same goes);
        within = subst (λ (x : Lexemes). greatest_depth 0 x ≤ 64) (sym same)
            (taken_depth 64 (map lexeme stop.front) stop.taken.0 stop.taken.1 stop.taken.2);
      }),
    )

deep_at : (items : List Item) (text : Bytes) → Lex (map lexeme items) text → LexAt (length text) (map placed items) text
    → (at : ℕ) → StopsAt (type_run 64 at_type) TooFar items at
    → (scope : Interface) → RefusesType (fault.TooDeep at) text scope
deep_at items text lex places at stop scope =
    let same = bare_placed stop.front in
    let deep = deep_stop 64 (map lexeme stop.front) (lexeme stop.item) stop.taken.0 stop.taken.1 stop.taken.2 stop.stopped in (
      (map lexeme items, lex),
      λ of spells. deep_type 64 (map lexeme items) (cut_run items TooFar at stop) of
          (spelled_items (map lexeme items) text lex of spells),
      record {
        front = map placed stop.front;
        item = placed stop.item;
        rest = map placed stop.rest;
        stands = stop_stands items (type_run 64 at_type) TooFar at stop text places;
        bracket = deep.0;
        goes = subst (λ (x : Lexemes). Front a_type (x ++ lexeme stop.item ∷ [])) (sym same) deep.2;
        within = subst (λ (x : Lexemes). greatest_depth 0 x ≤ 64) (sym same)
            (taken_depth 64 (map lexeme stop.front) stop.taken.0 stop.taken.1 stop.taken.2);
        beyond = subst (λ (x : Lexemes). depth_at_end 0 x ≡ 64) (sym same) deep.1;
      },
    )

missing_at : (items : Lexemes) (text : Bytes) → Lex items text → (at : ℕ) → at ≡ length text → LeavesType items None
    → (scope : Interface) → RefusesType (fault.Syntax at) text scope
missing_at items text lex at place leaves scope =
    let none : (of : TypeRef) → SpellsType of text → ⊥ =
    λ of spells. missing_type 64 items leaves.state [] leaves.taken leaves.left of (spelled_items items text lex of spells) in (
      (items, lex),
      none,
      inr (record {
        items = items;
        lex = lex;
        place = place;
        goes = taken_front 64 items leaves.state [] leaves.taken;
        within = taken_depth 64 items leaves.state [] leaves.taken;
      }),
    )

pub type_of : (items : List Item) (text : Bytes) → Lex (map lexeme items) text → LexAt (length text) (map placed items) text
    → (result : Result TypeRef IdlFault) → ReadsType result items (length text) → TypeOf result text
type_of items text lex places (Ok of) e =
    let is = taken_type 64 (map lexeme items) e.state [] of e.taken e.left in ((map lexeme items, lex, is.0), is.1)
type_of items text lex places (Err (fault.Token token)) e = absurd e
type_of items text lex places (Err (fault.Syntax at)) (inl stop) = stray_at items text lex places at stop
type_of items text lex places (Err (fault.Syntax at)) (inr ends) = missing_at (map lexeme items) text lex at ends.0 ends.1
type_of items text lex places (Err (fault.TooDeep at)) e = deep_at items text lex places at e
type_of items text lex places (Err (fault.Name name)) e = absurd e
type_of items text lex places (Err fault.Memory) e = λ scope. tt

pub type_named : (text : Bytes) (scope : Interface) (of : TypeRef) (result : Result TypeRef IdlFault)
    → SpellsType of text → type_depth of ≤ 64 → ChecksType result of (type_fault (defines scope) of) → AnswersType result text scope
type_named text scope of (Ok checked) spells within (same, good) =
    subst (λ (t : TypeRef). AcceptsType text scope t) (sym same) (spells, within, good)
type_named text scope of (Err (fault.Token token)) spells within h = absurd h
type_named text scope of (Err (fault.Syntax at)) spells within h = absurd h
type_named text scope of (Err (fault.TooDeep at)) spells within h = absurd h
type_named text scope of (Err (fault.Name name.Memory)) spells within h = absurd h
type_named text scope of (Err (fault.Name (name.TwiceType w))) spells within h = (of, spells, within, h)
type_named text scope of (Err (fault.Name (name.TwiceMethod w))) spells within h = (of, spells, within, h)
type_named text scope of (Err (fault.Name (name.TwiceError w))) spells within h = (of, spells, within, h)
type_named text scope of (Err (fault.Name (name.TwiceField w))) spells within h = (of, spells, within, h)
type_named text scope of (Err (fault.Name (name.UnknownType w))) spells within h = (of, spells, within, h)
type_named text scope of (Err fault.Memory) spells within h = tt

-- what an accepted text gives
misnamed : (text : Bytes) (scope : Interface) (of : TypeRef) (found : NameFault)
    → MisnamesType found text scope → AcceptsType text scope of → ⊥
misnamed text scope of found (other, spells, within, first) accepts =
    let same = one_type text of other accepts.0 spells in
    let no : ◌≡◌ {A = Option NameFault} None (Some found) = sym accepts.2 ∙ ap (type_fault (defines scope)) same ∙ first in
    absurd (cc)

pub type_complete : (text : Bytes) (scope : Interface) (result : Result TypeRef IdlFault) → AnswersType result text scope
    → (of : TypeRef) → AcceptsType text scope of → GivesType result of
type_complete text scope (Ok given) h of accepts = one_type text given of h.0 accepts.0
type_complete text scope (Err (fault.Token (token.NotUtf8 at))) h of accepts = h.0 accepts.0.1.0
type_complete text scope (Err (fault.Token (token.BadByte at))) h of accepts = h.2 accepts.0.0 accepts.0.1
type_complete text scope (Err (fault.Token token.Memory)) h of accepts = h
type_complete text scope (Err (fault.Syntax at)) h of accepts = h.1 of accepts.0
type_complete text scope (Err (fault.TooDeep at)) h of accepts = let deep = h.1 of accepts.0 in let within = accepts.1 in omega arith
type_complete text scope (Err (fault.Name name.Memory)) h of accepts = h
type_complete text scope (Err (fault.Name (name.TwiceType w))) h of accepts = misnamed text scope of (name.TwiceType w) h accepts
type_complete text scope (Err (fault.Name (name.TwiceMethod w))) h of accepts = misnamed text scope of (name.TwiceMethod w) h accepts
type_complete text scope (Err (fault.Name (name.TwiceError w))) h of accepts = misnamed text scope of (name.TwiceError w) h accepts
type_complete text scope (Err (fault.Name (name.TwiceField w))) h of accepts = misnamed text scope of (name.TwiceField w) h accepts
type_complete text scope (Err (fault.Name (name.UnknownType w))) h of accepts = misnamed text scope of (name.UnknownType w) h accepts
type_complete text scope (Err fault.Memory) h of accepts = tt

pub type_token_cause : (text : Bytes) (scope : Interface) (found : TokenFault)
    → Refuses (of_token found) text → RefusesType (of_token found) text scope
type_token_cause text scope (token.NotUtf8 at) h = h
type_token_cause text scope (token.BadByte at) h = h
type_token_cause text scope token.Memory h = tt
