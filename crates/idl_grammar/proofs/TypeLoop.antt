-- the loop over the items of a type
use Rattle.std.proofs.Common.{◌≡◌, ℕ, ◌+◌, ◌<◌, ◌≤◌, List, [], ◌∷◌, ◌++◌, map, length, take, take_all, get_or, Result, Ok, Err, Option, Some, None, sym, ap, ◌∙◌, inr}
use Rattle.idl_token.specs.Lex.{lexeme}
use Rattle.idl_token.specs.declared.tokens.Item.{Item}
use Rattle.idl_tree.specs.declared.trees.TypeRef.{TypeRef}
use Rattle.idl_rules.specs.Reading.{Next, Reading, Read, then_read}
use Rattle.idl_rules.specs.declared.states.State.{State}
use Rattle.idl_types.specs.TypeReading.{at_type, type_read, type_next, type_run}
use Rattle.idl_types.proofs.Readings.{type_go_on, type_run_append}
use Rattle.idl_grammar.specs.declared.faults.IdlFault.{IdlFault}
use Rattle.idl_grammar.specs.declared.faults.IdlFault.TheVariants as fault
use Rattle.idl_grammar.specs.Follows.{StopsAt}
use Rattle.idl_grammar.specs.FollowsType.{LeavesType, ReadsType, EndsType}
use Rattle.idl_grammar.proofs.Stopping.{one_further, stops_with}

module _ (items : List Item) (i : ℕ) (d : Item) (below : i < length items) (state : State)
    (taken : type_run 64 at_type (map lexeme (take i items)) ≡ Read state [])
    (next : Next) (does : type_next 64 state (lexeme (get_or items i d)) ≡ next) where
  one_more : type_run 64 at_type (map lexeme (take i items) ++ lexeme (get_or items i d) ∷ [])
      ≡ then_read next (λ s. Read s [])
  one_more = type_run_append 64 at_type (map lexeme (take i items)) (lexeme (get_or items i d) ∷ [])
      ∙ ap (λ (r : Reading). type_go_on 64 r (lexeme (get_or items i d) ∷ [])) taken
      ∙ ap (λ (n : Next). then_read n (λ s. Read s [])) does

  pub type_more : type_run 64 at_type (map lexeme (take (i + 1) items)) ≡ then_read next (λ s. Read s [])
  type_more = one_further items i d below (type_run 64 at_type) (then_read next (λ s. Read s [])) one_more

  pub type_stops : StopsAt (type_run 64 at_type) (then_read next (λ s. Read s [])) items (get_or items i d).at
  type_stops = stops_with items i d below (type_run 64 at_type) (then_read next (λ s. Read s [])) one_more (state, [], taken)

leaves : (items : List Item) (i : ℕ) (state : State) (found : Option TypeRef) → length items ≤ i
    → type_run 64 at_type (map lexeme (take i items)) ≡ Read state [] → type_read state ≡ found
    → LeavesType (map lexeme items) found
leaves items i state found all taken left = record {
  state = state;
  taken = ap (λ (x : List Item). type_run 64 at_type (map lexeme x)) (sym (take_all i items all)) ∙ taken;
  left = left;
}

pub type_ends : (items : List Item) (i end : ℕ) (state : State) (result : Result TypeRef IdlFault) → length items ≤ i
    → type_run 64 at_type (map lexeme (take i items)) ≡ Read state [] → EndsType result state end → ReadsType result items end
type_ends items i end state (Ok of) all taken e = leaves items i state (Some of) all taken e
type_ends items i end state (Err (fault.Token token)) all taken e = absurd e
type_ends items i end state (Err (fault.Syntax at)) all taken e = inr (e.0, leaves items i state None all taken e.1)
type_ends items i end state (Err (fault.TooDeep at)) all taken e = absurd e
type_ends items i end state (Err (fault.Name name)) all taken e = absurd e
type_ends items i end state (Err fault.Memory) all taken e = absurd e
