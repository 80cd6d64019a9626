-- the loop over the items
use Rattle.std.proofs.Common.{◌≡◌, ℕ, ◌+◌, ◌<◌, ◌≤◌, List, [], ◌∷◌, ◌++◌, map, length, take, take_all, get_or, Result, Ok, Err, sym, ap, ◌∙◌, inr}
use Rattle.idl_token.specs.Lex.{Bytes, lexeme}
use Rattle.idl_token.specs.declared.tokens.Item.{Item}
use Rattle.idl_tree.specs.declared.trees.Interface.{Interface}
use Rattle.idl_rules.specs.Reading.{Reading, Read, run}
use Rattle.idl_rules.specs.declared.states.State.{State}
use Rattle.idl_rules.specs.declared.states.State.TheVariants.{Start}
use Rattle.idl_rules.proofs.Fronts.{go_on, run_append}
use Rattle.idl_grammar.specs.declared.faults.IdlFault.{IdlFault}
use Rattle.idl_grammar.specs.declared.faults.IdlFault.TheVariants as fault
use Rattle.idl_grammar.specs.Follows.{StopsAt, Reads, Ends}
use Rattle.idl_grammar.proofs.Stopping.{one_further, stops_with}

module _ (items : List Item) (i : ℕ) (d : Item) (below : i < length items) (state : State) (waiting : List Bytes)
    (taken : run 64 Start [] (map lexeme (take i items)) ≡ Read state waiting) (reading : Reading) (next : run 64 state waiting (lexeme (get_or items i d) ∷ []) ≡ reading) where
  one_more : run 64 Start [] (map lexeme (take i items) ++ lexeme (get_or items i d) ∷ []) ≡ reading
  one_more = run_append 64 Start [] (map lexeme (take i items)) (lexeme (get_or items i d) ∷ [])
      ∙ ap (λ (r : Reading). go_on 64 r (lexeme (get_or items i d) ∷ [])) taken ∙ next

  pub taken_more : run 64 Start [] (map lexeme (take (i + 1) items)) ≡ reading
  taken_more = one_further items i d below (run 64 Start []) reading one_more

  pub stops_at : StopsAt (run 64 Start []) reading items (get_or items i d).at
  stops_at = stops_with items i d below (run 64 Start []) reading one_more (state, waiting, taken)

pub ends : (items : List Item) (i end : ℕ) (state : State) (waiting : List Bytes) (result : Result Interface IdlFault) → length items ≤ i
    → run 64 Start [] (map lexeme (take i items)) ≡ Read state waiting → Ends result state waiting end → Reads result items end
ends items i end state waiting (Ok tree) all taken e = ap (λ (x : List Item). run 64 Start [] (map lexeme x)) (sym (take_all i items all)) ∙ taken ∙ e
ends items i end state waiting (Err (fault.Token token)) all taken e = absurd e
ends items i end state waiting (Err (fault.Syntax at)) all taken e =
    let read : run 64 Start [] (map lexeme items) ≡ Read state waiting = ap (λ (x : List Item). run 64 Start [] (map lexeme x)) (sym (take_all i items all)) ∙ taken in
    inr (e.0, record { taken = (state, waiting, read); missing = λ tree is. e.1 tree (sym read ∙ is) })
ends items i end state waiting (Err (fault.TooDeep at)) all taken e = absurd e
ends items i end state waiting (Err (fault.Name name)) all taken e = absurd e
ends items i end state waiting (Err fault.Memory) all taken e = absurd e
