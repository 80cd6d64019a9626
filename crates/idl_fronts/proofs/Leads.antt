-- readings of items by what they are without notes
use Rattle.std.proofs.Common.{◌≡◌, ℕ, Bool, cond, List, [], ◌∷◌, ◌++◌, refl, sym, ap, subst, ◌∙◌, append_assoc, inl, inr, ◌⊎◌}
use Rattle.idl_token.specs.Lex.{Bytes, Lexeme, Lexemes}
use Rattle.idl_token.specs.declared.tokens.ItemKind.TheVariants.{Word, Mark, Note}
use Rattle.idl_rules.specs.Items.{notes_items}
use Rattle.idl_rules.specs.Settle.{Here, settled, is_slot, after, note_text}
use Rattle.idl_rules.specs.Reading.{TooFar, run}
use Rattle.idl_rules.specs.declared.states.State.{State}
use Rattle.idl_rules.proofs.Runs.{by_bool}
use Rattle.idl_fronts.specs.Bare.{without_notes}
use Rattle.idl_fronts.proofs.Wholes.{bare_append, bare_notes, bare_behind}

-- settled items are the same without notes
settled_item : (here : Here) (waiting : List Bytes) (item : Lexeme) (items : Lexemes) → without_notes (item ∷ []) ≡ item ∷ []
    → ((place : Here) (w : List Bytes) → without_notes (settled place w items) ≡ without_notes items)
    → without_notes (cond (is_slot here item) (notes_items waiting ++ item ∷ settled (after here item) [] items) (item ∷ settled (after here item) waiting items)) ≡ item ∷ without_notes items
settled_item here waiting item items kept ih =
    by_bool (λ (b : Bool). without_notes (cond b (notes_items waiting ++ item ∷ settled (after here item) [] items) (item ∷ settled (after here item) waiting items)) ≡ item ∷ without_notes items)
    (is_slot here item)
    (λ e. bare_behind waiting (item ∷ settled (after here item) [] items) ∙ bare_append (item ∷ []) (settled (after here item) [] items)
    ∙ ap (λ (x : Lexemes). x ++ without_notes (settled (after here item) [] items)) kept ∙ ap (λ (x : Lexemes). item ∷ x) (ih (after here item) []))
    (λ e. bare_append (item ∷ []) (settled (after here item) waiting items)
    ∙ ap (λ (x : Lexemes). x ++ without_notes (settled (after here item) waiting items)) kept ∙ ap (λ (x : Lexemes). item ∷ x) (ih (after here item) waiting))

pub bare_settled : (here : Here) (waiting : List Bytes) (items : Lexemes) → without_notes (settled here waiting items) ≡ without_notes items
bare_settled here waiting [] = bare_notes waiting
bare_settled here waiting ((Note, spelling) ∷ items) = bare_settled here (waiting ++ note_text spelling ∷ []) items
bare_settled here waiting ((Word, w) ∷ items) = settled_item here waiting (Word, w) items refl (λ place ws. bare_settled place ws items)
bare_settled here waiting ((Mark, w) ∷ items) = settled_item here waiting (Mark, w) items refl (λ place ws. bare_settled place ws items)

-- a cut of items without notes is one of the items
pub record Parts (items one other : Lexemes) : Type 0 where
  pub front : Lexemes
  pub back : Lexemes
  pub whole : items ≡ front ++ back
  pub first : without_notes front ≡ one
  pub second : without_notes back ≡ other

longer_parts : (item : Lexeme) (items one other : Lexemes) → without_notes (item ∷ []) ≡ item ∷ [] → Parts items one other → Parts (item ∷ items) (item ∷ one) other
longer_parts item items one other kept p = record {
  front = item ∷ p.front;
  back = p.back;
  whole = ap (λ (x : Lexemes). item ∷ x) p.whole;
  first = bare_append (item ∷ []) p.front ∙ ap (λ (x : Lexemes). x ++ without_notes p.front) kept ∙ ap (λ (x : Lexemes). item ∷ x) p.first;
  second = p.second;
}

same_first : (item x : Lexeme) (items one other : Lexemes) → item ≡ x → Parts items (item ∷ one) other → Parts items (x ∷ one) other
same_first item x items one other e p = subst (λ (i : Lexeme). Parts items (i ∷ one) other) e p

pub parts : (items one other : Lexemes) → without_notes items ≡ one ++ other → Parts items one other
parts items [] other e = record { front = []; back = items; whole = refl; first = refl; second = e }
parts [] (x ∷ one) other e = let no : ◌≡◌ {A = Lexemes} [] (x ∷ (one ++ other)) = e in absurd (cc)
parts ((Note, w) ∷ items) (x ∷ one) other e =
    let p = parts items (x ∷ one) other e in
    record { front = (Note, w) ∷ p.front; back = p.back; whole = ap (λ (l : Lexemes). (Note, w) ∷ l) p.whole; first = p.first; second = p.second }
parts ((Word, w) ∷ items) (x ∷ one) other e =
    let head : ◌≡◌ {A = Lexeme} (Word, w) x = cc in
    let tail : without_notes items ≡ one ++ other = cc in
    same_first (Word, w) x ((Word, w) ∷ items) one other head (longer_parts (Word, w) items one other refl (parts items one other tail))
parts ((Mark, w) ∷ items) (x ∷ one) other e =
    let head : ◌≡◌ {A = Lexeme} (Mark, w) x = cc in
    let tail : without_notes items ≡ one ++ other = cc in
    same_first (Mark, w) x ((Mark, w) ∷ items) one other head (longer_parts (Mark, w) items one other refl (parts items one other tail))

module _ (limit : ℕ) where
  -- the reading of items goes on from a state of that kind, or a bracket is too deep
  abbrev pub Leads : State → List Bytes → Lexemes → (State → Type 0) → Type 0
  Leads state waiting items P = (more : Lexemes) → (run limit state waiting (items ++ more) ≡ TooFar)
      ⊎ ((next : State) × (left : List Bytes) × P next × (run limit state waiting (items ++ more) ≡ run limit next left more))

  -- so it is for all items that are these without notes
  abbrev pub Reaches : State → Lexemes → (State → Type 0) → Type 0
  Reaches state bare P = (items : Lexemes) → without_notes items ≡ bare → (waiting : List Bytes) → Leads state waiting items P

  then_leads : (state : State) (waiting : List Bytes) (front back more : Lexemes) (P Q : State → Type 0) → Leads state waiting front P
      → ((next : State) → P next → (left : List Bytes) → Leads next left back Q)
      → (run limit state waiting ((front ++ back) ++ more) ≡ TooFar)
      ⊎ ((next : State) × (left : List Bytes) × Q next × (run limit state waiting ((front ++ back) ++ more) ≡ run limit next left more))
  then_leads state waiting front back more P Q first second =
      let assoc = ap (λ (x : Lexemes). run limit state waiting x) (append_assoc front back more) in
      elim (first (back ++ more)) [
        | inl far ↦ inl (assoc ∙ far)
        | inr (next, left, p, e) ↦ elim (second next p left more) [
          | inl far ↦ inl (assoc ∙ e ∙ far)
          | inr (last, rest, q, f) ↦ inr (last, rest, q, assoc ∙ e ∙ f)
        ]
      ]

  pub seq : (state : State) (one other all : Lexemes) (P Q : State → Type 0) → all ≡ one ++ other → Reaches state one P → ((next : State) → P next → Reaches next other Q) → Reaches state all Q
  seq state one other all P Q same first second items e waiting more =
      let p = parts items one other (e ∙ same) in
      subst (λ (x : Lexemes). (run limit state waiting (x ++ more) ≡ TooFar) ⊎ ((next : State) × (left : List Bytes) × Q next × (run limit state waiting (x ++ more) ≡ run limit next left more))) (sym p.whole)
      (then_leads state waiting p.front p.back more P Q (first p.front p.first waiting) (λ next q left. second next q p.back p.second left))

  notes_lead : (state : State) (P : State → Type 0) → P state → (items : Lexemes) → without_notes items ≡ [] → (waiting : List Bytes) → Leads state waiting items P
  notes_lead state P p [] e waiting more = inr (state, waiting, p, refl)
  notes_lead state P p ((Note, w) ∷ items) e waiting more = notes_lead state P p items e (waiting ++ note_text w ∷ []) more
  notes_lead state P p ((Word, w) ∷ items) e waiting more = let no : ◌≡◌ {A = Lexemes} ((Word, w) ∷ without_notes items) [] = e in absurd (cc)
  notes_lead state P p ((Mark, w) ∷ items) e waiting more = let no : ◌≡◌ {A = Lexemes} ((Mark, w) ∷ without_notes items) [] = e in absurd (cc)

  pub none : (state : State) (P : State → Type 0) → P state → Reaches state [] P
  none state P p items e waiting = notes_lead state P p items e waiting

  -- one item
  abbrev pub Steps : State → Lexeme → (State → Type 0) → Type 0
  Steps state item P = (waiting : List Bytes) (more : Lexemes) → (run limit state waiting (item ∷ more) ≡ TooFar)
      ⊎ ((next : State) × (left : List Bytes) × P next × (run limit state waiting (item ∷ more) ≡ run limit next left more))

  item_leads : (state : State) (item : Lexeme) (P : State → Type 0) → Steps state item P → (items : Lexemes) → without_notes items ≡ [] → (waiting : List Bytes) → Leads state waiting (item ∷ items) P
  item_leads state item P steps items e waiting more = elim (steps waiting (items ++ more)) [
    | inl far ↦ inl far
    | inr (next, left, p, f) ↦ elim (notes_lead next P p items e left more) [
      | inl far ↦ inl (f ∙ far)
      | inr (last, rest, q, g) ↦ inr (last, rest, q, f ∙ g)
    ]
  ]

  pub token : (state : State) (item : Lexeme) (P : State → Type 0) → Steps state item P → Reaches state (item ∷ []) P
  token state item P steps [] e waiting more = let no : ◌≡◌ {A = Lexemes} [] (item ∷ []) = e in absurd (cc)
  token state item P steps ((Note, w) ∷ items) e waiting more = token state item P steps items e (waiting ++ note_text w ∷ []) more
  token state item P steps ((Word, w) ∷ items) e waiting more =
      let head : ◌≡◌ {A = Lexeme} (Word, w) item = cc in
      let tail : without_notes items ≡ [] = cc in
      item_leads state (Word, w) P (subst (λ (i : Lexeme). Steps state i P) (sym head) steps) items tail waiting more
  token state item P steps ((Mark, w) ∷ items) e waiting more =
      let head : ◌≡◌ {A = Lexeme} (Mark, w) item = cc in
      let tail : without_notes items ≡ [] = cc in
      item_leads state (Mark, w) P (subst (λ (i : Lexeme). Steps state i P) (sym head) steps) items tail waiting more
