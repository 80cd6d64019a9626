-- whole members and definitions are read
use Rattle.std.proofs.Common.{◌≡◌, ℕ, ◌<◌, Bool, true, false, cond, List, [], ◌∷◌, length, codes, refl, sym, ap, subst, ◌∙◌, arith, inr, length-append}
use Rattle.std.proofs.lemmas.Bool.{cond-false}
use Rattle.idl_token.specs.Lex.{Bytes, Lexemes}
use Rattle.idl_tree.specs.declared.trees.Body.{Body}
use Rattle.idl_tree.specs.Names.{is_interface_name, is_member_name}
use Rattle.idl_rules.specs.Items.{word}
use Rattle.idl_rules.specs.Settle.{is_keyword}
use Rattle.idl_rules.specs.Grammar.{many, a_struct, body, member, definition, the_word, the_mark, a_name, Whole, on_left, on_right, no_turn, a_turn}
use Rattle.idl_rules.specs.Reading.{going_if, closed, takes_enum, kind_of, run, then_read, slot_next}
use Rattle.idl_rules.specs.declared.states.State.{State}
use Rattle.idl_rules.specs.declared.states.State.TheVariants.{Start, Headed, Between, Keyed, Ready, Middle, Inside}
use Rattle.idl_rules.specs.declared.states.Head.{Head}
use Rattle.idl_rules.specs.declared.states.Kind.{Kind}
use Rattle.idl_rules.specs.declared.states.Kind.TheVariants.{Shape, Input, Output, Fault}
use Rattle.idl_rules.specs.declared.states.Keyword.{Keyword}
use Rattle.idl_rules.specs.declared.states.Keyword.TheVariants.{Types, Methods, Errors}
use Rattle.idl_rules.proofs.Trees.{member_no_keyword, interface_no_keyword}
use Rattle.idl_fronts.proofs.Leads.{Reaches, seq, none}
use Rattle.idl_fronts.proofs.Passes.{Passes, word_passes, mark_passes, name_passes, row_passes, types_pass, struct_passes, body_passes, Closed, reaches_as}

-- kinds of states outside brackets
abbrev IsHeaded : State → Type 0
IsHeaded (Headed notes) = Unit {0}
IsHeaded state = ⊥

abbrev pub IsBetween : State → Type 0
IsBetween (Between head) = Unit {0}
IsBetween state = ⊥

abbrev IsKeyed : Keyword → State → Type 0
IsKeyed keyword (Keyed head notes given) = given ≡ keyword
IsKeyed keyword state = ⊥

abbrev IsReady : Kind → State → Type 0
IsReady kind (Ready head m) = m.kind ≡ kind
IsReady kind state = ⊥

abbrev IsReply : State → Type 0
IsReply (Ready head m) = (input : Body) × (m.kind ≡ Output input)
IsReply state = ⊥

abbrev IsMiddle : State → Type 0
IsMiddle (Middle head notes name input) = Unit {0}
IsMiddle state = ⊥

module _ (limit : ℕ) where
  keyword_step : (n : ℕ) (w : Bytes) (keyword : Keyword) (head : Head)
      → ((waiting : List Bytes) (more : Lexemes) → run limit (Between head) waiting (word w ∷ more) ≡ run limit (Keyed head waiting keyword) [] more)
      → Passes limit n (the_word w) (Between head) (IsKeyed keyword)
  keyword_step n w keyword head takes = word_passes limit n w (Between head) (IsKeyed keyword) (λ waiting more. inr (Keyed head waiting keyword, [], refl, takes waiting more))

  outside_name : (state next : State) (w : Bytes) (test : Bool) (waiting : List Bytes) (more : Lexemes) → is_keyword w ≡ false → test ≡ true
      → cond (is_keyword w) (then_read (slot_next state waiting (word w)) (λ s. run limit s [] more)) (then_read (going_if test next) (λ s. run limit s waiting more)) ≡ run limit next waiting more
  outside_name state next w test waiting more other e =
      cond-false (is_keyword w) _ _ other ∙ ap (λ (b : Bool). then_read (going_if b next) (λ s. run limit s waiting more)) e

  keyed_name : (n : ℕ) (keyword : Keyword) (s : State) → IsKeyed keyword s → Passes limit n (a_name is_member_name) s (IsReady (kind_of keyword))
  keyed_name n keyword (Keyed head notes given) p = name_passes limit n is_member_name _ _ (λ w named waiting more.
      let next = Ready head (record { notes = notes; name = w; kind = kind_of given }) in
      inr (next, waiting, ap kind_of p, outside_name (Keyed head notes given) next w (is_member_name w) waiting more (member_no_keyword w named) named))
  keyed_name n keyword Start p = absurd p
  keyed_name n keyword (Headed notes) p = absurd p
  keyed_name n keyword (Between head) p = absurd p
  keyed_name n keyword (Ready head m) p = absurd p
  keyed_name n keyword (Middle head notes name input) p = absurd p
  keyed_name n keyword (Inside head m levels at) p = absurd p

  closed_kind : (head : Head) (notes : List Bytes) (name : Bytes) (kind given : Kind) (P : State → Type 0) → given ≡ kind
      → ((b : Body) → P (closed head (record { notes = notes; name = name; kind = kind }) [] b)) → (s : State) → Closed limit head (record { notes = notes; name = name; kind = given }) [] s → P s
  closed_kind head notes name kind given P e all s (b, same) =
      subst P (sym (same ∙ ap (λ (k : Kind). closed head (record { notes = notes; name = name; kind = k }) [] b) e)) (all b)

  shape_body : (n : ℕ) (s : State) → IsReady Shape s → Passes limit n body s IsBetween
  shape_body n (Ready head m) p items w low =
      reaches_as limit head m (Ready head m) items (Closed limit head m []) IsBetween (closed_kind head m.notes m.name Shape m.kind IsBetween p (λ b. tt))
      (body_passes limit head m n (types_pass limit head m n) [] (Ready head m) (ap (λ (k : Kind). takes_enum k []) p) (λ waiting more. refl) items w (omega arith))
  shape_body n Start p items w low = absurd p
  shape_body n (Headed notes) p items w low = absurd p
  shape_body n (Between head) p items w low = absurd p
  shape_body n (Keyed head notes keyword) p items w low = absurd p
  shape_body n (Middle head notes name input) p items w low = absurd p
  shape_body n (Inside head m levels at) p items w low = absurd p

  fault_body : (n : ℕ) (s : State) → IsReady Fault s → Passes limit n a_struct s IsBetween
  fault_body n (Ready head m) p items w low =
      reaches_as limit head m (Ready head m) items (Closed limit head m []) IsBetween (closed_kind head m.notes m.name Fault m.kind IsBetween p (λ b. tt))
      (struct_passes limit head m n (types_pass limit head m n) [] (Ready head m) (λ waiting more. refl) items w (omega arith))
  fault_body n Start p items w low = absurd p
  fault_body n (Headed notes) p items w low = absurd p
  fault_body n (Between head) p items w low = absurd p
  fault_body n (Keyed head notes keyword) p items w low = absurd p
  fault_body n (Middle head notes name input) p items w low = absurd p
  fault_body n (Inside head m levels at) p items w low = absurd p

  input_body : (n : ℕ) (s : State) → IsReady Input s → Passes limit n a_struct s IsMiddle
  input_body n (Ready head m) p items w low =
      reaches_as limit head m (Ready head m) items (Closed limit head m []) IsMiddle (closed_kind head m.notes m.name Input m.kind IsMiddle p (λ b. tt))
      (struct_passes limit head m n (types_pass limit head m n) [] (Ready head m) (λ waiting more. refl) items w (omega arith))
  input_body n Start p items w low = absurd p
  input_body n (Headed notes) p items w low = absurd p
  input_body n (Between head) p items w low = absurd p
  input_body n (Keyed head notes keyword) p items w low = absurd p
  input_body n (Middle head notes name input) p items w low = absurd p
  input_body n (Inside head m levels at) p items w low = absurd p

  arrows : (n : ℕ) (s : State) → IsMiddle s → Passes limit n (the_mark (codes "->")) s IsReply
  arrows n (Middle head notes name input) p = mark_passes limit n (codes "->") _ _ (λ waiting more.
      inr (Ready head (record { notes = notes; name = name; kind = Output input }), waiting, (input, refl), refl))
  arrows n Start p = absurd p
  arrows n (Headed notes) p = absurd p
  arrows n (Between head) p = absurd p
  arrows n (Keyed head notes keyword) p = absurd p
  arrows n (Ready head m) p = absurd p
  arrows n (Inside head m levels at) p = absurd p

  reply_body : (n : ℕ) (s : State) → IsReply s → Passes limit n a_struct s IsBetween
  reply_body n (Ready head m) (input, p) items w low =
      reaches_as limit head m (Ready head m) items (Closed limit head m []) IsBetween (closed_kind head m.notes m.name (Output input) m.kind IsBetween p (λ b. tt))
      (struct_passes limit head m n (types_pass limit head m n) [] (Ready head m) (λ waiting more. refl) items w (omega arith))
  reply_body n Start p items w low = absurd p
  reply_body n (Headed notes) p items w low = absurd p
  reply_body n (Between head) p items w low = absurd p
  reply_body n (Keyed head notes keyword) p items w low = absurd p
  reply_body n (Middle head notes name input) p items w low = absurd p
  reply_body n (Inside head m levels at) p items w low = absurd p

  member_passes : (n : ℕ) (s : State) → IsBetween s → Passes limit n member s IsBetween
  member_passes n (Between head) p items (on_left w) low =
      row_passes limit n _ _ _ (IsKeyed Types) IsBetween (keyword_step n (codes "type") Types head (λ waiting more. refl)) (λ s p.
      row_passes limit n _ _ s (IsReady Shape) IsBetween (keyed_name n Types s p) (λ s p. shape_body n s p)) items w low
  member_passes n (Between head) p items (on_right (on_left w)) low =
      row_passes limit n _ _ _ (IsKeyed Methods) IsBetween (keyword_step n (codes "method") Methods head (λ waiting more. refl)) (λ s p.
      row_passes limit n _ _ s (IsReady Input) IsBetween (keyed_name n Methods s p) (λ s p.
      row_passes limit n _ _ s IsMiddle IsBetween (input_body n s p) (λ s p.
      row_passes limit n _ _ s IsReply IsBetween (arrows n s p) (λ s p. reply_body n s p)))) items w low
  member_passes n (Between head) p items (on_right (on_right w)) low =
      row_passes limit n _ _ _ (IsKeyed Errors) IsBetween (keyword_step n (codes "error") Errors head (λ waiting more. refl)) (λ s p.
      row_passes limit n _ _ s (IsReady Fault) IsBetween (keyed_name n Errors s p) (λ s p. fault_body n s p)) items w low
  member_passes n Start p items w low = absurd p
  member_passes n (Headed notes) p items w low = absurd p
  member_passes n (Keyed head notes keyword) p items w low = absurd p
  member_passes n (Ready head m) p items w low = absurd p
  member_passes n (Middle head notes name input) p items w low = absurd p
  member_passes n (Inside head m levels at) p items w low = absurd p

  members_pass : (n : ℕ) (items : Lexemes) → Whole (many member) items → length items < n → (s : State) → IsBetween s → Reaches limit s items IsBetween
  members_pass n items no_turn low s p = none limit s IsBetween p
  members_pass n items (a_turn {items = front} {more = back} w v same) low s p =
      let size = length-append front back in
      let all = ap length same in
      seq limit s front back items IsBetween IsBetween same (member_passes n s p front w (omega arith)) (λ s' p'. members_pass n back v (omega arith) s' p')

  headed_name : (n : ℕ) (s : State) → IsHeaded s → Passes limit n (a_name is_interface_name) s IsBetween
  headed_name n (Headed notes) p = name_passes limit n is_interface_name _ _ (λ w named waiting more.
      let next = Between (record { notes = notes; name = w; members = [] }) in
      inr (next, waiting, tt, outside_name (Headed notes) next w (is_interface_name w) waiting more (interface_no_keyword w named) named))
  headed_name n Start p = absurd p
  headed_name n (Between head) p = absurd p
  headed_name n (Keyed head notes keyword) p = absurd p
  headed_name n (Ready head m) p = absurd p
  headed_name n (Middle head notes name input) p = absurd p
  headed_name n (Inside head m levels at) p = absurd p

  pub definition_passes : (n : ℕ) → Passes limit n definition Start IsBetween
  definition_passes n items w low =
      row_passes limit n _ _ Start IsHeaded IsBetween (word_passes limit n (codes "interface") Start IsHeaded (λ waiting more. inr (Headed waiting, [], tt, refl))) (λ s p.
      row_passes limit n _ _ s IsBetween IsBetween (headed_name n s p) (λ s p items w low. members_pass n items w low s p)) items w low
