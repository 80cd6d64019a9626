-- readings of items and of more items behind them, and where they stop
use Rattle.std.proofs.Common.{◌≡◌, ℕ, ◌<◌, Bool, true, cond, List, [], ◌∷◌, ◌++◌, codes, refl, ap, ◌∙◌}
use Rattle.std.specs.List.{list_all}
use Rattle.std.proofs.lemmas.Bool.{and_from, lt-ltb}
use Rattle.idl_token.specs.Lex.{Bytes, Lexeme, Lexemes}
use Rattle.idl_token.specs.declared.tokens.ItemKind.TheVariants.{Word, Mark, Note}
use Rattle.idl_tree.specs.declared.trees.Interface.{Interface}
use Rattle.idl_tree.specs.declared.trees.Field.{Field}
use Rattle.idl_tree.specs.declared.trees.Named.{Named}
use Rattle.idl_tree.specs.declared.trees.Body.{Body}
use Rattle.idl_tree.specs.declared.trees.Body.TheVariants.{Struct, Enum, Int}
use Rattle.idl_tree.specs.declared.trees.Prefix.TheVariants.{Array, Map}
use Rattle.idl_rules.specs.Items.{word, left_bracket, right_bracket, colon, right_square, arrow}
use Rattle.idl_rules.specs.Settle.{is_slot}
use Rattle.idl_rules.specs.Spells.{is_bare}
use Rattle.idl_rules.specs.Reading.{Next, Going, Stray, Beyond, Reading, Read, Strayed, TooFar, run, whole, then_read, slot_next, plain_next, closed, finished, with_core, with_prefix, here}
use Rattle.idl_rules.specs.declared.states.State.{State}
use Rattle.idl_rules.specs.declared.states.State.TheVariants.{Start, Headed, Between, Keyed, Ready, Middle, Inside}
use Rattle.idl_rules.specs.declared.states.Head.{Head}
use Rattle.idl_rules.specs.declared.states.Begun.{Begun}
use Rattle.idl_rules.specs.declared.states.Level.{Level}
use Rattle.idl_rules.specs.declared.states.Kind.{Kind}
use Rattle.idl_rules.specs.declared.states.Kind.TheVariants.{Shape, Input, Output, Fault}
use Rattle.idl_rules.specs.declared.states.Keyword.TheVariants.{Types, Methods, Errors}
use Rattle.idl_rules.specs.declared.states.Spot.{Spot}
use Rattle.idl_rules.specs.declared.states.Spot.TheVariants as spot
use Rattle.idl_rules.proofs.Runs.{by_bool}

-- more items behind a reading
abbrev pub go_on : ℕ → Reading → Lexemes → Reading
go_on limit (Read state waiting) items = run limit state waiting items
go_on limit Strayed items = Strayed
go_on limit TooFar items = TooFar

module _ (limit : ℕ) (front items : Lexemes) where
  then_append : (next : Next) (waiting : List Bytes)
      → ((s : State) (w : List Bytes) → run limit s w (front ++ items) ≡ go_on limit (run limit s w front) items)
      → then_read next (λ s. run limit s waiting (front ++ items)) ≡ go_on limit (then_read next (λ s. run limit s waiting front)) items
  then_append (Going state) waiting ih = ih state waiting
  then_append Stray waiting ih = refl
  then_append Beyond waiting ih = refl

  item_append : (state : State) (waiting : List Bytes) (item : Lexeme)
      → ((s : State) (w : List Bytes) → run limit s w (front ++ items) ≡ go_on limit (run limit s w front) items)
      → cond (is_slot (here state) item) (then_read (slot_next state waiting item) (λ s. run limit s [] (front ++ items))) (then_read (plain_next limit state item) (λ s. run limit s waiting (front ++ items)))
      ≡ go_on limit (cond (is_slot (here state) item) (then_read (slot_next state waiting item) (λ s. run limit s [] front)) (then_read (plain_next limit state item) (λ s. run limit s waiting front))) items
  item_append state waiting item ih =
      by_bool (λ (b : Bool). cond b (then_read (slot_next state waiting item) (λ s. run limit s [] (front ++ items))) (then_read (plain_next limit state item) (λ s. run limit s waiting (front ++ items)))
      ≡ go_on limit (cond b (then_read (slot_next state waiting item) (λ s. run limit s [] front)) (then_read (plain_next limit state item) (λ s. run limit s waiting front))) items)
      (is_slot (here state) item) (λ e. then_append (slot_next state waiting item) [] ih) (λ e. then_append (plain_next limit state item) waiting ih)

pub run_append : (limit : ℕ) (state : State) (waiting : List Bytes) (front items : Lexemes)
    → run limit state waiting (front ++ items) ≡ go_on limit (run limit state waiting front) items
run_append limit state waiting [] items = refl
run_append limit state waiting ((Note, spelling) ∷ front) items = run_append limit state _ front items
run_append limit state waiting ((Word, w) ∷ front) items = item_append limit front items state waiting (Word, w) (λ s ws. run_append limit s ws front items)
run_append limit state waiting ((Mark, w) ∷ front) items = item_append limit front items state waiting (Mark, w) (λ s ws. run_append limit s ws front items)

-- words and marks with which what was read becomes a whole definition
pub record Completes (limit : ℕ) (state : State) (waiting : List Bytes) : Type 0 where
  pub rest : Lexemes
  pub tree : Interface
  pub bare : list_all is_bare rest ≡ true
  pub read : run limit state waiting rest ≡ whole tree

-- by one more item, and what it leads to
by_item : (limit : ℕ) (state next : State) (waiting left : List Bytes) (item : Lexeme) → is_bare item ≡ true
    → ((items : Lexemes) → run limit state waiting (item ∷ items) ≡ run limit next left items) → Completes limit next left → Completes limit state waiting
by_item limit state next waiting left item bare takes more = record {
  rest = item ∷ more.rest;
  tree = more.tree;
  bare = and_from (is_bare item) (list_all is_bare more.rest) bare more.bare;
  read = takes more.rest ∙ more.read;
}

module _ (limit : ℕ) (some : 0 < limit) where
  between : (head : Head) (waiting : List Bytes) → Completes limit (Between head) waiting
  between head waiting =
      let tree : Interface = record { notes = head.notes; name = head.name; members = head.members; tail = waiting } in
      record { rest = []; tree = tree; bare = refl; read = refl }

  opens : (head : Head) (member : Begun) (waiting : List Bytes) (items : Lexemes)
      → run limit (Ready head member) waiting (left_bracket ∷ items) ≡ run limit (Inside head member [] spot.First) waiting items
  opens head member waiting items =
      ap (λ (b : Bool). then_read (cond b (Going (Inside head member [] spot.First)) Beyond) (λ next. run limit next waiting items)) (lt-ltb 0 limit some)

  module _ (head : Head) where
    reply : (notes : List Bytes) (name : Bytes) (input : Body) (waiting : List Bytes)
        → Completes limit (Ready head (record { notes = notes; name = name; kind = Output input })) waiting
    reply notes name input waiting =
        by_item limit _ _ waiting waiting left_bracket refl (opens head (record { notes = notes; name = name; kind = Output input }) waiting)
        (by_item limit _ _ waiting [] right_bracket refl (λ items. refl) (between _ []))

    middle : (notes : List Bytes) (name : Bytes) (input : Body) (waiting : List Bytes) → Completes limit (Middle head notes name input) waiting
    middle notes name input waiting =
        by_item limit _ _ waiting waiting arrow refl (λ items. refl) (reply notes name input waiting)

    whole_member : (notes : List Bytes) (name : Bytes) (kind : Kind) (body : Body) → Completes limit (finished head notes name kind body) []
    whole_member notes name Shape body = between _ []
    whole_member notes name Input body = middle notes name body []
    whole_member notes name (Output input) body = between _ []
    whole_member notes name Fault body = between _ []

    closes : (member : Begun) (levels : List Level) (body : Body) → Completes limit (closed head member levels body) []
    closes member [] body = whole_member member.notes member.name member.kind body
    closes member (level ∷ levels) body =
        by_item limit _ _ [] [] right_bracket refl (λ items. refl) (closes member levels (Struct (with_core level _) []))

    ready : (member : Begun) (waiting : List Bytes) → Completes limit (Ready head member) waiting
    ready member waiting =
        by_item limit _ _ waiting waiting left_bracket refl (opens head member waiting)
        (by_item limit _ _ waiting [] right_bracket refl (λ items. refl) (closes member [] (Struct [] waiting)))

    module _ (member : Begun) (levels : List Level) (waiting : List Bytes) where
      of_fields : (fields : List Field) → Completes limit (Inside head member levels (spot.Fields fields)) waiting
      of_fields fields = by_item limit _ _ waiting [] right_bracket refl (λ items. refl) (closes member levels (Struct fields waiting))

      of_prefixes : (level : Level) → Completes limit (Inside head member levels (spot.Prefixes level)) waiting
      of_prefixes level = by_item limit _ _ waiting waiting (word (codes "int")) refl (λ items. refl) (of_fields (with_core level Int))

      of_field : (level : Level) → Completes limit (Inside head member levels (spot.Field level)) waiting
      of_field level = by_item limit _ _ waiting waiting colon refl (λ items. refl) (of_prefixes level)

      of_names : (names : List Named) → Completes limit (Inside head member levels (spot.Names names)) waiting
      of_names names = by_item limit _ _ waiting [] right_bracket refl (λ items. refl) (closes member levels (Enum names waiting))

    inside : (member : Begun) (levels : List Level) (at : Spot) (waiting : List Bytes) → Completes limit (Inside head member levels at) waiting
    inside member levels spot.First waiting = by_item limit _ _ waiting [] right_bracket refl (λ items. refl) (closes member levels (Struct [] waiting))
    inside member levels (spot.Only named) waiting =
        by_item limit _ _ waiting waiting colon refl (λ items. refl)
        (of_prefixes member levels waiting (record { fields = []; notes = named.notes; name = named.name; prefixes = [] }))
    inside member levels (spot.Names names) waiting = of_names member levels waiting names
    inside member levels (spot.MoreNames names) waiting =
        by_item limit _ _ waiting [] (word (codes "a")) refl (λ items. refl) (of_names member levels [] (names ++ record { notes = waiting; name = codes "a" } ∷ []))
    inside member levels (spot.Fields fields) waiting = of_fields member levels waiting fields
    inside member levels (spot.MoreFields fields) waiting =
        by_item limit _ _ waiting [] (word (codes "a")) refl (λ items. refl)
        (of_field member levels [] (record { fields = fields; notes = waiting; name = codes "a"; prefixes = [] }))
    inside member levels (spot.Field level) waiting = of_field member levels waiting level
    inside member levels (spot.Prefixes level) waiting = of_prefixes member levels waiting level
    inside member levels (spot.Square level) waiting =
        by_item limit _ _ waiting waiting right_square refl (λ items. refl) (of_prefixes member levels waiting (with_prefix level Array))
    inside member levels (spot.Map level) waiting =
        by_item limit _ _ waiting waiting right_square refl (λ items. refl) (of_prefixes member levels waiting (with_prefix level Map))

  headed : (notes waiting : List Bytes) → Completes limit (Headed notes) waiting
  headed notes waiting = by_item limit _ _ waiting waiting (word (codes "a.b")) refl (λ items. refl) (between (record { notes = notes; name = codes "a.b"; members = [] }) waiting)

  pub completes : (state : State) (waiting : List Bytes) → Completes limit state waiting
  completes Start waiting = by_item limit _ _ waiting [] (word (codes "interface")) refl (λ items. refl) (headed waiting [])
  completes (Headed notes) waiting = headed notes waiting
  completes (Between head) waiting = between head waiting
  completes (Keyed head notes Types) waiting = by_item limit _ _ waiting waiting (word (codes "A")) refl (λ items. refl) (ready head (record { notes = notes; name = codes "A"; kind = Shape }) waiting)
  completes (Keyed head notes Methods) waiting = by_item limit _ _ waiting waiting (word (codes "A")) refl (λ items. refl) (ready head (record { notes = notes; name = codes "A"; kind = Input }) waiting)
  completes (Keyed head notes Errors) waiting = by_item limit _ _ waiting waiting (word (codes "A")) refl (λ items. refl) (ready head (record { notes = notes; name = codes "A"; kind = Fault }) waiting)
  completes (Ready head member) waiting = ready head member waiting
  completes (Middle head notes name input) waiting = middle head notes name input waiting
  completes (Inside head member levels at) waiting = inside head member levels at waiting
