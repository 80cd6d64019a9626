-- each item adds itself to what was read, with the notes before it where it is a slot
use Rattle.std.proofs.Common.{◌≡◌, ℕ, suc, ◌+◌, ◌≤◌, Bool, true, false, ◌&&◌, not, eqb, ltb, List, [], ◌∷◌, ◌++◌, Option, Some, None, map, length, codes, refl, sym, ap, subst, ◌∙◌, append_assoc, arith, inl, inr, ◌⊎◌}
use Rattle.std.specs.List.{list_all}
use Rattle.std.specs.Str.{bytes_eq}
use Rattle.std.proofs.lemmas.List.{append-nil, map-append}
use Rattle.std.proofs.lemmas.List.Concat.{flat_map-append}
use Rattle.std.proofs.lemmas.List.Folds.{list_all-append}
use Rattle.std.proofs.lemmas.Bool.{and_parts, and_from, ltb-true, ne_eqb, true≢false, not-true}
use Rattle.idl_token.specs.Lex.{Bytes, Lexeme, Lexemes}
use Rattle.idl_token.specs.declared.tokens.ItemKind.TheVariants.{Word, Mark, Note}
use Rattle.idl_tree.specs.declared.trees.Member.{Member}
use Rattle.idl_tree.specs.declared.trees.Named.{Named}
use Rattle.idl_tree.specs.declared.trees.Field.{Field}
use Rattle.idl_tree.specs.declared.trees.TypeRef.{TypeRef}
use Rattle.idl_tree.specs.declared.trees.Core.{Core}
use Rattle.idl_tree.specs.declared.trees.Prefix.{Prefix}
use Rattle.idl_tree.specs.declared.trees.Prefix.TheVariants.{Array, Map, Maybe}
use Rattle.idl_tree.specs.declared.trees.Body.{Body}
use Rattle.idl_tree.specs.declared.trees.Body.TheVariants.{Struct, Enum, Inline, outs-Struct}
use Rattle.idl_tree.specs.declared.trees.Part.{Part}
use Rattle.idl_tree.specs.declared.trees.Part.TheVariants as part
use Rattle.idl_tree.specs.Names.{is_interface_name, is_member_name, is_field_name}
use Rattle.idl_tree.specs.Form.{body_form, type_form, core_form, are_notes, named_form, has_single_maybes, begins_with_maybe, body_depth, greatest, is_struct, member_form, part_form, part_depth}
use Rattle.idl_rules.specs.Items.{word, left_bracket, right_bracket, comma, colon, left_square, right_square, question, arrow, joined, prefix_items, notes_items, named_items, body_items}
use Rattle.idl_rules.specs.Settle.{is_slot, after}
use Rattle.idl_rules.specs.Reading.{Going, Beyond, finished, closed, opened, with_member, with_prefix, with_core, takes_enum, ends_with_maybe, here, keyed, keyword_of, cored, core_of, mark_of, slot_next, slot_word, slot_close, entry_spot, body_of, close_next, inside_next, some_if, word_next, mark_next, mark_spot, open_inner, plain_next}
use Rattle.idl_rules.specs.declared.states.State.{State}
use Rattle.idl_rules.specs.declared.states.State.TheVariants.{Start, Headed, Between, Keyed, Ready, Middle, Inside}
use Rattle.idl_rules.specs.declared.states.Head.{Head}
use Rattle.idl_rules.specs.declared.states.Begun.{Begun}
use Rattle.idl_rules.specs.declared.states.Level.{Level}
use Rattle.idl_rules.specs.declared.states.Kind.{Kind}
use Rattle.idl_rules.specs.declared.states.Kind.TheVariants.{Shape, Input, Output, Fault}
use Rattle.idl_rules.specs.declared.states.Keyword.{Keyword}
use Rattle.idl_rules.specs.declared.states.Keyword.TheVariants.{Types, Methods, Errors}
use Rattle.idl_rules.specs.declared.states.Spot.{Spot}
use Rattle.idl_rules.specs.declared.states.Spot.TheVariants as spot
use Rattle.idl_rules.specs.declared.states.Mark.{Mark as Sign}
use Rattle.idl_rules.specs.declared.states.Mark.TheVariants.{Open, Close, Comma, Colon, Question, LeftSquare, RightSquare, Arrow}
use Rattle.idl_rules.proofs.Folds.{prefixes_items, field_items, field_form, field_depth, core_depth, struct_items, enum_items, struct_form, enum_form, inline_form, type_form_is, type_depth_is, inline_depth, struct_depth, enum_depth}
use Rattle.idl_rules.proofs.Words.{same_bytes, sign_text, sign_spelt, keyword_text, keyword_spelt, core_spelt, by_test}
use Rattle.idl_rules.proofs.Spelled.{lead, joined_push, head_items, keyword_item, begun_items, entry_items, level_items, levels_items, spot_items, outer_items, spelled, on_some_if, IsSome, some_push, HeadSound, KindSound, BegunSound, FieldsSound, LevelSound, LevelsSound, InsideSound, Sound, OnNext, on_if, inside_more, core_more, closed_items}

pub greatest_push : (xs : List ℕ) (y n limit : ℕ) → greatest xs + n ≤ limit → y + n ≤ limit → greatest (xs ++ y ∷ []) + n ≤ limit
greatest_push [] y n limit h k = omega arith
greatest_push (x ∷ xs) y n limit h k =
    let below : greatest xs + n ≤ limit = omega arith in
    let rest = greatest_push xs y n limit below k in
    omega arith

all_push : {A : Type 0} (p : A → Bool) (xs : List A) (x : A) → list_all p xs ≡ true → p x ≡ true → list_all p (xs ++ x ∷ []) ≡ true
all_push p xs x h k = list_all-append p xs (x ∷ []) ∙ and_from (list_all p xs) (p x && true) h (and_from (p x) true k refl)

fields_push : (limit depth : ℕ) (fields : List Field) (field : Field) → FieldsSound limit depth fields → field_form field ≡ true
    → field_depth field + depth ≤ limit → FieldsSound limit depth (fields ++ field ∷ [])
fields_push limit depth fields field sound form within = record {
  form = all_push field_form fields field sound.form form;
  within = subst (λ (depths : List ℕ). greatest depths + depth ≤ limit) (sym (map-append field_depth fields (field ∷ [])))
      (greatest_push (map field_depth fields) (field_depth field) depth limit sound.within within);
}

-- a field of a sound core
core_sound : (limit depth : ℕ) (level : Level) (core : Core) → LevelSound limit depth level → core_form core ≡ true
    → core_depth core + depth ≤ limit → FieldsSound limit depth (with_core level core)
core_sound limit depth level core sound form within =
    let of : TypeRef = record { prefixes = level.prefixes; core = core } in
    let field : Field = record { notes = level.notes; name = level.name; of = of } in
    let typed : type_form of ≡ true = type_form_is of ∙ and_from (has_single_maybes level.prefixes) (core_form core) sound.prefixes form in
    let formed : field_form field ≡ true = and_from (are_notes level.notes && is_field_name level.name) (type_form of)
    (and_from (are_notes level.notes) (is_field_name level.name) sound.notes sound.name) typed in
    let deep : field_depth field + depth ≤ limit = subst (λ (n : ℕ). n + depth ≤ limit) (sym (type_depth_is of)) within in
    fields_push limit depth level.fields field sound.fields formed deep

head_push : (limit : ℕ) (head : Head) (notes : List Bytes) (name : Bytes) (of : Part) → HeadSound limit head → are_notes notes ≡ true → is_member_name name ≡ true
    → part_form of ≡ true → part_depth of ≤ limit → Sound limit (with_member head notes name of)
head_push limit head notes name of sound noted named form within =
    let member : Member = record { notes = notes; name = name; part = of } in
    let deep = greatest_push (map (λ (m : Member). part_depth m.part) head.members) (part_depth of) 0 limit (omega (arith, sound.within)) (omega arith) in
    record {
      notes = sound.notes;
      name = sound.name;
      members = all_push member_form head.members member sound.members
          (and_from (are_notes notes && is_member_name name) (part_form of) (and_from (are_notes notes) (is_member_name name) noted named) form);
      within = subst (λ (depths : List ℕ). greatest depths ≤ limit) (sym (map-append (λ (m : Member). part_depth m.part) head.members (member ∷ []))) (omega arith);
    }

-- whether a body may stand in the innermost bracket
abbrev pub Fits : Kind → List Level → Body → Type 0
Fits kind levels body = (takes_enum kind levels ≡ true) ⊎ (is_struct body ≡ true)

must_be_struct : (kind : Kind) (body : Body) → takes_enum kind [] ≡ false → Fits kind [] body → is_struct body ≡ true
must_be_struct kind body refused (inl taken) = let no : ◌≡◌ {A = Bool} true false = sym taken ∙ refused in absurd (cc)
must_be_struct kind body refused (inr struct) = struct

finished_sound : (limit : ℕ) (head : Head) (notes : List Bytes) (name : Bytes) (kind : Kind) (body : Body) → HeadSound limit head → are_notes notes ≡ true
    → is_member_name name ≡ true → KindSound limit kind → Fits kind [] body → body_form body ≡ true → body_depth body ≤ limit
    → Sound limit (finished head notes name kind body)
finished_sound limit head notes name Shape body sound noted named k fits form within =
    head_push limit head notes name (part.Shape body) sound noted named form within
finished_sound limit head notes name Input body sound noted named k fits form within =
    (sound, noted, named, record { struct = must_be_struct Input body refl fits; form = form; within = within })
finished_sound limit head notes name (Output input) body sound noted named k fits form within =
    head_push limit head notes name (part.Method input body) sound noted named
    (and_from _ _ (and_from _ _ (and_from _ _ k.struct k.form) (must_be_struct (Output input) body refl fits)) form)
    (let first = k.within in omega arith)
finished_sound limit head notes name Fault body sound noted named k fits form within =
    head_push limit head notes name (part.Fault body) sound noted named (and_from _ _ (must_be_struct Fault body refl fits) form) within

closed_sound : (limit : ℕ) (head : Head) (member : Begun) (levels : List Level) (body : Body) → HeadSound limit head → BegunSound limit member → LevelsSound limit levels
    → Fits member.kind levels body → body_form body ≡ true → body_depth body + length levels ≤ limit → Sound limit (closed head member levels body)
closed_sound limit head member [] body h m l fits form within =
    finished_sound limit head member.notes member.name member.kind body h m.notes m.name m.kind fits form (omega arith)
closed_sound limit head member (level ∷ levels) body h m l fits form within = record {
  head = h;
  member = m;
  levels = l.1;
  within = omega arith;
  spot = (
    core_sound limit (suc (length levels)) level (Inline body) l.0 (inline_form body ∙ form)
        (subst (λ (n : ℕ). n + suc (length levels) ≤ limit) (sym (inline_depth body)) (omega arith)),
    some_push level.fields _,
  );
}

finished_here : (head : Head) (notes : List Bytes) (name : Bytes) (kind : Kind) (body : Body)
    → here (finished head notes name kind body) ≡ record { depth = 0; begins = false }
finished_here head notes name Shape body = refl
finished_here head notes name Input body = refl
finished_here head notes name (Output input) body = refl
finished_here head notes name Fault body = refl

closed_here : (head : Head) (member : Begun) (levels : List Level) (body : Body)
    → here (closed head member levels body) ≡ record { depth = length levels; begins = false }
closed_here head member [] body = finished_here head member.notes member.name member.kind body
closed_here head member (level ∷ levels) body = refl

-- what an item does
abbrev pub Kept : ℕ → State → Lexeme → Lexemes → State → Type 0
Kept limit state item more next = (spelled next ≡ spelled state ++ more) × Sound limit next × (here next ≡ after (here state) item)

-- a word that begins an entry
named_sound : (notes : List Bytes) (w : Bytes) → are_notes notes ≡ true → is_field_name w ≡ true → (are_notes notes && is_field_name w) ≡ true
named_sound notes w noted named = and_from (are_notes notes) (is_field_name w) noted named

lead_some : (entries : List Lexemes) → IsSome entries → lead entries ≡ joined entries ++ comma ∷ []
lead_some [] some = absurd some
lead_some (entry ∷ entries) some = refl

map_some : {A B : Type 0} (f : A → B) (xs : List A) → IsSome xs → IsSome (map f xs)
map_some f [] some = absurd some
map_some f (x ∷ xs) some = tt

names_more : (names : List Named) (notes : List Bytes) (w : Bytes) → IsSome names
    → joined (map named_items (names ++ record { notes = notes; name = w } ∷ [])) ≡ (joined (map named_items names) ++ comma ∷ []) ++ (notes_items notes ++ word w ∷ [])
names_more names notes w some =
    let named : Named = record { notes = notes; name = w } in
    ap joined (map-append named_items names (named ∷ []))
    ∙ joined_push (map named_items names) (named_items named)
    ∙ ap (λ (front : Lexemes). front ++ named_items named) (lead_some (map named_items names) (map_some named_items names some))

field_more : (fields : List Field) (notes : List Bytes) (w : Bytes) → IsSome fields
    → entry_items (record { fields = fields; notes = notes; name = w; prefixes = [] }) ≡ (joined (map field_items fields) ++ comma ∷ []) ++ (notes_items notes ++ word w ∷ [])
field_more fields notes w some =
    append_assoc (lead (map field_items fields)) (notes_items notes) (word w ∷ [])
    ∙ ap (λ (front : Lexemes). front ++ (notes_items notes ++ word w ∷ [])) (lead_some (map field_items fields) (map_some field_items fields some))

entry_kept : (limit : ℕ) (head : Head) (member : Begun) (levels : List Level) (at : Spot) (notes : List Bytes) (w : Bytes)
    → InsideSound limit head member levels at → are_notes notes ≡ true
    → OnNext (λ next. (spelled next ≡ spelled (Inside head member levels at) ++ (notes_items notes ++ word w ∷ [])) × Sound limit next
    × (here next ≡ record { depth = suc (length levels); begins = false }))
    (inside_next head member levels (entry_spot at notes w))
entry_kept limit head member levels spot.First notes w s noted =
    on_some_if _ head member levels (is_field_name w) _ (λ named. (
      inside_more head member levels spot.First (spot.Only (record { notes = notes; name = w })) (notes_items notes ++ word w ∷ []) refl,
      record { head = s.head; member = s.member; levels = s.levels; within = s.within; spot = named_sound notes w noted named },
      refl,
    ))
entry_kept limit head member levels (spot.MoreNames names) notes w s noted =
    let entry : Named = record { notes = notes; name = w } in
    on_some_if _ head member levels (is_field_name w) _ (λ named. (
      inside_more head member levels (spot.MoreNames names) (spot.Names (names ++ entry ∷ [])) (notes_items notes ++ word w ∷ []) (names_more names notes w s.spot.some),
      record {
        head = s.head;
        member = s.member;
        levels = s.levels;
        within = s.within;
        spot = record { form = all_push named_form names entry s.spot.form (named_sound notes w noted named); some = some_push names entry; taken = s.spot.taken };
      },
      refl,
    ))
entry_kept limit head member levels (spot.MoreFields fields) notes w s noted =
    let level : Level = record { fields = fields; notes = notes; name = w; prefixes = [] } in
    on_some_if _ head member levels (is_field_name w) _ (λ named. (
      inside_more head member levels (spot.MoreFields fields) (spot.Field level) (notes_items notes ++ word w ∷ []) (field_more fields notes w s.spot.1),
      record {
        head = s.head;
        member = s.member;
        levels = s.levels;
        within = s.within;
        spot = (record { fields = s.spot.0; notes = noted; name = named; prefixes = refl }, refl);
      },
      refl,
    ))
entry_kept limit head member levels at notes w s noted = tt

-- a closing bracket
close_more : (before inside : Lexemes) (notes : Lexemes) (item first : Lexeme) (all : Lexemes) → all ≡ first ∷ inside ++ notes ++ item ∷ []
    → before ++ all ≡ (before ++ first ∷ inside) ++ (notes ++ item ∷ [])
close_more before inside notes item first all e = rw e (simp append_assoc)

abbrev ClosedWith : ℕ → Head → Begun → List Level → Spot → List Bytes → State → Type 0
ClosedWith limit head member levels at notes next =
    (spelled next ≡ spelled (Inside head member levels at) ++ (notes_items notes ++ right_bracket ∷ [])) × Sound limit next
    × (here next ≡ record { depth = length levels; begins = false })

closed_kept : (limit : ℕ) (head : Head) (member : Begun) (levels : List Level) (at : Spot) (notes : List Bytes) (body : Body)
    → InsideSound limit head member levels at → Fits member.kind levels body → body_form body ≡ true → body_depth body + length levels ≤ limit
    → body_items body ≡ left_bracket ∷ spot_items at ++ notes_items notes ++ right_bracket ∷ []
    → ClosedWith limit head member levels at notes (closed head member levels body)
closed_kept limit head member levels at notes body s fits form within items = (
  closed_items head member levels body
      ∙ close_more (outer_items head member levels) (spot_items at) (notes_items notes) right_bracket left_bracket (body_items body) items,
  closed_sound limit head member levels body s.head s.member s.levels fits form within,
  closed_here head member levels body,
)

some_names : (names : List Named) → IsSome names → not (eqb (length names) 0) ≡ true
some_names [] some = absurd some
some_names (name ∷ names) some =
    let not_zero : suc (length names) ≡ 0 → ⊥ = λ (e : suc (length names) ≡ 0). omega arith in
    ap not (ne_eqb (suc (length names)) 0 not_zero)

struct_is : (fields : List Field) (ending : List Bytes) → is_struct (Struct fields ending) ≡ true
struct_is fields ending = rw outs-Struct refl

close_if : (P : State → Type 0) (head : Head) (member : Begun) (levels : List Level) (test : Bool) (body : Body) → (test ≡ true → P (closed head member levels body))
    → OnNext P (close_next head member levels (some_if test body))
close_if P head member levels true body then = then refl
close_if P head member levels false body then = tt

close_kept : (limit : ℕ) (head : Head) (member : Begun) (levels : List Level) (at : Spot) (notes : List Bytes)
    → InsideSound limit head member levels at → are_notes notes ≡ true
    → OnNext (ClosedWith limit head member levels at notes) (close_next head member levels (body_of (takes_enum member.kind levels) at notes))
close_kept limit head member levels spot.First notes s noted =
    closed_kept limit head member levels spot.First notes (Struct [] notes) s (inr (struct_is [] notes)) (struct_form [] notes ∙ noted)
    (rw (struct_depth [] notes) (let w = s.within in omega arith)) (struct_items [] notes)
close_kept limit head member levels (spot.Only named) notes s noted =
    close_if (ClosedWith limit head member levels (spot.Only named) notes) head member levels (takes_enum member.kind levels) (Enum (named ∷ []) notes) (λ taken.
    closed_kept limit head member levels (spot.Only named) notes (Enum (named ∷ []) notes) s (inl taken)
    (enum_form (named ∷ []) notes ∙ and_from _ (are_notes notes) (and_from (named_form named) true s.spot refl) noted)
    (rw (enum_depth (named ∷ []) notes) (let w = s.within in omega arith))
    (enum_items (named ∷ []) notes ∙ ap (λ (x : Lexemes). left_bracket ∷ x ++ notes_items notes ++ right_bracket ∷ []) (append-nil (named_items named))))
close_kept limit head member levels (spot.Names names) notes s noted =
    closed_kept limit head member levels (spot.Names names) notes (Enum names notes) s (inl s.spot.taken)
    (enum_form names notes ∙ and_from _ (are_notes notes) (and_from _ (list_all named_form names) (some_names names s.spot.some) s.spot.form) noted)
    (rw (enum_depth names notes) (let w = s.within in omega arith)) (enum_items names notes)
close_kept limit head member levels (spot.Fields fields) notes s noted =
    closed_kept limit head member levels (spot.Fields fields) notes (Struct fields notes) s (inr (struct_is fields notes))
    (struct_form fields notes ∙ and_from (list_all field_form fields) (are_notes notes) s.spot.0.form noted)
    (rw (struct_depth fields notes) (let w = s.spot.0.within in omega arith)) (struct_items fields notes)
close_kept limit head member levels at notes s noted = tt

keyword_of_item : (w : Bytes) (keyword : Keyword) → w ≡ keyword_text keyword → keyword_item keyword ≡ word w
keyword_of_item w Types e = ap word (sym e)
keyword_of_item w Methods e = ap word (sym e)
keyword_of_item w Errors e = ap word (sym e)

keyed_kept : (limit : ℕ) (head : Head) (notes : List Bytes) (w : Bytes) (found : Option Keyword) → keyword_of w ≡ found
    → HeadSound limit head → are_notes notes ≡ true
    → OnNext (Kept limit (Between head) (Word, w) (notes_items notes ++ word w ∷ [])) (keyed head notes found)
keyed_kept limit head notes w None e s noted = tt
keyed_kept limit head notes w (Some keyword) e s noted = (
  ap (λ (item : Lexeme). head_items head ++ notes_items notes ++ item ∷ []) (keyword_of_item w keyword (keyword_spelt w keyword e))
      ∙ append_assoc (head_items head) (notes_items notes) (word w ∷ []),
  (s, noted),
  refl,
)

slot_word_kept : (limit : ℕ) (state : State) (notes : List Bytes) (w : Bytes) → Sound limit state → are_notes notes ≡ true
    → OnNext (Kept limit state (Word, w) (notes_items notes ++ word w ∷ [])) (slot_word state notes w)
slot_word_kept limit Start notes w s noted =
    on_if _ (bytes_eq w (codes "interface")) _ (λ e. (ap (λ (x : Bytes). notes_items notes ++ word x ∷ []) (sym (same_bytes w _ e)), noted, refl))
slot_word_kept limit (Between head) notes w s noted = keyed_kept limit head notes w (keyword_of w) refl s noted
slot_word_kept limit (Inside head member levels at) notes w s noted = entry_kept limit head member levels at notes w s noted
slot_word_kept limit state notes w s noted = tt

slot_close_kept : (limit : ℕ) (state : State) (notes : List Bytes) → Sound limit state → are_notes notes ≡ true
    → OnNext (Kept limit state right_bracket (notes_items notes ++ right_bracket ∷ [])) (slot_close state notes)
slot_close_kept limit (Inside head member levels at) notes s noted = close_kept limit head member levels at notes s noted
slot_close_kept limit state notes s noted = tt

pub slot_kept : (limit : ℕ) (state : State) (notes : List Bytes) (item : Lexeme) → Sound limit state → are_notes notes ≡ true → is_slot (here state) item ≡ true
    → OnNext (Kept limit state item (notes_items notes ++ item ∷ [])) (slot_next state notes item)
slot_kept limit state notes (Word, w) s noted slot = slot_word_kept limit state notes w s noted
slot_kept limit state notes (Mark, spelling) s noted slot =
    subst (λ (x : Bytes). OnNext (Kept limit state (Mark, x) (notes_items notes ++ (Mark, x) ∷ [])) (slot_close state notes))
    (sym (same_bytes spelling (codes ")") slot)) (slot_close_kept limit state notes s noted)
slot_kept limit state notes (Note, spelling) s noted slot = tt

-- a word that is no slot
cored_kept : (limit : ℕ) (head : Head) (member : Begun) (levels : List Level) (level : Level) (w : Bytes) (found : Option Core) → core_of w ≡ found
    → InsideSound limit head member levels (spot.Prefixes level)
    → OnNext (Kept limit (Inside head member levels (spot.Prefixes level)) (Word, w) (word w ∷ [])) (inside_next head member levels (cored level found))
cored_kept limit head member levels level w None e s = tt
cored_kept limit head member levels level w (Some core) e s =
    let is = core_spelt w core e in (
      inside_more head member levels (spot.Prefixes level) (spot.Fields (with_core level core)) (word w ∷ [])
          (core_more level core ∙ ap (λ (x : Lexemes). level_items level ++ x) is.items),
      record {
        head = s.head;
        member = s.member;
        levels = s.levels;
        within = s.within;
        spot = (core_sound limit (suc (length levels)) level core s.spot is.form (let d = is.depth in let w = s.within in omega arith), some_push level.fields _);
      },
      refl,
    )

keyed_more : (a b : Lexemes) (x y : Lexeme) → a ++ (b ++ x ∷ y ∷ []) ≡ (a ++ b ++ x ∷ []) ++ y ∷ []
keyed_more a b x y = simp append_assoc

word_kept : (limit : ℕ) (state : State) (w : Bytes) → Sound limit state
    → OnNext (Kept limit state (Word, w) (word w ∷ [])) (word_next state w)
word_kept limit (Headed notes) w s =
    on_if _ (is_interface_name w) _ (λ named. (
      sym (append_assoc (notes_items notes) (word (codes "interface") ∷ []) (word w ∷ [])),
      record { notes = s; name = named; members = refl; within = omega arith },
      refl,
    ))
word_kept limit (Keyed head notes Types) w s = on_if _ (is_member_name w) _ (λ named. (
  keyed_more (head_items head) (notes_items notes) (keyword_item Types) (word w),
  (s.0, record { notes = s.1; name = named; kind = tt }),
  refl,
))
word_kept limit (Keyed head notes Methods) w s = on_if _ (is_member_name w) _ (λ named. (
  keyed_more (head_items head) (notes_items notes) (keyword_item Methods) (word w),
  (s.0, record { notes = s.1; name = named; kind = tt }),
  refl,
))
word_kept limit (Keyed head notes Errors) w s = on_if _ (is_member_name w) _ (λ named. (
  keyed_more (head_items head) (notes_items notes) (keyword_item Errors) (word w),
  (s.0, record { notes = s.1; name = named; kind = tt }),
  refl,
))
word_kept limit (Inside head member levels (spot.Prefixes level)) w s = cored_kept limit head member levels level w (core_of w) refl s
word_kept limit (Inside head member levels (spot.Square level)) w s =
    on_some_if _ head member levels (bytes_eq w (codes "string")) _ (λ e. (
      inside_more head member levels (spot.Square level) (spot.Map level) (word w ∷ [])
          (ap (λ (x : Bytes). level_items level ++ left_square ∷ word x ∷ []) (sym (same_bytes w _ e)) ∙ sym (append_assoc (level_items level) (left_square ∷ []) (word w ∷ []))),
      record { head = s.head; member = s.member; levels = s.levels; within = s.within; spot = s.spot },
      refl,
    ))
word_kept limit state w s = tt

-- a prefix that may stand behind those before it
pub push_single : (prefixes : List Prefix) (prefix : Prefix) → has_single_maybes prefixes ≡ true
    → (ends_with_maybe prefixes ≡ false) ⊎ (begins_with_maybe (prefix ∷ []) ≡ false) → has_single_maybes (prefixes ++ prefix ∷ []) ≡ true
push_single [] Array h may = refl
push_single [] Map h may = refl
push_single [] Maybe h may = refl
push_single (Array ∷ prefixes) prefix h may = push_single prefixes prefix h may
push_single (Map ∷ prefixes) prefix h may = push_single prefixes prefix h may
push_single (Maybe ∷ []) Array h may = refl
push_single (Maybe ∷ []) Map h may = refl
push_single (Maybe ∷ []) Maybe h (inl e) = absurd (true≢false e)
push_single (Maybe ∷ []) Maybe h (inr e) = absurd (true≢false e)
push_single (Maybe ∷ Array ∷ prefixes) prefix h may = push_single (Array ∷ prefixes) prefix h may
push_single (Maybe ∷ Map ∷ prefixes) prefix h may = push_single (Map ∷ prefixes) prefix h may
push_single (Maybe ∷ Maybe ∷ prefixes) prefix h may = absurd (true≢false (sym h))

prefixed_sound : (limit depth : ℕ) (level : Level) (prefix : Prefix) → LevelSound limit depth level
    → (ends_with_maybe level.prefixes ≡ false) ⊎ (begins_with_maybe (prefix ∷ []) ≡ false) → LevelSound limit depth (with_prefix level prefix)
prefixed_sound limit depth level prefix s may =
    record { fields = s.fields; notes = s.notes; name = s.name; prefixes = push_single level.prefixes prefix s.prefixes may }

prefix_more : (level : Level) (prefix : Prefix) → level_items (with_prefix level prefix) ≡ level_items level ++ prefix_items prefix
prefix_more level prefix =
    ap (λ (x : Lexemes). lead (map field_items level.fields) ++ notes_items level.notes ++ word level.name ∷ colon ∷ x)
    (flat_map-append prefix_items level.prefixes (prefix ∷ []) ∙ ap (λ (x : Lexemes). prefixes_items level.prefixes ++ x) (append-nil (prefix_items prefix)))
    ∙ sym (append_assoc (lead (map field_items level.fields) ++ notes_items level.notes) (word level.name ∷ colon ∷ prefixes_items level.prefixes) (prefix_items prefix))

level_opens : (a b c d e : Lexemes) (item : Lexeme) → (a ++ b ++ (c ++ item ∷ d)) ++ e ≡ ((a ++ b ++ c) ++ item ∷ d) ++ e
level_opens a b c d e item = simp append_assoc

opened_kept : (limit : ℕ) (head : Head) (member : Begun) (levels : List Level) (before : Lexemes)
    → HeadSound limit head → BegunSound limit member → LevelsSound limit levels
    → spelled (Inside head member levels spot.First) ≡ before ++ left_bracket ∷ []
    → OnNext (λ next. (spelled next ≡ before ++ left_bracket ∷ []) × Sound limit next × (here next ≡ record { depth = suc (length levels); begins = true }))
    (opened limit head member levels)
opened_kept limit head member levels before h m l e =
    by_test (OnNext (λ next. (spelled next ≡ before ++ left_bracket ∷ []) × Sound limit next × (here next ≡ record { depth = suc (length levels); begins = true })))
    (ltb (length levels) limit) (Going (Inside head member levels spot.First)) Beyond
    (λ below. (e, record { head = h; member = m; levels = l; within = ltb-true (length levels) limit below; spot = tt }, refl)) (λ below. tt)

inner_kept : (limit : ℕ) (head : Head) (member : Begun) (levels : List Level) (at : Spot) (sign : Sign) → InsideSound limit head member levels at
    → OnNext (Kept limit (Inside head member levels at) (Mark, sign_text sign) ((Mark, sign_text sign) ∷ [])) (inside_next head member levels (mark_spot (takes_enum member.kind levels) at sign))
inner_kept limit head member levels (spot.Only named) Colon s = (
  inside_more head member levels (spot.Only named) (spot.Prefixes (record { fields = []; notes = named.notes; name = named.name; prefixes = [] })) (colon ∷ [])
      (sym (append_assoc (notes_items named.notes) (word named.name ∷ []) (colon ∷ []))),
  record {
    head = s.head;
    member = s.member;
    levels = s.levels;
    within = s.within;
    spot = (let p = and_parts (are_notes named.notes) (is_field_name named.name) s.spot in
        record { fields = record { form = refl; within = (let w = s.within in omega arith) }; notes = p.0; name = p.1; prefixes = refl });
  },
  refl,
)
inner_kept limit head member levels (spot.Only named) Comma s =
    on_some_if _ head member levels (takes_enum member.kind levels) _ (λ taken. (
      inside_more head member levels (spot.Only named) (spot.MoreNames (named ∷ [])) (comma ∷ [])
          (ap (λ (x : Lexemes). x ++ comma ∷ []) (append-nil (named_items named))),
      record { head = s.head; member = s.member; levels = s.levels; within = s.within; spot = record { form = and_from (named_form named) true s.spot refl; some = tt; taken = taken } },
      refl,
    ))
inner_kept limit head member levels (spot.Names names) Comma s = (
  inside_more head member levels (spot.Names names) (spot.MoreNames names) (comma ∷ []) refl,
  record { head = s.head; member = s.member; levels = s.levels; within = s.within; spot = s.spot },
  refl,
)
inner_kept limit head member levels (spot.Fields fields) Comma s = (
  inside_more head member levels (spot.Fields fields) (spot.MoreFields fields) (comma ∷ []) refl,
  record { head = s.head; member = s.member; levels = s.levels; within = s.within; spot = s.spot },
  refl,
)
inner_kept limit head member levels (spot.Field level) Colon s = (
  inside_more head member levels (spot.Field level) (spot.Prefixes level) (colon ∷ [])
      (ap (λ (x : List Prefix). lead (map field_items level.fields) ++ notes_items level.notes ++ word level.name ∷ colon ∷ prefixes_items x) s.spot.1
      ∙ sym (append_assoc (lead (map field_items level.fields) ++ notes_items level.notes) (word level.name ∷ []) (colon ∷ []))),
  record { head = s.head; member = s.member; levels = s.levels; within = s.within; spot = s.spot.0 },
  refl,
)
inner_kept limit head member levels (spot.Prefixes level) Question s =
    on_some_if _ head member levels (not (ends_with_maybe level.prefixes)) _ (λ ends. (
      inside_more head member levels (spot.Prefixes level) (spot.Prefixes (with_prefix level Maybe)) (question ∷ []) (prefix_more level Maybe),
      record { head = s.head; member = s.member; levels = s.levels; within = s.within; spot = prefixed_sound limit (suc (length levels)) level Maybe s.spot (inl (not-true _ ends)) },
      refl,
    ))
inner_kept limit head member levels (spot.Prefixes level) LeftSquare s = (
  inside_more head member levels (spot.Prefixes level) (spot.Square level) (left_square ∷ []) refl,
  record { head = s.head; member = s.member; levels = s.levels; within = s.within; spot = s.spot },
  refl,
)
inner_kept limit head member levels (spot.Square level) RightSquare s = (
  inside_more head member levels (spot.Square level) (spot.Prefixes (with_prefix level Array)) (right_square ∷ [])
      (prefix_more level Array ∙ sym (append_assoc (level_items level) (left_square ∷ []) (right_square ∷ []))),
  record { head = s.head; member = s.member; levels = s.levels; within = s.within; spot = prefixed_sound limit (suc (length levels)) level Array s.spot (inr refl) },
  refl,
)
inner_kept limit head member levels (spot.Map level) RightSquare s = (
  inside_more head member levels (spot.Map level) (spot.Prefixes (with_prefix level Map)) (right_square ∷ [])
      (prefix_more level Map ∙ sym (append_assoc (level_items level) (left_square ∷ word (codes "string") ∷ []) (right_square ∷ []))),
  record { head = s.head; member = s.member; levels = s.levels; within = s.within; spot = prefixed_sound limit (suc (length levels)) level Map s.spot (inr refl) },
  refl,
)
inner_kept limit head member levels at sign s = tt

open_kept : (limit : ℕ) (head : Head) (member : Begun) (levels : List Level) (at : Spot) → InsideSound limit head member levels at
    → OnNext (Kept limit (Inside head member levels at) left_bracket (left_bracket ∷ [])) (open_inner limit head member levels at)
open_kept limit head member levels (spot.Prefixes level) s =
    opened_kept limit head member (level ∷ levels) (spelled (Inside head member levels (spot.Prefixes level))) s.head s.member (s.spot, s.levels)
    (level_opens (head_items head) (begun_items member) (levels_items levels) (level_items level) (left_bracket ∷ []) left_bracket)
open_kept limit head member levels at s = tt

none_open : (a b c : Lexemes) → (a ++ b ++ []) ++ c ≡ (a ++ b) ++ c
none_open a b c = simp (append_assoc, append-nil)

middle_more : (a b c : Lexemes) (x y item : Lexeme) → a ++ (b ++ (x ∷ y ∷ c ++ item ∷ [])) ≡ (a ++ b ++ x ∷ y ∷ c) ++ item ∷ []
middle_more a b c x y item = simp append_assoc

mark_kept : (limit : ℕ) (state : State) (sign : Sign) → Sound limit state
    → OnNext (Kept limit state (Mark, sign_text sign) ((Mark, sign_text sign) ∷ [])) (mark_next limit state (Some sign))
mark_kept limit (Ready head member) Open s =
    opened_kept limit head member [] (head_items head ++ begun_items member) s.0 s.1 tt (none_open (head_items head) (begun_items member) (left_bracket ∷ []))
mark_kept limit (Middle head notes name input) Arrow s = (
  middle_more (head_items head) (notes_items notes) (body_items input) (word (codes "method")) (word name) arrow,
  (s.0, record { notes = s.1; name = s.2; kind = s.3 }),
  refl,
)
mark_kept limit (Inside head member levels at) Open s = open_kept limit head member levels at s
mark_kept limit (Inside head member levels at) Close s = inner_kept limit head member levels at Close s
mark_kept limit (Inside head member levels at) Comma s = inner_kept limit head member levels at Comma s
mark_kept limit (Inside head member levels at) Colon s = inner_kept limit head member levels at Colon s
mark_kept limit (Inside head member levels at) Question s = inner_kept limit head member levels at Question s
mark_kept limit (Inside head member levels at) LeftSquare s = inner_kept limit head member levels at LeftSquare s
mark_kept limit (Inside head member levels at) RightSquare s = inner_kept limit head member levels at RightSquare s
mark_kept limit (Inside head member levels at) Arrow s = inner_kept limit head member levels at Arrow s
mark_kept limit state sign s = tt

sign_kept : (limit : ℕ) (state : State) (spelling : Bytes) (found : Option Sign) → mark_of spelling ≡ found → Sound limit state
    → OnNext (Kept limit state (Mark, spelling) ((Mark, spelling) ∷ [])) (mark_next limit state found)
sign_kept limit state spelling (Some sign) e s =
    subst (λ (x : Bytes). OnNext (Kept limit state (Mark, x) ((Mark, x) ∷ [])) (mark_next limit state (Some sign))) (sym (sign_spelt spelling sign e))
    (mark_kept limit state sign s)
sign_kept limit state spelling None e s = tt

pub plain_kept : (limit : ℕ) (state : State) (item : Lexeme) → Sound limit state → OnNext (Kept limit state item (item ∷ [])) (plain_next limit state item)
plain_kept limit state (Word, w) s = word_kept limit state w s
plain_kept limit state (Mark, spelling) s = sign_kept limit state spelling (mark_of spelling) refl s
plain_kept limit state (Note, spelling) s = tt
