-- the items of what was read, and what holds of it
use Rattle.std.proofs.Common.{◌≡◌, ℕ, suc, ◌+◌, ◌≤◌, Bool, true, false, List, [], ◌∷◌, ◌++◌, map, length, codes, refl, sym, ap, ◌∙◌, append_assoc}
use Rattle.std.specs.List.{flat_map, list_all}
use Rattle.std.proofs.lemmas.List.{append-nil, map-append}
use Rattle.std.proofs.lemmas.List.Concat.{flat_map-append}
use Rattle.idl_token.specs.Lex.{Bytes, Lexeme, Lexemes}
use Rattle.idl_tree.specs.declared.trees.Member.{Member}
use Rattle.idl_tree.specs.declared.trees.Named.{Named}
use Rattle.idl_tree.specs.declared.trees.Field.{Field}
use Rattle.idl_tree.specs.declared.trees.Core.{Core}
use Rattle.idl_tree.specs.declared.trees.TypeRef.{TypeRef}
use Rattle.idl_tree.specs.declared.trees.Body.{Body}
use Rattle.idl_tree.specs.Names.{is_interface_name, is_member_name, is_field_name}
use Rattle.idl_tree.specs.Form.{body_form, are_notes, named_form, has_single_maybes, body_depth, greatest, is_struct, member_form, part_depth}
use Rattle.idl_rules.specs.Items.{word, left_bracket, comma, colon, left_square, arrow, joined, notes_items, named_items, body_items, core_items, member_items}
use Rattle.idl_rules.specs.Reading.{finished, closed, with_core, takes_enum, Next, Going, Stray, Beyond, going_if, inside_next, some_if}
use Rattle.idl_rules.specs.declared.states.State.{State}
use Rattle.idl_rules.specs.declared.states.State.TheVariants.{Start, Headed, Between, Keyed, Ready, Middle, Inside}
use Rattle.idl_rules.specs.declared.states.Head.{Head}
use Rattle.idl_rules.specs.declared.states.Begun.{Begun}
use Rattle.idl_rules.specs.declared.states.Level.{Level}
use Rattle.idl_rules.specs.declared.states.Kind.{Kind}
use Rattle.idl_rules.specs.declared.states.Kind.TheVariants.{Shape, Input, Output, Fault}
use Rattle.idl_rules.specs.declared.states.Keyword.{Keyword}
use Rattle.idl_rules.specs.declared.states.Keyword.TheVariants.{Types, Methods, Errors}
use Rattle.idl_rules.specs.declared.states.Spot.{Spot}
use Rattle.idl_rules.specs.declared.states.Spot.TheVariants as spot
use Rattle.idl_rules.proofs.Folds.{prefixes_items, field_items, field_form, field_depth, inline_items, type_is}

-- entries that another one follows
abbrev pub lead : List Lexemes → Lexemes
lead [] = []
lead (entry ∷ entries) = joined (entry ∷ entries) ++ comma ∷ []

pub joined_push : (entries : List Lexemes) (entry : Lexemes) → joined (entries ++ entry ∷ []) ≡ lead entries ++ entry
joined_push [] entry = append-nil entry
joined_push (x ∷ entries) entry =
    let f = λ (next : Lexemes). comma ∷ next in
    ap (λ (t : Lexemes). x ++ t) (flat_map-append f entries (entry ∷ []) ∙ ap (λ (t : Lexemes). flat_map f entries ++ comma ∷ t) (append-nil entry))
    ∙ sym (append_assoc (x ++ flat_map f entries) (comma ∷ []) entry ∙ append_assoc x (flat_map f entries) (comma ∷ entry))

abbrev pub head_items : Head → Lexemes
head_items head = notes_items head.notes ++ word (codes "interface") ∷ word head.name ∷ flat_map member_items head.members

abbrev pub keyword_item : Keyword → Lexeme
keyword_item Types = word (codes "type")
keyword_item Methods = word (codes "method")
keyword_item Errors = word (codes "error")

abbrev pub kind_items : Kind → Bytes → Lexemes
kind_items Shape name = word (codes "type") ∷ word name ∷ []
kind_items Input name = word (codes "method") ∷ word name ∷ []
kind_items (Output input) name = word (codes "method") ∷ word name ∷ body_items input ++ arrow ∷ []
kind_items Fault name = word (codes "error") ∷ word name ∷ []

abbrev pub begun_items : Begun → Lexemes
begun_items member = notes_items member.notes ++ kind_items member.kind member.name

abbrev pub entry_items : Level → Lexemes
entry_items level = lead (map field_items level.fields) ++ notes_items level.notes ++ word level.name ∷ []

abbrev pub level_items : Level → Lexemes
level_items level = lead (map field_items level.fields) ++ notes_items level.notes ++ word level.name ∷ colon ∷ prefixes_items level.prefixes

abbrev pub levels_items : List Level → Lexemes
levels_items [] = []
levels_items (level ∷ levels) = levels_items levels ++ left_bracket ∷ level_items level

abbrev pub spot_items : Spot → Lexemes
spot_items spot.First = []
spot_items (spot.Only named) = named_items named
spot_items (spot.Names names) = joined (map named_items names)
spot_items (spot.MoreNames names) = joined (map named_items names) ++ comma ∷ []
spot_items (spot.Fields fields) = joined (map field_items fields)
spot_items (spot.MoreFields fields) = joined (map field_items fields) ++ comma ∷ []
spot_items (spot.Field level) = entry_items level
spot_items (spot.Prefixes level) = level_items level
spot_items (spot.Square level) = level_items level ++ left_square ∷ []
spot_items (spot.Map level) = level_items level ++ left_square ∷ word (codes "string") ∷ []

-- up to the innermost bracket
abbrev pub outer_items : Head → Begun → List Level → Lexemes
outer_items head member levels = head_items head ++ begun_items member ++ levels_items levels

abbrev pub spelled : State → Lexemes
spelled Start = []
spelled (Headed notes) = notes_items notes ++ word (codes "interface") ∷ []
spelled (Between head) = head_items head
spelled (Keyed head notes keyword) = head_items head ++ notes_items notes ++ keyword_item keyword ∷ []
spelled (Ready head member) = head_items head ++ begun_items member
spelled (Middle head notes name input) = head_items head ++ notes_items notes ++ word (codes "method") ∷ word name ∷ body_items input
spelled (Inside head member levels spot) = outer_items head member levels ++ left_bracket ∷ spot_items spot

abbrev pub IsSome : {A : Type 0} → List A → Type 0
IsSome [] = ⊥
IsSome (x ∷ xs) = Unit {0}

pub some_push : {A : Type 0} (xs : List A) (x : A) → IsSome (xs ++ x ∷ [])
some_push [] x = tt
some_push (y ∷ xs) x = tt

pub record HeadSound (limit : ℕ) (head : Head) : Type 0 where
  pub notes : are_notes head.notes ≡ true
  pub name : is_interface_name head.name ≡ true
  pub members : list_all member_form head.members ≡ true
  pub within : greatest (map (λ (member : Member). part_depth member.part) head.members) ≤ limit

pub record StructSound (limit : ℕ) (body : Body) : Type 0 where
  pub struct : is_struct body ≡ true
  pub form : body_form body ≡ true
  pub within : body_depth body ≤ limit

abbrev pub KindSound : ℕ → Kind → Type 0
KindSound limit (Output input) = StructSound limit input
KindSound limit kind = Unit {0}

pub record BegunSound (limit : ℕ) (member : Begun) : Type 0 where
  pub notes : are_notes member.notes ≡ true
  pub name : is_member_name member.name ≡ true
  pub kind : KindSound limit member.kind

pub record FieldsSound (limit : ℕ) (depth : ℕ) (fields : List Field) : Type 0 where
  pub form : list_all field_form fields ≡ true
  pub within : greatest (map field_depth fields) + depth ≤ limit

pub record LevelSound (limit : ℕ) (depth : ℕ) (level : Level) : Type 0 where
  pub fields : FieldsSound limit depth level.fields
  pub notes : are_notes level.notes ≡ true
  pub name : is_field_name level.name ≡ true
  pub prefixes : has_single_maybes level.prefixes ≡ true

abbrev pub LevelsSound : ℕ → List Level → Type 0
LevelsSound limit [] = Unit {0}
LevelsSound limit (level ∷ levels) = LevelSound limit (suc (length levels)) level × LevelsSound limit levels

pub record NamesSound (kind : Kind) (levels : List Level) (names : List Named) : Type 0 where
  pub form : list_all named_form names ≡ true
  pub some : IsSome names
  pub taken : takes_enum kind levels ≡ true

abbrev pub SpotSound : ℕ → Kind → List Level → Spot → Type 0
SpotSound limit kind levels spot.First = Unit {0}
SpotSound limit kind levels (spot.Only named) = named_form named ≡ true
SpotSound limit kind levels (spot.Names names) = NamesSound kind levels names
SpotSound limit kind levels (spot.MoreNames names) = NamesSound kind levels names
SpotSound limit kind levels (spot.Fields fields) = FieldsSound limit (suc (length levels)) fields × IsSome fields
SpotSound limit kind levels (spot.MoreFields fields) = FieldsSound limit (suc (length levels)) fields × IsSome fields
SpotSound limit kind levels (spot.Field level) = LevelSound limit (suc (length levels)) level × (level.prefixes ≡ [])
SpotSound limit kind levels (spot.Prefixes level) = LevelSound limit (suc (length levels)) level
SpotSound limit kind levels (spot.Square level) = LevelSound limit (suc (length levels)) level
SpotSound limit kind levels (spot.Map level) = LevelSound limit (suc (length levels)) level

pub record InsideSound (limit : ℕ) (h : Head) (m : Begun) (ls : List Level) (at : Spot) : Type 0 where
  pub head : HeadSound limit h
  pub member : BegunSound limit m
  pub levels : LevelsSound limit ls
  pub within : suc (length ls) ≤ limit
  pub spot : SpotSound limit m.kind ls at

-- the names and notes of what was read have their forms, and its brackets are within the limit
abbrev pub Sound : ℕ → State → Type 0
Sound limit Start = Unit {0}
Sound limit (Headed notes) = are_notes notes ≡ true
Sound limit (Between head) = HeadSound limit head
Sound limit (Keyed head notes keyword) = HeadSound limit head × (are_notes notes ≡ true)
Sound limit (Ready head member) = HeadSound limit head × BegunSound limit member
Sound limit (Middle head notes name input) = HeadSound limit head × (are_notes notes ≡ true) × (is_member_name name ≡ true) × StructSound limit input
Sound limit (Inside head member levels spot) = InsideSound limit head member levels spot

-- where an item is taken, this holds of what was then read
abbrev pub OnNext : (State → Type 0) → Next → Type 0
OnNext P (Going state) = P state
OnNext P Stray = Unit {0}
OnNext P Beyond = Unit {0}

pub on_if : (P : State → Type 0) (test : Bool) (state : State) → (test ≡ true → P state) → OnNext P (going_if test state)
on_if P true state then = then refl
on_if P false state then = tt

pub on_some_if : (P : State → Type 0) (head : Head) (member : Begun) (levels : List Level) (test : Bool) (at : Spot) → (test ≡ true → P (Inside head member levels at))
    → OnNext P (inside_next head member levels (some_if test at))
on_some_if P head member levels true at then = then refl
on_some_if P head member levels false at then = tt

-- more in the innermost bracket
pub inside_more : (head : Head) (member : Begun) (levels : List Level) (one other : Spot) (more : Lexemes)
    → spot_items other ≡ spot_items one ++ more
    → spelled (Inside head member levels other) ≡ spelled (Inside head member levels one) ++ more
inside_more head member levels one other more e =
    rw e (simp append_assoc)

pub core_more : (level : Level) (core : Core) → joined (map field_items (with_core level core)) ≡ level_items level ++ core_items core
core_more level core =
    let of : TypeRef = record { prefixes = level.prefixes; core = core } in
    rw (map-append, joined_push, type_is) (simp append_assoc)

pub finished_items : (head : Head) (notes : List Bytes) (name : Bytes) (kind : Kind) (body : Body)
    → spelled (finished head notes name kind body) ≡ head_items head ++ (notes_items notes ++ kind_items kind name) ++ body_items body
finished_items head notes name Shape body = simp (flat_map-append, append_assoc, append-nil)
finished_items head notes name Input body = simp (flat_map-append, append_assoc, append-nil)
finished_items head notes name (Output input) body = simp (flat_map-append, append_assoc, append-nil)
finished_items head notes name Fault body = simp (flat_map-append, append_assoc, append-nil)

no_levels : (a b c : Lexemes) → a ++ b ++ c ≡ (a ++ b ++ []) ++ c
no_levels a b c = simp (append_assoc, append-nil)

one_level : (a b c d e : Lexemes) (item : Lexeme) → (a ++ b ++ c) ++ item ∷ (d ++ e) ≡ (a ++ b ++ (c ++ item ∷ d)) ++ e
one_level a b c d e item = simp append_assoc

pub closed_items : (head : Head) (member : Begun) (levels : List Level) (body : Body)
    → spelled (closed head member levels body) ≡ outer_items head member levels ++ body_items body
closed_items head member (level ∷ levels) body =
    rw (core_more, inline_items) (one_level (head_items head) (begun_items member) (levels_items levels) (level_items level) (body_items body) left_bracket)
closed_items head member [] body = finished_items head member.notes member.name member.kind body
    ∙ no_levels (head_items head) (begun_items member) (body_items body)
