-- the items of a tree in form are read as that tree
use Rattle.std.proofs.Common.{◌≡◌, ℕ, ◌≤◌, Bool, true, false, ◌&&◌, cond, List, [], ◌∷◌, ◌++◌, map, codes, refl, sym, ap, ◌∙◌, append_assoc, arith, inl, inr}
use Rattle.std.specs.List.{flat_map, list_all}
use Rattle.std.specs.Str.{bytes_eq}
use Rattle.std.proofs.lemmas.List.{append-nil}
use Rattle.std.proofs.lemmas.Bool.{and_parts, cond-false, true≢false, or_from}
use Rattle.idl_token.specs.Lex.{Bytes, Lexemes}
use Rattle.idl_tree.specs.declared.trees.Interface.{Interface}
use Rattle.idl_tree.specs.declared.trees.Member.{Member}
use Rattle.idl_tree.specs.declared.trees.Body.{Body}
use Rattle.idl_tree.specs.declared.trees.Part.{Part}
use Rattle.idl_tree.specs.declared.trees.Part.TheVariants as part
use Rattle.idl_tree.specs.Names.{is_interface_name, is_member_name}
use Rattle.idl_tree.specs.Form.{Form, Deep, body_form, are_notes, body_depth, greatest, is_struct, member_form, part_form, part_depth}
use Rattle.idl_rules.specs.Items.{Items, word, arrow, notes_items, body_items, member_items, part_items}
use Rattle.idl_rules.specs.Settle.{is_keyword}
use Rattle.idl_rules.specs.Reading.{going_if, closed, with_member, run, whole, then_read, slot_next}
use Rattle.idl_rules.specs.declared.states.State.{State}
use Rattle.idl_rules.specs.declared.states.State.TheVariants.{Start, Headed, Between, Keyed, Ready}
use Rattle.idl_rules.specs.declared.states.Head.{Head}
use Rattle.idl_rules.specs.declared.states.Begun.{Begun}
use Rattle.idl_rules.specs.declared.states.Kind.TheVariants.{Shape, Input, Output, Fault}
use Rattle.idl_rules.specs.declared.states.Keyword.TheVariants.{Types, Methods, Errors}
use Rattle.idl_rules.proofs.Words.{same_bytes}
use Rattle.idl_rules.proofs.Steps.{Fits}
use Rattle.idl_rules.proofs.Runs.{run_notes, by_bool}
use Rattle.idl_rules.proofs.Completes.{inner_of, some_depth, opened_runs, bodies_run, going_fits}

-- a name is no keyword
other_word : (form : Bytes → Bool) (w v : Bytes) → form w ≡ true → form v ≡ false → bytes_eq w v ≡ false
other_word form w v named other =
    by_bool (λ (b : Bool). bytes_eq w v ≡ b → b ≡ false) (bytes_eq w v)
    (λ e again. absurd (true≢false (sym named ∙ ap form (same_bytes w v e) ∙ other))) (λ e again. refl) refl

no_keyword : (form : Bytes → Bool) (w : Bytes) → form w ≡ true → form (codes "interface") ≡ false → form (codes "type") ≡ false → form (codes "method") ≡ false
    → form (codes "error") ≡ false → is_keyword w ≡ false
no_keyword form w named a b c d =
    or_from _ _ (or_from _ _ (or_from _ _ (other_word form w (codes "interface") named a) (other_word form w (codes "type") named b))
    (other_word form w (codes "method") named c)) (other_word form w (codes "error") named d)

pub member_no_keyword : (w : Bytes) → is_member_name w ≡ true → is_keyword w ≡ false
member_no_keyword w named = no_keyword is_member_name w named refl refl refl refl

pub interface_no_keyword : (w : Bytes) → is_interface_name w ≡ true → is_keyword w ≡ false
interface_no_keyword w named = no_keyword is_interface_name w named refl refl refl refl

-- a name outside all brackets
plain_word : (limit : ℕ) (state next : State) (w : Bytes) (fits : Bool) (items : Lexemes) → is_keyword w ≡ false → fits ≡ true
    → cond (is_keyword w) (then_read (slot_next state [] (word w)) (λ s. run limit s [] items)) (then_read (going_if fits next) (λ s. run limit s [] items))
    ≡ run limit next [] items
plain_word limit state next w fits items other e = cond-false (is_keyword w) _ _ other ∙ going_fits limit fits next items e

module _ (limit : ℕ) (head : Head) where
  -- a body of a member, with its bracket
  member_body : (member : Begun) (body : Body) (items : Lexemes) → body_form body ≡ true → Fits member.kind [] body → body_depth body ≤ limit
      → run limit (Ready head member) [] (body_items body ++ items) ≡ run limit (closed head member [] body) [] items
  member_body member body items form fits within =
      let inner = inner_of body in
      let some = some_depth body in
      ap (λ (x : Lexemes). run limit (Ready head member) [] (x ++ items)) inner.1
      ∙ opened_runs limit head member [] (inner.0 ++ items) (omega arith)
      ∙ bodies_run limit head member (body_depth body) body [] inner.0 items form (omega arith) fits (omega arith) inner.1

  part_runs : (notes : List Bytes) (name : Bytes) (of : Part) (items : Lexemes) → is_member_name name ≡ true → part_form of ≡ true → part_depth of ≤ limit
      → run limit (Between head) notes (part_items name of ++ items) ≡ run limit (with_member head notes name of) [] items
  part_runs notes name (part.Shape body) items named form within =
      plain_word limit (Keyed head notes Types) (Ready head (record { notes = notes; name = name; kind = Shape })) name (is_member_name name) (body_items body ++ items) (member_no_keyword name named) named
      ∙ member_body (record { notes = notes; name = name; kind = Shape }) body items form (inl refl) within
  part_runs notes name (part.Method input output) items named form within =
      let p = and_parts (is_struct input && body_form input && is_struct output) (body_form output) form in
      let q = and_parts (is_struct input && body_form input) (is_struct output) p.0 in
      let r = and_parts (is_struct input) (body_form input) q.0 in
      ap (λ (x : Lexemes). run limit (Between head) notes x) (append_assoc (word (codes "method") ∷ word name ∷ body_items input) (arrow ∷ body_items output) items)
      ∙ plain_word limit (Keyed head notes Methods) (Ready head (record { notes = notes; name = name; kind = Input })) name (is_member_name name)
      (body_items input ++ (arrow ∷ (body_items output ++ items))) (member_no_keyword name named) named
      ∙ member_body (record { notes = notes; name = name; kind = Input }) input (arrow ∷ (body_items output ++ items)) r.1 (inr r.0) (omega arith)
      ∙ member_body (record { notes = notes; name = name; kind = Output input }) output items p.1 (inr q.1) (omega arith)
  part_runs notes name (part.Fault body) items named form within =
      let p = and_parts (is_struct body) (body_form body) form in
      plain_word limit (Keyed head notes Errors) (Ready head (record { notes = notes; name = name; kind = Fault })) name (is_member_name name) (body_items body ++ items) (member_no_keyword name named) named
      ∙ member_body (record { notes = notes; name = name; kind = Fault }) body items p.1 (inr p.0) within

  member_runs : (member : Member) (items : Lexemes) → member_form member ≡ true → part_depth member.part ≤ limit
      → run limit (Between head) [] (member_items member ++ items) ≡ run limit (with_member head member.notes member.name member.part) [] items
  member_runs member items form within =
      let p = and_parts (are_notes member.notes && is_member_name member.name) (part_form member.part) form in
      let q = and_parts (are_notes member.notes) (is_member_name member.name) p.0 in
      ap (λ (x : Lexemes). run limit (Between head) [] x) (append_assoc (notes_items member.notes) (part_items member.name member.part) items)
      ∙ run_notes limit (Between head) [] member.notes (part_items member.name member.part ++ items) q.0
      ∙ part_runs member.notes member.name member.part items q.1 p.1 within

abbrev Members : Head → List Member → State
Members head members = Between (record { notes = head.notes; name = head.name; members = head.members ++ members })

members_run : (limit : ℕ) (head : Head) (members : List Member) (items : Lexemes) → list_all member_form members ≡ true
    → greatest (map (λ (member : Member). part_depth member.part) members) ≤ limit
    → run limit (Between head) [] (flat_map member_items members ++ items) ≡ run limit (Members head members) [] items
members_run limit head [] items form within =
    ap (λ (x : List Member). run limit (Between (record { notes = head.notes; name = head.name; members = x })) [] items) (sym (append-nil head.members))
members_run limit head (member ∷ members) items form within =
    let p = and_parts (member_form member) (list_all member_form members) form in
    let next : Head = record { notes = head.notes; name = head.name; members = head.members ++ member ∷ [] } in
    ap (λ (x : Lexemes). run limit (Between head) [] x) (append_assoc (member_items member) (flat_map member_items members) items)
    ∙ member_runs limit head member (flat_map member_items members ++ items) p.0 (omega arith)
    ∙ members_run limit next members items p.1 (omega arith)
    ∙ ap (λ (x : List Member). run limit (Between (record { notes = head.notes; name = head.name; members = x })) [] items) (append_assoc head.members (member ∷ []) members)

pub reads : (limit : ℕ) (tree : Interface) → Form tree → Deep tree ≤ limit → run limit Start [] (Items tree) ≡ whole tree
reads limit tree form within =
    let p = and_parts (are_notes tree.notes && is_interface_name tree.name && list_all member_form tree.members) (are_notes tree.tail) form in
    let q = and_parts (are_notes tree.notes && is_interface_name tree.name) (list_all member_form tree.members) p.0 in
    let r = and_parts (are_notes tree.notes) (is_interface_name tree.name) q.0 in
    let head : Head = record { notes = tree.notes; name = tree.name; members = [] } in
    let tail = notes_items tree.tail in
    let members = flat_map member_items tree.members in
    ap (λ (x : Lexemes). run limit Start [] x) (append_assoc (notes_items tree.notes) (word (codes "interface") ∷ word tree.name ∷ members) tail)
    ∙ run_notes limit Start [] tree.notes (word (codes "interface") ∷ word tree.name ∷ (members ++ tail)) r.0
    ∙ plain_word limit (Headed tree.notes) (Between head) tree.name (is_interface_name tree.name) (members ++ tail) (interface_no_keyword tree.name r.1) r.1
    ∙ members_run limit head tree.members tail q.1 within
    ∙ ap (λ (x : Lexemes). run limit (Members head tree.members) [] x) (sym (append-nil tail))
    ∙ run_notes limit (Members head tree.members) [] tree.tail [] p.1
