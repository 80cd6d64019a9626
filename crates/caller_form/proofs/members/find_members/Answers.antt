use Rattle.std.proofs.Common.{◌≡◌, ◌-◌, Some, length, refl, inl, ◌∙◌, arith}
use Rattle.json.specs.Json.{read_key, value}
use Rattle.json.proofs.Grammar.{read_key-shorter}
use Rattle.serde_json.specs.Data.{no_members, put}
use Rattle.caller_form.proofs.TreeLemmas.{member_read, member_refused, key_refused, members_over}
use Rattle.caller_form.proofs.members.find_members.Goals as goal

pub members-init : goal.members-init
members-init c = (length c.args.reader.now, no_members, omega arith, refl, record { continues = inl refl; error = inl refl; parameters = inl refl })

pub returns-in_err-name : goal.returns-in_err-name
returns-in_err-name c =
    let l = c.members in
    let none = l.invariant.3 ∙ key_refused (value c.args.depth) l.invariant.1 l.invariant.0 l.reader c.in_err-name.ensures.value in
    grind (arith, none)

pub members-preserved : goal.members-preserved
members-preserved c =
    let l = c.members in
    let n = l.invariant.0 in
    let old = l.invariant.1 in
    let k = c.in-Some.name.now in
    let s = c.next_key.new.self in
    let r = c.pass_value.new.reader in
    let key : read_key l.reader ≡ Some (Some k, s) = grind arith in
    let tree = c.in_ok-kind.ensures.passed in
    let less = read_key-shorter l.reader (Some k) s key in
    let lesser = c.in_ok-kind.ensures.shorter in
    let turn = member_read (value c.args.depth) old n k l.reader s r tree.0 (omega (arith, l.invariant.2)) key tree.1 in
    (n - 1, put k tree.0 old, omega (arith, l.invariant.2), l.invariant.3 ∙ turn, c.with-found.ensures old tree.0 l.invariant.4 tree.2)

pub returns-in_err-kind : goal.returns-in_err-kind
returns-in_err-kind c =
    let l = c.members in
    let k = c.in-Some.name.now in
    let s = c.next_key.new.self in
    let key : read_key l.reader ≡ Some (Some k, s) = grind arith in
    let none = l.invariant.3 ∙ member_refused (value c.args.depth) l.invariant.1 l.invariant.0 k l.reader s key c.in_err-kind.ensures.passed in
    grind (arith, none)

pub returns : goal.returns
returns c =
    let l = c.members in
    (l.invariant.1, l.invariant.3 ∙ members_over (value c.args.depth) l.invariant.1 l.invariant.0 l.reader c.next_key.new.self l.invariant.2 (grind arith), l.invariant.4)
