use Rattle.std.proofs.Common.{◌≡◌, ◌∙◌, sym, ap, subst, Option, Some, None, List, option_map}
use Rattle.std.specs.Borrow.{Bor}
use Rattle.idl_tree.specs.Names.{Bytes}
use Rattle.idl_tree.specs.declared.trees.Body.{Body}
use Rattle.idl_compat.specs.Order.{comparisons_of_method}
use Rattle.idl_compat.specs.Walks.{FoundIn}
use Rattle.idl_compat.specs.declared.verdicts.Side.TheVariants.{Input, Output}
use Rattle.idl_compat.specs.declared.verdicts.Verdict.TheVariants.{Differs}
use Rattle.idl_compat.proofs.Ordering.{no_method, input_differs, output_differs, differs_ok, in_scopes}
use Rattle.idl_compat.proofs.compares.method.Goals as goal

abbrev both_now : Bor Body × Bor Body → Body × Body
both_now bodies = (bodies.0.now, bodies.1.now)

there : (found : Option (Bor Body × Bor Body)) (bodies : Bor Body × Bor Body) (named : Option (Body × Body)) → option_map both_now found ≡ named → found ≡ Some bodies → named ≡ Some (both_now bodies)
there found bodies named is some = sym is ∙ ap (option_map both_now) some

gone : (found : Option (Bor Body × Bor Body)) (named : Option (Body × Body)) → option_map both_now found ≡ named → found ≡ None → named ≡ None
gone found named is none = sym is ∙ ap (option_map both_now) none

pub returns-in_default-method-clause-compared : goal.returns-in_default-method-clause-compared
returns-in_default-method-clause-compared c =
    let first = c.args.both.now.first.scope.now in
    let second = c.args.both.now.second.scope.now in
    let member = c.args.member.now in
    no_method first second member.name member.part c.in-Method.input c.in-Method.output c.in_ok-of-in-Method.field-0 c.in-Method.is
    (gone c.method.result _ (rw c.as_str-name.ensures at c.method.ensures) c.in_default-method.is)
    (c.in_ok-of-in-Method.ensures.bytes ∙ c.as_str-name.ensures)

pub returns-in-Some-2-clause-compared : goal.returns-in-Some-2-clause-compared
returns-in-Some-2-clause-compared c =
    let first = c.args.both.now.first.scope.now in
    let second = c.args.both.now.second.scope.now in
    let member = c.args.member.now in
    differs_ok c.differs.result (Differs member.name Input c.in-Some-2.path) (comparisons_of_method first second member.name member.part)
    (rw c.as_str-name.ensures at c.differs.ensures)
    (input_differs first second member.name member.part c.in-Method.input c.in-Method.output (c.in-Some.found.now, c.in-Some.reply.now) c.in-Some-2.path c.in-Method.is
    (there c.method.result (c.in-Some.found, c.in-Some.reply) _ (rw c.as_str-name.ensures at c.method.ensures) c.in-Some.is)
    (subst (λ (path : Option (List Bytes)). FoundIn (first, second) c.in-Method.input c.in-Some.found.now path) c.in-Some-2.is c.in_ok-path-in-Method.ensures.found))

pub returns-in-Some-3-clause-compared : goal.returns-in-Some-3-clause-compared
returns-in-Some-3-clause-compared c =
    let first = c.args.both.now.first.scope.now in
    let second = c.args.both.now.second.scope.now in
    let member = c.args.member.now in
    let path = c.in-Some-3.path in
    let leads = subst (λ (found : Option (List Bytes)). FoundIn (c.sent_path.new.self.second.scope.now, c.sent_path.new.self.first.scope.now) c.in-Some.reply.now c.in-Method.output found)
    c.in-Some-3.is c.in_ok-path-in-None.ensures.found in
    differs_ok c.differs-in-Some-3.result (Differs member.name Output path) (comparisons_of_method first second member.name member.part)
    (rw c.as_str-name.ensures at c.differs-in-Some-3.ensures)
    (output_differs first second member.name member.part c.in-Method.input c.in-Method.output (c.in-Some.found.now, c.in-Some.reply.now) path c.in-Method.is
    (there c.method.result (c.in-Some.found, c.in-Some.reply) _ (rw c.as_str-name.ensures at c.method.ensures) c.in-Some.is)
    (subst (λ (found : Option (List Bytes)). FoundIn (first, second) c.in-Method.input c.in-Some.found.now found) c.in-None.is c.in_ok-path-in-Method.ensures.found)
    (in_scopes path c.in-Some.reply.now c.in-Method.output (c.sent_path.new.self.second.scope.now, c.sent_path.new.self.first.scope.now) (second, first)
    (λ i. (c.in_ok-path-in-Method.ensures.second i, c.in_ok-path-in-Method.ensures.first i)) leads))
