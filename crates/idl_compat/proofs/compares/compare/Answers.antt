use Rattle.std.proofs.Common.{◌≡◌, ◌∙◌, ap}
use Rattle.idl_tree.specs.declared.trees.Interface.{Interface}
use Rattle.idl_compat.specs.Order.{of_methods, of_errors}
use Rattle.idl_compat.specs.declared.verdicts.Verdict.TheVariants.{Compatible}
use Rattle.idl_compat.proofs.Ordering.{same_name, told_of, well_of, methods_tell, errors_tell, may_replace, compatible_where}
use Rattle.idl_compat.proofs.compares.compare.Goals as goal

pub returns-in-Some-clause-told : goal.returns-in-Some-clause-told
returns-in-Some-clause-told c =
    let old = c.args.old.now in
    let new = c.args.new.now in
    let same = same_name old.name new.name c.has_other_name.result c.has_other_name.ensures c.if-has_other_name.false in
    let listed = c.as_slice-members.ensures ∙ ap (λ (tree : Interface). tree.members) c.tree.ensures.tree in
    let is : of_methods c.in_ok-both.both.first.scope.now c.in_ok-both.both.second.scope.now c.as_slice-members.result.now ≡ of_methods old new old.members =
    λ i. of_methods (c.in_ok-both.ensures.first i) (c.in_ok-both.ensures.second i) (listed i) in
    methods_tell old new c.in-Some.verdict same
    (told_of (of_methods c.in_ok-both.both.first.scope.now c.in_ok-both.both.second.scope.now c.as_slice-members.result.now) (of_methods old new old.members) c.in_ok-verdict.field-0 c.in-Some.verdict is c.in-Some.is c.in_ok-verdict.ensures.compared)

pub returns-in-Some-clause-compatible : goal.returns-in-Some-clause-compatible
returns-in-Some-clause-compatible c =
    let old = c.args.old.now in
    let new = c.args.new.now in
    let same = same_name old.name new.name c.has_other_name.result c.has_other_name.ensures c.if-has_other_name.false in
    let listed = c.as_slice-members.ensures ∙ ap (λ (tree : Interface). tree.members) c.tree.ensures.tree in
    let is : of_methods c.in_ok-both.both.first.scope.now c.in_ok-both.both.second.scope.now c.as_slice-members.result.now ≡ of_methods old new old.members =
    λ i. of_methods (c.in_ok-both.ensures.first i) (c.in_ok-both.ensures.second i) (listed i) in
    compatible_where old new c.in-Some.verdict (methods_tell old new c.in-Some.verdict same
    (told_of (of_methods c.in_ok-both.both.first.scope.now c.in_ok-both.both.second.scope.now c.as_slice-members.result.now) (of_methods old new old.members) c.in_ok-verdict.field-0 c.in-Some.verdict is c.in-Some.is c.in_ok-verdict.ensures.compared))

pub returns-in-Some-2-clause-told : goal.returns-in-Some-2-clause-told
returns-in-Some-2-clause-told c =
    let old = c.args.old.now in
    let new = c.args.new.now in
    let same = same_name old.name new.name c.has_other_name.result c.has_other_name.ensures c.if-has_other_name.false in
    let listed = c.as_slice-members.ensures ∙ ap (λ (tree : Interface). tree.members) c.tree.ensures.tree in
    let is : of_methods c.in_ok-both.both.first.scope.now c.in_ok-both.both.second.scope.now c.as_slice-members.result.now ≡ of_methods old new old.members =
    λ i. of_methods (c.in_ok-both.ensures.first i) (c.in_ok-both.ensures.second i) (listed i) in
    let by : of_errors c.methods.new.both.first.scope.now c.methods.new.both.second.scope.now c.as_slice-members.result.now ≡ of_errors old new old.members =
    λ i. of_errors ((c.in_ok-verdict.ensures.of.first ∙ c.in_ok-both.ensures.first) i) ((c.in_ok-verdict.ensures.of.second ∙ c.in_ok-both.ensures.second) i) (listed i) in
    let well = well_of (of_methods c.in_ok-both.both.first.scope.now c.in_ok-both.both.second.scope.now c.as_slice-members.result.now) (of_methods old new old.members) c.in_ok-verdict.field-0 is c.in-None.is c.in_ok-verdict.ensures.compared in
    errors_tell old new c.in-Some-2.verdict same well
    (told_of (of_errors c.methods.new.both.first.scope.now c.methods.new.both.second.scope.now c.as_slice-members.result.now) (of_errors old new old.members) c.in_ok-verdict-in-None.field-0 c.in-Some-2.verdict by c.in-Some-2.is c.in_ok-verdict-in-None.ensures.compared)

pub returns-in-Some-2-clause-compatible : goal.returns-in-Some-2-clause-compatible
returns-in-Some-2-clause-compatible c =
    let old = c.args.old.now in
    let new = c.args.new.now in
    let same = same_name old.name new.name c.has_other_name.result c.has_other_name.ensures c.if-has_other_name.false in
    let listed = c.as_slice-members.ensures ∙ ap (λ (tree : Interface). tree.members) c.tree.ensures.tree in
    let is : of_methods c.in_ok-both.both.first.scope.now c.in_ok-both.both.second.scope.now c.as_slice-members.result.now ≡ of_methods old new old.members =
    λ i. of_methods (c.in_ok-both.ensures.first i) (c.in_ok-both.ensures.second i) (listed i) in
    let by : of_errors c.methods.new.both.first.scope.now c.methods.new.both.second.scope.now c.as_slice-members.result.now ≡ of_errors old new old.members =
    λ i. of_errors ((c.in_ok-verdict.ensures.of.first ∙ c.in_ok-both.ensures.first) i) ((c.in_ok-verdict.ensures.of.second ∙ c.in_ok-both.ensures.second) i) (listed i) in
    let well = well_of (of_methods c.in_ok-both.both.first.scope.now c.in_ok-both.both.second.scope.now c.as_slice-members.result.now) (of_methods old new old.members) c.in_ok-verdict.field-0 is c.in-None.is c.in_ok-verdict.ensures.compared in
    compatible_where old new c.in-Some-2.verdict (errors_tell old new c.in-Some-2.verdict same well
    (told_of (of_errors c.methods.new.both.first.scope.now c.methods.new.both.second.scope.now c.as_slice-members.result.now) (of_errors old new old.members) c.in_ok-verdict-in-None.field-0 c.in-Some-2.verdict by c.in-Some-2.is c.in_ok-verdict-in-None.ensures.compared))

pub returns-clause-told : goal.returns-clause-told
returns-clause-told c =
    let old = c.args.old.now in
    let new = c.args.new.now in
    let same = same_name old.name new.name c.has_other_name.result c.has_other_name.ensures c.if-has_other_name.false in
    let listed = c.as_slice-members.ensures ∙ ap (λ (tree : Interface). tree.members) c.tree.ensures.tree in
    let is : of_methods c.in_ok-both.both.first.scope.now c.in_ok-both.both.second.scope.now c.as_slice-members.result.now ≡ of_methods old new old.members =
    λ i. of_methods (c.in_ok-both.ensures.first i) (c.in_ok-both.ensures.second i) (listed i) in
    let by : of_errors c.methods.new.both.first.scope.now c.methods.new.both.second.scope.now c.as_slice-members.result.now ≡ of_errors old new old.members =
    λ i. of_errors ((c.in_ok-verdict.ensures.of.first ∙ c.in_ok-both.ensures.first) i) ((c.in_ok-verdict.ensures.of.second ∙ c.in_ok-both.ensures.second) i) (listed i) in
    let well = well_of (of_methods c.in_ok-both.both.first.scope.now c.in_ok-both.both.second.scope.now c.as_slice-members.result.now) (of_methods old new old.members) c.in_ok-verdict.field-0 is c.in-None.is c.in_ok-verdict.ensures.compared in
    may_replace old new same well
    (well_of (of_errors c.methods.new.both.first.scope.now c.methods.new.both.second.scope.now c.as_slice-members.result.now) (of_errors old new old.members) c.in_ok-verdict-in-None.field-0 by c.in-None-2.is c.in_ok-verdict-in-None.ensures.compared)

pub returns-clause-compatible : goal.returns-clause-compatible
returns-clause-compatible c =
    let old = c.args.old.now in
    let new = c.args.new.now in
    let same = same_name old.name new.name c.has_other_name.result c.has_other_name.ensures c.if-has_other_name.false in
    let listed = c.as_slice-members.ensures ∙ ap (λ (tree : Interface). tree.members) c.tree.ensures.tree in
    let is : of_methods c.in_ok-both.both.first.scope.now c.in_ok-both.both.second.scope.now c.as_slice-members.result.now ≡ of_methods old new old.members =
    λ i. of_methods (c.in_ok-both.ensures.first i) (c.in_ok-both.ensures.second i) (listed i) in
    let by : of_errors c.methods.new.both.first.scope.now c.methods.new.both.second.scope.now c.as_slice-members.result.now ≡ of_errors old new old.members =
    λ i. of_errors ((c.in_ok-verdict.ensures.of.first ∙ c.in_ok-both.ensures.first) i) ((c.in_ok-verdict.ensures.of.second ∙ c.in_ok-both.ensures.second) i) (listed i) in
    let well = well_of (of_methods c.in_ok-both.both.first.scope.now c.in_ok-both.both.second.scope.now c.as_slice-members.result.now) (of_methods old new old.members) c.in_ok-verdict.field-0 is c.in-None.is c.in_ok-verdict.ensures.compared in
    compatible_where old new Compatible (may_replace old new same well
    (well_of (of_errors c.methods.new.both.first.scope.now c.methods.new.both.second.scope.now c.as_slice-members.result.now) (of_errors old new old.members) c.in_ok-verdict-in-None.field-0 by c.in-None-2.is c.in_ok-verdict-in-None.ensures.compared))
