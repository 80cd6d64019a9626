use Rattle.step_laws.proofs.laws.sole_branches_are_the_rule.Goals as goal

pub returns : goal.returns
returns c = λ interface branch parameters values is. rw is
