use Rattle.std.proofs.Common.{codes, ◌%◌}
use Rattle.std.specs.Prelude.{decimal}
use Rattle.work_sample.specs.Texts.{call_text}
use Rattle.work_sample.proofs.Growing.{on-ok, joins}
use Rattle.work_sample.proofs.texts.add_call.Goals as goal

pub returns : goal.returns
unfolding call_text
returns c =
    on-ok c.add_between-2.result
    (joins c.args.text.now.items (codes "{\"method\":\"org.example.work.M") (decimal c.args.k) (codes "\",\"parameters\":{\"a\":")
    (decimal (c.args.k % 10)) (codes "}}\0") _ _ c.in_ok-add_between.ensures)
    c.add_between-2.ensures
