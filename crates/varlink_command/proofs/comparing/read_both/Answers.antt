-- Both files were read.
use Rattle.std.proofs.Common.{ℕ, List, Option, subst}
use Rattle.varlink_command.specs.Comparing.{ReadTexts}
use Rattle.varlink_command.specs.Definitions.{definition_limit, Holds}
use Rattle.varlink_command.proofs.ReadingBoth.{reads-both, asks-both}
use Rattle.varlink_command.proofs.comparing.read_both.Goals as goal

pub returns-clause-reads : goal.returns-clause-reads
returns-clause-reads g c =
    let files = g.F.Files in
    let first = c.in-Ok.text in
    let second = c.in-Ok-read_file.text in
    reads-both (files.holds c.args.files.now c.args.old.now) (files.holds c.args.files.now c.args.new.now) first second c.definitions.result
    c.in-Ok.ensures.reads
    (subst (λ (held : Option (List ℕ)). Holds definition_limit held second) (c.in-Ok.ensures.kept c.args.new.now) c.in-Ok-read_file.ensures.reads)
    (subst (λ (text : List ℕ). ReadTexts text second c.definitions.result) c.as_slice.ensures
    (subst (λ (text : List ℕ). ReadTexts c.as_slice.result.now text c.definitions.result) c.as_slice-2.ensures c.definitions.ensures))

pub returns-clause-asked : goal.returns-clause-asked
returns-clause-asked g c =
    let files = g.F.Files in
    asks-both (files.paths c.args.files.now) (files.paths c.read_file.new.files) (files.paths c.read_file-2.new.files) c.args.old.now c.args.new.now
    c.in-Ok.ensures.done c.in-Ok-read_file.ensures.done
