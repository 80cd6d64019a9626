use Rattle.std.proofs.Common.{◌≡◌, drop}
use Rattle.link_port.specs.FileReads.{content_of}
use Rattle.link_port.proofs.filing.first_content.Given as goal

-- no earlier file has the name
abbrev pub invariant-loop-name : goal.invariant-loop-name
invariant-loop-name l = content_of (drop l.name-index l.files) l.path ≡ content_of l.files l.path
