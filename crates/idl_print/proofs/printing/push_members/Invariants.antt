use Rattle.std.proofs.Common.{◌≡◌, ◌++◌, drop}
use Rattle.std.specs.List.{flat_map}
use Rattle.std.specs.String.{string_bytes}
use Rattle.idl_rules.specs.Canon.{member_text}
use Rattle.idl_print.proofs.printing.push_members.Given as goal

abbrev pub invariant-loop-member : goal.invariant-loop-member
invariant-loop-member l =
    string_bytes l.out ++ flat_map member_text (drop l.member-index l.members) ≡ string_bytes l.initial.out ++ flat_map member_text l.members
