use Rattle.std.proofs.Common.{◌≡◌, ◌≤◌, map, take, length}
use Rattle.std.specs.Prelude.{vec_len, vec_capacity}
use Rattle.sheet_rules.specs.declared.forms.Register.{Register}
use Rattle.sheet_step.proofs.registers.initial_values.Given as goal

abbrev pub invariant-loop-register : goal.invariant-loop-register
invariant-loop-register l = record {
  so_far : l.values.items ≡ map (λ (register : Register). register.initial) (take l.register-index l.registers);
  count : vec_len l.values ≡ l.register-index;
  room : length l.registers ≤ vec_capacity l.values;
}
