use Rattle.std.proofs.Common.{◌≡◌, ◌+◌, ◌≤◌, ◌++◌, length, take}
use Rattle.std.specs.Prelude.{vec_capacity}
use Rattle.vd_execution.specs.Step.{words_in}
use Rattle.vd_machine.specs.Machines.{held}
use Rattle.vd_world.proofs.link.push_each.Given as goal

abbrev pub invariant-loop-register : goal.invariant-loop-register
invariant-loop-register l = record {
  so_far : l.words.items ≡ l.initial.words.items ++ words_in (held l.registers) (take l.register-index l.from);
  room : length l.words.items + length l.from ≤ vec_capacity l.words + l.register-index;
}
