use Rattle.std.proofs.Common.{◌≡◌, take}
use Rattle.std.specs.Process.{command_args, command_program}
use Rattle.vd_edge_processes.proofs.running.command_of.Given as goal

abbrev pub invariant-loop-word : goal.invariant-loop-word
invariant-loop-word l = (command_program l.command ≡ l.program) × (command_args l.command ≡ take l.word-index l.words)
