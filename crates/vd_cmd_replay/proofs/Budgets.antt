-- A budget that is enough by the first bound alone is enough.
use Rattle.std.proofs.Common.{◌≤◌, ℕ, arith}
use Rattle.std.specs.Prelude.{ℤ, pos}
use Rattle.vd_outside.specs.Files.{Contents}
use Rattle.vd_cmd.specs.declared.command.ReplayWords.{ReplayWords}
use Rattle.vd_space.specs.Reading.{problem_of}
use Rattle.vd_space.specs.Usual.{firm, hard}
use Rattle.vd_space.specs.declared.problem.Problem.{Problem}
use Rattle.vd_cmd_replay.specs.Accepting.{HardBudgetsAreEnough}

through : (a b c : ℕ) → a ≤ b → b ≤ c → a ≤ c
through a b c first second = omega (arith, first, second)

pub enough_by_hard : ((problem : Problem) (cost : ℤ) → firm problem cost ≤ hard problem cost) → HardBudgetsAreEnough
enough_by_hard at_most words contents accepted =
    let fewer = at_most (problem_of accepted.program accepted.selected.labels) (pos accepted.assignment.cost) in
    record {
      held = accepted.held;
      consistent = accepted.consistent;
      program = accepted.program;
      is_run = accepted.is_run;
      assignment = accepted.assignment;
      selected = accepted.selected;
      enough = through _ _ _ fewer accepted.enough;
    }
