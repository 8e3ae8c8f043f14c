use Rattle.std.proofs.Common.{◌≡◌, drop}
use Rattle.vd_execution.specs.Joint.{turns}
use Rattle.vd_excuse_walk.specs.Data.{all_alone, data_walks, turn_alone}
use Rattle.vd_excuse_walk.proofs.alone.+alone.Given as goal

abbrev pub invariant-steps_alone-loop-step : goal.invariant-steps_alone-loop-step
invariant-steps_alone-loop-step l = all_alone (data_walks (drop l.step-index l.steps)) l.run ≡ all_alone (data_walks l.steps) l.initial.run

abbrev pub invariant-step_alone-loop-turn : goal.invariant-step_alone-loop-turn
invariant-step_alone-loop-turn l = l.run ≡ turns (turn_alone l.parts (data_walks l.body)) l.turn 0 l.initial.run
