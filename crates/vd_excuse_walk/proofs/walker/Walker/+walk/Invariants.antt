use Rattle.std.proofs.Common.{◌≡◌, drop}
use Rattle.vd_execution.specs.Joint.{turns}
use Rattle.vd_excuse_walk.specs.Data.{all_both, both_turn, data_walks}
use Rattle.vd_excuse_walk.proofs.walker.Walker.+walk.Given as goal

abbrev pub invariant-steps-loop-step : goal.invariant-steps-loop-step
invariant-steps-loop-step l = all_both (data_walks (drop l.step-index l.steps)) l.self ≡ all_both (data_walks l.steps) l.initial.self

abbrev pub invariant-step-loop-turn : goal.invariant-step-loop-turn
invariant-step-loop-turn l = l.self ≡ turns (both_turn l.parts (data_walks l.body)) l.turn 0 l.initial.self
