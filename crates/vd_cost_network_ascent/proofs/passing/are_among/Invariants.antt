use Rattle.std.proofs.Common.{◌≡◌, drop}
use Rattle.std.specs.Prelude.{nat_lt}
use Rattle.std.specs.List.{list_all}
use Rattle.vd_cost_network_ascent.proofs.passing.are_among.Given as goal

abbrev pub invariant-loop-choice : goal.invariant-loop-choice
invariant-loop-choice l = list_all (λ choice. nat_lt choice l.count) (drop l.choice-index l.choices) ≡ list_all (λ choice. nat_lt choice l.count) l.choices
