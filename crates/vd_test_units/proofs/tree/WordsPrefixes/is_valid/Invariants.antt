use Rattle.std.proofs.Common.{◌≡◌, drop, take}
use Rattle.std.specs.List.{list_all}
use Rattle.vd_test_units.specs.Words.{is_bit}
use Rattle.vd_test_units.proofs.tree.WordsPrefixes.is_valid.Given as goal

abbrev pub invariant-loop-choice : goal.invariant-loop-choice
invariant-loop-choice l = list_all is_bit (drop l.choice-index l.choice-items) ≡ list_all is_bit l.choice-items
