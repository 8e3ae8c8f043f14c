use Rattle.std.proofs.Common.{◌≡◌, ◌++◌, flat_map}
use Rattle.std.specs.List.{range_with_len}
use Rattle.vd_gen.specs.Source.{coordinate, head}
use Rattle.vd_gen.proofs.source.generate.Given as goal

abbrev pub invariant-loop-number : goal.invariant-loop-number
invariant-loop-number l = l.text ≡ head ++ flat_map coordinate (range_with_len 0 l.number)
