use Rattle.std.proofs.Common.{◌≡◌, drop}
use Rattle.std.specs.Prelude.{slice_index}
use Rattle.vd_choreography_reorder.specs.Ranks.{noted}
use Rattle.vd_choreography_reorder.proofs.ranks.raise_all.Given as goal

abbrev pub invariant-loop-register : goal.invariant-loop-register
invariant-loop-register l =
    noted l.column (drop l.register-index l.registers) l.rank (slice_index l.ranks) ≡ noted l.column l.registers l.rank (slice_index l.initial.ranks)
