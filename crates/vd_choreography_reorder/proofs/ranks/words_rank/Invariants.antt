use Rattle.std.proofs.Common.{◌≡◌, drop}
use Rattle.std.specs.Prelude.{slice_index}
use Rattle.vd_choreography_reorder.specs.Ranks.{deepest}
use Rattle.vd_choreography_reorder.proofs.ranks.words_rank.Given as goal

abbrev pub invariant-loop-register : goal.invariant-loop-register
invariant-loop-register l =
    deepest (slice_index l.ranks) l.column l.deepest (drop l.register-index l.registers) ≡ deepest (slice_index l.ranks) l.column l.least l.registers
