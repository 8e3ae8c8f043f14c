use Rattle.std.proofs.Common.{length, sym, ap, ◌∙◌, arith}
use Rattle.std.proofs.lemmas.Int.{ints}
use Rattle.vd_space.specs.Validity.{protocols}
use Rattle.vd_cost_network_ascent.proofs.Passed.{all_among, beyond_by}
use Rattle.vd_cost_network_ascent.proofs.passing.is_beyond.Goals as goal

pub bound-requires-clause-prefix : goal.bound-requires-clause-prefix
bound-requires-clause-prefix c =
    all_among c.args.prefix.now (length c.as_slice.result.now) (length (protocols c.args.problem.now)) (ap length (c.as_slice.ensures ∙ c.requires.bound.list)) (sym c.are_among.ensures ∙ c.if-not-are_among.false)

pub returns : goal.returns
returns c = λ above. beyond_by c.args.problem.now c.args.shifts.now c.args.most c.args.prefix.now c.in_ok-least.least c.requires.bound.well_formed.holds c.in_ok-least.ensures (omega (arith, ints, above))
