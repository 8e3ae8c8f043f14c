use Rattle.std.proofs.Common.{length, ap₂, ◌∙◌, sym, subst}
use Rattle.vd_space.specs.Bounds.{side_of}
use Rattle.vd_space_tables.specs.declared.space_terms.sums.Rows.TheVariants.{Ends}
use Rattle.vd_space_tables.specs.Sums.{AreSmallSums, sums_of}
use Rattle.vd_space_tables.proofs.Placing.{slot_sums, sums_small}
use Rattle.vd_space_tables.proofs.space_terms.sums.slot_shifts.Goals as goal

pub returns-clause-sums : goal.returns-clause-sums
returns-clause-sums c =
    c.from_vec.ensures ∙ c.in_ok-shift_sums.ensures.sums
    ∙ ap₂ (λ uses slots. sums_of side_of uses Ends (length slots) c.args.places c.args.shifts.now) c.as_slice-uses.ensures c.as_slice-slots.ensures
    ∙ slot_sums c.args.problem.now c.args.shifts.now c.args.places

pub returns-clause-small : goal.returns-clause-small
returns-clause-small c = subst AreSmallSums (sym (c.from_vec.ensures ∙ c.in_ok-shift_sums.ensures.sums)) (sums_small side_of c.as_slice-uses.result.now Ends (length c.as_slice-slots.result.now) c.args.places c.args.shifts.now c.requires.few c.in_ok-shift_sums.ensures.small)
