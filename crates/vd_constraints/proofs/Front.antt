-- The lemmas that other crates cite.
pub use Rattle.vd_constraints.proofs.Kept.{more_checks, more_places, more_rules}
pub use Rattle.vd_constraints.proofs.Fits.{fit_declassify_rules, fit_endorse_checks, fit_endorse_rules, fit_flows, fit_input_checks, fit_input_rules, fit_output_checks, fit_output_rules, fit_written_checks, fit_written_rules}
pub use Rattle.vd_constraints.proofs.Sizes.{stmt_fits}
pub use Rattle.vd_constraints.proofs.Labellings.{names-check, names-rule, over-bound, over-label, over-part}
pub use Rattle.vd_constraints.proofs.Firsts.{all_or_first, first_once, first_without, has_it, item_has, not_all, one_more}
pub use Rattle.vd_constraints.proofs.InSight.{well_made_scoped}
pub use Rattle.vd_constraints.proofs.Growth.{Step}
pub use Rattle.vd_constraints.proofs.Few.{well_made_small}
