-- The lemmas that other crates cite.
pub use Rattle.vd_cmd_plan.proofs.Fronts.{all_within, front_within, later_within, more_within, same_within}
pub use Rattle.vd_cmd_plan.proofs.Steps.{computes}
pub use Rattle.vd_cmd_plan.proofs.InSteps.{answers, any_memory, both_steps, check_step, first_step, load_step}
pub use Rattle.vd_cmd_plan.proofs.Written.{says}
pub use Rattle.vd_cmd_plan.proofs.WholeRuns.{runs_err}
pub use Rattle.vd_cmd_plan.proofs.Numbering.{numbered_more}
pub use Rattle.vd_cmd_plan.proofs.Following.{Follows, check_follows, completes, file_follows}
pub use Rattle.vd_cmd_plan.proofs.Finding.{loaded_is, step_keeps, step_tells}
pub use Rattle.vd_cmd_plan.proofs.Existing.{some_programs}
pub use Rattle.vd_cmd_plan.proofs.Numerals.{AreDigits, decimal_model, digit_high, digit_low}
