-- The lemmas that other crates cite.
pub use Rattle.vd_cmd_trial.proofs.Sure.{trial_follows}
