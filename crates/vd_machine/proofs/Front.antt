-- The lemmas that other crates cite.
pub use Rattle.vd_machine.proofs.Items.{get_there}
pub use Rattle.vd_machine.proofs.Weights.{not_ended, step_falls}
pub use Rattle.vd_machine.proofs.Running.{met_alone, quietly_falls}
pub use Rattle.vd_machine.proofs.Wanted.{acts_alone, wants_words}
