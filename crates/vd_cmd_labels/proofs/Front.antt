-- The lemmas that other crates cite.
pub use Rattle.vd_cmd_labels.proofs.Reading.{parsed, some_labels, some_texts}
pub use Rattle.vd_cmd_labels.proofs.Labelled.{labelled, solution_is, solution_of}
pub use Rattle.vd_cmd_labels.proofs.HeldTexts.{meets}
pub use Rattle.vd_cmd_labels.proofs.Systems.{program_system}
