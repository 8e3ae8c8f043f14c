-- The lemmas that other crates cite.
pub use Rattle.vd_cmd_choice.proofs.Certificates.{some_certificates}
pub use Rattle.vd_cmd_choice.proofs.ReadPrograms.{tree_refused}
pub use Rattle.vd_cmd_choice.proofs.Steps.{GoesByChoice, assigned_computes, choice_follows, choice_is, choice_refused, choice_which, none_computes, source_choice_refused, source_refused, source_then, text_choice_refused, text_refused, text_then, which_is}
pub use Rattle.vd_cmd_choice.proofs.Sure.{program_follows, source_choice_follows, text_choice_follows}
