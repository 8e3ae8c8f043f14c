-- The lemmas that other crates cite.
pub use Rattle.vd_cmd_laws.proofs.Plans.{answered, check_came, ends_as, file_came}
pub use Rattle.vd_cmd_laws.proofs.Sources.{made_of, read_came}
pub use Rattle.vd_cmd_laws.proofs.Labels.{labels_tell}
pub use Rattle.vd_cmd_laws.proofs.Proofs.{proofs_tell}
pub use Rattle.vd_cmd_laws.proofs.Choices.{choices_tell, source_choice_came}
pub use Rattle.vd_cmd_laws.proofs.Compiled.{compiled_tell}
pub use Rattle.vd_cmd_laws.proofs.Endings.{answered as ending_answered, ended, never, printed, stand}
pub use Rattle.vd_cmd_laws.proofs.Holding.{programs_held}
pub use Rattle.vd_cmd_laws.proofs.KeyedTaken.{keyed_deals_tell}
pub use Rattle.vd_cmd_laws.proofs.Taken.{deals_tell}
