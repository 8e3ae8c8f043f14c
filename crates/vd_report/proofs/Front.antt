-- The lemmas that other crates cite.
pub use Rattle.vd_report.proofs.ScheduleFaults.{schedules_follow}
pub use Rattle.vd_report.proofs.InputsFaults.{follows_grammar}
pub use Rattle.vd_report.proofs.LineWords.{AreRead, IsText, both_read, name_text, number_numeral, number_text, number_value, one_read, word_read}
pub use Rattle.vd_report.proofs.LinksRead.{link_read}
pub use Rattle.vd_report.proofs.SectionsRead.{sections_read}
