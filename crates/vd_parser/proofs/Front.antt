-- The lemmas that other crates cite.
pub use Rattle.vd_parser.proofs.Ready.{E, F, language_ll1}
pub use Rattle.vd_parser.proofs.Scan.{deep_here, deep_none, deep_step, first_deep, is_too_deep, none_deep, scan_none}
unfoldable pub use Rattle.vd_parser.proofs.Scan.{first_deep_from}
pub use Rattle.vd_parser.proofs.Outcomes.{get_at, kinds-append, no_end, take_at}
pub use Rattle.vd_parser.proofs.OutcomeLaws.{begins_less, parses_once, take_front}
pub use Rattle.vd_parser.proofs.OutcomeTotal.{parses_somehow}
pub use Rattle.vd_parser.proofs.Named.{names_are_names}
