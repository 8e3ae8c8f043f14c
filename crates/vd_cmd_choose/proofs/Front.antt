-- The lemmas that other crates cite.
pub use Rattle.vd_cmd_choose.proofs.Sure.{choose_follows}
pub use Rattle.vd_cmd_choose.proofs.Sizes.{short_source}
pub use Rattle.vd_cmd_choose.proofs.Read.{executed_of, is_read}
