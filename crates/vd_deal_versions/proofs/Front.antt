-- The lemmas that other crates cite.
pub use Rattle.vd_deal_versions.proofs.DealtExact.{follow_grammar, written_is_read}
pub use Rattle.vd_deal_versions.proofs.PlainExact.{plain_follow}
pub use Rattle.vd_deal_versions.proofs.LastLine.{digits_tell, sum_long}
