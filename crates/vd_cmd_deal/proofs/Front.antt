-- The lemmas that other crates cite.
pub use Rattle.vd_cmd_deal.proofs.ReadBack.{are_secrets}
