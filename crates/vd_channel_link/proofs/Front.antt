-- The lemmas that other crates cite.
pub use Rattle.vd_channel_link.proofs.Sealed.{seals_none}
