-- The lemmas that other crates cite.
pub use Rattle.vd_convert.proofs.ToXor.{to_xor_gives}
pub use Rattle.vd_convert.proofs.ToAdd.{to_add_gives}
pub use Rattle.vd_convert.proofs.ConvertActs.{conversions_act}
