-- The lemmas that other crates cite.
pub use Rattle.vd_bound.proofs.Yes.{sound_is_yes, yes_is_sound}
pub use Rattle.vd_bound.proofs.Answered.{checked_proves}
pub use Rattle.vd_bound.proofs.Unbounded.{proves_also, same_checked, sound_also}
