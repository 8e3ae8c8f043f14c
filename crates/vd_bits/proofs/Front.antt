-- The lemmas that other crates cite.
pub use Rattle.vd_bits.proofs.Lists.{circuit_short, gates_append, more, on, three_pieces}
pub use Rattle.vd_bits.proofs.BitLaws.{circuit_gives_few, circuit_laws, gives_wider}
pub use Rattle.vd_bits.proofs.BitActs.{circuit_acts, computed_acts}
