-- The lemmas that other crates cite.
pub use Rattle.vd_cmd_replay.proofs.Accepting.{ends_well}
pub use Rattle.vd_cmd_replay.proofs.Sure.{replay_follows}
