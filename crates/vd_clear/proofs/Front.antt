-- The lemmas that other crates cite.
pub use Rattle.vd_clear.proofs.Loops.{behind, behind_end, each_hosts, each_step}
pub use Rattle.vd_clear.proofs.HostLaws.{written_there}
pub use Rattle.vd_clear.proofs.ClearLaws.{clear_laws, copies_of, spread_law}
pub use Rattle.vd_clear.proofs.ClearActs.{clear_acts, each_acts, spread_acts}
