-- The lemmas that other crates cite.
pub use Rattle.vd_rounds.proofs.TallyRuns.{hosts_tell_within, schedules_tell_within}
