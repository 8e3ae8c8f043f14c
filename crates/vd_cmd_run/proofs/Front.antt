-- The lemmas that other crates cite.
pub use Rattle.vd_cmd_run.proofs.Holding.{complete, held_once, reports}
