-- The lemmas that other crates cite.
pub use Rattle.vd_cmd_rewrite.proofs.Made.{run_form_is, run_once, run_well_made}
