-- The lemmas that other crates cite.
pub use Rattle.vd_draw_rows.proofs.Sums.{add_up}
