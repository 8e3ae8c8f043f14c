-- The lemmas that other crates cite.
pub use Rattle.vd_cmd_draw.proofs.Sure.{draw_follows}
pub use Rattle.vd_cmd_draw.proofs.Telling.{drawings_tell}
pub use Rattle.vd_cmd_draw.proofs.RevealsSure.{reveals_follows}
pub use Rattle.vd_cmd_draw.proofs.RevealsTold.{reveals_told}
