-- The lemmas that other crates cite.
pub use Rattle.vd_cmd_host.proofs.Marked.{used_once}
pub use Rattle.vd_cmd_host.proofs.Sealing.{are_sealed}
pub use Rattle.vd_cmd_host.proofs.Serving.{plain_served, served}
