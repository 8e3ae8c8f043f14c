-- The lemmas that other crates cite.
pub use Rattle.vd_host_children.proofs.Asked.{run_asks}
pub use Rattle.vd_host_children.proofs.Counted.{run_causes}
pub use Rattle.vd_host_children.proofs.Told.{run_told}
pub use Rattle.vd_host_children.proofs.Waiting.{HostsAreNext, IsOutside, run_well}
