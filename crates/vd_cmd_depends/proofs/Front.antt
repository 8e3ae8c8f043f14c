-- The lemmas that other crates cite.
pub use Rattle.vd_cmd_depends.proofs.Existing.{some_dependences, some_influences}
pub use Rattle.vd_cmd_depends.proofs.Naming.{named, within}
