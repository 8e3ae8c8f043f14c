-- The lemmas that other crates cite.
pub use Rattle.vd_host_session.proofs.Asking.{in_order}
pub use Rattle.vd_host_session.proofs.Causes.{causes}
pub use Rattle.vd_host_session.proofs.ComingBack.{all_four, count_at, links_come_back, one_at}
pub use Rattle.vd_host_session.proofs.Limits.{limit_stays}
pub use Rattle.vd_host_session.proofs.Numbers.{earlier_number, later_number, less_or_least, number_apart, numbers_differ}
