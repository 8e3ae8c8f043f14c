-- The lemmas that other crates cite.
pub use Rattle.vd_duet.proofs.Found.{Found, Holds, differ_of, equal_of, found}
pub use Rattle.vd_duet.proofs.Writes.{Writes, writes_heard, writes_own, wrote}
pub use Rattle.vd_duet.proofs.Leads.{Since, agree_append, below_later, emitted_append, gadgets_append, leads_nothing, leads_on, leads_writing, orderly_fresh, orderly_on, orderly_still, orderly_wider, run_append, since_on, since_start, taken_bounds, taken_known, taken_other, taken_there, tidy_append}
