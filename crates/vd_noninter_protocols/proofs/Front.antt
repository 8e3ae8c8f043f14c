-- The lemmas that other crates cite.
pub use Rattle.vd_noninter_protocols.proofs.Slots.{label_of_slot, of_host, stand_at}
pub use Rattle.vd_noninter_protocols.proofs.Theorem.{all_hear_reached, all_hear_readable}
pub use Rattle.vd_noninter_protocols.proofs.Assigned.{words_guarded}
pub use Rattle.vd_noninter_protocols.proofs.Differences.{differs_exactly}
pub use Rattle.vd_noninter_protocols.proofs.Hosts.{kept_at, same_turned}
pub use Rattle.vd_noninter_protocols.proofs.InClear.{in_clear}
pub use Rattle.vd_noninter_protocols.proofs.Takers.{below, part_is, runs_each}
pub use Rattle.vd_noninter_protocols.proofs.NewWords.{new_words_tell}
