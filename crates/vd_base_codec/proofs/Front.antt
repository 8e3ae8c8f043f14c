-- The lemmas that other crates cite.
pub use Rattle.vd_base_codec.proofs.Parts.{AreEach, Picks, bind_assoc, break_each, byte_exact, done_exact, each_exact, exact_as, exact_for, first_append, head_or, later, literal_exact, same_cons, stopped_first, tail, then_exact}
pub use Rattle.vd_base_codec.proofs.Numbers.{AtMost, field_exact}
pub use Rattle.vd_base_codec.proofs.Whole.{left_within, stops_single, whole_exact}
pub use Rattle.vd_base_codec.proofs.Loops.{all_items, next_item, no_item, with_front}
pub use Rattle.vd_base_codec.proofs.Exact.{key_exact, some_key}
pub use Rattle.vd_base_codec.proofs.Outcomes.{exact_follows, file_accepts, file_is, file_refuses}
