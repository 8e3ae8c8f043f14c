-- The lemmas that other crates cite.
pub use Rattle.vd_backend_sharing.proofs.Adds.{Adds, adds_on, do_adds_one, msg_adds, msg_cursors, put_adds}
pub use Rattle.vd_backend_sharing.proofs.Deeds.{Applied, BothGive, Deed, Drawn, First, New, Number, Old, Opened, Second, ShiftedLeft, ShiftedRight, Side, nothing_left, own_word, pair_word}
pub use Rattle.vd_backend_sharing.proofs.Runs.{both_first, both_second, low_of}
pub use Rattle.vd_backend_sharing.proofs.Fresh.{fresh_gives, one_gives, pair_at}
pub use Rattle.vd_backend_sharing.proofs.Parts.{Parts, both_known, first_operand, parts_named, parts_of, second_operand, stands_by}
pub use Rattle.vd_backend_sharing.proofs.PairLaws.{pair_laws}
pub use Rattle.vd_backend_sharing.proofs.PairActs.{applied_acts, numbered_acts, pair_acts, product_acts}
pub use Rattle.vd_backend_sharing.proofs.Operations.{ItemsMultiply, applied_gives, numbered_gives, product_gives}
pub use Rattle.vd_backend_sharing.proofs.Rooms.{both_few}
pub use Rattle.vd_backend_sharing.proofs.Chains.{gives_then, parts_later}
pub use Rattle.vd_backend_sharing.proofs.Gates.{few, gates_compute, in_order}
pub use Rattle.vd_backend_sharing.proofs.BackendAlgebraParts.{mask_each, put_on, scale_each, shl_each, shr_each, taken_off, xor_past, xor_turn}
pub use Rattle.vd_backend_sharing.proofs.BitProducts.{bit_product}
pub use Rattle.vd_backend_sharing.proofs.WordProducts.{word_product}
