-- The lemmas that other crates cite.
pub use Rattle.vd_deal_needs.proofs.Greatest.{above, below}
pub use Rattle.vd_deal_needs.proofs.DealNeedsLawsTaken.{most}
pub use Rattle.vd_deal_needs.proofs.ReadOff.{read_off}
pub use Rattle.vd_deal_needs.proofs.Countable.{code_is, count_codes, of_can_run}
pub use Rattle.vd_deal_needs.proofs.Measured.{any_there, count_needs, counted, needs_at, taken}
pub use Rattle.vd_deal_needs.proofs.Enough.{sizes_are_enough, sizes_are_least}
pub use Rattle.vd_deal_needs.proofs.Made.{deals_have_their_sizes}
pub use Rattle.vd_deal_needs.proofs.Programs.{small_programs_can_be_dealt, within}
pub use Rattle.vd_deal_needs.proofs.Alone.{enough_alone}
pub use Rattle.vd_deal_needs.proofs.Strangers.{IsStranger, none_of_strangers}
