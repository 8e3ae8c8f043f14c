-- The lemmas that other crates cite.
pub use Rattle.vd_tape.proofs.ShareLoop.{shares_of}
pub use Rattle.vd_tape.proofs.ItemsExact.{FitsList}
pub use Rattle.vd_tape.proofs.SharesExact.{FitsShare, FitsShares, empty_shares, first_share, head_fits, heading_exact, nil_of, none_fits, own_exact, share_exact, share_of, tail_fits, text_of, with_one}
pub use Rattle.vd_tape.proofs.DealExact.{Fit, deal_exact, fit, fit_made, is_deal_of}
pub use Rattle.vd_tape.proofs.SharesWritten.{at_place, from_place}
pub use Rattle.vd_tape.proofs.Drawn.{next_of}
pub use Rattle.vd_tape.proofs.MadeValid.{consistent_if_keyed, consistent_if_made, valid_if_keyed, valid_if_made}
pub use Rattle.vd_tape.proofs.MadeWords.{all_first, count_of_deals, count_of_keyed, deals_of, keyed_of}
pub use Rattle.vd_tape.proofs.EachHost.{all_deals, more_deals}
