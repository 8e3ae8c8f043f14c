-- The lemmas that other crates cite.
pub use Rattle.vd_source_lexer.proofs.Pieces.{piece_within}
pub use Rattle.vd_source_lexer.proofs.TokenLaws.{lexes_once}
pub use Rattle.vd_source_lexer.proofs.TokenFacts.{ends_once, tokens_spelled}
pub use Rattle.vd_source_lexer.proofs.OneTree.{makes_derives}
pub use Rattle.vd_source_lexer.proofs.Extra.{absent, starts_absent}
pub use Rattle.vd_source_lexer.proofs.Readings.{begin, collects_end, collects_first, collects_more, collects_stop, into_left, into_right, into_sym, last, last_none, last_read, next, next_open, next_read, read_left_out, read_tok, stop_first, stop_here, stop_open, stops_tok}
pub use Rattle.vd_source_lexer.proofs.Factor.{b-under, begins_to, derives_to, under}
pub use Rattle.vd_source_lexer.proofs.Lawful.{exact, fronts, only_tree, texts_trees}
