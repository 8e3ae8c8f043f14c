-- The lemmas that other crates cite.
pub use Rattle.vd_commit.proofs.Rows.{IsRow, digest_count, eight_row, hash_adds, said_from, said_row, tell_adds, words_alike, words_are}
pub use Rattle.vd_commit.proofs.Binds.{binds}
pub use Rattle.vd_commit.proofs.Reveals.{reveals}
pub use Rattle.vd_commit.proofs.CommitActs.{commitments_act}
