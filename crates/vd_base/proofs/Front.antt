-- The lemmas that other crates cite.
pub use Rattle.vd_base.proofs.LexicalLemmas.{fold_ge, value_more}
pub use Rattle.vd_base.proofs.Same.{same_is}
pub use Rattle.vd_base.proofs.Members.{few_members}
pub use Rattle.vd_base.proofs.Holding.{copies_have, few_holders, holder_is_listed}
pub use Rattle.vd_base.proofs.EntriesByName.{at_append, changed_none}
