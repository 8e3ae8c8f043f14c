-- The lemmas that other crates cite.
pub use Rattle.vd_formula.proofs.Tables.{all_sets_from, at-formula_where, at_each_set, is_formula-any, is_formula-both, is_formula-either, subset-le, subset-refl}
pub use Rattle.vd_formula.proofs.Implies.{antisymmetric, if_so, is_formula-implies, then_so}
pub use Rattle.vd_formula.proofs.Acting.{acts_for_any, acts_for_both, acts_or_not, acts_refl, acts_trans, both_first, both_less, both_second, either_grows, implies_grows, names-any, names-both}
pub use Rattle.vd_formula.proofs.FormSteps.{same_formula}
pub use Rattle.vd_formula.proofs.Antichains.{range_more}
pub use Rattle.vd_formula.proofs.Grown.{is_formula-of}
