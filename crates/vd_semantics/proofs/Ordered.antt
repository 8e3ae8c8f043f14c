-- Comparisons follow the order of numbers.
use Rattle.std.proofs.Common.{ℕ, Bool, not, ap}
use Rattle.std.proofs.lemmas.Bool.{eq-eqb, le-ltb, lt-ltb, ne_eqb}
use Rattle.vd_base.specs.Operations.{truth_word}
use Rattle.vd_semantics.specs.Comparisons.{ComparisonsOrder}

abbrev not_word : Bool → ℕ
not_word b = truth_word (not b)

pub comparisons_order : ComparisonsOrder
comparisons_order = record {
  equal = record { one = λ x y is. ap truth_word (eq-eqb x y is); zero = λ x y is. ap truth_word (ne_eqb x y is) };
  not_equal = record { one = λ x y is. ap not_word (ne_eqb x y is); zero = λ x y is. ap not_word (eq-eqb x y is) };
  less = record { one = λ x y is. ap truth_word (lt-ltb x y is); zero = λ x y is. ap truth_word (le-ltb x y is) };
  less_equal = record { one = λ x y is. ap not_word (le-ltb y x is); zero = λ x y is. ap not_word (lt-ltb y x is) };
  greater = record { one = λ x y is. ap truth_word (lt-ltb y x is); zero = λ x y is. ap truth_word (le-ltb y x is) };
  greater_equal = record { one = λ x y is. ap not_word (le-ltb x y is); zero = λ x y is. ap not_word (lt-ltb x y is) };
}
