-- Comparisons of the source, by the order of numbers.
use Rattle.std.specs.Prelude.{◌≡◌, ◌≢◌, ◌<◌, ◌≤◌, ℕ}
use Rattle.vd_core.specs.declared.source.Infix.{Infix}
use Rattle.vd_core.specs.declared.source.Infix.TheVariants.{Equal, NotEqual, Less, LessEqual, Greater, GreaterEqual}
use Rattle.vd_semantics.specs.SourceMeaning.{infix_word}

-- an operation is 1 where this holds of its two words, and 0 where that does
pub record Decides (operation : Infix) (holds fails : ℕ → ℕ → Type 0) : Type 0 where
  pub one : (x y : ℕ) → holds x y → infix_word operation x y ≡ 1
  pub zero : (x y : ℕ) → fails x y → infix_word operation x y ≡ 0

pub record ComparisonsOrder : Type 0 where
  pub equal : Decides Equal (λ x y. x ≡ y) (λ x y. x ≢ y)
  pub not_equal : Decides NotEqual (λ x y. x ≢ y) (λ x y. x ≡ y)
  pub less : Decides Less (λ x y. x < y) (λ x y. y ≤ x)
  pub less_equal : Decides LessEqual (λ x y. x ≤ y) (λ x y. y < x)
  pub greater : Decides Greater (λ x y. y < x) (λ x y. x ≤ y)
  pub greater_equal : Decides GreaterEqual (λ x y. y ≤ x) (λ x y. x < y)
