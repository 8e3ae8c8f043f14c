-- The places of a list that pass a test, one more at a time.
use Rattle.std.proofs.Common.{◌≡◌, ℕ, ◌+◌, Bool, [], ◌∷◌, ◌++◌, cond, ap, ◌∙◌, filter, arith}
use Rattle.std.specs.List.{range_with_len}
use Rattle.std.proofs.lemmas.List.Elements.{filter-append}
use Rattle.vd_formula.proofs.Front.{range_more}

pub filter_range_more : (test : ℕ → Bool) (n : ℕ) → filter test (range_with_len 0 (n + 1)) ≡ filter test (range_with_len 0 n) ++ cond (test n) (n ∷ []) []
filter_range_more test n = ap (filter test) (range_more 0 n n (omega arith)) ∙ filter-append test (range_with_len 0 n) (n ∷ [])
