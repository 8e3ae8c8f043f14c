-- A store, which has a default wherever nothing was written.
use Rattle.std.specs.Prelude.{ℕ, zero, suc, List, [], ◌∷◌}

-- a word or list is written at a place; up to there the default stands
abbrev pub put : {A : Type 0} → A → List A → ℕ → A → List A
put d [] zero y = y ∷ []
put d [] (suc at) y = d ∷ put d [] at y
put d (x ∷ xs) zero y = y ∷ xs
put d (x ∷ xs) (suc at) y = x ∷ put d xs at y
