-- Packets whose words stand in one list.
use Rattle.std.specs.Prelude.{◌≡◌, ℕ, zero, suc, slice_index, ◌-◌, ◌≤◌, List, [], ◌∷◌, Option, Some, None, take, drop}
use Rattle.std.specs.Borrow.{Bor}

-- the packets that end at these places, of which the first begins at `start`
abbrev pub cut : (start : ℕ) → List ℕ → List ℕ → List (List ℕ)
cut start [] words = []
cut start (end ∷ ends) words = take (end - start) (drop start words) ∷ cut end ends words

-- the ends go up from `start`, and the last one is the end of all words
abbrev pub Rises : (start : ℕ) → List ℕ → (all : ℕ) → Type 0
Rises start [] all = start ≡ all
Rises start (end ∷ ends) all = (start ≤ end) × Rises end ends all

-- where the packet at a place begins
abbrev pub begin : (start : ℕ) → List ℕ → (place : ℕ) → ℕ
begin start ends zero = start
begin start ends (suc i) = slice_index ends i

-- borrowed words are this packet, where there is one
abbrev pub IsPlace : Option (Bor (List ℕ)) → Option (List ℕ) → Type 0
IsPlace None o = o ≡ None
IsPlace (Some v) o = o ≡ Some v.now
