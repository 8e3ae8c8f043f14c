-- Registers that two hosts take, and two parts.
use Rattle.std.proofs.Common.{ℕ, zero, suc, ◌+◌, ◌<◌, ◌≤◌, List, [], ◌∷◌, map, slice_index, arith}
use Rattle.vd_base.specs.declared.ids.HostId.{HostId}
use Rattle.vd_duet.specs.Builder.{taken}
use Rattle.vd_duet.specs.Calls.{Places, Made}
use Rattle.vd_duet.specs.Laws.{Each}
use Rattle.vd_backend_sharing.specs.declared.shares.PartRegisters.{PartRegisters}
use Rattle.vd_backend_sharing.specs.PairCalls.{shares_of, operand, at_hosts}
use Rattle.vd_projection.specs.Fits.{IsLow, GadgetFits, PlacesFit, PartsFit, WordMade}
use Rattle.vd_projection.proofs.Bounds.{low_more, taken_low}

-- ---- fresh registers

pub both_low : (a b : HostId) (i j m n : ℕ) (next : List ℕ) → IsLow m next → m + (i + j) ≤ n → IsLow n (taken b j (taken a i next))
both_low a b i j m n next low le = low_more (m + i + j) n (taken b j (taken a i next)) (omega (arith, le)) (taken_low b j (m + i) (taken a i next) (taken_low a i m next low))

-- those of the first host begin at most at m, and those of the second at most where the first ended
pub starts : (a b : HostId) (m n i j : ℕ) (next : List ℕ) → IsLow m next → m + (i + j) ≤ n → (slice_index next a.0 + (i + j) ≤ n) × (slice_index (taken a i next) b.0 + j ≤ n)
starts a b m n i j next low le = (let p = low a.0 in omega (arith, p, le), let q = taken_low a i m next low b.0 in omega (arith, q, le))

-- ---- two parts

-- their registers are at most a number
abbrev pub SharesFit : ℕ → PartRegisters → Type 0
SharesFit n x = (x.first.0 ≤ n) × (x.second.0 ≤ n)

pub shares_more : (m n : ℕ) (x : PartRegisters) → m ≤ n → SharesFit m x → SharesFit n x
shares_more m n x le f = (let p = f.0 in omega (arith, p, le), let q = f.1 in omega (arith, q, le))

pub shares_fit : (hosts m : ℕ) (x : Places) → PlacesFit hosts 0 m x → SharesFit m (shares_of x)
shares_fit hosts m [] f = (omega arith, omega arith)
shares_fit hosts m (p ∷ []) f = (omega arith, omega arith)
shares_fit hosts m (p ∷ q ∷ x) f = (let z = f.0.1 in omega (arith, z), let z = f.1.0.1 in omega (arith, z))

pub operand_fits : (hosts m : ℕ) (xs : List Places) (i : ℕ) → Each (PartsFit hosts 0 m) xs → SharesFit m (operand xs i)
operand_fits hosts m [] i f = (omega arith, omega arith)
operand_fits hosts m (x ∷ xs) zero f = shares_fit hosts m x f.0.at
operand_fits hosts m (x ∷ xs) (suc i) f = operand_fits hosts m xs i f.1

pub operands_fit : (hosts m : ℕ) (xs : List Places) → Each (PartsFit hosts 0 m) xs → Each (SharesFit m) (map shares_of xs)
operands_fit hosts m [] f = tt
operands_fit hosts m (x ∷ xs) f = (shares_fit hosts m x f.0.at, operands_fit hosts m xs f.1)

module _ (hosts N : ℕ) where
  pub record SharesMade (n : ℕ) (made : Made PartRegisters) : Type 0 where
    pub low : IsLow n made.next
    pub given : SharesFit n made.given
    pub gadgets : Each (GadgetFits hosts N) made.gadgets

  -- two parts as the parts of a word
  pub shared_word : (a b : HostId) → a.0 < hosts → b.0 < hosts → (k n : ℕ) (made : Made PartRegisters) → k < n → SharesMade k made → WordMade hosts N n (at_hosts a b made)
  shared_word a b here there k n made lt f =
      let p = f.given.0 in
      let q = f.given.1 in
      record {
        low = low_more k n made.next (omega (arith, lt)) f.low;
        given = record { few = omega arith; at = ((here, omega (arith, p, lt)), ((there, omega (arith, q, lt)), tt)) };
        gadgets = f.gadgets;
      }
