-- The circuit of each operation computes it.
use Rattle.std.proofs.Common.{◌≡◌, ℕ, ◌*◌, ◌%◌, ◌^◌, Bool, nat_eq, nat_lt, not, if◌then◌else◌, List, [], ◌∷◌, slice_index, refl, sym, subst, arith, bit_and, bit_xor, lit<}
use Rattle.std.proofs.Math.Nat.{mod-lt}
use Rattle.std.specs.Int.Bits.{and_lt}
use Rattle.std.proofs.lemmas.Nat.{or_lt, xor_lt, shr_le}
use Rattle.vd_base.specs.declared.operations.Op.{Op}
use Rattle.vd_base.specs.declared.operations.Op.TheVariants as op
use Rattle.vd_base.specs.Words.{IsWord}
use Rattle.vd_backend_sharing.specs.Circuits.{shl, shr, not_of, flip_of, or_of, add_of, sub_of, lt_of, le_of, eq_of, ne_of, mux_of, min_of, max_of}
use Rattle.vd_backend_sharing.specs.Computing.{IsResult, circuit, HasCircuit, AreWords}
use Rattle.vd_backend_sharing.proofs.Bits.{not_word, not_is, or_is}
use Rattle.vd_backend_sharing.proofs.Sums.{add_word, add_is, sub_word, sub_is}
use Rattle.vd_backend_sharing.proofs.Comparisons.{truth_is_word, lt_is, le_is, eq_is, ne_is}
use Rattle.vd_backend_sharing.proofs.Choices.{mux_is, min_is, max_is}

-- what is equal to a word is a word
word : {x y : ℕ} → x ≡ y → IsWord y → (x ≡ y) × IsWord x
word {x} {y} e h = (e, subst (λ (z : ℕ). IsWord z) (sym e) h)

one_of : (b : Bool) (x y : ℕ) → IsWord x → IsWord y → IsWord (if b then x else y)
one_of b x y hx hy = grind arith

module _ (x y : ℕ) (hx : IsWord x) (hy : IsWord y) where
  pub add_computes : IsResult op.Add (x ∷ y ∷ []) (add_of x y)
  add_computes = (add_is x y hx hy, add_word x y hx hy)

  pub sub_computes : IsResult op.Sub (x ∷ y ∷ []) (sub_of x y)
  sub_computes = (sub_is x y hx hy, sub_word x y hx hy)

  pub and_computes : IsResult op.And (x ∷ y ∷ []) (bit_and x y)
  and_computes = (refl, and_lt 32 x y hx hy)

  pub or_computes : IsResult op.Or (x ∷ y ∷ []) (or_of x y)
  or_computes = word (or_is x y) (or_lt 32 x y hx hy)

  pub xor_computes : IsResult op.Xor (x ∷ y ∷ []) (bit_xor x y)
  xor_computes = (refl, xor_lt 32 x y hx hy)

  pub eq_computes : IsResult op.Eq (x ∷ y ∷ []) (eq_of x y)
  eq_computes = word (eq_is x y hx hy) (truth_is_word (nat_eq x y))

  pub ne_computes : IsResult op.Ne (x ∷ y ∷ []) (ne_of x y)
  ne_computes = word (ne_is x y hx hy) (truth_is_word (not (nat_eq x y)))

  pub lt_computes : IsResult op.Lt (x ∷ y ∷ []) (lt_of x y)
  lt_computes = word (lt_is x y hx hy) (truth_is_word (nat_lt x y))

  pub le_computes : IsResult op.Le (x ∷ y ∷ []) (le_of x y)
  le_computes = word (le_is x y hx hy) (truth_is_word (not (nat_lt y x)))

  pub min_computes : IsResult op.Min (x ∷ y ∷ []) (min_of x y)
  min_computes = word (min_is x y hx hy) (omega arith)

  pub max_computes : IsResult op.Max (x ∷ y ∷ []) (max_of x y)
  max_computes = word (max_is x y hx hy) (omega arith)

pub not_computes : (x : ℕ) → IsWord x → IsResult op.Not (x ∷ []) (not_of x)
not_computes x h = (not_is x h, not_word x h)

pub flip_computes : (x : ℕ) → IsWord x → IsResult op.Flip (x ∷ []) (flip_of x)
flip_computes x h = (refl, xor_lt 32 x 1 h (lit< tt))

pub shl_computes : (amount x : ℕ) → IsResult (op.Shl amount) (x ∷ []) (shl x amount)
shl_computes amount x = (refl, mod-lt (x * 2 ^ amount) (lit< tt))

pub shr_computes : (amount x : ℕ) → IsWord x → IsResult (op.Shr amount) (x ∷ []) (shr x amount)
shr_computes amount x h = (refl, omega (arith, shr_le x amount))

pub mux_computes : (c x y : ℕ) → IsWord x → IsWord y → IsResult op.Mux (c ∷ x ∷ y ∷ []) (mux_of c x y)
mux_computes c x y hx hy = word (mux_is c x y hx hy) (one_of (nat_eq (c % 2) 1) x y hx hy)

pub computes : (o : Op) (xs : List ℕ) → HasCircuit o → AreWords xs → IsResult o xs (circuit o xs)
computes op.Add xs h w = add_computes (slice_index xs 0) (slice_index xs 1) (w 0) (w 1)
computes op.Sub xs h w = sub_computes (slice_index xs 0) (slice_index xs 1) (w 0) (w 1)
computes op.And xs h w = and_computes (slice_index xs 0) (slice_index xs 1) (w 0) (w 1)
computes op.Or xs h w = or_computes (slice_index xs 0) (slice_index xs 1) (w 0) (w 1)
computes op.Xor xs h w = xor_computes (slice_index xs 0) (slice_index xs 1) (w 0) (w 1)
computes op.Not xs h w = not_computes (slice_index xs 0) (w 0)
computes op.Flip xs h w = flip_computes (slice_index xs 0) (w 0)
computes (op.Shl amount) xs h w = shl_computes amount (slice_index xs 0)
computes (op.Shr amount) xs h w = shr_computes amount (slice_index xs 0) (w 0)
computes op.Eq xs h w = eq_computes (slice_index xs 0) (slice_index xs 1) (w 0) (w 1)
computes op.Ne xs h w = ne_computes (slice_index xs 0) (slice_index xs 1) (w 0) (w 1)
computes op.Lt xs h w = lt_computes (slice_index xs 0) (slice_index xs 1) (w 0) (w 1)
computes op.Le xs h w = le_computes (slice_index xs 0) (slice_index xs 1) (w 0) (w 1)
computes op.Min xs h w = min_computes (slice_index xs 0) (slice_index xs 1) (w 0) (w 1)
computes op.Max xs h w = max_computes (slice_index xs 0) (slice_index xs 1) (w 0) (w 1)
computes op.Mux xs h w = mux_computes (slice_index xs 0) (slice_index xs 1) (slice_index xs 2) (w 1) (w 2)
computes op.Mul xs h w = cc
computes (op.Scale factor) xs h w = cc
computes op.Div xs h w = cc
computes op.Rem xs h w = cc
