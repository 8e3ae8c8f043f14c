-- The files that the hosts are given.
use Rattle.std.proofs.Common.{◌≡◌, ◌<◌, ◌≤◌, ◌^◌, ℕ, zero, suc, All, List, [], ◌∷◌, length, replicate, Option, Some, None, slice_get, slice_index, slice_index_or, refl, sym, ap, subst, arith}
use Rattle.std.specs.List.{AllByRecursion}
use Rattle.std.proofs.lemmas.Option.{slice_get_within}
use Rattle.vd_base.specs.Limits.{most_deal_items}
use Rattle.vd_tape.specs.declared.deal_items.deal.Deal.{Deal}
use Rattle.vd_tape.specs.declared.deal_items.deal.DealKind.{DealKind}
use Rattle.vd_tape.specs.declared.deal_items.deal.DealKind.TheVariants.{Own, Mul, And, Pair}
use Rattle.vd_base.specs.Words.{IsWord, InputsAreWords}
use Rattle.vd_tape.specs.Validity.{ArePairWords, AreTripleWords, Meets}
use Rattle.vd_tape.specs.Text.{AreDealsOf, IsDealOf}
use Rattle.vd_backend_laws.specs.Whole.{inputs_of}
use Rattle.vd_world.specs.Supplies.{AreFiles}
use Rattle.vd_projection.specs.Stored.{IsDigest}
use Rattle.vd_distributed.specs.Instance.{deal_of, deals, inputs, plan}

-- ---- the digest

all_bytes : (n : ℕ) → AllByRecursion (λ b. b < 256) (replicate n 5)
all_bytes zero = tt
all_bytes (suc n) = (omega arith, all_bytes n)

pub digest : IsDigest plan
digest = (refl, all_bytes 32)

-- ---- the inputs

pub no_word : (i : ℕ) → slice_index [] i ≡ 0
no_word zero = refl
no_word (suc i) = refl

below : (k : ℕ) → k ≡ 0 → k < 2 ^ 32
below k is = omega (arith, is)

words : (h i : ℕ) → slice_index (inputs_of inputs h) i < 2 ^ 32
words zero zero = omega arith
words zero (suc i) = below (slice_index [] i) (no_word i)
words (suc zero) i = below (slice_index [] i) (no_word i)
words (suc (suc h)) i = below (slice_index [] i) (no_word i)

-- ---- the deals

none_of : {X : Type 0} (P : X → Type 0) (k : ℕ) (d : X) → k < 0 → P (slice_index_or [] k d)
none_of P k d lt = absurd (omega (arith, lt))

one_of : {X : Type 0} (P : X → Type 0) (x : X) → P x → (k : ℕ) (d : X) → k < 1 → P (slice_index_or (x ∷ []) k d)
one_of P x is zero d lt = is
one_of P x is (suc k) d lt = absurd (omega (arith, lt))

short : {X : Type 0} → All (λ (items : List X). length items ≤ most_deal_items) ([] ∷ [])
short = one_of (λ items. length items ≤ most_deal_items) [] (omega arith)

empty : {X : Type 0} (P : X → Type 0) → All (All P) ([] ∷ [])
empty P = one_of (All P) [] (none_of P)

dealt_to : (h : ℕ) → h < 2 → IsDealOf 2 h (deal_of h)
dealt_to h lt = record {
  is = record {
    few = omega arith;
    own_number = lt;
    own = omega arith;
    triples = refl;
    bits = refl;
    pairs = refl;
    triples_within = short;
    bits_within = short;
    pairs_within = short;
  };
  words = record { own = none_of IsWord; triples = empty AreTripleWords; bits = empty AreTripleWords; pairs = empty ArePairWords };
  hosts_are = refl;
  me_is = refl;
}

abbrev dealt : Option Deal → Deal
dealt None = deal_of 0
dealt (Some d) = d

deals_of : (h : ℕ) (d : Deal) → slice_get deals h ≡ Some d → IsDealOf 2 h d
deals_of zero d is = subst (IsDealOf 2 0) (ap dealt is) (dealt_to 0 (omega arith))
deals_of (suc zero) d is = subst (IsDealOf 2 1) (ap dealt is) (dealt_to 1 (omega arith))
deals_of (suc (suc h)) d is = absurd (let within : suc (suc h) < 2 = slice_get_within deals (suc (suc h)) d is in omega (arith, within))

meet : (kind : DealKind) (i : ℕ) → Meets (deal_of 0) (deal_of 1) kind i
meet Own i = refl
meet Mul zero = refl
meet Mul (suc i) = refl
meet And zero = refl
meet And (suc i) = refl
meet Pair zero = refl
meet Pair (suc i) = refl

consistent : (first second : ℕ) (p q : Deal) → first < second → slice_get deals first ≡ Some p → slice_get deals second ≡ Some q → (kind : DealKind) (i : ℕ) → Meets p q kind i
consistent zero zero p q lt ep eq kind i = absurd (omega (arith, lt))
consistent zero (suc zero) p q lt ep eq kind i = subst (λ (x : Deal). Meets x q kind i) (ap dealt ep) (subst (λ (y : Deal). Meets (deal_of 0) y kind i) (ap dealt eq) (meet kind i))
consistent zero (suc (suc s)) p q lt ep eq kind i = absurd (let within : suc (suc s) < 2 = slice_get_within deals (suc (suc s)) q eq in omega (arith, within))
consistent (suc f) s p q lt ep eq kind i = absurd (let within : s < 2 = slice_get_within deals s q eq in omega (arith, within, lt))

pub files : AreFiles inputs deals
files = record { words = words; few = omega arith; dealt = deals_of; consistent = consistent }
