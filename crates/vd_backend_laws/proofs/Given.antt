-- Protocols and deals that can always be had.
use Rattle.std.proofs.Common.{◌≡◌, ℕ, zero, suc, ◌<◌, ◌≤◌, nat_lt, ◌&&◌, Bool, true, false, List, [], ◌∷◌, inl, length, slice_index, refl, arith}
use Rattle.std.specs.List.{All, list_all}
use Rattle.std.proofs.lemmas.Bool.Decides.{nat_tests}
use Rattle.vd_base.specs.declared.ids.HostId.{HostId}
use Rattle.vd_base.specs.declared.protocols.Proto.{Proto}
use Rattle.vd_base.specs.Protocols.{protocols_of}
use Rattle.vd_base.specs.Holders.{holders}
use Rattle.vd_execution.specs.Registers.{nth}
use Rattle.vd_execution.specs.Step.{Source, Inputs, OwnWords, Triples, BitTriples, Pairs}
use Rattle.vd_execution.specs.World.{zeros_of}
use Rattle.vd_base.specs.Words.{IsWord}
use Rattle.vd_duet.specs.Laws.{Each, IsHost}
use Rattle.vd_split.proofs.Front.{and_left, and_right}
use Rattle.vd_backend_laws.specs.Suite.{is_in_order, IsOver}
use Rattle.vd_backend_laws.specs.Given.{ListedProtocolsAreOver, item_with, ZeroDealsAreValid}

-- ---- protocols

abbrev has_some : List HostId → Bool
has_some [] = false
has_some (h ∷ hs) = true

abbrev all_below : ℕ → List HostId → Bool
all_below n hs = list_all (λ h. nat_lt h.0 n) hs

abbrev is_over : ℕ → Proto → Bool
is_over n p = (has_some (holders p) && all_below n (holders p)) && is_in_order p

lt_of : (a b : ℕ) → nat_lt a b ≡ true → a < b
lt_of a b h = grind (arith, nat_tests)

some_host : (hs : List HostId) → has_some hs ≡ true → (h : ℕ) × IsHost hs h
some_host [] e = absurd (wrong e)
  where
    wrong : false ≡ true → ⊥
    wrong e = cc
some_host (h ∷ hs) e = (h.0, inl refl)

each_below : (n : ℕ) (hs : List HostId) → all_below n hs ≡ true → Each (λ h. h.0 < n) hs
each_below n [] e = tt
each_below n (h ∷ hs) e = (lt_of h.0 n (and_left (nat_lt h.0 n) (all_below n hs) e), each_below n hs (and_right (nat_lt h.0 n) (all_below n hs) e))

over_of : (n : ℕ) (p : Proto) → is_over n p ≡ true → IsOver n p
over_of n p e =
    let hosts_ok = and_left (has_some (holders p) && all_below n (holders p)) (is_in_order p) e in
    record {
      some = some_host (holders p) (and_left (has_some (holders p)) (all_below n (holders p)) hosts_ok);
      known = each_below n (holders p) (and_right (has_some (holders p)) (all_below n (holders p)) hosts_ok);
      ordered = and_right (has_some (holders p) && all_below n (holders p)) (is_in_order p) e;
    }

all_over : (n : ℕ) (ps : List Proto) → list_all (is_over n) ps ≡ true → All (IsOver n) ps
all_over n [] e k d lt = absurd (omega (arith, lt))
all_over n (p ∷ ps) e zero d lt = over_of n p (and_left (is_over n p) (list_all (is_over n) ps) e)
all_over n (p ∷ ps) e (suc k) d lt = all_over n ps (and_right (is_over n p) (list_all (is_over n) ps) e) k d (omega (arith, lt))

pub listed_protocols_are_over : ListedProtocolsAreOver
unfolding lib.Count.ones
listed_protocols_are_over zero few = all_over 0 (protocols_of 0) refl
listed_protocols_are_over (suc zero) few = all_over 1 (protocols_of 1) refl
listed_protocols_are_over (suc (suc zero)) few = all_over 2 (protocols_of 2) refl
listed_protocols_are_over (suc (suc (suc zero))) few = all_over 3 (protocols_of 3) refl
listed_protocols_are_over (suc (suc (suc (suc zero)))) few = all_over 4 (protocols_of 4) refl
listed_protocols_are_over (suc (suc (suc (suc (suc n))))) few = absurd (too_many few)
  where
    too_many : suc (suc (suc (suc (suc n)))) ≤ 4 → ⊥
    too_many e = omega (arith, e)

-- ---- deals of zeros

one_word : (x : ℕ) → IsWord x → (place : ℕ) → IsWord (nth (x ∷ []) place)
one_word x small zero = small
one_word x small (suc place) = omega arith

three_zeros : (place : ℕ) → IsWord (nth (0 ∷ 0 ∷ 0 ∷ []) place)
three_zeros zero = omega arith
three_zeros (suc zero) = omega arith
three_zeros (suc (suc zero)) = omega arith
three_zeros (suc (suc (suc place))) = omega arith

two_zeros : (place : ℕ) → IsWord (nth (0 ∷ 0 ∷ []) place)
two_zeros zero = omega arith
two_zeros (suc zero) = omega arith
two_zeros (suc (suc place)) = omega arith

pub zero_deals_are_valid : ZeroDealsAreValid
zero_deals_are_valid inputs small = (
  record {
    lengths = lengths;
    words = words;
    triples = λ g h i d. refl;
    bit_triples = λ g h i d. refl;
    pairs = λ g h i d. refl;
  },
  (λ h i. refl),
)
  where
    lengths : (h : ℕ) (source : Source) (i : ℕ) → length (item_with inputs h source i) ≡ length (zeros_of source)
    lengths h Inputs i = refl
    lengths h OwnWords i = refl
    lengths h (Triples p) i = refl
    lengths h (BitTriples p) i = refl
    lengths h (Pairs p) i = refl

    words : (h : ℕ) (source : Source) (i place : ℕ) → IsWord (nth (item_with inputs h source i) place)
    words h Inputs i place = one_word (slice_index (inputs h) i) (small h i) place
    words h OwnWords i place = one_word 0 (omega arith) place
    words h (Triples p) i place = three_zeros place
    words h (BitTriples p) i place = three_zeros place
    words h (Pairs p) i place = two_zeros place
