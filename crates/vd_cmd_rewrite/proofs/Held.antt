-- Each protocol of the list is held by some host.
use Rattle.std.proofs.Common.{◌≡◌, ℕ, zero, suc, ◌+◌, ◌<◌, ◌≤◌, Bool, true, false, true≢false, ◌||◌, length, map, slice_index_or, refl, sym, arith}
use Rattle.std.specs.List.{list_all, list_any, range_with_len}
use Rattle.std.proofs.lemmas.List.Sums.{AllPass-from_list_all}
use Rattle.vd_base.specs.declared.ids.HostId.{HostId}
use Rattle.vd_base.specs.declared.protocols.Proto.{Proto}
use Rattle.vd_base.specs.HostSets.{host, hosts}
use Rattle.vd_base.specs.Protocols.{protocols_of}
use Rattle.vd_base.specs.Holders.{is_holder}

abbrev is_held : ℕ → Proto → Bool
is_held n p = list_any (is_holder p) (hosts n)

all_held : (n : ℕ) → n ≤ 4 → list_all (is_held n) (protocols_of n) ≡ true
unfolding lib.Count.ones
all_held zero le = refl
all_held (suc zero) le = refl
all_held (suc (suc zero)) le = refl
all_held (suc (suc (suc zero))) le = refl
all_held (suc (suc (suc (suc zero)))) le = refl
all_held (suc (suc (suc (suc (suc n))))) le = absurd (omega arith)

pub record Holder (n : ℕ) (p : Proto) : Type 0 where
  pub host : HostId
  pub low : host.0 < n
  pub holds : is_holder p host ≡ true

one_of : (p : Proto) (a n : ℕ) → list_any (is_holder p) (map host (range_with_len a n)) ≡ true → (k : ℕ) × ((k < a + n) × (is_holder p (host k) ≡ true))
one_of p a zero h = absurd (true≢false (sym h))
one_of p a (suc n) h = by (is_holder p (host a)) refl h (one_of p (a + 1) n)
  where
    by : (b : Bool) → is_holder p (host a) ≡ b → (b || list_any (is_holder p) (map host (range_with_len (a + 1) n))) ≡ true
        → (list_any (is_holder p) (map host (range_with_len (a + 1) n)) ≡ true → (k : ℕ) × ((k < a + 1 + n) × (is_holder p (host k) ≡ true))) → (k : ℕ) × ((k < a + suc n) × (is_holder p (host k) ≡ true))
    by true e h' later = (a, (omega arith, e))
    by false e h' later = let r = later h' in let lt = r.1.0 in (r.0, (omega arith, r.1.1))

pub is_held_by : (n q : ℕ) (d : Proto) → n ≤ 4 → q < length (protocols_of n) → Holder n (slice_index_or (protocols_of n) q d)
is_held_by n q d le lt =
    let each = AllPass-from_list_all (is_held n) (protocols_of n) (all_held n le) q d lt in
    let r = one_of (slice_index_or (protocols_of n) q d) 0 n each in
    let low = r.1.0 in
    record { host = host r.0; low = omega arith; holds = r.1.1 }
