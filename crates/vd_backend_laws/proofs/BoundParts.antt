-- The registers of a commitment.
use Rattle.std.proofs.Common.{◌≡◌, ℕ, zero, suc, ◌+◌, ◌<◌, ◌≤◌, List, [], ◌∷◌, ◌++◌, ◌⊎◌, inl, inr, length, refl, sym, subst, ◌∙◌, arith, add-zero}
use Rattle.vd_base.specs.declared.ids.HostId.{HostId}
use Rattle.vd_execution.specs.declared.instructions.Reg.{Reg}
use Rattle.vd_duet.specs.Calls.{Places}
use Rattle.vd_duet.specs.Laws.{IsIn}
use Rattle.vd_commit.specs.declared.ends.Held.{Held}
use Rattle.vd_commit.specs.declared.ends.Seen.{Seen}
use Rattle.vd_commit.specs.Commit.{eight}
use Rattle.vd_commit.proofs.Front.{IsRow, eight_row}
use Rattle.vd_backend_laws.specs.Commits.{at_one, committed_at, held_of, seen_of}

-- ---- one after the other

in_first : (x y : Places) (h r : ℕ) → IsIn x h r → IsIn (x ++ y) h r
in_first [] y h r i = absurd i
in_first (q ∷ x) y h r (inl e) = inl e
in_first (q ∷ x) y h r (inr i) = inr (in_first x y h r i)

in_second : (x y : Places) (h r : ℕ) → IsIn y h r → IsIn (x ++ y) h r
in_second [] y h r i = i
in_second (q ∷ x) y h r i = inr (in_second x y h r i)

in_either : (x y : Places) (h r : ℕ) → IsIn (x ++ y) h r → IsIn x h r ⊎ IsIn y h r
in_either [] y h r i = inr i
in_either (q ∷ x) y h r (inl e) = inl (inl e)
in_either (q ∷ x) y h r (inr i) = at (in_either x y h r i)
  where
    at : IsIn x h r ⊎ IsIn y h r → IsIn (q ∷ x) h r ⊎ IsIn y h r
    at (inl j) = inl (inr j)
    at (inr j) = inr j

-- ---- in a row

in_row : (h : HostId) (r : ℕ) (rs : List Reg) → IsRow r rs → (i : ℕ) → i < length rs → IsIn (at_one h rs) h.0 (r + i)
in_row h r [] row i low = absurd (omega (arith, low))
in_row h r (x ∷ rs) row zero low = inl (refl, add-zero r ∙ sym row.0)
in_row h r (x ∷ rs) row (suc i) low =
    let e : r + 1 + i ≡ r + suc i = omega arith in inr (subst (λ z. IsIn (at_one h rs) h.0 z) e (in_row h (r + 1) rs row.1 i (omega (arith, low))))

of_row : (h : HostId) (r : ℕ) (rs : List Reg) → IsRow r rs → (k q : ℕ) → IsIn (at_one h rs) k q → (k ≡ h.0) × (r ≤ q) × (q < r + length rs)
of_row h r [] row k q i = absurd i
of_row h r (x ∷ rs) row k q (inl e) = let s = e.1 in let f = row.0 in (e.0, omega (arith, s, f), omega (arith, s, f))
of_row h r (x ∷ rs) row k q (inr i) = let m = of_row h (r + 1) rs row.1 k q i in let low = m.1 in let high = m.2 in (m.0, omega (arith, low), omega (arith, high))

-- ---- which there are

module _ (p v : HostId) (ends : Held × Seen) where
  abbrev held_places : Places
  held_places = at_one p (ends.0.value ∷ eight ends.0.nonce.0)

  abbrev seen_places : Places
  seen_places = at_one v (eight ends.1.digest.0)

  has_value : IsIn (committed_at p v ends) p.0 ends.0.value.0
  has_value = in_first held_places seen_places p.0 ends.0.value.0 (inl (refl, refl))

  has_nonce : (i : ℕ) → i < 8 → IsIn (committed_at p v ends) p.0 (ends.0.nonce.0 + i)
  has_nonce i low =
      in_first held_places seen_places p.0 (ends.0.nonce.0 + i) (inr (in_row p ends.0.nonce.0 (eight ends.0.nonce.0) (eight_row ends.0.nonce.0 ends.0.nonce.0 refl) i low))

  has_digest : (i : ℕ) → i < 8 → IsIn (committed_at p v ends) v.0 (ends.1.digest.0 + i)
  has_digest i low =
      in_second held_places seen_places v.0 (ends.1.digest.0 + i) (in_row v ends.1.digest.0 (eight ends.1.digest.0) (eight_row ends.1.digest.0 ends.1.digest.0 refl) i low)

  -- a register of a host is the value, one of the nonce, or one of the digest
  abbrev pub IsPart : ℕ → ℕ → Type 0
  IsPart h r =
      ((h ≡ p.0) × (r ≡ ends.0.value.0))
      ⊎ (((h ≡ p.0) × (ends.0.nonce.0 ≤ r) × (r < ends.0.nonce.0 + 8)) ⊎ ((h ≡ v.0) × (ends.1.digest.0 ≤ r) × (r < ends.1.digest.0 + 8)))

  pub which_part : (h r : ℕ) → IsIn (committed_at p v ends) h r → IsPart h r
  which_part h r i = at (in_either held_places seen_places h r i)
    where
      at : IsIn held_places h r ⊎ IsIn seen_places h r → IsPart h r
      at (inl (inl e)) = inl e
      at (inl (inr j)) = inr (inl (of_row p ends.0.nonce.0 (eight ends.0.nonce.0) (eight_row ends.0.nonce.0 ends.0.nonce.0 refl) h r j))
      at (inr j) = inr (inr (of_row v ends.1.digest.0 (eight ends.1.digest.0) (eight_row ends.1.digest.0 ends.1.digest.0 refl) h r j))

module _ (p v : HostId) (x : Places) (at : x ≡ committed_at p v (held_of x, seen_of x)) where
  pub value_in : IsIn x p.0 (held_of x).value.0
  value_in = subst (λ (y : Places). IsIn y p.0 (held_of x).value.0) (sym at) (has_value p v (held_of x, seen_of x))

  pub nonce_in : (i : ℕ) → i < 8 → IsIn x p.0 ((held_of x).nonce.0 + i)
  nonce_in i low = subst (λ (y : Places). IsIn y p.0 ((held_of x).nonce.0 + i)) (sym at) (has_nonce p v (held_of x, seen_of x) i low)

  pub digest_in : (i : ℕ) → i < 8 → IsIn x v.0 ((seen_of x).digest.0 + i)
  digest_in i low = subst (λ (y : Places). IsIn y v.0 ((seen_of x).digest.0 + i)) (sym at) (has_digest p v (held_of x, seen_of x) i low)
