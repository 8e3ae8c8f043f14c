-- What a new array takes: its cells at each host that holds it.
use Rattle.std.proofs.Common.{◌≡◌, ℕ, zero, suc, ◌+◌, ◌≤◌, nat_eq, Bool, true, false, List, [], ◌∷◌, length, slice_index, slice_set, inl, inr, refl, ap, ◌∙◌, subst, arith}
use Rattle.std.proofs.lemmas.Bool.{eqb-true, eq-eqb}
use Rattle.vd_base.specs.declared.ids.HostId.{HostId}
use Rattle.vd_base.specs.declared.protocols.Proto.{Proto}
use Rattle.vd_base.specs.Holders.{holders}
use Rattle.vd_base.proofs.Front.{few_holders}
use Rattle.vd_duet.specs.Builder.{taken}
use Rattle.vd_duet.specs.Laws.{IsHost}
use Rattle.vd_clear.specs.Copies.{each_made}
use Rattle.vd_split.proofs.Front.{AreApart}
use Rattle.vd_backend_laws.specs.Parts.{zeros_at, new_cells}
use Rattle.vd_backend_laws.specs.Suite.{IsOver}
use Rattle.vd_backend_laws.proofs.Front.{holders_apart}
use Rattle.vd_projection.proofs.ClearCalls.{each_length}
use Rattle.vd_projection.proofs.Counts.{acts_in, one_grows}

-- another host's registers are kept
set_elsewhere : (xs : List ℕ) (i v j : ℕ) → (j ≡ i → ⊥) → slice_index (slice_set xs i v) j ≡ slice_index xs j
set_elsewhere [] i v j other = refl
set_elsewhere (x ∷ xs) zero v zero other = absurd (other refl)
set_elsewhere (x ∷ xs) zero v (suc j) other = refl
set_elsewhere (x ∷ xs) (suc i) v zero other = refl
set_elsewhere (x ∷ xs) (suc i) v (suc j) other = set_elsewhere xs i v j (λ e. other (ap suc e))

same_or_not : (a b : ℕ) → nat_eq a b ≡ false → a ≡ b → ⊥
same_or_not a b e is = opposite (nat_eq a b) (eq-eqb a b is) e
  where
    opposite : (z : Bool) → z ≡ true → z ≡ false → ⊥
    opposite true g h = cc
    opposite false g h = cc

module _ (size : ℕ) where
  -- a host that is not among these has its registers as they were
  none_taken : (hs : List HostId) (next : List ℕ) (j : ℕ) → (IsHost hs j → ⊥) → slice_index (each_made (zeros_at size) hs next).next j ≡ slice_index next j
  none_taken [] next j other = refl
  none_taken (h ∷ hs) next j other =
      none_taken hs (taken h size next) j (λ is. other (inr is)) ∙ set_elsewhere next h.0 (slice_index next h.0 + size) j (λ is. other (inl is))

  -- hosts of which none is there twice take so many each
  all_taken : (hs : List HostId) → AreApart hs → (next : List ℕ) (j : ℕ) → slice_index (each_made (zeros_at size) hs next).next j ≤ slice_index next j + size
  all_taken [] apart next j = omega arith
  all_taken (h ∷ hs) apart next j = at (nat_eq j h.0) refl (all_taken hs apart.1 (taken h size next) j)
    where
      at : (b : Bool) → nat_eq j h.0 ≡ b → slice_index (each_made (zeros_at size) hs (taken h size next)).next j ≤ slice_index (taken h size next) j + size
          → slice_index (each_made (zeros_at size) hs (taken h size next)).next j ≤ slice_index next j + size
      at true e rest =
          let kept = none_taken hs (taken h size next) j (λ among. apart.0 (subst (λ (k : ℕ). IsHost hs k) (eqb-true j h.0 e) among)) in
          let grown = one_grows h size next j in
          omega (arith, kept, grown)
      at false e rest = let same = set_elsewhere next h.0 (slice_index next h.0 + size) j (same_or_not j h.0 e) in omega (arith, same, rest)

  zeros_acts : (hs : List HostId) (next : List ℕ) → acts_in (each_made (zeros_at size) hs next).gadgets ≡ length hs
  zeros_acts [] next = refl
  zeros_acts (h ∷ hs) next = let e = zeros_acts hs (taken h size next) in omega (arith, e)

  pub cells_acts : (p : Proto) (next : List ℕ) → acts_in (new_cells p size next).gadgets ≤ 8
  cells_acts p next = let few = few_holders p in let same = zeros_acts (holders p) next in omega (arith, few, same)

  pub cells_given : (p : Proto) (next : List ℕ) → length (new_cells p size next).given ≤ 17
  cells_given p next = let few = few_holders p in let same = each_length (zeros_at size) (holders p) next in omega (arith, few, same)

  pub cells_registers : (hosts : ℕ) (p : Proto) → IsOver hosts p → (next : List ℕ) (j : ℕ) → slice_index (new_cells p size next).next j ≤ slice_index next j + size
  cells_registers hosts p over next j = all_taken (holders p) (holders_apart p over.ordered) next j
