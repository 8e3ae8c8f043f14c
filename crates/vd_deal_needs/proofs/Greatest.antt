-- The greatest of some numbers, and of what is shared.
use Rattle.std.proofs.Common.{◌≡◌, ℕ, zero, suc, ◌<◌, ◌≤◌, max, List, [], ◌∷◌, length, get_or, refl, ap, ◌∙◌, arith}
use Rattle.std.specs.List.{fold}
use Rattle.vd_deal_needs.specs.declared.taking.HostNeeds.{HostNeeds}
use Rattle.vd_deal_needs.specs.declared.taking.Shared.{Shared}
use Rattle.vd_deal_needs.specs.Sizes.{greater, most_of, most_shared, nothing}

module _ {X : Type 0} (f : X → ℕ) where
  starts : (a : ℕ) (xs : List X) → a ≤ fold (λ n x. max n (f x)) a xs
  starts a [] = omega arith
  starts a (x ∷ xs) = let i = starts (max a (f x)) xs in omega (arith, i)

  -- it is at least each of them
  pub above : (a : ℕ) (xs : List X) (k : ℕ) (d : X) → k < length xs → f (get_or xs k d) ≤ fold (λ n x. max n (f x)) a xs
  above a [] k d lt = absurd (omega (arith, lt))
  above a (x ∷ xs) zero d lt = let i = starts (max a (f x)) xs in omega (arith, i)
  above a (x ∷ xs) (suc k) d lt = above (max a (f x)) xs k d (omega (arith, lt))

  -- and at most what each of them is at most
  pub below : (a m : ℕ) (xs : List X) → a ≤ m → ((k : ℕ) (d : X) → k < length xs → f (get_or xs k d) ≤ m) → fold (λ n x. max n (f x)) a xs ≤ m
  below a m [] le all = le
  below a m (x ∷ xs) le all = let e = all 0 x (omega arith) in below (max a (f x)) m xs (omega (arith, le, e)) (λ k d lt. all (suc k) d (omega (arith, lt)))

-- of one kind of what is shared
module _ (kind : Shared → ℕ) (kept : (s t : Shared) → kind (greater s t) ≡ max (kind s) (kind t)) where
  kind_of_most : {X : Type 0} (g : X → Shared) (s : Shared) (xs : List X) → kind (fold (λ t x. greater t (g x)) s xs) ≡ fold (λ n x. max n (kind (g x))) (kind s) xs
  kind_of_most g s [] = refl
  kind_of_most g s (x ∷ xs) = kind_of_most g (greater s (g x)) xs ∙ ap (λ a. fold (λ n y. max n (kind (g y))) a xs) (kept s (g x))

  pub most_above : (needs : List HostNeeds) (h p : ℕ) (d : HostNeeds) (s : Shared) → h < length needs → p < length (get_or needs h d).shared → kind (get_or (get_or needs h d).shared p s) ≤ kind (most_of needs)
  most_above needs h p d s lt there =
      let list = (get_or needs h d).shared in
      let one = above kind (kind nothing) list p s there in
      let host = kind_of_most (λ x. x) nothing list in
      let all = above (λ (x : HostNeeds). kind (most_shared x.shared)) (kind nothing) needs h d lt in
      let most = kind_of_most (λ (x : HostNeeds). most_shared x.shared) nothing needs in
      omega (arith, one, host, all, most)

  pub most_below : (needs : List HostNeeds) (m : ℕ) → kind nothing ≤ m
      → ((h p : ℕ) (d : HostNeeds) (s : Shared) → h < length needs → p < length (get_or needs h d).shared → kind (get_or (get_or needs h d).shared p s) ≤ m) → kind (most_of needs) ≤ m
  most_below needs m none all =
      let host : (h : ℕ) (d : HostNeeds) → h < length needs → kind (most_shared (get_or needs h d).shared) ≤ m = λ h d lt.
      let list = (get_or needs h d).shared in
      let same = kind_of_most (λ x. x) nothing list in
      let le = below kind (kind nothing) m list none (λ p s there. all h p d s lt there) in
      omega (arith, same, le)
      in
      let most = kind_of_most (λ (x : HostNeeds). most_shared x.shared) nothing needs in
      let le = below (λ (x : HostNeeds). kind (most_shared x.shared)) (kind nothing) m needs none host in
      omega (arith, most, le)
