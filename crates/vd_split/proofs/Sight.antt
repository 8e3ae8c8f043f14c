-- Slots in sight, and what they have in the clear.
use Rattle.std.proofs.Common.{◌≡◌, ℕ, zero, suc, Bool, true, false, nat_eq, List, [], ◌∷◌, slice_index, slice_index_or, ◌⊎◌, inl, inr, refl, ap}
use Rattle.std.proofs.lemmas.Bool.{eqb-true}
use Rattle.std.specs.List.{list_any}
use Rattle.vd_core.specs.Facts.{Sight}
use Rattle.vd_semantics.specs.Stores.{put}
use Rattle.vd_semantics.specs.ProgramMeaning.{SlotState}
use Rattle.vd_split.specs.Suite.{Content, Word, Cells}
use Rattle.vd_split.proofs.Lists.{or_cases, or_right}

-- what a slot is
pub data Use : Type 0 where
  Binding : Use
  Variable : Use
  Array : Use

abbrev pub seen_as : Use → Sight → List ℕ
seen_as Binding o = o.bindings
seen_as Variable o = o.variables
seen_as Array o = o.arrays

abbrev pub Sees : Sight → Use → ℕ → Type 0
Sees o u x = list_any (nat_eq x) (seen_as u o) ≡ true

abbrev pub changing : Use → Bool
changing Binding = false
changing Variable = true
changing Array = true

abbrev pub content : Use → SlotState → ℕ → Content
content Binding c x = Word (slice_index c.words x)
content Variable c x = Word (slice_index c.words x)
content Array c x = Cells (slice_index_or c.arrays x [])

abbrev pub with_use : Use → ℕ → Sight → Sight
with_use Binding n o = record { bindings = n ∷ o.bindings; variables = o.variables; arrays = o.arrays }
with_use Variable n o = record { bindings = o.bindings; variables = n ∷ o.variables; arrays = o.arrays }
with_use Array n o = record { bindings = o.bindings; variables = o.variables; arrays = n ∷ o.arrays }

-- the new slot, or an earlier one
pub data Which (o : Sight) (u : Use) (n : ℕ) (v : Use) (x : ℕ) : Type 0 where
  New : v ≡ u → x ≡ n → Which o u n v x
  Old : Sees o v x → Which o u n v x

first_or : (o : Sight) (u v : Use) (n x : ℕ) (b : Bool) → v ≡ u → (nat_eq x n ≡ true) ⊎ Sees o v x → Which o u n v x
first_or o u v n x b e (inl i) = New e (eqb-true x n i)
first_or o u v n x b e (inr i) = Old i

pub which : (o : Sight) (u : Use) (n : ℕ) (v : Use) (x : ℕ) → Sees (with_use u n o) v x → Which o u n v x
which o Binding n Binding x h = first_or o Binding Binding n x true refl (or_cases (nat_eq x n) _ h)
which o Binding n Variable x h = Old h
which o Binding n Array x h = Old h
which o Variable n Binding x h = Old h
which o Variable n Variable x h = first_or o Variable Variable n x true refl (or_cases (nat_eq x n) _ h)
which o Variable n Array x h = Old h
which o Array n Binding x h = Old h
which o Array n Variable x h = Old h
which o Array n Array x h = first_or o Array Array n x true refl (or_cases (nat_eq x n) _ h)

pub still_seen : (o : Sight) (u : Use) (n : ℕ) (v : Use) (x : ℕ) → Sees o v x → Sees (with_use u n o) v x
still_seen o Binding n Binding x h = or_right (nat_eq x n) _ h
still_seen o Binding n Variable x h = h
still_seen o Binding n Array x h = h
still_seen o Variable n Binding x h = h
still_seen o Variable n Variable x h = or_right (nat_eq x n) _ h
still_seen o Variable n Array x h = h
still_seen o Array n Binding x h = h
still_seen o Array n Variable x h = h
still_seen o Array n Array x h = or_right (nat_eq x n) _ h

-- a store that is read
pub item_put : {A : Type 0} (d : A) (s : List A) (i : ℕ) (w : A) → slice_index_or (put d s i w) i d ≡ w
item_put d [] zero w = refl
item_put d [] (suc i) w = item_put d [] i w
item_put d (x ∷ xs) zero w = refl
item_put d (x ∷ xs) (suc i) w = item_put d xs i w

pub item_put_other : {A : Type 0} (d : A) (s : List A) (i j : ℕ) (w : A) → (j ≡ i → ⊥) → slice_index_or (put d s i w) j d ≡ slice_index_or s j d
item_put_other d [] zero zero w h = absurd (h refl)
item_put_other d [] zero (suc j) w h = refl
item_put_other d [] (suc i) zero w h = refl
item_put_other d [] (suc i) (suc j) w h = item_put_other d [] i j w (λ e. h (ap suc e))
item_put_other d (x ∷ xs) zero zero w h = absurd (h refl)
item_put_other d (x ∷ xs) zero (suc j) w h = refl
item_put_other d (x ∷ xs) (suc i) zero w h = refl
item_put_other d (x ∷ xs) (suc i) (suc j) w h = item_put_other d xs i j w (λ e. h (ap suc e))
