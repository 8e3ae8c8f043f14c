-- What is counted of one family is counted of another that belongs to it one to one.
use Rattle.std.proofs.Common.{◌≡◌, ◌≢◌, suc, List, [], ◌∷◌, inl, inr, length, map, refl, sym, ap, subst, ◌∙◌}
use Rattle.vd_views.specs.Sides.{Each}
use Rattle.vd_views.specs.PairUp.{AreDifferent}
use Rattle.vd_views.specs.Lengths.{IsAmong, AreAll}

pub mapped_count : {X Y : Type 0} (f : X → Y) (xs : List X) → length (map f xs) ≡ length xs
mapped_count f [] = refl
mapped_count f (x ∷ xs) = ap suc (mapped_count f xs)

module _ {X Y : Type 0} (P : X → Type 0) (Q : Y → Type 0) (f : X → Y) (g : Y → X) (there : (x : X) → P x → Q (f x)) (here : (y : Y) → Q y → P (g y))
    (again : (x : X) → P x → g (f x) ≡ x) (back : (y : Y) → Q y → f (g y) ≡ y) where
  each_there : (xs : List X) → Each P xs → Each Q (map f xs)
  each_there [] ps = tt
  each_there (x ∷ xs) ps = (there x ps.0, each_there xs ps.1)

  apart : (x : X) → P x → (xs : List X) → Each P xs → Each (λ u. x ≢ u) xs → Each (λ y. f x ≢ y) (map f xs)
  apart x p [] ps ds = tt
  apart x p (u ∷ xs) ps ds = ((λ e. ds.0 (sym (again x p) ∙ ap g e ∙ again u ps.0)), apart x p xs ps.1 ds.1)

  all_apart : (xs : List X) → Each P xs → AreDifferent xs → AreDifferent (map f xs)
  all_apart [] ps ds = tt
  all_apart (x ∷ xs) ps ds = (apart x ps.0 xs ps.1 ds.0, all_apart xs ps.1 ds.1)

  is_in : (x : X) (xs : List X) → IsAmong x xs → IsAmong (f x) (map f xs)
  is_in x [] i = i
  is_in x (u ∷ xs) (inl e) = inl (ap f e)
  is_in x (u ∷ xs) (inr i) = inr (is_in x xs i)

  pub all_there : (xs : List X) → AreAll P xs → AreAll Q (map f xs)
  all_there xs all_first = record {
    each = each_there xs all_first.each;
    different = all_apart xs all_first.each all_first.different;
    all = λ y q. subst (λ (z : Y). IsAmong z (map f xs)) (back y q) (is_in (g y) xs (all_first.all (g y) (here y q)));
  }
