-- What a list has at a number.
use Rattle.std.proofs.Common.{◌≡◌, ℕ, ◌≤◌, true, Some, List, length, get_or, ltb, refl, sym, ap, ◌∙◌, subst, slice_get}
use Rattle.std.specs.Option.{option_map_or}
use Rattle.std.proofs.lemmas.Bool.{ltb-true}
use Rattle.std.proofs.lemmas.Option.{slice_get_read, slice_get_past}

module _ {X Y : Type 0} (f : X → Y) (xs slice : List X) (same : slice ≡ xs) (i : ℕ) (default : Y) where
  pub found : (x : X) (answer : Y) → true ≡ ltb i (length slice) → x ≡ get_or slice i x → answer ≡ f x → answer ≡ option_map_or f (slice_get xs i) default
  found x answer low read is =
      let at : slice_get slice i ≡ Some x = slice_get_read slice (length slice) i x refl (ltb-true i (length slice) (sym low)) read in
      subst (λ ys. answer ≡ option_map_or f (slice_get ys i) default) same (is ∙ sym (ap (λ o. option_map_or f o default) at))

  pub missing : length slice ≤ i → default ≡ option_map_or f (slice_get xs i) default
  missing past = subst (λ ys. default ≡ option_map_or f (slice_get ys i) default) same (sym (ap (λ o. option_map_or f o default) (slice_get_past slice i past)))
