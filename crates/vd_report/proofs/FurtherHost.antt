-- Hosts by name, where one host more is declared.
use Rattle.std.proofs.Common.{◌≡◌, ℕ, ◌+◌, ◌<◌, ◌≤◌, Bool, true, false, cond, not, List, [], ◌∷◌, ◌++◌, length, refl, ap, sym, ◌∙◌, arith, Option, Some, None, nat_lt, length-append}
use Rattle.std.specs.List.{position, position_or_len}
use Rattle.std.specs.Str.{bytes_eq}
use Rattle.std.proofs.lemmas.Bool.{eqb-true, ltb-true, ltb-false, false≢true}
use Rattle.std.proofs.Common.{eqb, eq-eqb}
use Rattle.std.proofs.lemmas.List.Folds.{position_or_len_push}
use Rattle.std.proofs.lemmas.List.Sums.{prefix_len-le-length}
use Rattle.std.proofs.lemmas.Slice.Eq.{bytes_eq-Decides}
use Rattle.vd_report.specs.Hosts.{host_of}
use Rattle.vd_report.proofs.InputsSteps.{below_limit}

abbrev found : ℕ → ℕ → Option ℕ
found n len = cond (nat_lt n len) (Some n) None

found_below : (n len : ℕ) → n < len → found n len ≡ Some n
found_below n len h = ap (λ b. cond b (Some n) None) (below_limit h)

some_found : (n len h : ℕ) (b : Bool) → nat_lt n len ≡ b → cond b (Some n) None ≡ Some h → (n < len) × (n ≡ h)
some_found n len h true e is = (ltb-true n len e, cc)
some_found n len h false e is = absurd cc

none_found : (n len : ℕ) (b : Bool) → nat_lt n len ≡ b → cond b (Some n) None ≡ None → nat_lt n len ≡ false
none_found n len true e is = absurd cc
none_found n len false e is = e

not_below : (n len : ℕ) → nat_lt n len ≡ false → n ≤ len → n ≡ len
not_below n len e h = let above : len ≤ n = ltb-false n len e in omega arith

module _ {X : Type 0} (p : X → Bool) where
  at_most : (xs : List X) → position_or_len p xs ≤ length xs
  at_most xs = prefix_len-le-length (λ x. not (p x)) xs

  differs : (n len : ℕ) (b : Bool) → n < len → eqb n len ≡ b → b ≡ false
  differs n len true h e = let same : n ≡ len = eqb-true n len e in absurd (omega arith)
  differs n len false h e = refl

  stays : (xs : List X) (y : X) → position_or_len p xs < length xs → position_or_len p (xs ++ y ∷ []) ≡ position_or_len p xs
  stays xs y h =
      let n = position_or_len p xs in
      position_or_len_push p xs y
      ∙ ap (λ b. cond b (length xs + cond (p y) 0 1) n) (differs n (length xs) (eqb n (length xs)) h refl)

  equals : (n len : ℕ) (b : Bool) → n ≡ len → eqb n len ≡ b → b ≡ true
  equals n len true h e = refl
  equals n len false h e = absurd (false≢true (sym e ∙ eq-eqb n len h))

  comes_last : (xs : List X) (y : X) → position_or_len p xs ≡ length xs → p y ≡ true → position_or_len p (xs ++ y ∷ []) ≡ length xs
  comes_last xs y h e =
      let n = position_or_len p xs in
      let zero_more : length xs + 0 ≡ length xs = omega arith in
      position_or_len_push p xs y
      ∙ ap (λ b. cond b (length xs + cond (p y) 0 1) n) (equals n (length xs) (eqb n (length xs)) h refl)
      ∙ ap (λ b. length xs + cond b 0 1) e
      ∙ zero_more

  still_found : (xs : List X) (y : X) (i : ℕ) → position p xs ≡ Some i → position p (xs ++ y ∷ []) ≡ Some i
  still_found xs y i e =
      let n = position_or_len p xs in
      let h = some_found n (length xs) i (nat_lt n (length xs)) refl e in
      ap (λ m. found m (length (xs ++ y ∷ []))) (stays xs y h.0)
      ∙ found_below n (length (xs ++ y ∷ [])) (omega (arith, h.0, length-append xs (y ∷ [])))
      ∙ ap Some h.1

  found_last : (xs : List X) (y : X) → position p xs ≡ None → p y ≡ true → position p (xs ++ y ∷ []) ≡ Some (length xs)
  found_last xs y e passes =
      let n = position_or_len p xs in
      let h = none_found n (length xs) (nat_lt n (length xs)) refl e in
      ap (λ m. found m (length (xs ++ y ∷ []))) (comes_last xs y (not_below n (length xs) h (at_most xs)) passes)
      ∙ found_below (length xs) (length (xs ++ y ∷ [])) (omega (arith, length-append xs (y ∷ [])))

-- a host that was declared before keeps its number
pub found_too : (hosts : List (List ℕ)) (more name : List ℕ) (host : ℕ) → host_of hosts name ≡ Some host → host_of (hosts ++ more ∷ []) name ≡ Some host
found_too hosts more name host e = still_found (λ h. bytes_eq h name) hosts more host e

-- a new name has the next number
pub found_new : (hosts : List (List ℕ)) (name : List ℕ) → host_of hosts name ≡ None → host_of (hosts ++ name ∷ []) name ≡ Some (length hosts)
found_new hosts name e = found_last (λ h. bytes_eq h name) hosts name e ((bytes_eq-Decides name name).1 refl)
