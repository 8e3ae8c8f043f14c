-- A path after a choice more, and with its last choice given back.
use Rattle.std.proofs.Common.{◌≡◌, ℕ, ◌+◌, ◌-◌, ◌<◌, ◌≤◌, min, Bool, true, false, ◌&&◌, List, [], ◌∷◌, ◌++◌, length, take, set, get_or, get_or-set_other, get_or-set_same, refl, sym, ap, ◌∙◌, subst, arith, inl, inr, length-set, length-append}
use Rattle.std.specs.Prelude.{nat_lt}
use Rattle.std.proofs.lemmas.Bool.{cases_eq, and_parts, lt-ltb, le-ltb, ltb-true}
use Rattle.std.proofs.Math.Seq.{take-append_seam}
use Rattle.std.proofs.lemmas.List.{length-take-le, take-set-le, take_more, take-take}
use Rattle.std.proofs.lemmas.List.Elements.{All-append, All-cons, All-nil, All-take}
use Rattle.vd_space.specs.declared.problem.Problem.{Problem}
use Rattle.vd_space.specs.Validity.{protocols, is_valid}
use Rattle.vd_space.specs.Growth.{extends, with_choice}
use Rattle.vd_space.proofs.Front.{valid_grows, listed_or_not}
use Rattle.vd_space_prefix.specs.declared.tables.Tables.{Tables}
use Rattle.vd_space_prefix.specs.declared.tables.Sums.{Sums}
use Rattle.vd_space_prefix.specs.Tables.{AreListed, AreSumsOf, IsNext, IsPath}

and_false : (b : Bool) → (b && false) ≡ false
and_false true = refl
and_false false = refl

module _ (problem : Problem) (tables : Tables) where
  -- a choice is written down behind those that are made
  pub written : (room : List ℕ) (sums : List Sums) (made valid choice : ℕ) → IsPath problem tables room sums made valid → IsPath problem tables (set room made choice) sums made valid
  written room sums made valid choice is =
      let same : (k : ℕ) → k ≤ made → take k (set room made choice) ≡ take k room = λ k low. take-set-le k room made choice low in
      record {
        room = length-set room made choice ∙ is.room;
        sums_room = is.sums_room;
        depth = is.depth;
        valid = is.valid;
        listed = subst (AreListed problem) (sym (same made (omega arith))) is.listed;
        validity = λ k low. ap (is_valid problem) (same k low) ∙ is.validity k low;
        sums = λ k default low. let bound = is.valid in subst (λ list. AreSumsOf problem tables.shifts list (get_or sums k default)) (sym (same k (omega (arith, bound, low)))) (is.sums k default low);
      }

  next_prefix : (room : List ℕ) (made : ℕ) → made < length room → take (made + 1) room ≡ with_choice (take made room) (get_or room made 0)
  next_prefix room made low = take_more room made 0 low

  module _ (room : List ℕ) (sums : List Sums) (made valid : ℕ) (is : IsPath problem tables room sums made valid) where
    next_valid : made < length problem.slots → is_valid problem (take (made + 1) room) ≡ (nat_lt made valid && extends problem (take made room) (get_or room made 0))
    next_valid low =
        let size = is.room in
        ap (is_valid problem) (next_prefix room made (omega (arith, size, low)))
        ∙ valid_grows problem (take made room) (get_or room made 0)
        ∙ ap (λ b. b && extends problem (take made room) (get_or room made 0)) (is.validity made (omega arith))

    pub not_before : made < length problem.slots → valid ≤ made → is_valid problem (take (made + 1) room) ≡ false
    not_before low past = next_valid low ∙ ap (λ b. b && extends problem (take made room) (get_or room made 0)) (le-ltb made valid past)

    pub not_allowed : made < length problem.slots → extends problem (take made room) (get_or room made 0) ≡ false → is_valid problem (take (made + 1) room) ≡ false
    not_allowed low refused = next_valid low ∙ ap (λ b. nat_lt made valid && b) refused ∙ and_false (nat_lt made valid)

    pub allowed : made < length problem.slots → made < valid → extends problem (take made room) (get_or room made 0) ≡ true → is_valid problem (take (made + 1) room) ≡ true
    allowed low before grows = next_valid low ∙ ap (λ b. b && extends problem (take made room) (get_or room made 0)) (lt-ltb made valid before) ∙ grows

    was_valid : made < length problem.slots → is_valid problem (take (made + 1) room) ≡ true → made < valid
    was_valid low grown = ltb-true made valid (and_parts (nat_lt made valid) (extends problem (take made room) (get_or room made 0)) (sym (next_valid low) ∙ grown)).0

    next_listed : made < length problem.slots → get_or room made 0 < length (protocols problem) → AreListed problem (take (made + 1) room)
    next_listed low choice =
        let size = is.room in
        subst (AreListed problem) (sym (next_prefix room made (omega (arith, size, low))))
        (All-append (λ p. p < length (protocols problem)) (take made room) (get_or room made 0 ∷ []) is.listed (All-cons (λ p. p < length (protocols problem)) (get_or room made 0) [] choice (All-nil (λ p. p < length (protocols problem)))))

    -- after a choice by which the prefix is valid
    pub entered : (s : Sums) → made < length problem.slots → get_or room made 0 < length (protocols problem) → IsNext problem tables (take (made + 1) room) s → IsPath problem tables room (set sums (made + 1) s) (made + 1) (made + 2)
    entered s low choice next =
        let before = was_valid low next.valid in
        let bound = is.valid in
        let all : valid ≡ made + 1 = omega (arith, before, bound) in
        let size = is.sums_room in
        record {
          room = is.room;
          sums_room = length-set sums (made + 1) s ∙ is.sums_room;
          depth = omega (arith, low);
          valid = omega arith;
          listed = next_listed low choice;
          validity = λ k within. elim (cases_eq k (made + 1)) [
            | inl same ↦ subst (λ j. is_valid problem (take j room) ≡ nat_lt j (made + 2)) (sym same) (next.valid ∙ sym (lt-ltb (made + 1) (made + 2) (omega arith)))
            | inr other ↦ is.validity k (omega (arith, within, other)) ∙ lt-ltb k valid (omega (arith, all, within, other)) ∙ sym (lt-ltb k (made + 2) (omega (arith, within)))
          ];
          sums = λ k default within. elim (cases_eq k (made + 1)) [
            | inl same ↦ subst (λ j. AreSumsOf problem tables.shifts (take j room) (get_or (set sums (made + 1) s) j default)) (sym same)
                (subst (AreSumsOf problem tables.shifts (take (made + 1) room)) (sym (get_or-set_same sums (made + 1) s default (omega (arith, size, low)))) next.sums_of)
            | inr other ↦ subst (AreSumsOf problem tables.shifts (take k room)) (sym (get_or-set_other sums (made + 1) k s default other)) (is.sums k default (omega (arith, all, within, other)))
          ];
        }

    -- after a choice by which it is not
    pub entered_invalid : made < length problem.slots → get_or room made 0 < length (protocols problem) → is_valid problem (take (made + 1) room) ≡ false → IsPath problem tables room sums (made + 1) valid
    entered_invalid low choice refused =
        let bound = is.valid in
        record {
          room = is.room;
          sums_room = is.sums_room;
          depth = omega (arith, low);
          valid = omega (arith, bound);
          listed = next_listed low choice;
          validity = λ k within. elim (cases_eq k (made + 1)) [
            | inl same ↦ subst (λ j. is_valid problem (take j room) ≡ nat_lt j valid) (sym same) (refused ∙ sym (le-ltb (made + 1) valid bound))
            | inr other ↦ is.validity k (omega (arith, within, other))
          ];
          sums = is.sums;
        }

    -- with the last choice given back
    pub left : 0 < made → IsPath problem tables room sums (made - 1) (min valid (made - 1 + 1))
    left some =
        let bound = is.valid in
        let low = is.depth in
        record {
          room = is.room;
          sums_room = is.sums_room;
          depth = omega (arith, low);
          valid = omega arith;
          listed = subst (AreListed problem) (take-take (made - 1) made room (omega arith)) (All-take (λ p. p < length (protocols problem)) (made - 1) (take made room) is.listed);
          validity = λ k within. is.validity k (omega (arith, within)) ∙ same_test k (made - 1) within;
          sums = λ k default within. is.sums k default (omega (arith, within));
        }
      where
        same_test : (k last : ℕ) → k ≤ last → nat_lt k valid ≡ nat_lt k (min valid (last + 1))
        same_test k last within = elim (listed_or_not valid k) [
          | inl less ↦ lt-ltb k valid less ∙ sym (lt-ltb k (min valid (last + 1)) (omega (arith, less, within)))
          | inr past ↦ le-ltb k valid past ∙ sym (le-ltb k (min valid (last + 1)) (omega (arith, past)))
        ]

pub front_of : (room front : List ℕ) (last made : ℕ) → 0 < made → made ≤ length room → take made room ≡ front ++ last ∷ [] → take (made - 1) room ≡ front
front_of room front last made some low is =
    let size : length front ≡ made - 1 = omega (arith, ap length is, length-append front (last ∷ []), length-take-le made room low, low, some) in
    sym (take-take (made - 1) made room (omega arith)) ∙ ap (take (made - 1)) is ∙ ap (λ n. take n (front ++ last ∷ [])) (sym size) ∙ take-append_seam front (last ∷ [])
