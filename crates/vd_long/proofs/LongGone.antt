-- Divisions without a candidate are gone.
use Rattle.std.proofs.Common.{◌≡◌, ℕ, zero, suc, ◌+◌, ◌<◌, Bool, true, false, true≢false, ◌&&◌, ◌||◌, not, if◌then◌else◌, List, [], ◌∷◌, map, length, slice_get, slice_index_or, Option, Some, None, refl, sym, ap, ◌∙◌, subst, arith}
use Rattle.std.specs.Prelude.{IsTrue}
use Rattle.std.specs.List.{list_any, range_with_len}
use Rattle.std.specs.Option.{option_map_or}
use Rattle.std.proofs.lemmas.Bool.{or_right}
use Rattle.vd_base.specs.declared.ids.SlotId.{SlotId}
use Rattle.vd_core.specs.declared.normal.NormalForm.{NormalForm}
use Rattle.vd_constraints.specs.declared.labels.Labels.{Labels}
use Rattle.vd_rewrite.specs.Rewriting.{made_at_start, is_within}
use Rattle.vd_space.specs.declared.problem.Problem.{Problem}
use Rattle.vd_space.specs.declared.problem.Making.{Making}
use Rattle.vd_space.specs.Reading.{problem_of}
use Rattle.vd_space.specs.Validity.{protocols, can_stand, is_candidate, has_candidate}
use Rattle.vd_long.specs.Lengthened.{with_long_divisions, some_lengthened, is_nested, lengthened}
use Rattle.vd_long.specs.DivisionsLeft.{divisions, divisions_where, is_long_in, DivisionsGo}
use Rattle.vd_long.proofs.DivisionsGone.{body_left, body_same}

-- an item of a mapped list
mark_is : (f : Making → Bool) (makings : List Making) (k : ℕ) (making : Making) → slice_get makings k ≡ Some making → slice_index_or (map f makings) k false ≡ f making
mark_is f [] k making at = cc at
mark_is f (x ∷ xs) zero making at = cc at
mark_is f (x ∷ xs) (suc k) making at = mark_is f xs k making at

-- a test that no number below n passes, and one that one of them passes
none_passes : (test : ℕ → Bool) (from n : ℕ) → ((q : ℕ) → q < from + n → test q ≡ false) → list_any test (range_with_len from n) ≡ false
none_passes test from zero none = refl
none_passes test from (suc n) none = rw (none from (omega arith), none_passes test (from + 1) n (λ q lt. none q (omega (arith, lt)))) refl

one_passes : (test : ℕ → Bool) (from n q : ℕ) → q < n → test (from + q) ≡ true → list_any test (range_with_len from n) ≡ true
one_passes test from zero q lt passes = absurd (omega (arith, lt))
one_passes test from (suc n) zero lt passes =
    let here : test from ≡ true = subst (λ k. test k ≡ true) (omega arith) passes in ap (λ b. b || list_any test (range_with_len (from + 1) n)) here
one_passes test from (suc n) (suc q) lt passes =
    or_right (test from) (list_any test (range_with_len (from + 1) n)) (one_passes test (from + 1) n q (omega (arith, lt)) (subst (λ k. test k ≡ true) (omega arith) passes))

module _ (p : NormalForm) (l : Labels) where
  abbrev problem : Problem
  problem = problem_of p l

  abbrev test : Making → Bool
  test making = not (has_candidate problem making)

  is_long : (x : SlotId) (making : Making) → slice_get problem.slots x.0 ≡ Some making → ((q : ℕ) → q < length (protocols problem) → is_candidate problem x.0 q ≡ false) → is_long_in p l x ≡ true
  is_long x making at none =
      mark_is test problem.slots x.0 making at
      ∙ ap not (none_passes (can_stand problem making) 0 (length (protocols problem)) (λ q lt. sym (ap (λ (o : Option Making). option_map_or (λ making. can_stand problem making q) o false) at) ∙ none q (omega (arith, lt))))

  stays_there : (x : SlotId) (q : ℕ) → q < length (protocols problem) → is_candidate problem x.0 q ≡ true → is_long_in p l x ≡ false
  stays_there x q lt stands = by (slice_get problem.slots x.0) refl stands
    where
      from_zero : q ≡ 0 + q
      from_zero = omega arith

      by : (o : Option Making) → slice_get problem.slots x.0 ≡ o → option_map_or (λ making. can_stand problem making q) o false ≡ true → is_long_in p l x ≡ false
      by None at stands = absurd (true≢false (sym stands))
      by (Some making) at stands = mark_is test problem.slots x.0 making at ∙ ap not (one_passes (can_stand problem making) 0 (length (protocols problem)) q lt (subst (λ k. can_stand problem making k ≡ true) from_zero stands))

module _ (long : SlotId → Bool) (p : NormalForm) where
  pub lengthened_left : let longer = with_long_divisions long p in IsTrue (is_within longer && is_nested longer) → divisions (lengthened long p).body ≡ divisions_where (λ x. not (long x)) p.body
  lengthened_left fits = by (some_lengthened long p.body) (is_within (with_long_divisions long p) && is_nested (with_long_divisions long p)) refl fits
    where
      by : (c w : Bool) → some_lengthened long p.body ≡ c → IsTrue w → divisions (if c && w then with_long_divisions long p else p).body ≡ divisions_where (λ x. not (long x)) p.body
      by true true e fits = body_left long p.slots p.body 0 made_at_start
      by false true e fits = body_same long p.slots p.body e
      by true false e fits = absurd (true≢false (sym fits))
      by false false e fits = absurd (true≢false (sym fits))

pub divisions_go : (p : NormalForm) (l : Labels) → DivisionsGo p l
divisions_go p l = record { long = is_long p l; stays = stays_there p l; gone = lengthened_left (is_long_in p l) p }
