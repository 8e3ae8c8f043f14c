-- What a guard costs more with one choice more, where the slot is not the guard's own.
use Rattle.std.proofs.Common.{◌≡◌, ℕ, Bool, true, false, cond, ◌&&◌, ◌||◌, not, List, [], length, refl, sym, ap, ap₂, ◌∙◌, arith, ℤ, pos, ◌+ℤ◌, ◌-ℤ◌}
use Rattle.std.specs.Prelude.{IsTrue, ◌==◌, slice_index_or}
use Rattle.std.specs.List.{range_with_len}
use Rattle.std.specs.Option.{option_map_or}
use Rattle.std.proofs.lemmas.Int.{ints}
use Rattle.vd_base.specs.HostSets.{host}
use Rattle.vd_space.specs.declared.problem.Problem.{Problem}
use Rattle.vd_space.specs.declared.problem.Guard.{Guard}
use Rattle.vd_space.specs.Validity.{holds_at, takes_part}
use Rattle.vd_space.specs.Growth.{guard_names, with_choice}
use Rattle.vd_space.proofs.Front.{same_item, part_grows, total_ext, total_plus}
use Rattle.vd_space_prefix.specs.declared.guards.Telling.{Telling}
use Rattle.vd_space_prefix.specs.Guards.{guard_under, joined_if, joined_under, told_if, told_under}

split : (part holds : Bool) (z : ℤ) → cond (part || holds) z (pos 0) ≡ cond part z (pos 0) +ℤ cond (holds && not part) z (pos 0)
split true true z = omega (arith, ints)
split true false z = omega (arith, ints)
split false true z = omega (arith, ints)
split false false z = omega (arith, ints)

module _ (problem : Problem) (prefix : List ℕ) (choice : ℕ) (guard : Guard) (t : Telling) (named : IsTrue (guard_names (length prefix) guard)) (other : (guard.slot.0 == length prefix) ≡ false) (free : (t.slot == length prefix) ≡ false) where
  told_same : (h : ℕ) → told_under t (with_choice prefix choice) h ≡ told_under t prefix h
  told_same h = ap (λ item. option_map_or (λ p. slice_index_or (slice_index_or t.costs h []) p (pos 0)) item (slice_index_or t.free h (pos 0))) (sym (same_item problem prefix choice t.slot free))

  each : (h : ℕ) → told_if problem (with_choice prefix choice) guard t h ≡ told_if problem prefix guard t h +ℤ joined_if problem prefix guard t choice h
  each h =
      ap₂ (λ part cost. cond part cost (pos 0)) (part_grows problem prefix choice guard named other (host h)) (told_same h)
      ∙ split (takes_part problem prefix guard (host h)) (holds_at problem (host h) choice) (told_under t prefix h)

  pub joined_grows : guard_under problem (with_choice prefix choice) guard t -ℤ guard_under problem prefix guard t ≡ joined_under problem prefix guard t choice
  joined_grows =
      let hosts = range_with_len 0 (length problem.hosts) in
      let whole = total_ext (told_if problem (with_choice prefix choice) guard t) (λ h. told_if problem prefix guard t h +ℤ joined_if problem prefix guard t choice h) each hosts in
      let parts = total_plus (told_if problem prefix guard t) (joined_if problem prefix guard t choice) hosts in
      omega (arith, ints, whole, parts)
