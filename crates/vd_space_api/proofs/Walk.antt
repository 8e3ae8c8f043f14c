-- The walk from the last use to the first.
use Rattle.std.proofs.Common.{◌≡◌, ℕ, ◌+◌, ◌-◌, ◌*◌, ◌<◌, ◌≤◌, Bool, true, false, Option, Some, None, List, [], ◌∷◌, ◌++◌, length, get_or, take, drop, map, refl, sym, ap, ◌∙◌, subst, arith, ℤ, pos, neg_ℤ, ◌+ℤ◌, inl, inr, slice_get}
use Rattle.std.specs.Prelude.{option_map, unwrap_or}
use Rattle.std.proofs.lemmas.Int.{ints}
use Rattle.std.proofs.lemmas.Option.{slice_get_within, get_or_from_slice_get}
use Rattle.std.proofs.lemmas.List.{length-map, get_or_past, drop_more, take_more}
use Rattle.vd_base.specs.Moves.{move_at}
use Rattle.vd_base.specs.Holders.{proto_in}
use Rattle.vd_space.specs.declared.problem.Problem.{Problem}
use Rattle.vd_space.specs.declared.problem.Use.{Use}
use Rattle.vd_space.specs.Validity.{protocols, protocol}
use Rattle.vd_space.specs.Costs.{total}
use Rattle.vd_space.specs.Bounds.{slot_shift, use_shift}
use Rattle.vd_space.specs.Sizes.{heft}
use Rattle.vd_space.specs.Usual.{from_target, to_source, in_list_order, usual_from}
use Rattle.vd_space.proofs.Front.{total_append, heft_append, listed_or_not, small, move_price}
use Rattle.vd_space_api.specs.declared.space_shifts.ledger.Ledger.{Ledger}
use Rattle.vd_space_api.specs.Rows.{if_passes, weighed, amounts_of, emptied_of, raised_of, given_at, given_from}
use Rattle.vd_space_api.specs.Terms.{row_at, candidates_of, IsTable, terms_after, greatest}
use Rattle.vd_space_api.specs.Ledger.{made, with_taken, places_at, given_by, handed_on, IsHandedOn, AreSmall, AreSmallTerms}
use Rattle.vd_space_api.proofs.Numbers.{least_low, passes_low, weighed_low, more_low}
use Rattle.vd_space_api.proofs.Burden.{at_by, size_by, amount_at_is, emptied_at, raised_at, taken_burden, given_burden, small_terms}
use Rattle.vd_space_api.proofs.Sums.{slot_at, slot_other, target_at, target_other, source_other}
use Rattle.vd_space_api.proofs.Tables.{shifted_table}
use Rattle.vd_space_api.proofs.Steps.{places_are, targets, sources}
use Rattle.vd_space_api.proofs.Amounts.{handed_small}

emptied_is : (o : Option ℕ) (d : ℤ) → d ≡ neg_ℤ (pos (unwrap_or o 0)) → option_map pos (option_map (λ v. 0) o) ≡ option_map (λ v. v +ℤ d) (option_map pos o)
emptied_is None d is = refl
emptied_is (Some v) d is = ap Some (omega (arith, ints, is))

raised_is : (o : Option ℕ) (amount : ℕ) (d : ℤ) → d ≡ pos amount → option_map pos (option_map (λ v. v + amount) o) ≡ option_map (λ v. v +ℤ d) (option_map pos o)
raised_is None amount d is = refl
raised_is (Some v) amount d is = ap Some (omega (arith, ints, is))

module _ (problem : Problem) (few : length problem.hosts ≤ 4) (candidates : List (List Bool)) (can : candidates ≡ map (candidates_of problem) problem.slots)
    (at : ℕ) (u : Use) (found : slice_get problem.uses at ≡ Some u) (low_source : u.source.0 < length problem.slots) (low_target : u.target.0 < length problem.slots) where
  abbrev many : ℕ
  many = length (protocols problem)

  module _ (ledger : Ledger) (table : IsTable problem (terms_after problem ledger.shifts) ledger.terms) where
    abbrev taken : List ℕ
    taken = amounts_of (row_at ledger.terms u.target.0)

    abbrev given : List ℕ
    given = given_by (protocols problem) candidates u ledger

    abbrev between : Ledger
    between = with_taken at u.target.0 ledger

    row_size : length (row_at ledger.terms u.target.0) ≡ many
    row_size = table.places u.target.0 low_target

    taken_size : length taken ≡ many
    taken_size = length-map (row_at ledger.terms u.target.0) (λ o. unwrap_or o 0) ∙ row_size

    given_size : length given ≡ many
    given_size = size_by many (λ p. unwrap_or (if_passes (get_or (places_at candidates u.source.0) p false) (given_from (protocols problem) u.weight (places_at candidates u.target.0) taken (proto_in (protocols problem) p))) 0)

    within_taken : (p : ℕ) → p < many → p < length taken
    within_taken p low = omega (arith, taken_size)

    within_given : (p : ℕ) → p < many → p < length given
    within_given p low = omega (arith, given_size)

    -- ---- from the target

    between_table : IsTable problem (terms_after problem between.shifts) between.terms
    between_table = shifted_table problem ledger.shifts (made at 1 false taken (length taken)) ledger.terms u.target.0 (emptied_of (row_at ledger.terms u.target.0)) table low_target
        (length-map (row_at ledger.terms u.target.0) (λ o. option_map (λ v. 0) o) ∙ row_size)
        (λ s p other low. slot_other problem at u found 1 false s p taken (length taken) (within_taken p low) (λ same. other (sym same)))
        (λ p low.
        ap (option_map pos) (emptied_at (row_at ledger.terms u.target.0) p)
        ∙ emptied_is (get_or (row_at ledger.terms u.target.0) p None) (total (slot_shift problem u.target.0 p) (made at 1 false taken (length taken)))
        (slot_at problem at u found 1 false u.target.0 p taken (length taken) (within_taken p low) refl ∙ ap (λ a. neg_ℤ (pos a)) (amount_at_is (row_at ledger.terms u.target.0) p)))

    between_shifts : between.shifts ≡ in_list_order (from_target problem at u) many ledger.shifts
    between_shifts = ap (λ n. ledger.shifts ++ made at 1 false taken n) taken_size ∙ sym (targets problem at u found ledger.shifts ledger.terms table low_target many (omega arith))

    -- ---- to the source

    module _ (unused : (number p q : ℕ) → number < at + 1 → total (use_shift number p q) ledger.shifts ≡ pos 0) where
      held : (p q : ℕ) → q < many → total (use_shift at p q) between.shifts ≡ neg_ℤ (pos (get_or taken q 0))
      held p q low =
          let split = total_append (use_shift at p q) ledger.shifts (made at 1 false taken (length taken)) in
          let none = unused at p q (omega arith) in
          let here = target_at at at p q false taken (length taken) (within_taken q low) refl in
          omega (arith, ints, split, none, here)

      next_shifts : (handed_on (protocols problem) candidates at u ledger).shifts ≡ in_list_order (to_source problem at u) many (in_list_order (from_target problem at u) many ledger.shifts)
      next_shifts =
          ap (λ n. between.shifts ++ made at 0 true given n) given_size
          ∙ sym (sources problem at u found between.shifts (places_at candidates u.source.0) (places_at candidates u.target.0) taken
          (λ p low. places_are problem candidates u.source.0 p can low) (λ q low. places_are problem candidates u.target.0 q can low) held many (omega arith))
          ∙ ap (in_list_order (to_source problem at u) many) between_shifts

      next_unused : (number p q : ℕ) → number < at → total (use_shift number p q) (handed_on (protocols problem) candidates at u ledger).shifts ≡ pos 0
      next_unused number p q low =
          let other : at ≡ number → ⊥ = λ same. absurd (omega (arith, same)) in
          let split = total_append (use_shift number p q) between.shifts (made at 0 true given (length given)) in
          let front = total_append (use_shift number p q) ledger.shifts (made at 1 false taken (length taken)) in
          let none = unused number p q (omega arith) in
          let first = target_other number at p q false other taken (length taken) in
          let second = source_other number at p q true other given (length given) in
          omega (arith, ints, split, front, none, first, second)

    next_table : IsTable problem (terms_after problem (handed_on (protocols problem) candidates at u ledger).shifts) (handed_on (protocols problem) candidates at u ledger).terms
    next_table =
        let row = row_at between.terms u.source.0 in
        let size : length row ≡ many = between_table.places u.source.0 low_source in
        shifted_table problem between.shifts (made at 0 true given (length given)) between.terms u.source.0 (raised_of row given) between_table low_source
        (size_by (length row) (λ p. option_map (λ v. v + get_or given p 0) (get_or row p None)) ∙ size)
        (λ s p other low. slot_other problem at u found 0 true s p given (length given) (within_given p low) (λ same. other (sym same)))
        (λ p low.
        let here : p < length row = omega (arith, size, low) in
        ap (option_map pos) (raised_at row given p here)
        ∙ raised_is (get_or row p None) (get_or given p 0) (total (slot_shift problem u.source.0 p) (made at 0 true given (length given))) (slot_at problem at u found 0 true u.source.0 p given (length given) (within_given p low) refl))

    -- ---- how much there is to hand on

    priced : (p q : ℕ) → unwrap_or (move_at (proto_in (protocols problem) p) (proto_in (protocols problem) q)) 0 ≤ 212
    priced p q = move_price (protocol problem p) (protocol problem q) (small problem few p) (small problem few q)

    given_low : (most p : ℕ) → ((q : ℕ) → 212 * u.weight + get_or taken q 0 ≤ most) → get_or given p 0 ≤ most
    given_low most p each = elim (listed_or_not many p) [
      | inl low ↦
          let from = proto_in (protocols problem) p in
          let targets_ = places_at candidates u.target.0 in
          let least : unwrap_or (given_from (protocols problem) u.weight targets_ taken from) 0 ≤ most =
          least_low many (given_at (protocols problem) u.weight targets_ taken from) most (λ q.
          let cost = weighed_low u.weight 212 (move_at from (proto_in (protocols problem) q)) (priced p q) in
          let sum = more_low (weighed u.weight (move_at from (proto_in (protocols problem) q))) (get_or taken q 0) (212 * u.weight) cost in
          let room = each q in
          passes_low (get_or targets_ q false) (option_map (λ v. v + get_or taken q 0) (weighed u.weight (move_at from (proto_in (protocols problem) q)))) most (omega (arith, sum, room))) in
          subst (λ n. n ≤ most) (sym (at_by many (λ r. unwrap_or (if_passes (get_or (places_at candidates u.source.0) r false) (given_from (protocols problem) u.weight targets_ taken (proto_in (protocols problem) r))) 0) p 0 low))
          (passes_low (get_or (places_at candidates u.source.0) p false) (given_from (protocols problem) u.weight targets_ taken from) most least)
      | inr past ↦
          let none = get_or_past given p 0 (omega (arith, given_size, past)) in
          omega (arith, none)
    ]

    low_in_terms : u.target.0 < length ledger.terms
    low_in_terms = let slots = table.slots in omega (arith, slots, low_target)

    given_room : (p : ℕ) → heft greatest between.terms + get_or given p 0 ≤ heft greatest ledger.terms + 212 * u.weight
    given_room p =
        let first = taken_burden ledger.terms u.target.0 0 low_in_terms in
        let room = heft greatest ledger.terms - heft greatest between.terms in
        let amount = given_low (212 * u.weight + room) p (λ q. let here = taken_burden ledger.terms u.target.0 q low_in_terms in omega (arith, here)) in
        omega (arith, first, amount)

    next_heft : heft greatest (handed_on (protocols problem) candidates at u ledger).terms ≤ heft greatest ledger.terms + 212 * u.weight
    next_heft =
        let slots = between_table.slots in
        given_burden between.terms u.source.0 given (heft greatest ledger.terms + 212 * u.weight) (omega (arith, slots, low_source)) given_room

    here_is : get_or problem.uses at u ≡ u
    here_is = get_or_from_slice_get problem.uses at u u found

    low_use : at < length problem.uses
    low_use = slice_get_within problem.uses at u found

    take_heft : heft (λ (v : Use). 212 * v.weight) (take (at + 1) problem.uses) ≡ heft (λ (v : Use). 212 * v.weight) (take at problem.uses) + 212 * u.weight
    take_heft =
        let more = heft_append (λ (v : Use). 212 * v.weight) (take at problem.uses) (u ∷ []) in
        let split = ap (heft (λ (v : Use). 212 * v.weight)) (take_more problem.uses at u low_use ∙ ap (λ v. take at problem.uses ++ v ∷ []) here_is) in
        omega (arith, more, split)

    rest_is : drop at problem.uses ≡ u ∷ drop (at + 1) problem.uses
    rest_is = drop_more problem.uses at u low_use ∙ ap (λ v. v ∷ drop (at + 1) problem.uses) here_is

  -- numbers stay small
  pub next_small : (ledger : Ledger) → IsHandedOn problem (at + 1) ledger → AreSmall (given_by (protocols problem) candidates u ledger)
  next_small ledger is p =
      let room = given_room ledger is.terms p in
      let uses = take_heft ledger is.terms in
      let light = is.light in
      omega (arith, room, uses, light)

  -- the terms are small
  small_at : (ledger : Ledger) → IsHandedOn problem (at + 1) ledger → AreSmallTerms ledger.terms
  small_at ledger is slot p =
      let light = is.light in
      let low = small_terms ledger.terms 111673344 (omega (arith, light)) slot p in
      omega (arith, low)

  -- a use more
  pub next : (ledger : Ledger) → IsHandedOn problem (at + 1) ledger → IsHandedOn problem at (handed_on (protocols problem) candidates at u ledger)
  next ledger is =
      let grows = next_heft ledger is.terms in
      let uses = take_heft ledger is.terms in
      let light = is.light in
      record {
        shifts = next_shifts ledger is.terms is.unused
            ∙ ap (λ before. in_list_order (to_source problem at u) many (in_list_order (from_target problem at u) many before)) is.shifts
            ∙ ap (usual_from problem at) (sym (rest_is ledger is.terms));
        small = handed_small at u.source.0 u.target.0 (given_by (protocols problem) candidates u ledger) ledger (small_at ledger is) (next_small ledger is) is.small;
        terms = next_table ledger is.terms;
        unused = next_unused ledger is.terms is.unused;
        light = omega (arith, grows, uses, light);
      }

pub are_small : (problem : Problem) (at : ℕ) (ledger : Ledger) → IsHandedOn problem at ledger → AreSmallTerms ledger.terms
are_small problem at ledger is slot p =
    let light = is.light in
    let low = small_terms ledger.terms 111673344 (omega (arith, light)) slot p in
    omega (arith, low)
