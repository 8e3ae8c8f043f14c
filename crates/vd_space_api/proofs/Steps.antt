-- The shifts that the two steps of a use make.
use Rattle.std.proofs.Common.{◌≡◌, ℕ, zero, suc, ◌+◌, ◌<◌, ◌≤◌, Bool, true, false, cond, Option, Some, None, List, [], ◌∷◌, ◌++◌, length, get_or, map, refl, sym, ap, ap₂, ◌∙◌, arith, ℤ, pos, neg_ℤ, ◌-ℤ◌, slice_get, append_assoc, append-nil}
use Rattle.std.specs.Prelude.{option_map, unwrap_or}
use Rattle.std.specs.Option.{option_map_or}
use Rattle.std.proofs.lemmas.Int.{ints}
use Rattle.vd_search_tree.specs.declared.shift.Shift.{Shift}
use Rattle.vd_space.specs.declared.problem.Problem.{Problem}
use Rattle.vd_space.specs.declared.problem.Making.{Making}
use Rattle.vd_space.specs.declared.problem.Use.{Use}
use Rattle.vd_space.specs.Validity.{protocols, can_stand, is_candidate, move}
use Rattle.vd_space.specs.Costs.{total, weigh}
use Rattle.vd_space.specs.Bounds.{only_if, least_at, shifted_use, slot_shift, use_shift}
use Rattle.vd_space.specs.Usual.{with_amount, shift_to, from_target, to_source, in_list_order}
use Rattle.vd_space.proofs.Front.{total_append}
use Rattle.vd_space_api.specs.Rows.{if_passes, weighed, amounts_of, given_at, given_from, givens_of}
use Rattle.vd_base.specs.Holders.{proto_in}
use Rattle.vd_space_api.specs.Terms.{row_at, candidates_of, IsTable, terms_after}
use Rattle.vd_space_api.specs.Ledger.{one_shift, made}
use Rattle.vd_space_api.proofs.Numbers.{if_pos, least_pos}
use Rattle.vd_space_api.proofs.Burden.{amount_at_is, at_by, size_by}
use Rattle.vd_space_api.proofs.Sums.{slot_past, source_past}
use Rattle.vd_space_api.proofs.Tables.{more_shifts, shift_none}

if_amount : (test : Bool) (value : Option ℤ) (shift : ℕ → Shift) (shifts : List Shift) → cond test (with_amount value shift shifts) shifts ≡ with_amount (only_if test value) shift shifts
if_amount true value shift shifts = refl
if_amount false value shift shifts = refl

amount_made : (o : Option ℕ) (at side p : ℕ) (add : Bool) (shifts : List Shift) → with_amount (option_map pos o) (shift_to at side p add) shifts ≡ shifts ++ one_shift at side add p (unwrap_or o 0)
amount_made None at side p add shifts = sym (append-nil shifts)
amount_made (Some zero) at side p add shifts = sym (append-nil shifts)
amount_made (Some (suc n)) at side p add shifts = refl

module _ (problem : Problem) where
  abbrev many : ℕ
  many = length (protocols problem)

  -- ---- where slots can stand

  places_from : (makings : List Making) (slot p : ℕ) → p < many → get_or (get_or (map (candidates_of problem) makings) slot []) p false ≡ option_map_or (λ making. can_stand problem making p) (slice_get makings slot) false
  places_from [] slot p low = refl
  places_from (making ∷ makings) zero p low = at_by many (can_stand problem making) p false low
  places_from (making ∷ makings) (suc slot) p low = places_from makings slot p low

  pub places_are : (candidates : List (List Bool)) (slot p : ℕ) → candidates ≡ map (candidates_of problem) problem.slots → p < many → get_or (get_or candidates slot []) p false ≡ is_candidate problem slot p
  places_are candidates slot p is low = ap (λ c. get_or (get_or c slot []) p false) is ∙ places_from problem.slots slot p low

  size_from : (makings : List Making) (slot : ℕ) → slot < length makings → length (get_or (map (candidates_of problem) makings) slot []) ≡ many
  size_from [] slot low = absurd (omega arith)
  size_from (making ∷ makings) zero low = size_by many (can_stand problem making)
  size_from (making ∷ makings) (suc slot) low = size_from makings slot (omega arith)

  pub places_size : (candidates : List (List Bool)) (slot : ℕ) → candidates ≡ map (candidates_of problem) problem.slots → slot < length problem.slots → length (get_or candidates slot []) ≡ many
  places_size candidates slot is low = ap (λ c. length (get_or c slot [])) is ∙ size_from problem.slots slot low

  module _ (at : ℕ) (u : Use) (found : slice_get problem.uses at ≡ Some u) where
    -- ---- from the target

    module _ (shifts : List Shift) (terms : List (List (Option ℕ))) (is : IsTable problem (terms_after problem shifts) terms) (low : u.target.0 < length problem.slots) where
      abbrev row : List (Option ℕ)
      row = row_at terms u.target.0

      pub targets : (k : ℕ) → k ≤ many → in_list_order (from_target problem at u) k shifts ≡ shifts ++ made at 1 false (amounts_of row) k
      targets zero within = sym (append-nil shifts)
      targets (suc k) within =
          let before = shifts ++ made at 1 false (amounts_of row) k in
          let unchanged : terms_after problem before u.target.0 k ≡ terms_after problem shifts u.target.0 k =
          more_shifts problem shifts (made at 1 false (amounts_of row) k) u.target.0 k
          ∙ shift_none problem (terms_after problem shifts u.target.0 k) (total (slot_shift problem u.target.0 k) (made at 1 false (amounts_of row) k)) (slot_past problem at u found 1 false u.target.0 k (amounts_of row) k (omega arith)) in
          ap (from_target problem at u k) (targets k (omega arith))
          ∙ if_amount (is_candidate problem u.target.0 k) (terms_after problem before u.target.0 k) (shift_to at 1 k false) before
          ∙ ap (λ o. with_amount (only_if (is_candidate problem u.target.0 k) o) (shift_to at 1 k false) before) unchanged
          ∙ ap (λ o. with_amount o (shift_to at 1 k false) before) (sym (is.terms u.target.0 k low (omega arith)))
          ∙ amount_made (get_or row k None) at 1 k false before
          ∙ ap (λ a. before ++ one_shift at 1 false k a) (sym (amount_at_is row k))
          ∙ append_assoc shifts (made at 1 false (amounts_of row) k) (one_shift at 1 false k (get_or (amounts_of row) k 0))

    -- ---- to the source

    use_is : (weight amount : ℕ) (price : Option ℕ) (taken : ℤ) → taken ≡ neg_ℤ (pos amount) → option_map (λ v. v -ℤ taken) (weigh weight price) ≡ option_map pos (option_map (λ v. v + amount) (weighed weight price))
    use_is weight amount None taken is = refl
    use_is weight amount (Some c) taken is = ap Some (omega (arith, ints, is))

    module _ (shifts : List Shift) (sources_ targets_ : List Bool) (taken : List ℕ)
        (can_source : (p : ℕ) → p < many → get_or sources_ p false ≡ is_candidate problem u.source.0 p)
        (can_target : (q : ℕ) → q < many → get_or targets_ q false ≡ is_candidate problem u.target.0 q)
        (held : (p q : ℕ) → q < many → total (use_shift at p q) shifts ≡ neg_ℤ (pos (get_or taken q 0))) where
      abbrev given : List ℕ
      given = givens_of (protocols problem) u.weight sources_ targets_ taken

      abbrev least : ℕ → Option ℕ
      least p = given_from (protocols problem) u.weight targets_ taken (proto_in (protocols problem) p)

      least_is : (k : ℕ) → least_at problem [] u.target.0 ((shifted_use problem (shifts ++ made at 0 true given k) at u).value k) ≡ option_map pos (least k)
      least_is k =
          least_pos many (λ q. only_if (is_candidate problem u.target.0 q) ((shifted_use problem (shifts ++ made at 0 true given k) at u).value k q))
          (given_at (protocols problem) u.weight targets_ taken (proto_in (protocols problem) k))
          (λ q low.
          let split = total_append (use_shift at k q) shifts (made at 0 true given k) in
          let past = source_past at at k q true given k (omega arith) in
          let before = held k q low in
          let whole : total (use_shift at k q) (shifts ++ made at 0 true given k) ≡ neg_ℤ (pos (get_or taken q 0)) = omega (arith, ints, split, past, before) in
          ap₂ only_if (sym (can_target q low)) (use_is u.weight (get_or taken q 0) (move problem k q) (total (use_shift at k q) (shifts ++ made at 0 true given k)) whole)
          ∙ if_pos (get_or targets_ q false) (option_map (λ v. v + get_or taken q 0) (weighed u.weight (move problem k q))))

      pub sources : (k : ℕ) → k ≤ many → in_list_order (to_source problem at u) k shifts ≡ shifts ++ made at 0 true given k
      sources zero within = sym (append-nil shifts)
      sources (suc k) within =
          let before = shifts ++ made at 0 true given k in
          let value = least_at problem [] u.target.0 ((shifted_use problem before at u).value k) in
          ap (to_source problem at u k) (sources k (omega arith))
          ∙ if_amount (is_candidate problem u.source.0 k) value (shift_to at 0 k true) before
          ∙ ap₂ (λ test o. with_amount (only_if test o) (shift_to at 0 k true) before) (sym (can_source k (omega arith))) (least_is k)
          ∙ ap (λ o. with_amount o (shift_to at 0 k true) before) (if_pos (get_or sources_ k false) (least k))
          ∙ amount_made (if_passes (get_or sources_ k false) (least k)) at 0 k true before
          ∙ ap (λ a. before ++ one_shift at 0 true k a) (sym (at_by many (λ p. unwrap_or (if_passes (get_or sources_ p false) (least p)) 0) k 0 (omega arith)))
          ∙ append_assoc shifts (made at 0 true given k) (one_shift at 0 true k (get_or given k 0))
