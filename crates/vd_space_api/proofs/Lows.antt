-- The bound of a prefix is that natural number.
use Rattle.std.proofs.Common.{◌≡◌, ℕ, Bool, true, false, cond, Option, Some, None, List, [], ◌∷◌, length, map, refl, ap, ◌∙◌, arith, ℤ, pos, slice_get}
use Rattle.std.specs.Prelude.{option_map, unwrap_or}
use Rattle.std.specs.Option.{option_and_then}
use Rattle.std.proofs.lemmas.Int.{ints}
use Rattle.vd_base.specs.Costs.{cost_at}
use Rattle.vd_space.specs.declared.problem.Problem.{Problem}
use Rattle.vd_space.specs.declared.problem.Making.{Making}
use Rattle.vd_space.specs.declared.problem.Use.{Use}
use Rattle.vd_space.specs.declared.problem.Output.{Output}
use Rattle.vd_space.specs.declared.problem.Guard.{Guard}
use Rattle.vd_space.specs.declared.problem.Index.{Index}
use Rattle.vd_space.specs.Validity.{protocols, protocol, move, move_to_host, all_hosts, takes_part}
use Rattle.vd_space.specs.Costs.{One, Pair, weigh, moves_to, hosts_at, operation_term, output_term, use_term, index_term, guard_term, total, slots_of}
use Rattle.vd_space.specs.Bounds.{may_stand, only_if, least_at, nothing_left, least_one, least_pair, low}
use Rattle.vd_space.specs.Sizes.{heft}
use Rattle.vd_space.proofs.Front.{total_append, total_map}
use Rattle.vd_space_api.specs.Rows.{if_passes, weighed}
use Rattle.vd_space_api.proofs.Numbers.{if_pos, weigh_pos, least_pos}
use Rattle.vd_space_api.specs.Low.{least_place, number_left, operation_number, told_number, use_number, index_number, least_operation, least_told, least_output, least_use, least_index, guard_number, least_guard, low_number}

total_heft : {X : Type 0} (f : X → ℤ) (g : X → ℕ) → ((x : X) → f x ≡ pos (g x)) → (xs : List X) → total f xs ≡ pos (heft g xs)
total_heft f g same [] = refl
total_heft f g same (x ∷ xs) = let here = same x in let rest = total_heft f g same xs in omega (arith, ints, here, rest)

left_pos : (o : Option ℕ) → unwrap_or (option_map pos o) nothing_left ≡ pos (number_left o)
left_pos None = refl
left_pos (Some n) = refl

module _ (problem : Problem) (prefix : List ℕ) where
  least_at_pos : (slot : ℕ) (value : ℕ → Option ℤ) (number : ℕ → Option ℕ) → ((p : ℕ) → value p ≡ option_map pos (number p)) → least_at problem prefix slot value ≡ option_map pos (least_place problem prefix slot number)
  least_at_pos slot value number same =
      least_pos (length (protocols problem)) (λ p. only_if (may_stand problem prefix slot p) (value p)) (λ p. if_passes (may_stand problem prefix slot p) (number p))
      (λ p low. ap (only_if (may_stand problem prefix slot p)) (same p) ∙ if_pos (may_stand problem prefix slot p) (number p))

  one_pos : (one : One) (number : ℕ → Option ℕ) → ((p : ℕ) → one.value p ≡ option_map pos (number p)) → least_one problem prefix one ≡ pos (number_left (least_place problem prefix one.slot number))
  one_pos one number same = ap (λ o. unwrap_or o nothing_left) (least_at_pos one.slot one.value number same) ∙ left_pos (least_place problem prefix one.slot number)

  pair_pos : (pair : Pair) (number : ℕ → ℕ → Option ℕ) → ((p q : ℕ) → pair.value p q ≡ option_map pos (number p q))
      → least_pair problem prefix pair ≡ pos (number_left (least_place problem prefix pair.first (λ p. least_place problem prefix pair.second (number p))))
  pair_pos pair number same =
      ap (λ o. unwrap_or o nothing_left)
      (least_at_pos pair.first (λ p. least_at problem prefix pair.second (pair.value p)) (λ p. least_place problem prefix pair.second (number p)) (λ p. least_at_pos pair.second (pair.value p) (number p) (same p)))
      ∙ left_pos (least_place problem prefix pair.first (λ p. least_place problem prefix pair.second (number p)))

  operation_same : (p : ℕ) (item : Option Making) → option_and_then (λ making. weigh making.weight (cost_at making.row (protocol problem p))) item ≡ option_map pos (option_and_then (λ making. weighed making.weight (cost_at making.row (protocol problem p))) item)
  operation_same p None = refl
  operation_same p (Some making) = weigh_pos making.weight (cost_at making.row (protocol problem p))

  operation_pos : (slot : ℕ) → least_one problem prefix (operation_term problem slot) ≡ pos (least_operation problem prefix slot)
  operation_pos slot = one_pos (operation_term problem slot) (operation_number problem slot) (λ p. operation_same p (slice_get problem.slots slot))

  output_pos : (o : Output) → least_one problem prefix (output_term problem o) ≡ pos (least_output problem prefix o)
  output_pos o = one_pos (output_term problem o) (told_number problem o.weight o.host) (λ p. weigh_pos o.weight (move_to_host problem o.host p))

  use_pos : (u : Use) → least_pair problem prefix (use_term problem u) ≡ pos (least_use problem prefix u)
  use_pos u = pair_pos (use_term problem u) (use_number problem u) (λ p q. weigh_pos u.weight (move problem p q))

  index_pos : (i : Index) → least_pair problem prefix (index_term problem i) ≡ pos (least_index problem prefix i)
  index_pos i = pair_pos (index_term problem i) (index_number problem i) (λ p q. weigh_pos i.weight (moves_to problem q (hosts_at problem p)))

  if_part : (part : Bool) (z : ℤ) (n : ℕ) → z ≡ pos n → cond part z (pos 0) ≡ pos (cond part n 0)
  if_part true z n same = same
  if_part false z n same = refl

  guard_pos : (guard : Guard) → total (λ h. cond (takes_part problem prefix guard h) (least_one problem prefix (guard_term problem guard h)) (pos 0)) (all_hosts problem) ≡ pos (least_guard problem prefix guard)
  guard_pos guard = total_heft (λ h. cond (takes_part problem prefix guard h) (least_one problem prefix (guard_term problem guard h)) (pos 0)) (guard_number problem prefix guard)
      (λ h. if_part (takes_part problem prefix guard h) (least_one problem prefix (guard_term problem guard h)) (least_told problem prefix guard.slot.0 guard.weight h)
      (one_pos (guard_term problem guard h) (told_number problem guard.weight h) (λ p. weigh_pos guard.weight (move_to_host problem h p)))) (all_hosts problem)

  pub low_is : low problem prefix ≡ pos (low_number problem prefix)
  low_is =
      let one_sums = total_append (least_one problem prefix) (map (operation_term problem) (slots_of problem)) (map (output_term problem) problem.outputs) in
      let operations = total_map (least_one problem prefix) (operation_term problem) (slots_of problem) ∙ total_heft (λ slot. least_one problem prefix (operation_term problem slot)) (least_operation problem prefix) operation_pos (slots_of problem) in
      let outputs = total_map (least_one problem prefix) (output_term problem) problem.outputs ∙ total_heft (λ o. least_one problem prefix (output_term problem o)) (least_output problem prefix) output_pos problem.outputs in
      let pair_sums = total_append (least_pair problem prefix) (map (use_term problem) problem.uses) (map (index_term problem) problem.indexes) in
      let uses = total_map (least_pair problem prefix) (use_term problem) problem.uses ∙ total_heft (λ u. least_pair problem prefix (use_term problem u)) (least_use problem prefix) use_pos problem.uses in
      let indexes = total_map (least_pair problem prefix) (index_term problem) problem.indexes ∙ total_heft (λ i. least_pair problem prefix (index_term problem i)) (least_index problem prefix) index_pos problem.indexes in
      let guards = total_heft (λ guard. total (λ h. cond (takes_part problem prefix guard h) (least_one problem prefix (guard_term problem guard h)) (pos 0)) (all_hosts problem)) (least_guard problem prefix) guard_pos problem.guards in
      omega (arith, ints, one_sums, operations, outputs, pair_sums, uses, indexes, guards)
