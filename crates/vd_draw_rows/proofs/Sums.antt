-- The terms of a problem at a valid list of protocols cost what the rows cost.
use Rattle.std.proofs.Common.{◌≡◌, ℕ, zero, suc, ◌+◌, ◌*◌, ◌<◌, Bool, true, false, cond, ◌||◌, Option, Some, None, List, [], ◌∷◌, ◌++◌, map, length, refl, sym, ap, ◌∙◌, subst, arith, ℤ, pos}
use Rattle.std.specs.Prelude.{unwrap_or, if◌then◌else◌, filter, option_map, option_and_then, slice_get, IsTrue}
use Rattle.std.specs.List.{AllByRecursion, list_any, range_with_len}
use Rattle.std.specs.Option.{option_map_or}
use Rattle.std.proofs.lemmas.Int.{ints}
use Rattle.std.proofs.lemmas.List.{length-map}
use Rattle.std.proofs.lemmas.List.FromFn.{map-range_with_len_more}
use Rattle.std.proofs.lemmas.Option.{slice_get-map, get_or_from_slice_get}
use Rattle.vd_base.specs.declared.ids.HostId.{HostId}
use Rattle.vd_base.specs.declared.ids.SlotId.{SlotId}
use Rattle.vd_base.specs.declared.protocols.Proto.{Proto}
use Rattle.vd_base.specs.declared.protocols.Proto.TheVariants.{Local}
use Rattle.vd_base.specs.HostSets.{host, hosts, same_host}
use Rattle.vd_base.specs.Costs.{cost_at}
use Rattle.vd_base.specs.Moves.{move_at}
use Rattle.vd_base.specs.Holders.{is_holder, proto_in}
use Rattle.vd_core.specs.declared.normal.NormalForm.{NormalForm}
use Rattle.vd_core.specs.Facts.{IsWellMade, slots_made}
use Rattle.vd_constraints.specs.declared.labels.Labels.{Labels}
use Rattle.vd_constraints.specs.Rules.{label}
use Rattle.vd_space.specs.declared.problem.Problem.{Problem}
use Rattle.vd_space.specs.declared.problem.Making.{Making}
use Rattle.vd_space.specs.declared.problem.Use.{Use}
use Rattle.vd_space.specs.declared.problem.Output.{Output}
use Rattle.vd_space.specs.declared.problem.Guard.{Guard}
use Rattle.vd_space.specs.declared.problem.Index.{Index}
use Rattle.vd_space.specs.Reading.{all_parts, read_stmt, problem_of}
use Rattle.vd_space.specs.Sizes.{heft}
use Rattle.vd_space.specs.Spaces.{IsUse, IsIndex, IsProblem}
use Rattle.vd_space.specs.Validity.{protocol, move, move_to_host, all_hosts, holds_at, takes_part, is_valid}
use Rattle.vd_space.specs.Costs.{weigh, operation_value, operation_term, output_term, use_term, index_term, guard_term, plus, moves_to, hosts_at, total, slots_of, guards_total, one_at, pair_at, cost}
use Rattle.vd_space.proofs.Front.{total_append, total_map, item_within, each_both, HasPair, indexes_have, is_problem, as_many}
use Rattle.vd_draw_rows.specs.Moves.{is_part, kept_at}
use Rattle.vd_draw_rows.specs.Rows.{rows_of}
use Rattle.vd_draw_rows.specs.Costs.{CostsAddUp, rows_cost}
use Rattle.vd_draw_rows.proofs.Terms.{tell_cost, told_cost, use_cost, output_cost, guard_cost, index_cost, making_cost, made_cost, parts_cost, body_tells}

-- ---- sums of numbers as sums of signed numbers

heft_total : {X : Type 0} (P : X → Type 0) (f : X → ℤ) (g : X → ℕ) → ((x : X) → P x → f x ≡ pos (g x)) → (xs : List X) → AllByRecursion P xs → total f xs ≡ pos (heft g xs)
heft_total P f g same [] each = refl
heft_total P f g same (x ∷ xs) each = let here = same x each.0 in let rest = heft_total P f g same xs each.1 in omega (arith, ints, here, rest)

-- a weighed number, where there is one
weighed : (w : ℕ) (o : Option ℕ) → unwrap_or (weigh w o) (pos 0) ≡ pos (w * unwrap_or o 0)
weighed w None = let zero : 0 ≡ w * 0 = omega arith in ap pos zero
weighed w (Some c) = refl

module _ (problem : Problem) (list : List ℕ) (full : length list ≡ length problem.slots) where
  abbrev protos : List Proto
  protos = map (protocol problem) list

  abbrev many : ℕ
  many = length problem.slots

  abbrev count : ℕ
  count = length problem.hosts

  -- where a slot stands
  placed : (s : SlotId) (q : ℕ) → slice_get list s.0 ≡ Some q → proto_in protos s.0 ≡ protocol problem q
  placed s q is = get_or_from_slice_get protos s.0 (protocol problem q) _ (slice_get-map (protocol problem) list s.0 ∙ ap (option_map (protocol problem)) is)

  stands : (s : ℕ) → s < many → (q : ℕ) × (slice_get list s ≡ Some q)
  stands s low = item_within list s (subst (λ k. s < k) (sym full) low)

  -- ---- terms of one slot and of two

  told_at : (w : ℕ) (s : SlotId) (h : HostId) → s.0 < many → one_at list (record { slot = s.0; value = λ q. weigh w (move_to_host problem h q) }) ≡ pos (w * tell_cost protos count s h)
  told_at w s h low =
      let at = stands s.0 low in
      ap (λ o. unwrap_or (option_and_then (λ q. weigh w (move_to_host problem h q)) o) (pos 0)) at.1
      ∙ weighed w (move_to_host problem h at.0)
      ∙ ap (λ p. pos (w * unwrap_or (move_at p (Local h)) 0)) (sym (placed s at.0 at.1))

  use_at : (u : Use) → IsUse many u → pair_at list (use_term problem u) ≡ pos (use_cost protos count u)
  use_at u low =
      let first = stands u.source.0 low.source in
      let second = stands u.target.0 low.target in
      ap (λ o. unwrap_or (option_and_then (λ p. option_and_then (λ q. weigh u.weight (move problem p q)) (slice_get list u.target.0)) o) (pos 0)) first.1
      ∙ ap (λ o. unwrap_or (option_and_then (λ q. weigh u.weight (move problem first.0 q)) o) (pos 0)) second.1
      ∙ weighed u.weight (move problem first.0 second.0)
      ∙ (λ i. pos (u.weight * unwrap_or (move_at (sym (placed u.source first.0 first.1) i) (sym (placed u.target second.0 second.1) i)) 0))

  -- ---- words that are told to hosts

  moves_are : (q : ℕ) (hs : List HostId) (m : ℕ) → moves_to problem q hs ≡ Some m → m ≡ heft (λ h. unwrap_or (move_to_host problem h q) 0) hs
  moves_are q [] m is = let e : 0 ≡ m = some_is 0 m is in sym e
    where
      some_is : (a b : ℕ) → Some a ≡ Some b → a ≡ b
      some_is a b e = ap (λ o. unwrap_or o 0) e
  moves_are q (h ∷ hs) m is = by_parts (move_to_host problem h q) (moves_to problem q hs) (λ k e. moves_are q hs k e) refl refl is
    where
      by_parts : (a b : Option ℕ) → ((k : ℕ) → moves_to problem q hs ≡ Some k → k ≡ heft (λ h. unwrap_or (move_to_host problem h q) 0) hs) → move_to_host problem h q ≡ a → moves_to problem q hs ≡ b → plus a b ≡ Some m → m ≡ unwrap_or (move_to_host problem h q) 0 + heft (λ h. unwrap_or (move_to_host problem h q) 0) hs
      by_parts None b others first second e = absurd cc
      by_parts (Some x) None others first second e = absurd cc
      by_parts (Some x) (Some y) others first second e =
          let sum : x + y ≡ m = ap (λ o. unwrap_or o 0) e in
          let here : unwrap_or (move_to_host problem h q) 0 ≡ x = ap (λ o. unwrap_or o 0) first in
          let rest : y ≡ heft (λ h. unwrap_or (move_to_host problem h q) 0) hs = others y second in
          omega (arith, sum, here, rest)

  -- a test of the first hosts, one after another
  hosts_more : (n : ℕ) → hosts (suc n) ≡ hosts n ++ host n ∷ []
  hosts_more n = subst (λ k. map host (range_with_len 0 k) ≡ hosts n ++ host n ∷ []) (one_more n) (map-range_with_len_more host 0 n n (from_zero n))
    where
      one_more : (n : ℕ) → n + 1 ≡ suc n
      one_more n = omega arith

      from_zero : (n : ℕ) → 0 + n ≡ n
      from_zero n = omega arith

  filter_last : (test : HostId → Bool) (f : HostId → ℕ) (hs : List HostId) (h : HostId) → heft f (filter test (hs ++ h ∷ [])) ≡ heft f (filter test hs) + (if test h then f h else 0)
  filter_last test f [] h = by_test (test h) refl
    where
      by_test : (b : Bool) → test h ≡ b → heft f (filter test (h ∷ [])) ≡ 0 + (if test h then f h else 0)
      by_test true e = ap (λ b. heft f (cond b (h ∷ []) [])) e ∙ plain (f h) ∙ ap (λ b. 0 + (if b then f h else 0)) (sym e)
        where
          plain : (k : ℕ) → k + 0 ≡ 0 + k
          plain k = omega arith
      by_test false e = ap (λ b. heft f (cond b (h ∷ []) [])) e ∙ ap (λ b. 0 + (if b then f h else 0)) (sym e)
  filter_last test f (x ∷ hs) h = by_test (test x) (filter_last test f hs h) refl
    where
      by_test : (b : Bool) → heft f (filter test (hs ++ h ∷ [])) ≡ heft f (filter test hs) + (if test h then f h else 0) → test x ≡ b → heft f (filter test (x ∷ hs ++ h ∷ [])) ≡ heft f (filter test (x ∷ hs)) + (if test h then f h else 0)
      by_test true rest e =
          let long : heft f (filter test (x ∷ hs ++ h ∷ [])) ≡ f x + heft f (filter test (hs ++ h ∷ [])) = ap (λ b. heft f (cond b (x ∷ filter test (hs ++ h ∷ [])) (filter test (hs ++ h ∷ [])))) e in
          let short : heft f (filter test (x ∷ hs)) ≡ f x + heft f (filter test hs) = ap (λ b. heft f (cond b (x ∷ filter test hs) (filter test hs))) e in
          omega (arith, rest, long, short)
      by_test false rest e =
          let long : heft f (filter test (x ∷ hs ++ h ∷ [])) ≡ heft f (filter test (hs ++ h ∷ [])) = ap (λ b. heft f (cond b (x ∷ filter test (hs ++ h ∷ [])) (filter test (hs ++ h ∷ [])))) e in
          let short : heft f (filter test (x ∷ hs)) ≡ heft f (filter test hs) = ap (λ b. heft f (cond b (x ∷ filter test hs) (filter test hs))) e in
          omega (arith, rest, long, short)

  filtered : (s : SlotId) (test : HostId → Bool) (n : ℕ) → heft (tell_cost protos count s) (filter test (hosts n)) ≡ told_cost protos count s test n
  filtered s test zero = refl
  filtered s test (suc n) =
      ap (λ hs. heft (tell_cost protos count s) (filter test hs)) (hosts_more n)
      ∙ filter_last test (tell_cost protos count s) (hosts n) (host n)
      ∙ ap (λ k. k + (if test (host n) then tell_cost protos count s (host n) else 0)) (filtered s test n)

  -- an index, at each host at which its array is kept
  index_at : (i : Index) → IsIndex many i → HasPair problem list (index_term problem i) → pair_at list (index_term problem i) ≡ pos (index_cost protos count i)
  index_at i low has =
      let first = stands i.array.0 low.array in
      let second = stands i.index.0 low.index in
      let same_p : first.0 ≡ has.p = some_is first.0 has.p (sym first.1 ∙ has.first.decided) in
      let same_q : second.0 ≡ has.q = some_is second.0 has.q (sym second.1 ∙ has.second.decided) in
      let value : weigh i.weight (moves_to problem second.0 (hosts_at problem first.0)) ≡ Some has.v =
      (λ k. weigh i.weight (moves_to problem (same_q k) (hosts_at problem (same_p k)))) ∙ has.value in
      ap (λ o. unwrap_or (option_and_then (λ p. option_and_then (λ q. weigh i.weight (moves_to problem q (hosts_at problem p))) (slice_get list i.index.0)) o) (pos 0)) first.1
      ∙ ap (λ o. unwrap_or (option_and_then (λ q. weigh i.weight (moves_to problem q (hosts_at problem first.0))) o) (pos 0)) second.1
      ∙ by_moves (moves_to problem second.0 (hosts_at problem first.0)) refl value
    where
      some_is : (a b : ℕ) → Some a ≡ Some b → a ≡ b
      some_is a b e = ap (λ o. unwrap_or o 0) e

      first_ : (q : ℕ) × (slice_get list i.array.0 ≡ Some q)
      first_ = stands i.array.0 low.array

      second_ : (q : ℕ) × (slice_get list i.index.0 ≡ Some q)
      second_ = stands i.index.0 low.index

      by_moves : (o : Option ℕ) → moves_to problem second_.0 (hosts_at problem first_.0) ≡ o → weigh i.weight (moves_to problem second_.0 (hosts_at problem first_.0)) ≡ Some has.v
          → unwrap_or (weigh i.weight (moves_to problem second_.0 (hosts_at problem first_.0))) (pos 0) ≡ pos (index_cost protos count i)
      by_moves None is value = let none : weigh i.weight None ≡ Some has.v = ap (weigh i.weight) (sym is) ∙ value in absurd cc
      by_moves (Some m) is value =
          let sum : m ≡ heft (λ h. unwrap_or (move_to_host problem h second_.0) 0) (hosts_at problem first_.0) = moves_are second_.0 (hosts_at problem first_.0) m is in
          ap (λ o. unwrap_or (weigh i.weight o) (pos 0)) is
          ∙ ap (λ k. pos (i.weight * k)) sum
          ∙ (λ k. pos (i.weight * heft (λ h. unwrap_or (move_at (sym (placed i.index second_.0 second_.1) k) (Local h)) 0) (filter (is_holder (sym (placed i.array first_.0 first_.1) k)) (hosts count))))
          ∙ ap (λ k. pos (i.weight * k)) (filtered i.index (is_holder (proto_in protos i.array.0)) count)

  -- ---- guards

  kept_same : (h : HostId) (slots : List SlotId) → list_any (λ (s : SlotId). option_map_or (holds_at problem h) (slice_get list s.0) false) slots ≡ list_any (kept_at protos h) slots
  kept_same h [] = refl
  kept_same h (s ∷ slots) = λ i. one s i || kept_same h slots i
    where
      by_slot : (o : Option ℕ) → option_map_or (holds_at problem h) o false ≡ option_map_or (λ p. is_holder p h) (option_map (protocol problem) o) false
      by_slot None = refl
      by_slot (Some q) = refl

      one : (s : SlotId) → option_map_or (holds_at problem h) (slice_get list s.0) false ≡ kept_at protos h s
      one s = by_slot (slice_get list s.0) ∙ ap (λ o. option_map_or (λ p. is_holder p h) o false) (sym (slice_get-map (protocol problem) list s.0))

  part_same : (guard : Guard) (h : HostId) → takes_part problem list guard h ≡ is_part protos guard.slots guard.hosts h
  part_same guard h = ap (λ b. list_any (same_host h) guard.hosts || b) (kept_same h guard.slots)

  guard_sum : (guard : Guard) → guard.slot.0 < many → (n : ℕ)
      → total (λ h. if takes_part problem list guard h then one_at list (guard_term problem guard h) else pos 0) (hosts n) ≡ pos (guard.weight * told_cost protos count guard.slot (is_part protos guard.slots guard.hosts) n)
  guard_sum guard low zero = let none : 0 ≡ guard.weight * 0 = omega arith in ap pos none
  guard_sum guard low (suc n) =
      let f : HostId → ℤ = λ h. if takes_part problem list guard h then one_at list (guard_term problem guard h) else pos 0 in
      let before = guard_sum guard low n in
      let here : f (host n) ≡ pos (guard.weight * (if is_part protos guard.slots guard.hosts (host n) then tell_cost protos count guard.slot (host n) else 0)) =
      ap (λ b. if b then one_at list (guard_term problem guard (host n)) else pos 0) (part_same guard (host n)) ∙ by_test (is_part protos guard.slots guard.hosts (host n)) in
      let whole = ap (total f) (hosts_more n) in
      let split = total_append f (hosts n) (host n ∷ []) in
      let spread = spreads guard.weight (told_cost protos count guard.slot (is_part protos guard.slots guard.hosts) n) (if is_part protos guard.slots guard.hosts (host n) then tell_cost protos count guard.slot (host n) else 0) in
      omega (arith, ints, before, here, whole, split, spread)
    where
      spreads : (w a b : ℕ) → w * (a + b) ≡ w * a + w * b
      spreads w a b = omega arith

      by_test : (b : Bool) → (if b then one_at list (guard_term problem guard (host n)) else pos 0) ≡ pos (guard.weight * (if b then tell_cost protos count guard.slot (host n) else 0))
      by_test true = told_at guard.weight guard.slot (host n) low
      by_test false = let none : 0 ≡ guard.weight * 0 = omega arith in ap pos none

  -- ---- operations, slot by slot

  operation_at : (x : ℕ) (m : Making) → x < many → slice_get problem.slots x ≡ Some m → one_at list (operation_term problem x) ≡ pos (making_cost protos count x m)
  operation_at x m low is =
      let at = stands x low in
      ap (λ o. unwrap_or (option_and_then (operation_value problem x) o) (pos 0)) at.1
      ∙ ap (λ o. unwrap_or (option_and_then (λ (making : Making). weigh making.weight (cost_at making.row (protocol problem at.0))) o) (pos 0)) is
      ∙ weighed m.weight (cost_at m.row (protocol problem at.0))
      ∙ ap (λ p. pos (m.weight * unwrap_or (cost_at m.row p) 0)) (sym (placed (record { 0 = x }) at.0 at.1))

  operations_at : (x : ℕ) (ms : List Making) → ((k : ℕ) → slice_get problem.slots (x + k) ≡ slice_get ms k) → x + length ms ≡ many
      → total (one_at list) (map (operation_term problem) (range_with_len x (length ms))) ≡ pos (made_cost protos count (range_with_len x (length ms)) ms)
  operations_at x [] same fits = refl
  operations_at x (m ∷ ms) same fits =
      let none : x + 0 ≡ x = omega arith in
      let here = operation_at x m (omega (arith, fits)) (ap (slice_get problem.slots) (sym none) ∙ same 0) in
      let next : (k : ℕ) → slice_get problem.slots (x + 1 + k) ≡ slice_get ms k = λ k. let place_ : x + 1 + k ≡ x + suc k = omega arith in ap (slice_get problem.slots) place_ ∙ same (suc k) in
      let rest = operations_at (x + 1) ms next (omega (arith, fits)) in
      omega (arith, ints, here, rest)

module _ (source : List ℕ) (p : NormalForm) (l : Labels) (list : List ℕ) (is : IsWellMade p) (whole : length list ≡ length p.slots) (valid : IsTrue (is_valid (problem_of p l) list)) where
  problem : Problem
  problem = problem_of p l

  full : length list ≡ length (problem_of p l).slots
  full = whole ∙ sym (as_many p l is)

  known : IsProblem (problem_of p l)
  known = is_problem p l is

  as_many_hosts : length (problem_of p l).hosts ≡ length p.hosts
  as_many_hosts = length-map p.labels (label p) ∙ is.labels

  abbrev q : Problem
  q = problem_of p l

  abbrev protocols_ : List Proto
  protocols_ = map (protocol (problem_of p l)) list

  outputs_sum : total (one_at list) (map (output_term q) q.outputs) ≡ pos (heft (output_cost protocols_ (length q.hosts)) q.outputs)
  outputs_sum =
      total_map (one_at list) (output_term q) q.outputs
      ∙ heft_total (λ (o : Output). o.slot.0 < length q.slots) (λ o. one_at list (output_term q o)) (output_cost protocols_ (length q.hosts)) (λ o low. told_at q list full o.weight o.slot o.host low) q.outputs known.outputs

  uses_sum : total (pair_at list) (map (use_term q) q.uses) ≡ pos (heft (use_cost protocols_ (length q.hosts)) q.uses)
  uses_sum =
      total_map (pair_at list) (use_term q) q.uses
      ∙ heft_total (IsUse (length q.slots)) (λ u. pair_at list (use_term q u)) (use_cost protocols_ (length q.hosts)) (λ u low. use_at q list full u low) q.uses known.uses

  indexes_sum : total (pair_at list) (map (index_term q) q.indexes) ≡ pos (heft (index_cost protocols_ (length q.hosts)) q.indexes)
  indexes_sum =
      total_map (pair_at list) (index_term q) q.indexes
      ∙ heft_total (λ i. IsIndex (length q.slots) i × HasPair q list (index_term q i)) (λ i. pair_at list (index_term q i)) (index_cost protocols_ (length q.hosts)) (λ i low. index_at q list full i low.0 low.1) q.indexes
      (each_both (IsIndex (length q.slots)) (λ i. HasPair q list (index_term q i)) (λ i. IsIndex (length q.slots) i × HasPair q list (index_term q i)) (λ i low has. (low, has)) q.indexes known.indexes
      (each_unmap (HasPair q list) (index_term q) q.indexes (indexes_have q known list full valid)))
    where
      each_unmap : {X Y : Type 0} (P : Y → Type 0) (f : X → Y) (xs : List X) → AllByRecursion P (map f xs) → AllByRecursion (λ x. P (f x)) xs
      each_unmap P f [] each = tt
      each_unmap P f (x ∷ xs) each = (each.0, each_unmap P f xs each.1)

  guards_sum : guards_total q (one_at list) list ≡ pos (heft (guard_cost protocols_ (length q.hosts)) q.guards)
  guards_sum = heft_total (λ (guard : Guard). guard.slot.0 < length q.slots) (λ guard. total (λ h. if takes_part q list guard h then one_at list (guard_term q guard h) else pos 0) (all_hosts q)) (guard_cost protocols_ (length q.hosts))
      (λ guard low. guard_sum q list full guard low (length q.hosts)) q.guards known.guards

  operations_sum : total (one_at list) (map (operation_term q) (slots_of q)) ≡ pos (made_cost protocols_ (length q.hosts) (slots_made p.body) q.slots)
  operations_sum =
      operations_at q list full 0 q.slots (λ k. ap (slice_get q.slots) (plain k)) (plain (length q.slots))
      ∙ ap (λ xs. pos (made_cost protocols_ (length q.hosts) xs q.slots)) (ap (range_with_len 0) (as_many p l is) ∙ sym is.in_order)
    where
      plain : (k : ℕ) → 0 + k ≡ k
      plain k = omega arith

  sum_is : cost q list ≡ pos (parts_cost protocols_ (length q.hosts) (slots_made p.body) (all_parts (map (read_stmt l) p.body) 1))
  sum_is =
      let ones_are = total_append (one_at list) (map (operation_term q) (slots_of q)) (map (output_term q) q.outputs) in
      let pairs_are = total_append (pair_at list) (map (use_term q) q.uses) (map (index_term q) q.indexes) in
      omega (arith, ints, ones_are, pairs_are, operations_sum, outputs_sum, uses_sum, indexes_sum, guards_sum)

  rows_sum : pos (rows_cost (rows_of source p protocols_)) ≡ cost q list
  rows_sum =
      ap pos ((body_tells source p protocols_ l p.body).costs 1 1)
      ∙ ap (λ n. pos (parts_cost protocols_ n (slots_made p.body) (all_parts (map (read_stmt l) p.body) 1))) (sym as_many_hosts)
      ∙ sym sum_is

pub add_up : CostsAddUp
add_up source p l protocols made is =
    ap (λ (ps : List Proto). pos (rows_cost (rows_of source p ps))) is.named
    ∙ rows_sum source p l is.places made (is.is_valid.whole ∙ as_many p l made) is.is_valid.valid
