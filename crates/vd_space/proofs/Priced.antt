-- The cost of a list is at most so many times the weights of what has a cost.
use Rattle.std.proofs.Common.{◌≡◌, ℕ, suc, ◌+◌, ◌*◌, ◌^◌, ◌<◌, ◌≤◌, Bool, true, false, cond, Option, Some, None, ◌⊎◌, ltb, List, [], ◌∷◌, ◌++◌, map, filter, length, sym, ap, subst, arith, mul-le-mul_left, ℤ, pos, ◌+ℤ◌, ◌≤ℤ◌, inl, inr, slice_get}
use Rattle.std.specs.Prelude.{All, unwrap_or, if◌then◌else◌}
use Rattle.std.specs.List.{range_with_len}
use Rattle.std.specs.Option.{option_map_or, option_and_then}
use Rattle.std.proofs.Math.Nat.{pow-le-pow_right}
use Rattle.std.proofs.lemmas.Int.{ints}
use Rattle.std.proofs.lemmas.List.{length-map, get_or_past}
use Rattle.std.proofs.lemmas.List.Elements.{All-get_or}
use Rattle.std.proofs.lemmas.List.FromFn.{length-range_with_len}
use Rattle.std.proofs.lemmas.Bool.{cond-true, cond-false, cases_Bool, ltb-true, ltb-false}
use Rattle.vd_base.specs.Costs.{cost_at}
use Rattle.vd_base.specs.declared.ids.HostId.{HostId}
use Rattle.vd_base.specs.declared.protocols.HostSet.{HostSet}
use Rattle.vd_base.specs.declared.protocols.Proto.TheVariants.{Local}
use Rattle.vd_base.specs.HostSets.{host}
use Rattle.vd_space.specs.declared.problem.Problem.{Problem}
use Rattle.vd_space.specs.declared.problem.Making.{Making}
use Rattle.vd_space.specs.declared.problem.Use.{Use}
use Rattle.vd_space.specs.declared.problem.Output.{Output}
use Rattle.vd_space.specs.declared.problem.Guard.{Guard}
use Rattle.vd_space.specs.declared.problem.Index.{Index}
use Rattle.vd_space.specs.Validity.{protocols, protocol, move, move_to_host, all_hosts, holds_at, takes_part}
use Rattle.vd_space.specs.Costs.{Pair, weigh, plus, moves_to, hosts_at, operation_value, operation_term, output_term, use_term, index_term, guard_term, total, slots_of, one_at, pair_at, cost}
use Rattle.vd_space.specs.Sizes.{heft, amount}
use Rattle.vd_space.proofs.Listed.{all_listed}
use Rattle.vd_space.proofs.Prices.{IsSmall, row_price, move_price}
use Rattle.vd_space.proofs.Totals.{total_append, total_map}

-- ---- sums of weights

pub heft_append : {X : Type 0} (f : X → ℕ) (xs ys : List X) → heft f (xs ++ ys) ≡ heft f xs + heft f ys
heft_append f [] ys = omega arith
heft_append f (x ∷ xs) ys = let rest = heft_append f xs ys in omega (arith, rest)

heft_same : {X : Type 0} (most : ℕ) (xs : List X) → heft (λ x. most) xs ≡ most * length xs
heft_same most [] = omega arith
heft_same most (x ∷ xs) = let rest = heft_same most xs in omega (arith, rest)

pub listed_or_not : (many p : ℕ) → (p < many) ⊎ (many ≤ p)
listed_or_not many p = elim (cases_Bool (ltb p many)) [
  | inl less ↦ inl (ltb-true p many less)
  | inr not_less ↦ inr (ltb-false p many not_less)
]

-- ---- numbers from 0 up to a bound

pub record UpTo (most : ℕ) (z : ℤ) : Type 0 where
  pub low : pos 0 ≤ℤ z
  pub high : z ≤ℤ pos most

none_up : (most : ℕ) → UpTo most (pos 0)
none_up most = record { low = omega (arith, ints); high = omega (arith, ints) }

more_up : (less most : ℕ) (z : ℤ) → less ≤ most → UpTo less z → UpTo most z
more_up less most z within is = let high = is.high in record { low = is.low; high = omega (arith, ints, high) }

plus_up : (a b : ℕ) (x y : ℤ) → UpTo a x → UpTo b y → UpTo (a + b) (x +ℤ y)
plus_up a b x y first second =
    let first_low = first.low in let first_high = first.high in let second_low = second.low in let second_high = second.high in
    record { low = omega (arith, ints, first_low, second_low); high = omega (arith, ints, first_high, second_high) }

total_up : {X : Type 0} (f : X → ℤ) (bound : X → ℕ) → ((x : X) → UpTo (bound x) (f x)) → (xs : List X) → UpTo (heft bound xs) (total f xs)
total_up f bound each [] = none_up 0
total_up f bound each (x ∷ xs) = plus_up (bound x) (heft bound xs) (f x) (total f xs) (each x) (total_up f bound each xs)

appended_up : {X : Type 0} (f : X → ℤ) (xs ys : List X) (a b : ℕ) → UpTo a (total f xs) → UpTo b (total f ys) → UpTo (a + b) (total f (xs ++ ys))
appended_up f xs ys a b first second = subst (UpTo (a + b)) (sym (total_append f xs ys)) (plus_up a b (total f xs) (total f ys) first second)

mapped_up : {X Y : Type 0} (f : Y → ℤ) (g : X → Y) (bound : X → ℕ) → ((x : X) → UpTo (bound x) (f (g x))) → (xs : List X) → UpTo (heft bound xs) (total f (map g xs))
mapped_up f g bound each xs = subst (UpTo (heft bound xs)) (sym (total_map f g xs)) (total_up (λ x. f (g x)) bound each xs)

-- an item of a list, for each of its places
places_up : {X : Type 0} (f : ℕ → ℤ) (bound : X → ℕ) (look : ℕ → Option X) (first : ℕ) (xs : List X)
    → ((k : ℕ) → look (first + k) ≡ slice_get xs k) → ((k : ℕ) → UpTo (option_map_or bound (look k) 0) (f k)) → UpTo (heft bound xs) (total f (range_with_len first (length xs)))
places_up f bound look first [] same each = none_up 0
places_up f bound look first (x ∷ xs) same each =
    let here : look first ≡ Some x = subst (λ k. look k ≡ Some x) (omega arith) (same 0) in
    let later : (k : ℕ) → look (first + 1 + k) ≡ slice_get xs k = λ k. subst (λ j. look j ≡ slice_get xs k) (omega arith) (same (suc k)) in
    let head : UpTo (bound x) (f first) = subst (λ item. UpTo (option_map_or bound item 0) (f first)) here (each first) in
    plus_up (bound x) (heft bound xs) (f first) (total f (range_with_len (first + 1) (length xs))) head (places_up f bound look (first + 1) xs later each)

-- ---- terms

weigh_up : (most weight : ℕ) (price : Option ℕ) → unwrap_or price 0 ≤ most → UpTo (most * weight) (unwrap_or (weigh weight price) (pos 0))
weigh_up most weight None low = none_up (most * weight)
weigh_up most weight (Some c) low =
    let product : weight * c ≤ weight * most = mul-le-mul_left weight low in
    record { low = omega (arith, ints); high = omega (arith, ints, product) }

item_up : (value : ℕ → Option ℤ) (most : ℕ) → ((p : ℕ) → UpTo most (unwrap_or (value p) (pos 0))) → (item : Option ℕ) → UpTo most (unwrap_or (option_and_then value item) (pos 0))
item_up value most each None = none_up most
item_up value most each (Some p) = each p

plus_price : (a b : Option ℕ) (m n : ℕ) → unwrap_or a 0 ≤ m → unwrap_or b 0 ≤ n → unwrap_or (plus a b) 0 ≤ m + n
plus_price None b m n first second = omega (arith, second)
plus_price (Some a) None m n first second = omega arith
plus_price (Some a) (Some b) m n first second = omega (arith, first, second)

pub fewer : {X : Type 0} (test : X → Bool) (xs : List X) → length (filter test xs) ≤ length xs
fewer test [] = omega arith
fewer test (x ∷ xs) = elim (cases_Bool (test x)) [
  | inl passes ↦ let rest = fewer test xs in let here = ap length (cond-true (test x) (x ∷ filter test xs) (filter test xs) passes) in omega (arith, rest, here)
  | inr fails ↦ let rest = fewer test xs in let here = ap length (cond-false (test x) (x ∷ filter test xs) (filter test xs) fails) in omega (arith, rest, here)
]

module _ (problem : Problem) (few : length problem.hosts ≤ 4) where
  copies_small : (set : HostSet) → set.bits < 2 ^ length problem.hosts → set.bits < 2 ^ 4
  copies_small set low =
      let two : 0 < 2 = omega arith in
      let power : 2 ^ length problem.hosts ≤ 2 ^ 4 = pow-le-pow_right two few in
      omega (arith, low, power)

  all_small : All IsSmall (protocols problem)
  all_small = all_listed (length problem.hosts) IsSmall (λ h low. tt) copies_small (λ a b low low_b. (tt, (tt, tt)))

  pub small : (p : ℕ) → IsSmall (protocol problem p)
  small p = elim (listed_or_not (length (protocols problem)) p) [
    | inl within ↦ All-get_or IsSmall (protocols problem) p (Local (host 0)) within all_small
    | inr past ↦ subst IsSmall (sym (get_or_past (protocols problem) p (Local (host 0)) past)) tt
  ]

  move_up : (weight p q : ℕ) → UpTo (212 * weight) (unwrap_or (weigh weight (move problem p q)) (pos 0))
  move_up weight p q = weigh_up 212 weight (move problem p q) (move_price (protocol problem p) (protocol problem q) (small p) (small q))

  pub told_price : (h : HostId) (p : ℕ) → unwrap_or (move_to_host problem h p) 0 ≤ 212
  told_price h p = move_price (protocol problem p) (Local h) (small p) tt

  told_up : (weight : ℕ) (h : HostId) (p : ℕ) → UpTo (212 * weight) (unwrap_or (weigh weight (move_to_host problem h p)) (pos 0))
  told_up weight h p = weigh_up 212 weight (move_to_host problem h p) (told_price h p)

  moves_price : (p : ℕ) (among : List HostId) → unwrap_or (moves_to problem p among) 0 ≤ 212 * length among
  moves_price p [] = omega arith
  moves_price p (h ∷ among) =
      let both = plus_price (move_to_host problem h p) (moves_to problem p among) 212 (212 * length among) (told_price h p) (moves_price p among) in
      omega (arith, both)

  host_count : length (all_hosts problem) ≤ 4
  host_count = let many = length-map (range_with_len 0 (length problem.hosts)) host in let range = length-range_with_len 0 (length problem.hosts) in omega (arith, many, range, few)

  pub index_price : (p q : ℕ) → unwrap_or (moves_to problem q (hosts_at problem p)) 0 ≤ 848
  index_price p q =
      let all = moves_price q (hosts_at problem p) in
      let fewer_hosts = fewer (λ h. holds_at problem h p) (all_hosts problem) in
      let four = host_count in
      omega (arith, all, fewer_hosts, four)

  module _ (list : List ℕ) where
    operation_up : (p : ℕ) (making : Option Making) → UpTo (option_map_or (λ (m : Making). 220 * m.weight) making 0) (unwrap_or (option_and_then (λ (m : Making). weigh m.weight (cost_at m.row (protocol problem p))) making) (pos 0))
    operation_up p None = none_up 0
    operation_up p (Some m) = weigh_up 220 m.weight (cost_at m.row (protocol problem p)) (row_price m.row (protocol problem p) (small p))

    slot_up : (slot : ℕ) → UpTo (option_map_or (λ (m : Making). 220 * m.weight) (slice_get problem.slots slot) 0) (one_at list (operation_term problem slot))
    slot_up slot = item_up (operation_value problem slot) (option_map_or (λ (m : Making). 220 * m.weight) (slice_get problem.slots slot) 0) (λ p. operation_up p (slice_get problem.slots slot)) (slice_get list slot)

    output_up : (o : Output) → UpTo (212 * o.weight) (one_at list (output_term problem o))
    output_up o = item_up (output_term problem o).value (212 * o.weight) (told_up o.weight o.host) (slice_get list o.slot.0)

    pair_up : (pair : Pair) (most : ℕ) → ((p q : ℕ) → UpTo most (unwrap_or (pair.value p q) (pos 0))) → UpTo most (pair_at list pair)
    pair_up pair most each = item_up (λ p. option_and_then (pair.value p) (slice_get list pair.second)) most (λ p. item_up (pair.value p) most (each p) (slice_get list pair.second)) (slice_get list pair.first)

    use_up : (u : Use) → UpTo (212 * u.weight) (pair_at list (use_term problem u))
    use_up u = pair_up (use_term problem u) (212 * u.weight) (move_up u.weight)

    index_up : (i : Index) → UpTo (848 * i.weight) (pair_at list (index_term problem i))
    index_up i = pair_up (index_term problem i) (848 * i.weight) (λ p q. weigh_up 848 i.weight (moves_to problem q (hosts_at problem p)) (index_price p q))

    part_up : (part : Bool) (most : ℕ) (z : ℤ) → UpTo most z → UpTo most (cond part z (pos 0))
    part_up true most z is = is
    part_up false most z is = none_up most

    guard_up : (guard : Guard) → UpTo (848 * guard.weight) (total (λ h. if takes_part problem list guard h then one_at list (guard_term problem guard h) else pos 0) (all_hosts problem))
    guard_up guard =
        let each : (h : HostId) → UpTo (212 * guard.weight) (cond (takes_part problem list guard h) (one_at list (guard_term problem guard h)) (pos 0)) = λ h.
        part_up (takes_part problem list guard h) (212 * guard.weight) (one_at list (guard_term problem guard h)) (item_up (guard_term problem guard h).value (212 * guard.weight) (told_up guard.weight h) (slice_get list guard.slot.0)) in
        let all = total_up (λ h. cond (takes_part problem list guard h) (one_at list (guard_term problem guard h)) (pos 0)) (λ h. 212 * guard.weight) each (all_hosts problem) in
        let same = heft_same (212 * guard.weight) (all_hosts problem) in
        let four = host_count in
        let product : 212 * guard.weight * length (all_hosts problem) ≤ 212 * guard.weight * 4 = mul-le-mul_left (212 * guard.weight) four in
        more_up (heft (λ (h : HostId). 212 * guard.weight) (all_hosts problem)) (848 * guard.weight) (total (λ h. cond (takes_part problem list guard h) (one_at list (guard_term problem guard h)) (pos 0)) (all_hosts problem)) (omega (arith, same, product)) all

    pub cost_up : UpTo (amount problem.slots problem.uses problem.outputs problem.guards problem.indexes) (cost problem list)
    cost_up =
        let ones_up = appended_up (one_at list) (map (operation_term problem) (slots_of problem)) (map (output_term problem) problem.outputs) (heft (λ (m : Making). 220 * m.weight) problem.slots) (heft (λ (o : Output). 212 * o.weight) problem.outputs)
        (subst (UpTo (heft (λ (m : Making). 220 * m.weight) problem.slots)) (sym (total_map (one_at list) (operation_term problem) (slots_of problem))) (places_up (λ slot. one_at list (operation_term problem slot)) (λ (m : Making). 220 * m.weight) (slice_get problem.slots) 0 problem.slots (λ k. ap (slice_get problem.slots) (omega arith)) slot_up))
        (mapped_up (one_at list) (output_term problem) (λ (o : Output). 212 * o.weight) output_up problem.outputs) in
        let pairs_up = appended_up (pair_at list) (map (use_term problem) problem.uses) (map (index_term problem) problem.indexes) (heft (λ (u : Use). 212 * u.weight) problem.uses) (heft (λ (i : Index). 848 * i.weight) problem.indexes)
        (mapped_up (pair_at list) (use_term problem) (λ (u : Use). 212 * u.weight) use_up problem.uses)
        (mapped_up (pair_at list) (index_term problem) (λ (i : Index). 848 * i.weight) index_up problem.indexes) in
        let guards_up = total_up (λ guard. total (λ h. if takes_part problem list guard h then one_at list (guard_term problem guard h) else pos 0) (all_hosts problem)) (λ (guard : Guard). 848 * guard.weight) guard_up problem.guards in
        let ones_low = ones_up.low in let ones_high = ones_up.high in
        let pairs_low = pairs_up.low in let pairs_high = pairs_up.high in
        let guards_low = guards_up.low in let guards_high = guards_up.high in
        record { low = omega (arith, ints, ones_low, pairs_low, guards_low); high = omega (arith, ints, ones_high, pairs_high, guards_high) }
