-- At a whole valid list each point is settled, and each term has a value.
use Rattle.std.proofs.Common.{◌≡◌, ℕ, suc, ◌+◌, ◌-◌, ◌<◌, Bool, true, false, ◌&&◌, ◌||◌, not, Option, Some, None, List, [], ◌∷◌, map, length, refl, sym, ap, ◌∙◌, subst, arith, inl, inr, ℤ, pos, ◌+ℤ◌, ◌*ℤ◌, option_map, slice_get}
use Rattle.std.specs.Prelude.{IsTrue, is_some, nat_lt, ◌==◌, if◌then◌else◌, unwrap_or}
use Rattle.std.specs.List.{AllByRecursion, list_all, list_any, range_with_len}
use Rattle.std.specs.Option.{option_map_or}
use Rattle.std.proofs.lemmas.Int.{ints}
use Rattle.std.proofs.lemmas.Bool.{true≢false, and_parts, or_left, or_right, cases_Bool, cases_lt, cond-true, eqb-true, not_from_false}
use Rattle.vd_base.specs.declared.ids.HostId.{HostId}
use Rattle.vd_base.specs.declared.ids.SlotId.{SlotId}
use Rattle.vd_base.specs.HostSets.{same_host}
use Rattle.vd_space.specs.declared.problem.Problem.{Problem}
use Rattle.vd_space.specs.declared.problem.Guard.{Guard}
use Rattle.vd_space.specs.declared.problem.Index.{Index}
use Rattle.vd_space.specs.Validity.{protocols, all_hosts, holds_at, may_read, move_to_host, is_candidate, is_told, takes_part, guard_told, index_told, is_valid}
use Rattle.vd_space.specs.Costs.{One, Pair, weigh, operation_value, pairs}
use Rattle.vd_space.specs.Bounds.{add, outputs_value}
use Rattle.vd_space.specs.Spaces.{IsProblem}
use Rattle.vd_space.proofs.Tests.{all_parts, all_passes, each_leads, each_both, unless_passes, unless_at, item_within}
use Rattle.vd_space.proofs.Kept.{parts_of}
use Rattle.vd_space.proofs.Terms.{IsAt, HasPair, is_listed}
use Rattle.vd_space.proofs.Valued.{decided, weigh_some, each_map, each_append, terms_have}
use Rattle.vd_space.proofs.Shifted.{shifted_has, each_at}
use Rattle.vd_space.specs.Points.{Switch, switch_of, switches, off, on, may_bring, members, switched}
use Rattle.vd_space.specs.Arcs.{parts, index_readable, slot_value, switch_value, point_value, in_parts, guard_arc, member_arc, switch_arcs, arcs_from, arcs}
use Rattle.vd_space.proofs.Items.{within, any_held, all_filtered, each_filtered, each_makes_any, each_flat}
use Rattle.vd_space.proofs.Points.{at_slot, at_switch, candidate_inside}
use Rattle.vd_space.proofs.CostNetworkTerms.{IsSettled, PointHas, ArcHas}

-- ---- values

pub plus_nothing : (o : Option ℤ) → option_map (λ v. v +ℤ pos 0) o ≡ o
plus_nothing None = refl
plus_nothing (Some v) = ap Some (omega (arith, ints))

is_its_own : (o : Option ℤ) → IsTrue (is_some o) → o ≡ Some (unwrap_or o (pos 0))
is_its_own None is = absurd (true≢false (sym is))
is_its_own (Some c) is = refl

parts_some : (o : Option ℤ) → IsTrue (is_some o) → IsTrue (is_some (parts o))
parts_some None is = absurd (true≢false (sym is))
parts_some (Some c) is = refl

-- what a switch stands at in a whole list
abbrev pub setting_if : Bool → ℕ
setting_if takes = if takes then on else off

two_settings : (takes : Bool) → IsTrue (nat_lt (setting_if takes) 2)
two_settings true = refl
two_settings false = refl

few_settings : (takes : Bool) (n : ℕ) → setting_if takes < n + 2
few_settings true n = omega arith
few_settings false n = omega arith

whole_state : (takes all : Bool) → IsTrue all → (if takes then Some on else if all then Some off else None) ≡ Some (setting_if takes)
whole_state true all is = refl
whole_state false true is = refl
whole_state false false is = absurd (true≢false (sym is))

pub switch_test : (takes may told : Bool) → IsTrue (not takes || told) → (IsTrue told → IsTrue may) → IsTrue (setting_if takes == off || may)
switch_test true may told is leads = leads is
switch_test false may told is leads = refl

pub guard_value : (takes : Bool) (o : Option ℤ) (c : ℤ) → (IsTrue takes → o ≡ Some c) → (if setting_if takes == off then Some (pos 0) else o) ≡ Some (if takes then c else pos 0)
guard_value true o c is = is refl
guard_value false o c is = refl

pub member_value : (takes holds : Bool) → (IsTrue holds → IsTrue takes) → (if setting_if takes == off && holds then None else Some (pos 0)) ≡ Some (pos 0)
member_value true holds leads = refl
member_value false true leads = absurd (true≢false (sym (leads refl)))
member_value false false leads = refl

passes_at : (test : ℕ → Bool) (item : Option ℕ) (p : ℕ) → item ≡ Some p → IsTrue (option_map_or test item true) → IsTrue (test p)
passes_at test item p is passes = subst (λ o. IsTrue (option_map_or test o true)) is passes

-- ---- a point alone, without shifts
abbrev pub plain_one : Problem → ℕ → One
plain_one problem point = record { slot = point; value = point_value problem point }

-- its guard is there, and told to its host if that takes part
pub record IsSwitch (problem : Problem) (list : List ℕ) (w : Switch) : Type 0 where
  pub slot : w.guard.slot.0 < length problem.slots
  pub told : IsTrue (not (takes_part problem list w.guard w.host) || is_told problem list w.host w.guard.slot)

module _ (problem : Problem) (is : IsProblem problem) (list : List ℕ) (full : length list ≡ length problem.slots) (valid : IsTrue (is_valid problem list)) where
  -- ---- settled points

  pub slot_settled : (slot p : ℕ) → IsAt problem list slot p → IsSettled problem list slot p
  slot_settled slot p at =
      let low = candidate_inside problem slot p at.candidate in
      let listed = is_listed problem list slot p at in
      record {
        is = at_slot problem (slice_get list) (switched problem list) None slot low ∙ at.decided;
        setting = at_slot problem (λ s. is_candidate problem s p) (λ switch. nat_lt p 2) false slot low ∙ at.candidate;
        within = omega (arith, listed);
      }

  pub brought_in : (h : HostId) (slot : SlotId) → IsTrue (may_bring problem h slot) → slot.0 < length problem.slots
  brought_in h slot may =
      let found = any_held (λ p. is_candidate problem slot.0 p && holds_at problem h p) (range_with_len 0 (length (protocols problem))) may in
      candidate_inside problem slot.0 found.0 (and_parts (is_candidate problem slot.0 found.0) (holds_at problem h found.0) found.1).0

  members_decided : (w : Switch) → IsTrue (list_all (λ (slot : SlotId). is_some (slice_get list slot.0)) (members problem w))
  members_decided w =
      all_filtered (may_bring problem w.host) (λ (slot : SlotId). is_some (slice_get list slot.0))
      (λ slot may. let low = brought_in w.host slot may in ap is_some (item_within list slot.0 (omega (arith, full, low))).1) w.guard.slots

  abbrev pub setting_of : Switch → ℕ
  setting_of w = setting_if (takes_part problem list w.guard w.host)

  pub switch_settled : (k : ℕ) (w : Switch) → slice_get (switches problem) k ≡ Some w → IsSettled problem list (length problem.slots + k) (setting_of w)
  switch_settled k w at =
      let takes = takes_part problem list w.guard w.host in
      record {
        is = at_switch problem (slice_get list) (switched problem list) None k w at ∙ whole_state takes (list_all (λ (slot : SlotId). is_some (slice_get list slot.0)) (members problem w)) (members_decided w);
        setting = at_switch problem (λ s. is_candidate problem s (setting_of w)) (λ switch. nat_lt (setting_of w) 2) false k w at ∙ two_settings takes;
        within = few_settings takes (length (protocols problem));
      }

  -- ---- switches

  switches_are : AllByRecursion (IsSwitch problem list) (switches problem)
  switches_are =
      each_flat (IsSwitch problem list) (λ guard. map (switch_of guard) (all_hosts problem)) problem.guards
      (each_both (λ (guard : Guard). guard.slot.0 < length problem.slots) (λ guard. IsTrue (guard_told problem list guard)) (λ guard. AllByRecursion (IsSwitch problem list) (map (switch_of guard) (all_hosts problem)))
      (λ guard low told. each_map (IsSwitch problem list) (switch_of guard) (all_hosts problem)
      (each_leads (λ h. IsTrue (not (takes_part problem list guard h) || is_told problem list h guard.slot)) (λ h. IsSwitch problem list (switch_of guard h)) (λ h told. record { slot = low; told = told }) (all_hosts problem)
      (all_parts (λ h. not (takes_part problem list guard h) || is_told problem list h guard.slot) (all_hosts problem) told)))
      problem.guards is.guards (all_parts (guard_told problem list) problem.guards (parts_of problem list valid).guards))

  pub switch_is : (k : ℕ) (w : Switch) → slice_get (switches problem) k ≡ Some w → IsSwitch problem list w
  switch_is k w at = each_at (IsSwitch problem list) (switches problem) k w at switches_are

  -- ---- terms of points

  pub readable : (slot p : ℕ) → slice_get list slot ≡ Some p → (index : Index) → IsTrue (index_told problem list index) → IsTrue (index_readable problem slot p index)
  readable slot p at index told = elim (cases_Bool (index.array.0 == slot)) [
    | inl mine ↦
        let here : slice_get list index.array.0 ≡ Some p = ap (slice_get list) (eqb-true index.array.0 slot mine) ∙ at in
        let each = passes_at (λ q. list_all (λ h. not (holds_at problem h q) || is_told problem list h index.index) (all_hosts problem)) (slice_get list index.array.0) p here told in
        or_right (not (index.array.0 == slot)) (list_all (λ h. not (holds_at problem h p) || may_read problem h index.index.0) (all_hosts problem))
        (all_passes (λ h. not (holds_at problem h p) || is_told problem list h index.index) (λ h. not (holds_at problem h p) || may_read problem h index.index.0)
        (λ h. unless_passes (holds_at problem h p) (is_told problem list h index.index) (holds_at problem h p) (may_read problem h index.index.0) (λ holds. holds)
        (λ told. (and_parts (may_read problem h index.index.0) (option_map_or (λ q. is_some (move_to_host problem h q)) (slice_get list index.index.0) true) told).0))
        (all_hosts problem) each)
    | inr other ↦ or_left (not (index.array.0 == slot)) (list_all (λ h. not (holds_at problem h p) || may_read problem h index.index.0) (all_hosts problem)) (not_from_false (index.array.0 == slot) other)
  ]

  -- a slot's amount is that of its operation and outputs
  unfoldable pub slot_has : (slot : ℕ) → slot < length problem.slots → PointHas problem list (plain_one problem slot)
  slot_has slot low =
      let base = shifted_has problem is list full valid [] slot low in
      let both = add (operation_value problem slot base.p) (outputs_value problem slot base.p problem.outputs) in
      record {
        v = base.p;
        at = slot_settled slot base.p base.at;
        c = base.v *ℤ pos 256;
        value = at_slot problem (slot_value problem base.p) (switch_value problem base.p) None slot low
            ∙ cond-true (list_all (index_readable problem slot base.p) problem.indexes) (parts both) None
            (all_passes (index_told problem list) (index_readable problem slot base.p) (readable slot base.p base.at.decided) problem.indexes (parts_of problem list valid).indexes)
            ∙ ap parts (sym (plus_nothing both) ∙ base.value);
      }

  -- and that of a switch is nothing
  unfoldable pub switch_has : (k : ℕ) (w : Switch) → slice_get (switches problem) k ≡ Some w → PointHas problem list (plain_one problem (length problem.slots + k))
  switch_has k w at =
      let told = (switch_is k w at).told in
      let may = may_read problem w.host w.guard.slot.0 in
      record {
        v = setting_of w;
        at = switch_settled k w at;
        c = pos 0;
        value = at_switch problem (slot_value problem (setting_of w)) (switch_value problem (setting_of w)) None k w at
            ∙ cond-true (setting_of w == off || may) (Some (pos 0)) None
            (switch_test (takes_part problem list w.guard w.host) may (is_told problem list w.host w.guard.slot) told
            (λ told. (and_parts may (option_map_or (λ p. is_some (move_to_host problem w.host p)) (slice_get list w.guard.slot.0) true) told).0));
      }

  pub plain_has : (point : ℕ) → point < length problem.slots + length (switches problem) → PointHas problem list (plain_one problem point)
  plain_has point low = elim (cases_lt point (length problem.slots)) [
    | inl slot ↦ slot_has point slot
    | inr high ↦
        let k = point - length problem.slots in
        let w = within (switches problem) k (omega (arith, low, high)) in
        let same : length problem.slots + k ≡ point = omega (arith, high) in
        subst (λ j. PointHas problem list (plain_one problem j)) same (switch_has k w.0 w.1)
  ]

  -- ---- arcs

  unfoldable pub pair_has : (pair : Pair) → HasPair problem list pair → ArcHas problem list (in_parts pair)
  pair_has pair has = record {
    v = has.p;
    first = slot_settled pair.first has.p has.first;
    w = has.q;
    second = slot_settled pair.second has.q has.second;
    c = has.v *ℤ pos 256;
    value = ap parts has.value;
  }

  -- what it costs to tell the guard to the host, from where the guard stands
  abbrev pub told_parts : Switch → ℕ → Option ℤ
  told_parts w p = parts (weigh w.guard.weight (move_to_host problem w.host p))

  pub reached : (w : Switch) → IsSwitch problem list w → (p : ℕ) → slice_get list w.guard.slot.0 ≡ Some p → IsTrue (takes_part problem list w.guard w.host) → told_parts w p ≡ Some (unwrap_or (told_parts w p) (pos 0))
  reached w known p at takes =
      let told = unless_at (takes_part problem list w.guard w.host) (is_told problem list w.host w.guard.slot) known.told takes in
      let moved = and_parts (may_read problem w.host w.guard.slot.0) (option_map_or (λ q. is_some (move_to_host problem w.host q)) (slice_get list w.guard.slot.0) true) told in
      let joins = passes_at (λ q. is_some (move_to_host problem w.host q)) (slice_get list w.guard.slot.0) p at moved.1 in
      is_its_own (told_parts w p) (parts_some (weigh w.guard.weight (move_to_host problem w.host p)) (ap is_some (weigh_some w.guard.weight (move_to_host problem w.host p) joins).1))

  unfoldable pub guard_arc_has : (k : ℕ) (w : Switch) → slice_get (switches problem) k ≡ Some w → ArcHas problem list (guard_arc problem (length problem.slots + k) w)
  guard_arc_has k w at =
      let known = switch_is k w at in
      let here = decided problem is list full valid w.guard.slot.0 known.slot in
      let takes = takes_part problem list w.guard w.host in
      let amount = unwrap_or (told_parts w here.0) (pos 0) in
      record {
        v = here.0;
        first = slot_settled w.guard.slot.0 here.0 here.1;
        w = setting_of w;
        second = switch_settled k w at;
        c = if takes then amount else pos 0;
        value = guard_value takes (told_parts w here.0) amount (reached w known here.0 here.1.decided);
      }

  -- a slot of the branches that is kept at the host makes it take part
  abbrev pub Brings : Switch → SlotId → Type 0
  Brings w slot = IsTrue (option_map_or (holds_at problem w.host) (slice_get list slot.0) false) → IsTrue (takes_part problem list w.guard w.host)

  pub each_brings : (w : Switch) → AllByRecursion (Brings w) w.guard.slots
  each_brings w =
      let held = λ (slot : SlotId). option_map_or (holds_at problem w.host) (slice_get list slot.0) false in
      each_leads (λ slot. IsTrue (held slot) → IsTrue (list_any held w.guard.slots)) (Brings w)
      (λ slot leads holds. or_right (list_any (same_host w.host) w.guard.hosts) (list_any held w.guard.slots) (leads holds)) w.guard.slots (each_makes_any held w.guard.slots)

  unfoldable pub member_arc_has : (k : ℕ) (w : Switch) → slice_get (switches problem) k ≡ Some w → (slot : SlotId) → IsTrue (may_bring problem w.host slot) → Brings w slot → ArcHas problem list (member_arc problem (length problem.slots + k) w.host slot)
  member_arc_has k w at slot may brings =
      let here = decided problem is list full valid slot.0 (brought_in w.host slot may) in
      record {
        v = here.0;
        first = slot_settled slot.0 here.0 here.1;
        w = setting_of w;
        second = switch_settled k w at;
        c = pos 0;
        value = member_value (takes_part problem list w.guard w.host) (holds_at problem w.host here.0)
            (λ holds. brings (ap (λ o. option_map_or (holds_at problem w.host) o false) here.1.decided ∙ holds));
      }

  switch_arcs_have : (k : ℕ) (w : Switch) → slice_get (switches problem) k ≡ Some w → AllByRecursion (ArcHas problem list) (switch_arcs problem (length problem.slots + k) w)
  switch_arcs_have k w at = (
    guard_arc_has k w at,
    each_map (ArcHas problem list) (member_arc problem (length problem.slots + k) w.host) (members problem w)
        (each_filtered (may_bring problem w.host) (Brings w) (λ slot. ArcHas problem list (member_arc problem (length problem.slots + k) w.host slot)) (member_arc_has k w at) w.guard.slots (each_brings w)),
  )

  -- these are the switches from the k-th one on
  abbrev pub Continues : ℕ → List Switch → Type 0
  Continues k ws = (i : ℕ) (w : Switch) → slice_get ws i ≡ Some w → slice_get (switches problem) (k + i) ≡ Some w

  pub first_switch : (k : ℕ) (w : Switch) (ws : List Switch) → Continues k (w ∷ ws) → slice_get (switches problem) k ≡ Some w
  first_switch k w ws goes = let same : k ≡ k + 0 = omega arith in ap (slice_get (switches problem)) same ∙ goes 0 w refl

  pub later_switches : (k : ℕ) (w : Switch) (ws : List Switch) → Continues k (w ∷ ws) → Continues (k + 1) ws
  later_switches k w ws goes i x at = let same : k + 1 + i ≡ k + suc i = omega arith in ap (slice_get (switches problem)) same ∙ goes (suc i) x at

  pub one_on : (k : ℕ) → length problem.slots + (k + 1) ≡ length problem.slots + k + 1
  one_on k = omega arith

  pub none_on : length problem.slots + 0 ≡ length problem.slots
  none_on = omega arith

  arcs_from_have : (k : ℕ) (ws : List Switch) → Continues k ws → AllByRecursion (ArcHas problem list) (arcs_from problem (length problem.slots + k) ws)
  arcs_from_have k [] goes = tt
  arcs_from_have k (w ∷ ws) goes =
      each_append (ArcHas problem list) (switch_arcs problem (length problem.slots + k) w) (arcs_from problem (length problem.slots + k + 1) ws)
      (switch_arcs_have k w (first_switch k w ws goes))
      (subst (λ m. AllByRecursion (ArcHas problem list) (arcs_from problem m ws)) (one_on k) (arcs_from_have (k + 1) ws (later_switches k w ws goes)))

  pub all_switches : Continues 0 (switches problem)
  all_switches i w at = let same : 0 + i ≡ i = omega arith in ap (slice_get (switches problem)) same ∙ at

  pub arcs_have : AllByRecursion (ArcHas problem list) (arcs problem)
  arcs_have =
      each_append (ArcHas problem list) (map in_parts (pairs problem)) (arcs_from problem (length problem.slots) (switches problem))
      (each_map (ArcHas problem list) in_parts (pairs problem) (each_leads (HasPair problem list) (λ pair. ArcHas problem list (in_parts pair)) pair_has (pairs problem) (terms_have problem is list full valid).pair))
      (subst (λ m. AllByRecursion (ArcHas problem list) (arcs_from problem m (switches problem))) none_on (arcs_from_have 0 (switches problem) all_switches))
