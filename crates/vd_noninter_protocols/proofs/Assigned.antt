-- At a valid assignment words stand where they are kept, and where they are not seen.
use Rattle.std.proofs.Common.{◌≡◌, ℕ, zero, suc, ◌+◌, ◌^◌, ◌<◌, ◌≤◌, Bool, true, false, true≢false, ◌&&◌, ◌||◌, not, List, [], ◌∷◌, map, length, Option, Some, refl, sym, ap, ap₂, ◌∙◌, subst, arith, slice_get, slice_index, if◌then◌else◌}
use Rattle.std.specs.Prelude.{All, filter, is_some, nat_lt}
use Rattle.std.specs.List.{AllByRecursion, list_all, list_any, range_with_len}
use Rattle.std.specs.Option.{option_map_or}
use Rattle.std.proofs.lemmas.Bool.{and_parts}
use Rattle.std.proofs.lemmas.List.{length-map}
use Rattle.std.proofs.lemmas.List.Elements.{All-nil, All-cons}
use Rattle.vd_base.specs.declared.ids.HostId.{HostId}
use Rattle.vd_base.specs.declared.ids.SlotId.{SlotId}
use Rattle.vd_base.specs.declared.protocols.Proto.{Proto}
use Rattle.vd_base.specs.declared.protocols.Proto.TheVariants.{Local, Rep, Commit, Add, Xor}
use Rattle.vd_base.specs.declared.protocols.HostSet.{HostSet}
use Rattle.vd_base.specs.HostSets.{has_host, host}
use Rattle.vd_base.specs.Costs.{cost_at}
use Rattle.vd_base.specs.Moves.{move_at}
use Rattle.vd_base.specs.Holders.{proto_in, HasHosts}
use Rattle.vd_core.specs.Facts.{IsWellMade}
use Rattle.vd_core.specs.declared.normal.NormalForm.{NormalForm}
use Rattle.vd_core.specs.declared.normal.Written.{Written}
use Rattle.vd_formula.specs.Forms.{formula_of}
use Rattle.vd_formula.proofs.Front.{if_so}
use Rattle.vd_formula.specs.TruthTable.{at, acts}
use Rattle.vd_formula.specs.declared.label.Label.{Label}
use Rattle.vd_protocol.proofs.Front.{is_over}
use Rattle.vd_protocol.specs.Authority.{authority_of, label_of, names_of}
use Rattle.vd_constraints.specs.declared.labels.Labels.{Labels}
use Rattle.vd_constraints.specs.declared.system.Place.TheVariants.{Block}
use Rattle.vd_constraints.specs.Rules.{at_start, host_label, label, no_authority, system_of}
use Rattle.vd_constraints.specs.Satisfies.{Satisfies}
use Rattle.vd_space.specs.declared.problem.Guard.{Guard}
use Rattle.vd_space.specs.declared.problem.Problem.{Problem}
use Rattle.vd_space.specs.Labelled.{HasLabels, IsLabelled}
use Rattle.vd_space.specs.Reading.{problem_of}
use Rattle.vd_space.specs.Validity.{covers, guard_told, if_decided, is_told, may_read, move_to_host, protocol, protocols, takes_part}
use Rattle.vd_space.proofs.Front.{as_many as as_many_slots, listed_at, IsValid, parts_of, has_hosts_at, is_labelled, names_below}
use Rattle.vd_space.specs.Cheapest.{IsAssignment}
use Rattle.vd_space.proofs.Front.{proto_is}
use Rattle.vd_noninter.proofs.Front.{acts_for as acts_at, false_if, same_slots}
use Rattle.vd_noninter.specs.Trust.{OfEachProgram, against, trusts_host}
use Rattle.vd_noninter.proofs.Front.{labels_over}
use Rattle.vd_noninter_protocols.specs.Hearing.{takes_part as takes_part_at}
use Rattle.vd_noninter_protocols.proofs.Places.{takes_is}
use Rattle.vd_noninter_protocols.proofs.Slots.{label_of_slot, of_host, stand_at}
use Rattle.vd_noninter_protocols.proofs.Theorem.{own_label}
use Rattle.vd_noninter_protocols.specs.Keeping.{is_kept, is_seen, keeps_from, looks_for}
use Rattle.vd_noninter_protocols.specs.IntegrityAssignedAssigned.{CanBeTold, GuardsAreTold, IsGuarded, IsToldInTrust, WordsAreGuarded}
use Rattle.vd_noninter_protocols.proofs.Keeping.{authorities_exact}

-- ---- two tests that are the same of each of the hosts
module _ (n : ℕ) (f g : HostId → Bool) (same : (k : ℕ) → k < n → f (host k) ≡ g (host k)) where
  any_member : (set : HostSet) (a m : ℕ) → a + m ≤ n → list_any f (filter (has_host set) (map host (range_with_len a m))) ≡ list_any g (filter (has_host set) (map host (range_with_len a m)))
  any_member set a zero fits = refl
  any_member set a (suc m) fits = by (has_host set (host a)) (any_member set (a + 1) m (omega (arith, fits)))
    where
      rest : List HostId
      rest = filter (has_host set) (map host (range_with_len (a + 1) m))

      by : (b : Bool) → list_any f (filter (has_host set) (map host (range_with_len (a + 1) m))) ≡ list_any g (filter (has_host set) (map host (range_with_len (a + 1) m)))
          → list_any f (if b then host a ∷ filter (has_host set) (map host (range_with_len (a + 1) m)) else filter (has_host set) (map host (range_with_len (a + 1) m)))
          ≡ list_any g (if b then host a ∷ filter (has_host set) (map host (range_with_len (a + 1) m)) else filter (has_host set) (map host (range_with_len (a + 1) m)))
      by true more = ap₂ (λ (x y : Bool). x || y) (same a (omega (arith, fits))) more
      by false more = more

  kept_same : (q : Proto) → HasHosts n q → is_kept f n q ≡ is_kept g n q
  kept_same (Local h) has = same h.0 has.0
  kept_same (Rep set) has = any_member set 0 n (omega arith)
  kept_same (Commit p v) has = ap₂ (λ (x y : Bool). x || y) (same p.0 has.0) (same v.0 has.1.0)
  kept_same (Add a b) has = ap₂ (λ (x y : Bool). x && y) (same a.0 has.0) (same b.0 has.1.0)
  kept_same (Xor a b) has = ap₂ (λ (x y : Bool). x && y) (same a.0 has.0) (same b.0 has.1.0)

  seen_same : (q : Proto) → HasHosts n q → is_seen f n q ≡ is_seen g n q
  seen_same (Local h) has = same h.0 has.0
  seen_same (Rep set) has = any_member set 0 n (omega arith)
  seen_same (Commit p v) has = same p.0 has.0
  seen_same (Add a b) has = ap₂ (λ (x y : Bool). x && y) (same a.0 has.0) (same b.0 has.1.0)
  seen_same (Xor a b) has = ap₂ (λ (x y : Bool). x && y) (same a.0 has.0) (same b.0 has.1.0)

turned : (a b k : Bool) → (a ≡ true → b ≡ true) → a ≡ not k → not b ≡ true → k ≡ true
turned true true k h is off = absurd (true≢false (sym off))
turned true false k h is off = absurd (true≢false (sym (h refl)))
turned false b true h is off = refl
turned false b false h is off = absurd (true≢false (sym is))

get_below : (xs : List ℕ) (i : ℕ) → i < length xs → slice_get xs i ≡ Some (slice_index xs i)
get_below [] i low = absurd (omega (arith, low))
get_below (x ∷ xs) zero low = refl
get_below (x ∷ xs) (suc i) low = get_below xs i (omega (arith, low))

first_names : (p : NormalForm) (labels : List Written) → 0 < length labels → names_of (map (label p) labels) ≡ length p.principals
unfolding formula_of
first_names p [] some = absurd (omega arith)
first_names p (written ∷ labels) some = refl

module _ (p : NormalForm) (l : Labels) (well : IsWellMade p) (satisfies : Satisfies (system_of p) l) (protos : List Proto) (assigned : IsAssignment (problem_of p l) protos) (set : ℕ) (low : set < 2 ^ length p.principals) where
  abbrev problem : Problem
  problem = problem_of p l

  abbrev list : List ℕ
  list = assigned.places

  valid : IsValid problem list
  valid = parts_of problem list assigned.is_valid.valid

  at_proto : (x : ℕ) → proto_in protos x ≡ protocol problem (slice_index list x)
  at_proto x = proto_is problem protos list assigned.named x

  has_labels : HasLabels p l
  has_labels = record { slots = satisfies.solves.labelling.slots ∙ same_slots p.body p (Block 0) (at_start p); over = labels_over p l (host 0) well satisfies }

  labelled : IsLabelled problem
  labelled = is_labelled p l well has_labels

  as_many : length problem.hosts ≡ length p.hosts
  as_many = let size = length-map p.labels (label p) in let many = well.labels in omega (arith, size, many)

  own_is : (h : HostId) → h.0 < length p.hosts → label_of problem.hosts h ≡ host_label p h
  own_is h declared = own_label p p.labels h.0 _ (no_authority p) (let many = well.labels in omega (arith, many, declared))

  names_are : names_of problem.hosts ≡ length p.principals
  names_are = first_names p p.labels (let many = well.labels in let some = well.limits.some_host in omega (arith, many, some))

  fits : set < 2 ^ names_of problem.hosts
  fits = subst (λ n. set < 2 ^ n) (sym names_are) low

  keeps_same : (k : ℕ) → k < length p.hosts → keeps_from problem.hosts set (host k) ≡ trusts_host p (against set) k
  keeps_same k declared = ap (λ (l : Label). not (at l.integ set)) (own_is (host k) declared)

  looks_same : (k : ℕ) → k < length p.hosts → looks_for problem.hosts set (host k) ≡ at (host_label p (host k)).conf set
  looks_same k declared = ap (λ (l : Label). at l.conf set) (own_is (host k) declared)

  guarded : (x : SlotId) → x.0 < length p.slots → IsGuarded p l protos set x.0
  guarded x known =
      let q = slice_index list x.0 in
      let found = stand_at problem problem.slots list x.0 q valid.stands (get_below list x.0 (let whole = assigned.is_valid.whole in let many = as_many_slots p l well in omega (arith, whole, many, known))) in
      let making = found.0 in
      let proto = protocol problem q in
      let authority = authority_of proto problem.hosts in
      let parts = and_parts (nat_lt q (length (protocols problem)) && is_some (cost_at making.row proto)) (covers authority making.label) found.1.1 in
      let covered = and_parts (acts authority.conf making.label.conf) (acts authority.integ making.label.integ) parts.1 in
      let listed = listed_at problem making q found.1.1 in
      let has : HasHosts (length problem.hosts) proto = has_hosts_at (length problem.hosts) q _ listed in
      let has' : HasHosts (length p.hosts) proto = subst (λ n. HasHosts n proto) as_many has in
      let exact = authorities_exact problem.hosts labelled.hosts set fits proto has in
      let over = is_over problem.hosts labelled.hosts proto has authority refl in
      let is = label_of_slot l p well x.0 making found.1.0 in
      let kept = subst (λ n. is_kept (keeps_from problem.hosts set) n proto ≡ is_kept (keeps_from problem.hosts set) (length p.hosts) proto) (sym as_many) refl in
      let seen = subst (λ n. is_seen (looks_for problem.hosts set) n proto ≡ is_seen (looks_for problem.hosts set) (length p.hosts) proto) (sym as_many) refl in
      record {
        kept = λ trusted.
            ap (is_kept (λ h. trusts_host p (against set) h.0) (length p.hosts)) (at_proto x.0) ∙ sym (kept_same (length p.hosts) (keeps_from problem.hosts set) (λ h. trusts_host p (against set) h.0) keeps_same proto has') ∙ sym kept
            ∙ turned (at authority.integ set) (at making.label.integ set) (is_kept (keeps_from problem.hosts set) (length problem.hosts) proto)
            (acts_at authority.integ making.label.integ covered.1 set (subst (λ n. set < 2 ^ n) (sym over.integ) fits)) exact.integrity
            (subst (λ (l : Label). not (at l.integ set) ≡ true) (sym is) trusted);
        unseen = λ secret.
            ap (is_seen (λ h. at (host_label p h).conf set) (length p.hosts)) (at_proto x.0) ∙ sym (seen_same (length p.hosts) (looks_for problem.hosts set) (λ h. at (host_label p h).conf set) looks_same proto has') ∙ sym seen ∙ sym exact.secrecy
            ∙ false_if (at authority.conf set)
            (λ here.
            true≢false
            (sym (acts_at authority.conf making.label.conf covered.0 set (subst (λ n. set < 2 ^ n) (sym over.conf) fits) here) ∙ subst (λ (l : Label). at l.conf set ≡ false) (sym is) secret));
      }

  told_to : (guard : Guard) → guard_told problem list guard ≡ true → (h : HostId) → h.0 < length p.hosts → takes_part problem list guard h ≡ true → is_told problem list h guard.slot ≡ true
  told_to guard all h declared part =
      if_so (takes_part problem list guard h) (is_told problem list h guard.slot)
      (of_host (λ k. not (takes_part problem list guard k) || is_told problem list k guard.slot) 0 (length problem.hosts) h.0 all (omega arith) (let many = as_many in omega (arith, many, declared))) part

  -- so it can be told the guard
  can_be_told : (guard : Guard) → guard.slot.0 < length problem.slots → guard_told problem list guard ≡ true → (h : HostId) → h.0 < length p.hosts → takes_part_at protos h guard ≡ true → CanBeTold problem protos h guard.slot
  can_be_told guard low all h declared part =
      let test : ℕ → Bool = λ q. is_some (move_to_host problem h q) in
      let parts = and_parts (may_read problem h guard.slot.0) (if_decided list guard.slot test) (told_to guard all h declared (sym (takes_is problem list protos assigned.named h guard) ∙ part)) in
      record {
        may = parts.0;
        moves = ap (λ (q : Proto). is_some (move_at q (Local h))) (at_proto guard.slot.0)
            ∙ sym (ap (λ (o : Option ℕ). option_map_or test o true) (get_below list guard.slot.0 (let whole = assigned.is_valid.whole in omega (arith, whole, low)))) ∙ parts.1;
      }

  guards_told : (guards : List Guard) → AllByRecursion (λ (guard : Guard). guard.slot.0 < length problem.slots) guards → list_all (guard_told problem list) guards ≡ true → All (IsToldInTrust p l protos set) guards
  guards_told [] below all = All-nil (IsToldInTrust p l protos set)
  guards_told (guard ∷ guards) below all =
      let parts = and_parts (guard_told problem list guard) (list_all (guard_told problem list) guards) all in
      All-cons (IsToldInTrust p l protos set) guard guards
      (record { kept = (guarded guard.slot (subst (λ n. guard.slot.0 < n) (as_many_slots p l well) below.0)).kept; told = can_be_told guard below.0 parts.0 })
      (guards_told guards below.1 parts.1)

pub words_guarded : OfEachProgram (λ p l. WordsAreGuarded p l)
words_guarded p l well satisfies protos assigned set low x known = guarded p l well satisfies protos assigned set low x known

pub guards_told_in_trust : OfEachProgram (λ p l. GuardsAreTold p l)
guards_told_in_trust p l well satisfies protos assigned set low =
    guards_told p l well satisfies protos assigned set low (problem_of p l).guards (names_below p l well).guards (parts_of (problem_of p l) assigned.places assigned.is_valid.valid).guards
