-- A host learns only what its label lets it.
use Rattle.std.proofs.Common.{◌≡◌, ℕ, ◌<◌, Bool, true, false, ◌&&◌, ◌||◌, not, [], map, length, refl, sym, ap, ◌∙◌, subst, arith, nat_eq}
use Rattle.std.specs.List.{list_any}
use Rattle.vd_base.specs.declared.ids.SlotId.{SlotId}
use Rattle.vd_base.specs.declared.ids.HostId.{HostId}
use Rattle.vd_core.specs.declared.normal.NormalForm.{NormalForm}
use Rattle.vd_core.specs.Facts.{nothing_seen, IsWellMade}
use Rattle.vd_constraints.specs.declared.system.Place.TheVariants.{Slot, Block}
use Rattle.vd_constraints.specs.declared.labels.Labels.{Labels}
use Rattle.vd_constraints.specs.Satisfies.{label_at, no_label, Satisfies}
use Rattle.vd_constraints.specs.Rules.{at_start, system_of}
use Rattle.vd_constraints.proofs.Front.{well_made_scoped}
use Rattle.vd_noninter.specs.Flowing.{all_flow, flow}
use Rattle.vd_noninter.specs.Reading.{reads_slot, reads_result, becomes_readable_to, reads_host, in_view, visible_slots, all_hidden, makes, LearnsOnly}
use Rattle.vd_noninter.proofs.Lawful.{knowledge, Tells, Meets, body_obeys}
use Rattle.vd_noninter.proofs.Members.{all_apart, all_there, made_once}
use Rattle.vd_noninter.proofs.Same.{same_principals, same_slots}
use Rattle.vd_noninter.proofs.Whole.{flows_learns}
use Rattle.vd_noninter.proofs.Narrow.{narrowed, narrowed_flows}
use Rattle.vd_noninter.proofs.Readable.{readable, body_closes}
use Rattle.vd_noninter.specs.NoninterLawsDependence.{Reach, IsClosed, reached_in_view, AreReached, AreReadable, AreEnough}
use Rattle.std.proofs.lemmas.Bool.{and_parts}

module _ (p : NormalForm) (l : Labels) (h : HostId) (well : IsWellMade p) (satisfies : Satisfies (system_of p) l) where
  abbrev view : ℕ → Bool
  view x = list_any (nat_eq x) (visible_slots (reads_slot p l h) p.body)

  slots_over : (x : SlotId) → x.0 < length p.slots → (label_at l (Slot x)).conf.names ≡ length p.principals
  slots_over x low =
      let labelling = satisfies.solves.labelling in
      let slots = same_slots p.body p (Block 0) (at_start p) in
      (labelling.slot_labels x.0 no_label (subst (λ n. x.0 < n) (sym (labelling.slots ∙ slots)) low)).conf.over ∙ ap length (same_principals p.body p (Block 0) (at_start p))

  blocks_over : (b : ℕ) → b < length l.blocks → (label_at l (Block b)).conf.names ≡ length p.principals
  blocks_over b low = (satisfies.solves.labelling.block_labels b no_label low).conf.over ∙ ap length (same_principals p.body p (Block 0) (at_start p))

  pub program_flows : (test : ℕ → ℕ → Bool) → Tells p l h test view → all_flow (map (flow (knowledge p l h test view)) p.body) ≡ true
  program_flows test tells =
      let same = satisfies.solves.labelling.blocks in
      let meets : Meets p l h test view (system_of p) = record { rules = satisfies.solves.rules; checks = satisfies.checks; blocks = omega arith } in
      let lawful = body_obeys p l h test view (length p.slots) slots_over blocks_over tells p.body (Block 0) (at_start p) (well_made_scoped p well).named_slots meets in
      let visible = visible_slots (reads_slot p l h) p.body in
      let hidden = all_hidden (map (makes (reads_slot p l h)) p.body) in
      (lawful.flows nothing_seen (record { bindings = refl; variables = refl; arrays = refl }) well.made_before (all_there visible visible (λ x is. is))
      (all_apart visible hidden (made_once (reads_slot p l h) p.body (length p.slots) well.in_order))).0

  -- what becomes readable to the host, and each result that it reads
  pub becoming : Tells p l h (becomes_readable_to p l h) view
  becoming = record { all = λ x y is off. rw (is, off) refl; read = λ x y is. (and_parts (reads_slot p l h x) (not (reads_slot p l h y)) is).0 }

  pub results : Tells p l h (reads_result p l h) view
  results = record { all = λ x y is off. is; read = λ x y is. is }

  pub reads_learns : LearnsOnly p h (becomes_readable_to p l h) (reads_host p h) (in_view p l h)
  reads_learns = flows_learns p h (in_view p l h) (becomes_readable_to p l h) (reads_host p h) (program_flows (becomes_readable_to p l h) becoming)

  -- ---- of a closed reach
  pub kept_read : (x : ℕ) → in_view p l h x ≡ true → reads_slot p l h x ≡ true
  kept_read x is = (and_parts (reads_slot p l h x) (view x) is).0

  given_all : (r : Reach) (x y : ℕ) → in_view p l h x ≡ true → (reads_slot p l h x || r.slots y) ≡ true
  given_all r x y is = rw (kept_read x is) refl

  reach_flows : (r : Reach) → IsClosed p l h r → all_flow (map (flow (narrowed (in_view p l h) (reads_result p l h) (reads_host p h) h.0 r)) p.body) ≡ true
  reach_flows r closed = narrowed_flows (in_view p l h) (reads_result p l h) (reads_host p h) h.0 r (reads_slot p l h) kept_read (given_all r) p.body closed (program_flows (reads_result p l h) results)

  reach_learns : (r : Reach) → IsClosed p l h r → LearnsOnly p h (reads_result p l h) (λ host. reads_host p h host && r.hosts host) (reached_in_view p l h r)
  reach_learns r closed = flows_learns p h (reached_in_view p l h r) (reads_result p l h) (λ host. reads_host p h host && r.hosts host) (reach_flows r closed)

  -- what the host may read of it is closed
  closed_readable : (r : Reach) → IsClosed p l h r → IsClosed p l h (readable (reads_slot p l h) view (reads_host p h) (reads_result p l h) h.0 r)
  closed_readable r closed =
      let visible = visible_slots (reads_slot p l h) p.body in
      let hidden = all_hidden (map (makes (reads_slot p l h)) p.body) in
      ((body_closes (reads_slot p l h) view (reads_host p h) (reads_result p l h) h.0 r p.body).flows [] nothing_seen refl refl (record { bindings = refl; variables = refl; arrays = refl }) well.made_before (all_there visible visible (λ x is. is))
      (all_apart visible hidden (made_once (reads_slot p l h) p.body (length p.slots) well.in_order)) (program_flows (reads_result p l h) results) closed).0

  weaker : (known known' kept : ℕ → Bool) → ((i : ℕ) → known i ≡ true → known' i ≡ true) → LearnsOnly p h (reads_result p l h) known kept → LearnsOnly p h (reads_result p l h) known' kept
  weaker known known' kept more learns first second same told = learns first second (λ i is. same i (more i is)) told

  pub reached_are_readable : (hosts : ℕ → Bool) → AreReached p l h hosts → AreReadable p h hosts
  reached_are_readable hosts are i is =
      let r = are.reach in
      (and_parts (reads_host p h i) (r.hosts i) ((are.dependence.least (readable (reads_slot p l h) view (reads_host p h) (reads_result p l h) h.0 r) (closed_readable r are.dependence.closed)).hosts i (sym (are.same i) ∙ is))).0

  pub reached_are_enough : (hosts : ℕ → Bool) → AreReached p l h hosts → AreEnough p l h hosts
  reached_are_enough hosts are r is =
      weaker (λ host. reads_host p h host && r.hosts host) hosts (reached_in_view p l h r)
      (λ i both. are.same i ∙ (is.least are.reach are.dependence.closed).hosts i (and_parts (reads_host p h i) (r.hosts i) both).1)
      (reach_learns r is.closed)

same_if : (a b : Bool) → (a ≡ true → b ≡ true) → (b ≡ true → a ≡ true) → a ≡ b
same_if true b there back = sym (there refl)
same_if false true there back = back refl
same_if false false there back = refl

pub reached_once : (p : NormalForm) (l : Labels) (h : HostId) (hosts others : ℕ → Bool) → AreReached p l h hosts → AreReached p l h others → (k : ℕ) → hosts k ≡ others k
reached_once p l h hosts others are those k =
    let there = (are.dependence.least those.reach those.dependence.closed).hosts k in
    let back = (those.dependence.least are.reach are.dependence.closed).hosts k in
    same_if (hosts k) (others k) (λ is. those.same k ∙ there (sym (are.same k) ∙ is)) (λ is. are.same k ∙ back (sym (those.same k) ∙ is))
