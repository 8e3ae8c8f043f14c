-- What comes to a host in clear at a valid assignment depends on the reached hosts alone.
use Rattle.std.proofs.Common.{◌≡◌, ℕ, zero, suc, ◌<◌, ◌≤◌, Bool, true, false, true≢false, ◌&&◌, ◌||◌, List, [], ◌∷◌, map, length, Option, Some, None, refl, sym, ap, ◌∙◌, subst, arith, slice_get, slice_index_or, nat_eq}
use Rattle.std.specs.Prelude.{is_some, nat_lt}
use Rattle.std.specs.List.{list_all, list_any}
use Rattle.std.specs.Option.{option_map_or}
use Rattle.std.proofs.lemmas.Bool.{and_parts}
use Rattle.std.proofs.lemmas.List.{length-map}
use Rattle.vd_base.specs.declared.ids.HostId.{HostId}
use Rattle.vd_base.specs.declared.ids.SlotId.{SlotId}
use Rattle.vd_base.specs.declared.protocols.Proto.{Proto}
use Rattle.vd_base.specs.Costs.{cost_at}
use Rattle.vd_base.specs.Holders.{has_clear}
use Rattle.vd_core.specs.declared.normal.NormalForm.{NormalForm}
use Rattle.vd_core.specs.declared.normal.Stmt.{Stmt, roll-Stmt, map-Stmt, ind-Stmt}
use Rattle.vd_core.specs.declared.normal.Stmt.TheOpen.{Stmt-F}
use Rattle.vd_core.specs.declared.normal.Stmt.TheFolds.{fold-roll-Stmt}
use Rattle.vd_core.specs.declared.normal.Written.{Written}
use Rattle.vd_core.specs.Facts.{IsWellMade}
use Rattle.vd_formula.specs.declared.label.Label.{Label}
use Rattle.vd_protocol.specs.Authority.{label_of, authority_of}
use Rattle.vd_constraints.specs.declared.labels.Labels.{Labels}
use Rattle.vd_constraints.specs.declared.system.Place.TheVariants.{Slot, Block}
use Rattle.vd_constraints.specs.Satisfies.{label_at, Satisfies}
use Rattle.vd_constraints.specs.Rules.{label, no_authority, host_label, at_start, system_of}
use Rattle.vd_space.specs.declared.problem.Problem.{Problem}
use Rattle.vd_space.specs.declared.problem.Making.{Making}
use Rattle.vd_space.specs.Reading.{Read, all_parts, read_step, read_stmt, problem_of}
use Rattle.vd_space.specs.Validity.{protocols, protocol, all_hosts, covers, may_read, guard_told, index_told}
use Rattle.vd_space.specs.Labelled.{IsLabelled, HasLabels}
use Rattle.vd_space.proofs.Front.{IsValid, parts_of, is_labelled}
use Rattle.vd_space.specs.Cheapest.{IsAssignment}
use Rattle.vd_noninter.specs.Flowing.{all_flow, flow}
use Rattle.vd_noninter.specs.Agreement.{Agree}
use Rattle.vd_noninter.specs.Watching.{Taps}
use Rattle.vd_formula.specs.TruthTable.{acts}
use Rattle.vd_noninter.specs.Reading.{reads_slot, reads_result, becomes_readable_to, reads_host, in_view, visible_slots, start}
use Rattle.vd_noninter.specs.NoninterLawsDependence.{Reach, IsClosed, AreReached, OfEachHost}
use Rattle.vd_noninter.proofs.Front.{Tells, named_are_visible, narrowed, narrowed_flows, same_slots, program_flows, becoming, results, kept_read, taps_of, hearing, given_is}
use Rattle.vd_noninter.proofs.Front.{labels_over, body_closed, eight_hosts}
use Rattle.vd_noninter_protocols.specs.Hearing.{Heard, read_of, stands, heard_step, heard}
use Rattle.vd_noninter_protocols.specs.Assigned.{HearsOnly, HearsOnlyAssigned}
use Rattle.vd_noninter_protocols.proofs.Clear.{clear_acts}
use Rattle.vd_noninter_protocols.proofs.Slots.{label_of_slot, stand_at, of_host}
use Rattle.vd_noninter_protocols.proofs.Places.{stands_is}
use Rattle.vd_noninter_protocols.proofs.Words.{same_words}

-- ---- what is heard of is what the problem is read off
module _ (protocols : List Proto) (h : HostId) (l : Labels) where
  abbrev M : Type 0
  M = (s : Stmt) × ((heard protocols h l s).read ≡ read_stmt l s)

  abbrev statements : List M → List Stmt
  statements = map {B = Stmt} (λ (m : M). m.0)

  abbrev layer : Stmt-F M → Stmt-F Stmt
  layer = map-Stmt M Stmt (λ m. m.0)

  reads_are : (ms : List M) → map read_of (map (heard protocols h l) (statements ms)) ≡ map (read_stmt l) (statements ms)
  reads_are [] = refl
  reads_are (m ∷ ms) = rw (m.1, reads_are ms) refl

  step : (y : Stmt-F M) → (heard_step protocols h l (map-Stmt Stmt Heard (heard protocols h l) (layer y))).read ≡ read_step l (map-Stmt Stmt Read (read_stmt l) (layer y))
  step (Stmt-F.Let x r) = refl
  step (Stmt-F.NewVar v y) = refl
  step (Stmt-F.NewArray v size) = refl
  step (Stmt-F.Store v y) = refl
  step (Stmt-F.Put v i y) = refl
  step (Stmt-F.Output y host offset) = refl
  step (Stmt-F.If g a b offset) = rw (reads_are a, reads_are b) refl
  step (Stmt-F.For count body) = rw (reads_are body) refl

  stmt_reads : (s : Stmt) → (heard protocols h l s).read ≡ read_stmt l s
  stmt_reads = ind-Stmt (λ s. (heard protocols h l s).read ≡ read_stmt l s) (λ x y is. subst (λ z. (heard protocols h l (roll-Stmt z)).read ≡ read_stmt l (roll-Stmt z)) is (at_roll y))
    where
      at_roll : (y : Stmt-F M) → (heard protocols h l (roll-Stmt (layer y))).read ≡ read_stmt l (roll-Stmt (layer y))
      at_roll y = ap read_of (fold-roll-Stmt Heard (heard_step protocols h l) (layer y)) ∙ step y ∙ sym (fold-roll-Stmt Read (read_step l) (layer y))

  body_reads : (body : List Stmt) → map read_of (map (heard protocols h l) body) ≡ map (read_stmt l) body
  body_reads [] = refl
  body_reads (s ∷ body) = rw (stmt_reads s, body_reads body) refl

pub own_label : (p : NormalForm) (labels : List Written) (i : ℕ) (d e : Label) → i < length labels → slice_index_or (map (label p) labels) i d ≡ option_map_or (label p) (slice_get labels i) e
own_label p [] i d e low = absurd (omega arith)
own_label p (one ∷ more) zero d e low = refl
own_label p (one ∷ more) (suc i) d e low = own_label p more i d e (omega arith)

module _ (p : NormalForm) (l : Labels) (h : HostId) (well : IsWellMade p) (satisfies : Satisfies (system_of p) l) (declared : h.0 < length p.hosts) (protos : List Proto) (assigned : IsAssignment (problem_of p l) protos) where
  abbrev problem : Problem
  problem = problem_of p l

  abbrev reads : ℕ → Bool
  reads = reads_slot p l h

  abbrev view : ℕ → Bool
  view x = list_any (nat_eq x) (visible_slots reads p.body)

  abbrev list : List ℕ
  list = assigned.places

  valid : IsValid problem list
  valid = parts_of problem list assigned.is_valid.valid

  has_labels : HasLabels p l
  has_labels = record { slots = satisfies.solves.labelling.slots ∙ same_slots p.body p (Block 0) (at_start p); over = labels_over p l h well satisfies }

  labelled : IsLabelled problem
  labelled = is_labelled p l well has_labels

  low : h.0 < length problem.hosts
  low = let size = length-map p.labels (label p) in let as_many = well.labels in omega (arith, size, as_many, declared)

  own_is : label_of problem.hosts h ≡ host_label p h
  own_is = own_label p p.labels h.0 _ (no_authority p) (let as_many = well.labels in omega (arith, as_many, declared))

  read_slot : (x : SlotId) (making : Making) → slice_get problem.slots x.0 ≡ Some making → acts (label_of problem.hosts h).conf making.label.conf ≡ true → reads x.0 ≡ true
  read_slot x making is all =
      subst (λ (z : Label). acts z.conf (label_at l (Slot x)).conf ≡ true) own_is
      (subst (λ (z : Label). acts (label_of problem.hosts h).conf z.conf ≡ true) (label_of_slot l p well x.0 making is) all)

  clear_read : (x : SlotId) → stands protos h (has_clear h) x ≡ true → reads x.0 ≡ true
  clear_read x is = by (slice_get list x.0) refl (sym (stands_is problem list protos assigned.named h (has_clear h) x) ∙ is)
    where
      by : (o : Option ℕ) → slice_get list x.0 ≡ o → option_map_or (λ q. has_clear h (protocol problem q)) o false ≡ true → reads x.0 ≡ true
      by None at clear = absurd (true≢false (sym clear))
      by (Some q) at clear =
          let found = stand_at problem problem.slots list x.0 q valid.stands at in
          let making = found.0 in
          let authority = authority_of (protocol problem q) problem.hosts in
          let covered = (and_parts (nat_lt q (length (protocols problem)) && is_some (cost_at making.row (protocol problem q))) (covers authority making.label) found.1.1).1 in
          let conf = (and_parts (acts authority.conf making.label.conf) (acts authority.integ making.label.integ) covered).0 in
          read_slot x making found.1.0 (clear_acts problem.hosts labelled.hosts h low (protocol problem q) making.label.conf clear conf)

  told_read : (x : SlotId) → may_read problem h x.0 ≡ true → reads x.0 ≡ true
  told_read x is = by (slice_get problem.slots x.0) refl is
    where
      by : (o : Option Making) → slice_get problem.slots x.0 ≡ o → option_map_or (λ (making : Making). acts (label_of problem.hosts h).conf making.label.conf) o false ≡ true → reads x.0 ≡ true
      by None at may = absurd (true≢false (sym may))
      by (Some making) at may = read_slot x making at may

  told_all : (test : HostId → Bool) → list_all test (all_hosts problem) ≡ true → test h ≡ true
  told_all test all = of_host test 0 (length problem.hosts) h.0 all (omega arith) (omega (arith, low))

  -- of a closed reach in which a declassified word is given, or its operand is reached
  reach_hears : (test : ℕ → ℕ → Bool) → Tells p l h test view → (r : Reach) → IsClosed p l h r → ((x y : ℕ) → in_view p l h x ≡ true → (test x y || r.slots y) ≡ true)
      → HearsOnly p l protos h test (λ k. reads_host p h k && r.hosts k)
  reach_hears test tells r closed goes_on first second same told =
      let taps : Taps = taps_of (narrowed (in_view p l h) test (reads_host p h) h.0 r) (λ s. []) in
      same_words problem list protos assigned.named h l reads view (reads_host p h) test r clear_read told_read told_all p.body 1 (start p first) (start p second)
      (named_are_visible p reads well.made_before) flows (narrowed_flows (in_view p l h) test (reads_host p h) h.0 r reads (kept_read p l h well satisfies) goes_on p.body closed flows) closed
      (subst (λ rs. list_all (guard_told problem list) (all_parts rs 1).guards ≡ true) (sym (body_reads protos h l p.body)) valid.guards)
      (subst (λ rs. list_all (index_told problem list) (all_parts rs 1).indexes ≡ true) (sym (body_reads protos h l p.body)) valid.indexes)
      agree (given_is p taps first ∙ told ∙ sym (given_is p taps second))
    where
      flows : all_flow (map (flow (hearing (in_view p l h) test (reads_host p h) h.0)) p.body) ≡ true
      flows = program_flows p l h well satisfies test tells

      agree : Agree (narrowed (in_view p l h) test (reads_host p h) h.0 r) (start p first) (start p second)
      agree = record { words = λ x is. refl; arrays = λ x is. refl; inputs = same; hosts = refl; outputs = λ host is. refl }

  weaker : (test : ℕ → ℕ → Bool) (known known' : ℕ → Bool) → ((k : ℕ) → known k ≡ true → known' k ≡ true) → HearsOnly p l protos h test known → HearsOnly p l protos h test known'
  weaker test known known' more hears first second same told = hears first second (λ k is. same k (more k is)) told

  reached_hear : (hosts : ℕ → Bool) → AreReached p l h hosts → HearsOnly p l protos h (reads_result p l h) hosts
  reached_hear hosts are =
      weaker (reads_result p l h) (λ k. reads_host p h k && are.reach.hosts k) hosts (λ k both. are.same k ∙ (and_parts (reads_host p h k) (are.reach.hosts k) both).1)
      (reach_hears (reads_result p l h) (results p l h well satisfies) are.reach are.dependence.closed (λ x y is. rw (kept_read p l h well satisfies x is) refl))

  either_true : (b : Bool) → (b || true) ≡ true
  either_true true = refl
  either_true false = refl

  readable_hear : HearsOnly p l protos h (becomes_readable_to p l h) (reads_host p h)
  readable_hear =
      let few = well.limits.hosts in
      let few_hosts : length p.hosts ≤ 8 = omega arith in
      let closed : IsClosed p l h eight_hosts = body_closed reads h.0 (length p.hosts) few_hosts p.body well.known_hosts in
      weaker (becomes_readable_to p l h) (λ k. reads_host p h k && nat_lt k 8) (reads_host p h) (λ k both. (and_parts (reads_host p h k) (nat_lt k 8) both).0)
      (reach_hears (becomes_readable_to p l h) (becoming p l h well satisfies) eight_hosts closed (λ x y is. either_true (becomes_readable_to p l h x y)))

pub all_hear_readable : OfEachHost (λ p l h. HearsOnlyAssigned p l h (becomes_readable_to p l h) (reads_host p h))
all_hear_readable p l h well satisfies declared protos assigned = readable_hear p l h well satisfies declared protos assigned

pub all_hear_reached : OfEachHost (λ p l h. (hosts : ℕ → Bool) → AreReached p l h hosts → HearsOnlyAssigned p l h (reads_result p l h) hosts)
all_hear_reached p l h well satisfies hosts are declared protos assigned = reached_hear p l h well satisfies declared protos assigned hosts are
