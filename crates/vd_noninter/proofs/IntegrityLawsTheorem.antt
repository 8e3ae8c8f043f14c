-- Who is not trusted changes nothing that is trusted.
use Rattle.std.proofs.Common.{◌≡◌, ℕ, ◌^◌, ◌<◌, ◌≤◌, Bool, true, false, true≢false, ◌&&◌, ◌||◌, not, List, [], ◌∷◌, ◌++◌, map, length, refl, sym, ap, ◌∙◌, subst, arith, nat_eq, inl, inr, ◌⊎◌}
use Rattle.std.specs.List.{list_all, list_any}
use Rattle.std.proofs.lemmas.Bool.{and_parts, and_from, or_cases}
use Rattle.vd_base.specs.declared.ids.SlotId.{SlotId}
use Rattle.vd_base.specs.declared.ids.HostId.{HostId}
use Rattle.vd_core.specs.declared.normal.NormalForm.{NormalForm}
use Rattle.vd_core.specs.Facts.{seeing, seeing_all, nothing_seen, IsWellMade}
use Rattle.vd_formula.specs.TruthTable.{TruthTable, ActsFor, is_subset, sets, at, either_of, implies_of}
use Rattle.vd_formula.proofs.Front.{acts_trans, if_so, at-formula_where, at_each_set, subset-refl}
use Rattle.vd_constraints.specs.declared.system.Place.TheVariants.{Slot, Block}
use Rattle.vd_constraints.specs.declared.labels.Labels.{Labels}
use Rattle.vd_constraints.specs.Satisfies.{label_at, no_label, Satisfies}
use Rattle.vd_constraints.specs.Rules.{at_start, system_of}
use Rattle.vd_constraints.proofs.Front.{well_made_scoped}
use Rattle.vd_noninter.specs.Flowing.{Knowledge, all_flow, all_hide, flow}
use Rattle.vd_noninter.specs.Watching.{Showing, nothing}
use Rattle.vd_noninter.specs.Reading.{visible_slots, all_visible, all_hidden, makes, declassified_words, shown_words, outputs_to}
use Rattle.vd_noninter.proofs.Formulas.{acts_for, for_acts}
use Rattle.vd_noninter.proofs.Lawful.{not_if}
use Rattle.vd_noninter.proofs.Members.{all_apart, all_there, made_once}
use Rattle.vd_noninter.proofs.Same.{same_principals, same_slots}
use Rattle.vd_noninter.proofs.Whole.{hidden_silent, outputs_same, words_same, freed_words_same}
use Rattle.vd_noninter.specs.Trust.{IsTrust, for_formula, against, trusts_slot, trusts_host, becomes_trusted, becomes_readable, blindly, IsSameToTrust, IsKept, IsRobust, IsTransparent}
use Rattle.vd_noninter.proofs.IntegrityLawsLawful.{knowledge, Meets, Lawful, FreesTrusted, VouchesAll, VouchedUnderTrust, body_obeys}

-- ---- tests of integrities
pub formula_is_trust : (n : ℕ) (t : TruthTable) → IsTrust n (for_formula t)
formula_is_trust n t f g over_f over_g first second = for_acts f t (acts_trans f g t (over_f ∙ sym over_g) first (acts_for g t second))

pub against_is_trust : (n set : ℕ) → set < 2 ^ n → IsTrust n (against set)
against_is_trust n set low f g over_f over_g first second = by (at f set) (at g set) (first set (subst (λ m. set < 2 ^ m) (sym over_f) low)) second
  where
    by : (a b : Bool) → (a ≡ true → b ≡ true) → not b ≡ true → not a ≡ true
    by true true h off = off
    by true false h off = absurd (true≢false (sym (h refl)))
    by false b h off = refl

-- who has both, the formula and one that with it acts for another, has the other
given : (f g : TruthTable) (set : ℕ) → set < 2 ^ f.names → at (implies_of f g) set ≡ true → at f set ≡ true → at g set ≡ true
unfolding implies_of
given f g set low here is =
    let all = sym (at-formula_where f.names (λ s. list_all (λ larger. not (is_subset s larger && at f larger) || at g larger) (sets f.names)) set low) ∙ here in
    if_so (is_subset set set && at f set) (at g set) (at_each_set f.names (λ larger. not (is_subset set larger && at f larger) || at g larger) all set low) (and_from _ _ (subset-refl set) is)

-- who has one or the other
either : (f g : TruthTable) (set : ℕ) → set < 2 ^ f.names → at (either_of f g) set ≡ true → (at f set ≡ true) ⊎ (at g set ≡ true)
unfolding either_of
either f g set low here = or_cases (at f set) (at g set) (sym (at-formula_where f.names (λ s. at f s || at g s) set low) ∙ here)

none_in : (xs : List ℕ) → list_all (λ x. not false) xs ≡ true
none_in [] = refl
none_in (x ∷ xs) = none_in xs

not_and : (b : Bool) → not b ≡ true → b ≡ true → ⊥
not_and true off on = true≢false (sym off)
not_and false off on = true≢false (sym on)

module _ (p : NormalForm) (l : Labels) (well : IsWellMade p) (satisfies : Satisfies (system_of p) l) where
  slot_over : (x : SlotId) → x.0 < length p.slots → ((label_at l (Slot x)).integ.names ≡ length p.principals) × ((label_at l (Slot x)).conf.names ≡ length p.principals)
  slot_over x low =
      let labelling = satisfies.solves.labelling in
      let slots = same_slots p.body p (Block 0) (at_start p) in
      let own = labelling.slot_labels x.0 no_label (subst (λ n. x.0 < n) (sym (labelling.slots ∙ slots)) low) in
      let names = ap length (same_principals p.body p (Block 0) (at_start p)) in
      (own.integ.over ∙ names, own.conf.over ∙ names)

  block_over : (b : ℕ) → b < length l.blocks → (label_at l (Block b)).integ.names ≡ length p.principals
  block_over b low = (satisfies.solves.labelling.block_labels b no_label low).integ.over ∙ ap length (same_principals p.body p (Block 0) (at_start p))

  module _ (T : TruthTable → Bool) (trust : IsTrust (length p.principals) T) (vouched freed : ℕ → ℕ → Bool) (view : ℕ → Bool) where
    abbrev k : Knowledge
    k = knowledge p l T vouched freed view

    module _ (vouches : VouchesAll p l T vouched freed view) (under : VouchedUnderTrust p l T vouched freed view (length p.slots)) (frees : FreesTrusted p l T vouched freed view (length p.slots)) where
      meets : Meets p l T vouched freed view (system_of p)
      meets = let same = satisfies.solves.labelling.blocks in record { rules = satisfies.solves.rules; checks = satisfies.checks; blocks = omega arith }

      lawful : Lawful p l T vouched freed view (length p.slots) (λ x low. (slot_over x low).0) block_over trust vouches under frees (Block 0) (at_start p) (seeing_all (map seeing p.body))
          (record { visible = all_visible (map (makes (trusts_slot l T)) p.body); hidden = all_hidden (map (makes (trusts_slot l T)) p.body) }) (record { flows = all_flow (map (flow k) p.body); hides = all_hide (map (flow k) p.body) })
      lawful = body_obeys p l T vouched freed view (length p.slots) (λ x low. (slot_over x low).0) block_over trust vouches under frees p.body (Block 0) (at_start p) (well_made_scoped p well).named_slots meets

      start_over : (label_at l (Block 0)).integ.names ≡ length p.principals
      start_over = let some : 1 ≤ length l.blocks = lawful.before.blocks in block_over 0 (omega arith)

  module _ (T : TruthTable → Bool) (trust : IsTrust (length p.principals) T) (freed : ℕ → ℕ → Bool) where
    abbrev trust_view : ℕ → Bool
    trust_view x = list_any (nat_eq x) (visible_slots (trusts_slot l T) p.body)

    abbrev gains : ℕ → ℕ → Bool
    gains = becomes_trusted l T

    all_vouched : VouchesAll p l T gains freed trust_view
    all_vouched x y is off = rw (is, off) refl

    vouched_under : VouchedUnderTrust p l T gains freed trust_view (length p.slots)
    vouched_under to pc x y offset over x_low y_low rules checks is pc_over =
        trust (label_at l pc).integ (label_at l (Slot x)).integ pc_over (slot_over x x_low).0 rules.1.1.1.0 (and_parts (trusts_slot l T x.0) (not (trusts_slot l T y.0)) is).0

    module _ (frees : FreesTrusted p l T gains freed trust_view (length p.slots)) where
      program_flows : all_flow (map (flow (k T trust gains freed trust_view)) p.body) ≡ true
      program_flows =
          let visible = visible_slots (trusts_slot l T) p.body in
          let hidden = all_hidden (map (makes (trusts_slot l T)) p.body) in
          ((lawful T trust gains freed trust_view all_vouched vouched_under frees).flows nothing_seen (record { bindings = refl; variables = refl; arrays = refl }) well.made_before (all_there visible visible (λ x is. is))
          (all_apart visible hidden (made_once (trusts_slot l T) p.body (length p.slots) well.in_order))).0

      module _ (shows : Showing) (first second : List (List ℕ)) (same : IsSameToTrust p l T first second) where
        told_same : (h : HostId) → trusts_host p T h.0 ≡ true → outputs_to p h first ≡ outputs_to p h second
        told_same = outputs_same p (k T trust gains freed trust_view) program_flows shows first second same.inputs same.endorsed

        held_same : shown_words p (λ x. trusts_slot l T x && trust_view x) shows first ≡ shown_words p (λ x. trusts_slot l T x && trust_view x) shows second
        held_same = words_same p (k T trust gains freed trust_view) program_flows shows first second same.inputs same.endorsed

        let_out_same : declassified_words p freed first ≡ declassified_words p freed second
        let_out_same = freed_words_same p (k T trust gains freed trust_view) program_flows shows first second same.inputs same.endorsed

  nothing_frees : (T : TruthTable → Bool) (vouched : ℕ → ℕ → Bool) (V : ℕ → Bool) → FreesTrusted p l T vouched nothing V (length p.slots)
  nothing_frees T vouched V to pc x y over low y_low rules is = absurd (true≢false (sym is))

  pub trusted_flows : (T : TruthTable → Bool) → IsTrust (length p.principals) T
      → all_flow (map (flow (knowledge p l T (becomes_trusted l T) nothing (λ x. list_any (nat_eq x) (visible_slots (trusts_slot l T) p.body)))) p.body) ≡ true
  trusted_flows T trust = program_flows T trust nothing (nothing_frees T (becomes_trusted l T) (trust_view T trust nothing))

  pub trusted_is_kept : (T : TruthTable → Bool) → IsTrust (length p.principals) T → IsKept p l T
  trusted_is_kept T trust first second same =
      let frees = nothing_frees T (becomes_trusted l T) (trust_view T trust nothing) in
      record { outputs = told_same T trust nothing frees (λ s. []) first second same; words = λ shows. held_same T trust nothing frees shows first second same }

  -- ---- robustness and transparency
  module _ (set : ℕ) (low : set < 2 ^ length p.principals) where
    within : (f : TruthTable) → f.names ≡ length p.principals → set < 2 ^ f.names
    within f over = subst (λ n. set < 2 ^ n) (sym over) low

    abbrev conf_of : SlotId → TruthTable
    conf_of x = (label_at l (Slot x)).conf

    abbrev integ_of : SlotId → TruthTable
    integ_of x = (label_at l (Slot x)).integ

    freed_trusted : (vouched : ℕ → ℕ → Bool) (V : ℕ → Bool) → FreesTrusted p l (against set) vouched (becomes_readable l set) V (length p.slots)
    freed_trusted vouched V to pc x y over x_low y_low rules is =
        let parts = and_parts (at (conf_of x) set) (not (at (conf_of y) set)) is in
        let may : at to set ≡ true = rules.0 set (within (conf_of x) (slot_over x x_low).1) parts.0 in
        let none : (f : TruthTable) → f.names ≡ length p.principals → ActsFor f (implies_of to (conf_of y)) → at f set ≡ true → ⊥ = λ f over_f acts here.
        not_and (at (conf_of y) set) parts.1 (given to (conf_of y) set (within to over) (acts set (within f over_f) here) may)
        in (
          not_if (at (integ_of y) set) (none (integ_of y) (slot_over y y_low).0 rules.1.1.0),
          λ pc_over. not_if (at (label_at l pc).integ set) (none (label_at l pc).integ pc_over rules.1.1.1.1.1.0),
        )

    pub declassify_is_robust : IsRobust p l set
    declassify_is_robust first second same =
        let trust = against_is_trust (length p.principals) set low in
        let_out_same (against set) trust (becomes_readable l set) (freed_trusted (becomes_trusted l (against set)) (trust_view (against set) trust (becomes_readable l set))) (λ s. []) first second same

    -- nobody is trusted
    abbrev nobody : TruthTable → Bool
    nobody f = false

    nobody_is_trust : IsTrust (length p.principals) nobody
    nobody_is_trust f g over_f over_g acts is = is

    abbrev unseen : ℕ → Bool
    unseen x = false

    none_vouched : VouchesAll p l nobody (blindly l set) nothing unseen
    none_vouched x y is off = absurd (true≢false (sym is))

    never_blind : VouchedUnderTrust p l nobody (blindly l set) nothing unseen (length p.slots)
    never_blind to pc x y offset over x_low y_low rules checks is pc_over =
        let parts = and_parts (at (integ_of y) set && not (at (integ_of x) set)) (not (at (conf_of y) set)) is in
        let front = and_parts (at (integ_of y) set) (not (at (integ_of x) set)) parts.0 in
        elim (either to (conf_of y) set (within to over) (rules.1.0 set (within (integ_of y) (slot_over y y_low).0) front.0)) [
          | inl new ↦ absurd (not_and (at (integ_of x) set) front.1 (checks.0 set (within to over) new))
          | inr reads ↦ absurd (not_and (at (conf_of y) set) parts.1 reads)
        ]

    pub endorse_is_transparent : IsTransparent p l set
    endorse_is_transparent inputs =
        let frees = nothing_frees nobody (blindly l set) unseen in
        let lawful = lawful nobody nobody_is_trust (blindly l set) nothing unseen none_vouched never_blind frees in
        let over = start_over nobody nobody_is_trust (blindly l set) nothing unseen none_vouched never_blind frees in
        hidden_silent p (k nobody nobody_is_trust (blindly l set) nothing unseen)
        (lawful.hides over refl (none_in (all_visible (map (makes (trusts_slot l nobody)) p.body))) (none_in (all_hidden (map (makes (trusts_slot l nobody)) p.body)))) inputs
