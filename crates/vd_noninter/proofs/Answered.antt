-- From the edges of a program to its dependence.
use Rattle.std.proofs.Common.{◌≡◌, ℕ, ◌<◌, ◌≤◌, Bool, true, false, ◌&&◌, List, map, length, refl, sym, ap, ◌∙◌, subst, arith, nat_lt}
use Rattle.std.specs.Prelude.{slice_index_or, IsTrue, ◌↔◌, All}
use Rattle.std.proofs.lemmas.Bool.{ltb-true}
use Rattle.std.proofs.lemmas.List.{get_or-map}
use Rattle.vd_base.specs.declared.ids.SlotId.{SlotId}
use Rattle.vd_base.specs.declared.ids.HostId.{HostId}
use Rattle.vd_core.specs.declared.normal.NormalForm.{NormalForm}
use Rattle.vd_core.specs.Facts.{IsWellMade}
use Rattle.vd_formula.specs.TruthTable.{TruthTable, ActsFor, acts}
use Rattle.vd_formula.specs.declared.label.Label.{Label}
use Rattle.vd_constraints.specs.declared.labels.Labels.{Labels}
use Rattle.vd_constraints.specs.declared.system.Place.TheVariants.{Block}
use Rattle.vd_constraints.specs.Rules.{host_label, at_start, system_of}
use Rattle.vd_constraints.specs.Satisfies.{no_label, Satisfies}
use Rattle.vd_constraints.specs.Systems.{IsLabelOver}
use Rattle.vd_constraints.specs.Scoped.{is_below}
use Rattle.vd_constraints.proofs.Front.{well_made_scoped}
use Rattle.vd_noninter.specs.Reading.{reads_slot}
use Rattle.vd_noninter.specs.NoninterLawsDependence.{Reach, IsDependence, AreReached, AreReadable, AreEnough}
use Rattle.vd_noninter.proofs.Formulas.{acts_for, for_acts}
use Rattle.vd_noninter.proofs.Same.{same_principals, same_slots}
use Rattle.vd_noninter.proofs.Theorem.{reached_are_readable, reached_are_enough}
use Rattle.vd_noninter.specs.declared.edge.Edge.{Edge}
use Rattle.vd_noninter.specs.declared.reader.Reader.{Reader}
use Rattle.vd_noninter.specs.Edges.{reads_in, edges_of}
use Rattle.vd_noninter.specs.Reached.{IsReachOf}
use Rattle.vd_noninter.proofs.Closing.{edges_close}
use Rattle.vd_noninter.proofs.Declared.{eight_hosts, body_closed}
use Rattle.vd_noninter.proofs.Following.{least_reach}

-- acting for, as the test that the code computes
pub as_test : (b : Bool) (f g : TruthTable) → (IsTrue b ↔ ActsFor f g) → b ≡ acts f g
as_test b f g is = by b (acts f g) (λ t. for_acts f g (is.0 t)) (λ t. is.1 (acts_for f g t))
  where
    by : (b c : Bool) → (b ≡ true → c ≡ true) → (c ≡ true → b ≡ true) → b ≡ c
    by true c there back = sym (there refl)
    by false true there back = back refl
    by false false there back = refl

pub both_if : (a b : Bool) → (b ≡ true → a ≡ true) → (a && b) ≡ b
both_if a true is = ap (λ c. c && true) (is refl)
both_if true false is = refl
both_if false false is = refl

module _ (p : NormalForm) (l : Labels) (h : HostId) (well : IsWellMade p) where
  -- what is reached along the edges is the dependence
  reached_depends : (table : ℕ → Bool) → ((x : SlotId) → is_below (length p.slots) x ≡ true → table x.0 ≡ reads_slot p l h x.0) → (r : Reach) → IsReachOf (edges_of table h.0 p.body) r → IsDependence p l h r
  reached_depends table same r is =
      let low = (well_made_scoped p well).named_slots in
      let closes_at = λ (other : Reach). edges_close other (reads_slot p l h) table h.0 (length p.slots) same p.body low in
      record { closed = sym (closes_at r) ∙ is.closed; least = λ other closed. is.least other (closes_at other ∙ closed) }

  pub has_dependence : (r : Reach) × IsDependence p l h r
  has_dependence = let found = least_reach (edges_of (reads_slot p l h) h.0 p.body) in (found.0, reached_depends (reads_slot p l h) (λ x low. refl) found.0 found.1)

  module _ (satisfies : Satisfies (system_of p) l) where
    table_is : (reader : Reader) → reader.slots ≡ map (λ label. acts (host_label p h).conf label.conf) l.slots → (x : SlotId) → is_below (length p.slots) x ≡ true → reads_in reader x.0 ≡ reads_slot p l h x.0
    table_is reader is x low =
        let as_many = satisfies.solves.labelling.slots ∙ same_slots p.body p (Block 0) (at_start p) in
        ap (λ xs. slice_index_or xs x.0 false) is
        ∙ get_or-map (λ label. acts (host_label p h).conf label.conf) l.slots x.0 no_label false (subst (λ n. x.0 < n) (sym as_many) (ltb-true x.0 (length p.slots) low))

    pub answers : (reader : Reader) (edges : List Edge) (r : Reach) (hosts : ℕ → Bool) → reader.host ≡ h → reader.slots ≡ map (λ label. acts (host_label p h).conf label.conf) l.slots
        → edges ≡ edges_of (reads_in reader) reader.host.0 p.body → IsReachOf edges r → ((k : ℕ) → hosts k ≡ (nat_lt k 8 && r.hosts k)) → AreReached p l h hosts
    answers reader edges r hosts host slots are reached members =
        let edges_are : edges ≡ edges_of (reads_in reader) h.0 p.body = are ∙ ap (λ (z : HostId). edges_of (reads_in reader) z.0 p.body) host in
        let dependence = reached_depends (reads_in reader) (table_is reader slots) r (subst (λ z. IsReachOf z r) edges_are reached) in
        let few = well.limits.hosts in
        let few_hosts : length p.hosts ≤ 8 = omega arith in
        let within = dependence.least eight_hosts (body_closed (reads_slot p l h) h.0 (length p.hosts) few_hosts p.body well.known_hosts) in
        record { reach = r; dependence = dependence; same = λ k. members k ∙ both_if (nat_lt k 8) (r.hosts k) (within.hosts k) }

    pub labels_over : All (IsLabelOver (length p.principals)) l.slots
    labels_over = subst (λ n. All (IsLabelOver n) l.slots) (ap length (same_principals p.body p (Block 0) (at_start p))) satisfies.solves.labelling.slot_labels

    -- of a form and labels as they are read
    pub all_answers : (form : NormalForm) (slots_read : List Label) (reader : Reader) (edges : List Edge) (r : Reach) (hosts : ℕ → Bool) → form ≡ p → slots_read ≡ l.slots
        → reader.host ≡ h → reader.slots ≡ map (λ label. acts (host_label form h).conf label.conf) slots_read → edges ≡ edges_of (reads_in reader) reader.host.0 form.body
        → IsReachOf edges r → ((k : ℕ) → hosts k ≡ (nat_lt k 8 && r.hosts k))
        → AreReached p l h hosts × (AreReadable p h hosts × AreEnough p l h hosts)
    all_answers form slots_read reader edges r hosts same same_read host slots are reached members =
        let all = answers reader edges r hosts host (slots ∙ (λ i. map (λ label. acts (host_label (same i) h).conf label.conf) (same_read i)))
        (are ∙ ap (λ (f : NormalForm). edges_of (reads_in reader) reader.host.0 f.body) same) reached members in
        (all, (reached_are_readable p l h well satisfies hosts all, reached_are_enough p l h well satisfies hosts all))
