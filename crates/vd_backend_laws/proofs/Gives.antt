-- What a back end's law says, as the theory of the splitter asks it.
use Rattle.std.proofs.Common.{◌≡◌, ℕ, ◌<◌, true, IsTrue, List, [], ◌∷◌, ◌++◌, inl, inr, map, drop, refl, sym, ap, subst, ◌∙◌}
use Rattle.vd_base.specs.declared.operations.Op.{Op}
use Rattle.vd_base.specs.declared.protocols.Proto.{Proto}
use Rattle.vd_base.specs.declared.protocols.Proto.TheVariants.{Local, Rep, Commit, Add, Xor}
use Rattle.vd_base.specs.declared.rows.Row.TheVariants.{Constant, Variable, Apply}
use Rattle.vd_base.specs.Holders.{holders}
use Rattle.vd_execution.specs.declared.instructions.Act.{Act}
use Rattle.vd_execution.specs.World.{Tape}
use Rattle.vd_execution.specs.Deals.{IsValidDeal}
use Rattle.vd_execution.specs.Joint.{Hosts}
use Rattle.vd_execution.specs.Acts.{run_acts, ActsAgree, run_act}
use Rattle.vd_execution.specs.Gadgets.{Gadget, acts_of_gadget, acts_of_gadgets, GadgetsAreTidy}
use Rattle.vd_duet.specs.Calls.{Places, Made, Calls}
use Rattle.vd_duet.specs.Laws.{Each, IsIn, IsInOne, AreKnown, IsReady, GivesWord, BackendLaws, Leads as DuetLeads, Operand as DuetOperand, Operands as DuetOperands, Renews as DuetRenews}
use Rattle.vd_duet.proofs.Front.{run_append}
use Rattle.vd_clear.proofs.Front.{clear_laws}
use Rattle.vd_words.proofs.Front.{add_laws}
use Rattle.vd_bits.proofs.Front.{circuit_laws}
use Rattle.vd_circuit.specs.CircuitCalls.{circuit_serves}
use Rattle.vd_split.specs.Joint.{Hosts as AnyHosts, run_acts as run_all, AllFine}
use Rattle.vd_split.specs.Suite.{Suite, Word, Gives, Leads, Ready, Operand, Operands, NamedBy, Renews}
use Rattle.vd_backend_laws.specs.Machine.{machine}
use Rattle.vd_backend_laws.specs.Parts.{Parts, word_in, made_of, has_back_end, back_end}
use Rattle.vd_backend_laws.specs.Suite.{Names, StandForCells, IsOver, holds, suite}
use Rattle.vd_backend_laws.proofs.Over.{ordered_differ}
use Rattle.vd_backend_laws.proofs.Standing.{no_back_end, cells_of, of_cells, word_of, stand_of, names_in, in_names, all_below, below_at}

runs_as_acts : (t : Tape) (inputs : ℕ → List ℕ) (gadgets : List Gadget) (w : Hosts) → run_all (machine t inputs) gadgets w ≡ run_acts t (acts_of_gadgets gadgets) w
runs_as_acts t inputs [] w = refl
runs_as_acts t inputs (g ∷ gadgets) w = runs_as_acts t inputs gadgets (run_acts t (acts_of_gadget g) w) ∙ sym (run_append t (acts_of_gadget g) (acts_of_gadgets gadgets) w)

agree_parts : (t : Tape) (xs ys : List Act) (w : Hosts) → ActsAgree t (xs ++ ys) w → ActsAgree t xs w × ActsAgree t ys (run_acts t xs w)
agree_parts t [] ys w a = (tt, a)
agree_parts t (x ∷ xs) ys w a = let p = agree_parts t xs ys (run_act t x w) a.1 in ((a.0, p.0), p.1)

all_fine : (t : Tape) (inputs : ℕ → List ℕ) (gadgets : List Gadget) (w : Hosts) → ActsAgree t (acts_of_gadgets gadgets) w → GadgetsAreTidy gadgets → AllFine (machine t inputs) gadgets w
all_fine t inputs [] w a tidy = tt
all_fine t inputs (g ∷ gadgets) w a tidy =
    let p = agree_parts t (acts_of_gadget g) (acts_of_gadgets gadgets) w a in
    ((p.0, tidy.0), all_fine t inputs gadgets (run_acts t (acts_of_gadget g) w) p.1 tidy.1)

pub proto_is : (p : Proto) → (back_end p).proto ≡ p
proto_is (Local h) = refl
proto_is (Rep set) = refl
proto_is (Commit a b) = refl
proto_is (Add a b) = refl
proto_is (Xor a b) = refl

-- ---- a table's row that asks for a back end

pub for_constant : (p : Proto) → IsTrue (holds Constant p) → has_back_end p ≡ true
for_constant (Local h) row = refl
for_constant (Rep set) row = refl
for_constant (Commit a b) row = no_back_end row
for_constant (Add a b) row = refl
for_constant (Xor a b) row = refl

pub for_variable : (p : Proto) → IsTrue (holds Variable p) → has_back_end p ≡ true
for_variable (Local h) row = refl
for_variable (Rep set) row = refl
for_variable (Commit a b) row = no_back_end row
for_variable (Add a b) row = refl
for_variable (Xor a b) row = refl

pub for_operation : (o : Op) (p : Proto) → IsTrue (holds (Apply o) p) → has_back_end p ≡ true
for_operation o (Local h) row = refl
for_operation o (Rep set) row = refl
for_operation o (Commit a b) row = no_back_end row
for_operation o (Add a b) row = refl
for_operation o (Xor a b) row = refl

pub serves : (p : Proto) (o : Op) → IsTrue (holds (Apply o) p) → IsTrue ((back_end p).serves o)
serves (Local h) o row = refl
serves (Rep set) o row = refl
serves (Commit a b) o row = row
serves (Add a b) o row = row
serves (Xor a b) o row = row

pub laws_of : (p : Proto) → has_back_end p ≡ true → (hosts : ℕ) → IsOver hosts p → BackendLaws (back_end p)
laws_of (Local h) e hosts d = clear_laws (Local h) tt d.some.0 d.some.1
laws_of (Rep set) e hosts d = clear_laws (Rep set) tt d.some.0 d.some.1
laws_of (Commit a b) e hosts d = no_back_end e
laws_of (Add a b) e hosts d = add_laws a b (ordered_differ a b d.ordered)
laws_of (Xor a b) e hosts d = circuit_laws a b (ordered_differ a b d.ordered) circuit_serves (λ o can. can)

module _ (t : Tape) (inputs : ℕ → List ℕ) (hosts : ℕ) where
  abbrev pub M : AnyHosts
  M = machine t inputs

  abbrev pub S : Suite (machine t inputs)
  S = suite t inputs hosts

  -- gadgets of a back end lead there as acts of the suite
  pub leads_as : (next : List ℕ) (changed changed' : ℕ → ℕ → Type 0) (gadgets : List Gadget) (w u : Hosts) → ((h r : ℕ) → changed h r → changed' h r)
      → GadgetsAreTidy gadgets → DuetLeads t next changed gadgets w u → Leads M S next changed' gadgets w u
  leads_as next changed changed' gadgets w u f tidy l = record {
    runs = runs_as_acts t inputs gadgets w ∙ l.runs;
    fine = all_fine t inputs gadgets w l.agrees tidy;
    sound = l.sound;
    kept = λ h r low not. l.kept h r low (λ c. not (f h r c));
  }

  -- a call of a back end is a call of the suite
  pub gives_word : (c : Calls) (next : List ℕ) (source source' : ℕ → ℕ → Type 0) (made : Made Places) (w : Hosts) (p : Proto) (v : ℕ) → has_back_end p ≡ true → c.proto ≡ p
      → ((h r : ℕ) → source h r → source' h r) → GivesWord c t next source made w v → Gives M S next source' (made_of made) w p (Word v)
  gives_word c next source source' made w p v e is f g = record {
    reached = g.reached;
    leads = leads_as next (λ h r. ⊥) (λ h r. ⊥) made.gadgets w g.reached (λ h r x. x) g.orderly.tidy g.leads;
    quiet = record { printed = g.leads.printed; waiting = λ h. ap (λ (n : ℕ). drop n (inputs h)) (g.leads.inputs h) };
    fresh = record {
      known = g.orderly.few.0;
      longer = g.orderly.longer;
      below = λ h r n. below_at made.next made.given g.orderly.below h r (names_in (word_in made.given) h r refl n);
      from = λ h r n. elim (g.orderly.from h r (names_in (word_in made.given) h r refl n)) [ inl low ↦ inl low | inr s ↦ inr (f h r s) ];
    };
    stands = of_cells p e g.reached (word_in made.given) (Word v) (stand_of c g.reached p made.given v is g.is);
  }

  pub ready_at : IsValidDeal t → (c : Calls) (next : List ℕ) (w : Hosts) (p : Proto) → c.proto ≡ p → IsOver hosts p → Ready M S next w → IsReady c t next w
  ready_at deal c next w p is d r = record {
    deal = deal;
    sound = r.sound;
    known = subst (λ (z : Proto). AreKnown (holders z) next) (sym is) (subst (λ (n : ℕ). Each (λ h. h.0 < n) (holders p)) (sym r.known) d.known);
  }

  pub operand_at : (c : Calls) (next : List ℕ) (w : Hosts) (p : Proto) (x : Parts) (v : ℕ) → has_back_end p ≡ true → c.proto ≡ p → Operand M S next w p x v → DuetOperand c next w x.at v
  operand_at c next w p x v e is o =
      let s = cells_of p e w x (Word v) o.stands in
      record { below = all_below next x.at (λ h r i. o.below h r (in_names x h r s.size i)); stands = word_of c w p x v is s }

  pub operands_at : (c : Calls) (next : List ℕ) (w : Hosts) (p : Proto) (xs : List Parts) (vs : List ℕ) → has_back_end p ≡ true → c.proto ≡ p → Operands M S next w p xs vs
      → DuetOperands c next w (map (λ x. x.at) xs) vs
  operands_at c next w p [] [] e is o = tt
  operands_at c next w p [] (v ∷ vs) e is o = o
  operands_at c next w p (x ∷ xs) [] e is o = o
  operands_at c next w p (x ∷ xs) (v ∷ vs) e is o = (operand_at c next w p x v e is o.0, operands_at c next w p xs vs e is o.1)

  pub named_by : (next : List ℕ) (w : Hosts) (p : Proto) (xs : List Parts) (vs : List ℕ) → has_back_end p ≡ true → Operands M S next w p xs vs → (h r : ℕ)
      → IsInOne (map (λ x. x.at) xs) h r → NamedBy M S xs h r
  named_by next w p [] vs e o h r i = i
  named_by next w p (x ∷ xs) [] e o h r i = absurd o
  named_by next w p (x ∷ xs) (v ∷ vs) e o h r (inl i) = inl (in_names x h r (cells_of p e w x (Word v) o.0.stands).size i)
  named_by next w p (x ∷ xs) (v ∷ vs) e o h r (inr i) = inr (named_by next w p xs vs e o.1 h r i)

  -- what a back end renews, the suite renews
  pub renews_word : (c : Calls) (next : List ℕ) (kept x : Parts) (w : Hosts) (p : Proto) (v : ℕ) → has_back_end p ≡ true → c.proto ≡ p → kept.size ≡ 1
      → DuetRenews c t next kept.at x.at w v → Renews M S next kept (c.renew kept.at x.at) w p (Word v)
  renews_word c next kept x w p v e is one r = record {
    reached = r.reached;
    leads = leads_as next (IsIn kept.at) (Names kept) (c.renew kept.at x.at) w r.reached (λ h q i. in_names kept h q one i) r.tidy r.leads;
    quiet = record { printed = r.leads.printed; waiting = λ h. ap (λ (n : ℕ). drop n (inputs h)) (r.leads.inputs h) };
    stands = of_cells p e r.reached kept (Word v) (again (stand_of c r.reached p kept.at v is r.stands));
  }
    where
      again : StandForCells r.reached p (word_in kept.at) (v ∷ []) → StandForCells r.reached p kept (v ∷ [])
      again s = subst (λ (n : ℕ). StandForCells r.reached p (record { at = kept.at; size = n }) (v ∷ [])) (sym one) s
