-- What statements ask of labels, as relations between these, and the rules and checks that say so.
use Rattle.std.proofs.Common.{◌≡◌, ℕ, ◌+◌, List, [], ◌∷◌, ◌++◌, Option, Some, None, map, refl, sym, ◌∙◌, subst, rules}
use Rattle.std.specs.Prelude.{All}
use Rattle.std.specs.List.{flat_map}
use Rattle.std.proofs.lemmas.List.Concat.{flat_map-cons}
use Rattle.std.proofs.lemmas.List.Elements.{All-nil, All-cons, All-head, All-tail, All-append}
use Rattle.vd_base.specs.declared.ids.SlotId.{SlotId}
use Rattle.vd_base.specs.declared.ids.HostId.{HostId}
use Rattle.vd_core.specs.declared.normal.NormalForm.{NormalForm}
use Rattle.vd_core.specs.declared.normal.Right.{Right}
use Rattle.vd_core.specs.declared.normal.Right.TheVariants.{Lit, Turn, Copy, Apply, Input, Declassify, Endorse, Load, Get}
use Rattle.vd_core.specs.declared.normal.Stmt.{Stmt, Let, NewVar, NewArray, Store, Put, Output, If, For}
use Rattle.vd_core.specs.declared.normal.Stmt.TheFolds.{the_lemmas}
use Rattle.vd_core.specs.declared.normal.Stmt.TheOpen.{Stmt-F}
use Rattle.vd_formula.specs.declared.label.Label.{Label}
use Rattle.vd_formula.specs.TruthTable.{TruthTable, ActsFor, implies_of, either_of}
use Rattle.vd_formula.proofs.Front.{acts_refl, acts_trans}
use Rattle.vd_constraints.specs.declared.labels.Labels.{Labels}
use Rattle.vd_constraints.specs.declared.system.Check.{Check}
use Rattle.vd_constraints.specs.declared.system.Lower.{Lower}
use Rattle.vd_constraints.specs.declared.system.Place.{Place}
use Rattle.vd_constraints.specs.declared.system.Place.TheVariants.{Slot}
use Rattle.vd_constraints.specs.Systems.{Constraints, IsLabelOver}
use Rattle.vd_constraints.specs.Satisfies.{label_at, HoldsRule, HoldsCheck}
use Rattle.vd_constraints.specs.Rules.{flows, formula, host_label, right_rules, right_checks, input_rules, declassify_rules, endorse_rules, written_rules, written_checks, with_rules, with_checks, with_optional, stmt_step, with_stmt, with_body}

-- ---- lists, one by one
module _ {X : Type 0} (P : X → Type 0) where
  abbrev pub Each : List X → Type 0
  Each [] = Unit {0}
  Each (x ∷ xs) = P x × Each xs

  pub each : (xs : List X) → All P xs → Each xs
  each [] all = tt
  each (x ∷ xs) all = (All-head P x xs all, each xs (All-tail P x xs all))

  pub together : (xs : List X) → Each xs → All P xs
  together [] e = All-nil P
  together (x ∷ xs) e = All-cons P x xs e.0 (together xs e.1)

  pub front : (xs ys : List X) → All P (xs ++ ys) → All P xs
  front [] ys all = All-nil P
  front (x ∷ xs) ys all = All-cons P x xs (All-head P x (xs ++ ys) all) (front xs ys (All-tail P x (xs ++ ys) all))

  pub back : (xs ys : List X) → All P (xs ++ ys) → All P ys
  back [] ys all = all
  back (x ∷ xs) ys all = back xs ys (All-tail P x (xs ++ ys) all)

-- ---- labels

-- what has the one label may go to what has the other
pub record Flows (a b : Label) : Type 0 where
  pub conf : ActsFor b.conf a.conf
  pub integ : ActsFor a.integ b.integ

pub flows_self : (a : Label) → Flows a a
flows_self a = record { conf = acts_refl a.conf; integ = acts_refl a.integ }

pub flows_on : (n : ℕ) (a b c : Label) → IsLabelOver n a → IsLabelOver n b → IsLabelOver n c → Flows a b → Flows b c → Flows a c
flows_on n a b c oa ob oc f g =
    record {
      conf = acts_trans c.conf b.conf a.conf (oc.conf.over ∙ sym ob.conf.over) g.conf f.conf;
      integ = acts_trans a.integ b.integ c.integ (oa.integ.over ∙ sym ob.integ.over) f.integ g.integ;
    }

-- the new block asks no more than the old one
pub record Outer (n : ℕ) (new old : Label) : Type 0 where
  pub conf : (q : TruthTable) → q.names ≡ n → ActsFor q old.conf → ActsFor q new.conf
  pub integ : (q : TruthTable) → ActsFor old.integ q → ActsFor new.integ q

pub outer_of : (n : ℕ) (new old : Label) → IsLabelOver n new → IsLabelOver n old → Flows new old → Outer n new old
outer_of n new old on oo f =
    record {
      conf = λ q e acts. acts_trans q old.conf new.conf (e ∙ sym oo.conf.over) acts f.conf;
      integ = λ q acts. acts_trans new.integ old.integ q (on.integ.over ∙ sym oo.integ.over) f.integ acts;
    }

-- ---- what right sides ask, of the label of the block, that of the slot, and those of operands
pub record InputFits (host pc x : Label) : Type 0 where
  pub conf : ActsFor x.conf host.conf
  pub block : ActsFor pc.integ host.integ
  pub integ : ActsFor host.integ x.integ
  pub asked : ActsFor host.conf pc.conf

pub record DeclassifyFits (to : TruthTable) (pc x y : Label) : Type 0 where
  pub conf : ActsFor x.conf to
  pub integ : ActsFor y.integ x.integ
  pub given : ActsFor y.integ (implies_of to y.conf)
  pub block_conf : ActsFor x.conf pc.conf
  pub block_integ : ActsFor pc.integ x.integ
  pub block_given : ActsFor pc.integ (implies_of to y.conf)

pub record EndorseFits (to : TruthTable) (pc x y : Label) : Type 0 where
  pub conf : ActsFor x.conf y.conf
  pub integ : ActsFor y.integ (either_of to y.conf)
  pub block_conf : ActsFor x.conf pc.conf
  pub block_integ : ActsFor pc.integ x.integ
  pub wanted : ActsFor to x.integ

pub record OutputFits (host pc y : Label) : Type 0 where
  pub integ : ActsFor y.integ host.integ
  pub block : ActsFor pc.integ host.integ
  pub conf : ActsFor host.conf y.conf
  pub asked : ActsFor host.conf pc.conf

abbrev pub AllFlow : (ℕ → Label) → List SlotId → Label → Type 0
AllFlow of [] x = Unit {0}
AllFlow of (y ∷ ys) x = Flows (of y.0) x × AllFlow of ys x

abbrev pub RightFits : NormalForm → Right → Label → Label → (ℕ → Label) → Type 0
RightFits p (Lit n) pc x of = Unit {0}
RightFits p Turn pc x of = Unit {0}
RightFits p (Copy y) pc x of = Flows (of y.0) x
RightFits p (Apply o ys) pc x of = AllFlow of ys x
RightFits p (Input h) pc x of = InputFits (host_label p h) pc x
RightFits p (Declassify y form) pc x of = DeclassifyFits (formula p form) pc x (of y.0)
RightFits p (Endorse y form) pc x of = EndorseFits (formula p form) pc x (of y.0)
RightFits p (Load v) pc x of = Flows (of v.0) x
RightFits p (Get v i) pc x of = Flows (of v.0) x × Flows (of i.0) x

pub record WrittenFits (w x : Label) : Type 0 where
  pub conf : ActsFor x.conf w.conf
  pub integ : ActsFor x.integ w.integ
  pub most_conf : ActsFor w.conf x.conf
  pub most_integ : ActsFor w.integ x.integ

abbrev pub OptionalFits : Option Label → Label → Type 0
OptionalFits None x = Unit {0}
OptionalFits (Some w) x = WrittenFits w x

module _ (l : Labels) where
  abbrev pub slot_label : ℕ → Label
  slot_label k = label_at l (Slot (record { 0 = k }))

  abbrev Rules : List Lower → Type 0
  Rules rs = All (HoldsRule l) rs

  pub flows_met : (from to : Place) → Flows (label_at l from) (label_at l to) → All (HoldsRule l) (flows from to)
  flows_met from to f = together (HoldsRule l) (flows from to) (f.conf, (f.integ, tt))

  pub flows_of : (from to : Place) → All (HoldsRule l) (flows from to) → Flows (label_at l from) (label_at l to)
  flows_of from to all = let e = each (HoldsRule l) (flows from to) all in record { conf = e.0; integ = e.1.0 }

  abbrev to_slot : SlotId → SlotId → List Lower
  to_slot x y = flows (Slot y) (Slot x)

  operands_met : (x : SlotId) (ys : List SlotId) → AllFlow slot_label ys (slot_label x.0) → All (HoldsRule l) (flat_map (to_slot x) ys)
  operands_met x [] f = All-nil (HoldsRule l)
  operands_met x (y ∷ ys) f =
      subst Rules (sym (flat_map-cons (to_slot x) y ys)) (All-append (HoldsRule l) (to_slot x y) (flat_map (to_slot x) ys) (flows_met (Slot y) (Slot x) f.0) (operands_met x ys f.1))

  operands_of : (x : SlotId) (ys : List SlotId) → All (HoldsRule l) (flat_map (to_slot x) ys) → AllFlow slot_label ys (slot_label x.0)
  operands_of x [] all = tt
  operands_of x (y ∷ ys) all =
      let all' = subst Rules (flat_map-cons (to_slot x) y ys) all in
      (flows_of (Slot y) (Slot x) (front (HoldsRule l) (to_slot x y) (flat_map (to_slot x) ys) all'), operands_of x ys (back (HoldsRule l) (to_slot x y) (flat_map (to_slot x) ys) all'))

  pub right_met : (p : NormalForm) (pc : Place) (x : SlotId) (r : Right) → RightFits p r (label_at l pc) (slot_label x.0) slot_label → All (HoldsRule l) (right_rules p pc x r) × All (HoldsCheck l) (right_checks p pc x r)
  right_met p pc x (Lit n) f = (All-nil (HoldsRule l), All-nil (HoldsCheck l))
  right_met p pc x Turn f = (All-nil (HoldsRule l), All-nil (HoldsCheck l))
  right_met p pc x (Copy y) f = (flows_met (Slot y) (Slot x) f, All-nil (HoldsCheck l))
  right_met p pc x (Load v) f = (flows_met (Slot v) (Slot x) f, All-nil (HoldsCheck l))
  right_met p pc x (Apply o ys) f = (operands_met x ys f, All-nil (HoldsCheck l))
  right_met p pc x (Get v i) f = (All-append (HoldsRule l) (to_slot x v) (to_slot x i) (flows_met (Slot v) (Slot x) f.0) (flows_met (Slot i) (Slot x) f.1), All-nil (HoldsCheck l))
  right_met p pc x (Input h) f =
      (together (HoldsRule l) (input_rules (host_label p h) pc (Slot x)) (f.conf, (f.block, tt)), together (HoldsCheck l) (right_checks p pc x (Input h)) (f.integ, (f.asked, tt)))
  right_met p pc x (Declassify y form) f =
      (together (HoldsRule l) (declassify_rules (formula p form) pc (Slot x) (Slot y)) (f.conf, (f.integ, (f.given, (f.block_conf, (f.block_integ, (f.block_given, tt)))))), All-nil (HoldsCheck l))
  right_met p pc x (Endorse y form) f =
      (together (HoldsRule l) (endorse_rules (formula p form) pc (Slot x) (Slot y)) (f.conf, (f.integ, (f.block_conf, (f.block_integ, tt)))), together (HoldsCheck l) (right_checks p pc x (Endorse y form)) (f.wanted, tt))

  pub right_of : (p : NormalForm) (pc : Place) (x : SlotId) (r : Right) → All (HoldsRule l) (right_rules p pc x r) → All (HoldsCheck l) (right_checks p pc x r) → RightFits p r (label_at l pc) (slot_label x.0) slot_label
  right_of p pc x (Lit n) all checks = tt
  right_of p pc x Turn all checks = tt
  right_of p pc x (Copy y) all checks = flows_of (Slot y) (Slot x) all
  right_of p pc x (Load v) all checks = flows_of (Slot v) (Slot x) all
  right_of p pc x (Apply o ys) all checks = operands_of x ys all
  right_of p pc x (Get v i) all checks = (flows_of (Slot v) (Slot x) (front (HoldsRule l) (to_slot x v) (to_slot x i) all), flows_of (Slot i) (Slot x) (back (HoldsRule l) (to_slot x v) (to_slot x i) all))
  right_of p pc x (Input h) all checks =
      let e = each (HoldsRule l) (right_rules p pc x (Input h)) all in
      let c = each (HoldsCheck l) (right_checks p pc x (Input h)) checks in
      record { conf = e.0; block = e.1.0; integ = c.0; asked = c.1.0 }
  right_of p pc x (Declassify y form) all checks =
      let e = each (HoldsRule l) (right_rules p pc x (Declassify y form)) all in
      record { conf = e.0; integ = e.1.0; given = e.1.1.0; block_conf = e.1.1.1.0; block_integ = e.1.1.1.1.0; block_given = e.1.1.1.1.1.0 }
  right_of p pc x (Endorse y form) all checks =
      let e = each (HoldsRule l) (right_rules p pc x (Endorse y form)) all in
      let c = each (HoldsCheck l) (right_checks p pc x (Endorse y form)) checks in
      record { conf = e.0; integ = e.1.0; block_conf = e.1.1.0; block_integ = e.1.1.1.0; wanted = c.0 }

  -- ---- systems

  pub record Holds (c : Constraints) : Type 0 where
    pub rules : All (HoldsRule l) c.lower
    pub checks : All (HoldsCheck l) c.checks

  pub more_rules : (rs : List Lower) (c : Constraints) → Holds c → All (HoldsRule l) rs → Holds (with_rules rs c)
  more_rules rs c h all = record { rules = All-append (HoldsRule l) c.lower rs h.rules all; checks = h.checks }

  pub more_checks : (cs : List Check) (c : Constraints) → Holds c → All (HoldsCheck l) cs → Holds (with_checks cs c)
  more_checks cs c h all = record { rules = h.rules; checks = All-append (HoldsCheck l) c.checks cs h.checks all }

  pub fewer_rules : (rs : List Lower) (c : Constraints) → Holds (with_rules rs c) → Holds c × All (HoldsRule l) rs
  fewer_rules rs c h = (record { rules = front (HoldsRule l) c.lower rs h.rules; checks = h.checks }, back (HoldsRule l) c.lower rs h.rules)

  pub fewer_checks : (cs : List Check) (c : Constraints) → Holds (with_checks cs c) → Holds c × All (HoldsCheck l) cs
  fewer_checks cs c h = (record { rules = h.rules; checks = front (HoldsCheck l) c.checks cs h.checks }, back (HoldsCheck l) c.checks cs h.checks)

  pub optional_met : (o : Option Label) (x : Place) (offset : ℕ) (c : Constraints) → Holds c → OptionalFits o (label_at l x) → Holds (with_optional o x offset c)
  optional_met None x offset c h f = h
  optional_met (Some w) x offset c h f =
      more_checks (written_checks w x offset) (with_rules (written_rules w x) c) (more_rules (written_rules w x) c h (together (HoldsRule l) (written_rules w x) (f.conf, (f.integ, tt))))
      (together (HoldsCheck l) (written_checks w x offset) (f.most_conf, (f.most_integ, tt)))

  pub optional_of : (o : Option Label) (x : Place) (offset : ℕ) (c : Constraints) → Holds (with_optional o x offset c) → Holds c × OptionalFits o (label_at l x)
  optional_of None x offset c h = (h, tt)
  optional_of (Some w) x offset c h =
      let a = fewer_checks (written_checks w x offset) (with_rules (written_rules w x) c) h in
      let b = fewer_rules (written_rules w x) c a.0 in
      let r = each (HoldsRule l) (written_rules w x) b.1 in
      let k = each (HoldsCheck l) (written_checks w x offset) a.1 in
      (b.0, record { conf = r.0; integ = r.1.0; most_conf = k.0; most_integ = k.1.0 })

pub optional_blocks : (o : Option Label) (x : Place) (offset : ℕ) (c : Constraints) → (with_optional o x offset c).blocks ≡ c.blocks
optional_blocks None x offset c = refl
optional_blocks (Some w) x offset c = refl

-- ---- statements

abbrev pub Step : Type 0
Step = NormalForm → Place → Constraints → Constraints

pub asks_let : (x : SlotId) (r : Right) → with_stmt (Let x r) ≡ stmt_step (Stmt-F.Let x r)
asks_let x r = search (rules, the_lemmas)

pub asks_var : (v y : SlotId) → with_stmt (NewVar v y) ≡ stmt_step (Stmt-F.NewVar v y)
asks_var v y = search (rules, the_lemmas)

pub asks_array : (v : SlotId) (n : ℕ) → with_stmt (NewArray v n) ≡ stmt_step (Stmt-F.NewArray v n)
asks_array v n = search (rules, the_lemmas)

pub asks_store : (v y : SlotId) → with_stmt (Store v y) ≡ stmt_step (Stmt-F.Store v y)
asks_store v y = search (rules, the_lemmas)

pub asks_put : (v i y : SlotId) → with_stmt (Put v i y) ≡ stmt_step (Stmt-F.Put v i y)
asks_put v i y = search (rules, the_lemmas)

pub asks_output : (y : SlotId) (h : HostId) (offset : ℕ) → with_stmt (Output y h offset) ≡ stmt_step (Stmt-F.Output y h offset)
asks_output y h offset = search (rules, the_lemmas)

pub asks_if : (y : SlotId) (a b : List Stmt) (offset : ℕ) → with_stmt (If y a b offset) ≡ stmt_step (Stmt-F.If y (map with_stmt a) (map with_stmt b) offset)
asks_if y a b offset = search (rules, the_lemmas)

pub asks_for : (n : ℕ) (body : List Stmt) → with_stmt (For n body) ≡ stmt_step (Stmt-F.For n (map with_stmt body))
asks_for n body = search (rules, the_lemmas)

-- one statement more
pub asks_push : (xs : List Stmt) (s : Stmt) (p : NormalForm) (pc : Place) (c : Constraints) → with_body (xs ++ s ∷ []) p pc c ≡ with_stmt s p pc (with_body xs p pc c)
asks_push [] s p pc c = refl
asks_push (x ∷ xs) s p pc c = asks_push xs s p pc (with_stmt x p pc c)
