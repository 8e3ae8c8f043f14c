-- The flow rules of a labelling make statements flow, and hide where a guard is not trusted.
use Rattle.std.proofs.Common.{◌≡◌, ℕ, ◌+◌, ◌<◌, ◌≤◌, Bool, true, false, true≢false, ◌&&◌, ◌||◌, not, List, [], ◌∷◌, ◌++◌, map, length, Option, Some, None, refl, sym, ◌∙◌, subst, arith, if◌then◌else◌}
use Rattle.std.specs.Prelude.{All}
use Rattle.std.specs.Option.{option_map_or}
use Rattle.std.specs.List.{list_all, flat_map}
use Rattle.std.proofs.lemmas.Bool.{and_parts, ltb-true}
use Rattle.std.proofs.lemmas.List.Folds.{list_all-append}
use Rattle.vd_base.specs.declared.form.Form.{Form}
use Rattle.vd_base.specs.declared.ids.SlotId.{SlotId}
use Rattle.vd_base.specs.declared.ids.HostId.{HostId}
use Rattle.vd_core.specs.declared.normal.Right.{Right}
use Rattle.vd_core.specs.declared.normal.Right.TheVariants.{Lit, Turn, Copy, Apply, Input, Declassify, Endorse, Load, Get}
use Rattle.vd_core.specs.declared.normal.Stmt.{Stmt, roll-Stmt, map-Stmt, ind-Stmt}
use Rattle.vd_core.specs.declared.normal.Stmt.TheOpen.{Stmt-F}
use Rattle.vd_core.specs.declared.normal.Stmt.TheFolds.{fold-roll-Stmt}
use Rattle.vd_core.specs.declared.normal.Written.{Written}
use Rattle.vd_core.specs.declared.normal.NormalForm.{NormalForm}
use Rattle.vd_core.specs.Facts.{Sight, Seeing, is_binding, is_variable, is_array, right_sees, seeing_all, seeing_step, seeing}
use Rattle.vd_formula.specs.Forms.{formula_of}
use Rattle.vd_formula.specs.TruthTable.{TruthTable, ActsFor, any_of}
use Rattle.vd_formula.specs.declared.label.Label.{Label}
use Rattle.vd_constraints.specs.declared.system.Place.{Place}
use Rattle.vd_constraints.specs.declared.system.Place.TheVariants.{Slot, Block}
use Rattle.vd_constraints.specs.declared.system.Lower.{Lower}
use Rattle.vd_constraints.specs.declared.system.Check.{Check}
use Rattle.vd_constraints.specs.declared.labels.Labels.{Labels}
use Rattle.vd_constraints.specs.Systems.{Constraints}
use Rattle.vd_constraints.specs.Satisfies.{label_at, HoldsRule, HoldsCheck}
use Rattle.vd_constraints.specs.Scoped.{is_below, right_below, stmt_below, slots_below}
use Rattle.vd_constraints.specs.Rules.{flows as flow_rules, label, formula, no_authority, host_label, offset_of, written_at, right_rules, right_checks, with_rules, with_checks, with_block, with_optional, written_rules, written_checks, output_rules, output_checks, declassify_rules, endorse_rules, endorse_checks, with_branch, in_order, stmt_step, with_stmt}
use Rattle.vd_noninter.specs.Reading.{Makes, all_visible, all_hidden, makes_step, makes}
use Rattle.vd_noninter.specs.Flowing.{Knowledge, only_with, right_flows, right_hides, Flow, all_flow, all_hide, flow_step, flow}
use Rattle.vd_noninter.proofs.Lawful.{all_front, all_back, Each, each, then_only, and_of, false_if, not_if, member}
use Rattle.vd_noninter.specs.Trust.{IsTrust}
use Rattle.vd_noninter.proofs.Vouching.{vouching}

-- ---- formulas of hosts are over the principals
names_over : (p : NormalForm) (o : Option Written) → (option_map_or (label p) o (no_authority p)).integ.names ≡ length p.principals
unfolding formula_of any_of
names_over p None = refl
names_over p (Some written) = refl

module _ (p : NormalForm) (l : Labels) (T : TruthTable → Bool) (vouched freed : ℕ → ℕ → Bool) (V : ℕ → Bool) where
  abbrev pub names : ℕ
  names = length p.principals

  abbrev pub trusts_at : Place → Bool
  trusts_at at = T (label_at l at).integ

  abbrev pub trusts : ℕ → Bool
  trusts x = trusts_at (Slot (record { 0 = x }))

  abbrev pub trusts_host : ℕ → Bool
  trusts_host k = T (host_label p (record { 0 = k })).integ

  abbrev pub knowledge : Knowledge
  knowledge = vouching (λ x. trusts x && V x) vouched freed trusts_host trusts_host

  -- what is left of a system is met
  pub record Meets (c : Constraints) : Type 0 where
    pub rules : All (HoldsRule l) c.lower
    pub checks : All (HoldsCheck l) c.checks
    pub blocks : c.blocks ≤ length l.blocks

  drop_rules : (rules : List Lower) (c : Constraints) → Meets (with_rules rules c) → Meets c × All (HoldsRule l) rules
  drop_rules rules c m = (record { rules = all_front (HoldsRule l) c.lower rules m.rules; checks = m.checks; blocks = m.blocks }, all_back (HoldsRule l) c.lower rules m.rules)

  drop_checks : (checks : List Check) (c : Constraints) → Meets (with_checks checks c) → Meets c × All (HoldsCheck l) checks
  drop_checks checks c m = (record { rules = m.rules; checks = all_front (HoldsCheck l) c.checks checks m.checks; blocks = m.blocks }, all_back (HoldsCheck l) c.checks checks m.checks)

  drop_label : (o : Option Label) (x : Place) (offset : ℕ) (c : Constraints) → Meets (with_optional o x offset c) → Meets c
  drop_label None x offset c m = m
  drop_label (Some written) x offset c m = (drop_rules (written_rules written x) c (drop_checks (written_checks written x offset) (with_rules (written_rules written x) c) m).0).0

  abbrev pub Over : Place → Type 0
  Over at = (label_at l at).integ.names ≡ names

  -- what is freed by a declassification that keeps its rules is trusted, and so is its block
  abbrev pub FreesTrusted : ℕ → Type 0
  FreesTrusted slots =
      (to : TruthTable) (pc : Place) (x y : SlotId) → to.names ≡ names → x.0 < slots → y.0 < slots → Each (HoldsRule l) (declassify_rules to pc (Slot x) (Slot y)) → freed x.0 y.0 ≡ true
      → (trusts y.0 ≡ true) × (Over pc → trusts_at pc ≡ true)

  -- what becomes trusted is vouched for; and an endorsement that keeps its rules, and is vouched for, stands in a trusted block
  abbrev pub VouchesAll : Type 0
  VouchesAll = (x y : SlotId) → trusts x.0 ≡ true → trusts y.0 ≡ false → vouched x.0 y.0 ≡ true

  abbrev pub VouchedUnderTrust : ℕ → Type 0
  VouchedUnderTrust slots =
      (to : TruthTable) (pc : Place) (x y : SlotId) (offset : ℕ) → to.names ≡ names → x.0 < slots → y.0 < slots → Each (HoldsRule l) (endorse_rules to pc (Slot x) (Slot y)) → Each (HoldsCheck l) (endorse_checks to (Slot x) offset) → vouched x.0 y.0 ≡ true
      → Over pc → trusts_at pc ≡ true

  -- ---- what is trusted
  module _ (slots : ℕ) (slots_over : (x : SlotId) → x.0 < slots → Over (Slot x)) (blocks_over : (b : ℕ) → b < length l.blocks → Over (Block b)) (trust : IsTrust names T) (vouches : VouchesAll) (under : VouchedUnderTrust slots) (frees : FreesTrusted slots) where
    over_slot : (x : SlotId) → is_below slots x ≡ true → Over (Slot x)
    over_slot x low = slots_over x (ltb-true x.0 slots low)

    -- of a trusted place, what it comes from is trusted
    through : (from to : Place) → Over from → Over to → ActsFor (label_at l from).integ (label_at l to).integ → trusts_at to ≡ true → trusts_at from ≡ true
    through from to first second is here = trust (label_at l from).integ (label_at l to).integ first second is here

    kept_from : (x y : SlotId) → is_below slots x ≡ true → is_below slots y ≡ true → ActsFor (label_at l (Slot y)).integ (label_at l (Slot x)).integ → V y.0 ≡ true → (trusts x.0 && V x.0) ≡ true → (trusts y.0 && V y.0) ≡ true
    kept_from x y low y_low rule seen is = and_of (trusts y.0) (V y.0) (through (Slot y) (Slot x) (over_slot y y_low) (over_slot x low) rule (and_parts (trusts x.0) (V x.0) is).0) seen

    pub record Shown (sight : Sight) : Type 0 where
      pub bindings : list_all V sight.bindings ≡ true
      pub variables : list_all V sight.variables ≡ true
      pub arrays : list_all V sight.arrays ≡ true

    abbrev hidden_all : List ℕ → Bool
    hidden_all = list_all (λ x. not (V x))

    pub record Lawful (pc : Place) (c : Constraints) (see : Seeing) (m : Makes) (f : Flow) : Type 0 where
      pub before : Meets c
      pub flows : (sight : Sight) → Shown sight → (see sight).all ≡ true → list_all V m.visible ≡ true → hidden_all m.hidden ≡ true → (f.flows ≡ true) × Shown (see sight).after
      pub hides : Over pc → trusts_at pc ≡ false → hidden_all m.visible ≡ true → hidden_all m.hidden ≡ true → f.hides ≡ true

    abbrev Obeys : (NormalForm → Place → Constraints → Constraints) → Seeing → Makes → Flow → Bool → Type 0
    Obeys add see m f below = (pc : Place) (c : Constraints) → below ≡ true → Meets (add p pc c) → Lawful pc c see m f

    -- ---- right sides
    abbrev Rules : List Lower → Type 0
    Rules = Each (HoldsRule l)

    abbrev Checks : List Check → Type 0
    Checks = Each (HoldsCheck l)

    over_formula : (p' : NormalForm) (f : Form) → (formula p' f).names ≡ length p'.principals
    unfolding formula_of any_of
    over_formula p' f = refl

    operands_kept : (x : SlotId) (ys : List SlotId) → is_below slots x ≡ true → list_all (is_below slots) ys ≡ true → Rules (flat_map (λ y. flow_rules (Slot y) (Slot x)) ys) → (sight : Sight) → Shown sight
        → list_all (is_binding sight) ys ≡ true → (trusts x.0 && V x.0) ≡ true → list_all (λ y. trusts y.0 && V y.0) ys ≡ true
    operands_kept x [] low lows rules sight shown sees is = refl
    operands_kept x (y ∷ ys) low lows rules sight shown sees is =
        let parts = and_parts (is_binding sight y) (list_all (is_binding sight) ys) sees in
        let below = and_parts (is_below slots y) (list_all (is_below slots) ys) lows in
        rw (kept_from x y low below.0 rules.1.0 (member V y.0 sight.bindings shown.bindings parts.0) is, operands_kept x ys low below.1 rules.1.1 sight shown parts.1 is) refl

    binding_shown : (sight : Sight) (y : SlotId) → Shown sight → is_binding sight y ≡ true → V y.0 ≡ true
    binding_shown sight y shown here = member V y.0 sight.bindings shown.bindings here

    one_kept : (x y : SlotId) → is_below slots x ≡ true → is_below slots y ≡ true → ActsFor (label_at l (Slot y)).integ (label_at l (Slot x)).integ → V y.0 ≡ true → only_with (trusts x.0 && V x.0) (trusts y.0 && V y.0) ≡ true
    one_kept x y low y_low rule seen = then_only (trusts x.0 && V x.0) (trusts y.0 && V y.0) (kept_from x y low y_low rule seen)

    two_kept : (x y z : SlotId) → is_below slots x ≡ true → is_below slots y ≡ true → is_below slots z ≡ true → ActsFor (label_at l (Slot y)).integ (label_at l (Slot x)).integ → V y.0 ≡ true
        → ActsFor (label_at l (Slot z)).integ (label_at l (Slot x)).integ → V z.0 ≡ true → only_with (trusts x.0 && V x.0) ((trusts y.0 && V y.0) && (trusts z.0 && V z.0)) ≡ true
    two_kept x y z low y_low z_low one seen_y two seen_z =
        then_only (trusts x.0 && V x.0) ((trusts y.0 && V y.0) && (trusts z.0 && V z.0))
        (λ is. and_of (trusts y.0 && V y.0) (trusts z.0 && V z.0) (kept_from x y low y_low one seen_y is) (kept_from x z low z_low two seen_z is))

    -- an endorsed word is vouched for, or its operand is trusted and so kept
    endorsed_kept : (a v b w u : Bool) → (a ≡ true → b ≡ false → u ≡ true) → w ≡ true → only_with (a && v) (u || (b && w)) ≡ true
    endorsed_kept true true true w true h seen = refl
    endorsed_kept true true true w false h seen = seen
    endorsed_kept true true false w u h seen = rw (h refl refl) refl
    endorsed_kept true false b w u h seen = refl
    endorsed_kept false v b w u h seen = refl

    right_is_lawful : (pc : Place) (x : SlotId) (r : Right) → is_below slots x ≡ true → right_below slots r ≡ true → Rules (right_rules p pc x r) → Checks (right_checks p pc x r) → (sight : Sight) → Shown sight → right_sees r sight ≡ true → right_flows knowledge x r ≡ true
    right_is_lawful pc x (Lit n) low lows rules checks sight shown sees = refl
    right_is_lawful pc x Turn low lows rules checks sight shown sees = refl
    right_is_lawful pc x (Copy y) low lows rules checks sight shown sees = one_kept x y low lows rules.1.0 (binding_shown sight y shown sees)
    right_is_lawful pc x (Apply op ys) low lows rules checks sight shown sees =
        then_only (trusts x.0 && V x.0) (list_all (λ y. trusts y.0 && V y.0) ys) (operands_kept x ys low lows rules sight shown sees)
    right_is_lawful pc x (Input host) low lows rules checks sight shown sees =
        then_only (trusts x.0 && V x.0) (trusts_host host.0)
        (λ is. trust (host_label p host).integ (label_at l (Slot x)).integ (names_over p _) (over_slot x low) checks.0 (and_parts (trusts x.0) (V x.0) is).0)
    right_is_lawful pc x (Declassify y to) low lows rules checks sight shown sees =
        let seen = binding_shown sight y shown sees in
        and_of (only_with (trusts x.0 && V x.0) (trusts y.0 && V y.0)) (only_with (freed x.0 y.0) (trusts y.0 && V y.0)) (one_kept x y low lows rules.1.0 seen)
        (then_only (freed x.0 y.0) (trusts y.0 && V y.0) (λ is. and_of (trusts y.0) (V y.0) (frees (formula p to) pc x y (over_formula p to) (ltb-true x.0 slots low) (ltb-true y.0 slots lows) rules is).0 seen))
    right_is_lawful pc x (Endorse y to) low lows rules checks sight shown sees =
        and_of (only_with (trusts x.0 && V x.0) (vouched x.0 y.0 || (trusts y.0 && V y.0))) true (endorsed_kept (trusts x.0) (V x.0) (trusts y.0) (V y.0) (vouched x.0 y.0) (vouches x y) (binding_shown sight y shown sees)) refl
    right_is_lawful pc x (Load v) low lows rules checks sight shown sees = one_kept x v low lows rules.1.0 (member V v.0 sight.variables shown.variables sees)
    right_is_lawful pc x (Get v i) low lows rules checks sight shown sees =
        let parts = and_parts (is_array sight v) (is_binding sight i) sees in
        let below = and_parts (is_below slots v) (is_below slots i) lows in
        two_kept x v i low below.0 below.1 rules.1.0 (member V v.0 sight.arrays shown.arrays parts.0) rules.1.1.1.0 (binding_shown sight i shown parts.1)

    -- ---- under a guard that is not trusted
    untrusted : (x : SlotId) (pc : Place) → is_below slots x ≡ true → Over pc → ActsFor (label_at l pc).integ (label_at l (Slot x)).integ → trusts_at pc ≡ false → trusts x.0 ≡ true → ⊥
    untrusted x pc low over rule closed is = true≢false (sym (through pc (Slot x) over (over_slot x low) rule is) ∙ closed)

    untrusted_host : (host : HostId) (pc : Place) → Over pc → ActsFor (label_at l pc).integ (host_label p host).integ → trusts_at pc ≡ false → trusts_host host.0 ≡ true → ⊥
    untrusted_host host pc over rule closed is = true≢false (sym (trust (label_at l pc).integ (host_label p host).integ over (names_over p _) rule is) ∙ closed)

    not_both : (a b : Bool) → (a ≡ true → ⊥) → not (a && b) ≡ true
    not_both true b h = absurd (h refl)
    not_both false b h = refl

    right_is_hidden : (pc : Place) (x : SlotId) (r : Right) → is_below slots x ≡ true → right_below slots r ≡ true → Rules (right_rules p pc x r) → Checks (right_checks p pc x r) → Over pc → trusts_at pc ≡ false → right_hides knowledge x r ≡ true
    right_is_hidden pc x (Lit n) low lows rules checks over closed = refl
    right_is_hidden pc x Turn low lows rules checks over closed = refl
    right_is_hidden pc x (Copy y) low lows rules checks over closed = refl
    right_is_hidden pc x (Apply op ys) low lows rules checks over closed = refl
    right_is_hidden pc x (Input host) low lows rules checks over closed = not_if (trusts_host host.0) (untrusted_host host pc over rules.1.0 closed)
    right_is_hidden pc x (Declassify y to) low lows rules checks over closed =
        not_if (freed x.0 y.0) (λ is. true≢false (sym ((frees (formula p to) pc x y (over_formula p to) (ltb-true x.0 slots low) (ltb-true y.0 slots lows) rules is).1 over) ∙ closed))
    right_is_hidden pc x (Endorse y to) low lows rules checks over closed =
        and_of (not (vouched x.0 y.0)) true
        (not_if (vouched x.0 y.0) (λ is. true≢false (sym (under (formula p to) pc x y (offset_of p x) (over_formula p to) (ltb-true x.0 slots low) (ltb-true y.0 slots lows) rules checks is over) ∙ closed))) refl
    right_is_hidden pc x (Load v) low lows rules checks over closed = refl
    right_is_hidden pc x (Get v i) low lows rules checks over closed = refl

    hidden_by_view : (x : ℕ) → not (V x) ≡ true → not (trusts x && V x) ≡ true
    hidden_by_view x out = by (trusts x) (V x) out
      where
        by : (a b : Bool) → not b ≡ true → not (a && b) ≡ true
        by true b out = out
        by false b out = refl

    hidden_by_label : (v : SlotId) (pc : Place) → is_below slots v ≡ true → Over pc → ActsFor (label_at l pc).integ (label_at l (Slot v)).integ → trusts_at pc ≡ false → not (trusts v.0 && V v.0) ≡ true
    hidden_by_label v pc low over rule closed = not_both (trusts v.0) (V v.0) (untrusted v pc low over rule closed)

    -- ---- blocks
    abbrev block_flow : List Flow → Flow
    block_flow fs = record { flows = all_flow fs; hides = all_hide fs }

    abbrev block_makes : List Makes → Makes
    block_makes ms = record { visible = all_visible ms; hidden = all_hidden ms }

    abbrev all_true : List Bool → Bool
    all_true = list_all (λ b. b)

    none_obeys : Obeys (in_order []) (seeing_all []) (block_makes []) (block_flow []) (all_true [])
    none_obeys pc c low m = record { before = m; flows = λ sight shown sees vis hid. (refl, shown); hides = λ over closed vis hid. refl }

    both_parts : (test : ℕ → Bool) (xs ys : List ℕ) → list_all test (xs ++ ys) ≡ true → (list_all test xs ≡ true) × (list_all test ys ≡ true)
    both_parts test xs ys all = and_parts (list_all test xs) (list_all test ys) (sym (list_all-append test xs ys) ∙ all)

    more_obey : (add : NormalForm → Place → Constraints → Constraints) (adds : List (NormalForm → Place → Constraints → Constraints)) (see : Seeing) (sees : List Seeing) (m : Makes) (ms : List Makes) (f : Flow) (fs : List Flow) (below : Bool) (belows : List Bool)
        → Obeys add see m f below → Obeys (in_order adds) (seeing_all sees) (block_makes ms) (block_flow fs) (all_true belows)
        → Obeys (in_order (add ∷ adds)) (seeing_all (see ∷ sees)) (block_makes (m ∷ ms)) (block_flow (f ∷ fs)) (all_true (below ∷ belows))
    more_obey add adds see sees m ms f fs below belows first rest pc c low met =
        let lows = and_parts below (all_true belows) low in
        let two = rest pc (add p pc c) lows.1 met in
        let one = first pc c lows.0 two.before in
        record {
          before = one.before;
          flows = λ sight shown saw vis hid.
              let saws = and_parts (see sight).all (seeing_all sees (see sight).after).all saw in
              let viss = both_parts V m.visible (all_visible ms) vis in
              let hids = both_parts (λ x. not (V x)) m.hidden (all_hidden ms) hid in
              let a = one.flows sight shown saws.0 viss.0 hids.0 in
              let b = two.flows (see sight).after a.1 saws.1 viss.1 hids.1 in
              (and_of f.flows (all_flow fs) a.0 b.0, b.1);
          hides = λ over closed vis hid.
              let viss = both_parts (λ x. not (V x)) m.visible (all_visible ms) vis in
              let hids = both_parts (λ x. not (V x)) m.hidden (all_hidden ms) hid in
              and_of f.hides (all_hide fs) (one.hides over closed viss.0 hids.0) (two.hides over closed viss.1 hids.1);
        }

    -- ---- statements
    abbrev M : Type 0
    M = (s : Stmt) × Obeys (with_stmt s) (seeing s) (makes trusts s) (flow knowledge s) (slots_below slots s)

    abbrev statements : List M → List Stmt
    statements = map {B = Stmt} (λ (m : M). m.0)

    abbrev layer : Stmt-F M → Stmt-F Stmt
    layer = map-Stmt M Stmt (λ m. m.0)

    abbrev BlockObeys : List Stmt → Type 0
    BlockObeys body = Obeys (in_order (map with_stmt body)) (seeing_all (map seeing body)) (block_makes (map (makes trusts) body)) (block_flow (map (flow knowledge) body)) (all_true (map (slots_below slots) body))

    stmt_more : (s : Stmt) (body : List Stmt) → Obeys (with_stmt s) (seeing s) (makes trusts s) (flow knowledge s) (slots_below slots s) → BlockObeys body → BlockObeys (s ∷ body)
    stmt_more s body =
        more_obey (with_stmt s) (map with_stmt body) (seeing s) (map seeing body) (makes trusts s) (map (makes trusts) body) (flow knowledge s) (map (flow knowledge) body) (slots_below slots s) (map (slots_below slots) body)

    all_obey : (ms : List M) → BlockObeys (statements ms)
    all_obey [] = none_obeys
    all_obey (m ∷ ms) = stmt_more m.0 (statements ms) m.1 (all_obey ms)

    with_shown : (x : ℕ) (xs : List ℕ) → list_all V (x ∷ []) ≡ true → list_all V xs ≡ true → list_all V (x ∷ xs) ≡ true
    with_shown x xs vis all = and_of (V x) (list_all V xs) (and_parts (V x) true vis).0 all

    let_obeys : (x : SlotId) (r : Right) → Obeys (stmt_step (Stmt-F.Let x r)) (seeing_step (Stmt-F.Let x r)) (makes_step trusts (Stmt-F.Let x r)) (flow_step knowledge (Stmt-F.Let x r)) (stmt_below slots (Stmt-F.Let x r))
    let_obeys x r pc c low met =
        let lows = and_parts (is_below slots x) (right_below slots r) low in
        let ruled = with_rules (right_rules p pc x r) c in
        let a = drop_checks (right_checks p pc x r) ruled (drop_label (written_at p x) (Slot x) (offset_of p x) (with_checks (right_checks p pc x r) ruled) met) in
        let b = drop_rules (right_rules p pc x r) c a.0 in
        let rules = each (HoldsRule l) (right_rules p pc x r) b.1 in
        let checks = each (HoldsCheck l) (right_checks p pc x r) a.1 in
        record {
          before = b.0;
          flows = λ sight shown sees vis hid.
              (right_is_lawful pc x r lows.0 lows.1 rules checks sight shown sees, record { bindings = with_shown x.0 sight.bindings vis shown.bindings; variables = shown.variables; arrays = shown.arrays });
          hides = λ over closed vis hid. and_of (not (trusts x.0 && V x.0)) (right_hides knowledge x r) (hidden_by_view x.0 (and_parts (not (V x.0)) true vis).0) (right_is_hidden pc x r lows.0 lows.1 rules checks over closed);
        }

    abbrev var_rules : Place → SlotId → SlotId → List Lower
    var_rules pc v y = flow_rules (Slot y) (Slot v) ++ flow_rules pc (Slot v)

    var_obeys : (v y : SlotId) → Obeys (stmt_step (Stmt-F.NewVar v y)) (seeing_step (Stmt-F.NewVar v y)) (makes_step trusts (Stmt-F.NewVar v y)) (flow_step knowledge (Stmt-F.NewVar v y)) (stmt_below slots (Stmt-F.NewVar v y))
    var_obeys v y pc c low met =
        let lows = and_parts (is_below slots v) (is_below slots y) low in
        let b = drop_rules (var_rules pc v y) c (drop_label (written_at p v) (Slot v) (offset_of p v) (with_rules (var_rules pc v y) c) met) in
        let rules = each (HoldsRule l) (var_rules pc v y) b.1 in
        record {
          before = b.0;
          flows = λ sight shown sees vis hid.
              (one_kept v y lows.0 lows.1 rules.1.0 (binding_shown sight y shown sees), record { bindings = shown.bindings; variables = with_shown v.0 sight.variables vis shown.variables; arrays = shown.arrays });
          hides = λ over closed vis hid. hidden_by_view v.0 (and_parts (not (V v.0)) true vis).0;
        }

    array_obeys : (v : SlotId) (size : ℕ) → Obeys (stmt_step (Stmt-F.NewArray v size)) (seeing_step (Stmt-F.NewArray v size)) (makes_step trusts (Stmt-F.NewArray v size)) (flow_step knowledge (Stmt-F.NewArray v size)) (stmt_below slots (Stmt-F.NewArray v size))
    array_obeys v size pc c low met =
        let b = drop_rules (flow_rules pc (Slot v)) c (drop_label (written_at p v) (Slot v) (offset_of p v) (with_rules (flow_rules pc (Slot v)) c) met) in
        record {
          before = b.0;
          flows = λ sight shown sees vis hid. (refl, record { bindings = shown.bindings; variables = shown.variables; arrays = with_shown v.0 sight.arrays vis shown.arrays });
          hides = λ over closed vis hid. hidden_by_view v.0 (and_parts (not (V v.0)) true vis).0;
        }

    store_obeys : (v y : SlotId) → Obeys (stmt_step (Stmt-F.Store v y)) (seeing_step (Stmt-F.Store v y)) (makes_step trusts (Stmt-F.Store v y)) (flow_step knowledge (Stmt-F.Store v y)) (stmt_below slots (Stmt-F.Store v y))
    store_obeys v y pc c low met =
        let lows = and_parts (is_below slots v) (is_below slots y) low in
        let b = drop_rules (var_rules pc v y) c met in
        let rules = each (HoldsRule l) (var_rules pc v y) b.1 in
        record {
          before = b.0;
          flows = λ sight shown sees vis hid. (one_kept v y lows.0 lows.1 rules.1.0 (binding_shown sight y shown (and_parts (is_variable sight v) (is_binding sight y) sees).1), shown);
          hides = λ over closed vis hid. hidden_by_label v pc lows.0 over rules.1.1.1.0 closed;
        }

    abbrev put_rules : Place → SlotId → SlotId → SlotId → List Lower
    put_rules pc v i y = flow_rules (Slot y) (Slot v) ++ flow_rules (Slot i) (Slot v) ++ flow_rules pc (Slot v)

    put_obeys : (v i y : SlotId) → Obeys (stmt_step (Stmt-F.Put v i y)) (seeing_step (Stmt-F.Put v i y)) (makes_step trusts (Stmt-F.Put v i y)) (flow_step knowledge (Stmt-F.Put v i y)) (stmt_below slots (Stmt-F.Put v i y))
    put_obeys v i y pc c low met =
        let lows = and_parts (is_below slots v && is_below slots i) (is_below slots y) low in
        let v_low = (and_parts (is_below slots v) (is_below slots i) lows.0).0 in
        let i_low = (and_parts (is_below slots v) (is_below slots i) lows.0).1 in
        let b = drop_rules (put_rules pc v i y) c met in
        let rules = each (HoldsRule l) (put_rules pc v i y) b.1 in
        record {
          before = b.0;
          flows = λ sight shown sees vis hid.
              let parts = and_parts (is_array sight v && is_binding sight i) (is_binding sight y) sees in
              let front = and_parts (is_array sight v) (is_binding sight i) parts.0 in
              (two_kept v i y v_low i_low lows.1 rules.1.1.1.0 (binding_shown sight i shown front.1) rules.1.0 (binding_shown sight y shown parts.1), shown);
          hides = λ over closed vis hid. hidden_by_label v pc v_low over rules.1.1.1.1.1.0 closed;
        }

    output_obeys : (y : SlotId) (host : HostId) (offset : ℕ) → Obeys (stmt_step (Stmt-F.Output y host offset)) (seeing_step (Stmt-F.Output y host offset)) (makes_step trusts (Stmt-F.Output y host offset)) (flow_step knowledge (Stmt-F.Output y host offset)) (stmt_below slots (Stmt-F.Output y host offset))
    output_obeys y host offset pc c low met =
        let ruled = with_rules (output_rules (host_label p host) pc (Slot y)) c in
        let a = drop_checks (output_checks (host_label p host) pc (Slot y) offset) ruled met in
        let b = drop_rules (output_rules (host_label p host) pc (Slot y)) c a.0 in
        let rules = each (HoldsRule l) (output_rules (host_label p host) pc (Slot y)) b.1 in
        record {
          before = b.0;
          flows = λ sight shown sees vis hid. (
            then_only (trusts_host host.0) (trusts y.0 && V y.0)
                (λ is. and_of (trusts y.0) (V y.0) (trust (label_at l (Slot y)).integ (host_label p host).integ (over_slot y low) (names_over p _) rules.0 is) (binding_shown sight y shown sees)),
            shown,
          );
          hides = λ over closed vis hid.
              not_if (trusts_host host.0) (λ is. true≢false (sym (trust (label_at l pc).integ (host_label p host).integ over (names_over p _) rules.1.0 is) ∙ closed));
        }

    -- what the branches of an If make
    abbrev branch_makes : Bool → List Makes → List Makes → Makes
    branch_makes b ms ns =
        if b then record { visible = all_visible ms ++ all_visible ns; hidden = all_hidden ms ++ all_hidden ns }
        else record { visible = []; hidden = (all_visible ms ++ all_hidden ms) ++ (all_visible ns ++ all_hidden ns) }

    if_obeys : (g : SlotId) (offset : ℕ) (adds bdds : List (NormalForm → Place → Constraints → Constraints)) (sees tees : List Seeing) (ms ns : List Makes) (fs gs : List Flow) (lows mows : List Bool)
        → Obeys (in_order adds) (seeing_all sees) (block_makes ms) (block_flow fs) (all_true lows) → Obeys (in_order bdds) (seeing_all tees) (block_makes ns) (block_flow gs) (all_true mows)
        → Obeys (stmt_step (Stmt-F.If g adds bdds offset)) (seeing_step (Stmt-F.If g sees tees offset)) (makes_step trusts (Stmt-F.If g ms ns offset)) (flow_step knowledge (Stmt-F.If g fs gs offset)) (stmt_below slots (Stmt-F.If g lows mows offset))
    if_obeys g offset adds bdds sees tees ms ns fs gs lows mows first second pc c low met =
        let parts = and_parts (is_below slots g && all_true lows) (all_true mows) low in
        let front = and_parts (is_below slots g) (all_true lows) parts.0 in
        let here : Place = Block c.blocks in
        let entered = with_branch (Slot g) pc c in
        let two = second here (in_order adds p here entered) parts.1 met in
        let one = first here entered front.1 two.before in
        let b = drop_rules (flow_rules (Slot g) here ++ flow_rules pc here) (with_block c) one.before in
        let rules = each (HoldsRule l) (flow_rules (Slot g) here ++ flow_rules pc here) b.1 in
        let fits : c.blocks + 1 ≤ length l.blocks = b.0.blocks in
        let inner : Over here = blocks_over c.blocks (omega arith) in
        let outer : Over pc → trusts_at pc ≡ false → trusts_at here ≡ false = λ over closed. false_if (trusts_at here) (λ is. true≢false (sym (through pc here over inner rules.1.1.1.0 is) ∙ closed)) in
        let guard : trusts g.0 ≡ false → trusts_at here ≡ false = λ closed. false_if (trusts_at here) (λ is. true≢false (sym (through (Slot g) here (over_slot g front.0) inner rules.1.0 is) ∙ closed)) in
        let all_hides : trusts_at here ≡ false → hidden_all (all_visible ms) ≡ true → hidden_all (all_hidden ms) ≡ true → hidden_all (all_visible ns) ≡ true → hidden_all (all_hidden ns) ≡ true → (all_hide fs && all_hide gs) ≡ true =
        λ closed w x y z. and_of (all_hide fs) (all_hide gs) (one.hides inner closed w x) (two.hides inner closed y z)
        in
        record {
          before = record { rules = b.0.rules; checks = b.0.checks; blocks = omega arith };
          flows = λ sight shown saw vis hid.
              let saws = and_parts (is_binding sight g && (seeing_all sees sight).all) (seeing_all tees sight).all saw in
              let saw_front = and_parts (is_binding sight g) (seeing_all sees sight).all saws.0 in
              let g_seen = binding_shown sight g shown saw_front.0 in (
                flows_by (trusts g.0) refl g_seen vis hid
                    (λ va ha vb hb. and_of (all_flow fs) (all_flow gs) (one.flows sight shown saw_front.1 va ha).0 (two.flows sight shown saws.1 vb hb).0)
                    (λ closed. all_hides (guard closed)),
                shown,
              );
          hides = λ over closed vis hid. hides_by (trusts g.0) vis hid (all_hides (outer over closed));
        }
      where
        four : (test : ℕ → Bool) → list_all test ((all_visible ms ++ all_hidden ms) ++ (all_visible ns ++ all_hidden ns)) ≡ true
            → ((list_all test (all_visible ms) ≡ true) × (list_all test (all_hidden ms) ≡ true)) × ((list_all test (all_visible ns) ≡ true) × (list_all test (all_hidden ns) ≡ true))
        four test all =
            let halves = both_parts test (all_visible ms ++ all_hidden ms) (all_visible ns ++ all_hidden ns) all in
            (both_parts test (all_visible ms) (all_hidden ms) halves.0, both_parts test (all_visible ns) (all_hidden ns) halves.1)

        flows_by : (b : Bool) → trusts g.0 ≡ b → V g.0 ≡ true → list_all V (branch_makes b ms ns).visible ≡ true → hidden_all (branch_makes b ms ns).hidden ≡ true
            → (list_all V (all_visible ms) ≡ true → hidden_all (all_hidden ms) ≡ true → list_all V (all_visible ns) ≡ true → hidden_all (all_hidden ns) ≡ true → (all_flow fs && all_flow gs) ≡ true)
            → (trusts g.0 ≡ false → hidden_all (all_visible ms) ≡ true → hidden_all (all_hidden ms) ≡ true → hidden_all (all_visible ns) ≡ true → hidden_all (all_hidden ns) ≡ true → (all_hide fs && all_hide gs) ≡ true)
            → (if b && V g.0 then all_flow fs && all_flow gs else all_hide fs && all_hide gs) ≡ true
        flows_by true is seen vis hid both neither =
            let v = both_parts V (all_visible ms) (all_visible ns) vis in
            let w = both_parts (λ x. not (V x)) (all_hidden ms) (all_hidden ns) hid in
            rw seen (both v.0 w.0 v.1 w.1)
        flows_by false is seen vis hid both neither = let q = four (λ x. not (V x)) hid in neither is q.0.0 q.0.1 q.1.0 q.1.1

        hides_by : (b : Bool) → hidden_all (branch_makes b ms ns).visible ≡ true → hidden_all (branch_makes b ms ns).hidden ≡ true
            → (hidden_all (all_visible ms) ≡ true → hidden_all (all_hidden ms) ≡ true → hidden_all (all_visible ns) ≡ true → hidden_all (all_hidden ns) ≡ true → (all_hide fs && all_hide gs) ≡ true)
            → (all_hide fs && all_hide gs) ≡ true
        hides_by true vis hid neither =
            let v = both_parts (λ x. not (V x)) (all_visible ms) (all_visible ns) vis in
            let w = both_parts (λ x. not (V x)) (all_hidden ms) (all_hidden ns) hid in
            neither v.0 w.0 v.1 w.1
        hides_by false vis hid neither = let q = four (λ x. not (V x)) hid in neither q.0.0 q.0.1 q.1.0 q.1.1

    step : (y : Stmt-F M)
        → Obeys (stmt_step (map-Stmt Stmt (NormalForm → Place → Constraints → Constraints) with_stmt (layer y))) (seeing_step (map-Stmt Stmt Seeing seeing (layer y))) (makes_step trusts (map-Stmt Stmt Makes (makes trusts) (layer y)))
        (flow_step knowledge (map-Stmt Stmt Flow (flow knowledge) (layer y))) (stmt_below slots (map-Stmt Stmt Bool (slots_below slots) (layer y)))
    step (Stmt-F.Let x r) = let_obeys x r
    step (Stmt-F.NewVar v y) = var_obeys v y
    step (Stmt-F.NewArray v size) = array_obeys v size
    step (Stmt-F.Store v y) = store_obeys v y
    step (Stmt-F.Put v i y) = put_obeys v i y
    step (Stmt-F.Output y host offset) = output_obeys y host offset
    step (Stmt-F.If g a b offset) =
        if_obeys g offset (map with_stmt (statements a)) (map with_stmt (statements b)) (map seeing (statements a)) (map seeing (statements b)) (map (makes trusts) (statements a)) (map (makes trusts) (statements b))
        (map (flow knowledge) (statements a)) (map (flow knowledge) (statements b)) (map (slots_below slots) (statements a)) (map (slots_below slots) (statements b)) (all_obey a) (all_obey b)
    step (Stmt-F.For count body) = λ pc c low met.
        let q = all_obey body pc c low met in
        record { before = q.before; flows = λ sight shown saw vis hid. ((q.flows sight shown saw vis hid).0, shown); hides = q.hides }

    stmt_obeys : (s : Stmt) → Obeys (with_stmt s) (seeing s) (makes trusts s) (flow knowledge s) (slots_below slots s)
    stmt_obeys = ind-Stmt (λ s. Obeys (with_stmt s) (seeing s) (makes trusts s) (flow knowledge s) (slots_below slots s)) (λ x y is. subst (λ z. Obeys (with_stmt (roll-Stmt z)) (seeing (roll-Stmt z)) (makes trusts (roll-Stmt z)) (flow knowledge (roll-Stmt z)) (slots_below slots (roll-Stmt z))) is (at_roll y))
      where
        at_roll : (y : Stmt-F M) → Obeys (with_stmt (roll-Stmt (layer y))) (seeing (roll-Stmt (layer y))) (makes trusts (roll-Stmt (layer y))) (flow knowledge (roll-Stmt (layer y))) (slots_below slots (roll-Stmt (layer y)))
        at_roll y =
            rw (
              fold-roll-Stmt (NormalForm → Place → Constraints → Constraints) stmt_step (layer y),
              fold-roll-Stmt Seeing seeing_step (layer y),
              fold-roll-Stmt Makes (makes_step trusts) (layer y),
              fold-roll-Stmt Flow (flow_step knowledge) (layer y),
              fold-roll-Stmt Bool (stmt_below slots) (layer y),
            ) (step y)

    pub body_obeys : (body : List Stmt) → BlockObeys body
    body_obeys [] = none_obeys
    body_obeys (s ∷ body) = stmt_more s body (stmt_obeys s) (body_obeys body)
