-- Of a closed reach, what the host may read is closed too.
use Rattle.std.proofs.Common.{◌≡◌, ℕ, Bool, true, false, true≢false, ◌&&◌, ◌||◌, not, List, [], ◌∷◌, ◌++◌, map, refl, sym, ◌∙◌, subst, nat_eq, if◌then◌else◌}
use Rattle.std.specs.List.{list_all}
use Rattle.std.proofs.lemmas.Bool.{and_parts}
use Rattle.std.proofs.lemmas.List.Folds.{list_all-append}
use Rattle.vd_base.specs.declared.ids.SlotId.{SlotId}
use Rattle.vd_core.specs.declared.normal.Right.{Right}
use Rattle.vd_core.specs.declared.normal.Right.TheVariants.{Lit, Turn, Copy, Apply, Input, Declassify, Endorse, Load, Get}
use Rattle.vd_core.specs.declared.normal.Stmt.{Stmt, roll-Stmt, map-Stmt, ind-Stmt}
use Rattle.vd_core.specs.declared.normal.Stmt.TheOpen.{Stmt-F}
use Rattle.vd_core.specs.declared.normal.Stmt.TheFolds.{fold-roll-Stmt}
use Rattle.vd_core.specs.Facts.{Sight, Seeing, is_binding, is_variable, is_array, right_sees, seeing_all, seeing_step, seeing}
use Rattle.vd_noninter.specs.Flowing.{Knowledge, only_with, right_flows, right_hides, Flow, all_flow, all_hide, flow_step, flow}
use Rattle.vd_noninter.specs.Reading.{Makes, all_visible, all_hidden, makes_step, makes}
use Rattle.vd_noninter.specs.NoninterLawsDependence.{Reach, right_closes, Closing, all_close, stmt_closes, closes}
use Rattle.vd_noninter.proofs.Statements.{only}
use Rattle.vd_noninter.proofs.Whole.{hearing}
use Rattle.vd_noninter.proofs.Lawful.{then_only, and_of, member}

module _ (reads V known : ℕ → Bool) (test : ℕ → ℕ → Bool) (host : ℕ) (r : Reach) where
  abbrev k : Knowledge
  k = hearing (λ x. reads x && V x) test known host

  abbrev pub readable : Reach
  readable = record { slots = λ x. (reads x && V x) && r.slots x; hosts = λ i. known i && r.hosts i }

  abbrev guards_read : List SlotId → Bool
  guards_read = list_all (λ g. reads g.0)

  abbrev guards_seen : List SlotId → Bool
  guards_seen = list_all (λ g. V g.0)

  abbrev guards_in : Reach → List SlotId → Bool
  guards_in s = list_all (λ g. s.slots g.0)

  guards_reach : (gs : List SlotId) → guards_read gs ≡ true → guards_seen gs ≡ true → guards_in r gs ≡ true → guards_in readable gs ≡ true
  guards_reach [] a b c = refl
  guards_reach (g ∷ gs) a b c =
      let x = and_parts (reads g.0) (guards_read gs) a in
      let y = and_parts (V g.0) (guards_seen gs) b in
      let z = and_parts (r.slots g.0) (guards_in r gs) c in
      rw (x.0, y.0, z.0, guards_reach gs x.1 y.1 z.1) refl

  -- ---- conditions of a reach
  first : (t a b b' : Bool) → only_with (t && a) b ≡ true → (a ≡ true → b ≡ true → b' ≡ true) → only_with (t && a) b' ≡ true
  first t a b b' h more = then_only (t && a) b' (λ is. more (and_parts t a is).1 (only (t && a) b h is))

  onward : (kept slot around around' d d' : Bool) → only_with slot (around && d) ≡ true → (around ≡ true → around' ≡ true) → (kept ≡ true → d ≡ true → d' ≡ true) → only_with (kept && slot) (around' && d') ≡ true
  onward kept slot around around' d d' h guards more =
      then_only (kept && slot) (around' && d')
      (λ is.
      let p = and_parts kept slot is in
      let q = and_parts around d (only slot (around && d) h p.1) in
      and_of around' d' (guards q.0) (more p.0 q.1))

  guards_only : (kept slot around around' : Bool) → only_with slot around ≡ true → (around ≡ true → around' ≡ true) → only_with (kept && slot) around' ≡ true
  guards_only kept slot around around' h guards = then_only (kept && slot) around' (λ is. guards (only slot around h (and_parts kept slot is).1))

  vacuous : (kept slot z : Bool) → not kept ≡ true → only_with (kept && slot) z ≡ true
  vacuous true slot z h = absurd (true≢false (sym h))
  vacuous false slot z h = refl

  untold : (t a z : Bool) → t ≡ false → only_with (t && a) z ≡ true
  untold true a z h = absurd (true≢false h)
  untold false a z h = refl

  either_hidden : (a b c d z : Bool) → not a ≡ true → not c ≡ true → only_with ((a && b) || (c && d)) z ≡ true
  either_hidden true b c d z h g = absurd (true≢false (sym h))
  either_hidden false b true d z h g = absurd (true≢false (sym g))
  either_hidden false b false d z h g = refl

  either_in : (a b c d around around' : Bool) → only_with (b || d) around ≡ true → (around ≡ true → around' ≡ true) → only_with ((a && b) || (c && d)) around' ≡ true
  either_in true true c d around around' h g = g h
  either_in true false true true around around' h g = g h
  either_in true false true false around around' h g = refl
  either_in true false false d around around' h g = refl
  either_in false b true true around around' h g = g (last b h)
    where
      last : (b : Bool) → only_with (b || true) around ≡ true → around ≡ true
      last true h = h
      last false h = h
  either_in false b true false around around' h g = refl
  either_in false b false d around around' h g = refl

  abbrev kept : ℕ → Bool
  kept x = reads x && V x

  all_reach : (ys : List SlotId) → list_all (λ y. kept y.0) ys ≡ true → list_all (λ y. r.slots y.0) ys ≡ true → list_all (λ y. readable.slots y.0) ys ≡ true
  all_reach [] a b = refl
  all_reach (y ∷ ys) a b =
      let p = and_parts (kept y.0) (list_all (λ z. kept z.0) ys) a in
      let q = and_parts (r.slots y.0) (list_all (λ z. r.slots z.0) ys) b in
      and_of (readable.slots y.0) (list_all (λ z. readable.slots z.0) ys) (and_of (kept y.0) (r.slots y.0) p.0 q.0) (all_reach ys p.1 q.1)

  pub record Shown (sight : Sight) : Type 0 where
    pub bindings : list_all V sight.bindings ≡ true
    pub variables : list_all V sight.variables ≡ true
    pub arrays : list_all V sight.arrays ≡ true

  -- from x to y, onward and as a first slot
  one_onward : (x y : ℕ) (around around' : Bool) → only_with (kept x) (kept y) ≡ true → only_with (r.slots x) (around && r.slots y) ≡ true → (around ≡ true → around' ≡ true) → only_with (kept x && r.slots x) (around' && (kept y && r.slots y)) ≡ true
  one_onward x y around around' f c guards =
      onward (kept x) (r.slots x) around around' (r.slots y) (kept y && r.slots y) c guards (λ is in_r. and_of (kept y) (r.slots y) (only (kept x) (kept y) f is) in_r)

  one_first : (x y : ℕ) (t : Bool) → V x ≡ true → only_with (kept x) (kept y) ≡ true → only_with (t && reads x) (r.slots y) ≡ true → only_with (t && reads x) (kept y && r.slots y) ≡ true
  one_first x y t seen f c = first t (reads x) (r.slots y) (kept y && r.slots y) c (λ is in_r. and_of (kept y) (r.slots y) (only (kept x) (kept y) f (and_of (reads x) (V x) is seen)) in_r)

  self_first : (x : ℕ) (t : Bool) → V x ≡ true → only_with (t && reads x) (r.slots x) ≡ true → only_with (t && reads x) (kept x && r.slots x) ≡ true
  self_first x t seen c = first t (reads x) (r.slots x) (kept x && r.slots x) c (λ is in_r. and_of (kept x) (r.slots x) (and_of (reads x) (V x) is seen) in_r)

  two_onward : (x y z : ℕ) (around around' : Bool) → only_with (kept x) (kept y && kept z) ≡ true → only_with (r.slots x) (around && (r.slots y && r.slots z)) ≡ true → (around ≡ true → around' ≡ true)
      → only_with (kept x && r.slots x) (around' && ((kept y && r.slots y) && (kept z && r.slots z))) ≡ true
  two_onward x y z around around' f c guards =
      onward (kept x) (r.slots x) around around' (r.slots y && r.slots z) ((kept y && r.slots y) && (kept z && r.slots z)) c guards
      (λ is in_r.
      let a = and_parts (kept y) (kept z) (only (kept x) (kept y && kept z) f is) in
      let b = and_parts (r.slots y) (r.slots z) in_r in
      and_of (kept y && r.slots y) (kept z && r.slots z) (and_of (kept y) (r.slots y) a.0 b.0) (and_of (kept z) (r.slots z) a.1 b.1))

  right_seen : (around around' t : Bool) (x : SlotId) (s : Right) (sight : Sight) → (around ≡ true → around' ≡ true) → V x.0 ≡ true → Shown sight → right_sees s sight ≡ true → right_flows k x s ≡ true → right_closes reads r around t x s ≡ true
      → right_closes reads readable around' t x s ≡ true
  right_seen around around' t x (Lit n) sight guards seen shown sees f c = guards_only (kept x.0) (r.slots x.0) around around' c guards
  right_seen around around' t x Turn sight guards seen shown sees f c = guards_only (kept x.0) (r.slots x.0) around around' c guards
  right_seen around around' t x (Copy y) sight guards seen shown sees f c =
      let p = and_parts (only_with (r.slots x.0) (around && r.slots y.0)) (only_with (t && reads x.0) (r.slots y.0)) c in
      and_of (only_with (kept x.0 && r.slots x.0) (around' && (kept y.0 && r.slots y.0))) (only_with (t && reads x.0) (kept y.0 && r.slots y.0)) (one_onward x.0 y.0 around around' f p.0 guards) (one_first x.0 y.0 t seen f p.1)
  right_seen around around' t x (Apply op ys) sight guards seen shown sees f c =
      let all = list_all (λ y. r.slots y.0) ys in
      let all' = list_all (λ y. readable.slots y.0) ys in
      let p = and_parts (only_with (r.slots x.0) (around && all)) (only_with (t && reads x.0) all) c in
      let from : kept x.0 ≡ true → all ≡ true → all' ≡ true = λ is in_r. all_reach ys (only (kept x.0) (list_all (λ y. kept y.0) ys) f is) in_r in
      and_of (only_with (kept x.0 && r.slots x.0) (around' && all')) (only_with (t && reads x.0) all') (onward (kept x.0) (r.slots x.0) around around' all all' p.0 guards from)
      (first t (reads x.0) all all' p.1 (λ is. from (and_of (reads x.0) (V x.0) is seen)))
  right_seen around around' t x (Input other) sight guards seen shown sees f c =
      let p = and_parts (only_with (r.slots x.0) (r.hosts other.0)) (only_with (r.hosts other.0 || r.slots x.0) around) c in
      and_of (only_with (kept x.0 && r.slots x.0) (known other.0 && r.hosts other.0)) (only_with ((known other.0 && r.hosts other.0) || (kept x.0 && r.slots x.0)) around')
      (then_only (kept x.0 && r.slots x.0) (known other.0 && r.hosts other.0)
      (λ is.
      let q = and_parts (kept x.0) (r.slots x.0) is in
      and_of (known other.0) (r.hosts other.0) (only (kept x.0) (known other.0) f q.0) (only (r.slots x.0) (r.hosts other.0) p.0 q.1)))
      (either_in (known other.0) (r.hosts other.0) (kept x.0) (r.slots x.0) around around' p.1 guards)
  right_seen around around' t x (Declassify y to) sight guards seen shown sees f c =
      let p = and_parts (only_with (r.slots x.0) around) (only_with (t && reads x.0) (r.slots x.0)) c in
      and_of (only_with (kept x.0 && r.slots x.0) around') (only_with (t && reads x.0) (kept x.0 && r.slots x.0)) (guards_only (kept x.0) (r.slots x.0) around around' p.0 guards) (self_first x.0 t seen p.1)
  right_seen around around' t x (Endorse y to) sight guards seen shown sees f c =
      let p = and_parts (only_with (r.slots x.0) (around && r.slots y.0)) (only_with (t && reads x.0) (r.slots y.0)) c in
      let made = (and_parts (only_with (kept x.0) (kept y.0)) true f).0 in
      and_of (only_with (kept x.0 && r.slots x.0) (around' && (kept y.0 && r.slots y.0))) (only_with (t && reads x.0) (kept y.0 && r.slots y.0)) (one_onward x.0 y.0 around around' made p.0 guards) (one_first x.0 y.0 t seen made p.1)
  right_seen around around' t x (Load v) sight guards seen shown sees f c =
      let p = and_parts (only_with (r.slots x.0) (around && r.slots v.0)) (only_with (t && reads x.0) (r.slots x.0)) c in
      and_of (only_with (kept x.0 && r.slots x.0) (around' && (kept v.0 && r.slots v.0))) (only_with (t && reads x.0) (kept x.0 && r.slots x.0)) (one_onward x.0 v.0 around around' f p.0 guards) (self_first x.0 t seen p.1)
  right_seen around around' t x (Get v i) sight guards seen shown sees f c =
      let p = and_parts (only_with (r.slots x.0) (around && (r.slots v.0 && r.slots i.0))) (only_with (t && reads x.0) (r.slots x.0) && only_with (t && reads i.0) (r.slots i.0)) c in
      let q = and_parts (only_with (t && reads x.0) (r.slots x.0)) (only_with (t && reads i.0) (r.slots i.0)) p.1 in
      let i_seen = member V i.0 sight.bindings shown.bindings (and_parts (is_array sight v) (is_binding sight i) sees).1 in
      and_of (only_with (kept x.0 && r.slots x.0) (around' && ((kept v.0 && r.slots v.0) && (kept i.0 && r.slots i.0)))) (only_with (t && reads x.0) (kept x.0 && r.slots x.0) && only_with (t && reads i.0) (kept i.0 && r.slots i.0))
      (two_onward x.0 v.0 i.0 around around' f p.0 guards)
      (and_of (only_with (t && reads x.0) (kept x.0 && r.slots x.0)) (only_with (t && reads i.0) (kept i.0 && r.slots i.0)) (self_first x.0 t seen q.0) (self_first i.0 t i_seen q.1))

  -- under a guard that is not read
  right_unseen : (around t : Bool) (x : SlotId) (s : Right) → t ≡ false → not (kept x.0) ≡ true → right_hides k x s ≡ true → right_closes reads readable around t x s ≡ true
  right_unseen around t x (Lit n) off out h = vacuous (kept x.0) (r.slots x.0) around out
  right_unseen around t x Turn off out h = vacuous (kept x.0) (r.slots x.0) around out
  right_unseen around t x (Copy y) off out h = rw (vacuous (kept x.0) (r.slots x.0) (around && readable.slots y.0) out) (untold t (reads x.0) (readable.slots y.0) off)
  right_unseen around t x (Apply op ys) off out h = rw (vacuous (kept x.0) (r.slots x.0) (around && list_all (λ y. readable.slots y.0) ys) out) (untold t (reads x.0) (list_all (λ y. readable.slots y.0) ys) off)
  right_unseen around t x (Input other) off out h =
      rw (vacuous (kept x.0) (r.slots x.0) (readable.hosts other.0) out) (either_hidden (known other.0) (r.hosts other.0) (kept x.0) (r.slots x.0) around h out)
  right_unseen around t x (Declassify y to) off out h = rw (vacuous (kept x.0) (r.slots x.0) around out) (untold t (reads x.0) (readable.slots x.0) off)
  right_unseen around t x (Endorse y to) off out h = rw (vacuous (kept x.0) (r.slots x.0) (around && readable.slots y.0) out) (untold t (reads x.0) (readable.slots y.0) off)
  right_unseen around t x (Load v) off out h = rw (vacuous (kept x.0) (r.slots x.0) (around && readable.slots v.0) out) (untold t (reads x.0) (readable.slots x.0) off)
  right_unseen around t x (Get v i) off out h =
      rw (vacuous (kept x.0) (r.slots x.0) (around && (readable.slots v.0 && readable.slots i.0)) out, untold t (reads x.0) (readable.slots x.0) off) (untold t (reads i.0) (readable.slots i.0) off)

  -- ---- statements
  abbrev hidden_all : List ℕ → Bool
  hidden_all = list_all (λ x. not (V x))

  pub record Closes (see : Seeing) (m : Makes) (f : Flow) (c c' : Closing) : Type 0 where
    pub flows : (guards : List SlotId) (sight : Sight) → guards_read guards ≡ true → guards_seen guards ≡ true → Shown sight → (see sight).all ≡ true → list_all V m.visible ≡ true → hidden_all m.hidden ≡ true → f.flows ≡ true → c guards ≡ true
        → (c' guards ≡ true) × Shown (see sight).after
    pub hides : (guards : List SlotId) → guards_read guards ≡ false → f.hides ≡ true → c guards ≡ true → c' guards ≡ true

  abbrev block_flow : List Flow → Flow
  block_flow fs = record { flows = all_flow fs; hides = all_hide fs }

  abbrev block_makes : List Makes → Makes
  block_makes ms = record { visible = all_visible ms; hidden = all_hidden ms }

  both_parts : (test : ℕ → Bool) (xs ys : List ℕ) → list_all test (xs ++ ys) ≡ true → (list_all test xs ≡ true) × (list_all test ys ≡ true)
  both_parts test xs ys all = and_parts (list_all test xs) (list_all test ys) (sym (list_all-append test xs ys) ∙ all)

  none_close : Closes (seeing_all []) (block_makes []) (block_flow []) (all_close []) (all_close [])
  none_close = record { flows = λ guards sight read seen shown saw vis hid f c. (refl, shown); hides = λ guards off f c. refl }

  more_close : (see : Seeing) (sees : List Seeing) (m : Makes) (ms : List Makes) (f : Flow) (fs : List Flow) (c c' : Closing) (cs cs' : List Closing) → Closes see m f c c' → Closes (seeing_all sees) (block_makes ms) (block_flow fs) (all_close cs) (all_close cs')
      → Closes (seeing_all (see ∷ sees)) (block_makes (m ∷ ms)) (block_flow (f ∷ fs)) (all_close (c ∷ cs)) (all_close (c' ∷ cs'))
  more_close see sees m ms f fs c c' cs cs' one rest = record {
    flows = λ guards sight read seen shown saw vis hid flowing closed.
        let saws = and_parts (see sight).all (seeing_all sees (see sight).after).all saw in
        let viss = both_parts V m.visible (all_visible ms) vis in
        let hids = both_parts (λ x. not (V x)) m.hidden (all_hidden ms) hid in
        let fl = and_parts f.flows (all_flow fs) flowing in
        let cl = and_parts (c guards) (all_close cs guards) closed in
        let a = one.flows guards sight read seen shown saws.0 viss.0 hids.0 fl.0 cl.0 in
        let b = rest.flows guards (see sight).after read seen a.1 saws.1 viss.1 hids.1 fl.1 cl.1 in
        (and_of (c' guards) (all_close cs' guards) a.0 b.0, b.1);
    hides = λ guards off hiding closed.
        let hd = and_parts f.hides (all_hide fs) hiding in
        let cl = and_parts (c guards) (all_close cs guards) closed in
        and_of (c' guards) (all_close cs' guards) (one.hides guards off hd.0 cl.0) (rest.hides guards off hd.1 cl.1);
  }

  abbrev StmtCloses : Stmt → Type 0
  StmtCloses s = Closes (seeing s) (makes reads s) (flow k s) (closes reads host r s) (closes reads host readable s)

  abbrev M : Type 0
  M = (s : Stmt) × StmtCloses s

  abbrev statements : List M → List Stmt
  statements = map {B = Stmt} (λ (m : M). m.0)

  abbrev layer : Stmt-F M → Stmt-F Stmt
  layer = map-Stmt M Stmt (λ m. m.0)

  abbrev BlockCloses : List Stmt → Type 0
  BlockCloses body = Closes (seeing_all (map seeing body)) (block_makes (map (makes reads) body)) (block_flow (map (flow k) body)) (all_close (map (closes reads host r) body)) (all_close (map (closes reads host readable) body))

  stmt_more : (s : Stmt) (body : List Stmt) → StmtCloses s → BlockCloses body → BlockCloses (s ∷ body)
  stmt_more s body =
      more_close (seeing s) (map seeing body) (makes reads s) (map (makes reads) body) (flow k s) (map (flow k) body) (closes reads host r s) (closes reads host readable s) (map (closes reads host r) body) (map (closes reads host readable) body)

  all_closes : (ms : List M) → BlockCloses (statements ms)
  all_closes [] = none_close
  all_closes (m ∷ ms) = stmt_more m.0 (statements ms) m.1 (all_closes ms)

  with_shown : (x : ℕ) (xs : List ℕ) → list_all V (x ∷ []) ≡ true → list_all V xs ≡ true → list_all V (x ∷ xs) ≡ true
  with_shown x xs vis all = and_of (V x) (list_all V xs) (and_parts (V x) true vis).0 all

  abbrev StepCloses : Stmt-F Seeing → Stmt-F Makes → Stmt-F Flow → Stmt-F Closing → Stmt-F Closing → Type 0
  StepCloses a b c d e = Closes (seeing_step a) (makes_step reads b) (flow_step k c) (stmt_closes reads host r d) (stmt_closes reads host readable e)

  -- a stored value
  store_seen : (v y : SlotId) (guards : List SlotId) → guards_read guards ≡ true → guards_seen guards ≡ true → V v.0 ≡ true → only_with (kept v.0) (kept y.0) ≡ true
      → (only_with (r.slots v.0) (guards_in r guards && r.slots y.0) && only_with (guards_read guards && reads v.0) (r.slots y.0)) ≡ true
      → (only_with (readable.slots v.0) (guards_in readable guards && readable.slots y.0) && only_with (guards_read guards && reads v.0) (readable.slots y.0)) ≡ true
  store_seen v y guards read seen v_seen f c =
      let p = and_parts (only_with (r.slots v.0) (guards_in r guards && r.slots y.0)) (only_with (guards_read guards && reads v.0) (r.slots y.0)) c in
      and_of (only_with (readable.slots v.0) (guards_in readable guards && readable.slots y.0)) (only_with (guards_read guards && reads v.0) (readable.slots y.0))
      (one_onward v.0 y.0 (guards_in r guards) (guards_in readable guards) f p.0 (guards_reach guards read seen)) (one_first v.0 y.0 (guards_read guards) v_seen f p.1)

  store_unseen : (v y : SlotId) (guards : List SlotId) → guards_read guards ≡ false → not (kept v.0) ≡ true
      → (only_with (readable.slots v.0) (guards_in readable guards && readable.slots y.0) && only_with (guards_read guards && reads v.0) (readable.slots y.0)) ≡ true
  store_unseen v y guards off out = rw (vacuous (kept v.0) (r.slots v.0) (guards_in readable guards && readable.slots y.0) out) (untold (guards_read guards) (reads v.0) (readable.slots y.0) off)

  put_seen : (v i y : SlotId) (guards : List SlotId) → guards_read guards ≡ true → guards_seen guards ≡ true → V v.0 ≡ true → V i.0 ≡ true → only_with (kept v.0) (kept i.0 && kept y.0) ≡ true
      → (only_with (r.slots v.0) (guards_in r guards && (r.slots i.0 && r.slots y.0)) && (only_with (guards_read guards && reads v.0) (r.slots y.0) && only_with (guards_read guards && reads i.0) (r.slots i.0))) ≡ true
      → (only_with (readable.slots v.0) (guards_in readable guards && (readable.slots i.0 && readable.slots y.0)) && (only_with (guards_read guards && reads v.0) (readable.slots y.0) && only_with (guards_read guards && reads i.0) (readable.slots i.0))) ≡ true
  put_seen v i y guards read seen v_seen i_seen f c =
      let t = guards_read guards in
      let p = and_parts (only_with (r.slots v.0) (guards_in r guards && (r.slots i.0 && r.slots y.0))) (only_with (t && reads v.0) (r.slots y.0) && only_with (t && reads i.0) (r.slots i.0)) c in
      let q = and_parts (only_with (t && reads v.0) (r.slots y.0)) (only_with (t && reads i.0) (r.slots i.0)) p.1 in
      let stored : kept v.0 ≡ true → r.slots y.0 ≡ true → readable.slots y.0 ≡ true =
      λ is in_r. and_of (kept y.0) (r.slots y.0) (and_parts (kept i.0) (kept y.0) (only (kept v.0) (kept i.0 && kept y.0) f is)).1 in_r
      in
      and_of (only_with (readable.slots v.0) (guards_in readable guards && (readable.slots i.0 && readable.slots y.0))) (only_with (t && reads v.0) (readable.slots y.0) && only_with (t && reads i.0) (readable.slots i.0))
      (two_onward v.0 i.0 y.0 (guards_in r guards) (guards_in readable guards) f p.0 (guards_reach guards read seen))
      (and_of (only_with (t && reads v.0) (readable.slots y.0)) (only_with (t && reads i.0) (readable.slots i.0))
      (first t (reads v.0) (r.slots y.0) (readable.slots y.0) q.0 (λ is. stored (and_of (reads v.0) (V v.0) is v_seen)))
      (self_first i.0 t i_seen q.1))

  put_unseen : (v i y : SlotId) (guards : List SlotId) → guards_read guards ≡ false → not (kept v.0) ≡ true
      → (only_with (readable.slots v.0) (guards_in readable guards && (readable.slots i.0 && readable.slots y.0)) && (only_with (guards_read guards && reads v.0) (readable.slots y.0) && only_with (guards_read guards && reads i.0) (readable.slots i.0))) ≡ true
  put_unseen v i y guards off out =
      rw (vacuous (kept v.0) (r.slots v.0) (guards_in readable guards && (readable.slots i.0 && readable.slots y.0)) out, untold (guards_read guards) (reads v.0) (readable.slots y.0) off)
      (untold (guards_read guards) (reads i.0) (readable.slots i.0) off)

  abbrev branch_makes : Bool → List Makes → List Makes → Makes
  branch_makes b ms ns =
      if b then record { visible = all_visible ms ++ all_visible ns; hidden = all_hidden ms ++ all_hidden ns }
      else record { visible = []; hidden = (all_visible ms ++ all_hidden ms) ++ (all_visible ns ++ all_hidden ns) }

  if_closes : (g : SlotId) (offset : ℕ) (sees tees : List Seeing) (ms ns : List Makes) (fs gs : List Flow) (cs cs' ds ds' : List Closing)
      → Closes (seeing_all sees) (block_makes ms) (block_flow fs) (all_close cs) (all_close cs') → Closes (seeing_all tees) (block_makes ns) (block_flow gs) (all_close ds) (all_close ds')
      → StepCloses (Stmt-F.If g sees tees offset) (Stmt-F.If g ms ns offset) (Stmt-F.If g fs gs offset) (Stmt-F.If g cs ds offset) (Stmt-F.If g cs' ds' offset)
  if_closes g offset sees tees ms ns fs gs cs cs' ds ds' one two = record {
    flows = λ guards sight read seen shown saw vis hid flowing closed.
        let saws = and_parts (is_binding sight g && (seeing_all sees sight).all) (seeing_all tees sight).all saw in
        let front = and_parts (is_binding sight g) (seeing_all sees sight).all saws.0 in
        let g_seen = member V g.0 sight.bindings shown.bindings front.0 in
        let p = and_parts (only_with (guards_read guards && reads g.0) (r.slots g.0)) (all_close cs (g ∷ guards) && all_close ds (g ∷ guards)) closed in
        let q = and_parts (all_close cs (g ∷ guards)) (all_close ds (g ∷ guards)) p.1 in (
          and_of (only_with (guards_read guards && reads g.0) (readable.slots g.0)) (all_close cs' (g ∷ guards) && all_close ds' (g ∷ guards)) (self_first g.0 (guards_read guards) g_seen p.0)
              (inside (reads g.0) refl g_seen guards
              (λ is va ha vb hb fl.
              let f = and_parts (all_flow fs) (all_flow gs) fl in
              let read' = and_of (reads g.0) (guards_read guards) is read in
              let seen' = and_of (V g.0) (guards_seen guards) g_seen seen in
              and_of (all_close cs' (g ∷ guards)) (all_close ds' (g ∷ guards)) (one.flows (g ∷ guards) sight read' seen' shown front.1 va ha f.0 q.0).0 (two.flows (g ∷ guards) sight read' seen' shown saws.1 vb hb f.1 q.1).0)
              (λ is hd.
              let f = and_parts (all_hide fs) (all_hide gs) hd in
              let off : guards_read (g ∷ guards) ≡ false = rw is refl in
              and_of (all_close cs' (g ∷ guards)) (all_close ds' (g ∷ guards)) (one.hides (g ∷ guards) off f.0 q.0) (two.hides (g ∷ guards) off f.1 q.1))
              vis hid flowing),
          shown,
        );
    hides = λ guards off hiding closed.
        let p = and_parts (only_with (guards_read guards && reads g.0) (r.slots g.0)) (all_close cs (g ∷ guards) && all_close ds (g ∷ guards)) closed in
        let q = and_parts (all_close cs (g ∷ guards)) (all_close ds (g ∷ guards)) p.1 in
        let f = and_parts (all_hide fs) (all_hide gs) hiding in
        let inner : guards_read (g ∷ guards) ≡ false = and_false (reads g.0) (guards_read guards) off in
        and_of (only_with (guards_read guards && reads g.0) (readable.slots g.0)) (all_close cs' (g ∷ guards) && all_close ds' (g ∷ guards)) (untold (guards_read guards) (reads g.0) (readable.slots g.0) off)
        (and_of (all_close cs' (g ∷ guards)) (all_close ds' (g ∷ guards)) (one.hides (g ∷ guards) inner f.0 q.0) (two.hides (g ∷ guards) inner f.1 q.1));
  }
    where
      and_false : (a b : Bool) → b ≡ false → (a && b) ≡ false
      and_false true b e = e
      and_false false b e = refl

      inside : (b : Bool) → reads g.0 ≡ b → V g.0 ≡ true → (guards : List SlotId)
          → (reads g.0 ≡ true → list_all V (all_visible ms) ≡ true → hidden_all (all_hidden ms) ≡ true → list_all V (all_visible ns) ≡ true → hidden_all (all_hidden ns) ≡ true → (all_flow fs && all_flow gs) ≡ true → (all_close cs' (g ∷ guards) && all_close ds' (g ∷ guards)) ≡ true)
          → (reads g.0 ≡ false → (all_hide fs && all_hide gs) ≡ true → (all_close cs' (g ∷ guards) && all_close ds' (g ∷ guards)) ≡ true)
          → list_all V (branch_makes b ms ns).visible ≡ true → hidden_all (branch_makes b ms ns).hidden ≡ true
          → (if b && V g.0 then all_flow fs && all_flow gs else all_hide fs && all_hide gs) ≡ true → (all_close cs' (g ∷ guards) && all_close ds' (g ∷ guards)) ≡ true
      inside true is seen guards open' closed' vis hid flowing =
          let v = both_parts V (all_visible ms) (all_visible ns) vis in
          let w = both_parts (λ x. not (V x)) (all_hidden ms) (all_hidden ns) hid in
          let taken : (if V g.0 then all_flow fs && all_flow gs else all_hide fs && all_hide gs) ≡ (all_flow fs && all_flow gs) = rw seen refl in
          open' is v.0 w.0 v.1 w.1 (sym taken ∙ flowing)
      inside false is seen guards open' closed' vis hid flowing = closed' is flowing

  step : (y : Stmt-F M) → StepCloses (map-Stmt Stmt Seeing seeing (layer y)) (map-Stmt Stmt Makes (makes reads) (layer y)) (map-Stmt Stmt Flow (flow k) (layer y)) (map-Stmt Stmt Closing (closes reads host r) (layer y)) (map-Stmt Stmt Closing (closes reads host readable) (layer y))
  step (Stmt-F.Let x s) = record {
    flows = λ guards sight read seen shown saw vis hid flowing closed. (
      right_seen (guards_in r guards) (guards_in readable guards) (guards_read guards) x s sight (guards_reach guards read seen) (and_parts (V x.0) true vis).0 shown saw flowing closed,
      record { bindings = with_shown x.0 sight.bindings vis shown.bindings; variables = shown.variables; arrays = shown.arrays },
    );
    hides = λ guards off hiding closed.
        let p = and_parts (not (kept x.0)) (right_hides k x s) hiding in
        right_unseen (guards_in readable guards) (guards_read guards) x s off p.0 p.1;
  }
  step (Stmt-F.NewVar v y) = record {
    flows = λ guards sight read seen shown saw vis hid flowing closed.
        (store_seen v y guards read seen (and_parts (V v.0) true vis).0 flowing closed, record { bindings = shown.bindings; variables = with_shown v.0 sight.variables vis shown.variables; arrays = shown.arrays });
    hides = λ guards off hiding closed. store_unseen v y guards off hiding;
  }
  step (Stmt-F.NewArray v size) = record {
    flows = λ guards sight read seen shown saw vis hid flowing closed. (refl, record { bindings = shown.bindings; variables = shown.variables; arrays = with_shown v.0 sight.arrays vis shown.arrays });
    hides = λ guards off hiding closed. refl;
  }
  step (Stmt-F.Store v y) = record {
    flows = λ guards sight read seen shown saw vis hid flowing closed.
        (store_seen v y guards read seen (member V v.0 sight.variables shown.variables (and_parts (is_variable sight v) (is_binding sight y) saw).0) flowing closed, shown);
    hides = λ guards off hiding closed. store_unseen v y guards off hiding;
  }
  step (Stmt-F.Put v i y) = record {
    flows = λ guards sight read seen shown saw vis hid flowing closed.
        let front = and_parts (is_array sight v) (is_binding sight i) (and_parts (is_array sight v && is_binding sight i) (is_binding sight y) saw).0 in
        (put_seen v i y guards read seen (member V v.0 sight.arrays shown.arrays front.0) (member V i.0 sight.bindings shown.bindings front.1) flowing closed, shown);
    hides = λ guards off hiding closed. put_unseen v i y guards off hiding;
  }
  step (Stmt-F.Output y other offset) = record {
    flows = λ guards sight read seen shown saw vis hid flowing closed.
        (first (guards_read guards) (nat_eq other.0 host) (r.slots y.0) (readable.slots y.0) closed (λ is in_r. and_of (kept y.0) (r.slots y.0) (only (nat_eq other.0 host) (kept y.0) flowing is) in_r), shown);
    hides = λ guards off hiding closed. untold (guards_read guards) (nat_eq other.0 host) (readable.slots y.0) off;
  }
  step (Stmt-F.If g a b offset) =
      if_closes g offset (map seeing (statements a)) (map seeing (statements b)) (map (makes reads) (statements a)) (map (makes reads) (statements b)) (map (flow k) (statements a)) (map (flow k) (statements b))
      (map (closes reads host r) (statements a)) (map (closes reads host readable) (statements a)) (map (closes reads host r) (statements b)) (map (closes reads host readable) (statements b)) (all_closes a) (all_closes b)
  step (Stmt-F.For count body) =
      let all = all_closes body in
      record { flows = λ guards sight read seen shown saw vis hid flowing closed. ((all.flows guards sight read seen shown saw vis hid flowing closed).0, shown); hides = all.hides }

  stmt_all : (s : Stmt) → StmtCloses s
  stmt_all = ind-Stmt StmtCloses (λ x y is. subst (λ z. StmtCloses (roll-Stmt z)) is (at_roll y))
    where
      at_roll : (y : Stmt-F M) → StmtCloses (roll-Stmt (layer y))
      at_roll y =
          rw (
            fold-roll-Stmt Seeing seeing_step (layer y),
            fold-roll-Stmt Makes (makes_step reads) (layer y),
            fold-roll-Stmt Flow (flow_step k) (layer y),
            fold-roll-Stmt Closing (stmt_closes reads host r) (layer y),
            fold-roll-Stmt Closing (stmt_closes reads host readable) (layer y),
          ) (step y)

  pub body_closes : (body : List Stmt) → BlockCloses body
  body_closes [] = none_close
  body_closes (s ∷ body) = stmt_more s body (stmt_all s) (body_closes body)
