-- A program that flows, flows with the kept slots and known hosts of a closed reach alone.
use Rattle.std.proofs.Common.{◌≡◌, ℕ, Bool, true, false, true≢false, ◌&&◌, ◌||◌, not, List, [], ◌∷◌, map, refl, sym, subst, nat_eq, if◌then◌else◌}
use Rattle.std.specs.List.{list_all}
use Rattle.std.proofs.lemmas.Bool.{and_parts}
use Rattle.vd_base.specs.declared.ids.SlotId.{SlotId}
use Rattle.vd_core.specs.declared.normal.Right.{Right}
use Rattle.vd_core.specs.declared.normal.Right.TheVariants.{Lit, Turn, Copy, Apply, Input, Declassify, Endorse, Load, Get}
use Rattle.vd_core.specs.declared.normal.Stmt.{Stmt, roll-Stmt, map-Stmt, ind-Stmt}
use Rattle.vd_core.specs.declared.normal.Stmt.TheOpen.{Stmt-F}
use Rattle.vd_core.specs.declared.normal.Stmt.TheFolds.{fold-roll-Stmt}
use Rattle.vd_noninter.specs.Flowing.{Knowledge, only_with, right_flows, right_hides, Flow, all_flow, all_hide, flow_step, flow}
use Rattle.vd_noninter.specs.NoninterLawsDependence.{Reach, right_closes, Closing, all_close, stmt_closes, closes}
use Rattle.vd_noninter.proofs.Statements.{only}
use Rattle.vd_noninter.proofs.Whole.{hearing}
use Rattle.vd_noninter.proofs.Lawful.{then_only, and_of}

module _ (kept : ℕ → Bool) (test : ℕ → ℕ → Bool) (known : ℕ → Bool) (listener : ℕ) (r : Reach) where
  abbrev pub narrowed : Knowledge
  narrowed = hearing (λ x. kept x && r.slots x) test (λ host. known host && r.hosts host) listener

module _ (kept : ℕ → Bool) (test : ℕ → ℕ → Bool) (known : ℕ → Bool) (listener : ℕ) (r : Reach) (reads : ℕ → Bool) (kept_read : (x : ℕ) → kept x ≡ true → reads x ≡ true) (goes_on : (x y : ℕ) → kept x ≡ true → (test x y || r.slots y) ≡ true) where
  abbrev k : Knowledge
  k = hearing kept test known listener

  abbrev K : Knowledge
  K = narrowed kept test known listener r

  -- both halves of what is asked, by both halves of what is given
  both_halves : (a b c d : Bool) → only_with a b ≡ true → (c ≡ true → d ≡ true) → only_with (a && c) (b && d) ≡ true
  both_halves a b c d first second = then_only (a && c) (b && d) (λ is. let parts = and_parts a c is in and_of b d (only a b first parts.0) (second parts.1))

  after_guards : (c around d : Bool) → only_with c (around && d) ≡ true → c ≡ true → d ≡ true
  after_guards c around d h is = (and_parts around d (only c (around && d) h is)).1

  all_both : (ys : List SlotId) → list_all (λ y. k.kept y.0) ys ≡ true → list_all (λ y. r.slots y.0) ys ≡ true → list_all (λ y. k.kept y.0 && r.slots y.0) ys ≡ true
  all_both [] first second = refl
  all_both (y ∷ ys) first second =
      let a = and_parts (k.kept y.0) (list_all (λ z. k.kept z.0) ys) first in
      let b = and_parts (r.slots y.0) (list_all (λ z. r.slots z.0) ys) second in
      rw (a.0, b.0, all_both ys a.1 b.1) refl

  one : (x y : ℕ) → only_with (k.kept x) (k.kept y) ≡ true → (r.slots x ≡ true → r.slots y ≡ true) → only_with (k.kept x && r.slots x) (k.kept y && r.slots y) ≡ true
  one x y = both_halves (k.kept x) (k.kept y) (r.slots x) (r.slots y)

  two : (x y z : ℕ) → only_with (k.kept x) (k.kept y && k.kept z) ≡ true → (r.slots x ≡ true → (r.slots y && r.slots z) ≡ true) → only_with (k.kept x && r.slots x) ((k.kept y && r.slots y) && (k.kept z && r.slots z)) ≡ true
  two x y z first second =
      then_only (k.kept x && r.slots x) ((k.kept y && r.slots y) && (k.kept z && r.slots z))
      (λ is.
      let parts = and_parts (k.kept x) (r.slots x) is in
      let a = and_parts (k.kept y) (k.kept z) (only (k.kept x) (k.kept y && k.kept z) first parts.0) in
      let b = and_parts (r.slots y) (r.slots z) (second parts.1) in
      and_of (k.kept y && r.slots y) (k.kept z && r.slots z) (and_of (k.kept y) (r.slots y) a.0 b.0) (and_of (k.kept z) (r.slots z) a.1 b.1))

  either_both : (a b c : Bool) → (a || b) ≡ true → (a || c) ≡ true → (a || (b && c)) ≡ true
  either_both true b c first second = refl
  either_both false b c first second = and_of b c first second

  right_narrows : (around told : Bool) (x : SlotId) (s : Right) → right_closes reads r around told x s ≡ true → right_flows k x s ≡ true → right_flows K x s ≡ true
  right_narrows around told x (Lit n) c f = refl
  right_narrows around told x Turn c f = refl
  right_narrows around told x (Copy y) c f =
      let parts = and_parts (only_with (r.slots x.0) (around && r.slots y.0)) (only_with (told && reads x.0) (r.slots y.0)) c in
      one x.0 y.0 f (after_guards (r.slots x.0) around (r.slots y.0) parts.0)
  right_narrows around told x (Apply op ys) c f =
      let all = list_all (λ y. r.slots y.0) ys in
      let parts = and_parts (only_with (r.slots x.0) (around && all)) (only_with (told && reads x.0) all) c in
      then_only (k.kept x.0 && r.slots x.0) (list_all (λ y. k.kept y.0 && r.slots y.0) ys)
      (λ is.
      let p = and_parts (k.kept x.0) (r.slots x.0) is in
      all_both ys (only (k.kept x.0) (list_all (λ y. k.kept y.0) ys) f p.0) (after_guards (r.slots x.0) around all parts.0 p.1))
  right_narrows around told x (Input host) c f =
      let parts = and_parts (only_with (r.slots x.0) (r.hosts host.0)) (only_with (r.hosts host.0 || r.slots x.0) around) c in
      both_halves (k.kept x.0) (k.known host.0) (r.slots x.0) (r.hosts host.0) f (only (r.slots x.0) (r.hosts host.0) parts.0)
  right_narrows around told x (Declassify y to) c f =
      and_of (only_with (k.kept x.0 && r.slots x.0) (test x.0 y.0 || (k.kept y.0 && r.slots y.0))) true
      (then_only (k.kept x.0 && r.slots x.0) (test x.0 y.0 || (k.kept y.0 && r.slots y.0))
      (λ is.
      let here = (and_parts (k.kept x.0) (r.slots x.0) is).0 in
      either_both (test x.0 y.0) (k.kept y.0) (r.slots y.0) (only (k.kept x.0) (test x.0 y.0 || k.kept y.0) (and_parts (only_with (k.kept x.0) (test x.0 y.0 || k.kept y.0)) true f).0 here) (goes_on x.0 y.0 here)))
      refl
  right_narrows around told x (Endorse y to) c f =
      let parts = and_parts (only_with (r.slots x.0) (around && r.slots y.0)) (only_with (told && reads x.0) (r.slots y.0)) c in
      and_of (only_with (k.kept x.0 && r.slots x.0) (k.kept y.0 && r.slots y.0)) true
      (one x.0 y.0 (and_parts (only_with (k.kept x.0) (k.kept y.0)) true f).0 (after_guards (r.slots x.0) around (r.slots y.0) parts.0)) refl
  right_narrows around told x (Load v) c f =
      let parts = and_parts (only_with (r.slots x.0) (around && r.slots v.0)) (only_with (told && reads x.0) (r.slots x.0)) c in
      one x.0 v.0 f (after_guards (r.slots x.0) around (r.slots v.0) parts.0)
  right_narrows around told x (Get v i) c f =
      let parts = and_parts (only_with (r.slots x.0) (around && (r.slots v.0 && r.slots i.0))) (only_with (told && reads x.0) (r.slots x.0) && only_with (told && reads i.0) (r.slots i.0)) c in
      two x.0 v.0 i.0 f (after_guards (r.slots x.0) around (r.slots v.0 && r.slots i.0) parts.0)

  not_both : (a b : Bool) → not a ≡ true → not (a && b) ≡ true
  not_both true b h = absurd (true≢false (sym h))
  not_both false b h = refl

  right_stays_hidden : (x : SlotId) (s : Right) → right_hides k x s ≡ true → right_hides K x s ≡ true
  right_stays_hidden x (Lit n) h = refl
  right_stays_hidden x Turn h = refl
  right_stays_hidden x (Copy y) h = refl
  right_stays_hidden x (Apply op ys) h = refl
  right_stays_hidden x (Input host) h = not_both (k.known host.0) (r.hosts host.0) h
  right_stays_hidden x (Declassify y to) h = h
  right_stays_hidden x (Endorse y to) h = refl
  right_stays_hidden x (Load v) h = refl
  right_stays_hidden x (Get v i) h = refl

  abbrev guards_read : List SlotId → Bool
  guards_read = list_all (λ g. reads g.0)

  record Narrows (f f' : Flow) (c : Closing) : Type 0 where
    flows : (guards : List SlotId) → guards_read guards ≡ true → c guards ≡ true → f.flows ≡ true → f'.flows ≡ true
    hides : f.hides ≡ true → f'.hides ≡ true

  abbrev block : List Flow → Flow
  block fs = record { flows = all_flow fs; hides = all_hide fs }

  more_narrow : (f f' : Flow) (fs fs' : List Flow) (c : Closing) (cs : List Closing) → Narrows f f' c → Narrows (block fs) (block fs') (all_close cs) → Narrows (block (f ∷ fs)) (block (f' ∷ fs')) (all_close (c ∷ cs))
  more_narrow f f' fs fs' c cs first rest = record {
    flows = λ guards read closed h.
        let a = and_parts (c guards) (all_close cs guards) closed in
        let b = and_parts f.flows (all_flow fs) h in
        and_of f'.flows (all_flow fs') (first.flows guards read a.0 b.0) (rest.flows guards read a.1 b.1);
    hides = λ h. let b = and_parts f.hides (all_hide fs) h in and_of f'.hides (all_hide fs') (first.hides b.0) (rest.hides b.1);
  }

  abbrev M : Type 0
  M = (s : Stmt) × Narrows (flow k s) (flow K s) (closes reads listener r s)

  abbrev statements : List M → List Stmt
  statements = map {B = Stmt} (λ (m : M). m.0)

  abbrev layer : Stmt-F M → Stmt-F Stmt
  layer = map-Stmt M Stmt (λ m. m.0)

  abbrev BlockNarrows : List Stmt → Type 0
  BlockNarrows body = Narrows (block (map (flow k) body)) (block (map (flow K) body)) (all_close (map (closes reads listener r) body))

  stmt_more : (s : Stmt) (body : List Stmt) → Narrows (flow k s) (flow K s) (closes reads listener r s) → BlockNarrows body → BlockNarrows (s ∷ body)
  stmt_more s body = more_narrow (flow k s) (flow K s) (map (flow k) body) (map (flow K) body) (closes reads listener r s) (map (closes reads listener r) body)

  none_narrow : BlockNarrows []
  none_narrow = record { flows = λ guards read closed h. refl; hides = λ h. refl }

  all_narrow : (ms : List M) → BlockNarrows (statements ms)
  all_narrow [] = none_narrow
  all_narrow (m ∷ ms) = stmt_more m.0 (statements ms) m.1 (all_narrow ms)

  store_narrows : (v y : SlotId) (guards : List SlotId) → (only_with (r.slots v.0) (list_all (λ g. r.slots g.0) guards && r.slots y.0) && only_with (guards_read guards && reads v.0) (r.slots y.0)) ≡ true → only_with (k.kept v.0) (k.kept y.0) ≡ true
      → only_with (k.kept v.0 && r.slots v.0) (k.kept y.0 && r.slots y.0) ≡ true
  store_narrows v y guards closed h =
      let parts = and_parts (only_with (r.slots v.0) (list_all (λ g. r.slots g.0) guards && r.slots y.0)) (only_with (guards_read guards && reads v.0) (r.slots y.0)) closed in
      one v.0 y.0 h (after_guards (r.slots v.0) (list_all (λ g. r.slots g.0) guards) (r.slots y.0) parts.0)

  if_narrows : (g : SlotId) (offset : ℕ) (fs fs' gs gs' : List Flow) (cs ds : List Closing) → Narrows (block fs) (block fs') (all_close cs) → Narrows (block gs) (block gs') (all_close ds)
      → Narrows (flow_step k (Stmt-F.If g fs gs offset)) (flow_step K (Stmt-F.If g fs' gs' offset)) (stmt_closes reads listener r (Stmt-F.If g cs ds offset))
  if_narrows g offset fs fs' gs gs' cs ds first second = record {
    flows = λ guards read closed h.
        let parts = and_parts (only_with (guards_read guards && reads g.0) (r.slots g.0)) (all_close cs (g ∷ guards) && all_close ds (g ∷ guards)) closed in
        let inner = and_parts (all_close cs (g ∷ guards)) (all_close ds (g ∷ guards)) parts.1 in
        by (k.kept g.0) refl
        (λ is.
        only (guards_read guards && reads g.0) (r.slots g.0) parts.0 (and_of (guards_read guards) (reads g.0) read (kept_read g.0 is)))
        (λ is w.
        let both = and_parts (all_flow fs) (all_flow gs) w in
        let now = and_of (reads g.0) (guards_read guards) (kept_read g.0 is) read in
        and_of (all_flow fs') (all_flow gs') (first.flows (g ∷ guards) now inner.0 both.0) (second.flows (g ∷ guards) now inner.1 both.1))
        h;
    hides = hidden;
  }
    where
      hidden : (all_hide fs && all_hide gs) ≡ true → (all_hide fs' && all_hide gs') ≡ true
      hidden h = let both = and_parts (all_hide fs) (all_hide gs) h in and_of (all_hide fs') (all_hide gs') (first.hides both.0) (second.hides both.1)

      by : (b : Bool) → k.kept g.0 ≡ b → (k.kept g.0 ≡ true → r.slots g.0 ≡ true) → (k.kept g.0 ≡ true → (all_flow fs && all_flow gs) ≡ true → (all_flow fs' && all_flow gs') ≡ true)
          → (if b then all_flow fs && all_flow gs else all_hide fs && all_hide gs) ≡ true
          → (if b && r.slots g.0 then all_flow fs' && all_flow gs' else all_hide fs' && all_hide gs') ≡ true
      by true is reached flowing h = rw (reached is) (flowing is h)
      by false is reached flowing h = hidden h

  step : (y : Stmt-F M) → Narrows (flow_step k (map-Stmt Stmt Flow (flow k) (layer y))) (flow_step K (map-Stmt Stmt Flow (flow K) (layer y))) (stmt_closes reads listener r (map-Stmt Stmt Closing (closes reads listener r) (layer y)))
  step (Stmt-F.Let x s) = record {
    flows = λ guards read closed h. right_narrows (list_all (λ g. r.slots g.0) guards) (guards_read guards) x s closed h;
    hides = λ h.
        let parts = and_parts (not (k.kept x.0)) (right_hides k x s) h in
        and_of (not (k.kept x.0 && r.slots x.0)) (right_hides K x s) (not_both (k.kept x.0) (r.slots x.0) parts.0) (right_stays_hidden x s parts.1);
  }
  step (Stmt-F.NewVar v y) = record { flows = λ guards read closed h. store_narrows v y guards closed h; hides = not_both (k.kept v.0) (r.slots v.0) }
  step (Stmt-F.NewArray v size) = record { flows = λ guards read closed h. refl; hides = not_both (k.kept v.0) (r.slots v.0) }
  step (Stmt-F.Store v y) = record { flows = λ guards read closed h. store_narrows v y guards closed h; hides = not_both (k.kept v.0) (r.slots v.0) }
  step (Stmt-F.Put v i y) = record {
    flows = λ guards read closed h.
        let asked = only_with (r.slots v.0) (list_all (λ g. r.slots g.0) guards && (r.slots i.0 && r.slots y.0)) in
        let parts = and_parts asked (only_with (guards_read guards && reads v.0) (r.slots y.0) && only_with (guards_read guards && reads i.0) (r.slots i.0)) closed in
        two v.0 i.0 y.0 h (after_guards (r.slots v.0) (list_all (λ g. r.slots g.0) guards) (r.slots i.0 && r.slots y.0) parts.0);
    hides = not_both (k.kept v.0) (r.slots v.0);
  }
  step (Stmt-F.Output y host offset) = record {
    flows = λ guards read closed h.
        then_only (nat_eq host.0 listener) (k.kept y.0 && r.slots y.0)
        (λ is. and_of (k.kept y.0) (r.slots y.0) (only (nat_eq host.0 listener) (k.kept y.0) h is) (only (guards_read guards && nat_eq host.0 listener) (r.slots y.0) closed (and_of (guards_read guards) (nat_eq host.0 listener) read is)));
    hides = λ h. h;
  }
  step (Stmt-F.If g a b offset) =
      if_narrows g offset (map (flow k) (statements a)) (map (flow K) (statements a)) (map (flow k) (statements b)) (map (flow K) (statements b)) (map (closes reads listener r) (statements a)) (map (closes reads listener r) (statements b)) (all_narrow a) (all_narrow b)
  step (Stmt-F.For count body) = let all = all_narrow body in record { flows = all.flows; hides = all.hides }

  stmt_narrows : (s : Stmt) → Narrows (flow k s) (flow K s) (closes reads listener r s)
  stmt_narrows = ind-Stmt (λ s. Narrows (flow k s) (flow K s) (closes reads listener r s)) (λ x y is. subst (λ z. Narrows (flow k (roll-Stmt z)) (flow K (roll-Stmt z)) (closes reads listener r (roll-Stmt z))) is (at_roll y))
    where
      at_roll : (y : Stmt-F M) → Narrows (flow k (roll-Stmt (layer y))) (flow K (roll-Stmt (layer y))) (closes reads listener r (roll-Stmt (layer y)))
      at_roll y =
          rw (
            fold-roll-Stmt Flow (flow_step k) (layer y),
            fold-roll-Stmt Flow (flow_step K) (layer y),
            fold-roll-Stmt Closing (stmt_closes reads listener r) (layer y),
          ) (step y)

  body_narrows : (body : List Stmt) → BlockNarrows body
  body_narrows [] = none_narrow
  body_narrows (s ∷ body) = stmt_more s body (stmt_narrows s) (body_narrows body)

  pub narrowed_flows : (body : List Stmt) → all_close (map (closes reads listener r) body) [] ≡ true → all_flow (map (flow k) body) ≡ true → all_flow (map (flow K) body) ≡ true
  narrowed_flows body closed h = (body_narrows body).flows [] refl closed h
