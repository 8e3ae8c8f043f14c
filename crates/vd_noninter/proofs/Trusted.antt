-- What a host is told is reached, without endorsements, from hosts that are trusted for it.
use Rattle.std.proofs.Common.{◌≡◌, ℕ, Bool, true, false, true≢false, ◌&&◌, ◌||◌, not, List, [], ◌∷◌, map, length, refl, sym, ◌∙◌, subst, nat_eq, if◌then◌else◌}
use Rattle.std.specs.List.{list_all, list_any}
use Rattle.std.proofs.lemmas.Bool.{and_parts, eq-eqb, eqb-true}
use Rattle.vd_base.specs.declared.ids.SlotId.{SlotId}
use Rattle.vd_base.specs.declared.ids.HostId.{HostId}
use Rattle.vd_core.specs.declared.normal.Right.{Right}
use Rattle.vd_core.specs.declared.normal.Right.TheVariants.{Lit, Turn, Copy, Apply, Input, Declassify, Endorse, Load, Get}
use Rattle.vd_core.specs.declared.normal.Stmt.{Stmt, roll-Stmt, map-Stmt, ind-Stmt}
use Rattle.vd_core.specs.declared.normal.Stmt.TheOpen.{Stmt-F}
use Rattle.vd_core.specs.declared.normal.Stmt.TheFolds.{fold-roll-Stmt}
use Rattle.vd_core.specs.declared.normal.NormalForm.{NormalForm}
use Rattle.vd_core.specs.Facts.{IsWellMade}
use Rattle.vd_constraints.specs.declared.labels.Labels.{Labels}
use Rattle.vd_constraints.specs.Rules.{host_label, system_of}
use Rattle.vd_constraints.specs.Satisfies.{Satisfies}
use Rattle.vd_noninter.specs.Flowing.{Knowledge, only_with, right_flows, right_hides, Flow, all_flow, all_hide, flow_step, flow}
use Rattle.vd_noninter.specs.Watching.{nothing}
use Rattle.vd_noninter.specs.NoninterLawsDependence.{Reach, Closing, all_close}
use Rattle.vd_noninter.specs.Reading.{visible_slots}
use Rattle.vd_noninter.proofs.Formulas.{for_acts}
use Rattle.vd_noninter.proofs.Lawful.{and_of}
use Rattle.vd_noninter.specs.IntegrityLawsInfluence.{right_influences, stmt_influences, influences, cut, AreInfluences, AreTrusted}
use Rattle.vd_noninter.specs.Trust.{for_formula, trusts_slot, trusts_host, becomes_trusted}
use Rattle.vd_noninter.proofs.Vouching.{vouching}
use Rattle.vd_noninter.proofs.IntegrityLawsInfluence.{body_carries}
use Rattle.vd_noninter.proofs.IntegrityLawsTheorem.{formula_is_trust, trusted_flows}

with_around : (a g b : Bool) → g ≡ true → only_with a b ≡ true → only_with a (g && b) ≡ true
with_around a true b is h = h
with_around a false b is h = absurd (true≢false (sym is))

around_alone : (a g : Bool) → g ≡ true → only_with a g ≡ true
around_alone true g is = is
around_alone false g is = refl

out_of_it : (a b : Bool) → not a ≡ true → only_with a b ≡ true
out_of_it true b off = absurd (true≢false (sym off))
out_of_it false b off = refl

neither : (a b c : Bool) → not a ≡ true → not b ≡ true → only_with (a || b) c ≡ true
neither true b c off other = absurd (true≢false (sym off))
neither false b c off other = out_of_it b c other

weaker : (a more b : Bool) → (a ≡ true → more ≡ true) → only_with more b ≡ true → only_with a b ≡ true
weaker true true b is h = h
weaker true false b is h = absurd (true≢false (sym (is refl)))
weaker false more b is h = refl

not_weaker : (a more : Bool) → (a ≡ true → more ≡ true) → not more ≡ true → not a ≡ true
not_weaker true true is off = off
not_weaker true false is off = absurd (true≢false (sym (is refl)))
not_weaker false more is off = refl

nothing_asked : (a : Bool) → only_with a true ≡ true
nothing_asked true = refl
nothing_asked false = refl

module _ (kept : ℕ → Bool) (vouched freed : ℕ → ℕ → Bool) (known heard : ℕ → Bool) (h : ℕ) (hears : heard h ≡ true) where
  abbrev k : Knowledge
  k = vouching kept vouched freed known heard

  -- what is kept, and the hosts whose inputs are known
  abbrev held : Reach
  held = record { slots = k.kept; hosts = k.known }

  abbrev around : List SlotId → Bool
  around guards = list_all (λ g. k.kept g.0) guards

  abbrev Closes : Flow → Closing → Type 0
  Closes f c = (guards : List SlotId) → (around guards ≡ true → f.flows ≡ true → c guards ≡ true) × (f.hides ≡ true → c guards ≡ true)

  right_closed : (guards : List SlotId) (x : SlotId) (s : Right) → around guards ≡ true → right_flows k x s ≡ true → right_influences false held (around guards) x s ≡ true
  right_closed guards x (Lit n) is f = around_alone (k.kept x.0) (around guards) is
  right_closed guards x Turn is f = around_alone (k.kept x.0) (around guards) is
  right_closed guards x (Copy y) is f = with_around (k.kept x.0) (around guards) (k.kept y.0) is f
  right_closed guards x (Apply op ys) is f = with_around (k.kept x.0) (around guards) (list_all (λ y. k.kept y.0) ys) is f
  right_closed guards x (Input host) is f = and_of (only_with (k.kept x.0) (k.known host.0)) (only_with (k.known host.0 || k.kept x.0) (around guards)) f (around_alone (k.known host.0 || k.kept x.0) (around guards) is)
  right_closed guards x (Declassify y to) is f =
      with_around (k.kept x.0) (around guards) (k.kept y.0) is (and_parts (only_with (k.kept x.0) (k.kept y.0)) (only_with (freed x.0 y.0) (k.kept y.0)) f).0
  right_closed guards x (Endorse y to) is f = with_around (k.kept x.0) (around guards) true is (nothing_asked (k.kept x.0))
  right_closed guards x (Load v) is f = with_around (k.kept x.0) (around guards) (k.kept v.0) is f
  right_closed guards x (Get v i) is f = with_around (k.kept x.0) (around guards) (k.kept v.0 && k.kept i.0) is f

  right_left : (guards : List SlotId) (x : SlotId) (s : Right) → not (k.kept x.0) ≡ true → right_hides k x s ≡ true → right_influences false held (around guards) x s ≡ true
  right_left guards x (Lit n) off hides = out_of_it (k.kept x.0) (around guards) off
  right_left guards x Turn off hides = out_of_it (k.kept x.0) (around guards) off
  right_left guards x (Copy y) off hides = out_of_it (k.kept x.0) (around guards && k.kept y.0) off
  right_left guards x (Apply op ys) off hides = out_of_it (k.kept x.0) (around guards && list_all (λ y. k.kept y.0) ys) off
  right_left guards x (Input host) off hides =
      and_of (only_with (k.kept x.0) (k.known host.0)) (only_with (k.known host.0 || k.kept x.0) (around guards)) (out_of_it (k.kept x.0) (k.known host.0) off) (neither (k.known host.0) (k.kept x.0) (around guards) hides off)
  right_left guards x (Declassify y to) off hides = out_of_it (k.kept x.0) (around guards && k.kept y.0) off
  right_left guards x (Endorse y to) off hides = out_of_it (k.kept x.0) (around guards && true) off
  right_left guards x (Load v) off hides = out_of_it (k.kept x.0) (around guards && k.kept v.0) off
  right_left guards x (Get v i) off hides = out_of_it (k.kept x.0) (around guards && (k.kept v.0 && k.kept i.0)) off

  hears_it : (other : ℕ) → nat_eq other h ≡ true → k.heard other ≡ true
  hears_it other is = subst (λ n. k.heard n ≡ true) (sym (eqb-true other h is)) hears

  abbrev block_flow : List Flow → Flow
  block_flow fs = record { flows = all_flow fs; hides = all_hide fs }

  more_close : (f : Flow) (fs : List Flow) (c : Closing) (cs : List Closing) → Closes f c → Closes (block_flow fs) (all_close cs) → Closes (block_flow (f ∷ fs)) (all_close (c ∷ cs))
  more_close f fs c cs one rest guards = (
    λ is flows. let parts = and_parts f.flows (all_flow fs) flows in and_of (c guards) (all_close cs guards) ((one guards).0 is parts.0) ((rest guards).0 is parts.1),
    λ hides. let parts = and_parts f.hides (all_hide fs) hides in and_of (c guards) (all_close cs guards) ((one guards).1 parts.0) ((rest guards).1 parts.1),
  )

  abbrev M : Type 0
  M = (s : Stmt) × Closes (flow k s) (influences false h held s)

  abbrev statements : List M → List Stmt
  statements = map {B = Stmt} (λ (m : M). m.0)

  abbrev layer : Stmt-F M → Stmt-F Stmt
  layer = map-Stmt M Stmt (λ m. m.0)

  abbrev BlockCloses : List Stmt → Type 0
  BlockCloses body = Closes (block_flow (map (flow k) body)) (all_close (map (influences false h held) body))

  all_closed : (ms : List M) → BlockCloses (statements ms)
  all_closed [] = λ guards. (λ is flows. refl, λ hides. refl)
  all_closed (m ∷ ms) = more_close (flow k m.0) (map (flow k) (statements ms)) (influences false h held m.0) (map (influences false h held) (statements ms)) m.1 (all_closed ms)

  if_closes : (g : SlotId) (offset : ℕ) (fs gs : List Flow) (cs ds : List Closing) → Closes (block_flow fs) (all_close cs) → Closes (block_flow gs) (all_close ds)
      → Closes (flow_step k (Stmt-F.If g fs gs offset)) (stmt_influences false h held (Stmt-F.If g cs ds offset))
  if_closes g offset fs gs cs ds first second guards = (λ is flows. by (k.kept g.0) refl is flows, λ hides. left hides)
    where
      left : (all_hide fs && all_hide gs) ≡ true → (all_close cs (g ∷ guards) && all_close ds (g ∷ guards)) ≡ true
      left hides =
          let parts = and_parts (all_hide fs) (all_hide gs) hides in
          and_of (all_close cs (g ∷ guards)) (all_close ds (g ∷ guards)) ((first (g ∷ guards)).1 parts.0) ((second (g ∷ guards)).1 parts.1)

      by : (b : Bool) → k.kept g.0 ≡ b → around guards ≡ true → (if b then all_flow fs && all_flow gs else all_hide fs && all_hide gs) ≡ true
          → (all_close cs (g ∷ guards) && all_close ds (g ∷ guards)) ≡ true
      by true here is flows =
          let parts = and_parts (all_flow fs) (all_flow gs) flows in
          let both = and_of (k.kept g.0) (around guards) here is in
          and_of (all_close cs (g ∷ guards)) (all_close ds (g ∷ guards)) ((first (g ∷ guards)).0 both parts.0) ((second (g ∷ guards)).0 both parts.1)
      by false here is flows =
          let parts = and_parts (all_hide fs) (all_hide gs) flows in
          and_of (all_close cs (g ∷ guards)) (all_close ds (g ∷ guards)) ((first (g ∷ guards)).1 parts.0) ((second (g ∷ guards)).1 parts.1)

  step : (y : Stmt-F M) → Closes (flow_step k (map-Stmt Stmt Flow (flow k) (layer y))) (stmt_influences false h held (map-Stmt Stmt Closing (influences false h held) (layer y)))
  step (Stmt-F.Let x s) = λ guards. (
    λ is flows. right_closed guards x s is flows,
    λ hides. let parts = and_parts (not (k.kept x.0)) (right_hides k x s) hides in right_left guards x s parts.0 parts.1,
  )
  step (Stmt-F.NewVar v y) = λ guards. (λ is flows. with_around (k.kept v.0) (around guards) (k.kept y.0) is flows, λ hides. out_of_it (k.kept v.0) (around guards && k.kept y.0) hides)
  step (Stmt-F.NewArray v size) = λ guards. (λ is flows. around_alone (k.kept v.0) (around guards) is, λ hides. out_of_it (k.kept v.0) (around guards) hides)
  step (Stmt-F.Store v y) = λ guards. (λ is flows. with_around (k.kept v.0) (around guards) (k.kept y.0) is flows, λ hides. out_of_it (k.kept v.0) (around guards && k.kept y.0) hides)
  step (Stmt-F.Put v i y) = λ guards. (λ is flows. with_around (k.kept v.0) (around guards) (k.kept i.0 && k.kept y.0) is flows, λ hides. out_of_it (k.kept v.0) (around guards && (k.kept i.0 && k.kept y.0)) hides)
  step (Stmt-F.Output y other offset) = λ guards. (
    λ is flows. with_around (nat_eq other.0 h) (around guards) (k.kept y.0) is (weaker (nat_eq other.0 h) (k.heard other.0) (k.kept y.0) (hears_it other.0) flows),
    λ hides. out_of_it (nat_eq other.0 h) (around guards && k.kept y.0) (not_weaker (nat_eq other.0 h) (k.heard other.0) (hears_it other.0) hides),
  )
  step (Stmt-F.If g a b offset) =
      if_closes g offset (map (flow k) (statements a)) (map (flow k) (statements b)) (map (influences false h held) (statements a)) (map (influences false h held) (statements b)) (all_closed a) (all_closed b)
  step (Stmt-F.For count body) = all_closed body

  stmt_closes : (s : Stmt) → Closes (flow k s) (influences false h held s)
  stmt_closes = ind-Stmt (λ s. Closes (flow k s) (influences false h held s)) (λ x y is. subst (λ z. Closes (flow k (roll-Stmt z)) (influences false h held (roll-Stmt z))) is (at_roll y))
    where
      at_roll : (y : Stmt-F M) → Closes (flow k (roll-Stmt (layer y))) (influences false h held (roll-Stmt (layer y)))
      at_roll y = rw (fold-roll-Stmt Flow (flow_step k) (layer y), fold-roll-Stmt Closing (stmt_influences false h held) (layer y)) (step y)

  body_closes : (body : List Stmt) → BlockCloses body
  body_closes [] = λ guards. (λ is flows. refl, λ hides. refl)
  body_closes (s ∷ body) = more_close (flow k s) (map (flow k) body) (influences false h held s) (map (influences false h held) body) (stmt_closes s) (body_closes body)

  flows_close : (body : List Stmt) → all_flow (map (flow k) body) ≡ true → all_close (map (influences false h held) body) [] ≡ true
  flows_close body flows = (body_closes body []).0 refl flows

pub influences_trusted : (p : NormalForm) (l : Labels) (h : HostId) → IsWellMade p → Satisfies (system_of p) l → (hosts : ℕ → Bool) → AreInfluences false p h hosts → AreTrusted p h hosts
influences_trusted p l h well satisfies hosts are n is =
    let own = (host_label p h).integ in
    let T = for_formula own in
    let kept : ℕ → Bool = λ x. trusts_slot l T x && list_any (nat_eq x) (visible_slots (trusts_slot l T) p.body) in
    let flows = trusted_flows p l well satisfies T (formula_is_trust (length p.principals) own) in
    let closed = flows_close kept (becomes_trusted l T) nothing (trusts_host p T) (trusts_host p T) h.0 (for_acts own own (λ set low here. here)) p.body flows in
    (are.influence.least (held kept (becomes_trusted l T) nothing (trusts_host p T) (trusts_host p T) h.0 (for_acts own own (λ set low here. here))) closed).hosts n (sym (are.same n) ∙ is)

-- what is reached without endorsements is reached with them
pub influences_nest : (p : NormalForm) (h : HostId) (all direct : ℕ → Bool) → AreInfluences true p h all → AreInfluences false p h direct → (k : ℕ) → direct k ≡ true → all k ≡ true
influences_nest p h all direct are those n is =
    let r = are.reach in
    let heard : ℕ → Bool = λ k. nat_eq k h.0 in
    let flows = (body_carries true h.0 r p.body [] are.influence.closed).0 refl in
    let own = eq-eqb h.0 h.0 refl in
    let closed = flows_close r.slots (cut true r) nothing r.hosts heard h.0 own p.body flows in
    are.same n ∙ (those.influence.least (held r.slots (cut true r) nothing r.hosts heard h.0 own) closed).hosts n (sym (those.same n) ∙ is)
