-- What is reached from what a host is told is enough to tell it.
use Rattle.std.proofs.Common.{◌≡◌, ℕ, Bool, true, false, true≢false, ◌&&◌, ◌||◌, not, List, [], ◌∷◌, ◌++◌, map, refl, sym, ap, ◌∙◌, subst, nat_eq, if◌then◌else◌}
use Rattle.std.specs.List.{list_all}
use Rattle.std.proofs.lemmas.Bool.{and_parts, eq-eqb}
use Rattle.vd_base.specs.declared.ids.SlotId.{SlotId}
use Rattle.vd_base.specs.declared.ids.HostId.{HostId}
use Rattle.vd_core.specs.declared.normal.Right.{Right}
use Rattle.vd_core.specs.declared.normal.Right.TheVariants.{Lit, Turn, Copy, Apply, Input, Declassify, Endorse, Load, Get}
use Rattle.vd_core.specs.declared.normal.Stmt.{Stmt, roll-Stmt, map-Stmt, ind-Stmt}
use Rattle.vd_core.specs.declared.normal.Stmt.TheOpen.{Stmt-F}
use Rattle.vd_core.specs.declared.normal.Stmt.TheFolds.{fold-roll-Stmt}
use Rattle.vd_core.specs.declared.normal.NormalForm.{NormalForm}
use Rattle.vd_noninter.specs.Flowing.{Knowledge, only_with, right_flows, right_hides, Flow, all_flow, all_hide, flow_step, flow}
use Rattle.vd_noninter.specs.Watching.{nothing}
use Rattle.vd_noninter.specs.Reading.{SameInputs, endorsed_words, outputs_to}
use Rattle.vd_noninter.specs.NoninterLawsDependence.{Reach, Closing, all_close}
use Rattle.vd_noninter.proofs.Lawful.{and_of}
use Rattle.vd_noninter.proofs.Whole.{outputs_same}
use Rattle.vd_noninter.specs.IntegrityLawsInfluence.{right_influences, stmt_influences, influences, IsClosed, AreInfluences, cut, AreEnoughToTell}
use Rattle.vd_noninter.proofs.Vouching.{vouching}

-- of a closed reach: with all guards reached, what a slot is made of is; with one not reached, the slot is not
asked : (a g b : Bool) → only_with a (g && b) ≡ true → only_with a b ≡ true
asked true true b h = h
asked true false b h = absurd (true≢false (sym h))
asked false g b h = refl

out_of : (a g b : Bool) → g ≡ false → only_with a (g && b) ≡ true → not a ≡ true
out_of true true b off h = absurd (true≢false off)
out_of true false b off h = absurd (true≢false (sym h))
out_of false g b off h = refl

out_alone : (a g : Bool) → g ≡ false → only_with a g ≡ true → not a ≡ true
out_alone true true off h = absurd (true≢false off)
out_alone true false off h = absurd (true≢false (sym h))
out_alone false g off h = refl

module _ (passed : Bool) (h : ℕ) (r : Reach) where
  abbrev reached : Knowledge
  reached = vouching r.slots (cut passed r) nothing r.hosts (λ k. nat_eq k h)

  abbrev around : List SlotId → Bool
  around guards = list_all (λ g. r.slots g.0) guards

  abbrev Carries : Flow → Closing → Type 0
  Carries f c = (guards : List SlotId) → c guards ≡ true → (around guards ≡ true → f.flows ≡ true) × (around guards ≡ false → f.hides ≡ true)

  endorsed_or_kept : (a q b : Bool) → only_with a (only_with q b) ≡ true → only_with a ((not q && a) || b) ≡ true
  endorsed_or_kept true true b h = h
  endorsed_or_kept true false b h = refl
  endorsed_or_kept false q b h = refl

  not_cut : (q a : Bool) → not a ≡ true → not (not q && a) ≡ true
  not_cut true a off = refl
  not_cut false a off = off

  either_off : (a b : Bool) → not (a || b) ≡ true → (not a ≡ true) × (not b ≡ true)
  either_off true b off = absurd (true≢false (sym off))
  either_off false b off = (refl, off)

  with_nothing : (a : Bool) → a ≡ true → (a && true) ≡ true
  with_nothing true is = refl
  with_nothing false is = is

  right_carries : (guards : List SlotId) (x : SlotId) (s : Right) → right_influences passed r (around guards) x s ≡ true
      → (around guards ≡ true → right_flows reached x s ≡ true) × (around guards ≡ false → (not (r.slots x.0) && right_hides reached x s) ≡ true)
  right_carries guards x (Lit n) c = (λ is. refl, λ off. with_nothing (not (r.slots x.0)) (out_alone (r.slots x.0) (around guards) off c))
  right_carries guards x Turn c = (λ is. refl, λ off. with_nothing (not (r.slots x.0)) (out_alone (r.slots x.0) (around guards) off c))
  right_carries guards x (Copy y) c = (λ is. asked (r.slots x.0) (around guards) (r.slots y.0) c, λ off. with_nothing (not (r.slots x.0)) (out_of (r.slots x.0) (around guards) (r.slots y.0) off c))
  right_carries guards x (Apply op ys) c = (λ is. asked (r.slots x.0) (around guards) (list_all (λ y. r.slots y.0) ys) c, λ off. with_nothing (not (r.slots x.0)) (out_of (r.slots x.0) (around guards) (list_all (λ y. r.slots y.0) ys) off c))
  right_carries guards x (Input host) c =
      let parts = and_parts (only_with (r.slots x.0) (r.hosts host.0)) (only_with (r.hosts host.0 || r.slots x.0) (around guards)) c in (
        λ is. parts.0,
        λ off.
            let both = either_off (r.hosts host.0) (r.slots x.0) (out_alone (r.hosts host.0 || r.slots x.0) (around guards) off parts.1) in
            and_of (not (r.slots x.0)) (not (r.hosts host.0)) both.1 both.0,
      )
  right_carries guards x (Declassify y to) c =
      (λ is. and_of (only_with (r.slots x.0) (r.slots y.0)) true (asked (r.slots x.0) (around guards) (r.slots y.0) c) refl, λ off. with_nothing (not (r.slots x.0)) (out_of (r.slots x.0) (around guards) (r.slots y.0) off c))
  right_carries guards x (Endorse y to) c = (
    λ is.
        and_of (only_with (r.slots x.0) (cut passed r x.0 y.0 || r.slots y.0)) true
        (endorsed_or_kept (r.slots x.0) passed (r.slots y.0) (asked (r.slots x.0) (around guards) (only_with passed (r.slots y.0)) c)) refl,
    λ off.
        let out = out_of (r.slots x.0) (around guards) (only_with passed (r.slots y.0)) off c in
        and_of (not (r.slots x.0)) (not (cut passed r x.0 y.0) && true) out (with_nothing (not (cut passed r x.0 y.0)) (not_cut passed (r.slots x.0) out)),
  )
  right_carries guards x (Load v) c = (λ is. asked (r.slots x.0) (around guards) (r.slots v.0) c, λ off. with_nothing (not (r.slots x.0)) (out_of (r.slots x.0) (around guards) (r.slots v.0) off c))
  right_carries guards x (Get v i) c =
      (λ is. asked (r.slots x.0) (around guards) (r.slots v.0 && r.slots i.0) c, λ off. with_nothing (not (r.slots x.0)) (out_of (r.slots x.0) (around guards) (r.slots v.0 && r.slots i.0) off c))

  abbrev block_flow : List Flow → Flow
  block_flow fs = record { flows = all_flow fs; hides = all_hide fs }

  more_carry : (f : Flow) (fs : List Flow) (c : Closing) (cs : List Closing) → Carries f c → Carries (block_flow fs) (all_close cs) → Carries (block_flow (f ∷ fs)) (all_close (c ∷ cs))
  more_carry f fs c cs one rest guards closed =
      let parts = and_parts (c guards) (all_close cs guards) closed in
      let a = one guards parts.0 in
      let b = rest guards parts.1 in
      (λ is. and_of f.flows (all_flow fs) (a.0 is) (b.0 is), λ off. and_of f.hides (all_hide fs) (a.1 off) (b.1 off))

  abbrev M : Type 0
  M = (s : Stmt) × Carries (flow reached s) (influences passed h r s)

  abbrev statements : List M → List Stmt
  statements = map {B = Stmt} (λ (m : M). m.0)

  abbrev layer : Stmt-F M → Stmt-F Stmt
  layer = map-Stmt M Stmt (λ m. m.0)

  abbrev BlockCarries : List Stmt → Type 0
  BlockCarries body = Carries (block_flow (map (flow reached) body)) (all_close (map (influences passed h r) body))

  all_carry : (ms : List M) → BlockCarries (statements ms)
  all_carry [] = λ guards c. (λ is. refl, λ off. refl)
  all_carry (m ∷ ms) = more_carry (flow reached m.0) (map (flow reached) (statements ms)) (influences passed h r m.0) (map (influences passed h r) (statements ms)) m.1 (all_carry ms)

  if_carries : (g : SlotId) (offset : ℕ) (fs gs : List Flow) (cs ds : List Closing) → Carries (block_flow fs) (all_close cs) → Carries (block_flow gs) (all_close ds)
      → Carries (flow_step reached (Stmt-F.If g fs gs offset)) (stmt_influences passed h r (Stmt-F.If g cs ds offset))
  if_carries g offset fs gs cs ds first second guards closed =
      let parts = and_parts (all_close cs (g ∷ guards)) (all_close ds (g ∷ guards)) closed in
      let a = first (g ∷ guards) parts.0 in
      let b = second (g ∷ guards) parts.1 in
      let hide : (r.slots g.0 && around guards) ≡ false → (all_hide fs && all_hide gs) ≡ true = λ off. and_of (all_hide fs) (all_hide gs) (a.1 off) (b.1 off) in
      let flowing : (r.slots g.0 && around guards) ≡ true → (all_flow fs && all_flow gs) ≡ true = λ is. and_of (all_flow fs) (all_flow gs) (a.0 is) (b.0 is) in
      (λ is. by (r.slots g.0) refl is, λ off. hide (no_both (r.slots g.0) (around guards) off))
    where
      no_both : (a b : Bool) → b ≡ false → (a && b) ≡ false
      no_both true b off = off
      no_both false b off = refl

      by : (b : Bool) → r.slots g.0 ≡ b → around guards ≡ true → (if b then all_flow fs && all_flow gs else all_hide fs && all_hide gs) ≡ true
      by true here is =
          let parts = and_parts (all_close cs (g ∷ guards)) (all_close ds (g ∷ guards)) closed in
          let both = and_of (r.slots g.0) (around guards) here is in
          and_of (all_flow fs) (all_flow gs) ((first (g ∷ guards) parts.0).0 both) ((second (g ∷ guards) parts.1).0 both)
      by false here is =
          let parts = and_parts (all_close cs (g ∷ guards)) (all_close ds (g ∷ guards)) closed in
          let off : (r.slots g.0 && around guards) ≡ false = rw here refl in
          and_of (all_hide fs) (all_hide gs) ((first (g ∷ guards) parts.0).1 off) ((second (g ∷ guards) parts.1).1 off)

  step : (y : Stmt-F M) → Carries (flow_step reached (map-Stmt Stmt Flow (flow reached) (layer y))) (stmt_influences passed h r (map-Stmt Stmt Closing (influences passed h r) (layer y)))
  step (Stmt-F.Let x s) = λ guards c. right_carries guards x s c
  step (Stmt-F.NewVar v y) = λ guards c. (λ is. asked (r.slots v.0) (around guards) (r.slots y.0) c, λ off. out_of (r.slots v.0) (around guards) (r.slots y.0) off c)
  step (Stmt-F.NewArray v size) = λ guards c. (λ is. refl, λ off. out_alone (r.slots v.0) (around guards) off c)
  step (Stmt-F.Store v y) = λ guards c. (λ is. asked (r.slots v.0) (around guards) (r.slots y.0) c, λ off. out_of (r.slots v.0) (around guards) (r.slots y.0) off c)
  step (Stmt-F.Put v i y) = λ guards c. (λ is. asked (r.slots v.0) (around guards) (r.slots i.0 && r.slots y.0) c, λ off. out_of (r.slots v.0) (around guards) (r.slots i.0 && r.slots y.0) off c)
  step (Stmt-F.Output y host offset) = λ guards c. (λ is. asked (nat_eq host.0 h) (around guards) (r.slots y.0) c, λ off. out_of (nat_eq host.0 h) (around guards) (r.slots y.0) off c)
  step (Stmt-F.If g a b offset) =
      if_carries g offset (map (flow reached) (statements a)) (map (flow reached) (statements b)) (map (influences passed h r) (statements a)) (map (influences passed h r) (statements b)) (all_carry a) (all_carry b)
  step (Stmt-F.For count body) = all_carry body

  stmt_carries : (s : Stmt) → Carries (flow reached s) (influences passed h r s)
  stmt_carries = ind-Stmt (λ s. Carries (flow reached s) (influences passed h r s)) (λ x y is. subst (λ z. Carries (flow reached (roll-Stmt z)) (influences passed h r (roll-Stmt z))) is (at_roll y))
    where
      at_roll : (y : Stmt-F M) → Carries (flow reached (roll-Stmt (layer y))) (influences passed h r (roll-Stmt (layer y)))
      at_roll y = rw (fold-roll-Stmt Flow (flow_step reached) (layer y), fold-roll-Stmt Closing (stmt_influences passed h r) (layer y)) (step y)

  pub body_carries : (body : List Stmt) → BlockCarries body
  body_carries [] = λ guards c. (λ is. refl, λ off. refl)
  body_carries (s ∷ body) = more_carry (flow reached s) (map (flow reached) body) (influences passed h r s) (map (influences passed h r) body) (stmt_carries s) (body_carries body)

closed_tells : (passed : Bool) (p : NormalForm) (h : HostId) (r : Reach) → IsClosed passed p h r → (first second : List (List ℕ)) → SameInputs r.hosts first second
    → endorsed_words p (cut passed r) first ≡ endorsed_words p (cut passed r) second → outputs_to p h first ≡ outputs_to p h second
closed_tells passed p h r closed first second inputs endorsed =
    let k = reached passed h.0 r in
    let flows = (body_carries passed h.0 r p.body [] closed).0 refl in
    outputs_same p k flows (λ s. []) first second inputs endorsed h (eq-eqb h.0 h.0 refl)

pub influences_are_enough : (passed : Bool) (p : NormalForm) (h : HostId) (hosts : ℕ → Bool) → AreInfluences passed p h hosts → AreEnoughToTell passed p h hosts
influences_are_enough passed p h hosts are r is first second inputs endorsed =
    closed_tells passed p h r is.closed first second (λ k in_r. inputs k (are.same k ∙ (is.least are.reach are.influence.closed).hosts k in_r)) endorsed

same_if : (a b : Bool) → (a ≡ true → b ≡ true) → (b ≡ true → a ≡ true) → a ≡ b
same_if true b there back = sym (there refl)
same_if false true there back = back refl
same_if false false there back = refl

pub influences_are_single : (passed : Bool) (p : NormalForm) (h : HostId) (hosts others : ℕ → Bool) → AreInfluences passed p h hosts → AreInfluences passed p h others → (k : ℕ) → hosts k ≡ others k
influences_are_single passed p h hosts others are those k =
    let there = (are.influence.least those.reach those.influence.closed).hosts k in
    let back = (those.influence.least are.reach are.influence.closed).hosts k in
    same_if (hosts k) (others k) (λ is. those.same k ∙ there (sym (are.same k) ∙ is)) (λ is. are.same k ∙ back (sym (those.same k) ∙ is))
