-- Each check of a program is one that its origin asks for, statement by statement.
use Rattle.std.proofs.Common.{◌≡◌, ℕ, List, [], ◌∷◌, ◌++◌, Option, Some, None, map, slice_get, refl, sym, subst, subst₂, append_assoc}
use Rattle.std.proofs.lemmas.List.{append-nil}
use Rattle.std.specs.Option.{option_and_then, option_map, option_map_or}
use Rattle.vd_base.specs.declared.ids.SlotId.{SlotId}
use Rattle.vd_core.specs.declared.normal.Right.{Right}
use Rattle.vd_core.specs.declared.normal.Right.TheVariants.{Lit, Turn, Copy, Apply, Input, Declassify, Endorse, Load, Get}
use Rattle.vd_core.specs.declared.normal.NormalForm.{NormalForm}
use Rattle.vd_core.specs.declared.normal.Slot as made
use Rattle.vd_core.specs.declared.normal.Written.{Written}
use Rattle.vd_core.specs.declared.normal.Stmt.{Stmt, roll-Stmt, map-Stmt, ind-Stmt}
use Rattle.vd_core.specs.declared.normal.Stmt.TheOpen.{Stmt-F}
use Rattle.vd_core.specs.declared.normal.Stmt.TheFolds.{fold-roll-Stmt}
use Rattle.vd_constraints.specs.declared.origin.Origin.{Origin}
use Rattle.vd_constraints.specs.declared.system.Place.{Place}
use Rattle.vd_constraints.specs.declared.system.Place.TheVariants.{Slot, Block}
use Rattle.vd_constraints.specs.declared.system.Check.{Check}
use Rattle.vd_constraints.specs.Systems.{Constraints}
use Rattle.vd_constraints.specs.Rules.{label, host_label, right_checks, output_checks, written_checks, offset_of, written_at, with_branch, with_right, with_optional, with_written, with_stored, with_flow, stmt_step, with_stmt, with_body, at_start}
use Rattle.vd_constraints.specs.Origins.{right_origins, label_origins, slot_origins, origins_step, stmt_origins, body_origins}
use Rattle.vd_constraints.specs.Asking.{AskFor, ChecksAreAskedFor}

abbrev Step : Type 0
Step = NormalForm → Place → Constraints → Constraints

module _ (p : NormalForm) where
  joined : (os : List Origin) (cs : List Check) → AskFor p os cs → (more : List Origin) (new : List Check) → AskFor p more new → AskFor p (os ++ more) (cs ++ new)
  joined [] [] a more new b = b
  joined [] (c ∷ cs) a more new b = absurd a
  joined (o ∷ os) [] a more new b = absurd a
  joined (o ∷ os) (c ∷ cs) a more new b = (a.0, joined os cs a.1 more new b)

  none_more : (os : List Origin) (cs : List Check) → AskFor p os cs → AskFor p (os ++ []) cs
  none_more os cs a = subst (λ (xs : List Origin). AskFor p xs cs) (sym (append-nil os)) a

  regrouped : (os first second : List Origin) (cs : List Check) → AskFor p ((os ++ first) ++ second) cs → AskFor p (os ++ (first ++ second)) cs
  regrouped os first second cs a = subst (λ (xs : List Origin). AskFor p xs cs) (append_assoc os first second) a

  -- ---- right sides

  right_ask : (b : ℕ) (x : SlotId) (r : Right) → AskFor p (right_origins r) (right_checks p (Block b) x r)
  right_ask b x (Lit n) = tt
  right_ask b x Turn = tt
  right_ask b x (Copy y) = tt
  right_ask b x (Load v) = tt
  right_ask b x (Apply o ys) = tt
  right_ask b x (Get v i) = tt
  right_ask b x (Input h) = (record { of_slot = record { slot = x; part_is = refl }; constant_is = refl }, (record { block = b; part_is = refl; constant_is = refl }, tt))
  right_ask b x (Declassify y to) = tt
  right_ask b x (Endorse y to) = (record { slot = x; part_is = refl }, tt)

  -- ---- the label that is written at a slot

  label_asks : (x : SlotId) (offset : ℕ) (s : Constraints) (os : List Origin) → AskFor p os s.checks → (written : Option Written) → written_at p x ≡ option_map (label p) written
      → AskFor p (os ++ label_origins written) (with_optional (option_map (label p) written) (Slot x) offset s).checks
  label_asks x offset s os a None e = none_more os s.checks a
  label_asks x offset s os a (Some w) e =
      joined os s.checks a (label_origins (Some w)) (written_checks (label p w) (Slot x) offset) (
        record { of_slot = record { slot = x; part_is = refl }; written = label p w; written_is = e; constant_is = refl },
        (record { of_slot = record { slot = x; part_is = refl }; written = label p w; written_is = e; constant_is = refl }, tt),
      )

  slot_asks : (x : SlotId) (offset : ℕ) (s : Constraints) (os : List Origin) → AskFor p os s.checks → (slot : Option made.Slot)
      → written_at p x ≡ option_and_then (λ (slot : made.Slot). option_map (label p) slot.label) slot
      → AskFor p (os ++ option_map_or (λ (slot : made.Slot). label_origins slot.label) slot []) (with_optional (option_and_then (λ (slot : made.Slot). option_map (label p) slot.label) slot) (Slot x) offset s).checks
  slot_asks x offset s os a None e = none_more os s.checks a
  slot_asks x offset s os a (Some slot) e = label_asks x offset s os a slot.label e

  written_asks : (x : SlotId) (s : Constraints) (os : List Origin) → AskFor p os s.checks → AskFor p (os ++ slot_origins p x) (with_written p x s).checks
  written_asks x s os a = slot_asks x (offset_of p x) s os a (slice_get p.slots x.0) refl

  -- ---- statements

  -- what a step adds is asked for by these, in any block
  abbrev Asks : Step → List Origin → Type 0
  Asks f origins = (b : ℕ) (s : Constraints) (os : List Origin) → AskFor p os s.checks → AskFor p (os ++ origins) (f p (Block b) s).checks

  abbrev M : Type 0
  M = (s : Stmt) × Asks (with_stmt s) (stmt_origins p s)

  abbrev layer : Stmt-F M → Stmt-F Stmt
  layer = map-Stmt M Stmt (λ m. m.0)

  abbrev statements : List M → List Stmt
  statements = map {B = Stmt} (λ (m : M). m.0)

  all : (ms : List M) → Asks (with_body (statements ms)) (body_origins p (statements ms))
  all [] b s os a = none_more os s.checks a
  all (m ∷ ms) b s os a =
      let one = m.1 b s os a in
      let rest = all ms b (with_stmt m.0 p (Block b) s) (os ++ stmt_origins p m.0) one in
      regrouped os (stmt_origins p m.0) (body_origins p (statements ms)) (with_body (statements ms) p (Block b) (with_stmt m.0 p (Block b) s)).checks rest

  step : (y : Stmt-F M) → Asks (stmt_step (map-Stmt Stmt Step with_stmt (layer y))) (origins_step p (map-Stmt Stmt (List Origin) (stmt_origins p) (layer y)))
  step (Stmt-F.Let x r) b s os a =
      let one = joined os s.checks a (right_origins r) (right_checks p (Block b) x r) (right_ask b x r) in
      let two = written_asks x (with_right p (Block b) x r s) (os ++ right_origins r) one in
      regrouped os (right_origins r) (slot_origins p x) (with_written p x (with_right p (Block b) x r s)).checks two
  step (Stmt-F.NewVar v y) b s os a = written_asks v (with_stored (Block b) v y s) os a
  step (Stmt-F.NewArray v cells) b s os a = written_asks v (with_flow (Block b) (Slot v) s) os a
  step (Stmt-F.Store v y) b s os a = none_more os s.checks a
  step (Stmt-F.Put v i y) b s os a = none_more os s.checks a
  step (Stmt-F.Output y h offset) b s os a =
      joined os s.checks a (origins_step p (Stmt-F.Output y h offset)) (output_checks (host_label p h) (Block b) (Slot y) offset) (
        record { of_slot = record { slot = y; part_is = refl }; constant_is = refl },
        (record { block = b; part_is = refl; constant_is = refl }, tt),
      )
  step (Stmt-F.If y then_block else_block offset) b s os a =
      let t = with_branch (Slot y) (Block b) s in
      let between = with_body (statements then_block) p (Block s.blocks) t in
      let one = all then_block s.blocks t os a in
      let two = all else_block s.blocks between (os ++ body_origins p (statements then_block)) one in
      regrouped os (body_origins p (statements then_block)) (body_origins p (statements else_block)) (with_body (statements else_block) p (Block s.blocks) between).checks two
  step (Stmt-F.For count body) b s os a = all body b s os a

  at_roll : (y : Stmt-F M) → Asks (with_stmt (roll-Stmt (layer y))) (stmt_origins p (roll-Stmt (layer y)))
  at_roll y = subst₂ Asks (sym (fold-roll-Stmt Step stmt_step (layer y))) (sym (fold-roll-Stmt (List Origin) (origins_step p) (layer y))) (step y)

  stmt_asks : (s : Stmt) → Asks (with_stmt s) (stmt_origins p s)
  stmt_asks = ind-Stmt (λ s. Asks (with_stmt s) (stmt_origins p s)) (λ x y is. subst (λ z. Asks (with_stmt (roll-Stmt z)) (stmt_origins p (roll-Stmt z))) is (at_roll y))

  body_asks : (body : List Stmt) → Asks (with_body body) (body_origins p body)
  body_asks [] b s os a = none_more os s.checks a
  body_asks (x ∷ body) b s os a =
      let one = stmt_asks x b s os a in
      let rest = body_asks body b (with_stmt x p (Block b) s) (os ++ stmt_origins p x) one in
      regrouped os (stmt_origins p x) (body_origins p body) (with_body body p (Block b) (with_stmt x p (Block b) s)).checks rest

pub are_asked_for : ChecksAreAskedFor
are_asked_for p = body_asks p p.body 0 (at_start p) [] tt
