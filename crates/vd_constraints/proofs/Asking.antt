-- As many origins stand beside a system as it has checks.
use Rattle.std.proofs.Common.{◌≡◌, ℕ, ◌+◌, ◌≤◌, true, ltb, get_or, List, [], ◌∷◌, ◌++◌, Option, Some, None, Result, Ok, Err, length, map, slice_get, refl, sym, ap, ◌∙◌, subst, subst₂, arith, length-append}
use Rattle.std.specs.Prelude.{IfOk}
use Rattle.std.proofs.lemmas.Bool.{ltb-true}
use Rattle.std.proofs.lemmas.List.{append-nil}
use Rattle.std.proofs.lemmas.Option.{slice_get_read, slice_get_past}
use Rattle.std.specs.Option.{option_and_then, option_map, option_map_or}
use Rattle.vd_base.specs.declared.ids.SlotId.{SlotId}
use Rattle.vd_core.specs.declared.normal.Right.{Right}
use Rattle.vd_core.specs.declared.normal.Right.TheVariants.{Lit, Turn, Copy, Apply, Input, Declassify, Endorse, Load, Get}
use Rattle.vd_core.specs.declared.normal.NormalForm.{NormalForm}
use Rattle.vd_core.specs.declared.normal.Slot as made
use Rattle.vd_core.specs.declared.normal.Written.{Written}
use Rattle.vd_core.specs.declared.normal.Stmt.{Stmt, roll-Stmt, map-Stmt, ind-Stmt}
use Rattle.vd_core.specs.declared.normal.Stmt.TheOpen.{Stmt-F}
use Rattle.vd_core.specs.declared.normal.Stmt.TheFolds.{fold-roll-Stmt}
use Rattle.vd_constraints.specs.declared.origin.Origin.{Origin}
use Rattle.vd_constraints.specs.declared.rules.Collected.{Collected}
use Rattle.vd_constraints.specs.declared.system.Place.{Place}
use Rattle.vd_constraints.specs.declared.system.Place.TheVariants.{Slot, Block}
use Rattle.vd_constraints.specs.declared.system.Check.{Check}
use Rattle.vd_constraints.specs.Systems.{Constraints}
use Rattle.vd_constraints.specs.Rules.{label, right_rules, right_checks, offset_of, with_rules, with_branch, with_right, with_optional, with_written, with_stored, with_flow, stmt_step, with_stmt, with_body, at_start, system_of}
use Rattle.vd_constraints.specs.Origins.{right_origins, label_origins, slot_origins, origins_step, stmt_origins, body_origins, origins_of}
use Rattle.vd_constraints.proofs.Growth.{Step}

module _ (p : NormalForm) where
  right_lengths : (pc : Place) (x : SlotId) (r : Right) → length (right_checks p pc x r) ≡ length (right_origins r)
  right_lengths pc x (Lit n) = refl
  right_lengths pc x Turn = refl
  right_lengths pc x (Copy y) = refl
  right_lengths pc x (Load v) = refl
  right_lengths pc x (Apply o ys) = refl
  right_lengths pc x (Get v i) = refl
  right_lengths pc x (Input h) = refl
  right_lengths pc x (Declassify y to) = refl
  right_lengths pc x (Endorse y to) = refl

  right_many : (pc : Place) (x : SlotId) (r : Right) (s : Constraints) → length (with_right p pc x r s).checks ≡ length s.checks + length (right_origins r)
  right_many pc x r s =
      let same = right_lengths pc x r in
      let joined = length-append s.checks (right_checks p pc x r) in
      omega arith

  -- the label that is written at a slot
  label_many : (x : Place) (offset : ℕ) (s : Constraints) (written : Option Written) → length (with_optional (option_map (label p) written) x offset s).checks ≡ length s.checks + length (label_origins written)
  label_many x offset s None = omega arith
  label_many x offset s (Some written) = omega (arith, length-append {A = Check})

  slot_many : (x : Place) (offset : ℕ) (s : Constraints) (slot : Option made.Slot)
      → length (with_optional (option_and_then (λ (slot : made.Slot). option_map (label p) slot.label) slot) x offset s).checks
      ≡ length s.checks + length (option_map_or (λ (slot : made.Slot). label_origins slot.label) slot [])
  slot_many x offset s None = omega arith
  slot_many x offset s (Some slot) = label_many x offset s slot.label

  written_many : (x : SlotId) (s : Constraints) → length (with_written p x s).checks ≡ length s.checks + length (slot_origins p x)
  written_many x s = slot_many (Slot x) (offset_of p x) s (slice_get p.slots x.0)

  -- ---- statements
  abbrev Many : Step → List Origin → Type 0
  Many f origins = (pc : Place) (s : Constraints) → length (f p pc s).checks ≡ length s.checks + length origins

  abbrev M : Type 0
  M = (s : Stmt) × Many (with_stmt s) (stmt_origins p s)

  abbrev layer : Stmt-F M → Stmt-F Stmt
  layer = map-Stmt M Stmt (λ m. m.0)

  abbrev statements : List M → List Stmt
  statements = map {B = Stmt} (λ (m : M). m.0)

  all : (ms : List M) → Many (with_body (statements ms)) (body_origins p (statements ms))
  all [] pc s = omega arith
  all (m ∷ ms) pc s =
      let one = m.1 pc s in
      let rest = all ms pc (with_stmt m.0 p pc s) in
      let joined = length-append (stmt_origins p m.0) (body_origins p (statements ms)) in
      omega arith

  step : (y : Stmt-F M) → Many (stmt_step (map-Stmt Stmt Step with_stmt (layer y))) (origins_step p (map-Stmt Stmt (List Origin) (stmt_origins p) (layer y)))
  step (Stmt-F.Let x r) pc s =
      let one = right_many pc x r s in
      let two = written_many x (with_right p pc x r s) in
      let joined = length-append (right_origins r) (slot_origins p x) in
      omega arith
  step (Stmt-F.NewVar v y) pc s = written_many v (with_stored pc v y s)
  step (Stmt-F.NewArray v cells) pc s = written_many v (with_flow pc (Slot v) s)
  step (Stmt-F.Store v y) pc s = omega arith
  step (Stmt-F.Put v i y) pc s = omega arith
  step (Stmt-F.Output y h offset) pc s = omega (arith, length-append {A = Check})
  step (Stmt-F.If y a b offset) pc s =
      let t = with_branch (Slot y) pc s in
      let one = all a (Block s.blocks) t in
      let two = all b (Block s.blocks) (with_body (statements a) p (Block s.blocks) t) in
      let joined = length-append (body_origins p (statements a)) (body_origins p (statements b)) in
      omega arith
  step (Stmt-F.For count body) pc s = all body pc s

  at_roll : (y : Stmt-F M) → Many (with_stmt (roll-Stmt (layer y))) (stmt_origins p (roll-Stmt (layer y)))
  at_roll y = subst₂ Many (sym (fold-roll-Stmt Step stmt_step (layer y))) (sym (fold-roll-Stmt (List Origin) (origins_step p) (layer y))) (step y)

  many : (s : Stmt) → Many (with_stmt s) (stmt_origins p s)
  many = ind-Stmt (λ s. Many (with_stmt s) (stmt_origins p s)) (λ x y is. subst (λ z. Many (with_stmt (roll-Stmt z)) (stmt_origins p (roll-Stmt z))) is (at_roll y))

  body_many : (body : List Stmt) → Many (with_body body) (body_origins p body)
  body_many [] pc s = omega arith
  body_many (x ∷ body) pc s =
      let one = many x pc s in
      let rest = body_many body pc (with_stmt x p pc s) in
      let joined = length-append (stmt_origins p x) (body_origins p body) in
      omega arith

pub as_many_origins : (p : NormalForm) → length (origins_of p) ≡ length (system_of p).checks
as_many_origins p = let all = body_many p p.body (Block 0) (at_start p) in omega arith

pub collected_as_many : {E : Type 0} (p : NormalForm) (r : Result Collected E) → IfOk r (λ collected. collected.system ≡ system_of p) → IfOk r (λ collected. collected.origins ≡ origins_of p)
    → IfOk r (λ collected. length collected.origins ≡ length collected.system.checks)
collected_as_many p (Ok collected) system origins = ap (λ (xs : List Origin). length xs) origins ∙ as_many_origins p ∙ ap (λ (s : Constraints). length s.checks) (sym system)
collected_as_many p (Err fault) system origins = tt

-- nothing asks
pub none_asks : (before more : List Origin) → more ≡ [] → before ≡ before ++ more
none_asks before more none = sym (append-nil before) ∙ ap (λ xs. before ++ xs) (sym none)

-- what is read of the slots of a program, at a number
module _ (p : NormalForm) (x : SlotId) (slots : List made.Slot) (same : slots ≡ p.slots) (i : ℕ) (at : i ≡ x.0) where
  abbrev asked : Option made.Slot → List Origin
  asked slot = option_map_or (λ (slot : made.Slot). label_origins slot.label) slot []

  read_here : slot_origins p x ≡ asked (slice_get slots i)
  read_here = ap (λ k. asked (slice_get p.slots k)) (sym at) ∙ ap (λ (xs : List made.Slot). asked (slice_get xs i)) (sym same)

  -- there is no such slot, or no label is written there
  pub no_slot_asks : length slots ≤ i → slot_origins p x ≡ []
  no_slot_asks past = read_here ∙ ap asked (slice_get_past slots i past)

  pub no_label_asks : (slot : made.Slot) → true ≡ ltb i (length slots) → slot ≡ get_or slots i slot → slot.label ≡ None → slot_origins p x ≡ []
  no_label_asks slot low read none = read_here ∙ ap asked (slice_get_read slots (length slots) i slot refl (ltb-true i (length slots) (sym low)) read) ∙ ap label_origins none
