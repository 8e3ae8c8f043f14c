-- What statements that name declared slots ask fits, one after another.
use Rattle.std.proofs.Common.{◌≡◌, ◌<◌, ◌≤◌, Bool, true, ◌&&◌, List, [], ◌∷◌, ◌++◌, map, length, sym, subst, subst₂, arith}
use Rattle.std.proofs.lemmas.Bool.{and_parts}
use Rattle.std.proofs.lemmas.List.Elements.{All-append}
use Rattle.vd_base.specs.Limits.{most_principals}
use Rattle.vd_base.specs.declared.ids.SlotId.{SlotId}
use Rattle.vd_core.specs.declared.normal.NormalForm.{NormalForm}
use Rattle.vd_core.specs.declared.normal.Stmt.{Stmt, roll-Stmt, map-Stmt, ind-Stmt}
use Rattle.vd_core.specs.declared.normal.Stmt.TheOpen.{Stmt-F}
use Rattle.vd_core.specs.declared.normal.Stmt.TheFolds.{fold-roll-Stmt}
use Rattle.vd_constraints.specs.declared.system.Place.{Place}
use Rattle.vd_constraints.specs.declared.system.Place.TheVariants.{Slot, Block}
use Rattle.vd_constraints.specs.Systems.{Constraints, IsPlaceIn, IsRuleIn}
use Rattle.vd_constraints.specs.Rules.{flows, host_label, output_rules, output_checks, with_block, with_branch, with_flow, with_right, with_stored, with_written, stmt_step, with_stmt, with_body}
use Rattle.vd_constraints.specs.Scoped.{is_below, right_below, stmt_below, slots_below, block_below}
use Rattle.vd_constraints.proofs.Front.{fit_flows, fit_output_rules, fit_output_checks, Step, more_places}
use Rattle.vd_cmd_labels.proofs.Authorities.{host_over}
use Rattle.vd_cmd_labels.proofs.Fitting.{Fits, Grown, unchanged, after, rules_fit, both_fit, block_fits}
use Rattle.vd_cmd_labels.proofs.Rights.{low, two_flows, right_fits, written_fits}

module _ (p : NormalForm) (few : length p.principals ≤ most_principals) where
  -- of whether what a step names is declared, and of the step
  abbrev Keeps : Bool → Step → Type 0
  Keeps below f = below ≡ true → (pc : Place) (s : Constraints) → Fits p s → IsPlaceIn (length p.slots) s.blocks pc → Grown p s (f p pc s)

  -- a place stays one
  stays : (s t : Constraints) (at : Place) → Grown p s t → IsPlaceIn (length p.slots) s.blocks at → IsPlaceIn (length p.slots) t.blocks at
  stays s t at grown = more_places (length p.principals) (length p.slots) s.blocks t.blocks grown.blocks at

  stored_fits : (pc : Place) (v y : SlotId) (s : Constraints) → Fits p s → IsPlaceIn (length p.slots) s.blocks pc → v.0 < length p.slots → y.0 < length p.slots → Grown p s (with_stored pc v y s)
  stored_fits pc v y s fits is_pc is_v is_y = rules_fit p (flows (Slot y) (Slot v) ++ flows pc (Slot v)) s fits (two_flows p few s.blocks (Slot y) (Slot v) pc (Slot v) is_y is_v is_pc is_v)

  branch_fits : (guard pc : Place) (s : Constraints) → Fits p s → IsPlaceIn (length p.slots) s.blocks guard → IsPlaceIn (length p.slots) s.blocks pc → Grown p s (with_branch guard pc s)
  branch_fits guard pc s fits is_guard is_pc =
      let block = block_fits p s fits in
      let t = with_block s in
      let branch : s.blocks < t.blocks = omega arith in
      after p s t (with_branch guard pc s) block
      (rules_fit p (flows guard (Block s.blocks) ++ flows pc (Block s.blocks)) t block.fits
      (two_flows p few t.blocks guard (Block s.blocks) pc (Block s.blocks) (stays s t guard block is_guard) branch (stays s t pc block is_pc) branch))

  abbrev M : Type 0
  M = (s : Stmt) × Keeps (slots_below (length p.slots) s) (with_stmt s)

  abbrev statements : List M → List Stmt
  statements = map {B = Stmt} (λ (m : M). m.0)

  abbrev layer : Stmt-F M → Stmt-F Stmt
  layer = map-Stmt M Stmt (λ m. m.0)

  then_keeps : (first rest : Step) (below others : Bool) → Keeps below first → Keeps others rest → Keeps (below && others) (λ p pc s. rest p pc (first p pc s))
  then_keeps first rest below others one two named pc s fits is_pc =
      let parts = and_parts below others named in
      let t = first p pc s in
      let begun = one parts.0 pc s fits is_pc in
      after p s t (rest p pc t) begun (two parts.1 pc t begun.fits (stays s t pc begun is_pc))

  -- statements of a block
  all_keep : (ms : List M) → Keeps (block_below (length p.slots) (statements ms)) (with_body (statements ms))
  all_keep [] named pc s fits is_pc = unchanged p s fits
  all_keep (m ∷ ms) named pc s fits is_pc = then_keeps (with_stmt m.0) (with_body (statements ms)) (slots_below (length p.slots) m.0) (block_below (length p.slots) (statements ms)) m.1 (all_keep ms) named pc s fits is_pc

  step : (y : Stmt-F M) → Keeps (stmt_below (length p.slots) (map-Stmt Stmt Bool (slots_below (length p.slots)) (layer y))) (stmt_step (map-Stmt Stmt Step with_stmt (layer y)))
  step (Stmt-F.Let x r) named pc s fits is_pc =
      let parts = and_parts (is_below (length p.slots) x) (right_below (length p.slots) r) named in
      let is_x = low (length p.slots) x parts.0 in
      let t = with_right p pc x r s in
      let right = right_fits p few pc x r s fits is_pc is_x parts.1 in
      after p s t (with_written p x t) right (written_fits p few x t right.fits is_x)
  step (Stmt-F.NewVar v y) named pc s fits is_pc =
      let parts = and_parts (is_below (length p.slots) v) (is_below (length p.slots) y) named in
      let is_v = low (length p.slots) v parts.0 in
      let t = with_stored pc v y s in
      let stored = stored_fits pc v y s fits is_pc is_v (low (length p.slots) y parts.1) in
      after p s t (with_written p v t) stored (written_fits p few v t stored.fits is_v)
  step (Stmt-F.NewArray v cells) named pc s fits is_pc =
      let is_v = low (length p.slots) v named in
      let t = with_flow pc (Slot v) s in
      let flow = rules_fit p (flows pc (Slot v)) s fits (fit_flows (length p.principals) (length p.slots) s.blocks pc (Slot v) is_pc is_v) in
      after p s t (with_written p v t) flow (written_fits p few v t flow.fits is_v)
  step (Stmt-F.Store v y) named pc s fits is_pc =
      let parts = and_parts (is_below (length p.slots) v) (is_below (length p.slots) y) named in
      stored_fits pc v y s fits is_pc (low (length p.slots) v parts.0) (low (length p.slots) y parts.1)
  step (Stmt-F.Put v i y) named pc s fits is_pc =
      let parts = and_parts (is_below (length p.slots) v && is_below (length p.slots) i) (is_below (length p.slots) y) named in
      let front = and_parts (is_below (length p.slots) v) (is_below (length p.slots) i) parts.0 in
      let is_v = low (length p.slots) v front.0 in
      rules_fit p (flows (Slot y) (Slot v) ++ flows (Slot i) (Slot v) ++ flows pc (Slot v)) s fits
      (All-append (IsRuleIn (length p.principals) (length p.slots) s.blocks) (flows (Slot y) (Slot v) ++ flows (Slot i) (Slot v)) (flows pc (Slot v))
      (two_flows p few s.blocks (Slot y) (Slot v) (Slot i) (Slot v) (low (length p.slots) y parts.1) is_v (low (length p.slots) i front.1) is_v)
      (fit_flows (length p.principals) (length p.slots) s.blocks pc (Slot v) is_pc is_v))
  step (Stmt-F.Output y h offset) named pc s fits is_pc =
      let is_y = low (length p.slots) y named in
      both_fit p (output_rules (host_label p h) pc (Slot y)) (output_checks (host_label p h) pc (Slot y) offset) s fits
      (fit_output_rules (length p.principals) (length p.slots) s.blocks (host_label p h) pc (Slot y) (host_over p few h) is_pc is_y)
      (fit_output_checks (length p.principals) (length p.slots) s.blocks (host_label p h) pc (Slot y) (host_over p few h) is_pc is_y offset)
  step (Stmt-F.If y a b offset) named pc s fits is_pc =
      let parts = and_parts (is_below (length p.slots) y && block_below (length p.slots) (statements a)) (block_below (length p.slots) (statements b)) named in
      let front = and_parts (is_below (length p.slots) y) (block_below (length p.slots) (statements a)) parts.0 in
      let t = with_branch (Slot y) pc s in
      let u = with_body (statements a) p (Block s.blocks) t in
      let branch : s.blocks < t.blocks = omega arith in
      let begun = branch_fits (Slot y) pc s fits (low (length p.slots) y front.0) is_pc in
      let first = all_keep a front.1 (Block s.blocks) t begun.fits branch in
      let second = all_keep b parts.1 (Block s.blocks) u first.fits (stays t u (Block s.blocks) first branch) in
      after p s t (with_body (statements b) p (Block s.blocks) u) begun (after p t u (with_body (statements b) p (Block s.blocks) u) first second)
  step (Stmt-F.For count body) named pc s fits is_pc = all_keep body named pc s fits is_pc

  keeps : (x : Stmt) → Keeps (slots_below (length p.slots) x) (with_stmt x)
  keeps = ind-Stmt (λ x. Keeps (slots_below (length p.slots) x) (with_stmt x)) (λ x y is. subst (λ z. Keeps (slots_below (length p.slots) (roll-Stmt z)) (with_stmt (roll-Stmt z))) is (at_roll y))
    where
      at_roll : (y : Stmt-F M) → Keeps (slots_below (length p.slots) (roll-Stmt (layer y))) (with_stmt (roll-Stmt (layer y)))
      at_roll y = subst₂ Keeps (sym (fold-roll-Stmt Bool (stmt_below (length p.slots)) (layer y))) (sym (fold-roll-Stmt Step stmt_step (layer y))) (step y)

  pub body_keeps : (body : List Stmt) → Keeps (block_below (length p.slots) body) (with_body body)
  body_keeps [] named pc s fits is_pc = unchanged p s fits
  body_keeps (x ∷ body) named pc s fits is_pc = then_keeps (with_stmt x) (with_body body) (slots_below (length p.slots) x) (block_below (length p.slots) body) (keeps x) (body_keeps body) named pc s fits is_pc
