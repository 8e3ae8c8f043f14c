-- A program that is made anew tells each host what it told.
use Rattle.std.proofs.Common.{◌≡◌, ℕ, zero, suc, ◌+◌, Bool, true, false, true≢false, List, [], ◌∷◌, ◌++◌, length, map, slice_index, refl, sym, ap, ◌∙◌, subst, arith}
use Rattle.std.specs.List.{list_all, range_with_len}
use Rattle.std.proofs.lemmas.Bool.{and_parts}
use Rattle.vd_base.specs.declared.ids.SlotId.{SlotId}
use Rattle.vd_core.specs.declared.normal.Right.{Right}
use Rattle.vd_core.specs.declared.normal.Right.TheVariants.{Lit, Turn, Copy, Apply, Input, Declassify, Endorse, Load, Get}
use Rattle.vd_core.specs.declared.normal.Slot.{Slot}
use Rattle.vd_core.specs.declared.normal.Stmt.{Stmt, Let}
use Rattle.vd_core.specs.declared.normal.Stmt.TheOpen.{Stmt-F}
use Rattle.vd_core.specs.declared.normal.NormalForm.{NormalForm}
use Rattle.vd_core.specs.Facts.{Sight, nothing_seen, right_sees, slots_made, SlotsInOrder, SlotsMadeBefore, meets, all_meet}
use Rattle.vd_semantics.specs.World.{World, world_at_start}
use Rattle.vd_semantics.specs.ProgramMeaning.{SlotState, right_word, after_right, stmt_effect, state_at_start, program_outputs}
use Rattle.vd_rewrite.specs.Rewriting.{Made, slot, in_block, entry_of, moved_right, is_pure_right, made_at_start, Lets, kept_let, rewritten}
use Rattle.vd_rewrite.proofs.Stores.{item_put, item_put_other, item_last, pushed}
use Rattle.vd_rewrite.proofs.Tables.{Placed, placed_at_start, Grown, Known}
use Rattle.vd_rewrite.proofs.Chain.{word, state, Adds, effect_let}
use Rattle.vd_rewrite.proofs.Agree.{Agree, right_same, world_same}
use Rattle.vd_rewrite.proofs.Meaning.{Counts, LetState, Laws}
use Rattle.vd_rewrite.proofs.Statements.{kept_grown, body_means}

pub counts_range : (n k : ℕ) → Counts n (range_with_len n k)
counts_range n zero = tt
counts_range n (suc k) = (refl, counts_range (n + 1) k)

met_all : (good : Stmt-F Bool → Bool) (body : List Stmt) → all_meet good body ≡ true → list_all (λ b. b) (map (meets good) body) ≡ true
met_all good [] h = refl
met_all good (s ∷ ss) h =
    let p = and_parts (meets good s) (all_meet good ss) h in
    (rw (p.0, met_all good ss p.1) refl)

-- whatever is made of Lets, as long as they keep to the laws
pub outputs_kept : (hides : SlotId → Bool) (lets : Lets) (Turns : Type 0) (Fine : ℕ → Type 0) (Holds : SlotState → Type 0) (good : Stmt-F Bool → Bool) → Laws hides lets Turns Fine Holds good
    → (program : NormalForm) → SlotsInOrder program → SlotsMadeBefore program → all_meet good program.body ≡ true → Fine 0 → (inputs : List (List ℕ)) → Holds (state_at_start (world_at_start (length program.hosts) inputs))
    → program_outputs (rewritten hides lets program) inputs ≡ program_outputs program inputs
outputs_kept hides lets Turns Fine Holds good laws program order before met fine inputs holds =
    let start = state_at_start (world_at_start (length program.hosts) inputs) in
    let counts : Counts 0 (slots_made program.body) = subst (Counts 0) (sym order) (counts_range 0 (length program.slots)) in
    let means = body_means hides lets program.slots Turns Fine Holds good laws program.body in
    let known : Known 0 nothing_seen =
    record {
      bindings = λ k h. absurd (true≢false (sym h));
      variables = λ k h. absurd (true≢false (sym h));
      arrays = λ k h. absurd (true≢false (sym h));
      apart = λ k h h'. absurd (true≢false (sym h));
    } in
    let agree : Agree [] nothing_seen start start =
    record {
      world = refl;
      bindings = λ k h. absurd (true≢false (sym h));
      variables = λ k h. absurd (true≢false (sym h));
      arrays = λ k h. absurd (true≢false (sym h));
    } in
    ap (λ (w : World). w.outputs)
    (means.means [] 0 made_at_start nothing_seen 0 start start placed_at_start known counts before (met_all good program.body met) fine holds tt (λ h. absurd (true≢false (sym h))) refl agree).world

-- a Let that stays as it is
module _ (old : List Slot) where
  let_state : (x : SlotId) (r : Right) (block : ℕ) (m : Made) (turn : ℕ) (s0 : SlotState) → state (kept_let old x r block m) turn s0 ≡ stmt_effect (Stmt-F.Let (slot m.next) (moved_right m.table r)) turn (state m turn s0)
  let_state x r block m turn s0 = pushed m.body (Let (slot m.next) (moved_right m.table r)) (stmt_effect (Stmt-F.Let (slot m.next) (moved_right m.table r))) (effect_let (slot m.next) (moved_right m.table r)) turn s0

  pure_world : (table : List ℕ) (r : Right) (w : World) → is_pure_right r ≡ true → after_right (moved_right table r) w ≡ w
  pure_world table (Lit k) w p = refl
  pure_world table Turn w p = refl
  pure_world table (Copy x) w p = refl
  pure_world table (Apply op xs) w p = refl
  pure_world table (Input host) w p = absurd (true≢false (sym p))
  pure_world table (Declassify x to) w p = refl
  pure_world table (Endorse x to) w p = refl
  pure_world table (Load v) w p = refl
  pure_world table (Get v i) w p = refl

  pub let_grown : (x : SlotId) (r : Right) (block : ℕ) (m : Made) → Placed m.table m.next → Grown m (kept_let old x r block m) 1
  let_grown x r block m p = kept_grown (in_block block (entry_of old x)) (Let (slot m.next) (moved_right m.table r)) m p

  pub let_adds : (x : SlotId) (r : Right) (block : ℕ) (m : Made) (turn : ℕ) (s0 : SlotState) → is_pure_right r ≡ true → Adds m.next (state m turn s0) (state (kept_let old x r block m) turn s0)
  let_adds x r block m turn s0 pure =
      let s = state m turn s0 in
      let w = right_word (moved_right m.table r) turn s in
      subst (λ (z : SlotState). Adds m.next s z) (sym (let_state x r block m turn s0))
      (record { world = pure_world m.table r s.world pure; arrays = refl; below = λ j lt. item_put_other 0 s.words m.next j w (λ e. omega (arith, e, lt)) })

  pub let_gives : (x : SlotId) (r : Right) (block : ℕ) (m : Made) (seen : Sight) (turn : ℕ) (s0 s : SlotState) → right_sees r seen ≡ true → Agree m.table seen s (state m turn s0) → LetState m (kept_let old x r block m) turn s0 r s
  let_gives x r block m seen turn s0 s sees a =
      let s' = state m turn s0 in
      let e = let_state x r block m turn s0 in
      let w = right_word (moved_right m.table r) turn s' in
      record {
        world = ap (λ (z : SlotState). z.world) e ∙ world_same m.table r s.world s'.world a.world;
        arrays = ap (λ (z : SlotState). z.arrays) e;
        below = λ j lt. ap (λ (z : SlotState). word z j) e ∙ item_put_other 0 s'.words m.next j w (λ q. omega (arith, q, lt));
        word = ap (λ (z : SlotState). word z (slice_index (m.table ++ m.next ∷ []) (length m.table))) e ∙ ap (λ k. word (stmt_effect (Stmt-F.Let (slot m.next) (moved_right m.table r)) turn s') k) (item_last m.table m.next)
            ∙ item_put 0 s'.words m.next w ∙ right_same m.table seen turn s s' r a sees;
      }
