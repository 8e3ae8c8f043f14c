-- The statements of a long division change nothing but their own slots.
use Rattle.std.proofs.Common.{◌≡◌, ℕ, zero, suc, ◌≤◌, nat_le, true, true≢false, List, [], ◌∷◌, slice_index, refl, sym, ◌∙◌}
use Rattle.std.proofs.lemmas.Bool.{leb-true, and_parts}
use Rattle.vd_core.specs.declared.normal.Right.{Right}
use Rattle.vd_core.specs.declared.normal.Right.TheVariants.{Lit, Turn, Copy, Apply, Input, Declassify, Endorse, Load, Get}
use Rattle.vd_core.specs.declared.normal.Stmt.TheOpen.{Stmt-F}
use Rattle.vd_semantics.specs.Turns.{turns}
use Rattle.vd_semantics.specs.ProgramMeaning.{SlotState, word_at, right_word, after_right, Effect, stmt_effect}
use Rattle.vd_long.specs.Template.{placed, placed_right, placed_slot, division_start, division_turn, division_end, remainder_start, remainder_turn, remainder_end}
use Rattle.vd_long.proofs.DivisionSteps.{is_plain, is_plain_right, all_plain, run, ran, ran_rest, item_put_other}

-- slots of the program that the template does not write
abbrev pub IsOutside : (ℕ → ℕ) → ℕ → Type 0
IsOutside at j = (p : ℕ) → 2 ≤ p → at p ≡ j → ⊥

pub record KeepsOthers (at : ℕ → ℕ) (s s' : SlotState) : Type 0 where
  pub world : s'.world ≡ s.world
  pub arrays : s'.arrays ≡ s.arrays
  pub words : (j : ℕ) → IsOutside at j → slice_index s'.words j ≡ slice_index s.words j

keeps_self : (at : ℕ → ℕ) (s : SlotState) → KeepsOthers at s s
keeps_self at s = record { world = refl; arrays = refl; words = λ j h. refl }

keeps_both : (at : ℕ → ℕ) (s s' s'' : SlotState) → KeepsOthers at s s' → KeepsOthers at s' s'' → KeepsOthers at s s''
keeps_both at s s' s'' a b = record { world = b.world ∙ a.world; arrays = b.arrays ∙ a.arrays; words = λ j h. b.words j h ∙ a.words j h }

world_kept : (at : ℕ → ℕ) (r : Right) (s : SlotState) → is_plain_right r ≡ true → after_right (placed_right at r) s.world ≡ s.world
world_kept at (Lit n) s p = refl
world_kept at Turn s p = refl
world_kept at (Copy x) s p = refl
world_kept at (Apply op xs) s p = refl
world_kept at (Input host) s p = absurd (true≢false (sym p))
world_kept at (Declassify x to) s p = refl
world_kept at (Endorse x to) s p = refl
world_kept at (Load v) s p = refl
world_kept at (Get v i) s p = refl

step_keeps : (at : ℕ → ℕ) (turn : ℕ) (x : Stmt-F Effect) (s : SlotState) → is_plain x ≡ true → KeepsOthers at s (stmt_effect (placed at x) turn s)
step_keeps at turn (Stmt-F.Let x r) s p =
    let both = and_parts (nat_le 2 x.0) (is_plain_right r) p in
    record { world = world_kept at r s both.1; arrays = refl; words = λ j h. item_put_other s.words (at x.0) j (right_word (placed_right at r) turn s) (h x.0 (leb-true 2 x.0 both.0)) }
step_keeps at turn (Stmt-F.NewVar v x) s p = record { world = refl; arrays = refl; words = λ j h. item_put_other s.words (at v.0) j (word_at s (placed_slot at x)) (h v.0 (leb-true 2 v.0 p)) }
step_keeps at turn (Stmt-F.Store v x) s p = record { world = refl; arrays = refl; words = λ j h. item_put_other s.words (at v.0) j (word_at s (placed_slot at x)) (h v.0 (leb-true 2 v.0 p)) }
step_keeps at turn (Stmt-F.NewArray v cells) s p = absurd (true≢false (sym p))
step_keeps at turn (Stmt-F.Put v i x) s p = absurd (true≢false (sym p))
step_keeps at turn (Stmt-F.Output x host offset) s p = absurd (true≢false (sym p))
step_keeps at turn (Stmt-F.If guard a b offset) s p = absurd (true≢false (sym p))
step_keeps at turn (Stmt-F.For count body) s p = absurd (true≢false (sym p))

run_keeps : (at : ℕ → ℕ) (turn : ℕ) (xs : List (Stmt-F Effect)) (s : SlotState) → all_plain xs ≡ true → KeepsOthers at s (run at xs turn s)
run_keeps at turn [] s p = keeps_self at s
run_keeps at turn (x ∷ xs) s p =
    let both = and_parts (is_plain x) (all_plain xs) p in
    let s1 = stmt_effect (placed at x) turn s in
    keeps_both at s s1 (run at xs turn s1) (step_keeps at turn x s both.0) (run_keeps at turn xs s1 both.1)

loop_keeps : (turns_of : List (Stmt-F Effect)) → all_plain turns_of ≡ true → (at : ℕ → ℕ) (count : ℕ) (s : SlotState) → KeepsOthers at s (turns count (run at turns_of) s)
loop_keeps turns_of plain at zero s = keeps_self at s
loop_keeps turns_of plain at (suc count) s =
    let s1 = turns count (run at turns_of) s in
    keeps_both at s s1 (run at turns_of count s1) (loop_keeps turns_of plain at count s) (run_keeps at count turns_of s1 plain)

pub ran_keeps : (at : ℕ → ℕ) (turn : ℕ) (s : SlotState) → KeepsOthers at s (ran at division_end turn s)
ran_keeps at turn s =
    let s1 = run at division_start turn s in
    let s2 = turns 32 (run at division_turn) s1 in
    keeps_both at s s1 _ (run_keeps at turn division_start s refl) (keeps_both at s1 s2 _ (loop_keeps division_turn refl at 32 s1) (run_keeps at turn division_end s2 refl))

pub rest_keeps : (at : ℕ → ℕ) (turn : ℕ) (s : SlotState) → KeepsOthers at s (ran_rest at turn s)
rest_keeps at turn s =
    let s1 = run at remainder_start turn s in
    let s2 = turns 32 (run at remainder_turn) s1 in
    keeps_both at s s1 _ (run_keeps at turn remainder_start s refl) (keeps_both at s1 s2 _ (loop_keeps remainder_turn refl at 32 s1) (run_keeps at turn remainder_end s2 refl))
