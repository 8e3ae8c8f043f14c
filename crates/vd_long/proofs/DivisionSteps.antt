-- The statements of a long division compute it.
use Rattle.std.proofs.Common.{◌≡◌, ◌⊎◌, inl, inr, ℕ, zero, suc, ◌^◌, ◌<◌, ◌≤◌, nat_eq, nat_le, Bool, true, false, true≢false, ◌&&◌, if◌then◌else◌, List, [], ◌∷◌, map, slice_index, refl, sym, ap, ap₂, ◌∙◌}
use Rattle.std.proofs.lemmas.Bool.{cases_eq, eq-eqb, ne_eqb, leb-true, and_parts}
use Rattle.vd_base.specs.declared.ids.SlotId.{SlotId}
use Rattle.vd_base.specs.Operations.{operation, result_of}
use Rattle.vd_base.specs.declared.operations.Op.TheVariants.{Div, Rem, Eq, Mux}
use Rattle.vd_core.specs.declared.normal.Right.{Right}
use Rattle.vd_core.specs.declared.normal.Right.TheVariants.{Lit, Turn, Copy, Apply, Input, Declassify, Endorse, Load, Get}
use Rattle.vd_core.specs.declared.normal.Stmt.TheOpen.{Stmt-F}
use Rattle.vd_semantics.specs.Stores.{put}
use Rattle.vd_semantics.specs.Turns.{turns}
use Rattle.vd_semantics.specs.ProgramMeaning.{SlotState, word_at, with_word, right_word, Effect, in_order, stmt_effect}
use Rattle.vd_long.specs.LongDivision.{Division, divided_turn, divided}
use Rattle.vd_long.specs.Template.{slot, placed, placed_slot, placed_right, division_start, division_turn, division_end, remainder_start, remainder_turn, remainder_end}
use Rattle.vd_long.proofs.DivisionWhole.{whole_rest, whole_quotient}

item_put : (s : List ℕ) (i w : ℕ) → slice_index (put 0 s i w) i ≡ w
item_put [] zero w = refl
item_put [] (suc i) w = item_put [] i w
item_put (x ∷ xs) zero w = refl
item_put (x ∷ xs) (suc i) w = item_put xs i w

pub item_put_other : (s : List ℕ) (i j w : ℕ) → (i ≡ j → ⊥) → slice_index (put 0 s i w) j ≡ slice_index s j
item_put_other [] zero zero w h = absurd (h refl)
item_put_other [] zero (suc j) w h = refl
item_put_other [] (suc i) zero w h = refl
item_put_other [] (suc i) (suc j) w h = item_put_other [] i j w (λ e. h (ap suc e))
item_put_other (x ∷ xs) zero zero w h = absurd (h refl)
item_put_other (x ∷ xs) zero (suc j) w h = refl
item_put_other (x ∷ xs) (suc i) zero w h = refl
item_put_other (x ∷ xs) (suc i) (suc j) w h = item_put_other xs i j w (λ e. h (ap suc e))

-- the words of a template's slots
abbrev pub View : Type 0
View = ℕ → ℕ

abbrev pub view : (ℕ → ℕ) → SlotState → View
view at s p = slice_index s.words (at p)

abbrev set : ℕ → ℕ → View → View
set p w seen j = if nat_eq p j then w else seen j

abbrev seen_right : Right → View → ℕ
seen_right (Lit n) seen = n
seen_right (Copy x) seen = seen x.0
seen_right (Apply op xs) seen = result_of op (map (λ (x : SlotId). seen x.0) xs)
seen_right (Load v) seen = seen v.0
seen_right other seen = 0

abbrev seen_step : Stmt-F Effect → View → View
seen_step (Stmt-F.Let x right) seen = set x.0 (seen_right right seen) seen
seen_step (Stmt-F.NewVar v x) seen = set v.0 (seen x.0) seen
seen_step (Stmt-F.Store v x) seen = set v.0 (seen x.0) seen
seen_step other seen = seen

abbrev seen_run : List (Stmt-F Effect) → View → View
seen_run [] seen = seen
seen_run (s ∷ ss) seen = seen_run ss (seen_step s seen)

abbrev pub is_plain_right : Right → Bool
is_plain_right (Lit n) = true
is_plain_right (Copy x) = true
is_plain_right (Apply op xs) = true
is_plain_right (Load v) = true
is_plain_right other = false

-- what is written is no slot of the operands
abbrev pub is_plain : Stmt-F Effect → Bool
is_plain (Stmt-F.Let x right) = nat_le 2 x.0 && is_plain_right right
is_plain (Stmt-F.NewVar v x) = nat_le 2 v.0
is_plain (Stmt-F.Store v x) = nat_le 2 v.0
is_plain other = false

abbrev pub run : (ℕ → ℕ) → List (Stmt-F Effect) → Effect
run at ss = in_order (map (λ (s : Stmt-F Effect). stmt_effect (placed at s)) ss)

-- a slot that the template writes is no other slot of it
abbrev pub IsApart : (ℕ → ℕ) → Type 0
IsApart at = (p j : ℕ) → 2 ≤ p → at p ≡ at j → p ≡ j

abbrev Shows : (ℕ → ℕ) → SlotState → View → Type 0
Shows at s seen = (j : ℕ) → view at s j ≡ seen j

shows_set : (at : ℕ → ℕ) → IsApart at → (s : SlotState) (seen : View) (p w w' : ℕ) → 2 ≤ p → w ≡ w' → Shows at s seen → Shows at (with_word (slot (at p)) w s) (set p w' seen)
shows_set at apart s seen p w w' le e h j = by_place (cases_eq p j)
  where
    by_place : (p ≡ j) ⊎ (p ≡ j → ⊥) → slice_index (put 0 s.words (at p) w) (at j) ≡ (if nat_eq p j then w' else seen j)
    by_place (inl is) =
        ap (λ z. slice_index (put 0 s.words (at p) w) (at z)) (sym is) ∙ item_put s.words (at p) w ∙ e ∙ sym (ap (λ (z : Bool). if z then w' else seen j) (eq-eqb p j is))
    by_place (inr other) =
        item_put_other s.words (at p) (at j) w (λ z. other (apart p j le z)) ∙ h j ∙ sym (ap (λ (z : Bool). if z then w' else seen j) (ne_eqb p j other))

words_shown : (at : ℕ → ℕ) (s : SlotState) (seen : View) (xs : List SlotId) → Shows at s seen → map (word_at s) (map (placed_slot at) xs) ≡ map (λ (x : SlotId). seen x.0) xs
words_shown at s seen [] h = refl
words_shown at s seen (x ∷ xs) h = ap₂ (λ (y : ℕ) (ys : List ℕ). y ∷ ys) (h x.0) (words_shown at s seen xs h)

right_shown : (at : ℕ → ℕ) (turn : ℕ) (s : SlotState) (seen : View) (r : Right) → is_plain_right r ≡ true → Shows at s seen → right_word (placed_right at r) turn s ≡ seen_right r seen
right_shown at turn s seen (Lit n) p h = refl
right_shown at turn s seen Turn p h = absurd (true≢false (sym p))
right_shown at turn s seen (Copy x) p h = h x.0
right_shown at turn s seen (Apply op xs) p h = ap (result_of op) (words_shown at s seen xs h)
right_shown at turn s seen (Input host) p h = absurd (true≢false (sym p))
right_shown at turn s seen (Declassify x to) p h = absurd (true≢false (sym p))
right_shown at turn s seen (Endorse x to) p h = absurd (true≢false (sym p))
right_shown at turn s seen (Load v) p h = h v.0
right_shown at turn s seen (Get v i) p h = absurd (true≢false (sym p))

step_shown : (at : ℕ → ℕ) → IsApart at → (turn : ℕ) (x : Stmt-F Effect) (s : SlotState) (seen : View) → is_plain x ≡ true → Shows at s seen → Shows at (stmt_effect (placed at x) turn s) (seen_step x seen)
step_shown at apart turn (Stmt-F.Let x r) s seen p h =
    let both = and_parts (nat_le 2 x.0) (is_plain_right r) p in
    λ j. shows_set at apart s seen x.0 (right_word (placed_right at r) turn s) (seen_right r seen) (leb-true 2 x.0 both.0) (right_shown at turn s seen r both.1 h) h j
step_shown at apart turn (Stmt-F.NewVar v x) s seen p h = shows_set at apart s seen v.0 (view at s x.0) (seen x.0) (leb-true 2 v.0 p) (h x.0) h
step_shown at apart turn (Stmt-F.Store v x) s seen p h = shows_set at apart s seen v.0 (view at s x.0) (seen x.0) (leb-true 2 v.0 p) (h x.0) h
step_shown at apart turn (Stmt-F.NewArray v cells) s seen p h = absurd (true≢false (sym p))
step_shown at apart turn (Stmt-F.Put v i x) s seen p h = absurd (true≢false (sym p))
step_shown at apart turn (Stmt-F.Output x host offset) s seen p h = absurd (true≢false (sym p))
step_shown at apart turn (Stmt-F.If guard a b offset) s seen p h = absurd (true≢false (sym p))
step_shown at apart turn (Stmt-F.For count body) s seen p h = absurd (true≢false (sym p))

abbrev pub all_plain : List (Stmt-F Effect) → Bool
all_plain [] = true
all_plain (x ∷ xs) = is_plain x && all_plain xs

run_shown : (at : ℕ → ℕ) → IsApart at → (turn : ℕ) (xs : List (Stmt-F Effect)) (s : SlotState) (seen : View) → all_plain xs ≡ true → Shows at s seen → Shows at (run at xs turn s) (seen_run xs seen)
run_shown at apart turn [] s seen p h = h
run_shown at apart turn (x ∷ xs) s seen p h =
    let both = and_parts (is_plain x) (all_plain xs) p in
    run_shown at apart turn xs (stmt_effect (placed at x) turn s) (seen_step x seen) both.1 (step_shown at apart turn x s seen both.0 h)

abbrev division_seen : View → Division
division_seen seen = record { left = seen 4; quotient = seen 5; rest = seen 6 }

turn_seen : (seen : View) → division_seen (seen_run division_turn seen) ≡ divided_turn (seen 3) (division_seen seen)
turn_seen seen = refl

-- what the loop leaves
record Looped (count : ℕ) (start : View) (seen : View) : Type 0 where
  pub division : division_seen seen ≡ divided (start 0) (start 1) count
  pub divisor : seen 3 ≡ start 1
  pub none : seen 2 ≡ 0

abbrev looped : ℕ → View → View
looped zero seen = seen
looped (suc count) seen = seen_run division_turn (looped count seen)

loop_seen : (start : View) (count : ℕ) → Looped count start (looped count (seen_run division_start start))
loop_seen start zero = record { division = refl; divisor = refl; none = refl }
loop_seen start (suc count) =
    let before = loop_seen start count in
    let seen = looped count (seen_run division_start start) in
    record {
      division = turn_seen seen ∙ ap₂ divided_turn before.divisor before.division;
      divisor = before.divisor;
      none = before.none;
    }

loop_shown : (at : ℕ → ℕ) → IsApart at → (count : ℕ) (s : SlotState) (seen : View) → Shows at s seen → Shows at (turns count (run at division_turn) s) (looped count seen)
loop_shown at apart zero s seen h = h
loop_shown at apart (suc count) s seen h = run_shown at apart count division_turn (turns count (run at division_turn) s) (looped count seen) refl (loop_shown at apart count s seen h)

-- the state after the statements of one division
abbrev pub ran : (ℕ → ℕ) → List (Stmt-F Effect) → ℕ → SlotState → SlotState
ran at last turn s = run at last turn (stmt_effect (Stmt-F.For 32 (map (λ (x : Stmt-F Effect). stmt_effect (placed at x)) division_turn)) turn (run at division_start turn s))

pub quotient_ran : (at : ℕ → ℕ) → IsApart at → (turn : ℕ) (s : SlotState) → view at s 0 < 2 ^ 32
    → view at (ran at division_end turn s) 21 ≡ operation Div (view at s 0) (view at s 1) 0
quotient_ran at apart turn s word =
    let start = view at s in
    let one = run_shown at apart turn division_start s start refl (λ j. refl) in
    let all = loop_shown at apart 32 (run at division_start turn s) (seen_run division_start start) one in
    let l = loop_seen start 32 in
    let seen = looped 32 (seen_run division_start start) in
    let last = run_shown at apart turn division_end (turns 32 (run at division_turn) (run at division_start turn s)) seen refl all 21 in
    last ∙ end seen l.none l.divisor (ap (λ (z : Division). z.quotient) l.division) ∙ whole_quotient (start 0) (start 1) word
  where
    end : (seen : View) {b p : ℕ} → seen 2 ≡ 0 → seen 3 ≡ b → seen 5 ≡ p → seen_run division_end seen 21 ≡ operation Mux (operation Eq b 0 0) 0 p
    end seen {b} e3 e4 e6 = ap₂ (λ (k j : ℕ). operation Mux (operation Eq j k 0) k (seen 5)) e3 e4 ∙ ap (λ k. operation Mux (operation Eq b 0 0) 0 k) e6

-- the same where no quotient is wanted
record LoopedRest (count : ℕ) (start : View) (seen : View) : Type 0 where
  pub left : seen 4 ≡ (divided (start 0) (start 1) count).left
  pub rest : seen 5 ≡ (divided (start 0) (start 1) count).rest
  pub divisor : seen 3 ≡ start 1

abbrev looped_rest : ℕ → View → View
looped_rest zero seen = seen
looped_rest (suc count) seen = seen_run remainder_turn (looped_rest count seen)

loop_rest_seen : (start : View) (count : ℕ) → LoopedRest count start (looped_rest count (seen_run remainder_start start))
loop_rest_seen start zero = record { left = refl; rest = refl; divisor = refl }
loop_rest_seen start (suc count) =
    let before = loop_rest_seen start count in
    let seen = looped_rest count (seen_run remainder_start start) in
    let d = divided (start 0) (start 1) count in
    record {
      left = ap (λ k. (divided_turn (start 1) (record { left = k; quotient = 0; rest = 0 })).left) before.left;
      rest = ap (λ k. (divided_turn k (record { left = seen 4; quotient = 0; rest = seen 5 })).rest) before.divisor
          ∙ ap₂ (λ (k j : ℕ). (divided_turn (start 1) (record { left = k; quotient = 0; rest = j })).rest) before.left before.rest;
      divisor = before.divisor;
    }

loop_rest_shown : (at : ℕ → ℕ) → IsApart at → (count : ℕ) (s : SlotState) (seen : View) → Shows at s seen → Shows at (turns count (run at remainder_turn) s) (looped_rest count seen)
loop_rest_shown at apart zero s seen h = h
loop_rest_shown at apart (suc count) s seen h = run_shown at apart count remainder_turn (turns count (run at remainder_turn) s) (looped_rest count seen) refl (loop_rest_shown at apart count s seen h)

abbrev pub ran_rest : (ℕ → ℕ) → ℕ → SlotState → SlotState
ran_rest at turn s = run at remainder_end turn (stmt_effect (Stmt-F.For 32 (map (λ (x : Stmt-F Effect). stmt_effect (placed at x)) remainder_turn)) turn (run at remainder_start turn s))

pub remainder_ran : (at : ℕ → ℕ) → IsApart at → (turn : ℕ) (s : SlotState) → view at s 0 < 2 ^ 32
    → view at (ran_rest at turn s) 15 ≡ operation Rem (view at s 0) (view at s 1) 0
remainder_ran at apart turn s word =
    let start = view at s in
    let one = run_shown at apart turn remainder_start s start refl (λ j. refl) in
    let all = loop_rest_shown at apart 32 (run at remainder_start turn s) (seen_run remainder_start start) one in
    let l = loop_rest_seen start 32 in
    let seen = looped_rest 32 (seen_run remainder_start start) in
    run_shown at apart turn remainder_end (turns 32 (run at remainder_turn) (run at remainder_start turn s)) seen refl all 15
    ∙ l.rest ∙ whole_rest (start 0) (start 1) word
