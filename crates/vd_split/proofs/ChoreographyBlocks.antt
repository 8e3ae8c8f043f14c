-- The acts of a block do what the block does in the clear.
use Rattle.std.proofs.Common.{◌≡◌, ℕ, zero, suc, ◌+◌, ◌^◌, ◌<◌, Bool, true, false, ◌||◌, if◌then◌else◌, List, ◌++◌, length, ◌⊎◌, inl, inr, refl, sym, ap, ◌∙◌, subst, arith, length-append}
use Rattle.std.specs.List.{concat}
use Rattle.vd_base.specs.declared.ids.SlotId.{SlotId}
use Rattle.vd_base.specs.declared.protocols.Proto.{Proto}
use Rattle.vd_base.specs.HostSets.{host}
use Rattle.vd_base.specs.Holders.{is_holder}
use Rattle.vd_core.specs.declared.normal.Right.{Right}
use Rattle.vd_core.specs.declared.normal.Right.TheVariants.{Lit, Turn, Copy, Apply, Input, Declassify, Endorse, Load, Get}
use Rattle.vd_core.specs.Facts.{Sight, Seen, slots_step, seeing_step, seeing_all}
use Rattle.vd_semantics.specs.Turns.{turns}
use Rattle.vd_semantics.specs.ProgramMeaning.{SlotState, Effect, in_order, stmt_effect}
use Rattle.vd_split.specs.Block.{Block, End, Let, NewVar, NewArray, Store, Put, Output, If, For, each}
use Rattle.vd_split.specs.Joint.{Hosts, and_then}
use Rattle.vd_split.specs.Suite.{Suite, Laws}
use Rattle.vd_split.specs.Emission.{Emission, Emitted}
use Rattle.vd_split.specs.Validity.{Fits, emission_of, turns_at, Placed}
use Rattle.vd_split.proofs.Lists.{and_left, and_right, or_left, or_right, or_cases, or_none_left, or_none_right, InRow, row_front, row_back}
use Rattle.vd_split.proofs.Sight.{Binding, Variable, Array, with_use}
use Rattle.vd_split.proofs.ChoreographySteps.{E, Ties, TurnsIn, After, nothing_after, after_on, turns_past, let_after, var_after, array_after, store_after, put_after, output_after}
use Rattle.vd_split.proofs.Loops.{Comes, loop_after, branch_after}

abbrev pub slots : Block → List ℕ
slots b = concat (each slots_step b)

abbrev pub sees : Block → Sight → Seen
sees b = seeing_all (each seeing_step b)

abbrev pub effect_of : Block → Effect
effect_of b = in_order (each stmt_effect b)

module _ (m : Hosts) (s : Suite m) (proto : ℕ → Proto) (laws : Laws m s) (declared : (x : ℕ) → s.Declared (proto x)) where
  abbrev at : ℕ → ℕ → Bool
  at x h = is_holder (proto x) (host h)

  abbrev pub emits : Block → Emission s.calls proto
  emits = emission_of m s proto

  pub turn_here : (x : SlotId) (right : Right) (rest : Block) (h : ℕ) → right ≡ Turn → at x.0 h ≡ true → turns_at m s proto (Let x right rest) h ≡ true
  turn_here x right rest h is a = subst (λ z. turns_at m s proto (Let x z rest) h ≡ true) (sym is) (or_left (at x.0 h) (turns_at m s proto rest h) a)

  pub turn_later : (x : SlotId) (right : Right) (rest : Block) (h : ℕ) → turns_at m s proto rest h ≡ true → turns_at m s proto (Let x right rest) h ≡ true
  turn_later x (Lit n) rest h a = a
  turn_later x Turn rest h a = or_right (at x.0 h) (turns_at m s proto rest h) a
  turn_later x (Copy y) rest h a = a
  turn_later x (Apply o ys) rest h a = a
  turn_later x (Input k) rest h a = a
  turn_later x (Declassify y to) rest h a = a
  turn_later x (Endorse y to) rest h a = a
  turn_later x (Load v) rest h a = a
  turn_later x (Get v i) rest h a = a

  turn_split : (x : SlotId) (right : Right) (rest : Block) (h : ℕ) → turns_at m s proto (Let x right rest) h ≡ true → ((right ≡ Turn) × (at x.0 h ≡ true)) ⊎ (turns_at m s proto rest h ≡ true)
  turn_split x (Lit n) rest h a = inr a
  turn_split x Turn rest h a = turned (or_cases (at x.0 h) (turns_at m s proto rest h) a)
    where
      turned : (at x.0 h ≡ true) ⊎ (turns_at m s proto rest h ≡ true) → ((Turn ≡ Turn) × (at x.0 h ≡ true)) ⊎ (turns_at m s proto rest h ≡ true)
      turned (inl i) = inl (refl, i)
      turned (inr i) = inr i
  turn_split x (Copy y) rest h a = inr a
  turn_split x (Apply o ys) rest h a = inr a
  turn_split x (Input k) rest h a = inr a
  turn_split x (Declassify y to) rest h a = inr a
  turn_split x (Endorse y to) rest h a = inr a
  turn_split x (Load v) rest h a = inr a
  turn_split x (Get v i) rest h a = inr a

  -- a host that needs the loop's register takes part
  turns_take_part : (b : Block) (h : ℕ) → turns_at m s proto b h ≡ true → (emits b).takes_part h ≡ true
  turns_take_part End h a = a
  turns_take_part (Let x right rest) h a = split (turns_take_part rest h) (turn_split x right rest h a)
    where
      split : (turns_at m s proto rest h ≡ true → (emits rest).takes_part h ≡ true) → ((right ≡ Turn) × (at x.0 h ≡ true)) ⊎ (turns_at m s proto rest h ≡ true) → (emits (Let x right rest)).takes_part h ≡ true
      split ih (inl p) = or_left _ _ (or_left (at x.0 h) _ p.1)
      split ih (inr q) = or_right _ _ (ih q)
  turns_take_part (NewVar v x rest) h a = or_right _ _ (turns_take_part rest h a)
  turns_take_part (NewArray v cells rest) h a = or_right _ _ (turns_take_part rest h a)
  turns_take_part (Store v x rest) h a = or_right _ _ (turns_take_part rest h a)
  turns_take_part (Put v i x rest) h a = or_right _ _ (turns_take_part rest h a)
  turns_take_part (Output x k offset rest) h a = or_right _ _ (turns_take_part rest h a)
  turns_take_part (If x t e offset rest) h a =
      split (turns_take_part t h) (turns_take_part e h) (turns_take_part rest h) (or_cases (turns_at m s proto t h || turns_at m s proto e h) (turns_at m s proto rest h) a)
    where
      inner : (turns_at m s proto t h ≡ true → (emits t).takes_part h ≡ true) → (turns_at m s proto e h ≡ true → (emits e).takes_part h ≡ true) → (turns_at m s proto t h ≡ true) ⊎ (turns_at m s proto e h ≡ true)
          → (at x.0 h || (emits t).takes_part h || (emits e).takes_part h) ≡ true
      inner f g (inl p) = or_left _ _ (or_right _ _ (f p))
      inner f g (inr p) = or_right _ _ (g p)

      split : (turns_at m s proto t h ≡ true → (emits t).takes_part h ≡ true) → (turns_at m s proto e h ≡ true → (emits e).takes_part h ≡ true) → (turns_at m s proto rest h ≡ true → (emits rest).takes_part h ≡ true)
          → ((turns_at m s proto t h || turns_at m s proto e h) ≡ true) ⊎ (turns_at m s proto rest h ≡ true) → (emits (If x t e offset rest)).takes_part h ≡ true
      split f g r (inl p) = or_left _ _ (inner f g (or_cases _ _ p))
      split f g r (inr p) = or_right _ _ (r p)
  turns_take_part (For count body rest) h a = or_right _ _ (turns_take_part rest h a)

  -- and has an instruction
  pub turns_act : (b : Block) (h : ℕ) → turns_at m s proto b h ≡ true → (emits b).acts_at h ≡ true
  turns_act End h a = a
  turns_act (Let x right rest) h a = split (turns_act rest h) (turn_split x right rest h a)
    where
      acts : right ≡ Turn → at x.0 h ≡ true → (emits (Let x right End)).acts_at h ≡ true
      acts is p = subst (λ z. (emits (Let x z End)).acts_at h ≡ true) (sym is) (or_left (at x.0 h) false p)

      first : (b : Bool) → (b || false) ≡ true → b ≡ true
      first true e = refl
      first false e = e

      split : (turns_at m s proto rest h ≡ true → (emits rest).acts_at h ≡ true) → ((right ≡ Turn) × (at x.0 h ≡ true)) ⊎ (turns_at m s proto rest h ≡ true) → (emits (Let x right rest)).acts_at h ≡ true
      split ih (inl p) = or_left _ _ (first _ (acts p.0 p.1))
      split ih (inr q) = or_right _ _ (ih q)
  turns_act (NewVar v x rest) h a = or_right _ _ (turns_act rest h a)
  turns_act (NewArray v cells rest) h a = or_right _ _ (turns_act rest h a)
  turns_act (Store v x rest) h a = or_right _ _ (turns_act rest h a)
  turns_act (Put v i x rest) h a = or_right _ _ (turns_act rest h a)
  turns_act (Output x k offset rest) h a = or_right _ _ (turns_act rest h a)
  turns_act (If x t e offset rest) h a =
      split (turns_act rest h) (or_cases (turns_at m s proto t h || turns_at m s proto e h) (turns_at m s proto rest h) a)
    where
      inner : (turns_at m s proto t h ≡ true) ⊎ (turns_at m s proto e h ≡ true) → (b : Bool) → (b || (emits t).takes_part h || (emits e).takes_part h) ≡ true
      inner (inl p) b = or_left _ _ (or_right b _ (turns_take_part t h p))
      inner (inr p) b = or_right _ _ (turns_take_part e h p)

      split : (turns_at m s proto rest h ≡ true → (emits rest).acts_at h ≡ true) → ((turns_at m s proto t h || turns_at m s proto e h) ≡ true) ⊎ (turns_at m s proto rest h ≡ true) → (emits (If x t e offset rest)).acts_at h ≡ true
      split r (inl p) = or_left _ _ (inner (or_cases _ _ p) _)
      split r (inr p) = or_right _ _ (r p)
  turns_act (For count body rest) h a = or_right _ _ (turns_act rest h a)

  abbrev Nobody : Block → Type 0
  Nobody b = (h : ℕ) → h < s.calls.hosts → (emits b).takes_part h ≡ false

  -- a slot is somewhere
  somebody : (x : ℕ) → ((h : ℕ) → h < s.calls.hosts → at x h ≡ false) → ⊥
  somebody x none =
      let p = laws.somewhere (proto x) (declared x) in
      opposite (at x p.0) p.2 (none p.0 p.1)
    where
      opposite : (b : Bool) → b ≡ true → b ≡ false → ⊥
      opposite true e f = cc
      opposite false e f = cc

  no_turns : (f : Effect) → ((turn : ℕ) (c : SlotState) → f turn c ≡ c) → (n : ℕ) (c : SlotState) → turns n f c ≡ c
  no_turns f idle zero c = refl
  no_turns f idle (suc n) c = idle n (turns n f c) ∙ no_turns f idle n c

  -- where nobody takes part nothing happens
  idle : (b : Block) → Nobody b → (turn : ℕ) (c : SlotState) → effect_of b turn c ≡ c
  idle End none turn c = refl
  idle (Let x right rest) none turn c = absurd (somebody x.0 (λ h lt. or_none_left _ _ (or_none_left _ _ (none h lt))))
  idle (NewVar v x rest) none turn c = absurd (somebody v.0 (λ h lt. or_none_left _ _ (or_none_left _ _ (none h lt))))
  idle (NewArray v cells rest) none turn c = absurd (somebody v.0 (λ h lt. or_none_left _ _ (none h lt)))
  idle (Store v x rest) none turn c = absurd (somebody v.0 (λ h lt. or_none_left _ _ (or_none_left _ _ (none h lt))))
  idle (Put v i x rest) none turn c = absurd (somebody v.0 (λ h lt. or_none_left _ _ (or_none_left _ _ (or_none_left _ _ (none h lt)))))
  idle (Output x k offset rest) none turn c = absurd (somebody x.0 (λ h lt. or_none_right _ _ (or_none_left _ _ (none h lt))))
  idle (If x t e offset rest) none turn c = absurd (somebody x.0 (λ h lt. or_none_left _ _ (or_none_left _ _ (or_none_left _ _ (none h lt)))))
  idle (For count body rest) none turn c =
      ap (effect_of rest turn) (no_turns (effect_of body) (idle body (λ h lt. or_none_left _ _ (none h lt))) count c) ∙ idle rest (λ h lt. or_none_right _ _ (none h lt)) turn c

  -- where nobody takes part in either block nothing happens
  pub both_idle : (tb eb : Block) → ((h : ℕ) → h < s.calls.hosts → ((emits tb).takes_part h || (emits eb).takes_part h) ≡ false) → (b : Bool) (turn : ℕ) (c : SlotState)
      → in_order (if b then each stmt_effect eb else each stmt_effect tb) turn c ≡ c
  both_idle tb eb none true turn c = idle eb (λ h lt. or_none_right _ _ (none h lt)) turn c
  both_idle tb eb none false turn c = idle tb (λ h lt. or_none_left _ _ (none h lt)) turn c

  count_as : (o o' : Sight) (e : E m s proto) (made : Emitted s.calls proto) (n n' : ℕ) (w : m.World) (c' : SlotState) → n ≡ n' → After m s proto o o' e made n w c' → After m s proto o o' e made n' w c'
  count_as o o' e made n n' w c' is a = subst (λ z. After m s proto o o' e made z w c') is a

  abbrev Means : Block → Type 0
  Means b =
      (o : Sight) (k : ℕ) → InRow k (slots b) → (sees b o).all ≡ true → Fits s.calls.hosts b → Placed m s proto b
      → Comes m s proto laws declared (emits b) (effect_of b) o (sees b o).after (length (slots b)) (turns_at m s proto b) k

  -- a statement, and then the rest
  and_rest : (rest : Block) → Means rest → (o o1 : Sight) (e : E m s proto) (one : Emitted s.calls proto) (n k : ℕ) (w : m.World) (c c1 : SlotState) (turn : ℕ) (has : ℕ → Bool) → length e.held ≡ k
      → InRow (k + n) (slots rest) → (sees rest o1).all ≡ true → Fits s.calls.hosts rest → Placed m s proto rest → ((h : ℕ) → turns_at m s proto rest h ≡ true → has h ≡ true) → turn < 2 ^ 32
      → Ties m s proto o e w c → TurnsIn m s proto has o e w turn → (a : After m s proto o o1 e one n w c1)
      → After m s proto o (sees rest o1).after e (record { tree = and_then one.tree ((emits rest).emit one.state).tree; state = ((emits rest).emit one.state).state }) (n + length (slots rest)) w (effect_of rest turn c1)
  and_rest rest means o o1 e one n k w c c1 turn has is row all fits placed needs small t ts a =
      after_on m s proto o o1 (sees rest o1).after e one (emits rest).emit n (length (slots rest)) w c c1 (effect_of rest turn c1) t a
      (means o1 (k + n) row all fits placed one.state a.reached c1 turn has (ap length a.held ∙ length-append e.held a.more ∙ sum is a.many) needs small a.tied (turns_past m s proto has turn o o1 e one n w c c1 t a ts))
    where
      sum : {i j : ℕ} → i ≡ k → j ≡ n → i + j ≡ k + n
      sum p q = omega arith

  one_more : (n : ℕ) → 1 + n ≡ suc n
  one_more n = omega arith

  none_more : (n : ℕ) → 0 + n ≡ n
  none_more n = omega arith

  pub no_slots : (k : ℕ) (xs : List ℕ) → InRow k xs → InRow (k + 0) xs
  no_slots k xs r = subst (λ z. InRow z xs) (none k) r
    where
      none : (k : ℕ) → k ≡ k + 0
      none k = omega arith

  pub means : (b : Block) → Means b
  means End o k row all fits placed e w c turn has is needs small t ts = nothing_after m s proto o e w c t
  means (Let x right rest) o k row all fits placed e w c turn has is needs small t ts =
      let a = let_after m s proto laws declared o e w c turn has x right t (row.0 ∙ sym is) (and_left _ _ all) fits.0 placed.0 small (λ i h p. needs h (turn_here x right rest h i p)) ts in
      count_as o _ e _ _ _ w _ (one_more (length (slots rest)))
      (and_rest rest (means rest) o (with_use Binding x.0 o) e _ 1 k w c _ turn has is row.1 (and_right _ _ all) fits.1 placed.1 (λ h p. needs h (turn_later x right rest h p)) small t ts a)
  means (NewVar v x rest) o k row all fits placed e w c turn has is needs small t ts =
      let a = var_after m s proto laws declared o e w c v x t (row.0 ∙ sym is) (and_left _ _ all) placed.0 placed.1 in
      count_as o _ e _ _ _ w _ (one_more (length (slots rest)))
      (and_rest rest (means rest) o (with_use Variable v.0 o) e _ 1 k w c _ turn has is row.1 (and_right _ _ all) fits placed.2 needs small t ts a)
  means (NewArray v cells rest) o k row all fits placed e w c turn has is needs small t ts =
      let a = array_after m s proto laws declared o e w c v cells t (row.0 ∙ sym is) placed.0 in
      count_as o _ e _ _ _ w _ (one_more (length (slots rest)))
      (and_rest rest (means rest) o (with_use Array v.0 o) e _ 1 k w c _ turn has is row.1 all fits placed.1 needs small t ts a)
  means (Store v x rest) o k row all fits placed e w c turn has is needs small t ts =
      let here = and_left _ _ all in
      let a = store_after m s proto laws declared o e w c v x t (and_left _ _ here) (and_right _ _ here) placed.0 placed.1 in
      count_as o _ e _ _ _ w _ (none_more (length (slots rest)))
      (and_rest rest (means rest) o o e _ 0 k w c _ turn has is (no_slots k _ row) (and_right _ _ all) fits placed.2 needs small t ts a)
  means (Put v i x rest) o k row all fits placed e w c turn has is needs small t ts =
      let here = and_left _ _ all in
      let a = put_after m s proto laws declared o e w c v i x t (and_left _ _ (and_left _ _ here)) (and_right _ _ (and_left _ _ here)) (and_right _ _ here) placed.0 placed.1 placed.2 in
      count_as o _ e _ _ _ w _ (none_more (length (slots rest)))
      (and_rest rest (means rest) o o e _ 0 k w c _ turn has is (no_slots k _ row) (and_right _ _ all) fits placed.3 needs small t ts a)
  means (Output x h offset rest) o k row all fits placed e w c turn has is needs small t ts =
      let a = output_after m s proto laws declared o e w c x h t (and_left _ _ all) fits.0 placed.0 in
      count_as o _ e _ _ _ w _ (none_more (length (slots rest)))
      (and_rest rest (means rest) o o e _ 0 k w c _ turn has is (no_slots k _ row) (and_right _ _ all) fits.1 placed.1 needs small t ts a)
  means (If x tb eb offset rest) o k row all fits placed e w c turn has is needs small t ts =
      let here = and_left _ _ all in
      let row1 = row_front k (slots tb ++ slots eb) (slots rest) row in
      let row2 = row_back k (slots tb ++ slots eb) (slots rest) row in
      let a = branch_after m s proto laws declared o (sees tb o).after (sees eb o).after (emits tb) (emits eb) (each stmt_effect tb) (each stmt_effect eb) (length (slots tb)) (length (slots eb)) k (turns_at m s proto tb) (turns_at m s proto eb)
      (means tb o k (row_front k (slots tb) (slots eb) row1) (and_right _ _ (and_left _ _ here)) fits.0 placed.1)
      (means eb o (k + length (slots tb)) (row_back k (slots tb) (slots eb) row1) (and_right _ _ here) fits.1 placed.2)
      x (and_left _ _ (and_left _ _ here)) placed.0 (both_idle tb eb) e w c turn has is
      (λ h p. needs h (or_left _ _ (or_left _ _ p))) (λ h p. needs h (or_left _ _ (or_right _ _ p))) small t ts in
      count_as o _ e _ _ _ w _ (lengths (slots tb) (slots eb) (slots rest))
      (and_rest rest (means rest) o o e _ (length (slots tb) + length (slots eb)) k w c _ turn has is (subst (λ z. InRow (k + z) (slots rest)) (length-append (slots tb) (slots eb)) row2) (and_right _ _ all) fits.2 placed.3
      (λ h p. needs h (or_right _ _ p)) small t ts a)
    where
      lengths : (xs ys zs : List ℕ) → length xs + length ys + length zs ≡ length ((xs ++ ys) ++ zs)
      lengths xs ys zs = let a = length-append xs ys in let b = length-append (xs ++ ys) zs in omega (arith, a, b)
  means (For count body rest) o k row all fits placed e w c turn has is needs small t ts =
      let row1 = row_front k (slots body) (slots rest) row in
      let row2 = row_back k (slots body) (slots rest) row in
      let a = loop_after m s proto laws declared o (sees body o).after (emits body) (effect_of body) (length (slots body)) k (turns_at m s proto body)
      (means body o k row1 (and_left _ _ all) fits.1 placed.0) (turns_act body) e w c is t count fits.0 in
      count_as o _ e _ _ _ w _ (sym (length-append (slots body) (slots rest)))
      (and_rest rest (means rest) o o e _ (length (slots body)) k w c _ turn has is row2 (and_right _ _ all) fits.2 placed.1 needs small t ts a)
