-- The word that a variable gets under guards.
use Rattle.std.proofs.Common.{◌≡◌, ℕ, zero, suc, ◌+◌, ◌%◌, ◌<◌, ◌≤◌, nat_eq, Bool, true, false, ◌&&◌, if◌then◌else◌, List, [], ◌∷◌, slice_index, refl, sym, ap, ap₂, ◌∙◌, subst, arith, rules}
use Rattle.std.specs.List.{list_all}
use Rattle.std.proofs.Math.Nat.{mod-lt}
use Rattle.vd_base.specs.declared.ids.SlotId.{SlotId}
use Rattle.vd_base.specs.declared.operations.Kind.{Kind}
use Rattle.vd_core.specs.declared.normal.Right.{Right}
use Rattle.vd_core.specs.declared.normal.Right.TheVariants.{Load}
use Rattle.vd_core.specs.declared.normal.Slot.{Slot}
use Rattle.vd_core.specs.declared.normal.Stmt.{Let}
use Rattle.vd_core.specs.declared.normal.Stmt.TheFolds.{the_lemmas}
use Rattle.vd_core.specs.declared.normal.Stmt.TheOpen.{Stmt-F}
use Rattle.vd_semantics.specs.ProgramMeaning.{SlotState, right_word, with_word, stmt_effect, effect, block_effect}
use Rattle.vd_rewrite.specs.declared.guard.Guard.{Guard}
use Rattle.vd_rewrite.specs.Rewriting.{Made, slot, fresh, with_fresh, selection, selected}
use Rattle.vd_rewrite.proofs.Stores.{item_put, item_put_other, pushed}

pub effect_let : (x : SlotId) (r : Right) → effect (Let x r) ≡ stmt_effect (Stmt-F.Let x r)
effect_let x r = search (rules, the_lemmas)

abbrev pub word : SlotState → ℕ → ℕ
word s k = slice_index s.words k

-- the bit that a branch wants of its guard
abbrev pub wanted : Bool → ℕ
wanted first = if first then 1 else 0

abbrev pub is_wanted : SlotState → Guard → Bool
is_wanted s g = nat_eq (word s g.slot.0 % 2) (wanted g.first)

abbrev pub all_wanted : SlotState → List Guard → Bool
all_wanted s gs = list_all (is_wanted s) gs

abbrev pub LowGuards : ℕ → List Guard → Type 0
LowGuards n [] = Unit {0}
LowGuards n (g ∷ gs) = (g.slot.0 < n) × LowGuards n gs

-- the state of a list of statements so far
abbrev pub state : Made → ℕ → SlotState → SlotState
state m turn s = block_effect m.body turn s

-- nothing but words from next on is changed
pub record Adds (next : ℕ) (s s' : SlotState) : Type 0 where
  pub world : s'.world ≡ s.world
  pub arrays : s'.arrays ≡ s.arrays
  pub below : (j : ℕ) → j < next → word s' j ≡ word s j

adds_both : (n n' : ℕ) (s s' s'' : SlotState) → n ≤ n' → Adds n s s' → Adds n' s' s'' → Adds n s s''
adds_both n n' s s' s'' le a b = record { world = b.world ∙ a.world; arrays = b.arrays ∙ a.arrays; below = λ j h. b.below j (omega arith) ∙ a.below j h }

pub adds_word : (n k w : ℕ) (s : SlotState) → n ≤ k → Adds n s (with_word (slot k) w s)
adds_word n k w s le = record { world = refl; arrays = refl; below = λ j h. item_put_other 0 s.words k j w (λ e. omega arith) }

bit_choice : (n a b : ℕ) → n < 2 → (if nat_eq n 1 then a else b) ≡ (if nat_eq n 0 then b else a)
bit_choice zero a b lt = refl
bit_choice (suc zero) a b lt = refl
bit_choice (suc (suc n)) a b lt = absurd (omega arith)

selects : (first : Bool) (g new old turn : ℕ) (s : SlotState) → right_word (selection first (slot g) (slot new) (slot old)) turn s ≡ (if nat_eq (word s g % 2) (wanted first) then word s new else word s old)
selects true g new old turn s = refl
selects false g new old turn s = bit_choice (word s g % 2) (word s old) (word s new) (mod-lt (word s g) (omega arith))

choices : (a b : Bool) (y v : ℕ) → (if a then (if b then y else v) else v) ≡ (if a && b then y else v)
choices true b y v = refl
choices false b y v = refl

pub record Selects (gs : List Guard) (y v : SlotId) (m : Made) (p : SlotId × Made) : Type 0 where
  pub table : p.1.table ≡ m.table
  pub next : m.next ≤ p.1.next
  pub fits : p.0.0 < p.1.next
  pub adds : (turn : ℕ) (s : SlotState) → Adds m.next (state m turn s) (state p.1 turn s)
  pub word : (turn : ℕ) (s : SlotState) → word (state p.1 turn s) p.0.0 ≡ (if all_wanted (state m turn s) gs then word (state m turn s) y.0 else word (state m turn s) v.0)

-- a new slot
fresh_state : (entry : Slot) (r : Right) (m : Made) (turn : ℕ) (s : SlotState) → state (with_fresh entry r m) turn s ≡ stmt_effect (Stmt-F.Let (slot m.next) r) turn (state m turn s)
fresh_state entry r m turn s = pushed m.body (Let (slot m.next) r) (stmt_effect (Stmt-F.Let (slot m.next) r)) (effect_let (slot m.next) r) turn s

-- one guard more around what is selected so far
module _ (kind : Kind) (block : ℕ) (v : SlotId) (g : Guard) (gs : List Guard) (y : SlotId) (m : Made) (p : SlotId × Made) (r : Selects gs y v m p) (lv : v.0 < m.next) (first : g.slot.0 < m.next) where
  abbrev choice : Right
  choice = selection g.first g.slot p.0 (slot p.1.next)

  abbrev m1 : Made
  m1 = with_fresh (fresh kind g.offset block) (Load v) p.1

  abbrev loaded : ℕ → SlotState → SlotState
  loaded turn s = with_word (slot p.1.next) (word (state p.1 turn s) v.0) (state p.1 turn s)

  abbrev chosen : ℕ → SlotState → SlotState
  chosen turn s = with_word (slot (p.1.next + 1)) (right_word choice turn (loaded turn s)) (loaded turn s)

  after : (turn : ℕ) (s : SlotState) → state (with_fresh (fresh kind g.offset block) choice m1) turn s ≡ chosen turn s
  after turn s =
      fresh_state (fresh kind g.offset block) choice m1 turn s
      ∙ ap (λ (z : SlotState). stmt_effect (Stmt-F.Let (slot (p.1.next + 1)) choice) turn z) (fresh_state (fresh kind g.offset block) (Load v) p.1 turn s)

  gets : (turn : ℕ) (s : SlotState) → word (chosen turn s) (p.1.next + 1) ≡ (if all_wanted (state m turn s) (g ∷ gs) then word (state m turn s) y.0 else word (state m turn s) v.0)
  gets turn s =
      let s0 = state m turn s in
      let s1 = state p.1 turn s in
      let s2 = loaded turn s in
      let le = r.next in
      let fits = r.fits in
      let new : word s2 p.0.0 ≡ (if all_wanted s0 gs then word s0 y.0 else word s0 v.0) = item_put_other 0 s1.words p.1.next p.0.0 (word s1 v.0) (λ e. omega (arith, e, fits)) ∙ r.word turn s in
      let old : word s2 p.1.next ≡ word s0 v.0 = item_put 0 s1.words p.1.next (word s1 v.0) ∙ (r.adds turn s).below v.0 lv in
      let bit : word s2 g.slot.0 ≡ word s0 g.slot.0 = item_put_other 0 s1.words p.1.next g.slot.0 (word s1 v.0) (λ e. omega (arith, e, le, first)) ∙ (r.adds turn s).below g.slot.0 first in
      item_put 0 s2.words (p.1.next + 1) (right_word choice turn s2)
      ∙ selects g.first g.slot.0 p.0.0 p.1.next turn s2
      ∙ ap (λ z. if nat_eq (z % 2) (wanted g.first) then word s2 p.0.0 else word s2 p.1.next) bit
      ∙ ap₂ (λ (a b : ℕ). if is_wanted s0 g then a else b) new old
      ∙ choices (is_wanted s0 g) (all_wanted s0 gs) (word s0 y.0) (word s0 v.0)

  selects_more : Selects (g ∷ gs) y v m (slot (p.1.next + 1), with_fresh (fresh kind g.offset block) choice m1)
  selects_more =
      record {
        table = r.table;
        next = let le = r.next in omega arith;
        fits = omega arith;
        adds = λ turn s.
            let s1 = state p.1 turn s in
            let s2 = loaded turn s in
            subst (λ (z : SlotState). Adds m.next (state m turn s) z) (sym (after turn s))
            (adds_both m.next p.1.next (state m turn s) s1 (chosen turn s) r.next (r.adds turn s)
            (adds_both p.1.next p.1.next s1 s2 (chosen turn s) (omega arith) (adds_word p.1.next p.1.next (word s1 v.0) s1 (omega arith)) (adds_word p.1.next (p.1.next + 1) (right_word choice turn s2) s2 (omega arith))));
        word = λ turn s. ap (λ (z : SlotState). word z (p.1.next + 1)) (after turn s) ∙ gets turn s;
      }

pub selects_all : (kind : Kind) (block : ℕ) (v : SlotId) (gs : List Guard) (y : SlotId) (m : Made) → v.0 < m.next → y.0 < m.next → LowGuards m.next gs → Selects gs y v m (selected kind block v gs y m)
selects_all kind block v [] y m lv ly low =
    record { table = refl; next = omega arith; fits = ly; adds = λ turn s. record { world = refl; arrays = refl; below = λ j h. refl }; word = λ turn s. refl }
selects_all kind block v (g ∷ gs) y m lv ly low = selects_more kind block v g gs y m (selected kind block v gs y m) (selects_all kind block v gs y m lv ly low.1) lv low.0
