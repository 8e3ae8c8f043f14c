-- Which registers gadgets can write, whatever words come: all others keep their words, and nothing is printed or read.
use Rattle.std.proofs.Common.{◌≡◌, ℕ, ◌+◌, ◌<◌, ◌≤◌, nat_eq, nat_lt, nat_le, ◌&&◌, Bool, true, false, if◌then◌else◌, List, [], ◌∷◌, ◌++◌, refl, sym, ap, subst, ◌∙◌, arith}
use Rattle.std.proofs.lemmas.Bool.Decides.{nat_tests}
use native.Mathlib.Decide.{ℕ_discrete}
use Rattle.vd_execution.specs.declared.instructions.Action.{Action}
use Rattle.vd_execution.specs.declared.instructions.Action.TheVariants as action
use Rattle.vd_execution.specs.declared.instructions.Reg.{Reg}
use Rattle.vd_execution.specs.Gadgets.{Gadget, Alone, Tells, Shares, BothShare, Opens, Masked, Paired}
use Rattle.vd_execution.specs.Joint.{Host, Hosts, acted, after_do, has_heard, said_to}
use Rattle.vd_execution.specs.Registers.{Registers, put, put_each, zeroed}
use Rattle.vd_execution.specs.Step.{Source, Inputs, Cursors, Nothing, Unequal, advanced}
use Rattle.vd_execution.specs.World.{Tape}
use Rattle.vd_execution.proofs.Front.{put_other, put_same}
use Rattle.vd_duet.specs.Laws.{Each}
use Rattle.vd_integrity_runs.specs.Departing.{RunsGadgets, after_telling}

-- registers of hosts
abbrev pub Registered : Type 1
Registered = ℕ → ℕ → Type 0

module _ (P : Registered) where
  -- a host writes these alone, prints nothing and takes no item
  abbrev pub ActTouches : ℕ → Action → Type 0
  ActTouches h (action.Const r k) = P h r.0
  ActTouches h (action.Copy r x) = P h r.0
  ActTouches h (action.Apply o r x y) = P h r.0
  ActTouches h (action.Shl r x k) = P h r.0
  ActTouches h (action.Shr r x k) = P h r.0
  ActTouches h (action.Mux r c x y) = P h r.0
  ActTouches h (action.Own r) = ⊥
  ActTouches h (action.Triple p a b c) = ⊥
  ActTouches h (action.Bits p a b c) = ⊥
  ActTouches h (action.Pair p s x) = ⊥
  ActTouches h (action.Input r) = ⊥
  ActTouches h (action.Print r) = ⊥
  ActTouches h (action.Hash d n v) = ⊥
  ActTouches h (action.Same x y) = Unit {0}
  ActTouches h (action.Zero r count) = (q : ℕ) → r.0 ≤ q → q < r.0 + count → P h q
  ActTouches h (action.Get r x count i) = P h r.0
  ActTouches h (action.Put x count i s) = (q : ℕ) → x.0 ≤ q → q < x.0 + count → P h q

  abbrev pub Touches : Gadget → Type 0
  Touches (Alone h a) = ActTouches h.0 a
  Touches (Tells a said b heard) = Each (λ r. P b.0 r.0) heard
  Touches (Shares a r b heard) = ⊥
  Touches (BothShare a r heard b q heard_b) = ⊥
  Touches (Opens sharing a x b y heard) = ⊥
  Touches (Masked sharing m n) = ⊥
  Touches (Paired p q) = ⊥

  abbrev pub AllTouch : List Gadget → Type 0
  AllTouch gadgets = Each Touches gadgets

  -- the other registers keep their words
  pub record IsFramed (w w' : Hosts) : Type 0 where
    pub registers : (h r : ℕ) → (P h r → ⊥) → (w' h).registers r ≡ (w h).registers r
    pub printed : (h : ℕ) → (w' h).printed ≡ (w h).printed
    pub inputs : (h : ℕ) → (w' h).cursors Inputs ≡ (w h).cursors Inputs

  framed_here : (w w' : Hosts) → w' ≡ w → IsFramed w w'
  framed_here w w' is = record {
    registers = λ h r n. ap (λ (u : Hosts). (u h).registers r) is;
    printed = λ h. ap (λ (u : Hosts). (u h).printed) is;
    inputs = λ h. ap (λ (u : Hosts). (u h).cursors Inputs) is;
  }

  framed_on : (w u v : Hosts) → IsFramed w u → IsFramed u v → IsFramed w v
  framed_on w u v a b = record {
    registers = λ h r n. b.registers h r n ∙ a.registers h r n;
    printed = λ h. b.printed h ∙ a.printed h;
    inputs = λ h. b.inputs h ∙ a.inputs h;
  }

  -- one host by itself
  record HostFramed (h : ℕ) (s s' : Host) : Type 0 where
    registers : (r : ℕ) → (P h r → ⊥) → s'.registers r ≡ s.registers r
    printed : s'.printed ≡ s.printed
    inputs : s'.cursors Inputs ≡ s.cursors Inputs

  one_put : (h r v : ℕ) (f : Registers) → P h r → (q : ℕ) → (P h q → ⊥) → put f r v q ≡ f q
  one_put h r v f there q n = put_other f r v q (λ e. n (subst (P h) (sym e) there))

  compared : (c : Cursors) (b : Bool) (x y : ℕ) → advanced c (if b then Nothing else Unequal x y) Inputs ≡ c Inputs
  compared c true x y = refl
  compared c false x y = refl

  le_of : (a b : ℕ) → nat_le a b ≡ true → a ≤ b
  le_of a b h = grind (arith, nat_tests)

  lt_of : (a b : ℕ) → nat_lt a b ≡ true → a < b
  lt_of a b h = grind (arith, nat_tests)

  all_zeroed : (h r count : ℕ) (f : Registers) → ((q : ℕ) → r ≤ q → q < r + count → P h q) → (q : ℕ) → (P h q → ⊥) → zeroed f r count q ≡ f q
  unfolding zeroed
  all_zeroed h r count f there q n = by (nat_le r q) (nat_lt q (r + count)) refl refl
    where
      by : (a b : Bool) → nat_le r q ≡ a → nat_lt q (r + count) ≡ b → (if nat_le r q && nat_lt q (r + count) then 0 else f q) ≡ f q
      by true true i j = absurd (n (there q (le_of r q i) (lt_of q (r + count) j)))
      by true false i j = rw (i, j) refl
      by false b i j = rw i refl

  cell_put : (h x count i v : ℕ) (f : Registers) → ((q : ℕ) → x ≤ q → q < x + count → P h q) → (b : Bool) → nat_lt (f i) count ≡ b → (q : ℕ) → (P h q → ⊥) → (if b then put f (x + f i) v else f) q ≡ f q
  cell_put h x count i v f there true is q n =
      let low = lt_of (f i) count is in
      put_other f (x + f i) v q (λ e. n (there q (omega (arith, e)) (omega (arith, e, low))))
  cell_put h x count i v f there false is q n = refl

  acts_framed : (t : Source → ℕ → List ℕ) (h : ℕ) (a : Action) (s : Host) → ActTouches h a → HostFramed h s (acted t a s)
  acts_framed t h (action.Const r k) s there = record { registers = one_put h r.0 _ s.registers there; printed = refl; inputs = refl }
  acts_framed t h (action.Copy r x) s there = record { registers = one_put h r.0 _ s.registers there; printed = refl; inputs = refl }
  acts_framed t h (action.Apply o r x y) s there = record { registers = one_put h r.0 _ s.registers there; printed = refl; inputs = refl }
  acts_framed t h (action.Shl r x k) s there = record { registers = one_put h r.0 _ s.registers there; printed = refl; inputs = refl }
  acts_framed t h (action.Shr r x k) s there = record { registers = one_put h r.0 _ s.registers there; printed = refl; inputs = refl }
  acts_framed t h (action.Mux r c x y) s there = record { registers = one_put h r.0 _ s.registers there; printed = refl; inputs = refl }
  acts_framed t h (action.Own r) s there = absurd there
  acts_framed t h (action.Triple p a b c) s there = absurd there
  acts_framed t h (action.Bits p a b c) s there = absurd there
  acts_framed t h (action.Pair p s' x) s there = absurd there
  acts_framed t h (action.Input r) s there = absurd there
  acts_framed t h (action.Print r) s there = absurd there
  acts_framed t h (action.Hash d n v) s there = absurd there
  acts_framed t h (action.Same x y) s there =
      record { registers = λ r n. refl; printed = refl; inputs = compared s.cursors (nat_eq (s.registers x.0) (s.registers y.0)) (s.registers x.0) (s.registers y.0) }
  acts_framed t h (action.Zero r count) s there = record { registers = all_zeroed h r.0 count s.registers there; printed = refl; inputs = refl }
  acts_framed t h (action.Get r x count i) s there = record { registers = one_put h r.0 _ s.registers there; printed = refl; inputs = refl }
  acts_framed t h (action.Put x count i v) s there =
      record { registers = cell_put h x.0 count i.0 (s.registers v.0) s.registers there (nat_lt (s.registers i.0) count) refl; printed = refl; inputs = refl }

  -- what holds of one host, and of no other
  host_framed : (w : Hosts) (h : ℕ) (new : Host) → HostFramed h (w h) new → IsFramed w (put w h new)
  host_framed w h new one = record {
    registers = λ k r n. elim (ℕ_discrete k h) [
      | yes i ↦ let Q : ℕ → Type 0 = λ z. (put w h new z).registers r ≡ (w z).registers r in subst Q (sym i) (ap (λ (s : Host). s.registers r) (put_same w h new) ∙ one.registers r (λ p. n (subst (λ z. P z r) (sym i) p)))
      | no d ↦ ap (λ (s : Host). s.registers r) (put_other w h new k d)
    ];
    printed = λ k. elim (ℕ_discrete k h) [
      | yes i ↦ let Q : ℕ → Type 0 = λ z. (put w h new z).printed ≡ (w z).printed in subst Q (sym i) (ap (λ (s : Host). s.printed) (put_same w h new) ∙ one.printed)
      | no d ↦ ap (λ (s : Host). s.printed) (put_other w h new k d)
    ];
    inputs = λ k. elim (ℕ_discrete k h) [
      | yes i ↦ let Q : ℕ → Type 0 = λ z. (put w h new z).cursors Inputs ≡ (w z).cursors Inputs in subst Q (sym i) (ap (λ (s : Host). s.cursors Inputs) (put_same w h new) ∙ one.inputs)
      | no d ↦ ap (λ (s : Host). s.cursors Inputs) (put_other w h new k d)
    ];
  }

  all_put : (h : ℕ) (f : Registers) (rs : List Reg) (words : List ℕ) → Each (λ r. P h r.0) rs → (q : ℕ) → (P h q → ⊥) → put_each f rs words q ≡ f q
  all_put h f [] words there q n = refl
  all_put h f (r ∷ rs) [] there q n = refl
  all_put h f (r ∷ rs) (x ∷ words) there q n = all_put h (put f r.0 x) rs words there.1 q n ∙ one_put h r.0 x f there.0 q n

  told_framed : (from : ℕ) (words : List ℕ) (to : ℕ) (heard : List Reg) (w : Hosts) → Each (λ r. P to r.0) heard → IsFramed w (after_telling from words to heard w)
  told_framed from words to heard w there =
      let said = said_to to words (w from) in
      let u = put w from said in
      let new = has_heard heard words (w to) in
      let first : IsFramed w u = host_framed w from said (record { registers = λ r n. refl; printed = refl; inputs = refl }) in
      record {
        registers = λ k r n. elim (ℕ_discrete k to) [
          | yes i ↦ let Q : ℕ → Type 0 = λ z. (put u to new z).registers r ≡ (w z).registers r in
              subst Q (sym i) (ap (λ (s : Host). s.registers r) (put_same u to new) ∙ all_put to (w to).registers heard words there r (λ p. n (subst (λ z. P z r) (sym i) p)))
          | no d ↦ ap (λ (s : Host). s.registers r) (put_other u to new k d) ∙ first.registers k r n
        ];
        printed = λ k. elim (ℕ_discrete k to) [
          | yes i ↦ let Q : ℕ → Type 0 = λ z. (put u to new z).printed ≡ (w z).printed in subst Q (sym i) (ap (λ (s : Host). s.printed) (put_same u to new))
          | no d ↦ ap (λ (s : Host). s.printed) (put_other u to new k d) ∙ first.printed k
        ];
        inputs = λ k. elim (ℕ_discrete k to) [
          | yes i ↦ let Q : ℕ → Type 0 = λ z. (put u to new z).cursors Inputs ≡ (w z).cursors Inputs in subst Q (sym i) (ap (λ (s : Host). s.cursors Inputs) (put_same u to new))
          | no d ↦ ap (λ (s : Host). s.cursors Inputs) (put_other u to new k d) ∙ first.inputs k
        ];
      }

  -- gadgets in a row
  pub runs_framed : (keeps : ℕ → Bool) (t : Tape) (gadgets : List Gadget) (w w' : Hosts) → AllTouch gadgets → RunsGadgets keeps t gadgets w w' → IsFramed w w'
  runs_framed keeps t [] w w' touch run = framed_here w w' run
  runs_framed keeps t (Alone h a ∷ gs) w w' touch run =
      let u = after_do t h.0 a w in
      framed_on w u w' (host_framed w h.0 (acted (t h.0) a (w h.0)) (acts_framed (t h.0) h.0 a (w h.0) touch.0)) (runs_framed keeps t gs u w' touch.1 run.1)
  runs_framed keeps t (Tells a said b heard ∷ gs) w w' touch run =
      let u = after_telling a.0 run.0 b.0 heard w in
      framed_on w u w' (told_framed a.0 run.0 b.0 heard w touch.0) (runs_framed keeps t gs u w' touch.1 run.1.1)
  runs_framed keeps t (Shares a r b heard ∷ gs) w w' touch run = absurd touch.0
  runs_framed keeps t (BothShare a r heard b q heard_b ∷ gs) w w' touch run = absurd touch.0
  runs_framed keeps t (Opens sharing a x b y heard ∷ gs) w w' touch run = absurd touch.0
  runs_framed keeps t (Masked sharing m n ∷ gs) w w' touch run = absurd touch.0
  runs_framed keeps t (Paired p q ∷ gs) w w' touch run = absurd touch.0

  pub touch_append : (xs ys : List Gadget) → AllTouch xs → AllTouch ys → AllTouch (xs ++ ys)
  touch_append [] ys a b = b
  touch_append (x ∷ xs) ys a b = (a.0, touch_append xs ys a.1 b)

-- ---- more registers
module _ (P Q : Registered) (wider : (h r : ℕ) → P h r → Q h r) where
  act_wider : (h : ℕ) (a : Action) → ActTouches P h a → ActTouches Q h a
  act_wider h (action.Const r k) there = wider h r.0 there
  act_wider h (action.Copy r x) there = wider h r.0 there
  act_wider h (action.Apply o r x y) there = wider h r.0 there
  act_wider h (action.Shl r x k) there = wider h r.0 there
  act_wider h (action.Shr r x k) there = wider h r.0 there
  act_wider h (action.Mux r c x y) there = wider h r.0 there
  act_wider h (action.Own r) there = there
  act_wider h (action.Triple p a b c) there = there
  act_wider h (action.Bits p a b c) there = there
  act_wider h (action.Pair p s x) there = there
  act_wider h (action.Input r) there = there
  act_wider h (action.Print r) there = there
  act_wider h (action.Hash d n v) there = there
  act_wider h (action.Same x y) there = there
  act_wider h (action.Zero r count) there = λ q low high. wider h q (there q low high)
  act_wider h (action.Get r x count i) there = wider h r.0 there
  act_wider h (action.Put x count i s) there = λ q low high. wider h q (there q low high)

  heard_wider : (h : ℕ) (rs : List Reg) → Each (λ r. P h r.0) rs → Each (λ r. Q h r.0) rs
  heard_wider h [] there = tt
  heard_wider h (r ∷ rs) there = (wider h r.0 there.0, heard_wider h rs there.1)

  one_wider : (g : Gadget) → Touches P g → Touches Q g
  one_wider (Alone h a) there = act_wider h.0 a there
  one_wider (Tells a said b heard) there = heard_wider b.0 heard there
  one_wider (Shares a r b heard) there = there
  one_wider (BothShare a r heard b q heard_b) there = there
  one_wider (Opens sharing a x b y heard) there = there
  one_wider (Masked sharing m n) there = there
  one_wider (Paired p q) there = there

  pub touch_wider : (gs : List Gadget) → AllTouch P gs → AllTouch Q gs
  touch_wider [] there = tt
  touch_wider (g ∷ gs) there = (one_wider g there.0, touch_wider gs there.1)
