-- Words in registers of one host that follow each other: what an act adds to the hosts.
use Rattle.std.proofs.Common.{◌≡◌, ◌≢◌, ℕ, zero, suc, ◌+◌, ◌-◌, ◌<◌, List, [], ◌∷◌, ◌++◌, inl, inr, length, refl, sym, ap, subst, ◌∙◌, arith, add-zero, length-append}
use Rattle.std.proofs.lemmas.Bool.{cases_lt}
use Rattle.std.proofs.lemmas.List.{get_or_append_left, get_or-append-add}
use native.Mathlib.Decide.{ℕ_discrete}
use Rattle.vd_execution.specs.declared.instructions.Reg.{Reg}
use Rattle.vd_execution.specs.declared.instructions.Action.{Action}
use Rattle.vd_execution.specs.Registers.{Registers, put, nth}
use Rattle.vd_execution.specs.Step.{Source, Inputs, words_in}
use Rattle.vd_execution.specs.Joint.{Host, Hosts, acted, after_do, after_msg, said_to, has_heard}
use Rattle.vd_execution.specs.World.{Tape}
use Rattle.vd_execution.proofs.Front.{put_same, put_other}

-- the registers of host h from this one on get words, and no other host's change; what stands behind is left open
pub record Adds (h from : ℕ) (ws : List ℕ) (u u' : Hosts) : Type 0 where
  pub there : (i : ℕ) → i < length ws → (u' h).registers (from + i) ≡ nth ws i
  pub below : (r : ℕ) → r < from → (u' h).registers r ≡ (u h).registers r
  pub others : (k r : ℕ) → k ≢ h → (u' k).registers r ≡ (u k).registers r
  pub printed : (k : ℕ) → (u' k).printed ≡ (u k).printed
  pub inputs : (k : ℕ) → (u' k).cursors Inputs ≡ (u k).cursors Inputs

-- what one host keeps, all hosts do
pub kept_by_all : {A : Type 0} (w : Hosts) (h : ℕ) (new : Host) (k : ℕ) (f : Host → A) → f new ≡ f (w h) → f (put w h new k) ≡ f (w k)
kept_by_all w h new k f e =
    elim (ℕ_discrete k h) [
      | yes i ↦ let P : ℕ → Type 0 = λ z. f (put w h new z) ≡ f (w z) in subst P (sym i) (ap f (put_same w h new) ∙ e)
      | no d ↦ ap f (put_other w h new k d)
    ]

pub put_adds : (h from : ℕ) (ws : List ℕ) (new : Host) (u : Hosts) → ((i : ℕ) → i < length ws → new.registers (from + i) ≡ nth ws i)
    → ((r : ℕ) → r < from → new.registers r ≡ (u h).registers r) → new.printed ≡ (u h).printed → new.cursors Inputs ≡ (u h).cursors Inputs
    → Adds h from ws u (put u h new)
put_adds h from ws new u there below printed inputs = record {
  there = λ i low. ap (λ (s : Host). s.registers (from + i)) (put_same u h new) ∙ there i low;
  below = λ r low. ap (λ (s : Host). s.registers r) (put_same u h new) ∙ below r low;
  others = λ k r d. ap (λ (s : Host). s.registers r) (put_other u h new k d);
  printed = λ k. kept_by_all u h new k (λ (s : Host). s.printed) printed;
  inputs = λ k. kept_by_all u h new k (λ (s : Host). s.cursors Inputs) inputs;
}

-- ---- words in a row

one_there : (f : Registers) (r v : ℕ) (i : ℕ) → i < 1 → put f r v (r + i) ≡ nth (v ∷ []) i
one_there f r v zero low = ap (put f r v) (add-zero r) ∙ put_same f r v
one_there f r v (suc i) low = absurd (too_high i low)
  where
    too_high : (i : ℕ) → suc i < 1 → ⊥
    too_high i low = omega (arith, low)

one_below : (f : Registers) (r v q : ℕ) → q < r → put f r v q ≡ f q
one_below f r v q low = put_other f r v q (λ e. omega (arith, low, e))

two_there : (f : Registers) (r s v u : ℕ) → s ≡ r + 1 → (i : ℕ) → i < 2 → put (put f r v) s u (r + i) ≡ nth (v ∷ u ∷ []) i
two_there f r s v u e zero low = put_other (put f r v) s u (r + 0) (λ q. omega (arith, e, q)) ∙ ap (put f r v) (add-zero r) ∙ put_same f r v
two_there f r s v u e (suc zero) low = ap (put (put f r v) s u) (sym e) ∙ put_same (put f r v) s u
two_there f r s v u e (suc (suc i)) low = absurd (too_high i low)
  where
    too_high : (i : ℕ) → suc (suc i) < 2 → ⊥
    too_high i low = omega (arith, low)

two_below : (f : Registers) (r s v u q : ℕ) → s ≡ r + 1 → q < r → put (put f r v) s u q ≡ f q
two_below f r s v u q e low = put_other (put f r v) s u q (λ i. omega (arith, low, e, i)) ∙ one_below f r v q low

three_there : (f : Registers) (r s t v u z : ℕ) → s ≡ r + 1 → t ≡ r + 2 → (i : ℕ) → i < 3 → put (put (put f r v) s u) t z (r + i) ≡ nth (v ∷ u ∷ z ∷ []) i
three_there f r s t v u z e g zero low =
    put_other (put (put f r v) s u) t z (r + 0) (λ q. omega (arith, g, q)) ∙ two_there f r s v u e 0 (omega arith)
three_there f r s t v u z e g (suc zero) low =
    put_other (put (put f r v) s u) t z (r + 1) (λ q. omega (arith, g, q)) ∙ two_there f r s v u e 1 (omega arith)
three_there f r s t v u z e g (suc (suc zero)) low = ap (put (put (put f r v) s u) t z) (sym g) ∙ put_same (put (put f r v) s u) t z
three_there f r s t v u z e g (suc (suc (suc i))) low = absurd (too_high i low)
  where
    too_high : (i : ℕ) → suc (suc (suc i)) < 3 → ⊥
    too_high i low = omega (arith, low)

three_below : (f : Registers) (r s t v u z q : ℕ) → s ≡ r + 1 → t ≡ r + 2 → q < r → put (put (put f r v) s u) t z q ≡ f q
three_below f r s t v u z q e g low = put_other (put (put f r v) s u) t z q (λ i. omega (arith, low, g, i)) ∙ two_below f r s v u q e low

-- ---- a host acts by itself

pub do_adds_one : (t : Tape) (h : ℕ) (a : Action) (r v : ℕ) (u : Hosts) → (acted (t h) a (u h)).registers ≡ put (u h).registers r v
    → (acted (t h) a (u h)).printed ≡ (u h).printed → (acted (t h) a (u h)).cursors Inputs ≡ (u h).cursors Inputs
    → Adds h r (v ∷ []) u (after_do t h a u)
do_adds_one t h a r v u is printed inputs =
    put_adds h r (v ∷ []) (acted (t h) a (u h)) u
    (λ i low. ap (λ (f : Registers). f (r + i)) is ∙ one_there (u h).registers r v i low)
    (λ q low. ap (λ (f : Registers). f q) is ∙ one_below (u h).registers r v q low) printed inputs

pub do_adds_two : (t : Tape) (h : ℕ) (a : Action) (r s v z : ℕ) (u : Hosts) → s ≡ r + 1
    → (acted (t h) a (u h)).registers ≡ put (put (u h).registers r v) s z
    → (acted (t h) a (u h)).printed ≡ (u h).printed → (acted (t h) a (u h)).cursors Inputs ≡ (u h).cursors Inputs
    → Adds h r (v ∷ z ∷ []) u (after_do t h a u)
do_adds_two t h a r s v z u e is printed inputs =
    put_adds h r (v ∷ z ∷ []) (acted (t h) a (u h)) u
    (λ i low. ap (λ (f : Registers). f (r + i)) is ∙ two_there (u h).registers r s v z e i low)
    (λ q low. ap (λ (f : Registers). f q) is ∙ two_below (u h).registers r s v z q e low) printed inputs

pub do_adds_three : (t : Tape) (h : ℕ) (a : Action) (r s q x y z : ℕ) (u : Hosts) → s ≡ r + 1 → q ≡ r + 2
    → (acted (t h) a (u h)).registers ≡ put (put (put (u h).registers r x) s y) q z
    → (acted (t h) a (u h)).printed ≡ (u h).printed → (acted (t h) a (u h)).cursors Inputs ≡ (u h).cursors Inputs
    → Adds h r (x ∷ y ∷ z ∷ []) u (after_do t h a u)
do_adds_three t h a r s q x y z u e g is printed inputs =
    put_adds h r (x ∷ y ∷ z ∷ []) (acted (t h) a (u h)) u
    (λ i low. ap (λ (f : Registers). f (r + i)) is ∙ three_there (u h).registers r s q x y z e g i low)
    (λ k low. ap (λ (f : Registers). f k) is ∙ three_below (u h).registers r s q x y z k e g low) printed inputs

-- ---- a message

module _ (a : ℕ) (said : List Reg) (b : ℕ) (heard : List Reg) (u : Hosts) (apart : a ≢ b) where
  abbrev speaks : Host
  speaks = said_to b (words_in (u a).registers said) (u a)

  abbrev hears : Host
  hears = has_heard heard (words_in (u a).registers said) (u b)

  -- what the two hosts of a message keep, all hosts do
  kept_in_message : {A : Type 0} (k : ℕ) (f : Host → A) → f speaks ≡ f (u a) → f hears ≡ f (u b) → f (after_msg a said b heard u k) ≡ f (u k)
  kept_in_message k f e g =
      elim (ℕ_discrete k b) [
        | yes i ↦ let P : ℕ → Type 0 = λ z. f (after_msg a said b heard u z) ≡ f (u z) in subst P (sym i) (ap f (put_same (put u a speaks) b hears) ∙ g)
        | no d ↦ ap f (put_other (put u a speaks) b hears k d) ∙ kept_by_all u a speaks k f e
      ]

  pub msg_cursors : (k : ℕ) (s : Source) → (after_msg a said b heard u k).cursors s ≡ (u k).cursors s
  msg_cursors k s = kept_in_message k (λ (x : Host). x.cursors s) refl refl

  pub msg_adds : (from : ℕ) (ws : List ℕ) → ((i : ℕ) → i < length ws → hears.registers (from + i) ≡ nth ws i)
      → ((r : ℕ) → r < from → hears.registers r ≡ (u b).registers r) → Adds b from ws u (after_msg a said b heard u)
  msg_adds from ws there below = record {
    there = λ i low. ap (λ (s : Host). s.registers (from + i)) (put_same (put u a speaks) b hears) ∙ there i low;
    below = λ r low. ap (λ (s : Host). s.registers r) (put_same (put u a speaks) b hears) ∙ below r low;
    others = λ k r d. ap (λ (s : Host). s.registers r) (put_other (put u a speaks) b hears k d) ∙ kept_by_all u a speaks k (λ (s : Host). s.registers r) refl;
    printed = λ k. kept_in_message k (λ (s : Host). s.printed) refl refl;
    inputs = λ k. kept_in_message k (λ (s : Host). s.cursors Inputs) refl refl;
  }

pub tell_one : (a : ℕ) (x : Reg) (b : ℕ) (y : Reg) (u : Hosts) → a ≢ b
    → Adds b y.0 ((u a).registers x.0 ∷ []) u (after_msg a (x ∷ []) b (y ∷ []) u)
tell_one a x b y u apart =
    msg_adds a (x ∷ []) b (y ∷ []) u apart y.0 ((u a).registers x.0 ∷ [])
    (one_there (u b).registers y.0 ((u a).registers x.0)) (one_below (u b).registers y.0 ((u a).registers x.0))

pub tell_two : (a : ℕ) (x x' : Reg) (b : ℕ) (y y' : Reg) (u : Hosts) → a ≢ b → y'.0 ≡ y.0 + 1
    → Adds b y.0 ((u a).registers x.0 ∷ (u a).registers x'.0 ∷ []) u (after_msg a (x ∷ x' ∷ []) b (y ∷ y' ∷ []) u)
tell_two a x x' b y y' u apart e =
    msg_adds a (x ∷ x' ∷ []) b (y ∷ y' ∷ []) u apart y.0 ((u a).registers x.0 ∷ (u a).registers x'.0 ∷ [])
    (two_there (u b).registers y.0 y'.0 ((u a).registers x.0) ((u a).registers x'.0) e)
    (λ q low. two_below (u b).registers y.0 y'.0 ((u a).registers x.0) ((u a).registers x'.0) q e low)

-- ---- one after the other, at the same host

pub longer : (n : ℕ) (xs ws : List ℕ) (f g : Registers) → ((i : ℕ) → i < length xs → f (n + i) ≡ nth xs i) → ((r : ℕ) → r < n + length xs → g r ≡ f r)
    → ((i : ℕ) → i < length ws → g (n + length xs + i) ≡ nth ws i) → (i : ℕ) → i < length (xs ++ ws) → g (n + i) ≡ nth (xs ++ ws) i
longer n xs ws f g old below new i low =
    elim (cases_lt i (length xs)) [
      | inl e ↦ below (n + i) (omega (arith, e)) ∙ old i e ∙ sym (get_or_append_left xs ws 0 i e)
      | inr e ↦ at (i - length xs) (omega (arith, e))
    ]
  where
    at : (k : ℕ) → i ≡ length xs + k → g (n + i) ≡ nth (xs ++ ws) i
    at k e =
        let both : length (xs ++ ws) ≡ length xs + length ws = length-append xs ws in
        let few : k < length ws = omega (arith, e, low, both) in
        ap g (omega (arith, e)) ∙ new k few ∙ sym (get_or-append-add xs ws k 0) ∙ ap (nth (xs ++ ws)) (sym e)

pub adds_on : (h from : ℕ) (xs ys : List ℕ) (u v z : Hosts) → Adds h from xs u v → Adds h (from + length xs) ys v z → Adds h from (xs ++ ys) u z
adds_on h from xs ys u v z a b = record {
  there = longer from xs ys (v h).registers (z h).registers a.there b.below b.there;
  below = λ r low. b.below r (omega (arith, low)) ∙ a.below r low;
  others = λ k r d. b.others k r d ∙ a.others k r d;
  printed = λ k. b.printed k ∙ a.printed k;
  inputs = λ k. b.inputs k ∙ a.inputs k;
}
