-- One register of one host is written, and nothing else changes but what was sent and how many own words were taken.
use Rattle.std.proofs.Common.{◌≡◌, ◌≢◌, ℕ, [], ◌∷◌, refl, sym, ap, subst, ◌∙◌}
use native.Mathlib.Decide.{ℕ_discrete}
use Rattle.vd_execution.specs.declared.instructions.Reg.{Reg}
use Rattle.vd_execution.specs.declared.instructions.Action.TheVariants as action
use Rattle.vd_execution.specs.Registers.{put}
use Rattle.vd_execution.specs.Step.{Inputs}
use Rattle.vd_execution.specs.Joint.{Host, Hosts, after_msg, said_to, has_heard}
use Rattle.vd_execution.proofs.Front.{put_same, put_other}

pub record Writes (h r v : ℕ) (w w' : Hosts) : Type 0 where
  pub there : (w' h).registers r ≡ v
  pub elsewhere : (k q : ℕ) → (k ≡ h → q ≡ r → ⊥) → (w' k).registers q ≡ (w k).registers q
  pub inputs : (k : ℕ) → (w' k).cursors Inputs ≡ (w k).cursors Inputs
  pub printed : (k : ℕ) → (w' k).printed ≡ (w k).printed

abbrev pub wrote : ℕ → ℕ → Host → Host
wrote r v s = record s { registers = put s.registers r v }

-- what one host keeps, all hosts do
same : {A : Type 0} (w : Hosts) (h : ℕ) (new : Host) (k : ℕ) (f : Host → A) → f new ≡ f (w h) → f (put w h new k) ≡ f (w k)
same w h new k f e =
    elim (ℕ_discrete k h) [
      | yes i ↦ let P : ℕ → Type 0 = λ z. f (put w h new z) ≡ f (w z) in subst P (sym i) (ap f (put_same w h new) ∙ e)
      | no d ↦ ap f (put_other w h new k d)
    ]

-- a host's registers change at one place
one_place : (w : Hosts) (h r v : ℕ) (new : Host) → new.registers ≡ put (w h).registers r v
    → (k q : ℕ) → (k ≡ h → q ≡ r → ⊥) → (put w h new k).registers q ≡ (w k).registers q
one_place w h r v new is k q n =
    elim (ℕ_discrete k h) [
      | yes e ↦ let P : ℕ → Type 0 = λ z. (put w h new z).registers q ≡ (w z).registers q in
          subst P (sym e) (ap (λ (s : Host). s.registers q) (put_same w h new) ∙ ap (λ (f : ℕ → ℕ). f q) is ∙ put_other (w h).registers r v q (n e))
      | no d ↦ ap (λ (s : Host). s.registers q) (put_other w h new k d)
    ]

-- a host writes a register by itself
pub writes_own : (h r v : ℕ) (w : Hosts) → Writes h r v w (put w h (wrote r v (w h)))
writes_own h r v w = record {
  there = ap (λ (s : Host). s.registers r) (put_same w h (wrote r v (w h))) ∙ put_same (w h).registers r v;
  elsewhere = one_place w h r v (wrote r v (w h)) refl;
  inputs = λ k. same w h (wrote r v (w h)) k (λ (x : Host). x.cursors Inputs) refl;
  printed = λ k. same w h (wrote r v (w h)) k (λ (x : Host). x.printed) refl;
}

-- a host hears a word of another
pub writes_heard : (a : ℕ) (x : Reg) (b : ℕ) (y : Reg) (w : Hosts) → a ≢ b → Writes b y.0 ((w a).registers x.0) w (after_msg a (x ∷ []) b (y ∷ []) w)
writes_heard a x b y w apart = record {
  there = ap (λ (s : Host). s.registers y.0) (put_same u b heard) ∙ put_same (w b).registers y.0 word;
  elsewhere = λ k q n. elsewhere k q n;
  inputs = λ k. both k (λ (z : Host). z.cursors Inputs) refl refl;
  printed = λ k. both k (λ (z : Host). z.printed) refl refl;
}
  where
    word : ℕ
    word = (w a).registers x.0

    said : Host
    said = said_to b ((w a).registers x.0 ∷ []) (w a)

    heard : Host
    heard = has_heard (y ∷ []) ((w a).registers x.0 ∷ []) (w b)

    u : Hosts
    u = put w a (said_to b ((w a).registers x.0 ∷ []) (w a))

    both : {A : Type 0} (k : ℕ) (f : Host → A) → f said ≡ f (w a) → f heard ≡ f (w b) → f (put u b heard k) ≡ f (w k)
    both k f e g =
        elim (ℕ_discrete k b) [
          | yes i ↦ let P : ℕ → Type 0 = λ z. f (put u b heard z) ≡ f (w z) in subst P (sym i) (ap f (put_same u b heard) ∙ g)
          | no d ↦ ap f (put_other u b heard k d) ∙ same w a said k f e
        ]

    elsewhere : (k q : ℕ) → (k ≡ b → q ≡ y.0 → ⊥) → (put u b heard k).registers q ≡ (w k).registers q
    elsewhere k q n =
        elim (ℕ_discrete k b) [
          | yes i ↦ let P : ℕ → Type 0 = λ z. (put u b heard z).registers q ≡ (w z).registers q in
              subst P (sym i) (ap (λ (s : Host). s.registers q) (put_same u b heard) ∙ put_other (w b).registers y.0 word q (n i))
          | no d ↦ ap (λ (s : Host). s.registers q) (put_other u b heard k d) ∙ same w a said k (λ (s : Host). s.registers q) refl
        ]
