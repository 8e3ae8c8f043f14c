-- One host acts by itself.
use Rattle.std.proofs.Common.{◌≡◌, ℕ, ◌<◌, List, [], ◌∷◌, slice_index, refl, sym, ap, subst, ◌∙◌}
use native.Mathlib.Decide.{ℕ_discrete}
use Rattle.vd_base.specs.declared.ids.HostId.{HostId}
use Rattle.vd_execution.specs.declared.instructions.Action.{Action}
use Rattle.vd_execution.specs.Registers.{put}
use Rattle.vd_execution.specs.Step.{Inputs}
use Rattle.vd_execution.specs.World.{Tape}
use Rattle.vd_execution.specs.Deals.{IsValidDeal}
use Rattle.vd_execution.specs.Joint.{Host, Hosts, acted, Agrees}
use Rattle.vd_execution.specs.Gadgets.{Alone, TakesNoPart, IsSound}
use Rattle.vd_execution.proofs.Front.{put_same, put_other, gadgets_sound}
use Rattle.vd_duet.specs.Laws.{Leads}

-- what one host keeps, all hosts do
pub same : {A : Type 0} (w : Hosts) (h : ℕ) (new : Host) (k : ℕ) (f : Host → A) → f new ≡ f (w h) → f (put w h new k) ≡ f (w k)
same w h new k f e =
    elim (ℕ_discrete k h) [
      | yes i ↦ let P : ℕ → Type 0 = λ z. f (put w h new z) ≡ f (w z) in subst P (sym i) (ap f (put_same w h new) ∙ e)
      | no d ↦ ap f (put_other w h new k d)
    ]

module _ (t : Tape) (deal : IsValidDeal t) (h : HostId) (a : Action) (w : Hosts) (own : TakesNoPart a) (agrees : Agrees (w h.0).registers a) (sound : IsSound w) where
  abbrev pub new : Host
  new = acted (t h.0) a (w h.0)

  pub sound_after : IsSound (put w h.0 (acted (t h.0) a (w h.0)))
  sound_after = gadgets_sound t deal (Alone h a ∷ []) (own, tt) w sound

  pub alone_leads : (next : List ℕ) (changed : ℕ → ℕ → Type 0) → (acted (t h.0) a (w h.0)).printed ≡ (w h.0).printed
      → (acted (t h.0) a (w h.0)).cursors Inputs ≡ (w h.0).cursors Inputs
      → ((r : ℕ) → r < slice_index next h.0 → (changed h.0 r → ⊥) → (acted (t h.0) a (w h.0)).registers r ≡ (w h.0).registers r)
      → Leads t next changed (Alone h a ∷ []) w (put w h.0 (acted (t h.0) a (w h.0)))
  alone_leads next changed printed inputs kept = record {
    runs = refl;
    agrees = (agrees, tt);
    sound = sound_after;
    kept = λ k r low not. elim (ℕ_discrete k h.0) [
      | yes i ↦ let P : ℕ → Type 0 = λ z. (put w h.0 (acted (t h.0) a (w h.0)) z).registers r ≡ (w z).registers r in
          subst P (sym i) (ap (λ (s : Host). s.registers r) (put_same w h.0 (acted (t h.0) a (w h.0)))
          ∙ kept r (subst (λ z. r < slice_index next z) i low) (λ c. not (subst (λ z. changed z r) (sym i) c)))
      | no d ↦ ap (λ (s : Host). s.registers r) (put_other w h.0 (acted (t h.0) a (w h.0)) k d)
    ];
    printed = λ k. same w h.0 (acted (t h.0) a (w h.0)) k (λ (s : Host). s.printed) printed;
    inputs = λ k. same w h.0 (acted (t h.0) a (w h.0)) k (λ (s : Host). s.cursors Inputs) inputs;
  }
