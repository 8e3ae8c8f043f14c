-- A turn begins by acts.
use Rattle.std.proofs.Common.{◌≡◌, ◌≢◌, ℕ, if◌then◌else◌, Bool, List, [], ◌∷◌, ◌⊎◌, inl, inr, refl, sym, ap, subst, ◌∙◌}
use Rattle.std.proofs.lemmas.Bool.{eq-eqb, ne_eqb}
use mathlib.Core.Path.{fun_ext}
use Rattle.vd_execution.specs.declared.instructions.Action.TheVariants as action
use Rattle.vd_execution.specs.Text.{register}
use Rattle.vd_execution.specs.Registers.{put}
use Rattle.vd_execution.specs.World.{Tape}
use Rattle.vd_execution.specs.Joint.{Part, TakesPart, Apart, Joint, Host, Hosts, after_do, acted, if_part, turn_begun, joint, IsSmooth}
use Rattle.vd_execution.proofs.Front.{put_same, put_other, same_or_not}
use Rattle.vd_choreography_reorder.specs.LaidOut.{turn_begins}

-- a host with the number of the turn in its counter
abbrev counted : ℕ → Host → ℕ → Host
counted i s r = record s { registers = put s.registers r i }

no_part : (ps : List Part) (h : ℕ) → (TakesPart ps h → ⊥) → (f : ℕ → Host) (s : Host) → if_part ps h f s ≡ s
no_part [] h n f s = refl
no_part (p ∷ ps) h n f s = ap (λ (b : Bool). if b then f p.1 else if_part ps h f s) (ne_eqb h p.0 (λ e. n (inl e))) ∙ no_part ps h (λ t. n (inr t)) f s

-- the first host, and then the others
module _ (t : Tape) (p : Part) (ps : List Part) (i : ℕ) (w : Hosts) (out : TakesPart ps p.0 → ⊥) where
  abbrev one : Hosts
  one = after_do t p.0 (action.Const (register p.1) i) w

  at_first : turn_begun ps i one p.0 ≡ counted i (w p.0) p.1
  at_first = no_part ps p.0 out (counted i (one p.0)) (one p.0) ∙ put_same w p.0 (acted (t p.0) (action.Const (register p.1) i) (w p.0))

  at_other : (h : ℕ) → h ≢ p.0 → turn_begun ps i one h ≡ if_part ps h (counted i (w h)) (w h)
  at_other h n = ap (λ (s : Host). if_part ps h (counted i s) s) (put_other w p.0 (acted (t p.0) (action.Const (register p.1) i) (w p.0)) h n)

  at : (h : ℕ) → (h ≡ p.0) ⊎ (h ≢ p.0) → turn_begun ps i one h ≡ turn_begun (p ∷ ps) i w h
  at h (inl e) =
      subst (λ (g : ℕ). turn_begun ps i one g ≡ turn_begun (p ∷ ps) i w g) (sym e)
      (at_first ∙ sym (ap (λ (b : Bool). if b then counted i (w p.0) p.1 else if_part ps p.0 (counted i (w p.0)) (w p.0)) (eq-eqb p.0 p.0 refl)))
  at h (inr n) = at_other h n ∙ sym (ap (λ (b : Bool). if b then counted i (w h) p.1 else if_part ps h (counted i (w h)) (w h)) (ne_eqb h p.0 n))

  begun_by_one : turn_begun ps i one ≡ turn_begun (p ∷ ps) i w
  begun_by_one = fun_ext (λ h. at h (same_or_not h p.0))

pub begins : (t : Tape) (ps : List Part) (i : ℕ) (j : Joint) (w : Hosts) → Apart ps → joint t (turn_begins ps i j) w ≡ joint t j (turn_begun ps i w)
begins t [] i j w apart = refl
begins t (p ∷ ps) i j w apart = begins t ps i j (one t p ps i w apart.0) apart.1 ∙ ap (λ (v : Hosts). joint t j v) (begun_by_one t p ps i w apart.0)

pub begins_smooth : (t : Tape) (ps : List Part) (i : ℕ) (j : Joint) (w : Hosts) → Apart ps → IsSmooth t j (turn_begun ps i w) → IsSmooth t (turn_begins ps i j) w
begins_smooth t [] i j w apart s = s
begins_smooth t (p ∷ ps) i j w apart s =
    (tt, begins_smooth t ps i j (one t p ps i w apart.0) apart.1 (subst (λ (v : Hosts). IsSmooth t j v) (sym (begun_by_one t p ps i w apart.0)) s))
