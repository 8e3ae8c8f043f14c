-- Exchanged joint code tells the same.
use Rattle.std.proofs.Common.{◌≡◌, ℕ, zero, suc, Bool, true, false, if◌then◌else◌, List, refl, sym, ap, ◌∙◌, subst}
use Rattle.vd_execution.specs.World.{Tape}
use Rattle.vd_execution.specs.Joint.{Part, Joint, Do, Msg, If, For, Hosts, is_other, turn_begun, turns, joint, AllTurns, IsSmooth}
use Rattle.vd_reorder.specs.Turning.{Turn, Does, Tells, then_goes, gone_by, Compares, look, AreAlike, MayTurn, Spot, Here, Behind, InFirst, InOther, InBody, BehindBranch, BehindLoop, with_joint, IsTurned, Turns, TellsTheSame, TurnedCodeTellsTheSame}
use Rattle.vd_reorder.proofs.Alike.{begun_alike, joint_alike, smooth_alike}

joint_then : (t : Tape) (x : Turn) (j : Joint) (w : Hosts) → joint t (then_goes x j) w ≡ joint t j (gone_by t x w)
joint_then t (Does h a) j w = refl
joint_then t (Tells a said b heard) j w = refl

smooth_then : (t : Tape) (x : Turn) (j : Joint) (w : Hosts) → IsSmooth t (then_goes x j) w → Compares x w × IsSmooth t j (gone_by t x w)
smooth_then t (Does h a) j w s = s
smooth_then t (Tells a said b heard) j w s = (tt, s)

smooth_both : (t : Tape) (x : Turn) (j : Joint) (w : Hosts) → Compares x w → IsSmooth t j (gone_by t x w) → IsSmooth t (then_goes x j) w
smooth_both t (Does h a) j w c s = (c, s)
smooth_both t (Tells a said b heard) j w c s = s

same_alike : (w v x y : Hosts) → w ≡ x → AreAlike x y → v ≡ y → AreAlike w v
same_alike w v x y e all f h = ap (λ (u : Hosts). look (u h)) e ∙ all h ∙ sym (ap (λ (u : Hosts). look (u h)) f)

first_alike : (b : Bool) (x y z : Hosts) → (b ≡ false → AreAlike y z) → AreAlike (if b then x else y) (if b then x else z)
first_alike true x y z f h = refl
first_alike false x y z f h = f refl h

other_alike : (b : Bool) (x y z : Hosts) → (b ≡ true → AreAlike x z) → AreAlike (if b then x else y) (if b then z else y)
other_alike true x y z f h = f refl h
other_alike false x y z f h = refl

-- turns of which each keeps what runs smoothly
record Both (P : Type 0) (w v : Hosts) : Type 0 where
  holds : P
  alike : AreAlike w v

body_turns : (P Q : ℕ → Hosts → Type 0) (old new : ℕ → Hosts → Hosts) → ((i : ℕ) (w v : Hosts) → AreAlike w v → P i w → Both (Q i v) (old i w) (new i v)) → (n i : ℕ) (w v : Hosts)
    → AreAlike w v → AllTurns P old n i w → Both (AllTurns Q new n i v) (turns old n i w) (turns new n i v)
body_turns P Q old new each zero i w v all s = record { holds = tt; alike = all }
body_turns P Q old new each (suc n) i w v all s =
    let one = each i w v all s.0 in
    let more = body_turns P Q old new each n (suc i) (old i w) (new i v) one.alike s.1 in
    record { holds = (one.holds, more.holds); alike = more.alike }

module _ (t : Tape) (x y : Turn) (rest : Joint) (may : MayTurn x y) where
  abbrev old : Joint
  old = then_goes x (then_goes y rest)

  abbrev new : Joint
  new = then_goes y (then_goes x rest)

  here : (w : Hosts) → IsSmooth t old w → TellsTheSame t w old new
  here w s =
      let p = smooth_then t x (then_goes y rest) w s in
      let q = smooth_then t y rest (gone_by t x w) p.1 in
      record {
        smooth = smooth_both t y (then_goes x rest) w (may.first t w q.0)
            (smooth_both t x rest (gone_by t y w) (may.second t w p.0) (smooth_alike t rest _ _ (may.alike t w) q.1));
        alike = same_alike _ _ _ _ (joint_then t x (then_goes y rest) w ∙ joint_then t y rest (gone_by t x w)) (joint_alike t rest _ _ (may.alike t w))
            (joint_then t y (then_goes x rest) w ∙ joint_then t x rest (gone_by t y w));
      }

  at_spot : (p : Spot) (w : Hosts) → IsSmooth t (with_joint p old) w → TellsTheSame t w (with_joint p old) (with_joint p new)
  at_spot Here w s = here w s
  at_spot (Behind z p) w s =
      let q = smooth_then t z (with_joint p old) w s in
      let r = at_spot p (gone_by t z w) q.1 in
      record {
        smooth = smooth_both t z (with_joint p new) w q.0 r.smooth;
        alike = same_alike _ _ _ _ (joint_then t z (with_joint p old) w) r.alike (joint_then t z (with_joint p new) w);
      }
  at_spot (InFirst ps p other k) w s =
      let branch = first_alike (is_other ps w) (joint t other w) (joint t (with_joint p old) w) (joint t (with_joint p new) w) (λ is. (at_spot p w (s.1.0.1 is)).alike) in
      record {
        smooth = (s.0, ((s.1.0.0, λ is. (at_spot p w (s.1.0.1 is)).smooth), smooth_alike t k _ _ branch s.1.1));
        alike = joint_alike t k _ _ branch;
      }
  at_spot (InOther ps first p k) w s =
      let branch = other_alike (is_other ps w) (joint t (with_joint p old) w) (joint t first w) (joint t (with_joint p new) w) (λ is. (at_spot p w (s.1.0.0 is)).alike) in
      record {
        smooth = (s.0, ((λ is. (at_spot p w (s.1.0.0 is)).smooth, s.1.0.1), smooth_alike t k _ _ branch s.1.1));
        alike = joint_alike t k _ _ branch;
      }
  at_spot (InBody ps count p k) w s =
      let turned = body_turns (λ i v. IsSmooth t (with_joint p old) (turn_begun ps i v)) (λ i v. IsSmooth t (with_joint p new) (turn_begun ps i v))
      (λ i v. joint t (with_joint p old) (turn_begun ps i v)) (λ i v. joint t (with_joint p new) (turn_begun ps i v))
      (λ i u v all one.
      let begun = begun_alike ps i u v all in
      let r = at_spot p (turn_begun ps i v) (smooth_alike t (with_joint p old) (turn_begun ps i u) (turn_begun ps i v) begun one) in
      record { holds = r.smooth; alike = λ h. joint_alike t (with_joint p old) (turn_begun ps i u) (turn_begun ps i v) begun h ∙ r.alike h })
      count 0 w w (λ h. refl) s.0 in
      record { smooth = (turned.holds, smooth_alike t k _ _ turned.alike s.1); alike = joint_alike t k _ _ turned.alike }
  at_spot (BehindBranch ps first other p) w s =
      let r = at_spot p (if is_other ps w then joint t other w else joint t first w) s.1.1 in
      record { smooth = (s.0, (s.1.0, r.smooth)); alike = r.alike }
  at_spot (BehindLoop ps count body p) w s =
      let r = at_spot p (turns (λ i v. joint t body (turn_begun ps i v)) count 0 w) s.1 in
      record { smooth = (s.0, r.smooth); alike = r.alike }

one_turned : (t : Tape) (w : Hosts) (j k : Joint) → IsTurned j k → IsSmooth t j w → TellsTheSame t w j k
one_turned t w j k x s =
    let r = at_spot t x.first x.second x.rest x.may x.spot w (subst (λ (i : Joint). IsSmooth t i w) x.old s) in
    record {
      smooth = subst (λ (i : Joint). IsSmooth t i w) (sym x.new) r.smooth;
      alike = same_alike _ _ _ _ (ap (λ (i : Joint). joint t i w) x.old) r.alike (ap (λ (i : Joint). joint t i w) x.new);
    }

pub tells_the_same : TurnedCodeTellsTheSame
tells_the_same t w zero j k x s = record { smooth = subst (λ (i : Joint). IsSmooth t i w) x s; alike = λ h. ap (λ (i : Joint). look (joint t i w h)) x }
tells_the_same t w (suc n) j k x s =
    let one = one_turned t w j x.0 x.1 s in
    let more = tells_the_same t w n x.0 k x.2 one.smooth in
    record { smooth = more.smooth; alike = λ h. one.alike h ∙ more.alike h }
