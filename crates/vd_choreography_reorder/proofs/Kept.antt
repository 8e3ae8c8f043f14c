-- What is kept by each step of joint code is kept by all of it.
use Rattle.std.proofs.Common.{◌≡◌, ℕ, zero, suc, Bool, true, false, if◌then◌else◌, List, refl, sym, ◌∙◌, subst}
use Rattle.vd_execution.specs.World.{Tape}
use Rattle.vd_execution.specs.Joint.{Part, Joint, Done, Do, Msg, If, For, Hosts, is_other, turn_begun, turns, joint}
use Rattle.vd_reorder.specs.Turning.{Turn, Does, Tells, then_goes, gone_by, Spot, Here, Behind, InFirst, InOther, InBody, BehindBranch, BehindLoop, with_joint}

-- a relation of hosts that what they do, branches and loops keep
pub record IsKept (R : Hosts → Hosts → Type 0) : Type 0 where
  pub itself : (w : Hosts) → R w w
  pub onwards : (w v u : Hosts) → R w v → R v u → R w u
  pub gone : (t : Tape) (x : Turn) (w v : Hosts) → R w v → R (gone_by t x w) (gone_by t x v)
  pub guards : (ps : List Part) (w v : Hosts) → R w v → is_other ps w ≡ is_other ps v
  pub begun : (ps : List Part) (i : ℕ) (w v : Hosts) → R w v → R (turn_begun ps i w) (turn_begun ps i v)

module _ (R : Hosts → Hosts → Type 0) (is : IsKept R) (t : Tape) where
  pub chosen : (b d : Bool) (x y z u : Hosts) → b ≡ d → R x z → R y u → R (if b then x else y) (if d then z else u)
  chosen true true x y z u e f g = f
  chosen true false x y z u e f g = absurd cc
  chosen false true x y z u e f g = absurd cc
  chosen false false x y z u e f g = g

  pub all_turns : (old new : ℕ → Hosts → Hosts) → ((i : ℕ) (w v : Hosts) → R w v → R (old i w) (new i v)) → (n i : ℕ) (w v : Hosts) → R w v → R (turns old n i w) (turns new n i v)
  all_turns old new each zero i w v r = r
  all_turns old new each (suc n) i w v r = all_turns old new each n (suc i) (old i w) (new i v) (each i w v r)

  pub run_keeps : (j : Joint) (w v : Hosts) → R w v → R (joint t j w) (joint t j v)
  run_keeps Done w v r = r
  run_keeps (Do h a rest) w v r = run_keeps rest (gone_by t (Does h a) w) (gone_by t (Does h a) v) (is.gone t (Does h a) w v r)
  run_keeps (Msg a said b heard rest) w v r = run_keeps rest (gone_by t (Tells a said b heard) w) (gone_by t (Tells a said b heard) v) (is.gone t (Tells a said b heard) w v r)
  run_keeps (If ps first other rest) w v r =
      run_keeps rest _ _
      (chosen (is_other ps w) (is_other ps v) (joint t other w) (joint t first w) (joint t other v) (joint t first v) (is.guards ps w v r) (run_keeps other w v r) (run_keeps first w v r))
  run_keeps (For ps count body rest) w v r =
      run_keeps rest _ _
      (all_turns (λ i x. joint t body (turn_begun ps i x)) (λ i x. joint t body (turn_begun ps i x)) (λ i x y e. run_keeps body (turn_begun ps i x) (turn_begun ps i y) (is.begun ps i x y e)) count 0
      w v r)

  one_branch : (b : Bool) (x y z u : Hosts) → R x z → R y u → R (if b then x else y) (if b then z else u)
  one_branch true x y z u f g = f
  one_branch false x y z u f g = g

  -- two neighbours that lead to the same in either order do so at each place
  module _ (x y : Turn) (rest : Joint) (turn : (w : Hosts) → R (gone_by t x (gone_by t y w)) (gone_by t y (gone_by t x w))) where
    abbrev old : Joint
    old = then_goes x (then_goes y rest)

    abbrev new : Joint
    new = then_goes y (then_goes x rest)

    joint_then : (z : Turn) (j : Joint) (w : Hosts) → joint t (then_goes z j) w ≡ joint t j (gone_by t z w)
    joint_then (Does h a) j w = refl
    joint_then (Tells a said b heard) j w = refl

    back : (w v u s : Hosts) → w ≡ u → v ≡ s → R u s → R w v
    back w v u s e f r = subst (λ k. R k v) (sym e) (subst (R u) (sym f) r)

    pub at_spot : (p : Spot) (w : Hosts) → R (joint t (with_joint p new) w) (joint t (with_joint p old) w)
    at_spot Here w =
        back _ _ (joint t rest (gone_by t x (gone_by t y w))) (joint t rest (gone_by t y (gone_by t x w)))
        (joint_then y (then_goes x rest) w ∙ joint_then x rest (gone_by t y w))
        (joint_then x (then_goes y rest) w ∙ joint_then y rest (gone_by t x w))
        (run_keeps rest _ _ (turn w))
    at_spot (Behind z p) w =
        back _ _ (joint t (with_joint p new) (gone_by t z w)) (joint t (with_joint p old) (gone_by t z w)) (joint_then z (with_joint p new) w) (joint_then z (with_joint p old) w)
        (at_spot p (gone_by t z w))
    at_spot (InFirst ps p other k) w =
        run_keeps k _ _
        (one_branch (is_other ps w) (joint t other w) (joint t (with_joint p new) w) (joint t other w) (joint t (with_joint p old) w) (is.itself (joint t other w)) (at_spot p w))
    at_spot (InOther ps first p k) w =
        run_keeps k _ _
        (one_branch (is_other ps w) (joint t (with_joint p new) w) (joint t first w) (joint t (with_joint p old) w) (joint t first w) (at_spot p w) (is.itself (joint t first w)))
    at_spot (InBody ps count p k) w =
        run_keeps k _ _
        (all_turns (λ i v. joint t (with_joint p new) (turn_begun ps i v)) (λ i v. joint t (with_joint p old) (turn_begun ps i v))
        (λ i u v r.
        is.onwards (joint t (with_joint p new) (turn_begun ps i u)) (joint t (with_joint p old) (turn_begun ps i u)) (joint t (with_joint p old) (turn_begun ps i v)) (at_spot p (turn_begun ps i u))
        (run_keeps (with_joint p old) (turn_begun ps i u) (turn_begun ps i v) (is.begun ps i u v r)))
        count 0 w w (is.itself w))
    at_spot (BehindBranch ps first other p) w = at_spot p (if is_other ps w then joint t other w else joint t first w)
    at_spot (BehindLoop ps count body p) w = at_spot p (turns (λ i v. joint t body (turn_begun ps i v)) count 0 w)
