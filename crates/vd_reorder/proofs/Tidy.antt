-- Exchanged joint code is tidy.
use Rattle.std.proofs.Common.{◌≡◌, ◌≢◌, ℕ, zero, suc, List, length, sym, subst}
use Rattle.vd_execution.specs.Joint.{Part, Joint, Do, Msg, If, For, TakesPart, Within, IsTidy}
use Rattle.vd_reorder.specs.Turning.{Turn, Does, Tells, then_goes, Spot, Here, Behind, InFirst, InOther, InBody, BehindBranch, BehindLoop, with_joint, IsTurned, TurnedCodeIsTidy}

abbrev TurnIsWithin : List Part → Turn → Type 0
TurnIsWithin ps (Does h a) = TakesPart ps h
TurnIsWithin ps (Tells a said b heard) = TakesPart ps a × TakesPart ps b

within_parts : (ps : List Part) (x : Turn) (j : Joint) → Within ps (then_goes x j) → TurnIsWithin ps x × Within ps j
within_parts ps (Does h a) j w = w
within_parts ps (Tells a said b heard) j w = ((w.0, w.1.0), w.1.1)

within_both : (ps : List Part) (x : Turn) (j : Joint) → TurnIsWithin ps x → Within ps j → Within ps (then_goes x j)
within_both ps (Does h a) j p w = (p, w)
within_both ps (Tells a said b heard) j p w = (p.0, (p.1, w))

abbrev TurnIsTidy : Turn → Type 0
TurnIsTidy (Does h a) = Unit {0}
TurnIsTidy (Tells a said b heard) = (a ≢ b) × (length said ≡ length heard)

tidy_parts : (x : Turn) (j : Joint) → IsTidy (then_goes x j) → TurnIsTidy x × IsTidy j
tidy_parts (Does h a) j w = (tt, w)
tidy_parts (Tells a said b heard) j w = ((w.0, w.1.0), w.1.1)

tidy_both : (x : Turn) (j : Joint) → TurnIsTidy x → IsTidy j → IsTidy (then_goes x j)
tidy_both (Does h a) j p w = w
tidy_both (Tells a said b heard) j p w = (p.0, (p.1, w))

module _ (x y : Turn) (rest : Joint) where
  abbrev old : Joint
  old = then_goes x (then_goes y rest)

  abbrev new : Joint
  new = then_goes y (then_goes x rest)

  within_spot : (ps : List Part) (p : Spot) → Within ps (with_joint p old) → Within ps (with_joint p new)
  within_spot ps Here w =
      let a = within_parts ps x (then_goes y rest) w in
      let b = within_parts ps y rest a.1 in
      within_both ps y (then_goes x rest) b.0 (within_both ps x rest a.0 b.1)
  within_spot ps (Behind z p) w = let a = within_parts ps z (with_joint p old) w in within_both ps z (with_joint p new) a.0 (within_spot ps p a.1)
  within_spot ps (InFirst qs p other k) w = w
  within_spot ps (InOther qs first p k) w = w
  within_spot ps (InBody qs count p k) w = w
  within_spot ps (BehindBranch qs first other p) w = (w.0, within_spot ps p w.1)
  within_spot ps (BehindLoop qs count body p) w = (w.0, within_spot ps p w.1)

  tidy_spot : (p : Spot) → IsTidy (with_joint p old) → IsTidy (with_joint p new)
  tidy_spot Here s =
      let a = tidy_parts x (then_goes y rest) s in
      let b = tidy_parts y rest a.1 in
      tidy_both y (then_goes x rest) b.0 (tidy_both x rest a.0 b.1)
  tidy_spot (Behind z p) s = let a = tidy_parts z (with_joint p old) s in tidy_both z (with_joint p new) a.0 (tidy_spot p a.1)
  tidy_spot (InFirst ps p other k) s = ((s.0.0, within_spot ps p s.0.1, s.0.2), (tidy_spot p s.1.0, s.1.1))
  tidy_spot (InOther ps first p k) s = ((s.0.0, s.0.1, within_spot ps p s.0.2), (s.1.0, (tidy_spot p s.1.1.0, s.1.1.1)))
  tidy_spot (InBody ps count p k) s = ((s.0.0, within_spot ps p s.0.1), (tidy_spot p s.1.0, s.1.1))
  tidy_spot (BehindBranch ps first other p) s = (s.0, (s.1.0, (s.1.1.0, tidy_spot p s.1.1.1)))
  tidy_spot (BehindLoop ps count body p) s = (s.0, (s.1.0, tidy_spot p s.1.1))

pub tidy_too : TurnedCodeIsTidy
tidy_too zero j k x s = subst IsTidy x s
tidy_too (suc n) j k x s =
    let one = x.1 in
    tidy_too n x.0 k x.2 (subst IsTidy (sym one.new) (tidy_spot one.first one.second one.rest one.spot (subst IsTidy one.old s)))
