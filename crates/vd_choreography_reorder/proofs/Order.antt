-- What a host compares, prints and opens keeps its order.
use Rattle.std.proofs.Common.{◌≡◌, ℕ, zero, suc, nat_eq, Bool, true, false, ◌&&◌, ◌||◌, not, if◌then◌else◌, List, refl, sym, ap, ◌∙◌, subst}
use Rattle.std.proofs.lemmas.Bool.{eqb-true}
use Rattle.vd_execution.specs.Joint.{Joint, Done, Do, Msg, If, For}
use Rattle.vd_reorder.specs.ReorderLawsTesting.{is_simple, meet}
use Rattle.vd_reorder.specs.Turning.{Turn, Does, Tells, then_goes, Spot, Here, Behind, InFirst, InOther, InBody, BehindBranch, BehindLoop, with_joint, IsTurned}
use Rattle.vd_choreography_reorder.specs.Testing.{Opened, teller, tells_at, awaits_at, stays_behind}
use Rattle.vd_choreography_reorder.specs.Order.{IsCarefullyTurned, CarefulTurns, IsCarefully, spine}
use Rattle.vd_choreography_reorder.proofs.Sound.{both}

-- where a host tells it, it is the one that acts or sends
its_teller : (opened : Opened) (h : ℕ) (y : Turn) → tells_at opened h y ≡ true → h ≡ teller y
its_teller opened h (Does g a) e = eqb-true h g (both (nat_eq h g) (not (is_simple a)) e).0
its_teller opened h (Tells a said b heard) e = eqb-true h a (both (nat_eq h a) (meet said (opened h)) e).0

not_both : (p q r : Bool) → (p && (q || r)) ≡ false → p ≡ true → q ≡ false
not_both true true r e t = absurd cc
not_both true false r e t = refl
not_both false q r e t = absurd cc

module _ (opened : Opened) (h : ℕ) where
  abbrev some : Turn → Bool
  some = tells_at opened h

  -- of two that are exchanged the host tells at most one
  one_of_two : (x y : Turn) → stays_behind opened x y ≡ false → some y ≡ true → some x ≡ false
  one_of_two x y free told =
      let same = its_teller opened h y told in
      subst (λ k. tells_at opened k x ≡ false) (sym same)
      (not_both (tells_at opened (teller y) y) (tells_at opened (teller y) x) (awaits_at (teller y) x) free (subst (λ k. tells_at opened k y ≡ true) same told))

  abbrev with : Bool → Turn → Joint → Joint
  with b x j = if b then then_goes x j else j

  spine_then : (x : Turn) (j : Joint) → spine some (then_goes x j) ≡ with (some x) x (spine some j)
  spine_then (Does g a) j = refl
  spine_then (Tells a said b heard) j = refl

  either_order : (b c : Bool) (x y : Turn) (j : Joint) → (c ≡ true → b ≡ false) → with c y (with b x j) ≡ with b x (with c y j)
  either_order true true x y j one = let wrong = one refl in absurd cc
  either_order true false x y j one = refl
  either_order false c x y j one = refl

  module _ (x y : Turn) (rest : Joint) (free : stays_behind opened x y ≡ false) where
    abbrev old : Joint
    old = then_goes x (then_goes y rest)

    abbrev new : Joint
    new = then_goes y (then_goes x rest)

    at_spot : (p : Spot) → spine some (with_joint p new) ≡ spine some (with_joint p old)
    at_spot Here =
        spine_then y (then_goes x rest)
        ∙ ap (with (some y) y) (spine_then x rest)
        ∙ either_order (some x) (some y) x y (spine some rest) (one_of_two x y free)
        ∙ sym (ap (with (some x) x) (spine_then y rest))
        ∙ sym (spine_then x (then_goes y rest))
    at_spot (Behind z p) = spine_then z (with_joint p new) ∙ ap (with (some z) z) (at_spot p) ∙ sym (spine_then z (with_joint p old))
    at_spot (InFirst ps p other k) = ap (λ j. If ps j (spine some other) (spine some k)) (at_spot p)
    at_spot (InOther ps first p k) = ap (λ j. If ps (spine some first) j (spine some k)) (at_spot p)
    at_spot (InBody ps count p k) = ap (λ j. For ps count j (spine some k)) (at_spot p)
    at_spot (BehindBranch ps first other p) = ap (λ j. If ps (spine some first) (spine some other) j) (at_spot p)
    at_spot (BehindLoop ps count body p) = ap (λ j. For ps count (spine some body) j) (at_spot p)

  one_order : (j k : Joint) → IsCarefullyTurned opened j k → spine some k ≡ spine some j
  one_order j k x = ap (spine some) x.turned.new ∙ at_spot x.turned.first x.turned.second x.turned.rest x.free x.turned.spot ∙ sym (ap (spine some) x.turned.old)

  all_order : (n : ℕ) (j k : Joint) → CarefulTurns opened n j k → spine some k ≡ spine some j
  all_order zero j k x = sym (ap (spine some) x)
  all_order (suc n) j k x = all_order n x.0 k x.2 ∙ one_order j x.0 x.1

pub order_kept : (opened : Opened) (j k : Joint) (h : ℕ) → IsCarefully opened j k → spine (tells_at opened h) k ≡ spine (tells_at opened h) j
order_kept opened j k h x = all_order opened h x.0 j k x.1
