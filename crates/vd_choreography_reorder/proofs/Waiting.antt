-- Nothing is told before an answer behind which it stood.
use Rattle.std.proofs.Common.{◌≡◌, ℕ, zero, suc, ◌≤◌, nat_eq, Bool, true, false, ◌&&◌, ◌||◌, not, if◌then◌else◌, List, [], ◌∷◌, ◌++◌, refl, sym, ap, ◌∙◌, subst, arith}
use Rattle.std.proofs.lemmas.Bool.{eqb-true}
use Rattle.vd_execution.specs.Joint.{Joint, Done, Do, Msg, If, For}
use Rattle.vd_reorder.specs.ReorderLawsTesting.{is_simple, meet}
use Rattle.vd_reorder.specs.Turning.{Turn, Does, Tells, then_goes, Spot, Here, Behind, InFirst, InOther, InBody, BehindBranch, BehindLoop, with_joint, IsTurned}
use Rattle.vd_choreography_reorder.specs.Testing.{Opened, teller, tells_at, awaits_at, stays_behind}
use Rattle.vd_choreography_reorder.specs.Order.{IsCarefullyTurned, CarefulTurns, IsCarefully}
use Rattle.vd_choreography_reorder.proofs.Sound.{both}
use Rattle.vd_choreography_reorder.specs.Waiting.{counted, noted, heard_before, AtMost}

-- ---- lists of numbers

itself : (ns : List ℕ) → AtMost ns ns
itself [] = tt
itself (n ∷ ns) = (omega arith, itself ns)

onwards : (ns ms ks : List ℕ) → AtMost ns ms → AtMost ms ks → AtMost ns ks
onwards [] [] [] a b = tt
onwards [] [] (k ∷ ks) a b = absurd b
onwards [] (m ∷ ms) ks a b = absurd a
onwards (n ∷ ns) [] ks a b = absurd a
onwards (n ∷ ns) (m ∷ ms) [] a b = absurd b
onwards (n ∷ ns) (m ∷ ms) (k ∷ ks) a b = (omega (arith, a.0, b.0), onwards ns ms ks a.1 b.1)

joined : (ns ms ks ls : List ℕ) → AtMost ns ms → AtMost ks ls → AtMost (ns ++ ks) (ms ++ ls)
joined [] [] ks ls a b = b
joined [] (m ∷ ms) ks ls a b = absurd a
joined (n ∷ ns) [] ks ls a b = absurd a
joined (n ∷ ns) (m ∷ ms) ks ls a b = (a.0, joined ns ms ks ls a.1 b)

noted_both : (b : Bool) (n : ℕ) (ns ms : List ℕ) → AtMost ns ms → AtMost (noted b n ns) (noted b n ms)
noted_both true n ns ms a = (omega arith, a)
noted_both false n ns ms a = a

-- Of two that are exchanged the second is told only where the first is neither told nor counted.
either_order : (b c p q : Bool) (n : ℕ) (f : ℕ → List ℕ) → (c ≡ true → b ≡ false) → (c ≡ true → p ≡ false)
    → AtMost (noted b n (noted c (counted p n) (f (counted q (counted p n))))) (noted c n (noted b (counted q n) (f (counted p (counted q n)))))
either_order true true p q n f one none = let wrong = one refl in absurd cc
either_order false true true q n f one none = let wrong = none refl in absurd cc
either_order false true false true n f one none = itself (n ∷ f (suc n))
either_order false true false false n f one none = itself (n ∷ f n)
either_order true false true true n f one none = (omega arith, itself (f (suc (suc n))))
either_order true false true false n f one none = itself (n ∷ f (suc n))
either_order true false false true n f one none = (omega arith, itself (f (suc n)))
either_order true false false false n f one none = itself (n ∷ f n)
either_order false false true true n f one none = itself (f (suc (suc n)))
either_order false false true false n f one none = itself (f (suc n))
either_order false false false true n f one none = itself (f (suc n))
either_order false false false false n f one none = itself (f n)

-- ---- one exchange

-- where a host tells it, it is the one that acts or sends
its_teller : (opened : Opened) (h : ℕ) (y : Turn) → tells_at opened h y ≡ true → h ≡ teller y
its_teller opened h (Does g a) e = eqb-true h g (both (nat_eq h g) (not (is_simple a)) e).0
its_teller opened h (Tells a said b heard) e = eqb-true h a (both (nat_eq h a) (meet said (opened h)) e).0

neither : (p q r : Bool) → (p && (q || r)) ≡ false → p ≡ true → (q ≡ false) × (r ≡ false)
neither true true r e t = absurd cc
neither true false r e t = (refl, e)
neither false q r e t = absurd cc

not_counted : (r s : Bool) → r ≡ false → (r && s) ≡ false
not_counted true s e = absurd cc
not_counted false s e = refl

module _ (opened : Opened) (h : ℕ) (test : Turn → Bool) where
  abbrev told : Turn → Bool
  told = tells_at opened h

  abbrev counts : Turn → Bool
  counts x = awaits_at h x && test x

  abbrev heard : ℕ → Joint → List ℕ
  heard = heard_before opened h test

  heard_then : (x : Turn) (j : Joint) (n : ℕ) → heard n (then_goes x j) ≡ noted (told x) n (heard (counted (counts x) n) j)
  heard_then (Does g a) j n = refl
  heard_then (Tells a said b heard) j n = refl

  free_of : (x y : Turn) → stays_behind opened x y ≡ false → told y ≡ true → (told x ≡ false) × (awaits_at h x ≡ false)
  free_of x y free is =
      let same = its_teller opened h y is in
      subst (λ k. (tells_at opened k x ≡ false) × (awaits_at k x ≡ false)) (sym same)
      (neither (tells_at opened (teller y) y) (tells_at opened (teller y) x) (awaits_at (teller y) x) free (subst (λ k. tells_at opened k y ≡ true) same is))

  module _ (x y : Turn) (rest : Joint) (free : stays_behind opened x y ≡ false) where
    abbrev old : Joint
    old = then_goes x (then_goes y rest)

    abbrev new : Joint
    new = then_goes y (then_goes x rest)

    two_then : (z u : Turn) (n : ℕ) → heard n (then_goes z (then_goes u rest))
        ≡ noted (told z) n (noted (told u) (counted (counts z) n) (heard (counted (counts u) (counted (counts z) n)) rest))
    two_then z u n = heard_then z (then_goes u rest) n ∙ ap (noted (told z) n) (heard_then u rest (counted (counts z) n))

    at_spot : (p : Spot) (n : ℕ) → AtMost (heard n (with_joint p old)) (heard n (with_joint p new))
    at_spot Here n =
        subst (λ ns. AtMost ns (heard n new)) (sym (two_then x y n))
        (subst (AtMost (noted (told x) n (noted (told y) (counted (counts x) n) (heard (counted (counts y) (counted (counts x) n)) rest)))) (sym (two_then y x n))
        (either_order (told x) (told y) (counts x) (counts y) n (λ m. heard m rest) (λ e. (free_of x y free e).0)
        (λ e. not_counted (awaits_at h x) (test x) (free_of x y free e).1)))
    at_spot (Behind z p) n =
        let m = counted (counts z) n in
        subst (λ ns. AtMost ns (heard n (then_goes z (with_joint p new)))) (sym (heard_then z (with_joint p old) n))
        (subst (AtMost (noted (told z) n (heard m (with_joint p old)))) (sym (heard_then z (with_joint p new) n))
        (noted_both (told z) n (heard m (with_joint p old)) (heard m (with_joint p new)) (at_spot p m)))
    at_spot (InFirst ps p other k) n =
        joined (heard 0 (with_joint p old)) (heard 0 (with_joint p new)) (heard 0 other ++ heard 0 k) (heard 0 other ++ heard 0 k) (at_spot p 0) (itself (heard 0 other ++ heard 0 k))
    at_spot (InOther ps first p k) n =
        joined (heard 0 first) (heard 0 first) (heard 0 (with_joint p old) ++ heard 0 k) (heard 0 (with_joint p new) ++ heard 0 k) (itself (heard 0 first))
        (joined (heard 0 (with_joint p old)) (heard 0 (with_joint p new)) (heard 0 k) (heard 0 k) (at_spot p 0) (itself (heard 0 k)))
    at_spot (InBody ps count p k) n = joined (heard 0 (with_joint p old)) (heard 0 (with_joint p new)) (heard 0 k) (heard 0 k) (at_spot p 0) (itself (heard 0 k))
    at_spot (BehindBranch ps first other p) n =
        joined (heard 0 first) (heard 0 first) (heard 0 other ++ heard 0 (with_joint p old)) (heard 0 other ++ heard 0 (with_joint p new)) (itself (heard 0 first))
        (joined (heard 0 other) (heard 0 other) (heard 0 (with_joint p old)) (heard 0 (with_joint p new)) (itself (heard 0 other)) (at_spot p 0))
    at_spot (BehindLoop ps count body p) n =
        joined (heard 0 body) (heard 0 body) (heard 0 (with_joint p old)) (heard 0 (with_joint p new)) (itself (heard 0 body)) (at_spot p 0)

  -- ---- so many exchanges

  one_later : (j k : Joint) → IsCarefullyTurned opened j k → AtMost (heard 0 j) (heard 0 k)
  one_later j k x =
      subst (λ i. AtMost (heard 0 j) (heard 0 i)) (sym x.turned.new)
      (subst (λ i. AtMost (heard 0 i) (heard 0 (with_joint x.turned.spot (then_goes x.turned.second (then_goes x.turned.first x.turned.rest))))) (sym x.turned.old)
      (at_spot x.turned.first x.turned.second x.turned.rest x.free x.turned.spot 0))

  all_later : (n : ℕ) (j k : Joint) → CarefulTurns opened n j k → AtMost (heard 0 j) (heard 0 k)
  all_later zero j k x = subst (λ i. AtMost (heard 0 j) (heard 0 i)) x (itself (heard 0 j))
  all_later (suc n) j k x = onwards (heard 0 j) (heard 0 x.0) (heard 0 k) (one_later j x.0 x.1) (all_later n x.0 k x.2)

pub told_later : (opened : Opened) (j k : Joint) (h : ℕ) (test : Turn → Bool) → IsCarefully opened j k → AtMost (heard_before opened h test 0 j) (heard_before opened h test 0 k)
told_later opened j k h test x = all_later opened h test x.0 j k x.1
