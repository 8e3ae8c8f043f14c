-- How many lines the text of a host has, at most: a packet counts once for each of its words.
use Rattle.std.proofs.Common.{◌≡◌, ℕ, ◌+◌, ◌≤◌, nat_eq, Bool, true, false, if◌then◌else◌, List, [], ◌∷◌, length, sym, refl, arith}
use Rattle.vd_execution.specs.declared.instructions.Act.{Act}
use Rattle.vd_execution.specs.declared.instructions.Act.TheVariants as act
use Rattle.vd_execution.specs.Acts.{do_then, ActsAreTidy}
use Rattle.vd_execution.specs.Code.{Code, Finished, Then as ThenDo, Send, Recv, Choose, Repeat}
use Rattle.vd_execution.specs.Gadgets.{Gadget, Alone, Tells, Shares, BothShare, Opens, Masked, Paired, acts_of_gadget, GadgetIsTidy}
use Rattle.vd_execution.specs.Joint.{Part, Joint, if_part, code_of}
use Rattle.vd_execution.specs.Plans.{Plan, Ends, Then, Branch, Loop, joint_of, PlanIsTidy}
use Rattle.vd_split.specs.Joint.{acts_then, and_then}
use Rattle.vd_projection.proofs.Few.{acts_bulk, bulk}

-- a branch has three lines of its own, and a loop two
abbrev pub code_bulk : Code → ℕ
code_bulk Finished = 0
code_bulk (ThenDo a c) = 1 + code_bulk c
code_bulk (Send p rs c) = length rs + code_bulk c
code_bulk (Recv p rs c) = length rs + code_bulk c
code_bulk (Choose g first other c) = 3 + (code_bulk first + (code_bulk other + code_bulk c))
code_bulk (Repeat r turn count body c) = 2 + (code_bulk body + code_bulk c)

abbrev pub plan_bulk : Plan Gadget → ℕ
plan_bulk Ends = 0
plan_bulk (Then g rest) = acts_bulk (acts_of_gadget g) + plan_bulk rest
plan_bulk (Branch ps first other rest) = 3 + (plan_bulk first + (plan_bulk other + plan_bulk rest))
plan_bulk (Loop ps count body rest) = 2 + (plan_bulk body + plan_bulk rest)

-- ---- one plan after another

pub plans_bulk : (p q : Plan Gadget) → plan_bulk (and_then p q) ≡ plan_bulk p + plan_bulk q
plans_bulk Ends q = omega arith
plans_bulk (Then g rest) q = next (acts_bulk (acts_of_gadget g)) _ _ _ (plans_bulk rest q)
  where
    next : (n a b c : ℕ) → a ≡ b + c → n + a ≡ n + b + c
    next n a b c e = omega (arith, e)
plans_bulk (Branch ps first other rest) q = let e = plans_bulk rest q in omega (arith, e)
plans_bulk (Loop ps count body rest) q = let e = plans_bulk rest q in omega (arith, e)

pub gadgets_bulk : (gs : List Gadget) (p : Plan Gadget) → plan_bulk (acts_then gs p) ≡ bulk gs + plan_bulk p
gadgets_bulk [] p = omega arith
gadgets_bulk (g ∷ gs) p = next (acts_bulk (acts_of_gadget g)) _ _ _ (gadgets_bulk gs p)
  where
    next : (n a b c : ℕ) → a ≡ b + c → n + a ≡ n + b + c
    next n a b c e = omega (arith, e)

-- ---- the code of a host

gadget_acts_tidy : (g : Gadget) → GadgetIsTidy g → ActsAreTidy (acts_of_gadget g)
gadget_acts_tidy (Alone h a) tidy = (tt, tt)
gadget_acts_tidy (Tells a said b heard) tidy = (tidy, tt)
gadget_acts_tidy (Shares a r b heard) tidy = (tt, ((tidy, refl), tt))
gadget_acts_tidy (BothShare a r heard b q heard_b) tidy = (tt, (tt, ((tidy.0, refl), (((λ e. tidy.0 (sym e)), refl), tt))))
gadget_acts_tidy (Opens sharing a x b y heard) tidy = ((tidy, refl), tt)
gadget_acts_tidy (Masked sharing m n) tidy = (tt, (tt, (tt, (tt, (tt, (tt, ((tidy.0, refl), (((λ e. tidy.0 (sym e)), refl), tt))))))))
gadget_acts_tidy (Paired p q) tidy = (tt, (tt, tt))

module _ (h : ℕ) where
  acts_lines : (acts : List Act) (j : Joint) → ActsAreTidy acts → code_bulk (code_of h (do_then acts j)) ≤ acts_bulk acts + code_bulk (code_of h j)
  acts_lines [] j tidy = omega arith
  acts_lines (act.Do k a ∷ acts) j tidy = at (nat_eq h k.0) (acts_lines acts j tidy.1)
    where
      at : (b : Bool) → code_bulk (code_of h (do_then acts j)) ≤ acts_bulk acts + code_bulk (code_of h j)
          → code_bulk (if b then ThenDo a (code_of h (do_then acts j)) else code_of h (do_then acts j)) ≤ 1 + acts_bulk acts + code_bulk (code_of h j)
      at true le = omega (arith, le)
      at false le = omega (arith, le)
  acts_lines (act.Msg p said q heard ∷ acts) j tidy = at (nat_eq h p.0) (nat_eq h q.0) tidy.0.1 (acts_lines acts j tidy.1)
    where
      at : (a b : Bool) → length said ≡ length heard → code_bulk (code_of h (do_then acts j)) ≤ acts_bulk acts + code_bulk (code_of h j)
          → code_bulk (if a then Send q.0 said (code_of h (do_then acts j)) else (if b then Recv p.0 heard (code_of h (do_then acts j)) else code_of h (do_then acts j)))
          ≤ length said + acts_bulk acts + code_bulk (code_of h j)
      at true b same le = omega (arith, le)
      at false true same le = omega (arith, le, same)
      at false false same le = omega (arith, le)

  part_lines : (ps : List Part) (f : ℕ → Code) (a : Code) (most : ℕ) → ((r : ℕ) → code_bulk (f r) ≤ most) → code_bulk a ≤ most → code_bulk (if_part ps h f a) ≤ most
  part_lines [] f a most each le = le
  part_lines (p ∷ ps) f a most each le = at (nat_eq h p.0) (part_lines ps f a most each le)
    where
      at : (b : Bool) → code_bulk (if_part ps h f a) ≤ most → code_bulk (if b then f p.1 else if_part ps h f a) ≤ most
      at true rest = each p.1
      at false rest = rest

  pub plan_lines : (plan : Plan Gadget) → PlanIsTidy plan → code_bulk (code_of h (joint_of plan)) ≤ plan_bulk plan
  plan_lines Ends tidy = omega arith
  plan_lines (Then g rest) tidy = next _ _ _ _ (acts_lines (acts_of_gadget g) (joint_of rest) (gadget_acts_tidy g tidy.0)) (plan_lines rest tidy.1)
    where
      next : (a n c s : ℕ) → a ≤ n + c → c ≤ s → a ≤ n + s
      next a n c s p q = omega (arith, p, q)
  plan_lines (Branch ps first other rest) tidy =
      part_lines ps (λ guard. Choose guard (code_of h (joint_of first)) (code_of h (joint_of other)) (code_of h (joint_of rest))) (code_of h (joint_of rest)) (plan_bulk (Branch ps first other rest))
      (λ r. all _ _ _ _ _ _ (plan_lines first tidy.1.0) (plan_lines other tidy.1.1.0) (plan_lines rest tidy.1.1.1)) (last _ _ _ _ (plan_lines rest tidy.1.1.1))
    where
      all : (a b c x y z : ℕ) → a ≤ x → b ≤ y → c ≤ z → 3 + (a + (b + c)) ≤ 3 + (x + (y + z))
      all a b c x y z p q r = omega (arith, p, q, r)

      last : (c x y z : ℕ) → c ≤ z → c ≤ 3 + (x + (y + z))
      last c x y z p = omega (arith, p)
  plan_lines (Loop ps count body rest) tidy =
      part_lines ps (λ counter. Repeat counter 0 count (code_of h (joint_of body)) (code_of h (joint_of rest))) (code_of h (joint_of rest)) (plan_bulk (Loop ps count body rest))
      (λ r. all _ _ _ _ (plan_lines body tidy.1.1.0) (plan_lines rest tidy.1.1.1)) (last _ _ _ (plan_lines rest tidy.1.1.1))
    where
      all : (a c x z : ℕ) → a ≤ x → c ≤ z → 2 + (a + c) ≤ 2 + (x + z)
      all a c x z p r = omega (arith, p, r)

      last : (c x z : ℕ) → c ≤ z → c ≤ 2 + (x + z)
      last c x z p = omega (arith, p)
