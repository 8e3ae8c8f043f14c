-- How many instructions the code of a host has, at most, by the acts of its plan.
use Rattle.std.proofs.Common.{◌≡◌, ℕ, suc, ◌+◌, ◌≤◌, nat_eq, Bool, true, false, if◌then◌else◌, List, [], ◌∷◌, length, arith}
use Rattle.vd_execution.specs.declared.instructions.Act.{Act}
use Rattle.vd_execution.specs.declared.instructions.Act.TheVariants as act
use Rattle.vd_execution.specs.Acts.{do_then}
use Rattle.vd_execution.specs.Code.{Code, Then as ThenDo, Send, Recv, Choose, Repeat}
use Rattle.vd_execution.specs.Gadgets.{Gadget, acts_of_gadget}
use Rattle.vd_execution.specs.Joint.{Part, Joint, if_part, code_of}
use Rattle.vd_execution.specs.Plans.{Plan, Ends, Then, Branch, Loop, joint_of}
use Rattle.vd_split.specs.Joint.{acts_then, and_then}
use Rattle.vd_projection.specs.Statements.{instructions}
use Rattle.vd_projection.proofs.Counts.{acts_in}

-- of all hosts together
abbrev pub plan_acts : Plan Gadget → ℕ
plan_acts Ends = 0
plan_acts (Then g rest) = length (acts_of_gadget g) + plan_acts rest
plan_acts (Branch ps first other rest) = 1 + (plan_acts first + (plan_acts other + plan_acts rest))
plan_acts (Loop ps count body rest) = 1 + (plan_acts body + plan_acts rest)

-- ---- one plan after another

pub plans_acts : (p q : Plan Gadget) → plan_acts (and_then p q) ≡ plan_acts p + plan_acts q
plans_acts Ends q = omega arith
plans_acts (Then g rest) q = next (length (acts_of_gadget g)) _ _ _ (plans_acts rest q)
  where
    next : (n a b c : ℕ) → a ≡ b + c → n + a ≡ n + b + c
    next n a b c e = omega (arith, e)
plans_acts (Branch ps first other rest) q = let e = plans_acts rest q in omega (arith, e)
plans_acts (Loop ps count body rest) q = let e = plans_acts rest q in omega (arith, e)

pub gadgets_acts : (gs : List Gadget) (p : Plan Gadget) → plan_acts (acts_then gs p) ≡ acts_in gs + plan_acts p
gadgets_acts [] p = omega arith
gadgets_acts (g ∷ gs) p = next (length (acts_of_gadget g)) _ _ _ (gadgets_acts gs p)
  where
    next : (n a b c : ℕ) → a ≡ b + c → n + a ≡ n + b + c
    next n a b c e = omega (arith, e)

-- ---- the code of a host

module _ (h : ℕ) where
  acts_code : (acts : List Act) (j : Joint) → instructions (code_of h (do_then acts j)) ≤ length acts + instructions (code_of h j)
  acts_code [] j = omega arith
  acts_code (act.Do k a ∷ acts) j = at (nat_eq h k.0) (acts_code acts j)
    where
      at : (b : Bool) → instructions (code_of h (do_then acts j)) ≤ length acts + instructions (code_of h j)
          → instructions (if b then ThenDo a (code_of h (do_then acts j)) else code_of h (do_then acts j)) ≤ suc (length acts) + instructions (code_of h j)
      at true le = omega (arith, le)
      at false le = omega (arith, le)
  acts_code (act.Msg p said q heard ∷ acts) j = at (nat_eq h p.0) (nat_eq h q.0) (acts_code acts j)
    where
      at : (a b : Bool) → instructions (code_of h (do_then acts j)) ≤ length acts + instructions (code_of h j)
          → instructions (if a then Send q.0 said (code_of h (do_then acts j)) else (if b then Recv p.0 heard (code_of h (do_then acts j)) else code_of h (do_then acts j)))
          ≤ suc (length acts) + instructions (code_of h j)
      at true b le = omega (arith, le)
      at false true le = omega (arith, le)
      at false false le = omega (arith, le)

  part_code : (ps : List Part) (f : ℕ → Code) (a : Code) (most : ℕ) → ((r : ℕ) → instructions (f r) ≤ most) → instructions a ≤ most → instructions (if_part ps h f a) ≤ most
  part_code [] f a most each le = le
  part_code (p ∷ ps) f a most each le = at (nat_eq h p.0) (part_code ps f a most each le)
    where
      at : (b : Bool) → instructions (if_part ps h f a) ≤ most → instructions (if b then f p.1 else if_part ps h f a) ≤ most
      at true rest = each p.1
      at false rest = rest

  pub plan_code : (plan : Plan Gadget) → instructions (code_of h (joint_of plan)) ≤ plan_acts plan
  plan_code Ends = omega arith
  plan_code (Then g rest) = next _ _ _ _ (acts_code (acts_of_gadget g) (joint_of rest)) (plan_code rest)
    where
      next : (a n c s : ℕ) → a ≤ n + c → c ≤ s → a ≤ n + s
      next a n c s p q = omega (arith, p, q)
  plan_code (Branch ps first other rest) =
      part_code ps (λ guard. Choose guard (code_of h (joint_of first)) (code_of h (joint_of other)) (code_of h (joint_of rest))) (code_of h (joint_of rest)) (plan_acts (Branch ps first other rest))
      (λ r. all _ _ _ _ _ _ (plan_code first) (plan_code other) (plan_code rest)) (last _ _ _ _ (plan_code rest))
    where
      all : (a b c x y z : ℕ) → a ≤ x → b ≤ y → c ≤ z → 1 + (a + (b + c)) ≤ 1 + (x + (y + z))
      all a b c x y z p q r = omega (arith, p, q, r)

      last : (c x y z : ℕ) → c ≤ z → c ≤ 1 + (x + (y + z))
      last c x y z p = omega (arith, p)
  plan_code (Loop ps count body rest) =
      part_code ps (λ counter. Repeat counter 0 count (code_of h (joint_of body)) (code_of h (joint_of rest))) (code_of h (joint_of rest)) (plan_acts (Loop ps count body rest))
      (λ r. all _ _ _ _ (plan_code body) (plan_code rest)) (last _ _ _ (plan_code rest))
    where
      all : (a c x z : ℕ) → a ≤ x → c ≤ z → 1 + (a + c) ≤ 1 + (x + z)
      all a c x z p r = omega (arith, p, r)

      last : (c x z : ℕ) → c ≤ z → c ≤ 1 + (x + z)
      last c x z p = omega (arith, p)
