-- How many items a host takes of a list in acts, and in plans one after another.
use Rattle.std.proofs.Common.{◌≡◌, ℕ, ◌+◌, ◌*◌, ◌≤◌, nat_eq, Bool, true, false, if◌then◌else◌, List, [], ◌∷◌, Option, Some, None, arith}
use Rattle.vd_execution.specs.declared.instructions.Act.{Act}
use Rattle.vd_execution.specs.declared.instructions.Act.TheVariants as act
use Rattle.vd_execution.specs.Acts.{do_then}
use Rattle.vd_execution.specs.Code.{Then as ThenDo, Send, Recv}
use Rattle.vd_execution.specs.Gadgets.{Gadget, acts_of_gadget}
use Rattle.vd_execution.specs.Joint.{Joint, Done, code_of}
use Rattle.vd_execution.specs.Plans.{Plan, Ends, Then, Branch, Loop, joint_of}
use Rattle.vd_execution.specs.Step.{Source, same_source}
use Rattle.vd_split.specs.Joint.{acts_then, and_then}
use Rattle.vd_deal_needs.specs.DealNeedsLawsNeeds.{greater, one_of, source_of, takes}
use Rattle.vd_projection.specs.Statements.{instructions}

module _ (h : ℕ) (r : Source) where
  -- an action takes one item, or none
  one_at_most : (s : Option Source) → one_of s r ≤ 1
  one_at_most None = omega arith
  one_at_most (Some s) = at (same_source r s)
    where
      at : (b : Bool) → (if b then 1 else 0) ≤ 1
      at true = omega arith
      at false = omega arith

  next : (n a b c : ℕ) → a ≡ b + c → n + a ≡ n + b + c
  next n a b c e = omega (arith, e)

  both : (w a m v n k : ℕ) → w ≡ a + m → v ≡ a + n → m ≡ n + k → w ≡ v + k
  both w a m v n k e f g = omega (arith, e, f, g)

  -- ---- acts

  -- acts, and what is behind them
  acts_take : (acts : List Act) (j : Joint) → takes (do_then acts j) h r ≡ takes (do_then acts Done) h r + takes j h r
  acts_take [] j = omega arith
  acts_take (act.Do k a ∷ acts) j = next (if nat_eq h k.0 then one_of (source_of a) r else 0) _ _ _ (acts_take acts j)
  acts_take (act.Msg p said q heard ∷ acts) j = acts_take acts j

  -- there is an instruction for each item
  acts_code : (acts : List Act) (j : Joint) → takes (do_then acts Done) h r + instructions (code_of h j) ≤ instructions (code_of h (do_then acts j))
  acts_code [] j = omega arith
  acts_code (act.Do k a ∷ acts) j = at (nat_eq h k.0) (one_of (source_of a) r) (one_at_most (source_of a)) (acts_code acts j)
    where
      at : (b : Bool) (n : ℕ) → n ≤ 1 → takes (do_then acts Done) h r + instructions (code_of h j) ≤ instructions (code_of h (do_then acts j))
          → (if b then n else 0) + takes (do_then acts Done) h r + instructions (code_of h j)
          ≤ instructions (if b then ThenDo a (code_of h (do_then acts j)) else code_of h (do_then acts j))
      at true n one le = omega (arith, one, le)
      at false n one le = omega (arith, le)
  acts_code (act.Msg p said q heard ∷ acts) j = at (nat_eq h p.0) (nat_eq h q.0) (acts_code acts j)
    where
      at : (a b : Bool) → takes (do_then acts Done) h r + instructions (code_of h j) ≤ instructions (code_of h (do_then acts j))
          → takes (do_then acts Done) h r + instructions (code_of h j)
          ≤ instructions (if a then Send q.0 said (code_of h (do_then acts j)) else (if b then Recv p.0 heard (code_of h (do_then acts j)) else code_of h (do_then acts j)))
      at true b le = omega (arith, le)
      at false true le = omega (arith, le)
      at false false le = le

  -- ---- gadgets

  pub gadgets_take : (gs : List Gadget) (p : Plan Gadget) → takes (joint_of (acts_then gs p)) h r ≡ takes (joint_of (acts_then gs Ends)) h r + takes (joint_of p) h r
  gadgets_take [] p = omega arith
  gadgets_take (g ∷ gs) p =
      both _ _ _ _ _ _ (acts_take (acts_of_gadget g) (joint_of (acts_then gs p))) (acts_take (acts_of_gadget g) (joint_of (acts_then gs Ends))) (gadgets_take gs p)

  gadgets_code : (gs : List Gadget) (p : Plan Gadget) → takes (joint_of (acts_then gs Ends)) h r + instructions (code_of h (joint_of p)) ≤ instructions (code_of h (joint_of (acts_then gs p)))
  gadgets_code [] p = omega arith
  gadgets_code (g ∷ gs) p =
      all _ _ _ _ _ _ (acts_take (acts_of_gadget g) (joint_of (acts_then gs Ends))) (acts_code (acts_of_gadget g) (joint_of (acts_then gs p))) (gadgets_code gs p)
    where
      all : (w a n c d e : ℕ) → w ≡ a + n → a + d ≤ e → n + c ≤ d → w + c ≤ e
      all w a n c d e f p q = omega (arith, f, p, q)

  -- where the code has few instructions, its first acts take few items
  pub gadgets_few : (gs : List Gadget) (p : Plan Gadget) → instructions (code_of h (joint_of (acts_then gs p))) ≤ 1024 → takes (joint_of (acts_then gs Ends)) h r ≤ 1024
  gadgets_few gs p few = at _ _ _ (gadgets_code gs p) few
    where
      at : (a b c : ℕ) → a + b ≤ c → c ≤ 1024 → a ≤ 1024
      at a b c p q = omega (arith, p, q)

  -- ---- one plan after another

  pub plans_take : (p q : Plan Gadget) → takes (joint_of (and_then p q)) h r ≡ takes (joint_of p) h r + takes (joint_of q) h r
  plans_take Ends q = omega arith
  plans_take (Then g rest) q = both _ _ _ _ _ _ (acts_take (acts_of_gadget g) (joint_of (and_then rest q))) (acts_take (acts_of_gadget g) (joint_of rest)) (plans_take rest q)
  plans_take (Branch ps first other rest) q = next (greater (takes (joint_of first) h r) (takes (joint_of other) h r)) _ _ _ (plans_take rest q)
  plans_take (Loop ps count body rest) q = next (count * takes (joint_of body) h r) _ _ _ (plans_take rest q)
