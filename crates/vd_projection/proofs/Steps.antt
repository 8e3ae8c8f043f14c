-- How many steps a plan gives a host, at most, by its gadgets and the counts of its loops.
use Rattle.std.proofs.Common.{◌≡◌, ℕ, suc, ◌+◌, ◌-◌, ◌*◌, ◌≤◌, nat_eq, Bool, true, false, if◌then◌else◌, List, [], ◌∷◌, length, ap, ◌∙◌, mul-le-mul_left, arith}
use Rattle.std.proofs.Math.Nat.{mul_assoc}
use Rattle.vd_execution.specs.declared.instructions.Act.{Act}
use Rattle.vd_execution.specs.declared.instructions.Act.TheVariants as act
use Rattle.vd_execution.specs.Acts.{do_then}
use Rattle.vd_execution.specs.Code.{Code, Then as ThenDo, Send, Recv, Choose, Repeat, weight}
use Rattle.vd_execution.specs.Gadgets.{Gadget, Alone, Tells, Shares, BothShare, Opens, Masked, Paired, acts_of_gadget}
use Rattle.vd_execution.specs.Joint.{Part, Joint, if_part, code_of}
use Rattle.vd_execution.specs.Plans.{Plan, Ends, Then, Branch, Loop, joint_of}
use Rattle.vd_split.specs.Joint.{acts_then, and_then}

-- the steps of a plan that is executed so many times: a gadget has eight acts at most, and a loop in which no host takes part is in
-- no host's code
abbrev pub steps : ℕ → Plan Gadget → ℕ
steps n Ends = 0
steps n (Then g rest) = 8 * n + steps n rest
steps n (Branch ps first other rest) = n + (steps n first + (steps n other + steps n rest))
steps n (Loop [] count body rest) = steps n rest
steps n (Loop (p ∷ ps) count body rest) = n + (n * count + (steps (n * count) body + steps n rest))

-- ---- one plan after another

pub steps_both : (n : ℕ) (p q : Plan Gadget) → steps n (and_then p q) ≡ steps n p + steps n q
steps_both n Ends q = omega arith
steps_both n (Then g rest) q = let e = steps_both n rest q in omega (arith, e)
steps_both n (Branch ps first other rest) q = let e = steps_both n rest q in omega (arith, e)
steps_both n (Loop [] count body rest) q = steps_both n rest q
steps_both n (Loop (p ∷ ps) count body rest) q = let e = steps_both n rest q in omega (arith, e)

pub steps_acts : (n : ℕ) (gs : List Gadget) (p : Plan Gadget) → steps n (acts_then gs p) ≡ 8 * (n * length gs) + steps n p
steps_acts n [] p = omega arith
steps_acts n (g ∷ gs) p = let e = steps_acts n gs p in omega (arith, e)

-- ---- the code of a host

few_acts : (g : Gadget) → length (acts_of_gadget g) ≤ 8
few_acts (Alone h a) = omega arith
few_acts (Tells a said b heard) = omega arith
few_acts (Shares a r b heard) = omega arith
few_acts (BothShare a r heard b q heard_b) = omega arith
few_acts (Opens sharing a x b y heard) = omega arith
few_acts (Masked sharing m n) = omega arith
few_acts (Paired p q) = omega arith

module _ (h : ℕ) where
  acts_weigh : (acts : List Act) (j : Joint) → weight (code_of h (do_then acts j)) ≤ length acts + weight (code_of h j)
  acts_weigh [] j = omega arith
  acts_weigh (act.Do k a ∷ acts) j = at (nat_eq h k.0) (acts_weigh acts j)
    where
      at : (b : Bool) → weight (code_of h (do_then acts j)) ≤ length acts + weight (code_of h j)
          → weight (if b then ThenDo a (code_of h (do_then acts j)) else code_of h (do_then acts j)) ≤ suc (length acts) + weight (code_of h j)
      at true le = omega (arith, le)
      at false le = omega (arith, le)
  acts_weigh (act.Msg p said q heard ∷ acts) j = at (nat_eq h p.0) (nat_eq h q.0) (acts_weigh acts j)
    where
      at : (a b : Bool) → weight (code_of h (do_then acts j)) ≤ length acts + weight (code_of h j)
          → weight (if a then Send q.0 said (code_of h (do_then acts j)) else (if b then Recv p.0 heard (code_of h (do_then acts j)) else code_of h (do_then acts j)))
          ≤ suc (length acts) + weight (code_of h j)
      at true b le = omega (arith, le)
      at false true le = omega (arith, le)
      at false false le = omega (arith, le)

  -- what is found at a host
  part_times : (n : ℕ) (ps : List Part) (f : ℕ → Code) (a : Code) (most : ℕ) → ((r : ℕ) → n * weight (f r) ≤ most) → n * weight a ≤ most → n * weight (if_part ps h f a) ≤ most
  part_times n [] f a most each le = le
  part_times n (p ∷ ps) f a most each le = at (nat_eq h p.0) (part_times n ps f a most each le)
    where
      at : (b : Bool) → n * weight (if_part ps h f a) ≤ most → n * weight (if b then f p.1 else if_part ps h f a) ≤ most
      at true rest = each p.1
      at false rest = rest

  -- a code that is executed so many times
  scaled_loop : (n c w r : ℕ) → n * ((c - 0) * suc w + suc r) ≡ n + (n * c + (n * c * w + n * r))
  scaled_loop n c w r = ap (λ (k : ℕ). n * (k * suc w + suc r)) (none c) ∙ spread (mul_assoc n c w)
    where
      none : (c : ℕ) → c - 0 ≡ c
      none c = omega arith

      spread : n * c * w ≡ n * (c * w) → n * (c * suc w + suc r) ≡ n + (n * c + (n * c * w + n * r))
      spread e = let f : c * suc w ≡ c + c * w = omega arith in
          ap (λ (k : ℕ). n * (k + suc r)) f ∙ parts (c * w) e
        where
          parts : (z : ℕ) → n * c * w ≡ n * z → n * (c + z + suc r) ≡ n + (n * c + (n * c * w + n * r))
          parts z e = let d : n * (c + z + suc r) ≡ n * c + n * z + (n + n * r) = omega arith in omega (arith, d, e)

  pub plan_weighs : (n : ℕ) (plan : Plan Gadget) → n * weight (code_of h (joint_of plan)) ≤ steps n plan
  plan_weighs n Ends = omega arith
  plan_weighs n (Then g rest) =
      let few = few_acts g in
      let one = acts_weigh (acts_of_gadget g) (joint_of rest) in
      let more = plan_weighs n rest in
      gadget_then (weight (code_of h (do_then (acts_of_gadget g) (joint_of rest)))) (length (acts_of_gadget g)) (weight (code_of h (joint_of rest))) (steps n rest) few one more
    where
      gadget_then : (w l v s : ℕ) → l ≤ 8 → w ≤ l + v → n * v ≤ s → n * w ≤ 8 * n + s
      gadget_then w l v s few one more =
          let le : w ≤ 8 + v = omega (arith, few, one) in
          let product : n * w ≤ n * (8 + v) = mul-le-mul_left n le in
          let same : n * (8 + v) ≡ 8 * n + n * v = omega arith in
          omega (arith, product, same, more)
  plan_weighs n (Branch ps first other rest) =
      part_times n ps (λ guard. Choose guard (code_of h (joint_of first)) (code_of h (joint_of other)) (code_of h (joint_of rest))) (code_of h (joint_of rest))
      (n + (steps n first + (steps n other + steps n rest)))
      (λ r. branch (weight (code_of h (joint_of first))) (weight (code_of h (joint_of other))) (weight (code_of h (joint_of rest))) (steps n first) (steps n other) (steps n rest)
      (plan_weighs n first) (plan_weighs n other) (plan_weighs n rest))
      (let le = plan_weighs n rest in omega (arith, le))
    where
      branch : (a b c x y z : ℕ) → n * a ≤ x → n * b ≤ y → n * c ≤ z → n * suc (a + b + c) ≤ n + (x + (y + z))
      branch a b c x y z p q r = let same : n * suc (a + b + c) ≡ n + (n * a + (n * b + n * c)) = omega arith in omega (arith, same, p, q, r)
  plan_weighs n (Loop [] count body rest) = plan_weighs n rest
  plan_weighs n (Loop (p ∷ ps) count body rest) =
      part_times n (p ∷ ps) (λ counter. Repeat counter 0 count (code_of h (joint_of body)) (code_of h (joint_of rest))) (code_of h (joint_of rest))
      (n + (n * count + (steps (n * count) body + steps n rest)))
      (λ r. loop (weight (code_of h (joint_of body))) (weight (code_of h (joint_of rest))) (steps (n * count) body) (steps n rest) (plan_weighs (n * count) body) (plan_weighs n rest))
      (let le = plan_weighs n rest in omega (arith, le))
    where
      loop : (w r x z : ℕ) → n * count * w ≤ x → n * r ≤ z → n * ((count - 0) * suc w + suc r) ≤ n + (n * count + (x + z))
      loop w r x z p q = let same = scaled_loop n count w r in omega (arith, same, p, q)
