-- Plans of which all registers are below a bound give code within the ranges.
use Rattle.std.proofs.Common.{ℕ, suc, ◌<◌, ◌≤◌, max, length, nat_eq, Bool, true, false, if◌then◌else◌, List, [], ◌∷◌, arith}
use Rattle.vd_execution.specs.declared.instructions.Reg.{Reg}
use Rattle.vd_execution.specs.declared.instructions.Act.{Act}
use Rattle.vd_execution.specs.declared.instructions.Act.TheVariants as act
use Rattle.vd_execution.specs.Acts.{do_then}
use Rattle.vd_execution.specs.Code.{Code, Then as ThenDo, Send, Recv, Choose, Repeat}
use Rattle.vd_execution.specs.Gadgets.{Gadget, acts_of_gadget}
use Rattle.vd_execution.specs.Joint.{Part, Joint, if_part, code_of}
use Rattle.vd_execution.specs.Plans.{Plan, Ends, Then, Branch, Loop, joint_of}
use Rattle.vd_execution.specs.Ranges.{CodeFits, PacketsFit, depth}
use Rattle.vd_duet.specs.Laws.{Each}
use Rattle.vd_base.specs.Limits.{most_packet_words}
use Rattle.vd_projection.specs.Fits.{ActFits, PacketFits}
use Rattle.vd_projection.specs.Ranges.{PacketsAreShort}
use Rattle.vd_projection.proofs.Fits.{PlanFits}

few_words : (bound : ℕ) (rs : List Reg) → PacketFits bound rs → length rs ≤ most_packet_words
few_words bound rs f = let few : length rs ≤ 9 = f.2 in omega (arith, few)

module _ (hosts N h : ℕ) where
  pub record CodeIn (d : ℕ) (c : Code) : Type 0 where
    pub registers : CodeFits N c
    pub packets : PacketsFit hosts c
    pub short : PacketsAreShort c
    pub blocks : depth c ≤ d

  acts_in : (d : ℕ) (acts : List Act) (j : Joint) → Each (ActFits hosts N) acts → CodeIn d (code_of h j) → CodeIn d (code_of h (do_then acts j))
  acts_in d [] j f c = c
  acts_in d (act.Do k a ∷ acts) j f c = at (nat_eq h k.0) (acts_in d acts j f.1 c)
    where
      at : (b : Bool) → CodeIn d (code_of h (do_then acts j)) → CodeIn d (if b then ThenDo a (code_of h (do_then acts j)) else code_of h (do_then acts j))
      at true rest = record { registers = (f.0, rest.registers); packets = rest.packets; short = rest.short; blocks = rest.blocks }
      at false rest = rest
  acts_in d (act.Msg p said q heard ∷ acts) j f c = at (nat_eq h p.0) (nat_eq h q.0) (acts_in d acts j f.1 c)
    where
      at : (a b : Bool) → CodeIn d (code_of h (do_then acts j))
          → CodeIn d (if a then Send q.0 said (code_of h (do_then acts j)) else (if b then Recv p.0 heard (code_of h (do_then acts j)) else code_of h (do_then acts j)))
      at true b rest = record { registers = (f.0.2.0, rest.registers); packets = ((f.0.1, few_words N said f.0.2), rest.packets); short = ((f.0.2.1, f.0.2.2), rest.short); blocks = rest.blocks }
      at false true rest = record { registers = (f.0.3.0, rest.registers); packets = ((f.0.0, few_words N heard f.0.3), rest.packets); short = ((f.0.3.1, f.0.3.2), rest.short); blocks = rest.blocks }
      at false false rest = rest

  part_in : (d : ℕ) (ps : List Part) (f : ℕ → Code) (a : Code) → Each (λ (p : ℕ × ℕ). p.1 < N) ps → ((r : ℕ) → r < N → CodeIn d (f r)) → CodeIn d a → CodeIn d (if_part ps h f a)
  part_in d [] f a e g c = c
  part_in d (p ∷ ps) f a e g c = at (nat_eq h p.0) (part_in d ps f a e.1 g c)
    where
      at : (b : Bool) → CodeIn d (if_part ps h f a) → CodeIn d (if b then f p.1 else if_part ps h f a)
      at true rest = g p.1 e.0
      at false rest = rest

  deeper : (a b c e d : ℕ) → suc c ≤ d → a ≤ c → b ≤ c → e ≤ d → max (suc (max a b)) e ≤ d
  deeper a b c e d le p q r = omega (arith, le, p, q, r)

  deeper_loop : (a c e d : ℕ) → suc c ≤ d → a ≤ c → e ≤ d → max (suc a) e ≤ d
  deeper_loop a c e d le p r = omega (arith, le, p, r)

  pub plan_in : (d : ℕ) (plan : Plan Gadget) → PlanFits hosts N d plan → CodeIn d (code_of h (joint_of plan))
  plan_in d Ends f = record { registers = tt; packets = tt; short = tt; blocks = omega arith }
  plan_in d (Then g rest) f = acts_in d (acts_of_gadget g) (joint_of rest) f.0 (plan_in d rest f.1)
  plan_in d (Branch ps first other rest) f =
      let c = f.1.0 in
      let one = plan_in c first f.1.2 in
      let two = plan_in c other f.1.3 in
      let more = plan_in d rest f.2 in
      part_in d ps (λ guard. Choose guard (code_of h (joint_of first)) (code_of h (joint_of other)) (code_of h (joint_of rest))) (code_of h (joint_of rest)) f.0
      (λ r lt. record {
        registers = (lt, (one.registers, (two.registers, more.registers)));
        packets = (one.packets, (two.packets, more.packets));
        short = (one.short, (two.short, more.short));
        blocks = deeper (depth (code_of h (joint_of first))) (depth (code_of h (joint_of other))) c (depth (code_of h (joint_of rest))) d f.1.1 one.blocks two.blocks more.blocks;
      }) more
  plan_in d (Loop ps count body rest) f =
      let c = f.1.0 in
      let one = plan_in c body f.1.2 in
      let more = plan_in d rest f.2 in
      part_in d ps (λ counter. Repeat counter 0 count (code_of h (joint_of body)) (code_of h (joint_of rest))) (code_of h (joint_of rest)) f.0
      (λ r lt. record {
        registers = (lt, (one.registers, more.registers));
        packets = (one.packets, more.packets);
        short = (one.short, more.short);
        blocks = deeper_loop (depth (code_of h (joint_of body))) c (depth (code_of h (joint_of rest))) d f.1.1 one.blocks more.blocks;
      }) more
