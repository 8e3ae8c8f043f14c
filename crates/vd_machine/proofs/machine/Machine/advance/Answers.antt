use Rattle.std.proofs.Common.{◌≡◌, ◌+◌, ◌<◌, ◌≤◌, ℕ, List, length, subst, sym, ap, ◌∙◌, get_or, rules}
use Rattle.std.specs.Prelude.{nat_eq}
use Rattle.std.proofs.lemmas.List.{get_or_default}
use Rattle.vd_execution.specs.Code.{Finished}
use Rattle.vd_execution.specs.Step.{State, need, next}
use Rattle.vd_machine.specs.declared.ops.Op.TheVariants.{Plain as One, If, For}
use Rattle.vd_machine.specs.declared.frames.LoopFrame.{LoopFrame}
use Rattle.vd_machine.specs.declared.machine.Machine.TheInside.{Inside}
use Rattle.vd_machine.specs.Machines.{cursors_of, IsMet, words_for}
use Rattle.vd_machine.specs.Kept.{Kept, state_of, FrameFits, frames_code, loop_of, pending_of}
use Rattle.vd_machine.proofs.Steps.{front_of, front_can, turn_sound, turn_next, one_sound, one_next, choose_sound, choose_next, choice_fits, loop_fits, loop_frame_fits, for_pending}
use Rattle.std.proofs.Common.{arith, true}
use Rattle.std.specs.Prelude.{nat_lt}
use Rattle.vd_machine.specs.Kept.{HasRoom}
use Rattle.vd_machine.proofs.Rooms.{plain_room, choose_room, turn_room, turned_room, for_room, room_after}
use Rattle.vd_machine.proofs.machine.Machine.advance.Goals as goal

abbrev kept : Inside → Kept
kept m = record { code = m.code.items; top = m.top; below = m.below.items; registers = m.registers.items; lists = m.lists; taken = m.taken }

can_of : (m : Inside) (v : Kept) (heard : List ℕ) → kept m ≡ v → IsMet v.lists (cursors_of v.taken) heard (need (state_of v)) → IsMet (kept m).lists (cursors_of (kept m).taken) heard (need (state_of (kept m)))
can_of m v heard e h = subst (λ k. IsMet k.lists (cursors_of k.taken) heard (need (state_of k))) (sym e) h

goes_to : (m : Inside) (v : Kept) (w : State) (heard : List ℕ) → kept m ≡ v → w ≡ next (state_of (kept m)) (words_for m.lists (cursors_of m.taken) heard (need (state_of (kept m))))
    → w ≡ next (state_of v) (words_for v.lists (cursors_of v.taken) heard (need (state_of v)))
goes_to m v w heard e h = subst (λ k. w ≡ next (state_of k) (words_for k.lists (cursors_of k.taken) heard (need (state_of k)))) e h

pub turn-requires : goal.turn-requires
turn-requires c =
    let m = kept c.self.inside in
    let l : LoopFrame = record { register = c.in-Loop.register; turn = c.in-Loop.at; turns = c.in-Loop.turns; from = c.in-Loop.from; mid = c.in-Loop.mid; to = c.in-Loop.to } in
    let fits : FrameFits (length m.registers) m.code (loop_of l l.turn) = subst (λ t. FrameFits (length m.registers) m.code t) c.in-Loop.is c.self.invariant.0.top in
    let room = subst (λ t. HasRoom 512 m.code t m.below) c.in-Loop.is c.self.invariant.1 in
    let less = (turn_room 512 m.code l m.below room).0 in
    let many = c.self.invariant.2 in
    record { within = fits.0; room = omega (arith, less, many) }

pub invariant_of-self : goal.invariant_of-self
invariant_of-self c =
    let m = kept c.self.inside in
    let l : LoopFrame = record { register = c.in-Loop.register; turn = c.in-Loop.at; turns = c.in-Loop.turns; from = c.in-Loop.from; mid = c.in-Loop.mid; to = c.in-Loop.to } in
    let fits : FrameFits (length m.registers) m.code (loop_of l l.turn) = subst (λ t. FrameFits (length m.registers) m.code t) c.in-Loop.is c.self.invariant.0.top in
    let room = subst (λ t. HasRoom 512 m.code t m.below) c.in-Loop.is c.self.invariant.1 in
    let many = c.self.invariant.2 in let kept_1 = c.turn.ensures.capacity in let kept_2 = c.settle.ensures.capacity in (
      turn_sound m l c.turn.new.top c.settle.new.top c.turn.new.below.items c.settle.new.below.items c.turn.new.registers.items fits c.self.invariant.0.below
          c.turn.ensures.top c.turn.ensures.below c.settle.ensures.same c.settle.ensures.settled c.turn.ensures.len c.self.invariant.0.peers,
      room_after 512 m.code _ c.turn.new.top c.settle.new.top _ c.turn.new.below.items c.settle.new.below.items c.turn.ensures.top c.turn.ensures.below (turned_room 512 m.code l m.below (nat_lt l.turn l.turns) room) c.settle.ensures.same,
      omega (arith, many, kept_1, kept_2),
      c.self.invariant.3,
    )

pub returns-in-Loop-clause-state : goal.returns-in-Loop-clause-state
returns-in-Loop-clause-state c =
    let m = kept c.self.inside in
    let l : LoopFrame = record { register = c.in-Loop.register; turn = c.in-Loop.at; turns = c.in-Loop.turns; from = c.in-Loop.from; mid = c.in-Loop.mid; to = c.in-Loop.to } in
    goes_to c.self.inside c.args.self.now _ c.args.heard.now c.self.view_is
    (turn_next m l c.turn.new.top c.settle.new.top c.turn.new.below.items c.settle.new.below.items c.turn.new.registers.items _
    (ap (λ t. pending_of m.code t m.below) c.in-Loop.is)
    c.turn.ensures.top c.turn.ensures.below c.turn.ensures.registers c.settle.ensures.same)

pub execute-requires-clause-within : goal.execute-requires-clause-within
execute-requires-clause-within c =
    let m = kept c.self.inside in
    let e : One c.in-Plain.plain ≡ get_or m.code c.in-Run.from (One c.in-Plain.plain) = subst (λ i. i ≡ get_or m.code c.in-Run.from i) c.in-Plain.is c.index.ensures in
    let a = front_of m c.in-Run.from c.in-Run.to (One c.in-Plain.plain) c.args.heard.now c.self.invariant.0 c.in-Run.is (can_of c.self.inside c.args.self.now c.args.heard.now c.self.view_is c.requires) e in
    a.fits.0

pub execute-requires-clause-met : goal.execute-requires-clause-met
execute-requires-clause-met c =
    let m = kept c.self.inside in
    let e : One c.in-Plain.plain ≡ get_or m.code c.in-Run.from (One c.in-Plain.plain) = subst (λ i. i ≡ get_or m.code c.in-Run.from i) c.in-Plain.is c.index.ensures in
    let can = can_of c.self.inside c.args.self.now c.args.heard.now c.self.view_is c.requires in
    let a = front_of m c.in-Run.from c.in-Run.to (One c.in-Plain.plain) c.args.heard.now c.self.invariant.0 c.in-Run.is can e in
    front_can m c.in-Run.from c.in-Run.to c.in-Plain.plain c.args.heard.now c.in-Run.is a can

pub invariant_of-self-in-Plain : goal.invariant_of-self-in-Plain
invariant_of-self-in-Plain c =
    let m = kept c.self.inside in
    let e : One c.in-Plain.plain ≡ get_or m.code c.in-Run.from (One c.in-Plain.plain) = subst (λ i. i ≡ get_or m.code c.in-Run.from i) c.in-Plain.is c.index.ensures in
    let can = can_of c.self.inside c.args.self.now c.args.heard.now c.self.view_is c.requires in
    let a = front_of m c.in-Run.from c.in-Run.to (One c.in-Plain.plain) c.args.heard.now c.self.invariant.0 c.in-Run.is can e in
    let room = subst (λ t. HasRoom 512 m.code t m.below) c.in-Run.is c.self.invariant.1 in
    let many = c.self.invariant.2 in let kept_2 = c.settle-in-Plain.ensures.capacity in (
      one_sound m c.in-Run.from c.in-Run.to c.in-Plain.plain c.settle-in-Plain.new.top c.settle-in-Plain.new.below.items c.execute.new.registers.items c.execute.new.taken
          a c.self.invariant.0.below c.settle-in-Plain.ensures.same c.settle-in-Plain.ensures.settled c.execute.ensures.len c.execute.ensures.same,
      c.settle-in-Plain.ensures.same.room 512 m.code (plain_room 512 (length m.registers) m.code c.in-Run.from c.in-Run.to c.in-Plain.plain m.below a room),
      omega (arith, many, kept_2),
      c.self.invariant.3,
    )

pub returns-in-Plain-clause-state : goal.returns-in-Plain-clause-state
returns-in-Plain-clause-state c =
    let m = kept c.self.inside in
    let e : One c.in-Plain.plain ≡ get_or m.code c.in-Run.from (One c.in-Plain.plain) = subst (λ i. i ≡ get_or m.code c.in-Run.from i) c.in-Plain.is c.index.ensures in
    let can = can_of c.self.inside c.args.self.now c.args.heard.now c.self.view_is c.requires in
    let a = front_of m c.in-Run.from c.in-Run.to (One c.in-Plain.plain) c.args.heard.now c.self.invariant.0 c.in-Run.is can e in
    goes_to c.self.inside c.args.self.now _ c.args.heard.now c.self.view_is
    (one_next m c.in-Run.from c.in-Run.to c.in-Plain.plain c.settle-in-Plain.new.top c.settle-in-Plain.new.below.items c.execute.new.registers.items c.args.heard.now c.execute.new.taken
    c.in-Run.is a c.settle-in-Plain.ensures.same c.execute.ensures.value c.execute.ensures.cursors)

pub index-requires-in-If : goal.index-requires-in-If
index-requires-in-If c =
    let m = kept c.self.inside in
    let i = If c.in-If.guard c.in-If.first c.in-If.other in
    let e : i ≡ get_or m.code c.in-Run.from i = subst (λ i. i ≡ get_or m.code c.in-Run.from i) c.in-If.is c.index.ensures in
    let a = front_of m c.in-Run.from c.in-Run.to i c.args.heard.now c.self.invariant.0 c.in-Run.is (can_of c.self.inside c.args.self.now c.args.heard.now c.self.view_is c.requires) e in
    let h : c.in-If.guard < length c.self.inside.registers.items = a.fits.0 in
    search rules

pub choose-requires : goal.choose-requires
choose-requires c =
    let m = kept c.self.inside in
    let i = If c.in-If.guard c.in-If.first c.in-If.other in
    let e : i ≡ get_or m.code c.in-Run.from i = subst (λ i. i ≡ get_or m.code c.in-Run.from i) c.in-If.is c.index.ensures in
    let a = front_of m c.in-Run.from c.in-Run.to i c.args.heard.now c.self.invariant.0 c.in-Run.is (can_of c.self.inside c.args.self.now c.args.heard.now c.self.view_is c.requires) e in
    let room = subst (λ t. HasRoom 512 m.code t m.below) c.in-Run.is c.self.invariant.1 in
    let less = (choose_room 512 (length m.registers) m.code c.in-Run.from c.in-Run.to c.in-If.guard c.in-If.first c.in-If.other m.below true a room).0 in
    let many = c.self.invariant.2 in
    record { ends = (choice_fits (length m.registers) m.code c.in-Run.from c.in-Run.to c.in-If.guard c.in-If.first c.in-If.other a).ends; room = omega (arith, less, many) }

pub invariant_of-self-in-If : goal.invariant_of-self-in-If
invariant_of-self-in-If c =
    let m = kept c.self.inside in
    let i = If c.in-If.guard c.in-If.first c.in-If.other in
    let e : i ≡ get_or m.code c.in-Run.from i = subst (λ i. i ≡ get_or m.code c.in-Run.from i) c.in-If.is c.index.ensures in
    let a = front_of m c.in-Run.from c.in-Run.to i c.args.heard.now c.self.invariant.0 c.in-Run.is (can_of c.self.inside c.args.self.now c.args.heard.now c.self.view_is c.requires) e in
    let room = subst (λ t. HasRoom 512 m.code t m.below) c.in-Run.is c.self.invariant.1 in
    let many = c.self.invariant.2 in let kept_1 = c.choose.ensures.capacity in let kept_2 = c.settle-in-If.ensures.capacity in (
      choose_sound m _ c.in-Run.from c.in-Run.to c.in-If.guard c.in-If.first c.in-If.other c.choose.new.top c.settle-in-If.new.top c.choose.new.below.items c.settle-in-If.new.below.items
          a c.self.invariant.0.below c.choose.ensures.top c.choose.ensures.below c.settle-in-If.ensures.same c.settle-in-If.ensures.settled c.self.invariant.0.peers,
      room_after 512 m.code _ c.choose.new.top c.settle-in-If.new.top _ c.choose.new.below.items c.settle-in-If.new.below.items c.choose.ensures.top c.choose.ensures.below
          (choose_room 512 (length m.registers) m.code c.in-Run.from c.in-Run.to c.in-If.guard c.in-If.first c.in-If.other m.below _ a room).1 c.settle-in-If.ensures.same,
      omega (arith, many, kept_1, kept_2),
      c.self.invariant.3,
    )

pub returns-in-If-clause-state : goal.returns-in-If-clause-state
returns-in-If-clause-state c =
    let m = kept c.self.inside in
    let i = If c.in-If.guard c.in-If.first c.in-If.other in
    let e : i ≡ get_or m.code c.in-Run.from i = subst (λ i. i ≡ get_or m.code c.in-Run.from i) c.in-If.is c.index.ensures in
    let a = front_of m c.in-Run.from c.in-Run.to i c.args.heard.now c.self.invariant.0 c.in-Run.is (can_of c.self.inside c.args.self.now c.args.heard.now c.self.view_is c.requires) e in
    let within : c.in-If.guard < length m.registers = a.fits.0 in
    let value : c.index-in-If.result.now ≡ get_or m.registers c.in-If.guard 0 = c.index-in-If.ensures ∙ get_or_default m.registers c.in-If.guard c.index-in-If.result.now 0 within in
    goes_to c.self.inside c.args.self.now _ c.args.heard.now c.self.view_is
    (choose_next m _ c.in-Run.from c.in-Run.to c.in-If.guard c.in-If.first c.in-If.other c.choose.new.top c.settle-in-If.new.top c.choose.new.below.items c.settle-in-If.new.below.items _
    c.in-Run.is a (ap (λ x. nat_eq x 0) value) c.choose.ensures.top c.choose.ensures.below c.settle-in-If.ensures.same)

pub overflow_add-mid-in-For : goal.overflow_add-mid-in-For
overflow_add-mid-in-For c =
    let m = kept c.self.inside in
    let i = For c.in-For.counter c.in-For.turns c.in-For.body in
    let e : i ≡ get_or m.code c.in-Run.from i = subst (λ i. i ≡ get_or m.code c.in-Run.from i) c.in-For.is c.index.ensures in
    let a = front_of m c.in-Run.from c.in-Run.to i c.args.heard.now c.self.invariant.0 c.in-Run.is (can_of c.self.inside c.args.self.now c.args.heard.now c.self.view_is c.requires) e in
    let g = loop_fits (length m.registers) m.code c.in-Run.from c.in-Run.to c.in-For.counter c.in-For.turns c.in-For.body a in
    let h : c.in-Run.from + 1 + c.in-For.body ≤ c.in-Run.to = g.ends in
    search rules

pub turn-requires-in-For : goal.turn-requires-in-For
turn-requires-in-For c =
    let m = kept c.self.inside in
    let i = For c.in-For.counter c.in-For.turns c.in-For.body in
    let e : i ≡ get_or m.code c.in-Run.from i = subst (λ i. i ≡ get_or m.code c.in-Run.from i) c.in-For.is c.index.ensures in
    let a = front_of m c.in-Run.from c.in-Run.to i c.args.heard.now c.self.invariant.0 c.in-Run.is (can_of c.self.inside c.args.self.now c.args.heard.now c.self.view_is c.requires) e in
    let l : LoopFrame = record { register = c.in-For.counter; turn = 0; turns = c.in-For.turns; from = c.in-Run.from + 1; mid = c.in-Run.from + 1 + c.in-For.body; to = c.in-Run.to } in
    let room = for_room 512 (length m.registers) m.code c.in-Run.from c.in-Run.to c.in-For.counter c.in-For.turns c.in-For.body m.below a (subst (λ t. HasRoom 512 m.code t m.below) c.in-Run.is c.self.invariant.1) in
    let less = (turn_room 512 m.code l m.below room).0 in
    let many = c.self.invariant.2 in
    record { within = a.fits.0; room = omega (arith, less, many) }

pub invariant_of-self-in-For : goal.invariant_of-self-in-For
invariant_of-self-in-For c =
    let m = kept c.self.inside in
    let i = For c.in-For.counter c.in-For.turns c.in-For.body in
    let e : i ≡ get_or m.code c.in-Run.from i = subst (λ i. i ≡ get_or m.code c.in-Run.from i) c.in-For.is c.index.ensures in
    let a = front_of m c.in-Run.from c.in-Run.to i c.args.heard.now c.self.invariant.0 c.in-Run.is (can_of c.self.inside c.args.self.now c.args.heard.now c.self.view_is c.requires) e in
    let l : LoopFrame = record { register = c.in-For.counter; turn = 0; turns = c.in-For.turns; from = c.in-Run.from + 1; mid = c.in-Run.from + 1 + c.in-For.body; to = c.in-Run.to } in
    let g = loop_fits (length m.registers) m.code c.in-Run.from c.in-Run.to c.in-For.counter c.in-For.turns c.in-For.body a in
    let fits : FrameFits (length m.registers) m.code (loop_of l 0) = loop_frame_fits (length m.registers) m.code (c.in-Run.from + 1) c.in-For.body c.in-Run.to c.in-For.counter c.in-For.turns a.fits.0 g in
    let room = for_room 512 (length m.registers) m.code c.in-Run.from c.in-Run.to c.in-For.counter c.in-For.turns c.in-For.body m.below a (subst (λ t. HasRoom 512 m.code t m.below) c.in-Run.is c.self.invariant.1) in
    let many = c.self.invariant.2 in let kept_1 = c.turn-in-For.ensures.capacity in let kept_2 = c.settle-in-For.ensures.capacity in (
      turn_sound m l c.turn-in-For.new.top c.settle-in-For.new.top c.turn-in-For.new.below.items c.settle-in-For.new.below.items c.turn-in-For.new.registers.items fits c.self.invariant.0.below
          c.turn-in-For.ensures.top c.turn-in-For.ensures.below c.settle-in-For.ensures.same c.settle-in-For.ensures.settled c.turn-in-For.ensures.len c.self.invariant.0.peers,
      room_after 512 m.code _ c.turn-in-For.new.top c.settle-in-For.new.top _ c.turn-in-For.new.below.items c.settle-in-For.new.below.items c.turn-in-For.ensures.top c.turn-in-For.ensures.below (turned_room 512 m.code l m.below (nat_lt l.turn l.turns) room) c.settle-in-For.ensures.same,
      omega (arith, many, kept_1, kept_2),
      c.self.invariant.3,
    )

pub returns-in-For-clause-state : goal.returns-in-For-clause-state
returns-in-For-clause-state c =
    let m = kept c.self.inside in
    let i = For c.in-For.counter c.in-For.turns c.in-For.body in
    let e : i ≡ get_or m.code c.in-Run.from i = subst (λ i. i ≡ get_or m.code c.in-Run.from i) c.in-For.is c.index.ensures in
    let a = front_of m c.in-Run.from c.in-Run.to i c.args.heard.now c.self.invariant.0 c.in-Run.is (can_of c.self.inside c.args.self.now c.args.heard.now c.self.view_is c.requires) e in
    let l : LoopFrame = record { register = c.in-For.counter; turn = 0; turns = c.in-For.turns; from = c.in-Run.from + 1; mid = c.in-Run.from + 1 + c.in-For.body; to = c.in-Run.to } in
    goes_to c.self.inside c.args.self.now _ c.args.heard.now c.self.view_is
    (turn_next m l c.turn-in-For.new.top c.settle-in-For.new.top c.turn-in-For.new.below.items c.settle-in-For.new.below.items c.turn-in-For.new.registers.items _
    (ap (λ t. pending_of m.code t m.below) c.in-Run.is ∙ for_pending (length m.registers) m.code c.in-Run.from c.in-Run.to c.in-For.counter c.in-For.turns c.in-For.body (frames_code m.code m.below Finished) a)
    c.turn-in-For.ensures.top c.turn-in-For.ensures.below c.turn-in-For.ensures.registers c.settle-in-For.ensures.same)
