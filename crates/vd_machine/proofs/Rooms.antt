-- No step of a machine needs more places for frames than it had at the start.
use Rattle.std.proofs.Common.{◌≡◌, ℕ, suc, ◌+◌, ◌<◌, ◌≤◌, max, Bool, true, false, cond, List, [], ◌∷◌, ◌++◌, length, take, drop, refl, sym, ap, ap₂, ◌∙◌, subst, arith}
use Rattle.vd_execution.specs.Code.{Code}
use Rattle.vd_machine.specs.declared.ops.Plain.{Plain}
use Rattle.vd_machine.specs.declared.ops.Plain.TheVariants as plain
use Rattle.vd_machine.specs.declared.ops.Op.{Op}
use Rattle.vd_machine.specs.declared.ops.Op.TheVariants.{Plain as One, If, For}
use Rattle.vd_machine.specs.declared.frames.Frame.{Frame}
use Rattle.vd_machine.specs.declared.frames.Frame.TheVariants.{Run, Loop}
use Rattle.vd_machine.specs.declared.frames.LoopFrame.{LoopFrame}
use Rattle.vd_machine.specs.Kept.{plain_then, code_of, span, Same, loop_of}
use Rattle.vd_execution.specs.Ranges.{depth}
use Rattle.vd_machine.specs.Kept.{frame_depth, FramesHaveRoom, HasRoom}
use Rattle.vd_machine.proofs.Spans.{code_if, code_for}
use Rattle.vd_machine.proofs.Places.{push_room}
use Rattle.vd_machine.proofs.Steps.{AtFront, choice_fits, loop_fits}

depth_plain : (i : Plain) (c : Code) → depth (plain_then i c) ≡ depth c
depth_plain (plain.Do a) c = refl
depth_plain (plain.Send p rs) c = refl
depth_plain (plain.Recv p rs) c = refl

pub plain_room : (n r : ℕ) (code : List Op) (from to : ℕ) (i : Plain) (below : List Frame) → AtFront r code from to (One i) → HasRoom n code (Run from to) below → HasRoom n code (Run (from + 1) to) below
plain_room n r code from to i below a room =
    let e : frame_depth code (Run from to) ≡ frame_depth code (Run (from + 1) to) = ap (λ l. depth (code_of l)) a.front ∙ depth_plain i (code_of (span code (from + 1) to)) in
    let h = room.top_fits in
    record { below_fit = room.below_fit; top_fits = omega (arith, h, e) }

length_more : (fs : List Frame) (f : Frame) → length (fs ++ f ∷ []) ≡ suc (length fs)
length_more [] f = refl
length_more (g ∷ fs) f = ap suc (length_more fs f)

-- what a branch needs
record ChoiceRoom (n : ℕ) (code : List Op) (at a o to : ℕ) (below : List Frame) : Type 0 where
  pub less : length below < n
  pub first : suc (length below) + depth (code_of (span code at (at + a))) ≤ n
  pub other : suc (length below) + depth (code_of (span code (at + a) (at + a + o))) ≤ n
  pub rest : length below + depth (code_of (span code (at + a + o) to)) ≤ n

choice_room : (n r : ℕ) (code : List Op) (from to x a o : ℕ) (below : List Frame) → AtFront r code from to (If x a o) → HasRoom n code (Run from to) below → ChoiceRoom n code (from + 1) a o to below
choice_room n r code from to x a o below f room =
    let g = choice_fits r code from to x a o f in
    let is : List Op = span code (from + 1) to in
    let e : frame_depth code (Run from to) ≡ max (suc (max (depth (code_of (span code (from + 1) (from + 1 + a)))) (depth (code_of (span code (from + 1 + a) (from + 1 + a + o)))))) (depth (code_of (span code (from + 1 + a + o) to))) =
    ap (λ l. depth (code_of l)) f.front ∙ ap depth (code_if x a o is)
    ∙ ap (λ l. max (suc (max (depth (code_of l)) (depth (code_of (take o (drop a is)))))) (depth (code_of (drop o (drop a is))))) g.first_is
    ∙ ap₂ (λ (l m : List Op). max (suc (max (depth (code_of (span code (from + 1) (from + 1 + a)))) (depth (code_of l)))) (depth (code_of m))) g.other_is g.rest_is in
    let h = room.top_fits in
    record { less = omega (arith, h, e); first = omega (arith, h, e); other = omega (arith, h, e); rest = omega (arith, h, e) }

branch_room : (n : ℕ) (code : List Op) (at a o to : ℕ) (below : List Frame) (b : Bool) → FramesHaveRoom n code 0 below → ChoiceRoom n code at a o to below
    → HasRoom n code (cond b (Run (at + a) (at + a + o)) (Run at (at + a))) (below ++ Run (at + a + o) to ∷ [])
branch_room n code at a o to below true f r =
    let l = length_more below (Run (at + a + o) to) in let h = r.other in let k = r.rest in
    record { below_fit = push_room n code 0 below (Run (at + a + o) to) f (omega (arith, k)); top_fits = omega (arith, l, h) }
branch_room n code at a o to below false f r =
    let l = length_more below (Run (at + a + o) to) in let h = r.first in let k = r.rest in
    record { below_fit = push_room n code 0 below (Run (at + a + o) to) f (omega (arith, k)); top_fits = omega (arith, l, h) }

pub choose_room : (n r : ℕ) (code : List Op) (from to x a o : ℕ) (below : List Frame) (b : Bool) → AtFront r code from to (If x a o) → HasRoom n code (Run from to) below
    → (length below < n) × HasRoom n code (cond b (Run (from + 1 + a) (from + 1 + a + o)) (Run (from + 1) (from + 1 + a))) (below ++ Run (from + 1 + a + o) to ∷ [])
choose_room n r code from to x a o below b f room =
    let c = choice_room n r code from to x a o below f room in (c.less, branch_room n code (from + 1) a o to below b room.below_fit c)

-- what a turn of a loop needs
pub turn_room : (n : ℕ) (code : List Op) (l : LoopFrame) (below : List Frame) → HasRoom n code (loop_of l l.turn) below
    → (length below < n) × HasRoom n code (Run l.from l.mid) (below ++ loop_of l (l.turn + 1) ∷ []) × HasRoom n code (Run l.mid l.to) below
turn_room n code l below room =
    let h = room.top_fits in
    let m = length_more below (loop_of l (l.turn + 1)) in (
      omega (arith, h),
      record { below_fit = push_room n code 0 below (loop_of l (l.turn + 1)) room.below_fit (omega (arith, h)); top_fits = omega (arith, h, m) },
      record { below_fit = room.below_fit; top_fits = omega (arith, h) },
    )

-- a loop that begins
pub for_room : (n r : ℕ) (code : List Op) (from to x k a : ℕ) (below : List Frame) → AtFront r code from to (For x k a) → HasRoom n code (Run from to) below → HasRoom n code (Loop x 0 k (from + 1) (from + 1 + a) to) below
for_room n r code from to x k a below f room =
    let g = loop_fits r code from to x k a f in
    let is : List Op = span code (from + 1) to in
    let e : frame_depth code (Run from to) ≡ frame_depth code (Loop x 0 k (from + 1) (from + 1 + a) to) =
    ap (λ l. depth (code_of l)) f.front ∙ ap depth (code_for x k a is)
    ∙ ap₂ (λ (l m : List Op). max (suc (depth (code_of l))) (depth (code_of m))) g.body_is g.rest_is in
    let h = room.top_fits in
    record { below_fit = room.below_fit; top_fits = omega (arith, h, e) }

pub turned_room : (n : ℕ) (code : List Op) (l : LoopFrame) (below : List Frame) (b : Bool) → HasRoom n code (loop_of l l.turn) below
    → HasRoom n code (cond b (Run l.from l.mid) (Run l.mid l.to)) (cond b (below ++ loop_of l (l.turn + 1) ∷ []) below)
turned_room n code l below true room = (turn_room n code l below room).1
turned_room n code l below false room = (turn_room n code l below room).2

-- the frames after a step, and after those that are over have gone
pub room_after : (n : ℕ) (code : List Op) (top top1 top2 : Frame) (below below1 below2 : List Frame) → top1 ≡ top → below1 ≡ below → HasRoom n code top below → Same top1 below1 top2 below2 → HasRoom n code top2 below2
room_after n code top top1 top2 below below1 below2 e f room same =
    same.room n code (subst (λ t. HasRoom n code t below1) (sym e) (subst (λ b. HasRoom n code top b) (sym f) room))
