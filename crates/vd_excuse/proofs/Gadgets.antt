-- The lines of a gadget's acts.
use Rattle.std.proofs.Common.{◌≡◌, Bool, false, if◌then◌else◌, List, [], ◌∷◌, ◌++◌, append_assoc, append-nil, map, Option, Some, None, refl, sym, ap, ap₂, subst, ◌∙◌}
use Rattle.std.specs.Prelude.{slice_get}
use Rattle.vd_base.specs.declared.ids.HostId.{HostId}
use Rattle.vd_execution.specs.declared.instructions.Action.{Action}
use Rattle.vd_execution.specs.declared.instructions.Action.TheVariants as action
use Rattle.vd_execution.specs.declared.instructions.Act.{Act}
use Rattle.vd_execution.specs.declared.instructions.Act.TheVariants as act
use Rattle.vd_execution.specs.declared.instructions.Line.{Line}
use Rattle.vd_execution.specs.Acts.{lines_of}
use Rattle.vd_execution.specs.Gadgets.{Sharing, BySums, ByXors, Masking, Pairing, Gadget, Alone, Tells, Shares, BothShare, Opens, Masked, Paired, acts_of_gadget, TakesNoPart, GadgetIsTidy}
use Rattle.vd_execution.specs.Plans.{Plan, Ends, Then, Branch, Loop, joint_of, PlanIsTidy}
use Rattle.vd_execution.specs.Text.{flat}
use Rattle.vd_views.specs.ReadOff.{Place, operand_in, alone_in, applied_in, masked_in, seen, IsReadOff, GadgetIsReadOff, front}
use Rattle.vd_excuse_walk.specs.declared.equivocation_laws.step.Part.{Part}
use Rattle.vd_excuse_walk.specs.declared.equivocation_laws.step.Hidden.{Hidden}
use Rattle.vd_excuse_walk.specs.declared.equivocation_laws.step.Hidden.TheVariants.{Word}
use Rattle.vd_excuse_walk.specs.declared.equivocation_laws.step.Step.{Step, Hide, Act as ActStep}
use Rattle.vd_excuse_walk.specs.Steps.{part_of, hidden_by}
use Rattle.vd_excuse.specs.declared.equivocation_steps.block.Block.{Block}
use Rattle.vd_excuse.specs.Ahead.{operand_of, is_taking, of_two, hidden_before, hidden_by_act}
use Rattle.vd_excuse.specs.Reading.{hiding, read}
use Rattle.vd_excuse.proofs.Blocks.{reading}

-- ---- acts in a row

-- the steps that are read of acts, before these lines
abbrev pub told : List Act → List Line → List Step
told [] behind = []
told (a ∷ acts) behind = hiding (hidden_by_act a (lines_of acts ++ behind)) ++ (ActStep a ∷ told acts behind)

pub reads_acts : (acts : List Act) (behind : List Line) (steps : List Step) (bs : List Block) → read (lines_of acts ++ behind) (reading steps bs) ≡ read behind (reading (steps ++ told acts behind) bs)
reads_acts [] behind steps bs = ap (λ (l : List Step). read behind (reading l bs)) (sym (append-nil steps))
reads_acts (a ∷ acts) behind steps bs =
    let h : List Step = hiding (hidden_by_act a (lines_of acts ++ behind)) in
    reads_acts acts behind (steps ++ (h ++ ActStep a ∷ [])) bs
    ∙ ap (λ (l : List Step). read behind (reading l bs))
    (append_assoc steps (h ++ ActStep a ∷ []) (told acts behind) ∙ ap (λ (l : List Step). steps ++ l) (append_assoc h (ActStep a ∷ []) (told acts behind)))

-- ---- single actions

takes_none : (a : Action) (behind : List Line) → TakesNoPart a → hidden_before a behind ≡ None
takes_none (action.Const r k) behind t = refl
takes_none (action.Copy r x) behind t = refl
takes_none (action.Apply o r x y) behind t = refl
takes_none (action.Shl r x k) behind t = refl
takes_none (action.Shr r x k) behind t = refl
takes_none (action.Mux r c x y) behind t = refl
takes_none (action.Own r) behind t = refl
takes_none (action.Triple p a b c) behind t = absurd t
takes_none (action.Bits p a b c) behind t = absurd t
takes_none (action.Pair p s x) behind t = absurd t
takes_none (action.Input r) behind t = refl
takes_none (action.Print r) behind t = refl
takes_none (action.Hash d n v) behind t = refl
takes_none (action.Same x y) behind t = refl
takes_none (action.Zero r count) behind t = refl
takes_none (action.Get r x count i) behind t = refl
takes_none (action.Put x count i s) behind t = refl

is_no_take : (a : Action) → TakesNoPart a → is_taking a ≡ false
is_no_take (action.Const r k) t = refl
is_no_take (action.Copy r x) t = refl
is_no_take (action.Apply o r x y) t = refl
is_no_take (action.Shl r x k) t = refl
is_no_take (action.Shr r x k) t = refl
is_no_take (action.Mux r c x y) t = refl
is_no_take (action.Own r) t = refl
is_no_take (action.Triple p a b c) t = absurd t
is_no_take (action.Bits p a b c) t = absurd t
is_no_take (action.Pair p s x) t = absurd t
is_no_take (action.Input r) t = refl
is_no_take (action.Print r) t = refl
is_no_take (action.Hash d n v) t = refl
is_no_take (action.Same x y) t = refl
is_no_take (action.Zero r count) t = refl
is_no_take (action.Get r x count i) t = refl
is_no_take (action.Put x count i s) t = refl

abbrev as_part : Place → Part
as_part q = record { host = q.0; word = q.1 }

operand_is : (h : HostId) (a : Action) (q : Place) → operand_in h a ≡ Some q → operand_of h a ≡ Some (as_part q)
operand_is h (action.Apply o r x y) q e = let same : (h, x) ≡ q = cc in ap (λ (z : Place). Some (as_part z)) same
operand_is h (action.Const r k) q e = absurd cc
operand_is h (action.Copy r x) q e = absurd cc
operand_is h (action.Shl r x k) q e = absurd cc
operand_is h (action.Shr r x k) q e = absurd cc
operand_is h (action.Mux r c x y) q e = absurd cc
operand_is h (action.Own r) q e = absurd cc
operand_is h (action.Triple p a b c) q e = absurd cc
operand_is h (action.Bits p a b c) q e = absurd cc
operand_is h (action.Pair p s x) q e = absurd cc
operand_is h (action.Input r) q e = absurd cc
operand_is h (action.Print r) q e = absurd cc
operand_is h (action.Hash d n v) q e = absurd cc
operand_is h (action.Same x y) q e = absurd cc
operand_is h (action.Zero r count) q e = absurd cc
operand_is h (action.Get r x count i) q e = absurd cc
operand_is h (action.Put x count i s) q e = absurd cc

-- ---- what follows a pair

-- a plan that begins with a host's own action
record BeginsAlone (plan : Plan Gadget) : Type 0 where
  host : HostId
  action : Action
  rest : Plan Gadget
  is : plan ≡ Then (Alone host action) rest

begins_alone : (plan : Plan Gadget) (h : HostId) → seen alone_in (slice_get (front plan) 0) ≡ Some h → BeginsAlone plan
begins_alone Ends h e = absurd cc
begins_alone (Branch ps first other rest) h e = absurd cc
begins_alone (Loop ps count body rest) h e = absurd cc
begins_alone (Then (Alone k a) rest) h e = record { host = k; action = a; rest = rest; is = refl }
begins_alone (Then (Tells a said b heard) rest) h e = absurd cc
begins_alone (Then (Shares a r b heard) rest) h e = absurd cc
begins_alone (Then (BothShare a r heard b q heard_b) rest) h e = absurd cc
begins_alone (Then (Opens sharing a x b y heard) rest) h e = absurd cc
begins_alone (Then (Masked sharing m n) rest) h e = absurd cc
begins_alone (Then (Paired p q) rest) h e = absurd cc

record BeginsApplied (plan : Plan Gadget) (q : Place) : Type 0 where
  host : HostId
  action : Action
  rest : Plan Gadget
  is : plan ≡ Then (Alone host action) rest
  operand : operand_in host action ≡ Some q

begins_applied : (plan : Plan Gadget) (q : Place) → seen applied_in (slice_get (front plan) 0) ≡ Some q → BeginsApplied plan q
begins_applied Ends q e = absurd cc
begins_applied (Branch ps first other rest) q e = absurd cc
begins_applied (Loop ps count body rest) q e = absurd cc
begins_applied (Then (Alone k a) rest) q e = record { host = k; action = a; rest = rest; is = refl; operand = e }
begins_applied (Then (Tells a said b heard) rest) q e = absurd cc
begins_applied (Then (Shares a r b heard) rest) q e = absurd cc
begins_applied (Then (BothShare a r heard b k heard_b) rest) q e = absurd cc
begins_applied (Then (Opens sharing a x b y heard) rest) q e = absurd cc
begins_applied (Then (Masked sharing m n) rest) q e = absurd cc
begins_applied (Then (Paired p k) rest) q e = absurd cc

record BeginsMasked (plan : Plan Gadget) (q : Place) : Type 0 where
  sharing : Sharing
  one : Masking
  two : Masking
  rest : Plan Gadget
  is : plan ≡ Then (Masked sharing one two) rest
  operand : Some (as_part (two.host, two.x)) ≡ Some (as_part q)

begins_masked : (plan : Plan Gadget) (q : Place) → seen masked_in (slice_get (front plan) 0) ≡ Some q → BeginsMasked plan q
begins_masked Ends q e = absurd cc
begins_masked (Branch ps first other rest) q e = absurd cc
begins_masked (Loop ps count body rest) q e = absurd cc
begins_masked (Then (Alone k a) rest) q e = absurd cc
begins_masked (Then (Tells a said b heard) rest) q e = absurd cc
begins_masked (Then (Shares a r b heard) rest) q e = absurd cc
begins_masked (Then (BothShare a r heard b k heard_b) rest) q e = absurd cc
begins_masked (Then (Opens sharing a x b y heard) rest) q e = absurd cc
begins_masked (Then (Masked sharing m n) rest) q e =
    let same : (n.host, n.x) ≡ q = cc in record { sharing = sharing; one = m; two = n; rest = rest; is = refl; operand = ap (λ (z : Place). Some (as_part z)) same }
begins_masked (Then (Paired p k) rest) q e = absurd cc

-- the three gadgets behind a pair
record BeginsReadOff (p q : Pairing) (plan : Plan Gadget) : Type 0 where
  number : BeginsAlone plan
  turned : BeginsApplied number.rest (p.host, p.word)
  product : BeginsMasked turned.rest (q.host, q.word)

begins_read_off : (p q : Pairing) (plan : Plan Gadget) → IsReadOff p q (front plan) → BeginsReadOff p q plan
begins_read_off p q plan o =
    let one = begins_alone plan p.host o.number in
    let P : Plan Gadget → Type 0 = λ x. IsReadOff p q (front x) in
    let o1 : IsReadOff p q (Alone one.host one.action ∷ front one.rest) = subst P one.is o in
    let two = begins_applied one.rest (p.host, p.word) o1.first in
    let Q : Plan Gadget → Type 0 = λ x. IsReadOff p q (Alone one.host one.action ∷ front x) in
    let o2 : IsReadOff p q (Alone one.host one.action ∷ Alone two.host two.action ∷ front two.rest) = subst Q two.is o1 in
    record { number = one; turned = two; product = begins_masked two.rest (q.host, q.word) o2.second }

words_told : (p q : Pairing) (a : Bool) (x y : Option Part) (acts : List Step) → a ≡ false → x ≡ Some (part_of p) → y ≡ Some (part_of q) → (never : Option Hidden)
    → (one two : Act) → hiding (of_two Word x y) ++ (ActStep one ∷ (hiding (if a then never else None) ++ (ActStep two ∷ []))) ≡ Hide (Word (part_of p) (part_of q)) ∷ ActStep one ∷ ActStep two ∷ []
words_told p q a x y acts none e f never one two =
    ap₂ (λ (v w : Option Part). hiding (of_two Word v w) ++ (ActStep one ∷ (hiding (if a then never else None) ++ (ActStep two ∷ [])))) e f
    ∙ ap (λ (b : Bool). Hide (Word (part_of p) (part_of q)) ∷ ActStep one ∷ (hiding (if b then never else None) ++ (ActStep two ∷ []))) none

abbrev pub ToldOf : Gadget → Plan Gadget → List Line → Type 0
ToldOf g rest behind = told (acts_of_gadget g) (flat (joint_of rest) behind) ≡ map Hide (hidden_by g) ++ map ActStep (acts_of_gadget g)

paired_told : (p q : Pairing) (rest : Plan Gadget) (behind : List Line) → IsReadOff p q (front rest) → PlanIsTidy rest → ToldOf (Paired p q) rest behind
paired_told p q rest behind off tidy =
    let o = begins_read_off p q rest off in
    let one = o.number in
    let two = o.turned in
    let three = o.product in
    let whole : rest ≡ Then (Alone one.host one.action) (Then (Alone two.host two.action) (Then (Masked three.sharing three.one three.two) three.rest)) =
    one.is ∙ ap (λ (x : Plan Gadget). Then (Alone one.host one.action) x) (two.is ∙ ap (λ (x : Plan Gadget). Then (Alone two.host two.action) x) three.is) in
    let P : Plan Gadget → Type 0 = λ x. PlanIsTidy x in
    let Q : Plan Gadget → Type 0 = λ x. ToldOf (Paired p q) x behind in
    subst Q (sym whole)
    (words_told p q (is_taking one.action) (operand_of two.host two.action) (Some (as_part (three.two.host, three.two.x))) [] (is_no_take one.action (subst P whole tidy).0)
    (operand_is two.host two.action (p.host, p.word) two.operand) three.operand _ _ _)

-- ---- gadgets

pub gadget_told : (g : Gadget) (rest : Plan Gadget) (behind : List Line) → GadgetIsTidy g → GadgetIsReadOff g (front rest) → PlanIsTidy rest → ToldOf g rest behind
gadget_told (Alone h a) rest behind tidy off tidy_rest = ap (λ (x : Option Hidden). hiding x ++ (ActStep (act.Do h a) ∷ [])) (takes_none a (flat (joint_of rest) behind) tidy)
gadget_told (Tells a said b heard) rest behind tidy off tidy_rest = refl
gadget_told (Shares a r b heard) rest behind tidy off tidy_rest = refl
gadget_told (BothShare a r heard b q heard_b) rest behind tidy off tidy_rest = refl
gadget_told (Opens sharing a x b y heard) rest behind tidy off tidy_rest = refl
gadget_told (Masked BySums m n) rest behind tidy off tidy_rest = refl
gadget_told (Masked ByXors m n) rest behind tidy off tidy_rest = refl
gadget_told (Paired p q) rest behind tidy off tidy_rest = paired_told p q rest behind off tidy_rest
