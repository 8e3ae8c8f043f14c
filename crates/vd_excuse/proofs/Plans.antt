-- What is read of the lines of a plan: its steps, without the blocks in which no host takes part.
use Rattle.std.proofs.Common.{◌≡◌, ◌⊎◌, ℕ, suc, nat_eq, Bool, true, false, not, ◌&&◌, List, [], ◌∷◌, ◌++◌, append_assoc, append-nil, map, length, Some, None, refl, sym, ap, ◌∙◌, inl, inr, arith}
use Rattle.vd_execution.specs.declared.instructions.Line.{Line}
use Rattle.vd_execution.specs.Joint.{Part, TakesPart}
use Rattle.vd_execution.specs.Gadgets.{BySums, ByXors, Gadget, Alone, Tells, Shares, BothShare, Opens, Masked, Paired, acts_of_gadget}
use Rattle.vd_execution.specs.Plans.{Plan, Ends, Then, Branch, Loop, joint_of, PlanIsWithin, PlanIsTidy}
use Rattle.vd_execution.specs.Text.{flat, each_then}
use Rattle.vd_execution.proofs.Front.{flat_first}
use Rattle.std.specs.Prelude.{◌||◌, Result, IfOk, Ok, Err}
use Rattle.std.proofs.lemmas.Bool.Decides.{eqb_tells, nat_tests}
use Rattle.vd_views.specs.ReadOff.{PlanIsReadOff}
use Rattle.vd_excuse_walk.specs.declared.equivocation_laws.step.Step.{Step, Hide, Act as ActStep, Branch as BranchStep, Loop as LoopStep}
use Rattle.vd_excuse_walk.specs.Steps.{hidden_by, steps_of}
use Rattle.vd_excuse_walk.specs.Walks.{both_steps, walks}
use Rattle.vd_excuse_walk.specs.EquivocationLawsClaims.{WalksExcuse}
use Rattle.vd_excuse.specs.declared.equivocation_steps.block.Kind.{Kind}
use Rattle.vd_excuse.specs.declared.equivocation_steps.block.Kind.TheVariants as kind
use Rattle.vd_excuse.specs.declared.equivocation_steps.block.Block.{Block}
use Rattle.vd_excuse.specs.Reading.{Reading, nothing_read, same_kind, takes_part, suits, read}
use Rattle.vd_excuse.specs.Claims.{CanBeStepped, LeadTo}
use Rattle.vd_excuse.proofs.Blocks.{reading, block, else_mark, end_mark, joins_in, opens, turns_over, ends_at}
use Rattle.vd_excuse.proofs.Gadgets.{reads_acts, gadget_told}
use Rattle.vd_excuse.proofs.Nobody.{no_lines}
use Rattle.vd_excuse.proofs.Trimmed.{trimmed, same_end}

-- ---- which hosts open blocks of a plan

abbrev OpenedBy : Plan Gadget → ℕ → Type 0
OpenedBy Ends h = ⊥
OpenedBy (Then g rest) h = OpenedBy rest h
OpenedBy (Branch ps first other rest) h = TakesPart ps h ⊎ OpenedBy rest h
OpenedBy (Loop ps count body rest) h = TakesPart ps h ⊎ OpenedBy rest h

opened_within : (ps : List Part) (plan : Plan Gadget) → PlanIsWithin ps plan → (h : ℕ) → OpenedBy plan h → TakesPart ps h
opened_within ps Ends w h o = absurd o
opened_within ps (Then g rest) w h o = opened_within ps rest w.1 h o
opened_within ps (Branch qs first other rest) w h (inl x) = w.0 h x
opened_within ps (Branch qs first other rest) w h (inr x) = opened_within ps rest w.1 h x
opened_within ps (Loop qs count body rest) w h (inl x) = w.0 h x
opened_within ps (Loop qs count body rest) w h (inr x) = opened_within ps rest w.1 h x

-- no host that opens a block of the plan is taken for one of the block that has just been opened
abbrev IsShut : Plan Gadget → List Step → List Block → Type 0
IsShut plan steps bs = (k : Kind) (h : ℕ) → OpenedBy plan h → joins_in k h steps bs ≡ false

no_steps : (m : ℕ) → nat_eq (suc m) 0 ≡ false
no_steps m = grind (arith, nat_tests)

-- so it is once there is a step
shut_behind : (k : Kind) (h : ℕ) (steps : List Step) (x : Step) (more : List Step) (bs : List Block) → joins_in k h (steps ++ x ∷ more) bs ≡ false
shut_behind k h steps x more [] = refl
shut_behind k h [] x more (b ∷ bs) = ap (λ (q : Bool). q && suits k h b) (no_steps (length more))
shut_behind k h (y ∷ steps) x more (b ∷ bs) = ap (λ (q : Bool). q && suits k h b) (no_steps (length (steps ++ x ∷ more)))

takes_its_part : (ps : List Part) (h : ℕ) → TakesPart ps h → takes_part h ps ≡ true
takes_its_part [] h part = absurd part
takes_its_part (p ∷ ps) h (inl e) = found (nat_eq p.0 h) (takes_part h ps) (inl (tested (sym e)))
  where
    tested : p.0 ≡ h → nat_eq p.0 h ≡ true
    tested same =
        elim (eqb_tells p.0 h) [
          | inl x ↦ x.0
          | inr x ↦ absurd (x.1 same)
        ]

    found : (a b : Bool) → (a ≡ true) ⊎ (b ≡ true) → (a || b) ≡ true
    found true b x = refl
    found false true x = refl
    found false false (inl x) = absurd cc
    found false false (inr x) = absurd cc
takes_its_part (p ∷ ps) h (inr part) = found (nat_eq p.0 h) (takes_part h ps) (takes_its_part ps h part)
  where
    found : (a b : Bool) → b ≡ true → (a || b) ≡ true
    found true b x = refl
    found false b x = x

-- in the block of all these hosts
shut_in_first : (j k : Kind) (ps : List Part) (before : List Step) (bs : List Block) (h : ℕ) → TakesPart ps h → joins_in j h [] (block before ps k None 0 ∷ bs) ≡ false
shut_in_first j k ps before bs h part = ap (λ (b : Bool). same_kind j k && not b) (takes_its_part ps h part) ∙ last (same_kind j k)
  where
    last : (a : Bool) → (a && false) ≡ false
    last true = refl
    last false = refl

shut_in_other : (j : Kind) (ps : List Part) (before first : List Step) (bs : List Block) (h : ℕ) → joins_in j h [] (block before ps kind.Branch (Some first) 0 ∷ bs) ≡ false
shut_in_other j ps before first bs h = last (same_kind j kind.Branch)
  where
    last : (a : Bool) → (a && false) ≡ false
    last true = refl
    last false = refl

-- ---- plans

abbrev Reads : Plan Gadget → Type 0
Reads plan =
    (behind : List Line) (steps : List Step) (bs : List Block) → PlanIsTidy plan → PlanIsReadOff plan → IsShut plan steps bs
    → read (flat (joint_of plan) behind) (reading steps bs) ≡ read behind (reading (steps ++ steps_of (trimmed plan)) bs)

-- behind a gadget there is a step
shut_behind_gadget : (g : Gadget) (k : Kind) (h : ℕ) (steps : List Step) (bs : List Block) → joins_in k h (steps ++ (map Hide (hidden_by g) ++ map ActStep (acts_of_gadget g))) bs ≡ false
shut_behind_gadget (Alone x a) k h steps bs = shut_behind k h steps _ _ bs
shut_behind_gadget (Tells a said b heard) k h steps bs = shut_behind k h steps _ _ bs
shut_behind_gadget (Shares a r b heard) k h steps bs = shut_behind k h steps _ _ bs
shut_behind_gadget (BothShare a r heard b q heard_b) k h steps bs = shut_behind k h steps _ _ bs
shut_behind_gadget (Opens sharing a x b y heard) k h steps bs = shut_behind k h steps _ _ bs
shut_behind_gadget (Masked BySums m n) k h steps bs = shut_behind k h steps _ _ bs
shut_behind_gadget (Masked ByXors m n) k h steps bs = shut_behind k h steps _ _ bs
shut_behind_gadget (Paired p q) k h steps bs = shut_behind k h steps _ _ bs

reads : (plan : Plan Gadget) → Reads plan
reads Ends behind steps bs tidy off shut = ap (λ (l : List Step). read behind (reading l bs)) (sym (append-nil steps))
reads (Then g rest) behind steps bs tidy off shut =
    let hides : List Step = map Hide (hidden_by g) in
    let acts : List Step = map ActStep (acts_of_gadget g) in
    ap (λ (l : List Line). read l (reading steps bs)) (flat_first (acts_of_gadget g) (joint_of rest) behind)
    ∙ reads_acts (acts_of_gadget g) (flat (joint_of rest) behind) steps bs
    ∙ ap (λ (l : List Step). read (flat (joint_of rest) behind) (reading (steps ++ l) bs)) (gadget_told g rest behind tidy.0 off.0 tidy.1)
    ∙ reads rest behind (steps ++ (hides ++ acts)) bs tidy.1 off.1 (λ k h o. shut_behind_gadget g k h steps bs)
    ∙ ap (λ (l : List Step). read behind (reading l bs))
    (append_assoc steps (hides ++ acts) (steps_of (trimmed rest)) ∙ ap (λ (l : List Step). steps ++ l) (append_assoc hides acts (steps_of (trimmed rest))))
reads (Branch [] first other rest) behind steps bs tidy off shut =
    ap (λ (l : List Line). read l (reading steps bs))
    (no_lines first (flat (joint_of other) (flat (joint_of rest) behind)) tidy.1.0 tidy.0.1 ∙ no_lines other (flat (joint_of rest) behind) tidy.1.1.0 tidy.0.2)
    ∙ reads rest behind steps bs tidy.1.1.1 off.1.1 (λ k h o. shut k h (inr o))
reads (Branch (p ∷ ps) first other rest) behind steps bs tidy off shut =
    let ends : List Line = each_then (p ∷ ps) end_mark (flat (joint_of rest) behind) in
    let elses : List Line = each_then (p ∷ ps) else_mark (flat (joint_of other) ends) in
    let one : List Step = steps_of (trimmed first) in
    let two : List Step = steps_of (trimmed other) in
    opens kind.Branch p ps steps bs (flat (joint_of first) elses) tidy.0.0 (shut kind.Branch p.0 (inl (inl refl)))
    ∙ reads first elses [] (block steps (p ∷ ps) kind.Branch None 0 ∷ bs) tidy.1.0 off.0
    (λ k h o. shut_in_first k kind.Branch (p ∷ ps) steps bs h (opened_within (p ∷ ps) first tidy.0.1 h o))
    ∙ turns_over p ps (p ∷ ps) steps one bs (flat (joint_of other) ends)
    ∙ reads other ends [] (block steps (p ∷ ps) kind.Branch (Some one) 0 ∷ bs) tidy.1.1.0 off.1.0 (λ k h o. shut_in_other k (p ∷ ps) steps one bs h)
    ∙ ends_at p ps (p ∷ ps) kind.Branch 0 steps two (Some one) bs (flat (joint_of rest) behind) (omega arith)
    ∙ reads rest behind (steps ++ BranchStep (p ∷ ps) one two ∷ []) bs tidy.1.1.1 off.1.1 (λ k h o. shut_behind k h steps (BranchStep (p ∷ ps) one two) [] bs)
    ∙ ap (λ (l : List Step). read behind (reading l bs)) (append_assoc steps (BranchStep (p ∷ ps) one two ∷ []) (steps_of (trimmed rest)))
reads (Loop [] count body rest) behind steps bs tidy off shut =
    ap (λ (l : List Line). read l (reading steps bs)) (no_lines body (flat (joint_of rest) behind) tidy.1.1.0 tidy.0.1)
    ∙ reads rest behind steps bs tidy.1.1.1 off.1 (λ k h o. shut k h (inr o))
reads (Loop (p ∷ ps) count body rest) behind steps bs tidy off shut =
    let ends : List Line = each_then (p ∷ ps) end_mark (flat (joint_of rest) behind) in
    let one : List Step = steps_of (trimmed body) in
    opens (kind.Loop count) p ps steps bs (flat (joint_of body) ends) tidy.0.0 (shut (kind.Loop count) p.0 (inl (inl refl)))
    ∙ reads body ends [] (block steps (p ∷ ps) (kind.Loop count) None 0 ∷ bs) tidy.1.1.0 off.0
    (λ k h o. shut_in_first k (kind.Loop count) (p ∷ ps) steps bs h (opened_within (p ∷ ps) body tidy.0.1 h o))
    ∙ ends_at p ps (p ∷ ps) (kind.Loop count) 0 steps one None bs (flat (joint_of rest) behind) (omega arith)
    ∙ reads rest behind (steps ++ LoopStep (p ∷ ps) count one ∷ []) bs tidy.1.1.1 off.1 (λ k h o. shut_behind k h steps (LoopStep (p ∷ ps) count one) [] bs)
    ∙ ap (λ (l : List Step). read behind (reading l bs)) (append_assoc steps (LoopStep (p ∷ ps) count one ∷ []) (steps_of (trimmed rest)))

-- ---- what the steps lead to

pub lead_to : WalksExcuse → (plan : Plan Gadget) (lines : List Line) (steps : List Step) → lines ≡ flat (joint_of plan) [] → CanBeStepped plan → steps ≡ (read lines nothing_read).steps → LeadTo steps plan
lead_to law plan lines steps are can is K t r =
    let same : steps ≡ steps_of (trimmed plan) =
    is ∙ ap (λ (l : List Line). (read l nothing_read).steps) are
    ∙ ap (λ (q : Reading). q.steps) (reads plan [] [] [] can.tidy can.read_off (λ k h o. refl)) in
    ap (λ (l : List Step). both_steps (walks K t l) r) same
    ∙ law K t (trimmed plan) r
    ∙ same_end K t plan can.tidy r

pub if_ok : {A E : Type 0} {P Q : A → Type 0} (r : Result A E) → ((a : A) → P a → Q a) → IfOk r P → IfOk r Q
if_ok (Ok a) leads holds = leads a holds
if_ok (Err e) leads holds = tt
