-- Two runs along the steps of a plan end with the deal that explains.
use Rattle.std.proofs.Common.{◌≡◌, ℕ, zero, suc, ◌<◌, Bool, true, false, if◌then◌else◌, List, [], ◌∷◌, ◌++◌, map, refl, sym, ap, subst, ◌∙◌, arith, rules}
use Rattle.vd_execution.specs.declared.instructions.Act.{Act}
use Rattle.vd_execution.specs.Step.{Source, Pairs}
use Rattle.vd_execution.specs.World.{Tape}
use Rattle.vd_execution.specs.Joint.{Part, Hosts, is_other, turn_begun, turns, joint}
use Rattle.vd_execution.specs.Acts.{run_acts}
use Rattle.vd_execution.specs.Gadgets.{BySums, ByXors, source_of, Gadget, Alone, Tells, Shares, BothShare, Opens, Masked, Paired, acts_of_gadget}
use Rattle.vd_execution.specs.Plans.{Plan, Ends, Then, Branch, Loop, joint_of}
use Rattle.vd_execution.proofs.Front.{runs_first}
use Rattle.vd_views.specs.Views.{Coalition}
use Rattle.vd_views.specs.Hiding.{TakenAlike}
use Rattle.vd_views.specs.Plans.{run_branch, run_turn}
use Rattle.vd_views.specs.Excused.{with_item, across, item_again, if_both, turns_again, excused}
use Rattle.vd_views.proofs.Front.{acts_grow, acts_frame, Grows, HasFrame, before, frame_after, turns_grow, turns_frame, branch_grows, branch_frame, joint_grows, joint_frame, changed_elsewhere, begun_cursors, run_turn_grows}
use Rattle.vd_excuse_walk.specs.declared.equivocation_laws.step.Hidden.{Hidden}
use Rattle.vd_excuse_walk.specs.declared.equivocation_laws.step.Hidden.TheVariants.{Product, Bits, Word}
use Rattle.vd_excuse_walk.specs.declared.equivocation_laws.step.Step.{Step, Hide, Act as ActStep, Branch as BranchStep, Loop as LoopStep}
use Rattle.vd_excuse_walk.specs.declared.equivocation_laws.step.Step.TheOpen.{Step-F}
use Rattle.vd_excuse_walk.specs.declared.equivocation_laws.step.Step.TheFolds.{the_lemmas}
use Rattle.vd_excuse_walk.specs.Steps.{operands_of, part_of, hidden_by, steps_of}
use Rattle.vd_excuse_walk.specs.Walks.{Both, Walk, run_steps, both_steps, both_begun, both_either, step_walk, walk, walks}
use Rattle.vd_excuse_walk.specs.EquivocationLawsClaims.{WalksExcuse}

abbrev states : Tape → Hosts → Hosts → Both
states y w v = record { deal = y; first = w; second = v }

-- ---- a change of the next item leaves those that were taken

changed_taken : (u : Tape) (v : Hosts) (k : ℕ) (s : Source) (item : List ℕ) → TakenAlike v u (with_item u k s ((v k).cursors s) item)
changed_taken u v k s item g r i low =
    changed_elsewhere u k s ((v k).cursors s) item g r i
    (λ here this at. let P : ℕ → Type 0 = λ x. i < (v x).cursors r in let Q : Source → Type 0 = λ x. i < (v k).cursors x in
    let less : i < (v k).cursors s = subst Q this (subst P here low) in omega (arith, less, at))

itself_taken : (u : Tape) (v : Hosts) → TakenAlike v u u
itself_taken u v g s i low = refl

across_taken : (u : Tape) (v : Hosts) (a b : Bool) (y z : Tape) → TakenAlike v u y → TakenAlike v u z → TakenAlike v u (across a b y z u)
across_taken u v true false y z p q = p
across_taken u v false true y z p q = q
across_taken u v true true y z p q = itself_taken u v
across_taken u v false false y z p q = itself_taken u v

item_taken : (K : Coalition) (t : Tape) (g : Gadget) (u : Tape) (w v : Hosts) → TakenAlike v u (item_again K t g u w v)
item_taken K t (Alone g a) u w v = itself_taken u v
item_taken K t (Tells a said b heard) u w v = itself_taken u v
item_taken K t (Shares a r b heard) u w v = itself_taken u v
item_taken K t (BothShare a r heard b q heard_b) u w v = itself_taken u v
item_taken K t (Opens sharing a x b y heard) u w v = itself_taken u v
item_taken K t (Masked sharing m n) u w v =
    across_taken u v (K m.host.0) (K n.host.0) _ _ (changed_taken u v n.host.0 (source_of sharing m.host.0) _) (changed_taken u v m.host.0 (source_of sharing n.host.0) _)
item_taken K t (Paired p q) u w v =
    across_taken u v (K p.host.0) (K q.host.0) _ _ (changed_taken u v q.host.0 (Pairs p.host.0) _) (changed_taken u v p.host.0 (Pairs q.host.0) _)

acts_grown : (xs : List Act) → Grows (λ u v. run_acts u xs v)
acts_grown xs u v g s = acts_grow u xs v g s

acts_framed : (xs : List Act) → HasFrame (λ u v. run_acts u xs v)
acts_framed xs u y v k = acts_frame u y xs v k

module _ (K : Coalition) (t : Tape) where
  -- ---- what each step does

  walk_hide : (x : Hidden) → walk K t (Hide x) ≡ step_walk K t (Step-F.Hide x)
  walk_hide x = search (rules, the_lemmas)

  walk_act : (a : Act) → walk K t (ActStep a) ≡ step_walk K t (Step-F.Act a)
  walk_act a = search (rules, the_lemmas)

  walk_branch : (ps : List Part) (first other : List Step) → walk K t (BranchStep ps first other) ≡ step_walk K t (Step-F.Branch ps (walks K t first) (walks K t other))
  walk_branch ps first other = search (rules, the_lemmas)

  walk_loop : (ps : List Part) (count : ℕ) (body : List Step) → walk K t (LoopStep ps count body) ≡ step_walk K t (Step-F.Loop ps count (walks K t body))
  walk_loop ps count body = search (rules, the_lemmas)

  both_first : (x y : Walk) → x ≡ y → (xs : List Walk) (r : Both) → both_steps (x ∷ xs) r ≡ both_steps xs (y.both r)
  both_first x y e xs r = ap (λ (z : Walk). both_steps xs (z.both r)) e

  run_first : (x y : Walk) → x ≡ y → (xs : List Walk) (u : Tape) (w : Hosts) → run_steps (x ∷ xs) u w ≡ run_steps xs u (y.run u w)
  run_first x y e xs u w = ap (λ (z : Walk). run_steps xs u (z.run u w)) e

  -- both runs have gone on from r to z, and the deal is what it is to be
  record Follows (again : Tape → Hosts → Hosts → Tape) (run : Tape → Hosts → Hosts) (r z : Both) : Type 0 where
    deal : z.deal ≡ again r.deal r.first r.second
    first : z.first ≡ run t r.first
    second : z.second ≡ run z.deal r.second
    taken : TakenAlike r.second r.deal z.deal

  then_follows : (again next : Tape → Hosts → Hosts → Tape) (run later : Tape → Hosts → Hosts) → Grows run → HasFrame run → (r z x : Both)
      → Follows again run r z → Follows next later z x
      → Follows (λ u w v. next (again u w v) (run t w) (run (again u w v) v)) (λ u w. later u (run u w)) r x
  then_follows again next run later grows frame r z x a b = record {
    deal =
        b.deal ∙ ap (λ (y : Tape). next y z.first z.second) a.deal
        ∙ ap (λ (w : Hosts). next (again r.deal r.first r.second) w z.second) a.first
        ∙ ap (λ (v : Hosts). next (again r.deal r.first r.second) (run t r.first) v) (a.second ∙ ap (λ (y : Tape). run y r.second) a.deal);
    first = b.first ∙ ap (λ (w : Hosts). later t w) a.first;
    second = b.second ∙ ap (λ (v : Hosts). later x.deal v) (a.second ∙ sym (frame z.deal x.deal r.second kept));
    taken = λ g s i low. before run grows z.deal r.second z.deal x.deal kept g s i low ∙ a.taken g s i low;
  }
    where
      kept : TakenAlike (run z.deal r.second) z.deal x.deal
      kept = let P : Hosts → Type 0 = λ v. TakenAlike v z.deal x.deal in subst P a.second b.taken

  renamed : (again other : Tape → Hosts → Hosts → Tape) (run named : Tape → Hosts → Hosts) (r z : Both)
      → ((u : Tape) (w v : Hosts) → other u w v ≡ again u w v) → ((u : Tape) (w : Hosts) → named u w ≡ run u w) → Follows again run r z → Follows other named r z
  renamed again other run named r z same same_run a = record {
    deal = a.deal ∙ sym (same r.deal r.first r.second);
    first = a.first ∙ sym (same_run t r.first);
    second = a.second ∙ sym (same_run z.deal r.second);
    taken = a.taken;
  }

  -- ---- a gadget

  abbrev W : List Step → List Walk
  W = walks K t

  after_hidden : (g : Gadget) (xs : List Step) (r : Both) → both_steps (W (map Hide (hidden_by g) ++ xs)) r ≡ both_steps (W xs) (states (item_again K t g r.deal r.first r.second) r.first r.second)
  after_hidden (Alone g a) xs r = refl
  after_hidden (Tells a said b heard) xs r = refl
  after_hidden (Shares a q b heard) xs r = refl
  after_hidden (BothShare a q heard b p heard_b) xs r = refl
  after_hidden (Opens sharing a x b y heard) xs r = refl
  after_hidden (Masked BySums m n) xs r = both_first _ _ (walk_hide (Product (operands_of m) (operands_of n))) (W xs) r
  after_hidden (Masked ByXors m n) xs r = both_first _ _ (walk_hide (Bits (operands_of m) (operands_of n))) (W xs) r
  after_hidden (Paired p q) xs r = both_first _ _ (walk_hide (Word (part_of p) (part_of q))) (W xs) r

  after_acts : (acts : List Act) (xs : List Step) (y : Tape) (w v : Hosts) → both_steps (W (map ActStep acts ++ xs)) (states y w v) ≡ both_steps (W xs) (states y (run_acts t acts w) (run_acts y acts v))
  after_acts [] xs y w v = refl
  after_acts (a ∷ acts) xs y w v =
      both_first _ _ (walk_act a) (W (map ActStep acts ++ xs)) (states y w v) ∙ after_acts acts xs y (run_acts t (a ∷ []) w) (run_acts y (a ∷ []) v)

  abbrev gone : Gadget → Both → Both
  gone g r = let y : Tape = item_again K t g r.deal r.first r.second in states y (run_acts t (acts_of_gadget g) r.first) (run_acts y (acts_of_gadget g) r.second)

  after_gadget : (g : Gadget) (xs : List Step) (r : Both) → both_steps (W (map Hide (hidden_by g) ++ (map ActStep (acts_of_gadget g) ++ xs))) r ≡ both_steps (W xs) (gone g r)
  after_gadget g xs r =
      after_hidden g (map ActStep (acts_of_gadget g) ++ xs) r
      ∙ after_acts (acts_of_gadget g) xs (item_again K t g r.deal r.first r.second) r.first r.second

  gadget_follows : (g : Gadget) (r : Both) → Follows (item_again K t g) (λ u w. run_acts u (acts_of_gadget g) w) r (gone g r)
  gadget_follows g r = record { deal = refl; first = refl; second = refl; taken = item_taken K t g r.deal r.first r.second }

  -- ---- one run alone

  alone_hidden : (g : Gadget) (xs : List Step) (u : Tape) (w : Hosts) → run_steps (W (map Hide (hidden_by g) ++ xs)) u w ≡ run_steps (W xs) u w
  alone_hidden (Alone g a) xs u w = refl
  alone_hidden (Tells a said b heard) xs u w = refl
  alone_hidden (Shares a q b heard) xs u w = refl
  alone_hidden (BothShare a q heard b p heard_b) xs u w = refl
  alone_hidden (Opens sharing a x b y heard) xs u w = refl
  alone_hidden (Masked BySums m n) xs u w = run_first _ _ (walk_hide (Product (operands_of m) (operands_of n))) (W xs) u w
  alone_hidden (Masked ByXors m n) xs u w = run_first _ _ (walk_hide (Bits (operands_of m) (operands_of n))) (W xs) u w
  alone_hidden (Paired p q) xs u w = run_first _ _ (walk_hide (Word (part_of p) (part_of q))) (W xs) u w

  alone_acts : (acts : List Act) (xs : List Step) (u : Tape) (w : Hosts) → run_steps (W (map ActStep acts ++ xs)) u w ≡ run_steps (W xs) u (run_acts u acts w)
  alone_acts [] xs u w = refl
  alone_acts (a ∷ acts) xs u w = run_first _ _ (walk_act a) (W (map ActStep acts ++ xs)) u w ∙ alone_acts acts xs u (run_acts u (a ∷ []) w)

  turns_same : (f k : ℕ → Hosts → Hosts) → ((i : ℕ) (w : Hosts) → f i w ≡ k i w) → (n i : ℕ) (w : Hosts) → turns f n i w ≡ turns k n i w
  turns_same f k same zero i w = refl
  turns_same f k same (suc n) i w = ap (λ (v : Hosts). turns f n (suc i) v) (same i w) ∙ turns_same f k same n (suc i) (k i w)

  either_same : (b : Bool) (x y z q : Hosts) → x ≡ z → y ≡ q → (if b then x else y) ≡ (if b then z else q)
  either_same true x y z q e f = e
  either_same false x y z q e f = f

  alone : (plan : Plan Gadget) (u : Tape) (w : Hosts) → run_steps (W (steps_of plan)) u w ≡ joint u (joint_of plan) w
  alone Ends u w = refl
  alone (Then g rest) u w =
      alone_hidden g (map ActStep (acts_of_gadget g) ++ steps_of rest) u w
      ∙ alone_acts (acts_of_gadget g) (steps_of rest) u w
      ∙ alone rest u (run_acts u (acts_of_gadget g) w)
      ∙ sym (runs_first u (acts_of_gadget g) (joint_of rest) w)
  alone (Branch ps first other rest) u w =
      run_first _ _ (walk_branch ps (steps_of first) (steps_of other)) (W (steps_of rest)) u w
      ∙ ap (λ (v : Hosts). run_steps (W (steps_of rest)) u v)
      (either_same (is_other ps w) (run_steps (W (steps_of other)) u w) (run_steps (W (steps_of first)) u w) (joint u (joint_of other) w) (joint u (joint_of first) w) (alone other u w) (alone first u w))
      ∙ alone rest u (run_branch ps first other u w)
  alone (Loop ps count body rest) u w =
      run_first _ _ (walk_loop ps count (steps_of body)) (W (steps_of rest)) u w
      ∙ ap (λ (v : Hosts). run_steps (W (steps_of rest)) u v)
      (turns_same (λ i v. run_steps (W (steps_of body)) u (turn_begun ps i v)) (run_turn ps body u) (λ i v. alone body u (turn_begun ps i v)) count 0 w)
      ∙ alone rest u (turns (run_turn ps body u) count 0 w)

  -- ---- branches

  abbrev parting : List Part → Plan Gadget → Plan Gadget → Bool → Bool → Both → Both → Both → Both
  parting ps first other b c of_first of_other r =
      if_both b c of_other of_first
      (states r.deal (if b then run_steps (W (steps_of other)) t r.first else run_steps (W (steps_of first)) t r.first)
      (if c then run_steps (W (steps_of other)) r.deal r.second else run_steps (W (steps_of first)) r.deal r.second))

  record Parts (ps : List Part) (first other : Plan Gadget) (b c : Bool) (r z : Both) : Type 0 where
    deal : z.deal ≡ if_both b c (excused K t other r.deal r.first r.second) (excused K t first r.deal r.first r.second) r.deal
    one : z.first ≡ (if b then joint t (joint_of other) r.first else joint t (joint_of first) r.first)
    two : z.second ≡ (if c then joint z.deal (joint_of other) r.second else joint z.deal (joint_of first) r.second)
    taken : TakenAlike r.second r.deal z.deal

  parts : (ps : List Part) (first other : Plan Gadget) (b c : Bool) (r of_first of_other : Both)
      → Follows (excused K t first) (λ u w. joint u (joint_of first) w) r of_first → Follows (excused K t other) (λ u w. joint u (joint_of other) w) r of_other
      → Parts ps first other b c r (parting ps first other b c of_first of_other r)
  parts ps first other true true r of_first of_other e f = record { deal = f.deal; one = f.first; two = f.second; taken = f.taken }
  parts ps first other false false r of_first of_other e f = record { deal = e.deal; one = e.first; two = e.second; taken = e.taken }
  parts ps first other true false r of_first of_other e f = record { deal = refl; one = alone other t r.first; two = alone first r.deal r.second; taken = itself_taken r.deal r.second }
  parts ps first other false true r of_first of_other e f = record { deal = refl; one = alone first t r.first; two = alone other r.deal r.second; taken = itself_taken r.deal r.second }

  abbrev branch_again : List Part → Plan Gadget → Plan Gadget → Tape → Hosts → Hosts → Tape
  branch_again ps first other u w v = if_both (is_other ps w) (is_other ps v) (excused K t other u w v) (excused K t first u w v) u

  branch_follows : (ps : List Part) (first other : Plan Gadget) (r : Both)
      → Follows (excused K t first) (λ u w. joint u (joint_of first) w) r (both_steps (W (steps_of first)) r)
      → Follows (excused K t other) (λ u w. joint u (joint_of other) w) r (both_steps (W (steps_of other)) r)
      → Follows (branch_again ps first other) (run_branch ps first other) r (both_either K t ps (W (steps_of first)) (W (steps_of other)) r)
  branch_follows ps first other r e f =
      let p = parts ps first other (is_other ps r.first) (is_other ps r.second) r (both_steps (W (steps_of first)) r) (both_steps (W (steps_of other)) r) e f in
      record { deal = p.deal; first = p.one; second = p.two; taken = p.taken }

  run_branch_grows : (ps : List Part) (first other : Plan Gadget) → Grows (λ u v. run_branch ps first other u v)
  run_branch_grows ps first other = branch_grows (λ v. is_other ps v) (λ u v. joint u (joint_of other) v) (λ u v. joint u (joint_of first) v) (joint_grows (joint_of other)) (joint_grows (joint_of first))

  run_branch_framed : (ps : List Part) (first other : Plan Gadget) → HasFrame (λ u v. run_branch ps first other u v)
  run_branch_framed ps first other = branch_frame (λ v. is_other ps v) (λ u v. joint u (joint_of other) v) (λ u v. joint u (joint_of first) v) (joint_frame (joint_of other)) (joint_frame (joint_of first))

  -- ---- loops

  run_turn_framed : (ps : List Part) (body : Plan Gadget) (i : ℕ) → HasFrame (λ u v. run_turn ps body u i v)
  run_turn_framed ps body i = frame_after (λ u x. turn_begun ps i x) (λ u x. joint u (joint_of body) x) (joint_grows (joint_of body)) (λ u y v k. refl) (joint_frame (joint_of body))

  abbrev turn_again : List Part → Plan Gadget → ℕ → Tape → Hosts → Hosts → Tape
  turn_again ps body i u w v = excused K t body u (turn_begun ps i w) (turn_begun ps i v)

  abbrev loop_again : List Part → Plan Gadget → ℕ → ℕ → Tape → Hosts → Hosts → Tape
  loop_again ps body n i u w v = turns_again (λ i z a b. excused K t body z (turn_begun ps i a) (turn_begun ps i b)) (run_turn ps body t) (λ z i b. run_turn ps body z i b) n i u w v

  turn_follows : (ps : List Part) (body : Plan Gadget) (i : ℕ) (r : Both)
      → Follows (excused K t body) (λ u w. joint u (joint_of body) w) (both_begun ps i r) (both_steps (W (steps_of body)) (both_begun ps i r))
      → Follows (turn_again ps body i) (λ u w. run_turn ps body u i w) r (both_steps (W (steps_of body)) (both_begun ps i r))
  turn_follows ps body i r e = record {
    deal = e.deal;
    first = e.first;
    second = e.second;
    taken = λ g s j low. e.taken g s j (let P : ℕ → Type 0 = λ n. j < n in subst P (sym (begun_cursors ps i r.second g s)) low);
  }

  loop_follows : (ps : List Part) (body : Plan Gadget)
      → ((r : Both) → Follows (excused K t body) (λ u w. joint u (joint_of body) w) r (both_steps (W (steps_of body)) r))
      → (n i : ℕ) (r : Both) → Follows (loop_again ps body n i) (λ u w. turns (run_turn ps body u) n i w) r (turns (λ i z. both_steps (W (steps_of body)) (both_begun ps i z)) n i r)
  loop_follows ps body ih zero i r = record { deal = refl; first = refl; second = refl; taken = itself_taken r.deal r.second }
  loop_follows ps body ih (suc n) i r =
      let z : Both = both_steps (W (steps_of body)) (both_begun ps i r) in
      then_follows (turn_again ps body i) (loop_again ps body n (suc i)) (λ u w. run_turn ps body u i w) (λ u w. turns (run_turn ps body u) n (suc i) w)
      (run_turn_grows ps body i) (run_turn_framed ps body i) r z (turns (λ i x. both_steps (W (steps_of body)) (both_begun ps i x)) n (suc i) z)
      (turn_follows ps body i r (ih (both_begun ps i r))) (loop_follows ps body ih n (suc i) z)

  run_loop_grows : (ps : List Part) (body : Plan Gadget) (count : ℕ) → Grows (λ u v. turns (run_turn ps body u) count 0 v)
  run_loop_grows ps body count = turns_grow (λ u i x. run_turn ps body u i x) (λ i. run_turn_grows ps body i) count 0

  run_loop_framed : (ps : List Part) (body : Plan Gadget) (count : ℕ) → HasFrame (λ u v. turns (run_turn ps body u) count 0 v)
  run_loop_framed ps body count = turns_frame (λ u i x. run_turn ps body u i x) (λ i. run_turn_grows ps body i) (λ i. run_turn_framed ps body i) count 0

  -- ---- plans

  abbrev PlanFollows : Plan Gadget → Type 0
  PlanFollows plan = (r : Both) → Follows (excused K t plan) (λ u w. joint u (joint_of plan) w) r (both_steps (W (steps_of plan)) r)

  follows : (plan : Plan Gadget) → PlanFollows plan
  follows Ends r = record { deal = refl; first = refl; second = refl; taken = itself_taken r.deal r.second }
  follows (Then g rest) r =
      let z : Both = gone g r in
      let x : Both = both_steps (W (steps_of rest)) z in
      let one = then_follows (item_again K t g) (excused K t rest) (λ u w. run_acts u (acts_of_gadget g) w) (λ u w. joint u (joint_of rest) w)
      (acts_grown (acts_of_gadget g)) (acts_framed (acts_of_gadget g)) r z x (gadget_follows g r) (follows rest z) in
      let named = renamed (λ u w v. excused K t rest (item_again K t g u w v) (run_acts t (acts_of_gadget g) w) (run_acts (item_again K t g u w v) (acts_of_gadget g) v)) (excused K t (Then g rest))
      (λ u w. joint u (joint_of rest) (run_acts u (acts_of_gadget g) w)) (λ u w. joint u (joint_of (Then g rest)) w) r x (λ u w v. refl) (λ u w. runs_first u (acts_of_gadget g) (joint_of rest) w) one in
      let P : Both → Type 0 = λ q. Follows (excused K t (Then g rest)) (λ u w. joint u (joint_of (Then g rest)) w) r q in
      subst P (sym (after_gadget g (steps_of rest) r)) named
  follows (Branch ps first other rest) r =
      let z : Both = both_either K t ps (W (steps_of first)) (W (steps_of other)) r in
      let P : Both → Type 0 = λ q. Follows (excused K t (Branch ps first other rest)) (λ u w. joint u (joint_of (Branch ps first other rest)) w) r q in
      subst P (sym (both_first _ _ (walk_branch ps (steps_of first) (steps_of other)) (W (steps_of rest)) r)) (then_follows (branch_again ps first other) (excused K t rest) (run_branch ps first other) (λ u w. joint u (joint_of rest) w)
      (run_branch_grows ps first other) (run_branch_framed ps first other) r z (both_steps (W (steps_of rest)) z)
      (branch_follows ps first other r (follows first r) (follows other r)) (follows rest z))
  follows (Loop ps count body rest) r =
      let z : Both = turns (λ i x. both_steps (W (steps_of body)) (both_begun ps i x)) count 0 r in
      let P : Both → Type 0 = λ q. Follows (excused K t (Loop ps count body rest)) (λ u w. joint u (joint_of (Loop ps count body rest)) w) r q in
      subst P (sym (both_first _ _ (walk_loop ps count (steps_of body)) (W (steps_of rest)) r)) (then_follows (loop_again ps body count 0) (excused K t rest) (λ u w. turns (run_turn ps body u) count 0 w) (λ u w. joint u (joint_of rest) w)
      (run_loop_grows ps body count) (run_loop_framed ps body count) r z (both_steps (W (steps_of rest)) z)
      (loop_follows ps body (follows body) count 0 r) (follows rest z))

  both_are : (z : Both) (y : Tape) (w v : Hosts) → z.deal ≡ y → z.first ≡ w → z.second ≡ v → z ≡ states y w v
  both_are z y w v e f k = ap (λ (x : Tape). states x z.first z.second) e ∙ ap (λ (x : Hosts). states y x z.second) f ∙ ap (λ (x : Hosts). states y w x) k

pub walks_excuse : WalksExcuse
walks_excuse K t plan r =
    let f = follows K t plan r in
    let z : Both = both_steps (walks K t (steps_of plan)) r in
    both_are K t z (excused K t plan r.deal r.first r.second) (joint t (joint_of plan) r.first) (joint (excused K t plan r.deal r.first r.second) (joint_of plan) r.second)
    f.deal f.first (f.second ∙ ap (λ (y : Tape). joint y (joint_of plan) r.second) f.deal)
