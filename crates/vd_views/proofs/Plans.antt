-- For every second run of a plan there is a deal by which what items hide is hidden alike, as far as both runs take the same branches.
-- Nothing is asked of the two runs.
use Rattle.std.proofs.Common.{◌≡◌, ℕ, zero, suc, ◌≤◌, ◌+◌, ◌<◌, ◌^◌, Bool, true, false, if◌then◌else◌, List, [], ◌∷◌, refl, sym, ap, subst, ◌∙◌, arith}
use Rattle.vd_execution.specs.declared.instructions.Act.{Act}
use Rattle.vd_execution.specs.declared.instructions.Act.TheVariants as act
use Rattle.vd_execution.specs.Registers.{put}
use Rattle.vd_execution.specs.Step.{Source, Triples, BitTriples, Pairs}
use Rattle.vd_execution.specs.World.{Tape}
use Rattle.vd_execution.specs.Deals.{IsValidDeal}
use Rattle.vd_execution.specs.Joint.{Part, TakesPart, Joint, Host, Hosts, is_other, turn_begun, turns, joint, If, For, Done, AllTurns, IsTidy, IsSmooth}
use Rattle.vd_execution.specs.Acts.{do_then, run_act, run_acts}
use Rattle.vd_execution.proofs.Front.{runs_first, put_words, gadget_sound, plan_sound, plan_tidy}
use Rattle.vd_execution.proofs.Front.{part_keeps}
use Rattle.vd_views.specs.Views.{Coalition, IsIn, Concerns, SameParts, LooksAlike, LookAlike, BothTurns, TellsAlike, TellAlike, ActsTellCoalition}
use Rattle.vd_execution.specs.Gadgets.{Gadget, acts_of_gadget, IsSound}
use Rattle.vd_execution.specs.Plans.{Plan, Ends, Then, Branch, Loop, joint_of, PlanIsTidy}
use Rattle.vd_execution.specs.Claims.{KeepsSound}
use Rattle.vd_views.specs.Hiding.{GadgetHides, TakenAlike, IsAnotherDeal}
use Rattle.vd_views.specs.Plans.{run_branch, run_turn, PlanHides, PlanKnows, PlanChooses}
use Rattle.vd_views.specs.Hides.{Hides}
use Rattle.vd_views.specs.Excused.{item_again, if_both, turns_again, excused}
use Rattle.vd_views.specs.Claims.{AllowsExcuse, HasViewExcuse}
use Rattle.vd_views.proofs.Blocks.{tells_first, told_the_same, same_branch, begun_alike}
use Rattle.vd_views.proofs.Hiding.{gadget_tells, gadget_alike, gadget_back}
use Rattle.vd_views.proofs.Frames.{acts_grow, acts_frame}
use Rattle.vd_views.proofs.Joints.{Grows, HasFrame, before, grows_after, begun_grows, turns_grow, branch_grows, joint_grows, frame_after, turns_frame, branch_frame, joint_frame}
use Rattle.vd_views.proofs.Excuse.{ItemExcuse, another_itself, item_excuse}

-- ---- what hides and says alike tells alike

smooth_rest : (t : Tape) (acts : List Act) (j : Joint) (w : Hosts) → IsSmooth t (do_then acts j) w → IsSmooth t j (run_acts t acts w)
smooth_rest t [] j w a = a
smooth_rest t (act.Do h x ∷ acts) j w a = smooth_rest t acts j (run_act t (act.Do h x) w) a.1
smooth_rest t (act.Msg p said q heard ∷ acts) j w a = smooth_rest t acts j (run_act t (act.Msg p said q heard) w) a

-- a turn that is begun takes nothing, and keeps states sound
pub begun_cursors : (ps : List Part) (i : ℕ) (w : Hosts) (g : ℕ) (s : Source) → (turn_begun ps i w g).cursors s ≡ (w g).cursors s
begun_cursors ps i w g s = part_keeps (λ (x : Host). x.cursors s ≡ (w g).cursors s) ps g (λ c. record (w g) { registers = put (w g).registers c i }) (w g) (λ r. refl) refl

begun_sound : (ps : List Part) (i : ℕ) → i < 2 ^ 32 → (w : Hosts) → IsSound w → IsSound (turn_begun ps i w)
begun_sound ps i small w sound = record {
  words = λ g r. part_keeps (λ (x : Host). x.registers r < 2 ^ 32) ps g (λ c. record (w g) { registers = put (w g).registers c i }) (w g)
      (λ c. put_words (w g).registers c i (sound.words g) small r) (sound.words g r);
  triples = λ g q. begun_cursors ps i w g (Triples q) ∙ sound.triples g q ∙ sym (begun_cursors ps i w q (Triples g));
  bit_triples = λ g q. begun_cursors ps i w g (BitTriples q) ∙ sound.bit_triples g q ∙ sym (begun_cursors ps i w q (BitTriples g));
  pairs = λ g q. begun_cursors ps i w g (Pairs q) ∙ sound.pairs g q ∙ sym (begun_cursors ps i w q (Pairs g));
}

-- so does a turn
abbrev TurnsKeepSound : List Part → ℕ → Plan Gadget → Type 0
TurnsKeepSound ps count body = (i : ℕ) → i < count → KeepsSound (λ t w. turn_begun ps i w) × KeepsSound (λ t w. run_turn ps body t i w)

turn_sound : (ps : List Part) (count : ℕ) (body : Plan Gadget) → PlanIsTidy body → count ≤ 2 ^ 32 → TurnsKeepSound ps count body
turn_sound ps count body tidy few i less =
    let small : i < 2 ^ 32 = omega (arith, few, less) in (
      (λ t dt w sw. begun_sound ps i small w sw),
      (λ t dt w sw. plan_sound t dt body tidy (turn_begun ps i w) (begun_sound ps i small w sw)),
    )

-- and a branch, and a loop
branch_sound : (ps : List Part) (first other rest : Plan Gadget) → PlanIsTidy (Branch ps first other rest) → KeepsSound (run_branch ps first other)
branch_sound ps first other rest tidy t dt w sw = plan_sound t dt (Branch ps first other Ends) (tidy.0, (tidy.1.0, (tidy.1.1.0, tt))) w sw

loop_sound : (ps : List Part) (count : ℕ) (body rest : Plan Gadget) → PlanIsTidy (Loop ps count body rest) → KeepsSound (λ t w. turns (run_turn ps body t) count 0 w)
loop_sound ps count body rest tidy t dt w sw = plan_sound t dt (Loop ps count body Ends) (tidy.0, (tidy.1.0, (tidy.1.1.0, tt))) w sw

-- after a branch, and after a loop, h looks alike
after_branch : (h : ℕ) (t u : Tape) → t h ≡ u h → (ps : List Part) (first other rest : Plan Gadget) → IsTidy (joint_of (Branch ps first other rest)) → (w v : Hosts)
    → IsSmooth t (joint_of (Branch ps first other rest)) w → IsSmooth u (joint_of (Branch ps first other rest)) v → LooksAlike h w v
    → (TakesPart ps h → (is_other ps w ≡ true → TellsAlike h t u (joint_of other) w v) × (is_other ps w ≡ false → TellsAlike h t u (joint_of first) w v))
    → LooksAlike h (run_branch ps first other t w) (run_branch ps first other u v)
after_branch h t u same ps first other rest trim w v sw sv l tells =
    told_the_same h t u same (If ps (joint_of first) (joint_of other) Done) (trim.0, (trim.1.0, (trim.1.1.0, tt))) w v (sw.0, (sw.1.0, tt)) (sv.0, (sv.1.0, tt)) l (tells, tt)

after_loop : (h : ℕ) (t u : Tape) → t h ≡ u h → (ps : List Part) (count : ℕ) (body rest : Plan Gadget) → IsTidy (joint_of (Loop ps count body rest)) → (w v : Hosts)
    → IsSmooth t (joint_of (Loop ps count body rest)) w → IsSmooth u (joint_of (Loop ps count body rest)) v → LooksAlike h w v
    → (TakesPart ps h → BothTurns (λ i x y. TellsAlike h t u (joint_of body) (turn_begun ps i x) (turn_begun ps i y)) (run_turn ps body t) (run_turn ps body u) count 0 w v)
    → LooksAlike h (turns (run_turn ps body t) count 0 w) (turns (run_turn ps body u) count 0 v)
after_loop h t u same ps count body rest trim w v sw sv l tells =
    told_the_same h t u same (For ps count (joint_of body) Done) (trim.0, (trim.1.0, tt)) w v (sw.0, tt) (sv.0, tt) l (tells, tt)

turns_tell : (K : Coalition) (t u : Tape) → IsValidDeal t → IsValidDeal u → SameParts K t u → (ps : List Part) (count : ℕ) (body : Plan Gadget) → IsTidy (joint_of body)
    → ((w v : Hosts) → IsSound w → IsSound v → LookAlike K w v → IsSmooth t (joint_of body) w → IsSmooth u (joint_of body) v → PlanHides K t u body w v → PlanKnows K t u body w v → TellAlike K t u (joint_of body) w v)
    → TurnsKeepSound ps count body
    → (n i : ℕ) → i + n ≡ count → (w v : Hosts) → IsSound w → IsSound v → LookAlike K w v
    → AllTurns (λ i x. IsSmooth t (joint_of body) (turn_begun ps i x)) (run_turn ps body t) n i w → AllTurns (λ i x. IsSmooth u (joint_of body) (turn_begun ps i x)) (run_turn ps body u) n i v
    → BothTurns (λ i x y. PlanHides K t u body (turn_begun ps i x) (turn_begun ps i y)) (run_turn ps body t) (run_turn ps body u) n i w v
    → BothTurns (λ i x y. PlanKnows K t u body (turn_begun ps i x) (turn_begun ps i y)) (run_turn ps body t) (run_turn ps body u) n i w v
    → (h : ℕ) → IsIn K h → BothTurns (λ i x y. TellsAlike h t u (joint_of body) (turn_begun ps i x) (turn_begun ps i y)) (run_turn ps body t) (run_turn ps body u) n i w v
turns_tell K t u dt du same ps count body trim ih keep zero i e w v sw sv l mw mv a b h m = tt
turns_tell K t u dt du same ps count body trim ih keep (suc n) i e w v sw sv l mw mv a b h m =
    let less : i < count = omega arith in
    let begun : LookAlike K (turn_begun ps i w) (turn_begun ps i v) = λ g j. begun_alike g ps i w v (l g j) in
    let one : TellAlike K t u (joint_of body) (turn_begun ps i w) (turn_begun ps i v) =
    ih (turn_begun ps i w) (turn_begun ps i v) ((keep i less).0 t dt w sw) ((keep i less).0 u du v sv) begun mw.0 mv.0 a.0 b.0 in (
      one h m,
      turns_tell K t u dt du same ps count body trim ih keep n (suc i) (omega arith) (run_turn ps body t i w) (run_turn ps body u i v)
          ((keep i less).1 t dt w sw) ((keep i less).1 u du v sv) (λ g j. told_the_same g t u (same g j) (joint_of body) trim (turn_begun ps i w) (turn_begun ps i v) mw.0 mv.0 (begun g j) (one g j)) mw.1 mv.1 a.1 b.1 h m,
    )

pub plan_tells : (K : Coalition) (t u : Tape) → IsValidDeal t → IsValidDeal u → SameParts K t u → (plan : Plan Gadget) → PlanIsTidy plan
    → (w v : Hosts) → IsSound w → IsSound v → LookAlike K w v → IsSmooth t (joint_of plan) w → IsSmooth u (joint_of plan) v → PlanHides K t u plan w v → PlanKnows K t u plan w v → TellAlike K t u (joint_of plan) w v
plan_tells K t u dt du same Ends tidy w v sw sv l mw mv a b h m = tt
plan_tells K t u dt du same (Then g rest) tidy w v sw sv l mw mv a b h m =
    let one : ActsTellCoalition K t u (acts_of_gadget g) w v = gadget_tells K t u same g w v tidy.0 sw sv l a.0 b.0 in
    tells_first h t u (acts_of_gadget g) (joint_of rest) w v (one h m)
    (plan_tells K t u dt du same rest tidy.1 (run_acts t (acts_of_gadget g) w) (run_acts u (acts_of_gadget g) v) (gadget_sound t dt g tidy.0 w sw) (gadget_sound u du g tidy.0 v sv)
    (gadget_alike K t u same g w v tidy.0 sw sv l a.0 b.0) (smooth_rest t (acts_of_gadget g) (joint_of rest) w mw) (smooth_rest u (acts_of_gadget g) (joint_of rest) v mv) a.1 b.1 h m)
plan_tells K t u dt du same (Branch ps first other rest) tidy w v sw sv l mw mv a b h m =
    let trim : IsTidy (joint_of (Branch ps first other rest)) = plan_tidy (Branch ps first other rest) tidy in
    let sound : KeepsSound (run_branch ps first other) = branch_sound ps first other rest tidy in
    let inside : (g : ℕ) → IsIn K g → TakesPart ps g → (is_other ps w ≡ true → TellsAlike g t u (joint_of other) w v) × (is_other ps w ≡ false → TellsAlike g t u (joint_of first) w v) = λ g j q.
    let c : Concerns ps K = (g, (j, q)) in
    let agree : is_other ps w ≡ is_other ps v = same_branch ps g w v q (l g j) mw.0 mv.0 in (
      (λ e. plan_tells K t u dt du same other tidy.1.1.0 w v sw sv l (mw.1.0.0 e) (mv.1.0.0 (sym agree ∙ e)) ((a.0 c).1.0 e) ((b.0 c).1.0 e) g j),
      (λ e. plan_tells K t u dt du same first tidy.1.0 w v sw sv l (mw.1.0.1 e) (mv.1.0.1 (sym agree ∙ e)) ((a.0 c).1.1 e) ((b.0 c).1.1 e) g j),
    ) in (
      inside h m,
      plan_tells K t u dt du same rest tidy.1.1.1 (run_branch ps first other t w) (run_branch ps first other u v) (sound t dt w sw) (sound u du v sv)
          (λ g j. after_branch g t u (same g j) ps first other rest trim w v mw mv (l g j) (inside g j)) mw.1.1 mv.1.1 a.1 b.1 h m,
    )
plan_tells K t u dt du same (Loop ps count body rest) tidy w v sw sv l mw mv a b h m =
    let trim : IsTidy (joint_of (Loop ps count body rest)) = plan_tidy (Loop ps count body rest) tidy in
    let sound : KeepsSound (λ y x. turns (run_turn ps body y) count 0 x) = loop_sound ps count body rest tidy in
    let inside : (g : ℕ) → IsIn K g → TakesPart ps g → BothTurns (λ i x y. TellsAlike g t u (joint_of body) (turn_begun ps i x) (turn_begun ps i y)) (run_turn ps body t) (run_turn ps body u) count 0 w v = λ g j q.
    let c : Concerns ps K = (g, (j, q)) in
    turns_tell K t u dt du same ps count body trim.1.0 (λ x y sx sy k mx my c d. plan_tells K t u dt du same body tidy.1.1.0 x y sx sy k mx my c d) (turn_sound ps count body tidy.1.1.0 tidy.1.0)
    count 0 (omega arith) w v sw sv l mw.0 mv.0 (a.0 c) (b.0 c) g j in (
      inside h m,
      plan_tells K t u dt du same rest tidy.1.1.1 (turns (run_turn ps body t) count 0 w) (turns (run_turn ps body u) count 0 v) (sound t dt w sw) (sound u du v sv)
          (λ g j. after_loop g t u (same g j) ps count body rest trim w v mw mv (l g j) (inside g j)) mw.1 mv.1 a.1 b.1 h m,
    )

-- ---- another deal

another_after : (K : Coalition) (run : Tape → Hosts → Hosts) → Grows run → (u y z : Tape) (v : Hosts) → IsAnotherDeal K u v y → IsAnotherDeal K y (run y v) z → IsAnotherDeal K u v z
another_after K run grows u y z v a b = record {
  deal = b.deal;
  part = λ h i. b.part h i ∙ a.part h i;
  among = λ g s i o p. b.among g s i o p ∙ a.among g s i o p;
  inputs = λ g i. b.inputs g i ∙ a.inputs g i;
  own_words = λ g i. b.own_words g i ∙ a.own_words g i;
  taken = λ g s i l. before run grows y v y z b.taken g s i l ∙ a.taken g s i l;
}

-- a deal by which what this run does next hides alike, and so does each later deal that keeps what was taken
record RunExcuse (K : Coalition) (run : Tape → Hosts → Hosts) (Hiding : Tape → Type 0) (u : Tape) (v : Hosts) (y : Tape) : Type 0 where
  pub another : IsAnotherDeal K u v y
  pub past : (g : ℕ) (s : Source) (i : ℕ) → (run y v g).cursors s ≤ i → y g s i ≡ u g s i
  pub hides : (z : Tape) → TakenAlike (run y v) y z → Hiding z

unchanged : (K : Coalition) (run : Tape → Hosts → Hosts) (Claims : Tape → Type 0) (u : Tape) (v : Hosts) → IsValidDeal u → ((y : Tape) → Claims y) → RunExcuse K run Claims u v u
unchanged K run Claims u v du claims = record { another = another_itself K u v du; past = λ g s i l. refl; hides = λ y k. claims y }

-- one run after another
one_after : (K : Coalition) (first second : Tape → Hosts → Hosts) → Grows first → Grows second → HasFrame first → (Hiding : Tape → Type 0) (Later : Tape → Hosts → Type 0) (u : Tape) (v : Hosts) (y1 z1 : Tape)
    → RunExcuse K first Hiding u v y1 → RunExcuse K second (λ x. Later x (first y1 v)) y1 (first y1 v) z1
    → RunExcuse K (λ x q. second x (first x q)) (λ x. Hiding x × Later x (first x v)) u v z1
one_after K first second grows more frame Hiding Later u v y1 z1 one two = record {
  another = another_after K first grows u y1 z1 v one.another two.another;
  past = λ g s i l.
      let P : Hosts → Type 0 = λ x. (second z1 x g).cursors s ≤ i in
      let l2 : (second z1 (first y1 v) g).cursors s ≤ i = subst P (frame y1 z1 v two.another.taken) l in
      let l1 : (first y1 v g).cursors s ≤ (second z1 (first y1 v) g).cursors s = more z1 (first y1 v) g s in
      two.past g s i l2 ∙ one.past g s i (omega (arith, l1, l2));
  hides = λ y k.
      let v1 : Hosts = first y1 v in
      let same : first z1 v ≡ v1 = frame y1 z1 v two.another.taken in
      let P : Hosts → Type 0 = λ x. TakenAlike (second z1 x) z1 y in
      let later : TakenAlike (second z1 v1) z1 y = subst P same k in
      let kept : TakenAlike v1 y1 y = λ g s i l. before second more z1 v1 z1 y later g s i l ∙ two.another.taken g s i l in
      let Q : Hosts → Type 0 = λ x. Later y x in
      (one.hides y kept, subst Q (sym (frame y1 y v kept)) (two.hides y later));
}

-- the same run and the same claim by other names
renamed : (K : Coalition) (run other : Tape → Hosts → Hosts) (Hiding Claims : Tape → Type 0) (u : Tape) (v : Hosts) (z1 : Tape) → ((y : Tape) → other y v ≡ run y v) → ((y : Tape) → Hiding y → Claims y)
    → RunExcuse K run Hiding u v z1 → RunExcuse K other Claims u v z1
renamed K run other Hiding Claims u v z1 same claims e = record {
  another = e.another;
  past = λ g s i l. let P : Hosts → Type 0 = λ x. (x g).cursors s ≤ i in e.past g s i (subst P (same z1) l);
  hides = λ y k. let P : Hosts → Type 0 = λ x. TakenAlike x z1 y in claims y (e.hides y (subst P (same z1) k));
}

-- ---- gadgets, branches and loops

acts_grows : (xs : List Act) → Grows (λ t v. run_acts t xs v)
acts_grows xs t v g s = acts_grow t xs v g s

acts_framed : (xs : List Act) → HasFrame (λ t v. run_acts t xs v)
acts_framed xs u y v k = acts_frame u y xs v k

pub run_turn_grows : (ps : List Part) (body : Plan Gadget) (i : ℕ) → Grows (λ t v. run_turn ps body t i v)
run_turn_grows ps body i = grows_after (λ t x. turn_begun ps i x) (λ t x. joint t (joint_of body) x) (begun_grows ps i) (joint_grows (joint_of body))

pub run_turn_frame : (ps : List Part) (body : Plan Gadget) (i : ℕ) → HasFrame (λ t v. run_turn ps body t i v)
run_turn_frame ps body i = frame_after (λ t x. turn_begun ps i x) (λ t x. joint t (joint_of body) x) (joint_grows (joint_of body)) (λ u y v k. refl) (joint_frame (joint_of body))

run_branch_grows : (ps : List Part) (first other : Plan Gadget) → Grows (run_branch ps first other)
run_branch_grows ps first other = branch_grows (λ v. is_other ps v) (λ t v. joint t (joint_of other) v) (λ t v. joint t (joint_of first) v) (joint_grows (joint_of other)) (joint_grows (joint_of first))

pub run_branch_frame : (ps : List Part) (first other : Plan Gadget) → HasFrame (run_branch ps first other)
run_branch_frame ps first other = branch_frame (λ v. is_other ps v) (λ t v. joint t (joint_of other) v) (λ t v. joint t (joint_of first) v) (joint_frame (joint_of other)) (joint_frame (joint_of first))

-- ---- the deal that is computed

abbrev HasExcuses : Coalition → Tape → Plan Gadget → Type 0
HasExcuses K t plan = (u : Tape) → IsValidDeal u → (w v : Hosts) → IsSound w → IsSound v → RunExcuse K (λ y x. joint y (joint_of plan) x) (λ y. Hides K t y plan w v) u v (excused K t plan u w v)

module _ (K : Coalition) (t : Tape) (dt : IsValidDeal t) where
  -- the turns of a loop from the i-th on
  abbrev loop_again : List Part → Plan Gadget → ℕ → ℕ → Tape → Hosts → Hosts → Tape
  loop_again ps body n i u w v = turns_again (λ i z a b. excused K t body z (turn_begun ps i a) (turn_begun ps i b)) (run_turn ps body t) (λ z i b. run_turn ps body z i b) n i u w v

  turns_excuse : (ps : List Part) (count : ℕ) (body : Plan Gadget) → PlanIsTidy body → count ≤ 2 ^ 32 → HasExcuses K t body
      → (n i : ℕ) → i + n ≡ count → (u : Tape) → IsValidDeal u → (w v : Hosts) → IsSound w → IsSound v
      → RunExcuse K (λ y x. turns (run_turn ps body y) n i x) (λ y. BothTurns (λ i x z. Hides K t y body (turn_begun ps i x) (turn_begun ps i z)) (run_turn ps body t) (run_turn ps body y) n i w v) u v
      (loop_again ps body n i u w v)
  turns_excuse ps count body tidy few ih zero i e u du w v sw sv = unchanged K (λ y x. x) (λ y. Unit {0}) u v du (λ y. tt)
  turns_excuse ps count body tidy few ih (suc n) i e u du w v sw sv =
      let small : i < 2 ^ 32 = omega (arith, e, few) in
      let run : Tape → Hosts → Hosts = λ y x. run_turn ps body y i x in
      let y : Tape = excused K t body u (turn_begun ps i w) (turn_begun ps i v) in
      let begun = ih u du (turn_begun ps i w) (turn_begun ps i v) (begun_sound ps i small w sw) (begun_sound ps i small v sv) in
      let one : RunExcuse K run (λ y. Hides K t y body (turn_begun ps i w) (turn_begun ps i v)) u v y = record {
        another = record {
          deal = begun.another.deal;
          part = begun.another.part;
          among = begun.another.among;
          inputs = begun.another.inputs;
          own_words = begun.another.own_words;
          taken = before (λ t x. turn_begun ps i x) (begun_grows ps i) u v u y begun.another.taken;
        };
        past = begun.past;
        hides = begun.hides;
      } in
      one_after K run (λ y x. turns (run_turn ps body y) n (suc i) x) (run_turn_grows ps body i) (turns_grow (run_turn ps body) (run_turn_grows ps body) n (suc i)) (run_turn_frame ps body i)
      (λ y. Hides K t y body (turn_begun ps i w) (turn_begun ps i v))
      (λ y x. BothTurns (λ i x z. Hides K t y body (turn_begun ps i x) (turn_begun ps i z)) (run_turn ps body t) (run_turn ps body y) n (suc i) (run_turn ps body t i w) x) u v
      y (loop_again ps body n (suc i) y (run_turn ps body t i w) (run y v)) one
      (turns_excuse ps count body tidy few ih n (suc i) (omega arith) y one.another.deal (run_turn ps body t i w) (run y v)
      (plan_sound t dt body tidy (turn_begun ps i w) (begun_sound ps i small w sw)) (plan_sound y one.another.deal body tidy (turn_begun ps i v) (begun_sound ps i small v sv)))

  -- the claim of a branch, by the branch that the first run takes
  abbrev BranchHides : List Part → Plan Gadget → Plan Gadget → Hosts → Hosts → Bool → Bool → Tape → Type 0
  BranchHides ps first other w v b d y = Concerns ps K → b ≡ d → (b ≡ true → Hides K t y other w v) × (b ≡ false → Hides K t y first w v)

  branch_excuse : (ps : List Part) (first other : Plan Gadget) → HasExcuses K t first → HasExcuses K t other → (u : Tape) → IsValidDeal u → (w v : Hosts) → IsSound w → IsSound v
      → RunExcuse K (run_branch ps first other) (BranchHides ps first other w v (is_other ps w) (is_other ps v)) u v
      (if_both (is_other ps w) (is_other ps v) (excused K t other u w v) (excused K t first u w v) u)
  branch_excuse ps first other i_first i_other u du w v sw sv = at (is_other ps w) (is_other ps v) refl
    where
      at : (b d : Bool) → is_other ps v ≡ d
          → RunExcuse K (run_branch ps first other) (BranchHides ps first other w v b d) u v (if_both b d (excused K t other u w v) (excused K t first u w v) u)
      at true true f =
          renamed K (λ y x. joint y (joint_of other) x) (run_branch ps first other) (λ y. Hides K t y other w v) (BranchHides ps first other w v true true) u v (excused K t other u w v)
          (λ y. ap (λ (b : Bool). if b then joint y (joint_of other) v else joint y (joint_of first) v) f)
          (λ y k _ _. ((λ _. k), (λ n. cc)))
          (i_other u du w v sw sv)
      at false false f =
          renamed K (λ y x. joint y (joint_of first) x) (run_branch ps first other) (λ y. Hides K t y first w v) (BranchHides ps first other w v false false) u v (excused K t first u w v)
          (λ y. ap (λ (b : Bool). if b then joint y (joint_of other) v else joint y (joint_of first) v) f)
          (λ y k _ _. ((λ n. cc), (λ _. k)))
          (i_first u du w v sw sv)
      at true false f = unchanged K (run_branch ps first other) (BranchHides ps first other w v true false) u v du (λ y _ e. cc)
      at false true f = unchanged K (run_branch ps first other) (BranchHides ps first other w v false true) u v du (λ y _ e. cc)

  loop_excuse : (ps : List Part) (count : ℕ) (body : Plan Gadget) → PlanIsTidy body → count ≤ 2 ^ 32 → HasExcuses K t body → (u : Tape) → IsValidDeal u → (w v : Hosts) → IsSound w → IsSound v
      → RunExcuse K (λ y x. turns (run_turn ps body y) count 0 x)
      (λ y. Concerns ps K → BothTurns (λ i x z. Hides K t y body (turn_begun ps i x) (turn_begun ps i z)) (run_turn ps body t) (run_turn ps body y) count 0 w v) u v
      (loop_again ps body count 0 u w v)
  loop_excuse ps count body tidy few ih u du w v sw sv =
      renamed K (λ y x. turns (run_turn ps body y) count 0 x) (λ y x. turns (run_turn ps body y) count 0 x)
      (λ y. BothTurns (λ i x z. Hides K t y body (turn_begun ps i x) (turn_begun ps i z)) (run_turn ps body t) (run_turn ps body y) count 0 w v)
      (λ y. Concerns ps K → BothTurns (λ i x z. Hides K t y body (turn_begun ps i x) (turn_begun ps i z)) (run_turn ps body t) (run_turn ps body y) count 0 w v) u v
      (loop_again ps body count 0 u w v)
      (λ y. refl) (λ y k _. k)
      (turns_excuse ps count body tidy few ih count 0 (omega arith) u du w v sw sv)

  plan_excuse : (plan : Plan Gadget) → PlanIsTidy plan → HasExcuses K t plan
  plan_excuse Ends tidy u du w v sw sv = unchanged K (λ y x. x) (λ y. Unit {0}) u v du (λ y. tt)
  plan_excuse (Then g rest) tidy u du w v sw sv =
      let xs : List Act = acts_of_gadget g in
      let y : Tape = item_again K t g u w v in
      let e : ItemExcuse K t u g w v y = item_excuse K t u dt du g tidy.0 w v sw sv in
      let one : RunExcuse K (λ y x. run_acts y xs x) (λ y. GadgetHides K t y g w v) u v y = record { another = e.another; past = e.past; hides = e.hides } in
      let w1 : Hosts = run_acts t xs w in
      let v1 : Hosts = run_acts y xs v in
      let z : Tape = excused K t rest y w1 v1 in
      renamed K (λ y x. joint y (joint_of rest) (run_acts y xs x)) (λ y x. joint y (joint_of (Then g rest)) x) (λ y. Hides K t y (Then g rest) w v) (λ y. Hides K t y (Then g rest) w v) u v z
      (λ y. runs_first y xs (joint_of rest) v) (λ y k. k)
      (one_after K (λ y x. run_acts y xs x) (λ y x. joint y (joint_of rest) x) (acts_grows xs) (joint_grows (joint_of rest)) (acts_framed xs)
      (λ y. GadgetHides K t y g w v) (λ y x. Hides K t y rest w1 x) u v y z one
      (plan_excuse rest tidy.1 y one.another.deal w1 v1 (gadget_sound t dt g tidy.0 w sw) (gadget_sound y one.another.deal g tidy.0 v sv)))
  plan_excuse (Branch ps first other rest) tidy u du w v sw sv =
      let run : Tape → Hosts → Hosts = run_branch ps first other in
      let sound : KeepsSound run = branch_sound ps first other rest tidy in
      let y : Tape = if_both (is_other ps w) (is_other ps v) (excused K t other u w v) (excused K t first u w v) u in
      let one = branch_excuse ps first other (plan_excuse first tidy.1.0) (plan_excuse other tidy.1.1.0) u du w v sw sv in
      one_after K run (λ y x. joint y (joint_of rest) x) (run_branch_grows ps first other) (joint_grows (joint_of rest)) (run_branch_frame ps first other)
      (BranchHides ps first other w v (is_other ps w) (is_other ps v))
      (λ y x. Hides K t y rest (run t w) x) u v y (excused K t rest y (run t w) (run y v)) one
      (plan_excuse rest tidy.1.1.1 y one.another.deal (run t w) (run y v) (sound t dt w sw) (sound y one.another.deal v sv))
  plan_excuse (Loop ps count body rest) tidy u du w v sw sv =
      let run : Tape → Hosts → Hosts = λ y x. turns (run_turn ps body y) count 0 x in
      let sound : KeepsSound run = loop_sound ps count body rest tidy in
      let y : Tape = loop_again ps body count 0 u w v in
      let one = loop_excuse ps count body tidy.1.1.0 tidy.1.0 (plan_excuse body tidy.1.1.0) u du w v sw sv in
      one_after K run (λ y x. joint y (joint_of rest) x) (turns_grow (run_turn ps body) (run_turn_grows ps body) count 0) (joint_grows (joint_of rest))
      (turns_frame (run_turn ps body) (run_turn_grows ps body) (run_turn_frame ps body) count 0)
      (λ y. Concerns ps K → BothTurns (λ i x z. Hides K t y body (turn_begun ps i x) (turn_begun ps i z)) (run_turn ps body t) (run_turn ps body y) count 0 w v)
      (λ y x. Hides K t y rest (run t w) x) u v y (excused K t rest y (run t w) (run y v)) one
      (plan_excuse rest tidy.1.1.1 y one.another.deal (run t w) (run y v) (sound t dt w sw) (sound y one.another.deal v sv))

-- ---- how this stands to what the theory of views asks

module _ (K : Coalition) (t u : Tape) where
  turns_as : (ps : List Part) (body : Plan Gadget) → ((w v : Hosts) → Hides K t u body w v → PlanChooses K t u body w v → PlanHides K t u body w v) → (n i : ℕ) (w v : Hosts)
      → BothTurns (λ i x z. Hides K t u body (turn_begun ps i x) (turn_begun ps i z)) (run_turn ps body t) (run_turn ps body u) n i w v
      → BothTurns (λ i x z. PlanChooses K t u body (turn_begun ps i x) (turn_begun ps i z)) (run_turn ps body t) (run_turn ps body u) n i w v
      → BothTurns (λ i x z. PlanHides K t u body (turn_begun ps i x) (turn_begun ps i z)) (run_turn ps body t) (run_turn ps body u) n i w v
  turns_as ps body ih zero i w v a c = tt
  turns_as ps body ih (suc n) i w v a c = (ih (turn_begun ps i w) (turn_begun ps i v) a.0 c.0, turns_as ps body ih n (suc i) (run_turn ps body t i w) (run_turn ps body u i v) a.1 c.1)

  -- where the coalition reads the same guards all is hidden alike
  pub all_hidden : (plan : Plan Gadget) (w v : Hosts) → Hides K t u plan w v → PlanChooses K t u plan w v → PlanHides K t u plan w v
  all_hidden Ends w v a c = tt
  all_hidden (Then g rest) w v a c = (a.0, all_hidden rest (run_acts t (acts_of_gadget g) w) (run_acts u (acts_of_gadget g) v) a.1 c.1)
  all_hidden (Branch ps first other rest) w v a c = (
    (λ q. let k = a.0 q (c.0 q).0 in (tt, ((λ e. all_hidden other w v (k.0 e) ((c.0 q).1.0 e)), (λ e. all_hidden first w v (k.1 e) ((c.0 q).1.1 e))))),
    all_hidden rest (run_branch ps first other t w) (run_branch ps first other u v) a.1 c.1,
  )
  all_hidden (Loop ps count body rest) w v a c = (
    (λ q. turns_as ps body (λ x z p r. all_hidden body x z p r) count 0 w v (a.0 q) (c.0 q)),
    all_hidden rest (turns (run_turn ps body t) count 0 w) (turns (run_turn ps body u) count 0 v) a.1 c.1,
  )

-- the view of the coalition is the same
pub views_agree : (K : Coalition) (t u : Tape) (plan : Plan Gadget) → PlanIsTidy plan → (w v : Hosts) → AllowsExcuse K t u plan w v → HasViewExcuse K t u plan w v
views_agree K t u plan tidy w v a =
    let dt : IsValidDeal t = a.sound.first_deal in
    let y : Tape = excused K t plan u w v in
    let e = plan_excuse K t dt plan tidy u a.sound.second_deal w v a.sound.first a.sound.second in
    let hidden : Hides K t y plan w v = e.hides y (λ g s i l. refl) in
    let known = a.knows y e.another hidden in
    let hides : PlanHides K t y plan w v = all_hidden K t y plan w v hidden known.0 in
    let part : SameParts K t y = λ h i. a.start.part h i ∙ sym (e.another.part h i) in
    let later : IsSmooth y (joint_of plan) v = a.smooth_too y e.another in
    record {
      another = e.another;
      past = e.past;
      chooses = known.0;
      hides = hides;
      view = λ h i. told_the_same h t y (part h i) (joint_of plan) (plan_tidy plan tidy) w v a.smooth later (a.start.looks h i)
          (plan_tells K t y dt e.another.deal part plan tidy w v a.sound.first a.sound.second a.start.looks a.smooth later hides known.1 h i);
    }

-- ---- the way back

turns_back : (P Q : ℕ → Hosts → Hosts → Type 0) (R : ℕ → Hosts → Hosts → Type 0) (f g : ℕ → Hosts → Hosts) → ((i : ℕ) (x y : Hosts) → P i x y → Q i x y → R i y x)
    → (n i : ℕ) (w v : Hosts) → BothTurns P f g n i w v → BothTurns Q f g n i w v → BothTurns R g f n i v w
turns_back P Q R f g e zero i w v a b = tt
turns_back P Q R f g e (suc n) i w v a b = (e i w v a.0 b.0, turns_back P Q R f g e n (suc i) (f i w) (g i v) a.1 b.1)

-- exchanged, a plan hides alike too
pub plan_back : (K : Coalition) (t u : Tape) (plan : Plan Gadget) (w v : Hosts) → PlanChooses K t u plan w v → PlanHides K t u plan w v → PlanHides K u t plan v w
plan_back K t u Ends w v c a = tt
plan_back K t u (Then g rest) w v c a = (gadget_back K t u g w v a.0, plan_back K t u rest (run_acts t (acts_of_gadget g) w) (run_acts u (acts_of_gadget g) v) c.1 a.1)
plan_back K t u (Branch ps first other rest) w v c a = (
  (λ q. (tt, ((λ e. plan_back K t u other w v ((c.0 q).1.0 ((c.0 q).0 ∙ e)) ((a.0 q).1.0 ((c.0 q).0 ∙ e))), (λ e. plan_back K t u first w v ((c.0 q).1.1 ((c.0 q).0 ∙ e)) ((a.0 q).1.1 ((c.0 q).0 ∙ e)))))),
  plan_back K t u rest (run_branch ps first other t w) (run_branch ps first other u v) c.1 a.1,
)
plan_back K t u (Loop ps count body rest) w v c a = (
  (λ q. turns_back (λ i x y. PlanChooses K t u body (turn_begun ps i x) (turn_begun ps i y)) (λ i x y. PlanHides K t u body (turn_begun ps i x) (turn_begun ps i y))
      (λ i x y. PlanHides K u t body (turn_begun ps i x) (turn_begun ps i y)) (run_turn ps body t) (run_turn ps body u)
      (λ i x y b d. plan_back K t u body (turn_begun ps i x) (turn_begun ps i y) b d) count 0 w v (c.0 q) (a.0 q)),
  plan_back K t u rest (turns (run_turn ps body t) count 0 w) (turns (run_turn ps body u) count 0 v) c.1 a.1,
)
