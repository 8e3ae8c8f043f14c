-- Two runs of a block on the same clear words: whatever is dealt, they take the same branches.
use Rattle.std.proofs.Common.{◌≡◌, ℕ, ◌+◌, ◌^◌, ◌<◌, ◌≤◌, nat_eq, ◌||◌, Bool, true, false, if◌then◌else◌, List, ◌++◌, length, slice_set, replicate, sym, ap, subst, subst₂, ◌∙◌, arith, length-append}
use Rattle.vd_base.specs.declared.ids.HostId.{HostId}
use Rattle.vd_base.specs.declared.ids.SlotId.{SlotId}
use Rattle.vd_base.specs.declared.protocols.Proto.{Proto}
use Rattle.vd_base.specs.declared.protocols.Proto.TheVariants.{Local}
use Rattle.vd_base.specs.Holders.{proto_in}
use Rattle.vd_core.specs.Facts.{Sight}
use Rattle.vd_semantics.specs.Turns.{turns}
use Rattle.vd_semantics.specs.World.{after_output}
use Rattle.vd_semantics.specs.ProgramMeaning.{SlotState, word_at, array_at, with_word, with_array, in_world, right_word, after_right, in_order, stmt_effect}
use Rattle.vd_execution.specs.World.{Tape}
use Rattle.vd_execution.specs.Joint.{Part, TakesPart, Hosts, is_other, turn_begun, joint as run_code}
use Rattle.vd_execution.specs.Gadgets.{Gadget}
use Rattle.vd_execution.specs.Plans.{Plan, Ends, Branch, Loop, joint_of, PlanIsTidy}
use Rattle.vd_split.specs.Block.{Block, End, Let, NewVar, NewArray, Store, Put, Output, If, For, each}
use Rattle.vd_split.specs.Joint.{Hosts as AnyHosts, acts_then, and_then, joint}
use Rattle.vd_split.specs.Suite.{picked, Made, Suite, Laws, holders_among}
use Rattle.vd_split.specs.Emission.{Emitting, Emitted, Emission, delivered, right_made, in_turn, stmt_emission, if_made, for_made, loop_registers, after_loop_registers, store_made, put_made, output_made, with_parts}
use Rattle.vd_split.specs.Validity.{Fits, turns_at, Placed, Reaches}
use Rattle.vd_split.proofs.Front.{and_left, and_right, or_left, or_right, InRow, row_front, row_back, Binding, Variable, Array, Sees, with_use, part, Reached, Ties, TurnsIn, After, turns_past, let_after, var_after, array_after, store_after, put_after, output_after, slots, sees, effect_of, turn_here, turn_later, turns_act, no_slots, both_idle, means}
use Rattle.vd_split.proofs.Front as loops
use Rattle.vd_backend_laws.specs.Machine.{machine}
use Rattle.vd_backend_laws.specs.Parts.{suite_calls}
use Rattle.vd_backend_laws.specs.Suite.{IsOver, suite}
use Rattle.vd_backend_laws.proofs.Front.{runs_alike}
use Rattle.vd_views.specs.Views.{everyone}
use Rattle.vd_views.specs.Plans.{run_turn, PlanChooses}
use Rattle.vd_views.specs.Sides.{after}
use Rattle.vd_views.proofs.Compose.{plan_on, acts_on, tidy_split, acts_tidy, nothing_along}
use Rattle.vd_views.proofs.Turns.{both_turns, begun_at}
use Rattle.vd_views.proofs.ViewsProgramsCalls.{same_run}
use Rattle.vd_views.proofs.ViewsProgramsBlocks.{HasGuards, goes_other}

opposite : {X : Type 0} (z : Bool) → z ≡ true → z ≡ false → X
opposite true p q = cc
opposite false p q = cc

module _ (t u : Tape) (inputs : ℕ → List ℕ) (hosts : ℕ) (protocols : List Proto)
    (laws : Laws (machine t inputs) (suite t inputs hosts)) (laws' : Laws (machine u inputs) (suite u inputs hosts)) (over : (x : ℕ) → IsOver hosts (proto_in protocols x)) where
  abbrev proto : ℕ → Proto
  proto = proto_in protocols

  abbrev m : AnyHosts
  m = machine t inputs

  abbrev n : AnyHosts
  n = machine u inputs

  abbrev s : Suite (machine t inputs)
  s = suite t inputs hosts

  abbrev s' : Suite (machine u inputs)
  s' = suite u inputs hosts

  abbrev E : Type 0
  E = Emitting (suite_calls hosts) proto

  abbrev emits : Block → Emission (suite_calls hosts) proto
  emits b = in_turn (suite_calls hosts) proto (each (stmt_emission (suite_calls hosts) proto) b)

  abbrev Chooses : Plan Gadget → Hosts → Hosts → Type 0
  Chooses plan w v = PlanChooses everyone t u plan w v

  -- what a block stands in, in both runs
  pub record Stands (o : Sight) (e : E) (w v : Hosts) (c : SlotState) (turn : ℕ) (has : ℕ → Bool) : Type 0 where
    pub first : Ties m s proto o e w c
    pub first_turn : TurnsIn m s proto has o e w turn
    pub second : Ties n s' proto o e v c
    pub second_turn : TurnsIn n s' proto has o e v turn

  pub record Fitting (b : Block) (o : Sight) (k : ℕ) (has : ℕ → Bool) : Type 0 where
    pub row : InRow k (slots b)
    pub seen : (sees b o).all ≡ true
    pub fits : Fits hosts b
    pub placed : Placed m s proto b
    pub placed_too : Placed n s' proto b
    pub needs : (g : ℕ) → turns_at m s proto b g ≡ true → has g ≡ true
    pub needs_too : (g : ℕ) → turns_at n s' proto b g ≡ true → has g ≡ true

  abbrev pub IsAligned : Block → Type 0
  IsAligned b =
      (o : Sight) (k : ℕ) (has : ℕ → Bool) → Fitting b o k has → (e : E) (w v : Hosts) (c : SlotState) (turn : ℕ) → length e.held ≡ k → turn < 2 ^ 32 → Stands o e w v c turn has
      → PlanIsTidy ((emits b).emit e).tree → Chooses ((emits b).emit e).tree w v

  sum : {i j a b : ℕ} → i ≡ a → j ≡ b → i + j ≡ a + b
  sum p q = omega arith

  -- gadgets alone
  acts_chosen : (gs : List Gadget) (w v : Hosts) → Chooses (acts_then gs Ends) w v
  acts_chosen gs w v = acts_on everyone (λ g x y. Unit {0}) (λ ps x y. is_other ps x ≡ is_other ps y) t u gs Ends w v (nothing_along t u gs w v) tt

  -- a statement, and then the rest
  go_on : (rest : Block) → IsAligned rest → (o o1 : Sight) (e : E) (one : Emitted (suite_calls hosts) proto) (many k : ℕ) (has : ℕ → Bool) → Fitting rest o1 (k + many) has → (w v : Hosts) (c c1 : SlotState) (turn : ℕ) → length e.held ≡ k
      → turn < 2 ^ 32 → Stands o e w v c turn has → After m s proto o o1 e one many w c1 → After n s' proto o o1 e one many v c1 → PlanIsTidy (and_then one.tree ((emits rest).emit one.state).tree)
      → (PlanIsTidy one.tree → Chooses one.tree w v) → Chooses (and_then one.tree ((emits rest).emit one.state).tree) w v
  go_on rest aligned o o1 e one many k has fitting w v c c1 turn is small st a1 a2 tidy first =
      let parts = tidy_split one.tree ((emits rest).emit one.state).tree tidy in
      let e1 : run_code t (joint_of one.tree) w ≡ a1.reached = sym (runs_alike t inputs one.tree w parts.0) ∙ a1.runs in
      let e2 : run_code u (joint_of one.tree) v ≡ a2.reached = sym (runs_alike u inputs one.tree v parts.0) ∙ a2.runs in
      let more : Chooses ((emits rest).emit one.state).tree a1.reached a2.reached =
      aligned o1 (k + many) has fitting one.state a1.reached a2.reached c1 turn (ap length a1.held ∙ length-append e.held a1.more ∙ sum is a1.many) small
      (record {
        first = a1.tied;
        first_turn = turns_past m s proto has turn o o1 e one many w c c1 st.first a1 st.first_turn;
        second = a2.tied;
        second_turn = turns_past n s' proto has turn o o1 e one many v c c1 st.second a2 st.second_turn;
      }) parts.1 in
      plan_on everyone (λ g x y. Unit {0}) (λ ps x y. is_other ps x ≡ is_other ps y) t u one.tree ((emits rest).emit one.state).tree w v (first parts.0)
      (subst₂ (λ (x z : Hosts). Chooses ((emits rest).emit one.state).tree x z) (sym e1) (sym e2) more)

  -- ---- branches

  module _ (tb eb : Block) (f1 : IsAligned tb) (f2 : IsAligned eb) (x : SlotId) (o : Sight) (k : ℕ) (has : ℕ → Bool) (fit1 : Fitting tb o k has) (fit2 : Fitting eb o (k + length (slots tb)) has) (sees_x : Sees o Binding x.0)
      (reaches : Reaches m s proto x (λ g. (emits tb).takes_part g || (emits eb).takes_part g)) (reaches' : Reaches n s' proto x (λ g. (emits tb).takes_part g || (emits eb).takes_part g))
      (e : E) (w v : Hosts) (c : SlotState) (turn : ℕ) (is : length e.held ≡ k) (small : turn < 2 ^ 32) (st : Stands o e w v c turn has) where
    abbrev test : ℕ → Bool
    test g = (emits tb).takes_part g || (emits eb).takes_part g

    abbrev ks : List HostId
    ks = picked 0 hosts test

    abbrev guard : Made Gadget (List (ℕ × ℕ))
    guard = delivered (suite_calls hosts) proto (proto x.0) (part m s proto e.held x.0) ks e.next

    abbrev start : E
    start = record { next = guard.next; held = e.held; loop = e.loop }

    abbrev middle : E
    middle = ((emits tb).emit start).state

    abbrev first_tree : Plan Gadget
    first_tree = ((emits tb).emit start).tree

    abbrev other_tree : Plan Gadget
    other_tree = ((emits eb).emit middle).tree

    abbrev whole : Plan Gadget
    whole = acts_then guard.acts (Branch guard.given first_tree other_tree Ends)

    comes1 : loops.Comes m s proto laws over (emits tb) (effect_of tb) o (sees tb o).after (length (slots tb)) (turns_at m s proto tb) k
    comes1 = means m s proto laws over tb o k fit1.row fit1.seen fit1.fits fit1.placed

    comes2 : loops.Comes m s proto laws over (emits eb) (effect_of eb) o (sees eb o).after (length (slots eb)) (turns_at m s proto eb) (k + length (slots tb))
    comes2 = means m s proto laws over eb o (k + length (slots tb)) fit2.row fit2.seen fit2.fits fit2.placed

    comes1' : loops.Comes n s' proto laws' over (emits tb) (effect_of tb) o (sees tb o).after (length (slots tb)) (turns_at n s' proto tb) k
    comes1' = means n s' proto laws' over tb o k fit1.row fit1.seen fit1.fits fit1.placed_too

    comes2' : loops.Comes n s' proto laws' over (emits eb) (effect_of eb) o (sees eb o).after (length (slots eb)) (turns_at n s' proto eb) (k + length (slots tb))
    comes2' = means n s' proto laws' over eb o (k + length (slots tb)) fit2.row fit2.seen fit2.fits fit2.placed_too

    after_first : After m s proto o o e (if_made (suite_calls hosts) proto x (emits tb) (emits eb) e) (length (slots tb) + length (slots eb)) w
        (in_order (if nat_eq (word_at c x) 0 then each stmt_effect eb else each stmt_effect tb) turn c)
    after_first =
        loops.branch_after m s proto laws over o (sees tb o).after (sees eb o).after (emits tb) (emits eb) (each stmt_effect tb) (each stmt_effect eb) (length (slots tb)) (length (slots eb)) k
        (turns_at m s proto tb) (turns_at m s proto eb) comes1 comes2 x sees_x reaches (both_idle m s proto laws over tb eb) e w c turn has is fit1.needs fit2.needs small st.first st.first_turn

    after_second : After n s' proto o o e (if_made (suite_calls hosts) proto x (emits tb) (emits eb) e) (length (slots tb) + length (slots eb)) v
        (in_order (if nat_eq (word_at c x) 0 then each stmt_effect eb else each stmt_effect tb) turn c)
    after_second =
        loops.branch_after n s' proto laws' over o (sees tb o).after (sees eb o).after (emits tb) (emits eb) (each stmt_effect tb) (each stmt_effect eb) (length (slots tb)) (length (slots eb)) k
        (turns_at n s' proto tb) (turns_at n s' proto eb) comes1' comes2' x sees_x reaches' (both_idle n s' proto laws' over tb eb) e v c turn has is fit1.needs_too fit2.needs_too small st.second st.second_turn

    abbrev given : Reached m s laws e.next w ks guard (word_at c x)
    given =
        loops.reached m s proto laws over o (sees tb o).after (sees eb o).after (emits tb) (emits eb) (each stmt_effect tb) (each stmt_effect eb) (length (slots tb)) (length (slots eb)) k
        (turns_at m s proto tb) (turns_at m s proto eb) comes1 comes2 x sees_x reaches (both_idle m s proto laws over tb eb) e w c turn has is fit1.needs fit2.needs small st.first st.first_turn

    abbrev given' : Reached n s' laws' e.next v ks guard (word_at c x)
    given' =
        loops.reached n s' proto laws' over o (sees tb o).after (sees eb o).after (emits tb) (emits eb) (each stmt_effect tb) (each stmt_effect eb) (length (slots tb)) (length (slots eb)) k
        (turns_at n s' proto tb) (turns_at n s' proto eb) comes1' comes2' x sees_x reaches' (both_idle n s' proto laws' over tb eb) e v c turn has is fit1.needs_too fit2.needs_too small st.second st.second_turn

    -- inside, from where the guard was delivered: whoever takes part has its word
    inside : (w1 v1 : Hosts)
        → ((Ties m s proto o start w1 c × TurnsIn m s proto has o start w1 turn) × (Ties m s proto o middle w1 c × TurnsIn m s proto has o middle w1 turn × (length middle.held ≡ k + length (slots tb))))
        → ((Ties n s' proto o start v1 c × TurnsIn n s' proto has o start v1 turn) × (Ties n s' proto o middle v1 c × TurnsIn n s' proto has o middle v1 turn × (length middle.held ≡ k + length (slots tb))))
        → HasGuards guard.next w1 (word_at c x) guard.given → HasGuards guard.next v1 (word_at c x) guard.given → PlanIsTidy (Branch guard.given first_tree other_tree Ends)
        → Chooses (Branch guard.given first_tree other_tree Ends) w1 v1
    inside w1 v1 begins begins' has_guard has_guard' tidy = ((λ q. both q.0 q.1.1), tt)
      where
        both : (h : ℕ) → TakesPart guard.given h
            → (is_other guard.given w1 ≡ is_other guard.given v1) × ((is_other guard.given w1 ≡ true → Chooses other_tree w1 v1) × (is_other guard.given w1 ≡ false → Chooses first_tree w1 v1))
        both h q =
            let goes : is_other guard.given w1 ≡ nat_eq (word_at c x) 0 = goes_other guard.next w1 (word_at c x) h guard.given q has_guard in
            let goes' : is_other guard.given v1 ≡ nat_eq (word_at c x) 0 = goes_other guard.next v1 (word_at c x) h guard.given q has_guard' in (
              goes ∙ sym goes',
              (
                (λ f. f2 o (k + length (slots tb)) has fit2 middle w1 v1 c turn begins.1.2 small
                    (record { first = begins.1.0; first_turn = begins.1.1; second = begins'.1.0; second_turn = begins'.1.1 }) tidy.1.1.0),
                (λ f. f1 o k has fit1 start w1 v1 c turn is small
                    (record { first = begins.0.0; first_turn = begins.0.1; second = begins'.0.0; second_turn = begins'.0.1 }) tidy.1.0),
              ),
            )

    branch_chosen : PlanIsTidy whole → Chooses whole w v
    branch_chosen tidy =
        let inner : Plan Gadget = Branch guard.given first_tree other_tree Ends in
        let e1 : after t guard.acts w ≡ given.between.reached = same_run t inputs guard.acts w ∙ given.between.leads.runs in
        let e2 : after u guard.acts v ≡ given'.between.reached = same_run u inputs guard.acts v ∙ given'.between.leads.runs in
        let begins = loops.begins_at m s proto laws over o (sees tb o).after (sees eb o).after (emits tb) (emits eb) (each stmt_effect tb) (each stmt_effect eb) (length (slots tb)) (length (slots eb)) k
        (turns_at m s proto tb) (turns_at m s proto eb) comes1 comes2 x sees_x reaches (both_idle m s proto laws over tb eb) e w c turn has is fit1.needs fit2.needs small st.first st.first_turn in
        let begins' = loops.begins_at n s' proto laws' over o (sees tb o).after (sees eb o).after (emits tb) (emits eb) (each stmt_effect tb) (each stmt_effect eb) (length (slots tb)) (length (slots eb)) k
        (turns_at n s' proto tb) (turns_at n s' proto eb) comes1' comes2' x sees_x reaches' (both_idle n s' proto laws' over tb eb) e v c turn has is fit1.needs_too fit2.needs_too small st.second st.second_turn in
        let ends = inside given.between.reached given'.between.reached begins begins' given.there.words given'.there.words (acts_tidy guard.acts inner tidy).1 in
        acts_on everyone (λ g p q. Unit {0}) (λ ps p q. is_other ps p ≡ is_other ps q) t u guard.acts inner w v (nothing_along t u guard.acts w v)
        (subst₂ (λ (p q : Hosts). Chooses inner p q) (sym e1) (sym e2) ends)

  -- ---- loops

  module _ (body : Block) (f1 : IsAligned body) (o : Sight) (k : ℕ) (fit : Fitting body o k (emits body).acts_at) (e : E) (w v : Hosts) (c : SlotState) (is : length e.held ≡ k)
      (tied : Ties m s proto o e w c) (tied' : Ties n s' proto o e v c) where
    abbrev ps : List Part
    ps = loop_registers (emits body).acts_at 0 e.next

    abbrev inner : E
    inner = record { next = after_loop_registers (emits body).acts_at 0 e.next; held = e.held; loop = e.next }

    abbrev tree : Plan Gadget
    tree = ((emits body).emit inner).tree

    abbrev begun1 : ℕ → Hosts
    begun1 i = m.begun ps i (turns i (λ j x. joint m tree (m.begun ps j x)) w)

    abbrev begun2 : ℕ → Hosts
    begun2 i = n.begun ps i (turns i (λ j x. joint n tree (n.begun ps j x)) v)

    comes_body : loops.Comes m s proto laws over (emits body) (effect_of body) o (sees body o).after (length (slots body)) (turns_at m s proto body) k
    comes_body = means m s proto laws over body o k fit.row fit.seen fit.fits fit.placed

    comes_body' : loops.Comes n s' proto laws' over (emits body) (effect_of body) o (sees body o).after (length (slots body)) (turns_at n s' proto body) k
    comes_body' = means n s' proto laws' over body o k fit.row fit.seen fit.fits fit.placed_too

    loop_first : (count : ℕ) → count ≤ 2 ^ 32 → After m s proto o o e (for_made (suite_calls hosts) proto count (emits body) e) (length (slots body)) w (turns count (effect_of body) c)
    loop_first count small = loops.loop_after m s proto laws over o (sees body o).after (emits body) (effect_of body) (length (slots body)) k (turns_at m s proto body) comes_body (turns_act m s proto laws over body) e w c is tied count small

    loop_second : (count : ℕ) → count ≤ 2 ^ 32 → After n s' proto o o e (for_made (suite_calls hosts) proto count (emits body) e) (length (slots body)) v (turns count (effect_of body) c)
    loop_second count small = loops.loop_after n s' proto laws' over o (sees body o).after (emits body) (effect_of body) (length (slots body)) k (turns_at n s' proto body) comes_body' (turns_act n s' proto laws' over body) e v c is tied' count small

    -- where a turn begins
    begins : (i : ℕ) → i < 2 ^ 32 → Stands o inner (begun1 i) (begun2 i) (turns i (effect_of body) c) i (emits body).acts_at
    begins i small =
        let u1 = loops.all_turns m s proto laws over o (sees body o).after (emits body) (effect_of body) (length (slots body)) k (turns_at m s proto body) comes_body (turns_act m s proto laws over body) e w c is tied i (omega (arith, small)) in
        let u2 = loops.all_turns n s' proto laws' over o (sees body o).after (emits body) (effect_of body) (length (slots body)) k (turns_at n s' proto body) comes_body' (turns_act n s' proto laws' over body) e v c is tied' i (omega (arith, small)) in
        record {
          first = loops.begins m s proto laws over o (sees body o).after (emits body) (effect_of body) (length (slots body)) k (turns_at m s proto body) comes_body (turns_act m s proto laws over body) e w c is tied i small u1;
          first_turn = loops.turning m s proto laws over o (sees body o).after (emits body) (effect_of body) (length (slots body)) k (turns_at m s proto body) comes_body (turns_act m s proto laws over body) e w c is tied i u1;
          second = loops.begins n s' proto laws' over o (sees body o).after (emits body) (effect_of body) (length (slots body)) k (turns_at n s' proto body) comes_body' (turns_act n s' proto laws' over body) e v c is tied' i small u2;
          second_turn = loops.turning n s' proto laws' over o (sees body o).after (emits body) (effect_of body) (length (slots body)) k (turns_at n s' proto body) comes_body' (turns_act n s' proto laws' over body) e v c is tied' i u2;
        }

    loop_chosen : (count : ℕ) → count ≤ 2 ^ 32 → PlanIsTidy (Loop ps count tree Ends) → Chooses (Loop ps count tree Ends) w v
    loop_chosen count few tidy =
        let apart = tidy.0.0 in
        let body_tidy : PlanIsTidy tree = tidy.1.1.0 in
        let here1 = begun_at t inputs ps apart tree body_tidy in
        let here2 = begun_at u inputs ps apart tree body_tidy in (
          (λ q. both_turns (λ i p z. Chooses tree (turn_begun ps i p) (turn_begun ps i z)) (run_turn ps tree t) (run_turn ps tree u) count w v
              (λ i lt.
              let small : i < 2 ^ 32 = omega (arith, lt, few) in
              subst₂ (λ (p z : Hosts). Chooses tree p z) (here1 i w) (here2 i v)
              (f1 o k (emits body).acts_at fit inner (begun1 i) (begun2 i) (turns i (effect_of body) c) i is small (begins i small) body_tidy))),
          tt,
        )

  -- ---- all statements

  pub aligned : (b : Block) → IsAligned b
  aligned End o k has fit e w v c turn is small st tidy = tt
  aligned (Let x right rest) o k has fit e w v c turn is small st tidy =
      let made = right_made (suite_calls hosts) proto (proto x.0) right e in
      let c1 = with_word x (right_word right turn c) (in_world (after_right right c.world) c) in
      let a1 = let_after m s proto laws over o e w c turn has x right st.first (fit.row.0 ∙ sym is) (and_left _ _ fit.seen) fit.fits.0 fit.placed.0 small (λ i g p. fit.needs g (turn_here m s proto laws over x right rest g i p)) st.first_turn in
      let a2 = let_after n s' proto laws' over o e v c turn has x right st.second (fit.row.0 ∙ sym is) (and_left _ _ fit.seen) fit.fits.0 fit.placed_too.0 small (λ i g p. fit.needs_too g (turn_here n s' proto laws' over x right rest g i p)) st.second_turn in
      go_on rest (aligned rest) o (with_use Binding x.0 o) e (with_parts (suite_calls hosts) proto made e) 1 k has
      (record {
        row = fit.row.1;
        seen = and_right _ _ fit.seen;
        fits = fit.fits.1;
        placed = fit.placed.1;
        placed_too = fit.placed_too.1;
        needs = λ g p. fit.needs g (turn_later m s proto laws over x right rest g p);
        needs_too = λ g p. fit.needs_too g (turn_later n s' proto laws' over x right rest g p);
      })
      w v c c1 turn is small st a1 a2 tidy (λ alone. acts_chosen made.acts w v)
  aligned (NewVar a y rest) o k has fit e w v c turn is small st tidy =
      let moved = (suite_calls hosts).move (proto y.0) (proto a.0) (part m s proto e.held y.0) e.next in
      let kept = (suite_calls hosts).keep (proto a.0) moved.given moved.next in
      let c1 = with_word a (word_at c y) c in
      let a1 = var_after m s proto laws over o e w c a y st.first (fit.row.0 ∙ sym is) (and_left _ _ fit.seen) fit.placed.0 fit.placed.1 in
      let a2 = var_after n s' proto laws' over o e v c a y st.second (fit.row.0 ∙ sym is) (and_left _ _ fit.seen) fit.placed_too.0 fit.placed_too.1 in
      go_on rest (aligned rest) o (with_use Variable a.0 o) e (with_parts (suite_calls hosts) proto (record { given = kept.given; acts = moved.acts ++ kept.acts; next = kept.next }) e) 1 k has
      (record {
        row = fit.row.1;
        seen = and_right _ _ fit.seen;
        fits = fit.fits;
        placed = fit.placed.2;
        placed_too = fit.placed_too.2;
        needs = fit.needs;
        needs_too = fit.needs_too;
      })
      w v c c1 turn is small st a1 a2 tidy (λ alone. acts_chosen (moved.acts ++ kept.acts) w v)
  aligned (NewArray a size rest) o k has fit e w v c turn is small st tidy =
      let made = (suite_calls hosts).cells (proto a.0) size e.next in
      let c1 = with_array a (replicate size 0) c in
      let a1 = array_after m s proto laws over o e w c a size st.first (fit.row.0 ∙ sym is) fit.placed.0 in
      let a2 = array_after n s' proto laws' over o e v c a size st.second (fit.row.0 ∙ sym is) fit.placed_too.0 in
      go_on rest (aligned rest) o (with_use Array a.0 o) e (with_parts (suite_calls hosts) proto made e) 1 k has
      (record {
        row = fit.row.1;
        seen = fit.seen;
        fits = fit.fits;
        placed = fit.placed.1;
        placed_too = fit.placed_too.1;
        needs = fit.needs;
        needs_too = fit.needs_too;
      })
      w v c c1 turn is small st a1 a2 tidy (λ alone. acts_chosen made.acts w v)
  aligned (Store a y rest) o k has fit e w v c turn is small st tidy =
      let seen_here = and_left _ _ fit.seen in
      let moved = (suite_calls hosts).move (proto y.0) (proto a.0) (part m s proto e.held y.0) e.next in
      let acts = (suite_calls hosts).renew (proto a.0) (part m s proto e.held a.0) moved.given in
      let c1 = with_word a (word_at c y) c in
      let a1 = store_after m s proto laws over o e w c a y st.first (and_left _ _ seen_here) (and_right _ _ seen_here) fit.placed.0 fit.placed.1 in
      let a2 = store_after n s' proto laws' over o e v c a y st.second (and_left _ _ seen_here) (and_right _ _ seen_here) fit.placed_too.0 fit.placed_too.1 in
      go_on rest (aligned rest) o o e (store_made (suite_calls hosts) proto a y e) 0 k has
      (record {
        row = no_slots m s proto laws over k _ fit.row;
        seen = and_right _ _ fit.seen;
        fits = fit.fits;
        placed = fit.placed.2;
        placed_too = fit.placed_too.2;
        needs = fit.needs;
        needs_too = fit.needs_too;
      })
      w v c c1 turn is small st a1 a2 tidy (λ alone. acts_chosen (moved.acts ++ acts) w v)
  aligned (Put a i y rest) o k has fit e w v c turn is small st tidy =
      let seen_here = and_left _ _ fit.seen in
      let sees_a = and_left _ _ (and_left _ _ seen_here) in
      let sees_i = and_right _ _ (and_left _ _ seen_here) in
      let sees_y = and_right _ _ seen_here in
      let index = delivered (suite_calls hosts) proto (proto i.0) (part m s proto e.held i.0) (holders_among (suite_calls hosts) (proto a.0)) e.next in
      let moved = (suite_calls hosts).move (proto y.0) (proto a.0) (part m s proto e.held y.0) index.next in
      let acts = (suite_calls hosts).put (proto a.0) (part m s proto e.held a.0) index.given moved.given in
      let c1 = with_array a (slice_set (array_at c a) (word_at c i) (word_at c y)) c in
      let a1 = put_after m s proto laws over o e w c a i y st.first sees_a sees_i sees_y fit.placed.0 fit.placed.1 fit.placed.2 in
      let a2 = put_after n s' proto laws' over o e v c a i y st.second sees_a sees_i sees_y fit.placed_too.0 fit.placed_too.1 fit.placed_too.2 in
      go_on rest (aligned rest) o o e (put_made (suite_calls hosts) proto a i y e) 0 k has
      (record {
        row = no_slots m s proto laws over k _ fit.row;
        seen = and_right _ _ fit.seen;
        fits = fit.fits;
        placed = fit.placed.3;
        placed_too = fit.placed_too.3;
        needs = fit.needs;
        needs_too = fit.needs_too;
      })
      w v c c1 turn is small st a1 a2 tidy (λ alone. acts_chosen ((index.acts ++ moved.acts) ++ acts) w v)
  aligned (Output y g offset rest) o k has fit e w v c turn is small st tidy =
      let sees_y = and_left _ _ fit.seen in
      let moved = (suite_calls hosts).move (proto y.0) (Local g) (part m s proto e.held y.0) e.next in
      let acts = (suite_calls hosts).output g moved.given in
      let c1 = in_world (after_output c.world g.0 (word_at c y)) c in
      let a1 = output_after m s proto laws over o e w c y g st.first sees_y fit.fits.0 fit.placed.0 in
      let a2 = output_after n s' proto laws' over o e v c y g st.second sees_y fit.fits.0 fit.placed_too.0 in
      go_on rest (aligned rest) o o e (output_made (suite_calls hosts) proto y g e) 0 k has
      (record {
        row = no_slots m s proto laws over k _ fit.row;
        seen = and_right _ _ fit.seen;
        fits = fit.fits.1;
        placed = fit.placed.1;
        placed_too = fit.placed_too.1;
        needs = fit.needs;
        needs_too = fit.needs_too;
      })
      w v c c1 turn is small st a1 a2 tidy (λ alone. acts_chosen (moved.acts ++ acts) w v)
  aligned (If x tb eb offset rest) o k has fit e w v c turn is small st tidy =
      let seen_here = and_left _ _ fit.seen in
      let row1 = row_front k (slots tb ++ slots eb) (slots rest) fit.row in
      let row2 = row_back k (slots tb ++ slots eb) (slots rest) fit.row in
      let fit1 : Fitting tb o k has = record {
        row = row_front k (slots tb) (slots eb) row1;
        seen = and_right _ _ (and_left _ _ seen_here);
        fits = fit.fits.0;
        placed = fit.placed.1;
        placed_too = fit.placed_too.1;
        needs = λ g p. fit.needs g (or_left _ _ (or_left _ _ p));
        needs_too = λ g p. fit.needs_too g (or_left _ _ (or_left _ _ p));
      } in
      let fit2 : Fitting eb o (k + length (slots tb)) has = record {
        row = row_back k (slots tb) (slots eb) row1;
        seen = and_right _ _ seen_here;
        fits = fit.fits.1;
        placed = fit.placed.2;
        placed_too = fit.placed_too.2;
        needs = λ g p. fit.needs g (or_left _ _ (or_right _ _ p));
        needs_too = λ g p. fit.needs_too g (or_left _ _ (or_right _ _ p));
      } in
      let sees_x = and_left _ _ (and_left _ _ seen_here) in
      let c1 = in_order (if nat_eq (word_at c x) 0 then each stmt_effect eb else each stmt_effect tb) turn c in
      let a1 = after_first tb eb (aligned tb) (aligned eb) x o k has fit1 fit2 sees_x fit.placed.0 fit.placed_too.0 e w v c turn is small st in
      let a2 = after_second tb eb (aligned tb) (aligned eb) x o k has fit1 fit2 sees_x fit.placed.0 fit.placed_too.0 e w v c turn is small st in
      go_on rest (aligned rest) o o e (if_made (suite_calls hosts) proto x (emits tb) (emits eb) e) (length (slots tb) + length (slots eb)) k has
      (record {
        row = subst (λ z. InRow (k + z) (slots rest)) (length-append (slots tb) (slots eb)) row2;
        seen = and_right _ _ fit.seen;
        fits = fit.fits.2;
        placed = fit.placed.3;
        placed_too = fit.placed_too.3;
        needs = λ g p. fit.needs g (or_right _ _ p);
        needs_too = λ g p. fit.needs_too g (or_right _ _ p);
      })
      w v c c1 turn is small st a1 a2 tidy
      (λ alone. branch_chosen tb eb (aligned tb) (aligned eb) x o k has fit1 fit2 sees_x fit.placed.0 fit.placed_too.0 e w v c turn is small st alone)
  aligned (For count body rest) o k has fit e w v c turn is small st tidy =
      let row1 = row_front k (slots body) (slots rest) fit.row in
      let row2 = row_back k (slots body) (slots rest) fit.row in
      let fit1 : Fitting body o k (emits body).acts_at = record {
        row = row1;
        seen = and_left _ _ fit.seen;
        fits = fit.fits.1;
        placed = fit.placed.0;
        placed_too = fit.placed_too.0;
        needs = turns_act m s proto laws over body;
        needs_too = turns_act n s' proto laws' over body;
      } in
      let c1 = turns count (effect_of body) c in
      let a1 = loop_first body (aligned body) o k fit1 e w v c is st.first st.second count fit.fits.0 in
      let a2 = loop_second body (aligned body) o k fit1 e w v c is st.first st.second count fit.fits.0 in
      go_on rest (aligned rest) o o e (for_made (suite_calls hosts) proto count (emits body) e) (length (slots body)) k has
      (record {
        row = row2;
        seen = and_right _ _ fit.seen;
        fits = fit.fits.2;
        placed = fit.placed.1;
        placed_too = fit.placed_too.1;
        needs = fit.needs;
        needs_too = fit.needs_too;
      })
      w v c c1 turn is small st a1 a2 tidy (λ alone. loop_chosen body (aligned body) o k fit1 e w v c is st.first st.second count fit.fits.0 alone)
