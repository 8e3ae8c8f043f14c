-- Two runs of a block: where the clear words that come to the hosts of a coalition agree, they are told openly the same and read the same guards.
use Rattle.std.proofs.Common.{◌≡◌, ℕ, zero, suc, ◌+◌, ◌^◌, ◌<◌, ◌≤◌, nat_eq, ◌&&◌, ◌||◌, Bool, true, false, if◌then◌else◌, List, [], ◌∷◌, ◌++◌, ◌⊎◌, inl, inr, length, map, slice_index, slice_set, replicate, refl, sym, ap, ap₂, subst, subst₂, ◌∙◌, arith, length-append}
use Rattle.std.specs.List.{list_all}
use Rattle.std.proofs.lemmas.Bool.{eq-eqb}
use native.Mathlib.Decide.{ℕ_discrete}
use Rattle.vd_base.specs.declared.ids.HostId.{HostId}
use Rattle.vd_base.specs.declared.ids.SlotId.{SlotId}
use Rattle.vd_base.specs.declared.protocols.Proto.{Proto}
use Rattle.vd_base.specs.declared.protocols.Proto.TheVariants.{Local}
use Rattle.vd_base.specs.HostSets.{host, same_host}
use Rattle.vd_base.specs.Holders.{proto_in}
use Rattle.vd_core.specs.declared.normal.Right.{Right}
use Rattle.vd_core.specs.declared.normal.Right.TheVariants.{Get}
use Rattle.vd_core.specs.Facts.{Sight}
use Rattle.vd_constraints.specs.declared.labels.Labels.{Labels}
use Rattle.vd_constraints.specs.Scoped.{is_below, right_below, stmt_below}
use Rattle.vd_semantics.specs.Turns.{turns}
use Rattle.vd_semantics.specs.World.{after_output}
use Rattle.vd_semantics.specs.ProgramMeaning.{SlotState, Effect, word_at, array_at, with_word, with_array, in_world, right_word, after_right, in_order, stmt_effect}
use Rattle.vd_execution.specs.World.{Tape}
use Rattle.vd_execution.specs.Joint.{Part, Apart, TakesPart, Host, Hosts, is_other, turn_begun, turns as code_turns}
use Rattle.vd_execution.specs.Gadgets.{Gadget}
use Rattle.vd_execution.specs.Plans.{Plan, Ends, Branch, Loop}
use Rattle.vd_duet.specs.Laws.{IsHost}
use Rattle.vd_split.specs.Block.{Block, End, Let, NewVar, NewArray, Store, Put, Output, If, For, each}
use Rattle.vd_split.specs.Joint.{Hosts as AnyHosts, acts_then, and_then, Each, joint}
use Rattle.vd_split.specs.Suite.{picked, Made, Suite, Laws, holders_among}
use Rattle.vd_split.specs.Emission.{Emitting, Emitted, Emission, delivered, right_made, in_turn, stmt_emission, if_made, for_made, loop_registers, after_loop_registers, store_made, put_made, output_made, with_parts}
use Rattle.vd_split.specs.Validity.{Fits, turns_at, Placed, Reaches}
use Rattle.vd_split.proofs.Front.{and_left, and_right, or_left, or_right, or_none_left, or_none_right, InRow, row_front, row_back, Binding, Variable, Array, Sees, with_use, part, tied_past, Reached, picked_join, operand_of, index_reached, Ties, TurnsIn, After, turns_past, let_after, var_after, array_after, store_after, put_after, output_after, slots, sees, effect_of, turn_here, turn_later, turns_act, no_slots, both_idle, means}
use Rattle.vd_split.proofs.Front as loops
use Rattle.vd_backend_laws.specs.Machine.{machine}
use Rattle.vd_backend_laws.specs.Parts.{suite_calls}
use Rattle.vd_backend_laws.specs.Suite.{IsOver, suite}
use Rattle.vd_views.specs.Views.{Coalition, IsIn, Concerns, LooksAlike}
use Rattle.vd_views.specs.Hiding.{GadgetKnows, GadgetsKnow}
use Rattle.vd_views.specs.Plans.{NoGuard, run_turn, PlanKnows, PlanChooses}
use Rattle.vd_views.proofs.Coalitions.{concerns_or_not}
use Rattle.vd_views.proofs.Blocks.{begun_alike}
use Rattle.vd_noninter_protocols.specs.Hearing.{Heard, run_of, word_if, comes, comes_alone, index_comes, is_part, heard_in_order, heard_in_turns, heard_step, right_heard}
use Rattle.vd_noninter_protocols.proofs.Front.{below, runs_each, part_is}
use Rattle.vd_views.specs.Sides.{AreKin, Both, after, IsOpenAt, Telling}
use Rattle.vd_views.proofs.Sides.{both_all, telling_quiet, telling_on}
use Rattle.vd_views.proofs.ViewsBackendsPlans.{idle_hides}
use Rattle.vd_views.proofs.Ordinary.{all_quiet, keep_ordinary, renew_ordinary, output_ordinary, cells_ordinary, put_ordinary}
use Rattle.vd_views.specs.Hides.{Hides}
use Rattle.vd_views.specs.Moved.{OwnAlike}
use Rattle.vd_views.proofs.Given.{own_behind, own_other, own_first, own_turn, own_idle}
use Rattle.vd_views.proofs.ViewsProgramsHiding.{idle, hides_behind}
use Rattle.vd_views.proofs.Compose.{acts_on, acts_tidy, nothing_along}
use Rattle.vd_views.proofs.Words.{one_off, regroup, RightAgrees, right_off}
use Rattle.vd_views.proofs.ViewsProgramsCalls.{same_run, picked_passes, when_both, same_alone, moved_tells, delivered_tells, word_tells, index_tells, right_tells}
use Rattle.vd_views.proofs.Silent.{silent}
use Rattle.vd_views.proofs.Turns.{both_turns, each_turn, begun_at}
use Rattle.vd_views.proofs.Steps.{Static, static_first, static_other, static_body, static_behind, Concluded, acts_concluded, both_after, and_rest}
use Rattle.vd_backend_laws.proofs.Front.{begun_is}

-- ---- who is told a guard

picked_has : (test : ℕ → Bool) (from n h : ℕ) → from ≤ h → h < from + n → test h ≡ true → IsHost (picked from n test) h
picked_has test from zero h le lt e = absurd (omega (arith, le, lt))
picked_has test from (suc n) h le lt e = at (ℕ_discrete h from) (test from) refl (λ more. picked_has test (from + 1) n h more (omega (arith, lt)) e)
  where
    further : (h ≡ from → ⊥) → from + 1 ≤ h
    further d = grind (arith)

    opposite : (z : Bool) → z ≡ true → z ≡ false → ⊥
    opposite true p q = cc
    opposite false p q = cc

    at : Dec (h ≡ from) → (b : Bool) → test from ≡ b → (from + 1 ≤ h → IsHost (picked (from + 1) n test) h) → IsHost (if b then host from ∷ picked (from + 1) n test else picked (from + 1) n test) h
    at (yes i) true f later = inl i
    at (yes i) false f later = absurd (opposite (test from) (ap test (sym i) ∙ e) f)
    at (no d) true f later = inr (later (further d))
    at (no d) false f later = later (further d)

none_left : (x : ℕ) (xs : List ℕ) → [] ≡ x ∷ xs → ⊥
none_left x xs e = cc

left_none : (x : ℕ) (xs : List ℕ) → x ∷ xs ≡ [] → ⊥
left_none x xs e = cc

first_is : (x y : ℕ) (xs ys : List ℕ) → x ∷ xs ≡ y ∷ ys → x ≡ y
first_is x y xs ys e = ap (λ (l : List ℕ). slice_index l 0) e

rest_is : (x y : ℕ) (xs ys : List ℕ) → x ∷ xs ≡ y ∷ ys → xs ≡ ys
rest_is x y xs ys e = ap (λ (l : List ℕ). drop_one l) e
  where
    drop_one : List ℕ → List ℕ
    drop_one [] = []
    drop_one (z ∷ l) = l

taking : (given : List Part) (ks : List HostId) (h : ℕ) → map (λ q. q.0) given ≡ map (λ k. k.0) ks → IsHost ks h → TakesPart given h
taking [] [] h e i = i
taking [] (k ∷ ks) h e i = absurd (none_left k.0 (map (λ z. z.0) ks) e)
taking (q ∷ given) [] h e i = absurd i
taking (q ∷ given) (k ∷ ks) h e (inl i) = inl (i ∙ sym (first_is q.0 k.0 (map (λ z. z.0) given) (map (λ z. z.0) ks) e))
taking (q ∷ given) (k ∷ ks) h e (inr i) = inr (taking given ks h (rest_is q.0 k.0 (map (λ z. z.0) given) (map (λ z. z.0) ks) e) i)

taken_host : (given : List Part) (ks : List HostId) (h : ℕ) → map (λ q. q.0) given ≡ map (λ k. k.0) ks → TakesPart given h → IsHost ks h
taken_host [] ks h e i = absurd i
taken_host (q ∷ given) [] h e i = absurd (left_none q.0 (map (λ z. z.0) given) e)
taken_host (q ∷ given) (k ∷ ks) h e (inl i) = inl (i ∙ first_is q.0 k.0 (map (λ z. z.0) given) (map (λ z. z.0) ks) e)
taken_host (q ∷ given) (k ∷ ks) h e (inr i) = inr (taken_host given ks h (rest_is q.0 k.0 (map (λ z. z.0) given) (map (λ z. z.0) ks) e) i)

-- where h has a guard in both runs, and looks alike, the guards are the same
abbrev pub HasGuards : List ℕ → Hosts → ℕ → List Part → Type 0
HasGuards next w a given = Each (λ q. ((w q.0).registers q.1 ≡ a) × (q.1 < slice_index next q.0)) given

same_guard : (next : List ℕ) (w v : Hosts) (a b h : ℕ) (given : List Part) → TakesPart given h → HasGuards next w a given → HasGuards next v b given → w h ≡ v h → a ≡ b
same_guard next w v a b h [] i p q e = absurd i
same_guard next w v a b h (g ∷ given) (inl i) p q e =
    let P : ℕ → Type 0 = λ z. w z ≡ v z in
    sym p.0.0 ∙ ap (λ (k : Host). k.registers g.1) (subst P i e) ∙ q.0.0
same_guard next w v a b h (g ∷ given) (inr i) p q e = same_guard next w v a b h given i p.1 q.1 e

pub goes_other : (next : List ℕ) (w : Hosts) (a h : ℕ) (given : List Part) → TakesPart given h → HasGuards next w a given → is_other given w ≡ nat_eq a 0
goes_other next w a h [] i p = absurd i
goes_other next w a h (g ∷ given) i p = ap (λ z. nat_eq z 0) p.0.0

opposite : {X : Type 0} (z : Bool) → z ≡ true → z ≡ false → X
opposite true p q = cc
opposite false p q = cc

-- ---- two runs

module _ (K : Coalition) (few : (g : ℕ) → IsIn K g → g < 8) (t u : Tape) (kin : AreKin K t u) (inputs others : ℕ → List ℕ) (hosts : ℕ) (known : (g : ℕ) → IsIn K g → g < hosts) (protocols : List Proto) (l : Labels)
    (laws : Laws (machine t inputs) (suite t inputs hosts)) (laws' : Laws (machine u others) (suite u others hosts))
    (over : (x : ℕ) → IsOver hosts (proto_in protocols x)) (opens : (x : ℕ) → IsOpenAt K (proto_in protocols x)) where
  abbrev pub proto : ℕ → Proto
  proto = proto_in protocols

  abbrev pub m : AnyHosts
  m = machine t inputs

  abbrev pub n : AnyHosts
  n = machine u others

  abbrev pub s : Suite (machine t inputs)
  s = suite t inputs hosts

  abbrev pub s' : Suite (machine u others)
  s' = suite u others hosts

  abbrev pub E : Type 0
  E = Emitting (suite_calls hosts) proto

  abbrev pub emits : Block → Emission (suite_calls hosts) proto
  emits b = in_turn (suite_calls hosts) proto (each (stmt_emission (suite_calls hosts) proto) b)

  abbrev pub heards : ℕ → Block → List Heard
  heards g b = each (heard_step protocols (host g) l) b

  abbrev pub low_block : Block → Bool
  low_block b = list_all (λ x. x) (each (stmt_below (length protocols)) b)

  abbrev pub Ends' : Plan Gadget → Hosts → Hosts → (ℕ → List ℕ) → (ℕ → List ℕ) → Type 0
  Ends' plan w v xs ys = Concluded K t u plan w v xs ys

  abbrev Tells : List Gadget → Hosts → Hosts → Type 0
  Tells gs w v = Telling K t u gs w v

  -- what a block stands in, in both runs
  pub record Stands (o : Sight) (e : E) (w v : Hosts) (c d : SlotState) (turn : ℕ) (has : ℕ → Bool) : Type 0 where
    pub first : Ties m s proto o e w c
    pub first_turn : TurnsIn m s proto has o e w turn
    pub second : Ties n s' proto o e v d
    pub second_turn : TurnsIn n s' proto has o e v turn
    pub both : Both K w v

  pub record Fitting (b : Block) (o : Sight) (k : ℕ) (has : ℕ → Bool) : Type 0 where
    pub row : InRow k (slots b)
    pub seen : (sees b o).all ≡ true
    pub fits : Fits hosts b
    pub placed : Placed m s proto b
    pub placed_too : Placed n s' proto b
    pub low : low_block b ≡ true
    pub needs : (g : ℕ) → turns_at m s proto b g ≡ true → has g ≡ true
    pub needs_too : (g : ℕ) → turns_at n s' proto b g ≡ true → has g ≡ true

  abbrev pub Follows : Block → Type 0
  Follows b =
      (o : Sight) (k : ℕ) (has : ℕ → Bool) → Fitting b o k has → (e : E) (w v : Hosts) (c d : SlotState) (turn : ℕ) → length e.held ≡ k → turn < 2 ^ 32 → Stands o e w v c d turn has
      → Static ((emits b).emit e).tree → Hides K t u ((emits b).emit e).tree w v → OwnAlike K t u ((emits b).emit e).tree w v → (xs ys : ℕ → List ℕ) → ((g : ℕ) → IsIn K g → heard_in_order (heards g b) turn c ++ xs g ≡ heard_in_order (heards g b) turn d ++ ys g)
      → Ends' ((emits b).emit e).tree w v xs ys

  sum : {i j a b : ℕ} → i ≡ a → j ≡ b → i + j ≡ a + b
  sum p q = omega arith

  -- a statement, and then the rest
  go_on : (rest : Block) → Follows rest → (o o1 : Sight) (e : E) (one : Emitted (suite_calls hosts) proto) (many k : ℕ) (has : ℕ → Bool) → Fitting rest o1 (k + many) has → (w v : Hosts) (c d c1 d1 : SlotState) (turn : ℕ) → length e.held ≡ k → turn < 2 ^ 32
      → Stands o e w v c d turn has → After m s proto o o1 e one many w c1 → After n s' proto o o1 e one many v d1 → Static (and_then one.tree ((emits rest).emit one.state).tree)
      → Hides K t u (and_then one.tree ((emits rest).emit one.state).tree) w v → OwnAlike K t u (and_then one.tree ((emits rest).emit one.state).tree) w v → (xs ys : ℕ → List ℕ)
      → (Static one.tree → Hides K t u one.tree w v → OwnAlike K t u one.tree w v → Ends' one.tree w v (λ g. heard_in_order (heards g rest) turn c1 ++ xs g) (λ g. heard_in_order (heards g rest) turn d1 ++ ys g))
      → Ends' (and_then one.tree ((emits rest).emit one.state).tree) w v xs ys
  go_on rest follows o o1 e one many k has fitting w v c d c1 d1 turn is small st a1 a2 static hides owns xs ys first =
      and_rest K t u kin inputs others one.tree ((emits rest).emit one.state).tree w v a1.reached a2.reached (λ g. heard_in_order (heards g rest) turn c1 ++ xs g) (λ g. heard_in_order (heards g rest) turn d1 ++ ys g) xs ys
      static st.both a1.runs a1.goes a2.runs a2.goes hides owns first
      (λ later both more given_more agree.
      follows o1 (k + many) has fitting one.state a1.reached a2.reached c1 d1 turn (ap length a1.held ∙ length-append e.held a1.more ∙ sum is a1.many) small
      (record {
        first = a1.tied;
        first_turn = turns_past m s proto has turn o o1 e one many w c c1 st.first a1 st.first_turn;
        second = a2.tied;
        second_turn = turns_past n s' proto has turn o o1 e one many v d d1 st.second a2 st.second_turn;
        both = both;
      }) later more given_more xs ys agree)

  -- ---- branches

  module _ (tb eb : Block) (f1 : Follows tb) (f2 : Follows eb) (x : SlotId) (o : Sight) (k : ℕ) (has : ℕ → Bool) (fit1 : Fitting tb o k has) (fit2 : Fitting eb o (k + length (slots tb)) has) (sees_x : Sees o Binding x.0)
      (reaches : Reaches m s proto x (λ g. (emits tb).takes_part g || (emits eb).takes_part g)) (reaches' : Reaches n s' proto x (λ g. (emits tb).takes_part g || (emits eb).takes_part g))
      (e : E) (w v : Hosts) (c d : SlotState) (turn : ℕ) (is : length e.held ≡ k) (small : turn < 2 ^ 32) (st : Stands o e w v c d turn has) where
    abbrev test : ℕ → Bool
    test g = (emits tb).takes_part g || (emits eb).takes_part g

    abbrev ks : List HostId
    ks = picked 0 hosts test

    abbrev guard : Made Gadget (List (ℕ × ℕ))
    guard = delivered (suite_calls hosts) proto (proto x.0) (part m s proto e.held x.0) ks e.next

    abbrev start : E
    start = record { next = guard.next; held = e.held; loop = e.loop }

    abbrev middle : E
    middle = ((emits tb).emit start).state

    abbrev first_tree : Plan Gadget
    first_tree = ((emits tb).emit start).tree

    abbrev other_tree : Plan Gadget
    other_tree = ((emits eb).emit middle).tree

    abbrev whole : Plan Gadget
    whole = acts_then guard.acts (Branch guard.given first_tree other_tree Ends)

    comes1 : loops.Comes m s proto laws over (emits tb) (effect_of tb) o (sees tb o).after (length (slots tb)) (turns_at m s proto tb) k
    comes1 = means m s proto laws over tb o k fit1.row fit1.seen fit1.fits fit1.placed

    comes2 : loops.Comes m s proto laws over (emits eb) (effect_of eb) o (sees eb o).after (length (slots eb)) (turns_at m s proto eb) (k + length (slots tb))
    comes2 = means m s proto laws over eb o (k + length (slots tb)) fit2.row fit2.seen fit2.fits fit2.placed

    comes1' : loops.Comes n s' proto laws' over (emits tb) (effect_of tb) o (sees tb o).after (length (slots tb)) (turns_at n s' proto tb) k
    comes1' = means n s' proto laws' over tb o k fit1.row fit1.seen fit1.fits fit1.placed_too

    comes2' : loops.Comes n s' proto laws' over (emits eb) (effect_of eb) o (sees eb o).after (length (slots eb)) (turns_at n s' proto eb) (k + length (slots tb))
    comes2' = means n s' proto laws' over eb o (k + length (slots tb)) fit2.row fit2.seen fit2.fits fit2.placed_too

    after_first : After m s proto o o e (if_made (suite_calls hosts) proto x (emits tb) (emits eb) e) (length (slots tb) + length (slots eb)) w
        (in_order (if nat_eq (word_at c x) 0 then each stmt_effect eb else each stmt_effect tb) turn c)
    after_first =
        loops.branch_after m s proto laws over o (sees tb o).after (sees eb o).after (emits tb) (emits eb) (each stmt_effect tb) (each stmt_effect eb) (length (slots tb)) (length (slots eb)) k
        (turns_at m s proto tb) (turns_at m s proto eb) comes1 comes2 x sees_x reaches (both_idle m s proto laws over tb eb) e w c turn has is fit1.needs fit2.needs small st.first st.first_turn

    after_second : After n s' proto o o e (if_made (suite_calls hosts) proto x (emits tb) (emits eb) e) (length (slots tb) + length (slots eb)) v
        (in_order (if nat_eq (word_at d x) 0 then each stmt_effect eb else each stmt_effect tb) turn d)
    after_second =
        loops.branch_after n s' proto laws' over o (sees tb o).after (sees eb o).after (emits tb) (emits eb) (each stmt_effect tb) (each stmt_effect eb) (length (slots tb)) (length (slots eb)) k
        (turns_at n s' proto tb) (turns_at n s' proto eb) comes1' comes2' x sees_x reaches' (both_idle n s' proto laws' over tb eb) e v d turn has is fit1.needs_too fit2.needs_too small st.second st.second_turn

    abbrev given : Reached m s laws e.next w ks guard (word_at c x)
    given =
        loops.reached m s proto laws over o (sees tb o).after (sees eb o).after (emits tb) (emits eb) (each stmt_effect tb) (each stmt_effect eb) (length (slots tb)) (length (slots eb)) k
        (turns_at m s proto tb) (turns_at m s proto eb) comes1 comes2 x sees_x reaches (both_idle m s proto laws over tb eb) e w c turn has is fit1.needs fit2.needs small st.first st.first_turn

    abbrev given' : Reached n s' laws' e.next v ks guard (word_at d x)
    given' =
        loops.reached n s' proto laws' over o (sees tb o).after (sees eb o).after (emits tb) (emits eb) (each stmt_effect tb) (each stmt_effect eb) (length (slots tb)) (length (slots eb)) k
        (turns_at n s' proto tb) (turns_at n s' proto eb) comes1' comes2' x sees_x reaches' (both_idle n s' proto laws' over tb eb) e v d turn has is fit1.needs_too fit2.needs_too small st.second st.second_turn

    -- the guard is told to each host of the coalition that takes part
    guard_tells : ((g : ℕ) → IsIn K g → (is_part protocols (host g) x (heards g tb) (heards g eb) && comes_alone protocols (host g) x) ≡ true → word_at c x ≡ word_at d x) → Tells guard.acts w v
    guard_tells agrees =
        delivered_tells K few t u kin inputs others hosts protocols laws laws' over opens (proto x.0) (opens x.0) (over x.0) (part m s proto e.held x.0) (word_at c x) (word_at d x) ks
        (picked_join m s laws proto (proto x.0) test 0 hosts (λ g lt i. reaches g (within lt) i) (omega arith)) e.next w v st.first.ready st.second.ready
        (operand_of m s proto laws over o e.next e.held w c st.first x.0 sees_x) (operand_of n s' proto laws' over o e.next e.held v d st.second x.0 sees_x)
        (λ g k same among.
        same_alone K few t u kin inputs others hosts protocols laws laws' over opens g k x (part m s proto e.held x.0) w v (word_at c x) (word_at d x) same (st.first.stands Binding x.0 sees_x) (st.second.stands Binding x.0 sees_x)
        (when_both (is_part protocols (host g) x (heards g tb) (heards g eb)) (comes_alone protocols (host g) x)
        (part_is protocols (host g) l (suite_calls hosts) x tb eb fit1.low fit2.low ∙ picked_passes test 0 hosts g among) (agrees g k)))
      where
        within : {g : ℕ} → g < 0 + hosts → g < hosts
        within lt = omega arith

    -- inside, from where the guard was told
    module _ (w1 v1 : Hosts) (begins : (Ties m s proto o start w1 c × TurnsIn m s proto has o start w1 turn) × (Ties m s proto o middle w1 c × TurnsIn m s proto has o middle w1 turn × (length middle.held ≡ k + length (slots tb))))
        (begins' : (Ties n s' proto o start v1 d × TurnsIn n s' proto has o start v1 turn) × (Ties n s' proto o middle v1 d × TurnsIn n s' proto has o middle v1 turn × (length middle.held ≡ k + length (slots tb))))
        (placed : map (λ q. q.0) guard.given ≡ map (λ g. g.0) ks) (has_guard : HasGuards guard.next w1 (word_at c x) guard.given) (has_guard' : HasGuards guard.next v1 (word_at d x) guard.given)
        (both1 : Both K w1 v1) (static : Static (Branch guard.given first_tree other_tree Ends)) (hides : Hides K t u (Branch guard.given first_tree other_tree Ends) w1 v1) (owns : OwnAlike K t u (Branch guard.given first_tree other_tree Ends) w1 v1) (xs ys : ℕ → List ℕ)
        (words : (g : ℕ) → IsIn K g → heard_in_order (if nat_eq (word_at c x) 0 then heards g eb else heards g tb) turn c ++ xs g ≡ heard_in_order (if nat_eq (word_at d x) 0 then heards g eb else heards g tb) turn d ++ ys g) where
      -- a host of the coalition takes part: both runs take the same block
      takes : Concerns guard.given K → Ends' (Branch guard.given first_tree other_tree Ends) w1 v1 xs ys
      takes q0 =
          let q : TakesPart guard.given q0.0 = q0.1.1 in
          let same : word_at c x ≡ word_at d x = same_guard guard.next w1 v1 (word_at c x) (word_at d x) q0.0 guard.given q has_guard has_guard' (both1.looks q0.0 q0.1.0).itself in
          let goes : is_other guard.given w1 ≡ nat_eq (word_at c x) 0 = goes_other guard.next w1 (word_at c x) q0.0 guard.given q has_guard in
          let goes' : is_other guard.given v1 ≡ nat_eq (word_at d x) 0 = goes_other guard.next v1 (word_at d x) q0.0 guard.given q has_guard' in
          at (nat_eq (word_at c x) 0) q0 goes (goes ∙ ap (λ z. nat_eq z 0) same ∙ sym goes')
          (λ g i. subst (λ z. heard_in_order (if nat_eq (word_at c x) 0 then heards g eb else heards g tb) turn c ++ xs g ≡ heard_in_order (if nat_eq z 0 then heards g eb else heards g tb) turn d ++ ys g) (sym same) (words g i))
        where
          at : (b : Bool) → Concerns guard.given K → is_other guard.given w1 ≡ b → is_other guard.given w1 ≡ is_other guard.given v1
              → ((g : ℕ) → IsIn K g → heard_in_order (if b then heards g eb else heards g tb) turn c ++ xs g ≡ heard_in_order (if b then heards g eb else heards g tb) turn d ++ ys g)
              → Ends' (Branch guard.given first_tree other_tree Ends) w1 v1 xs ys
          at true m goes alike words =
              let inside = f2 o (k + length (slots tb)) has fit2 middle w1 v1 c d turn begins.1.2 small
              (record { first = begins.1.0; first_turn = begins.1.1; second = begins'.1.0; second_turn = begins'.1.1; both = both1 })
              (static_other guard.given first_tree other_tree Ends static) ((hides.0 m alike).0 goes) (own_other K t u guard.given first_tree other_tree w1 v1 m goes (sym alike ∙ goes) owns) xs ys words in
              record {
                knows = ((λ i. (tt, ((λ f. inside.knows), (λ f. opposite (is_other guard.given w1) goes f)))), tt);
                chooses = ((λ i. (alike, ((λ f. inside.chooses), (λ f. opposite (is_other guard.given w1) goes f)))), tt);
                rest = inside.rest;
              }
          at false m goes alike words =
              let inside = f1 o k has fit1 start w1 v1 c d turn is small
              (record { first = begins.0.0; first_turn = begins.0.1; second = begins'.0.0; second_turn = begins'.0.1; both = both1 })
              (static_first guard.given first_tree other_tree Ends static) ((hides.0 m alike).1 goes) (own_first K t u guard.given first_tree other_tree w1 v1 m goes (sym alike ∙ goes) owns) xs ys words in
              record {
                knows = ((λ i. (tt, ((λ f. opposite (is_other guard.given w1) f goes), (λ f. inside.knows)))), tt);
                chooses = ((λ i. (alike, ((λ f. opposite (is_other guard.given w1) f goes), (λ f. inside.chooses)))), tt);
                rest = inside.rest;
              }

      quiet_block : (g : ℕ) (b : Bool) (z : SlotState) → test g ≡ false → heard_in_order (if b then heards g eb else heards g tb) turn z ≡ []
      quiet_block g true z off = silent protocols (host g) l hosts eb fit2.low (or_none_right _ _ off) turn z
      quiet_block g false z off = silent protocols (host g) l hosts tb fit1.low (or_none_left _ _ off) turn z

      -- none of its hosts does: nothing comes to them
      absent : (Concerns guard.given K → ⊥) → Ends' (Branch guard.given first_tree other_tree Ends) w1 v1 xs ys
      absent out = record {
        knows = ((λ i. absurd (out i)), tt);
        chooses = ((λ i. absurd (out i)), tt);
        rest = λ g i.
            let off : test g ≡ false = off_at g i (test g) refl in
            sym (ap (λ (z : List ℕ). z ++ xs g) (quiet_block g (nat_eq (word_at c x) 0) c off)) ∙ words g i ∙ ap (λ (z : List ℕ). z ++ ys g) (quiet_block g (nat_eq (word_at d x) 0) d off);
      }
        where
          off_at : (g : ℕ) → IsIn K g → (b : Bool) → test g ≡ b → test g ≡ false
          off_at g i true on = absurd (out (g, (i, taking guard.given ks g placed (picked_has test 0 hosts g (omega arith) (let lt = known g i in omega (arith, lt)) on))))
          off_at g i false on = on

      inside : Ends' (Branch guard.given first_tree other_tree Ends) w1 v1 xs ys
      inside = at (concerns_or_not guard.given K)
        where
          at : Concerns guard.given K ⊎ (Concerns guard.given K → ⊥) → Ends' (Branch guard.given first_tree other_tree Ends) w1 v1 xs ys
          at (inl m) = takes m
          at (inr out) = absent out

    branch_ends : Static whole → Hides K t u whole w v → OwnAlike K t u whole w v → (xs ys : ℕ → List ℕ)
        → ((g : ℕ) → IsIn K g →
        (word_if (is_part protocols (host g) x (heards g tb) (heards g eb) && comes_alone protocols (host g) x) (word_at c x) ++ heard_in_order (if nat_eq (word_at c x) 0 then heards g eb else heards g tb) turn c) ++ xs g
        ≡ (word_if (is_part protocols (host g) x (heards g tb) (heards g eb) && comes_alone protocols (host g) x) (word_at d x) ++ heard_in_order (if nat_eq (word_at d x) 0 then heards g eb else heards g tb) turn d) ++ ys g)
        → Ends' whole w v xs ys
    branch_ends static hides owns xs ys words =
        let part_of : ℕ → Bool = λ g. is_part protocols (host g) x (heards g tb) (heards g eb) && comes_alone protocols (host g) x in
        let c_words : ℕ → List ℕ = λ g. heard_in_order (if nat_eq (word_at c x) 0 then heards g eb else heards g tb) turn c in
        let d_words : ℕ → List ℕ = λ g. heard_in_order (if nat_eq (word_at d x) 0 then heards g eb else heards g tb) turn d in
        let off : (g : ℕ) → IsIn K g → (part_of g ≡ true → word_at c x ≡ word_at d x) × (c_words g ++ xs g ≡ d_words g ++ ys g) = λ g i.
        one_off (part_of g) (word_at c x) (word_at d x) (c_words g ++ xs g) (d_words g ++ ys g) (regroup (word_if (part_of g) (word_at c x)) (c_words g) (word_if (part_of g) (word_at d x)) (d_words g) (xs g) (ys g) (words g i)) in
        let inner : Plan Gadget = Branch guard.given first_tree other_tree Ends in
        let hs = hides_behind K t u guard.acts inner w v hides in
        let os = own_behind K t u guard.acts inner w v owns in
        let tidy = (acts_tidy guard.acts inner static.tidy).0 in
        let told : GadgetsKnow K t u guard.acts w v = guard_tells (λ g i. (off g i).0) st.both tidy hs.0 os.0 in
        let e1 : after t guard.acts w ≡ given.between.reached = same_run t inputs guard.acts w ∙ given.between.leads.runs in
        let e2 : after u guard.acts v ≡ given'.between.reached = same_run u others guard.acts v ∙ given'.between.leads.runs in
        let both1 : Both K given.between.reached given'.between.reached = subst₂ (λ (p q : Hosts). Both K p q) e1 e2 (both_all K t u kin guard.acts w v tidy st.both hs.0 told) in
        let begins = loops.begins_at m s proto laws over o (sees tb o).after (sees eb o).after (emits tb) (emits eb) (each stmt_effect tb) (each stmt_effect eb) (length (slots tb)) (length (slots eb)) k
        (turns_at m s proto tb) (turns_at m s proto eb) comes1 comes2 x sees_x reaches (both_idle m s proto laws over tb eb) e w c turn has is fit1.needs fit2.needs small st.first st.first_turn in
        let begins' = loops.begins_at n s' proto laws' over o (sees tb o).after (sees eb o).after (emits tb) (emits eb) (each stmt_effect tb) (each stmt_effect eb) (length (slots tb)) (length (slots eb)) k
        (turns_at n s' proto tb) (turns_at n s' proto eb) comes1' comes2' x sees_x reaches' (both_idle n s' proto laws' over tb eb) e v d turn has is fit1.needs_too fit2.needs_too small st.second st.second_turn in
        let ends = inside given.between.reached given'.between.reached begins begins' given.there.placed given.there.words given'.there.words both1 (static_behind guard.acts inner static)
        (subst₂ (λ (p q : Hosts). Hides K t u inner p q) e1 e2 hs.1) (subst₂ (λ (p q : Hosts). OwnAlike K t u inner p q) e1 e2 os.1) xs ys (λ g i. (off g i).1) in
        record {
          knows = acts_on K (GadgetKnows K t u) NoGuard t u guard.acts inner w v told (subst₂ (λ (p q : Hosts). PlanKnows K t u inner p q) (sym e1) (sym e2) ends.knows);
          chooses = acts_on K (λ g p q. Unit {0}) (λ ps p q. is_other ps p ≡ is_other ps q) t u guard.acts inner w v (nothing_along t u guard.acts w v)
              (subst₂ (λ (p q : Hosts). PlanChooses K t u inner p q) (sym e1) (sym e2) ends.chooses);
          rest = ends.rest;
        }

  -- ---- loops

  module _ (body : Block) (f1 : Follows body) (o : Sight) (k : ℕ) (fit : Fitting body o k (emits body).acts_at) (e : E) (w v : Hosts) (c d : SlotState) (is : length e.held ≡ k)
      (tied : Ties m s proto o e w c) (tied' : Ties n s' proto o e v d) (both0 : Both K w v) where
    abbrev ps : List Part
    ps = loop_registers (emits body).acts_at 0 e.next

    abbrev inner : E
    inner = record { next = after_loop_registers (emits body).acts_at 0 e.next; held = e.held; loop = e.next }

    abbrev tree : Plan Gadget
    tree = ((emits body).emit inner).tree

    abbrev at1 : ℕ → Hosts
    at1 i = turns i (λ j x. joint m tree (m.begun ps j x)) w

    abbrev at2 : ℕ → Hosts
    at2 i = turns i (λ j x. joint n tree (n.begun ps j x)) v

    abbrev begun1 : ℕ → Hosts
    begun1 i = m.begun ps i (at1 i)

    abbrev begun2 : ℕ → Hosts
    begun2 i = n.begun ps i (at2 i)

    abbrev clear1 : ℕ → SlotState
    clear1 i = turns i (effect_of body) c

    abbrev clear2 : ℕ → SlotState
    clear2 i = turns i (effect_of body) d

    comes_body : loops.Comes m s proto laws over (emits body) (effect_of body) o (sees body o).after (length (slots body)) (turns_at m s proto body) k
    comes_body = means m s proto laws over body o k fit.row fit.seen fit.fits fit.placed

    comes_body' : loops.Comes n s' proto laws' over (emits body) (effect_of body) o (sees body o).after (length (slots body)) (turns_at n s' proto body) k
    comes_body' = means n s' proto laws' over body o k fit.row fit.seen fit.fits fit.placed_too

    loop_first : (count : ℕ) → count ≤ 2 ^ 32 → After m s proto o o e (for_made (suite_calls hosts) proto count (emits body) e) (length (slots body)) w (turns count (effect_of body) c)
    loop_first count small = loops.loop_after m s proto laws over o (sees body o).after (emits body) (effect_of body) (length (slots body)) k (turns_at m s proto body) comes_body (turns_act m s proto laws over body) e w c is tied count small

    loop_second : (count : ℕ) → count ≤ 2 ^ 32 → After n s' proto o o e (for_made (suite_calls hosts) proto count (emits body) e) (length (slots body)) v (turns count (effect_of body) d)
    loop_second count small = loops.loop_after n s' proto laws' over o (sees body o).after (emits body) (effect_of body) (length (slots body)) k (turns_at n s' proto body) comes_body' (turns_act n s' proto laws' over body) e v d is tied' count small

    -- where a turn begins
    begins : (i : ℕ) → i < 2 ^ 32 → Both K (at1 i) (at2 i) → Static tree → (apart : Apart ps) → Stands o inner (begun1 i) (begun2 i) (clear1 i) (clear2 i) i (emits body).acts_at
    begins i small both static apart =
        let u1 = loops.all_turns m s proto laws over o (sees body o).after (emits body) (effect_of body) (length (slots body)) k (turns_at m s proto body) comes_body (turns_act m s proto laws over body) e w c is tied i (omega arith) in
        let u2 = loops.all_turns n s' proto laws' over o (sees body o).after (emits body) (effect_of body) (length (slots body)) k (turns_at n s' proto body) comes_body' (turns_act n s' proto laws' over body) e v d is tied' i (omega arith) in
        record {
          first = loops.begins m s proto laws over o (sees body o).after (emits body) (effect_of body) (length (slots body)) k (turns_at m s proto body) comes_body (turns_act m s proto laws over body) e w c is tied i small u1;
          first_turn = loops.turning m s proto laws over o (sees body o).after (emits body) (effect_of body) (length (slots body)) k (turns_at m s proto body) comes_body (turns_act m s proto laws over body) e w c is tied i u1;
          second = loops.begins n s' proto laws' over o (sees body o).after (emits body) (effect_of body) (length (slots body)) k (turns_at n s' proto body) comes_body' (turns_act n s' proto laws' over body) e v d is tied' i small u2;
          second_turn = loops.turning n s' proto laws' over o (sees body o).after (emits body) (effect_of body) (length (slots body)) k (turns_at n s' proto body) comes_body' (turns_act n s' proto laws' over body) e v d is tied' i u2;
          both = record {
            first = laws.begun_sound (at1 i) ps i small both.first;
            second = laws'.begun_sound (at2 i) ps i small both.second;
            looks = λ g j. subst₂ (λ (p q : Hosts). LooksAlike g p q) (sym (begun_is t inputs ps apart i (at1 i))) (sym (begun_is u others ps apart i (at2 i))) (begun_alike g ps i (at1 i) (at2 i) (both.looks g j));
          };
        }

    -- what the turns so far came to
    record Turned (i : ℕ) : Type 0 where
      knows : (j : ℕ) → j < i → PlanKnows K t u tree (begun1 j) (begun2 j)
      chooses : (j : ℕ) → j < i → PlanChooses K t u tree (begun1 j) (begun2 j)
      both : Both K (at1 i) (at2 i)

    module _ (static : Static tree) (apart : Apart ps) (count : ℕ) (few_turns : count ≤ 2 ^ 32) (hidden : (i : ℕ) → i < count → Hides K t u tree (begun1 i) (begun2 i))
        (owned : (i : ℕ) → i < count → ((j : ℕ) → j < i → PlanChooses K t u tree (begun1 j) (begun2 j)) → OwnAlike K t u tree (begun1 i) (begun2 i)) where
      turned : (i : ℕ) → i ≤ count → (xs ys : ℕ → List ℕ) → ((g : ℕ) → IsIn K g → heard_in_turns i (heards g body) c ++ xs g ≡ heard_in_turns i (heards g body) d ++ ys g) → Turned i × ((g : ℕ) → IsIn K g → xs g ≡ ys g)
      turned zero le xs ys words = (record { knows = λ j lt. absurd (never j lt); chooses = λ j lt. absurd (never j lt); both = both0 }, words)
        where
          never : (j : ℕ) → j < 0 → ⊥
          never j lt = omega (arith, lt)
      turned (suc i) le xs ys words =
          let c_words : ℕ → List ℕ = λ g. heard_in_order (heards g body) i (turns i (in_order (map run_of (heards g body))) c) in
          let d_words : ℕ → List ℕ = λ g. heard_in_order (heards g body) i (turns i (in_order (map run_of (heards g body))) d) in
          let before = turned i (omega (arith, le)) (λ g. c_words g ++ xs g) (λ g. d_words g ++ ys g)
          (λ g m. regroup (heard_in_turns i (heards g body) c) (c_words g) (heard_in_turns i (heards g body) d) (d_words g) (xs g) (ys g) (words g m)) in
          let lt : i < count = omega (arith, le) in
          let small : i < 2 ^ 32 = omega (arith, lt, few_turns) in
          let st = begins i small before.0.both static apart in
          let same_c : (g : ℕ) → c_words g ≡ heard_in_order (heards g body) i (clear1 i) = λ g. ap (λ (fs : List Effect). heard_in_order (heards g body) i (turns i (in_order fs) c)) (runs_each protocols (host g) l body) in
          let same_d : (g : ℕ) → d_words g ≡ heard_in_order (heards g body) i (clear2 i) = λ g. ap (λ (fs : List Effect). heard_in_order (heards g body) i (turns i (in_order fs) d)) (runs_each protocols (host g) l body) in
          let one = f1 o k (emits body).acts_at fit inner (begun1 i) (begun2 i) (clear1 i) (clear2 i) i is small st static (hidden i lt) (owned i lt before.0.chooses) xs ys
          (λ g m. ap (λ (z : List ℕ). z ++ xs g) (sym (same_c g)) ∙ before.1 g m ∙ ap (λ (z : List ℕ). z ++ ys g) (same_d g)) in
          let a1 = comes_body inner (begun1 i) (clear1 i) i (emits body).acts_at is fit.needs small st.first st.first_turn in
          let a2 = comes_body' inner (begun2 i) (clear2 i) i (emits body).acts_at is fit.needs_too small st.second st.second_turn in (
            record {
              knows = λ j less. at_last j i less (ℕ_discrete j i) (λ z. PlanKnows K t u tree (begun1 z) (begun2 z)) before.0.knows one.knows;
              chooses = λ j less. at_last j i less (ℕ_discrete j i) (λ z. PlanChooses K t u tree (begun1 z) (begun2 z)) before.0.chooses one.chooses;
              both = both_after K t u kin inputs others tree (begun1 i) (begun2 i) (at1 (suc i)) (at2 (suc i)) xs ys static st.both refl a1.goes refl a2.goes (hidden i lt) one;
            },
            one.rest,
          )
        where
          lower : (j i : ℕ) → j < suc i → (j ≡ i → ⊥) → j < i
          lower j i less d = grind (arith)

          at_last : (j i : ℕ) → j < suc i → Dec (j ≡ i) → (P : ℕ → Type 0) → ((j : ℕ) → j < i → P j) → P i → P j
          at_last j i less (yes e) P before here = subst P (sym e) here
          at_last j i less (no d) P before here = before j (lower j i less d)

    loop_ends : (count : ℕ) → count ≤ 2 ^ 32 → Static (Loop ps count tree Ends) → Hides K t u (Loop ps count tree Ends) w v → OwnAlike K t u (Loop ps count tree Ends) w v → (xs ys : ℕ → List ℕ)
        → ((g : ℕ) → IsIn K g → heard_in_turns count (heards g body) c ++ xs g ≡ heard_in_turns count (heards g body) d ++ ys g) → Ends' (Loop ps count tree Ends) w v xs ys
    loop_ends count few_turns static hides owns xs ys words =
        let apart = static.tidy.0.0 in
        let tidy = static.tidy.1.1.0 in
        let P : Hosts → Hosts → Type 0 = λ p q. Hides K t u tree p q in
        let hidden : (i : ℕ) → i < count → Hides K t u tree (begun1 i) (begun2 i) = λ i lt.
        subst₂ P (sym (begun_at t inputs ps apart tree tidy i w)) (sym (begun_at u others ps apart tree tidy i v)) (hidden_at (concerns_or_not ps K) i lt) in
        let here1 = begun_at t inputs ps apart tree tidy in
        let here2 = begun_at u others ps apart tree tidy in
        let owned : (i : ℕ) → i < count → ((j : ℕ) → j < i → PlanChooses K t u tree (begun1 j) (begun2 j)) → OwnAlike K t u tree (begun1 i) (begun2 i) = λ i lt chooses.
        subst₂ (λ (p q : Hosts). OwnAlike K t u tree p q) (sym (here1 i w)) (sym (here2 i v))
        (owned_at (concerns_or_not ps K) i lt (λ j less. subst₂ (λ (p q : Hosts). PlanChooses K t u tree p q) (here1 j w) (here2 j v) (chooses j less))) in
        let all = turned (static_body ps count tree Ends static) apart count few_turns hidden owned count (omega arith) xs ys words in
        record {
          knows = (
            (λ q. both_turns (λ i p z. PlanKnows K t u tree (turn_begun ps i p) (turn_begun ps i z)) (run_turn ps tree t) (run_turn ps tree u) count w v
                (λ i lt. subst₂ (λ (p z : Hosts). PlanKnows K t u tree p z) (here1 i w) (here2 i v) (all.0.knows i lt))),
            tt,
          );
          chooses = (
            (λ q. both_turns (λ i p z. PlanChooses K t u tree (turn_begun ps i p) (turn_begun ps i z)) (run_turn ps tree t) (run_turn ps tree u) count w v
                (λ i lt. subst₂ (λ (p z : Hosts). PlanChooses K t u tree p z) (here1 i w) (here2 i v) (all.0.chooses i lt))),
            tt,
          );
          rest = all.1;
        }
      where
        hidden_at : Concerns ps K ⊎ (Concerns ps K → ⊥) → (i : ℕ) → i < count
            → Hides K t u tree (turn_begun ps i (code_turns (run_turn ps tree t) i 0 w)) (turn_begun ps i (code_turns (run_turn ps tree u) i 0 v))
        hidden_at (inl q) i lt = each_turn (λ i p z. Hides K t u tree (turn_begun ps i p) (turn_begun ps i z)) (run_turn ps tree t) (run_turn ps tree u) count w v (hides.0 q) i lt
        hidden_at (inr out) i lt =
            let x : Hosts = turn_begun ps i (code_turns (run_turn ps tree t) i 0 w) in
            let z : Hosts = turn_begun ps i (code_turns (run_turn ps tree u) i 0 v) in
            idle K t u ps tree static.tidy.0.1 out x z (idle_hides K ps out t u tree static.tidy.0.1 x z)

        owned_at : Concerns ps K ⊎ (Concerns ps K → ⊥) → (i : ℕ) → i < count
            → ((j : ℕ) → j < i → PlanChooses K t u tree (turn_begun ps j (code_turns (run_turn ps tree t) j 0 w)) (turn_begun ps j (code_turns (run_turn ps tree u) j 0 v)))
            → OwnAlike K t u tree (turn_begun ps i (code_turns (run_turn ps tree t) i 0 w)) (turn_begun ps i (code_turns (run_turn ps tree u) i 0 v))
        owned_at (inl q) i lt chooses = own_turn K t u ps count tree w v q owns i lt chooses
        owned_at (inr out) i lt chooses = own_idle K t u ps tree static.tidy.0.1 out (turn_begun ps i (code_turns (run_turn ps tree t) i 0 w)) (turn_begun ps i (code_turns (run_turn ps tree u) i 0 v))

  -- ---- all statements

  array_below : (right : Right) → right_below (length protocols) right ≡ true → (a i : SlotId) → right ≡ Get a i → a.0 < length protocols
  array_below right low a i e = below (length protocols) a (and_left (is_below (length protocols) a) (is_below (length protocols) i) (subst (λ (r : Right). right_below (length protocols) r ≡ true) e low))

  pub follows : (b : Block) → Follows b
  follows End o k has fit e w v c d turn is small st static hides owns xs ys words = record { knows = tt; chooses = tt; rest = words }
  follows (Let x right rest) o k has fit e w v c d turn is small st static hides owns xs ys words =
      let here = and_left (is_below (length protocols) x && right_below (length protocols) right) (low_block rest) fit.low in
      let sees_right = and_left _ _ fit.seen in
      let made = right_made (suite_calls hosts) proto (proto x.0) right e in
      let c1 = with_word x (right_word right turn c) (in_world (after_right right c.world) c) in
      let d1 = with_word x (right_word right turn d) (in_world (after_right right d.world) d) in
      let a1 = let_after m s proto laws over o e w c turn has x right st.first (fit.row.0 ∙ sym is) sees_right fit.fits.0 fit.placed.0 small (λ i g p. fit.needs g (turn_here m s proto laws over x right rest g i p)) st.first_turn in
      let a2 = let_after n s' proto laws' over o e v d turn has x right st.second (fit.row.0 ∙ sym is) sees_right fit.fits.0 fit.placed_too.0 small (λ i g p. fit.needs_too g (turn_here n s' proto laws' over x right rest g i p)) st.second_turn in
      let off : (g : ℕ) → IsIn K g → RightAgrees protocols (host g) x right c d × (heard_in_order (heards g rest) turn c1 ++ xs g ≡ heard_in_order (heards g rest) turn d1 ++ ys g) = λ g i.
      right_off protocols (host g) x right c d (heard_in_order (heards g rest) turn c1 ++ xs g) (heard_in_order (heards g rest) turn d1 ++ ys g)
      (regroup (right_heard protocols (host g) x right c) (heard_in_order (heards g rest) turn c1) (right_heard protocols (host g) x right d) (heard_in_order (heards g rest) turn d1) (xs g) (ys g) (words g i)) in
      go_on rest (follows rest) o (with_use Binding x.0 o) e (with_parts (suite_calls hosts) proto made e) 1 k has
      (record {
        row = fit.row.1;
        seen = and_right _ _ fit.seen;
        fits = fit.fits.1;
        placed = fit.placed.1;
        placed_too = fit.placed_too.1;
        low = and_right (is_below (length protocols) x && right_below (length protocols) right) (low_block rest) fit.low;
        needs = λ g p. fit.needs g (turn_later m s proto laws over x right rest g p);
        needs_too = λ g p. fit.needs_too g (turn_later n s' proto laws' over x right rest g p);
      })
      w v c d c1 d1 turn is small st a1 a2 static hides owns xs ys
      (λ alone some mine.
      acts_concluded K t u kin inputs others made.acts w v (λ g. heard_in_order (heards g rest) turn c1 ++ xs g) (λ g. heard_in_order (heards g rest) turn d1 ++ ys g) alone st.both some mine
      (right_tells K few t u kin inputs others hosts protocols laws laws' over opens o e w v c d st.first st.second x right (below (length protocols) x (and_left (is_below (length protocols) x) (right_below (length protocols) right) here)) sees_right fit.placed.0
      (array_below right (and_right (is_below (length protocols) x) (right_below (length protocols) right) here)) (λ g i. (off g i).0)) (λ g i. (off g i).1))
  follows (NewVar a y rest) o k has fit e w v c d turn is small st static hides owns xs ys words =
      let here = and_left (is_below (length protocols) a && is_below (length protocols) y) (low_block rest) fit.low in
      let sees_y = and_left _ _ fit.seen in
      let moved = (suite_calls hosts).move (proto y.0) (proto a.0) (part m s proto e.held y.0) e.next in
      let kept = (suite_calls hosts).keep (proto a.0) moved.given moved.next in
      let c1 = with_word a (word_at c y) c in
      let d1 = with_word a (word_at d y) d in
      let a1 = var_after m s proto laws over o e w c a y st.first (fit.row.0 ∙ sym is) sees_y fit.placed.0 fit.placed.1 in
      let a2 = var_after n s' proto laws' over o e v d a y st.second (fit.row.0 ∙ sym is) sees_y fit.placed_too.0 fit.placed_too.1 in
      let off : (g : ℕ) → IsIn K g → (comes protocols (host g) y a ≡ true → word_at c y ≡ word_at d y) × (heard_in_order (heards g rest) turn c1 ++ xs g ≡ heard_in_order (heards g rest) turn d1 ++ ys g) = λ g i.
      one_off (comes protocols (host g) y a) (word_at c y) (word_at d y) (heard_in_order (heards g rest) turn c1 ++ xs g) (heard_in_order (heards g rest) turn d1 ++ ys g)
      (regroup (word_if (comes protocols (host g) y a) (word_at c y)) (heard_in_order (heards g rest) turn c1) (word_if (comes protocols (host g) y a) (word_at d y)) (heard_in_order (heards g rest) turn d1) (xs g) (ys g) (words g i)) in
      go_on rest (follows rest) o (with_use Variable a.0 o) e (with_parts (suite_calls hosts) proto (record { given = kept.given; acts = moved.acts ++ kept.acts; next = kept.next }) e) 1 k has
      (record {
        row = fit.row.1;
        seen = and_right _ _ fit.seen;
        fits = fit.fits;
        placed = fit.placed.2;
        placed_too = fit.placed_too.2;
        low = and_right (is_below (length protocols) a && is_below (length protocols) y) (low_block rest) fit.low;
        needs = fit.needs;
        needs_too = fit.needs_too;
      })
      w v c d c1 d1 turn is small st a1 a2 static hides owns xs ys
      (λ alone some mine.
      acts_concluded K t u kin inputs others (moved.acts ++ kept.acts) w v (λ g. heard_in_order (heards g rest) turn c1 ++ xs g) (λ g. heard_in_order (heards g rest) turn d1 ++ ys g) alone st.both some mine
      (telling_on K t u kin moved.acts kept.acts w v (after t moved.acts w) (after u moved.acts v) refl refl
      (word_tells K few t u kin inputs others hosts protocols laws laws' over opens o e w v c d st.first st.second y a (below (length protocols) a (and_left (is_below (length protocols) a) (is_below (length protocols) y) here)) sees_y fit.placed.1 (λ g i. (off g i).0))
      (telling_quiet K t u kin kept.acts (after t moved.acts w) (after u moved.acts v) (all_quiet kept.acts (keep_ordinary (proto a.0) moved.given.at moved.next)))) (λ g i. (off g i).1))
  follows (NewArray a size rest) o k has fit e w v c d turn is small st static hides owns xs ys words =
      let made = (suite_calls hosts).cells (proto a.0) size e.next in
      let c1 = with_array a (replicate size 0) c in
      let d1 = with_array a (replicate size 0) d in
      let a1 = array_after m s proto laws over o e w c a size st.first (fit.row.0 ∙ sym is) fit.placed.0 in
      let a2 = array_after n s' proto laws' over o e v d a size st.second (fit.row.0 ∙ sym is) fit.placed_too.0 in
      go_on rest (follows rest) o (with_use Array a.0 o) e (with_parts (suite_calls hosts) proto made e) 1 k has
      (record {
        row = fit.row.1;
        seen = fit.seen;
        fits = fit.fits;
        placed = fit.placed.1;
        placed_too = fit.placed_too.1;
        low = and_right _ _ fit.low;
        needs = fit.needs;
        needs_too = fit.needs_too;
      })
      w v c d c1 d1 turn is small st a1 a2 static hides owns xs ys
      (λ alone some mine.
      acts_concluded K t u kin inputs others made.acts w v (λ g. heard_in_order (heards g rest) turn c1 ++ xs g) (λ g. heard_in_order (heards g rest) turn d1 ++ ys g) alone st.both some mine
      (telling_quiet K t u kin made.acts w v (all_quiet made.acts (cells_ordinary (proto a.0) size e.next))) words)
  follows (Store a y rest) o k has fit e w v c d turn is small st static hides owns xs ys words =
      let here = and_left (is_below (length protocols) a && is_below (length protocols) y) (low_block rest) fit.low in
      let seen_here = and_left _ _ fit.seen in
      let moved = (suite_calls hosts).move (proto y.0) (proto a.0) (part m s proto e.held y.0) e.next in
      let acts = (suite_calls hosts).renew (proto a.0) (part m s proto e.held a.0) moved.given in
      let c1 = with_word a (word_at c y) c in
      let d1 = with_word a (word_at d y) d in
      let a1 = store_after m s proto laws over o e w c a y st.first (and_left _ _ seen_here) (and_right _ _ seen_here) fit.placed.0 fit.placed.1 in
      let a2 = store_after n s' proto laws' over o e v d a y st.second (and_left _ _ seen_here) (and_right _ _ seen_here) fit.placed_too.0 fit.placed_too.1 in
      let off : (g : ℕ) → IsIn K g → (comes protocols (host g) y a ≡ true → word_at c y ≡ word_at d y) × (heard_in_order (heards g rest) turn c1 ++ xs g ≡ heard_in_order (heards g rest) turn d1 ++ ys g) = λ g i.
      one_off (comes protocols (host g) y a) (word_at c y) (word_at d y) (heard_in_order (heards g rest) turn c1 ++ xs g) (heard_in_order (heards g rest) turn d1 ++ ys g)
      (regroup (word_if (comes protocols (host g) y a) (word_at c y)) (heard_in_order (heards g rest) turn c1) (word_if (comes protocols (host g) y a) (word_at d y)) (heard_in_order (heards g rest) turn d1) (xs g) (ys g) (words g i)) in
      go_on rest (follows rest) o o e (store_made (suite_calls hosts) proto a y e) 0 k has
      (record {
        row = no_slots m s proto laws over k _ fit.row;
        seen = and_right _ _ fit.seen;
        fits = fit.fits;
        placed = fit.placed.2;
        placed_too = fit.placed_too.2;
        low = and_right (is_below (length protocols) a && is_below (length protocols) y) (low_block rest) fit.low;
        needs = fit.needs;
        needs_too = fit.needs_too;
      })
      w v c d c1 d1 turn is small st a1 a2 static hides owns xs ys
      (λ alone some mine.
      acts_concluded K t u kin inputs others (moved.acts ++ acts) w v (λ g. heard_in_order (heards g rest) turn c1 ++ xs g) (λ g. heard_in_order (heards g rest) turn d1 ++ ys g) alone st.both some mine
      (telling_on K t u kin moved.acts acts w v (after t moved.acts w) (after u moved.acts v) refl refl
      (word_tells K few t u kin inputs others hosts protocols laws laws' over opens o e w v c d st.first st.second y a (below (length protocols) a (and_left (is_below (length protocols) a) (is_below (length protocols) y) here)) (and_right _ _ seen_here) fit.placed.1 (λ g i. (off g i).0))
      (telling_quiet K t u kin acts (after t moved.acts w) (after u moved.acts v) (all_quiet acts (renew_ordinary (proto a.0) (part m s proto e.held a.0).at moved.given.at)))) (λ g i. (off g i).1))
  follows (Put a i y rest) o k has fit e w v c d turn is small st static hides owns xs ys words =
      let here = and_left _ _ fit.low in
      let below_a = below (length protocols) a (and_left _ _ (and_left _ _ here)) in
      let seen_here = and_left _ _ fit.seen in
      let sees_a = and_left _ _ (and_left _ _ seen_here) in
      let sees_i = and_right _ _ (and_left _ _ seen_here) in
      let sees_y = and_right _ _ seen_here in
      let index = delivered (suite_calls hosts) proto (proto i.0) (part m s proto e.held i.0) (holders_among (suite_calls hosts) (proto a.0)) e.next in
      let moved = (suite_calls hosts).move (proto y.0) (proto a.0) (part m s proto e.held y.0) index.next in
      let acts = (suite_calls hosts).put (proto a.0) (part m s proto e.held a.0) index.given moved.given in
      let c1 = with_array a (slice_set (array_at c a) (word_at c i) (word_at c y)) c in
      let d1 = with_array a (slice_set (array_at d a) (word_at d i) (word_at d y)) d in
      let a1 = put_after m s proto laws over o e w c a i y st.first sees_a sees_i sees_y fit.placed.0 fit.placed.1 fit.placed.2 in
      let a2 = put_after n s' proto laws' over o e v d a i y st.second sees_a sees_i sees_y fit.placed_too.0 fit.placed_too.1 fit.placed_too.2 in
      let b1 = (index_reached m s proto laws over o e.next e.held w c st.first a i sees_i fit.placed.2).between in
      let b2 = (index_reached n s' proto laws' over o e.next e.held v d st.second a i sees_i fit.placed_too.2).between in
      let t1 = tied_past m s proto laws o e.next index.next e.held w b1.reached c index.acts st.first b1.leads b1.quiet b1.known b1.longer in
      let t2 = tied_past n s' proto laws' o e.next index.next e.held v b2.reached d index.acts st.second b2.leads b2.quiet b2.known b2.longer in
      let ic : ℕ → List ℕ = λ g. word_if (index_comes protocols (host g) a i) (word_at c i) in
      let id : ℕ → List ℕ = λ g. word_if (index_comes protocols (host g) a i) (word_at d i) in
      let wc : ℕ → List ℕ = λ g. word_if (comes protocols (host g) y a) (word_at c y) in
      let wd : ℕ → List ℕ = λ g. word_if (comes protocols (host g) y a) (word_at d y) in
      let rc : ℕ → List ℕ = λ g. heard_in_order (heards g rest) turn c1 in
      let rd : ℕ → List ℕ = λ g. heard_in_order (heards g rest) turn d1 in
      let first : (g : ℕ) → IsIn K g → (index_comes protocols (host g) a i ≡ true → word_at c i ≡ word_at d i) × (wc g ++ (rc g ++ xs g) ≡ wd g ++ (rd g ++ ys g)) = λ g m.
      one_off (index_comes protocols (host g) a i) (word_at c i) (word_at d i) (wc g ++ (rc g ++ xs g)) (wd g ++ (rd g ++ ys g))
      (regroup (ic g) (wc g) (id g) (wd g) (rc g ++ xs g) (rd g ++ ys g) (regroup (ic g ++ wc g) (rc g) (id g ++ wd g) (rd g) (xs g) (ys g) (words g m))) in
      let off : (g : ℕ) → IsIn K g → (comes protocols (host g) y a ≡ true → word_at c y ≡ word_at d y) × (rc g ++ xs g ≡ rd g ++ ys g) = λ g m.
      one_off (comes protocols (host g) y a) (word_at c y) (word_at d y) (rc g ++ xs g) (rd g ++ ys g) (first g m).1 in
      go_on rest (follows rest) o o e (put_made (suite_calls hosts) proto a i y e) 0 k has
      (record {
        row = no_slots m s proto laws over k _ fit.row;
        seen = and_right _ _ fit.seen;
        fits = fit.fits;
        placed = fit.placed.3;
        placed_too = fit.placed_too.3;
        low = and_right _ _ fit.low;
        needs = fit.needs;
        needs_too = fit.needs_too;
      })
      w v c d c1 d1 turn is small st a1 a2 static hides owns xs ys
      (λ alone some mine.
      acts_concluded K t u kin inputs others ((index.acts ++ moved.acts) ++ acts) w v (λ g. rc g ++ xs g) (λ g. rd g ++ ys g) alone st.both some mine
      (telling_on K t u kin (index.acts ++ moved.acts) acts w v (after t (index.acts ++ moved.acts) w) (after u (index.acts ++ moved.acts) v) refl refl
      (telling_on K t u kin index.acts moved.acts w v b1.reached b2.reached (same_run t inputs index.acts w ∙ b1.leads.runs) (same_run u others index.acts v ∙ b2.leads.runs)
      (index_tells K few t u kin inputs others hosts protocols laws laws' over opens o e w v c d st.first st.second a i below_a sees_i fit.placed.2 (λ g m. (first g m).0))
      (word_tells K few t u kin inputs others hosts protocols laws laws' over opens o (record { next = index.next; held = e.held; loop = e.loop }) b1.reached b2.reached c d t1 t2 y a below_a sees_y fit.placed.1 (λ g m. (off g m).0)))
      (telling_quiet K t u kin acts (after t (index.acts ++ moved.acts) w) (after u (index.acts ++ moved.acts) v) (all_quiet acts (put_ordinary (proto a.0) (part m s proto e.held a.0) index.given moved.given.at)))) (λ g i. (off g i).1))
  follows (Output y g offset rest) o k has fit e w v c d turn is small st static hides owns xs ys words =
      let sees_y = and_left _ _ fit.seen in
      let moved = (suite_calls hosts).move (proto y.0) (Local g) (part m s proto e.held y.0) e.next in
      let acts = (suite_calls hosts).output g moved.given in
      let c1 = in_world (after_output c.world g.0 (word_at c y)) c in
      let d1 = in_world (after_output d.world g.0 (word_at d y)) d in
      let a1 = output_after m s proto laws over o e w c y g st.first sees_y fit.fits.0 fit.placed.0 in
      let a2 = output_after n s' proto laws' over o e v d y g st.second sees_y fit.fits.0 fit.placed_too.0 in
      let test : ℕ → Bool = λ f. same_host (host f) g && comes_alone protocols (host f) y in
      let off : (f : ℕ) → IsIn K f → (test f ≡ true → word_at c y ≡ word_at d y) × (heard_in_order (heards f rest) turn c1 ++ xs f ≡ heard_in_order (heards f rest) turn d1 ++ ys f) = λ f i.
      one_off (test f) (word_at c y) (word_at d y) (heard_in_order (heards f rest) turn c1 ++ xs f) (heard_in_order (heards f rest) turn d1 ++ ys f)
      (regroup (word_if (test f) (word_at c y)) (heard_in_order (heards f rest) turn c1) (word_if (test f) (word_at d y)) (heard_in_order (heards f rest) turn d1) (xs f) (ys f) (words f i)) in
      go_on rest (follows rest) o o e (output_made (suite_calls hosts) proto y g e) 0 k has
      (record {
        row = no_slots m s proto laws over k _ fit.row;
        seen = and_right _ _ fit.seen;
        fits = fit.fits.1;
        placed = fit.placed.1;
        placed_too = fit.placed_too.1;
        low = and_right _ _ fit.low;
        needs = fit.needs;
        needs_too = fit.needs_too;
      })
      w v c d c1 d1 turn is small st a1 a2 static hides owns xs ys
      (λ alone some mine.
      acts_concluded K t u kin inputs others (moved.acts ++ acts) w v (λ g. heard_in_order (heards g rest) turn c1 ++ xs g) (λ g. heard_in_order (heards g rest) turn d1 ++ ys g) alone st.both some mine
      (telling_on K t u kin moved.acts acts w v (after t moved.acts w) (after u moved.acts v) refl refl
      (moved_tells K few t u kin inputs others hosts protocols laws laws' over opens o e.next e.held w v c d st.first st.second y sees_y (Local g) tt fit.placed.0
      (λ f i same own.
      same_alone K few t u kin inputs others hosts protocols laws laws' over opens f i y (part m s proto e.held y.0) w v (word_at c y) (word_at d y) same (st.first.stands Binding y.0 sees_y) (st.second.stands Binding y.0 sees_y)
      (when_both (same_host (host f) g) (comes_alone protocols (host f) y) (eq-eqb f g.0 own) (off f i).0)))
      (telling_quiet K t u kin acts (after t moved.acts w) (after u moved.acts v) (all_quiet acts (output_ordinary g moved.given.at)))) (λ g i. (off g i).1))
  follows (If x tb eb offset rest) o k has fit e w v c d turn is small st static hides owns xs ys words =
      let seen_here = and_left _ _ fit.seen in
      let row1 = row_front k (slots tb ++ slots eb) (slots rest) fit.row in
      let row2 = row_back k (slots tb ++ slots eb) (slots rest) fit.row in
      let low_if = and_left _ _ fit.low in
      let fit1 : Fitting tb o k has = record {
        row = row_front k (slots tb) (slots eb) row1;
        seen = and_right _ _ (and_left _ _ seen_here);
        fits = fit.fits.0;
        placed = fit.placed.1;
        placed_too = fit.placed_too.1;
        low = and_right _ _ (and_left _ _ low_if);
        needs = λ g p. fit.needs g (or_left _ _ (or_left _ _ p));
        needs_too = λ g p. fit.needs_too g (or_left _ _ (or_left _ _ p));
      } in
      let fit2 : Fitting eb o (k + length (slots tb)) has = record {
        row = row_back k (slots tb) (slots eb) row1;
        seen = and_right _ _ seen_here;
        fits = fit.fits.1;
        placed = fit.placed.2;
        placed_too = fit.placed_too.2;
        low = and_right _ _ low_if;
        needs = λ g p. fit.needs g (or_left _ _ (or_right _ _ p));
        needs_too = λ g p. fit.needs_too g (or_left _ _ (or_right _ _ p));
      } in
      let sees_x = and_left _ _ (and_left _ _ seen_here) in
      let c1 = in_order (if nat_eq (word_at c x) 0 then each stmt_effect eb else each stmt_effect tb) turn c in
      let d1 = in_order (if nat_eq (word_at d x) 0 then each stmt_effect eb else each stmt_effect tb) turn d in
      let a1 = after_first tb eb (follows tb) (follows eb) x o k has fit1 fit2 sees_x fit.placed.0 fit.placed_too.0 e w v c d turn is small st in
      let a2 = after_second tb eb (follows tb) (follows eb) x o k has fit1 fit2 sees_x fit.placed.0 fit.placed_too.0 e w v c d turn is small st in
      let test : ℕ → Bool = λ g. is_part protocols (host g) x (heards g tb) (heards g eb) && comes_alone protocols (host g) x in
      let rest_of : ℕ → SlotState → List Effect → List Effect → List ℕ = λ f z gs fs. heard_in_order (heards f rest) turn (in_order (if nat_eq (word_at z x) 0 then fs else gs) turn z) in
      let same_c : (f : ℕ) → rest_of f c (map run_of (heards f tb)) (map run_of (heards f eb)) ≡ heard_in_order (heards f rest) turn c1 = λ f.
      ap₂ (λ (gs fs : List Effect). rest_of f c gs fs) (runs_each protocols (host f) l tb) (runs_each protocols (host f) l eb) in
      let same_d : (f : ℕ) → rest_of f d (map run_of (heards f tb)) (map run_of (heards f eb)) ≡ heard_in_order (heards f rest) turn d1 = λ f.
      ap₂ (λ (gs fs : List Effect). rest_of f d gs fs) (runs_each protocols (host f) l tb) (runs_each protocols (host f) l eb) in
      let of_c : ℕ → List ℕ = λ f. word_if (test f) (word_at c x) ++ heard_in_order (if nat_eq (word_at c x) 0 then heards f eb else heards f tb) turn c in
      let of_d : ℕ → List ℕ = λ f. word_if (test f) (word_at d x) ++ heard_in_order (if nat_eq (word_at d x) 0 then heards f eb else heards f tb) turn d in
      let agree : (f : ℕ) → IsIn K f → of_c f ++ (heard_in_order (heards f rest) turn c1 ++ xs f) ≡ of_d f ++ (heard_in_order (heards f rest) turn d1 ++ ys f) = λ f i.
      ap (λ (z : List ℕ). of_c f ++ (z ++ xs f)) (sym (same_c f))
      ∙ regroup (of_c f) (rest_of f c (map run_of (heards f tb)) (map run_of (heards f eb))) (of_d f) (rest_of f d (map run_of (heards f tb)) (map run_of (heards f eb))) (xs f) (ys f) (words f i)
      ∙ ap (λ (z : List ℕ). of_d f ++ (z ++ ys f)) (same_d f) in
      go_on rest (follows rest) o o e (if_made (suite_calls hosts) proto x (emits tb) (emits eb) e) (length (slots tb) + length (slots eb)) k has
      (record {
        row = subst (λ z. InRow (k + z) (slots rest)) (length-append (slots tb) (slots eb)) row2;
        seen = and_right _ _ fit.seen;
        fits = fit.fits.2;
        placed = fit.placed.3;
        placed_too = fit.placed_too.3;
        low = and_right _ _ fit.low;
        needs = λ g p. fit.needs g (or_right _ _ p);
        needs_too = λ g p. fit.needs_too g (or_right _ _ p);
      })
      w v c d c1 d1 turn is small st a1 a2 static hides owns xs ys
      (λ alone some mine.
      branch_ends tb eb (follows tb) (follows eb) x o k has fit1 fit2 sees_x fit.placed.0 fit.placed_too.0 e w v c d turn is small st alone some mine (λ f. heard_in_order (heards f rest) turn c1 ++ xs f) (λ f. heard_in_order (heards f rest) turn d1 ++ ys f) agree)
  follows (For count body rest) o k has fit e w v c d turn is small st static hides owns xs ys words =
      let row1 = row_front k (slots body) (slots rest) fit.row in
      let row2 = row_back k (slots body) (slots rest) fit.row in
      let fit1 : Fitting body o k (emits body).acts_at = record {
        row = row1;
        seen = and_left _ _ fit.seen;
        fits = fit.fits.1;
        placed = fit.placed.0;
        placed_too = fit.placed_too.0;
        low = and_left (low_block body) (low_block rest) fit.low;
        needs = turns_act m s proto laws over body;
        needs_too = turns_act n s' proto laws' over body;
      } in
      let c1 = turns count (effect_of body) c in
      let d1 = turns count (effect_of body) d in
      let a1 = loop_first body (follows body) o k fit1 e w v c d is st.first st.second st.both count fit.fits.0 in
      let a2 = loop_second body (follows body) o k fit1 e w v c d is st.first st.second st.both count fit.fits.0 in
      let rest_of : ℕ → SlotState → List Effect → List ℕ = λ f z fs. heard_in_order (heards f rest) turn (turns count (in_order fs) z) in
      let same_c : (f : ℕ) → rest_of f c (map run_of (heards f body)) ≡ heard_in_order (heards f rest) turn c1 = λ f. ap (rest_of f c) (runs_each protocols (host f) l body) in
      let same_d : (f : ℕ) → rest_of f d (map run_of (heards f body)) ≡ heard_in_order (heards f rest) turn d1 = λ f. ap (rest_of f d) (runs_each protocols (host f) l body) in
      let of_c : ℕ → List ℕ = λ f. heard_in_turns count (heards f body) c in
      let of_d : ℕ → List ℕ = λ f. heard_in_turns count (heards f body) d in
      let agree : (f : ℕ) → IsIn K f → of_c f ++ (heard_in_order (heards f rest) turn c1 ++ xs f) ≡ of_d f ++ (heard_in_order (heards f rest) turn d1 ++ ys f) = λ f i.
      ap (λ (z : List ℕ). of_c f ++ (z ++ xs f)) (sym (same_c f)) ∙ regroup (of_c f) (rest_of f c (map run_of (heards f body))) (of_d f) (rest_of f d (map run_of (heards f body))) (xs f) (ys f) (words f i) ∙ ap (λ (z : List ℕ). of_d f ++ (z ++ ys f)) (same_d f) in
      go_on rest (follows rest) o o e (for_made (suite_calls hosts) proto count (emits body) e) (length (slots body)) k has
      (record {
        row = row2;
        seen = and_right _ _ fit.seen;
        fits = fit.fits.2;
        placed = fit.placed.1;
        placed_too = fit.placed_too.1;
        low = and_right (low_block body) (low_block rest) fit.low;
        needs = fit.needs;
        needs_too = fit.needs_too;
      })
      w v c d c1 d1 turn is small st a1 a2 static hides owns xs ys
      (λ alone some mine.
      loop_ends body (follows body) o k fit1 e w v c d is st.first st.second st.both count fit.fits.0 alone some mine (λ f. heard_in_order (heards f rest) turn c1 ++ xs f) (λ f. heard_in_order (heards f rest) turn d1 ++ ys f) agree)
