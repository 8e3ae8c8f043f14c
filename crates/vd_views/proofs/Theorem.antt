-- Other inputs that agree for a coalition are explained to it by another deal.
use Rattle.std.proofs.Common.{◌≡◌, ℕ, zero, suc, ◌^◌, ◌<◌, ◌≤◌, ◌+◌, ◌-◌, ◌≢◌, ◌⊎◌, nat_eq, nat_lt, ◌&&◌, ◌||◌, not, true, false, true≢false, List, [], ◌∷◌, ◌++◌, inl, inr, length, drop, slice_index, refl, sym, ap, subst, ◌∙◌, arith, lit<, Bool, if◌then◌else◌, subst₂}
use Rattle.std.specs.List.{concat, list_all}
use Rattle.std.proofs.lemmas.Bool.{eq-eqb}
use Rattle.std.proofs.lemmas.Bool.Decides.{eqb_tells}
use native.Mathlib.Decide.{ℕ_discrete}
use mathlib.Core.Path.{fun_ext}
use Rattle.vd_base.specs.HostSets.{host}
use Rattle.vd_base.specs.declared.protocols.Proto.{Proto}
use Rattle.vd_base.specs.declared.protocols.Proto.TheVariants.{Local, Rep, Commit, Add, Xor}
use Rattle.vd_base.specs.Holders.{proto_in}
use Rattle.vd_core.specs.declared.normal.NormalForm.{NormalForm}
use Rattle.vd_core.specs.Facts.{nothing_seen, Seeing, slots_step, seeing_step, seeing_all}
use Rattle.vd_constraints.specs.declared.labels.Labels.{Labels}
use Rattle.vd_constraints.specs.Scoped.{stmt_below}
use Rattle.vd_constraints.proofs.Front.{well_made_scoped}
use Rattle.vd_execution.specs.Registers.{nth}
use Rattle.vd_execution.specs.Step.{Source, Inputs, OwnWords, Triples, BitTriples, Pairs}
use Rattle.vd_execution.specs.World.{Tape}
use Rattle.vd_execution.specs.Deals.{IsValidDeal}
use Rattle.vd_execution.specs.Joint.{Part, TakesPart, fresh, IsSmooth, joint}
use Rattle.vd_execution.specs.Gadgets.{Gadget}
use Rattle.vd_execution.specs.Plans.{Plan, joint_of, PlanIsWithin, PlanIsTidy}
use Rattle.vd_split.specs.Block.{Block, block_of, each}
use Rattle.vd_split.specs.Suite.{Laws}
use Rattle.vd_split.specs.Emission.{Emitting, Emission, in_turn, stmt_emission, emitting_at_start}
use Rattle.vd_split.specs.Outcome.{Starts}
use Rattle.vd_split.specs.ChoreographyPlaces.{is_part}
use Rattle.vd_split.proofs.Front.{and_left, fold_each, or_left, or_right, row_of, slots, program_within, all_fit, no_turns, tied_at_start}
use Rattle.vd_backend_laws.specs.Machine.{machine}
use Rattle.vd_backend_laws.specs.Parts.{has_back_end, suite_calls}
use Rattle.vd_backend_laws.specs.Suite.{IsOver, suite}
use Rattle.vd_backend_laws.specs.Whole.{inputs_of, CanRun, RunsAsToldBy}
use Rattle.vd_backend_laws.specs.Given.{zero_deal}
use Rattle.vd_backend_laws.proofs.Front.{no_back_end, zero_deals_are_valid, suite_laws, suite_places, within}
use Rattle.vd_projection.specs.Assignments.{IsValidFor}
use Rattle.vd_projection.proofs.Front.{can_run, each_has, assignments_tell_the_same}
use Rattle.vd_views.specs.Views.{Coalition, IsIn, IsOut, alone, everyone}
use Rattle.vd_views.specs.Plans.{PlanChooses}
use Rattle.vd_views.specs.Hiding.{IsAnotherDeal}
use Rattle.vd_views.specs.Hides.{Hides}
use Rattle.vd_views.specs.Moved.{Moves, stays, moved_by, places, AsFar, OwnAlike}
use Rattle.vd_views.specs.Excused.{excused}
use Rattle.vd_views.specs.Contract.{with_inputs, moves_between, moved_deal, HasInputs, ChooseBranches, Explains, CanBeExcused, IsExplained}
use Rattle.vd_views.proofs.Moved.{moves_well}
use Rattle.vd_views.proofs.Places.{places_rise, all_sight, places_same}
use Rattle.vd_views.proofs.Contract.{fresh_sound, own_part, none_moves, with_inputs_valid, explained}
use Rattle.vd_views.proofs.WayBack.{first_again}
use Rattle.vd_noninter.specs.Reading.{start}
use Rattle.vd_noninter_protocols.specs.Hearing.{Heard, heard_step, heard_in_order}
use Rattle.vd_noninter_protocols.specs.Told.{IsDealt}
use Rattle.vd_views.specs.Sides.{AreKin, Both, IsBoundWithin, IsOpenAt, OwnsInSight, OnlyOutside, AreBelow}
use Rattle.vd_views.proofs.ViewsBackendsPlans.{one_outside}
use Rattle.vd_views.specs.Explained.{IsFree, IsOpen, IsCoalition, plan_of, input_words, AgreeFor, InputsChooseBranches, OthersAreExplained, ExplainedBack, OwnWordsStay, AllButOneLook, OneOfTwoLooks}
use Rattle.vd_views.proofs.Coalitions.{in_or_out}
use Rattle.vd_views.proofs.Plain.{plan_plain}
use Rattle.vd_views.proofs.Steps.{Static, Concluded}
use Rattle.vd_views.proofs.ViewsProgramsBlocks.{Fitting, follows}
use Rattle.vd_views.proofs.Aligned.{Fitting as FitsBoth, aligned}

all_dropped : (xs : List ℕ) → drop 0 xs ≡ xs
all_dropped [] = refl
all_dropped (x ∷ xs) = refl

-- the first hosts, each with a register
first_ones : ℕ → ℕ → List Part
first_ones k zero = []
first_ones k (suc n) = (k, 0) ∷ first_ones (k + 1) n

is_first : (k n g : ℕ) → k ≤ g → g < k + n → is_part (first_ones k n) g ≡ true
unfolding first_ones
is_first k zero g le lt = absurd (omega (arith, le, lt))
is_first k (suc n) g le lt = at (is_first (k + 1) n g) (ℕ_discrete g k)
  where
    higher : g ≢ k → k + 1 ≤ g
    higher d = grind (arith)

    at : (k + 1 ≤ g → g < k + 1 + n → is_part (first_ones (k + 1) n) g ≡ true) → Dec (g ≡ k) → (nat_eq g k || is_part (first_ones (k + 1) n) g) ≡ true
    at ih (yes e) = or_left (nat_eq g k) (is_part (first_ones (k + 1) n) g) (eq-eqb g k e)
    at ih (no d) = or_right (nat_eq g k) (is_part (first_ones (k + 1) n) g) (ih (higher d) (omega (arith, lt)))

first_below : (k n g : ℕ) → TakesPart (first_ones k n) g → g < k + n
unfolding first_ones
first_below k zero g i = absurd i
first_below k (suc n) g (inl e) = omega (arith, e)
first_below k (suc n) g (inr i) = let q = first_below (k + 1) n g i in omega (arith, q)

one_item : (xs : List ℕ) (v : ℕ) → length xs ≡ 1 → nth xs 0 ≡ v → xs ≡ v ∷ []
one_item [] v e f = absurd (omega arith)
one_item (x ∷ []) v e f = ap (λ z. z ∷ []) f
one_item (x ∷ y ∷ xs) v e f = absurd (omega arith)

-- ---- who is bound

-- where one host alone is outside, of two hosts one is inside; so who is bound is inside
bound_within : (K : Coalition) (n k : ℕ) → OnlyOutside K n k → (q : Proto) → IsOver n q → IsOpenAt K q → IsBoundWithin K q
bound_within K n k only (Local h) over opens = tt
bound_within K n k only (Rep set) over opens = tt
bound_within K n k only (Commit u v) over opens = at (in_or_out K u.0) (in_or_out K v.0)
  where
    differ : u.0 ≡ v.0 → ⊥
    differ same = true≢false (sym (and_left (not (nat_eq u.0 v.0)) (nat_lt u.0 8 && nat_lt v.0 8) over.ordered) ∙ ap not (eq-eqb u.0 v.0 same))

    at : IsIn K u.0 ⊎ IsOut K u.0 → IsIn K v.0 ⊎ IsOut K v.0 → IsIn K u.0
    at (inl m) other = m
    at (inr o) (inl m) = opens m
    at (inr o) (inr outside) = absurd (differ (only u.0 over.known.0 o ∙ sym (only v.0 over.known.1.0 outside)))
bound_within K n k only (Add a b) over opens = tt
bound_within K n k only (Xor a b) over opens = tt

-- ---- a program

module _ (p : NormalForm) (l : Labels) (protocols : List Proto) (chosen : IsValidFor p l protocols) where
  abbrev hosts : ℕ
  hosts = length p.hosts

  abbrev proto : ℕ → Proto
  proto = proto_in protocols

  abbrev b : Block
  b = block_of p.body

  abbrev begin : Emitting (suite_calls (length p.hosts)) (proto_in protocols)
  begin = emitting_at_start (suite_calls (length p.hosts)) (proto_in protocols)

  -- the plan, by the recursion over blocks
  abbrev pub tree : Plan Gadget
  tree = ((in_turn (suite_calls (length p.hosts)) (proto_in protocols) (each (stmt_emission (suite_calls (length p.hosts)) (proto_in protocols)) (block_of p.body))).emit begin).tree

  pub plan_is : plan_of p protocols ≡ tree
  plan_is =
      ap (λ (es : List (Emission (suite_calls (length p.hosts)) (proto_in protocols))). ((in_turn (suite_calls (length p.hosts)) (proto_in protocols) es).emit begin).tree)
      (fold_each (stmt_emission (suite_calls (length p.hosts)) (proto_in protocols)) p.body)

  -- ---- one run

  module _ (inputs : List (List ℕ)) (t : Tape) (dealt : IsDealt inputs t) where
    can : CanRun p proto inputs t
    can = can_run p l protocols chosen inputs dealt.words t dealt.deal dealt.given

    pub runs : RunsAsToldBy p proto inputs t
    runs = assignments_tell_the_same p l protocols chosen inputs dealt.words t dealt.deal dealt.given

    laws : Laws (machine t (inputs_of inputs)) (suite t (inputs_of inputs) (length p.hosts))
    laws = suite_laws t dealt.deal (inputs_of inputs) dealt.given (length p.hosts)

    starts : Starts (machine t (inputs_of inputs)) inputs fresh
    starts = record { sound = fresh_sound; printed = λ g. refl; waiting = λ g. all_dropped (inputs_of inputs g); words = dealt.words }

    smooth : IsSmooth t (joint_of tree) fresh
    smooth = subst (λ (plan : Plan Gadget). IsSmooth t (joint_of plan) fresh) plan_is runs.smooth

    few : hosts ≤ 8
    few = let le = can.made.limits.hosts in omega (arith, le)

    parts : List Part
    parts = first_ones 0 hosts

    within_all : PlanIsWithin (first_ones 0 hosts) (plan_of p protocols)
    within_all =
        within t (inputs_of inputs) (first_ones 0 hosts) (plan_of p protocols) (λ g i.
        is_first 0 hosts g (omega arith)
        (let lt =
        program_within (machine t (inputs_of inputs)) (suite t (inputs_of inputs) (length p.hosts)) proto laws can.over p inputs fresh can.made can.numbers refl can.valid starts
        (suite_places t can.deal (inputs_of inputs) (length p.hosts) few) g i in omega (arith, lt)))

    tidy : PlanIsTidy tree
    tidy = subst PlanIsTidy plan_is runs.plan_tidy

    within_tree : PlanIsWithin (first_ones 0 hosts) tree
    within_tree = subst (PlanIsWithin (first_ones 0 hosts)) plan_is within_all

    static : Static tree
    static = record { parts = first_ones 0 hosts; within = within_tree; tidy = tidy }

    -- one host alone is outside
    seen_by_others : (K : Coalition) → ((x : ℕ) → IsOpenAt K (proto_in protocols x)) → (k : ℕ) → OnlyOutside K hosts k → OwnsInSight K (plan_of p protocols)
    seen_by_others K opens k only =
        subst (OwnsInSight K) (sym plan_is)
        (one_outside K hosts k only (first_ones 0 hosts) (λ g i. let lt = first_below 0 hosts g i in omega (arith, lt)) tree tidy
        (plan_plain K (length p.hosts) proto (λ x. bound_within K hosts k only (proto_in protocols x) (can.over x) (opens x)) b begin) within_tree)

  -- ---- a deal with these inputs

  dealt_from : (inputs : List (List ℕ)) (t : Tape) → IsValidDeal t → HasInputs t (input_words inputs) → IsDealt inputs t
  dealt_from inputs t valid has = record {
    words = λ g i. subst (λ n. n < 2 ^ 32) (ap (λ (xs : List ℕ). nth xs 0) (has g i)) (valid.words g Inputs i 0);
    deal = valid;
    given = λ g i. ap (λ (xs : List ℕ). nth xs 0) (has g i);
  }

  -- ---- two runs on the same inputs

  module _ (inputs : List (List ℕ)) (t u : Tape) (dealt : IsDealt inputs t) (dealt_too : IsDealt inputs u) where
    fits_both : FitsBoth t u (inputs_of inputs) hosts protocols (laws inputs t dealt) (laws inputs u dealt_too) (can inputs t dealt).over b nothing_seen 0 (λ g. false)
    fits_both = record {
      row = row_of 0 (length p.slots) (slots (block_of p.body)) (sym (ap concat (fold_each slots_step p.body)) ∙ chosen.made.in_order);
      seen = ap (λ (s : List Seeing). (seeing_all s nothing_seen).all) (sym (fold_each seeing_step p.body)) ∙ chosen.made.made_before;
      fits = all_fit p chosen.made chosen.numbers;
      placed = (can inputs t dealt).valid;
      placed_too = (can inputs u dealt_too).valid;
      needs = λ g i. absurd (no_turns (machine t (inputs_of inputs)) (suite t (inputs_of inputs) (length p.hosts)) proto p chosen.made g i);
      needs_too = λ g i. absurd (no_turns (machine u (inputs_of inputs)) (suite u (inputs_of inputs) (length p.hosts)) proto p chosen.made g i);
    }

    no_turn : {X : Type 0} → false ≡ true → X
    no_turn e = cc

    branches_same : PlanChooses everyone t u tree fresh fresh
    branches_same =
        aligned t u (inputs_of inputs) hosts protocols (laws inputs t dealt) (laws inputs u dealt_too) (can inputs t dealt).over b nothing_seen 0 (λ g. false) fits_both
        begin fresh fresh (start p inputs) 0 refl (omega arith)
        (record {
          first = tied_at_start (machine t (inputs_of inputs)) (suite t (inputs_of inputs) (length p.hosts)) proto (length p.hosts) refl inputs fresh (starts inputs t dealt);
          first_turn = λ g lt i. no_turn i;
          second = tied_at_start (machine u (inputs_of inputs)) (suite u (inputs_of inputs) (length p.hosts)) proto (length p.hosts) refl inputs fresh (starts inputs u dealt_too);
          second_turn = λ g lt i. no_turn i;
        })
        (tidy inputs t dealt)

  choose_in_tree : (inputs : List (List ℕ)) → ChooseBranches tree (input_words inputs)
  choose_in_tree inputs t u valid has valid_too has_too = branches_same inputs t u (dealt_from inputs t valid has) (dealt_from inputs u valid_too has_too)

  -- ---- two runs

  module _ (K : Coalition) (opens : (x : ℕ) → IsOpenAt K (proto_in protocols x)) (together : IsCoalition p K) (first second : List (List ℕ)) (t : Tape) (dealt : IsDealt first t) (agree : AgreeFor p l protocols K first second) where
    own_inputs : (h : ℕ) → IsIn K h → (i : ℕ) → t h Inputs i ≡ input_words second h i ∷ []
    own_inputs h m i = one_item (t h Inputs i) (input_words second h i) (dealt.deal.lengths h Inputs i) (dealt.given h i ∙ agree.own h m i)

    same_part : (h : ℕ) → IsIn K h → moved_deal K tree t (input_words second) h ≡ t h
    same_part h m = sym (own_part K tree t (input_words second) h m (own_inputs h m))

    dealt_by : (y : Tape) → IsAnotherDeal K (moved_deal K tree t (input_words second)) fresh y → IsDealt second y
    dealt_by y another = record { words = agree.words; deal = another.deal; given = λ g i. ap (λ (xs : List ℕ). nth xs 0) (another.inputs g i) }

    both : Both K fresh fresh
    both = record { first = fresh_sound; second = fresh_sound; looks = λ h m. record { itself = refl; told = λ g. refl } }

    low : (g : ℕ) → IsIn K g → g < 8
    low g m = let lt = together g m in let le = few first t dealt in omega (arith, lt, le)

    wrong : {X : Type 0} → false ≡ true → X
    wrong e = cc

    -- ---- another deal with the second inputs, by which what items hide is hidden alike

    module _ (y : Tape) (another : IsAnotherDeal K (moved_deal K tree t (input_words second)) fresh y) (hidden : Hides K t y tree fresh fresh) where
      dealt_too : IsDealt second y
      dealt_too = dealt_by y another

      kin : AreKin K t y
      kin = record { first = dealt.deal; second = another.deal; part = λ h m. sym (another.part h m ∙ same_part h m) }

      fitting : Fitting K low t y kin (inputs_of first) (inputs_of second) hosts together protocols l (laws first t dealt) (laws second y dealt_too) (can first t dealt).over opens b nothing_seen 0 (λ g. false)
      fitting = record {
        row = row_of 0 (length p.slots) (slots (block_of p.body)) (sym (ap concat (fold_each slots_step p.body)) ∙ chosen.made.in_order);
        seen = ap (λ (s : List Seeing). (seeing_all s nothing_seen).all) (sym (fold_each seeing_step p.body)) ∙ chosen.made.made_before;
        fits = all_fit p chosen.made chosen.numbers;
        placed = (can first t dealt).valid;
        placed_too = (can second y dealt_too).valid;
        low = subst (λ n. list_all (λ x. x) (each (stmt_below n) (block_of p.body)) ≡ true) (sym (each_has p l protocols chosen))
            (ap (list_all (λ x. x)) (sym (fold_each (stmt_below (length p.slots)) p.body)) ∙ (well_made_scoped p chosen.made).named_slots);
        needs = λ g i. absurd (no_turns (machine t (inputs_of first)) (suite t (inputs_of first) (length p.hosts)) proto p chosen.made g i);
        needs_too = λ g i. absurd (no_turns (machine y (inputs_of second)) (suite y (inputs_of second) (length p.hosts)) proto p chosen.made g i);
      }

      words : (g : ℕ) → IsIn K g → heard_in_order (each (heard_step protocols (host g) l) b) 0 (start p first) ++ [] ≡ heard_in_order (each (heard_step protocols (host g) l) b) 0 (start p second) ++ []
      words g m =
          ap (λ (z : List ℕ). z ++ [])
          (ap (λ (hs : List Heard). heard_in_order hs 0 (start p first)) (sym (fold_each (heard_step protocols (host g) l) p.body)) ∙ agree.heard g m
          ∙ ap (λ (hs : List Heard). heard_in_order hs 0 (start p second)) (fold_each (heard_step protocols (host g) l) p.body))

      -- the own words that are given are the same
      places_agree : (g : ℕ) → places K g (with_inputs t (input_words second)) tree fresh ≡ places K g y tree fresh
      places_agree g =
          places_same K everyone (λ h i. refl) g (with_inputs t (input_words second)) y tree (all_sight tree (tidy first t dealt)) (tidy first t dealt) fresh fresh
          (choose_in_tree second (with_inputs t (input_words second)) y (with_inputs_valid t (input_words second) dealt.deal agree.words) (λ k i. refl) another.deal (λ k i. another.inputs k i)) (λ k. refl)

      owns : OwnAlike K t y tree fresh fresh
      owns g o =
          let js : List ℕ = places K g (with_inputs t (input_words second)) tree fresh in
          let is : List ℕ = places K g t tree fresh in
          let same : (j : ℕ) → t g OwnWords ((moved_by is js stays).from j) ≡ y g OwnWords j = λ j.
          sym (another.own_words g j ∙ ap (λ (x : Bool). t g OwnWords ((if x then stays else moved_by is js stays).from j)) o) in
          subst₂ (λ (f : ℕ → List ℕ) (z : List ℕ). AsFar (t g OwnWords) f is z) (fun_ext same) (places_agree g)
          (moves_well.there (t g OwnWords) is js 0 ((joint t (joint_of tree) fresh g).cursors OwnWords) 0 ((joint (with_inputs t (input_words second)) (joint_of tree) fresh g).cursors OwnWords)
          (places_rise K g t tree fresh) (places_rise K g (with_inputs t (input_words second)) tree fresh))

      concluded : Concluded K t y tree fresh fresh (λ g. []) (λ g. [])
      concluded =
          follows K low t y kin (inputs_of first) (inputs_of second) hosts together protocols l (laws first t dealt) (laws second y dealt_too) (can first t dealt).over opens b nothing_seen 0 (λ g. false) fitting
          begin fresh fresh (start p first) (start p second) 0 refl (omega arith)
          (record {
            first = tied_at_start (machine t (inputs_of first)) (suite t (inputs_of first) (length p.hosts)) proto (length p.hosts) refl first fresh (starts first t dealt);
            first_turn = λ g lt i. wrong i;
            second = tied_at_start (machine y (inputs_of second)) (suite y (inputs_of second) (length p.hosts)) proto (length p.hosts) refl second fresh (starts second y dealt_too);
            second_turn = λ g lt i. wrong i;
            both = both;
          })
          (static first t dealt) hidden owns (λ g. []) (λ g. []) words

    condition : CanBeExcused K tree t (input_words second)
    condition = record {
      deal = dealt.deal;
      tidy = tidy first t dealt;
      smooth = smooth first t dealt;
      inputs = own_inputs;
      words = agree.words;
      branches = choose_in_tree second;
      smooth_too = λ y another. smooth second y (dealt_by y another);
      knows = λ y another hidden. let c = concluded y another hidden in (c.chooses, c.knows);
    }

    it_explains : IsExplained K (plan_of p protocols) t (input_words second)
    it_explains = subst (λ (plan : Plan Gadget). IsExplained K plan t (input_words second)) (sym plan_is) (explained K tree t (input_words second) condition)

pub others_are_explained : OthersAreExplained
others_are_explained p l protocols K opens together first second t dealt agree = it_explains p l protocols opens.chosen K opens.opens together first second t dealt agree

-- ---- lists without commitments

-- where nobody is bound, nobody outside is
open_at : (K : Coalition) (q : Proto) → has_back_end q ≡ true → IsOpenAt K q
open_at K (Local h) e = tt
open_at K (Rep set) e = tt
open_at K (Commit u v) e = no_back_end e
open_at K (Add a b) e = tt
open_at K (Xor a b) e = tt

pub free_opens : (p : NormalForm) (l : Labels) (protocols : List Proto) → IsFree p l protocols → (K : Coalition) → IsOpen p l protocols K
free_opens p l protocols free K = record { chosen = free.chosen; opens = λ x. open_at K (proto_in protocols x) (free.free x) }

-- ---- who looks

-- inputs of zeros, and zeros for all that is dealt
pub dealt_zeros : IsDealt [] (zero_deal (inputs_of []))
dealt_zeros =
    let small : (h i : ℕ) → slice_index (inputs_of [] h) i < 2 ^ 32 = λ h i. lit< tt in
    let v = zero_deals_are_valid (inputs_of []) small in
    record { words = small; deal = v.0; given = v.1 }

-- the plan is tidy, and declared hosts alone take part
pub plan_is_tidy : (p : NormalForm) (l : Labels) (protocols : List Proto) → IsValidFor p l protocols → PlanIsTidy (plan_of p protocols)
plan_is_tidy p l protocols chosen = (runs p l protocols chosen [] (zero_deal (inputs_of [])) dealt_zeros).plan_tidy

pub all_declared : (p : NormalForm) (l : Labels) (protocols : List Proto) → IsValidFor p l protocols → (ps : List Part) × (AreBelow (length p.hosts) ps × PlanIsWithin ps (plan_of p protocols))
all_declared p l protocols chosen =
    (first_ones 0 (length p.hosts), ((λ g i. let lt = first_below 0 (length p.hosts) g i in omega (arith, lt)), within_all p l protocols chosen [] (zero_deal (inputs_of [])) dealt_zeros))

pub all_but_one_look : AllButOneLook
all_but_one_look p l protocols K opens k only = seen_by_others p l protocols opens.chosen [] (zero_deal (inputs_of [])) dealt_zeros K opens.opens k only

pub one_of_two_looks : OneOfTwoLooks
one_of_two_looks p l protocols h opens two low =
    ((λ g i. subst (λ n. g < n) (sym two) (at g (eqb_tells g h) i)), all_but_one_look p l protocols (alone h) opens (1 - h) (λ g lt o. other g (subst (λ n. g < n) two lt) o))
  where
    at : (g : ℕ) → ((nat_eq g h ≡ true) × (g ≡ h)) ⊎ ((nat_eq g h ≡ false) × (g ≢ h)) → IsIn (alone h) g → g < 2
    at g (inl e) i = let same : g ≡ h = e.1 in omega (arith, low, same)
    at g (inr n) i = let no : true ≡ false = sym i ∙ n.0 in cc

    apart : (g : ℕ) → ((nat_eq g h ≡ true) × (g ≡ h)) ⊎ ((nat_eq g h ≡ false) × (g ≢ h)) → IsOut (alone h) g → g ≢ h
    apart g (inl e) o = let no : true ≡ false = sym e.0 ∙ o in cc
    apart g (inr n) o = n.1

    other : (g : ℕ) → g < 2 → IsOut (alone h) g → g ≡ 1 - h
    other g lt o = let ne : g ≢ h = apart g (eqb_tells g h) o in omega (arith, lt, low, ne)

-- whatever is dealt, runs on the same inputs take the same branches
pub choose_branches : InputsChooseBranches
choose_branches p l protocols chosen inputs = subst (λ (plan : Plan Gadget). ChooseBranches plan (input_words inputs)) (sym (plan_is p l protocols chosen)) (choose_in_tree p l protocols chosen inputs)

-- ---- own words that stay

pub own_words_stay : OwnWordsStay
own_words_stay p l protocols chosen K sight second t y e g i =
    e.own_words g i
    ∙ ap (λ (m : Moves). t g OwnWords (m.from i))
    (none_moves K (plan_of p protocols) t y g (places_same K K (λ h m. m) g t y (plan_of p protocols) sight (plan_is_tidy p l protocols chosen) fresh fresh e.chooses (λ k. refl)))

-- so the deal that explains begins with own words as they stand
pub deal_stays : (p : NormalForm) (l : Labels) (protocols : List Proto) (K : Coalition) → IsOpen p l protocols K → IsCoalition p K → OwnsInSight K (plan_of p protocols) → (first second : List (List ℕ)) (t : Tape) → IsDealt first t
    → AgreeFor p l protocols K first second → moved_deal K (plan_of p protocols) t (input_words second) ≡ with_inputs t (input_words second)
deal_stays p l protocols K opens together sight first second t dealt agree = fun_ext (λ g. fun_ext (λ s. fun_ext (λ i. at g s i)))
  where
    same : (g : ℕ) → moves_between K (plan_of p protocols) t (with_inputs t (input_words second)) g ≡ stays
    same g =
        let y : Tape = excused K t (plan_of p protocols) (moved_deal K (plan_of p protocols) t (input_words second)) fresh fresh in
        let e : Explains K (plan_of p protocols) t (input_words second) y = others_are_explained p l protocols K opens together first second t dealt agree in
        let tidy_all : PlanIsTidy (plan_of p protocols) = plan_is_tidy p l protocols opens.chosen in
        none_moves K (plan_of p protocols) t (with_inputs t (input_words second)) g
        (places_same K K (λ h m. m) g t y (plan_of p protocols) sight tidy_all fresh fresh e.chooses (λ k. refl)
        ∙ places_same K everyone (λ h m. refl) g y (with_inputs t (input_words second)) (plan_of p protocols) (all_sight (plan_of p protocols) tidy_all) tidy_all fresh fresh
        (choose_branches p l protocols opens.chosen second y (with_inputs t (input_words second)) e.deal e.inputs (with_inputs_valid t (input_words second) dealt.deal agree.words) (λ k i. refl)) (λ k. refl))

    at : (g : ℕ) (s : Source) (i : ℕ) → moved_deal K (plan_of p protocols) t (input_words second) g s i ≡ with_inputs t (input_words second) g s i
    at g Inputs i = refl
    at g OwnWords i = ap (λ (m : Moves). t g OwnWords (m.from i)) (same g)
    at g (Triples q) i = refl
    at g (BitTriples q) i = refl
    at g (Pairs q) i = refl

-- ---- the way back

pub explained_back : ExplainedBack
explained_back p l protocols chosen K first t second y z valid has one two =
    first_again K (plan_of p protocols) (plan_is_tidy p l protocols chosen) t (input_words first) second y z (choose_branches p l protocols chosen first) valid has one two
