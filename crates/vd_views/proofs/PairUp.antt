-- Deals of two families of inputs that agree for a coalition belong to each other one to one.
use Rattle.std.proofs.Common.{◌≡◌, ◌≢◌, ℕ, ◌≤◌, List, [], ◌∷◌, ◌⊎◌, inl, inr, refl, sym, ap, subst}
use mathlib.Core.Path.{fun_ext}
use Rattle.vd_base.specs.declared.protocols.Proto.{Proto}
use Rattle.vd_core.specs.declared.normal.NormalForm.{NormalForm}
use Rattle.vd_constraints.specs.declared.labels.Labels.{Labels}
use Rattle.vd_execution.specs.Registers.{nth}
use Rattle.vd_execution.specs.Step.{Source, Inputs, OwnWords, Triples, BitTriples, Pairs}
use Rattle.vd_execution.specs.World.{Tape}
use Rattle.vd_execution.specs.Joint.{fresh, joint}
use Rattle.vd_execution.specs.Gadgets.{Gadget}
use Rattle.vd_execution.specs.Plans.{Plan, joint_of, PlanIsTidy}
use Rattle.vd_execution.proofs.Front.{plan_sound}
use Rattle.vd_views.specs.Views.{Coalition, IsIn, IsOut}
use Rattle.vd_views.specs.Hiding.{IsWithout}
use Rattle.vd_views.specs.Contract.{moved_deal, Explains, HasExplanation}
use Rattle.vd_views.specs.Excused.{excused}
use Rattle.vd_views.proofs.WayBack.{IsCrossing, counted}
use Rattle.vd_views.proofs.Contract.{fresh_sound}
use Rattle.vd_views.proofs.Coalitions.{in_or_out}
use Rattle.vd_noninter_protocols.specs.Told.{IsDealt}
use Rattle.vd_views.specs.Sides.{Each}
use Rattle.vd_views.specs.Explained.{IsOpen, IsCoalition, plan_of, input_words, AgreeFor}
use Rattle.vd_views.specs.PairUp.{IsDealOf, PairUp, DealsPairUp, EachExplains, AsMany, ThereAreAsMany}
use Rattle.vd_views.proofs.Theorem.{plan_is_tidy, others_are_explained, explained_back}

same_tape : (t z : Tape) → ((g : ℕ) (s : Source) (i : ℕ) → z g s i ≡ t g s i) → z ≡ t
same_tape t z e = fun_ext (λ g. fun_ext (λ s. fun_ext (λ i. e g s i)))

module _ (p : NormalForm) (l : Labels) (protocols : List Proto) (K : Coalition) (opens : IsOpen p l protocols K) (together : IsCoalition p K) where
  abbrev plan : Plan Gadget
  plan = plan_of p protocols

  dealt_of : (inputs other : List (List ℕ)) → AgreeFor p l protocols K other inputs → (t : Tape) → IsDealOf (input_words inputs) t → IsDealt inputs t
  dealt_of inputs other agree t d = record { words = agree.words; deal = d.deal; given = λ g i. ap (λ (xs : List ℕ). nth xs 0) (d.inputs g i) }

  -- what the plan is whatever the deals
  fixed_tidy : PlanIsTidy (plan_of p protocols)
  fixed_tidy = plan_is_tidy p l protocols opens.chosen

  module _ (first second : List (List ℕ)) (there : AgreeFor p l protocols K first second) (here : AgreeFor p l protocols K second first) where
    pub explained : (t : Tape) → IsDealOf (input_words first) t → HasExplanation K plan t (input_words second)
    explained t d = (excused K t plan (moved_deal K plan t (input_words second)) fresh fresh, others_are_explained p l protocols K opens together first second t (dealt_of first second here t d) there)

  module _ (first second : List (List ℕ)) (there : AgreeFor p l protocols K first second) (here : AgreeFor p l protocols K second first) where
    pub turned : (t y : Tape) → IsDealOf (input_words first) t → Explains K plan t (input_words second) y → Explains K plan y (input_words first) t
    turned t y d e =
        let again : HasExplanation K plan y (input_words first) = explained second first here there y (record { deal = e.deal; inputs = e.inputs }) in
        subst (λ (z : Tape). Explains K plan y (input_words first) z)
        (same_tape t again.0 (explained_back p l protocols opens.chosen K first t (input_words second) y again.0 d.deal d.inputs e again.1)) again.1

    pub only : (t y z : Tape) → IsDealOf (input_words first) t → Explains K plan t (input_words second) y → Explains K plan t (input_words second) z → z ≡ y
    only t y z d e f = same_tape y z (explained_back p l protocols opens.chosen K second y (input_words first) t z e.deal e.inputs (turned t y d e) f)

    -- of items that cross the two runs take equally many
    crossing_rest : (t y : Tape) → IsDealOf (input_words first) t → Explains K plan t (input_words second) y
        → (g : ℕ) (s : Source) (i : ℕ) → IsCrossing K s → s ≢ Inputs → s ≢ OwnWords → (joint t (joint_of plan) fresh g).cursors s ≤ i → y g s i ≡ t g s i
    crossing_rest t y d e g s i crossing n w lt =
        let R : ℕ → Type 0 = λ c. c ≤ i in
        e.past g s i n w
        (subst R (counted K (joint t (joint_of plan) fresh) (joint y (joint_of plan) fresh) e.view (plan_sound t d.deal plan fixed_tidy fresh fresh_sound) (plan_sound y e.deal plan fixed_tidy fresh fresh_sound) g s crossing) lt)

    each_rest : (t y : Tape) → IsDealOf (input_words first) t → Explains K plan t (input_words second) y
        → (g : ℕ) (s : Source) (i : ℕ) → IsCrossing K s ⊎ IsWithout K s → s ≢ Inputs → s ≢ OwnWords → (joint t (joint_of plan) fresh g).cursors s ≤ i → y g s i ≡ t g s i
    each_rest t y d e g s i (inl crossing) n w lt = crossing_rest t y d e g s i crossing n w lt
    each_rest t y d e g s i (inr without) n w lt = at (in_or_out K g)
      where
        at : IsIn K g ⊎ IsOut K g → y g s i ≡ t g s i
        at (inl m) = ap (λ (f : Source → ℕ → List ℕ). f s i) (e.part g m)
        at (inr o) = e.among g s i o without

    rest : (t y : Tape) → IsDealOf (input_words first) t → Explains K plan t (input_words second) y
        → (g : ℕ) (s : Source) (i : ℕ) → s ≢ Inputs → s ≢ OwnWords → (joint t (joint_of plan) fresh g).cursors s ≤ i → y g s i ≡ t g s i
    rest t y d e g Inputs i n w lt = absurd (n refl)
    rest t y d e g OwnWords i n w lt = absurd (w refl)
    rest t y d e g (Triples k) i n w lt = each_rest t y d e g (Triples k) i (in_or_out K k) n w lt
    rest t y d e g (BitTriples k) i n w lt = each_rest t y d e g (BitTriples k) i (in_or_out K k) n w lt
    rest t y d e g (Pairs k) i n w lt = each_rest t y d e g (Pairs k) i (in_or_out K k) n w lt

    pair_up : PairUp K (plan_of p protocols) (input_words first) (input_words second)
    pair_up = record { forth = explained first second there here; turned = turned; only = only; rest = rest }

  module _ (first second : List (List ℕ)) (there : AgreeFor p l protocols K first second) (here : AgreeFor p l protocols K second first) where
    -- a deal that explains another than one of these is none of what explain them
    different : (t y : Tape) → IsDealOf (input_words first) t → Explains K plan t (input_words second) y → (ts ys : List Tape) → Each (IsDealOf (input_words first)) ts
        → EachExplains K plan (input_words second) ts ys → Each (λ u. t ≢ u) ts → Each (λ z. y ≢ z) ys
    different t y d e [] [] ds es ns = tt
    different t y d e [] (z ∷ ys) ds es ns = absurd es
    different t y d e (u ∷ ts) [] ds es ns = absurd es
    different t y d e (u ∷ ts) (z ∷ ys) ds es ns = ((λ same. ns.0 (one same)), different t y d e ts ys ds.1 es.1 ns.1)
      where
        one : y ≡ z → t ≡ u
        one same =
            let from_t : Explains K plan y (input_words first) t = turned first second there here t y d e in
            let from_u : Explains K plan y (input_words first) u = subst (λ (x : Tape). Explains K plan x (input_words first) u) (sym same) (turned first second there here u z ds.0 es.0) in
            only second first here there y u t (record { deal = e.deal; inputs = e.inputs }) from_u from_t

    pub as_many : AsMany K (plan_of p protocols) (input_words first) (input_words second)
    as_many [] ds ns = ([], tt, tt, tt)
    as_many (t ∷ ts) ds ns =
        let one : HasExplanation K plan t (input_words second) = explained first second there here t ds.0 in
        let more = as_many ts ds.1 ns.1 in (
          one.0 ∷ more.0,
          (one.1, more.1),
          (record { deal = one.1.deal; inputs = one.1.inputs }, more.2),
          (different t one.0 ds.0 one.1 ts more.0 ds.1 more.1 ns.0, more.3),
        )

pub deals_pair_up : DealsPairUp
deals_pair_up p l protocols K opens together first second there here = pair_up p l protocols K opens together first second there here

pub there_are_as_many : ThereAreAsMany
there_are_as_many p l protocols K opens together first second there here = as_many p l protocols K opens together first second there here
