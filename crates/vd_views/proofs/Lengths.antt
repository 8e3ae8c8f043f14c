-- Deals that end, and how many of them show a coalition the same.
use Rattle.std.proofs.Common.{◌≡◌, ◌≢◌, ℕ, suc, ◌≤◌, List, [], ◌∷◌, length, ◌⊎◌, inl, inr, refl, ap, subst, ◌∙◌, arith, Bool, true, false, if◌then◌else◌}
use Rattle.vd_base.specs.declared.protocols.Proto.{Proto}
use Rattle.vd_core.specs.declared.normal.NormalForm.{NormalForm}
use Rattle.vd_constraints.specs.declared.labels.Labels.{Labels}
use Rattle.vd_execution.specs.Step.{Source, Inputs, OwnWords, Triples, BitTriples, Pairs}
use Rattle.vd_execution.specs.World.{Tape, zeros_of}
use Rattle.vd_execution.specs.Joint.{Host, Hosts, fresh, joint}
use Rattle.vd_execution.specs.Deals.{IsValidDeal}
use Rattle.vd_execution.specs.Gadgets.{Gadget}
use Rattle.vd_execution.specs.Plans.{Plan, joint_of, PlanIsTidy}
use Rattle.vd_execution.proofs.Front.{plan_sound}
use Rattle.vd_projection.specs.Assignments.{IsValidFor}
use Rattle.vd_views.specs.Views.{Coalition, IsIn, IsOut}
use Rattle.vd_views.specs.Hiding.{IsWithout}
use Rattle.vd_views.specs.Contract.{InputWords, Explains, HasExplanation}
use Rattle.vd_views.proofs.WayBack.{IsCrossing, counted}
use Rattle.vd_views.proofs.Contract.{fresh_sound}
use Rattle.vd_views.proofs.Coalitions.{in_or_out}
use Rattle.vd_views.specs.Sides.{Each, OwnsInSight}
use Rattle.vd_views.proofs.ViewsBackendsPlans.{plan_owns}
use Rattle.vd_views.specs.Moved.{stays, moved_by, places, Rise}
use Rattle.vd_views.proofs.Moved.{moves_well}
use Rattle.vd_views.proofs.Places.{places_rise}
use Rattle.vd_views.specs.Explained.{IsOpen, IsCoalition, plan_of, input_words, AgreeFor}
use Rattle.vd_views.specs.PairUp.{IsDealOf, EachExplains}
use Rattle.vd_views.specs.Lengths.{Lengths, IsSeen, IsLongEnough, OwnFits, ExcusesAreAsLong, Shows, IsAmong, AreAll, ShowEquallyMany}
use Rattle.vd_views.proofs.Theorem.{plan_is_tidy}
use Rattle.vd_views.proofs.PairUp.{explained, turned, only, as_many}

module _ (p : NormalForm) (l : Labels) (protocols : List Proto) (K : Coalition) (opens : IsOpen p l protocols K) (together : IsCoalition p K) where
  fixed : PlanIsTidy (plan_of p protocols)
  fixed = plan_is_tidy p l protocols opens.chosen

  abbrev plan : Plan Gadget
  plan = plan_of p protocols

  module _ (second : InputWords) (t y : Tape) (deal : IsValidDeal t) (e : Explains K (plan_of p protocols) t second y) where
    abbrev w : Hosts
    w = joint t (joint_of (plan_of p protocols)) fresh

    abbrev v : Hosts
    v = joint y (joint_of (plan_of p protocols)) fresh

    shared : (g : ℕ) (s : Source) → IsIn K g ⊎ IsCrossing K s → (w g).cursors s ≡ (v g).cursors s
    shared g s (inl m) = ap (λ (k : Host). k.cursors s) (e.view g m).itself
    shared g s (inr c) = counted K w v e.view (plan_sound t deal (plan_of p protocols) fixed fresh fresh_sound) (plan_sound y e.deal (plan_of p protocols) fixed fresh fresh_sound) g s c

    -- both runs take equally many items of those that count
    same_counts : (g : ℕ) (s : Source) → IsSeen K g s → s ≢ OwnWords → (w g).cursors s ≡ (v g).cursors s
    same_counts g Inputs n o = absurd n
    same_counts g OwnWords n o = absurd (o refl)
    same_counts g (Triples k) n o = shared g (Triples k) n
    same_counts g (BitTriples k) n o = shared g (BitTriples k) n
    same_counts g (Pairs k) n o = shared g (Pairs k) n

    rise_higher : (lo : ℕ) (is : List ℕ) (hi n : ℕ) → hi ≤ n → Rise lo is hi → Rise lo is n
    rise_higher lo [] hi n le r = omega (arith, le, r)
    rise_higher lo (i ∷ is) hi n le r = (r.0, rise_higher (suc i) is hi n le r.1)

    module _ (n : Lengths) (long : IsLongEnough K n (plan_of p protocols) t) (fits : (g : ℕ) → (joint y (joint_of (plan_of p protocols)) fresh g).cursors OwnWords ≤ n g OwnWords) where
      seen_end : (g : ℕ) (s : Source) (i : ℕ) → s ≢ Inputs → s ≢ OwnWords → IsSeen K g s → n g s ≤ i → y g s i ≡ zeros_of s
      seen_end g s i not own seen le =
          let c : (w g).cursors s ≡ (v g).cursors s = same_counts g s seen own in
          let most : (w g).cursors s ≤ n g s = long.takes g s seen in
          e.past g s i not own (omega (arith, c, most, le)) ∙ long.ends g s i not le

      -- no own word past the end moves
      own_end : (g i : ℕ) → n g OwnWords ≤ i → y g OwnWords i ≡ zeros_of OwnWords
      own_end g i le = e.own_words g i ∙ ap (t g OwnWords) (at (K g)) ∙ long.ends g OwnWords i (λ q. cc) le
        where
          at : (b : Bool) → (if b then stays else moved_by (places K g t (plan_of p protocols) fresh) (places K g y (plan_of p protocols) fresh) stays).from i ≡ i
          at true = refl
          at false =
              moves_well.past (places K g t (plan_of p protocols) fresh) (places K g y (plan_of p protocols) fresh) 0 0 (n g OwnWords)
              (rise_higher 0 (places K g t (plan_of p protocols) fresh) ((w g).cursors OwnWords) (n g OwnWords) (long.takes g OwnWords tt) (places_rise K g t (plan_of p protocols) fresh))
              (rise_higher 0 (places K g y (plan_of p protocols) fresh) ((v g).cursors OwnWords) (n g OwnWords) (fits g) (places_rise K g y (plan_of p protocols) fresh)) i le

      either_end : (g : ℕ) (s : Source) (i : ℕ) → s ≢ Inputs → s ≢ OwnWords → (IsIn K g → IsSeen K g s) → (IsIn K g ⊎ IsOut K g) → (IsSeen K g s) ⊎ IsWithout K s → n g s ≤ i → y g s i ≡ zeros_of s
      either_end g s i not own mine (inl m) w le = seen_end g s i not own (mine m) le
      either_end g s i not own mine (inr o) (inl seen) le = seen_end g s i not own seen le
      either_end g s i not own mine (inr o) (inr out) le = e.among g s i o out ∙ long.ends g s i not le

      of_peer : (A B C : Type 0) → (A → C) → A ⊎ B → C ⊎ B
      of_peer A B C f (inl a) = inl (f a)
      of_peer A B C f (inr b) = inr b

      ends : (g : ℕ) (s : Source) (i : ℕ) → s ≢ Inputs → n g s ≤ i → y g s i ≡ zeros_of s
      ends g Inputs i not le = absurd (not refl)
      ends g OwnWords i not le = own_end g i le
      ends g (Triples k) i not le = either_end g (Triples k) i not (λ q. cc) (λ m. inl m) (in_or_out K g) (of_peer (IsIn K k) (IsOut K k) (IsSeen K g (Triples k)) (λ m. inr m) (in_or_out K k)) le
      ends g (BitTriples k) i not le = either_end g (BitTriples k) i not (λ q. cc) (λ m. inl m) (in_or_out K g) (of_peer (IsIn K k) (IsOut K k) (IsSeen K g (BitTriples k)) (λ m. inr m) (in_or_out K k)) le
      ends g (Pairs k) i not le = either_end g (Pairs k) i not (λ q. cc) (λ m. inl m) (in_or_out K g) (of_peer (IsIn K k) (IsOut K k) (IsSeen K g (Pairs k)) (λ m. inr m) (in_or_out K k)) le

  as_long : (second : InputWords) (t y : Tape) → IsValidDeal t → Explains K (plan_of p protocols) t second y → (n : Lengths) → IsLongEnough K n (plan_of p protocols) t → ((g : ℕ) → (joint y (joint_of (plan_of p protocols)) fresh g).cursors OwnWords ≤ n g OwnWords) → IsLongEnough K n (plan_of p protocols) y
  as_long second t y deal e n long fits = record { ends = λ g s i not le. ends second t y deal e n long fits g s i not le; takes = takes }
    where
      counted_as : (g : ℕ) (s : Source) → IsSeen K g s → s ≢ OwnWords → (joint y (joint_of (plan_of p protocols)) fresh g).cursors s ≤ n g s
      counted_as g s seen own = subst (λ c. c ≤ n g s) (same_counts second t y deal e g s seen own) (long.takes g s seen)

      takes : (g : ℕ) (s : Source) → IsSeen K g s → (joint y (joint_of (plan_of p protocols)) fresh g).cursors s ≤ n g s
      takes g Inputs seen = absurd seen
      takes g OwnWords seen = fits g
      takes g (Triples k) seen = counted_as g (Triples k) seen (λ q. cc)
      takes g (BitTriples k) seen = counted_as g (BitTriples k) seen (λ q. cc)
      takes g (Pairs k) seen = counted_as g (Pairs k) seen (λ q. cc)

  module _ (first second : List (List ℕ)) (there : AgreeFor p l protocols K first second) (here : AgreeFor p l protocols K second first) (n : Lengths) (fits : OwnFits n (plan_of p protocols) (input_words first)) (fits_too : OwnFits n (plan_of p protocols) (input_words second)) (seen : Tape) where
    abbrev First : Tape → Type 0
    First = Shows K (plan_of p protocols) n seen (input_words first)

    abbrev Second : Tape → Type 0
    Second = Shows K (plan_of p protocols) n seen (input_words second)

    -- what explains shows the same
    shows : (given : InputWords) (other : InputWords) → OwnFits n (plan_of p protocols) other → (t y : Tape) → Shows K (plan_of p protocols) n seen given t → Explains K (plan_of p protocols) t other y → Shows K (plan_of p protocols) n seen other y
    shows given other reach t y s e = record {
      deal = record { deal = e.deal; inputs = e.inputs };
      long = as_long other t y s.deal.deal e n s.long (λ g. reach y (record { deal = e.deal; inputs = e.inputs }) g);
      sees = record {
        part = λ h m. e.part h m ∙ s.sees.part h m;
        view = λ h m. record { itself = (s.sees.view h m).itself ∙ (e.view h m).itself; told = λ g. (s.sees.view h m).told g ∙ (e.view h m).told g };
      };
    }

    each_shows : (ts ys : List Tape) → Each First ts → EachExplains K (plan_of p protocols) (input_words second) ts ys → Each Second ys
    each_shows [] [] fs es = tt
    each_shows [] (y ∷ ys) fs es = absurd es
    each_shows (t ∷ ts) [] fs es = absurd es
    each_shows (t ∷ ts) (y ∷ ys) fs es = (shows (input_words first) (input_words second) fits_too t y fs.0 es.0, each_shows ts ys fs.1 es.1)

    as_many_as : (ts ys : List Tape) → EachExplains K (plan_of p protocols) (input_words second) ts ys → length ys ≡ length ts
    as_many_as [] [] es = refl
    as_many_as [] (y ∷ ys) es = absurd es
    as_many_as (t ∷ ts) [] es = absurd es
    as_many_as (t ∷ ts) (y ∷ ys) es = ap suc (as_many_as ts ys es.1)

    each_deal : (ts : List Tape) → Each First ts → Each (IsDealOf (input_words first)) ts
    each_deal [] fs = tt
    each_deal (t ∷ ts) fs = (fs.0.deal, each_deal ts fs.1)

    -- what a deal of the list explains itself by is in the other list
    fellow : (t y : Tape) → IsDealOf (input_words first) t → Explains K (plan_of p protocols) t (input_words second) y → (ts ys : List Tape) → EachExplains K (plan_of p protocols) (input_words second) ts ys → IsAmong t ts
        → IsAmong y ys
    fellow t y d e [] ys es i = absurd i
    fellow t y d e (u ∷ ts) [] es i = absurd es
    fellow t y d e (u ∷ ts) (z ∷ ys) es (inl same) =
        inl (only p l protocols K opens together first second there here t y z d e (subst (λ (x : Tape). Explains K (plan_of p protocols) x (input_words second) z) same es.0))
    fellow t y d e (u ∷ ts) (z ∷ ys) es (inr i) = inr (fellow t y d e ts ys es.1 i)

    equally_many : (ts : List Tape) → AreAll First ts → (ys : List Tape) × (length ys ≡ length ts) × AreAll Second ys
    equally_many ts all_first =
        let many = as_many p l protocols K opens together first second there here ts (each_deal ts all_first.each) all_first.different in
        let ys : List Tape = many.0 in (
          ys,
          as_many_as ts ys many.1,
          record {
            each = each_shows ts ys all_first.each many.1;
            different = many.3;
            all = λ y s.
                let back : HasExplanation K (plan_of p protocols) y (input_words first) = explained p l protocols K opens together second first here there y s.deal in
                let t : Tape = back.0 in
                let of_first : First t = shows (input_words second) (input_words first) fits y t s back.1 in
                let forth : Explains K (plan_of p protocols) t (input_words second) y = turned p l protocols K opens together second first here there y t s.deal back.1 in
                fellow t y of_first.deal forth ts ys many.1 (all_first.all t of_first);
          },
        )

-- where own words are taken in sight of the coalition, those that reach for the first run reach for the second
pub own_fits : (p : NormalForm) (l : Labels) (protocols : List Proto) → IsValidFor p l protocols → (K : Coalition) → OwnsInSight K (plan_of p protocols) → (second : InputWords) (t y : Tape) → Explains K (plan_of p protocols) t second y
    → (n : Lengths) → IsLongEnough K n (plan_of p protocols) t → (g : ℕ) → (joint y (joint_of (plan_of p protocols)) fresh g).cursors OwnWords ≤ n g OwnWords
own_fits p l protocols chosen K sight second t y e n long g =
    subst (λ c. c ≤ n g OwnWords) (plan_owns K t y (plan_of p protocols) sight (plan_is_tidy p l protocols chosen) fresh fresh e.chooses (λ k. refl) g) (long.takes g OwnWords tt)

pub excuses_are_as_long : ExcusesAreAsLong
excuses_are_as_long p l protocols K opens together second t y deal e n long fits = as_long p l protocols K opens together second t y deal e n long fits

pub show_equally_many : ShowEquallyMany
show_equally_many p l protocols K opens together first second there here n fits fits_too t ts all_first = equally_many p l protocols K opens together first second there here n fits fits_too t ts all_first
