-- From the start of both runs.
use Rattle.std.proofs.Common.{◌≡◌, ◌≢◌, ℕ, zero, suc, ◌<◌, ◌^◌, Bool, true, false, if◌then◌else◌, List, [], ◌∷◌, length, refl, sym, ap, ◌∙◌, lit<}
use mathlib.Core.Path.{fun_ext}
use Rattle.vd_execution.specs.Registers.{nth}
use Rattle.vd_execution.specs.Step.{Source, Inputs, OwnWords, Triples, BitTriples, Pairs}
use Rattle.vd_execution.specs.World.{Tape, zeros_of}
use Rattle.vd_base.specs.Words.{IsWord}
use Rattle.vd_execution.specs.Deals.{IsValidDeal}
use Rattle.vd_execution.specs.Joint.{fresh}
use Rattle.vd_execution.specs.Gadgets.{Gadget, IsSound}
use Rattle.vd_execution.specs.Plans.{Plan}
use Rattle.vd_views.specs.Views.{Coalition, IsIn, everyone, SameParts}
use Rattle.vd_views.specs.Moved.{Moves, stays, moved_by, places}
use Rattle.vd_views.specs.Excused.{excused}
use Rattle.vd_views.specs.Hiding.{IsWithout}
use Rattle.vd_views.specs.Contract.{InputWords, HasInputs, moved_to, with_inputs, moves_between, moved_deal, CanBeExcused, IsExplained}
use Rattle.vd_views.proofs.Moved.{moves_well}
use Rattle.vd_views.proofs.Places.{all_sight, places_same}
use Rattle.vd_views.proofs.Plans.{views_agree}

pub fresh_sound : IsSound fresh
fresh_sound = record { words = λ g r. lit< tt; triples = λ g q. refl; bit_triples = λ g q. refl; pairs = λ g q. refl }

-- where the places are the same nothing moves
pub none_moves : (K : Coalition) (plan : Plan Gadget) (t y : Tape) (g : ℕ) → places K g t plan fresh ≡ places K g y plan fresh → moves_between K plan t y g ≡ stays
none_moves K plan t y g e = at (K g)
  where
    at : (b : Bool) → (if b then stays else moved_by (places K g t plan fresh) (places K g y plan fresh) stays) ≡ stays
    at true = refl
    at false = ap (λ (js : List ℕ). moved_by (places K g t plan fresh) js stays) (sym e) ∙ moves_well.none (places K g t plan fresh)

-- with other inputs and with own words moved a deal is as valid
module _ (t : Tape) (second : InputWords) (deal : IsValidDeal t) (small : (g i : ℕ) → second g i < 2 ^ 32) where
  one_word : (x place : ℕ) → x < 2 ^ 32 → IsWord (nth (x ∷ []) place)
  one_word x zero p = p
  one_word x (suc n) p = lit< tt

  module _ (m : ℕ → Moves) where
    all_words : (g : ℕ) (s : Source) (i place : ℕ) → IsWord (nth (moved_to t second m g s i) place)
    all_words g Inputs i place = one_word (second g i) place (small g i)
    all_words g OwnWords i place = deal.words g OwnWords ((m g).from i) place
    all_words g (Triples p) i place = deal.words g (Triples p) i place
    all_words g (BitTriples p) i place = deal.words g (BitTriples p) i place
    all_words g (Pairs p) i place = deal.words g (Pairs p) i place

    all_whole : (g : ℕ) (s : Source) (i : ℕ) → length (moved_to t second m g s i) ≡ length (zeros_of s)
    all_whole g Inputs i = refl
    all_whole g OwnWords i = deal.lengths g OwnWords ((m g).from i)
    all_whole g (Triples p) i = deal.lengths g (Triples p) i
    all_whole g (BitTriples p) i = deal.lengths g (BitTriples p) i
    all_whole g (Pairs p) i = deal.lengths g (Pairs p) i

    pub is_valid : IsValidDeal (moved_to t second m)
    is_valid = record { lengths = all_whole; words = all_words; triples = deal.triples; bit_triples = deal.bit_triples; pairs = deal.pairs }

  pub with_inputs_valid : IsValidDeal (with_inputs t second)
  with_inputs_valid = is_valid (λ g. stays)

-- a host inside has its part
pub own_part : (K : Coalition) (plan : Plan Gadget) (t : Tape) (second : InputWords) (h : ℕ) → IsIn K h → ((i : ℕ) → t h Inputs i ≡ second h i ∷ []) → t h ≡ moved_deal K plan t second h
own_part K plan t second h m inputs = fun_ext (λ s. fun_ext (λ i. at s i))
  where
    at : (s : Source) (i : ℕ) → t h s i ≡ moved_deal K plan t second h s i
    at Inputs i = inputs i
    at OwnWords i = ap (λ (b : Bool). t h OwnWords ((if b then stays else moved_by (places K h t plan fresh) (places K h (with_inputs t second) plan fresh) stays).from i)) (sym m)
    at (Triples p) i = refl
    at (BitTriples p) i = refl
    at (Pairs p) i = refl

module _ (K : Coalition) (plan : Plan Gadget) (t : Tape) (second : InputWords) (can : CanBeExcused K plan t second) where
  abbrev deal : IsValidDeal t
  deal = can.deal

  module _ (m : ℕ → Moves) where
    same_but : (g : ℕ) (s : Source) (i : ℕ) → s ≢ Inputs → s ≢ OwnWords → moved_to t second m g s i ≡ t g s i
    same_but g Inputs i n o = absurd (n refl)
    same_but g OwnWords i n o = absurd (o refl)
    same_but g (Triples p) i n o = refl
    same_but g (BitTriples p) i n o = refl
    same_but g (Pairs p) i n o = refl

    among_same : (g : ℕ) (s : Source) (i : ℕ) → IsWithout K s → moved_to t second m g s i ≡ t g s i
    among_same g Inputs i w = absurd w
    among_same g OwnWords i w = absurd w
    among_same g (Triples p) i w = refl
    among_same g (BitTriples p) i w = refl
    among_same g (Pairs p) i w = refl

  abbrev moves : ℕ → Moves
  moves g = moves_between K plan t (with_inputs t second) g

  -- another deal with the second inputs gives its own words at the same places
  pub places_agree : (y : Tape) → IsValidDeal y → HasInputs y second → (g : ℕ) → places K g (with_inputs t second) plan fresh ≡ places K g y plan fresh
  places_agree y valid has g =
      places_same K everyone (λ h i. refl) g (with_inputs t second) y plan (all_sight plan can.tidy) can.tidy fresh fresh (can.branches (with_inputs t second) y (with_inputs_valid t second can.deal can.words) (λ k i. refl) valid has) (λ k. refl)

  pub explained : IsExplained K plan t second
  explained =
      let same : SameParts K t (moved_deal K plan t second) = λ h m. own_part K plan t second h m (can.inputs h m) in
      let e = views_agree K t (moved_deal K plan t second) plan can.tidy fresh fresh (record {
        sound = record { first_deal = deal; second_deal = is_valid t second can.deal can.words moves; first = fresh_sound; second = fresh_sound };
        start = record { part = same; looks = λ h m. record { itself = refl; told = λ g. refl } };
        smooth = can.smooth;
        smooth_too = can.smooth_too;
        knows = can.knows;
      }) in
      let y : Tape = excused K t plan (moved_deal K plan t second) fresh fresh in
      record {
        deal = e.another.deal;
        inputs = λ g i. e.another.inputs g i;
        part = λ h m. e.another.part h m ∙ sym (same h m);
        among = λ g s i o p. e.another.among g s i o p ∙ among_same moves g s i p;
        own_words = λ g i.
            e.another.own_words g i
            ∙ ap (λ (js : List ℕ). t g OwnWords ((if K g then stays else moved_by (places K g t plan fresh) js stays).from i)) (places_agree y e.another.deal (λ k j. e.another.inputs k j) g);
        past = λ g s i n o l. e.past g s i l ∙ same_but moves g s i n o;
        chooses = e.chooses;
        hides = e.hides;
        view = e.view;
      }
