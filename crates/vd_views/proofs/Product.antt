-- The product of two shared inputs can be excused.
use Rattle.std.proofs.Common.{◌≡◌, ℕ, suc, ◌+◌, ◌*◌, ◌%◌, ◌^◌, ◌<◌, List, [], ◌∷◌, ◌++◌, arith, refl, sym, ap, ap₂, ◌∙◌}
use Rattle.std.proofs.Math.Nat.{add_comm}
use Rattle.std.specs.Prelude.{slice_index}
use Rattle.vd_execution.specs.Registers.{put, nth}
use Rattle.vd_execution.specs.Step.{OwnWords}
use Rattle.vd_execution.specs.Text.{register}
use Rattle.vd_execution.specs.World.{Tape}
use Rattle.vd_execution.specs.Deals.{IsValidDeal}
use Rattle.vd_execution.specs.Joint.{Hosts, fresh, after_msg}
use Rattle.vd_execution.specs.Gadgets.{BySums}
use Rattle.vd_duet.specs.Builder.{taken}
use Rattle.vd_backend_sharing.specs.declared.shares.PartRegisters.{PartRegisters}
use Rattle.vd_backend_sharing.specs.PairCalls.{shares_of, product_shares}
use Rattle.vd_words.specs.Example.{alice}
use Rattle.vd_views.specs.Hiding.{next_item, opened, GadgetsKnow, IsAnotherDeal}
use Rattle.vd_views.specs.Contract.{InputWords, with_inputs, moved_deal, CanBeExcused, IsExplained, GoesBackTo}
use Rattle.vd_views.specs.Views.{Coalition, everyone}
use Rattle.vd_views.specs.Moved.{Moves}
use Rattle.vd_views.proofs.Places.{all_sight, places_same}
use Rattle.vd_views.proofs.InARow.{row_tidy, row_smooth, row_chooses, row_knows, know_append}
use Rattle.vd_views.proofs.Contract.{explained, none_moves}
use Rattle.vd_views.proofs.WayBack.{first_again}
use Rattle.vd_views.specs.Product.{taken_in, first_shared, second_shared, multiplied, shown, multiplication, printed, shared_product, product_plan, input_of, product_of, HaveSameProduct}
use Rattle.vd_views.proofs.Calls.{with_inputs_taken, with_one_shared, with_both_shared, with_product, whole_tidy, whole_agrees, product_stands}

never : (n : ℕ) → suc (suc n) < 2 → ⊥
never n l = omega (arith, l)

-- the registers of the product's parts, and the one in which bob hears alice's
abbrev parts : PartRegisters
parts = shares_of multiplied.given

abbrev heard : ℕ
heard = slice_index (taken alice 2 multiplied.next) 1

-- what alice tells bob changes neither part
after_one : (w : Hosts) → ((after_msg 0 (parts.first ∷ []) 1 (register heard ∷ []) w 1).registers parts.second.0 ≡ (w 1).registers parts.second.0)
    × ((after_msg 0 (parts.first ∷ []) 1 (register heard ∷ []) w 0).registers parts.first.0 ≡ (w 0).registers parts.first.0)
unfolding put product_shares
after_one w = (refl, refl)

turned : (p q : ℕ) → (p + q) % 2 ^ 32 ≡ (q + p) % 2 ^ 32
turned p q = ap (λ (z : ℕ). z % 2 ^ 32) (add_comm p q)

module _ (K : Coalition) (t : Tape) (second : InputWords) (deal : IsValidDeal t) (others : HaveSameProduct K t second) where
  module _ (y : Tape) (another : IsAnotherDeal K (moved_deal K product_plan t second) fresh y) where
    -- own words stay where they are, as there is no branch
    own_stays : (g i : ℕ) → y g OwnWords i ≡ t g OwnWords i
    own_stays g i =
        another.own_words g i
        ∙ ap (λ (m : Moves). t g OwnWords (m.from i))
        (none_moves K product_plan t (with_inputs t second) g
        (places_same K everyone (λ h e. refl) g t (with_inputs t second) product_plan (all_sight product_plan (row_tidy shared_product (whole_tidy t deal))) (row_tidy shared_product (whole_tidy t deal)) fresh fresh
        (row_chooses everyone t (with_inputs t second) shared_product fresh fresh) (λ k. refl)))

    -- the own words that are given away are the same
    first_own : next_item t (with_inputs_taken t) 0 OwnWords ≡ next_item y (with_inputs_taken y) 0 OwnWords
    unfolding put
    first_own = sym (own_stays 0 0)

    second_own : next_item t (with_one_shared t) 1 OwnWords ≡ next_item y (with_one_shared y) 1 OwnWords
    unfolding put
    second_own = sym (own_stays 1 0)

    -- and so is the product
    new_input : (g : ℕ) → input_of y g ≡ second g 0
    new_input g = ap (λ (xs : List ℕ). nth xs 0) (another.inputs g 0)

    same_product : product_of t ≡ product_of y
    same_product = others.product ∙ sym (ap₂ (λ (p q : ℕ). (p * q) % 2 ^ 32) (new_input 0) (new_input 1))

    abbrev w : Hosts
    w = with_product t

    abbrev v : Hosts
    v = with_product y

    first_opened : opened BySums ((w 0).registers parts.first.0) ((w 1).registers parts.second.0) ≡ opened BySums ((v 0).registers parts.first.0) ((v 1).registers parts.second.0)
    first_opened =
        let before : opened BySums ((w 0).registers parts.first.0) ((w 1).registers parts.second.0) ≡ product_of t = (product_stands t deal).word in
        let after : opened BySums ((v 0).registers parts.first.0) ((v 1).registers parts.second.0) ≡ product_of y = (product_stands y another.deal).word in
        before ∙ same_product ∙ sym after

    -- bob's part to alice, after hers to him
    abbrev w1 : Hosts
    w1 = after_msg 0 (parts.first ∷ []) 1 (register heard ∷ []) w

    abbrev v1 : Hosts
    v1 = after_msg 0 (parts.first ∷ []) 1 (register heard ∷ []) v

    second_opened : opened BySums ((w1 1).registers parts.second.0) ((w1 0).registers parts.first.0) ≡ opened BySums ((v1 1).registers parts.second.0) ((v1 0).registers parts.first.0)
    second_opened =
        ap₂ (λ (p q : ℕ). (p + q) % 2 ^ 32) (after_one w).0 (after_one w).1 ∙ turned ((w 1).registers parts.second.0) ((w 0).registers parts.first.0)
        ∙ first_opened
        ∙ turned ((v 0).registers parts.first.0) ((v 1).registers parts.second.0) ∙ sym (ap₂ (λ (p q : ℕ). (p + q) % 2 ^ 32) (after_one v).0 (after_one v).1)

    first_known : GadgetsKnow K t y first_shared.gadgets (with_inputs_taken t) (with_inputs_taken y)
    first_known = ((λ e. first_own), (tt, tt))

    second_known : GadgetsKnow K t y second_shared.gadgets (with_one_shared t) (with_one_shared y)
    second_known = ((λ e. second_own), (tt, tt))

    product_known : GadgetsKnow K t y multiplied.gadgets (with_both_shared t) (with_both_shared y)
    unfolding product_shares
    product_known = (tt, (tt, (tt, (tt, (tt, (tt, (tt, (tt, (tt, (tt, (tt, (tt, (tt, (tt, (tt, tt)))))))))))))))

    shown_known : GadgetsKnow K t y shown.gadgets w v
    shown_known = ((λ e. first_opened), ((λ e. second_opened), (tt, (tt, tt))))

    whole_known : GadgetsKnow K t y shared_product fresh fresh
    whole_known =
        know_append K t y taken_in (multiplication ++ printed) fresh fresh (tt, (tt, tt))
        (know_append K t y multiplication printed (with_inputs_taken t) (with_inputs_taken y)
        (know_append K t y first_shared.gadgets (second_shared.gadgets ++ (multiplied.gadgets ++ shown.gadgets)) (with_inputs_taken t) (with_inputs_taken y) first_known
        (know_append K t y second_shared.gadgets (multiplied.gadgets ++ shown.gadgets) (with_one_shared t) (with_one_shared y) second_known
        (know_append K t y multiplied.gadgets shown.gadgets (with_both_shared t) (with_both_shared y) product_known shown_known)))
        (tt, (tt, tt)))

  pub product_condition : CanBeExcused K product_plan t second
  product_condition = record {
    deal = deal;
    tidy = row_tidy shared_product (whole_tidy t deal);
    smooth = row_smooth t shared_product fresh (whole_agrees t deal);
    inputs = others.inputs;
    words = others.words;
    branches = λ u z _ _ _ _. row_chooses everyone u z shared_product fresh fresh;
    smooth_too = λ y a. row_smooth y shared_product fresh (whole_agrees y a.deal);
    knows = λ y a hides. (row_chooses K t y shared_product fresh fresh, row_knows K t y shared_product fresh fresh (whole_known y a));
  }

  pub product_explained : IsExplained K product_plan t second
  product_explained = explained K product_plan t second product_condition

-- ---- the way back

pub product_goes_back : (K : Coalition) (first : InputWords) → GoesBackTo K product_plan first
product_goes_back K first t second y z valid has one two =
    first_again K product_plan (row_tidy shared_product (whole_tidy t valid)) t first second y z (λ u v _ _ _ _. row_chooses everyone u v shared_product fresh fresh) valid has one two
