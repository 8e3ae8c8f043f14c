-- The worked numbers, computed.
use Rattle.std.proofs.Common.{◌≡◌, ◌≢◌, ℕ, zero, suc, ◌≤◌, nat_eq, [], ◌∷◌, refl, sym, subst₂, arith, lit<}
use mathlib.Core.Path.{fun_ext}
use Rattle.vd_execution.specs.Registers.{put}
use Rattle.vd_execution.specs.Step.{Source, Inputs, OwnWords, Triples, BitTriples, Pairs}
use Rattle.vd_execution.specs.Joint.{Hosts, fresh, joint}
use Rattle.vd_execution.specs.Plans.{joint_of}
use Rattle.vd_backend_sharing.specs.PairCalls.{product_shares}
use Rattle.vd_views.specs.Views.{IsOut, LookAlike, SameParts, alone}
use Rattle.vd_views.specs.Hiding.{GadgetsHide, GadgetsKnow, IsWithout}
use Rattle.vd_views.specs.Contract.{Explains}
use Rattle.vd_views.proofs.Coalitions.{of_alone}
use Rattle.vd_views.proofs.Contract.{fresh_sound}
use Rattle.vd_views.proofs.Hiding.{gadgets_alike}
use Rattle.vd_views.proofs.InARow.{row_chooses, row_hidden, row_runs}
use Rattle.vd_views.specs.Product.{shared_product, product_plan, HaveSameProduct}
use Rattle.vd_views.specs.Example.{triple, first_deal, second_inputs, second_deal, WorkedProduct}
use Rattle.vd_views.proofs.Calls.{whole_tidy}
use Rattle.vd_views.proofs.Deals.{either_word, first_valid, second_valid}

-- of the 27 gadgets the seventh is the masked product
numbers_hide : GadgetsHide (alone 1) first_deal second_deal shared_product fresh fresh
unfolding put product_shares
numbers_hide = (tt, (tt, (tt, (tt, (tt, (tt, (((λ e o. (refl, refl)), (λ e o. cc)), (tt, (tt, (tt, (tt, (tt, (tt, (tt, (tt, (tt, (tt, (tt, (tt, (tt, (tt, (tt, (tt, (tt, (tt, (tt, (tt, tt)))))))))))))))))))))))))))

numbers_known : GadgetsKnow (alone 1) first_deal second_deal shared_product fresh fresh
unfolding put product_shares
numbers_known = (tt, (tt, ((λ e. refl), (tt, ((λ e. cc), (tt, (tt, (tt, (tt, (tt, (tt, (tt, (tt, (tt, (tt, (tt, (tt, (tt, (tt, (tt, (tt, ((λ e. refl), ((λ e. cc), (tt, (tt, (tt, (tt, tt)))))))))))))))))))))))))))

-- bob's part of both deals is the same
same_triple : (p i : ℕ) → triple 1 1 p i ≡ triple 2147483649 1 p i
same_triple zero zero = refl
same_triple zero (suc i) = refl
same_triple (suc p) i = refl

same_item : (s : Source) (i : ℕ) → first_deal 1 s i ≡ second_deal 1 s i
same_item Inputs i = refl
same_item OwnWords i = refl
same_item (Triples p) i = same_triple p i
same_item (BitTriples p) i = refl
same_item (Pairs p) i = refl

same_part : SameParts (alone 1) first_deal second_deal
same_part = of_alone 1 (λ g. first_deal g ≡ second_deal g) (fun_ext (λ s. fun_ext (λ i. same_item s i)))

-- and so is what is not shared with bob
among_triple : (g p i : ℕ) → IsOut (alone 1) p → triple 2147483649 g p i ≡ triple 1 g p i
among_triple zero zero i o = refl
among_triple zero (suc zero) i o = cc
among_triple zero (suc (suc p)) i o = refl
among_triple (suc zero) zero zero o = refl
among_triple (suc zero) zero (suc i) o = refl
among_triple (suc zero) (suc p) i o = refl
among_triple (suc (suc g)) p i o = refl

among_item : (g : ℕ) (s : Source) (i : ℕ) → IsWithout (alone 1) s → second_deal g s i ≡ first_deal g s i
among_item g Inputs i o = absurd o
among_item g OwnWords i o = refl
among_item g (Triples p) i o = among_triple g p i o
among_item g (BitTriples p) i o = refl
among_item g (Pairs p) i o = refl

-- of alice's triples only the first is another, and it is taken
takes_one : (joint second_deal (joint_of product_plan) fresh 0).cursors (Triples 1) ≡ 1
unfolding put product_shares
takes_one = refl

not_taken : (joint second_deal (joint_of product_plan) fresh 0).cursors (Triples 1) ≤ 0 → ⊥
not_taken l = let one = takes_one in omega (arith, l, one)

later_triple : (g p i : ℕ) → (joint second_deal (joint_of product_plan) fresh g).cursors (Triples p) ≤ i → triple 2147483649 g p i ≡ triple 1 g p i
later_triple zero zero i l = refl
later_triple zero (suc zero) zero l = absurd (not_taken l)
later_triple zero (suc zero) (suc i) l = refl
later_triple zero (suc (suc p)) i l = refl
later_triple (suc zero) zero zero l = refl
later_triple (suc zero) zero (suc i) l = refl
later_triple (suc zero) (suc p) i l = refl
later_triple (suc (suc g)) p i l = refl

later_item : (g : ℕ) (s : Source) (i : ℕ) → s ≢ Inputs → (joint second_deal (joint_of product_plan) fresh g).cursors s ≤ i → second_deal g s i ≡ first_deal g s i
later_item g Inputs i n l = absurd (n refl)
later_item g OwnWords i n l = refl
later_item g (Triples p) i n l = later_triple g p i l
later_item g (BitTriples p) i n l = refl
later_item g (Pairs p) i n l = refl

bob_sees_the_same : LookAlike (alone 1) (joint first_deal (joint_of product_plan) fresh) (joint second_deal (joint_of product_plan) fresh)
bob_sees_the_same =
    let P : Hosts → Hosts → Type 0 = λ x y. LookAlike (alone 1) x y in
    subst₂ P (sym (row_runs first_deal shared_product fresh)) (sym (row_runs second_deal shared_product fresh))
    (gadgets_alike (alone 1) first_deal second_deal first_valid second_valid same_part shared_product (whole_tidy first_deal first_valid) fresh fresh fresh_sound fresh_sound
    (λ h i. record { itself = refl; told = λ g. refl }) numbers_hide numbers_known)

numbers_explain : Explains (alone 1) product_plan first_deal second_inputs second_deal
numbers_explain = record {
  deal = second_valid;
  inputs = λ g i. refl;
  part = λ h i. sym (same_part h i);
  own_words = λ g i. refl;
  among = λ g s i o p. among_item g s i p;
  past = λ g s i n o l. later_item g s i n l;
  chooses = row_chooses (alone 1) first_deal second_deal shared_product fresh fresh;
  hides = row_hidden (alone 1) first_deal second_deal shared_product fresh fresh numbers_hide;
  view = bob_sees_the_same;
}

have_same_product : HaveSameProduct (alone 1) first_deal second_inputs
have_same_product = record { words = λ g i. either_word (nat_eq g 0) 2147483655 6 (lit< tt) (lit< tt); inputs = of_alone 1 (λ h. (i : ℕ) → first_deal h Inputs i ≡ second_inputs h i ∷ []) (λ i. refl); product = refl }

pub worked : WorkedProduct
unfolding put product_shares
worked = record { others = have_same_product; explains = numbers_explain; prints = refl; prints_again = refl; told = refl; told_again = refl }
