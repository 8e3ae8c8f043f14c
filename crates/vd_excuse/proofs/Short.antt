-- No kind is short exactly where no item is taken past the end of any list.
use Rattle.std.proofs.Common.{◌≡◌, ◌≢◌, inl, inr, ℕ, zero, suc, ◌-◌, ◌<◌, ◌≤◌, nat_lt, ◌||◌, Bool, true, false, if◌then◌else◌, List, Some, None, refl, sym, ap, subst, ◌∙◌, arith}
use Rattle.std.proofs.lemmas.Bool.Decides.{eqb_tells, nat_tests}
use Rattle.vd_core.specs.declared.normal.NormalForm.{NormalForm}
use Rattle.vd_constraints.specs.declared.labels.Labels.{Labels}
use Rattle.vd_tape.specs.declared.deal_items.deal.Deal.{Deal}
use Rattle.vd_tape.specs.declared.deal_items.deal.DealKind.{DealKind}
use Rattle.vd_tape.specs.declared.deal_items.deal.DealKind.TheVariants.{Own, Mul, And, Pair}
use Rattle.vd_execution.specs.Step.{Source, Inputs, OwnWords, Triples, BitTriples, Pairs}
use Rattle.vd_views.specs.Explained.{IsOfTwo, plan_of}
use Rattle.vd_views.proofs.Front.{IsStranger, below_two, strangers_take_none}
use Rattle.vd_machine.specs.Dealt.{counts_of}
use Rattle.vd_views.specs.Files.{tape_of}
use Rattle.vd_excuse_walk.specs.Files.{list_of_kind, takes_more, is_short}
use Rattle.vd_excuse.specs.Short.{list_at, end_of, short_kind, TakesNoMore, ShortKindsAreExact}
use Rattle.vd_base.specs.declared.protocols.Proto.{Proto}

neither : (a b : Bool) → a || b ≡ false → (a ≡ false) × (b ≡ false)
neither true b e = cc
neither false b e = (refl, e)

none_of_four : (a b c d : Bool) → (if a then Some Own else if b then Some Mul else if c then Some And else if d then Some Pair else None) ≡ None → (a ≡ false) × (b ≡ false) × (c ≡ false) × (d ≡ false)
none_of_four true b c d e = cc
none_of_four false true c d e = cc
none_of_four false false true d e = cc
none_of_four false false false true e = cc
none_of_four false false false false e = (refl, refl, refl, refl)

four_of_none : (a b c d : Bool) → a ≡ false → b ≡ false → c ≡ false → d ≡ false → (if a then Some Own else if b then Some Mul else if c then Some And else if d then Some Pair else None) ≡ None
four_of_none true b c d w x y z = cc
four_of_none false true c d w x y z = cc
four_of_none false false true d w x y z = cc
four_of_none false false false true w x y z = cc
four_of_none false false false false w x y z = refl

no_more : (count taken : ℕ) → nat_lt count taken ≡ false → taken ≤ count
no_more count taken e = grind (arith, nat_tests)

not_more : (count taken : ℕ) → taken ≤ count → nat_lt count taken ≡ false
not_more count taken le = grind (arith, nat_tests)

module _ (p : NormalForm) (l : Labels) (protocols : List Proto) (of_two : IsOfTwo p l protocols) (inputs : List (List ℕ)) (deals : List Deal) where
  abbrev Reaches : ℕ → Source → Type 0
  Reaches g s = (end_of (plan_of p protocols) inputs deals g).cursors s ≤ counts_of deals g s

  none_reach : (g : ℕ) (s : Source) → (end_of (plan_of p protocols) inputs deals g).cursors s ≤ 0 → Reaches g s
  none_reach g s low = omega (arith, low)

  third : (g : ℕ) (s : Source) → 2 ≤ g → Reaches g s
  third g s high = none_reach g s (strangers_take_none p l protocols of_two g s (inl high) (tape_of inputs deals))

  stranger : (g : ℕ) (s : Source) → IsStranger g s → Reaches g s
  stranger g s strange = none_reach g s (strangers_take_none p l protocols of_two g s (inr strange) (tape_of inputs deals))

  -- what a host shares, by its fellow
  with_fellow : (g : ℕ) (make : ℕ → Source) → ((q : ℕ) → q ≢ 1 - g → IsStranger g (make q)) → Reaches g (make (1 - g)) → (q : ℕ) → Reaches g (make q)
  with_fellow g make others fellow q = elim (eqb_tells q (1 - g)) [
    | inl same ↦ subst (λ (r : ℕ). Reaches g (make r)) (sym same.1) fellow
    | inr differ ↦ stranger g (make q) (others q differ.1)
  ]

  abbrev ReachesOf : DealKind → Type 0
  ReachesOf kind = (g : ℕ) → g < 2 → Reaches g (list_at kind g)

  of_kind : (kind : DealKind) → is_short deals (end_of (plan_of p protocols) inputs deals) kind ≡ false → ReachesOf kind
  of_kind kind e zero low =
      no_more (counts_of deals 0 (list_at kind 0)) ((end_of (plan_of p protocols) inputs deals 0).cursors (list_at kind 0))
      (neither (takes_more deals (end_of (plan_of p protocols) inputs deals) kind 0) (takes_more deals (end_of (plan_of p protocols) inputs deals) kind 1) e).0
  of_kind kind e (suc zero) low =
      no_more (counts_of deals 1 (list_at kind 1)) ((end_of (plan_of p protocols) inputs deals 1).cursors (list_at kind 1))
      (neither (takes_more deals (end_of (plan_of p protocols) inputs deals) kind 0) (takes_more deals (end_of (plan_of p protocols) inputs deals) kind 1) e).1
  of_kind kind e (suc (suc g)) low = absurd (omega (arith, low))

  of_four : ReachesOf Own → ReachesOf Mul → ReachesOf And → ReachesOf Pair → (g : ℕ) → g < 2 → (s : Source) → s ≢ Inputs → Reaches g s
  of_four own mul and pair g low Inputs not = absurd (not refl)
  of_four own mul and pair g low OwnWords not = own g low
  of_four own mul and pair g low (Triples q) not = with_fellow g (λ r. Triples r) (λ r n. n) (mul g low) q
  of_four own mul and pair g low (BitTriples q) not = with_fellow g (λ r. BitTriples r) (λ r n. n) (and g low) q
  of_four own mul and pair g low (Pairs q) not = with_fellow g (λ r. Pairs r) (λ r n. n) (pair g low) q

  forth : short_kind (plan_of p protocols) inputs deals ≡ None → TakesNoMore (plan_of p protocols) inputs deals
  forth e g s not =
      let last = end_of (plan_of p protocols) inputs deals in
      let four = none_of_four (is_short deals last Own) (is_short deals last Mul) (is_short deals last And) (is_short deals last Pair) e in
      elim (below_two g) [
        | inl low ↦ of_four (of_kind Own four.0) (of_kind Mul four.1) (of_kind And four.2) (of_kind Pair four.3) g low s not
        | inr high ↦ third g s high
      ]

  not_short : (kind : DealKind) → ((peer : ℕ) → list_of_kind kind peer ≢ Inputs) → TakesNoMore (plan_of p protocols) inputs deals → is_short deals (end_of (plan_of p protocols) inputs deals) kind ≡ false
  not_short kind no_input reach =
      let one = not_more (counts_of deals 0 (list_at kind 0)) ((end_of (plan_of p protocols) inputs deals 0).cursors (list_at kind 0)) (reach 0 (list_at kind 0) (no_input 1)) in
      let other = not_more (counts_of deals 1 (list_at kind 1)) ((end_of (plan_of p protocols) inputs deals 1).cursors (list_at kind 1)) (reach 1 (list_at kind 1) (no_input 0)) in
      ap (λ (b : Bool). b || takes_more deals (end_of (plan_of p protocols) inputs deals) kind 1) one ∙ other

  back : TakesNoMore (plan_of p protocols) inputs deals → short_kind (plan_of p protocols) inputs deals ≡ None
  back reach =
      let last = end_of (plan_of p protocols) inputs deals in
      four_of_none (is_short deals last Own) (is_short deals last Mul) (is_short deals last And) (is_short deals last Pair)
      (not_short Own (λ q e. cc) reach) (not_short Mul (λ q e. cc) reach) (not_short And (λ q e. cc) reach) (not_short Pair (λ q e. cc) reach)

pub short_kinds_are_exact : ShortKindsAreExact
short_kinds_are_exact p l protocols of_two inputs deals = (forth p l protocols of_two inputs deals, back p l protocols of_two inputs deals)
