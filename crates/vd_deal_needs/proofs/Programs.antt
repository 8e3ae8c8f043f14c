-- How many items the hosts of a program take.
use Rattle.std.proofs.Common.{◌≡◌, ℕ, ◌*◌, ◌≤◌, List, length, refl, sym, ap, subst, arith}
use Rattle.vd_base.specs.declared.protocols.Proto.{Proto}
use Rattle.vd_base.specs.Limits.{most_deal_items}
use Rattle.vd_base.specs.Holders.{proto_in}
use Rattle.vd_core.specs.declared.normal.NormalForm.{NormalForm}
use Rattle.vd_core.specs.Facts.{weigh_all, weigh_step, weight_sum}
use Rattle.vd_execution.specs.Plans.{joint_of}
use Rattle.vd_execution.specs.Step.{Source, BitTriples, OwnWords, Pairs, Triples}
use Rattle.vd_split.specs.Block.{block_of}
use Rattle.vd_split.specs.Emission.{Emission, block_emission, emitting_at_start, in_turn, stmt_emission}
use Rattle.vd_split.proofs.Front.{fold_each}
use Rattle.vd_deal_needs.specs.DealNeedsLawsNeeds.{takes}
use Rattle.vd_backend_laws.specs.Parts.{suite_calls}
use Rattle.vd_projection.specs.Programs.{CanRunAt}
use Rattle.vd_projection.proofs.Front.{proto_over, runnable_over}
use Rattle.vd_projection.specs.Statements.{all_of}
use Rattle.vd_projection.proofs.Front.{statements_make_few}
use Rattle.vd_deal_needs.proofs.Measured.{count_needs, counted, own_below, shared_below, taken}
use Rattle.vd_deal_needs.specs.Items.{ItemsAreFew, SmallProgramsCanBeDealt, most_executed, most_items}
use Rattle.vd_deal_needs.proofs.DealNeedsLimitsBlocks.{block_takes, weight_of}

pub items_are_few : ItemsAreFew
items_are_few program proto made over h r =
    let n = length program.hosts in
    let s = suite_calls n in
    let b = block_of program.body in
    let start = emitting_at_start s proto in
    let all = block_takes n proto h r b start (statements_make_few program proto made over) 1 in
    let same : block_emission s proto program.body ≡ all_of n proto b = ap (in_turn s proto) (fold_each (stmt_emission s proto) program.body) in
    let whole = subst (λ (f : Emission s proto). 1 * takes (joint_of (f.emit start).tree) h r ≤ 1024 * weight_of 1 b) (sym same) all in
    let weights : weight_of 1 b ≡ weight_sum program.body = sym (ap (λ ws. weigh_all ws 1) (fold_each weigh_step program.body)) in
    few _ _ _ whole weights
  where
    few : (t a b : ℕ) → 1 * t ≤ 1024 * a → a ≡ b → t ≤ 1024 * b
    few t a b p e = omega (arith, p, e)

module _ (program : NormalForm) (list : List Proto) (can : CanRunAt program list) where
  -- at the list's protocols
  few_at : (h : ℕ) (r : Source) → counted program list can h r ≤ most_items * weight_sum program.body
  few_at h r =
      let all = taken program list can h r in
      at _ _ _ all (items_are_few program (proto_in list) can.made (proto_over program list can.made (runnable_over program list can.made can.runnable)) h r)
    where
      at : (t c n : ℕ) → t ≡ c → t ≤ n → c ≤ n
      at t c n e p = omega (arith, e, p)

  module _ (small : weight_sum program.body ≤ most_executed) where
    pub within : (h : ℕ) (r : Source) → counted program list can h r ≤ most_deal_items
    within h r = at _ _ (few_at h r) small
      where
        at : (c w : ℕ) → c ≤ 1024 * w → w ≤ 1024 → c ≤ 1048576
        at c w p q = omega (arith, p, q)

nothing_fits : 0 ≤ most_deal_items
nothing_fits = omega arith

pub small_programs_can_be_dealt : SmallProgramsCanBeDealt
small_programs_can_be_dealt program list can small =
    let count = count_needs program list can in
    let limit = can.made.limits.hosts in
    record {
      hosts = omega (arith, count, limit);
      own = own_below program list can most_deal_items (λ h lt. within program list can small h OwnWords);
      muls = shared_below program list can (λ s. s.muls) (λ s t. refl) most_deal_items nothing_fits (λ h p lt there. within program list can small h (Triples p));
      ands = shared_below program list can (λ s. s.ands) (λ s t. refl) most_deal_items nothing_fits (λ h p lt there. within program list can small h (BitTriples p));
      pairs = shared_below program list can (λ s. s.pairs) (λ s t. refl) most_deal_items nothing_fits (λ h p lt there. within program list can small h (Pairs p));
    }
