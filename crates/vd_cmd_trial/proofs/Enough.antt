-- A program whose statements are executed few times can be dealt for, and what a trial gives its hosts suffices.
use Rattle.std.proofs.Common.{◌≡◌, ℕ, ◌<◌, ◌≤◌, inl, inr, List, [], length, get_or, Result, Ok, Err, IfOk, refl, sym, ap, ◌∙◌, subst, arith}
use Rattle.std.proofs.lemmas.Bool.{cases_lt}
use Rattle.std.proofs.lemmas.List.FromFn.{get_or-map-range_with_len, length-map-range_with_len}
use Rattle.vd_base.specs.declared.protocols.Proto.{Proto}
use Rattle.vd_base.specs.Limits.{most_deal_items}
use Rattle.vd_core.specs.declared.normal.NormalForm.{NormalForm}
use Rattle.vd_core.specs.Facts.{IsWellMade, weight_sum}
use Rattle.vd_core.specs.Numbers.{NumbersFit}
use Rattle.vd_tape.specs.Validity.{IsConsistent}
use Rattle.vd_tape.specs.Made.{AreCounts, number_key}
use Rattle.vd_tape.specs.Text.{AreDealsOf}
use Rattle.vd_execution.specs.Code.{Code}
use Rattle.vd_execution.specs.Step.{Inputs}
use Rattle.vd_backend_laws.specs.Whole.{inputs_of}
use Rattle.vd_deal_needs.specs.DealNeedsLawsNeeds.{counts}
use Rattle.vd_deal_needs.specs.declared.taking.HostNeeds.{HostNeeds}
use Rattle.vd_deal_needs.proofs.Front.{above, below}
use Rattle.vd_projection.specs.Programs.{CanRunAt, joint_of}
use Rattle.vd_projection.proofs.Front.{ended_past}
use Rattle.vd_world.specs.Supplies.{AreFiles}
use Rattle.vd_deal_needs.specs.Enough.{HandInEnough, needs_for, sizes_for}
use Rattle.vd_deal_needs.proofs.Front.{sizes_are_enough, deals_have_their_sizes, count_needs, counted, needs_at, taken}
use Rattle.vd_deal_needs.specs.Items.{most_executed}
use Rattle.vd_deal_needs.proofs.Front.{small_programs_can_be_dealt, within}
use Rattle.vd_search_stages.specs.declared.optimum.Assignment.{Assignment}
use Rattle.vd_cmd_choice.specs.Choice.{IsSelected}
use Rattle.vd_cmd_compile.proofs.Front.{runnable_of}
use Rattle.vd_cmd_files.specs.declared.run_files.RunFiles.{RunFiles}
use Rattle.vd_cmd_files.specs.Asking.{AreAsked}
use Rattle.vd_cmd_trial.specs.Trial.{Suffice, asked_by, most_inputs, trial_asked, trial_input, trial_inputs, trial_words}

pub splits : (program : NormalForm) (a : Assignment) → IsWellMade program → NumbersFit program → IsSelected program a → CanRunAt program a.protocols
splits program a made numbers selected = record { made = made; numbers = numbers; runnable = runnable_of program a selected a.protocols refl }

module _ (program : NormalForm) (list : List Proto) (can : CanRunAt program list) where
  pub can_be_dealt : weight_sum program.body ≤ most_executed → AreCounts (sizes_for program list)
  can_be_dealt few = small_programs_can_be_dealt program list can few

  abbrev all_needs : List HostNeeds
  all_needs = needs_for program list

  count : length all_needs ≡ length program.hosts
  count = count_needs program list can

  -- ---- inputs

  inputs_within : (h : ℕ) → h < length program.hosts → counted program list can h Inputs ≤ most_inputs all_needs
  inputs_within h lt =
      let d : HostNeeds = record { inputs = 0; own = 0; shared = [] } in
      let n = count in
      let e : (get_or all_needs h d).inputs ≡ counted program list can h Inputs = ap (λ (x : HostNeeds). x.inputs) (needs_at program list can h d lt) in
      let a = above (λ (x : HostNeeds). x.inputs) 0 all_needs h d (omega (arith, lt, n)) in
      omega (arith, e, a)

  handed_in : (h : ℕ) → h < length all_needs → length (inputs_of (trial_inputs (length all_needs) (most_inputs all_needs)) h) ≡ most_inputs all_needs
  handed_in h lt =
      ap (λ (words : List ℕ). length words) (get_or-map-range_with_len (trial_words (most_inputs all_needs)) 0 (length all_needs) h h [] lt (omega arith))
      ∙ length-map-range_with_len (trial_input h) 0 (most_inputs all_needs)

  hand_in : HandInEnough (joint_of program list) (trial_inputs (length all_needs) (most_inputs all_needs))
  hand_in h =
      let all = taken program list can h Inputs in
      let n = count in
      elim (cases_lt h (length program.hosts)) [
        | inl lt ↦ some _ _ _ _ all (inputs_within h lt) (handed_in h (omega (arith, lt, n)))
        | inr past ↦ none _ _ _ all (ap (λ (c : Code). counts c Inputs) (ended_past program list can h past))
      ]
    where
      some : (t c m l : ℕ) → t ≡ c → c ≤ m → l ≡ m → t ≤ l
      some t c m l e p f = omega (arith, e, p, f)

      none : (t c l : ℕ) → t ≡ c → c ≡ 0 → t ≤ l
      none t c l e f = omega (arith, e, f)

  -- each host takes few inputs
  pub inputs_few : weight_sum program.body ≤ most_executed → most_inputs all_needs ≤ most_deal_items
  inputs_few few =
      let n = count in
      below (λ (x : HostNeeds). x.inputs) 0 most_deal_items all_needs (omega arith)
      (λ h d lt. at _ _ (ap (λ (x : HostNeeds). x.inputs) (needs_at program list can h d (omega (arith, lt, n)))) (within program list can few h Inputs))
    where
      at : (a b : ℕ) → a ≡ b → b ≤ 1048576 → a ≤ 1048576
      at a b e p = omega (arith, e, p)

  -- ---- inputs and deals together

  are_files : (asked : RunFiles) → AreAsked (length all_needs) asked → IsConsistent asked.deals → AreFiles asked.inputs asked.deals
  are_files asked are consistent =
      let inputs = are.inputs in
      let all = are.all in
      record {
        words = are.words;
        few = omega (arith, inputs, all);
        dealt = subst (λ (n : ℕ). AreDealsOf n asked.deals) (sym all) are.deals;
        consistent = consistent;
      }

  suffice : (coordinates : ℕ) → AreAsked (length all_needs) (trial_asked coordinates program list) → IsConsistent (trial_asked coordinates program list).deals
      → Suffice program list (trial_asked coordinates program list)
  suffice coordinates are consistent =
      let asked = trial_asked coordinates program list in
      (sizes_are_enough program list can asked.inputs asked.deals (are_files asked are consistent) (are.all ∙ count) hand_in (deals_have_their_sizes (sizes_for program list) (number_key coordinates))).suffices

-- ---- where so much is asked for

pub made_there : {E : Type 0} (coordinates : ℕ) (program : NormalForm) (list : List Proto) (needs : List HostNeeds) (result : Result RunFiles E) → needs ≡ needs_for program list → IfOk result (λ asked. asked ≡ asked_by needs coordinates)
    → IfOk result (λ asked. asked ≡ trial_asked coordinates program list)
made_there coordinates program list needs (Ok asked) same made = made ∙ ap (λ (n : List HostNeeds). asked_by n coordinates) same
made_there coordinates program list needs (Err e) same made = tt

pub asked_there : {E : Type 0} (program : NormalForm) (list : List Proto) → CanRunAt program list → (needs : List HostNeeds) (result : Result RunFiles E) → needs ≡ needs_for program list → IfOk result (AreAsked (length needs))
    → IfOk result (AreAsked (length program.hosts))
asked_there program list can needs (Ok asked) same are = subst (λ (n : ℕ). AreAsked n asked) (ap (λ (l : List HostNeeds). length l) same ∙ count program list can) are
asked_there program list can needs (Err e) same are = tt

pub suffice_there : {E : Type 0} (coordinates : ℕ) (program : NormalForm) (list : List Proto) → CanRunAt program list → (needs : List HostNeeds) (result : Result RunFiles E) → needs ≡ needs_for program list
    → IfOk result (λ asked. asked ≡ asked_by needs coordinates) → IfOk result (AreAsked (length needs)) → IfOk result (λ asked. IsConsistent asked.deals) → IfOk result (Suffice program list)
suffice_there coordinates program list can needs (Ok asked) same made are consistent =
    let there : asked ≡ trial_asked coordinates program list = made ∙ ap (λ (n : List HostNeeds). asked_by n coordinates) same in
    let all : AreAsked (length (needs_for program list)) asked = subst (λ (l : List HostNeeds). AreAsked (length l) asked) same are in
    subst (Suffice program list) (sym there)
    (suffice program list can coordinates (subst (AreAsked (length (needs_for program list))) there all) (subst (λ (a : RunFiles). IsConsistent a.deals) there consistent))
suffice_there coordinates program list can needs (Err e) same made are consistent = tt
