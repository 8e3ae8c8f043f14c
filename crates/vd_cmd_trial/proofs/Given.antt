-- The inputs and the deals of a trial are words, and are those of so many hosts.
use Rattle.std.proofs.Common.{◌≡◌, ℕ, zero, suc, ◌^◌, ◌<◌, ◌≤◌, true, false, List, [], length, inl, inr, sym, subst, arith}
use Rattle.std.specs.Prelude.{slice_index, slice_index_or}
use Rattle.std.proofs.lemmas.Bool.{cases_lt}
use Rattle.std.proofs.lemmas.List.{get_or_past}
use Rattle.std.proofs.lemmas.List.Elements.{All-get_or}
use Rattle.std.proofs.lemmas.List.FromFn.{length-map-range_with_len}
use Rattle.vd_tape.specs.declared.deal_items.deal.Deal.{Deal}
use Rattle.vd_tape.specs.Validity.{AreDeals}
use Rattle.vd_tape.specs.Made.{first_of, made_deals}
use Rattle.vd_tape.proofs.Front.{all_first, count_of_deals, deals_of}
use Rattle.vd_deal_needs.specs.declared.taking.HostNeeds.{HostNeeds}
use Rattle.vd_deal_needs.specs.Sizes.{sizes_of}
use Rattle.vd_base.specs.Limits.{most_hosts}
use Rattle.vd_cmd_files.specs.declared.run_files.RunFiles.{RunFiles}
use Rattle.vd_cmd_files.specs.Asking.{AreAsked}
use Rattle.vd_base.specs.Words.{InputsAreWords}
use Rattle.vd_cmd_trial.specs.Trial.{asked_by, most_inputs, trial_input, trial_inputs, trial_words}

-- ---- inputs

-- what holds of each value of a function, and where there is none, holds at every place
at_each : {X : Type 0} (P : X → Type 0) (n : ℕ) (f : ℕ → X) (none : X) → ((k : ℕ) → k < n → P (f k)) → P none → (i : ℕ) → P (slice_index_or (first_of n f) i none)
at_each P n f none each past i = elim (cases_lt i (length (first_of n f))) [
  | inl lt ↦ All-get_or P (first_of n f) i none lt (all_first P n f each)
  | inr le ↦ subst P (sym (get_or_past (first_of n f) i none le)) past
]

input_below : (many host number : ℕ) → many ≤ 2 ^ 32 → number < many → trial_input host number < 2 ^ 32
input_below many zero number most below = omega (arith, most, below)
input_below many (suc host) number most below = omega arith

inputs_are_words : (hosts many : ℕ) → many ≤ 2 ^ 32 → InputsAreWords (trial_inputs hosts many)
inputs_are_words hosts many most =
    at_each (λ (words : List ℕ). (i : ℕ) → slice_index words i < 2 ^ 32) hosts (trial_words many) []
    (λ host declared. at_each (λ (x : ℕ). x < 2 ^ 32) many (trial_input host) 0 (λ number below. input_below many host number most below) (omega arith)) (λ i. omega arith)

count_of_inputs : (hosts many : ℕ) → length (trial_inputs hosts many) ≡ hosts
count_of_inputs hosts many = length-map-range_with_len (trial_words many) 0 hosts

-- ---- all of it

are_asked : (needs : List HostNeeds) (key : ℕ) → length needs ≤ most_hosts → most_inputs needs ≤ 2 ^ 32 → AreDeals (asked_by needs key).deals → AreAsked (length needs) (asked_by needs key)
are_asked needs key few most are = record {
  few = few;
  inputs = count_of_inputs (length needs) (most_inputs needs);
  words = inputs_are_words (length needs) (most_inputs needs) most;
  all = count_of_deals (sizes_of needs) key;
  deals = deals_of (sizes_of needs) key are;
}

abbrev asked_with : List (List ℕ) → List Deal → RunFiles
asked_with inputs deals = record { inputs = inputs; deals = deals; schedule = record { entries = []; all = true }; messages = false }

pub asked_again : (needs : List HostNeeds) (key : ℕ) → length needs ≤ most_hosts → most_inputs needs ≤ 2 ^ 32 → (inputs : List (List ℕ)) (deals : List Deal)
    → inputs ≡ trial_inputs (length needs) (most_inputs needs) → deals ≡ made_deals (sizes_of needs) key → AreDeals deals → AreAsked (length needs) (asked_with inputs deals)
asked_again needs key few most inputs deals same made are =
    let asked : asked_with inputs deals ≡ asked_by needs key = λ i. asked_with (same i) (made i) in
    subst (AreAsked (length needs)) (sym asked) (are_asked needs key few most (subst AreDeals made are))
