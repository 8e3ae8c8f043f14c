-- The step that reads both inputs and the deals, made of three.
use Rattle.std.proofs.Common.{◌≡◌, ◌≤◌, ℕ, IsTrue, List, length, Ok, Err, ◌∙◌, subst}
use Rattle.vd_base.specs.Limits.{most_hosts}
use Rattle.vd_outside.specs.Files.{FilesView, Contents}
use Rattle.vd_cmd.specs.declared.command.ExcuseWords.{ExcuseWords}
use Rattle.vd_tape.specs.Text.{AreDealsOf}
use Rattle.vd_cmd_plan.specs.Plans.{Plan, ExecutesStep}
use Rattle.vd_cmd_plan.specs.declared.status.Status.{Status}
use Rattle.vd_cmd_plan.proofs.Front.{step_keeps, step_tells}
use Rattle.vd_cmd_labels.specs.Outcomes.{TextOutcomes}
use Rattle.vd_cmd_labels.proofs.Front.{some_texts}
use Rattle.vd_cmd_labels.specs.Inputs.{inputs_then, HoldsInputs}
use Rattle.vd_base.specs.Words.{InputsAreWords}
use Rattle.vd_cmd_excuse.specs.declared.dealing.Dealing.{Dealing}
use Rattle.vd_cmd_excuse.specs.declared.runs.Runs.{Runs}
use Rattle.vd_cmd_excuse.specs.Dealing.{HoldDealing, dealing_then}
use Rattle.vd_cmd_excuse.specs.Runs.{AreRead, HoldRuns, runs_of, runs_then}

module _ (texts : TextOutcomes) (words : ExcuseWords) (names : List (List ℕ)) where
  abbrev after_second : (Runs → Contents → Plan) → (first second : List (List ℕ)) → Contents → Plan
  after_second rest first second = dealing_then words.prefix names (λ dealing. rest (runs_of first second dealing))

  abbrev after_first : (Runs → Contents → Plan) → List (List ℕ) → Contents → Plan
  after_first rest first = inputs_then texts words.second names (after_second rest first)

  module _ (before : FilesView) where
    pub first_refused : (now : FilesView) (status : Status) → ExecutesStep {T = List (List ℕ)} (inputs_then texts words.inputs names) before now (Err status)
        → ExecutesStep {T = Runs} (runs_then texts words names) before now (Err status)
    first_refused now status one = λ rest. one (after_first rest)

    module _ (mid : FilesView) (first : List (List ℕ)) (one : ExecutesStep (inputs_then texts words.inputs names) before mid (Ok first)) where
      pub second_refused : (now : FilesView) (status : Status) → ExecutesStep {T = List (List ℕ)} (inputs_then texts words.second names) mid now (Err status)
          → ExecutesStep {T = Runs} (runs_then texts words names) before now (Err status)
      second_refused now status two = λ rest. one (after_first rest) now (Err status) (two (after_second rest first))

      module _ (late : FilesView) (second : List (List ℕ)) (two : ExecutesStep (inputs_then texts words.second names) mid late (Ok second)) where
        pub deals_refused : (now : FilesView) (status : Status) → ExecutesStep {T = Dealing} (dealing_then words.prefix names) late now (Err status)
            → ExecutesStep {T = Runs} (runs_then texts words names) before now (Err status)
        deals_refused now status three = λ rest.
            one (after_first rest) now (Err status) (two (after_second rest first) now (Err status) (three (λ dealing. rest (runs_of first second dealing))))

        pub all_read : (now : FilesView) (dealing : Dealing) → ExecutesStep (dealing_then words.prefix names) late now (Ok dealing)
            → ExecutesStep (runs_then texts words names) before now (Ok (runs_of first second dealing))
        all_read now dealing three = λ rest last result then.
            one (after_first rest) last result (two (after_second rest first) last result (three (λ d. rest (runs_of first second d)) last result then))

pub are_read : (names seen : List (List ℕ)) (runs : Runs) → length names ≤ most_hosts → seen ≡ names → length runs.first ≡ length names → InputsAreWords runs.first → length runs.second ≡ length names → InputsAreWords runs.second
    → length runs.dealing.deals ≡ length seen → AreDealsOf (length seen) runs.dealing.deals → AreRead (length names) runs
are_read names seen runs few same first first_words second second_words all deals = record {
  few = few;
  first = first;
  second = second;
  first_words = first_words;
  second_words = second_words;
  all = subst (λ (l : List (List ℕ)). length runs.dealing.deals ≡ length l) same all;
  deals = subst (λ (l : List (List ℕ)). AreDealsOf (length l) runs.dealing.deals) same deals;
}

-- each part is what the files said at first, since no part changes a file
pub all_held : (words : ExcuseWords) (names : List (List ℕ)) (before mid late : FilesView) (first second : List (List ℕ)) (dealing : Dealing)
    → ((texts : TextOutcomes) → ExecutesStep (inputs_then texts words.inputs names) before mid (Ok first)) → ((texts : TextOutcomes) → ExecutesStep (inputs_then texts words.second names) mid late (Ok second))
    → (IsTrue before.told → HoldsInputs words.inputs names before.contents first) → (IsTrue mid.told → HoldsInputs words.second names mid.contents second)
    → (IsTrue late.told → HoldDealing words.prefix (length names) late.contents dealing) → length dealing.deals ≡ length names → length dealing.secrets ≡ length names
    → IsTrue before.told → HoldRuns words names before.contents (runs_of first second dealing)
all_held words names before mid late first second dealing one two found_first found_second found_dealing all known t =
    let a = one some_texts in
    let b = two some_texts in
    let mid_told = step_tells (inputs_then some_texts words.inputs names) before mid first a t in
    let mid_same = step_keeps (inputs_then some_texts words.inputs names) before mid first a t in
    let late_told = step_tells (inputs_then some_texts words.second names) mid late second b mid_told in
    let late_same = step_keeps (inputs_then some_texts words.second names) mid late second b mid_told in
    record {
      first = found_first t;
      second = subst (λ (files : Contents). HoldsInputs words.second names files second) mid_same (found_second mid_told);
      dealing = subst (λ (files : Contents). HoldDealing words.prefix (length names) files dealing) (late_same ∙ mid_same) (found_dealing late_told);
      all = all;
      known = known;
    }
