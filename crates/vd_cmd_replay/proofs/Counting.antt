-- What is counted of a program's hosts, of a source's, and of the files.
use Rattle.std.proofs.Common.{◌≡◌, ℕ, IsTrue, Option, Some, Result, Ok, Err, OnOk, sym, ap, ◌∙◌, subst}
use Rattle.vd_outside.specs.Files.{FilesView, Contents}
use Rattle.vd_core.specs.declared.normal.NormalForm.{NormalForm}
use Rattle.vd_cmd.specs.declared.command.ReplayWords.{ReplayWords}
use Rattle.vd_search_stages.specs.declared.optimum.Assignment.{Assignment}
use Rattle.vd_cmd_plan.specs.Labelled.{LabelledForm}
use Rattle.vd_cmd_plan.specs.declared.answer.Answer.{Answer}
use Rattle.vd_cmd_plan.specs.declared.status.Status.{Status}
use Rattle.vd_cmd_plan.specs.declared.status.Status.TheVariants.{Ended, NoAssignment}
use Rattle.vd_cmd_plan.proofs.Front.{step_keeps, step_tells}
use Rattle.vd_cmd_labels.proofs.Front.{some_labels, some_texts}
use Rattle.vd_cmd_choice.specs.Programs.{HoldsProgram, LoadsProgram, program_then}
use Rattle.vd_cmd_choice.specs.Choice.{IsSelected, no_list}
use Rattle.vd_cmd_files.specs.declared.run_files.RunFiles.{RunFiles}
use Rattle.vd_cmd_files.specs.Asking.{HoldAsked}
use Rattle.vd_cmd_replay.specs.Counting.{CountsOf, CountsReplay, IsCount, packets_for}

-- at the choice of protocols
pub choice_counted : (program : NormalForm) (a : Assignment) (asked : RunFiles) (packets : Option ℕ) (result : Result Answer Status) → IsSelected program a
    → OnOk result (packets ≡ Some (packets_for program a.protocols asked)) → CountsOf program asked packets result
choice_counted program a asked packets (Ok answer) selected is = λ e. record { assignment = a; selected = selected; packets_are = is }
choice_counted program a asked packets (Err status) selected is = tt

-- where no list is valid, nothing is counted
pub none_counted : (program : NormalForm) (asked : RunFiles) (packets : Option ℕ) (found : LabelledForm) (answer : Answer) → answer ≡ no_list found → CountsOf program asked packets (Ok answer)
none_counted program asked packets found answer is = λ e. let wrong : NoAssignment found ≡ Ended = sym (ap (λ (a : Answer). a.status) is) ∙ e in absurd (cc wrong)

-- of the source, whose files say the same after it was fetched
pub replay_counted : (words : ReplayWords) (before mid : FilesView) (packets : Option ℕ) (program form chosen : NormalForm) (asked : RunFiles) (result : Result Answer Status) → LoadsProgram words.source before mid (Ok program)
    → (IsTrue before.told → HoldsProgram words.source before.contents program) → form ≡ program → (IsTrue mid.told → HoldAsked words form.hosts mid.contents asked) → chosen ≡ program → CountsOf chosen asked packets result
    → CountsReplay words before packets result
replay_counted words before mid packets program form chosen asked (Ok answer) loads held same held_asked is_chosen counts = λ t e.
    let step = program_then some_texts some_labels words.source in
    let is = held t in
    record {
      source = is.holds.source;
      is_source = record { bytes = is.bytes; is_fetched = is.is_fetched; holds = is.holds.read };
      program = program;
      is_run = is.holds.is_run;
      count = record {
        asked = asked;
        held =
            subst (λ (files : Contents). HoldAsked words program.hosts files asked) (step_keeps step before mid program (loads some_texts some_labels) t)
            (subst (λ (f : NormalForm). HoldAsked words f.hosts mid.contents asked) same (held_asked (step_tells step before mid program (loads some_texts some_labels) t)));
        count = subst (λ (p : NormalForm). IsCount p asked packets) is_chosen (counts e);
      };
    }
replay_counted words before mid packets program form chosen asked (Err status) loads held same held_asked is_chosen counts = λ t. tt
