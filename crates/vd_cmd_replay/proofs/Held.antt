-- What is told of a program's report, of a source's, and of the files.
use Rattle.std.proofs.Common.{◌≡◌, ℕ, IsTrue, List, Result, Ok, Err, subst}
use Rattle.vd_outside.specs.Files.{FilesView, Contents}
use Rattle.vd_core.specs.declared.normal.NormalForm.{NormalForm}
use Rattle.vd_semantics.specs.ProgramMeaning.{program_outputs}
use Rattle.vd_semantics.specs.SourceMeaning.{host_names, source_outputs}
use Rattle.vd_cmd.specs.declared.command.ReplayWords.{ReplayWords}
use Rattle.vd_cmd_plan.specs.declared.answer.Answer.{Answer}
use Rattle.vd_cmd_plan.specs.declared.status.Status.{Status}
use Rattle.vd_cmd_plan.proofs.Front.{step_keeps, step_tells}
use Rattle.vd_cmd_labels.proofs.Front.{some_labels, some_texts}
use Rattle.vd_cmd_choice.specs.Programs.{HoldsProgram, LoadsProgram, program_then}
use Rattle.vd_base.specs.Words.{InputsAreWords}
use Rattle.vd_cmd_files.specs.declared.run_files.RunFiles.{RunFiles}
use Rattle.vd_cmd_files.specs.Asking.{HoldAsked}
use Rattle.vd_cmd_replay.specs.Telling.{IsReport, IsReportOf, TellsHeadline, TellsOf}

-- The outputs of a source are those of the program that is run for it, and the files say the same after the source was fetched.
pub headline_told : (words : ReplayWords) (before mid : FilesView) (program form chosen : NormalForm) (asked : RunFiles) (result : Result Answer Status) → LoadsProgram words.source before mid (Ok program)
    → (IsTrue before.told → HoldsProgram words.source before.contents program) → form ≡ program → (IsTrue mid.told → HoldAsked words form.hosts mid.contents asked) → InputsAreWords asked.inputs → chosen ≡ program
    → TellsOf chosen asked result → TellsHeadline words before result
headline_told words before mid program form chosen asked (Ok answer) loads held same held_asked all_words is_chosen tells = λ t e.
    let step = program_then some_texts some_labels words.source in
    let is = held t in
    let source = is.holds.source in
    let told : IsReport program (program_outputs program asked.inputs) asked answer.printed = subst (λ (p : NormalForm). IsReport p (program_outputs p asked.inputs) asked answer.printed) is_chosen (tells e) in
    let report : IsReport program (source_outputs source asked.inputs) asked answer.printed = subst (λ (outputs : List (List ℕ)). IsReport program outputs asked answer.printed) (is.holds.tells asked.inputs all_words) told in
    let names : program.hosts ≡ host_names source.hosts = is.holds.is_run.hosts in
    record {
      held = record {
        source = source;
        is_source = record { bytes = is.bytes; is_fetched = is.is_fetched; holds = is.holds.read };
        asked = asked;
        are_asked =
            subst (λ (hosts : List (List ℕ)). HoldAsked words hosts before.contents asked) names
            (subst (λ (files : Contents). HoldAsked words program.hosts files asked) (step_keeps step before mid program (loads some_texts some_labels) t)
            (subst (λ (f : NormalForm). HoldAsked words f.hosts mid.contents asked) same (held_asked (step_tells step before mid program (loads some_texts some_labels) t))));
      };
      joint = report.joint;
      told = subst (λ (hosts : List (List ℕ)). IsReportOf hosts (source_outputs source asked.inputs) asked report.joint answer.printed) names report.told;
      program = program;
      is_run = is.holds.is_run;
      code = report.code;
    }
headline_told words before mid program form chosen asked (Err status) loads held same held_asked all_words is_chosen tells = λ t. tt
