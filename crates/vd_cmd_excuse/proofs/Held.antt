-- What is told of a program's run, and of the files.
use Rattle.std.proofs.Common.{◌≡◌, IsTrue, Result, Ok, Err, subst}
use Rattle.vd_outside.specs.Files.{FilesView, Contents}
use Rattle.vd_core.specs.declared.normal.NormalForm.{NormalForm}
use Rattle.vd_cmd.specs.declared.command.ExcuseWords.{ExcuseWords}
use Rattle.vd_cmd_plan.specs.declared.answer.Answer.{Answer}
use Rattle.vd_cmd_plan.specs.declared.status.Status.{Status}
use Rattle.vd_cmd_plan.proofs.Front.{step_keeps, step_tells}
use Rattle.vd_cmd_labels.proofs.Front.{some_labels, some_texts}
use Rattle.vd_cmd_choice.specs.Programs.{HoldsProgram, LoadsProgram, program_then}
use Rattle.vd_cmd_excuse.specs.declared.runs.Runs.{Runs}
use Rattle.vd_cmd_excuse.specs.Runs.{HoldRuns}
use Rattle.vd_cmd_excuse.specs.Telling.{TellsExcuse, TellsOf}

-- The program is the one that is run for a source, and the files say the same after that was fetched.
pub excuse_told : (words : ExcuseWords) (before mid : FilesView) (program form : NormalForm) (runs : Runs) (result : Result Answer Status) → LoadsProgram words.source before mid (Ok program)
    → (IsTrue before.told → HoldsProgram words.source before.contents program) → form ≡ program → (IsTrue mid.told → HoldRuns words form.hosts mid.contents runs)
    → TellsOf words.host words.out program runs result → TellsExcuse words before result
excuse_told words before mid program form runs (Ok answer) loads held same held_runs tells = λ t e.
    let step = program_then some_texts some_labels words.source in
    let is = held t in
    record {
      source = is.holds.source;
      is_source = record { bytes = is.bytes; is_fetched = is.is_fetched; holds = is.holds.read };
      program = program;
      is_run = is.holds.is_run;
      excuse = record {
        runs = runs;
        held =
            subst (λ (files : Contents). HoldRuns words program.hosts files runs) (step_keeps step before mid program (loads some_texts some_labels) t)
            (subst (λ (f : NormalForm). HoldRuns words f.hosts mid.contents runs) same (held_runs (step_tells step before mid program (loads some_texts some_labels) t)));
        excuse = tells e;
      };
    }
excuse_told words before mid program form runs (Err status) loads held same held_runs tells = λ t. tt
