-- What is stored, of a program and of the text of a source.
use Rattle.std.proofs.Common.{◌≡◌, ℕ, List, ◌++◌, codes, Result, Ok, Err, IsTrue, refl, ap, ◌∙◌}
use Rattle.sha2.specs.Sha256.{sha256}
use Rattle.vd_outside.specs.Files.{FilesView}
use Rattle.vd_outside.specs.declared.stored.Stored.{Stored}
use Rattle.vd_core.specs.declared.normal.NormalForm.{NormalForm}
use Rattle.vd_core.specs.Facts.{IsWellMade}
use Rattle.vd_execution.specs.declared.instructions.Instr.{Instr}
use Rattle.vd_core.specs.Numbers.{NumbersFit}
use Rattle.vd_hostcode.specs.declared.host_text.program.Digest.{Digest}
use Rattle.vd_projection.proofs.Front.{is_digest}
use Rattle.vd_search_stages.specs.declared.optimum.Assignment.{Assignment}
use Rattle.vd_cmd_plan.specs.Labelled.{LabelledForm}
use Rattle.vd_cmd_plan.specs.declared.answer.Answer.{Answer}
use Rattle.vd_cmd_plan.specs.declared.status.Status.{Status}
use Rattle.vd_cmd_plan.specs.declared.status.Status.TheVariants.{Ended}
use Rattle.vd_cmd_choice.specs.Choice.{IsSelected, no_list}
use Rattle.vd_cmd_choice.specs.Programs.{HasText, IsProgramOf}
use Rattle.vd_cmd_compile.specs.Compiling.{host_files}
use Rattle.vd_projection.specs.Early.{AreEarlyCodes}
use Rattle.vd_cmd_compile_early.specs.Compiling.{early_plan_for}
use Rattle.vd_cmd_compile_early.specs.Telling.{TellsPrograms, TellsSource, TellsText}
use Rattle.vd_cmd_compile.proofs.Front.{runnable_of}

abbrev made : List Stored → List ℕ → Answer
made stores printed = record { status = Ended; stores = stores; printed = printed }

module _ (program : NormalForm) (text prefix : List ℕ) where
  -- the plan that was made is that of what is printed
  pub programs_stored : (a : Assignment) (printed seen marked shown : List ℕ) (all : List (List Instr)) (plan : Digest) (form : NormalForm) (stores : List Stored)
      → IsSelected program a → IsWellMade program → NumbersFit program → seen ≡ printed → marked ≡ seen ++ codes "early by round\n" → shown ≡ marked
      → plan.bytes ≡ sha256 (text ++ shown) → form ≡ program → AreEarlyCodes program a.protocols all → stores ≡ host_files prefix form.hosts plan 0 all → TellsPrograms program text prefix (Ok (made stores printed))
  programs_stored a printed seen marked shown all plan form stores selected well numbers q m s b f early is e =
      let behind : shown ≡ printed ++ codes "early by round\n" = s ∙ m ∙ ap (λ (t : List ℕ). t ++ codes "early by round\n") q in
      let digest : plan ≡ early_plan_for text printed = λ i. record { bytes = (b ∙ ap (λ (t : List ℕ). sha256 (text ++ t)) behind) i } in
      record {
        assignment = a;
        selected = selected;
        joint = early.joint;
        early = early.early;
        can_be_stored = λ h lt.
            record {
              runs = record { made = well; numbers = numbers; runnable = runnable_of program a selected a.protocols refl };
              digest = is_digest (text ++ (printed ++ codes "early by round\n"));
              declared = lt;
            };
        stores = is ∙ (λ i. host_files prefix (f i).hosts (digest i) 0 (early.codes_are i));
      }

-- where no assignment is valid, nothing is stored
pub none_told : (text prefix : List ℕ) (form : LabelledForm) (answer : Answer) → answer ≡ no_list form → TellsText text prefix (Ok answer)
none_told text prefix form answer none e = let status = ap (λ (a : Answer). a.status) none in absurd (cc status)

-- what is stored of the program that is run is stored of the text
pub run_told : (text prefix : List ℕ) (program : NormalForm) (result : Result Answer Status) → IsProgramOf text program → TellsPrograms program text prefix result → TellsText text prefix result
run_told text prefix program (Ok answer) of tells = λ e. record { source = of.source; read = of.read; program = program; is_run = of.is_run; tells = of.tells; programs = tells e }
run_told text prefix program (Err status) of tells = tt

-- and of the file that has this text
pub source_stored : (name prefix : List ℕ) (before : FilesView) (text : List ℕ) (result : Result Answer Status) → (IsTrue before.told → HasText name before.contents text)
    → TellsText text prefix result → TellsSource name prefix before result
source_stored name prefix before text (Ok answer) has tells = λ t e. record { bytes = text; is_fetched = has t; holds = tells e }
source_stored name prefix before text (Err status) has tells = λ t. tt
