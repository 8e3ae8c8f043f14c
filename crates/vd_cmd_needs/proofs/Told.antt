-- What is told of needs.
use Rattle.std.proofs.Common.{◌≡◌, ℕ, List, [], Result, Ok, Err, IfOk, refl, sym, ap, ◌∙◌, subst}
use Rattle.vd_base.specs.declared.protocols.Proto.{Proto}
use Rattle.vd_base.specs.Limits.{most_host_file_bytes}
use Rattle.vd_outside.specs.Files.{FilesView}
use Rattle.vd_core.specs.declared.normal.NormalForm.{NormalForm}
use Rattle.vd_core.specs.Facts.{IsWellMade}
use Rattle.vd_core.specs.Numbers.{NumbersFit}
use Rattle.vd_execution.specs.Code.{Code}
use Rattle.vd_execution.specs.Joint.{Joint, IsTidy, code_of}
use Rattle.vd_execution.specs.Step.{Source as Listed}
use Rattle.vd_execution.specs.Text.{IsCodeOf}
use Rattle.vd_deal_needs.specs.DealNeedsLawsNeeds.{counts, takes}
use Rattle.vd_deal_needs.proofs.Front.{read_off}
use Rattle.vd_deal_needs.specs.Counted.{code_in}
use Rattle.vd_hostcode.specs.declared.host_text.program.HostProgram.{HostProgram}
use Rattle.vd_hostcode.specs.Outcome.{CanRun, IsOutcome}
use Rattle.vd_projection.specs.Programs.{CanRunAt, joint_of}
use Rattle.vd_rounds.proofs.Front.{hosts_tell_within, schedules_tell_within}
use Rattle.vd_cmd.specs.declared.command.NeedsKind.{NeedsKind}
use Rattle.vd_cmd_needs.proofs.Rounding.{code_of_host}
use Rattle.vd_deal_needs.specs.Enough.{sizes_for}
use Rattle.vd_deal_needs.proofs.Front.{code_is, of_can_run, sizes_are_enough, sizes_are_least, deals_have_their_sizes}
use Rattle.vd_cmd.specs.declared.command.NeedsWords.{NeedsWords}
use Rattle.vd_search_stages.specs.declared.optimum.Assignment.{Assignment}
use Rattle.vd_cmd_plan.specs.Labelled.{LabelledForm}
use Rattle.vd_cmd_plan.specs.Loads.{Loads}
use Rattle.vd_cmd_plan.specs.Plans.{Computes, ended}
use Rattle.vd_cmd_plan.specs.declared.answer.Answer.{Answer}
use Rattle.vd_cmd_plan.specs.declared.status.Status.{Status}
use Rattle.vd_cmd_plan.specs.declared.status.Status.TheVariants.{Ended, NoAssignment}
use Rattle.vd_cmd_plan.proofs.Front.{loaded_is}
use Rattle.vd_cmd_choice.specs.Choice.{IsSelected, no_list}
use Rattle.vd_cmd_choice.specs.Programs.{IsProgramOf}
use Rattle.vd_cmd_compile.proofs.Front.{runnable_of}
use Rattle.vd_cmd_needs.specs.Needing.{needs_text, program_text}
use Rattle.vd_cmd_needs.specs.Telling.{IsNeedsOf, IsNeedsOfBytes, IsNeedsOfHost, OfHost, OfSource, TellsBytes, TellsHost, TellsNeeds, TellsProgram, TellsText}

-- ---- with a list of protocols

module _ (kind : NeedsKind) (program : NormalForm) (a : Assignment) (made : IsWellMade program) (numbers : NumbersFit program) (selected : IsSelected program a) where
  can : CanRunAt program a.protocols
  can = record { made = made; numbers = numbers; runnable = runnable_of program a selected a.protocols refl }

  is_needs : (printed : List ℕ) → printed ≡ needs_text kind program a.protocols → IsNeedsOf kind program printed
  is_needs printed line = record {
    assignment = a;
    selected = selected;
    line = line;
    enough = sizes_are_enough program a.protocols can;
    made = deals_have_their_sizes (sizes_for program a.protocols);
    least = sizes_are_least program a.protocols can;
    codes = code_of_host program a.protocols can;
    tells = λ s turns h. schedules_tell_within s (joint_of program a.protocols) turns h;
  }

  pub needs_told : (answer : Answer) (printed : List ℕ) (protocols : List Proto) → answer ≡ ended [] printed → printed ≡ needs_text kind program protocols → protocols ≡ a.protocols → IsNeedsOf kind program answer.printed
  needs_told answer printed protocols is line same =
      is_needs answer.printed (ap (λ (x : Answer). x.printed) is ∙ line ∙ ap (λ (l : List Proto). needs_text kind program l) same)

-- the answer that prints a text
pub prints : (answer : Answer) (printed wanted : List ℕ) → answer ≡ ended [] printed → printed ≡ wanted → Computes (ended [] wanted) (Ok answer)
prints answer printed wanted is same =
    subst (λ (a : Answer). Computes (ended [] wanted) (Ok a)) (sym (is ∙ ap (λ (t : List ℕ). ended [] t) same)) (record { proper = (tt, refl); no_fault = λ file e. cc e; settled = refl })

-- it is told of the program, whatever the status
pub told_then : (kind : NeedsKind) (program : NormalForm) (result : Result Answer Status) → IfOk result (λ answer. IsNeedsOf kind program answer.printed) → TellsProgram kind program result
told_then kind program (Ok answer) is = λ e. is
told_then kind program (Err status) is = tt

-- where no list is valid, nothing is told
pub none_told : (kind : NeedsKind) (program : NormalForm) (form : LabelledForm) (answer : Answer) → answer ≡ no_list form → TellsProgram kind program (Ok answer)
none_told kind program form answer is = λ e. let wrong : NoAssignment form ≡ Ended = sym (ap (λ (a : Answer). a.status) is) ∙ e in absurd (cc wrong)

-- ---- with the text of a source

pub text_told : (words : NeedsWords) (bytes : List ℕ) (program : NormalForm) (result : Result Answer Status) → IsProgramOf bytes program → TellsProgram words.kind program result → TellsText words bytes result
text_told words bytes program (Ok answer) of tells = λ e. record { source = of.source; text = of.read; program = program; is_run = of.is_run; needs = tells e }
text_told words bytes program (Err status) of tells = tt

-- ---- with the program of a host

host_taken : (program : HostProgram) (j : Joint) (list : Listed) → IsTidy j → IsCodeOf program.code (code_of program.me.0 j) → takes j program.me.0 list ≡ counts (code_in program.code) list
host_taken program j list tidy is =
    sym (read_off j program.me.0 list tidy) ∙ ap (λ (c : Code). counts c list) (sym (code_is program.code (code_of program.me.0 j) is))

host_is : (kind : NeedsKind) (bytes : List ℕ) (program : HostProgram) (printed : List ℕ) → IsOutcome bytes (Ok program) → CanRun program → printed ≡ program_text kind program
    → IsNeedsOfHost kind bytes printed
host_is kind bytes program printed read runs line =
    record { program = program; read = read; line = line; nested = (of_can_run program runs).nested; taken = host_taken program; tells = hosts_tell_within (code_in program.code) }

pub host_told : (kind : NeedsKind) (bytes : List ℕ) (program : HostProgram) (result : Result Answer Status) → IsOutcome bytes (Ok program) → CanRun program
    → Computes (ended [] (program_text kind program)) result → TellsHost kind bytes result
host_told kind bytes program (Ok answer) read runs computes = host_is kind bytes program answer.printed read runs (ap (λ (a : Answer). a.printed) computes.settled)
host_told kind bytes program (Err status) read runs computes = tt

-- ---- with the file

pub of_host_told : (words : NeedsWords) (bytes : List ℕ) (result : Result Answer Status) → TellsHost words.kind bytes result → TellsBytes words bytes result
of_host_told words bytes (Ok answer) tells = λ e. OfHost tells
of_host_told words bytes (Err status) tells = tt

pub of_text_told : (words : NeedsWords) (bytes : List ℕ) (result : Result Answer Status) → TellsText words bytes result → TellsBytes words bytes result
of_text_told words bytes (Ok answer) tells = λ e. OfSource (tells e)
of_text_told words bytes (Err status) tells = tt

pub file_told : (words : NeedsWords) (before now : FilesView) (bytes seen : List ℕ) (result : Result Answer Status) → Loads words.file most_host_file_bytes before now (Ok bytes) → seen ≡ bytes
    → TellsBytes words seen result → TellsNeeds words before result
file_told words before now bytes seen (Ok answer) loads same tells = λ t e.
    loaded_is words.file most_host_file_bytes before now bytes seen (λ b. IsNeedsOfBytes words.kind b answer.printed) loads same (tells e) t
file_told words before now bytes seen (Err status) loads same tells = λ t. tt
