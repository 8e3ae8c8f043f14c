-- The text of a source is read step by step.
use Rattle.std.proofs.Common.{◌≡◌, ℕ, true, List, Result, Ok, Err, IfOk, subst}
use Rattle.vd_base.specs.Limits.{most_source_bytes}
use Rattle.vd_outside.specs.Files.{Contents, FilesView}
use Rattle.vd_core.specs.declared.normal.NormalForm.{NormalForm}
use Rattle.vd_core.specs.declared.source.Source.{Source}
use Rattle.vd_elaborate.specs.Normal.{normal_form}
use Rattle.vd_parser.specs.Outcomes.{IsParse}
use Rattle.vd_resolve.specs.Limits.{resolution}
use Rattle.vd_cmd_plan.specs.Held.{Finds}
use Rattle.vd_cmd_plan.specs.Loads.{Loads}
use Rattle.vd_cmd_plan.specs.Plans.{Checks, Executes, ExecutesStep, Plan, check_then}
use Rattle.vd_cmd_plan.specs.declared.status.Status.{Status}
use Rattle.vd_cmd_plan.specs.declared.status.Status.TheVariants.{Memory}
use Rattle.vd_cmd_plan.proofs.Front.{loaded_is, any_memory, check_step, load_step}
use Rattle.vd_cmd_labels.specs.Outcomes.{LabelOutcomes, TextOutcomes}
use Rattle.vd_cmd_labels.proofs.Front.{meets}
use Rattle.vd_cmd_labels.specs.Sources.{resolved_of, source_of}
use Rattle.vd_cmd_rewrite.specs.RunPrograms.{IsRunProgram, TellsAs, run_form}
use Rattle.vd_cmd_choice.specs.Programs.{HoldsProgram, IsProgramOf, LoadsProgram, LoadsSourceProgram, ReadsProgram, text_program_then}
use Rattle.vd_cmd_choice.specs.declared.programs.SourceProgram.{SourceProgram}

-- ---- from a text

module _ (texts : TextOutcomes) (least : LabelOutcomes) (name text : List ℕ) (files : FilesView) where
  abbrev step : (NormalForm → Contents → Plan) → Contents → Plan
  step = text_program_then texts least name text

  abbrev with_source : (NormalForm → Contents → Plan) → Source → Contents → Plan
  with_source rest source = rest (run_form least (normal_form source))

  pub tree_refused : (status : Status) → Checks {T = Source} (source_of texts name text) (Err status) → ExecutesStep {T = NormalForm} step files files (Err status)
  tree_refused status reads = λ rest. check_step (source_of texts name text) files (Err status) reads (λ tree. check_then (resolved_of tree) (with_source rest))

  pub rules_refused : (tree : Source) (status : Status) → Checks (source_of texts name text) (Ok tree) → Checks {T = Source} (resolved_of tree) (Err status)
      → ExecutesStep {T = NormalForm} step files files (Err status)
  rules_refused tree status reads resolves = λ rest.
      check_step (source_of texts name text) files (Ok tree) reads (λ t. check_then (resolved_of t) (with_source rest)) files (Err status)
      (check_step (resolved_of tree) files (Err status) resolves (with_source rest))

  pub no_memory : ExecutesStep {T = NormalForm} step files files (Err Memory)
  no_memory = λ rest. any_memory _ files

  pub program_read : (tree source : Source) (program : NormalForm) → Checks (source_of texts name text) (Ok tree) → Checks (resolved_of tree) (Ok source)
      → program ≡ run_form least (normal_form source) → ExecutesStep step files files (Ok program)
  program_read tree source program reads resolves is = λ rest last result then.
      check_step (source_of texts name text) files (Ok tree) reads (λ t. check_then (resolved_of t) (with_source rest)) last result
      (check_step (resolved_of tree) files (Ok source) resolves (with_source rest) last result (subst (λ (p : NormalForm). Executes true (rest p) files last result) is then))

-- the program that is run for a text
pub program_is : (text : List ℕ) (tree source : Source) (program : NormalForm) → IsParse text (Ok tree) → Checks (resolved_of tree) (Ok source) → IsRunProgram source program → TellsAs source program
    → IsProgramOf text program
program_is text tree source program parsed resolves is_run tells =
    let is = meets tree source (resolution tree) (λ i. resolution tree) resolves.ok in
    record {
      source = source;
      read = record { parsed = subst (λ (s : Source). IsParse text (Ok s)) is.0 parsed; meets = subst (λ (s : Source). resolution s ≡ Ok tt) is.0 is.1 };
      is_run = is_run;
      tells = tells;
    }

-- ---- from a file

module _ (name : List ℕ) (before now : FilesView) where
  pub fetch_refused : (status : Status) → Loads name most_source_bytes before now (Err status) → LoadsProgram name before now (Err status)
  fetch_refused status loads texts least = λ rest. load_step name most_source_bytes before now (Err status) loads (λ text. text_program_then texts least name text rest)

  pub program_loaded : (text : List ℕ) (result : Result NormalForm Status) → Loads name most_source_bytes before now (Ok text) → ReadsProgram text result → LoadsProgram name before now result
  program_loaded text (Ok program) loads reads texts least = λ rest last result then.
      load_step name most_source_bytes before now (Ok text) loads (λ t. text_program_then texts least name t rest) last result (reads texts least name now rest last result then)
  program_loaded text (Err status) loads reads texts least = λ rest.
      load_step name most_source_bytes before now (Ok text) loads (λ t. text_program_then texts least name t rest) now (Err status) (reads texts least name now rest)

  pub program_held : (text seen : List ℕ) (result : Result NormalForm Status) → Loads name most_source_bytes before now (Ok text) → seen ≡ text → IfOk result (IsProgramOf seen)
      → Finds before result (HoldsProgram name)
  program_held text seen (Ok program) loads same is t = loaded_is name most_source_bytes before now text seen (λ b. IsProgramOf b program) loads same is t
  program_held text seen (Err status) loads same is t = tt

-- ---- from a file, with its text kept

abbrev with_text : (SourceProgram → Contents → Plan) → (text : List ℕ) → NormalForm → Contents → Plan
with_text rest text program = rest (record { text = text; program = program })

module _ (name : List ℕ) (before now : FilesView) where
  pub source_unfetched : (status : Status) → Loads name most_source_bytes before now (Err status) → LoadsSourceProgram name before now (Err status)
  source_unfetched status loads texts least = λ rest. load_step name most_source_bytes before now (Err status) loads (λ text. text_program_then texts least name text (with_text rest text))

  pub source_unread : (text : List ℕ) (status : Status) → Loads name most_source_bytes before now (Ok text) → ReadsProgram text (Err status) → LoadsSourceProgram name before now (Err status)
  source_unread text status loads reads texts least = λ rest.
      load_step name most_source_bytes before now (Ok text) loads (λ t. text_program_then texts least name t (with_text rest t)) now (Err status) (reads texts least name now (with_text rest text))

  pub source_loaded : (text : List ℕ) (program : NormalForm) → Loads name most_source_bytes before now (Ok text) → ReadsProgram text (Ok program)
      → LoadsSourceProgram name before now (Ok (record { text = text; program = program }))
  source_loaded text program loads reads texts least = λ rest last result then.
      load_step name most_source_bytes before now (Ok text) loads (λ t. text_program_then texts least name t (with_text rest t)) last result (reads texts least name now (with_text rest text) last result then)
