-- The steps in which a command reads its texts.
use Rattle.std.proofs.Common.{◌⊎◌, inl, inr, ◌≡◌, ◌≢◌, ◌≤◌, ℕ, List, length, Result, Ok, Err, refl, ap, ◌∙◌, subst, arith}
use Rattle.vd_base.specs.Limits.{most_source_bytes, most_inputs_bytes}
use Rattle.vd_outside.specs.Files.{FilesView}
use Rattle.vd_core.specs.declared.source.Source.{Source}
use Rattle.vd_parser.specs.Outcomes.{IsParse}
use Rattle.vd_parser.specs.declared.fault.ParseFault.{ParseFault}
use Rattle.vd_parser.specs.declared.fault.ParseFault.TheVariants as parse_fault
use Rattle.vd_parser.proofs.Front.{parses_once, parses_somehow}
use Rattle.vd_solver.proofs.Front.{labelling_of, labelling_is}
use Rattle.vd_resolve.specs.Causes.{resolution_told}
use Rattle.vd_resolve.specs.Faults.{Cause, bare, carried}
use Rattle.vd_resolve.specs.Limits.{resolution}
use Rattle.vd_resolve.specs.Walks.{IsCauseOf}
use Rattle.vd_resolve.specs.declared.fault.NameFault.{NameFault}
use Rattle.vd_resolve.specs.declared.fault.NameFault.TheVariants as name_fault
use Rattle.vd_report.proofs.Front.{follows_grammar}
use Rattle.vd_report.specs.Inputs.{inputs_read}
use Rattle.vd_report.specs.InputsText.{InputsFollowGrammar}
use Rattle.vd_report.specs.declared.fault.ReadFault.{ReadFault}
use Rattle.vd_report.specs.declared.fault.ReadFault.TheVariants as read_fault
use Rattle.vd_cmd_plan.specs.declared.status.Status.{Status}
use Rattle.vd_cmd_plan.specs.declared.status.Status.TheVariants.{Syntax}
use Rattle.vd_cmd_plan.specs.Plans.{Checks, ExecutesStep, IsRefusal, file_then, check_then}
use Rattle.vd_cmd_plan.specs.Refusals.{rule_status}
use Rattle.vd_cmd_plan.specs.Loads.{Loads}
use Rattle.vd_cmd_labels.specs.Outcomes.{TextOutcomes, LabelOutcomes, IsInputs}
use Rattle.vd_cmd_labels.specs.Sources.{as_resolved, as_source, caused, source_of, text_status, tree_then, resolved_of, source_then}
use Rattle.vd_cmd_labels.specs.Inputs.{words_of, inputs_then}
use Rattle.vd_cmd_labels.proofs.Labelled.{solution_is, solution_of}
use Rattle.vd_cmd_plan.proofs.Front.{load_step, check_step, both_steps, first_step}

pub tree_err : (texts : TextOutcomes) (name : List ℕ) (before now : FilesView) (status : Status) → Loads name most_source_bytes before now (Err status) → ExecutesStep {T = Source} (tree_then texts name) before now (Err status)
unfolding tree_then
tree_err texts name before now status l = first_step (file_then name most_source_bytes) (λ bytes. check_then (source_of texts name bytes)) before now status (load_step name most_source_bytes before now (Err status) l)

pub tree_ok : (texts : TextOutcomes) (name bytes seen : List ℕ) (before now : FilesView) (result : Result Source Status) → Loads name most_source_bytes before now (Ok bytes) → seen ≡ bytes → Checks (source_of texts name seen) result → ExecutesStep (tree_then texts name) before now result
unfolding tree_then
tree_ok texts name bytes seen before now result l is c = both_steps (file_then name most_source_bytes) (λ b. check_then (source_of texts name b)) before now now bytes result (load_step name most_source_bytes before now (Ok bytes) l)
    (check_step (source_of texts name bytes) now result (subst (λ (b : List ℕ). Checks (source_of texts name b) result) is c))

pub inputs_err : (texts : TextOutcomes) (name : List ℕ) (hosts : List (List ℕ)) (before now : FilesView) (status : Status) → Loads name most_inputs_bytes before now (Err status) → ExecutesStep {T = List (List ℕ)} (inputs_then texts name hosts) before now (Err status)
unfolding inputs_then
inputs_err texts name hosts before now status l = first_step (file_then name most_inputs_bytes) (λ bytes. check_then (words_of texts hosts bytes)) before now status (load_step name most_inputs_bytes before now (Err status) l)

pub inputs_ok : (texts : TextOutcomes) (name : List ℕ) (hosts : List (List ℕ)) (bytes seen : List ℕ) (before now : FilesView) (result : Result (List (List ℕ)) Status) → Loads name most_inputs_bytes before now (Ok bytes) → seen ≡ bytes → Checks (words_of texts hosts seen) result → ExecutesStep (inputs_then texts name hosts) before now result
unfolding inputs_then
inputs_ok texts name hosts bytes seen before now result l is c = both_steps (file_then name most_inputs_bytes) (λ b. check_then (words_of texts hosts b)) before now now bytes result (load_step name most_inputs_bytes before now (Ok bytes) l)
    (check_step (words_of texts hosts bytes) now result (subst (λ (b : List ℕ). Checks (words_of texts hosts b) result) is c))

-- the step for these names, where they are those of the hosts
pub inputs_for : (texts : TextOutcomes) (name : List ℕ) (names hosts : List (List ℕ)) (before now : FilesView) (result : Result (List (List ℕ)) Status) → names ≡ hosts → ExecutesStep (inputs_then texts name names) before now result → ExecutesStep (inputs_then texts name hosts) before now result
inputs_for texts name names hosts before now result is step = subst (λ (l : List (List ℕ)). ExecutesStep (inputs_then texts name l) before now result) is step

pub source_err : (texts : TextOutcomes) (name : List ℕ) (before now : FilesView) (status : Status) → ExecutesStep {T = Source} (tree_then texts name) before now (Err status) → ExecutesStep {T = Source} (source_then texts name) before now (Err status)
unfolding source_then
source_err texts name before now status step = first_step (tree_then texts name) (λ tree. check_then (resolved_of tree)) before now status step

pub source_ok : (texts : TextOutcomes) (name : List ℕ) (tree : Source) (before now : FilesView) (result : Result Source Status) → ExecutesStep (tree_then texts name) before now (Ok tree) → Checks (resolved_of tree) result → ExecutesStep (source_then texts name) before now result
unfolding source_then
source_ok texts name tree before now result step c = both_steps (tree_then texts name) (λ t. check_then (resolved_of t)) before now now tree result step (check_step (resolved_of tree) now result c)

-- the one outcome of a text is the one that was answered
pub parsed : (texts : TextOutcomes) (name bytes : List ℕ) (result : Result Source ParseFault) → (result ≡ Err parse_fault.Memory) ⊎ IsParse bytes result → (result ≡ Err parse_fault.Memory → ⊥) → source_of texts name bytes ≡ as_source name result
parsed texts name bytes result (inl memory) other = absurd (other memory)
parsed texts name bytes result (inr is) other = ap (as_source name) (parses_once bytes (texts.parse bytes) result (texts.parse_is bytes) is)

-- a text that is not too long is not refused for its length
pub not_long : (bytes : List ℕ) (fault : ParseFault) → length bytes ≤ most_source_bytes → (◌≡◌ {A = Result Source ParseFault} (Err fault) (Err parse_fault.Memory)) ⊎ IsParse bytes (Err fault)
    → (long : ℕ) → fault ≢ parse_fault.TooLong long
not_long bytes fault short (inl memory) long e = let wrong : parse_fault.TooLong long ≡ parse_fault.Memory = cc (memory, e) in cc wrong
not_long bytes fault short (inr is) long e = let more = subst (λ (f : ParseFault). IsParse bytes (Err f)) e is in let over = more.0 in omega (arith, short, over)

-- a fault of bytes is the status of their refusal
pub text_carried : (name : List ℕ) (fault : ParseFault) → ((long : ℕ) → fault ≢ parse_fault.TooLong long) → fault ≢ parse_fault.Memory → Syntax fault ≡ text_status name fault
text_carried name (parse_fault.BadByte offset) short other = refl
text_carried name (parse_fault.Unexpected number offset) short other = refl
text_carried name (parse_fault.TooDeep offset) short other = refl
text_carried name (parse_fault.TooLong long) short other = absurd (short long refl)
text_carried name parse_fault.Memory short other = absurd (other refl)

pub text_refusal : (texts : TextOutcomes) (name bytes : List ℕ) (fault : ParseFault) → ((long : ℕ) → fault ≢ parse_fault.TooLong long)
    → (◌≡◌ {A = Result Source ParseFault} (Err fault) (Err parse_fault.Memory)) ⊎ IsParse bytes (Err fault) → IsRefusal (source_of texts name bytes) (text_status name fault)
text_refusal texts name bytes (parse_fault.BadByte offset) short is = parsed texts name bytes (Err (parse_fault.BadByte offset)) is (λ e. cc e)
text_refusal texts name bytes (parse_fault.Unexpected number offset) short is = parsed texts name bytes (Err (parse_fault.Unexpected number offset)) is (λ e. cc e)
text_refusal texts name bytes (parse_fault.TooDeep offset) short is = parsed texts name bytes (Err (parse_fault.TooDeep offset)) is (λ e. cc e)
text_refusal texts name bytes (parse_fault.TooLong long) short is = absurd (short long refl)
text_refusal texts name bytes parse_fault.Memory short is = tt

-- a fault of a rule, with what it carries, is the fault that was answered
caused_is : (fault : NameFault) → caused (bare fault) (Err (carried fault)) ≡ fault
caused_is (name_fault.Unknown at) = refl
caused_is (name_fault.Twice at first) = refl
caused_is (name_fault.Recursive at) = refl
caused_is (name_fault.Arity at) = refl
caused_is (name_fault.Kind at met) = refl
caused_is (name_fault.Limit which count) = refl
caused_is name_fault.Memory = refl

broken : (source : Source) (fault : NameFault) → fault ≢ name_fault.Memory → (fault ≡ name_fault.Memory) ⊎ (resolution source ≡ Err (bare fault)) → IsCauseOf (resolution_told source) fault
    → resolved_of source ≡ Err (rule_status fault)
broken source fault other (inl memory) cause = absurd (other memory)
broken source fault other (inr is) cause =
    ap (as_resolved source) is ∙ ap (λ (told : Result (Unit {0}) Cause). Err (rule_status (caused (bare fault) told))) (cause other) ∙ ap (λ (f : NameFault). Err (rule_status f)) (caused_is fault)

pub rule_refusal : (source : Source) (fault : NameFault) → (fault ≡ name_fault.Memory) ⊎ (resolution source ≡ Err (bare fault)) → IsCauseOf (resolution_told source) fault
    → IsRefusal (resolved_of source) (rule_status fault)
rule_refusal source (name_fault.Unknown at) is cause = broken source (name_fault.Unknown at) (λ e. cc e) is cause
rule_refusal source (name_fault.Twice at first) is cause = broken source (name_fault.Twice at first) (λ e. cc e) is cause
rule_refusal source (name_fault.Recursive at) is cause = broken source (name_fault.Recursive at) (λ e. cc e) is cause
rule_refusal source (name_fault.Arity at) is cause = broken source (name_fault.Arity at) (λ e. cc e) is cause
rule_refusal source (name_fault.Kind at met) is cause = broken source (name_fault.Kind at met) (λ e. cc e) is cause
rule_refusal source (name_fault.Limit which count) is cause = broken source (name_fault.Limit which count) (λ e. cc e) is cause
rule_refusal source name_fault.Memory is cause = tt

-- what an inputs file says is its outcome
is_read : (hosts : List (List ℕ)) (bytes : List ℕ) → InputsFollowGrammar hosts bytes → (said : Result (List (List ℕ)) ReadFault) → inputs_read hosts bytes ≡ said → IsInputs hosts bytes said
is_read hosts bytes law (Ok inputs) e = (law.given inputs).0 e
is_read hosts bytes law (Err fault) e = (law.refused fault).0 e

-- there are functions that give each text its one outcome
pub some_texts : TextOutcomes
some_texts = record {
  parse = λ bytes. (parses_somehow bytes).0;
  parse_is = λ bytes. (parses_somehow bytes).1;
  inputs = inputs_read;
  inputs_is = λ hosts bytes. is_read hosts bytes (follows_grammar hosts bytes) (inputs_read hosts bytes) refl;
}

-- and ones that give each system its one outcome
pub some_labels : LabelOutcomes
some_labels = record { label = labelling_of; label_is = labelling_is; solution = solution_of; solution_is = solution_is }
