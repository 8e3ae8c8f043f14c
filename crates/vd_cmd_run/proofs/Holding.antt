-- What holds of each run.
use Rattle.std.proofs.Common.{◌≡◌, ℕ, List, length, Result, Ok, refl, sym, ap, subst, ◌∙◌}
use Rattle.std.proofs.lemmas.List.{length-map}
use Rattle.std.proofs.lemmas.List.FromFn.{length-map-range_with_len}
use Rattle.vd_base.specs.Limits.{most_search_budget}
use Rattle.vd_cmd.specs.declared.command.RunWords.{RunWords}
use Rattle.vd_core.specs.declared.source.Host.{Host}
use Rattle.vd_core.specs.declared.source.Source.{Source}
use Rattle.vd_outside.specs.Files.{Contents}
use Rattle.vd_parser.proofs.Front.{parses_once}
use Rattle.vd_parser.specs.Outcomes.{IsParse}
use Rattle.vd_parser.specs.declared.fault.ParseFault.{ParseFault}
use Rattle.vd_cmd_plan.specs.declared.status.Status.{Status}
use Rattle.vd_cmd_plan.specs.declared.status.Status.TheVariants.{Ended}
use Rattle.vd_cmd_labels.proofs.Front.{some_labels, some_texts}
use Rattle.vd_cmd_labels.specs.Sources.{HoldsSource}
use Rattle.vd_search_stages.proofs.Front.{some_choices}
use Rattle.vd_cmd_choice.proofs.Front.{some_certificates}
use Rattle.vd_cmd_choice.specs.Searching.{searched_by}
use Rattle.vd_cmd_compile.proofs.Front.{compile_follows}
use Rattle.vd_cmd_compile.specs.Compiling.{compile_plan}
use Rattle.vd_cmd_run.specs.Asking.{EndedRunsReport, RunsAskInOrder}
use Rattle.vd_cmd_run.specs.CommandLines.{host_words}
use Rattle.vd_cmd_run.specs.Compiled.{AreHostsOf}
use Rattle.vd_cmd_run.specs.Completing.{HostsWait, IsCompleteRun, RunsAreComplete, StatusesHaveCauses}
use Rattle.vd_cmd_run.specs.Running.{Runs}
use Rattle.vd_cmd_run.specs.RunsHosts.{Outside}
use Rattle.vd_cmd_run.proofs.Causes.{plays_cause}
use Rattle.vd_cmd_run.proofs.Completes.{HostsWaitFor, plays_well}
use Rattle.vd_cmd_run.proofs.Reports.{plays_asks, plays_report}

-- ---- a file holds one source

same_value : (a b : Source) → ◌≡◌ {A = Result Source ParseFault} (Ok a) (Ok b) → a ≡ b
same_value a b is = cc is

pub held_once : (name : List ℕ) (contents : Contents) (a b : Source) → HoldsSource name contents a → HoldsSource name contents b → a ≡ b
held_once name contents a b first second =
    let bytes : first.bytes ≡ second.bytes = cc (first.is_fetched, second.is_fetched) in
    same_value a b (parses_once second.bytes (Ok a) (Ok b) (subst (λ (l : List ℕ). IsParse l (Ok a)) bytes first.holds.parsed) second.holds.parsed)

-- so there are as many names as hosts
as_many : (name : List ℕ) (contents : Contents) (names : List (List ℕ)) (source : Source) → AreHostsOf name contents names → HoldsSource name contents source → length names ≡ length source.hosts
as_many name contents names source hosts held =
    ap (λ (l : List (List ℕ)). length l) hosts.names_are ∙ length-map hosts.source.hosts (λ (h : Host). h.name.name)
    ∙ ap (λ (s : Source). length s.hosts) (held_once name contents hosts.source source hosts.held held)

waiting_for : (words : RunWords) (names : List (List ℕ)) (before now : Outside) (source : Source) (wait : HostsWait before.spawner (length source.hosts)) → HoldsSource words.source before.files.contents source
    → AreHostsOf words.source before.files.contents names → HostsWaitFor words names before now before.files wait.children wait.printed
waiting_for words names before now source wait held hosts = record {
  tells = wait.tells;
  all = wait.all ∙ sym (as_many words.source before.files.contents names source hosts held) ∙ sym (length-map-range_with_len (host_words words.prefix words.inputs words.port (length names)) 0 (length names));
  next = wait.next;
  are_hosts = wait.are_hosts;
}

-- ---- the laws

complete_run : (words : RunWords) (before now : Outside) (end : Status) → Runs words before now end → IsCompleteRun words before now end
complete_run words before now end runs texts least choices source told quiet good held wait =
    let s = runs.executes in
    let plan = compile_plan texts least choices (searched_by some_certificates choices s.0) words.source words.prefix most_search_budget in
    plays_well words runs.names before now runs.compiled wait.children wait.printed plan runs.came end (s.1 some_certificates choices texts least) told (runs.hosts told) quiet
    (compile_follows texts least some_certificates choices s.0 words.source words.prefix most_search_budget before.files.contents good)
    (waiting_for words runs.names before now source wait held) runs.plays

pub complete : RunsAreComplete
complete = complete_run

pub caused : StatusesHaveCauses
caused words before now end runs =
    plays_cause before now runs.compiled words runs.names (compile_plan some_texts some_labels some_choices (searched_by some_certificates some_choices runs.executes.0) words.source words.prefix most_search_budget)
    runs.came end (runs.executes.1 some_certificates some_choices some_texts some_labels) runs.plays

pub asks : RunsAskInOrder
asks words before now end runs told = plays_asks words runs.names before now runs.compiled runs.came end runs.hosts told runs.plays

pub reports : EndedRunsReport
reports words before now runs =
    plays_report words runs.names before now runs.compiled
    (compile_plan some_texts some_labels some_choices (searched_by some_certificates some_choices runs.executes.0) words.source words.prefix most_search_budget) runs.came Ended
    (runs.executes.1 some_certificates some_choices some_texts some_labels) runs.hosts refl runs.plays
