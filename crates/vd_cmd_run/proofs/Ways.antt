-- The ways out of a run behind its children.
use Rattle.std.proofs.Common.{arith, ◌≡◌, ◌≤◌, ℕ, List, length, Result, Ok, Err, refl, sym, ap, subst, ◌∙◌}
use Rattle.std.proofs.lemmas.List.FromFn.{length-map-range_with_len}
use Rattle.vd_base.specs.declared.faults.Failed.{Failed}
use Rattle.vd_base.specs.Limits.{most_hosts}
use Rattle.vd_host_children.specs.Runs.{RunsChildren}
use Rattle.vd_cmd.specs.declared.command.RunWords.{RunWords}
use Rattle.vd_outside.specs.Files.{Contents, FilesView}
use Rattle.vd_outside.specs.declared.stored.Stored.{Stored}
use Rattle.vd_outside.specs.Sink.{WritesAll}
use Rattle.vd_cmd_plan.specs.Labelled.{LabelledForm}
use Rattle.vd_cmd_plan.specs.Deliver.{StoresAll}
use Rattle.vd_cmd_plan.specs.Plans.{IsGiven}
use Rattle.vd_cmd_plan.specs.declared.answer.Answer.{Answer}
use Rattle.vd_cmd_plan.specs.declared.status.Status.{Status}
use Rattle.vd_cmd_plan.specs.declared.status.Status.TheVariants.{Ended, NoAssignment}
use Rattle.vd_cmd_run.specs.CommandLines.{command_lines, host_words}
use Rattle.vd_cmd_run.specs.Compiled.{AreHostsOf, CompilesFor}
use Rattle.vd_cmd_run.specs.EndedLines.{ended_lines}
use Rattle.vd_cmd_run.specs.Running.{Played, Plays, Unassigned}
use Rattle.vd_cmd_run.specs.RunsHosts.{NotWritten, Outside, Reported, RunsHosts}
use Rattle.vd_cmd_run.specs.Statuses.{run_status}
use Rattle.vd_cmd_run.specs.declared.compiled.Compiled.{Compiled}
use Rattle.vd_cmd_run.specs.declared.fault.RunFault.{RunFault}
use Rattle.vd_cmd_run.specs.declared.fault.RunFault.TheVariants as fault

pub reported : (stores : List Stored) (names : List (List ℕ)) (program : List ℕ) (lines : List (List (List ℕ))) (before now : Outside) (printed : List (List ℕ)) (text : List ℕ)
    → StoresAll stores before.files now.files (Ok tt) → RunsChildren program lines before.spawner now.spawner (Ok printed) → text ≡ ended_lines names printed
    → WritesAll {E = Failed} text before.out now.out (Ok tt) → RunsHosts stores names program lines before now (Ok tt)
reported stores names program lines before now printed text stored ran is written =
    Reported printed stored ran (subst (λ (l : List ℕ). WritesAll {E = Failed} l before.out now.out (Ok tt)) is written)

pub not_written : (stores : List Stored) (names : List (List ℕ)) (program : List ℕ) (lines : List (List (List ℕ))) (before now : Outside) (printed : List (List ℕ)) (text : List ℕ) (failed : Failed)
    → StoresAll stores before.files now.files (Ok tt) → RunsChildren program lines before.spawner now.spawner (Ok printed) → text ≡ ended_lines names printed
    → WritesAll {E = Failed} text before.out now.out (Err failed) → RunsHosts stores names program lines before now (Err fault.Write)
not_written stores names program lines before now printed text failed stored ran is written =
    NotWritten printed failed stored ran (subst (λ (l : List ℕ). WritesAll {E = Failed} l before.out now.out (Err failed)) is written)

-- ---- the command lines

pub lines_are : (words : RunWords) (names : List (List ℕ)) (prefix inputs : List ℕ) (seen : List (List ℕ)) (lines shown : List (List (List ℕ))) → shown ≡ lines → lines ≡ command_lines prefix inputs words.port (length seen)
    → prefix ≡ words.prefix → inputs ≡ words.inputs → seen ≡ names → shown ≡ command_lines words.prefix words.inputs words.port (length names)
lines_are words names prefix inputs seen lines shown same are prefix_is inputs_is names_are = same ∙ are ∙ (λ i. command_lines (prefix_is i) (inputs_is i) words.port (length (names_are i)))

pub few_lines : (prefix inputs : List ℕ) (port : ℕ) (seen names : List (List ℕ)) (lines shown : List (List (List ℕ))) → shown ≡ lines → lines ≡ command_lines prefix inputs port (length seen) → seen ≡ names → length names ≤ most_hosts
    → length shown ≤ 4
few_lines prefix inputs port seen names lines shown same are names_are few =
    let count : length shown ≡ length names =
    ap (λ (l : List (List (List ℕ))). length l) (same ∙ are) ∙ length-map-range_with_len (host_words prefix inputs port (length seen)) 0 (length seen) ∙ ap (λ (l : List (List ℕ)). length l) names_are in
    omega (arith, count, few)

-- ---- what is done behind an answer

pub played : (words : RunWords) (names : List (List ℕ)) (before now : Outside) (answer : Answer) (stores : List Stored) (program : List ℕ) (lines : List (List (List ℕ))) (result : Result (Unit {0}) RunFault) → answer.status ≡ Ended
    → stores ≡ answer.stores → program ≡ words.program → lines ≡ command_lines words.prefix words.inputs words.port (length names) → RunsHosts stores names program lines before now result
    → Plays words names before now (Ok answer) (run_status names result)
played words names before now answer stores program lines result ended same_stores same_program same_lines runs =
    Played answer result ended
    (subst (λ (s : List Stored). RunsHosts s names words.program (command_lines words.prefix words.inputs words.port (length names)) before now result) same_stores
    (subst (λ (p : List ℕ). RunsHosts stores names p (command_lines words.prefix words.inputs words.port (length names)) before now result) same_program
    (subst (λ (l : List (List (List ℕ))). RunsHosts stores names program l before now result) same_lines runs)))

-- an answer that is given and did not end well came where no assignment is valid
unassigned : (status : Status) (printed : List ℕ) → IsGiven status printed → (status ≡ Ended → ⊥) → (form : LabelledForm) × (status ≡ NoAssignment form)
unassigned Ended printed given other = absurd (other refl)
unassigned (NoAssignment form) printed given other = (form, refl)
unassigned status printed given other = absurd given

pub not_played : (words : RunWords) (names : List (List ℕ)) (at : Outside) (answer : Answer) → IsGiven answer.status answer.printed → (answer.status ≡ Ended → ⊥) → Plays words names at at (Ok answer) answer.status
not_played words names at answer given other =
    let is = unassigned answer.status answer.printed given other in
    subst (λ (s : Status). Plays words names at at (Ok answer) s) (sym is.1) (Unassigned answer is.0 is.1 refl)

-- ---- what was compiled, for the words of the command line

pub compiles_for : (source seen prefix shown : List ℕ) (before now : FilesView) (result : Result Compiled Status) → seen ≡ source → shown ≡ prefix → CompilesFor seen shown before now result → CompilesFor source prefix before now result
compiles_for source seen prefix shown before now result source_is prefix_is compiles =
    subst (λ (s : List ℕ). CompilesFor s prefix before now result) source_is (subst (λ (p : List ℕ). CompilesFor seen p before now result) prefix_is compiles)

pub hosts_for : (source seen : List ℕ) (contents : Contents) (names : List (List ℕ)) → seen ≡ source → AreHostsOf seen contents names → AreHostsOf source contents names
hosts_for source seen contents names same hosts = subst (λ (s : List ℕ). AreHostsOf s contents names) same hosts
