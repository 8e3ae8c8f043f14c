-- What a run asks of its spawner, and what it reports of the children.
use Rattle.std.proofs.Common.{◌≡◌, ◌⊎◌, inl, inr, ℕ, true, IsTrue, List, OnOk, Result, Ok, Err, ap, subst}
use Rattle.vd_host_children.proofs.Front.{run_asks, run_told}
use Rattle.vd_host_children.specs.declared.fault.ChildrenFault.{ChildrenFault}
use Rattle.vd_host_children.specs.declared.fault.ChildrenFault.TheVariants as children
use Rattle.vd_cmd.specs.declared.command.RunWords.{RunWords}
use Rattle.vd_outside.specs.Files.{Contents, FilesView}
use Rattle.vd_outside.specs.declared.stored.Stored.{Stored}
use Rattle.vd_cmd_plan.specs.Deliver.{EndsStore}
use Rattle.vd_cmd_plan.specs.Plans.{Executes, IsProper, Plan}
use Rattle.vd_cmd_plan.specs.declared.answer.Answer.{Answer}
use Rattle.vd_cmd_plan.specs.declared.status.Status.{Status}
use Rattle.vd_cmd_plan.specs.declared.status.Status.TheVariants.{Ended}
use Rattle.vd_cmd_run.specs.Asking.{AsksFor, ReportsHosts, lines_for}
use Rattle.vd_cmd_run.specs.Compiled.{AreHostsOf}
use Rattle.vd_cmd_run.specs.Running.{NoMemory, Played, Plays, Refused, Unassigned}
use Rattle.vd_cmd_run.specs.RunsHosts.{NoReport, NotRun, NotStored, NotWritten, Outside, Reported, RunsHosts}
use Rattle.vd_cmd_run.specs.Statuses.{child_status, run_status}
use Rattle.vd_cmd_run.specs.declared.fault.RunFault.{RunFault}

-- a fault of children is a fault
no_end : (names : List (List ℕ)) (fault : ChildrenFault) → child_status names fault ≡ Ended → ⊥
no_end names children.Memory is = cc is
no_end names (children.Failed host) is = cc is
no_end names (children.Line host) is = cc is
no_end names (children.Status host number) is = cc is

module _ (words : RunWords) (names : List (List ℕ)) (before now : Outside) (compiled : FilesView) where
  -- the names are those of the source's hosts, as far as the files tell
  abbrev AreNames : Type 0
  AreNames = IsTrue before.files.told → AreHostsOf words.source before.files.contents names

  asked_by : (stores : List Stored) (result : Result (Unit {0}) RunFault) → AreNames → IsTrue before.spawner.told
      → RunsHosts stores names words.program (lines_for words names) (record before { files = compiled }) now result → (now.spawner ≡ before.spawner) ⊎ AsksFor words before now
  asked_by stores result hosts told (Reported printed stored ran written) =
      inr (record { names = names; hosts = hosts; result = Ok printed; asks = run_asks words.program (lines_for words names) before.spawner now.spawner ran told })
  asked_by stores result hosts told (NotStored end stored same silent) = inl same
  asked_by stores result hosts told (NotRun fault stored ran silent) =
      inr (record { names = names; hosts = hosts; result = Err fault; asks = run_asks words.program (lines_for words names) before.spawner now.spawner ran told })
  asked_by stores result hosts told (NoReport printed stored ran silent) =
      inr (record { names = names; hosts = hosts; result = Ok printed; asks = run_asks words.program (lines_for words names) before.spawner now.spawner ran told })
  asked_by stores result hosts told (NotWritten printed failed stored ran written) =
      inr (record { names = names; hosts = hosts; result = Ok printed; asks = run_asks words.program (lines_for words names) before.spawner now.spawner ran told })

  pub plays_asks : (came : Result Answer Status) (end : Status) → (IsTrue before.files.told → OnOk came (AreHostsOf words.source before.files.contents names)) → IsTrue before.spawner.told
      → Plays words names (record before { files = compiled }) now came end → (now.spawner ≡ before.spawner) ⊎ AsksFor words before now
  plays_asks came end hosts told (Refused status same) = inl (ap (λ (o : Outside). o.spawner) same)
  plays_asks came end hosts told (Unassigned answer form is same) = inl (ap (λ (o : Outside). o.spawner) same)
  plays_asks came end hosts told (NoMemory answer same) = inl (ap (λ (o : Outside). o.spawner) same)
  plays_asks came end hosts told (Played answer result ended runs) = asked_by answer.stores result hosts told runs

  reported_by : (stores : List Stored) (result : Result (Unit {0}) RunFault) → AreNames → run_status names result ≡ Ended
      → RunsHosts stores names words.program (lines_for words names) (record before { files = compiled }) now result → ReportsHosts words before now
  reported_by stores result hosts is (Reported printed stored ran written) = record {
    names = names;
    hosts = hosts;
    printed = printed;
    asked = λ told. run_asks words.program (lines_for words names) before.spawner now.spawner ran told;
    ended = λ tells. run_told words.program (lines_for words names) before.spawner now.spawner ran tells;
    reported = written.whole;
  }
  reported_by stores result hosts is (NotStored end stored same silent) = let ends : EndsStore Ended = subst (λ (s : Status). EndsStore s) is stored.ends in absurd ends
  reported_by stores result hosts is (NotRun fault stored ran silent) = absurd (no_end names fault is)
  reported_by stores result hosts is (NoReport printed stored ran silent) = absurd (cc is)
  reported_by stores result hosts is (NotWritten printed failed stored ran written) = absurd (cc is)

  pub plays_report : (plan : Contents → Plan) (came : Result Answer Status) (end : Status) → Executes true plan before.files compiled came
      → (IsTrue before.files.told → OnOk came (AreHostsOf words.source before.files.contents names)) → end ≡ Ended
      → Plays words names (record before { files = compiled }) now came end → ReportsHosts words before now
  plays_report plan came end e hosts is (Refused status same) = let proper : IsProper true (Err Ended) = subst (λ (s : Status). IsProper true (Err s)) is e.proper in absurd proper
  plays_report plan came end e hosts is (Unassigned answer form none same) = absurd (cc is)
  plays_report plan came end e hosts is (NoMemory answer same) = absurd (cc is)
  plays_report plan came end e hosts is (Played answer result ended runs) = reported_by answer.stores result hosts is runs
