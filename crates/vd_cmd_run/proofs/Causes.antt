-- Why a run did not end well.
use Rattle.std.proofs.Common.{◌≡◌, ◌≢◌, inl, inr, ◌≤◌, ℕ, true, List, Result, Err, refl, sym, subst, arith}
use Rattle.vd_host_children.proofs.Front.{run_causes}
use Rattle.vd_host_children.specs.Causes.{IsCaused}
use Rattle.vd_host_children.specs.declared.fault.ChildrenFault.{ChildrenFault}
use Rattle.vd_host_children.specs.declared.fault.ChildrenFault.TheVariants as children
use Rattle.vd_cmd.specs.declared.command.RunWords.{RunWords}
use Rattle.vd_outside.specs.Causes.{Rose}
use Rattle.vd_outside.specs.Files.{Contents, FilesView}
use Rattle.vd_outside.specs.declared.stored.Stored.{Stored}
use Rattle.vd_cmd_plan.specs.Deliver.{StoresAll}
use Rattle.vd_cmd_plan.specs.Plans.{Executes, Plan}
use Rattle.vd_cmd_plan.specs.declared.answer.Answer.{Answer}
use Rattle.vd_cmd_plan.specs.declared.status.Status.{Status}
use Rattle.vd_cmd_plan.specs.declared.status.Status.TheVariants as status
use Rattle.vd_cmd_run.specs.Completing.{HasCause}
use Rattle.vd_cmd_run.specs.Running.{NoMemory, Played, Plays, Refused, Unassigned}
use Rattle.vd_cmd_run.specs.RunsHosts.{NoReport, NotRun, NotStored, NotWritten, Outside, Reported, RunsHosts}
use Rattle.vd_cmd_run.specs.Statuses.{FaultsOfChildrenAreNamed, child_status, run_status}
use Rattle.vd_cmd_run.specs.declared.fault.RunFault.{RunFault}

-- a count that rose later rose since then
pub rose_since : (first before now : ℕ) → first ≤ before → Rose before now → Rose first now
rose_since first before now later rose = omega (arith, later, rose)

child_cause : (names : List (List ℕ)) (before now : Outside) (fault : ChildrenFault) → IsCaused before.spawner.faults now.spawner.faults fault → HasCause before now (child_status names fault)
child_cause names before now children.Memory caused = tt
child_cause names before now (children.Failed host) caused = caused
child_cause names before now (children.Line host) caused = tt
child_cause names before now (children.Status host number) caused = tt

module _ (before now : Outside) (compiled : FilesView) where
  refused_cause : (plan : Contents → Plan) (end : Status) → Executes true plan before.files compiled (Err end) → now ≡ record before { files = compiled } → HasCause before now end
  refused_cause plan (status.ReadFault name) e same = subst (λ (o : Outside). Rose before.files.faults o.files.faults) (sym same) (e.fault name refl)
  refused_cause plan status.WriteFault e same = absurd e.proper
  refused_cause plan (status.ChildFault names (children.Failed host)) e same = absurd e.proper
  refused_cause plan other e same = tt

  stored_cause : (stores : List Stored) (end : Status) → before.files.faults ≤ compiled.faults → StoresAll stores compiled now.files (Err end) → HasCause before now end
  stored_cause stores status.Memory later s = tt
  stored_cause stores status.WriteFault later s = inl (rose_since before.files.faults compiled.faults now.files.faults later (s.fault refl))
  stored_cause stores other later s = absurd s.ends

  hosts_cause : (stores : List Stored) (names : List (List ℕ)) (program : List ℕ) (lines : List (List (List ℕ))) (result : Result (Unit {0}) RunFault) → before.files.faults ≤ compiled.faults
      → RunsHosts stores names program lines (record before { files = compiled }) now result → HasCause before now (run_status names result)
  hosts_cause stores names program lines result later (Reported printed stored ran written) = tt
  hosts_cause stores names program lines result later (NotStored end stored same silent) = stored_cause stores end later stored
  hosts_cause stores names program lines result later (NotRun fault stored ran silent) = child_cause names before now fault (run_causes program lines before.spawner now.spawner ran).failed
  hosts_cause stores names program lines result later (NoReport printed stored ran silent) = tt
  hosts_cause stores names program lines result later (NotWritten printed failed stored ran written) = inr written.failed

  pub plays_cause : (words : RunWords) (names : List (List ℕ)) (plan : Contents → Plan) (came : Result Answer Status) (end : Status) → Executes true plan before.files compiled came
      → Plays words names (record before { files = compiled }) now came end → HasCause before now end
  plays_cause words names plan came end e (Refused status same) = refused_cause plan status e same
  plays_cause words names plan came end e (Unassigned answer form is same) = tt
  plays_cause words names plan came end e (NoMemory answer same) = tt
  plays_cause words names plan came end e (Played answer result ended runs) = hosts_cause answer.stores names words.program _ result e.later runs

named : (names : List (List ℕ)) (fault : ChildrenFault) → fault ≢ children.Memory → child_status names fault ≡ status.ChildFault names fault
named names children.Memory other = absurd (other refl)
named names (children.Failed host) other = refl
named names (children.Line host) other = refl
named names (children.Status host number) other = refl

pub children_named : FaultsOfChildrenAreNamed
children_named = named
