-- When a run ends well.
use Rattle.std.proofs.Common.{◌≡◌, ◌⊎◌, inl, inr, ◌≤◌, ℕ, true, IsTrue, List, OnOk, Result, Err, refl, sym, ap, subst, ◌∙◌}
use Rattle.vd_host_children.proofs.Front.{run_causes, HostsAreNext, IsOutside, run_well}
use Rattle.vd_host_children.specs.Causes.{IsCaused}
use Rattle.vd_host_children.specs.declared.fault.ChildrenFault.{ChildrenFault}
use Rattle.vd_host_children.specs.declared.fault.ChildrenFault.TheVariants as children
use Rattle.vd_cmd.specs.declared.command.RunWords.{RunWords}
use Rattle.vd_outside.specs.Causes.{Rose}
use Rattle.vd_outside.specs.Files.{Contents, FilesView}
use Rattle.vd_outside.specs.declared.child.Child.{Child}
use Rattle.vd_outside.specs.declared.stored.Stored.{Stored}
use Rattle.vd_cmd_plan.specs.Labelled.{LabelledForm}
use Rattle.vd_cmd_plan.specs.Deliver.{StoresAll}
use Rattle.vd_cmd_plan.specs.Plans.{Executes, Plan, Settles}
use Rattle.vd_cmd_plan.specs.declared.answer.Answer.{Answer}
use Rattle.vd_cmd_plan.specs.declared.status.Status.{Status}
use Rattle.vd_cmd_plan.specs.declared.status.Status.TheVariants.{Ended, Memory, NoAssignment, ReadFault, WriteFault}
use Rattle.vd_cmd_run.specs.Asking.{lines_for}
use Rattle.vd_cmd_run.specs.Compiled.{AreHostsOf}
use Rattle.vd_cmd_run.specs.Completing.{IsQuiet}
use Rattle.vd_cmd_run.specs.Running.{NoMemory, Played, Plays, Refused, Unassigned}
use Rattle.vd_cmd_run.specs.RunsHosts.{NoReport, NotRun, NotStored, NotWritten, Outside, Reported, RunsHosts}
use Rattle.vd_cmd_run.specs.Statuses.{child_status, run_status}
use Rattle.vd_cmd_run.specs.declared.fault.RunFault.{RunFault}
use Rattle.vd_cmd_run.proofs.Causes.{rose_since}

-- it ended, or there was no memory left
abbrev pub EndsWell : Status → Type 0
EndsWell end = (end ≡ Ended) ⊎ (end ≡ Memory)

child_well : (names : List (List ℕ)) (before now : ℕ) (fault : ChildrenFault) → IsOutside fault → IsCaused before now fault → (Rose before now → ⊥) → EndsWell (child_status names fault)
child_well names before now children.Memory outside caused quiet = inr refl
child_well names before now (children.Failed host) outside caused quiet = absurd (quiet caused)
child_well names before now (children.Line host) outside caused quiet = absurd outside
child_well names before now (children.Status host number) outside caused quiet = absurd outside

-- a refusal, where the wanted answer ends well
refused_well : (wanted : Answer) (status : Status) → Settles wanted (Err status) → ((name : List ℕ) → status ≡ ReadFault name → ⊥) → EndsWell wanted.status → EndsWell status
refused_well wanted Memory is no_read good = inr refl
refused_well wanted (ReadFault name) is no_read good = absurd (no_read name refl)
refused_well wanted status is no_read (inl good) = inl (ap (λ (a : Answer). a.status) is ∙ good)
refused_well wanted status is no_read (inr good) = inr (ap (λ (a : Answer). a.status) is ∙ good)

unassigned_never : (form : LabelledForm) (wanted : Status) → NoAssignment form ≡ wanted → EndsWell wanted → ⊥
unassigned_never form wanted is (inl good) = let e : NoAssignment form ≡ Ended = is ∙ good in cc e
unassigned_never form wanted is (inr good) = let e : NoAssignment form ≡ Memory = is ∙ good in cc e

stored_well : (stores : List Stored) (first : ℕ) (before now : FilesView) (status : Status) → first ≤ before.faults → StoresAll stores before now (Err status) → (Rose first now.faults → ⊥) → EndsWell status
stored_well stores first before now Memory later s quiet = inr refl
stored_well stores first before now WriteFault later s quiet = absurd (quiet (rose_since first before.faults now.faults later (s.fault refl)))
stored_well stores first before now other later s quiet = absurd s.ends

module _ (words : RunWords) (names : List (List ℕ)) (before now : Outside) (compiled : FilesView) (waiting : List Child) (printed : List (List ℕ)) where
  -- these children wait, one for each command line, and are hosts
  abbrev pub HostsWaitFor : Type 0
  HostsWaitFor = HostsAreNext words.program (lines_for words names) before.spawner waiting printed

  hosts_well : (stores : List Stored) (result : Result (Unit {0}) RunFault) → before.files.faults ≤ compiled.faults → IsQuiet before now → HostsWaitFor
      → RunsHosts stores names words.program (lines_for words names) (record before { files = compiled }) now result → EndsWell (run_status names result)
  hosts_well stores result later quiet wait (Reported words_of stored ran written) = inl refl
  hosts_well stores result later quiet wait (NotStored end stored same silent) = stored_well stores before.files.faults compiled now.files end later stored quiet.files
  hosts_well stores result later quiet wait (NotRun fault stored ran silent) =
      child_well names before.spawner.faults now.spawner.faults fault (run_well words.program (lines_for words names) before.spawner waiting printed now.spawner ran wait)
      (run_causes words.program (lines_for words names) before.spawner now.spawner ran).failed quiet.spawner
  hosts_well stores result later quiet wait (NoReport words_of stored ran silent) = inr refl
  hosts_well stores result later quiet wait (NotWritten words_of failed stored ran written) = absurd (quiet.out written.failed)

  pub plays_well : (plan : Contents → Plan) (came : Result Answer Status) (end : Status) → Executes true plan before.files compiled came → IsTrue before.files.told
      → OnOk came (AreHostsOf words.source before.files.contents names) → IsQuiet before now → EndsWell (plan before.files.contents).answer.status
      → (AreHostsOf words.source before.files.contents names → HostsWaitFor) → Plays words names (record before { files = compiled }) now came end → EndsWell end
  plays_well plan came end e told hosts quiet good wait (Refused status same) =
      refused_well (plan before.files.contents).answer status (e.settled told)
      (λ name is. quiet.files (subst (λ (o : Outside). Rose before.files.faults o.files.faults) (sym same) (e.fault name (ap (λ (s : Status). Err s) is)))) good
  plays_well plan came end e told hosts quiet good wait (Unassigned answer form is same) =
      absurd (unassigned_never form (plan before.files.contents).answer.status (sym is ∙ ap (λ (a : Answer). a.status) (e.settled told)) good)
  plays_well plan came end e told hosts quiet good wait (NoMemory answer same) = inr refl
  plays_well plan came end e told hosts quiet good wait (Played answer result ended runs) = hosts_well answer.stores result e.later quiet (wait hosts) runs
