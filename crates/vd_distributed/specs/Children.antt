-- All hosts of a source as children of one machine, and what is reported of them.
use Rattle.std.specs.Prelude.{◌≡◌, ◌++◌, ℕ, IsTrue, List, length, flat_map, codes, slice_get, Some, Ok}
use Rattle.vd_base.specs.declared.protocols.Proto.{Proto}
use Rattle.vd_core.specs.declared.source.Source.{Source}
use Rattle.vd_semantics.specs.SourceMeaning.{host_names, source_outputs}
use Rattle.vd_core.specs.declared.normal.NormalForm.{NormalForm}
use Rattle.vd_cmd_rewrite.specs.RunPrograms.{IsRunProgram, TellsAs}
use Rattle.vd_tape.specs.declared.deal_items.deal.Deal.{Deal}
use Rattle.vd_hostcode.specs.declared.host_text.program.Digest.{Digest}
use Rattle.vd_outside.specs.Spawner.{SpawnerView}
use Rattle.vd_outside.specs.declared.child.Child.{Child}
use Rattle.vd_engine.specs.declared.engine.Ended.{Ended as Done}
use Rattle.vd_host_children.specs.Told.{AreNext, TellsEach}
use Rattle.vd_cmd.specs.declared.command.RunWords.{RunWords}
use Rattle.vd_cmd_labels.specs.Sources.{HoldsSource}
use Rattle.vd_cmd_plan.specs.declared.status.Status.TheVariants.{Ended}
use Rattle.vd_cmd_run.specs.EndedLines.{ended_lines}
use Rattle.vd_cmd_run.specs.Running.{Runs}
use Rattle.vd_cmd_run.specs.RunsHosts.{Outside}
use Rattle.vd_distributed.specs.Running.{AreRunOverLinks, Run}

-- lines as they are written, each with its line feed
abbrev pub text_of_lines : List (List ℕ) → List ℕ
text_of_lines lines = flat_map (λ line. line ++ codes "\n") lines

-- The child is this run of a host: its lines are what the run wrote, and its status is 0 only where the run ended well.
pub record IsRunOf (run : Run) (child : Child) : Type 0 where
  pub told : IsTrue run.out_now.told
  pub wrote : run.out_now.taken ≡ run.out.taken ++ text_of_lines child.lines
  pub well : child.status ≡ 0 → (done : Done) × (run.result ≡ Ok done)

-- the next children that are started, so many, are these runs, one for each host
abbrev pub AreRuns : (ℕ → Run) → ℕ → SpawnerView → Type 0
AreRuns run n spawner = (children : List Child) → length children ≡ n → AreNext spawner.waiting spawner.otherwise children
    → (h : ℕ) (child : Child) → slice_get children h ≡ Some child → IsRunOf (run h) child

-- the files, the children and the output tell what they hold
pub record AllTell (before now : Outside) : Type 0 where
  pub files : IsTrue before.files.told
  pub children : TellsEach before.spawner
  pub out : IsTrue now.out.told

-- A run that ends with status 0 reports each host of the source in the file as ended, with the words that the source tells it, where
-- its children are runs of all hosts over their links.
abbrev pub ChildrenTellTheSource : Type 0
ChildrenTellTheSource = (words : RunWords) (before now : Outside) → Runs words before now Ended → AllTell before now
    → (source : Source) → HoldsSource words.source before.files.contents source
    → (program : NormalForm) → IsRunProgram source program → TellsAs source program
    → (list : List Proto) (plan : Digest) (inputs : List (List ℕ)) (deals : List Deal) (run : ℕ → Run)
    → AreRunOverLinks program list plan inputs deals run → AreRuns run (length source.hosts) before.spawner
    → now.out.taken ≡ before.out.taken ++ ended_lines (host_names source.hosts) (source_outputs source inputs)
