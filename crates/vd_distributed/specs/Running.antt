-- Programs that run over links: each host by itself, from its own files. Any of the programs may be hastened.
use Rattle.std.specs.Prelude.{◌≡◌, ◌≢◌, ◌<◌, ◌+◌, ◌++◌, ℕ, IsTrue, List, [], Some, Result, Ok, Err, length, slice_get, slice_index_or}
use Rattle.vd_base.specs.declared.protocols.Proto.{Proto}
use Rattle.vd_core.specs.declared.normal.NormalForm.{NormalForm}
use Rattle.vd_core.specs.declared.source.Source.{Source}
use Rattle.vd_semantics.specs.ProgramMeaning.{program_outputs}
use Rattle.vd_semantics.specs.SourceMeaning.{source_outputs}
use Rattle.vd_tape.specs.declared.deal_items.deal.Deal.{Deal}
use Rattle.vd_execution.specs.Code.{Code}
use Rattle.vd_execution.specs.Text.{IsCodeOf}
use Rattle.vd_execution.specs.World.{IsPrefixOf}
use Rattle.vd_reorder.specs.Hastening.{IsHastened}
use Rattle.vd_backend_laws.specs.Whole.{inputs_of}
use Rattle.vd_world.specs.Supplies.{AreFiles}
use Rattle.vd_hostcode.specs.declared.host_text.program.Digest.{Digest}
use Rattle.vd_hostcode.specs.declared.host_text.program.HostProgram.{HostProgram}
use Rattle.vd_projection.specs.Stored.{CanBeStored, stored_program}
use Rattle.vd_outside.specs.Net.{NetView}
use Rattle.vd_outside.specs.Sink.{SinkView}
use Rattle.vd_engine.specs.Drives.{lines}
use Rattle.vd_engine.specs.declared.engine.Ended.{Ended}
use Rattle.vd_host_session.specs.Histories.{ended, listening}
use Rattle.vd_host_session.specs.Plays.{Plays}
use Rattle.vd_host_session.specs.declared.fault.HostFault.{HostFault}
use Rattle.vd_host_session.specs.declared.fault.HostFault.TheVariants as fault
use Rattle.vd_host_session.specs.Starts.{Starts}
use Rattle.vd_host_session.specs.declared.host_start.starting.Ready.{Ready}
use Rattle.vd_distributed.specs.Links.{TellsBytes, bytes_that_came, bytes_that_went, link_to}

-- A run of a host: where it starts, its net and its output before and after, and what it answered.
pub record Run : Type 0 where
  pub ready : Ready
  pub net : NetView
  pub net_now : NetView
  pub out : SinkView
  pub out_now : SinkView
  pub result : Result Ended HostFault

-- it is one of those that `host` may take
abbrev pub IsPlayed : Run → Type 0
IsPlayed run = Plays run.ready.machine run.ready.task run.net run.net_now run.out run.out_now run.result

-- the same host of the same plan, with a code to which exchanges of neighbours lead: the program itself, or what `hasten` makes of it
pub record IsHastenedProgram (own now : HostProgram) : Type 0 where
  pub hosts : now.hosts ≡ own.hosts
  pub me : now.me ≡ own.me
  pub plan : now.plan ≡ own.plan
  pub old_code : Code
  pub new_code : Code
  pub old_is : IsCodeOf own.code old_code
  pub new_is : IsCodeOf now.code new_code
  pub hastened : IsHastened old_code new_code

-- it starts as the host with this number: from the program that `compile` stores for it or from a hastened one, its inputs and its deal,
-- with an address for each other host
pub record StartsAs (program : NormalForm) (list : List Proto) (plan : Digest) (inputs : List (List ℕ)) (deals : List Deal) (h : ℕ)
    (run : Run) : Type 0 where
  pub addresses : List (List ℕ)
  pub deal : Deal
  pub dealt : slice_get deals h ≡ Some deal
  pub peers : length addresses + 1 ≡ length program.hosts
  pub host : HostProgram
  pub hastened : IsHastenedProgram (stored_program program list plan h) host
  pub starts : Starts host (inputs_of inputs h) deal addresses run.ready

-- All hosts of a program at a valid list of protocols are run, each from its own files, on inputs and a consistent deal. All links tell
-- their bytes, and what came to one host on its link to another is a prefix of what that one sent there. Nothing is said of when.
pub record AreRunOverLinks (program : NormalForm) (list : List Proto) (plan : Digest) (inputs : List (List ℕ)) (deals : List Deal)
    (run : ℕ → Run) : Type 0 where
  pub stored : (h : ℕ) → h < length program.hosts → CanBeStored program list plan h
  pub files : AreFiles inputs deals
  pub each : length deals ≡ length program.hosts
  pub starts : (h : ℕ) → h < length program.hosts → StartsAs program list plan inputs deals h (run h)
  pub plays : (h : ℕ) → h < length program.hosts → IsPlayed (run h)
  pub told : (h : ℕ) (is : h < length program.hosts) (peer : ℕ) → TellsBytes (link_to (plays h is) peer)
  pub linked : (a b : ℕ) (is_a : a < length program.hosts) (is_b : b < length program.hosts) → a ≢ b
      → IsPrefixOf (bytes_that_came (link_to (plays b is_b) a)) (bytes_that_went (link_to (plays a is_a) b))

-- what a host writes that is told these words
abbrev pub text_of : List ℕ → List ℕ
text_of words = listening ++ (lines words ++ ended)

-- with Ok the output took all of this text, and else some prefix of it
abbrev pub WritesUpTo : SinkView → SinkView → List ℕ → Result Ended HostFault → Type 0
WritesUpTo before now text (Ok done) = now.taken ≡ before.taken ++ text
WritesUpTo before now text (Err cause) = (front : List ℕ) × IsPrefixOf front text × (now.taken ≡ before.taken ++ front)

-- no host tells a byte that no peer sends, words that are to be the same and differ, another program or another host
abbrev pub BlamesNobody : Result Ended HostFault → Type 0
BlamesNobody (Err (fault.BadFrame offset byte)) = ⊥
BlamesNobody (Err (fault.Unequal left right)) = ⊥
BlamesNobody (Err (fault.WrongProgram peer ours theirs)) = ⊥
BlamesNobody (Err (fault.WrongHost wanted named)) = ⊥
BlamesNobody other = Unit {0}

-- A host that is told these words writes `listening`, the decimal lines of a prefix of them and no others; where it ends, the lines of
-- all, and `ended`, however the others end.
pub record WritesWhatItIsTold (words : List ℕ) (run : Run) : Type 0 where
  pub written : IsTrue run.out_now.told → WritesUpTo run.out run.out_now (text_of words) run.result
  pub blames : BlamesNobody run.result

-- So do all hosts of a program that tells them what a source tells them.
abbrev pub RunningHostsTellTheSource : Type 0
RunningHostsTellTheSource = (source : Source) (program : NormalForm) (list : List Proto) (plan : Digest) (inputs : List (List ℕ)) (deals : List Deal) (run : ℕ → Run)
    → program_outputs program inputs ≡ source_outputs source inputs → AreRunOverLinks program list plan inputs deals run
    → (h : ℕ) → h < length program.hosts → WritesWhatItIsTold (slice_index_or (source_outputs source inputs) h []) (run h)
