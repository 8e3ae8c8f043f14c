-- What holds of all hosts under any schedule: what they print is what the program tells.
use Rattle.std.specs.Prelude.{◌≡◌, ◌⊎◌, ℕ, ◌<◌, true, List, [], length, slice_index_or}
use Rattle.vd_base.specs.declared.host_state.HostState.TheVariants.{Ended}
use Rattle.vd_base.specs.declared.protocols.Proto.{Proto}
use Rattle.vd_base.specs.Holders.{proto_in}
use Rattle.vd_core.specs.declared.normal.NormalForm.{NormalForm}
use Rattle.vd_core.specs.declared.source.Source.{Source}
use Rattle.vd_semantics.specs.ProgramMeaning.{program_outputs}
use Rattle.vd_semantics.specs.SourceMeaning.{source_outputs}
use Rattle.vd_elaborate.specs.Normal.{normal_form}
use Rattle.vd_constraints.specs.declared.labels.Labels.{Labels}
use Rattle.vd_tape.specs.declared.deal_items.deal.Deal.{Deal}
use Rattle.vd_execution.specs.World.{World, Supply, IsPrefixOf, HasNoFault, CanStep, IsShort, words_of}
use Rattle.vd_execution.specs.Joint.{Joint, Hosts, started}
use Rattle.vd_execution.specs.States.{host_state}
use Rattle.vd_execution.specs.Claims.{Suffices, last_of}
use Rattle.vd_report.specs.declared.schedule.Schedule.{Schedule}
use Rattle.vd_backend_laws.specs.Whole.{code_at}
use Rattle.vd_projection.specs.Assignments.{IsValidFor}
use Rattle.vd_world.specs.Supplies.{supply_of_files, AreFiles}
use Rattle.vd_world.specs.Schedules.{replayed}

-- the first n hosts have ended
abbrev pub HaveEnded : Supply → ℕ → World → Type 0
HaveEnded s n w = (h : ℕ) → h < n → host_state s w h ≡ Ended

-- one of the first n hosts
pub record SomeOf (n : ℕ) (Holds : ℕ → Type 0) : Type 0 where
  pub host : ℕ
  pub low : host < n
  pub holds : Holds host

-- a world of n hosts that are told these outputs, and that send what is sent in the joint run
pub record IsToldOf (n : ℕ) (outputs : List (List ℕ)) (last : Hosts) (s : Supply) (w : World) : Type 0 where
  -- each host has printed a prefix of the words that it is told
  pub printed : (h : ℕ) → h < n → IsPrefixOf (w h).printed (slice_index_or outputs h [])
  -- and sent to each other host a prefix of the words that the joint run sends
  pub sent : (h p : ℕ) → IsPrefixOf (words_of ((w h).sent p)) (words_of ((last h).sent p))
  -- no host stands at unequal words, or before a packet of another length
  pub faultless : HasNoFault w
  -- where not all have ended, one of the hosts can step, or needs an input or an item past the end of its list
  pub goes_on : HaveEnded s n w ⊎ SomeOf n (CanStep s w) ⊎ SomeOf n (IsShort s w)
  -- where all have ended, each has printed all words that it is told, and sent all words
  pub all_printed : HaveEnded s n w → (h : ℕ) → h < n → (w h).printed ≡ slice_index_or outputs h []
  pub all_sent : HaveEnded s n w → (h p : ℕ) → words_of ((w h).sent p) ≡ words_of ((last h).sent p)

-- the world that a schedule leads to from the start of a joint code, and what holds of it: also that a schedule that ends
-- with `all` ends all hosts, where the lists suffice
pub record TellsUnder (n : ℕ) (outputs : List (List ℕ)) (s : Supply) (j : Joint) (schedule : Schedule) : Type 0 where
  pub told : IsToldOf n outputs (last_of s j) s (replayed s n schedule (started j))
  pub ends : schedule.all ≡ true → Suffices s (last_of s j) → HaveEnded s n (replayed s n schedule (started j))

-- the joint code of a program at these protocols
abbrev pub chosen_code : NormalForm → List Proto → Joint
chosen_code program protocols = code_at (proto_in protocols) program

-- with these inputs and deals, under a schedule
abbrev pub Tells : NormalForm → List Proto → (outputs inputs : List (List ℕ)) → List Deal → Schedule → Type 0
Tells program protocols outputs inputs deals schedule =
    TellsUnder (length program.hosts) outputs (supply_of_files inputs deals) (chosen_code program protocols) schedule

-- The joint code of every well-made program, at each valid assignment, with all inputs and every
-- consistent deal, under every schedule.
abbrev pub ProgramsTell : Type 0
ProgramsTell =
    (program : NormalForm) (labels : Labels) (protocols : List Proto) → IsValidFor program labels protocols
    → (inputs : List (List ℕ)) (deals : List Deal) → AreFiles inputs deals → length deals ≡ length program.hosts
    → (schedule : Schedule) → Tells program protocols (program_outputs program inputs) inputs deals schedule

-- The same of every source, whose outputs are those of its let-normal form.
abbrev pub SourcesTell : Type 0
SourcesTell =
    (source : Source) (labels : Labels) (protocols : List Proto) → IsValidFor (normal_form source) labels protocols
    → (inputs : List (List ℕ)) (deals : List Deal) → AreFiles inputs deals → length deals ≡ length (normal_form source).hosts
    → (schedule : Schedule) → Tells (normal_form source) protocols (source_outputs source inputs) inputs deals schedule
