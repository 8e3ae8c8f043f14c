-- What holds in each world that some schedule reaches.
use Rattle.std.specs.Prelude.{◌≡◌, ◌≢◌, ◌⊎◌, ℕ, ◌<◌, List, None, length}
use Rattle.vd_base.specs.declared.host_state.HostState.TheVariants as state
use Rattle.vd_execution.specs.Step.{Source}
use Rattle.vd_execution.specs.declared.instructions.Act.{Act}
use Rattle.vd_execution.specs.Acts.{do_then, run_acts, ActsAgree}
use Rattle.vd_execution.specs.World.{Local, World, Supply, Tape, run, effective, IsStuck, all_rounds, EndedFrom, IsPrefixOf, AllEnded, HasNoFault, CanStep, IsShort, words_of, followed_by_zeros}
use Rattle.vd_execution.specs.Joint.{Joint, Hosts, fresh, joint, program_order, IsTidy, IsSmooth, started, at_end}
use Rattle.vd_execution.specs.States.{host_state}
use Rattle.vd_execution.specs.Deals.{IsValidDeal}
use Rattle.vd_execution.specs.Gadgets.{IsSound}

-- what only grows: what a host printed and sent
pub record Grows (l k : Local) : Type 0 where
  pub printed : IsPrefixOf l.printed k.printed
  pub sent : (p : ℕ) → IsPrefixOf (l.sent p) (k.sent p)

-- a world that is on the way to the end of the joint run
pub record IsOnTheWay (s : Supply) (w : World) (last : Hosts) : Type 0 where
  -- each host has printed a prefix of what it prints in the joint run
  pub printed : (h : ℕ) → IsPrefixOf (w h).printed (last h).printed
  -- and sent a prefix of its packets, so a prefix of its words
  pub sent : (h p : ℕ) → IsPrefixOf ((w h).sent p) ((last h).sent p)
  pub talk : (h p : ℕ) → IsPrefixOf (words_of ((w h).sent p)) (words_of ((last h).sent p))
  -- no host stands at unequal words or before a packet of another length
  pub faultless : HasNoFault w
  -- not all have ended: then some host can step, or some host is short
  pub goes_on : AllEnded w ⊎ ((h : ℕ) × CanStep s w h) ⊎ ((h : ℕ) × IsShort s w h)
  -- all have ended: then all is whole
  pub whole : AllEnded w → w ≡ at_end last

-- each list has as many items as the joint run takes
abbrev pub Suffices : Supply → Hosts → Type 0
Suffices s last = (h : ℕ) (source : Source) (i : ℕ) → i < (last h).cursors source → s h source i ≢ None

-- the lists are read as followed by zeros: all hosts at the end of the joint run
abbrev pub last_of : Supply → Joint → Hosts
last_of s j = joint (followed_by_zeros s) j fresh

-- the hosts in program order, each as often as it has an instruction to execute
abbrev pub order_of : Supply → Joint → List ℕ
order_of s j = program_order (followed_by_zeros s) j fresh

-- how many instructions the joint run executes
abbrev pub work_of : Supply → Joint → ℕ
work_of s j = length (order_of s j)

-- what compiled code keeps on these lists
pub record RunsWell (s : Supply) (j : Joint) : Type 0 where
  pub tidy : IsTidy j
  pub smooth : IsSmooth (followed_by_zeros s) j fresh

-- and the lists suffice for it
pub record RunsToItsEnd (s : Supply) (j : Joint) : Type 0 where
  pub well : RunsWell s j
  pub enough : Suffices s (last_of s j)

-- the world that a schedule reaches from the start of a joint code, and how many of its turns were steps
abbrev pub reached : Supply → Joint → List ℕ → World
reached s j hs = run s hs (started j)

abbrev pub steps_of : Supply → Joint → List ℕ → ℕ
steps_of s j hs = effective s hs (started j)

-- the end of the joint run, after as many steps as it has instructions
abbrev pub IsWhole : Supply → Joint → List ℕ → Type 0
IsWhole s j hs = (reached s j hs ≡ at_end (last_of s j)) × (steps_of s j hs ≡ work_of s j)

-- all schedules that leave no host able to step end in one world, after equally many steps
abbrev pub HasOneEnd : Supply → World → Type 0
HasOneEnd s w = (a b : List ℕ) → IsStuck s (run s a w) → IsStuck s (run s b w) → (run s b w ≡ run s a w) × (effective s b w ≡ effective s a w)

-- rounds over n hosts until none can step
abbrev pub then_all : Supply → ℕ → World → World
then_all s n w = run s (all_rounds n w) w

abbrev pub IsReady : Supply → World → ℕ → Type 0
IsReady s w h = host_state s w h ≡ state.Ready

-- only the first n hosts have code
abbrev pub IsOf : ℕ → Joint → Type 0
IsOf n j = EndedFrom n (started j)

-- a host ends as it began
abbrev pub Stays : Tape → Joint → ℕ → Type 0
Stays t j h = (w : Hosts) → joint t j w h ≡ w h

-- where compared words are the same along acts and the rest runs smoothly from there, both run smoothly
abbrev pub KeepsSmooth : Tape → List Act → Joint → Type 0
KeepsSmooth t acts j = (w : Hosts) → ActsAgree t acts w → IsSmooth t j (run_acts t acts w) → IsSmooth t (do_then acts j) w

-- with valid deals, what leads sound states to sound states
abbrev pub KeepsSound : (Tape → Hosts → Hosts) → Type 0
KeepsSound leads = (t : Tape) → IsValidDeal t → (w : Hosts) → IsSound w → IsSound (leads t w)
