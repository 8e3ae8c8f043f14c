-- The hosts of a world, and what they stand for.
use Rattle.std.specs.Prelude.{◌≡◌, ℕ, List, [], Option, Some, None, Bool, true, false, slice_get, slice_index, slice_index_or, length, ◌≤◌, map, replicate, All}
use Rattle.vd_base.specs.declared.host_state.HostState.{HostState}
use Rattle.vd_base.specs.declared.host_state.HostState.TheVariants as state
use Rattle.vd_machine.specs.declared.want.Want.{Want}
use Rattle.vd_machine.specs.declared.want.Want.TheVariants as want
use Rattle.vd_execution.specs.Code.{Finished}
use Rattle.vd_execution.specs.Step.{Source, State, answer, need, deed}
use Rattle.vd_execution.specs.World.{Local, World, Supply, given, step, run, left, done, moved_on}
use Rattle.vd_execution.specs.Schedule.{after}
use Rattle.vd_machine.specs.Machines.{items_of, cursors_of, words_for}
use Rattle.vd_machine.specs.Kept.{Kept, state_of, at_start}
use Rattle.vd_execution.specs.Joint.{Joint, code_of}

-- a host: its machine, what it printed, all packets that it sent to each host, and how many it took from each
pub record HostKept : Type 0 where
  pub machine : Kept
  pub printed : List ℕ
  pub links : List (List (List ℕ))
  pub taken : List ℕ

abbrev pub local : State → List ℕ → List (List (List ℕ)) → List ℕ → Local
local m printed links taken = record {
  state = m;
  printed = printed;
  sent = λ p. slice_index_or links p [];
  taken = λ p. slice_index taken p;
}

abbrev pub local_of : HostKept → Local
local_of k = local (state_of k.machine) k.printed k.links k.taken

-- a host that is not declared: it has nothing to do
abbrev pub nobody : Local
nobody = record { state = record { pending = Finished; registers = λ r. 0; cursors = λ s. 0 }; printed = []; sent = λ p. []; taken = λ p. 0 }

abbrev pub local_or_nobody : Option HostKept → Local
local_or_nobody None = nobody
local_or_nobody (Some k) = local_of k

abbrev pub world_of : List HostKept → World
world_of hosts h = local_or_nobody (slice_get hosts h)

-- what the hosts take items from
abbrev pub lists_of : Option HostKept → Source → ℕ → Option (List ℕ)
lists_of None s i = None
lists_of (Some k) s i = items_of k.machine.lists s i

abbrev pub supply_of : List HostKept → Supply
supply_of hosts h = lists_of (slice_get hosts h)

-- each machine is one of so many
abbrev pub AreOf : ℕ → List HostKept → Type 0
AreOf n hosts = All (λ k. k.machine.lists.deal.hosts ≡ n) hosts

-- the hosts before their first step
abbrev pub host_at_start : Kept → HostKept
host_at_start m = record { machine = m; printed = []; links = replicate m.lists.deal.hosts []; taken = replicate m.lists.deal.hosts 0 }

abbrev pub hosts_at_start : List Kept → List HostKept
hosts_at_start machines = map host_at_start machines

-- each machine is one of as many as there are
abbrev pub AreMachines : List Kept → Type 0
AreMachines machines = All (λ m. m.lists.deal.hosts ≡ length machines) machines

-- the machines of a joint code: each before the code of its host, and no code is left over
pub record AreLoaded (machines : List Kept) (j : Joint) : Type 0 where
  pub codes : (h : ℕ) (m : Kept) → slice_get machines h ≡ Some m → state_of m ≡ at_start (code_of h j)
  pub past : (h : ℕ) → length machines ≤ h → code_of h j ≡ Finished

-- the words that the next instruction of a host gets
abbrev pub gets : List HostKept → ℕ → HostKept → Option (List ℕ)
gets hosts h k = answer (given (supply_of hosts) (world_of hosts) h (local_of k)) (state_of k.machine).cursors (need (state_of k.machine))

-- the words that it gets where it hears these
abbrev pub given_words : HostKept → List ℕ → List ℕ
given_words k heard = words_for k.machine.lists (cursors_of k.machine.taken) heard (need (state_of k.machine))

-- some schedule leads from w to v
abbrev pub Reaches : Supply → World → World → Type 0
Reaches s w v = (hs : List ℕ) × (v ≡ run s hs w)

abbrev pub is_step : {W : Type 0} → Option W → Bool
is_step None = false
is_step (Some w) = true

-- the world after a turn of a host, and whether it is a step
abbrev pub turned : List HostKept → ℕ → World
turned hosts h = after (step (supply_of hosts) h (world_of hosts)) (world_of hosts)

abbrev pub can_step : List HostKept → ℕ → Bool
can_step hosts h = is_step (step (supply_of hosts) h (world_of hosts))

-- a bound on the steps that are left
abbrev pub steps_left : List HostKept → ℕ
steps_left hosts = left (length hosts) (world_of hosts)

-- how a host stands that can not step, by what it wants
abbrev pub stuck_state : Want → HostState
stuck_state want.Nothing = state.Ready
stuck_state (want.Words p n) = state.Waiting p
stuck_state want.Ended = state.Ended
stuck_state (want.ShortInput i j) = state.ShortInput
stuck_state (want.ShortDeal kind i j) = state.ShortDeal
stuck_state (want.Unequal x y) = state.Ready

-- a host after its next step, on the words that it heard
abbrev pub gone_on : HostKept → List ℕ → Local
gone_on k heard = moved_on (local_of k) (given_words k heard)

-- a host whose machine went on, and nobody saw it
abbrev pub gone_unseen : HostKept → Kept → HostKept
gone_unseen k m = record k { machine = m }

-- a host of which what the next step shows is kept, in this state
abbrev pub noted : Kept → List ℕ → List (List (List ℕ)) → List ℕ → State → Local
noted machine printed links taken m = done (local (state_of machine) printed links taken) m (deed (state_of machine))
