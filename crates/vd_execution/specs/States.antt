-- How each host stands in a world.
use Rattle.std.specs.Prelude.{ℕ, List, Option, Some, None}
use Rattle.vd_base.specs.HostSets.{host}
use Rattle.vd_base.specs.declared.host_state.HostState.{HostState}
use Rattle.vd_base.specs.declared.host_state.HostState.TheVariants as state
use Rattle.vd_execution.specs.Step.{Source, Inputs, OwnWords, Triples, BitTriples, Pairs, Cursors, Need, Nothing, Item, Packet, Unequal, Ended, Given, of_length, need}
use Rattle.vd_execution.specs.World.{World, Supply, given}

abbrev pub short_of : Source → HostState
short_of Inputs = state.ShortInput
short_of OwnWords = state.ShortDeal
short_of (Triples p) = state.ShortDeal
short_of (BitTriples p) = state.ShortDeal
short_of (Pairs p) = state.ShortDeal

-- ready where there is one, and else another state
abbrev pub ready_or : HostState → Option (List ℕ) → HostState
ready_or other None = other
ready_or other (Some xs) = state.Ready

abbrev pub state_for : Given → Cursors → Need → HostState
state_for g c Nothing = state.Ready
state_for g c (Item s) = ready_or (short_of s) (g.item s (c s))
state_for g c (Packet p n) = ready_or (state.Waiting (host p)) (of_length n (g.front p))
state_for g c (Unequal x y) = state.Ready
state_for g c Ended = state.Ended

abbrev pub host_state : Supply → World → ℕ → HostState
host_state s w h = state_for (given s w h (w h)) (w h).state.cursors (need (w h).state)
