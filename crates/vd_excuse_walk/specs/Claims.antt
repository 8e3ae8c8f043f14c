-- What is computed along both runs: the deal at the end.
use Rattle.std.specs.Prelude.{◌≡◌, ◌≢◌, ℕ, ◌+◌, ◌≤◌, List, [], ◌∷◌, Some, length, map, slice_get, slice_index, slice_index_or, nat_lt, ◌||◌, Bool, Option}
use Rattle.vd_base.specs.declared.ids.HostId.{HostId}
use Rattle.vd_tape.specs.declared.deal_items.deal.Deal.{Deal}
use Rattle.vd_tape.specs.declared.deal_items.deal.DealKind.{DealKind}
use Rattle.vd_tape.specs.declared.deal_items.deal.DealKind.TheVariants.{Own, Mul, And, Pair}
use Rattle.vd_execution.specs.Step.{Source, Inputs}
use Rattle.vd_execution.specs.World.{zeros_of}
use Rattle.vd_execution.specs.Joint.{fresh}
use Rattle.vd_views.specs.Views.{alone}
use Rattle.vd_views.specs.Contract.{with_inputs}
use Rattle.vd_excuse_walk.specs.declared.equivocation_laws.step.Step.{Step}
use Rattle.vd_excuse_walk.specs.Walks.{Both, both_steps, walks}
use Rattle.vd_excuse_runs.specs.declared.side.Side.{Side}
use Rattle.vd_excuse_runs.specs.Runs.{side_at}
use Rattle.vd_excuse_walk.specs.declared.walker.Walker.{Walker}
use Rattle.vd_machine.specs.Dealt.{counts_of}
use Rattle.vd_excuse_walk.specs.Files.{dealt_sides, file_tape, first_of}

-- both runs at their start: the second by the first deal, with its own inputs
abbrev pub at_start : List (List ℕ) → List (List ℕ) → List Deal → Both
at_start first second deals = record { deal = with_inputs (file_tape first deals) (λ g i. slice_index (slice_index_or second g []) i); first = fresh; second = fresh }

-- both runs at their end
abbrev pub end_of : HostId → List Step → List (List ℕ) → List (List ℕ) → List Deal → Both
end_of h steps first second deals = both_steps (walks (alone h.0) (file_tape first deals) steps) (at_start first second deals)

-- the second run takes no item past the end of a list, and nothing stands there
pub record EndsWithin (deals : List Deal) (end : Both) : Type 0 where
  pub takes : (g : ℕ) (s : Source) → s ≢ Inputs → (end.second g).cursors s ≤ counts_of deals g s
  pub ends : (g : ℕ) (s : Source) (i : ℕ) → s ≢ Inputs → counts_of deals g s ≤ i → end.deal g s i ≡ zeros_of s

-- a deal that differs in its shared items alone, of which there are as many
pub record HasSameShape (d e : Deal) : Type 0 where
  pub hosts : e.hosts ≡ d.hosts
  pub me : e.me ≡ d.me
  pub own : e.own ≡ d.own
  pub triples : map length e.triples ≡ map length d.triples
  pub bits : map length e.bits ≡ map length d.bits
  pub pairs : map length e.pairs ≡ map length d.pairs

pub record HaveSameShape (deals stored : List Deal) : Type 0 where
  pub two : length stored ≡ 2
  pub each : (g : ℕ) (d e : Deal) → slice_get deals g ≡ Some d → slice_get stored g ≡ Some e → HasSameShape d e

-- a host's deal, as its side has it at the end
abbrev pub stored_deal : Deal → Side → Deal
stored_deal d s = record { hosts = d.hosts; me = d.me; own = s.own; triples = s.triples ∷ []; bits = s.bits ∷ []; pairs = s.pairs ∷ [] }

abbrev pub stored_deals : ℕ → List Side → List Deal → List Deal
stored_deals g run [] = []
stored_deals g run (d ∷ deals) = stored_deal d (side_at run g) ∷ stored_deals (g + 1) run deals

-- both runs as lists at their start
abbrev pub walker_of : HostId → List (List ℕ) → List (List ℕ) → List Deal → Walker
walker_of h first second deals = record { host = h; first = dealt_sides 0 first deals; second = dealt_sides 0 second deals }

-- whether a host took an item of a kind past the end of its list
abbrev pub side_takes_more : DealKind → Side → Bool
side_takes_more Own s = nat_lt (length s.own) s.taken.own
side_takes_more Mul s = nat_lt (length s.triples) s.taken.triples
side_takes_more And s = nat_lt (length s.bits) s.taken.bits
side_takes_more Pair s = nat_lt (length s.pairs) s.taken.pairs

abbrev pub either_takes_more : List Side → DealKind → Bool
either_takes_more run kind = side_takes_more kind (side_at run 0) || side_takes_more kind (side_at run 1)

abbrev pub first_taken : List Side → Option DealKind
first_taken run = first_of (either_takes_more run) (Own ∷ Mul ∷ And ∷ Pair ∷ [])
