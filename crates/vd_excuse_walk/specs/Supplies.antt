-- The lists of a host in one run, followed by zeros.
use Rattle.std.specs.Prelude.{ℕ, nat_eq, if◌then◌else◌, List, [], ◌∷◌, length, slice_index}
use Rattle.vd_base.specs.declared.ids.HostId.{HostId}
use Rattle.vd_tape.specs.declared.deal_items.items.Triple.{Triple}
use Rattle.vd_tape.specs.declared.deal_items.items.PairItem.{PairItem}
use Rattle.vd_tape.specs.Identities.{triple_at, pair_at, zero_triple, zero_pair}
use Rattle.vd_execution.specs.Step.{Source, Inputs, OwnWords, Triples, BitTriples, Pairs}
use Rattle.vd_excuse_runs.specs.declared.side.Side.{Side}
use Rattle.vd_excuse_runs.specs.Sides.{triple_words, pair_words}

-- what a host takes items from
pub record Lists : Type 0 where
  pub peer : HostId
  pub inputs : List ℕ
  pub own : List ℕ
  pub triples : List Triple
  pub bits : List Triple
  pub pairs : List PairItem

abbrev pub lists_of : Side → Lists
lists_of s = record { peer = s.peer; inputs = s.inputs; own = s.own; triples = s.triples; bits = s.bits; pairs = s.pairs }

-- the item at each place
abbrev pub supplies : Lists → Source → ℕ → List ℕ
supplies l Inputs i = slice_index l.inputs i ∷ []
supplies l OwnWords i = slice_index l.own i ∷ []
supplies l (Triples p) i = triple_words (if nat_eq p l.peer.0 then triple_at l.triples i else zero_triple)
supplies l (BitTriples p) i = triple_words (if nat_eq p l.peer.0 then triple_at l.bits i else zero_triple)
supplies l (Pairs p) i = pair_words (if nat_eq p l.peer.0 then pair_at l.pairs i else zero_pair)

-- how many items there are; nobody asks this of inputs
abbrev pub dealt : Lists → Source → ℕ
dealt l Inputs = 0
dealt l OwnWords = length l.own
dealt l (Triples p) = if nat_eq p l.peer.0 then length l.triples else 0
dealt l (BitTriples p) = if nat_eq p l.peer.0 then length l.bits else 0
dealt l (Pairs p) = if nat_eq p l.peer.0 then length l.pairs else 0
