-- The lists that actions take items from.
use Rattle.vd_execution.specs.Step.{Inputs, OwnWords, Triples, BitTriples, Pairs, Need, Nothing, Item}
use Rattle.vd_reorder.specs.declared.acts.Taken.{Taken}
use Rattle.vd_reorder.specs.declared.acts.Taken.TheVariants as taken

-- what must be there before an item is taken
abbrev pub need_in : Taken → Need
need_in taken.Nothing = Nothing
need_in taken.Inputs = Item Inputs
need_in taken.Own = Item OwnWords
need_in (taken.Triples peer) = Item (Triples peer.0)
need_in (taken.Bits peer) = Item (BitTriples peer.0)
need_in (taken.Pairs peer) = Item (Pairs peer.0)
