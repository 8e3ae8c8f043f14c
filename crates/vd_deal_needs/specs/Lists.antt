-- The lists that a host's code takes items from.
use Rattle.vd_execution.specs.Step.{Source, Inputs, OwnWords, Triples, BitTriples, Pairs}
use Rattle.vd_deal_needs.specs.declared.lists.ItemList.{ItemList}
use Rattle.vd_deal_needs.specs.declared.lists.ItemList.TheVariants as item_list

abbrev pub source_in : ItemList → Source
source_in item_list.Inputs = Inputs
source_in item_list.Own = OwnWords
source_in (item_list.Muls peer) = Triples peer.0
source_in (item_list.Ands peer) = BitTriples peer.0
source_in (item_list.Pairs peer) = Pairs peer.0
