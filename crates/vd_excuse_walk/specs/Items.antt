-- Items from their words.
use Rattle.std.specs.Prelude.{ℕ, List}
use Rattle.vd_tape.specs.declared.deal_items.items.Triple.{Triple}
use Rattle.vd_tape.specs.declared.deal_items.items.PairItem.{PairItem}
use Rattle.vd_execution.specs.Registers.{nth}

abbrev pub triple_of : List ℕ → Triple
triple_of ws = record { a = nth ws 0; b = nth ws 1; c = nth ws 2 }

abbrev pub pair_of : List ℕ → PairItem
pair_of ws = record { s = nth ws 0; x = nth ws 1 }
