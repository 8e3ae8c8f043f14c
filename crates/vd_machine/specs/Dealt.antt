-- How many items hosts were dealt.
use Rattle.std.specs.Prelude.{ℕ, List, Option, Some, None, length, slice_get}
use Rattle.vd_tape.specs.declared.deal_items.deal.Deal.{Deal}
use Rattle.vd_execution.specs.Step.{Source, Inputs, OwnWords, Triples, BitTriples, Pairs}
use Rattle.vd_machine.specs.Machines.{list_of}

-- how many items a host was dealt of each source; one that was dealt nothing has none
abbrev pub dealt_count : Option Deal → Source → ℕ
dealt_count None s = 0
dealt_count (Some d) Inputs = 0
dealt_count (Some d) OwnWords = length d.own
dealt_count (Some d) (Triples p) = length (list_of d.triples d.me.0 p)
dealt_count (Some d) (BitTriples p) = length (list_of d.bits d.me.0 p)
dealt_count (Some d) (Pairs p) = length (list_of d.pairs d.me.0 p)

-- the same of each of these hosts
abbrev pub counts_of : List Deal → ℕ → Source → ℕ
counts_of deals g s = dealt_count (slice_get deals g) s
