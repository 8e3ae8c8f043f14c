-- How much to deal: the greatest number of each kind that a host, or a host of two, takes.
use Rattle.std.specs.Prelude.{ℕ, max, List, length}
use Rattle.std.specs.List.{fold}
use Rattle.vd_tape.specs.declared.deal_items.deal.Counts.{Counts}
use Rattle.vd_deal_needs.specs.declared.taking.HostNeeds.{HostNeeds}
use Rattle.vd_deal_needs.specs.declared.taking.Shared.{Shared}

abbrev pub nothing : Shared
nothing = record { muls = 0; ands = 0; pairs = 0 }

-- the greater number of each kind
abbrev pub greater : Shared → Shared → Shared
greater s t = record { muls = max s.muls t.muls; ands = max s.ands t.ands; pairs = max s.pairs t.pairs }

abbrev pub most_shared : List Shared → Shared
most_shared list = fold greater nothing list

-- over all hosts
abbrev pub most_of : List HostNeeds → Shared
most_of needs = fold (λ s host. greater s (most_shared host.shared)) nothing needs

abbrev pub most_own : List HostNeeds → ℕ
most_own needs = fold (λ n host. max n host.own) 0 needs

abbrev pub sizes_of : List HostNeeds → Counts
sizes_of needs = record { hosts = length needs; own = most_own needs; muls = (most_of needs).muls; ands = (most_of needs).ands; pairs = (most_of needs).pairs }
