-- What is printed of needs.
use Rattle.std.specs.Prelude.{ℕ, nat_lt, if◌then◌else◌, Option, Some, None, List, [], ◌∷◌, ◌++◌, length, slice_get, slice_index_or, decimal, codes}
use Rattle.vd_tape.specs.declared.deal_items.deal.Counts.{Counts}
use Rattle.vd_deal_needs.specs.declared.taking.HostNeeds.{HostNeeds}
use Rattle.vd_deal_needs.specs.declared.taking.Shared.{Shared}
use Rattle.vd_deal_needs.specs.Sizes.{greater, nothing}
use Rattle.vd_hostcode.specs.declared.host_text.program.HostProgram.{HostProgram}
use Rattle.vd_report.specs.Lines.{number_field}
use Rattle.vd_report.specs.ReportLines.{texts_below}
use Rattle.vd_cmd_needs.specs.Needed.{needs_in}

-- the first five words of `deal`
abbrev pub sizes_line : Counts → List ℕ
sizes_line sizes =
    decimal sizes.hosts ++ number_field sizes.own ++ number_field sizes.muls ++ number_field sizes.ands ++ number_field sizes.pairs ++ 10 ∷ []

-- a host, its inputs and its own words
abbrev pub host_line : List ℕ → HostNeeds → List ℕ
host_line name needs = name ++ codes " inputs" ++ number_field needs.inputs ++ codes " own" ++ number_field needs.own ++ 10 ∷ []

abbrev pub shared_fields : Shared → List ℕ
shared_fields shared = codes " mul" ++ number_field shared.muls ++ codes " and" ++ number_field shared.ands ++ codes " pair" ++ number_field shared.pairs

-- two hosts, and the items that they share
abbrev pub pair_line : List ℕ → List ℕ → Shared → List ℕ
pair_line first second shared = first ++ 32 ∷ [] ++ second ++ shared_fields shared ++ 10 ∷ []

abbrev pub name_at : List (List ℕ) → ℕ → List ℕ
name_at names host = slice_index_or names host []

-- what a host shares with a peer
abbrev pub shared_at : HostNeeds → ℕ → Shared
shared_at host peer = slice_index_or host.shared peer nothing

abbrev pub shared_in : Option HostNeeds → ℕ → Shared
shared_in None peer = nothing
shared_in (Some host) peer = shared_at host peer

abbrev pub shared_of : List HostNeeds → ℕ → ℕ → Shared
shared_of needs host peer = shared_in (slice_get needs host) peer

-- what two hosts share: as much as the one that takes more
abbrev pub shared_by : List HostNeeds → ℕ → ℕ → Shared
shared_by needs first second = greater (shared_of needs first second) (shared_of needs second first)

-- ---- all hosts of a program

abbrev pub host_lines : List (List ℕ) → List HostNeeds → List ℕ
host_lines [] needs = []
host_lines (name ∷ names) [] = []
host_lines (name ∷ names) (host ∷ needs) = host_line name host ++ host_lines names needs

-- the line of two hosts, if the second is the later one
abbrev pub later_line : List (List ℕ) → List HostNeeds → ℕ → ℕ → List ℕ
later_line names needs first second = if nat_lt first second then pair_line (name_at names first) (name_at names second) (shared_by needs first second) else []

abbrev pub pairs_from : List (List ℕ) → List HostNeeds → ℕ → List ℕ
pairs_from names needs first = texts_below (later_line names needs first) (length needs)

-- a line for each host, and then one for each two hosts, in their order
abbrev pub each_lines : List (List ℕ) → List HostNeeds → List ℕ
each_lines names needs = host_lines names needs ++ texts_below (pairs_from names needs) (length needs)

-- ---- one host

-- the line of a host and another one, the earlier one first
abbrev pub peer_line : List (List ℕ) → (me peer : ℕ) → Shared → List ℕ
peer_line names me peer shared =
    if nat_lt me peer then pair_line (name_at names me) (name_at names peer) shared
    else if nat_lt peer me then pair_line (name_at names peer) (name_at names me) shared
    else []

abbrev pub own_lines : List (List ℕ) → ℕ → HostNeeds → List ℕ
own_lines names me needs = host_line (name_at names me) needs ++ texts_below (λ peer. peer_line names me peer (shared_at needs peer)) (length names)

abbrev pub program_lines : HostProgram → List ℕ
program_lines program = own_lines program.hosts program.me.0 (needs_in program)
