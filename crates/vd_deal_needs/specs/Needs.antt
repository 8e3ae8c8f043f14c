-- What a host takes at most from each of its lists.
use Rattle.std.specs.Prelude.{ℕ, List, length, map}
use Rattle.std.specs.List.{range_with_len}
use Rattle.vd_execution.specs.declared.instructions.Instr.{Instr}
use Rattle.vd_execution.specs.Step.{Source, Inputs, OwnWords, Triples, BitTriples, Pairs}
use Rattle.vd_deal_needs.specs.DealNeedsLawsNeeds.{counts}
use Rattle.vd_deal_needs.specs.declared.taking.HostNeeds.{HostNeeds}
use Rattle.vd_deal_needs.specs.declared.taking.Shared.{Shared}
use Rattle.vd_deal_needs.specs.Counted.{code_in}

-- of the items that it shares with a peer, where so many are taken from each list
abbrev pub shared_by : (Source → ℕ) → ℕ → Shared
shared_by taken peer = record { muls = taken (Triples peer); ands = taken (BitTriples peer); pairs = taken (Pairs peer) }

-- with so many hosts
abbrev pub needs_by : ℕ → (Source → ℕ) → HostNeeds
needs_by hosts taken = record { inputs = taken Inputs; own = taken OwnWords; shared = map (shared_by taken) (range_with_len 0 hosts) }

-- what the codes of all hosts take
abbrev pub needs_of : List (List Instr) → List HostNeeds
needs_of codes = map (λ code. needs_by (length codes) (counts (code_in code))) codes
