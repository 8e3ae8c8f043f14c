-- Deals of two hosts as they stand in files, and how many items a run takes of them.
use Rattle.std.specs.Prelude.{◌≡◌, ℕ, ◌+◌, List, [], ◌∷◌, Option, Some, None, length, slice_get, slice_index_or, ◌-◌, nat_lt, ◌||◌, if◌then◌else◌, Bool}
use Rattle.vd_tape.specs.declared.deal_items.deal.Deal.{Deal}
use Rattle.vd_tape.specs.declared.deal_items.deal.DealKind.{DealKind}
use Rattle.vd_tape.specs.declared.deal_items.deal.DealKind.TheVariants.{Own, Mul, And, Pair}
use Rattle.vd_execution.specs.Step.{Source, OwnWords, Triples, BitTriples, Pairs}
use Rattle.vd_execution.specs.World.{Tape, followed_by_zeros}
use Rattle.vd_execution.specs.Joint.{Hosts}
use Rattle.vd_machine.specs.Dealt.{counts_of}
use Rattle.vd_machine.specs.Machines.{items_of}
use Rattle.vd_excuse_runs.specs.declared.side.Side.{Side}
use Rattle.vd_excuse_runs.specs.Sides.{dealt_side}

-- the item at a place of a host's files; a host that was dealt nothing has none
abbrev pub file_items : List (List ℕ) → ℕ → Option Deal → Source → ℕ → Option (List ℕ)
file_items inputs h None source i = None
file_items inputs h (Some deal) source i = items_of (record { inputs = slice_index_or inputs h []; deal = deal }) source i

-- the files of all hosts, each list followed by zeros
abbrev pub file_tape : List (List ℕ) → List Deal → Tape
file_tape inputs deals = followed_by_zeros (λ h. file_items inputs h (slice_get deals h))

-- one of two hosts' deal: a list of each kind for its only peer
pub record IsOneOfTwo (me : ℕ) (d : Deal) : Type 0 where
  pub hosts_are : d.hosts ≡ 2
  pub me_is : d.me.0 ≡ me
  pub triples : length d.triples ≡ 1
  pub bits : length d.bits ≡ 1
  pub pairs : length d.pairs ≡ 1

pub record AreOfTwo (deals : List Deal) : Type 0 where
  pub two : length deals ≡ 2
  pub each : (me : ℕ) (d : Deal) → slice_get deals me ≡ Some d → IsOneOfTwo me d

-- the sides of a run at its start
abbrev pub dealt_sides : ℕ → List (List ℕ) → List Deal → List Side
dealt_sides g inputs [] = []
dealt_sides g inputs (d ∷ deals) = dealt_side (slice_index_or inputs g []) d ∷ dealt_sides (g + 1) inputs deals

-- ---- whether a run takes an item past the end of a list

abbrev pub list_of_kind : DealKind → ℕ → Source
list_of_kind Own peer = OwnWords
list_of_kind Mul peer = Triples peer
list_of_kind And peer = BitTriples peer
list_of_kind Pair peer = Pairs peer

abbrev pub takes_more : List Deal → Hosts → DealKind → ℕ → Bool
takes_more deals last kind g = nat_lt (counts_of deals g (list_of_kind kind (1 - g))) ((last g).cursors (list_of_kind kind (1 - g)))

abbrev pub is_short : List Deal → Hosts → DealKind → Bool
is_short deals last kind = takes_more deals last kind 0 || takes_more deals last kind 1

abbrev pub first_of : (DealKind → Bool) → List DealKind → Option DealKind
first_of test [] = None
first_of test (kind ∷ kinds) = if test kind then Some kind else first_of test kinds

abbrev pub first_short : List Deal → Hosts → Option DealKind
first_short deals last = first_of (is_short deals last) (Own ∷ Mul ∷ And ∷ Pair ∷ [])
