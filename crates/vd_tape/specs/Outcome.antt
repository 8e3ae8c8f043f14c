-- What the bytes of a deal file come to: its deal, or the first offset at which they go on as no deal file does.
use Rattle.std.specs.Prelude.{ℕ, List, Result}
use Rattle.vd_base.specs.declared.faults.FileFault.{FileFault}
use Rattle.vd_base_codec.specs.Exact.{StopsAt}
use Rattle.vd_base_codec.specs.Outcome.{FollowsGrammar}
use Rattle.vd_base_codec.specs.Outcome as file
use Rattle.vd_tape.specs.declared.deal_items.deal.Deal.{Deal}
use Rattle.vd_tape.specs.Text.{IsFileOf, IsDealText}
use Rattle.vd_tape.specs.Reading.{deal_read}

-- The bytes have one outcome, and it is what is read of them.
abbrev pub DealsFollowGrammar : (hosts me : ℕ) → List ℕ → Type 0
DealsFollowGrammar hosts me bytes = FollowsGrammar (deal_read hosts me bytes) (IsFileOf hosts me bytes) (StopsAt (IsDealText hosts me) bytes)

-- Unless memory runs out, a deal is answered exactly where the bytes are its text.
abbrev pub Accepts : (hosts me : ℕ) → List ℕ → Result Deal FileFault → Type 0
Accepts hosts me bytes result = file.Accepts (IsFileOf hosts me bytes) result

-- Unless memory runs out, a fault is answered exactly where the bytes have it.
abbrev pub Refuses : (hosts me : ℕ) → List ℕ → Result Deal FileFault → Type 0
Refuses hosts me bytes result = file.Refuses (StopsAt (IsDealText hosts me) bytes) result
