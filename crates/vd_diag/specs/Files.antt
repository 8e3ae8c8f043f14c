-- Sentences on names of hosts, schedules and machine-written files.
use Rattle.std.specs.Prelude.{ℕ, nat_eq, if◌then◌else◌, List, codes, decimal}
use Rattle.vd_diag.specs.Parts.{three}

unfoldable pub schedule_sentence : List ℕ
schedule_sentence = codes "a schedule has names of hosts, and may end with `all`"

-- of a machine-written file, and the offset from which it goes on as none does
abbrev pub from_byte : ℕ → List ℕ → List ℕ
from_byte offset said = three (codes "from byte ") (decimal offset) said

-- Behind the 15 bytes that name the version stands the number of hosts, and behind a space that of the host whose deal it is.
abbrev pub deal_said : ℕ → List ℕ
deal_said offset =
    if nat_eq offset 15 then codes " on no deal of this program goes on as this file does: there stands the number of its hosts"
    else if nat_eq offset 17
    then codes " on no deal of this host goes on as this file does: there stands the number of the host whose deal it is"
    else codes " on no deal file goes on as this file does; `viaduct deal` makes deal files"

abbrev pub deal_sentence : ℕ → List ℕ
deal_sentence offset = from_byte offset (deal_said offset)

abbrev pub certificate_sentence : ℕ → List ℕ
certificate_sentence offset = from_byte offset (codes " on no certificate goes on as this file does; `viaduct choose` makes certificates")

abbrev pub program_sentence : ℕ → List ℕ
program_sentence offset = from_byte offset (codes " on no host program goes on as this file does; `viaduct compile` makes host programs")

abbrev pub host_sentence : List ℕ → List ℕ
host_sentence word = three (codes "`") word (codes "` is no host of the source")

abbrev pub spent_sentence : ℕ → List ℕ
spent_sentence budget = three (codes "the search opened ") (decimal budget) (codes " prefixes of choices and needs more; at most 200000 may be given")

unfoldable pub no_assignment_sentence : List ℕ
no_assignment_sentence = codes "no choice of protocols is valid for this source"
