-- A word for each kind of status, and what the number with which the process ends says of it.
use Rattle.std.specs.Prelude.{◌≡◌, ℕ, List, [], ◌∷◌, Some, codes, slice_get}
use Rattle.vd_cmd_plan.specs.Lines.{code_of}
use Rattle.vd_cmd_plan.specs.declared.status.HostStatus.{HostStatus}
use Rattle.vd_cmd_plan.specs.declared.status.HostStatus.TheVariants as host_status
use Rattle.vd_cmd_plan.specs.declared.status.Status.{Status}
use Rattle.vd_cmd_plan.specs.declared.status.Status.TheVariants.{Ended, Memory, Usage, ReadFault, WriteFault, TooLong, Syntax, Names, Flow, NoAssignment, Spent, InputText, DealText, ScheduleText, CertificateText, BadDeal, CertificateRefused, Host, ChildFault, NoHost, NotTwo, HasCommit, DealShort, ViewDiffers, DealUsed, ShortKey, Table, Report}

-- Whether a host's program is no text or breaks a range is one word.
abbrev pub host_word : HostStatus → List ℕ
host_word (host_status.ProgramText offset) = codes "host program"
host_word (host_status.ProgramRange number) = codes "host program"
host_word (host_status.PeerFault name) = codes "peer fault"
host_word (host_status.BadFrame offset byte) = codes "bad frame"
host_word (host_status.Unequal left right) = codes "unequal"
host_word (host_status.WrongProgram peer ours theirs) = codes "wrong program"
host_word (host_status.WrongHost wanted named) = codes "wrong host"
host_word (host_status.ShortInput cursor count) = codes "short input"
host_word (host_status.ShortDeal kind cursor count) = codes "short deal"
host_word (host_status.EndOfLink name) = codes "link ended"

abbrev pub word_of : Status → List ℕ
word_of Ended = codes "ended"
word_of Memory = codes "memory"
word_of Usage = codes "usage"
word_of (ReadFault name) = codes "read fault"
word_of WriteFault = codes "write fault"
word_of (TooLong name limit) = codes "too long"
word_of (Syntax fault) = codes "syntax"
word_of (Names fault) = codes "names"
word_of (Flow fault) = codes "flow"
word_of (NoAssignment labelled) = codes "no assignment"
word_of (Spent budget labelled) = codes "budget spent"
word_of (InputText fault) = codes "input text"
word_of (DealText name number offset) = codes "deal text"
word_of (ScheduleText fault) = codes "schedule text"
word_of (CertificateText offset) = codes "certificate text"
word_of (BadDeal bad) = codes "bad deal"
word_of (CertificateRefused fault) = codes "certificate refused"
word_of (Host status) = host_word status
word_of (ChildFault hosts fault) = codes "child fault"
word_of (NoHost name) = codes "no host"
word_of (NotTwo count) = codes "not two"
word_of (HasCommit slot) = codes "commitment"
word_of (DealShort kind) = codes "deal short"
word_of (ViewDiffers place) = codes "view differs"
word_of (DealUsed name) = codes "deal used"
word_of (ShortKey name length) = codes "short key"
word_of (Table name row column fault) = codes "table"
word_of (Report name fault) = codes "report"

-- The process ends with 0 where the command was carried out, and only there.
abbrev pub ZeroIsEnded : Type 0
ZeroIsEnded = (status : Status) → code_of status ≡ 0 → status ≡ Ended

-- Statuses of two words end with two numbers.
abbrev pub CodesTellWords : Type 0
CodesTellWords = (first second : Status) → code_of first ≡ code_of second → word_of first ≡ word_of second

-- the word of each number from 0 on; none has the number 30
abbrev pub listed_words : List (List ℕ)
listed_words =
    codes "ended" ∷ codes "memory" ∷ codes "usage" ∷ codes "read fault" ∷ codes "write fault" ∷ codes "too long" ∷ codes "syntax" ∷ codes "names"
    ∷ codes "flow" ∷ codes "no assignment" ∷ codes "budget spent" ∷ codes "input text" ∷ codes "deal text" ∷ codes "schedule text"
    ∷ codes "host program" ∷ codes "certificate text" ∷ codes "bad deal" ∷ codes "certificate refused" ∷ codes "peer fault" ∷ codes "bad frame"
    ∷ codes "unequal" ∷ codes "wrong program" ∷ codes "wrong host" ∷ codes "short input" ∷ codes "short deal" ∷ codes "link ended"
    ∷ codes "child fault" ∷ codes "no host" ∷ codes "not two" ∷ codes "commitment" ∷ codes "" ∷ codes "deal short" ∷ codes "view differs"
    ∷ codes "deal used" ∷ codes "short key" ∷ codes "table" ∷ codes "report" ∷ []

-- A status ends with the number of its word in this list.
abbrev pub CodesAreListed : Type 0
CodesAreListed = (status : Status) → slice_get listed_words (code_of status) ≡ Some (word_of status)
