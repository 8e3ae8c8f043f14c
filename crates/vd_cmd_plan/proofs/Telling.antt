-- What the number of a status says of it.
use Rattle.std.proofs.Common.{◌≡◌, ℕ, List, [], Option, Some, slice_get, refl, sym, ◌∙◌, ap}
use Rattle.vd_cmd_plan.specs.Lines.{host_code}
use Rattle.vd_cmd_plan.specs.Words.{CodesAreListed, CodesTellWords, ZeroIsEnded, host_word, listed_words}
use Rattle.vd_cmd_plan.specs.declared.status.HostStatus.{HostStatus}
use Rattle.vd_cmd_plan.specs.declared.status.HostStatus.TheVariants as host_status
use Rattle.vd_cmd_plan.specs.declared.status.Status.TheVariants.{Ended, Memory, Usage, ReadFault, WriteFault, TooLong, Syntax, Names, Flow, NoAssignment, Spent, InputText, DealText, ScheduleText, CertificateText, BadDeal, CertificateRefused, Host, ChildFault, NoHost, NotTwo, HasCommit, DealShort, ViewDiffers, DealUsed, ShortKey, Table, Report}

host_told : (status : HostStatus) → slice_get listed_words (host_code status) ≡ Some (host_word status)
host_told (host_status.ProgramText offset) = refl
host_told (host_status.ProgramRange number) = refl
host_told (host_status.PeerFault name) = refl
host_told (host_status.BadFrame offset byte) = refl
host_told (host_status.Unequal left right) = refl
host_told (host_status.WrongProgram peer ours theirs) = refl
host_told (host_status.WrongHost wanted named) = refl
host_told (host_status.ShortInput cursor count) = refl
host_told (host_status.ShortDeal kind cursor count) = refl
host_told (host_status.EndOfLink name) = refl

pub told : CodesAreListed
told Ended = refl
told Memory = refl
told Usage = refl
told (ReadFault name) = refl
told WriteFault = refl
told (TooLong name limit) = refl
told (Syntax fault) = refl
told (Names fault) = refl
told (Flow fault) = refl
told (NoAssignment labelled) = refl
told (Spent budget labelled) = refl
told (InputText fault) = refl
told (DealText name number offset) = refl
told (ScheduleText fault) = refl
told (CertificateText offset) = refl
told (BadDeal bad) = refl
told (CertificateRefused fault) = refl
told (ChildFault hosts fault) = refl
told (NoHost name) = refl
told (NotTwo count) = refl
told (HasCommit slot) = refl
told (DealShort kind) = refl
told (ViewDiffers place) = refl
told (DealUsed name) = refl
told (ShortKey name length) = refl
told (Table name row column fault) = refl
told (Report name fault) = refl
told (Host status) = host_told status

host_zero : (status : HostStatus) → host_code status ≡ 0 → Host status ≡ Ended
host_zero (host_status.ProgramText offset) is = absurd (cc is)
host_zero (host_status.ProgramRange number) is = absurd (cc is)
host_zero (host_status.PeerFault name) is = absurd (cc is)
host_zero (host_status.BadFrame offset byte) is = absurd (cc is)
host_zero (host_status.Unequal left right) is = absurd (cc is)
host_zero (host_status.WrongProgram peer ours theirs) is = absurd (cc is)
host_zero (host_status.WrongHost wanted named) is = absurd (cc is)
host_zero (host_status.ShortInput cursor count) is = absurd (cc is)
host_zero (host_status.ShortDeal kind cursor count) is = absurd (cc is)
host_zero (host_status.EndOfLink name) is = absurd (cc is)

pub zero_is_ended : ZeroIsEnded
zero_is_ended Ended is = refl
zero_is_ended Memory is = absurd (cc is)
zero_is_ended Usage is = absurd (cc is)
zero_is_ended (ReadFault name) is = absurd (cc is)
zero_is_ended WriteFault is = absurd (cc is)
zero_is_ended (TooLong name limit) is = absurd (cc is)
zero_is_ended (Syntax fault) is = absurd (cc is)
zero_is_ended (Names fault) is = absurd (cc is)
zero_is_ended (Flow fault) is = absurd (cc is)
zero_is_ended (NoAssignment labelled) is = absurd (cc is)
zero_is_ended (Spent budget labelled) is = absurd (cc is)
zero_is_ended (InputText fault) is = absurd (cc is)
zero_is_ended (DealText name number offset) is = absurd (cc is)
zero_is_ended (ScheduleText fault) is = absurd (cc is)
zero_is_ended (CertificateText offset) is = absurd (cc is)
zero_is_ended (BadDeal bad) is = absurd (cc is)
zero_is_ended (CertificateRefused fault) is = absurd (cc is)
zero_is_ended (ChildFault hosts fault) is = absurd (cc is)
zero_is_ended (NoHost name) is = absurd (cc is)
zero_is_ended (NotTwo count) is = absurd (cc is)
zero_is_ended (HasCommit slot) is = absurd (cc is)
zero_is_ended (DealShort kind) is = absurd (cc is)
zero_is_ended (ViewDiffers place) is = absurd (cc is)
zero_is_ended (DealUsed name) is = absurd (cc is)
zero_is_ended (ShortKey name length) is = absurd (cc is)
zero_is_ended (Table name row column fault) is = absurd (cc is)
zero_is_ended (Report name fault) is = absurd (cc is)
zero_is_ended (Host status) is = host_zero status is

given : {T : Type 0} → T → Option T → T
given otherwise (Some value) = value
given otherwise other = otherwise

pub codes_tell_words : CodesTellWords
unfolding given
codes_tell_words first second same =
    ap (λ (o : Option (List ℕ)). given [] o) (sym (told first) ∙ (ap (λ (n : ℕ). slice_get listed_words n) same ∙ told second))
