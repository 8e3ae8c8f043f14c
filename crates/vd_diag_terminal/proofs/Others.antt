-- What holds of all other statuses and faults.
use Rattle.std.proofs.Common.{◌≡◌, ◌≢◌, ℕ, Bool, List, [], Option, None, refl}
use Rattle.vd_cmd_plan.specs.Labelled.{LabelledForm}
use Rattle.vd_cmd_plan.specs.declared.status.HostStatus.{HostStatus}
use Rattle.vd_cmd_plan.specs.declared.status.HostStatus.TheVariants as host_status
use Rattle.vd_cmd_plan.specs.declared.status.Status.{Status}
use Rattle.vd_cmd_plan.specs.declared.status.Status.TheVariants as status
use Rattle.vd_cmd_plan.specs.declared.status.FlowFault.{FlowFault}
use Rattle.vd_parser.specs.declared.fault.ParseFault.{ParseFault}
use Rattle.vd_report.specs.declared.fault.ReadFault.{ReadFault}
use Rattle.vd_resolve.specs.declared.fault.NameFault.{NameFault}
use Rattle.vd_diag.specs.Remarks.{told}
use Rattle.vd_diag.specs.declared.remark.Remark.{Remark}
use Rattle.vd_diag_terminal.specs.Alone.{alone, of_host}
use Rattle.vd_diag_terminal.specs.Files.{reading_of}
use Rattle.vd_diag_terminal.specs.Remarks.{IsRemarkOn}
use Rattle.vd_diag_terminal.specs.Said.{AreStepsOn, told_of}

-- a status of which no file is read
pub unread : (words : List (List ℕ)) (s : Status) → ((f : ParseFault) → s ≢ status.Syntax f) → ((f : NameFault) → s ≢ status.Names f) → ((f : FlowFault) → s ≢ status.Flow f) → ((p : LabelledForm) → s ≢ status.NoAssignment p)
    → ((budget : ℕ) (p : LabelledForm) → s ≢ status.Spent budget p) → ((f : ReadFault) → s ≢ status.InputText f) → ((f : ReadFault) → s ≢ status.ScheduleText f)
    → None ≡ reading_of words s
unread words (status.Syntax f) a b c d e g h = absurd (a f refl)
unread words (status.Names f) a b c d e g h = absurd (b f refl)
unread words (status.Flow f) a b c d e g h = absurd (c f refl)
unread words (status.NoAssignment p) a b c d e g h = absurd (d p refl)
unread words (status.Spent budget p) a b c d e g h = absurd (e budget p refl)
unread words (status.InputText f) a b c d e g h = absurd (g f refl)
unread words (status.ScheduleText f) a b c d e g h = absurd (h f refl)
unread words s a b c d e g h = refl

-- one of which there is no more to say
pub unsaid : (words : List (List ℕ)) (s : Status) → s ≢ status.Usage → ((offset : ℕ) → s ≢ status.CertificateText offset) → ((host : List ℕ) (number offset : ℕ) → s ≢ status.DealText host number offset) → ((f : HostStatus) → s ≢ status.Host f)
    → [] ≡ alone words s
unsaid words status.Usage a b c d = absurd (a refl)
unsaid words (status.CertificateText offset) a b c d = absurd (b offset refl)
unsaid words (status.DealText host number offset) a b c d = absurd (c host number offset refl)
unsaid words (status.Host f) a b c d = absurd (d f refl)
unsaid words s a b c d = refl

pub unsaid_of_host : (words : List (List ℕ)) (f : HostStatus) → ((offset : ℕ) → f ≢ host_status.ProgramText offset) → [] ≡ of_host words f
unsaid_of_host words (host_status.ProgramText offset) other = absurd (other offset refl)
unsaid_of_host words f other = refl

-- one of which there is no remark
pub unremarked : (bytes : List ℕ) (s : Status) → ((f : ParseFault) → s ≢ status.Syntax f) → ((f : NameFault) → s ≢ status.Names f) → ((f : FlowFault) → s ≢ status.Flow f) → ((p : LabelledForm) → s ≢ status.NoAssignment p)
    → ((budget : ℕ) (p : LabelledForm) → s ≢ status.Spent budget p) → ((f : ReadFault) → s ≢ status.InputText f) → ((f : ReadFault) → s ≢ status.ScheduleText f) → IsRemarkOn bytes s None
unremarked bytes (status.Syntax f) a b c d e g h = absurd (a f refl)
unremarked bytes (status.Names f) a b c d e g h = absurd (b f refl)
unremarked bytes (status.Flow f) a b c d e g h = absurd (c f refl)
unremarked bytes (status.NoAssignment p) a b c d e g h = absurd (d p refl)
unremarked bytes (status.Spent budget p) a b c d e g h = absurd (e budget p refl)
unremarked bytes (status.InputText f) a b c d e g h = absurd (g f refl)
unremarked bytes (status.ScheduleText f) a b c d e g h = absurd (h f refl)
unremarked bytes s a b c d e g h = refl

-- one of which the line is shown
pub shown_whole : (s : Status) (coloured : Bool) (name bytes : List ℕ) (remark : Remark) → ((f : ReadFault) → s ≢ status.InputText f) → told coloured name bytes remark ≡ told_of s coloured name bytes remark
shown_whole (status.InputText f) coloured name bytes remark other = absurd (other f refl)
shown_whole s coloured name bytes remark other = refl

-- one to which there are no steps
pub without_steps : (bytes : List ℕ) (s : Status) → ((f : FlowFault) → s ≢ status.Flow f) → AreStepsOn bytes s []
without_steps bytes (status.Flow f) other = absurd (other f refl)
without_steps bytes s other = refl
