-- The command `certify`.
use Rattle.std.specs.Prelude.{ℕ, ◌<◌, ◌≤◌, true, List, [], ◌++◌, length, Result, Ok, Err, codes}
use Rattle.std.specs.Fmt.{decimal}
use Rattle.vd_base.specs.Limits.{most_certificate_bytes, most_certificate_shifts}
use Rattle.vd_outside.specs.Files.{FilesView, Contents}
use Rattle.vd_core.specs.declared.normal.NormalForm.{NormalForm}
use Rattle.vd_search_tree.specs.declared.search_certificate.certificate.Certificate.{Certificate}
use Rattle.vd_bound.specs.declared.checking.CheckFault.{CheckFault}
use Rattle.vd_bound.specs.declared.checking.Proved.{Proved}
use Rattle.vd_bound.specs.declared.checking.Proved.TheVariants.{Least, Empty}
use Rattle.vd_space.specs.declared.problem.Problem.{Problem}
use Rattle.vd_search_stages.specs.Confirming.{confirmed}
use Rattle.vd_cmd_plan.specs.Plans.{Plan, Executes, ExecutesStep, file_then, check_then, answer_then, ended}
use Rattle.vd_cmd_plan.specs.declared.answer.Answer.{Answer}
use Rattle.vd_cmd_plan.specs.Refusals.{check_status}
use Rattle.vd_cmd_plan.specs.declared.status.Status.{Status}
use Rattle.vd_cmd_plan.specs.declared.status.Status.TheVariants.{CertificateText}
use Rattle.vd_cmd_labels.specs.Outcomes.{TextOutcomes, LabelOutcomes}
use Rattle.vd_cmd_choice.specs.Outcomes.{CertificateOutcomes}
use Rattle.vd_cmd_choose.specs.Problems.{problem_for}
use Rattle.vd_cmd_choice.specs.Programs.{program_then}

abbrev pub as_certificate : Result Certificate ℕ → Result Certificate Status
as_certificate (Ok certificate) = Ok certificate
as_certificate (Err offset) = Err (CertificateText offset)

-- the certificate whose text the bytes are, or the status of their refusal
abbrev pub certificate_of : CertificateOutcomes → List ℕ → Result Certificate Status
certificate_of certificates bytes = as_certificate (certificates.read bytes)

-- fetch a certificate and go on with it
unfoldable pub certificate_then : CertificateOutcomes → List ℕ → (Certificate → Contents → Plan) → Contents → Plan
certificate_then certificates name rest = file_then name most_certificate_bytes (λ bytes. check_then (certificate_of certificates bytes) rest)

-- what a certificate keeps that comes from a file
pub record IsFromFile (certificate : Certificate) : Type 0 where
  pub few_shifts : length certificate.shifts ≤ most_certificate_shifts
  pub few_marks : length certificate.marks < 4294967296

abbrev pub as_proved : Result Proved CheckFault → Result Proved Status
as_proved (Ok proved) = Ok proved
as_proved (Err fault) = Err (check_status fault)

-- what a certificate shows of a problem, or the status of its refusal
abbrev pub proved_of : Problem → Certificate → Result Proved Status
proved_of problem certificate = as_proved (confirmed problem certificate)

abbrev pub proved_text : Proved → List ℕ
proved_text (Least list cost) = codes "least " ++ (decimal cost ++ codes "\n")
proved_text Empty = codes "empty\n"

-- what `certify` does with a problem, and with a program
abbrev pub confirmed_plan : Certificate → Problem → Contents → Plan
confirmed_plan certificate problem = check_then (proved_of problem certificate) (λ proved. answer_then (ended [] (proved_text proved)))

abbrev pub certified_plan : LabelOutcomes → NormalForm → Certificate → Contents → Plan
certified_plan least program certificate = check_then (problem_for least program) (confirmed_plan certificate)

-- what it does with the program that is run for a source
abbrev pub certificate_plan : LabelOutcomes → CertificateOutcomes → List ℕ → NormalForm → Contents → Plan
certificate_plan least certificates name program = certificate_then certificates name (certified_plan least program)

abbrev pub certify_plan : TextOutcomes → LabelOutcomes → CertificateOutcomes → List ℕ → List ℕ → Contents → Plan
certify_plan texts least certificates source name = program_then texts least source (certificate_plan least certificates name)

-- ---- what the parts of the command do, whatever functions pick outcomes

abbrev pub LoadsCertificate : List ℕ → FilesView → FilesView → Result Certificate Status → Type 0
LoadsCertificate name before now result = (certificates : CertificateOutcomes) → ExecutesStep (certificate_then certificates name) before now result

abbrev pub ExecutesCertified : NormalForm → Certificate → Result Answer Status → Type 0
ExecutesCertified program certificate result = (least : LabelOutcomes) (files : FilesView) → Executes true (certified_plan least program certificate) files files result

abbrev pub ExecutesCertify : List ℕ → List ℕ → FilesView → FilesView → Result Answer Status → Type 0
ExecutesCertify source name before now result =
    (texts : TextOutcomes) (least : LabelOutcomes) (certificates : CertificateOutcomes) → Executes true (certify_plan texts least certificates source name) before now result
