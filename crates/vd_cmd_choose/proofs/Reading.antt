-- The steps in which a command reads its certificate.
use Rattle.std.proofs.Common.{◌≡◌, ℕ, ◌+◌, ◌<◌, ◌≤◌, List, [], ◌∷◌, ◌++◌, length, map, Result, Ok, Err, refl, sym, ap, ◌∙◌, subst, arith, length-append}
use Rattle.std.proofs.lemmas.List.{length-map}
use Rattle.vd_base.specs.Limits.{most_certificate_bytes}
use Rattle.vd_outside.specs.Files.{FilesView}
use Rattle.vd_search_tree.specs.declared.search_certificate.certificate.Certificate.{Certificate}
use Rattle.vd_base.specs.declared.faults.FileFault.{FileFault}
use Rattle.vd_base.specs.declared.faults.FileFault.TheVariants as file_fault
use Rattle.vd_search_tree.specs.Outcomes.{Answers, HasOneOutcome}
use Rattle.vd_search_tree.specs.Texts.{IsTextOf, claim_text, letter, marks_text}
use Rattle.vd_cmd_plan.specs.declared.status.Status.{Status}
use Rattle.vd_cmd_plan.specs.Plans.{Checks, ExecutesStep, file_then, check_then}
use Rattle.vd_cmd_plan.specs.Loads.{Loads}
use Rattle.vd_cmd_plan.proofs.Front.{load_step, check_step, both_steps, first_step}
use Rattle.vd_cmd_choice.specs.Outcomes.{CertificateOutcomes}
use Rattle.vd_cmd_choose.specs.Certifying.{IsFromFile, certificate_of, certificate_then}

pub certificate_err : (certificates : CertificateOutcomes) (name : List ℕ) (before now : FilesView) (status : Status) → Loads name most_certificate_bytes before now (Err status) → ExecutesStep {T = Certificate} (certificate_then certificates name) before now (Err status)
unfolding certificate_then
certificate_err certificates name before now status l = first_step (file_then name most_certificate_bytes) (λ bytes. check_then (certificate_of certificates bytes)) before now status (load_step name most_certificate_bytes before now (Err status) l)

pub certificate_ok : (certificates : CertificateOutcomes) (name bytes seen : List ℕ) (before now : FilesView) (result : Result Certificate Status) → Loads name most_certificate_bytes before now (Ok bytes) → seen ≡ bytes → Checks (certificate_of certificates seen) result → ExecutesStep (certificate_then certificates name) before now result
unfolding certificate_then
certificate_ok certificates name bytes seen before now result l is c = both_steps (file_then name most_certificate_bytes) (λ b. check_then (certificate_of certificates b)) before now now bytes result (load_step name most_certificate_bytes before now (Ok bytes) l)
    (check_step (certificate_of certificates bytes) now result (subst (λ (b : List ℕ). Checks (certificate_of certificates b) result) is c))

-- a file has fewer marks than bytes, and a certificate few shifts
pub from_file : (c : Certificate) (bytes : List ℕ) → IsTextOf c bytes → length bytes ≤ most_certificate_bytes → IsFromFile c
from_file c bytes is few = record { few_shifts = is.is.few; few_marks = marks }
  where
    marks : length c.marks < 4294967296
    marks =
        let whole = ap (λ (b : List ℕ). length b) is.text in
        let one = length-append (claim_text c.cost c.by_arcs c.shifts) (marks_text c.marks) in
        let two = length-append (map letter c.marks) (10 ∷ []) in
        let three = length-map c.marks letter in
        omega (arith, whole, one, two, three)
