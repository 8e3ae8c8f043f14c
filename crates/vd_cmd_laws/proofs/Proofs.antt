-- What `certify` prints.
use Rattle.std.proofs.Common.{◌≡◌, ◌⊎◌, inl, inr, ℕ, List, [], map, Result, Ok, Err, refl, sym, ap, ◌∙◌, subst}
use Rattle.vd_base.specs.Limits.{most_certificate_bytes}
use Rattle.vd_outside.specs.Files.{Contents}
use Rattle.vd_core.specs.declared.normal.NormalForm.{NormalForm}
use Rattle.vd_constraints.specs.declared.labels.Labels.{Labels}
use Rattle.vd_elaborate.specs.Normal.{normal_form}
use Rattle.vd_cmd_rewrite.specs.RunPrograms.{IsRunProgram, run_form}
use Rattle.vd_cmd_rewrite.proofs.Front.{run_form_is, run_well_made}
use Rattle.vd_bound.specs.declared.checking.CheckFault.{CheckFault}
use Rattle.vd_bound.specs.declared.checking.CheckFault.TheVariants as check_fault
use Rattle.vd_bound.specs.declared.checking.Proved.{Proved}
use Rattle.vd_bound.specs.declared.checking.Proved.TheVariants.{Empty, Least}
use Rattle.vd_search_tree.specs.declared.search_certificate.certificate.Certificate.{Certificate}
use Rattle.vd_search_stages.specs.Confirming.{confirmed}
use Rattle.vd_space.specs.declared.problem.Problem.{Problem}
use Rattle.vd_space.specs.Reading.{problem_of}
use Rattle.vd_space.specs.Validity.{protocol}
use Rattle.vd_space.proofs.Front.{is_problem}
use Rattle.vd_cmd_plan.specs.Plans.{Plan, answer_then, check_then, ended}
use Rattle.vd_cmd_plan.specs.declared.answer.Answer.{Answer}
use Rattle.vd_cmd_plan.specs.declared.status.Status.{Status}
use Rattle.vd_cmd_plan.specs.declared.status.Status.TheVariants.{CertificateText, Ended}
use Rattle.vd_cmd_choose.specs.Certifying.{as_certificate, as_proved, certificate_of, certificate_plan, certificate_then, certified_plan, certify_plan, confirmed_plan, proved_of, proved_text}
use Rattle.vd_cmd_choice.specs.Outcomes.{CertificateOutcomes}
use Rattle.vd_cmd_choose.specs.Problems.{problem_for}
use Rattle.vd_cmd_laws.specs.Answers.{HasNone, IsLeastCost}
use Rattle.vd_cmd_laws.specs.Laws.{ProofsTell}
use Rattle.vd_cmd_plan.specs.Refusals.{check_status}
use Rattle.vd_cmd_laws.proofs.Plans.{Ends, Leads, NeverEnds, answered, check_came, ends_as, file_came}
use Rattle.vd_cmd_laws.proofs.Proved.{Shown, confirmed_shows}
use Rattle.vd_cmd_laws.proofs.Sources.{made_of, problem_is, problem_never, read_came, same_status}

certificate_never_by : (said : Result Certificate ℕ) → NeverEnds (as_certificate said)
certificate_never_by (Ok certificate) status is ended = absurd (cc is)
certificate_never_by (Err offset) status is ended = let wrong : CertificateText offset ≡ Ended = same_status _ _ is ∙ ended in absurd (cc wrong)

fault_ends : (fault : CheckFault) → check_status fault ≡ Ended → ⊥
fault_ends (check_fault.BadShift shift) is = cc is
fault_ends (check_fault.Shape mark) is = cc is
fault_ends check_fault.BestInvalid is = cc is
fault_ends (check_fault.CostWrong stated own) is = cc is
fault_ends (check_fault.NotViolated mark) is = cc is
fault_ends (check_fault.NotBounded mark bound cost) is = cc is
fault_ends check_fault.Memory is = cc is

proved_never_by : (said : Result Proved CheckFault) → NeverEnds (as_proved said)
proved_never_by (Ok proved) status is ended = absurd (cc is)
proved_never_by (Err fault) status is ended = fault_ends fault (same_status _ _ is ∙ ended)

proved_as : (proved : Proved) (said : Result Proved CheckFault) → as_proved said ≡ Ok proved → said ≡ Ok proved
proved_as proved (Ok other) is = let same : other ≡ proved = cc is in ap (λ (p : Proved). Ok p) same
proved_as proved (Err fault) is = absurd (cc is)

-- what the line of a yes says
shown_line : (problem : Problem) (proved : Proved) (printed : List ℕ) → printed ≡ proved_text proved → Shown problem proved → IsLeastCost problem printed ⊎ HasNone problem printed
shown_line problem (Least list number) printed line shown =
    inl (record {
      number = number;
      line = line;
      protocols = map (protocol problem) list;
      valid = record { places = list; is_valid = shown.0; named = refl };
      costs = shown.1;
      least = λ others are. shown.2 are.places are.is_valid;
    })
shown_line problem Empty printed line shown = inr (record { line = line; none = λ protocols is. shown is.places is.is_valid })

module _ (contents : Contents) (certificates : CertificateOutcomes) (name : List ℕ) where
  certificate_came : (rest : Certificate → Contents → Plan) → Ends contents (certificate_then certificates name rest)
      → (certificate : Certificate) × Leads contents (certificate_then certificates name rest) (rest certificate contents).answer
  unfolding certificate_then
  certificate_came rest ends =
      let read : List ℕ → Contents → Plan = λ bytes. check_then (certificate_of certificates bytes) rest in
      let file = file_came contents name most_certificate_bytes read ends in
      let found = check_came contents (certificate_of certificates file.0) rest (certificate_never_by (certificates.read file.0)) (ends_as contents (certificate_then certificates name rest) (read file.0) ends file.2) in
      (found.0, file.2 ∙ found.2)

pub proofs_tell : ProofsTell
proofs_tell texts least certificates name certificate contents ends =
    let whole = certify_plan texts least certificates name certificate in
    let file = read_came contents texts name (λ text source. certificate_plan least certificates certificate (run_form least (normal_form source))) whole refl ends in
    let program : NormalForm = run_form least (normal_form file.0) in
    let is_run = run_form_is least file.0 (made_of name contents file.0 file.1) in
    let made = run_well_made file.0 program (made_of name contents file.0 file.1) is_run in
    let certified = certified_plan least program in
    let read = certificate_came contents certificates certificate certified (ends_as contents whole (certificate_plan least certificates certificate program) ends file.2) in
    let upto = file.2 ∙ read.1 in
    let space = check_came contents (problem_for least program) (confirmed_plan read.0) (problem_never least program made) (ends_as contents whole (certified read.0) ends upto) in
    let problem : Problem = space.0 in
    let then = upto ∙ space.2 in
    let rest : Proved → Contents → Plan = λ proved. answer_then (ended [] (proved_text proved)) in
    let shows = check_came contents (proved_of problem read.0) rest (proved_never_by (confirmed problem read.0)) (ends_as contents whole (confirmed_plan read.0 problem) ends then) in
    let of = problem_is least program made problem space.1 in
    let line = ap (λ (a : Answer). a.printed) (then ∙ shows.2 ∙ answered contents (ended [] (proved_text shows.0))) in
    let accepted : confirmed (problem_of program of.labels) read.0 ≡ Ok shows.0 = subst (λ (p : Problem). confirmed p read.0 ≡ Ok shows.0) of.same (proved_as shows.0 (confirmed problem read.0) shows.1) in
    let shown = confirmed_shows (problem_of program of.labels) (is_problem program of.labels made) read.0 shows.0 accepted in
    record {
      source = file.0;
      held = file.1;
      program = program;
      is_run = is_run;
      labels = of.labels;
      least = of.least;
      proved = shown_line (problem_of program of.labels) shows.0 _ line shown;
    }
