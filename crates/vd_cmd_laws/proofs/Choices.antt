-- What `choose` prints, and what `certify` says of the certificate that it stores.
use Rattle.std.proofs.Common.{◌≡◌, ◌≢◌, ℕ, ◌+◌, ◌≤◌, Bool, true, false, true≢false, if◌then◌else◌, Option, Some, None, List, [], ◌++◌, length, Result, Ok, Err, refl, sym, ap, ◌∙◌, subst, arith, ℤ, pos, negsuc, ◌≤ℤ◌, length-append}
use Rattle.std.specs.Prelude.{◌&&◌, codes, is_ok, nat_le, nat_lt, option_map}
use Rattle.std.specs.Str.{bytes_eq}
use Rattle.std.proofs.lemmas.Bool.{and_parts, cond-false, cond-true, false_from_ne_true, leb-true}
use Rattle.std.proofs.lemmas.Bool.Decides.{nat_tests}
use Rattle.std.proofs.lemmas.Int.{ints}
use Rattle.std.proofs.lemmas.Slice.Eq.{bytes_eq-Decides}
use Rattle.vd_base.specs.Limits.{most_certificate_bytes, most_search_budget, most_source_bytes}
use Rattle.vd_outside.specs.Files.{Contents, fetched, with_content}
use Rattle.vd_core.specs.declared.normal.NormalForm.{NormalForm}
use Rattle.vd_core.specs.declared.source.Source.{Source}
use Rattle.vd_core.specs.Facts.{IsWellMade}
use Rattle.vd_constraints.specs.Rules.{system_of}
use Rattle.vd_constraints.specs.Satisfies.{IsLeast}
use Rattle.vd_constraints.specs.declared.labels.Labels.{Labels}
use Rattle.vd_elaborate.specs.Normal.{normal_form}
use Rattle.vd_bound.specs.Marks.{count_of, is_expanded}
use Rattle.vd_bound.specs.declared.checking.Proved.{Proved}
use Rattle.vd_bound.specs.declared.checking.Proved.TheVariants.{Empty, Least}
use Rattle.vd_search_tree.specs.declared.search_certificate.certificate.Certificate.{Certificate}
use Rattle.vd_search_tree.specs.Outcomes.{HasOutcome}
use Rattle.vd_search_tree.specs.Texts.{IsTextOf}
use Rattle.vd_search_tree.proofs.Front.{outcome_once}
use Rattle.vd_cmd_rewrite.specs.RunPrograms.{IsRunProgram, run_form}
use Rattle.vd_cmd_rewrite.proofs.Front.{run_form_is, run_once, run_well_made}
use Rattle.vd_space.specs.Cheapest.{IsCheapest}
use Rattle.vd_space.proofs.Front.{cheapest}
use Rattle.vd_search.specs.Answers.{nat_or_zero}
use Rattle.vd_search_stages.specs.Choices.{ChoiceOutcomes, IsChosen, needed}
use Rattle.vd_search_stages.specs.Confirming.{confirmed}
use Rattle.vd_search_stages.specs.SoFar.{has_own_form}
use Rattle.vd_search_stages.specs.Optimum.{assigned, assignment_of}
use Rattle.vd_search_stages.proofs.Front.{optimal_at}
use Rattle.vd_search.specs.declared.writing.SearchFault.{SearchFault}
use Rattle.vd_search.specs.declared.writing.SearchFault.TheVariants as search_fault
use Rattle.vd_space.specs.declared.problem.Problem.{Problem}
use Rattle.vd_space.specs.Costs.{cost}
use Rattle.vd_space.specs.Reading.{problem_of}
use Rattle.vd_space.specs.Spaces.{IsProblem}
use Rattle.vd_space.specs.Validity.{protocols}
use Rattle.vd_space.proofs.Front.{few_in, has_labels, is_labelled, is_problem}
use Rattle.vd_cmd_plan.specs.Labelled.{LabelledForm, labelled_form}
use Rattle.vd_cmd_plan.specs.Deliver.{stored}
use Rattle.vd_cmd_plan.specs.Plans.{Plan, answer_then, check_then, ended}
use Rattle.vd_cmd_plan.specs.declared.answer.Answer.{Answer}
use Rattle.vd_cmd_plan.specs.declared.status.Status.{Status}
use Rattle.vd_cmd_plan.specs.declared.status.Status.TheVariants.{Ended, Memory, NoAssignment, Spent}
use Rattle.vd_cmd_labels.specs.Outcomes.{LabelOutcomes, TextOutcomes}
use Rattle.vd_cmd_labels.specs.Labelling.{labels_of}
use Rattle.vd_cmd_labels.specs.Sources.{HoldsSource}
use Rattle.vd_cmd_choose.specs.Certifying.{as_certificate, as_proved, certificate_of, certificate_plan, certificate_then, certified_plan, confirmed_plan, proved_of, proved_text}
use Rattle.vd_cmd_choice.specs.Choice.{Chosen, as_searched, choice_of_then, chosen_by, printed_at, search_then, source_choice_then}
use Rattle.vd_cmd_choose.specs.Choosing.{certificate_file, choice_answer, chosen_answer}
use Rattle.vd_cmd_choice.specs.Searching.{Certified, GaveUp, Searched, is_accepted, searched_by}
use Rattle.vd_cmd_choice.specs.Outcomes.{CertificateOutcomes}
use Rattle.vd_cmd_choose.specs.Problems.{problem_for}
use Rattle.vd_cmd_laws.specs.Answers.{IsCertified, TellsAssignment, TellsChoice, least_line}
use Rattle.vd_cmd_laws.specs.Laws.{ChoicesTell}
use Rattle.vd_cmd_laws.proofs.Plans.{Ends, Leads, NeverEnds, answered, check_came, check_leads, ends_as, file_leads}
use Rattle.vd_cmd_laws.proofs.Proved.{Shown, confirmed_shows}
use Rattle.vd_cmd_laws.proofs.Short.{marks_few, text_short}
use Rattle.vd_cmd_laws.proofs.Sources.{labels_are, labels_never, made_of, problem_found, program_leads, read_came, same_status}

-- ---- what a search answered

module _ (budget : ℕ) (form : LabelledForm) where
  searched_never : (said : Result (List ℕ) SearchFault) → NeverEnds (as_searched budget form said)
  searched_never (Ok bytes) status is ended = cc is
  searched_never (Err search_fault.Spent) status is ended = let wrong : Spent budget form ≡ Ended = same_status _ _ is ∙ ended in cc wrong
  searched_never (Err search_fault.Memory) status is ended = let wrong : Memory ≡ Ended = same_status _ _ is ∙ ended in cc wrong

  searched_gave : (said : Result (List ℕ) SearchFault) (bytes : List ℕ) → as_searched budget form said ≡ Ok bytes → said ≡ Ok bytes
  searched_gave (Ok given) bytes is = let same : given ≡ bytes = cc is in ap (λ (l : List ℕ). Ok l) same
  searched_gave (Err search_fault.Spent) bytes is = absurd (cc is)
  searched_gave (Err search_fault.Memory) bytes is = absurd (cc is)

gave_nothing : (b : Bool) (bytes : List ℕ) → ◌≡◌ {A = Result (List ℕ) SearchFault} (if b then Err search_fault.Spent else Err search_fault.Memory) (Ok bytes) → ⊥
gave_nothing true bytes is = cc is
gave_nothing false bytes is = cc is

gave : (b : Bool) (given bytes : List ℕ) → ◌≡◌ {A = Result (List ℕ) SearchFault} (if b then Ok given else Err search_fault.Memory) (Ok bytes) → (b ≡ true) × (given ≡ bytes)
gave true given bytes is = (refl, cc is)
gave false given bytes is = absurd (cc is)

module _ (certificates : CertificateOutcomes) (choices : ChoiceOutcomes) (problem : Problem) (budget : ℕ) where
  search_gave : (searched : Searched) (bytes : List ℕ) → searched_by certificates choices searched problem budget ≡ Ok bytes → is_accepted problem budget (certificates.read bytes) ≡ true
  search_gave GaveUp bytes is = absurd (gave_nothing (nat_lt budget (needed problem (choices.choose problem))) bytes is)
  search_gave (Certified given) bytes is =
      let found = gave (is_accepted problem budget (certificates.read given)) given bytes is in
      subst (λ (l : List ℕ). is_accepted problem budget (certificates.read l) ≡ true) found.1 found.0

was_ok : {T E : Type 0} (said : Result T E) → is_ok said ≡ true → (value : T) × (said ≡ Ok value)
was_ok (Ok value) test = (value, refl)
was_ok (Err fault) test = absurd (true≢false (sym test))

-- the bytes are a certificate that the checker accepts, with no more opened prefixes than the budget has
record IsAnswer (problem : Problem) (budget : ℕ) (bytes : List ℕ) : Type 0 where
  c : Certificate
  text : IsTextOf c bytes
  proved : Proved
  accepted : confirmed problem c ≡ Ok proved
  few : count_of is_expanded c.marks ≤ budget

is_answer : (problem : Problem) (budget : ℕ) (bytes : List ℕ) (said : Result Certificate ℕ) → HasOutcome bytes said → is_accepted problem budget said ≡ true → IsAnswer problem budget bytes
is_answer problem budget bytes (Ok c) has test =
    let whole = and_parts (is_ok (confirmed problem c) && nat_le (count_of is_expanded c.marks) budget) (has_own_form problem c) test in
    let parts = and_parts (is_ok (confirmed problem c)) (nat_le (count_of is_expanded c.marks) budget) whole.0 in
    let proved = was_ok (confirmed problem c) parts.0 in
    record { c = c; text = has; proved = proved.0; accepted = proved.1; few = leb-true (count_of is_expanded c.marks) budget parts.1 }
is_answer problem budget bytes (Err offset) has test = absurd (true≢false (sym test))

-- ---- numbers

natural : (z : ℤ) → pos 0 ≤ℤ z → z ≡ pos (nat_or_zero z)
natural (pos n) low = refl
natural (negsuc n) low = absurd (omega (arith, ints, low))

same_number : (a b : ℤ) (n number : ℕ) → pos n ≤ℤ a → a ≡ pos number → a ≤ℤ b → b ≡ pos n → n ≡ number
same_number a b n number low one least other = omega (arith, ints, low, one, least, other)

-- ---- the two files

enough : (limit size : ℕ) → size ≤ limit → nat_lt limit size ≡ false
enough limit size le = grind (arith, nat_tests)

module _ (name bytes : List ℕ) (contents : Contents) where
  abbrev beside : List ℕ
  beside = name ++ codes ".cert"

  abbrev now : Contents
  now = with_content contents beside (Some bytes)

  other_name : bytes_eq beside name ≡ false
  other_name = false_from_ne_true (bytes_eq beside name) (λ e.
      let same = ap length ((bytes_eq-Decides beside name).0 e) in
      let size = length-append name (codes ".cert") in
      omega (arith, same, size))

  untouched : now name ≡ contents name
  untouched = cond-false (bytes_eq beside name) (Some bytes) (contents name) other_name

  still_held : (source : Source) → HoldsSource name contents source → HoldsSource name now source
  still_held source held = record {
    bytes = held.bytes;
    is_fetched = subst (λ (o : Option (List ℕ)). fetched o most_source_bytes ≡ Ok held.bytes) (sym untouched) held.is_fetched;
    holds = held.holds;
  }

  stands : now beside ≡ Some bytes
  stands = cond-true (bytes_eq beside beside) (Some bytes) (contents beside) ((bytes_eq-Decides beside beside).1 refl)

  is_read : length bytes ≤ most_certificate_bytes → fetched (now beside) most_certificate_bytes ≡ Ok bytes
  is_read short =
      subst (λ (o : Option (List ℕ)). fetched o most_certificate_bytes ≡ Ok bytes) (sym stands)
      (cond-false (nat_lt most_certificate_bytes (length bytes)) _ (Ok bytes) (enough most_certificate_bytes (length bytes) short))

certificate_leads : (contents : Contents) (certificates : CertificateOutcomes) (name bytes : List ℕ) (c : Certificate) (rest : Certificate → Contents → Plan) (answer : Answer) → fetched (contents name) most_certificate_bytes ≡ Ok bytes
    → IsTextOf c bytes → Leads contents (rest c) answer → Leads contents (certificate_then certificates name rest) answer
unfolding certificate_then
certificate_leads contents certificates name bytes c rest answer is text last =
    file_leads contents name most_certificate_bytes bytes (λ b. check_then (certificate_of certificates b) rest) answer is
    (check_leads contents (certificate_of certificates bytes) c rest answer (ap as_certificate (outcome_once bytes (Ok c) (certificates.read bytes) text (certificates.read_is bytes))) last)

-- ---- the choice

module _ (name : List ℕ) (contents : Contents) (source : Source) (held : HoldsSource name contents source) (program : NormalForm) (is_run : IsRunProgram source program) (labels : Labels) (least : IsLeast (system_of program) labels) (budget : ℕ) (low : budget ≤ most_search_budget) where
  abbrev problem : Problem
  problem = problem_of program labels

  made : IsWellMade program
  made = run_well_made source program (made_of name contents source held) is_run

  holds : IsProblem problem
  holds = is_problem program labels made

  few : length (protocols problem) ≤ 42
  few = few_in problem (is_labelled program labels made (has_labels program labels least))

  short : (bytes : List ℕ) (a : IsAnswer problem budget bytes) → length bytes ≤ most_certificate_bytes
  short bytes a =
      let text = text_short a.c a.text.is (marks_few problem a.c a.proved budget few a.accepted a.few low) in
      subst (λ (l : List ℕ). length l ≤ most_certificate_bytes) (sym a.text.text) text

  pub number_is : (list : List ℕ) → IsCheapest problem list → cost problem list ≡ pos (nat_or_zero (cost problem list))
  number_is list is = natural (cost problem list) (holds.fits list is.is_valid.whole is.is_valid.valid).0

  -- what the yes of an accepted certificate prints is the cost of the choice
  line_is : (list : List ℕ) → IsCheapest problem list → (proved : Proved) → Shown problem proved → proved_text proved ≡ least_line (nat_or_zero (cost problem list))
  line_is list is (Least other n) shown =
      ap least_line (same_number (cost problem list) (cost problem other) n (nat_or_zero (cost problem list)) (shown.2 list is.is_valid) (number_is list is) (is.least other shown.0) shown.1)
  line_is list is Empty none = absurd (none list is.is_valid)

  certified : (list bytes : List ℕ) → IsCheapest problem list → (a : IsAnswer problem budget bytes) → IsCertified name (beside name bytes contents) (now name bytes contents) (nat_or_zero (cost problem list))
  certified list bytes is a = λ texts labelling certificates.
      let after = now name bytes contents in
      let answer : Answer = ended [] (least_line (nat_or_zero (cost problem list))) in
      let shown = confirmed_shows problem holds a.c a.proved a.accepted in
      let last : Leads after (answer_then (ended [] (proved_text a.proved))) answer = answered after (ended [] (proved_text a.proved)) ∙ ap (λ (text : List ℕ). ended [] text) (line_is list is a.proved shown) in
      let confirm : Leads after (confirmed_plan a.c problem) answer = check_leads after (proved_of problem a.c) a.proved (λ proved. answer_then (ended [] (proved_text proved))) answer (ap as_proved a.accepted) last in
      let space : Leads after (certified_plan labelling program a.c) answer = check_leads after (problem_for labelling program) problem (confirmed_plan a.c) answer (problem_found labelling program made labels least) confirm in
      let program_there : Leads after (certified_plan labelling (run_form labelling (normal_form source)) a.c) answer =
      subst (λ (p : NormalForm). Leads after (certified_plan labelling p a.c) answer) (run_once source program (made_of name contents source held) is_run labelling) space in
      let read : Leads after (certificate_plan labelling certificates (beside name bytes contents) (run_form labelling (normal_form source))) answer =
      certificate_leads after certificates (beside name bytes contents) bytes a.c (certified_plan labelling (run_form labelling (normal_form source))) answer (is_read name bytes contents (short bytes a)) a.text program_there in
      program_leads after texts name labelling source (certificate_plan labelling certificates (beside name bytes contents)) answer (still_held name bytes contents source held) read

  -- what is printed of the choice
  abbrev pub tells : (list : List ℕ) → IsCheapest problem list → TellsAssignment name contents (printed_at program (assigned problem list))
  tells list best = record {
    source = source;
    held = held;
    program = program;
    is_run = is_run;
    assignment = assigned problem list;
    selected = record { labels = labels; least = least; optimal = optimal_at problem list best (number_is list best) };
    lines = refl;
  }

  -- the answer to a choice
  told : (choice : Option (List ℕ)) → IsChosen problem choice → (bytes : List ℕ) → IsAnswer problem budget bytes → (answer : Answer) → answer ≡ choice_answer (labelled_form program labels) (option_map (assigned problem) choice) (certificate_file name bytes)
      → answer.status ≡ Ended → TellsChoice name contents (stored answer.stores contents) answer.printed
  told None chosen bytes a answer is ends = let wrong : NoAssignment (labelled_form program labels) ≡ Ended = sym (ap (λ (x : Answer). x.status) is) ∙ ends in absurd (cc wrong)
  told (Some list) chosen bytes a answer is ends =
      let best = cheapest problem list holds chosen in
      subst (λ (x : Answer). TellsChoice name contents (stored x.stores contents) x.printed) (sym is) (record { choice = tells list best; certified = certified list bytes best a })

-- ---- the step that finds a choice

module _ (contents : Contents) (certificates : CertificateOutcomes) (choices : ChoiceOutcomes) (searched : Searched) (least : LabelOutcomes) (budget : ℕ) (program : NormalForm) (rest : Chosen → Contents → Plan) where
  abbrev step : Contents → Plan
  step = choice_of_then least choices (searched_by certificates choices searched) budget program rest

  -- the program has labels, the search found a certificate, and this is done with them
  pub record Came : Type 0 where
    pub labels : Labels
    pub is_least : IsLeast (system_of program) labels
    pub bytes : List ℕ
    pub gives : searched_by certificates choices searched (problem_of program labels) budget ≡ Ok bytes
    pub leads : Leads contents step (rest (chosen_by choices program labels bytes) contents).answer

  pub choice_came : IsWellMade program → Ends contents step → Came
  choice_came made ends =
      let search = searched_by certificates choices searched in
      let searching : Labels → Contents → Plan = λ l. search_then choices search budget program l rest in
      let of = check_came contents (labels_of least program) searching (labels_never least program made) ends in
      let labels : Labels = of.0 in
      let after : List ℕ → Contents → Plan = λ bytes. rest (chosen_by choices program labels bytes) in
      let said = search (problem_of program labels) budget in
      let found = check_came contents (as_searched budget (labelled_form program labels) said) after (searched_never budget (labelled_form program labels) said) (ends_as contents step (searching labels) ends of.2) in
      record { labels = labels; is_least = labels_are least program made labels of.1; bytes = found.0; gives = searched_gave budget (labelled_form program labels) said found.0 found.1; leads = of.2 ∙ found.2 }

module _ (contents : Contents) (certificates : CertificateOutcomes) (choices : ChoiceOutcomes) (searched : Searched) (texts : TextOutcomes) (least : LabelOutcomes) (name : List ℕ) (budget : ℕ) (rest : List ℕ → Chosen → Contents → Plan) where
  abbrev whole : Contents → Plan
  whole = source_choice_then texts least choices (searched_by certificates choices searched) name budget rest

  -- the file holds a source that meets every rule, and the choice for the program that is run for it was gone on with
  pub record CameOf : Type 0 where
    pub source : Source
    pub held : HoldsSource name contents source
    pub program : NormalForm
    pub is_run : IsRunProgram source program
    pub step : Came contents certificates choices searched least budget program (rest held.bytes)
    pub leads : Leads contents whole (rest held.bytes (chosen_by choices program step.labels step.bytes) contents).answer

  pub source_choice_came : Ends contents whole → CameOf
  source_choice_came ends =
      let choosing : List ℕ → Source → Contents → Plan = λ text source. choice_of_then least choices (searched_by certificates choices searched) budget (run_form least (normal_form source)) (rest text) in
      let file = read_came contents texts name choosing whole refl ends in
      let source = file.0 in
      let held : HoldsSource name contents source = file.1 in
      let program : NormalForm = run_form least (normal_form source) in
      let is_run = run_form_is least source (made_of name contents source held) in
      let made = run_well_made source program (made_of name contents source held) is_run in
      let step = choice_came contents certificates choices searched least budget program (rest held.bytes) made (ends_as contents whole (choosing held.bytes source) ends file.2) in
      record { source = source; held = held; program = program; is_run = is_run; step = step; leads = file.2 ∙ step.leads }

pub choices_tell : ChoicesTell
choices_tell texts least certificates choices searched name budget contents low ends =
    let came = source_choice_came contents certificates choices searched texts least name budget (λ text c. answer_then (chosen_answer name c)) ends in
    let step = came.step in
    let problem : Problem = problem_of came.program step.labels in
    let a = is_answer problem budget step.bytes (certificates.read step.bytes) (certificates.read_is step.bytes) (search_gave certificates choices problem budget searched step.bytes step.gives) in
    told name contents came.source came.held came.program came.is_run step.labels step.is_least budget low (choices.choose problem) (choices.choose_is problem) step.bytes a _
    (came.leads ∙ answered contents (choice_answer (labelled_form came.program step.labels) (assignment_of choices problem) (certificate_file name step.bytes))) ends
