-- What a search comes to, whatever functions pick the outcomes.
use Rattle.std.proofs.Common.{◌≡◌, ℕ, true, Option, Some, None, List, Ok, Err, refl, sym, ap, ◌∙◌, subst, pos}
use Rattle.std.specs.Prelude.{◌&&◌, IfSome, IsTrue, is_ok, nat_le, nat_lt, option_map}
use Rattle.std.proofs.lemmas.Bool.{and_from, le-leb, lt-ltb, cond-true}
use Rattle.vd_core.specs.declared.normal.NormalForm.{NormalForm}
use Rattle.vd_constraints.specs.Rules.{system_of}
use Rattle.vd_constraints.specs.Satisfies.{IsLeast}
use Rattle.vd_constraints.specs.declared.labels.Labels.{Labels}
use Rattle.vd_bound.specs.Marks.{count_of, is_expanded}
use Rattle.vd_search_tree.specs.declared.search_certificate.certificate.Certificate.{Certificate}
use Rattle.vd_search_tree.specs.Texts.{text_of}
use Rattle.vd_search_tree.proofs.Front.{outcome_once}
use Rattle.vd_space.specs.declared.problem.Problem.{Problem}
use Rattle.vd_space.specs.Costs.{cost}
use Rattle.vd_space.specs.Reading.{problem_of}
use Rattle.vd_space.specs.Spaces.{IsProblem}
use Rattle.vd_space.specs.Usual.{usual}
use Rattle.vd_space.proofs.Front.{cheapest}
use Rattle.vd_search_stages.specs.Choices.{ChoiceOutcomes, IsChosen, needed}
use Rattle.vd_search_stages.specs.Confirming.{confirmed}
use Rattle.vd_search_stages.specs.SoFar.{has_own_form}
use Rattle.vd_search_stages.specs.Selecting.{IsAccepted, IsOver}
use Rattle.vd_search_stages.specs.Optimum.{IsOptimum, assigned}
use Rattle.vd_search_stages.specs.declared.optimum.Assignment.{Assignment}
use Rattle.vd_search_stages.specs.declared.optimum.Optimum.{Optimum}
use Rattle.vd_search.specs.Answers.{nat_or_zero}
use Rattle.vd_search.specs.declared.writing.SearchFault.TheVariants as search_fault
use Rattle.vd_search_stages.proofs.Front.{chosen_once, optimal_at, spent_needs}
use Rattle.vd_cmd_plan.specs.Labelled.{labelled_form}
use Rattle.vd_cmd_plan.specs.Plans.{Executes}
use Rattle.vd_cmd_plan.specs.declared.status.Status.TheVariants.{Memory, Spent}
use Rattle.vd_cmd_plan.proofs.Front.{any_memory, check_step}
use Rattle.vd_cmd_choice.specs.Choice.{IsChoiceFor, IsSelected, Searches, as_searched, chosen_by, chosen_of}
use Rattle.vd_cmd_choice.specs.Outcomes.{CertificateOutcomes}
use Rattle.vd_cmd_choice.specs.Searching.{GaveUp, Certified, is_accepted, searched_by}
use Rattle.vd_cmd_choice.specs.declared.choice.Choice.{Choice}

-- the file of a certificate is read as that certificate
reads_back : (certificates : CertificateOutcomes) (problem : Problem) (budget : ℕ) (c : Certificate) → IsAccepted problem budget c → certificates.read (text_of c) ≡ Ok c
reads_back certificates problem budget c is = outcome_once (text_of c) (Ok c) (certificates.read (text_of c)) (record { is = is.has_text; text = refl }) (certificates.read_is (text_of c))

-- so the search may answer it
accepted : (certificates : CertificateOutcomes) (choices : ChoiceOutcomes) (problem : Problem) (budget : ℕ) (c : Certificate) → IsAccepted problem budget c → IsTrue (has_own_form problem c) → searched_by certificates choices (Certified (text_of c)) problem budget ≡ Ok (text_of c)
accepted certificates choices problem budget c is form =
    let small : (is_ok (confirmed problem c) && nat_le (count_of is_expanded c.marks) budget) ≡ true = and_from (is_ok (confirmed problem c)) (nat_le (count_of is_expanded c.marks) budget) (ap is_ok is.accepted) (le-leb _ _ is.within) in
    let yes : is_accepted problem budget (Ok c) ≡ true = and_from (is_ok (confirmed problem c) && nat_le (count_of is_expanded c.marks) budget) (has_own_form problem c) small form in
    cond-true (is_accepted problem budget (certificates.read (text_of c))) (Ok (text_of c)) (Err search_fault.Memory) (ap (is_accepted problem budget) (reads_back certificates problem budget c is) ∙ yes)

-- what was found, where this is the certificate
abbrev pub given : NormalForm → Labels → Option Assignment → Certificate → Choice
given program l assignment c = record { program = program; labels = l; assignment = assignment; certificate = c }

module _ (program : NormalForm) (l : Labels) (budget : ℕ) where
  abbrev problem : Problem
  problem = problem_of program l

  -- a search that found a certificate goes on with the choice
  searched : (c : Certificate) (choice : Option (List ℕ)) → IsAccepted problem budget c → IsTrue (has_own_form problem c) → IsChosen problem choice
      → Searches program l budget (Ok (given program l (option_map (assigned problem) choice) c))
  searched c choice is form chosen = (
    Certified (text_of c),
    λ certificates choices files rest last result runs.
        let same : choices.choose problem ≡ choice = chosen_once problem (choices.choose problem) choice (choices.choose_is problem) chosen in
        check_step (as_searched budget (labelled_form program l) (searched_by certificates choices (Certified (text_of c)) problem budget)) files (Ok (text_of c))
        (record { ok = ap (as_searched budget (labelled_form program l)) (accepted certificates choices problem budget c is form); err = tt })
        (λ bytes. rest (chosen_by choices program l bytes)) last result
        (subst (λ (o : Option (List ℕ)). Executes true (rest (chosen_of (given program l (option_map (assigned problem) o) c))) files last result) (sym same) runs),
  )

  pub no_memory : Searches program l budget (Err Memory)
  no_memory = (GaveUp, λ certificates choices files rest. any_memory _ files)

  -- and so with what it found
  pub found_by : (optimum : Optimum) → IsOptimum problem budget optimum → Searches program l budget (Ok (given program l optimum.assignment optimum.certificate))
  found_by optimum is = subst (λ (o : Option Assignment). Searches program l budget (Ok (given program l o optimum.certificate))) (sym is.assignment) (searched optimum.certificate is.choice is.accepted is.form is.chosen)

  -- it is the choice for the program
  module _ (holds : IsProblem problem) (least : IsLeast (system_of program) l) where
    of_choice : (choice : Option (List ℕ)) → IsChosen problem choice → IfSome choice (λ places. cost problem places ≡ pos (nat_or_zero (cost problem places))) → (c : Certificate) → IsChoiceFor program (given program l (option_map (assigned problem) choice) c)
    of_choice (Some list) chosen costs c =
        let optimal = optimal_at problem list (cheapest problem list holds chosen) costs in
        let selected : IsSelected program (assigned problem list) = record { labels = l; least = least; optimal = optimal } in
        record { same = refl; least = least; selected = selected; valid = optimal.cheapest.valid }
    of_choice None chosen costs c = record { same = refl; least = least; selected = tt; valid = tt }

    pub found_is : (optimum : Optimum) → IsOptimum problem budget optimum → IsChoiceFor program (given program l optimum.assignment optimum.certificate)
    found_is optimum is = subst (λ (o : Option Assignment). IsChoiceFor program (given program l o optimum.certificate)) (sym is.assignment) (of_choice is.choice is.chosen is.costs optimum.certificate)

  -- a search that gave up does so where its budget may not do
  pub spent : IsProblem problem → IsOver problem (usual problem) budget → Searches program l budget (Err (Spent budget (labelled_form program l)))
  spent holds over = (
    GaveUp,
    λ certificates choices files rest.
        let is : searched_by certificates choices GaveUp problem budget ≡ Err search_fault.Spent =
        cond-true (nat_lt budget (needed problem (choices.choose problem))) (Err search_fault.Spent) (Err search_fault.Memory)
        (lt-ltb _ _ (spent_needs problem holds budget (choices.choose problem) over (choices.choose_is problem)))
        in
        check_step (as_searched budget (labelled_form program l) (searched_by certificates choices GaveUp problem budget)) files (Err (Spent budget (labelled_form program l)))
        (record { ok = tt; err = ap (as_searched budget (labelled_form program l)) is })
        (λ bytes. rest (chosen_by choices program l bytes)),
  )
