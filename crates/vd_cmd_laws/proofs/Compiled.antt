-- What `compile` prints, and which files then stand.
use Rattle.std.proofs.Common.{◌≡◌, ℕ, ◌+◌, ◌<◌, ◌≤◌, Option, Some, None, List, [], ◌∷◌, length, refl, sym, ap, ◌∙◌, subst, arith, slice_get}
use Rattle.std.specs.Prelude.{codes, option_map}
use Rattle.std.proofs.lemmas.List.FromFn.{get_or-map-range_with_len}
use Rattle.std.proofs.lemmas.Option.{slice_get-get_or}
use Rattle.vd_base.specs.declared.protocols.Proto.{Proto}
use Rattle.vd_base.specs.HostSets.{host}
use Rattle.vd_base.specs.Limits.{most_search_budget}
use Rattle.vd_outside.specs.Files.{Contents}
use Rattle.vd_outside.specs.declared.stored.Stored.{Stored}
use Rattle.vd_core.specs.declared.normal.NormalForm.{NormalForm}
use Rattle.vd_core.specs.declared.source.Source.{Source}
use Rattle.vd_constraints.specs.Rules.{system_of}
use Rattle.vd_constraints.specs.Satisfies.{IsLeast}
use Rattle.vd_constraints.specs.declared.labels.Labels.{Labels}
use Rattle.vd_cmd_rewrite.specs.RunPrograms.{IsRunProgram}
use Rattle.vd_cmd_rewrite.proofs.Front.{run_well_made}
use Rattle.vd_space.proofs.Front.{cheapest}
use Rattle.vd_execution.specs.declared.instructions.Instr.{Instr}
use Rattle.vd_execution.specs.Joint.{code_of}
use Rattle.vd_execution.specs.Text.{text}
use Rattle.vd_projection.specs.Programs.{host_codes, joint_of}
use Rattle.vd_hostcode.specs.Text.{program_text}
use Rattle.vd_hostcode.specs.declared.host_text.program.Digest.{Digest}
use Rattle.vd_search_stages.specs.Choices.{IsChosen}
use Rattle.vd_search_stages.specs.Optimum.{assigned}
use Rattle.vd_space.specs.declared.problem.Problem.{Problem}
use Rattle.vd_space.specs.Reading.{problem_of}
use Rattle.vd_space.proofs.Front.{is_problem}
use Rattle.vd_cmd_plan.specs.Labelled.{labelled_form}
use Rattle.vd_cmd_plan.specs.Deliver.{stored}
use Rattle.vd_cmd_plan.specs.Numbered.{file_name}
use Rattle.vd_cmd_plan.specs.Plans.{answer_then}
use Rattle.vd_cmd_plan.specs.declared.answer.Answer.{Answer}
use Rattle.vd_cmd_plan.specs.declared.status.Status.TheVariants.{Ended, NoAssignment}
use Rattle.vd_cmd_labels.specs.Sources.{HoldsSource}
use Rattle.vd_cmd_choice.specs.Choice.{assigned_answer, chosen_by, printed_at}
use Rattle.vd_cmd_compile.specs.Compiling.{compiled_at, compiled_for, host_file, host_files, plan_for}
use Rattle.vd_cmd_compile.proofs.Front.{code_count}
use Rattle.vd_cmd_laws.specs.Answers.{Stands, TellsCompiled}
use Rattle.vd_cmd_laws.specs.Laws.{CompiledTell}
use Rattle.vd_cmd_laws.proofs.Plans.{answered}
use Rattle.vd_cmd_laws.proofs.Choices.{source_choice_came, tells}
use Rattle.vd_cmd_laws.proofs.Sources.{made_of}
use Rattle.vd_cmd_laws.proofs.Standing.{files_from, standing}

-- ---- the files

abbrev content_of : (hosts : List (List ℕ)) → Digest → ℕ → List Instr → List ℕ
content_of hosts plan number code = program_text (record { hosts = hosts; me = host number; plan = plan; code = code })

are_numbered : (prefix : List ℕ) (hosts : List (List ℕ)) (plan : Digest) (number : ℕ) (cs : List (List Instr)) → host_files prefix hosts plan number cs ≡ files_from prefix (codes ".host") (content_of hosts plan) number cs
are_numbered prefix hosts plan number [] = refl
are_numbered prefix hosts plan number (code ∷ cs) = ap (λ (files : List Stored). host_file prefix hosts plan number code ∷ files) (are_numbered prefix hosts plan (number + 1) cs)

stands : (program : NormalForm) (list : List Proto) (plan : Digest) (prefix : List ℕ) (contents : Contents) → length program.hosts ≤ 4 → (h : ℕ) → h < length program.hosts
    → Stands (stored (host_files prefix program.hosts plan 0 (host_codes program list)) contents) (host_file prefix program.hosts plan h (text (code_of h (joint_of program list)) []))
stands program list plan prefix contents few h low =
    let code : ℕ → List Instr = λ k. text (code_of k (joint_of program list)) [] in
    let count = code_count program list in
    let there : slice_get (host_codes program list) h ≡ Some (code h) =
    slice_get-get_or (host_codes program list) h [] (omega (arith, count, low)) ∙ ap (λ (c : List Instr). Some c) (get_or-map-range_with_len code 0 (length program.hosts) h h [] low (omega arith)) in
    subst (λ (files : List Stored). stored files contents (file_name prefix h (codes ".host")) ≡ Some (content_of program.hosts plan h (code h))) (sym (are_numbered prefix program.hosts plan 0 (host_codes program list)))
    (standing prefix (codes ".host") (content_of program.hosts plan) (host_codes program list) contents h (code h) there (omega (arith, count, few)))

-- ---- the choice

module _ (name prefix : List ℕ) (contents : Contents) (source : Source) (held : HoldsSource name contents source) (program : NormalForm) (is_run : IsRunProgram source program) (labels : Labels) (least : IsLeast (system_of program) labels) where
  abbrev problem : Problem
  problem = problem_of program labels

  told : (choice : Option (List ℕ)) → IsChosen problem choice → (answer : Answer) → answer ≡ assigned_answer (labelled_form program labels) (λ a. compiled_at program a held.bytes prefix) (option_map (assigned problem) choice) → answer.status ≡ Ended
      → TellsCompiled name prefix contents (stored answer.stores contents) answer.printed
  told None chosen answer is ends = let wrong : NoAssignment (labelled_form program labels) ≡ Ended = sym (ap (λ (x : Answer). x.status) is) ∙ ends in absurd (cc wrong)
  told (Some list) chosen answer is ends =
      let made = run_well_made source program (made_of name contents source held) is_run in
      let few : length program.hosts ≤ 4 = let limit = made.limits.hosts in omega (arith, limit) in
      let a = assigned problem list in
      let plan = plan_for held.bytes (printed_at program a) in
      subst (λ (x : Answer). TellsCompiled name prefix contents (stored x.stores contents) x.printed) (sym is) (record {
        choice = tells name contents source held program is_run labels least most_search_budget (omega arith) list (cheapest problem list (is_problem program labels made) chosen);
        files = λ h low. stands program a.protocols plan prefix contents few h low;
      })

pub compiled_tell : CompiledTell
compiled_tell texts least certificates choices searched name prefix budget contents ends =
    let came = source_choice_came contents certificates choices searched texts least name budget (λ text c. answer_then (compiled_for text prefix c)) ends in
    let step = came.step in
    let problem : Problem = problem_of came.program step.labels in
    told name prefix contents came.source came.held came.program came.is_run step.labels step.is_least (choices.choose problem) (choices.choose_is problem) _
    (came.leads ∙ answered contents (compiled_for came.held.bytes prefix (chosen_by choices came.program step.labels step.bytes))) ends
