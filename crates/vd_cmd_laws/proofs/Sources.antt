-- A source that was read, its least labels, and its problem.
use Rattle.std.proofs.Common.{◌≡◌, ℕ, List, Result, Ok, Err, refl, sym, ap, ◌∙◌, subst}
use Rattle.vd_base.specs.Limits.{most_source_bytes}
use Rattle.vd_outside.specs.Files.{Contents}
use Rattle.vd_core.specs.declared.normal.NormalForm.{NormalForm}
use Rattle.vd_core.specs.declared.source.Source.{Source}
use Rattle.vd_core.specs.Facts.{IsWellMade}
use Rattle.vd_constraints.specs.Outcomes.{IsLabelled}
use Rattle.vd_constraints.specs.Rules.{system_of}
use Rattle.vd_constraints.specs.Satisfies.{IsLeast}
use Rattle.vd_constraints.specs.Systems.{Constraints}
use Rattle.vd_constraints.specs.declared.labels.Labels.{Labels}
use Rattle.vd_elaborate.proofs.Front.{well_made}
use Rattle.vd_elaborate.specs.Normal.{normal_form}
use Rattle.vd_parser.proofs.Front.{names_are_names, parses_once}
use Rattle.vd_parser.specs.Outcomes.{IsParse}
use Rattle.vd_parser.specs.declared.fault.ParseFault.{ParseFault}
use Rattle.vd_parser.specs.declared.fault.ParseFault.TheVariants as parse_fault
use Rattle.vd_resolve.specs.Limits.{resolution}
use Rattle.vd_resolve.specs.Causes.{resolution_told}
use Rattle.vd_resolve.specs.Faults.{Fault}
use Rattle.vd_resolve.specs.declared.fault.NameFault.{NameFault}
use Rattle.vd_resolve.specs.declared.fault.NameFault.TheVariants as name_fault
use Rattle.vd_space.specs.declared.problem.Problem.{Problem}
use Rattle.vd_space.specs.Reading.{problem_of}
use Rattle.vd_cmd_labels.proofs.Front.{program_system}
use Rattle.vd_cmd_plan.specs.Plans.{Plan, check_then, file_then}
use Rattle.vd_cmd_plan.specs.Refusals.{rule_status}
use Rattle.vd_cmd_plan.specs.declared.answer.Answer.{Answer}
use Rattle.vd_cmd_plan.specs.declared.status.Status.{Status}
use Rattle.vd_cmd_plan.specs.declared.status.Status.TheVariants.{Ended}
use Rattle.vd_cmd_labels.specs.Labelling.{as_labels, labels_of}
use Rattle.vd_cmd_labels.specs.Outcomes.{LabelOutcomes, TextOutcomes}
use Rattle.vd_cmd_labels.specs.Sources.{HoldsSource, IsSourceText, as_resolved, as_source, caused, resolved_of, source_of, source_then, text_status, tree_then}
use Rattle.vd_cmd_labels.proofs.Front.{labelled}
use Rattle.vd_cmd_choose.specs.Problems.{IsProblemOf, as_problem, problem_for}
use Rattle.vd_cmd_choice.specs.Programs.{program_then}
use Rattle.vd_cmd_rewrite.specs.RunPrograms.{run_form}
use Rattle.vd_cmd_laws.proofs.Plans.{Ends, Leads, NeverEnds, check_came, check_leads, ends_as, file_came, held_leads}

-- ---- texts

-- the status of a refusal is no other
pub same_status : {T : Type 0} (one other : Status) → ◌≡◌ {A = Result T Status} (Err one) (Err other) → one ≡ other
same_status one other is = cc is

text_ends : (name : List ℕ) (fault : ParseFault) → text_status name fault ≡ Ended → ⊥
text_ends name (parse_fault.BadByte offset) is = cc is
text_ends name (parse_fault.Unexpected token offset) is = cc is
text_ends name (parse_fault.TooDeep offset) is = cc is
text_ends name (parse_fault.TooLong length) is = cc is
text_ends name parse_fault.Memory is = cc is

source_never : (name : List ℕ) (said : Result Source ParseFault) → NeverEnds (as_source name said)
source_never name (Ok source) status is ended = absurd (cc is)
source_never name (Err fault) status is ended = text_ends name fault (same_status _ _ is ∙ ended)

parsed_as : (name : List ℕ) (tree : Source) (said : Result Source ParseFault) → as_source name said ≡ Ok tree → said ≡ Ok tree
parsed_as name tree (Ok source) is = let same : source ≡ tree = cc is in ap (λ (s : Source). Ok s) same
parsed_as name tree (Err fault) is = absurd (cc is)

rule_ends : (fault : NameFault) → rule_status fault ≡ Ended → ⊥
rule_ends (name_fault.Unknown at) is = cc is
rule_ends (name_fault.Twice at first) is = cc is
rule_ends (name_fault.Recursive at) is = cc is
rule_ends (name_fault.Arity at) is = cc is
rule_ends (name_fault.Kind at met) is = cc is
rule_ends (name_fault.Limit which count) is = cc is
rule_ends name_fault.Memory is = cc is

resolved_never : (tree : Source) (said : Result (Unit {0}) Fault) → NeverEnds (as_resolved tree said)
resolved_never tree (Ok done) status is ended = absurd (cc is)
resolved_never tree (Err fault) status is ended = rule_ends (caused fault (resolution_told tree)) (same_status _ _ is ∙ ended)

resolved_as : (tree source : Source) (said : Result (Unit {0}) Fault) → resolution tree ≡ said → as_resolved tree said ≡ Ok source → (resolution tree ≡ Ok tt) × (tree ≡ source)
resolved_as tree source (Ok done) is same = (is, cc same)
resolved_as tree source (Err fault) is same = absurd (cc same)

module _ (contents : Contents) (texts : TextOutcomes) (name : List ℕ) where
  -- the file holds a source that meets every rule, and what follows is done with its bytes and with it
  pub read_came : (rest : List ℕ → Source → Contents → Plan) (plan : Contents → Plan)
      → plan ≡ file_then name most_source_bytes (λ bytes. check_then (source_of texts name bytes) (λ tree. check_then (resolved_of tree) (rest bytes))) → Ends contents plan
      → (source : Source) × (held : HoldsSource name contents source) × Leads contents plan (rest held.bytes source contents).answer
  read_came rest plan is ends =
      let resolve : List ℕ → Source → Contents → Plan = λ bytes tree. check_then (resolved_of tree) (rest bytes) in
      let read : List ℕ → Contents → Plan = λ bytes. check_then (source_of texts name bytes) (resolve bytes) in
      let begun = subst (Ends contents) is ends in
      let file = file_came contents name most_source_bytes read begun in
      let bytes = file.0 in
      let second = ends_as contents (file_then name most_source_bytes read) (read bytes) begun file.2 in
      let tree = check_came contents (source_of texts name bytes) (resolve bytes) (source_never name (texts.parse bytes)) second in
      let third = ends_as contents (read bytes) (resolve bytes tree.0) second tree.2 in
      let source = check_came contents (resolved_of tree.0) (rest bytes) (resolved_never tree.0 (resolution tree.0)) third in
      let same = resolved_as tree.0 source.0 (resolution tree.0) refl source.1 in
      let parsed = subst (IsParse bytes) (parsed_as name tree.0 (texts.parse bytes) tree.1) (texts.parse_is bytes) in
      let text : IsSourceText source.0 bytes = record {
        parsed = subst (λ (s : Source). IsParse bytes (Ok s)) same.1 parsed;
        meets = subst (λ (s : Source). resolution s ≡ Ok tt) same.1 same.0;
      } in (
        source.0,
        record { bytes = bytes; is_fetched = file.1; holds = text },
        ap (λ (p : Contents → Plan). (p contents).answer) is ∙ file.2 ∙ tree.2 ∙ source.2,
      )

  pub source_came : (rest : Source → Contents → Plan) → Ends contents (source_then texts name rest)
      → (source : Source) × HoldsSource name contents source × Leads contents (source_then texts name rest) (rest source contents).answer
  unfolding source_then tree_then
  source_came rest ends = let found = read_came (λ bytes. rest) (source_then texts name rest) refl ends in (found.0, found.1, found.2)

  -- and where it holds this source, it is done with the program that is run for this one
  pub program_leads : (least : LabelOutcomes) (source : Source) (rest : NormalForm → Contents → Plan) (answer : Answer) → HoldsSource name contents source → Leads contents (rest (run_form least (normal_form source))) answer
      → Leads contents (program_then texts least name rest) answer
  program_leads least source rest answer held then =
      let with_source : Source → Contents → Plan = λ s. rest (run_form least (normal_form s)) in
      held_leads contents name most_source_bytes (source_of texts name) source (λ tree. check_then (resolved_of tree) with_source) answer (IsSourceText source) held
      (λ bytes is. ap (as_source name) (parses_once bytes (texts.parse bytes) (Ok source) (texts.parse_is bytes) is.parsed))
      (check_leads contents (resolved_of source) source with_source answer (ap (as_resolved source) held.holds.meets) then)

pub made_of : (name : List ℕ) (contents : Contents) (source : Source) → HoldsSource name contents source → IsWellMade (normal_form source)
made_of name contents source held = well_made source held.holds.meets (names_are_names held.bytes source held.holds.parsed)

-- ---- labels

labels_never_by : (least : LabelOutcomes) (program : NormalForm) (said : Result Labels ℕ) → NeverEnds (as_labels least program said)
labels_never_by least program (Ok labels) status is ended = absurd (cc is)
labels_never_by least program (Err number) status is ended = let wrong = same_status _ _ is ∙ ended in absurd (cc wrong)

labels_as : (least : LabelOutcomes) (program : NormalForm) (labels : Labels) (said : Result Labels ℕ) → as_labels least program said ≡ Ok labels → said ≡ Ok labels
labels_as least program labels (Ok other) is = let same : other ≡ labels = cc is in ap (λ (l : Labels). Ok l) same
labels_as least program labels (Err number) is = absurd (cc is)

module _ (least : LabelOutcomes) (program : NormalForm) (made : IsWellMade program) where
  pub labels_never : NeverEnds (labels_of least program)
  labels_never = labels_never_by least program (least.label (system_of program))

  -- labels that were found are the least
  pub labels_are : (labels : Labels) → labels_of least program ≡ Ok labels → IsLeast (system_of program) labels
  labels_are labels is =
      subst (IsLabelled (system_of program)) (labels_as least program labels (least.label (system_of program)) is) (least.label_is (system_of program) (program_system program made))

  labels_found : (labels : Labels) → IsLeast (system_of program) labels → labels_of least program ≡ Ok labels
  labels_found labels is = labelled least program (Ok labels) (program_system program made) is

  -- ---- the problem

  problem_never_by : (said : Result Labels Status) → NeverEnds said → NeverEnds (as_problem program said)
  problem_never_by (Ok labels) never status is ended = absurd (cc is)
  problem_never_by (Err fault) never status is ended = never fault refl (same_status _ _ is ∙ ended)

  pub problem_never : NeverEnds (problem_for least program)
  problem_never = problem_never_by (labels_of least program) labels_never

  problem_as : (problem : Problem) (said : Result Labels Status) → as_problem program said ≡ Ok problem → (labels : Labels) × (said ≡ Ok labels) × (problem ≡ problem_of program labels)
  problem_as problem (Ok labels) is = (labels, refl, sym (cc is))
  problem_as problem (Err status) is = absurd (cc is)

  pub problem_is : (problem : Problem) → problem_for least program ≡ Ok problem → IsProblemOf program problem
  problem_is problem is =
      let found = problem_as problem (labels_of least program) is in
      record { labels = found.0; least = labels_are found.0 found.1; same = found.2 }

  pub problem_found : (labels : Labels) → IsLeast (system_of program) labels → problem_for least program ≡ Ok (problem_of program labels)
  problem_found labels is = ap (as_problem program) (labels_found labels is)
