-- The program that is run tells each host what the source tells it, and has the source's hosts.
use Rattle.std.proofs.Common.{◌≡◌, ℕ, Bool, true, false, ◌&&◌, if◌then◌else◌, List, refl, ap, ◌∙◌}
use Rattle.vd_base.specs.declared.ids.SlotId.{SlotId}
use Rattle.vd_core.specs.declared.normal.NormalForm.{NormalForm}
use Rattle.vd_core.specs.declared.source.Source.{Source}
use Rattle.vd_core.specs.Facts.{IsWellMade}
use Rattle.vd_semantics.specs.ProgramMeaning.{program_outputs}
use Rattle.vd_semantics.specs.SourceMeaning.{source_outputs}
use Rattle.vd_elaborate.specs.Normal.{normal_form}
use Rattle.vd_elaborate.proofs.Front.{outputs_kept}
use Rattle.vd_constraints.specs.declared.labels.Labels.{Labels}
use Rattle.vd_space.specs.Reading.{problem_of}
use Rattle.vd_rewrite.specs.Rewriting.{marked, is_within}
use Rattle.vd_mux.specs.BooleanGuards.{has_boolean_guards}
use Rattle.vd_mux.specs.Hidden.{hidden_marks, turn_of}
use Rattle.vd_mux.specs.Selections.{some_hidden, with_selections, turned}
use Rattle.vd_mux.proofs.Front.{turning_keeps}
use Rattle.vd_base.specs.Words.{InputsAreWords}
use Rattle.vd_core.specs.Numbers.{NumbersFit}
use Rattle.vd_long.specs.Lengthened.{some_lengthened, with_long_divisions, is_nested}
use Rattle.vd_long.specs.Marks.{long_marks, lengthen_of}
use Rattle.vd_long.proofs.Front.{lengthened_keeps}
use Rattle.vd_cmd_rewrite.specs.RunPrograms.{Rewriting, IsLabelledOr, New, Old, Rewrites, Under, Without, Plain}

-- what a rewriting keeps, a rewritten program keeps
kept_in : {A : Type 0} (f : NormalForm → A) (new old chosen : NormalForm) → f new ≡ f old → IsLabelledOr new old chosen → f chosen ≡ f old
kept_in f new old chosen keeps (New l is e) = ap f e ∙ keeps
kept_in f new old chosen keeps (Old none e) = ap f e

kept : {A : Type 0} (f : NormalForm → A) (change : Rewriting) (old new : NormalForm) → ((l : Labels) → f (change old l) ≡ f old) → Rewrites change old new → f new ≡ f old
kept f change old new keeps (Under l is chosen) = kept_in f (change old l) old new (keeps l) chosen
kept f change old new keeps (Without none e) = ap f e
kept f change old new keeps (Plain stays e) = ap f e

-- a program or the old one, whichever, if both have the same hosts
either : (b : Bool) (new old : NormalForm) → new.hosts ≡ old.hosts → (if b then new else old).hosts ≡ old.hosts
either true new old e = e
either false new old e = refl

turn_hosts : (p : NormalForm) (l : Labels) → (turn_of p l).hosts ≡ p.hosts
turn_hosts p l =
    let hides : SlotId → Bool = marked (hidden_marks p l) in
    either (has_boolean_guards p) (turned hides p) p (either (some_hidden hides p && is_within (with_selections hides p)) (with_selections hides p) p refl)

lengthen_hosts : (p : NormalForm) (l : Labels) → (lengthen_of p l).hosts ≡ p.hosts
lengthen_hosts p l =
    let long : SlotId → Bool = marked (long_marks (problem_of p l)) in
    either (some_lengthened long p.body && (is_within (with_long_divisions long p) && is_nested (with_long_divisions long p))) (with_long_divisions long p) p refl

pub run_hosts : (p0 p1 p2 : NormalForm) → Rewrites turn_of p0 p1 → Rewrites lengthen_of p1 p2 → p2.hosts ≡ p0.hosts
run_hosts p0 p1 p2 turned_is long_is = kept (λ (p : NormalForm). p.hosts) lengthen_of p1 p2 (lengthen_hosts p1) long_is ∙ kept (λ (p : NormalForm). p.hosts) turn_of p0 p1 (turn_hosts p0) turned_is

pub run_tells : (source : Source) (p1 p2 : NormalForm) → IsWellMade (normal_form source) → IsWellMade p1 → NumbersFit p1 → Rewrites turn_of (normal_form source) p1 → Rewrites lengthen_of p1 p2
    → (inputs : List (List ℕ)) → InputsAreWords inputs → program_outputs p2 inputs ≡ source_outputs source inputs
run_tells source p1 p2 well well' numbers turned_is long_is inputs words =
    kept (λ (p : NormalForm). program_outputs p inputs) lengthen_of p1 p2 (λ l. lengthened_keeps (marked (long_marks (problem_of p1 l))) p1 well'.in_order well'.made_before numbers inputs words) long_is
    ∙ kept (λ (p : NormalForm). program_outputs p inputs) turn_of (normal_form source) p1 (λ l. turning_keeps (marked (hidden_marks (normal_form source) l)) (normal_form source) well.in_order well.made_before inputs) turned_is
    ∙ outputs_kept source inputs
