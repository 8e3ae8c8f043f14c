-- There is one program that is run for a source, whatever function picks labels.
use Rattle.std.proofs.Common.{◌≡◌, ℕ, Bool, true, false, if◌then◌else◌, Result, Ok, Err, refl, sym, ap, ◌∙◌}
use Rattle.std.specs.Prelude.{is_ok}
use Rattle.vd_core.specs.declared.normal.NormalForm.{NormalForm}
use Rattle.vd_constraints.specs.Systems.{IsSystem}
use Rattle.vd_constraints.specs.Rules.{system_of}
use Rattle.vd_constraints.specs.Satisfies.{IsLeast}
use Rattle.vd_constraints.specs.Outcomes.{IsLabelled}
use Rattle.vd_constraints.specs.declared.labels.Labels.{Labels}
use Rattle.vd_cmd_plan.specs.declared.status.Status.{Status}
use Rattle.vd_cmd_labels.specs.Outcomes.{LabelOutcomes}
use Rattle.vd_cmd_labels.specs.Labelling.{as_labels, labels_of}
use Rattle.vd_cmd_labels.proofs.Front.{labelled}
use Rattle.vd_cmd_rewrite.specs.RunPrograms.{Rewriting, HasNoLabels, IsLabelledOr, New, Old, Rewrites, Under, Without, Plain, if_labelled, under, rewritten_by}

module _ (least : LabelOutcomes) where
  -- the labels of a program that has some
  labels_are : (p : NormalForm) (l : Labels) → IsSystem (system_of p) → IsLeast (system_of p) l → labels_of least p ≡ Ok l
  labels_are p l system is = labelled least p (Ok l) system is

  -- and of one that has none
  labels_fail : (p : NormalForm) → IsSystem (system_of p) → HasNoLabels p → is_ok (labels_of least p) ≡ false
  labels_fail p system none = by (least.label (system_of p)) (least.label_is (system_of p) system)
    where
      by : (r : Result Labels ℕ) → IsLabelled (system_of p) r → is_ok (as_labels least p r) ≡ false
      by (Ok l) is = absurd (none l is.is)
      by (Err check) is = refl

  either_once : (new old chosen : NormalForm) → IsSystem (system_of new) → IsLabelledOr new old chosen → if_labelled least new old ≡ chosen
  either_once new old chosen system (New l is e) = ap (λ (r : Result Labels Status). if is_ok r then new else old) (labels_are new l system is) ∙ sym e
  either_once new old chosen system (Old none e) = ap (λ (b : Bool). if b then new else old) (labels_fail new system none) ∙ sym e

  unlabelled_stays : (change : Rewriting) (p : NormalForm) (r : Result Labels Status) → is_ok r ≡ false → under change least p r ≡ p
  unlabelled_stays change p (Ok l) e = absurd (cc e)
  unlabelled_stays change p (Err status) e = refl

  either_same : (new old : NormalForm) → new ≡ old → if_labelled least new old ≡ old
  either_same new old e = by (is_ok (labels_of least new))
    where
      by : (b : Bool) → (if b then new else old) ≡ old
      by true = e
      by false = refl

  plain_stays : (change : Rewriting) (p : NormalForm) (r : Result Labels Status) → ((l : Labels) → change p l ≡ p) → under change least p r ≡ p
  plain_stays change p (Ok l) stays = either_same (change p l) p (stays l)
  plain_stays change p (Err status) stays = refl

  pub rewritten_once : (change : Rewriting) (old new : NormalForm) → IsSystem (system_of old) → ((l : Labels) → IsSystem (system_of (change old l))) → Rewrites change old new → rewritten_by change least old ≡ new
  rewritten_once change old new system systems (Under l is chosen) = ap (under change least old) (labels_are old l system is) ∙ either_once (change old l) old new (systems l) chosen
  rewritten_once change old new system systems (Plain stays e) = plain_stays change old (labels_of least old) stays ∙ sym e
  rewritten_once change old new system systems (Without none e) = unlabelled_stays change old (labels_of least old) (labels_fail old system none) ∙ sym e

  -- and that is what a rewriting makes of it
  chosen_is : (new old : NormalForm) → IsSystem (system_of new) → IsLabelledOr new old (if_labelled least new old)
  chosen_is new old system = by (least.label (system_of new)) (least.label_is (system_of new) system)
    where
      by : (r : Result Labels ℕ) → IsLabelled (system_of new) r → IsLabelledOr new old (if is_ok (as_labels least new r) then new else old)
      by (Ok l) is = New l is refl
      by (Err check) is = Old is.none refl

  pub rewritten_is : (change : Rewriting) (old : NormalForm) → IsSystem (system_of old) → ((l : Labels) → IsSystem (system_of (change old l))) → Rewrites change old (rewritten_by change least old)
  rewritten_is change old system systems = by (least.label (system_of old)) (least.label_is (system_of old) system)
    where
      by : (r : Result Labels ℕ) → IsLabelled (system_of old) r → Rewrites change old (under change least old (as_labels least old r))
      by (Ok l) is = Under l is (chosen_is (change old l) old (systems l))
      by (Err check) is = Without is.none refl
