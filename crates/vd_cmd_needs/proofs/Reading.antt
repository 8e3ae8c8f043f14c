-- A text that is too long.
use Rattle.std.proofs.Common.{◌≡◌, inr, ◌<◌, ℕ, List, length, Err, refl, sym, ap, ◌∙◌}
use Rattle.vd_base.specs.Limits.{most_source_bytes}
use Rattle.vd_core.specs.declared.source.Source.{Source}
use Rattle.vd_parser.specs.declared.fault.ParseFault.TheVariants as parse_fault
use Rattle.vd_cmd_plan.specs.Plans.{Checks}
use Rattle.vd_cmd_plan.specs.declared.status.Status.TheVariants.{TooLong}
use Rattle.vd_cmd_labels.specs.Outcomes.{TextOutcomes}
use Rattle.vd_cmd_labels.specs.Sources.{source_of}
use Rattle.vd_cmd_labels.proofs.Front.{parsed}

-- it is no source
pub too_long : (texts : TextOutcomes) (name bytes copy : List ℕ) → most_source_bytes < length bytes → copy ≡ name → Checks {T = Source} (source_of texts name bytes) (Err (TooLong copy most_source_bytes))
too_long texts name bytes copy long same =
    record { ok = tt; err = parsed texts name bytes (Err (parse_fault.TooLong (length bytes))) (inr (long, refl)) (λ e. cc e) ∙ ap (λ (n : List ℕ). Err (TooLong n most_source_bytes)) (sym same) }
