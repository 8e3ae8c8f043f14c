-- A search of `reveals` that gives up wherever it may, beside any other.
use Rattle.std.proofs.Common.{refl}
use Rattle.vd_outside.specs.Files.{Contents}
use Rattle.vd_search_stages.specs.Choices.{ChoiceOutcomes}
use Rattle.vd_cmd.specs.declared.command.RevealsWords.{RevealsWords}
use Rattle.vd_cmd_plan.proofs.Front.{Follows}
use Rattle.vd_cmd_labels.specs.Outcomes.{TextOutcomes, LabelOutcomes}
use Rattle.vd_cmd_choice.specs.Outcomes.{CertificateOutcomes}
use Rattle.vd_cmd_choice.specs.Searching.{Searched, searched_by, sure_search}
use Rattle.vd_cmd_choice.proofs.Front.{source_choice_follows}
use Rattle.vd_cmd_draw.specs.Revealing.{asked_then, reveals_plan}

pub reveals_follows : (texts : TextOutcomes) (least : LabelOutcomes) (certificates : CertificateOutcomes) (choices : ChoiceOutcomes) (searched : Searched) (words : RevealsWords) (files : Contents)
    → Follows (reveals_plan texts least choices (sure_search choices) words files) (reveals_plan texts least choices (searched_by certificates choices searched) words files)
reveals_follows texts least certificates choices searched words files =
    source_choice_follows texts least certificates choices searched words.source words.budget files (asked_then words.host) (λ text program l one other. refl)
