-- A drawn deal is of the bytes that were drawn.
use Rattle.std.proofs.Common.{◌≡◌, ℕ, true, IsTrue, List, [], ◌∷◌, Ok, refl, sym, ap, subst, ◌∙◌}
use Rattle.std.specs.Prelude.{codes}
use Rattle.vd_base.specs.declared.faults.CallFault.{CallFault}
use Rattle.vd_base.specs.declared.faults.CallFault.TheVariants as call_fault
use Rattle.vd_outside.specs.Files.{FilesView}
use Rattle.vd_outside.specs.Sink.{SinkView}
use Rattle.vd_outside.specs.Marks.{Draws, MarksView}
use Rattle.vd_cmd.specs.declared.command.KeyDealWords.{KeyDealWords}
use Rattle.vd_cmd.specs.declared.command.KeySource.TheVariants.{Drawn}
use Rattle.vd_cmd_plan.specs.Deliver.{stored}
use Rattle.vd_cmd_plan.specs.Plans.{answer_then}
use Rattle.vd_cmd_plan.specs.Runs.{Runs}
use Rattle.vd_cmd_plan.specs.declared.status.Status.{Status}
use Rattle.vd_cmd_plan.specs.declared.status.Status.TheVariants.{Ended}
use Rattle.vd_cmd_deal.specs.KeyDealing.{key_answer}
use Rattle.vd_cmd_deal.specs.Sources.{DrawnDealsAreOfTheDraw, FromDraw, FromFile, NoMemory, NotDrawn, RunsKeyDeal, not_drawn}

abbrev first_of : List (List ℕ) → List ℕ
first_of [] = []
first_of (bytes ∷ more) = bytes

never : (draw : List ℕ) (fault : CallFault) → not_drawn draw fault ≡ Ended → ⊥
never draw call_fault.Failed e = cc e
never draw call_fault.Memory e = cc e

module _ (words : KeyDealWords) (files files_now : FilesView) (marks marks_now : MarksView) (out out_now : SinkView) (drawn : List ℕ) (is_drawn : words.key ≡ Drawn) (told : IsTrue files.told) (marks_told : IsTrue marks.told) (next : marks.draws ≡ drawn ∷ marks_now.draws) where
  of_key : (key : List ℕ) → Draws marks marks_now (Ok key) → Runs true (answer_then (key_answer words.counts key words.prefix)) files files_now out out_now Ended
      → files_now.contents ≡ stored (key_answer words.counts drawn words.prefix).stores files.contents
  unfolding answer_then
  of_key key draws runs =
      let same : key ≡ drawn = ap first_of (sym (draws.next marks_told) ∙ next) in
      let here : files_now.contents ≡ stored (key_answer words.counts key words.prefix).stores files.contents = runs.stores told tt in
      here ∙ ap (λ (k : List ℕ). stored (key_answer words.counts k words.prefix).stores files.contents) same

  by : {status : Status} → RunsKeyDeal words files files_now marks marks_now out out_now status → status ≡ Ended
      → files_now.contents ≡ stored (key_answer words.counts drawn words.prefix).stores files.contents
  by (FromFile name end is same runs) ends = absurd (cc (is, is_drawn))
  by (FromDraw key end is draws runs) ends =
      of_key key draws (subst (λ (s : Status). Runs true (answer_then (key_answer words.counts key words.prefix)) files files_now out out_now s) ends runs)
  by (NotDrawn fault is draws same_files same_out) ends = absurd (never (codes "draw") fault ends)
  by (NoMemory is same_marks same_files same_out) ends = absurd (cc ends)

pub of_the_draw : DrawnDealsAreOfTheDraw
of_the_draw words files files_now marks marks_now out out_now drawn runs is_drawn told marks_told next =
    by words files files_now marks marks_now out out_now drawn is_drawn told marks_told next runs refl
