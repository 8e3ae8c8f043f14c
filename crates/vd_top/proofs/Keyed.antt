-- What a run of `deal` for a key of 32 bytes has shown, where it ended well.
use Rattle.std.proofs.Common.{◌≡◌, ℕ, Bool, true, false, IsTrue, List, length, Option, Result, Ok, Err, sym, ap, subst, ◌∙◌, if◌then◌else◌}
use Rattle.std.specs.Prelude.{codes, nat_lt, ◌||◌}
use Rattle.vd_base.specs.declared.faults.CallFault.{CallFault}
use Rattle.vd_base.specs.declared.faults.CallFault.TheVariants as call_fault
use Rattle.vd_outside.specs.Files.{Contents, FilesView}
use Rattle.vd_outside.specs.Sink.{SinkView}
use Rattle.vd_outside.specs.Marks.{MarksView}
use Rattle.vd_cmd.specs.Commands.{KeepsLimits}
use Rattle.vd_cmd.specs.declared.command.Command.{Command}
use Rattle.vd_cmd.specs.declared.command.Command.TheVariants.{KeyDeal}
use Rattle.vd_cmd.specs.declared.command.KeyDealWords.{KeyDealWords}
use Rattle.vd_cmd_plan.specs.Deliver.{stored}
use Rattle.vd_cmd_plan.specs.Plans.{Plan, answer_then}
use Rattle.vd_cmd_plan.specs.Runs.{Runs}
use Rattle.vd_cmd_plan.specs.declared.answer.Answer.{Answer}
use Rattle.vd_cmd_plan.specs.declared.status.Status.{Status}
use Rattle.vd_cmd_plan.specs.declared.status.Status.TheVariants.{Ended, Memory, ShortKey}
use Rattle.vd_cmd_deal.specs.KeyDealing.{key_answer}
use Rattle.vd_cmd_deal.specs.Sources.{FromDraw, FromFile, NoMemory, NotDrawn, RunsKeyDeal, bytes_plan, file_plan, is_written, key_in, not_drawn}
use Rattle.vd_cmd_laws.proofs.Front.{answered, check_came, ends_as, file_came}
use Rattle.vd_cmd_laws.specs.KeyedDealt.{TellsKeyed}
use Rattle.vd_cmd_laws.proofs.Front.{keyed_deals_tell}
use Rattle.vd_top.specs.Answers.{AreWithinLimits, KeepsKeyed}
use Rattle.vd_top.specs.Hosts.{KeysForm, KeysWords}
use Rattle.vd_top.proofs.Words.{are_counts}

-- a key that is too short ends nothing well
abbrev by_length : (name bytes : List ℕ) → (short : Bool) → Result (List ℕ) Status
by_length name bytes short = if short then Err (ShortKey name (length bytes)) else Ok bytes

no_short : (name bytes : List ℕ) (short : Bool) (status : Status) → by_length name bytes short ≡ Err status → status ≡ Ended → ⊥
no_short name bytes true status refused ends = cc (refused, ends)
no_short name bytes false status refused ends = cc refused

no_short_key : (name bytes : List ℕ) (status : Status) → key_in name bytes ≡ Err status → status ≡ Ended → ⊥
no_short_key name bytes status refused ends = no_short name bytes (nat_lt (length bytes) 32 || is_written bytes) status refused ends

never_drawn : (draw : List ℕ) (fault : CallFault) → not_drawn draw fault ≡ Ended → ⊥
never_drawn draw call_fault.Failed e = cc e
never_drawn draw call_fault.Memory e = cc e

module _ (deal : KeyDealWords) (before now : FilesView) (out_before out_now : SinkView) (within : KeepsLimits (KeyDeal deal)) (told : IsTrue before.told) where
  -- what the plan of a key comes to stands
  stand : (plan : Contents → Plan) (key : List ℕ) → Runs true plan before now out_before out_now Ended → (plan before.contents).answer ≡ key_answer deal.counts key deal.prefix → TellsKeyed deal.counts key deal.prefix now.contents
  stand plan key runs is =
      subst (λ (c : Contents). TellsKeyed deal.counts key deal.prefix c) (sym (runs.stores told tt ∙ ap (λ (a : Answer). stored a.stores before.contents) is))
      (keyed_deals_tell deal.counts key deal.prefix before.contents (are_counts deal.counts within))

  read : (name : List ℕ) → Runs true (file_plan deal.counts name deal.prefix) before now out_before out_now Ended → (key : List ℕ) × TellsKeyed deal.counts key deal.prefix now.contents
  read name runs =
      let ends : (file_plan deal.counts name deal.prefix before.contents).answer.status ≡ Ended = sym (runs.answered told) in
      let file = file_came before.contents name 32 (bytes_plan deal.counts name deal.prefix) ends in
      let rest = λ (key : List ℕ). answer_then (key_answer deal.counts key deal.prefix) in
      let goes_on = ends_as before.contents (file_plan deal.counts name deal.prefix) (bytes_plan deal.counts name deal.prefix file.0) ends file.2 in
      let key = check_came before.contents (key_in name file.0) rest (no_short_key name file.0) goes_on in
      (key.0, stand (file_plan deal.counts name deal.prefix) key.0 runs (file.2 ∙ key.2 ∙ answered before.contents (key_answer deal.counts key.0 deal.prefix)))

  ran : (marks marks_now : MarksView) (status : Status) → RunsKeyDeal deal before now marks marks_now out_before out_now status → status ≡ Ended → (key : List ℕ) × TellsKeyed deal.counts key deal.prefix now.contents
  ran marks marks_now status runs ends = by runs ends
    where
      by : {status : Status} → RunsKeyDeal deal before now marks marks_now out_before out_now status → status ≡ Ended → (key : List ℕ) × TellsKeyed deal.counts key deal.prefix now.contents
      by (FromFile name end is same runs) ends = read name (subst (λ (s : Status). Runs true (file_plan deal.counts name deal.prefix) before now out_before out_now s) ends runs)
      by (FromDraw key end is drawn runs) ends = (
        key,
        stand (answer_then (key_answer deal.counts key deal.prefix)) key
            (subst (λ (s : Status). Runs true (answer_then (key_answer deal.counts key deal.prefix)) before now out_before out_now s) ends runs)
            (answered before.contents (key_answer deal.counts key deal.prefix)),
      )
      by (NotDrawn fault is drawn same_files same_out) ends = absurd (never_drawn (codes "draw") fault ends)
      by (NoMemory is same_marks same_files same_out) ends = absurd (cc ends)

pub keyed_of : (words : List (List ℕ)) (before now : FilesView) (marks marks_now : MarksView) (out_before out_now : SinkView) (status : Status) → KeysWords words before now marks marks_now out_before out_now status
    → AreWithinLimits words status → KeepsKeyed words before now status
keyed_of words before now marks marks_now out_before out_now status keys limits deal form told ends =
    let runs = subst (λ (f : Option Command). KeysForm f before now marks marks_now out_before out_now status) form keys in
    ran deal before now out_before out_now (limits (KeyDeal deal) form ends) told marks marks_now status runs ends
