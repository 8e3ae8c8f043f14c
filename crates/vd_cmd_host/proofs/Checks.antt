-- What a check looks at, and what it tells.
use Rattle.std.proofs.Common.{◌≡◌, ◌∙◌, ℕ, Bool, IsTrue, List, Some, Result, Ok, Err, sym, ap, subst}
use Rattle.vd_base.specs.declared.faults.CallFault.{CallFault}
use Rattle.vd_base.specs.declared.faults.Failed.{Failed}
use Rattle.vd_channel_crypto.specs.declared.deal_keys.secrets.Secrets.{Secrets}
use Rattle.vd_cmd.specs.declared.command.CheckWords.{CheckWords}
use Rattle.vd_cmd_plan.specs.declared.status.Status.{Status}
use Rattle.vd_outside.specs.Files.{FilesView}
use Rattle.vd_outside.specs.Marks.{Looks, MarksView}
use Rattle.vd_outside.specs.Sink.{SinkView, WritesAll}
use Rattle.vd_cmd_host.specs.CheckLaws.{ChecksTakeNoMark}
use Rattle.vd_cmd_host.specs.Checking.{Checked, HostChecks, Looked, LooksFor, NoMark, NoRoom, NotRead, NotSeen, TellsFindings, Told, amounts_in, check_text, end_after, end_of, first_short, seen_by}
use Rattle.vd_cmd_host.specs.Marking.{mark_name}
use Rattle.vd_cmd_host.specs.declared.loading.Loaded.{Loaded}

-- the mark was looked for, by the bytes of which the call speaks
pub looked : (words : CheckWords) (loaded : Loaded) (secrets : Secrets) (marks marks_now : MarksView) (beside name given : List ℕ) (result : Result Bool CallFault) (seen : Result Bool Status)
    → loaded.dealt.secrets ≡ Some secrets → beside ≡ words.deal → given ≡ name → name ≡ mark_name secrets.id loaded.program.me.0
    → Looks beside given marks marks_now result → seen ≡ seen_by words.deal result → LooksFor words loaded marks marks_now seen
looked words loaded secrets marks marks_now beside name given result seen dealt is_deal same is_name looks is =
    let one = subst (λ (l : List ℕ). Looks l given marks marks_now result) is_deal looks in
    let two = subst (λ (l : List ℕ). Looks words.deal l marks marks_now result) (same ∙ is_name) one in
    subst (λ (r : Result Bool Status). LooksFor words loaded marks marks_now r) (sym is) (Looked secrets result dealt two)

-- the text was written, as far as the output took it
pub told : (words : CheckWords) (loaded : Loaded) (used : Bool) (text given : List ℕ) (end result : Status) (written : Result (Unit {0}) Failed) (out out_now : SinkView)
    → given ≡ text → text ≡ check_text loaded (amounts_in loaded) used → end ≡ end_of words used (first_short (amounts_in loaded))
    → WritesAll given out out_now written → result ≡ end_after written end → TellsFindings words loaded used out out_now result
told words loaded used text given end result written out out_now same is_text is_end writes is =
    let whole = subst (λ (l : List ℕ). WritesAll l out out_now written) (same ∙ is_text) writes in
    subst (λ (s : Status). TellsFindings words loaded used out out_now s) (sym (is ∙ ap (λ (e : Status). end_after written e) is_end)) (Told written whole)

-- a look changes no mark
same_marks : (words : CheckWords) (loaded : Loaded) (marks marks_now : MarksView) (result : Result Bool Status) → LooksFor words loaded marks marks_now result
    → IsTrue marks.told → (marks_now.taken ≡ marks.taken) × (marks_now.draws ≡ marks.draws)
same_marks words loaded marks marks_now result looks told = by looks
  where
    by : {r : Result Bool Status} → LooksFor words loaded marks marks_now r → (marks_now.taken ≡ marks.taken) × (marks_now.draws ≡ marks.draws)
    by (NoMark plain same) = (ap (λ (m : MarksView). m.taken) same, ap (λ (m : MarksView). m.draws) same)
    by (NoRoom same) = (ap (λ (m : MarksView). m.taken) same, ap (λ (m : MarksView). m.draws) same)
    by (Looked secrets looked dealt looks) = (looks.taken told, looks.draws told)

pub take_no_mark : ChecksTakeNoMark
take_no_mark words files files_now marks marks_now out out_now end checks told = by checks
  where
    by : {e : Status} → HostChecks words files files_now marks marks_now out out_now e → (marks_now.taken ≡ marks.taken) × (marks_now.draws ≡ marks.draws)
    by (NotRead refusal loads same same_out) = (ap (λ (m : MarksView). m.taken) same, ap (λ (m : MarksView). m.draws) same)
    by (NotSeen loaded refusal loads looks same_out) = same_marks words loaded marks marks_now (Err refusal) looks told
    by (Checked loaded used e loads looks tells) = same_marks words loaded marks marks_now (Ok used) looks told
