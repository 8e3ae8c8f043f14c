-- What a run comes to.
use Rattle.std.proofs.Common.{◌≡◌, ℕ, List, [], Ok, Err, refl, sym, ap, ◌∙◌, subst}
use Rattle.vd_core.specs.declared.normal.NormalForm.{NormalForm}
use Rattle.vd_search_stages.specs.declared.optimum.Assignment.{Assignment}
use Rattle.vd_cmd_plan.specs.Plans.{Computes, ended}
use Rattle.vd_cmd_plan.specs.declared.answer.Answer.{Answer}
use Rattle.vd_cmd_plan.specs.declared.status.Status.{Status}
use Rattle.vd_cmd_plan.specs.declared.status.Status.TheVariants.{Ended, Memory, ReadFault}
use Rattle.vd_cmd_files.specs.declared.run_files.RunFiles.{RunFiles}
use Rattle.vd_cmd_replay.specs.Replaying.{report_for}
use Rattle.vd_cmd_trial.specs.Trial.{headed_by, trial_asked, trial_text}

-- ---- a report, and the cost before it

-- where the answer ends well, no refusal but that of a fault outside is known
pub refused_alike : (printed other : List ℕ) (status : Status) → Computes (ended [] printed) (Err status) → Computes (ended [] other) (Err status)
refused_alike printed other Memory computes = record { proper = computes.proper; no_fault = computes.no_fault; settled = tt }
refused_alike printed other (ReadFault name) computes = record { proper = computes.proper; no_fault = computes.no_fault; settled = tt }
refused_alike printed other Ended computes = absurd computes.proper
refused_alike printed other status computes = let wrong : status ≡ Ended = ap (λ (a : Answer). a.status) computes.settled in absurd (cc wrong)

headed_computes : (lines : List ℕ) (least : ℕ) (report headed : Answer) → Computes (ended [] lines) (Ok report) → headed ≡ headed_by least report → Computes (headed_by least (ended [] lines)) (Ok headed)
headed_computes lines least report headed computes same =
    let is : headed ≡ headed_by least (ended [] lines) = same ∙ ap (headed_by least) computes.settled in
    subst (λ (a : Answer). Computes (headed_by least (ended [] lines)) (Ok a)) (sym is) (record { proper = (tt, refl); no_fault = λ file e. cc e; settled = refl })

-- of a run on what a trial asks for
pub runs_headed : (coordinates : ℕ) (program : NormalForm) (a : Assignment) (asked : RunFiles) (report headed : Answer) → asked ≡ trial_asked coordinates program a.protocols
    → Computes (ended [] (report_for program a.protocols asked)) (Ok report) → headed ≡ headed_by a.cost report → Computes (ended [] (trial_text coordinates program a)) (Ok headed)
runs_headed coordinates program a asked report headed made computes same =
    headed_computes (report_for program a.protocols (trial_asked coordinates program a.protocols)) a.cost report headed
    (subst (λ (x : RunFiles). Computes (ended [] (report_for program a.protocols x)) (Ok report)) made computes) same
