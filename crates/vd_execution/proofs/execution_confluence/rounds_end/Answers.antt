use Rattle.std.proofs.Common.{◌++◌, subst, sym, ◌∙◌}
use Rattle.vd_execution.specs.Joint.{started}
use Rattle.vd_execution.specs.World.{run, IsStuck, all_rounds}
use Rattle.vd_execution.proofs.Compiled.{whole}
use Rattle.vd_execution.proofs.Rounds.{all_stuck, run_ended, run_both}
use Rattle.vd_execution.proofs.execution_confluence.rounds_end.Goals as goal

pub returns-clause-stuck : goal.returns-clause-stuck
returns-clause-stuck c = all_stuck

pub returns-clause-whole : goal.returns-clause-whole
returns-clause-whole c = λ s j n b runs ended.
    let w = run s b (started j) in
    let more = all_rounds n w in
    let both = run_both s b more (started j) in
    let stuck = all_stuck s n w (run_ended s n b (started j) ended) in
    sym both ∙ (whole s j (b ++ more) runs.well runs.enough (subst (λ x. IsStuck s x) (sym both) stuck)).0
