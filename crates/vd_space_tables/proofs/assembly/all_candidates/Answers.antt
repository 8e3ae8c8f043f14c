use Rattle.std.proofs.Common.{◌≡◌}
use Rattle.std.proofs.lemmas.Result.{IfOk-weaker}
use Rattle.vd_space_tables.specs.Prices.{candidates_of}
use Rattle.vd_space_tables.specs.Charges.{AreCandidates}
use Rattle.vd_space_tables.proofs.Merged.{are_candidates}
use Rattle.vd_space_tables.proofs.assembly.all_candidates.Goals as goal

pub returns-clause-rows : goal.returns-clause-rows
returns-clause-rows c =
    let problem = c.args.problem.now in
    IfOk-weaker c.candidates.result (λ candidates. candidates ≡ candidates_of problem) (AreCandidates problem) (are_candidates problem) c.candidates.ensures
