use Rattle.std.proofs.Common.{IfOk, List, Result, Ok, Err}
use Rattle.std.proofs.lemmas.Result.{IfOk-weaker}
use Rattle.vd_lsp.specs.Faults.{AreFaultsOf, IsRefused}
use Rattle.vd_lsp.specs.Outcomes.{outcome_of}
use Rattle.vd_lsp.proofs.ByStatus.{none_where_labelled, refused}
use Rattle.vd_lsp.proofs.faults.faults_of.Goals as goal

pub returns-in-Ok : goal.returns-in-Ok
returns-in-Ok c = λ texts least. none_where_labelled c.args.text.now (outcome_of texts least c.args.name.now c.args.text.now) _ _ (c.in-Ok.ensures texts least) c.new.ensures

pub returns-in-Err : goal.returns-in-Err
returns-in-Err c =
    IfOk-weaker c.faults_for.result (IsRefused c.args.text.now c.in-Err.status) (AreFaultsOf c.args.name.now c.args.text.now)
    (λ faults refusal texts least. refused c.args.text.now (outcome_of texts least c.args.name.now c.args.text.now) c.in-Err.status faults (c.in-Err.ensures texts least) refusal) c.faults_for.ensures
