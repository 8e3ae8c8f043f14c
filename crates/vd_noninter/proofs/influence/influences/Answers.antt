use Rattle.vd_noninter.specs.Hosts.{members}
use Rattle.vd_noninter.specs.Reached.{reach_of}
use Rattle.vd_noninter.proofs.Influenced.{all_influences}
use Rattle.vd_noninter.proofs.influence.influences.Goals as goal

pub returns : goal.returns
returns c =
    let read = c.form-form.ensures in
    all_influences c.args.passed c.args.program.now c.args.host read.well_made c.form-form.result.now c.in_ok-edges.edges (reach_of c.in_ok-reached.reached) (members c.hosts.result) read.same c.in_ok-edges.ensures
    c.in_ok-reached.ensures c.hosts.ensures
