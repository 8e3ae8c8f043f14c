use Rattle.std.proofs.Common.{Ok, Err}
use Rattle.std.proofs.lemmas.Result.{err_from_is_err_and}
use Rattle.vd_cmd_plan.proofs.Front.{load_step}
use Rattle.vd_cmd_deal.specs.Sources.{bytes_plan}
use Rattle.vd_cmd_deal.proofs.cmd_deal_keyed.sources.deal_by_file.Goals as goal

pub returns-in_err-bytes : goal.returns-in_err-bytes
returns-in_err-bytes g c =
    let p = err_from_is_err_and c.from_residual.result c.from_residual.ensures.1 in
    rw (p.1, p.2) (load_step c.args.name.now 32 _ _ (Err c.in_err-bytes.field-0.0) (c.in_err-bytes.ensures {u = tt}).loads (bytes_plan c.args.counts c.args.name.now c.args.prefix.now))

pub returns : goal.returns
returns g c =
    load_step c.args.name.now 32 _ _ (Ok c.in_ok-bytes.bytes) (c.in_ok-bytes.ensures {u = tt}).loads (bytes_plan c.args.counts c.args.name.now c.args.prefix.now) _ _
    (rw c.as_slice.ensures at (c.deal_in_bytes.ensures (g.F.Files.view c.load.new.files)))
