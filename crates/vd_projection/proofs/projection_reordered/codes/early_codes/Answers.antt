use Rattle.vd_projection.proofs.Early.{each_comes_early}
use Rattle.vd_projection.proofs.projection_reordered.codes.early_codes.Goals as goal

pub returns : goal.returns
returns c =
    each_comes_early c.args.hosts c.args.lines c.in_ok-forward.forward c.in_ok-joined.joined c.as_slice-2.result.now c.in_ok-opened.opened c.as_slice-known.result.now
    (rw c.as_slice.ensures at (c.in_ok-opened.ensures {u = tt})) c.as_slice-known.ensures (c.in_ok-forward.ensures {u = tt}).order (c.in_ok-forward.ensures {u = tt}).code
    (c.in_ok-joined.ensures {u = tt}) c.as_slice-2.ensures c.hastened_codes.result c.hastened_codes.ensures
