use Rattle.std.proofs.Common.{length}
use Rattle.std.proofs.lemmas.Result.{err_from_is_err_and}
use Rattle.vd_base.specs.Limits.{most_deal_bytes}
use Rattle.vd_deal_versions.specs.declared.dealt.Dealt.{Dealt}
use Rattle.vd_deal_versions.specs.Text.{IsDealtFile}
use Rattle.vd_cmd_host.specs.Loading.{IsDealEnd}
use Rattle.vd_cmd_host.proofs.Files.{not_fetched}
use Rattle.vd_cmd_host.proofs.Loadings.{deal_file}
use Rattle.vd_cmd_host.proofs.loading.load_deal.Goals as goal

pub returns-in_err-bytes-clause-loads : goal.returns-in_err-bytes-clause-loads
returns-in_err-bytes-clause-loads g c =
    let p = err_from_is_err_and c.from_residual.result c.from_residual.ensures.1 in
    rw (p.1, p.2)
    (not_fetched {T = Dealt} c.args.name.now most_deal_bytes (IsDealtFile (length c.args.program.now.hosts) c.args.program.now.me.0) (IsDealEnd c.args.program.now.hosts c.args.program.now.me.0) _ _ _
    (rw c.as_str.ensures at (c.in_err-bytes.ensures {u = tt}).loads))

pub returns-clause-loads : goal.returns-clause-loads
returns-clause-loads g c =
    deal_file c.args.name.now c.args.program.now _ _ c.in_ok-bytes.bytes c.as_slice.result.now c.deal_in.result (rw c.as_str.ensures at (c.in_ok-bytes.ensures {u = tt}).loads) c.as_slice.ensures c.deal_in.ensures.given c.deal_in.ensures.refused
