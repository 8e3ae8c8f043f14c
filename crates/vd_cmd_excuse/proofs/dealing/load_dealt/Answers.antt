use Rattle.std.proofs.Common.{ℕ, List, codes, ap, ◌∙◌}
use Rattle.std.proofs.lemmas.Result.{err_from_is_err_and}
use Rattle.vd_cmd_plan.specs.Numbered.{file_name}
use Rattle.vd_base.specs.Limits.{most_deal_bytes}
use Rattle.vd_deal_versions.specs.declared.dealt.Dealt.{Dealt}
use Rattle.vd_deal_versions.specs.Text.{IsDealtFile}
use Rattle.vd_cmd_excuse.proofs.OneDeal.{dealt_err, dealt_ok, found}
use Rattle.vd_cmd_excuse.proofs.dealing.load_dealt.Goals as goal

pub returns-in_err-bytes-clause-loads : goal.returns-in_err-bytes-clause-loads
returns-in_err-bytes-clause-loads g c =
    let p = err_from_is_err_and c.from_residual-in_err-bytes.result c.from_residual-in_err-bytes.ensures.1 in
    let named = c.as_str.ensures ∙ c.in_ok-file.ensures {u = tt} ∙ ap (λ (n : ℕ). file_name c.args.prefix.now n (codes ".deal")) c.from.ensures in
    rw (p.1, p.2) (dealt_err c.args.prefix.now c.args.hosts c.args.number c.args.name.now c.as_str.result.now _ _ _ named (c.in_err-bytes.ensures {u = tt}).loads)

pub returns-clause-loads : goal.returns-clause-loads
returns-clause-loads g c =
    let named = c.as_str.ensures ∙ c.in_ok-file.ensures {u = tt} ∙ ap (λ (n : ℕ). file_name c.args.prefix.now n (codes ".deal")) c.from.ensures in
    dealt_ok c.args.prefix.now c.args.hosts c.args.number c.args.name.now c.as_str.result.now c.in_ok-bytes.bytes c.as_slice.result.now _ _ _ named (c.in_ok-bytes.ensures {u = tt}).loads c.as_slice.ensures
    c.dealt_in.ensures.reads

pub returns-clause-given : goal.returns-clause-given
returns-clause-given g c =
    let named = c.as_str.ensures ∙ c.in_ok-file.ensures {u = tt} ∙ ap (λ (n : ℕ). file_name c.args.prefix.now n (codes ".deal")) c.from.ensures in
    found (file_name c.args.prefix.now c.args.number (codes ".deal")) c.as_str.result.now most_deal_bytes _ _ c.in_ok-bytes.bytes c.as_slice.result.now c.dealt_in.result
    (λ (bytes : List ℕ) (dealt : Dealt). IsDealtFile c.args.hosts c.args.number bytes dealt) named (c.in_ok-bytes.ensures {u = tt}).loads c.as_slice.ensures c.dealt_in.ensures.given
