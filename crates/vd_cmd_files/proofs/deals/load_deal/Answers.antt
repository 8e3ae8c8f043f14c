use Rattle.std.proofs.Common.{ℕ, List, codes, ap, ◌∙◌}
use Rattle.std.proofs.lemmas.Result.{err_from_is_err_and}
use Rattle.vd_cmd_plan.specs.Numbered.{file_name}
use Rattle.vd_base.specs.Limits.{most_deal_bytes}
use Rattle.vd_tape.specs.declared.deal_items.deal.Deal.{Deal}
use Rattle.vd_deal_versions.specs.Plain.{IsDealIn}
use Rattle.vd_cmd_files.proofs.Reading.{deal_err, deal_ok, found}
use Rattle.vd_cmd_files.proofs.deals.load_deal.Goals as goal

pub returns-in_err-bytes-clause-loads : goal.returns-in_err-bytes-clause-loads
returns-in_err-bytes-clause-loads g c = λ outcomes.
    let p = err_from_is_err_and c.from_residual-in_err-bytes.result c.from_residual-in_err-bytes.ensures.1 in
    let named = c.as_str.ensures ∙ c.in_ok-file.ensures {u = tt} ∙ ap (λ (n : ℕ). file_name c.args.prefix.now n (codes ".deal")) c.from.ensures in
    rw (p.1, p.2) (deal_err outcomes c.args.prefix.now c.args.hosts c.args.number c.args.name.now c.as_str.result.now _ _ _ named (c.in_err-bytes.ensures {u = tt}).loads)

pub returns-clause-loads : goal.returns-clause-loads
returns-clause-loads g c = λ outcomes.
    let named = c.as_str.ensures ∙ c.in_ok-file.ensures {u = tt} ∙ ap (λ (n : ℕ). file_name c.args.prefix.now n (codes ".deal")) c.from.ensures in
    deal_ok outcomes c.args.prefix.now c.args.hosts c.args.number c.args.name.now c.as_str.result.now c.in_ok-bytes.bytes c.as_slice.result.now _ _ _ named (c.in_ok-bytes.ensures {u = tt}).loads c.as_slice.ensures
    (c.deal_in.ensures.reads outcomes)

pub returns-clause-given : goal.returns-clause-given
returns-clause-given g c =
    let named = c.as_str.ensures ∙ c.in_ok-file.ensures {u = tt} ∙ ap (λ (n : ℕ). file_name c.args.prefix.now n (codes ".deal")) c.from.ensures in
    found (file_name c.args.prefix.now c.args.number (codes ".deal")) c.as_str.result.now most_deal_bytes _ _ c.in_ok-bytes.bytes c.as_slice.result.now c.deal_in.result
    (λ (bytes : List ℕ) (deal : Deal). IsDealIn c.args.hosts c.args.number bytes deal) named (c.in_ok-bytes.ensures {u = tt}).loads c.as_slice.ensures c.deal_in.ensures.given
