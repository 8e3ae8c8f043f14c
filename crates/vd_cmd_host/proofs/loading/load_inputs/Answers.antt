use Rattle.std.proofs.Common.{ℕ, List}
use Rattle.std.proofs.lemmas.Result.{err_from_is_err_and}
use Rattle.vd_base.specs.Limits.{most_inputs_bytes}
use Rattle.vd_cmd_host.specs.Loading.{AreInputsOf, IsInputsEnd}
use Rattle.vd_cmd_host.proofs.Files.{not_fetched}
use Rattle.vd_cmd_host.proofs.Loadings.{inputs_file, no_inputs_file}
use Rattle.vd_cmd_host.proofs.loading.load_inputs.Goals as goal

pub returns-in_err-bytes : goal.returns-in_err-bytes
returns-in_err-bytes g c =
    let p = err_from_is_err_and c.from_residual.result c.from_residual.ensures.1 in
    rw (p.1, p.2) (not_fetched {T = List ℕ} c.args.name.now most_inputs_bytes (AreInputsOf c.args.program.now.hosts c.args.program.now.me.0) (IsInputsEnd c.args.program.now.hosts) _ _ _ (rw c.as_str.ensures at (c.in_err-bytes.ensures {u = tt}).loads))

pub returns-in_err-inputs : goal.returns-in_err-inputs
returns-in_err-inputs g c =
    let p = err_from_is_err_and c.from_residual-in_err-inputs.result c.from_residual-in_err-inputs.ensures.1 in
    rw (p.1, p.2)
    (no_inputs_file c.args.name.now c.args.program.now _ _ c.in_ok-bytes.bytes c.as_slice.result.now _ (rw c.as_str.ensures at (c.in_ok-bytes.ensures {u = tt}).loads) c.as_slice.ensures ((c.in_err-inputs.ensures {u = tt}).refused))

pub returns : goal.returns
returns g c =
    inputs_file c.args.name.now c.args.program.now _ _ c.in_ok-bytes.bytes c.as_slice.result.now c.in_ok-inputs.inputs c.words_at.result (rw c.as_str.ensures at (c.in_ok-bytes.ensures {u = tt}).loads) c.as_slice.ensures
    ((c.in_ok-inputs.ensures {u = tt}).given) c.words_at.ensures
