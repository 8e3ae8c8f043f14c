use Rattle.std.proofs.lemmas.Result.{err_from_is_err_and}
use Rattle.vd_cmd_host.specs.Loading.{AllRead, NoDeal, NoInputs, NoProgram}
use Rattle.vd_cmd_host.proofs.loading.load_files.Goals as goal

pub returns-in_err-program-clause-loads : goal.returns-in_err-program-clause-loads
returns-in_err-program-clause-loads g c =
    let p = err_from_is_err_and c.from_residual.result c.from_residual.ensures.1 in
    rw (p.1, p.2) (NoProgram _ (c.in_err-program.ensures {u = tt}).loads)

pub returns-in_err-inputs-clause-loads : goal.returns-in_err-inputs-clause-loads
returns-in_err-inputs-clause-loads g c =
    let p = err_from_is_err_and c.from_residual-in_err-inputs.result c.from_residual-in_err-inputs.ensures.1 in
    rw (p.1, p.2) (NoInputs _ c.in_ok-program.program _ (c.in_ok-program.ensures {u = tt}).loads (c.in_err-inputs.ensures {u = tt}))

pub returns-in_err-dealt-clause-loads : goal.returns-in_err-dealt-clause-loads
returns-in_err-dealt-clause-loads g c =
    let p = err_from_is_err_and c.from_residual-in_err-dealt.result c.from_residual-in_err-dealt.ensures.1 in
    rw (p.1, p.2)
    (NoDeal _ _ c.in_ok-program.program c.in_ok-inputs.inputs _ (c.in_ok-program.ensures {u = tt}).loads (c.in_ok-inputs.ensures {u = tt})
    (c.in_err-dealt.ensures {u = tt}).loads)

pub returns-clause-loads : goal.returns-clause-loads
returns-clause-loads g c =
    AllRead _ _ c.in_ok-program.program c.in_ok-inputs.inputs c.in_ok-dealt.dealt (c.in_ok-program.ensures {u = tt}).loads (c.in_ok-inputs.ensures {u = tt})
    (c.in_ok-dealt.ensures {u = tt}).loads

pub returns-clause-heading : goal.returns-clause-heading
returns-clause-heading g c = (c.in_ok-program.ensures {u = tt}).read.heading

pub returns-clause-code : goal.returns-clause-code
returns-clause-code g c = (c.in_ok-program.ensures {u = tt}).read.code
