use Rattle.std.proofs.lemmas.Result.{err_from_is_err_and}
use Rattle.vd_cmd_host.proofs.Loadings.{all_loaded, plain_deal, no_addresses_are, no_deal, no_inputs, no_program}
use Rattle.vd_cmd_host.proofs.loading.load_host.Goals as goal

pub returns-in_err-program-clause-loads : goal.returns-in_err-program-clause-loads
returns-in_err-program-clause-loads g c =
    let p = err_from_is_err_and c.from_residual.result c.from_residual.ensures.1 in
    rw (p.1, p.2) (no_program c.args.words.now _ _ _ (c.in_err-program.ensures {u = tt}).loads)

pub returns-in_err-expect_addresses-clause-loads : goal.returns-in_err-expect_addresses-clause-loads
returns-in_err-expect_addresses-clause-loads g c =
    let p = err_from_is_err_and c.from_residual-in_err-expect_addresses.result c.from_residual-in_err-expect_addresses.ensures.1 in
    rw (p.1, p.2) (no_addresses_are c.args.words.now _ _ c.in_ok-program.program (c.in_ok-program.ensures {u = tt}).loads _ ((c.in_err-expect_addresses.ensures {u = tt}).err))

pub returns-in_err-inputs-clause-loads : goal.returns-in_err-inputs-clause-loads
returns-in_err-inputs-clause-loads g c =
    let p = err_from_is_err_and c.from_residual-in_err-inputs.result c.from_residual-in_err-inputs.ensures.1 in
    rw (p.1, p.2) (no_inputs c.args.words.now _ _ c.in_ok-program.program (c.in_ok-program.ensures {u = tt}).loads (c.in_ok-expect_addresses.ensures {u = tt}).ok _ _ (c.in_err-inputs.ensures {u = tt}))

pub returns-in_err-dealt-clause-loads : goal.returns-in_err-dealt-clause-loads
returns-in_err-dealt-clause-loads g c =
    let p = err_from_is_err_and c.from_residual-in_err-dealt.result c.from_residual-in_err-dealt.ensures.1 in
    rw (p.1, p.2)
    (no_deal c.args.words.now _ _ c.in_ok-program.program (c.in_ok-program.ensures {u = tt}).loads (c.in_ok-expect_addresses.ensures {u = tt}).ok _ c.in_ok-inputs.inputs (c.in_ok-inputs.ensures {u = tt}) _ _
    (c.in_err-dealt.ensures {u = tt}).loads)

pub returns-clause-loads : goal.returns-clause-loads
returns-clause-loads g c =
    all_loaded c.args.words.now _ _ c.in_ok-program.program (c.in_ok-program.ensures {u = tt}).loads (c.in_ok-expect_addresses.ensures {u = tt}).ok _ c.in_ok-inputs.inputs (c.in_ok-inputs.ensures {u = tt}) _ c.in_ok-dealt.dealt
    (c.in_ok-dealt.ensures {u = tt}).loads

pub returns-clause-loaded : goal.returns-clause-loaded
returns-clause-loaded g c = record { program = (c.in_ok-program.ensures {u = tt}).read; addresses = (c.in_ok-expect_addresses.ensures {u = tt}).ok; deal = plain_deal _ _ c.in_ok-dealt.dealt (c.in_ok-dealt.ensures {u = tt}).dealt; dealt = (c.in_ok-dealt.ensures {u = tt}).dealt }
