use Rattle.std.proofs.lemmas.Result.{err_from_is_err_and}
use Rattle.vd_base.specs.Limits.{most_host_file_bytes}
use Rattle.vd_hostcode.specs.declared.host_text.program.HostProgram.{HostProgram}
use Rattle.vd_cmd_plan.specs.Programs.{IsProgramEnd}
use Rattle.vd_cmd_host.specs.Loading.{IsProgramOf}
use Rattle.vd_cmd_host.proofs.Files.{not_fetched}
use Rattle.vd_cmd_host.proofs.Loadings.{program_file, program_is_read}
use Rattle.vd_cmd_host.proofs.loading.load_program.Goals as goal

pub returns-in_err-bytes-clause-loads : goal.returns-in_err-bytes-clause-loads
returns-in_err-bytes-clause-loads g c =
    let p = err_from_is_err_and c.from_residual.result c.from_residual.ensures.1 in
    rw (p.1, p.2) (not_fetched {T = HostProgram} c.args.name.now most_host_file_bytes IsProgramOf IsProgramEnd _ _ _ (rw c.as_str.ensures at (c.in_err-bytes.ensures {u = tt}).loads))

pub returns-clause-loads : goal.returns-clause-loads
returns-clause-loads g c =
    program_file c.args.name.now _ _ c.in_ok-bytes.bytes c.as_slice.result.now c.program_in.result (rw c.as_str.ensures at (c.in_ok-bytes.ensures {u = tt}).loads) c.as_slice.ensures c.program_in.ensures.given c.program_in.ensures.refused

pub returns-clause-read : goal.returns-clause-read
returns-clause-read g c = program_is_read c.as_slice.result.now c.program_in.result c.program_in.ensures.given c.program_in.ensures.heading c.program_in.ensures.code
