use Rattle.vd_cmd_laws.proofs.Texts.{compiled_files_can_be_read}
use Rattle.vd_cmd_laws.proofs.cmd_compile_laws.laws.compiled_files_can_be_read.Goals as goal

pub returns : goal.returns
returns c = compiled_files_can_be_read c.args.program.now c.form-form.ensures.well_made c.form-form.ensures.fit
