use Rattle.vd_cmd_laws.proofs.Names.{host_names_fit}
use Rattle.vd_cmd_laws.proofs.cmd_compile_laws.laws.host_names_fit.Goals as goal

pub returns : goal.returns
returns c = host_names_fit
