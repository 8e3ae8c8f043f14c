use Rattle.vd_world.proofs.Told.{programs_tell, sources_tell}
use Rattle.vd_world.proofs.world_report.laws.sources_tell.Goals as goal

pub returns-clause-programs : goal.returns-clause-programs
returns-clause-programs c = programs_tell

pub returns-clause-sources : goal.returns-clause-sources
returns-clause-sources c = sources_tell
