use Rattle.vd_world.proofs.Loaded.{loads_of}
use Rattle.vd_world.proofs.world_report.loading.load.Goals as goal

pub returns : goal.returns
returns c = loads_of c.args.code c.args.words c.args.deal _ c.load.ensures.pending c.load.ensures.inputs c.load.ensures.deal
