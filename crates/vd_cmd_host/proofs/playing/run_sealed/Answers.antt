use Rattle.vd_cmd_host.proofs.Sealing.{begins_sealed}
use Rattle.vd_cmd_host.proofs.playing.run_sealed.Goals as goal

pub run_over-net-requires-clause-sealed : goal.run_over-net-requires-clause-sealed
run_over-net-requires-clause-sealed g c = ∣ begins_sealed c.args.loaded c.args._claimed.now.seed c.args.net.now.seal (g.N.Net.view c.args.net.now.net) c.requires.sealed ∣₁
