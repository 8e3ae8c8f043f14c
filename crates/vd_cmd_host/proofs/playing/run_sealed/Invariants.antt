use Rattle.vd_channel_link.specs.Outgoing.{sealer_in}
use Rattle.vd_cmd_host.proofs.playing.run_sealed.Given as goal

abbrev pub ghosts-run_over : goal.ghosts-run_over
ghosts-run_over g a = record { by = sealer_in a.net.now.seal; start = g.N.Net.view a.net.now.net; held = a.net.ghost_name }
