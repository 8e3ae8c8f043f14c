use Rattle.vd_cmd_host.proofs.Ends.{ran_plainly}
use Rattle.vd_cmd_host.proofs.playing.run_plain.Goals as goal

pub returns-clause-runs : goal.returns-clause-runs
returns-clause-runs g c = λ before now loads.
    rw c.status_after.ensures
    (ran_plainly c.args.words.now c.args.loaded before now _ _ _ _ c.run_loaded-ran.result loads c.requires.loaded c.requires.plain c.run_loaded-ran.ensures)
