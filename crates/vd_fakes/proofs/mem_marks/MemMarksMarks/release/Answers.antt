use Rattle.std.proofs.Common.{◌∙◌}
use Rattle.vd_fakes.proofs.Freed.{released}
use Rattle.vd_fakes.proofs.mem_marks.MemMarksMarks.release.Goals as goal

pub returns-in-Ok-clause-releases : goal.returns-in-Ok-clause-releases
returns-in-Ok-clause-releases c =
    let so = c.in-Ok.ensures {u = tt} in
    released c.args.beside.now c.args.name.now c.args.self.now c.free.new.self (so.counts ∙ c.next_fails-fails.ensures.counted) so.draws so.asked so.free
