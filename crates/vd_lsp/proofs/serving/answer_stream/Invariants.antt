use Rattle.std.proofs.Common.{length}
use Rattle.vd_lsp.proofs.Rounds.{Reaches}
use Rattle.vd_lsp.proofs.serving.answer_stream.Given as goal

-- the messages so far were answered
abbrev pub invariant-frames : goal.invariant-frames
invariant-frames l = Reaches l.initial.server l.came l.left l.initial.out l.out l.server

abbrev pub decreases-frames : goal.decreases-frames
decreases-frames l = length l.left
