use Rattle.std.proofs.Common.{length, refl}
use Rattle.vd_lsp.proofs.Rounds.{goes_on, none_of, shorter, stops_at, stops_here}
use Rattle.vd_lsp.proofs.serving.answer_stream.Goals as goal

pub frames-smaller : goal.frames-smaller
frames-smaller c = shorter c.frames.left.now c.in-Whole.body.now c.in-Whole.rest.now c.in-Whole.ensures.0

pub frames-preserved : goal.frames-preserved
frames-preserved c =
    goes_on c.args.server c.args.came.now c.frames.left.now c.args.out.now c.frames.out c.answer_body.new.out c.frames.server c.in_ok-answered.answered.server c.in_ok-answered.answered.ends
    c.in-Whole.body.now c.in-Whole.rest.now c.frames.invariant c.in-Whole.ensures.0 c.in_ok-answered.ensures (none_of c.in_ok-answered.answered.ends c.in_default-ends.not-Some)

pub returns : goal.returns
returns c =
    stops_here c.args.server c.args.came.now c.frames.left.now c.args.out.now c.frames.out c.frames.server
    (record { server = c.frames.server; stop = c.stop_at-stop.result; left = length c.frames.left.now }) c.frames.invariant
    (stops_at c.frames.server c.frames.left.now c.frames.out (record { server = c.frames.server; stop = c.stop_at-stop.result; left = length c.frames.left.now }) c.next_frame.result c.next_frame-2.result
    c.stop_at-stop.result c.in_default.not-Whole c.next_frame.ensures c.next_frame-2.ensures c.stop_at-stop.ensures refl refl)
