use Rattle.vd_base.specs.Limits.{most_packet_words}
use Rattle.vd_choreography_reorder.proofs.Stack.{begun, one_read}
use Rattle.vd_choreography_reorder.proofs.choreography_coalescing.joining.join_packets.Goals as goal

pub loop-line-init : goal.loop-line-init
loop-line-init c = begun most_packet_words c.args.lines c.new-stack.result c.new-stack.ensures

pub loop-line-preserved : goal.loop-line-preserved
loop-line-preserved c =
    one_read most_packet_words c.args.lines c.loop-line.left c.pop.new.self c.in-Some.line c.loop-line.stack c.push_line.new.stack c.in-Some.ensures c.in_ok-push_line.ensures c.loop-line.invariant
