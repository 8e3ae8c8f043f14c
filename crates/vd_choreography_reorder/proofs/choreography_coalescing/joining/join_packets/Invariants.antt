use Rattle.std.proofs.Common.{◌≡◌, length, reverse}
use Rattle.vd_base.specs.Limits.{most_packet_words}
use Rattle.vd_choreography_reorder.specs.Joining.{joined_lines}
use Rattle.vd_choreography_reorder.proofs.Stack.{onto}
use Rattle.vd_choreography_reorder.proofs.choreography_coalescing.joining.join_packets.Given as goal

abbrev pub invariant-loop-line : goal.invariant-loop-line
invariant-loop-line l = onto most_packet_words l.left (reverse l.stack) ≡ joined_lines most_packet_words l.fn.lines

abbrev pub decreases-loop-line : goal.decreases-loop-line
decreases-loop-line l = length l.left
