use Rattle.std.proofs.Common.{◌∙◌, ◌<◌, List, arith, length, rules, subst}
use Rattle.std.proofs.lemmas.Grind.{common_steps}
use Rattle.vd_channel_link.specs.declared.channel_net.answered.Answered.{Answered}
use Rattle.vd_channel_link.proofs.Turns.{Left, one_left}
use Rattle.vd_channel_link.proofs.Waiting.{taken_out}
use Rattle.vd_channel_link.proofs.channel_net.accepting.hang_up_all.Goals as goal

pub loop-waiting-preserved : goal.loop-waiting-preserved
loop-waiting-preserved g c =
    let start = g.N.Net.view c.args.net.now in
    let before = g.N.Net.view c.loop-waiting.net in
    let rest = c.remove-first.new.self.items in
    let some : 0 < length c.loop-waiting.waiting.items = first_of (search rules, grind (arith, common_steps)) in
    let all = taken_out c.loop-waiting.waiting.items rest c.remove-first.result some c.remove-first.ensures.value c.remove-first.ensures.items in
    record {
      given = c.hang_up.ensures.listeners.given ∙ c.loop-waiting.invariant.given;
      limit = c.hang_up.ensures.limit ∙ c.loop-waiting.invariant.limit;
      left = λ post tried ones are. one_left g.N.Link.Link.view post tried start before (g.N.Net.view c.hang_up.new.self) c.remove-first.result rest ones
          (subst (λ (l : List (Answered g.row.N-Link.Denot)). Left g.N.Link.Link.view post tried start before l ones) all (c.loop-waiting.invariant.left post tried ones are))
          c.hang_up.ensures;
    }
