use Rattle.std.proofs.Common.{◌≤◌, List, arith, length, rules, subst}
use Rattle.std.proofs.lemmas.Grind.{common_steps}
use Rattle.vd_channel_link.specs.Courses.{Course}
use Rattle.vd_channel_link.specs.declared.channel_net.answered.Answered.{Answered}
use Rattle.vd_channel_link.proofs.Turns.{made_room}
use Rattle.vd_channel_link.proofs.channel_net.accepting.make_room.Goals as goal

pub returns-in-Some : goal.returns-in-Some
returns-in-Some g c post start turns seal course =
    let last = c.in-Some.last in
    let others = c.pop.new.self.items in
    let all = (c.in-Some.ensures {u = tt}).items in
    let many : 64 ≤ length c.args.waiting.now.items = first_of (search rules, grind (arith, common_steps)) in
    made_room g.N.Link.Link.view post start turns seal (g.N.Net.view c.args.net.now) (g.N.Net.view c.hang_up.new.self) others last
    (subst (λ (l : List (Answered g.row.N-Link.Denot)). Course g.N.Link.Link.view post start turns seal (g.N.Net.view c.args.net.now) l) all course)
    (subst (λ (l : List (Answered g.row.N-Link.Denot)). 64 ≤ length l) all many) c.hang_up.ensures
