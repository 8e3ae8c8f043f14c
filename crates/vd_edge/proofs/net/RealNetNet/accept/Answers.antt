use Rattle.std.proofs.Common.{◌≡◌, ◌∙◌, sym, subst}
use Rattle.std.proofs.lemmas.Option.{get_or_from_slice_get}
use Rattle.vd_edge.proofs.net.RealNetNet.accept.Goals as goal

pub returns-in-Ok-clause-came : goal.returns-in-Ok-clause-came
returns-in-Ok-clause-came g c asked at =
    let place = c.index_mut-place in
    let one : place.result.now ≡ asked = place.ensures.value ∙ get_or_from_slice_get c.args.self.now.listeners.items c.args.listener asked place.result.now at in
    let came : g.N.Sockets.came_to c.in-Ok.stream asked = subst (λ listener. g.N.Sockets.came_to c.in-Ok.stream listener) one c.in-Ok.ensures.came in
    subst (λ stream. g.N.Sockets.came_to stream asked) (sym c.new.ensures.stream) came

pub returns-in-Ok-clause-greets : goal.returns-in-Ok-clause-greets
returns-in-Ok-clause-greets g c = subst (λ stream. g.N.Sockets.greets stream c.args.greeting.now) (sym c.new.ensures.stream) c.in-Ok.ensures.greets
