use Rattle.std.proofs.Common.{◌≡◌, true, bytes_eq, sym, ◌∙◌, arith}
use Rattle.std.proofs.lemmas.Grind.{common_steps}
use Rattle.vd_fakes.proofs.Places.{first_at, rest_at}
use Rattle.vd_fakes.proofs.waiting.place_at.Goals as goal

pub returns-then-eq-clause-link : goal.returns-then-eq-clause-link
returns-then-eq-clause-link g c =
    let here : bytes_eq c.index-waiting-place.result.0 c.args.address.now ≡ true = grind (arith, common_steps) in
    sym c.loop-place.invariant.link
    ∙ first_at c.args.address.now c.args.waiting.now c.loop-place.place c.index-waiting-place.result c.loop-place-test.true c.index-waiting-place.is here

pub returns-then-eq-clause-rest : goal.returns-then-eq-clause-rest
returns-then-eq-clause-rest g c =
    let here : bytes_eq c.index-waiting-place.result.0 c.args.address.now ≡ true = grind (arith, common_steps) in
    (c.loop-place-test.true, rest_at c.args.address.now c.args.waiting.now c.loop-place.place c.index-waiting-place.result c.loop-place-test.true c.index-waiting-place.is here c.loop-place.invariant.rest)
