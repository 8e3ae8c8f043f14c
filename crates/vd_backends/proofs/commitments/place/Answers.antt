use Rattle.vd_backends.proofs.Places.{place_some, place_none}
use Rattle.vd_backends.proofs.commitments.place.Goals as goal

pub returns-in-Some : goal.returns-in-Some
returns-in-Some c =
    let lookup = c.in-Some.ensures.lookup in
    place_some c.args.x.now c.as_slice.result.now c.as_slice.ensures c.args.at c.in-Some.part.now lookup.0 lookup.1

pub returns-in-None : goal.returns-in-None
returns-in-None c = place_none c.args.x.now c.as_slice.result.now c.as_slice.ensures c.args.at c.in-None.ensures.lookup.3
