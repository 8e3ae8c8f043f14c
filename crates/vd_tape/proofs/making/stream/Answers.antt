use Rattle.vd_tape.proofs.Streams.{seeded}
use Rattle.vd_tape.proofs.making.stream.Goals as goal

pub returns : goal.returns
returns c =
    seeded c.args.key.now c.args.number c.from_seed-generator.result c.set_stream.new.self c.from_seed-generator.ensures c.set_stream.ensures
