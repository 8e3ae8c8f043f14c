use Rattle.std.proofs.lemmas.Result.{err_from_is_err_and}
use Rattle.vd_base_codec.specs.Reading.{literal_at}
use Rattle.vd_base_codec.proofs.Steps.{literal_failed, literal_next, literal_done}
use Rattle.vd_base_codec.proofs.cursor.Cursor.literal.Goals as goal

pub returns-in_err-byte : goal.returns-in_err-byte
returns-in_err-byte c =
    let p = err_from_is_err_and c.from_residual.result c.from_residual.ensures.1 in
    rw p.1 (literal_failed c.args.word.now c.loop-byte.byte-index c.loop-byte.self c.byte.new.self (literal_at c.args.word.now c.args.self.now) c.loop-byte-test.true c.in_err-byte.ensures c.loop-byte.invariant)

pub loop-byte-preserved : goal.loop-byte-preserved
loop-byte-preserved c =
    literal_next c.args.word.now c.loop-byte.byte-index c.loop-byte.self c.byte.new.self c.in_ok-byte.field-0 (literal_at c.args.word.now c.args.self.now) c.loop-byte-test.true c.in_ok-byte.ensures c.loop-byte.invariant

pub returns : goal.returns
returns c = literal_done c.args.word.now c.loop-byte.byte-index c.loop-byte.self (literal_at c.args.word.now c.args.self.now) c.loop-byte-test.false c.loop-byte.invariant
