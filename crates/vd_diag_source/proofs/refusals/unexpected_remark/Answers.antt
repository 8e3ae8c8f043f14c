use Rattle.std.proofs.Common.{arith}
use Rattle.vd_diag_source.proofs.Found.{no_bad}
use Rattle.vd_diag_source.proofs.refusals.unexpected_remark.Goals as goal

pub returns-then-length-most : goal.returns-then-length-most
returns-then-length-most c = λ is. let short = is.short in let long = c.if-length-most.true in absurd (omega (arith, short, long))

pub returns-in-Err-BadByte : goal.returns-in-Err-BadByte
returns-in-Err-BadByte c = no_bad c.args.bytes.now c.in-Err-BadByte.field-0 c.in-Err-BadByte.field-0-0 c.args.number c.args.offset c.in-Err-BadByte.field-0-is (c.in-Err-BadByte.ensures {u = tt}).bad
