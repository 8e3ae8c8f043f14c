use Rattle.std.proofs.Common.{◌∙◌}
use Rattle.vd_diag_source.proofs.Found.{front_begins, front_no_end, front_shallow, tells_known, tells_long}
use Rattle.vd_diag_source.proofs.refusals.sentence_on.Goals as goal

pub following-requires : goal.following-requires
following-requires c = front_no_end c.args.found.now c.args.number c.requires.ended c.requires.within

pub returns-in_ok-sentence-in-Ok : goal.returns-in_ok-sentence-in-Ok
returns-in_ok-sentence-in-Ok c = λ offset refused.
    tells_known c.args.bytes.now c.args.found.now c.args.number _ c.in_ok-sentence-in-Ok.sentence c.as_slice.result.now c.requires.lexes
    (c.as_slice.ensures ∙ (c.in-Ok.ensures {u = tt}).exact (front_begins c.args.found.now c.args.number offset refused) (front_shallow c.args.found.now c.args.number offset refused))
    (c.in_ok-sentence-in-Ok.ensures {u = tt})

pub returns-in_ok-sentence-in-Err-TooLong : goal.returns-in_ok-sentence-in-Err-TooLong
returns-in_ok-sentence-in-Err-TooLong c = λ offset refused.
    tells_long c.args.bytes.now c.args.found.now c.args.number _ c.in_ok-sentence-in-Err-TooLong.sentence c.requires.lexes ((c.in-Err-TooLong.ensures {u = tt}).long c.in-Err-TooLong.field-0-is)
    (c.in_ok-sentence-in-Err-TooLong.ensures {u = tt})
