use Rattle.std.proofs.Common.{Ok, Err, refl}
use Rattle.vd_hostcode.specs.declared.fault.CodeFault.TheVariants.{Text, Range}
use Rattle.vd_cmd_plan.proofs.Reading.{program_read}
use Rattle.vd_cmd_plan.proofs.cmd_programs.program.program_in.Goals as goal

pub returns-in-Ok-clause-checks : goal.returns-in-Ok-clause-checks
returns-in-Ok-clause-checks c = λ outcomes. record { ok = program_read outcomes c.args.bytes.now (Ok c.in-Ok.program) c.in-Ok.ensures.answer (λ e. cc e); err = tt }

pub returns-in-Err-Text-clause-checks : goal.returns-in-Err-Text-clause-checks
returns-in-Err-Text-clause-checks c = λ outcomes.
    record { ok = tt; err = (tt, program_read outcomes c.args.bytes.now (Err (Text c.in-Err-Text.offset)) (rw c.in-Err-Text.field-0-is at c.in-Err-Text.ensures.answer) (λ e. cc e)) }

pub returns-in-Err-Range-clause-checks : goal.returns-in-Err-Range-clause-checks
returns-in-Err-Range-clause-checks c = λ outcomes.
    record { ok = tt; err = (tt, program_read outcomes c.args.bytes.now (Err (Range c.in-Err-Range.number)) (rw c.in-Err-Range.field-0-is at c.in-Err-Range.ensures.answer) (λ e. cc e)) }

pub returns-in-Ok-clause-given : goal.returns-in-Ok-clause-given
returns-in-Ok-clause-given c = (c.in-Ok.ensures.answer (λ e. cc e) (Ok c.in-Ok.program)).0 refl

pub returns-in-Err-Text-clause-refused : goal.returns-in-Err-Text-clause-refused
returns-in-Err-Text-clause-refused c =
    let answer = rw c.in-Err-Text.field-0-is at c.in-Err-Text.ensures.answer in
    (answer (λ e. cc e) (Err (Text c.in-Err-Text.offset))).0 refl

pub returns-in-Err-Range-clause-refused : goal.returns-in-Err-Range-clause-refused
returns-in-Err-Range-clause-refused c =
    let answer = rw c.in-Err-Range.field-0-is at c.in-Err-Range.ensures.answer in
    (answer (λ e. cc e) (Err (Range c.in-Err-Range.number))).0 refl
