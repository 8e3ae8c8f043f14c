use Rattle.std.proofs.Common.{arith}
use Rattle.std.proofs.lemmas.Result.{err_from_is_err_and}
use Rattle.vd_cmd_data.specs.Printed.{number_in}
use Rattle.vd_cmd_data.proofs.Turns.{one_refused}
use Rattle.vd_cmd_data.proofs.printed.numbers_in.Goals as goal

pub returns-in_err-found : goal.returns-in_err-found
returns-in_err-found c =
    let p = err_from_is_err_and c.from_residual.result c.from_residual.ensures.1 in
    let more = c.loop-word-test.true in
    rw (p.1, p.2) (one_refused (λ _ word. number_in c.args.file.now word) 1 c.args.words.now c.loop-word.word-index c.loop-word.numbers c.word-item.result c.in_err-found.field-0.0 (omega (arith, more)) c.word-item.is c.loop-word.invariant (c.in_err-found.ensures {u = tt}).err)
