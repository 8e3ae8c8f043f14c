use Rattle.vd_cmd_data.specs.Printed.{number_in}
use Rattle.vd_cmd_data.proofs.Turns.{Done}
use Rattle.vd_cmd_data.proofs.printed.numbers_in.Given as goal

abbrev pub invariant-loop-word : goal.invariant-loop-word
invariant-loop-word l = Done (λ _ word. number_in l.fn.file word) 1 l.fn.words l.word-index l.numbers
