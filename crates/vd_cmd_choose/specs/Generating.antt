-- The command `gen`.
use Rattle.std.specs.Prelude.{ℕ, []}
use Rattle.vd_outside.specs.Files.{Contents}
use Rattle.vd_gen.specs.Source.{generated}
use Rattle.vd_cmd_plan.specs.Plans.{Plan, answer_then, ended}
use Rattle.vd_cmd_plan.specs.declared.answer.Answer.{Answer}

-- what it comes to
abbrev pub gen_answer : ℕ → Answer
gen_answer coordinates = ended [] (generated coordinates)

-- it reads nothing
abbrev pub gen_plan : ℕ → Contents → Plan
gen_plan coordinates = answer_then (gen_answer coordinates)
