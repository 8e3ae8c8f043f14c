-- The command `deal`.
use Rattle.std.specs.Prelude.{ℕ, List, [], map, codes}
use Rattle.vd_outside.specs.Files.{Contents}
use Rattle.vd_outside.specs.declared.stored.Stored.{Stored}
use Rattle.vd_tape.specs.declared.deal_items.deal.Deal.{Deal}
use Rattle.vd_tape.specs.declared.deal_items.deal.Counts.{Counts}
use Rattle.vd_tape.specs.Text.{deal_text}
use Rattle.vd_tape.specs.Made.{made_deals}
use Rattle.vd_cmd_plan.specs.Numbered.{numbered}
use Rattle.vd_cmd_plan.specs.Plans.{Plan, answer_then, ended}
use Rattle.vd_cmd_plan.specs.declared.answer.Answer.{Answer}

-- a file for each host, with the text of its deal
abbrev pub deal_files : List ℕ → List Deal → List Stored
deal_files prefix deals = numbered prefix (codes ".deal") 0 (map deal_text deals)

-- what it comes to: it prints nothing
abbrev pub deal_answer : Counts → ℕ → List ℕ → Answer
deal_answer counts key prefix = ended (deal_files prefix (made_deals counts key)) []

-- it reads nothing
abbrev pub deal_plan : Counts → ℕ → List ℕ → Contents → Plan
deal_plan counts key prefix = answer_then (deal_answer counts key prefix)
