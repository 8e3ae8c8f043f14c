use Rattle.std.proofs.Common.{◌≡◌, ◌∙◌, sym, ℕ, List}
use Rattle.std.proofs.lemmas.Result.{IfOk-weaker}
use Rattle.vd_diag.specs.Files.{spent_sentence}
use Rattle.vd_diag_terminal.specs.Spent.{TellsSearch, search_sentence}
use Rattle.vd_diag_terminal.proofs.Searched.{bounded, left_out}
use Rattle.vd_diag_terminal.proofs.diag_choice.spent.search_sentence.Goals as goal

pub returns-then-prefix_valid : goal.returns-then-prefix_valid
returns-then-prefix_valid c =
    IfOk-weaker c.bounded_sentence.result (λ (text : List ℕ). text ≡ search_sentence c.args.budget c.lower_bound.result) (TellsSearch c.args.space.now c.args.budget)
    (λ text is. bounded c.args.space.now c.args.budget text c.lower_bound.result (sym c.if-prefix_valid.true ∙ c.prefix_valid.ensures) c.lower_bound.ensures is) c.bounded_sentence.ensures

pub returns-else-prefix_valid : goal.returns-else-prefix_valid
returns-else-prefix_valid c =
    IfOk-weaker c.spent_sentence.result (λ (text : List ℕ). text ≡ spent_sentence c.args.budget) (TellsSearch c.args.space.now c.args.budget)
    (λ text is. left_out c.args.space.now c.args.budget text (sym c.if-prefix_valid.false ∙ c.prefix_valid.ensures) is) c.spent_sentence.ensures
