-- What a selection of protocols comes to.
use Rattle.std.specs.Prelude.{◌≡◌, ℕ, ◌≤◌, true, Some, None, Ok, List, [], pos, ◌≤ℤ◌}
use Rattle.vd_search_tree.specs.declared.search_certificate.certificate.Certificate.{Certificate}
use Rattle.vd_search_tree.specs.declared.search_certificate.certificate.Mark.{Mark}
use Rattle.vd_search_tree.specs.Texts.{IsCertificate}
use Rattle.vd_bound.specs.declared.checking.Proved.{Proved}
use Rattle.vd_bound.specs.Marks.{count_of, is_expanded}
use Rattle.vd_search_tree.specs.Trees.{IsWhole}
use Rattle.vd_search_tree.specs.declared.shift.Shift.{Shift}
use Rattle.vd_search.specs.Answers.{Exceeds}
use Rattle.vd_space.specs.declared.problem.Problem.{Problem}
use Rattle.vd_space.specs.Costs.{cost}
use Rattle.vd_space.specs.Spaces.{tree_of}
use Rattle.vd_search_stages.specs.Choices.{IsChosen}
use Rattle.vd_search_stages.specs.Confirming.{confirmed}
use Rattle.vd_search_stages.specs.declared.selecting.Selection.{Selection}
use Rattle.vd_search_stages.specs.declared.selecting.Selection.TheVariants.{Found, NoAssignment}

-- the checker accepts it, it has a text, and it opens at most so many prefixes
pub record IsAccepted (problem : Problem) (budget : ℕ) (c : Certificate) : Type 0 where
  pub proved : Proved
  pub accepted : confirmed problem c ≡ Ok proved
  pub has_text : IsCertificate c
  pub within : count_of is_expanded c.marks ≤ budget

-- the certificate that says that no list is valid, in the third form
abbrev pub refuted : List Mark → Certificate
refuted marks = record { cost = None; by_arcs = true; shifts = []; marks = marks }

-- the choice with its cost, or that there is none; and a certificate of that
abbrev pub Selects : Problem → ℕ → Selection → Type 0
Selects problem budget (Found list least c) =
    IsChosen problem (Some list) × (cost problem list ≡ pos least) × IsAccepted problem budget c × (c.cost ≡ Some least)
Selects problem budget (NoAssignment c) = IsChosen problem None × IsAccepted problem budget c × (c ≡ refuted c.marks)

-- under these shifts, more prefixes are within the least cost than the budget has, or are valid where no list is
abbrev pub IsOver : Problem → List Shift → ℕ → Type 0
IsOver problem shifts budget = Exceeds (tree_of problem shifts) budget

-- each valid list costs at least that
abbrev pub CostsAtLeast : Problem → ℕ → Type 0
CostsAtLeast problem floor = (list : List ℕ) → IsWhole (tree_of problem []) list → pos floor ≤ℤ cost problem list
