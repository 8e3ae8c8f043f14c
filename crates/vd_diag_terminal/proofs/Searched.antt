-- What is said of a search, by whether its empty prefix is valid.
use Rattle.std.proofs.Common.{◌≡◌, ℕ, Bool, true, false, pos, List, [], subst}
use Rattle.vd_space.specs.declared.problem.Problem.{Problem}
use Rattle.vd_space.specs.Bounds.{low}
use Rattle.vd_space.specs.Validity.{is_valid}
use Rattle.vd_diag.specs.Files.{spent_sentence}
use Rattle.vd_diag_terminal.specs.Spent.{search_sentence, TellsBound, TellsSearch}

module _ (problem : Problem) (budget : ℕ) (text : List ℕ) where
  pub left_out : false ≡ is_valid problem [] → text ≡ spent_sentence budget → TellsSearch problem budget text
  left_out never is = subst (λ valid. TellsBound valid problem budget text) never is

  pub bounded : (bound : ℕ) → true ≡ is_valid problem [] → pos bound ≡ low problem [] → text ≡ search_sentence budget bound → TellsSearch problem budget text
  bounded bound valid least is = subst (λ known. TellsBound known problem budget text) valid (bound, least, is)
