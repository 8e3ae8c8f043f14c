-- What a search for protocols may answer.
use Rattle.std.specs.Prelude.{ℕ, ◌&&◌, nat_le, nat_lt, Bool, false, if◌then◌else◌, is_ok, List, [], Result, Ok, Err}
use Rattle.vd_search_tree.specs.declared.search_certificate.certificate.Certificate.{Certificate}
use Rattle.vd_bound.specs.Marks.{count_of, is_expanded}
use Rattle.vd_space.specs.declared.problem.Problem.{Problem}
use Rattle.vd_search_stages.specs.Choices.{ChoiceOutcomes, needed}
use Rattle.vd_search_stages.specs.Confirming.{confirmed}
use Rattle.vd_search_stages.specs.SoFar.{has_own_form}
use Rattle.vd_search.specs.declared.writing.SearchFault.{SearchFault}
use Rattle.vd_search.specs.declared.writing.SearchFault.TheVariants.{Memory, Spent}
use Rattle.vd_cmd_choice.specs.Outcomes.{CertificateOutcomes}

-- What the rules leave to the search: whether its budget is spent, and which certificate it stores.
pub data Searched : Type 0 where
  GaveUp : Searched
  Certified : List ℕ → Searched

-- the checker accepts the certificate that a file is, it opens no more prefixes than the budget has, and has its own form
abbrev pub is_accepted : Problem → ℕ → Result Certificate ℕ → Bool
is_accepted problem budget (Ok certificate) =
    is_ok (confirmed problem certificate) && nat_le (count_of is_expanded certificate.marks) budget && has_own_form problem certificate
is_accepted problem budget (Err offset) = false

-- The bytes of the certificate of a problem, or why the search gives up: that its budget is spent comes only where the
-- budget may not do. What a search may not answer counts as running out of memory, so no run but one that is out of memory
-- comes to it.
abbrev pub searched_by : CertificateOutcomes → ChoiceOutcomes → Searched → Problem → ℕ → Result (List ℕ) SearchFault
searched_by certificates choices GaveUp problem budget =
    if nat_lt budget (needed problem (choices.choose problem)) then Err Spent else Err Memory
searched_by certificates choices (Certified bytes) problem budget =
    if is_accepted problem budget (certificates.read bytes) then Ok bytes else Err Memory

-- a search that gives up wherever it may
abbrev pub sure_search : ChoiceOutcomes → Problem → ℕ → Result (List ℕ) SearchFault
sure_search choices problem budget = if nat_lt budget (needed problem (choices.choose problem)) then Err Spent else Ok []

-- how a problem is searched with a budget
abbrev pub Search : Type 0
Search = Problem → ℕ → Result (List ℕ) SearchFault

-- some answer of the search, with which this holds of all functions that pick outcomes
abbrev pub SomeSearch : (ChoiceOutcomes → Search → Type 0) → Type 0
SomeSearch P =
    (searched : Searched)
    × ((certificates : CertificateOutcomes) (choices : ChoiceOutcomes) → P choices (searched_by certificates choices searched))
