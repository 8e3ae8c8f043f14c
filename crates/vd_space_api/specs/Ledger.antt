-- What is handed on from the target of a use to its source.
use Rattle.std.specs.Prelude.{◌≡◌, ℕ, zero, suc, ◌+◌, ◌*◌, ◌<◌, ◌≤◌, Bool, true, false, Option, None, unwrap_or, List, [], ◌∷◌, ◌++◌, length, take, drop, slice_set, slice_index_or, pos}
use Rattle.std.specs.List.{AllByRecursion}
use Rattle.vd_base.specs.declared.protocols.Proto.{Proto}
use Rattle.vd_search_tree.specs.declared.shift.Shift.{Shift}
use Rattle.vd_space.specs.declared.problem.Problem.{Problem}
use Rattle.vd_space.specs.declared.problem.Use.{Use}
use Rattle.vd_space.specs.Costs.{total}
use Rattle.vd_space.specs.Bounds.{use_shift}
use Rattle.vd_space.specs.Sizes.{heft}
use Rattle.vd_space.specs.Usual.{shift_to, usual_from}
use Rattle.vd_space_api.specs.declared.space_shifts.ledger.Ledger.{Ledger}
use Rattle.vd_space_api.specs.Rows.{amounts_of, emptied_of, raised_of, givens_of}
use Rattle.vd_space_api.specs.Terms.{row_at, IsTable, terms_after, greatest}

-- ---- shifts

-- one of the amount, where that is above 0
abbrev pub one_shift : ℕ → ℕ → Bool → ℕ → ℕ → List Shift
one_shift at side add p zero = []
one_shift at side add p (suc n) = shift_to at side p add (suc n) ∷ []

-- at the first n places
abbrev pub made : ℕ → ℕ → Bool → List ℕ → ℕ → List Shift
made at side add amounts zero = []
made at side add amounts (suc n) = made at side add amounts n ++ one_shift at side add n (slice_index_or amounts n 0)

-- its amount is a number of 32 bits
abbrev pub IsSmallShift : Shift → Type 0
IsSmallShift shift = shift.amount < 4294967296

-- ---- the two steps of a use

-- what the target must cost goes on the use
abbrev pub with_taken : ℕ → ℕ → Ledger → Ledger
with_taken at target ledger =
    let amounts = amounts_of (row_at ledger.terms target) in
    record { terms = slice_set ledger.terms target (emptied_of (row_at ledger.terms target)); shifts = ledger.shifts ++ made at 1 false amounts (length amounts) }

-- what the use must cost goes on the source
abbrev pub with_given : ℕ → ℕ → List ℕ → Ledger → Ledger
with_given at source amounts ledger =
    record { terms = slice_set ledger.terms source (raised_of (row_at ledger.terms source) amounts); shifts = ledger.shifts ++ made at 0 true amounts (length amounts) }

abbrev pub places_at : List (List Bool) → ℕ → List Bool
places_at candidates slot = slice_index_or candidates slot []

-- by the place of the source, what the use must cost once it has what the target must
abbrev pub given_by : List Proto → List (List Bool) → Use → Ledger → List ℕ
given_by list candidates u ledger = givens_of list u.weight (places_at candidates u.source.0) (places_at candidates u.target.0) (amounts_of (row_at ledger.terms u.target.0))

abbrev pub handed_on : List Proto → List (List Bool) → ℕ → Use → Ledger → Ledger
handed_on list candidates at u ledger = with_given at u.source.0 (given_by list candidates u ledger) (with_taken at u.target.0 ledger)

-- ---- on the way from the last use to the first

-- what is still to be handed on, and what the uses from here on cost at most: no step adds to it
abbrev pub burden : Problem → ℕ → Ledger → ℕ
burden problem at ledger = heft greatest ledger.terms + heft (λ (u : Use). 212 * u.weight) (take at problem.uses)

pub record IsHandedOn (problem : Problem) (at : ℕ) (ledger : Ledger) : Type 0 where
  pub shifts : ledger.shifts ≡ usual_from problem at (drop at problem.uses)
  pub small : AllByRecursion IsSmallShift ledger.shifts
  pub terms : IsTable problem (terms_after problem ledger.shifts) ledger.terms
  pub unused : (number p q : ℕ) → number < at → total (use_shift number p q) ledger.shifts ≡ pos 0
  pub light : burden problem at ledger ≤ 111673344

-- numbers of 32 bits
abbrev pub AreSmall : List ℕ → Type 0
AreSmall amounts = (p : ℕ) → slice_index_or amounts p 0 < 4294967296

abbrev pub AreSmallTerms : List (List (Option ℕ)) → Type 0
AreSmallTerms terms = (slot p : ℕ) → unwrap_or (slice_index_or (row_at terms slot) p None) 0 < 4294967296

-- by slot, the candidates and what the slot must cost are by place of the list, and what it must cost are numbers of 32 bits
pub record IsOverPlaces (list : List Proto) (candidates : List (List Bool)) (ledger : Ledger) : Type 0 where
  pub few : length list < 256
  pub slots : length candidates ≡ length ledger.terms
  pub places : (slot : ℕ) → slot < length ledger.terms → length (places_at candidates slot) ≡ length list
  pub rows : (slot : ℕ) → slot < length ledger.terms → length (row_at ledger.terms slot) ≡ length list
  pub small : AreSmallTerms ledger.terms
