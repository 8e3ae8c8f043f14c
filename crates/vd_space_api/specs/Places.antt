-- Lists of protocols, by the places of their protocols in the list of all.
use Rattle.std.specs.Prelude.{◌≡◌, ℕ, List, map}
use Rattle.std.specs.List.{position_or_len}
use Rattle.vd_base.specs.declared.protocols.Proto.{Proto}
use Rattle.vd_base.specs.Holders.{same_protocol}
use Rattle.vd_space.specs.declared.problem.Problem.{Problem}
use Rattle.vd_space.specs.Validity.{protocols}
use Rattle.vd_space.specs.WellFormed.{IsWellFormed}

-- the place of a protocol, and the length of the list where it is not there
abbrev pub place_of : List Proto → Proto → ℕ
place_of list p = position_or_len (same_protocol p) list

abbrev pub places_of : List Proto → List Proto → List ℕ
places_of list prefix = map (place_of list) prefix

abbrev pub places_in : Problem → List Proto → List ℕ
places_in problem prefix = places_of (protocols problem) prefix

-- what a space keeps
pub record IsSpace (problem : Problem) (list : List Proto) : Type 0 where
  pub well_formed : IsWellFormed problem
  pub listed : list ≡ protocols problem
