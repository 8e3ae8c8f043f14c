-- Lists that are judged by what their slots decide: by it certificates of the first two forms are judged.
use Rattle.std.specs.Prelude.{◌≡◌, ℕ, IsTrue, Bool, true, false, ◌||◌, not, is_some, List, length, ℤ}
use Rattle.vd_search_tree.specs.declared.search_certificate.certificate.Certificate.{Certificate}
use Rattle.vd_search_tree.specs.Trees.{Tree}
use Rattle.vd_search_tree.specs.declared.shift.Shift.{Shift}
use Rattle.vd_space.specs.declared.problem.Problem.{Problem}
use Rattle.vd_space.specs.Bounds.{high}
use Rattle.vd_space.specs.Validity.{is_bare, is_valid, is_valid_so_far, protocols}

-- the lists of a problem, with these bounds
abbrev pub so_far_under : Problem → (List ℕ → ℤ) → Tree
so_far_under problem bound = record {
  slots = length problem.slots;
  choices = length (protocols problem);
  valid = is_valid_so_far problem;
  bound = bound;
}

-- and with those under shifts that name uses
abbrev pub so_far_tree : Problem → List Shift → Tree
so_far_tree problem shifts = so_far_under problem (high problem shifts)

-- a certificate that no list is valid has the third form only where some slot has no candidate
abbrev pub has_own_form : Problem → Certificate → Bool
has_own_form problem c = is_some c.cost || not c.by_arcs || is_bare problem

-- ---- how the two validities meet

abbrev pub AgreeWhereFull : Problem → Type 0
AgreeWhereFull problem = is_bare problem ≡ false → (prefix : List ℕ) → is_valid_so_far problem prefix ≡ is_valid problem prefix

abbrev pub AgreeAtWholeLists : Problem → Type 0
AgreeAtWholeLists problem = (list : List ℕ) → length list ≡ length problem.slots → is_valid_so_far problem list ≡ is_valid problem list

-- where some slot has none, no list is valid by either
abbrev pub NoneWhereBare : Problem → Type 0
NoneWhereBare problem = is_bare problem ≡ true → (list : List ℕ) → length list ≡ length problem.slots → IsTrue (is_valid problem list) → ⊥
