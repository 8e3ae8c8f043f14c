-- Children that wait, and the statuses of those that were started.
use Rattle.std.proofs.Common.{◌≡◌, ℕ, zero, suc, List, [], ◌∷◌, ◌++◌, Option, Some, slice_get, slice_set, refl}
use Rattle.std.proofs.lemmas.Option.{none-some}
use Rattle.vd_outside.specs.Spawner.{next_child}
use Rattle.vd_fakes.specs.MemSpawner.{status_of}
use Rattle.vd_outside.specs.declared.child.Child.{Child}

-- the first of the children that wait is the next
pub first_is_next : (children : List Child) (otherwise : Option Child) (child : Child) → slice_get children 0 ≡ Some child → next_child children otherwise ≡ Some child
first_is_next [] otherwise child first = absurd (none-some child first)
first_is_next (child ∷ children) otherwise first is = is

-- one more child leaves the statuses that are known
pub status_stays : (children more : List Child) (number status : ℕ) → status_of children number ≡ Some status → status_of (children ++ more) number ≡ Some status
status_stays [] more number status known = absurd (none-some status known)
status_stays (child ∷ children) more zero status known = known
status_stays (child ∷ children) more (suc number) status known = status_stays children more number status known

-- a child in the place of one with its status leaves the statuses
pub same_status : (children : List Child) (at number : ℕ) (child other : Child) → slice_get children at ≡ Some child → other.status ≡ child.status → status_of (slice_set children at other) number ≡ status_of children number
same_status [] at number child other held same = absurd (none-some child held)
same_status (first ∷ children) zero zero child other held same = cc
same_status (first ∷ children) zero (suc number) child other held same = refl
same_status (first ∷ children) (suc at) zero child other held same = refl
same_status (first ∷ children) (suc at) (suc number) child other held same = same_status children at number child other held same
