-- Links that wait at addresses.
use Rattle.std.specs.Prelude.{◌≡◌, ◌<◌, ℕ, List, length, remove, slice_get, None, option_map}
use Rattle.vd_outside.specs.Net.{Waiting, link_at, without_link_at}

-- no link waits at an address; or the first stands at this place
abbrev pub NoneWaits : {L : Type 0} → List ℕ → Waiting L → Type 0
NoneWaits address waiting = link_at address waiting None ≡ None

abbrev pub FirstWaits : {L : Type 0} → List ℕ → Waiting L → ℕ → Type 0
FirstWaits address waiting place = link_at address waiting None ≡ option_map (λ each. each.1) (slice_get waiting place)

-- all but the first that waits at an address are those without the one at this place
abbrev pub IsTakenOut : {L : Type 0} → List ℕ → Waiting L → ℕ → Type 0
IsTakenOut address waiting place = (place < length waiting) × (without_link_at address waiting ≡ remove waiting place)
