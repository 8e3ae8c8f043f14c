-- A division where it is placed.
use Rattle.std.proofs.Common.{◌≡◌, ℕ, List, ap, ◌∙◌}
use Rattle.vd_base.specs.declared.ids.SlotId.{SlotId}
use Rattle.vd_core.specs.declared.normal.Slot.{Slot}
use Rattle.vd_long.specs.declared.steps.Place.{Place}
use Rattle.vd_long.specs.declared.division.Division.{Division}
use Rattle.vd_rewrite.specs.Rewriting.{Made, entry_of, in_block}
use Rattle.vd_long.specs.Steps.{division_in}
use Rattle.vd_long.specs.Divisions.{as_parts, place_in, long_of}

pub placed_division : (old : List Slot) (x : SlotId) (d : Division) (block : ℕ) (m : Made) (entry : Slot) (place : Place) → entry ≡ in_block block (entry_of old x)
    → place ≡ place_in m entry.offset block (as_parts d).dividend (as_parts d).divisor → division_in place (as_parts d).template entry m ≡ long_of old x d block m
placed_division old x d block m entry place is at =
    ap (λ (z : Place). division_in z (as_parts d).template entry m) at
    ∙ ap (λ (z : Slot). division_in (place_in m z.offset block (as_parts d).dividend (as_parts d).divisor) (as_parts d).template z m) is
