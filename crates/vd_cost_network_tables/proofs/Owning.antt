-- What a slot costs alone, from its operation and outputs by place.
use Rattle.std.proofs.Common.{◌≡◌, ℕ, Bool, true, Option, Some, None, List, [], ◌∷◌, length, get_or, refl, ap, ap₂, ◌∙◌, arith, ℤ, pos, ◌+ℤ◌, option_map}
use Rattle.std.specs.List.{list_all}
use Rattle.std.proofs.lemmas.Int.{ints}
use Rattle.vd_base.specs.declared.ids.HostId.{HostId}
use Rattle.vd_base.specs.declared.protocols.Proto.{Proto}
use Rattle.vd_space.specs.declared.problem.Problem.{Problem}
use Rattle.vd_space.specs.declared.problem.Guard.{Guard}
use Rattle.vd_space.specs.Validity.{may_read, protocols}
use Rattle.vd_space.specs.Bounds.{only_if}
use Rattle.vd_space_prefix.specs.Transfers.{by_place}
use Rattle.vd_space_prefix.proofs.Front.{at_place}
use Rattle.vd_space_tables.proofs.Front.{same_by_place}
use Rattle.vd_space_tables.specs.Values.{merged_value, together}
use Rattle.vd_space.specs.Points.{switch_of}
use Rattle.vd_space.specs.Arcs.{index_readable, parts, slot_value}
use Rattle.vd_cost_network_tables.specs.Tables.{own_value, switch_values}

pub nothing_shifted : (o : Option ℤ) → option_map (λ v. v +ℤ pos 0) o ≡ o
nothing_shifted None = refl
nothing_shifted (Some v) = ap Some (omega (arith, ints))

pub own_is : (problem : Problem) (slot : ℕ) (list : List Proto) (values : List (Option ℤ)) (amounts : List ℤ) → list ≡ protocols problem → values ≡ by_place (length list) (merged_value problem slot [])
    → by_place (length list) (own_value problem slot values amounts) ≡ by_place (length (protocols problem)) (λ p. option_map (λ c. c +ℤ get_or amounts p (pos 0)) (slot_value problem p slot))
own_is problem slot list values amounts same are =
    same_by_place (length list) (own_value problem slot values amounts) (λ p. option_map (λ c. c +ℤ get_or amounts p (pos 0)) (slot_value problem p slot))
    (λ p low. ap (λ o. option_map (λ c. c +ℤ get_or amounts p (pos 0)) (only_if (list_all (index_readable problem slot p) problem.indexes) (parts o)))
    (ap (λ (vs : List (Option ℤ)). get_or vs p None) are ∙ at_place (length list) (merged_value problem slot []) p None low ∙ nothing_shifted (together problem slot p)))
    ∙ ap (λ (l : List Proto). by_place (length l) (λ p. option_map (λ c. c +ℤ get_or amounts p (pos 0)) (slot_value problem p slot))) same

-- a switch, off and on
pub switch_values_are : (problem : Problem) (guard : Guard) (h : HostId) (readable : Bool) (amounts : List ℤ) (first second : ℤ) (off on : Option ℤ) → readable ≡ may_read problem h guard.slot.0 → first ≡ get_or amounts 0 (pos 0) → second ≡ get_or amounts 1 (pos 0)
    → off ≡ option_map (λ c. c +ℤ first) (only_if true (parts (Some (pos 0)))) → on ≡ option_map (λ c. c +ℤ second) (only_if readable (parts (Some (pos 0))))
    → ◌≡◌ {A = List (Option ℤ)} (off ∷ on ∷ []) (switch_values problem (switch_of guard h) amounts)
switch_values_are problem guard h readable amounts first second off on read first_is second_is off_is on_is =
    ap₂ (λ (a b : Option ℤ). a ∷ b ∷ []) (off_is ∙ ap (λ z. option_map (λ c. c +ℤ z) (Some (pos 0))) first_is)
    (on_is ∙ (λ i. option_map (λ c. c +ℤ second_is i) (only_if (read i) (Some (pos 0)))))
