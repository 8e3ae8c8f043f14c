-- Points that a slot may change are decided one after the other.
use Rattle.std.proofs.Common.{◌≡◌, ℕ, ◌+◌, ◌<◌, ◌≤◌, false, ◌||◌, Option, List, [], length, drop, get_or, sym, ap, ap₂, ◌∙◌, subst, arith, inl, inr}
use Rattle.std.specs.Prelude.{◌==◌}
use Rattle.std.specs.List.{list_any}
use Rattle.std.proofs.Math.ListN.{drop_of_length-le}
use Rattle.std.proofs.lemmas.Bool.{cases_eq, ne_eqb}
use Rattle.std.proofs.lemmas.List.{drop_more}
use Rattle.vd_space.specs.declared.problem.Problem.{Problem}
use Rattle.vd_space_prefix.proofs.Front.{at_place}
use Rattle.vd_space.specs.Points.{decided}
use Rattle.vd_cost_network_prefix.specs.declared.made.NetworkTables.{NetworkTables}
use Rattle.vd_cost_network_prefix.specs.declared.reach.Reach.{Reach}
use Rattle.vd_cost_network_prefix.specs.Reach.{AreDecidedBeside, IsReach, changed_by, arcs_at, may_change}
use Rattle.vd_cost_network_prefix.specs.States.{as_states, count_of_points, states_of}
use Rattle.vd_cost_network_prefix.proofs.Decided.{all_written}
use Rattle.vd_cost_network_prefix.proofs.Reaching.{unlisted}

module _ (problem : Problem) (tables : NetworkTables) (reach : Reach) (are : IsReach problem tables reach) where
  pub points_are : (slot : ℕ) → slot < length problem.slots → get_or reach.points slot [] ≡ changed_by problem tables slot
  points_are slot low = ap (λ rows. get_or rows slot []) are.points ∙ at_place (length problem.slots) (changed_by problem tables) slot [] low

  pub arcs_are : (point : ℕ) → point < length tables.points → get_or reach.arcs point [] ≡ arcs_at tables.arcs point
  arcs_are point low = ap (λ rows. get_or rows point []) are.arcs ∙ at_place (length tables.points) (arcs_at tables.arcs) point [] low

module _ (problem : Problem) (prefix : List ℕ) where
  -- all points stand as the prefix decides them, but for those of the rest
  abbrev pub AreWrittenBut : List ℕ → List (Option ℕ) → Type 0
  AreWrittenBut rest states = (k : ℕ) → list_any (λ changed. k == changed) rest ≡ false → k < count_of_points problem → as_states states k ≡ decided problem prefix k

  pub begun : (tables : NetworkTables) (slot : ℕ) (row : List ℕ) (states : List (Option ℕ)) → length tables.points ≡ count_of_points problem → AreDecidedBeside problem tables.switches prefix slot states → row ≡ changed_by problem tables slot → AreWrittenBut row states
  begun tables slot row states size beside is k none low =
      beside k (unlisted (may_change problem tables.switches slot) k (length tables.points) (omega (arith, size, low)) (sym (ap (list_any (λ changed. k == changed)) is) ∙ none))

  pub one_more : (row : List ℕ) (i : ℕ) (states new : List (Option ℕ)) → i < length row → length states ≡ count_of_points problem → AreWrittenBut (drop i row) states
      → (get_or row i 0 < length states → as_states new (get_or row i 0) ≡ decided problem prefix (get_or row i 0))
      → ((k : ℕ) → (k == get_or row i 0) ≡ false → as_states new k ≡ as_states states k) → AreWrittenBut (drop (i + 1) row) new
  one_more row i states new within size written here others k none low =
      elim (cases_eq k (get_or row i 0)) [
        | inl same ↦ subst (λ j. as_states new j ≡ decided problem prefix j) (sym same) (here (omega (arith, size, low, same)))
        | inr other ↦
            let apart = ne_eqb k (get_or row i 0) other in
            others k apart ∙ written k (ap (list_any (λ changed. k == changed)) (drop_more row i 0 within) ∙ ap₂ (λ first rest. first || rest) apart none) low
      ]

  pub ended : (row : List ℕ) (i : ℕ) (states : List (Option ℕ)) → length row ≤ i → length states ≡ count_of_points problem → AreWrittenBut (drop i row) states → states ≡ states_of problem prefix
  ended row i states past size written =
      all_written problem prefix states size (λ k low. written k (ap (list_any (λ changed. k == changed)) (drop_of_length-le row past)) low)
