-- The tables of switches give their states.
use Rattle.std.proofs.Common.{◌≡◌, ℕ, zero, suc, ◌+◌, Some, None, List, [], ◌∷◌, ◌++◌, map, flat_map, refl, sym, ap, ap₂, ◌∙◌, slice_get, drop, add-one}
use Rattle.std.specs.Option.{option_map_or}
use Rattle.vd_base.specs.declared.ids.HostId.{HostId}
use Rattle.vd_space.specs.declared.problem.Problem.{Problem}
use Rattle.vd_space.specs.declared.problem.Guard.{Guard}
use Rattle.vd_space.specs.Validity.{all_hosts}
use Rattle.vd_space.specs.Points.{switch_of, switched, switches}
use Rattle.vd_cost_network_prefix.specs.declared.made.SwitchTable.{SwitchTable}
use Rattle.vd_cost_network_prefix.specs.States.{AreSwitchTables, guard_state, table_state}
use Rattle.vd_cost_network_tables.specs.Tables.{switch_table, switch_tables_at, switch_tables_from}

-- two lists whose items give the same, one by one
by_items : {X Y Z : Type 0} (f : X → Z) (g : Y → Z) (d : Z) (xs : List X) (ys : List Y) → map f xs ≡ map g ys → (k : ℕ) → option_map_or f (slice_get xs k) d ≡ option_map_or g (slice_get ys k) d
by_items f g d xs ys same k = read f d xs k ∙ ap (λ list. option_map_or (λ z. z) (slice_get list k) d) same ∙ sym (read g d ys k)
  where
    read : {A B : Type 0} (h : A → B) (e : B) (as_ : List A) (k : ℕ) → option_map_or h (slice_get as_ k) e ≡ option_map_or (λ z. z) (slice_get (map h as_) k) e
    read h e [] k = refl
    read h e (a ∷ as_) zero = refl
    read h e (a ∷ as_) (suc k) = read h e as_ k

pub map_append : {X Y : Type 0} (f : X → Y) (xs ys : List X) → map f (xs ++ ys) ≡ map f xs ++ map f ys
map_append f [] ys = refl
map_append f (x ∷ xs) ys = ap (λ rest. f x ∷ rest) (map_append f xs ys)

pub at_start : (guards rest : List Guard) (number : ℕ) (guard : Guard) → drop number guards ≡ guard ∷ rest → (slice_get guards number ≡ Some guard) × (drop (suc number) guards ≡ rest)
at_start [] rest zero guard is = cc
at_start [] rest (suc number) guard is = cc
at_start (other ∷ guards) rest zero guard is = let same : other ≡ guard = cc in let after : guards ≡ rest = cc in (ap Some same, after)
at_start (other ∷ guards) rest (suc number) guard is = at_start guards rest number guard is

module _ (problem : Problem) (prefix : List ℕ) where
  one_state : (number : ℕ) (guard : Guard) (h : HostId) → slice_get problem.guards number ≡ Some guard → table_state problem prefix (switch_table problem number guard h) ≡ switched problem prefix (switch_of guard h)
  one_state number guard h at =
      ap (λ o. option_map_or (guard_state problem prefix (switch_table problem number guard h)) o None) at

  of_hosts : (number : ℕ) (guard : Guard) → slice_get problem.guards number ≡ Some guard → (hs : List HostId) → map (table_state problem prefix) (map (switch_table problem number guard) hs) ≡ map (switched problem prefix) (map (switch_of guard) hs)
  of_hosts number guard at [] = refl
  of_hosts number guard at (h ∷ hs) = ap₂ (λ x xs. x ∷ xs) (one_state number guard h at) (of_hosts number guard at hs)

  of_guards : (number : ℕ) (guards : List Guard) → drop number problem.guards ≡ guards
      → map (table_state problem prefix) (switch_tables_from problem number guards) ≡ map (switched problem prefix) (flat_map (λ guard. map (switch_of guard) (all_hosts problem)) guards)
  of_guards number [] rest = refl
  of_guards number (guard ∷ guards) rest =
      let start = at_start problem.guards guards number guard rest in
      map_append (table_state problem prefix) (switch_tables_at problem number guard) (switch_tables_from problem (number + 1) guards)
      ∙ ap₂ (λ front back. front ++ back) (of_hosts number guard start.0 (all_hosts problem)) (of_guards (number + 1) guards (ap (λ n. drop n problem.guards) (add-one number) ∙ start.1))
      ∙ sym (map_append (switched problem prefix) (map (switch_of guard) (all_hosts problem)) (flat_map (λ other. map (switch_of other) (all_hosts problem)) guards))

pub switch_tables_are : (problem : Problem) (tables : List SwitchTable) → tables ≡ switch_tables_from problem 0 problem.guards → AreSwitchTables problem tables
switch_tables_are problem tables same prefix number =
    ap (λ list. option_map_or (table_state problem prefix) (slice_get list number) None) same
    ∙ by_items (table_state problem prefix) (switched problem prefix) None (switch_tables_from problem 0 problem.guards) (switches problem) (of_guards problem prefix 0 problem.guards refl) number
