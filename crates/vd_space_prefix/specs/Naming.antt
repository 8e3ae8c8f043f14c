-- What names a slot, by number.
use Rattle.std.specs.Prelude.{◌≡◌, ℕ, ◌+◌, ◌<◌, ◌≤◌, length, Bool, true, ◌&&◌, if◌then◌else◌, slice_get, List, [], ◌∷◌}
use Rattle.std.specs.List.{list_all}
use Rattle.std.specs.Option.{option_map_or}
use Rattle.vd_space.specs.declared.problem.Problem.{Problem}
use Rattle.vd_space.specs.Validity.{is_candidate, use_joins, output_joins, guard_told, index_told}
use Rattle.vd_space.specs.Growth.{use_names, output_names, guard_names, index_names}
use Rattle.vd_space_prefix.specs.declared.naming.Naming.{Naming}

-- the numbers of the items that pass, where the first has that number
abbrev pub numbers_from : {X : Type 0} → (X → Bool) → ℕ → List X → List ℕ
numbers_from test first [] = []
numbers_from test first (x ∷ xs) = if test x then first ∷ numbers_from test (first + 1) xs else numbers_from test (first + 1) xs

abbrev pub naming_of : Problem → ℕ → Naming
naming_of problem slot = record {
  uses = numbers_from (use_names slot) 0 problem.uses;
  outputs = numbers_from (output_names slot) 0 problem.outputs;
  guards = numbers_from (guard_names slot) 0 problem.guards;
  indexes = numbers_from (index_names slot) 0 problem.indexes;
}

-- the items with these numbers pass
abbrev pub all_at : {X : Type 0} → (X → Bool) → List X → List ℕ → Bool
all_at test items numbers = list_all (λ number. option_map_or test (slice_get items number) true) numbers

-- of a prefix that ends with the choice
abbrev pub allows : Problem → Naming → ℕ → ℕ → List ℕ → Bool
allows problem naming slot choice prefix =
    is_candidate problem slot choice
    && all_at (use_joins problem prefix) problem.uses naming.uses
    && all_at (output_joins problem prefix) problem.outputs naming.outputs
    && all_at (guard_told problem prefix) problem.guards naming.guards
    && all_at (index_told problem prefix) problem.indexes naming.indexes

-- the numbers of guards that name the slot behind the prefix, which are few
pub record AreNamingNext (problem : Problem) (prefix numbers : List ℕ) : Type 0 where
  pub few : length numbers ≤ 2048
  pub named : all_at (guard_names (length prefix)) problem.guards numbers ≡ true

-- numbers of 32 bits are enough
pub record AreCountable (problem : Problem) : Type 0 where
  pub slots : length problem.slots < 4294967296
  pub uses : length problem.uses < 4294967296
  pub outputs : length problem.outputs < 4294967296
  pub guards : length problem.guards < 4294967296
  pub indexes : length problem.indexes < 4294967296
