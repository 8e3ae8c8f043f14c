-- What validity by the decided slots alone has to do with that which asks for candidates behind them too.
use Rattle.std.proofs.Common.{◌≡◌, ℕ, ◌<◌, Bool, true, false, ◌&&◌, ◌||◌, not, Option, Some, None, List, [], ◌∷◌, ◌++◌, length, refl, sym, ap, ◌∙◌, subst, arith, inl, inr, slice_get, ℤ}
use mathlib.Core.Path.{fun_ext}
use Rattle.std.specs.Prelude.{IsTrue, is_some}
use Rattle.std.specs.List.{list_all}
use Rattle.std.specs.Option.{option_map_or}
use Rattle.std.proofs.lemmas.Bool.{true≢false, and_parts, and_from}
use Rattle.vd_base.specs.declared.ids.HostId.{HostId}
use Rattle.vd_base.specs.declared.ids.SlotId.{SlotId}
use Rattle.vd_search_tree.specs.Trees.{IsBounded, IsEmpty, Tree}
use Rattle.vd_search_tree.specs.declared.shift.Shift.{Shift}
use Rattle.vd_space.specs.declared.problem.Problem.{Problem}
use Rattle.vd_space.specs.declared.problem.Making.{Making}
use Rattle.vd_space.specs.declared.problem.Use.{Use}
use Rattle.vd_space.specs.declared.problem.Output.{Output}
use Rattle.vd_space.specs.declared.problem.Guard.{Guard}
use Rattle.vd_space.specs.declared.problem.Index.{Index}
use Rattle.vd_space.specs.Bounds.{high}
use Rattle.vd_space.specs.Spaces.{IsProblem}
use Rattle.vd_space.specs.Validity.{all_hosts, can_stand, guard_told, has_candidate, holds_at, index_told, is_bare, is_told, is_valid, is_valid_so_far, may_read, move, move_to_host, output_joins, protocols, stand, stand_so_far, takes_part, use_joins}
use Rattle.vd_space.proofs.Front.{all_passes, item_kept, listed_at, part_kept, stands_have, tree_bounded, unless_passes}
use Rattle.vd_search_stages.specs.SoFar.{so_far_tree, so_far_under}

-- ---- where it is the same

-- the other tests, which both ask
abbrev others : Problem → List ℕ → Bool → Bool
others problem prefix stands =
    stands
    && list_all (use_joins problem prefix) problem.uses
    && list_all (output_joins problem prefix) problem.outputs
    && list_all (guard_told problem prefix) problem.guards
    && list_all (index_told problem prefix) problem.indexes

stand_full : (problem : Problem) (makings : List Making) (prefix : List ℕ) → IsTrue (list_all (has_candidate problem) makings) → stand_so_far problem makings prefix ≡ stand problem makings prefix
stand_full problem makings [] full = sym full
stand_full problem [] (p ∷ prefix) full = refl
stand_full problem (making ∷ makings) (p ∷ prefix) full =
    ap (λ rest. can_stand problem making p && rest) (stand_full problem makings prefix (and_parts (has_candidate problem making) (list_all (has_candidate problem) makings) full).1)

stand_whole : (problem : Problem) (makings : List Making) (list : List ℕ) → length list ≡ length makings → stand_so_far problem makings list ≡ stand problem makings list
stand_whole problem [] [] full = refl
stand_whole problem (making ∷ makings) [] full = absurd (omega (arith, full))
stand_whole problem [] (p ∷ list) full = refl
stand_whole problem (making ∷ makings) (p ∷ list) full = ap (λ rest. can_stand problem making p && rest) (stand_whole problem makings list (omega (arith, full)))

not_bare : (b : Bool) → not b ≡ false → b ≡ true
not_bare true is = refl
not_bare false is = absurd (true≢false is)

-- where each slot has a candidate
pub full_same : (problem : Problem) → is_bare problem ≡ false → (prefix : List ℕ) → is_valid_so_far problem prefix ≡ is_valid problem prefix
full_same problem full prefix = ap (others problem prefix) (stand_full problem problem.slots prefix (not_bare (list_all (has_candidate problem) problem.slots) full))

-- and at whole lists
pub whole_same : (problem : Problem) (list : List ℕ) → length list ≡ length problem.slots → is_valid_so_far problem list ≡ is_valid problem list
whole_same problem list full = ap (others problem list) (stand_whole problem problem.slots list full)

abbrev tree_with : Problem → (List ℕ → ℤ) → (List ℕ → Bool) → Tree
tree_with problem bound valid = record { slots = length problem.slots; choices = length (protocols problem); valid = valid; bound = bound }

pub full_tree : (problem : Problem) (bound : List ℕ → ℤ) → is_bare problem ≡ false → so_far_under problem bound ≡ tree_with problem bound (is_valid problem)
full_tree problem bound full = ap (tree_with problem bound) (fun_ext (full_same problem full))

-- ---- where some slot has no candidate no list is valid

stands_first : (problem : Problem) (list : List ℕ) → IsTrue (is_valid problem list) → IsTrue (stand problem problem.slots list)
stands_first problem list valid =
    let a = stand problem problem.slots list in
    let b = list_all (use_joins problem list) problem.uses in
    let c = list_all (output_joins problem list) problem.outputs in
    let d = list_all (guard_told problem list) problem.guards in
    let e = list_all (index_told problem list) problem.indexes in
    (and_parts a b (and_parts (a && b) c (and_parts (a && b && c) d (and_parts (a && b && c && d) e valid).0).0).0).0

is_not : (b : Bool) → not b ≡ true → b ≡ true → ⊥
is_not true bare is = true≢false (sym bare)
is_not false bare is = true≢false (sym is)

-- where a list is valid, each slot has one
pub full_where : (problem : Problem) (list : List ℕ) → IsTrue (is_valid problem list) → is_bare problem ≡ false
full_where problem list valid = ap not (stands_have problem problem.slots list (stands_first problem list valid))

pub none_where_bare : (problem : Problem) → is_bare problem ≡ true → (list : List ℕ) → length list ≡ length problem.slots → IsTrue (is_valid problem list) → ⊥
none_where_bare problem bare list full valid = is_not (list_all (has_candidate problem) problem.slots) bare (stands_have problem problem.slots list (stands_first problem list valid))

pub bare_empty : (problem : Problem) (bound : List ℕ → ℤ) → is_bare problem ≡ true → IsEmpty (so_far_under problem bound)
bare_empty problem bound bare list whole =
    none_where_bare problem bare list whole.full (sym (whole_same problem list whole.full) ∙ whole.valid)

-- ---- a valid list was valid so far at each step

passes_at : (test later : ℕ → Bool) → ((p : ℕ) → IsTrue (later p) → IsTrue (test p)) → (item : Option ℕ) → IsTrue (option_map_or later item true) → IsTrue (option_map_or test item true)
passes_at test later leads None passes = refl
passes_at test later leads (Some p) passes = leads p passes

passes_before : (test later : ℕ → Bool) → ((p : ℕ) → IsTrue (later p) → IsTrue (test p)) → (prefix rest : List ℕ) (slot : ℕ)
    → IsTrue (option_map_or later (slice_get (prefix ++ rest) slot) true) → IsTrue (option_map_or test (slice_get prefix slot) true)
passes_before test later leads prefix rest slot passes = elim (item_kept prefix rest slot) [
  | inl missing ↦ ap (λ o. option_map_or test o true) missing
  | inr same ↦ passes_at test later leads (slice_get prefix slot) (subst (λ o. IsTrue (option_map_or later o true)) (sym same) passes)
]

module _ (problem : Problem) (prefix rest : List ℕ) where
  use_kept : (u : Use) → IsTrue (use_joins problem (prefix ++ rest) u) → IsTrue (use_joins problem prefix u)
  use_kept u = passes_before
      (λ p. option_map_or (λ q. is_some (move problem p q)) (slice_get prefix u.target.0) true)
      (λ p. option_map_or (λ q. is_some (move problem p q)) (slice_get (prefix ++ rest) u.target.0) true)
      (λ p. passes_before (λ q. is_some (move problem p q)) (λ q. is_some (move problem p q)) (λ q joins. joins) prefix rest u.target.0)
      prefix rest u.source.0

  output_kept : (o : Output) → IsTrue (output_joins problem (prefix ++ rest) o) → IsTrue (output_joins problem prefix o)
  output_kept o = passes_before (λ p. is_some (move_to_host problem o.host p)) (λ p. is_some (move_to_host problem o.host p)) (λ p joins. joins) prefix rest o.slot.0

  told_kept : (h : HostId) (slot : SlotId) → IsTrue (is_told problem (prefix ++ rest) h slot) → IsTrue (is_told problem prefix h slot)
  told_kept h slot told =
      let may = may_read problem h slot.0 in
      let parts = and_parts may (option_map_or (λ p. is_some (move_to_host problem h p)) (slice_get (prefix ++ rest) slot.0) true) told in
      and_from may (option_map_or (λ p. is_some (move_to_host problem h p)) (slice_get prefix slot.0) true) parts.0
      (passes_before (λ p. is_some (move_to_host problem h p)) (λ p. is_some (move_to_host problem h p)) (λ p joins. joins) prefix rest slot.0 parts.1)

  guard_kept : (guard : Guard) → IsTrue (guard_told problem (prefix ++ rest) guard) → IsTrue (guard_told problem prefix guard)
  guard_kept guard = all_passes (λ h. not (takes_part problem (prefix ++ rest) guard h) || is_told problem (prefix ++ rest) h guard.slot) (λ h. not (takes_part problem prefix guard h) || is_told problem prefix h guard.slot)
      (λ h. unless_passes (takes_part problem (prefix ++ rest) guard h) (is_told problem (prefix ++ rest) h guard.slot) (takes_part problem prefix guard h) (is_told problem prefix h guard.slot)
      (part_kept problem prefix rest guard h) (told_kept h guard.slot))
      (all_hosts problem)

  index_kept : (i : Index) → IsTrue (index_told problem (prefix ++ rest) i) → IsTrue (index_told problem prefix i)
  index_kept i = passes_before
      (λ p. list_all (λ h. not (holds_at problem h p) || is_told problem prefix h i.index) (all_hosts problem))
      (λ p. list_all (λ h. not (holds_at problem h p) || is_told problem (prefix ++ rest) h i.index) (all_hosts problem))
      (λ p. all_passes (λ h. not (holds_at problem h p) || is_told problem (prefix ++ rest) h i.index) (λ h. not (holds_at problem h p) || is_told problem prefix h i.index)
      (λ h. unless_passes (holds_at problem h p) (is_told problem (prefix ++ rest) h i.index) (holds_at problem h p) (is_told problem prefix h i.index) (λ holds. holds) (told_kept h i.index))
      (all_hosts problem))
      prefix rest i.array.0

  stand_kept : (makings : List Making) (front : List ℕ) → IsTrue (stand_so_far problem makings (front ++ rest)) → IsTrue (stand_so_far problem makings front)
  stand_kept makings [] stands = refl
  stand_kept [] (p ∷ front) stands = absurd (true≢false (sym stands))
  stand_kept (making ∷ makings) (p ∷ front) stands =
      let parts = and_parts (can_stand problem making p) (stand_so_far problem makings (front ++ rest)) stands in
      and_from (can_stand problem making p) (stand_so_far problem makings front) parts.0 (stand_kept makings front parts.1)

  pub so_far_kept : IsTrue (is_valid_so_far problem (prefix ++ rest)) → IsTrue (is_valid_so_far problem prefix)
  so_far_kept valid =
      let more = prefix ++ rest in
      let a = stand_so_far problem problem.slots more in
      let b = list_all (use_joins problem more) problem.uses in
      let c = list_all (output_joins problem more) problem.outputs in
      let d = list_all (guard_told problem more) problem.guards in
      let e = list_all (index_told problem more) problem.indexes in
      let last = and_parts (a && b && c && d) e valid in
      let fourth = and_parts (a && b && c) d last.0 in
      let third = and_parts (a && b) c fourth.0 in
      let second = and_parts a b third.0 in
      let v = stand_so_far problem problem.slots prefix in
      let w = list_all (use_joins problem prefix) problem.uses in
      let x = list_all (output_joins problem prefix) problem.outputs in
      let y = list_all (guard_told problem prefix) problem.guards in
      let z = list_all (index_told problem prefix) problem.indexes in
      and_from (v && w && x && y) z
      (and_from (v && w && x) y
      (and_from (v && w) x
      (and_from v w
      (stand_kept problem.slots prefix second.0)
      (all_passes (use_joins problem more) (use_joins problem prefix) use_kept problem.uses second.1))
      (all_passes (output_joins problem more) (output_joins problem prefix) output_kept problem.outputs third.1))
      (all_passes (guard_told problem more) (guard_told problem prefix) guard_kept problem.guards fourth.1))
      (all_passes (index_told problem more) (index_told problem prefix) index_kept problem.indexes last.1)

stand_listed : (problem : Problem) (makings : List Making) (prefix rest : List ℕ) (choice : ℕ) → IsTrue (stand_so_far problem makings (prefix ++ choice ∷ rest)) → choice < length (protocols problem)
stand_listed problem [] [] rest choice stands = absurd (true≢false (sym stands))
stand_listed problem [] (p ∷ prefix) rest choice stands = absurd (true≢false (sym stands))
stand_listed problem (making ∷ makings) [] rest choice stands = listed_at problem making choice (and_parts (can_stand problem making choice) (stand_so_far problem makings rest) stands).0
stand_listed problem (making ∷ makings) (p ∷ prefix) rest choice stands =
    stand_listed problem makings prefix rest choice (and_parts (can_stand problem making p) (stand_so_far problem makings (prefix ++ choice ∷ rest)) stands).1

so_far_stands : (problem : Problem) (list : List ℕ) → IsTrue (is_valid_so_far problem list) → IsTrue (stand_so_far problem problem.slots list)
so_far_stands problem list valid =
    let a = stand_so_far problem problem.slots list in
    let b = list_all (use_joins problem list) problem.uses in
    let c = list_all (output_joins problem list) problem.outputs in
    let d = list_all (guard_told problem list) problem.guards in
    let e = list_all (index_told problem list) problem.indexes in
    (and_parts a b (and_parts (a && b) c (and_parts (a && b && c) d (and_parts (a && b && c && d) e valid).0).0).0).0

-- ---- bounds

-- with whatever bounds, where some slot has no candidate
pub bare_bounded : (problem : Problem) (bound : List ℕ → ℤ) → is_bare problem ≡ true → IsBounded (so_far_under problem bound)
bare_bounded problem bound bare = record {
  closed = so_far_kept problem;
  listed = λ prefix rest choice valid. stand_listed problem problem.slots prefix rest choice (so_far_stands problem (prefix ++ choice ∷ rest) valid);
  below = λ prefix rest whole. absurd (bare_empty problem bound bare (prefix ++ rest) whole);
  fits = λ list whole. absurd (bare_empty problem bound bare list whole);
}

pub so_far_bounded : (problem : Problem) → IsProblem problem → (shifts : List Shift) → IsBounded (so_far_tree problem shifts)
so_far_bounded problem holds shifts = by (is_bare problem) refl
  where
    by : (bare : Bool) → is_bare problem ≡ bare → IsBounded (so_far_tree problem shifts)
    by true bare = bare_bounded problem (high problem shifts) bare
    by false full = subst IsBounded (sym (full_tree problem (high problem shifts) full)) (tree_bounded problem holds shifts)
