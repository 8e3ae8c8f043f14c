-- Validity is validity so far, and that each slot behind the prefix has a candidate.
use Rattle.std.proofs.Common.{◌≡◌, ℕ, Bool, true, false, ◌&&◌, List, [], ◌∷◌, length, drop, refl, sym, ap, ◌∙◌}
use Rattle.std.specs.List.{list_all}
use Rattle.vd_space.specs.declared.problem.Problem.{Problem}
use Rattle.vd_space.specs.declared.problem.Making.{Making}
use Rattle.vd_space.specs.Validity.{can_stand, guard_told, has_candidate, index_told, is_valid, is_valid_so_far, output_joins, stand, stand_so_far, use_joins}

and_true : (b : Bool) → (b && true) ≡ b
and_true true = refl
and_true false = refl

and_first : (a b c : Bool) → (a && (b && c)) ≡ (b && (a && c))
and_first true b c = refl
and_first false true c = refl
and_first false false c = refl

stand_parts : (problem : Problem) (makings : List Making) (prefix : List ℕ) → stand problem makings prefix ≡ (list_all (has_candidate problem) (drop (length prefix) makings) && stand_so_far problem makings prefix)
stand_parts problem makings [] = sym (and_true (list_all (has_candidate problem) makings))
stand_parts problem [] (p ∷ prefix) = refl
stand_parts problem (making ∷ makings) (p ∷ prefix) =
    ap (λ rest. can_stand problem making p && rest) (stand_parts problem makings prefix)
    ∙ and_first (can_stand problem making p) (list_all (has_candidate problem) (drop (length prefix) makings)) (stand_so_far problem makings prefix)

-- the tests that both ask
abbrev others : Problem → List ℕ → Bool → Bool
others problem prefix stands =
    stands
    && list_all (use_joins problem prefix) problem.uses
    && list_all (output_joins problem prefix) problem.outputs
    && list_all (guard_told problem prefix) problem.guards
    && list_all (index_told problem prefix) problem.indexes

others_first : (problem : Problem) (prefix : List ℕ) (behind stands : Bool) → others problem prefix (behind && stands) ≡ (behind && others problem prefix stands)
others_first problem prefix true stands = refl
others_first problem prefix false stands = refl

valid_parts : (problem : Problem) (prefix : List ℕ) → is_valid problem prefix ≡ (list_all (has_candidate problem) (drop (length prefix) problem.slots) && is_valid_so_far problem prefix)
valid_parts problem prefix =
    ap (others problem prefix) (stand_parts problem problem.slots prefix)
    ∙ others_first problem prefix (list_all (has_candidate problem) (drop (length prefix) problem.slots)) (stand_so_far problem problem.slots prefix)

-- where the slots behind the prefix have candidates or not
pub valid_where : (problem : Problem) (prefix : List ℕ) (behind : Bool) → behind ≡ list_all (has_candidate problem) (drop (length prefix) problem.slots) → is_valid problem prefix ≡ (behind && is_valid_so_far problem prefix)
valid_where problem prefix behind is = valid_parts problem prefix ∙ ap (λ b. b && is_valid_so_far problem prefix) (sym is)
