-- The steps of the loops over decided slots and over hosts.
use Rattle.std.proofs.Common.{◌≡◌, ℕ, suc, ◌+◌, ◌-◌, ◌<◌, Bool, true, false, ◌&&◌, List, [], ◌∷◌, length, map, refl, ap, ◌∙◌, arith}
use Rattle.std.specs.List.{list_all, range_with_len}
use Rattle.vd_base.specs.declared.ids.HostId.{HostId}
use Rattle.vd_base.specs.HostSets.{host}
use Rattle.vd_space.specs.declared.problem.Problem.{Problem}
use Rattle.vd_space.specs.declared.problem.Making.{Making}
use Rattle.vd_space.specs.Validity.{can_stand, stand, stand_so_far}

and_none : (b : Bool) → (b && false) ≡ false
and_none true = refl
and_none false = refl

-- more protocols than slots
pub too_many : (problem : Problem) (makings : List Making) (prefix : List ℕ) → length makings < length prefix → stand problem makings prefix ≡ false
too_many problem [] [] less = absurd (omega arith)
too_many problem [] (p ∷ prefix) less = refl
too_many problem (making ∷ makings) [] less = absurd (omega arith)
too_many problem (making ∷ makings) (p ∷ prefix) less = ap (λ b. can_stand problem making p && b) (too_many problem makings prefix (omega arith)) ∙ and_none (can_stand problem making p)

pub too_many_so_far : (problem : Problem) (makings : List Making) (prefix : List ℕ) → length makings < length prefix → stand_so_far problem makings prefix ≡ false
too_many_so_far problem [] [] less = absurd (omega arith)
too_many_so_far problem [] (p ∷ prefix) less = refl
too_many_so_far problem (making ∷ makings) [] less = absurd (omega arith)
too_many_so_far problem (making ∷ makings) (p ∷ prefix) less =
    ap (λ b. can_stand problem making p && b) (too_many_so_far problem makings prefix (omega arith)) ∙ and_none (can_stand problem making p)

pub host_passed : (test : HostId → Bool) (h n : ℕ) → h < n → test (host h) ≡ true
    → list_all test (map host (range_with_len h (n - h))) ≡ list_all test (map host (range_with_len (h + 1) (n - (h + 1))))
host_passed test h n low passes =
    let one : n - h ≡ suc (n - (h + 1)) = omega arith in
    ap (λ k. list_all test (map host (range_with_len h k))) one ∙ ap (λ b. b && list_all test (map host (range_with_len (h + 1) (n - (h + 1))))) passes
