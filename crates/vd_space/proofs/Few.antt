-- How many protocols there are at most.
use Rattle.std.proofs.Common.{◌≡◌, ℕ, zero, suc, ◌<◌, ◌≤◌, List, length, subst, sym, arith}
use lib.Count.{ones, ones_in}
use Rattle.vd_base.specs.declared.protocols.Proto.{Proto}
use Rattle.vd_base.specs.Protocols.{protocols_of}
use Rattle.vd_space.specs.declared.problem.Problem.{Problem}
use Rattle.vd_space.specs.Validity.{protocols}
use Rattle.vd_space.specs.Labelled.{IsLabelled}
use Rattle.vd_space.specs.WellFormed.{AreProtocols}

few_protocols : (n : ℕ) → n ≤ 4 → length (protocols_of n) ≤ 42
unfolding ones ones_in
few_protocols zero low = omega arith
few_protocols (suc zero) low = omega arith
few_protocols (suc (suc zero)) low = omega arith
few_protocols (suc (suc (suc zero))) low = omega arith
few_protocols (suc (suc (suc (suc zero)))) low = omega arith
few_protocols (suc (suc (suc (suc (suc n))))) low = absurd (omega arith)

pub few_in : (problem : Problem) → IsLabelled problem → length (protocols problem) ≤ 42
few_in problem is = few_protocols (length problem.hosts) is.few_hosts

pub few_slice : (problem : Problem) → IsLabelled problem → (list : List Proto) → list ≡ protocols problem → length list < 256
few_slice problem is list listed = let few = few_in problem is in subst (λ l. length l < 256) (sym listed) (omega (arith, few))

pub are_protocols : (problem : Problem) → IsLabelled problem → (list : List Proto) → list ≡ protocols problem → AreProtocols problem list
are_protocols problem is list listed =
    let few = few_in problem is in
    record { labelled = is; all = listed; few = subst (λ l. length l ≤ 64) (sym listed) (omega (arith, few)) }
