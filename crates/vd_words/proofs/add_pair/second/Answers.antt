use Rattle.std.proofs.Common.{◌≡◌, ℕ, suc, ◌<◌, List, [], ◌∷◌, length, refl, subst, arith}
use Rattle.vd_base.specs.declared.ids.HostId.{HostId}
use Rattle.vd_execution.specs.declared.instructions.Reg.{Reg}
use Rattle.vd_duet.specs.Calls.{all_placed}
use Rattle.vd_duet.specs.declared.parts.Part.{Part}
use Rattle.vd_backend_sharing.specs.PairCalls.{two, operand}
use Rattle.vd_words.proofs.add_pair.second.Goals as goal

missing : (f : Part → Reg) (xs : List (List (HostId × Part))) → length xs < 2 → two 0 0 ≡ operand (all_placed f xs) 1
missing f [] few = refl
missing f (x ∷ []) few = refl
missing f (x ∷ y ∷ xs) few = absurd (too_many (length xs) few)
  where
    too_many : (n : ℕ) → suc (suc n) < 2 → ⊥
    too_many n e = omega (arith, e)

pub returns-in_default : goal.returns-in_default
returns-in_default c = missing (λ c. c.0) c.args.args.now (subst (λ (l : List (List (HostId × Part))). length l < 2) c.as_slice.ensures c.in_default.len_below)
