-- As many arguments as parameters fit where none is of another kind.
use Rattle.std.proofs.Common.{◌≡◌, ℕ, ◌+◌, true, false, List, [], ◌∷◌, length, Some, None, is_none, refl, arith, ◌&&◌, if◌then◌else◌}
use Rattle.vd_base.specs.declared.operations.Kind.{Kind}
use Rattle.vd_resolve.specs.Causes.{argument_met}
use Rattle.vd_resolve.specs.Rules.{kind_eq, kinds_eq}
use Rattle.vd_resolve.specs.declared.met.Met.TheVariants.{Argument}

fit_from : (before : ℕ) (ks ps : List Kind) → length ks ≡ length ps → kinds_eq ks ps ≡ is_none (argument_met before ks ps)
fit_from before [] [] same = refl
fit_from before [] (p ∷ ps) same = absurd (omega (arith, same))
fit_from before (k ∷ ks) [] same = absurd (omega (arith, same))
fit_from before (k ∷ ks) (p ∷ ps) same =
    let rest : kinds_eq ks ps ≡ is_none (argument_met (before + 1) ks ps) = fit_from (before + 1) ks ps (omega (arith, same)) in
    elim (kind_eq k p) as (λ b. (b && kinds_eq ks ps) ≡ is_none (if b then argument_met (before + 1) ks ps else Some (Argument (before + 1) k))) [
      | true ↦ rest
      | false ↦ refl
    ]

pub kinds_fit : (ks ps : List Kind) → length ks ≡ length ps → kinds_eq ks ps ≡ is_none (argument_met 0 ks ps)
kinds_fit ks ps same = fit_from 0 ks ps same

-- arguments for which no parameter is left
pub none_left : (before : ℕ) (ks left : List Kind) → length left ≡ 0 → argument_met before ks left ≡ None
none_left before [] [] none = refl
none_left before (k ∷ ks) [] none = refl
none_left before ks (p ∷ ps) none = absurd (omega (arith, none))
