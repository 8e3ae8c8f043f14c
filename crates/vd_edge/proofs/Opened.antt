-- Stores open nothing.
use Rattle.std.proofs.Common.{◌≡◌, ◌≢◌, ◌⊎◌, inl, inr, ℕ, Bool, true, false, Some, if◌then◌else◌, refl}
use Rattle.vd_edge.specs.declared.standing.Access.{Access}
use Rattle.vd_edge.specs.declared.standing.Access.TheVariants as access
use Rattle.vd_edge.specs.Store.{StoresOpenNothing, is_deal, made_mode}

kept_if : (mode : ℕ) (deal : Bool)
    → (Some (if deal then access.Private else access.Mode mode) ≡ Some (access.Mode mode)) ⊎ (Some (if deal then access.Private else access.Mode mode) ≡ Some access.Private)
kept_if mode true = inr refl
kept_if mode false = inl refl

made_by : (new : Access) → new ≢ access.Usual → made_mode new ≡ Some 0o600
made_by access.Usual is = absurd (is refl)
made_by access.Private is = refl
made_by (access.Mode mode) is = refl

pub stores_open : StoresOpenNothing
stores_open = record {
  kept = λ mode bytes. kept_if mode (is_deal bytes);
  new_deal = λ rest. refl;
  deal_over = λ mode rest. refl;
  made = made_by;
}
