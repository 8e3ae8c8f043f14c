-- Limits of counts that stop at 2^32 - 1 are those of the exact counts.
use Rattle.std.proofs.Common.{◌≡◌, ◌≢◌, ◌⊎◌, inl, inr, ℕ, ◌+◌, ◌-◌, ◌<◌, ◌≤◌, ◌^◌, min, true, false, nat_lt, length, Result, Ok, Err, refl, sym, ap, ◌∙◌, arith, if◌then◌else◌}
use Rattle.std.proofs.lemmas.Bool.{cases_lt}
use Rattle.vd_core.specs.declared.source.Source.{Source}
use Rattle.vd_resolve.specs.declared.fault.Quantity.{Quantity}
use Rattle.vd_resolve.specs.declared.fault.Quantity.TheVariants.{Principals, Hosts, Nesting, Statements, Weights, Cells}
use Rattle.vd_resolve.specs.Causes.{go_on, plain, source_told, resolution_told}
use Rattle.vd_resolve.specs.Faults.{Fault, Cause, Nothing, bare, carried}
use Rattle.vd_resolve.specs.Faults as rule
use Rattle.vd_resolve.specs.declared.fault.NameFault.{NameFault}
use Rattle.vd_resolve.specs.declared.fault.NameFault.TheVariants as fault
use Rattle.vd_resolve.specs.declared.size.Size.{Size}
use Rattle.vd_resolve.specs.Rules.{source_check, and_then}
use Rattle.vd_resolve.specs.Sizes.{capped, capped_size, IsCapped, source_size}
use Rattle.vd_resolve.specs.Limits.{within, limits_check, resolution}

pub is_above : (m n : ℕ) → m < n → nat_lt m n ≡ true
is_above m n lt = grind arith

pub is_not_above : (m n : ℕ) → n ≤ m → nat_lt m n ≡ false
is_not_above m n le = grind arith

within_capped : (which : Quantity) (limit count : ℕ) → limit < 4294967295 → within which limit (capped count) ≡ within which limit count
unfolding within
within_capped which limit count low = elim (cases_lt count (2 ^ 32)) [
  | inl small ↦ (let same : capped count ≡ count = omega arith in ap (λ n. if nat_lt limit n then Err (rule.Limit which (capped n)) else Ok tt) same)
  | inr large ↦
      (let top : capped count ≡ 4294967295 = omega arith in
      let a : nat_lt limit 4294967295 ≡ true = is_above limit 4294967295 low in
      let b : nat_lt limit count ≡ true = is_above limit count (omega arith) in
      rw (top, a, b) refl)
]

limits_capped : (principals hosts : ℕ) (size : Size) → limits_check (capped principals) (capped hosts) (capped_size size) ≡ limits_check principals hosts size
unfolding capped_size
limits_capped principals hosts size =
    rw (
      within_capped Principals 6 principals (omega arith),
      within_capped Hosts 4 hosts (omega arith),
      within_capped Nesting 8 size.nesting (omega arith),
      within_capped Statements 512 size.statements (omega arith),
      within_capped Weights 65536 size.weights (omega arith),
      within_capped Cells 65536 size.cells (omega arith),
    ) refl

-- the limits of a source, by its size as it was counted
limits_are : (source : Source) (size : Size) (principals hosts : ℕ) (r : Result (Unit {0}) Fault) → IsCapped size (source_size source)
    → principals ≡ length source.principals → hosts ≡ length source.hosts → limits_check (capped principals) (capped hosts) size ≡ r
    → limits_check (length source.principals) (length source.hosts) (source_size source) ≡ r
unfolding IsCapped
limits_are source size principals hosts r is same_principals same_hosts limited =
    sym (limits_capped (length source.principals) (length source.hosts) (source_size source))
    ∙ ap (λ (z : Size). limits_check (capped (length source.principals)) (capped (length source.hosts)) z) (sym is)
    ∙ ap (λ n. limits_check (capped n) (capped (length source.hosts)) size) (sym same_principals)
    ∙ ap (λ n. limits_check (capped principals) (capped n) size) (sym same_hosts)
    ∙ limited

-- the two halves of a resolution
pub resolution_is : (source : Source) (size : Size) (principals hosts : ℕ) (r : Result (Unit {0}) Fault) → source_check source ≡ Ok tt → IsCapped size (source_size source)
    → principals ≡ length source.principals → hosts ≡ length source.hosts → limits_check (capped principals) (capped hosts) size ≡ r → resolution source ≡ r
resolution_is source size principals hosts r named is same_principals same_hosts limited =
    ap (λ (z : Result (Unit {0}) Fault). and_then z (λ done. limits_check (length source.principals) (length source.hosts) (source_size source))) named
    ∙ limits_are source size principals hosts r is same_principals same_hosts limited

-- a fault on limits carries nothing
pub limit_told : (source : Source) (size : Size) (principals hosts : ℕ) (e : NameFault) → source_told source ≡ Ok tt → IsCapped size (source_size source)
    → principals ≡ length source.principals → hosts ≡ length source.hosts → limits_check (capped principals) (capped hosts) size ≡ Err (bare e) → carried e ≡ Nothing
    → resolution_told source ≡ Err (carried e)
limit_told source size principals hosts e told is same_principals same_hosts limited none =
    ap (λ (z : Result (Unit {0}) Cause). go_on z (λ done. plain (limits_check (length source.principals) (length source.hosts) (source_size source)))) told
    ∙ ap (λ (z : Result (Unit {0}) Fault). plain z) (limits_are source size principals hosts (Err (bare e)) is same_principals same_hosts limited)
    ∙ ap (λ (z : Cause). Err z) (sym none)

pub memory_or : {P : Type 0} (f : NameFault) → (f ≢ fault.Memory → P) → (f ≡ fault.Memory) ⊎ P
memory_or (fault.Unknown at) is = inr (is (λ e. cc))
memory_or (fault.Twice at first) is = inr (is (λ e. cc))
memory_or (fault.Recursive at) is = inr (is (λ e. cc))
memory_or (fault.Arity at) is = inr (is (λ e. cc))
memory_or (fault.Kind at met) is = inr (is (λ e. cc))
memory_or (fault.Limit which count) is = inr (is (λ e. cc))
memory_or fault.Memory is = inl refl
