-- The limits of a source, and when it is resolved.
use Rattle.std.specs.Prelude.{◌≡◌, ℕ, nat_lt, if◌then◌else◌, length, Result, Ok, Err}
use Rattle.vd_base.specs.Limits.{most_cells, most_hosts, most_nesting, most_principals, most_statements, most_weights}
use Rattle.vd_core.specs.declared.source.Source.{Source}
use Rattle.vd_resolve.specs.declared.fault.Quantity.{Quantity}
use Rattle.vd_resolve.specs.declared.fault.Quantity.TheVariants.{Principals, Hosts, Nesting, Statements, Weights, Cells}
use Rattle.vd_resolve.specs.Faults.{Fault, Limit}
use Rattle.vd_resolve.specs.declared.size.Size.{Size}
use Rattle.vd_resolve.specs.Rules.{source_check, and_then}
use Rattle.vd_resolve.specs.Sizes.{capped, source_size}

-- a count that is not above its limit
unfoldable pub within : Quantity → ℕ → ℕ → Result (Unit {0}) Fault
within which limit count = if nat_lt limit count then Err (Limit which (capped count)) else Ok tt

-- the limits in their order, for so many principals and hosts and this size
abbrev pub limits_check : ℕ → ℕ → Size → Result (Unit {0}) Fault
limits_check principals hosts size =
    and_then (within Principals most_principals principals) (λ few_principals.
    and_then (within Hosts most_hosts hosts) (λ few_hosts.
    and_then (within Nesting most_nesting size.nesting) (λ shallow.
    and_then (within Statements most_statements size.statements) (λ short.
    and_then (within Weights most_weights size.weights) (λ light.
    within Cells most_cells size.cells)))))

-- the first fault of a source: on names and kinds, and where there is none of these, on limits
abbrev pub resolution : Source → Result (Unit {0}) Fault
resolution source = and_then (source_check source) (λ done. limits_check (length source.principals) (length source.hosts) (source_size source))

abbrev pub IsResolved : Source → Type 0
IsResolved source = resolution source ≡ Ok tt
