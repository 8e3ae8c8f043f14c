-- When a walk stops before its end.
use Rattle.std.specs.Prelude.{◌≡◌, ℕ, ◌+◌, ◌<◌, Bool, nat_lt, List, Result, IfErr}
use Rattle.vd_base.specs.Limits.{most_statements}
use Rattle.vd_core.specs.declared.normal.Stmt.{Stmt}
use Rattle.vd_rewrite.specs.declared.stop.Stop.{Stop}
use Rattle.vd_rewrite.specs.declared.stop.Stop.TheVariants.{TooMany}
use Rattle.vd_rewrite.specs.Rewriting.{Made}

-- slots and blocks together
abbrev pub size : Made → ℕ
size m = m.next + m.blocks

-- no program has so many
abbrev pub IsTooLarge : Made → Type 0
IsTooLarge m = most_statements + 1 < size m

abbrev pub IsFull : Bool → Made → Type 0
IsFull full m = full ≡ nat_lt most_statements (size m)

-- too many is said only of what is too large
abbrev pub Stops : {A : Type 0} → Result A Stop → Made → Type 0
Stops result wanted = IfErr result (λ stop. stop ≡ TooMany → IsTooLarge wanted)

abbrev pub with_body : List Stmt → Made → Made
with_body body m = record { next = m.next; slots = m.slots; table = m.table; blocks = m.blocks; body = body }
