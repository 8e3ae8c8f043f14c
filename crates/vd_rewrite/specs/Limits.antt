-- Whether statements keep to the limits.
use Rattle.std.specs.Prelude.{◌≡◌, ℕ, ◌+◌, ◌<◌, Bool, ◌&&◌, nat_le, List, map, Option}
use Rattle.std.specs.Option.{MatchOption}
use Rattle.vd_base.specs.Limits.{most_statements, most_weights}
use Rattle.vd_core.specs.declared.normal.Stmt.{Stmt}
use Rattle.vd_core.specs.Facts.{statement_count, weight_sum, weighing, weigh_all}

-- what is left once so much is taken from it, if there is so much
abbrev pub Leaves : Option ℕ → ℕ → ℕ → Type 0
Leaves result taken room = MatchOption result (room < taken) (λ left. left + taken ≡ room)

abbrev pub weight_at : List Stmt → ℕ → ℕ
weight_at body around = weigh_all (map weighing body) around

abbrev pub bodies_fit : List Stmt → Bool
bodies_fit body = nat_le (statement_count body) most_statements && nat_le (weight_sum body) most_weights
