-- Costs that wait are counted where the row is drawn that they wait for.
use Rattle.std.proofs.Common.{◌≡◌, ℕ, ◌+◌, ◌-◌, ◌^◌, Bool, true, false, List, [], ◌∷◌, refl, sym, ap, ◌∙◌, arith}
use Rattle.std.specs.Prelude.{if◌then◌else◌, min}
use Rattle.std.specs.List.{fold}
use Rattle.vd_draw_rows.specs.declared.row.Row.{Row}
use Rattle.vd_draw_layout.specs.declared.runs.Drawn.{Drawn}
use Rattle.vd_draw_layout.specs.Layout.{with_row}
use Rattle.vd_draw_layout.specs.Numbers.{plus, cost_of}
use Rattle.vd_draw_layout.specs.Runs.{drawn_from, goes_on, heading_text}
use Rattle.vd_cmd_draw.specs.Together.{DrawnCostsAddUp, with_drawn}

grouped : (a b c : ℕ) → plus a (plus b c) ≡ plus (plus a b) c
grouped a b c = capped (2 ^ 64 - 1) a b c
  where
    capped : (most a b c : ℕ) → min (a + min (b + c) most) most ≡ min (min (a + b) most + c) most
    capped most a b c = omega arith

and_none : (a b : ℕ) → plus (plus a b) 0 ≡ plus a b
and_none a b = capped (2 ^ 64 - 1) a b
  where
    capped : (most a b : ℕ) → min (min (a + b) most + 0) most ≡ min (a + b) most
    capped most a b = omega arith

abbrev costs : ℕ → List Drawn → ℕ
costs total drawn = fold with_drawn total drawn

from_there : (rest : List Row) (row : Row) (total number before cost : ℕ) → costs total (drawn_from number before cost (row ∷ rest)) ≡ fold with_row (plus total cost) (row ∷ rest)
from_there [] row total number before cost = grouped total cost (cost_of row)
from_there (next ∷ rest) row total number before cost = by_test (from_there rest next) (goes_on row (next ∷ rest))
  where
    all : ℕ
    all = plus cost (cost_of row)

    drawn : List Drawn
    drawn = record { number = number; cost = all; said = heading_text before row row.line } ∷ drawn_from (plus number 1) 0 0 (next ∷ rest)

    together : fold with_row (plus total all) (next ∷ rest) ≡ fold with_row (plus total cost) (row ∷ next ∷ rest)
    together = ap (λ t. fold with_row t (next ∷ rest)) (grouped total cost (cost_of row))

    by_test : ((t n b c : ℕ) → costs t (drawn_from n b c (next ∷ rest)) ≡ fold with_row (plus t c) (next ∷ rest)) → (test : Bool)
        → costs total (if test then drawn_from number (plus before 1) all (next ∷ rest) else drawn) ≡ fold with_row (plus total cost) (row ∷ next ∷ rest)
    by_test further true = further total number (plus before 1) all ∙ together
    by_test further false = further (plus total all) (plus number 1) 0 0 ∙ ap (λ t. fold with_row t (next ∷ rest)) (and_none total all) ∙ together

pub costs_add_up : DrawnCostsAddUp
costs_add_up [] = refl
costs_add_up (row ∷ rest) = from_there rest row 0 0 0 0
