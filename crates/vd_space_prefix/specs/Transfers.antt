-- What it costs to move a value between two slots, read off tables by place.
use Rattle.std.specs.Prelude.{ℕ, ◌≤◌, Bool, false, Option, None, option_map, unwrap_or, List, [], map, length, slice_index_or, ℤ, pos, neg_ℤ, ◌+ℤ◌, ◌-ℤ◌, ◌≤ℤ◌}
use Rattle.std.specs.List.{range_with_len}
use Rattle.vd_base.specs.Limits.{most_weights}
use Rattle.vd_space.specs.Costs.{weigh}
use Rattle.vd_space.specs.Bounds.{least_below, only_if, nothing_left}
use Rattle.vd_space_prefix.specs.declared.transfers.Transfer.{Transfer}
use Rattle.vd_space_prefix.specs.declared.transfers.Arc.{Arc}

-- ---- what a transfer costs

abbrev pub priced : List (List (Option ℕ)) → ℕ → ℕ → Option ℕ
priced prices p q = slice_index_or (slice_index_or prices p []) q None

-- what shifts take on either side
abbrev pub taken : Transfer → ℕ → ℕ → ℤ
taken t p q = slice_index_or t.from p (pos 0) +ℤ slice_index_or t.to q (pos 0)

abbrev pub cell : List (List (Option ℕ)) → Transfer → ℕ → ℕ → Option ℤ
cell prices t p q = option_map (λ v. v -ℤ taken t p q) (weigh t.weight (priced prices p q))

-- ---- the least of it

-- over the places that pass
abbrev pub least_where : List Bool → (ℕ → Option ℤ) → Option ℤ
least_where tests value = least_below (length tests) (λ p. only_if (slice_index_or tests p false) (value p))

abbrev pub row_of : List (List (Option ℕ)) → Transfer → List Bool → ℕ → Option ℤ
row_of prices t seconds p = least_where seconds (cell prices t p)

abbrev pub column_of : List (List (Option ℕ)) → Transfer → List Bool → ℕ → Option ℤ
column_of prices t firsts q = least_where firsts (λ p. cell prices t p q)

abbrev pub square_of : List (List (Option ℕ)) → Transfer → List Bool → List Bool → Option ℤ
square_of prices t firsts seconds = least_where firsts (row_of prices t seconds)

abbrev pub by_place : {X : Type 0} → ℕ → (ℕ → X) → List X
by_place n f = map f (range_with_len 0 n)

abbrev pub arc_of : List (List (Option ℕ)) → Transfer → List Bool → List Bool → Arc
arc_of prices t firsts seconds = record {
  transfer = t;
  rows = by_place (length firsts) (λ p. unwrap_or (row_of prices t seconds p) nothing_left);
  columns = by_place (length seconds) (λ q. unwrap_or (column_of prices t firsts q) nothing_left);
  both = unwrap_or (square_of prices t firsts seconds) nothing_left;
}

-- ---- small numbers

pub record IsWithin (most : ℕ) (z : ℤ) : Type 0 where
  pub low : neg_ℤ (pos most) ≤ℤ z
  pub high : z ≤ℤ pos most

-- 2^49: shifts are at most 2^17, each of less than 2^32
pub record IsTransfer (t : Transfer) : Type 0 where
  pub weight : t.weight ≤ most_weights
  pub taken : (p q : ℕ) → IsWithin 562949953421312 (taken t p q)

pub record ArePrices (prices : List (List (Option ℕ))) : Type 0 where
  pub few : (p q : ℕ) → unwrap_or (priced prices p q) 0 ≤ 848
