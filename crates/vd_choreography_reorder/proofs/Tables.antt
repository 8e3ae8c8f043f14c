-- Ranks in a table, and the ranks of lines one after the other.
use Rattle.std.proofs.Common.{◌≡◌, ◌≢◌, ℕ, zero, suc, ◌+◌, ◌-◌, ◌<◌, ◌⊎◌, inl, inr, max, Result, Ok, Err, List, [], ◌∷◌, ◌++◌, length, get_or, set, refl, sym, ap, ◌∙◌, arith}
use Rattle.std.specs.Prelude.{IfOk, OnOk, slice_index}
use Rattle.std.proofs.lemmas.List.{get_or-set_same, get_or-set_other}
use mathlib.Core.Path.{fun_ext}
use Rattle.vd_execution.specs.declared.instructions.Reg.{Reg}
use Rattle.vd_execution.specs.declared.instructions.Line.{Line}
use Rattle.vd_execution.specs.Registers.{put}
use Rattle.vd_execution.proofs.Front.{same_or_not, put_same, put_other}
use Rattle.vd_reorder.specs.ReorderLawsTesting.{row}
use Rattle.vd_reorder.specs.declared.registers.Rows.{Rows}
use Rattle.vd_reorder.specs.InRows.{in_row, in_rows}
use Rattle.vd_choreography_reorder.specs.declared.ranks.Ranked.{Ranked}
use Rattle.vd_choreography_reorder.specs.Testing.{Opened}
use Rattle.vd_choreography_reorder.specs.Ranks.{Table, place_of, deepest, raised, noted, line_rank, line_left, behind_line, ranked}

-- ---- the table

zero_more : (xs : List ℕ) (i : ℕ) → get_or (xs ++ 0 ∷ []) i 0 ≡ get_or xs i 0
zero_more [] zero = refl
zero_more [] (suc i) = refl
zero_more (x ∷ xs) zero = refl
zero_more (x ∷ xs) (suc i) = zero_more xs i

-- one more place where nothing was left
pub none_more : (xs : List ℕ) → slice_index (xs ++ 0 ∷ []) ≡ slice_index xs
none_more xs = fun_ext (zero_more xs)

set_at_place : (xs : List ℕ) (i v : ℕ) → i < length xs → (j : ℕ) → (j ≡ i) ⊎ (j ≢ i) → get_or (set xs i v) j 0 ≡ put (slice_index xs) i v j
set_at_place xs i v lt j (inl same) = ap (λ k. get_or (set xs i v) k 0) same ∙ get_or-set_same xs i v 0 lt ∙ sym (ap (put (slice_index xs) i v) same ∙ put_same (slice_index xs) i v)
set_at_place xs i v lt j (inr other) = get_or-set_other xs i j v 0 other ∙ sym (put_other (slice_index xs) i v j other)

pub put_there : (xs : List ℕ) (i v : ℕ) → i < length xs → slice_index (set xs i v) ≡ put (slice_index xs) i v
put_there xs i v lt = fun_ext (λ j. set_at_place xs i v lt j (same_or_not j i))

-- ---- registers one after the other

module _ (d : Table) (c : ℕ) where
  deepest_both : (n : ℕ) (xs ys : List Reg) → deepest d c n (xs ++ ys) ≡ deepest d c (deepest d c n xs) ys
  deepest_both n [] ys = refl
  deepest_both n (x ∷ xs) ys = deepest_both (max n (d (place_of c x.0))) xs ys

  pub deepest_rows : (n : ℕ) (rows : Rows)
      → deepest d c (deepest d c (deepest d c n (in_row rows.first)) (in_row rows.second)) (in_row rows.third) ≡ deepest d c n (in_rows rows)
  deepest_rows n rows =
      sym (deepest_both n (in_row rows.first) (in_row rows.second ++ in_row rows.third) ∙ deepest_both (deepest d c n (in_row rows.first)) (in_row rows.second) (in_row rows.third))

  pub deepest_next : (n r left : ℕ) → 0 < left → deepest d c n (row r left) ≡ deepest d c (max n (d (place_of c r))) (row (r + 1) (left - 1))
  deepest_next n r zero some = absurd (omega (arith, some))
  deepest_next n r (suc left) some = let less : left ≡ suc left - 1 = omega arith in ap (λ k. deepest d c (max n (d (place_of c r))) (row (r + 1) k)) less

  pub deepest_none : (n r left : ℕ) → left ≡ 0 → deepest d c n (row r left) ≡ n
  deepest_none n r left none = ap (λ k. deepest d c n (row r k)) none

noted_both : (c n : ℕ) (xs ys : List Reg) (d : Table) → noted c (xs ++ ys) n d ≡ noted c ys n (noted c xs n d)
noted_both c n [] ys d = refl
noted_both c n (x ∷ xs) ys d = noted_both c n xs ys (raised (place_of c x.0) n d)

pub noted_rows : (c n : ℕ) (rows : Rows) (d : Table)
    → noted c (in_row rows.third) n (noted c (in_row rows.second) n (noted c (in_row rows.first) n d)) ≡ noted c (in_rows rows) n d
noted_rows c n rows d =
    sym (noted_both c n (in_row rows.first) (in_row rows.second ++ in_row rows.third) d ∙ noted_both c n (in_row rows.second) (in_row rows.third) (noted c (in_row rows.first) n d))

pub noted_next : (c n r left : ℕ) (d : Table) → 0 < left → noted c (row r left) n d ≡ noted c (row (r + 1) (left - 1)) n (raised (place_of c r) n d)
noted_next c n r zero d some = absurd (omega (arith, some))
noted_next c n r (suc left) d some = let less : left ≡ suc left - 1 = omega arith in ap (λ k. noted c (row (r + 1) k) n (raised (place_of c r) n d)) less

pub noted_none : (c n r left : ℕ) (d : Table) → left ≡ 0 → noted c (row r left) n d ≡ d
noted_none c n r left d none = ap (λ k. noted c (row r k) n d) none

-- ---- lines one after the other

module _ (opened : Opened) where
  -- what is left by the rank that a line has
  pub then_behind : {E : Type 0} (d new : Table) (l : Line) (r : Result ℕ E) → IfOk r (λ n. n ≡ line_rank opened d l) → IfOk r (λ n. new ≡ line_left opened l n d)
      → OnOk r (new ≡ behind_line opened d l)
  then_behind d new l (Ok n) is left = left ∙ ap (λ m. line_left opened l m d) is
  then_behind d new l (Err fault) is left = tt

  abbrev pub behind_all : Table → List Line → Table
  behind_all d [] = d
  behind_all d (l ∷ ls) = behind_all (behind_line opened d l) ls

  pub behind_more : (d : Table) (ls : List Line) (l : Line) → behind_all d (ls ++ l ∷ []) ≡ behind_line opened (behind_all d ls) l
  behind_more d [] l = refl
  behind_more d (k ∷ ls) l = behind_more (behind_line opened d k) ls l

  pub ranked_more : (d : Table) (ls : List Line) (l : Line)
      → ranked opened d (ls ++ l ∷ []) ≡ ranked opened d ls ++ record { rank = line_rank opened (behind_all d ls) l; line = l } ∷ []
  ranked_more d [] l = refl
  ranked_more d (k ∷ ls) l = ap (λ rs. record { rank = line_rank opened d k; line = k } ∷ rs) (ranked_more (behind_line opened d k) ls l)
