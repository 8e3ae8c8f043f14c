-- A row more, and what is left of the rows.
use Rattle.std.proofs.Common.{◌≡◌, ℕ, ◌+◌, ◌-◌, ◌<◌, List, ◌∷◌, ◌++◌, length, take, drop, slice_index_or, add-one, drop-cons, length-drop, ap, sym, subst, ◌∙◌, append_assoc}
use Rattle.std.proofs.Math.Seq.{take-length}
use Rattle.vd_core.specs.declared.normal.Slot.{Slot}
use Rattle.vd_draw_layout.specs.declared.draw_svg.marks.Mark.{Mark}
use Rattle.vd_draw_rows.specs.declared.row.Row.{Row}
use Rattle.vd_draw_layout.specs.declared.layout.Layout.{Layout}
use Rattle.vd_draw_layout.specs.Numbers.{plus}
use Rattle.vd_draw_picture.specs.declared.all_rows.Run.{Run}
use Rattle.vd_draw_picture.specs.AllRows.{rows_marks, step_marks, with_row, next_run}
use Rattle.vd_draw_picture.specs.RowMarks.{next_last, next_number, whole_height}

drop_next : (rows : List Row) (place : ℕ) (row : Row) → place < length rows → row ≡ slice_index_or rows place row → drop place rows ≡ row ∷ drop (place + 1) rows
drop_next rows place row low is = rw add-one (drop-cons rows place row low) ∙ ap (λ (r : Row). r ∷ drop (place + 1) rows) (sym is)

pub all_behind : (rows : List Row) (k : ℕ) → take (length rows - k) (drop k rows) ≡ drop k rows
all_behind rows k = subst (λ (n : ℕ). take n (drop k rows) ≡ drop k rows) (length-drop k rows) (take-length (drop k rows))

pub a_row_more : (g : Layout) (hosts : List (List ℕ)) (slots : List Slot) (labels : List (List ℕ)) (all marks now : List Mark) (y y' number number' last last' : ℕ) (run with run' : Run)
    (rows rest : List Row) (place : ℕ) (row : Row)
    → place < length rows → row ≡ slice_index_or rows place row → rest ≡ drop (place + 1) rows
    → marks ++ rows_marks g hosts slots labels y number last run (drop place rows) ≡ all
    → with ≡ with_row g hosts slots labels run row
    → now ≡ marks ++ step_marks g hosts slots labels y number last with row rest
    → run' ≡ next_run g hosts slots labels with row rest
    → y' ≡ plus y (whole_height 0 number last row rest) → number' ≡ next_number number row rest → last' ≡ next_last last row rest
    → now ++ rows_marks g hosts slots labels y' number' last' run' (drop (place + 1) rows) ≡ all
a_row_more g hosts slots labels all marks now y y' number number' last last' run with run' rows rest place row low is is_rest before is_with pushed is_run is_y is_number is_last =
    let marks_of : List Row → List Mark = rows_marks g hosts slots labels y number last run in
    let behind : Run → List Row → List Mark = λ r more.
    rows_marks g hosts slots labels (plus y (whole_height 0 number last row more)) (next_number number row more) (next_last last row more) (next_run g hosts slots labels r row more) more in
    let step : Run → List Row → List Mark = λ r more. step_marks g hosts slots labels y number last r row more in
    (λ i. pushed i ++ rows_marks g hosts slots labels (is_y i) (is_number i) (is_last i) (is_run i) (sym is_rest i))
    ∙ append_assoc marks (step with rest) (behind with rest)
    ∙ (λ i. marks ++ (step (is_with i) (is_rest i) ++ behind (is_with i) (is_rest i)))
    ∙ ap (λ (r : List Row). marks ++ marks_of r) (sym (drop_next rows place row low is)) ∙ before
