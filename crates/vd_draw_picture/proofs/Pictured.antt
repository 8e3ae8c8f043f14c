-- The drawing of a program, from what its parts are.
use Rattle.std.proofs.Common.{◌≡◌, ℕ, List, Result, IfOk, ap, ◌∙◌, subst}
use Rattle.std.specs.declared.alloc.AllocError.{AllocError}
use Rattle.vd_base.specs.declared.protocols.Proto.{Proto}
use Rattle.vd_core.specs.declared.normal.NormalForm.{NormalForm}
use Rattle.vd_constraints.specs.declared.labels.Labels.{Labels}
use Rattle.vd_draw_rows.specs.declared.row.Arrow.{Arrow}
use Rattle.vd_draw_rows.specs.declared.row.Row.{Row}
use Rattle.vd_draw_rows.specs.Rows.{rows_of}
use Rattle.vd_draw_layout.specs.Layout.{label_texts}
use Rattle.vd_draw_picture.specs.Legend.{kinds_of}
use Rattle.vd_draw_picture.specs.Picture.{drawn, rows_picture}

pub pictured : (name source : List ℕ) (p form : NormalForm) (l : Labels) (list : List Proto) (texts : List (List ℕ)) (rows : List Row) (kinds : List Arrow) (result : Result (List ℕ) AllocError) → form ≡ p
    → texts ≡ label_texts form l → rows ≡ rows_of source p list → kinds ≡ kinds_of rows → IfOk result (λ (text : List ℕ). text ≡ rows_picture name form texts rows kinds)
    → IfOk result (λ (text : List ℕ). text ≡ drawn name source p l list)
pictured name source p form l list texts rows kinds result same is_texts is_rows is_kinds said =
    let bytes : rows_picture name form texts rows kinds ≡ drawn name source p l list =
    (λ i. rows_picture name (same i) ((is_texts ∙ ap (λ f. label_texts f l) same) i) (is_rows i) ((is_kinds ∙ ap kinds_of is_rows) i)) in
    subst (λ (b : List ℕ). IfOk result (λ (text : List ℕ). text ≡ b)) bytes said
