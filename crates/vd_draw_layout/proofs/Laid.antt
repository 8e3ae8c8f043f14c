-- The columns of some rows, from what their parts are.
use Rattle.std.proofs.Common.{◌≡◌, ℕ, List, length, Result, IfOk, ap, ◌∙◌, subst}
use Rattle.std.specs.declared.alloc.AllocError.{AllocError}
use Rattle.vd_base.specs.declared.protocols.Proto.{Proto}
use Rattle.vd_draw_rows.specs.declared.row.Row.{Row}
use Rattle.vd_draw_layout.specs.declared.layout.Layout.{Layout}
use Rattle.vd_draw_layout.specs.Lanes.{lane_protocols}
use Rattle.vd_draw_layout.specs.Layout.{columns, label_letters, lane_letters, layout_of, text_letters}

pub laid : (hosts labels : List (List ℕ)) (rows : List Row) (texts letters names : ℕ) (protocols : List Proto) (result : Result Layout AllocError) → texts ≡ text_letters rows → letters ≡ label_letters labels
    → protocols ≡ lane_protocols rows (length hosts) → names ≡ lane_letters hosts protocols → IfOk result (λ (layout : Layout). layout ≡ columns rows texts letters names protocols)
    → IfOk result (λ (layout : Layout). layout ≡ layout_of hosts labels rows)
laid hosts labels rows texts letters names protocols result is_texts is_letters is_protocols is_names said =
    let same : columns rows texts letters names protocols ≡ layout_of hosts labels rows =
    (λ i. columns rows (is_texts i) (is_letters i) ((is_names ∙ ap (lane_letters hosts) is_protocols) i) (is_protocols i)) in
    subst (λ (g : Layout). IfOk result (λ (layout : Layout). layout ≡ g)) same said
