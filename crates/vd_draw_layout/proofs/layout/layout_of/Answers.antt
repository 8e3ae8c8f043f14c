use Rattle.std.proofs.Common.{length, ap, ◌∙◌}
use Rattle.vd_draw_layout.specs.Lanes.{lane_protocols}
use Rattle.vd_draw_layout.proofs.Laid.{laid}
use Rattle.vd_draw_layout.proofs.layout.layout_of.Goals as goal

pub returns : goal.returns
returns c =
    laid c.args.hosts.now c.args.labels.now c.args.rows.now c.text_letters.result c.label_letters.result c.in_ok-names.names c.as_slice-protocols.result.now c.columns.result c.text_letters.ensures c.label_letters.ensures
    (c.as_slice-protocols.ensures ∙ c.in_ok-protocols.ensures {u = tt} ∙ ap (λ hosts. lane_protocols c.args.rows.now (length hosts)) c.as_slice.ensures) (c.in_ok-names.ensures {u = tt}) c.columns.ensures
