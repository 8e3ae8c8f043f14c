use Rattle.std.proofs.Common.{◌++◌, ap, ◌∙◌, append_assoc}
use Rattle.vd_search_tree.specs.Texts.{cost_text, heading, shifts_text}
use Rattle.vd_search_tree.proofs.Forms.{appended}
use Rattle.vd_search_tree.proofs.search_certificate.writer.push_further.Goals as goal

pub returns : goal.returns
returns c =
    let front = heading c.args.by_arcs in
    let cost = cost_text c.args.cost in
    appended c.push_shifts.result c.args.text.now (front ++ cost) c.push_cost.new.text c.push_shifts.new.text (shifts_text c.args.shifts.now)
    (c.in_ok-push_cost.ensures {u = tt} ∙ ap (λ t. t ++ cost) (c.in_ok-push_heading.ensures {u = tt}) ∙ append_assoc c.args.text.now front cost)
    c.push_shifts.ensures
