use Rattle.std.proofs.Common.{◌≡◌, ◌⊎◌, inl, inr, length, sym, ◌∙◌}
use Rattle.vd_lsp.proofs.SlotLines.{lines_end}
use Rattle.vd_lsp.proofs.hovers.label_lines.Goals as goal

pub returns : goal.returns
returns c =
    let at = c.loop-slot.slot-iterator in
    let ended : (length at.a.rest.now ≡ 0) ⊎ (length at.b.rest.now ≡ 0) = elim c.in-None.ensures.steps [ inl e ↦ inl e.1.0 | inr e ↦ inr e.1.0 ] in
    sym (lines_end c.args.form.now.principals c.args.name.now c.args.statement c.loop-slot.lines at.a.rest.now at.b.rest.now ended) ∙ c.loop-slot.invariant
