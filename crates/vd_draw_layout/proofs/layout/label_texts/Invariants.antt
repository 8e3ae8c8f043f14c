use Rattle.std.proofs.Common.{◌≡◌, map, take}
use Rattle.vd_draw_layout.specs.Words.{label_text}
use Rattle.vd_draw_layout.proofs.layout.label_texts.Given as goal

abbrev pub invariant-loop-label : goal.invariant-loop-label
invariant-loop-label l = l.texts ≡ map (label_text l.form.principals) (take l.label-index l.labels.slots)
