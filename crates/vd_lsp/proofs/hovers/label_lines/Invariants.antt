use Rattle.std.proofs.Common.{◌≡◌, []}
use Rattle.vd_lsp.specs.Hovers.{lines_behind}
use Rattle.vd_lsp.proofs.hovers.label_lines.Given as goal

-- the slots that are left give the lines that are not there yet
abbrev pub invariant-loop-slot : goal.invariant-loop-slot
invariant-loop-slot l =
    lines_behind l.form.principals l.name l.statement l.lines l.slot-iterator.a.rest.now l.slot-iterator.b.rest.now
    ≡ lines_behind l.form.principals l.name l.statement [] l.form.slots l.labels.slots
