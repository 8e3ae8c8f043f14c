use Rattle.std.proofs.Common.{refl, sym, ap, ◌∙◌, arith, get_or, Ok}
use Rattle.vd_search_tree.specs.Scan.{certificate}
use Rattle.vd_search_tree.proofs.Steps.{mark_more, mark_last, mark_stops, marks_gone}
use Rattle.vd_search_tree.proofs.search_certificate.reader.read_marks.Goals as goal

pub returns-then-at-bytes : goal.returns-then-at-bytes
returns-then-at-bytes c =
    let at = c.loop-at in
    let bytes = c.args.bytes.now in (
      omega arith,
      sym at.invariant.same ∙ mark_more c.args.cost c.args.by_arcs c.args.shifts at.marks bytes at.at (get_or bytes at.at 0) c.loop-at-test.true refl c.if-byte-eq10.true c.if-at-bytes.true,
    )

pub returns-then-byte-eq10 : goal.returns-then-byte-eq10
returns-then-byte-eq10 c =
    let at = c.loop-at in
    let bytes = c.args.bytes.now in
    sym at.invariant.same ∙ mark_last c.args.cost c.args.by_arcs c.args.shifts at.marks bytes at.at (get_or bytes at.at 0) c.loop-at-test.true refl c.if-byte-eq10.true c.if-at-bytes.false
    ∙ ap (λ shifts. Ok (certificate c.args.cost c.args.by_arcs shifts at.marks)) (sym at.invariant.shifts_same)

pub returns-in_default : goal.returns-in_default
returns-in_default c =
    let at = c.loop-at in
    let bytes = c.args.bytes.now in (
      omega arith,
      sym at.invariant.same ∙ mark_stops c.args.cost c.args.by_arcs c.args.shifts at.marks bytes at.at (get_or bytes at.at 0) c.loop-at-test.true refl c.if-byte-eq10.false c.in_default.ensures,
    )

pub returns : goal.returns
returns c = let at = c.loop-at in (omega arith, sym at.invariant.same ∙ marks_gone c.args.cost c.args.by_arcs c.args.shifts at.marks c.args.bytes.now at.at c.loop-at-test.false)
