use Rattle.std.proofs.Common.{◌∙◌, IsTrue, sym, subst, arith}
use Rattle.vd_edge.specs.KeptFiles.{AreFailed, AreHeldOf, is_tried}
use Rattle.vd_edge.specs.declared.kept.Wanted.{Wanted}
use Rattle.vd_edge.proofs.Tried.{tried_more, tried_all}
use Rattle.vd_edge.proofs.kept_files.read_all.Goals as goal

pub loop-file-preserved : goal.loop-file-preserved
loop-file-preserved g c =
    let same = c.loop-file.invariant.4 in (
      subst (λ d. AreHeldOf g.D.Directory.tells c.keep.new.reading.kept (g.D.Directory.holds d)) same
          (c.in_ok-keep.ensures.held (subst (λ d. AreHeldOf g.D.Directory.tells c.loop-file.reading.kept (g.D.Directory.holds d)) (sym same) c.loop-file.invariant.0)),
      tried_more c.args.wanted.now c.loop-file.file-index c.file-item.result c.loop-file.reading c.keep.new.reading c.loop-file-test.true c.in_ok-keep.ensures.before c.loop-file.invariant.1
          (subst (λ (file : Wanted). IsTrue (is_tried c.keep.new.reading.kept c.keep.new.reading.unread file.name)) c.file-item.is c.in_ok-keep.ensures.tried),
      c.in_ok-keep.ensures.counted c.args.files.now.faults c.loop-file.invariant.2,
      subst (λ d. AreFailed (g.D.Directory.fails_at d) c.keep.new.reading.unread) same
          (c.in_ok-keep.ensures.failed (subst (λ d. AreFailed (g.D.Directory.fails_at d) c.loop-file.reading.unread) (sym same) c.loop-file.invariant.3)),
      c.in_ok-keep.ensures.same ∙ same,
    )

pub returns-clause-tried : goal.returns-clause-tried
returns-clause-tried g c =
    tried_all c.args.wanted.now c.loop-file.file-index c.loop-file.reading.kept c.loop-file.reading.unread (omega (arith, c.loop-file-test.false)) c.loop-file.invariant.1
