use Rattle.std.proofs.Common.{◌∙◌, sym, ap, subst}
use Rattle.vd_outside.specs.Files.{Contents}
use Rattle.vd_edge.specs.KeptFiles.{AreFaults, AreHeldOf}
use Rattle.vd_edge.proofs.Disk.{alone_from, are_at, failed_there, held_still, view_is, whole_from}
use Rattle.vd_edge.proofs.kept_files.KeptFiles.read.Goals as goal

pub invariant_of-result-clause-held : goal.invariant_of-result-clause-held
invariant_of-result-clause-held g c =
    held_still g.D.Directory.tells c.in_ok-kept.field-0.kept (g.D.Directory.holds c.begin.new.self.directory) (g.D.Directory.began c.read_all.new.files.directory)
    (ap (λ d. g.D.Directory.began d) c.in_ok-kept.ensures.same ∙ (c.begin.ensures.begun ∙ sym c.begin.ensures.same))
    (are_at g.D.Directory.tells c.in_ok-kept.field-0.kept (g.D.Directory.holds c.begin.new.self.directory) c.in_ok-kept.ensures.held)

pub invariant_of-result-clause-whole : goal.invariant_of-result-clause-whole
invariant_of-result-clause-whole g c =
    whole_from g.D.Directory.tells c.in_ok-kept.field-0.kept (g.D.Directory.began c.read_all.new.files.directory) (g.D.Directory.holds c.read_all.new.files.directory) c.new-2.result.pairs c.new-2.ensures
    (ap (λ d. g.D.Directory.began d) c.in_ok-kept.ensures.same ∙ (c.begin.ensures.begun ∙ (sym c.begin.ensures.same ∙ sym (ap (λ d. g.D.Directory.holds d) c.in_ok-kept.ensures.same))))

pub invariant_of-result-clause-alone : goal.invariant_of-result-clause-alone
invariant_of-result-clause-alone g c =
    alone_from g.D.Directory.tells c.in_ok-kept.field-0.kept (g.D.Directory.began c.read_all.new.files.directory) (g.D.Directory.holds c.read_all.new.files.directory) c.new-2.result.pairs c.new-2.ensures
    (ap (λ d. g.D.Directory.began d) c.in_ok-kept.ensures.same ∙ (c.begin.ensures.begun ∙ (sym c.begin.ensures.same ∙ sym (ap (λ d. g.D.Directory.holds d) c.in_ok-kept.ensures.same))))

pub returns-clause-read : goal.returns-clause-read
returns-clause-read g c = record {
  read = c.in_ok-kept.field-0.kept;
  unread = c.in_ok-kept.field-0.unread;
  held = subst (λ (h : Contents). AreHeldOf g.D.Directory.tells c.in_ok-kept.field-0.kept h) c.begin.ensures.same c.in_ok-kept.ensures.held;
  tried = c.in_ok-kept.ensures.tried;
  failed = failed_there (g.D.Directory.fails_at c.args.files.directory) (g.D.Directory.fails_at c.begin.new.self.directory) c.in_ok-kept.field-0.unread c.begin.ensures.failures c.in_ok-kept.ensures.failed;
  counted = subst (λ n. AreFaults c.in_ok-kept.field-0.unread n c.read_all.new.files.faults) c.begin.ensures.faults c.in_ok-kept.ensures.counted;
  told = view_is g.D.Directory.tells c.in_ok-kept.field-0.kept (g.D.Directory.began c.read_all.new.files.directory) (g.D.Directory.holds c.args.files.directory) c.new.result c.new-2.result.pairs
      (ap (λ d. g.D.Directory.began d) c.in_ok-kept.ensures.same ∙ c.begin.ensures.begun) c.new.ensures c.new-2.ensures;
}
