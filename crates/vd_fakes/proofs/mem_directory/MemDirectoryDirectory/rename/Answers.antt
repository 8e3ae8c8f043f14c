use Rattle.std.proofs.Common.{◌∙◌, List, ap, subst, sym}
use Rattle.vd_fakes.specs.MemDirectory.{held_by}
use Rattle.vd_fakes.specs.declared.mem_directory.Entry.{Entry}
use Rattle.vd_outside.specs.Files.{Contents}
use Rattle.vd_edge.specs.Store.{Moves}
use Rattle.vd_fakes.proofs.Entries.{moved}
use Rattle.vd_fakes.proofs.mem_directory.MemDirectoryDirectory.rename.Goals as goal

pub returns-in_ok-give-in-Some-clause-moves : goal.returns-in_ok-give-in-Some-clause-moves
returns-in_ok-give-in-Some-clause-moves c = λ tells.
    subst (λ (before : Contents). Moves c.args.from.now c.args.to.now before (held_by c.give.new.self.entries)) (ap (λ (l : List Entry). held_by l) c.next_change.ensures.entries)
    (moved (held_by c.next_change.new.self.entries) (held_by c.give.new.self.entries) c.args.from.now c.args.to.now c.in-Some.bytes
    (ap (λ (l : List Entry). held_by l c.args.from.now) (sym c.as_slice.ensures) ∙ (sym c.in_ok-held.ensures ∙ c.in-Some.is))
    c.in_ok-give-in-Some.ensures.given)
