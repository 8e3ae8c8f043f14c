use Rattle.std.proofs.Common.{◌∙◌, List, Some, ap}
use Rattle.vd_fakes.specs.MemDirectory.{held_by}
use Rattle.vd_fakes.specs.declared.mem_directory.Entry.{Entry}
use Rattle.vd_fakes.proofs.Entries.{stands_there}
use Rattle.vd_fakes.proofs.Freed.{others_stay}
use Rattle.vd_fakes.proofs.mem_directory.MemDirectoryDirectory.write.Goals as goal

pub returns-clause-all : goal.returns-clause-all
returns-clause-all c = λ tells.
    stands_there (held_by c.next_change.new.self.entries) (held_by c.put.new.self.entries) c.args.name.now _ c.in_ok-put.ensures.put
    ∙ ap Some c.in_ok-bytes.ensures

pub returns-clause-others : goal.returns-clause-others
returns-clause-others c = λ tells other apart.
    others_stay (held_by c.next_change.new.self.entries) (held_by c.put.new.self.entries) c.args.name.now other _ c.in_ok-put.ensures.put apart
    ∙ ap (λ (l : List Entry). held_by l other) c.next_change.ensures.entries
