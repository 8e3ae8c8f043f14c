use Rattle.std.proofs.Common.{None, Some}
use Rattle.vd_edge.specs.KeptFiles.{after_stores, stood}
use Rattle.vd_edge.proofs.Ahead.{asked_by}
use Rattle.vd_edge.proofs.Disk.{alone_failed, alone_more, alone_stored, held_still, whole_failed, whole_more, whole_stored}
use Rattle.vd_edge.proofs.kept_files.KeptFilesFiles.store.Goals as goal

pub invariant_of-self-in-Ok-clause-held : goal.invariant_of-self-in-Ok-clause-held
invariant_of-self-in-Ok-clause-held g c =
    held_still g.D.Directory.tells c.args.self.now.kept (g.D.Directory.began c.args.self.now.files.directory) (g.D.Directory.began c.store.new.self.directory) c.store.ensures.begun c.args.self.now.held

pub invariant_of-self-in-Ok-clause-whole : goal.invariant_of-self-in-Ok-clause-whole
invariant_of-self-in-Ok-clause-whole g c = λ tells.
    let before = after_stores c.args.self.now.stores.pairs (stood g.D.Directory.tells (g.D.Directory.began c.args.self.now.files.directory) c.args.self.now.kept) in
    whole_more g.D.Directory.tells c.args.self.now.kept (g.D.Directory.began c.args.self.now.files.directory) (g.D.Directory.began c.store.new.self.directory) c.args.self.now.stores.pairs c.note.new.self.pairs
    c.args.name.now c.as_bytes.result.now (Some c.args.bytes.now) (g.D.Directory.holds c.store.new.self.directory) c.store.ensures.begun c.note.ensures c.as_bytes.ensures.value
    (whole_stored c.args.name.now c.args.bytes.now before (g.D.Directory.holds c.args.self.now.files.directory) (g.D.Directory.holds c.store.new.self.directory) (c.args.self.now.whole tells) (c.in-Ok.ensures.all tells) (c.in-Ok.ensures.others tells))

pub invariant_of-self-in-Ok-clause-alone : goal.invariant_of-self-in-Ok-clause-alone
invariant_of-self-in-Ok-clause-alone g c = λ tells.
    let before = after_stores c.args.self.now.stores.pairs (stood g.D.Directory.tells (g.D.Directory.began c.args.self.now.files.directory) c.args.self.now.kept) in
    alone_more g.D.Directory.tells c.args.self.now.kept (g.D.Directory.began c.args.self.now.files.directory) (g.D.Directory.began c.store.new.self.directory) c.args.self.now.stores.pairs c.note.new.self.pairs
    c.args.name.now c.as_bytes.result.now (Some c.args.bytes.now) (g.D.Directory.holds c.store.new.self.directory) c.store.ensures.begun c.note.ensures c.as_bytes.ensures.value
    (alone_stored c.args.self.now.stores.pairs c.args.name.now c.args.bytes.now before (g.D.Directory.holds c.args.self.now.files.directory) (g.D.Directory.holds c.store.new.self.directory) (c.args.self.now.alone tells) (c.in-Ok.ensures.all tells) (c.in-Ok.ensures.others tells))

pub invariant_of-self-in-Err-Failed-clause-held : goal.invariant_of-self-in-Err-Failed-clause-held
invariant_of-self-in-Err-Failed-clause-held g c =
    held_still g.D.Directory.tells c.args.self.now.kept (g.D.Directory.began c.args.self.now.files.directory) (g.D.Directory.began c.store.new.self.directory) c.store.ensures.begun c.args.self.now.held

pub invariant_of-self-in-Err-Failed-clause-whole : goal.invariant_of-self-in-Err-Failed-clause-whole
invariant_of-self-in-Err-Failed-clause-whole g c = λ tells.
    let before = after_stores c.args.self.now.stores.pairs (stood g.D.Directory.tells (g.D.Directory.began c.args.self.now.files.directory) c.args.self.now.kept) in
    whole_more g.D.Directory.tells c.args.self.now.kept (g.D.Directory.began c.args.self.now.files.directory) (g.D.Directory.began c.store.new.self.directory) c.args.self.now.stores.pairs c.fail.new.self.pairs
    c.args.name.now c.as_bytes-in-Err-Failed.result.now None (g.D.Directory.holds c.store.new.self.directory) c.store.ensures.begun c.fail.ensures c.as_bytes-in-Err-Failed.ensures.value
    (whole_failed c.args.name.now before (g.D.Directory.holds c.args.self.now.files.directory) (g.D.Directory.holds c.store.new.self.directory) (c.args.self.now.whole tells) (c.store.ensures.left tells))

pub invariant_of-self-in-Err-Failed-clause-alone : goal.invariant_of-self-in-Err-Failed-clause-alone
invariant_of-self-in-Err-Failed-clause-alone g c = λ tells.
    let before = after_stores c.args.self.now.stores.pairs (stood g.D.Directory.tells (g.D.Directory.began c.args.self.now.files.directory) c.args.self.now.kept) in
    alone_more g.D.Directory.tells c.args.self.now.kept (g.D.Directory.began c.args.self.now.files.directory) (g.D.Directory.began c.store.new.self.directory) c.args.self.now.stores.pairs c.fail.new.self.pairs
    c.args.name.now c.as_bytes-in-Err-Failed.result.now None (g.D.Directory.holds c.store.new.self.directory) c.store.ensures.begun c.fail.ensures c.as_bytes-in-Err-Failed.ensures.value
    (alone_failed c.args.self.now.stores.pairs c.args.name.now before (g.D.Directory.holds c.args.self.now.files.directory) (g.D.Directory.holds c.store.new.self.directory) (c.args.self.now.alone tells) (c.store.ensures.left tells))

pub invariant_of-self-in-Ok-clause-known : goal.invariant_of-self-in-Ok-clause-known
invariant_of-self-in-Ok-clause-known g c =
    asked_by c.args.self.now.asked c.push.new.self c.in_ok-copy_of.field-0 c.args.name.now c.as_bytes.result.now (Some c.args.bytes.now) c.args.self.now.stores.pairs c.note.new.self.pairs
    c.in_ok-push.ensures.ok c.in_ok-copy_of.ensures c.note.ensures c.as_bytes.ensures.value c.args.self.now.known

pub invariant_of-self-in-Err-Failed-clause-known : goal.invariant_of-self-in-Err-Failed-clause-known
invariant_of-self-in-Err-Failed-clause-known g c =
    asked_by c.args.self.now.asked c.push.new.self c.in_ok-copy_of.field-0 c.args.name.now c.as_bytes-in-Err-Failed.result.now None c.args.self.now.stores.pairs c.fail.new.self.pairs
    c.in_ok-push.ensures.ok c.in_ok-copy_of.ensures c.fail.ensures c.as_bytes-in-Err-Failed.ensures.value c.args.self.now.known
