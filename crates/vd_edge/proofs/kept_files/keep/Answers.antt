use Rattle.std.proofs.Common.{◌∙◌, sym}
use Rattle.vd_edge.proofs.Tried.{read_is_held, read_is_tried, read_still, noted_is_tried, more_noted, fault_more, failed_more, nothing_came}
use Rattle.vd_edge.proofs.kept_files.keep.Goals as goal

pub returns-in_ok-push-clause-held : goal.returns-in_ok-push-clause-held
returns-in_ok-push-clause-held g c =
    read_is_held g.D.Directory.tells c.args.reading.now.kept c.push.new.self (record { name = c.in_ok-name.name; held = c.in-Some.held }) c.as_str-2.result.now c.in_ok-held.field-0 (g.D.Directory.holds c.args.files.now.directory)
    c.in_ok-push.ensures.ok (c.as_str-2.ensures ∙ sym (c.in_ok-name.ensures ∙ c.as_str-in-Some.ensures)) c.in-Some.is c.in_ok-held.ensures.held

pub returns-in_ok-push-clause-tried : goal.returns-in_ok-push-clause-tried
returns-in_ok-push-clause-tried g c =
    read_is_tried c.args.reading.now.kept c.push.new.self c.args.reading.now.unread (record { name = c.in_ok-name.name; held = c.in-Some.held }) c.args.file.now.name
    c.in_ok-push.ensures.ok (c.in_ok-name.ensures ∙ c.as_str-in-Some.ensures)

pub returns-in_ok-push-clause-before : goal.returns-in_ok-push-clause-before
returns-in_ok-push-clause-before g c = λ name.
    read_still c.args.reading.now.kept c.push.new.self c.args.reading.now.unread (record { name = c.in_ok-name.name; held = c.in-Some.held }) name c.in_ok-push.ensures.ok

pub returns-in_ok-note_unread-clause-tried : goal.returns-in_ok-note_unread-clause-tried
returns-in_ok-note_unread-clause-tried g c =
    noted_is_tried c.args.reading.now.kept c.args.reading.now.unread c.note_unread.new.unread c.args.file.now.name c.in_ok-note_unread.ensures

pub returns-in_ok-note_unread-clause-before : goal.returns-in_ok-note_unread-clause-before
returns-in_ok-note_unread-clause-before g c = λ name.
    more_noted c.args.reading.now.kept c.args.reading.now.unread c.note_unread.new.unread c.args.file.now.name name c.in_ok-note_unread.ensures

pub returns-in_ok-note_unread-clause-counted : goal.returns-in_ok-note_unread-clause-counted
returns-in_ok-note_unread-clause-counted g c = λ first.
    fault_more c.args.reading.now.unread c.note_unread.new.unread c.args.file.now.name first c.args.files.now.faults c.held_of.new.files.faults c.in_ok-note_unread.ensures
    (c.in_ok-held.ensures.rose (nothing_came c.in_ok-held.field-0 c.in_default.not-Some))

pub returns-in_ok-note_unread-clause-failed : goal.returns-in_ok-note_unread-clause-failed
returns-in_ok-note_unread-clause-failed g c =
    failed_more (g.D.Directory.fails_at c.args.files.now.directory) c.args.reading.now.unread c.note_unread.new.unread c.as_str-2.result.now c.args.file.now.name c.as_str-2.ensures
    c.in_ok-note_unread.ensures (c.in_ok-held.ensures.failed (nothing_came c.in_ok-held.field-0 c.in_default.not-Some))
