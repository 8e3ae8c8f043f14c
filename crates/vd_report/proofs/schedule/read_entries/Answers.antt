use Rattle.std.proofs.Common.{◌≡◌, ◌++◌, ◌∷◌, [], ap, sym, ◌∙◌, Err}
use Rattle.std.proofs.lemmas.Result.{err_from_is_err_and}
use Rattle.vd_report.specs.Tokens.{tokens_at, capped}
use Rattle.vd_report.specs.Schedule.{schedule_read, reads_entries, behind_all}
use Rattle.vd_report.proofs.InputsSteps.{fault_is}
use Rattle.vd_report.proofs.ScheduleSteps.{entry_read, entries_stop, entries_end, last_read}
use Rattle.vd_report.proofs.schedule.read_entries.Goals as goal

pub returns-in-End-clause-ok : goal.returns-in-End-clause-ok
returns-in-End-clause-ok c =
    sym c.entries.invariant.reads
    ∙ entries_end c.args.hosts.now c.args.bytes.now c.entries.entries c.entries.at c.next_token-token.result c.next_token-token.ensures.first c.in-End.is

pub returns-in_err-expect_end-in-All-clause-err : goal.returns-in_err-expect_end-in-All-clause-err
returns-in_err-expect_end-in-All-clause-err c =
    let p = err_from_is_err_and c.from_residual.result c.from_residual.ensures.1 in
    let fault = c.in_err-expect_end-in-All.field-0.0 in
    let said : schedule_read c.args.hosts.now c.args.bytes.now ≡ Err fault =
    sym c.entries.invariant.reads
    ∙ last_read c.args.hosts.now c.args.bytes.now c.entries.entries c.entries.at c.next_token-token.result c.next_token-token.ensures.first c.next_token-last.result c.next_token-last.ensures.first c.in-All.is
    ∙ c.in_err-expect_end-in-All.ensures.err c.entries.entries in
    rw (p.1, p.2) (fault_is _ fault said)

pub returns-in-All-clause-ok : goal.returns-in-All-clause-ok
returns-in-All-clause-ok c =
    sym c.entries.invariant.reads
    ∙ last_read c.args.hosts.now c.args.bytes.now c.entries.entries c.entries.at c.next_token-token.result c.next_token-token.ensures.first c.next_token-last.result c.next_token-last.ensures.first c.in-All.is
    ∙ ap (behind_all c.entries.entries (capped c.next_token-last.result.start)) c.in_ok-expect_end-in-All.ensures.ok

pub returns-in_err-host-in_default-clause-err : goal.returns-in_err-host-in_default-clause-err
returns-in_err-host-in_default-clause-err c =
    let p = err_from_is_err_and c.from_residual-in_err-host-in_default.result c.from_residual-in_err-host-in_default.ensures.1 in
    let fault = c.in_err-host-in_default.field-0.0 in
    let said : schedule_read c.args.hosts.now c.args.bytes.now ≡ Err fault =
    sym c.entries.invariant.reads
    ∙ entries_stop c.args.hosts.now c.args.bytes.now c.entries.entries c.entries.at c.next_token-token.result c.next_token-token.ensures.first (Err fault) c.in_err-host-in_default.ensures in
    rw (p.1, p.2) (fault_is _ fault said)

pub entries-preserved : goal.entries-preserved
entries-preserved c =
    let hosts = c.args.hosts.now in
    let bytes = c.args.bytes.now in
    let longer = c.entries.entries ++ c.in_ok-host-in_default.host ∷ [] in
    record {
      within = c.next_token-token.ensures.within.end;
      reads =
          ap (λ entries. reads_entries hosts bytes entries (tokens_at bytes c.next_token-token.result.end)) c.in_ok-push-in_default.ensures.ok
          ∙ sym (entry_read hosts bytes c.entries.entries c.entries.at c.next_token-token.result c.next_token-token.ensures.first c.in_default.not-End longer c.in_ok-host-in_default.ensures)
          ∙ c.entries.invariant.reads;
    }
