use Rattle.std.proofs.Common.{◌≡◌, ap, sym, ◌∙◌, [], Ok, Err, Some, length}
use Rattle.std.proofs.lemmas.List.{length-set}
use Rattle.std.proofs.lemmas.Result.{err_from_is_err_and}
use Rattle.vd_report.specs.Tokens.{tokens_at, text_of, capped}
use Rattle.vd_report.specs.Inputs.{between, named, listing, at_section, reads, inputs_read}
use Rattle.vd_report.proofs.InputsSteps.{name_read, colon_read, stopped, fault_is, fails_is}
use Rattle.vd_report.proofs.inputs.read_sections.Goals as goal

pub returns-in-End-clause-ok : goal.returns-in-End-clause-ok
returns-in-End-clause-ok c =
    let t = c.next_token-name.result in
    sym c.sections.invariant.reads
    ∙ stopped c.args.hosts.now c.args.bytes.now c.sections.sections c.sections.at 0 t c.next_token-name.ensures.first between _
    (ap (at_section c.args.hosts.now c.sections.sections (capped t.start) (text_of c.args.bytes.now t)) c.in-End.is)
    ∙ ap Ok (sym c.in_ok-inputs_of.ensures)

pub returns-in_err-host-clause-err : goal.returns-in_err-host-clause-err
returns-in_err-host-clause-err c =
    let p = err_from_is_err_and c.from_residual-in_err-host.result c.from_residual-in_err-host.ensures.1 in
    let fault = c.in_err-host.field-0.0 in
    let said : inputs_read c.args.hosts.now c.args.bytes.now ≡ Err fault =
    sym c.sections.invariant.reads
    ∙ stopped c.args.hosts.now c.args.bytes.now c.sections.sections c.sections.at 0 c.next_token-name.result c.next_token-name.ensures.first between (Err fault) c.in_err-host.ensures.step in
    rw (p.1, p.2) (fault_is _ fault said)

pub returns-in_err-expect_colon-clause-err : goal.returns-in_err-expect_colon-clause-err
returns-in_err-expect_colon-clause-err c =
    let p = err_from_is_err_and c.from_residual-in_err-expect_colon.result c.from_residual-in_err-expect_colon.ensures.1 in
    let hosts = c.args.hosts.now in
    let bytes = c.args.bytes.now in
    let sections = c.sections.sections in
    let fault = c.in_err-expect_colon.field-0.0 in
    let host = c.in_ok-host.host in
    let said : inputs_read hosts bytes ≡ Err fault =
    sym c.sections.invariant.reads
    ∙ name_read hosts bytes sections c.sections.at host c.next_token-name.result c.next_token-name.ensures.first c.in_default.not-End c.in_ok-host.ensures.step
    ∙ stopped hosts bytes sections c.next_token-name.result.end host c.next_token-colon.result c.next_token-colon.ensures.first (named host) (Err fault) (c.in_err-expect_colon.ensures.err host sections) in
    rw (p.1, p.2) (fault_is _ fault said)

pub returns-in_err-words-clause-err : goal.returns-in_err-words-clause-err
returns-in_err-words-clause-err c =
    let p = err_from_is_err_and c.from_residual-in_err-words.result c.from_residual-in_err-words.ensures.1 in
    let hosts = c.args.hosts.now in
    let bytes = c.args.bytes.now in
    let sections = c.sections.sections in
    let host = c.in_ok-host.host in
    let read : inputs_read hosts bytes ≡ reads hosts bytes (listing host []) sections (tokens_at bytes c.next_token-colon.result.end) =
    sym c.sections.invariant.reads
    ∙ name_read hosts bytes sections c.sections.at host c.next_token-name.result c.next_token-name.ensures.first c.in_default.not-End c.in_ok-host.ensures.step
    ∙ colon_read hosts bytes sections c.next_token-name.result.end host c.next_token-colon.result c.next_token-colon.ensures.first c.in_ok-expect_colon.ensures.ok in
    rw (p.1, p.2) (fails_is hosts bytes c.next_token-colon.result.end host sections _ c.in_err-words.field-0.0 read c.in_err-words.ensures.err)

pub sections-preserved : goal.sections-preserved
sections-preserved c =
    let hosts = c.args.hosts.now in
    let bytes = c.args.bytes.now in
    let sections = c.sections.sections in
    let named_host = name_read hosts bytes sections c.sections.at c.in_ok-host.host c.next_token-name.result c.next_token-name.ensures.first c.in_default.not-End c.in_ok-host.ensures.step in
    let listed = colon_read hosts bytes sections c.next_token-name.result.end c.in_ok-host.host c.next_token-colon.result c.next_token-colon.ensures.first c.in_ok-expect_colon.ensures.ok in
    record {
      within = c.in_ok-words.ensures.within.1;
      count = ap length c.set.ensures ∙ length-set sections c.in_ok-host.host (Some c.in_ok-words.words) ∙ c.sections.invariant.count;
      reads =
          ap (λ s. reads hosts bytes between s (tokens_at bytes c.in_ok-words.end)) c.set.ensures
          ∙ sym (c.in_ok-words.ensures.ok hosts c.in_ok-host.host sections)
          ∙ sym listed
          ∙ sym named_host
          ∙ c.sections.invariant.reads;
    }
