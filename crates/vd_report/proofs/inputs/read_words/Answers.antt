use Rattle.std.proofs.Common.{◌<◌, [], ◌∷◌, length, arith, sym, ap, ◌∙◌, length-append, Err}
use Rattle.vd_report.specs.declared.fault.ReadFault.TheVariants.{Text}
use Rattle.vd_report.specs.Tokens.{tokens_at, behind, behind_kind}
use Rattle.vd_report.specs.Inputs.{listing, reads, between}
use Rattle.vd_report.proofs.InputsSteps.{reads_go, reads_stop, word_taken, word_refused, section_closed}
use Rattle.vd_report.proofs.inputs.read_words.Goals as goal

pub returns-in_default : goal.returns-in_default
returns-in_default c =
    let t = c.next_token-token.result in
    let bytes = c.args.bytes.now in
    let first = c.next_token-token.ensures.first in
    record {
      within = (c.words.invariant.from, c.words.invariant.within);
      ok = λ hosts host sections.
          c.words.invariant.reads hosts host sections
          ∙ ap (reads hosts bytes (listing host c.words.words) sections) first
          ∙ section_closed hosts bytes host c.words.words sections t (behind bytes t) c.in_default.not-Number
          ∙ ap (reads hosts bytes between _) (sym first);
      err = tt;
    }

pub returns-then-as_slice-clause-err : goal.returns-then-as_slice-clause-err
returns-then-as_slice-clause-err c = λ hosts host sections.
    let t = c.next_token-token.result in
    let bytes = c.args.bytes.now in
    c.words.invariant.reads hosts host sections
    ∙ ap (reads hosts bytes (listing host c.words.words) sections) c.next_token-token.ensures.first
    ∙ reads_stop hosts bytes (behind bytes t) (listing host c.words.words) sections t _ (word_refused hosts bytes host c.words.words sections t c.in-Number.word c.in-Number.is (omega (arith, c.if-as_slice.true, ap length c.as_slice.ensures)))
    ∙ ap (λ at. Err (Text at)) (sym c.offset.ensures)

pub words-preserved : goal.words-preserved
words-preserved c =
    let t = c.next_token-token.result in
    let bytes = c.args.bytes.now in
    let few : length c.words.words < 65536 = omega (arith, c.if-as_slice.false, ap length c.as_slice.ensures, c.words.invariant.few) in
    let within = c.next_token-token.ensures.within in
    record {
      from = omega (arith, within.from, within.start);
      within = within.end;
      few = omega (arith, ap length c.in_ok-push.ensures.ok, length-append c.words.words (c.in-Number.word ∷ []));
      reads = λ hosts host sections.
          c.words.invariant.reads hosts host sections
          ∙ ap (reads hosts bytes (listing host c.words.words) sections) (c.next_token-token.ensures.first ∙ ap (λ k. t ∷ behind_kind bytes t.end k) c.in-Number.is)
          ∙ reads_go hosts bytes (tokens_at bytes t.end) (listing host c.words.words) sections t _ _ (word_taken hosts bytes host c.words.words sections t c.in-Number.word c.in-Number.is few)
          ∙ ap (λ words. reads hosts bytes (listing host words) sections (tokens_at bytes t.end)) (sym c.in_ok-push.ensures.ok);
    }
