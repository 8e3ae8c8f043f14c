-- Two words for one.
use Rattle.std.proofs.Common.{true≢false, [], ◌∷◌, refl, sym, ◌∙◌, arith}
use Rattle.vd_execution.specs.Joint.{Hosts, fresh}
use Rattle.vd_execution.specs.Text.{register}
use Rattle.vd_integrity_runs.specs.Departing.{after_telling}
use Rattle.vd_integrity_runs.specs.IntegrityBackendsExample.{TwoWordsForOne}
use Rattle.vd_integrity_runs.proofs.Steps.{Wrote, heard_word}

pub two_words_for_one : TwoWordsForOne
two_words_for_one t one other =
    let u : Hosts = after_telling 2 (one ∷ []) 0 (register 1 ∷ []) fresh in
    let w : Hosts = after_telling 2 (other ∷ []) 1 (register 1 ∷ []) (after_telling 2 (one ∷ []) 0 (register 1 ∷ []) fresh) in
    let first : Wrote 0 1 one fresh u = heard_word 2 one 0 (register 1) fresh (λ e. omega (arith, e)) in
    let second : Wrote 1 1 other u w = heard_word 2 other 1 (register 1) (after_telling 2 (one ∷ []) 0 (register 1 ∷ []) fresh) (λ e. omega (arith, e)) in
    record {
      after = w;
      runs = (
        one ∷ [],
        (
          record { own = λ is. absurd (true≢false (sym is)); fits = refl },
          (other ∷ [], (record { own = λ is. absurd (true≢false (sym is)); fits = refl }, refl)),
        ),
      );
      first = second.elsewhere 0 1 (λ e f. omega (arith, e)) ∙ first.there;
      second = second.there;
    }
