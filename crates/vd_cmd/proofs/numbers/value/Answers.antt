use Rattle.std.proofs.Common.{arith, ap, sym, ◌≡◌, ◌+◌, ◌-◌, ◌*◌, ◌^◌, ◌≤◌, drop, [], slice_index_or, ◌∙◌}
use Rattle.std.specs.List.{fold}
use Rattle.std.proofs.lemmas.List.{drop_all}
use Rattle.vd_base.specs.Lexical.{decimal_value}
use Rattle.vd_cmd.proofs.numbers.value.Goals as goal
use Rattle.vd_base.proofs.Front.{fold_ge, value_more}
use Rattle.vd_cmd.proofs.Values.{number_is, number_none}

pub returns-in_err-checked_mul : goal.returns-in_err-checked_mul
returns-in_err-checked_mul c =
    let text = c.args.text.now in
    let i = c.loop-digit.digit-index in
    let so_far : decimal_value text ≡ fold (λ n d. n * 10 + (d - 48)) (c.loop-digit.value * 10 + (slice_index_or text i 0 - 48)) (drop (i + 1) text) =
    sym c.loop-digit.invariant.whole ∙ value_more text c.loop-digit.value i c.loop-digit-test.true in
    let large : 2 ^ 64 ≤ c.loop-digit.value * 10 = omega (arith, c.in_err-checked_mul.ensures) in
    let grown = fold_ge (c.loop-digit.value * 10 + (slice_index_or text i 0 - 48)) (drop (i + 1) text) in
    c.from_residual.ensures ∙ number_none text c.if-not-is_numeral.ensures (omega (arith, so_far, large, grown))

pub returns-in_err-value : goal.returns-in_err-value
returns-in_err-value c =
    let text = c.args.text.now in
    let i = c.loop-digit.digit-index in
    let so_far : decimal_value text ≡ fold (λ n d. n * 10 + (d - 48)) (c.loop-digit.value * 10 + (slice_index_or text i 0 - 48)) (drop (i + 1) text) =
    sym c.loop-digit.invariant.whole ∙ value_more text c.loop-digit.value i c.loop-digit-test.true in
    let large : 2 ^ 64 ≤ c.loop-digit.value * 10 + (slice_index_or text i 0 - 48) = omega (arith, c.in_err-value.ensures, c.in_ok-checked_mul.ensures, c.from.ensures) in
    let grown = fold_ge (c.loop-digit.value * 10 + (slice_index_or text i 0 - 48)) (drop (i + 1) text) in
    c.from_residual-in_err-value.ensures ∙ number_none text c.if-not-is_numeral.ensures (omega (arith, so_far, large, grown))

pub returns : goal.returns
returns c =
    let text = c.args.text.now in
    let none_left : drop c.loop-digit.digit-index text ≡ [] = drop_all c.loop-digit.digit-index text c.loop-digit-test.false in
    let whole : c.loop-digit.value ≡ decimal_value text = sym (ap (fold (λ n d. n * 10 + (d - 48)) c.loop-digit.value) none_left) ∙ c.loop-digit.invariant.whole in
    number_is text c.if-not-is_numeral.ensures c.loop-digit.value whole c.loop-digit.invariant.fits
