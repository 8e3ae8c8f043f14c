use Rattle.std.proofs.Common.{ℕ, List, length, ◌<◌, ◌≤◌, inl, inr, refl, subst, sym, ◌∙◌}
use Rattle.std.proofs.lemmas.Result.{err_from_is_err_and}
use Rattle.vd_host_children.specs.Lines.{most_words}
use Rattle.vd_host_children.proofs.Outputs.{breaks_count, breaks_number, breaks_over}
use Rattle.vd_host_children.proofs.output.take_line.Goals as goal

pub returns-then-output : goal.returns-then-output
returns-then-output c = inr (refl, breaks_over _ _ c.args.line.now c.if-output.true)

pub returns-then-is : goal.returns-then-is
returns-then-is c = (c.if-output.false, inr (record { line_is = sym c.is.ensures ∙ c.if-is.true; words = refl; over = refl }))

pub returns-in_ok-push-in-Some : goal.returns-in_ok-push-in-Some
returns-in_ok-push-in-Some c = (c.if-output.false, inl (record { word = c.in-Some.word; number = sym c.number.ensures ∙ c.in-Some.is; few = subst (λ (l : List ℕ). length l < most_words) c.as_slice.ensures c.if-as_slice-lt-MOST_WORDS.true; words = c.in_ok-push-in-Some.ensures.ok; over = c.if-output.false }))

pub returns-in_err-push-in-Some : goal.returns-in_err-push-in-Some
returns-in_err-push-in-Some c = let p = err_from_is_err_and c.from_residual.result c.from_residual.ensures.1 in rw (p.1, p.2) (inl refl)

pub returns-else-as_slice-lt-MOST_WORDS : goal.returns-else-as_slice-lt-MOST_WORDS
returns-else-as_slice-lt-MOST_WORDS c = inr (refl, breaks_count _ _ c.args.line.now c.if-output.false (sym c.is.ensures ∙ c.if-is.false) (subst (λ (l : List ℕ). most_words ≤ length l) c.as_slice.ensures c.if-as_slice-lt-MOST_WORDS.false))

pub returns-in-None : goal.returns-in-None
returns-in-None c = inr (refl, breaks_number _ _ c.args.line.now c.if-output.false (sym c.is.ensures ∙ c.if-is.false) (sym c.number.ensures ∙ c.in-None.is))
