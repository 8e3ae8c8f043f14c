use Rattle.std.proofs.Common.{ℕ, ◌≤◌, ◌<◌, List, length, subst, ◌∙◌}
use Rattle.vd_excuse_runs.proofs.Puts.{put_more, put_done}
use Rattle.vd_excuse_runs.proofs.registers.write.Goals as goal

pub loop-registers-preserved : goal.loop-registers-preserved
loop-registers-preserved c =
    let P : List ℕ → Type 0 = λ l. length l ≤ c.args.register in
    put_more 0 c.loop-registers.registers c.push.new.self c.args.register c.args.word _ (subst P c.as_slice.ensures c.loop-registers-test.true) c.in_ok-push.ensures.ok c.loop-registers.invariant

pub returns : goal.returns
returns c =
    let P : List ℕ → Type 0 = λ l. c.args.register < length l in
    c.set.ensures ∙ put_done 0 c.loop-registers.registers c.args.register c.args.word _ (subst P c.as_slice.ensures c.loop-registers-test.false) c.loop-registers.invariant
