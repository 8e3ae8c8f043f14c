use Rattle.std.proofs.Common.{List, ℕ, length, ap, arith}
use Rattle.vd_base.proofs.WordLists.{each_list}
use Rattle.vd_base.proofs.words.inputs_fit.Goals as goal

pub returns : goal.returns
returns c = each_list c.args.inputs.now (λ h lt. c.loop-words.invariant h (let same = ap (λ (xs : List (List ℕ)). length xs) c.as_slice-words-items.ensures in omega (arith, lt, same)))
