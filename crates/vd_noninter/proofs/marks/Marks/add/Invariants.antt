use Rattle.std.proofs.Common.{◌≡◌, ℕ, ◌+◌, ◌-◌, length}
use Rattle.vd_noninter.specs.Reached.{is_marked}
use Rattle.vd_noninter.proofs.marks.Marks.add.Given as goal

abbrev pub invariant-grow : goal.invariant-grow
invariant-grow l = (k : ℕ) → is_marked l.self k ≡ is_marked l.initial.self k

abbrev pub decreases-grow : goal.decreases-grow
decreases-grow l = l.at + 1 - length l.self.marks
