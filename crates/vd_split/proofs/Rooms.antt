-- What is left of registers, call by call.
use Rattle.std.proofs.Common.{ℕ, ◌+◌, ◌≤◌, List, ◌∙◌, arith}
use Rattle.vd_duet.specs.Builder.{HasRoom, TakesAtMost}

pub takes_on : (a b c : ℕ) (n n' n'' : List ℕ) → TakesAtMost a n n' → TakesAtMost b n' n'' → a + b ≤ c → TakesAtMost c n n''
takes_on a b c n n' n'' p q le = (q.0 ∙ p.0, λ h. let x = p.1 h in let y = q.1 h in omega (arith, x, y))

pub room_less : (a c : ℕ) (n : List ℕ) → HasRoom c n → a ≤ c → HasRoom a n
room_less a c n r le h = let x = r h in omega (arith, x)
