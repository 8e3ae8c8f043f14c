use Rattle.std.proofs.Common.{ℕ, ◌≤◌, ◌-◌, ◌++◌, List, length, drop}
use Rattle.vd_source_lexer.specs.Tokens.{Lexes, FirstBad}
use Rattle.vd_source_lexer.specs.declared.token.Token.{Token}
use Rattle.vd_source_lexer.proofs.lexer.tokens.Given as goal

-- the tokens of the rest complete those so far, and the first bad byte of the rest is that of the text
abbrev pub invariant-loop-at : goal.invariant-loop-at
invariant-loop-at l = record {
  within : l.at ≤ length l.bytes;
  tokens : (ts : List Token) → Lexes (drop l.at l.bytes) l.at ts → Lexes l.bytes 0 (l.found ++ ts);
  bad : (k : ℕ) → FirstBad (drop l.at l.bytes) l.at k → FirstBad l.bytes 0 k;
}

abbrev pub decreases-loop-at : goal.decreases-loop-at
decreases-loop-at l = length l.bytes - l.at
