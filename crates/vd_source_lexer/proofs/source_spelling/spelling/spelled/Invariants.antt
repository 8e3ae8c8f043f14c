use Rattle.std.proofs.Common.{◌≡◌, ◌++◌, drop}
use Rattle.vd_source_lexer.specs.Spelled.{spelled}
use Rattle.vd_source_lexer.proofs.source_spelling.spelling.spelled.Given as goal

-- the kinds that are left complete the text so far
abbrev pub invariant-loop-kind : goal.invariant-loop-kind
invariant-loop-kind l = l.text ++ spelled (drop l.kind-index l.kinds) ≡ spelled l.kinds
