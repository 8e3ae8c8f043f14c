use Rattle.std.proofs.Common.{◌≡◌, ◌++◌, drop, filter}
use Rattle.vd_parser.specs.Nesting.{NoneTooDeep}
use Rattle.vd_parser.specs.Outcomes.{BeginSource}
use Rattle.vd_source_lexer.specs.SourceSpellingKinds.{all_kinds}
use Rattle.vd_diag_source.specs.Following.{goes_on, following}
use Rattle.vd_diag_source.proofs.follow.following.Given as goal

-- the kinds that are left complete those so far
abbrev pub invariant-loop-kind : goal.invariant-loop-kind
invariant-loop-kind l = BeginSource l.before → NoneTooDeep l.before → l.found ++ filter (goes_on l.before) (drop l.kind-index l.kind-items) ≡ filter (goes_on l.before) l.kind-items
