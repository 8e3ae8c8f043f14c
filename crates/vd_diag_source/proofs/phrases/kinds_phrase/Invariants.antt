use Rattle.std.proofs.Common.{◌≡◌, ◌++◌, drop, length}
use Rattle.vd_diag_source.specs.Phrases.{kinds_from}
use Rattle.vd_diag_source.proofs.phrases.kinds_phrase.Given as goal

-- the kinds that are left complete the text so far
abbrev pub invariant-loop-place : goal.invariant-loop-place
invariant-loop-place l = l.text ++ kinds_from l.place (length l.kinds) (drop l.place l.kinds) ≡ kinds_from 0 (length l.kinds) l.kinds
