use Rattle.std.proofs.Common.{◌≡◌, map, take}
use Rattle.vd_elaborate.proofs.walk.all_names.Given as goal

abbrev pub invariant-loop-ident : goal.invariant-loop-ident
invariant-loop-ident l = l.names ≡ map (λ x. x.name) (take l.ident-index l.idents)
