use Rattle.std.proofs.Common.{◌≡◌, drop}
use Rattle.vd_resolve.specs.declared.size.Size.{Size}
use Rattle.vd_resolve.specs.Causes.{signs_telling}
use Rattle.vd_resolve.specs.Rules.{signs_typing}
use Rattle.vd_resolve.specs.Sizes.{IsCapped, signs_after}
use Rattle.vd_resolve.proofs.expression.with_signs.Given as goal

abbrev pub invariant-loop-sign : goal.invariant-loop-sign
invariant-loop-sign l =
    (signs_typing (drop l.sign-index l.signs) l.typed.kind ≡ signs_typing l.signs l.fn.operand.kind)
    × (signs_telling (drop l.sign-index l.signs) l.typed.kind ≡ signs_telling l.signs l.fn.operand.kind)
    × ((exact : Size) → IsCapped l.fn.operand.size exact
    → (now : Size) × IsCapped l.typed.size now × (signs_after now (drop l.sign-index l.signs) ≡ signs_after exact l.signs))
