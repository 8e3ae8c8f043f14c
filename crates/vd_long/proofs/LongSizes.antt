-- What a Let becomes only makes more.
use Rattle.std.proofs.Common.{ℕ, List, [], refl, arith}
use Rattle.vd_base.specs.declared.ids.SlotId.{SlotId}
use Rattle.vd_core.specs.declared.normal.Right.{Right}
use Rattle.vd_core.specs.declared.normal.Slot.{Slot}
use Rattle.std.specs.Prelude.{Bool}
use Rattle.vd_rewrite.specs.Rewriting.{Made, moved, kept_let}
use Rattle.vd_rewrite.proofs.Front.{Makes, makes_deeper, anything, kept_makes}
use Rattle.vd_long.specs.Lengthened.{long_let}
use Rattle.vd_long.proofs.DivisionMade.{IsDivision, long_cases}
use Rattle.vd_long.proofs.DivisionWellMade.{Fits, fits_all, template_makes}

pub long_makes : (lengthens : SlotId → Bool) (old : List Slot) (x : SlotId) (r : Right) (block : ℕ) (m : Made) → Makes anything m (long_let lengthens old x r block m) 0 1
long_makes lengthens old x r block m =
    let fits : (d : IsDivision r) → Fits d.template [] 0 = λ d. fits_all [] 0 r d d.which in
    long_cases lengthens old (λ (m' : Made). Makes anything m m' 0 1) x r block m (makes_deeper anything m (kept_let old x r block m) 0 0 1 (omega arith) (kept_makes old x r block m))
    (λ d. template_makes anything (λ k o b. refl) d.template (fits d).order old x (moved m.table d.a).0 (moved m.table d.b).0 block m refl)
