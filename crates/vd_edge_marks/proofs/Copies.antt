-- No copy of a deal serves twice.
use Rattle.std.proofs.Common.{◌≡◌, ◌∙◌, None, Some, refl, sym}
use Rattle.vd_edge_marks.specs.Views.{NoCopyServesTwice}

pub no_copy_twice : NoCopyServesTwice
no_copy_twice home name beside again bytes text before between later now first stands second =
    let made = (first.made refl).1 in
    let free = (second.free refl).1 in
    let wrong : None ≡ Some bytes = sym free ∙ stands ∙ made in
    absurd (cc wrong)
