use Rattle.std.proofs.Common.{◌≡◌, ◌≤◌, length, take}
use Rattle.vd_outside.specs.Places.{folder_of}
use Rattle.vd_outside.proofs.outside_marks.places.folder_length.Given as goal

abbrev pub decreases-loop-end : goal.decreases-loop-end
decreases-loop-end l = l.end

abbrev pub invariant-loop-end : goal.invariant-loop-end
invariant-loop-end l = (l.end ≤ length l.name) × (folder_of (take l.end l.name) ≡ folder_of l.name)
