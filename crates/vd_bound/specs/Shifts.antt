-- What a checker answers of a whole certificate: first the shifts that name nothing.
use Rattle.std.specs.Prelude.{ℕ, ◌+◌, Bool, ◌&&◌, not, nat_lt, if◌then◌else◌, Option, Some, None, Result, Err, List, [], ◌∷◌}
use Rattle.std.specs.Option.{option_map_or}
use Rattle.vd_search_tree.specs.declared.shift.Shift.{Shift}
use Rattle.vd_search_tree.specs.Trees.{Tree}
use Rattle.vd_search_tree.specs.declared.search_certificate.certificate.Certificate.{Certificate}
use Rattle.vd_bound.specs.declared.checking.CheckFault.{CheckFault}
use Rattle.vd_bound.specs.declared.checking.CheckFault.TheVariants.{BadShift}
use Rattle.vd_bound.specs.declared.checking.Proved.{Proved}
use Rattle.vd_bound.specs.Checking.{checked}

-- it names no use, or no place of a protocol
abbrev pub is_bad : ℕ → ℕ → Shift → Bool
is_bad uses choices shift = not (nat_lt shift.at uses && nat_lt shift.proto choices)

-- the number of the first such shift, where the first of all has this number
abbrev pub first_bad : ℕ → ℕ → ℕ → List Shift → Option ℕ
first_bad uses choices at [] = None
first_bad uses choices at (shift ∷ shifts) = if is_bad uses choices shift then Some at else first_bad uses choices (at + 1) shifts

abbrev pub certificate_checked : ℕ → Tree → Certificate → Result Proved CheckFault
certificate_checked uses tree c = option_map_or (λ shift. Err (BadShift shift)) (first_bad uses tree.choices 0 c.shifts) (checked tree c.cost c.marks)
