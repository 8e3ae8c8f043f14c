-- What a step of the reader answers: what the scanner gives from there on.
use Rattle.std.specs.Prelude.{◌≡◌, ℕ, ◌≤◌, Bool, if◌then◌else◌, Result, Ok, Err, List, length, drop}
use Rattle.vd_search_tree.specs.declared.shift.Shift.{Shift}
use Rattle.vd_search_tree.specs.declared.search_certificate.certificate.Certificate.{Certificate}
use Rattle.vd_base.specs.declared.faults.FileFault.{FileFault}
use Rattle.vd_base.specs.declared.faults.FileFault.TheVariants.{Text, Memory}
use Rattle.vd_search_tree.specs.Scan.{Scanned, Scanner, Read, choice, scan_shift}

-- the offset is one of the bytes', and the rest begins there
abbrev pub Said : List ℕ → Scanned → Result Certificate FileFault → Type 0
Said bytes said (Ok c) = said ≡ Ok c
Said bytes said (Err (Text at)) = (at ≤ length bytes) × (said ≡ Err (drop at bytes))
Said bytes said (Err Memory) = Unit {0}

abbrev pub Moves : List ℕ → Result (List ℕ) (List ℕ) → Result ℕ FileFault → Type 0
Moves bytes said (Ok end) = (end ≤ length bytes) × (said ≡ Ok (drop end bytes))
Moves bytes said (Err (Text at)) = (at ≤ length bytes) × (said ≡ Err (drop at bytes))
Moves bytes said (Err Memory) = ⊥

abbrev pub Numbers : List ℕ → ℕ → ℕ → Read → Result (ℕ × ℕ) FileFault → Type 0
Numbers bytes least most said (Ok read) =
    (read.1 ≤ length bytes) × (least ≤ read.0) × (read.0 ≤ most) × (said ≡ Ok (read.0, drop read.1 bytes))
Numbers bytes least most said (Err (Text at)) = (at ≤ length bytes) × (said ≡ Err (drop at bytes))
Numbers bytes least most said (Err Memory) = ⊥

abbrev pub AddMoves : List ℕ → ℕ → Result (Bool × ℕ) FileFault → Type 0
AddMoves bytes start (Ok read) =
    (read.1 ≤ length bytes)
    × ((yes no : Scanner) → choice 43 yes 45 no (drop start bytes) ≡ (if read.0 then yes (drop read.1 bytes) else no (drop read.1 bytes)))
AddMoves bytes start (Err (Text at)) =
    (at ≤ length bytes) × ((yes no : Scanner) → choice 43 yes 45 no (drop start bytes) ≡ Err (drop at bytes))
AddMoves bytes start (Err Memory) = ⊥

abbrev pub ShiftMoves : List ℕ → ℕ → Result (Shift × ℕ) FileFault → Type 0
ShiftMoves bytes start (Ok read) =
    (read.1 ≤ length bytes) × ((next : Shift → Scanner) → scan_shift next (drop start bytes) ≡ next read.0 (drop read.1 bytes))
ShiftMoves bytes start (Err (Text at)) =
    (at ≤ length bytes) × ((next : Shift → Scanner) → scan_shift next (drop start bytes) ≡ Err (drop at bytes))
ShiftMoves bytes start (Err Memory) = ⊥
