-- Lines of what a child writes.
use Rattle.std.specs.Prelude.{◌≡◌, ◌≢◌, ◌≤◌, ◌<◌, ℕ, List, [], ◌∷◌, Option, None, Some, ⊤, nat_eq, if◌then◌else◌, length, take, drop}
use Rattle.std.specs.Io.KnownBytes.{Consumes, IsAtEnd, Keeps, prepend_known}
use Rattle.vd_edge_processes.specs.declared.next.Next.{Next}
use Rattle.vd_edge_processes.specs.declared.next.Next.TheVariants as next

-- the bytes before the first LF (10), or all where there is none
abbrev pub first_line : List ℕ → List ℕ
first_line [] = []
first_line (byte ∷ bytes) = if nat_eq byte 10 then [] else byte ∷ first_line bytes

-- the bytes behind the first LF, or none
abbrev pub behind_line : List ℕ → List ℕ
behind_line [] = []
behind_line (byte ∷ bytes) = if nat_eq byte 10 then bytes else behind_line bytes

-- the next line of the bytes that are left, also where no LF ends it, and no line at their end
abbrev pub GivesLine : Option (List ℕ) → Option (List ℕ) → Option (List ℕ) → Type 0
GivesLine None now line = ⊤
GivesLine (Some left) now None = left ≡ []
GivesLine (Some left) now (Some line) = (left ≢ []) × (line ≡ first_line left) × (now ≡ Some (behind_line left))

-- the bytes that are left of an output: what was read and not handed out, and what is still to be read, which at its end is nothing
abbrev pub left : {O : Type 0} → (O → Option (List ℕ)) → Option O → List ℕ → ℕ → Option (List ℕ)
left remaining None bytes handed = Some (drop handed bytes)
left remaining (Some output) bytes handed = prepend_known (drop handed bytes) (remaining output)

-- what a stream gives at once: nothing so far, or bytes at the front of a piece, and no bytes only at its end
abbrev pub GivesNow : Option (List ℕ) → Option (List ℕ) → List ℕ → Option ℕ → Type 0
GivesNow before now piece None = Keeps before now
GivesNow before now piece (Some count) =
    (count ≤ length piece) × Consumes before now (take count piece) × (count ≡ 0 → 0 < length piece → IsAtEnd now)

-- what there is of the next line: where it is not there so far, all bytes are left
abbrev pub GivesNext : Option (List ℕ) → Option (List ℕ) → Next → Type 0
GivesNext before now (next.Line line) = GivesLine before now (Some line)
GivesNext before now next.End = GivesLine before now None
GivesNext before now next.Later = Keeps before now
