-- Children that are read by turns.
use Rattle.std.specs.Prelude.{◌≡◌, ◌≢◌, ℕ, Bool, false, nat_eq, nat_lt, List, [], ◌∷◌, Option, None, Some, slice_get, ⊤, if◌then◌else◌}
use Rattle.std.specs.Io.KnownBytes.{Keeps}
use Rattle.vd_edge_processes.specs.Lines.{GivesLine}

-- the same bytes are left of an output, unless it cannot be read any more
abbrev pub StillLeft : (broken broken_now : Bool) → (left left_now : Option (List ℕ)) → Type 0
StillLeft broken broken_now left left_now = broken_now ≡ false → (broken ≡ false) × Keeps left left_now

-- so it is with each child
abbrev pub KeepAll : {P : Type 0} → (P → Bool) → (P → Option (List ℕ)) → (before now : List P) → Type 0
KeepAll broken left [] [] = ⊤
KeepAll broken left (first ∷ before) (child ∷ now) = StillLeft (broken first) (broken child) (left first) (left child) × KeepAll broken left before now
KeepAll broken left before now = ⊥

-- the next line of one of them, or none at the end of its output
abbrev pub GivesLineOf : {P : Type 0} → (P → Option (List ℕ)) → (number : ℕ) → (before now : List P) → Option (List ℕ) → Type 0
GivesLineOf {P} left number before now line =
    (first child : P) → slice_get before number ≡ Some first → slice_get now number ≡ Some child → GivesLine (left first) (left child) line

-- one of them ended with this number
abbrev pub EndedAs : {P : Type 0} → (ended : P → ℕ → Type 0) → (children : List P) → (number status : ℕ) → Type 0
EndedAs {P} ended children number status = (child : P) × (slice_get children number ≡ Some child) × ended child status

-- how far a status is from being a cause: the end of a link (25) is nearly always what became of another's fault, a fault of a peer (18) often
abbrev pub remoteness : ℕ → ℕ
remoteness status = if nat_eq status 25 then 2 else if nat_eq status 18 then 1 else 0

-- of a child that was found and one that ended with a fault, the one whose status is less likely to come of another's; the first of two alike
abbrev pub likelier : Option (ℕ × ℕ) → (number : ℕ) → Option ℕ → Option (ℕ × ℕ)
likelier found number None = found
likelier None number (Some status) = Some (number, status)
likelier (Some first) number (Some status) = if nat_lt (remoteness status) (remoteness first.1) then Some (number, status) else Some first

-- Of two children that ended with these statuses the one with the first is named, whichever of the two is asked first.
abbrev pub IsNamedBefore : (cause effect : ℕ) → Type 0
IsNamedBefore cause effect = (a b : ℕ) → (likelier (Some (a, cause)) b (Some effect) ≡ Some (a, cause)) × (likelier (Some (b, effect)) a (Some cause) ≡ Some (a, cause))

-- A child whose link was ended (25) is named only where all others that ended with a fault are of this kind; one that blames a peer (18)
-- only where each other one has one of these two statuses.
pub record CausesComeFirst : Type 0 where
  pub ended_link : (cause : ℕ) → cause ≢ 25 → IsNamedBefore cause 25
  pub blamed_peer : (cause : ℕ) → cause ≢ 25 → cause ≢ 18 → IsNamedBefore cause 18
