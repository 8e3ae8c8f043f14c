-- Files that were read ahead of a run: what they tell.
use Rattle.std.specs.Prelude.{◌≡◌, ◌<◌, ◌≤◌, ℕ, ◌+◌, ◌-◌, ◌^◌, min, Bool, true, false, not, nat_lt, ◌&&◌, ◌||◌, IsTrue, List, [], ◌∷◌, ◌++◌, length, codes, nat_eq, Option, Some, None, is_some, ⊤, replicate, if◌then◌else◌}
use Rattle.std.specs.List.{All}
use Rattle.std.specs.List.{starts_with}
use Rattle.std.specs.Str.{bytes_eq}
use Rattle.vd_outside.specs.Files.{Contents, FilesView, with_content}
use Rattle.vd_outside.specs.declared.files.FilesCall.{FilesCall}
use Rattle.vd_outside.specs.declared.files.FilesCall.TheVariants.{Fetch, Store}
use Rattle.vd_edge.specs.declared.kept.Held.{Held}
use Rattle.vd_edge.specs.declared.kept.Held.TheVariants.{Whole, Longer}
use Rattle.vd_edge.specs.declared.kept.Kept.{Kept}
use Rattle.vd_edge.specs.declared.kept.Reading.{Reading}
use Rattle.vd_edge.specs.declared.kept.Unread.{Unread}
use Rattle.vd_edge.specs.declared.kept.Wanted.{Wanted}

-- A file that is longer than it may be stands for one of so many zeros: no fetch tells one from the other.
abbrev pub content : Held → List ℕ
content (Whole bytes) = bytes
content (Longer most) = replicate (most + 1) 0

-- what was read at a name; the first reading counts
abbrev pub as_read : List Kept → Contents
as_read [] name = None
as_read (file ∷ files) name = if bytes_eq file.name name then Some (content file.held) else as_read files name

-- whether what a file holds is not known as far as this limit
abbrev pub is_unknown : Held → ℕ → Bool
is_unknown (Whole bytes) limit = false
is_unknown (Longer most) limit = nat_lt most limit

-- whether what was read gives no answer to a fetch: nothing was read at the name, or what stood there is not known as far as the limit
abbrev pub is_unanswered : List Kept → List ℕ → ℕ → Bool
is_unanswered [] name limit = true
is_unanswered (file ∷ files) name limit = if bytes_eq file.name name then is_unknown file.held limit else is_unanswered files name limit

-- what stands at each name ahead of a run: what the directory held there, where it tells that, and else what was read
abbrev pub stood : (tells : Bool) (held : Contents) (read : List Kept) → Contents
stood tells held read = if tells then held else as_read read

-- the same after these stores, the last of which stands first; after one that failed nothing is told of its name
abbrev pub after_stores : List (List ℕ × Option (List ℕ)) → Contents → Contents
after_stores [] contents = contents
after_stores (store ∷ stores) contents = with_content (after_stores stores contents) store.0 store.1

-- whether one of these calls stores at a name
abbrev pub stores_at : List ℕ → List FilesCall → Bool
stores_at name [] = false
stores_at name (Fetch other ∷ calls) = stores_at name calls
stores_at name (Store other ∷ calls) = bytes_eq other name || stores_at name calls

-- each of these stores was asked
abbrev pub were_asked : List FilesCall → List (List ℕ × Option (List ℕ)) → Bool
were_asked calls [] = true
were_asked calls (store ∷ stores) = stores_at store.0 calls && were_asked calls stores

-- whether a store at this name or beside it failed, so that what stands at a name is open
abbrev pub is_open_by : List ℕ × Option (List ℕ) → List ℕ → Bool
is_open_by store name = not (is_some store.1) && (bytes_eq store.0 name || starts_with nat_eq name (store.0 ++ codes ".tmp-"))

abbrev pub is_open : List (List ℕ × Option (List ℕ)) → List ℕ → Bool
is_open [] name = false
is_open (store ∷ stores) name = is_open_by store name || is_open stores name

-- each file that is told stands whole on the disk
abbrev pub StandWhole : (told disk : Contents) → Type 0
StandWhole told disk = (name bytes : List ℕ) → told name ≡ Some bytes → disk name ≡ Some bytes

-- and nothing else does, but where a store failed
abbrev pub StandAlone : List (List ℕ × Option (List ℕ)) → (told disk : Contents) → Type 0
StandAlone stores told disk = (name : List ℕ) → is_open stores name ≡ false → disk name ≡ told name

-- They tell all: what stood there, with what was stored since in its place, the calls, and how often they have failed. Of a
-- directory that tells what it holds, that is what it held.
abbrev pub kept_view : (tells : Bool) (held : Contents) → List Kept → List FilesCall → List (List ℕ × Option (List ℕ)) → ℕ → FilesView
kept_view tells held read asked stores faults =
    record { told = true; contents = after_stores stores (stood tells held read); asked = asked; faults = faults }

-- what was read is what stood there, where that is known; a directory that tells what it holds gives no file that is not there
abbrev pub IsHeldOf : (tells : Bool) → Held → Option (List ℕ) → Type 0
IsHeldOf tells held None = tells ≡ false
IsHeldOf tells (Whole bytes) (Some all) = bytes ≡ all
IsHeldOf tells (Longer most) (Some all) = most < length all

-- so it is with each of these files
abbrev pub AreHeldOf : (tells : Bool) → List Kept → Contents → Type 0
AreHeldOf tells [] holds = ⊤
AreHeldOf tells (file ∷ files) holds = IsHeldOf tells file.held (holds file.name) × AreHeldOf tells files holds

-- whether what was read is what stands there
abbrev pub is_held_at : Held → Option (List ℕ) → Bool
is_held_at held None = false
is_held_at (Whole bytes) (Some all) = bytes_eq bytes all
is_held_at (Longer most) (Some all) = nat_lt most (length all)

abbrev pub are_held_at : List Kept → Contents → Bool
are_held_at [] holds = true
are_held_at (file ∷ files) holds = is_held_at file.held (holds file.name) && are_held_at files holds

-- whether one of these files has this name
abbrev pub is_unread : List Unread → List ℕ → Bool
is_unread [] name = false
is_unread (file ∷ files) name = bytes_eq file.name name || is_unread files name

-- a file with this name was read, or one could not be read
abbrev pub is_tried : List Kept → List Unread → List ℕ → Bool
is_tried read unread name = is_some (as_read read name) || is_unread unread name

-- so it is with each of these files
abbrev pub AreTried : List Wanted → List Kept → List Unread → Type 0
AreTried wanted read unread = All (λ file. IsTrue (is_tried read unread file.name)) wanted

-- one more file with this name stands at the end
abbrev pub NotesUnread : List ℕ → List Unread → List Unread → Type 0
NotesUnread name before now = (file : Unread) × (file.name ≡ name) × (now ≡ before ++ file ∷ [])

-- what was tried before still is
abbrev pub StillTried : Reading → Reading → Type 0
StillTried before now = (name : List ℕ) → IsTrue (is_tried before.kept before.unread name) → IsTrue (is_tried now.kept now.unread name)

-- at the name of each file that could not be read, a read failed
abbrev pub AreFailed : (fails_at : List ℕ → Type 0) → List Unread → Type 0
AreFailed fails_at [] = ⊤
AreFailed fails_at (file ∷ files) = fails_at file.name × AreFailed fails_at files

-- each of them was a fault of the outside
abbrev pub AreFaults : List Unread → (before now : ℕ) → Type 0
AreFaults unread before now = min (before + length unread) (2 ^ 64 - 1) ≤ now

-- These files were read ahead, and nothing else was asked of them so far. They tell what stood there. What was kept is that, where it is
-- known; each that is not kept could not be read, and was a fault of the files below, whose count went from one number to another.
pub record IsReadAhead (wanted : List Wanted) (fails_at : List ℕ → Type 0) (faults : ℕ × ℕ) (tells : Bool) (holds : Contents)
    (view : FilesView) : Type 0 where
  pub read : List Kept
  pub unread : List Unread
  pub held : AreHeldOf tells read holds
  pub tried : AreTried wanted read unread
  pub failed : AreFailed fails_at unread
  pub counted : AreFaults unread faults.0 faults.1
  pub told : view ≡ kept_view tells holds read [] [] 0
