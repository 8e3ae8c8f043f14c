-- Which files were tried.
use Rattle.std.proofs.Common.{◌≡◌, ◌≢◌, ℕ, ◌+◌, ◌≤◌, ◌<◌, Bool, true, false, ◌||◌, List, [], ◌∷◌, ◌++◌, take, length, length-append, get_or, min, ◌-◌, ◌^◌, Option, Some, None, is_some, IsTrue, IfSome, if◌then◌else◌, refl, sym, ◌∙◌, subst, ap, arith}
use Rattle.std.specs.Str.{bytes_eq}
use Rattle.std.proofs.lemmas.List.{take_all}
use Rattle.std.proofs.lemmas.List.Elements.{All-more}
use Rattle.std.proofs.lemmas.Slice.Eq.{bytes_eq-Decides}
use Rattle.vd_outside.specs.Causes.{Rose}
use Rattle.vd_outside.specs.Files.{Contents}
use Rattle.vd_edge.proofs.Ahead.{held_more}
use Rattle.vd_edge.specs.KeptFiles.{AreFailed, AreFaults, AreHeldOf, AreTried, IsHeldOf, NotesUnread, StillTried, as_read, content, is_tried, is_unread}
use Rattle.vd_edge.specs.declared.kept.Held.{Held}
use Rattle.vd_edge.specs.declared.kept.Kept.{Kept}
use Rattle.vd_edge.specs.declared.kept.Reading.{Reading}
use Rattle.vd_edge.specs.declared.kept.Unread.{Unread}
use Rattle.vd_edge.specs.declared.kept.Wanted.{Wanted}

-- one of two holds still, where each that held does
either_still : (a b c d : Bool) → (a ≡ true → c ≡ true) → (b ≡ true → d ≡ true) → (a || b) ≡ true → (c || d) ≡ true
either_still true b true d first second is = refl
either_still true b false d first second is = absurd (cc (first refl))
either_still false b true d first second is = refl
either_still false b false d first second is = second is

by_right : (a b : Bool) → b ≡ true → (a || b) ≡ true
by_right true b is = refl
by_right false b is = is

by_left : (a b : Bool) → a ≡ true → (a || b) ≡ true
by_left true b is = refl
by_left false b is = absurd (cc is)

same_name : (name : List ℕ) → bytes_eq name name ≡ true
same_name name = (bytes_eq-Decides name name).1 refl

some_still : (b : Bool) (bytes : List ℕ) (before now : Option (List ℕ)) → (is_some before ≡ true → is_some now ≡ true)
    → is_some (if b then Some bytes else before) ≡ true → is_some (if b then Some bytes else now) ≡ true
some_still true bytes before now still is = refl
some_still false bytes before now still is = still is

some_first : (b : Bool) (bytes : List ℕ) (otherwise : Option (List ℕ)) → b ≡ true → is_some (if b then Some bytes else otherwise) ≡ true
some_first true bytes otherwise is = refl
some_first false bytes otherwise is = absurd (cc is)

some_behind : (b : Bool) (bytes : List ℕ) (otherwise : Option (List ℕ)) → is_some otherwise ≡ true → is_some (if b then Some bytes else otherwise) ≡ true
some_behind true bytes otherwise is = refl
some_behind false bytes otherwise is = is

-- what was read at a name, with one more file behind
read_more : (read : List Kept) (file : Kept) (name : List ℕ) → is_some (as_read read name) ≡ true → is_some (as_read (read ++ file ∷ []) name) ≡ true
read_more [] file name is = absurd (cc is)
read_more (first ∷ read) file name is =
    some_still (bytes_eq first.name name) (content first.held) (as_read read name) (as_read (read ++ file ∷ []) name) (read_more read file name) is

read_last : (read : List Kept) (file : Kept) → is_some (as_read (read ++ file ∷ []) file.name) ≡ true
read_last [] file = some_first (bytes_eq file.name file.name) (content file.held) None (same_name file.name)
read_last (first ∷ read) file = some_behind (bytes_eq first.name file.name) (content first.held) (as_read (read ++ file ∷ []) file.name) (read_last read file)

unread_more : (unread : List Unread) (file : Unread) (name : List ℕ) → is_unread unread name ≡ true → is_unread (unread ++ file ∷ []) name ≡ true
unread_more [] file name is = absurd (cc is)
unread_more (first ∷ unread) file name is =
    either_still (bytes_eq first.name name) (is_unread unread name) (bytes_eq first.name name) (is_unread (unread ++ file ∷ []) name) (λ e. e) (unread_more unread file name) is

unread_last : (unread : List Unread) (file : Unread) → is_unread (unread ++ file ∷ []) file.name ≡ true
unread_last [] file = by_left (bytes_eq file.name file.name) false (same_name file.name)
unread_last (first ∷ unread) file = by_right (bytes_eq first.name file.name) (is_unread (unread ++ file ∷ []) file.name) (unread_last unread file)

kept_is_tried : (read : List Kept) (unread : List Unread) (file : Kept) → IsTrue (is_tried (read ++ file ∷ []) unread file.name)
kept_is_tried read unread file = by_left (is_some (as_read (read ++ file ∷ []) file.name)) (is_unread unread file.name) (read_last read file)

pub noted_is_tried : (read : List Kept) (before now : List Unread) (name : List ℕ) → NotesUnread name before now → IsTrue (is_tried read now name)
noted_is_tried read before now name notes =
    by_right (is_some (as_read read name)) (is_unread now name)
    (subst (λ n. is_unread now n ≡ true) notes.1 (subst (λ all. is_unread all notes.0.name ≡ true) (sym notes.2) (unread_last before notes.0)))

more_kept : (read : List Kept) (unread : List Unread) (file : Kept) (name : List ℕ) → IsTrue (is_tried read unread name) → IsTrue (is_tried (read ++ file ∷ []) unread name)
more_kept read unread file name is =
    either_still (is_some (as_read read name)) (is_unread unread name) (is_some (as_read (read ++ file ∷ []) name)) (is_unread unread name) (read_more read file name) (λ e. e) is

pub more_noted : (read : List Kept) (before now : List Unread) (other : List ℕ) (name : List ℕ) → NotesUnread other before now → IsTrue (is_tried read before name) → IsTrue (is_tried read now name)
more_noted read before now other name notes is =
    either_still (is_some (as_read read name)) (is_unread before name) (is_some (as_read read name)) (is_unread now name) (λ e. e)
    (λ e. subst (λ all. is_unread all name ≡ true) (sym notes.2) (unread_more before notes.0 name e)) is

-- files that were tried still are
still_all : (wanted : List Wanted) (before now : Reading) → StillTried before now → AreTried wanted before.kept before.unread → AreTried wanted now.kept now.unread
still_all wanted before now still tried = λ k d less. still (get_or wanted k d).name (tried k d less)

-- and one more is
pub tried_more : (wanted : List Wanted) (place : ℕ) (file : Wanted) (before now : Reading) → place < length wanted → StillTried before now
    → AreTried (take place wanted) before.kept before.unread → IsTrue (is_tried now.kept now.unread (get_or wanted place file).name)
    → AreTried (take (place + 1) wanted) now.kept now.unread
tried_more wanted place file before now less still tried is =
    All-more (λ file. IsTrue (is_tried now.kept now.unread file.name)) wanted place file less (still_all (take place wanted) before now still tried) is

-- where all were gone over, each was tried
pub tried_all : (wanted : List Wanted) (place : ℕ) (read : List Kept) (unread : List Unread) → length wanted ≤ place → AreTried (take place wanted) read unread → AreTried wanted read unread
tried_all wanted place read unread all tried = subst (λ files. AreTried files read unread) (take_all place wanted all) tried

-- a file that was read joins those that are held
pub read_is_held : (tells : Bool) (read now : List Kept) (file : Kept) (asked : List ℕ) (came : Option Held) (holds : Contents) → now ≡ read ++ file ∷ [] → asked ≡ file.name → came ≡ Some file.held
    → IfSome came (λ held. IsHeldOf tells held (holds asked)) → AreHeldOf tells read holds → AreHeldOf tells now holds
read_is_held tells read now file asked came holds more same is held are =
    subst (λ files. AreHeldOf tells files holds) (sym more)
    (held_more tells read file holds are (subst (λ n. IsHeldOf tells file.held (holds n)) same (subst (λ c. IfSome c (λ held. IsHeldOf tells held (holds asked))) is held)))

-- and is tried, under its name
pub read_is_tried : (read now : List Kept) (unread : List Unread) (file : Kept) (name : List ℕ) → now ≡ read ++ file ∷ [] → file.name ≡ name → IsTrue (is_tried now unread name)
read_is_tried read now unread file name more same =
    subst (λ n. IsTrue (is_tried now unread n)) same (subst (λ files. IsTrue (is_tried files unread file.name)) (sym more) (kept_is_tried read unread file))

pub read_still : (read now : List Kept) (unread : List Unread) (file : Kept) (name : List ℕ) → now ≡ read ++ file ∷ [] → IsTrue (is_tried read unread name) → IsTrue (is_tried now unread name)
read_still read now unread file name more is =
    subst (λ files. IsTrue (is_tried files unread name)) (sym more) (more_kept read unread file name is)

-- one more file that could not be read, and one more fault
count_more : (first before mid last now : ℕ) → now ≡ before + 1 → min (mid + 1) (2 ^ 64 - 1) ≤ last → min (first + before) (2 ^ 64 - 1) ≤ mid → min (first + now) (2 ^ 64 - 1) ≤ last
count_more first before mid last now e rose was = omega (arith, e, rose, was)

pub fault_more : (before now : List Unread) (name : List ℕ) (first mid last : ℕ) → NotesUnread name before now → Rose mid last → AreFaults before first mid → AreFaults now first last
fault_more before now name first mid last notes rose was =
    count_more first (length before) mid last (length now) (ap length notes.2 ∙ length-append before (notes.0 ∷ [])) rose was

-- and a read failed at its name
failed_last : (fails_at : List ℕ → Type 0) (files : List Unread) (file : Unread) → AreFailed fails_at files → fails_at file.name → AreFailed fails_at (files ++ file ∷ [])
failed_last fails_at [] file are is = (is, tt)
failed_last fails_at (first ∷ files) file are is = (are.0, failed_last fails_at files file are.1 is)

pub failed_more : (fails_at : List ℕ → Type 0) (before now : List Unread) (asked name : List ℕ) → asked ≡ name → NotesUnread name before now → fails_at asked
    → AreFailed fails_at before → AreFailed fails_at now
failed_more fails_at before now asked name same notes is are =
    subst (λ all. AreFailed fails_at all) (sym notes.2)
    (failed_last fails_at before notes.0 are (subst (λ n. fails_at n) (same ∙ sym notes.1) is))

pub nothing_came : (came : Option Held) → ((held : Held) → came ≢ Some held) → came ≡ None
nothing_came None other = refl
nothing_came (Some held) other = absurd (other held refl)
