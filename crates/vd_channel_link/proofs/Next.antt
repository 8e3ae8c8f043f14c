-- What is still to come when a record was taken, and when none was.
use Rattle.std.proofs.Common.{◌≡◌, ◌∙◌, ◌+◌, ℕ, Bool, true, false, List, [], ◌++◌, if◌then◌else◌, ap, sym, refl}
use Rattle.vd_channel_crypto.specs.Records.{Direction}
use Rattle.vd_channel_link.specs.Opened.{plain_of}
use Rattle.vd_channel_link.specs.Taking.{Brings, IsCut}
use Rattle.vd_channel_link.proofs.Walk.{cut_short, taken}

-- where nothing ended and nothing is closed, all is still open
all_open : (ended closed : Bool) (shut all : List ℕ) → ended ≡ false → closed ≡ false → (if ended then [] else (if closed then shut else all)) ≡ all
all_open true closed shut all e f = absurd cc
all_open false true shut all e f = absurd cc
all_open false false shut all e f = refl

-- the bytes of the record that was taken, and what is behind it, are what was to come
pub still_comes : (keys : Direction) (number : ℕ) (ended closed : Bool) (shut shut' left coming rest bytes : List ℕ)
    → ended ≡ false → closed ≡ false → left ≡ [] → Brings keys number coming rest bytes
    → (if ended then [] else (if closed then shut' else bytes ++ plain_of keys (number + 1) rest))
    ≡ (if ended then [] else (if closed then shut else left ++ plain_of keys number coming))
still_comes keys number ended closed shut shut' left coming rest bytes e f none b =
    all_open ended closed shut' (bytes ++ plain_of keys (number + 1) rest) e f
    ∙ sym (taken keys number coming rest bytes b)
    ∙ ap (λ (l : List ℕ). l ++ plain_of keys number coming) (sym none)
    ∙ sym (all_open ended closed shut (left ++ plain_of keys number coming) e f)

-- where the bytes end within a record, nothing was to come
pub nothing_comes : (keys : Direction) (number : ℕ) (ended closed : Bool) (shut left coming : List ℕ)
    → ended ≡ false → closed ≡ false → left ≡ [] → IsCut coming
    → [] ≡ (if ended then [] else (if closed then shut else left ++ plain_of keys number coming))
nothing_comes keys number ended closed shut left coming e f none cut =
    sym (cut_short keys number coming cut)
    ∙ ap (λ (l : List ℕ). l ++ plain_of keys number coming) (sym none)
    ∙ sym (all_open ended closed shut (left ++ plain_of keys number coming) e f)
