-- Readings byte by byte, as loops make them.
use Rattle.std.proofs.Common.{◌≡◌, ℕ, ◌+◌, ◌-◌, ◌*◌, ◌<◌, ◌≤◌, Bool, true, false, cond, List, [], ◌∷◌, length, drop, get_or, Some, None, Ok, Err, refl, sym, ap, ◌∙◌, drop-cons, add-one}
use Rattle.std.proofs.lemmas.List.{drop_all}
use Rattle.vd_base_codec.specs.Reading.{Reading, ◌>>=◌, byte_at, literal_at, goes_on, longer, longest_at}

literal_step : (word : List ℕ) (i : ℕ) (bytes : List ℕ) → i < length word → literal_at (drop i word) bytes ≡ (byte_at (get_or word i 0) bytes >>= λ x. literal_at (drop (i + 1) word) x.1)
unfolding literal_at
literal_step word i bytes h = rw (add-one, drop-cons word i 0) refl

pub literal_failed : (word : List ℕ) (i : ℕ) (bytes left : List ℕ) (all : Reading (Unit {0})) → i < length word → byte_at (get_or word i 0) bytes ≡ Err left
    → literal_at (drop i word) bytes ≡ all → all ≡ Err left
literal_failed word i bytes left all h e is = sym is ∙ literal_step word i bytes h ∙ ap (λ r. r >>= λ x. literal_at (drop (i + 1) word) x.1) e

pub literal_next : (word : List ℕ) (i : ℕ) (bytes left : List ℕ) (x : Unit {0}) (all : Reading (Unit {0})) → i < length word → byte_at (get_or word i 0) bytes ≡ Ok (x, left)
    → literal_at (drop i word) bytes ≡ all → literal_at (drop (i + 1) word) left ≡ all
literal_next word i bytes left x all h e is = sym (literal_step word i bytes h ∙ ap (λ r. r >>= λ y. literal_at (drop (i + 1) word) y.1) e) ∙ is

pub literal_done : (word : List ℕ) (i : ℕ) (bytes : List ℕ) (all : Reading (Unit {0})) → length word ≤ i → literal_at (drop i word) bytes ≡ all → all ≡ Ok (tt, bytes)
unfolding literal_at
literal_done word i bytes all h is = sym is ∙ ap (λ ws. literal_at ws bytes) (drop_all i word h)

longer_here : (most n b m : ℕ) (bytes : List ℕ) (t : Bool) → goes_on most n b ≡ t → cond t (Some (n * 10 + (b - 48))) None ≡ Some m → longest_at most n (b ∷ bytes) ≡ longest_at most m bytes
unfolding longest_at
longer_here most n b m bytes true test e = let same : n * 10 + (b - 48) ≡ m = cc in rw test (ap (λ k. longest_at most k bytes) same)
longer_here most n b m bytes false test e = absurd cc

pub longer_some : (most n m b : ℕ) (bytes left : List ℕ) → longer most n bytes ≡ Some m → bytes ≡ b ∷ left → longest_at most n bytes ≡ longest_at most m left
longer_some most n m b [] left e is = absurd cc
longer_some most n m b (c ∷ bytes) left e is =
    let same : bytes ≡ left = cc in
    longer_here most n c m bytes (goes_on most n c) refl e ∙ ap (longest_at most m) same

longer_not : (most n b : ℕ) (bytes : List ℕ) (t : Bool) → goes_on most n b ≡ t → cond t (Some (n * 10 + (b - 48))) None ≡ None → longest_at most n (b ∷ bytes) ≡ (n, b ∷ bytes)
unfolding longest_at
longer_not most n b bytes true test e = absurd cc
longer_not most n b bytes false test e = rw test refl

pub longer_none : (most n : ℕ) (bytes : List ℕ) → longer most n bytes ≡ None → longest_at most n bytes ≡ (n, bytes)
unfolding longest_at
longer_none most n [] e = refl
longer_none most n (b ∷ bytes) e = longer_not most n b bytes (goes_on most n b) refl e
