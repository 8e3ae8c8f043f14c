-- Names one after the other, as a loop reads them; and a byte that stands for a value.
use Rattle.std.proofs.Common.{◌≡◌, ℕ, zero, suc, ◌-◌, ◌^◌, ◌<◌, ◌≤◌, true, false, ◌||◌, List, [], ◌∷◌, ◌++◌, length, drop, Option, Some, None, Ok, Err, refl, sym, ap, ◌∙◌, length-append, arith}
use Rattle.std.specs.List.{list_any}
use Rattle.std.specs.Str.{bytes_eq}
use Rattle.std.proofs.lemmas.List.{append-nil}
use Rattle.vd_base.specs.Names.{is_among}
use Rattle.vd_base_codec.specs.Reading.{first, Reading, ◌>>=◌, field_at, field}
use Rattle.vd_base_codec.specs.Exact.{IsBreak, IsExact}
use Rattle.vd_base_codec.proofs.Front.{AtMost, field_exact, with_front}
use Rattle.vd_hostcode.specs.Reading.{starts_with}
use Rattle.vd_hostcode.specs.Heading.{with_byte, one_at, next_name_at, names_at, hosts_at}
use Rattle.vd_hostcode.proofs.Many.{regroup}

-- ---- a byte that stands for a value

pub one_none : {X : Type 0} (f : ℕ → Option X) (bytes : List ℕ) → None ≡ first bytes → one_at f bytes ≡ Err bytes
one_none f [] e = refl
one_none f (b ∷ bytes) e = absurd cc

pub one_other : {X : Type 0} (f : ℕ → Option X) (bytes : List ℕ) (b : ℕ) → Some b ≡ first bytes → None ≡ f b → one_at f bytes ≡ Err bytes
one_other f [] b e g = absurd cc
one_other f (c ∷ bytes) b e g = let same : b ≡ c = cc in ap (with_byte c bytes) (sym (g ∙ ap f same))

pub one_found : {X : Type 0} (f : ℕ → Option X) (bytes : List ℕ) (b : ℕ) (x : X) → Some b ≡ first bytes → Some x ≡ f b → one_at f bytes ≡ Ok (x, drop 1 bytes)
one_found f [] b x e g = absurd cc
one_found f (c ∷ bytes) b x e g = let same : b ≡ c = cc in ap (with_byte c bytes) (sym (g ∙ ap f same))

pub one_there : (bytes : List ℕ) (b : ℕ) → Some b ≡ first bytes → 1 ≤ length bytes
one_there [] b e = absurd cc
one_there (c ∷ bytes) b e = omega arith

-- ---- a number

within_by : (most : ℕ) (bytes left : List ℕ) (n : ℕ) (r : Reading ℕ) → IsExact IsBreak (AtMost most) field bytes r → r ≡ Ok (n, left) → n ≤ most
within_by most bytes left n (Ok x) exact e =
    let pair : x ≡ (n, left) = cc in
    let same : x.0 ≡ n = ap (λ p. p.0) pair in
    omega (arith, exact.fits, same)
within_by most bytes left n (Err over) exact e = absurd cc

pub field_within : (most : ℕ) (bytes left : List ℕ) (n : ℕ) → most < 2 ^ 64 → field_at most bytes ≡ Ok (n, left) → n ≤ most
field_within most bytes left n small e = within_by most bytes left n (field_at most bytes) (field_exact most bytes small) e

-- ---- names

abbrev pub NamesGoOn : List (List ℕ) → List ℕ → Reading (List (List ℕ)) → Type 0
NamesGoOn hosts bytes total = with_front hosts (names_at (4 - length hosts) hosts bytes) ≡ total

one_front : (x : List ℕ) (r : Reading (List (List ℕ))) → with_front (x ∷ []) r ≡ (r >>= λ xs. Ok (x ∷ xs.0, xs.1))
one_front x (Ok xs) = refl
one_front x (Err left) = refl

pub names_start : (bytes left x : List ℕ) → next_name_at [] bytes ≡ Ok (x, left) → NamesGoOn (x ∷ []) left (hosts_at bytes)
unfolding hosts_at
names_start bytes left x e = one_front x (names_at 3 (x ∷ []) left) ∙ sym (ap (λ r. r >>= λ y. (names_at 3 (y.0 ∷ []) y.1 >>= λ xs. Ok (y.0 ∷ xs.0, xs.1))) e)

pub names_none : (bytes left : List ℕ) → next_name_at [] bytes ≡ Err left → hosts_at bytes ≡ Err left
unfolding hosts_at
names_none bytes left e = rw e refl

more_by : (hosts : List (List ℕ)) (n : ℕ) (bytes left x : List ℕ) → starts_with 32 bytes ≡ true → next_name_at hosts bytes ≡ Ok (x, left)
    → with_front hosts (names_at (suc n) hosts bytes) ≡ with_front (hosts ++ x ∷ []) (names_at n (hosts ++ x ∷ []) left)
unfolding names_at
more_by hosts n bytes left x is e = rw (is, e) (regroup hosts x (names_at n (hosts ++ x ∷ []) left))

pub names_next : (hosts : List (List ℕ)) (bytes left x : List ℕ) (total : Reading (List (List ℕ))) → length hosts < 4 → starts_with 32 bytes ≡ true → next_name_at hosts bytes ≡ Ok (x, left)
    → NamesGoOn hosts bytes total → NamesGoOn (hosts ++ x ∷ []) left total
names_next hosts bytes left x total h is e so_far =
    let n : ℕ = 4 - length (hosts ++ x ∷ []) in
    let k : 4 - length hosts ≡ suc n = omega (arith, h, length-append hosts (x ∷ [])) in
    sym (more_by hosts n bytes left x is e) ∙ ap (λ m. with_front hosts (names_at m hosts bytes)) (sym k) ∙ so_far

stopped_by : (hosts : List (List ℕ)) (n : ℕ) (bytes left : List ℕ) → starts_with 32 bytes ≡ true → next_name_at hosts bytes ≡ Err left → with_front hosts (names_at (suc n) hosts bytes) ≡ Err left
unfolding names_at
stopped_by hosts n bytes left is e = rw (is, e) refl

pub names_stopped : (hosts : List (List ℕ)) (bytes left : List ℕ) (total : Reading (List (List ℕ))) → length hosts < 4 → starts_with 32 bytes ≡ true → next_name_at hosts bytes ≡ Err left
    → NamesGoOn hosts bytes total → total ≡ Err left
names_stopped hosts bytes left total h is e so_far =
    let k : 4 - length hosts ≡ suc (3 - length hosts) = omega (arith, h) in
    sym so_far ∙ ap (λ m. with_front hosts (names_at m hosts bytes)) k ∙ stopped_by hosts (3 - length hosts) bytes left is e

over_by : (hosts : List (List ℕ)) (n : ℕ) (bytes : List ℕ) → starts_with 32 bytes ≡ false → with_front hosts (names_at n hosts bytes) ≡ Ok (hosts, bytes)
unfolding names_at
over_by hosts zero bytes is = let e : hosts ++ [] ≡ hosts = append-nil hosts in ap (λ xs. Ok (xs, bytes)) e
over_by hosts (suc n) bytes is = let e : hosts ++ [] ≡ hosts = append-nil hosts in rw is (ap (λ xs. Ok (xs, bytes)) e)

pub names_over : (hosts : List (List ℕ)) (bytes : List ℕ) (total : Reading (List (List ℕ))) → starts_with 32 bytes ≡ false → NamesGoOn hosts bytes total → total ≡ Ok (hosts, bytes)
names_over hosts bytes total is so_far = sym so_far ∙ over_by hosts (4 - length hosts) bytes is

full_by : (hosts : List (List ℕ)) (bytes : List ℕ) → with_front hosts (names_at 0 hosts bytes) ≡ Ok (hosts, bytes)
unfolding names_at
full_by hosts bytes = ap (λ xs. Ok (xs, bytes)) (append-nil hosts)

pub names_full : (hosts : List (List ℕ)) (bytes : List ℕ) (total : Reading (List (List ℕ))) → 4 ≤ length hosts → NamesGoOn hosts bytes total → total ≡ Ok (hosts, bytes)
names_full hosts bytes total h so_far =
    let k : 4 - length hosts ≡ 0 = omega (arith, h) in
    sym so_far ∙ ap (λ m. with_front hosts (names_at m hosts bytes)) k ∙ full_by hosts bytes

pub any_is_among : (names : List (List ℕ)) (name : List ℕ) → list_any (λ other. bytes_eq other name) names ≡ is_among names name
any_is_among [] name = refl
any_is_among (other ∷ names) name = ap (λ b. bytes_eq other name || b) (any_is_among names name)
