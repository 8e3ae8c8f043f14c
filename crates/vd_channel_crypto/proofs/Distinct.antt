-- That what is hashed tells all apart.
use Rattle.std.proofs.Common.{arith, ◌≡◌, ◌≢◌, ◌<◌, ◌≤◌, ◌+◌, ◌-◌, ◌/◌, ◌%◌, ◌^◌, ℕ, zero, suc, nat_lt, Bool, true, false, if◌then◌else◌, List, [], ◌∷◌, ◌++◌, length, map, replicate, bit_xor, codes, refl, ap, sym, ◌∙◌, length-append}
use Rattle.std.proofs.lemmas.Bool.Decides.{nat_tests}
use Rattle.std.proofs.lemmas.List.{append_cancel_left}
use Rattle.std.proofs.lemmas.Nat.{from_be_bytes-to_be_bytes_4, from_be_bytes-to_be_bytes_8, xor_of_8}
use Rattle.std.specs.Int.{byte_at, w32, w64, to_be_bytes, from_be_bytes}
use Rattle.std.specs.Int.Bits.{xor_assoc, xor_self, xor_zero_l, xor_zero_r}
use Rattle.sha2.specs.Sha256.{sha256}
use Rattle.vd_channel_crypto.specs.declared.hellos.Hello.{Hello}
use Rattle.vd_channel_crypto.specs.Codes.{block_of, padded}
use Rattle.vd_channel_crypto.specs.Hellos.{digest_between, hello_bytes, key_info}
use Rattle.vd_channel_crypto.specs.Laws.{AreBytes, CodesCoverAll, CodesCoverTheirKeys, DigestsCoverBothHellos, GivesBack, IsHello, IsOfBytes, KeysHaveOnePurpose, NoncesAreApart, SameHello}
use Rattle.vd_channel_crypto.specs.Records.{coded}
use Rattle.vd_channel_crypto.specs.Streams.{key_stream, under}
use Rattle.vd_channel_crypto.proofs.Twice.{twice}

-- ---- lists

-- prefixes of one length of the same list are the same
pub front_same : (a b x y : List ℕ) → length a ≡ length b → a ++ x ≡ b ++ y → (a ≡ b) × (x ≡ y)
front_same [] [] x y same is = (refl, is)
front_same [] (q ∷ b) x y same is = absurd (omega (arith, same))
front_same (p ∷ a) [] x y same is = absurd (omega (arith, same))
front_same (p ∷ a) (q ∷ b) x y same is =
    let heads : p ≡ q = cc in
    let tails : a ++ x ≡ b ++ y = cc in
    let rest = front_same a b x y (omega (arith, same)) tails in
    let fronts : a ≡ b = rest.0 in
    (cc, rest.1)

pub behind_two : (a b c d : ℕ) (xs ys : List ℕ) → a ∷ b ∷ xs ≡ c ∷ d ∷ ys → (a ≡ c) × (b ≡ d) × (xs ≡ ys)
behind_two a b c d xs ys e = (cc, cc, cc)

behind_one : (a b : ℕ) (xs ys : List ℕ) → a ∷ xs ≡ b ∷ ys → (a ≡ b) × (xs ≡ ys)
behind_one a b xs ys e = (cc, cc)

-- ---- bytes

pub append_bytes : (xs ys : List ℕ) → AreBytes xs → AreBytes ys → AreBytes (xs ++ ys)
append_bytes [] ys f g = g
append_bytes (x ∷ xs) ys f g = (f.0, append_bytes xs ys f.1 g)

byte_small : (k n : ℕ) → byte_at k n < 2 ^ 8
byte_small zero n = omega arith
byte_small (suc k) n = let m : ℕ = n / 256 ^ suc k in let f : m % 256 < 256 = omega arith in f

pub word_bytes_small : (n : ℕ) → AreBytes (to_be_bytes w32 n)
word_bytes_small n = (byte_small 3 n, (byte_small 2 n, (byte_small 1 n, (byte_small 0 n, tt))))

number_bytes : (n : ℕ) → AreBytes (to_be_bytes w64 n)
number_bytes n =
    (byte_small 7 n, (byte_small 6 n, (byte_small 5 n, (byte_small 4 n, (byte_small 3 n, (byte_small 2 n, (byte_small 1 n, (byte_small 0 n, tt))))))))

zero_bytes : (n : ℕ) → AreBytes (replicate n 0)
zero_bytes zero = tt
zero_bytes (suc n) = (omega arith, zero_bytes n)

-- ---- codes

xor_bytes : (pad : ℕ) (xs : List ℕ) → pad < 2 ^ 8 → AreBytes xs → AreBytes (map (λ b. bit_xor b pad) xs)
xor_bytes pad [] h f = tt
xor_bytes pad (x ∷ xs) h f = (xor_of_8 x pad f.0 h, xor_bytes pad xs h f.1)

padded_bytes : (pad : ℕ) (key rest : List ℕ) → pad < 2 ^ 8 → AreBytes key → AreBytes rest → AreBytes (padded pad key ++ rest)
padded_bytes pad key rest h f g =
    append_bytes (padded pad key) rest (xor_bytes pad (block_of key) h (append_bytes key (replicate (64 - length key) 0) f (zero_bytes (64 - length key)))) g

xor_back : (a pad : ℕ) → bit_xor (bit_xor a pad) pad ≡ a
xor_back a pad = xor_assoc a pad pad ∙ ap (λ z. bit_xor a z) (xor_self pad) ∙ xor_zero_r a

unpadded : (pad : ℕ) (xs : List ℕ) → map (λ b. bit_xor b pad) (map (λ b. bit_xor b pad) xs) ≡ xs
unpadded pad [] = refl
unpadded pad (x ∷ xs) =
    let head : bit_xor (bit_xor x pad) pad ≡ x = xor_back x pad in
    let tail : map (λ b. bit_xor b pad) (map (λ b. bit_xor b pad) xs) ≡ xs = unpadded pad xs in
    cc

same_length : (pad : ℕ) (xs ys : List ℕ) → length xs ≡ length ys → length (map (λ b. bit_xor b pad) xs) ≡ length (map (λ b. bit_xor b pad) ys)
same_length pad [] [] e = refl
same_length pad [] (y ∷ ys) e = absurd (omega (arith, e))
same_length pad (x ∷ xs) [] e = absurd (omega (arith, e))
same_length pad (x ∷ xs) (y ∷ ys) e = let rest = same_length pad xs ys (omega (arith, e)) in omega (arith, rest)

blocks_long : (j k : List ℕ) → length j ≡ length k → length (block_of j) ≡ length (block_of k)
blocks_long j k e =
    length-append j (replicate (64 - length j) 0) ∙ ap (λ (n : ℕ). n + length {A = ℕ} (replicate (64 - n) 0)) e ∙ sym (length-append k (replicate (64 - length k) 0))

-- what stands behind a key under a pad
behind_pad : (pad : ℕ) (j k m n : List ℕ) → length j ≡ length k → padded pad j ++ m ≡ padded pad k ++ n → (j ≡ k) × (m ≡ n)
behind_pad pad j k m n same e =
    let parts = front_same (padded pad j) (padded pad k) m n (same_length pad (block_of j) (block_of k) (blocks_long j k same)) e in
    let blocks : block_of j ≡ block_of k = sym (unpadded pad (block_of j)) ∙ ap (map (λ b. bit_xor b pad)) parts.0 ∙ unpadded pad (block_of k) in
    ((front_same j k _ _ same blocks).0, parts.1)

xor_front : (a pad : ℕ) → bit_xor a (bit_xor a pad) ≡ pad
xor_front a pad = sym (xor_assoc a a pad) ∙ ap (λ z. bit_xor z pad) (xor_self a) ∙ xor_zero_l pad

same_pad : (a p q : ℕ) → bit_xor a p ≡ bit_xor a q → p ≡ q
same_pad a p q e = sym (xor_front a p) ∙ ap (bit_xor a) e ∙ xor_front a q

-- no block is the same under both pads
pads_apart : (key m n : List ℕ) → padded 0x36 key ++ m ≢ padded 0x5c key ++ n
pads_apart [] m n e =
    let head : ◌≡◌ {A = ℕ} 0x36 0x5c = cc in
    omega (arith, head)
pads_apart (b ∷ bs) m n e =
    let head : bit_xor b 0x36 ≡ bit_xor b 0x5c = cc in
    omega (arith, same_pad b 0x36 0x5c head)

pub codes_cover_their_keys : CodesCoverTheirKeys
codes_cover_their_keys = record {
  inner = λ key message. padded 0x36 key ++ message;
  outer = λ key digest. padded 0x5c key ++ digest;
  hashed = λ key message. refl;
  tells = behind_pad 0x36;
  tells_again = behind_pad 0x5c;
  apart = pads_apart;
  bytes = λ key message digest k m d. (padded_bytes 0x36 key message (omega arith) k m, padded_bytes 0x5c key digest (omega arith) k d);
}

-- ---- records

pub gives_back : GivesBack
gives_back keys number bytes = record {
  covered = under bytes (key_stream keys.cipher number);
  is = refl;
  opens = twice bytes (key_stream keys.cipher number);
}

number_same : (m n : ℕ) → m < 2 ^ 64 → n < 2 ^ 64 → to_be_bytes w64 m ≡ to_be_bytes w64 n → m ≡ n
number_same m n fits other_fits is =
    sym (from_be_bytes-to_be_bytes_8 m fits) ∙ ap (from_be_bytes w64) is ∙ from_be_bytes-to_be_bytes_8 n other_fits

coded_same : (m n : ℕ) (one other : List ℕ) → m < 2 ^ 64 → n < 2 ^ 64 → coded m one ≡ coded n other → (m ≡ n) × (one ≡ other)
coded_same m n one other fits other_fits e =
    let parts = front_same (to_be_bytes w64 m) (to_be_bytes w64 n) (0x58 ∷ length one ∷ one) (0x58 ∷ length other ∷ other) refl e in
    (number_same m n fits other_fits parts.0, (behind_two _ _ _ _ one other parts.1).2)

coded_bytes : (number : ℕ) (covered : List ℕ) → length covered < 2 ^ 8 → AreBytes covered → AreBytes (coded number covered)
coded_bytes number covered few each =
    append_bytes (to_be_bytes w64 number) (0x58 ∷ length covered ∷ covered) (number_bytes number) (omega arith, (few, each))

pub codes_cover_all : CodesCoverAll
codes_cover_all = record { message = coded; hashed = λ keys number covered. refl; apart = coded_same; bytes = coded_bytes }

-- ---- keys

-- what is hashed for a key of a link
abbrev asked : (purpose sender : ℕ) → (digest : List ℕ) → List ℕ
asked purpose sender digest = key_info purpose sender digest ++ 1 ∷ []

without_last : (xs ys : List ℕ) → xs ++ 1 ∷ [] ≡ ys ++ 1 ∷ [] → xs ≡ ys
without_last xs ys e =
    let long = ap length e in
    (front_same xs ys (1 ∷ []) (1 ∷ []) (omega (arith, length-append xs (1 ∷ []), length-append ys (1 ∷ []), long)) e).0

asked_same : (p q x y : ℕ) (one other : List ℕ) → asked p x one ≡ asked q y other → (p ≡ q) × (x ≡ y) × (one ≡ other)
asked_same p q x y one other e =
    behind_two p x q y one other (append_cancel_left (codes "viaduct link 2") (p ∷ x ∷ one) (q ∷ y ∷ other) (without_last (key_info p x one) (key_info q y other) e))

same_for : (purpose x y : ℕ) (one other : List ℕ) → asked purpose x one ≡ asked purpose y other → (x ≡ y) × (one ≡ other)
same_for purpose x y one other e = let same = asked_same purpose purpose x y one other e in (same.1, same.2)

two_purposes : (x y : ℕ) (one other : List ℕ) → asked 0x63 x one ≡ asked 0x6d y other → ⊥
two_purposes x y one other e = let same : 0x63 ≡ 0x6d = (asked_same 0x63 0x6d x y one other e).0 in omega (arith, same)

label_bytes : AreBytes (codes "viaduct link 2")
label_bytes = (
  omega arith,
  (
    omega arith,
    (
      omega arith,
      (
        omega arith,
        (
          omega arith,
          (
            omega arith,
            (
              omega arith,
              (
                omega arith,
                (
                  omega arith,
                  (
                    omega arith,
                    (omega arith, (omega arith, (omega arith, (omega arith, tt)))),
                  ),
                ),
              ),
            ),
          ),
        ),
      ),
    ),
  ),
)

asked_bytes : (purpose sender : ℕ) (digest : List ℕ) → purpose < 2 ^ 8 → sender < 2 ^ 8 → AreBytes digest → AreBytes (asked purpose sender digest)
asked_bytes purpose sender digest p s d =
    append_bytes (key_info purpose sender digest) (1 ∷ [])
    (append_bytes (codes "viaduct link 2") (purpose ∷ sender ∷ digest) label_bytes (p, (s, d))) (omega arith, tt)

pub one_purpose : KeysHaveOnePurpose
one_purpose = record {
  cipher = asked 0x63;
  code = asked 0x6d;
  covers = λ link digest sender. refl;
  proves = λ link digest sender. refl;
  purposes = two_purposes;
  ciphers = same_for 0x63;
  codes = same_for 0x6d;
  bytes = λ sender digest s d. (asked_bytes 0x63 sender digest (omega arith) s d, asked_bytes 0x6d sender digest (omega arith) s d);
}

-- ---- nonces

-- what is hashed for the nonce of a connection
abbrev met : (peer connection : ℕ) → List ℕ
met peer connection = codes "nonce" ++ (peer ∷ to_be_bytes w32 connection)

met_same : (p q m n : ℕ) → m < 2 ^ 32 → n < 2 ^ 32 → met p m ≡ met q n → (p ≡ q) × (m ≡ n)
met_same p q m n fits other_fits e =
    let parts = behind_one p q (to_be_bytes w32 m) (to_be_bytes w32 n) (append_cancel_left (codes "nonce") (p ∷ to_be_bytes w32 m) (q ∷ to_be_bytes w32 n) e) in
    (parts.0, sym (from_be_bytes-to_be_bytes_4 m fits) ∙ ap (from_be_bytes w32) parts.1 ∙ from_be_bytes-to_be_bytes_4 n other_fits)

met_bytes : (peer connection : ℕ) → peer < 2 ^ 8 → AreBytes (met peer connection)
met_bytes peer connection p =
    let label : AreBytes (codes "nonce") = (omega arith, (omega arith, (omega arith, (omega arith, (omega arith, tt))))) in
    append_bytes (codes "nonce") (peer ∷ to_be_bytes w32 connection) label (p, word_bytes_small connection)

pub nonces_apart : NoncesAreApart
nonces_apart = record { message = met; hashed = λ seed peer connection. refl; apart = met_same; bytes = met_bytes }

-- ---- hellos

-- what stands behind the version
abbrev body : Hello → List ℕ
body hello = hello.id ++ (hello.from.0 ∷ hello.to.0 ∷ hello.nonce)

long : (hello : Hello) → IsHello hello → length (body hello) ≡ 66
long hello is =
    let one = is.id in let other = is.nonce in
    omega (arith, length-append hello.id (hello.from.0 ∷ hello.to.0 ∷ hello.nonce), one, other)

body_same : (a b : Hello) → IsHello a → IsHello b → body a ≡ body b → SameHello a b
body_same a b is also e =
    let parts = front_same a.id b.id (a.from.0 ∷ a.to.0 ∷ a.nonce) (b.from.0 ∷ b.to.0 ∷ b.nonce) (is.id ∙ sym also.id) e in
    let rest = behind_two _ _ _ _ a.nonce b.nonce parts.1 in
    record { id = parts.0; from = rest.0; to = rest.1; nonce = rest.2 }

both_same : (a b c d : Hello) → IsHello a → IsHello b → IsHello c → IsHello d
    → hello_bytes a ++ hello_bytes b ≡ hello_bytes c ++ hello_bytes d → SameHello a c × SameHello b d
both_same a b c d at bt ct dt e =
    let behind = (behind_two 0x47 2 0x47 2 (body a ++ hello_bytes b) (body c ++ hello_bytes d) e).2 in
    let parts = front_same (body a) (body c) (hello_bytes b) (hello_bytes d) (long a at ∙ sym (long c ct)) behind in
    (body_same a c at ct parts.0, body_same b d bt dt (behind_two 0x47 2 0x47 2 (body b) (body d) parts.1).2)

hello_small : (hello : Hello) → IsOfBytes hello → AreBytes (hello_bytes hello)
hello_small hello is =
    (omega arith, (omega arith, append_bytes hello.id (hello.from.0 ∷ hello.to.0 ∷ hello.nonce) is.id (is.from, (is.to, is.nonce))))

-- ---- digests

lower : (a b : ℕ) → nat_lt a b ≡ true → a < b
lower a b h = grind (arith, nat_tests)

not_lower : (a b : ℕ) → nat_lt a b ≡ false → b ≤ a
not_lower a b h = grind (arith, nat_tests)

-- both hellos, the lower host's first
abbrev ordered : Bool → (mine theirs : Hello) → List ℕ
ordered first mine theirs = if first then hello_bytes mine ++ hello_bytes theirs else hello_bytes theirs ++ hello_bytes mine

abbrev said : (mine theirs : Hello) → List ℕ
said mine theirs = ordered (nat_lt mine.from.0 theirs.from.0) mine theirs

digest_of_said : (first : Bool) (mine theirs : Hello)
    → (if first then sha256 (hello_bytes mine ++ hello_bytes theirs) else sha256 (hello_bytes theirs ++ hello_bytes mine)) ≡ sha256 (ordered first mine theirs)
digest_of_said true mine theirs = refl
digest_of_said false mine theirs = refl

turned : (first other : Bool) (a b : Hello) → a.from.0 ≢ b.from.0 → nat_lt a.from.0 b.from.0 ≡ first → nat_lt b.from.0 a.from.0 ≡ other
    → ordered first a b ≡ ordered other b a
turned true true a b h e f = absurd (omega (arith, lower a.from.0 b.from.0 e, lower b.from.0 a.from.0 f))
turned true false a b h e f = refl
turned false true a b h e f = refl
turned false false a b h e f = absurd (h (omega (arith, not_lower a.from.0 b.from.0 e, not_lower b.from.0 a.from.0 f)))

pub both_ends : (a b : Hello) → a.from.0 ≢ b.from.0 → digest_between a b ≡ digest_between b a
both_ends a b h =
    digest_of_said (nat_lt a.from.0 b.from.0) a b
    ∙ ap sha256 (turned (nat_lt a.from.0 b.from.0) (nat_lt b.from.0 a.from.0) a b h refl refl)
    ∙ sym (digest_of_said (nat_lt b.from.0 a.from.0) b a)

module _ (a b c d : Hello) (at : IsHello a) (bt : IsHello b) (ct : IsHello c) (dt : IsHello d) where
  at_one : (first other : Bool) → a.from.0 ≡ c.from.0 → nat_lt a.from.0 b.from.0 ≡ first → nat_lt c.from.0 d.from.0 ≡ other
      → ordered first a b ≡ ordered other c d → SameHello a c × SameHello b d
  at_one true true h e f is = both_same a b c d at bt ct dt is
  at_one true false h e f is =
      let same = both_same a b d c at bt dt ct is in
      absurd (omega (arith, h, lower a.from.0 b.from.0 e, same.1.from))
  at_one false true h e f is =
      let same = both_same b a c d bt at ct dt is in
      absurd (omega (arith, h, lower c.from.0 d.from.0 f, same.1.from))
  at_one false false h e f is = let same = both_same b a d c bt at dt ct is in (same.1, same.0)

  at_two : (first other : Bool) → a.from.0 ≢ c.from.0 → ordered first a b ≡ ordered other c d → SameHello a d × SameHello b c
  at_two true true h is = absurd (h (both_same a b c d at bt ct dt is).0.from)
  at_two true false h is = both_same a b d c at bt dt ct is
  at_two false true h is = let same = both_same b a c d bt at ct dt is in (same.1, same.0)
  at_two false false h is = absurd (h (both_same b a d c bt at dt ct is).1.from)

ordered_bytes : (first : Bool) (mine theirs : Hello) → IsOfBytes mine → IsOfBytes theirs → AreBytes (ordered first mine theirs)
ordered_bytes true mine theirs m t = append_bytes (hello_bytes mine) (hello_bytes theirs) (hello_small mine m) (hello_small theirs t)
ordered_bytes false mine theirs m t = append_bytes (hello_bytes theirs) (hello_bytes mine) (hello_small theirs t) (hello_small mine m)

pub both_hellos : DigestsCoverBothHellos
both_hellos = record {
  message = said;
  hashed = λ mine theirs. digest_of_said (nat_lt mine.from.0 theirs.from.0) mine theirs;
  both_ends = both_ends;
  at_one_host = λ a b c d at bt ct dt h e. at_one a b c d at bt ct dt (nat_lt a.from.0 b.from.0) (nat_lt c.from.0 d.from.0) h refl refl e;
  at_two_hosts = λ a b c d at bt ct dt h e. at_two a b c d at bt ct dt (nat_lt a.from.0 b.from.0) (nat_lt c.from.0 d.from.0) h e;
  bytes = λ mine theirs. ordered_bytes (nat_lt mine.from.0 theirs.from.0) mine theirs;
}
