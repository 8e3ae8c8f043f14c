-- The last line of a deal file of version 2 tells the digest of all that stands before it.
use Rattle.std.proofs.Common.{arith, ◌≡◌, ◌<◌, ◌+◌, ◌/◌, ◌%◌, ◌^◌, ◌∙◌, ℕ, zero, suc, Bool, true, false, List, [], ◌∷◌, ◌++◌, length, length-append, Option, Some, None, codes, refl, sym, ap, subst, if◌then◌else◌}
use Rattle.std.specs.Prelude.{nat_lt, slice_index}
use Rattle.std.specs.Int.{byte_at, w32, to_be_bytes}
use Rattle.std.specs.List.{AllByRecursion}
use Rattle.std.proofs.lemmas.Bool.{ltb-true}
use Rattle.sha2.specs.Sha256.{sha256, digest_bytes, final_hash, initial_hash_256}
use Rattle.sha2.proofs.Facts256.{length-sha256}
use Rattle.vd_base_codec.specs.Digits.{IsByte, IsKey, hex_byte, hex_digit, key_text}
use Rattle.vd_channel_crypto.specs.declared.deal_keys.secrets.Secrets.{Secrets}
use Rattle.vd_tape.specs.declared.deal_items.deal.Deal.{Deal}
use Rattle.vd_deal_versions.specs.Text.{body_text, secret_of, sum_line, text_by}
use Rattle.vd_deal_versions.specs.Outcome.{ChangedDealsAreRefused}

-- ---- a digest is 32 bytes

both_small : (xs ys : List ℕ) → AllByRecursion IsByte xs → AllByRecursion IsByte ys → AllByRecursion IsByte (xs ++ ys)
both_small [] ys f g = g
both_small (x ∷ xs) ys f g = (f.0, both_small xs ys f.1 g)

byte_small : (k n : ℕ) → byte_at k n < 256
byte_small zero n = omega arith
byte_small (suc k) n = let m : ℕ = n / 256 ^ suc k in let f : m % 256 < 256 = omega arith in f

bytes_small : (h : List ℕ) (n : ℕ) → AllByRecursion IsByte (digest_bytes h n)
unfolding digest_bytes
bytes_small h zero = tt
bytes_small h (suc n) =
    let w : ℕ = slice_index h n in
    both_small (digest_bytes h n) (to_be_bytes w32 w) (bytes_small h n) (byte_small 3 w, (byte_small 2 w, (byte_small 1 w, (byte_small 0 w, tt))))

all_small : (bytes : List ℕ) → AllByRecursion IsByte (sha256 bytes)
unfolding sha256
all_small bytes = bytes_small (final_hash initial_hash_256 bytes) 8

pub digest_is_key : (bytes : List ℕ) → IsKey (sha256 bytes)
digest_is_key bytes = (length-sha256 bytes, all_small bytes)

-- ---- digits

digit_same : (d e : ℕ) (s t : Bool) → nat_lt d 10 ≡ s → nat_lt e 10 ≡ t → d < 16 → e < 16 → (if s then 48 + d else 87 + d) ≡ (if t then 48 + e else 87 + e) → d ≡ e
digit_same d e true true p q small also is = omega (arith, is)
digit_same d e true false p q small also is = let low = ltb-true d 10 p in absurd (omega (arith, is, low))
digit_same d e false true p q small also is = let low = ltb-true e 10 q in absurd (omega (arith, is, low))
digit_same d e false false p q small also is = omega (arith, is)

hex_same : (d e : ℕ) → d < 16 → e < 16 → hex_digit d ≡ hex_digit e → d ≡ e
hex_same d e small also is = digit_same d e (nat_lt d 10) (nat_lt e 10) refl refl small also is

byte_same : (b c : ℕ) → b < 256 → c < 256 → hex_digit (b / 16) ≡ hex_digit (c / 16) → hex_digit (b % 16) ≡ hex_digit (c % 16) → b ≡ c
byte_same b c small also high low =
    let first = hex_same (b / 16) (c / 16) (omega (arith, small)) (omega (arith, also)) high in
    let second = hex_same (b % 16) (c % 16) (omega arith) (omega arith) low in
    omega (arith, first, second)

two_heads : (a b c d : ℕ) (xs ys : List ℕ) → a ∷ b ∷ xs ≡ c ∷ d ∷ ys → (a ≡ c) × (b ≡ d) × (xs ≡ ys)
two_heads a b c d xs ys e = (cc, cc, cc)

byte_text : (b : ℕ) → hex_byte b ≡ hex_digit (b / 16) ∷ hex_digit (b % 16) ∷ []
unfolding hex_byte
byte_text b = refl

-- the digits of a byte, and what stands behind those of the others
more_text : (b : ℕ) (bs x : List ℕ) → key_text (b ∷ bs) ++ x ≡ hex_digit (b / 16) ∷ hex_digit (b % 16) ∷ (key_text bs ++ x)
more_text b bs x = ap (λ (front : List ℕ). (front ++ key_text bs) ++ x) (byte_text b)

-- bytes of one length with one text are the same, whatever stands behind
pub digits_tell : (a b x y : List ℕ) → length a ≡ length b → AllByRecursion IsByte a → AllByRecursion IsByte b → key_text a ++ x ≡ key_text b ++ y → (a ≡ b) × (x ≡ y)
digits_tell [] [] x y same bytes also is = (refl, is)
digits_tell [] (c ∷ b) x y same bytes also is = absurd (omega (arith, same))
digits_tell (c ∷ a) [] x y same bytes also is = absurd (omega (arith, same))
digits_tell (c ∷ a) (d ∷ b) x y same bytes also is =
    let heads = two_heads (hex_digit (c / 16)) (hex_digit (c % 16)) (hex_digit (d / 16)) (hex_digit (d % 16)) (key_text a ++ x) (key_text b ++ y)
    (sym (more_text c a x) ∙ is ∙ more_text d b y) in
    let first : c ≡ d = byte_same c d bytes.0 also.0 heads.0 heads.1 in
    let rest = digits_tell a b x y (omega (arith, same)) bytes.1 also.1 heads.2 in
    let others : a ≡ b = rest.0 in
    (cc, rest.1)

-- ---- two texts with last lines of one length

-- what stands in front of as many bytes is the same, and so are these
parted : (a b x y : List ℕ) → length a ≡ length b → a ++ x ≡ b ++ y → (a ≡ b) × (x ≡ y)
parted [] [] x y same is = (refl, is)
parted [] (d ∷ b) x y same is = absurd (omega (arith, same))
parted (c ∷ a) [] x y same is = absurd (omega (arith, same))
parted (c ∷ a) (d ∷ b) x y same is =
    let first : c ≡ d = cc in
    let behind : a ++ x ≡ b ++ y = cc in
    let rest = parted a b x y (omega (arith, same)) behind in
    let others : a ≡ b = rest.0 in
    (cc, rest.1)

digits_long : (key : List ℕ) → length (key_text key) ≡ length key + length key
digits_long [] = refl
digits_long (b ∷ key) =
    let more = ap length (more_text b key []) in
    let text = length-append (key_text (b ∷ key)) [] in
    let rest = length-append (key_text key) [] in
    let shorter = digits_long key in
    omega (arith, more, text, rest, shorter)

pub sum_long : (body : List ℕ) → length (sum_line body) ≡ 69
sum_long body =
    let size = length-sha256 body in
    let digits = digits_long (sha256 body) in
    let inner = length-append (key_text (sha256 body)) (codes "\n") in
    omega (arith, size, digits, inner)

sums_tell : (a b : List ℕ) → sum_line a ≡ sum_line b → sha256 a ≡ sha256 b
sums_tell a b is =
    let behind : key_text (sha256 a) ++ codes "\n" ≡ key_text (sha256 b) ++ codes "\n" = cc in
    let one = digest_is_key a in
    let other = digest_is_key b in
    (digits_tell (sha256 a) (sha256 b) (codes "\n") (codes "\n") (one.0 ∙ sym other.0) one.1 other.1 behind).0

same_sum : (deal : Deal) (secrets : Option Secrets) (known : Secrets) (body changed : List ℕ) → length changed ≡ length body → text_by deal secrets ≡ changed ++ sum_line body
    → secrets ≡ Some known → sha256 changed ≡ sha256 body
same_sum deal None known body changed same is some = absurd (cc some)
same_sum deal (Some secrets) known body changed same is some =
    let mine : List ℕ = body_text (secret_of deal secrets) in
    let all = ap length is in
    let left = length-append mine (sum_line mine) in
    let right = length-append changed (sum_line body) in
    let long = sum_long mine in
    let wide = sum_long body in
    let parts = parted mine changed (sum_line mine) (sum_line body) (omega (arith, all, left, right, long, wide)) is in
    sym (ap sha256 parts.0) ∙ sums_tell mine body parts.1

pub changed_are_refused : ChangedDealsAreRefused
changed_are_refused hosts me body changed dealt secrets same file some = same_sum dealt.deal dealt.secrets secrets body changed same file.1 some
