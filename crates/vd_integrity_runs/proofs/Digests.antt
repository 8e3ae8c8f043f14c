-- What the digest of a commitment tells.
use Rattle.std.proofs.Common.{◌≡◌, ◌<◌, ℕ, zero, suc, ◌+◌, ◌*◌, ◌/◌, ◌%◌, ◌^◌, ◌⊎◌, inl, inr, List, [], ◌∷◌, ◌++◌, length, slice_index, refl, sym, ap, ◌∙◌, arith, add-zero, length-append}
use Rattle.std.specs.Int.{byte_at, w32, to_be_bytes, from_be_bytes}
use Rattle.std.specs.List.{AllByRecursion}
use Rattle.std.proofs.lemmas.Bool.{cases_eq}
use Rattle.std.proofs.lemmas.List.{ext_get_or}
use Rattle.sha2.specs.Sha256.{sha256, digest_bytes, final_hash, initial_hash_256, word_at}
use Rattle.sha2.proofs.Facts256.{length-sha256}
use Rattle.vd_execution.specs.Registers.{bytes_of_words, digest_of, words_of_bytes}
use Rattle.vd_integrity_runs.specs.Digests.{AreBytes, Collide, DigestsTellTheirWords, IsNonce}

-- ---- bytes

byte_small : (k n : ℕ) → byte_at k n < 256
byte_small zero n = omega arith
byte_small (suc k) n = let m : ℕ = n / 256 ^ suc k in let f : m % 256 < 256 = omega arith in f

abbrev Small : List ℕ → Type 0
Small = AllByRecursion (λ b. b < 256)

both_small : (xs ys : List ℕ) → Small xs → Small ys → Small (xs ++ ys)
both_small [] ys f g = g
both_small (x ∷ xs) ys f g = (f.0, both_small xs ys f.1 g)

word_small : (w : ℕ) → Small (to_be_bytes w32 w)
word_small w = (byte_small 3 w, (byte_small 2 w, (byte_small 1 w, (byte_small 0 w, tt))))

words_small : (ws : List ℕ) → Small (bytes_of_words ws)
words_small [] = tt
words_small (w ∷ ws) = both_small (to_be_bytes w32 w) (bytes_of_words ws) (word_small w) (words_small ws)

hash_small : (h : List ℕ) (n : ℕ) → Small (digest_bytes h n)
unfolding digest_bytes
hash_small h zero = tt
hash_small h (suc n) = both_small (digest_bytes h n) (to_be_bytes w32 (slice_index h n)) (hash_small h n) (word_small (slice_index h n))

sha_small : (m : List ℕ) → Small (sha256 m)
unfolding sha256
sha_small m = hash_small (final_hash initial_hash_256 m) 8

are_bytes : (xs : List ℕ) → Small xs → AreBytes xs
are_bytes [] all i = omega arith
are_bytes (x ∷ xs) all zero = all.0
are_bytes (x ∷ xs) all (suc i) = are_bytes xs all.1 i

-- ---- the words of a digest tell its bytes

bytes_of : (a b c d e f g h : ℕ) → a < 256 → b < 256 → c < 256 → d < 256 → e < 256 → f < 256 → g < 256 → h < 256
    → from_be_bytes w32 (a ∷ b ∷ c ∷ d ∷ []) ≡ from_be_bytes w32 (e ∷ f ∷ g ∷ h ∷ []) → (a ≡ e) × (b ≡ f) × (c ≡ g) × (d ≡ h)
bytes_of a b c d e f g h ha hb hc hd he hf hg hh is = (
  omega (arith, ha, hb, hc, hd, he, hf, hg, hh, is),
  omega (arith, ha, hb, hc, hd, he, hf, hg, hh, is),
  omega (arith, ha, hb, hc, hd, he, hf, hg, hh, is),
  omega (arith, ha, hb, hc, hd, he, hf, hg, hh, is),
)

module _ (p q : List ℕ) (a : AreBytes p) (b : AreBytes q) where
  four : (i : ℕ) → word_at p i ≡ word_at q i → (slice_index p i ≡ slice_index q i) × (slice_index p (i + 1) ≡ slice_index q (i + 1))
      × (slice_index p (i + 2) ≡ slice_index q (i + 2)) × (slice_index p (i + 3) ≡ slice_index q (i + 3))
  four i e =
      bytes_of _ _ _ _ _ _ _ _ (a i) (a (i + 1)) (a (i + 2)) (a (i + 3)) (b i) (b (i + 1)) (b (i + 2)) (b (i + 3)) e

  words : words_of_bytes p 0 8 ≡ words_of_bytes q 0 8 → (i : ℕ) → i < 8 → word_at p (4 * i) ≡ word_at q (4 * i)
  words e zero h = ap (λ (xs : List ℕ). slice_index xs 0) e
  words e (suc zero) h = ap (λ (xs : List ℕ). slice_index xs 1) e
  words e (suc (suc zero)) h = ap (λ (xs : List ℕ). slice_index xs 2) e
  words e (suc (suc (suc zero))) h = ap (λ (xs : List ℕ). slice_index xs 3) e
  words e (suc (suc (suc (suc zero)))) h = ap (λ (xs : List ℕ). slice_index xs 4) e
  words e (suc (suc (suc (suc (suc zero))))) h = ap (λ (xs : List ℕ). slice_index xs 5) e
  words e (suc (suc (suc (suc (suc (suc zero)))))) h = ap (λ (xs : List ℕ). slice_index xs 6) e
  words e (suc (suc (suc (suc (suc (suc (suc zero))))))) h = ap (λ (xs : List ℕ). slice_index xs 7) e
  words e (suc (suc (suc (suc (suc (suc (suc (suc i)))))))) h = absurd (omega (arith, h))

  at_place : words_of_bytes p 0 8 ≡ words_of_bytes q 0 8 → (i r : ℕ) → i < 8 → r < 4 → slice_index p (4 * i + r) ≡ slice_index q (4 * i + r)
  at_place e i zero h r = ap (slice_index p) (add-zero (4 * i)) ∙ (four (4 * i) (words e i h)).0 ∙ ap (slice_index q) (sym (add-zero (4 * i)))
  at_place e i (suc zero) h r = (four (4 * i) (words e i h)).1
  at_place e i (suc (suc zero)) h r = (four (4 * i) (words e i h)).2
  at_place e i (suc (suc (suc zero))) h r = (four (4 * i) (words e i h)).3
  at_place e i (suc (suc (suc (suc n)))) h r = absurd (omega (arith, r))

  at_each : words_of_bytes p 0 8 ≡ words_of_bytes q 0 8 → (i : ℕ) → i < 32 → slice_index p i ≡ slice_index q i
  at_each e i h =
      let is : 4 * (i / 4) + i % 4 ≡ i = omega arith in
      ap (slice_index p) (sym is) ∙ at_place e (i / 4) (i % 4) (omega (arith, h)) (omega arith) ∙ ap (slice_index q) is

  bytes_same : length p ≡ 32 → length q ≡ 32 → words_of_bytes p 0 8 ≡ words_of_bytes q 0 8 → p ≡ q
  bytes_same one other e = ext_get_or 0 p q (one ∙ sym other) (λ i h. at_each e i (omega (arith, one, h)))

-- what is hashed of a nonce and a word
abbrev pub text_of : List ℕ → ℕ → List ℕ
text_of nonce word = bytes_of_words (nonce ++ word ∷ [])

pub text_bytes : (nonce : List ℕ) (word : ℕ) → AreBytes (text_of nonce word)
text_bytes nonce word = are_bytes (text_of nonce word) (words_small (nonce ++ word ∷ []))

hashes : (nonce : List ℕ) (word : ℕ) → digest_of nonce word ≡ words_of_bytes (sha256 (bytes_of_words (nonce ++ word ∷ []))) 0 8
unfolding digest_of
hashes nonce word = refl

pub hash_same : (nonce other : List ℕ) (word x : ℕ) → digest_of nonce word ≡ digest_of other x → sha256 (text_of nonce word) ≡ sha256 (text_of other x)
hash_same nonce other word x e =
    bytes_same (sha256 (text_of nonce word)) (sha256 (text_of other x)) (are_bytes _ (sha_small (text_of nonce word))) (are_bytes _ (sha_small (text_of other x)))
    (length-sha256 (text_of nonce word)) (length-sha256 (text_of other x)) (sym (hashes nonce word) ∙ e ∙ hashes other x)

-- ---- what is hashed tells nonce and word

front_same : (a b x y : List ℕ) → length a ≡ length b → a ++ x ≡ b ++ y → (a ≡ b) × (x ≡ y)
front_same [] [] x y same is = (refl, is)
front_same [] (q ∷ b) x y same is = absurd (omega (arith, same))
front_same (p ∷ a) [] x y same is = absurd (omega (arith, same))
front_same (p ∷ a) (q ∷ b) x y same is =
    let heads : p ≡ q = cc in
    let tails : a ++ x ≡ b ++ y = cc in
    let rest = front_same a b x y (omega (arith, same)) tails in
    let fronts : a ≡ b = rest.0 in
    (cc, rest.1)

word_same : (m n : ℕ) → to_be_bytes w32 m ≡ to_be_bytes w32 n → m % 2 ^ 32 ≡ n % 2 ^ 32
word_same m n e =
    let a = ap (λ (xs : List ℕ). slice_index xs 0) e in
    let b = ap (λ (xs : List ℕ). slice_index xs 1) e in
    let c = ap (λ (xs : List ℕ). slice_index xs 2) e in
    let d = ap (λ (xs : List ℕ). slice_index xs 3) e in
    omega (arith, a, b, c, d)

-- word for word, each as a number of 32 bits
abbrev AreSame : List ℕ → List ℕ → Type 0
AreSame xs ys = (i : ℕ) → slice_index xs i % 2 ^ 32 ≡ slice_index ys i % 2 ^ 32

many : (ws : List ℕ) → length (bytes_of_words ws) ≡ 4 * length ws
many [] = refl
many (w ∷ ws) = let more = many ws in omega (arith, more, length-append (to_be_bytes w32 w) (bytes_of_words ws))

words_same : (xs ys : List ℕ) → length xs ≡ length ys → bytes_of_words xs ≡ bytes_of_words ys → AreSame xs ys
words_same [] [] l e i = refl
words_same [] (y ∷ ys) l e i = absurd (omega (arith, l))
words_same (x ∷ xs) [] l e i = absurd (omega (arith, l))
words_same (x ∷ xs) (y ∷ ys) l e zero = word_same x y (front_same (to_be_bytes w32 x) (to_be_bytes w32 y) (bytes_of_words xs) (bytes_of_words ys) refl e).0
words_same (x ∷ xs) (y ∷ ys) l e (suc i) =
    words_same xs ys (omega (arith, l)) (front_same (to_be_bytes w32 x) (to_be_bytes w32 y) (bytes_of_words xs) (bytes_of_words ys) refl e).1 i

behind : (xs : List ℕ) (x : ℕ) → slice_index (xs ++ x ∷ []) (length xs) ≡ x
behind [] x = refl
behind (y ∷ xs) x = behind xs x

before : (xs : List ℕ) (x i : ℕ) → i < length xs → slice_index (xs ++ x ∷ []) i ≡ slice_index xs i
before [] x i h = absurd (omega (arith, h))
before (y ∷ xs) x zero h = refl
before (y ∷ xs) x (suc i) h = before xs x i (omega (arith, h))

module _ (nonce other : List ℕ) (word x : ℕ) (e : text_of nonce word ≡ text_of other x) where
  lengths : length nonce ≡ length other
  lengths =
      let one = many (nonce ++ word ∷ []) in
      let two = many (other ++ x ∷ []) in
      let three = ap length e in
      omega (arith, one, two, three, length-append nonce (word ∷ []), length-append other (x ∷ []))

  alike : AreSame (nonce ++ word ∷ []) (other ++ x ∷ [])
  alike = words_same (nonce ++ word ∷ []) (other ++ x ∷ []) (let l = lengths in omega (arith, l, length-append nonce (word ∷ []), length-append other (x ∷ []))) e

  pub last_same : word % 2 ^ 32 ≡ x % 2 ^ 32
  last_same =
      ap (λ (n : ℕ). n % 2 ^ 32) (sym (behind nonce word)) ∙ alike (length nonce)
      ∙ ap (λ (n : ℕ). slice_index (other ++ x ∷ []) n % 2 ^ 32) lengths ∙ ap (λ (n : ℕ). n % 2 ^ 32) (behind other x)

  nonce_at : (i : ℕ) → i < length nonce → slice_index nonce i % 2 ^ 32 ≡ slice_index other i % 2 ^ 32
  nonce_at i h =
      let l = lengths in
      ap (λ (n : ℕ). n % 2 ^ 32) (sym (before nonce word i h)) ∙ alike i ∙ ap (λ (n : ℕ). n % 2 ^ 32) (before other x i (omega (arith, l, h)))

  nonces_same : IsNonce nonce → IsNonce other → nonce ≡ other
  nonces_same a b = ext_get_or 0 nonce other lengths (λ i h. let one = a.words i in let two = b.words i in let same = nonce_at i h in omega (arith, one, two, same))

-- ---- the law

same_or_not : (xs ys : List ℕ) → (xs ≡ ys) ⊎ (xs ≡ ys → ⊥)
same_or_not [] [] = inl refl
same_or_not [] (y ∷ ys) = inr (λ e. let l = ap length e in omega (arith, l))
same_or_not (x ∷ xs) [] = inr (λ e. let l = ap length e in omega (arith, l))
same_or_not (x ∷ xs) (y ∷ ys) = elim (cases_eq x y) [
  | inl e ↦ elim (same_or_not xs ys) [
    | inl f ↦ inl cc
    | inr n ↦ inr (λ g. n (front_same (x ∷ []) (y ∷ []) xs ys refl g).1)
  ]
  | inr n ↦ inr (λ g. n (ap (λ (zs : List ℕ). slice_index zs 0) g))
]

pub collides : (nonce other : List ℕ) (word x : ℕ) → (text_of nonce word ≡ text_of other x → ⊥) → digest_of nonce word ≡ digest_of other x → Collide
collides nonce other word x differ e = record {
  one = text_of nonce word;
  other = text_of other x;
  bytes = text_bytes nonce word;
  other_bytes = text_bytes other x;
  differ = differ;
  same = hash_same nonce other word x e;
}

pub digests_tell : DigestsTellTheirWords
digests_tell = record {
  hashed = hashes;
  tells = λ nonce other word x a b c d e. elim (same_or_not (text_of nonce word) (text_of other x)) [
    | inl is ↦ let last = last_same nonce other word x is in inl (nonces_same nonce other word x is a b, omega (arith, c, d, last))
    | inr differ ↦ inr (collides nonce other word x differ e)
  ];
}
