-- Packets whose words stand in one list.
use Rattle.std.proofs.Common.{◌≡◌, ℕ, zero, suc, ◌+◌, ◌-◌, ◌≤◌, List, [], ◌∷◌, ◌++◌, length, length-append, take, drop, refl, sym, ap, ap₂, ◌∙◌, subst, arith}
use Rattle.std.specs.Prelude.{slice_get, slice_index, Some, None}
use Rattle.vd_execution.specs.World.{words_of}
use Rattle.vd_world.specs.Links.{cut, Rises, begin}

below_all : (start : ℕ) (ends : List ℕ) (all : ℕ) → Rises start ends all → start ≤ all
below_all start [] all r = omega (arith, r)
below_all start (end ∷ ends) all r = let b = below_all end ends all r.1 in let a = r.0 in omega (arith, a, b)

drop_within : (n : ℕ) (xs ys : List ℕ) → n ≤ length xs → drop n (xs ++ ys) ≡ drop n xs ++ ys
drop_within zero xs ys h = refl
drop_within (suc n) [] ys h = absurd (omega (arith, h))
drop_within (suc n) (x ∷ xs) ys h = drop_within n xs ys (omega (arith, h))

take_within : (n : ℕ) (xs ys : List ℕ) → n ≤ length xs → take n (xs ++ ys) ≡ take n xs
take_within zero xs ys h = refl
take_within (suc n) [] ys h = absurd (omega (arith, h))
take_within (suc n) (x ∷ xs) ys h = ap (λ l. x ∷ l) (take_within n xs ys (omega (arith, h)))

length_drop : (n : ℕ) (xs : List ℕ) → length (drop n xs) ≡ length xs - n
length_drop zero xs = omega arith
length_drop (suc n) [] = omega arith
length_drop (suc n) (x ∷ xs) = let h = length_drop n xs in omega (arith, h)

take_whole : (xs : List ℕ) (n : ℕ) → n ≡ length xs → take n xs ≡ xs
take_whole [] zero e = refl
take_whole [] (suc n) e = absurd (omega (arith, e))
take_whole (x ∷ xs) zero e = absurd (omega (arith, e))
take_whole (x ∷ xs) (suc n) e = ap (λ l. x ∷ l) (take_whole xs n (omega (arith, e)))

drop_whole : (xs : List ℕ) (n : ℕ) → n ≡ length xs → drop n xs ≡ []
drop_whole [] zero e = refl
drop_whole [] (suc n) e = refl
drop_whole (x ∷ xs) zero e = absurd (omega (arith, e))
drop_whole (x ∷ xs) (suc n) e = drop_whole xs n (omega (arith, e))

-- one more packet
cut_more : (start : ℕ) (ends words xs : List ℕ) (end : ℕ) → Rises start ends (length words) → end ≡ length words + length xs
    → cut start (ends ++ end ∷ []) (words ++ xs) ≡ cut start ends words ++ xs ∷ []
cut_more start [] words xs end r e =
    ap (λ l. take (end - start) l ∷ []) (drop_within start words xs (omega (arith, r)) ∙ ap (λ l. l ++ xs) (drop_whole words start r))
    ∙ ap (λ l. l ∷ []) (take_whole xs (end - start) (omega (arith, r, e)))
cut_more start (x ∷ ends) words xs end r e =
    let b = below_all x ends (length words) r.1 in
    let a = r.0 in
    let d = length_drop start words in
    ap₂ (λ (p : List ℕ) (q : List (List ℕ)). p ∷ q)
    (ap (take (x - start)) (drop_within start words xs (omega (arith, a, b))) ∙ take_within (x - start) (drop start words) xs (omega (arith, a, b, d)))
    (cut_more x ends words xs end r.1 e)

rises_more : (start : ℕ) (ends : List ℕ) (all end : ℕ) → Rises start ends all → all ≤ end → Rises start (ends ++ end ∷ []) end
rises_more start [] all end r h = (omega (arith, r, h), refl)
rises_more start (x ∷ ends) all end r h = (r.0, rises_more x ends all end r.1 h)

nothing : (n : ℕ) → drop {A = ℕ} n [] ≡ []
nothing zero = refl
nothing (suc n) = refl

dropped : (n m : ℕ) (xs : List ℕ) → drop (n + m) xs ≡ drop m (drop n xs)
dropped zero m xs = ap (λ k. drop k xs) (omega arith)
dropped (suc n) m [] = nothing (suc n + m) ∙ sym (nothing m)
dropped (suc n) m (y ∷ xs) = ap (λ k. drop k (y ∷ xs)) (let e : suc n + m ≡ suc (n + m) = omega arith in e) ∙ dropped n m xs

-- the words are those of all packets
pub words_are : (start : ℕ) (ends words : List ℕ) → Rises start ends (length words) → words_of (cut start ends words) ≡ drop start words
words_are start [] words r = sym (drop_whole words start r)
words_are start (x ∷ ends) words r =
    ap (λ l. take (x - start) (drop start words) ++ l) (words_are x ends words r.1) ∙ parted start x words r.0
  where
    joined : (n : ℕ) (xs : List ℕ) → take n xs ++ drop n xs ≡ xs
    joined zero xs = refl
    joined (suc n) [] = refl
    joined (suc n) (y ∷ xs) = ap (λ l. y ∷ l) (joined n xs)

    parted : (a b : ℕ) (xs : List ℕ) → a ≤ b → take (b - a) (drop a xs) ++ drop b xs ≡ drop a xs
    parted a b xs h =
        let e : b ≡ a + (b - a) = omega (arith, h) in
        ap (λ l. take (b - a) (drop a xs) ++ l) (ap (λ k. drop k xs) e ∙ dropped a (b - a) xs) ∙ joined (b - a) (drop a xs)

begin_next : (start x : ℕ) (ends : List ℕ) (i : ℕ) → begin x ends i ≡ begin start (x ∷ ends) (suc i)
begin_next start x ends zero = refl
begin_next start x ends (suc i) = refl

the_end : (x end : ℕ) → Some x ≡ Some end → x ≡ end
the_end x end e = cc

pub cut_at : (start : ℕ) (ends words : List ℕ) (i end : ℕ) → slice_get ends i ≡ Some end
    → slice_get (cut start ends words) i ≡ Some (take (end - begin start ends i) (drop (begin start ends i) words))
cut_at start [] words i end e = absurd cc
cut_at start (x ∷ ends) words zero end e = ap (λ k. Some (take (k - start) (drop start words))) (the_end x end e)
cut_at start (x ∷ ends) words (suc i) end e =
    cut_at x ends words i end e ∙ ap (λ b. Some (take (end - b) (drop b words))) (begin_next start x ends i)

pub none_at : (start : ℕ) (ends words : List ℕ) (i : ℕ) → slice_get ends i ≡ None → slice_get (cut start ends words) i ≡ None
none_at start [] words i e = refl
none_at start (x ∷ ends) words zero e = absurd cc
none_at start (x ∷ ends) words (suc i) e = none_at x ends words i e

-- a packet begins before it ends, and ends within the words
pub place_fits : (start : ℕ) (ends : List ℕ) (all i end : ℕ) → Rises start ends all → slice_get ends i ≡ Some end → (begin start ends i ≤ end) × (end ≤ all)
place_fits start [] all i end r e = absurd cc
place_fits start (x ∷ ends) all zero end r e =
    let b = below_all x ends all r.1 in let a = r.0 in let s = the_end x end e in (omega (arith, a, s), omega (arith, b, s))
place_fits start (x ∷ ends) all (suc i) end r e =
    let p = place_fits x ends all i end r.1 e in let n = begin_next start x ends i in let a = p.0 in (omega (arith, a, n), p.1)

-- one more packet was sent
pub sent_rises : (ends ends' words words' xs : List ℕ) (end : ℕ) → Rises 0 ends (length words) → words' ≡ words ++ xs → ends' ≡ ends ++ end ∷ [] → end ≡ length words' → Rises 0 ends' (length words')
sent_rises ends ends' words words' xs end r e f g =
    let more = length-append words xs in
    let all = ap length e in
    subst (λ n. Rises 0 ends' n) g (subst (λ l. Rises 0 l end) (sym f) (rises_more 0 ends (length words) end r (omega (arith, more, all, g))))

pub sent_cut : (ends ends' words words' xs : List ℕ) (end : ℕ) → Rises 0 ends (length words) → words' ≡ words ++ xs → ends' ≡ ends ++ end ∷ [] → end ≡ length words' → cut 0 ends' words' ≡ cut 0 ends words ++ xs ∷ []
sent_cut ends ends' words words' xs end r e f g =
    let more = length-append words xs in
    let all = ap length e in
    ap₂ (λ (a b : List ℕ). cut 0 a b) f e ∙ cut_more 0 ends words xs end r (omega (arith, more, all, g))

-- a packet that is not the first one begins where the one before it ends
pub begin_after : (ends : List ℕ) (place : ℕ) → (place ≡ 0 → ⊥) → begin 0 ends place ≡ slice_index ends (place - 1)
begin_after ends zero h = absurd (h refl)
begin_after ends (suc i) h = ap (slice_index ends) (omega arith)
