-- The word of a line is read exactly.
use Rattle.std.proofs.Common.{◌≡◌, ℕ, suc, ◌<◌, ◌≤◌, Bool, true, false, cond, eqb, List, [], ◌∷◌, ◌++◌, length, take, drop, Option, Some, None, Ok, inl, inr, ◌⊎◌, refl, sym, ap, subst, ◌∙◌, arith, true≢false, eq-eqb}
use Rattle.std.specs.Prelude.{max}
use Rattle.std.proofs.lemmas.List.{take-append-drop, length-take-le, append_cancel_left}
use Rattle.std.proofs.lemmas.Bool.{eqb-true, eqb-false, cases_order}
use Rattle.vd_base_codec.specs.Reading.{first}
use Rattle.vd_base_codec.specs.Exact.{IsAnything, Spells, Stops, IsExact}
use Rattle.vd_execution.specs.declared.instructions.Binary.TheVariants as binary
use Rattle.vd_hostcode.specs.declared.host_text.words.Word.{Word}
use Rattle.vd_hostcode.specs.declared.host_text.words.Word.TheVariants as word
use Rattle.vd_hostcode.specs.Words.{spelling}
use Rattle.vd_hostcode.specs.Lines.{State, allows}
use Rattle.vd_hostcode.specs.Reading.{all_words, alike, among, word_at}

-- ---- how far two texts are alike

alike_here : (w b : ℕ) (ws bs : List ℕ) → w ≡ b → alike (w ∷ ws) (b ∷ bs) ≡ suc (alike ws bs)
unfolding alike
alike_here w b ws bs e = rw (eq-eqb w b e) refl

within_by : (t : Bool) (xs ys : List ℕ) → (alike xs ys ≤ length xs) × (alike xs ys ≤ length ys) → let n : ℕ = cond t (suc (alike xs ys)) 0 in (n ≤ suc (length xs)) × (n ≤ suc (length ys))
within_by true xs ys h = (omega (arith, h.0), omega (arith, h.1))
within_by false xs ys h = (omega arith, omega arith)

pub alike_within : (ws bs : List ℕ) → (alike ws bs ≤ length ws) × (alike ws bs ≤ length bs)
unfolding alike
alike_within [] bs = (omega arith, omega arith)
alike_within (w ∷ ws) [] = (omega arith, omega arith)
alike_within (w ∷ ws) (b ∷ bs) = within_by (eqb w b) ws bs (alike_within ws bs)

-- the front of both
alike_by : (t : Bool) (w b : ℕ) (ws bs : List ℕ) → eqb w b ≡ t → take (alike ws bs) bs ≡ take (alike ws bs) ws → let n : ℕ = cond t (suc (alike ws bs)) 0 in take n (b ∷ bs) ≡ take n (w ∷ ws)
alike_by true w b ws bs e h = let same : w ≡ b = eqb-true w b e in cc
alike_by false w b ws bs e h = refl

alike_front : (ws bs : List ℕ) → take (alike ws bs) bs ≡ take (alike ws bs) ws
unfolding alike
alike_front [] bs = refl
alike_front (w ∷ ws) [] = refl
alike_front (w ∷ ws) (b ∷ bs) = alike_by (eqb w b) w b ws bs refl (alike_front ws bs)

take_all_of : {X : Type 0} (xs : List X) → take (length xs) xs ≡ xs
take_all_of [] = refl
take_all_of (x ∷ xs) = ap (λ ys. x ∷ ys) (take_all_of xs)

-- all of a word
alike_full : (ws bs : List ℕ) → alike ws bs ≡ length ws → bs ≡ ws ++ drop (alike ws bs) bs
alike_full ws bs e =
    let front : take (alike ws bs) bs ≡ ws = alike_front ws bs ∙ ap (λ n. take n ws) e ∙ take_all_of ws in
    sym (take-append-drop (alike ws bs) bs) ∙ ap (λ xs. xs ++ drop (alike ws bs) bs) front

-- a word that agrees with what was taken and with the byte behind
further : (ys behind taken more left : List ℕ) → ys ++ behind ≡ taken ++ more → first more ≡ first left → (length ys ≤ alike ys (taken ++ left)) ⊎ (length taken < alike ys (taken ++ left))
unfolding alike
further [] behind taken more left e f = inl (omega arith)
further (y ∷ ys) behind [] more [] e f = absurd (let g : Some y ≡ None = ap first e ∙ f in cc)
further (y ∷ ys) behind [] more (b ∷ left) e f = let g : Some y ≡ Some b = ap first e ∙ f in let h : y ≡ b = cc in inr (omega (arith, alike_here y b ys left h))
further (y ∷ ys) behind (t ∷ taken) more left e f =
    let h : y ≡ t = cc in
    let rest : ys ++ behind ≡ taken ++ more = cc in
    let one = alike_here y t ys (taken ++ left) h in
    elim (further ys behind taken more left rest f) [
      | inl le ↦ inl (omega (arith, one, le))
      | inr lt ↦ inr (omega (arith, one, lt))
    ]

-- ---- no word begins another

first_word : List Word → List ℕ → Option Word
first_word [] bs = None
first_word (w ∷ ws) bs = cond (eqb (alike (spelling w) bs) (length (spelling w))) (Some w) (first_word ws bs)

read_back : (w : Word) (behind : List ℕ) → first_word all_words (spelling w ++ behind) ≡ Some w
unfolding alike all_words first_word
read_back word.Const behind = refl
read_back word.Copy behind = refl
read_back (word.Apply binary.Add) behind = refl
read_back (word.Apply binary.Sub) behind = refl
read_back (word.Apply binary.Mul) behind = refl
read_back (word.Apply binary.Div) behind = refl
read_back (word.Apply binary.Rem) behind = refl
read_back (word.Apply binary.And) behind = refl
read_back (word.Apply binary.Or) behind = refl
read_back (word.Apply binary.Xor) behind = refl
read_back (word.Apply binary.Eq) behind = refl
read_back (word.Apply binary.Ne) behind = refl
read_back (word.Apply binary.Lt) behind = refl
read_back (word.Apply binary.Le) behind = refl
read_back (word.Apply binary.Min) behind = refl
read_back (word.Apply binary.Max) behind = refl
read_back word.Shl behind = refl
read_back word.Shr behind = refl
read_back word.Mux behind = refl
read_back word.Own behind = refl
read_back word.Triple behind = refl
read_back word.Bits behind = refl
read_back word.Pair behind = refl
read_back word.Input behind = refl
read_back word.Print behind = refl
read_back word.Hash behind = refl
read_back word.Same behind = refl
read_back word.Zero behind = refl
read_back word.Get behind = refl
read_back word.Put behind = refl
read_back word.Send behind = refl
read_back word.Recv behind = refl
read_back word.If behind = refl
read_back word.Else behind = refl
read_back word.For behind = refl
read_back word.End behind = refl

prefix_free : (y w : Word) (behind more : List ℕ) → spelling y ++ behind ≡ spelling w ++ more → y ≡ w
prefix_free y w behind more e =
    let same : Some y ≡ Some w = sym (read_back y behind) ∙ ap (first_word all_words) e ∙ read_back w more in
    cc

-- ---- the scan of the words

abbrev Rest : List Word → Word → Type 0
Rest [] y = ⊥
Rest (w ∷ ws) y = (y ≡ w) ⊎ Rest ws y

abbrev Beaten : (Word → Bool) → List ℕ → ℕ → Word → Type 0
Beaten may bytes far y = (alike (spelling y) bytes < length (spelling y)) × (alike (spelling y) bytes ≤ far)

record Passed (may : Word → Bool) (ws : List Word) (bytes : List ℕ) (far : ℕ) : Type 0 where
  within : far ≤ length bytes
  begun : Word
  may_begin : may begun ≡ true
  over : List ℕ
  begins : spelling begun ≡ take far bytes ++ over
  others : (y : Word) → may y ≡ true → Rest ws y ⊎ Beaten may bytes far y

none_left : (may : Word → Bool) (bytes : List ℕ) (far : ℕ) → Passed may [] bytes far → Stops IsAnything (λ w. may w ≡ true) spelling bytes (drop far bytes)
none_left may bytes far p = record {
  taken = take far bytes;
  split = sym (take-append-drop far bytes);
  begun = p.begun;
  fits = p.may_begin;
  rest = p.over;
  begins = p.begins;
  none = λ y behind more h k e f.
      let whole : take far bytes ++ drop far bytes ≡ bytes = take-append-drop far bytes in
      let long : length (take far bytes) ≡ far = length-take-le far bytes p.within in
      elim (p.others y h) [
        | inl r ↦ absurd r
        | inr b ↦ elim (further (spelling y) behind (take far bytes) more (drop far bytes) e f) [
          | inl le ↦ absurd (omega (arith, b.0, rw whole at le))
          | inr lt ↦ absurd (omega (arith, b.1, long, rw whole at lt))
        ]
      ];
}

found : (may : Word → Bool) (w : Word) (bytes : List ℕ) → may w ≡ true → alike (spelling w) bytes ≡ length (spelling w) → Spells IsAnything (λ y. may y ≡ true) spelling bytes w (drop (alike (spelling w) bytes) bytes)
found may w bytes h e = record {
  fits = h;
  split = alike_full (spelling w) bytes e;
  only = λ y behind more m k same f.
      let one : y ≡ w = prefix_free y w behind more same in
      (one, append_cancel_left (spelling w) behind more (ap (λ z. spelling z ++ behind) (sym one) ∙ same));
}

-- a word that may not come
passed_over : (may : Word → Bool) (w : Word) (ws : List Word) (bytes : List ℕ) (far : ℕ) → may w ≡ false → Passed may (w ∷ ws) bytes far → Passed may ws bytes far
passed_over may w ws bytes far e p = record {
  within = p.within;
  begun = p.begun;
  may_begin = p.may_begin;
  over = p.over;
  begins = p.begins;
  others = λ y h. elim (p.others y h) [
    | inl (inl same) ↦ absurd (true≢false (sym h ∙ ap may same ∙ e))
    | inl (inr r) ↦ inl r
    | inr b ↦ inr b
  ];
}

-- a word that does not stand here, and is no further than another, or further
passed_by : (may : Word → Bool) (w : Word) (ws : List Word) (bytes : List ℕ) (far next : ℕ) → may w ≡ true → alike (spelling w) bytes < length (spelling w)
    → ((next ≡ far) × (alike (spelling w) bytes ≤ far)) ⊎ ((next ≡ alike (spelling w) bytes) × (far ≤ next)) → Passed may (w ∷ ws) bytes far → Passed may ws bytes next
passed_by may w ws bytes far next m lt (inl h) p = subst (Passed may ws bytes) (sym h.0) (record {
  within = p.within;
  begun = p.begun;
  may_begin = p.may_begin;
  over = p.over;
  begins = p.begins;
  others = λ y k. elim (p.others y k) [
    | inl (inl same) ↦ inr (subst (Beaten may bytes far) (sym same) (lt, h.1))
    | inl (inr r) ↦ inl r
    | inr b ↦ inr b
  ];
})
passed_by may w ws bytes far next m lt (inr h) p = subst (Passed may ws bytes) (sym h.0) (record {
  within = (alike_within (spelling w) bytes).1;
  begun = w;
  may_begin = m;
  over = drop (alike (spelling w) bytes) (spelling w);
  begins = sym (take-append-drop (alike (spelling w) bytes) (spelling w)) ∙ ap (λ front. front ++ drop (alike (spelling w) bytes) (spelling w)) (sym (alike_front (spelling w) bytes));
  others = λ y k. elim (p.others y k) [
    | inl (inl same) ↦ inr (subst (Beaten may bytes (alike (spelling w) bytes)) (sym same) (lt, omega arith))
    | inl (inr r) ↦ inl r
    | inr b ↦ inr (b.0, omega (arith, b.1, h.0, h.1))
  ];
})

greater : (a b : ℕ) → ((max a b ≡ a) × (b ≤ a)) ⊎ ((max a b ≡ b) × (a ≤ max a b))
greater a b = elim (cases_order a b) [
  | inl e ↦ inl (omega (arith, e), omega (arith, e))
  | inr (inl h) ↦ inr (omega (arith, h), omega (arith, h))
  | inr (inr h) ↦ inl (omega (arith, h), omega (arith, h))
]

not_full : (w : Word) (bytes : List ℕ) → eqb (alike (spelling w) bytes) (length (spelling w)) ≡ false → alike (spelling w) bytes < length (spelling w)
not_full w bytes e =
    let other = eqb-false (alike (spelling w) bytes) (length (spelling w)) e in
    let le = (alike_within (spelling w) bytes).0 in
    elim (cases_order (alike (spelling w) bytes) (length (spelling w))) [
      | inl same ↦ absurd (other same)
      | inr (inl h) ↦ h
      | inr (inr h) ↦ absurd (omega (arith, le, h))
    ]

abbrev Fits : (Word → Bool) → Word → Type 0
Fits may w = may w ≡ true

tested : (may : Word → Bool) (w : Word) (ws : List Word) (far : ℕ) (bytes : List ℕ) (m t : Bool) → may w ≡ m → eqb (alike (spelling w) bytes) (length (spelling w)) ≡ t → Passed may (w ∷ ws) bytes far
    → ((next : ℕ) → Passed may ws bytes next → IsExact IsAnything (Fits may) spelling bytes (among may ws next bytes))
    → IsExact IsAnything (Fits may) spelling bytes
    (cond m (cond t (Ok (w, drop (alike (spelling w) bytes) bytes)) (among may ws (max far (alike (spelling w) bytes)) bytes)) (among may ws far bytes))
tested may w ws far bytes false t m_is t_is p rest = rest far (passed_over may w ws bytes far m_is p)
tested may w ws far bytes true true m_is t_is p rest = found may w bytes m_is (eqb-true (alike (spelling w) bytes) (length (spelling w)) t_is)
tested may w ws far bytes true false m_is t_is p rest =
    let next : ℕ = max far (alike (spelling w) bytes) in
    rest next (passed_by may w ws bytes far next m_is (not_full w bytes t_is) (greater far (alike (spelling w) bytes)) p)

among_exact : (may : Word → Bool) (ws : List Word) (far : ℕ) (bytes : List ℕ) → Passed may ws bytes far → IsExact IsAnything (Fits may) spelling bytes (among may ws far bytes)
unfolding among
among_exact may [] far bytes p = none_left may bytes far p
among_exact may (w ∷ ws) far bytes p =
    tested may w ws far bytes (may w) (eqb (alike (spelling w) bytes) (length (spelling w))) refl refl p (λ next q. among_exact may ws next bytes q)

all_there : (y : Word) → Rest all_words y
unfolding all_words
all_there word.Const = inl refl
all_there word.Copy = inr (inl refl)
all_there (word.Apply binary.Add) = inr (inr (inl refl))
all_there (word.Apply binary.Sub) = inr (inr (inr (inl refl)))
all_there (word.Apply binary.Mul) = inr (inr (inr (inr (inl refl))))
all_there (word.Apply binary.Div) = inr (inr (inr (inr (inr (inl refl)))))
all_there (word.Apply binary.Rem) = inr (inr (inr (inr (inr (inr (inl refl))))))
all_there (word.Apply binary.And) = inr (inr (inr (inr (inr (inr (inr (inl refl)))))))
all_there (word.Apply binary.Or) = inr (inr (inr (inr (inr (inr (inr (inr (inl refl))))))))
all_there (word.Apply binary.Xor) = inr (inr (inr (inr (inr (inr (inr (inr (inr (inl refl)))))))))
all_there (word.Apply binary.Eq) = inr (inr (inr (inr (inr (inr (inr (inr (inr (inr (inl refl))))))))))
all_there (word.Apply binary.Ne) = inr (inr (inr (inr (inr (inr (inr (inr (inr (inr (inr (inl refl)))))))))))
all_there (word.Apply binary.Lt) = inr (inr (inr (inr (inr (inr (inr (inr (inr (inr (inr (inr (inl refl))))))))))))
all_there (word.Apply binary.Le) = inr (inr (inr (inr (inr (inr (inr (inr (inr (inr (inr (inr (inr (inl refl)))))))))))))
all_there (word.Apply binary.Min) = inr (inr (inr (inr (inr (inr (inr (inr (inr (inr (inr (inr (inr (inr (inl refl))))))))))))))
all_there (word.Apply binary.Max) = inr (inr (inr (inr (inr (inr (inr (inr (inr (inr (inr (inr (inr (inr (inr (inl refl)))))))))))))))
all_there word.Shl = inr (inr (inr (inr (inr (inr (inr (inr (inr (inr (inr (inr (inr (inr (inr (inr (inl refl))))))))))))))))
all_there word.Shr = inr (inr (inr (inr (inr (inr (inr (inr (inr (inr (inr (inr (inr (inr (inr (inr (inr (inl refl)))))))))))))))))
all_there word.Mux = inr (inr (inr (inr (inr (inr (inr (inr (inr (inr (inr (inr (inr (inr (inr (inr (inr (inr (inl refl))))))))))))))))))
all_there word.Own = inr (inr (inr (inr (inr (inr (inr (inr (inr (inr (inr (inr (inr (inr (inr (inr (inr (inr (inr (inl refl)))))))))))))))))))
all_there word.Triple = inr (inr (inr (inr (inr (inr (inr (inr (inr (inr (inr (inr (inr (inr (inr (inr (inr (inr (inr (inr (inl refl))))))))))))))))))))
all_there word.Bits = inr (inr (inr (inr (inr (inr (inr (inr (inr (inr (inr (inr (inr (inr (inr (inr (inr (inr (inr (inr (inr (inl refl)))))))))))))))))))))
all_there word.Pair = inr (inr (inr (inr (inr (inr (inr (inr (inr (inr (inr (inr (inr (inr (inr (inr (inr (inr (inr (inr (inr (inr (inl refl))))))))))))))))))))))
all_there word.Input = inr (inr (inr (inr (inr (inr (inr (inr (inr (inr (inr (inr (inr (inr (inr (inr (inr (inr (inr (inr (inr (inr (inr (inl refl)))))))))))))))))))))))
all_there word.Print = inr (inr (inr (inr (inr (inr (inr (inr (inr (inr (inr (inr (inr (inr (inr (inr (inr (inr (inr (inr (inr (inr (inr (inr (inl refl))))))))))))))))))))))))
all_there word.Hash = inr (inr (inr (inr (inr (inr (inr (inr (inr (inr (inr (inr (inr (inr (inr (inr (inr (inr (inr (inr (inr (inr (inr (inr (inr (inl refl)))))))))))))))))))))))))
all_there word.Same = inr (inr (inr (inr (inr (inr (inr (inr (inr (inr (inr (inr (inr (inr (inr (inr (inr (inr (inr (inr (inr (inr (inr (inr (inr (inr (inl refl))))))))))))))))))))))))))
all_there word.Zero = inr (inr (inr (inr (inr (inr (inr (inr (inr (inr (inr (inr (inr (inr (inr (inr (inr (inr (inr (inr (inr (inr (inr (inr (inr (inr (inr (inl refl)))))))))))))))))))))))))))
all_there word.Get = inr (inr (inr (inr (inr (inr (inr (inr (inr (inr (inr (inr (inr (inr (inr (inr (inr (inr (inr (inr (inr (inr (inr (inr (inr (inr (inr (inr (inl refl))))))))))))))))))))))))))))
all_there word.Put = inr (inr (inr (inr (inr (inr (inr (inr (inr (inr (inr (inr (inr (inr (inr (inr (inr (inr (inr (inr (inr (inr (inr (inr (inr (inr (inr (inr (inr (inl refl)))))))))))))))))))))))))))))
all_there word.Send = inr (inr (inr (inr (inr (inr (inr (inr (inr (inr (inr (inr (inr (inr (inr (inr (inr (inr (inr (inr (inr (inr (inr (inr (inr (inr (inr (inr (inr (inr (inl refl))))))))))))))))))))))))))))))
all_there word.Recv = inr (inr (inr (inr (inr (inr (inr (inr (inr (inr (inr (inr (inr (inr (inr (inr (inr (inr (inr (inr (inr (inr (inr (inr (inr (inr (inr (inr (inr (inr (inr (inl refl)))))))))))))))))))))))))))))))
all_there word.If = inr (inr (inr (inr (inr (inr (inr (inr (inr (inr (inr (inr (inr (inr (inr (inr (inr (inr (inr (inr (inr (inr (inr (inr (inr (inr (inr (inr (inr (inr (inr (inr (inl refl))))))))))))))))))))))))))))))))
all_there word.Else = inr (inr (inr (inr (inr (inr (inr (inr (inr (inr (inr (inr (inr (inr (inr (inr (inr (inr (inr (inr (inr (inr (inr (inr (inr (inr (inr (inr (inr (inr (inr (inr (inr (inl refl)))))))))))))))))))))))))))))))))
all_there word.For = inr (inr (inr (inr (inr (inr (inr (inr (inr (inr (inr (inr (inr (inr (inr (inr (inr (inr (inr (inr (inr (inr (inr (inr (inr (inr (inr (inr (inr (inr (inr (inr (inr (inr (inl refl))))))))))))))))))))))))))))))))))
all_there word.End = inr (inr (inr (inr (inr (inr (inr (inr (inr (inr (inr (inr (inr (inr (inr (inr (inr (inr (inr (inr (inr (inr (inr (inr (inr (inr (inr (inr (inr (inr (inr (inr (inr (inr (inr (inl refl)))))))))))))))))))))))))))))))))))

pub word_exact : (s : State) (bytes : List ℕ) → IsExact IsAnything (λ w. allows s w ≡ true) spelling bytes (word_at s bytes)
word_exact s bytes = among_exact (allows s) all_words 0 bytes (record {
  within = omega arith;
  begun = word.Own;
  may_begin = refl;
  over = spelling word.Own;
  begins = refl;
  others = λ y h. inl (all_there y);
})
