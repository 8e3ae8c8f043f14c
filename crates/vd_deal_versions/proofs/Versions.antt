-- Files of two versions, which differ at one byte.
use Rattle.std.proofs.Common.{◌≡◌, ℕ, ◌+◌, List, [], ◌∷◌, ◌++◌, length, drop, Some, Ok, Err, inl, inr, refl, sym, ap, subst, ◌∙◌, append_assoc, arith}
use Rattle.std.specs.Prelude.{◌⊎◌}
use Rattle.std.proofs.lemmas.List.{append-nil}
use Rattle.std.proofs.lemmas.Bool.{cases_eq}
use Rattle.vd_base_codec.specs.Reading.{first, Reading, ◌>>=◌}
use Rattle.vd_base_codec.specs.Exact.{IsExact}

-- ---- a value that stands for another

-- each value of one kind stands for one of the other, which has the same text
pub record StandsFor {A X : Type 0} (FitsA : A → Type 0) (part : A → List ℕ) (Mine : X → Type 0) (text : X → List ℕ) (f : A → X) : Type 0 where
  pub there : (a : A) → FitsA a → Mine (f a)
  pub back : (x : X) → Mine x → (a : A) × (FitsA a × (f a ≡ x))
  pub same : (a : A) → text (f a) ≡ part a

pub exact_through : {A X : Type 0} (Behind : List ℕ → Type 0) (FitsA : A → Type 0) (part : A → List ℕ) (Mine : X → Type 0) (text : X → List ℕ) (f : A → X)
    → StandsFor FitsA part Mine text f → (bytes : List ℕ) (r : Reading A) → IsExact Behind FitsA part bytes r
    → IsExact Behind Mine text bytes (r >>= λ x. Ok (f x.0, x.1))
exact_through Behind FitsA part Mine text f for bytes (Ok x) exact = record {
  fits = for.there x.0 exact.fits;
  split = exact.split ∙ ap (λ bs. bs ++ x.1) (sym (for.same x.0));
  only = λ y behind more h k e g.
      let a = for.back y h in
      let mine : part a.0 ++ behind ≡ part x.0 ++ more =
      ap (λ bs. bs ++ behind) (sym (for.same a.0) ∙ ap text a.1.1) ∙ e ∙ ap (λ bs. bs ++ more) (for.same x.0) in
      let same = exact.only a.0 behind more a.1.0 k mine g in
      (sym a.1.1 ∙ ap f same.0, same.1);
}
exact_through Behind FitsA part Mine text f for bytes (Err left) exact = record {
  taken = exact.taken;
  split = exact.split;
  begun = f exact.begun;
  fits = for.there exact.begun exact.fits;
  rest = exact.rest;
  begins = for.same exact.begun ∙ exact.begins;
  none = λ y behind more h k e g.
      let a = for.back y h in
      exact.none a.0 behind more a.1.0 k (ap (λ bs. bs ++ behind) (sym (for.same a.0) ∙ ap text a.1.1) ∙ e) g;
}

-- ---- the byte of the version

-- two texts that begin alike up to a byte of the version, and what was taken of the second: the first goes on as the second does, or
-- at the byte of its version, or both have one version
abbrev Fork : (front taken more rest : List ℕ) (a b : ℕ) → Type 0
Fork front taken more rest a b = (first more ≡ first rest) ⊎ (((taken ≡ front) × (first more ≡ Some a)) ⊎ (a ≡ b))

longer_fork : (f t : ℕ) (front taken more rest : List ℕ) (a b : ℕ) → f ≡ t → Fork front taken more rest a b → Fork (f ∷ front) (t ∷ taken) more rest a b
longer_fork f t front taken more rest a b e h = elim h [
  | inl same ↦ inl same
  | inr (inl both) ↦ inr (inl (ap (λ x. x ∷ taken) (sym e) ∙ ap (λ xs. f ∷ xs) both.0, both.1))
  | inr (inr same) ↦ inr (inr same)
]

fork : (front taken more rest p q : List ℕ) (a b : ℕ) → front ++ a ∷ p ≡ taken ++ more → front ++ b ∷ q ≡ taken ++ rest → Fork front taken more rest a b
fork [] [] more rest p q a b e g = inr (inl (refl, ap first (sym e)))
fork [] (t ∷ taken) more rest p q a b e g = let one : a ≡ t = cc in let other : b ≡ t = cc in inr (inr (one ∙ sym other))
fork (f ∷ front) [] more rest p q a b e g = inl (ap first (sym e) ∙ ap first g)
fork (f ∷ front) (t ∷ taken) more rest p q a b e g =
    let same : f ≡ t = cc in
    let ones : front ++ a ∷ p ≡ taken ++ more = cc in
    let others : front ++ b ∷ q ≡ taken ++ rest = cc in
    longer_fork f t front taken more rest a b same (fork front taken more rest p q a b ones others)

behind_front : (front left : List ℕ) → drop (length front) (front ++ left) ≡ left
behind_front [] left = refl
behind_front (f ∷ front) left = behind_front front left

same_version : (front p q behind more : List ℕ) (a b : ℕ) → (front ++ a ∷ p) ++ behind ≡ (front ++ b ∷ q) ++ more → a ≡ b
same_version [] p q behind more a b e = cc
same_version (f ∷ front) p q behind more a b e =
    let rest : (front ++ a ∷ p) ++ behind ≡ (front ++ b ∷ q) ++ more = cc in
    same_version front p q behind more a b rest

-- Each text has this front and then the byte of its version.
pub record HasVersion {X : Type 0} (Fits : X → Type 0) (text : X → List ℕ) (front : List ℕ) (version : X → ℕ) (rest : X → List ℕ) : Type 0 where
  pub is : (x : X) → Fits x → text x ≡ front ++ version x ∷ rest x

-- What is read exactly among the texts of one version is read exactly among all, where the bytes do not go on to another version.
pub version_exact : {X : Type 0} (Behind : List ℕ → Type 0) (Fits : X → Type 0) (text : X → List ℕ) (front : List ℕ) (version : X → ℕ) (rest : X → List ℕ) (mine : ℕ)
    → HasVersion Fits text front version rest → Behind [] → (bytes : List ℕ) → ((x : X) → Fits x → (version x ≡ mine → ⊥) → first (drop (length front) bytes) ≡ Some (version x) → ⊥)
    → (r : Reading X) → IsExact Behind (λ x. Fits x × (version x ≡ mine)) text bytes r → IsExact Behind Fits text bytes r
version_exact Behind Fits text front version rest mine has empty bytes none (Ok x) exact = record {
  fits = exact.fits.0;
  split = exact.split;
  only = λ y behind more h k e g. elim (cases_eq (version y) mine) [
    | inl same ↦ exact.only y behind more (h, same) k e g
    | inr other ↦
        let one : version y ≡ version x.0 =
        same_version front (rest y) (rest x.0) behind more (version y) (version x.0)
        (ap (λ bs. bs ++ behind) (sym (has.is y h)) ∙ e ∙ ap (λ bs. bs ++ more) (has.is x.0 exact.fits.0)) in
        absurd (other (one ∙ exact.fits.1))
  ];
}
version_exact Behind Fits text front version rest mine has empty bytes none (Err left) exact = record {
  taken = exact.taken;
  split = exact.split;
  begun = exact.begun;
  fits = exact.fits.0;
  rest = exact.rest;
  begins = exact.begins;
  none = λ y behind more h k e g. elim (cases_eq (version y) mine) [
    | inl same ↦ exact.none y behind more (h, same) k e g
    | inr other ↦
        let ours = exact.begun in
        let yours : front ++ version y ∷ (rest y ++ behind) ≡ exact.taken ++ more =
        sym (append_assoc front (version y ∷ rest y) behind) ∙ ap (λ bs. bs ++ behind) (sym (has.is y h)) ∙ e in
        let begun : front ++ version ours ∷ rest ours ≡ exact.taken ++ exact.rest = sym (has.is ours exact.fits.0) ∙ exact.begins in
        elim (fork front exact.taken more exact.rest (rest y ++ behind) (rest ours) (version y) (version ours) yours begun) [
          | inl same ↦ exact.none ours [] exact.rest exact.fits empty (append-nil (text ours) ∙ exact.begins) (sym same ∙ g)
          | inr (inl both) ↦
              let stands : first (drop (length front) bytes) ≡ first left =
              ap (λ bs. first (drop (length front) bs)) (exact.split ∙ ap (λ bs. bs ++ left) both.0) ∙ ap first (behind_front front left) in
              none y h other (stands ∙ sym g ∙ both.1)
          | inr (inr same) ↦ other (same ∙ exact.fits.1)
        ]
  ];
}
