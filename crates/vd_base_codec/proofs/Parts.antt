-- Exact readings of parts, one behind the other.
use Rattle.std.proofs.Common.{◌≡◌, ℕ, zero, suc, Bool, true, false, cond, eqb, List, [], ◌∷◌, ◌++◌, length, Some, Ok, Err, refl, sym, ap, subst, ◌∙◌, append_assoc, arith}
use Rattle.std.specs.List.{flat_map, AllByRecursion}
use Rattle.std.proofs.lemmas.List.{append-nil}
use Rattle.std.proofs.lemmas.Bool.{eqb-true, eqb-false}
use Rattle.std.proofs.lemmas.List.Concat.{flat_map-cons}
use Rattle.vd_base_codec.specs.Reading.{first, Reading, ◌>>=◌, byte_at, literal_at, each_at}
use Rattle.vd_base_codec.specs.Exact.{Spells, Stops, IsExact}

pub bind_assoc : {A B C : Type 0} (r : Reading A) (f : A × List ℕ → Reading B) (g : B × List ℕ → Reading C) → ((r >>= f) >>= g) ≡ (r >>= λ x. f x >>= g)
bind_assoc (Ok x) f g = refl
bind_assoc (Err left) f g = refl

-- the first byte of what was taken and what is behind it
pub first_append : (xs more left : List ℕ) → first more ≡ first left → first (xs ++ more) ≡ first (xs ++ left)
first_append [] more left e = e
first_append (x ∷ xs) more left e = refl

-- nothing is left to read
pub done_exact : {X : Type 0} (Behind : List ℕ → Type 0) (Fits : X → Type 0) (x : X) (bytes : List ℕ) → Fits x → ((y : X) → Fits y → y ≡ x) → IsExact Behind Fits (λ _. []) bytes (Ok (x, bytes))
done_exact Behind Fits x bytes fits unique = record {
  fits = fits;
  split = refl;
  only = λ y behind more h b e f. (unique y h, e);
}

-- ---- a byte that is always there

byte_front : {X : Type 0} (Behind : List ℕ → Type 0) (Fits : X → Type 0) (text : X → List ℕ) (b : ℕ) (bytes : List ℕ) (r : Reading X) → IsExact Behind Fits text bytes r → IsExact Behind Fits (λ x. b ∷ text x) (b ∷ bytes) r
byte_front Behind Fits text b bytes (Ok x) exact = record {
  fits = exact.fits;
  split = ap (λ bs. b ∷ bs) exact.split;
  only = λ y behind more h k e f. exact.only y behind more h k (cc) f;
}
byte_front Behind Fits text b bytes (Err left) exact = record {
  taken = b ∷ exact.taken;
  split = ap (λ bs. b ∷ bs) exact.split;
  begun = exact.begun;
  fits = exact.fits;
  rest = exact.rest;
  begins = ap (λ bs. b ∷ bs) exact.begins;
  none = λ y behind more h k e f. exact.none y behind more h k (cc) f;
}

byte_missing : {X : Type 0} (Behind : List ℕ → Type 0) (Fits : X → Type 0) (text : X → List ℕ) (b : ℕ) (x : X) (left : List ℕ) → Fits x → (first left ≡ Some b → ⊥) → Stops Behind Fits (λ x. b ∷ text x) left left
byte_missing Behind Fits text b x left fits other = record {
  taken = [];
  split = refl;
  begun = x;
  fits = fits;
  rest = b ∷ text x;
  begins = refl;
  none = λ y behind more h k e f. other (sym f ∙ ap first (sym e));
}

byte_tested : {X : Type 0} (Behind : List ℕ → Type 0) (Fits : X → Type 0) (text : X → List ℕ) (b c : ℕ) (bytes : List ℕ) (x : X) (f : List ℕ → Reading X) (t : Bool) → eqb c b ≡ t → Fits x
    → ((mid : List ℕ) → IsExact Behind Fits text mid (f mid)) → let r : Reading (Unit {0}) = cond t (Ok (tt, bytes)) (Err (c ∷ bytes)) in IsExact Behind Fits (λ x. b ∷ text x) (c ∷ bytes) (r >>= λ y. f y.1)
byte_tested Behind Fits text b c bytes x f true is fits exact =
    let same : c ≡ b = eqb-true c b is in
    subst (λ d. IsExact Behind Fits (λ x. b ∷ text x) (d ∷ bytes) (f bytes)) (sym same) (byte_front Behind Fits text b bytes (f bytes) (exact bytes))
byte_tested Behind Fits text b c bytes x f false is fits exact =
    byte_missing Behind Fits text b x (c ∷ bytes) fits (λ e. eqb-false c b is (cc))

pub byte_exact : {X : Type 0} (Behind : List ℕ → Type 0) (Fits : X → Type 0) (text : X → List ℕ) (b : ℕ) (bytes : List ℕ) (x : X) (f : List ℕ → Reading X) → Fits x
    → ((mid : List ℕ) → IsExact Behind Fits text mid (f mid)) → IsExact Behind Fits (λ x. b ∷ text x) bytes (byte_at b bytes >>= λ y. f y.1)
byte_exact Behind Fits text b [] x f fits exact = byte_missing Behind Fits text b x [] fits (λ e. cc)
byte_exact Behind Fits text b (c ∷ bytes) x f fits exact = byte_tested Behind Fits text b c bytes x f (eqb c b) refl fits exact

-- ---- bytes that are always there

pub literal_exact : {X : Type 0} (Behind : List ℕ → Type 0) (Fits : X → Type 0) (text : X → List ℕ) (word bytes : List ℕ) (x : X) (f : List ℕ → Reading X) → Fits x
    → ((mid : List ℕ) → IsExact Behind Fits text mid (f mid)) → IsExact Behind Fits (λ x. word ++ text x) bytes (literal_at word bytes >>= λ y. f y.1)
unfolding literal_at
literal_exact Behind Fits text [] bytes x f fits exact = exact bytes
literal_exact Behind Fits text (w ∷ ws) bytes x f fits exact =
    rw (bind_assoc (byte_at w bytes) (λ y. literal_at ws y.1) (λ y. f y.1))
    (byte_exact Behind Fits (λ x. ws ++ text x) w bytes x (λ mid. literal_at ws mid >>= λ y. f y.1) fits (λ mid. literal_exact Behind Fits text ws mid x f fits exact))

-- ---- a part that is picked from the value, and what is left of it

-- what the value x gives to read: the part `pick x`, and then the text `left x`
pub record Picks {A X : Type 0} (BehindPart : List ℕ → Type 0) (FitsPart : A → Type 0) (part : A → List ℕ) (Behind : List ℕ → Type 0) (Fits : X → Type 0) (text left : X → List ℕ) (pick : X → A) : Type 0 where
  pub part_fits : (x : X) → Fits x → FitsPart (pick x)
  pub split : (x : X) → Fits x → text x ≡ part (pick x) ++ left x
  pub some : (a : A) → FitsPart a → (x : X) × (Fits x × (pick x ≡ a))
  pub break : (x : X) (behind : List ℕ) → Fits x → Behind behind → BehindPart (left x ++ behind)

regrouped : {A X : Type 0} (BehindPart : List ℕ → Type 0) (FitsPart : A → Type 0) (part : A → List ℕ) (Behind : List ℕ → Type 0) (Fits : X → Type 0) (text left : X → List ℕ) (pick : X → A) → Picks BehindPart FitsPart part Behind Fits text left pick
    → (x : X) (behind : List ℕ) → Fits x → text x ++ behind ≡ part (pick x) ++ (left x ++ behind)
regrouped BehindPart FitsPart part Behind Fits text left pick picks x behind fits =
    ap (λ bs. bs ++ behind) (picks.split x fits) ∙ append_assoc (part (pick x)) (left x) behind

pub stopped_first : {A X : Type 0} (BehindPart : List ℕ → Type 0) (FitsPart : A → Type 0) (part : A → List ℕ) (Behind : List ℕ → Type 0) (Fits : X → Type 0) (text left : X → List ℕ) (pick : X → A) → Picks BehindPart FitsPart part Behind Fits text left pick
    → (bytes over : List ℕ) → Stops BehindPart FitsPart part bytes over → Stops Behind Fits text bytes over
stopped_first BehindPart FitsPart part Behind Fits text left pick picks bytes over stops =
    let x = picks.some stops.begun stops.fits in
    record {
      taken = stops.taken;
      split = stops.split;
      begun = x.0;
      fits = x.1.0;
      rest = stops.rest ++ left x.0;
      begins = picks.split x.0 x.1.0 ∙ ap (λ a. part a ++ left x.0) x.1.1 ∙ ap (λ bs. bs ++ left x.0) stops.begins ∙ append_assoc stops.taken stops.rest (left x.0);
      none = λ y behind more h k e f. stops.none (pick y) (left y ++ behind) more (picks.part_fits y h) (picks.break y behind h k)
          (sym (regrouped BehindPart FitsPart part Behind Fits text left pick picks y behind h) ∙ e) f;
    }

-- y has the same part, and so the same is left
same_left : {A X : Type 0} (BehindPart : List ℕ → Type 0) (FitsPart : A → Type 0) (part : A → List ℕ) (Behind : List ℕ → Type 0) (Fits : X → Type 0) (text left : X → List ℕ) (pick : X → A) → Picks BehindPart FitsPart part Behind Fits text left pick
    → (bytes : List ℕ) (a : A) (mid : List ℕ) → Spells BehindPart FitsPart part bytes a mid → (taken more over : List ℕ) → mid ≡ taken ++ over → first more ≡ first over
    → (y : X) (behind : List ℕ) → Fits y → Behind behind → text y ++ behind ≡ part a ++ (taken ++ more) → (pick y ≡ a) × (left y ++ behind ≡ taken ++ more)
same_left BehindPart FitsPart part Behind Fits text left pick picks bytes a mid spells taken more over m f y behind h k e =
    spells.only (pick y) (left y ++ behind) (taken ++ more) (picks.part_fits y h) (picks.break y behind h k)
    (sym (regrouped BehindPart FitsPart part Behind Fits text left pick picks y behind h) ∙ e) (first_append taken more over f ∙ ap first (sym m))

stopped_later : {A X : Type 0} (BehindPart : List ℕ → Type 0) (FitsPart : A → Type 0) (part : A → List ℕ) (Behind : List ℕ → Type 0) (Fits : X → Type 0) (text left : X → List ℕ) (pick : X → A) → Picks BehindPart FitsPart part Behind Fits text left pick
    → (bytes : List ℕ) (a : A) (mid : List ℕ) → Spells BehindPart FitsPart part bytes a mid → (over : List ℕ) → Stops Behind (λ x. Fits x × (pick x ≡ a)) left mid over → Stops Behind Fits text bytes over
stopped_later BehindPart FitsPart part Behind Fits text left pick picks bytes a mid spells over stops = record {
  taken = part a ++ stops.taken;
  split = spells.split ∙ ap (λ bs. part a ++ bs) stops.split ∙ sym (append_assoc (part a) stops.taken over);
  begun = stops.begun;
  fits = stops.fits.0;
  rest = stops.rest;
  begins = picks.split stops.begun stops.fits.0 ∙ ap (λ p. part p ++ left stops.begun) stops.fits.1 ∙ ap (λ bs. part a ++ bs) stops.begins ∙ sym (append_assoc (part a) stops.taken stops.rest);
  none = λ y behind more h k e f.
      let same = same_left BehindPart FitsPart part Behind Fits text left pick picks bytes a mid spells stops.taken more over stops.split f y behind h k (e ∙ append_assoc (part a) stops.taken more) in
      stops.none y behind more (h, same.0) k same.1 f;
}

spelled_later : {A X : Type 0} (BehindPart : List ℕ → Type 0) (FitsPart : A → Type 0) (part : A → List ℕ) (Behind : List ℕ → Type 0) (Fits : X → Type 0) (text left : X → List ℕ) (pick : X → A) → Picks BehindPart FitsPart part Behind Fits text left pick
    → (bytes : List ℕ) (a : A) (mid : List ℕ) → Spells BehindPart FitsPart part bytes a mid → (x : X) (over : List ℕ) → Spells Behind (λ x. Fits x × (pick x ≡ a)) left mid x over → Spells Behind Fits text bytes x over
spelled_later BehindPart FitsPart part Behind Fits text left pick picks bytes a mid spells x over rest =
    let whole : text x ≡ part a ++ left x = picks.split x rest.fits.0 ∙ ap (λ p. part p ++ left x) rest.fits.1 in
    record {
      fits = rest.fits.0;
      split = spells.split ∙ ap (λ bs. part a ++ bs) rest.split ∙ sym (append_assoc (part a) (left x) over) ∙ ap (λ bs. bs ++ over) (sym whole);
      only = λ y behind more h k e f.
          let same = same_left BehindPart FitsPart part Behind Fits text left pick picks bytes a mid spells (left x) more over rest.split f y behind h k
          (e ∙ ap (λ bs. bs ++ more) whole ∙ append_assoc (part a) (left x) more) in
          rest.only y behind more (h, same.0) k same.1 f;
    }

-- so does what is read behind a part
pub later : {A X : Type 0} (BehindPart : List ℕ → Type 0) (FitsPart : A → Type 0) (part : A → List ℕ) (Behind : List ℕ → Type 0) (Fits : X → Type 0) (text left : X → List ℕ) (pick : X → A) → Picks BehindPart FitsPart part Behind Fits text left pick
    → (bytes : List ℕ) (a : A) (mid : List ℕ) → Spells BehindPart FitsPart part bytes a mid → (r : Reading X) → IsExact Behind (λ x. Fits x × (pick x ≡ a)) left mid r → IsExact Behind Fits text bytes r
later BehindPart FitsPart part Behind Fits text left pick picks bytes a mid spells (Ok x) exact = spelled_later BehindPart FitsPart part Behind Fits text left pick picks bytes a mid spells x.0 x.1 exact
later BehindPart FitsPart part Behind Fits text left pick picks bytes a mid spells (Err over) exact = stopped_later BehindPart FitsPart part Behind Fits text left pick picks bytes a mid spells over exact

pub then_exact : {A X : Type 0} (BehindPart : List ℕ → Type 0) (FitsPart : A → Type 0) (part : A → List ℕ) (Behind : List ℕ → Type 0) (Fits : X → Type 0) (text left : X → List ℕ) (pick : X → A) → Picks BehindPart FitsPart part Behind Fits text left pick
    → (bytes : List ℕ) (r : Reading A) (f : A × List ℕ → Reading X) → IsExact BehindPart FitsPart part bytes r
    → ((a : A) (mid : List ℕ) → FitsPart a → IsExact Behind (λ x. Fits x × (pick x ≡ a)) left mid (f (a, mid))) → IsExact Behind Fits text bytes (r >>= f)
then_exact BehindPart FitsPart part Behind Fits text left pick picks bytes (Ok a) f exact rest = later BehindPart FitsPart part Behind Fits text left pick picks bytes a.0 a.1 exact (f a) (rest a.0 a.1 exact.fits)
then_exact BehindPart FitsPart part Behind Fits text left pick picks bytes (Err over) f exact rest = stopped_first BehindPart FitsPart part Behind Fits text left pick picks bytes over exact

-- ---- values one behind the other

abbrev pub AreEach : {X : Type 0} → (X → Type 0) → ℕ → List X → Type 0
AreEach Fits n xs = (length xs ≡ n) × AllByRecursion Fits xs

abbrev pub head_or : {X : Type 0} → X → List X → X
head_or x [] = x
head_or x (y ∷ ys) = y

abbrev pub tail : {X : Type 0} → List X → List X
tail [] = []
tail (y ∷ ys) = ys

pub break_each : {X : Type 0} (Behind : List ℕ → Type 0) (text : X → List ℕ) (xs : List X) (behind : List ℕ) → ((x : X) (bs : List ℕ) → Behind (text x ++ bs)) → Behind behind → Behind (flat_map text xs ++ behind)
break_each Behind text [] behind starts h = h
break_each Behind text (x ∷ xs) behind starts h =
    subst Behind (sym (ap (λ bs. bs ++ behind) (flat_map-cons text x xs) ∙ append_assoc (text x) (flat_map text xs) behind)) (starts x (flat_map text xs ++ behind))

picks_head : {X : Type 0} (Behind : List ℕ → Type 0) (Fits : X → Type 0) (text : X → List ℕ) (some : X) (n : ℕ) → ((x : X) (bs : List ℕ) → Behind (text x ++ bs)) → ((m : ℕ) → (xs : List X) × AreEach Fits m xs)
    → Picks Behind Fits text Behind (AreEach Fits (suc n)) (flat_map text) (λ xs. flat_map text (tail xs)) (head_or some)
picks_head Behind Fits text some n starts filled = record {
  part_fits = λ xs. elim xs as (λ ys. AreEach Fits (suc n) ys → Fits (head_or some ys)) [ [] ↦ λ h. absurd (omega (arith, h.0)) | y ∷ ys ↦ λ h. h.1.0 ];
  split = λ xs. elim xs as (λ ys. AreEach Fits (suc n) ys → flat_map text ys ≡ text (head_or some ys) ++ flat_map text (tail ys)) [ [] ↦ λ h. absurd (omega (arith, h.0)) | y ∷ ys ↦ λ h. flat_map-cons text y ys ];
  some = λ a h. (a ∷ (filled n).0, ((ap suc (filled n).1.0, (h, (filled n).1.1)), refl));
  break = λ xs behind h k. break_each Behind text (tail xs) behind starts k;
}

picks_tail : {X : Type 0} (Behind : List ℕ → Type 0) (Fits : X → Type 0) (text : X → List ℕ) (some a : X) (n : ℕ) → Fits a
    → Picks Behind (AreEach Fits n) (flat_map text) Behind (λ xs. AreEach Fits (suc n) xs × (head_or some xs ≡ a)) (λ xs. flat_map text (tail xs)) (λ _. []) tail
picks_tail Behind Fits text some a n fits = record {
  part_fits = λ xs h. elim xs as (λ ys. AreEach Fits (suc n) ys → AreEach Fits n (tail ys)) [ [] ↦ λ k. absurd (omega (arith, k.0)) | y ∷ ys ↦ λ k. (omega (arith, k.0), k.1.1) ] h.0;
  split = λ xs h. sym (append-nil (flat_map text (tail xs)));
  some = λ xs h. (a ∷ xs, (((ap suc h.0, (fits, h.1)), refl), refl));
  break = λ xs behind h k. k;
}

pub same_cons : {X : Type 0} (some a : X) (n : ℕ) (others ys : List X) → length ys ≡ suc n → head_or some ys ≡ a → tail ys ≡ others → ys ≡ a ∷ others
same_cons some a n others [] e h t = absurd (omega (arith, e))
same_cons some a n others (y ∷ ys) e h t = cc

pub each_exact : {X : Type 0} (Behind : List ℕ → Type 0) (Fits : X → Type 0) (text : X → List ℕ) (some : X) (one : List ℕ → Reading X) (n : ℕ) (bytes : List ℕ)
    → ((x : X) (bs : List ℕ) → Behind (text x ++ bs)) → ((m : ℕ) → (xs : List X) × AreEach Fits m xs) → ((mid : List ℕ) → IsExact Behind Fits text mid (one mid))
    → IsExact Behind (AreEach Fits n) (flat_map text) bytes (each_at one n bytes)
unfolding each_at
each_exact Behind Fits text some one zero bytes starts filled exact = record {
  fits = (refl, tt);
  split = refl;
  only = λ ys behind more. elim ys as (λ zs. AreEach Fits 0 zs → Behind behind → flat_map text zs ++ behind ≡ more → first more ≡ first bytes → (zs ≡ []) × (behind ≡ more)) [
    | [] ↦ λ h k e f. (refl, e)
    | z ∷ zs ↦ λ h k e f. absurd (omega (arith, h.0))
  ];
}
each_exact Behind Fits text some one (suc n) bytes starts filled exact =
    then_exact Behind Fits text Behind (AreEach Fits (suc n)) (flat_map text) (λ xs. flat_map text (tail xs)) (head_or some) (picks_head Behind Fits text some n starts filled) bytes (one bytes)
    (λ x. each_at one n x.1 >>= λ xs. Ok (x.0 ∷ xs.0, xs.1)) (exact bytes)
    (λ a mid fits.
    then_exact Behind (AreEach Fits n) (flat_map text) Behind (λ xs. AreEach Fits (suc n) xs × (head_or some xs ≡ a)) (λ xs. flat_map text (tail xs)) (λ _. []) tail (picks_tail Behind Fits text some a n fits) mid (each_at one n mid)
    (λ xs. Ok (a ∷ xs.0, xs.1)) (each_exact Behind Fits text some one n mid starts filled exact)
    (λ others over h. done_exact Behind (λ xs. (AreEach Fits (suc n) xs × (head_or some xs ≡ a)) × (tail xs ≡ others)) (a ∷ others) over
    (((ap suc h.0, (fits, h.1)), refl), refl)
    (λ ys g. same_cons some a n others ys g.0.0.0 g.0.1 g.1)))

-- ---- the same values by another word

pub exact_for : {X : Type 0} (Behind : List ℕ → Type 0) (Fits Same : X → Type 0) (text : X → List ℕ) (bytes : List ℕ) (r : Reading X) → ((x : X) → Fits x → Same x) → ((x : X) → Same x → Fits x)
    → IsExact Behind Fits text bytes r → IsExact Behind Same text bytes r
exact_for Behind Fits Same text bytes (Ok x) there back exact = record {
  fits = there x.0 exact.fits;
  split = exact.split;
  only = λ y behind more h. exact.only y behind more (back y h);
}
exact_for Behind Fits Same text bytes (Err left) there back exact = record {
  taken = exact.taken;
  split = exact.split;
  begun = exact.begun;
  fits = there exact.begun exact.fits;
  rest = exact.rest;
  begins = exact.begins;
  none = λ y behind more h. exact.none y behind more (back y h);
}

-- the same texts of the values that fit
pub exact_as : {X : Type 0} (Behind : List ℕ → Type 0) (Fits : X → Type 0) (text other : X → List ℕ) (bytes : List ℕ) (r : Reading X) → ((x : X) → Fits x → other x ≡ text x)
    → IsExact Behind Fits text bytes r → IsExact Behind Fits other bytes r
exact_as Behind Fits text other bytes (Ok x) same exact = record {
  fits = exact.fits;
  split = exact.split ∙ ap (λ bs. bs ++ x.1) (sym (same x.0 exact.fits));
  only = λ y behind more h k e. exact.only y behind more h k (ap (λ bs. bs ++ behind) (sym (same y h)) ∙ e ∙ ap (λ bs. bs ++ more) (same x.0 exact.fits));
}
exact_as Behind Fits text other bytes (Err left) same exact = record {
  taken = exact.taken;
  split = exact.split;
  begun = exact.begun;
  fits = exact.fits;
  rest = exact.rest;
  begins = same exact.begun exact.fits ∙ exact.begins;
  none = λ y behind more h k e. exact.none y behind more h k (ap (λ bs. bs ++ behind) (sym (same y h)) ∙ e);
}
