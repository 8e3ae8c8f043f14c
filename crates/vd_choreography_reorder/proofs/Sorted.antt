-- Where ranks are apart a stable sort by rank lets each line go some distance behind others that it may let pass: so what is known of all
-- distances holds of the order of the pass.
use Rattle.std.proofs.Common.{◌≡◌, ◌≢◌, ℕ, suc, ◌<◌, nat_eq, nat_lt, Bool, true, false, ◌&&◌, if◌then◌else◌, List, [], ◌∷◌, length, Result, Ok, Err, refl, sym, ap, ◌∙◌, subst, arith}
use Rattle.std.specs.Prelude.{IfOk}
use Rattle.std.proofs.lemmas.Bool.{eq-eqb, eqb-true}
use Rattle.vd_execution.specs.declared.instructions.Line.{Line}
use Rattle.vd_execution.specs.Joint.{Joint, IsTidy}
use Rattle.vd_execution.specs.Text.{flat}
use Rattle.vd_reorder.specs.Turning.{Turn}
use Rattle.vd_choreography_reorder.specs.declared.ranks.Ranked.{Ranked}
use Rattle.vd_choreography_reorder.specs.Testing.{Opened, may_pass}
use Rattle.vd_choreography_reorder.specs.Order.{IsBroughtForward}
use Rattle.vd_choreography_reorder.specs.Passing.{passes, sunk_line, arranged_lines, AreArranged}
use Rattle.vd_choreography_reorder.specs.Ranks.{Table, nothing_left, behind_line, ranked, lines_of}
use Rattle.vd_choreography_reorder.specs.Sorting.{placed, in_order, early_order, LowerOnesPass, AreApart}
use Rattle.vd_choreography_reorder.proofs.Sound.{both}
use Rattle.vd_choreography_reorder.proofs.Brought.{brought_forward}
use Rattle.vd_choreography_reorder.proofs.Ranking.{apart_ranks}

module _ (opened : Opened) where
  abbrev test : Turn → Turn → Bool
  test = may_pass opened

  -- ---- insertion as far as neighbours may pass

  abbrev goes_behind : Ranked → Ranked → Bool
  goes_behind x y = nat_lt y.rank x.rank && passes test x.line y.line

  abbrev inserted : Ranked → List Ranked → List Ranked
  inserted x [] = x ∷ []
  inserted x (y ∷ ys) = if goes_behind x y then y ∷ inserted x ys else x ∷ y ∷ ys

  abbrev sorted : List Ranked → List Ranked
  sorted [] = []
  sorted (x ∷ xs) = inserted x (sorted xs)

  -- ---- where ranks are apart no neighbour is met that may not pass

  tested : (b c : Bool) → (b ≡ true → c ≡ true) → (b && c) ≡ b
  tested true c f = f refl
  tested false c f = refl

  inserts : (x : Ranked) (ys : List Ranked) → LowerOnesPass opened x ys → inserted x ys ≡ placed x ys
  inserts x [] all = refl
  inserts x (y ∷ ys) all =
      ap (λ (b : Bool). if b then y ∷ inserted x ys else x ∷ y ∷ ys) (tested (nat_lt y.rank x.rank) (passes test x.line y.line) all.0)
      ∙ ap (λ (zs : List Ranked). if nat_lt y.rank x.rank then y ∷ zs else x ∷ y ∷ ys) (inserts x ys all.1)

  by_rank : (x y z : Ranked) (ys : List Ranked) (b : Bool) → (nat_lt z.rank x.rank ≡ true → passes test x.line z.line ≡ true) → LowerOnesPass opened x (y ∷ ys)
      → LowerOnesPass opened x (placed z ys) → LowerOnesPass opened x (if b then y ∷ placed z ys else z ∷ y ∷ ys)
  by_rank x y z ys true p all more = (all.0, more)
  by_rank x y z ys false p all more = (p, all)

  one_more : (x z : Ranked) (ys : List Ranked) → (nat_lt z.rank x.rank ≡ true → passes test x.line z.line ≡ true) → LowerOnesPass opened x ys → LowerOnesPass opened x (placed z ys)
  one_more x z [] p all = (p, all)
  one_more x z (y ∷ ys) p all = by_rank x y z ys (nat_lt y.rank z.rank) p all (one_more x z ys p all.1)

  in_order_kept : (x : Ranked) (ys : List Ranked) → LowerOnesPass opened x ys → LowerOnesPass opened x (in_order ys)
  in_order_kept x [] all = all
  in_order_kept x (y ∷ ys) all = one_more x y (in_order ys) all.0 (in_order_kept x ys all.1)

  sorts : (xs : List Ranked) → AreApart opened xs → sorted xs ≡ in_order xs
  sorts [] apart = refl
  sorts (x ∷ xs) apart = ap (inserted x) (sorts xs apart.1) ∙ inserts x (in_order xs) (in_order_kept x xs apart.0)

  -- ---- one line

  record Goes (x : Ranked) (ys : List Ranked) (new : List Ranked) : Type 0 where
    pub far : ℕ
    pub is : lines_of new ≡ sunk_line test far x.line (lines_of ys)

  no_further : (x : Ranked) (ys : List Ranked) → lines_of (x ∷ ys) ≡ sunk_line test 0 x.line (lines_of ys)
  no_further x [] = refl
  no_further x (y ∷ ys) = refl

  one_further : (x y : Ranked) (ys : List Ranked) (new : List Ranked) → passes test x.line y.line ≡ true → (g : Goes x ys new)
      → lines_of (y ∷ new) ≡ sunk_line test (suc g.far) x.line (lines_of (y ∷ ys))
  one_further x y ys new able g =
      ap (λ ls. y.line ∷ ls) g.is ∙ ap (λ b. if b then y.line ∷ sunk_line test g.far x.line (lines_of ys) else x.line ∷ y.line ∷ lines_of ys) (sym able)

  goes_by : (x y : Ranked) (ys : List Ranked) (new : List Ranked) (b : Bool) → goes_behind x y ≡ b → Goes x ys new → Goes x (y ∷ ys) (if b then y ∷ new else x ∷ y ∷ ys)
  goes_by x y ys new true e g = record { far = suc g.far; is = one_further x y ys new (both (nat_lt y.rank x.rank) (passes test x.line y.line) e).1 g }
  goes_by x y ys new false e g = record { far = 0; is = no_further x (y ∷ ys) }

  goes : (x : Ranked) (ys : List Ranked) → Goes x ys (inserted x ys)
  goes x [] = record { far = 0; is = no_further x [] }
  goes x (y ∷ ys) = goes_by x y ys (inserted x ys) (goes_behind x y) refl (goes x ys)

  -- ---- all lines

  -- How far each goes, by how many lines stand behind it.
  abbrev far_in : List Ranked → List Line → ℕ
  far_in [] behind = 0
  far_in (x ∷ xs) behind = if nat_eq (length behind) (length xs) then (goes x (sorted xs)).far else far_in xs behind

  same_length : (xs : List Ranked) → length (lines_of xs) ≡ length xs
  same_length [] = refl
  same_length (x ∷ xs) = ap suc (same_length xs)

  by_equal : {X : Type 0} (b : Bool) (x y : X) → b ≡ true → (if b then x else y) ≡ x
  by_equal true x y e = refl
  by_equal false x y e = absurd cc

  by_other : {X : Type 0} (b : Bool) (x y : X) → b ≡ false → (if b then x else y) ≡ y
  by_other true x y e = absurd cc
  by_other false x y e = refl

  unequal : (m n : ℕ) (b : Bool) → nat_eq m n ≡ b → m ≢ n → b ≡ false
  unequal m n true e other = absurd (other (eqb-true m n e))
  unequal m n false e other = refl

  far_here : (x : Ranked) (xs : List Ranked) → far_in (x ∷ xs) (lines_of xs) ≡ (goes x (sorted xs)).far
  far_here x xs =
      by_equal (nat_eq (length (lines_of xs)) (length xs)) (goes x (sorted xs)).far (far_in xs (lines_of xs)) (eq-eqb (length (lines_of xs)) (length xs) (same_length xs))

  far_behind : (x : Ranked) (xs : List Ranked) (behind : List Line) → length behind < length xs → far_in (x ∷ xs) behind ≡ far_in xs behind
  far_behind x xs behind lt =
      by_other (nat_eq (length behind) (length xs)) (goes x (sorted xs)).far (far_in xs behind)
      (unequal (length behind) (length xs) (nat_eq (length behind) (length xs)) refl (λ same. omega (arith, lt, same)))

  -- only the lines behind each count
  alike : (f g : List Line → ℕ) (ls : List Line) → ((behind : List Line) → length behind < length ls → f behind ≡ g behind) → arranged_lines test f ls ≡ arranged_lines test g ls
  alike f g [] same = refl
  alike f g (l ∷ ls) same =
      let lt : length ls < suc (length ls) = omega arith in
      ap (λ n. sunk_line test n l (arranged_lines test f ls)) (same ls lt)
      ∙ ap (sunk_line test (g ls) l) (alike f g ls (λ behind less. same behind (omega (arith, less))))

  sorted_is_arranged : (xs : List Ranked) → lines_of (sorted xs) ≡ arranged_lines test (far_in xs) (lines_of xs)
  sorted_is_arranged [] = refl
  sorted_is_arranged (x ∷ xs) =
      let g = goes x (sorted xs) in
      g.is
      ∙ ap (sunk_line test g.far x.line) (sorted_is_arranged xs
      ∙ alike (far_in xs) (far_in (x ∷ xs)) (lines_of xs) (λ behind less. sym (far_behind x xs behind (subst (λ n. length behind < n) (same_length xs) less))))
      ∙ ap (λ n. sunk_line test n x.line (arranged_lines test (far_in (x ∷ xs)) (lines_of xs))) (sym (far_here x xs))

  ranked_lines : (d : Table) (ls : List Line) → lines_of (ranked opened d ls) ≡ ls
  ranked_lines d [] = refl
  ranked_lines d (l ∷ ls) = ap (λ ks. l ∷ ks) (ranked_lines (behind_line opened d l) ls)

  order_is_arranged : (ls : List Line) → AreApart opened (ranked opened nothing_left ls) → AreArranged opened ls (early_order opened ls)
  order_is_arranged ls apart =
      let xs = ranked opened nothing_left ls in
      record {
        far = far_in xs;
        lines = sym (ap lines_of (sorts xs apart)) ∙ sorted_is_arranged xs ∙ ap (arranged_lines test (far_in xs)) (ranked_lines nothing_left ls);
      }

  pub order_brings_forward : (j : Joint) → IsTidy j → IsBroughtForward opened j (early_order opened (flat j []))
  order_brings_forward j tidy = brought_forward opened j (early_order opened (flat j [])) tidy (order_is_arranged (flat j []) (apart_ranks opened j tidy))

  pub each_joint : {E : Type 0} (lines : List Line) (result : Result (List Line) E) → IfOk result (λ new. new ≡ early_order opened lines)
      → IfOk result (λ new. (j : Joint) → IsTidy j → lines ≡ flat j [] → IsBroughtForward opened j new)
  each_joint lines (Ok new) is = λ j tidy lines_are. subst (IsBroughtForward opened j) (sym (is ∙ ap (early_order opened) lines_are)) (order_brings_forward j tidy)
  each_joint lines (Err fault) is = tt
