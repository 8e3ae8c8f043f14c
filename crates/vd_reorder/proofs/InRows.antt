-- Registers in rows, and lists of registers that meet.
use Rattle.std.proofs.Common.{◌≡◌, inl, inr, ℕ, zero, suc, ◌+◌, ◌<◌, ◌≤◌, nat_eq, nat_lt, nat_le, Bool, true, false, ◌&&◌, ◌||◌, if◌then◌else◌, List, [], ◌∷◌, ◌++◌, refl, sym, ap, ap₂, ◌∙◌, arith}
use Rattle.std.proofs.lemmas.Bool.{cases_lt, eq-eqb, ne_eqb, eqb-true, eqb-false, ltb-true, leb-true, lt-ltb, le-ltb, le-leb, lt-leb}
use Rattle.std.specs.List.{list_any}
use Rattle.vd_execution.specs.declared.instructions.Reg.{Reg}
use Rattle.vd_execution.specs.Text.{register}
use Rattle.vd_reorder.specs.ReorderLawsTesting.{row, has, meet}

is_or : (a b : Bool) → (if a then true else b) ≡ (a || b)
is_or true b = refl
is_or false b = refl

or_assoc : (a b c : Bool) → ((a || b) || c) ≡ (a || (b || c))
or_assoc true b c = refl
or_assoc false b c = refl

or_swap : (a b c : Bool) → (a || (b || c)) ≡ (b || (a || c))
or_swap true true c = refl
or_swap true false c = refl
or_swap false true c = refl
or_swap false false c = refl

-- ---- lists that meet

one_more : (b all some others : Bool) → all ≡ (some || others) → (if b then true else all) ≡ ((if b then true else some) || others)
one_more true all some others e = refl
one_more false all some others e = e

pub has_append : (r : Reg) (xs ys : List Reg) → has r (xs ++ ys) ≡ (has r xs || has r ys)
has_append r [] ys = refl
has_append r (x ∷ xs) ys = one_more (nat_eq r.0 x.0) (has r (xs ++ ys)) (has r xs) (has r ys) (has_append r xs ys)

pub has_any : (r : Reg) (xs : List Reg) → has r xs ≡ list_any (λ (x : Reg). nat_eq r.0 x.0) xs
has_any r [] = refl
has_any r (x ∷ xs) = is_or (nat_eq r.0 x.0) (has r xs) ∙ ap (λ b. nat_eq r.0 x.0 || b) (has_any r xs)

pub meet_any : (xs ys : List Reg) → meet xs ys ≡ list_any (λ x. has x ys) xs
meet_any [] ys = refl
meet_any (x ∷ xs) ys = is_or (has x ys) (meet xs ys) ∙ ap (λ b. has x ys || b) (meet_any xs ys)

meet_none : (xs : List Reg) → meet xs [] ≡ false
meet_none [] = refl
meet_none (x ∷ xs) = meet_none xs

turned : (n m : ℕ) (b : Bool) → nat_eq n m ≡ b → b ≡ nat_eq m n
turned n m true e = sym (eq-eqb m n (sym (eqb-true n m e)))
turned n m false e = sym (ne_eqb m n (λ f. eqb-false n m e (sym f)))

pub eq_turned : (n m : ℕ) → nat_eq n m ≡ nat_eq m n
eq_turned n m = turned n m (nat_eq n m) refl

meet_more : (xs : List Reg) (y : Reg) (ys : List Reg) → meet xs (y ∷ ys) ≡ (has y xs || meet xs ys)
meet_more [] y ys = refl
meet_more (x ∷ xs) y ys =
    is_or (has x (y ∷ ys)) (meet xs (y ∷ ys))
    ∙ ap (λ b. b || meet xs (y ∷ ys)) (is_or (nat_eq x.0 y.0) (has x ys))
    ∙ ap (λ b. (nat_eq x.0 y.0 || has x ys) || b) (meet_more xs y ys)
    ∙ or_assoc (nat_eq x.0 y.0) (has x ys) (has y xs || meet xs ys)
    ∙ ap (λ b. nat_eq x.0 y.0 || b) (or_swap (has x ys) (has y xs) (meet xs ys))
    ∙ sym (or_assoc (nat_eq x.0 y.0) (has y xs) (has x ys || meet xs ys))
    ∙ ap (λ b. (b || has y xs) || (has x ys || meet xs ys)) (eq_turned x.0 y.0)
    ∙ ap (λ b. b || (has x ys || meet xs ys)) (sym (is_or (nat_eq y.0 x.0) (has y xs)))
    ∙ ap (λ b. has y (x ∷ xs) || b) (sym (is_or (has x ys) (meet xs ys)))

pub meet_turned : (xs ys : List Reg) → meet xs ys ≡ meet ys xs
meet_turned xs [] = meet_none xs
meet_turned xs (y ∷ ys) = meet_more xs y ys ∙ ap (λ b. has y xs || b) (meet_turned xs ys) ∙ sym (is_or (has y xs) (meet ys xs))

meet_append : (xs ys zs : List Reg) → meet (xs ++ ys) zs ≡ (meet xs zs || meet ys zs)
meet_append [] ys zs = refl
meet_append (x ∷ xs) ys zs = one_more (has x zs) (meet (xs ++ ys) zs) (meet xs zs) (meet ys zs) (meet_append xs ys zs)

meet_append_right : (xs ys zs : List Reg) → meet xs (ys ++ zs) ≡ (meet xs ys || meet xs zs)
meet_append_right xs ys zs =
    meet_turned xs (ys ++ zs) ∙ meet_append ys zs xs ∙ ap (λ b. b || meet zs xs) (meet_turned ys xs) ∙ ap (λ b. meet xs ys || b) (meet_turned zs xs)

-- ---- rows

and_false : (b : Bool) → (b && false) ≡ false
and_false true = refl
and_false false = refl

both : (a b : Bool) → (a && b) ≡ true → (a ≡ true) × (b ≡ true)
both true b e = (refl, e)
both false b e = absurd cc

same_bool : (a b : Bool) → (a ≡ true → b ≡ true) → (b ≡ true → a ≡ true) → a ≡ b
same_bool true b f g = sym (f refl)
same_bool false true f g = g refl
same_bool false false f g = refl

-- a number from one on and below another one
within : (f r e : ℕ) → f ≤ r → r < e → (nat_le f r && nat_lt r e) ≡ true
within f r e low high = ap₂ (λ (a b : Bool). a && b) (le-leb f r low) (lt-ltb r e high)

below : (f r e : ℕ) → r < f → (nat_le f r && nat_lt r e) ≡ false
below f r e lt = ap (λ b. b && nat_lt r e) (lt-leb f r lt)

beyond : (f r e : ℕ) → e ≤ r → (nat_le f r && nat_lt r e) ≡ false
beyond f r e le = ap (λ b. nat_le f r && b) (le-ltb r e le) ∙ and_false (nat_le f r)

-- the first of them is left out
without_first : (f r e d : ℕ) → (r ≡ f → ⊥) → e ≡ d → (nat_le (f + 1) r && nat_lt r e) ≡ (nat_le f r && nat_lt r d)
without_first f r e d other same = elim (cases_lt r f) [
  | inl lt ↦ below (f + 1) r e (omega (arith, lt)) ∙ sym (below f r d lt)
  | inr le ↦ elim (cases_lt f r) [
    | inl more ↦
        ap (λ b. b && nat_lt r e) (le-leb (f + 1) r (omega (arith, more)))
        ∙ ap (λ k. true && nat_lt r k) same
        ∙ sym (ap (λ b. b && nat_lt r d) (le-leb f r le))
    | inr less ↦ let equal : r ≡ f = omega (arith, le, less) in absurd (other equal)
  ]
]

has_more : (r : Reg) (first count : ℕ) (b : Bool) → nat_eq r.0 first ≡ b → has r (row (first + 1) count) ≡ (nat_le (first + 1) r.0 && nat_lt r.0 (first + 1 + count))
    → (if b then true else has r (row (first + 1) count)) ≡ (nat_le first r.0 && nat_lt r.0 (first + suc count))
has_more r first count true e ih = let same = eqb-true r.0 first e in sym (within first r.0 (first + suc count) (omega (arith, same)) (omega (arith, same)))
has_more r first count false e ih = ih ∙ without_first first r.0 (first + 1 + count) (first + suc count) (eqb-false r.0 first e) (omega arith)

pub has_row : (r : Reg) (first count : ℕ) → has r (row first count) ≡ (nat_le first r.0 && nat_lt r.0 (first + count))
has_row r first zero = elim (cases_lt r.0 first) [
  | inl lt ↦ sym (below first r.0 (first + 0) lt)
  | inr le ↦ sym (beyond first r.0 (first + 0) (omega (arith, le)))
]
has_row r first (suc count) = has_more r first count (nat_eq r.0 first) refl (has_row r (first + 1) count)

-- two rows that have a register in common
record Overlap (first count other more : ℕ) : Type 0 where
  some : 0 < count
  more_some : 0 < more
  low : first < other + more
  high : other < first + count

meets_by : (first count other more : ℕ) (b : Bool) → has (register first) (row other more) ≡ b → (meet (row (first + 1) count) (row other more) ≡ true → Overlap (first + 1) count other more)
    → (if b then true else meet (row (first + 1) count) (row other more)) ≡ true → Overlap first (suc count) other more
meets_by first count other more true h ih e =
    let w = both (nat_le other first) (nat_lt first (other + more)) (sym (has_row (register first) other more) ∙ h) in
    let low = leb-true other first w.0 in
    let high = ltb-true first (other + more) w.1 in
    record { some = omega arith; more_some = omega (arith, low, high); low = high; high = omega (arith, low) }
meets_by first count other more false h ih e =
    let o = ih e in
    let some = o.some in
    let more_some = o.more_some in
    let low = o.low in
    let high = o.high in
    record { some = omega arith; more_some = more_some; low = omega (arith, low); high = omega (arith, high) }

meets : (first count other more : ℕ) → meet (row first count) (row other more) ≡ true → Overlap first count other more
meets first zero other more e = absurd cc
meets first (suc count) other more e = meets_by first count other more (has (register first) (row other more)) refl (meets (first + 1) count other more) e

overlap_by : (first count other more : ℕ) (b : Bool) → has (register first) (row other more) ≡ b → (Overlap (first + 1) count other more → meet (row (first + 1) count) (row other more) ≡ true)
    → Overlap first (suc count) other more → (if b then true else meet (row (first + 1) count) (row other more)) ≡ true
overlap_by first count other more true h ih o = refl
overlap_by first count other more false h ih o =
    let more_some = o.more_some in
    let low = o.low in
    let high = o.high in
    elim (cases_lt first other) [
      | inl lt ↦ ih (record { some = omega (arith, lt, high); more_some = more_some; low = omega (arith, lt, more_some); high = omega (arith, high) })
      | inr le ↦ let wrong : false ≡ true = sym h ∙ has_row (register first) other more ∙ within other first (other + more) le low in absurd (cc wrong)
    ]

overlap_meets : (first count other more : ℕ) → Overlap first count other more → meet (row first count) (row other more) ≡ true
overlap_meets first zero other more o = let some = o.some in absurd (omega (arith, some))
overlap_meets first (suc count) other more o = overlap_by first count other more (has (register first) (row other more)) refl (overlap_meets (first + 1) count other more) o

all_four : (first count other more : ℕ) → Overlap first count other more → ((nat_lt 0 count && nat_lt 0 more) && (nat_lt first (other + more) && nat_lt other (first + count))) ≡ true
all_four first count other more o =
    ap₂ (λ (a b : Bool). a && b) (ap₂ (λ (a b : Bool). a && b) (lt-ltb 0 count o.some) (lt-ltb 0 more o.more_some))
    (ap₂ (λ (a b : Bool). a && b) (lt-ltb first (other + more) o.low) (lt-ltb other (first + count) o.high))

four_overlap : (first count other more : ℕ) → ((nat_lt 0 count && nat_lt 0 more) && (nat_lt first (other + more) && nat_lt other (first + count))) ≡ true → Overlap first count other more
four_overlap first count other more e =
    let w = both (nat_lt 0 count && nat_lt 0 more) (nat_lt first (other + more) && nat_lt other (first + count)) e in
    let u = both (nat_lt 0 count) (nat_lt 0 more) w.0 in
    let v = both (nat_lt first (other + more)) (nat_lt other (first + count)) w.1 in
    record { some = ltb-true 0 count u.0; more_some = ltb-true 0 more u.1; low = ltb-true first (other + more) v.0; high = ltb-true other (first + count) v.1 }

pub meet_rows : (first count other more : ℕ) → meet (row first count) (row other more) ≡ ((nat_lt 0 count && nat_lt 0 more) && (nat_lt first (other + more) && nat_lt other (first + count)))
meet_rows first count other more =
    same_bool _ _ (λ e. all_four first count other more (meets first count other more e)) (λ e. overlap_meets first count other more (four_overlap first count other more e))

-- ---- three rows

pub has_three : (r : Reg) (xs ys zs : List Reg) → has r (xs ++ (ys ++ zs)) ≡ (has r xs || (has r ys || has r zs))
has_three r xs ys zs = has_append r xs (ys ++ zs) ∙ ap (λ b. has r xs || b) (has_append r ys zs)

pub meet_with_three : (rs xs ys zs : List Reg) → meet rs (xs ++ (ys ++ zs)) ≡ (meet rs xs || (meet rs ys || meet rs zs))
meet_with_three rs xs ys zs = meet_append_right rs xs (ys ++ zs) ∙ ap (λ b. meet rs xs || b) (meet_append_right rs ys zs)

pub three_meet : (rs xs ys zs : List Reg) → meet (xs ++ (ys ++ zs)) rs ≡ (meet xs rs || (meet ys rs || meet zs rs))
three_meet rs xs ys zs = meet_append xs (ys ++ zs) rs ∙ ap (λ b. meet xs rs || b) (meet_append ys zs rs)
