-- The scan for the first token that opens a bracket beyond the limit.
use Rattle.std.proofs.Common.{◌≡◌, ℕ, suc, ◌+◌, ◌-◌, ◌<◌, ◌≤◌, Bool, true, false, ◌&&◌, List, [], ◌∷◌, ◌++◌, inl, inr, length, drop, get_or, Option, Some, None, nat_le, refl, sym, ap, ◌∙◌, subst, true≢false, arith, add-one, append_assoc, length-append, drop-cons, if◌then◌else◌}
use Rattle.std.specs.List.{fold}
use Rattle.std.proofs.lemmas.List.{drop_all}
use Rattle.std.proofs.lemmas.Bool.{cases_Bool, and_parts, and_from, leb-true, leb-false, le-leb}
use Rattle.vd_source_lexer.specs.declared.token.Token.{Token}
use Rattle.vd_source_lexer.specs.declared.token.TokenKind.{TokenKind}
use Rattle.vd_parser.specs.Nesting.{opens, closes, open_behind, NoneTooDeep, IsFirstDeep}

abbrev pub is_too_deep : TokenKind → ℕ → Bool
is_too_deep k n = opens k && nat_le 64 n

-- The number of the first token that opens a bracket beyond the limit, where the list's first has the number i and n are
-- open before it.
unfoldable pub first_deep_from : ℕ → ℕ → List Token → Option ℕ
first_deep_from i n [] = None
first_deep_from i n (t ∷ ts) = if is_too_deep t.kind n then Some i else first_deep_from (i + 1) (open_behind t.kind n) ts

abbrev pub first_deep : List Token → Option ℕ
first_deep ts = first_deep_from 0 0 ts

-- no token before number k opens a bracket beyond the limit
abbrev pub NoneBefore : ℕ → Option ℕ → Type 0
NoneBefore k None = Unit {0}
NoneBefore k (Some d) = k ≤ d

pub deep_step : (i n : ℕ) (t : Token) (ts : List Token) → is_too_deep t.kind n ≡ false → first_deep_from i n (t ∷ ts) ≡ first_deep_from (i + 1) (open_behind t.kind n) ts
unfolding first_deep_from
deep_step i n t ts h = rw h refl

pub deep_here : (i n : ℕ) (t : Token) (ts : List Token) → is_too_deep t.kind n ≡ true → first_deep_from i n (t ∷ ts) ≡ Some i
unfolding first_deep_from
deep_here i n t ts h = rw h refl

pub deep_none : (i n : ℕ) → first_deep_from i n [] ≡ None
unfolding first_deep_from
deep_none i n = refl

-- the same where n are open before the tokens
abbrev pub DeepFrom : ℕ → List Token → Token → Type 0
DeepFrom n before token = (opens token.kind ≡ true) × (64 ≤ fold (λ m t. open_behind t.kind m) n before)

abbrev pub NoneFrom : ℕ → List Token → Type 0
NoneFrom n ts = (before : List Token) (token : Token) (behind : List Token) → ts ≡ before ++ token ∷ behind → DeepFrom n before token → ⊥

none_of_none : (n : ℕ) → NoneFrom n []
none_of_none n [] token behind e d = absurd cc
none_of_none n (b ∷ bs) token behind e d = absurd cc

none_tail : (n : ℕ) (t : Token) (ts : List Token) → NoneFrom n (t ∷ ts) → NoneFrom (open_behind t.kind n) ts
none_tail n t ts none before token behind e d = none (t ∷ before) token behind (ap (λ us. t ∷ us) e) d

none_head : (n : ℕ) (t : Token) (ts : List Token) → NoneFrom n (t ∷ ts) → is_too_deep t.kind n ≡ false
none_head n t ts none = elim (cases_Bool (is_too_deep t.kind n)) [
  | inl h ↦ absurd (let p = and_parts (opens t.kind) (nat_le 64 n) h in none [] t ts refl (p.0, leb-true 64 n p.1))
  | inr h ↦ h
]

none_cons : (n : ℕ) (t : Token) (ts : List Token) → is_too_deep t.kind n ≡ false → NoneFrom (open_behind t.kind n) ts → NoneFrom n (t ∷ ts)
none_cons n t ts h none [] token behind e d =
    let same : token ≡ t = cc in
    let deep : is_too_deep t.kind n ≡ true = and_from (opens t.kind) (nat_le 64 n) (subst (λ u. opens u.kind ≡ true) same d.0) (le-leb 64 n d.1) in
    true≢false (sym deep ∙ h)
none_cons n t ts h none (b ∷ bs) token behind e d =
    let same : b ≡ t = cc in
    let rest : ts ≡ bs ++ token ∷ behind = cc in
    none bs token behind rest (subst (λ u. DeepFrom (open_behind u.kind n) bs token) same d)

-- the first such token, and what stands before and behind it
pub record Deep (ts : List Token) (i n d : ℕ) : Type 0 where
  pub before : List Token
  pub token : Token
  pub behind : List Token
  pub all : ts ≡ before ++ token ∷ behind
  pub number : d ≡ i + length before
  pub deep : DeepFrom n before token
  pub first : NoneFrom n before

pub deep_at : (ts : List Token) (i n d : ℕ) → first_deep_from i n ts ≡ Some d → Deep ts i n d
deep_at [] i n d e = absurd (let h : None ≡ Some d = sym (deep_none i n) ∙ e in cc)
deep_at (t ∷ ts) i n d e = elim (cases_Bool (is_too_deep t.kind n)) [
  | inl h ↦ (let here : Some i ≡ Some d = sym (deep_here i n t ts h) ∙ e in
      let same : i ≡ d = cc in
      let p = and_parts (opens t.kind) (nat_le 64 n) h in
      record { before = []; token = t; behind = ts; all = refl; number = omega (arith, same); deep = (p.0, leb-true 64 n p.1); first = none_of_none n })
  | inr h ↦ (let r = deep_at ts (i + 1) (open_behind t.kind n) d (sym (deep_step i n t ts h) ∙ e) in
      record { before = t ∷ r.before; token = r.token; behind = r.behind; all = ap (λ us. t ∷ us) r.all; number = omega (arith, r.number); deep = r.deep; first = none_cons n t r.before h r.first })
]

none_deep_from : (ts : List Token) (i n : ℕ) → first_deep_from i n ts ≡ None → NoneFrom n ts
none_deep_from [] i n e = none_of_none n
none_deep_from (t ∷ ts) i n e = elim (cases_Bool (is_too_deep t.kind n)) [
  | inl h ↦ absurd (let here : Some i ≡ None = sym (deep_here i n t ts h) ∙ e in cc)
  | inr h ↦ none_cons n t ts h (none_deep_from ts (i + 1) (open_behind t.kind n) (sym (deep_step i n t ts h) ∙ e))
]

found_from : (before : List Token) (i n : ℕ) (token : Token) (behind : List Token) → NoneFrom n before → DeepFrom n before token → first_deep_from i n (before ++ token ∷ behind) ≡ Some (i + length before)
found_from [] i n token behind none d =
    let here : i ≡ i + 0 = omega arith in
    deep_here i n token behind (and_from (opens token.kind) (nat_le 64 n) d.0 (le-leb 64 n d.1)) ∙ ap Some here
found_from (t ∷ bs) i n token behind none d =
    let there : i + 1 + length bs ≡ i + length (t ∷ bs) = omega arith in
    deep_step i n t (bs ++ token ∷ behind) (none_head n t bs none)
    ∙ found_from bs (i + 1) (open_behind t.kind n) token behind (none_tail n t bs none) d
    ∙ ap Some there

none_before_from : (before rest : List Token) (i n : ℕ) → NoneFrom n before → NoneBefore (i + length before) (first_deep_from i n (before ++ rest))
none_before_from [] rest i n none = go (first_deep_from i n rest) refl
  where
    go : (o : Option ℕ) → first_deep_from i n rest ≡ o → NoneBefore (i + 0) o
    go None e = tt
    go (Some d) e = (let r = deep_at rest i n d e in omega (arith, r.number))
none_before_from (t ∷ bs) rest i n none =
    let there : i + 1 + length bs ≡ i + length (t ∷ bs) = omega arith in
    let next : NoneBefore (i + 1 + length bs) (first_deep_from (i + 1) (open_behind t.kind n) (bs ++ rest)) = none_before_from bs rest (i + 1) (open_behind t.kind n) (none_tail n t bs none) in
    subst (λ k. NoneBefore k (first_deep_from i n (t ∷ bs ++ rest))) there
    (subst (NoneBefore (i + 1 + length bs)) (sym (deep_step i n t (bs ++ rest) (none_head n t bs none))) next)

-- a front that has such a token gives the same
found_in_front : (xs ys : List Token) (i n d : ℕ) → first_deep_from i n xs ≡ Some d → first_deep_from i n (xs ++ ys) ≡ Some d
found_in_front xs ys i n d e =
    let r = deep_at xs i n d e in
    ap (λ us. first_deep_from i n (us ++ ys)) r.all
    ∙ ap (first_deep_from i n) (append_assoc r.before (r.token ∷ r.behind) ys)
    ∙ found_from r.before i n r.token (r.behind ++ ys) r.first r.deep
    ∙ ap Some (sym r.number)

-- what the scan finds, in the words of the outcomes
pub none_deep : (ts : List Token) → first_deep ts ≡ None → NoneTooDeep ts
none_deep ts e = none_deep_from ts 0 0 e

pub deep_is : (ts : List Token) (d : ℕ) → first_deep ts ≡ Some d → IsFirstDeep ts d
deep_is ts d e =
    let r = deep_at ts 0 0 d e in
    record { before = r.before; token = r.token; behind = r.behind; all = r.all; is_number = omega (arith, r.number); deep = r.deep; first = r.first }

pub scan_none : (ts : List Token) → NoneTooDeep ts → first_deep ts ≡ None
scan_none ts none = go (first_deep ts) refl
  where
    go : (o : Option ℕ) → first_deep ts ≡ o → o ≡ None
    go None e = refl
    go (Some d) e = absurd (let r = deep_at ts 0 0 d e in none r.before r.token r.behind r.all r.deep)

pub scan_finds : (ts : List Token) (d : ℕ) → IsFirstDeep ts d → first_deep ts ≡ Some d
scan_finds ts d p =
    let number : 0 + length p.before ≡ d = omega (arith, p.is_number) in
    ap first_deep p.all ∙ found_from p.before 0 0 p.token p.behind p.first p.deep ∙ ap Some number

pub none_before : (ts before rest : List Token) → ts ≡ before ++ rest → NoneTooDeep before → NoneBefore (length before) (first_deep ts)
none_before ts before rest all none =
    let number : 0 + length before ≡ length before = omega arith in
    subst (λ us. NoneBefore (length before) (first_deep us)) (sym all) (subst (λ k. NoneBefore k (first_deep (before ++ rest))) number (none_before_from before rest 0 0 none))

pub none_in_front : (ts before rest : List Token) → ts ≡ before ++ rest → NoneBefore (length before) (first_deep ts) → NoneTooDeep before
none_in_front ts before rest all none = go (first_deep before) refl
  where
    go : (o : Option ℕ) → first_deep before ≡ o → NoneTooDeep before
    go None e = none_deep before e
    go (Some d) e = absurd (
        let r = deep_at before 0 0 d e in
        let len : length before ≡ length r.before + length (r.token ∷ r.behind) = ap length r.all ∙ length-append r.before (r.token ∷ r.behind) in
        let same : first_deep ts ≡ Some d = ap first_deep all ∙ found_in_front before rest 0 0 d e in
        let le : length before ≤ d = subst (NoneBefore (length before)) same none in
        omega (arith, len, r.number, le)
        )

-- the scan, step by step
deep_next : (ts : List Token) (i n : ℕ) (d : Token) → i < length ts → is_too_deep (get_or ts i d).kind n ≡ false → first_deep_from i n (drop i ts) ≡ first_deep_from (i + 1) (open_behind (get_or ts i d).kind n) (drop (i + 1) ts)
deep_next ts i n d h e =
    ap (first_deep_from i n) (drop-cons ts i d h) ∙ deep_step i n (get_or ts i d) (drop (suc i) ts) e
    ∙ ap (λ k. first_deep_from (i + 1) (open_behind (get_or ts i d).kind n) (drop k ts)) (sym (add-one i))

pub deep_found : (ts : List Token) (i n : ℕ) (d : Token) → i < length ts → is_too_deep (get_or ts i d).kind n ≡ true → first_deep_from i n (drop i ts) ≡ Some i
deep_found ts i n d h e = ap (first_deep_from i n) (drop-cons ts i d h) ∙ deep_here i n (get_or ts i d) (drop (suc i) ts) e

pub deep_over : (ts : List Token) (i n : ℕ) → length ts ≤ i → first_deep_from i n (drop i ts) ≡ None
deep_over ts i n h = ap (first_deep_from i n) (drop_all i ts h) ∙ deep_none i n

few_open : (k : TokenKind) (n : ℕ) → n ≤ 64 → is_too_deep k n ≡ false → open_behind k n ≤ 64
few_open k n h e = go (opens k) (closes k) e
  where
    go : (b c : Bool) → (b && nat_le 64 n) ≡ false → (if b then n + 1 else if c then n - 1 else n) ≤ 64
    go true c e = (let few : n < 64 = leb-false 64 n e in omega (arith, few))
    go false true e = omega (arith, h)
    go false false e = h

pub deep_turn : (ts : List Token) (i n m : ℕ) (d : Token) → i < length ts → is_too_deep (get_or ts i d).kind n ≡ false → n ≤ 64 → m ≡ open_behind (get_or ts i d).kind n → first_deep_from i n (drop i ts) ≡ first_deep_from 0 0 ts → (first_deep_from (i + 1) m (drop (i + 1) ts) ≡ first_deep_from 0 0 ts) × (m ≤ 64)
deep_turn ts i n m d h e few same before = (
  ap (λ k. first_deep_from (i + 1) k (drop (i + 1) ts)) same ∙ sym (deep_next ts i n d h e) ∙ before,
  subst (λ k. k ≤ 64) (sym same) (few_open (get_or ts i d).kind n few e),
)
