-- What the parser's answer about a spelled text tells of its last token.
use Rattle.std.proofs.Common.{◌≡◌, ◌≢◌, ◌↔◌, ◌⊎◌, nat_eq, nat_le, ◌&&◌, ◌||◌, if◌then◌else◌, ℕ, zero, suc, ◌+◌, ◌-◌, ◌<◌, ◌≤◌, Bool, true, false, not, List, [], ◌∷◌, ◌++◌, inl, inr, length, take, drop, get_or, map, Some, None, Result, Ok, Err, is_ok, refl, sym, ap, ◌∙◌, subst, true≢false, arith, append_assoc, eqb, eq-eqb, eqb-true}
use Rattle.std.specs.Prelude.{IfOk, IfErr, IsTrue, ◌==◌}
use Rattle.std.proofs.lemmas.List.{length-map}
use Rattle.std.proofs.lemmas.Bool.{cases_lt, cases_Bool}
use Rattle.vd_base.specs.Limits.{most_source_bytes}
use Rattle.vd_source_lexer.specs.Grammar.{Ebnf, Spells, Starts}
use Rattle.vd_source_lexer.specs.Machine.{run}
use Rattle.vd_source_lexer.specs.Laws.{Taken}
use Rattle.vd_source_lexer.specs.Trees.{Both}
use Rattle.vd_source_lexer.proofs.Front.{exact, fronts, texts_trees}
use Rattle.vd_core.specs.declared.source.Source.{Source}
use Rattle.vd_source_lexer.specs.Kinds.{code_of}
use Rattle.vd_source_lexer.specs.Tokens.{kinds, Lexes}
use Rattle.vd_source_lexer.specs.declared.token.Token.{Token}
use Rattle.vd_source_lexer.specs.declared.token.TokenKind.{TokenKind}
use Rattle.vd_source_lexer.specs.declared.token.TokenKind.TheVariants as kind
use Rattle.vd_source_lexer.proofs.Front.{lexes_once}
use Rattle.vd_parser.specs.declared.fault.ParseFault.{ParseFault}
use Rattle.vd_parser.specs.declared.fault.ParseFault.TheVariants as fault
use Rattle.vd_parser.specs.Language.{Symbol, rule}
use Rattle.vd_parser.specs.Nesting.{open_behind, NoneTooDeep}
use Rattle.vd_parser.specs.Whole.{NoEnd}
use Rattle.vd_parser.specs.Outcomes.{sentence, BeginSource, IsSource, IsUnexpected, IsTooDeep, IsParse}
use Rattle.vd_parser.proofs.Front.{F, E, language_ll1, kinds-append, take_at, take_front, begins_less, is_too_deep, first_deep_from, first_deep, deep_here, deep_step, none_deep, scan_none}
use Rattle.vd_source_lexer.specs.Spelled.{HasNoEnd, spelled, HasKinds}
use Rattle.vd_diag_source.specs.Following.{GoesOn, goes_on, through, IsTooLong}
use Rattle.vd_diag_source.specs.Judging.{judged}
use Rattle.vd_diag_source.specs.declared.follow.FollowFault.{FollowFault}
use Rattle.vd_diag_source.specs.declared.follow.FollowFault.TheVariants.{TooLong, Memory}

-- the machine
taken_ok : (r : Result (List (Ebnf Symbol)) (List ℕ)) → Taken r → is_ok r ≡ true
taken_ok (Ok left) t = refl
taken_ok (Err rest) t = absurd t

ok_taken : (r : Result (List (Ebnf Symbol)) (List ℕ)) → is_ok r ≡ true → Taken r
ok_taken (Ok left) e = tt
ok_taken (Err rest) e = absurd (true≢false (sym e))

pub goes_on_exactly : (before : List Token) (k : TokenKind) → IsTrue (goes_on before k) ↔ GoesOn before k
goes_on_exactly before k =
    let law = (exact Symbol rule F E 10 language_ll1 (sentence ∷ []) refl (kinds before ++ code_of k ∷ [])).beginnings in
    (λ e. law.1 (ok_taken (run rule F 10 (sentence ∷ []) (kinds before ++ code_of k ∷ [])) e), λ q. taken_ok (run rule F 10 (sentence ∷ []) (kinds before ++ code_of k ∷ [])) (law.0 q))

is_false : (b : Bool) → (b ≡ true → ⊥) → b ≡ false
is_false true h = absurd (h refl)
is_false false h = refl

goes : (before : List Token) (k : TokenKind) → GoesOn before k → goes_on before k ≡ true
goes before k q = (goes_on_exactly before k).1 q

goes_not : (before : List Token) (k : TokenKind) → (GoesOn before k → ⊥) → goes_on before k ≡ false
goes_not before k h = is_false (goes_on before k) (λ e. h ((goes_on_exactly before k).0 e))

-- whether a bracket is too deep hangs on the kinds alone
same_opens : (j k : TokenKind) (n : ℕ) → code_of j ≡ code_of k → is_too_deep j n ≡ is_too_deep k n
same_opens j k n e = ap (λ c. ((nat_eq c (code_of kind.OpenBrace) || nat_eq c (code_of kind.OpenParen)) || nat_eq c (code_of kind.OpenBracket)) && nat_le 64 n) e

same_open : (j k : TokenKind) (n : ℕ) → code_of j ≡ code_of k → open_behind j n ≡ open_behind k n
same_open j k n e = ap
    (λ c. if (nat_eq c (code_of kind.OpenBrace) || nat_eq c (code_of kind.OpenParen)) || nat_eq c (code_of kind.OpenBracket) then n + 1
    else if (nat_eq c (code_of kind.CloseBrace) || nat_eq c (code_of kind.CloseParen)) || nat_eq c (code_of kind.CloseBracket) then n - 1 else n)
    e

deep_same : (i n : ℕ) (t u : Token) (ts us : List Token) → code_of t.kind ≡ code_of u.kind → first_deep_from (i + 1) (open_behind u.kind n) ts ≡ first_deep_from (i + 1) (open_behind u.kind n) us → first_deep_from i n (t ∷ ts) ≡ first_deep_from i n (u ∷ us)
deep_same i n t u ts us e r = elim (cases_Bool (is_too_deep u.kind n)) [
  | inl h ↦ deep_here i n t ts (same_opens t.kind u.kind n e ∙ h) ∙ sym (deep_here i n u us h)
  | inr h ↦ deep_step i n t ts (same_opens t.kind u.kind n e ∙ h) ∙ ap (λ m. first_deep_from (i + 1) m ts) (same_open t.kind u.kind n e) ∙ r ∙ sym (deep_step i n u us h)
]

same_deep : (i n : ℕ) (ts us : List Token) → kinds ts ≡ kinds us → first_deep_from i n ts ≡ first_deep_from i n us
same_deep i n [] [] e = refl
same_deep i n [] (u ∷ us) e = absurd cc
same_deep i n (t ∷ ts) [] e = absurd cc
same_deep i n (t ∷ ts) (u ∷ us) e =
    let first : code_of t.kind ≡ code_of u.kind = cc in
    let rest : kinds ts ≡ kinds us = cc in
    deep_same i n t u ts us first (same_deep (i + 1) (open_behind u.kind n) ts us rest)

shallow_same : (ts us : List Token) → kinds ts ≡ kinds us → NoneTooDeep ts → NoneTooDeep us
shallow_same ts us e none = none_deep us (sym (same_deep 0 0 ts us e) ∙ scan_none ts none)

-- the kinds of a spelled text
map_kinds : (ts : List Token) → map code_of (map (λ t. t.kind) ts) ≡ kinds ts
map_kinds [] = refl
map_kinds (t ∷ ts) = ap (λ xs. code_of t.kind ∷ xs) (map_kinds ts)

map-append : (xs ys : List TokenKind) → map code_of (xs ++ ys) ≡ map code_of xs ++ map code_of ys
map-append [] ys = refl
map-append (x ∷ xs) ys = ap (λ zs. code_of x ∷ zs) (map-append xs ys)

no_end_of : (ts : List Token) → NoEnd ts → HasNoEnd (map (λ t. t.kind) ts)
no_end_of [] h = tt
no_end_of (t ∷ ts) h = (h.0, no_end_of ts h.1)

no_end_more : (ks : List TokenKind) (k : TokenKind) → HasNoEnd ks → code_of k ≢ 0 → HasNoEnd (ks ++ k ∷ [])
no_end_more [] k h some = (some, tt)
no_end_more (j ∷ ks) k h some = (h.0, no_end_more ks k h.1 some)

-- either the end is asked for, or any other kind
end_or_not : (before : List Token) (k : TokenKind) → ((code_of k ≡ 0) × (through before k ≡ map (λ t. t.kind) before)) ⊎ ((code_of k ≢ 0) × (through before k ≡ map (λ t. t.kind) before ++ k ∷ []))
end_or_not before k = go (code_of k) (nat_eq (code_of k) 0) refl
  where
    go : (n : ℕ) (b : Bool) → nat_eq n 0 ≡ b →
        ((n ≡ 0) × ((if b then map (λ t. t.kind) before else map (λ t. t.kind) before ++ k ∷ []) ≡ map (λ t. t.kind) before))
        ⊎ ((n ≢ 0) × ((if b then map (λ t. t.kind) before else map (λ t. t.kind) before ++ k ∷ []) ≡ map (λ t. t.kind) before ++ k ∷ []))
    go n true e = inl (eqb-true n 0 e, refl)
    go n false e = inr ((λ z. true≢false (sym (eq-eqb n 0 z) ∙ e)), refl)

through_no_end : (before : List Token) (k : TokenKind) → NoEnd before → HasNoEnd (through before k)
through_no_end before k h = elim (end_or_not before k) [
  | inl p ↦ subst HasNoEnd (sym p.1) (no_end_of before h)
  | inr p ↦ subst HasNoEnd (sym p.1) (no_end_more (map (λ t. t.kind) before) k (no_end_of before h) p.0)
]

pub may_spell : (ks : List TokenKind) (before : List Token) (k : TokenKind) → ks ≡ through before k → NoEnd before → HasNoEnd ks
may_spell ks before k e h = subst HasNoEnd (sym e) (through_no_end before k h)

-- the tokens of the text begin with those kinds and then the kind that is asked for
record Asked (ts before : List Token) (k : TokenKind) : Type 0 where
  rest : List ℕ
  all : kinds ts ≡ kinds before ++ code_of k ∷ rest

asked : (ts before : List Token) (k : TokenKind) → kinds ts ≡ map code_of (through before k) ++ 0 ∷ [] → Asked ts before k
asked ts before k e = elim (end_or_not before k) [
  | inl p ↦ record { rest = []; all = e ∙ ap (λ ks. map code_of ks ++ 0 ∷ []) p.1 ∙ ap (λ xs. xs ++ 0 ∷ []) (map_kinds before) ∙ ap (λ n. kinds before ++ n ∷ []) (sym p.0) }
  | inr p ↦ record {
    rest = 0 ∷ [];
    all = e ∙ ap (λ ks. map code_of ks ++ 0 ∷ []) p.1 ∙ ap (λ xs. xs ++ 0 ∷ []) (map-append (map (λ t. t.kind) before) (k ∷ []) ∙ ap (λ xs. xs ++ code_of k ∷ []) (map_kinds before))
        ∙ append_assoc (kinds before) (code_of k ∷ []) (0 ∷ []);
  }
]

take_kinds : (n : ℕ) (ts : List Token) → kinds (take n ts) ≡ take n (kinds ts)
take_kinds zero ts = refl
take_kinds (suc n) [] = refl
take_kinds (suc n) (t ∷ ts) = ap (λ xs. code_of t.kind ∷ xs) (take_kinds n ts)

take_first : (xs : List ℕ) (y : ℕ) (ys : List ℕ) → take (length xs) (xs ++ y ∷ ys) ≡ xs
take_first [] y ys = refl
take_first (x ∷ xs) y ys = ap (λ zs. x ∷ zs) (take_first xs y ys)

take_one : (xs : List ℕ) (y : ℕ) (ys : List ℕ) → take (suc (length xs)) (xs ++ y ∷ ys) ≡ xs ++ y ∷ []
take_one [] y ys = refl
take_one (x ∷ xs) y ys = ap (λ zs. x ∷ zs) (take_one xs y ys)

module _ (ts before : List Token) (k : TokenKind) (a : Asked ts before k) where
  len : length (kinds before) ≡ length before
  len = length-map before (λ t. code_of t.kind)

  front_kinds : kinds (take (length before) ts) ≡ kinds before
  front_kinds = take_kinds (length before) ts ∙ ap (take (length before)) a.all ∙ ap (λ n. take n (kinds before ++ code_of k ∷ a.rest)) (sym len) ∙ take_first (kinds before) (code_of k) a.rest

  through_kinds : kinds (take (suc (length before)) ts) ≡ kinds before ++ code_of k ∷ []
  through_kinds = take_kinds (suc (length before)) ts ∙ ap (take (suc (length before))) a.all ∙ ap (λ n. take (suc n) (kinds before ++ code_of k ∷ a.rest)) (sym len) ∙ take_one (kinds before) (code_of k) a.rest

  here : BeginSource (take (suc (length before)) ts) → GoesOn before k
  here q = subst (Starts Symbol rule (sentence ∷ [])) through_kinds q

  from_here : GoesOn before k → BeginSource (take (suc (length before)) ts)
  from_here q = subst (Starts Symbol rule (sentence ∷ [])) (sym through_kinds) q

  front : BeginSource before → BeginSource (take (length before) ts)
  front q = subst (Starts Symbol rule (sentence ∷ [])) (sym front_kinds) q

  of_source : (text : List ℕ) (v : Source) → IsSource text ts v → GoesOn before k
  of_source text v p =
      let whole : Spells Symbol rule (sentence ∷ []) (kinds ts) = (texts_trees Symbol Token rule (λ t. code_of t.kind) sentence ts).1 (Both p.tree p.end, p.makes) in
      let split : kinds ts ≡ (kinds before ++ code_of k ∷ []) ++ a.rest = a.all ∙ sym (append_assoc (kinds before) (code_of k ∷ []) a.rest) in
      (fronts Symbol rule F E 10 language_ll1 (sentence ∷ []) refl (kinds before ++ code_of k ∷ []) a.rest).text (subst (Spells Symbol rule (sentence ∷ [])) split whole)

  -- the token that is refused is the one that is asked for, or a later one
  of_unexpected : (m o : ℕ) → BeginSource before → IsUnexpected ts m o → goes_on before k ≡ not (m == length before)
  of_unexpected m o begins p =
      let front_is : take m ts ≡ p.before = ap (λ n. take n ts) p.number ∙ ap (take (length p.before)) p.all ∙ take_front p.before p.token p.behind in
      let through_is : take (suc m) ts ≡ p.before ++ p.token ∷ [] = ap (λ n. take (suc n) ts) p.number ∙ ap (take (suc (length p.before))) p.all ∙ take_at p.before p.token p.behind in
      let ends : BeginSource (take (suc m) ts) → ⊥ = λ q. p.ends (subst BeginSource through_is q) in
      let starts : BeginSource (take m ts) = subst BeginSource (sym front_is) p.begins in
      elim (cases_lt m (length before)) [
        | inl less ↦ absurd (ends (begins_less ts (suc m) (length before) (omega (arith, less)) (front begins)))
        | inr more ↦ elim (cases_lt (length before) m) [
          | inl less ↦
              let different : (m == length before) ≡ false = is_false (m == length before) (λ e. let same = eqb-true m (length before) e in omega (arith, same, less)) in
              goes before k (here (begins_less ts (suc (length before)) m (omega (arith, less)) starts)) ∙ ap not (sym different)
          | inr most ↦
              let same : m ≡ length before = omega (arith, more, most) in
              let equal : (m == length before) ≡ true = eq-eqb m (length before) same in
              goes_not before k (λ q. ends (subst (λ n. BeginSource (take (suc n) ts)) (sym same) (from_here q))) ∙ ap not (sym equal)
        ]
      ]

  of_deep : (o : ℕ) → NoneTooDeep before → IsTooDeep ts o → goes_on before k ≡ true
  of_deep o none p =
      let through_is : take (suc (length p.before)) ts ≡ p.before ++ p.token ∷ [] = ap (take (suc (length p.before))) p.all ∙ take_at p.before p.token p.behind in
      let starts : BeginSource (take (suc (length p.before)) ts) = subst BeginSource (sym through_is) p.begins in
      elim (cases_lt (length p.before) (length before)) [
        | inl less ↦
            let shallow : NoneTooDeep (take (length before) ts) = shallow_same before (take (length before) ts) (sym front_kinds) none in
            absurd (shallow p.before p.token (take (length before - suc (length p.before)) p.behind) (cut (length before) p.before p.token p.behind ts p.all less) p.deep)
        | inr more ↦ goes before k (here (begins_less ts (suc (length before)) (suc (length p.before)) (omega (arith, more)) starts))
      ]
    where
      cut : (n : ℕ) (xs : List Token) (t : Token) (ys zs : List Token) → zs ≡ xs ++ t ∷ ys → length xs < n → take n zs ≡ xs ++ t ∷ take (n - suc (length xs)) ys
      cut n xs t ys zs e less = ap (take n) e ∙ go n xs less
        where
          go : (n : ℕ) (xs : List Token) → length xs < n → take n (xs ++ t ∷ ys) ≡ xs ++ t ∷ take (n - suc (length xs)) ys
          go zero xs less = absurd (omega (arith, less))
          go (suc n) [] less = ap (λ m. t ∷ take m ys) (let e : n ≡ suc n - suc 0 = omega arith in e)
          go (suc n) (x ∷ xs) less =
              let e : n - suc (length xs) ≡ suc n - suc (length (x ∷ xs)) = omega arith in
              ap (λ us. x ∷ us) (go n xs (omega (arith, less))) ∙ ap (λ m. x ∷ (xs ++ t ∷ take m ys)) e

-- what the clause of the parser gives
judged_exactly : (before : List Token) (k : TokenKind) (ks : List TokenKind) (text : List ℕ) (r : Result Source ParseFault) → ks ≡ through before k → BeginSource before → NoneTooDeep before → HasKinds text ks →
    (r ≡ Err fault.Memory) ⊎ IsParse text r → IfOk (judged r (length before)) (λ yes. yes ≡ goes_on before k)
judged_exactly before k ks text r e begins none h (inl memory) = subst (λ s. IfOk (judged s (length before)) (λ yes. yes ≡ goes_on before k)) (sym memory) tt
judged_exactly before k ks text r e begins none h (inr p) = go r p
  where
    kinds_are : kinds h.tokens ≡ map code_of (through before k) ++ 0 ∷ []
    kinds_are = h.are ∙ ap (λ js. map code_of js ++ 0 ∷ []) e

    at : (ts : List Token) → Lexes text 0 ts → Asked ts before k
    at ts l = subst (λ us. Asked us before k) ((lexes_once text).one_list h.tokens ts h.lexes l) (asked h.tokens before k kinds_are)

    go : (r : Result Source ParseFault) → IsParse text r → IfOk (judged r (length before)) (λ yes. yes ≡ goes_on before k)
    go (Ok v) p = sym (goes before k (of_source p.tokens before k (at p.tokens p.lexes) text v p.holds.source))
    go (Err (fault.Unexpected m o)) p = sym (of_unexpected p.tokens before k (at p.tokens p.lexes) m o begins p.holds)
    go (Err (fault.TooDeep o)) p = sym (of_deep p.tokens before k (at p.tokens p.lexes) o none p.holds)
    go (Err (fault.BadByte o)) p = absurd ((lexes_once text).apart h.tokens o h.lexes p.1)
    go (Err (fault.TooLong n)) p = tt
    go (Err fault.Memory) p = absurd p

judged_long : (n : ℕ) (text : List ℕ) (r : Result Source ParseFault) → (r ≡ Err fault.Memory) ⊎ IsParse text r → IfErr (judged r n) (λ f. f ≡ TooLong → most_source_bytes < length text)
judged_long n text r (inl memory) = subst (λ s. IfErr (judged s n) (λ f. f ≡ TooLong → most_source_bytes < length text)) (sym memory) (λ e. absurd cc)
judged_long n text r (inr p) = go r p
  where
    go : (r : Result Source ParseFault) → IsParse text r → IfErr (judged r n) (λ f. f ≡ TooLong → most_source_bytes < length text)
    go (Ok v) p = tt
    go (Err (fault.Unexpected m o)) p = tt
    go (Err (fault.TooDeep o)) p = tt
    go (Err (fault.BadByte o)) p = tt
    go (Err (fault.TooLong l)) p = λ e. p.0
    go (Err fault.Memory) p = absurd p

-- the same as the code has it
pub exactly : (before : List Token) (k : TokenKind) (ks : List TokenKind) (text bytes : List ℕ) (r : Result Source ParseFault) (z : Result Bool FollowFault) → ks ≡ through before k → BeginSource before → NoneTooDeep before → HasKinds text ks →
    bytes ≡ text → (r ≡ Err fault.Memory) ⊎ IsParse bytes r → z ≡ judged r (length before) → IfOk z (λ yes. yes ≡ goes_on before k)
exactly before k ks text bytes r z e begins none h b p j =
    subst (λ y. IfOk y (λ yes. yes ≡ goes_on before k)) (sym j) (judged_exactly before k ks text r e begins none h (subst (λ ws. (r ≡ Err fault.Memory) ⊎ IsParse ws r) b p))

pub long_exactly : (before : List Token) (k : TokenKind) (ks : List TokenKind) (text bytes : List ℕ) (r : Result Source ParseFault) (z : Result Bool FollowFault) → ks ≡ through before k → text ≡ spelled ks →
    bytes ≡ text → (r ≡ Err fault.Memory) ⊎ IsParse bytes r → z ≡ judged r (length before) → IfErr z (λ f. f ≡ TooLong → IsTooLong before k)
long_exactly before k ks text bytes r z e t b p j =
    subst (λ y. IfErr y (λ f. f ≡ TooLong → IsTooLong before k)) (sym j)
    (subst (λ ws. IfErr (judged r (length before)) (λ f. f ≡ TooLong → most_source_bytes < length ws)) (b ∙ t ∙ ap spelled e) (judged_long (length before) bytes r p))
