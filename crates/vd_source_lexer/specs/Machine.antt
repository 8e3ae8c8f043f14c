-- The LL(1) machine, which reads a text token by token. Where other accounts have FOLLOW sets of the whole grammar,
-- each part has the tokens that may follow its last token within a longer text of its own, follow_last.
use Rattle.std.specs.Prelude.{◌≡◌, ℕ, zero, suc, Bool, true, false, ◌&&◌, ◌||◌, not, List, [], ◌∷◌, ◌++◌, Option, Some, None, is_some, Result, Ok, Err, nat_eq}
use Rattle.vd_source_lexer.specs.Grammar.{Ebnf, Tok, Sym, Eps, Seq, Alt, Star}

abbrev pub has : ℕ → List ℕ → Bool
has t [] = false
has t (x ∷ xs) = nat_eq t x || has t xs

-- no number is in both lists
abbrev pub apart : List ℕ → List ℕ → Bool
apart [] ys = true
apart (x ∷ xs) ys = not (has x ys) && apart xs ys

-- No symbol's text is empty, so only the shape counts.
abbrev pub nullable : {S : Type 0} → Ebnf S → Bool
nullable (Tok c) = false
nullable (Sym s) = false
nullable Eps = true
nullable (Seq a b) = nullable a && nullable b
nullable (Alt a b) = nullable a || nullable b
nullable (Star a) = true

-- the tokens that a text can begin with, given those of the symbols
abbrev pub first : {S : Type 0} → (S → List ℕ) → Ebnf S → List ℕ
first F (Tok c) = c ∷ []
first F (Sym s) = F s
first F Eps = []
first F (Seq a b) = first F a ++ (elim (nullable a) [ true ↦ first F b | false ↦ [] ])
first F (Alt a b) = first F a ++ first F b
first F (Star a) = first F a

-- the tokens that can follow a whole text within a longer one
abbrev pub follow_last : {S : Type 0} → (S → List ℕ) → (S → List ℕ) → Ebnf S → List ℕ
follow_last F E (Tok c) = []
follow_last F E (Sym s) = E s
follow_last F E Eps = []
follow_last F E (Seq a b) = follow_last F E b ++ (elim (nullable b) [ true ↦ follow_last F E a | false ↦ [] ])
follow_last F E (Alt a b) = (follow_last F E a ++ follow_last F E b) ++ ((elim (nullable a) [ true ↦ first F b | false ↦ [] ]) ++ (elim (nullable b) [ true ↦ first F a | false ↦ [] ]))
follow_last F E (Star a) = first F a ++ follow_last F E a

-- one token decides each choice
abbrev pub is_ll1 : {S : Type 0} → (S → List ℕ) → (S → List ℕ) → Ebnf S → Bool
is_ll1 F E (Tok c) = true
is_ll1 F E (Sym s) = true
is_ll1 F E Eps = true
is_ll1 F E (Seq a b) = (is_ll1 F E a && is_ll1 F E b) && apart (follow_last F E a) (first F b)
is_ll1 F E (Alt a b) = (is_ll1 F E a && is_ll1 F E b) && apart (first F a) (first F b)
is_ll1 F E (Star a) = is_ll1 F E a && apart (follow_last F E a) (first F a)

-- the tables by rounds over the rules
abbrev pub firsts : {S : Type 0} → (S → Ebnf S) → ℕ → S → List ℕ
firsts rule zero s = []
firsts rule (suc n) s = first (firsts rule n) (rule s)

abbrev pub follow_lasts : {S : Type 0} → (S → Ebnf S) → (S → List ℕ) → ℕ → S → List ℕ
follow_lasts rule F zero s = []
follow_lasts rule F (suc n) s = follow_last F (follow_lasts rule F n) (rule s)

-- What is to come once the token t, with which a text of e begins, is read; ks comes after e. inside says it of a symbol.
abbrev pub after : {S : Type 0} → (S → List ℕ) → ℕ → (S → List (Ebnf S) → Option (List (Ebnf S))) → Ebnf S → List (Ebnf S) → Option (List (Ebnf S))
after F t inside (Tok c) ks = Some ks
after F t inside (Sym s) ks = inside s ks
after F t inside Eps ks = None
after F t inside (Seq a b) ks = elim (has t (first F a)) [ true ↦ after F t inside a (b ∷ ks) | false ↦ after F t inside b ks ]
after F t inside (Alt a b) ks = elim (has t (first F a)) [ true ↦ after F t inside a ks | false ↦ after F t inside b ks ]
after F t inside (Star a) ks = after F t inside a (Star a ∷ ks)

-- the same of a symbol, through at most n symbols
abbrev pub enter : {S : Type 0} → (S → Ebnf S) → (S → List ℕ) → ℕ → ℕ → S → List (Ebnf S) → Option (List (Ebnf S))
enter rule F t zero s ks = None
enter rule F t (suc n) s ks = after F t (enter rule F t n) (rule s) ks

-- what is to come after one more token, or none where no text goes on so
abbrev pub step : {S : Type 0} → (S → Ebnf S) → (S → List ℕ) → ℕ → ℕ → List (Ebnf S) → Option (List (Ebnf S))
step rule F n t [] = None
step rule F n t (e ∷ ks) = elim (has t (first F e)) [ true ↦ after F t (enter rule F t n) e ks | false ↦ elim (nullable e) [ true ↦ step rule F n t ks | false ↦ None ] ]

-- every token of the list is entered
abbrev pub entered : {S : Type 0} → (S → Ebnf S) → (S → List ℕ) → ℕ → S → List ℕ → Bool
entered rule F n s [] = true
entered rule F n s (t ∷ ts) = is_some (enter rule F t n s []) && entered rule F n s ts

-- One step after another. A run that takes all tokens ends with the parts that are to come; another stops, and
-- the tokens from the first on that no text goes on with are left.
abbrev pub go_on : {S : Type 0} → List ℕ → Option (List (Ebnf S)) → (List (Ebnf S) → Result (List (Ebnf S)) (List ℕ)) → Result (List (Ebnf S)) (List ℕ)
go_on ts None f = Err ts
go_on ts (Some ks) f = f ks

abbrev pub run : {S : Type 0} → (S → Ebnf S) → (S → List ℕ) → ℕ → List (Ebnf S) → List ℕ → Result (List (Ebnf S)) (List ℕ)
run rule F n ks [] = Ok ks
run rule F n ks (t ∷ ts) = go_on (t ∷ ts) (step rule F n t ks) (λ next. run rule F n next ts)

-- The tables F and E are those of the rules, no symbol's text is empty, and one token decides each choice.
pub record Tables (S : Type 0) (rule : S → Ebnf S) (F E : S → List ℕ) : Type 0 where
  pub firsts : (s : S) → first F (rule s) ≡ F s
  pub follow_lasts : (s : S) → follow_last F E (rule s) ≡ E s
  pub nonempty : (s : S) → nullable (rule s) ≡ false
  pub ll1 : (s : S) → is_ll1 F E (rule s) ≡ true

-- The grammar is LL(1), by a test that computes; each token of a first set is reached through at most n symbols.
pub record IsLL1 (S : Type 0) (rule : S → Ebnf S) (F E : S → List ℕ) (n : ℕ) : Type 0 where
  pub tables : Tables S rule F E
  pub enters : (s : S) → entered rule F n s (F s) ≡ true

-- the tokens that a text of the parts, one after another, can begin with
abbrev pub firsts_of : {S : Type 0} → (S → List ℕ) → List (Ebnf S) → List ℕ
firsts_of F [] = []
firsts_of F (k ∷ ks) = first F k ++ (elim (nullable k) [ true ↦ firsts_of F ks | false ↦ [] ])

-- one token decides where each of the parts ends
abbrev pub are_ll1 : {S : Type 0} → (S → List ℕ) → (S → List ℕ) → List (Ebnf S) → Bool
are_ll1 F E [] = true
are_ll1 F E (k ∷ ks) = is_ll1 F E k && (apart (follow_last F E k) (firsts_of F ks) && are_ll1 F E ks)
