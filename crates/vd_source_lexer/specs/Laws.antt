-- What holds of every LL(1) grammar.
use Rattle.std.specs.Prelude.{◌≡◌, ◌↔◌, ℕ, Bool, true, ◌&&◌, List, [], ◌∷◌, ◌++◌, map, Result, Ok, Err}
use Rattle.vd_source_lexer.specs.Grammar.{Ebnf, Spells, Starts}
use Rattle.vd_source_lexer.specs.Machine.{nullable, is_ll1, run, IsLL1, are_ll1}
use Rattle.vd_source_lexer.specs.Trees.{Tree, Makes, one_empty}

-- us is what is left of ts from its first token on that no text of the parts goes on with: the tokens before it begin
-- a text, and the tokens through it begin none.
pub record FirstUnexpected (S : Type 0) (rule : S → Ebnf S) (es : List (Ebnf S)) (ts us : List ℕ) : Type 0 where
  pub before : List ℕ
  pub token : ℕ
  pub behind : List ℕ
  pub all : ts ≡ before ++ token ∷ behind
  pub rest : us ≡ token ∷ behind
  pub begins : Starts S rule es before
  pub ends : Starts S rule es (before ++ token ∷ []) → ⊥

-- the run took all tokens, and what is to come may be empty
abbrev pub all_nullable : {S : Type 0} → List (Ebnf S) → Bool
all_nullable [] = true
all_nullable (e ∷ es) = nullable e && all_nullable es

abbrev pub Accepted : {S : Type 0} → Result (List (Ebnf S)) (List ℕ) → Type 0
Accepted (Ok left) = all_nullable left ≡ true
Accepted (Err rest) = ⊥

abbrev pub Taken : {S : Type 0} → Result (List (Ebnf S)) (List ℕ) → Type 0
Taken (Ok left) = Unit {0}
Taken (Err rest) = ⊥

-- The machine accepts exactly the texts, takes exactly what begins a text, and where it stops is the first unexpected token.
pub record Exact (S : Type 0) (rule : S → Ebnf S) (F : S → List ℕ) (n : ℕ) (es : List (Ebnf S)) (ts : List ℕ) : Type 0 where
  pub texts : Spells S rule es ts ↔ Accepted (run rule F n es ts)
  pub beginnings : Starts S rule es ts ↔ Taken (run rule F n es ts)
  pub refusals : (us : List ℕ) → run rule F n es ts ≡ Err us → FirstUnexpected S rule es ts us

abbrev pub MachineIsExact : (S : Type 0) → Type 0
MachineIsExact S = (rule : S → Ebnf S) (F E : S → List ℕ) (n : ℕ) → IsLL1 S rule F E n → (es : List (Ebnf S)) → are_ll1 F E es ≡ true → (ts : List ℕ) → Exact S rule F n es ts

-- each front of a text, and of what begins one, begins a text
pub record Fronts (S : Type 0) (rule : S → Ebnf S) (es : List (Ebnf S)) (ts us : List ℕ) : Type 0 where
  pub text : Spells S rule es (ts ++ us) → Starts S rule es ts
  pub beginning : Starts S rule es (ts ++ us) → Starts S rule es ts

abbrev pub FrontsBegin : (S : Type 0) → Type 0
FrontsBegin S = (rule : S → Ebnf S) (F E : S → List ℕ) (n : ℕ) → IsLL1 S rule F E n → (es : List (Ebnf S)) → are_ll1 F E es ≡ true → (ts us : List ℕ) → Fronts S rule es ts us

-- what the kinds of tokens spell has a tree, and what has a tree is spelled
abbrev pub TextsHaveTrees : (S T : Type 0) → Type 0
TextsHaveTrees S T = (rule : S → Ebnf S) (kind : T → ℕ) (e : Ebnf S) (ts : List T) → Spells S rule (e ∷ []) (map kind ts) ↔ ((x : Tree T) × Makes S T rule kind e ts [] x)

-- and it has one
abbrev pub OneTree : (S T : Type 0) → Type 0
OneTree S T = (rule : S → Ebnf S) (kind : T → ℕ) (F E : S → List ℕ) (n : ℕ) → IsLL1 S rule F E n → ((s : S) → one_empty (rule s) ≡ true) →
    (e : Ebnf S) → is_ll1 F E e ≡ true → one_empty e ≡ true → (ts : List T) (x y : Tree T) → Makes S T rule kind e ts [] x → Makes S T rule kind e ts [] y → x ≡ y
