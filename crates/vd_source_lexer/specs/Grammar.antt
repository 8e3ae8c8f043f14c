-- Grammars in extended Backus-Naur form, and their texts. Tokens are seen by their kinds, which are numbers.
use Rattle.std.specs.Prelude.{ℕ, List, [], ◌∷◌, ◌⊎◌}

-- A right side: a token of a kind, another symbol, nothing, one part after another, one of two, any number.
pub data Ebnf (S : Type 0) : Type 0 where
  Tok : ℕ → Ebnf S
  Sym : S → Ebnf S
  Eps : Ebnf S
  Seq : Ebnf S → Ebnf S → Ebnf S
  Alt : Ebnf S → Ebnf S → Ebnf S
  Star : Ebnf S → Ebnf S

-- Derives e ts rest: the tokens ts are a whole text of e followed by rest.
pub data Derives (S : Type 0) (rule : S → Ebnf S) : Ebnf S → List ℕ → List ℕ → Type 0 where
  d-tok : {c : ℕ} {ts : List ℕ} → Derives S rule (Tok c) (c ∷ ts) ts
  d-sym : {s : S} {ts rest : List ℕ} → Derives S rule (rule s) ts rest → Derives S rule (Sym s) ts rest
  d-eps : {ts : List ℕ} → Derives S rule Eps ts ts
  d-seq : {a b : Ebnf S} {ts mid rest : List ℕ} → Derives S rule a ts mid → Derives S rule b mid rest → Derives S rule (Seq a b) ts rest
  d-left : {a b : Ebnf S} {ts rest : List ℕ} → Derives S rule a ts rest → Derives S rule (Alt a b) ts rest
  d-right : {a b : Ebnf S} {ts rest : List ℕ} → Derives S rule b ts rest → Derives S rule (Alt a b) ts rest
  d-stop : {a : Ebnf S} {ts : List ℕ} → Derives S rule (Star a) ts ts
  d-more : {a : Ebnf S} {ts mid rest : List ℕ} → Derives S rule a ts mid → Derives S rule (Star a) mid rest → Derives S rule (Star a) ts rest

-- Begins e ts: the list ts begins a text of e. It is empty, or is that token, or is whole texts of the first
-- parts followed by a list that begins a text of the next part.
pub data Begins (S : Type 0) (rule : S → Ebnf S) : Ebnf S → List ℕ → Type 0 where
  b-none : {e : Ebnf S} → Begins S rule e []
  b-tok : {c : ℕ} → Begins S rule (Tok c) (c ∷ [])
  b-sym : {s : S} {ts : List ℕ} → Begins S rule (rule s) ts → Begins S rule (Sym s) ts
  b-first : {a b : Ebnf S} {ts : List ℕ} → Begins S rule a ts → Begins S rule (Seq a b) ts
  b-next : {a b : Ebnf S} {ts mid : List ℕ} → Derives S rule a ts mid → Begins S rule b mid → Begins S rule (Seq a b) ts
  b-left : {a b : Ebnf S} {ts : List ℕ} → Begins S rule a ts → Begins S rule (Alt a b) ts
  b-right : {a b : Ebnf S} {ts : List ℕ} → Begins S rule b ts → Begins S rule (Alt a b) ts
  b-one : {a : Ebnf S} {ts : List ℕ} → Begins S rule a ts → Begins S rule (Star a) ts
  b-more : {a : Ebnf S} {ts mid : List ℕ} → Derives S rule a ts mid → Begins S rule (Star a) mid → Begins S rule (Star a) ts

abbrev pub NothingLeft : List ℕ → Type 0
NothingLeft [] = Unit {0}
NothingLeft (t ∷ ts) = ⊥

-- whole texts of each part, one after another, and nothing after them
abbrev pub Spells : (S : Type 0) (rule : S → Ebnf S) → List (Ebnf S) → List ℕ → Type 0
Spells S rule [] ts = NothingLeft ts
Spells S rule (e ∷ es) ts = (mid : List ℕ) × Derives S rule e ts mid × Spells S rule es mid

-- the list begins a text of the parts, one after another
abbrev pub Starts : (S : Type 0) (rule : S → Ebnf S) → List (Ebnf S) → List ℕ → Type 0
Starts S rule [] ts = NothingLeft ts
Starts S rule (e ∷ es) ts = Begins S rule e ts ⊎ ((mid : List ℕ) × Derives S rule e ts mid × Starts S rule es mid)

-- the parts e, e, .. one after another, and one of two, as a rule writes them
infixr 21 ◌▸◌
abbrev pub ◌▸◌ : {S : Type 0} → Ebnf S → Ebnf S → Ebnf S
a ▸ b = Seq a b

infixr 20 ◌∣◌
abbrev pub ◌∣◌ : {S : Type 0} → Ebnf S → Ebnf S → Ebnf S
a ∣ b = Alt a b

-- [e]: there or left out
abbrev pub optional : {S : Type 0} → Ebnf S → Ebnf S
optional e = Alt e Eps

-- one token of these kinds
abbrev pub one_of : {S : Type 0} → ℕ → List ℕ → Ebnf S
one_of c [] = Tok c
one_of c (d ∷ ds) = Alt (Tok c) (one_of d ds)

-- e {c e}: one or more, with a token between them
abbrev pub separated : {S : Type 0} → ℕ → Ebnf S → Ebnf S
separated c e = Seq e (Star (Seq (Tok c) e))
