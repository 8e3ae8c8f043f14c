-- The tree of a text: the tokens and the choices that the grammar's right sides make.
use Rattle.std.specs.Prelude.{◌≡◌, ℕ, Bool, true, ◌&&◌, not, List, ◌∷◌}
use Rattle.vd_source_lexer.specs.Grammar.{Ebnf, Tok, Sym, Eps, Seq, Alt, Star}
use Rattle.vd_source_lexer.specs.Machine.{nullable}

pub data Tree (T : Type 0) : Type 0 where
  Leaf : T → Tree T
  Both : Tree T → Tree T → Tree T
  First : Tree T → Tree T
  Second : Tree T → Tree T
  Empty : Tree T

-- Makes e ts rest x: the tokens ts begin with a text of e, rest comes after it, and x is its tree.
pub data Makes (S T : Type 0) (rule : S → Ebnf S) (kind : T → ℕ) : Ebnf S → List T → List T → Tree T → Type 0 where
  m-tok : {c : ℕ} {t : T} {ts : List T} → kind t ≡ c → Makes S T rule kind (Tok c) (t ∷ ts) ts (Leaf t)
  m-sym : {s : S} {ts rest : List T} {x : Tree T} → Makes S T rule kind (rule s) ts rest x → Makes S T rule kind (Sym s) ts rest x
  m-eps : {ts : List T} → Makes S T rule kind Eps ts ts Empty
  m-seq : {a b : Ebnf S} {ts mid rest : List T} {x y : Tree T} → Makes S T rule kind a ts mid x → Makes S T rule kind b mid rest y → Makes S T rule kind (Seq a b) ts rest (Both x y)
  m-left : {a b : Ebnf S} {ts rest : List T} {x : Tree T} → Makes S T rule kind a ts rest x → Makes S T rule kind (Alt a b) ts rest (First x)
  m-right : {a b : Ebnf S} {ts rest : List T} {x : Tree T} → Makes S T rule kind b ts rest x → Makes S T rule kind (Alt a b) ts rest (Second x)
  m-stop : {a : Ebnf S} {ts : List T} → Makes S T rule kind (Star a) ts ts Empty
  m-more : {a : Ebnf S} {ts mid rest : List T} {x y : Tree T} → Makes S T rule kind a ts mid x → Makes S T rule kind (Star a) mid rest y → Makes S T rule kind (Star a) ts rest (Both x y)

-- No empty text is made in two ways.
abbrev pub one_empty : {S : Type 0} → Ebnf S → Bool
one_empty (Tok c) = true
one_empty (Sym s) = true
one_empty Eps = true
one_empty (Seq a b) = one_empty a && one_empty b
one_empty (Alt a b) = (one_empty a && one_empty b) && not (nullable a && nullable b)
one_empty (Star a) = one_empty a && not (nullable a)
