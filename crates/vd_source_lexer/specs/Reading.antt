-- What one function of a recursive descent parser does, by the machine and by the trees.
use Rattle.std.specs.Prelude.{◌≡◌, ℕ, ◌≤◌, List, [], ◌∷◌, ◌++◌, map, length, Err}
use Rattle.vd_source_lexer.specs.Grammar.{Ebnf, Star}
use Rattle.vd_source_lexer.specs.Machine.{run}
use Rattle.vd_source_lexer.specs.Trees.{Tree, Makes}

-- a grammar over tokens: its rules, the kind of each token, the kind of the end, first sets and the bound of the test
pub record Grammar (S T : Type 0) : Type 0 where
  pub rule : S → Ebnf S
  pub kind : T → ℕ
  pub end : ℕ
  pub firsts : S → List ℕ
  pub bound : ℕ

-- the kinds of the tokens that are left, and the end
abbrev pub kinds : {S T : Type 0} → Grammar S T → List T → List ℕ
kinds g ts = map g.kind ts ++ g.end ∷ []

-- the kind of the next token
abbrev pub head : {S T : Type 0} → Grammar S T → List T → ℕ
head g [] = g.end
head g (t ∷ ts) = g.kind t

-- With e to come before the tokens ts, the machine comes to the tokens us with e read, whatever comes after; x is e's tree.
pub record Read {S T : Type 0} (g : Grammar S T) (e : Ebnf S) (ts us : List T) (x : Tree T) : Type 0 where
  pub runs : (ks : List (Ebnf S)) → run g.rule g.firsts g.bound (e ∷ ks) (kinds g ts) ≡ run g.rule g.firsts g.bound ks (kinds g us)
  pub makes : Makes S T g.rule g.kind e ts us x
  pub shorter : length us ≤ length ts

-- With e to come before ts, the machine stops before us, whatever comes after.
pub record Stops {S T : Type 0} (g : Grammar S T) (e : Ebnf S) (ts us : List T) : Type 0 where
  pub runs : (ks : List (Ebnf S)) → run g.rule g.firsts g.bound (e ∷ ks) (kinds g ts) ≡ Err (kinds g us)
  pub shorter : length us ≤ length ts

-- From e before ts the machine has come to d before us, within e. A tree of d gives the tree of e.
pub record Within {S T : Type 0} (g : Grammar S T) (e : Ebnf S) (ts : List T) (d : Ebnf S) (us : List T) (up : Tree T → Tree T) : Type 0 where
  pub runs : (ks : List (Ebnf S)) → run g.rule g.firsts g.bound (e ∷ ks) (kinds g ts) ≡ run g.rule g.firsts g.bound (d ∷ ks) (kinds g us)
  pub makes : (vs : List T) (x : Tree T) → Makes S T g.rule g.kind d us vs x → Makes S T g.rule g.kind e ts vs (up x)
  pub shorter : length us ≤ length ts

-- e is read, and its tree stands for v
pub record Gives {S T X : Type 0} (g : Grammar S T) (e : Ebnf S) (of : Tree T → X) (ts us : List T) (v : X) : Type 0 where
  pub tree : Tree T
  pub read : Read g e ts us tree
  pub value : v ≡ of tree

-- From e before ts the machine has come, before us, to any number of d. The trees so far give vs, and a tree of the
-- rest of them gives more; together they give what e's tree stands for.
pub record Collects {S T X : Type 0} (g : Grammar S T) (e : Ebnf S) (of : Tree T → List X) (d : Ebnf S) (more : Tree T → List X) (ts us : List T) (vs : List X) : Type 0 where
  pub up : Tree T → Tree T
  pub within : Within g e ts (Star d) us up
  pub values : (x : Tree T) → of (up x) ≡ vs ++ more x
