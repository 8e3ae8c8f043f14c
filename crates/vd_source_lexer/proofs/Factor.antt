-- A grammar and the same grammar left factored have the same texts and the same beginnings.
use Rattle.std.proofs.Common.{ℕ, List}
use Rattle.vd_source_lexer.specs.Grammar.{Ebnf, Alt, Derives, d-tok, d-sym, d-eps, d-seq, d-left, d-right, d-stop, d-more, Begins, b-none, b-tok, b-sym, b-first, b-next, b-left, b-right, b-one, b-more}

-- one rule for another, where the other's rules make each text of the first
module _ (S : Type 0) (rule rule' : S → Ebnf S) (gens : (s : S) (ts m : List ℕ) → Derives S rule' (rule s) ts m → Derives S rule' (rule' s) ts m) where
  pub derives_to : {e : Ebnf S} {ts m : List ℕ} → Derives S rule e ts m → Derives S rule' e ts m
  derives_to d-tok = d-tok
  derives_to (d-sym {s = s} g) = d-sym (gens s _ _ (derives_to g))
  derives_to d-eps = d-eps
  derives_to (d-seq g h) = d-seq (derives_to g) (derives_to h)
  derives_to (d-left g) = d-left (derives_to g)
  derives_to (d-right g) = d-right (derives_to g)
  derives_to d-stop = d-stop
  derives_to (d-more g h) = d-more (derives_to g) (derives_to h)

  module _ (begins : (s : S) (ts : List ℕ) → Begins S rule' (rule s) ts → Begins S rule' (rule' s) ts) where
    pub begins_to : {e : Ebnf S} {ts : List ℕ} → Begins S rule e ts → Begins S rule' e ts
    begins_to b-none = b-none
    begins_to b-tok = b-tok
    begins_to (b-sym {s = s} g) = b-sym (begins s _ (begins_to g))
    begins_to (b-first g) = b-first (begins_to g)
    begins_to (b-next g h) = b-next (derives_to g) (begins_to h)
    begins_to (b-left g) = b-left (begins_to g)
    begins_to (b-right g) = b-right (begins_to g)
    begins_to (b-one g) = b-one (begins_to g)
    begins_to (b-more g h) = b-more (derives_to g) (begins_to h)

module _ (S : Type 0) (rule : S → Ebnf S) where
  pub under : {a b b' : Ebnf S} {ts m : List ℕ} → (Derives S rule b ts m → Derives S rule b' ts m) → Derives S rule (Alt a b) ts m → Derives S rule (Alt a b') ts m
  under f (d-left g) = d-left g
  under f (d-right g) = d-right (f g)

  pub b-under : {a b b' : Ebnf S} {ts : List ℕ} → (Begins S rule b ts → Begins S rule b' ts) → Begins S rule (Alt a b) ts → Begins S rule (Alt a b') ts
  b-under f b-none = b-none
  b-under f (b-left g) = b-left g
  b-under f (b-right g) = b-right (f g)
