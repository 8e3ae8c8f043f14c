-- Statements that are emitted one after the other.
use Rattle.std.proofs.Common.{◌≡◌, ℕ, ◌+◌, ◌-◌, ◌≤◌, IsTrue, List, ◌∷◌, length, drop, sym, ap, ◌∙◌, subst, arith}
use Rattle.vd_base.specs.declared.protocols.Proto.{Proto}
use Rattle.vd_core.specs.declared.normal.Stmt.{Stmt}
use Rattle.vd_duet.specs.Builder.{TakesAtMost}
use Rattle.vd_split.proofs.Lists.{and_right}
use Rattle.vd_split.specs.Offer.{Offer, Fit, AreHeld, CanEmit, Emits, fit, block_fit}
use Rattle.vd_split.proofs.Rooms.{takes_on}

module _ {P : Type 0} (o : Offer P) (protos : List Proto) where
  -- what is kept while the statements of a block are emitted
  pub record Rest (body : List Stmt) (i : ℕ) (start : List P) (first : List ℕ) (held : List P) (next : List ℕ) : Type 0 where
    pub placed : AreHeld o protos held
    pub fits : IsTrue (block_fit o protos (drop i body) (length held)).all
    pub after : (block_fit o protos (drop i body) (length held)).after ≡ (block_fit o protos body (length start)).after
    pub within : (block_fit o protos (drop i body) (length held)).taken ≤ (block_fit o protos body (length start)).taken
    pub few : TakesAtMost ((block_fit o protos body (length start)).taken - (block_fit o protos (drop i body) (length held)).taken) first next

  module _ (body : List Stmt) (i : ℕ) (start : List P) (first : List ℕ) (held : List P) (next : List ℕ) (stmt : Stmt) (rest : List Stmt) (can : CanEmit o protos (block_fit o protos body) start first)
      (r : Rest body i start first held next) (is : drop i body ≡ stmt ∷ rest) where
    now_is : block_fit o protos (drop i body) (length held) ≡ block_fit o protos (stmt ∷ rest) (length held)
    now_is = ap (λ (l : List Stmt). block_fit o protos l (length held)) is

    pub rest_more : (held' : List P) (next' : List ℕ) → drop (i + 1) body ≡ rest → Emits o protos (fit o protos stmt) held next held' next' → Rest body (i + 1) start first held' next'
    rest_more held' next' left e =
        let one = fit o protos stmt (length held) in
        let more = block_fit o protos rest one.after in
        let all = block_fit o protos body (length start) in
        let within = subst (λ (f : Fit). f.taken ≤ all.taken) now_is r.within in
        let few = subst (λ (f : Fit). TakesAtMost (all.taken - f.taken) first next) now_is r.few in
        let same = sym (ap (λ (l : List Stmt). block_fit o protos l (length held')) left ∙ ap (block_fit o protos rest) e.after) in
        record {
          placed = e.placed;
          fits = subst (λ (f : Fit). IsTrue f.all) same (and_right _ _ (subst (λ (f : Fit). IsTrue f.all) now_is r.fits));
          after = subst (λ (f : Fit). f.after ≡ all.after) same (subst (λ (f : Fit). f.after ≡ all.after) now_is r.after);
          within = subst (λ (f : Fit). f.taken ≤ all.taken) same (less one.taken more.taken all.taken within);
          few = subst (λ (f : Fit). TakesAtMost (all.taken - f.taken) first next') same (takes_on _ one.taken _ first next next' few e.few (left_over one.taken more.taken all.taken within));
        }
      where
        less : (a b c : ℕ) → a + b ≤ c → b ≤ c
        less a b c le = omega arith

        left_over : (a b c : ℕ) → a + b ≤ c → (c - (a + b)) + a ≤ c - b
        left_over a b c le = omega arith
