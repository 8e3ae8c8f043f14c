-- What the parts of a slot stand for, cell by cell.
use Rattle.std.proofs.Common.{◌≡◌, ◌≢◌, ℕ, zero, suc, ◌+◌, ◌<◌, Bool, true, false, if◌then◌else◌, nat_eq, List, [], ◌∷◌, inl, inr, slice_index, refl, sym, ap, ap₂, subst, ◌∙◌, arith, rules}
use Rattle.vd_base.specs.declared.ids.HostId.{HostId}
use Rattle.vd_base.specs.declared.protocols.Proto.{Proto}
use Rattle.vd_base.specs.declared.protocols.Proto.TheVariants.{Local, Rep, Commit, Add, Xor}
use Rattle.vd_base.specs.Holders.{holders}
use Rattle.vd_execution.specs.Registers.{digest_of}
use Rattle.vd_execution.specs.Joint.{Hosts}
use Rattle.vd_execution.specs.Text.{register}
use Rattle.vd_duet.specs.Calls.{Places, hosts_of, Calls, Stand, register_of}
use Rattle.vd_duet.specs.Laws.{IsIn, IsHost, words_at, AreBelow, StandFor}
use Rattle.vd_commit.proofs.Front.{words_alike}
use Rattle.vd_split.specs.Suite.{Content, Word, Cells}
use Rattle.vd_backend_laws.specs.Commits.{held_of, seen_of}
use Rattle.vd_backend_laws.specs.Parts.{Parts, word_in, has_back_end}
use Rattle.vd_backend_laws.specs.Suite.{cell, Names, StandForCells, IsBound, stands}
use Rattle.vd_backend_laws.proofs.BoundParts.{value_in, nonce_in, digest_in}

pub none_more : (n : ℕ) → n + 0 ≡ n
none_more n = omega arith

cell_zero : (x : Places) → cell 0 x ≡ x
cell_zero [] = refl
cell_zero (q ∷ x) = ap₂ (λ (n : ℕ) (l : Places). (q.0, register n) ∷ l) (none_more q.1.0) (cell_zero x)

pub hosts_cell : (i : ℕ) (x : Places) → hosts_of (cell i x) ≡ hosts_of x
hosts_cell i [] = refl
hosts_cell i (q ∷ x) = ap (λ (l : List HostId). q.0 ∷ l) (hosts_cell i x)

words_kept : (w w' : Hosts) (x : Places) → ((h r : ℕ) → IsIn x h r → (w' h).registers r ≡ (w h).registers r) → words_at w' x ≡ words_at w x
words_kept w w' [] f = refl
words_kept w w' (q ∷ x) f = ap₂ (λ (a : ℕ) (l : List ℕ). a ∷ l) (f q.0.0 q.1.0 (inl (refl, refl))) (words_kept w w' x (λ h r i. f h r (inr i)))

still_cells : (w w' : Hosts) (p : Proto) (x : Parts) (vs : List ℕ) → StandForCells w p x vs → ((h r : ℕ) → Names x h r → (w' h).registers r ≡ (w h).registers r)
    → StandForCells w' p x vs
still_cells w w' p x vs s kept = record {
  size = s.size;
  at = s.at;
  cells = λ i lt. subst (λ (l : List ℕ). Stand p l (slice_index vs i)) (sym (words_kept w w' (cell i x.at) (λ h r j. kept h r (i, lt, j)))) (s.cells i lt);
}

-- ---- at a protocol with a back end each cell stands for its word

abbrev pub words_of : Content → List ℕ
words_of (Word v) = v ∷ []
words_of (Cells vs) = vs

pub no_back_end : {X : Type 0} → false ≡ true → X
no_back_end e = absurd (wrong e)
  where
    wrong : false ≡ true → ⊥
    wrong e = cc

pub cells_of : (p : Proto) → has_back_end p ≡ true → (w : Hosts) (x : Parts) (c : Content) → stands w p x c → StandForCells w p x (words_of c)
cells_of (Local h) e w x (Word v) s = s
cells_of (Local h) e w x (Cells vs) s = s
cells_of (Rep set) e w x (Word v) s = s
cells_of (Rep set) e w x (Cells vs) s = s
cells_of (Commit a b) e w x c s = no_back_end e
cells_of (Add a b) e w x (Word v) s = s
cells_of (Add a b) e w x (Cells vs) s = s
cells_of (Xor a b) e w x (Word v) s = s
cells_of (Xor a b) e w x (Cells vs) s = s

pub of_cells : (p : Proto) → has_back_end p ≡ true → (w : Hosts) (x : Parts) (c : Content) → StandForCells w p x (words_of c) → stands w p x c
of_cells (Local h) e w x (Word v) s = s
of_cells (Local h) e w x (Cells vs) s = s
of_cells (Rep set) e w x (Word v) s = s
of_cells (Rep set) e w x (Cells vs) s = s
of_cells (Commit a b) e w x c s = no_back_end e
of_cells (Add a b) e w x (Word v) s = s
of_cells (Add a b) e w x (Cells vs) s = s
of_cells (Xor a b) e w x (Word v) s = s
of_cells (Xor a b) e w x (Cells vs) s = s

-- ---- a word is one cell

pub word_of : (c : Calls) (w : Hosts) (p : Proto) (x : Parts) (v : ℕ) → c.proto ≡ p → StandForCells w p x (v ∷ []) → StandFor c w x.at v
word_of c w p x v is s = record {
  at = s.at ∙ ap holders (sym is);
  word = subst (λ (z : Proto). Stand z (words_at w x.at) v) (sym is)
      (subst (λ (y : Places). Stand p (words_at w y) v) (cell_zero x.at) (s.cells 0 (first s.size)));
}
  where
    first : x.size ≡ 1 → 0 < x.size
    first e = omega (arith, e)

pub stand_of : (c : Calls) (w : Hosts) (p : Proto) (x : Places) (v : ℕ) → c.proto ≡ p → StandFor c w x v → StandForCells w p (word_in x) (v ∷ [])
stand_of c w p x v is s = record { size = refl; at = s.at ∙ ap holders is; cells = first }
  where
    first : (i : ℕ) → i < 1 → Stand p (words_at w (cell i x)) (slice_index (v ∷ []) i)
    first zero lt = subst (λ (y : Places). Stand p (words_at w y) v) (sym (cell_zero x)) (subst (λ (z : Proto). Stand z (words_at w x) v) is s.word)
    first (suc i) lt = absurd (omega (arith, lt))

in_one : (x : Places) (n h r i : ℕ) → n ≡ 1 → i < n → IsIn (cell i x) h r → IsIn x h r
in_one x n h r zero e lt is = subst (λ (y : Places). IsIn y h r) (cell_zero x) is
in_one x n h r (suc i) e lt is = absurd (omega (arith, e, lt))

pub names_in : (x : Parts) (h r : ℕ) → x.size ≡ 1 → Names x h r → IsIn x.at h r
names_in x h r e n = in_one x.at x.size h r n.0 e n.1 n.2

pub in_names : (x : Parts) (h r : ℕ) → x.size ≡ 1 → IsIn x.at h r → Names x h r
in_names x h r e i = (0, omega (arith, e), subst (λ (y : Places). IsIn y h r) (sym (cell_zero x.at)) i)

pub all_below : (next : List ℕ) (x : Places) → ((h r : ℕ) → IsIn x h r → r < slice_index next h) → AreBelow next x
all_below next [] f = tt
all_below next (q ∷ x) f = (f q.0.0 q.1.0 (inl (refl, refl)), all_below next x (λ h r i. f h r (inr i)))

pub below_at : (next : List ℕ) (x : Places) → AreBelow next x → (h r : ℕ) → IsIn x h r → r < slice_index next h
below_at next [] b h r i = absurd i
below_at next (q ∷ x) b h r (inl i) = low b.0
  where
    low : q.1.0 < slice_index next q.0.0 → r < slice_index next h
    low lt = subst (λ z. z < slice_index next h) (sym i.1) (subst (λ k. q.1.0 < slice_index next k) (sym i.0) lt)
below_at next (q ∷ x) b h r (inr i) = below_at next x b.1 h r i

-- ---- parts go on standing where their registers are kept

still_bound : (w w' : Hosts) (p v : HostId) (x : Parts) (n : ℕ) → IsBound w p v x n → ((h r : ℕ) → Names x h r → (w' h).registers r ≡ (w h).registers r) → IsBound w' p v x n
still_bound w w' p v x n s kept =
    let nonce : ℕ = (held_of x.at).nonce.0 in
    let digest : ℕ = (seen_of x.at).digest.0 in
    let names : (h r : ℕ) → IsIn x.at h r → Names x h r = λ h r i. in_names x h r s.size i in
    record {
      size = s.size;
      at = s.at;
      value = kept p.0 (held_of x.at).value.0 (names p.0 (held_of x.at).value.0 (value_in p v x.at s.at)) ∙ s.value;
      digest = words_alike (w' v.0).registers (w v.0).registers digest digest 8 (λ i low. kept v.0 (digest + i) (names v.0 (digest + i) (digest_in p v x.at s.at i low)))
          ∙ s.digest
          ∙ ap (λ (l : List ℕ). digest_of l n) (sym (words_alike (w' p.0).registers (w p.0).registers nonce nonce 8 (λ i low. kept p.0 (nonce + i) (names p.0 (nonce + i) (nonce_in p v x.at s.at i low)))));
    }

still_there : (p : Proto) → has_back_end p ≡ true → (w w' : Hosts) (x : Parts) (c : Content) → stands w p x c → ((h r : ℕ) → Names x h r → (w' h).registers r ≡ (w h).registers r) → stands w' p x c
still_there p e w w' x c s kept = of_cells p e w' x c (still_cells w w' p x (words_of c) (cells_of p e w x c s) kept)

pub still : (w w' : Hosts) (p : Proto) (x : Parts) (c : Content) → stands w p x c → ((h r : ℕ) → Names x h r → (w' h).registers r ≡ (w h).registers r) → stands w' p x c
still w w' (Local h) x c s kept = still_there (Local h) refl w w' x c s kept
still w w' (Rep set) x c s kept = still_there (Rep set) refl w w' x c s kept
still w w' (Commit p v) x (Word n) s kept = still_bound w w' p v x n s kept
still w w' (Commit p v) x (Cells ns) s kept = absurd s
still w w' (Add a b) x c s kept = still_there (Add a b) refl w w' x c s kept
still w w' (Xor a b) x c s kept = still_there (Xor a b) refl w w' x c s kept

-- ---- the register of a host's cell

differ_of : (a b : ℕ) → nat_eq a b ≡ false → a ≢ b
differ_of a b e f = grind (arith, rules)

pub register_cell : (i : ℕ) (x : Places) (h : ℕ) → IsHost (hosts_of x) h → register_of (cell i x) h ≡ register ((register_of x h).0 + i)
register_cell i [] h is = absurd is
register_cell i (q ∷ x) h is = at (register_cell i x h) (nat_eq h q.0.0) refl is
  where
    at : (IsHost (hosts_of x) h → register_of (cell i x) h ≡ register ((register_of x h).0 + i)) → (b : Bool) → nat_eq h q.0.0 ≡ b → IsHost (hosts_of (q ∷ x)) h
        → (if b then register (q.1.0 + i) else register_of (cell i x) h) ≡ register ((if b then q.1 else register_of x h).0 + i)
    at again true e is = refl
    at again false e (inl f) = absurd (differ_of h q.0.0 e f)
    at again false e (inr j) = again j
