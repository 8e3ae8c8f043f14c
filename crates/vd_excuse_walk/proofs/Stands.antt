-- A host in a run, as lists and as functions.
use Rattle.std.proofs.Common.{◌≡◌, ◌⊎◌, ℕ, zero, suc, ◌≤◌, Bool, true, false, if◌then◌else◌, nat_eq, List, [], ◌∷◌, length, refl, sym, ap, ◌∙◌, inl, inr, arith}
use Rattle.std.specs.Prelude.{Option, slice_get, slice_index, unwrap_or}
use Rattle.std.proofs.lemmas.Bool.{eq-eqb, ne_eqb}
use Rattle.std.proofs.lemmas.Bool.Decides.{eqb_tells, leb_tells, nat_tests}
use Rattle.std.proofs.lemmas.Option.{slice_get_past}
use Rattle.vd_tape.specs.Identities.{zero_triple, zero_pair}
use Rattle.vd_execution.specs.declared.instructions.Action.{Action}
use Rattle.vd_execution.specs.declared.instructions.Action.TheVariants as action
use Rattle.vd_execution.specs.Registers as registers
use Rattle.vd_execution.specs.Step.{Source, Inputs, OwnWords, Triples, BitTriples, Pairs, Cursors, Nothing, Unequal, need_of_action, advanced, one_further}
use Rattle.vd_execution.specs.Joint.{Host, supplied, acted}
use Rattle.vd_excuse_runs.specs.declared.side.Side.{Side}
use Rattle.vd_excuse_runs.specs.declared.side.Taken.{Taken}
use Rattle.vd_excuse_runs.specs.Sides.{further, triple_words, pair_words, words_taken, taken_after, performed}
use Rattle.vd_excuse_walk.specs.Following.{placed, Counts, Stands}
use Rattle.vd_excuse_walk.specs.Supplies.{Lists, lists_of, supplies}
use Rattle.vd_excuse_walk.proofs.Held.{held_stored}

-- ---- a place that stays one past the end

further_placed : (n c i : ℕ) → i ≡ placed c n → further n i ≡ placed (suc c) n
further_placed n c i e = grind (arith, nat_tests)

get_at : {X : Type 0} (xs : List X) (c i : ℕ) → (i ≡ c) ⊎ ((length xs ≤ i) × (length xs ≤ c)) → slice_get xs i ≡ slice_get xs c
get_at xs c i (inl e) = ap (slice_get xs) e
get_at xs c i (inr e) = slice_get_past xs i e.0 ∙ sym (slice_get_past xs c e.1)

place_cases : (n c i : ℕ) → i ≡ placed c n → (i ≡ c) ⊎ ((n ≤ i) × (n ≤ c))
place_cases n c i e =
    elim (leb_tells c n) [
      | inl p ↦ inl (let h = p.1 in omega (arith, h, e))
      | inr p ↦ inr (let h = p.1 in (omega (arith, h, e), omega (arith, h, e)))
    ]

get_placed : {X : Type 0} (xs : List X) (c i : ℕ) → i ≡ placed c (length xs) → slice_get xs i ≡ slice_get xs c
get_placed xs c i e = get_at xs c i (place_cases (length xs) c i e)

-- a word of a list, by the element that is there
pub word_or_zero : (xs : List ℕ) (i : ℕ) → slice_index xs i ≡ unwrap_or (slice_get xs i) 0
word_or_zero [] zero = refl
word_or_zero [] (suc i) = refl
word_or_zero (x ∷ xs) zero = refl
word_or_zero (x ∷ xs) (suc i) = word_or_zero xs i

word_placed : (xs : List ℕ) (c i : ℕ) → i ≡ placed c (length xs) → slice_index xs i ≡ slice_index xs c
word_placed xs c i e = word_or_zero xs i ∙ ap (λ (o : Option ℕ). unwrap_or o 0) (get_placed xs c i e) ∙ sym (word_or_zero xs c)

-- ---- the words that an action takes

if_shared : {X : Type 0} (b : Bool) (x y z : X) → x ≡ y → (if b then x else z) ≡ (if b then y else z)
if_shared true x y z e = e
if_shared false x y z e = refl

if_not : {X : Type 0} (b : Bool) (x y z : X) → b ≡ false → (if b then x else z) ≡ (if b then y else z)
if_not true x y z e = absurd cc
if_not false x y z e = refl

-- the item at a place of those that are shared with the peer, by the cursor of whom it is asked of
pub shared_is : {X : Type 0} (p peer : ℕ) (xs : List X) (none : X) (i : ℕ) (cursor : ℕ → ℕ) → i ≡ placed (cursor peer) (length xs)
    → (if nat_eq p peer then unwrap_or (slice_get xs i) none else none) ≡ (if nat_eq p peer then unwrap_or (slice_get xs (cursor p)) none else none)
shared_is p peer xs none i cursor is =
    elim (eqb_tells p peer) [
      | inl e ↦ if_shared (nat_eq p peer) _ _ none (ap (λ o. unwrap_or o none) (get_placed xs (cursor p) i (is ∙ ap (λ q. placed (cursor q) (length xs)) (sym e.1))))
      | inr e ↦ if_not (nat_eq p peer) _ _ none e.0
    ]

same_either : (b : Bool) (items : Source → ℕ → List ℕ) (c : Cursors) (x y : ℕ) → [] ≡ supplied items c (if b then Nothing else Unequal x y)
same_either true items c x y = refl
same_either false items c x y = refl

words_are : (s : Side) (c : Cursors) (f : registers.Registers) (a : Action) → Counts (lists_of s) s.taken c → words_taken s a ≡ supplied (supplies (lists_of s)) c (need_of_action f a)
words_are s c f (action.Const r k) t = refl
words_are s c f (action.Copy r x) t = refl
words_are s c f (action.Apply o r x y) t = refl
words_are s c f (action.Shl r x k) t = refl
words_are s c f (action.Shr r x k) t = refl
words_are s c f (action.Mux r g x y) t = refl
words_are s c f (action.Own r) t = ap (λ (w : ℕ). w ∷ []) (word_placed s.own (c OwnWords) s.taken.own t.own)
words_are s c f (action.Triple p x y z) t = ap triple_words (shared_is p.0 s.peer.0 s.triples zero_triple s.taken.triples (λ q. c (Triples q)) t.triples)
words_are s c f (action.Bits p x y z) t = ap triple_words (shared_is p.0 s.peer.0 s.bits zero_triple s.taken.bits (λ q. c (BitTriples q)) t.bits)
words_are s c f (action.Pair p x y) t = ap pair_words (shared_is p.0 s.peer.0 s.pairs zero_pair s.taken.pairs (λ q. c (Pairs q)) t.pairs)
words_are s c f (action.Input r) t = ap (λ (w : ℕ). w ∷ []) (word_placed s.inputs (c Inputs) s.taken.inputs t.inputs)
words_are s c f (action.Print r) t = refl
words_are s c f (action.Hash d n v) t = refl
words_are s c f (action.Same x y) t = same_either (nat_eq (f x.0) (f y.0)) (supplies (lists_of s)) c (f x.0) (f y.0)
words_are s c f (action.Zero r count) t = refl
words_are s c f (action.Get r x count i) t = refl
words_are s c f (action.Put x count i v) t = refl

-- ---- how far it is then

flip : (p q : ℕ) → nat_eq p q ≡ nat_eq q p
flip p q =
    elim (eqb_tells p q) [
      | inl e ↦ e.0 ∙ sym (eq-eqb q p (sym e.1))
      | inr e ↦ e.0 ∙ sym (ne_eqb q p (λ x. e.1 (sym x)))
    ]

on : (n c d i : ℕ) → i ≡ placed c n → d ≡ c → i ≡ placed d n
on n c d i e f = e ∙ ap (λ x. placed x n) (sym f)

one_on : (n c d i : ℕ) → i ≡ placed c n → d ≡ suc c → further n i ≡ placed d n
one_on n c d i e f = further_placed n c i e ∙ ap (λ x. placed x n) (sym f)

after_triples : (s : Side) (c d : Cursors) (b b' : Bool) → b ≡ b' → d Inputs ≡ c Inputs → d OwnWords ≡ c OwnWords
    → d (Triples s.peer.0) ≡ (if b' then suc (c (Triples s.peer.0)) else c (Triples s.peer.0)) → d (BitTriples s.peer.0) ≡ c (BitTriples s.peer.0) → d (Pairs s.peer.0) ≡ c (Pairs s.peer.0)
    → Counts (lists_of s) s.taken c → Counts (lists_of s) (if b then record s.taken { triples = further (length s.triples) s.taken.triples } else s.taken) d
after_triples s c d true true same e1 e2 e3 e4 e5 t =
    record { inputs = on _ _ _ _ t.inputs e1; own = on _ _ _ _ t.own e2; triples = one_on _ _ _ _ t.triples e3; bits = on _ _ _ _ t.bits e4; pairs = on _ _ _ _ t.pairs e5 }
after_triples s c d false false same e1 e2 e3 e4 e5 t =
    record { inputs = on _ _ _ _ t.inputs e1; own = on _ _ _ _ t.own e2; triples = on _ _ _ _ t.triples e3; bits = on _ _ _ _ t.bits e4; pairs = on _ _ _ _ t.pairs e5 }
after_triples s c d true false same e1 e2 e3 e4 e5 t = absurd cc
after_triples s c d false true same e1 e2 e3 e4 e5 t = absurd cc

after_bits : (s : Side) (c d : Cursors) (b b' : Bool) → b ≡ b' → d Inputs ≡ c Inputs → d OwnWords ≡ c OwnWords
    → d (Triples s.peer.0) ≡ c (Triples s.peer.0) → d (BitTriples s.peer.0) ≡ (if b' then suc (c (BitTriples s.peer.0)) else c (BitTriples s.peer.0)) → d (Pairs s.peer.0) ≡ c (Pairs s.peer.0)
    → Counts (lists_of s) s.taken c → Counts (lists_of s) (if b then record s.taken { bits = further (length s.bits) s.taken.bits } else s.taken) d
after_bits s c d true true same e1 e2 e3 e4 e5 t =
    record { inputs = on _ _ _ _ t.inputs e1; own = on _ _ _ _ t.own e2; triples = on _ _ _ _ t.triples e3; bits = one_on _ _ _ _ t.bits e4; pairs = on _ _ _ _ t.pairs e5 }
after_bits s c d false false same e1 e2 e3 e4 e5 t =
    record { inputs = on _ _ _ _ t.inputs e1; own = on _ _ _ _ t.own e2; triples = on _ _ _ _ t.triples e3; bits = on _ _ _ _ t.bits e4; pairs = on _ _ _ _ t.pairs e5 }
after_bits s c d true false same e1 e2 e3 e4 e5 t = absurd cc
after_bits s c d false true same e1 e2 e3 e4 e5 t = absurd cc

after_pairs : (s : Side) (c d : Cursors) (b b' : Bool) → b ≡ b' → d Inputs ≡ c Inputs → d OwnWords ≡ c OwnWords
    → d (Triples s.peer.0) ≡ c (Triples s.peer.0) → d (BitTriples s.peer.0) ≡ c (BitTriples s.peer.0) → d (Pairs s.peer.0) ≡ (if b' then suc (c (Pairs s.peer.0)) else c (Pairs s.peer.0))
    → Counts (lists_of s) s.taken c → Counts (lists_of s) (if b then record s.taken { pairs = further (length s.pairs) s.taken.pairs } else s.taken) d
after_pairs s c d true true same e1 e2 e3 e4 e5 t =
    record { inputs = on _ _ _ _ t.inputs e1; own = on _ _ _ _ t.own e2; triples = on _ _ _ _ t.triples e3; bits = on _ _ _ _ t.bits e4; pairs = one_on _ _ _ _ t.pairs e5 }
after_pairs s c d false false same e1 e2 e3 e4 e5 t =
    record { inputs = on _ _ _ _ t.inputs e1; own = on _ _ _ _ t.own e2; triples = on _ _ _ _ t.triples e3; bits = on _ _ _ _ t.bits e4; pairs = on _ _ _ _ t.pairs e5 }
after_pairs s c d true false same e1 e2 e3 e4 e5 t = absurd cc
after_pairs s c d false true same e1 e2 e3 e4 e5 t = absurd cc

unmoved : (l : Lists) (t : Taken) (c : Cursors) (b : Bool) (x y : ℕ) → Counts l t c → Counts l t (advanced c (if b then Nothing else Unequal x y))
unmoved l t c true x y is = is
unmoved l t c false x y is = is

counts_on : (s : Side) (c : Cursors) (f : registers.Registers) (a : Action) → Counts (lists_of s) s.taken c → Counts (lists_of s) (taken_after s a) (advanced c (need_of_action f a))
counts_on s c f (action.Const r k) t = t
counts_on s c f (action.Copy r x) t = t
counts_on s c f (action.Apply o r x y) t = t
counts_on s c f (action.Shl r x k) t = t
counts_on s c f (action.Shr r x k) t = t
counts_on s c f (action.Mux r g x y) t = t
counts_on s c f (action.Own r) t = record { inputs = t.inputs; own = further_placed _ _ _ t.own; triples = t.triples; bits = t.bits; pairs = t.pairs }
counts_on s c f (action.Triple p x y z) t = after_triples s c (one_further c (Triples p.0)) (nat_eq p.0 s.peer.0) (nat_eq s.peer.0 p.0) (flip p.0 s.peer.0) refl refl refl refl refl t
counts_on s c f (action.Bits p x y z) t = after_bits s c (one_further c (BitTriples p.0)) (nat_eq p.0 s.peer.0) (nat_eq s.peer.0 p.0) (flip p.0 s.peer.0) refl refl refl refl refl t
counts_on s c f (action.Pair p x y) t = after_pairs s c (one_further c (Pairs p.0)) (nat_eq p.0 s.peer.0) (nat_eq s.peer.0 p.0) (flip p.0 s.peer.0) refl refl refl refl refl t
counts_on s c f (action.Input r) t = record { inputs = further_placed _ _ _ t.inputs; own = t.own; triples = t.triples; bits = t.bits; pairs = t.pairs }
counts_on s c f (action.Print r) t = t
counts_on s c f (action.Hash d n v) t = t
counts_on s c f (action.Same x y) t = unmoved (lists_of s) s.taken c (nat_eq (f x.0) (f y.0)) (f x.0) (f y.0) t
counts_on s c f (action.Zero r count) t = t
counts_on s c f (action.Get r x count i) t = t
counts_on s c f (action.Put x count i v) t = t

-- ---- a host acts by itself, on items that are those of its lists

pub stands_on : (s : Side) (w : Host) (items : Source → ℕ → List ℕ) (a : Action) → Stands s w
    → supplied items w.cursors (need_of_action w.registers a) ≡ supplied (supplies (lists_of s)) w.cursors (need_of_action w.registers a) → Stands (performed a s) (acted items a w)
stands_on s w items a is reads = record {
  registers =
      held_stored s.registers a (words_taken s a)
      ∙ ap (λ f. registers.written f a (words_taken s a)) is.registers
      ∙ ap (registers.written w.registers a) (words_are s w.cursors w.registers a is.taken ∙ sym reads);
  taken = counts_on s w.cursors w.registers a is.taken;
}
