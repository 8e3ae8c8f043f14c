-- The items of lists.
use Rattle.std.proofs.Common.{◌≡◌, ℕ, zero, suc, ◌+◌, ◌-◌, ◌<◌, Bool, true, false, nat_eq, List, [], ◌∷◌, length, refl, sym, ap, ◌∙◌, arith, get_or, add-one, inl, inr, get_or-set_other, get_or-set_same}
use Rattle.std.specs.Prelude.{slice_index, slice_index_or, slice_get, slice_set, unwrap_or, nat_lt, Some, if◌then◌else◌}
use Rattle.std.proofs.lemmas.Bool.Decides.{eqb_tells}
use mathlib.Core.Path.{fun_ext}
use Rattle.vd_execution.specs.Step.{Source, Inputs, OwnWords, Triples, BitTriples, Pairs, one_further}
use Rattle.vd_machine.specs.declared.lists.Taken.{Taken}
use Rattle.vd_machine.specs.Machines.{cursors_of, list_of}
use Rattle.vd_tape.specs.Validity.{shared_with}

place_there : {X : Type 0} (xs : List (List X)) (k i : ℕ) → i < length (unwrap_or (slice_get xs k) []) → k < length xs
place_there [] k i h = absurd (omega (arith, h))
place_there (x ∷ xs) zero i h = omega arith
place_there (x ∷ xs) (suc k) i h = let f = place_there xs k i h in omega arith

peer_within : {X : Type 0} (xs : List (List X)) (b : Bool) (p i : ℕ) → i < length (unwrap_or (slice_get xs (if b then p else p - 1)) []) → p < length xs + 1
peer_within xs true p i h = let f = place_there xs p i h in omega (arith, f)
peer_within xs false p i h = let f = place_there xs (p - 1) i h in omega (arith, f)

peer_other : {X : Type 0} (xs : List (List X)) (b : Bool) (me p i : ℕ) → i < length (if b then [] else shared_with xs me p) → p < length xs + 1
peer_other xs true me p i h = absurd (omega (arith, h))
peer_other xs false me p i h = peer_within xs (nat_lt p me) p i h

pub peer_there : {X : Type 0} (xs : List (List X)) (me p i : ℕ) → i < length (list_of xs me p) → p < length xs + 1
peer_there xs me p i h = peer_other xs (nat_eq p me) me p i h

pub get_there : {X : Type 0} (xs : List X) (i : ℕ) (d : X) → i < length xs → slice_get xs i ≡ Some (slice_index_or xs i d)
get_there [] i d h = absurd (omega (arith, h))
get_there (x ∷ xs) zero d h = refl
get_there (x ∷ xs) (suc i) d h = get_there xs i d (omega (arith, h))

-- one more item is taken: the cursors of a list
inputs_at : (t : Taken) (s : Source) → cursors_of (record t { inputs = t.inputs + 1 }) s ≡ one_further (cursors_of t) Inputs s
inputs_at t Inputs = add-one t.inputs
inputs_at t OwnWords = refl
inputs_at t (Triples p) = refl
inputs_at t (BitTriples p) = refl
inputs_at t (Pairs p) = refl

pub inputs_further : (t : Taken) → cursors_of (record t { inputs = t.inputs + 1 }) ≡ one_further (cursors_of t) Inputs
inputs_further t = fun_ext (inputs_at t)

own_at : (t : Taken) (s : Source) → cursors_of (record t { own = t.own + 1 }) s ≡ one_further (cursors_of t) OwnWords s
own_at t Inputs = refl
own_at t OwnWords = add-one t.own
own_at t (Triples p) = refl
own_at t (BitTriples p) = refl
own_at t (Pairs p) = refl

pub own_further : (t : Taken) → cursors_of (record t { own = t.own + 1 }) ≡ one_further (cursors_of t) OwnWords
own_further t = fun_ext (own_at t)

set_at : (xs : List ℕ) (p q : ℕ) → p < length xs → slice_index (slice_set xs p (slice_index xs p + 1)) q ≡ (if nat_eq q p then suc (slice_index xs q) else slice_index xs q)
set_at xs p q h =
    elim (eqb_tells q p) [
      | inl e ↦ ap (λ i. get_or (slice_set xs p (slice_index xs p + 1)) i 0) e.1 ∙ get_or-set_same xs p (slice_index xs p + 1) 0 h ∙ add-one (slice_index xs p) ∙ ap (λ i. suc (slice_index xs i)) (sym e.1)
          ∙ sym (ap (λ (b : Bool). if b then suc (slice_index xs q) else slice_index xs q) e.0)
      | inr e ↦ get_or-set_other xs p q (slice_index xs p + 1) 0 e.1 ∙ sym (ap (λ (b : Bool). if b then suc (slice_index xs q) else slice_index xs q) e.0)
    ]

abbrev further : List ℕ → ℕ → List ℕ
further xs p = slice_set xs p (slice_index xs p + 1)

triples_at : (t : Taken) (p : ℕ) → p < length t.triples → (s : Source) → cursors_of (record t { triples = further t.triples p }) s ≡ one_further (cursors_of t) (Triples p) s
triples_at t p h Inputs = refl
triples_at t p h OwnWords = refl
triples_at t p h (Triples q) = set_at t.triples p q h
triples_at t p h (BitTriples q) = refl
triples_at t p h (Pairs q) = refl

pub triples_further : (t : Taken) (p : ℕ) → p < length t.triples → cursors_of (record t { triples = further t.triples p }) ≡ one_further (cursors_of t) (Triples p)
triples_further t p h = fun_ext (triples_at t p h)

bits_at : (t : Taken) (p : ℕ) → p < length t.bits → (s : Source) → cursors_of (record t { bits = further t.bits p }) s ≡ one_further (cursors_of t) (BitTriples p) s
bits_at t p h Inputs = refl
bits_at t p h OwnWords = refl
bits_at t p h (Triples q) = refl
bits_at t p h (BitTriples q) = set_at t.bits p q h
bits_at t p h (Pairs q) = refl

pub bits_further : (t : Taken) (p : ℕ) → p < length t.bits → cursors_of (record t { bits = further t.bits p }) ≡ one_further (cursors_of t) (BitTriples p)
bits_further t p h = fun_ext (bits_at t p h)

pairs_at : (t : Taken) (p : ℕ) → p < length t.pairs → (s : Source) → cursors_of (record t { pairs = further t.pairs p }) s ≡ one_further (cursors_of t) (Pairs p) s
pairs_at t p h Inputs = refl
pairs_at t p h OwnWords = refl
pairs_at t p h (Triples q) = refl
pairs_at t p h (BitTriples q) = refl
pairs_at t p h (Pairs q) = set_at t.pairs p q h

pub pairs_further : (t : Taken) (p : ℕ) → p < length t.pairs → cursors_of (record t { pairs = further t.pairs p }) ≡ one_further (cursors_of t) (Pairs p)
pairs_further t p h = fun_ext (pairs_at t p h)
