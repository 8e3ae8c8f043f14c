-- Registers as a list are registers as a function.
use Rattle.std.proofs.Common.{◌≡◌, ℕ, zero, suc, ◌+◌, Bool, true, false, if◌then◌else◌, nat_lt, List, [], ◌∷◌, refl, sym, ap, ◌∙◌, inl, inr, get_or-set_other, arith}
use Rattle.std.specs.Prelude.{slice_index, slice_index_or, slice_set}
use mathlib.Core.Path.{fun_ext}
use Rattle.std.proofs.Common.{cond}
use Rattle.std.proofs.lemmas.Bool.Decides.{eqb_tells, nat_tests}
use Rattle.vd_execution.specs.declared.instructions.Reg.{Reg}
use Rattle.vd_execution.specs.declared.instructions.Action.{Action}
use Rattle.vd_execution.specs.declared.instructions.Action.TheVariants as action
use Rattle.vd_execution.specs.Registers as registers
use Rattle.vd_semantics.specs.Stores.{put}
use Rattle.vd_excuse_runs.specs.Registers.{put_each, put_from, cleared, stored}

pub put_same : {A : Type 0} (d : A) (s : List A) (k : ℕ) (x : A) → slice_index_or (put d s k x) k d ≡ x
put_same d [] zero x = refl
put_same d [] (suc k) x = put_same d [] k x
put_same d (y ∷ ys) zero x = refl
put_same d (y ∷ ys) (suc k) x = put_same d ys k x

none_at : {A : Type 0} (d : A) (j : ℕ) → slice_index_or [] j d ≡ d
none_at d zero = refl
none_at d (suc j) = refl

pub put_other : {A : Type 0} (d : A) (s : List A) (k j : ℕ) (x : A) → (j ≡ k → ⊥) → slice_index_or (put d s k x) j d ≡ slice_index_or s j d
put_other d [] zero zero x ne = absurd (ne refl)
put_other d [] zero (suc j) x ne = none_at d j
put_other d [] (suc k) zero x ne = refl
put_other d [] (suc k) (suc j) x ne = put_other d [] k j x (λ e. ne (ap suc e)) ∙ none_at d j
put_other d (y ∷ ys) zero zero x ne = absurd (ne refl)
put_other d (y ∷ ys) zero (suc j) x ne = refl
put_other d (y ∷ ys) (suc k) zero x ne = refl
put_other d (y ∷ ys) (suc k) (suc j) x ne = put_other d ys k j x (λ e. ne (ap suc e))

put_at : (xs : List ℕ) (r v j : ℕ) → slice_index (put 0 xs r v) j ≡ registers.put (slice_index xs) r v j
unfolding registers.put
put_at xs r v j =
    elim (eqb_tells j r) [
      | inl p ↦ ap (slice_index (put 0 xs r v)) p.1 ∙ put_same 0 xs r v ∙ sym (ap (λ b. cond b v (slice_index xs j)) p.0)
      | inr p ↦ put_other 0 xs r j v p.1 ∙ sym (ap (λ b. cond b v (slice_index xs j)) p.0)
    ]

pub held_put : (xs : List ℕ) (r v : ℕ) → slice_index (put 0 xs r v) ≡ registers.put (slice_index xs) r v
held_put xs r v = fun_ext (λ j. put_at xs r v j)

pub held_each : (xs : List ℕ) (rs : List Reg) (ws : List ℕ) → slice_index (put_each xs rs ws) ≡ registers.put_each (slice_index xs) rs ws
held_each xs [] ws = refl
held_each xs (r ∷ rs) [] = refl
held_each xs (r ∷ rs) (w ∷ ws) = held_each (put 0 xs r.0 w) rs ws ∙ ap (λ f. registers.put_each f rs ws) (held_put xs r.0 w)

held_from : (xs : List ℕ) (r : ℕ) (ws : List ℕ) → slice_index (put_from xs r ws) ≡ registers.put_from (slice_index xs) r ws
held_from xs r [] = refl
held_from xs r (w ∷ ws) = held_from (put 0 xs r w) (r + 1) ws ∙ ap (λ f. registers.put_from f (r + 1) ws) (held_put xs r w)

-- a register that is set to 0 in its place, or is past the end
zero_there : (xs : List ℕ) (r : ℕ) → slice_index (slice_set xs r 0) r ≡ 0
zero_there [] r = none_at 0 r
zero_there (y ∷ ys) zero = refl
zero_there (y ∷ ys) (suc r) = zero_there ys r

zero_at : (xs : List ℕ) (r j : ℕ) → slice_index (slice_set xs r 0) j ≡ registers.put (slice_index xs) r 0 j
unfolding registers.put
zero_at xs r j =
    elim (eqb_tells j r) [
      | inl p ↦ ap (slice_index (slice_set xs r 0)) p.1 ∙ zero_there xs r ∙ sym (ap (λ b. cond b 0 (slice_index xs j)) p.0)
      | inr p ↦ get_or-set_other xs r j 0 0 p.1 ∙ sym (ap (λ b. cond b 0 (slice_index xs j)) p.0)
    ]

none_zeroed_at : (f : ℕ → ℕ) (r j : ℕ) → f j ≡ registers.zeroed f r 0 j
unfolding registers.zeroed
none_zeroed_at f r j = grind (arith, nat_tests)

more_zeroed_at : (f : ℕ → ℕ) (r n j : ℕ) → registers.zeroed (registers.put f r 0) (r + 1) n j ≡ registers.zeroed f r (suc n) j
unfolding registers.put registers.zeroed
more_zeroed_at f r n j = grind (arith, nat_tests)

held_cleared : (xs : List ℕ) (r n : ℕ) → slice_index (cleared xs r n) ≡ registers.zeroed (slice_index xs) r n
held_cleared xs r zero = fun_ext (λ j. none_zeroed_at (slice_index xs) r j)
held_cleared xs r (suc n) =
    held_cleared (slice_set xs r 0) (r + 1) n
    ∙ ap (λ f. registers.zeroed f (r + 1) n) (fun_ext (λ j. zero_at xs r j))
    ∙ fun_ext (λ j. more_zeroed_at (slice_index xs) r n j)

held_if : (b : Bool) (xs ys : List ℕ) (f g : ℕ → ℕ) → slice_index xs ≡ f → slice_index ys ≡ g → slice_index (if b then xs else ys) ≡ (if b then f else g)
held_if true xs ys f g e h = e
held_if false xs ys f g e h = h

held_three : (xs : List ℕ) (a b c : Reg) (ws : List ℕ) → slice_index (put 0 (put 0 (put 0 xs a.0 (slice_index ws 0)) b.0 (slice_index ws 1)) c.0 (slice_index ws 2))
    ≡ registers.put (registers.put (registers.put (slice_index xs) a.0 (slice_index ws 0)) b.0 (slice_index ws 1)) c.0 (slice_index ws 2)
held_three xs a b c ws =
    held_put (put 0 (put 0 xs a.0 (slice_index ws 0)) b.0 (slice_index ws 1)) c.0 (slice_index ws 2)
    ∙ ap (λ f. registers.put f c.0 (slice_index ws 2)) (held_put (put 0 xs a.0 (slice_index ws 0)) b.0 (slice_index ws 1) ∙ ap (λ f. registers.put f b.0 (slice_index ws 1)) (held_put xs a.0 (slice_index ws 0)))

pub held_stored : (xs : List ℕ) (a : Action) (ws : List ℕ) → slice_index (stored xs a ws) ≡ registers.written (slice_index xs) a ws
held_stored xs (action.Const r k) ws = held_put xs r.0 k
held_stored xs (action.Copy r x) ws = held_put xs r.0 _
held_stored xs (action.Apply o r x y) ws = held_put xs r.0 _
held_stored xs (action.Shl r x k) ws = held_put xs r.0 _
held_stored xs (action.Shr r x k) ws = held_put xs r.0 _
held_stored xs (action.Mux r c x y) ws = held_put xs r.0 _
held_stored xs (action.Own r) ws = held_put xs r.0 _
held_stored xs (action.Triple p a b c) ws = held_three xs a b c ws
held_stored xs (action.Bits p a b c) ws = held_three xs a b c ws
held_stored xs (action.Pair p s x) ws =
    held_put (put 0 xs s.0 (slice_index ws 0)) x.0 (slice_index ws 1) ∙ ap (λ f. registers.put f x.0 (slice_index ws 1)) (held_put xs s.0 (slice_index ws 0))
held_stored xs (action.Input r) ws = held_put xs r.0 _
held_stored xs (action.Print r) ws = refl
held_stored xs (action.Hash d n v) ws = held_from xs d.0 (registers.digest_of (registers.words_from (slice_index xs) n.0 8) (slice_index xs v.0))
held_stored xs (action.Same x y) ws = refl
held_stored xs (action.Zero r count) ws = held_cleared xs r.0 count
held_stored xs (action.Get r x count i) ws = held_put xs r.0 _
held_stored xs (action.Put x count i s) ws =
    held_if (nat_lt (slice_index xs i.0) count) (put 0 xs (x.0 + slice_index xs i.0) (slice_index xs s.0)) xs (registers.put (slice_index xs) (x.0 + slice_index xs i.0) (slice_index xs s.0)) (slice_index xs)
    (held_put xs (x.0 + slice_index xs i.0) (slice_index xs s.0)) refl
