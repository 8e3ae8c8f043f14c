-- How many items of a list acts take does not depend on the items.
use Rattle.std.proofs.Common.{◌≡◌, ◌≢◌, ℕ, suc, nat_eq, Bool, true, false, if◌then◌else◌, List, [], ◌∷◌, ◌⊎◌, inl, inr, refl, sym, ap, subst, ◌∙◌}
use Rattle.vd_execution.specs.declared.instructions.Action.{Action}
use Rattle.vd_execution.specs.declared.instructions.Action.TheVariants as action
use Rattle.vd_execution.specs.declared.instructions.Act.{Act}
use Rattle.vd_execution.specs.declared.instructions.Act.TheVariants as act
use Rattle.vd_execution.specs.Registers.{Registers}
use Rattle.vd_execution.specs.Step.{Source, Inputs, OwnWords, Triples, BitTriples, Pairs, Cursors, same_source, Nothing, Unequal, need_of_action, advanced}
use Rattle.vd_execution.specs.World.{Tape}
use Rattle.vd_execution.specs.Joint.{Host, Hosts, acted, after_do}
use Rattle.vd_execution.specs.Acts.{run_act, run_acts}
use Rattle.vd_execution.proofs.Front.{same_or_not, put_same, put_other}
use Rattle.vd_views.proofs.Frames.{msg_cursors}

-- a comparison takes nothing
compared : (b : Bool) (p q : ℕ) (c : Cursors) (s : Source) → advanced c (if b then Nothing else Unequal p q) s ≡ c s
compared true p q c s = refl
compared false p q c s = refl

one_taken : (s r : Source) (m n : ℕ) → m ≡ n → (if same_source s r then suc m else m) ≡ (if same_source s r then suc n else n)
one_taken s r m n e = ap (λ (k : ℕ). if same_source s r then suc k else k) e

need_same : (f k : Registers) (a : Action) (c d : Cursors) (s : Source) → c s ≡ d s → advanced c (need_of_action f a) s ≡ advanced d (need_of_action k a) s
need_same f k (action.Const r n) c d s e = e
need_same f k (action.Copy r x) c d s e = e
need_same f k (action.Apply o r x y) c d s e = e
need_same f k (action.Shl r x n) c d s e = e
need_same f k (action.Shr r x n) c d s e = e
need_same f k (action.Mux r q x y) c d s e = e
need_same f k (action.Own r) c d s e = one_taken s OwnWords (c s) (d s) e
need_same f k (action.Triple p x y z) c d s e = one_taken s (Triples p.0) (c s) (d s) e
need_same f k (action.Bits p x y z) c d s e = one_taken s (BitTriples p.0) (c s) (d s) e
need_same f k (action.Pair p x y) c d s e = one_taken s (Pairs p.0) (c s) (d s) e
need_same f k (action.Input r) c d s e = one_taken s Inputs (c s) (d s) e
need_same f k (action.Print r) c d s e = e
need_same f k (action.Hash q n v) c d s e = e
need_same f k (action.Same x y) c d s e =
    compared (nat_eq (f x.0) (f y.0)) (f x.0) (f y.0) c s ∙ e ∙ sym (compared (nat_eq (k x.0) (k y.0)) (k x.0) (k y.0) d s)
need_same f k (action.Zero r count) c d s e = e
need_same f k (action.Get r x count i) c d s e = e
need_same f k (action.Put x count i y) c d s e = e

-- all hosts have taken equally many items of the list
abbrev pub CountsAlike : Source → Hosts → Hosts → Type 0
CountsAlike s w v = (g : ℕ) → (w g).cursors s ≡ (v g).cursors s

act_counts : (t u : Tape) (x : Act) (s : Source) (w v : Hosts) → CountsAlike s w v → CountsAlike s (run_act t x w) (run_act u x v)
act_counts t u (act.Msg a said b heard) s w v e g =
    ap (λ (c : Cursors). c s) (msg_cursors a.0 said b.0 heard w g) ∙ e g ∙ sym (ap (λ (c : Cursors). c s) (msg_cursors a.0 said b.0 heard v g))
act_counts t u (act.Do h a) s w v e g = at (same_or_not g h.0)
  where
    moved : (acted (t h.0) a (w h.0)).cursors s ≡ (acted (u h.0) a (v h.0)).cursors s
    moved = need_same (w h.0).registers (v h.0).registers a (w h.0).cursors (v h.0).cursors s (e h.0)

    at : (g ≡ h.0) ⊎ (g ≢ h.0) → (after_do t h.0 a w g).cursors s ≡ (after_do u h.0 a v g).cursors s
    at (inl i) =
        let P : ℕ → Type 0 = λ q. (after_do t h.0 a w q).cursors s ≡ (after_do u h.0 a v q).cursors s in
        subst P (sym i)
        (ap (λ (k : Host). k.cursors s) (put_same w h.0 (acted (t h.0) a (w h.0))) ∙ moved ∙ sym (ap (λ (k : Host). k.cursors s) (put_same v h.0 (acted (u h.0) a (v h.0)))))
    at (inr n) =
        ap (λ (k : Host). k.cursors s) (put_other w h.0 (acted (t h.0) a (w h.0)) g n) ∙ e g
        ∙ sym (ap (λ (k : Host). k.cursors s) (put_other v h.0 (acted (u h.0) a (v h.0)) g n))

pub acts_count : (t u : Tape) (xs : List Act) (s : Source) (w v : Hosts) → CountsAlike s w v → CountsAlike s (run_acts t xs w) (run_acts u xs v)
acts_count t u [] s w v e = e
acts_count t u (x ∷ xs) s w v e = acts_count t u xs s (run_act t x w) (run_act u x v) (act_counts t u x s w v e)
