-- The registers of a code are those of its instructions.
use Rattle.std.proofs.Common.{◌≡◌, ℕ, zero, suc, ◌+◌, ◌<◌, ◌≤◌, List, [], ◌∷◌, length, get_or, sym, ap, ◌∙◌, subst, arith, ◌⊎◌, inl, inr}
use Rattle.std.specs.Prelude.{All}
use Rattle.std.proofs.lemmas.List.{get_or_default}
use Rattle.vd_execution.specs.declared.instructions.Reg.{Reg}
use Rattle.vd_execution.specs.declared.instructions.Action.{Action}
use Rattle.vd_execution.specs.declared.instructions.Action.TheVariants as action
use Rattle.vd_execution.specs.declared.instructions.Instr.{Instr}
use Rattle.vd_execution.specs.declared.instructions.Instr.TheVariants as instr
use Rattle.vd_execution.specs.Code.{Code, Finished, Then, Send, Recv, Choose, Repeat}
use Rattle.vd_execution.specs.Text.{text, IsCodeOf}
use Rattle.vd_execution.specs.Ranges.{ActionFits, CodeFits}
use Rattle.vd_execution.proofs.Front.{written_back}
use Rattle.vd_machine.specs.Widths.{InstrFits}

action_more : (n m : ℕ) (a : Action) → n ≤ m → ActionFits n a → ActionFits m a
action_more n m (action.Const r k) h f = omega (arith, h, f)
action_more n m (action.Copy r x) h f = let a = f.0 in let b = f.1 in (omega (arith, h, a), omega (arith, h, b))
action_more n m (action.Apply o r x y) h f = let a = f.0 in let b = f.1 in let c = f.2 in (omega (arith, h, a), omega (arith, h, b), omega (arith, h, c))
action_more n m (action.Shl r x k) h f = let a = f.0 in let b = f.1 in (omega (arith, h, a), omega (arith, h, b))
action_more n m (action.Shr r x k) h f = let a = f.0 in let b = f.1 in (omega (arith, h, a), omega (arith, h, b))
action_more n m (action.Mux r c x y) h f = let a = f.0 in let b = f.1 in let d = f.2 in let e = f.3 in (omega (arith, h, a), omega (arith, h, b), omega (arith, h, d), omega (arith, h, e))
action_more n m (action.Own r) h f = omega (arith, h, f)
action_more n m (action.Triple p x y z) h f = let a = f.0 in let b = f.1 in let c = f.2 in (omega (arith, h, a), omega (arith, h, b), omega (arith, h, c))
action_more n m (action.Bits p x y z) h f = let a = f.0 in let b = f.1 in let c = f.2 in (omega (arith, h, a), omega (arith, h, b), omega (arith, h, c))
action_more n m (action.Pair p s x) h f = let a = f.0 in let b = f.1 in (omega (arith, h, a), omega (arith, h, b))
action_more n m (action.Input r) h f = omega (arith, h, f)
action_more n m (action.Print r) h f = omega (arith, h, f)
action_more n m (action.Hash d k v) h f = let a = f.0 in let b = f.1 in let c = f.2 in (omega (arith, h, a), omega (arith, h, b), omega (arith, h, c))
action_more n m (action.Same x y) h f = let a = f.0 in let b = f.1 in (omega (arith, h, a), omega (arith, h, b))
action_more n m (action.Zero r count) h f = omega (arith, h, f)
action_more n m (action.Get r x count i) h f = let a = f.0 in let b = f.1 in let c = f.2 in (omega (arith, h, a), omega (arith, h, b), omega (arith, h, c))
action_more n m (action.Put x count i s) h f = let a = f.0 in let b = f.1 in let c = f.2 in (omega (arith, h, a), omega (arith, h, b), omega (arith, h, c))

registers_more : (n m : ℕ) (rs : List Reg) → n ≤ m → All (λ r. r.0 < n) rs → All (λ r. r.0 < m) rs
registers_more n m rs h f = λ k d less. let a = f k d less in omega (arith, h, a)

instr_more : (n m : ℕ) (i : Instr) → n ≤ m → InstrFits n i → InstrFits m i
instr_more n m (instr.Do a) h f = action_more n m a h f
instr_more n m (instr.Send p rs) h f = registers_more n m rs h f
instr_more n m (instr.Recv p rs) h f = registers_more n m rs h f
instr_more n m (instr.If g) h f = omega (arith, h, f)
instr_more n m instr.Else h f = tt
instr_more n m (instr.For r count) h f = omega (arith, h, f)
instr_more n m instr.End h f = tt

-- ---- a code and its text

abbrev Each : ℕ → List Instr → Type 0
Each n [] = Unit {0}
Each n (i ∷ is) = InstrFits n i × Each n is

each_of_code : (n : ℕ) (c : Code) (behind : List Instr) → CodeFits n c → Each n behind → Each n (text c behind)
each_of_code n Finished behind f g = g
each_of_code n (Then a c) behind f g = (f.0, each_of_code n c behind f.1 g)
each_of_code n (Send p rs c) behind f g = (f.0, each_of_code n c behind f.1 g)
each_of_code n (Recv p rs c) behind f g = (f.0, each_of_code n c behind f.1 g)
each_of_code n (Choose x first other c) behind f g =
    (f.0, each_of_code n first _ f.1.0 (tt, each_of_code n other _ f.1.1.0 (tt, each_of_code n c behind f.1.1.1 g)))
each_of_code n (Repeat r turn count body c) behind f g = (f.0, each_of_code n body _ f.1.0 (tt, each_of_code n c behind f.1.1 g))

code_of_each : (n : ℕ) (c : Code) (behind : List Instr) → Each n (text c behind) → CodeFits n c × Each n behind
code_of_each n Finished behind e = (tt, e)
code_of_each n (Then a c) behind e = let r = code_of_each n c behind e.1 in ((e.0, r.0), r.1)
code_of_each n (Send p rs c) behind e = let r = code_of_each n c behind e.1 in ((e.0, r.0), r.1)
code_of_each n (Recv p rs c) behind e = let r = code_of_each n c behind e.1 in ((e.0, r.0), r.1)
code_of_each n (Choose x first other c) behind e =
    let p = code_of_each n first (instr.Else ∷ text other (instr.End ∷ text c behind)) e.1 in
    let q = code_of_each n other (instr.End ∷ text c behind) p.1.1 in
    let r = code_of_each n c behind q.1.1 in
    ((e.0, (p.0, (q.0, r.0))), r.1)
code_of_each n (Repeat x turn count body c) behind e =
    let p = code_of_each n body (instr.End ∷ text c behind) e.1 in
    let r = code_of_each n c behind p.1.1 in
    ((e.0, (p.0, r.0)), r.1)

all_of : (n : ℕ) (is : List Instr) → Each n is → All (λ i. InstrFits n i) is
all_of n [] e = λ k d h. absurd (omega (arith, h))
all_of n (i ∷ is) e = at (all_of n is e.1)
  where
    at : All (λ i. InstrFits n i) is → (k : ℕ) (d : Instr) → k < length (i ∷ is) → InstrFits n (get_or (i ∷ is) k d)
    at all zero d h = e.0
    at all (suc k) d h = all k d (omega (arith, h))

each_of : (n : ℕ) (is : List Instr) → All (λ i. InstrFits n i) is → Each n is
each_of n [] all = tt
each_of n (i ∷ is) all = (all 0 i (omega arith), each_of n is (λ k d h. all (suc k) d (omega (arith, h))))

pub text_fits : (n : ℕ) (is : List Instr) (c : Code) → IsCodeOf is c → CodeFits n c → All (λ i. InstrFits n i) is
text_fits n is c e f = subst (λ l. All (λ i. InstrFits n i) l) (written_back is c e) (all_of n (text c []) (each_of_code n c [] f tt))

pub code_fits : (n : ℕ) (is : List Instr) (c : Code) → IsCodeOf is c → All (λ i. InstrFits n i) is → CodeFits n c
code_fits n is c e all = (code_of_each n c [] (each_of n (text c []) (subst (λ l. All (λ i. InstrFits n i) l) (sym (written_back is c e)) all))).0

-- ---- one more

same_or_less : (k i : ℕ) → k < i + 1 → (k < i) ⊎ (k ≡ i)
same_or_less k i h = grind arith

pub one_more : (code : List Instr) (i w v w' : ℕ) (x : Instr) → i < length code → x ≡ get_or code i x → InstrFits v x → w ≤ w' → v ≤ w'
    → ((k : ℕ) (d : Instr) → k < i → k < length code → InstrFits w (get_or code k d)) → (k : ℕ) (d : Instr) → k < i + 1 → k < length code → InstrFits w' (get_or code k d)
one_more code i w v w' x less e f a b so k d h l =
    elim (same_or_less k i h) [
      | inl s ↦ instr_more w w' (get_or code k d) a (so k d s l)
      | inr s ↦ subst (InstrFits w') (e ∙ get_or_default code i x d less ∙ ap (λ j. get_or code j d) (sym s)) (instr_more v w' x b f)
    ]
