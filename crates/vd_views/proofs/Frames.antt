-- A run depends on no other items than it takes.
use Rattle.std.proofs.Common.{◌≡◌, ◌≢◌, ℕ, suc, ◌<◌, ◌≤◌, Bool, true, false, if◌then◌else◌, List, [], ◌∷◌, ◌⊎◌, inl, inr, refl, sym, ap, subst, ◌∙◌, arith}
use Rattle.std.proofs.lemmas.Bool.Decides.{nat_tests}
use Rattle.vd_execution.specs.declared.instructions.Reg.{Reg}
use Rattle.vd_execution.specs.declared.instructions.Act.{Act}
use Rattle.vd_execution.specs.declared.instructions.Act.TheVariants as act
use Rattle.vd_execution.specs.Registers.{put, written}
use Rattle.vd_execution.specs.Step.{Source, Inputs, OwnWords, Triples, BitTriples, Pairs, Cursors, same_source, one_further, Need, Nothing, Item, Packet, Unequal, Ended, need_of_action, advanced, word_printed, words_in}
use Rattle.vd_execution.specs.World.{Tape}
use Rattle.vd_execution.specs.Joint.{Host, Hosts, supplied, with_print, acted, after_do, after_msg, said_to, has_heard}
use Rattle.vd_execution.specs.Acts.{run_act, run_acts}
use Rattle.vd_execution.proofs.Front.{same_or_not, put_same, put_other}
use Rattle.vd_views.specs.Hiding.{TakenAlike}

pub itself : (s : Source) → same_source s s ≡ true
itself Inputs = refl
itself OwnWords = refl
itself (Triples p) = grind (arith, nat_tests)
itself (BitTriples p) = grind (arith, nat_tests)
itself (Pairs p) = grind (arith, nat_tests)

pub further_same : (c : Cursors) (s : Source) → one_further c s s ≡ suc (c s)
further_same c s = ap (λ (b : Bool). if b then suc (c s) else c s) (itself s)

either_more : (b : Bool) (n : ℕ) → n ≤ (if b then suc n else n)
either_more true n = omega arith
either_more false n = omega arith

advanced_grows : (c : Cursors) (n : Need) (s : Source) → c s ≤ advanced c n s
advanced_grows c Nothing s = omega arith
advanced_grows c (Item r) s = either_more (same_source s r) (c s)
advanced_grows c (Packet p n) s = omega arith
advanced_grows c (Unequal x y) s = omega arith
advanced_grows c Ended s = omega arith

pub msg_cursors : (a : ℕ) (said : List Reg) (b : ℕ) (heard : List Reg) (v : Hosts) (g : ℕ) → (after_msg a said b heard v g).cursors ≡ (v g).cursors
msg_cursors a said b heard v g =
    let words : List ℕ = words_in (v a).registers said in
    let first : Hosts = put v a (said_to b words (v a)) in
    let spoken : (g ≡ a) ⊎ (g ≢ a) → (first g).cursors ≡ (v g).cursors = λ d. elim d [
      | inl e ↦ let P : ℕ → Type 0 = λ q. (put v a (said_to b words (v a)) q).cursors ≡ (v q).cursors in
          subst P (sym e) (ap (λ (k : Host). k.cursors) (put_same v a (said_to b words (v a))))
      | inr n ↦ ap (λ (k : Host). k.cursors) (put_other v a (said_to b words (v a)) g n)
    ] in
    elim (same_or_not g b) [
      | inl e ↦ let P : ℕ → Type 0 = λ q. (after_msg a said b heard v q).cursors ≡ (v q).cursors in
          subst P (sym e) (ap (λ (k : Host). k.cursors) (put_same first b (has_heard heard words (v b))))
      | inr n ↦ ap (λ (k : Host). k.cursors) (put_other first b (has_heard heard words (v b)) g n) ∙ spoken (same_or_not g a)
    ]

pub act_grows : (t : Tape) (x : Act) (v : Hosts) (g : ℕ) (s : Source) → (v g).cursors s ≤ (run_act t x v g).cursors s
act_grows t (act.Do h a) v g s =
    elim (same_or_not g h.0) [
      | inl e ↦ let P : ℕ → Type 0 = λ q. (v q).cursors s ≤ (after_do t h.0 a v q).cursors s in
          subst P (sym e) (let Q : Host → Type 0 = λ k. (v h.0).cursors s ≤ k.cursors s in
          subst Q (sym (put_same v h.0 (acted (t h.0) a (v h.0)))) (advanced_grows (v h.0).cursors (need_of_action (v h.0).registers a) s))
      | inr n ↦ let Q : Host → Type 0 = λ k. (v g).cursors s ≤ k.cursors s in
          subst Q (sym (put_other v h.0 (acted (t h.0) a (v h.0)) g n)) (omega arith)
    ]
act_grows t (act.Msg a said b heard) v g s =
    let same : (after_msg a.0 said b.0 heard v g).cursors ≡ (v g).cursors = msg_cursors a.0 said b.0 heard v g in
    let e : (after_msg a.0 said b.0 heard v g).cursors s ≡ (v g).cursors s = ap (λ (c : Cursors). c s) same in
    omega (arith, e)

pub acts_grow : (t : Tape) (xs : List Act) (v : Hosts) (g : ℕ) (s : Source) → (v g).cursors s ≤ (run_acts t xs v g).cursors s
acts_grow t [] v g s = omega arith
acts_grow t (x ∷ xs) v g s =
    let one : (v g).cursors s ≤ (run_act t x v g).cursors s = act_grows t x v g s in
    let more : (run_act t x v g).cursors s ≤ (run_acts t xs (run_act t x v) g).cursors s = acts_grow t xs (run_act t x v) g s in
    omega arith

pub taken_before : (t : Tape) (xs : List Act) (v : Hosts) (u y : Tape) → TakenAlike (run_acts t xs v) u y → TakenAlike v u y
taken_before t xs v u y k g s i less =
    let more : (v g).cursors s ≤ (run_acts t xs v g).cursors s = acts_grow t xs v g s in
    k g s i (omega arith)

supplied_same : (items others : Source → ℕ → List ℕ) (c : Cursors) (n : Need) → ((s : Source) (i : ℕ) → i < advanced c n s → others s i ≡ items s i) → supplied others c n ≡ supplied items c n
supplied_same items others c Nothing e = refl
supplied_same items others c (Item s) e = e s (c s) (let one : one_further c s s ≡ suc (c s) = further_same c s in omega (arith, one))
supplied_same items others c (Packet p n) e = refl
supplied_same items others c (Unequal x y) e = refl
supplied_same items others c Ended e = refl

pub act_frame : (u y : Tape) (x : Act) (v : Hosts) → TakenAlike (run_act u x v) u y → run_act y x v ≡ run_act u x v
act_frame u y (act.Msg a said b heard) v k = refl
act_frame u y (act.Do h a) v k =
    let n : Need = need_of_action (v h.0).registers a in
    let at : (after_do u h.0 a v h.0) ≡ acted (u h.0) a (v h.0) = put_same v h.0 (acted (u h.0) a (v h.0)) in
    let same : supplied (y h.0) (v h.0).cursors n ≡ supplied (u h.0) (v h.0).cursors n =
    supplied_same (u h.0) (y h.0) (v h.0).cursors n
    (λ s i less. k h.0 s i (let P : Host → Type 0 = λ q. i < q.cursors s in subst P (sym at) less)) in
    ap (λ (xs : List ℕ). put v h.0 (record (v h.0) {
      registers = written (v h.0).registers a xs;
      cursors = advanced (v h.0).cursors n;
      printed = with_print (v h.0).printed (word_printed (v h.0).registers a);
    })) same

pub acts_frame : (u y : Tape) (xs : List Act) (v : Hosts) → TakenAlike (run_acts u xs v) u y → run_acts y xs v ≡ run_acts u xs v
acts_frame u y [] v k = refl
acts_frame u y (x ∷ xs) v k =
    ap (λ (z : Hosts). run_acts y xs z) (act_frame u y x v (taken_before u xs (run_act u x v) u y k)) ∙ acts_frame u y xs (run_act u x v) k
