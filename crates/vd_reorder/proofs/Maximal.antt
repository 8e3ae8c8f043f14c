-- On a stream a host goes one way, until it is held up or has ended.
use Rattle.std.proofs.Common.{◌≡◌, ◌⊎◌, inl, inr, ℕ, zero, suc, ◌≤◌, nat_eq, List, [], ◌∷◌, length, Option, Some, None, Bool, true, false, if◌then◌else◌, refl, sym, ap, ◌∙◌, subst, arith}
use Rattle.std.proofs.lemmas.Bool.Decides.{eqb_tells}
use Rattle.std.specs.Prelude.{slice_get}
use Rattle.vd_execution.specs.declared.instructions.Action.{Action}
use Rattle.vd_execution.specs.declared.instructions.Action.TheVariants as action
use Rattle.vd_execution.specs.Registers.{Registers}
use Rattle.vd_execution.specs.Code.{Code, Finished, Then, Send, Recv, Choose, Repeat, weight}
use Rattle.vd_execution.specs.Step.{Source, Cursors, Need, Nothing, Item, Packet, Unequal, Ended, of_length, need, need_of, need_of_action}
use Rattle.vd_execution.specs.World.{Local, Tape, moved_on, endless}
use Rattle.vd_execution.specs.Histories.{GetsFor, Goes, gone, TakesSent, IsLinked}
use Rattle.vd_reorder.specs.Hastening.{at, IsHastened}
use Rattle.vd_reorder.specs.Ahead.{IsHeldUpAt, IsHeldUp, IsHeldUpAlike}
use Rattle.vd_reorder.proofs.Falling.{moved_falls}
use Rattle.vd_reorder.proofs.Later.{never_later}
use Rattle.vd_reorder.proofs.HeldUp.{held_alike}

-- ---- what needs no instruction has ended

agree_or_not : (b : Bool) (x y : ℕ) → (if b then Nothing else Unequal x y) ≡ Ended → ⊥
agree_or_not true x y e = absurd cc
agree_or_not false x y e = absurd cc

action_needs : (f : Registers) (a : Action) → need_of_action f a ≡ Ended → ⊥
action_needs f (action.Const r k) e = absurd cc
action_needs f (action.Copy r x) e = absurd cc
action_needs f (action.Apply o r x y) e = absurd cc
action_needs f (action.Shl r x k) e = absurd cc
action_needs f (action.Shr r x k) e = absurd cc
action_needs f (action.Mux r c x y) e = absurd cc
action_needs f (action.Own r) e = absurd cc
action_needs f (action.Triple p a b c) e = absurd cc
action_needs f (action.Bits p a b c) e = absurd cc
action_needs f (action.Pair p s x) e = absurd cc
action_needs f (action.Input r) e = absurd cc
action_needs f (action.Print r) e = absurd cc
action_needs f (action.Hash d n v) e = absurd cc
action_needs f (action.Same x y) e = agree_or_not (nat_eq (f x.0) (f y.0)) (f x.0) (f y.0) e
action_needs f (action.Zero r count) e = absurd cc
action_needs f (action.Get r x count i) e = absurd cc
action_needs f (action.Put x count i s) e = absurd cc

pub code_needs : (f : Registers) (c : Code) → need_of f c ≡ Ended → c ≡ Finished
code_needs f Finished e = refl
code_needs f (Then a c) e = absurd (action_needs f a e)
code_needs f (Send p rs c) e = absurd cc
code_needs f (Recv p rs c) e = absurd cc
code_needs f (Choose g first other c) e = absurd cc
code_needs f (Repeat r t n body c) e = absurd cc

-- ---- one way

-- held up, or at its end
abbrev pub Rests : (ℕ → List (List ℕ)) → Local → Type 0
Rests stream l = IsHeldUp stream l ⊎ (need l.state ≡ Ended)

of_this : (n : ℕ) (zs : List ℕ) → length zs ≡ n → of_length n (Some zs) ≡ Some zs
of_this n zs e = elim (eqb_tells (length zs) n) [ inl p ↦ ap (λ b. if b then Some zs else None) p.0 | inr p ↦ absurd (p.1 e) ]

goes_by : (items : Source → ℕ → List ℕ) (stream : ℕ → List (List ℕ)) (l : Local) (c : Cursors) (n : Need) (xs : List ℕ) → GetsFor (λ s i. Some (items s i)) c n xs → TakesSent stream l n xs
    → IsHeldUpAt stream l n → ⊥
goes_by items stream l c Nothing xs g k held = held
goes_by items stream l c (Item s) xs g k held = held
goes_by items stream l c (Packet p n) xs g k held =
    let none : Some xs ≡ None = sym (of_this n xs g) ∙ ap (of_length n) (sym k) ∙ held in
    absurd cc
goes_by items stream l c (Unequal x y) xs g k held = g
goes_by items stream l c Ended xs g k held = g

not_ended : (items : Source → ℕ → List ℕ) (c : Cursors) (n : Need) (xs : List ℕ) → GetsFor (λ s i. Some (items s i)) c n xs → n ≡ Ended → ⊥
not_ended items c n xs g is = subst (λ m. GetsFor (λ s i. Some (items s i)) c m xs) is g

goes_on : (t : Tape) (h : ℕ) (stream : ℕ → List (List ℕ)) (l : Local) (xs : List ℕ) → GetsFor (endless t h) l.state.cursors (need l.state) xs → TakesSent stream l (need l.state) xs
    → Rests stream l → ⊥
goes_on t h stream l xs g k rests =
    elim rests [
      | inl held ↦ goes_by (t h) stream l l.state.cursors (need l.state) xs g k held
      | inr over ↦ not_ended (t h) l.state.cursors (need l.state) xs g over
    ]

same_words : (items : Source → ℕ → List ℕ) (stream : ℕ → List (List ℕ)) (l : Local) (c : Cursors) (n : Need) (xs ys : List ℕ) → GetsFor (λ s i. Some (items s i)) c n xs → TakesSent stream l n xs
    → GetsFor (λ s i. Some (items s i)) c n ys → TakesSent stream l n ys → xs ≡ ys
same_words items stream l c Nothing xs ys g k f m = g ∙ sym f
same_words items stream l c (Item s) xs ys g k f m = let e : Some xs ≡ Some ys = sym g ∙ f in cc
same_words items stream l c (Packet p n) xs ys g k f m = let e : Some xs ≡ Some ys = sym k ∙ m in cc
same_words items stream l c (Unequal x y) xs ys g k f m = absurd g
same_words items stream l c Ended xs ys g k f m = absurd g

pub one_way : (t : Tape) (h : ℕ) (stream : ℕ → List (List ℕ)) (l : Local) (a b : List (List ℕ)) → Goes (endless t) h l a → IsLinked stream l a → Rests stream (gone l a)
    → Goes (endless t) h l b → IsLinked stream l b → Rests stream (gone l b) → gone l a ≡ gone l b
one_way t h stream l [] [] ga ka ra gb kb rb = refl
one_way t h stream l [] (ys ∷ b) ga ka ra gb kb rb = absurd (goes_on t h stream l ys gb.0 kb.0 ra)
one_way t h stream l (xs ∷ a) [] ga ka ra gb kb rb = absurd (goes_on t h stream l xs ga.0 ka.0 rb)
one_way t h stream l (xs ∷ a) (ys ∷ b) ga ka ra gb kb rb =
    let same : ys ≡ xs = same_words (t h) stream l l.state.cursors (need l.state) ys xs gb.0 kb.0 ga.0 ka.0 in
    one_way t h stream (moved_on l xs) a b ga.1 ka.1 ra
    (subst (λ zs. Goes (endless t) h (moved_on l zs) b) same gb.1) (subst (λ zs. IsLinked stream (moved_on l zs) b) same kb.1)
    (subst (λ zs. Rests stream (gone (moved_on l zs) b)) same rb)
    ∙ ap (λ zs. gone (moved_on l zs) b) (sym same)

-- ---- to its end

pub record Whole (t : Tape) (h : ℕ) (stream : ℕ → List (List ℕ)) (l : Local) : Type 0 where
  pub words : List (List ℕ)
  pub goes : Goes (endless t) h l words
  pub linked : IsLinked stream l words
  pub rests : Rests stream (gone l words)

-- what a host goes on with next, or that it rests
record Next (t : Tape) (h : ℕ) (stream : ℕ → List (List ℕ)) (l : Local) (n : Need) : Type 0 where
  words : List ℕ
  gets : GetsFor (endless t h) l.state.cursors n words
  takes : TakesSent stream l n words

next_packet : (t : Tape) (h : ℕ) (stream : ℕ → List (List ℕ)) (l : Local) (p n : ℕ) (o : Option (List ℕ)) → slice_get (stream p) (l.taken p) ≡ o
    → Next t h stream l (Packet p n) ⊎ (of_length n (slice_get (stream p) (l.taken p)) ≡ None)
next_packet t h stream l p n None is = inr (ap (of_length n) is)
next_packet t h stream l p n (Some zs) is =
    elim (eqb_tells (length zs) n) [
      | inl e ↦ inl (record { words = zs; gets = e.1; takes = is })
      | inr e ↦ inr (ap (of_length n) is ∙ ap (λ b. if b then Some zs else None) e.0)
    ]

next_at : (t : Tape) (h : ℕ) (stream : ℕ → List (List ℕ)) (l : Local) (n : Need) → Next t h stream l n ⊎ (IsHeldUpAt stream l n ⊎ (n ≡ Ended))
next_at t h stream l Nothing = inl (record { words = []; gets = refl; takes = _ })
next_at t h stream l (Item s) = inl (record { words = t h s (l.state.cursors s); gets = refl; takes = _ })
next_at t h stream l (Packet p n) =
    elim (next_packet t h stream l p n (slice_get (stream p) (l.taken p)) refl) [
      | inl next ↦ inl next
      | inr held ↦ inr (inl held)
    ]
next_at t h stream l (Unequal x y) = inr (inl _)
next_at t h stream l Ended = inr (inr refl)

pub whole : (n : ℕ) (t : Tape) (h : ℕ) (stream : ℕ → List (List ℕ)) (l : Local) → suc (weight l.state.pending) ≤ n → Whole t h stream l
whole zero t h stream l le = absurd (omega (arith, le))
whole (suc n) t h stream l le =
    elim (next_at t h stream l (need l.state)) [
      | inl next ↦
          let falls = moved_falls l next.words (not_ended (t h) l.state.cursors (need l.state) next.words next.gets) in
          let r = whole n t h stream (moved_on l next.words) (omega (arith, le, falls)) in
          record { words = next.words ∷ r.words; goes = (next.gets, r.goes); linked = (next.takes, r.linked); rests = r.rests }
      | inr rests ↦ record { words = []; goes = _; linked = _; rests = rests }
    ]

-- ---- what holds up a hastened host

held_before : (t : Tape) (h : ℕ) (stream : ℕ → List (List ℕ)) (l : Local) (c d : Code) (words : List (List ℕ)) → IsHastened c d
    → Goes (endless t) h (at l d) words → IsLinked stream (at l d) words → IsHeldUp stream (gone (at l d) words) → (w : Whole t h stream (at l c))
    → IsHeldUp stream (gone (at l c) w.words) → IsHeldUpAlike t h stream (at l c) (gone (at l d) words)
held_before t h stream l c d words x goes linked held w before =
    let r = held_alike t h stream l c d w.words x w.goes w.linked before in
    let same : gone (at l d) r.words ≡ gone (at l d) words = one_way t h stream (at l d) r.words words r.goes r.linked (inl r.held) goes linked (inl held) in
    record {
      words = w.words;
      goes = w.goes;
      linked = w.linked;
      held = before;
      needs = sym r.needs ∙ ap (λ (k : Local). need k.state) same;
      taken = λ p. sym (r.taken p) ∙ ap (λ (k : Local). k.taken p) same;
    }

held_not_ended : (stream : ℕ → List (List ℕ)) (l : Local) (n : Need) → n ≡ Ended → IsHeldUpAt stream l n → ⊥
held_not_ended stream l n is held = subst (IsHeldUpAt stream l) is held

ended_before : (t : Tape) (h : ℕ) (stream : ℕ → List (List ℕ)) (l : Local) (c d : Code) (words : List (List ℕ)) → IsHastened c d
    → Goes (endless t) h (at l d) words → IsLinked stream (at l d) words → IsHeldUp stream (gone (at l d) words) → (w : Whole t h stream (at l c))
    → need (gone (at l c) w.words).state ≡ Ended → ⊥
ended_before t h stream l c d words x goes linked held w over =
    let end : Local = gone (at l c) w.words in
    let r = never_later t h stream l c d w.words x w.goes w.linked in
    let there : gone (at l d) r.words ≡ end = r.whole (code_needs end.state.registers end.state.pending over) in
    let ended : need (gone (at l d) r.words).state ≡ Ended = ap (λ (k : Local). need k.state) there ∙ over in
    let same : gone (at l d) r.words ≡ gone (at l d) words = one_way t h stream (at l d) r.words words r.goes r.linked (inr ended) goes linked (inl held) in
    held_not_ended stream (gone (at l d) words) (need (gone (at l d) words).state) (ap (λ (k : Local). need k.state) (sym same) ∙ ended) held

pub no_new_fault : (t : Tape) (h : ℕ) (stream : ℕ → List (List ℕ)) (l : Local) (c d : Code) (words : List (List ℕ)) → IsHastened c d
    → Goes (endless t) h (at l d) words → IsLinked stream (at l d) words → IsHeldUp stream (gone (at l d) words)
    → IsHeldUpAlike t h stream (at l c) (gone (at l d) words)
no_new_fault t h stream l c d words x goes linked held =
    let w = whole (suc (weight c)) t h stream (at l c) (omega arith) in
    elim w.rests [
      | inl before ↦ held_before t h stream l c d words x goes linked held w before
      | inr over ↦ absurd (ended_before t h stream l c d words x goes linked held w over)
    ]
