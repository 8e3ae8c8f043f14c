-- A host to which the same word comes twice, step by step.
use Rattle.std.proofs.Common.{arith, ◌≡◌, ◌<◌, ◌^◌, ⊎_elim, ℕ, Bool, true, false, nat_eq, if◌then◌else◌, List, [], ◌∷◌, ◌++◌, length, suc, refl, sym, ap, subst, ◌∙◌}
use Rattle.std.proofs.lemmas.List.{append-nil}
use Rattle.std.proofs.lemmas.Bool.Decides.{eqb_tells}
use Rattle.std.specs.Prelude.{◌≢◌}
use Rattle.vd_execution.specs.Registers.{put}
use Rattle.vd_execution.specs.Step.{Cursors, State, Nothing, Unequal, need}
use Rattle.vd_machine.specs.Kept.{at_start}
use Rattle.vd_machine.specs.Wants.{want_of}
use Rattle.vd_machine.specs.declared.lists.Lists.{Lists}
use Rattle.vd_machine.specs.declared.want.Want.{Want}
use Rattle.vd_machine.specs.declared.want.Want.TheVariants as want
use Rattle.vd_link.specs.Frames.{frame, frames}
use Rattle.vd_link.proofs.Front.{one_reading, packet_same}
use Rattle.vd_engine.specs.Drives.{Sessions}
use Rattle.vd_engine.specs.Enough.{HaveCome, IsThere}
use Rattle.vd_engine.specs.Events.{Event, Received, Reached, AtStart, OneMore, IsHeard, received_in, shown}
use Rattle.vd_engine.specs.Hosts.{next_with, seen_at, wants_with}
use Rattle.vd_cmd_host.specs.Instance.{EqualWordsAreEnough, coming_from_first, comparing}

abbrev one_in : Lists → ℕ → State
one_in lists first = next_with lists (at_start comparing) (first ∷ [])

abbrev two_in : Lists → ℕ → ℕ → State
two_in lists first second = next_with lists (one_in lists first) (second ∷ [])

abbrev both : ℕ → ℕ → List Event
both first second = Received 0 (first ∷ []) ∷ Received 0 (second ∷ []) ∷ []

-- where its steps lead
data Stands (lists : Lists) : List Event → State → Type 0 where
  NoneIn : Stands lists [] (at_start comparing)
  OneIn : (first : ℕ) → first < 2 ^ 32 → Stands lists (Received 0 (first ∷ []) ∷ []) (one_in lists first)
  TwoIn : (first second : ℕ) → first < 2 ^ 32 → second < 2 ^ 32 → Stands lists (both first second) (two_in lists first second)
  Over : (first second : ℕ) → Stands lists (both first second) (next_with lists (two_in lists first second) [])

-- what it needs to compare two words
needs : (lists : Lists) (first second : ℕ) → need (two_in lists first second) ≡ (if nat_eq first second then Nothing else Unequal first second)
unfolding put
needs lists first second = refl

equal_so : (lists : Lists) (c : Cursors) (b : Bool) (x y : ℕ) (heard : List ℕ) → IsHeard (want_of lists c (if b then Nothing else Unequal x y)) heard
    → (want_of lists c (if b then Nothing else Unequal x y) ≡ want.Nothing) × (heard ≡ [])
equal_so lists c true x y heard is = (refl, is)
equal_so lists c false x y heard is = absurd is

compares : (lists : Lists) (first second : ℕ) (heard : List ℕ) → IsHeard (wants_with lists (two_in lists first second)) heard
    → (wants_with lists (two_in lists first second) ≡ want.Nothing) × (heard ≡ [])
compares lists first second heard is =
    let state = two_in lists first second in
    let same = ap (want_of lists state.cursors) (needs lists first second) in
    let so = equal_so lists state.cursors (nat_eq first second) first second heard (subst (λ (w : Want). IsHeard w heard) same is) in
    (same ∙ so.0, so.1)

more : (lists : Lists) {events : List Event} {state : State} (heard : List ℕ) → Stands lists events state → IsHeard (wants_with lists state) heard
    → Stands lists (events ++ (received_in (wants_with lists state) heard ++ shown (seen_at state))) (next_with lists state heard)
more lists [] NoneIn is = absurd (let no : 0 ≡ 1 = is.0 in omega (arith, no))
more lists (first ∷ []) NoneIn is = OneIn first is.1.0
more lists (first ∷ second ∷ rest) NoneIn is = absurd (let no : suc (suc (length rest)) ≡ 1 = is.0 in omega (arith, no))
more lists [] (OneIn first fits) is = absurd (let no : 0 ≡ 1 = is.0 in omega (arith, no))
more lists (second ∷ []) (OneIn first fits) is = TwoIn first second fits is.1.0
more lists (second ∷ third ∷ rest) (OneIn first fits) is = absurd (let no : suc (suc (length rest)) ≡ 1 = is.0 in omega (arith, no))
more lists heard (TwoIn first second fits other_fits) is =
    let state = two_in lists first second in
    let so = compares lists first second heard is in
    subst (λ (w : Want). Stands lists (both first second ++ (received_in w heard ++ [])) (next_with lists state heard)) (sym so.0)
    (subst (λ (h : List ℕ). Stands lists (both first second) (next_with lists state h)) (sym so.1) (Over first second))
more lists heard (Over first second) is = absurd is

stands : (lists : Lists) {steps : ℕ} {events : List Event} {state : State} → Reached (wants_with lists) (next_with lists) seen_at (at_start comparing) steps events state → Stands lists events state
stands lists AtStart = NoneIn
stands lists (OneMore steps events machine heard before is) = more lists heard (stands lists before) is

same_there : (lists : Lists) (c : Cursors) (sessions : Sessions) (events : List Event) (b : Bool) (x y : ℕ) → b ≡ true → IsThere sessions events (want_of lists c (if b then Nothing else Unequal x y))
same_there lists c sessions events true x y is = tt
same_there lists c sessions events false x y is = absurd cc

abbrev twice_in : ℕ → List ℕ
twice_in word = frame (word ∷ []) ++ frame (word ∷ [])

module _ (lists : Lists) (word : ℕ) (fits : word < 2 ^ 32) where
  there : {events : List Event} {state : State} → Stands lists events state → HaveCome (coming_from_first (twice_in word)) events → IsThere (coming_from_first (twice_in word)) events (wants_with lists state)
  there NoneIn come = record { words = word ∷ []; rest = frame (word ∷ []); counted = refl; comes = refl }
  there (OneIn first first_fits) come =
      let came : (rest : List ℕ) × (twice_in word ≡ frames ((first ∷ []) ∷ []) ++ rest) = come 0 in
      let whole : twice_in word ≡ frame (first ∷ []) ++ came.0 = came.1 ∙ ap (λ (l : List ℕ). l ++ came.0) (append-nil (frame (first ∷ []))) in
      let same = packet_same (word ∷ []) (first ∷ []) (frame (word ∷ [])) came.0 (fits, tt) (first_fits, tt) whole in
      record {
        words = word ∷ [];
        rest = [];
        counted = refl;
        comes = came.1 ∙ ap (λ (l : List ℕ). frames ((first ∷ []) ∷ []) ++ l) (sym same.1 ∙ sym (append-nil (frame (word ∷ []))));
      }
  there (TwoIn first second first_fits second_fits) come =
      let state = two_in lists first second in
      let came : (rest : List ℕ) × (twice_in word ≡ frames ((first ∷ []) ∷ (second ∷ []) ∷ []) ++ rest) = come 0 in
      let whole : frames ((word ∷ []) ∷ (word ∷ []) ∷ []) ++ [] ≡ frames ((first ∷ []) ∷ (second ∷ []) ∷ []) ++ came.0 =
      append-nil (frames ((word ∷ []) ∷ (word ∷ []) ∷ [])) ∙ ap (λ (l : List ℕ). frame (word ∷ []) ++ l) (append-nil (frame (word ∷ []))) ∙ came.1 in
      let same = one_reading ((word ∷ []) ∷ (word ∷ []) ∷ []) ((first ∷ []) ∷ (second ∷ []) ∷ []) [] came.0 ((fits, tt), ((fits, tt), tt)) ((first_fits, tt), ((second_fits, tt), tt)) refl whole in
      let packets_same = same.0 in
      let left : word ≡ first = cc in
      let right : word ≡ second = cc in
      let equal : nat_eq first second ≡ true = ⊎_elim
      (λ (h : (nat_eq first second ≡ true) × (first ≡ second)). h.0)
      (λ (h : (nat_eq first second ≡ false) × (first ≢ second)). absurd (h.1 (sym left ∙ right)))
      (eqb_tells first second) in
      subst (λ (w : Want). IsThere (coming_from_first (twice_in word)) (both first second) w) (sym (ap (want_of lists state.cursors) (needs lists first second)))
      (same_there lists state.cursors (coming_from_first (twice_in word)) (both first second) (nat_eq first second) first second equal)
  there (Over first second) come = tt

pub equal_words : EqualWordsAreEnough
equal_words lists word fits steps events state reached come = there lists word fits (stands lists reached) come
