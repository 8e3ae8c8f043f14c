-- What a host did in a world that some steps lead to, as its own history.
use Rattle.std.proofs.Common.{◌≡◌, inl, inr, ℕ, zero, suc, nat_eq, if◌then◌else◌, Bool, true, false, List, [], ◌∷◌, length, Option, Some, None, refl, sym, ap, ◌∙◌, subst}
use Rattle.std.proofs.lemmas.Bool.{eqb-true}
use Rattle.std.specs.Prelude.{slice_get}
use Rattle.vd_execution.specs.Registers.{put}
use Rattle.vd_execution.specs.Step.{Cursors, Need, Nothing, Item, Packet, Unequal, Ended, Given, of_length, answer, need}
use Rattle.vd_execution.specs.Schedule.{Steps}
use Rattle.vd_execution.specs.World.{Local, World, Supply, front, given, step, moved_on, IsPrefixOf}
use Rattle.vd_execution.proofs.Front.{same_or_not, put_same, put_other, get_append}
use Rattle.vd_execution.proofs.Front.{Stepped, stepped, grows_along}
use Rattle.vd_execution.specs.Histories.{GetsFor, Goes, gone, TakesSent, IsLinked}

-- what is answered of an awaited length has that length
pub of_that_length : (n : ℕ) (o : Option (List ℕ)) (xs : List ℕ) → of_length n o ≡ Some xs → (o ≡ Some xs) × (length xs ≡ n)
of_that_length n None xs e = absurd (cc e)
of_that_length n (Some zs) xs e = at (nat_eq (length zs) n) refl e
  where
    at : (b : Bool) → nat_eq (length zs) n ≡ b → (if b then Some zs else None) ≡ Some xs → (Some zs ≡ Some xs) × (length xs ≡ n)
    at true is same = let lists : zs ≡ xs = cc same in (same, ap (λ (l : List ℕ). length l) (sym lists) ∙ eqb-true (length zs) n is)
    at false is same = absurd (cc same)

gets_for : (g : Given) (c : Cursors) (x : Need) (xs : List ℕ) → answer g c x ≡ Some xs → GetsFor g.item c x xs
gets_for g c Nothing xs e = cc
gets_for g c (Item source) xs e = e
gets_for g c (Packet p n) xs e = (of_that_length n (g.front p) xs e).1
gets_for g c (Unequal x y) xs e = absurd (cc e)
gets_for g c Ended xs e = absurd (cc e)

get_front : {X : Type 0} (xs ys : List X) (i : ℕ) (x : X) → IsPrefixOf xs ys → slice_get xs i ≡ Some x → slice_get ys i ≡ Some x
get_front xs ys i x p e = ap (λ l. slice_get l i) (sym p.1) ∙ get_append xs p.0 i x e

takes_for : (g : Given) (c : Cursors) (l : Local) (sent : ℕ → List (List ℕ)) (x : Need) (xs : List ℕ) → ((p : ℕ) → g.front p ≡ Some xs → slice_get (sent p) (l.taken p) ≡ Some xs)
    → answer g c x ≡ Some xs → TakesSent sent l x xs
takes_for g c l sent Nothing xs later e = tt
takes_for g c l sent (Item source) xs later e = tt
takes_for g c l sent (Packet p n) xs later e = later p (of_that_length n (g.front p) xs e).0
takes_for g c l sent (Unequal x y) xs later e = tt
takes_for g c l sent Ended xs later e = tt

-- words with which the host goes on from here to where it stands at the end
pub record Past (s : Supply) (v : World) (h : ℕ) (l : Local) : Type 0 where
  pub words : List (List ℕ)
  pub goes : Goes s h l words
  pub ends : gone l words ≡ v h
  pub linked : IsLinked (λ p. (v p).sent h) l words

pub passed : (s : Supply) (n : ℕ) (w v : World) → Steps (step s) n w v → (h : ℕ) → Past s v h (w h)
passed s zero w v t h = record { words = []; goes = tt; ends = ap (λ (x : World). x h) t; linked = tt }
passed s (suc n) w v t h =
    let g : ℕ = t.0 in
    let a : Stepped s t.0 w t.1 = stepped s t.0 w t.1 t.2 in
    let grown = grows_along s (suc n) w v t in
    elim (same_or_not h g) [
      | inl same ↦
          let there : t.1 h ≡ moved_on (w h) a.words =
          ap (λ (x : World). x h) a.made ∙ ap (λ (q : ℕ). put w t.0 (moved_on (w t.0) a.words) q) same ∙ put_same w t.0 (moved_on (w t.0) a.words) ∙ ap (λ (q : ℕ). moved_on (w q) a.words) (sym same) in
          let r = subst (Past s v h) there (passed s n t.1 v t.3 h) in
          let able = subst (λ (q : ℕ). answer (given s w q (w q)) (w q).state.cursors (need (w q).state) ≡ Some a.words) (sym same) a.able in
          record {
            words = a.words ∷ r.words;
            goes = (gets_for (given s w h (w h)) (w h).state.cursors (need (w h).state) a.words able, r.goes);
            ends = r.ends;
            linked = (
              takes_for (given s w h (w h)) (w h).state.cursors (w h) (λ p. (v p).sent h) (need (w h).state) a.words
                  (λ p e. get_front ((w p).sent h) ((v p).sent h) ((w h).taken p) a.words ((grown p).sent h) e) able,
              r.linked,
            );
          }
      | inr other ↦ subst (Past s v h) (ap (λ (x : World). x h) a.made ∙ put_other w t.0 (moved_on (w t.0) a.words) h other) (passed s n t.1 v t.3 h)
    ]
