-- The world follows what each host did by itself.
use Rattle.std.proofs.Common.{◌≡◌, ◌⊎◌, inl, inr, ℕ, zero, suc, ◌+◌, List, [], ◌∷◌, ◌++◌, length, Option, Some, None, refl, sym, ap, ◌∙◌, subst, append_assoc, arith}
use mathlib.Core.Path.{fun_ext}
use Rattle.std.specs.Prelude.{slice_get}
use Rattle.vd_execution.specs.Registers.{put}
use Rattle.vd_execution.specs.Step.{Source, Cursors, Need, Nothing, Item, Packet, Unequal, Ended, Given, of_length, answer, need}
use Rattle.vd_execution.specs.Schedule.{Steps, after, counted}
use Rattle.vd_execution.specs.World.{Local, World, Supply, front, given, step, run, effective, moved_on, AllEnded, IsPrefixOf}
use Rattle.vd_execution.specs.Joint.{Joint, started, at_end}
use Rattle.vd_execution.specs.Claims.{RunsWell, IsOnTheWay, reached, last_of, order_of}
use Rattle.vd_execution.proofs.Puts.{same_or_not, put_same, put_other, get_append}
use Rattle.vd_execution.proofs.Diamond.{Stepped, stepped, steps_to, moved_grows, prefix_same}
use Rattle.vd_execution.proofs.Reached.{twin, remaining, ended_needs}
use Rattle.vd_execution.proofs.Rounds.{run_both}
use Rattle.vd_execution.proofs.Compiled.{in_program_order, on_the_way}
use Rattle.vd_execution.specs.Histories.{GetsFor, Gets, Goes, gone, TakesSent, IsLinked, stand, AreHistories}

-- ---- one host

prefix_trans : {X : Type 0} (xs ys zs : List X) → IsPrefixOf xs ys → IsPrefixOf ys zs → IsPrefixOf xs zs
prefix_trans xs ys zs p q = (p.0 ++ q.0, sym (append_assoc xs p.0 q.0) ∙ ap (λ l. l ++ q.0) p.1 ∙ q.1)

-- what a host sent only grows
gone_sent : (l : Local) (words : List (List ℕ)) (h : ℕ) → IsPrefixOf (l.sent h) ((gone l words).sent h)
gone_sent l [] h = prefix_same _ _ refl
gone_sent l (xs ∷ rest) h = prefix_trans _ _ _ ((moved_grows l xs).sent h) (gone_sent (moved_on l xs) rest h)

get_front : {X : Type 0} (xs ys : List X) (i : ℕ) (x : X) → IsPrefixOf xs ys → slice_get xs i ≡ Some x → slice_get ys i ≡ Some x
get_front xs ys i x p e = ap (λ l. slice_get l i) (sym p.1) ∙ get_append xs p.0 i x e

-- the packet at the front, where one of the awaited length was answered
at_front : (n : ℕ) (o : Option (List ℕ)) (ys : List ℕ) → of_length n o ≡ Some ys → (zs : List ℕ) × (o ≡ Some zs)
at_front n None ys e = absurd cc
at_front n (Some zs) ys e = (zs, refl)

of_this : (n : ℕ) (o : Option (List ℕ)) (xs : List ℕ) → length xs ≡ n → o ≡ Some xs → of_length n o ≡ Some xs
of_this n o xs l e = ap (of_length n) e ∙ grind (arith, l)

-- the words with which it went on are those that the world answers
pub able : (g : Given) (c : Cursors) (x : Need) (xs : List ℕ) → GetsFor g.item c x xs → ((p n : ℕ) → x ≡ Packet p n → g.front p ≡ Some xs) → answer g c x ≡ Some xs
able g c Nothing xs e f = ap Some (sym e)
able g c (Item source) xs e f = e
able g c (Packet p n) xs e f = of_this n (g.front p) xs e (f p n refl)
able g c (Unequal x y) xs e f = absurd e
able g c Ended xs e f = absurd e

not_ended : (items : Source → ℕ → Option (List ℕ)) (c : Cursors) (x : Need) (xs : List ℕ) → GetsFor items c x xs → x ≡ Ended → ⊥
not_ended items c x xs e is = subst (λ n. GetsFor items c n xs) is e

pub sent_packet : (sent : ℕ → List (List ℕ)) (l : Local) (x : Need) (xs : List ℕ) (p n : ℕ) → TakesSent sent l x xs → x ≡ Packet p n → slice_get (sent p) (l.taken p) ≡ Some xs
sent_packet sent l x xs p n t is = subst (λ y. TakesSent sent l y xs) is t

-- ---- all hosts on the way: each in the world where it has still to go on with some words

pub record Behind (s : Supply) (end w : World) (left : ℕ → List (List ℕ)) : Type 0 where
  pub goes : (h : ℕ) → Goes s h (w h) (left h)
  pub ends : (h : ℕ) → gone (w h) (left h) ≡ end h
  pub linked : (h : ℕ) → IsLinked (λ p. (end p).sent h) (w h) (left h)

-- a host that can go on as it did
record Next (s : Supply) (w : World) (left : ℕ → List (List ℕ)) : Type 0 where
  host : ℕ
  words : List ℕ
  rest : List (List ℕ)
  is : left host ≡ words ∷ rest
  steps : step s host w ≡ Some (put w host (moved_on (w host) words))

-- what each host still goes on with is kept in this world, where it has something
abbrev Kept : (w v : World) (left : ℕ → List (List ℕ)) → Type 0
Kept w v left = (h : ℕ) (xs : List ℕ) (rest : List (List ℕ)) → left h ≡ xs ∷ rest → v h ≡ w h

front_is : (s : Supply) (end w v : World) (left : ℕ → List (List ℕ)) → Behind s end w left → Kept w v left → (h : ℕ) → v h ≡ w h → (p n : ℕ) (xs ys : List ℕ)
    → slice_get ((end p).sent h) ((w h).taken p) ≡ Some xs → of_length n (front v h (v h) p) ≡ Some ys → (o : List (List ℕ)) → left p ≡ o → front w h (w h) p ≡ Some xs
front_is s end w v left b kept h same p n xs ys sent answered [] is =
    let there : w p ≡ end p = ap (λ r. gone (w p) r) (sym is) ∙ b.ends p in
    ap (λ (l : Local). slice_get (l.sent h) ((w h).taken p)) there ∙ sent
front_is s end w v left b kept h same p n xs ys sent answered (zs ∷ rest) is =
    let f = at_front n (front v h (v h) p) ys answered in
    let here : front w h (w h) p ≡ Some f.0 =
    ap (λ (l : Local). slice_get (l.sent h) ((w h).taken p)) (sym (kept p zs rest is)) ∙ ap (λ (l : Local). slice_get ((v p).sent h) (l.taken p)) (sym same) ∙ f.1 in
    let grown : IsPrefixOf ((w p).sent h) ((end p).sent h) = subst (λ (l : Local). IsPrefixOf ((w p).sent h) (l.sent h)) (b.ends p) (gone_sent (w p) (left p) h) in
    let later : slice_get ((end p).sent h) ((w h).taken p) ≡ Some f.0 = get_front _ _ _ _ grown here in
    here ∙ sym later ∙ sent

goes_at : (s : Supply) (h : ℕ) (l : Local) (words : List (List ℕ)) (xs : List ℕ) (rest : List (List ℕ)) → Goes s h l words → words ≡ xs ∷ rest → Gets s h l xs
goes_at s h l words xs rest g is = (subst (λ r. Goes s h l r) is g).0

linked_at : (sent : ℕ → List (List ℕ)) (l : Local) (words : List (List ℕ)) (xs : List ℕ) (rest : List (List ℕ)) → IsLinked sent l words → words ≡ xs ∷ rest → TakesSent sent l (need l.state) xs
linked_at sent l words xs rest g is = (subst (λ r. IsLinked sent l r) is g).0

packet_answered : (g : Given) (c : Cursors) (x : Need) (p n : ℕ) (ys : List ℕ) → answer g c x ≡ Some ys → x ≡ Packet p n → of_length n (g.front p) ≡ Some ys
packet_answered g c x p n ys e is = subst (λ y. answer g c y ≡ Some ys) is e

next_at : (s : Supply) (end w v u : World) (left : ℕ → List (List ℕ)) → Behind s end w left → Kept w v left → (h : ℕ) → step (twin s) h v ≡ Some u → (xs : List ℕ) (rest : List (List ℕ))
    → left h ≡ xs ∷ rest → Next s w left
next_at s end w v u left b kept h e xs rest is =
    let a = stepped (twin s) h v u e in
    let same = kept h xs rest is in
    let gets = goes_at s h (w h) (left h) xs rest (b.goes h) is in
    let takes = linked_at (λ p. (end p).sent h) (w h) (left h) xs rest (b.linked h) is in
    record {
      host = h;
      words = xs;
      rest = rest;
      is = is;
      steps = steps_to s h w (w h) xs refl (able (given s w h (w h)) (w h).state.cursors (need (w h).state) xs gets
          (λ p n awaited. front_is s end w v left b kept h same p n xs a.words (sent_packet (λ q. (end q).sent h) (w h) (need (w h).state) xs p n takes awaited)
          (packet_answered (given (twin s) v h (v h)) (v h).state.cursors (need (v h).state) p n a.words a.able (ap (λ (l : Local). need l.state) same ∙ awaited)) (left p) refl));
    }

-- a host steps that has nothing left to go on with: all others are kept
kept_on : (s : Supply) (w v u : World) (left : ℕ → List (List ℕ)) → Kept w v left → (h : ℕ) → left h ≡ [] → Stepped s h v u → Kept w u left
kept_on s w v u left kept h none a g xs rest is =
    elim (same_or_not g h) [
      | inl same ↦ let e : left g ≡ [] = ap left same ∙ none in absurd cc
      | inr other ↦ ap (λ (x : World). x g) a.made ∙ put_other v h (moved_on (v h) a.words) g other ∙ kept g xs rest is
    ]

over_at : (s : Supply) (end w v : World) (left : ℕ → List (List ℕ)) → Behind s end w left → Kept w v left → AllEnded v → (h : ℕ) (o : List (List ℕ)) → left h ≡ o → o ≡ []
over_at s end w v left b kept ended h [] is = refl
over_at s end w v left b kept ended h (xs ∷ rest) is =
    let same = kept h xs rest is in
    let gets = goes_at s h (w h) (left h) xs rest (b.goes h) is in
    absurd (not_ended (s h) (w h).state.cursors (need (w h).state) xs gets (ap (λ (l : Local). need l.state) (sym same) ∙ ended_needs (v h) (ended h)))

found : (s : Supply) (end w : World) (left : ℕ → List (List ℕ)) → Behind s end w left → {v : World} → Kept w v left → (h : ℕ) (u : World) → step (twin s) h v ≡ Some u
    → (o : List (List ℕ)) → left h ≡ o → (left h ≡ [] → Next s w left ⊎ ((h : ℕ) → left h ≡ [])) → Next s w left ⊎ ((h : ℕ) → left h ≡ [])
found s end w left b {v = v} kept h u e [] is more = more is
found s end w left b {v = v} kept h u e (xs ∷ rest) is more = inl (next_at s end w v u left b kept h e xs rest is)

-- along the way to the end, the first host that has something left can go on at once
find : (s : Supply) (end w : World) (left : ℕ → List (List ℕ)) → Behind s end w left → (m : ℕ) (v last : World) → Kept w v left → Steps (step (twin s)) m v last → AllEnded last
    → Next s w left ⊎ ((h : ℕ) → left h ≡ [])
find s end w left b zero v last kept t ended = inr (λ h. over_at s end w v left b kept (subst AllEnded (sym t) ended) h (left h) refl)
find s end w left b (suc m) v last kept t ended =
    found s end w left b {v = v} kept t.0 t.1 t.2 (left t.0) refl (λ is. find s end w left b m t.1 last (kept_on (twin s) w v t.1 left kept t.0 is (stepped (twin s) t.0 v t.1 t.2)) t.3 ended)

-- ---- one step further

put_keeps : {A B : Type 0} (P : ℕ → A → B → Type 0) (w : ℕ → A) (left : ℕ → B) (g : ℕ) (k : A) (rest : B) → P g k rest → ((h : ℕ) → P h (w h) (left h)) → (h : ℕ) → P h (put w g k h) (put left g rest h)
put_keeps P w left g k rest here all h =
    elim (same_or_not h g) [
      | inl e ↦ subst (λ q. P q (put w g k q) (put left g rest q)) (sym e) (subst (λ l. P g l (put left g rest g)) (sym (put_same w g k)) (subst (λ r. P g k r) (sym (put_same left g rest)) here))
      | inr n ↦ subst (λ l. P h l (put left g rest h)) (sym (put_other w g k h n)) (subst (λ r. P h (w h) r) (sym (put_other left g rest h n)) (all h))
    ]

further : (s : Supply) (end w : World) (left : ℕ → List (List ℕ)) → Behind s end w left → (n : Next s w left) → Behind s end (put w n.host (moved_on (w n.host) n.words)) (put left n.host n.rest)
further s end w left b n =
    let k = moved_on (w n.host) n.words in
    record {
      goes = put_keeps (λ h l r. Goes s h l r) w left n.host k n.rest (subst (λ r. Goes s n.host (w n.host) r) n.is (b.goes n.host)).1 b.goes;
      ends = put_keeps (λ h l r. gone l r ≡ end h) w left n.host k n.rest (subst (λ r. gone (w n.host) r ≡ end n.host) n.is (b.ends n.host)) b.ends;
      linked = put_keeps (λ h l r. IsLinked (λ p. (end p).sent h) l r) w left n.host k n.rest (subst (λ r. IsLinked (λ p. (end p).sent n.host) (w n.host) r) n.is (b.linked n.host)).1 b.linked;
    }

counted_more : (s : Supply) (b : List ℕ) (g : ℕ) (w u : World) → step s g (run s b w) ≡ Some u → effective s (b ++ g ∷ []) w ≡ suc (effective s b w)
counted_more s [] g w u e = ap (λ o. counted o + 0) e
counted_more s (h ∷ b) g w u e = let i = counted_more s b g (after (step s h w) w) u e in omega arith

run_more : (s : Supply) (b : List ℕ) (g : ℕ) (w u : World) → step s g (run s b w) ≡ Some u → run s (b ++ g ∷ []) w ≡ u
run_more s b g w u e = run_both s b (g ∷ []) w ∙ ap (λ o. after o (run s b w)) e

-- ---- to where all stand

pub follow : (s : Supply) (start end : World) (order : List ℕ) → AllEnded (run (twin s) order start) → (m : ℕ) (b : List ℕ) (left : ℕ → List (List ℕ))
    → effective (twin s) order start ≡ effective s b start + m → Behind s end (run s b start) left → (b : List ℕ) × ((h : ℕ) → run s b start h ≡ end h)
follow s start end order ended zero b left counts behind =
    let r = remaining s start order b ended in
    elim (find s end (run s b start) left behind r.0 (run s b start) (run (twin s) order start) (λ h xs rest is. refl) r.2 ended) [
      | inl n ↦
          let c = counted_more s b n.host start _ n.steps in
          let q = remaining s start order (b ++ n.host ∷ []) ended in
          let e = q.1 in absurd (omega (arith, c, e, counts))
      | inr none ↦ (b, λ h. ap (λ r. gone (run s b start h) r) (sym (none h)) ∙ behind.ends h)
    ]
follow s start end order ended (suc m) b left counts behind =
    let r = remaining s start order b ended in
    elim (find s end (run s b start) left behind r.0 (run s b start) (run (twin s) order start) (λ h xs rest is. refl) r.2 ended) [
      | inl n ↦
          let c = counted_more s b n.host start _ n.steps in
          follow s start end order ended m (b ++ n.host ∷ []) (put left n.host n.rest) (omega (arith, c, counts))
          (subst (λ x. Behind s end x (put left n.host n.rest)) (sym (run_more s b n.host start _ n.steps)) (further s end (run s b start) left behind n))
      | inr none ↦ (b, λ h. ap (λ r. gone (run s b start h) r) (sym (none h)) ∙ behind.ends h)
    ]

pub twin_well : (s : Supply) (j : Joint) → RunsWell s j → RunsWell (twin s) j
twin_well s j well = record { tidy = well.tidy; smooth = well.smooth }

end_ended : (s : Supply) (j : Joint) → AllEnded (at_end (last_of s j))
end_ended s j h = refl

pub order_ended : (s : Supply) (j : Joint) → RunsWell s j → AllEnded (run (twin s) (order_of (twin s) j) (started j))
order_ended s j well = subst AllEnded (sym (in_program_order (twin s) j (twin_well s j well) (λ h source i less none. cc)).0) (end_ended (twin s) j)

at_start : (s : Supply) (j : Joint) (words : ℕ → List (List ℕ)) → AreHistories s j words → Behind s (stand j words) (started j) words
at_start s j words a = record { goes = a.each; ends = λ h. refl; linked = a.linked }

pub reached_by : (s : Supply) (j : Joint) (words : ℕ → List (List ℕ)) → RunsWell s j → AreHistories s j words → (b : List ℕ) × ((h : ℕ) → reached s j b h ≡ stand j words h)
reached_by s j words well a =
    let ended = order_ended s j well in
    let r = remaining s (started j) (order_of (twin s) j) [] ended in
    follow s (started j) (stand j words) (order_of (twin s) j) ended r.0 [] words r.1 (at_start s j words a)

pub stand_on_the_way : (s : Supply) (j : Joint) (words : ℕ → List (List ℕ)) → RunsWell s j → AreHistories s j words → IsOnTheWay s (stand j words) (last_of s j)
stand_on_the_way s j words well a =
    let r = reached_by s j words well a in
    subst (λ w. IsOnTheWay s w (last_of s j)) (fun_ext r.1) (on_the_way s j r.0 well)
