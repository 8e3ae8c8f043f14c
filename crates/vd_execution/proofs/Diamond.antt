-- The steps of two hosts commute.
use Rattle.std.proofs.Common.{◌≡◌, ◌≢◌, ℕ, List, [], ◌∷◌, ◌++◌, Option, Some, None, refl, sym, ap, ◌∙◌, arith, inl, inr, append-nil}
use Rattle.std.specs.Prelude.{slice_get}
use Rattle.vd_execution.specs.Registers.{put}
use Rattle.vd_execution.specs.Step.{Source, State, Cursors, Need, Nothing, Item, Packet, Unequal, Ended, Given, Deed, Quiet, Said, Heard, Printed, of_length, answer, need, next, deed}
use Rattle.vd_execution.specs.Schedule.{HasDiamond}
use Rattle.vd_execution.specs.World.{Local, World, Supply, front, given, done, moved_on, with_answer, with_host, step, IsPrefixOf}
use Rattle.vd_execution.specs.Claims.{Grows}
use Rattle.vd_execution.proofs.Puts.{same_or_not, put_same, put_other, put_commutes, get_append}

-- whatever the first is given, the second is given
pub record Below (g k : Given) : Type 0 where
  pub item : (s : Source) (i : ℕ) (x : List ℕ) → g.item s i ≡ Some x → k.item s i ≡ Some x
  pub front : (p : ℕ) (x : List ℕ) → g.front p ≡ Some x → k.front p ≡ Some x

-- what one answer gives, a larger one gives too
of_length_more : (n : ℕ) (o q : Option (List ℕ)) (xs : List ℕ) → ((x : List ℕ) → o ≡ Some x → q ≡ Some x) → of_length n o ≡ Some xs → of_length n q ≡ Some xs
of_length_more n None q xs f e = cc
of_length_more n (Some x) q xs f e = ap (of_length n) (f x refl) ∙ e

pub answer_more : (g k : Given) (c : Cursors) (n : Need) (xs : List ℕ) → Below g k → answer g c n ≡ Some xs → answer k c n ≡ Some xs
answer_more g k c Nothing xs b e = e
answer_more g k c (Item s) xs b e = b.item s (c s) xs e
answer_more g k c (Packet p n) xs b e = of_length_more n (g.front p) (k.front p) xs (b.front p) e
answer_more g k c (Unequal x y) xs b e = cc
answer_more g k c Ended xs b e = cc

-- a host that steps
pub record Stepped (s : Supply) (h : ℕ) (w u : World) : Type 0 where
  pub words : List ℕ
  pub able : answer (given s w h (w h)) (w h).state.cursors (need (w h).state) ≡ Some words
  pub made : u ≡ put w h (moved_on (w h) words)

stepped_answer : (s : Supply) (h : ℕ) (w u : World) (o : Option (List ℕ)) → answer (given s w h (w h)) (w h).state.cursors (need (w h).state) ≡ o
    → with_answer w h (w h) o ≡ Some u → Stepped s h w u
stepped_answer s h w u None e f = absurd cc
stepped_answer s h w u (Some xs) e f = record { words = xs; able = e; made = cc }

pub stepped : (s : Supply) (h : ℕ) (w u : World) → step s h w ≡ Some u → Stepped s h w u
stepped s h w u e = stepped_answer s h w u (answer (given s w h (w h)) (w h).state.cursors (need (w h).state)) refl e

pub steps_to : (s : Supply) (h : ℕ) (w : World) (l : Local) (xs : List ℕ) → w h ≡ l → answer (given s w h l) l.state.cursors (need l.state) ≡ Some xs
    → step s h w ≡ Some (put w h (moved_on l xs))
steps_to s h w l xs there able = ap (with_host s w h) there ∙ ap (with_answer w h l) able

-- what only grows
pub prefix_same : {X : Type 0} (xs ys : List X) → xs ≡ ys → IsPrefixOf xs ys
prefix_same xs ys e = ([], grind (arith, append-nil, e))

said_grows : (l : Local) (p q : ℕ) (words : List ℕ) → IsPrefixOf (l.sent q) (put l.sent p (l.sent p ++ words ∷ []) q)
said_grows l p q words =
    elim (same_or_not q p) [
      | inl e ↦ (words ∷ [], ap (λ i. l.sent i ++ words ∷ []) e ∙ sym (put_same l.sent p (l.sent p ++ words ∷ [])) ∙ ap (put l.sent p (l.sent p ++ words ∷ [])) (sym e))
      | inr ne ↦ prefix_same _ _ (sym (put_other l.sent p (l.sent p ++ words ∷ []) q ne))
    ]

done_grows : (l : Local) (m : State) (d : Deed) → Grows l (done l m d)
done_grows l m Quiet = record { printed = prefix_same _ _ refl; sent = λ p. prefix_same _ _ refl }
done_grows l m (Said p words) = record { printed = prefix_same _ _ refl; sent = λ q. said_grows l p q words }
done_grows l m (Heard p) = record { printed = prefix_same _ _ refl; sent = λ q. prefix_same _ _ refl }
done_grows l m (Printed x) = record { printed = (x ∷ [], refl); sent = λ q. prefix_same _ _ refl }

-- a packet that stands at a place stands there after any host has grown
get_later : {X : Type 0} (xs ys : List X) (i : ℕ) (x : X) → IsPrefixOf xs ys → slice_get xs i ≡ Some x → slice_get ys i ≡ Some x
get_later xs ys i x p e = ap (λ l. slice_get l i) (sym p.1) ∙ get_append xs p.0 i x e

pub front_later : (w : World) (g h : ℕ) (k m : Local) (p : ℕ) (x : List ℕ) → Grows (w g) k → front w h m p ≡ Some x → front (put w g k) h m p ≡ Some x
front_later w g h k m p x grows e =
    elim (same_or_not p g) [
      | inl same ↦
          let before : slice_get ((w g).sent h) (m.taken p) ≡ Some x = ap (λ q. slice_get ((w q).sent h) (m.taken p)) (sym same) ∙ e in
          let now : put w g k p ≡ k = ap (put w g k) same ∙ put_same w g k in
          ap (λ l. slice_get (l.sent h) (m.taken p)) now ∙ get_later ((w g).sent h) (k.sent h) (m.taken p) x (grows.sent h) before
      | inr other ↦ ap (λ l. slice_get (l.sent h) (m.taken p)) (put_other w g k p other) ∙ e
    ]

given_later : (s : Supply) (w : World) (g h : ℕ) (k m : Local) → Grows (w g) k → Below (given s w h m) (given s (put w g k) h m)
given_later s w g h k m grows = record {
  item = λ q i x e. e;
  front = λ p x e. front_later w g h k m p x grows e;
}

pub moved_grows : (l : Local) (xs : List ℕ) → Grows l (moved_on l xs)
moved_grows l xs = done_grows l (next l.state xs) (deed l.state)

-- h can step after g, and does the same
still : (s : Supply) (g h : ℕ) (w u v : World) → g ≢ h → (a : Stepped s g w u) → (b : Stepped s h w v)
    → step s h u ≡ Some (put (put w g (moved_on (w g) a.words)) h (moved_on (w h) b.words))
still s g h w u v ne a b =
    let k : Local = moved_on (w g) a.words in
    let able : answer (given s (put w g k) h (w h)) (w h).state.cursors (need (w h).state) ≡ Some b.words =
    answer_more _ _ (w h).state.cursors (need (w h).state) b.words (given_later s w g h k (w h) (moved_grows (w g) a.words)) b.able in
    ap (step s h) a.made ∙ steps_to s h (put w g k) (w h) b.words (put_other w g k h (λ e. ne (sym e))) able

pub diamond : (s : Supply) → HasDiamond (step s)
diamond s g h w u v ne e f =
    let a = stepped s g w u e in
    let b = stepped s h w v f in (
      put (put w g (moved_on (w g) a.words)) h (moved_on (w h) b.words),
      still s g h w u v ne a b,
      still s h g w v u (λ q. ne (sym q)) b a ∙ ap Some (sym (put_commutes w g h (moved_on (w g) a.words) (moved_on (w h) b.words) ne)),
    )
