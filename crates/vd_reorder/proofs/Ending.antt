-- A world with exchanged codes comes to the same end, in as many steps.
use Rattle.std.proofs.Common.{◌≡◌, inl, inr, ℕ, zero, suc, Some, refl, sym, ap, ◌∙◌, subst}
use Rattle.std.specs.Prelude.{slice_get}
use Rattle.vd_execution.specs.Claims.{Grows}
use Rattle.vd_execution.specs.Registers.{put}
use Rattle.vd_execution.specs.Code.{Code, Finished}
use Rattle.vd_execution.specs.Step.{answer, need}
use Rattle.vd_execution.specs.Schedule.{Steps}
use Rattle.vd_execution.specs.World.{Local, World, Supply, Tape, given, moved_on, step, endless, AllEnded}
use Rattle.vd_execution.proofs.Front.{same_or_not, put_same, put_twice, put_itself}
use Rattle.vd_execution.proofs.Front.{strip, diamond, Below, answer_more, stepped, steps_to, moved_grows, front_later, ended_stuck}
use Rattle.vd_reorder.specs.Hastening.{before, at, stretch_before, without_packets, Place, Here, Behind, InFirst, InOther, InBody, BehindBranch, BehindLoop, with_code, IsExchanged, Exchanges}
use Rattle.vd_reorder.proofs.Turned.{turned, turned_below, other_steps}
use Rattle.vd_reorder.proofs.Exchanged.{not_finished, Pair, old_of, new_of, SomeLead, IsInside, along}
use Rattle.vd_reorder.proofs.Stretches.{meets}

-- what is had without packets is had with them
items_below : (t : Tape) (w : World) (h : ℕ) (l : Local) → Below (without_packets (t h)) (given (endless t) w h l)
items_below t w h l = record { item = λ s i x e. e; front = λ p x e. absurd cc }

-- what exchanges keep: the steps to the end
abbrev pub Keeps : Tape → ℕ → Type 0
Keeps t n = (k h : ℕ) (w v : World) (d : Code) → Exchanges k (w h).state.pending d → Steps (step (endless t)) n w v → AllEnded v → Steps (step (endless t)) n (turned w h d) v

abbrev KeepsOne : Tape → ℕ → Type 0
KeepsOne t n = (h : ℕ) (w v : World) (d : Code) → IsExchanged (w h).state.pending d → Steps (step (endless t)) n w v → AllEnded v → Steps (step (endless t)) n (turned w h d) v

-- the host that has the neighbours steps, and they are not first
inside : (t : Tape) (n h : ℕ) (w u v : World) (p : Place) (q : Pair) → Keeps t n → IsInside p → (w h).state.pending ≡ with_code p (old_of q)
    → step (endless t) h w ≡ Some u → Steps (step (endless t)) n u v → AllEnded v → Steps (step (endless t)) (suc n) (turned w h (with_code p (new_of q))) v
inside t n h w u v p q keeps i is e rest ended =
    let d : Code = with_code p (new_of q) in
    let s : Supply = endless t in
    let a = stepped s h w u e in
    let l : Local = w h in
    let same : at l (with_code p (old_of q)) ≡ l = ap (at l) (sym is) in
    let f = along l p q i in
    let able : answer (given s (turned w h d) h (at l d)) l.state.cursors (need (at l d).state) ≡ Some a.words =
    ap (λ x. answer (given s (turned w h d) h l) l.state.cursors x) (f.needs ∙ ap (λ (m : Local). need m.state) same)
    ∙ answer_more _ _ l.state.cursors (need l.state) a.words (turned_below s w h d h l) a.able in
    let goes = steps_to s h (turned w h d) (at l d) a.words (put_same w h (at l d)) able in
    let there : u h ≡ moved_on l a.words = ap (λ x. x h) a.made ∙ put_same w h (moved_on l a.words) in
    let lead : SomeLead (u h).state.pending (f.ahead a.words) =
    subst (λ (m : Local). SomeLead m.state.pending (f.ahead a.words)) (ap (λ m. moved_on m a.words) same ∙ sym there) (f.leads a.words) in
    let to : put (turned w h d) h (moved_on (at l d) a.words) ≡ turned u h (f.ahead a.words) =
    put_twice w h (at l d) (moved_on (at l d) a.words)
    ∙ ap (put w h) (f.moves a.words ∙ ap (λ m. at (moved_on m a.words) (f.ahead a.words)) same)
    ∙ sym (put_twice w h (moved_on l a.words) (at (moved_on l a.words) (f.ahead a.words)))
    ∙ ap (λ x. put x h (at (moved_on l a.words) (f.ahead a.words))) (sym a.made)
    ∙ ap (λ m. put u h (at m (f.ahead a.words))) (sym there) in
    (h, turned u h (f.ahead a.words), goes ∙ ap Some to, keeps lead.0 h u v (f.ahead a.words) lead.1 rest ended)

-- the neighbours are first
first : (t : Tape) (n h : ℕ) (w u v : World) (q : Pair) → Keeps t n → (w h).state.pending ≡ old_of q
    → step (endless t) h w ≡ Some u → Steps (step (endless t)) n u v → AllEnded v → Steps (step (endless t)) (suc n) (turned w h (new_of q)) v
first t n h w u v q keeps is e rest ended =
    let s : Supply = endless t in
    let a = stepped s h w u e in
    let l : Local = w h in
    let c : Code = old_of q in
    let d : Code = new_of q in
    let m = meets l q in
    let left : Code = before q.second m.left in
    let same : at l c ≡ l = ap (at l) (sym is) in
    let xs = a.words in
    let ys = m.words (t h) in
    let one : Local = moved_on (at l c) xs in
    let there : u h ≡ one = ap (λ x. x h) a.made ∙ put_same w h (moved_on l xs) ∙ ap (λ m. moved_on m xs) (sym same) in
    let lead : SomeLead (u h).state.pending left = subst (λ (k : Local). SomeLead k.state.pending left) (sym there) (m.leads xs) in
    let mid : World = turned u h left in
    let mid_rest : Steps (step s) n mid v = keeps lead.0 h u v left lead.1 rest ended in
    let waiting : Local = at one left in
    let two : Local = moved_on waiting ys in
    let there_mid : mid h ≡ waiting = put_same u h (at (u h) left) ∙ ap (λ k. at k left) there in
    let late : answer (given s mid h waiting) waiting.state.cursors (need waiting.state) ≡ Some ys =
    answer_more _ _ waiting.state.cursors (need waiting.state) ys (items_below t mid h waiting) (m.late (t h) xs) in
    let then_second : step s h mid ≡ Some (put mid h two) = steps_to s h mid waiting ys there_mid late in
    let shorter = strip (step s) (diamond s) n mid v (put mid h two) h mid_rest (ended_stuck s v ended) then_second in
    let world : World = turned w h d in
    let begun : Local = at l d in
    let begun_two : Local = moved_on begun ys in
    let early : answer (given s world h begun) begun.state.cursors (need begun.state) ≡ Some ys =
    answer_more _ _ begun.state.cursors (need begun.state) ys (items_below t world h begun) (m.early (t h)) in
    let goes : step s h world ≡ Some (put world h begun_two) = steps_to s h world begun ys (put_same w h begun) early in
    let after : World = put world h begun_two in
    let had : answer (given s w h l) l.state.cursors (need (at l c).state) ≡ Some xs = ap (λ (m : Local). answer (given s w h l) l.state.cursors (need m.state)) same ∙ a.able in
    let still : answer (given s w h l) begun_two.state.cursors (need begun_two.state) ≡ Some xs = m.kept (given s w h l) xs ys had in
    let wider : Below (given s w h l) (given s after h begun_two) = record {
      item = λ r i x f. f;
      front = λ p x f. ap (λ k. slice_get ((after p).sent h) (k p)) (m.takes_none l (stretch_before q.first q.rest) ys)
          ∙ front_later world h h begun_two l p x
          (subst (λ m. Grows m begun_two) (sym (put_same w h begun)) (moved_grows begun ys))
          ((turned_below s w h d h l).front p x f);
    } in
    let goes_on : step s h after ≡ Some (put after h (moved_on begun_two xs)) =
    steps_to s h after begun_two xs (put_same world h begun_two) (answer_more _ _ begun_two.state.cursors (need begun_two.state) xs wider still) in
    let meet : put after h (moved_on begun_two xs) ≡ put mid h two =
    ap (λ x. put x h (moved_on begun_two xs)) (put_twice w h begun begun_two)
    ∙ put_twice w h begun_two (moved_on begun_two xs)
    ∙ ap (put w h) (sym (m.same xs ys))
    ∙ sym (put_twice w h (moved_on l xs) two)
    ∙ ap (λ x. put x h two) (sym a.made)
    ∙ sym (put_twice u h (at (u h) left) two) in
    (h, after, goes, subst (λ k. Steps (step s) k after v) (sym shorter.1) (h, put mid h two, goes_on ∙ ap Some meet, shorter.2))

-- the host that has the neighbours steps
steps_itself : (t : Tape) (n h : ℕ) (w u v : World) (p : Place) (q : Pair) → Keeps t n → (w h).state.pending ≡ with_code p (old_of q)
    → step (endless t) h w ≡ Some u → Steps (step (endless t)) n u v → AllEnded v → Steps (step (endless t)) (suc n) (turned w h (with_code p (new_of q))) v
steps_itself t n h w u v Here q keeps is e rest ended = first t n h w u v q keeps is e rest ended
steps_itself t n h w u v (Behind z p) q keeps is e rest ended = inside t n h w u v (Behind z p) q keeps _ is e rest ended
steps_itself t n h w u v (InFirst g p other r) q keeps is e rest ended = inside t n h w u v (InFirst g p other r) q keeps _ is e rest ended
steps_itself t n h w u v (InOther g x p r) q keeps is e rest ended = inside t n h w u v (InOther g x p r) q keeps _ is e rest ended
steps_itself t n h w u v (InBody c i k p r) q keeps is e rest ended = inside t n h w u v (InBody c i k p r) q keeps _ is e rest ended
steps_itself t n h w u v (BehindBranch g x y p) q keeps is e rest ended = inside t n h w u v (BehindBranch g x y p) q keeps _ is e rest ended
steps_itself t n h w u v (BehindLoop c i k b p) q keeps is e rest ended = inside t n h w u v (BehindLoop c i k b p) q keeps _ is e rest ended

abbrev pair_of : (c d : Code) → IsExchanged c d → Pair
pair_of c d x = record { first = x.first; second = x.second; rest = x.rest; may = x.may }

one_none : (t : Tape) → KeepsOne t zero
one_none t h w v d x e ended =
    let over : (w h).state.pending ≡ Finished = ap (λ u. (u h).state.pending) e ∙ ended h in
    absurd (not_finished x.place x.first (before x.second x.rest) (sym x.old ∙ over))

one_more : (t : Tape) (n : ℕ) → Keeps t n → KeepsOne t (suc n)
one_more t n keeps h w v d x s ended =
    let q = pair_of (w h).state.pending d x in
    elim (same_or_not s.0 h) [
      | inl same ↦
          subst (λ c. Steps (step (endless t)) (suc n) (turned w h c) v) (sym x.new)
          (steps_itself t n h w s.1 v x.place q keeps x.old (ap (λ g. step (endless t) g w) (sym same) ∙ s.2) s.3 ended)
      | inr other ↦
          let o = other_steps (endless t) w s.1 h s.0 d other s.2 in
          let y : IsExchanged (s.1 h).state.pending d = subst (λ (l : Local). IsExchanged l.state.pending d) (sym o.0) x in
          (s.0, turned s.1 h d, o.1, keeps 1 h s.1 v d (d, y, refl) s.3 ended)
    ]

many : (t : Tape) (n : ℕ) → KeepsOne t n → Keeps t n
many t n one zero h w v d e s ended =
    let same : turned w h d ≡ w = ap (λ c. put w h (at (w h) c)) (sym e) ∙ put_itself w h in
    subst (λ x. Steps (step (endless t)) n x v) (sym same) s
many t n one (suc k) h w v d e s ended =
    let mid : World = turned w h e.0 in
    let there : mid h ≡ at (w h) e.0 = put_same w h (at (w h) e.0) in
    let y : Exchanges k (mid h).state.pending d = subst (λ (l : Local). Exchanges k l.state.pending d) (sym there) e.2 in
    let r = many t n one k h mid v d y (one h w v e.0 e.1 s ended) ended in
    let same : turned mid h d ≡ turned w h d = ap (λ (l : Local). put mid h (at l d)) there ∙ put_twice w h (at (w h) e.0) (at (w h) d) in
    subst (λ x. Steps (step (endless t)) n x v) same r

pub keeps : (t : Tape) (n : ℕ) → Keeps t n
keeps t zero = many t zero (one_none t)
keeps t (suc n) = many t (suc n) (one_more t n (keeps t n))
