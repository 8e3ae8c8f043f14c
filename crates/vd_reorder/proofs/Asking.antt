-- A hastened host asks for no item that is new.
use Rattle.std.proofs.Common.{◌≡◌, inl, inr, ℕ, suc, ◌<◌, ◌≤◌, List, [], ◌∷◌, ◌++◌, Some, Bool, true, false, cond, refl, sym, ap, ◌∙◌, subst, arith}
use Rattle.std.proofs.lemmas.Bool.{eq-eqb}
use Rattle.vd_execution.specs.Code.{Code, weight}
use Rattle.vd_execution.specs.Step.{Source, Inputs, OwnWords, Triples, BitTriples, Pairs, same_source, Cursors, Need, Nothing, Item, Packet, Unequal, Ended, advanced, need, next, deed}
use Rattle.vd_execution.specs.World.{Local, Supply, Tape, moved_on, endless, followed_by_zeros, or_zeros}
use Rattle.vd_execution.proofs.Front.{done_state}
use Rattle.vd_execution.specs.Histories.{GetsFor, Goes, gone, IsLinked}
use Rattle.vd_reorder.specs.Hastening.{at, IsHastened}
use Rattle.vd_reorder.specs.Ahead.{IsHeldUpAt}
use Rattle.vd_reorder.specs.Short.{TakesMore}
use Rattle.vd_reorder.proofs.Later.{never_later}
use Rattle.vd_reorder.proofs.Maximal.{Rests, Whole, code_needs, one_way, whole}

-- ---- cursors

more_or_same : (b : Bool) (n : ℕ) → n ≤ cond b (suc n) n
more_or_same true n = omega arith
more_or_same false n = omega arith

advances : (c : Cursors) (n : Need) (r : Source) → c r ≤ advanced c n r
advances c Nothing r = omega arith
advances c (Item q) r = more_or_same (same_source r q) (c r)
advances c (Packet p n) r = omega arith
advances c (Unequal x y) r = omega arith
advances c Ended r = omega arith

same_itself : (r : Source) → same_source r r ≡ true
same_itself Inputs = refl
same_itself OwnWords = refl
same_itself (Triples p) = eq-eqb p p refl
same_itself (BitTriples p) = eq-eqb p p refl
same_itself (Pairs p) = eq-eqb p p refl

one_more : (c : Cursors) (n : Need) (r : Source) → n ≡ Item r → c r < advanced c n r
one_more c n r is =
    let taken : advanced c n r ≡ suc (c r) = ap (λ m. advanced c m r) is ∙ ap (λ b. cond b (suc (c r)) (c r)) (same_itself r) in
    omega (arith, taken)

moved_cursors : (l : Local) (xs : List ℕ) (r : Source) → (moved_on l xs).state.cursors r ≡ advanced l.state.cursors (need l.state) r
moved_cursors l xs r = ap (λ m. m.cursors r) (done_state l (next l.state xs) (deed l.state))

gone_takes : (l : Local) (words : List (List ℕ)) (r : Source) → l.state.cursors r ≤ (gone l words).state.cursors r
gone_takes l [] r = omega arith
gone_takes l (xs ∷ words) r =
    let here = moved_cursors l xs r in
    let one = advances l.state.cursors (need l.state) r in
    let more = gone_takes (moved_on l xs) words r in
    omega (arith, here, one, more)

-- ---- one history after the other

goes_both : (s : Supply) (h : ℕ) (l : Local) (a b : List (List ℕ)) → Goes s h l a → Goes s h (gone l a) b → Goes s h l (a ++ b)
goes_both s h l [] b g k = k
goes_both s h l (xs ∷ a) b g k = (g.0, goes_both s h (moved_on l xs) a b g.1 k)

linked_both : (stream : ℕ → List (List ℕ)) (l : Local) (a b : List (List ℕ)) → IsLinked stream l a → IsLinked stream (gone l a) b → IsLinked stream l (a ++ b)
linked_both stream l [] b g k = k
linked_both stream l (xs ∷ a) b g k = (g.0, linked_both stream (moved_on l xs) a b g.1 k)

gone_both : (l : Local) (a b : List (List ℕ)) → gone l (a ++ b) ≡ gone (gone l a) b
gone_both l [] b = refl
gone_both l (xs ∷ a) b = gone_both (moved_on l xs) a b

-- ---- lists that are followed by zeros

gets_too : (s : Supply) (h : ℕ) (c : Cursors) (n : Need) (xs : List ℕ) → GetsFor (s h) c n xs → GetsFor (endless (followed_by_zeros s) h) c n xs
gets_too s h c Nothing xs g = g
gets_too s h c (Item r) xs g = ap (λ o. Some (or_zeros r o)) g
gets_too s h c (Packet p n) xs g = g
gets_too s h c (Unequal x y) xs g = g
gets_too s h c Ended xs g = g

goes_too : (s : Supply) (h : ℕ) (l : Local) (words : List (List ℕ)) → Goes s h l words → Goes (endless (followed_by_zeros s)) h l words
goes_too s h l [] g = _
goes_too s h l (xs ∷ words) g = (gets_too s h l.state.cursors (need l.state) xs g.0, goes_too s h (moved_on l xs) words g.1)

-- ---- what is asked for is taken

takes_it : (t : Tape) (h : ℕ) (stream : ℕ → List (List ℕ)) (k : Local) (r : Source) → need k.state ≡ Item r → (words : List (List ℕ)) → Rests stream (gone k words)
    → k.state.cursors r < (gone k words).state.cursors r
takes_it t h stream k r is [] rests =
    elim rests [
      | inl held ↦ absurd (subst (λ n. IsHeldUpAt stream k n) is held)
      | inr over ↦ let e : Item r ≡ Ended = sym is ∙ over in absurd cc
    ]
takes_it t h stream k r is (xs ∷ words) rests =
    let here = moved_cursors k xs r in
    let one = one_more k.state.cursors (need k.state) r is in
    let more = gone_takes (moved_on k xs) words r in
    omega (arith, here, one, more)

taken_before : (t : Tape) (h : ℕ) (stream : ℕ → List (List ℕ)) (l : Local) (c d : Code) (words : List (List ℕ)) (r : Source) → IsHastened c d
    → Goes (endless t) h (at l d) words → IsLinked stream (at l d) words → need (gone (at l d) words).state ≡ Item r → (w : Whole t h stream (at l c))
    → need (gone (at l c) w.words).state ≡ Ended → (gone (at l d) words).state.cursors r < (gone (at l c) w.words).state.cursors r
taken_before t h stream l c d words r x goes linked is w over =
    let k : Local = gone (at l d) words in
    let end : Local = gone (at l c) w.words in
    let q = never_later t h stream l c d w.words x w.goes w.linked in
    let there : gone (at l d) q.words ≡ end = q.whole (code_needs end.state.registers end.state.pending over) in
    let ended : need (gone (at l d) q.words).state ≡ Ended = ap (λ (m : Local). need m.state) there ∙ over in
    let rest = whole (suc (weight k.state.pending)) t h stream k (omega arith) in
    let both = gone_both (at l d) words rest.words in
    let rests : Rests stream (gone (at l d) (words ++ rest.words)) = subst (Rests stream) (sym both) rest.rests in
    let same = one_way t h stream (at l d) (words ++ rest.words) q.words (goes_both (endless t) h (at l d) words rest.words goes rest.goes)
    (linked_both stream (at l d) words rest.words linked rest.linked) rests q.goes q.linked (inr ended) in
    let taken = takes_it t h stream k r is rest.words rest.rests in
    subst (λ (m : Local). k.state.cursors r < m.state.cursors r) (sym both ∙ same ∙ there) taken

pub no_new_item : (s : Supply) (h : ℕ) (stream : ℕ → List (List ℕ)) (l : Local) (c d : Code) (words : List (List ℕ)) (source : Source) → IsHastened c d
    → Goes s h (at l d) words → IsLinked stream (at l d) words → need (gone (at l d) words).state ≡ Item source
    → TakesMore (followed_by_zeros s) h stream (at l c) source ((gone (at l d) words).state.cursors source)
no_new_item s h stream l c d words source x goes linked is =
    let t : Tape = followed_by_zeros s in
    let w = whole (suc (weight c)) t h stream (at l c) (omega arith) in
    record {
      words = w.words;
      goes = w.goes;
      linked = w.linked;
      more = elim w.rests [
        | inl held ↦ inl held
        | inr over ↦ inr (taken_before t h stream l c d words source x (goes_too s h (at l d) words goes) linked is w over)
      ];
    }
