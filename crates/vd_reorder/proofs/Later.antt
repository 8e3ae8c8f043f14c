-- A hastened host is never behind.
use Rattle.std.proofs.Common.{◌≡◌, inl, inr, ℕ, zero, suc, ◌≤◌, ◌++◌, List, [], ◌∷◌, length, Option, Some, None, if◌then◌else◌, refl, sym, ap, ◌∙◌, subst, append_assoc, arith}
use Rattle.std.proofs.lemmas.Bool.Decides.{eqb_tells}
use Rattle.std.specs.Prelude.{slice_get}
use Rattle.vd_execution.specs.Code.{Code, weight}
use Rattle.vd_execution.specs.Step.{Source, Cursors, Need, Nothing, Item, Packet, Unequal, Ended, Given, of_length, answer, need}
use Rattle.vd_execution.specs.World.{Local, Tape, moved_on, endless, IsPrefixOf}
use Rattle.vd_execution.proofs.Front.{prefix_same, moved_grows}
use Rattle.vd_execution.specs.Histories.{GetsFor, Gets, Goes, gone, TakesSent, IsLinked}
use Rattle.vd_execution.proofs.Front.{able, sent_packet}
use Rattle.vd_reorder.specs.Hastening.{before, at, stretch_before, without_packets, Place, Here, Behind, InFirst, InOther, InBody, BehindBranch, BehindLoop, with_code, IsExchanged, Exchanges, IsHastened}
use Rattle.vd_reorder.proofs.Exchanged.{not_finished, piece_not_finished, Pair, old_of, new_of, IsInside, along}
use Rattle.vd_reorder.proofs.Stretches.{Meets, meets}
use Rattle.vd_reorder.specs.Ahead.{IsAhead, Reaches}
use Rattle.vd_reorder.proofs.Falling.{moved_falls, exchanged_weighs, weighs}

prefix_trans : {X : Type 0} (xs ys zs : List X) → IsPrefixOf xs ys → IsPrefixOf ys zs → IsPrefixOf xs zs
prefix_trans xs ys zs p q = (p.0 ++ q.0, sym (append_assoc xs p.0 q.0) ∙ ap (λ l. l ++ q.0) p.1 ∙ q.1)

ahead_trans : (l k m : Local) → IsAhead l k → IsAhead k m → IsAhead l m
ahead_trans l k m a b = record {
  grows = record { printed = prefix_trans _ _ _ a.grows.printed b.grows.printed; sent = λ p. prefix_trans _ _ _ (a.grows.sent p) (b.grows.sent p) };
  taken = λ p. b.taken p ∙ a.taken p;
}

ahead_same : (l k : Local) → k ≡ l → IsAhead l k
ahead_same l k e = subst (λ m. IsAhead l m) (sym e) (record { grows = record { printed = prefix_same _ _ refl; sent = λ p. prefix_same _ _ refl }; taken = λ p. refl })

-- what is answered is what a host goes on with
long_enough : (n : ℕ) (o : Option (List ℕ)) (xs : List ℕ) → of_length n o ≡ Some xs → (length xs ≡ n) × (o ≡ Some xs)
long_enough n None xs e = absurd cc
long_enough n (Some zs) xs e =
    elim (eqb_tells (length zs) n) [
      | inl p ↦
          let whole : Some zs ≡ Some xs = ap (λ b. if b then Some zs else None) (sym p.0) ∙ e in
          let same : zs ≡ xs = cc in
          (ap length (sym same) ∙ p.1, whole)
      | inr p ↦
          let none : None ≡ Some xs = ap (λ b. if b then Some zs else None) (sym p.0) ∙ e in
          absurd cc
    ]

gets_from : (g : Given) (c : Cursors) (x : Need) (xs : List ℕ) → answer g c x ≡ Some xs → GetsFor g.item c x xs
gets_from g c Nothing xs e = cc
gets_from g c (Item source) xs e = e
gets_from g c (Packet p n) xs e = (long_enough n (g.front p) xs e).0
gets_from g c (Unequal x y) xs e = absurd cc
gets_from g c Ended xs e = absurd cc

takes_from : (g : Given) (stream : ℕ → List (List ℕ)) (k : Local) (c : Cursors) (x : Need) (xs : List ℕ) → answer g c x ≡ Some xs
    → ((p : ℕ) → g.front p ≡ slice_get (stream p) (k.taken p)) → TakesSent stream k x xs
takes_from g stream k c Nothing xs e f = _
takes_from g stream k c (Item source) xs e f = _
takes_from g stream k c (Packet p n) xs e f = sym (f p) ∙ (long_enough n (g.front p) xs e).1
takes_from g stream k c (Unequal x y) xs e f = _
takes_from g stream k c Ended xs e f = _

-- without packets: what is answered is an item or nothing, and is all that can be got
takes_none : (items : Source → ℕ → List ℕ) (stream : ℕ → List (List ℕ)) (k : Local) (c : Cursors) (x : Need) (xs : List ℕ) → answer (without_packets items) c x ≡ Some xs → TakesSent stream k x xs
takes_none items stream k c Nothing xs e = _
takes_none items stream k c (Item source) xs e = _
takes_none items stream k c (Packet p n) xs e = absurd cc
takes_none items stream k c (Unequal x y) xs e = _
takes_none items stream k c Ended xs e = _

only_words : (items : Source → ℕ → List ℕ) (c : Cursors) (x : Need) (xs ys : List ℕ) → answer (without_packets items) c x ≡ Some ys
    → GetsFor (λ s i. Some (items s i)) c x xs → xs ≡ ys
only_words items c Nothing xs ys e g = cc
only_words items c (Item source) xs ys e g = cc
only_words items c (Packet p n) xs ys e g = absurd cc
only_words items c (Unequal x y) xs ys e g = absurd g
only_words items c Ended xs ys e g = absurd g

never_waits : (items : Source → ℕ → List ℕ) (c : Cursors) (x : Need) (ys : List ℕ) → answer (without_packets items) c x ≡ Some ys → (p n : ℕ) → x ≡ Packet p n → ⊥
never_waits items c x ys e p n is = let z = ap (answer (without_packets items) c) is in cc

never_differ : (items : Source → ℕ → List ℕ) (c : Cursors) (x : Need) (ys : List ℕ) → answer (without_packets items) c x ≡ Some ys → (a b : ℕ) → x ≡ Unequal a b → ⊥
never_differ items c x ys e a b is = let z = ap (answer (without_packets items) c) is in cc

-- what holds of all codes up to a weight
abbrev Holds : ℕ → Type 0
Holds n = (t : Tape) (h : ℕ) (stream : ℕ → List (List ℕ)) (k : ℕ) (l : Local) (c d : Code) (words : List (List ℕ)) → weight c ≤ n → Exchanges k c d
    → Goes (endless t) h (at l c) words → IsLinked stream (at l c) words → Reaches t h stream (at l d) (gone (at l c) words)

abbrev HoldsOne : ℕ → Type 0
HoldsOne n = (t : Tape) (h : ℕ) (stream : ℕ → List (List ℕ)) (l : Local) (c d : Code) (words : List (List ℕ)) → weight c ≤ n → IsExchanged c d
    → Goes (endless t) h (at l c) words → IsLinked stream (at l c) words → Reaches t h stream (at l d) (gone (at l c) words)

-- one host is ahead of another one, which is ahead of a third
joined : (t : Tape) (h : ℕ) (stream : ℕ → List (List ℕ)) (begun mid old : Local) (r : Reaches t h stream mid old) → Reaches t h stream begun (gone mid r.words) → Reaches t h stream begun old
joined t h stream begun mid old r q = record {
  words = q.words;
  goes = q.goes;
  linked = q.linked;
  ahead = ahead_trans _ _ _ r.ahead q.ahead;
  waits = λ p n f. q.waits p n (r.waits p n f);
  differ = λ a b f. q.differ a b (r.differ a b f);
  whole = λ f. let same = r.whole f in q.whole (ap (λ (m : Local). m.state.pending) same ∙ f) ∙ same;
}

many : (n : ℕ) → HoldsOne n → Holds n
many n one t h stream zero l c d words le e goes linked =
    subst (λ x. Reaches t h stream (at l x) (gone (at l c) words)) e
    (record { words = words; goes = goes; linked = linked; ahead = ahead_same _ _ refl; waits = λ p n f. f; differ = λ a b f. f; whole = λ f. refl })
many n one t h stream (suc k) l c d words le e goes linked =
    let r = one t h stream l c e.0 words le e.1 goes linked in
    let less : weight e.0 ≤ n = subst (λ w. w ≤ n) (sym (exchanged_weighs c e.0 e.1)) le in
    joined t h stream (at l d) (at l e.0) (gone (at l c) words) r (many n one t h stream k l e.0 d r.words less e.2 r.goes r.linked)

nothing_inside : (t : Tape) (h : ℕ) (stream : ℕ → List (List ℕ)) (l : Local) (p : Place) (q : Pair) → IsInside p
    → Reaches t h stream (at l (with_code p (new_of q))) (at l (with_code p (old_of q)))
nothing_inside t h stream l p q i =
    let needs = (along l p q i).needs in
    record {
      words = [];
      goes = _;
      linked = _;
      ahead = record { grows = record { printed = prefix_same _ _ refl; sent = λ k. prefix_same _ _ refl }; taken = λ k. refl };
      waits = λ a b e. needs ∙ e;
      differ = λ a b e. needs ∙ e;
      whole = λ e. absurd (not_finished p q.first (before q.second q.rest) e);
    }

-- the second of the two is done, and the host stands before the first
nothing_first : (t : Tape) (h : ℕ) (stream : ℕ → List (List ℕ)) (l : Local) (q : Pair) → Reaches t h stream (at l (new_of q)) (at l (old_of q))
nothing_first t h stream l q =
    let m = meets l q in
    let ys = m.words (t h) in
    let early = m.early (t h) in
    let begun : Local = at l (new_of q) in
    let needs = m.needs ys in
    record {
      words = ys ∷ [];
      goes = (gets_from (without_packets (t h)) l.state.cursors (need begun.state) ys early, _);
      linked = (takes_none (t h) stream begun l.state.cursors (need begun.state) ys early, _);
      ahead = record {
        grows = record { printed = (moved_grows begun ys).printed; sent = λ k. (moved_grows begun ys).sent k };
        taken = λ k. ap (λ f. f k) (m.takes_none l (stretch_before q.first q.rest) ys);
      };
      waits = λ a b e. needs ∙ e;
      differ = λ a b e. needs ∙ e;
      whole = λ e. absurd (not_finished Here q.first (before q.second q.rest) e);
    }

nothing_done : (t : Tape) (h : ℕ) (stream : ℕ → List (List ℕ)) (l : Local) (p : Place) (q : Pair) → Reaches t h stream (at l (with_code p (new_of q))) (at l (with_code p (old_of q)))
nothing_done t h stream l Here q = nothing_first t h stream l q
nothing_done t h stream l (Behind z p) q = nothing_inside t h stream l (Behind z p) q _
nothing_done t h stream l (InFirst g p other r) q = nothing_inside t h stream l (InFirst g p other r) q _
nothing_done t h stream l (InOther g x p r) q = nothing_inside t h stream l (InOther g x p r) q _
nothing_done t h stream l (InBody c i k p r) q = nothing_inside t h stream l (InBody c i k p r) q _
nothing_done t h stream l (BehindBranch g x y p) q = nothing_inside t h stream l (BehindBranch g x y p) q _
nothing_done t h stream l (BehindLoop c i k x p) q = nothing_inside t h stream l (BehindLoop c i k x p) q _

-- the neighbours are not first
inside : (n : ℕ) (t : Tape) (h : ℕ) (stream : ℕ → List (List ℕ)) (l : Local) (p : Place) (q : Pair) (xs : List ℕ) (rest : List (List ℕ)) → IsInside p → Holds n
    → weight (moved_on (at l (with_code p (old_of q))) xs).state.pending ≤ n
    → Goes (endless t) h (at l (with_code p (old_of q))) (xs ∷ rest) → IsLinked stream (at l (with_code p (old_of q))) (xs ∷ rest)
    → Reaches t h stream (at l (with_code p (new_of q))) (gone (at l (with_code p (old_of q))) (xs ∷ rest))
inside n t h stream l p q xs rest i holds le goes linked =
    let f = along l p q i in
    let u : Local = moved_on (at l (with_code p (old_of q))) xs in
    let lead = f.leads xs in
    let r = holds t h stream lead.0 u u.state.pending (f.ahead xs) rest le lead.1 goes.1 linked.1 in
    let moves = f.moves xs in
    record {
      words = xs ∷ r.words;
      goes = (subst (λ x. GetsFor (endless t h) l.state.cursors x xs) (sym f.needs) goes.0, subst (λ m. Goes (endless t) h m r.words) (sym moves) r.goes);
      linked = (subst (λ x. TakesSent stream l x xs) (sym f.needs) linked.0, subst (λ m. IsLinked stream m r.words) (sym moves) r.linked);
      ahead = subst (λ m. IsAhead (gone u rest) (gone m r.words)) (sym moves) r.ahead;
      waits = λ a b e. ap (λ m. need (gone m r.words).state) moves ∙ r.waits a b e;
      differ = λ a b e. ap (λ m. need (gone m r.words).state) moves ∙ r.differ a b e;
      whole = λ e. ap (λ m. gone m r.words) moves ∙ r.whole e;
    }

-- the neighbours are first
first : (n : ℕ) (t : Tape) (h : ℕ) (stream : ℕ → List (List ℕ)) (l : Local) (q : Pair) (xs : List ℕ) (rest : List (List ℕ)) → Holds n
    → weight (moved_on (at l (old_of q)) xs).state.pending ≤ n
    → Goes (endless t) h (at l (old_of q)) (xs ∷ rest) → IsLinked stream (at l (old_of q)) (xs ∷ rest)
    → Reaches t h stream (at l (new_of q)) (gone (at l (old_of q)) (xs ∷ rest))
first n t h stream l q xs rest holds le goes linked = joined t h stream (at l (new_of q)) u (gone old rest) r (go r.words r.goes r.linked)
  where
    m : Meets l q
    m = meets l q

    ys : List ℕ
    ys = m.words (t h)

    left : Code
    left = before q.second m.left

    old : Local
    old = moved_on (at l (old_of q)) xs

    -- behind the first step, with the second of the two at the front
    u : Local
    u = at old left

    r : Reaches t h stream u (gone old rest)
    r = holds t h stream (m.leads xs).0 old old.state.pending left rest le (m.leads xs).1 goes.1 linked.1

    v : Local
    v = moved_on (at l (new_of q)) ys

    g : Given
    g = record { item = endless t h; front = λ p. slice_get (stream p) (l.taken p) }

    had : answer g l.state.cursors (need (at l (old_of q)).state) ≡ Some xs
    had = able g l.state.cursors (need (at l (old_of q)).state) xs goes.0 (λ p n e. sent_packet stream (at l (old_of q)) (need (at l (old_of q)).state) xs p n linked.0 e)

    still : answer g v.state.cursors (need v.state) ≡ Some xs
    still = m.kept g xs ys had

    early : answer (without_packets (t h)) l.state.cursors (need (at l (new_of q)).state) ≡ Some ys
    early = m.early (t h)

    late : answer (without_packets (t h)) u.state.cursors (need u.state) ≡ Some ys
    late = m.late (t h) xs

    meet : moved_on u ys ≡ moved_on v xs
    meet = m.same xs ys

    one : Gets (endless t) h (at l (new_of q)) ys
    one = gets_from (without_packets (t h)) l.state.cursors (need (at l (new_of q)).state) ys early

    two : Gets (endless t) h v xs
    two = gets_from g v.state.cursors (need v.state) xs still

    one_linked : TakesSent stream (at l (new_of q)) (need (at l (new_of q)).state) ys
    one_linked = takes_none (t h) stream (at l (new_of q)) l.state.cursors (need (at l (new_of q)).state) ys early

    two_linked : TakesSent stream v (need v.state) xs
    two_linked = takes_from g stream v v.state.cursors (need v.state) xs still (λ p. ap (λ k. slice_get (stream p) (k p)) (sym (m.takes_none l (stretch_before q.first q.rest) ys)))

    go : (words : List (List ℕ)) → Goes (endless t) h u words → IsLinked stream u words → Reaches t h stream (at l (new_of q)) (gone u words)
    go [] goes linked = record {
      words = ys ∷ xs ∷ [];
      goes = (one, (two, _));
      linked = (one_linked, (two_linked, _));
      ahead = subst (λ k. IsAhead u k) meet (record { grows = moved_grows u ys; taken = λ p. ap (λ k. k p) (m.takes_none old m.left ys) });
      waits = λ a b e. absurd (never_waits (t h) u.state.cursors (need u.state) ys late a b e);
      differ = λ a b e. absurd (never_differ (t h) u.state.cursors (need u.state) ys late a b e);
      whole = λ e. absurd (piece_not_finished q.second m.left e);
    }
    go (zs ∷ words) goes linked =
        let same : zs ≡ ys = only_words (t h) u.state.cursors (need u.state) zs ys late goes.0 in
        let to : moved_on u zs ≡ moved_on v xs = ap (moved_on u) same ∙ meet in
        record {
          words = ys ∷ xs ∷ words;
          goes = (one, (two, subst (λ m. Goes (endless t) h m words) to goes.1));
          linked = (one_linked, (two_linked, subst (λ m. IsLinked stream m words) to linked.1));
          ahead = ahead_same _ _ (ap (λ m. gone m words) (sym to));
          waits = λ a b e. ap (λ m. need (gone m words).state) (sym to) ∙ e;
          differ = λ a b e. ap (λ m. need (gone m words).state) (sym to) ∙ e;
          whole = λ e. ap (λ m. gone m words) (sym to);
        }

not_ended : (items : Source → ℕ → Option (List ℕ)) (c : Cursors) (x : Need) (xs : List ℕ) → GetsFor items c x xs → x ≡ Ended → ⊥
not_ended items c x xs e is = subst (λ n. GetsFor items c n xs) is e

at_place : (n : ℕ) (t : Tape) (h : ℕ) (stream : ℕ → List (List ℕ)) (l : Local) (p : Place) (q : Pair) (xs : List ℕ) (rest : List (List ℕ)) → Holds n
    → weight (moved_on (at l (with_code p (old_of q))) xs).state.pending ≤ n
    → Goes (endless t) h (at l (with_code p (old_of q))) (xs ∷ rest) → IsLinked stream (at l (with_code p (old_of q))) (xs ∷ rest)
    → Reaches t h stream (at l (with_code p (new_of q))) (gone (at l (with_code p (old_of q))) (xs ∷ rest))
at_place n t h stream l Here q xs rest holds le goes linked = first n t h stream l q xs rest holds le goes linked
at_place n t h stream l (Behind z p) q xs rest holds le goes linked = inside n t h stream l (Behind z p) q xs rest _ holds le goes linked
at_place n t h stream l (InFirst g p other r) q xs rest holds le goes linked = inside n t h stream l (InFirst g p other r) q xs rest _ holds le goes linked
at_place n t h stream l (InOther g x p r) q xs rest holds le goes linked = inside n t h stream l (InOther g x p r) q xs rest _ holds le goes linked
at_place n t h stream l (InBody c i k p r) q xs rest holds le goes linked = inside n t h stream l (InBody c i k p r) q xs rest _ holds le goes linked
at_place n t h stream l (BehindBranch g x y p) q xs rest holds le goes linked = inside n t h stream l (BehindBranch g x y p) q xs rest _ holds le goes linked
at_place n t h stream l (BehindLoop c i k b p) q xs rest holds le goes linked = inside n t h stream l (BehindLoop c i k b p) q xs rest _ holds le goes linked

at_pair : (n : ℕ) (t : Tape) (h : ℕ) (stream : ℕ → List (List ℕ)) (l : Local) (p : Place) (q : Pair) (words : List (List ℕ)) → (weight (with_code p (old_of q)) ≤ suc n) → Holds n
    → Goes (endless t) h (at l (with_code p (old_of q))) words → IsLinked stream (at l (with_code p (old_of q))) words
    → Reaches t h stream (at l (with_code p (new_of q))) (gone (at l (with_code p (old_of q))) words)
at_pair n t h stream l p q [] le holds goes linked = nothing_done t h stream l p q
at_pair n t h stream l p q (xs ∷ rest) le holds goes linked =
    let begun : Local = at l (with_code p (old_of q)) in
    let falls = moved_falls begun xs (not_ended (endless t h) l.state.cursors (need begun.state) xs goes.0) in
    at_place n t h stream l p q xs rest holds (omega (arith, le, falls)) goes linked

one_at : (n : ℕ) → Holds n → HoldsOne (suc n)
one_at n holds t h stream l c d words le x goes linked =
    let q : Pair = record { first = x.first; second = x.second; rest = x.rest; may = x.may } in
    let r = at_pair n t h stream l x.place q words (subst (λ k. weight k ≤ suc n) x.old le) holds
    (subst (λ k. Goes (endless t) h (at l k) words) x.old goes) (subst (λ k. IsLinked stream (at l k) words) x.old linked) in
    subst (λ k. Reaches t h stream (at l d) (gone (at l k) words)) (sym x.old)
    (subst (λ k. Reaches t h stream (at l k) (gone (at l (with_code x.place (old_of q))) words)) (sym x.new) r)

-- a code with neighbours weighs something
one_none : HoldsOne zero
one_none t h stream l c d words le x goes linked = absurd (weighs x.place x.first (before x.second x.rest) (subst (λ k. weight k ≤ 0) x.old le))

holds : (n : ℕ) → Holds n
holds zero = many zero one_none
holds (suc n) = many (suc n) (one_at n (holds n))

pub never_later : (t : Tape) (h : ℕ) (stream : ℕ → List (List ℕ)) (l : Local) (c d : Code) (words : List (List ℕ)) → IsHastened c d
    → Goes (endless t) h (at l c) words → IsLinked stream (at l c) words → Reaches t h stream (at l d) (gone (at l c) words)
never_later t h stream l c d words x goes linked = holds (suc (weight c)) t h stream x.0 l c d words (omega arith) x.1 goes linked
