-- Neighbours that may be exchanged.
use Rattle.std.proofs.Common.{◌≡◌, ◌≢◌, ℕ, suc, List, [], ◌∷◌, ◌++◌, Option, Some, None, Bool, true, false, if◌then◌else◌, refl, sym, ap, ap₂, ◌∙◌}
use mathlib.Core.Path.{fun_ext}
use Rattle.vd_execution.specs.declared.instructions.Reg.{Reg}
use Rattle.vd_execution.specs.declared.instructions.Action.{Action}
use Rattle.vd_execution.specs.declared.instructions.Action.TheVariants as action
use Rattle.vd_execution.specs.Registers.{Registers, put, put_each, written}
use Rattle.vd_execution.specs.Code.{Code, Then, Send, Recv}
use Rattle.vd_execution.specs.Step.{Source, Cursors, Need, Nothing, Item, Packet, Unequal, Ended, Given, same_source, answer, need, advanced, one_further, need_of_action, word_printed, deed_of_print, words_in}
use Rattle.vd_execution.specs.Joint.{supplied}
use Rattle.vd_execution.specs.World.{Local, done, moved_on}
use Rattle.vd_execution.proofs.Front.{put_other, put_commutes}
use Rattle.vd_reorder.specs.Hastening.{Acts, Sends, Awaits, at, without_packets, MayPass}
use Rattle.vd_reorder.specs.Neighbours.{IsItemOrNothing, IsPlain, ListsDiffer, IsApart, AreApart}

-- a plain action, as a function of the host
abbrev acted : Local → Action → Need → Code → List ℕ → Local
acted l a n c ys = record l { state = record { pending = c; registers = written l.state.registers a ys; cursors = advanced l.state.cursors n } }

acted_by : (l : Local) (a : Action) (n m : Need) (c : Code) (ys : List ℕ) (o : Option ℕ) → m ≡ n → o ≡ None
    → done (at l (Then a c)) (record { pending = c; registers = written l.state.registers a ys; cursors = advanced l.state.cursors m }) (deed_of_print o) ≡ acted l a n c ys
acted_by l a n m c ys o e f =
    ap (λ p. done (at l (Then a c)) (record { pending = c; registers = written l.state.registers a ys; cursors = advanced l.state.cursors m }) (deed_of_print p)) f
    ∙ ap (λ k. acted l a k c ys) e

plain_moves : (a : Action) (n : Need) → IsPlain a n → (l : Local) (c : Code) (ys : List ℕ) → moved_on (at l (Then a c)) ys ≡ acted l a n c ys
plain_moves a n p l c ys = acted_by l a n (need_of_action l.state.registers a) c ys (word_printed l.state.registers a) (p.needs l.state.registers) (p.silent l.state.registers)

has_words : (items : Source → ℕ → List ℕ) (c : Cursors) (n : Need) → IsItemOrNothing n → answer (without_packets items) c n ≡ Some (supplied items c n)
has_words items c Nothing i = refl
has_words items c (Item s) i = refl
has_words items c (Packet p n) i = absurd i
has_words items c (Unequal x y) i = absurd i
has_words items c Ended i = absurd i

pub at_other : (c : Cursors) (s r : Source) → same_source r s ≡ false → one_further c s r ≡ c r
at_other c s r e = ap (λ b. if b then suc (c r) else c r) e

-- what the one takes is not what the other gets
pub others_words : (items : Source → ℕ → List ℕ) (c : Cursors) (m n : Need) → ListsDiffer m n → supplied items (advanced c m) n ≡ supplied items c n
others_words items c Nothing n d = refl
others_words items c (Item s) Nothing d = refl
others_words items c (Item s) (Item r) d = ap (items r) (at_other c s r d.1)
others_words items c (Item s) (Packet p k) d = refl
others_words items c (Item s) (Unequal x y) d = refl
others_words items c (Item s) Ended d = refl
others_words items c (Packet p k) n d = refl
others_words items c (Unequal x y) n d = refl
others_words items c Ended n d = refl

others_answer : (g : Given) (c : Cursors) (m n : Need) → ListsDiffer m n → answer g (advanced c n) m ≡ answer g c m
others_answer g c Nothing n d = refl
others_answer g c (Item s) Nothing d = refl
others_answer g c (Item s) (Item r) d = ap (g.item s) (at_other c r s d.0)
others_answer g c (Item s) (Packet p k) d = refl
others_answer g c (Item s) (Unequal x y) d = refl
others_answer g c (Item s) Ended d = refl
others_answer g c (Packet p k) n d = refl
others_answer g c (Unequal x y) n d = refl
others_answer g c Ended n d = refl

one_then_other : (a b : Bool) (n : ℕ) → (if b then suc (if a then suc n else n) else (if a then suc n else n)) ≡ (if a then suc (if b then suc n else n) else (if b then suc n else n))
one_then_other true true n = refl
one_then_other true false n = refl
one_then_other false true n = refl
one_then_other false false n = refl

pub both_advanced : (c : Cursors) (m n : Need) → advanced (advanced c m) n ≡ advanced (advanced c n) m
both_advanced c Nothing n = refl
both_advanced c (Item s) Nothing = refl
both_advanced c (Item s) (Item r) = fun_ext (λ t. one_then_other (same_source t s) (same_source t r) (c t))
both_advanced c (Item s) (Packet p k) = refl
both_advanced c (Item s) (Unequal x y) = refl
both_advanced c (Item s) Ended = refl
both_advanced c (Packet p k) n = refl
both_advanced c (Unequal x y) n = refl
both_advanced c Ended n = refl

-- registers that get nothing keep their words
put_each_other : (f : Registers) (qs : List Reg) (xs : List ℕ) (r : Reg) → IsApart r qs → put_each f qs xs r.0 ≡ f r.0
put_each_other f [] xs r a = refl
put_each_other f (q ∷ qs) [] r a = refl
put_each_other f (q ∷ qs) (x ∷ xs) r a = put_each_other (put f q.0 x) qs xs r a.1 ∙ put_other f q.0 x r.0 a.0

pub words_stay : (f : Registers) (qs : List Reg) (xs : List ℕ) (rs : List Reg) → AreApart rs qs → words_in (put_each f qs xs) rs ≡ words_in f rs
words_stay f qs xs [] a = refl
words_stay f qs xs (r ∷ rs) a = ap₂ (λ (w : ℕ) (ws : List ℕ). w ∷ ws) (put_each_other f qs xs r a.0) (words_stay f qs xs rs a.1)

pub send_before_receive : (q p : ℕ) (qs rs : List Reg) → AreApart rs qs → MayPass (Awaits q qs) (Sends p rs)
send_before_receive q p qs rs apart = record {
  words = λ items l. [];
  late = λ items l c xs. refl;
  early = λ items l c. refl;
  kept = λ g l c d xs ys e. e;
  needs = λ l c d ys. refl;
  takes_none = λ l c ys. refl;
  same = λ l c xs ys. ap (λ (words : List ℕ). record l {
    state = record { pending = c; registers = put_each l.state.registers qs xs; cursors = l.state.cursors };
    taken = put l.taken q (suc (l.taken q));
    sent = put l.sent p (l.sent p ++ words ∷ []);
  }) (words_stay l.state.registers qs xs rs apart);
}

both_sent : (sent : ℕ → List (List ℕ)) (q p : ℕ) (xs ys : List ℕ) → q ≢ p
    → put (put sent q (sent q ++ xs ∷ [])) p (put sent q (sent q ++ xs ∷ []) p ++ ys ∷ []) ≡ put (put sent p (sent p ++ ys ∷ [])) q (put sent p (sent p ++ ys ∷ []) q ++ xs ∷ [])
both_sent sent q p xs ys ne =
    ap (λ (l : List (List ℕ)). put (put sent q (sent q ++ xs ∷ [])) p (l ++ ys ∷ [])) (put_other sent q (sent q ++ xs ∷ []) p (λ e. ne (sym e)))
    ∙ put_commutes sent q p (sent q ++ xs ∷ []) (sent p ++ ys ∷ []) ne
    ∙ ap (λ (l : List (List ℕ)). put (put sent p (sent p ++ ys ∷ [])) q (l ++ xs ∷ [])) (sym (put_other sent p (sent p ++ ys ∷ []) q ne))

pub send_before_send : (q p : ℕ) (qs rs : List Reg) → q ≢ p → MayPass (Sends q qs) (Sends p rs)
send_before_send q p qs rs ne = record {
  words = λ items l. [];
  late = λ items l c xs. refl;
  early = λ items l c. refl;
  kept = λ g l c d xs ys e. e;
  needs = λ l c d ys. refl;
  takes_none = λ l c ys. refl;
  same = λ l c xs ys. ap (λ (sent : ℕ → List (List ℕ)). record l {
    state = record { pending = c; registers = l.state.registers; cursors = l.state.cursors };
    sent = sent;
  }) (both_sent l.sent q p (words_in l.state.registers qs) (words_in l.state.registers rs) ne);
}

pub send_before_action : (b : Action) (m : Need) (p : ℕ) (rs : List Reg) → IsPlain b m
    → ((f : Registers) (xs : List ℕ) → words_in (written f b xs) rs ≡ words_in f rs) → MayPass (Acts b) (Sends p rs)
send_before_action b m p rs plain stay = record {
  words = λ items l. [];
  late = λ items l c xs. ap (λ (k : Local). answer (without_packets items) k.state.cursors (need k.state)) (plain_moves b m plain l (Send p rs c) xs);
  early = λ items l c. refl;
  kept = λ g l c d xs ys e. e;
  needs = λ l c d ys. refl;
  takes_none = λ l c ys. refl;
  same = λ l c xs ys.
      ap (λ k. moved_on k ys) (plain_moves b m plain l (Send p rs c) xs)
      ∙ ap (λ (words : List ℕ). record (acted l b m c xs) { sent = put l.sent p (l.sent p ++ words ∷ []) }) (stay l.state.registers xs)
      ∙ sym (plain_moves b m plain (record l { sent = put l.sent p (l.sent p ++ words_in l.state.registers rs ∷ []) }) c xs);
}

pub send_before_print : (r : Reg) (p : ℕ) (rs : List Reg) → MayPass (Acts (action.Print r)) (Sends p rs)
send_before_print r p rs = record {
  words = λ items l. [];
  late = λ items l c xs. refl;
  early = λ items l c. refl;
  kept = λ g l c d xs ys e. e;
  needs = λ l c d ys. refl;
  takes_none = λ l c ys. refl;
  same = λ l c xs ys. refl;
}

pub action_before_receive : (q : ℕ) (qs : List Reg) (a : Action) (n : Need) → IsPlain a n
    → ((f : Registers) (xs ys : List ℕ) → written (put_each f qs xs) a ys ≡ put_each (written f a ys) qs xs) → MayPass (Awaits q qs) (Acts a)
action_before_receive q qs a n plain stay = record {
  words = λ items l. supplied items l.state.cursors n;
  late = λ items l c xs. ap (answer (without_packets items) l.state.cursors) (plain.needs (put_each l.state.registers qs xs)) ∙ has_words items l.state.cursors n plain.has;
  early = λ items l c. ap (answer (without_packets items) l.state.cursors) (plain.needs l.state.registers) ∙ has_words items l.state.cursors n plain.has;
  kept = λ g l c d xs ys e. ap (λ (k : Local). answer g k.state.cursors (need k.state)) (plain_moves a n plain l (Recv q qs d) ys) ∙ e;
  needs = λ l c d ys. ap (λ (k : Local). need k.state) (plain_moves a n plain l (Recv q qs d) ys);
  takes_none = λ l c ys. ap (λ (k : Local). k.taken) (plain_moves a n plain l c ys);
  same = λ l c xs ys.
      plain_moves a n plain (record l {
        state = record { pending = c; registers = put_each l.state.registers qs xs; cursors = l.state.cursors };
        taken = put l.taken q (suc (l.taken q));
      }) c ys
      ∙ ap (λ (f : Registers). record l {
        state = record { pending = c; registers = f; cursors = advanced l.state.cursors n };
        taken = put l.taken q (suc (l.taken q));
      }) (stay l.state.registers xs ys)
      ∙ sym (ap (λ k. moved_on k xs) (plain_moves a n plain l (Recv q qs c) ys));
}

pub action_before_send : (q : ℕ) (qs : List Reg) (a : Action) (n : Need) → IsPlain a n
    → ((f : Registers) (ys : List ℕ) → words_in (written f a ys) qs ≡ words_in f qs) → MayPass (Sends q qs) (Acts a)
action_before_send q qs a n plain stay = record {
  words = λ items l. supplied items l.state.cursors n;
  late = λ items l c xs. ap (answer (without_packets items) l.state.cursors) (plain.needs l.state.registers) ∙ has_words items l.state.cursors n plain.has;
  early = λ items l c. ap (answer (without_packets items) l.state.cursors) (plain.needs l.state.registers) ∙ has_words items l.state.cursors n plain.has;
  kept = λ g l c d xs ys e. ap (λ (k : Local). answer g k.state.cursors (need k.state)) (plain_moves a n plain l (Send q qs d) ys) ∙ e;
  needs = λ l c d ys. ap (λ (k : Local). need k.state) (plain_moves a n plain l (Send q qs d) ys);
  takes_none = λ l c ys. ap (λ (k : Local). k.taken) (plain_moves a n plain l c ys);
  same = λ l c xs ys.
      plain_moves a n plain (record l { sent = put l.sent q (l.sent q ++ words_in l.state.registers qs ∷ []) }) c ys
      ∙ ap (λ (words : List ℕ). record (acted l a n c ys) { sent = put l.sent q (l.sent q ++ words ∷ []) }) (sym (stay l.state.registers ys))
      ∙ sym (ap (λ k. moved_on k xs) (plain_moves a n plain l (Send q qs c) ys));
}

pub action_before_print : (r : Reg) (a : Action) (n : Need) → IsPlain a n → ((f : Registers) (ys : List ℕ) → written f a ys r.0 ≡ f r.0) → MayPass (Acts (action.Print r)) (Acts a)
action_before_print r a n plain stay = record {
  words = λ items l. supplied items l.state.cursors n;
  late = λ items l c xs. ap (answer (without_packets items) l.state.cursors) (plain.needs l.state.registers) ∙ has_words items l.state.cursors n plain.has;
  early = λ items l c. ap (answer (without_packets items) l.state.cursors) (plain.needs l.state.registers) ∙ has_words items l.state.cursors n plain.has;
  kept = λ g l c d xs ys e. ap (λ (k : Local). answer g k.state.cursors (need k.state)) (plain_moves a n plain l (Then (action.Print r) d) ys) ∙ answered g (advanced l.state.cursors n) l.state.cursors xs e;
  needs = λ l c d ys. ap (λ (k : Local). need k.state) (plain_moves a n plain l (Then (action.Print r) d) ys);
  takes_none = λ l c ys. ap (λ (k : Local). k.taken) (plain_moves a n plain l c ys);
  same = λ l c xs ys.
      plain_moves a n plain (record l { printed = l.printed ++ l.state.registers r.0 ∷ [] }) c ys
      ∙ ap (λ (word : ℕ). record (acted l a n c ys) { printed = l.printed ++ word ∷ [] }) (sym (stay l.state.registers ys))
      ∙ sym (ap (λ k. moved_on k xs) (plain_moves a n plain l (Then (action.Print r) c) ys));
}
  where
    answered : (g : Given) (k m : Cursors) (xs : List ℕ) → answer g m Nothing ≡ Some xs → answer g k Nothing ≡ Some xs
    answered g k m xs e = e

pub action_before_action : (b a : Action) (m n : Need) → IsPlain b m → IsPlain a n → ListsDiffer m n
    → ((f : Registers) (xs ys : List ℕ) → written (written f b xs) a ys ≡ written (written f a ys) b xs) → MayPass (Acts b) (Acts a)
action_before_action b a m n pb pa differ stay = record {
  words = λ items l. supplied items l.state.cursors n;
  late = λ items l c xs.
      ap (λ (k : Local). answer (without_packets items) k.state.cursors (need k.state)) (plain_moves b m pb l (Then a c) xs)
      ∙ ap (answer (without_packets items) (advanced l.state.cursors m)) (pa.needs (written l.state.registers b xs))
      ∙ has_words items (advanced l.state.cursors m) n pa.has
      ∙ ap Some (others_words items l.state.cursors m n differ);
  early = λ items l c. ap (answer (without_packets items) l.state.cursors) (pa.needs l.state.registers) ∙ has_words items l.state.cursors n pa.has;
  kept = λ g l c d xs ys e.
      ap (λ (k : Local). answer g k.state.cursors (need k.state)) (plain_moves a n pa l (Then b d) ys)
      ∙ ap (answer g (advanced l.state.cursors n)) (pb.needs (written l.state.registers a ys))
      ∙ others_answer g l.state.cursors m n differ
      ∙ ap (answer g l.state.cursors) (sym (pb.needs l.state.registers))
      ∙ e;
  needs = λ l c d ys. ap (λ (k : Local). need k.state) (plain_moves a n pa l (Then b d) ys) ∙ pb.needs (written l.state.registers a ys) ∙ sym (pb.needs l.state.registers);
  takes_none = λ l c ys. ap (λ (k : Local). k.taken) (plain_moves a n pa l c ys);
  same = λ l c xs ys.
      ap (λ k. moved_on k ys) (plain_moves b m pb l (Then a c) xs)
      ∙ plain_moves a n pa (acted l b m c xs) c ys
      ∙ ap₂ (λ (f : Registers) (k : Cursors). record l { state = record { pending = c; registers = f; cursors = k } }) (stay l.state.registers xs ys) (both_advanced l.state.cursors m n)
      ∙ sym (plain_moves b m pb (acted l a n c ys) c xs)
      ∙ sym (ap (λ k. moved_on k xs) (plain_moves a n pa l (Then b c) ys));
}
