-- Acts that print or compare, beside others.
use Rattle.std.proofs.Common.{◌≡◌, ◌≢◌, inl, inr, ℕ, nat_eq, Bool, true, false, if◌then◌else◌, List, [], ◌∷◌, ◌++◌, refl, sym, ap, ap₂, ◌∙◌, subst}
use Rattle.vd_execution.specs.declared.instructions.Reg.{Reg}
use Rattle.vd_execution.specs.declared.instructions.Action.{Action}
use Rattle.vd_execution.specs.declared.instructions.Action.TheVariants as action
use Rattle.vd_execution.specs.Registers.{Registers, put_each, written, nth}
use Rattle.vd_execution.specs.Step.{Source, Cursors, Need, Nothing, Unequal, advanced, need_of_action, words_in}
use Rattle.vd_execution.specs.World.{Tape}
use Rattle.vd_execution.specs.Joint.{Host, Hosts, acted, supplied, Agrees}
use Rattle.vd_execution.proofs.Front.{same_or_not, put_same, put_other}
use Rattle.vd_reorder.specs.Neighbours.{IsPlain, AreApart}
use Rattle.vd_reorder.specs.ReorderLawsTesting.{is_simple, reads}
use Rattle.vd_reorder.specs.Turning.{Does, Tells, gone_by, Look, MayTurn}
use Rattle.vd_reorder.specs.ChoreographyCommutingNeighbours.{ShownBesideAct, ShownBesideMessage}
use Rattle.vd_reorder.proofs.Alike.{act_look, heard_look}
use Rattle.vd_reorder.proofs.Instances.{words_stay}
use Rattle.vd_reorder.proofs.Own.{plain_look}
use Rattle.vd_reorder.proofs.Apart.{Looks, looks, gone_looks, looked, new_look, LooksTurn, alike_by, far_turn, near_turn, words_at, filled_stays, agrees}

-- what is printed, behind what was before, where an act reads these words
abbrev shown : Action → List ℕ → List ℕ → List ℕ
shown (action.Print r) ws p = p ++ nth ws 0 ∷ []
shown a ws p = p

none_taken : (c : Cursors) (b : Bool) (u v : ℕ) → advanced c (if b then Nothing else Unequal u v) ≡ c
none_taken c true u v = refl
none_taken c false u v = refl

shown_look : (items : Source → ℕ → List ℕ) (a : Action) → is_simple a ≡ false → (f : Registers) (c : Cursors) (q : List ℕ)
    → act_look items a (f, (c, q)) ≡ (f, (c, shown a (words_in f (reads a)) q))
shown_look items (action.Const r k) e f g q = absurd cc
shown_look items (action.Copy r x) e f g q = absurd cc
shown_look items (action.Apply o r x y) e f g q = absurd cc
shown_look items (action.Shl r x k) e f g q = absurd cc
shown_look items (action.Shr r x k) e f g q = absurd cc
shown_look items (action.Mux r c x y) e f g q = absurd cc
shown_look items (action.Own r) e f g q = absurd cc
shown_look items (action.Triple p a b c) e f g q = absurd cc
shown_look items (action.Bits p a b c) e f g q = absurd cc
shown_look items (action.Pair p s x) e f g q = absurd cc
shown_look items (action.Input r) e f g q = absurd cc
shown_look items (action.Print r) e f c q = refl
shown_look items (action.Hash d n v) e f g q = absurd cc
shown_look items (action.Same x y) e f c q = ap (λ (k : Cursors). (f, (k, q))) (none_taken c (nat_eq (f x.0) (f y.0)) (f x.0) (f y.0))
shown_look items (action.Zero r count) e f g q = absurd cc
shown_look items (action.Get r x count i) e f g q = absurd cc
shown_look items (action.Put x count i s) e f g q = absurd cc

-- what is compared is the same where the words are
agrees_on : (a : Action) (f g : Registers) → words_in f (reads a) ≡ words_in g (reads a) → Agrees f a → Agrees g a
agrees_on (action.Const r k) f g e same = tt
agrees_on (action.Copy r x) f g e same = tt
agrees_on (action.Apply o r x y) f g e same = tt
agrees_on (action.Shl r x k) f g e same = tt
agrees_on (action.Shr r x k) f g e same = tt
agrees_on (action.Mux r c x y) f g e same = tt
agrees_on (action.Own r) f g e same = tt
agrees_on (action.Triple p a b c) f g e same = tt
agrees_on (action.Bits p a b c) f g e same = tt
agrees_on (action.Pair p s x) f g e same = tt
agrees_on (action.Input r) f g e same = tt
agrees_on (action.Print r) f g e same = tt
agrees_on (action.Hash d n v) f g e same = tt
agrees_on (action.Same x y) f g e same = sym (ap (λ ws. nth ws 0) e) ∙ same ∙ ap (λ ws. nth ws 1) e
agrees_on (action.Zero r count) f g e same = tt
agrees_on (action.Get r x count i) f g e same = tt
agrees_on (action.Put x count i s) f g e same = tt

-- ---- beside another act of the host

module _ (h : ℕ) (a b : Action) (n : Need) (tells : is_simple a ≡ false) (simple : is_simple b ≡ true) (plain : IsPlain b n)
    (stay : (f : Registers) (xs : List ℕ) → words_in (written f b xs) (reads a) ≡ words_in f (reads a)) where
  both_looks : (items : Source → ℕ → List ℕ) (f : Registers) (c : Cursors) (q : List ℕ)
      → act_look items b (act_look items a (f, (c, q))) ≡ act_look items a (act_look items b (f, (c, q)))
  both_looks items f c q =
      let ys = supplied items c n in
      ap (act_look items b) (shown_look items a tells f c q)
      ∙ plain_look items b n plain f c (shown a (words_in f (reads a)) q)
      ∙ ap (λ (ws : List ℕ). (written f b ys, (advanced c n, shown a ws q))) (sym (stay f ys))
      ∙ sym (shown_look items a tells (written f b ys) (advanced c n) q)
      ∙ sym (ap (act_look items a) (plain_look items b n plain f c q))

  turns : LooksTurn (Does h a) (Does h b)
  turns t l =
      near_turn t (Does h a) (Does h b) l h (new_look t (Does h b) (looked t (Does h a) l)) (new_look t (Does h a) (looked t (Does h b) l))
      (ap (act_look (t h) b) (put_same l h (act_look (t h) a (l h)))
      ∙ both_looks (t h) (l h).0 (l h).1.0 (l h).1.1
      ∙ sym (ap (act_look (t h) a) (put_same l h (act_look (t h) b (l h)))))

  -- its words are the same behind the other act
  words_are : (t : Tape) (w : Hosts) → words_in (gone_by t (Does h b) w h).registers (reads a) ≡ words_in (w h).registers (reads a)
  words_are t w =
      ap (λ (s : Host). words_in s.registers (reads a)) (put_same w h (acted (t h) b (w h)))
      ∙ stay (w h).registers (supplied (t h) (w h).cursors (need_of_action (w h).registers b))

  before_act : MayTurn (Does h a) (Does h b)
  before_act = record {
    alike = alike_by (Does h a) (Does h b) turns;
    first = λ t w compares. agrees b simple (w h).registers;
    second = λ t w compares. agrees_on a (w h).registers (gone_by t (Does h b) w h).registers (sym (words_are t w)) compares;
  }

  behind_act : MayTurn (Does h b) (Does h a)
  behind_act = record {
    alike = alike_by (Does h b) (Does h a) (λ t l. sym (turns t l));
    first = λ t w compares. agrees_on a (gone_by t (Does h b) w h).registers (w h).registers (words_are t w) compares;
    second = λ t w compares. agrees b simple (gone_by t (Does h a) w h).registers;
  }

pub shown_beside_act : ShownBesideAct
shown_beside_act h a b n tells simple plain stay = (before_act h a b n tells simple plain stay, behind_act h a b n tells simple plain stay)

-- ---- beside a message

module _ (a : Action) (from : ℕ) (said : List Reg) (to : ℕ) (heard : List Reg) (tells : is_simple a ≡ false) (apart : from ≢ to) where
  far_act : (h : ℕ) → h ≢ to → LooksTurn (Does h a) (Tells from said to heard)
  far_act h far =
      far_turn (Does h a) (Tells from said to heard) far
      (λ t l. ap₂ (λ (words : List ℕ) (k : Look). heard_look heard words k)
      (words_at l h (act_look (t h) a (l h)) from said (λ e. ap (λ (k : Look). words_in k.0 said) (shown_look (t h) a tells (l h).0 (l h).1.0 (l h).1.1)))
      (put_other l h (act_look (t h) a (l h)) to (λ e. far (sym e))))
      (λ t l. ap (act_look (t h) a) (put_other l to (heard_look heard (words_in (l from).0 said) (l to)) h far))

  same_act : AreApart (reads a) heard → (items : Source → ℕ → List ℕ) (f : Registers) (c : Cursors) (q xs : List ℕ)
      → act_look items a (put_each f heard xs, (c, q)) ≡ heard_look heard xs (act_look items a (f, (c, q)))
  same_act others items f c q xs =
      shown_look items a tells (put_each f heard xs) c q
      ∙ ap (λ (ws : List ℕ). (put_each f heard xs, (c, shown a ws q))) (words_stay f heard xs (reads a) others)
      ∙ sym (ap (heard_look heard xs) (shown_look items a tells f c q))

  near_act : AreApart (reads a) heard → LooksTurn (Does to a) (Tells from said to heard)
  near_act others t l =
      near_turn t (Does to a) (Tells from said to heard) l to
      (new_look t (Tells from said to heard) (looked t (Does to a) l)) (new_look t (Does to a) (looked t (Tells from said to heard) l))
      (ap₂ (λ (words : List ℕ) (k : Look). heard_look heard words k)
      (ap (λ (k : Look). words_in k.0 said) (put_other l to (act_look (t to) a (l to)) from apart)) (put_same l to (act_look (t to) a (l to)))
      ∙ sym (same_act others (t to) (l to).0 (l to).1.0 (l to).1.1 (words_in (l from).0 said))
      ∙ sym (ap (act_look (t to) a) (put_same l to (heard_look heard (words_in (l from).0 said) (l to)))))

  act_turns : (h : ℕ) → (h ≡ to → AreApart (reads a) heard) → LooksTurn (Does h a) (Tells from said to heard)
  act_turns h others =
      elim (same_or_not h to) [
        | inl e ↦ subst (λ (k : ℕ). LooksTurn (Does k a) (Tells from said to heard)) (sym e) (near_act (others e))
        | inr ne ↦ far_act h ne
      ]

  -- its words are the same behind the message
  words_heard : (h : ℕ) → (h ≡ to → AreApart (reads a) heard) → (t : Tape) (w : Hosts)
      → words_in (gone_by t (Tells from said to heard) w h).registers (reads a) ≡ words_in (w h).registers (reads a)
  words_heard h others t w =
      ap (λ (k : Looks). words_in (k h).0 (reads a)) (gone_looks t (Tells from said to heard) w)
      ∙ filled_stays t (looks w) from said to heard h (reads a) (λ e. others (sym e))

  before_message : (h : ℕ) → (h ≡ to → AreApart (reads a) heard) → MayTurn (Does h a) (Tells from said to heard)
  before_message h others = record {
    alike = alike_by (Does h a) (Tells from said to heard) (act_turns h others);
    first = λ t w compares. tt;
    second = λ t w compares. agrees_on a (w h).registers (gone_by t (Tells from said to heard) w h).registers (sym (words_heard h others t w)) compares;
  }

  behind_message : (h : ℕ) → (h ≡ to → AreApart (reads a) heard) → MayTurn (Tells from said to heard) (Does h a)
  behind_message h others = record {
    alike = alike_by (Tells from said to heard) (Does h a) (λ t l. sym (act_turns h others t l));
    first = λ t w compares. agrees_on a (gone_by t (Tells from said to heard) w h).registers (w h).registers (words_heard h others t w) compares;
    second = λ t w compares. tt;
  }

pub shown_beside_message : ShownBesideMessage
shown_beside_message h a from said to heard tells apart others =
    (before_message a from said to heard tells apart h others, behind_message a from said to heard tells apart h others)
