-- Neighbours in joint code that may be exchanged.
use Rattle.std.proofs.Common.{◌≡◌, ◌≢◌, inl, inr, ℕ, Bool, true, false, List, [], ◌∷◌, refl, sym, ap, ap₂, ◌∙◌, subst}
use mathlib.Core.Path.{fun_ext}
use Rattle.vd_execution.specs.declared.instructions.Reg.{Reg}
use Rattle.vd_execution.specs.declared.instructions.Action.{Action}
use Rattle.vd_execution.specs.declared.instructions.Action.TheVariants as action
use Rattle.vd_execution.specs.Registers.{Registers, put, put_each, written}
use Rattle.vd_execution.specs.Step.{Source, Cursors, Need, advanced, need_of_action, word_printed, words_in}
use Rattle.vd_execution.specs.World.{Tape}
use Rattle.vd_execution.specs.Joint.{Host, Hosts, acted, said_to, has_heard, supplied, with_print, Agrees}
use Rattle.vd_execution.proofs.Front.{same_or_not, put_same, put_other, put_twice, put_itself, put_commutes}
use Rattle.vd_reorder.specs.Neighbours.{IsPlain, IsApart, AreApart}
use Rattle.vd_reorder.specs.ReorderLawsTesting.{is_simple}
use Rattle.vd_reorder.proofs.Instances.{words_stay}
use Rattle.vd_reorder.specs.Turning.{Turn, Does, Tells, gone_by, Compares, Look, look, AreAlike, MayTurn}
use Rattle.vd_reorder.specs.ChoreographyCommutingNeighbours.{ActsApart, IsBeside, ActBesideMessage, MessageBesideAct, AreBeside, MessagesApart}
use Rattle.vd_reorder.proofs.Alike.{act_look, heard_look}

-- ---- what is seen of all hosts

abbrev pub Looks : Type 0
Looks = ℕ → Look

abbrev pub looks : Hosts → Looks
looks w h = look (w h)

abbrev pub place : Turn → ℕ
place (Does h a) = h
place (Tells a said b heard) = b

abbrev pub new_look : Tape → Turn → Looks → Look
new_look t (Does h a) l = act_look (t h) a (l h)
new_look t (Tells a said b heard) l = heard_look heard (words_in (l a).0 said) (l b)

abbrev pub looked : Tape → Turn → Looks → Looks
looked t x l = put l (place x) (new_look t x l)

put_look : (w : Hosts) (h : ℕ) (x : Host) (i : ℕ) → look (put w h x i) ≡ put (looks w) h (look x) i
put_look w h x i =
    elim (same_or_not i h) [
      | inl e ↦ ap (λ k. look (put w h x k)) e ∙ ap look (put_same w h x) ∙ sym (put_same (looks w) h (look x)) ∙ ap (put (looks w) h (look x)) (sym e)
      | inr ne ↦ ap look (put_other w h x i ne) ∙ sym (put_other (looks w) h (look x) i ne)
    ]

pub gone_looks : (t : Tape) (x : Turn) (w : Hosts) → looks (gone_by t x w) ≡ looked t x (looks w)
gone_looks t (Does h a) w = fun_ext (put_look w h (acted (t h) a (w h)))
gone_looks t (Tells a said b heard) w =
    let told : Hosts = put w a (said_to b (words_in (w a).registers said) (w a)) in
    let before : looks told ≡ looks w = fun_ext (put_look w a (said_to b (words_in (w a).registers said) (w a))) ∙ put_itself (looks w) a in
    fun_ext (put_look told b (has_heard heard (words_in (w a).registers said) (w b)))
    ∙ ap (λ (l : Looks). put l b (heard_look heard (words_in (w a).registers said) (look (w b)))) before

-- ---- two that turn as far as this is seen

abbrev pub LooksTurn : Turn → Turn → Type 0
LooksTurn x y = (t : Tape) (l : Looks) → looked t y (looked t x l) ≡ looked t x (looked t y l)

pub alike_by : (x y : Turn) → LooksTurn x y → (t : Tape) (w : Hosts) → AreAlike (gone_by t y (gone_by t x w)) (gone_by t x (gone_by t y w))
alike_by x y turn t w h =
    ap (λ (l : Looks). l h)
    (gone_looks t y (gone_by t x w) ∙ ap (looked t y) (gone_looks t x w) ∙ turn t (looks w) ∙ sym (ap (looked t x) (gone_looks t y w)) ∙ sym (gone_looks t x (gone_by t y w)))

-- each at its own host
pub far_turn : (x y : Turn) → place x ≢ place y → ((t : Tape) (l : Looks) → new_look t y (looked t x l) ≡ new_look t y l)
    → ((t : Tape) (l : Looks) → new_look t x (looked t y l) ≡ new_look t x l) → LooksTurn x y
far_turn x y far later earlier t l =
    ap (put (looked t x l) (place y)) (later t l)
    ∙ put_commutes l (place x) (place y) (new_look t x l) (new_look t y l) far
    ∙ sym (ap (put (looked t y l) (place x)) (earlier t l))

-- both at one host
pub near_turn : (t : Tape) (x y : Turn) (l : Looks) (h : ℕ) (a b : Look) → a ≡ b → put (put l h (new_look t x l)) h a ≡ put (put l h (new_look t y l)) h b
near_turn t x y l h a b e = put_twice l h (new_look t x l) a ∙ ap (put l h) e ∙ sym (put_twice l h (new_look t y l) b)

-- ---- two acts

agrees_elsewhere : (t : Tape) (w : Hosts) (g h : ℕ) (a b : Action) → g ≢ h → Agrees (gone_by t (Does g a) w h).registers b → Agrees (w h).registers b
agrees_elsewhere t w g h a b ne = subst (λ (s : Host). Agrees s.registers b) (put_other w g (acted (t g) a (w g)) h (λ e. ne (sym e)))

agrees_there : (t : Tape) (w : Hosts) (g h : ℕ) (a b : Action) → g ≢ h → Agrees (w g).registers a → Agrees (gone_by t (Does h b) w g).registers a
agrees_there t w g h a b ne = subst (λ (s : Host). Agrees s.registers a) (sym (put_other w h (acted (t h) b (w h)) g ne))

pub acts_apart : ActsApart
acts_apart g h a b ne = record {
  alike = alike_by (Does g a) (Does h b) (far_turn (Does g a) (Does h b) ne
      (λ t l. ap (act_look (t h) b) (put_other l g (act_look (t g) a (l g)) h (λ e. ne (sym e))))
      (λ t l. ap (act_look (t g) a) (put_other l h (act_look (t h) b (l h)) g ne)));
  first = λ t w. agrees_elsewhere t w g h a b ne;
  second = λ t w. agrees_there t w g h a b ne;
}

-- ---- an act and a message

pub agrees : (a : Action) → is_simple a ≡ true → (f : Registers) → Agrees f a
agrees (action.Const r k) e f = tt
agrees (action.Copy r x) e f = tt
agrees (action.Apply o r x y) e f = tt
agrees (action.Shl r x k) e f = tt
agrees (action.Shr r x k) e f = tt
agrees (action.Mux r c x y) e f = tt
agrees (action.Own r) e f = tt
agrees (action.Triple p a b c) e f = tt
agrees (action.Bits p a b c) e f = tt
agrees (action.Pair p s x) e f = tt
agrees (action.Input r) e f = tt
agrees (action.Print r) e f = tt
agrees (action.Hash d n v) e f = tt
agrees (action.Same x y) e f = absurd cc
agrees (action.Zero r count) e f = tt
agrees (action.Get r x count i) e f = tt
agrees (action.Put x count i s) e f = tt

-- words at a host where only some of its registers may have changed
pub words_at : (l : Looks) (h : ℕ) (x : Look) (from : ℕ) (said : List Reg) → (h ≡ from → words_in x.0 said ≡ words_in (l h).0 said)
    → words_in (put l h x from).0 said ≡ words_in (l from).0 said
words_at l h x from said stay =
    elim (same_or_not from h) [
      | inl e ↦ ap (λ (k : ℕ). words_in (put l h x k).0 said) e ∙ ap (λ (k : Look). words_in k.0 said) (put_same l h x) ∙ stay (sym e) ∙ ap (λ (k : ℕ). words_in (l k).0 said) (sym e)
      | inr ne ↦ ap (λ (k : Look). words_in k.0 said) (put_other l h x from ne)
    ]

module _ (a : Action) (n : Need) (from : ℕ) (said : List Reg) (to : ℕ) (heard : List Reg) (plain : IsPlain a n) (apart : from ≢ to) where
  abbrev message : Turn
  message = Tells from said to heard

  -- the act is done by another host than the receiver
  far_act : (h : ℕ) → h ≢ to → IsBeside h a from said to heard → LooksTurn (Does h a) message
  far_act h far beside =
      far_turn (Does h a) message far
      (λ t l. ap₂ (λ (words : List ℕ) (k : Look). heard_look heard words k)
      (words_at l h (act_look (t h) a (l h)) from said (λ e. beside.leaves e (l h).0 (supplied (t h) (l h).1.0 (need_of_action (l h).0 a))))
      (put_other l h (act_look (t h) a (l h)) to (λ e. far (sym e))))
      (λ t l. ap (act_look (t h) a) (put_other l to (heard_look heard (words_in (l from).0 said) (l to)) h far))

  -- what an act makes of a host that has other words, but needs and prints the same
  same_act : (f g : Registers) (c : Cursors) (p xs : List ℕ) (items : Source → ℕ → List ℕ) → ((ys : List ℕ) → written g a ys ≡ put_each (written f a ys) heard xs)
      → act_look items a (g, (c, p)) ≡ heard_look heard xs (act_look items a (f, (c, p)))
  same_act f g c p xs items past =
      ap (λ (m : Need). (written g a (supplied items c m), (advanced c m, with_print p (word_printed g a)))) (plain.needs g)
      ∙ ap (λ o. (written g a (supplied items c n), (advanced c n, with_print p o))) (plain.silent g)
      ∙ ap (λ (r : Registers). (r, (advanced c n, p))) (past (supplied items c n))
      ∙ sym (ap (λ o. (put_each (written f a (supplied items c n)) heard xs, (advanced c n, with_print p o))) (plain.silent f))
      ∙ sym (ap (λ (m : Need). (put_each (written f a (supplied items c m)) heard xs, (advanced c m, with_print p (word_printed f a)))) (plain.needs f))

  -- by the receiver
  near_act : IsBeside to a from said to heard → LooksTurn (Does to a) message
  near_act beside t l =
      near_turn t (Does to a) message l to (new_look t message (looked t (Does to a) l)) (new_look t (Does to a) (looked t message l))
      (ap₂ (λ (words : List ℕ) (k : Look). heard_look heard words k)
      (ap (λ (k : Look). words_in k.0 said) (put_other l to (act_look (t to) a (l to)) from apart)) (put_same l to (act_look (t to) a (l to)))
      ∙ sym (same_act (l to).0 (put_each (l to).0 heard (words_in (l from).0 said)) (l to).1.0 (l to).1.1 (words_in (l from).0 said) (t to)
      (λ ys. beside.passes refl (l to).0 (words_in (l from).0 said) ys))
      ∙ sym (ap (act_look (t to) a) (put_same l to (heard_look heard (words_in (l from).0 said) (l to)))))

  act_turns : (h : ℕ) → IsBeside h a from said to heard → LooksTurn (Does h a) message
  act_turns h beside =
      elim (same_or_not h to) [
        | inl e ↦ subst (λ (k : ℕ). LooksTurn (Does k a) message) (sym e) (near_act (subst (λ (k : ℕ). IsBeside k a from said to heard) e beside))
        | inr ne ↦ far_act h ne beside
      ]

pub act_beside_message : ActBesideMessage
act_beside_message h a n from said to heard simple plain apart beside = record {
  alike = alike_by (Does h a) (Tells from said to heard) (act_turns a n from said to heard plain apart h beside);
  first = λ t w compares. tt;
  second = λ t w compares. agrees a simple (gone_by t (Tells from said to heard) w h).registers;
}

pub message_beside_act : MessageBesideAct
message_beside_act h a n from said to heard simple plain apart beside = record {
  alike = alike_by (Tells from said to heard) (Does h a) (λ t l. sym (act_turns a n from said to heard plain apart h beside t l));
  first = λ t w compares. agrees a simple (w h).registers;
  second = λ t w compares. tt;
}

-- ---- two messages

put_past : (f : Registers) (r : Reg) (x : ℕ) (vs : List Reg) (ys : List ℕ) → IsApart r vs → put_each (put f r.0 x) vs ys ≡ put (put_each f vs ys) r.0 x
put_past f r x [] ys a = refl
put_past f r x (v ∷ vs) [] a = refl
put_past f r x (v ∷ vs) (y ∷ ys) a = ap (λ g. put_each g vs ys) (put_commutes f r.0 v.0 x y a.0) ∙ put_past (put f v.0 y) r x vs ys a.1

puts_commute : (f : Registers) (ws : List Reg) (xs : List ℕ) (vs : List Reg) (ys : List ℕ) → AreApart ws vs → put_each (put_each f ws xs) vs ys ≡ put_each (put_each f vs ys) ws xs
puts_commute f [] xs vs ys a = refl
puts_commute f (r ∷ rs) [] vs ys a = refl
puts_commute f (r ∷ rs) (x ∷ xs) vs ys a = puts_commute (put f r.0 x) rs xs vs ys a.1 ∙ ap (λ g. put_each g rs xs) (put_past f r x vs ys a.0)

-- what a message fills leaves the words that another one sends
pub filled_stays : (t : Tape) (l : Looks) (a : ℕ) (said : List Reg) (b : ℕ) (heard : List Reg) (c : ℕ) (says : List Reg) → (b ≡ c → AreApart says heard)
    → words_in (looked t (Tells a said b heard) l c).0 says ≡ words_in (l c).0 says
filled_stays t l a said b heard c says apart =
    words_at l b (heard_look heard (words_in (l a).0 said) (l b)) c says (λ e. words_stay (l b).0 heard (words_in (l a).0 said) says (apart e))

far_messages : (a : ℕ) (said : List Reg) (b : ℕ) (heard : List Reg) (c : ℕ) (says : List Reg) (d : ℕ) (hears : List Reg) → b ≢ d
    → AreBeside a said b heard c says d hears → LooksTurn (Tells a said b heard) (Tells c says d hears)
far_messages a said b heard c says d hears far beside =
    far_turn (Tells a said b heard) (Tells c says d hears) far
    (λ t l. ap₂ (λ (words : List ℕ) (k : Look). heard_look hears words k) (filled_stays t l a said b heard c says beside.first)
    (put_other l b (heard_look heard (words_in (l a).0 said) (l b)) d (λ e. far (sym e))))
    (λ t l. ap₂ (λ (words : List ℕ) (k : Look). heard_look heard words k) (filled_stays t l c says d hears a said beside.second)
    (put_other l d (heard_look hears (words_in (l c).0 says) (l d)) b far))

near_messages : (a : ℕ) (said : List Reg) (b : ℕ) (heard : List Reg) (c : ℕ) (says : List Reg) (hears : List Reg) → a ≢ b → c ≢ b
    → AreApart heard hears → LooksTurn (Tells a said b heard) (Tells c says b hears)
near_messages a said b heard c says hears na nc apart t l =
    near_turn t (Tells a said b heard) (Tells c says b hears) l b
    (new_look t (Tells c says b hears) (looked t (Tells a said b heard) l)) (new_look t (Tells a said b heard) (looked t (Tells c says b hears) l))
    (ap₂ (λ (words : List ℕ) (k : Look). heard_look hears words k)
    (ap (λ (k : Look). words_in k.0 says) (put_other l b (heard_look heard (words_in (l a).0 said) (l b)) c nc)) (put_same l b (heard_look heard (words_in (l a).0 said) (l b)))
    ∙ ap (λ (f : Registers). (f, (l b).1)) (puts_commute (l b).0 heard (words_in (l a).0 said) hears (words_in (l c).0 says) apart)
    ∙ sym (ap₂ (λ (words : List ℕ) (k : Look). heard_look heard words k)
    (ap (λ (k : Look). words_in k.0 said) (put_other l b (heard_look hears (words_in (l c).0 says) (l b)) a na)) (put_same l b (heard_look hears (words_in (l c).0 says) (l b)))))

messages_turn : (a : ℕ) (said : List Reg) (b : ℕ) (heard : List Reg) (c : ℕ) (says : List Reg) (d : ℕ) (hears : List Reg) → a ≢ b → c ≢ d
    → AreBeside a said b heard c says d hears → LooksTurn (Tells a said b heard) (Tells c says d hears)
messages_turn a said b heard c says d hears na nc beside =
    elim (same_or_not d b) [
      | inl e ↦
          subst (λ (k : ℕ). LooksTurn (Tells a said b heard) (Tells c says k hears)) (sym e)
          (near_messages a said b heard c says hears na (λ s. nc (s ∙ sym e)) (beside.filled (sym e)))
      | inr ne ↦ far_messages a said b heard c says d hears (λ e. ne (sym e)) beside
    ]

pub messages_apart : MessagesApart
messages_apart a said b heard c says d hears na nc beside = record {
  alike = alike_by (Tells a said b heard) (Tells c says d hears) (messages_turn a said b heard c says d hears na nc beside);
  first = λ t w compares. tt;
  second = λ t w compares. tt;
}
