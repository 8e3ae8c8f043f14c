-- Worlds in which every packet that was sent is taken, and steps from one to the next.
use Rattle.std.proofs.Common.{◌≡◌, ◌≢◌, ℕ, suc, nat_eq, nat_lt, if◌then◌else◌, Bool, true, false, List, [], ◌∷◌, ◌++◌, Option, Some, None, ◌⊎◌, inl, inr, refl, sym, ap, ap₂, ◌∙◌, length}
use Rattle.std.specs.Prelude.{slice_get}
use Rattle.std.proofs.lemmas.Bool.{eq-eqb}
use mathlib.Core.Path.{fun_ext}
use Rattle.vd_execution.specs.declared.instructions.Reg.{Reg}
use Rattle.vd_execution.specs.declared.instructions.Action.{Action}
use Rattle.vd_execution.specs.declared.instructions.Action.TheVariants as action
use Rattle.vd_execution.specs.Registers.{Registers, put}
use Rattle.vd_execution.specs.Code.{Code, Then, Send, Recv, Choose, Repeat, followed_by}
use Rattle.vd_execution.specs.Step.{Source, State, Cursors, Given, Nothing, Unequal, answer, of_length, need_of_action, word_printed, deed_of_print, next, words_in}
use Rattle.vd_execution.specs.World.{Local, World, Tape, endless, given, done, with_answer, with_host, step}
use Rattle.vd_execution.specs.Joint.{Host, Hosts, Agrees, supplied, acted, with_print, said_to, has_heard, after_msg, resting}
use Rattle.vd_execution.proofs.Puts.{same_or_not, put_same, put_other}
use Rattle.vd_execution.proofs.Confluence.{Through}

-- a host of the joint run with code before it
abbrev pub local_of : Code → Host → (ℕ → ℕ) → Local
local_of c s taken = record {
  state = record { pending = c; registers = s.registers; cursors = s.cursors };
  printed = s.printed;
  sent = s.sent;
  taken = taken;
}

abbrev pub all_taken : Hosts → ℕ → ℕ → ℕ
all_taken w h p = length ((w p).sent h)

-- one host of a resting world goes on, and sends nothing
pub sent_put : (w : Hosts) (h : ℕ) (s : Host) → s.sent ≡ (w h).sent → (p : ℕ) → (put w h s p).sent ≡ (w p).sent
sent_put w h s e p =
    elim (same_or_not p h) [
      | inl same ↦ ap (λ q. (put w h s q).sent) same ∙ ap (λ x. x.sent) (put_same w h s) ∙ e ∙ ap (λ q. (w q).sent) (sym same)
      | inr other ↦ ap (λ x. x.sent) (put_other w h s p other)
    ]

taken_put : (w : Hosts) (h : ℕ) (s : Host) → s.sent ≡ (w h).sent → (j : ℕ) → all_taken w j ≡ all_taken (put w h s) j
taken_put w h s e j = fun_ext (λ p. ap (λ x. length (x j)) (sym (sent_put w h s e p)))

same_local : (c d : Code) (s u : Host) (f g : ℕ → ℕ) → c ≡ d → s ≡ u → f ≡ g → local_of c s f ≡ local_of d u g
same_local c d s u f g e i k = ap (λ x. local_of x s f) e ∙ ap (λ x. local_of d x f) i ∙ ap (local_of d u) k

pub resting_put : (code : ℕ → Code) (w : Hosts) (h : ℕ) (c : Code) (s : Host) → s.sent ≡ (w h).sent
    → put (resting code w) h (local_of c s (all_taken w h)) ≡ resting (put code h c) (put w h s)
resting_put code w h c s e = fun_ext (λ j. at j (same_or_not j h))
  where
    there : put (resting code w) h (local_of c s (all_taken w h)) h ≡ resting (put code h c) (put w h s) h
    there = put_same (resting code w) h (local_of c s (all_taken w h))
        ∙ same_local c (put code h c h) s (put w h s h) (all_taken w h) (all_taken (put w h s) h) (sym (put_same code h c)) (sym (put_same w h s)) (taken_put w h s e h)

    at : (j : ℕ) → (j ≡ h) ⊎ (j ≢ h) → put (resting code w) h (local_of c s (all_taken w h)) j ≡ resting (put code h c) (put w h s) j
    at j (inl same) = ap (put (resting code w) h (local_of c s (all_taken w h))) same ∙ there ∙ ap (resting (put code h c) (put w h s)) (sym same)
    at j (inr other) =
        put_other (resting code w) h (local_of c s (all_taken w h)) j other
        ∙ same_local (code j) (put code h c j) (w j) (put w h s j) (all_taken w j) (all_taken (put w h s) j) (sym (put_other code h c j other)) (sym (put_other w h s j other)) (taken_put w h s e j)

pub same_resting : (code kode : ℕ → Code) (w v : Hosts) → ((h : ℕ) → code h ≡ kode h) → ((h : ℕ) → w h ≡ v h) → resting code w ≡ resting kode v
same_resting code kode w v e i = ap₂ (λ (x : ℕ → Code) (y : Hosts). resting x y) (fun_ext e) (fun_ext i)

-- ---- a host that acts by itself

met : (g : Given) (items : Source → ℕ → List ℕ) (c : Cursors) (x y : ℕ) (b : Bool) → b ≡ true
    → answer g c (if b then Nothing else Unequal x y) ≡ Some (supplied items c (if b then Nothing else Unequal x y))
met g items c x y true e = refl
met g items c x y false e = absurd cc

gets : (t : Tape) (v : World) (h : ℕ) (l : Local) (f : Registers) (c : Cursors) (a : Action) → Agrees f a
    → answer (given (endless t) v h l) c (need_of_action f a) ≡ Some (supplied (t h) c (need_of_action f a))
gets t v h l f c (action.Const r k) e = refl
gets t v h l f c (action.Copy r x) e = refl
gets t v h l f c (action.Apply o r x y) e = refl
gets t v h l f c (action.Shl r x k) e = refl
gets t v h l f c (action.Shr r x k) e = refl
gets t v h l f c (action.Mux r x y z) e = refl
gets t v h l f c (action.Own r) e = refl
gets t v h l f c (action.Triple p x y z) e = refl
gets t v h l f c (action.Bits p x y z) e = refl
gets t v h l f c (action.Pair p s x) e = refl
gets t v h l f c (action.Input r) e = refl
gets t v h l f c (action.Print r) e = refl
gets t v h l f c (action.Hash d n x) e = refl
gets t v h l f c (action.Same x y) e = met (given (endless t) v h l) (t h) c (f x.0) (f y.0) (nat_eq (f x.0) (f y.0)) (eq-eqb (f x.0) (f y.0) e)
gets t v h l f c (action.Zero r k) e = refl
gets t v h l f c (action.Get r x k i) e = refl
gets t v h l f c (action.Put x k i s) e = refl

prints : (l : Local) (m : State) (o : Option ℕ) → done l m (deed_of_print o) ≡ record l { state = m; printed = with_print l.printed o }
prints l m None = refl
prints l m (Some x) = refl

pub acts : (t : Tape) (v : World) (h : ℕ) (a : Action) (c : Code) (s : Host) (taken : ℕ → ℕ) → Agrees s.registers a → v h ≡ local_of (Then a c) s taken
    → step (endless t) h v ≡ Some (put v h (local_of c (acted (t h) a s) taken))
acts t v h a c s taken agrees e =
    let l : Local = local_of (Then a c) s taken in
    let xs : List ℕ = supplied (t h) s.cursors (need_of_action s.registers a) in
    ap (with_host (endless t) v h) e
    ∙ ap (with_answer v h l) (gets t v h l s.registers s.cursors a agrees)
    ∙ ap (λ (k : Local). Some (put v h k)) (prints l (next l.state xs) (word_printed s.registers a))

-- ---- a step that no other host sees

pub record Quietly (t : Tape) (c : Code) (s : Host) (d : Code) (u : Host) : Type 0 where
  pub goes : (h : ℕ) (v : World) (taken : ℕ → ℕ) → v h ≡ local_of c s taken → step (endless t) h v ≡ Some (put v h (local_of d u taken))

pub branch_quietly : (t : Tape) (g : ℕ) (first other rest : Code) (s : Host) (b : Bool) → nat_eq (s.registers g) 0 ≡ b
    → Quietly t (Choose g first other rest) s (followed_by (if b then other else first) rest) s
branch_quietly t g first other rest s b e = record {
  goes = λ h v taken i. ap (with_host (endless t) v h) i ∙ ap (λ (x : Bool). Some (put v h (local_of (followed_by (if x then other else first) rest) s taken))) e;
}

pub turn_quietly : (t : Tape) (r i count : ℕ) (body rest : Code) (s : Host) → nat_lt i count ≡ true
    → Quietly t (Repeat r i count body rest) s (followed_by body (Repeat r (suc i) count body rest)) (record s { registers = put s.registers r i })
turn_quietly t r i count body rest s e = record {
  goes = λ h v taken q. ap (with_host (endless t) v h) q
      ∙ ap (λ (x : Bool). Some (put v h (local_of (if x then followed_by body (Repeat r (suc i) count body rest) else rest) (record s { registers = if x then put s.registers r i else s.registers }) taken))) e;
}

pub over_quietly : (t : Tape) (r i count : ℕ) (body rest : Code) (s : Host) → nat_lt i count ≡ false → Quietly t (Repeat r i count body rest) s rest s
over_quietly t r i count body rest s e = record {
  goes = λ h v taken q. ap (with_host (endless t) v h) q
      ∙ ap (λ (x : Bool). Some (put v h (local_of (if x then followed_by body (Repeat r (suc i) count body rest) else rest) (record s { registers = if x then put s.registers r i else s.registers }) taken))) e;
}

-- ---- a message, from its send to its receipt

get_last : {X : Type 0} (xs : List X) (x : X) → slice_get (xs ++ x ∷ []) (length xs) ≡ Some x
get_last [] x = refl
get_last (y ∷ xs) x = get_last xs x

length_snoc : {X : Type 0} (xs : List X) (x : X) → length (xs ++ x ∷ []) ≡ suc (length xs)
length_snoc [] x = refl
length_snoc (y ∷ xs) x = ap suc (length_snoc xs x)

length_words : (f : Registers) (rs : List Reg) → length (words_in f rs) ≡ length rs
length_words f [] = refl
length_words f (r ∷ rs) = ap suc (length_words f rs)

fits : (n : ℕ) (xs : List ℕ) → length xs ≡ n → of_length n (Some xs) ≡ Some xs
fits n xs e = ap (λ (b : Bool). if b then Some xs else None) (eq-eqb (length xs) n e)

pub message_steps : (t : Tape) (a b : ℕ) (xs ys : List Reg) (code kode : ℕ → Code) (w : Hosts) → a ≢ b → length xs ≡ length ys
    → code a ≡ Send b xs (kode a) → code b ≡ Recv a ys (kode b) → ((h : ℕ) → h ≢ a → h ≢ b → code h ≡ kode h)
    → Through (step (endless t)) (a ∷ b ∷ []) (resting code w) (resting kode (after_msg a xs b ys w))
message_steps t a b xs ys code kode w ne same_length at_a at_b others =
    (w1, first, (w2, second, fun_ext (λ j. ends j (same_or_not j b) (same_or_not j a))))
  where
    back : b ≢ a
    back e = ne (sym e)

    words : List ℕ
    words = words_in (w a).registers xs

    sender : Local
    sender = local_of (kode a) (said_to b words (w a)) (all_taken w a)

    w0 : World
    w0 = resting code w

    w1 : World
    w1 = put w0 a sender

    heard_taken : ℕ → ℕ
    heard_taken = put (all_taken w b) a (suc (all_taken w b a))

    receiver : Local
    receiver = local_of (kode b) (has_heard ys words (w b)) heard_taken

    w2 : World
    w2 = put w1 b receiver

    first : step (endless t) a w0 ≡ Some w1
    first = ap (λ (c : Code). with_host (endless t) w0 a (local_of c (w a) (all_taken w a))) at_a

    there : w1 b ≡ local_of (Recv a ys (kode b)) (w b) (all_taken w b)
    there = put_other w0 a sender b back ∙ ap (λ (c : Code). local_of c (w b) (all_taken w b)) at_b

    on_way : slice_get ((w1 a).sent b) (all_taken w b a) ≡ Some words
    on_way =
        ap (λ (l : Local). slice_get (l.sent b) (all_taken w b a)) (put_same w0 a sender)
        ∙ ap (λ (l : List (List ℕ)). slice_get l (all_taken w b a)) (put_same (w a).sent b ((w a).sent b ++ words ∷ []))
        ∙ get_last ((w a).sent b) words

    second : step (endless t) b w1 ≡ Some w2
    second =
        ap (with_host (endless t) w1 b) there
        ∙ ap (λ (o : Option (List ℕ)). with_answer w1 b (local_of (Recv a ys (kode b)) (w b) (all_taken w b)) (of_length (length ys) o)) on_way
        ∙ ap (with_answer w1 b (local_of (Recv a ys (kode b)) (w b) (all_taken w b))) (fits (length ys) words (length_words (w a).registers xs ∙ same_length))

    v : Hosts
    v = after_msg a xs b ys w

    v_b : v b ≡ has_heard ys words (w b)
    v_b = put_same (put w a (said_to b words (w a))) b (has_heard ys words (w b))

    v_a : v a ≡ said_to b words (w a)
    v_a = put_other (put w a (said_to b words (w a))) b (has_heard ys words (w b)) a ne ∙ put_same w a (said_to b words (w a))

    v_other : (p : ℕ) → p ≢ a → p ≢ b → v p ≡ w p
    v_other p na nb = put_other (put w a (said_to b words (w a))) b (has_heard ys words (w b)) p nb ∙ put_other w a (said_to b words (w a)) p na

    sent_other : (p j : ℕ) → p ≢ a → (v p).sent j ≡ (w p).sent j
    sent_other p j na =
        elim (same_or_not p b) [
          | inl e ↦ ap (λ q. (v q).sent j) e ∙ ap (λ (s : Host). s.sent j) v_b ∙ ap (λ q. (w q).sent j) (sym e)
          | inr nb ↦ ap (λ (s : Host). s.sent j) (v_other p na nb)
        ]

    sent_elsewhere : (p j : ℕ) → j ≢ b → (v p).sent j ≡ (w p).sent j
    sent_elsewhere p j nj =
        elim (same_or_not p a) [
          | inl e ↦ ap (λ q. (v q).sent j) e ∙ ap (λ (s : Host). s.sent j) v_a ∙ put_other (w a).sent b ((w a).sent b ++ words ∷ []) j nj ∙ ap (λ q. (w q).sent j) (sym e)
          | inr na ↦ sent_other p j na
        ]

    sent_there : length ((v a).sent b) ≡ suc (all_taken w b a)
    sent_there = ap (λ (s : Host). length (s.sent b)) v_a ∙ ap length (put_same (w a).sent b ((w a).sent b ++ words ∷ [])) ∙ length_snoc ((w a).sent b) words

    taken_b : (p : ℕ) → heard_taken p ≡ all_taken v b p
    taken_b p =
        elim (same_or_not p a) [
          | inl e ↦ ap heard_taken e ∙ put_same (all_taken w b) a (suc (all_taken w b a)) ∙ sym sent_there ∙ ap (all_taken v b) (sym e)
          | inr na ↦ put_other (all_taken w b) a (suc (all_taken w b a)) p na ∙ ap length (sym (sent_other p b na))
        ]

    taken_else : (j : ℕ) → j ≢ b → all_taken w j ≡ all_taken v j
    taken_else j nj = fun_ext (λ p. ap length (sym (sent_elsewhere p j nj)))

    end_b : w2 b ≡ resting kode v b
    end_b = put_same w1 b receiver ∙ same_local (kode b) (kode b) (has_heard ys words (w b)) (v b) heard_taken (all_taken v b) refl (sym v_b) (fun_ext taken_b)

    end_a : w2 a ≡ resting kode v a
    end_a =
        put_other w1 b receiver a ne ∙ put_same w0 a sender
        ∙ same_local (kode a) (kode a) (said_to b words (w a)) (v a) (all_taken w a) (all_taken v a) refl (sym v_a) (taken_else a ne)

    ends : (j : ℕ) → (j ≡ b) ⊎ (j ≢ b) → (j ≡ a) ⊎ (j ≢ a) → w2 j ≡ resting kode v j
    ends j (inl e) z = ap w2 e ∙ end_b ∙ ap (resting kode v) (sym e)
    ends j (inr n) (inl e) = ap w2 e ∙ end_a ∙ ap (resting kode v) (sym e)
    ends j (inr n) (inr m) =
        put_other w1 b receiver j n ∙ put_other w0 a sender j m
        ∙ same_local (code j) (kode j) (w j) (v j) (all_taken w j) (all_taken v j) (others j m n) (sym (v_other j m n)) (taken_else j n)
