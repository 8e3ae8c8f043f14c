-- Code that follows another one tells the same.
use Rattle.std.proofs.Common.{◌≡◌, ◌≢◌, inl, inr, ℕ, zero, suc, ◌<◌, ◌+◌, nat_eq, nat_lt, Bool, true, false, if◌then◌else◌, List, [], ◌∷◌, ◌++◌, length, Option, Some, refl, sym, ap, ap₂, ◌∙◌, subst, arith}
use Rattle.std.proofs.lemmas.Bool.{ltb-true}
use Rattle.vd_base.specs.declared.operations.Op.TheVariants as op
use Rattle.vd_base.specs.Operations.{operation}
use Rattle.vd_execution.specs.declared.instructions.Reg.{Reg}
use Rattle.vd_execution.specs.declared.instructions.Action.{Action}
use Rattle.vd_execution.specs.Registers.{Registers, put, put_each, written, applied, nth}
use Rattle.vd_execution.specs.Step.{Cursors, Need, Nothing, Unequal, advanced, need_of_action, word_printed, words_in}
use Rattle.vd_execution.specs.World.{Tape}
use Rattle.vd_execution.specs.Joint.{Part, Joint, If, Host, Hosts, acted, supplied, with_print, said_to, has_heard, after_do, after_msg, is_other, turn_begun, turns, joint, AllTurns, GuardsAre, IsSmooth}
use Rattle.vd_execution.proofs.Front.{same_or_not, put_same, put_other, put_itself}
use Rattle.vd_choreography_reorder.specs.LaidOut.{then_joint}
use Rattle.vd_choreography_reorder.specs.Following.{Place, At, Is, Lost, Places, Stands, AllStand, Sight, seen, AreMapped, ActsFollow, IsLeftOut, IsAdded, MessagesFollow, TurnsFollow, Follows, Ends, Both, Less, More, Message, Branch, OneWay, Loop, ComesAlong, FollowedCodeTellsTheSame, ConstantsAreKnown, CopiesAreFollowed, StandIn, filled_places, IsFree, AreFree, Constants, Copies, Operations, LeftShifts, RightShifts, Choices, Drawn, Fetched, Products, BitProducts, Converted, Prints, Comparisons, ActsAreRenamed, MessagesAreRenamed, ArraysAreRenamed}
use Rattle.vd_choreography_reorder.proofs.LaidOut.{behind, smooth_behind}

-- ---- one host changes

stand_by : (p q : Places) (x y u s : Host) → p ≡ q → x ≡ u → y ≡ s → AllStand q u.registers s.registers → AllStand p x.registers y.registers
stand_by p q x y u s e f g all =
    subst (λ (k : Places). AllStand k x.registers y.registers) (sym e)
    (subst (λ (k : Host). AllStand q k.registers y.registers) (sym f) (subst (λ (k : Host). AllStand q u.registers k.registers) (sym g) all))

module _ (m : ℕ → Places) (w v : Hosts) (h : ℕ) (here : Places) (x y : Host) (all : AreMapped m w v) (stand : AllStand here x.registers y.registers) (alike : seen x ≡ seen y) where
  words_at : (g : ℕ) → AllStand (put m h here g) (put w h x g).registers (put v h y g).registers
  words_at g =
      elim (same_or_not g h) [
        | inl e ↦
            subst (λ (k : ℕ). AllStand (put m h here k) (put w h x k).registers (put v h y k).registers) (sym e)
            (stand_by (put m h here h) here (put w h x h) (put v h y h) x y (put_same m h here) (put_same w h x) (put_same v h y) stand)
        | inr ne ↦ stand_by (put m h here g) (m g) (put w h x g) (put v h y g) (w g) (v g) (put_other m h here g ne) (put_other w h x g ne) (put_other v h y g ne) (all.words g)
      ]

  seen_at : (g : ℕ) → seen (put w h x g) ≡ seen (put v h y g)
  seen_at g =
      elim (same_or_not g h) [
        | inl e ↦
            subst (λ (k : ℕ). seen (put w h x k) ≡ seen (put v h y k)) (sym e)
            (ap seen (put_same w h x) ∙ alike ∙ sym (ap seen (put_same v h y)))
        | inr ne ↦ ap seen (put_other w h x g ne) ∙ all.same g ∙ sym (ap seen (put_other v h y g ne))
      ]

  put_mapped : AreMapped (put m h here) (put w h x) (put v h y)
  put_mapped = record { words = words_at; same = seen_at }

-- ---- acts

-- what is seen behind an act
abbrev acted_sight : Sight → Need → Option ℕ → Sight
acted_sight z n o = (advanced z.0 n, (with_print z.1.0 o, z.1.1))

module _ (t : Tape) (m : ℕ → Places) (w v : Hosts) (h : ℕ) (here : Places) (all : AreMapped m w v) where
  both_acted : (a b : Action) → ActsFollow (m h) a b here → AreMapped (put m h here) (after_do t h a w) (after_do t h b v)
  both_acted a b x =
      let f : Registers = (w h).registers in
      let g : Registers = (v h).registers in
      let need = x.needs f g (all.words h) in
      let same = all.same h in
      let xs : List ℕ = supplied (t h) (w h).cursors (need_of_action f a) in
      let given : supplied (t h) (v h).cursors (need_of_action g b) ≡ xs =
      ap₂ (λ (c : Cursors) (n : Need). supplied (t h) c n) (sym (ap (λ (z : Sight). z.0) same)) need in
      put_mapped m w v h here (acted (t h) a (w h)) (acted (t h) b (v h)) all
      (subst (λ (ys : List ℕ). AllStand here (written f a xs) (written g b ys)) (sym given) (x.words f g xs (all.words h)))
      (ap (λ (z : Sight). acted_sight z (need_of_action f a) (word_printed f a)) same
      ∙ ap₂ (λ (n : Need) (o : Option ℕ). acted_sight (seen (v h)) n o) (sym need) (sym (x.prints f g (all.words h))))

  left_acted : (a : Action) → IsLeftOut (m h) a here → AreMapped (put m h here) (after_do t h a w) v
  left_acted a x =
      let f : Registers = (w h).registers in
      let g : Registers = (v h).registers in
      let given : supplied (t h) (w h).cursors (need_of_action f a) ≡ [] = ap (λ (n : Need). supplied (t h) (w h).cursors n) (x.needs f) in
      subst (λ (u : Hosts). AreMapped (put m h here) (after_do t h a w) u) (put_itself v h)
      (put_mapped m w v h here (acted (t h) a (w h)) (v h) all
      (subst (λ (ys : List ℕ). AllStand here (written f a ys) g) (sym given) (x.words f g (all.words h)))
      (ap₂ (λ (n : Need) (o : Option ℕ). acted_sight (seen (w h)) n o) (x.needs f) (x.silent f) ∙ all.same h))

  more_acted : (b : Action) → IsAdded (m h) b here → AreMapped (put m h here) w (after_do t h b v)
  more_acted b x =
      let f : Registers = (w h).registers in
      let g : Registers = (v h).registers in
      let given : supplied (t h) (v h).cursors (need_of_action g b) ≡ [] = ap (λ (n : Need). supplied (t h) (v h).cursors n) (x.needs g) in
      subst (λ (u : Hosts). AreMapped (put m h here) u (after_do t h b v)) (put_itself w h)
      (put_mapped m w v h here (w h) (acted (t h) b (v h)) all
      (subst (λ (ys : List ℕ). AllStand here f (written g b ys)) (sym given) (x.words f g (all.words h)))
      (all.same h ∙ sym (ap₂ (λ (n : Need) (o : Option ℕ). acted_sight (seen (v h)) n o) (x.needs g) (x.silent g))))

-- ---- messages

as_many : (f : Registers) (rs : List Reg) → length (words_in f rs) ≡ length rs
as_many f [] = refl
as_many f (r ∷ rs) = ap suc (as_many f rs)

abbrev said_sight : ℕ → List ℕ → Sight → Sight
said_sight b words z = (z.0, (z.1.0, put z.1.1 b (z.1.1 b ++ words ∷ [])))

module _ (m : ℕ → Places) (w v : Hosts) (a : ℕ) (said says : List Reg) (b : ℕ) (heard hears : List Reg) (here : Places) (all : AreMapped m w v)
    (x : MessagesFollow (m a) (m b) said says heard hears here) where
  abbrev old_words : List ℕ
  old_words = words_in (w a).registers said

  abbrev new_words : List ℕ
  new_words = words_in (v a).registers says

  same_words : new_words ≡ old_words
  same_words = x.told (w a).registers (v a).registers (all.words a)

  sent_mapped : AreMapped m (put w a (said_to b old_words (w a))) (put v a (said_to b new_words (v a)))
  sent_mapped =
      subst (λ (k : ℕ → Places). AreMapped k (put w a (said_to b old_words (w a))) (put v a (said_to b new_words (v a)))) (put_itself m a)
      (put_mapped m w v a (m a) (said_to b old_words (w a)) (said_to b new_words (v a)) all (all.words a)
      (ap (said_sight b old_words) (all.same a) ∙ ap (λ (words : List ℕ). said_sight b words (seen (v a))) (sym same_words)))

  message_mapped : AreMapped (put m b here) (after_msg a said b heard w) (after_msg a says b hears v)
  message_mapped =
      put_mapped m (put w a (said_to b old_words (w a))) (put v a (said_to b new_words (v a))) b here (has_heard heard old_words (w b)) (has_heard hears new_words (v b)) sent_mapped
      (subst (λ (words : List ℕ). AllStand here (put_each (w b).registers heard old_words) (put_each (v b).registers hears words)) (sym same_words)
      (x.filled (w b).registers (v b).registers old_words (as_many (w a).registers said) (all.words b)))
      (all.same b)

-- ---- blocks

module _ (t : Tape) where
  chosen : (b d : Bool) (n : ℕ → Places) (x y z u : Hosts) → d ≡ b → (b ≡ true → AreMapped n x z) → (b ≡ false → AreMapped n y u)
      → AreMapped n (if b then x else y) (if d then z else u)
  chosen true true n x y z u e f g = f refl
  chosen true false n x y z u e f g = absurd cc
  chosen false true n x y z u e f g = absurd cc
  chosen false false n x y z u e f g = g refl

  one_way : (b : Bool) (ps : List Part) (first other j : Joint) (w : Hosts) → is_other ps w ≡ b → IsSmooth t (If ps first other j) w
      → IsSmooth t (then_joint (if b then other else first) j) w
  one_way true ps first other j w is s =
      smooth_behind t other j w (s.1.0.0 is)
      (subst (λ (b : Bool). IsSmooth t j (if b then joint t other w else joint t first w)) is s.1.1)
  one_way false ps first other j w is s =
      smooth_behind t first j w (s.1.0.1 is)
      (subst (λ (b : Bool). IsSmooth t j (if b then joint t other w else joint t first w)) is s.1.1)

  way_run : (b : Bool) (ps : List Part) (first other j : Joint) (w : Hosts) → is_other ps w ≡ b
      → joint t (then_joint (if b then other else first) j) w ≡ joint t (If ps first other j) w
  way_run true ps first other j w is =
      behind t other j w ∙ sym (ap (λ (b : Bool). joint t j (if b then joint t other w else joint t first w)) is)
  way_run false ps first other j w is =
      behind t first j w ∙ sym (ap (λ (b : Bool). joint t j (if b then joint t other w else joint t first w)) is)

  abbrev Goes : (ℕ → Places) → Joint → Joint → (ℕ → Places) → Type 0
  Goes m j k n = (w v : Hosts) → AreMapped m w v → IsSmooth t j w → ComesAlong t n j k w v

  module _ (m begun : ℕ → Places) (ps qs : List Part) (body one : Joint) (turn : TurnsFollow m ps qs begun) (goes : Goes begun body one m) where
    abbrev old_turn : ℕ → Hosts → Hosts
    old_turn i w = joint t body (turn_begun ps i w)

    abbrev new_turn : ℕ → Hosts → Hosts
    new_turn i v = joint t one (turn_begun qs i v)

    record TurnsCome (c i : ℕ) (w v : Hosts) : Type 0 where
      pub mapped : AreMapped m (turns old_turn c i w) (turns new_turn c i v)
      pub smooth : AllTurns (λ k u. IsSmooth t one (turn_begun qs k u)) new_turn c i v

    all_turns : (c i : ℕ) (w v : Hosts) → AreMapped m w v → AllTurns (λ k u. IsSmooth t body (turn_begun ps k u)) old_turn c i w → TurnsCome c i w v
    all_turns zero i w v all s = record { mapped = all; smooth = tt }
    all_turns (suc c) i w v all s =
        let first = goes (turn_begun ps i w) (turn_begun qs i v) (turn i w v all) s.0 in
        let rest = all_turns c (suc i) (old_turn i w) (new_turn i v) first.mapped s.1 in
        record { mapped = rest.mapped; smooth = (first.smooth, rest.smooth) }

  -- ---- the whole

  follow : {m n : ℕ → Places} {j k : Joint} → Follows m j k n → Goes m j k n
  follow (Ends m) w v all s = record { mapped = all; smooth = tt }
  follow (Both m n h a b here j k acts rest) w v all s =
      let more = follow rest (after_do t h a w) (after_do t h b v) (both_acted t m w v h here all a b acts) s.1 in
      record { mapped = more.mapped; smooth = (acts.compares (w h).registers (v h).registers (all.words h) s.0, more.smooth) }
  follow (Less m n h a here j k left rest) w v all s =
      let more = follow rest (after_do t h a w) v (left_acted t m w v h here all a left) s.1 in
      record { mapped = more.mapped; smooth = more.smooth }
  follow (More m n h b here j k added rest) w v all s =
      let more = follow rest w (after_do t h b v) (more_acted t m w v h here all b added) s in
      record { mapped = more.mapped; smooth = (added.compares (v h).registers, more.smooth) }
  follow (Message m n a said says b heard hears here j k told rest) w v all s =
      let more = follow rest (after_msg a said b heard w) (after_msg a says b hears v) (message_mapped m w v a said says b heard hears here all told) s in
      record { mapped = more.mapped; smooth = more.smooth }
  follow (Branch m i n ps qs first other one two j k guards in_first in_other rest) w v all s =
      let way = guards.way w v all in
      let in_one : is_other ps w ≡ false → ComesAlong t i first one w v = λ is. follow in_first w v all (s.1.0.1 is) in
      let in_two : is_other ps w ≡ true → ComesAlong t i other two w v = λ is. follow in_other w v all (s.1.0.0 is) in
      let more = follow rest (if is_other ps w then joint t other w else joint t first w) (if is_other qs v then joint t two v else joint t one v)
      (chosen (is_other ps w) (is_other qs v) i (joint t other w) (joint t first w) (joint t two v) (joint t one v) way
      (λ is. (in_two is).mapped) (λ is. (in_one is).mapped))
      s.1.1 in
      record {
        mapped = more.mapped;
        smooth = (
          subst (λ (b : Bool). GuardsAre b qs v) (sym way) (guards.guards w v (is_other ps w) all s.0),
          ((λ is. (in_two (sym way ∙ is)).smooth, λ is. (in_one (sym way ∙ is)).smooth), more.smooth),
        );
      }
  follow (OneWay m n ps other_way first other j k known rest) w v all s =
      let is = known w v all in
      let more = follow rest w v all (one_way other_way ps first other j w is s) in
      record { mapped = subst (λ (u : Hosts). AreMapped n u (joint t k v)) (way_run other_way ps first other j w is) more.mapped; smooth = more.smooth }
  follow (Loop m begun n ps qs count body one j k turn in_body rest) w v all s =
      let many = all_turns m begun ps qs body one turn (follow in_body) count 0 w v all s.0 in
      let more = follow rest (turns (λ i u. joint t body (turn_begun ps i u)) count 0 w) (turns (λ i u. joint t one (turn_begun qs i u)) count 0 v) many.mapped s.1 in
      record { mapped = more.mapped; smooth = (many.smooth, more.smooth) }

pub followed_tells : FollowedCodeTellsTheSame
followed_tells t m n j k w v f all s = follow t f w v all s

-- ---- some that follow

-- a word at a place, where another register has it
stands_moved : (p : Place) (old now new : Registers) (x r : ℕ) → now r ≡ old x → Stands old new x p → Stands now new r p
stands_moved (At q) old now new x r e s = s ∙ sym e
stands_moved (Is k) old now new x r e s = e ∙ s
stands_moved Lost old now new x r e s = tt

-- one register is written, and its word is at a place
module _ (m : Places) (old new : Registers) (all : AllStand m old new) (r word : ℕ) (p : Place) (there : Stands (put old r word) new r p) where
  written_stands : AllStand (put m r p) (put old r word) new
  written_stands s =
      elim (same_or_not s r) [
        | inl e ↦
            subst (λ (k : ℕ). Stands (put old r word) new k (put m r p k)) (sym e)
            (subst (λ (q : Place). Stands (put old r word) new r q) (sym (put_same m r p)) there)
        | inr ne ↦
            subst (λ (q : Place). Stands (put old r word) new s q) (sym (put_other m r p s ne))
            (stands_moved (m s) old (put old r word) new s s (put_other old r word s ne) (all s))
      ]

pub constants_known : ConstantsAreKnown
constants_known m r k = record {
  words = λ old new all. written_stands m old new all r.0 k (Is k) (put_same old r.0 k);
  needs = λ f. refl;
  silent = λ f. refl;
}

pub copies_followed : CopiesAreFollowed
copies_followed m r x = record {
  words = λ old new all. written_stands m old new all r.0 (old x.0) (m x.0)
      (stands_moved (m x.0) old (put old r.0 (old x.0)) new x.0 r.0 (put_same old r.0 (old x.0)) (all x.0));
  needs = λ f. refl;
  silent = λ f. refl;
}

-- words stay where a free register is written
free_stands : (p : Place) (old new : Registers) (s q word : ℕ) → p ≢ At q → Stands old new s p → Stands old (put new q word) s p
free_stands (At u) old new s q word free stands = put_other new q word u (λ (e : u ≡ q). free (ap At e)) ∙ stands
free_stands (Is k) old new s q word free stands = stands
free_stands Lost old new s q word free stands = tt

-- ---- registers of their own

word_at : (m : Places) (old new : Registers) (x u : Reg) → m x.0 ≡ At u.0 → AllStand m old new → new u.0 ≡ old x.0
word_at m old new x u e all = subst (Stands old new x.0) e (all x.0)

-- one register gets a word, and another has it
one_word : (m : Places) (old new : Registers) (r q : Reg) (x y : ℕ) → y ≡ x → IsFree m r.0 q.0 → AllStand m old new
    → AllStand (put m r.0 (At q.0)) (put old r.0 x) (put new q.0 y)
one_word m old new r q x y same free all s =
    elim (same_or_not s r.0) [
      | inl e ↦
          subst (λ (k : ℕ). Stands (put old r.0 x) (put new q.0 y) k (put m r.0 (At q.0) k)) (sym e)
          (subst (λ (p : Place). Stands (put old r.0 x) (put new q.0 y) r.0 p) (sym (put_same m r.0 (At q.0)))
          (put_same new q.0 y ∙ same ∙ sym (put_same old r.0 x)))
      | inr ne ↦
          subst (λ (p : Place). Stands (put old r.0 x) (put new q.0 y) s p) (sym (put_other m r.0 (At q.0) s ne))
          (stands_moved (m s) old (put old r.0 x) (put new q.0 y) s s (put_other old r.0 x s ne) (free_stands (m s) old new s q.0 y (free s ne) (all s)))
    ]

many_words : (m : Places) (rs qs : List Reg) (ws : List ℕ) (old new : Registers) → AreFree m rs qs → length ws ≡ length rs → AllStand m old new
    → AllStand (filled_places m rs qs) (put_each old rs ws) (put_each new qs ws)
many_words m [] [] ws old new free long all = all
many_words m [] (q ∷ qs) ws old new free long all = absurd free
many_words m (r ∷ rs) [] ws old new free long all = absurd free
many_words m (r ∷ rs) (q ∷ qs) [] old new free long all = absurd (omega (arith, long))
many_words m (r ∷ rs) (q ∷ qs) (x ∷ ws) old new free long all =
    many_words (put m r.0 (At q.0)) rs qs ws (put old r.0 x) (put new q.0 x) free.1 (omega (arith, long)) (one_word m old new r q x x refl free.0 all)

same_words_in : (m : Places) (rs qs : List Reg) (old new : Registers) → StandIn m rs qs → AllStand m old new → words_in new qs ≡ words_in old rs
same_words_in m [] [] old new stand all = refl
same_words_in m [] (q ∷ qs) old new stand all = absurd stand
same_words_in m (r ∷ rs) [] old new stand all = absurd stand
same_words_in m (r ∷ rs) (q ∷ qs) old new stand all =
    ap₂ (λ (w : ℕ) (ws : List ℕ). w ∷ ws) (word_at m old new r q stand.0 all) (same_words_in m rs qs old new stand.1 all)

pub acts_renamed : ActsAreRenamed
acts_renamed m a b (Constants r q k) stand free = record {
  words = λ old new xs all. one_word m old new r q k k refl free.0 all;
  needs = λ old new all. refl;
  prints = λ old new all. refl;
  compares = λ old new all agrees. tt;
}
acts_renamed m a b (Copies r x q u) stand free = record {
  words = λ old new xs all. one_word m old new r q (old x.0) (new u.0) (word_at m old new x u stand.0 all) free.0 all;
  needs = λ old new all. refl;
  prints = λ old new all. refl;
  compares = λ old new all agrees. tt;
}
acts_renamed m a b (Operations o r x y q u s) stand free = record {
  words = λ old new xs all. one_word m old new r q (applied o (old x.0) (old y.0)) (applied o (new u.0) (new s.0))
      (ap₂ (applied o) (word_at m old new x u stand.0 all) (word_at m old new y s stand.1.0 all)) free.0 all;
  needs = λ old new all. refl;
  prints = λ old new all. refl;
  compares = λ old new all agrees. tt;
}
acts_renamed m a b (LeftShifts r x q u k) stand free = record {
  words = λ old new xs all. one_word m old new r q (operation (op.Shl k) (old x.0) 0 0) (operation (op.Shl k) (new u.0) 0 0)
      (ap (λ (z : ℕ). operation (op.Shl k) z 0 0) (word_at m old new x u stand.0 all)) free.0 all;
  needs = λ old new all. refl;
  prints = λ old new all. refl;
  compares = λ old new all agrees. tt;
}
acts_renamed m a b (RightShifts r x q u k) stand free = record {
  words = λ old new xs all. one_word m old new r q (operation (op.Shr k) (old x.0) 0 0) (operation (op.Shr k) (new u.0) 0 0)
      (ap (λ (z : ℕ). operation (op.Shr k) z 0 0) (word_at m old new x u stand.0 all)) free.0 all;
  needs = λ old new all. refl;
  prints = λ old new all. refl;
  compares = λ old new all agrees. tt;
}
acts_renamed m a b (Choices r c x y q d u s) stand free = record {
  words = λ old new xs all. one_word m old new r q (operation op.Mux (old c.0) (old x.0) (old y.0)) (operation op.Mux (new d.0) (new u.0) (new s.0))
      (ap (λ (z : ℕ). operation op.Mux z (new u.0) (new s.0)) (word_at m old new c d stand.0 all)
      ∙ ap₂ (λ (z n : ℕ). operation op.Mux (old c.0) z n) (word_at m old new x u stand.1.0 all) (word_at m old new y s stand.1.1.0 all)) free.0 all;
  needs = λ old new all. refl;
  prints = λ old new all. refl;
  compares = λ old new all agrees. tt;
}
acts_renamed m a b (Drawn r q) stand free = record {
  words = λ old new xs all. one_word m old new r q (nth xs 0) (nth xs 0) refl free.0 all;
  needs = λ old new all. refl;
  prints = λ old new all. refl;
  compares = λ old new all agrees. tt;
}
acts_renamed m a b (Fetched r q) stand free = record {
  words = λ old new xs all. one_word m old new r q (nth xs 0) (nth xs 0) refl free.0 all;
  needs = λ old new all. refl;
  prints = λ old new all. refl;
  compares = λ old new all agrees. tt;
}
acts_renamed m a b (Products p x y z u v w) stand free = record {
  words = λ old new xs all. many_words m (x ∷ y ∷ z ∷ []) (u ∷ v ∷ w ∷ []) (nth xs 0 ∷ nth xs 1 ∷ nth xs 2 ∷ []) old new free refl all;
  needs = λ old new all. refl;
  prints = λ old new all. refl;
  compares = λ old new all agrees. tt;
}
acts_renamed m a b (BitProducts p x y z u v w) stand free = record {
  words = λ old new xs all. many_words m (x ∷ y ∷ z ∷ []) (u ∷ v ∷ w ∷ []) (nth xs 0 ∷ nth xs 1 ∷ nth xs 2 ∷ []) old new free refl all;
  needs = λ old new all. refl;
  prints = λ old new all. refl;
  compares = λ old new all agrees. tt;
}
acts_renamed m a b (Converted p x y u v) stand free = record {
  words = λ old new xs all. many_words m (x ∷ y ∷ []) (u ∷ v ∷ []) (nth xs 0 ∷ nth xs 1 ∷ []) old new free refl all;
  needs = λ old new all. refl;
  prints = λ old new all. refl;
  compares = λ old new all agrees. tt;
}
acts_renamed m a b (Prints r q) stand free = record {
  words = λ old new xs all. all;
  needs = λ old new all. refl;
  prints = λ old new all. ap Some (word_at m old new r q stand.0 all);
  compares = λ old new all agrees. tt;
}
acts_renamed m a b (Comparisons x y u s) stand free = record {
  words = λ old new xs all. all;
  needs = λ old new all. ap₂ (λ (z n : ℕ). if nat_eq z n then Nothing else Unequal z n) (word_at m old new x u stand.0 all) (word_at m old new y s stand.1.0 all);
  prints = λ old new all. refl;
  compares = λ old new all agrees. word_at m old new x u stand.0 all ∙ agrees ∙ sym (word_at m old new y s stand.1.0 all);
}

pub messages_renamed : MessagesAreRenamed
messages_renamed from to said says heard hears long stand free = record {
  told = λ old new all. same_words_in from said says old new stand all;
  filled = λ old new xs as_long all. many_words to heard hears xs old new free (as_long ∙ long) all;
}

-- ---- arrays

array_word : (b : Bool) (old new : Registers) (x u n k : ℕ) → nat_lt n k ≡ b → (n < k → new (u + n) ≡ old (x + n))
    → (if b then new (u + n) else 0) ≡ (if b then old (x + n) else 0)
array_word true old new x u n k is same = same (ltb-true n k is)
array_word false old new x u n k is same = refl

pub arrays_renamed : ArraysAreRenamed
arrays_renamed m r x i q u j count array number free = record {
  words = λ old new xs all.
      let index = word_at m old new i j number all in
      one_word m old new r q (if nat_lt (old i.0) count then old (x.0 + old i.0) else 0) (if nat_lt (new j.0) count then new (u.0 + new j.0) else 0)
      (ap (λ (n : ℕ). if nat_lt n count then new (u.0 + n) else 0) index
      ∙ array_word (nat_lt (old i.0) count) old new x.0 u.0 (old i.0) count refl
      (λ lt. subst (Stands old new (x.0 + old i.0)) (array (old i.0) lt) (all (x.0 + old i.0))))
      free all;
  needs = λ old new all. refl;
  prints = λ old new all. refl;
  compares = λ old new all agrees. tt;
}
