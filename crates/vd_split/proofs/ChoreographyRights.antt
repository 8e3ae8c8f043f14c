-- The right side of a binding, once it is emitted, stands for its word.
use Rattle.std.proofs.Common.{◌≡◌, ℕ, zero, suc, ◌+◌, ◌^◌, ◌<◌, Bool, true, false, List, [], ◌∷◌, ◌++◌, length, map, slice_index, slice_index_or, slice_set, refl, sym, ap, ◌∙◌, subst, arith}
use Rattle.std.proofs.lemmas.List.{get_or-set_other}
use Rattle.std.specs.List.{list_all}
use native.Mathlib.Decide.{ℕ_discrete}
use Rattle.vd_base.specs.declared.ids.HostId.{HostId}
use Rattle.vd_base.specs.declared.ids.SlotId.{SlotId}
use Rattle.vd_base.specs.declared.protocols.Proto.{Proto}
use Rattle.vd_base.specs.declared.protocols.Proto.TheVariants.{Local}
use Rattle.vd_base.specs.HostSets.{host}
use Rattle.vd_base.specs.Operations.{result_of}
use Rattle.vd_base.specs.Holders.{is_holder}
use Rattle.vd_core.specs.declared.normal.Right.{Right}
use Rattle.vd_core.specs.declared.normal.Right.TheVariants.{Lit, Turn, Copy, Apply, Input, Declassify, Endorse, Load, Get}
use Rattle.vd_core.specs.Facts.{Sight, is_binding, right_sees}
use Rattle.vd_semantics.specs.World.{World, first_word, later_words}
use Rattle.vd_semantics.specs.ProgramMeaning.{SlotState, word_at, array_at, right_word, after_right}
use Rattle.vd_split.specs.Joint.{Hosts, Each}
use Rattle.vd_split.specs.Suite.{Word, Cells, Made, Suite, nothing, Leads, Below, Fresh, Gives, Operand, NamedBy, Laws, holders_among}
use Rattle.vd_split.specs.Emission.{Emitting, delivered, all_moved, and_on, right_made}
use Rattle.vd_split.specs.Validity.{RightFits, RightPlaced, Reaches}
use Rattle.vd_split.proofs.Lists.{and_left, and_right}
use Rattle.vd_split.proofs.Sight.{Binding, Variable, Array, Sees, changing}
use Rattle.vd_split.proofs.Tied.{part, Distinct, Same, Other, Unchanging, Outside, Tied, quiet_outside}
use Rattle.vd_split.proofs.Calls.{Between, between_of, ready_past, gives_on, gives_from, fresh_from, Reached, deliver, picked_join, Movable, move_all}

later_at : (l : List ℕ) (i : ℕ) → slice_index (later_words l) i ≡ slice_index l (suc i)
later_at [] i = refl
later_at (x ∷ xs) i = refl

first_at : (l : List ℕ) → first_word l ≡ slice_index l 0
first_at [] = refl
first_at (x ∷ xs) = refl

taken_at : (l : List (List ℕ)) (h : ℕ) → slice_index_or (slice_set l h (later_words (slice_index_or l h []))) h [] ≡ later_words (slice_index_or l h [])
taken_at [] h = refl
taken_at (x ∷ xs) zero = refl
taken_at (x ∷ xs) (suc h) = taken_at xs h

module _ (m : Hosts) (s : Suite m) (proto : ℕ → Proto) (laws : Laws m s) (declared : (x : ℕ) → s.Declared (proto x)) where
  abbrev pub held_at : List s.Parts → ℕ → s.Parts
  held_at held x = part m s proto held x

  abbrev pub Kept : Sight → List s.Parts → ℕ → ℕ → Type 0
  Kept o held = Unchanging m s proto o held

  -- a call gave a word, and the outside is that
  pub record Done (o : Sight) (next : List ℕ) (held : List s.Parts) (w : m.World) (q : Proto) (made : Made m.Act s.Parts) (v : ℕ) (outside' : World) : Type 0 where
    pub reached : m.World
    pub leads : Leads m s next nothing made.acts w reached
    pub fresh : Fresh m s next (Kept o held) made.given made.next
    pub stands : s.Stands reached q made.given (Word v)
    pub outside : Outside m s proto reached outside'

  -- each host that has the loop has the number of the turn in a register that does not change
  abbrev pub Turning : (ℕ → Bool) → Sight → List ℕ → List s.Parts → List ℕ → m.World → ℕ → Type 0
  Turning has o next held loop w t = (h : ℕ) → h < s.calls.hosts → has h ≡ true → (m.word w h (slice_index loop h) ≡ t) × (slice_index loop h < slice_index next h) × Kept o held h (slice_index loop h)

  module _ (o : Sight) (next : List ℕ) (held : List s.Parts) (w : m.World) (c : SlotState) (t : Tied m s proto o next held w c) where
    -- the registers of a binding do not change
    binding_kept : (x : ℕ) → Sees o Binding x → (h r : ℕ) → s.Names (held_at held x) h r → Kept o held h r
    binding_kept x i h r n v y j k n' = at (t.apart Binding x v y i j k)
      where
        at : Distinct m s proto held Binding x v y → ⊥
        at (Same e f) = let wrong : false ≡ true = ap changing e ∙ k in cc
        at (Other d a) = a h r n' n

    pub operand_of : (x : ℕ) → Sees o Binding x → Operand m s next w (proto x) (held_at held x) (slice_index c.words x)
    operand_of x i = record { below = t.below Binding x i; stands = t.stands Binding x i }

    pub operand_of_variable : (x : ℕ) → Sees o Variable x → Operand m s next w (proto x) (held_at held x) (slice_index c.words x)
    operand_of_variable x i = record { below = t.below Variable x i; stands = t.stands Variable x i }

    done_of : (q : Proto) (made : Made m.Act s.Parts) (v : ℕ) → Gives m s next (Kept o held) made w q (Word v) → Done o next held w q made v c.world
    done_of q made v g = record { reached = g.reached; leads = g.leads; fresh = g.fresh; stands = g.stands; outside = quiet_outside m s proto w g.reached c.world g.quiet t.outside }

    pub moved : (x : ℕ) → Sees o Binding x → (q : Proto) → s.Declared q → s.joins (proto x) q ≡ true → Gives m s next (Kept o held) (s.calls.move (proto x) q (held_at held x) next) w q (Word (slice_index c.words x))
    moved x i q dq j =
        gives_from m s next (s.Names (held_at held x)) (Kept o held) (s.calls.move (proto x) q (held_at held x) next) w q (Word (slice_index c.words x)) (binding_kept x i)
        (laws.move_law (proto x) q (declared x) dq j (held_at held x) (slice_index c.words x) next w t.ready (operand_of x i))

    -- a word that was just made is moved on
    moved_on : (p q : Proto) → s.Declared p → s.Declared q → s.joins p q ≡ true → (made : Made m.Act s.Parts) (v : ℕ) → Gives m s next (Kept o held) made w p (Word v)
        → Gives m s next (Kept o held) (and_on s.calls proto made (s.calls.move p q)) w q (Word v)
    moved_on p q dp dq j made v g =
        let a : Between m s next w made.acts made.next = between_of m s next (Kept o held) made w p (Word v) g in
        gives_on m s next w made.acts made.next (s.Names made.given) (Kept o held) (s.calls.move p q made.given made.next) q (Word v) a
        (laws.move_law p q dp dq j made.given v made.next g.reached (ready_past m s next w made.acts made.next t.ready a) (record { below = g.fresh.below; stands = g.stands }))
        g.fresh.from

    -- the operands of an operation
    pub movables : (q : Proto) (ys : List SlotId) → list_all (is_binding o) ys ≡ true → Each (λ y. s.joins (proto y.0) q ≡ true) ys
        → Each (λ y. Movable m s laws proto next w (Kept o held) q (proto y.0) (held_at held y.0) (word_at c y)) ys
    movables q [] i j = tt
    movables q (y ∷ ys) i j =
        let here : Sees o Binding y.0 = and_left (is_binding o y) (list_all (is_binding o) ys) i in
        (record { declared = declared y.0; joins = j.0; operand = operand_of y.0 here; from = binding_kept y.0 here }, movables q ys (and_right (is_binding o y) (list_all (is_binding o) ys) i) j.1)

    pub length_map : (f : SlotId → ℕ) (ys : List SlotId) → length (map f ys) ≡ length ys
    length_map f [] = refl
    length_map f (y ∷ ys) = ap suc (length_map f ys)

    pub index_reached : (v i : SlotId) → Sees o Binding i.0 → Reaches m s proto i (λ h. is_holder (proto v.0) (host h))
        → Reached m s laws next w (holders_among s.calls (proto v.0)) (delivered s.calls proto (proto i.0) (held_at held i.0) (holders_among s.calls (proto v.0)) next) (word_at c i)
    index_reached v i sees reaches =
        deliver m s laws proto (proto i.0) (declared i.0) (held_at held i.0) (word_at c i) (holders_among s.calls (proto v.0))
        (picked_join m s laws proto (proto i.0) (λ h. is_holder (proto v.0) (host h)) 0 s.calls.hosts (λ h lt is. reaches h (at lt) is) (omega arith)) next w t.ready (operand_of i.0 sees)
      where
        at : {h : ℕ} → h < 0 + s.calls.hosts → h < s.calls.hosts
        at lt = omega arith

  module _ (o : Sight) (e : Emitting s.calls proto) (w : m.World) (c : SlotState) (t : Tied m s proto o e.next e.held w c) (turn : ℕ) (has : ℕ → Bool) where
    input_done : (h : HostId) → h.0 < s.calls.hosts → Done o e.next e.held w (Local h) (s.calls.input h e.next) (right_word (Input h) turn c) (after_right (Input h) c.world)
    input_done h lt =
        let there = t.outside.waiting h.0 in
        let g = laws.input_law h lt e.next w t.ready (subst (λ z. z < 2 ^ 32) (sym (first_at (m.waiting w h.0))) (t.outside.words h.0 0)) in
        record {
          reached = g.reached;
          leads = g.leads;
          fresh = fresh_from m s e.next (s.calls.input h e.next).next nothing (Kept o e.held) (s.calls.input h e.next).given (λ k r n. absurd n) g.fresh;
          stands = subst (λ z. s.Stands g.reached (Local h) (s.calls.input h e.next).given (Word (first_word z))) there g.stands;
          outside = record {
            printed = λ k. g.printed k ∙ t.outside.printed k;
            waiting = λ k. elim (ℕ_discrete k h.0) [ yes i ↦ at k i (g.taken ∙ ap later_words there) | no i ↦ g.waiting k i ∙ t.outside.waiting k ∙ sym (get_or-set_other c.world.inputs h.0 k _ [] i) ];
            words = λ k j. elim (ℕ_discrete k h.0) [
              | yes i ↦ subst (λ z. slice_index (m.waiting g.reached z) j < 2 ^ 32) (sym i) (subst (λ z. slice_index z j < 2 ^ 32) (sym g.taken) (subst (λ z. z < 2 ^ 32) (sym (later_at (m.waiting w h.0) j)) (t.outside.words h.0 (suc j))))
              | no i ↦ subst (λ z. slice_index z j < 2 ^ 32) (sym (g.waiting k i)) (t.outside.words k j)
            ];
            known = t.outside.known;
          };
        }
      where
        at : {v : m.World} (k : ℕ) → k ≡ h.0 → m.waiting v h.0 ≡ later_words (slice_index_or c.world.inputs h.0 [])
            → m.waiting v k ≡ slice_index_or (slice_set c.world.inputs h.0 (later_words (slice_index_or c.world.inputs h.0 []))) k []
        at {v} k i is =
            let P : ℕ → Type 0 = λ z. m.waiting v z ≡ slice_index_or (slice_set c.world.inputs h.0 (later_words (slice_index_or c.world.inputs h.0 []))) z [] in
            subst P (sym i) (is ∙ sym (taken_at c.world.inputs h.0))

    pub right_done : (x : ℕ) (right : Right) → right_sees right o ≡ true → RightFits s.calls.hosts right → RightPlaced m s proto (proto x) right → turn < 2 ^ 32
        → (right ≡ Turn → (h : ℕ) → is_holder (proto x) (host h) ≡ true → has h ≡ true) → Turning has o e.next e.held e.loop w turn
        → Done o e.next e.held w (proto x) (right_made s.calls proto (proto x) right e) (right_word right turn c) (after_right right c.world)
    right_done x (Lit n) sees fits placed small reach turning =
        done_of o e.next e.held w c t (proto x) (s.calls.literal (proto x) n e.next) n
        (gives_from m s e.next nothing (Kept o e.held) (s.calls.literal (proto x) n e.next) w (proto x) (Word n) (λ h r n. absurd n) (laws.literal_law (proto x) (declared x) placed n fits e.next w t.ready))
    right_done x Turn sees fits placed small reach turning =
        done_of o e.next e.held w c t (proto x) (s.calls.turn (proto x) e.loop e.next) turn
        (gives_from m s e.next nothing (Kept o e.held) (s.calls.turn (proto x) e.loop e.next) w (proto x) (Word turn) (λ h r n. absurd n)
        (laws.turn_law (proto x) (declared x) placed turn small e.loop e.next w t.ready (λ h lt i. let q = turning h lt (reach refl h i) in (q.0, q.1))))
    right_done x (Copy y) sees fits placed small reach turning = done_of o e.next e.held w c t (proto x) _ _ (moved o e.next e.held w c t y.0 sees (proto x) (declared x) placed)
    right_done x (Declassify y to) sees fits placed small reach turning = done_of o e.next e.held w c t (proto x) _ _ (moved o e.next e.held w c t y.0 sees (proto x) (declared x) placed)
    right_done x (Endorse y to) sees fits placed small reach turning = done_of o e.next e.held w c t (proto x) _ _ (moved o e.next e.held w c t y.0 sees (proto x) (declared x) placed)
    right_done x (Apply op ys) sees fits placed small reach turning =
        let args = all_moved s.calls proto (proto x) e ys e.next in
        let vs = map (word_at c) ys in
        let all = move_all m s laws proto (proto x) (declared x) (Kept o e.held) e (word_at c) ys e.next w t.ready (movables o e.next e.held w c t (proto x) ys sees placed.1) in
        let many : length args.given ≡ length ys = all.as_many ∙ length_map o e.next e.held w c t (word_at c) ys in
        done_of o e.next e.held w c t (proto x) _ _
        (gives_on m s e.next w args.acts args.next (NamedBy m s args.given) (Kept o e.held) (s.calls.apply op (proto x) args.given args.next) (proto x) (Word (result_of op vs)) all.between
        (laws.apply_law op (proto x) (declared x) placed.0 fits.1 args.given vs (many ∙ fits.0) args.next all.between.reached (ready_past m s e.next w args.acts args.next t.ready all.between) all.operands)
        all.from)
    right_done x (Input h) sees fits placed small reach turning =
        let P : Proto → Type 0 = λ q. Done o e.next e.held w q (s.calls.input h e.next) (right_word (Input h) turn c) (after_right (Input h) c.world) in
        subst P (sym (laws.input_stands h (proto x) placed)) (input_done h fits)
    right_done x (Load v) sees fits placed small reach turning =
        let kept = s.calls.keep (proto v.0) (held_at e.held v.0) e.next in
        let g = laws.keep_law (proto v.0) (declared v.0) placed.0 (held_at e.held v.0) (slice_index c.words v.0) e.next w t.ready (operand_of_variable o e.next e.held w c t v.0 sees) in
        done_of o e.next e.held w c t (proto x) _ _
        (moved_on o e.next e.held w c t (proto v.0) (proto x) (declared v.0) (declared x) placed.1 kept (slice_index c.words v.0)
        (gives_from m s e.next nothing (Kept o e.held) kept w (proto v.0) (Word (slice_index c.words v.0)) (λ h r n. absurd n) g))
    right_done x (Get v i) sees fits placed small reach turning =
        let sees_array : Sees o Array v.0 = and_left _ _ sees in
        let index = delivered s.calls proto (proto i.0) (held_at e.held i.0) (holders_among s.calls (proto v.0)) e.next in
        let all = index_reached o e.next e.held w c t v i (and_right _ _ sees) placed.2 in
        let words = array_at c v in
        let got = s.calls.get (proto v.0) (held_at e.held v.0) index.given index.next in
        let b = all.between in
        let below : Below m s index.next (held_at e.held v.0) = λ h r n. let lt = t.below Array v.0 sees_array h r n in let le = b.longer h in omega (arith, lt, le) in
        let g = laws.get_law (proto v.0) (declared v.0) placed.0 (held_at e.held v.0) words index.given (word_at c i) index.next b.reached (ready_past m s e.next w index.acts index.next t.ready b)
        below (laws.still w b.reached (proto v.0) (held_at e.held v.0) (Cells words) (t.stands Array v.0 sees_array) (λ h r n. b.leads.kept h r (t.below Array v.0 sees_array h r n) (λ z. z))) all.there in
        done_of o e.next e.held w c t (proto x) _ _
        (moved_on o e.next e.held w c t (proto v.0) (proto x) (declared v.0) (declared x) placed.1 (record { given = got.given; acts = index.acts ++ got.acts; next = got.next }) (slice_index words (word_at c i))
        (gives_on m s e.next w index.acts index.next nothing (Kept o e.held) got (proto v.0) (Word (slice_index words (word_at c i))) b g (λ h r n. absurd n)))
