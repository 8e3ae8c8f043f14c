-- The calls of a statement in two runs: the host is told openly the clear words that come to it, and else nothing but own words.
use Rattle.std.proofs.Common.{◌≡◌, ℕ, zero, suc, ◌+◌, ◌<◌, not, ◌&&◌, Bool, true, false, if◌then◌else◌, List, [], ◌∷◌, ◌++◌, inl, inr, map, length, slice_index, slice_get, refl, sym, ap, ap₂, subst, ◌∙◌, arith}
use Rattle.std.specs.Option.{option_map_or}
use Rattle.std.proofs.lemmas.Bool.{eq-eqb}
use Rattle.vd_base.specs.declared.ids.HostId.{HostId}
use Rattle.vd_base.specs.declared.ids.SlotId.{SlotId}
use Rattle.vd_base.specs.declared.protocols.Proto.{Proto}
use Rattle.vd_base.specs.declared.protocols.Proto.TheVariants.{Local, Rep, Commit, Add, Xor}
use Rattle.vd_base.specs.declared.rows.Row.TheVariants.{Variable as VariableRow}
use Rattle.vd_base.specs.HostSets.{host}
use Rattle.vd_base.specs.Holders.{has_clear, is_alone, is_holder, proto_in, same_protocol}
use Rattle.vd_base.proofs.Front.{same_is}
use Rattle.vd_core.specs.declared.normal.Right.{Right}
use Rattle.vd_core.specs.declared.normal.Right.TheVariants.{Lit, Turn, Copy, Apply, Input, Declassify, Endorse, Load, Get}
use Rattle.vd_core.specs.Facts.{Sight, right_sees}
use Rattle.vd_semantics.specs.ProgramMeaning.{SlotState, word_at, array_at}
use Rattle.vd_execution.specs.World.{Tape}
use Rattle.vd_execution.specs.Joint.{Host, Hosts}
use Rattle.vd_execution.specs.Acts.{run_acts as run_some}
use Rattle.vd_execution.specs.Gadgets.{Gadget, acts_of_gadget}
use Rattle.vd_duet.specs.Laws.{IsHost}
use Rattle.vd_duet.specs.Calls.{register_of}
use Rattle.vd_split.specs.Joint.{Hosts as AnyHosts, run_acts, Each}
use Rattle.vd_split.specs.Suite.{picked, Word, Cells, Suite, nothing, Gives, Ready, Operand, Below, Laws, holders_among}
use Rattle.vd_split.specs.Emission.{Emitting, parts_at, delivered, all_moved, right_made}
use Rattle.vd_split.specs.Validity.{RightPlaced, Reaches}
use Rattle.vd_split.proofs.Front.{and_left, and_right, Binding, Variable, Array, Sees, part, Unchanging, Tied, Between, between_of, ready_past, gives_on, operand_past, Movable, all_past, picked_join, operand_of, operand_of_variable, movables, index_reached}
use Rattle.vd_backend_laws.specs.Machine.{machine}
use Rattle.vd_backend_laws.specs.Parts.{Parts, suite_calls}
use Rattle.vd_backend_laws.specs.Suite.{IsOver, stands as slot_stands, suite}
use Rattle.vd_backend_laws.proofs.Front.{holder_at}
use Rattle.vd_noninter_protocols.specs.Hearing.{stands, comes, comes_alone, index_comes}
use Rattle.vd_noninter_protocols.proofs.Front.{kept_at, in_clear}
use Rattle.vd_views.specs.Views.{Coalition, IsIn}
use Rattle.vd_views.specs.Sides.{AreKin, after, Telling, Each as EachOf, HasClear, IsOpenAt}
use Rattle.vd_views.proofs.Sides.{telling_quiet, telling_on}
use Rattle.vd_views.proofs.Ordinary.{all_quiet, literal_ordinary, apply_ordinary, keep_ordinary, turn_ordinary, input_ordinary, get_ordinary}
use Rattle.vd_views.proofs.Moves.{move_tells}
use Rattle.vd_views.proofs.Words.{RightAgrees}

-- ---- where a host stands

pub item : (f : Proto → Bool) (l : List Proto) (i : ℕ) → i < length l → option_map_or f (slice_get l i) false ≡ f (proto_in l i)
item f [] i lt = absurd (omega arith)
item f (x ∷ l) zero lt = refl
item f (x ∷ l) (suc i) lt = item f l i (omega arith)

found : (f : Proto → Bool) (l : List Proto) (i : ℕ) → option_map_or f (slice_get l i) false ≡ true → f (proto_in l i) ≡ true
found f [] i e = cc
found f (x ∷ l) zero e = e
found f (x ∷ l) (suc i) e = found f l i e

clear_of : (h : HostId) (q : Proto) → HasClear h.0 q → has_clear h q ≡ true
clear_of h (Local k) e = eq-eqb k.0 h.0 (sym e)
clear_of h (Rep set) e = holder_at (Rep set) h.0 e
clear_of h (Commit p v) e = absurd e
clear_of h (Add a b) e = absurd e
clear_of h (Xor a b) e = absurd e

clear_alone : (h : HostId) (q : Proto) → is_alone h q ≡ true → has_clear h q ≡ true
clear_alone h (Local k) e = e
clear_alone h (Rep set) e = cc
clear_alone h (Commit p v) e = cc
clear_alone h (Add a b) e = cc
clear_alone h (Xor a b) e = cc

pub picked_passes : (test : ℕ → Bool) (from n h : ℕ) → IsHost (picked from n test) h → test h ≡ true
picked_passes test from zero h i = absurd i
picked_passes test from (suc n) h i = at (picked_passes test (from + 1) n h) (test from) refl i
  where
    at : (IsHost (picked (from + 1) n test) h → test h ≡ true) → (b : Bool) → test from ≡ b → IsHost (if b then host from ∷ picked (from + 1) n test else picked (from + 1) n test) h → test h ≡ true
    at again true e (inl j) = ap test j ∙ e
    at again true e (inr j) = again j
    at again false e j = again j

-- what follows from two tests
pub when_both : (a b : Bool) {X : Type 0} → a ≡ true → ((a && b) ≡ true → X) → b ≡ true → X
when_both true b i f e = f e
when_both false b i f e = cc

-- ---- one run: what a variable or an array gives

module _ (m : AnyHosts) (s : Suite m) (proto : ℕ → Proto) (laws : Laws m s) (declared : (x : ℕ) → s.Declared (proto x)) (o : Sight) (e : Emitting s.calls proto) (w : m.World) (c : SlotState) (t : Tied m s proto o e.next e.held w c) where
  kept_gives : (v : SlotId) → Sees o Variable v.0 → s.holds VariableRow (proto v.0) ≡ true
      → Gives m s e.next nothing (s.calls.keep (proto v.0) (part m s proto e.held v.0) e.next) w (proto v.0) (Word (word_at c v))
  kept_gives v sees holds = laws.keep_law (proto v.0) (declared v.0) holds (part m s proto e.held v.0) (word_at c v) e.next w t.ready (operand_of_variable m s proto laws declared o e.next e.held w c t v.0 sees)

  got_gives : (v i : SlotId) → Sees o Array v.0 → Sees o Binding i.0 → s.holds VariableRow (proto v.0) ≡ true → Reaches m s proto i (λ k. is_holder (proto v.0) (host k))
      → let index = delivered s.calls proto (proto i.0) (part m s proto e.held i.0) (holders_among s.calls (proto v.0)) e.next in
      let got = s.calls.get (proto v.0) (part m s proto e.held v.0) index.given index.next in
      Gives m s e.next nothing (record { given = got.given; acts = index.acts ++ got.acts; next = got.next }) w (proto v.0) (Word (slice_index (array_at c v) (word_at c i)))
  got_gives v i sees_v sees_i holds reaches =
      let index = delivered s.calls proto (proto i.0) (part m s proto e.held i.0) (holders_among s.calls (proto v.0)) e.next in
      let all = index_reached m s proto laws declared o e.next e.held w c t v i sees_i reaches in
      let words = array_at c v in
      let got = s.calls.get (proto v.0) (part m s proto e.held v.0) index.given index.next in
      let b = all.between in
      let below : Below m s index.next (part m s proto e.held v.0) = λ h r n. let lt = t.below Array v.0 sees_v h r n in let le = b.longer h in omega (arith, lt, le) in
      let g = laws.get_law (proto v.0) (declared v.0) holds (part m s proto e.held v.0) words index.given (word_at c i) index.next b.reached (ready_past m s e.next w index.acts index.next t.ready b)
      below (laws.still w b.reached (proto v.0) (part m s proto e.held v.0) (Cells words) (t.stands Array v.0 sees_v) (λ h r n. b.leads.kept h r (t.below Array v.0 sees_v h r n) (λ z. z))) all.there in
      gives_on m s e.next w index.acts index.next nothing nothing got (proto v.0) (Word (slice_index words (word_at c i))) b g (λ h r n. absurd n)

-- acts one after the other, in both readings
pub same_run : (t : Tape) (inputs : ℕ → List ℕ) (gs : List Gadget) (w : Hosts) → after t gs w ≡ run_acts (machine t inputs) gs w
same_run t inputs [] w = refl
same_run t inputs (g ∷ gs) w = same_run t inputs gs (run_some t (acts_of_gadget g) w)

-- ---- two runs

module _ (K : Coalition) (low : (g : ℕ) → IsIn K g → g < 8) (t u : Tape) (kin : AreKin K t u) (inputs others : ℕ → List ℕ) (hosts : ℕ) (protocols : List Proto)
    (laws : Laws (machine t inputs) (suite t inputs hosts)) (laws' : Laws (machine u others) (suite u others hosts))
    (over : (x : ℕ) → IsOver hosts (proto_in protocols x)) (opens : (x : ℕ) → IsOpenAt K (proto_in protocols x)) where
  abbrev pub proto : ℕ → Proto
  proto = proto_in protocols

  abbrev pub m : AnyHosts
  m = machine t inputs

  abbrev pub n : AnyHosts
  n = machine u others

  abbrev pub s : Suite (machine t inputs)
  s = suite t inputs hosts

  abbrev pub s' : Suite (machine u others)
  s' = suite u others hosts

  abbrev pub Tells : List Gadget → Hosts → Hosts → Type 0
  Tells gs w v = Telling K t u gs w v

  -- where the host has a word in clear, and looks alike, the word is the same
  in_both : (g : ℕ) → IsIn K g → (q : Proto) (p : Parts) (w v : Hosts) (c d : ℕ) → has_clear (host g) q ≡ true → w g ≡ v g → slot_stands w q p (Word c) → slot_stands v q p (Word d) → c ≡ d
  in_both g m q p w v c d has same a b = sym (in_clear w (host g) (low g m) q p c has a) ∙ ap (λ (k : Host). k.registers (register_of p.at g).0) same ∙ in_clear v (host g) (low g m) q p d has b

  -- a word that is moved to where the host has it in clear
  same_word : (g : ℕ) → IsIn K g → (y x : SlotId) → x.0 < length protocols → (p : Parts) (w v : Hosts) (c d : ℕ) → w g ≡ v g → slot_stands w (proto y.0) p (Word c) → slot_stands v (proto y.0) p (Word d)
      → (comes protocols (host g) y x ≡ true → c ≡ d) → HasClear g (proto x.0) → c ≡ d
  same_word g m y x below p w v c d same a b agrees has = at (same_protocol (proto_in protocols y.0) (proto_in protocols x.0)) refl
    where
      onto : stands protocols (host g) (has_clear (host g)) x ≡ true
      onto = item (has_clear (host g)) protocols x.0 below ∙ clear_of (host g) (proto x.0) has

      at : (z : Bool) → same_protocol (proto_in protocols y.0) (proto_in protocols x.0) ≡ z → c ≡ d
      at false e = agrees (ap₂ (λ (i j : Bool). i && not j) onto e)
      at true e =
          let one : proto_in protocols x.0 ≡ proto_in protocols y.0 = sym (same_is (proto_in protocols y.0) (proto_in protocols x.0) e) in
          in_both g m (proto y.0) p w v c d (subst (λ (q : Proto). has_clear (host g) q ≡ true) one (clear_of (host g) (proto x.0) has)) same a b

  -- a word that is moved to the host alone
  pub same_alone : (g : ℕ) → IsIn K g → (x : SlotId) (p : Parts) (w v : Hosts) (c d : ℕ) → w g ≡ v g → slot_stands w (proto x.0) p (Word c) → slot_stands v (proto x.0) p (Word d)
      → (comes_alone protocols (host g) x ≡ true → c ≡ d) → c ≡ d
  same_alone g m x p w v c d same a b agrees = at (stands protocols (host g) (is_alone (host g)) x) refl
    where
      at : (z : Bool) → stands protocols (host g) (is_alone (host g)) x ≡ z → c ≡ d
      at false e = agrees (ap not e)
      at true e = in_both g m (proto x.0) p w v c d (clear_alone (host g) (proto x.0) (found (is_alone (host g)) protocols x.0 e)) same a b

  -- ---- moves

  pub moved_tells : (o : Sight) (next : List ℕ) (held : List Parts) (w v : Hosts) (c d : SlotState) → Tied m s proto o next held w c → Tied n s' proto o next held v d
      → (y : SlotId) → Sees o Binding y.0 → (q : Proto) → IsOpenAt K q → s.joins (proto y.0) q ≡ true → ((g : ℕ) → IsIn K g → w g ≡ v g → HasClear g q → word_at c y ≡ word_at d y)
      → Tells ((suite_calls hosts).move (proto y.0) q (part m s proto held y.0) next).acts w v
  moved_tells o next held w v c d t1 t2 y sees q f joins same both tidy hides owns =
      move_tells K t u kin inputs others hosts (proto y.0) q (opens y.0) f (over y.0) joins (part m s proto held y.0) next w v (word_at c y) (word_at d y)
      (record {
        ready = t1.ready;
        ready_too = t2.ready;
        first = operand_of m s proto laws over o next held w c t1 y.0 sees;
        second = operand_of n s' proto laws' over o next held v d t2 y.0 sees;
      })
      (λ g m. same g m (both.looks g m).itself) both tidy hides owns

  -- a word that is moved to each of some hosts
  each_told : (p : Proto) → IsOpenAt K p → IsOver hosts p → (x : Parts) (a b : ℕ) (ks : List HostId) → Each (λ k. (k.0 < hosts) × (s.joins p (Local k) ≡ true)) ks → (next : List ℕ) (w v : Hosts)
      → Ready m s next w → Ready n s' next v → Operand m s next w p x a → Operand n s' next v p x b → ((g : ℕ) → IsIn K g → IsHost ks g → a ≡ b) → Tells (delivered (suite_calls hosts) proto p x ks next).acts w v
  each_told p f ov x a b [] joins next w v r1 r2 o1 o2 same = λ both tidy hides owns. tt
  each_told p f ov x a b (k ∷ ks) joins next w v r1 r2 o1 o2 same =
      let one = (suite_calls hosts).move p (Local k) x next in
      let g1 = laws.move_law p (Local k) ov (laws.local_is_declared k joins.0.0) joins.0.1 x a next w r1 o1 in
      let g2 = laws'.move_law p (Local k) ov (laws'.local_is_declared k joins.0.0) joins.0.1 x b next v r2 o2 in
      let b1 : Between m s next w one.acts one.next = between_of m s next (s.Names x) one w (Local k) (Word a) g1 in
      let b2 : Between n s' next v one.acts one.next = between_of n s' next (s'.Names x) one v (Local k) (Word b) g2 in
      telling_on K t u kin one.acts (delivered (suite_calls hosts) proto p x ks one.next).acts w v g1.reached g2.reached (same_run t inputs one.acts w ∙ g1.leads.runs) (same_run u others one.acts v ∙ g2.leads.runs)
      (move_tells K t u kin inputs others hosts p (Local k) f tt ov joins.0.1 x next w v a b (record { ready = r1; ready_too = r2; first = o1; second = o2 }) (λ g m i. same g m (inl i)))
      (each_told p f ov x a b ks joins.1 one.next g1.reached g2.reached (ready_past m s next w one.acts one.next r1 b1) (ready_past n s' next v one.acts one.next r2 b2)
      (operand_past m s laws next w one.acts one.next p x a b1 o1) (operand_past n s' laws' next v one.acts one.next p x b b2 o2) (λ g m i. same g m (inr i)))

  pub delivered_tells : (p : Proto) → IsOpenAt K p → IsOver hosts p → (x : Parts) (a b : ℕ) (ks : List HostId) → Each (λ k. (k.0 < hosts) × (s.joins p (Local k) ≡ true)) ks → (next : List ℕ) (w v : Hosts)
      → Ready m s next w → Ready n s' next v → Operand m s next w p x a → Operand n s' next v p x b → ((g : ℕ) → IsIn K g → w g ≡ v g → IsHost ks g → a ≡ b) → Tells (delivered (suite_calls hosts) proto p x ks next).acts w v
  delivered_tells p f ov x a b ks joins next w v r1 r2 o1 o2 same both tidy hides owns = each_told p f ov x a b ks joins next w v r1 r2 o1 o2 (λ g m. same g m (both.looks g m).itself) both tidy hides owns

  -- operands, from left to right
  operands_tell : (x : SlotId) → x.0 < length protocols → (e : Emitting (suite_calls hosts) proto) (f g : SlotId → ℕ) (source source' : ℕ → ℕ → Type 0) (ys : List SlotId) (next : List ℕ) (w v : Hosts)
      → Ready m s next w → Ready n s' next v
      → Each (λ y. Movable m s laws proto next w source (proto x.0) (proto y.0) (parts_at (suite_calls hosts) proto e y) (f y)) ys
      → Each (λ y. Movable n s' laws' proto next v source' (proto x.0) (proto y.0) (parts_at (suite_calls hosts) proto e y) (g y)) ys
      → ((k : ℕ) → IsIn K k → EachOf (λ y. comes protocols (host k) y x ≡ true → f y ≡ g y) ys) → Tells (all_moved (suite_calls hosts) proto (proto x.0) e ys next).acts w v
  operands_tell x below e f g source source' [] next w v r1 r2 all1 all2 agrees = λ both tidy hides owns. tt
  operands_tell x below e f g source source' (y ∷ ys) next w v r1 r2 all1 all2 agrees =
      let o1 = all1.0 in
      let o2 = all2.0 in
      let from = parts_at (suite_calls hosts) proto e y in
      let one = (suite_calls hosts).move (proto y.0) (proto x.0) from next in
      let g1 = laws.move_law (proto y.0) (proto x.0) o1.declared (over x.0) o1.joins from (f y) next w r1 o1.operand in
      let g2 = laws'.move_law (proto y.0) (proto x.0) o2.declared (over x.0) o2.joins from (g y) next v r2 o2.operand in
      let b1 : Between m s next w one.acts one.next = between_of m s next (s.Names from) one w (proto x.0) (Word (f y)) g1 in
      let b2 : Between n s' next v one.acts one.next = between_of n s' next (s'.Names from) one v (proto x.0) (Word (g y)) g2 in
      telling_on K t u kin one.acts (all_moved (suite_calls hosts) proto (proto x.0) e ys one.next).acts w v g1.reached g2.reached (same_run t inputs one.acts w ∙ g1.leads.runs) (same_run u others one.acts v ∙ g2.leads.runs)
      (λ both tidy hides owns.
      move_tells K t u kin inputs others hosts (proto y.0) (proto x.0) (opens y.0) (opens x.0) (over y.0) o1.joins from next w v (f y) (g y) (record { ready = r1; ready_too = r2; first = o1.operand; second = o2.operand })
      (λ k i. same_word k i y x below from w v (f y) (g y) (both.looks k i).itself o1.operand.stands o2.operand.stands (agrees k i).0) both tidy hides owns)
      (operands_tell x below e f g source source' ys one.next g1.reached g2.reached (ready_past m s next w one.acts one.next r1 b1) (ready_past n s' next v one.acts one.next r2 b2)
      (all_past m s laws proto next w one.acts one.next source (proto x.0) e f b1 ys all1.1) (all_past n s' laws' proto next v one.acts one.next source' (proto x.0) e g b2 ys all2.1) (λ k i. (agrees k i).1))

  -- ---- statements

  module _ (o : Sight) (e : Emitting (suite_calls hosts) proto) (w v : Hosts) (c d : SlotState) (t1 : Tied m s proto o e.next e.held w c) (t2 : Tied n s' proto o e.next e.held v d) where
    abbrev held : SlotId → Parts
    held x = part m s proto e.held x.0

    -- a word that is moved to where the slot x stands
    pub word_tells : (y x : SlotId) → x.0 < length protocols → Sees o Binding y.0 → s.joins (proto y.0) (proto x.0) ≡ true → ((g : ℕ) → IsIn K g → comes protocols (host g) y x ≡ true → word_at c y ≡ word_at d y)
        → Tells ((suite_calls hosts).move (proto y.0) (proto x.0) (held y) e.next).acts w v
    word_tells y x below sees joins agrees =
        moved_tells o e.next e.held w v c d t1 t2 y sees (proto x.0) (opens x.0) joins
        (λ g i same has. same_word g i y x below (held y) w v (word_at c y) (word_at d y) same (t1.stands Binding y.0 sees) (t2.stands Binding y.0 sees) (agrees g i) has)

    -- an index, moved to each host at which the array is kept
    pub index_tells : (a i : SlotId) → a.0 < length protocols → Sees o Binding i.0 → Reaches m s proto i (λ k. is_holder (proto a.0) (host k)) → ((g : ℕ) → IsIn K g → index_comes protocols (host g) a i ≡ true → word_at c i ≡ word_at d i)
        → Tells (delivered (suite_calls hosts) proto (proto i.0) (held i) (holders_among (suite_calls hosts) (proto a.0)) e.next).acts w v
    index_tells a i below sees reaches agrees =
        delivered_tells (proto i.0) (opens i.0) (over i.0) (held i) (word_at c i) (word_at d i) (holders_among (suite_calls hosts) (proto a.0))
        (picked_join m s laws proto (proto i.0) (λ k. is_holder (proto a.0) (host k)) 0 hosts (λ k lt is. reaches k (within lt) is) (omega arith)) e.next w v t1.ready t2.ready
        (operand_of m s proto laws over o e.next e.held w c t1 i.0 sees) (operand_of n s' proto laws' over o e.next e.held v d t2 i.0 sees)
        (λ g k same among. same_alone g k i (held i) w v (word_at c i) (word_at d i) same (t1.stands Binding i.0 sees) (t2.stands Binding i.0 sees)
        (when_both (stands protocols (host g) (λ q. is_holder q (host g)) a) (comes_alone protocols (host g) i) (kept_at protocols (host g) a below ∙ picked_passes (λ k. is_holder (proto a.0) (host k)) 0 hosts g among) (agrees g k)))
      where
        within : {k : ℕ} → k < 0 + hosts → k < hosts
        within lt = omega arith

    pub right_tells : (x : SlotId) (right : Right) → x.0 < length protocols → right_sees right o ≡ true → RightPlaced m s proto (proto x.0) right → ((a i : SlotId) → right ≡ Get a i → a.0 < length protocols) → ((g : ℕ) → IsIn K g → RightAgrees protocols (host g) x right c d)
        → Tells (right_made (suite_calls hosts) proto (proto x.0) right e).acts w v
    right_tells x (Lit k) below sees placed known agrees = telling_quiet K t u kin (right_made (suite_calls hosts) proto (proto x.0) (Lit k) e).acts w v (all_quiet (right_made (suite_calls hosts) proto (proto x.0) (Lit k) e).acts (literal_ordinary (proto x.0) k e.next))
    right_tells x Turn below sees placed known agrees = telling_quiet K t u kin (right_made (suite_calls hosts) proto (proto x.0) Turn e).acts w v (all_quiet (right_made (suite_calls hosts) proto (proto x.0) Turn e).acts (turn_ordinary (proto x.0) e.loop e.next))
    right_tells x (Copy y) below sees placed known agrees = word_tells y x below sees placed agrees
    right_tells x (Apply op ys) below sees placed known agrees =
        let args = all_moved (suite_calls hosts) proto (proto x.0) e ys e.next in
        let made = (suite_calls hosts).apply op (proto x.0) args.given args.next in
        telling_on K t u kin args.acts made.acts w v (after t args.acts w) (after u args.acts v) refl refl
        (operands_tell x below e (word_at c) (word_at d) (Unchanging m s proto o e.held) (Unchanging n s' proto o e.held) ys e.next w v t1.ready t2.ready
        (movables m s proto laws over o e.next e.held w c t1 (proto x.0) ys sees placed.1) (movables n s' proto laws' over o e.next e.held v d t2 (proto x.0) ys sees placed.1) agrees)
        (telling_quiet K t u kin made.acts (after t args.acts w) (after u args.acts v) (all_quiet made.acts (apply_ordinary (proto x.0) op (map (λ z. z.at) args.given) args.next)))
    right_tells x (Input k) below sees placed known agrees = telling_quiet K t u kin (right_made (suite_calls hosts) proto (proto x.0) (Input k) e).acts w v (all_quiet (right_made (suite_calls hosts) proto (proto x.0) (Input k) e).acts (input_ordinary k e.next))
    right_tells x (Declassify y to) below sees placed known agrees = word_tells y x below sees placed agrees
    right_tells x (Endorse y to) below sees placed known agrees = word_tells y x below sees placed agrees
    right_tells x (Load a) below sees placed known agrees =
        let kept = (suite_calls hosts).keep (proto a.0) (held a) e.next in
        let g1 = kept_gives m s proto laws over o e w c t1 a sees placed.0 in
        let g2 = kept_gives n s' proto laws' over o e v d t2 a sees placed.0 in
        let b1 : Between m s e.next w kept.acts kept.next = between_of m s e.next nothing kept w (proto a.0) (Word (word_at c a)) g1 in
        let b2 : Between n s' e.next v kept.acts kept.next = between_of n s' e.next nothing kept v (proto a.0) (Word (word_at d a)) g2 in
        let more = (suite_calls hosts).move (proto a.0) (proto x.0) kept.given kept.next in
        telling_on K t u kin kept.acts more.acts w v g1.reached g2.reached (same_run t inputs kept.acts w ∙ g1.leads.runs) (same_run u others kept.acts v ∙ g2.leads.runs)
        (telling_quiet K t u kin kept.acts w v (all_quiet kept.acts (keep_ordinary (proto a.0) (held a).at e.next)))
        (λ both tidy hides owns.
        move_tells K t u kin inputs others hosts (proto a.0) (proto x.0) (opens a.0) (opens x.0) (over a.0) placed.1 kept.given kept.next g1.reached g2.reached (word_at c a) (word_at d a)
        (record {
          ready = ready_past m s e.next w kept.acts kept.next t1.ready b1;
          ready_too = ready_past n s' e.next v kept.acts kept.next t2.ready b2;
          first = record { below = g1.fresh.below; stands = g1.stands };
          second = record { below = g2.fresh.below; stands = g2.stands };
        })
        (λ g i. same_word g i a x below kept.given g1.reached g2.reached (word_at c a) (word_at d a) (both.looks g i).itself g1.stands g2.stands (agrees g i)) both tidy hides owns)
    right_tells x (Get a i) below sees placed known agrees =
        let sees_a : Sees o Array a.0 = and_left _ _ sees in
        let sees_i : Sees o Binding i.0 = and_right _ _ sees in
        let index = delivered (suite_calls hosts) proto (proto i.0) (held i) (holders_among (suite_calls hosts) (proto a.0)) e.next in
        let got = (suite_calls hosts).get (proto a.0) (held a) index.given index.next in
        let p : ℕ = slice_index (array_at c a) (word_at c i) in
        let q : ℕ = slice_index (array_at d a) (word_at d i) in
        let g1 = got_gives m s proto laws over o e w c t1 a i sees_a sees_i placed.0 placed.2 in
        let g2 = got_gives n s' proto laws' over o e v d t2 a i sees_a sees_i placed.0 placed.2 in
        let b1 : Between m s e.next w (index.acts ++ got.acts) got.next = between_of m s e.next nothing (record { given = got.given; acts = index.acts ++ got.acts; next = got.next }) w (proto a.0) (Word p) g1 in
        let b2 : Between n s' e.next v (index.acts ++ got.acts) got.next = between_of n s' e.next nothing (record { given = got.given; acts = index.acts ++ got.acts; next = got.next }) v (proto a.0) (Word q) g2 in
        let more = (suite_calls hosts).move (proto a.0) (proto x.0) got.given got.next in
        telling_on K t u kin (index.acts ++ got.acts) more.acts w v g1.reached g2.reached (same_run t inputs (index.acts ++ got.acts) w ∙ g1.leads.runs) (same_run u others (index.acts ++ got.acts) v ∙ g2.leads.runs)
        (telling_on K t u kin index.acts got.acts w v (after t index.acts w) (after u index.acts v) refl refl (index_tells a i (known a i refl) sees_i placed.2 (λ k j. (agrees k j).0))
        (telling_quiet K t u kin got.acts (after t index.acts w) (after u index.acts v) (all_quiet got.acts (get_ordinary (proto a.0) (held a) index.given index.next))))
        (λ both tidy hides owns.
        move_tells K t u kin inputs others hosts (proto a.0) (proto x.0) (opens a.0) (opens x.0) (over a.0) placed.1 got.given got.next g1.reached g2.reached p q
        (record {
          ready = ready_past m s e.next w (index.acts ++ got.acts) got.next t1.ready b1;
          ready_too = ready_past n s' e.next v (index.acts ++ got.acts) got.next t2.ready b2;
          first = record { below = g1.fresh.below; stands = g1.stands };
          second = record { below = g2.fresh.below; stands = g2.stands };
        })
        (λ k j. same_word k j a x below got.given g1.reached g2.reached p q (both.looks k j).itself g1.stands g2.stands (agrees k j).1) both tidy hides owns)
