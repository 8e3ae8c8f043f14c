-- Statements that follow each other.
use Rattle.std.proofs.Common.{◌≡◌, ℕ, ◌+◌, ◌^◌, ◌<◌, ◌≤◌, Bool, true, false, List, [], ◌∷◌, ◌++◌, length, slice_index, slice_index_or, slice_set, replicate, ◌⊎◌, inl, inr, refl, sym, ap, ◌∙◌, subst, arith, append_assoc, append-nil, length-append, length-set}
use Rattle.std.proofs.lemmas.List.{get_or-set_other, get_or-set_same}
use native.Mathlib.Decide.{ℕ_discrete}
use Rattle.vd_base.specs.declared.ids.HostId.{HostId}
use Rattle.vd_base.specs.declared.ids.SlotId.{SlotId}
use Rattle.vd_base.specs.declared.protocols.Proto.{Proto}
use Rattle.vd_base.specs.declared.protocols.Proto.TheVariants.{Local}
use Rattle.vd_base.specs.declared.rows.Row.TheVariants.{Variable as VariableRow}
use Rattle.vd_base.specs.HostSets.{host}
use Rattle.vd_base.specs.Holders.{is_holder}
use Rattle.vd_core.specs.declared.normal.Right.{Right}
use Rattle.vd_core.specs.declared.normal.Right.TheVariants.{Turn}
use Rattle.vd_core.specs.Facts.{Sight, right_sees}
use Rattle.vd_semantics.specs.World.{after_output}
use Rattle.vd_semantics.specs.ProgramMeaning.{SlotState, word_at, array_at, with_word, with_array, in_world, right_word, after_right}
use Rattle.vd_execution.specs.Plans.{Ends}
use Rattle.vd_split.specs.Joint.{Hosts, acts_then, and_then, run_acts, joint, Goes}
use Rattle.vd_split.specs.Suite.{Content, Word, Cells, Made, Suite, nothing, Leads, Fresh, Renews, Laws, holders_among}
use Rattle.vd_split.specs.Emission.{Emitting, Emitted, delivered, and_on, right_made, with_parts, with_acts, store_made, put_made, output_made}
use Rattle.vd_split.specs.Validity.{RightFits, RightPlaced, Reaches}
use Rattle.vd_split.proofs.Lists.{front_kept}
use Rattle.vd_split.proofs.Runs.{joint_acts, joint_then, goes_acts, goes_then}
use Rattle.vd_split.proofs.Sight.{Use, Binding, Variable, Array, Sees, changing, content, with_use, Which, New, Old, which, still_seen, item_put, item_put_other}
use Rattle.vd_split.proofs.Tied.{part, Unchanging, Outside, Tied, quiet_outside, tied_past, tied_more, tied_renewed}
use Rattle.vd_split.proofs.Calls.{Between, between_of, between_on, ready_past, gives_on, operand_past, delivered_past, leads_on}
use Rattle.vd_split.proofs.ChoreographyRights.{operand_of_variable, moved, right_done, index_reached}

-- other slots keep what they have where one is written
pub other_word : (x : SlotId) (w : ℕ) (c : SlotState) (u : Use) (y : ℕ) → (y ≡ x.0 → ⊥) → content u (with_word x w c) y ≡ content u c y
other_word x w c Binding y n = ap Word (item_put_other 0 c.words x.0 y w n)
other_word x w c Variable y n = ap Word (item_put_other 0 c.words x.0 y w n)
other_word x w c Array y n = refl

pub other_array : (x : SlotId) (ws : List ℕ) (c : SlotState) (u : Use) (y : ℕ) → (y ≡ x.0 → ⊥) → content u (with_array x ws c) y ≡ content u c y
other_array x ws c Binding y n = refl
other_array x ws c Variable y n = refl
other_array x ws c Array y n = ap Cells (item_put_other [] c.arrays x.0 y ws n)

told_at : (l : List (List ℕ)) (h v : ℕ) → h < length l → slice_index_or (slice_set l h (slice_index_or l h [] ++ v ∷ [])) h [] ≡ slice_index_or l h [] ++ v ∷ []
told_at l h v lt = get_or-set_same l h _ [] lt

module _ (m : Hosts) (s : Suite m) (proto : ℕ → Proto) where
  abbrev pub E : Type 0
  E = Emitting s.calls proto

  abbrev pub Ties : Sight → E → m.World → SlotState → Type 0
  Ties o e w c = Tied m s proto o e.next e.held w c

  abbrev pub TurnsIn : (ℕ → Bool) → Sight → E → m.World → ℕ → Type 0
  TurnsIn has o e w t = (h : ℕ) → h < s.calls.hosts → has h ≡ true → (m.word w h (slice_index e.loop h) ≡ t) × (slice_index e.loop h < slice_index e.next h) × Unchanging m s proto o e.held h (slice_index e.loop h)

  -- a tree leads to a state in which the slots in sight stand for what they have after the statements
  pub record After (o o' : Sight) (e : E) (made : Emitted s.calls proto) (n : ℕ) (w : m.World) (c' : SlotState) : Type 0 where
    pub reached : m.World
    pub runs : joint m made.tree w ≡ reached
    pub goes : Goes m made.tree w
    pub tied : Ties o' made.state reached c'
    pub more : List s.Parts
    pub held : made.state.held ≡ e.held ++ more
    pub many : length more ≡ n
    pub longer : (h : ℕ) → slice_index e.next h ≤ slice_index made.state.next h
    pub loop : made.state.loop ≡ e.loop
    pub seen : (u : Use) (x : ℕ) → Sees o u x → Sees o' u x
    pub fresh : (v : Use) (y : ℕ) → Sees o' v y → changing v ≡ true → Sees o v y ⊎ ((h r : ℕ) → s.Names (part m s proto made.state.held y) h r → slice_index e.next h ≤ r)
    pub kept : (h r : ℕ) → r < slice_index e.next h → Unchanging m s proto o e.held h r → m.word reached h r ≡ m.word w h r

  -- a register that does not change goes on so
  pub unchanging_past : (o o' : Sight) (e : E) (made : Emitted s.calls proto) (n : ℕ) (w : m.World) (c c' : SlotState) → Ties o e w c → After o o' e made n w c'
      → (h r : ℕ) → r < slice_index e.next h → Unchanging m s proto o e.held h r → Unchanging m s proto o' made.state.held h r
  unchanging_past o o' e made n w c c' t a h r lt u v y i k named = at (a.fresh v y i k)
    where
      at : Sees o v y ⊎ ((h r : ℕ) → s.Names (part m s proto made.state.held y) h r → slice_index e.next h ≤ r) → ⊥
      at (inl j) = u v y j k (subst (λ z. s.Names z h r) (ap (λ (l : List s.Parts). part m s proto l y) a.held ∙ front_kept e.held a.more y s.calls.nowhere (t.made v y j)) named)
      at (inr f) = let le = f h r named in omega arith

  pub turns_past : (has : ℕ → Bool) (turn : ℕ) (o o' : Sight) (e : E) (made : Emitted s.calls proto) (n : ℕ) (w : m.World) (c c' : SlotState) → Ties o e w c → (a : After o o' e made n w c')
      → TurnsIn has o e w turn → TurnsIn has o' made.state a.reached turn
  turns_past has turn o o' e made n w c c' t a ts h within i =
      let q = ts h within i in
      let P : List ℕ → Type 0 = λ l. (m.word a.reached h (slice_index l h) ≡ turn) × (slice_index l h < slice_index made.state.next h) × Unchanging m s proto o' made.state.held h (slice_index l h) in
      subst P (sym a.loop) (a.kept h (slice_index e.loop h) q.1 q.2 ∙ q.0, below h q.1, unchanging_past o o' e made n w c c' t a h (slice_index e.loop h) q.1 q.2)
    where
      below : (h : ℕ) → slice_index e.loop h < slice_index e.next h → slice_index e.loop h < slice_index made.state.next h
      below h lt = let le = a.longer h in omega arith

  pub nothing_after : (o : Sight) (e : E) (w : m.World) (c : SlotState) → Ties o e w c → After o o e (record { tree = Ends; state = e }) 0 w c
  nothing_after o e w c t = record {
    reached = w;
    runs = refl;
    goes = tt;
    tied = t;
    more = [];
    held = sym (append-nil e.held);
    many = refl;
    longer = λ h. omega arith;
    loop = refl;
    seen = λ u x i. i;
    fresh = λ v y i k. inl i;
    kept = λ h r lt u. refl;
  }

  abbrev pub then_made : Emitted s.calls proto → (E → Emitted s.calls proto) → Emitted s.calls proto
  then_made one f = let rest = f one.state in record { tree = and_then one.tree rest.tree; state = rest.state }

  -- one after the other
  pub after_on : (o o1 o2 : Sight) (e : E) (one : Emitted s.calls proto) (f : E → Emitted s.calls proto) (n k : ℕ) (w : m.World) (c c1 c2 : SlotState) → Ties o e w c → (a : After o o1 e one n w c1)
      → After o1 o2 one.state (f one.state) k a.reached c2 → After o o2 e (then_made one f) (n + k) w c2
  after_on o o1 o2 e one f n k w c c1 c2 t a b = record {
    reached = b.reached;
    runs = joint_then m one.tree (f one.state).tree w ∙ ap (joint m (f one.state).tree) a.runs ∙ b.runs;
    goes = goes_then m one.tree (f one.state).tree w a.goes (subst (Goes m (f one.state).tree) (sym a.runs) b.goes);
    tied = b.tied;
    more = a.more ++ b.more;
    held = b.held ∙ ap (λ (l : List s.Parts). l ++ b.more) a.held ∙ append_assoc e.held a.more b.more;
    many = length-append a.more b.more ∙ sum a.many b.many;
    longer = λ h. let x = a.longer h in let y = b.longer h in omega arith;
    loop = b.loop ∙ a.loop;
    seen = λ u x i. b.seen u x (a.seen u x i);
    fresh = λ v y i j. at v y j (b.fresh v y i j);
    kept = λ h r lt u. b.kept h r (let x = a.longer h in omega arith) (unchanging_past o o1 e one n w c c1 t a h r lt u) ∙ a.kept h r lt u;
  }
    where
      sum : {i j : ℕ} → i ≡ n → j ≡ k → i + j ≡ n + k
      sum p q = omega arith

      at : (v : Use) (y : ℕ) → changing v ≡ true → Sees o1 v y ⊎ ((h r : ℕ) → s.Names (part m s proto (f one.state).state.held y) h r → slice_index one.state.next h ≤ r)
          → Sees o v y ⊎ ((h r : ℕ) → s.Names (part m s proto (f one.state).state.held y) h r → slice_index e.next h ≤ r)
      at v y j (inr g) = inr (λ h r named. let x = a.longer h in let z = g h r named in omega arith)
      at v y j (inl i) = earlier (a.fresh v y i j)
        where
          same : part m s proto (f one.state).state.held y ≡ part m s proto one.state.held y
          same = ap (λ (l : List s.Parts). part m s proto l y) b.held ∙ front_kept one.state.held b.more y s.calls.nowhere (a.tied.made v y i)

          earlier : Sees o v y ⊎ ((h r : ℕ) → s.Names (part m s proto one.state.held y) h r → slice_index e.next h ≤ r)
              → Sees o v y ⊎ ((h r : ℕ) → s.Names (part m s proto (f one.state).state.held y) h r → slice_index e.next h ≤ r)
          earlier (inl p) = inl p
          earlier (inr g) = inr (λ h r named. g h r (subst (λ z. s.Names z h r) same named))

  -- acts alone
  acts_run : (acts : List m.Act) (w w' : m.World) → run_acts m acts w ≡ w' → joint m (acts_then acts Ends) w ≡ w'
  acts_run acts w w' is = joint_acts m acts Ends w ∙ is

  module _ (laws : Laws m s) (declared : (x : ℕ) → s.Declared (proto x)) where
    -- one slot more
    slot_after : (o : Sight) (e : E) (w w' : m.World) (c c' : SlotState) (u : Use) (x : SlotId) (made : Made m.Act s.Parts) (source : ℕ → ℕ → Type 0) → Ties o e w c → x.0 ≡ length e.held
        → Leads m s e.next nothing made.acts w w' → Fresh m s e.next source made.given made.next → ((h r : ℕ) → source h r → (changing u ≡ false) × Unchanging m s proto o e.held h r)
        → Outside m s proto w' c'.world → s.Stands w' (proto x.0) made.given (content u c' x.0) → ((v : Use) (y : ℕ) → (y ≡ x.0 → ⊥) → content v c' y ≡ content v c y)
        → After o (with_use u x.0 o) e (with_parts s.calls proto made e) 1 w c'
    slot_after o e w w' c c' u x made source t is leads fresh from outside stands same = record {
      reached = w';
      runs = acts_run made.acts w w' leads.runs;
      goes = goes_acts m made.acts Ends w leads.fine tt;
      tied = tied_more m s proto laws o e.next made.next e.held w w' c c' u x.0 made.given source t is leads.sound outside (λ h r lt. leads.kept h r lt (λ z. z)) fresh from stands same;
      more = made.given ∷ [];
      held = refl;
      many = refl;
      longer = fresh.longer;
      loop = refl;
      seen = λ v y i. still_seen o u x.0 v y i;
      fresh = λ v y i k. at v y k (which o u x.0 v y i);
      kept = λ h r lt n. leads.kept h r lt (λ z. z);
    }
      where
        opposite : (b : Bool) → b ≡ true → b ≡ false → ⊥
        opposite true e f = cc
        opposite false e f = cc

        held' : List s.Parts
        held' = e.held ++ made.given ∷ []

        here : (y : ℕ) → y ≡ x.0 → part m s proto (e.held ++ made.given ∷ []) y ≡ made.given
        here y i = ap (part m s proto (e.held ++ made.given ∷ [])) (i ∙ is) ∙ last e.held
          where
            last : (l : List s.Parts) → slice_index_or (l ++ made.given ∷ []) (length l) s.calls.nowhere ≡ made.given
            last [] = refl
            last (z ∷ zs) = last zs

        at : (v : Use) (y : ℕ) → changing v ≡ true → Which o u x.0 v y → Sees o v y ⊎ ((h r : ℕ) → s.Names (part m s proto (e.held ++ made.given ∷ []) y) h r → slice_index e.next h ≤ r)
        at v y k (Old i) = inl i
        at v y k (New a b) = inr (λ h r named. low h r (fresh.from h r (subst (λ z. s.Names z h r) (here y b) named)))
          where
            low : (h r : ℕ) → (slice_index e.next h ≤ r) ⊎ source h r → slice_index e.next h ≤ r
            low h r (inl le) = le
            low h r (inr q) = absurd (opposite (changing u) (ap changing (sym a) ∙ k) (from h r q).0)

    pub let_after : (o : Sight) (e : E) (w : m.World) (c : SlotState) (turn : ℕ) (has : ℕ → Bool) (x : SlotId) (right : Right) → Ties o e w c → x.0 ≡ length e.held
        → right_sees right o ≡ true → RightFits s.calls.hosts right → RightPlaced m s proto (proto x.0) right → turn < 2 ^ 32
        → (right ≡ Turn → (h : ℕ) → is_holder (proto x.0) (host h) ≡ true → has h ≡ true) → TurnsIn has o e w turn
        → After o (with_use Binding x.0 o) e (with_parts s.calls proto (right_made s.calls proto (proto x.0) right e) e) 1 w (with_word x (right_word right turn c) (in_world (after_right right c.world) c))
    let_after o e w c turn has x right t is sees fits placed small reach turns =
        let d = right_done m s proto laws declared o e w c t turn has x.0 right sees fits placed small reach turns in
        let made = right_made s.calls proto (proto x.0) right e in
        let c1 = in_world (after_right right c.world) c in
        let c' = with_word x (right_word right turn c) c1 in
        slot_after o e w d.reached c c' Binding x made (Unchanging m s proto o e.held) t is d.leads d.fresh (λ h r n. (refl, n)) d.outside
        (subst (λ z. s.Stands d.reached (proto x.0) made.given (Word z)) (sym (item_put 0 c.words x.0 (right_word right turn c))) d.stands)
        (λ v y n. other_word x (right_word right turn c) c1 v y n ∙ outer v y)
      where
        outer : (v : Use) (y : ℕ) → content v (in_world (after_right right c.world) c) y ≡ content v c y
        outer Binding y = refl
        outer Variable y = refl
        outer Array y = refl

    pub var_after : (o : Sight) (e : E) (w : m.World) (c : SlotState) (v x : SlotId) → Ties o e w c → v.0 ≡ length e.held → Sees o Binding x.0 → (s.holds VariableRow (proto v.0) ≡ true) → s.joins (proto x.0) (proto v.0) ≡ true
        → After o (with_use Variable v.0 o) e (with_parts s.calls proto (and_on s.calls proto (s.calls.move (proto x.0) (proto v.0) (part m s proto e.held x.0) e.next) (s.calls.keep (proto v.0))) e) 1 w (with_word v (word_at c x) c)
    var_after o e w c v x t is sees holds joins =
        let one = s.calls.move (proto x.0) (proto v.0) (part m s proto e.held x.0) e.next in
        let g = moved m s proto laws declared o e.next e.held w c t x.0 sees (proto v.0) (declared v.0) joins in
        let b : Between m s e.next w one.acts one.next = between_of m s e.next (Unchanging m s proto o e.held) one w (proto v.0) (Word (word_at c x)) g in
        let two = s.calls.keep (proto v.0) one.given one.next in
        let k = laws.keep_law (proto v.0) (declared v.0) holds one.given (word_at c x) one.next b.reached (ready_past m s e.next w one.acts one.next t.ready b) (record { below = g.fresh.below; stands = g.stands }) in
        let all = gives_on m s e.next w one.acts one.next nothing nothing two (proto v.0) (Word (word_at c x)) b k (λ h r n. absurd n) in
        slot_after o e w all.reached c (with_word v (word_at c x) c) Variable v (record { given = two.given; acts = one.acts ++ two.acts; next = two.next }) nothing t is all.leads all.fresh (λ h r n. absurd n)
        (quiet_outside m s proto w all.reached c.world all.quiet t.outside)
        (subst (λ z. s.Stands all.reached (proto v.0) two.given (Word z)) (sym (item_put 0 c.words v.0 (word_at c x))) all.stands)
        (other_word v (word_at c x) c)

    pub array_after : (o : Sight) (e : E) (w : m.World) (c : SlotState) (v : SlotId) (n : ℕ) → Ties o e w c → v.0 ≡ length e.held → s.holds VariableRow (proto v.0) ≡ true
        → After o (with_use Array v.0 o) e (with_parts s.calls proto (s.calls.cells (proto v.0) n e.next) e) 1 w (with_array v (replicate n 0) c)
    array_after o e w c v n t is holds =
        let made = s.calls.cells (proto v.0) n e.next in
        let g = laws.cells_law (proto v.0) (declared v.0) holds n e.next w t.ready in
        slot_after o e w g.reached c (with_array v (replicate n 0) c) Array v made nothing t is g.leads g.fresh (λ h r n. absurd n) (quiet_outside m s proto w g.reached c.world g.quiet t.outside)
        (subst (λ z. s.Stands g.reached (proto v.0) made.given (Cells z)) (sym (item_put [] c.arrays v.0 (replicate n 0))) g.stands)
        (other_array v (replicate n 0) c)

    -- calls, and then a variable or an array is written
    write_after : (o : Sight) (e : E) (w : m.World) (c c' : SlotState) (v : Use) (y : ℕ) (xs ys : List m.Act) (next1 : List ℕ) → Ties o e w c → Sees o v y → changing v ≡ true
        → (b : Between m s e.next w xs next1) → Renews m s next1 (part m s proto e.held y) ys b.reached (proto y) (content v c' y)
        → ((u : Use) (x : ℕ) → (x ≡ y → ⊥) → content u c' x ≡ content u c x) → c'.world ≡ c.world → After o o e (with_acts s.calls proto (xs ++ ys) next1 e) 0 w c'
    write_after o e w c c' v y xs ys next1 t sees k b r same world =
        let leads = leads_on m s e.next next1 (s.Names (part m s proto e.held y)) xs ys w b.reached r.reached b.leads r.leads b.longer in
        record {
          reached = r.reached;
          runs = acts_run (xs ++ ys) w r.reached leads.runs;
          goes = goes_acts m (xs ++ ys) Ends w leads.fine tt;
          tied = tied_renewed m s proto laws o next1 e.held b.reached r.reached c c' ys v y
              (tied_past m s proto laws o e.next next1 e.held w b.reached c xs t b.leads b.quiet b.known b.longer) sees k r.leads r.quiet r.stands same world;
          more = [];
          held = sym (append-nil e.held);
          many = refl;
          longer = b.longer;
          loop = refl;
          seen = λ u x i. i;
          fresh = λ u x i j. inl i;
          kept = λ h q lt n. leads.kept h q lt (n v y sees k);
        }

    pub store_after : (o : Sight) (e : E) (w : m.World) (c : SlotState) (v x : SlotId) → Ties o e w c → Sees o Variable v.0 → Sees o Binding x.0 → s.holds VariableRow (proto v.0) ≡ true → s.joins (proto x.0) (proto v.0) ≡ true
        → After o o e (store_made s.calls proto v x e) 0 w (with_word v (word_at c x) c)
    store_after o e w c v x t sees_v sees holds joins =
        let one = s.calls.move (proto x.0) (proto v.0) (part m s proto e.held x.0) e.next in
        let g = moved m s proto laws declared o e.next e.held w c t x.0 sees (proto v.0) (declared v.0) joins in
        let b : Between m s e.next w one.acts one.next = between_of m s e.next (Unchanging m s proto o e.held) one w (proto v.0) (Word (word_at c x)) g in
        let r = laws.renew_law (proto v.0) (declared v.0) holds (part m s proto e.held v.0) one.given (word_at c v) (word_at c x) one.next b.reached (ready_past m s e.next w one.acts one.next t.ready b)
        (operand_past m s laws e.next w one.acts one.next (proto v.0) (part m s proto e.held v.0) (word_at c v) b (operand_of_variable m s proto laws declared o e.next e.held w c t v.0 sees_v))
        (record { below = g.fresh.below; stands = g.stands }) in
        write_after o e w c (with_word v (word_at c x) c) Variable v.0 one.acts (s.calls.renew (proto v.0) (part m s proto e.held v.0) one.given) one.next t sees_v refl b
        (renewed (Word (word_at c x)) (content Variable (with_word v (word_at c x) c) v.0) (ap Word (sym (item_put 0 c.words v.0 (word_at c x)))) r)
        (other_word v (word_at c x) c) refl
      where
        renewed : {next1 : List ℕ} {kept : s.Parts} {acts : List m.Act} {w1 : m.World} {p : Proto} (a b : Content) → a ≡ b → Renews m s next1 kept acts w1 p a → Renews m s next1 kept acts w1 p b
        renewed {next1} {kept} {acts} {w1} {p} a b i r = subst (Renews m s next1 kept acts w1 p) i r

    pub put_after : (o : Sight) (e : E) (w : m.World) (c : SlotState) (v i x : SlotId) → Ties o e w c → Sees o Array v.0 → Sees o Binding i.0 → Sees o Binding x.0 → s.holds VariableRow (proto v.0) ≡ true
        → s.joins (proto x.0) (proto v.0) ≡ true → Reaches m s proto i (λ h. is_holder (proto v.0) (host h)) → After o o e (put_made s.calls proto v i x e) 0 w (with_array v (slice_set (array_at c v) (word_at c i) (word_at c x)) c)
    put_after o e w c v i x t sees_v sees_i sees_x holds joins reaches =
        let index = delivered s.calls proto (proto i.0) (part m s proto e.held i.0) (holders_among s.calls (proto v.0)) e.next in
        let all = index_reached m s proto laws declared o e.next e.held w c t v i sees_i reaches in
        let a = all.between in
        let t1 = tied_past m s proto laws o e.next index.next e.held w a.reached c index.acts t a.leads a.quiet a.known a.longer in
        let one = s.calls.move (proto x.0) (proto v.0) (part m s proto e.held x.0) index.next in
        let g = moved m s proto laws declared o index.next e.held a.reached c t1 x.0 sees_x (proto v.0) (declared v.0) joins in
        let b : Between m s index.next a.reached one.acts one.next = between_of m s index.next (Unchanging m s proto o e.held) one a.reached (proto v.0) (Word (word_at c x)) g in
        let t2 = tied_past m s proto laws o index.next one.next e.held a.reached b.reached c one.acts t1 b.leads b.quiet b.known b.longer in
        let both : Between m s e.next w (index.acts ++ one.acts) one.next = between_on m s e.next w index.acts one.acts index.next one.next a b in
        let ws = slice_set (array_at c v) (word_at c i) (word_at c x) in
        let r = laws.put_law (proto v.0) (declared v.0) holds (part m s proto e.held v.0) (array_at c v) index.given (word_at c i) one.given (word_at c x) one.next b.reached t2.ready
        (t2.below Array v.0 sees_v) (t2.stands Array v.0 sees_v) (delivered_past m s laws index.next a.reached one.acts one.next b (holders_among s.calls (proto v.0)) index.given (word_at c i) all.there)
        (record { below = g.fresh.below; stands = g.stands }) in
        write_after o e w c (with_array v ws c) Array v.0 (index.acts ++ one.acts) (s.calls.put (proto v.0) (part m s proto e.held v.0) index.given one.given) one.next t sees_v refl both
        (subst (Renews m s one.next (part m s proto e.held v.0) (s.calls.put (proto v.0) (part m s proto e.held v.0) index.given one.given) b.reached (proto v.0)) (ap Cells (sym (item_put [] c.arrays v.0 ws))) r)
        (other_array v ws c) refl

    pub output_after : (o : Sight) (e : E) (w : m.World) (c : SlotState) (x : SlotId) (h : HostId) → Ties o e w c → Sees o Binding x.0 → h.0 < s.calls.hosts → s.joins (proto x.0) (Local h) ≡ true
        → After o o e (output_made s.calls proto x h e) 0 w (in_world (after_output c.world h.0 (word_at c x)) c)
    output_after o e w c x h t sees lt joins =
        let one = s.calls.move (proto x.0) (Local h) (part m s proto e.held x.0) e.next in
        let g = moved m s proto laws declared o e.next e.held w c t x.0 sees (Local h) (laws.local_is_declared h lt) joins in
        let b : Between m s e.next w one.acts one.next = between_of m s e.next (Unchanging m s proto o e.held) one w (Local h) (Word (word_at c x)) g in
        let t1 = tied_past m s proto laws o e.next one.next e.held w b.reached c one.acts t b.leads b.quiet b.known b.longer in
        let acts = s.calls.output h one.given in
        let r = laws.output_law h lt one.given (word_at c x) one.next b.reached t1.ready (record { below = g.fresh.below; stands = g.stands }) in
        let leads = leads_on m s e.next one.next nothing one.acts acts w b.reached r.reached b.leads r.leads b.longer in
        let here : m.printed r.reached h.0 ≡ slice_index_or c.world.outputs h.0 [] ++ word_at c x ∷ [] = r.told ∙ ap (λ (l : List ℕ). l ++ word_at c x ∷ []) (t1.outside.printed h.0) in
        let same : (v : Use) (y : ℕ) → content v (in_world (after_output c.world h.0 (word_at c x)) c) y ≡ content v c y = outer in
        record {
          reached = r.reached;
          runs = acts_run (one.acts ++ acts) w r.reached leads.runs;
          goes = goes_acts m (one.acts ++ acts) Ends w leads.fine tt;
          tied = record {
            ready = record { known = t1.ready.known; sound = r.leads.sound };
            made = t1.made;
            below = t1.below;
            apart = t1.apart;
            stands = λ u y i. subst (s.Stands r.reached (proto y) (part m s proto e.held y)) (sym (same u y))
                (laws.still b.reached r.reached (proto y) (part m s proto e.held y) (content u c y) (t1.stands u y i) (λ k q n. r.leads.kept k q (t1.below u y i k q n) (λ z. z)));
            outside = record {
              printed = λ k. elim (ℕ_discrete k h.0) [ yes i ↦ at_host r.reached k i here | no i ↦ r.printed k i ∙ t1.outside.printed k ∙ sym (get_or-set_other c.world.outputs h.0 k _ [] i) ];
              waiting = λ k. r.waiting k ∙ t1.outside.waiting k;
              words = λ k j. subst (λ z. slice_index z j < 2 ^ 32) (sym (r.waiting k)) (t1.outside.words k j);
              known = length-set c.world.outputs h.0 _ ∙ t.outside.known;
            };
          };
          more = [];
          held = sym (append-nil e.held);
          many = refl;
          longer = b.longer;
          loop = refl;
          seen = λ u y i. i;
          fresh = λ u y i j. inl i;
          kept = λ k q i n. leads.kept k q i (λ z. z);
        }
      where
        outer : (v : Use) (y : ℕ) → content v (in_world (after_output c.world h.0 (word_at c x)) c) y ≡ content v c y
        outer Binding y = refl
        outer Variable y = refl
        outer Array y = refl

        at_host : (v : m.World) (k : ℕ) → k ≡ h.0 → m.printed v h.0 ≡ slice_index_or c.world.outputs h.0 [] ++ word_at c x ∷ []
            → m.printed v k ≡ slice_index_or (slice_set c.world.outputs h.0 (slice_index_or c.world.outputs h.0 [] ++ word_at c x ∷ [])) k []
        at_host v k i is =
            let P : ℕ → Type 0 = λ z. m.printed v z ≡ slice_index_or (slice_set c.world.outputs h.0 (slice_index_or c.world.outputs h.0 [] ++ word_at c x ∷ [])) z [] in
            subst P (sym i) (is ∙ sym (told_at c.world.outputs h.0 (word_at c x) (subst (λ z. h.0 < z) (sym t.outside.known) lt)))
