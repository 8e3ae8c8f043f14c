-- What comes to a host by the moves of a right side, and of a delivery, is what it hears of in the clear.
use Rattle.std.proofs.Common.{◌≡◌, ℕ, ◌+◌, ◌^◌, ◌<◌, ◌&&◌, Bool, true, false, if◌then◌else◌, List, [], ◌∷◌, ◌++◌, map, length, slice_index_or, refl, sym, ap, ap₂, ◌∙◌, arith}
use Rattle.std.specs.Prelude.{filter}
use Rattle.vd_base.specs.declared.ids.HostId.{HostId}
use Rattle.vd_base.specs.declared.ids.SlotId.{SlotId}
use Rattle.vd_base.specs.declared.protocols.Proto.{Proto}
use Rattle.vd_base.specs.declared.protocols.Proto.TheVariants.{Local}
use Rattle.vd_base.specs.HostSets.{host, same_host}
use Rattle.vd_base.specs.Holders.{has_clear, is_holder, proto_in}
use Rattle.vd_core.specs.declared.normal.Right.{Right}
use Rattle.vd_core.specs.declared.normal.Right.TheVariants.{Lit, Turn, Copy, Apply, Input, Declassify, Endorse, Load, Get}
use Rattle.vd_core.specs.Facts.{Sight, right_sees}
use Rattle.vd_constraints.specs.Scoped.{is_below, right_below}
use Rattle.vd_semantics.specs.ProgramMeaning.{SlotState, word_at, right_word, after_right}
use Rattle.vd_split.specs.Joint.{Hosts, run_acts, Each}
use Rattle.vd_split.specs.Suite.{Word, Made, Suite, Operand, Ready, Laws, holders_among}
use Rattle.vd_split.specs.Emission.{Emitting, right_made}
use Rattle.vd_split.specs.Validity.{RightFits, RightPlaced, Reaches}
use Rattle.vd_split.proofs.Front.{and_left, and_right, Binding, Sees, Unchanging, Tied, Between, between_of, ready_past, operand_past, Movable, all_past, picked_join, Done, Turning, operand_of, movables, right_done}
use Rattle.vd_noninter_protocols.specs.Hearing.{word_if, comes, comes_alone, index_comes, right_heard}
use Rattle.vd_noninter_protocols.specs.Telling.{given_word, operands_told, delivered_told, right_told}
use Rattle.vd_noninter_protocols.proofs.Hosts.{same_turned, comes_clear, kept_at, as_often, picked_once}
use Rattle.vd_noninter_protocols.proofs.Takers.{below}

-- where the host has a word in clear, its register of the parts holds it
abbrev pub HasInClear : (m : Hosts) → Suite m → HostId → Type 0
HasInClear m s h = (w : m.World) (q : Proto) (x : s.Parts) (v : ℕ) → has_clear h q ≡ true → s.Stands w q x (Word v) → m.word w h.0 (s.calls.register x h.0) ≡ v

kept_first : (b : Bool) (y : SlotId) (zs : List SlotId) (word : SlotId → ℕ) → word_if b (word y) ++ map word zs ≡ map word (if b then y ∷ zs else zs)
kept_first true y zs word = refl
kept_first false y zs word = refl

module _ (m : Hosts) (s : Suite m) (protocols : List Proto) (h : HostId) (laws : Laws m s) (declared : (x : ℕ) → s.Declared (proto_in protocols x)) (clear : HasInClear m s h) where
  abbrev pub proto : ℕ → Proto
  proto = proto_in protocols

  -- the host's register holds the word that was given
  pub given_is : (b : Bool) (q : Proto) (made : Made m.Act s.Parts) (w reached : m.World) (v : ℕ) → (b ≡ true → has_clear h q ≡ true) → run_acts m made.acts w ≡ reached → s.Stands reached q made.given (Word v)
      → word_if b (given_word m s.calls h made w) ≡ word_if b v
  given_is true q made w reached v has runs there =
      ap (λ z. z ∷ []) (ap (λ (u : m.World). m.word u h.0 (s.calls.register made.given h.0)) runs ∙ clear reached q made.given v (has refl) there)
  given_is false q made w reached v has runs there = refl

  alone_clear : (k : HostId) (b : Bool) → (same_host h k && b) ≡ true → has_clear h (Local k) ≡ true
  alone_clear k b e = turned (and_left (same_host h k) b e)
    where
      turned : same_host h k ≡ true → same_host k h ≡ true
      turned e = same_turned k.0 h.0 ∙ e

  -- operands, from left to right
  operands_are : (x : SlotId) (e : Emitting s.calls proto) (word : SlotId → ℕ) (source : ℕ → ℕ → Type 0) (ys : List SlotId) (next : List ℕ) (w : m.World) → Ready m s next w
      → Each (λ y. Movable m s laws proto next w source (proto x.0) (proto y.0) (slice_index_or e.held y.0 s.calls.nowhere) (word y)) ys
      → operands_told m s.calls protocols h x e ys next w ≡ map word (filter (λ y. comes protocols h y x) ys)
  operands_are x e word source [] next w ready all = refl
  operands_are x e word source (y ∷ ys) next w ready all =
      let o = all.0 in
      let from = slice_index_or e.held y.0 s.calls.nowhere in
      let one = s.calls.move (proto y.0) (proto x.0) from next in
      let g = laws.move_law (proto y.0) (proto x.0) o.declared (declared x.0) o.joins from (word y) next w ready o.operand in
      let a : Between m s next w one.acts one.next = between_of m s next (s.Names from) one w (proto x.0) (Word (word y)) g in
      ap₂ (λ (p q : List ℕ). p ++ q)
      (given_is (comes protocols h y x) (proto x.0) one w g.reached (word y) (comes_clear protocols h y x) g.leads.runs g.stands)
      (ap (λ (u : m.World). operands_told m s.calls protocols h x e ys one.next u) g.leads.runs
      ∙ operands_are x e word source ys one.next g.reached (ready_past m s next w one.acts one.next ready a) (all_past m s laws proto next w one.acts one.next source (proto x.0) e word a ys all.1))
      ∙ kept_first (comes protocols h y x) y (filter (λ z. comes protocols h z x) ys) word

  -- a word that is moved to each of some hosts
  pub delivered_is : (x : SlotId) (e : Emitting s.calls proto) (v : ℕ) (ks : List HostId) → Each (λ k. (k.0 < s.calls.hosts) × (s.joins (proto x.0) (Local k) ≡ true)) ks → (next : List ℕ) (w : m.World)
      → Ready m s next w → Operand m s next w (proto x.0) (slice_index_or e.held x.0 s.calls.nowhere) v
      → delivered_told m s.calls protocols h x e ks next w ≡ as_often h (comes_alone protocols h x) v ks
  delivered_is x e v [] joins next w ready o = refl
  delivered_is x e v (k ∷ ks) joins next w ready o =
      let from = slice_index_or e.held x.0 s.calls.nowhere in
      let one = s.calls.move (proto x.0) (Local k) from next in
      let g = laws.move_law (proto x.0) (Local k) (declared x.0) (laws.local_is_declared k joins.0.0) joins.0.1 from v next w ready o in
      let a : Between m s next w one.acts one.next = between_of m s next (s.Names from) one w (Local k) (Word v) g in
      ap₂ (λ (p q : List ℕ). p ++ q)
      (given_is (same_host h k && comes_alone protocols h x) (Local k) one w g.reached v (alone_clear k (comes_alone protocols h x)) g.leads.runs g.stands)
      (ap (λ (u : m.World). delivered_told m s.calls protocols h x e ks one.next u) g.leads.runs
      ∙ delivered_is x e v ks joins.1 one.next g.reached (ready_past m s next w one.acts one.next ready a) (operand_past m s laws next w one.acts one.next (proto x.0) from v a o))

  module _ (known : h.0 < s.calls.hosts) (o : Sight) (e : Emitting s.calls proto) (w : m.World) (c : SlotState) (t : Tied m s proto o e.next e.held w c) where
    -- an index comes to each host at which the array is kept
    pub index_is : (v i : SlotId) → is_below (length protocols) v ≡ true → Sees o Binding i.0 → Reaches m s proto i (λ k. is_holder (proto v.0) (host k))
        → delivered_told m s.calls protocols h i e (holders_among s.calls (proto v.0)) e.next w ≡ word_if (index_comes protocols h v i) (word_at c i)
    index_is v i low sees reaches =
        delivered_is i e (word_at c i) (holders_among s.calls (proto v.0))
        (picked_join m s laws proto (proto i.0) (λ k. is_holder (proto v.0) (host k)) 0 s.calls.hosts (λ k lt is. reaches k (within lt) is) (omega arith))
        e.next w t.ready (operand_of m s proto laws declared o e.next e.held w c t i.0 sees)
        ∙ picked_once h (comes_alone protocols h i) (word_at c i) (λ k. is_holder (proto v.0) (host k)) s.calls.hosts known
        ∙ ap (λ (b : Bool). word_if (b && comes_alone protocols h i) (word_at c i)) (sym (kept_at protocols h v (below (length protocols) v low)))
      where
        within : {k : ℕ} → k < 0 + s.calls.hosts → k < s.calls.hosts
        within lt = omega arith

    -- a word that is moved to x last
    last_is : (y x : SlotId) (right : Right) (turn : ℕ) → Done m s proto laws declared o e.next e.held w (proto x.0) (right_made s.calls proto (proto x.0) right e) (right_word right turn c) (after_right right c.world)
        → word_if (comes protocols h y x) (given_word m s.calls h (right_made s.calls proto (proto x.0) right e) w) ≡ word_if (comes protocols h y x) (right_word right turn c)
    last_is y x right turn d =
        given_is (comes protocols h y x) (proto x.0) (right_made s.calls proto (proto x.0) right e) w d.reached (right_word right turn c) (comes_clear protocols h y x) d.leads.runs d.stands

    pub right_is : (turn : ℕ) (has : ℕ → Bool) (x : SlotId) (right : Right) → right_sees right o ≡ true → RightFits s.calls.hosts right → RightPlaced m s proto (proto x.0) right → right_below (length protocols) right ≡ true
        → turn < 2 ^ 32 → (right ≡ Turn → (k : ℕ) → is_holder (proto x.0) (host k) ≡ true → has k ≡ true) → Turning m s proto laws declared has o e.next e.held e.loop w turn
        → right_told m s.calls protocols h x right e w ≡ right_heard protocols h x right c
    right_is turn has x (Lit n) sees fits placed low small reach turning = refl
    right_is turn has x Turn sees fits placed low small reach turning = refl
    right_is turn has x (Copy y) sees fits placed low small reach turning =
        last_is y x (Copy y) turn (right_done m s proto laws declared o e w c t turn has x.0 (Copy y) sees fits placed small reach turning)
    right_is turn has x (Apply op ys) sees fits placed low small reach turning =
        operands_are x e (word_at c) (Unchanging m s proto o e.held) ys e.next w t.ready (movables m s proto laws declared o e.next e.held w c t (proto x.0) ys sees placed.1)
    right_is turn has x (Input k) sees fits placed low small reach turning = refl
    right_is turn has x (Declassify y to) sees fits placed low small reach turning =
        last_is y x (Declassify y to) turn (right_done m s proto laws declared o e w c t turn has x.0 (Declassify y to) sees fits placed small reach turning)
    right_is turn has x (Endorse y to) sees fits placed low small reach turning =
        last_is y x (Endorse y to) turn (right_done m s proto laws declared o e w c t turn has x.0 (Endorse y to) sees fits placed small reach turning)
    right_is turn has x (Load v) sees fits placed low small reach turning =
        last_is v x (Load v) turn (right_done m s proto laws declared o e w c t turn has x.0 (Load v) sees fits placed small reach turning)
    right_is turn has x (Get v i) sees fits placed low small reach turning =
        ap₂ (λ (p q : List ℕ). p ++ q)
        (index_is v i (and_left (is_below (length protocols) v) (is_below (length protocols) i) low) (and_right _ _ sees) placed.2)
        (last_is v x (Get v i) turn (right_done m s proto laws declared o e w c t turn has x.0 (Get v i) sees fits placed small reach turning))
