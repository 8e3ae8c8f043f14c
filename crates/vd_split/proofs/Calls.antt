-- Calls that follow each other.
use Rattle.std.proofs.Common.{◌≡◌, ℕ, zero, suc, ◌+◌, ◌<◌, ◌≤◌, Bool, true, false, if◌then◌else◌, List, [], ◌∷◌, ◌++◌, length, map, slice_index, slice_index_or, ◌⊎◌, inl, inr, refl, sym, ap, ◌∙◌, subst, arith}
use Rattle.vd_base.specs.declared.ids.HostId.{HostId}
use Rattle.vd_base.specs.declared.ids.SlotId.{SlotId}
use Rattle.vd_base.specs.declared.protocols.Proto.{Proto}
use Rattle.vd_base.specs.declared.protocols.Proto.TheVariants.{Local}
use Rattle.vd_base.specs.HostSets.{host}
use Rattle.vd_split.specs.Joint.{Hosts, run_acts, AllFine, Each}
use Rattle.vd_split.specs.Suite.{Content, Word, Made, Suite, picked, nothing, Leads, Quiet, Fresh, Gives, Ready, Operand, Operands, NamedBy, Delivered, Laws}
use Rattle.vd_split.specs.Emission.{Emitting, delivered, all_moved}
use Rattle.vd_split.proofs.Runs.{run_append, fine_append}

module _ (m : Hosts) (s : Suite m) where
  pub leads_on : (next next' : List ℕ) (changed : ℕ → ℕ → Type 0) (xs ys : List m.Act) (w w1 w2 : m.World) → Leads m s next nothing xs w w1 → Leads m s next' changed ys w1 w2
      → ((h : ℕ) → slice_index next h ≤ slice_index next' h) → Leads m s next changed (xs ++ ys) w w2
  leads_on next next' changed xs ys w w1 w2 a b longer = record {
    runs = run_append m xs ys w ∙ ap (run_acts m ys) a.runs ∙ b.runs;
    fine = fine_append m xs ys w a.fine (subst (AllFine m ys) (sym a.runs) b.fine);
    sound = b.sound;
    kept = λ h r lt n. b.kept h r (let le = longer h in omega arith) n ∙ a.kept h r lt (λ q. q);
  }

  pub quiet_on : (w w1 w2 : m.World) → Quiet m s w w1 → Quiet m s w1 w2 → Quiet m s w w2
  quiet_on w w1 w2 a b = record { printed = λ h. b.printed h ∙ a.printed h; waiting = λ h. b.waiting h ∙ a.waiting h }

  no_acts : (next : List ℕ) (changed : ℕ → ℕ → Type 0) (w : m.World) → m.Sound w → Leads m s next changed [] w w
  no_acts next changed w sound = record { runs = refl; fine = tt; sound = sound; kept = λ h r lt n. refl }

  quiet_here : (w : m.World) → Quiet m s w w
  quiet_here w = record { printed = λ h. refl; waiting = λ h. refl }

  -- what is made may name what another source has
  pub fresh_from : (next next' : List ℕ) (source source' : ℕ → ℕ → Type 0) (x : s.Parts) → ((h r : ℕ) → source h r → source' h r) → Fresh m s next source x next' → Fresh m s next source' x next'
  fresh_from next next' source source' x f g = record {
    known = g.known;
    longer = g.longer;
    below = g.below;
    from = λ h r n. at h r (g.from h r n);
  }
    where
      at : (h r : ℕ) → (slice_index next h ≤ r) ⊎ source h r → (slice_index next h ≤ r) ⊎ source' h r
      at h r (inl le) = inl le
      at h r (inr q) = inr (f h r q)

  pub gives_from : (next : List ℕ) (source source' : ℕ → ℕ → Type 0) (made : Made m.Act s.Parts) (w : m.World) (p : Proto) (c : Content) → ((h r : ℕ) → source h r → source' h r)
      → Gives m s next source made w p c → Gives m s next source' made w p c
  gives_from next source source' made w p c f g =
      record { reached = g.reached; leads = g.leads; quiet = g.quiet; fresh = fresh_from next made.next source source' made.given f g.fresh; stands = g.stands }

  -- a state between calls
  pub record Between (next : List ℕ) (w : m.World) (acts : List m.Act) (next' : List ℕ) : Type 0 where
    pub reached : m.World
    pub leads : Leads m s next nothing acts w reached
    pub quiet : Quiet m s w reached
    pub known : length next' ≡ length next
    pub longer : (h : ℕ) → slice_index next h ≤ slice_index next' h

  abbrev pub between_of : (next : List ℕ) (source : ℕ → ℕ → Type 0) (made : Made m.Act s.Parts) (w : m.World) (p : Proto) (c : Content) → Gives m s next source made w p c → Between next w made.acts made.next
  between_of next source made w p c g = record { reached = g.reached; leads = g.leads; quiet = g.quiet; known = g.fresh.known; longer = g.fresh.longer }

  abbrev pub between_on : (next : List ℕ) (w : m.World) (xs ys : List m.Act) (next1 next2 : List ℕ) (a : Between next w xs next1) → Between next1 a.reached ys next2 → Between next w (xs ++ ys) next2
  between_on next w xs ys next1 next2 a b = record {
    reached = b.reached;
    leads = leads_on next next1 nothing xs ys w a.reached b.reached a.leads b.leads a.longer;
    quiet = quiet_on w a.reached b.reached a.quiet b.quiet;
    known = b.known ∙ a.known;
    longer = λ h. let x = a.longer h in let y = b.longer h in omega arith;
  }

  pub ready_past : (next : List ℕ) (w : m.World) (xs : List m.Act) (next1 : List ℕ) → Ready m s next w → (a : Between next w xs next1) → Ready m s next1 a.reached
  ready_past next w xs next1 r a = record { known = a.known ∙ r.known; sound = a.leads.sound }

  -- a call after others
  pub gives_on : (next : List ℕ) (w : m.World) (xs : List m.Act) (next1 : List ℕ) (source source' : ℕ → ℕ → Type 0) (two : Made m.Act s.Parts) (p : Proto) (c : Content) (a : Between next w xs next1)
      → Gives m s next1 source two a.reached p c → ((h r : ℕ) → source h r → (slice_index next h ≤ r) ⊎ source' h r)
      → Gives m s next source' (record { given = two.given; acts = xs ++ two.acts; next = two.next }) w p c
  gives_on next w xs next1 source source' two p c a g f = record {
    reached = g.reached;
    leads = leads_on next next1 nothing xs two.acts w a.reached g.reached a.leads g.leads a.longer;
    quiet = quiet_on w a.reached g.reached a.quiet g.quiet;
    fresh = record {
      known = g.fresh.known ∙ a.known;
      longer = λ h. let x = a.longer h in let y = g.fresh.longer h in omega arith;
      below = g.fresh.below;
      from = λ h r n. at h r (g.fresh.from h r n);
    };
    stands = g.stands;
  }
    where
      at : (h r : ℕ) → (slice_index next1 h ≤ r) ⊎ source h r → (slice_index next h ≤ r) ⊎ source' h r
      at h r (inl le) = inl (let x = a.longer h in omega arith)
      at h r (inr q) = f h r q

  module _ (laws : Laws m s) where
    -- operands go on standing
    pub operand_past : (next : List ℕ) (w : m.World) (xs : List m.Act) (next1 : List ℕ) (p : Proto) (x : s.Parts) (v : ℕ) (a : Between next w xs next1) → Operand m s next w p x v → Operand m s next1 a.reached p x v
    operand_past next w xs next1 p x v a o = record {
      below = λ h r n. let i = o.below h r n in let j = a.longer h in omega arith;
      stands = laws.still w a.reached p x (Word v) o.stands (λ h r n. a.leads.kept h r (o.below h r n) (λ q. q));
    }

    -- a word is moved to each of some hosts
    pub record Reached (next : List ℕ) (w : m.World) (hosts : List HostId) (made : Made m.Act (List (ℕ × ℕ))) (v : ℕ) : Type 0 where
      pub between : Between next w made.acts made.next
      pub there : Delivered m s made.next between.reached hosts made.given v

    words_past : (next : List ℕ) (w : m.World) (xs : List m.Act) (next1 : List ℕ) (a : Between next w xs next1) (v : ℕ) (at : List (ℕ × ℕ))
        → Each (λ q. (m.word w q.0 q.1 ≡ v) × (q.1 < slice_index next q.0)) at → Each (λ q. (m.word a.reached q.0 q.1 ≡ v) × (q.1 < slice_index next1 q.0)) at
    words_past next w xs next1 a v [] e = tt
    words_past next w xs next1 a v (q ∷ at) e =
        let lt = e.0.1 in
        ((a.leads.kept q.0 q.1 lt (λ z. z) ∙ e.0.0, let j = a.longer q.0 in omega arith), words_past next w xs next1 a v at e.1)

    pub delivered_past : (next : List ℕ) (w : m.World) (xs : List m.Act) (next1 : List ℕ) (a : Between next w xs next1) (hosts : List HostId) (at : List (ℕ × ℕ)) (v : ℕ)
        → Delivered m s next w hosts at v → Delivered m s next1 a.reached hosts at v
    delivered_past next w xs next1 a hosts at v d = record { placed = d.placed; words = words_past next w xs next1 a v at d.words }

    module _ (proto : ℕ → Proto) where
      pub deliver : (p : Proto) → s.Declared p → (x : s.Parts) (v : ℕ) (hs : List HostId) → Each (λ h. (h.0 < s.calls.hosts) × (s.joins p (Local h) ≡ true)) hs → (next : List ℕ) (w : m.World) → Ready m s next w
          → Operand m s next w p x v → Reached next w hs (delivered s.calls proto p x hs next) v
      deliver p declared x v [] e next w ready o = record {
        between = record { reached = w; leads = no_acts next nothing w ready.sound; quiet = quiet_here w; known = refl; longer = λ h. omega arith };
        there = record { placed = refl; words = tt };
      }
      deliver p declared x v (h ∷ hs) e next w ready o =
          let one = s.calls.move p (Local h) x next in
          let g = laws.move_law p (Local h) declared (laws.local_is_declared h e.0.0) e.0.1 x v next w ready o in
          let a : Between next w one.acts one.next = between_of next (s.Names x) one w (Local h) (Word v) g in
          let clear = laws.in_clear g.reached h one.given v g.stands in
          let rest = deliver p declared x v hs e.1 one.next a.reached (ready_past next w one.acts one.next ready a) (operand_past next w one.acts one.next p x v a o) in
          record {
            between = between_on next w one.acts (delivered s.calls proto p x hs one.next).acts one.next (delivered s.calls proto p x hs one.next).next a rest.between;
            there = record {
              placed = ap (λ (l : List ℕ). h.0 ∷ l) rest.there.placed;
              words = (past (h.0) (s.calls.register one.given h.0) one.next rest.between clear.0 (g.fresh.below h.0 (s.calls.register one.given h.0) clear.1), rest.there.words);
            };
          }
        where
          past : {w1 : m.World} {ys : List m.Act} {next2 : List ℕ} (h r : ℕ) (next1 : List ℕ) (b : Between next1 w1 ys next2) → m.word w1 h r ≡ v → r < slice_index next1 h → (m.word b.reached h r ≡ v) × (r < slice_index next2 h)
          past h r next1 b is lt = (b.leads.kept h r lt (λ z. z) ∙ is, let j = b.longer h in omega arith)

      -- each host that passes a test is told a word
      pub picked_join : (p : Proto) (test : ℕ → Bool) (from n : ℕ) → ((h : ℕ) → h < from + n → test h ≡ true → s.joins p (Local (host h)) ≡ true) → from + n ≤ s.calls.hosts
          → Each (λ h. (h.0 < s.calls.hosts) × (s.joins p (Local h) ≡ true)) (picked from n test)
      picked_join p test from zero f le = tt
      picked_join p test from (suc n) f le = at (picked_join p test (from + 1) n (λ h lt is. f h (omega arith) is) (omega arith)) (test from) refl
        where
          at : Each (λ h. (h.0 < s.calls.hosts) × (s.joins p (Local h) ≡ true)) (picked (from + 1) n test) → (b : Bool) → test from ≡ b
              → Each (λ h. (h.0 < s.calls.hosts) × (s.joins p (Local h) ≡ true)) (if b then host from ∷ picked (from + 1) n test else picked (from + 1) n test)
          at rest true is = ((omega arith, f from (omega arith) is), rest)
          at rest false is = rest

      -- operands are moved from left to right
      pub record Moved (next : List ℕ) (w : m.World) (source : ℕ → ℕ → Type 0) (q : Proto) (made : Made m.Act (List s.Parts)) (vs : List ℕ) : Type 0 where
        pub between : Between next w made.acts made.next
        pub operands : Operands m s made.next between.reached q made.given vs
        pub from : (h r : ℕ) → NamedBy m s made.given h r → (slice_index next h ≤ r) ⊎ source h r
        pub as_many : length made.given ≡ length vs

      pub record Movable (next : List ℕ) (w : m.World) (source : ℕ → ℕ → Type 0) (q : Proto) (p : Proto) (x : s.Parts) (v : ℕ) : Type 0 where
        pub declared : s.Declared p
        pub joins : s.joins p q ≡ true
        pub operand : Operand m s next w p x v
        pub from : (h r : ℕ) → s.Names x h r → source h r

      movable_past : (next : List ℕ) (w : m.World) (xs : List m.Act) (next1 : List ℕ) (source : ℕ → ℕ → Type 0) (q p : Proto) (x : s.Parts) (v : ℕ) (a : Between next w xs next1)
          → Movable next w source q p x v → Movable next1 a.reached source q p x v
      movable_past next w xs next1 source q p x v a o = record { declared = o.declared; joins = o.joins; operand = operand_past next w xs next1 p x v a o.operand; from = o.from }

      pub all_past : (next : List ℕ) (w : m.World) (acts : List m.Act) (next1 : List ℕ) (source : ℕ → ℕ → Type 0) (q : Proto) (e : Emitting s.calls proto) (word : SlotId → ℕ) (a : Between next w acts next1) (xs : List SlotId)
          → Each (λ x. Movable next w source q (proto x.0) (slice_index_or e.held x.0 s.calls.nowhere) (word x)) xs → Each (λ x. Movable next1 a.reached source q (proto x.0) (slice_index_or e.held x.0 s.calls.nowhere) (word x)) xs
      all_past next w acts next1 source q e word a [] h = tt
      all_past next w acts next1 source q e word a (x ∷ xs) h =
          (movable_past next w acts next1 source q (proto x.0) (slice_index_or e.held x.0 s.calls.nowhere) (word x) a h.0, all_past next w acts next1 source q e word a xs h.1)

      first_or : (next next1 : List ℕ) (source named : ℕ → ℕ → Type 0) (z : s.Parts) (zs : List s.Parts) → ((h r : ℕ) → s.Names z h r → (slice_index next h ≤ r) ⊎ named h r) → ((h r : ℕ) → named h r → source h r)
          → ((h r : ℕ) → NamedBy m s zs h r → (slice_index next1 h ≤ r) ⊎ source h r) → ((h : ℕ) → slice_index next h ≤ slice_index next1 h) → (h r : ℕ) → s.Names z h r ⊎ NamedBy m s zs h r → (slice_index next h ≤ r) ⊎ source h r
      first_or next next1 source named z zs f i g longer h r (inl n) = at (f h r n)
        where
          at : (slice_index next h ≤ r) ⊎ named h r → (slice_index next h ≤ r) ⊎ source h r
          at (inl le) = inl le
          at (inr k) = inr (i h r k)
      first_or next next1 source named z zs f i g longer h r (inr n) = at (g h r n)
        where
          at : (slice_index next1 h ≤ r) ⊎ source h r → (slice_index next h ≤ r) ⊎ source h r
          at (inl le) = inl (let b = longer h in omega arith)
          at (inr k) = inr k

      pub move_all : (q : Proto) → s.Declared q → (source : ℕ → ℕ → Type 0) (e : Emitting s.calls proto) (word : SlotId → ℕ) (xs : List SlotId) (next : List ℕ) (w : m.World) → Ready m s next w
          → Each (λ x. Movable next w source q (proto x.0) (slice_index_or e.held x.0 s.calls.nowhere) (word x)) xs → Moved next w source q (all_moved s.calls proto q e xs next) (map word xs)
      move_all q declared source e word [] next w ready h = record {
        between = record { reached = w; leads = no_acts next nothing w ready.sound; quiet = quiet_here w; known = refl; longer = λ h. omega arith };
        operands = tt;
        from = λ h r n. absurd n;
        as_many = refl;
      }
      move_all q declared source e word (x ∷ xs) next w ready h =
          let o = h.0 in
          let y = slice_index_or e.held x.0 s.calls.nowhere in
          let one = s.calls.move (proto x.0) q y next in
          let g = laws.move_law (proto x.0) q o.declared declared o.joins y (word x) next w ready o.operand in
          let a : Between next w one.acts one.next = between_of next (s.Names y) one w q (Word (word x)) g in
          let more = all_moved s.calls proto q e xs one.next in
          let rest = move_all q declared source e word xs one.next a.reached (ready_past next w one.acts one.next ready a) (all_past next w one.acts one.next source q e word a xs h.1) in
          record {
            between = between_on next w one.acts more.acts one.next more.next a rest.between;
            operands = (operand_past one.next a.reached more.acts more.next q one.given (word x) rest.between (record { below = g.fresh.below; stands = g.stands }), rest.operands);
            from = first_or next one.next source (s.Names y) one.given more.given g.fresh.from o.from rest.from a.longer;
            as_many = ap suc rest.as_many;
          }
