-- Where calls that follow each other have instructions.
use Rattle.std.proofs.Common.{◌≡◌, ℕ, ◌+◌, ◌<◌, nat_eq, Bool, true, false, ◌||◌, List, [], ◌∷◌, ◌++◌, ◌⊎◌, inl, inr, map, slice_index, slice_index_or, sym, ◌∙◌, arith}
use Rattle.std.specs.List.{list_any}
use Rattle.std.proofs.lemmas.List.Folds.{list_any-append}
use Rattle.vd_base.specs.declared.ids.HostId.{HostId}
use Rattle.vd_base.specs.declared.ids.SlotId.{SlotId}
use Rattle.vd_base.specs.declared.protocols.Proto.{Proto}
use Rattle.vd_base.specs.declared.protocols.Proto.TheVariants.{Local}
use Rattle.vd_base.specs.declared.rows.Row.TheVariants.{Variable as VariableRow}
use Rattle.vd_base.specs.HostSets.{host}
use Rattle.vd_base.specs.Holders.{is_holder}
use Rattle.vd_core.specs.declared.normal.Right.{Right}
use Rattle.vd_core.specs.declared.normal.Right.TheVariants.{Lit, Turn, Copy, Apply, Input, Declassify, Endorse, Load, Get}
use Rattle.vd_core.specs.Facts.{Sight, right_sees}
use Rattle.vd_semantics.specs.ProgramMeaning.{SlotState, word_at, array_at}
use Rattle.vd_split.specs.Joint.{Hosts, Each}
use Rattle.vd_split.specs.Suite.{Word, Cells, Suite, nothing, Below, Ready, Operand, Laws, holders_among}
use Rattle.vd_split.specs.Emission.{Emitting, delivered, delivered_at, all_moved, right_made, right_acts_at}
use Rattle.vd_split.specs.Validity.{RightFits, RightPlaced, Reaches}
use Rattle.vd_split.specs.ChoreographyPlaces.{acting, Where, Places}
use Rattle.vd_split.proofs.Lists.{and_left, and_right, or_left, or_right, or_cases}
use Rattle.vd_split.proofs.Sight.{Binding, Variable, Array, Sees}
use Rattle.vd_split.proofs.Tied.{part, Unchanging, Tied, tied_past}
use Rattle.vd_split.proofs.Calls.{Between, between_of, ready_past, operand_past, all_past, picked_join, Movable, move_all}
use Rattle.vd_split.proofs.ChoreographyRights.{operand_of, operand_of_variable, moved, movables, length_map, index_reached}

module _ (m : Hosts) where
  each_append : (xs ys : List m.Act) → Each m.IsTidy xs → Each m.IsTidy ys → Each m.IsTidy (xs ++ ys)
  each_append [] ys a b = b
  each_append (x ∷ xs) ys a b = (a.0, each_append xs ys a.1 b)

  -- acts that follow each other
  acting_append : (xs ys : List m.Act) (h : ℕ) → acting m (xs ++ ys) h ≡ true → (acting m xs h ≡ true) ⊎ (acting m ys h ≡ true)
  acting_append xs ys h e = or_cases (acting m xs h) (acting m ys h) (sym (list_any-append (λ a. m.acts_at a h) xs ys) ∙ e)

  where_on : (n : ℕ) (xs ys : List m.Act) (p q : ℕ → Bool) → Where m n xs p → Where m n ys q → Where m n (xs ++ ys) (λ h. p h || q h)
  where_on n xs ys p q a b = record {
    tidy = each_append xs ys a.tidy b.tidy;
    at = λ h e. split h (acting_append xs ys h e);
    all = λ h lt e. list_any-append (λ x. m.acts_at x h) xs ys ∙ joined h lt (or_cases (p h) (q h) e);
  }
    where
      joined : (h : ℕ) → h < n → (p h ≡ true) ⊎ (q h ≡ true) → (acting m xs h || acting m ys h) ≡ true
      joined h lt (inl e) = or_left (acting m xs h) (acting m ys h) (a.all h lt e)
      joined h lt (inr e) = or_right (acting m xs h) (acting m ys h) (b.all h lt e)

      split : (h : ℕ) → (acting m xs h ≡ true) ⊎ (acting m ys h ≡ true) → (h < n) × ((p h || q h) ≡ true)
      split h (inl e) = let z = a.at h e in (z.0, or_left (p h) (q h) z.1)
      split h (inr e) = let z = b.at h e in (z.0, or_right (p h) (q h) z.1)

  where_none : (n : ℕ) → Where m n [] (λ h. false)
  where_none n = record { tidy = tt; at = λ h e. absurd (wrong e); all = λ h lt e. e }
    where
      wrong : false ≡ true → ⊥
      wrong e = cc

module _ (m : Hosts) (s : Suite m) (proto : ℕ → Proto) (laws : Laws m s) (places : Places m s) (declared : (x : ℕ) → s.Declared (proto x)) where
  abbrev n : ℕ
  n = s.calls.hosts

  pub delivered_where : (p : Proto) → s.Declared p → (x : s.Parts) (v : ℕ) (hs : List HostId) → Each (λ h. (h.0 < s.calls.hosts) × (s.joins p (Local h) ≡ true)) hs → (next : List ℕ) (w : m.World) → Ready m s next w
      → Operand m s next w p x v → Where m n (delivered s.calls proto p x hs next).acts (delivered_at s.calls proto p hs)
  delivered_where p d x v [] e next w ready o = where_none m n
  delivered_where p d x v (k ∷ hs) e next w ready o =
      let one = s.calls.move p (Local k) x next in
      let g = laws.move_law p (Local k) d (laws.local_is_declared k e.0.0) e.0.1 x v next w ready o in
      let a : Between m s next w one.acts one.next = between_of m s next (s.Names x) one w (Local k) (Word v) g in
      where_on m n one.acts (delivered s.calls proto p x hs one.next).acts (s.calls.moves_at p (Local k)) (delivered_at s.calls proto p hs)
      (places.move_at p (Local k) d (laws.local_is_declared k e.0.0) e.0.1 x v next w ready o)
      (delivered_where p d x v hs e.1 one.next a.reached (ready_past m s next w one.acts one.next ready a) (operand_past m s laws next w one.acts one.next p x v a o))

  operands_where : (q : Proto) → s.Declared q → (source : ℕ → ℕ → Type 0) (e : Emitting s.calls proto) (word : SlotId → ℕ) (xs : List SlotId) (next : List ℕ) (w : m.World) → Ready m s next w
      → Each (λ x. Movable m s laws proto next w source q (proto x.0) (slice_index_or e.held x.0 s.calls.nowhere) (word x)) xs
      → Where m n (all_moved s.calls proto q e xs next).acts (λ h. list_any (λ y. s.calls.moves_at (proto y.0) q h) xs)
  operands_where q d source e word [] next w ready h = where_none m n
  operands_where q d source e word (x ∷ xs) next w ready h =
      let o = h.0 in
      let y = slice_index_or e.held x.0 s.calls.nowhere in
      let one = s.calls.move (proto x.0) q y next in
      let g = laws.move_law (proto x.0) q o.declared d o.joins y (word x) next w ready o.operand in
      let a : Between m s next w one.acts one.next = between_of m s next (s.Names y) one w q (Word (word x)) g in
      where_on m n one.acts (all_moved s.calls proto q e xs one.next).acts (s.calls.moves_at (proto x.0) q) (λ h. list_any (λ y. s.calls.moves_at (proto y.0) q h) xs)
      (places.move_at (proto x.0) q o.declared d o.joins y (word x) next w ready o.operand)
      (operands_where q d source e word xs one.next a.reached (ready_past m s next w one.acts one.next ready a) (all_past m s laws proto next w one.acts one.next source q e word a xs h.1))

  module _ (o : Sight) (next : List ℕ) (held : List s.Parts) (w : m.World) (c : SlotState) (t : Tied m s proto o next held w c) where
    moved_where : (x : ℕ) → Sees o Binding x → (q : Proto) → s.Declared q → s.joins (proto x) q ≡ true
        → Where m n (s.calls.move (proto x) q (part m s proto held x) next).acts (s.calls.moves_at (proto x) q)
    moved_where x i q dq j =
        places.move_at (proto x) q (declared x) dq j (part m s proto held x) (slice_index c.words x) next w t.ready (operand_of m s proto laws declared o next held w c t x i)

    index_where : (v i : SlotId) → Sees o Binding i.0 → Reaches m s proto i (λ h. is_holder (proto v.0) (host h))
        → Where m n (delivered s.calls proto (proto i.0) (part m s proto held i.0) (holders_among s.calls (proto v.0)) next).acts (delivered_at s.calls proto (proto i.0) (holders_among s.calls (proto v.0)))
    index_where v i sees reaches =
        delivered_where (proto i.0) (declared i.0) (part m s proto held i.0) (word_at c i) (holders_among s.calls (proto v.0))
        (picked_join m s laws proto (proto i.0) (λ h. is_holder (proto v.0) (host h)) 0 s.calls.hosts (λ h lt is. reaches h (at lt) is) (omega arith)) next w t.ready
        (operand_of m s proto laws declared o next held w c t i.0 sees)
      where
        at : {h : ℕ} → h < 0 + s.calls.hosts → h < s.calls.hosts
        at lt = omega arith

  module _ (o : Sight) (e : Emitting s.calls proto) (w : m.World) (c : SlotState) (t : Tied m s proto o e.next e.held w c) where
    pub right_where : (x : ℕ) (right : Right) → right_sees right o ≡ true → RightFits s.calls.hosts right → RightPlaced m s proto (proto x) right
        → Where m n (right_made s.calls proto (proto x) right e).acts (right_acts_at s.calls proto (proto x) right)
    right_where x (Lit v) sees fits placed = places.literal_at (proto x) (declared x) placed v fits e.next w t.ready
    right_where x Turn sees fits placed = places.turn_at (proto x) (declared x) placed e.loop e.next w t.ready
    right_where x (Copy y) sees fits placed = moved_where o e.next e.held w c t y.0 sees (proto x) (declared x) placed
    right_where x (Declassify y to) sees fits placed = moved_where o e.next e.held w c t y.0 sees (proto x) (declared x) placed
    right_where x (Endorse y to) sees fits placed = moved_where o e.next e.held w c t y.0 sees (proto x) (declared x) placed
    right_where x (Apply op ys) sees fits placed =
        let args = all_moved s.calls proto (proto x) e ys e.next in
        let vs = map (word_at c) ys in
        let movable = movables m s proto laws declared o e.next e.held w c t (proto x) ys sees placed.1 in
        let all = move_all m s laws proto (proto x) (declared x) (Unchanging m s proto o e.held) e (word_at c) ys e.next w t.ready movable in
        where_on m n args.acts (s.calls.apply op (proto x) args.given args.next).acts (λ h. list_any (λ y. s.calls.moves_at (proto y.0) (proto x) h) ys) (s.calls.applies_at op (proto x))
        (operands_where (proto x) (declared x) (Unchanging m s proto o e.held) e (word_at c) ys e.next w t.ready movable)
        (places.apply_at op (proto x) (declared x) placed.0 fits.1 args.given vs (all.as_many ∙ length_map m s proto laws declared o e.next e.held w c t (word_at c) ys ∙ fits.0) args.next all.between.reached
        (ready_past m s e.next w args.acts args.next t.ready all.between) all.operands)
    right_where x (Input k) sees fits placed = places.input_at k fits e.next
    right_where x (Load v) sees fits placed =
        let kept = s.calls.keep (proto v.0) (part m s proto e.held v.0) e.next in
        let operand = operand_of_variable m s proto laws declared o e.next e.held w c t v.0 sees in
        let g = laws.keep_law (proto v.0) (declared v.0) placed.0 (part m s proto e.held v.0) (slice_index c.words v.0) e.next w t.ready operand in
        let a : Between m s e.next w kept.acts kept.next = between_of m s e.next nothing kept w (proto v.0) (Word (slice_index c.words v.0)) g in
        where_on m n kept.acts (s.calls.move (proto v.0) (proto x) kept.given kept.next).acts (λ h. is_holder (proto v.0) (host h)) (s.calls.moves_at (proto v.0) (proto x))
        (places.keep_at (proto v.0) (declared v.0) placed.0 (part m s proto e.held v.0) (slice_index c.words v.0) e.next w t.ready operand)
        (places.move_at (proto v.0) (proto x) (declared v.0) (declared x) placed.1 kept.given (slice_index c.words v.0) kept.next a.reached (ready_past m s e.next w kept.acts kept.next t.ready a)
        (record { below = g.fresh.below; stands = g.stands }))
    right_where x (Get v i) sees fits placed =
        let sees_array : Sees o Array v.0 = and_left _ _ sees in
        let sees_index : Sees o Binding i.0 = and_right _ _ sees in
        let index = delivered s.calls proto (proto i.0) (part m s proto e.held i.0) (holders_among s.calls (proto v.0)) e.next in
        let all = index_reached m s proto laws declared o e.next e.held w c t v i sees_index placed.2 in
        let words = array_at c v in
        let got = s.calls.get (proto v.0) (part m s proto e.held v.0) index.given index.next in
        let b = all.between in
        let below : Below m s index.next (part m s proto e.held v.0) = λ h r z. let lt = t.below Array v.0 sees_array h r z in let le = b.longer h in omega (arith, lt, le) in
        let g = laws.get_law (proto v.0) (declared v.0) placed.0 (part m s proto e.held v.0) words index.given (word_at c i) index.next b.reached (ready_past m s e.next w index.acts index.next t.ready b)
        below (laws.still w b.reached (proto v.0) (part m s proto e.held v.0) (Cells words) (t.stands Array v.0 sees_array) (λ h r z. b.leads.kept h r (t.below Array v.0 sees_array h r z) (λ y. y))) all.there in
        let a : Between m s index.next b.reached got.acts got.next = between_of m s index.next nothing got b.reached (proto v.0) (Word (slice_index words (word_at c i))) g in
        where_on m n (index.acts ++ got.acts) (s.calls.move (proto v.0) (proto x) got.given got.next).acts (λ h. delivered_at s.calls proto (proto i.0) (holders_among s.calls (proto v.0)) h || is_holder (proto v.0) (host h)) (s.calls.moves_at (proto v.0) (proto x))
        (where_on m n index.acts got.acts (delivered_at s.calls proto (proto i.0) (holders_among s.calls (proto v.0))) (λ h. is_holder (proto v.0) (host h))
        (index_where o e.next e.held w c t v i sees_index placed.2) (places.get_at (proto v.0) (declared v.0) placed.0 (part m s proto e.held v.0) index.given index.next))
        (places.move_at (proto v.0) (proto x) (declared v.0) (declared x) placed.1 got.given (slice_index words (word_at c i)) got.next a.reached
        (ready_past m s index.next b.reached got.acts got.next (ready_past m s e.next w index.acts index.next t.ready b) a) (record { below = g.fresh.below; stands = g.stands }))

    pub variable_where : (v x : SlotId) → Sees o Binding x.0 → s.holds VariableRow (proto v.0) ≡ true → s.joins (proto x.0) (proto v.0) ≡ true
        → let one = s.calls.move (proto x.0) (proto v.0) (part m s proto e.held x.0) e.next in
        Where m n (one.acts ++ (s.calls.keep (proto v.0) one.given one.next).acts) (λ h. s.calls.moves_at (proto x.0) (proto v.0) h || is_holder (proto v.0) (host h))
    variable_where v x sees holds joins =
        let one = s.calls.move (proto x.0) (proto v.0) (part m s proto e.held x.0) e.next in
        let g = moved m s proto laws declared o e.next e.held w c t x.0 sees (proto v.0) (declared v.0) joins in
        let b : Between m s e.next w one.acts one.next = between_of m s e.next (Unchanging m s proto o e.held) one w (proto v.0) (Word (word_at c x)) g in
        where_on m n one.acts (s.calls.keep (proto v.0) one.given one.next).acts (s.calls.moves_at (proto x.0) (proto v.0)) (λ h. is_holder (proto v.0) (host h))
        (moved_where o e.next e.held w c t x.0 sees (proto v.0) (declared v.0) joins)
        (places.keep_at (proto v.0) (declared v.0) holds one.given (word_at c x) one.next b.reached (ready_past m s e.next w one.acts one.next t.ready b) (record { below = g.fresh.below; stands = g.stands }))

    pub store_where : (v x : SlotId) → Sees o Variable v.0 → Sees o Binding x.0 → s.holds VariableRow (proto v.0) ≡ true → s.joins (proto x.0) (proto v.0) ≡ true
        → let one = s.calls.move (proto x.0) (proto v.0) (part m s proto e.held x.0) e.next in
        Where m n (one.acts ++ s.calls.renew (proto v.0) (part m s proto e.held v.0) one.given) (λ h. s.calls.moves_at (proto x.0) (proto v.0) h || is_holder (proto v.0) (host h))
    store_where v x sees_v sees holds joins =
        let one = s.calls.move (proto x.0) (proto v.0) (part m s proto e.held x.0) e.next in
        let g = moved m s proto laws declared o e.next e.held w c t x.0 sees (proto v.0) (declared v.0) joins in
        let b : Between m s e.next w one.acts one.next = between_of m s e.next (Unchanging m s proto o e.held) one w (proto v.0) (Word (word_at c x)) g in
        where_on m n one.acts (s.calls.renew (proto v.0) (part m s proto e.held v.0) one.given) (s.calls.moves_at (proto x.0) (proto v.0)) (λ h. is_holder (proto v.0) (host h))
        (moved_where o e.next e.held w c t x.0 sees (proto v.0) (declared v.0) joins)
        (places.renew_at (proto v.0) (declared v.0) holds (part m s proto e.held v.0) one.given (word_at c v) (word_at c x) one.next b.reached (ready_past m s e.next w one.acts one.next t.ready b)
        (operand_past m s laws e.next w one.acts one.next (proto v.0) (part m s proto e.held v.0) (word_at c v) b (operand_of_variable m s proto laws declared o e.next e.held w c t v.0 sees_v))
        (record { below = g.fresh.below; stands = g.stands }))

    pub put_where : (v i x : SlotId) → Sees o Binding i.0 → Sees o Binding x.0 → s.holds VariableRow (proto v.0) ≡ true → s.joins (proto x.0) (proto v.0) ≡ true
        → Reaches m s proto i (λ h. is_holder (proto v.0) (host h))
        → let index = delivered s.calls proto (proto i.0) (part m s proto e.held i.0) (holders_among s.calls (proto v.0)) e.next in
        let one = s.calls.move (proto x.0) (proto v.0) (part m s proto e.held x.0) index.next in
        Where m n ((index.acts ++ one.acts) ++ s.calls.put (proto v.0) (part m s proto e.held v.0) index.given one.given)
        (λ h. delivered_at s.calls proto (proto i.0) (holders_among s.calls (proto v.0)) h || s.calls.moves_at (proto x.0) (proto v.0) h || is_holder (proto v.0) (host h))
    put_where v i x sees_i sees_x holds joins reaches =
        let index = delivered s.calls proto (proto i.0) (part m s proto e.held i.0) (holders_among s.calls (proto v.0)) e.next in
        let one = s.calls.move (proto x.0) (proto v.0) (part m s proto e.held x.0) index.next in
        let all = index_reached m s proto laws declared o e.next e.held w c t v i sees_i reaches in
        let a = all.between in
        let t1 = tied_past m s proto laws o e.next index.next e.held w a.reached c index.acts t a.leads a.quiet a.known a.longer in
        where_on m n (index.acts ++ one.acts) (s.calls.put (proto v.0) (part m s proto e.held v.0) index.given one.given)
        (λ h. delivered_at s.calls proto (proto i.0) (holders_among s.calls (proto v.0)) h || s.calls.moves_at (proto x.0) (proto v.0) h) (λ h. is_holder (proto v.0) (host h))
        (where_on m n index.acts one.acts (delivered_at s.calls proto (proto i.0) (holders_among s.calls (proto v.0))) (s.calls.moves_at (proto x.0) (proto v.0))
        (index_where o e.next e.held w c t v i sees_i reaches) (moved_where o index.next e.held a.reached c t1 x.0 sees_x (proto v.0) (declared v.0) joins))
        (places.put_at (proto v.0) (declared v.0) holds (part m s proto e.held v.0) index.given one.given)

    pub output_where : (x : SlotId) (h : HostId) → Sees o Binding x.0 → h.0 < s.calls.hosts → s.joins (proto x.0) (Local h) ≡ true
        → let one = s.calls.move (proto x.0) (Local h) (part m s proto e.held x.0) e.next in
        Where m n (one.acts ++ s.calls.output h one.given) (λ k. s.calls.moves_at (proto x.0) (Local h) k || nat_eq h.0 k)
    output_where x h sees lt joins =
        let one = s.calls.move (proto x.0) (Local h) (part m s proto e.held x.0) e.next in
        where_on m n one.acts (s.calls.output h one.given) (s.calls.moves_at (proto x.0) (Local h)) (λ k. nat_eq h.0 k)
        (moved_where o e.next e.held w c t x.0 sees (Local h) (laws.local_is_declared h lt) joins) (places.output_at h lt one.given)
