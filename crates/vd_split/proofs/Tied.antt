-- The state of all hosts, as the clear state shows in it.
use Rattle.std.proofs.Common.{◌≡◌, ℕ, ◌+◌, ◌^◌, ◌<◌, ◌≤◌, Bool, true, false, List, [], ◌∷◌, ◌++◌, length, slice_index, slice_index_or, ◌⊎◌, inl, inr, refl, sym, ap, ◌∙◌, subst, arith}
use Rattle.vd_base.specs.declared.protocols.Proto.{Proto}
use Rattle.vd_core.specs.Facts.{Sight}
use Rattle.vd_semantics.specs.World.{World}
use Rattle.vd_semantics.specs.ProgramMeaning.{SlotState}
use Rattle.vd_split.specs.Joint.{Hosts}
use Rattle.vd_split.specs.Suite.{Suite, nothing, Leads, Quiet, Below, Fresh, Ready, Laws}
use Rattle.vd_split.proofs.Lists.{front_kept, at_end}
use Rattle.vd_split.proofs.Sight.{Use, Sees, changing, content, with_use, Which, New, Old, which}

module _ (m : Hosts) (s : Suite m) (proto : ℕ → Proto) where
  abbrev pub part : List s.Parts → ℕ → s.Parts
  part held x = slice_index_or held x s.calls.nowhere

  -- no register of both
  abbrev pub Apart : s.Parts → s.Parts → Type 0
  Apart x y = (h r : ℕ) → s.Names x h r → s.Names y h r → ⊥

  -- one slot, or another that shares no register with it
  pub data Distinct (held : List s.Parts) (u : Use) (x : ℕ) (v : Use) (y : ℕ) : Type 0 where
    Same : u ≡ v → x ≡ y → Distinct held u x v y
    Other : (x ≡ y → ⊥) → Apart (part held y) (part held x) → Distinct held u x v y

  -- the register is not one of a variable or an array
  abbrev pub Unchanging : Sight → List s.Parts → ℕ → ℕ → Type 0
  Unchanging o held h r = (v : Use) (y : ℕ) → Sees o v y → changing v ≡ true → s.Names (part held y) h r → ⊥

  -- what the hosts have printed and have still to read
  pub record Outside (w : m.World) (o : World) : Type 0 where
    pub printed : (h : ℕ) → m.printed w h ≡ slice_index_or o.outputs h []
    pub waiting : (h : ℕ) → m.waiting w h ≡ slice_index_or o.inputs h []
    pub words : (h i : ℕ) → slice_index (m.waiting w h) i < 2 ^ 32
    pub known : length o.outputs ≡ s.calls.hosts

  -- each slot in sight stands for what it has in the clear
  pub record Tied (o : Sight) (next : List ℕ) (held : List s.Parts) (w : m.World) (c : SlotState) : Type 0 where
    pub ready : Ready m s next w
    pub made : (u : Use) (x : ℕ) → Sees o u x → x < length held
    pub below : (u : Use) (x : ℕ) → Sees o u x → Below m s next (part held x)
    pub apart : (u : Use) (x : ℕ) (v : Use) (y : ℕ) → Sees o u x → Sees o v y → changing v ≡ true → Distinct held u x v y
    pub stands : (u : Use) (x : ℕ) → Sees o u x → s.Stands w (proto x) (part held x) (content u c x)
    pub outside : Outside w c.world

  pub quiet_outside : (w w' : m.World) (o : World) → Quiet m s w w' → Outside w o → Outside w' o
  quiet_outside w w' o q t = record {
    printed = λ h. q.printed h ∙ t.printed h;
    waiting = λ h. q.waiting h ∙ t.waiting h;
    words = λ h i. subst (λ l. slice_index l i < 2 ^ 32) (sym (q.waiting h)) (t.words h i);
    known = t.known;
  }

  module _ (laws : Laws m s) where
    -- where no register below the free ones is changed, all goes on
    pub tied_on : (o : Sight) (next next' : List ℕ) (held : List s.Parts) (w w' : m.World) (c : SlotState) → Tied o next held w c → m.Sound w' → Quiet m s w w'
        → ((h r : ℕ) → r < slice_index next h → m.word w' h r ≡ m.word w h r) → length next' ≡ length next → ((h : ℕ) → slice_index next h ≤ slice_index next' h)
        → Tied o next' held w' c
    tied_on o next next' held w w' c t sound quiet kept known longer = record {
      ready = record { known = known ∙ t.ready.known; sound = sound };
      made = t.made;
      below = λ u x i h r n. let a = t.below u x i h r n in let b = longer h in omega arith;
      apart = t.apart;
      stands = λ u x i. laws.still w w' (proto x) (part held x) (content u c x) (t.stands u x i) (λ h r n. kept h r (t.below u x i h r n));
      outside = quiet_outside w w' c.world quiet t.outside;
    }

    -- a call on the way
    pub tied_past : (o : Sight) (next next' : List ℕ) (held : List s.Parts) (w w' : m.World) (c : SlotState) (acts : List m.Act) → Tied o next held w c → Leads m s next nothing acts w w' → Quiet m s w w'
        → length next' ≡ length next → ((h : ℕ) → slice_index next h ≤ slice_index next' h) → Tied o next' held w' c
    tied_past o next next' held w w' c acts t leads quiet known longer =
        tied_on o next next' held w w' c t leads.sound quiet (λ h r lt. leads.kept h r lt (λ n. n)) known longer

    -- more slots are held, out of sight
    pub tied_held : (o : Sight) (next : List ℕ) (held more : List s.Parts) (w : m.World) (c : SlotState) → Tied o next held w c → Tied o next (held ++ more) w c
    tied_held o next held more w c t = record {
      ready = t.ready;
      made = λ u x i. let a = t.made u x i in let b = longer held more in omega arith;
      below = λ u x i. subst (Below m s next) (sym (same u x i)) (t.below u x i);
      apart = λ u x v y i j k. distinct u x v y i j (t.apart u x v y i j k);
      stands = λ u x i. subst (λ p. s.Stands w (proto x) p (content u c x)) (sym (same u x i)) (t.stands u x i);
      outside = t.outside;
    }
      where
        longer : (xs ys : List s.Parts) → length xs ≤ length (xs ++ ys)
        longer [] ys = omega arith
        longer (x ∷ xs) ys = let a = longer xs ys in omega arith

        same : (u : Use) (x : ℕ) → Sees o u x → part (held ++ more) x ≡ part held x
        same u x i = front_kept held more x s.calls.nowhere (t.made u x i)

        distinct : (u : Use) (x : ℕ) (v : Use) (y : ℕ) → Sees o u x → Sees o v y → Distinct held u x v y → Distinct (held ++ more) u x v y
        distinct u x v y i j (Same e f) = Same e f
        distinct u x v y i j (Other n a) = Other n (λ h r p q. a h r (subst (λ z. s.Names z h r) (same v y j) p) (subst (λ z. s.Names z h r) (same u x i) q))

    -- fewer slots are in sight
    pub tied_less : (o o' : Sight) (next : List ℕ) (held : List s.Parts) (w : m.World) (c : SlotState) → Tied o' next held w c → ((u : Use) (x : ℕ) → Sees o u x → Sees o' u x) → Tied o next held w c
    tied_less o o' next held w c t sub = record {
      ready = t.ready;
      made = λ u x i. t.made u x (sub u x i);
      below = λ u x i. t.below u x (sub u x i);
      apart = λ u x v y i j k. t.apart u x v y (sub u x i) (sub v y j) k;
      stands = λ u x i. t.stands u x (sub u x i);
      outside = t.outside;
    }

    -- one slot more, whose parts are fresh or, for a binding, name no register that changes
    pub tied_more : (o : Sight) (next next' : List ℕ) (held : List s.Parts) (w w' : m.World) (c c' : SlotState) (u : Use) (n : ℕ) (p : s.Parts) (source : ℕ → ℕ → Type 0)
        → Tied o next held w c → n ≡ length held → m.Sound w' → Outside w' c'.world → ((h r : ℕ) → r < slice_index next h → m.word w' h r ≡ m.word w h r) → Fresh m s next source p next'
        → ((h r : ℕ) → source h r → (changing u ≡ false) × Unchanging o held h r)
        → s.Stands w' (proto n) p (content u c' n) → ((v : Use) (x : ℕ) → (x ≡ n → ⊥) → content v c' x ≡ content v c x)
        → Tied (with_use u n o) next' (held ++ p ∷ []) w' c'
    tied_more o next next' held w w' c c' u n p source t is sound outside kept fresh from stands same = record {
      ready = record { known = fresh.known ∙ t.ready.known; sound = sound };
      made = λ v x i. made v x (which o u n v x i);
      below = λ v x i. below v x (which o u n v x i);
      apart = λ v x v' x' i j k. apart v x v' x' (which o u n v x i) (which o u n v' x' j) k;
      stands = λ v x i. standing v x (which o u n v x i);
      outside = outside;
    }
      where
        held' : List s.Parts
        held' = held ++ p ∷ []

        longer : (xs : List s.Parts) → length (xs ++ p ∷ []) ≡ length xs + 1
        longer [] = refl
        longer (x ∷ xs) = let a = longer xs in omega arith

        here : (x : ℕ) → x ≡ n → part (held ++ p ∷ []) x ≡ p
        here x e = ap (part (held ++ p ∷ [])) (e ∙ is) ∙ at_end held p s.calls.nowhere

        there : (v : Use) (x : ℕ) → Sees o v x → part (held ++ p ∷ []) x ≡ part held x
        there v x i = front_kept held (p ∷ []) x s.calls.nowhere (t.made v x i)

        not_new : (v : Use) (x : ℕ) → Sees o v x → x ≡ n → ⊥
        not_new v x i e = let a = t.made v x i in omega arith

        made : (v : Use) (x : ℕ) → Which o u n v x → x < length (held ++ p ∷ [])
        made v x (New e f) = let a = longer held in omega arith
        made v x (Old i) = let a = longer held in let b = t.made v x i in omega arith

        below : (v : Use) (x : ℕ) → Which o u n v x → Below m s next' (part (held ++ p ∷ []) x)
        below v x (New e f) = subst (Below m s next') (sym (here x f)) fresh.below
        below v x (Old i) = subst (Below m s next') (sym (there v x i)) (λ h r k. let a = t.below v x i h r k in let b = fresh.longer h in omega arith)

        -- a slot that changes names no register of the new one
        clear_of : (v : Use) (y : ℕ) → Sees o v y → changing v ≡ true → Apart (part held y) p
        clear_of v y i k h r a b = at (fresh.from h r b)
          where
            at : (slice_index next h ≤ r) ⊎ source h r → ⊥
            at (inl le) = let lt = t.below v y i h r a in omega arith
            at (inr q) = (from h r q).1 v y i k a

        -- a new slot that changes names fresh registers alone
        all_fresh : changing u ≡ true → (v : Use) (x : ℕ) → Sees o v x → Apart p (part held x)
        all_fresh k v x i h r a b = at (fresh.from h r a)
          where
            opposite : (b : Bool) → b ≡ true → b ≡ false → ⊥
            opposite true e f = cc
            opposite false e f = cc

            at : (slice_index next h ≤ r) ⊎ source h r → ⊥
            at (inl le) = let lt = t.below v x i h r b in omega arith
            at (inr q) = opposite (changing u) k (from h r q).0

        apart : (v : Use) (x : ℕ) (v' : Use) (x' : ℕ) → Which o u n v x → Which o u n v' x' → changing v' ≡ true → Distinct (held ++ p ∷ []) v x v' x'
        apart v x v' x' (New e f) (New e' f') k = Same (e ∙ sym e') (f ∙ sym f')
        apart v x v' x' (New e f) (Old j) k =
            Other (λ q. not_new v' x' j (sym q ∙ f)) (λ h r a b. clear_of v' x' j k h r (subst (λ z. s.Names z h r) (there v' x' j) a) (subst (λ z. s.Names z h r) (here x f) b))
        apart v x v' x' (Old i) (New e' f') k =
            Other (λ q. not_new v x i (q ∙ f')) (λ h r a b. all_fresh (ap changing (sym e') ∙ k) v x i h r (subst (λ z. s.Names z h r) (here x' f') a) (subst (λ z. s.Names z h r) (there v x i) b))
        apart v x v' x' (Old i) (Old j) k = both (t.apart v x v' x' i j k)
          where
            both : Distinct held v x v' x' → Distinct (held ++ p ∷ []) v x v' x'
            both (Same e f) = Same e f
            both (Other d a) = Other d (λ h r b b'. a h r (subst (λ z. s.Names z h r) (there v' x' j) b) (subst (λ z. s.Names z h r) (there v x i) b'))

        standing : (v : Use) (x : ℕ) → Which o u n v x → s.Stands w' (proto x) (part (held ++ p ∷ []) x) (content v c' x)
        standing v x (New e f) =
            let P : Use → ℕ → Type 0 = λ v x. s.Stands w' (proto x) p (content v c' x) in
            let here' : P v x = subst (λ z. P z x) (sym e) (subst (λ z. P u z) (sym f) stands) in
            subst (λ z. s.Stands w' (proto x) z (content v c' x)) (sym (here x f)) here'
        standing v x (Old i) =
            let still : s.Stands w' (proto x) (part held x) (content v c x) = laws.still w w' (proto x) (part held x) (content v c x) (t.stands v x i) (λ h r k. kept h r (t.below v x i h r k)) in
            let moved : s.Stands w' (proto x) (part held x) (content v c' x) = subst (λ z. s.Stands w' (proto x) (part held x) z) (sym (same v x (not_new v x i))) still in
            subst (λ z. s.Stands w' (proto x) z (content v c' x)) (sym (there v x i)) moved

    -- a variable or an array is written
    pub tied_renewed : (o : Sight) (next : List ℕ) (held : List s.Parts) (w w' : m.World) (c c' : SlotState) (acts : List m.Act) (v : Use) (y : ℕ)
        → Tied o next held w c → Sees o v y → changing v ≡ true → Leads m s next (s.Names (part held y)) acts w w' → Quiet m s w w' → s.Stands w' (proto y) (part held y) (content v c' y)
        → ((u : Use) (x : ℕ) → (x ≡ y → ⊥) → content u c' x ≡ content u c x) → c'.world ≡ c.world → Tied o next held w' c'
    tied_renewed o next held w w' c c' acts v y t sees k leads quiet stands same world = record {
      ready = record { known = t.ready.known; sound = leads.sound };
      made = t.made;
      below = t.below;
      apart = t.apart;
      stands = λ u x i. standing u x i (t.apart u x v y i sees k);
      outside = subst (Outside w') (sym world) (quiet_outside w w' c.world quiet t.outside);
    }
      where
        standing : (u : Use) (x : ℕ) → Sees o u x → Distinct held u x v y → s.Stands w' (proto x) (part held x) (content u c' x)
        standing u x i (Same e f) =
            let P : Use → ℕ → Type 0 = λ u x. s.Stands w' (proto x) (part held x) (content u c' x) in
            subst (λ z. P z x) (sym e) (subst (λ z. P v z) (sym f) stands)
        standing u x i (Other d a) =
            let still : s.Stands w' (proto x) (part held x) (content u c x) =
            laws.still w w' (proto x) (part held x) (content u c x) (t.stands u x i) (λ h r n. leads.kept h r (t.below u x i h r n) (λ q. a h r q n)) in
            subst (λ z. s.Stands w' (proto x) (part held x) z) (sym (same u x d)) still
