-- What the hosts that keep to their programs hold: of each slot in trust the word that it has in the clear run.
use Rattle.std.proofs.Common.{◌≡◌, ℕ, ◌+◌, ◌^◌, ◌<◌, Bool, true, List, [], ◌∷◌, ◌++◌, inl, inr, length, slice_index, slice_index_or, refl, sym, ap, subst, ◌∙◌, arith}
use Rattle.vd_base.specs.declared.protocols.Proto.{Proto}
use Rattle.vd_base.specs.declared.protocols.Proto.TheVariants.{Local, Rep, Commit, Add, Xor}
use Rattle.vd_base.specs.Holders.{holders}
use Rattle.vd_core.specs.Facts.{Sight}
use Rattle.vd_semantics.specs.World.{World}
use Rattle.vd_semantics.specs.ProgramMeaning.{SlotState}
use Rattle.vd_execution.specs.Joint.{Hosts}
use Rattle.vd_execution.specs.Step.{Inputs}
use Rattle.vd_execution.specs.World.{Tape}
use Rattle.vd_duet.specs.Calls.{Places, hosts_of}
use Rattle.vd_duet.specs.Laws.{AreBelow, IsIn}
use Rattle.vd_split.specs.Suite.{Content, Word, Cells, Suite}
use Rattle.vd_split.proofs.Front.{front_kept, at_end, Use, Binding, Variable, Array, Sees, changing, content, with_use, Which, New, Old, which, Distinct, Same, Other, Tied, Unchanging}
use Rattle.vd_backend_laws.specs.Machine.{machine}
use Rattle.vd_backend_laws.specs.Parts.{Parts, has_back_end}
use Rattle.vd_backend_laws.specs.Suite.{cell, Names, stands, suite}
use Rattle.vd_backend_laws.proofs.Front.{all_below, cells_of, in_names}
use Rattle.vd_integrity_runs.specs.Departing.{AreRight}
use Rattle.vd_integrity_runs.specs.Copies.{IsInClear, IsOperand}
use Rattle.vd_integrity_runs.proofs.Touching.{IsFramed}

pub has_back : (p : Proto) → IsInClear p → has_back_end p ≡ true
has_back (Local h) clear = refl
has_back (Rep set) clear = refl
has_back (Commit a b) clear = absurd clear
has_back (Add a b) clear = absurd clear
has_back (Xor a b) clear = absurd clear

-- as many registers as the content has words
abbrev pub IsSized : Parts → Content → Type 0
IsSized x (Word v) = x.size ≡ 1
IsSized x (Cells vs) = Unit {0}

abbrev pub IsSmall : Content → Type 0
IsSmall (Word v) = v < 2 ^ 32
IsSmall (Cells vs) = (i : ℕ) → slice_index vs i < 2 ^ 32

-- the registers of the parts hold the content at the hosts that keep
abbrev pub IsRightIn : (ℕ → Bool) → Hosts → Parts → Content → Type 0
IsRightIn keeps w x (Word v) = AreRight keeps w x.at v
IsRightIn keeps w x (Cells vs) = (x.size ≡ length vs) × ((i : ℕ) → i < x.size → AreRight keeps w (cell i x.at) (slice_index vs i))

right_stays : (keeps : ℕ → Bool) (w w' : Hosts) (x : Places) (v : ℕ) → ((h r : ℕ) → IsIn x h r → (w' h).registers r ≡ (w h).registers r) → AreRight keeps w x v → AreRight keeps w' x v
right_stays keeps w w' [] v same right = tt
right_stays keeps w w' (q ∷ x) v same right = (λ is. same q.0.0 q.1.0 (inl (refl, refl)) ∙ right.0 is, right_stays keeps w w' x v (λ h r i. same h r (inr i)) right.1)

pub content_stays : (keeps : ℕ → Bool) (w w' : Hosts) (x : Parts) (c : Content) → IsSized x c → ((h r : ℕ) → Names x h r → (w' h).registers r ≡ (w h).registers r) → IsRightIn keeps w x c → IsRightIn keeps w' x c
content_stays keeps w w' x (Word v) size same right = right_stays keeps w w' x.at v (λ h r i. same h r (in_names x h r size i)) right
content_stays keeps w w' x (Cells vs) size same right = (right.0, λ i lt. right_stays keeps w w' (cell i x.at) (slice_index vs i) (λ h r j. same h r (i, lt, j)) (right.1 i lt))

sized_by_use : (u : Use) (c c' : SlotState) (x : ℕ) (p : Parts) → IsSized p (content u c x) → IsSized p (content u c' x)
sized_by_use Binding c c' x p size = size
sized_by_use Variable c c' x p size = size
sized_by_use Array c c' x p size = size

module _ (hosts : ℕ) (t : Tape) (inputs : ℕ → List ℕ) (proto : ℕ → Proto) (clear : (x : ℕ) → IsInClear (proto x)) where
  abbrev s : Suite (machine t inputs)
  s = suite t inputs hosts

  abbrev pub part_of : List Parts → ℕ → Parts
  part_of held x = slice_index_or held x (suite t inputs hosts).calls.nowhere

  abbrev pub Ties : Sight → List ℕ → List Parts → Hosts → SlotState → Type 0
  Ties o next held w c = Tied (machine t inputs) (suite t inputs hosts) proto o next held w c

  abbrev pub Lasting : Sight → List Parts → ℕ → ℕ → Type 0
  Lasting o held h r = Unchanging (machine t inputs) (suite t inputs hosts) proto o held h r

  -- the parts of a slot in sight, by a run of hosts that all keep
  module _ (o : Sight) (next : List ℕ) (held : List Parts) (w0 : Hosts) (c0 : SlotState) (ties : Ties o next held w0 c0) where
    pub sized : (u : Use) (x : ℕ) → Sees o u x → (c : SlotState) → IsSized (part_of held x) (content u c x)
    sized u x i c = sized_by_use u c0 c x (part_of held x) (by u (content u c0 x) refl (ties.stands u x i))
      where
        by : (u : Use) (d : Content) → d ≡ d → stands w0 (proto x) (part_of held x) d → IsSized (part_of held x) d
        by u (Word v) is s = (cells_of (proto x) (has_back (proto x) (clear x)) w0 (part_of held x) (Word v) s).size
        by u (Cells vs) is s = tt

    pub placed : (u : Use) (x : ℕ) → Sees o u x → hosts_of (part_of held x).at ≡ holders (proto x)
    placed u x i = (cells_of (proto x) (has_back (proto x) (clear x)) w0 (part_of held x) (content u c0 x) (ties.stands u x i)).at

    pub word_below : (u : Use) (x : ℕ) → Sees o u x → (part_of held x).size ≡ 1 → AreBelow next (part_of held x).at
    word_below u x i size = all_below next (part_of held x).at (λ h r j. ties.below u x i h r (in_names (part_of held x) h r size j))

  module _ (keeps kept : ℕ → Bool) where
    -- what the hosts that keep have printed, and have still to hand in
    pub record Outer (w : Hosts) (o : World) : Type 0 where
      pub printed : (h : ℕ) → keeps h ≡ true → (w h).printed ≡ slice_index_or o.outputs h []
      pub waiting : (h : ℕ) → keeps h ≡ true → (i : ℕ) → slice_index (inputs h) ((w h).cursors Inputs + i) ≡ slice_index (slice_index_or o.inputs h []) i
      pub words : (h : ℕ) → keeps h ≡ true → (i : ℕ) → slice_index (slice_index_or o.inputs h []) i < 2 ^ 32
      pub known : length o.outputs ≡ hosts

    -- each slot in sight and in trust is right
    pub record InTrust (o : Sight) (held : List Parts) (w : Hosts) (c : SlotState) : Type 0 where
      pub right : (u : Use) (x : ℕ) → Sees o u x → kept x ≡ true → IsRightIn keeps w (part_of held x) (content u c x)
      pub small : (u : Use) (x : ℕ) → Sees o u x → kept x ≡ true → IsSmall (content u c x)
      pub outer : Outer w c.world

    -- gadgets that print nothing and take no input
    pub quiet_outer : (P : ℕ → ℕ → Type 0) (w w' : Hosts) (o : World) → IsFramed P w w' → Outer w o → Outer w' o
    quiet_outer P w w' o f a = record {
      printed = λ h is. f.printed h ∙ a.printed h is;
      waiting = λ h is i. ap (λ n. slice_index (inputs h) (n + i)) (f.inputs h) ∙ a.waiting h is i;
      words = a.words;
      known = a.known;
    }

    -- registers below the free ones keep their words
    abbrev pub Still : List ℕ → Hosts → Hosts → Type 0
    Still next w w' = (h r : ℕ) → r < slice_index next h → (w' h).registers r ≡ (w h).registers r

    -- a slot in trust, as an operand
    pub operand : (o : Sight) (next : List ℕ) (held : List Parts) (w0 : Hosts) (c0 : SlotState) → Ties o next held w0 c0 → (w : Hosts) (c : SlotState) → InTrust o held w c
        → (x : ℕ) → Sees o Binding x → kept x ≡ true → IsOperand keeps (proto x) next w (part_of held x).at (slice_index c.words x)
    operand o next held w0 c0 ties w c a x i is = record {
      at = placed o next held w0 c0 ties Binding x i;
      below = word_below o next held w0 c0 ties Binding x i (sized o next held w0 c0 ties Binding x i c);
      right = a.right Binding x i is;
      word = a.small Binding x i is;
    }

    pub operand_of_variable : (o : Sight) (next : List ℕ) (held : List Parts) (w0 : Hosts) (c0 : SlotState) → Ties o next held w0 c0 → (w : Hosts) (c : SlotState) → InTrust o held w c
        → (x : ℕ) → Sees o Variable x → kept x ≡ true → IsOperand keeps (proto x) next w (part_of held x).at (slice_index c.words x)
    operand_of_variable o next held w0 c0 ties w c a x i is = record {
      at = placed o next held w0 c0 ties Variable x i;
      below = word_below o next held w0 c0 ties Variable x i (sized o next held w0 c0 ties Variable x i c);
      right = a.right Variable x i is;
      word = a.small Variable x i is;
    }

    -- the hosts go on
    pub trust_on : (o : Sight) (next : List ℕ) (held : List Parts) (w0 : Hosts) (c0 : SlotState) → Ties o next held w0 c0 → (w w' : Hosts) (c : SlotState)
        → Still next w w' → Outer w' c.world → InTrust o held w c → InTrust o held w' c
    trust_on o next held w0 c0 ties w w' c still outer a = record {
      right = λ u x i is. content_stays keeps w w' (part_of held x) (content u c x) (sized o next held w0 c0 ties u x i c) (λ h r n. still h r (ties.below u x i h r n)) (a.right u x i is);
      small = a.small;
      outer = outer;
    }

    -- more slots are held, out of sight
    pub trust_held : (o : Sight) (held more : List Parts) (w : Hosts) (c : SlotState) → ((u : Use) (x : ℕ) → Sees o u x → x < length held) → InTrust o held w c → InTrust o (held ++ more) w c
    trust_held o held more w c made a = record {
      right = λ u x i is. subst (λ z. IsRightIn keeps w z (content u c x)) (sym (front_kept held more x (suite t inputs hosts).calls.nowhere (made u x i))) (a.right u x i is);
      small = a.small;
      outer = a.outer;
    }

    -- back to what was held and in sight before
    pub trust_back : (o o' : Sight) (held held' more : List Parts) (w : Hosts) (c : SlotState) → ((u : Use) (x : ℕ) → Sees o u x → x < length held) → ((u : Use) (x : ℕ) → Sees o u x → Sees o' u x) → held' ≡ held ++ more
        → InTrust o' held' w c → InTrust o held w c
    trust_back o o' held held' more w c made seen is a = record {
      right = λ u x i there. subst (λ z. IsRightIn keeps w z (content u c x)) (ap (λ (l : List Parts). part_of l x) is ∙ front_kept held more x (suite t inputs hosts).calls.nowhere (made u x i)) (a.right u x (seen u x i) there);
      small = λ u x i. a.small u x (seen u x i);
      outer = a.outer;
    }

    -- one slot more
    pub trust_more : (o : Sight) (next : List ℕ) (held : List Parts) (w0 : Hosts) (c0 : SlotState) → Ties o next held w0 c0 → (w w' : Hosts) (c c' : SlotState) (u : Use) (n : ℕ) (p : Parts) → n ≡ length held
        → Still next w w' → Outer w' c'.world → (kept n ≡ true → IsRightIn keeps w' p (content u c' n)) → (kept n ≡ true → IsSmall (content u c' n))
        → ((v : Use) (x : ℕ) → (x ≡ n → ⊥) → content v c' x ≡ content v c x) → InTrust o held w c → InTrust (with_use u n o) (held ++ p ∷ []) w' c'
    trust_more o next held w0 c0 ties w w' c c' u n p is still outer right small same a = record {
      right = λ v x i there. at_right v x (which o u n v x i) there;
      small = λ v x i there. at_small v x (which o u n v x i) there;
      outer = outer;
    }
      where
        not_new : (v : Use) (x : ℕ) → Sees o v x → x ≡ n → ⊥
        not_new v x i e = let low = ties.made v x i in omega (arith, low, e, is)

        here : (x : ℕ) → x ≡ n → part_of (held ++ p ∷ []) x ≡ p
        here x e = ap (part_of (held ++ p ∷ [])) (e ∙ is) ∙ at_end held p (suite t inputs hosts).calls.nowhere

        at_right : (v : Use) (x : ℕ) → Which o u n v x → kept x ≡ true → IsRightIn keeps w' (part_of (held ++ p ∷ []) x) (content v c' x)
        at_right v x (New e f) there =
            let P : Use → ℕ → Type 0 = λ v x. IsRightIn keeps w' p (content v c' x) in
            let new : P v x = subst (λ z. P z x) (sym e) (subst (λ z. P u z) (sym f) (right (ap kept (sym f) ∙ there))) in
            subst (λ z. IsRightIn keeps w' z (content v c' x)) (sym (here x f)) new
        at_right v x (Old i) there =
            let old : IsRightIn keeps w' (part_of held x) (content v c x) =
            content_stays keeps w w' (part_of held x) (content v c x) (sized o next held w0 c0 ties v x i c) (λ h r k. still h r (ties.below v x i h r k)) (a.right v x i there) in
            let moved : IsRightIn keeps w' (part_of held x) (content v c' x) = subst (λ z. IsRightIn keeps w' (part_of held x) z) (sym (same v x (not_new v x i))) old in
            subst (λ z. IsRightIn keeps w' z (content v c' x)) (sym (front_kept held (p ∷ []) x (suite t inputs hosts).calls.nowhere (ties.made v x i))) moved

        at_small : (v : Use) (x : ℕ) → Which o u n v x → kept x ≡ true → IsSmall (content v c' x)
        at_small v x (New e f) there =
            let P : Use → ℕ → Type 0 = λ v x. IsSmall (content v c' x) in
            subst (λ z. P z x) (sym e) (subst (λ z. P u z) (sym f) (small (ap kept (sym f) ∙ there)))
        at_small v x (Old i) there = subst IsSmall (sym (same v x (not_new v x i))) (a.small v x i there)

    -- a variable is written
    pub trust_written : (o : Sight) (next : List ℕ) (held : List Parts) (w0 : Hosts) (c0 : SlotState) → Ties o next held w0 c0 → (w w' : Hosts) (c c' : SlotState) (v : Use) (y : ℕ) → Sees o v y → changing v ≡ true
        → ((h r : ℕ) → r < slice_index next h → (Names (part_of held y) h r → ⊥) → (w' h).registers r ≡ (w h).registers r) → Outer w' c'.world
        → (kept y ≡ true → IsRightIn keeps w' (part_of held y) (content v c' y)) → (kept y ≡ true → IsSmall (content v c' y))
        → ((u : Use) (x : ℕ) → (x ≡ y → ⊥) → content u c' x ≡ content u c x) → InTrust o held w c → InTrust o held w' c'
    trust_written o next held w0 c0 ties w w' c c' v y sees changes still outer right small same a = record {
      right = λ u x i there. at_right u x i there (ties.apart u x v y i sees changes);
      small = λ u x i there. at_small u x i there (ties.apart u x v y i sees changes);
      outer = outer;
    }
      where
        at_right : (u : Use) (x : ℕ) → Sees o u x → kept x ≡ true → Distinct (machine t inputs) (suite t inputs hosts) proto held u x v y → IsRightIn keeps w' (part_of held x) (content u c' x)
        at_right u x i there (Same e f) =
            let P : Use → ℕ → Type 0 = λ u x. IsRightIn keeps w' (part_of held x) (content u c' x) in
            subst (λ z. P z x) (sym e) (subst (λ z. P v z) (sym f) (right (ap kept (sym f) ∙ there)))
        at_right u x i there (Other d apart) =
            subst (λ z. IsRightIn keeps w' (part_of held x) z) (sym (same u x d))
            (content_stays keeps w w' (part_of held x) (content u c x) (sized o next held w0 c0 ties u x i c) (λ h r n. still h r (ties.below u x i h r n) (λ q. apart h r q n)) (a.right u x i there))

        at_small : (u : Use) (x : ℕ) → Sees o u x → kept x ≡ true → Distinct (machine t inputs) (suite t inputs hosts) proto held u x v y → IsSmall (content u c' x)
        at_small u x i there (Same e f) =
            let P : Use → ℕ → Type 0 = λ u x. IsSmall (content u c' x) in
            subst (λ z. P z x) (sym e) (subst (λ z. P v z) (sym f) (small (ap kept (sym f) ∙ there)))
        at_small u x i there (Other d apart) = subst IsSmall (sym (same u x d)) (a.small u x i there)
