-- What the slots have, and what the names in sight hold by it.
use Rattle.std.proofs.Common.{◌≡◌, ℕ, zero, suc, ◌<◌, ◌≤◌, Bool, true, false, ◌&&◌, List, [], ◌∷◌, ◌++◌, Option, Some, None, refl, sym, ap, ◌∙◌, subst, arith, if◌then◌else◌, bytes_eq, slice_index_or}
use Rattle.vd_semantics.specs.declared.held.Held.{Held}
use Rattle.vd_semantics.specs.declared.held.Held.TheVariants.{Bound, Cell, Elements}
use Rattle.vd_base.specs.Names.{Named, at_name, changed}
use Rattle.vd_semantics.specs.Stores.{put}
use Rattle.vd_semantics.specs.ProgramMeaning.{SlotState}
use Rattle.vd_elaborate.specs.declared.anf.spot.Spot.{Spot}
use Rattle.vd_elaborate.specs.declared.anf.spot.Spot.TheVariants.{Binding, Variable, Array}

pub item_put : {A : Type 0} (d : A) (s : List A) (i : ℕ) (w : A) → slice_index_or (put d s i w) i d ≡ w
item_put d [] zero w = refl
item_put d [] (suc i) w = item_put d [] i w
item_put d (x ∷ xs) zero w = refl
item_put d (x ∷ xs) (suc i) w = item_put d xs i w

item_put_other : {A : Type 0} (d : A) (s : List A) (i j : ℕ) (w : A) → (i ≡ j → ⊥) → slice_index_or (put d s i w) j d ≡ slice_index_or s j d
item_put_other d [] zero zero w h = absurd (h refl)
item_put_other d [] zero (suc j) w h = refl
item_put_other d [] (suc i) zero w h = refl
item_put_other d [] (suc i) (suc j) w h = item_put_other d [] i j w (λ e. h (ap suc e))
item_put_other d (x ∷ xs) zero zero w h = absurd (h refl)
item_put_other d (x ∷ xs) zero (suc j) w h = refl
item_put_other d (x ∷ xs) (suc i) zero w h = refl
item_put_other d (x ∷ xs) (suc i) (suc j) w h = item_put_other d xs i j w (λ e. h (ap suc e))

abbrev pub word : SlotState → ℕ → ℕ
word s k = slice_index_or s.words k 0

abbrev pub array : SlotState → ℕ → List ℕ
array s k = slice_index_or s.arrays k []

abbrev pub put_word : ℕ → ℕ → SlotState → SlotState
put_word k w s = record { words = put 0 s.words k w; arrays = s.arrays; world = s.world }

abbrev pub put_array : ℕ → List ℕ → SlotState → SlotState
put_array k ws s = record { words = s.words; arrays = put [] s.arrays k ws; world = s.world }

-- all that a slot has
abbrev pub Content : Type 0
Content = ℕ × List ℕ

abbrev pub cell : SlotState → ℕ → Content
cell s k = (word s k, array s k)

pub word_other : (s : SlotState) (k j w : ℕ) → (k ≡ j → ⊥) → cell (put_word k w s) j ≡ cell s j
word_other s k j w h = ap (λ (z : ℕ). let c : Content = (z, array s j) in c) (item_put_other 0 s.words k j w h)

pub array_other : (s : SlotState) (k j : ℕ) (ws : List ℕ) → (k ≡ j → ⊥) → cell (put_array k ws s) j ≡ cell s j
array_other s k j ws h = ap (λ (z : List ℕ). let c : Content = (word s j, z) in c) (item_put_other [] s.arrays k j ws h)

-- two states have the same below slot n
abbrev pub Same : ℕ → SlotState → SlotState → Type 0
Same n s s' = (k : ℕ) → k < n → cell s' k ≡ cell s k

pub word_same : (s s' : SlotState) (k : ℕ) → cell s' k ≡ cell s k → word s' k ≡ word s k
word_same s s' k e = ap (λ (z : Content). z.0) e

abbrev pub slot_of : Spot → ℕ
slot_of (Binding k) = k
slot_of (Variable k) = k
slot_of (Array k) = k

abbrev pub fixed : Spot → Bool
fixed (Binding k) = true
fixed (Variable k) = false
fixed (Array k) = false

abbrev pub shown : SlotState → Spot → Held
shown s (Binding k) = Bound (word s k)
shown s (Variable k) = Cell (word s k)
shown s (Array k) = Elements (array s k)

shown_same : (p : Spot) (s s' : SlotState) → cell s' (slot_of p) ≡ cell s (slot_of p) → shown s' p ≡ shown s p
shown_same (Binding k) s s' e = ap (λ (z : Content). Bound z.0) e
shown_same (Variable k) s s' e = ap (λ (z : Content). Cell z.0) e
shown_same (Array k) s s' e = ap (λ (z : Content). Elements z.1) e

-- a slot is not that of another name, unless both are bindings
abbrev pub Apart : Spot → Named Spot → Type 0
Apart p [] = Unit {0}
Apart p (e ∷ es) = ((fixed p && fixed e.1) ≡ false → slot_of p ≡ slot_of e.1 → ⊥) × Apart p es

-- the slots of the names in sight are below n, and no variable or array shares its slot
abbrev pub Good : Named Spot → ℕ → Type 0
Good [] n = Unit {0}
Good (e ∷ es) n = (slot_of e.1 < n) × Apart e.1 es × Good es n

-- the names in sight with what they stand for
abbrev pub held : SlotState → Named Spot → Named Held
held s [] = []
held s (e ∷ es) = (e.0, shown s e.1) ∷ held s es

pub good_more : (names : Named Spot) (n n' : ℕ) → Good names n → n ≤ n' → Good names n'
good_more [] n n' g le = tt
good_more (e ∷ es) n n' g le = let below = g.0 in (omega arith, g.1, good_more es n n' g.2 le)

-- a new name has a slot above all earlier ones
pub apart_push : (x : List ℕ) (q p : Spot) (names : Named Spot) → Apart q names → slot_of q < slot_of p → Apart q (names ++ (x, p) ∷ [])
apart_push x q p [] a lt = (λ v is. omega arith, tt)
apart_push x q p (e ∷ es) a lt = (a.0, apart_push x q p es a.1 lt)

pub good_push : (x : List ℕ) (p : Spot) (names : Named Spot) (n n' : ℕ) → Good names n → n ≤ slot_of p → slot_of p < n' → Good (names ++ (x, p) ∷ []) n'
good_push x p [] n n' g le lt = (lt, tt, tt)
good_push x p (e ∷ es) n n' g le lt = let below = g.0 in (omega arith, apart_push x e.1 p es g.1 (omega arith), good_push x p es n n' g.2 le lt)

pub held_append : (s : SlotState) (xs ys : Named Spot) → held s (xs ++ ys) ≡ held s xs ++ held s ys
held_append s [] ys = refl
held_append s (x ∷ xs) ys = rw (held_append s xs ys) refl

pub held_same : (names : Named Spot) (n : ℕ) (s s' : SlotState) → Good names n → Same n s s' → held s' names ≡ held s names
held_same [] n s s' g h = refl
held_same (e ∷ es) n s s' g h = rw (held_same es n s s' g.2 h, shown_same e.1 s s' (h (slot_of e.1) g.0)) refl

abbrev pub shown_one : SlotState → Option Spot → Option Held
shown_one s None = None
shown_one s (Some p) = Some (shown s p)

pub at_held : (names : Named Spot) (s : SlotState) (x : List ℕ) → at_name (held s names) x ≡ shown_one s (at_name names x)
at_held [] s x = refl
at_held (e ∷ es) s x =
    elim (bytes_eq e.0 x) as (λ b. (if b then Some (shown s e.1) else at_name (held s es) x) ≡ shown_one s (if b then Some e.1 else at_name es x)) [
      | true ↦ refl
      | false ↦ at_held es s x
    ]

abbrev from_some : {A : Type 0} → A → Option A → A
from_some d None = d
from_some d (Some a) = a

pub some_is : {A : Type 0} (a b : A) → Some a ≡ Some b → a ≡ b
some_is a b e = ap (from_some b) e

pub none_is : {A : Type 0} (a : A) → None ≡ Some a → ⊥
none_is a e = cc

pub at_below : (names : Named Spot) (n : ℕ) (x : List ℕ) (p : Spot) → Good names n → at_name names x ≡ Some p → slot_of p < n
at_below [] n x p g e = absurd (none_is p e)
at_below (q ∷ qs) n x p g e =
    (elim (bytes_eq q.0 x) as (λ b. (if b then Some q.1 else at_name qs x) ≡ Some p → slot_of p < n) [
      | true ↦ λ e. rw (← some_is q.1 p e) g.0
      | false ↦ λ e. at_below qs n x p g.2 e
    ]) e

and_false : (b : Bool) → (b && false) ≡ false
and_false true = refl
and_false false = refl

-- a variable or an array is apart from each other name
pub apart_found : (q : Spot) (names : Named Spot) (x : List ℕ) (p : Spot) → Apart q names → at_name names x ≡ Some p → fixed p ≡ false → slot_of q ≡ slot_of p → ⊥
apart_found q [] x p a e v is = none_is p e
apart_found q (r ∷ rs) x p a e v is =
    (elim (bytes_eq r.0 x) as (λ b. (if b then Some r.1 else at_name rs x) ≡ Some p → ⊥) [
      | true ↦ λ e. let same = some_is r.1 p e in a.0 (rw (same, v) (and_false (fixed q))) (is ∙ ap slot_of (sym same))
      | false ↦ λ e. apart_found q rs x p a.1 e v is
    ]) e

-- where only the slot of a name changes, only what the name stands for changes
held_apart : (names : Named Spot) (s s' : SlotState) (p : Spot) → fixed p ≡ false → Apart p names → ((k : ℕ) → (slot_of p ≡ k → ⊥) → cell s' k ≡ cell s k) → held s' names ≡ held s names
held_apart [] s s' p v a h = refl
held_apart (e ∷ es) s s' p v a h = rw (held_apart es s s' p v a.1 h, shown_same e.1 s s' (h (slot_of e.1) (a.0 (rw v refl)))) refl

pub changed_held : (names : Named Spot) (n : ℕ) (s s' : SlotState) (x : List ℕ) (p : Spot) (f : Held → Held) → Good names n → at_name names x ≡ Some p → fixed p ≡ false
    → ((k : ℕ) → (slot_of p ≡ k → ⊥) → cell s' k ≡ cell s k) → shown s' p ≡ f (shown s p) → held s' names ≡ changed f x (held s names)
changed_held [] n s s' x p f g e v h is = absurd (none_is p e)
changed_held (q ∷ qs) n s s' x p f g e v h is =
    (elim (bytes_eq q.0 x) as (λ b. (if b then Some q.1 else at_name qs x) ≡ Some p → held s' (q ∷ qs) ≡ (if b then (q.0, f (shown s q.1)) ∷ held s qs else (q.0, shown s q.1) ∷ changed f x (held s qs))) [
      | true ↦ λ e. here q.1 (some_is q.1 p e) g.1
      | false ↦ λ e. rw (changed_held qs n s s' x p f g.2 e v h is, shown_same q.1 s s' (h (slot_of q.1) (λ eq. apart_found q.1 qs x p g.1 e v (sym eq)))) refl
    ]) e
  where
    here : (r : Spot) → r ≡ p → Apart r qs → ◌≡◌ {A = Named Held} ((q.0, shown s' r) ∷ held s' qs) ((q.0, f (shown s r)) ∷ held s qs)
    here r eq a = rw (eq, is, held_apart qs s s' p v (subst (λ z. Apart z qs) eq a) h) refl

-- where f leaves what the name stands for, it leaves all
abbrev pub Still : (Held → Held) → SlotState → Option Spot → Type 0
Still f s None = Unit {0}
Still f s (Some p) = f (shown s p) ≡ shown s p

pub unchanged_held : (names : Named Spot) (s : SlotState) (x : List ℕ) (f : Held → Held) → Still f s (at_name names x) → changed f x (held s names) ≡ held s names
unchanged_held [] s x f h = refl
unchanged_held (q ∷ qs) s x f h =
    (elim (bytes_eq q.0 x) as (λ b. Still f s (if b then Some q.1 else at_name qs x) → (if b then (q.0, f (shown s q.1)) ∷ held s qs else (q.0, shown s q.1) ∷ changed f x (held s qs)) ≡ (q.0, shown s q.1) ∷ held s qs) [
      | true ↦ λ h. rw h refl
      | false ↦ λ h. rw (unchanged_held qs s x f h) refl
    ]) h
