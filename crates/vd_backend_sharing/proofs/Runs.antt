-- What running the gadgets of two hosts leaves: the words that their deeds say, in fresh registers.
use Rattle.std.proofs.Common.{◌≡◌, ◌≢◌, ℕ, zero, suc, ◌+◌, ◌<◌, ◌≤◌, Bool, true, false, nat_eq, nat_lt, ◌&&◌, List, [], ◌∷◌, ◌++◌, length, refl, sym, ap, ap₂, subst, subst₂, ◌∙◌, arith, rules, length-append, append_assoc}
use Rattle.std.specs.Prelude.{slice_index}
use native.Mathlib.Decide.{ℕ_discrete}
use Rattle.vd_base.specs.declared.ids.HostId.{HostId}
use Rattle.vd_base.specs.declared.operations.Op.TheVariants as op
use Rattle.vd_base.specs.Operations.{operation}
use Rattle.vd_execution.specs.declared.instructions.Reg.{Reg}
use Rattle.vd_execution.specs.declared.instructions.Action.{Action}
use Rattle.vd_execution.specs.declared.instructions.Action.TheVariants as action
use Rattle.vd_execution.specs.Registers.{put, applied, nth}
use Rattle.vd_execution.specs.Step.{Source, Inputs, OwnWords, Triples, BitTriples, Pairs, same_source}
use Rattle.vd_execution.specs.Joint.{Host, Hosts, acted, after_do, after_msg}
use Rattle.vd_execution.specs.Acts.{run_acts, ActsAgree}
use Rattle.vd_execution.specs.World.{Tape}
use Rattle.vd_execution.specs.Gadgets.{Sharing, BySums, ByXors, source_of, take, hide, masking, acts_of_gadget, acts_of_gadgets}
use Rattle.vd_execution.proofs.Front.{one_more, Takes, put_takes}
use Rattle.vd_duet.proofs.Front.{run_append, agree_append}
use Rattle.vd_backend_sharing.proofs.Adds.{Adds, longer, adds_on, kept_by_all, do_adds_one, do_adds_two, do_adds_three, msg_cursors, tell_one, tell_two}
use Rattle.vd_backend_sharing.proofs.Deeds.{Side, First, Second, other, Place, Old, New, Pair, fresh_register, nth_register, register_at, Deed, Number, Copied, Applied, ShiftedLeft, ShiftedRight, GivenAway, BothGive, Opened, Multiplied, Drawn, next_register, masking_of, gadget_of, one_at, further, gadgets_of, count_all, is_known, deed_is_known, all_known, Left, words_of, with_words, bumped, own_word, item_word, pair_word, value, masked_word, masked_words, item_words, after, after_all}

-- ---- tests

pub both_first : (a b : Bool) → (a && b) ≡ true → a ≡ true
both_first true b e = refl
both_first false b e = cc

pub both_second : (a b : Bool) → (a && b) ≡ true → b ≡ true
both_second true b e = e
both_second false b e = cc

pub low_of : (a b : ℕ) → nat_lt a b ≡ true → a < b
low_of a b e = grind (arith, rules)

same_number : (a : ℕ) → nat_eq a a ≡ true
same_number a = grind (arith, rules)

other_number : (a b : ℕ) → a ≢ b → nat_eq a b ≡ false
other_number a b d = grind (arith, rules)

pub fresh_is : (n i : ℕ) → (fresh_register n i).0 ≡ n + i
fresh_is n zero = omega arith
fresh_is n (suc i) = refl

-- ---- cursors

abbrev SameCursors : Hosts → Hosts → Type 0
SameCursors u v = (k : ℕ) (s : Source) → (v k).cursors s ≡ (u k).cursors s

-- an action that takes no item
do_same : (t : Tape) (h : ℕ) (a : Action) (u : Hosts) → ((s : Source) → (acted (t h) a (u h)).cursors s ≡ (u h).cursors s) → SameCursors u (after_do t h a u)
do_same t h a u e k s = kept_by_all u h (acted (t h) a (u h)) k (λ (x : Host). x.cursors s) (e s)

same_on : (u v z : Hosts) → SameCursors u v → SameCursors v z → SameCursors u z
same_on u v z a b k s = b k s ∙ a k s

-- a host took an item of a list
module _ (h : ℕ) (from : Source) (u v : Hosts) (took : Takes h from u v) where
  took_here : (s : Source) → same_source s from ≡ true → (v h).cursors s ≡ suc ((u h).cursors s)
  took_here s e = took h s ∙ ap₂ (λ (a b : Bool). one_more (a && b) ((u h).cursors s)) (same_number h) e

  took_elsewhere : (k : ℕ) (s : Source) → k ≢ h → (v k).cursors s ≡ (u k).cursors s
  took_elsewhere k s d = took k s ∙ ap (λ (a : Bool). one_more (a && same_source s from) ((u k).cursors s)) (other_number k h d)

  took_another : (k : ℕ) (s : Source) → same_source s from ≡ false → (v k).cursors s ≡ (u k).cursors s
  took_another k s e = took k s ∙ ap (λ (b : Bool). one_more (nat_eq k h && b) ((u k).cursors s)) e ∙ none (nat_eq k h) ((u k).cursors s)
    where
      none : (a : Bool) (n : ℕ) → one_more (a && false) n ≡ n
      none true n = refl
      none false n = refl

own_is_no_item : (sharing : Sharing) (q : ℕ) → same_source OwnWords (source_of sharing q) ≡ false
own_is_no_item BySums q = refl
own_is_no_item ByXors q = refl

item_is_no_own : (sharing : Sharing) (q : ℕ) → same_source (source_of sharing q) OwnWords ≡ false
item_is_no_own BySums q = refl
item_is_no_own ByXors q = refl

pair_is_no_item : (sharing : Sharing) (q r : ℕ) → same_source (Pairs r) (source_of sharing q) ≡ false
pair_is_no_item BySums q r = refl
pair_is_no_item ByXors q r = refl

item_is_no_pair : (sharing : Sharing) (q r : ℕ) → same_source (source_of sharing r) (Pairs q) ≡ false
item_is_no_pair BySums q r = refl
item_is_no_pair ByXors q r = refl

took_item : (t : Tape) (h : ℕ) (sharing : Sharing) (peer : HostId) (a b c : Reg) (u : Hosts)
    → Takes h (source_of sharing peer.0) u (after_do t h (take sharing peer a b c) u)
took_item t h BySums peer a b c u = put_takes u h (acted (t h) (action.Triple peer a b c) (u h)) (Triples peer.0) (λ s. refl)
took_item t h ByXors peer a b c u = put_takes u h (acted (t h) (action.Bits peer a b c) (u h)) (BitTriples peer.0) (λ s. refl)

-- an item's words
item_adds : (t : Tape) (h : ℕ) (sharing : Sharing) (peer : HostId) (a b c : Reg) (u : Hosts) → b.0 ≡ a.0 + 1 → c.0 ≡ a.0 + 2
    → let xs : List ℕ = t h (source_of sharing peer.0) ((u h).cursors (source_of sharing peer.0)) in
    Adds h a.0 (nth xs 0 ∷ nth xs 1 ∷ nth xs 2 ∷ []) u (after_do t h (take sharing peer a b c) u)
item_adds t h BySums peer a b c u e f =
    let xs : List ℕ = t h (Triples peer.0) ((u h).cursors (Triples peer.0)) in
    do_adds_three t h (action.Triple peer a b c) a.0 b.0 c.0 (nth xs 0) (nth xs 1) (nth xs 2) u e f refl refl refl
item_adds t h ByXors peer a b c u e f =
    let xs : List ℕ = t h (BitTriples peer.0) ((u h).cursors (BitTriples peer.0)) in
    do_adds_three t h (action.Bits peer a b c) a.0 b.0 c.0 (nth xs 0) (nth xs 1) (nth xs 2) u e f refl refl refl

-- ---- two hosts

module _ (t : Tape) (p : Pair) (w : Hosts) (next : List ℕ) (apart : (p.host First).0 ≢ (p.host Second).0)
    (marks : (s : Side) → p.mark s ≡ slice_index next (p.host s).0) (low : (s : Side) (j : ℕ) → j < length (p.operands s) → (nth_register (p.operands s) j).0 < p.mark s) where
  abbrev pub at : Side → ℕ
  at s = (p.host s).0

  pub others_differ : (s : Side) → at s ≢ at (other s)
  others_differ First = apart
  others_differ Second = λ e. apart (sym e)

  -- the fresh registers hold these words, and all else that a call keeps is as it was
  pub record Stands (xs ys : List ℕ) (u : Hosts) : Type 0 where
    pub first : (i : ℕ) → i < length xs → (u (at First)).registers (p.mark First + i) ≡ nth xs i
    pub second : (i : ℕ) → i < length ys → (u (at Second)).registers (p.mark Second + i) ≡ nth ys i
    pub kept : (h r : ℕ) → r < slice_index next h → (u h).registers r ≡ (w h).registers r
    pub printed : (h : ℕ) → (u h).printed ≡ (w h).printed
    pub inputs : (h : ℕ) → (u h).cursors Inputs ≡ (w h).cursors Inputs

  -- the cursors stand as many items further
  pub record Taken (m : Left) (u : Hosts) : Type 0 where
    pub owns : (s : Side) → (u (at s)).cursors OwnWords ≡ (w (at s)).cursors OwnWords + m.owns s
    pub items : (sharing : Sharing) (s : Side)
        → (u (at s)).cursors (source_of sharing (at (other s))) ≡ (w (at First)).cursors (source_of sharing (at Second)) + m.items sharing
    pub pairs : (s : Side) → (u (at s)).cursors (Pairs (at (other s))) ≡ (w (at First)).cursors (Pairs (at Second)) + m.pairs

  still_kept : (s : Side) (from : ℕ) (ws : List ℕ) (u u' : Hosts) → p.mark s ≤ from → Adds (at s) from ws u u'
      → ((h r : ℕ) → r < slice_index next h → (u h).registers r ≡ (w h).registers r) → (h r : ℕ) → r < slice_index next h → (u' h).registers r ≡ (w h).registers r
  still_kept s from ws u u' far a kept h r below =
      elim (ℕ_discrete h (at s)) [
        | yes e ↦ let P : ℕ → Type 0 = λ z. (u' z).registers r ≡ (u z).registers r in
            let here : r < slice_index next (at s) = subst (λ z. r < slice_index next z) e below in
            let mark = marks s in
            subst P (sym e) (a.below r (omega (arith, here, far, mark))) ∙ kept h r below
        | no d ↦ a.others h r d ∙ kept h r below
      ]

  first_added : (xs ys ws : List ℕ) (u u' : Hosts) → Stands xs ys u → Adds (at First) (p.mark First + length xs) ws u u' → Stands (xs ++ ws) ys u'
  first_added xs ys ws u u' s a = record {
    first = longer (p.mark First) xs ws (u (at First)).registers (u' (at First)).registers s.first a.below a.there;
    second = λ i few. a.others (at Second) (p.mark Second + i) (λ e. apart (sym e)) ∙ s.second i few;
    kept = still_kept First (p.mark First + length xs) ws u u' (omega arith) a s.kept;
    printed = λ h. a.printed h ∙ s.printed h;
    inputs = λ h. a.inputs h ∙ s.inputs h;
  }

  second_added : (xs ys ws : List ℕ) (u u' : Hosts) → Stands xs ys u → Adds (at Second) (p.mark Second + length ys) ws u u' → Stands xs (ys ++ ws) u'
  second_added xs ys ws u u' s a = record {
    first = λ i few. a.others (at First) (p.mark First + i) apart ∙ s.first i few;
    second = longer (p.mark Second) ys ws (u (at Second)).registers (u' (at Second)).registers s.second a.below a.there;
    kept = still_kept Second (p.mark Second + length ys) ws u u' (omega arith) a s.kept;
    printed = λ h. a.printed h ∙ s.printed h;
    inputs = λ h. a.inputs h ∙ s.inputs h;
  }

  abbrev pub StandsBy : Left → Hosts → Type 0
  StandsBy m u = Stands m.first m.second u

  added : (s : Side) (m : Left) (ws : List ℕ) (from : ℕ) (u u' : Hosts) → StandsBy m u → from ≡ p.mark s + length (words_of m s) → Adds (at s) from ws u u'
      → StandsBy (with_words m s ws) u'
  added First m ws from u u' s e a = first_added m.first m.second ws u u' s (subst (λ z. Adds (at First) z ws u u') e a)
  added Second m ws from u u' s e a = second_added m.first m.second ws u u' s (subst (λ z. Adds (at Second) z ws u u') e a)

  -- ---- operands

  pub place_low : (c : Side → ℕ) (s : Side) (x : Place) → is_known p c s x ≡ true → (register_at p s x).0 < p.mark s + c s
  place_low c s (Old j) known = let a = low s j (low_of j (length (p.operands s)) known) in omega (arith, a)
  place_low c s (New i) known = let a = low_of i (c s) known in let b = fresh_is (p.mark s) i in omega (arith, a, b)

  words_here : (m : Left) (u : Hosts) → StandsBy m u → (s : Side) (i : ℕ) → i < length (words_of m s) → (u (at s)).registers (p.mark s + i) ≡ nth (words_of m s) i
  words_here m u stands First i few = stands.first i few
  words_here m u stands Second i few = stands.second i few

  pub value_here : (c : Side → ℕ) (m : Left) (u : Hosts) → ((s : Side) → c s ≡ length (words_of m s)) → StandsBy m u → (s : Side) (x : Place) → is_known p c s x ≡ true
      → (u (at s)).registers (register_at p s x).0 ≡ value t p w m s x
  value_here c m u counts stands s (Old j) known =
      stands.kept (at s) (nth_register (p.operands s) j).0 (let a = low s j (low_of j (length (p.operands s)) known) in let mark = marks s in omega (arith, a, mark))
  value_here c m u counts stands s (New i) known =
      ap (u (at s)).registers (fresh_is (p.mark s) i)
      ∙ words_here m u stands s i (let a = low_of i (c s) known in let b = counts s in omega (arith, a, b))

  next_is : (c : Side → ℕ) (m : Left) → ((s : Side) → c s ≡ length (words_of m s)) → (s : Side) (i : ℕ) → (next_register p c s i).0 ≡ p.mark s + length (words_of m s) + i
  next_is c m counts s i = let a = fresh_is (p.mark s) (c s + i) in let b = counts s in omega (arith, a, b)

  next_first : (c : Side → ℕ) (m : Left) → ((s : Side) → c s ≡ length (words_of m s)) → (s : Side) → (next_register p c s 0).0 ≡ p.mark s + length (words_of m s)
  next_first c m counts s = let a = next_is c m counts s 0 in omega (arith, a)

  -- ---- deeds

  pub record Reaches (m : Left) (u : Hosts) : Type 0 where
    pub stands : StandsBy m u
    pub taken : Taken m u

  abbrev pub Counted : (Side → ℕ) → Left → Type 0
  Counted c m = (s : Side) → c s ≡ length (words_of m s)

  still_taken : (m : Left) (s : Side) (ws : List ℕ) (u v : Hosts) → SameCursors u v → Taken m u → Taken (with_words m s ws) v
  still_taken m First ws u v same k = record {
    owns = λ r. same (at r) OwnWords ∙ k.owns r;
    items = λ g r. same (at r) (source_of g (at (other r))) ∙ k.items g r;
    pairs = λ r. same (at r) (Pairs (at (other r))) ∙ k.pairs r;
  }
  still_taken m Second ws u v same k = record {
    owns = λ r. same (at r) OwnWords ∙ k.owns r;
    items = λ g r. same (at r) (source_of g (at (other r))) ∙ k.items g r;
    pairs = λ r. same (at r) (Pairs (at (other r))) ∙ k.pairs r;
  }

  -- an action that writes the next register
  one_word : (c : Side → ℕ) (m : Left) (u : Hosts) → Counted c m → Reaches m u → (s : Side) (a : Action) (v : ℕ)
      → (acted (t (at s)) a (u (at s))).registers ≡ put (u (at s)).registers (next_register p c s 0).0 v
      → (acted (t (at s)) a (u (at s))).printed ≡ (u (at s)).printed
      → ((from : Source) → (acted (t (at s)) a (u (at s))).cursors from ≡ (u (at s)).cursors from)
      → Reaches (with_words m s (v ∷ [])) (after_do t (at s) a u)
  one_word c m u counts r s a v is printed same = record {
    stands = added s m (v ∷ []) (next_register p c s 0).0 u (after_do t (at s) a u) r.stands (next_first c m counts s)
        (do_adds_one t (at s) a (next_register p c s 0).0 v u is printed (same Inputs));
    taken = still_taken m s (v ∷ []) u (after_do t (at s) a u) (do_same t (at s) a u same) r.taken;
  }

  -- a host hears a part
  one_opened : (c : Side → ℕ) (m : Left) (u : Hosts) → Counted c m → Reaches m u → (s : Side) (x : Reg) (v : ℕ) → (u (at s)).registers x.0 ≡ v
      → Reaches (with_words m (other s) (v ∷ [])) (after_msg (at s) (x ∷ []) (at (other s)) (next_register p c (other s) 0 ∷ []) u)
  one_opened c m u counts r s x v is =
      let y : Reg = next_register p c (other s) 0 in
      let u' : Hosts = after_msg (at s) (x ∷ []) (at (other s)) (next_register p c (other s) 0 ∷ []) u in
      record {
        stands = added (other s) m (v ∷ []) y.0 u u' r.stands (next_first c m counts (other s))
            (subst (λ z. Adds (at (other s)) (next_register p c (other s) 0).0 (z ∷ []) u (after_msg (at s) (x ∷ []) (at (other s)) (next_register p c (other s) 0 ∷ []) u)) is
            (tell_one (at s) x (at (other s)) (next_register p c (other s) 0) u (others_differ s)));
        taken = still_taken m (other s) (v ∷ []) u u' (msg_cursors (at s) (x ∷ []) (at (other s)) (next_register p c (other s) 0 ∷ []) u (others_differ s)) r.taken;
      }

  -- an own word is taken, which changes no list of items
  own_taken : (m : Left) (s : Side) (ws vs : List ℕ) (u v : Hosts) → Takes (at s) OwnWords u v → Taken m u
      → Taken (record (with_words (with_words m s ws) (other s) vs) { owns = λ r. m.owns r + one_at s r }) v
  own_taken m First ws vs u v took k = record {
    owns = λ r. owns r;
    items = λ g r. took_another (at First) OwnWords u v took (at r) (source_of g (at (other r))) (item_is_no_own g (at (other r))) ∙ k.items g r;
    pairs = λ r. took_another (at First) OwnWords u v took (at r) (Pairs (at (other r))) refl ∙ k.pairs r;
  }
    where
      owns : (r : Side) → (v (at r)).cursors OwnWords ≡ (w (at r)).cursors OwnWords + (m.owns r + one_at First r)
      owns First = took_here (at First) OwnWords u v took OwnWords refl ∙ (let a = k.owns First in omega (arith, a))
      owns Second = took_elsewhere (at First) OwnWords u v took (at Second) OwnWords (λ e. apart (sym e)) ∙ (let a = k.owns Second in omega (arith, a))
  own_taken m Second ws vs u v took k = record {
    owns = λ r. owns r;
    items = λ g r. took_another (at Second) OwnWords u v took (at r) (source_of g (at (other r))) (item_is_no_own g (at (other r))) ∙ k.items g r;
    pairs = λ r. took_another (at Second) OwnWords u v took (at r) (Pairs (at (other r))) refl ∙ k.pairs r;
  }
    where
      owns : (r : Side) → (v (at r)).cursors OwnWords ≡ (w (at r)).cursors OwnWords + (m.owns r + one_at Second r)
      owns First = took_elsewhere (at Second) OwnWords u v took (at First) OwnWords apart ∙ (let a = k.owns First in omega (arith, a))
      owns Second = took_here (at Second) OwnWords u v took OwnWords refl ∙ (let a = k.owns Second in omega (arith, a))

  other_words : (m : Left) (s : Side) (ws : List ℕ) → words_of (with_words m s ws) (other s) ≡ words_of m (other s)
  other_words m First ws = refl
  other_words m Second ws = refl

  given_away : (c : Side → ℕ) (m : Left) (u : Hosts) → Counted c m → Reaches m u → (s : Side)
      → Reaches (after t p w m (GivenAway s)) (run_acts t (acts_of_gadget (gadget_of p c (GivenAway s))) u)
  given_away c m u counts r s =
      let x : Reg = next_register p c s 0 in
      let y : Reg = next_register p c (other s) 0 in
      let v : ℕ = own_word t p w m s in
      let u1 : Hosts = after_do t (at s) (action.Own (next_register p c s 0)) u in
      let one : Adds (at s) (next_register p c s 0).0 (own_word t p w m s ∷ []) u u1 =
      do_adds_one t (at s) (action.Own (next_register p c s 0)) (next_register p c s 0).0 (own_word t p w m s) u
      (ap (λ n. put (u (at s)).registers (next_register p c s 0).0 (nth (t (at s) OwnWords n) 0)) (r.taken.owns s)) refl refl in
      let said : (u1 (at s)).registers x.0 ≡ v = ap (u1 (at s)).registers (omega arith) ∙ one.there 0 (omega arith) in
      let s1 : StandsBy (with_words m s (own_word t p w m s ∷ [])) u1 = added s m (own_word t p w m s ∷ []) x.0 u u1 r.stands (next_first c m counts s) one in
      let u2 : Hosts = after_msg (at s) (next_register p c s 0 ∷ []) (at (other s)) (next_register p c (other s) 0 ∷ []) u1 in
      record {
        stands = added (other s) (with_words m s (own_word t p w m s ∷ [])) (own_word t p w m s ∷ []) y.0 u1 u2 s1
            (next_first c m counts (other s) ∙ ap (λ (l : List ℕ). p.mark (other s) + length l) (sym (other_words m s (own_word t p w m s ∷ []))))
            (subst (λ z. Adds (at (other s)) (next_register p c (other s) 0).0 (z ∷ []) u1 u2) said (tell_one (at s) x (at (other s)) y u1 (others_differ s)));
        taken = own_taken m s (own_word t p w m s ∷ []) (own_word t p w m s ∷ []) u u2
            (λ k from. msg_cursors (at s) (x ∷ []) (at (other s)) (y ∷ []) u1 (others_differ s) k from
            ∙ put_takes u (at s) (acted (t (at s)) (action.Own (next_register p c s 0)) (u (at s))) OwnWords (λ z. refl) k from) r.taken;
      }

  -- ---- both take something

  first_more : (m : Left) (v z : ℕ) → (m.first ++ v ∷ []) ++ z ∷ [] ≡ m.first ++ (v ∷ z ∷ [])
  first_more m v z = append_assoc m.first (v ∷ []) (z ∷ [])

  second_more : (m : Left) (v z : ℕ) → (m.second ++ v ∷ []) ++ z ∷ [] ≡ m.second ++ (v ∷ z ∷ [])
  second_more m v z = append_assoc m.second (v ∷ []) (z ∷ [])

  both_given : (c : Side → ℕ) (m : Left) (u : Hosts) → Counted c m → Reaches m u
      → Reaches (after t p w m BothGive) (run_acts t (acts_of_gadget (gadget_of p c BothGive)) u)
  both_given c m u counts r =
      let back : at Second ≢ at First = λ e. apart (sym e) in
      let x : Reg = next_register p c First 0 in
      let y : Reg = next_register p c Second 0 in
      let h : Reg = next_register p c First 1 in
      let k : Reg = next_register p c Second 1 in
      let v : ℕ = own_word t p w m First in
      let z : ℕ = own_word t p w m Second in
      let x_is : (next_register p c First 0).0 ≡ p.mark First + length m.first = next_first c m counts First in
      let y_is : (next_register p c Second 0).0 ≡ p.mark Second + length m.second = next_first c m counts Second in
      let h_is : (next_register p c First 1).0 ≡ p.mark First + length m.first + 1 = next_is c m counts First 1 in
      let k_is : (next_register p c Second 1).0 ≡ p.mark Second + length m.second + 1 = next_is c m counts Second 1 in
      let u1 : Hosts = after_do t (at First) (action.Own (next_register p c First 0)) u in
      let took1 : Takes (at First) OwnWords u u1 = put_takes u (at First) (acted (t (at First)) (action.Own (next_register p c First 0)) (u (at First))) OwnWords (λ i. refl) in
      let a1 : Adds (at First) (next_register p c First 0).0 (own_word t p w m First ∷ []) u u1 =
      do_adds_one t (at First) (action.Own x) (next_register p c First 0).0 (own_word t p w m First) u
      (ap (λ n. put (u (at First)).registers (next_register p c First 0).0 (nth (t (at First) OwnWords n) 0)) (r.taken.owns First)) refl refl in
      let u2 : Hosts = after_do t (at Second) (action.Own (next_register p c Second 0)) u1 in
      let took2 : Takes (at Second) OwnWords u1 u2 = put_takes u1 (at Second) (acted (t (at Second)) (action.Own (next_register p c Second 0)) (u1 (at Second))) OwnWords (λ i. refl) in
      let a2 : Adds (at Second) (next_register p c Second 0).0 (own_word t p w m Second ∷ []) u1 u2 =
      do_adds_one t (at Second) (action.Own y) (next_register p c Second 0).0 (own_word t p w m Second) u1
      (ap (λ n. put (u1 (at Second)).registers (next_register p c Second 0).0 (nth (t (at Second) OwnWords n) 0))
      (took_elsewhere (at First) OwnWords u u1 took1 (at Second) OwnWords back ∙ r.taken.owns Second)) refl refl in
      let x_there : (u2 (at First)).registers (next_register p c First 0).0 ≡ own_word t p w m First =
      a2.others (at First) (next_register p c First 0).0 apart ∙ ap (u1 (at First)).registers (omega arith) ∙ a1.there 0 (omega arith) in
      let y_there : (u2 (at Second)).registers (next_register p c Second 0).0 ≡ own_word t p w m Second = ap (u2 (at Second)).registers (omega arith) ∙ a2.there 0 (omega arith) in
      let u3 : Hosts = after_msg (at First) (next_register p c First 0 ∷ []) (at Second) (next_register p c Second 1 ∷ []) u2 in
      let a3 : Adds (at Second) (next_register p c Second 1).0 (own_word t p w m First ∷ []) u2 u3 =
      subst (λ i. Adds (at Second) (next_register p c Second 1).0 (i ∷ []) u2 u3) x_there (tell_one (at First) x (at Second) k u2 apart) in
      let u4 : Hosts = after_msg (at Second) (next_register p c Second 0 ∷ []) (at First) (next_register p c First 1 ∷ []) u3 in
      let a4 : Adds (at First) (next_register p c First 1).0 (own_word t p w m Second ∷ []) u3 u4 =
      subst (λ i. Adds (at First) (next_register p c First 1).0 (i ∷ []) u3 u4) (a3.below (next_register p c Second 0).0 (omega (arith, y_is, k_is)) ∙ y_there)
      (tell_one (at Second) y (at First) h u3 back) in
      let s1 : Stands (m.first ++ own_word t p w m First ∷ []) m.second u1 =
      first_added m.first m.second (own_word t p w m First ∷ []) u u1 r.stands (subst (λ i. Adds (at First) i (own_word t p w m First ∷ []) u u1) x_is a1) in
      let s2 : Stands (m.first ++ own_word t p w m First ∷ []) (m.second ++ own_word t p w m Second ∷ []) u2 =
      second_added (m.first ++ own_word t p w m First ∷ []) m.second (own_word t p w m Second ∷ []) u1 u2 s1
      (subst (λ i. Adds (at Second) i (own_word t p w m Second ∷ []) u1 u2) y_is a2) in
      let first_long : length (m.first ++ own_word t p w m First ∷ []) ≡ length m.first + 1 = length-append m.first (v ∷ []) in
      let second_long : length (m.second ++ own_word t p w m Second ∷ []) ≡ length m.second + 1 = length-append m.second (z ∷ []) in
      let s3 = second_added (m.first ++ own_word t p w m First ∷ []) (m.second ++ own_word t p w m Second ∷ []) (own_word t p w m First ∷ []) u2 u3 s2
      (subst (λ i. Adds (at Second) i (own_word t p w m First ∷ []) u2 u3) (omega (arith, k_is, second_long)) a3) in
      let s4 = first_added (m.first ++ own_word t p w m First ∷ []) ((m.second ++ own_word t p w m Second ∷ []) ++ own_word t p w m First ∷ []) (own_word t p w m Second ∷ []) u3 u4 s3
      (subst (λ i. Adds (at First) i (own_word t p w m Second ∷ []) u3 u4) (omega (arith, h_is, first_long)) a4) in
      let still : SameCursors u2 u4 =
      same_on u2 u3 u4 (msg_cursors (at First) (x ∷ []) (at Second) (k ∷ []) u2 apart) (msg_cursors (at Second) (y ∷ []) (at First) (h ∷ []) u3 back) in
      record {
        stands = subst₂ (λ (i j : List ℕ). Stands i j u4) (first_more m v z) (second_more m z v) s4;
        taken = record {
          owns = λ s. still (at s) OwnWords ∙ owns u1 u2 took1 took2 s;
          items = λ g s. still (at s) (source_of g (at (other s)))
              ∙ took_another (at Second) OwnWords u1 u2 took2 (at s) (source_of g (at (other s))) (item_is_no_own g (at (other s)))
              ∙ took_another (at First) OwnWords u u1 took1 (at s) (source_of g (at (other s))) (item_is_no_own g (at (other s))) ∙ r.taken.items g s;
          pairs = λ s. still (at s) (Pairs (at (other s)))
              ∙ took_another (at Second) OwnWords u1 u2 took2 (at s) (Pairs (at (other s))) refl
              ∙ took_another (at First) OwnWords u u1 took1 (at s) (Pairs (at (other s))) refl ∙ r.taken.pairs s;
        };
      }
    where
      owns : (u1 u2 : Hosts) → Takes (at First) OwnWords u u1 → Takes (at Second) OwnWords u1 u2 → (s : Side)
          → (u2 (at s)).cursors OwnWords ≡ (w (at s)).cursors OwnWords + suc (m.owns s)
      owns u1 u2 a b First =
          took_elsewhere (at Second) OwnWords u1 u2 b (at First) OwnWords apart ∙ took_here (at First) OwnWords u u1 a OwnWords refl
          ∙ (let e = r.taken.owns First in omega (arith, e))
      owns u1 u2 a b Second =
          took_here (at Second) OwnWords u1 u2 b OwnWords refl
          ∙ (let e = r.taken.owns Second in
          let f = took_elsewhere (at First) OwnWords u u1 a (at Second) OwnWords (λ e. apart (sym e)) in omega (arith, e, f))

  drawn : (c : Side → ℕ) (m : Left) (u : Hosts) → Counted c m → Reaches m u → (x x' : Place)
      → Reaches (after t p w m (Drawn x x')) (run_acts t (acts_of_gadget (gadget_of p c (Drawn x x'))) u)
  drawn c m u counts r x x' =
      let back : at Second ≢ at First = λ e. apart (sym e) in
      let s_is : (next_register p c First 0).0 ≡ p.mark First + length m.first = next_first c m counts First in
      let x_is : (next_register p c First 1).0 ≡ p.mark First + length m.first + 1 = next_is c m counts First 1 in
      let s'_is : (next_register p c Second 0).0 ≡ p.mark Second + length m.second = next_first c m counts Second in
      let x'_is : (next_register p c Second 1).0 ≡ p.mark Second + length m.second + 1 = next_is c m counts Second 1 in
      let u1 : Hosts = after_do t (at First) (action.Pair (p.host Second) (next_register p c First 0) (next_register p c First 1)) u in
      let took1 : Takes (at First) (Pairs (at Second)) u u1 =
      put_takes u (at First) (acted (t (at First)) (action.Pair (p.host Second) (next_register p c First 0) (next_register p c First 1)) (u (at First))) (Pairs (at Second)) (λ i. refl) in
      let a1 : Adds (at First) (next_register p c First 0).0 (pair_word t p w m First 0 ∷ pair_word t p w m First 1 ∷ []) u u1 =
      do_adds_two t (at First) (action.Pair (p.host Second) (next_register p c First 0) (next_register p c First 1)) (next_register p c First 0).0 (next_register p c First 1).0
      (pair_word t p w m First 0) (pair_word t p w m First 1) u (omega (arith, s_is, x_is))
      (ap (λ n. put (put (u (at First)).registers (next_register p c First 0).0 (nth (t (at First) (Pairs (at Second)) n) 0)) (next_register p c First 1).0
      (nth (t (at First) (Pairs (at Second)) n) 1)) (r.taken.pairs First)) refl refl in
      let u2 : Hosts = after_do t (at Second) (action.Pair (p.host First) (next_register p c Second 0) (next_register p c Second 1)) u1 in
      let took2 : Takes (at Second) (Pairs (at First)) u1 u2 =
      put_takes u1 (at Second) (acted (t (at Second)) (action.Pair (p.host First) (next_register p c Second 0) (next_register p c Second 1)) (u1 (at Second))) (Pairs (at First)) (λ i. refl) in
      let a2 : Adds (at Second) (next_register p c Second 0).0 (pair_word t p w m Second 0 ∷ pair_word t p w m Second 1 ∷ []) u1 u2 =
      do_adds_two t (at Second) (action.Pair (p.host First) (next_register p c Second 0) (next_register p c Second 1)) (next_register p c Second 0).0 (next_register p c Second 1).0
      (pair_word t p w m Second 0) (pair_word t p w m Second 1) u1 (omega (arith, s'_is, x'_is))
      (ap (λ n. put (put (u1 (at Second)).registers (next_register p c Second 0).0 (nth (t (at Second) (Pairs (at First)) n) 0)) (next_register p c Second 1).0
      (nth (t (at Second) (Pairs (at First)) n) 1)) (took_elsewhere (at First) (Pairs (at Second)) u u1 took1 (at Second) (Pairs (at First)) back ∙ r.taken.pairs Second)) refl refl in
      let s1 : Stands (m.first ++ (pair_word t p w m First 0 ∷ pair_word t p w m First 1 ∷ [])) m.second u1 =
      first_added m.first m.second (pair_word t p w m First 0 ∷ pair_word t p w m First 1 ∷ []) u u1 r.stands
      (subst (λ i. Adds (at First) i (pair_word t p w m First 0 ∷ pair_word t p w m First 1 ∷ []) u u1) s_is a1) in
      record {
        stands = second_added (m.first ++ (pair_word t p w m First 0 ∷ pair_word t p w m First 1 ∷ [])) m.second (pair_word t p w m Second 0 ∷ pair_word t p w m Second 1 ∷ []) u1 u2 s1
            (subst (λ i. Adds (at Second) i (pair_word t p w m Second 0 ∷ pair_word t p w m Second 1 ∷ []) u1 u2) s'_is a2);
        taken = record {
          owns = λ s. took_another (at Second) (Pairs (at First)) u1 u2 took2 (at s) OwnWords refl
              ∙ took_another (at First) (Pairs (at Second)) u u1 took1 (at s) OwnWords refl ∙ r.taken.owns s;
          items = λ g s. took_another (at Second) (Pairs (at First)) u1 u2 took2 (at s) (source_of g (at (other s))) (item_is_no_pair g (at First) (at (other s)))
              ∙ took_another (at First) (Pairs (at Second)) u u1 took1 (at s) (source_of g (at (other s))) (item_is_no_pair g (at Second) (at (other s))) ∙ r.taken.items g s;
          pairs = λ s. pairs u1 u2 took1 took2 s;
        };
      }
    where
      pairs : (u1 u2 : Hosts) → Takes (at First) (Pairs (at Second)) u u1 → Takes (at Second) (Pairs (at First)) u1 u2 → (s : Side)
          → (u2 (at s)).cursors (Pairs (at (other s))) ≡ (w (at First)).cursors (Pairs (at Second)) + suc m.pairs
      pairs u1 u2 a b First =
          took_elsewhere (at Second) (Pairs (at First)) u1 u2 b (at First) (Pairs (at Second)) apart
          ∙ took_here (at First) (Pairs (at Second)) u u1 a (Pairs (at Second)) (same_number (at Second)) ∙ (let e = r.taken.pairs First in omega (arith, e))
      pairs u1 u2 a b Second =
          took_here (at Second) (Pairs (at First)) u1 u2 b (Pairs (at First)) (same_number (at First))
          ∙ (let e = r.taken.pairs Second in
          let f = took_elsewhere (at First) (Pairs (at Second)) u u1 a (at Second) (Pairs (at First)) (λ e. apart (sym e)) in omega (arith, e, f))

  -- ---- the head of a product

  -- a host takes an item at this place and masks its operands
  pub record Masks (m : Left) (sharing : Sharing) (s : Side) (x y : Place) (d e from : ℕ) (u v : Hosts) : Type 0 where
    pub adds : Adds (at s) from (item_words t p w m sharing s ++ masked_words t p w m sharing s x y) u v
    pub d_there : (v (at s)).registers d ≡ masked_word t p w m sharing s x 0
    pub e_there : (v (at s)).registers e ≡ masked_word t p w m sharing s y 1
    pub took : Takes (at s) (source_of sharing (at (other s))) u v

  masks : (c : Side → ℕ) (m : Left) → Counted c m → (sharing : Sharing) (s : Side) (x y : Place) (u : Hosts)
      → is_known p c s x ≡ true → is_known p c s y ≡ true
      → (u (at s)).registers (register_at p s x).0 ≡ value t p w m s x → (u (at s)).registers (register_at p s y).0 ≡ value t p w m s y
      → (u (at s)).cursors (source_of sharing (at (other s))) ≡ (w (at First)).cursors (source_of sharing (at Second)) + m.items sharing
      → let k = masking_of p c s x y in
      Masks m sharing s x y k.d.0 k.e.0 (p.mark s + length (words_of m s)) u (run_acts t (masking sharing k (p.host (other s))) u)
  masks c m counts sharing s x y u x_known y_known x_is y_is cursor =
      let n : ℕ = p.mark s + length (words_of m s) in
      let h : ℕ = at s in
      let peer : HostId = p.host (other s) in
      let a : Reg = next_register p c s 0 in
      let b : Reg = next_register p c s 1 in
      let z : Reg = next_register p c s 2 in
      let d : Reg = next_register p c s 3 in
      let e : Reg = next_register p c s 4 in
      let a_is : (next_register p c s 0).0 ≡ p.mark s + length (words_of m s) = next_first c m counts s in
      let b_is : (next_register p c s 1).0 ≡ p.mark s + length (words_of m s) + 1 = next_is c m counts s 1 in
      let z_is : (next_register p c s 2).0 ≡ p.mark s + length (words_of m s) + 2 = next_is c m counts s 2 in
      let d_is : (next_register p c s 3).0 ≡ p.mark s + length (words_of m s) + 3 = next_is c m counts s 3 in
      let e_is : (next_register p c s 4).0 ≡ p.mark s + length (words_of m s) + 4 = next_is c m counts s 4 in
      let count = counts s in
      let x_low : (register_at p s x).0 < p.mark s + c s = place_low c s x x_known in
      let y_low : (register_at p s y).0 < p.mark s + c s = place_low c s y y_known in
      let u1 : Hosts = after_do t (at s) (take sharing (p.host (other s)) (next_register p c s 0) (next_register p c s 1) (next_register p c s 2)) u in
      let u2 : Hosts = after_do t (at s) (action.Apply (hide sharing) (next_register p c s 3) (register_at p s x) (next_register p c s 0)) u1 in
      let u3 : Hosts = after_do t (at s) (action.Apply (hide sharing) (next_register p c s 4) (register_at p s y) (next_register p c s 1)) u2 in
      let item : Adds (at s) (p.mark s + length (words_of m s)) (item_words t p w m sharing s) u u1 =
      subst₂ (λ (from k : ℕ). let ws : List ℕ = t (at s) (source_of sharing (at (other s))) k in Adds (at s) from (nth ws 0 ∷ nth ws 1 ∷ nth ws 2 ∷ []) u u1)
      a_is cursor (item_adds t (at s) sharing (p.host (other s)) a b z u (omega (arith, a_is, b_is)) (omega (arith, a_is, z_is))) in
      let a_there : (u1 (at s)).registers (next_register p c s 0).0 ≡ item_word t p w m sharing s 0 = ap (u1 (at s)).registers (omega (arith, a_is)) ∙ item.there 0 (omega arith) in
      let b_there : (u1 (at s)).registers (next_register p c s 1).0 ≡ item_word t p w m sharing s 1 = ap (u1 (at s)).registers (omega (arith, b_is)) ∙ item.there 1 (omega arith) in
      let x_there : (u1 (at s)).registers (register_at p s x).0 ≡ value t p w m s x = item.below (register_at p s x).0 (omega (arith, x_low, count)) ∙ x_is in
      let two : Adds (at s) (next_register p c s 3).0 (masked_word t p w m sharing s x 0 ∷ []) u1 u2 =
      do_adds_one t (at s) (action.Apply (hide sharing) (next_register p c s 3) (register_at p s x) (next_register p c s 0)) (next_register p c s 3).0
      (masked_word t p w m sharing s x 0) u1
      (ap₂ (λ i j. put (u1 (at s)).registers (next_register p c s 3).0 (applied (hide sharing) i j)) x_there a_there) refl refl in
      let y_there : (u2 (at s)).registers (register_at p s y).0 ≡ value t p w m s y =
      two.below (register_at p s y).0 (omega (arith, y_low, count, d_is)) ∙ item.below (register_at p s y).0 (omega (arith, y_low, count)) ∙ y_is in
      let b_still : (u2 (at s)).registers (next_register p c s 1).0 ≡ item_word t p w m sharing s 1 = two.below (next_register p c s 1).0 (omega (arith, b_is, d_is)) ∙ b_there in
      let three : Adds (at s) (next_register p c s 4).0 (masked_word t p w m sharing s y 1 ∷ []) u2 u3 =
      do_adds_one t (at s) (action.Apply (hide sharing) (next_register p c s 4) (register_at p s y) (next_register p c s 1)) (next_register p c s 4).0
      (masked_word t p w m sharing s y 1) u2
      (ap₂ (λ i j. put (u2 (at s)).registers (next_register p c s 4).0 (applied (hide sharing) i j)) y_there b_still) refl refl in
      record {
        adds = adds_on (at s) (p.mark s + length (words_of m s)) (item_words t p w m sharing s) (masked_words t p w m sharing s x y) u u1 u3 item
            (subst (λ i. Adds (at s) i (masked_words t p w m sharing s x y) u1 u3) d_is
            (adds_on (at s) (next_register p c s 3).0 (masked_word t p w m sharing s x 0 ∷ []) (masked_word t p w m sharing s y 1 ∷ []) u1 u2 u3 two
            (subst (λ i. Adds (at s) i (masked_word t p w m sharing s y 1 ∷ []) u2 u3) (omega (arith, d_is, e_is)) three)));
        d_there = three.below (next_register p c s 3).0 (omega (arith, d_is, e_is)) ∙ ap (u2 (at s)).registers (omega arith) ∙ two.there 0 (omega arith);
        e_there = ap (u3 (at s)).registers (omega arith) ∙ three.there 0 (omega arith);
        took = λ k from.
            do_same t (at s) (action.Apply (hide sharing) (next_register p c s 4) (register_at p s y) (next_register p c s 1)) u2 (λ i. refl) k from
            ∙ do_same t (at s) (action.Apply (hide sharing) (next_register p c s 3) (register_at p s x) (next_register p c s 0)) u1 (λ i. refl) k from
            ∙ took_item t (at s) sharing (p.host (other s)) a b z u k from;
      }

  -- one more item of this kind
  one_item : (h q : ℕ) (sharing g : Sharing) (f : Sharing → ℕ) (b : ℕ) (u v : Hosts) → Takes h (source_of sharing q) u v
      → (u h).cursors (source_of g q) ≡ b + f g → (v h).cursors (source_of g q) ≡ b + bumped sharing f g
  one_item h q BySums BySums f b u v took e = took_here h (Triples q) u v took (Triples q) (same_number q) ∙ (omega (arith, e))
  one_item h q BySums ByXors f b u v took e = took_another h (Triples q) u v took h (BitTriples q) refl ∙ e
  one_item h q ByXors BySums f b u v took e = took_another h (BitTriples q) u v took h (Triples q) refl ∙ e
  one_item h q ByXors ByXors f b u v took e = took_here h (BitTriples q) u v took (BitTriples q) (same_number q) ∙ (omega (arith, e))

  multiplied : (c : Side → ℕ) (m : Left) (u : Hosts) → Counted c m → Reaches m u → (sharing : Sharing) (x y x' y' : Place)
      → is_known p c First x ≡ true → is_known p c First y ≡ true → is_known p c Second x' ≡ true → is_known p c Second y' ≡ true
      → Reaches (after t p w m (Multiplied sharing x y x' y')) (run_acts t (acts_of_gadget (gadget_of p c (Multiplied sharing x y x' y'))) u)
  multiplied c m u counts r sharing x y x' y' x_known y_known x'_known y'_known =
      let back : at Second ≢ at First = λ e. apart (sym e) in
      let k = masking_of p c First x y in
      let l = masking_of p c Second x' y' in
      let u3 : Hosts = run_acts t (masking sharing (masking_of p c First x y) (p.host Second)) u in
      let a : Masks m sharing First x y (next_register p c First 3).0 (next_register p c First 4).0 (p.mark First + length m.first) u u3 =
      masks c m counts sharing First x y u x_known y_known (value_here c m u counts r.stands First x x_known) (value_here c m u counts r.stands First y y_known)
      (r.taken.items sharing First) in
      let v3 : Hosts = run_acts t (masking sharing (masking_of p c Second x' y') (p.host First)) u3 in
      let b : Masks m sharing Second x' y' (next_register p c Second 3).0 (next_register p c Second 4).0 (p.mark Second + length m.second) u3 v3 =
      masks c m counts sharing Second x' y' u3 x'_known y'_known
      (a.adds.others (at Second) (register_at p Second x').0 back ∙ value_here c m u counts r.stands Second x' x'_known)
      (a.adds.others (at Second) (register_at p Second y').0 back ∙ value_here c m u counts r.stands Second y' y'_known)
      (took_elsewhere (at First) (source_of sharing (at Second)) u u3 a.took (at Second) (source_of sharing (at First)) back ∙ r.taken.items sharing Second) in
      let own : List ℕ = item_words t p w m sharing First ++ masked_words t p w m sharing First x y in
      let own' : List ℕ = item_words t p w m sharing Second ++ masked_words t p w m sharing Second x' y' in
      let s1 : Stands (m.first ++ (item_words t p w m sharing First ++ masked_words t p w m sharing First x y)) m.second u3 =
      first_added m.first m.second (item_words t p w m sharing First ++ masked_words t p w m sharing First x y) u u3 r.stands a.adds in
      let s2 : Stands (m.first ++ (item_words t p w m sharing First ++ masked_words t p w m sharing First x y))
      (m.second ++ (item_words t p w m sharing Second ++ masked_words t p w m sharing Second x' y')) v3 =
      second_added (m.first ++ (item_words t p w m sharing First ++ masked_words t p w m sharing First x y)) m.second
      (item_words t p w m sharing Second ++ masked_words t p w m sharing Second x' y') u3 v3 s1 b.adds in
      let v4 : Hosts = after_msg (at First) (next_register p c First 3 ∷ next_register p c First 4 ∷ []) (at Second) (next_register p c Second 5 ∷ next_register p c Second 6 ∷ []) v3 in
      let h5 : (next_register p c Second 5).0 ≡ p.mark Second + length m.second + 5 = next_is c m counts Second 5 in
      let h6 : (next_register p c Second 6).0 ≡ p.mark Second + length m.second + 6 = next_is c m counts Second 6 in
      let told : Adds (at Second) (next_register p c Second 5).0 (masked_words t p w m sharing First x y) v3 v4 =
      subst₂ (λ i j. Adds (at Second) (next_register p c Second 5).0 (i ∷ j ∷ []) v3 v4)
      (b.adds.others (at First) (next_register p c First 3).0 apart ∙ a.d_there) (b.adds.others (at First) (next_register p c First 4).0 apart ∙ a.e_there)
      (tell_two (at First) (next_register p c First 3) (next_register p c First 4) (at Second) (next_register p c Second 5) (next_register p c Second 6) v3 apart (omega (arith, h5, h6))) in
      let count2 : length (m.second ++ (item_words t p w m sharing Second ++ masked_words t p w m sharing Second x' y')) ≡ length m.second + 5 = length-append m.second own' in
      let s3 = second_added (m.first ++ (item_words t p w m sharing First ++ masked_words t p w m sharing First x y))
      (m.second ++ (item_words t p w m sharing Second ++ masked_words t p w m sharing Second x' y')) (masked_words t p w m sharing First x y) v3 v4 s2
      (subst (λ i. Adds (at Second) i (masked_words t p w m sharing First x y) v3 v4) (omega (arith, h5, count2)) told) in
      let v5 : Hosts = after_msg (at Second) (next_register p c Second 3 ∷ next_register p c Second 4 ∷ []) (at First) (next_register p c First 5 ∷ next_register p c First 6 ∷ []) v4 in
      let g5 : (next_register p c First 5).0 ≡ p.mark First + length m.first + 5 = next_is c m counts First 5 in
      let g6 : (next_register p c First 6).0 ≡ p.mark First + length m.first + 6 = next_is c m counts First 6 in
      let d3 : (next_register p c Second 3).0 ≡ p.mark Second + length m.second + 3 = next_is c m counts Second 3 in
      let e4 : (next_register p c Second 4).0 ≡ p.mark Second + length m.second + 4 = next_is c m counts Second 4 in
      let told' : Adds (at First) (next_register p c First 5).0 (masked_words t p w m sharing Second x' y') v4 v5 =
      subst₂ (λ i j. Adds (at First) (next_register p c First 5).0 (i ∷ j ∷ []) v4 v5)
      (told.below (next_register p c Second 3).0 (omega (arith, d3, h5)) ∙ b.d_there) (told.below (next_register p c Second 4).0 (omega (arith, e4, h5)) ∙ b.e_there)
      (tell_two (at Second) (next_register p c Second 3) (next_register p c Second 4) (at First) (next_register p c First 5) (next_register p c First 6) v4 back (omega (arith, g5, g6))) in
      let count1 : length (m.first ++ (item_words t p w m sharing First ++ masked_words t p w m sharing First x y)) ≡ length m.first + 5 = length-append m.first own in
      let s4 = first_added (m.first ++ (item_words t p w m sharing First ++ masked_words t p w m sharing First x y))
      ((m.second ++ (item_words t p w m sharing Second ++ masked_words t p w m sharing Second x' y')) ++ masked_words t p w m sharing First x y)
      (masked_words t p w m sharing Second x' y') v4 v5 s3
      (subst (λ i. Adds (at First) i (masked_words t p w m sharing Second x' y') v4 v5) (omega (arith, g5, count1)) told') in
      let still : SameCursors v3 v5 =
      same_on v3 v4 v5 (msg_cursors (at First) (k.d ∷ k.e ∷ []) (at Second) (l.heard_d ∷ l.heard_e ∷ []) v3 apart)
      (msg_cursors (at Second) (l.d ∷ l.e ∷ []) (at First) (k.heard_d ∷ k.heard_e ∷ []) v4 back) in
      record {
        stands = subst₂ (λ (i j : List ℕ). Stands i j v5)
            (append_assoc m.first (item_words t p w m sharing First ++ masked_words t p w m sharing First x y) (masked_words t p w m sharing Second x' y'))
            (append_assoc m.second (item_words t p w m sharing Second ++ masked_words t p w m sharing Second x' y') (masked_words t p w m sharing First x y)) s4;
        taken = record {
          owns = λ s. still (at s) OwnWords
              ∙ took_another (at Second) (source_of sharing (at First)) u3 v3 b.took (at s) OwnWords (own_is_no_item sharing (at First))
              ∙ took_another (at First) (source_of sharing (at Second)) u u3 a.took (at s) OwnWords (own_is_no_item sharing (at Second)) ∙ r.taken.owns s;
          items = λ g s. still (at s) (source_of g (at (other s))) ∙ items u3 v3 a.took b.took g s;
          pairs = λ s. still (at s) (Pairs (at (other s)))
              ∙ took_another (at Second) (source_of sharing (at First)) u3 v3 b.took (at s) (Pairs (at (other s))) (pair_is_no_item sharing (at First) (at (other s)))
              ∙ took_another (at First) (source_of sharing (at Second)) u u3 a.took (at s) (Pairs (at (other s))) (pair_is_no_item sharing (at Second) (at (other s)))
              ∙ r.taken.pairs s;
        };
      }
    where
      items : (u3 v3 : Hosts) → Takes (at First) (source_of sharing (at Second)) u u3 → Takes (at Second) (source_of sharing (at First)) u3 v3 → (g : Sharing) (s : Side)
          → (v3 (at s)).cursors (source_of g (at (other s))) ≡ (w (at First)).cursors (source_of g (at Second)) + bumped sharing m.items g
      items u3 v3 a b g First =
          took_elsewhere (at Second) (source_of sharing (at First)) u3 v3 b (at First) (source_of g (at Second)) apart
          ∙ one_item (at First) (at Second) sharing g m.items ((w (at First)).cursors (source_of g (at Second))) u u3 a (r.taken.items g First)
      items u3 v3 a b g Second =
          one_item (at Second) (at First) sharing g m.items ((w (at First)).cursors (source_of g (at Second))) u3 v3 b
          (took_elsewhere (at First) (source_of sharing (at Second)) u u3 a (at Second) (source_of g (at First)) (λ e. apart (sym e)) ∙ r.taken.items g Second)

  -- ---- one deed, and all

  deed_reaches : (d : Deed) (c : Side → ℕ) (m : Left) (u : Hosts) → Counted c m → Reaches m u → deed_is_known p c d ≡ true
      → Reaches (after t p w m d) (run_acts t (acts_of_gadget (gadget_of p c d)) u)
  deed_reaches (Number s k) c m u counts r known = one_word c m u counts r s (action.Const (next_register p c s 0) k) k refl refl (λ i. refl)
  deed_reaches (Copied s x) c m u counts r known =
      one_word c m u counts r s (action.Copy (next_register p c s 0) (register_at p s x)) (value t p w m s x)
      (ap (put (u (at s)).registers (next_register p c s 0).0) (value_here c m u counts r.stands s x known)) refl (λ i. refl)
  deed_reaches (Applied s o x y) c m u counts r known =
      one_word c m u counts r s (action.Apply o (next_register p c s 0) (register_at p s x) (register_at p s y)) (applied o (value t p w m s x) (value t p w m s y))
      (ap₂ (λ i j. put (u (at s)).registers (next_register p c s 0).0 (applied o i j))
      (value_here c m u counts r.stands s x (both_first (is_known p c s x) (is_known p c s y) known))
      (value_here c m u counts r.stands s y (both_second (is_known p c s x) (is_known p c s y) known))) refl (λ i. refl)
  deed_reaches (ShiftedLeft s x k) c m u counts r known =
      one_word c m u counts r s (action.Shl (next_register p c s 0) (register_at p s x) k) (operation (op.Shl k) (value t p w m s x) 0 0)
      (ap (λ i. put (u (at s)).registers (next_register p c s 0).0 (operation (op.Shl k) i 0 0)) (value_here c m u counts r.stands s x known)) refl (λ i. refl)
  deed_reaches (ShiftedRight s x k) c m u counts r known =
      one_word c m u counts r s (action.Shr (next_register p c s 0) (register_at p s x) k) (operation (op.Shr k) (value t p w m s x) 0 0)
      (ap (λ i. put (u (at s)).registers (next_register p c s 0).0 (operation (op.Shr k) i 0 0)) (value_here c m u counts r.stands s x known)) refl (λ i. refl)
  deed_reaches (GivenAway s) c m u counts r known = given_away c m u counts r s
  deed_reaches BothGive c m u counts r known = both_given c m u counts r
  deed_reaches (Opened sharing s x y) c m u counts r known =
      one_opened c m u counts r s (register_at p s x) (value t p w m s x) (value_here c m u counts r.stands s x known)
  deed_reaches (Multiplied sharing x y x' y') c m u counts r known =
      let one = both_first (is_known p c First x && is_known p c First y) (is_known p c Second x' && is_known p c Second y') known in
      let two = both_second (is_known p c First x && is_known p c First y) (is_known p c Second x' && is_known p c Second y') known in
      multiplied c m u counts r sharing x y x' y' (both_first (is_known p c First x) (is_known p c First y) one) (both_second (is_known p c First x) (is_known p c First y) one)
      (both_first (is_known p c Second x') (is_known p c Second y') two) (both_second (is_known p c Second x') (is_known p c Second y') two)
  deed_reaches (Drawn x x') c m u counts r known = drawn c m u counts r x x'

  one_longer : (s : Side) (m : Left) (v : ℕ) (r : Side) (k : ℕ) → k ≡ length (words_of m r) → k + one_at s r ≡ length (words_of (with_words m s (v ∷ [])) r)
  one_longer First m v First k e = let l = length-append m.first (v ∷ []) in omega (arith, e, l)
  one_longer First m v Second k e = omega (arith, e)
  one_longer Second m v First k e = omega (arith, e)
  one_longer Second m v Second k e = let l = length-append m.second (v ∷ []) in omega (arith, e, l)

  both_longer : (s : Side) (m : Left) (v : ℕ) (r : Side) (k : ℕ) → k ≡ length (words_of m r)
      → k + 1 ≡ length (words_of (with_words (with_words m s (v ∷ [])) (other s) (v ∷ [])) r)
  both_longer First m v First k e = let l = length-append m.first (v ∷ []) in omega (arith, e, l)
  both_longer First m v Second k e = let l = length-append m.second (v ∷ []) in omega (arith, e, l)
  both_longer Second m v First k e = let l = length-append m.first (v ∷ []) in omega (arith, e, l)
  both_longer Second m v Second k e = let l = length-append m.second (v ∷ []) in omega (arith, e, l)

  deed_counts : (d : Deed) (c : Side → ℕ) (m : Left) → Counted c m → Counted (further c d) (after t p w m d)
  deed_counts (Number s k) c m counts r = one_longer s m k r (c r) (counts r)
  deed_counts (Copied s x) c m counts r = one_longer s m (value t p w m s x) r (c r) (counts r)
  deed_counts (Applied s o x y) c m counts r = one_longer s m (applied o (value t p w m s x) (value t p w m s y)) r (c r) (counts r)
  deed_counts (ShiftedLeft s x k) c m counts r = one_longer s m (operation (op.Shl k) (value t p w m s x) 0 0) r (c r) (counts r)
  deed_counts (ShiftedRight s x k) c m counts r = one_longer s m (operation (op.Shr k) (value t p w m s x) 0 0) r (c r) (counts r)
  deed_counts (GivenAway s) c m counts r = given s r
    where
      given : (s r : Side) → c r + 1 ≡ length (words_of (after t p w m (GivenAway s)) r)
      given First First = both_longer First m (own_word t p w m First) First (c First) (counts First)
      given First Second = both_longer First m (own_word t p w m First) Second (c Second) (counts Second)
      given Second First = both_longer Second m (own_word t p w m Second) First (c First) (counts First)
      given Second Second = both_longer Second m (own_word t p w m Second) Second (c Second) (counts Second)
  deed_counts BothGive c m counts First =
      let l = length-append m.first (own_word t p w m First ∷ own_word t p w m Second ∷ []) in let e = counts First in omega (arith, e, l)
  deed_counts BothGive c m counts Second =
      let l = length-append m.second (own_word t p w m Second ∷ own_word t p w m First ∷ []) in let e = counts Second in omega (arith, e, l)
  deed_counts (Opened sharing s x y) c m counts r = one_longer (other s) m (value t p w m s x) r (c r) (counts r)
  deed_counts (Multiplied sharing x y x' y') c m counts First =
      let l = length-append m.first (item_words t p w m sharing First ++ (masked_words t p w m sharing First x y ++ masked_words t p w m sharing Second x' y')) in
      let e = counts First in omega (arith, e, l)
  deed_counts (Multiplied sharing x y x' y') c m counts Second =
      let l = length-append m.second (item_words t p w m sharing Second ++ (masked_words t p w m sharing Second x' y' ++ masked_words t p w m sharing First x y)) in
      let e = counts Second in omega (arith, e, l)
  deed_counts (Drawn x x') c m counts First =
      let l = length-append m.first (pair_word t p w m First 0 ∷ pair_word t p w m First 1 ∷ []) in let e = counts First in omega (arith, e, l)
  deed_counts (Drawn x x') c m counts Second =
      let l = length-append m.second (pair_word t p w m Second 0 ∷ pair_word t p w m Second 1 ∷ []) in let e = counts Second in omega (arith, e, l)

  -- nothing is compared
  deed_agrees : (d : Deed) (c : Side → ℕ) (u : Hosts) → ActsAgree t (acts_of_gadget (gadget_of p c d)) u
  deed_agrees (Number s k) c u = (tt, tt)
  deed_agrees (Copied s x) c u = (tt, tt)
  deed_agrees (Applied s o x y) c u = (tt, tt)
  deed_agrees (ShiftedLeft s x k) c u = (tt, tt)
  deed_agrees (ShiftedRight s x k) c u = (tt, tt)
  deed_agrees (GivenAway s) c u = (tt, (tt, tt))
  deed_agrees BothGive c u = (tt, (tt, (tt, (tt, tt))))
  deed_agrees (Opened sharing s x y) c u = (tt, tt)
  deed_agrees (Multiplied BySums x y x' y') c u = (tt, (tt, (tt, (tt, (tt, (tt, (tt, (tt, tt))))))))
  deed_agrees (Multiplied ByXors x y x' y') c u = (tt, (tt, (tt, (tt, (tt, (tt, (tt, (tt, tt))))))))
  deed_agrees (Drawn x x') c u = (tt, (tt, tt))

  pub record Ran (ds : List Deed) (c : Side → ℕ) (m : Left) (u : Hosts) : Type 0 where
    pub reaches : Reaches (after_all t p w m ds) (run_acts t (acts_of_gadgets (gadgets_of p c ds)) u)
    pub counts : Counted (count_all c ds) (after_all t p w m ds)
    pub agrees : ActsAgree t (acts_of_gadgets (gadgets_of p c ds)) u

  pub deeds_run : (ds : List Deed) (c : Side → ℕ) (m : Left) (u : Hosts) → Counted c m → Reaches m u → all_known p c ds ≡ true → Ran ds c m u
  deeds_run [] c m u counts r known = record { reaches = r; counts = counts; agrees = tt }
  deeds_run (d ∷ ds) c m u counts r known =
      let here : deed_is_known p c d ≡ true = both_first (deed_is_known p c d) (all_known p (further c d) ds) known in
      let more = deeds_run ds (further c d) (after t p w m d) (run_acts t (acts_of_gadget (gadget_of p c d)) u) (deed_counts d c m counts) (deed_reaches d c m u counts r here)
      (both_second (deed_is_known p c d) (all_known p (further c d) ds) known) in
      record {
        reaches = subst (λ (v : Hosts). Reaches (after_all t p w (after t p w m d) ds) v)
            (sym (run_append t (acts_of_gadget (gadget_of p c d)) (acts_of_gadgets (gadgets_of p (further c d) ds)) u)) more.reaches;
        counts = more.counts;
        agrees = agree_append t (acts_of_gadget (gadget_of p c d)) (acts_of_gadgets (gadgets_of p (further c d) ds)) u (deed_agrees d c u) more.agrees;
      }
