-- The own words that are given to a coalition along plans: at which places, and in two runs the same.
use Rattle.std.proofs.Common.{◌≡◌, ℕ, zero, suc, ◌+◌, ◌<◌, nat_eq, ◌&&◌, ◌||◌, Bool, true, false, if◌then◌else◌, List, [], ◌∷◌, ◌++◌, ◌⊎◌, inl, inr, length, refl, sym, ap, ap₂, subst, subst₂, ◌∙◌, arith, length-append, append_assoc}
use Rattle.std.proofs.lemmas.Bool.{eq-eqb}
use Rattle.vd_execution.specs.declared.instructions.Action.TheVariants as action
use Rattle.vd_execution.specs.declared.instructions.Act.TheVariants as act
use Rattle.vd_execution.specs.Step.{OwnWords}
use Rattle.vd_execution.specs.World.{Tape}
use Rattle.vd_execution.specs.Joint.{Part, TakesPart, Hosts, is_other, turn_begun, turns, joint}
use Rattle.vd_execution.specs.Acts.{run_acts, ActsAreWithin}
use Rattle.vd_execution.specs.Gadgets.{Gadget, Alone, Tells, Shares, BothShare, Opens, Masked, Paired, acts_of_gadget}
use Rattle.vd_execution.specs.Plans.{Plan, Ends, Then, Branch, Loop, joint_of, PlanIsWithin}
use Rattle.vd_execution.proofs.Front.{runs_first}
use Rattle.vd_split.specs.Joint.{acts_then, and_then}
use Rattle.vd_views.specs.Views.{Coalition, IsIn, IsOut, Concerns, BothTurns}
use Rattle.vd_views.specs.Plans.{run_branch, run_turn, PlanChooses}
use Rattle.vd_views.specs.Moved.{looks_in, place_if, given_by, in_turns, places, AsFar, GadgetOwns, GadgetsOwn, OwnAlike}
use Rattle.vd_views.specs.Sides.{after}
use Rattle.vd_views.proofs.Coalitions.{in_or_out, in_at, all_outside}

-- ---- who takes part

either_true : (p q : Bool) → p ≡ true → p || q ≡ true
either_true true q e = refl
either_true false q e = cc

second_true : (p q : Bool) → q ≡ true → p || q ≡ true
second_true true q e = refl
second_true false q e = e

both_true : (p q : Bool) → p ≡ true → q ≡ true → p && q ≡ true
both_true true q e f = f
both_true false q e f = e

none_true : (p q : Bool) → q ≡ false → p && q ≡ false
none_true true q e = e
none_true false q e = refl

neither_true : (p q : Bool) → p ≡ false → q ≡ false → p || q ≡ false
neither_true true q e f = cc
neither_true false q e f = f

pub looking : (K : Coalition) (ps : List Part) → looks_in K ps ≡ true → Concerns ps K
looking K [] e = cc
looking K (p ∷ ps) e = at (in_or_out K p.0) (λ more. looking K ps more)
  where
    at : IsIn K p.0 ⊎ IsOut K p.0 → (looks_in K ps ≡ true → Concerns ps K) → Concerns (p ∷ ps) K
    at (inl i) later = (p.0, (i, inl refl))
    at (inr o) later = let c = later (sym (ap (λ (b : Bool). b || looks_in K ps) o) ∙ e) in (c.0, (c.1.0, inr c.1.1))

concerned : (K : Coalition) (ps : List Part) (h : ℕ) → IsIn K h → TakesPart ps h → looks_in K ps ≡ true
concerned K [] h i q = absurd q
concerned K (p ∷ ps) h i (inl e) = either_true (K p.0) (looks_in K ps) (in_at K p.0 h (sym e) i)
concerned K (p ∷ ps) h i (inr q) = second_true (K p.0) (looks_in K ps) (concerned K ps h i q)

pub is_looking : (K : Coalition) (ps : List Part) → Concerns ps K → looks_in K ps ≡ true
is_looking K ps c = concerned K ps c.0 c.1.0 c.1.1

pub not_looking : (K : Coalition) (ps : List Part) → (Concerns ps K → ⊥) → looks_in K ps ≡ false
not_looking K ps out = at (looks_in K ps) refl
  where
    at : (b : Bool) → looks_in K ps ≡ b → b ≡ false
    at true e = absurd (out (looking K ps e))
    at false e = refl

-- ---- lists of places

module _ {X : Type 0} (f h : ℕ → X) where
  far_first : (a xs b ys : List ℕ) → AsFar f h (a ++ xs) (b ++ ys) → AsFar f h a b
  far_first [] xs b ys p = tt
  far_first (i ∷ a) xs [] ys p = tt
  far_first (i ∷ a) xs (j ∷ b) ys p = (p.0, far_first a xs b ys p.1)

  far_rest : (a xs b ys : List ℕ) → length a ≡ length b → AsFar f h (a ++ xs) (b ++ ys) → AsFar f h xs ys
  far_rest [] xs [] ys e p = p
  far_rest [] xs (j ∷ b) ys e p = absurd (omega (arith, e))
  far_rest (i ∷ a) xs [] ys e p = absurd (omega (arith, e))
  far_rest (i ∷ a) xs (j ∷ b) ys e p = far_rest a xs b ys (omega (arith, e)) p.1

  place_far : (b : Bool) (i j : ℕ) → b ≡ true → AsFar f h (place_if b i) (place_if b j) → f i ≡ h j
  place_far true i j e a = a.0
  place_far false i j e a = cc

count_on : (a b c d : List ℕ) → length a ≡ length c → length b ≡ length d → length (a ++ b) ≡ length (c ++ d)
count_on a b c d e f = length-append a b ∙ ap₂ (λ (m n : ℕ). m + n) e f ∙ sym (length-append c d)

place_count : (b : Bool) (i j : ℕ) → length (place_if b i) ≡ length (place_if b j)
place_count true i j = refl
place_count false i j = refl

place_none : (b : Bool) (i : ℕ) → b ≡ false → place_if b i ≡ []
place_none true i e = cc
place_none false i e = refl

-- ---- a gadget

module _ (K : Coalition) where
  given_count : (g : ℕ) (x : Gadget) (w v : Hosts) → length (given_by K g x w) ≡ length (given_by K g x v)
  given_count g (Alone h a) w v = refl
  given_count g (Tells a said b heard) w v = refl
  given_count g (Shares a r b heard) w v = place_count (nat_eq a.0 g && K b.0) ((w g).cursors OwnWords) ((v g).cursors OwnWords)
  given_count g (BothShare a r heard b q heard_b) w v = place_count ((nat_eq a.0 g && K b.0) || (nat_eq b.0 g && K a.0)) ((w g).cursors OwnWords) ((v g).cursors OwnWords)
  given_count g (Opens sharing a x b y heard) w v = refl
  given_count g (Masked sharing m n) w v = refl
  given_count g (Paired p q) w v = refl

  owns_of : (t y : Tape) (x : Gadget) (w v : Hosts) → ((g : ℕ) → IsOut K g → AsFar (t g OwnWords) (y g OwnWords) (given_by K g x w) (given_by K g x v)) → GadgetOwns K t y x w v
  owns_of t y (Alone h a) w v all = tt
  owns_of t y (Tells a said b heard) w v all = tt
  owns_of t y (Shares a r b heard) w v all = λ i o.
      place_far (t a.0 OwnWords) (y a.0 OwnWords) (nat_eq a.0 a.0 && K b.0) ((w a.0).cursors OwnWords) ((v a.0).cursors OwnWords) (both_true (nat_eq a.0 a.0) (K b.0) (eq-eqb a.0 a.0 refl) i) (all a.0 o)
  owns_of t y (BothShare a r heard b q heard_b) w v all = (
    (λ i o.
        place_far (t a.0 OwnWords) (y a.0 OwnWords) ((nat_eq a.0 a.0 && K b.0) || (nat_eq b.0 a.0 && K a.0)) ((w a.0).cursors OwnWords) ((v a.0).cursors OwnWords)
        (either_true (nat_eq a.0 a.0 && K b.0) (nat_eq b.0 a.0 && K a.0) (both_true (nat_eq a.0 a.0) (K b.0) (eq-eqb a.0 a.0 refl) i)) (all a.0 o)),
    (λ i o.
        place_far (t b.0 OwnWords) (y b.0 OwnWords) ((nat_eq a.0 b.0 && K b.0) || (nat_eq b.0 b.0 && K a.0)) ((w b.0).cursors OwnWords) ((v b.0).cursors OwnWords)
        (second_true (nat_eq a.0 b.0 && K b.0) (nat_eq b.0 b.0 && K a.0) (both_true (nat_eq b.0 b.0) (K a.0) (eq-eqb b.0 b.0 refl) i)) (all b.0 o)),
  )
  owns_of t y (Opens sharing a x b p heard) w v all = tt
  owns_of t y (Masked sharing m n) w v all = tt
  owns_of t y (Paired p q) w v all = tt

  -- ---- one after the other

  module _ (t y : Tape) where
    pub own_then : (x : Gadget) (rest : Plan Gadget) (w v : Hosts) → OwnAlike K t y (Then x rest) w v
        → GadgetOwns K t y x w v × OwnAlike K t y rest (run_acts t (acts_of_gadget x) w) (run_acts y (acts_of_gadget x) v)
    own_then x rest w v a =
        let ws : ℕ → List ℕ = λ g. places K g t rest (run_acts t (acts_of_gadget x) w) in
        let vs : ℕ → List ℕ = λ g. places K g y rest (run_acts y (acts_of_gadget x) v) in (
          owns_of t y x w v (λ g o. far_first (t g OwnWords) (y g OwnWords) (given_by K g x w) (ws g) (given_by K g x v) (vs g) (a g o)),
          (λ g o. far_rest (t g OwnWords) (y g OwnWords) (given_by K g x w) (ws g) (given_by K g x v) (vs g) (given_count g x w v) (a g o)),
        )

    pub own_behind : (xs : List Gadget) (j : Plan Gadget) (w v : Hosts) → OwnAlike K t y (acts_then xs j) w v → GadgetsOwn K t y xs w v × OwnAlike K t y j (after t xs w) (after y xs v)
    own_behind [] j w v a = (tt, a)
    own_behind (x ∷ xs) j w v a =
        let one = own_then x (acts_then xs j) w v a in
        let rest = own_behind xs j (run_acts t (acts_of_gadget x) w) (run_acts y (acts_of_gadget x) v) one.1 in
        ((one.0, rest.0), rest.1)

    both_count : (b d : Bool) → b ≡ d → (x1 x2 y1 y2 : List ℕ) → (b ≡ true → length x1 ≡ length y1) → (b ≡ false → length x2 ≡ length y2) → length (if b then x1 else x2) ≡ length (if d then y1 else y2)
    both_count true true e x1 x2 y1 y2 f h = f refl
    both_count false false e x1 x2 y1 y2 f h = h refl
    both_count true false e x1 x2 y1 y2 f h = cc
    both_count false true e x1 x2 y1 y2 f h = cc

    either_count : (b : Bool) (xs ys : List ℕ) → (b ≡ true → length xs ≡ length ys) → length (if b then xs else []) ≡ length (if b then ys else [])
    either_count true xs ys f = f refl
    either_count false xs ys f = refl

    turns_count : (g : ℕ) (ps : List Part) (body : Plan Gadget) → ((w v : Hosts) → PlanChooses K t y body w v → length (places K g t body w) ≡ length (places K g y body v))
        → (n i : ℕ) (w v : Hosts) → BothTurns (λ j p q. PlanChooses K t y body (turn_begun ps j p) (turn_begun ps j q)) (run_turn ps body t) (run_turn ps body y) n i w v
        → length (in_turns (λ j x. places K g t body (turn_begun ps j x)) (run_turn ps body t) n i w) ≡ length (in_turns (λ j x. places K g y body (turn_begun ps j x)) (run_turn ps body y) n i v)
    turns_count g ps body ih zero i w v c = refl
    turns_count g ps body ih (suc n) i w v c =
        count_on (places K g t body (turn_begun ps i w)) (in_turns (λ j x. places K g t body (turn_begun ps j x)) (run_turn ps body t) n (suc i) (run_turn ps body t i w))
        (places K g y body (turn_begun ps i v)) (in_turns (λ j x. places K g y body (turn_begun ps j x)) (run_turn ps body y) n (suc i) (run_turn ps body y i v))
        (ih (turn_begun ps i w) (turn_begun ps i v) c.0) (turns_count g ps body ih n (suc i) (run_turn ps body t i w) (run_turn ps body y i v) c.1)

    -- where the coalition reads the same guards, as many are given
    pub places_count : (g : ℕ) (plan : Plan Gadget) (w v : Hosts) → PlanChooses K t y plan w v → length (places K g t plan w) ≡ length (places K g y plan v)
    places_count g Ends w v c = refl
    places_count g (Then x rest) w v c =
        count_on (given_by K g x w) (places K g t rest (run_acts t (acts_of_gadget x) w)) (given_by K g x v) (places K g y rest (run_acts y (acts_of_gadget x) v)) (given_count g x w v)
        (places_count g rest (run_acts t (acts_of_gadget x) w) (run_acts y (acts_of_gadget x) v) c.1)
    places_count g (Branch ps first other rest) w v c =
        count_on (if looks_in K ps then (if is_other ps w then places K g t other w else places K g t first w) else []) (places K g t rest (run_branch ps first other t w))
        (if looks_in K ps then (if is_other ps v then places K g y other v else places K g y first v) else []) (places K g y rest (run_branch ps first other y v))
        (either_count (looks_in K ps) (if is_other ps w then places K g t other w else places K g t first w) (if is_other ps v then places K g y other v else places K g y first v)
        (λ e.
        let q = c.0 (looking K ps e) in
        both_count (is_other ps w) (is_other ps v) q.0 (places K g t other w) (places K g t first w) (places K g y other v) (places K g y first v)
        (λ i. places_count g other w v (q.1.0 i)) (λ i. places_count g first w v (q.1.1 i))))
        (places_count g rest (run_branch ps first other t w) (run_branch ps first other y v) c.1)
    places_count g (Loop ps count body rest) w v c =
        let ws : List ℕ = in_turns (λ j x. places K g t body (turn_begun ps j x)) (run_turn ps body t) count 0 w in
        let vs : List ℕ = in_turns (λ j x. places K g y body (turn_begun ps j x)) (run_turn ps body y) count 0 v in
        count_on (if looks_in K ps then ws else []) (places K g t rest (turns (run_turn ps body t) count 0 w)) (if looks_in K ps then vs else []) (places K g y rest (turns (run_turn ps body y) count 0 v))
        (either_count (looks_in K ps) ws vs (λ e. turns_count g ps body (λ x z d. places_count g body x z d) count 0 w v (c.0 (looking K ps e))))
        (places_count g rest (turns (run_turn ps body t) count 0 w) (turns (run_turn ps body y) count 0 v) c.1)

  -- plans one after the other
  pub places_split : (g : ℕ) (t : Tape) (a b : Plan Gadget) (w : Hosts) → places K g t (and_then a b) w ≡ places K g t a w ++ places K g t b (joint t (joint_of a) w)
  places_split g t Ends b w = refl
  places_split g t (Then x r) b w =
      let w1 : Hosts = run_acts t (acts_of_gadget x) w in
      ap (λ (z : List ℕ). given_by K g x w ++ z)
      (places_split g t r b w1 ∙ ap (λ (z : Hosts). places K g t r w1 ++ places K g t b z) (sym (runs_first t (acts_of_gadget x) (joint_of r) w)))
      ∙ sym (append_assoc (given_by K g x w) (places K g t r w1) (places K g t b (joint t (joint_of (Then x r)) w)))
  places_split g t (Branch ps first other r) b w =
      let here : List ℕ = if looks_in K ps then (if is_other ps w then places K g t other w else places K g t first w) else [] in
      let w1 : Hosts = run_branch ps first other t w in
      ap (λ (z : List ℕ). here ++ z) (places_split g t r b w1) ∙ sym (append_assoc here (places K g t r w1) (places K g t b (joint t (joint_of r) w1)))
  places_split g t (Loop ps count body r) b w =
      let here : List ℕ = if looks_in K ps then in_turns (λ j x. places K g t body (turn_begun ps j x)) (run_turn ps body t) count 0 w else [] in
      let w1 : Hosts = turns (run_turn ps body t) count 0 w in
      ap (λ (z : List ℕ). here ++ z) (places_split g t r b w1) ∙ sym (append_assoc here (places K g t r w1) (places K g t b (joint t (joint_of r) w1)))

  module _ (t y : Tape) where
    pub own_split : (a b : Plan Gadget) (w v : Hosts) → OwnAlike K t y (and_then a b) w v
        → OwnAlike K t y a w v × (PlanChooses K t y a w v → OwnAlike K t y b (joint t (joint_of a) w) (joint y (joint_of a) v))
    own_split a b w v all = (
      (λ g o. far_first (t g OwnWords) (y g OwnWords) (places K g t a w) (places K g t b (joint t (joint_of a) w)) (places K g y a v) (places K g y b (joint y (joint_of a) v)) (both g o)),
      (λ c g o.
          far_rest (t g OwnWords) (y g OwnWords) (places K g t a w) (places K g t b (joint t (joint_of a) w)) (places K g y a v) (places K g y b (joint y (joint_of a) v)) (places_count t y g a w v c)
          (both g o)),
    )
      where
        both : (g : ℕ) → IsOut K g
            → AsFar (t g OwnWords) (y g OwnWords) (places K g t a w ++ places K g t b (joint t (joint_of a) w)) (places K g y a v ++ places K g y b (joint y (joint_of a) v))
        both g o = subst₂ (λ (p q : List ℕ). AsFar (t g OwnWords) (y g OwnWords) p q) (places_split g t a b w) (places_split g y a b v) (all g o)

    -- inside a branch that both runs take
    chosen : (l b : Bool) (c d : Bool) → l ≡ true → c ≡ b → d ≡ b → (x1 x2 y1 y2 : List ℕ) (f h : ℕ → List ℕ)
        → AsFar f h ((if l then (if c then x1 else x2) else []) ++ []) ((if l then (if d then y1 else y2) else []) ++ []) → AsFar f h (if b then x1 else x2) (if b then y1 else y2)
    chosen true true true true e i j x1 x2 y1 y2 f h a = far_first f h x1 [] y1 [] a
    chosen true false false false e i j x1 x2 y1 y2 f h a = far_first f h x2 [] y2 [] a
    chosen true true false d e i j x1 x2 y1 y2 f h a = cc
    chosen true true true false e i j x1 x2 y1 y2 f h a = cc
    chosen true false true d e i j x1 x2 y1 y2 f h a = cc
    chosen true false false true e i j x1 x2 y1 y2 f h a = cc
    chosen false b c d e i j x1 x2 y1 y2 f h a = cc

    pub own_other : (ps : List Part) (first other : Plan Gadget) (w v : Hosts) → Concerns ps K → is_other ps w ≡ true → is_other ps v ≡ true → OwnAlike K t y (Branch ps first other Ends) w v → OwnAlike K t y other w v
    own_other ps first other w v c e f all = λ g o.
        chosen (looks_in K ps) true (is_other ps w) (is_other ps v) (is_looking K ps c) e f (places K g t other w) (places K g t first w) (places K g y other v) (places K g y first v) (t g OwnWords) (y g OwnWords) (all g o)

    pub own_first : (ps : List Part) (first other : Plan Gadget) (w v : Hosts) → Concerns ps K → is_other ps w ≡ false → is_other ps v ≡ false → OwnAlike K t y (Branch ps first other Ends) w v → OwnAlike K t y first w v
    own_first ps first other w v c e f all = λ g o.
        chosen (looks_in K ps) false (is_other ps w) (is_other ps v) (is_looking K ps c) e f (places K g t other w) (places K g t first w) (places K g y other v) (places K g y first v) (t g OwnWords) (y g OwnWords) (all g o)

  -- at one turn of a loop
  turn_far : (f h : ℕ → List ℕ) (F H : ℕ → Hosts → List ℕ) (run other : ℕ → Hosts → Hosts) (i n k : ℕ) (w v : Hosts) → i < n → AsFar f h (in_turns F run n k w) (in_turns H other n k v)
      → ((j : ℕ) → j < i → length (F (k + j) (turns run j k w)) ≡ length (H (k + j) (turns other j k v))) → AsFar f h (F (k + i) (turns run i k w)) (H (k + i) (turns other i k v))
  turn_far f h F H run other i zero k w v lt a counts = absurd (omega (arith, lt))
  turn_far f h F H run other zero (suc n) k w v lt a counts =
      subst (λ z. AsFar f h (F z w) (H z v)) (omega arith) (far_first f h (F k w) (in_turns F run n (suc k) (run k w)) (H k v) (in_turns H other n (suc k) (other k v)) a)
  turn_far f h F H run other (suc i) (suc n) k w v lt a counts =
      subst (λ z. AsFar f h (F z (turns run i (suc k) (run k w))) (H z (turns other i (suc k) (other k v)))) (omega arith)
      (turn_far f h F H run other i n (suc k) (run k w) (other k v) (omega (arith, lt))
      (far_rest f h (F k w) (in_turns F run n (suc k) (run k w)) (H k v) (in_turns H other n (suc k) (other k v)) (subst (λ z. length (F z w) ≡ length (H z v)) (omega arith) (counts 0 (omega arith))) a)
      (λ j less.
      subst (λ z. length (F z (turns run j (suc k) (run k w))) ≡ length (H z (turns other j (suc k) (other k v)))) (omega arith) (counts (suc j) (omega (arith, less)))))

  module _ (t y : Tape) where
    loop_far : (l : Bool) → l ≡ true → (f h : ℕ → List ℕ) (xs ys : List ℕ) → AsFar f h ((if l then xs else []) ++ []) ((if l then ys else []) ++ []) → AsFar f h xs ys
    loop_far true e f h xs ys a = far_first f h xs [] ys [] a
    loop_far false e f h xs ys a = cc

    -- where the turns before read the same guards
    pub own_turn : (ps : List Part) (count : ℕ) (body : Plan Gadget) (w v : Hosts) → Concerns ps K → OwnAlike K t y (Loop ps count body Ends) w v → (i : ℕ) → i < count
        → ((j : ℕ) → j < i → PlanChooses K t y body (turn_begun ps j (turns (run_turn ps body t) j 0 w)) (turn_begun ps j (turns (run_turn ps body y) j 0 v)))
        → OwnAlike K t y body (turn_begun ps i (turns (run_turn ps body t) i 0 w)) (turn_begun ps i (turns (run_turn ps body y) i 0 v))
    own_turn ps count body w v c all i lt chooses = λ g o.
        subst (λ z. AsFar (t g OwnWords) (y g OwnWords) (places K g t body (turn_begun ps z (turns (run_turn ps body t) i 0 w))) (places K g y body (turn_begun ps z (turns (run_turn ps body y) i 0 v)))) (omega arith)
        (turn_far (t g OwnWords) (y g OwnWords) (λ j x. places K g t body (turn_begun ps j x)) (λ j x. places K g y body (turn_begun ps j x)) (run_turn ps body t) (run_turn ps body y) i count 0 w v lt
        (loop_far (looks_in K ps) (is_looking K ps c) (t g OwnWords) (y g OwnWords) (in_turns (λ j x. places K g t body (turn_begun ps j x)) (run_turn ps body t) count 0 w)
        (in_turns (λ j x. places K g y body (turn_begun ps j x)) (run_turn ps body y) count 0 v) (all g o))
        (λ j less.
        subst (λ z. length (places K g t body (turn_begun ps z (turns (run_turn ps body t) j 0 w))) ≡ length (places K g y body (turn_begun ps z (turns (run_turn ps body y) j 0 v)))) (omega arith)
        (places_count t y g body (turn_begun ps j (turns (run_turn ps body t) j 0 w)) (turn_begun ps j (turns (run_turn ps body y) j 0 v)) (chooses j less))))

  -- ---- where no host of the coalition takes part nothing is given

  module _ (g : ℕ) (t : Tape) where
    given_none : (ps : List Part) → (Concerns ps K → ⊥) → (x : Gadget) → ActsAreWithin ps (acts_of_gadget x) → (w : Hosts) → given_by K g x w ≡ []
    given_none ps out (Alone h a) i w = refl
    given_none ps out (Tells a said b heard) i w = refl
    given_none ps out (Shares a r b heard) i w = place_none (nat_eq a.0 g && K b.0) ((w g).cursors OwnWords) (none_true (nat_eq a.0 g) (K b.0) (all_outside ps K out b.0 i.1.0.1))
    given_none ps out (BothShare a r heard b q heard_b) i w =
        place_none ((nat_eq a.0 g && K b.0) || (nat_eq b.0 g && K a.0)) ((w g).cursors OwnWords)
        (neither_true (nat_eq a.0 g && K b.0) (nat_eq b.0 g && K a.0) (none_true (nat_eq a.0 g) (K b.0) (all_outside ps K out b.0 i.1.0)) (none_true (nat_eq b.0 g) (K a.0) (all_outside ps K out a.0 i.0)))
    given_none ps out (Opens sharing a x b y heard) i w = refl
    given_none ps out (Masked sharing m n) i w = refl
    given_none ps out (Paired p q) i w = refl

    pub places_none : (ps : List Part) → (Concerns ps K → ⊥) → (plan : Plan Gadget) → PlanIsWithin ps plan → (w : Hosts) → places K g t plan w ≡ []
    places_none ps out Ends i w = refl
    places_none ps out (Then x rest) i w =
        ap₂ (λ (a b : List ℕ). a ++ b) (given_none ps out x i.0 w) (places_none ps out rest i.1 (run_acts t (acts_of_gadget x) w))
    places_none ps out (Branch qs first other rest) i w =
        ap₂ (λ (b : Bool) (z : List ℕ). (if b then (if is_other qs w then places K g t other w else places K g t first w) else []) ++ z)
        (not_looking K qs (λ c. out (c.0, (c.1.0, i.0 c.0 c.1.1)))) (places_none ps out rest i.1 (run_branch qs first other t w))
    places_none ps out (Loop qs count body rest) i w =
        ap₂ (λ (b : Bool) (z : List ℕ). (if b then in_turns (λ j x. places K g t body (turn_begun qs j x)) (run_turn qs body t) count 0 w else []) ++ z)
        (not_looking K qs (λ c. out (c.0, (c.1.0, i.0 c.0 c.1.1)))) (places_none ps out rest i.1 (turns (run_turn qs body t) count 0 w))

  pub own_idle : (t y : Tape) (ps : List Part) (plan : Plan Gadget) → PlanIsWithin ps plan → (Concerns ps K → ⊥) → (w v : Hosts) → OwnAlike K t y plan w v
  own_idle t y ps plan i out w v = λ g o.
      subst (λ (z : List ℕ). AsFar (t g OwnWords) (y g OwnWords) z (places K g y plan v)) (sym (places_none g t ps out plan i w)) tt
