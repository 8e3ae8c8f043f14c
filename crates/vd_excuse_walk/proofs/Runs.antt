-- All hosts in one run, as a list and as a function.
use Rattle.std.proofs.Common.{◌≡◌, ◌≢◌, ℕ, nat_eq, Bool, true, false, if◌then◌else◌, List, [], ◌∷◌, ◌++◌, map, refl, sym, ap, ap₂, subst, subst₂, ◌∙◌, inl, inr}
use Rattle.std.specs.Prelude.{◌||◌}
use Rattle.std.proofs.lemmas.List.Folds.{list_any-append}
use Rattle.std.proofs.lemmas.Bool.{eq-eqb, ne_eqb}
use Rattle.std.proofs.lemmas.Bool.Decides.{eqb_tells}
use Rattle.vd_execution.specs.declared.instructions.Reg.{Reg}
use Rattle.vd_execution.specs.Registers as registers
use Rattle.vd_execution.specs.Step.{words_in}
use Rattle.vd_execution.specs.Joint.{Part, Host, Hosts, said_to, has_heard as hears, if_part, is_other as other, turn_begun}
use Rattle.vd_excuse_runs.specs.declared.side.Side.{Side}
use Rattle.vd_excuse_runs.specs.Sides.{counted, empty_side, has_heard, said_words}
use Rattle.vd_excuse_runs.specs.Runs.{side_at, put_side, is_other, stood, next_begun, begun_behind, begun}
use Rattle.vd_excuse_walk.specs.Supplies.{lists_of}
use Rattle.vd_excuse_walk.proofs.Held.{put_same, put_other, held_put, held_each}
use Rattle.vd_excuse_walk.specs.Following.{Stands}

-- ---- one host is changed

pub side_here : (run : List Side) (h : ℕ) (s : Side) (g : ℕ) → g ≡ h → side_at (put_side run h s) g ≡ s
side_here run h s g e = ap (side_at (put_side run h s)) e ∙ put_same empty_side run h s

pub side_there : (run : List Side) (h : ℕ) (s : Side) (g : ℕ) → g ≢ h → side_at (put_side run h s) g ≡ side_at run g
side_there run h s g ne = put_other empty_side run h g s ne

pub host_here : {A : Type 0} (w : ℕ → A) (h : ℕ) (x : A) (g : ℕ) → g ≡ h → registers.put w h x g ≡ x
unfolding registers.put
host_here {A = A} w h x g e = ap (λ (b : Bool). if b then x else w g) (eq-eqb g h e)

host_there : {A : Type 0} (w : ℕ → A) (h : ℕ) (x : A) (g : ℕ) → g ≢ h → registers.put w h x g ≡ w g
unfolding registers.put
host_there {A = A} w h x g ne = ap (λ (b : Bool). if b then x else w g) (ne_eqb g h ne)

pub stands_put : (run : List Side) (w : Hosts) (h : ℕ) (s : Side) (x : Host) → ((g : ℕ) → Stands (side_at run g) (w g)) → Stands s x → (g : ℕ) → Stands (side_at (put_side run h s) g) (registers.put w h x g)
stands_put run w h s x all one g =
    elim (eqb_tells g h) [
      | inl e ↦ subst₂ Stands (sym (side_here run h s g e.1)) (sym (host_here w h x g e.1)) one
      | inr e ↦ subst₂ Stands (sym (side_there run h s g e.1)) (sym (host_there w h x g e.1)) (all g)
    ]

pub lists_put : (run : List Side) (h : ℕ) (s : Side) → lists_of s ≡ lists_of (side_at run h) → (g : ℕ) → lists_of (side_at (put_side run h s) g) ≡ lists_of (side_at run g)
lists_put run h s same g =
    elim (eqb_tells g h) [
      | inl e ↦ ap lists_of (side_here run h s g e.1) ∙ same ∙ ap (λ k. lists_of (side_at run k)) (sym e.1)
      | inr e ↦ ap lists_of (side_there run h s g e.1)
    ]

-- ---- a message

said_stands : (run : List Side) (w : Hosts) (a b : ℕ) (words : List ℕ) → ((g : ℕ) → Stands (side_at run g) (w g)) → (g : ℕ) → Stands (side_at run g) (registers.put w a (said_to b words (w a)) g)
said_stands run w a b words all g =
    elim (eqb_tells g a) [
      | inl e ↦ subst (Stands (side_at run g)) (sym (host_here w a (said_to b words (w a)) g e.1))
          (let P : ℕ → Type 0 = λ k. Stands (side_at run k) (said_to b words (w a)) in
          let at : Stands (side_at run a) (said_to b words (w a)) = record { registers = (all a).registers; taken = (all a).taken } in subst P (sym e.1) at)
      | inr e ↦ subst (Stands (side_at run g)) (sym (host_there w a (said_to b words (w a)) g e.1)) (all g)
    ]

words_said : (run : List Side) (w : Hosts) (a : ℕ) (said : List Reg) → Stands (side_at run a) (w a) → said_words (side_at run a).registers said ≡ words_in (w a).registers said
words_said run w a said is = ap (λ (f : ℕ → ℕ). map (λ (r : Reg). f r.0) said) is.registers

heard_stands : (s : Side) (x : Host) (heard : List Reg) (ws vs : List ℕ) → Stands s x → ws ≡ vs → Stands (has_heard heard ws s) (hears heard vs x)
heard_stands s x heard ws vs is e = record {
  registers = held_each s.registers heard ws ∙ ap₂ (λ (f : ℕ → ℕ) (l : List ℕ). registers.put_each f heard l) is.registers e;
  taken = is.taken;
}

pub msg_stands : (run : List Side) (w : Hosts) (a : ℕ) (said : List Reg) (b : ℕ) (heard : List Reg) → ((g : ℕ) → Stands (side_at run g) (w g))
    → (g : ℕ) → Stands (side_at (put_side run b (has_heard heard (said_words (side_at run a).registers said) (side_at run b))) g)
    (registers.put (registers.put w a (said_to b (words_in (w a).registers said) (w a))) b (hears heard (words_in (w a).registers said) (w b)) g)
msg_stands run w a said b heard all =
    stands_put run (registers.put w a (said_to b (words_in (w a).registers said) (w a))) b (has_heard heard (said_words (side_at run a).registers said) (side_at run b))
    (hears heard (words_in (w a).registers said) (w b)) (said_stands run w a b (words_in (w a).registers said) all)
    (heard_stands (side_at run b) (w b) heard _ _ (all b) (words_said run w a said (all a)))

-- ---- guards

pub other_same : (ps : List Part) (run : List Side) (w : Hosts) → ((g : ℕ) → Stands (side_at run g) (w g)) → is_other ps run ≡ other ps w
other_same [] run w all = refl
other_same (p ∷ ps) run w all = ap (λ (f : ℕ → ℕ). nat_eq (f p.1) 0) (all p.0).registers

-- ---- counters

or_false : (b : Bool) → (b || false) ≡ b
or_false true = refl
or_false false = refl

one_more : (h : ℕ) (before : List Part) (p : Part) → stood h (before ++ p ∷ []) ≡ (stood h before || nat_eq p.0 h)
one_more h before p = list_any-append (λ (q : Part). nat_eq q.0 h) before (p ∷ []) ∙ ap (λ (b : Bool). stood h before || b) (or_false (nat_eq p.0 h))

-- the next host's counter is set, unless it stood before
next_side : (before : List Part) (p : Part) (turn : ℕ) (run : List Side) (h : ℕ) (b c : Bool) → stood p.0 before ≡ b → nat_eq h p.0 ≡ c
    → side_at (next_begun before p turn run) h ≡ (if b then side_at run h else (if c then counted p.1 turn (side_at run h) else side_at run h))
next_side before p turn run h true c e f = ap (λ (x : Bool). side_at (if x then run else put_side run p.0 (counted p.1 turn (side_at run p.0))) h) e
next_side before p turn run h false true e f =
    let same : h ≡ p.0 = elim (eqb_tells h p.0) [ inl z ↦ z.1 | inr z ↦ absurd (let no : true ≡ false = sym f ∙ z.0 in cc) ] in
    ap (λ (x : Bool). side_at (if x then run else put_side run p.0 (counted p.1 turn (side_at run p.0))) h) e
    ∙ side_here run p.0 (counted p.1 turn (side_at run p.0)) h same ∙ ap (λ k. counted p.1 turn (side_at run k)) (sym same)
next_side before p turn run h false false e f =
    let apart : h ≢ p.0 = elim (eqb_tells h p.0) [ inl z ↦ absurd (let no : false ≡ true = sym f ∙ z.0 in cc) | inr z ↦ z.1 ] in
    ap (λ (x : Bool). side_at (if x then run else put_side run p.0 (counted p.1 turn (side_at run p.0))) h) e
    ∙ side_there run p.0 (counted p.1 turn (side_at run p.0)) h apart

same_if : {X : Type 0} (b : Bool) (x : X) → (if b then x else x) ≡ x
same_if true x = refl
same_if false x = refl

same_number : (h k : ℕ) → nat_eq h k ≡ true → h ≡ k
same_number h k e = elim (eqb_tells h k) [ inl z ↦ z.1 | inr z ↦ absurd (let no : true ≡ false = sym e ∙ z.0 in cc) ]

flip : (p q : ℕ) → nat_eq p q ≡ nat_eq q p
flip p q =
    elim (eqb_tells p q) [
      | inl e ↦ e.0 ∙ sym (eq-eqb q p (sym e.1))
      | inr e ↦ e.0 ∙ sym (ne_eqb q p (λ x. e.1 (sym x)))
    ]

next_is : (before : List Part) (p : Part) (turn : ℕ) (run : List Side) (h : ℕ) (b c : Bool) → stood h before ≡ b → nat_eq h p.0 ≡ c
    → side_at (next_begun before p turn run) h ≡ (if b then side_at run h else (if c then counted p.1 turn (side_at run h) else side_at run h))
next_is before p turn run h b true e f =
    next_side before p turn run h (stood p.0 before) true refl f
    ∙ ap (λ (x : Bool). if x then side_at run h else counted p.1 turn (side_at run h)) (ap (λ k. stood k before) (sym (same_number h p.0 f)) ∙ e)
next_is before p turn run h b false e f =
    next_side before p turn run h (stood p.0 before) false refl f ∙ same_if (stood p.0 before) (side_at run h) ∙ sym (same_if b (side_at run h))

begun_side : (ps before : List Part) (turn : ℕ) (run : List Side) (h : ℕ)
    → side_at (begun_behind before ps turn run) h ≡ (if stood h before then side_at run h else if_part ps h (λ c. counted c turn (side_at run h)) (side_at run h))
begun_side [] before turn run h = sym (same_if (stood h before) (side_at run h))
begun_side (p ∷ ps) before turn run h =
    begun_side ps (before ++ p ∷ []) turn (next_begun before p turn run) h
    ∙ ap (λ (x : Bool). if x then side_at (next_begun before p turn run) h else if_part ps h (λ c. counted c turn (side_at (next_begun before p turn run) h)) (side_at (next_begun before p turn run) h))
    (one_more h before p ∙ ap (λ (x : Bool). stood h before || x) (flip p.0 h))
    ∙ at (stood h before) (nat_eq h p.0) refl refl
  where
    at : (b c : Bool) → stood h before ≡ b → nat_eq h p.0 ≡ c
        → (if stood h before || nat_eq h p.0 then side_at (next_begun before p turn run) h else if_part ps h (λ x. counted x turn (side_at (next_begun before p turn run) h)) (side_at (next_begun before p turn run) h))
        ≡ (if stood h before then side_at run h else (if nat_eq h p.0 then counted p.1 turn (side_at run h) else if_part ps h (λ x. counted x turn (side_at run h)) (side_at run h)))
    at true c e f =
        ap (λ (x : Bool). if x || nat_eq h p.0 then side_at (next_begun before p turn run) h else if_part ps h (λ x. counted x turn (side_at (next_begun before p turn run) h)) (side_at (next_begun before p turn run) h)) e
        ∙ next_is before p turn run h true c e f
        ∙ sym (ap (λ (x : Bool). if x then side_at run h else (if nat_eq h p.0 then counted p.1 turn (side_at run h) else if_part ps h (λ x. counted x turn (side_at run h)) (side_at run h))) e)
    at false true e f =
        ap₂ (λ (x y : Bool). if x || y then side_at (next_begun before p turn run) h else if_part ps h (λ x. counted x turn (side_at (next_begun before p turn run) h)) (side_at (next_begun before p turn run) h)) e f
        ∙ next_is before p turn run h false true e f
        ∙ sym (ap₂ (λ (x y : Bool). if x then side_at run h else (if y then counted p.1 turn (side_at run h) else if_part ps h (λ x. counted x turn (side_at run h)) (side_at run h))) e f)
    at false false e f =
        ap₂ (λ (x y : Bool). if x || y then side_at (next_begun before p turn run) h else if_part ps h (λ x. counted x turn (side_at (next_begun before p turn run) h)) (side_at (next_begun before p turn run) h)) e f
        ∙ ap (λ (s : Side). if_part ps h (λ x. counted x turn s) s) (next_is before p turn run h false false e f)
        ∙ sym (ap₂ (λ (x y : Bool). if x then side_at run h else (if y then counted p.1 turn (side_at run h) else if_part ps h (λ x. counted x turn (side_at run h)) (side_at run h))) e f)

-- each host as its counter is set
begun_is : (ps : List Part) (turn : ℕ) (run : List Side) (h : ℕ) → side_at (begun ps turn run) h ≡ if_part ps h (λ c. counted c turn (side_at run h)) (side_at run h)
begun_is ps turn run h = begun_side ps [] turn run h

part_lists : (ps : List Part) (turn : ℕ) (s : Side) (h : ℕ) → lists_of (if_part ps h (λ c. counted c turn s) s) ≡ lists_of s
part_lists [] turn s h = refl
part_lists (p ∷ ps) turn s h = at (nat_eq h p.0) (part_lists ps turn s h)
  where
    at : (b : Bool) → lists_of (if_part ps h (λ c. counted c turn s) s) ≡ lists_of s → lists_of (if b then counted p.1 turn s else if_part ps h (λ c. counted c turn s) s) ≡ lists_of s
    at true later = refl
    at false later = later

pub begun_lists : (ps : List Part) (turn : ℕ) (run : List Side) (h : ℕ) → lists_of (side_at (begun ps turn run) h) ≡ lists_of (side_at run h)
begun_lists ps turn run h = ap lists_of (begun_is ps turn run h) ∙ part_lists ps turn (side_at run h) h

part_stands : (ps : List Part) (turn : ℕ) (s : Side) (x : Host) (h : ℕ) → Stands s x
    → Stands (if_part ps h (λ c. counted c turn s) s) (if_part ps h (λ c. record x { registers = registers.put x.registers c turn }) x)
part_stands [] turn s x h is = is
part_stands (p ∷ ps) turn s x h is = at (nat_eq h p.0) (part_stands ps turn s x h is)
  where
    at : (b : Bool) → Stands (if_part ps h (λ c. counted c turn s) s) (if_part ps h (λ c. record x { registers = registers.put x.registers c turn }) x)
        → Stands (if b then counted p.1 turn s else if_part ps h (λ c. counted c turn s) s)
        (if b then record x { registers = registers.put x.registers p.1 turn } else if_part ps h (λ c. record x { registers = registers.put x.registers c turn }) x)
    at true later = record { registers = held_put s.registers p.1 turn ∙ ap (λ (f : ℕ → ℕ). registers.put f p.1 turn) is.registers; taken = is.taken }
    at false later = later

pub begun_stands : (ps : List Part) (turn : ℕ) (run : List Side) (w : Hosts) → ((g : ℕ) → Stands (side_at run g) (w g)) → (g : ℕ) → Stands (side_at (begun ps turn run) g) (turn_begun ps turn w g)
begun_stands ps turn run w all g =
    let P : Side → Type 0 = λ s. Stands s (turn_begun ps turn w g) in
    subst P (sym (begun_is ps turn run g)) (part_stands ps turn (side_at run g) (w g) g (all g))
