-- Where a list of protocols is valid, some host may read each guard with a statement in its branches.
use Rattle.std.proofs.Common.{◌≡◌, ℕ, zero, suc, ◌*◌, ◌<◌, nat_eq, nat_lt, Bool, true, false, true≢false, ◌&&◌, ◌||◌, not, if◌then◌else◌, Some, None, List, [], ◌∷◌, ◌++◌, length, map, slice_get, slice_index_or, refl, sym, ap, ◌∙◌, subst, arith}
use Rattle.std.specs.Prelude.{Option, is_some}
use Rattle.std.specs.List.{list_all, list_any}
use Rattle.std.specs.Option.{option_map_or}
use Rattle.std.proofs.lemmas.Bool.{and_parts, eqb-true, eq-eqb, ltb-true, or_right}
use Rattle.std.proofs.lemmas.List.{length-map}
use Rattle.std.proofs.lemmas.List.Concat.{flat_map-cons}
use Rattle.std.proofs.lemmas.List.Folds.{list_all-append}
use Rattle.vd_base.specs.declared.ids.SlotId.{SlotId}
use Rattle.vd_base.specs.declared.ids.HostId.{HostId}
use Rattle.vd_base.specs.declared.protocols.Proto.TheVariants.{Local}
use Rattle.vd_base.specs.Costs.{cost_at}
use Rattle.vd_base.specs.HostSets.{host, same_host}
use Rattle.vd_core.specs.declared.normal.NormalForm.{NormalForm}
use Rattle.vd_core.specs.declared.normal.Stmt.{Stmt, roll-Stmt, map-Stmt, ind-Stmt}
use Rattle.vd_core.specs.declared.normal.Stmt.TheOpen.{Stmt-F}
use Rattle.vd_core.specs.declared.normal.Stmt.TheFolds.{fold-roll-Stmt}
use Rattle.vd_core.specs.declared.normal.Written.{Written}
use Rattle.vd_core.specs.Facts.{IsWellMade}
use Rattle.vd_formula.specs.declared.label.Label.{Label}
use Rattle.vd_constraints.specs.declared.labels.Labels.{Labels}
use Rattle.vd_constraints.specs.declared.system.Place.TheVariants.{Slot as slot_place}
use Rattle.vd_constraints.specs.Rules.{label, host_label, system_of}
use Rattle.vd_constraints.specs.Satisfies.{label_at, no_label, Satisfies}
use Rattle.vd_constraints.specs.Scoped.{is_below, right_below, stmt_below, slots_below}
use Rattle.vd_constraints.proofs.Front.{well_made_scoped}
use Rattle.vd_protocol.specs.Authority.{authority_of, label_of}
use Rattle.vd_space.specs.declared.problem.Problem.{Problem}
use Rattle.vd_space.specs.declared.problem.Making.{Making}
use Rattle.vd_space.specs.declared.problem.Guard.{Guard}
use Rattle.vd_space.specs.Reading.{Read, named_by, all_parts, all_named, guard_of, read_step, read_stmt, problem_of}
use Rattle.vd_space.specs.Validity.{protocols, protocol, covers, may_read, holds_at, if_decided, move_to_host, is_told, takes_part, guard_told}
use Rattle.vd_space.proofs.Front.{IsValid, parts_of, as_many as as_many_slots}
use Rattle.vd_formula.specs.TruthTable.{acts}
use Rattle.vd_space.specs.Cheapest.{IsValid as IsValidList}
use Rattle.vd_noninter_protocols.proofs.Front.{label_of_slot, stand_at, of_host}
use Rattle.vd_rewrite.specs.Rewriting.{Rewriting, all_pure, some_changed, is_some as some_in, is_hidden, kept_let, rewriting_step, rewriting, rewritings, is_within}
use Rattle.vd_mux.specs.Selections.{with_selections, turned}
use Rattle.vd_mux.specs.BooleanGuards.{has_boolean_guards}
use Rattle.vd_rewrite.specs.Rewriting.{marked}
use Rattle.vd_mux.specs.Hidden.{some_reads, hidden_marks, turn_of}
use Rattle.vd_mux.proofs.Front.{found}
use Rattle.vd_cmd_rewrite.specs.Unchanged.{ChosenProgramsStay}
use Rattle.vd_cmd_rewrite.proofs.Held.{Holder, is_held_by}

own_label : (p : NormalForm) (labels : List Written) (i : ℕ) (d e : Label) → i < length labels → slice_index_or (map (label p) labels) i d ≡ option_map_or (label p) (slice_get labels i) e
own_label p [] i d e low = absurd (omega arith)
own_label p (one ∷ more) zero d e low = refl
own_label p (one ∷ more) (suc i) d e low = own_label p more i d e (omega arith)

pub item_there : (list : List ℕ) (k : ℕ) → k < length list → (q : ℕ) × (slice_get list k ≡ Some q)
item_there [] k low = absurd (omega arith)
item_there (x ∷ xs) zero low = (x, refl)
item_there (x ∷ xs) (suc k) low = item_there xs k (omega arith)

-- a slot among others
abbrev IsIn : SlotId → List SlotId → Type 0
IsIn x xs = list_any (λ (y : SlotId). nat_eq x.0 y.0) xs ≡ true

any_first : {A : Type 0} (f : A → Bool) (xs ys : List A) → list_any f xs ≡ true → list_any f (xs ++ ys) ≡ true
any_first f [] ys h = absurd (true≢false (sym h))
any_first f (x ∷ xs) ys h = by (f x) h (any_first f xs ys)
  where
    by : (b : Bool) → (b || list_any f xs) ≡ true → (list_any f xs ≡ true → list_any f (xs ++ ys) ≡ true) → (b || list_any f (xs ++ ys)) ≡ true
    by true e later = refl
    by false e later = later e

any_in : (f : SlotId → Bool) (x : SlotId) (xs : List SlotId) → IsIn x xs → f x ≡ true → list_any f xs ≡ true
any_in f x [] h is = absurd (true≢false (sym h))
any_in f x (y ∷ ys) h is = by (nat_eq x.0 y.0) refl h (λ later. any_in f x ys later is)
  where
    by : (b : Bool) → nat_eq x.0 y.0 ≡ b → (b || list_any (λ (y : SlotId). nat_eq x.0 y.0) ys) ≡ true → (IsIn x ys → list_any f ys ≡ true) → (f y || list_any f ys) ≡ true
    by true e h' later = ap (λ (k : ℕ). f (record { 0 = k }) || list_any f ys) (sym (eqb-true x.0 y.0 e)) ∙ ap (λ b. b || list_any f ys) is
    by false e h' later = or_later (f y) (later h')
      where
        or_later : (b : Bool) → list_any f ys ≡ true → (b || list_any f ys) ≡ true
        or_later true k = refl
        or_later false k = k

self_in : (x : SlotId) (xs : List SlotId) → IsIn x (x ∷ xs)
self_in x xs = ap (λ b. b || list_any (λ (y : SlotId). nat_eq x.0 y.0) xs) (eq-eqb x.0 x.0 refl)

-- an item of a mapped list
mark_at : (f : Label → Bool) (labels : List Label) (k : ℕ) (d : Label) → slice_index_or (map f labels) k false ≡ true → f (slice_index_or labels k d) ≡ true
mark_at f [] k d h = absurd (true≢false (sym h))
mark_at f (x ∷ xs) zero d h = h
mark_at f (x ∷ xs) (suc k) d h = mark_at f xs k d h

module _ (p : NormalForm) (l : Labels) (list : List ℕ) (well : IsWellMade p) (satisfies : Satisfies (system_of p) l) (assigned : IsValidList (problem_of p l) list) where
  abbrev problem : Problem
  problem = problem_of p l

  abbrev n : ℕ
  n = length p.slots

  abbrev hides : SlotId → Bool
  hides = marked (hidden_marks p l)

  valid : IsValid problem list
  valid = parts_of problem list assigned.valid

  as_many : length problem.hosts ≡ length p.hosts
  as_many = length-map p.labels (label p) ∙ well.labels

  own_is : (h : HostId) → h.0 < length p.hosts → label_of problem.hosts h ≡ host_label p h
  own_is h low = own_label p p.labels h.0 _ _ (let e = well.labels in omega (arith, e, low))

  -- no host may read what is hidden
  not_read : (g : SlotId) (h : HostId) → h.0 < length p.hosts → hides g ≡ true → may_read problem h g.0 ≡ true → ⊥
  not_read g h low hidden may = by (slice_get problem.slots g.0) refl may
    where
      by : (o : Option Making) → slice_get problem.slots g.0 ≡ o → option_map_or (λ (making : Making). acts (label_of problem.hosts h).conf making.label.conf) o false ≡ true → ⊥
      by None at m = true≢false (sym m)
      by (Some making) at m =
          let same : making.label ≡ label_at l (slot_place g) = label_of_slot l p well g.0 making at in
          let reads : acts (host_label p h).conf (label_at l (slot_place g)).conf ≡ true =
          subst (λ (z : Label). acts z.conf (label_at l (slot_place g)).conf ≡ true) (own_is h low) (subst (λ (z : Label). acts (label_of problem.hosts h).conf z.conf ≡ true) same m) in
          let some = found p (label_at l (slot_place g)) (length p.hosts) h.0 low reads in
          let none = mark_at (λ label. not (some_reads p (length p.hosts) label)) l.slots g.0 no_label hidden in
          true≢false (sym none ∙ ap not some)

  -- some host has a slot that is made
  holder_of : (x : SlotId) → x.0 < n → (q : ℕ) × ((slice_get list x.0 ≡ Some q) × Holder (length problem.hosts) (protocol problem q))
  holder_of x low =
      let there = item_there list x.0 (let e = assigned.whole in let e' = as_many_slots p l well in omega (arith, e, e', low)) in
      let stands = stand_at problem problem.slots list x.0 there.0 valid.stands there.1 in
      let making = stands.0 in
      let first = and_parts (nat_lt there.0 (length (protocols problem)) && is_some (cost_at making.row (protocol problem there.0))) (covers (authority_of (protocol problem there.0) problem.hosts) making.label) stands.1.1 in
      let second = and_parts (nat_lt there.0 (length (protocols problem))) (is_some (cost_at making.row (protocol problem there.0))) first.0 in
      let few = well.limits.hosts in
      let e = as_many in
      (there.0, (there.1, is_held_by (length problem.hosts) there.0 (Local (host 0)) (omega (arith, few, e)) (ltb-true there.0 (length (protocols problem)) second.0)))

  -- so a guard with a slot that its branches name is not hidden
  not_hidden : (guard : Guard) (x : SlotId) → x.0 < n → IsIn x guard.slots → guard_told problem list guard ≡ true → hides guard.slot ≡ true → ⊥
  not_hidden guard x low is told hidden =
      let held = holder_of x low in
      let h = held.1.1.host in
      let here : option_map_or (holds_at problem h) (slice_get list x.0) false ≡ true = ap (λ (o : Option ℕ). option_map_or (holds_at problem h) o false) held.1.0 ∙ held.1.1.holds in
      let part = any_in (λ slot. option_map_or (holds_at problem h) (slice_get list slot.0) false) x guard.slots is here in
      let takes : takes_part problem list guard h ≡ true = or_right (list_any (same_host h) guard.hosts) (list_any (λ slot. option_map_or (holds_at problem h) (slice_get list slot.0) false) guard.slots) part in
      let test = of_host (λ k. not (takes_part problem list guard k) || is_told problem list k guard.slot) 0 (length problem.hosts) h.0 told (omega arith) (let lt = held.1.1.low in omega (arith, lt)) in
      not_read guard.slot h (let lt = held.1.1.low in let e = as_many in omega (arith, lt, e)) hidden (told_read h takes test)
    where
      told_read : (h : HostId) → takes_part problem list guard h ≡ true → (not (takes_part problem list guard h) || is_told problem list h guard.slot) ≡ true → may_read problem h guard.slot.0 ≡ true
      told_read h takes test =
          (and_parts (may_read problem h guard.slot.0) (if_decided list guard.slot (λ q. is_some (move_to_host problem h q))) (subst (λ b. (not b || is_told problem list h guard.slot) ≡ true) takes test)).0

  -- ---- all statements

  abbrev the : Stmt → Rewriting
  the = rewriting hides (kept_let p.slots) p.slots

  abbrev read : Stmt → Read
  read = read_stmt l

  abbrev below : Stmt → Bool
  below = slots_below n

  abbrev all_told : List Guard → Bool
  all_told guards = list_all (guard_told problem list) guards

  abbrev Named : List SlotId → Type 0
  Named xs = (x : SlotId) × ((x.0 < n) × IsIn x xs)

  record Fact (r : Rewriting) (d : Read) (b : Bool) : Type 0 where
    pub unchanged : (w : ℕ) → all_told (d.parts w).guards ≡ true → b ≡ true → r.is_changed ≡ false
    pub named : r.is_pure ≡ true → b ≡ true → Named d.named

  abbrev M : Type 0
  M = (s : Stmt) × Fact (the s) (read s) (below s)

  abbrev stmts : List M → List Stmt
  stmts ms = map (λ (m : M). m.0) ms

  abbrev runs : List M → List Rewriting
  runs ms = map the (stmts ms)

  abbrev reads : List M → List Read
  reads ms = map read (stmts ms)

  abbrev lows : List M → List Bool
  lows ms = map below (stmts ms)

  guards_split : (a b : List Guard) → all_told (a ++ b) ≡ true → (all_told a ≡ true) × (all_told b ≡ true)
  guards_split a b h = and_parts (all_told a) (all_told b) (sym (list_all-append (guard_told problem list) a b) ∙ h)

  all_unchanged : (ms : List M) (w : ℕ) → all_told (all_parts (reads ms) w).guards ≡ true → list_all (λ b. b) (lows ms) ≡ true → some_changed (runs ms) ≡ false
  all_unchanged [] w h low = refl
  all_unchanged (q ∷ ms) w h low =
      let g = guards_split ((read q.0).parts w).guards (all_parts (reads ms) w).guards h in
      let b = and_parts (below q.0) (list_all (λ b. b) (lows ms)) low in
      rw (q.1.unchanged w g.0 b.0, all_unchanged ms w g.1 b.1) refl

  first_named : (q : M) (rs : List Read) → (the q.0).is_pure ≡ true → below q.0 ≡ true → Named (all_named (read q.0 ∷ rs))
  first_named q rs pure low =
      let r = q.1.named pure low in
      (r.0, (r.1.0, subst (λ (xs : List SlotId). IsIn r.0 xs) (sym (flat_map-cons (λ (d : Read). d.named) (read q.0) rs)) (any_first (λ (y : SlotId). nat_eq r.0.0 y.0) (read q.0).named (all_named rs) r.1.1)))

  branches_named : (a b : List M) → (all_pure (runs a) && all_pure (runs b)) ≡ true → (some_in (runs a) || some_in (runs b)) ≡ true → list_all (λ b. b) (lows a) ≡ true → list_all (λ b. b) (lows b) ≡ true → Named (all_named (reads a ++ reads b))
  branches_named (q ∷ a) b pure some la lb =
      let h = and_parts (all_pure (runs (q ∷ a))) (all_pure (runs b)) pure in
      first_named q (reads a ++ reads b) (and_parts (the q.0).is_pure (all_pure (runs a)) h.0).0 (and_parts (below q.0) (list_all (λ b. b) (lows a)) la).0
  branches_named [] (q ∷ b) pure some la lb = first_named q (reads b) (and_parts (the q.0).is_pure (all_pure (runs b)) pure).0 (and_parts (below q.0) (list_all (λ b. b) (lows b)) lb).0
  branches_named [] [] pure some la lb = absurd (true≢false (sym some))

  abbrev layer : Stmt-F M → Stmt-F Stmt
  layer = map-Stmt M Stmt (λ m. m.0)

  abbrev Layered : Stmt-F Stmt → Type 0
  Layered y = Fact (rewriting_step hides (kept_let p.slots) p.slots (map-Stmt Stmt Rewriting the y)) (read_step l (map-Stmt Stmt Read read y)) (stmt_below n (map-Stmt Stmt Bool below y))

  one_slot : (x : SlotId) (xs : List SlotId) (b : Bool) → (is_below n x && b) ≡ true → Named (x ∷ xs)
  one_slot x xs b h = (x, (ltb-true x.0 n (and_parts (is_below n x) b h).0, self_in x xs))

  if_hidden : (g : SlotId) (a b : List M) (w : ℕ) → guard_told problem list (guard_of g w (reads a ++ reads b)) ≡ true → list_all (λ b. b) (lows a) ≡ true → list_all (λ b. b) (lows b) ≡ true → is_hidden hides g (runs a) (runs b) ≡ false
  if_hidden g a b w told la lb = by (is_hidden hides g (runs a) (runs b)) refl
    where
      by : (c : Bool) → is_hidden hides g (runs a) (runs b) ≡ c → is_hidden hides g (runs a) (runs b) ≡ false
      by false e = e
      by true e =
          let h = and_parts (hides g && (all_pure (runs a) && all_pure (runs b))) (some_in (runs a) || some_in (runs b)) e in
          let h' = and_parts (hides g) (all_pure (runs a) && all_pure (runs b)) h.0 in
          let x = branches_named a b h'.1 h.1 la lb in
          absurd (not_hidden (guard_of g w (reads a ++ reads b)) x.0 x.1.0 x.1.1 told h'.0)

  step : (y : Stmt-F M) → Layered (layer y)
  step (Stmt-F.Let x r) = record { unchanged = λ w h low. refl; named = λ pure low. one_slot x (named_by r) (right_below n r) low }
  step (Stmt-F.NewVar v y) = record { unchanged = λ w h low. refl; named = λ pure low. one_slot v (y ∷ []) (is_below n y) low }
  step (Stmt-F.NewArray v cells) = record { unchanged = λ w h low. refl; named = λ pure low. absurd (true≢false (sym pure)) }
  step (Stmt-F.Store v y) = record { unchanged = λ w h low. refl; named = λ pure low. one_slot v (y ∷ []) (is_below n y) low }
  step (Stmt-F.Put v i y) = record { unchanged = λ w h low. refl; named = λ pure low. absurd (true≢false (sym pure)) }
  step (Stmt-F.Output y host offset) = record { unchanged = λ w h low. refl; named = λ pure low. absurd (true≢false (sym pure)) }
  step (Stmt-F.If g a b offset) =
      record {
        unchanged = λ w h low.
            let own = and_parts (guard_told problem list (guard_of g w (reads a ++ reads b))) (all_told ((all_parts (reads a) w).guards ++ (all_parts (reads b) w).guards)) h in
            let inner = guards_split (all_parts (reads a) w).guards (all_parts (reads b) w).guards own.1 in
            let lb = and_parts (is_below n g && list_all (λ b. b) (lows a)) (list_all (λ b. b) (lows b)) low in
            let la = and_parts (is_below n g) (list_all (λ b. b) (lows a)) lb.0 in
            rw (if_hidden g a b w own.0 la.1 lb.1, all_unchanged a w inner.0 la.1, all_unchanged b w inner.1 lb.1) refl;
        named = λ pure low.
            let lb = and_parts (is_below n g && list_all (λ b. b) (lows a)) (list_all (λ b. b) (lows b)) low in
            one_slot g (all_named (reads a) ++ all_named (reads b)) (list_all (λ b. b) (lows a)) lb.0;
      }
  step (Stmt-F.For count body) = record { unchanged = λ w h low. all_unchanged body (w * count) h low; named = λ pure low. absurd (true≢false (sym pure)) }

  at_roll : (y : Stmt-F Stmt) → Layered y → Fact (the (roll-Stmt y)) (read (roll-Stmt y)) (below (roll-Stmt y))
  at_roll y h =
      subst (λ (z : Rewriting). Fact z (read (roll-Stmt y)) (below (roll-Stmt y))) (sym (fold-roll-Stmt Rewriting (rewriting_step hides (kept_let p.slots) p.slots) y))
      (subst (λ (z : Read). Fact (rewriting_step hides (kept_let p.slots) p.slots (map-Stmt Stmt Rewriting the y)) z (below (roll-Stmt y))) (sym (fold-roll-Stmt Read (read_step l) y))
      (subst (λ (z : Bool). Fact (rewriting_step hides (kept_let p.slots) p.slots (map-Stmt Stmt Rewriting the y)) (read_step l (map-Stmt Stmt Read read y)) z) (sym (fold-roll-Stmt Bool (stmt_below n) y)) h))

  fact : (s : Stmt) → Fact (the s) (read s) (below s)
  fact = ind-Stmt (λ s. Fact (the s) (read s) (below s)) (λ x y is. subst (λ z. Fact (the (roll-Stmt z)) (read (roll-Stmt z)) (below (roll-Stmt z))) is (at_roll (layer y) (step y)))

  abbrev with_facts : List Stmt → List M
  with_facts [] = []
  with_facts (s ∷ ss) = (s, fact s) ∷ with_facts ss

  with_stmts : (ss : List Stmt) → stmts (with_facts ss) ≡ ss
  with_stmts [] = refl
  with_stmts (s ∷ ss) = ap (λ (z : List Stmt). s ∷ z) (with_stmts ss)

  body_unchanged : some_changed (rewritings hides (kept_let p.slots) p.slots p.body) ≡ false
  body_unchanged =
      subst (λ (z : List Stmt). some_changed (map the z) ≡ false) (with_stmts p.body)
      (all_unchanged (with_facts p.body) 1
      (subst (λ (z : List Stmt). all_told (all_parts (map read z) 1).guards ≡ true) (sym (with_stmts p.body)) valid.guards)
      (subst (λ (z : List Stmt). list_all (λ b. b) (map below z) ≡ true) (sym (with_stmts p.body)) (well_made_scoped p well).named_slots))

  turned_same : turned hides p ≡ p
  turned_same = ap (λ b. if b && is_within (with_selections hides p) then with_selections hides p else p) body_unchanged

  stays : turn_of p l ≡ p
  stays = by (has_boolean_guards p)
    where
      by : (b : Bool) → (if b then turned hides p else p) ≡ p
      by true = turned_same
      by false = refl

pub programs_stay : ChosenProgramsStay
programs_stay p l protocols well satisfies assigned = stays p l assigned.places well satisfies assigned.is_valid
