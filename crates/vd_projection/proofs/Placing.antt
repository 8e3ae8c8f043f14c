-- What a program's problem tells of each statement, is what the theory of splitting asks of it.
use Rattle.std.proofs.Common.{◌≡◌, ℕ, suc, ◌+◌, ◌*◌, ◌<◌, nat_eq, ◌&&◌, ◌||◌, Bool, true, false, is_some, List, [], ◌∷◌, ◌++◌, ◌⊎◌, inl, inr, length, map, refl, sym, ap, subst, ◌∙◌, arith, length-append}
use Rattle.std.specs.List.{list_all, list_any}
use Rattle.std.proofs.lemmas.Bool.{eqb-true}
use Rattle.std.proofs.lemmas.List.Folds.{list_any-append}
use Rattle.vd_base.specs.declared.ids.HostId.{HostId}
use Rattle.vd_base.specs.declared.ids.SlotId.{SlotId}
use Rattle.vd_base.specs.declared.protocols.Proto.{Proto}
use Rattle.vd_base.specs.declared.protocols.Proto.TheVariants.{Local}
use Rattle.vd_base.specs.declared.rows.Row.{Row}
use Rattle.vd_base.specs.declared.rows.Row.TheVariants as row
use Rattle.vd_base.specs.Costs.{cost_at}
use Rattle.vd_base.specs.Moves.{move_at}
use Rattle.vd_base.specs.HostSets.{host}
use Rattle.vd_base.specs.Holders.{is_holder}
use Rattle.vd_core.specs.declared.normal.Right.{Right}
use Rattle.vd_core.specs.declared.normal.Right.TheVariants.{Lit, Turn, Copy, Apply, Input, Declassify, Endorse, Load, Get}
use Rattle.vd_core.specs.declared.normal.Stmt.TheOpen.{Stmt-F}
use Rattle.vd_core.specs.Facts.{Sight, Seeing, seeing_step, seeing_all, right_sees, is_binding, is_array, with_binding, with_variable, with_array}
use Rattle.vd_constraints.specs.declared.labels.Labels.{Labels}
use Rattle.vd_constraints.specs.Scoped.{is_below, right_below, stmt_below}
use Rattle.vd_space.specs.declared.problem.Making.{Making}
use Rattle.vd_space.specs.declared.problem.Use.{Use}
use Rattle.vd_space.specs.declared.problem.Output.{Output}
use Rattle.vd_space.specs.declared.problem.Guard.{Guard}
use Rattle.vd_space.specs.declared.problem.Index.{Index}
use Rattle.vd_space.specs.Reading.{Parts, Read, no_parts, joined, all_parts, all_named, all_told, named_by, use_of, guard_of, binding_parts, read_step}
use Rattle.vd_execution.specs.World.{Tape}
use Rattle.vd_split.specs.Block.{Block, End, Let, NewVar, NewArray, Store, Put, Output as Tell, If, For, each}
use Rattle.vd_split.specs.Joint.{Each}
use Rattle.vd_split.specs.Emission.{Emission, right_takes_part}
use Rattle.vd_split.specs.Validity.{emission_of, RightPlaced, Placed}
use Rattle.vd_split.proofs.Front.{and_left, and_right, or_left, or_right, or_cases, InRow, row_front, row_back, slots}
use Rattle.vd_backend_laws.specs.Machine.{machine}
use Rattle.vd_backend_laws.specs.Parts.{suite_calls}
use Rattle.vd_backend_laws.specs.Suite.{holds, joins, suite}

both : (a b : Bool) → a ≡ true → b ≡ true → (a && b) ≡ true
both true b p q = q
both false b p q = cc

each_front : {X : Type 0} (P : X → Type 0) (xs ys : List X) → Each P (xs ++ ys) → Each P xs
each_front P [] ys e = tt
each_front P (x ∷ xs) ys e = (e.0, each_front P xs ys e.1)

each_back : {X : Type 0} (P : X → Type 0) (xs ys : List X) → Each P (xs ++ ys) → Each P ys
each_back P [] ys e = e
each_back P (x ∷ xs) ys e = each_back P xs ys e.1

none_more : (k : ℕ) → k + 0 ≡ k
none_more k = omega arith

-- what a block sees
abbrev pub sees : Block → Seeing
sees b = seeing_all (each seeing_step b)

-- a host is among these
abbrev pub among : ℕ → List HostId → Bool
among h hs = list_any (λ k. nat_eq k.0 h) hs

module _ (many : ℕ) (proto : ℕ → Proto) where
  -- a host has a part of one of these slots
  abbrev pub stands_at : ℕ → List SlotId → Bool
  stands_at h xs = list_any (λ x. is_below many x && is_holder (proto x.0) (host h)) xs

  abbrev pub Stand : ℕ → List Making → Type 0
  Stand k [] = Unit {0}
  Stand k (m ∷ ms) = (is_some (cost_at m.row (proto k)) ≡ true) × Stand (k + 1) ms

  -- what the parts of a problem tell, where the first slot that is made has number k
  pub record Tells (hosts k : ℕ) (parts : Parts) : Type 0 where
    pub slots : Stand k parts.slots
    pub uses : Each (λ (u : Use). is_some (move_at (proto u.source.0) (proto u.target.0)) ≡ true) parts.uses
    pub outputs : Each (λ (o : Output). is_some (move_at (proto o.slot.0) (Local o.host)) ≡ true) parts.outputs
    pub guards : Each (λ (g : Guard). (h : ℕ) → h < hosts → (among h g.hosts || stands_at h g.slots) ≡ true → is_some (move_at (proto g.slot.0) (Local (host h))) ≡ true) parts.guards
    pub indexes : Each (λ (i : Index). (h : ℕ) → h < hosts → is_holder (proto i.array.0) (host h) ≡ true → is_some (move_at (proto i.index.0) (Local (host h))) ≡ true) parts.indexes

  stand_front : (k : ℕ) (xs ys : List Making) → Stand k (xs ++ ys) → Stand k xs
  stand_front k [] ys e = tt
  stand_front k (x ∷ xs) ys e = (e.0, stand_front (k + 1) xs ys e.1)

  stand_back : (k : ℕ) (xs ys : List Making) → Stand k (xs ++ ys) → Stand (k + length xs) ys
  stand_back k [] ys e = subst (λ z. Stand z ys) (sym (none_more k)) e
  stand_back k (x ∷ xs) ys e = subst (λ z. Stand z ys) (further k (length xs)) (stand_back (k + 1) xs ys e.1)
    where
      further : (k n : ℕ) → k + 1 + n ≡ k + suc n
      further k n = omega arith

  tells_front : (hosts k : ℕ) (a b : Parts) → Tells hosts k (joined a b) → Tells hosts k a
  tells_front hosts k a b t = record {
    slots = stand_front k a.slots b.slots t.slots;
    uses = each_front _ a.uses b.uses t.uses;
    outputs = each_front _ a.outputs b.outputs t.outputs;
    guards = each_front _ a.guards b.guards t.guards;
    indexes = each_front _ a.indexes b.indexes t.indexes;
  }

  tells_back : (hosts k : ℕ) (a b : Parts) → Tells hosts k (joined a b) → Tells hosts (k + length a.slots) b
  tells_back hosts k a b t = record {
    slots = stand_back k a.slots b.slots t.slots;
    uses = each_back _ a.uses b.uses t.uses;
    outputs = each_back _ a.outputs b.outputs t.outputs;
    guards = each_back _ a.guards b.guards t.guards;
    indexes = each_back _ a.indexes b.indexes t.indexes;
  }

  tells_at : (hosts k j : ℕ) (a : Parts) → k ≡ j → Tells hosts k a → Tells hosts j a
  tells_at hosts k j a e t = subst (λ z. Tells hosts z a) e t

module _ (l : Labels) where
  -- as many slots are told as are made
  pub as_many : (b : Block) (weight : ℕ) → length (all_parts (each (read_step l) b) weight).slots ≡ length (slots b)
  as_many End weight = refl
  as_many (Let x right rest) weight = ap suc (as_many rest weight)
  as_many (NewVar v x rest) weight = ap suc (as_many rest weight)
  as_many (NewArray v cells rest) weight = ap suc (as_many rest weight)
  as_many (Store v x rest) weight = as_many rest weight
  as_many (Put v i x rest) weight = as_many rest weight
  as_many (Tell x h offset rest) weight = as_many rest weight
  as_many (If x t e offset rest) weight =
      let a = length-append (all_parts (each (read_step l) t) weight).slots (all_parts (each (read_step l) e) weight).slots in
      let b = length-append ((all_parts (each (read_step l) t) weight).slots ++ (all_parts (each (read_step l) e) weight).slots) (all_parts (each (read_step l) rest) weight).slots in
      let c = length-append (slots t) (slots e) in
      let d = length-append (slots t ++ slots e) (slots rest) in
      let p = as_many t weight in
      let q = as_many e weight in
      let r = as_many rest weight in
      omega (arith, a, b, c, d, p, q, r)
  as_many (For count body rest) weight =
      let a = length-append (all_parts (each (read_step l) body) (weight * count)).slots (all_parts (each (read_step l) rest) weight).slots in
      let c = length-append (slots body) (slots rest) in
      let p = as_many body (weight * count) in
      let r = as_many rest weight in
      omega (arith, a, c, p, r)

  -- two lists of statements, one after the other
  parts_append : (xs ys : List Read) (h : ℕ) → among h (all_told (xs ++ ys)) ≡ (among h (all_told xs) || among h (all_told ys))
  parts_append [] ys h = refl
  parts_append (x ∷ xs) ys h =
      list_any-append (λ (k : HostId). nat_eq k.0 h) x.told (all_told (xs ++ ys))
      ∙ ap (λ (b : Bool). among h x.told || b) (parts_append xs ys h)
      ∙ regroup (among h x.told) (among h (all_told xs)) (among h (all_told ys))
      ∙ ap (λ (b : Bool). b || among h (all_told ys)) (sym (list_any-append (λ (k : HostId). nat_eq k.0 h) x.told (all_told xs)))
    where
      regroup : (a b c : Bool) → (a || (b || c)) ≡ ((a || b) || c)
      regroup true b c = refl
      regroup false b c = refl

  module _ (many : ℕ) (proto : ℕ → Proto) where
    named_append : (xs ys : List Read) (h : ℕ) → stands_at many proto h (all_named (xs ++ ys)) ≡ (stands_at many proto h (all_named xs) || stands_at many proto h (all_named ys))
    named_append [] ys h = refl
    named_append (x ∷ xs) ys h =
        list_any-append (λ (z : SlotId). is_below many z && is_holder (proto z.0) (host h)) x.named (all_named (xs ++ ys))
        ∙ ap (λ (b : Bool). stands_at many proto h x.named || b) (named_append xs ys h)
        ∙ regroup (stands_at many proto h x.named) (stands_at many proto h (all_named xs)) (stands_at many proto h (all_named ys))
        ∙ ap (λ (b : Bool). b || stands_at many proto h (all_named ys)) (sym (list_any-append (λ (z : SlotId). is_below many z && is_holder (proto z.0) (host h)) x.named (all_named xs)))
      where
        regroup : (a b c : Bool) → (a || (b || c)) ≡ ((a || b) || c)
        regroup true b c = refl
        regroup false b c = refl

-- either of two tests, on lists that are joined
in_joined : (a b c d : Bool) → ((a || b) ≡ true) ⊎ ((c || d) ≡ true) → ((a || c) || (b || d)) ≡ true
in_joined true b c d e = refl
in_joined false true true d e = refl
in_joined false true false d e = refl
in_joined false false true d e = refl
in_joined false false false d (inl e) = cc
in_joined false false false d (inr e) = e

module _ (l : Labels) (many : ℕ) (proto : ℕ → Proto) (t : Tape) (inputs : ℕ → List ℕ) (hosts : ℕ) where
  abbrev emits : Block → Emission (suite_calls hosts) proto
  emits = emission_of (machine t inputs) (suite t inputs hosts) proto

  abbrev at : SlotId → ℕ → Bool
  at x h = is_holder (proto x.0) (host h)

  abbrev low_block : Block → Bool
  low_block b = list_all (λ x. x) (each (stmt_below many) b)

  -- a host takes part in what was read
  abbrev takes : ℕ → List Read → Bool
  takes h reads = among h (all_told reads) || stands_at many proto h (all_named reads)

  here : (x : SlotId) (xs : List SlotId) (h : ℕ) → is_below many x ≡ true → at x h ≡ true → stands_at many proto h (x ∷ xs) ≡ true
  here x xs h low e = or_left (is_below many x && at x h) (stands_at many proto h xs) (both (is_below many x) (at x h) low e)

  further : (x : SlotId) (xs : List SlotId) (h : ℕ) → stands_at many proto h xs ≡ true → stands_at many proto h (x ∷ xs) ≡ true
  further x xs h e = or_right (is_below many x && at x h) (stands_at many proto h xs) e

  any_below : (xs : List SlotId) (h : ℕ) → list_all (is_below many) xs ≡ true → list_any (λ y. at y h) xs ≡ true → stands_at many proto h xs ≡ true
  any_below [] h low e = e
  any_below (x ∷ xs) h low e = split (any_below xs h (and_right (is_below many x) (list_all (is_below many) xs) low)) (or_cases (at x h) (list_any (λ y. at y h) xs) e)
    where
      split : (list_any (λ y. at y h) xs ≡ true → stands_at many proto h xs ≡ true) → (at x h ≡ true) ⊎ (list_any (λ y. at y h) xs ≡ true) → stands_at many proto h (x ∷ xs) ≡ true
      split ih (inl i) = here x xs h (and_left (is_below many x) (list_all (is_below many) xs) low) i
      split ih (inr i) = further x xs h (ih i)

  two : (x y : SlotId) (zs : List SlotId) (h : ℕ) → is_below many x ≡ true → is_below many y ≡ true → (at x h || at y h) ≡ true → stands_at many proto h (x ∷ y ∷ zs) ≡ true
  two x y zs h p q e = split (or_cases (at x h) (at y h) e)
    where
      split : (at x h ≡ true) ⊎ (at y h ≡ true) → stands_at many proto h (x ∷ y ∷ zs) ≡ true
      split (inl i) = here x (y ∷ zs) h p i
      split (inr i) = further x (y ∷ zs) h (here y zs h q i)

  right_taking : (right : Right) (h : ℕ) → right_below many right ≡ true → right_takes_part (suite_calls hosts) proto right h ≡ true → stands_at many proto h (named_by right) ≡ true
  right_taking (Lit n) h low e = cc
  right_taking Turn h low e = cc
  right_taking (Copy y) h low e = here y [] h low e
  right_taking (Apply o ys) h low e = any_below ys h low e
  right_taking (Input k) h low e = cc
  right_taking (Declassify y to) h low e = here y [] h low e
  right_taking (Endorse y to) h low e = here y [] h low e
  right_taking (Load v) h low e = here v [] h low e
  right_taking (Get v i) h low e = two v i [] h (and_left (is_below many v) (is_below many i) low) (and_right (is_below many v) (is_below many i) low) e

  -- what one statement tells, or what the rest tells
  first_or : (h : ℕ) (r : Read) (rs : List Read) → ((among h r.told || stands_at many proto h r.named) ≡ true) ⊎ (takes h rs ≡ true) → takes h (r ∷ rs) ≡ true
  first_or h r rs e =
      ap (λ (b : Bool). b || stands_at many proto h (r.named ++ all_named rs)) (list_any-append (λ (k : HostId). nat_eq k.0 h) r.told (all_told rs))
      ∙ ap (λ (b : Bool). (among h r.told || among h (all_told rs)) || b) (list_any-append (λ (z : SlotId). is_below many z && is_holder (proto z.0) (host h)) r.named (all_named rs))
      ∙ in_joined (among h r.told) (stands_at many proto h r.named) (among h (all_told rs)) (stands_at many proto h (all_named rs)) e

  either : (p q : Bool) (A B : Type 0) → (p ≡ true → A) → (q ≡ true → B) → (p || q) ≡ true → A ⊎ B
  either p q A B f g e = split (or_cases p q e)
    where
      split : (p ≡ true) ⊎ (q ≡ true) → A ⊎ B
      split (inl i) = inl (f i)
      split (inr i) = inr (g i)

  two_blocks : (h : ℕ) (xs ys : List Read) → (takes h xs ≡ true) ⊎ (takes h ys ≡ true) → takes h (xs ++ ys) ≡ true
  two_blocks h xs ys e =
      ap (λ (b : Bool). b || stands_at many proto h (all_named (xs ++ ys))) (parts_append l xs ys h)
      ∙ ap (λ (b : Bool). (among h (all_told xs) || among h (all_told ys)) || b) (named_append l many proto xs ys h)
      ∙ in_joined (among h (all_told xs)) (stands_at many proto h (all_named xs)) (among h (all_told ys)) (stands_at many proto h (all_named ys)) e

  -- a host that takes part in a block is told something there, or has a part of a slot that is named there
  taking : (b : Block) (h : ℕ) → low_block b ≡ true → (emits b).takes_part h ≡ true → takes h (each (read_step l) b) ≡ true
  taking End h low e = cc
  taking (Let x right rest) h low e =
      let p = and_left (is_below many x && right_below many right) (low_block rest) low in
      first_or h (read_step l (Stmt-F.Let x right)) (each (read_step l) rest)
      (either (at x h || right_takes_part (suite_calls hosts) proto right h) ((emits rest).takes_part h) _ _
      (λ i. elim (or_cases (at x h) (right_takes_part (suite_calls hosts) proto right h) i) [
        | inl j ↦ here x (named_by right) h (and_left (is_below many x) (right_below many right) p) j
        | inr j ↦ further x (named_by right) h (right_taking right h (and_right (is_below many x) (right_below many right) p) j)
      ])
      (taking rest h (and_right (is_below many x && right_below many right) (low_block rest) low)) e)
  taking (NewVar v y rest) h low e =
      let p = and_left (is_below many v && is_below many y) (low_block rest) low in
      first_or h (read_step l (Stmt-F.NewVar v y)) (each (read_step l) rest)
      (either (at v h || at y h) ((emits rest).takes_part h) _ _ (two v y [] h (and_left (is_below many v) (is_below many y) p) (and_right (is_below many v) (is_below many y) p))
      (taking rest h (and_right (is_below many v && is_below many y) (low_block rest) low)) e)
  taking (NewArray v cells rest) h low e =
      first_or h (read_step l (Stmt-F.NewArray v cells)) (each (read_step l) rest)
      (either (at v h) ((emits rest).takes_part h) _ _ (here v [] h (and_left (is_below many v) (low_block rest) low)) (taking rest h (and_right (is_below many v) (low_block rest) low)) e)
  taking (Store v y rest) h low e =
      let p = and_left (is_below many v && is_below many y) (low_block rest) low in
      first_or h (read_step l (Stmt-F.Store v y)) (each (read_step l) rest)
      (either (at v h || at y h) ((emits rest).takes_part h) _ _ (two v y [] h (and_left (is_below many v) (is_below many y) p) (and_right (is_below many v) (is_below many y) p))
      (taking rest h (and_right (is_below many v && is_below many y) (low_block rest) low)) e)
  taking (Put v i y rest) h low e =
      let p = and_left (is_below many v && is_below many i && is_below many y) (low_block rest) low in
      let q = and_left (is_below many v && is_below many i) (is_below many y) p in
      first_or h (read_step l (Stmt-F.Put v i y)) (each (read_step l) rest)
      (either (at v h || at i h || at y h) ((emits rest).takes_part h) _ _
      (λ z. elim (or_cases (at v h || at i h) (at y h) z) [
        | inl j ↦ two v i (y ∷ []) h (and_left (is_below many v) (is_below many i) q) (and_right (is_below many v) (is_below many i) q) j
        | inr j ↦ further v (i ∷ y ∷ []) h (further i (y ∷ []) h (here y [] h (and_right (is_below many v && is_below many i) (is_below many y) p) j))
      ])
      (taking rest h (and_right (is_below many v && is_below many i && is_below many y) (low_block rest) low)) e)
  taking (Tell y k offset rest) h low e =
      first_or h (read_step l (Stmt-F.Output y k offset)) (each (read_step l) rest)
      (either (nat_eq k.0 h || at y h) ((emits rest).takes_part h) _ _
      (λ z. elim (or_cases (nat_eq k.0 h) (at y h) z) [
        | inl j ↦ or_left (nat_eq k.0 h || false) (stands_at many proto h (y ∷ [])) (or_left (nat_eq k.0 h) false j)
        | inr j ↦ or_right (nat_eq k.0 h || false) (stands_at many proto h (y ∷ [])) (here y [] h (and_left (is_below many y) (low_block rest) low) j)
      ])
      (taking rest h (and_right (is_below many y) (low_block rest) low)) e)
  taking (If x tb eb offset rest) h low e =
      let p = and_left (is_below many x && low_block tb && low_block eb) (low_block rest) low in
      let q = and_left (is_below many x && low_block tb) (low_block eb) p in
      let a = taking tb h (and_right (is_below many x) (low_block tb) q) in
      let b = taking eb h (and_right (is_below many x && low_block tb) (low_block eb) p) in
      first_or h (read_step l (Stmt-F.If x (each (read_step l) tb) (each (read_step l) eb) offset)) (each (read_step l) rest)
      (either (at x h || (emits tb).takes_part h || (emits eb).takes_part h) ((emits rest).takes_part h) _ _
      (branched a b (and_left (is_below many x) (low_block tb) q))
      (taking rest h (and_right (is_below many x && low_block tb && low_block eb) (low_block rest) low)) e)
    where
      both_told : (a : (takes h (each (read_step l) tb) ≡ true) ⊎ (takes h (each (read_step l) eb) ≡ true))
          → ((among h (all_told (each (read_step l) tb) ++ all_told (each (read_step l) eb))) || stands_at many proto h (x ∷ (all_named (each (read_step l) tb) ++ all_named (each (read_step l) eb)))) ≡ true
      both_told a =
          let told = list_any-append (λ (k : HostId). nat_eq k.0 h) (all_told (each (read_step l) tb)) (all_told (each (read_step l) eb)) in
          let named = list_any-append (λ (z : SlotId). is_below many z && is_holder (proto z.0) (host h)) (all_named (each (read_step l) tb)) (all_named (each (read_step l) eb)) in
          let w = in_joined (among h (all_told (each (read_step l) tb))) (stands_at many proto h (all_named (each (read_step l) tb))) (among h (all_told (each (read_step l) eb))) (stands_at many proto h (all_named (each (read_step l) eb))) a in
          wider (among h (all_told (each (read_step l) tb) ++ all_told (each (read_step l) eb))) (is_below many x && is_holder (proto x.0) (host h))
          (stands_at many proto h (all_named (each (read_step l) tb) ++ all_named (each (read_step l) eb)))
          (ap (λ (b : Bool). b || stands_at many proto h (all_named (each (read_step l) tb) ++ all_named (each (read_step l) eb))) told
          ∙ ap (λ (b : Bool). (among h (all_told (each (read_step l) tb)) || among h (all_told (each (read_step l) eb))) || b) named ∙ w)
        where
          wider : (c d e : Bool) → (c || e) ≡ true → (c || (d || e)) ≡ true
          wider true d e i = refl
          wider false true e i = refl
          wider false false e i = i

      branched : ((emits tb).takes_part h ≡ true → takes h (each (read_step l) tb) ≡ true) → ((emits eb).takes_part h ≡ true → takes h (each (read_step l) eb) ≡ true) → is_below many x ≡ true
          → (at x h || (emits tb).takes_part h || (emits eb).takes_part h) ≡ true
          → (among h (all_told (each (read_step l) tb) ++ all_told (each (read_step l) eb)) || stands_at many proto h (x ∷ (all_named (each (read_step l) tb) ++ all_named (each (read_step l) eb)))) ≡ true
      branched a b low_x z = first (or_cases (at x h || (emits tb).takes_part h) ((emits eb).takes_part h) z)
        where
          second : (at x h ≡ true) ⊎ ((emits tb).takes_part h ≡ true)
              → (among h (all_told (each (read_step l) tb) ++ all_told (each (read_step l) eb)) || stands_at many proto h (x ∷ (all_named (each (read_step l) tb) ++ all_named (each (read_step l) eb)))) ≡ true
          second (inl i) =
              or_right (among h (all_told (each (read_step l) tb) ++ all_told (each (read_step l) eb))) (stands_at many proto h (x ∷ (all_named (each (read_step l) tb) ++ all_named (each (read_step l) eb))))
              (here x (all_named (each (read_step l) tb) ++ all_named (each (read_step l) eb)) h low_x i)
          second (inr i) = both_told (inl (a i))

          first : ((at x h || (emits tb).takes_part h) ≡ true) ⊎ ((emits eb).takes_part h ≡ true)
              → (among h (all_told (each (read_step l) tb) ++ all_told (each (read_step l) eb)) || stands_at many proto h (x ∷ (all_named (each (read_step l) tb) ++ all_named (each (read_step l) eb)))) ≡ true
          first (inl i) = second (or_cases (at x h) ((emits tb).takes_part h) i)
          first (inr i) = both_told (inr (b i))
  taking (For count body rest) h low e =
      first_or h (read_step l (Stmt-F.For count (each (read_step l) body))) (each (read_step l) rest)
      (either ((emits body).takes_part h) ((emits rest).takes_part h) _ _ (taking body h (and_left (low_block body) (low_block rest) low)) (taking rest h (and_right (low_block body) (low_block rest) low)) e)

  holds_of : (r : Row) (x k : ℕ) → x ≡ k → is_some (cost_at r (proto k)) ≡ true → holds r (proto x) ≡ true
  holds_of r x k is e = subst (λ z. is_some (cost_at r (proto z)) ≡ true) (sym is) e

  variable_of : (x k : ℕ) → x ≡ k → is_some (cost_at row.Variable (proto k)) ≡ true → holds row.Variable (proto x) ≡ true
  variable_of x k is e = holds_of row.Variable x k is e

  operands_join : (weight : ℕ) (x : SlotId) (ys : List SlotId) → Each (λ (u : Use). is_some (move_at (proto u.source.0) (proto u.target.0)) ≡ true) (map (use_of weight x) ys)
      → Each (λ y. joins (proto y.0) (proto x.0) ≡ true) ys
  operands_join weight x [] e = tt
  operands_join weight x (y ∷ ys) e = (e.0, operands_join weight x ys e.1)

  -- ---- the variables in sight

  -- they stand where variables can
  abbrev pub AllVariables : List ℕ → Type 0
  AllVariables xs = (x : ℕ) → list_any (nat_eq x) xs ≡ true → holds row.Variable (proto x) ≡ true

  pub record Variables (s : Sight) : Type 0 where
    pub words : AllVariables s.variables
    pub arrays : AllVariables s.arrays

  one_more : (v : ℕ) (xs : List ℕ) → holds row.Variable (proto v) ≡ true → AllVariables xs → AllVariables (v ∷ xs)
  one_more v xs e all x i = here (nat_eq x v) refl i
    where
      here : (b : Bool) → nat_eq x v ≡ b → (b || list_any (nat_eq x) xs) ≡ true → holds row.Variable (proto x) ≡ true
      here true is j = subst (λ z. holds row.Variable (proto z) ≡ true) (sym (eqb-true x v is)) e
      here false is j = all x j

  with_word : (v : SlotId) (s : Sight) → holds row.Variable (proto v.0) ≡ true → Variables s → Variables (with_variable v s)
  with_word v s e k = record { words = one_more v.0 s.variables e k.words; arrays = k.arrays }

  with_words : (v : SlotId) (s : Sight) → holds row.Variable (proto v.0) ≡ true → Variables s → Variables (with_array v s)
  with_words v s e k = record { words = k.words; arrays = one_more v.0 s.arrays e k.arrays }

  -- ---- each statement

  right_placed : (weight k : ℕ) (x : SlotId) (right : Right) (s : Sight) → Variables s → right_sees right s ≡ true → x.0 ≡ k → Tells many proto hosts k (binding_parts l weight x right)
      → RightPlaced (machine t inputs) (suite t inputs hosts) proto (proto x.0) right
  right_placed weight k x (Lit n) s vs a is e = holds_of row.Constant x.0 k is e.slots.0
  right_placed weight k x Turn s vs a is e = holds_of row.Constant x.0 k is e.slots.0
  right_placed weight k x (Copy y) s vs a is e = e.uses.0
  right_placed weight k x (Apply o ys) s vs a is e = (holds_of (row.Apply o) x.0 k is e.slots.0, operands_join weight x ys e.uses)
  right_placed weight k x (Input h) s vs a is e = holds_of (row.Input h) x.0 k is e.slots.0
  right_placed weight k x (Declassify y to) s vs a is e = e.uses.0
  right_placed weight k x (Endorse y to) s vs a is e = e.uses.0
  right_placed weight k x (Load v) s vs a is e = (vs.words v.0 a, e.uses.0)
  right_placed weight k x (Get v i) s vs a is e = (vs.arrays v.0 (and_left (is_array s v) (is_binding s i) a), e.uses.0, (λ h lt j. e.indexes.0 h lt j))

  pub placed : (b : Block) (weight k : ℕ) (s : Sight) → Variables s → (sees b s).all ≡ true → InRow k (slots b) → low_block b ≡ true
      → Tells many proto hosts k (all_parts (each (read_step l) b) weight) → Placed (machine t inputs) (suite t inputs hosts) proto b
  placed End weight k s vs a row low e = tt
  placed (Let x right rest) weight k s vs a row low e =
      let more = all_parts (each (read_step l) rest) weight in
      let still : Variables (with_binding x s) = record { words = vs.words; arrays = vs.arrays } in (
        right_placed weight k x right s vs (and_left (right_sees right s) _ a) row.0 (tells_front many proto hosts k (binding_parts l weight x right) more e),
        placed rest weight (k + 1) (with_binding x s) still (and_right (right_sees right s) _ a) row.1 (and_right _ _ low) (tells_back many proto hosts k (binding_parts l weight x right) more e),
      )
  placed (NewVar v y rest) weight k s vs a row low e =
      let one = (read_step l (Stmt-F.NewVar v y)).parts weight in
      let more = all_parts (each (read_step l) rest) weight in
      let front = tells_front many proto hosts k one more e in
      let here = variable_of v.0 k row.0 front.slots.0 in (
        here,
        front.uses.0,
        placed rest weight (k + 1) (with_variable v s) (with_word v s here vs) (and_right _ _ a) row.1 (and_right _ _ low) (tells_back many proto hosts k one more e),
      )
  placed (NewArray v cells rest) weight k s vs a row low e =
      let one = (read_step l (Stmt-F.NewArray v cells)).parts weight in
      let more = all_parts (each (read_step l) rest) weight in
      let here = variable_of v.0 k row.0 (tells_front many proto hosts k one more e).slots.0 in
      (here, placed rest weight (k + 1) (with_array v s) (with_words v s here vs) a row.1 (and_right _ _ low) (tells_back many proto hosts k one more e))
  placed (Store v y rest) weight k s vs a row low e =
      let one = (read_step l (Stmt-F.Store v y)).parts weight in
      let more = all_parts (each (read_step l) rest) weight in (
        vs.words v.0 (and_left _ _ (and_left _ _ a)),
        (tells_front many proto hosts k one more e).uses.0,
        placed rest weight k s vs (and_right _ _ a) row (and_right _ _ low) (tells_at many proto hosts (k + 0) k more (none_more k) (tells_back many proto hosts k one more e)),
      )
  placed (Put v i y rest) weight k s vs a row low e =
      let one = (read_step l (Stmt-F.Put v i y)).parts weight in
      let more = all_parts (each (read_step l) rest) weight in
      let front = tells_front many proto hosts k one more e in (
        vs.arrays v.0 (and_left _ _ (and_left _ _ (and_left _ _ a))),
        front.uses.0,
        (λ h lt j. front.indexes.0 h lt j),
        placed rest weight k s vs (and_right _ _ a) row (and_right _ _ low) (tells_at many proto hosts (k + 0) k more (none_more k) (tells_back many proto hosts k one more e)),
      )
  placed (Tell y h offset rest) weight k s vs a row low e =
      let one = (read_step l (Stmt-F.Output y h offset)).parts weight in
      let more = all_parts (each (read_step l) rest) weight in (
        (tells_front many proto hosts k one more e).outputs.0,
        placed rest weight k s vs (and_right _ _ a) row (and_right _ _ low) (tells_at many proto hosts (k + 0) k more (none_more k) (tells_back many proto hosts k one more e)),
      )
  placed (If x tb eb offset rest) weight k s vs a row low e =
      let ts = each (read_step l) tb in
      let es = each (read_step l) eb in
      let tp = all_parts ts weight in
      let ep = all_parts es weight in
      let guard : Parts = record no_parts { guards = guard_of x weight (ts ++ es) ∷ [] } in
      let one = joined guard (joined tp ep) in
      let more = all_parts (each (read_step l) rest) weight in
      let low_if = and_left (is_below many x && low_block tb && low_block eb) (low_block rest) low in
      let low_first = and_left (is_below many x && low_block tb) (low_block eb) low_if in
      let low_t = and_right (is_below many x) (low_block tb) low_first in
      let low_e = and_right (is_below many x && low_block tb) (low_block eb) low_if in
      let seen_if = and_left _ _ a in
      let seen_t = and_right _ _ (and_left _ _ seen_if) in
      let seen_e = and_right _ _ seen_if in
      let front = tells_front many proto hosts k one more e in
      let inner = tells_at many proto hosts (k + 0) k (joined tp ep) (none_more k) (tells_back many proto hosts k guard (joined tp ep) front) in
      let row1 = row_front k (slots tb ++ slots eb) (slots rest) row in
      let row2 = row_back k (slots tb ++ slots eb) (slots rest) row in (
        (λ h lt z. (tells_front many proto hosts k guard (joined tp ep) front).guards.0 h lt
            (two_blocks h ts es (either ((emits tb).takes_part h) ((emits eb).takes_part h) _ _ (taking tb h low_t) (taking eb h low_e) z))),
        placed tb weight k s vs seen_t (row_front k (slots tb) (slots eb) row1) low_t (tells_front many proto hosts k tp ep inner),
        placed eb weight (k + length (slots tb)) s vs seen_e (row_back k (slots tb) (slots eb) row1) low_e
            (tells_at many proto hosts (k + length tp.slots) (k + length (slots tb)) ep (ap (λ n. k + n) (as_many l tb weight)) (tells_back many proto hosts k tp ep inner)),
        placed rest weight (k + length (slots tb ++ slots eb)) s vs (and_right _ _ a) row2 (and_right _ _ low)
            (tells_at many proto hosts (k + length (tp.slots ++ ep.slots)) (k + length (slots tb ++ slots eb)) more
            (ap (λ n. k + n) (lengths tp.slots ep.slots (slots tb) (slots eb) (as_many l tb weight) (as_many l eb weight))) (tells_back many proto hosts k one more e)),
      )
    where
      lengths : (ms bs : List Making) (cs ds : List ℕ) → length ms ≡ length cs → length bs ≡ length ds → length (ms ++ bs) ≡ length (cs ++ ds)
      lengths ms bs cs ds p q = let a = length-append ms bs in let b = length-append cs ds in omega (arith, a, b, p, q)
  placed (For count body rest) weight k s vs a row low e =
      let one = all_parts (each (read_step l) body) (weight * count) in
      let more = all_parts (each (read_step l) rest) weight in (
        placed body (weight * count) k s vs (and_left _ _ a) (row_front k (slots body) (slots rest) row) (and_left (low_block body) (low_block rest) low) (tells_front many proto hosts k one more e),
        placed rest weight (k + length (slots body)) s vs (and_right _ _ a) (row_back k (slots body) (slots rest) row) (and_right (low_block body) (low_block rest) low)
            (tells_at many proto hosts (k + length one.slots) (k + length (slots body)) more (ap (λ n. k + n) (as_many l body (weight * count))) (tells_back many proto hosts k one more e)),
      )
