-- A program at a valid assignment of protocols can run.
use Rattle.std.proofs.Common.{◌≡◌, ℕ, zero, suc, ◌+◌, ◌^◌, ◌<◌, ◌≤◌, nat_eq, nat_lt, ◌&&◌, ◌||◌, not, Bool, true, false, IsTrue, is_some, List, [], ◌∷◌, ◌⊎◌, inl, inr, length, map, slice_get, slice_index, slice_index_or, refl, sym, ap, subst, ◌∙◌, arith}
use Rattle.std.specs.List.{All, AllByRecursion, concat, list_all, list_any, range_with_len}
use Rattle.std.specs.Option.{option_map_or}
use Rattle.std.proofs.lemmas.Bool.{eq-eqb, eqb-true}
use Rattle.std.proofs.lemmas.Bool.Decides.{nat_tests}
use Rattle.vd_base.specs.declared.ids.HostId.{HostId}
use Rattle.vd_base.specs.declared.ids.SlotId.{SlotId}
use Rattle.vd_base.specs.declared.protocols.Proto.{Proto}
use Rattle.vd_base.specs.declared.protocols.Proto.TheVariants.{Local}
use Rattle.vd_base.specs.Costs.{cost_at}
use Rattle.vd_base.specs.HostSets.{host, same_host}
use Rattle.vd_base.specs.Moves.{move_at}
use Rattle.vd_base.specs.Protocols.{protocols_of}
use Rattle.vd_base.specs.Holders.{is_holder, proto_in}
use Rattle.vd_core.specs.declared.normal.NormalForm.{NormalForm}
use Rattle.vd_core.specs.Facts.{IsWellMade, slots_step, nothing_seen, Seeing, seeing_step, seeing_all}
use Rattle.vd_constraints.specs.declared.labels.Labels.{Labels}
use Rattle.vd_constraints.specs.Rules.{label}
use Rattle.vd_constraints.specs.Scoped.{is_below, stmt_below}
use Rattle.vd_constraints.proofs.Front.{well_made_scoped}
use Rattle.vd_space.specs.declared.problem.Problem.{Problem}
use Rattle.vd_space.specs.declared.problem.Making.{Making}
use Rattle.vd_space.specs.declared.problem.Use.{Use}
use Rattle.vd_space.specs.declared.problem.Output.{Output}
use Rattle.vd_space.specs.declared.problem.Guard.{Guard}
use Rattle.vd_space.specs.declared.problem.Index.{Index}
use Rattle.vd_space.specs.Reading.{Parts, Read, all_parts, read_step, read_stmt, problem_of}
use Rattle.vd_space.specs.Spaces.{IsUse, IsIndex}
use Rattle.vd_space.specs.Validity.{protocols, protocol, move_to_host, move, holds_at, all_hosts, may_read, can_stand, stand, if_decided, use_joins, output_joins, is_told, takes_part, guard_told, index_test, index_told, is_valid}
use Rattle.vd_space.proofs.Front.{names_below, as_many as as_many_slots}
use Rattle.vd_space.proofs.Front.{protos_are}
use Rattle.vd_execution.specs.World.{Tape}
use Rattle.vd_execution.specs.Deals.{IsValidDeal}
use Rattle.vd_split.specs.Block.{Block, block_of, each}
use Rattle.vd_split.specs.Joint.{Each}
use Rattle.vd_core.specs.Numbers.{NumbersFit}
use Rattle.vd_split.proofs.Front.{fold_each, and_left, and_right, or_left, or_right, or_cases, InRow, row_of, slots}
use Rattle.vd_backend_laws.specs.Suite.{IsOver, AreGiven}
use Rattle.vd_backend_laws.specs.Whole.{inputs_of, CanRun}
use Rattle.vd_backend_laws.proofs.Front.{listed_protocols_are_over, code_tells_the_same}
use Rattle.vd_projection.specs.Assignments.{IsValidFor, AssignmentsCanRun, AssignmentsTellTheSame}
use Rattle.vd_projection.proofs.Placing.{sees, among, stands_at, Stand, Tells, as_many, placed}

-- ---- lists

item_at : (xs : List ℕ) (x : ℕ) (f : ℕ → Bool) (d : Bool) → x < length xs → option_map_or f (slice_get xs x) d ≡ f (slice_index xs x)
item_at [] x f d lt = absurd (omega (arith, lt))
item_at (y ∷ ys) zero f d lt = refl
item_at (y ∷ ys) (suc x) f d lt = item_at ys x f d (omega (arith, lt))

or_default : {X : Type 0} (P : X → Type 0) (xs : List X) (d : X) → All P xs → P d → (k : ℕ) → P (slice_index_or xs k d)
or_default P [] d a z k = z
or_default P (x ∷ xs) d a z zero = a 0 d (omega arith)
or_default P (x ∷ xs) d a z (suc k) = or_default P xs d (λ j e lt. a (suc j) e (omega (arith, lt))) z k

each_of : {X : Type 0} (test : X → Bool) (Low P : X → Type 0) (xs : List X) → ((x : X) → test x ≡ true → Low x → P x) → list_all test xs ≡ true → AllByRecursion Low xs → Each P xs
each_of test Low P [] f e low = tt
each_of test Low P (x ∷ xs) f e low = (f x (and_left (test x) (list_all test xs) e) low.0, each_of test Low P xs f (and_right (test x) (list_all test xs) e) low.1)

host_passes : (test : HostId → Bool) (k n h : ℕ) → list_all test (map host (range_with_len k n)) ≡ true → k ≤ h → h < k + n → test (host h) ≡ true
host_passes test k zero h e le lt = absurd (omega (arith, le, lt))
host_passes test k (suc n) h e le lt = at (host_passes test (k + 1) n h (and_right (test (host k)) _ e)) (nat_eq h k) refl
  where
    higher : nat_eq h k ≡ false → k + 1 ≤ h
    higher d = grind (arith, nat_tests)

    at : (k + 1 ≤ h → h < k + 1 + n → test (host h) ≡ true) → (b : Bool) → nat_eq h k ≡ b → test (host h) ≡ true
    at ih true is = ap (λ (z : ℕ). test (host z)) (eqb-true h k is) ∙ and_left (test (host k)) _ e
    at ih false is = ih (higher is) (omega (arith, lt))

range_length : (k n : ℕ) → length (range_with_len k n) ≡ n
range_length k zero = refl
range_length k (suc n) = ap suc (range_length (k + 1) n)

length_map : {X Y : Type 0} (f : X → Y) (xs : List X) → length (map f xs) ≡ length xs
length_map f [] = refl
length_map f (x ∷ xs) = ap suc (length_map f xs)

turned_eq : (a b : ℕ) → nat_eq a b ≡ true → nat_eq b a ≡ true
turned_eq a b e = eq-eqb b a (sym (eqb-true a b e))

implied : (a b : Bool) → (not a || b) ≡ true → a ≡ true → b ≡ true
implied true b e f = e
implied false b e f = cc

module _ (problem : Problem) (list : List ℕ) where
  abbrev proto : ℕ → Proto
  proto x = protocol problem (slice_index list x)

  abbrev many : ℕ
  many = length list

  stands : (ms : List Making) (ps : List ℕ) (k : ℕ) → ((i : ℕ) → slice_index list (k + i) ≡ slice_index ps i) → length ps ≡ length ms → stand problem ms ps ≡ true
      → Stand many (λ x. protocol problem (slice_index list x)) k ms
  stands [] ps k same e s = tt
  stands (m ∷ ms) [] k same e s = absurd (omega (arith, e))
  stands (m ∷ ms) (p ∷ ps) k same e s =
      let c = and_left (can_stand problem m p) (stand problem ms ps) s in
      let in_list = nat_lt p (length (protocols problem)) in
      let costs = is_some (cost_at m.row (protocol problem p)) in (
        subst (λ z. is_some (cost_at m.row (protocol problem z)) ≡ true) (sym (ap (slice_index list) (sym (here k)) ∙ same 0)) (and_right in_list costs (and_left (in_list && costs) _ c)),
        stands ms ps (k + 1) (λ i. ap (slice_index list) (more k i) ∙ same (suc i)) (omega (arith, e)) (and_right (can_stand problem m p) (stand problem ms ps) s),
      )
    where
      here : (k : ℕ) → k + 0 ≡ k
      here k = omega arith

      more : (k i : ℕ) → k + 1 + i ≡ k + suc i
      more k i = omega arith

  use_tells : (n : ℕ) → n ≡ length list → (u : Use) → use_joins problem list u ≡ true → IsUse n u → is_some (move_at (proto u.source.0) (proto u.target.0)) ≡ true
  use_tells n is u e low =
      sym (item_at list u.target.0 (λ q. is_some (move_at (proto u.source.0) (protocol problem q))) true (subst (λ z. u.target.0 < z) is low.target))
      ∙ sym (item_at list u.source.0 (λ p. if_decided list u.target (λ q. is_some (move problem p q))) true (subst (λ z. u.source.0 < z) is low.source)) ∙ e

  output_tells : (n : ℕ) → n ≡ length list → (o : Output) → output_joins problem list o ≡ true → o.slot.0 < n → is_some (move_at (proto o.slot.0) (Local o.host)) ≡ true
  output_tells n is o e low = sym (item_at list o.slot.0 (λ p. is_some (move_to_host problem o.host p)) true (subst (λ z. o.slot.0 < z) is low)) ∙ e

  told_host : (x : SlotId) (h : ℕ) → x.0 < length list → is_told problem list (host h) x ≡ true → is_some (move_at (proto x.0) (Local (host h))) ≡ true
  told_host x h low e =
      sym (item_at list x.0 (λ p. is_some (move_to_host problem (host h) p)) true low) ∙ and_right (may_read problem (host h) x.0) (if_decided list x (λ p. is_some (move_to_host problem (host h) p))) e

  among_hosts : (hs : List HostId) (h : ℕ) → among h hs ≡ true → list_any (same_host (host h)) hs ≡ true
  among_hosts [] h e = e
  among_hosts (k ∷ hs) h e = split (among_hosts hs h) (or_cases (nat_eq k.0 h) (among h hs) e)
    where
      split : (among h hs ≡ true → list_any (same_host (host h)) hs ≡ true) → (nat_eq k.0 h ≡ true) ⊎ (among h hs ≡ true) → (nat_eq h k.0 || list_any (same_host (host h)) hs) ≡ true
      split ih (inl i) = or_left (nat_eq h k.0) (list_any (same_host (host h)) hs) (turned_eq k.0 h i)
      split ih (inr i) = or_right (nat_eq h k.0) (list_any (same_host (host h)) hs) (ih i)

  abbrev held : ℕ → SlotId → Bool
  held h slot = option_map_or (holds_at problem (host h)) (slice_get list slot.0) false

  standing : (xs : List SlotId) (h : ℕ) → stands_at many proto h xs ≡ true → list_any (held h) xs ≡ true
  standing [] h e = e
  standing (x ∷ xs) h e = split (standing xs h) (or_cases (is_below many x && is_holder (proto x.0) (host h)) (stands_at many proto h xs) e)
    where
      lt_of : (a b : ℕ) → nat_lt a b ≡ true → a < b
      lt_of a b h = grind (arith, nat_tests)

      split : (stands_at many proto h xs ≡ true → list_any (held h) xs ≡ true) → ((is_below many x && is_holder (proto x.0) (host h)) ≡ true) ⊎ (stands_at many proto h xs ≡ true) → (held h x || list_any (held h) xs) ≡ true
      split ih (inl i) =
          or_left (held h x) (list_any (held h) xs)
          (item_at list x.0 (holds_at problem (host h)) false (lt_of x.0 many (and_left (is_below many x) (is_holder (proto x.0) (host h)) i)) ∙ and_right (is_below many x) (is_holder (proto x.0) (host h)) i)
      split ih (inr i) = or_right (held h x) (list_any (held h) xs) (ih i)

  guard_tells : (n hosts' : ℕ) → n ≡ length list → hosts' ≡ length problem.hosts → (g : Guard) → guard_told problem list g ≡ true → g.slot.0 < n
      → (h : ℕ) → h < hosts' → (among h g.hosts || stands_at many proto h g.slots) ≡ true → is_some (move_at (proto g.slot.0) (Local (host h))) ≡ true
  guard_tells n hosts' is are g e low h lt z =
      told_host g.slot h (subst (λ i. g.slot.0 < i) is low)
      (implied (takes_part problem list g (host h)) (is_told problem list (host h) g.slot)
      (host_passes (λ k. not (takes_part problem list g k) || is_told problem list k g.slot) 0 (length problem.hosts) h e (omega arith) (omega (arith, lt, are)))
      (split (or_cases (among h g.hosts) (stands_at many proto h g.slots) z)))
    where
      split : (among h g.hosts ≡ true) ⊎ (stands_at many proto h g.slots ≡ true) → takes_part problem list g (host h) ≡ true
      split (inl i) = or_left (list_any (same_host (host h)) g.hosts) (list_any (held h) g.slots) (among_hosts g.hosts h i)
      split (inr i) = or_right (list_any (same_host (host h)) g.hosts) (list_any (held h) g.slots) (standing g.slots h i)

  index_tells : (n hosts' : ℕ) → n ≡ length list → hosts' ≡ length problem.hosts → (i : Index) → index_told problem list i ≡ true → IsIndex n i
      → (h : ℕ) → h < hosts' → is_holder (proto i.array.0) (host h) ≡ true → is_some (move_at (proto i.index.0) (Local (host h))) ≡ true
  index_tells n hosts' is are i e low h lt z =
      told_host i.index h (subst (λ k. i.index.0 < k) is low.index)
      (implied (holds_at problem (host h) (slice_index list i.array.0)) (is_told problem list (host h) i.index)
      (host_passes (index_test problem list i (slice_index list i.array.0)) 0 (length problem.hosts) h
      (sym (item_at list i.array.0 (λ p. list_all (index_test problem list i p) (all_hosts problem)) true (subst (λ k. i.array.0 < k) is low.array)) ∙ e) (omega arith) (omega (arith, lt, are)))
      z)

-- a list of places that is valid for a well-made program
record IsPlaced (program : NormalForm) (labels : Labels) (list : List ℕ) : Type 0 where
  made : IsWellMade program
  numbers : NumbersFit program
  whole : length list ≡ length program.slots
  valid : IsTrue (is_valid (problem_of program labels) list)

-- the protocol of each slot, by its place
abbrev protos_of : Problem → List ℕ → ℕ → Proto
protos_of problem list x = protocol problem (slice_index list x)

module _ (program : NormalForm) (labels : Labels) (list : List ℕ) (chosen : IsPlaced program labels list) where
  abbrev problem : Problem
  problem = problem_of program labels

  abbrev body : Block
  body = block_of program.body

  abbrev read : Parts
  read = all_parts (map (read_stmt labels) program.body) 1

  reads : map (read_stmt labels) program.body ≡ each (read_step labels) (block_of program.body)
  reads = fold_each (read_step labels) program.body

  same_hosts : length program.hosts ≡ length (problem_of program labels).hosts
  same_hosts = sym chosen.made.labels ∙ sym (length_map (label program) program.labels)

  slots_are : slots (block_of program.body) ≡ range_with_len 0 (length program.slots)
  slots_are = sym (ap concat (fold_each slots_step program.body)) ∙ chosen.made.in_order

  slot_count : length read.slots ≡ length program.slots
  slot_count = ap (λ (l : List Read). length (all_parts l 1).slots) reads ∙ as_many labels (block_of program.body) 1 ∙ ap (λ (l : List ℕ). length l) slots_are ∙ range_length 0 (length program.slots)

  counts : length read.slots ≡ length list
  counts = slot_count ∙ sym chosen.whole

  abbrev makings_stand : Bool
  makings_stand = stand problem problem.slots list

  abbrev uses_join : Bool
  uses_join = list_all (use_joins problem list) problem.uses

  abbrev outputs_join : Bool
  outputs_join = list_all (output_joins problem list) problem.outputs

  abbrev guards_are_told : Bool
  guards_are_told = list_all (guard_told problem list) problem.guards

  abbrev indexes_are_told : Bool
  indexes_are_told = list_all (index_told problem list) problem.indexes

  tells : Tells (length list) (protos_of (problem_of program labels) list) (length program.hosts) 0 (all_parts (map (read_stmt labels) program.body) 1)
  tells =
      let low = names_below program labels chosen.made in
      let d = and_left (makings_stand && uses_join && outputs_join && guards_are_told) indexes_are_told chosen.valid in
      let c = and_left (makings_stand && uses_join && outputs_join) guards_are_told d in
      let b = and_left (makings_stand && uses_join) outputs_join c in
      record {
        slots = stands problem list read.slots list 0 (λ i. ap (slice_index list) (from_zero i)) (sym counts) (and_left makings_stand uses_join b);
        uses = each_of (use_joins problem list) (IsUse (length read.slots)) _ read.uses (use_tells problem list (length read.slots) counts) (and_right makings_stand uses_join b) low.uses;
        outputs = each_of (output_joins problem list) (λ (o : Output). o.slot.0 < length read.slots) _ read.outputs (output_tells problem list (length read.slots) counts) (and_right (makings_stand && uses_join) outputs_join c) low.outputs;
        guards = each_of (guard_told problem list) (λ (g : Guard). g.slot.0 < length read.slots) _ read.guards (guard_tells problem list (length read.slots) (length program.hosts) counts same_hosts)
            (and_right (makings_stand && uses_join && outputs_join) guards_are_told d) low.guards;
        indexes = each_of (index_told problem list) (IsIndex (length read.slots)) _ read.indexes (index_tells problem list (length read.slots) (length program.hosts) counts same_hosts)
            (and_right (makings_stand && uses_join && outputs_join && guards_are_told) indexes_are_told chosen.valid) low.indexes;
      }
    where
      from_zero : (i : ℕ) → 0 + i ≡ i
      from_zero i = omega arith

  over : (x : ℕ) → IsOver (length program.hosts) (protos_of (problem_of program labels) list x)
  over x =
      subst (λ n. IsOver (length program.hosts) (slice_index_or (protocols_of n) (slice_index list x) (Local (host 0)))) same_hosts
      (or_default (IsOver (length program.hosts)) (protocols_of (length program.hosts)) (Local (host 0)) (listed_protocols_are_over (length program.hosts) chosen.made.limits.hosts)
      (record { some = (0, inl refl); known = (chosen.made.limits.some_host, tt); ordered = refl }) (slice_index list x))

  low : list_all (λ x. x) (each (stmt_below (length list)) (block_of program.body)) ≡ true
  low =
      subst (λ n. list_all (λ x. x) (each (stmt_below n) (block_of program.body)) ≡ true) (sym chosen.whole)
      (ap (list_all (λ x. x)) (sym (fold_each (stmt_below (length program.slots)) program.body)) ∙ (well_made_scoped program chosen.made).named_slots)

  row : InRow 0 (slots (block_of program.body))
  row = row_of 0 (length program.slots) (slots (block_of program.body)) slots_are

  seen : (sees (block_of program.body) nothing_seen).all ≡ true
  seen = ap (λ (l : List Seeing). (seeing_all l nothing_seen).all) (sym (fold_each seeing_step program.body)) ∙ chosen.made.made_before

  places_can_run : (inputs : List (List ℕ)) → ((h i : ℕ) → slice_index (inputs_of inputs h) i < 2 ^ 32) → (t : Tape) → IsValidDeal t → AreGiven (inputs_of inputs) t
      → CanRun program (protos_of (problem_of program labels) list) inputs t
  places_can_run inputs words t deal given = record {
    made = chosen.made;
    numbers = chosen.numbers;
    over = over;
    valid = placed labels (length list) (protos_of (problem_of program labels) list) t (inputs_of inputs) (length program.hosts) (block_of program.body) 1 0 nothing_seen (record { words = λ x i. cc; arrays = λ x i. cc }) seen row low
        (subst (λ (l : List Read). Tells (length list) (protos_of (problem_of program labels) list) (length program.hosts) 0 (all_parts l 1)) reads tells);
    words = words;
    deal = deal;
    given = given;
  }

module _ (program : NormalForm) (labels : Labels) (protocols : List Proto) (chosen : IsValidFor program labels protocols) where
  abbrev places : List ℕ
  places = chosen.assignment.places

  placed_so : IsPlaced program labels places
  placed_so = record { made = chosen.made; numbers = chosen.numbers; whole = chosen.assignment.is_valid.whole ∙ as_many_slots program labels chosen.made; valid = chosen.assignment.is_valid.valid }

  -- a protocol for each slot
  pub each_has : length protocols ≡ length program.slots
  each_has = ap (λ (ps : List Proto). length ps) chosen.assignment.named ∙ length_map (protocol (problem_of program labels)) places ∙ placed_so.whole

  pub can_run : (inputs : List (List ℕ)) → ((h i : ℕ) → slice_index (inputs_of inputs h) i < 2 ^ 32) → (t : Tape) → IsValidDeal t → AreGiven (inputs_of inputs) t → CanRun program (proto_in protocols) inputs t
  can_run inputs words t deal given =
      subst (λ (f : ℕ → Proto). CanRun program f inputs t) (sym (protos_are (problem_of program labels) protocols places chosen.assignment.named))
      (places_can_run program labels places placed_so inputs words t deal given)

pub assignments_can_run : AssignmentsCanRun
assignments_can_run program labels protocols chosen inputs words t deal given = can_run program labels protocols chosen inputs words t deal given

pub assignments_tell_the_same : AssignmentsTellTheSame
assignments_tell_the_same program labels protocols chosen inputs words t deal given =
    code_tells_the_same program (proto_in protocols) inputs t (can_run program labels protocols chosen inputs words t deal given)
