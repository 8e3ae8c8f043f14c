-- What stands where, and which label it has.
use Rattle.std.proofs.Common.{◌≡◌, ℕ, zero, suc, ◌+◌, ◌*◌, ◌<◌, ◌≤◌, Bool, true, true≢false, Some, None, List, [], ◌∷◌, ◌++◌, map, length, refl, sym, ap, ◌∙◌, subst, subst₂, arith, inl, inr, get_or, slice_get}
use Rattle.std.specs.Prelude.{IsTrue, is_some}
use Rattle.std.specs.List.{list_all, range_with_len}
use Rattle.std.specs.Option.{option_map_or}
use Rattle.std.proofs.lemmas.Bool.{and_parts, cases_eq}
use Rattle.std.proofs.lemmas.List.FromFn.{get_or-map-range_with_len}
use Rattle.vd_base.specs.declared.ids.HostId.{HostId}
use Rattle.vd_base.specs.HostSets.{host}
use Rattle.vd_core.specs.Facts.{slots_step, slots_of, slots_made, IsWellMade}
use Rattle.vd_core.specs.declared.normal.NormalForm.{NormalForm}
use Rattle.vd_core.specs.declared.normal.Stmt.{Stmt, roll-Stmt, map-Stmt, ind-Stmt}
use Rattle.vd_core.specs.declared.normal.Stmt.TheOpen.{Stmt-F}
use Rattle.vd_core.specs.declared.normal.Stmt.TheFolds.{fold-roll-Stmt}
use Rattle.vd_constraints.specs.declared.labels.Labels.{Labels}
use Rattle.vd_constraints.specs.declared.system.Place.TheVariants.{Slot}
use Rattle.vd_constraints.specs.Satisfies.{label_at, no_label}
use Rattle.vd_formula.specs.declared.label.Label.{Label}
use Rattle.vd_space.specs.declared.problem.Making.{Making}
use Rattle.vd_space.specs.declared.problem.Problem.{Problem}
use Rattle.vd_space.specs.Reading.{Read, all_parts, read_step, read_stmt, problem_of}
use Rattle.vd_space.specs.Validity.{can_stand, stand}

abbrev label_in : Making → Label
label_in making = making.label

map_both : {X Y : Type 0} (f : X → Y) (xs ys : List X) → map f (xs ++ ys) ≡ map f xs ++ map f ys
map_both f [] ys = refl
map_both f (x ∷ xs) ys = ap (λ zs. f x ∷ zs) (map_both f xs ys)

nothing_found : {X : Type 0} (x : X) → None ≡ Some x → ⊥
nothing_found x is = true≢false (sym (ap is_some is))

module _ (l : Labels) where
  abbrev label_made : ℕ → Label
  label_made x = label_at l (Slot (record { 0 = x }))

  -- the labels of the slots that are made, in order
  abbrev Labelled : List ℕ → Read → Type 0
  Labelled made read = (weight : ℕ) → map label_in (read.parts weight).slots ≡ map label_made made

  abbrev M : Type 0
  M = (s : Stmt) × Labelled (slots_of s) (read_stmt l s)

  abbrev statements : List M → List Stmt
  statements = map {B = Stmt} (λ (m : M). m.0)

  abbrev layer : Stmt-F M → Stmt-F Stmt
  layer = map-Stmt M Stmt (λ m. m.0)

  joined_labels : (one more : List Making) (made others : List ℕ) → map label_in one ≡ map label_made made → map label_in more ≡ map label_made others → map label_in (one ++ more) ≡ map label_made (made ++ others)
  joined_labels one more made others first second =
      map_both label_in one more ∙ rw (first, second) refl ∙ sym (map_both label_made made others)

  all_labels : (ms : List M) (weight : ℕ) → map label_in (all_parts (map (read_stmt l) (statements ms)) weight).slots ≡ map label_made (slots_made (statements ms))
  all_labels [] weight = refl
  all_labels (m ∷ ms) weight =
      joined_labels ((read_stmt l m.0).parts weight).slots (all_parts (map (read_stmt l) (statements ms)) weight).slots (slots_of m.0) (slots_made (statements ms)) (m.1 weight) (all_labels ms weight)

  step : (y : Stmt-F M) → Labelled (slots_step (map-Stmt Stmt (List ℕ) slots_of (layer y))) (read_step l (map-Stmt Stmt Read (read_stmt l) (layer y)))
  step (Stmt-F.Let x r) weight = refl
  step (Stmt-F.NewVar v y) weight = refl
  step (Stmt-F.NewArray v cells) weight = refl
  step (Stmt-F.Store v y) weight = refl
  step (Stmt-F.Put v i y) weight = refl
  step (Stmt-F.Output y h offset) weight = refl
  step (Stmt-F.If y a b offset) weight =
      joined_labels (all_parts (map (read_stmt l) (statements a)) weight).slots (all_parts (map (read_stmt l) (statements b)) weight).slots (slots_made (statements a)) (slots_made (statements b)) (all_labels a weight) (all_labels b weight)
  step (Stmt-F.For count body) weight = all_labels body (weight * count)

  stmt_labels : (s : Stmt) → Labelled (slots_of s) (read_stmt l s)
  stmt_labels = ind-Stmt (λ s. Labelled (slots_of s) (read_stmt l s)) (λ x y is. subst (λ z. Labelled (slots_of (roll-Stmt z)) (read_stmt l (roll-Stmt z))) is (at_roll y))
    where
      at_roll : (y : Stmt-F M) → Labelled (slots_of (roll-Stmt (layer y))) (read_stmt l (roll-Stmt (layer y)))
      at_roll y = subst₂ Labelled (sym (fold-roll-Stmt (List ℕ) slots_step (layer y))) (sym (fold-roll-Stmt Read (read_step l) (layer y))) (step y)

  body_labels : (body : List Stmt) (weight : ℕ) → map label_in (all_parts (map (read_stmt l) body) weight).slots ≡ map label_made (slots_made body)
  body_labels [] weight = refl
  body_labels (s ∷ body) weight = joined_labels ((read_stmt l s).parts weight).slots (all_parts (map (read_stmt l) body) weight).slots (slots_of s) (slots_made body) (stmt_labels s weight) (body_labels body weight)

  found_label : (makings : List Making) (i : ℕ) (making : Making) → slice_get makings i ≡ Some making → (get_or (map label_in makings) i no_label ≡ making.label) × (i < length (map label_in makings))
  found_label [] i making is = absurd (nothing_found making is)
  found_label (one ∷ more) zero making is = (ap (λ o. option_map_or label_in o no_label) is, omega arith)
  found_label (one ∷ more) (suc i) making is = let rest = found_label more i making is in (rest.0, omega (arith, rest.1))

  length_of_range : (f : ℕ → Label) (a n : ℕ) → length (map f (range_with_len a n)) ≡ n
  length_of_range f a zero = refl
  length_of_range f a (suc n) = ap suc (length_of_range f (a + 1) n)

  -- a slot of the problem has the label of the slot
  pub label_of_slot : (p : NormalForm) → IsWellMade p → (i : ℕ) (making : Making) → slice_get (problem_of p l).slots i ≡ Some making → making.label ≡ label_made i
  label_of_slot p well i making is =
      let n = length p.slots in
      let found = found_label (problem_of p l).slots i making is in
      let labels = body_labels p.body 1 ∙ ap (map label_made) well.in_order in
      let low : i < n = subst (λ k. i < k) (length_of_range label_made 0 n) (subst (λ xs. i < length xs) labels found.1) in
      sym found.0 ∙ ap (λ xs. get_or xs i no_label) labels ∙ get_or-map-range_with_len label_made 0 n i i no_label low (omega arith)

-- what stands at a place is a slot of the problem that can stand there
pub stand_at : (problem : Problem) (makings : List Making) (list : List ℕ) (i q : ℕ) → IsTrue (stand problem makings list) → slice_get list i ≡ Some q
    → (making : Making) × ((slice_get makings i ≡ Some making) × IsTrue (can_stand problem making q))
stand_at problem makings [] i q stands is = absurd (nothing_found q is)
stand_at problem [] (p ∷ list) i q stands is = absurd (true≢false (sym stands))
stand_at problem (making ∷ makings) (p ∷ list) zero q stands is =
    let same : p ≡ q = ap (λ o. option_map_or (λ z. z) o 0) is in
    (making, (refl, subst (λ z. IsTrue (can_stand problem making z)) same (and_parts (can_stand problem making p) (stand problem makings list) stands).0))
stand_at problem (making ∷ makings) (p ∷ list) (suc i) q stands is = stand_at problem makings list i q (and_parts (can_stand problem making p) (stand problem makings list) stands).1 is

-- what holds of all hosts holds of each
pub of_host : (test : HostId → Bool) (a n k : ℕ) → list_all test (map host (range_with_len a n)) ≡ true → a ≤ k → k < a + n → test (host k) ≡ true
of_host test a zero k all low high = absurd (omega arith)
of_host test a (suc n) k all low high =
    let parts = and_parts (test (host a)) (list_all test (map host (range_with_len (a + 1) n))) all in
    elim (cases_eq k a) [ inl same ↦ subst (λ z. test (host z) ≡ true) (sym same) parts.0 | inr other ↦ of_host test (a + 1) n k parts.1 (omega (arith, other)) (omega arith) ]
