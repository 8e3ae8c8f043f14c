-- Where a list of protocols is valid, each slot has a candidate, and no division becomes a loop.
use Rattle.std.proofs.Common.{◌≡◌, ◌⊎◌, inl, inr, ℕ, zero, suc, ◌+◌, ◌<◌, ◌≤◌, nat_lt, nat_le, Bool, true, false, ◌&&◌, ◌||◌, not, if◌then◌else◌, Some, List, [], ◌∷◌, length, map, slice_get, slice_index_or, refl, sym, ap, ◌∙◌, subst, arith}
use Rattle.std.specs.Prelude.{is_some}
use Rattle.std.specs.List.{list_any, range_with_len}
use Rattle.std.specs.Option.{option_map_or}
use Rattle.std.proofs.lemmas.Bool.{and_parts, cases_lt, ltb-true}
use Rattle.vd_base.specs.declared.ids.SlotId.{SlotId}
use Rattle.vd_base.specs.Costs.{cost_at}
use Rattle.vd_core.specs.declared.normal.NormalForm.{NormalForm}
use Rattle.vd_core.specs.declared.normal.Stmt.{Stmt, roll-Stmt, map-Stmt, ind-Stmt}
use Rattle.vd_core.specs.declared.normal.Stmt.TheOpen.{Stmt-F}
use Rattle.vd_core.specs.declared.normal.Stmt.TheFolds.{fold-Stmt, fold-roll-Stmt}
use Rattle.vd_core.specs.Facts.{IsWellMade, nesting}
use Rattle.vd_base.specs.Limits.{most_nesting}
use Rattle.vd_constraints.specs.declared.labels.Labels.{Labels}
use Rattle.vd_protocol.specs.Authority.{authority_of}
use Rattle.vd_space.specs.declared.problem.Problem.{Problem}
use Rattle.vd_space.specs.declared.problem.Making.{Making}
use Rattle.vd_space.specs.Reading.{problem_of}
use Rattle.vd_space.specs.Validity.{protocols, protocol, can_stand, covers, has_candidate}
use Rattle.vd_space.proofs.Front.{parts_of, as_many}
use Rattle.vd_space.specs.Cheapest.{IsValid as IsValidList}
use Rattle.vd_cmd_rewrite.specs.Unchanged.{ChosenDivisionsStay}
use Rattle.vd_noninter_protocols.proofs.Front.{stand_at}
use Rattle.vd_rewrite.specs.Rewriting.{is_within}
use Rattle.vd_long.specs.Lengthened.{parts_of as parts_of_right, is_division, some_true, lengthens_step, with_long_divisions}
use Rattle.vd_rewrite.specs.Rewriting.{marked}
use Rattle.vd_long.specs.Marks.{long_marks, lengthen_of}
use Rattle.vd_cmd_rewrite.proofs.Chosen.{item_there}

any_at : (f : ℕ → Bool) (a n k : ℕ) → a ≤ k → k < a + n → f k ≡ true → list_any f (range_with_len a n) ≡ true
any_at f a zero k low high is = absurd (omega arith)
any_at f a (suc n) k low high is = by (cases_lt a k) (λ lt. any_at f (a + 1) n k (omega arith) (omega arith) is)
  where
    first : a ≡ k → (f a || list_any f (range_with_len (a + 1) n)) ≡ true
    first e = ap (λ z. f z || list_any f (range_with_len (a + 1) n)) e ∙ ap (λ b. b || list_any f (range_with_len (a + 1) n)) is

    later : (b : Bool) → list_any f (range_with_len (a + 1) n) ≡ true → (b || list_any f (range_with_len (a + 1) n)) ≡ true
    later true h = refl
    later false h = h

    by : (a < k) ⊎ (k ≤ a) → (a < k → list_any f (range_with_len (a + 1) n) ≡ true) → (f a || list_any f (range_with_len (a + 1) n)) ≡ true
    by (inl lt) rest = later (f a) (rest lt)
    by (inr le) rest = first (omega arith)

all_false : {A : Type 0} (f : A → Bool) (xs : List A) → ((k : ℕ) (a : A) → k < length xs → slice_get xs k ≡ Some a → f a ≡ false) → (k : ℕ) → slice_index_or (map f xs) k false ≡ false
all_false f [] h k = refl
all_false f (x ∷ xs) h zero = h zero x (omega arith) refl
all_false f (x ∷ xs) h (suc k) = all_false f xs (λ j a low e. h (suc j) a (omega arith) e) k

module _ (p : NormalForm) (l : Labels) (list : List ℕ) (well : IsWellMade p) (assigned : IsValidList (problem_of p l) list) where
  abbrev problem : Problem
  problem = problem_of p l

  abbrev marks : SlotId → Bool
  marks = marked (long_marks problem)

  candidate : (x : ℕ) (making : Making) → x < length problem.slots → slice_get problem.slots x ≡ Some making → has_candidate problem making ≡ true
  candidate x making low is =
      let valid = parts_of problem list assigned.valid in
      let there = item_there list x (let e = assigned.whole in let e' = as_many p l well in omega (arith, e, e', low)) in
      let q = there.0 in
      let stands = stand_at problem problem.slots list x q valid.stands there.1 in
      let first = and_parts (nat_lt q (length (protocols problem)) && is_some (cost_at stands.0.row (protocol problem q))) (covers (authority_of (protocol problem q) problem.hosts) stands.0.label) stands.1.1 in
      let second = and_parts (nat_lt q (length (protocols problem))) (is_some (cost_at stands.0.row (protocol problem q))) first.0 in
      let lt = ltb-true q (length (protocols problem)) second.0 in
      ap (λ o. option_map_or (has_candidate problem) o true) (sym is ∙ stands.1.0)
      ∙ any_at (can_stand problem stands.0) 0 (length (protocols problem)) q (omega arith) (omega (arith, lt)) stands.1.1

  none_marked : (x : SlotId) → marks x ≡ false
  none_marked x = all_false (λ making. not (has_candidate problem making)) problem.slots (λ k making low is. ap not (candidate k making low is)) x.0

  abbrev is_long : Stmt → Bool
  is_long = fold-Stmt Bool (lengthens_step marks)

  abbrev M : Type 0
  M = (s : Stmt) × (is_long s ≡ false)

  abbrev stmts : List M → List Stmt
  stmts ms = map (λ (m : M). m.0) ms

  none_true : (ms : List M) → some_true (map is_long (stmts ms)) ≡ false
  none_true [] = refl
  none_true (m ∷ ms) = ap (λ b. if b then true else some_true (map is_long (stmts ms))) m.1 ∙ none_true ms

  abbrev layer : Stmt-F M → Stmt-F Stmt
  layer = map-Stmt M Stmt (λ m. m.0)

  step : (y : Stmt-F M) → lengthens_step marks (map-Stmt Stmt Bool is_long (layer y)) ≡ false
  step (Stmt-F.Let x r) = ap (λ b. b && is_division (parts_of_right r)) (none_marked x)
  step (Stmt-F.NewVar v x) = refl
  step (Stmt-F.NewArray v cells) = refl
  step (Stmt-F.Store v x) = refl
  step (Stmt-F.Put v i x) = refl
  step (Stmt-F.Output x host offset) = refl
  step (Stmt-F.If g a b offset) = ap (λ c. if c then true else some_true (map is_long (stmts b))) (none_true a) ∙ none_true b
  step (Stmt-F.For count body) = none_true body

  none_long : (s : Stmt) → is_long s ≡ false
  none_long = ind-Stmt (λ s. is_long s ≡ false) (λ x y is. subst (λ z. is_long (roll-Stmt z) ≡ false) is (fold-roll-Stmt Bool (lengthens_step marks) (layer y) ∙ step y))

  none_in : (body : List Stmt) → some_true (map is_long body) ≡ false
  none_in [] = refl
  none_in (s ∷ ss) = ap (λ b. if b then true else some_true (map is_long ss)) (none_long s) ∙ none_in ss

  long_stays : lengthen_of p l ≡ p
  long_stays = ap (λ b. if b && (is_within (with_long_divisions marks p) && nat_le (nesting (with_long_divisions marks p).body) most_nesting) then with_long_divisions marks p else p) (none_in p.body)

pub divisions_stay : ChosenDivisionsStay
divisions_stay p l protocols well assigned = long_stays p l assigned.places well assigned.is_valid
