-- Lists of shifts that grow, and those that are a problem's.
use Rattle.std.proofs.Common.{◌≡◌, ℕ, zero, suc, ◌+◌, add-one, ◌<◌, Bool, Option, Result, Ok, Err, List, [], ◌∷◌, ◌++◌, length, get_or, refl, sym, ap, ◌∙◌, subst, arith, ℤ, pos}
use Rattle.std.specs.Prelude.{IfOk, IfSome, OnOk, Vec, vec_items}
use Rattle.std.specs.List.{flat_map, range_with_len}
use Rattle.std.proofs.lemmas.Grind.{flat_map-append}
use Rattle.std.proofs.lemmas.List.{append_assoc, append-nil}
use Rattle.vd_search_tree.specs.declared.shift.Shift.{Shift}
use Rattle.vd_space.specs.declared.problem.Problem.{Problem}
use Rattle.vd_space.specs.Validity.{protocols}
use Rattle.vd_space.specs.Arcs.{arcs}
use Rattle.vd_cost_network_dual.specs.Rows.{row_in, row_of}
use Rattle.vd_space.specs.Shifts.{AreArcShifts, AreShiftsOf}
use Rattle.vd_cost_network_ascent.specs.Shifts.{Adds, Puts, PutsRow, arc_shifts, net_shifts, row_shifts, shift_to}

-- a place more, where the first of at least so many places are reached
pub next_place : (at place places : ℕ) (before between after : List Shift) → place < places → PutsRow at place before between → Puts at place between after → PutsRow at places before after
next_place at place places before between after low row put = λ count choices is le are. put count choices is (omega (arith, low, le)) (row count choices is (omega (arith, low, le)) are)

-- all places
pub all_places : (at place places : ℕ) (before after : List Shift) → place ≡ places → PutsRow at place before after → PutsRow at places before after
all_places at place places before after all row = subst (λ (n : ℕ). PutsRow at n before after) all row

pub of_problem : {E : Type 0} (problem : Problem) (count choices : ℕ) (result : Result (Option (List Shift)) E) → count ≡ length (arcs problem) → choices ≡ length (protocols problem)
    → IfOk result (λ found. IfSome found (AreShiftsOf count choices)) → IfOk result (λ found. IfSome found (AreArcShifts problem))
of_problem problem count choices result same_arcs same_choices are =
    subst (λ (c : ℕ). IfOk result (λ found. IfSome found (AreShiftsOf (length (arcs problem)) c))) same_choices
    (subst (λ (n : ℕ). IfOk result (λ found. IfSome found (AreShiftsOf n choices))) same_arcs are)

-- ---- one place, or one arc, more

range_more : (a n : ℕ) → range_with_len a (suc n) ≡ range_with_len a n ++ (a + n) ∷ []
range_more a zero = let same : a ≡ a + 0 = omega arith in ap (λ (k : ℕ). k ∷ []) same
range_more a (suc n) =
    let same : a + 1 + n ≡ a + suc n = omega arith in
    ap (λ l. a ∷ l) (range_more (a + 1) n ∙ ap (λ k. range_with_len (a + 1) n ++ k ∷ []) same)

pub flat_more : {X : Type 0} (f : ℕ → List X) (n : ℕ) → flat_map f (range_with_len 0 (n + 1)) ≡ flat_map f (range_with_len 0 n) ++ f n
flat_more f n =
    let same : 0 + n ≡ n = omega arith in
    ap (λ k. flat_map f (range_with_len 0 k)) (add-one n) ∙ ap (flat_map f) (range_more 0 n ∙ ap (λ k. range_with_len 0 n ++ k ∷ []) same) ∙ flat_map-append f (range_with_len 0 n) (n ∷ [])
    ∙ ap (λ l. flat_map f (range_with_len 0 n) ++ l) (append-nil (f n))

joined : {X : Type 0} (before more last between after whole : List X) → between ≡ before ++ more → after ≡ between ++ last → whole ≡ more ++ last → after ≡ before ++ whole
joined before more last between after whole first second all =
    second ∙ ap (λ l. l ++ last) first ∙ append_assoc before more last ∙ ap (λ l. before ++ l) (sym all)

-- a place more of a row
pub row_next : (at side place : ℕ) (row : List ℤ) (amount : ℤ) (before between after : List Shift) → amount ≡ get_or row place (pos 0) → between ≡ before ++ row_shifts at side row place → after ≡ between ++ shift_to at side place amount
    → after ≡ before ++ row_shifts at side row (place + 1)
row_next at side place row amount before between after is first second =
    joined before (row_shifts at side row place) (shift_to at side place (get_or row place (pos 0))) between after (row_shifts at side row (place + 1)) first
    (second ∙ ap (λ z. between ++ shift_to at side place z) is) (flat_more (λ p. shift_to at side p (get_or row p (pos 0))) place)

-- an arc more
pub arc_next : (firsts seconds : ℕ → List ℤ) (places at : ℕ) (before after : List Shift) → before ≡ net_shifts firsts seconds places at → after ≡ before ++ arc_shifts firsts seconds places at
    → after ≡ net_shifts firsts seconds places (at + 1)
arc_next firsts seconds places at before after so_far put = put ∙ ap (λ l. l ++ arc_shifts firsts seconds places at) so_far ∙ sym (flat_more (arc_shifts firsts seconds places) at)

-- both ends of an arc
both_ends : (firsts seconds : ℕ → List ℤ) (places at : ℕ) (before between after : List Shift) → between ≡ before ++ row_shifts at 0 (firsts at) places → after ≡ between ++ row_shifts at 1 (seconds at) places
    → after ≡ before ++ arc_shifts firsts seconds places at
both_ends firsts seconds places at before between after one two = joined before (row_shifts at 0 (firsts at) places) (row_shifts at 1 (seconds at) places) between after (arc_shifts firsts seconds places at) one two refl

pub adds_both : {E : Type 0} (firsts seconds : ℕ → List ℤ) (places at : ℕ) (first second : List ℤ) (before between after : List Shift) (result : Result Bool E) → first ≡ firsts at → second ≡ seconds at
    → between ≡ before ++ row_shifts at 0 first places → IfOk result (Adds (row_shifts at 1 second places) between after) → IfOk result (Adds (arc_shifts firsts seconds places at) before after)
adds_both firsts seconds places at first second before between after (Ok done) is_first is_second one two = λ is_done.
    both_ends firsts seconds places at before between after (one ∙ ap (λ (row : List ℤ). before ++ row_shifts at 0 row places) is_first) (two is_done ∙ ap (λ (row : List ℤ). between ++ row_shifts at 1 row places) is_second)
adds_both firsts seconds places at first second before between after (Err cause) is_first is_second one two = tt

-- a row of a table
pub in_rows : {Y Z : Type 0} (rows : Vec (Vec ℤ Z) Y) (slice : List (Vec ℤ Z)) (row : List ℤ) (at : ℕ) → row ≡ row_in slice at → slice ≡ vec_items rows → row ≡ row_of rows at
in_rows rows slice row at is same = is ∙ ap (λ (all : List (Vec ℤ _)). row_in all at) same

-- two rows of an arc, one after the other
pub puts_both : {T E : Type 0} (result : Result T E) (at places : ℕ) (before between after : List Shift) → PutsRow at places before between → OnOk result (PutsRow at places between after) → OnOk result (PutsRow at places before after)
puts_both (Ok done) at places before between after first second = λ count choices low few are. second count choices low few (first count choices low few are)
puts_both (Err cause) at places before between after first second = tt
