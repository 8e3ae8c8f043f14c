-- The least over settings that are listed is the least over those that pass.
use Rattle.std.proofs.Common.{◌≡◌, ℕ, zero, suc, ◌+◌, ◌<◌, Bool, true, false, cond, Option, Some, None, List, [], ◌∷◌, ◌++◌, length, filter, get_or, refl, sym, ap, ap₂, ◌∙◌, arith, add-one, append-nil, ℤ, pos}
use Rattle.std.specs.Prelude.{unwrap_or}
use Rattle.std.specs.List.{range_with_len}
use Rattle.std.specs.Option.{option_map_or}
use Rattle.std.proofs.lemmas.List.{get_or_append_left, get_or_push, length_push}
use Rattle.std.proofs.lemmas.List.Elements.{filter-append}
use Rattle.vd_space.specs.Bounds.{lesser, least_below, only_if}
use Rattle.vd_space_prefix.specs.Transfers.{by_place, least_where}
use Rattle.vd_space_prefix.proofs.Front.{at_place, same_least}
use Rattle.vd_cost_network_prefix.specs.States.{arc_at, point_at}
use Rattle.vd_space.specs.Network.{no_parts_left}
use Rattle.vd_cost_network_tables.specs.Tables.{arc_table_of, point_table_of}
use Rattle.vd_cost_network_tables.proofs.Front.{least_where_same}
use Rattle.vd_cost_network_bound.specs.Least.{least_among, passing}

-- ---- one setting more

lesser_nothing : (a : Option ℤ) → lesser a None ≡ a
lesser_nothing None = refl
lesser_nothing (Some a) = refl

least_push : (xs : List ℕ) (v : ℕ) (value : ℕ → Option ℤ) → least_among (xs ++ v ∷ []) value ≡ lesser (least_among xs value) (value v)
least_push xs v value =
    let more : ℕ → Option ℤ = λ k. value (get_or (xs ++ v ∷ []) k 0) in
    ap (λ n. least_below n more) (length_push xs v ∙ add-one (length xs))
    ∙ ap₂ lesser
    (same_least (length xs) more (λ k. value (get_or xs k 0)) (λ k low. ap value (get_or_append_left xs (v ∷ []) 0 k low)))
    (ap value (get_or_push xs v 0 (length xs) refl))

push_if_passing : (xs : List ℕ) (v : ℕ) (value : ℕ → Option ℤ) (test : Bool) → least_among (xs ++ cond test (v ∷ []) []) value ≡ lesser (least_among xs value) (only_if test (value v))
push_if_passing xs v value true = least_push xs v value
push_if_passing xs v value false = ap (λ list. least_among list value) (append-nil xs) ∙ sym (lesser_nothing (least_among xs value))

-- those of the first places that pass
abbrev pub passing_below : List Bool → ℕ → List ℕ
passing_below tests n = filter (λ v. get_or tests v false) (range_with_len 0 n)

range_more : (first n : ℕ) → range_with_len first (suc n) ≡ range_with_len first n ++ (first + n) ∷ []
range_more first zero = let same : first ≡ first + zero = omega arith in ap (λ k. k ∷ []) same
range_more first (suc n) =
    let next : first + 1 + n ≡ first + suc n = omega arith in
    ap (λ rest. first ∷ rest) (range_more (first + 1) n ∙ ap (λ k. range_with_len (first + 1) n ++ k ∷ []) next)

pub passing_more : (tests : List Bool) (n : ℕ) → passing_below tests (suc n) ≡ passing_below tests n ++ cond (get_or tests n false) (n ∷ []) []
passing_more tests n =
    let zero_on : 0 + n ≡ n = omega arith in
    ap (filter (λ v. get_or tests v false)) (range_more 0 n ∙ ap (λ k. range_with_len 0 n ++ k ∷ []) zero_on)
    ∙ filter-append (λ v. get_or tests v false) (range_with_len 0 n) (n ∷ [])

passing_least : (tests : List Bool) (value : ℕ → Option ℤ) (n : ℕ) → least_among (passing_below tests n) value ≡ least_below n (λ v. only_if (get_or tests v false) (value v))
passing_least tests value zero = refl
passing_least tests value (suc n) =
    ap (λ list. least_among list value) (passing_more tests n)
    ∙ push_if_passing (passing_below tests n) n value (get_or tests n false)
    ∙ ap (λ least. lesser least (only_if (get_or tests n false) (value n))) (passing_least tests value n)

-- ---- the least by what is decided

-- the one setting, or those that pass
abbrev pub settings_by : List Bool → Option ℕ → List ℕ
settings_by tests state = option_map_or (λ v. v ∷ []) state (passing tests)

abbrev pub least_by : List Bool → Option ℕ → (ℕ → Option ℤ) → Option ℤ
least_by tests None value = least_where tests value
least_by tests (Some v) value = value v

-- each state is one that there is
abbrev pub IsIn : List Bool → Option ℕ → Type 0
IsIn tests state = (v : ℕ) → state ≡ Some v → v < length tests

pub least_is : (tests : List Bool) (state : Option ℕ) (f g : ℕ → Option ℤ) → IsIn tests state → ((v : ℕ) → v < length tests → f v ≡ g v) → least_among (settings_by tests state) f ≡ least_by tests state g
least_is tests None f g inside same = passing_least tests f (length tests) ∙ least_where_same tests f g same
least_is tests (Some v) f g inside same = same v (inside v refl)

-- ---- what tables give

abbrev number : Option ℤ → ℤ
number value = unwrap_or value no_parts_left

pub point_table_gives : (tests : List Bool) (state : Option ℕ) (value : ℕ → Option ℤ) → IsIn tests state → number (least_by tests state value) ≡ point_at (point_table_of tests value) state
point_table_gives tests None value inside = refl
point_table_gives tests (Some v) value inside = sym (at_place (length tests) (λ w. number (value w)) v (pos 0) (inside v refl))

pub arc_table_gives : (i j : ℕ) (firsts seconds : List Bool) (first second : Option ℕ) (value : ℕ → ℕ → Option ℤ) → IsIn firsts first → IsIn seconds second
    → number (least_by firsts first (λ v. least_by seconds second (value v))) ≡ arc_at (arc_table_of i j firsts seconds value) first second
arc_table_gives i j firsts seconds None None value inside inside_too = refl
arc_table_gives i j firsts seconds (Some v) None value inside inside_too = sym (at_place (length firsts) (λ r. number (least_where seconds (value r))) v (pos 0) (inside v refl))
arc_table_gives i j firsts seconds None (Some w) value inside inside_too = sym (at_place (length seconds) (λ r. number (least_where firsts (λ v. value v r))) w (pos 0) (inside_too w refl))
arc_table_gives i j firsts seconds (Some v) (Some w) value inside inside_too =
    sym (ap (λ row. number (get_or row w None)) (at_place (length firsts) (λ r. by_place (length seconds) (value r)) v [] (inside v refl))
    ∙ ap number (at_place (length seconds) (value v) w None (inside_too w refl)))
