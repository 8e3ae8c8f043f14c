-- What a bound by arcs above a cost shows of a prefix.
use Rattle.std.proofs.Common.{◌≡◌, ℕ, suc, ◌<◌, true, List, [], ◌∷◌, ◌++◌, Result, Ok, Err, get_or, sym, subst, arith, ℤ, pos, ◌≤ℤ◌}
use Rattle.std.proofs.lemmas.Int.{ints}
use Rattle.std.proofs.lemmas.Bool.{ltb-true}
use Rattle.std.proofs.lemmas.List.Elements.{All-push}
use Rattle.std.proofs.lemmas.List.Sums.{AllPass-from_list_all}
use Rattle.std.specs.Prelude.{IfOk, OnOk, nat_lt}
use Rattle.std.specs.List.{All, list_all}
use Rattle.vd_search_tree.specs.declared.shift.Shift.{Shift}
use Rattle.vd_space.specs.declared.problem.Problem.{Problem}
use Rattle.vd_space.specs.Spaces.{IsProblem}
use Rattle.vd_space.specs.Network.{by_arcs, units}
use Rattle.vd_space.proofs.Front.{network_high_whole, units_below}
use Rattle.vd_cost_network_bound.specs.Ascents.{IsBeyond}

pub all_among : (choices : List ℕ) (count many : ℕ) → count ≡ many → list_all (λ choice. nat_lt choice count) choices ≡ true → All (λ choice. choice < many) choices
all_among choices count many same all k d low =
    subst (λ n. get_or choices k d < n) same (ltb-true (get_or choices k d) count (AllPass-from_list_all (λ choice. nat_lt choice count) choices all k d low))

-- each list that begins so costs more, whatever the shifts of the tree are
pub beyond_by : (problem : Problem) (shifts : List Shift) (most : ℕ) (prefix : List ℕ) (least : ℤ) → IsProblem problem → least ≡ units (by_arcs problem shifts prefix) → pos (suc most) ≤ℤ least → IsBeyond problem most prefix
beyond_by problem shifts most prefix least holds is above = λ others rest whole.
    let one = units_below problem holds shifts prefix rest whole.full whole.valid in
    let two = network_high_whole problem holds others (prefix ++ rest) whole.full whole.valid in
    omega (arith, ints, is, above, one, two)

-- one prefix more
pub one_more : {E : Type 0} (P : List ℕ → Type 0) (old new : List (List ℕ)) (prefix : List ℕ) (result : Result (Unit {0}) E) → All P old → P prefix → OnOk result (new ≡ old ++ prefix ∷ []) → IfOk result (λ _. All P new)
one_more P old new prefix (Ok done) all here longer = subst (All P) (sym longer) (All-push P old prefix all here)
one_more P old new prefix (Err cause) all here longer = tt
