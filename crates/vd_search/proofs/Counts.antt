-- Prefixes within a threshold, one choice after the other.
use Rattle.std.proofs.Common.{◌≡◌, ℕ, zero, suc, ◌+◌, ◌-◌, ◌<◌, ◌≤◌, cond, List, [], ◌∷◌, ◌++◌, length, refl, ap, ◌∙◌, subst, arith, ℤ, pos, ◌-ℤ◌, ◌≤ℤ◌, int_le}
use Rattle.std.specs.Prelude.{IsTrue}
use Rattle.std.proofs.lemmas.Bool.{and_parts, cond-true}
use Rattle.std.proofs.lemmas.Int.{ints}
use Rattle.vd_search_tree.specs.Trees.{Tree, IsBounded, AtLeast, count_from, is_within, sum_below}
use Rattle.vd_search.specs.Answers.{Exceeds}
use Rattle.vd_search.specs.Passes.{count_at}
use Rattle.vd_search.proofs.Steps.{counts_step, is_within-yes, of_true, sum_next, sum_within}
use Rattle.vd_search.proofs.Thresholds.{count_most, spent_at}

-- a prefix within the threshold counts itself
from_here : (tree : Tree) (most : ℤ) (prefix : List ℕ) → IsTrue (is_within tree most prefix) → (left : ℕ) → 1 ≤ count_from (is_within tree most) tree.choices left prefix
from_here tree most prefix within zero =
    let here : ◌≡◌ {A = ℕ} (cond (is_within tree most prefix) 1 0) 1 = cond-true (is_within tree most prefix) 1 0 within in
    omega (arith, here)
from_here tree most prefix within (suc left) =
    let here : ◌≡◌ {A = ℕ} (cond (is_within tree most prefix) 1 0) 1 = cond-true (is_within tree most prefix) 1 0 within in
    omega (arith, here)

pub counts_itself : (tree : Tree) (most : ℤ) (prefix : List ℕ) (counted : ℕ) → IsTrue (is_within tree most prefix) → counted + 1 ≤ counted + count_at tree most prefix
counts_itself tree most prefix counted within = let some = from_here tree most prefix within (tree.slots - length prefix) in omega (arith, some)

-- ---- the loop over the choices at a prefix
pub record Counting (tree now : Tree) (most : ℤ) (budget : ℕ) (prefix path : List ℕ) (counted sum choice : ℕ) : Type 0 where
  pub same : now ≡ tree
  pub back : path ≡ prefix
  pub so_far : sum ≤ counted + 1 + sum_below (λ earlier. count_at tree most (prefix ++ earlier ∷ [])) choice
  pub few : sum ≤ budget + 1

-- a choice more
pub counting_on : (tree now entered later : Tree) (most : ℤ) (budget : ℕ) (prefix path grown back : List ℕ) (counted sum after choice : ℕ) → Counting tree now most budget prefix path counted sum choice
    → entered ≡ now → grown ≡ path ++ choice ∷ [] → after ≤ sum + count_at entered most grown → after ≤ budget + 1 → later ≡ entered → back ≡ path
    → Counting tree later most budget prefix back counted after (choice + 1)
counting_on tree now entered later most budget prefix path grown back counted sum after choice going enters grows more few leaves returns =
    let same_path : grown ≡ prefix ++ choice ∷ [] = grows ∙ ap (λ list. list ++ choice ∷ []) going.back in
    let there : after ≤ sum + count_at tree most (prefix ++ choice ∷ []) =
    subst (λ t. after ≤ sum + count_at t most (prefix ++ choice ∷ [])) (enters ∙ going.same) (subst (λ p. after ≤ sum + count_at entered most p) same_path more) in
    let next = sum_next (λ earlier. count_at tree most (prefix ++ earlier ∷ [])) choice in
    let so_far = going.so_far in
    record {
      same = leaves ∙ enters ∙ going.same;
      back = returns ∙ going.back;
      so_far = omega (arith, so_far, there, next);
      few = few;
    }

-- at the end of the loop
pub counted_all : (tree now : Tree) (most : ℤ) (budget : ℕ) (prefix path : List ℕ) (counted sum choice : ℕ) → Counting tree now most budget prefix path counted sum choice
    → length prefix < tree.slots → IsTrue (is_within tree most prefix) → choice ≤ tree.choices → sum ≤ counted + count_at tree most prefix
counted_all tree now most budget prefix path counted sum choice going low within listed =
    let whole = sum_within (λ earlier. count_at tree most (prefix ++ earlier ∷ [])) choice tree.choices listed in
    let so_far = going.so_far in
    let all = counts_step tree most prefix low within in
    omega (arith, so_far, whole, all)

-- ---- more prefixes than the budget has are below the floor
fewer_below : (tree : Tree) (most : ℤ) (floor : ℕ) (prefix : List ℕ) → most ≤ℤ pos floor → count_at tree most prefix ≤ count_at tree (pos floor) prefix
fewer_below tree most floor prefix low =
    count_most (is_within tree most) (is_within tree (pos floor)) (λ here within.
    let parts = and_parts (tree.valid here) (int_le (tree.bound here) most) within in
    let small : tree.bound here ≤ℤ most = record { le = of_true (int_le (tree.bound here) most) parts.1 } in
    is_within-yes tree (pos floor) here parts.0 (omega (arith, ints, small, low))) tree.choices (tree.slots - length prefix) prefix

pub spent_below : (tree now : Tree) (path : List ℕ) → now ≡ tree → path ≡ [] → (most : ℤ) (floor budget counted : ℕ) → most ≡ pos floor -ℤ pos 1 → IsBounded tree → AtLeast tree (pos floor) [] → budget < counted
    → counted ≤ 0 + count_at now most path → Exceeds tree budget
spent_below tree now path same root most floor budget counted is bounded least spent few =
    let more = fewer_below now most floor path (omega (arith, ints, is)) in
    spent_at tree now path same root (pos floor) floor budget counted refl bounded least spent (omega (arith, few, more))
