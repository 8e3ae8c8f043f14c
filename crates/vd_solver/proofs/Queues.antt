-- Queues of rules that wait.
use Rattle.std.proofs.Common.{◌≡◌, ℕ, zero, suc, ◌+◌, ◌<◌, Bool, true, false, List, [], ◌∷◌, ◌++◌, length, get_or, set, take, sym, ap, ◌∙◌, subst, arith, inl, inr}
use Rattle.std.specs.Prelude.{All, Contains, IsTrue}
use Rattle.std.proofs.lemmas.Bool.{cases_eq, true≢false}
use Rattle.std.proofs.lemmas.List.{length-set, get_or-set_same, get_or-set_other}
use Rattle.std.proofs.lemmas.List.Elements.{All-push, All-more, All-weaker, Contains-push, Contains-append_left, Contains-append_cases}
use Rattle.std.proofs.Math.ListN.{length-append, length-take}
use Rattle.vd_solver.specs.declared.waiting.Waiting.{Waiting}
use Rattle.vd_solver.specs.Visits.{IsWaiting, AddsRules}

only : (x y : ℕ) → Contains (x ∷ []) y → x ≡ y
only x y (zero, low, same) = same
only x y (suc k, low, same) = absurd (omega arith)

-- what waits after the first is taken is in the rest
pub in_rest : (flags : List Bool) (queue rest : List ℕ) (rule : ℕ) → rule < length flags → queue ≡ rule ∷ rest → ((r : ℕ) → IsTrue (get_or flags r false) → Contains queue r) → (r : ℕ) → IsTrue (get_or (set flags rule false) r false) → Contains rest r
in_rest flags queue rest rule low e listed r waits = elim (cases_eq r rule) [
  | inl same ↦ absurd (true≢false (sym waits ∙ ap (λ k. get_or (set flags rule false) k false) same ∙ get_or-set_same flags rule false false low))
  | inr differs ↦
      let still : IsTrue (get_or flags r false) = sym (get_or-set_other flags rule r false false differs) ∙ waits in
      let there : Contains (rule ∷ rest) r = subst (λ xs. Contains xs r) e (listed r still) in
      elim (Contains-append_cases (rule ∷ []) rest r there) [
        | inl first ↦ absurd (differs (sym (only rule r first)))
        | inr later ↦ later
      ]
]

-- what waits after one more is put in
module _ (flags : List Bool) (queue : List ℕ) (rule : ℕ) where
  waits_still : (r : ℕ) → IsTrue (get_or flags r false) → IsTrue (get_or (set flags rule true) r false)
  waits_still r waits = elim (cases_eq r rule) [
    | inr differs ↦ get_or-set_other flags rule r true false differs ∙ waits
    | inl same ↦ ap (λ k. get_or (set flags rule true) k false) same ∙ get_or-set_same flags rule true false (below flags rule (sym (ap (λ k. get_or flags k false) same) ∙ waits))
  ]
    where
      below : (xs : List Bool) (k : ℕ) → IsTrue (get_or xs k false) → k < length xs
      below [] k waits = absurd (true≢false (sym waits))
      below (x ∷ xs) zero waits = omega arith
      below (x ∷ xs) (suc k) waits = let rest = below xs k waits in omega (arith, rest)

  in_longer : ((r : ℕ) → IsTrue (get_or flags r false) → Contains queue r) → (r : ℕ) → IsTrue (get_or (set flags rule true) r false) → Contains (queue ++ rule ∷ []) r
  in_longer listed r waits = elim (cases_eq r rule) [
    | inl same ↦ subst (Contains (queue ++ rule ∷ [])) (sym same) (Contains-push queue rule)
    | inr differs ↦ Contains-append_left queue (rule ∷ []) r (listed r (sym (get_or-set_other flags rule r true false differs) ∙ waits))
  ]

-- ---- the rules of a list put in, one after another

module _ (old w : Waiting) (rules : List ℕ) (i rule : ℕ) (low : i < length rules) (is : rule ≡ get_or rules i rule) (so_far : AddsRules old (take i rules) w) where
  long : length (take (i + 1) rules) ≡ length (take i rules) + 1
  long = omega (arith, length-take i rules, length-take (i + 1) rules)

  -- a rule that waits already
  pub adds_old : IsTrue (get_or w.flags.items rule false) → AddsRules old (take (i + 1) rules) w
  adds_old waits = record {
    count = so_far.count;
    queue = so_far.queue;
    added = All-more (IsWaiting w) rules i rule low so_far.added (subst (IsWaiting w) is waits);
    kept = so_far.kept;
    longer = let before = so_far.longer in omega (arith, long);
  }

  module _ (new : Waiting) (flags : new.flags.items ≡ set w.flags.items rule true) (queue : new.queue.items ≡ w.queue.items ++ rule ∷ []) (fits : rule < length w.flags.items) where
    same_count : length new.flags.items ≡ length w.flags.items
    same_count = ap length flags ∙ length-set w.flags.items rule true

    still : (r : ℕ) → IsWaiting w r → IsWaiting new r
    still r waits = subst (λ xs. IsTrue (get_or xs r false)) (sym flags) (waits_still w.flags.items w.queue.items rule r waits)

    pub adds_new : AddsRules old (take (i + 1) rules) new
    adds_new = record {
      count = same_count ∙ so_far.count;
      queue = record {
        rules = subst (λ xs. All (λ r. r < length new.flags.items) xs) (sym queue)
            (All-push (λ r. r < length new.flags.items) w.queue.items rule (All-weaker (λ r. r < length w.flags.items) (λ r. r < length new.flags.items) (λ r h. omega (arith, same_count)) w.queue.items so_far.queue.rules) (omega (arith, same_count)));
        listed = λ r waits. subst (λ xs. Contains xs r) (sym queue) (in_longer w.flags.items w.queue.items rule so_far.queue.listed r (subst (λ xs. IsTrue (get_or xs r false)) flags waits));
      };
      added = All-more (IsWaiting new) rules i rule low (All-weaker (IsWaiting w) (IsWaiting new) still (take i rules) so_far.added)
          (subst (IsWaiting new) is (subst (λ xs. IsTrue (get_or xs rule false)) (sym flags) (get_or-set_same w.flags.items rule true false fits)));
      kept = λ r waits. still r (so_far.kept r waits);
      longer =
          let before = so_far.longer in
          let more : length new.queue.items ≡ length w.queue.items + 1 = ap length queue ∙ length-append w.queue.items (rule ∷ []) in
          omega (arith, long);
    }
