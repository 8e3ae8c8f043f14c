-- A path after a choice more, and with its last choice given back.
use Rattle.std.proofs.Common.{◌≡◌, ℕ, ◌+◌, ◌-◌, ◌<◌, ◌≤◌, Bool, true, false, cond, Option, List, [], ◌∷◌, ◌++◌, length, take, set, get_or, get_or-set_same, sym, ap, ap₂, ◌∙◌, subst, arith, inl, inr, length-set}
use Rattle.std.specs.Prelude.{IsTrue, nat_lt}
use Rattle.std.proofs.lemmas.Bool.{and_parts, cases_eq, true≢false, ltb-false}
use Rattle.std.proofs.lemmas.List.{length-take-le, take-set-le, take_more, take-take}
use Rattle.std.proofs.lemmas.List.Elements.{All-append, All-cons, All-nil, All-take}
use Rattle.vd_space.specs.declared.problem.Problem.{Problem}
use Rattle.vd_space.specs.Validity.{protocols, is_valid}
use Rattle.vd_space.specs.Growth.{extends, with_choice}
use Rattle.vd_space.proofs.Front.{valid_grows}
use Rattle.vd_space_prefix.specs.Tables.{AreListed}
use Rattle.vd_cost_network_prefix.specs.declared.made.SwitchTable.{SwitchTable}
use Rattle.vd_cost_network_prefix.specs.Reach.{AreDecidedBeside}
use Rattle.vd_cost_network_prefix.specs.States.{AreSwitchTables, states_of}
use Rattle.vd_cost_network_prefix.specs.Tables.{IsNetworkPath}
use Rattle.vd_cost_network_prefix.proofs.Turning.{beside_after, beside_before}

-- a choice that is written down behind those that are made
pub with_more : (room : List ℕ) (made choice : ℕ) → made < length room → take (made + 1) (set room made choice) ≡ take made room ++ choice ∷ []
with_more room made choice low =
    let room_left : made < length (set room made choice) = subst (λ n. made < n) (sym (length-set room made choice)) low in
    take_more (set room made choice) made 0 room_left
    ∙ ap₂ (λ front last. front ++ last ∷ []) (take-set-le made room made choice (omega arith)) (get_or-set_same room made choice 0 low)

pub last_of : (room : List ℕ) (made : ℕ) → 0 < made → made ≤ length room → take made room ≡ take (made - 1) room ++ get_or room (made - 1) 0 ∷ []
last_of room made some low =
    let same : made ≡ made - 1 + 1 = omega (arith, some) in
    ap (λ n. take n room) same ∙ take_more room (made - 1) 0 (omega (arith, some, low))

module _ (problem : Problem) where
  pub entered : (room new : List ℕ) (states next : List (Option ℕ)) (made told now choice : ℕ) (wanted : Bool) → IsNetworkPath problem room states made told → made < length problem.slots → choice < length (protocols problem)
      → new ≡ set room made choice → wanted ≡ is_valid problem (take (made + 1) new) → next ≡ cond wanted (states_of problem (take (made + 1) new)) states → now ≡ cond wanted (made + 1) told → IsNetworkPath problem new next (made + 1) now
  entered room new states next made told now choice wanted is low listed written valid decided counted = record {
    room = ap length written ∙ length-set room made choice ∙ is.room;
    depth = omega (arith, low);
    listed = subst (AreListed problem) (sym more)
        (All-append (λ p. p < length (protocols problem)) (take made room) (choice ∷ []) is.listed (All-cons (λ p. p < length (protocols problem)) choice [] listed (All-nil (λ p. p < length (protocols problem)))));
    within = known_within wanted counted;
    states = known wanted decided counted;
    valid = λ k within is_true. reached wanted valid counted k within is_true;
  }
    where
      size : length room ≡ length problem.slots
      size = is.room

      more : take (made + 1) new ≡ take made room ++ choice ∷ []
      more = ap (take (made + 1)) written ∙ with_more room made choice (omega (arith, size, low))

      before : (k : ℕ) → k ≤ made → take k new ≡ take k room
      before k within = ap (take k) written ∙ take-set-le k room made choice within

      known_within : (b : Bool) → now ≡ cond b (made + 1) told → now ≤ made + 1
      known_within true count = omega (arith, count)
      known_within false count = let le = is.within in omega (arith, count, le)

      known : (b : Bool) → next ≡ cond b (states_of problem (take (made + 1) new)) states → now ≡ cond b (made + 1) told → next ≡ states_of problem (take now new)
      known true them count = them ∙ ap (λ n. states_of problem (take n new)) (sym count)
      known false them count = them ∙ is.states ∙ ap (states_of problem) (sym (before told is.within)) ∙ ap (λ n. states_of problem (take n new)) (sym count)

      reached : (b : Bool) → b ≡ is_valid problem (take (made + 1) new) → now ≡ cond b (made + 1) told → (k : ℕ) → k ≤ made + 1 → IsTrue (is_valid problem (take k new)) → k ≤ now
      reached true same count k within is_true = omega (arith, count, within)
      reached false same count k within is_true = elim (cases_eq k (made + 1)) [
        | inl last ↦ absurd (true≢false (sym (same ∙ ap (λ n. is_valid problem (take n new)) (sym last) ∙ is_true)))
        | inr other ↦
            let le = is.valid k (omega (arith, within, other)) (subst (λ l. IsTrue (is_valid problem l)) (before k (omega (arith, within, other))) is_true) in
            omega (arith, count, le)
      ]

  pub left : (room : List ℕ) (states next : List (Option ℕ)) (made told now : ℕ) (wanted : Bool) → IsNetworkPath problem room states made told → wanted ≡ nat_lt (made - 1) told
      → next ≡ cond wanted (states_of problem (take (made - 1) room)) states → now ≡ cond wanted (made - 1) told → IsNetworkPath problem room next (made - 1) now
  left room states next made told now wanted is more decided counted =
      let deep = is.depth in
      record {
        room = is.room;
        depth = omega (arith, deep);
        listed = subst (AreListed problem) (take-take (made - 1) made room (omega arith)) (All-take (λ p. p < length (protocols problem)) (made - 1) (take made room) is.listed);
        within = known_within wanted more counted;
        states = known wanted decided counted;
        valid = λ k within is_true. reached wanted counted k within (is.valid k (omega (arith, within)) is_true);
      }
    where
      known_within : (b : Bool) → b ≡ nat_lt (made - 1) told → now ≡ cond b (made - 1) told → now ≤ made - 1
      known_within true same count = omega (arith, count)
      known_within false same count = let le = ltb-false (made - 1) told (sym same) in omega (arith, count, le)

      known : (b : Bool) → next ≡ cond b (states_of problem (take (made - 1) room)) states → now ≡ cond b (made - 1) told → next ≡ states_of problem (take now room)
      known true them count = them ∙ ap (λ n. states_of problem (take n room)) (sym count)
      known false them count = them ∙ is.states ∙ ap (λ n. states_of problem (take n room)) (sym count)

      reached : (b : Bool) → now ≡ cond b (made - 1) told → (k : ℕ) → k ≤ made - 1 → k ≤ told → k ≤ now
      reached true count k within le = omega (arith, count, within)
      reached false count k within le = omega (arith, count, le)

  -- where the prefix is valid, all choices are told
  pub all_told : (room : List ℕ) (states : List (Option ℕ)) (made told : ℕ) → IsNetworkPath problem room states made told → IsTrue (is_valid problem (take made room)) → states ≡ states_of problem (take made room)
  all_told room states made told is valid =
      let low = is.valid made (omega arith) valid in
      let high = is.within in
      let same : told ≡ made = omega (arith, low, high) in
      is.states ∙ ap (λ n. states_of problem (take n room)) same

  -- what stands there is right but for the slot of a choice that makes a valid prefix
  pub entering : (tables : List SwitchTable) (room new : List ℕ) (states : List (Option ℕ)) (made told choice : ℕ) → AreSwitchTables problem tables → IsNetworkPath problem room states made told → made < length problem.slots
      → new ≡ set room made choice → IsTrue (is_valid problem (take (made + 1) new)) → AreDecidedBeside problem tables (take (made + 1) new) made states
  entering tables room new states made told choice are is low written valid =
      let size = is.room in
      let more : take (made + 1) new ≡ with_choice (take made room) choice = ap (take (made + 1)) written ∙ with_more room made choice (omega (arith, size, low)) in
      let before : IsTrue (is_valid problem (take made room)) =
      (and_parts (is_valid problem (take made room)) (extends problem (take made room) choice) (sym (valid_grows problem (take made room) choice) ∙ sym (ap (is_valid problem) more) ∙ valid)).0 in
      let beside = beside_after problem (take made room) choice tables are states (all_told room states made told is before) in
      subst (λ n. AreDecidedBeside problem tables (take (made + 1) new) n states) (length-take-le made room (omega (arith, size, low)))
      (subst (λ list. AreDecidedBeside problem tables list (length (take made room)) states) (sym more) beside)

  -- and but for that of a choice that is given back
  pub leaving : (tables : List SwitchTable) (room : List ℕ) (states : List (Option ℕ)) (made told : ℕ) → AreSwitchTables problem tables → IsNetworkPath problem room states made told → 0 < made → made - 1 < told
      → AreDecidedBeside problem tables (take (made - 1) room) (made - 1) states
  leaving tables room states made told are is some more =
      let size = is.room in
      let deep = is.depth in
      let within = is.within in
      let all : told ≡ made = omega (arith, within, more) in
      let last = get_or room (made - 1) 0 in
      let whole : take told room ≡ with_choice (take (made - 1) room) last = ap (λ n. take n room) all ∙ last_of room made some (omega (arith, size, deep)) in
      let beside = beside_before problem (take (made - 1) room) last tables are states (is.states ∙ ap (states_of problem) whole) in
      subst (λ n. AreDecidedBeside problem tables (take (made - 1) room) n states) (length-take-le (made - 1) room (omega (arith, size, deep))) beside
