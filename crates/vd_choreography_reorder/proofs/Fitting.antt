-- Joined packets are not too long, and no two are left that could share.
use Rattle.std.proofs.Common.{◌≡◌, ℕ, ◌+◌, ◌≤◌, nat_eq, nat_le, Bool, true, false, ◌&&◌, if◌then◌else◌, List, [], ◌∷◌, ◌++◌, length, refl, sym, ap, ◌∙◌, subst, arith}
use Rattle.std.proofs.lemmas.Bool.{eqb-true, leb-true, le-leb}
use Rattle.std.proofs.lemmas.List.{length-append}
use Rattle.vd_execution.specs.declared.instructions.Reg.{Reg}
use Rattle.vd_execution.specs.Joint.{Part, Joint, Done, Do, Msg, If, For}
use Rattle.vd_choreography_reorder.specs.Order.{without_empty}
use Rattle.vd_choreography_reorder.proofs.Sound.{both}
use Rattle.vd_choreography_reorder.specs.Joining.{can_share, message_before, joined}
use Rattle.vd_choreography_reorder.specs.Telling.{PacketsAreWithin, CannotShare, AllAreJoined}

sum_within : (n m k most : ℕ) → k ≡ n + m → n + m ≤ most → k ≤ most
sum_within n m k most e f = omega (arith, e, f)

less_room : (n m k t most : ℕ) → k ≡ n + m → k + t ≤ most → m + t ≤ most
less_room n m k t most e f = omega (arith, e, f)

still_not : (p q r : Bool) → (p && q) ≡ false → (r ≡ true → q ≡ true) → (p && r) ≡ false
still_not true true r e f = absurd cc
still_not true false true e f = let wrong = f refl in absurd cc
still_not true false false e f = refl
still_not false q r e f = refl

module _ (most : ℕ) where
  both_within : (said says : List Reg) → nat_le (length said + length says) most ≡ true → length (said ++ says) ≤ most
  both_within said says e =
      sum_within (length said) (length says) (length (said ++ says)) most (length-append said says) (leb-true (length said + length says) most e)

  within_before : (a : ℕ) (said : List Reg) (b : ℕ) (heard : List Reg) (j : Joint) → length said ≤ most → PacketsAreWithin most j → PacketsAreWithin most (message_before most a said b heard j)
  within_before a said b heard Done few all = (few, all)
  within_before a said b heard (Do h x j) few all = (few, all)
  within_before a said b heard (Msg c says d hears j) few all = chosen (can_share most a said b c says d) refl
    where
      chosen : (e : Bool) → can_share most a said b c says d ≡ e → PacketsAreWithin most (if e then Msg a (said ++ says) b (heard ++ hears) j else Msg a said b heard (Msg c says d hears j))
      chosen true is = (both_within said says (both (nat_eq a c && nat_eq b d) (nat_le (length said + length says) most) is).1, all.1)
      chosen false is = (few, all)
  within_before a said b heard (If ps first other rest) few all = (few, all)
  within_before a said b heard (For ps count body rest) few all = (few, all)

  pub still_within : (j : Joint) → PacketsAreWithin most j → PacketsAreWithin most (joined most j)
  still_within Done all = tt
  still_within (Do h x j) all = still_within j all
  still_within (Msg a said b heard j) all = within_before a said b heard (joined most j) all.0 (still_within j all.1)
  still_within (If ps first other rest) all = (still_within first all.0, (still_within other all.1.0, still_within rest all.1.1))
  still_within (For ps count body rest) all = (still_within body all.0, still_within rest all.1)

  pub within_without : (j : Joint) → PacketsAreWithin most j → PacketsAreWithin most (without_empty j)
  within_without Done all = tt
  within_without (Do h x j) all = within_without j all
  within_without (Msg a said b heard j) all = (all.0, within_without j all.1)
  within_without (If [] first other rest) all = within_without rest all.1.1
  within_without (If (p ∷ ps) first other rest) all = (within_without first all.0, (within_without other all.1.0, within_without rest all.1.1))
  within_without (For [] count body rest) all = within_without rest all.1
  within_without (For (p ∷ ps) count body rest) all = (within_without body all.0, within_without rest all.1)

  -- ---- none is left that could share

  -- a longer packet shares with no more
  longer : (said : List Reg) (c : ℕ) (says : List Reg) (d : ℕ) (j : Joint) → CannotShare most c says d j → CannotShare most c (said ++ says) d j
  longer said c says d Done cannot = tt
  longer said c says d (Do h x j) cannot = tt
  longer said c says d (Msg e tells f fills j) cannot =
      still_not (nat_eq c e && nat_eq d f) (nat_le (length says + length tells) most) (nat_le (length (said ++ says) + length tells) most) cannot
      (λ is. le-leb (length says + length tells) most
      (less_room (length said) (length says) (length (said ++ says)) (length tells) most (length-append said says) (leb-true (length (said ++ says) + length tells) most is)))
  longer said c says d (If ps first other rest) cannot = tt
  longer said c says d (For ps count body rest) cannot = tt

  longer_from : (a : ℕ) (said : List Reg) (b c : ℕ) (says : List Reg) (d : ℕ) (j : Joint) → can_share most a said b c says d ≡ true → CannotShare most c says d j
      → CannotShare most a (said ++ says) b j
  longer_from a said b c says d j e cannot =
      let w = both (nat_eq a c && nat_eq b d) (nat_le (length said + length says) most) e in
      let u = both (nat_eq a c) (nat_eq b d) w.0 in
      subst (λ k. CannotShare most k (said ++ says) b j) (sym (eqb-true a c u.0))
      (subst (λ k. CannotShare most c (said ++ says) k j) (sym (eqb-true b d u.1)) (longer said c says d j cannot))

  joined_before : (a : ℕ) (said : List Reg) (b : ℕ) (heard : List Reg) (j : Joint) → AllAreJoined most j → AllAreJoined most (message_before most a said b heard j)
  joined_before a said b heard Done all = (tt, all)
  joined_before a said b heard (Do h x j) all = (tt, all)
  joined_before a said b heard (Msg c says d hears j) all = chosen (can_share most a said b c says d) refl
    where
      chosen : (e : Bool) → can_share most a said b c says d ≡ e → AllAreJoined most (if e then Msg a (said ++ says) b (heard ++ hears) j else Msg a said b heard (Msg c says d hears j))
      chosen true is = (longer_from a said b c says d j is all.0, all.1)
      chosen false is = (is, all)
  joined_before a said b heard (If ps first other rest) all = (tt, all)
  joined_before a said b heard (For ps count body rest) all = (tt, all)

  pub all_joined : (j : Joint) → AllAreJoined most (joined most j)
  all_joined Done = tt
  all_joined (Do h x j) = all_joined j
  all_joined (Msg a said b heard j) = joined_before a said b heard (joined most j) (all_joined j)
  all_joined (If ps first other rest) = (all_joined first, (all_joined other, all_joined rest))
  all_joined (For ps count body rest) = (all_joined body, all_joined rest)
