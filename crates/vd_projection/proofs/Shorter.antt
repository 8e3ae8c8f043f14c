-- The code of each host in an order that waits less is no more than in program order.
use Rattle.std.proofs.Common.{◌≡◌, ℕ, zero, suc, ◌+◌, ◌-◌, ◌*◌, ◌≤◌, nat_eq, nat_le, Bool, true, false, ◌&&◌, if◌then◌else◌, List, [], ◌∷◌, ◌++◌, length, Option, Some, None, refl, sym, ap, ◌∙◌, subst, arith}
use Rattle.std.proofs.lemmas.Bool.{eqb-true}
use Rattle.std.proofs.lemmas.List.{length-append}
use Rattle.vd_base.specs.Limits.{most_packet_words}
use Rattle.vd_execution.specs.declared.instructions.Reg.{Reg}
use Rattle.vd_execution.specs.Code.{Code, Finished, Then, Send, Recv, Choose, Repeat, weight}
use Rattle.vd_execution.specs.Joint.{Joint, Done, Do, Msg, If, For, if_part, code_of, IsTidy}
use Rattle.vd_reorder.specs.Hastening.{Piece, Acts, Sends, Awaits}
use Rattle.vd_projection.proofs.Numbers.{at_most}
use Rattle.vd_reorder.specs.Turning.{Turn, Does, Tells, then_goes, Spot, Here, Behind, InFirst, InOther, InBody, BehindBranch, BehindLoop, with_joint}
use Rattle.vd_choreography_reorder.specs.Testing.{Opened}
use Rattle.vd_choreography_reorder.specs.Order.{IsCarefullyTurned, CarefulTurns, without_empty}
use Rattle.vd_choreography_reorder.proofs.Front.{forward_by, still_tidy}
use Rattle.vd_choreography_reorder.specs.Joining.{can_share, message_before, joined}
use Rattle.vd_choreography_reorder.proofs.Front.{joined_tidy}
use Rattle.vd_projection.specs.Early.{opened_of, IsEarly, IsOfHosts}
use Rattle.vd_projection.proofs.ProjectionReorderedFilesCodes.{IsNoMore, itself, same_code, onwards, maybe, maybe_then, maybe_swap, choose_then, repeat_then, part_then, sends_share, receives_share}

both_are : (a b : Bool) → (a && b) ≡ true → (a ≡ true) × (b ≡ true)
both_are true b e = (refl, e)
both_are false b e = absurd cc

module _ (hosts h : ℕ) where
  abbrev pub Shorter : Joint → Joint → Type 0
  Shorter j k = IsNoMore hosts h (code_of h j) (code_of h k)

  unchanged : (j : Joint) → Shorter j j
  unchanged j = itself hosts h (code_of h j)

  further : (i j k : Joint) → Shorter i j → Shorter j k → Shorter i k
  further i j k x y = onwards hosts h (code_of h i) (code_of h j) (code_of h k) x y

  -- ---- what the host does of a turn

  abbrev piece : Turn → Option Piece
  piece (Does a x) = if nat_eq h a then Some (Acts x) else None
  piece (Tells a said b heard) = if nat_eq h a then Some (Sends b said) else (if nat_eq h b then Some (Awaits a heard) else None)

  code_then : (x : Turn) (j : Joint) → code_of h (then_goes x j) ≡ maybe hosts h (piece x) (code_of h j)
  code_then (Does a x) j = at (nat_eq h a)
    where
      at : (p : Bool) → (if p then Then x (code_of h j) else code_of h j) ≡ maybe hosts h (if p then Some (Acts x) else None) (code_of h j)
      at true = refl
      at false = refl
  code_then (Tells a said b heard) j = at (nat_eq h a) (nat_eq h b)
    where
      at : (p q : Bool) → (if p then Send b said (code_of h j) else (if q then Recv a heard (code_of h j) else code_of h j))
          ≡ maybe hosts h (if p then Some (Sends b said) else (if q then Some (Awaits a heard) else None)) (code_of h j)
      at true q = refl
      at false true = refl
      at false false = refl

  back : (c d e f : Code) → c ≡ e → d ≡ f → IsNoMore hosts h e f → IsNoMore hosts h c d
  back c d e f p q x = subst (λ k. IsNoMore hosts h k d) (sym p) (subst (IsNoMore hosts h e) (sym q) x)

  turn_then : (x : Turn) (j k : Joint) → Shorter j k → Shorter (then_goes x j) (then_goes x k)
  turn_then x j k s = back _ _ _ _ (code_then x j) (code_then x k) (maybe_then hosts h (piece x) (code_of h j) (code_of h k) s)

  two_then : (x y : Turn) (j : Joint) → code_of h (then_goes x (then_goes y j)) ≡ maybe hosts h (piece x) (maybe hosts h (piece y) (code_of h j))
  two_then x y j = code_then x (then_goes y j) ∙ ap (maybe hosts h (piece x)) (code_then y j)

  turns_swap : (x y : Turn) (j : Joint) → Shorter (then_goes x (then_goes y j)) (then_goes y (then_goes x j))
  turns_swap x y j = back _ _ _ _ (two_then x y j) (two_then y x j) (maybe_swap hosts h (piece x) (piece y) (code_of h j))

  -- ---- exchanges

  branch_then : (ps : List (ℕ × ℕ)) (i j k l m n : Joint) → Shorter i l → Shorter j m → Shorter k n → Shorter (If ps i j k) (If ps l m n)
  branch_then ps i j k l m n x y z =
      part_then hosts h ps (λ g. Choose g (code_of h i) (code_of h j) (code_of h k)) (λ g. Choose g (code_of h l) (code_of h m) (code_of h n)) (code_of h k) (code_of h n)
      (λ g. choose_then hosts h g (code_of h i) (code_of h j) (code_of h k) (code_of h l) (code_of h m) (code_of h n) x y z) z

  loop_then : (ps : List (ℕ × ℕ)) (count : ℕ) (i k l n : Joint) → Shorter i l → Shorter k n → Shorter (For ps count i k) (For ps count l n)
  loop_then ps count i k l n x z =
      part_then hosts h ps (λ r. Repeat r 0 count (code_of h i) (code_of h k)) (λ r. Repeat r 0 count (code_of h l) (code_of h n)) (code_of h k) (code_of h n)
      (λ r. repeat_then hosts h r 0 count (code_of h i) (code_of h k) (code_of h l) (code_of h n) x z) z

  at_spot : (p : Spot) (j k : Joint) → Shorter j k → Shorter (with_joint p j) (with_joint p k)
  at_spot Here j k s = s
  at_spot (Behind x p) j k s = turn_then x (with_joint p j) (with_joint p k) (at_spot p j k s)
  at_spot (InFirst ps p other rest) j k s = branch_then ps (with_joint p j) other rest (with_joint p k) other rest (at_spot p j k s) (unchanged other) (unchanged rest)
  at_spot (InOther ps first p rest) j k s = branch_then ps first (with_joint p j) rest first (with_joint p k) rest (unchanged first) (at_spot p j k s) (unchanged rest)
  at_spot (InBody ps count p rest) j k s = loop_then ps count (with_joint p j) rest (with_joint p k) rest (at_spot p j k s) (unchanged rest)
  at_spot (BehindBranch ps first other p) j k s = branch_then ps first other (with_joint p j) first other (with_joint p k) (unchanged first) (unchanged other) (at_spot p j k s)
  at_spot (BehindLoop ps count body p) j k s = loop_then ps count body (with_joint p j) body (with_joint p k) (unchanged body) (at_spot p j k s)

  module _ (opened : Opened) where
    one_exchange : (j k : Joint) → IsCarefullyTurned opened j k → Shorter j k
    one_exchange j k x =
        let t = x.turned in
        back _ _ _ _ (ap (code_of h) t.old) (ap (code_of h) t.new)
        (at_spot t.spot (then_goes t.first (then_goes t.second t.rest)) (then_goes t.second (then_goes t.first t.rest)) (turns_swap t.first t.second t.rest))

    all_exchanges : (n : ℕ) (j k : Joint) → CarefulTurns opened n j k → Shorter j k
    all_exchanges zero j k x = same_code hosts h (code_of h j) (code_of h k) (ap (code_of h) x)
    all_exchanges (suc n) j k x = further j x.0 k (one_exchange j x.0 x.1) (all_exchanges n x.0 k x.2)

  -- ---- blocks in which nobody takes part

  empty_left_out : (j : Joint) → Shorter j (without_empty j)
  empty_left_out Done = unchanged Done
  empty_left_out (Do a x rest) = turn_then (Does a x) rest (without_empty rest) (empty_left_out rest)
  empty_left_out (Msg a said b heard rest) = turn_then (Tells a said b heard) rest (without_empty rest) (empty_left_out rest)
  empty_left_out (If [] first other rest) = empty_left_out rest
  empty_left_out (If (p ∷ ps) first other rest) =
      branch_then (p ∷ ps) first other rest (without_empty first) (without_empty other) (without_empty rest) (empty_left_out first) (empty_left_out other) (empty_left_out rest)
  empty_left_out (For [] count body rest) = empty_left_out rest
  empty_left_out (For (p ∷ ps) count body rest) = loop_then (p ∷ ps) count body rest (without_empty body) (without_empty rest) (empty_left_out body) (empty_left_out rest)

  -- ---- packets that share

  one_packet : (a : ℕ) (said : List Reg) (b : ℕ) (heard says hears : List Reg) (j : Joint) → length (said ++ says) ≤ 16 → length (heard ++ hears) ≤ 16
      → Shorter (Msg a said b heard (Msg a says b hears j)) (Msg a (said ++ says) b (heard ++ hears) j)
  one_packet a said b heard says hears j few less = at (nat_eq h a) (nat_eq h b)
    where
      at : (p q : Bool)
          → IsNoMore hosts h
          (if p then Send b said (if p then Send b says (code_of h j) else (if q then Recv a hears (code_of h j) else code_of h j))
          else (if q then Recv a heard (if p then Send b says (code_of h j) else (if q then Recv a hears (code_of h j) else code_of h j))
          else (if p then Send b says (code_of h j) else (if q then Recv a hears (code_of h j) else code_of h j))))
          (if p then Send b (said ++ says) (code_of h j) else (if q then Recv a (heard ++ hears) (code_of h j) else code_of h j))
      at true q = sends_share hosts h b said says (code_of h j) few
      at false true = receives_share hosts h a heard hears (code_of h j) less
      at false false = itself hosts h (code_of h j)

  shared_by : (a : ℕ) (said : List Reg) (b : ℕ) (heard : List Reg) (c : ℕ) (says : List Reg) (d : ℕ) (hears : List Reg) (j : Joint) → length said ≡ length heard
      → length says ≡ length hears → (e : Bool) → can_share 16 a said b c says d ≡ e
      → Shorter (Msg a said b heard (Msg c says d hears j)) (if e then Msg a (said ++ says) b (heard ++ hears) j else Msg a said b heard (Msg c says d hears j))
  shared_by a said b heard c says d hears j one two true is =
      let w = both_are (nat_eq a c && nat_eq b d) (nat_le (length said + length says) 16) is in
      let v = both_are (nat_eq a c) (nat_eq b d) w.0 in
      let from = eqb-true a c v.0 in
      let to = eqb-true b d v.1 in
      let few = at_most (length said + length says) 16 w.1 in
      let all = length-append said says in
      let there = length-append heard hears in
      let first : length (said ++ says) ≤ 16 = omega (arith, few, all) in
      let second : length (heard ++ hears) ≤ 16 = omega (arith, few, there, one, two) in
      subst (λ (k : ℕ). Shorter (Msg a said b heard (Msg k says d hears j)) (Msg a (said ++ says) b (heard ++ hears) j)) from
      (subst (λ (k : ℕ). Shorter (Msg a said b heard (Msg a says k hears j)) (Msg a (said ++ says) b (heard ++ hears) j)) to (one_packet a said b heard says hears j first second))
  shared_by a said b heard c says d hears j one two false is = unchanged (Msg a said b heard (Msg c says d hears j))

  message_shares : (a : ℕ) (said : List Reg) (b : ℕ) (heard : List Reg) (j : Joint) → length said ≡ length heard → IsTidy j
      → Shorter (Msg a said b heard j) (message_before 16 a said b heard j)
  message_shares a said b heard Done size tidy = unchanged (Msg a said b heard Done)
  message_shares a said b heard (Do k x j) size tidy = unchanged (Msg a said b heard (Do k x j))
  message_shares a said b heard (Msg c says d hears j) size tidy = shared_by a said b heard c says d hears j size tidy.1.0 (can_share 16 a said b c says d) refl
  message_shares a said b heard (If ps first other rest) size tidy = unchanged (Msg a said b heard (If ps first other rest))
  message_shares a said b heard (For ps count body rest) size tidy = unchanged (Msg a said b heard (For ps count body rest))

  packets_share : (j : Joint) → IsTidy j → Shorter j (joined 16 j)
  packets_share Done tidy = unchanged Done
  packets_share (Do a x j) tidy = turn_then (Does a x) j (joined 16 j) (packets_share j tidy)
  packets_share (Msg a said b heard j) tidy =
      further (Msg a said b heard j) (Msg a said b heard (joined 16 j)) (message_before 16 a said b heard (joined 16 j))
      (turn_then (Tells a said b heard) j (joined 16 j) (packets_share j tidy.1.1)) (message_shares a said b heard (joined 16 j) tidy.1.0 (joined_tidy 16 j tidy.1.1))
  packets_share (If ps first other rest) tidy =
      branch_then ps first other rest (joined 16 first) (joined 16 other) (joined 16 rest) (packets_share first tidy.1.0) (packets_share other tidy.1.1.0) (packets_share rest tidy.1.1.1)
  packets_share (For ps count body rest) tidy = loop_then ps count body rest (joined 16 body) (joined 16 rest) (packets_share body tidy.1.0) (packets_share rest tidy.1.1)

  -- ---- the whole order

  pub early_is_no_more : (j k : Joint) → IsTidy j → IsEarly j k → Shorter j k
  early_is_no_more j k tidy x =
      let i = x.between in
      let still = (forward_by (opened_of j) j i tidy x.exchanged).tidy in
      further j (without_empty j) k (empty_left_out j)
      (further (without_empty j) i k (all_exchanges (opened_of j) x.exchanged.0 (without_empty j) i x.exchanged.1)
      (further i (without_empty i) k (empty_left_out i)
      (subst (Shorter (without_empty i)) (sym x.shared) (packets_share (without_empty i) (still_tidy i still)))))

-- ---- who has no code in program order has none

nothing_left : (c : Code) → weight c ≤ 0 → c ≡ Finished
nothing_left Finished le = refl
nothing_left (Then a c) le = absurd (omega (arith, le))
nothing_left (Send p rs c) le = absurd (omega (arith, le))
nothing_left (Recv p rs c) le = absurd (omega (arith, le))
nothing_left (Choose g first other c) le = absurd (omega (arith, le))
nothing_left (Repeat r t n body c) le = absurd (some ((n - t) * suc (weight body)) (weight c) le)
  where
    some : (a b : ℕ) → a + suc b ≤ 0 → ⊥
    some a b le = omega (arith, le)

pub early_of_hosts : (n : ℕ) (j k : Joint) → IsTidy j → IsEarly j k → IsOfHosts n j → IsOfHosts n k
early_of_hosts n j k tidy early few h le =
    let steps = (early_is_no_more n h j k tidy early).steps in
    nothing_left (code_of h k) (subst (λ (c : Code). weight (code_of h k) ≤ weight c) (few h le) steps)
