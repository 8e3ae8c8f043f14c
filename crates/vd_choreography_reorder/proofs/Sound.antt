-- The test is sound.
use Rattle.std.proofs.Common.{◌≡◌, ◌≢◌, ℕ, nat_eq, List, Bool, true, false, ◌&&◌, ◌||◌, not, refl, subst}
use Rattle.std.proofs.lemmas.Bool.{eq-eqb, eqb-true}
use Rattle.vd_execution.specs.declared.instructions.Reg.{Reg}
use Rattle.vd_execution.specs.declared.instructions.Action.{Action}
use Rattle.vd_reorder.specs.ReorderLawsTesting.{is_simple, reads, writes, needs, meet, both_may}
use Rattle.vd_reorder.specs.Neighbours.{AreApart}
use Rattle.vd_reorder.specs.Turning.{Turn, Does, Tells, MayTurn}
use Rattle.vd_reorder.specs.ChoreographyCommutingNeighbours.{IsBeside, AreBeside}
use Rattle.vd_reorder.proofs.Front.{act_beside_message, acts_apart, message_beside_act, messages_apart, acts_at_one, apart, plain, past_registers, kept_words, DoNotNeed, do_not_need, reads_apart, shown_beside_act, shown_beside_message}
use Rattle.vd_choreography_reorder.specs.Testing.{is_beside, are_beside, may_turn}
use Rattle.vd_choreography_reorder.specs.Testing as testing

pub both : (a b : Bool) → (a && b) ≡ true → (a ≡ true) × (b ≡ true)
both true b e = (refl, e)
both false b e = absurd cc

pub is_not : (b : Bool) → not b ≡ true → b ≡ false
is_not true e = absurd cc
is_not false e = refl

-- where the first holds the second is false
pub then_not : (a b : Bool) → (not a || not b) ≡ true → a ≡ true → b ≡ false
then_not true b e t = is_not b e
then_not false b e t = absurd cc

then_both : (a b c : Bool) → (not a || (not b && not c)) ≡ true → a ≡ true → (b ≡ false) × (c ≡ false)
then_both true b c e t = let w = both (not b) (not c) e in (is_not b w.0, is_not c w.1)
then_both false b c e t = absurd cc

differ_by : (n m : ℕ) → not (nat_eq n m) ≡ true → n ≢ m
differ_by n m e same = let f = is_not (nat_eq n m) e in let t = eq-eqb n m same in absurd cc

beside : (h : ℕ) (a : Action) (from : ℕ) (said : List Reg) (to : ℕ) (heard : List Reg)
    → ((not (nat_eq h from) || not (meet said (writes a))) && (not (nat_eq h to) || (not (meet (reads a) heard) && not (meet (writes a) heard)))) ≡ true → IsBeside h a from said to heard
beside h a from said to heard e =
    let w = both (not (nat_eq h from) || not (meet said (writes a))) _ e in
    record {
      leaves = λ same. kept_words a said (apart said (writes a) (then_not (nat_eq h from) (meet said (writes a)) w.0 (eq-eqb h from same)));
      passes = λ same.
          let b = then_both (nat_eq h to) (meet (reads a) heard) (meet (writes a) heard) w.1 (eq-eqb h to same) in
          past_registers a heard (apart (reads a) heard b.0) (apart (writes a) heard b.1);
    }

-- at a receiver what is filled is not what the act reads
others_filled : (h : ℕ) (a : Action) (from : ℕ) (said : List Reg) (to : ℕ) (heard : List Reg)
    → ((not (nat_eq h from) || not (meet said (writes a))) && (not (nat_eq h to) || (not (meet (reads a) heard) && not (meet (writes a) heard)))) ≡ true
    → h ≡ to → AreApart (reads a) heard
others_filled h a from said to heard e same =
    let w = both (not (nat_eq h from) || not (meet said (writes a))) _ e in
    apart (reads a) heard (then_both (nat_eq h to) (meet (reads a) heard) (meet (writes a) heard) w.1 (eq-eqb h to same)).0

act_message_by : (h : ℕ) (a : Action) (from : ℕ) (said : List Reg) (to : ℕ) (heard : List Reg) (simple : Bool) → is_simple a ≡ simple → is_beside h a from said to heard ≡ true
    → MayTurn (Does h a) (Tells from said to heard)
act_message_by h a from said to heard true is e =
    let w = both (not (nat_eq from to)) _ e in
    act_beside_message h a (needs a) from said to heard is (plain a is) (differ_by from to w.0) (beside h a from said to heard w.1)
act_message_by h a from said to heard false is e =
    let w = both (not (nat_eq from to)) _ e in
    (shown_beside_message h a from said to heard is (differ_by from to w.0) (others_filled h a from said to heard w.1)).0

act_message : (h : ℕ) (a : Action) (from : ℕ) (said : List Reg) (to : ℕ) (heard : List Reg) → is_beside h a from said to heard ≡ true → MayTurn (Does h a) (Tells from said to heard)
act_message h a from said to heard e = act_message_by h a from said to heard (is_simple a) refl e

message_act_by : (h : ℕ) (a : Action) (from : ℕ) (said : List Reg) (to : ℕ) (heard : List Reg) (simple : Bool) → is_simple a ≡ simple → is_beside h a from said to heard ≡ true
    → MayTurn (Tells from said to heard) (Does h a)
message_act_by h a from said to heard true is e =
    let w = both (not (nat_eq from to)) _ e in
    message_beside_act h a (needs a) from said to heard is (plain a is) (differ_by from to w.0) (beside h a from said to heard w.1)
message_act_by h a from said to heard false is e =
    let w = both (not (nat_eq from to)) _ e in
    (shown_beside_message h a from said to heard is (differ_by from to w.0) (others_filled h a from said to heard w.1)).1

message_act : (h : ℕ) (a : Action) (from : ℕ) (said : List Reg) (to : ℕ) (heard : List Reg) → is_beside h a from said to heard ≡ true → MayTurn (Tells from said to heard) (Does h a)
message_act h a from said to heard e = message_act_by h a from said to heard (is_simple a) refl e

two_messages : (a : ℕ) (said : List Reg) (b : ℕ) (heard : List Reg) (c : ℕ) (says : List Reg) (d : ℕ) (hears : List Reg) → are_beside a said b heard c says d hears ≡ true
    → MayTurn (Tells a said b heard) (Tells c says d hears)
two_messages a said b heard c says d hears e =
    let w = both (not (nat_eq a b) && not (nat_eq c d)) _ e in
    let s = both (not (nat_eq a b)) (not (nat_eq c d)) w.0 in
    let u = both (not (nat_eq b c) || not (meet says heard)) _ w.1 in
    let v = both (not (nat_eq d a) || not (meet said hears)) _ u.1 in
    messages_apart a said b heard c says d hears (differ_by a b s.0) (differ_by c d s.1) (record {
      first = λ same. apart says heard (then_not (nat_eq b c) (meet says heard) u.0 (eq-eqb b c same));
      second = λ same. apart said hears (then_not (nat_eq d a) (meet said hears) v.0 (eq-eqb d a same));
      filled = λ same. apart heard hears (then_not (nat_eq b d) (meet heard hears) v.1 (eq-eqb b d same));
    })

-- two acts of one host
at_one : (h : ℕ) (a b : Action) (first second : Bool) → is_simple a ≡ first → is_simple b ≡ second → (first || second) ≡ true → both_may a b ≡ true → MayTurn (Does h a) (Does h b)
at_one h a b true true s z some e =
    let d = do_not_need a b e in acts_at_one h a b (needs a) (needs b) s z (plain a s) (plain b z) d.lists d.commute
at_one h a b false true s z some e =
    (shown_beside_act h a b (needs b) s z (plain b z) (λ f xs. kept_words b (reads a) (reads_apart a b e).1 f xs)).0
at_one h a b true false s z some e =
    (shown_beside_act h b a (needs a) z s (plain a s) (λ f xs. kept_words a (reads b) (reads_apart a b e).0 f xs)).1
at_one h a b false false s z some e = absurd cc

two_acts : (g h : ℕ) (a b : Action) (same : Bool) → nat_eq g h ≡ same → (not same || testing.acts_apart a b) ≡ true → MayTurn (Does g a) (Does h b)
two_acts g h a b true is e =
    let w = both (is_simple a || is_simple b) (both_may a b) e in
    subst (λ (k : ℕ). MayTurn (Does g a) (Does k b)) (eqb-true g h is) (at_one g a b (is_simple a) (is_simple b) refl refl w.0 w.1)
two_acts g h a b false is e = acts_apart g h a b (λ same. let t = eq-eqb g h same in absurd cc)

pub sound : (x y : Turn) → may_turn x y ≡ true → MayTurn x y
sound (Does g a) (Does h b) e = two_acts g h a b (nat_eq g h) refl e
sound (Does h a) (Tells from said to heard) e = act_message h a from said to heard e
sound (Tells from said to heard) (Does h a) e = message_act h a from said to heard e
sound (Tells a said b heard) (Tells c says d hears) e = two_messages a said b heard c says d hears e
