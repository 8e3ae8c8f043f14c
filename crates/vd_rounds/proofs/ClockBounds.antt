-- Clocks along a run are within those that are read off the code.
use Rattle.std.proofs.Common.{◌≡◌, ◌≢◌, ◌⊎◌, inl, inr, ℕ, zero, suc, ◌≤◌, Bool, true, false, if◌then◌else◌, max, min, sym, subst, arith}
use Rattle.vd_execution.specs.Registers.{put}
use Rattle.vd_execution.specs.World.{Tape}
use Rattle.vd_execution.specs.Joint.{Joint, Done, Do, Msg, If, For, Hosts, fresh, joint, after_do, after_msg, is_other, turn_begun, turns}
use Rattle.vd_execution.proofs.Front.{put_other, put_same, same_or_not}
use Rattle.vd_rounds.specs.declared.tallies.Bound.{Bound}
use Rattle.vd_rounds.specs.declared.tallies.Bound.TheVariants.{Least, Most}
use Rattle.vd_rounds.specs.Tallies.{chosen}
use Rattle.vd_rounds.specs.Clocks.{Clocks, RoundsAreReadOff, at_zero, came, clocks_along, clocks_by, turned}

-- a clock of a run is on this side of one that was read off
abbrev Beside : Bound → ℕ → ℕ → Type 0
Beside Least x y = y ≤ x
Beside Most x y = x ≤ y

abbrev AllBeside : Bound → Clocks → Clocks → Type 0
AllBeside b c d = (h : ℕ) → Beside b (c h) (d h)

beside_later : (b : Bound) (x y u v : ℕ) → Beside b x y → Beside b u v → Beside b (max x (suc u)) (max y (suc v))
beside_later Least x y u v p q = omega (arith, p, q)
beside_later Most x y u v p q = omega (arith, p, q)

all_came : (b : Bound) (from to : ℕ) (c d : Clocks) → AllBeside b c d → AllBeside b (came from to c) (came from to d)
all_came b from to c d p h =
    let x = max (c to) (suc (c from)) in
    let y = max (d to) (suc (d from)) in
    elim (same_or_not h to) [
      | inl same ↦
          subst (λ k. Beside b (put c to x k) (put d to y k)) (sym same)
          (subst (λ n. Beside b n (put d to y to)) (sym (put_same c to x))
          (subst (λ n. Beside b x n) (sym (put_same d to y)) (beside_later b (c to) (d to) (c from) (d from) (p to) (p from))))
      | inr other ↦
          subst (λ n. Beside b n (put d to y h)) (sym (put_other c to x h other)) (subst (λ n. Beside b (c h) n) (sym (put_other d to y h other)) (p h))
    ]

beside_chosen : (b : Bound) (taken : Bool) (x u y v : ℕ) → Beside b x y → Beside b u v → Beside b (if taken then u else x) (chosen b y v)
beside_chosen Least true x u y v p q = omega (arith, p, q)
beside_chosen Least false x u y v p q = omega (arith, p, q)
beside_chosen Most true x u y v p q = omega (arith, p, q)
beside_chosen Most false x u y v p q = omega (arith, p, q)

at_host : (taken : Bool) (u x : Clocks) (h : ℕ) (b : Bound) (n : ℕ) → Beside b (if taken then u h else x h) n → Beside b ((if taken then u else x) h) n
at_host true u x h b n p = p
at_host false u x h b n p = p

all_turned : (b : Bound) (run : Hosts → Hosts) (clock : Hosts → Clocks → Clocks) (begin : ℕ → Hosts → Hosts) (by : Clocks → Clocks)
    → ((w : Hosts) (c d : Clocks) → AllBeside b c d → AllBeside b (clock w c) (by d)) → (n i : ℕ) (w : Hosts) (c d : Clocks) → AllBeside b c d
    → AllBeside b (turns (turned run clock begin) n i (w, c)).1 (turns (λ k e. by e) n i d)
all_turned b run clock begin by each zero i w c d p = p
all_turned b run clock begin by each (suc n) i w c d p =
    all_turned b run clock begin by each n (suc i) (run (begin i w)) (clock (begin i w) c) (by d) (each (begin i w) c d p)

along : (b : Bound) (t : Tape) (j : Joint) (w : Hosts) (c d : Clocks) → AllBeside b c d → AllBeside b (clocks_along t j w c) (clocks_by b j d)
along b t Done w c d p = p
along b t (Do h a rest) w c d p = along b t rest (after_do t h a w) c d p
along b t (Msg from said to heard rest) w c d p = along b t rest (after_msg from said to heard w) (came from to c) (came from to d) (all_came b from to c d p)
along b t (If ps first other rest) w c d p =
    along b t rest (if is_other ps w then joint t other w else joint t first w) (if is_other ps w then clocks_along t other w c else clocks_along t first w c)
    (λ h. chosen b (clocks_by b first d h) (clocks_by b other d h))
    (λ h. at_host (is_other ps w) (clocks_along t other w c) (clocks_along t first w c) h b (chosen b (clocks_by b first d h) (clocks_by b other d h))
    (beside_chosen b (is_other ps w) (clocks_along t first w c h) (clocks_along t other w c h) (clocks_by b first d h) (clocks_by b other d h)
    (along b t first w c d p h) (along b t other w c d p h)))
along b t (For ps count body rest) w c d p =
    let end = turns (turned (joint t body) (clocks_along t body) (turn_begun ps)) count 0 (w, c) in
    along b t rest end.0 end.1 (turns (λ i e. clocks_by b body e) count 0 d)
    (all_turned b (joint t body) (clocks_along t body) (turn_begun ps) (clocks_by b body) (λ v e f q. along b t body v e f q) count 0 w c d p)

none_beside : (b : Bound) → AllBeside b at_zero at_zero
none_beside Least h = omega arith
none_beside Most h = omega arith

pub rounds_are_read_off : RoundsAreReadOff
rounds_are_read_off t j h = record {
  least = along Least t j fresh at_zero at_zero (none_beside Least) h;
  most = along Most t j fresh at_zero at_zero (none_beside Most) h;
}
