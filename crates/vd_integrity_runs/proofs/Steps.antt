-- Runs in parts, and single acts.
use Rattle.std.proofs.Common.{◌≡◌, ◌≢◌, ℕ, ◌<◌, ◌≤◌, nat_eq, Bool, true, false, List, [], ◌∷◌, ◌++◌, slice_index, refl, sym, ap, subst, ◌∙◌, arith, rules}
use native.Mathlib.Decide.{ℕ_discrete}
use Rattle.vd_execution.specs.declared.instructions.Act.{Act}
use Rattle.vd_execution.specs.declared.instructions.Act.TheVariants as act
use Rattle.vd_execution.specs.declared.instructions.Reg.{Reg}
use Rattle.vd_execution.specs.Acts.{run_acts}
use Rattle.vd_execution.specs.Gadgets.{Gadget, acts_of_gadgets}
use Rattle.vd_execution.specs.Joint.{Host, Hosts, after_do, has_heard, said_to}
use Rattle.vd_execution.specs.Registers.{put}
use Rattle.vd_execution.specs.World.{Tape}
use Rattle.vd_execution.proofs.Front.{put_other, put_same}
use Rattle.vd_duet.proofs.Front.{gadgets_append, wrote, writes_own}
use Rattle.vd_integrity_runs.specs.Departing.{AreStill, KeepersRunTogether, Runs, RunsGadgets, SendersKeep, after_telling}

pub equal_of : (a b : ℕ) → nat_eq a b ≡ true → a ≡ b
equal_of a b e = grind (arith, rules)

pub differ_of : (a b : ℕ) → nat_eq a b ≡ false → a ≢ b
differ_of a b e f = grind (arith, rules)

module _ (keeps : ℕ → Bool) (t : Tape) where
  -- acts behind others
  runs_parts : (xs ys : List Act) (w w' : Hosts) → Runs keeps t (xs ++ ys) w w' → (m : Hosts) × (Runs keeps t xs w m × Runs keeps t ys m w')
  runs_parts [] ys w w' runs = (w, (refl, runs))
  runs_parts (act.Do h a ∷ xs) ys w w' runs =
      let more = runs_parts xs ys (after_do t h.0 a w) w' runs.1 in
      (more.0, ((runs.0, more.1.0), more.1.1))
  runs_parts (act.Msg a said b heard ∷ xs) ys w w' runs =
      let more = runs_parts xs ys (after_telling a.0 runs.0 b.0 heard w) w' runs.1.1 in
      (more.0, ((runs.0, (runs.1.0, more.1.0)), more.1.1))

  pub gadgets_parts : (xs ys : List Gadget) (w w' : Hosts) → RunsGadgets keeps t (xs ++ ys) w w' → (m : Hosts) × (RunsGadgets keeps t xs w m × RunsGadgets keeps t ys m w')
  gadgets_parts xs ys w w' runs = runs_parts (acts_of_gadgets xs) (acts_of_gadgets ys) w w' (subst (λ acts. Runs keeps t acts w w') (gadgets_append xs ys) runs)

  together : (acts : List Act) (w w' : Hosts) → SendersKeep keeps acts → Runs keeps t acts w w' → w' ≡ run_acts t acts w
  together [] w w' senders runs = runs
  together (act.Do h a ∷ acts) w w' senders runs = together acts (after_do t h.0 a w) w' senders runs.1
  together (act.Msg a said b heard ∷ acts) w w' senders runs =
      together acts (after_telling a.0 _ b.0 heard w) w' senders.1
      (subst (λ words. Runs keeps t acts (after_telling a.0 words b.0 heard w) w') (runs.1.0.own senders.0) runs.1.1)

pub keepers_run_together : KeepersRunTogether
keepers_run_together keeps t acts w w' senders runs = together keeps t acts w w' senders runs

-- ---- what stays

pub still_start : (next : List ℕ) (w w' : Hosts) → w' ≡ w → AreStill next w w'
still_start next w w' is h r low = ap (λ (u : Hosts). (u h).registers r) is

pub still_on : (next next' : List ℕ) (w u v : Hosts) → ((h : ℕ) → slice_index next h ≤ slice_index next' h) → AreStill next w u → AreStill next' u v → AreStill next w v
still_on next next' w u v longer first second h r low = second h r (let le = longer h in omega (arith, le, low)) ∙ first h r low

-- one register of one host is written
pub record Wrote (h r v : ℕ) (w w' : Hosts) : Type 0 where
  pub there : (w' h).registers r ≡ v
  pub elsewhere : (k q : ℕ) → (k ≡ h → q ≡ r → ⊥) → (w' k).registers q ≡ (w k).registers q

pub wrote_own : (h r v : ℕ) (w : Hosts) → Wrote h r v w (put w h (wrote r v (w h)))
wrote_own h r v w = let own = writes_own h r v w in record { there = own.there; elsewhere = own.elsewhere }

-- a register that is free is written
pub still_written : (next : List ℕ) (h r v : ℕ) (w w' : Hosts) → slice_index next h ≤ r → Wrote h r v w w' → AreStill next w w'
still_written next h r v w w' free writes k q low =
    writes.elsewhere k q (λ same at. let bound : q < slice_index next h = subst (λ z. q < slice_index next z) same low in omega (arith, free, at, bound))

-- a host hears one word
pub heard_word : (from word to : ℕ) (y : Reg) (w : Hosts) → from ≢ to → Wrote to y.0 word w (after_telling from (word ∷ []) to (y ∷ []) w)
heard_word from word to y w apart = record { there = ap (λ (s : Host). s.registers y.0) (put_same u to heard) ∙ put_same (w to).registers y.0 word; elsewhere = λ k q n. elsewhere k q n }
  where
    said : Host
    said = said_to to (word ∷ []) (w from)

    heard : Host
    heard = has_heard (y ∷ []) (word ∷ []) (w to)

    u : Hosts
    u = put w from (said_to to (word ∷ []) (w from))

    at_sender : (k q : ℕ) → (put w from said k).registers q ≡ (w k).registers q
    at_sender k q =
        elim (ℕ_discrete k from) [
          | yes i ↦ let P : ℕ → Type 0 = λ z. (put w from said z).registers q ≡ (w z).registers q in subst P (sym i) (ap (λ (s : Host). s.registers q) (put_same w from said))
          | no d ↦ ap (λ (s : Host). s.registers q) (put_other w from said k d)
        ]

    elsewhere : (k q : ℕ) → (k ≡ to → q ≡ y.0 → ⊥) → (put u to heard k).registers q ≡ (w k).registers q
    elsewhere k q n =
        elim (ℕ_discrete k to) [
          | yes i ↦ let P : ℕ → Type 0 = λ z. (put u to heard z).registers q ≡ (w z).registers q in
              subst P (sym i) (ap (λ (s : Host). s.registers q) (put_same u to heard) ∙ put_other (w to).registers y.0 word q (n i))
          | no d ↦ ap (λ (s : Host). s.registers q) (put_other u to heard k d) ∙ at_sender k q
        ]
