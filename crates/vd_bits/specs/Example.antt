-- Worked numbers: alice is host 0 and bob host 1, and each of their items is the same.
use Rattle.std.specs.Prelude.{◌≡◌, ℕ, nat_eq, if◌then◌else◌, List, [], ◌∷◌, ◌++◌}
use Rattle.vd_base.specs.declared.ids.HostId.{HostId}
use Rattle.vd_base.specs.declared.operations.Op.TheVariants as op
use Rattle.vd_execution.specs.declared.instructions.Action.TheVariants as action
use Rattle.vd_execution.specs.Step.{Inputs, OwnWords, Triples, BitTriples, Pairs}
use Rattle.vd_execution.specs.World.{Tape}
use Rattle.vd_execution.specs.Joint.{Hosts, fresh}
use Rattle.vd_execution.specs.Acts.{run_acts}
use Rattle.vd_execution.specs.Gadgets.{Gadget, Alone, acts_of_gadgets}
use Rattle.vd_execution.specs.Text.{register}
use Rattle.vd_duet.specs.Calls.{Places, Made}
use Rattle.vd_duet.specs.Laws.{words_at}
use Rattle.vd_bits.specs.BitCalls.{bit_calls}

abbrev pub alice : HostId
alice = record { 0 = 0 }

abbrev pub bob : HostId
bob = record { 0 = 1 }

-- alice's own words are 10 and bob's 3; alice's part of a bit triple is 9, 5, 12 and bob's is 6, 3, 10
abbrev pub dealt : Tape
dealt h Inputs i = 0 ∷ []
dealt h OwnWords i = (if nat_eq h 0 then 10 else 3) ∷ []
dealt h (Triples p) i = 0 ∷ 0 ∷ 0 ∷ []
dealt h (BitTriples p) i = if nat_eq h 0 then 9 ∷ 5 ∷ 12 ∷ [] else 6 ∷ 3 ∷ 10 ∷ []
dealt h (Pairs p) i = 0 ∷ 0 ∷ []

-- alice shares 12 and bob 10
abbrev pub twelve : Made Places
twelve = (bit_calls alice bob).share alice (register 0) (1 ∷ 1 ∷ [])

abbrev pub ten : Made Places
ten = (bit_calls alice bob).share bob (register 0) twelve.next

-- the hosts after both numbers were shared, and gadgets
abbrev pub after_both : List Gadget → Hosts
after_both gadgets =
    run_acts dealt
    (acts_of_gadgets (Alone alice (action.Const (register 0) 12) ∷ Alone bob (action.Const (register 0) 10) ∷ (twelve.gadgets ++ (ten.gadgets ++ gadgets)))) fresh

-- the bits that both have
abbrev pub bits_of_both : Made Places
bits_of_both = (bit_calls alice bob).apply op.And (twelve.given ∷ ten.given ∷ []) ten.next

-- the masked words that are told, the opened words 3 and 12 at both hosts, and the parts 5 and 13, whose exclusive or is 8
pub record EightIsInBoth : Type 0 where
  pub sent : (after_both bits_of_both.gadgets 0).sent 1 ≡ (10 ∷ []) ∷ (15 ∷ 6 ∷ []) ∷ []
  pub heard : (after_both bits_of_both.gadgets 1).sent 0 ≡ (3 ∷ []) ∷ (12 ∷ 10 ∷ []) ∷ []
  pub opened : words_at (after_both bits_of_both.gadgets) ((alice, register 11) ∷ (alice, register 12) ∷ []) ≡ 3 ∷ 12 ∷ []
  pub opened_at_bob : words_at (after_both bits_of_both.gadgets) ((bob, register 11) ∷ (bob, register 12) ∷ []) ≡ 3 ∷ 12 ∷ []
  pub parts : words_at (after_both bits_of_both.gadgets) bits_of_both.given ≡ 5 ∷ 13 ∷ []
