-- Worked numbers: alice is host 0 and bob host 1, and each of their items is the same.
use Rattle.std.specs.Prelude.{◌≡◌, ℕ, nat_eq, if◌then◌else◌, List, [], ◌∷◌, ◌++◌}
use Rattle.vd_base.specs.declared.ids.HostId.{HostId}
use Rattle.vd_base.specs.declared.operations.Op.TheVariants as op
use Rattle.vd_execution.specs.declared.instructions.Action.TheVariants as action
use Rattle.vd_execution.specs.Step.{Inputs, OwnWords, Triples, BitTriples, Pairs}
use Rattle.vd_execution.specs.World.{Tape}
use Rattle.vd_execution.specs.Joint.{Hosts, fresh}
use Rattle.vd_execution.specs.Acts.{run_acts}
use Rattle.vd_execution.specs.Gadgets.{Gadget, Alone, acts_of_gadgets}
use Rattle.vd_execution.specs.Text.{register}
use Rattle.vd_duet.specs.Calls.{Places, Made}
use Rattle.vd_duet.specs.Laws.{words_at}
use Rattle.vd_words.specs.AddCalls.{add_calls}

abbrev pub alice : HostId
alice = record { 0 = 0 }

abbrev pub bob : HostId
bob = record { 0 = 1 }

-- the own words are these; alice's part of a triple is 1, 4, 5 and bob's is 2, 0, 7
abbrev pub dealt : ℕ → ℕ → Tape
dealt own other_own h Inputs i = 0 ∷ []
dealt own other_own h OwnWords i = (if nat_eq h 0 then own else other_own) ∷ []
dealt own other_own h (Triples p) i = if nat_eq h 0 then 1 ∷ 4 ∷ 5 ∷ [] else 2 ∷ 0 ∷ 7 ∷ []
dealt own other_own h (BitTriples p) i = 0 ∷ 0 ∷ 0 ∷ []
dealt own other_own h (Pairs p) i = 0 ∷ 0 ∷ []

-- the hosts after gadgets
abbrev pub after : Tape → List Gadget → Hosts
after t gadgets = run_acts t (acts_of_gadgets gadgets) fresh

-- alice shares 5
abbrev pub five : Made Places
five = (add_calls alice bob).share alice (register 0) (1 ∷ 0 ∷ [])

abbrev pub after_five : Hosts
after_five = after (dealt 4294967295 0) (Alone alice (action.Const (register 0) 5) ∷ five.gadgets)

-- alice shares 7 and bob 6, and the two are multiplied
abbrev pub seven : Made Places
seven = (add_calls alice bob).share alice (register 0) (1 ∷ 1 ∷ [])

abbrev pub six : Made Places
six = (add_calls alice bob).share bob (register 0) seven.next

abbrev pub multiplied : Made Places
multiplied = (add_calls alice bob).apply op.Mul (seven.given ∷ six.given ∷ []) six.next

abbrev pub after_product : Hosts
after_product =
    after (dealt 4294967293 1)
    (Alone alice (action.Const (register 0) 7) ∷ Alone bob (action.Const (register 0) 6) ∷ (seven.gadgets ++ (six.gadgets ++ multiplied.gadgets)))

-- alice sends her own word, and keeps 6
pub record FiveIsShared : Type 0 where
  pub sent : (after_five 0).sent 1 ≡ (4294967295 ∷ []) ∷ []
  pub parts : words_at after_five five.given ≡ 6 ∷ 4294967295 ∷ []

-- the opened words are 4 and 2, at both hosts, and the parts 31 and 11
pub record SevenTimesSix : Type 0 where
  pub sent : (after_product 0).sent 1 ≡ (4294967293 ∷ []) ∷ (9 ∷ 4294967293 ∷ []) ∷ []
  pub heard : (after_product 1).sent 0 ≡ (1 ∷ []) ∷ (4294967291 ∷ 5 ∷ []) ∷ []
  pub opened : words_at after_product ((alice, register 11) ∷ (alice, register 12) ∷ []) ≡ 4 ∷ 2 ∷ []
  pub opened_at_bob : words_at after_product ((bob, register 11) ∷ (bob, register 12) ∷ []) ≡ 4 ∷ 2 ∷ []
  pub parts : words_at after_product multiplied.given ≡ 31 ∷ 11 ∷ []
