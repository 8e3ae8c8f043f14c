-- Whether a host takes part in statements: by what they tell it, or by a slot that they name.
use Rattle.std.specs.Prelude.{ℕ, Bool, ◌&&◌, List, map}
use Rattle.std.specs.List.{list_any}
use Rattle.vd_base.specs.declared.ids.SlotId.{SlotId}
use Rattle.vd_base.specs.HostSets.{same_host}
use Rattle.vd_base.specs.Holders.{is_holder}
use Rattle.vd_space.specs.Reading.{all_named, all_told}
use Rattle.vd_semantics.specs.ProgramMeaning.{SlotState, word_at}
use Rattle.vd_noninter_protocols.specs.Hearing.{Heard, read_of, word_if, comes_alone, is_part, stands}
use Rattle.vd_noninter_protocols.specs.Runs.{Hearer}

-- the slot is kept at the host
abbrev pub slot_held : Hearer → SlotId → Bool
slot_held x = stands x.protocols x.host (λ p. is_holder p x.host)

-- the host is told something in one of the statements
abbrev pub told_there : Hearer → List Heard → Bool
told_there x statements = list_any (same_host x.host) (all_told (map read_of statements))

-- one of the slots that the statements name is kept at the host
abbrev pub held_there : Hearer → List Heard → Bool
held_there x statements = list_any (slot_held x) (all_named (map read_of statements))

-- what comes to the host of the guard of two branches
abbrev pub guard_heard : Hearer → SlotId → List Heard → List Heard → SlotState → List ℕ
guard_heard x g then_block else_block s =
    word_if (is_part x.protocols x.host g then_block else_block && comes_alone x.protocols x.host g) (word_at s g)
