-- Which neighbours in joint code may be exchanged, by the registers that they read and write and the lists that they take from, and which
-- stay in their order.
use Rattle.std.specs.Prelude.{◌≡◌, ℕ, nat_eq, Bool, true, false, ◌&&◌, ◌||◌, not, if◌then◌else◌, List, slice_index_or, []}
use Rattle.vd_execution.specs.declared.instructions.Reg.{Reg}
use Rattle.vd_execution.specs.declared.instructions.Action.{Action}
use Rattle.vd_reorder.specs.ReorderLawsTesting.{is_simple, reads, writes, meet, both_may}
use Rattle.vd_reorder.specs.Turning.{Turn, Does, Tells, MayTurn}

-- two acts of one host that do not need each other, of which at most one prints or compares
abbrev pub acts_apart : Action → Action → Bool
acts_apart a b = (is_simple a || is_simple b) && both_may a b

-- An act of a host, and a message: where the host sends it, the act leaves the words that are told, and where the host receives it, the act
-- neither reads nor writes the registers that are filled.
abbrev pub is_beside : ℕ → Action → ℕ → List Reg → ℕ → List Reg → Bool
is_beside h a from said to heard =
    not (nat_eq from to)
    && ((not (nat_eq h from) || not (meet said (writes a))) && (not (nat_eq h to) || (not (meet (reads a) heard) && not (meet (writes a) heard))))

-- two messages: none fills a register that the other sends, and at one receiver they fill different ones
abbrev pub are_beside : ℕ → List Reg → ℕ → List Reg → ℕ → List Reg → ℕ → List Reg → Bool
are_beside a said b heard c says d hears =
    (not (nat_eq a b) && not (nat_eq c d))
    && ((not (nat_eq b c) || not (meet says heard)) && ((not (nat_eq d a) || not (meet said hears)) && (not (nat_eq b d) || not (meet heard hears))))

-- the second of two neighbours may stand before the first
abbrev pub may_turn : Turn → Turn → Bool
may_turn (Does g a) (Does h b) = not (nat_eq g h) || acts_apart a b
may_turn (Does h a) (Tells from said to heard) = is_beside h a from said to heard
may_turn (Tells from said to heard) (Does h a) = is_beside h a from said to heard
may_turn (Tells a said b heard) (Tells c says d hears) = are_beside a said b heard c says d hears

-- the test says yes only where neighbours may be exchanged
abbrev pub TestIsSound : Type 0
TestIsSound = (x y : Turn) → may_turn x y ≡ true → MayTurn x y

-- ---- what stays in its order

-- for each host the registers that its packets open
abbrev pub Opened : Type 0
Opened = ℕ → List Reg

abbrev pub opened_at : List (List Reg) → Opened
opened_at lists h = slice_index_or lists h []

-- the host that acts or sends
abbrev pub teller : Turn → ℕ
teller (Does h a) = h
teller (Tells a said b heard) = a

-- a host compares or prints, or sends a packet with a register that it opens
abbrev pub tells_at : Opened → ℕ → Turn → Bool
tells_at opened h (Does g a) = nat_eq h g && not (is_simple a)
tells_at opened h (Tells a said b heard) = nat_eq h a && meet said (opened h)

abbrev pub awaits_at : ℕ → Turn → Bool
awaits_at h (Does g a) = false
awaits_at h (Tells a said b heard) = nat_eq h b

-- The second stays behind the first: a host tells it, and has told or awaited the first.
abbrev pub stays_behind : Opened → Turn → Turn → Bool
stays_behind opened x y = tells_at opened (teller y) y && (tells_at opened (teller y) x || awaits_at (teller y) x)

-- the test of the pass
abbrev pub may_pass : Opened → Turn → Turn → Bool
may_pass opened x y = may_turn x y && not (stays_behind opened x y)
