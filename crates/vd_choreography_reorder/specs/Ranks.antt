-- How lines of joint code rank, as in list scheduling: by depth, the longest chain of what comes one after the other. A line ranks no lower
-- than what stood before it and it may not pass. Depths count rounds. In a round acts come first, and then packets, which are heard in the
-- next round: so packets of a round stand side by side.
use Rattle.std.specs.Prelude.{ℕ, ◌+◌, ◌-◌, ◌*◌, ◌%◌, ◌^◌, max, min, Bool, true, false, not, if◌then◌else◌, List, [], ◌∷◌, map}
use Rattle.vd_execution.specs.declared.instructions.Reg.{Reg}
use Rattle.vd_execution.specs.declared.instructions.Action.{Action}
use Rattle.vd_execution.specs.declared.instructions.Line.{Line}
use Rattle.vd_execution.specs.declared.instructions.Line.TheVariants as line
use Rattle.vd_execution.specs.Registers.{put}
use Rattle.vd_execution.specs.Step.{Need, Nothing, Item, Packet, Unequal, Ended}
use Rattle.vd_reorder.specs.ReorderLawsTesting.{is_simple, meet, needs, reads, writes}
use Rattle.vd_reorder.specs.Turning.{Turn, Does, Tells}
use Rattle.vd_choreography_reorder.specs.declared.ranks.Ranked.{Ranked}
use Rattle.vd_choreography_reorder.specs.Testing.{Opened}
use Rattle.vd_choreography_reorder.specs.Passing.{turn_of}

-- ---- places

-- the rank at each place: a line ranks no lower than the places behind which it stands, and leaves its rank at others
abbrev pub Table : Type 0
Table = ℕ → ℕ

abbrev pub nothing_left : Table
nothing_left p = 0

-- All lines stand behind the floor, and marks of blocks behind the top.
abbrev pub floor_place : ℕ
floor_place = 8

abbrev pub top_place : ℕ
top_place = 9

-- of a host, of which there are at most four: what it prints, compares and opens, and the items that it takes
abbrev pub telling_place : ℕ → ℕ
telling_place h = h % 4

abbrev pub taking_place : ℕ → ℕ
taking_place h = h % 4 + 4

-- of each register of a host: where its word is read, and where another is written
abbrev pub word_column : ℕ → ℕ
word_column h = h % 4

abbrev pub room_column : ℕ → ℕ
room_column h = h % 4 + 4

abbrev pub place_of : ℕ → ℕ → ℕ
place_of column r = (r + 2) * 8 + column % 8

-- ---- what is read of a table

-- the greatest of a rank and of those of some registers
abbrev pub deepest : Table → ℕ → ℕ → List Reg → ℕ
deepest d c n [] = n
deepest d c n (r ∷ rs) = deepest d c (max n (d (place_of c r.0))) rs

-- the rank at a place, where it matters
abbrev pub held : Bool → ℕ → Table → ℕ
held b p d = if b then d p else 0

-- ---- what is left there

-- a place has at least this rank
abbrev pub raised : ℕ → ℕ → Table → Table
raised p n d = put d p (max n (d p))

abbrev pub raised_if : Bool → ℕ → ℕ → Table → Table
raised_if b p n d = if b then raised p n d else d

-- and so have some registers
abbrev pub noted : ℕ → List Reg → ℕ → Table → Table
noted c [] n d = d
noted c (r ∷ rs) n d = noted c rs n (raised (place_of c r.0) n d)

-- ---- rounds

-- a round has so many ranks: the first is that of acts, and the others are those of packets
abbrev pub round : ℕ
round = 65537

-- so many ranks behind the begin of a round, as far as 64 bits count
abbrev pub from_begin : ℕ → ℕ → ℕ
from_begin further n = min ((n - n % round) + further) (2 ^ 64 - 1)

-- What is heard in a round is of the next one, and so is a block behind all before it.
abbrev pub next_round : ℕ → ℕ
next_round n = max n (from_begin round n)

-- packets of a round stand by sender and receiver
abbrev pub packet_place : ℕ → ℕ → ℕ
packet_place a b = 1 + a * 256 + b

abbrev pub among_packets : ℕ → ℕ → ℕ → ℕ
among_packets n a b = max n (from_begin (packet_place a b) n)

-- ---- acts

abbrev pub takes_item : Need → Bool
takes_item Nothing = false
takes_item (Item s) = true
takes_item (Packet p n) = false
takes_item (Unequal x y) = false
takes_item Ended = false

abbrev pub act_floor : Table → ℕ → Action → ℕ
act_floor d h a =
    max (max (d floor_place) (held (takes_item (needs a)) (taking_place h) d)) (held (not (is_simple a)) (telling_place h) d)

abbrev pub act_rank : Table → ℕ → Action → ℕ
act_rank d h a = deepest d (room_column h) (deepest d (word_column h) (act_floor d h a) (reads a)) (writes a)

abbrev pub act_left : ℕ → Action → ℕ → Table → Table
act_left h a n d =
    raised top_place n (raised_if (takes_item (needs a)) (taking_place h) n (raised_if (not (is_simple a)) (telling_place h) n
    (noted (room_column h) (reads a) n (noted (room_column h) (writes a) n (noted (word_column h) (writes a) n d)))))

-- ---- packets, which open words or do not

abbrev pub packet_floor : Bool → Table → ℕ → ℕ
packet_floor opens d a = max (d floor_place) (held opens (telling_place a) d)

abbrev pub packet_rank : Bool → Table → ℕ → List Reg → ℕ → List Reg → ℕ
packet_rank opens d a said b heard = among_packets (deepest d (room_column b) (deepest d (word_column a) (packet_floor opens d a) said) heard) a b

-- at the sender
abbrev pub told_left : Bool → ℕ → List Reg → ℕ → Table → Table
told_left opens a said n d =
    raised_if opens (telling_place a) n (noted (room_column a) said n d)

-- at the receiver, in the next round
abbrev pub heard_left : ℕ → List Reg → ℕ → Table → Table
heard_left b heard n d = raised (telling_place b) n (noted (room_column b) heard n (noted (word_column b) heard n d))

abbrev pub packet_left : Bool → ℕ → List Reg → ℕ → List Reg → ℕ → Table → Table
packet_left opens a said b heard n d = raised top_place n (heard_left b heard (next_round n) (told_left opens a said n d))

-- ---- lines

abbrev pub rank : Opened → Table → Turn → ℕ
rank opened d (Does h a) = act_rank d h a
rank opened d (Tells a said b heard) = packet_rank (meet said (opened a)) d a said b heard

abbrev pub left : Opened → Turn → ℕ → Table → Table
left opened (Does h a) n d = act_left h a n d
left opened (Tells a said b heard) n d = packet_left (meet said (opened a)) a said b heard n d

abbrev pub mark_left : ℕ → Table → Table
mark_left n d = raised floor_place n (raised top_place n d)

abbrev pub line_rank : Opened → Table → Line → ℕ
line_rank opened d (line.Act x) = rank opened d (turn_of x)
line_rank opened d (line.If a g) = next_round (d top_place)
line_rank opened d (line.Else a) = next_round (d top_place)
line_rank opened d (line.For a r count) = next_round (d top_place)
line_rank opened d (line.End a) = next_round (d top_place)

abbrev pub line_left : Opened → Line → ℕ → Table → Table
line_left opened (line.Act x) n d = left opened (turn_of x) n d
line_left opened (line.If a g) n d = mark_left n d
line_left opened (line.Else a) n d = mark_left n d
line_left opened (line.For a r count) n d = mark_left n d
line_left opened (line.End a) n d = mark_left n d

abbrev pub behind_line : Opened → Table → Line → Table
behind_line opened d l = line_left opened l (line_rank opened d l) d

abbrev pub ranked : Opened → Table → List Line → List Ranked
ranked opened d [] = []
ranked opened d (l ∷ ls) = record { rank = line_rank opened d l; line = l } ∷ ranked opened (behind_line opened d l) ls

abbrev pub lines_of : List Ranked → List Line
lines_of list = map (λ x. x.line) list
