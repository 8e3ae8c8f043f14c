-- All hosts in one run, as a list by their numbers, and what an act makes of it.
use Rattle.std.specs.Prelude.{ℕ, nat_eq, if◌then◌else◌, Bool, true, List, [], ◌∷◌, ◌++◌, slice_index, slice_index_or}
use Rattle.std.specs.List.{list_any}
use Rattle.vd_base.specs.declared.ids.HostId.{HostId}
use Rattle.vd_execution.specs.declared.instructions.Reg.{Reg}
use Rattle.vd_execution.specs.declared.instructions.Act.{Act}
use Rattle.vd_execution.specs.declared.instructions.Act.TheVariants as act
use Rattle.vd_execution.specs.Joint.{Part}
use Rattle.vd_semantics.specs.Stores.{put}
use Rattle.vd_excuse_runs.specs.declared.side.Side.{Side}
use Rattle.vd_excuse_runs.specs.Sides.{counted, empty_side, has_heard, performed, said_words}

-- a host; one past the end has nothing
abbrev pub side_at : List Side → ℕ → Side
side_at run h = slice_index_or run h empty_side

-- a host becomes another
abbrev pub put_side : List Side → ℕ → Side → List Side
put_side run h side = put empty_side run h side

-- a host tells another the words of its registers
abbrev pub told : HostId → List Reg → HostId → List Reg → List Side → List Side
told a said b heard run = put_side run b.0 (has_heard heard (said_words (side_at run a.0).registers said) (side_at run b.0))

abbrev pub acted : Act → List Side → List Side
acted (act.Do h a) run = put_side run h.0 (performed a (side_at run h.0))
acted (act.Msg a said b heard) run = told a said b heard run

-- whether the guard of the first host that takes part is 0
abbrev pub is_other : List Part → List Side → Bool
is_other [] run = true
is_other (p ∷ ps) run = nat_eq (slice_index (side_at run p.0).registers p.1) 0

-- ---- turns

abbrev pub nobody : Part
nobody = (0, 0)

-- whether a host stands among these
abbrev pub stood : ℕ → List Part → Bool
stood h ps = list_any (λ p. nat_eq p.0 h) ps

-- the next host that takes part, unless it stood before
abbrev pub next_begun : List Part → Part → ℕ → List Side → List Side
next_begun before p turn run = if stood p.0 before then run else put_side run p.0 (counted p.1 turn (side_at run p.0))

abbrev pub begun_behind : List Part → List Part → ℕ → List Side → List Side
begun_behind before [] turn run = run
begun_behind before (p ∷ ps) turn run = begun_behind (before ++ p ∷ []) ps turn (next_begun before p turn run)

abbrev pub begun : List Part → ℕ → List Side → List Side
begun ps turn run = begun_behind [] ps turn run
