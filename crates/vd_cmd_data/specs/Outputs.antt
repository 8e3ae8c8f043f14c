-- The outputs of a program to a host, in order, and how many come before and after each.
use Rattle.std.specs.Prelude.{ℕ, zero, suc, ◌+◌, Bool, true, false, List, [], ◌∷◌, ◌++◌, map, slice_get, codes, decimal, if◌then◌else◌}
use Rattle.std.specs.List.{fold}
use Rattle.std.specs.Option.{option_map_or}
use Rattle.vd_base.specs.declared.ids.HostId.{HostId}
use Rattle.vd_base.specs.declared.ids.SlotId.{SlotId}
use Rattle.vd_base.specs.HostSets.{same_host}
use Rattle.vd_base.specs.declared.operations.Kind.{Kind}
use Rattle.vd_base.specs.declared.operations.Kind.TheVariants as kind
use Rattle.vd_core.specs.declared.normal.NormalForm.{NormalForm}
use Rattle.vd_core.specs.declared.normal.Slot.{Slot}
use Rattle.vd_core.specs.declared.normal.Stmt.{Stmt}
use Rattle.vd_core.specs.declared.normal.Stmt.TheOpen.{Stmt-F}
use Rattle.vd_core.specs.declared.normal.Stmt.TheFolds.{fold-Stmt}
use Rattle.vd_cmd_data.specs.declared.outputs.Around.{Around}
use Rattle.vd_cmd_data.specs.declared.outputs.Place.{Place}
use Rattle.vd_cmd_data.specs.declared.spans.Span.{Span}
use Rattle.vd_cmd_data.specs.Names.{output_name}
use Rattle.vd_cmd_data.specs.Spans.{either, exactly, plus, times}

-- ---- how many there are

abbrev pub output_count : (to host : HostId) → Span
output_count to host = if same_host to host then exactly 1 else exactly 0

-- all together
abbrev pub total : List Span → Span
total spans = fold plus (exactly 0) spans

-- of a branch one block is done, of a loop the body so often
abbrev pub span_step : HostId → Stmt-F Span → Span
span_step host (Stmt-F.Output slot to offset) = output_count to host
span_step host (Stmt-F.If guard first other offset) = either (total first) (total other)
span_step host (Stmt-F.For count body) = times count (total body)
span_step host other = exactly 0

abbrev pub statement_span : HostId → Stmt → Span
statement_span host = fold-Stmt Span (span_step host)

abbrev pub block_span : HostId → List Stmt → Span
block_span host body = total (map (statement_span host) body)

-- ---- which there are

abbrev pub is_truth_kind : Kind → Bool
is_truth_kind kind.Bool = true
is_truth_kind other = false

abbrev pub is_truth : List Slot → SlotId → Bool
is_truth slots s = option_map_or (λ (slot : Slot). is_truth_kind slot.kind) (slice_get slots s.0) false

-- the turns of the loops around, and one more inside of them
abbrev pub deeper : (turns : List ℕ) → (turn : ℕ) → List ℕ
deeper turns turn = turns ++ codes "[" ++ decimal turn ++ codes "]"

abbrev pub around_first : Around → Span → Around
around_first around behind = record { before = around.before; after = plus behind around.after }

abbrev pub around_rest : Around → Span → Around
around_rest around first = record { before = plus around.before first; after = around.after }

-- what a statement brings: how many outputs, and these, in these turns and with these around
pub record Brings : Type 0 where
  pub count : Span
  pub places : (turns : List ℕ) → Around → List Place

abbrev pub all_count : List Brings → Span
all_count list = total (map (λ (b : Brings). b.count) list)

abbrev pub all_places : List Brings → (turns : List ℕ) → Around → List Place
all_places [] turns around = []
all_places (b ∷ more) turns around = b.places turns (around_first around (all_count more)) ++ all_places more turns (around_rest around b.count)

-- so many turns are left, of which the first has this number
abbrev pub turn_places : List Brings → (left turn : ℕ) → (turns : List ℕ) → Around → List Place
turn_places body zero turn turns around = []
turn_places body (suc left) turn turns around =
    all_places body (deeper turns turn) (around_first around (times left (all_count body)))
    ++ turn_places body left (turn + 1) turns (around_rest around (all_count body))

-- the name of an output, and the turns in which it comes
abbrev pub place_name : (source : List ℕ) → List Slot → (turns : List ℕ) → SlotId → (offset : ℕ) → List ℕ
place_name source slots turns slot offset = output_name source slots slot offset ++ turns

module _ (source : List ℕ) (slots : List Slot) (host : HostId) where
  abbrev pub output_places : (turns : List ℕ) → Around → SlotId → (to : HostId) → (offset : ℕ) → List Place
  output_places turns around slot to offset =
      if same_host to host then record { name = place_name source slots turns slot offset; is_bool = is_truth slots slot; around = around } ∷ [] else []

  abbrev pub nothing : Brings
  nothing = record { count = exactly 0; places = λ turns around. [] }

  abbrev pub brings_step : Stmt-F Brings → Brings
  brings_step (Stmt-F.Output slot to offset) = record { count = output_count to host; places = λ turns around. output_places turns around slot to offset }
  brings_step (Stmt-F.If guard first other offset) = record {
    count = either (all_count first) (all_count other);
    places = λ turns around. all_places first turns around ++ all_places other turns around;
  }
  brings_step (Stmt-F.For count body) = record {
    count = times count (all_count body);
    places = λ turns around. turn_places body count 0 turns around;
  }
  brings_step other = nothing

  abbrev pub brings : Stmt → Brings
  brings = fold-Stmt Brings brings_step

  abbrev pub statement_places : Stmt → (turns : List ℕ) → Around → List Place
  statement_places stmt = (brings stmt).places

  abbrev pub block_places : List Stmt → (turns : List ℕ) → Around → List Place
  block_places body = all_places (map brings body)

  abbrev pub loop_places : List Stmt → (count : ℕ) → (turns : List ℕ) → Around → List Place
  loop_places body count = turn_places (map brings body) count 0

-- ---- of a program

abbrev pub outputs_count : NormalForm → HostId → Span
outputs_count p host = block_span host p.body

abbrev pub outputs_of : (source : List ℕ) → NormalForm → HostId → List Place
outputs_of source p host = block_places source p.slots host p.body [] (record { before = exactly 0; after = exactly 0 })
