-- The rows of a drawing: one fold over the statements of a program.
use Rattle.std.specs.Prelude.{ℕ, ◌+◌, ◌-◌, ◌*◌, ◌^◌, true, false, ◌||◌, min, Some, None, List, [], ◌∷◌, ◌++◌, map, length, codes}
use Rattle.std.specs.List.{flat_map}
use Rattle.vd_base.specs.declared.ids.HostId.{HostId}
use Rattle.vd_base.specs.declared.ids.SlotId.{SlotId}
use Rattle.vd_base.specs.declared.protocols.Proto.{Proto}
use Rattle.vd_base.specs.declared.protocols.Proto.TheVariants.{Local}
use Rattle.vd_base.specs.Holders.{proto_in}
use Rattle.vd_core.specs.declared.normal.Right.{Right}
use Rattle.vd_core.specs.declared.normal.Stmt.{Stmt}
use Rattle.vd_core.specs.declared.normal.Stmt.TheOpen.{Stmt-F}
use Rattle.vd_core.specs.declared.normal.Stmt.TheFolds.{fold-Stmt}
use Rattle.vd_core.specs.declared.normal.NormalForm.{NormalForm}
use Rattle.vd_space.specs.Reading.{named_by}
use Rattle.vd_draw_rows.specs.declared.row.Kind.TheVariants as kind
use Rattle.vd_draw_rows.specs.declared.row.Move.{Move}
use Rattle.vd_draw_rows.specs.declared.row.Row.{Row}
use Rattle.vd_draw_rows.specs.Lines.{line_at, slot_line}
use Rattle.vd_draw_rows.specs.Texts.{binding_text, variable_text, array_text, store_text, put_text, output_text, branch_text, loop_text}
use Rattle.vd_draw_rows.specs.Moves.{move_of, one_move, told_to, element_moves, right_moves, is_alone, is_indexed, operation_of, is_part}

-- what a statement brings: its rows, where it is done so often and so deep, the slots that it names, and the hosts that it tells something
pub record Drawn : Type 0 where
  pub rows : ℕ → ℕ → List Row
  pub named : List SlotId
  pub told : List HostId

abbrev pub all_rows : List Drawn → ℕ → ℕ → List Row
all_rows [] weight depth = []
all_rows (d ∷ ds) weight depth = d.rows weight depth ++ all_rows ds weight depth

abbrev pub all_named : List Drawn → List SlotId
all_named ds = flat_map (λ (d : Drawn). d.named) ds

abbrev pub all_told : List Drawn → List HostId
all_told ds = flat_map (λ (d : Drawn). d.told) ds

abbrev pub deeper : ℕ → ℕ
deeper depth = min (depth + 1) (2 ^ 32 - 1)

abbrev pub otherwise_row : ℕ → ℕ → Row
otherwise_row weight depth = record { kind = kind.Otherwise; depth = depth; offset = None; slot = None; line = None; at = None; text = codes "else"; moves = []; indexed = false; alone = false; operation = 0; weight = weight }

abbrev pub loop_row : ℕ → ℕ → ℕ → Row
loop_row weight depth count = record { kind = kind.Loop; depth = depth; offset = None; slot = None; line = None; at = None; text = loop_text count; moves = []; indexed = false; alone = false; operation = 0; weight = weight }

module _ (source : List ℕ) (p : NormalForm) (list : List Proto) where
  abbrev pub binding_row : ℕ → ℕ → SlotId → Right → Row
  binding_row weight depth x right = record {
    kind = kind.Binding;
    depth = depth;
    offset = None;
    slot = Some x;
    line = slot_line source p.slots x (binding_text p.hosts p.slots x right);
    at = Some (proto_in list x.0);
    text = binding_text p.hosts p.slots x right;
    moves = right_moves list (length p.hosts) x right;
    indexed = is_indexed right;
    alone = is_alone right;
    operation = operation_of right (proto_in list x.0);
    weight = weight;
  }

  abbrev pub variable_row : ℕ → ℕ → SlotId → SlotId → Row
  variable_row weight depth v y = record {
    kind = kind.Variable;
    depth = depth;
    offset = None;
    slot = Some v;
    line = slot_line source p.slots v (variable_text p.slots v y);
    at = Some (proto_in list v.0);
    text = variable_text p.slots v y;
    moves = one_move list y (proto_in list v.0);
    indexed = false;
    alone = false;
    operation = 0;
    weight = weight;
  }

  abbrev pub array_row : ℕ → ℕ → SlotId → ℕ → Row
  array_row weight depth v cells = record {
    kind = kind.Variable;
    depth = depth;
    offset = None;
    slot = Some v;
    line = slot_line source p.slots v (array_text p.slots v cells);
    at = Some (proto_in list v.0);
    text = array_text p.slots v cells;
    moves = [];
    indexed = false;
    alone = false;
    operation = 0;
    weight = weight;
  }

  abbrev pub store_row : ℕ → ℕ → SlotId → SlotId → Row
  store_row weight depth v y = record {
    kind = kind.Store;
    depth = depth;
    offset = None;
    slot = None;
    line = None;
    at = Some (proto_in list v.0);
    text = store_text p.slots v y;
    moves = one_move list y (proto_in list v.0);
    indexed = false;
    alone = false;
    operation = 0;
    weight = weight;
  }

  abbrev pub put_row : ℕ → ℕ → SlotId → SlotId → SlotId → Row
  put_row weight depth v i y = record {
    kind = kind.Store;
    depth = depth;
    offset = None;
    slot = None;
    line = None;
    at = Some (proto_in list v.0);
    text = put_text p.slots v i y;
    moves = element_moves list (length p.hosts) v i (move_of list y (proto_in list v.0));
    indexed = true;
    alone = false;
    operation = 0;
    weight = weight;
  }

  abbrev pub output_row : ℕ → ℕ → SlotId → HostId → ℕ → Row
  output_row weight depth y h offset = record {
    kind = kind.Output;
    depth = depth;
    offset = Some offset;
    slot = None;
    line = line_at source offset (output_text p.hosts p.slots y h);
    at = Some (Local h);
    text = output_text p.hosts p.slots y h;
    moves = one_move list y (Local h);
    indexed = false;
    alone = false;
    operation = 0;
    weight = weight;
  }

  -- the guard is told to the hosts that take part in one of the branches
  abbrev pub guard_moves : SlotId → List Drawn → List Drawn → List Move
  guard_moves g first other = told_to list g (λ h. is_part list (all_named first) (all_told first) h || is_part list (all_named other) (all_told other) h) (length p.hosts)

  abbrev pub branch_row : ℕ → ℕ → SlotId → List Drawn → List Drawn → ℕ → Row
  branch_row weight depth g first other offset = record {
    kind = kind.Branch;
    depth = depth;
    offset = Some offset;
    slot = None;
    line = line_at source offset (branch_text p.slots g);
    at = None;
    text = branch_text p.slots g;
    moves = guard_moves g first other;
    indexed = false;
    alone = false;
    operation = 0;
    weight = weight;
  }

  -- the other block of a branch, if there is one
  abbrev pub otherwise_rows : List Drawn → ℕ → ℕ → List Row
  otherwise_rows [] weight depth = []
  otherwise_rows (d ∷ ds) weight depth = otherwise_row weight depth ∷ all_rows (d ∷ ds) weight depth

  abbrev pub drawn_step : Stmt-F Drawn → Drawn
  drawn_step (Stmt-F.Let x right) = record { rows = λ weight depth. binding_row weight depth x right ∷ []; named = x ∷ named_by right; told = [] }
  drawn_step (Stmt-F.NewVar v y) = record { rows = λ weight depth. variable_row weight depth v y ∷ []; named = v ∷ y ∷ []; told = [] }
  drawn_step (Stmt-F.NewArray v cells) = record { rows = λ weight depth. array_row weight depth v cells ∷ []; named = v ∷ []; told = [] }
  drawn_step (Stmt-F.Store v y) = record { rows = λ weight depth. store_row weight depth v y ∷ []; named = v ∷ y ∷ []; told = [] }
  drawn_step (Stmt-F.Put v i y) = record { rows = λ weight depth. put_row weight depth v i y ∷ []; named = v ∷ i ∷ y ∷ []; told = [] }
  drawn_step (Stmt-F.Output y h offset) = record { rows = λ weight depth. output_row weight depth y h offset ∷ []; named = y ∷ []; told = h ∷ [] }
  drawn_step (Stmt-F.If g then_block else_block offset) = record {
    rows = λ weight depth.
        branch_row weight depth g then_block else_block offset
        ∷ all_rows then_block weight (deeper depth) ++ otherwise_rows else_block weight (deeper depth);
    named = g ∷ all_named then_block ++ all_named else_block;
    told = all_told then_block ++ all_told else_block;
  }
  drawn_step (Stmt-F.For count body) = record {
    rows = λ weight depth. loop_row weight depth count ∷ all_rows body (weight * count) (deeper depth);
    named = all_named body;
    told = all_told body;
  }

  abbrev pub drawn : Stmt → Drawn
  drawn = fold-Stmt Drawn drawn_step

  -- the rows of a program
  abbrev pub rows_of : List Row
  rows_of = all_rows (map drawn p.body) 1 1
