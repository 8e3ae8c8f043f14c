-- Where everything stands: columns from left to right, by whole numbers.
use Rattle.std.specs.Prelude.{ℕ, ◌+◌, ◌-◌, ◌*◌, min, max, List, map, length}
use Rattle.std.specs.List.{fold}
use Rattle.vd_base.specs.declared.protocols.Proto.{Proto}
use Rattle.vd_core.specs.declared.normal.NormalForm.{NormalForm}
use Rattle.vd_constraints.specs.declared.labels.Labels.{Labels}
use Rattle.vd_draw_rows.specs.declared.row.Row.{Row}
use Rattle.vd_draw_layout.specs.declared.layout.Layout.{Layout}
use Rattle.vd_draw_layout.specs.Lanes.{lane_protocols, lanes_from}
use Rattle.vd_draw_layout.specs.declared.runs.Drawn.{Drawn}
use Rattle.vd_draw_layout.specs.Numbers.{plus, times, cost_of}
use Rattle.vd_draw_layout.specs.Runs.{drawn_rows}
use Rattle.vd_draw_layout.specs.Words.{protocol_name, label_text}

abbrev pub raised : {X : Type 0} → (X → ℕ) → ℕ → X → ℕ
raised f most x = max (f x) most

abbrev pub greatest : {X : Type 0} → (X → ℕ) → List X → ℕ
greatest f xs = fold (raised f) 0 xs

-- how deep a row is drawn
abbrev pub indent : Row → ℕ
indent row = min (row.depth - 1) 12

-- the letters that a row takes, with its number and its indentation: 4 for the number, 2 for each block around it
abbrev pub letters_of : Row → ℕ
letters_of row = min (length row.text) 56 + 4 + 2 * indent row

abbrev pub text_letters : List Row → ℕ
text_letters rows = max (greatest letters_of rows) 24

abbrev pub short_length : List ℕ → ℕ
short_length text = min (length text) 34

abbrev pub label_letters : List (List ℕ) → ℕ
label_letters labels = max (greatest short_length labels) 6

abbrev pub name_length : List (List ℕ) → Proto → ℕ
name_length hosts p = min (length (protocol_name hosts p)) 30

abbrev pub lane_letters : List (List ℕ) → List Proto → ℕ
lane_letters hosts protocols = max (greatest (name_length hosts) protocols) 9

-- half of the gap between two lanes
abbrev pub half_gap : ℕ → ℕ
half_gap letters = max (plus (times letters 4) 4) 46

abbrev pub label_x : ℕ → ℕ
label_x letters = plus (times letters 7) 34

abbrev pub behind_column : ℕ → ℕ → ℕ
behind_column x letters = plus (plus (times letters 6) x) 14

-- what the costs of all rows add up to
abbrev pub with_row : ℕ → Row → ℕ
with_row total row = plus total (cost_of row)

abbrev pub total_cost : List Row → ℕ
total_cost rows = fold with_row 0 rows

abbrev pub cost_drawn : Drawn → ℕ
cost_drawn row = row.cost

abbrev pub greatest_cost : List Drawn → ℕ
greatest_cost drawn = max (greatest cost_drawn drawn) 1

-- from the letters of the columns of texts, labels and protocols, and the protocols of the lanes
abbrev pub columns : List Row → ℕ → ℕ → ℕ → List Proto → Layout
columns rows texts labels names protocols =
    let protocol_x = behind_column (label_x texts) labels in
    let lanes_x = behind_column protocol_x names in
    let half = half_gap names in
    record {
      text_letters = texts;
      label_x = label_x texts;
      protocol_x = protocol_x;
      lanes_x = lanes_x;
      half = half;
      lanes = lanes_from (plus lanes_x half) (plus half half) protocols;
      cost_x = plus (plus (times (length protocols) (plus half half)) lanes_x) 26;
      drawn = drawn_rows rows;
      greatest = greatest_cost (drawn_rows rows);
      total = total_cost rows;
    }

abbrev pub label_texts : NormalForm → Labels → List (List ℕ)
label_texts p l = map (label_text p.principals) l.slots

abbrev pub layout_of : List (List ℕ) → List (List ℕ) → List Row → Layout
layout_of hosts labels rows =
    let protocols = lane_protocols rows (length hosts) in
    columns rows (text_letters rows) (label_letters labels) (lane_letters hosts protocols) protocols
