-- What is said of the first use, index or guard for which no places are left.
use Rattle.std.specs.Prelude.{ℕ, List, [], ◌∷◌, ◌++◌, codes, map, slice_get, slice_index}
use Rattle.std.specs.List.{flat_map}
use Rattle.std.specs.Option.{option_map_or}
use Rattle.vd_base.specs.declared.ids.SlotId.{SlotId}
use Rattle.vd_core.specs.declared.normal.NormalForm.{NormalForm}
use Rattle.vd_core.specs.declared.normal.Right.{Right}
use Rattle.vd_core.specs.declared.normal.Right.TheVariants as right
use Rattle.vd_core.specs.declared.normal.Stmt.{Stmt}
use Rattle.vd_core.specs.declared.normal.Stmt.TheOpen.{Stmt-F}
use Rattle.vd_core.specs.declared.normal.Stmt.TheFolds.{fold-Stmt}
use Rattle.vd_space.specs.declared.problem.Problem.{Problem}
use Rattle.vd_space.specs.declared.problem.Use.{Use}
use Rattle.vd_space.specs.declared.problem.Guard.{Guard}
use Rattle.vd_space.specs.declared.problem.Index.{Index}
use Rattle.vd_diag.specs.Files.{no_assignment_sentence}
use Rattle.vd_diag.specs.Parts.{three}
use Rattle.vd_diag.specs.Remarks.{at, of_file}
use Rattle.vd_diag.specs.declared.remark.Remark.{Remark}
use Rattle.vd_diag_terminal.specs.FlowSteps.{slot_phrase}
use Rattle.vd_diag_terminal.specs.Sentences.{later_slot, slot_offset}
use Rattle.vd_diag_terminal.specs.Stuck.{first_stuck}
use Rattle.vd_diag_terminal.specs.declared.diag_choice.stuck.Stuck.{Stuck}
use Rattle.vd_diag_terminal.specs.declared.diag_choice.stuck.Stuck.TheVariants as stuck

-- ---- where an index stands

-- an element that is read stands where its slot is made
abbrev pub right_sites : (offset : ℕ) → Right → List ℕ
right_sites offset (right.Lit n) = []
right_sites offset right.Turn = []
right_sites offset (right.Copy y) = []
right_sites offset (right.Apply op ys) = []
right_sites offset (right.Input h) = []
right_sites offset (right.Declassify y form) = []
right_sites offset (right.Endorse y form) = []
right_sites offset (right.Load v) = []
right_sites offset (right.Get v i) = offset ∷ []

-- of each index of a program, in program order
abbrev pub sites_step : NormalForm → Stmt-F (List ℕ) → List ℕ
sites_step p (Stmt-F.Let x r) = right_sites (slot_offset p x.0) r
sites_step p (Stmt-F.NewVar v y) = []
sites_step p (Stmt-F.NewArray v size) = []
sites_step p (Stmt-F.Store v y) = []
sites_step p (Stmt-F.Put v i y) = later_slot p i y ∷ []
sites_step p (Stmt-F.Output y h offset) = []
sites_step p (Stmt-F.If y then_block else_block offset) = flat_map (λ sites. sites) then_block ++ flat_map (λ sites. sites) else_block
sites_step p (Stmt-F.For count body) = flat_map (λ sites. sites) body

abbrev pub sites_of : NormalForm → Stmt → List ℕ
sites_of p = fold-Stmt (List ℕ) (sites_step p)

abbrev pub sites_in : NormalForm → List Stmt → List ℕ
sites_in p body = flat_map (λ sites. sites) (map (sites_of p) body)

-- ---- where a branch stands

-- the offsets of all Ifs, in program order
abbrev pub ifs_step : Stmt-F (List ℕ) → List ℕ
ifs_step (Stmt-F.Let x r) = []
ifs_step (Stmt-F.NewVar v y) = []
ifs_step (Stmt-F.NewArray v size) = []
ifs_step (Stmt-F.Store v y) = []
ifs_step (Stmt-F.Put v i y) = []
ifs_step (Stmt-F.Output y h offset) = []
ifs_step (Stmt-F.If y then_block else_block offset) = offset ∷ (flat_map (λ ifs. ifs) then_block ++ flat_map (λ ifs. ifs) else_block)
ifs_step (Stmt-F.For count body) = flat_map (λ ifs. ifs) body

abbrev pub ifs_of : Stmt → List ℕ
ifs_of = fold-Stmt (List ℕ) ifs_step

abbrev pub ifs_in : List Stmt → List ℕ
ifs_in body = flat_map (λ ifs. ifs) (map ifs_of body)

-- ---- sentences, with what would mend it

abbrev pub use_sentence : List ℕ → List ℕ → List ℕ
use_sentence source target =
    three (three source (codes " cannot come to where ") target)
    (codes " is made: two hosts share only words that one of them has; declassify it to both of them, ") (codes "or let its host split it into two words")

abbrev pub index_sentence : List ℕ → List ℕ → List ℕ
index_sentence index array =
    three (three index (codes " is an index of ") array)
    (codes ", and each host that keeps this must be allowed to read it; ") (codes "take the element in a loop over all of them by `mux`")

abbrev pub guard_sentence : List ℕ → List ℕ → List ℕ
guard_sentence guard kept =
    three (three kept (codes " stands in a branch that goes by ") guard)
    (codes ", and each host that keeps it must be allowed to read this; ") (codes "choose by `mux`, or declassify the guard")

-- ---- remarks

abbrev pub file_remark : Remark
file_remark = of_file no_assignment_sentence

abbrev pub use_remark : NormalForm → Use → Remark
use_remark p u = at (later_slot p u.source u.target) (use_sentence (slot_phrase p u.source) (slot_phrase p u.target))

abbrev pub index_remark : NormalForm → (number : ℕ) → Index → Remark
index_remark p number index = at (slice_index (sites_in p p.body) number) (index_sentence (slot_phrase p index.index) (slot_phrase p index.array))

abbrev pub guard_remark : NormalForm → (number : ℕ) → SlotId → Guard → Remark
guard_remark p number kept guard = at (slice_index (ifs_in p.body) number) (guard_sentence (slot_phrase p guard.slot) (slot_phrase p kept))

abbrev pub remark_on_use : NormalForm → Problem → (number : ℕ) → Remark
remark_on_use p problem number = option_map_or (use_remark p) (slice_get problem.uses number) file_remark

abbrev pub remark_on_index : NormalForm → Problem → (number : ℕ) → Remark
remark_on_index p problem number = option_map_or (index_remark p number) (slice_get problem.indexes number) file_remark

abbrev pub remark_on_guard : NormalForm → Problem → (number : ℕ) → (kept : SlotId) → Remark
remark_on_guard p problem number kept = option_map_or (guard_remark p number kept) (slice_get problem.guards number) file_remark

abbrev pub remark_on_stuck : NormalForm → Problem → Stuck → Remark
remark_on_stuck p problem (stuck.Use number) = remark_on_use p problem number
remark_on_stuck p problem (stuck.Index number) = remark_on_index p problem number
remark_on_stuck p problem (stuck.Guard number kept) = remark_on_guard p problem number kept

-- of the first of them, or of the whole file where none is found
abbrev pub stuck_remark : NormalForm → Problem → Remark
stuck_remark p problem = option_map_or (remark_on_stuck p problem) (first_stuck problem) file_remark
