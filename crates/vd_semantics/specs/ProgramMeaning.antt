-- What a let-normal program does, statement by statement.
use Rattle.std.specs.Prelude.{ℕ, nat_eq, if◌then◌else◌, List, [], ◌∷◌, map, length, replicate, slice_index, slice_index_or, slice_set}
use Rattle.vd_base.specs.declared.ids.SlotId.{SlotId}
use Rattle.vd_base.specs.Operations.{result_of}
use Rattle.vd_core.specs.declared.normal.Right.{Right}
use Rattle.vd_core.specs.declared.normal.Right.TheVariants.{Lit, Turn, Copy, Apply, Input, Declassify, Endorse, Load, Get}
use Rattle.vd_core.specs.declared.normal.Stmt.{Stmt}
use Rattle.vd_core.specs.declared.normal.Stmt.TheOpen.{Stmt-F}
use Rattle.vd_core.specs.declared.normal.Stmt.TheFolds.{fold-Stmt}
use Rattle.vd_core.specs.declared.normal.NormalForm.{NormalForm}
use Rattle.vd_semantics.specs.World.{World, world_at_start, input_word, after_input, after_output}
use Rattle.vd_semantics.specs.Stores.{put}
use Rattle.vd_semantics.specs.Turns.{turns}

-- the words of bindings and variables and the lists of arrays, by slot, and the world outside
pub record SlotState : Type 0 where
  pub words : List ℕ
  pub arrays : List (List ℕ)
  pub world : World

abbrev pub word_at : SlotState → SlotId → ℕ
word_at s x = slice_index s.words x.0

abbrev pub array_at : SlotState → SlotId → List ℕ
array_at s v = slice_index_or s.arrays v.0 []

abbrev pub with_word : SlotId → ℕ → SlotState → SlotState
with_word x word s = record { words = put 0 s.words x.0 word; arrays = s.arrays; world = s.world }

abbrev pub with_array : SlotId → List ℕ → SlotState → SlotState
with_array v words s = record { words = s.words; arrays = put [] s.arrays v.0 words; world = s.world }

abbrev pub in_world : World → SlotState → SlotState
in_world w s = record { words = s.words; arrays = s.arrays; world = w }

-- the word of a right side, in that turn of the innermost loop
abbrev pub right_word : Right → ℕ → SlotState → ℕ
right_word (Lit n) turn s = n
right_word Turn turn s = turn
right_word (Copy x) turn s = word_at s x
right_word (Apply op xs) turn s = result_of op (map (word_at s) xs)
right_word (Input host) turn s = input_word s.world host.0
right_word (Declassify x to) turn s = word_at s x
right_word (Endorse x to) turn s = word_at s x
right_word (Load v) turn s = word_at s v
right_word (Get v i) turn s = slice_index (array_at s v) (word_at s i)

-- an input takes its word
abbrev pub after_right : Right → World → World
after_right (Lit n) w = w
after_right Turn w = w
after_right (Copy x) w = w
after_right (Apply op xs) w = w
after_right (Input host) w = after_input w host.0
after_right (Declassify x to) w = w
after_right (Endorse x to) w = w
after_right (Load v) w = w
after_right (Get v i) w = w

-- what a statement does, in that turn of the innermost loop
abbrev pub Effect : Type 0
Effect = ℕ → SlotState → SlotState

-- one after another
abbrev pub in_order : List Effect → Effect
in_order [] turn s = s
in_order (f ∷ fs) turn s = in_order fs turn (f turn s)

abbrev pub stmt_effect : Stmt-F Effect → Effect
stmt_effect (Stmt-F.Let x right) turn s = with_word x (right_word right turn s) (in_world (after_right right s.world) s)
stmt_effect (Stmt-F.NewVar v x) turn s = with_word v (word_at s x) s
stmt_effect (Stmt-F.NewArray v size) turn s = with_array v (replicate size 0) s
stmt_effect (Stmt-F.Store v x) turn s = with_word v (word_at s x) s
stmt_effect (Stmt-F.Put v i x) turn s = with_array v (slice_set (array_at s v) (word_at s i) (word_at s x)) s
stmt_effect (Stmt-F.Output x host offset) turn s = in_world (after_output s.world host.0 (word_at s x)) s
stmt_effect (Stmt-F.If x then_block else_block offset) turn s = in_order (if nat_eq (word_at s x) 0 then else_block else then_block) turn s
stmt_effect (Stmt-F.For count body) turn s = turns count (in_order body) s

abbrev pub effect : Stmt → Effect
effect = fold-Stmt Effect stmt_effect

abbrev pub block_effect : List Stmt → Effect
block_effect body = in_order (map effect body)

-- nothing is written yet
abbrev pub state_at_start : World → SlotState
state_at_start w = record { words = []; arrays = []; world = w }

-- the outputs to each host
abbrev pub program_outputs : NormalForm → List (List ℕ) → List (List ℕ)
program_outputs p inputs = (block_effect p.body 0 (state_at_start (world_at_start (length p.hosts) inputs))).world.outputs
