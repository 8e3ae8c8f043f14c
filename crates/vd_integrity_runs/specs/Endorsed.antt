-- What a program does where the words of some endorsements come from a list, one after the other.
use Rattle.std.specs.Prelude.{ℕ, nat_eq, Bool, false, if◌then◌else◌, List, [], ◌∷◌, map, replicate, slice_index_or, slice_set}
use Rattle.vd_base.specs.declared.ids.HostId.{HostId}
use Rattle.vd_base.specs.declared.ids.SlotId.{SlotId}
use Rattle.vd_core.specs.declared.normal.Right.{Right}
use Rattle.vd_core.specs.declared.normal.Right.TheVariants.{Lit, Turn, Copy, Apply, Input, Declassify, Endorse, Load, Get}
use Rattle.vd_core.specs.declared.normal.Stmt.{Stmt}
use Rattle.vd_core.specs.declared.normal.Stmt.TheOpen.{Stmt-F}
use Rattle.vd_core.specs.declared.normal.Stmt.TheFolds.{fold-Stmt}
use Rattle.vd_core.specs.declared.normal.NormalForm.{NormalForm}
use Rattle.vd_semantics.specs.World.{first_word, later_words, after_output}
use Rattle.vd_semantics.specs.ProgramMeaning.{SlotState, word_at, array_at, with_word, with_array, in_world, right_word, after_right}
use Rattle.vd_semantics.specs.Turns.{turns}
use Rattle.vd_noninter.specs.Reading.{start}

-- a state, and the words that are still to be endorsed
pub record Given : Type 0 where
  pub state : SlotState
  pub left : List ℕ

-- the right side is an endorsement whose result and operand pass the test
abbrev pub is_given : (ℕ → ℕ → Bool) → SlotId → Right → Bool
is_given test x (Lit n) = false
is_given test x Turn = false
is_given test x (Copy y) = false
is_given test x (Apply op ys) = false
is_given test x (Input host) = false
is_given test x (Declassify y to) = false
is_given test x (Endorse y to) = test x.0 y.0
is_given test x (Load v) = false
is_given test x (Get v i) = false

-- what a statement does, in that turn of the innermost loop
abbrev pub Doing : Type 0
Doing = ℕ → Given → Given

-- the state changes, and no word is endorsed
abbrev pub changed : SlotState → Given → Given
changed state s = record { state = state; left = s.left }

-- an endorsement that passes the test gives the next word of the list, whatever its operand holds
abbrev pub bound : (ℕ → ℕ → Bool) → SlotId → Right → Doing
bound test x right turn s = record {
  state = with_word x (if is_given test x right then first_word s.left else right_word right turn s.state) (in_world (after_right right s.state.world) s.state);
  left = if is_given test x right then later_words s.left else s.left;
}

-- one after another
abbrev pub all_done : List Doing → Doing
all_done [] turn s = s
all_done (f ∷ fs) turn s = all_done fs turn (f turn s)

abbrev pub given_step : (ℕ → ℕ → Bool) → Stmt-F Doing → Doing
given_step test (Stmt-F.Let x right) turn s = bound test x right turn s
given_step test (Stmt-F.NewVar v y) turn s = changed (with_word v (word_at s.state y) s.state) s
given_step test (Stmt-F.NewArray v size) turn s = changed (with_array v (replicate size 0) s.state) s
given_step test (Stmt-F.Store v y) turn s = changed (with_word v (word_at s.state y) s.state) s
given_step test (Stmt-F.Put v i y) turn s = changed (with_array v (slice_set (array_at s.state v) (word_at s.state i) (word_at s.state y)) s.state) s
given_step test (Stmt-F.Output y host offset) turn s = changed (in_world (after_output s.state.world host.0 (word_at s.state y)) s.state) s
given_step test (Stmt-F.If g then_block else_block offset) turn s = all_done (if nat_eq (word_at s.state g) 0 then else_block else then_block) turn s
given_step test (Stmt-F.For count body) turn s = turns count (all_done body) s

abbrev pub doing : (ℕ → ℕ → Bool) → Stmt → Doing
doing test = fold-Stmt Doing (given_step test)

-- the run of a program on these inputs, where these words are endorsed
abbrev pub run_given : NormalForm → (ℕ → ℕ → Bool) → List ℕ → List (List ℕ) → Given
run_given p test words inputs = all_done (map (doing test) p.body) 0 (record { state = start p inputs; left = words })

-- what it tells a host
abbrev pub outputs_given : NormalForm → (ℕ → ℕ → Bool) → HostId → List ℕ → List (List ℕ) → List ℕ
outputs_given p test h words inputs = slice_index_or (run_given p test words inputs).state.world.outputs h.0 []
