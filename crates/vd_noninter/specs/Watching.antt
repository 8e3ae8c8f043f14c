-- What a run tells of some slots: the words that it declassifies and endorses, and the words that it holds where control is told.
use Rattle.std.specs.Prelude.{ℕ, zero, suc, nat_eq, Bool, true, false, if◌then◌else◌, List, [], ◌∷◌, ◌++◌, map, filter}
use Rattle.vd_base.specs.declared.ids.SlotId.{SlotId}
use Rattle.vd_core.specs.declared.normal.Right.{Right}
use Rattle.vd_core.specs.declared.normal.Right.TheVariants.{Lit, Turn, Copy, Apply, Input, Declassify, Endorse, Load, Get}
use Rattle.vd_core.specs.declared.normal.Stmt.{Stmt, map-Stmt}
use Rattle.vd_core.specs.declared.normal.Stmt.TheOpen.{Stmt-F}
use Rattle.vd_core.specs.declared.normal.Stmt.TheFolds.{fold-Stmt}
use Rattle.vd_semantics.specs.ProgramMeaning.{SlotState, Effect, word_at, in_order, stmt_effect}
use Rattle.vd_semantics.specs.Turns.{turns}

-- the words of an execution, from that turn of the innermost loop and that state on
abbrev pub Words : Type 0
Words = ℕ → SlotState → List ℕ

-- what a statement does, with the downgraded words that are given and those that are freed, and those that it shows
pub record Watched : Type 0 where
  pub run : Effect
  pub given : Words
  pub freed : Words
  pub shown : Words

abbrev pub run_of : Watched → Effect
run_of w = w.run

abbrev pub given_by : Watched → Words
given_by w = w.given

abbrev pub freed_by : Watched → Words
freed_by w = w.freed

abbrev pub shown_by : Watched → Words
shown_by w = w.shown

-- the words of statements, one after another
abbrev pub words_in_order : (Watched → Words) → List Watched → Words
words_in_order words [] turn s = []
words_in_order words (w ∷ ws) turn s = words w turn s ++ words_in_order words ws turn (w.run turn s)

-- the words of a loop, turn by turn
abbrev pub words_of_turns : ℕ → (Watched → Words) → List Watched → SlotState → List ℕ
words_of_turns zero words body s = []
words_of_turns (suc n) words body s = words_of_turns n words body s ++ words_in_order words body n (turns n (in_order (map run_of body)) s)

-- the statements that an If executes
abbrev pub taken : {A : Type 0} → SlotId → List A → List A → SlotState → List A
taken guard then_block else_block s = if nat_eq (word_at s guard) 0 then else_block else then_block

-- some declassifications and some endorsements, by result and operand
pub record Downgrades : Type 0 where
  pub declassified : ℕ → ℕ → Bool
  pub endorsed : ℕ → ℕ → Bool

abbrev pub nothing : ℕ → ℕ → Bool
nothing x y = false

abbrev pub declassifications : (ℕ → ℕ → Bool) → Downgrades
declassifications test = record { declassified = test; endorsed = nothing }

abbrev pub endorsements : (ℕ → ℕ → Bool) → Downgrades
endorsements test = record { declassified = nothing; endorsed = test }

abbrev pub no_downgrades : Downgrades
no_downgrades = record { declassified = nothing; endorsed = nothing }

-- the word of a downgrade that is one of these
abbrev pub right_downgraded : Downgrades → SlotId → Right → SlotState → List ℕ
right_downgraded these x (Lit n) s = []
right_downgraded these x Turn s = []
right_downgraded these x (Copy y) s = []
right_downgraded these x (Apply op ys) s = []
right_downgraded these x (Input host) s = []
right_downgraded these x (Declassify y to) s = if these.declassified x.0 y.0 then word_at s y ∷ [] else []
right_downgraded these x (Endorse y to) s = if these.endorsed x.0 y.0 then word_at s y ∷ [] else []
right_downgraded these x (Load v) s = []
right_downgraded these x (Get v i) s = []

abbrev pub stmt_downgraded : Downgrades → (Watched → Words) → Stmt-F Watched → Words
stmt_downgraded these words (Stmt-F.Let x right) turn s = right_downgraded these x right s
stmt_downgraded these words (Stmt-F.NewVar v y) turn s = []
stmt_downgraded these words (Stmt-F.NewArray v size) turn s = []
stmt_downgraded these words (Stmt-F.Store v y) turn s = []
stmt_downgraded these words (Stmt-F.Put v i y) turn s = []
stmt_downgraded these words (Stmt-F.Output y host offset) turn s = []
stmt_downgraded these words (Stmt-F.If guard then_block else_block offset) turn s = words_in_order words (taken guard then_block else_block s) turn s
stmt_downgraded these words (Stmt-F.For count body) turn s = words_of_turns count words body s

-- the words of those of these slots that pass the test
abbrev pub words_at : (ℕ → Bool) → List SlotId → SlotState → List ℕ
words_at test slots s = map (word_at s) (filter (λ x. test x.0) slots)

-- which slots' words a statement shows; what stands in its blocks is not looked at
abbrev pub Showing : Type 0
Showing = Stmt-F Bool → List SlotId

abbrev pub shape : Stmt-F Watched → Stmt-F Bool
shape = map-Stmt Watched Bool (λ w. true)

-- the words that a statement shows, once it is executed, of slots that pass the test; in branches only where the guard passes
abbrev pub stmt_shown : (ℕ → Bool) → Showing → Stmt-F Watched → Words
stmt_shown test shows (Stmt-F.Let x right) turn s = words_at test (shows (shape (Stmt-F.Let x right))) (stmt_effect (Stmt-F.Let x right) turn s)
stmt_shown test shows (Stmt-F.NewVar v y) turn s = words_at test (shows (shape (Stmt-F.NewVar v y))) (stmt_effect (Stmt-F.NewVar v y) turn s)
stmt_shown test shows (Stmt-F.NewArray v size) turn s = words_at test (shows (shape (Stmt-F.NewArray v size))) s
stmt_shown test shows (Stmt-F.Store v y) turn s = words_at test (shows (shape (Stmt-F.Store v y))) (stmt_effect (Stmt-F.Store v y) turn s)
stmt_shown test shows (Stmt-F.Put v i y) turn s = words_at test (shows (shape (Stmt-F.Put v i y))) s
stmt_shown test shows (Stmt-F.Output y host offset) turn s = words_at test (shows (shape (Stmt-F.Output y host offset))) s
stmt_shown test shows (Stmt-F.If guard then_block else_block offset) turn s =
    if test guard.0 then words_at test (shows (shape (Stmt-F.If guard then_block else_block offset))) s ++ words_in_order shown_by (taken guard then_block else_block s) turn s else []
stmt_shown test shows (Stmt-F.For count body) turn s = words_of_turns count shown_by body s

-- Which downgrades are given and which are freed, and of which slots what statements show is looked at.
pub record Taps : Type 0 where
  pub given : Downgrades
  pub freed : Downgrades
  pub kept : ℕ → Bool
  pub shows : Showing

abbrev pub watched_step : Taps → Stmt-F Watched → Watched
watched_step taps s = record {
  run = stmt_effect (map-Stmt Watched Effect run_of s);
  given = stmt_downgraded taps.given given_by s;
  freed = stmt_downgraded taps.freed freed_by s;
  shown = stmt_shown taps.kept taps.shows s;
}

abbrev pub watched : Taps → Stmt → Watched
watched taps = fold-Stmt Watched (watched_step taps)
