-- Which of the clear words that come to a host are new to it, and that these tell it all others.
use Rattle.std.specs.Prelude.{◌≡◌, ℕ, nat_eq, Bool, ◌&&◌, not, List, [], ◌++◌, map, slice_index}
use Rattle.std.specs.List.{flat_map}
use Rattle.vd_base.specs.declared.ids.SlotId.{SlotId}
use Rattle.vd_base.specs.declared.ids.HostId.{HostId}
use Rattle.vd_base.specs.declared.protocols.Proto.{Proto}
use Rattle.vd_base.specs.HostSets.{same_host}
use Rattle.vd_base.specs.Holders.{has_clear, proto_in}
use Rattle.vd_core.specs.declared.normal.NormalForm.{NormalForm}
use Rattle.vd_core.specs.declared.normal.Right.{Right}
use Rattle.vd_core.specs.declared.normal.Right.TheVariants.{Lit, Turn, Copy, Apply, Input, Declassify, Endorse, Load, Get}
use Rattle.vd_core.specs.declared.normal.Stmt.{Stmt, map-Stmt}
use Rattle.vd_core.specs.declared.normal.Stmt.TheOpen.{Stmt-F}
use Rattle.vd_core.specs.declared.normal.Stmt.TheFolds.{fold-Stmt}
use Rattle.vd_constraints.specs.declared.labels.Labels.{Labels}
use Rattle.vd_semantics.specs.ProgramMeaning.{SlotState, Effect, word_at, array_at, stmt_effect}
use Rattle.vd_space.specs.Reading.{Read, read_step}
use Rattle.vd_noninter.specs.Reading.{start, SameInputs}
use Rattle.vd_noninter.specs.Watching.{Words, taken}
use Rattle.vd_noninter_protocols.specs.Assigned.{heard_words}
use Rattle.vd_noninter_protocols.specs.Hearing.{Heard, run_of, read_of, heard_in_order, heard_in_turns, word_if, comes, comes_alone, index_comes, is_part}
use Rattle.vd_projection.specs.Assignments.{IsValidFor}

module _ (protocols : List Proto) (h : HostId) where
  -- the host has the word in clear where the slot stands
  abbrev pub knows : SlotId → Bool
  knows x = has_clear h (proto_in protocols x.0)

  -- a word that comes is new where the host does not have it where it comes from
  abbrev pub is_new : Bool → SlotId → Bool
  is_new comes_here from = comes_here && not (knows from)

  -- the new words where a right side is bound to x
  abbrev pub right_learnt : SlotId → Right → SlotState → List ℕ
  right_learnt x (Lit n) s = []
  right_learnt x Turn s = []
  right_learnt x (Copy y) s = word_if (is_new (comes protocols h y x) y) (word_at s y)
  right_learnt x (Apply op ys) s = flat_map (λ y. word_if (is_new (comes protocols h y x) y) (word_at s y)) ys
  right_learnt x (Input k) s = []
  right_learnt x (Declassify y to) s = word_if (is_new (comes protocols h y x) y) (word_at s y)
  right_learnt x (Endorse y to) s = word_if (is_new (comes protocols h y x) y) (word_at s y)
  right_learnt x (Load v) s = word_if (is_new (comes protocols h v x) v) (word_at s v)
  right_learnt x (Get v i) s =
      word_if (is_new (index_comes protocols h v i) i) (word_at s i) ++ word_if (is_new (comes protocols h v x) v) (slice_index (array_at s v) (word_at s i))

  abbrev pub stmt_learnt : Stmt-F Heard → Words
  stmt_learnt (Stmt-F.Let x right) turn s = right_learnt x right s
  stmt_learnt (Stmt-F.NewVar v y) turn s = word_if (is_new (comes protocols h y v) y) (word_at s y)
  stmt_learnt (Stmt-F.NewArray v size) turn s = []
  stmt_learnt (Stmt-F.Store v y) turn s = word_if (is_new (comes protocols h y v) y) (word_at s y)
  stmt_learnt (Stmt-F.Put v i y) turn s = word_if (is_new (index_comes protocols h v i) i) (word_at s i) ++ word_if (is_new (comes protocols h y v) y) (word_at s y)
  stmt_learnt (Stmt-F.Output y k offset) turn s = word_if (is_new (same_host h k && comes_alone protocols h y) y) (word_at s y)
  stmt_learnt (Stmt-F.If g then_block else_block offset) turn s =
      word_if (is_new (is_part protocols h g then_block else_block && comes_alone protocols h g) g) (word_at s g)
      ++ heard_in_order (taken g then_block else_block s) turn s
  stmt_learnt (Stmt-F.For count body) turn s = heard_in_turns count body s

  abbrev pub learnt_step : Labels → Stmt-F Heard → Heard
  learnt_step l s = record {
    run = stmt_effect (map-Stmt Heard Effect run_of s);
    words = stmt_learnt s;
    read = read_step l (map-Stmt Heard Read read_of s);
  }

  abbrev pub learnt : Labels → Stmt → Heard
  learnt l = fold-Stmt Heard (learnt_step l)

-- the clear words that come to a host of the program and that are new to it, in order
abbrev pub learnt_words : NormalForm → Labels → List Proto → HostId → List (List ℕ) → List ℕ
learnt_words p l protocols h inputs = heard_in_order (map (learnt protocols h l) p.body) 0 (start p inputs)

-- inputs that agree on the host, and bring it the same new words, bring it the same clear words
abbrev pub NewWordsTell : NormalForm → Labels → List Proto → HostId → Type 0
NewWordsTell p l protocols h =
    (first second : List (List ℕ)) → SameInputs (nat_eq h.0) first second
    → learnt_words p l protocols h first ≡ learnt_words p l protocols h second
    → heard_words p l protocols h first ≡ heard_words p l protocols h second

-- so at every valid assignment
abbrev pub NewWordsTellAll : Type 0
NewWordsTellAll = (p : NormalForm) (l : Labels) (protocols : List Proto) → IsValidFor p l protocols → (h : HostId) → NewWordsTell p l protocols h
