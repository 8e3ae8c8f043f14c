-- The clear words that come to a host in a run, where each slot stands at the protocol that a list has for it.
use Rattle.std.specs.Prelude.{ℕ, zero, suc, Bool, false, ◌&&◌, ◌||◌, not, if◌then◌else◌, List, [], ◌∷◌, ◌++◌, map, filter, slice_get, slice_index}
use Rattle.std.specs.List.{list_any}
use Rattle.std.specs.Option.{option_map_or}
use Rattle.vd_base.specs.declared.ids.SlotId.{SlotId}
use Rattle.vd_base.specs.declared.ids.HostId.{HostId}
use Rattle.vd_base.specs.declared.protocols.Proto.{Proto}
use Rattle.vd_base.specs.HostSets.{same_host}
use Rattle.vd_base.specs.Holders.{has_clear, is_alone, is_holder, proto_in, same_protocol}
use Rattle.vd_core.specs.declared.normal.Right.{Right}
use Rattle.vd_core.specs.declared.normal.Right.TheVariants.{Lit, Turn, Copy, Apply, Input, Declassify, Endorse, Load, Get}
use Rattle.vd_core.specs.declared.normal.Stmt.{Stmt, map-Stmt}
use Rattle.vd_core.specs.declared.normal.Stmt.TheOpen.{Stmt-F}
use Rattle.vd_core.specs.declared.normal.Stmt.TheFolds.{fold-Stmt}
use Rattle.vd_constraints.specs.declared.labels.Labels.{Labels}
use Rattle.vd_semantics.specs.ProgramMeaning.{SlotState, Effect, word_at, array_at, in_order, stmt_effect}
use Rattle.vd_semantics.specs.Turns.{turns}
use Rattle.vd_space.specs.declared.problem.Guard.{Guard}
use Rattle.vd_space.specs.Reading.{Read, guard_of, read_step}
use Rattle.vd_noninter.specs.Watching.{Words, taken}

-- what a statement does, the words that come to the host in it, and what it names
pub record Heard : Type 0 where
  pub run : Effect
  pub words : Words
  pub read : Read

abbrev pub run_of : Heard → Effect
run_of heard = heard.run

abbrev pub read_of : Heard → Read
read_of heard = heard.read

-- the words of statements, one after another
abbrev pub heard_in_order : List Heard → Words
heard_in_order [] turn s = []
heard_in_order (one ∷ more) turn s = one.words turn s ++ heard_in_order more turn (one.run turn s)

-- the words of a loop, turn by turn
abbrev pub heard_in_turns : ℕ → List Heard → SlotState → List ℕ
heard_in_turns zero body s = []
heard_in_turns (suc n) body s = heard_in_turns n body s ++ heard_in_order body n (turns n (in_order (map run_of body)) s)

abbrev pub word_if : Bool → ℕ → List ℕ
word_if test word = if test then word ∷ [] else []

module _ (protocols : List Proto) (h : HostId) where
  -- the slot stands at a protocol that passes the test
  abbrev pub stands : (Proto → Bool) → SlotId → Bool
  stands test x = option_map_or test (slice_get protocols x.0) false

  -- moved from the one slot to the other, a word comes to the host: from another protocol, to where the host has it in clear
  abbrev pub comes : SlotId → SlotId → Bool
  comes from onto = stands (has_clear h) onto && not (same_protocol (proto_in protocols from.0) (proto_in protocols onto.0))

  -- so does a word that is moved to the host itself
  abbrev pub comes_alone : SlotId → Bool
  comes_alone from = not (stands (is_alone h) from)

  -- an index is moved to each host at which the array is kept
  abbrev pub index_comes : SlotId → SlotId → Bool
  index_comes v i = stands (λ p. is_holder p h) v && comes_alone i

  -- the words that come to the host where a right side is bound to x
  abbrev pub right_heard : SlotId → Right → SlotState → List ℕ
  right_heard x (Lit n) s = []
  right_heard x Turn s = []
  right_heard x (Copy y) s = word_if (comes y x) (word_at s y)
  right_heard x (Apply op ys) s = map (word_at s) (filter (λ y. comes y x) ys)
  right_heard x (Input k) s = []
  right_heard x (Declassify y to) s = word_if (comes y x) (word_at s y)
  right_heard x (Endorse y to) s = word_if (comes y x) (word_at s y)
  right_heard x (Load v) s = word_if (comes v x) (word_at s v)
  right_heard x (Get v i) s = word_if (index_comes v i) (word_at s i) ++ word_if (comes v x) (slice_index (array_at s v) (word_at s i))

  -- the host takes part in branches: it is told something there, or keeps a slot that they name
  abbrev pub takes_part : Guard → Bool
  takes_part guard = list_any (same_host h) guard.hosts || list_any (stands (λ p. is_holder p h)) guard.slots

  abbrev pub is_part : SlotId → List Heard → List Heard → Bool
  is_part g then_block else_block = takes_part (guard_of g 1 (map read_of then_block ++ map read_of else_block))

  abbrev pub stmt_heard : Stmt-F Heard → Words
  stmt_heard (Stmt-F.Let x right) turn s = right_heard x right s
  stmt_heard (Stmt-F.NewVar v y) turn s = word_if (comes y v) (word_at s y)
  stmt_heard (Stmt-F.NewArray v size) turn s = []
  stmt_heard (Stmt-F.Store v y) turn s = word_if (comes y v) (word_at s y)
  stmt_heard (Stmt-F.Put v i y) turn s = word_if (index_comes v i) (word_at s i) ++ word_if (comes y v) (word_at s y)
  stmt_heard (Stmt-F.Output y k offset) turn s = word_if (same_host h k && comes_alone y) (word_at s y)
  stmt_heard (Stmt-F.If g then_block else_block offset) turn s =
      word_if (is_part g then_block else_block && comes_alone g) (word_at s g) ++ heard_in_order (taken g then_block else_block s) turn s
  stmt_heard (Stmt-F.For count body) turn s = heard_in_turns count body s

  abbrev pub heard_step : Labels → Stmt-F Heard → Heard
  heard_step l s = record {
    run = stmt_effect (map-Stmt Heard Effect run_of s);
    words = stmt_heard s;
    read = read_step l (map-Stmt Heard Read read_of s);
  }

  abbrev pub heard : Labels → Stmt → Heard
  heard l = fold-Stmt Heard (heard_step l)
