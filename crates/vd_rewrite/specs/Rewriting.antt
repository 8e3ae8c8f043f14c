-- A program in which hidden Ifs are replaced by selections, and its slots and blocks numbered anew in program order.
use Rattle.std.specs.Prelude.{ℕ, ◌+◌, nat_le, if◌then◌else◌, Bool, true, false, ◌&&◌, ◌||◌, List, [], ◌∷◌, ◌++◌, map, None, slice_index, slice_index_or}
use Rattle.std.specs.List.{list_all, list_any}
use Rattle.vd_base.specs.declared.ids.SlotId.{SlotId}
use Rattle.vd_base.specs.declared.operations.Kind.{Kind}
use Rattle.vd_base.specs.declared.operations.Kind.TheVariants.{Word}
use Rattle.vd_base.specs.declared.operations.Op.TheVariants.{Mux}
use Rattle.vd_base.specs.Limits.{most_statements, most_weights}
use Rattle.vd_core.specs.declared.normal.Right.{Right}
use Rattle.vd_core.specs.declared.normal.Right.TheVariants.{Lit, Turn, Copy, Apply, Input, Declassify, Endorse, Load, Get}
use Rattle.vd_core.specs.declared.normal.Slot.{Slot}
use Rattle.vd_core.specs.declared.normal.NormalForm.{NormalForm}
use Rattle.vd_core.specs.declared.normal.Stmt.{Stmt}
use Rattle.vd_core.specs.declared.normal.Stmt as stmt
use Rattle.vd_core.specs.declared.normal.Stmt.TheOpen.{Stmt-F}
use Rattle.vd_core.specs.declared.normal.Stmt.TheFolds.{fold-Stmt}
use Rattle.vd_core.specs.Facts.{statement_count, weight_sum}
use Rattle.vd_rewrite.specs.declared.guard.Guard.{Guard}

abbrev pub slot : ℕ → SlotId
slot k = record { 0 = k }

-- the slots that are marked
abbrev pub marked : List Bool → SlotId → Bool
marked marks x = slice_index_or marks x.0 false

-- What is made so far: the number of the next slot, the slots, the new number of each old slot, the number of the next
-- block, and the statements of this list.
pub record Made : Type 0 where
  pub next : ℕ
  pub slots : List Slot
  pub table : List ℕ
  pub blocks : ℕ
  pub body : List Stmt

abbrev pub made_at_start : Made
made_at_start = record { next = 0; slots = []; table = []; blocks = 1; body = [] }

abbrev pub unnamed : Slot
unnamed = record { name = 95 ∷ []; kind = Word; label = None; offset = 0; block = 0 }

abbrev pub entry_of : List Slot → SlotId → Slot
entry_of old x = slice_index_or old x.0 unnamed

abbrev pub in_block : ℕ → Slot → Slot
in_block block s = record { name = s.name; kind = s.kind; label = s.label; offset = s.offset; block = block }

abbrev pub fresh : Kind → ℕ → ℕ → Slot
fresh kind offset block = record { name = 95 ∷ []; kind = kind; label = None; offset = offset; block = block }

-- an old slot's new number
abbrev pub moved : List ℕ → SlotId → SlotId
moved table x = slot (slice_index table x.0)

abbrev pub moved_right : List ℕ → Right → Right
moved_right table (Lit n) = Lit n
moved_right table Turn = Turn
moved_right table (Copy x) = Copy (moved table x)
moved_right table (Apply op xs) = Apply op (map (moved table) xs)
moved_right table (Input host) = Input host
moved_right table (Declassify x to) = Declassify (moved table x) to
moved_right table (Endorse x to) = Endorse (moved table x) to
moved_right table (Load v) = Load (moved table v)
moved_right table (Get v i) = Get (moved table v) (moved table i)

-- a statement that makes no slot
abbrev pub with_stmt : Stmt → Made → Made
with_stmt s m = record { next = m.next; slots = m.slots; table = m.table; blocks = m.blocks; body = m.body ++ s ∷ [] }

-- a statement that makes a slot of the old program
abbrev pub with_kept : Slot → Stmt → Made → Made
with_kept entry s m = record { next = m.next + 1; slots = m.slots ++ entry ∷ []; table = m.table ++ m.next ∷ []; blocks = m.blocks; body = m.body ++ s ∷ [] }

-- a statement that makes a new slot
abbrev pub with_new : Slot → Stmt → Made → Made
with_new entry s m = record { next = m.next + 1; slots = m.slots ++ entry ∷ []; table = m.table; blocks = m.blocks; body = m.body ++ s ∷ [] }

-- a new slot
abbrev pub with_fresh : Slot → Right → Made → Made
with_fresh entry right m = record { next = m.next + 1; slots = m.slots ++ entry ∷ []; table = m.table; blocks = m.blocks; body = m.body ++ stmt.Let (slot m.next) right ∷ [] }

-- the new word of a variable where the branch is taken, the old one elsewhere
abbrev pub selection : Bool → SlotId → SlotId → SlotId → Right
selection first guard new old = Apply Mux (guard ∷ (if first then new else old) ∷ (if first then old else new) ∷ [])

-- the word that a variable gets under guards, the outermost first: the new one where all branches are taken, else its old one
abbrev pub selected : Kind → ℕ → SlotId → List Guard → SlotId → Made → SlotId × Made
selected kind block v [] y m = (y, m)
selected kind block v (g ∷ gs) y m =
    let p = selected kind block v gs y m in
    let loaded = with_fresh (fresh kind g.offset block) (Load v) p.1 in
    (slot loaded.next, with_fresh (fresh kind g.offset block) (selection g.first g.slot p.0 (slot p.1.next)) loaded)

abbrev pub stored : Kind → ℕ → SlotId → List Guard → SlotId → Made → Made
stored kind block v gs y m = let p = selected kind block v gs y m in with_stmt (stmt.Store v p.0) p.1

-- right sides that need no host's act and take no input
abbrev pub is_pure_right : Right → Bool
is_pure_right (Lit n) = true
is_pure_right Turn = false
is_pure_right (Copy x) = true
is_pure_right (Apply op xs) = true
is_pure_right (Input host) = false
is_pure_right (Declassify x to) = false
is_pure_right (Endorse x to) = false
is_pure_right (Load v) = true
is_pure_right (Get v i) = false

-- whether a statement is pure, whether it holds a hidden If, and what is made of it under guards in a block
pub record Rewriting : Type 0 where
  pub is_pure : Bool
  pub is_changed : Bool
  pub run : List Guard → ℕ → Made → Made

abbrev pub all_pure : List Rewriting → Bool
all_pure rs = list_all (λ (r : Rewriting). r.is_pure) rs

abbrev pub some_changed : List Rewriting → Bool
some_changed rs = list_any (λ (r : Rewriting). r.is_changed) rs

abbrev pub is_some : {A : Type 0} → List A → Bool
is_some [] = false
is_some (x ∷ xs) = true

abbrev pub run_all : List Rewriting → List Guard → ℕ → Made → Made
run_all [] gs block m = m
run_all (r ∷ rs) gs block m = run_all rs gs block (r.run gs block m)

abbrev pub guard_of : Bool → SlotId → ℕ → Guard
guard_of first guard offset = record { first = first; slot = guard; offset = offset }

-- both branches one after the other, whatever the guard is
abbrev pub both_run : SlotId → List Rewriting → List Rewriting → ℕ → List Guard → ℕ → Made → Made
both_run guard a b offset gs block m =
    run_all b (gs ++ guard_of false guard offset ∷ []) block (run_all a (gs ++ guard_of true guard offset ∷ []) block m)

abbrev pub emptied : Made → Made
emptied m = record { next = m.next; slots = m.slots; table = m.table; blocks = m.blocks; body = [] }

abbrev pub block_more : Made → Made
block_more m = record { next = m.next; slots = m.slots; table = m.table; blocks = m.blocks + 1; body = [] }

-- statements of an inner block end, and one that holds them comes behind those before it
abbrev pub closed : Made → Stmt → Made → Made
closed m s inner = record { next = inner.next; slots = inner.slots; table = inner.table; blocks = inner.blocks; body = m.body ++ s ∷ [] }

abbrev pub kept_if : SlotId → List Rewriting → List Rewriting → ℕ → Made → Made
kept_if guard a b offset m =
    let p = run_all a [] m.blocks (block_more m) in
    let q = run_all b [] m.blocks (emptied p) in
    closed m (stmt.If guard p.body q.body offset) q

abbrev pub kept_for : ℕ → List Rewriting → ℕ → Made → Made
kept_for count body block m =
    let p = run_all body [] block (emptied m) in
    closed m (stmt.For count p.body) p

-- an If whose guard no host may read, with a statement to hide
abbrev pub is_hidden : (SlotId → Bool) → SlotId → List Rewriting → List Rewriting → Bool
is_hidden hides guard a b = hides guard && (all_pure a && all_pure b) && (is_some a || is_some b)

-- what is made of a Let, in a block
abbrev pub Lets : Type 0
Lets = SlotId → Right → ℕ → Made → Made

abbrev pub kept_let : List Slot → Lets
kept_let old x right block m = with_kept (in_block block (entry_of old x)) (stmt.Let (slot m.next) (moved_right m.table right)) m

abbrev pub kept_variable : List Slot → SlotId → SlotId → ℕ → Made → Made
kept_variable old v x block m = with_kept (in_block block (entry_of old v)) (stmt.NewVar (slot m.next) (moved m.table x)) m

abbrev pub kept_array : List Slot → SlotId → ℕ → ℕ → Made → Made
kept_array old v cells block m = with_kept (in_block block (entry_of old v)) (stmt.NewArray (slot m.next) cells) m

abbrev pub rewriting_step : (SlotId → Bool) → Lets → List Slot → Stmt-F Rewriting → Rewriting
rewriting_step hides lets old (Stmt-F.Let x right) =
    record { is_pure = is_pure_right right; is_changed = false; run = λ gs block m. lets x right block m }
rewriting_step hides lets old (Stmt-F.NewVar v x) =
    record { is_pure = true; is_changed = false; run = λ gs block m. kept_variable old v x block m }
rewriting_step hides lets old (Stmt-F.NewArray v cells) =
    record { is_pure = false; is_changed = false; run = λ gs block m. kept_array old v cells block m }
rewriting_step hides lets old (Stmt-F.Store v x) =
    record { is_pure = true; is_changed = false; run = λ gs block m. stored (entry_of old v).kind block (moved m.table v) gs (moved m.table x) m }
rewriting_step hides lets old (Stmt-F.Put v i x) =
    record { is_pure = false; is_changed = false; run = λ gs block m. with_stmt (stmt.Put (moved m.table v) (moved m.table i) (moved m.table x)) m }
rewriting_step hides lets old (Stmt-F.Output x host offset) =
    record { is_pure = false; is_changed = false; run = λ gs block m. with_stmt (stmt.Output (moved m.table x) host offset) m }
rewriting_step hides lets old (Stmt-F.If guard a b offset) =
    record {
      is_pure = all_pure a && all_pure b;
      is_changed = is_hidden hides guard a b || some_changed a || some_changed b;
      run = λ gs block m. if is_some gs || is_hidden hides guard a b then both_run (moved m.table guard) a b offset gs block m else kept_if (moved m.table guard) a b offset m;
    }
rewriting_step hides lets old (Stmt-F.For count body) =
    record { is_pure = false; is_changed = some_changed body; run = λ gs block m. kept_for count body block m }

abbrev pub rewriting : (SlotId → Bool) → Lets → List Slot → Stmt → Rewriting
rewriting hides lets old = fold-Stmt Rewriting (rewriting_step hides lets old)

abbrev pub rewritings : (SlotId → Bool) → Lets → List Slot → List Stmt → List Rewriting
rewritings hides lets old body = map (rewriting hides lets old) body

abbrev pub all_made : (SlotId → Bool) → Lets → NormalForm → Made
all_made hides lets program = run_all (rewritings hides lets program.slots program.body) [] 0 made_at_start

abbrev pub with_made : NormalForm → Made → NormalForm
with_made program m = record { principals = program.principals; hosts = program.hosts; labels = program.labels; slots = m.slots; body = m.body }

abbrev pub rewritten : (SlotId → Bool) → Lets → NormalForm → NormalForm
rewritten hides lets program = with_made program (all_made hides lets program)

abbrev pub is_within : NormalForm → Bool
is_within program = nat_le (statement_count program.body) most_statements && nat_le (weight_sum program.body) most_weights
