-- What keeps a branch from becoming a selection, and the branches that have such a thing.
use Rattle.std.specs.Prelude.{ℕ, Bool, if◌then◌else◌, List, [], ◌∷◌, map, Option, Some, None, option_map}
use Rattle.vd_base.specs.declared.ids.SlotId.{SlotId}
use Rattle.vd_core.specs.declared.normal.Right.{Right}
use Rattle.vd_core.specs.declared.normal.Right.TheVariants as right
use Rattle.vd_core.specs.declared.normal.Stmt.{Stmt}
use Rattle.vd_core.specs.declared.normal.Stmt.TheOpen.{Stmt-F}
use Rattle.vd_core.specs.declared.normal.Stmt.TheFolds.{fold-Stmt}
use Rattle.vd_diag_terminal.specs.declared.diag_branches.barriers.Barrier.{Barrier}
use Rattle.vd_diag_terminal.specs.declared.diag_branches.barriers.Barrier.TheVariants.{Loop, Array, Input, Output, Declassify, Endorse}
use Rattle.vd_diag_terminal.specs.declared.diag_branches.hidden.Branch.{Branch}

-- the first of two, or of a list, that is there
abbrev pub or_else : {A : Type 0} → Option A → Option A → Option A
or_else None other = other
or_else (Some a) other = Some a

abbrev pub first_of : {A : Type 0} → List (Option A) → Option A
first_of [] = None
first_of (o ∷ os) = or_else o (first_of os)

-- ---- what stands in the way in a statement

abbrev pub right_barrier : Right → Option Barrier
right_barrier (right.Lit n) = None
right_barrier right.Turn = Some Loop
right_barrier (right.Copy x) = None
right_barrier (right.Apply op xs) = None
right_barrier (right.Input host) = Some Input
right_barrier (right.Declassify x to) = Some Declassify
right_barrier (right.Endorse x to) = Some Endorse
right_barrier (right.Load v) = None
right_barrier (right.Get v i) = Some Array

abbrev pub barrier_step : Stmt-F (Option Barrier) → Option Barrier
barrier_step (Stmt-F.Let x right) = right_barrier right
barrier_step (Stmt-F.NewVar v x) = None
barrier_step (Stmt-F.NewArray v cells) = Some Array
barrier_step (Stmt-F.Store v x) = None
barrier_step (Stmt-F.Put v i x) = Some Array
barrier_step (Stmt-F.Output x host offset) = Some Output
barrier_step (Stmt-F.If guard a b offset) = or_else (first_of a) (first_of b)
barrier_step (Stmt-F.For count body) = Some Loop

abbrev pub barrier_of : Stmt → Option Barrier
barrier_of = fold-Stmt (Option Barrier) barrier_step

abbrev pub first_in : List Stmt → Option Barrier
first_in body = first_of (map barrier_of body)

-- ---- a branch whose guard no host may read

abbrev pub blocked : ℕ → Option Barrier → Option Branch
blocked offset o = option_map (λ barrier. record { offset = offset; barrier = barrier }) o

abbrev pub own_branch : Bool → ℕ → Option Barrier → Option Branch
own_branch hides offset o = if hides then blocked offset o else None

-- of an If with these branches
abbrev pub branch_at : Bool → List Stmt → List Stmt → ℕ → Option Branch
branch_at hides a b offset = own_branch hides offset (or_else (first_in a) (first_in b))

-- of a statement: what stands in the way in it, and the first such branch
pub record Seen : Type 0 where
  pub barrier : Option Barrier
  pub branch : Option Branch

abbrev pub barriers_seen : List Seen → Option Barrier
barriers_seen seen = first_of (map (λ (s : Seen). s.barrier) seen)

abbrev pub branches_seen : List Seen → Option Branch
branches_seen seen = first_of (map (λ (s : Seen). s.branch) seen)

abbrev pub seen_step : (SlotId → Bool) → Stmt-F Seen → Seen
seen_step hides (Stmt-F.Let x right) = record { barrier = right_barrier right; branch = None }
seen_step hides (Stmt-F.NewVar v x) = record { barrier = None; branch = None }
seen_step hides (Stmt-F.NewArray v cells) = record { barrier = Some Array; branch = None }
seen_step hides (Stmt-F.Store v x) = record { barrier = None; branch = None }
seen_step hides (Stmt-F.Put v i x) = record { barrier = Some Array; branch = None }
seen_step hides (Stmt-F.Output x host offset) = record { barrier = Some Output; branch = None }
seen_step hides (Stmt-F.If guard a b offset) =
    let barrier = or_else (barriers_seen a) (barriers_seen b) in
    record { barrier = barrier; branch = or_else (own_branch (hides guard) offset barrier) (or_else (branches_seen a) (branches_seen b)) }
seen_step hides (Stmt-F.For count body) = record { barrier = Some Loop; branch = branches_seen body }

abbrev pub seen : (SlotId → Bool) → Stmt → Seen
seen hides = fold-Stmt Seen (seen_step hides)

abbrev pub branch_of : (SlotId → Bool) → Stmt → Option Branch
branch_of hides s = (seen hides s).branch

abbrev pub first_branch : (SlotId → Bool) → List Stmt → Option Branch
first_branch hides body = first_of (map (branch_of hides) body)
