-- A plan of gadgets as lines, one after the other.
use Rattle.std.specs.Prelude.{◌≡◌, ℕ, List, [], ◌++◌, map}
use Rattle.vd_base.specs.declared.protocols.Proto.{Proto}
use Rattle.vd_base.specs.HostSets.{host}
use Rattle.vd_execution.specs.declared.instructions.Line.{Line}
use Rattle.vd_execution.specs.declared.instructions.Line.TheVariants as line
use Rattle.vd_execution.specs.Acts.{lines_of}
use Rattle.vd_execution.specs.Gadgets.{Gadget, acts_of_gadget}
use Rattle.vd_execution.specs.Plans.{Plan, Ends, Then, Branch, Loop}
use Rattle.vd_execution.specs.Text.{register}
use Rattle.vd_duet.specs.Builder.{Builder}
use Rattle.vd_duet.specs.Calls.{emitted}
use Rattle.vd_split.specs.Suite.{Made, Calls}
use Rattle.vd_split.specs.Emission.{Emitted}

-- a line of each host that takes part
abbrev pub if_lines : List (ℕ × ℕ) → List Line
if_lines ps = map (λ p. line.If (host p.0) (register p.1)) ps

abbrev pub else_lines : List (ℕ × ℕ) → List Line
else_lines ps = map (λ p. line.Else (host p.0)) ps

abbrev pub end_lines : List (ℕ × ℕ) → List Line
end_lines ps = map (λ p. line.End (host p.0)) ps

abbrev pub for_lines : ℕ → List (ℕ × ℕ) → List Line
for_lines count ps = map (λ p. line.For (host p.0) (register p.1) count) ps

abbrev pub plan_lines : Plan Gadget → List Line
plan_lines Ends = []
plan_lines (Then g rest) = lines_of (acts_of_gadget g) ++ plan_lines rest
plan_lines (Branch ps first other rest) =
    if_lines ps ++ plan_lines first ++ else_lines ps ++ plan_lines other ++ end_lines ps ++ plan_lines rest
plan_lines (Loop ps count body rest) = for_lines count ps ++ plan_lines body ++ end_lines ps ++ plan_lines rest

-- what a call makes, after what was there
abbrev pub called : {X : Type 0} → Made Gadget X → Builder → X × Builder
called made b = (made.given, record { lines = b.lines ++ emitted made.acts; next = made.next })

-- the code goes on with a call, which gives this
abbrev pub Makes : {X : Type 0} → (List ℕ → Made Gadget X) → Builder → X → Builder → Type 0
Makes call b given b' = (given, b') ≡ called (call b.next) b

-- lines behind others
abbrev pub with_more : List Line → Builder → Builder
with_more lines b = record { lines = b.lines ++ lines; next = b.next }

module _ {P : Type 0} (s : Calls Gadget P) (proto : ℕ → Proto) where
  -- what was emitted, after what was there
  abbrev pub emitted_onto : Emitted s proto → Builder → Builder × List P
  emitted_onto made b = (record { lines = b.lines ++ plan_lines made.tree; next = made.state.next }, made.state.held)
