-- Runs of a whole program in which hosts depart from their programs: what they send may be any words.
use Rattle.std.specs.Prelude.{◌≡◌, ℕ, zero, suc, ◌^◌, ◌<◌, nat_eq, Bool, true, ◌||◌, List, [], ◌∷◌, ◌++◌, ◌⊎◌}
use Rattle.vd_base.specs.declared.ids.SlotId.{SlotId}
use Rattle.vd_base.specs.declared.protocols.Proto.{Proto}
use Rattle.vd_base.specs.declared.protocols.Proto.TheVariants.{Local}
use Rattle.vd_execution.specs.Gadgets.{Gadget}
use Rattle.vd_execution.specs.Joint.{Hosts, Part}
use Rattle.vd_execution.specs.World.{Tape}
use Rattle.vd_duet.specs.Calls.{Places}
use Rattle.vd_split.specs.Block.{Block, End, Let, NewVar, NewArray, Store, Put, Output, If, For, each}
use Rattle.vd_split.specs.Joint.{choice}
use Rattle.vd_split.specs.Suite.{picked, holders_among}
use Rattle.vd_split.specs.Emission.{Emitting, Emission, parts_at, delivered, and_on, right_made, with_parts, in_turn, stmt_emission, store_made, put_made, output_made, if_made, for_made, loop_registers, after_loop_registers}
use Rattle.vd_backend_laws.specs.Machine.{given_turn}
use Rattle.vd_backend_laws.specs.Parts.{Parts, suite_calls}
use Rattle.vd_integrity_runs.specs.Departing.{AreRight, RunsGadgets}
use Rattle.vd_integrity_runs.specs.Endorsed.{is_given}

-- the hosts that keep to their programs, and that take part in a branch, go this way: the other one where the guard is 0
abbrev pub GoThisWay : (ℕ → Bool) → Bool → List Part → Hosts → Type 0
GoThisWay keeps other [] w = Unit {0}
GoThisWay keeps other (q ∷ parts) w = (keeps q.0 ≡ true → nat_eq ((w q.0).registers q.1) 0 ≡ other) × GoThisWay keeps other parts w

-- these registers get the number of the turn
abbrev pub turn_begun : List Part → ℕ → Hosts → Hosts
turn_begun parts turn w h = record (w h) { registers = given_turn parts turn h (w h).registers }

-- a loop leads from the one state to the other, turn by turn
abbrev pub RunsTurns : ℕ → (ℕ → Hosts → Hosts → Type 0) → Hosts → Hosts → Type 0
RunsTurns zero body w w' = w' ≡ w
RunsTurns (suc n) body w w' = (u : Hosts) × (RunsTurns n body w u × body n u w')

-- One word came to all hosts that keep to their programs.
pub record IsOneWord (keeps : ℕ → Bool) (given : Places) (w : Hosts) : Type 0 where
  pub word : ℕ
  pub small : word < 2 ^ 32
  pub same : AreRight keeps w given word

-- Of so many hosts these keep to their programs, and each slot stands at its protocol. Endorsements that pass the test bring one word
-- to all that keep; and those that keep go the same way at each branch.
module _ (hosts : ℕ) (proto : ℕ → Proto) (keeps : ℕ → Bool) (t : Tape) (test : ℕ → ℕ → Bool) where
  abbrev pub E : Type 0
  E = Emitting (suite_calls hosts) proto

  abbrev pub emission_of : Block → Emission (suite_calls hosts) proto
  emission_of b = in_turn (suite_calls hosts) proto (each (stmt_emission (suite_calls hosts) proto) b)

  abbrev pub held_of : E → SlotId → Parts
  held_of e x = parts_at (suite_calls hosts) proto e x

  abbrev pub Acts : List Gadget → Hosts → Hosts → Type 0
  Acts acts w w' = RunsGadgets keeps t acts w w'

  -- the statements lead from the one state of all hosts to the other
  abbrev pub RunsBlock : Block → E → Hosts → Hosts → Type 0
  RunsBlock End e w w' = w' ≡ w
  RunsBlock (Let x right rest) e w w' =
      let made = right_made (suite_calls hosts) proto (proto x.0) right e in
      (u : Hosts) × (Acts made.acts w u × ((is_given test x right ≡ true → IsOneWord keeps made.given.at u) × RunsBlock rest (with_parts (suite_calls hosts) proto made e).state u w'))
  RunsBlock (NewVar v y rest) e w w' =
      let made = and_on (suite_calls hosts) proto ((suite_calls hosts).move (proto y.0) (proto v.0) (held_of e y) e.next) ((suite_calls hosts).keep (proto v.0)) in
      (u : Hosts) × (Acts made.acts w u × RunsBlock rest (with_parts (suite_calls hosts) proto made e).state u w')
  RunsBlock (NewArray v size rest) e w w' =
      let made = (suite_calls hosts).cells (proto v.0) size e.next in
      (u : Hosts) × (Acts made.acts w u × RunsBlock rest (with_parts (suite_calls hosts) proto made e).state u w')
  RunsBlock (Store v y rest) e w w' =
      let moved = (suite_calls hosts).move (proto y.0) (proto v.0) (held_of e y) e.next in
      (u : Hosts) × (Acts (moved.acts ++ (suite_calls hosts).renew (proto v.0) (held_of e v) moved.given) w u × RunsBlock rest (store_made (suite_calls hosts) proto v y e).state u w')
  RunsBlock (Put v i y rest) e w w' =
      let index = delivered (suite_calls hosts) proto (proto i.0) (held_of e i) (holders_among (suite_calls hosts) (proto v.0)) e.next in
      let moved = (suite_calls hosts).move (proto y.0) (proto v.0) (held_of e y) index.next in
      (u : Hosts) × (Acts ((index.acts ++ moved.acts) ++ (suite_calls hosts).put (proto v.0) (held_of e v) index.given moved.given) w u × RunsBlock rest (put_made (suite_calls hosts) proto v i y e).state u w')
  RunsBlock (Output y k offset rest) e w w' =
      let moved = (suite_calls hosts).move (proto y.0) (Local k) (held_of e y) e.next in
      (u : Hosts) × (Acts (moved.acts ++ (suite_calls hosts).output k moved.given) w u × RunsBlock rest (output_made (suite_calls hosts) proto y k e).state u w')
  RunsBlock (If x then_block else_block offset rest) e w w' =
      let then_do = emission_of then_block in
      let else_do = emission_of else_block in
      let guard = delivered (suite_calls hosts) proto (proto x.0) (held_of e x) (picked 0 hosts (λ k. then_do.takes_part k || else_do.takes_part k)) e.next in
      let start : E = record { next = guard.next; held = e.held; loop = e.loop } in
      (u : Hosts) × (Acts guard.acts w u × ((other : Bool) × (GoThisWay keeps other guard.given u
      × ((v : Hosts) × (choice other (RunsBlock else_block (then_do.emit start).state u v) (RunsBlock then_block start u v) × RunsBlock rest (if_made (suite_calls hosts) proto x then_do else_do e).state v w')))))
  RunsBlock (For count body rest) e w w' =
      let repeat = emission_of body in
      let start : E = record { next = after_loop_registers repeat.acts_at 0 e.next; held = e.held; loop = e.next } in
      let registers = loop_registers repeat.acts_at 0 e.next in
      (v : Hosts) × (RunsTurns count (λ i u u'. RunsBlock body start (turn_begun registers i u) u') w v × RunsBlock rest (for_made (suite_calls hosts) proto count repeat e).state v w')

  -- They lead from the one state to the other, and maybe stop there before one of them.
  abbrev pub RunsInto : Block → E → Hosts → Hosts → Type 0
  RunsInto End e w w' = w' ≡ w
  RunsInto (Let x right rest) e w w' =
      let made = right_made (suite_calls hosts) proto (proto x.0) right e in
      (w' ≡ w) ⊎ ((u : Hosts) × (Acts made.acts w u × ((is_given test x right ≡ true → IsOneWord keeps made.given.at u) × RunsInto rest (with_parts (suite_calls hosts) proto made e).state u w')))
  RunsInto (NewVar v y rest) e w w' =
      let made = and_on (suite_calls hosts) proto ((suite_calls hosts).move (proto y.0) (proto v.0) (held_of e y) e.next) ((suite_calls hosts).keep (proto v.0)) in
      (w' ≡ w) ⊎ ((u : Hosts) × (Acts made.acts w u × RunsInto rest (with_parts (suite_calls hosts) proto made e).state u w'))
  RunsInto (NewArray v size rest) e w w' =
      let made = (suite_calls hosts).cells (proto v.0) size e.next in
      (w' ≡ w) ⊎ ((u : Hosts) × (Acts made.acts w u × RunsInto rest (with_parts (suite_calls hosts) proto made e).state u w'))
  RunsInto (Store v y rest) e w w' =
      let moved = (suite_calls hosts).move (proto y.0) (proto v.0) (held_of e y) e.next in
      (w' ≡ w) ⊎ ((u : Hosts) × (Acts (moved.acts ++ (suite_calls hosts).renew (proto v.0) (held_of e v) moved.given) w u × RunsInto rest (store_made (suite_calls hosts) proto v y e).state u w'))
  RunsInto (Put v i y rest) e w w' =
      let index = delivered (suite_calls hosts) proto (proto i.0) (held_of e i) (holders_among (suite_calls hosts) (proto v.0)) e.next in
      let moved = (suite_calls hosts).move (proto y.0) (proto v.0) (held_of e y) index.next in
      (w' ≡ w)
      ⊎ ((u : Hosts) × (Acts ((index.acts ++ moved.acts) ++ (suite_calls hosts).put (proto v.0) (held_of e v) index.given moved.given) w u × RunsInto rest (put_made (suite_calls hosts) proto v i y e).state u w'))
  RunsInto (Output y k offset rest) e w w' =
      let moved = (suite_calls hosts).move (proto y.0) (Local k) (held_of e y) e.next in
      (w' ≡ w) ⊎ ((u : Hosts) × (Acts (moved.acts ++ (suite_calls hosts).output k moved.given) w u × RunsInto rest (output_made (suite_calls hosts) proto y k e).state u w'))
  RunsInto (If x then_block else_block offset rest) e w w' =
      let then_do = emission_of then_block in
      let else_do = emission_of else_block in
      let guard = delivered (suite_calls hosts) proto (proto x.0) (held_of e x) (picked 0 hosts (λ k. then_do.takes_part k || else_do.takes_part k)) e.next in
      let start : E = record { next = guard.next; held = e.held; loop = e.loop } in
      (w' ≡ w)
      ⊎ ((u : Hosts) × (Acts guard.acts w u × ((other : Bool) × (GoThisWay keeps other guard.given u
      × (choice other (RunsInto else_block (then_do.emit start).state u w') (RunsInto then_block start u w')
      ⊎ ((v : Hosts) × (choice other (RunsBlock else_block (then_do.emit start).state u v) (RunsBlock then_block start u v) × RunsInto rest (if_made (suite_calls hosts) proto x then_do else_do e).state v w')))))))
  RunsInto (For count body rest) e w w' =
      let repeat = emission_of body in
      let start : E = record { next = after_loop_registers repeat.acts_at 0 e.next; held = e.held; loop = e.next } in
      let registers = loop_registers repeat.acts_at 0 e.next in
      ((i : ℕ) × ((i < count) × ((u : Hosts) × (RunsTurns i (λ j v v'. RunsBlock body start (turn_begun registers j v) v') w u × RunsInto body start (turn_begun registers i u) w'))))
      ⊎ ((w' ≡ w) ⊎ ((v : Hosts) × (RunsTurns count (λ i u u'. RunsBlock body start (turn_begun registers i u) u') w v × RunsInto rest (for_made (suite_calls hosts) proto count repeat e).state v w')))
