-- What comes to a host in clear in the joint run: at each move to where it has a word in clear, what the register then holds
-- in which its program has the word.
use Rattle.std.specs.Prelude.{ℕ, zero, suc, ◌&&◌, ◌||◌, List, [], ◌∷◌, ◌++◌}
use Rattle.vd_base.specs.declared.ids.HostId.{HostId}
use Rattle.vd_base.specs.declared.ids.SlotId.{SlotId}
use Rattle.vd_base.specs.declared.protocols.Proto.{Proto}
use Rattle.vd_base.specs.declared.protocols.Proto.TheVariants.{Local}
use Rattle.vd_base.specs.HostSets.{same_host}
use Rattle.vd_base.specs.Holders.{proto_in}
use Rattle.vd_core.specs.declared.normal.Right.{Right}
use Rattle.vd_core.specs.declared.normal.Right.TheVariants.{Lit, Turn, Copy, Apply, Input, Declassify, Endorse, Load, Get}
use Rattle.vd_core.specs.declared.normal.Stmt.TheOpen.{Stmt-F}
use Rattle.vd_semantics.specs.Turns.{turns}
use Rattle.vd_split.specs.Block.{Block, End, Let, NewVar, NewArray, Store, Put, Output, If, For, each}
use Rattle.vd_split.specs.Joint.{Hosts, run_acts, branch, joint}
use Rattle.vd_split.specs.Suite.{picked, Made, Calls, holders_among}
use Rattle.vd_split.specs.Emission.{Emitting, Emitted, Emission, parts_at, delivered, right_made, in_turn, stmt_emission, loop_registers, after_loop_registers}
use Rattle.vd_noninter_protocols.specs.Hearing.{word_if, comes, comes_alone}

-- the words of turns, one after another
abbrev pub in_turns : ℕ → (ℕ → List ℕ) → List ℕ
in_turns zero words = []
in_turns (suc n) words = in_turns n words ++ words n

module _ (m : Hosts) {P : Type 0} (s : Calls m.Act P) (h : HostId) where
  -- after a call, what the host's register of the parts holds that it gave
  abbrev pub given_word : Made m.Act P → m.World → ℕ
  given_word made w = m.word (run_acts m made.acts w) h.0 (s.register made.given h.0)

module _ (m : Hosts) {P : Type 0} (s : Calls m.Act P) (protocols : List Proto) (h : HostId) where
  abbrev pub proto : ℕ → Proto
  proto = proto_in protocols

  abbrev pub emission_of : Block → Emission s proto
  emission_of b = in_turn s proto (each (stmt_emission s proto) b)

  -- operands that are moved to the slot, from left to right
  abbrev pub operands_told : SlotId → Emitting s proto → List SlotId → List ℕ → m.World → List ℕ
  operands_told x e [] next w = []
  operands_told x e (y ∷ ys) next w =
      let one = s.move (proto y.0) (proto x.0) (parts_at s proto e y) next in
      word_if (comes protocols h y x) (given_word m s h one w) ++ operands_told x e ys one.next (run_acts m one.acts w)

  -- a word that is moved to each of some hosts alone
  abbrev pub delivered_told : SlotId → Emitting s proto → List HostId → List ℕ → m.World → List ℕ
  delivered_told x e [] next w = []
  delivered_told x e (k ∷ ks) next w =
      let one = s.move (proto x.0) (Local k) (parts_at s proto e x) next in
      let here = same_host h k && comes_alone protocols h x in
      word_if here (given_word m s h one w) ++ delivered_told x e ks one.next (run_acts m one.acts w)

  -- a right side that is bound to x: its word is moved there last
  abbrev pub moved_told : SlotId → SlotId → Right → Emitting s proto → m.World → List ℕ
  moved_told y x right e w = word_if (comes protocols h y x) (given_word m s h (right_made s proto (proto x.0) right e) w)

  abbrev pub right_told : SlotId → Right → Emitting s proto → m.World → List ℕ
  right_told x (Lit n) e w = []
  right_told x Turn e w = []
  right_told x (Copy y) e w = moved_told y x (Copy y) e w
  right_told x (Apply o ys) e w = operands_told x e ys e.next w
  right_told x (Input k) e w = []
  right_told x (Declassify y to) e w = moved_told y x (Declassify y to) e w
  right_told x (Endorse y to) e w = moved_told y x (Endorse y to) e w
  right_told x (Load v) e w = moved_told v x (Load v) e w
  right_told x (Get v i) e w = delivered_told i e (holders_among s (proto v.0)) e.next w ++ moved_told v x (Get v i) e w

  -- a word that is moved to where the slot stands
  abbrev pub word_told : SlotId → SlotId → Emitting s proto → List ℕ → m.World → List ℕ
  word_told y x e next w =
      word_if (comes protocols h y x) (given_word m s h (s.move (proto y.0) (proto x.0) (parts_at s proto e y) next) w)

  -- the acts of a statement, and the state of the splitter after it
  abbrev pub made : Stmt-F (Emission s proto) → Emitting s proto → Emitted s proto
  made stmt e = (stmt_emission s proto stmt).emit e

  -- the words of statements that begin in this state of all hosts, each statement where the acts of those before it lead
  abbrev pub told : Block → Emitting s proto → m.World → List ℕ
  told End e w = []
  told (Let x right rest) e w =
      let one = made (Stmt-F.Let x right) e in
      right_told x right e w ++ told rest one.state (joint m one.tree w)
  told (NewVar v y rest) e w =
      let one = made (Stmt-F.NewVar v y) e in
      word_told y v e e.next w ++ told rest one.state (joint m one.tree w)
  told (NewArray v size rest) e w =
      let one = made (Stmt-F.NewArray v size) e in
      told rest one.state (joint m one.tree w)
  told (Store v y rest) e w =
      let one = made (Stmt-F.Store v y) e in
      word_told y v e e.next w ++ told rest one.state (joint m one.tree w)
  told (Put v i y rest) e w =
      let hosts = holders_among s (proto v.0) in
      let index = delivered s proto (proto i.0) (parts_at s proto e i) hosts e.next in
      let moved = word_told y v e index.next (run_acts m index.acts w) in
      let one = made (Stmt-F.Put v i y) e in
      (delivered_told i e hosts e.next w ++ moved) ++ told rest one.state (joint m one.tree w)
  told (Output y k offset rest) e w =
      let one = made (Stmt-F.Output y k offset) e in
      delivered_told y e (k ∷ []) e.next w ++ told rest one.state (joint m one.tree w)
  told (If x then_block else_block offset rest) e w =
      let then_do = emission_of then_block in
      let else_do = emission_of else_block in
      let hosts = picked 0 s.hosts (λ k. then_do.takes_part k || else_do.takes_part k) in
      let guard = delivered s proto (proto x.0) (parts_at s proto e x) hosts e.next in
      let start : Emitting s proto = record { next = guard.next; held = e.held; loop = e.loop } in
      let guarded = run_acts m guard.acts w in
      let first = told then_block start guarded in
      let other = told else_block (then_do.emit start).state guarded in
      let one = made (Stmt-F.If x (each (stmt_emission s proto) then_block) (each (stmt_emission s proto) else_block) offset) e in
      (delivered_told x e hosts e.next w ++ branch m guard.given guarded [] first other) ++ told rest one.state (joint m one.tree w)
  told (For count body rest) e w =
      let repeat = emission_of body in
      let start : Emitting s proto = record { next = after_loop_registers repeat.acts_at 0 e.next; held = e.held; loop = e.next } in
      let registers = loop_registers repeat.acts_at 0 e.next in
      let turn : ℕ → m.World → m.World = λ i v. joint m (repeat.emit start).tree (m.begun registers i v) in
      let one = made (Stmt-F.For count (each (stmt_emission s proto) body)) e in
      in_turns count (λ n. told body start (m.begun registers n (turns n turn w))) ++ told rest one.state (joint m one.tree w)
