-- The ranges of host code: registers, packets, peers and open blocks.
use Rattle.std.specs.Prelude.{ℕ, zero, suc, ◌+◌, ◌<◌, ◌≤◌, List, length, All, max}
use Rattle.vd_base.specs.Limits.{most_registers, most_packet_words, most_open_blocks}
use Rattle.vd_execution.specs.declared.instructions.Reg.{Reg}
use Rattle.vd_execution.specs.declared.instructions.Action.{Action}
use Rattle.vd_execution.specs.declared.instructions.Action.TheVariants as action
use Rattle.vd_execution.specs.Code.{Code, Finished, Then, Send, Recv, Choose, Repeat}

-- each register of an action is below n
abbrev pub ActionFits : ℕ → Action → Type 0
ActionFits n (action.Const r k) = r.0 < n
ActionFits n (action.Copy r x) = (r.0 < n) × (x.0 < n)
ActionFits n (action.Apply o r x y) = (r.0 < n) × (x.0 < n) × (y.0 < n)
ActionFits n (action.Shl r x k) = (r.0 < n) × (x.0 < n)
ActionFits n (action.Shr r x k) = (r.0 < n) × (x.0 < n)
ActionFits n (action.Mux r c x y) = (r.0 < n) × (c.0 < n) × (x.0 < n) × (y.0 < n)
ActionFits n (action.Own r) = r.0 < n
ActionFits n (action.Triple p a b c) = (a.0 < n) × (b.0 < n) × (c.0 < n)
ActionFits n (action.Bits p a b c) = (a.0 < n) × (b.0 < n) × (c.0 < n)
ActionFits n (action.Pair p s x) = (s.0 < n) × (x.0 < n)
ActionFits n (action.Input r) = r.0 < n
ActionFits n (action.Print r) = r.0 < n
ActionFits n (action.Hash d m v) = (d.0 + 8 ≤ n) × (m.0 + 8 ≤ n) × (v.0 < n)
ActionFits n (action.Same x y) = (x.0 < n) × (y.0 < n)
ActionFits n (action.Zero r count) = r.0 + count ≤ n
ActionFits n (action.Get r x count i) = (r.0 < n) × (x.0 + count ≤ n) × (i.0 < n)
ActionFits n (action.Put x count i s) = (x.0 + count ≤ n) × (i.0 < n) × (s.0 < n)

-- the registers of a code are below n
abbrev pub CodeFits : ℕ → Code → Type 0
CodeFits n Finished = Unit {0}
CodeFits n (Then a c) = ActionFits n a × CodeFits n c
CodeFits n (Send p rs c) = All (λ r. r.0 < n) rs × CodeFits n c
CodeFits n (Recv p rs c) = All (λ r. r.0 < n) rs × CodeFits n c
CodeFits n (Choose g first other c) = (g < n) × (CodeFits n first × (CodeFits n other × CodeFits n c))
CodeFits n (Repeat r turn count body c) = (r < n) × (CodeFits n body × CodeFits n c)

-- a packet goes to or comes from one of so many hosts, and is not too long
abbrev pub IsPacketRange : ℕ → ℕ → List Reg → Type 0
IsPacketRange hosts peer rs = (peer < hosts) × (length rs ≤ most_packet_words)

abbrev pub PacketsFit : ℕ → Code → Type 0
PacketsFit hosts Finished = Unit {0}
PacketsFit hosts (Then a c) = PacketsFit hosts c
PacketsFit hosts (Send p rs c) = IsPacketRange hosts p rs × PacketsFit hosts c
PacketsFit hosts (Recv p rs c) = IsPacketRange hosts p rs × PacketsFit hosts c
PacketsFit hosts (Choose g first other c) = PacketsFit hosts first × (PacketsFit hosts other × PacketsFit hosts c)
PacketsFit hosts (Repeat r turn count body c) = PacketsFit hosts body × PacketsFit hosts c

-- how many blocks of a code are open at once, at most
abbrev pub depth : Code → ℕ
depth Finished = 0
depth (Then a c) = depth c
depth (Send p rs c) = depth c
depth (Recv p rs c) = depth c
depth (Choose g first other c) = max (suc (max (depth first) (depth other))) (depth c)
depth (Repeat r turn count body c) = max (suc (depth body)) (depth c)

-- the code of one of so many hosts can be loaded
pub record IsInRange (hosts : ℕ) (c : Code) : Type 0 where
  pub registers : CodeFits most_registers c
  pub packets : PacketsFit hosts c
  pub blocks : depth c ≤ most_open_blocks
