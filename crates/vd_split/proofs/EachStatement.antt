-- What each statement is emitted as, call by call.
use Rattle.std.proofs.Common.{◌≡◌, ℕ, List, [], ◌∷◌, ◌++◌, slice_index_or}
use Rattle.vd_base.specs.declared.ids.HostId.{HostId}
use Rattle.vd_base.specs.declared.ids.SlotId.{SlotId}
use Rattle.vd_base.specs.declared.protocols.Proto.{Proto}
use Rattle.vd_base.specs.declared.protocols.Proto.TheVariants.{Local}
use Rattle.vd_base.specs.Holders.{proto_in}
use Rattle.vd_core.specs.declared.normal.Right.{Right}
use Rattle.vd_execution.specs.Gadgets.{Gadget}
use Rattle.vd_duet.specs.Builder.{Builder}
use Rattle.vd_duet.specs.Calls.{appended}
use Rattle.vd_split.specs.Suite.{Calls, holders_among}
use Rattle.vd_split.specs.Emission.{delivered, and_on, right_made}
use Rattle.vd_split.specs.Lines.{called}
use Rattle.vd_split.specs.Places.{state, right_onto, let_onto, variable_onto, array_onto, store_onto, put_onto, output_onto}
use Rattle.vd_split.proofs.Onto.{slot_onto, acts_onto, called_on, put_made_onto}

module _ {P : Type 0} (s : Calls Gadget P) (protos : List Proto) where
  abbrev pr : ℕ → Proto
  pr = proto_in protos

  abbrev parts : List P → SlotId → P
  parts held x = slice_index_or held x.0 s.nowhere

  pub let_is : (x : SlotId) (right : Right) (held : List P) (turns : List ℕ) (c : Builder) (given : P) (c1 : Builder) (held' : List P)
      → (given, c1) ≡ right_onto s protos (pr x.0) right held turns c → held' ≡ held ++ given ∷ [] → (c1, held') ≡ let_onto s protos x right held turns c
  unfolding let_onto
  let_is x right held turns c given c1 held' is is' = slot_onto s pr (right_made s pr (pr x.0) right (state s protos c held turns)) (state s protos c held turns) c (given, c1) held' is is'

  pub variable_is : (v x : SlotId) (held : List P) (c : Builder) (moved : P) (c1 : Builder) (given : P) (c2 : Builder) (held' : List P)
      → (moved, c1) ≡ called (s.move (pr x.0) (pr v.0) (parts held x) c.next) c → (given, c2) ≡ called (s.keep (pr v.0) moved c1.next) c1 → held' ≡ held ++ given ∷ []
      → (c2, held') ≡ variable_onto s protos v x held c
  unfolding variable_onto
  variable_is v x held c moved c1 given c2 held' is is' is'' =
      slot_onto s pr (and_on s pr (s.move (pr x.0) (pr v.0) (parts held x) c.next) (s.keep (pr v.0))) (state s protos c held []) c (given, c2) held'
      (called_on s pr (s.move (pr x.0) (pr v.0) (parts held x) c.next) (s.keep (pr v.0)) c (moved, c1) (given, c2) is is') is''

  pub array_is : (v : SlotId) (size : ℕ) (held : List P) (c : Builder) (given : P) (c1 : Builder) (held' : List P)
      → (given, c1) ≡ called (s.cells (pr v.0) size c.next) c → held' ≡ held ++ given ∷ [] → (c1, held') ≡ array_onto s protos v size held c
  unfolding array_onto
  array_is v size held c given c1 held' is is' = slot_onto s pr (s.cells (pr v.0) size c.next) (state s protos c held []) c (given, c1) held' is is'

  pub store_is : (v x : SlotId) (held : List P) (c : Builder) (moved : P) (c1 c2 : Builder)
      → (moved, c1) ≡ called (s.move (pr x.0) (pr v.0) (parts held x) c.next) c → c2 ≡ appended (s.renew (pr v.0) (parts held v) moved) c1
      → (c2, held) ≡ store_onto s protos v x held c
  unfolding store_onto
  store_is v x held c moved c1 c2 is is' = acts_onto s pr (s.move (pr x.0) (pr v.0) (parts held x) c.next) (s.renew (pr v.0) (parts held v)) (state s protos c held []) c (moved, c1) c2 is is'

  pub output_is : (x : SlotId) (h : HostId) (held : List P) (c : Builder) (moved : P) (c1 c2 : Builder)
      → (moved, c1) ≡ called (s.move (pr x.0) (Local h) (parts held x) c.next) c → c2 ≡ appended (s.output h moved) c1
      → (c2, held) ≡ output_onto s protos x h held c
  unfolding output_onto
  output_is x h held c moved c1 c2 is is' = acts_onto s pr (s.move (pr x.0) (Local h) (parts held x) c.next) (s.output h) (state s protos c held []) c (moved, c1) c2 is is'

  pub put_is : (v i x : SlotId) (held : List P) (c : Builder) (index : List (ℕ × ℕ)) (c1 : Builder) (moved : P) (c2 c3 : Builder)
      → (index, c1) ≡ called (delivered s pr (pr i.0) (parts held i) (holders_among s (pr v.0)) c.next) c → (moved, c2) ≡ called (s.move (pr x.0) (pr v.0) (parts held x) c1.next) c1
      → c3 ≡ appended (s.put (pr v.0) (parts held v) index moved) c2 → (c3, held) ≡ put_onto s protos v i x held c
  put_is v i x held c index c1 moved c2 c3 is is' is'' = put_made_onto s protos v i x held c (index, c1) (moved, c2) c3 is is' is''
