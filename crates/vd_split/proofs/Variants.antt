-- What each variant of a statement is emitted as.
use Rattle.std.proofs.Common.{◌≡◌, ℕ, Bool, List, map, slice_index_or, sym, ap, ◌∙◌, rules}
use Rattle.vd_base.specs.declared.ids.HostId.{HostId}
use Rattle.vd_base.specs.declared.ids.SlotId.{SlotId}
use Rattle.vd_base.specs.declared.protocols.Proto.{Proto}
use Rattle.vd_base.specs.Holders.{proto_in}
use Rattle.vd_core.specs.declared.normal.Right.{Right}
use Rattle.vd_core.specs.declared.normal.Stmt.{Stmt, Let, NewVar, Store, NewArray, Put, Output, If, For}
use Rattle.vd_core.specs.declared.normal.Stmt.TheFolds.{the_lemmas}
use Rattle.vd_core.specs.declared.normal.Stmt.TheOpen.{Stmt-F}
use Rattle.vd_execution.specs.Gadgets.{Gadget}
use Rattle.vd_duet.specs.Builder.{Builder}
use Rattle.vd_split.specs.Suite.{Calls, picked}
use Rattle.vd_split.specs.Emission.{Emission, delivered, emission, stmt_emission}
use Rattle.vd_split.specs.Lines.{called, with_more, emitted_onto, if_lines, else_lines, end_lines}
use Rattle.vd_split.specs.Places.{state, let_onto, variable_onto, array_onto, store_onto, put_onto, output_onto, stmt_onto, block_onto, branch_onto, loop_onto, guarded, takers, acting, branch_acts, opened_loop}
use Rattle.vd_split.proofs.Onto.{branch_is, loop_is}

module _ {P : Type 0} (s : Calls Gadget P) (protos : List Proto) where
  abbrev pr : ℕ → Proto
  pr = proto_in protos

  abbrev onto : Emission s pr → List P → List ℕ → Builder → Builder × List P
  onto f held turns c = emitted_onto s pr (f.emit (state s protos c held turns)) c

  pub let_e : (x : SlotId) (r : Right) → emission s pr (Let x r) ≡ stmt_emission s pr (Stmt-F.Let x r)
  let_e x r = search (rules, the_lemmas)

  pub variable_e : (v x : SlotId) → emission s pr (NewVar v x) ≡ stmt_emission s pr (Stmt-F.NewVar v x)
  variable_e v x = search (rules, the_lemmas)

  pub array_e : (v : SlotId) (n : ℕ) → emission s pr (NewArray v n) ≡ stmt_emission s pr (Stmt-F.NewArray v n)
  array_e v n = search (rules, the_lemmas)

  pub store_e : (v x : SlotId) → emission s pr (Store v x) ≡ stmt_emission s pr (Stmt-F.Store v x)
  store_e v x = search (rules, the_lemmas)

  pub put_e : (v i x : SlotId) → emission s pr (Put v i x) ≡ stmt_emission s pr (Stmt-F.Put v i x)
  put_e v i x = search (rules, the_lemmas)

  pub output_e : (x : SlotId) (h : HostId) (o : ℕ) → emission s pr (Output x h o) ≡ stmt_emission s pr (Stmt-F.Output x h o)
  output_e x h o = search (rules, the_lemmas)

  if_e : (x : SlotId) (a b : List Stmt) (o : ℕ) → emission s pr (If x a b o) ≡ stmt_emission s pr (Stmt-F.If x (map (emission s pr) a) (map (emission s pr) b) o)
  if_e x a b o = search (rules, the_lemmas)

  pub for_e : (n : ℕ) (body : List Stmt) → emission s pr (For n body) ≡ stmt_emission s pr (Stmt-F.For n (map (emission s pr) body))
  for_e n body = search (rules, the_lemmas)

  pub stmt_let : (x : SlotId) (r : Right) (held : List P) (turns : List ℕ) (c : Builder) (m : Builder × List P) → m ≡ let_onto s protos x r held turns c → m ≡ stmt_onto s protos (Let x r) held turns c
  unfolding let_onto stmt_onto
  stmt_let x r held turns c m is = is ∙ ap (λ (f : Emission s pr). onto f held turns c) (sym (let_e x r))

  pub stmt_variable : (v x : SlotId) (held : List P) (turns : List ℕ) (c : Builder) (m : Builder × List P) → m ≡ variable_onto s protos v x held c → m ≡ stmt_onto s protos (NewVar v x) held turns c
  unfolding variable_onto stmt_onto
  stmt_variable v x held turns c m is = is ∙ ap (λ (f : Emission s pr). onto f held turns c) (sym (variable_e v x))

  pub stmt_array : (v : SlotId) (n : ℕ) (held : List P) (turns : List ℕ) (c : Builder) (m : Builder × List P) → m ≡ array_onto s protos v n held c → m ≡ stmt_onto s protos (NewArray v n) held turns c
  unfolding array_onto stmt_onto
  stmt_array v n held turns c m is = is ∙ ap (λ (f : Emission s pr). onto f held turns c) (sym (array_e v n))

  pub stmt_store : (v x : SlotId) (held : List P) (turns : List ℕ) (c : Builder) (m : Builder × List P) → m ≡ store_onto s protos v x held c → m ≡ stmt_onto s protos (Store v x) held turns c
  unfolding store_onto stmt_onto
  stmt_store v x held turns c m is = is ∙ ap (λ (f : Emission s pr). onto f held turns c) (sym (store_e v x))

  pub stmt_put : (v i x : SlotId) (held : List P) (turns : List ℕ) (c : Builder) (m : Builder × List P) → m ≡ put_onto s protos v i x held c → m ≡ stmt_onto s protos (Put v i x) held turns c
  unfolding put_onto stmt_onto
  stmt_put v i x held turns c m is = is ∙ ap (λ (f : Emission s pr). onto f held turns c) (sym (put_e v i x))

  pub stmt_output : (x : SlotId) (h : HostId) (o : ℕ) (held : List P) (turns : List ℕ) (c : Builder) (m : Builder × List P) → m ≡ output_onto s protos x h held c → m ≡ stmt_onto s protos (Output x h o) held turns c
  unfolding output_onto stmt_onto
  stmt_output x h o held turns c m is = is ∙ ap (λ (f : Emission s pr). onto f held turns c) (sym (output_e x h o))

  stmt_if : (x : SlotId) (a b : List Stmt) (o : ℕ) (held : List P) (turns : List ℕ) (c : Builder) (m : Builder × List P) → m ≡ branch_onto s protos x a b held turns c → m ≡ stmt_onto s protos (If x a b o) held turns c
  unfolding branch_onto stmt_onto
  stmt_if x a b o held turns c m is = is ∙ ap (λ (f : Emission s pr). onto f held turns c) (sym (if_e x a b o))

  pub stmt_for : (n : ℕ) (body : List Stmt) (held : List P) (turns : List ℕ) (c : Builder) (m : Builder × List P) → m ≡ loop_onto s protos n body held turns c → m ≡ stmt_onto s protos (For n body) held turns c
  unfolding loop_onto stmt_onto
  stmt_for n body held turns c m is = is ∙ ap (λ (f : Emission s pr). onto f held turns c) (sym (for_e n body))

  branch_done : (x : SlotId) (t e : List Stmt) (held : List P) (turns : List ℕ) (c : Builder) (guard : List (ℕ × ℕ)) (c1 c2 c3 : Builder) (held1 : List P) (c4 c5 : Builder) (held2 : List P) (c6 : Builder)
      → (guard, c1) ≡ called (delivered s pr (pr x.0) (slice_index_or held x.0 s.nowhere) (picked 0 s.hosts (takers s protos t e)) c.next) c
      → c2 ≡ with_more (if_lines guard) c1 → (c3, held1) ≡ block_onto s protos t held turns c2 → c4 ≡ with_more (else_lines guard) c3 → (c5, held2) ≡ block_onto s protos e held1 turns c4
      → c6 ≡ with_more (end_lines guard) c5 → (c6, held2) ≡ branch_onto s protos x t e held turns c
  unfolding branch_onto
  branch_done x t e held turns c guard c1 c2 c3 held1 c4 c5 held2 c6 i j k l p q = branch_is s protos x t e held turns c (guard, c1) c2 c4 c6 (c3, held1) (c5, held2) i j k l p q

  pub acts_if : (x : SlotId) (t e : List Stmt) (o h : ℕ) (b : Bool)
      → b ≡ branch_acts s protos (pr x.0) t e h → b ≡ (emission s pr (If x t e o)).acts_at h
  acts_if x t e o h b is = is ∙ ap (λ (f : Emission s pr). f.acts_at h) (sym (if_e x t e o))

  pub guard_is : (x : SlotId) (t e : List Stmt) (held : List P) (c : Builder) (guard : List (ℕ × ℕ)) (c1 c2 : Builder)
      → (guard, c1) ≡ called (delivered s pr (pr x.0) (slice_index_or held x.0 s.nowhere) (picked 0 s.hosts (takers s protos t e)) c.next) c → c2 ≡ with_more (if_lines guard) c1
      → (guard, c2) ≡ guarded s protos x t e held c
  unfolding guarded
  guard_is x t e held c guard c1 c2 is is' =
      ap (λ (z : Builder). let r : List (ℕ × ℕ) × Builder = (guard, z) in r) is' ∙ ap (λ (g : List (ℕ × ℕ) × Builder). let r : List (ℕ × ℕ) × Builder = (g.0, with_more (if_lines g.0) g.1) in r) is

  pub guarded_done : (x : SlotId) (t e : List Stmt) (held : List P) (turns : List ℕ) (c : Builder) (guard : List (ℕ × ℕ)) (c2 c3 : Builder) (held1 : List P) (c4 c5 : Builder) (held2 : List P) (c6 : Builder)
      → (guard, c2) ≡ guarded s protos x t e held c → (c3, held1) ≡ block_onto s protos t held turns c2 → c4 ≡ with_more (else_lines guard) c3 → (c5, held2) ≡ block_onto s protos e held1 turns c4
      → c6 ≡ with_more (end_lines guard) c5 → (o : ℕ) → (c6, held2) ≡ stmt_onto s protos (If x t e o) held turns c
  unfolding guarded
  guarded_done x t e held turns c guard c2 c3 held1 c4 c5 held2 c6 i k l p q o =
      stmt_if x t e o held turns c (c6, held2)
      (branch_done x t e held turns c guard g.1 c2 c3 held1 c4 c5 held2 c6 (ap (λ (z : List (ℕ × ℕ) × Builder). let r : List (ℕ × ℕ) × Builder = (z.0, g.1) in r) i) (ap (λ (z : List (ℕ × ℕ) × Builder). z.1) i ∙ ap (λ (z : List (ℕ × ℕ)). with_more (if_lines z) g.1) (sym (ap (λ (z : List (ℕ × ℕ) × Builder). z.0) i))) k l p q)
    where
      g : List (ℕ × ℕ) × Builder
      g = called (delivered s pr (pr x.0) (slice_index_or held x.0 s.nowhere) (picked 0 s.hosts (takers s protos t e)) c.next) c

  pub loop_done : (count : ℕ) (body : List Stmt) (held : List P) (turns : List ℕ) (c : Builder) (loops : List (ℕ × ℕ)) (c1 c2 : Builder) (held1 : List P) (c3 : Builder)
      → (loops, c1) ≡ opened_loop (acting s protos body) count c → (c2, held1) ≡ block_onto s protos body held c.next c1 → c3 ≡ with_more (end_lines loops) c2
      → (c3, held1) ≡ loop_onto s protos count body held turns c
  unfolding loop_onto
  loop_done count body held turns c loops c1 c2 held1 c3 i j k = loop_is s protos count body held turns c (loops, c1) c3 (c2, held1) i j k
