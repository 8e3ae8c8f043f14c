-- What is emitted, call by call, behind what is there.
use Rattle.std.proofs.Common.{◌≡◌, ℕ, List, [], ◌∷◌, ◌++◌, slice_index_or, replicate, refl, sym, ap, ap₂, ◌∙◌, subst, append_assoc, append-nil}
use Rattle.vd_base.specs.declared.ids.HostId.{HostId}
use Rattle.vd_base.specs.declared.ids.SlotId.{SlotId}
use Rattle.vd_base.specs.declared.protocols.Proto.{Proto}
use Rattle.vd_base.specs.declared.protocols.Proto.TheVariants.{Local}
use Rattle.vd_base.specs.Holders.{proto_in}
use Rattle.vd_core.specs.declared.normal.Stmt.{Stmt}
use Rattle.vd_execution.specs.declared.instructions.Act.{Act}
use Rattle.vd_execution.specs.declared.instructions.Line.{Line}
use Rattle.vd_execution.specs.declared.instructions.Line.TheVariants as line
use Rattle.vd_execution.specs.Acts.{lines_of}
use Rattle.vd_execution.specs.Gadgets.{Gadget, acts_of_gadget, acts_of_gadgets}
use Rattle.vd_execution.specs.Plans.{Plan, Ends, Then, Branch, Loop}
use Rattle.vd_duet.specs.Builder.{Builder}
use Rattle.vd_duet.specs.Calls.{emitted, appended}
use Rattle.vd_duet.proofs.Front.{gadgets_append}
use Rattle.vd_split.specs.Joint.{acts_then, and_then}
use Rattle.vd_split.specs.Suite.{picked, Made, Calls, holders_among}
use Rattle.vd_split.proofs.Keeps.{loop_kept, loop_kept_by}
use Rattle.vd_split.specs.Emission.{Emitting, Emitted, delivered, all_moved, and_on, with_parts, with_acts, emission, block_emission, if_made, for_made, loop_registers, after_loop_registers}
use Rattle.vd_split.specs.Lines.{called, with_more, plan_lines, if_lines, else_lines, end_lines, for_lines, emitted_onto}
use Rattle.vd_split.specs.Places.{joined, state, stmt_onto, block_onto, put_onto, takers, acting, opened_loop}

lines_append : (xs ys : List Act) → lines_of (xs ++ ys) ≡ lines_of xs ++ lines_of ys
lines_append [] ys = refl
lines_append (x ∷ xs) ys = ap (λ (l : List Line). line.Act x ∷ l) (lines_append xs ys)

-- gadgets behind gadgets
emitted_on : (l : List Line) (xs ys : List Gadget) → (l ++ emitted xs) ++ emitted ys ≡ l ++ emitted (xs ++ ys)
emitted_on l xs ys =
    append_assoc l (emitted xs) (emitted ys)
    ∙ ap (λ (k : List Line). l ++ k) (sym (ap lines_of (gadgets_append xs ys) ∙ lines_append (acts_of_gadgets xs) (acts_of_gadgets ys)))

module _ {P : Type 0} (s : Calls Gadget P) (proto : ℕ → Proto) where
  pub deliver_step : (p : Proto) (x : P) (h : HostId) (hs : List HostId) (xs : List (ℕ × ℕ)) (c : Builder) (goal : List (ℕ × ℕ) × Builder) (moved : P × Builder) → moved ≡ called (s.move p (Local h) x c.next) c
      → joined xs (delivered s proto p x (h ∷ hs) c.next) c ≡ goal → joined (xs ++ (h.0, s.register moved.0 h.0) ∷ []) (delivered s proto p x hs moved.1.next) moved.1 ≡ goal
  deliver_step p x h hs xs c goal moved is e =
      subst (λ (z : P × Builder). joined (xs ++ (h.0, s.register z.0 h.0) ∷ []) (delivered s proto p x hs z.1.next) z.1 ≡ goal) (sym is)
      (ap₂ (λ (a : List (ℕ × ℕ)) (b : List Line). let q : List (ℕ × ℕ) × Builder = (a, record { lines = b; next = (delivered s proto p x hs (s.move p (Local h) x c.next).next).next }) in q)
      (append_assoc xs _ _) (emitted_on c.lines _ _) ∙ e)

  pub bring_step : (q : Proto) (e : Emitting s proto) (x : SlotId) (xs : List SlotId) (all : List P) (c : Builder) (goal : List P × Builder) (moved : P × Builder)
      → moved ≡ called (s.move (proto x.0) q (slice_index_or e.held x.0 s.nowhere) c.next) c
      → joined all (all_moved s proto q e (x ∷ xs) c.next) c ≡ goal → joined (all ++ moved.0 ∷ []) (all_moved s proto q e xs moved.1.next) moved.1 ≡ goal
  bring_step q e x xs all c goal moved is i =
      subst (λ (z : P × Builder). joined (all ++ z.0 ∷ []) (all_moved s proto q e xs z.1.next) z.1 ≡ goal) (sym is)
      (ap₂ (λ (a : List P) (b : List Line). let r : List P × Builder = (a, record { lines = b; next = (all_moved s proto q e xs (s.move (proto x.0) q (slice_index_or e.held x.0 s.nowhere) c.next).next).next }) in r)
      (append_assoc all _ _) (emitted_on c.lines _ _) ∙ i)

  -- a call on what another gave
  pub called_on : {X Y : Type 0} (one : Made Gadget X) (f : X → List ℕ → Made Gadget Y) (c : Builder) (first : X × Builder) (then' : Y × Builder) → first ≡ called one c → then' ≡ called (f first.0 first.1.next) first.1
      → then' ≡ called (and_on s proto one f) c
  called_on {X} {Y} one f c first then' is is' =
      is' ∙ ap (λ (z : X × Builder). called (f z.0 z.1.next) z.1) is
      ∙ ap (λ (b : List Line). let r : Y × Builder = ((f one.given one.next).given, record { lines = b; next = (f one.given one.next).next }) in r) (emitted_on c.lines one.acts (f one.given one.next).acts)

  -- gadgets alone
  lines_then : (xs : List Gadget) (j : Plan Gadget) → plan_lines (acts_then xs j) ≡ emitted xs ++ plan_lines j
  lines_then [] j = refl
  lines_then (x ∷ xs) j =
      ap (λ (l : List Line). lines_of (acts_of_gadget x) ++ l) (lines_then xs j) ∙ sym (append_assoc (lines_of (acts_of_gadget x)) (emitted xs) (plan_lines j))
      ∙ ap (λ (l : List Line). l ++ plan_lines j) (sym (lines_append (acts_of_gadget x) (acts_of_gadgets xs)))

  lines_after : (j k : Plan Gadget) → plan_lines (and_then j k) ≡ plan_lines j ++ plan_lines k
  lines_after Ends k = refl
  lines_after (Then x r) k = ap (λ (l : List Line). lines_of (acts_of_gadget x) ++ l) (lines_after r k) ∙ sym (append_assoc (lines_of (acts_of_gadget x)) (plan_lines r) (plan_lines k))
  lines_after (Branch ps t e r) k = ap (λ (l : List Line). if_lines ps ++ plan_lines t ++ else_lines ps ++ plan_lines e ++ end_lines ps ++ l) (lines_after r k) ∙ simp append_assoc
  lines_after (Loop ps n b r) k = ap (λ (l : List Line). for_lines n ps ++ plan_lines b ++ end_lines ps ++ l) (lines_after r k) ∙ simp append_assoc

  onto_parts : (made : Made Gadget P) (e : Emitting s proto) (c : Builder) → emitted_onto s proto (with_parts s proto made e) c ≡ ((called made c).1, e.held ++ made.given ∷ [])
  onto_parts made e c = ap (λ (l : List Line). let r : Builder × List P = (record { lines = c.lines ++ l; next = made.next }, e.held ++ made.given ∷ []) in r) (lines_then made.acts Ends ∙ append-nil (emitted made.acts))

  onto_acts : (acts : List Gadget) (next : List ℕ) (e : Emitting s proto) (c : Builder) → emitted_onto s proto (with_acts s proto acts next e) c ≡ (record { lines = c.lines ++ emitted acts; next = next }, e.held)
  onto_acts acts next e c = ap (λ (l : List Line). let r : Builder × List P = (record { lines = c.lines ++ l; next = next }, e.held) in r) (lines_then acts Ends ∙ append-nil (emitted acts))

  -- a slot more, of a call
  pub slot_onto : (made : Made Gadget P) (e : Emitting s proto) (c : Builder) (one : P × Builder) (held : List P) → one ≡ called made c → held ≡ e.held ++ one.0 ∷ [] → (one.1, held) ≡ emitted_onto s proto (with_parts s proto made e) c
  slot_onto made e c one held is is' =
      ap (λ (l : List P). let r : Builder × List P = (one.1, l) in r) is' ∙ ap (λ (z : P × Builder). let r : Builder × List P = (z.1, e.held ++ z.0 ∷ []) in r) is ∙ sym (onto_parts made e c)

  -- a call, and then acts on what it gives
  pub acts_onto : {X : Type 0} (one : Made Gadget X) (f : X → List Gadget) (e : Emitting s proto) (c : Builder) (first : X × Builder) (last : Builder) → first ≡ called one c → last ≡ appended (f first.0) first.1
      → (last, e.held) ≡ emitted_onto s proto (with_acts s proto (one.acts ++ f one.given) one.next e) c
  acts_onto {X} one f e c first last is is' =
      ap (λ (z : Builder). let r : Builder × List P = (z, e.held) in r) (is' ∙ ap (λ (z : X × Builder). appended (f z.0) z.1) is ∙ ap (λ (l : List Line). let r : Builder = record { lines = l; next = one.next } in r) (emitted_on c.lines one.acts (f one.given)))
      ∙ sym (onto_acts (one.acts ++ f one.given) one.next e c)

module _ {P : Type 0} (s : Calls Gadget P) (protos : List Proto) where
  abbrev pr : ℕ → Proto
  pr = proto_in protos

  pub put_made_onto : (v i x : SlotId) (held : List P) (c : Builder) (first : List (ℕ × ℕ) × Builder) (second : P × Builder) (last : Builder)
      → first ≡ called (delivered s pr (pr i.0) (slice_index_or held i.0 s.nowhere) (holders_among s (pr v.0)) c.next) c
      → second ≡ called (s.move (pr x.0) (pr v.0) (slice_index_or held x.0 s.nowhere) first.1.next) first.1
      → last ≡ appended (s.put (pr v.0) (slice_index_or held v.0 s.nowhere) first.0 second.0) second.1
      → (last, held) ≡ put_onto s protos v i x held c
  unfolding put_onto
  put_made_onto v i x held c first second last is is' is'' =
      acts_onto s pr (record { given = (index.given, two.given); acts = index.acts ++ two.acts; next = two.next }) (λ (q : List (ℕ × ℕ) × P). s.put (pr v.0) (slice_index_or held v.0 s.nowhere) q.0 q.1) (state s protos c held []) c
      ((first.0, second.0), second.1) last (both first second is is') is''
    where
      index : Made Gadget (List (ℕ × ℕ))
      index = delivered s pr (pr i.0) (slice_index_or held i.0 s.nowhere) (holders_among s (pr v.0)) c.next

      two : Made Gadget P
      two = s.move (pr x.0) (pr v.0) (slice_index_or held x.0 s.nowhere) index.next

      both : (first : List (ℕ × ℕ) × Builder) (second : P × Builder) → first ≡ called index c → second ≡ called (s.move (pr x.0) (pr v.0) (slice_index_or held x.0 s.nowhere) first.1.next) first.1
          → ((first.0, second.0), second.1) ≡ called {X = List (ℕ × ℕ) × P} (record { given = (index.given, two.given); acts = index.acts ++ two.acts; next = two.next }) c
      both first second is is' =
          let Q : Type 0 = (List (ℕ × ℕ) × P) × Builder in
          ap (λ (z : P × Builder). let r : Q = ((first.0, z.0), z.1) in r) is'
          ∙ ap (λ (q : List (ℕ × ℕ) × Builder). let y : P × Builder = called (s.move (pr x.0) (pr v.0) (slice_index_or held x.0 s.nowhere) q.1.next) q.1 in let r : Q = ((q.0, y.0), y.1) in r) is
          ∙ ap (λ (l : List Line). let r : Q = ((index.given, two.given), record { lines = l; next = two.next }) in r) (emitted_on c.lines index.acts two.acts)

  -- one statement, and then the others
  pub block_step : (stmt : Stmt) (rest : List Stmt) (held : List P) (turns : List ℕ) (c : Builder) (goal : Builder × List P) (done : Builder × List P) → done ≡ stmt_onto s protos stmt held turns c
      → block_onto s protos (stmt ∷ rest) held turns c ≡ goal → block_onto s protos rest done.1 turns done.0 ≡ goal
  unfolding stmt_onto block_onto
  block_step stmt rest held turns c goal done is e =
      subst (λ (z : Builder × List P). block_onto s protos rest z.1 turns z.0 ≡ goal) (sym is) (same one.state.loop (loop_kept_by s pr stmt (state s protos c held turns)) ∙ split ∙ e)
    where
      one : Emitted s pr
      one = (emission s pr stmt).emit (state s protos c held turns)

      onto : List ℕ → Emitted s pr
      onto l = (block_emission s pr rest).emit (record { next = one.state.next; held = one.state.held; loop = l })

      same : (l : List ℕ) → l ≡ turns → emitted_onto s pr (onto turns) (emitted_onto s pr one c).0 ≡ emitted_onto s pr (onto l) (emitted_onto s pr one c).0
      same l i = ap (λ (z : List ℕ). emitted_onto s pr (onto z) (emitted_onto s pr one c).0) (sym i)

      split : emitted_onto s pr (onto one.state.loop) (emitted_onto s pr one c).0 ≡ block_onto s protos (stmt ∷ rest) held turns c
      split = ap (λ (l : List Line). let r : Builder × List P = (record { lines = l; next = (onto one.state.loop).state.next }, (onto one.state.loop).state.held) in r)
          (append_assoc c.lines (plan_lines one.tree) (plan_lines (onto one.state.loop).tree) ∙ ap (λ (l : List Line). c.lines ++ l) (sym (lines_after s pr one.tree (onto one.state.loop).tree)))

  pub block_end : (held : List P) (turns : List ℕ) (c : Builder) (goal : Builder × List P) → block_onto s protos [] held turns c ≡ goal → (c, held) ≡ goal
  unfolding block_onto
  block_end held turns c goal e = ap (λ (l : List Line). let r : Builder × List P = (record { lines = l; next = c.next }, held) in r) (sym (append-nil c.lines)) ∙ e

  -- a branch, act by act
  pub branch_is : (x : SlotId) (t e : List Stmt) (held : List P) (turns : List ℕ) (c : Builder) (guard : List (ℕ × ℕ) × Builder) (c2 c4 c6 : Builder) (first second : Builder × List P)
      → guard ≡ called (delivered s pr (pr x.0) (slice_index_or held x.0 s.nowhere) (picked 0 s.hosts (takers s protos t e)) c.next) c
      → c2 ≡ with_more (if_lines guard.0) guard.1 → first ≡ block_onto s protos t held turns c2 → c4 ≡ with_more (else_lines guard.0) first.0 → second ≡ block_onto s protos e first.1 turns c4
      → c6 ≡ with_more (end_lines guard.0) second.0
      → (c6, second.1) ≡ emitted_onto s pr (if_made s pr x (block_emission s pr t) (block_emission s pr e) (state s protos c held turns)) c
  unfolding block_onto
  branch_is x t e held turns c guard c2 c4 c6 first second is2 is3 is4 is5 is6 is7 =
      ap (λ (z : Builder). let r : Builder × List P = (z, second.1) in r) is7
      ∙ ap (λ (z : Builder × List P). let r : Builder × List P = (with_more (end_lines guard.0) z.0, z.1) in r) is6
      ∙ ap (λ (z : Builder). let y : Builder × List P = block_onto s protos e first.1 turns z in let r : Builder × List P = (with_more (end_lines guard.0) y.0, y.1) in r) is5
      ∙ ap (λ (z : Builder × List P). let y : Builder × List P = block_onto s protos e z.1 turns (with_more (else_lines guard.0) z.0) in let r : Builder × List P = (with_more (end_lines guard.0) y.0, y.1) in r) is4
      ∙ ap (λ (z : Builder). let f : Builder × List P = block_onto s protos t held turns z in let y : Builder × List P = block_onto s protos e f.1 turns (with_more (else_lines guard.0) f.0) in let r : Builder × List P = (with_more (end_lines guard.0) y.0, y.1) in r) is3
      ∙ ap (λ (q : List (ℕ × ℕ) × Builder). let f : Builder × List P = block_onto s protos t held turns (with_more (if_lines q.0) q.1) in let y : Builder × List P = block_onto s protos e f.1 turns (with_more (else_lines q.0) f.0) in let r : Builder × List P = (with_more (end_lines q.0) y.0, y.1) in r) is2
      ∙ ap (λ (l : List ℕ). ended l) (sym (loop_kept s pr t (record { next = g.next; held = held; loop = turns })))
      ∙ ap (λ (l : List Line). let r : Builder × List P = (record { lines = l; next = (other one.state.loop).state.next }, (other one.state.loop).state.held) in r)
      (regroup c.lines (emitted g.acts) (if_lines g.given) (plan_lines one.tree) (else_lines g.given) (plan_lines (other one.state.loop).tree) (end_lines g.given)
      ∙ ap (λ (l : List Line). c.lines ++ l) (sym (lines_then s pr g.acts (Branch g.given one.tree (other one.state.loop).tree Ends))))
    where
      g : Made Gadget (List (ℕ × ℕ))
      g = delivered s pr (pr x.0) (slice_index_or held x.0 s.nowhere) (picked 0 s.hosts (takers s protos t e)) c.next

      one : Emitted s pr
      one = (block_emission s pr t).emit (record { next = g.next; held = held; loop = turns })

      other : List ℕ → Emitted s pr
      other l = (block_emission s pr e).emit (record { next = one.state.next; held = one.state.held; loop = l })

      ended : List ℕ → Builder × List P
      ended l = (record { lines = (((((c.lines ++ emitted g.acts) ++ if_lines g.given) ++ plan_lines one.tree) ++ else_lines g.given) ++ plan_lines (other l).tree) ++ end_lines g.given; next = (other l).state.next }, (other l).state.held)

      regroup : (a b c d e f g : List Line) → (((((a ++ b) ++ c) ++ d) ++ e) ++ f) ++ g ≡ a ++ (b ++ (((((c ++ d) ++ e) ++ f) ++ g) ++ []))
      regroup a b c d e f g = simp (append_assoc, append-nil)

  -- a loop, act by act
  pub loop_is : (count : ℕ) (body : List Stmt) (held : List P) (turns : List ℕ) (c : Builder) (loops : List (ℕ × ℕ) × Builder) (c3 : Builder) (done : Builder × List P)
      → loops ≡ opened_loop (acting s protos body) count c → done ≡ block_onto s protos body held c.next loops.1 → c3 ≡ with_more (end_lines loops.0) done.0
      → (c3, done.1) ≡ emitted_onto s pr (for_made s pr count (block_emission s pr body) (state s protos c held turns)) c
  unfolding block_onto
  loop_is count body held turns c loops c3 done is is' is'' =
      let ps = loop_registers (acting s protos body) 0 c.next in
      let b = (block_emission s pr body).emit (record { next = after_loop_registers (acting s protos body) 0 c.next; held = held; loop = c.next }) in
      ap (λ (z : Builder). let r : Builder × List P = (z, done.1) in r) is''
      ∙ ap (λ (z : Builder × List P). let r : Builder × List P = (with_more (end_lines loops.0) z.0, z.1) in r) is'
      ∙ ap (λ (z : List (ℕ × ℕ) × Builder). let y : Builder × List P = block_onto s protos body held c.next z.1 in let r : Builder × List P = (with_more (end_lines z.0) y.0, y.1) in r) is
      ∙ ap (λ (l : List Line). let r : Builder × List P = (record { lines = l; next = b.state.next }, b.state.held) in r) (regroup c.lines (for_lines count ps) (plan_lines b.tree) (end_lines ps))
    where
      regroup : (a b c d : List Line) → ((a ++ b) ++ c) ++ d ≡ a ++ (((b ++ c) ++ d) ++ [])
      regroup a b c d = simp (append_assoc, append-nil)

  -- from nothing
  pub from_start : (body : List Stmt) (c : Builder) (held : List P) → (c, held) ≡ block_onto s protos body [] [] (record { lines = []; next = replicate s.hosts 0 })
      → c.lines ≡ plan_lines ((block_emission s pr body).emit (record { next = replicate s.hosts 0; held = []; loop = [] })).tree
  unfolding block_onto
  from_start body c held is = ap (λ (z : Builder × List P). z.0.lines) is
