-- A cell of an array is written.
use Rattle.std.proofs.Common.{◌≡◌, ◌≢◌, ℕ, ◌+◌, ◌<◌, nat_lt, Bool, true, false, if◌then◌else◌, IsTrue, List, [], ◌∷◌, ◌⊎◌, inl, inr, map, slice_index, slice_set, drop, refl, sym, ap, subst, ◌∙◌, arith, length-set}
use Rattle.std.proofs.lemmas.Bool.Decides.{nat_tests}
use Rattle.std.proofs.lemmas.List.{get_or-set_other, get_or-set_same}
use native.Mathlib.Decide.{ℕ_discrete}
use Rattle.vd_base.specs.declared.ids.HostId.{HostId}
use Rattle.vd_base.specs.declared.protocols.Proto.{Proto}
use Rattle.vd_base.specs.declared.rows.Row.TheVariants.{Variable}
use Rattle.vd_base.specs.Holders.{holders}
use Rattle.vd_execution.specs.declared.instructions.Action.{Action}
use Rattle.vd_execution.specs.declared.instructions.Action.TheVariants as action
use Rattle.vd_execution.specs.Registers.{Registers, put}
use Rattle.vd_execution.specs.World.{Tape}
use Rattle.vd_execution.specs.Deals.{IsValidDeal}
use Rattle.vd_execution.specs.Joint.{Part, Host, Hosts, acted}
use Rattle.vd_execution.specs.Gadgets.{Gadget, Alone, GadgetsAreTidy, IsSound}
use Rattle.vd_execution.proofs.Front.{put_same, put_other}
use Rattle.vd_duet.specs.Calls.{Places, hosts_of, Stand, register_of}
use Rattle.vd_duet.specs.Laws.{IsHost, IsIn, words_at, Leads as DuetLeads}
use Rattle.vd_duet.proofs.Front.{leads_nothing, leads_on}
use Rattle.vd_split.specs.Suite.{Word, Cells, Ready, Below, Operand, Delivered, Renews, holders_among}
use Rattle.vd_split.proofs.Front.{AreApart}
use Rattle.vd_backend_laws.specs.Parts.{Parts, has_back_end, index_of, cell_written}
use Rattle.vd_backend_laws.specs.Suite.{cell, Names, StandForCells, stands, IsOver, holds}
use Rattle.vd_backend_laws.proofs.Standing.{none_more, cells_of, of_cells}
use Rattle.vd_backend_laws.proofs.Over.{holders_apart}
use Rattle.vd_backend_laws.proofs.Rows.{rows_alike, in_cell}
use Rattle.vd_backend_laws.proofs.Gives.{M, S, for_variable, leads_as}
use Rattle.vd_backend_laws.proofs.Alone.{alone_leads}
use Rattle.vd_backend_laws.proofs.Arrays.{index_at, cell_row}

lt_of : (a b : ℕ) → nat_lt a b ≡ true → a < b
lt_of a b h = grind (arith, nat_tests)

of_lt : (a b : ℕ) → a < b → nat_lt a b ≡ true
of_lt a b h = grind (arith, nat_tests)

module _ (t : Tape) (deal : IsValidDeal t) (kept : Parts) (at : List Part) (x : Places) (next : List ℕ) where
  abbrev act : ℕ → Action
  act h = action.Put (register_of kept.at h) kept.size (index_of at h) (register_of x h)

  abbrev gadgets : List HostId → List Gadget
  gadgets hs = map (λ h. Alone h (action.Put (register_of kept.at h.0) kept.size (index_of at h.0) (register_of x h.0))) hs

  record Written (hs : List HostId) (u : Hosts) : Type 0 where
    reached : Hosts
    leads : DuetLeads t next (Names kept) (gadgets hs) u reached
    tidy : GadgetsAreTidy (gadgets hs)
    there : (h : ℕ) → IsHost hs h → reached h ≡ acted (t h) (act h) (u h)
    elsewhere : (h : ℕ) → (IsHost hs h → ⊥) → reached h ≡ u h

  unchanged : (h : ℕ) (f : Registers) → IsHost (hosts_of kept.at) h → (r : ℕ) → (Names kept h r → ⊥) → (b : Bool) → nat_lt (f (index_of at h).0) kept.size ≡ b
      → (if b then put f ((register_of kept.at h).0 + f (index_of at h).0) (f (register_of x h).0) else f) r ≡ f r
  unchanged h f is r not true e =
      put_other f ((register_of kept.at h).0 + f (index_of at h).0) (f (register_of x h).0) r
      (λ s. not (f (index_of at h).0, lt_of (f (index_of at h).0) kept.size e, subst (λ z. IsIn (cell (f (index_of at h).0) kept.at) h z) (sym s) (in_cell (f (index_of at h).0) kept.at h is)))
  unchanged h f is r not false e = refl

  written_law : (hs : List HostId) (u : Hosts) → AreApart hs → IsSound u → ((h : ℕ) → IsHost hs h → IsHost (hosts_of kept.at) h) → Written hs u
  written_law [] u apart sound inside = record { reached = u; leads = leads_nothing t next (Names kept) u sound; tidy = tt; there = λ h i. absurd i; elsewhere = λ h i. refl }
  written_law (h ∷ hs) u apart sound inside =
      let new : Host = acted (t h.0) (act h.0) (u h.0) in
      let u' : Hosts = put u h.0 (acted (t h.0) (act h.0) (u h.0)) in
      let one : DuetLeads t next (Names kept) (gadgets (h ∷ [])) u u' =
      alone_leads t deal h (act h.0) u tt tt sound next (Names kept) refl refl
      (λ r low not. unchanged h.0 (u h.0).registers (inside h.0 (inl refl)) r not (nat_lt ((u h.0).registers (index_of at h.0).0) kept.size) refl) in
      let more = written_law hs u' apart.1 one.sound (λ k i. inside k (inr i)) in
      record {
        reached = more.reached;
        leads = leads_on t next next (Names kept) (gadgets (h ∷ [])) (gadgets hs) u u' more.reached (λ k. omega arith) one more.leads;
        tidy = (tt, more.tidy);
        there = λ k i. there more k i;
        elsewhere = λ k n. more.elsewhere k (λ i. n (inr i)) ∙ put_other u h.0 (acted (t h.0) (act h.0) (u h.0)) k (λ e. n (inl e));
      }
    where
      there : (more : Written hs (put u h.0 (acted (t h.0) (act h.0) (u h.0)))) → (k : ℕ) → (k ≡ h.0) ⊎ IsHost hs k → more.reached k ≡ acted (t k) (act k) (u k)
      there more k (inl e) =
          let P : ℕ → Type 0 = λ z. more.reached z ≡ acted (t z) (act z) (u z) in
          subst P (sym e) (more.elsewhere h.0 apart.0 ∙ put_same u h.0 (acted (t h.0) (act h.0) (u h.0)))
      there more k (inr i) =
          more.there k i ∙ ap (λ (s : Host). acted (t k) (act k) s)
          (put_other u h.0 (acted (t h.0) (act h.0) (u h.0)) k (λ e. apart.0 (subst (λ z. IsHost hs z) e i)))

module _ (t : Tape) (deal : IsValidDeal t) (inputs : ℕ → List ℕ) (hosts : ℕ) (p : Proto) (d : IsOver hosts p) (row : IsTrue (holds Variable p)) (kept : Parts) (ws : List ℕ) (at : List Part) (i : ℕ) (x : Parts) (v : ℕ)
    (next : List ℕ) (w : Hosts) (ready : Ready (M t inputs hosts) (S t inputs hosts) next w) (below : Below (M t inputs hosts) (S t inputs hosts) next kept) (stood : stands w p kept (Cells ws))
    (index : Delivered (M t inputs hosts) (S t inputs hosts) next w (holders_among (S t inputs hosts).calls p) at i) (o : Operand (M t inputs hosts) (S t inputs hosts) next w p x v) where
  abbrev made_here : has_back_end p ≡ true
  made_here = for_variable p row

  abbrev s : StandForCells w p kept ws
  s = cells_of p (for_variable p row) w kept (Cells ws) stood

  abbrev given : StandForCells w p x (v ∷ [])
  given = cells_of p (for_variable p row) w x (Word v) o.stands

  abbrev writes : Written t deal kept at x.at next (holders p) w
  writes = written_law t deal kept at x.at next (holders p) w (holders_apart p d.ordered) ready.sound (λ h j. subst (λ (l : List HostId). IsHost l h) (sym s.at) j)

  index_is : (h : ℕ) → IsHost (holders p) h → (w h).registers (index_of at h).0 ≡ i
  index_is h j = (index_at t deal inputs hosts p d next w at i index h j).0

  -- a register of a host's array afterwards
  becomes : (h j : ℕ) → IsHost (holders p) h
      → (writes.reached h).registers ((register_of kept.at h).0 + j)
      ≡ (if nat_lt i kept.size then put (w h).registers ((register_of kept.at h).0 + i) ((w h).registers (register_of x.at h).0) else (w h).registers) ((register_of kept.at h).0 + j)
  becomes h j is =
      ap (λ (z : Host). z.registers ((register_of kept.at h).0 + j)) (writes.there h is)
      ∙ ap (λ (a : ℕ). (if nat_lt a kept.size then put (w h).registers ((register_of kept.at h).0 + a) ((w h).registers (register_of x.at h).0) else (w h).registers) ((register_of kept.at h).0 + j)) (index_is h is)

  other : (h j : ℕ) → j ≢ i → (b : Bool)
      → (if b then put (w h).registers ((register_of kept.at h).0 + i) ((w h).registers (register_of x.at h).0) else (w h).registers) ((register_of kept.at h).0 + j) ≡ (w h).registers ((register_of kept.at h).0 + j)
  other h j n true = put_other (w h).registers ((register_of kept.at h).0 + i) ((w h).registers (register_of x.at h).0) ((register_of kept.at h).0 + j) (λ e. n (omega (arith, e)))
  other h j n false = refl

  -- another cell keeps its words
  kept_row : (j : ℕ) → j ≢ i → words_at writes.reached (cell j kept.at) ≡ words_at w (cell j kept.at)
  kept_row j n =
      cell_row t deal inputs hosts p d writes.reached kept s.at j
      ∙ rows_alike (λ h. (writes.reached h.0).registers ((register_of kept.at h.0).0 + j)) (λ h. (w h.0).registers ((register_of kept.at h.0).0 + j)) (holders p)
      (λ h is. becomes h.0 j is ∙ other h.0 j n (nat_lt i kept.size))
      ∙ sym (cell_row t deal inputs hosts p d w kept s.at j)

  -- the cell at the index has those of the operand
  new_word : (h : ℕ) → IsHost (holders p) h → i < kept.size → (writes.reached h).registers ((register_of kept.at h).0 + i) ≡ (w h).registers ((register_of x.at h).0 + 0)
  new_word h is inside =
      becomes h i is
      ∙ ap (λ (b : Bool). (if b then put (w h).registers ((register_of kept.at h).0 + i) ((w h).registers (register_of x.at h).0) else (w h).registers) ((register_of kept.at h).0 + i)) (of_lt i kept.size inside)
      ∙ put_same (w h).registers ((register_of kept.at h).0 + i) ((w h).registers (register_of x.at h).0)
      ∙ ap (λ (z : ℕ). (w h).registers z) (sym (none_more (register_of x.at h).0))

  new_row : i < kept.size → words_at writes.reached (cell i kept.at) ≡ words_at w (cell 0 x.at)
  new_row inside =
      cell_row t deal inputs hosts p d writes.reached kept s.at i
      ∙ rows_alike (λ h. (writes.reached h.0).registers ((register_of kept.at h.0).0 + i)) (λ h. (w h.0).registers ((register_of x.at h.0).0 + 0)) (holders p) (λ h is. new_word h.0 is inside)
      ∙ sym (cell_row t deal inputs hosts p d w x given.at 0)

  word_at : (j : ℕ) → j < kept.size → Dec (j ≡ i) → Stand p (words_at writes.reached (cell j kept.at)) (slice_index (slice_set ws i v) j)
  word_at j lt (no n) =
      subst (λ (z : ℕ). Stand p (words_at writes.reached (cell j kept.at)) z) (sym (get_or-set_other ws i j v 0 n))
      (subst (λ (l : List ℕ). Stand p l (slice_index ws j)) (sym (kept_row j n)) (s.cells j lt))
  word_at j lt (yes e) =
      let inside : i < kept.size = subst (λ z. z < kept.size) e lt in
      subst (λ (k : ℕ). Stand p (words_at writes.reached (cell k kept.at)) (slice_index (slice_set ws i v) k)) (sym e)
      (subst (λ (z : ℕ). Stand p (words_at writes.reached (cell i kept.at)) z) (sym (get_or-set_same ws i v 0 (subst (λ z. i < z) s.size inside)))
      (subst (λ (l : List ℕ). Stand p l v) (sym (new_row inside)) (given.cells 0 (one given.size))))
    where
      one : x.size ≡ 1 → 0 < x.size
      one e = omega (arith, e)

  pub put_law : Renews (M t inputs hosts) (S t inputs hosts) next kept ((S t inputs hosts).calls.put p kept at x) w p (Cells (slice_set ws i v))
  put_law = record {
    reached = writes.reached;
    leads = leads_as t inputs hosts next (Names kept) (Names kept) (cell_written p kept at x.at) w writes.reached (λ h q z. z) writes.tidy writes.leads;
    quiet = record { printed = writes.leads.printed; waiting = λ h. ap (λ (k : ℕ). drop k (inputs h)) (writes.leads.inputs h) };
    stands = of_cells p made_here writes.reached kept (Cells (slice_set ws i v)) (record {
      size = s.size ∙ sym (length-set ws i v);
      at = s.at;
      cells = λ j lt. word_at j lt (ℕ_discrete j i);
    });
  }
