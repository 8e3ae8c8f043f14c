-- Labels of what is made so far.
use Rattle.std.proofs.Common.{◌≡◌, ◌⊎◌, inl, inr, ℕ, zero, suc, ◌+◌, ◌<◌, ◌≤◌, nat_eq, Bool, true, false, if◌then◌else◌, List, [], ◌∷◌, ◌++◌, Option, Some, None, map, length, slice_get, slice_index, refl, sym, ap, ◌∙◌, subst, subst₂, arith}
use Rattle.std.specs.List.{list_all}
use Rattle.std.specs.Option.{option_and_then, option_map, option_map_or}
use Rattle.std.proofs.lemmas.Bool.{and_parts, cases_lt, eq-eqb, ne_eqb}
use Rattle.std.proofs.lemmas.Option.{slice_get-get_or}
use Rattle.std.proofs.lemmas.List.Elements.{All-append}
use Rattle.vd_base.specs.declared.ids.SlotId.{SlotId}
use Rattle.vd_base.specs.declared.ids.HostId.{HostId}
use Rattle.vd_base.specs.declared.operations.Kind.{Kind}
use Rattle.vd_core.specs.declared.normal.NormalForm.{NormalForm}
use Rattle.vd_core.specs.declared.normal.Slot.{Slot as Entry}
use Rattle.vd_core.specs.declared.normal.Written.{Written}
use Rattle.vd_core.specs.declared.normal.Right.{Right}
use Rattle.vd_core.specs.declared.normal.Right.TheVariants.{Lit, Turn, Copy, Apply, Input, Declassify, Endorse, Load, Get}
use Rattle.vd_core.specs.declared.normal.Stmt.{Stmt, Let, NewVar, NewArray, Store, Put, Output}
use Rattle.vd_core.specs.Facts.{Sight, is_binding, is_array, right_sees}
use Rattle.vd_formula.specs.Forms.{formula_of}
use Rattle.vd_formula.specs.declared.label.Label.{Label}
use Rattle.vd_formula.specs.TruthTable.{any_of, implies_of}
use Rattle.vd_constraints.specs.declared.labels.Labels.{Labels}
use Rattle.vd_constraints.specs.declared.system.Place.TheVariants.{Slot, Block}
use Rattle.vd_constraints.specs.Systems.{Constraints, IsLabelOver}
use Rattle.vd_constraints.specs.Satisfies.{label_at, HoldsRule, HoldsCheck}
use Rattle.vd_constraints.specs.Rules.{flows, formula, label, no_authority, host_label, written_at, offset_of, right_rules, right_checks, output_rules, output_checks, with_rules, with_checks, with_stmt, with_body}
use Rattle.vd_rewrite.specs.declared.guard.Guard.{Guard}
use Rattle.vd_rewrite.specs.Rewriting.{Made, slot, unnamed, entry_of, in_block, fresh, moved, moved_right, with_stmt as with_step, with_kept, with_fresh, selection, selected, with_made}
use Rattle.vd_rewrite.proofs.Front.{item_old, item_last, length_push, Known}
use Rattle.vd_cmd_rewrite.proofs.Asked.{Flows, flows_self, flows_on, Outer, DeclassifyFits, EndorseFits, OutputFits, AllFlow, RightFits, OptionalFits, slot_label, together, flows_met, right_met, Holds, more_rules, more_checks, optional_met, optional_blocks, Step, asks_let, asks_var, asks_array, asks_store, asks_put, asks_output, asks_push}

-- a function with another value at one place
abbrev pub put : (ℕ → Label) → ℕ → Label → ℕ → Label
put f k a j = if nat_eq j k then a else f j

pub put_here : (f : ℕ → Label) (k : ℕ) (a : Label) → put f k a k ≡ a
put_here f k a = ap (λ (b : Bool). if b then a else f k) (eq-eqb k k refl)

pub put_before : (f : ℕ → Label) (k : ℕ) (a : Label) (j : ℕ) → j < k → put f k a j ≡ f j
put_before f k a j lt = ap (λ (b : Bool). if b then a else f j) (ne_eqb j k (λ e. omega (arith, e, lt)))

pub put_over : (P : Label → Type 0) (f : ℕ → Label) (n : ℕ) (a : Label) → P a → ((k : ℕ) → k < n → P (f k)) → (k : ℕ) → k < n + 1 → P (put f n a k)
put_over P f n a here before k lt = by (cases_lt k n)
  where
    by : (k < n) ⊎ (n ≤ k) → P (put f n a k)
    by (inl low) = subst P (sym (put_before f n a k low)) (before k low)
    by (inr le) = let e : n ≡ k = omega (arith, lt, le) in subst (λ (z : ℕ). P (put f n a z)) e (subst P (sym (put_here f n a)) here)

get_before : (xs : List Entry) (a : Entry) (k : ℕ) → k < length xs → slice_get (xs ++ a ∷ []) k ≡ slice_get xs k
get_before [] a k lt = absurd (omega arith)
get_before (x ∷ xs) a zero lt = refl
get_before (x ∷ xs) a (suc k) lt = get_before xs a k (omega arith)

get_last : (xs : List Entry) (a : Entry) → slice_get (xs ++ a ∷ []) (length xs) ≡ Some a
get_last [] a = refl
get_last (x ∷ xs) a = get_last xs a

pub names_over : (p : NormalForm) (o : Option Written) → (option_map_or (label p) o (no_authority p)).conf.names ≡ length p.principals
unfolding formula_of any_of
names_over p None = refl
names_over p (Some written) = refl

module _ (p : NormalForm) (l : Labels) where
  abbrev pub Over : Label → Type 0
  Over a = IsLabelOver (length p.principals) a

  -- the labels of the old slots
  abbrev pub old : ℕ → Label
  old k = slot_label l k

  -- a label for each slot and each block so far; old slots keep theirs
  pub record Tied (m : Made) (f g : ℕ → Label) : Type 0 where
    pub sized : length m.slots ≡ m.next
    pub slots_over : (k : ℕ) → k < m.next → Over (f k)
    pub blocks_over : (b : ℕ) → b < m.blocks → Over (g b)
    pub low : (k : ℕ) → k < length m.table → slice_index m.table k < m.next
    pub same : (k : ℕ) → k < length m.table → f (slice_index m.table k) ≡ old k

  -- the program and the labelling in the end have these slots with these labels
  pub record Final (m : Made) (f g : ℕ → Label) (last : Made) (final : Labels) : Type 0 where
    pub entries : (k : ℕ) → k < m.next → slice_get last.slots k ≡ slice_get m.slots k
    pub slots : (k : ℕ) → k < m.next → slot_label final k ≡ f k
    pub blocks : (b : ℕ) → b < m.blocks → label_at final (Block b) ≡ g b

  pub record Later (m m' : Made) (f g f' g' : ℕ → Label) : Type 0 where
    pub next : m.next ≤ m'.next
    pub blocks : m.blocks ≤ m'.blocks
    pub entries : (k : ℕ) → k < m.next → slice_get m'.slots k ≡ slice_get m.slots k
    pub slots : (k : ℕ) → k < m.next → f' k ≡ f k
    pub labels : (b : ℕ) → b < m.blocks → g' b ≡ g b

  later_none : (m : Made) (f g : ℕ → Label) → Later m m f g f g
  later_none m f g = record { next = omega arith; blocks = omega arith; entries = λ k lt. refl; slots = λ k lt. refl; labels = λ b lt. refl }

  pub later_both : (m m1 m2 : Made) (f g f1 g1 f2 g2 : ℕ → Label) → Later m m1 f g f1 g1 → Later m1 m2 f1 g1 f2 g2 → Later m m2 f g f2 g2
  later_both m m1 m2 f g f1 g1 f2 g2 a b =
      let n1 = a.next in
      let n2 = b.next in
      let b1 = a.blocks in
      let b2 = b.blocks in
      record {
        next = omega (arith, n1, n2);
        blocks = omega (arith, b1, b2);
        entries = λ k lt. b.entries k (omega (arith, n1, lt)) ∙ a.entries k lt;
        slots = λ k lt. b.slots k (omega (arith, n1, lt)) ∙ a.slots k lt;
        labels = λ k lt. b.labels k (omega (arith, b1, lt)) ∙ a.labels k lt;
      }

  pub final_back : (m m' : Made) (f g f' g' : ℕ → Label) (last : Made) (final : Labels) → Later m m' f g f' g' → Final m' f' g' last final → Final m f g last final
  final_back m m' f g f' g' last final a h =
      let n1 = a.next in
      let b1 = a.blocks in
      record {
        entries = λ k lt. h.entries k (omega (arith, n1, lt)) ∙ a.entries k lt;
        slots = λ k lt. h.slots k (omega (arith, n1, lt)) ∙ a.slots k lt;
        blocks = λ k lt. h.blocks k (omega (arith, b1, lt)) ∙ a.labels k lt;
      }

  -- rules and checks so far hold, and there are so many blocks
  abbrev pub Stands : Labels → Constraints → ℕ → Type 0
  Stands final c n = Holds final c × (c.blocks ≡ n)

  abbrev pub body_asks : Made → ℕ → List Stmt → Constraints → Constraints
  body_asks last block body c = with_body body (with_made p last) (Block block) c

  -- what more statements ask holds, in the block of that number
  abbrev pub Goes : ℕ → Made → Made → (ℕ → Label) → (ℕ → Label) → Type 0
  Goes block m m' f' g' = (last : Made) (final : Labels) → Final m' f' g' last final → (c : Constraints) → Stands final (body_asks last block m.body c) m.blocks → Stands final (body_asks last block m'.body c) m'.blocks

  -- what one statement asks holds
  abbrev pub Asked : ℕ → Made → Made → Stmt → (ℕ → Label) → (ℕ → Label) → Type 0
  Asked block m m' s f' g' = (last : Made) (final : Labels) → Final m' f' g' last final → (c : Constraints) → Stands final c m.blocks → Stands final (with_stmt s (with_made p last) (Block block) c) m'.blocks

  pub record Labelled (block : ℕ) (m m' : Made) (f g f' g' : ℕ → Label) : Type 0 where
    pub tied : Tied m' f' g'
    pub later : Later m m' f g f' g'
    pub goes : Goes block m m' f' g'

  pub labelled_none : (block : ℕ) (m : Made) (f g : ℕ → Label) → Tied m f g → Labelled block m m f g f g
  labelled_none block m f g tied = record { tied = tied; later = later_none m f g; goes = λ last final h c st. st }

  pub labelled_both : (block : ℕ) (m m1 m2 : Made) (f g f1 g1 f2 g2 : ℕ → Label) → Labelled block m m1 f g f1 g1 → Labelled block m1 m2 f1 g1 f2 g2 → Labelled block m m2 f g f2 g2
  labelled_both block m m1 m2 f g f1 g1 f2 g2 a b =
      record {
        tied = b.tied;
        later = later_both m m1 m2 f g f1 g1 f2 g2 a.later b.later;
        goes = λ last final h c st. b.goes last final h c (a.goes last final (final_back m1 m2 f1 g1 f2 g2 last final b.later h) c st);
      }

  pub goes_push : (block : ℕ) (m m' : Made) (s : Stmt) (f' g' : ℕ → Label) → m'.body ≡ m.body ++ s ∷ [] → Asked block m m' s f' g' → Goes block m m' f' g'
  goes_push block m m' s f' g' is asked last final h c st =
      subst (λ (z : Constraints). Stands final z m'.blocks) (sym (ap (λ (z : List Stmt). body_asks last block z c) is ∙ asks_push m.body s (with_made p last) (Block block) c))
      (asked last final h (body_asks last block m.body c) st)

  -- a statement that makes no slot
  pub step_labelled : (block : ℕ) (s : Stmt) (m : Made) (f g : ℕ → Label) → Tied m f g → Asked block m (with_step s m) s f g → Labelled block m (with_step s m) f g f g
  step_labelled block s m f g tied asked =
      record {
        tied = record { sized = tied.sized; slots_over = tied.slots_over; blocks_over = tied.blocks_over; low = tied.low; same = tied.same };
        later = record { next = omega arith; blocks = omega arith; entries = λ k lt. refl; slots = λ k lt. refl; labels = λ b lt. refl };
        goes = goes_push block m (with_step s m) s f g refl asked;
      }

  -- the same with other statements
  abbrev pub rebody : Made → List Stmt → Made
  rebody m body = record { next = m.next; slots = m.slots; table = m.table; blocks = m.blocks; body = body }

  pub tied_anyway : (m : Made) (body : List Stmt) (f g : ℕ → Label) → Tied m f g → Tied (rebody m body) f g
  tied_anyway m body f g t = record { sized = t.sized; slots_over = t.slots_over; blocks_over = t.blocks_over; low = t.low; same = t.same }

  pub later_anyway : (m m' : Made) (body body' : List Stmt) (f g f' g' : ℕ → Label) → Later m m' f g f' g' → Later (rebody m body) (rebody m' body') f g f' g'
  later_anyway m m' body body' f g f' g' a = record { next = a.next; blocks = a.blocks; entries = a.entries; slots = a.slots; labels = a.labels }

  pub final_anyway : (m : Made) (body : List Stmt) (f g : ℕ → Label) (last : Made) (final : Labels) → Final (rebody m body) f g last final → Final m f g last final
  final_anyway m body f g last final h = record { entries = h.entries; slots = h.slots; blocks = h.blocks }

  pub later_kept : (entry : Entry) (s : Stmt) (m : Made) (f g : ℕ → Label) (a : Label) → Tied m f g → Later m (with_kept entry s m) f g (put f m.next a) g
  later_kept entry s m f g a tied =
      let sized = tied.sized in
      record {
        next = omega arith;
        blocks = omega arith;
        entries = λ k lt. get_before m.slots entry k (omega (arith, sized, lt));
        slots = λ k lt. put_before f m.next a k lt;
        labels = λ b lt. refl;
      }

  -- one that makes an old slot anew
  pub kept_labelled : (block : ℕ) (entry : Entry) (s : Stmt) (m : Made) (f g : ℕ → Label) → Tied m f g → Over (old (length m.table)) → Asked block m (with_kept entry s m) s (put f m.next (old (length m.table))) g
      → Labelled block m (with_kept entry s m) f g (put f m.next (old (length m.table))) g
  kept_labelled block entry s m f g tied over asked =
      let a = old (length m.table) in
      record {
        tied =
            record {
              sized = length_push m.slots entry ∙ ap (λ n. n + 1) tied.sized;
              slots_over = put_over Over f m.next a over tied.slots_over;
              blocks_over = tied.blocks_over;
              low = λ k lt. let e = length_push m.table m.next in low_at k (cases_lt k (length m.table)) (omega (arith, e, lt));
              same = λ k lt. let e = length_push m.table m.next in same_at k (cases_lt k (length m.table)) (omega (arith, e, lt));
            };
        later = later_kept entry s m f g a tied;
        goes = goes_push block m (with_kept entry s m) s (put f m.next a) g refl asked;
      }
    where
      low_at : (k : ℕ) → (k < length m.table) ⊎ (length m.table ≤ k) → k < length m.table + 1 → slice_index (m.table ++ m.next ∷ []) k < m.next + 1
      low_at k (inl low) lt = let e = item_old m.table m.next k low in let b = tied.low k low in omega (arith, e, b)
      low_at k (inr le) lt =
          let is : length m.table ≡ k = omega (arith, le, lt) in
          let e : slice_index (m.table ++ m.next ∷ []) k ≡ m.next = subst (λ z. slice_index (m.table ++ m.next ∷ []) z ≡ m.next) is (item_last m.table m.next) in omega (arith, e)

      same_at : (k : ℕ) → (k < length m.table) ⊎ (length m.table ≤ k) → k < length m.table + 1 → put f m.next (old (length m.table)) (slice_index (m.table ++ m.next ∷ []) k) ≡ old k
      same_at k (inl low) lt =
          ap (put f m.next (old (length m.table))) (item_old m.table m.next k low) ∙ put_before f m.next (old (length m.table)) (slice_index m.table k) (tied.low k low) ∙ tied.same k low
      same_at k (inr le) lt =
          let is : length m.table ≡ k = omega (arith, le, lt) in
          subst (λ z. put f m.next (old (length m.table)) (slice_index (m.table ++ m.next ∷ []) z) ≡ old z) is (ap (put f m.next (old (length m.table))) (item_last m.table m.next) ∙ put_here f m.next (old (length m.table)))

  -- and one that makes a new slot, with the label a
  fresh_labelled : (block : ℕ) (entry : Entry) (r : Right) (m : Made) (f g : ℕ → Label) (a : Label) → Tied m f g → Over a → Asked block m (with_fresh entry r m) (Let (slot m.next) r) (put f m.next a) g
      → Labelled block m (with_fresh entry r m) f g (put f m.next a) g
  fresh_labelled block entry r m f g a tied over asked =
      let sized = tied.sized in
      record {
        tied =
            record {
              sized = length_push m.slots entry ∙ ap (λ n. n + 1) tied.sized;
              slots_over = put_over Over f m.next a over tied.slots_over;
              blocks_over = tied.blocks_over;
              low = λ k lt. let b = tied.low k lt in omega (arith, b);
              same = λ k lt. put_before f m.next a (slice_index m.table k) (tied.low k lt) ∙ tied.same k lt;
            };
        later =
            record {
              next = omega arith;
              blocks = omega arith;
              entries = λ k lt. get_before m.slots entry k (omega (arith, sized, lt));
              slots = λ k lt. put_before f m.next a k lt;
              labels = λ b lt. refl;
            };
        goes = goes_push block m (with_fresh entry r m) (Let (slot m.next) r) (put f m.next a) g refl asked;
      }

  -- ---- the labels that the source writes
  entry_last : (m : Made) (entry : Entry) → length m.slots ≡ m.next → slice_get (m.slots ++ entry ∷ []) m.next ≡ Some entry
  entry_last m entry e = subst (λ (n : ℕ). slice_get (m.slots ++ entry ∷ []) n ≡ Some entry) e (get_last m.slots entry)

  abbrev written_in : Option Entry → Option Label
  written_in o = option_and_then (λ (s : Entry). option_map (label p) s.label) o

  -- an old slot's is that of the new one
  pub written_same : (block : ℕ) (x : SlotId) (m last : Made) → length m.slots ≡ m.next → x.0 < length p.slots
      → slice_get last.slots m.next ≡ slice_get (m.slots ++ in_block block (entry_of p.slots x) ∷ []) m.next → written_at (with_made p last) (slot m.next) ≡ written_at p x
  written_same block x m last sized low is =
      ap written_in (is ∙ entry_last m (in_block block (entry_of p.slots x)) sized) ∙ sym (ap written_in (slice_get-get_or p.slots x.0 unnamed low))

  -- a new slot has none
  written_none : (kind : Kind) (offset block : ℕ) (m last : Made) → length m.slots ≡ m.next → slice_get last.slots m.next ≡ slice_get (m.slots ++ fresh kind offset block ∷ []) m.next → written_at (with_made p last) (slot m.next) ≡ None
  written_none kind offset block m last sized is = ap written_in (is ∙ entry_last m (fresh kind offset block) sized)

  -- ---- what one statement asks
  module _ (block : ℕ) (m m' : Made) (f' g' : ℕ → Label) (same : m'.blocks ≡ m.blocks) where
    pub let_asked : (x : SlotId) (r : Right)
        → ((last : Made) (final : Labels) → Final m' f' g' last final
        → OptionalFits (written_at (with_made p last) x) (slot_label final x.0) × RightFits (with_made p last) r (label_at final (Block block)) (slot_label final x.0) (slot_label final))
        → Asked block m m' (Let x r) f' g'
    let_asked x r fits last final h c st =
        let q = with_made p last in
        let pc = Block block in
        let t = fits last final h in
        let met = right_met final q pc x r t.1 in
        let c1 = with_rules (right_rules q pc x r) c in
        let c2 = with_checks (right_checks q pc x r) c1 in
        let done = optional_met final (written_at q x) (Slot x) (offset_of q x) c2 (more_checks final (right_checks q pc x r) c1 (more_rules final (right_rules q pc x r) c st.0 met.0) met.1) t.0 in
        subst (λ (w : Step). Stands final (w q pc c) m'.blocks) (sym (asks_let x r)) (done, optional_blocks (written_at q x) (Slot x) (offset_of q x) c2 ∙ st.1 ∙ sym same)

    pub var_asked : (v y : SlotId)
        → ((last : Made) (final : Labels) → Final m' f' g' last final
        → OptionalFits (written_at (with_made p last) v) (slot_label final v.0) × Flows (slot_label final y.0) (slot_label final v.0) × Flows (label_at final (Block block)) (slot_label final v.0))
        → Asked block m m' (NewVar v y) f' g'
    var_asked v y fits last final h c st =
        let q = with_made p last in
        let pc = Block block in
        let t = fits last final h in
        let rs = flows (Slot y) (Slot v) ++ flows pc (Slot v) in
        let c1 = with_rules rs c in
        let met = All-append (HoldsRule final) (flows (Slot y) (Slot v)) (flows pc (Slot v)) (flows_met final (Slot y) (Slot v) t.1) (flows_met final pc (Slot v) t.2) in
        let done = optional_met final (written_at q v) (Slot v) (offset_of q v) c1 (more_rules final rs c st.0 met) t.0 in
        subst (λ (w : Step). Stands final (w q pc c) m'.blocks) (sym (asks_var v y)) (done, optional_blocks (written_at q v) (Slot v) (offset_of q v) c1 ∙ st.1 ∙ sym same)

    pub array_asked : (v : SlotId) (size : ℕ)
        → ((last : Made) (final : Labels) → Final m' f' g' last final → OptionalFits (written_at (with_made p last) v) (slot_label final v.0) × Flows (label_at final (Block block)) (slot_label final v.0))
        → Asked block m m' (NewArray v size) f' g'
    array_asked v size fits last final h c st =
        let q = with_made p last in
        let pc = Block block in
        let t = fits last final h in
        let c1 = with_rules (flows pc (Slot v)) c in
        let done = optional_met final (written_at q v) (Slot v) (offset_of q v) c1 (more_rules final (flows pc (Slot v)) c st.0 (flows_met final pc (Slot v) t.1)) t.0 in
        subst (λ (w : Step). Stands final (w q pc c) m'.blocks) (sym (asks_array v size)) (done, optional_blocks (written_at q v) (Slot v) (offset_of q v) c1 ∙ st.1 ∙ sym same)

    pub store_asked : (v y : SlotId)
        → ((last : Made) (final : Labels) → Final m' f' g' last final → Flows (slot_label final y.0) (slot_label final v.0) × Flows (label_at final (Block block)) (slot_label final v.0))
        → Asked block m m' (Store v y) f' g'
    store_asked v y fits last final h c st =
        let q = with_made p last in
        let pc = Block block in
        let t = fits last final h in
        let met = All-append (HoldsRule final) (flows (Slot y) (Slot v)) (flows pc (Slot v)) (flows_met final (Slot y) (Slot v) t.0) (flows_met final pc (Slot v) t.1) in
        subst (λ (w : Step). Stands final (w q pc c) m'.blocks) (sym (asks_store v y)) (more_rules final (flows (Slot y) (Slot v) ++ flows pc (Slot v)) c st.0 met, st.1 ∙ sym same)

    pub put_asked : (v i y : SlotId)
        → ((last : Made) (final : Labels) → Final m' f' g' last final
        → Flows (slot_label final y.0) (slot_label final v.0) × Flows (slot_label final i.0) (slot_label final v.0) × Flows (label_at final (Block block)) (slot_label final v.0))
        → Asked block m m' (Put v i y) f' g'
    put_asked v i y fits last final h c st =
        let q = with_made p last in
        let pc = Block block in
        let t = fits last final h in
        let met =
        All-append (HoldsRule final) (flows (Slot y) (Slot v) ++ flows (Slot i) (Slot v)) (flows pc (Slot v))
        (All-append (HoldsRule final) (flows (Slot y) (Slot v)) (flows (Slot i) (Slot v)) (flows_met final (Slot y) (Slot v) t.0) (flows_met final (Slot i) (Slot v) t.1)) (flows_met final pc (Slot v) t.2) in
        subst (λ (w : Step). Stands final (w q pc c) m'.blocks) (sym (asks_put v i y)) (more_rules final (flows (Slot y) (Slot v) ++ flows (Slot i) (Slot v) ++ flows pc (Slot v)) c st.0 met, st.1 ∙ sym same)

    pub output_asked : (y : SlotId) (host : HostId) (offset : ℕ)
        → ((last : Made) (final : Labels) → Final m' f' g' last final → OutputFits (host_label p host) (label_at final (Block block)) (slot_label final y.0))
        → Asked block m m' (Output y host offset) f' g'
    output_asked y host offset fits last final h c st =
        let q = with_made p last in
        let pc = Block block in
        let t = fits last final h in
        let rs = output_rules (host_label p host) pc (Slot y) in
        let cs = output_checks (host_label p host) pc (Slot y) offset in
        let done = more_checks final cs (with_rules rs c) (more_rules final rs c st.0 (together (HoldsRule final) rs (t.integ, (t.block, tt)))) (together (HoldsCheck final) cs (t.conf, (t.asked, tt))) in
        subst (λ (w : Step). Stands final (w q pc c) m'.blocks) (sym (asks_output y host offset)) (done, st.1 ∙ sym same)

  -- ---- right sides with new numbers
  module _ (table : List ℕ) (seen : Sight) (known : Known (length table) seen) (new : ℕ → Label) (same : (k : ℕ) → k < length table → new (slice_index table k) ≡ old k) (pc pc' : Label) (outer : Outer (length p.principals) pc' pc) where
    binding_same : (y : SlotId) → is_binding seen y ≡ true → new (slice_index table y.0) ≡ old y.0
    binding_same y is = same y.0 (known.bindings y.0 is)

    operands_move : (x : Label) (ys : List SlotId) → list_all (is_binding seen) ys ≡ true → AllFlow old ys x → AllFlow new (map (moved table) ys) x
    operands_move x [] sees f = tt
    operands_move x (y ∷ ys) sees f =
        let h = and_parts (is_binding seen y) (list_all (is_binding seen) ys) sees in
        (subst (λ (z : Label). Flows z x) (sym (binding_same y h.0)) f.0, operands_move x ys h.1 f.1)

    pub right_moves : (x : Label) (r : Right) → Over x → right_sees r seen ≡ true → RightFits p r pc x old → RightFits p (moved_right table r) pc' x new
    right_moves x (Lit n) over sees f = tt
    right_moves x Turn over sees f = tt
    right_moves x (Copy y) over sees f = subst (λ (z : Label). Flows z x) (sym (binding_same y sees)) f
    right_moves x (Apply o ys) over sees f = operands_move x ys sees f
    right_moves x (Load v) over sees f = subst (λ (z : Label). Flows z x) (sym (same v.0 (known.variables v.0 sees))) f
    right_moves x (Get v i) over sees f =
        let h = and_parts (is_array seen v) (is_binding seen i) sees in
        (subst (λ (z : Label). Flows z x) (sym (same v.0 (known.arrays v.0 h.0))) f.0, subst (λ (z : Label). Flows z x) (sym (binding_same i h.1)) f.1)
    right_moves x (Input host) over sees f =
        record { conf = f.conf; block = outer.integ (host_label p host).integ f.block; integ = f.integ; asked = outer.conf (host_label p host).conf (names_over p (slice_get p.labels host.0)) f.asked }
    right_moves x (Declassify y form) over sees f =
        subst (λ (z : Label). DeclassifyFits (formula p form) pc' x z) (sym (binding_same y sees))
        (record { conf = f.conf; integ = f.integ; given = f.given; block_conf = outer.conf x.conf over.conf.over f.block_conf; block_integ = outer.integ x.integ f.block_integ; block_given = outer.integ (implies_of (formula p form) (old y.0).conf) f.block_given })
    right_moves x (Endorse y form) over sees f =
        subst (λ (z : Label). EndorseFits (formula p form) pc' x z) (sym (binding_same y sees))
        (record { conf = f.conf; integ = f.integ; block_conf = outer.conf x.conf over.conf.over f.block_conf; block_integ = outer.integ x.integ f.block_integ; wanted = f.wanted })

  -- ---- stores under guards

  -- what each guard says may go where the label is
  abbrev pub GuardsFlow : Made → (ℕ → Label) → List Guard → Label → Type 0
  GuardsFlow m f [] x = Unit {0}
  GuardsFlow m f (h ∷ gs) x = (h.slot.0 < m.next) × Flows (f h.slot.0) x × GuardsFlow m f gs x

  pub guards_later : (m m' : Made) (f g f' g' : ℕ → Label) (gs : List Guard) (x : Label) → Later m m' f g f' g' → GuardsFlow m f gs x → GuardsFlow m' f' gs x
  guards_later m m' f g f' g' [] x a h = tt
  guards_later m m' f g f' g' (q ∷ gs) x a h =
      let n1 = a.next in
      let low = h.0 in
      (omega (arith, n1, low), subst (λ (z : Label). Flows z x) (sym (a.slots q.slot.0 h.0)) h.1, guards_later m m' f g f' g' gs x a h.2)

  pub guards_on : (m : Made) (f g : ℕ → Label) (gs : List Guard) (x y : Label) → Tied m f g → Over x → Over y → Flows x y → GuardsFlow m f gs x → GuardsFlow m f gs y
  guards_on m f g [] x y tied ox oy xy h = tt
  guards_on m f g (q ∷ gs) x y tied ox oy xy h =
      (h.0, flows_on (length p.principals) (f q.slot.0) x y (tied.slots_over q.slot.0 h.0) ox oy h.1 xy, guards_on m f g gs x y tied ox oy xy h.2)

  pub guards_more : (m : Made) (f : ℕ → Label) (gs : List Guard) (q : Guard) (x : Label) → GuardsFlow m f gs x → q.slot.0 < m.next → Flows (f q.slot.0) x → GuardsFlow m f (gs ++ q ∷ []) x
  guards_more m f [] q x h low flow = (low, flow, tt)
  guards_more m f (q' ∷ gs) q x h low flow = (h.0, h.1, guards_more m f gs q x h.2 low flow)

  -- the word that a variable gets, whose label is x
  pub record Chosen (block : ℕ) (m : Made) (f g : ℕ → Label) (x : Label) (q : SlotId × Made) : Type 0 where
    pub slots : ℕ → Label
    pub is : Labelled block m q.1 f g slots g
    pub low : q.0.0 < q.1.next
    pub flow : Flows (slots q.0.0) x

  selection_flows : (new : ℕ → Label) (first : Bool) (g y o : SlotId) (x : Label) → Flows (new g.0) x → Flows (new y.0) x → Flows (new o.0) x → (q : NormalForm) (pc : Label) → RightFits q (selection first g y o) pc x new
  selection_flows new true g y o x fg fy fo q pc = (fg, (fy, (fo, tt)))
  selection_flows new false g y o x fg fy fo q pc = (fg, (fo, (fy, tt)))

  pub selected_labelled : (kind : Kind) (block : ℕ) (v : SlotId) (gs : List Guard) (y : SlotId) (m : Made) (f g : ℕ → Label) (x : Label) → Over x → Tied m f g → v.0 < m.next → f v.0 ≡ x → y.0 < m.next → Flows (f y.0) x → GuardsFlow m f gs x
      → Chosen block m f g x (selected kind block v gs y m)
  selected_labelled kind block v [] y m f g x over tied lv fv ly fy guards = record { slots = f; is = labelled_none block m f g tied; low = ly; flow = fy }
  selected_labelled kind block v (q ∷ gs) y m f g x over tied lv fv ly fy guards =
      let r = selected_labelled kind block v gs y m f g x over tied lv fv ly fy guards.2 in
      chain kind block v q y m f g x (selected kind block v gs y m) over lv fv guards.0 guards.1 r
    where
      chain : (kind : Kind) (block : ℕ) (v : SlotId) (q : Guard) (y : SlotId) (m : Made) (f g : ℕ → Label) (x : Label) (c : SlotId × Made) → Over x → v.0 < m.next → f v.0 ≡ x → q.slot.0 < m.next → Flows (f q.slot.0) x → Chosen block m f g x c
          → Chosen block m f g x (slot (c.1.next + 1), with_fresh (fresh kind q.offset block) (selection q.first q.slot c.0 (slot c.1.next)) (with_fresh (fresh kind q.offset block) (Load v) c.1))
      chain kind block v q y m f g x c over lv fv lq fq r =
          let entry = fresh kind q.offset block in
          let m1 = c.1 in
          let f1 = r.slots in
          let m2 = with_fresh entry (Load v) m1 in
          let f2 = put f1 m1.next x in
          let right = selection q.first q.slot c.0 (slot m1.next) in
          let m3 = with_fresh entry right m2 in
          let f3 = put f2 m2.next x in
          let n1 = r.is.later.next in
          let lc = r.low in
          let one =
          fresh_labelled block entry (Load v) m1 f1 g x r.is.tied over
          (let_asked block m1 m2 f2 g refl (slot m1.next) (Load v) (λ last final h.
          let own : slot_label final m1.next ≡ x = h.slots m1.next (omega arith) ∙ put_here f1 m1.next x in
          let var : slot_label final v.0 ≡ x = h.slots v.0 (omega (arith, n1, lv)) ∙ put_before f1 m1.next x v.0 (omega (arith, n1, lv)) ∙ r.is.later.slots v.0 lv ∙ fv in
          (subst (λ (o : Option Label). OptionalFits o (slot_label final m1.next)) (sym (written_none kind q.offset block m1 last r.is.tied.sized (h.entries m1.next (omega arith)))) tt, subst₂ Flows (sym var) (sym own) (flows_self x)))) in
          let two =
          fresh_labelled block entry right m2 f2 g x one.tied over
          (let_asked block m2 m3 f3 g refl (slot m2.next) right (λ last final h.
          let own : slot_label final m2.next ≡ x = h.slots m2.next (omega arith) ∙ put_here f2 m2.next x in
          let old_word : slot_label final m1.next ≡ x = h.slots m1.next (omega arith) ∙ put_before f2 m2.next x m1.next (omega arith) ∙ put_here f1 m1.next x in
          let guard : slot_label final q.slot.0 ≡ f q.slot.0 =
          h.slots q.slot.0 (omega (arith, n1, lq)) ∙ put_before f2 m2.next x q.slot.0 (omega (arith, n1, lq)) ∙ put_before f1 m1.next x q.slot.0 (omega (arith, n1, lq)) ∙ r.is.later.slots q.slot.0 lq in
          let inner : slot_label final c.0.0 ≡ f1 c.0.0 = h.slots c.0.0 (omega (arith, lc)) ∙ put_before f2 m2.next x c.0.0 (omega (arith, lc)) ∙ put_before f1 m1.next x c.0.0 lc in (
            subst (λ (o : Option Label). OptionalFits o (slot_label final m2.next)) (sym (written_none kind q.offset block m2 last one.tied.sized (h.entries m2.next (omega arith)))) tt,
            subst (λ (z : Label). RightFits (with_made p last) right (label_at final (Block block)) z (slot_label final)) (sym own)
                (selection_flows (slot_label final) q.first q.slot c.0 (slot m1.next) x (subst (λ (z : Label). Flows z x) (sym guard) fq) (subst (λ (z : Label). Flows z x) (sym inner) r.flow) (subst (λ (z : Label). Flows z x) (sym old_word) (flows_self x))
                (with_made p last) (label_at final (Block block))),
          ))) in
          record {
            slots = f3;
            is = labelled_both block m m1 m3 f g f1 g f3 g r.is (labelled_both block m1 m2 m3 f1 g f2 g f3 g one two);
            low = omega arith;
            flow = subst (λ (z : Label). Flows z x) (sym (put_here f2 m2.next x)) (flows_self x);
          }
