-- Inputs and outputs, and the number of a turn.
use Rattle.std.proofs.Common.{◌≡◌, ℕ, zero, suc, ◌+◌, ◌%◌, ◌^◌, ◌<◌, ◌≤◌, bit_xor, nat_eq, Bool, true, false, if◌then◌else◌, IsTrue, List, [], ◌∷◌, ◌++◌, ◌⊎◌, inl, inr, length, map, slice_index, drop, refl, sym, ap, ap₂, subst, subst₂, ◌∙◌, arith}
use Rattle.std.specs.Int.Bits.{xor_zero_r}
use Rattle.std.proofs.lemmas.Bool.{eq-eqb, ne_eqb}
use native.Mathlib.Decide.{ℕ_discrete}
use Rattle.vd_base.specs.declared.ids.HostId.{HostId}
use Rattle.vd_base.specs.declared.protocols.Proto.{Proto}
use Rattle.vd_base.specs.declared.protocols.Proto.TheVariants.{Local, Rep, Commit, Add, Xor}
use Rattle.vd_base.specs.declared.rows.Row.TheVariants.{Constant}
use Rattle.vd_base.specs.HostSets.{host}
use Rattle.vd_base.specs.Holders.{holders, is_holder}
use Rattle.vd_semantics.specs.World.{first_word, later_words}
use Rattle.vd_execution.specs.declared.instructions.Reg.{Reg}
use Rattle.vd_execution.specs.declared.instructions.Action.TheVariants as action
use Rattle.vd_execution.specs.Registers.{put, nth}
use Rattle.vd_execution.specs.Step.{Inputs}
use Rattle.vd_execution.specs.World.{Tape}
use Rattle.vd_execution.specs.Deals.{IsValidDeal}
use Rattle.vd_execution.specs.Joint.{Host, Hosts, acted}
use Rattle.vd_execution.specs.Text.{register}
use Rattle.vd_execution.proofs.Front.{put_same, put_other}
use Rattle.vd_duet.specs.Builder.{next_at, taken}
use Rattle.vd_duet.specs.Calls.{Places, hosts_of, Stand, register_of}
use Rattle.vd_duet.specs.Laws.{IsIn, nowhere, Copies, StandFor, GivesThere}
use Rattle.vd_duet.proofs.Front.{wrote, taken_known, taken_there, taken_bounds, Since}
use Rattle.vd_clear.specs.Copies.{written_by, clear_calls}
use Rattle.vd_clear.proofs.Front.{written_there, copies_of}
use Rattle.vd_split.specs.Suite.{Word, Gives, Ready, Operand, Takes, Tells, nothing}
use Rattle.vd_backend_laws.specs.Parts.{Parts, word_in, has_back_end, turn_part, printed}
use Rattle.vd_backend_laws.specs.Suite.{Names, StandForCells, is_in_order, IsOver, holds, AreGiven}
use Rattle.vd_backend_laws.proofs.Standing.{no_back_end, word_of, stand_of, names_in, in_names}
use Rattle.vd_backend_laws.proofs.Over.{host_known, holder_at, ordered_differ}
use Rattle.vd_backend_laws.proofs.Rows.{all_same, each_stands}
use Rattle.vd_backend_laws.proofs.Gives.{M, S, for_constant}
use Rattle.vd_backend_laws.proofs.Alone.{same, sound_after}

-- ---- the number of a turn

-- the word of a host's part: of two that share, the first has the number and the second has 0
abbrev turn_value : Proto → ℕ → HostId → ℕ
turn_value (Local k) turn h = turn
turn_value (Rep set) turn h = turn
turn_value (Commit a b) turn h = turn
turn_value (Add a b) turn h = if nat_eq h.0 a.0 then turn else 0
turn_value (Xor a b) turn h = if nat_eq h.0 a.0 then turn else 0

sum_with_zero : (turn : ℕ) → turn < 2 ^ 32 → (turn + 0) % 2 ^ 32 ≡ turn
sum_with_zero turn small = omega (arith, small)

turn_stands : (p : Proto) → has_back_end p ≡ true → is_in_order p ≡ true → (turn : ℕ) → turn < 2 ^ 32 → Stand p (map (turn_value p turn) (holders p)) turn
turn_stands (Local k) b o turn small = refl
turn_stands (Rep set) b o turn small = all_same turn (holders (Rep set))
turn_stands (Commit u v) b o turn small = no_back_end b
turn_stands (Add u v) b o turn small =
    ap₂ (λ (x y : Bool). ((if x then turn else 0) + (if y then turn else 0)) % 2 ^ 32) (eq-eqb u.0 u.0 refl) (ne_eqb v.0 u.0 (λ e. ordered_differ u v o (sym e))) ∙ sum_with_zero turn small
turn_stands (Xor u v) b o turn small =
    ap₂ (λ (x y : Bool). bit_xor (if x then turn else 0) (if y then turn else 0)) (eq-eqb u.0 u.0 refl) (ne_eqb v.0 u.0 (λ e. ordered_differ u v o (sym e))) ∙ xor_zero_r turn

first_dropped : (xs : List ℕ) (i : ℕ) → first_word (drop i xs) ≡ slice_index xs i
first_dropped [] zero = refl
first_dropped [] (suc i) = refl
first_dropped (x ∷ xs) zero = refl
first_dropped (x ∷ xs) (suc i) = first_dropped xs i

later_dropped : (xs : List ℕ) (i : ℕ) → drop (suc i) xs ≡ later_words (drop i xs)
later_dropped [] zero = refl
later_dropped [] (suc i) = refl
later_dropped (x ∷ []) zero = refl
later_dropped (x ∷ y ∷ xs) zero = refl
later_dropped (x ∷ xs) (suc i) = later_dropped xs i

module _ (t : Tape) (deal : IsValidDeal t) (inputs : ℕ → List ℕ) (given : AreGiven inputs t) (hosts : ℕ) where
  pub turn_law : (p : Proto) → IsOver hosts p → IsTrue (holds Constant p) → (turn : ℕ) → turn < 2 ^ 32 → (loop next : List ℕ) (w : Hosts) → Ready (M t inputs hosts) (S t inputs hosts) next w
      → ((h : ℕ) → h < hosts → IsTrue (is_holder p (host h)) → ((w h).registers (slice_index loop h) ≡ turn) × (slice_index loop h < slice_index next h))
      → Gives (M t inputs hosts) (S t inputs hosts) next nothing ((S t inputs hosts).calls.turn p loop next) w p (Word turn)
  turn_law p d row turn small loop next w r there =
      each_stands t inputs hosts p (for_constant p row) d next w r (turn_part p loop) (turn_value p turn) turn (turn_stands p (for_constant p row) d.ordered turn small)
      (λ h i next' u s known. part p h next' u s known (let q = there h.0 (host_known hosts (holders p) h.0 d.known i) (holder_at p h.0 i) in (q.1, q.0)))
    where
      copied : (h : HostId) (next' : List ℕ) (u : Hosts) → Since next w next' u → h.0 < length next' → (slice_index loop h.0 < slice_index next h.0) × ((w h.0).registers (slice_index loop h.0) ≡ turn)
          → GivesThere 8 t next' nowhere h (written_by h (λ k. action.Copy k (next_at loop h)) next') u turn
      copied h next' u s known q =
          written_there t deal next' u s.sound h known nowhere (λ k. action.Copy k (next_at loop h)) turn tt
          (ap (λ z. put u h.0 (wrote (next_at next' h).0 z (u h.0))) (s.kept h.0 (slice_index loop h.0) q.0 ∙ q.1)) tt

      zero_there : (h : HostId) (next' : List ℕ) (u : Hosts) → Since next w next' u → h.0 < length next' → GivesThere 8 t next' nowhere h (written_by h (λ k. action.Const k 0) next') u 0
      zero_there h next' u s known = written_there t deal next' u s.sound h known nowhere (λ k. action.Const k 0) 0 (omega arith) refl tt

      shared : (b : Bool) (h : HostId) (next' : List ℕ) (u : Hosts) → Since next w next' u → h.0 < length next' → (slice_index loop h.0 < slice_index next h.0) × ((w h.0).registers (slice_index loop h.0) ≡ turn)
          → GivesThere 8 t next' nowhere h (if b then written_by h (λ k. action.Copy k (next_at loop h)) next' else written_by h (λ k. action.Const k 0) next') u (if b then turn else 0)
      shared true h next' u s known q = copied h next' u s known q
      shared false h next' u s known q = zero_there h next' u s known

      part : (p : Proto) (h : HostId) (next' : List ℕ) (u : Hosts) → Since next w next' u → h.0 < length next' → (slice_index loop h.0 < slice_index next h.0) × ((w h.0).registers (slice_index loop h.0) ≡ turn)
          → GivesThere 8 t next' nowhere h (turn_part p loop h next') u (turn_value p turn h)
      part (Local k) h next' u s known q = copied h next' u s known q
      part (Rep set) h next' u s known q = copied h next' u s known q
      part (Commit a b) h next' u s known q = copied h next' u s known q
      part (Add a b) h next' u s known q = shared (nat_eq h.0 a.0) h next' u s known q
      part (Xor a b) h next' u s known q = shared (nat_eq h.0 a.0) h next' u s known q

  -- ---- a fresh register of one host

  fresh_word : (h : HostId) (next : List ℕ) (k r : ℕ) → Names (word_in ((h, next_at next h) ∷ [])) k r → (k ≡ h.0) × (r ≡ slice_index next h.0)
  fresh_word h next k r n = one (names_in (word_in ((h, next_at next h) ∷ [])) k r refl n)
    where
      one : ((k ≡ h.0) × (r ≡ slice_index next h.0)) ⊎ ⊥ → (k ≡ h.0) × (r ≡ slice_index next h.0)
      one (inl e) = e
      one (inr e) = absurd e

  pub input_law : (h : HostId) → h.0 < hosts → (next : List ℕ) (w : Hosts) → Ready (M t inputs hosts) (S t inputs hosts) next w → first_word (drop ((w h.0).cursors Inputs) (inputs h.0)) < 2 ^ 32
      → Takes (M t inputs hosts) (S t inputs hosts) next ((S t inputs hosts).calls.input h next) w h
  input_law h lt next w r small =
      let known : h.0 < length next = subst (λ n. h.0 < n) (sym r.known) lt in
      let u : Hosts = put w h.0 (acted (t h.0) (action.Input (next_at next h)) (w h.0)) in
      record {
        reached = u;
        leads = record {
          runs = refl;
          fine = (((tt, tt), tt), tt);
          sound = sound_after t deal h (action.Input (next_at next h)) w tt tt r.sound;
          kept = λ k q low not. kept k q low;
        };
        fresh = record {
          known = taken_known h 1 next;
          longer = λ k. (taken_bounds h 1 next known k).0;
          below = λ k q n. let e = fresh_word h next k q n in subst₂ (λ a b. b < slice_index (taken h 1 next) a) (sym e.0) (sym e.1) (let z = taken_there h 1 next known in omega (arith, z));
          from = λ k q n. let e = fresh_word h next k q n in inl (subst₂ (λ a b. slice_index next a ≤ b) (sym e.0) (sym e.1) (omega arith));
        };
        printed = λ k. same w h.0 (acted (t h.0) (action.Input (next_at next h)) (w h.0)) k (λ (z : Host). z.printed) refl;
        taken = ap (λ (z : Host). drop (z.cursors Inputs) (inputs h.0)) (put_same w h.0 (acted (t h.0) (action.Input (next_at next h)) (w h.0))) ∙ later_dropped (inputs h.0) ((w h.0).cursors Inputs);
        waiting = λ k d. ap (λ (z : Host). drop (z.cursors Inputs) (inputs k)) (put_other w h.0 (acted (t h.0) (action.Input (next_at next h)) (w h.0)) k d);
        stands = stand_of (clear_calls (Local h)) u (Local h) ((h, next_at next h) ∷ []) (first_word (drop ((w h.0).cursors Inputs) (inputs h.0))) refl (record {
          at = refl;
          word = ap (λ (z : ℕ). z ∷ []) (ap (λ (z : Host). z.registers (next_at next h).0) (put_same w h.0 (acted (t h.0) (action.Input (next_at next h)) (w h.0)))
              ∙ put_same (w h.0).registers (next_at next h).0 (nth (t h.0 Inputs ((w h.0).cursors Inputs)) 0)
              ∙ given h.0 ((w h.0).cursors Inputs) ∙ sym (first_dropped (inputs h.0) ((w h.0).cursors Inputs)));
        });
      }
    where
      far : (q : ℕ) → q < slice_index next h.0 → q ≡ slice_index next h.0 → ⊥
      far q low e = omega (arith, low, e)

      kept : (k q : ℕ) → q < slice_index next k → (put w h.0 (acted (t h.0) (action.Input (next_at next h)) (w h.0)) k).registers q ≡ (w k).registers q
      kept k q low = elim (ℕ_discrete k h.0) [
        | yes i ↦ let P : ℕ → Type 0 = λ z. (put w h.0 (acted (t h.0) (action.Input (next_at next h)) (w h.0)) z).registers q ≡ (w z).registers q in
            subst P (sym i) (ap (λ (z : Host). z.registers q) (put_same w h.0 (acted (t h.0) (action.Input (next_at next h)) (w h.0)))
            ∙ put_other (w h.0).registers (next_at next h).0 (nth (t h.0 Inputs ((w h.0).cursors Inputs)) 0) q (far q (subst (λ z. q < slice_index next z) i low)))
        | no d ↦ ap (λ (z : Host). z.registers q) (put_other w h.0 (acted (t h.0) (action.Input (next_at next h)) (w h.0)) k d)
      ]

  -- where a word in clear stands
  pub in_clear : (w : Hosts) (h : HostId) (x : Parts) (v : ℕ) → StandForCells w (Local h) x (v ∷ [])
      → ((w h.0).registers (register_of x.at h.0).0 ≡ v) × Names x h.0 (register_of x.at h.0).0
  in_clear w h x v s =
      let at : StandFor (clear_calls (Local h)) w x.at v = word_of (clear_calls (Local h)) w (Local h) x v refl s in
      let q = only x.at at.at (copies_of (Local h) tt w x.at v at) in
      (q.0, in_names x h.0 (register_of x.at h.0).0 s.size q.1)
    where
      too_many : (n : ℕ) → suc (suc n) ≡ 1 → ⊥
      too_many n e = omega (arith, e)

      too_few : (n : ℕ) → n ≡ suc n → ⊥
      too_few n e = omega (arith, e)

      only : (y : Places) → hosts_of y ≡ h ∷ [] → Copies w y v → ((w h.0).registers (register_of y h.0).0 ≡ v) × IsIn y h.0 (register_of y h.0).0
      only [] at c = absurd (too_few 0 (ap (λ (l : List HostId). length l) at))
      only (q ∷ []) at c =
          let e : h.0 ≡ q.0.0 = sym (ap (λ (l : List HostId). slice_index (map (λ k. k.0) l) 0) at) in
          subst (λ (z : Reg). ((w h.0).registers z.0 ≡ v) × IsIn (q ∷ []) h.0 z.0) (sym (ap (λ (b : Bool). if b then q.1 else register 0) (eq-eqb h.0 q.0.0 e)))
          (ap (λ z. (w z).registers q.1.0) e ∙ c.0, inl (e, refl))
      only (q ∷ r ∷ y) at c = absurd (too_many (length (hosts_of y)) (ap (λ (l : List HostId). length l) at))

  pub output_law : (h : HostId) → h.0 < hosts → (x : Parts) (v : ℕ) (next : List ℕ) (w : Hosts) → Ready (M t inputs hosts) (S t inputs hosts) next w
      → Operand (M t inputs hosts) (S t inputs hosts) next w (Local h) x v → Tells (M t inputs hosts) (S t inputs hosts) next (printed h x.at) w h v
  output_law h lt x v next w r o = record {
    reached = put w h.0 (acted (t h.0) (action.Print (register_of x.at h.0)) (w h.0));
    leads = record {
      runs = refl;
      fine = (((tt, tt), tt), tt);
      sound = sound_after t deal h (action.Print (register_of x.at h.0)) w tt tt r.sound;
      kept = λ k q low not. same w h.0 (acted (t h.0) (action.Print (register_of x.at h.0)) (w h.0)) k (λ (z : Host). z.registers q) refl;
    };
    told = ap (λ (z : Host). z.printed) (put_same w h.0 (acted (t h.0) (action.Print (register_of x.at h.0)) (w h.0)))
        ∙ ap (λ (z : ℕ). (w h.0).printed ++ z ∷ []) (in_clear w h x v o.stands).0;
    printed = λ k d. ap (λ (z : Host). z.printed) (put_other w h.0 (acted (t h.0) (action.Print (register_of x.at h.0)) (w h.0)) k d);
    waiting = λ k. same w h.0 (acted (t h.0) (action.Print (register_of x.at h.0)) (w h.0)) k (λ (z : Host). drop (z.cursors Inputs) (inputs k)) refl;
  }
