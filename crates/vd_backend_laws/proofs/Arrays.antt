-- Arrays: new ones, and each read of a cell.
use Rattle.std.proofs.Common.{◌≡◌, ℕ, zero, suc, ◌+◌, ◌<◌, ◌≤◌, nat_le, nat_lt, ◌&&◌, Bool, true, false, if◌then◌else◌, IsTrue, List, [], ◌∷◌, ◌⊎◌, inl, inr, length, map, replicate, slice_index, drop, refl, sym, ap, ap₂, subst, subst₂, ◌∙◌, arith}
use Rattle.std.proofs.lemmas.Bool.{eq-eqb, ne_eqb}
use Rattle.std.proofs.lemmas.Bool.Decides.{nat_tests}
use Rattle.std.proofs.lemmas.List.{get_or_past}
use native.Mathlib.Decide.{ℕ_discrete}
use Rattle.vd_base.specs.declared.ids.HostId.{HostId}
use Rattle.vd_base.specs.declared.protocols.Proto.{Proto}
use Rattle.vd_base.specs.declared.rows.Row.TheVariants.{Variable}
use Rattle.vd_base.specs.HostSets.{host}
use Rattle.vd_base.specs.Holders.{holders, is_holder}
use Rattle.vd_execution.specs.declared.instructions.Action.TheVariants as action
use Rattle.vd_execution.specs.Registers.{Registers, put, zeroed}
use Rattle.vd_execution.specs.World.{Tape}
use Rattle.vd_execution.specs.Deals.{IsValidDeal}
use Rattle.vd_execution.specs.Joint.{Part, Host, Hosts, acted}
use Rattle.vd_execution.specs.Text.{register}
use Rattle.vd_execution.specs.Gadgets.{Alone, GadgetsAreTidy, IsSound}
use Rattle.vd_execution.proofs.Front.{put_same}
use Rattle.vd_duet.specs.Builder.{next_at, taken}
use Rattle.vd_duet.specs.Calls.{hosts_of, Stand, register_of}
use Rattle.vd_duet.specs.Laws.{Each, IsHost, IsIn, nowhere, words_at, Copies, Leads as DuetLeads}
use Rattle.vd_duet.proofs.Front.{wrote, leads_nothing, leads_on, taken_known, taken_there, taken_bounds, Since}
use Rattle.vd_clear.specs.Copies.{written_by, each_made}
use Rattle.vd_clear.proofs.Front.{written_there}
use Rattle.vd_split.specs.Joint.{Each as EachPart}
use Rattle.vd_split.specs.Suite.{Cells, Word, Gives, Ready, Below, Delivered, nothing, holders_among}
use Rattle.vd_split.proofs.Front.{AreApart}
use Rattle.vd_backend_laws.specs.Parts.{Parts, has_back_end, zeros_at, new_cells, index_of}
use Rattle.vd_backend_laws.specs.Suite.{cell, StandForCells, stands, IsOver, holds}
use Rattle.vd_backend_laws.proofs.Standing.{cells_of, of_cells, hosts_cell}
use Rattle.vd_backend_laws.proofs.Over.{holders_apart, host_known, holder_at, In, picked_in}
use Rattle.vd_backend_laws.proofs.Rows.{row_of, in_cell, zeros_stand, zeros_there, each_stands}
use Rattle.vd_backend_laws.proofs.Gives.{M, S, for_variable, leads_as}
use Rattle.vd_backend_laws.proofs.Alone.{alone_leads}

lt_of : (a b : ℕ) → nat_lt a b ≡ true → a < b
lt_of a b h = grind (arith, nat_tests)

not_lt_of : (a b : ℕ) → nat_lt a b ≡ false → b ≤ a
not_lt_of a b h = grind (arith, nat_tests)

of_lt : (a b : ℕ) → a < b → nat_lt a b ≡ true
of_lt a b h = grind (arith, nat_tests)

of_le : (a b : ℕ) → a ≤ b → nat_le a b ≡ true
of_le a b h = grind (arith, nat_tests)

not_le : (a b : ℕ) → b < a → nat_le a b ≡ false
not_le a b h = grind (arith, nat_tests)

zeroed_there : (f : Registers) (r n q : ℕ) → r ≤ q → q < r + n → zeroed f r n q ≡ 0
unfolding zeroed
zeroed_there f r n q low high = ap₂ (λ (a b : Bool). if a && b then 0 else f q) (of_le r q low) (of_lt q (r + n) high)

zeroed_below : (f : Registers) (r n q : ℕ) → q < r → zeroed f r n q ≡ f q
unfolding zeroed
zeroed_below f r n q low = ap (λ (a : Bool). if a && nat_lt q (r + n) then 0 else f q) (not_le r q low)

zeros_index : (n i : ℕ) → slice_index (replicate n 0) i ≡ 0
zeros_index zero i = refl
zeros_index (suc n) zero = refl
zeros_index (suc n) (suc i) = zeros_index n i

zeros_many : (n : ℕ) → let zs : List ℕ = replicate n 0 in n ≡ length zs
zeros_many zero = refl
zeros_many (suc n) = ap suc (zeros_many n)

-- ---- new arrays

module _ (t : Tape) (deal : IsValidDeal t) (size : ℕ) where
  -- each host has so many fresh registers that hold 0
  record Zeroed (hs : List HostId) (next : List ℕ) (u : Hosts) : Type 0 where
    reached : Hosts
    leads : DuetLeads t next nowhere (each_made (zeros_at size) hs next).gadgets u reached
    tidy : GadgetsAreTidy (each_made (zeros_at size) hs next).gadgets
    known : length (each_made (zeros_at size) hs next).next ≡ length next
    longer : (h : ℕ) → slice_index next h ≤ slice_index (each_made (zeros_at size) hs next).next h
    at : hosts_of (each_made (zeros_at size) hs next).given ≡ hs
    zero_there : (i : ℕ) → i < size → Copies reached (cell i (each_made (zeros_at size) hs next).given) 0
    fresh : (i : ℕ) → i < size → (h r : ℕ) → IsIn (cell i (each_made (zeros_at size) hs next).given) h r
        → (slice_index next h ≤ r) × (r < slice_index (each_made (zeros_at size) hs next).next h)

  zeros_law : (hs : List HostId) (next : List ℕ) (u : Hosts) → Each (λ h. h.0 < length next) hs → IsSound u → Zeroed hs next u
  zeros_law [] next u e sound = record {
    reached = u;
    leads = leads_nothing t next nowhere u sound;
    tidy = tt;
    known = refl;
    longer = λ h. omega arith;
    at = refl;
    zero_there = λ i lt. tt;
    fresh = λ i lt h r j. absurd j;
  }
  zeros_law (h ∷ hs) next u e sound =
      let a = action.Zero (next_at next h) size in
      let u' : Hosts = put u h.0 (acted (t h.0) (action.Zero (next_at next h) size) (u h.0)) in
      let one : DuetLeads t next nowhere (Alone h (action.Zero (next_at next h) size) ∷ []) u u' =
      alone_leads t deal h (action.Zero (next_at next h) size) u tt tt sound next nowhere refl refl (λ r low not. zeroed_below (u h.0).registers (next_at next h).0 size r low) in
      let next' : List ℕ = taken h size next in
      let more = zeros_law hs next' u' (each_known (taken_known h size next) hs e.1) one.sound in
      let there = taken_there h size next e.0 in
      record {
        reached = more.reached;
        leads = leads_on t next next' nowhere (Alone h (action.Zero (next_at next h) size) ∷ []) (each_made (zeros_at size) hs next').gadgets u u' more.reached
            (λ k. (taken_bounds h size next e.0 k).0) one more.leads;
        tidy = (tt, more.tidy);
        known = more.known ∙ taken_known h size next;
        longer = λ k. let p = (taken_bounds h size next e.0 k).0 in let q = more.longer k in omega (arith, p, q);
        at = ap (λ (l : List HostId). h ∷ l) more.at;
        zero_there = λ i lt. (
          more.leads.kept h.0 (slice_index next h.0 + i) (omega (arith, there, lt)) (λ z. z)
              ∙ ap (λ (s : Host). s.registers (slice_index next h.0 + i)) (put_same u h.0 (acted (t h.0) (action.Zero (next_at next h) size) (u h.0)))
              ∙ zeroed_there (u h.0).registers (slice_index next h.0) size (slice_index next h.0 + i) (omega arith) (omega (arith, lt)),
          more.zero_there i lt,
        );
        fresh = λ i lt k r j. fresh more i lt k r j;
      }
    where
      each_known : {n m : ℕ} → n ≡ m → (ks : List HostId) → Each (λ k. k.0 < m) ks → Each (λ k. k.0 < n) ks
      each_known {n} {m} is ks e = subst (λ z. Each (λ k. k.0 < z) ks) (sym is) e

      fresh : Zeroed hs (taken h size next) (put u h.0 (acted (t h.0) (action.Zero (next_at next h) size) (u h.0))) → (i : ℕ) → i < size → (k r : ℕ)
          → ((k ≡ h.0) × (r ≡ slice_index next h.0 + i)) ⊎ IsIn (cell i (each_made (zeros_at size) hs (taken h size next)).given) k r
          → (slice_index next k ≤ r) × (r < slice_index (each_made (zeros_at size) hs (taken h size next)).next k)
      fresh more i lt k r (inl j) =
          let P : ℕ → ℕ → Type 0 = λ a b. (slice_index next a ≤ b) × (b < slice_index (each_made (zeros_at size) hs (taken h size next)).next a) in
          let there = taken_there h size next e.0 in
          let q = more.longer h.0 in
          subst₂ P (sym j.0) (sym j.1) (omega arith, omega (arith, there, q, lt))
      fresh more i lt k r (inr j) = let p = more.fresh i lt k r j in let b = (taken_bounds h size next e.0 k).0 in let low = p.0 in (omega (arith, b, low), p.1)

module _ (t : Tape) (deal : IsValidDeal t) (inputs : ℕ → List ℕ) (hosts : ℕ) where
  pub cells_law : (p : Proto) → IsOver hosts p → IsTrue (holds Variable p) → (n : ℕ) (next : List ℕ) (w : Hosts) → Ready (M t inputs hosts) (S t inputs hosts) next w
      → Gives (M t inputs hosts) (S t inputs hosts) next nothing ((S t inputs hosts).calls.cells p n next) w p (Cells (replicate n 0))
  cells_law p d row n next w r =
      let e = for_variable p row in
      let z = zeros_law t deal n (holders p) next w (subst (λ (k : ℕ). Each (λ h. h.0 < k) (holders p)) (sym r.known) d.known) r.sound in
      record {
        reached = z.reached;
        leads = leads_as t inputs hosts next nowhere nothing (new_cells p n next).gadgets w z.reached (λ h q x. x) z.tidy z.leads;
        quiet = record { printed = z.leads.printed; waiting = λ h. ap (λ (k : ℕ). drop k (inputs h)) (z.leads.inputs h) };
        fresh = record {
          known = z.known;
          longer = z.longer;
          below = λ h q j. (z.fresh j.0 j.1 h q j.2).1;
          from = λ h q j. inl (z.fresh j.0 j.1 h q j.2).0;
        };
        stands = of_cells p e z.reached (record { at = (new_cells p n next).given; size = n }) (Cells (replicate n 0)) (record {
          size = zeros_many n;
          at = z.at;
          cells = λ i lt. subst (λ (v : ℕ). Stand p (words_at z.reached (cell i (new_cells p n next).given)) v) (sym (zeros_index n i))
              (zeros_there p e z.reached (cell i (new_cells p n next).given) (hosts_cell i (new_cells p n next).given ∙ z.at) (z.zero_there i lt));
        });
      }

  -- ---- an index and a cell

  index_found : (next : List ℕ) (w : Hosts) (at : List Part) (i h : ℕ) → In h (map (λ q. q.0) at) → EachPart (λ q. ((w q.0).registers q.1 ≡ i) × (q.1 < slice_index next q.0)) at
      → ((w h).registers (index_of at h).0 ≡ i) × ((index_of at h).0 < slice_index next h)
  index_found next w [] i h j e = absurd j
  index_found next w (q ∷ at) i h j e = here (index_found next w at i h) (ℕ_discrete h q.0) j
    where
      here : (In h (map (λ q. q.0) at) → EachPart (λ q. ((w q.0).registers q.1 ≡ i) × (q.1 < slice_index next q.0)) at
          → ((w h).registers (index_of at h).0 ≡ i) × ((index_of at h).0 < slice_index next h))
          → Dec (h ≡ q.0) → (h ≡ q.0) ⊎ In h (map (λ q. q.0) at)
          → ((w h).registers (index_of (q ∷ at) h).0 ≡ i) × ((index_of (q ∷ at) h).0 < slice_index next h)
      here ih (yes s) j =
          subst (λ (b : Bool). ((w h).registers (if b then register q.1 else index_of at h).0 ≡ i) × ((if b then register q.1 else index_of at h).0 < slice_index next h)) (sym (eq-eqb h q.0 s))
          (subst (λ z. ((w z).registers q.1 ≡ i) × (q.1 < slice_index next z)) (sym s) e.0)
      here ih (no d) (inl s) = absurd (d s)
      here ih (no d) (inr k) =
          subst (λ (b : Bool). ((w h).registers (if b then register q.1 else index_of at h).0 ≡ i) × ((if b then register q.1 else index_of at h).0 < slice_index next h)) (sym (ne_eqb h q.0 d))
          (ih k e.1)

  pub index_at : (p : Proto) → IsOver hosts p → (next : List ℕ) (w : Hosts) (at : List Part) (i : ℕ) → Delivered (M t inputs hosts) (S t inputs hosts) next w (holders_among (S t inputs hosts).calls p) at i
      → (h : ℕ) → IsHost (holders p) h → ((w h).registers (index_of at h).0 ≡ i) × ((index_of at h).0 < slice_index next h)
  index_at p d next w at i index h j =
      index_found next w at i h (subst (In h) (sym index.placed) (picked_in (λ k. is_holder p (host k)) 0 hosts h (omega arith) (let lt = host_known hosts (holders p) h d.known j in omega (arith, lt)) (holder_at p h j))) index.words

  -- the words of a cell, host by host
  pub cell_row : (p : Proto) → IsOver hosts p → (w : Hosts) (x : Parts) → hosts_of x.at ≡ holders p → (i : ℕ)
      → words_at w (cell i x.at) ≡ map (λ (h : HostId). (w h.0).registers ((register_of x.at h.0).0 + i)) (holders p)
  cell_row p d w x at i =
      row_of w i x.at (subst AreApart (sym at) (holders_apart p d.ordered))
      ∙ ap (λ (hs : List HostId). map (λ (h : HostId). (w h.0).registers ((register_of x.at h.0).0 + i)) hs) at

  -- a host's register of a cell is not free
  cell_low : (p : Proto) (next : List ℕ) (x : Parts) → Below (M t inputs hosts) (S t inputs hosts) next x → hosts_of x.at ≡ holders p
      → (i : ℕ) → i < x.size → (h : ℕ) → IsHost (holders p) h → (register_of x.at h).0 + i < slice_index next h
  cell_low p next x below at i lt h j = below h ((register_of x.at h).0 + i) (i, lt, in_cell i x.at h (subst (λ (l : List HostId). IsHost l h) (sym at) j))

  pub get_law : (p : Proto) → IsOver hosts p → IsTrue (holds Variable p) → (x : Parts) (ws : List ℕ) (at : List Part) (i : ℕ) (next : List ℕ) (w : Hosts) → Ready (M t inputs hosts) (S t inputs hosts) next w
      → Below (M t inputs hosts) (S t inputs hosts) next x → stands w p x (Cells ws) → Delivered (M t inputs hosts) (S t inputs hosts) next w (holders_among (S t inputs hosts).calls p) at i
      → Gives (M t inputs hosts) (S t inputs hosts) next nothing ((S t inputs hosts).calls.get p x at next) w p (Word (slice_index ws i))
  get_law p d row x ws at i next w r below stood index =
      each_stands t inputs hosts p made_here d next w r (λ h. written_by h (λ k. action.Get k (register_of x.at h.0) x.size (index_of at h.0)))
      (λ h. if nat_lt i x.size then (w h.0).registers ((register_of x.at h.0).0 + i) else 0) (slice_index ws i)
      (stand (nat_lt i x.size) refl)
      (λ h j next' u since known.
      written_there t deal next' u since.sound h known nowhere (λ k. action.Get k (register_of x.at h.0) x.size (index_of at h.0))
      (if nat_lt i x.size then (w h.0).registers ((register_of x.at h.0).0 + i) else 0) tt
      (ap (λ z. put u h.0 (wrote (next_at next' h).0 z (u h.0))) (read h j next' u since)) tt)
    where
      made_here : has_back_end p ≡ true
      made_here = for_variable p row

      s : StandForCells w p x ws
      s = cells_of p made_here w x (Cells ws) stood

      stand : (b : Bool) → nat_lt i x.size ≡ b
          → Stand p (map (λ (h : HostId). if b then (w h.0).registers ((register_of x.at h.0).0 + i) else 0) (holders p)) (slice_index ws i)
      stand true e = subst (λ (l : List ℕ). Stand p l (slice_index ws i)) (cell_row p d w x s.at i) (s.cells i (lt_of i x.size e))
      stand false e =
          subst (λ (z : ℕ). Stand p (map (λ (h : HostId). 0) (holders p)) z) (sym (get_or_past ws i 0 (let a = not_lt_of i x.size e in let b = s.size in omega (arith, a, b)))) (zeros_stand p made_here)

      inside : (h : HostId) → IsHost (holders p) h.0 → (next' : List ℕ) (u : Hosts) → Since next w next' u → (b : Bool) → nat_lt i x.size ≡ b
          → (if b then (u h.0).registers ((register_of x.at h.0).0 + i) else 0) ≡ (if b then (w h.0).registers ((register_of x.at h.0).0 + i) else 0)
      inside h j next' u since true e = since.kept h.0 ((register_of x.at h.0).0 + i) (cell_low p next x below s.at i (lt_of i x.size e) h.0 j)
      inside h j next' u since false e = refl

      read : (h : HostId) → IsHost (holders p) h.0 → (next' : List ℕ) (u : Hosts) → Since next w next' u
          → (if nat_lt ((u h.0).registers (index_of at h.0).0) x.size then (u h.0).registers ((register_of x.at h.0).0 + (u h.0).registers (index_of at h.0).0) else 0)
          ≡ (if nat_lt i x.size then (w h.0).registers ((register_of x.at h.0).0 + i) else 0)
      read h j next' u since =
          let q = index_at p d next w at i index h.0 j in
          ap (λ z. if nat_lt z x.size then (u h.0).registers ((register_of x.at h.0).0 + z) else 0) (since.kept h.0 (index_of at h.0).0 q.1 ∙ q.0)
          ∙ inside h j next' u since (nat_lt i x.size) refl
