-- Arrays of words in clear stay right where hosts depart.
use Rattle.std.proofs.Common.{◌≡◌, ◌≢◌, ℕ, zero, suc, ◌+◌, ◌-◌, ◌^◌, ◌<◌, ◌≤◌, nat_le, nat_lt, ◌&&◌, Bool, true, false, if◌then◌else◌, List, [], ◌∷◌, ◌⊎◌, inl, inr, length, map, replicate, slice_index, slice_set, refl, sym, ap, ap₂, subst, ◌∙◌, arith}
use Rattle.std.proofs.lemmas.Bool.{eq-eqb, ne_eqb}
use Rattle.std.proofs.lemmas.Bool.Decides.{nat_tests}
use Rattle.std.proofs.lemmas.List.{get_or_past, get_or-set_other, get_or-set_same}
use native.Mathlib.Decide.{ℕ_discrete}
use Rattle.vd_base.specs.declared.ids.HostId.{HostId}
use Rattle.vd_base.specs.declared.protocols.Proto.{Proto}
use Rattle.vd_base.specs.Holders.{holders}
use Rattle.vd_execution.specs.declared.instructions.Action.{Action}
use Rattle.vd_execution.specs.declared.instructions.Action.TheVariants as action
use Rattle.vd_execution.specs.declared.instructions.Reg.{Reg}
use Rattle.vd_execution.specs.Gadgets.{Gadget, Alone}
use Rattle.vd_execution.specs.Joint.{Host, Hosts, Part, acted}
use Rattle.vd_execution.specs.Registers.{Registers, put, zeroed}
use Rattle.vd_execution.specs.Text.{register}
use Rattle.vd_execution.specs.World.{Tape}
use Rattle.vd_execution.proofs.Front.{put_other, put_same}
use Rattle.vd_duet.specs.Builder.{next_at, taken}
use Rattle.vd_duet.specs.Calls.{Places, hosts_of, register_of}
use Rattle.vd_duet.specs.Laws.{AreKnown, IsHost, IsIn}
use Rattle.vd_duet.proofs.Front.{taken_known, taken_there}
use Rattle.vd_clear.specs.Copies.{each_made, written_by}
use Rattle.vd_split.proofs.Front.{AreApart}
use Rattle.vd_backend_laws.specs.Parts.{Parts, zeros_at, index_of, cell_read, cell_written}
use Rattle.vd_backend_laws.specs.Suite.{Names, cell}
use Rattle.vd_backend_laws.proofs.Front.{In, in_cell, hosts_cell, register_cell}
use Rattle.vd_integrity_runs.specs.Departing.{AreRight, RunsGadgets}
use Rattle.vd_integrity_runs.proofs.Copies.{each_step}
use Rattle.vd_integrity_runs.proofs.Local.{written}
use Rattle.vd_integrity_runs.proofs.Touching.{AllTouch, runs_framed}
use Rattle.vd_integrity_runs.proofs.Fresh.{Free, IsFresh, each_fresh, known_later, taken_fresh}
use Rattle.vd_integrity_runs.proofs.Calls.{right_register, still_of}
use Rattle.vd_integrity_runs.proofs.Guards.{RightAt}

lt_of : (a b : ℕ) → nat_lt a b ≡ true → a < b
lt_of a b h = grind (arith, nat_tests)

not_lt_of : (a b : ℕ) → nat_lt a b ≡ false → b ≤ a
not_lt_of a b h = grind (arith, nat_tests)

of_lt : (a b : ℕ) → a < b → nat_lt a b ≡ true
of_lt a b h = grind (arith, nat_tests)

of_le : (a b : ℕ) → a ≤ b → nat_le a b ≡ true
of_le a b h = grind (arith, nat_tests)

zeroed_there : (f : Registers) (r n q : ℕ) → r ≤ q → q < r + n → zeroed f r n q ≡ 0
unfolding zeroed
zeroed_there f r n q low high = ap₂ (λ (a b : Bool). if a && b then 0 else f q) (of_le r q low) (of_lt q (r + n) high)

pub zeros_index : (n i : ℕ) → slice_index (replicate n 0) i ≡ 0
zeros_index zero i = refl
zeros_index (suc n) zero = refl
zeros_index (suc n) (suc i) = zeros_index n i

pub zeros_many : (n : ℕ) → let zs : List ℕ = replicate n 0 in n ≡ length zs
zeros_many zero = refl
zeros_many (suc n) = ap suc (zeros_many n)

pub small_set : (vs : List ℕ) (i v : ℕ) → ((j : ℕ) → slice_index vs j < 2 ^ 32) → v < 2 ^ 32 → (j : ℕ) → slice_index (slice_set vs i v) j < 2 ^ 32
small_set [] i v all small j = all j
small_set (x ∷ vs) zero v all small zero = small
small_set (x ∷ vs) zero v all small (suc j) = all (suc j)
small_set (x ∷ vs) (suc i) v all small zero = all zero
small_set (x ∷ vs) (suc i) v all small (suc j) = small_set vs i v (λ q. all (suc q)) small j

module _ (keeps : ℕ → Bool) where
  -- ---- a word at each host of some places, by their registers
  right_of_each : (w : Hosts) (x : Places) (v : ℕ) → AreApart (hosts_of x) → ((h : ℕ) → IsHost (hosts_of x) h → keeps h ≡ true → (w h).registers (register_of x h).0 ≡ v) → AreRight keeps w x v
  right_of_each w [] v apart each = tt
  right_of_each w (q ∷ x) v apart each = (
    λ is. ap (λ (b : Bool). (w q.0.0).registers (if b then q.1 else register_of x q.0.0).0) (sym (eq-eqb q.0.0 q.0.0 refl)) ∙ each q.0.0 (inl refl) is,
    right_of_each w x v apart.1
        (λ h i is. ap (λ (b : Bool). (w h).registers (if b then q.1 else register_of x h).0) (sym (ne_eqb h q.0.0 (λ e. apart.0 (subst (λ z. IsHost (hosts_of x) z) e i)))) ∙ each h (inr i) is),
  )

  to_cell : (w : Hosts) (j : ℕ) (x : Places) (v : ℕ) → AreApart (hosts_of x) → ((h : ℕ) → IsHost (hosts_of x) h → keeps h ≡ true → (w h).registers ((register_of x h).0 + j) ≡ v) → AreRight keeps w (cell j x) v
  to_cell w j x v apart each =
      right_of_each w (cell j x) v (subst AreApart (sym (hosts_cell j x)) apart)
      (λ h i is. let there = subst (λ (l : List HostId). IsHost l h) (hosts_cell j x) i in ap (λ (r : Reg). (w h).registers r.0) (register_cell j x h there) ∙ each h there is)

  from_cell : (w : Hosts) (j : ℕ) (x : Places) (v h : ℕ) → IsHost (hosts_of x) h → AreRight keeps w (cell j x) v → keeps h ≡ true → (w h).registers ((register_of x h).0 + j) ≡ v
  from_cell w j x v h i right is =
      ap (λ (r : Reg). (w h).registers r.0) (sym (register_cell j x h i)) ∙ right_register keeps w (cell j x) h v (subst (λ (l : List HostId). IsHost l h) (sym (hosts_cell j x)) i) right is

  -- the register of a host's index
  pub index_right : (w : Hosts) (v : ℕ) (at : List Part) (h : ℕ) → In h (map (λ q. q.0) at) → RightAt keeps w v at → keeps h ≡ true → (w h).registers (index_of at h).0 ≡ v
  index_right w v [] h i right is = absurd i
  index_right w v (q ∷ at) h i right is = here (index_right w v at h) (ℕ_discrete h q.0) i
    where
      here : (In h (map (λ q. q.0) at) → RightAt keeps w v at → keeps h ≡ true → (w h).registers (index_of at h).0 ≡ v) → Dec (h ≡ q.0) → (h ≡ q.0) ⊎ In h (map (λ q. q.0) at) → (w h).registers (index_of (q ∷ at) h).0 ≡ v
      here again (yes s) j =
          ap (λ (b : Bool). (w h).registers (if b then register q.1 else index_of at h).0) (eq-eqb h q.0 s) ∙ ap (λ z. (w z).registers q.1) s ∙ right.0 (subst (λ z. keeps z ≡ true) s is)
      here again (no d) (inl s) = absurd (d s)
      here again (no d) (inr k) = ap (λ (b : Bool). (w h).registers (if b then register q.1 else index_of at h).0) (ne_eqb h q.0 d) ∙ again k right.1 is

  module _ (t : Tape) where
    -- ---- a new array
    zeros_fresh : (size : ℕ) (hs : List HostId) (next : List ℕ) → AreKnown hs next → IsFresh next (each_made (zeros_at size) hs next).gadgets (each_made (zeros_at size) hs next).next
    zeros_fresh size hs next known = each_fresh (zeros_at size) (λ h next low. taken_fresh h size next (zeros_at size h next).gadgets low ((λ q from to. from), tt)) hs next known

    pub zeros_right : (size : ℕ) (hs : List HostId) (next : List ℕ) (w u : Hosts) → AreKnown hs next → RunsGadgets keeps t (each_made (zeros_at size) hs next).gadgets w u → (i : ℕ) → i < size → AreRight keeps u (cell i (each_made (zeros_at size) hs next).given) 0
    zeros_right size [] next w u known run i low = tt
    zeros_right size (h ∷ hs) next w u known run i low =
        let m : Hosts = put w h.0 (acted (t h.0) (action.Zero (next_at next h) size) (w h.0)) in
        let next' = taken h size next in
        let known' = known_later hs next next' (taken_known h size next) known.1 in
        let there = taken_there h size next known.0 in
        let framed = runs_framed (Free next') keeps t (each_made (zeros_at size) hs next').gadgets m u (zeros_fresh size hs next' known').touches run.1 in (
          λ is. still_of next' m u framed h.0 (slice_index next h.0 + i) (omega (arith, there, low))
              ∙ ap (λ (s : Host). s.registers (slice_index next h.0 + i)) (put_same w h.0 (acted (t h.0) (action.Zero (next_at next h) size) (w h.0)))
              ∙ zeroed_there (w h.0).registers (slice_index next h.0) size (slice_index next h.0 + i) (omega arith) (omega (arith, low)),
          zeros_right size hs next' m u known' run.1 i low,
        )

    -- ---- an element is read
    module _ (p : Proto) (next : List ℕ) (w : Hosts) (known : AreKnown (holders p) next) (x : Parts) (at : List Part) (vs : List ℕ) (i : ℕ) (size : x.size ≡ length vs) (placed : hosts_of x.at ≡ holders p)
        (below : (h r : ℕ) → Names x h r → r < slice_index next h) (cells : (j : ℕ) → j < x.size → AreRight keeps w (cell j x.at) (slice_index vs j))
        (index : (h : ℕ) → IsHost (holders p) h → keeps h ≡ true → (w h).registers (index_of at h).0 ≡ i) (low : (h : ℕ) → IsHost (holders p) h → (index_of at h).0 < slice_index next h) where
      -- a host's word of the element
      read : (h : ℕ) → IsHost (holders p) h → keeps h ≡ true → (u : Hosts) → ((g r : ℕ) → r < slice_index next g → (u g).registers r ≡ (w g).registers r)
          → (if nat_lt ((u h).registers (index_of at h).0) x.size then (u h).registers ((register_of x.at h).0 + (u h).registers (index_of at h).0) else 0) ≡ slice_index vs i
      read h j is u still =
          ap (λ z. if nat_lt z x.size then (u h).registers ((register_of x.at h).0 + z) else 0) (still h (index_of at h).0 (low h j) ∙ index h j is) ∙ inside (nat_lt i x.size) refl
        where
          there : IsHost (hosts_of x.at) h
          there = subst (λ (l : List HostId). IsHost l h) (sym placed) j

          inside : (b : Bool) → nat_lt i x.size ≡ b → (if b then (u h).registers ((register_of x.at h).0 + i) else 0) ≡ slice_index vs i
          inside true e =
              let less = lt_of i x.size e in
              still h ((register_of x.at h).0 + i) (below h ((register_of x.at h).0 + i) (i, less, in_cell i x.at h there)) ∙ from_cell w i x.at (slice_index vs i) h there (cells i less) is
          inside false e = sym (get_or_past vs i 0 (let a = not_lt_of i x.size e in omega (arith, a, size)))

      pub get_right : (u : Hosts) → RunsGadgets keeps t (cell_read p x at next).gadgets w u → AreRight keeps u (cell_read p x at next).given (slice_index vs i)
      get_right u run =
          (each_step keeps t next w (holders p) known (λ h. written_by h (λ r. action.Get r (register_of x.at h.0) x.size (index_of at h.0))) (slice_index vs i)
          (λ h j next' z z' since less run.
          written keeps t next' z z' h less (λ r. action.Get r (register_of x.at h.0) x.size (index_of at h.0)) (slice_index vs i)
          (if nat_lt ((z h.0).registers (index_of at h.0).0) x.size then (z h.0).registers ((register_of x.at h.0).0 + (z h.0).registers (index_of at h.0).0) else 0) refl
          (λ is. read h.0 j is z since.still) run) u run).right

    -- ---- an element is written
    module _ (kept : Parts) (at : List Part) (x : Places) where
      abbrev act : ℕ → Action
      act h = action.Put (register_of kept.at h) kept.size (index_of at h) (register_of x h)

      abbrev gadgets : List HostId → List Gadget
      gadgets hs = map (λ h. Alone h (action.Put (register_of kept.at h.0) kept.size (index_of at h.0) (register_of x h.0))) hs

      pub put_touches : (hs : List HostId) → ((h : ℕ) → IsHost hs h → IsHost (hosts_of kept.at) h) → AllTouch (Names kept) (gadgets hs)
      put_touches [] inside = tt
      put_touches (h ∷ hs) inside = (
        (λ q from to. (q - (register_of kept.at h.0).0, within (register_of kept.at h.0).0 q from to, subst (λ z. IsIn (cell (q - (register_of kept.at h.0).0) kept.at) h.0 z) (there (register_of kept.at h.0).0 q from) (in_cell (q - (register_of kept.at h.0).0) kept.at h.0 (inside h.0 (inl refl))))),
        put_touches hs (λ g i. inside g (inr i)),
      )
        where
          within : (a q : ℕ) → a ≤ q → q < a + kept.size → q - a < kept.size
          within a q from to = omega (arith, from, to)

          there : (a q : ℕ) → a ≤ q → a + (q - a) ≡ q
          there a q from = omega (arith, from)

      record Puts (hs : List HostId) (w u : Hosts) : Type 0 where
        there : (h : ℕ) → IsHost hs h → u h ≡ acted (t h) (act h) (w h)
        elsewhere : (h : ℕ) → (IsHost hs h → ⊥) → u h ≡ w h

      puts : (hs : List HostId) → AreApart hs → (w u : Hosts) → RunsGadgets keeps t (gadgets hs) w u → Puts hs w u
      puts [] apart w u run = record { there = λ h i. absurd i; elsewhere = λ h n. ap (λ (z : Hosts). z h) run }
      puts (g ∷ hs) apart w u run =
          let m : Hosts = put w g.0 (acted (t g.0) (act g.0) (w g.0)) in
          let more = puts hs apart.1 m u run.1 in
          record {
            there = λ h i. elim i [
              | inl e ↦ let P : ℕ → Type 0 = λ z. u z ≡ acted (t z) (act z) (w z) in subst P (sym e) (more.elsewhere g.0 apart.0 ∙ put_same w g.0 (acted (t g.0) (act g.0) (w g.0)))
              | inr j ↦ more.there h j ∙ ap (λ (s : Host). acted (t h) (act h) s) (put_other w g.0 (acted (t g.0) (act g.0) (w g.0)) h (λ e. apart.0 (subst (λ z. IsHost hs z) e j)))
            ];
            elsewhere = λ h n. more.elsewhere h (λ j. n (inr j)) ∙ put_other w g.0 (acted (t g.0) (act g.0) (w g.0)) h (λ e. n (inl e));
          }

      pub put_right : (p : Proto) → AreApart (holders p) → (w u : Hosts) (vs : List ℕ) (i v : ℕ) → kept.size ≡ length vs → hosts_of kept.at ≡ holders p → hosts_of x ≡ holders p → ((j : ℕ) → j < kept.size → AreRight keeps w (cell j kept.at) (slice_index vs j))
          → ((h : ℕ) → IsHost (holders p) h → keeps h ≡ true → (w h).registers (index_of at h).0 ≡ i) → AreRight keeps w x v → RunsGadgets keeps t (cell_written p kept at x) w u
          → (j : ℕ) → j < kept.size → AreRight keeps u (cell j kept.at) (slice_index (slice_set vs i v) j)
      put_right p apart w u vs i v size placed placed' cells index word run j low =
          to_cell u j kept.at (slice_index (slice_set vs i v) j) (subst AreApart (sym placed) apart)
          (λ h q is.
          let here = subst (λ (l : List HostId). IsHost l h) placed q in
          ap (λ (z : Host). z.registers ((register_of kept.at h).0 + j)) ((puts (holders p) apart w u run).there h here)
          ∙ ap (λ (a : ℕ). (if nat_lt a kept.size then put (w h).registers ((register_of kept.at h).0 + a) ((w h).registers (register_of x h).0) else (w h).registers) ((register_of kept.at h).0 + j)) (index h here is)
          ∙ at_cell h q is (ℕ_discrete j i))
        where
          other : (h : ℕ) → j ≢ i → (b : Bool)
              → (if b then put (w h).registers ((register_of kept.at h).0 + i) ((w h).registers (register_of x h).0) else (w h).registers) ((register_of kept.at h).0 + j) ≡ (w h).registers ((register_of kept.at h).0 + j)
          other h n true = put_other (w h).registers ((register_of kept.at h).0 + i) ((w h).registers (register_of x h).0) ((register_of kept.at h).0 + j) (λ e. n (omega (arith, e)))
          other h n false = refl

          at_cell : (h : ℕ) → IsHost (hosts_of kept.at) h → keeps h ≡ true → Dec (j ≡ i)
              → (if nat_lt i kept.size then put (w h).registers ((register_of kept.at h).0 + i) ((w h).registers (register_of x h).0) else (w h).registers) ((register_of kept.at h).0 + j) ≡ slice_index (slice_set vs i v) j
          at_cell h q is (no n) = other h n (nat_lt i kept.size) ∙ from_cell w j kept.at (slice_index vs j) h q (cells j low) is ∙ sym (get_or-set_other vs i j v 0 n)
          at_cell h q is (yes e) =
              let inside : i < kept.size = subst (λ z. z < kept.size) e low in
              ap (λ z. (if nat_lt i kept.size then put (w h).registers ((register_of kept.at h).0 + i) ((w h).registers (register_of x h).0) else (w h).registers) ((register_of kept.at h).0 + z)) e
              ∙ ap (λ (b : Bool). (if b then put (w h).registers ((register_of kept.at h).0 + i) ((w h).registers (register_of x h).0) else (w h).registers) ((register_of kept.at h).0 + i)) (of_lt i kept.size inside)
              ∙ put_same (w h).registers ((register_of kept.at h).0 + i) ((w h).registers (register_of x h).0)
              ∙ right_register keeps w x h v (subst (λ (l : List HostId). IsHost l h) (placed ∙ sym placed') q) word is
              ∙ sym (get_or-set_same vs i v 0 (subst (λ z. i < z) size inside)) ∙ ap (slice_index (slice_set vs i v)) (sym e)
