-- The words at the hosts of any protocol, in the order of its hosts, and hosts that take a step each.
use Rattle.std.proofs.Common.{◌≡◌, ℕ, suc, ◌+◌, ◌*◌, ◌%◌, ◌^◌, ◌<◌, Bool, true, if◌then◌else◌, List, [], ◌∷◌, ◌⊎◌, inl, inr, length, map, refl, sym, ap, ap₂, subst, ◌∙◌, arith}
use Rattle.std.specs.Int.Bits.{xor_zero_r}
use Rattle.std.proofs.lemmas.Bool.{eq-eqb, ne_eqb}
use native.Mathlib.Decide.{ℕ_discrete}
use Rattle.vd_base.specs.declared.ids.HostId.{HostId}
use Rattle.vd_base.specs.declared.protocols.Proto.{Proto}
use Rattle.vd_base.specs.declared.protocols.Proto.TheVariants.{Local, Rep, Commit, Add, Xor}
use Rattle.vd_base.specs.Holders.{holders}
use Rattle.vd_execution.specs.declared.instructions.Reg.{Reg}
use Rattle.vd_execution.specs.World.{Tape}
use Rattle.vd_execution.specs.Joint.{Hosts}
use Rattle.vd_duet.specs.Builder.{most_taken}
use Rattle.vd_duet.specs.Calls.{Places, hosts_of, Made, Stand, AllAre, register_of}
use Rattle.vd_duet.specs.Laws.{Each, IsIn, IsHost, nowhere, words_at, Copies, Gives as DuetGives, GivesThere, at_host}
use Rattle.vd_duet.proofs.Front.{leads_nothing, leads_on, orderly_still, orderly_on, orderly_wider, Since, since_on, since_start}
use Rattle.vd_clear.specs.Copies.{each_made}
use Rattle.vd_split.specs.Suite.{Word, Gives, Ready, nothing}
use Rattle.vd_split.proofs.Front.{AreApart}
use Rattle.vd_backend_laws.specs.Parts.{made_of, has_back_end, back_end}
use Rattle.vd_backend_laws.specs.Suite.{cell, IsOver}
use Rattle.vd_backend_laws.proofs.Standing.{no_back_end}
use Rattle.vd_base.proofs.Front.{few_holders}
use Rattle.vd_backend_laws.proofs.Over.{host_known}
use Rattle.vd_backend_laws.proofs.Gives.{M, S, proto_is, gives_word}

-- ---- words by host

pub rows_alike : (f g : HostId → ℕ) (hs : List HostId) → ((h : HostId) → IsHost hs h.0 → f h ≡ g h) → map f hs ≡ map g hs
rows_alike f g [] e = refl
rows_alike f g (h ∷ hs) e = ap₂ (λ (n : ℕ) (l : List ℕ). n ∷ l) (e h (inl refl)) (rows_alike f g hs (λ k i. e k (inr i)))

-- the words of a cell, where no host has it twice
pub row_of : (w : Hosts) (i : ℕ) (x : Places) → AreApart (hosts_of x) → words_at w (cell i x) ≡ map (λ (h : HostId). (w h.0).registers ((register_of x h.0).0 + i)) (hosts_of x)
row_of w i [] apart = refl
row_of w i (q ∷ x) apart =
    ap₂ (λ (n : ℕ) (l : List ℕ). n ∷ l) (ap (λ (b : Bool). (w q.0.0).registers ((if b then q.1 else register_of x q.0.0).0 + i)) (sym (eq-eqb q.0.0 q.0.0 refl)))
    (row_of w i x apart.1
    ∙ rows_alike (λ h. (w h.0).registers ((register_of x h.0).0 + i)) (λ h. (w h.0).registers ((register_of (q ∷ x) h.0).0 + i)) (hosts_of x)
    (λ h j. ap (λ (b : Bool). (w h.0).registers ((if b then q.1 else register_of x h.0).0 + i)) (sym (ne_eqb h.0 q.0.0 (λ e. apart.0 (subst (λ z. IsHost (hosts_of x) z) e j))))))

-- a host's register of a cell is one of the cell's
pub in_cell : (i : ℕ) (x : Places) (h : ℕ) → IsHost (hosts_of x) h → IsIn (cell i x) h ((register_of x h).0 + i)
in_cell i [] h is = absurd is
in_cell i (q ∷ x) h is = at (in_cell i x h) (ℕ_discrete h q.0.0) is
  where
    at : (IsHost (hosts_of x) h → IsIn (cell i x) h ((register_of x h).0 + i)) → Dec (h ≡ q.0.0) → (h ≡ q.0.0) ⊎ IsHost (hosts_of x) h
        → IsIn (cell i (q ∷ x)) h ((register_of (q ∷ x) h).0 + i)
    at again (yes e) is = inl (e, ap (λ (b : Bool). (if b then q.1 else register_of x h).0 + i) (eq-eqb h q.0.0 e))
    at again (no d) (inl e) = absurd (d e)
    at again (no d) (inr j) = inr (subst (λ (b : Bool). IsIn (cell i x) h ((if b then q.1 else register_of x h).0 + i)) (sym (ne_eqb h q.0.0 d)) (again j))

-- one word at each host
pub all_same : (v : ℕ) (hs : List HostId) → AllAre v (map (λ (h : HostId). v) hs)
all_same v [] = tt
all_same v (h ∷ hs) = (refl, all_same v hs)

no_sum : (0 + 0) % 2 ^ 32 ≡ 0
no_sum = omega arith

-- zeros stand for 0
pub zeros_stand : (p : Proto) → has_back_end p ≡ true → Stand p (map (λ (h : HostId). 0) (holders p)) 0
zeros_stand (Local h) b = refl
zeros_stand (Rep set) b = all_same 0 (holders (Rep set))
zeros_stand (Commit u v) b = no_back_end b
zeros_stand (Add u v) b = no_sum
zeros_stand (Xor u v) b = xor_zero_r 0

copies_row : (w : Hosts) (x : Places) (v : ℕ) → Copies w x v → words_at w x ≡ map (λ (h : HostId). v) (hosts_of x)
copies_row w [] v c = refl
copies_row w (q ∷ x) v c = ap₂ (λ (n : ℕ) (l : List ℕ). n ∷ l) c.0 (copies_row w x v c.1)

pub zeros_there : (p : Proto) → has_back_end p ≡ true → (w : Hosts) (x : Places) → hosts_of x ≡ holders p → Copies w x 0 → Stand p (words_at w x) 0
zeros_there p b w x at c =
    subst (λ (l : List ℕ). Stand p l 0) (sym (copies_row w x 0 c ∙ ap (λ (hs : List HostId). map (λ (h : HostId). 0) hs) at)) (zeros_stand p b)

-- ---- each host takes a step, and has a word of its own

module _ (t : Tape) (source : ℕ → ℕ → Type 0) (f : HostId → List ℕ → Made Reg) (value : HostId → ℕ) (next0 : List ℕ) (w : Hosts) (P : HostId → Type 0)
    (law : (h : HostId) → P h → (next : List ℕ) (u : Hosts) → Since next0 w next u → GivesThere 8 t next source h (f h next) u (value h)) where
  -- the words of these hosts
  abbrev AreThese : List HostId → List ℕ → Hosts → Type 0
  AreThese hs next z = (hosts_of (each_made f hs next).given ≡ hs) × (words_at z (each_made f hs next).given ≡ map value hs)

  each_value : (hs : List HostId) → Each P hs → (next : List ℕ) (u : Hosts) → Since next0 w next u
      → DuetGives (8 * length hs) t next source (each_made f hs next) u (AreThese hs next)
  each_value [] ps next u s = record {
    orderly = orderly_still (8 * 0) next source [] tt (λ h r i. absurd i);
    reached = u;
    leads = leads_nothing t next nowhere u s.sound;
    is = (refl, refl);
  }
  each_value (h ∷ hs) ps next u s =
      let one = law h ps.0 next u s in
      let more = each_value hs ps.1 (f h next).next one.reached (since_on t 8 next0 next source (at_host h (f h next)) w u one.reached s one.orderly one.leads) in
      record {
        orderly = orderly_wider (8 + 8 * length hs) (8 * suc (length hs)) next source source (each_made f (h ∷ hs) next) (omega arith) (λ k r i. i)
            (orderly_on 8 (8 * length hs) next source (at_host h (f h next)) (each_made f hs (f h next).next) one.orderly more.orderly);
        reached = more.reached;
        leads = leads_on t next (f h next).next nowhere (f h next).gadgets (each_made f hs (f h next).next).gadgets u one.reached more.reached
            one.orderly.longer one.leads more.leads;
        is = (
          ap (λ (l : List HostId). h ∷ l) more.is.0,
          ap₂ (λ (n : ℕ) (l : List ℕ). n ∷ l) (more.leads.kept h.0 (f h next).given.0 one.orderly.below.0 (λ x. x) ∙ one.is) more.is.1,
        );
      }

each_host : (P : HostId → Type 0) (hs : List HostId) → ((h : HostId) → IsHost hs h.0 → P h) → Each P hs
each_host P [] f = tt
each_host P (h ∷ hs) f = (f h (inl refl), each_host P hs (λ k i. f k (inr i)))

module _ (t : Tape) (inputs : ℕ → List ℕ) (hosts : ℕ) (p : Proto) (made_here : has_back_end p ≡ true) (d : IsOver hosts p) (next : List ℕ) (w : Hosts)
    (r : Ready (M t inputs hosts) (S t inputs hosts) next w) where
  pub each_stands : (f : HostId → List ℕ → Made Reg) (value : HostId → ℕ) (v : ℕ) → Stand p (map value (holders p)) v
      → ((h : HostId) → IsHost (holders p) h.0 → (next' : List ℕ) (u : Hosts) → Since next w next' u → h.0 < length next' → GivesThere 8 t next' nowhere h (f h next') u (value h))
      → Gives (M t inputs hosts) (S t inputs hosts) next nothing (made_of (each_made f (holders p) next)) w p (Word v)
  each_stands f value v stands law =
      let few = few_holders p in
      let g = each_value t nowhere f value next w (λ h. (h.0 < length next) × IsHost (holders p) h.0)
      (λ h q next' u s. law h q.1 next' u s (subst (λ n. h.0 < n) (sym s.known) q.0))
      (holders p) (each_host (λ h. (h.0 < length next) × IsHost (holders p) h.0) (holders p) (λ h i. (subst (λ n. h.0 < n) (sym r.known) (host_known hosts (holders p) h.0 d.known i), i)))
      next w (since_start next w r.sound) in
      gives_word t inputs hosts (back_end p) next nowhere nothing (each_made f (holders p) next) w p v made_here (proto_is p) (λ h k z. z) (record {
        orderly = orderly_wider (8 * length (holders p)) most_taken next nowhere nowhere (each_made f (holders p) next) (omega (arith, few)) (λ h k i. i) g.orderly;
        reached = g.reached;
        leads = g.leads;
        is = record {
          at = g.is.0 ∙ ap holders (sym (proto_is p));
          word = subst (λ (z : Proto). Stand z (words_at g.reached (each_made f (holders p) next).given) v) (sym (proto_is p)) (subst (λ (l : List ℕ). Stand p l v) (sym g.is.1) stands);
        };
      })
