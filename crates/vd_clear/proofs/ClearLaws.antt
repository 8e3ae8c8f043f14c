-- The calls of hosts that hold words in clear do what a back end's are to do.
use Rattle.std.proofs.Common.{◌≡◌, ℕ, suc, ◌*◌, ◌^◌, ◌<◌, ◌≤◌, List, [], ◌∷◌, inl, inr, length, slice_index, refl, sym, ap, subst, ◌∙◌, arith}
use native.Mathlib.Decide.{ℕ_discrete}
use Rattle.vd_base.specs.declared.ids.HostId.{HostId}
use Rattle.vd_base.specs.declared.operations.Op.{Op}
use Rattle.vd_base.specs.declared.protocols.HostSet.{HostSet}
use Rattle.vd_base.specs.declared.protocols.Proto.{Proto}
use Rattle.vd_base.specs.declared.protocols.Proto.TheVariants.{Local, Rep, Commit, Add, Xor}
use Rattle.vd_base.specs.Arity.{arity}
use Rattle.vd_base.specs.Operations.{result_of}
use Rattle.vd_base.specs.Holders.{holders}
use Rattle.vd_base.proofs.Front.{few_holders}
use Rattle.vd_execution.specs.declared.instructions.Reg.{Reg}
use Rattle.vd_execution.specs.declared.instructions.Action.TheVariants as action
use Rattle.vd_execution.specs.Registers.{put}
use Rattle.vd_execution.specs.World.{Tape}
use Rattle.vd_execution.specs.Deals.{IsValidDeal}
use Rattle.vd_execution.specs.Joint.{Hosts}
use Rattle.vd_execution.specs.Gadgets.{Alone, GadgetsAreTidy, IsSound}
use Rattle.vd_duet.specs.Builder.{next_at, most_taken}
use Rattle.vd_duet.specs.Calls.{Places, hosts_of, Made, AllAre, register_of}
use Rattle.vd_duet.specs.Laws.{Each, IsIn, IsInOne, IsHost, nowhere, words_at, AreKnown, AreBelow, Leads, GivesThere, GivesWord, Copies, StandFor, Operand, Operands, IsReady, Reaches, Renews, NumberFits, BackendLaws}
use Rattle.vd_duet.proofs.Front.{Writes, wrote, writes_own, leads_nothing, leads_writing, leads_on, orderly_still, orderly_wider, below_later, Since, since_start, Holds, Found, found}
use Rattle.vd_clear.specs.Copies.{literal_at, passed, adopted, kept_by, first_of, after_first, applied_at, shown, each_made, renewed, clear_calls, spread_to}
use Rattle.vd_clear.proofs.Members.{few_places, length_hosts}
use Rattle.vd_clear.proofs.EachLaw.{each_law}
use Rattle.vd_clear.proofs.HostLaws.{adopted_there, written_there, passed_there, operated_there}
use Rattle.vd_clear.proofs.ShowLaws.{shown_there, copies_later}

-- words stand in clear at the protocol
abbrev pub IsClear : Proto → Type 0
IsClear (Local h) = Unit {0}
IsClear (Rep set) = Unit {0}
IsClear (Commit p v) = ⊥
IsClear (Add a b) = ⊥
IsClear (Xor a b) = ⊥

-- ---- what stands for a word is a copy of it at each host

too_long : (n : ℕ) → suc (suc n) ≡ 1 → ⊥
too_long n e = omega (arith, e)

none : (n : ℕ) → n ≡ suc n → ⊥
none n e = omega (arith, e)

all_copies : (w : Hosts) (x : Places) (v : ℕ) → AllAre v (words_at w x) → Copies w x v
all_copies w [] v a = tt
all_copies w (q ∷ x) v a = (a.0, all_copies w x v a.1)

copies_all : (w : Hosts) (x : Places) (v : ℕ) → Copies w x v → AllAre v (words_at w x)
copies_all w [] v a = tt
copies_all w (q ∷ x) v a = (a.0, copies_all w x v a.1)

one_copy : (w : Hosts) (x : Places) (v : ℕ) → words_at w x ≡ v ∷ [] → Copies w x v
one_copy w [] v e = tt
one_copy w (q ∷ []) v e = (ap (λ (l : List ℕ). slice_index l 0) e, tt)
one_copy w (q ∷ p ∷ x) v e = absurd (too_long (length (words_at w x)) (ap (λ (l : List ℕ). length l) e))

copy_one : (h : HostId) (w : Hosts) (x : Places) (v : ℕ) → hosts_of x ≡ h ∷ [] → Copies w x v → words_at w x ≡ v ∷ []
copy_one h w [] v at c = absurd (none 0 (ap (λ (l : List HostId). length l) at))
copy_one h w (q ∷ []) v at c = ap (λ z. z ∷ []) c.0
copy_one h w (q ∷ p ∷ x) v at c = absurd (too_long (length (hosts_of x)) (ap (λ (l : List HostId). length l) at))

pub copies_of : (p : Proto) → IsClear p → (w : Hosts) (x : Places) (v : ℕ) → StandFor (clear_calls p) w x v → Copies w x v
copies_of (Local h) clear w x v s = one_copy w x v s.word
copies_of (Rep set) clear w x v s = all_copies w x v s.word
copies_of (Commit p v) clear w x u s = absurd clear
copies_of (Add a b) clear w x v s = absurd clear
copies_of (Xor a b) clear w x v s = absurd clear

stand_for : (p : Proto) → IsClear p → (w : Hosts) (x : Places) (v : ℕ) → hosts_of x ≡ holders p → Copies w x v → StandFor (clear_calls p) w x v
stand_for (Local h) clear w x v at c = record { at = at; word = copy_one h w x v at c }
stand_for (Rep set) clear w x v at c = record { at = at; word = copies_all w x v c }
stand_for (Commit p v) clear w x u at c = absurd clear
stand_for (Add a b) clear w x v at c = absurd clear
stand_for (Xor a b) clear w x v at c = absurd clear

-- ---- facts of each host

each_map : {X : Type 0} (P R : X → Type 0) → ((x : X) → P x → R x) → (xs : List X) → Each P xs → Each R xs
each_map P R f [] e = tt
each_map P R f (x ∷ xs) e = (f x e.0, each_map P R f xs e.1)

with_hosts : (P : HostId → Type 0) (hs : List HostId) → Each P hs → Each (λ h. P h × IsHost hs h.0) hs
with_hosts P [] e = tt
with_hosts P (h ∷ hs) e =
    ((e.0, inl refl), each_map (λ k. P k × IsHost hs k.0) (λ k. P k × IsHost (h ∷ hs) k.0) (λ k q. (q.0, inr q.1)) hs (with_hosts P hs e.1))

found_later : (next next' : List ℕ) (w u : Hosts) (x : Places) (h : HostId) (v : ℕ) → Since next w next' u → Found next w x h v → Found next' u x h v
found_later next next' w u x h v s f = record {
  holds = record {
    here = s.kept h.0 (register_of x h.0).0 f.holds.low ∙ f.holds.here;
    low = let l = s.longer h.0 in let k = f.holds.low in omega (arith, l, k);
  };
  named = f.named;
}

holds_later : (next next' : List ℕ) (w u : Hosts) (h : HostId) (x : Reg) (v : ℕ) → Since next w next' u → Holds next w h x v → Holds next' u h x v
holds_later next next' w u h x v s f = record { here = s.kept h.0 x.0 f.low ∙ f.here; low = let l = s.longer h.0 in let k = f.low in omega (arith, l, k) }

-- ---- copies are written over

module _ (t : Tape) (deal : IsValidDeal t) (next : List ℕ) (x kept : Places) (v : ℕ) where
  record Renewed (ks : Places) (u : Hosts) : Type 0 where
    pub reached : Hosts
    pub leads : Leads t next (IsIn kept) (renewed ks x) u reached
    pub copies : Copies reached ks v
    pub keeps : (k r : ℕ) → (u k).registers r ≡ v → (reached k).registers r ≡ v

  renewed_tidy : (ks : Places) → GadgetsAreTidy (renewed ks x)
  renewed_tidy [] = tt
  renewed_tidy (q ∷ ks) = (tt, renewed_tidy ks)

  written_over : (h r value : ℕ) (u u' : Hosts) → value ≡ v → Writes h r value u u' → (k q : ℕ) → (u k).registers q ≡ v → (u' k).registers q ≡ v
  written_over h r value u u' is c k q e =
      elim (ℕ_discrete k h) [
        | yes i ↦ elim (ℕ_discrete q r) [
          | yes j ↦ subst (λ z. (u' z).registers q ≡ v) (sym i) (subst (λ z. (u' h).registers z ≡ v) (sym j) (c.there ∙ is))
          | no d ↦ c.elsewhere k q (λ a b. d b) ∙ e
        ]
        | no d ↦ c.elsewhere k q (λ a b. d a) ∙ e
      ]

  all_keep : (u u' : Hosts) → ((k r : ℕ) → (u k).registers r ≡ v → (u' k).registers r ≡ v) → (y : Places) → Copies u y v → Copies u' y v
  all_keep u u' f [] c = tt
  all_keep u u' f (q ∷ y) c = (f q.0.0 q.1.0 c.0, all_keep u u' f y c.1)

  renewed_law : (ks : Places) (u : Hosts) → IsSound u → AreBelow next x → Copies u x v → Each (λ q. IsHost (hosts_of x) q.0.0) ks
      → ((h r : ℕ) → IsIn ks h r → IsIn kept h r) → Renewed ks u
  renewed_law [] u sound below c among inside =
      record { reached = u; leads = leads_nothing t next (IsIn kept) u sound; copies = tt; keeps = λ k r e. e }
  renewed_law (q ∷ ks) u sound below c among inside =
      let f = found next u x q.0 v among.0 below c in
      let value : ℕ = (u q.0.0).registers (register_of x q.0.0).0 in
      let u' : Hosts = put u q.0.0 (wrote q.1.0 ((u q.0.0).registers (register_of x q.0.0).0) (u q.0.0)) in
      let d : Writes q.0.0 q.1.0 value u u' = writes_own q.0.0 q.1.0 ((u q.0.0).registers (register_of x q.0.0).0) u in
      let one : Leads t next (IsIn kept) (Alone q.0 (action.Copy q.1 (register_of x q.0.0)) ∷ []) u u' =
      leads_writing t deal next (IsIn kept) (Alone q.0 (action.Copy q.1 (register_of x q.0.0)) ∷ []) q.0.0 q.1.0 value u u' refl (tt, tt) (tt, tt) sound d
      (inr (inside q.0.0 q.1.0 (inl (refl, refl)))) in
      let over = written_over q.0.0 q.1.0 value u u' f.holds.here d in
      let more = renewed_law ks u' one.sound below (all_keep u u' over x c) among.1 (λ h r i. inside h r (inr i)) in
      record {
        reached = more.reached;
        leads = leads_on t next next (IsIn kept) (Alone q.0 (action.Copy q.1 (register_of x q.0.0)) ∷ []) (renewed ks x) u u' more.reached (λ h. omega arith) one more.leads;
        copies = (more.keeps q.0.0 q.1.0 (d.there ∙ f.holds.here), more.copies);
        keeps = λ k r e. more.keeps k r (over k r e);
      }

-- ---- the laws

hosts_among : (x : Places) (hs : List HostId) → hosts_of x ≡ hs → Each (λ q. IsHost hs q.0.0) x
hosts_among x hs e = subst (λ (l : List HostId). Each (λ q. IsHost l q.0.0) x) e (all x)
  where
    all : (y : Places) → Each (λ q. IsHost (hosts_of y) q.0.0) y
    all [] = tt
    all (q ∷ y) = (inl refl, each_map (λ z. IsHost (hosts_of y) z.0.0) (λ z. IsHost (hosts_of (q ∷ y)) z.0.0) (λ z i. inr i) y (all y))

abbrev later : List ℕ → List ℕ
later [] = []
later (v ∷ vs) = vs

later_first : (vs : List ℕ) → slice_index (later vs) 0 ≡ slice_index vs 1
later_first [] = refl
later_first (v ∷ vs) = refl

later_second : (vs : List ℕ) → slice_index (later (later vs)) 0 ≡ slice_index vs 2
later_second [] = refl
later_second (v ∷ []) = refl
later_second (v ∷ u ∷ vs) = refl

after_length : (xs : List Places) (n : ℕ) → suc n < length xs → n < length (after_first xs)
after_length [] n e = omega (arith, e)
after_length (x ∷ xs) n e = omega (arith, e)

module _ (p : Proto) (clear : IsClear p) (t : Tape) (next : List ℕ) (w : Hosts) (ready : IsReady (clear_calls p) t next w) where
  -- each host takes a step
  each_word : (source : ℕ → ℕ → Type 0) (f : HostId → List ℕ → Made Reg) (v : ℕ)
      → ((h : HostId) → IsHost (holders p) h.0 → (next' : List ℕ) (u : Hosts) → Since next w next' u → h.0 < length next' → GivesThere 8 t next' source h (f h next') u v)
      → GivesWord (clear_calls p) t next source (each_made f (holders p) next) w v
  each_word source f v law =
      let few = few_holders p in
      let g = each_law t source f v next w (λ h. (h.0 < length next) × IsHost (holders p) h.0)
      (λ h q next' u s. law h q.1 next' u s (subst (λ n. h.0 < n) (sym s.known) q.0))
      (holders p) (with_hosts (λ h. h.0 < length next) (holders p) ready.known) next w (since_start next w ready.sound) in
      record {
        orderly = orderly_wider (8 * length (holders p)) most_taken next source source (each_made f (holders p) next) (omega (arith, few)) (λ h r i. i) g.orderly;
        reached = g.reached;
        leads = g.leads;
        is = stand_for p clear g.reached (each_made f (holders p) next).given v g.is.0 g.is.1;
      }

  operand_found : (x : Places) (v : ℕ) → Operand (clear_calls p) next w x v → (h : HostId) → IsHost (holders p) h.0 → Found next w x h v
  operand_found x v o h i =
      found next w x h v (subst (λ (l : List HostId). IsHost l h.0) (sym o.stands.at) i) o.below (copies_of p clear w x v o.stands)

  few_in : (x : Places) → hosts_of x ≡ holders p → length x ≤ 8
  few_in x e = let few = few_holders p in subst (λ n. n ≤ 8) (sym (ap (λ (l : List HostId). length l) e) ∙ length_hosts x) few

  literal_law : (v : ℕ) → v < 2 ^ 32 → GivesWord (clear_calls p) t next nowhere ((clear_calls p).literal v next) w v
  literal_law v small =
      each_word nowhere (literal_at v) v (λ h i next' u s known. written_there t ready.deal next' u s.sound h known nowhere (λ r. action.Const r v) v small refl tt)

  share_law : (from : HostId) (x : Reg) → x.0 < slice_index next from.0
      → GivesWord (clear_calls p) t next (IsIn ((from, x) ∷ [])) ((clear_calls p).share from x next) w ((w from.0).registers x.0)
  share_law from x low =
      each_word (IsIn ((from, x) ∷ [])) (passed from x) ((w from.0).registers x.0) (λ h i next' u s known.
      passed_there t ready.deal next' u s.sound h known (IsIn ((from, x) ∷ [])) from x ((w from.0).registers x.0)
      (holds_later next next' w u from x ((w from.0).registers x.0) s (record { here = refl; low = low })) (inl (refl, refl)))

  adopt_law : (x : Places) (v : ℕ) → Reaches (clear_calls p) next w x v → GivesWord (clear_calls p) t next (IsIn x) ((clear_calls p).adopt x next) w v
  adopt_law x v r =
      each_word (IsIn x) (adopted x) v (λ h i next' u s known.
      adopted_there t next' u x h v s.sound (found_later next next' w u x h v s (found next w x h v (r.hosts h.0 i) r.below r.copies)))

  show_law : (some : ℕ) → IsHost (holders p) some → (x : Places) (v : ℕ) → Operand (clear_calls p) next w x v → (at : HostId) → at.0 < length next
      → GivesThere most_taken t next (IsIn x) at ((clear_calls p).show x at next) w v
  show_law some member x v o at known =
      let g = shown_there t ready.deal v at x next w ready.sound known some (subst (λ (l : List HostId). IsHost l some) (sym o.stands.at) member)
      (few_in x o.stands.at) o.below (copies_of p clear w x v o.stands) in
      record {
        orderly = orderly_wider 8 most_taken next (IsIn x) (IsIn x) (record { given = (at, (shown x at next).given) ∷ []; gadgets = (shown x at next).gadgets; next = (shown x at next).next })
            (omega arith) (λ h r i. i) g.orderly;
        reached = g.reached;
        leads = g.leads;
        is = g.is;
      }

  keep_law : (x : Places) (v : ℕ) → Operand (clear_calls p) next w x v → GivesWord (clear_calls p) t next nowhere ((clear_calls p).keep x next) w v
  keep_law x v o =
      each_word nowhere (kept_by x) v (λ h i next' u s known.
      let f = found_later next next' w u x h v s (operand_found x v o h i) in
      written_there t ready.deal next' u s.sound h known nowhere (λ r. action.Copy r (register_of x h.0)) v tt
      (ap (λ z. put u h.0 (wrote (next_at next' h).0 z (u h.0))) f.holds.here) tt)

  renew_law : (kept x : Places) (u v : ℕ) → Operand (clear_calls p) next w kept u → Operand (clear_calls p) next w x v → Renews (clear_calls p) t next kept x w v
  renew_law kept x u v k o =
      let r = renewed_law t ready.deal next x kept v kept w ready.sound o.below (copies_of p clear w x v o.stands)
      (hosts_among kept (hosts_of x) (k.stands.at ∙ sym o.stands.at)) (λ h q i. i) in
      record {
        tidy = renewed_tidy t ready.deal next x kept v kept;
        reached = r.reached;
        leads = r.leads;
        stands = stand_for p clear r.reached kept v k.stands.at r.copies;
      }

  first_holds : (xs : List Places) (vs : List ℕ) → Operands (clear_calls p) next w xs vs → 0 < length xs → (h : HostId) → IsHost (holders p) h.0
      → Holds next w h (first_of xs h) (slice_index vs 0)
  first_holds [] vs o many h i = absurd (none_below many)
    where
      none_below : 0 < 0 → ⊥
      none_below e = omega (arith, e)
  first_holds (x ∷ xs) [] o many h i = absurd o
  first_holds (x ∷ xs) (v ∷ vs) o many h i = (operand_found x v o.0 h i).holds

  after : (xs : List Places) (vs : List ℕ) → Operands (clear_calls p) next w xs vs → Operands (clear_calls p) next w (after_first xs) (later vs)
  after [] [] o = tt
  after [] (v ∷ vs) o = absurd o
  after (x ∷ xs) [] o = absurd o
  after (x ∷ xs) (v ∷ vs) o = o.1

  apply_law : (o : Op) → NumberFits o → (xs : List Places) (vs : List ℕ) → length xs ≡ arity o → Operands (clear_calls p) next w xs vs
      → GivesWord (clear_calls p) t next (IsInOne xs) ((clear_calls p).apply o xs next) w (result_of o vs)
  apply_law o fits xs vs e os =
      each_word (IsInOne xs) (applied_at o xs) (result_of o vs) (λ h i next' u s known.
      operated_there t ready.deal next' u s.sound h known (IsInOne xs) o fits (first_of xs h) (first_of (after_first xs) h) (first_of (after_first (after_first xs)) h)
      (slice_index vs 0) (slice_index vs 1) (slice_index vs 2)
      (λ many. holds_later next next' w u h (first_of xs h) (slice_index vs 0) s (first_holds xs vs os (subst (λ n. 0 < n) (sym e) many) h i))
      (λ many. holds_later next next' w u h (first_of (after_first xs) h) (slice_index vs 1) s
      (subst (λ z. Holds next w h (first_of (after_first xs) h) z) (later_first vs)
      (first_holds (after_first xs) (later vs) (after xs vs os) (after_length xs 0 (subst (λ n. 1 < n) (sym e) many)) h i)))
      (λ many. holds_later next next' w u h (first_of (after_first (after_first xs)) h) (slice_index vs 2) s
      (subst (λ z. Holds next w h (first_of (after_first (after_first xs)) h) z) (later_second vs)
      (first_holds (after_first (after_first xs)) (later (later vs)) (after (after_first xs) (later vs) (after xs vs os))
      (after_length (after_first xs) 0 (after_length xs 1 (subst (λ n. 2 < n) (sym e) many))) h i))))

pub clear_laws : (p : Proto) → IsClear p → (some : ℕ) → IsHost (holders p) some → BackendLaws (clear_calls p)
clear_laws p clear some member = record {
  literal = λ t next w ready v small. literal_law p clear t next w ready v small;
  share = λ t next w ready from can known x low. share_law p clear t next w ready from x low;
  adopt = λ t next w ready x v r. adopt_law p clear t next w ready x v r;
  show = λ t next w ready x v o at can known. show_law p clear t next w ready some member x v o at known;
  show_all = λ t next w ready x v o. record {
    orderly = orderly_still most_taken next (IsIn x) x o.below (λ h r i. i);
    reached = w;
    leads = leads_nothing t next nowhere w ready.sound;
    is = (o.stands.at, copies_of p clear w x v o.stands);
  };
  keep = λ t next w ready x v o. keep_law p clear t next w ready x v o;
  renew = λ t next w ready kept x u v k o. renew_law p clear t next w ready kept x u v k o;
  apply = λ t next w ready o serves fits xs vs e os. apply_law p clear t next w ready o fits xs vs e os;
}

pub spread_law : (from to : HostSet) (some : ℕ) → IsHost (holders (Rep from)) some → (t : Tape) (next : List ℕ) (w : Hosts) → IsReady (clear_calls (Rep from)) t next w
    → AreKnown (holders (Rep to)) next → (x : Places) (v : ℕ) → Operand (clear_calls (Rep from)) next w x v
    → GivesWord (clear_calls (Rep to)) t next (IsIn x) (spread_to to x next) w v
spread_law from to some member t next w ready known x v o =
    each_word (Rep to) tt t next w (record { deal = ready.deal; sound = ready.sound; known = known }) (IsIn x) (shown x) v (λ h i next' u s low.
    shown_there t ready.deal v h x next' u s.sound low some (subst (λ (l : List HostId). IsHost l some) (sym o.stands.at) member)
    (few_places x from o.stands.at) (below_later next next' x s.longer o.below) (copies_later next w u x v o.below s.kept (copies_of (Rep from) tt w x v o.stands)))
