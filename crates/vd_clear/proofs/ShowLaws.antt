-- Copies that are told to a host, which compares them.
use Rattle.std.proofs.Common.{◌≡◌, ◌≢◌, ℕ, suc, ◌+◌, ◌<◌, ◌≤◌, nat_eq, Bool, true, false, if◌then◌else◌, ◌||◌, List, [], ◌∷◌, ◌++◌, inl, inr, length, map, slice_index, refl, sym, ap, subst, ◌∙◌, arith}
use Rattle.vd_base.specs.declared.ids.HostId.{HostId}
use Rattle.vd_base.specs.Holders.{is_among}
use Rattle.vd_execution.specs.declared.instructions.Reg.{Reg}
use Rattle.vd_execution.specs.declared.instructions.Action.TheVariants as action
use Rattle.vd_execution.specs.Registers.{put}
use Rattle.vd_execution.specs.Step.{Nothing, Unequal, Cursors, advanced}
use Rattle.vd_execution.specs.World.{Tape}
use Rattle.vd_execution.specs.Deals.{IsValidDeal}
use Rattle.vd_execution.specs.Joint.{Host, Hosts, after_do, after_msg}
use Rattle.vd_execution.specs.Acts.{run_acts, ActsAgree}
use Rattle.vd_execution.specs.Gadgets.{Gadget, Alone, Tells, acts_of_gadgets, GadgetsAreTidy, IsSound}
use Rattle.vd_execution.proofs.Front.{put_itself}
use Rattle.vd_duet.specs.Builder.{next_at, taken}
use Rattle.vd_duet.specs.Calls.{Places, hosts_of, Made}
use Rattle.vd_duet.specs.Laws.{Leads, IsOrderly, Gives, GivesThere, IsIn, IsHost, nowhere, AreBelow, Copies}
use Rattle.vd_duet.proofs.Front.{differ_of, equal_of, found, writes_heard, leads_nothing, leads_writing, leads_on, orderly_still, orderly_fresh, orderly_on, orderly_wider, tidy_append, taken_known, taken_bounds, below_later}
use Rattle.vd_clear.specs.Copies.{adopted, told, compared, first_register, shown}
use Rattle.vd_clear.proofs.HostLaws.{adopted_there}

-- registers of one host
abbrev all_at : HostId → List Reg → Places
all_at to rs = map (λ r. (to, r)) rs

abbrev told_places : Places → HostId → List ℕ → Made Places
told_places x to next = record { given = all_at to (told x to next).given; gadgets = (told x to next).gadgets; next = (told x to next).next }

-- copies stay, where taken registers are kept
pub copies_later : (next : List ℕ) (w u : Hosts) (x : Places) (v : ℕ) → AreBelow next x → ((h r : ℕ) → r < slice_index next h → (u h).registers r ≡ (w h).registers r)
    → Copies w x v → Copies u x v
copies_later next w u [] v b kept c = tt
copies_later next w u (q ∷ x) v b kept c = (kept q.0.0 q.1.0 b.0 ∙ c.0, copies_later next w u x v b.1 kept c.1)

module _ (t : Tape) (deal : IsValidDeal t) (source : ℕ → ℕ → Type 0) (v : ℕ) (to : HostId) where
  told_law : (x : Places) (next : List ℕ) (w : Hosts) → IsSound w → to.0 < length next → (IsHost (hosts_of x) to.0 → ⊥) → AreBelow next x → Copies w x v
      → Gives (length x) t next source (told_places x to next) w (λ u. Copies u (all_at to (told x to next).given) v)
  told_law [] next w sound known apart below copies = record {
    orderly = orderly_still 0 next source [] tt (λ h r i. absurd i);
    reached = w;
    leads = leads_nothing t next nowhere w sound;
    is = tt;
  }
  told_law (q ∷ x) next w sound known apart below copies =
      let r : Reg = next_at next to in
      let differ : q.0.0 ≢ to.0 = λ e. apart (inl (sym e)) in
      let gadgets : List Gadget = Tells q.0 (q.1 ∷ []) to (next_at next to ∷ []) ∷ [] in
      let u : Hosts = after_msg q.0.0 (q.1 ∷ []) to.0 (next_at next to ∷ []) w in
      let heard = writes_heard q.0.0 q.1 to.0 (next_at next to) w differ in
      let one : Leads t next nowhere (Tells q.0 (q.1 ∷ []) to (next_at next to ∷ []) ∷ []) w u =
      leads_writing t deal next nowhere (Tells q.0 (q.1 ∷ []) to (next_at next to ∷ []) ∷ []) to.0 (next_at next to).0 ((w q.0.0).registers q.1.0) w u
      refl (tt, tt) ((differ, refl), tt) sound heard (inl (omega arith)) in
      let fresh : IsOrderly 1 next source (record { given = (to, next_at next to) ∷ []; gadgets = Tells q.0 (q.1 ∷ []) to (next_at next to ∷ []) ∷ []; next = taken to 1 next }) =
      orderly_fresh to 1 1 next source (Tells q.0 (q.1 ∷ []) to (next_at next to ∷ []) ∷ []) (next_at next to) known (omega arith) ((differ, refl), tt) (omega arith) (omega arith) in
      let more = told_law x (taken to 1 next) u one.sound (subst (λ n. to.0 < n) (sym (taken_known to 1 next)) known) (λ i. apart (inr i))
      (below_later next (taken to 1 next) x (λ h. (taken_bounds to 1 next known h).0) below.1)
      (copies_later next w u x v below.1 (λ h k low. one.kept h k low (λ z. z)) copies.1) in
      record {
        orderly = orderly_wider (1 + length x) (suc (length x)) next source source (told_places (q ∷ x) to next) (omega arith) (λ h k i. i)
            (orderly_on 1 (length x) next source (record { given = (to, next_at next to) ∷ []; gadgets = Tells q.0 (q.1 ∷ []) to (next_at next to ∷ []) ∷ []; next = taken to 1 next })
            (told_places x to (taken to 1 next)) fresh more.orderly);
        reached = more.reached;
        leads = leads_on t next (taken to 1 next) nowhere (Tells q.0 (q.1 ∷ []) to (next_at next to ∷ []) ∷ []) (told x to (taken to 1 next)).gadgets w u more.reached
            (λ h. (taken_bounds to 1 next known h).0) one more.leads;
        is = (more.leads.kept to.0 (next_at next to).0 fresh.below.0 (λ z. z) ∙ heard.there ∙ copies.0, more.is);
      }

still_there : (b : Bool) (x y : ℕ) (c : Cursors) → advanced c (if b then Nothing else Unequal x y) ≡ c
still_there true x y c = refl
still_there false x y c = refl

same_stays : (t : Tape) (h : ℕ) (x y : Reg) (w : Hosts) → after_do t h (action.Same x y) w ≡ w
same_stays t h x y w =
    ap (λ (s : Host). put w h s) (ap (λ (c : Cursors). let s : Host = record (w h) { cursors = c } in s)
    (still_there (nat_eq ((w h).registers x.0) ((w h).registers y.0)) ((w h).registers x.0) ((w h).registers y.0) (w h).cursors))
    ∙ put_itself w h

module _ (t : Tape) (to : HostId) (r : Reg) (v : ℕ) (w : Hosts) (first : (w to.0).registers r.0 ≡ v) where
  abbrev others : List Reg → List Gadget
  others rs = map (λ s. Alone to (action.Same r s)) rs

  compared_runs : (rs : List Reg) → run_acts t (acts_of_gadgets (others rs)) w ≡ w
  compared_runs [] = refl
  compared_runs (s ∷ rs) = ap (run_acts t (acts_of_gadgets (others rs))) (same_stays t to.0 r s w) ∙ compared_runs rs

  compared_agrees : (rs : List Reg) → Copies w (all_at to rs) v → ActsAgree t (acts_of_gadgets (others rs)) w
  compared_agrees [] c = tt
  compared_agrees (s ∷ rs) c = (first ∙ sym c.0, subst (ActsAgree t (acts_of_gadgets (others rs))) (sym (same_stays t to.0 r s w)) (compared_agrees rs c.1))

  compared_leads : (next : List ℕ) (rs : List Reg) → IsSound w → Copies w (all_at to rs) v → Leads t next nowhere (others rs) w w
  compared_leads next rs sound c = record {
    runs = compared_runs rs;
    agrees = compared_agrees rs c;
    sound = sound;
    kept = λ h q a b. refl;
    printed = λ h. refl;
    inputs = λ h. refl;
  }

  compared_tidy : (rs : List Reg) → GadgetsAreTidy (others rs)
  compared_tidy [] = tt
  compared_tidy (s ∷ rs) = (tt, compared_tidy rs)

-- ---- the whole

is_host : (hosts : List HostId) (h : ℕ) → is_among hosts h ≡ true → IsHost hosts h
is_host [] h e = cc
is_host (k ∷ ks) h e = at (is_host ks h) (nat_eq h k.0) refl e
  where
    at : (is_among ks h ≡ true → IsHost ks h) → (b : Bool) → nat_eq h k.0 ≡ b → (b || is_among ks h) ≡ true → IsHost (k ∷ ks) h
    at again true i f = inl (equal_of h k.0 i)
    at again false i f = inr (again f)

no_host : (hosts : List HostId) (h : ℕ) → is_among hosts h ≡ false → IsHost hosts h → ⊥
no_host [] h e i = i
no_host (k ∷ ks) h e i = at (no_host ks h) (nat_eq h k.0) refl e i
  where
    at : (is_among ks h ≡ false → IsHost ks h → ⊥) → (b : Bool) → nat_eq h k.0 ≡ b → (b || is_among ks h) ≡ false → IsHost (k ∷ ks) h → ⊥
    at again true j f i = cc
    at again false j f (inl i) = differ_of h k.0 j i
    at again false j f (inr i) = again f i

module _ (t : Tape) (deal : IsValidDeal t) (v : ℕ) (to : HostId) where
  told_there : (x : Places) (next : List ℕ) (w : Hosts) → IsSound w → to.0 < length next → (some : ℕ) → IsHost (hosts_of x) some → length x ≤ 8
      → AreBelow next x → Copies w x v → (IsHost (hosts_of x) to.0 → ⊥)
      → GivesThere 8 t next (IsIn x) to (record {
        given = first_register (told x to next).given;
        gadgets = (told x to next).gadgets ++ compared to (told x to next).given;
        next = (told x to next).next;
      }) w v
  told_there [] next w sound known some i few below copies apart = absurd i
  told_there (q ∷ x) next w sound known some i few below copies apart =
      let g = told_law t deal (IsIn (q ∷ x)) v to (q ∷ x) next w sound known apart below copies in
      let rest : List Reg = (told x to (taken to 1 next)).given in
      record {
        orderly = record {
          tidy = tidy_append (told (q ∷ x) to next).gadgets (others t to (next_at next to) v g.reached g.is.0 rest) g.orderly.tidy (compared_tidy t to (next_at next to) v g.reached g.is.0 rest);
          few = (g.orderly.few.0, λ h. let b = g.orderly.few.1 h in omega (arith, b, few));
          longer = g.orderly.longer;
          below = (g.orderly.below.0, tt);
          from = λ h r j. elim j [ inl p ↦ g.orderly.from h r (inl p) | inr p ↦ absurd p ];
        };
        reached = g.reached;
        leads = leads_on t next (told (q ∷ x) to next).next nowhere (told (q ∷ x) to next).gadgets (others t to (next_at next to) v g.reached g.is.0 rest) w g.reached g.reached
            g.orderly.longer g.leads (compared_leads t to (next_at next to) v g.reached g.is.0 (told (q ∷ x) to next).next rest g.leads.sound g.is.1);
        is = g.is.0;
      }

  pub shown_there : (x : Places) (next : List ℕ) (w : Hosts) → IsSound w → to.0 < length next → (some : ℕ) → IsHost (hosts_of x) some → length x ≤ 8
      → AreBelow next x → Copies w x v → GivesThere 8 t next (IsIn x) to (shown x to next) w v
  shown_there x next w sound known some i few below copies = at (is_among (hosts_of x) to.0) refl
    where
      at : (own : Bool) → is_among (hosts_of x) to.0 ≡ own
          → let made : Made Reg = if own then adopted x to next else record {
            given = first_register (told x to next).given;
            gadgets = (told x to next).gadgets ++ compared to (told x to next).given;
            next = (told x to next).next;
          } in GivesThere 8 t next (IsIn x) to made w v
      at true e = adopted_there t next w x to v sound (found next w x to v (is_host (hosts_of x) to.0 e) below copies)
      at false e = told_there x next w sound known some i few below copies (no_host (hosts_of x) to.0 e)
