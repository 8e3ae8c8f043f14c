-- The calls of two hosts that share words do what a back end's are to do, where its operations do.
use Rattle.std.proofs.Common.{◌≡◌, ◌≢◌, ℕ, ◌+◌, ◌^◌, ◌<◌, nat_eq, Bool, true, false, ◌||◌, if◌then◌else◌, IsTrue, List, [], ◌∷◌, ◌⊎◌, inl, inr, length, refl, sym, ap, ap₂, subst, ◌∙◌, arith, rules}
use Rattle.std.specs.Prelude.{◌==◌, slice_index, is_some}
use Rattle.vd_base.specs.declared.ids.HostId.{HostId}
use Rattle.vd_base.specs.declared.operations.Op.{Op}
use Rattle.vd_base.specs.declared.protocols.Proto.TheVariants.{Local}
use Rattle.vd_base.specs.Arity.{arity}
use Rattle.vd_base.specs.Moves.{move_if}
use Rattle.vd_base.specs.Operations.{result_of}
use Rattle.vd_base.specs.Holders.{holders}
use Rattle.vd_execution.specs.declared.instructions.Reg.{Reg}
use Rattle.vd_execution.specs.declared.instructions.Action.TheVariants as action
use Rattle.vd_execution.specs.Registers.{put}
use Rattle.vd_execution.specs.Joint.{Hosts}
use Rattle.vd_execution.specs.Step.{OwnWords}
use Rattle.vd_execution.specs.World.{Tape}
use Rattle.vd_execution.specs.Gadgets.{Sharing, BySums, ByXors, hide, Alone, Shares as SharesWith, Opens}
use Rattle.vd_execution.specs.Text.{register}
use Rattle.vd_duet.specs.Builder.{next_at, most_taken}
use Rattle.vd_duet.specs.Calls.{Places, hosts_of, Made, register_of}
use Rattle.vd_duet.specs.Laws.{IsIn, IsInOne, nowhere, Joins, Leads, Gives, GivesThere, GivesWord, Copies, StandFor, Operand, Operands, IsReady, Reaches, Renews, NumberFits, BackendLaws}
use Rattle.vd_duet.proofs.Front.{Writes, wrote, writes_own, leads_writing, leads_on, found}
use Rattle.vd_backend_sharing.specs.declared.shares.PartRegisters.{PartRegisters}
use Rattle.vd_backend_sharing.specs.Sharings.{shared_by, join, joined, hidden}
use Rattle.vd_backend_sharing.specs.PairCalls.{two, literal_shares, split_off, exchanged, shared_from, adopted_shares, opened_by, shown_at, shown_to_both, kept_shares, shares_of, places_at, at_hosts, pair_calls}
use Rattle.vd_backend_sharing.proofs.Deeds.{First, Second, Old, New, Number, Copied, Applied, GivenAway, Opened, nothing_left, own_word}
use Rattle.vd_backend_sharing.proofs.Fresh.{pair_at, fresh_gives, one_gives}
use Rattle.vd_backend_sharing.proofs.Joined.{joined_zero, hidden_joined, joined_turned}
use Rattle.vd_backend_sharing.proofs.Parts.{Parts, stands_by, held, first_holds, both_known, parts_of, parts_named, stands_anew}

same_id : (a b : HostId) → a.0 ≡ b.0 → a ≡ b
same_id a b e = ap (λ n. let h : HostId = record { 0 = n } in h) e

equal_of : (a b : ℕ) → nat_eq a b ≡ true → a ≡ b
equal_of a b i = grind (arith, rules)

differ_of : (a b : ℕ) → nat_eq a b ≡ false → a ≢ b
differ_of a b e f = grind (arith, rules)

same_of : (a b : ℕ) → (a == b) ≡ true → a ≡ b
same_of a b i = grind (arith, rules)

either_true : (x y : Bool) (n : ℕ) → IsTrue (is_some (move_if (x || y) n)) → (x ≡ true) ⊎ (y ≡ true)
either_true true y n e = inl refl
either_true false true n e = inr refl
either_true false false n e = cc

either_host : (h a b : HostId) (n : ℕ) → IsTrue (is_some (move_if (h.0 == a.0 || h.0 == b.0) n)) → (h.0 ≡ a.0) ⊎ (h.0 ≡ b.0)
either_host h a b n e =
    elim (either_true (h.0 == a.0) (h.0 == b.0) n e) [
      | inl i ↦ inl (same_of h.0 a.0 i)
      | inr i ↦ inr (same_of h.0 b.0 i)
    ]

module _ (s : Sharing) (a b : HostId) (apart : a.0 ≢ b.0) (serves : Op → Bool) (apply : Op → List Places → List ℕ → Made PartRegisters)
    (t : Tape) (next : List ℕ) (w : Hosts) (ready : IsReady (pair_calls s a b serves apply) t next w) where
  a_known : a.0 < length next
  a_known = (both_known a b serves apply s next ready.known).0

  b_known : b.0 < length next
  b_known = (both_known a b serves apply s next ready.known).1

  back : b.0 ≢ a.0
  back e = apart (sym e)

  abbrev GivesParts : (ℕ → ℕ → Type 0) → Made Places → ℕ → Type 0
  GivesParts source made v = GivesWord (pair_calls s a b serves apply) t next source made w v

  abbrev IsParts : ℕ → Places → Hosts → Type 0
  IsParts v x u = StandFor (pair_calls s a b serves apply) u x v

  literal_law : (v : ℕ) → v < 2 ^ 32 → GivesParts nowhere (at_hosts a b (literal_shares a b v next)) v
  literal_law v small =
      fresh_gives t ready.deal next w ready.sound a b apart a_known b_known [] [] tt tt most_taken 1 1 nowhere (λ n m. places_at a b (two n m))
      (λ n m. Alone a (action.Const (register n) v) ∷ Alone b (action.Const (register m) 0) ∷ []) (IsParts v)
      (Number First v ∷ Number Second 0 ∷ []) ((First, New 0) ∷ (Second, New 0) ∷ []) refl refl refl (small, (omega arith, tt)) refl (tt, (tt, tt)) refl refl
      (omega arith) (omega arith)
      (λ u h. stands_by a b serves apply s u (register (slice_index next a.0)) (register (slice_index next b.0)) v (ap₂ (joined s) h.0 h.1.0 ∙ joined_zero s v small))

  -- a word of the first host, and one of the second
  share_first : (source : ℕ → ℕ → Type 0) (x : Reg) → x.0 < slice_index next a.0
      → GivesParts source (at_hosts a b (split_off s a b x next)) ((w a.0).registers x.0)
  share_first source x low =
      let own : ℕ = own_word t (pair_at a b (x ∷ []) [] next) w nothing_left First in
      fresh_gives t ready.deal next w ready.sound a b apart a_known b_known (x ∷ []) [] (low, tt) tt most_taken 2 1 source (λ n m. places_at a b (two (n + 1) m))
      (λ n m. SharesWith a (register n) b (register m) ∷ Alone a (action.Apply (hide s) (register (n + 1)) x (register n)) ∷ []) (IsParts ((w a.0).registers x.0))
      (GivenAway First ∷ Applied First (hide s) (Old 0) (New 0) ∷ []) ((First, New 1) ∷ (Second, New 0) ∷ []) refl refl refl (tt, (tt, tt)) refl (tt, (tt, tt)) refl refl
      (omega arith) (omega arith)
      (λ u h. stands_by a b serves apply s u (register (slice_index next a.0 + 1)) (register (slice_index next b.0)) ((w a.0).registers x.0)
      (ap₂ (joined s) h.0 h.1.0
      ∙ hidden_joined s ((w a.0).registers x.0) (own_word t (pair_at a b (x ∷ []) [] next) w nothing_left First) (ready.sound.words a.0 x.0)
      (ready.deal.words a.0 OwnWords ((w a.0).cursors OwnWords + 0) 0)))

  share_second : (source : ℕ → ℕ → Type 0) (x : Reg) → x.0 < slice_index next b.0
      → GivesParts source (at_hosts a b (exchanged (split_off s b a x next))) ((w b.0).registers x.0)
  share_second source x low =
      fresh_gives t ready.deal next w ready.sound b a back b_known a_known (x ∷ []) [] (low, tt) tt most_taken 2 1 source
      (λ n m. places_at a b (record { first = register m; second = register (n + 1) }))
      (λ n m. SharesWith b (register n) a (register m) ∷ Alone b (action.Apply (hide s) (register (n + 1)) x (register n)) ∷ []) (IsParts ((w b.0).registers x.0))
      (GivenAway First ∷ Applied First (hide s) (Old 0) (New 0) ∷ []) ((Second, New 0) ∷ (First, New 1) ∷ []) refl refl refl (tt, (tt, tt)) refl (tt, (tt, tt)) refl refl
      (omega arith) (omega arith)
      (λ u h. stands_by a b serves apply s u (register (slice_index next a.0)) (register (slice_index next b.0 + 1)) ((w b.0).registers x.0)
      (ap₂ (joined s) h.0 h.1.0
      ∙ joined_turned s (own_word t (pair_at b a (x ∷ []) [] next) w nothing_left First)
      (hidden s ((w b.0).registers x.0) (own_word t (pair_at b a (x ∷ []) [] next) w nothing_left First))
      ∙ hidden_joined s ((w b.0).registers x.0) (own_word t (pair_at b a (x ∷ []) [] next) w nothing_left First) (ready.sound.words b.0 x.0)
      (ready.deal.words b.0 OwnWords ((w b.0).cursors OwnWords + 0) 0)))

  joins_from : (s : Sharing) (from : HostId) → Joins (Local from) (shared_by s a b) → (from.0 ≡ a.0) ⊎ (from.0 ≡ b.0)
  joins_from BySums from j = either_host from a b 6 j
  joins_from ByXors from j = either_host from a b 6 j

  joins_to : (s : Sharing) (to : HostId) → Joins (shared_by s a b) (Local to) → (to.0 ≡ a.0) ⊎ (to.0 ≡ b.0)
  joins_to BySums to j = either_host to a b 5 j
  joins_to ByXors to j = either_host to a b 5 j

  not_first : (h : HostId) → nat_eq h.0 a.0 ≡ false → (h.0 ≡ a.0) ⊎ (h.0 ≡ b.0) → h.0 ≡ b.0
  not_first h e (inl i) = absurd (differ_of h.0 a.0 e i)
  not_first h e (inr i) = i

  share_law : (from : HostId) → Joins (Local from) (shared_by s a b) → (x : Reg) → x.0 < slice_index next from.0
      → GivesParts (IsIn ((from, x) ∷ [])) (at_hosts a b (shared_from s a b from x next)) ((w from.0).registers x.0)
  share_law from can x low = at (nat_eq from.0 a.0) refl
    where
      at : (same : Bool) → nat_eq from.0 a.0 ≡ same
          → GivesParts (IsIn ((from, x) ∷ [])) (at_hosts a b (if same then split_off s a b x next else exchanged (split_off s b a x next))) ((w from.0).registers x.0)
      at true e =
          let i : from.0 ≡ a.0 = equal_of from.0 a.0 e in
          subst (λ z. GivesParts (IsIn ((from, x) ∷ [])) (at_hosts a b (split_off s a b x next)) ((w z).registers x.0)) (sym i)
          (share_first (IsIn ((from, x) ∷ [])) x (subst (λ z. x.0 < slice_index next z) i low))
      at false e =
          let i : from.0 ≡ b.0 = not_first from e (joins_from s from can) in
          subst (λ z. GivesParts (IsIn ((from, x) ∷ [])) (at_hosts a b (exchanged (split_off s b a x next))) ((w z).registers x.0)) (sym i)
          (share_second (IsIn ((from, x) ∷ [])) x (subst (λ z. x.0 < slice_index next z) i low))

  adopt_law : (x : Places) (v : ℕ) → Reaches (pair_calls s a b serves apply) next w x v → GivesParts (IsIn x) (at_hosts a b (adopted_shares a b x next)) v
  adopt_law x v r =
      let f = found next w x a v (r.hosts a.0 (first_holds a b serves apply s)) r.below r.copies in
      let small : v < 2 ^ 32 = subst (λ z. z < 2 ^ 32) f.holds.here (ready.sound.words a.0 (register_of x a.0).0) in
      one_gives t ready.deal next w ready.sound b a back b_known a_known [] (register_of x a.0 ∷ []) tt (f.holds.low, tt) most_taken 1 (IsIn x)
      (IsParts v (places_at a b (record { first = register_of x a.0; second = next_at next b })))
      (Number First 0 ∷ []) ((Second, Old 0) ∷ (First, New 0) ∷ []) refl (omega arith, tt) refl (f.named, (tt, tt)) refl refl (omega arith)
      (λ u h. stands_by a b serves apply s u (register_of x a.0) (next_at next b) v (ap₂ (joined s) (h.0 ∙ f.holds.here) h.1.0 ∙ joined_zero s v small))

  -- ---- words that are opened

  show_first : (source : ℕ → ℕ → Type 0) (x : PartRegisters) (v : ℕ) → Parts s a b next w x v → GivesThere most_taken t next source a (opened_by s b x.second a x.first next) w v
  show_first source x v parts =
      one_gives t ready.deal next w ready.sound a b apart a_known b_known (x.first ∷ []) (x.second ∷ []) (parts.first_low, tt) (parts.second_low, tt) most_taken 2 source
      (λ u. (u a.0).registers (slice_index next a.0 + 1) ≡ v)
      (Opened s Second (Old 0) (Old 0) ∷ Applied First (join s) (Old 0) (New 0) ∷ []) ((First, New 1) ∷ []) refl (tt, (tt, tt)) refl (tt, tt) refl refl (omega arith)
      (λ u h. h.0 ∙ parts.word)

  show_second : (source : ℕ → ℕ → Type 0) (x : PartRegisters) (v : ℕ) → Parts s a b next w x v → GivesThere most_taken t next source b (opened_by s a x.first b x.second next) w v
  show_second source x v parts =
      one_gives t ready.deal next w ready.sound b a back b_known a_known (x.second ∷ []) (x.first ∷ []) (parts.second_low, tt) (parts.first_low, tt) most_taken 2 source
      (λ u. (u b.0).registers (slice_index next b.0 + 1) ≡ v)
      (Opened s Second (Old 0) (Old 0) ∷ Applied First (join s) (Old 0) (New 0) ∷ []) ((First, New 1) ∷ []) refl (tt, (tt, tt)) refl (tt, tt) refl refl (omega arith)
      (λ u h. h.0 ∙ joined_turned s ((w b.0).registers x.second.0) ((w a.0).registers x.first.0) ∙ parts.word)

  show_law : (x : Places) (v : ℕ) → Operand (pair_calls s a b serves apply) next w x v → (to : HostId) → Joins (shared_by s a b) (Local to)
      → GivesThere most_taken t next (IsIn x) to (shown_at s a b (shares_of x) to next) w v
  show_law x v o to can = at (nat_eq to.0 a.0) refl
    where
      at : (same : Bool) → nat_eq to.0 a.0 ≡ same
          → let made : Made Reg = if same then opened_by s b (shares_of x).second a (shares_of x).first next else opened_by s a (shares_of x).first b (shares_of x).second next in
          GivesThere most_taken t next (IsIn x) to made w v
      at true e =
          subst (λ (h : HostId). GivesThere most_taken t next (IsIn x) h (opened_by s b (shares_of x).second a (shares_of x).first next) w v) (same_id a to (sym (equal_of to.0 a.0 e)))
          (show_first (IsIn x) (shares_of x) v (parts_of a b serves apply s next w x v o))
      at false e =
          subst (λ (h : HostId). GivesThere most_taken t next (IsIn x) h (opened_by s a (shares_of x).first b (shares_of x).second next) w v)
          (same_id b to (sym (not_first to e (joins_to s to can))))
          (show_second (IsIn x) (shares_of x) v (parts_of a b serves apply s next w x v o))

  show_all_law : (source : ℕ → ℕ → Type 0) (x : PartRegisters) (v : ℕ) → Parts s a b next w x v
      → let made : Made Places = at_hosts a b (shown_to_both s a b x next) in
      Gives most_taken t next source made w (λ u. (hosts_of made.given ≡ holders (shared_by s a b)) × Copies u made.given v)
  show_all_law source x v parts =
      fresh_gives t ready.deal next w ready.sound a b apart a_known b_known (x.first ∷ []) (x.second ∷ []) (parts.first_low, tt) (parts.second_low, tt) most_taken 2 2 source
      (λ n m. places_at a b (two (n + 1) (m + 1)))
      (λ n m. Opens s a x.first b x.second (register m) ∷ Opens s b x.second a x.first (register n)
      ∷ Alone a (action.Apply (join s) (register (n + 1)) x.first (register n)) ∷ Alone b (action.Apply (join s) (register (m + 1)) x.second (register m)) ∷ [])
      (λ y u. (hosts_of y ≡ holders (shared_by s a b)) × Copies u y v)
      (Opened s First (Old 0) (Old 0) ∷ Opened s Second (Old 0) (Old 0) ∷ Applied First (join s) (Old 0) (New 0) ∷ Applied Second (join s) (Old 0) (New 0) ∷ [])
      ((First, New 1) ∷ (Second, New 1) ∷ []) refl refl refl (tt, (tt, (tt, (tt, tt)))) refl (tt, (tt, tt)) refl refl (omega arith) (omega arith)
      (λ u h. (
        held a b serves apply s,
        (h.0 ∙ parts.word, (h.1.0 ∙ joined_turned s ((w b.0).registers x.second.0) ((w a.0).registers x.first.0) ∙ parts.word, tt)),
      ))

  -- ---- copies

  keep_law : (source : ℕ → ℕ → Type 0) (x : PartRegisters) (v : ℕ) → Parts s a b next w x v → GivesParts source (at_hosts a b (kept_shares a b x next)) v
  keep_law source x v parts =
      fresh_gives t ready.deal next w ready.sound a b apart a_known b_known (x.first ∷ []) (x.second ∷ []) (parts.first_low, tt) (parts.second_low, tt) most_taken 1 1 source
      (λ n m. places_at a b (two n m)) (λ n m. Alone a (action.Copy (register n) x.first) ∷ Alone b (action.Copy (register m) x.second) ∷ []) (IsParts v)
      (Copied First (Old 0) ∷ Copied Second (Old 0) ∷ []) ((First, New 0) ∷ (Second, New 0) ∷ []) refl refl refl (tt, (tt, tt)) refl (tt, (tt, tt)) refl refl (omega arith) (omega arith)
      (λ u h. stands_by a b serves apply s u (register (slice_index next a.0)) (register (slice_index next b.0)) v (ap₂ (joined s) h.0 h.1.0 ∙ parts.word))

  renew_law : (kept x : Places) (k v : ℕ) → Operand (pair_calls s a b serves apply) next w kept k → Operand (pair_calls s a b serves apply) next w x v
      → Renews (pair_calls s a b serves apply) t next kept x w v
  renew_law kept x k v old o =
      let parts = parts_of a b serves apply s next w x v o in
      let named = parts_named a b serves apply s next w kept k old in
      let r : Reg = (shares_of kept).first in
      let q : Reg = (shares_of kept).second in
      let u : Hosts = put w a.0 (wrote (shares_of kept).first.0 ((w a.0).registers (shares_of x).first.0) (w a.0)) in
      let c : Writes a.0 r.0 ((w a.0).registers (shares_of x).first.0) w u = writes_own a.0 r.0 ((w a.0).registers (shares_of x).first.0) w in
      let z : Hosts = put u b.0 (wrote (shares_of kept).second.0 ((u b.0).registers (shares_of x).second.0) (u b.0)) in
      let d : Writes b.0 q.0 ((u b.0).registers (shares_of x).second.0) u z = writes_own b.0 q.0 ((u b.0).registers (shares_of x).second.0) u in
      let one : Leads t next (IsIn kept) (Alone a (action.Copy (shares_of kept).first (shares_of x).first) ∷ []) w u =
      leads_writing t ready.deal next (IsIn kept) (Alone a (action.Copy (shares_of kept).first (shares_of x).first) ∷ []) a.0 r.0 ((w a.0).registers (shares_of x).first.0) w u
      refl (tt, tt) (tt, tt) ready.sound c (inr named.0) in
      let more : Leads t next (IsIn kept) (Alone b (action.Copy (shares_of kept).second (shares_of x).second) ∷ []) u z =
      leads_writing t ready.deal next (IsIn kept) (Alone b (action.Copy (shares_of kept).second (shares_of x).second) ∷ []) b.0 q.0 ((u b.0).registers (shares_of x).second.0) u z
      refl (tt, tt) (tt, tt) one.sound d (inr named.1) in
      let first : (z a.0).registers r.0 ≡ (w a.0).registers (shares_of x).first.0 = d.elsewhere a.0 r.0 (λ e f. apart e) ∙ c.there in
      let second : (z b.0).registers q.0 ≡ (w b.0).registers (shares_of x).second.0 =
      d.there ∙ c.elsewhere b.0 (shares_of x).second.0 (λ e f. apart (sym e)) in
      record {
        tidy = (tt, (tt, tt));
        reached = z;
        leads = leads_on t next next (IsIn kept) (Alone a (action.Copy (shares_of kept).first (shares_of x).first) ∷ [])
            (Alone b (action.Copy (shares_of kept).second (shares_of x).second) ∷ []) w u z (λ h. omega arith) one more;
        stands = stands_anew a b serves apply s next w z kept k v old (ap₂ (joined s) first second ∙ parts.word);
      }

-- the laws of a back end, from that of its operations
pub pair_laws : (s : Sharing) (a b : HostId) → a.0 ≢ b.0 → (serves : Op → Bool) (apply : Op → List Places → List ℕ → Made PartRegisters)
    → ((t : Tape) (next : List ℕ) (w : Hosts) → IsReady (pair_calls s a b serves apply) t next w
    → (o : Op) → IsTrue (serves o) → NumberFits o → (xs : List Places) (vs : List ℕ) → length xs ≡ arity o → Operands (pair_calls s a b serves apply) next w xs vs
    → GivesWord (pair_calls s a b serves apply) t next (IsInOne xs) (at_hosts a b (apply o xs next)) w (result_of o vs))
    → BackendLaws (pair_calls s a b serves apply)
pair_laws s a b apart serves apply law = record {
  literal = λ t next w ready v small. literal_law s a b apart serves apply t next w ready v small;
  share = λ t next w ready from can known x low. share_law s a b apart serves apply t next w ready from can x low;
  adopt = λ t next w ready x v r. adopt_law s a b apart serves apply t next w ready x v r;
  show = λ t next w ready x v o at can known. show_law s a b apart serves apply t next w ready x v o at can;
  show_all = λ t next w ready x v o. show_all_law s a b apart serves apply t next w ready (IsIn x) (shares_of x) v (parts_of a b serves apply s next w x v o);
  keep = λ t next w ready x v o. keep_law s a b apart serves apply t next w ready nowhere (shares_of x) v (parts_of a b serves apply s next w x v o);
  renew = λ t next w ready kept x u v k o. renew_law s a b apart serves apply t next w ready kept x u v k o;
  apply = law;
}
