-- Where a host has a word in clear, its register of the parts holds it.
use Rattle.std.proofs.Common.{◌≡◌, ℕ, ◌<◌, nat_eq, Bool, true, false, true≢false, if◌then◌else◌, List, [], ◌∷◌, ◌++◌, ◌⊎◌, inl, inr, refl, sym, ap, subst, ◌∙◌}
use Rattle.std.proofs.lemmas.Bool.{eq-eqb, eqb-true}
use Rattle.vd_base.specs.declared.ids.HostId.{HostId}
use Rattle.vd_base.specs.declared.protocols.HostSet.{HostSet}
use Rattle.vd_base.specs.declared.protocols.Proto.{Proto}
use Rattle.vd_base.specs.declared.protocols.Proto.TheVariants.{Local, Rep, Commit, Add, Xor}
use Rattle.vd_base.specs.HostSets.{same_host, has_host}
use Rattle.vd_base.specs.Holders.{has_clear}
use Rattle.vd_execution.specs.declared.instructions.Reg.{Reg}
use Rattle.vd_execution.specs.Joint.{Hosts}
use Rattle.vd_duet.specs.Calls.{Places, hosts_of, register_of}
use Rattle.vd_duet.specs.Laws.{IsHost, StandFor, Copies}
use Rattle.vd_clear.specs.Copies.{clear_calls}
use Rattle.vd_clear.proofs.Front.{copies_of}
use Rattle.vd_commit.specs.Commit.{eight}
use Rattle.vd_split.specs.Suite.{Word}
use Rattle.vd_backend_laws.specs.Commits.{at_one, held_of, seen_of}
use Rattle.vd_backend_laws.specs.Parts.{Parts}
use Rattle.vd_backend_laws.specs.Suite.{StandForCells, IsBound, stands}
use Rattle.vd_backend_laws.proofs.Front.{word_of, has_member}

abbrev Holds : Hosts → HostId → Places → ℕ → Type 0
Holds w h x v = (w h.0).registers (register_of x h.0).0 ≡ v

-- a host among copies
copy_at : (w : Hosts) (x : Places) (h : HostId) (v : ℕ) → IsHost (hosts_of x) h.0 → Copies w x v → Holds w h x v
copy_at w [] h v i c = absurd i
copy_at w (q ∷ x) h v i c = at (nat_eq h.0 q.0.0) refl i (λ j. copy_at w x h v j c.1)
  where
    first : h.0 ≡ q.0.0 → (w h.0).registers q.1.0 ≡ v
    first e = ap (λ z. (w z).registers q.1.0) e ∙ c.0

    at : (b : Bool) → nat_eq h.0 q.0.0 ≡ b → (h.0 ≡ q.0.0) ⊎ IsHost (hosts_of x) h.0 → (IsHost (hosts_of x) h.0 → Holds w h x v) → Holds w h (q ∷ x) v
    at true e i later = ap (λ (b : Bool). (w h.0).registers (if b then q.1 else register_of x h.0).0) e ∙ first (eqb-true h.0 q.0.0 e)
    at false e (inl j) later = absurd (true≢false (sym (eq-eqb h.0 q.0.0 j) ∙ e))
    at false e (inr j) later = ap (λ (b : Bool). (w h.0).registers (if b then q.1 else register_of x h.0).0) e ∙ later j

in_cells : (w : Hosts) (set : HostSet) (h : HostId) (x : Parts) (v : ℕ) → h.0 < 8 → has_host set h ≡ true → StandForCells w (Rep set) x (v ∷ []) → Holds w h x.at v
in_cells w set h x v low has s =
    let all : StandFor (clear_calls (Rep set)) w x.at v = word_of (clear_calls (Rep set)) w (Rep set) x v refl s in
    copy_at w x.at h v (subst (λ (l : List HostId). IsHost l h.0) (sym s.at) (has_member set h low has)) (copies_of (Rep set) tt w x.at v all)

in_local : (w : Hosts) (k h : HostId) (x : Parts) (v : ℕ) → same_host k h ≡ true → StandForCells w (Local k) x (v ∷ []) → Holds w h x.at v
in_local w k h x v same s =
    let all : StandFor (clear_calls (Local k)) w x.at v = word_of (clear_calls (Local k)) w (Local k) x v refl s in
    copy_at w x.at h v (subst (λ (l : List HostId). IsHost l h.0) (sym s.at) (inl (sym (eqb-true k.0 h.0 same)))) (copies_of (Local k) tt w x.at v all)

-- the one who is bound
in_bound : (w : Hosts) (p v h : HostId) (x : Parts) (n : ℕ) → same_host p h ≡ true → IsBound w p v x n → Holds w h x.at n
in_bound w p v h x n same s =
    let value : Reg = (held_of x.at).value in
    let more : Places = at_one p (eight (held_of x.at).nonce.0) ++ at_one v (eight (seen_of x.at).digest.0) in
    let e : h.0 ≡ p.0 = sym (eqb-true p.0 h.0 same) in
    ap (λ (y : Places). (w h.0).registers (register_of y h.0).0) s.at
    ∙ ap (λ (b : Bool). (w h.0).registers (if b then value else register_of more h.0).0) (eq-eqb h.0 p.0 e)
    ∙ ap (λ z. (w z).registers value.0) e
    ∙ s.value

pub in_clear : (w : Hosts) (h : HostId) → h.0 < 8 → (q : Proto) (x : Parts) (v : ℕ) → has_clear h q ≡ true → stands w q x (Word v) → (w h.0).registers (register_of x.at h.0).0 ≡ v
in_clear w h low (Local k) x v has s = in_local w k h x v has s
in_clear w h low (Rep set) x v has s = in_cells w set h x v low has s
in_clear w h low (Commit p u) x v has s = in_bound w p u h x v has s
in_clear w h low (Add a b) x v has s = absurd (true≢false (sym has))
in_clear w h low (Xor a b) x v has s = absurd (true≢false (sym has))
