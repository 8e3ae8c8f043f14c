-- The register of a host among copies of a word.
use Rattle.std.proofs.Common.{◌≡◌, ◌≢◌, ℕ, ◌<◌, nat_eq, Bool, true, false, if◌then◌else◌, List, [], ◌∷◌, ◌⊎◌, inl, inr, slice_index, refl, sym, ap, subst, ◌∙◌, arith, rules}
use Rattle.vd_base.specs.declared.ids.HostId.{HostId}
use Rattle.vd_execution.specs.declared.instructions.Reg.{Reg}
use Rattle.vd_execution.specs.Joint.{Hosts}
use Rattle.vd_duet.specs.Calls.{Places, hosts_of, register_of}
use Rattle.vd_duet.specs.Laws.{IsIn, IsHost, AreBelow, Copies}

pub equal_of : (a b : ℕ) → nat_eq a b ≡ true → a ≡ b
equal_of a b e = grind (arith, rules)

pub differ_of : (a b : ℕ) → nat_eq a b ≡ false → a ≢ b
differ_of a b e f = grind (arith, rules)

-- a register of a host has a word, and is taken
pub record Holds (next : List ℕ) (w : Hosts) (h : HostId) (x : Reg) (v : ℕ) : Type 0 where
  pub here : (w h.0).registers x.0 ≡ v
  pub low : x.0 < slice_index next h.0

pub record Found (next : List ℕ) (w : Hosts) (x : Places) (h : HostId) (v : ℕ) : Type 0 where
  pub holds : Holds next w h (register_of x h.0) v
  pub named : IsIn x h.0 (register_of x h.0).0

pub found : (next : List ℕ) (w : Hosts) (x : Places) (h : HostId) (v : ℕ) → IsHost (hosts_of x) h.0 → AreBelow next x → Copies w x v → Found next w x h v
found next w [] h v i below copies = absurd i
found next w (q ∷ x) h v i below copies = at (λ j. found next w x h v j below.1 copies.1) (nat_eq h.0 q.0.0) refl
  where
    rest : (IsHost (hosts_of x) h.0 → Found next w x h v) → nat_eq h.0 q.0.0 ≡ false → (h.0 ≡ q.0.0) ⊎ IsHost (hosts_of x) h.0 → Found next w x h v
    rest again e (inl f) = absurd (differ_of h.0 q.0.0 e f)
    rest again e (inr j) = again j

    at : (IsHost (hosts_of x) h.0 → Found next w x h v) → (same : Bool) → nat_eq h.0 q.0.0 ≡ same → Found next w (q ∷ x) h v
    at again true e =
        let f : h.0 ≡ q.0.0 = equal_of h.0 q.0.0 e in
        let g : register_of (q ∷ x) h.0 ≡ q.1 = ap (λ (b : Bool). if b then q.1 else register_of x h.0) e in
        record {
          holds = record {
            here = ap (λ (r : Reg). (w h.0).registers r.0) g ∙ ap (λ z. (w z).registers q.1.0) f ∙ copies.0;
            low = subst (λ (r : Reg). r.0 < slice_index next h.0) (sym g) (subst (λ z. q.1.0 < slice_index next z) (sym f) below.0);
          };
          named = subst (λ (r : Reg). IsIn (q ∷ x) h.0 r.0) (sym g) (inl (f, refl));
        }
    at again false e =
        let f = rest again e i in
        let g : register_of (q ∷ x) h.0 ≡ register_of x h.0 = ap (λ (b : Bool). if b then q.1 else register_of x h.0) e in
        record {
          holds = record {
            here = ap (λ (r : Reg). (w h.0).registers r.0) g ∙ f.holds.here;
            low = subst (λ (r : Reg). r.0 < slice_index next h.0) (sym g) f.holds.low;
          };
          named = inr (subst (λ (r : Reg). IsIn x h.0 r.0) (sym g) f.named);
        }
