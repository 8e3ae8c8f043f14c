-- What each host of a protocol makes in a register of its own has the form that parts have there.
use Rattle.std.proofs.Common.{◌≡◌, ℕ, ◌+◌, ◌≤◌, true, List, [], ◌∷◌, sym, ap, ap₂, subst, ◌∙◌}
use Rattle.vd_base.specs.declared.ids.HostId.{HostId}
use Rattle.vd_base.specs.declared.protocols.Proto.{Proto}
use Rattle.vd_base.specs.declared.protocols.Proto.TheVariants.{Local, Rep, Commit, Add, Xor}
use Rattle.vd_base.specs.Holders.{holders}
use Rattle.vd_execution.specs.declared.instructions.Reg.{Reg}
use Rattle.vd_duet.specs.Builder.{Builder, HasRoom, next_at, taken}
use Rattle.vd_duet.specs.Calls.{Places, Made, called, hosts_of}
use Rattle.vd_duet.specs.Laws.{AreKnown}
use Rattle.vd_clear.specs.Copies.{each_made}
use Rattle.vd_backends.specs.Formed.{is_named, AreFormed}
use Rattle.vd_backends.proofs.Named.{named_formed, second_low, two_named}

-- each host takes so many registers, and gives the first
module _ (k : ℕ) (f : HostId → List ℕ → Made Reg) (first : (h : HostId) (next : List ℕ) → (f h next).given ≡ next_at next h)
    (after : (h : HostId) (next : List ℕ) → (f h next).next ≡ taken h k next) where
  both : (a b : HostId) (next : List ℕ) → (each_made f (a ∷ b ∷ []) next).given ≡ (a, next_at next a) ∷ (b, next_at (taken a k next) b) ∷ []
  both a b next =
      ap₂ (λ (r q : Reg). let x : Places = (a, r) ∷ (b, q) ∷ [] in x) (first a next) (first b (f a next).next ∙ ap (λ (n : List ℕ). next_at n b) (after a next))

  pub each_formed : (p : Proto) (count : ℕ) (b b' : Builder) (y : Places) → AreKnown (holders p) b.next → HasRoom count b.next → k ≤ count + 16 → hosts_of y ≡ holders p
      → (y, b') ≡ called (each_made f (holders p) b.next) b → AreFormed p y
  each_formed (Local h) count b b' y known room few at e = at
  each_formed (Rep set) count b b' y known room few at e = at
  each_formed (Commit c d) count b b' y known room few at e =
      let same : y ≡ (c, next_at b.next c) ∷ (d, next_at (taken c k b.next) d) ∷ [] = ap (λ (z : Places × Builder). z.0) e ∙ both c d b.next in
      named_formed c d y
      (subst (λ (z : Places). is_named z ≡ true) (sym same) (two_named c d (next_at b.next c) (next_at (taken c k b.next) d) (second_low c d k count b.next known room few)))
  each_formed (Add c d) count b b' y known room few at e = at
  each_formed (Xor c d) count b b' y known room few at e = at
