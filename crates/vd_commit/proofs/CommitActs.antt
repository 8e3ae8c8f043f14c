-- Where committing and revealing act.
use Rattle.std.proofs.Common.{◌≡◌, ℕ, nat_eq, Bool, true, false, ◌||◌, refl}
use Rattle.vd_base.specs.declared.ids.HostId.{HostId}
use Rattle.vd_commit.specs.Law.{CommitmentsActAtBoth}

bound : (p q : Bool) → (p || (p || (p || (p || (p || (p || (p || (p || (p || ((p || q) || false)))))))))) ≡ (p || q)
bound true q = refl
bound false true = refl
bound false false = refl

shown : (p q : Bool) → ((p || q) || (q || (q || (q || (q || (q || (q || (q || (q || (q || false)))))))))) ≡ (p || q)
shown true q = refl
shown false true = refl
shown false false = refl

pub commitments_act : CommitmentsActAtBoth
commitments_act = record {
  commit = λ p v x next h. bound (nat_eq h p.0) (nat_eq h v.0);
  reveal = λ p v held seen next h. shown (nat_eq h p.0) (nat_eq h v.0);
}
