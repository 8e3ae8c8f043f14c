-- Where the calls of two hosts that share words act.
use Rattle.std.proofs.Common.{◌≡◌, ℕ, nat_eq, Bool, true, false, ◌||◌, if◌then◌else◌, IsTrue, List, refl, ◌∙◌}
use Rattle.vd_base.specs.declared.ids.HostId.{HostId}
use Rattle.vd_base.specs.declared.operations.Op.{Op}
use Rattle.vd_execution.specs.declared.instructions.Binary.{Binary}
use Rattle.vd_execution.specs.declared.instructions.Reg.{Reg}
use Rattle.vd_execution.specs.Gadgets.{Sharing, BySums, ByXors}
use Rattle.vd_base.specs.Holders.{holders, is_among}
use Rattle.vd_duet.specs.Calls.{Places, Made}
use Rattle.vd_duet.specs.Acting.{is_either, acts_at, share_at, adopt_at, show_at, show_all_at, apply_at, ActsWhereItSays}
use Rattle.vd_backend_sharing.specs.declared.shares.PartRegisters.{PartRegisters}
use Rattle.vd_backend_sharing.specs.Sharings.{shared_by}
use Rattle.vd_backend_sharing.specs.PairCalls.{split_off, exchanged, shared_from, opened_by, shown_at, applied_shares, numbered_shares, product_shares, shares_of, pair_calls}

both : (p q : Bool) → (p || (q || false)) ≡ (p || q)
both true q = refl
both false true = refl
both false false = refl

one : (p : Bool) → (p || false) ≡ p
one true = refl
one false = refl

given_first : (p q : Bool) → ((p || q) || (p || false)) ≡ (p || q)
given_first true q = refl
given_first false true = refl
given_first false false = refl

given_second : (p q : Bool) → ((q || p) || (q || false)) ≡ (p || q)
given_second true true = refl
given_second true false = refl
given_second false true = refl
given_second false false = refl

opened_first : (p q : Bool) → ((q || p) || (p || false)) ≡ (p || q)
opened_first true true = refl
opened_first true false = refl
opened_first false true = refl
opened_first false false = refl

opened_second : (p q : Bool) → ((p || q) || (q || false)) ≡ (p || q)
opened_second true q = refl
opened_second false true = refl
opened_second false false = refl

opened_both : (p q : Bool) → ((p || q) || ((q || p) || (p || (q || false)))) ≡ (p || q)
opened_both true q = refl
opened_both false true = refl
opened_both false false = refl

module _ (a b : HostId) (h : ℕ) where
  shared_acts : (s : Sharing) (from : HostId) (x : Reg) (next : List ℕ) → acts_at (shared_from s a b from x next).gadgets h ≡ is_either h a b
  shared_acts s from x next = at (nat_eq from.0 a.0)
    where
      at : (same : Bool) → let made : Made PartRegisters = if same then split_off s a b x next else exchanged (split_off s b a x next) in acts_at made.gadgets h ≡ is_either h a b
      at true = given_first (nat_eq h a.0) (nat_eq h b.0)
      at false = given_second (nat_eq h a.0) (nat_eq h b.0)

  shown_acts : (s : Sharing) (x : PartRegisters) (to : HostId) (next : List ℕ) → acts_at (shown_at s a b x to next).gadgets h ≡ is_either h a b
  shown_acts s x to next = at (nat_eq to.0 a.0)
    where
      at : (same : Bool) → let made : Made Reg = if same then opened_by s b x.second a x.first next else opened_by s a x.first b x.second next in acts_at made.gadgets h ≡ is_either h a b
      at true = opened_first (nat_eq h a.0) (nat_eq h b.0)
      at false = opened_second (nat_eq h a.0) (nat_eq h b.0)

  holders_are : (s : Sharing) → (nat_eq h a.0 || (nat_eq h b.0 || false)) ≡ is_among (holders (shared_by s a b)) h
  holders_are BySums = refl
  holders_are ByXors = refl

  share_is : (s : Sharing) (from : HostId) → is_either h a b ≡ share_at from (shared_by s a b) h
  share_is BySums from = refl
  share_is ByXors from = refl

  adopt_is : (s : Sharing) → nat_eq h b.0 ≡ adopt_at (shared_by s a b) h
  adopt_is BySums = refl
  adopt_is ByXors = refl

  show_is : (s : Sharing) (to : HostId) → is_either h a b ≡ show_at (shared_by s a b) to h
  show_is BySums to = refl
  show_is ByXors to = refl

  show_all_is : (s : Sharing) → is_either h a b ≡ show_all_at (shared_by s a b) h
  show_all_is BySums = refl
  show_all_is ByXors = refl

  -- ---- operations

  pub applied_acts : (o : Binary) (x y : PartRegisters) (next : List ℕ) → acts_at (applied_shares o a b x y next).gadgets h ≡ is_either h a b
  applied_acts o x y next = both (nat_eq h a.0) (nat_eq h b.0)

  pub numbered_acts : (o : Binary) (k : ℕ) (x : PartRegisters) (next : List ℕ) → acts_at (numbered_shares o k a b x next).gadgets h ≡ is_either h a b
  numbered_acts o k x next = at (nat_eq h a.0) (nat_eq h b.0)
    where
      at : (p q : Bool) → (p || (p || (q || (q || false)))) ≡ (p || q)
      at true q = refl
      at false true = refl
      at false false = refl

  pub product_acts : (s : Sharing) (x y : PartRegisters) (next : List ℕ) → acts_at (product_shares s a b x y next).gadgets h ≡ is_either h a b
  unfolding product_shares
  product_acts s x y next = at (nat_eq h a.0) (nat_eq h b.0)
    where
      at : (p q : Bool)
          → ((p || q) || (p || (p || (p || (p || (p || (p || (p || (p || (q || (q || (q || (q || (q || (q || false))))))))))))))) ≡ (p || q)
      at true q = refl
      at false true = refl
      at false false = refl

pub pair_acts : (s : Sharing) (a b : HostId) (serves : Op → Bool) (apply : Op → List Places → List ℕ → Made PartRegisters)
    → ((o : Op) → IsTrue (serves o) → (xs : List Places) (next : List ℕ) (h : ℕ) → acts_at (apply o xs next).gadgets h ≡ apply_at o (shared_by s a b) h)
    → ActsWhereItSays (pair_calls s a b serves apply)
pair_acts s a b serves apply law = record {
  literal = λ v next h. holders_are a b h s;
  share = λ from x next h. shared_acts a b h s from x next ∙ share_is a b h s from;
  adopt = λ x next h. one (nat_eq h b.0) ∙ adopt_is a b h s;
  show = λ x at to next h. shown_acts a b h s (shares_of x) to next ∙ show_is a b h s to;
  show_all = λ x at next h. opened_both (nat_eq h a.0) (nat_eq h b.0) ∙ show_all_is a b h s;
  keep = λ x next h. holders_are a b h s;
  renew = λ kept x at h. holders_are a b h s;
  apply = λ o serves xs next h. law o serves xs next h;
}
