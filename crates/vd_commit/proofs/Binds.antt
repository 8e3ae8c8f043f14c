-- Committing binds a host to a word.
use Rattle.std.proofs.Common.{◌≡◌, ◌≢◌, ℕ, ◌+◌, ◌<◌, List, length, refl, sym, ap, ap₂, subst, ◌∙◌, arith}
use Rattle.std.specs.Prelude.{slice_index}
use Rattle.vd_base.specs.declared.ids.HostId.{HostId}
use Rattle.vd_execution.specs.declared.instructions.Reg.{Reg}
use Rattle.vd_execution.specs.declared.instructions.Action.TheVariants as action
use Rattle.vd_execution.specs.Registers.{words_from, digest_of}
use Rattle.vd_execution.specs.Step.{words_in}
use Rattle.vd_execution.specs.World.{Tape}
use Rattle.vd_execution.specs.Joint.{Hosts, after_do, after_msg}
use Rattle.vd_execution.specs.Acts.{run_acts}
use Rattle.vd_execution.specs.Gadgets.{acts_of_gadgets, GadgetsAreTidy}
use Rattle.vd_execution.specs.Text.{register}
use Rattle.vd_execution.proofs.Front.{gadgets_sound}
use Rattle.vd_duet.specs.Builder.{taken}
use Rattle.vd_duet.specs.Calls.{Made}
use Rattle.vd_duet.proofs.Front.{taken_known, taken_there, taken_other, taken_bounds}
use Rattle.vd_backend_sharing.proofs.Front.{Adds}
use Rattle.vd_commit.specs.declared.ends.Held.{Held}
use Rattle.vd_commit.specs.declared.ends.Seen.{Seen}
use Rattle.vd_commit.specs.Commit.{eight, own_each, committing, committed}
use Rattle.vd_commit.specs.Law.{IsCommitted, AreReady, LeadsTo}
use Rattle.vd_commit.proofs.Rows.{eight_row, words_alike, words_are, said_from, own_adds, digest_count, hash_adds, tell_adds, keeps}

module _ (p v : HostId) (t : Tape) (next : List ℕ) (w : Hosts) (ready : AreReady p v t next w) (x : Reg) (low : x.0 < slice_index next p.0) where
  abbrev made_at : ℕ → Made (Held × Seen)
  made_at m = record {
    given = (record { value = x; nonce = register (slice_index next p.0) }, record { digest = register m });
    gadgets = committing p v x (slice_index next p.0) m;
    next = taken v 8 (taken p 16 next);
  }

  committing_tidy : (n m : ℕ) → GadgetsAreTidy (committing p v x n m)
  committing_tidy n m = (tt, (tt, (tt, (tt, (tt, (tt, (tt, (tt, (tt, ((ready.apart, refl), tt))))))))))

  taken_first : slice_index (taken v 8 (taken p 16 next)) p.0 ≡ slice_index next p.0 + 16
  taken_first = taken_other v 8 (taken p 16 next) p.0 ready.apart ∙ taken_there p 16 next ready.first

  taken_second : slice_index (taken v 8 (taken p 16 next)) v.0 ≡ slice_index next v.0 + 8
  taken_second =
      taken_there v 8 (taken p 16 next) (let k = taken_known p 16 next in let l = ready.second in omega (arith, k, l))
      ∙ ap (λ (n : ℕ). n + 8) (taken_other p 16 next v.0 (λ e. ready.apart (sym e)))

  binds_at : LeadsTo t next (made_at (slice_index next v.0)) w
      (λ u. IsCommitted p v (taken v 8 (taken p 16 next)) u (made_at (slice_index next v.0)).given.0 (made_at (slice_index next v.0)).given.1 ((w p.0).registers x.0))
  binds_at =
      let n : ℕ = slice_index next p.0 in
      let m : ℕ = slice_index next v.0 in
      let u1 : Hosts = run_acts t (acts_of_gadgets (own_each p (eight n))) w in
      let u2 : Hosts = after_do t p.0 (action.Hash (register (n + 8)) (register n) x) u1 in
      let u3 : Hosts = after_msg p.0 (eight (n + 8)) v.0 (eight m) u2 in
      let o = own_adds t p (eight n) n (eight_row n n refl) w in
      let digest : List ℕ = digest_of (words_from (u1 p.0).registers n 8) ((u1 p.0).registers x.0) in
      let count : length digest ≡ 8 = digest_count (words_from (u1 p.0).registers n 8) ((u1 p.0).registers x.0) in
      let hashed : Adds p.0 (n + 8) digest u1 u2 = hash_adds t p.0 (register (n + 8)) (register n) x u1 in
      let owned : Adds p.0 n o.0 w u1 = o.2 in
      let told : Adds v.0 m (words_in (u2 p.0).registers (eight (n + 8))) u2 u3 = tell_adds p.0 v.0 m (eight (n + 8)) (eight m) u2 ready.apart (eight_row m m refl) refl in
      let back : v.0 ≢ p.0 = λ e. ready.apart (sym e) in
      let tidy : GadgetsAreTidy (committing p v x n m) = committing_tidy n m in
      let said : words_in (u2 p.0).registers (eight (n + 8)) ≡ digest =
      said_from (u2 p.0).registers (n + 8) (eight (n + 8)) (eight_row (n + 8) (n + 8) refl)
      ∙ ap (words_from (u2 p.0).registers (n + 8)) (sym count) ∙ words_are (u2 p.0).registers (n + 8) digest hashed.there in
      let heard : words_from (u3 v.0).registers m 8 ≡ words_in (u2 p.0).registers (eight (n + 8)) =
      words_are (u3 v.0).registers m (words_in (u2 p.0).registers (eight (n + 8))) told.there in
      let nonce : words_from (u1 p.0).registers n 8 ≡ words_from (u3 p.0).registers n 8 =
      words_alike (u1 p.0).registers (u3 p.0).registers n n 8 (λ i few.
      sym (told.others p.0 (n + i) ready.apart ∙ hashed.below (n + i) (omega (arith, few)))) in
      let value : (u1 p.0).registers x.0 ≡ (w p.0).registers x.0 = owned.below x.0 low in
      record {
        tidy = tidy;
        few = (
          taken_known v 8 (taken p 16 next) ∙ taken_known p 16 next,
          λ h.
              let i = (taken_bounds p 16 next ready.first h).1 in
              let j = (taken_bounds v 8 (taken p 16 next) (let k = taken_known p 16 next in let l = ready.second in omega (arith, k, l)) h).1 in
              omega (arith, i, j),
        );
        reached = u3;
        leads = record {
          runs = refl;
          agrees = (tt, (tt, (tt, (tt, (tt, (tt, (tt, (tt, (tt, (tt, tt))))))))));
          sound = gadgets_sound t ready.deal (committing p v x n m) tidy w ready.sound;
          kept = λ h r below not.
              keeps v.0 m (words_in (u2 p.0).registers (eight (n + 8))) u2 u3 told h r (λ e. let P : ℕ → Type 0 = λ z. r < slice_index next z in subst P e below)
              ∙ keeps p.0 (n + 8) digest u1 u2 hashed h r (λ e. let P : ℕ → Type 0 = λ z. r < slice_index next z in let k = subst P e below in omega (arith, k))
              ∙ keeps p.0 n o.0 w u1 owned h r (λ e. let P : ℕ → Type 0 = λ z. r < slice_index next z in subst P e below);
          printed = λ h. told.printed h ∙ hashed.printed h ∙ owned.printed h;
          inputs = λ h. told.inputs h ∙ hashed.inputs h ∙ owned.inputs h;
        };
        is = record {
          value_low = (let k = taken_first in omega (arith, k, low));
          nonce_low = (let k = taken_first in omega (arith, k));
          digest_low = (let k = taken_second in omega (arith, k));
          value = told.others p.0 x.0 ready.apart ∙ hashed.below x.0 (omega (arith, low)) ∙ value;
          digest = heard ∙ said ∙ ap₂ digest_of nonce value;
        };
      }

  pub binds : LeadsTo t next (committed p v x next) w
      (λ u. IsCommitted p v (committed p v x next).next u (committed p v x next).given.0 (committed p v x next).given.1 ((w p.0).registers x.0))
  binds =
      let P : ℕ → Type 0 = λ m. LeadsTo t next (made_at m) w
      (λ u. IsCommitted p v (taken v 8 (taken p 16 next)) u (made_at m).given.0 (made_at m).given.1 ((w p.0).registers x.0)) in
      subst P (sym (taken_other p 16 next v.0 (λ e. ready.apart (sym e)))) binds_at
