-- Commitments: who is told the digest, or the word with its nonce, is told it by the host that is bound. Where that one is in the
-- coalition, it says the same in both runs.
use Rattle.std.proofs.Common.{ℕ, nat_eq, Bool, true, false, if◌then◌else◌, List, [], ◌∷◌, ap}
use Rattle.vd_base.specs.declared.ids.HostId.{HostId}
use Rattle.vd_execution.specs.declared.instructions.Reg.{Reg}
use Rattle.vd_execution.specs.Step.{words_in}
use Rattle.vd_execution.specs.World.{Tape}
use Rattle.vd_execution.specs.Joint.{Host, Hosts}
use Rattle.vd_execution.specs.Acts.{run_acts}
use Rattle.vd_execution.specs.Gadgets.{Gadget, Alone, Tells, Shares, BothShare, Opens, Masked, Paired, acts_of_gadget}
use Rattle.vd_duet.specs.Calls.{Places, Made}
use Rattle.vd_commit.specs.declared.ends.Held.{Held}
use Rattle.vd_commit.specs.declared.ends.Seen.{Seen}
use Rattle.vd_commit.specs.Commit.{committed, revealed}
use Rattle.vd_backend_laws.specs.Commits.{held_of, seen_of, place, taken_over, shown_bound}
use Rattle.vd_views.specs.Views.{Coalition, IsIn}
use Rattle.vd_views.specs.Hiding.{GadgetKnows}
use Rattle.vd_views.specs.Sides.{AreKin, Both, Each, Telling}
use Rattle.vd_views.proofs.Sides.{telling_then}

-- a host acts by itself, or one says something that is in the coalition where it is heard there
abbrev pub IsFromWithin : Coalition → Gadget → Type 0
IsFromWithin K (Alone g a) = Unit {0}
IsFromWithin K (Tells a said b heard) = IsIn K b.0 → IsIn K a.0
IsFromWithin K (Shares a r b heard) = ⊥
IsFromWithin K (BothShare a r heard b q heard_b) = ⊥
IsFromWithin K (Opens sharing a x b y heard) = ⊥
IsFromWithin K (Masked sharing m n) = ⊥
IsFromWithin K (Paired p q) = ⊥

module _ (K : Coalition) (t y : Tape) (kin : AreKin K t y) where
  known : (g : Gadget) (w v : Hosts) → IsFromWithin K g → Both K w v → GadgetKnows K t y g w v
  known (Alone g a) w v from b = tt
  known (Tells a said c heard) w v from b = λ i. ap (λ (k : Host). words_in k.registers said) (b.looks a.0 (from i)).itself
  known (Shares a r c heard) w v from b = absurd from
  known (BothShare a r heard c q heard_b) w v from b = absurd from
  known (Opens sharing a x c z heard) w v from b = absurd from
  known (Masked sharing m n) w v from b = absurd from
  known (Paired p q) w v from b = absurd from

  within_tells : (gs : List Gadget) (w v : Hosts) → Each (IsFromWithin K) gs → Telling K t y gs w v
  within_tells [] w v from b tidy hides owns = tt
  within_tells (g ∷ gs) w v from b tidy hides owns =
      telling_then K t y kin g gs w v (λ c e. known g w v from.0 c) (within_tells gs (run_acts t (acts_of_gadget g) w) (run_acts y (acts_of_gadget g) v) from.1) b tidy hides owns

  -- a host binds itself: eight own words, their digest with the word, and the digest is told
  pub bound_tells : (p q : HostId) (x : Reg) (next : List ℕ) (w v : Hosts) → (IsIn K q.0 → IsIn K p.0) → Telling K t y (committed p q x next).gadgets w v
  bound_tells p q x next w v opens = within_tells (committed p q x next).gadgets w v (tt, (tt, (tt, (tt, (tt, (tt, (tt, (tt, (tt, (opens, tt))))))))))

  -- the word and the nonce are told, and the digest is compared
  pub revealed_tells : (p q : HostId) (held : Held) (seen : Seen) (next : List ℕ) (w v : Hosts) → (IsIn K q.0 → IsIn K p.0) → Telling K t y (revealed p q held seen next).gadgets w v
  revealed_tells p q held seen next w v opens = within_tells (revealed p q held seen next).gadgets w v (opens, (tt, (tt, (tt, (tt, (tt, (tt, (tt, (tt, (tt, tt))))))))))

  pub shown_bound_tells : (p q : HostId) (x : Places) (to : HostId) (next : List ℕ) (w v : Hosts) → (IsIn K q.0 → IsIn K p.0) → Telling K t y (shown_bound p q x to next).gadgets w v
  shown_bound_tells p q x to next w v opens = at (nat_eq to.0 p.0)
    where
      at : (b : Bool) → let one : Made Reg = if b then taken_over (place x 0) next else revealed p q (held_of x) (seen_of x) next in Telling K t y one.gadgets w v
      at true = λ both tidy hides owns. tt
      at false = revealed_tells p q (held_of x) (seen_of x) next w v opens
