-- Acts and trees that follow each other.
use Rattle.std.proofs.Common.{◌≡◌, List, [], ◌∷◌, ◌++◌, refl}
use Rattle.vd_execution.specs.Plans.{Plan, Ends, Then, Branch, Loop}
use Rattle.vd_split.specs.Joint.{Hosts, acts_then, and_then, run_acts, joint, AllFine, Goes}

module _ (m : Hosts) where
  pub run_append : (xs ys : List m.Act) (w : m.World) → run_acts m (xs ++ ys) w ≡ run_acts m ys (run_acts m xs w)
  run_append [] ys w = refl
  run_append (x ∷ xs) ys w = run_append xs ys (m.run x w)

  pub fine_append : (xs ys : List m.Act) (w : m.World) → AllFine m xs w → AllFine m ys (run_acts m xs w) → AllFine m (xs ++ ys) w
  fine_append [] ys w f g = g
  fine_append (x ∷ xs) ys w f g = (f.0, fine_append xs ys (m.run x w) f.1 g)

  pub joint_acts : (xs : List m.Act) (j : Plan m.Act) (w : m.World) → joint m (acts_then xs j) w ≡ joint m j (run_acts m xs w)
  joint_acts [] j w = refl
  joint_acts (x ∷ xs) j w = joint_acts xs j (m.run x w)

  pub joint_then : (j k : Plan m.Act) (w : m.World) → joint m (and_then j k) w ≡ joint m k (joint m j w)
  joint_then Ends k w = refl
  joint_then (Then x r) k w = joint_then r k (m.run x w)
  joint_then (Branch ps t e r) k w = joint_then r k _
  joint_then (Loop ps n b r) k w = joint_then r k _

  pub goes_acts : (xs : List m.Act) (j : Plan m.Act) (w : m.World) → AllFine m xs w → Goes m j (run_acts m xs w) → Goes m (acts_then xs j) w
  goes_acts [] j w f g = g
  goes_acts (x ∷ xs) j w f g = (f.0, goes_acts xs j (m.run x w) f.1 g)

  pub goes_then : (j k : Plan m.Act) (w : m.World) → Goes m j w → Goes m k (joint m j w) → Goes m (and_then j k) w
  goes_then Ends k w f g = g
  goes_then (Then x r) k w f g = (f.0, goes_then r k (m.run x w) f.1 g)
  goes_then (Branch ps t e r) k w f g = (f.0, f.1, goes_then r k _ f.2 g)
  goes_then (Loop ps n b r) k w f g = (f.0, goes_then r k _ f.1 g)
