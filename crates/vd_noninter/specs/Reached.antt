-- What is reached from a host's outputs, along edges.
use Rattle.std.specs.Prelude.{◌≡◌, ℕ, ◌≤◌, Bool, true, false, List, [], ◌∷◌, ◌++◌, length, slice_index_or}
use Rattle.std.specs.List.{list_all}
use Rattle.vd_noninter.specs.Flowing.{only_with}
use Rattle.vd_noninter.specs.NoninterLawsDependence.{Reach, IsWithin}
use Rattle.vd_noninter.specs.declared.edge.Node.{Node}
use Rattle.vd_noninter.specs.declared.edge.Node.TheVariants.{Told, Slot, Inputs}
use Rattle.vd_noninter.specs.declared.edge.Edge.{Edge}
use Rattle.vd_noninter.specs.declared.marks.Marks.{Marks}
use Rattle.vd_noninter.specs.declared.reached.Reached.{Reached}

abbrev pub is_marked : Marks → ℕ → Bool
is_marked set at = slice_index_or set.marks at false

abbrev pub reach_of : Reached → Reach
reach_of reached = record { slots = is_marked reached.slots; hosts = is_marked reached.hosts }

abbrev pub in_reach : Reach → Node → Bool
in_reach r Told = true
in_reach r (Slot x) = r.slots x.0
in_reach r (Inputs host) = r.hosts host.0

-- where the one end is reached, so is the other
abbrev pub holds : Reach → Edge → Bool
holds r edge = only_with (in_reach r edge.from) (in_reach r edge.to)

abbrev pub all_hold : Reach → List Edge → Bool
all_hold r edges = list_all (holds r) edges

-- the second is the first with this node
pub record IsWith (node : Node) (old more : Reach) : Type 0 where
  pub kept : IsWithin old more
  pub there : in_reach more node ≡ true
  pub least : (other : Reach) → IsWithin old other → in_reach other node ≡ true → IsWithin more other

-- an edge is followed if its start is reached, and else it is left
pub record FollowsOne (edge : Edge) (old more : Reach) (before left : List Edge) : Type 0 where
  pub followed : in_reach old edge.from ≡ true → IsWith edge.to old more × (left ≡ before)
  pub waits : in_reach old edge.from ≡ false → (more ≡ old) × (left ≡ before ++ edge ∷ [])

-- Some of these edges have been followed, and these are left: what holds of the edges is asked of what is reached and of
-- the edges that are left.
pub record Follows (old more : Reach) (edges left : List Edge) : Type 0 where
  pub kept : IsWithin old more
  pub least : (other : Reach) → IsWithin old other → all_hold other edges ≡ true → IsWithin more other
  pub rest : (other : Reach) → all_hold other edges ≡ true → all_hold other left ≡ true
  pub enough : (other : Reach) → IsWithin more other → all_hold other left ≡ true → all_hold other edges ≡ true
  pub fewer : length left ≤ length edges
  pub ends : length left ≡ length edges → all_hold more left ≡ true

-- the least reach at which all edges hold
pub record IsReachOf (edges : List Edge) (r : Reach) : Type 0 where
  pub closed : all_hold r edges ≡ true
  pub least : (other : Reach) → all_hold other edges ≡ true → IsWithin r other
