-- The laws of the suite that come from the back ends.
use Rattle.std.proofs.Common.{◌≡◌, ◌≢◌, ℕ, suc, ◌^◌, ◌<◌, ◌≤◌, nat_eq, nat_lt, ◌==◌, Bool, true, false, not, ◌&&◌, if◌then◌else◌, IsTrue, is_some, Option, Some, List, [], ◌∷◌, ◌⊎◌, inl, inr, length, map, refl, sym, ap, ap₂, subst, subst₂, ◌∙◌, arith}
use Rattle.std.proofs.lemmas.Bool.Decides.{nat_tests}
use Rattle.vd_base.specs.declared.ids.HostId.{HostId}
use Rattle.vd_base.specs.declared.protocols.HostSet.{HostSet}
use Rattle.vd_base.specs.HostSets.{host, same_host, has_host, size, is_pair, members}
use Rattle.vd_base.specs.declared.operations.Op.{Op}
use Rattle.vd_base.specs.declared.protocols.Proto.{Proto}
use Rattle.vd_base.specs.declared.protocols.Proto.TheVariants.{Local, Rep, Commit, Add, Xor}
use Rattle.vd_base.specs.declared.rows.Row.TheVariants.{Constant, Variable, Apply}
use Rattle.vd_base.specs.Arity.{arity}
use Rattle.vd_base.specs.Moves.{move_if, same_hosts}
use Rattle.vd_base.specs.Operations.{result_of}
use Rattle.vd_base.specs.Holders.{holders}
use Rattle.vd_execution.specs.World.{Tape}
use Rattle.vd_execution.specs.Deals.{IsValidDeal}
use Rattle.vd_execution.specs.Joint.{Hosts}
use Rattle.vd_duet.specs.Calls.{Places, Made}
use Rattle.vd_duet.specs.Laws.{NumberFits, IsHost, IsIn, IsInOne, nowhere, at_host, GivesWord}
use Rattle.vd_duet.proofs.Front.{leads_nothing}
use Rattle.vd_commit.specs.Commit.{revealed}
use Rattle.vd_commit.specs.Law.{AreReady, IsCommitted}
use Rattle.vd_split.specs.Suite.{Word, Gives, Ready, Operand, Operands, NamedBy, Renews, nothing}
use Rattle.vd_split.proofs.Front.{and_left, and_right}
use Rattle.vd_backend_laws.specs.Commits.{committed_at, held_of, seen_of, taken_over, bound, shown_bound, shown_to_all}
use Rattle.vd_backend_laws.specs.Moves.{IsRoute, moved, only, shown_each}
use Rattle.vd_backend_laws.specs.Parts.{Parts, word_in, made_of, has_back_end, back_end, route}
use Rattle.vd_backend_laws.specs.Suite.{Names, IsOver, holds, joins}
use Rattle.vd_backend_laws.proofs.BoundParts.{value_in}
use Rattle.vd_backend_laws.proofs.Over.{equal_of, in_order, ordered_differ, bound_differ, bound_small}
use Rattle.vd_backend_laws.proofs.TwoHosts.{has_member, members_of_pair}
use Rattle.vd_backend_laws.proofs.Moves.{move_gives}
use Rattle.vd_backend_laws.proofs.Standing.{no_back_end, cells_of, in_names}
use Rattle.vd_backend_laws.proofs.Gives.{M, S, proto_is, serves, laws_of, for_constant, for_variable, for_operation, leads_as, gives_word, ready_at, operand_at, operands_at, named_by, renews_word}
use Rattle.vd_backend_laws.proofs.Binding.{both_ready, is_committed, bind_law, shown_here, shown_there, shown_at_both}

if_holds : (b : Bool) (cost : ℕ) → IsTrue (is_some (move_if b cost)) → b ≡ true
if_holds true cost e = refl
if_holds false cost e = cc

-- the same two hosts
same_two : (a b c d : HostId) (cost : ℕ) → IsTrue (is_some (move_if (same_hosts a b c d) cost)) → (a.0 ≡ c.0) × (b.0 ≡ d.0)
same_two a b c d cost j =
    let e = if_holds (same_hosts a b c d) cost j in
    (equal_of a.0 c.0 (and_left (same_host a c) (same_host b d) e), equal_of b.0 d.0 (and_right (same_host a c) (same_host b d) e))

added_is : (a b c d : HostId) → (a.0 ≡ c.0) × (b.0 ≡ d.0) → back_end (Add a b) ≡ back_end (Add c d)
added_is a b c d e = ap₂ (λ (m n : ℕ). back_end (Add (host m) (host n))) e.0 e.1

xored_is : (a b c d : HostId) → (a.0 ≡ c.0) × (b.0 ≡ d.0) → back_end (Xor a b) ≡ back_end (Xor c d)
xored_is a b c d e = ap₂ (λ (m n : ℕ). back_end (Xor (host m) (host n))) e.0 e.1

two_are : (a b c d : HostId) → (a.0 ≡ c.0) × (b.0 ≡ d.0) → a ∷ b ∷ [] ≡ c ∷ d ∷ []
two_are a b c d e = ap₂ (λ (m n : ℕ). host m ∷ host n ∷ []) e.0 e.1

lt_of : (a b : ℕ) → nat_lt a b ≡ true → a < b
lt_of a b h = grind (arith, nat_tests)

not_lt_of : (a b : ℕ) → nat_lt a b ≡ false → b ≤ a
not_lt_of a b h = grind (arith, nat_tests)

strictly : (m n : ℕ) → n ≤ m → m ≢ n → n < m
strictly m n le d = grind (arith)

either_order : (m n : ℕ) → m ≢ n → (m < n) ⊎ (n < m)
either_order m n d = at (nat_lt m n) refl
  where
    at : (z : Bool) → nat_lt m n ≡ z → (m < n) ⊎ (n < m)
    at true e = inl (lt_of m n e)
    at false e = inr (strictly m n (not_lt_of m n e) d)

pair_turned : (x y z : Bool) → (x && y && z) ≡ true → (y && x && z) ≡ true
pair_turned true true z e = e
pair_turned true false z e = e
pair_turned false true z e = e
pair_turned false false z e = e

-- the members of a pair are its two hosts
pair_members : (set : HostSet) (a b : HostId) → (a.0 < b.0) × (b.0 < 8) → is_pair set a b ≡ true → (h : ℕ) → IsHost (members 8 set) h → IsHost (a ∷ b ∷ []) h
pair_members set a b o e h i = subst (λ (l : List HostId). IsHost l h) (members_of_pair set a b o e) i

-- two hosts of a set have members' copies
both_members : (set : HostSet) (a b : HostId) → (a.0 < b.0) × (b.0 < 8) → IsTrue (is_some (move_if (has_host set a && has_host set b) 0)) → (h : ℕ) → IsHost (a ∷ b ∷ []) h → IsHost (members 8 set) h
both_members set a b o j h i = at i
  where
    has : (has_host set a && has_host set b) ≡ true
    has = if_holds (has_host set a && has_host set b) 0 j

    low : a.0 < b.0 → b.0 < 8 → a.0 < 8
    low p q = omega (arith, p, q)

    at : (h ≡ a.0) ⊎ ((h ≡ b.0) ⊎ ⊥) → IsHost (members 8 set) h
    at (inl e) = subst (IsHost (members 8 set)) (sym e) (has_member set a (low o.0 o.1) (and_left (has_host set a) (has_host set b) has))
    at (inr (inl e)) = subst (IsHost (members 8 set)) (sym e) (has_member set b o.1 (and_right (has_host set a) (has_host set b) has))
    at (inr (inr e)) = absurd e

-- the hosts of a set of two are those of a commitment, in either order
bound_members : (set : HostSet) (a b : HostId) → (not (nat_eq a.0 b.0) && (nat_lt a.0 8 && nat_lt b.0 8)) ≡ true → is_pair set a b ≡ true → (h : ℕ) → IsHost (members 8 set) h → IsHost (a ∷ b ∷ []) h
bound_members set a b o e h i = at (either_order a.0 b.0 (bound_differ a b o)) (bound_small a b o)
  where
    turned : IsHost (b ∷ a ∷ []) h → IsHost (a ∷ b ∷ []) h
    turned (inl j) = inr (inl j)
    turned (inr (inl j)) = inl j
    turned (inr (inr j)) = absurd j

    at : (a.0 < b.0) ⊎ (b.0 < a.0) → (a.0 < 8) × (b.0 < 8) → IsHost (a ∷ b ∷ []) h
    at (inl lt) small = pair_members set a b (lt, small.1) e h i
    at (inr lt) small = turned (pair_members set b a (lt, small.0) (pair_turned (has_host set a) (has_host set b) (size set == 2) e) h i)

-- the route between two protocols with back ends that join leads there
route_leads : (hosts : ℕ) (p q : Proto) → has_back_end p ≡ true → has_back_end q ≡ true → IsTrue (joins p q) → IsOver hosts p → IsOver hosts q → IsRoute (route p q) (back_end p) (back_end q)
route_leads hosts (Commit u v) q a b j d e = no_back_end a
route_leads hosts (Local h) (Local k) a b j d e = (refl, j)
route_leads hosts (Local h) (Rep set) a b j d e = (refl, j)
route_leads hosts (Local h) (Commit u v) a b j d e = no_back_end b
route_leads hosts (Local h) (Add u v) a b j d e = (refl, j)
route_leads hosts (Local h) (Xor u v) a b j d e = (refl, j)
route_leads hosts (Rep set) (Local k) a b j d e = (refl, j)
route_leads hosts (Rep set) (Rep other) a b j d e = ((set, (d.some.0, d.some.1), refl), refl)
route_leads hosts (Rep set) (Commit u v) a b j d e = no_back_end b
route_leads hosts (Rep set) (Add u v) a b j d e = ((set, refl), λ h i. both_members set u v (in_order u v e.ordered) j h i)
route_leads hosts (Rep set) (Xor u v) a b j d e = ((set, refl), λ h i. both_members set u v (in_order u v e.ordered) j h i)
route_leads hosts (Add u v) (Local k) a b j d e = (refl, j)
route_leads hosts (Add u v) (Rep set) a b j d e = ((set, refl), λ h i. pair_members set u v (in_order u v d.ordered) (if_holds (is_pair set u v) 10 j) h i)
route_leads hosts (Add u v) (Commit x y) a b j d e = no_back_end b
route_leads hosts (Add u v) (Add x y) a b j d e = let s = same_two u v x y 0 j in (added_is u v x y s, two_are u v x y s)
route_leads hosts (Add u v) (Xor x y) a b j d e =
    let s = same_two u v x y 212 j in
    (ordered_differ x y e.ordered, ap₂ (λ (m n : ℕ). Add (host m) (host n)) s.0 s.1, refl)
route_leads hosts (Xor u v) (Local k) a b j d e = (refl, j)
route_leads hosts (Xor u v) (Rep set) a b j d e = ((set, refl), λ h i. pair_members set u v (in_order u v d.ordered) (if_holds (is_pair set u v) 10 j) h i)
route_leads hosts (Xor u v) (Commit x y) a b j d e = no_back_end b
route_leads hosts (Xor u v) (Add x y) a b j d e =
    let s = same_two u v x y 210 j in
    (ordered_differ x y e.ordered, ap₂ (λ (m n : ℕ). Xor (host m) (host n)) s.0 s.1, refl)
route_leads hosts (Xor u v) (Xor x y) a b j d e = let s = same_two u v x y 0 j in (xored_is u v x y s, two_are u v x y s)

pub length_map : (xs : List Parts) → length (map (λ (x : Parts). x.at) xs) ≡ length xs
length_map [] = refl
length_map (x ∷ xs) = ap suc (length_map xs)

module _ (t : Tape) (deal : IsValidDeal t) (inputs : ℕ → List ℕ) (hosts : ℕ) where
  pub literal_law : (p : Proto) → IsOver hosts p → IsTrue (holds Constant p) → (v : ℕ) → v < 2 ^ 32 → (next : List ℕ) (w : Hosts) → Ready (M t inputs hosts) (S t inputs hosts) next w
      → Gives (M t inputs hosts) (S t inputs hosts) next nothing ((S t inputs hosts).calls.literal p v next) w p (Word v)
  literal_law p d row v small next w r =
      let e = for_constant p row in
      gives_word t inputs hosts (back_end p) next nowhere nothing ((back_end p).literal v next) w p v e (proto_is p) (λ k i x. x)
      ((laws_of p e hosts d).literal t next w (ready_at t inputs hosts deal (back_end p) next w p (proto_is p) d r) v small)

  -- ---- moves

  -- between two protocols with back ends
  routed : (p q : Proto) → has_back_end p ≡ true → has_back_end q ≡ true → IsOver hosts p → IsOver hosts q → IsTrue (joins p q) → (x : Parts) (v : ℕ) (next : List ℕ) (w : Hosts)
      → Ready (M t inputs hosts) (S t inputs hosts) next w → Operand (M t inputs hosts) (S t inputs hosts) next w p x v
      → Gives (M t inputs hosts) (S t inputs hosts) next (Names x) ((S t inputs hosts).calls.move p q x next) w q (Word v)
  routed p q a b dp dq j x v next w r o =
      gives_word t inputs hosts (back_end q) next (IsIn x.at) (Names x) (moved (route p q) (back_end p) (back_end q) x.at next) w q v b (proto_is q)
      (λ h i s. in_names x h i (cells_of p a w x (Word v) o.stands).size s)
      (move_gives (route p q) (back_end p) (back_end q) (laws_of p a hosts dp) (laws_of q b hosts dq) (route_leads hosts p q a b j dp dq) t next w
      (ready_at t inputs hosts deal (back_end p) next w p (proto_is p) dp r) (ready_at t inputs hosts deal (back_end q) next w q (proto_is q) dq r) x.at v
      (operand_at t inputs hosts (back_end p) next w p x v a (proto_is p) o))

  -- to a commitment
  bound_from : (h p v : HostId) → IsOver hosts (Commit p v) → IsTrue (joins (Local h) (Commit p v)) → (x : Parts) (n : ℕ) (next : List ℕ) (w : Hosts)
      → Ready (M t inputs hosts) (S t inputs hosts) next w → Operand (M t inputs hosts) (S t inputs hosts) next w (Local h) x n
      → Gives (M t inputs hosts) (S t inputs hosts) next (Names x) (made_of (bound p v (only x.at) next)) w (Commit p v) (Word n)
  bound_from h p v d j x n next w r o =
      let e : h.0 ≡ p.0 = equal_of h.0 p.0 (if_holds (same_host h p) 10 j) in
      bind_law t deal inputs hosts p v d x n next w r (subst (λ (z : ℕ). Operand (M t inputs hosts) (S t inputs hosts) next w (Local (host z)) x n) e o)

  module _ (p v : HostId) (d : IsOver hosts (Commit p v)) (x : Parts) (n : ℕ) (next : List ℕ) (w : Hosts) (r : Ready (M t inputs hosts) (S t inputs hosts) next w)
      (o : Operand (M t inputs hosts) (S t inputs hosts) next w (Commit p v) x n) where
    ready : AreReady p v t next w
    ready = both_ready t deal inputs hosts p v d next w r

    committed_to : IsCommitted p v next w (held_of x.at) (seen_of x.at) n
    committed_to = is_committed t deal inputs hosts p v next w x n o

    named : IsIn x.at p.0 (held_of x.at).value.0
    named = value_in p v x.at o.stands.at

    -- what a back end is given
    as_word : (q : Proto) → has_back_end q ≡ true → (made : Made Places) → GivesWord (back_end q) t next (IsIn x.at) made w n
        → Gives (M t inputs hosts) (S t inputs hosts) next (Names x) (made_of made) w q (Word n)
    as_word q e made g = gives_word t inputs hosts (back_end q) next (IsIn x.at) (Names x) made w q n e (proto_is q) (λ h i s. in_names x h i o.stands.size s) g

    shown_to : (k : HostId) → IsTrue (joins (Commit p v) (Local k))
        → Gives (M t inputs hosts) (S t inputs hosts) next (Names x) (made_of (at_host k (shown_bound p v x.at k next))) w (Local k) (Word n)
    shown_to k j = at (nat_eq k.0 p.0) refl j
      where
        at : (b : Bool) → nat_eq k.0 p.0 ≡ b → IsTrue (is_some (let m : Option ℕ = if b then Some 0 else move_if (same_host k v) 12 in m))
            → Gives (M t inputs hosts) (S t inputs hosts) next (Names x)
            (made_of (at_host k (if b then taken_over (held_of x.at).value next else revealed p v (held_of x.at) (seen_of x.at) next))) w (Local k) (Word n)
        at true e i = as_word (Local k) refl (at_host k (taken_over (held_of x.at).value next)) (shown_here p v t next w ready x.at n committed_to named k (equal_of k.0 p.0 e))
        at false e i =
            as_word (Local k) refl (at_host k (revealed p v (held_of x.at) (seen_of x.at) next))
            (shown_there p v t next w ready x.at n committed_to named k (equal_of k.0 v.0 (if_holds (same_host k v) 12 i)))

    shown_to_set : (set : HostSet) → IsTrue (joins (Commit p v) (Rep set))
        → Gives (M t inputs hosts) (S t inputs hosts) next (Names x) (made_of (shown_each (holders (Rep set)) (shown_to_all p v x.at next))) w (Rep set) (Word n)
    shown_to_set set j =
        as_word (Rep set) refl (shown_each (holders (Rep set)) (shown_to_all p v x.at next))
        (shown_at_both p v t next w ready x.at n committed_to named set (λ h i. bound_members set p v d.ordered (if_holds (is_pair set p v) 12 j) h i))

    -- to the same two hosts
    same_bound : (q u : HostId) → IsTrue (joins (Commit p v) (Commit q u))
        → Gives (M t inputs hosts) (S t inputs hosts) next (Names x) (made_of (let m : Made Places = record { given = committed_at q u (held_of x.at, seen_of x.at); gadgets = []; next = next } in m)) w
        (Commit q u) (Word n)
    same_bound q u j =
        let s = same_two p v q u 0 j in
        subst₂ (λ (a b : ℕ). let m : Made Places = record { given = committed_at (host a) (host b) (held_of x.at, seen_of x.at); gadgets = []; next = next } in
        Gives (M t inputs hosts) (S t inputs hosts) next (Names x) (made_of m) w (Commit (host a) (host b)) (Word n)) s.0 s.1
        (subst (λ (y : Places). let m : Made Places = record { given = y; gadgets = []; next = next } in Gives (M t inputs hosts) (S t inputs hosts) next (Names x) (made_of m) w (Commit p v) (Word n))
        o.stands.at unmoved)
      where
        one : Parts
        one = word_in x.at

        same_parts : one ≡ x
        same_parts = ap (λ (m : ℕ). let y : Parts = record { at = x.at; size = m } in y) (sym o.stands.size)

        unmoved : let m : Made Places = record { given = x.at; gadgets = []; next = next } in Gives (M t inputs hosts) (S t inputs hosts) next (Names x) (made_of m) w (Commit p v) (Word n)
        unmoved = record {
          reached = w;
          leads = leads_as t inputs hosts next nowhere nothing [] w w (λ h q z. z) tt (leads_nothing t next nowhere w r.sound);
          quiet = record { printed = λ h. refl; waiting = λ h. refl };
          fresh = record {
            known = refl;
            longer = λ h. omega arith;
            below = λ h q i. o.below h q (subst (λ (y : Parts). Names y h q) same_parts i);
            from = λ h q i. inr (subst (λ (y : Parts). Names y h q) same_parts i);
          };
          stands = record { size = refl; at = o.stands.at; value = o.stands.value; digest = o.stands.digest };
        }

  pub move_law : (p q : Proto) → IsOver hosts p → IsOver hosts q → IsTrue (joins p q) → (x : Parts) (v : ℕ) (next : List ℕ) (w : Hosts) → Ready (M t inputs hosts) (S t inputs hosts) next w
      → Operand (M t inputs hosts) (S t inputs hosts) next w p x v → Gives (M t inputs hosts) (S t inputs hosts) next (Names x) ((S t inputs hosts).calls.move p q x next) w q (Word v)
  move_law (Local h) (Local k) dp dq j x v next w r o = routed (Local h) (Local k) refl refl dp dq j x v next w r o
  move_law (Local h) (Rep set) dp dq j x v next w r o = routed (Local h) (Rep set) refl refl dp dq j x v next w r o
  move_law (Local h) (Commit c d) dp dq j x v next w r o = bound_from h c d dq j x v next w r o
  move_law (Local h) (Add c d) dp dq j x v next w r o = routed (Local h) (Add c d) refl refl dp dq j x v next w r o
  move_law (Local h) (Xor c d) dp dq j x v next w r o = routed (Local h) (Xor c d) refl refl dp dq j x v next w r o
  move_law (Rep set) (Local k) dp dq j x v next w r o = routed (Rep set) (Local k) refl refl dp dq j x v next w r o
  move_law (Rep set) (Rep other) dp dq j x v next w r o = routed (Rep set) (Rep other) refl refl dp dq j x v next w r o
  move_law (Rep set) (Commit c d) dp dq j x v next w r o = no_back_end j
  move_law (Rep set) (Add c d) dp dq j x v next w r o = routed (Rep set) (Add c d) refl refl dp dq j x v next w r o
  move_law (Rep set) (Xor c d) dp dq j x v next w r o = routed (Rep set) (Xor c d) refl refl dp dq j x v next w r o
  move_law (Commit a b) (Local k) dp dq j x v next w r o = shown_to a b dp x v next w r o k j
  move_law (Commit a b) (Rep set) dp dq j x v next w r o = shown_to_set a b dp x v next w r o set j
  move_law (Commit a b) (Commit c d) dp dq j x v next w r o = same_bound a b dp x v next w r o c d j
  move_law (Commit a b) (Add c d) dp dq j x v next w r o = no_back_end j
  move_law (Commit a b) (Xor c d) dp dq j x v next w r o = no_back_end j
  move_law (Add a b) (Local k) dp dq j x v next w r o = routed (Add a b) (Local k) refl refl dp dq j x v next w r o
  move_law (Add a b) (Rep set) dp dq j x v next w r o = routed (Add a b) (Rep set) refl refl dp dq j x v next w r o
  move_law (Add a b) (Commit c d) dp dq j x v next w r o = no_back_end j
  move_law (Add a b) (Add c d) dp dq j x v next w r o = routed (Add a b) (Add c d) refl refl dp dq j x v next w r o
  move_law (Add a b) (Xor c d) dp dq j x v next w r o = routed (Add a b) (Xor c d) refl refl dp dq j x v next w r o
  move_law (Xor a b) (Local k) dp dq j x v next w r o = routed (Xor a b) (Local k) refl refl dp dq j x v next w r o
  move_law (Xor a b) (Rep set) dp dq j x v next w r o = routed (Xor a b) (Rep set) refl refl dp dq j x v next w r o
  move_law (Xor a b) (Commit c d) dp dq j x v next w r o = no_back_end j
  move_law (Xor a b) (Add c d) dp dq j x v next w r o = routed (Xor a b) (Add c d) refl refl dp dq j x v next w r o
  move_law (Xor a b) (Xor c d) dp dq j x v next w r o = routed (Xor a b) (Xor c d) refl refl dp dq j x v next w r o

  -- ---- operations and variables

  pub apply_law : (o : Op) (p : Proto) → IsOver hosts p → IsTrue (holds (Apply o) p) → NumberFits o → (xs : List Parts) (vs : List ℕ) → length xs ≡ arity o → (next : List ℕ) (w : Hosts)
      → Ready (M t inputs hosts) (S t inputs hosts) next w → Operands (M t inputs hosts) (S t inputs hosts) next w p xs vs
      → Gives (M t inputs hosts) (S t inputs hosts) next (NamedBy (M t inputs hosts) (S t inputs hosts) xs) ((S t inputs hosts).calls.apply o p xs next) w p (Word (result_of o vs))
  apply_law o p d row fits xs vs many next w r os =
      let e = for_operation o p row in
      gives_word t inputs hosts (back_end p) next (IsInOne (map (λ x. x.at) xs)) (NamedBy (M t inputs hosts) (S t inputs hosts) xs) ((back_end p).apply o (map (λ x. x.at) xs) next) w p (result_of o vs) e
      (proto_is p) (named_by t inputs hosts next w p xs vs e os)
      ((laws_of p e hosts d).apply t next w (ready_at t inputs hosts deal (back_end p) next w p (proto_is p) d r) o (serves p o row) fits (map (λ x. x.at) xs) vs (length_map xs ∙ many)
      (operands_at t inputs hosts (back_end p) next w p xs vs e (proto_is p) os))

  pub keep_law : (p : Proto) → IsOver hosts p → IsTrue (holds Variable p) → (x : Parts) (v : ℕ) (next : List ℕ) (w : Hosts) → Ready (M t inputs hosts) (S t inputs hosts) next w
      → Operand (M t inputs hosts) (S t inputs hosts) next w p x v → Gives (M t inputs hosts) (S t inputs hosts) next nothing ((S t inputs hosts).calls.keep p x next) w p (Word v)
  keep_law p d row x v next w r o =
      let e = for_variable p row in
      gives_word t inputs hosts (back_end p) next nowhere nothing ((back_end p).keep x.at next) w p v e (proto_is p) (λ k i z. z)
      ((laws_of p e hosts d).keep t next w (ready_at t inputs hosts deal (back_end p) next w p (proto_is p) d r) x.at v (operand_at t inputs hosts (back_end p) next w p x v e (proto_is p) o))

  pub renew_law : (p : Proto) → IsOver hosts p → IsTrue (holds Variable p) → (kept x : Parts) (u v : ℕ) (next : List ℕ) (w : Hosts) → Ready (M t inputs hosts) (S t inputs hosts) next w
      → Operand (M t inputs hosts) (S t inputs hosts) next w p kept u → Operand (M t inputs hosts) (S t inputs hosts) next w p x v
      → Renews (M t inputs hosts) (S t inputs hosts) next kept ((S t inputs hosts).calls.renew p kept x) w p (Word v)
  renew_law p d row kept x u v next w r k o =
      let e = for_variable p row in
      renews_word t inputs hosts (back_end p) next kept x w p v e (proto_is p) (cells_of p e w kept (Word u) k.stands).size
      ((laws_of p e hosts d).renew t next w (ready_at t inputs hosts deal (back_end p) next w p (proto_is p) d r) kept.at x.at u v
      (operand_at t inputs hosts (back_end p) next w p kept u e (proto_is p) k) (operand_at t inputs hosts (back_end p) next w p x v e (proto_is p) o))
