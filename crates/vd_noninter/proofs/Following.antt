-- Edges that are followed one by one, and in passes.
use Rattle.std.proofs.Common.{◌≡◌, ℕ, zero, suc, ◌+◌, ◌≤◌, Bool, true, false, true≢false, ◌&&◌, ◌||◌, List, [], ◌∷◌, ◌++◌, length, refl, sym, ap, ◌∙◌, subst, arith, nat_eq, inl, inr, ◌⊎◌}
use Rattle.std.proofs.lemmas.Bool.{and_parts, eq-eqb, eqb-true, cases_eq}
use Rattle.std.proofs.lemmas.List.{length-append}
use Rattle.std.proofs.lemmas.List.Folds.{list_all-append}
use Rattle.vd_base.specs.declared.ids.SlotId.{SlotId}
use Rattle.vd_base.specs.declared.ids.HostId.{HostId}
use Rattle.vd_noninter.specs.Flowing.{only_with}
use Rattle.vd_noninter.specs.NoninterLawsDependence.{Reach, IsWithin}
use Rattle.vd_noninter.proofs.Statements.{only}
use Rattle.vd_noninter.proofs.Lawful.{then_only, and_of}
use Rattle.vd_noninter.specs.declared.edge.Node.{Node}
use Rattle.vd_noninter.specs.declared.edge.Node.TheVariants.{Told, Slot, Inputs}
use Rattle.vd_noninter.specs.declared.edge.Edge.{Edge}
use Rattle.vd_noninter.specs.Reached.{in_reach, holds, all_hold, IsWith, FollowsOne, Follows, IsReachOf}
use Rattle.vd_noninter.proofs.Closing.{and_true, and_swap}

-- ---- reaches
within_self : (r : Reach) → IsWithin r r
within_self r = record { slots = λ x is. is; hosts = λ k is. is }

within_trans : (a b c : Reach) → IsWithin a b → IsWithin b c → IsWithin a c
within_trans a b c first second = record { slots = λ x is. second.slots x (first.slots x is); hosts = λ k is. second.hosts k (first.hosts k is) }

in_more : (old more : Reach) → IsWithin old more → (node : Node) → in_reach old node ≡ true → in_reach more node ≡ true
in_more old more is Told h = refl
in_more old more is (Slot x) h = is.slots x.0 h
in_more old more is (Inputs k) h = is.hosts k.0 h

-- ---- one node more
or_parts : (a b : Bool) (P : Type 0) → (a || b) ≡ true → (a ≡ true → P) → (b ≡ true → P) → P
or_parts true b P is first second = first refl
or_parts false b P is first second = second is

or_right : (a b : Bool) → b ≡ true → (a || b) ≡ true
or_right true b is = refl
or_right false b is = is

or_left : (a b : Bool) → a ≡ true → (a || b) ≡ true
or_left a b is = ap (λ c. c || b) is

-- a test with one number more
module _ (old more : ℕ → Bool) (at : ℕ) (is : (k : ℕ) → more k ≡ (nat_eq k at || old k)) where
  still : (k : ℕ) → old k ≡ true → more k ≡ true
  still k h = is k ∙ or_right (nat_eq k at) (old k) h

  now_in : more at ≡ true
  now_in = is at ∙ or_left (nat_eq at at) (old at) (eq-eqb at at refl)

  no_other : (other : ℕ → Bool) → ((k : ℕ) → old k ≡ true → other k ≡ true) → other at ≡ true → (k : ℕ) → more k ≡ true → other k ≡ true
  no_other other before there k h =
      or_parts (nat_eq k at) (old k) (other k ≡ true) (sym (is k) ∙ h) (λ same. subst (λ j. other j ≡ true) (sym (eqb-true k at same)) there) (before k)

slot_added : (old more : Reach) (x : SlotId) → ((k : ℕ) → more.slots k ≡ (nat_eq k x.0 || old.slots k)) → ((k : ℕ) → more.hosts k ≡ old.hosts k) → IsWith (Slot x) old more
slot_added old more x slots hosts = record {
  kept = record { slots = still old.slots more.slots x.0 slots; hosts = λ k h. hosts k ∙ h };
  there = now_in old.slots more.slots x.0 slots;
  least = λ other is there. record { slots = no_other old.slots more.slots x.0 slots other.slots is.slots there; hosts = λ k h. is.hosts k (sym (hosts k) ∙ h) };
}

host_added : (old more : Reach) (host : HostId) → ((k : ℕ) → more.slots k ≡ old.slots k) → ((k : ℕ) → more.hosts k ≡ (nat_eq k host.0 || old.hosts k)) → IsWith (Inputs host) old more
host_added old more host slots hosts = record {
  kept = record { slots = λ k h. slots k ∙ h; hosts = still old.hosts more.hosts host.0 hosts };
  there = now_in old.hosts more.hosts host.0 hosts;
  least = λ other is there. record { slots = λ k h. is.slots k (sym (slots k) ∙ h); hosts = no_other old.hosts more.hosts host.0 hosts other.hosts is.hosts there };
}

told_added : (old : Reach) → IsWith Told old old
told_added old = record { kept = within_self old; there = refl; least = λ other is there. is }

-- ---- one edge
-- the whole list has the edge besides the part
record Splits (whole part : List Edge) (edge : Edge) : Type 0 where
  pub all : (other : Reach) → all_hold other whole ≡ (all_hold other part && holds other edge)
  pub size : length whole ≡ length part + 1

snoc_splits : (part : List Edge) (edge : Edge) → Splits (part ++ edge ∷ []) part edge
snoc_splits part edge = record {
  all = λ other. list_all-append (holds other) part (edge ∷ []) ∙ ap (λ b. all_hold other part && b) (and_true (holds other edge));
  size = length-append part (edge ∷ []);
}

cons_splits : (part : List Edge) (edge : Edge) → Splits (edge ∷ part) part edge
cons_splits part edge = record { all = λ other. and_swap (holds other edge) (all_hold other part); size = omega arith }

-- Of the edges some have been followed, some wait and some are left.
pub record SoFar (old now : Reach) (edges waiting left : List Edge) : Type 0 where
  pub kept : IsWithin old now
  pub least : (other : Reach) → IsWithin old other → all_hold other edges ≡ true → IsWithin now other
  pub waits : (other : Reach) → all_hold other edges ≡ true → all_hold other waiting ≡ true
  pub rest : (other : Reach) → all_hold other edges ≡ true → all_hold other left ≡ true
  pub enough : (other : Reach) → IsWithin now other → all_hold other waiting ≡ true → all_hold other left ≡ true → all_hold other edges ≡ true
  pub fewer : length waiting + length left ≤ length edges
  pub ends : length waiting + length left ≡ length edges → all_hold now left ≡ true

pub starts : (old : Reach) (edges : List Edge) → SoFar old old edges edges []
starts old edges = record {
  kept = within_self old;
  least = λ other is h. is;
  waits = λ other h. h;
  rest = λ other h. refl;
  enough = λ other is a b. a;
  fewer = omega arith;
  ends = λ e. refl;
}

pub ends_so : (old now : Reach) (edges left : List Edge) → SoFar old now edges [] left → Follows old now edges left
ends_so old now edges left s = record {
  kept = s.kept;
  least = s.least;
  rest = s.rest;
  enough = λ other is h. s.enough other is refl h;
  fewer = let low = s.fewer in omega arith;
  ends = λ e. s.ends (omega arith);
}

module _ (old now : Reach) (edges waiting waiting' left : List Edge) (edge : Edge) (splits : Splits waiting waiting' edge) (s : SoFar old now edges waiting left) where
  waiting_parts : (other : Reach) → all_hold other edges ≡ true → (all_hold other waiting' ≡ true) × (holds other edge ≡ true)
  waiting_parts other h = and_parts (all_hold other waiting') (holds other edge) (sym (splits.all other) ∙ s.waits other h)

  edge_followed : (next : Reach) → in_reach now edge.from ≡ true → IsWith edge.to now next → SoFar old next edges waiting' left
  edge_followed next from w = record {
    kept = within_trans old now next s.kept w.kept;
    least = λ other is h.
        let more = s.least other is h in
        w.least other more (only (in_reach other edge.from) (in_reach other edge.to) (waiting_parts other h).1 (in_more now other more edge.from from));
    waits = λ other h. (waiting_parts other h).0;
    rest = s.rest;
    enough = λ other is a b.
        let edge_holds = then_only (in_reach other edge.from) (in_reach other edge.to) (λ _. in_more next other is edge.to w.there) in
        s.enough other (within_trans now next other w.kept is) (splits.all other ∙ and_of (all_hold other waiting') (holds other edge) a edge_holds) b;
    fewer = let low = s.fewer in let size = splits.size in omega arith;
    ends = λ e. absurd (let low = s.fewer in let size = splits.size in omega arith);
  }

  unreached_holds : (a b : Bool) → a ≡ false → only_with a b ≡ true
  unreached_holds true b is = absurd (true≢false is)
  unreached_holds false b is = refl

  edge_left : (left' : List Edge) → in_reach now edge.from ≡ false → Splits left' left edge → SoFar old now edges waiting' left'
  edge_left left' from more = record {
    kept = s.kept;
    least = s.least;
    waits = λ other h. (waiting_parts other h).0;
    rest = λ other h. more.all other ∙ and_of (all_hold other left) (holds other edge) (s.rest other h) (waiting_parts other h).1;
    enough = λ other is a b.
        let parts = and_parts (all_hold other left) (holds other edge) (sym (more.all other) ∙ b) in
        s.enough other is (splits.all other ∙ and_of (all_hold other waiting') (holds other edge) a parts.1) parts.0;
    fewer = let low = s.fewer in let size = splits.size in let grown = more.size in omega arith;
    ends = λ e.
        let size = splits.size in
        let grown = more.size in
        more.all now ∙ and_of (all_hold now left) (holds now edge) (s.ends (omega arith)) (unreached_holds (in_reach now edge.from) (in_reach now edge.to) from);
  }

pub one_followed : (old now next : Reach) (edges waiting waiting' left left' : List Edge) (edge : Edge) → waiting ≡ waiting' ++ edge ∷ [] → SoFar old now edges waiting left → FollowsOne edge now next left left' → SoFar old next edges waiting' left'
one_followed old now next edges waiting waiting' left left' edge is s one = by (in_reach now edge.from) refl
  where
    splits : Splits waiting waiting' edge
    splits = subst (λ w. Splits w waiting' edge) (sym is) (snoc_splits waiting' edge)

    by : (b : Bool) → in_reach now edge.from ≡ b → SoFar old next edges waiting' left'
    by true from =
        let step = one.followed from in
        subst (SoFar old next edges waiting') (sym step.1) (edge_followed old now edges waiting waiting' left edge splits s next from step.0)
    by false from =
        let step = one.waits from in
        subst (λ (r : Reach). SoFar old r edges waiting' left') (sym step.0)
        (edge_left old now edges waiting waiting' left edge splits s left' from (subst (λ l. Splits l left edge) (sym step.1) (snoc_splits left edge)))

-- ---- passes
pub record Leads (now : Reach) (edges waiting : List Edge) : Type 0 where
  pub least : (other : Reach) → all_hold other edges ≡ true → IsWithin now other
  pub waits : (other : Reach) → all_hold other edges ≡ true → all_hold other waiting ≡ true
  pub enough : (other : Reach) → IsWithin now other → all_hold other waiting ≡ true → all_hold other edges ≡ true

pub leads_first : (nothing : Reach) (edges : List Edge) → ((x : ℕ) → nothing.slots x ≡ false) → ((k : ℕ) → nothing.hosts k ≡ false) → Leads nothing edges edges
leads_first nothing edges slots hosts = record {
  least = λ other h. record { slots = λ x is. absurd (true≢false (sym is ∙ slots x)); hosts = λ k is. absurd (true≢false (sym is ∙ hosts k)) };
  waits = λ other h. h;
  enough = λ other is h. h;
}

pub leads_next : (now next : Reach) (edges waiting left : List Edge) → Leads now edges waiting → Follows now next waiting left → Leads next edges left
leads_next now next edges waiting left l f = record {
  least = λ other h. f.least other (l.least other h) (l.waits other h);
  waits = λ other h. f.rest other (l.waits other h);
  enough = λ other is h. l.enough other (within_trans now next other f.kept is) (f.enough other is h);
}

pub leads_to : (now next : Reach) (edges waiting left : List Edge) → Leads now edges waiting → Follows now next waiting left → length left ≡ length waiting → IsReachOf edges next
leads_to now next edges waiting left l f ends =
    let last = leads_next now next edges waiting left l f in
    record { closed = last.enough next (within_self next) (f.ends ends); least = last.least }

-- ---- there is a least reach
abbrev with_node : Node → Reach → Reach
with_node Told r = r
with_node (Slot x) r = record { slots = λ k. nat_eq k x.0 || r.slots k; hosts = r.hosts }
with_node (Inputs host) r = record { slots = r.slots; hosts = λ k. nat_eq k host.0 || r.hosts k }

node_added : (node : Node) (r : Reach) → IsWith node r (with_node node r)
node_added Told r = told_added r
node_added (Slot x) r = slot_added r (with_node (Slot x) r) x (λ k. refl) (λ k. refl)
node_added (Inputs host) r = host_added r (with_node (Inputs host) r) host (λ k. refl) (λ k. refl)

bool_cases : (b : Bool) → (b ≡ true) ⊎ (b ≡ false)
bool_cases true = inl refl
bool_cases false = inr refl

pass : (old now : Reach) (edges waiting left : List Edge) → SoFar old now edges waiting left → (next : Reach) × ((rest : List Edge) × Follows old next edges rest)
pass old now edges [] left s = (now, (left, ends_so old now edges left s))
pass old now edges (edge ∷ waiting) left s = elim (bool_cases (in_reach now edge.from)) [
  | inl from ↦ pass old (with_node edge.to now) edges waiting left
      (edge_followed old now edges (edge ∷ waiting) waiting left edge (cons_splits waiting edge) s (with_node edge.to now) from (node_added edge.to now))
  | inr from ↦ pass old now edges waiting (edge ∷ left)
      (edge_left old now edges (edge ∷ waiting) waiting left edge (cons_splits waiting edge) s (edge ∷ left) from (cons_splits left edge))
]

passes : (most : ℕ) (now : Reach) (edges waiting : List Edge) → length waiting ≤ most → Leads now edges waiting → (r : Reach) × IsReachOf edges r
passes zero now edges [] few l = (now, record { closed = l.enough now (within_self now) refl; least = l.least })
passes zero now edges (edge ∷ waiting) few l = absurd (omega arith)
passes (suc most) now edges waiting few l =
    let one = pass now now waiting waiting [] (starts now waiting) in
    let next = one.0 in
    let left = one.1.0 in
    let follows = one.1.1 in
    elim (cases_eq (length left) (length waiting)) [
      | inl ends ↦ (next, leads_to now next edges waiting left l follows ends)
      | inr differs ↦ passes most next edges left (let fewer = follows.fewer in omega arith) (leads_next now next edges waiting left l follows)
    ]

pub least_reach : (edges : List Edge) → (r : Reach) × IsReachOf edges r
least_reach edges =
    let nothing : Reach = record { slots = λ x. false; hosts = λ k. false } in
    passes (length edges) nothing edges edges (omega arith) (leads_first nothing edges (λ x. refl) (λ k. refl))
