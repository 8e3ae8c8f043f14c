-- Loops that go on with what is left.
use Rattle.std.proofs.Common.{◌≡◌, ℕ, ◌+◌, ◌*◌, ◌<◌, List, [], ◌∷◌, ◌++◌, length, drop, get_or, refl, sym, ap, ap₂, subst, ◌∙◌, arith, append_assoc, append-nil}
use Rattle.std.proofs.lemmas.List.{map-append, drop_more}
use Rattle.vd_base.specs.declared.ids.HostId.{HostId}
use Rattle.vd_execution.specs.declared.instructions.Line.{Line}
use Rattle.vd_execution.specs.declared.instructions.Reg.{Reg}
use Rattle.vd_duet.specs.Builder.{Builder, TakesAtMost}
use Rattle.vd_duet.specs.Laws.{AreKnown}
use Rattle.vd_duet.specs.declared.parts.Part.{Part}
use Rattle.vd_duet.specs.Calls.{Places, Made, emitted, called, in_clear, hosts_of}
use Rattle.vd_duet.proofs.Front.{emitted_append}
use Rattle.vd_clear.specs.Copies.{each_made}

-- what is still to be made, behind what was made
abbrev pub behind : {X : Type 0} → List X → Made (List X) → Builder → List X × Builder
behind xs made b = (xs ++ made.given, record { lines = b.lines ++ emitted made.gadgets; next = made.next })

pub behind_end : {X : Type 0} (xs : List X) (b : Builder) → behind xs (record { given = []; gadgets = []; next = b.next }) b ≡ (xs, b)
behind_end xs b = ap₂ (λ (a : List _) (l : List Line). let p : List _ × Builder = (a, record { lines = l; next = b.next }) in p) (append-nil xs) (append-nil b.lines)

step_on : (f : HostId → List ℕ → Made Reg) (h : HostId) (hs : List HostId) (xs : Places) (b : Builder) (goal : Places × Builder) (r : Reg) (b' : Builder)
    → (r, b') ≡ called (f h b.next) b → behind xs (each_made f (h ∷ hs) b.next) b ≡ goal → behind (xs ++ (h, r) ∷ []) (each_made f hs b'.next) b' ≡ goal
step_on f h hs xs b goal r b' is e =
    subst (λ (z : Reg × Builder). behind (xs ++ (h, z.0) ∷ []) (each_made f hs z.1.next) z.1 ≡ goal) (sym is)
    (ap₂ (λ (a : Places) (l : List Line). let p : Places × Builder = (a, record { lines = l; next = (each_made f hs (f h b.next).next).next }) in p)
    (append_assoc xs _ _)
    (append_assoc b.lines _ _ ∙ ap (λ (l : List Line). b.lines ++ l) (sym (emitted_append (f h b.next).gadgets (each_made f hs (f h b.next).next).gadgets)))
    ∙ e)

-- one host's step
pub each_step : (f : HostId → List ℕ → Made Reg) (h : HostId) (hs : List HostId) (xs ys : List (HostId × Part)) (b : Builder) (goal : Places × Builder) (r : Reg) (b' : Builder)
    → (r, b') ≡ called (f h b.next) b → ys ≡ xs ++ (h, record { 0 = r }) ∷ [] → behind (in_clear xs) (each_made f (h ∷ hs) b.next) b ≡ goal
    → behind (in_clear ys) (each_made f hs b'.next) b' ≡ goal
each_step f h hs xs ys b goal r b' is longer e =
    ap (λ (l : Places). behind l (each_made f hs b'.next) b') (ap in_clear longer ∙ map-append (λ (q : HostId × Part). let p : HostId × Reg = (q.0, q.1.0) in p) xs ((h, record { 0 = r }) ∷ []))
    ∙ step_on f h hs (in_clear xs) b goal r b' is e

made_hosts : (f : HostId → List ℕ → Made Reg) (hs : List HostId) (next : List ℕ) → hosts_of (each_made f hs next).given ≡ hs
made_hosts f [] next = refl
made_hosts f (h ∷ hs) next = ap (λ (l : List HostId). h ∷ l) (made_hosts f hs (f h next).next)

-- each host has its part
pub each_hosts : (f : HostId → List ℕ → Made Reg) (hs : List HostId) (x : Places) (b b' : Builder) → (x, b') ≡ called (each_made f hs b.next) b → hosts_of x ≡ hs
each_hosts f hs x b b' e = ap (λ (z : Places × Builder). hosts_of z.0) e ∙ made_hosts f hs b.next

-- what the loop over hosts keeps
abbrev pub EachSoFar : (HostId → List ℕ → Made Reg) → List HostId → ℕ → List (HostId × Part) → List ℕ → Builder → Places × Builder → Type 0
EachSoFar f hs i xs next b goal =
    (behind (in_clear xs) (each_made f (drop i hs) b.next) b ≡ goal) × TakesAtMost (8 * i) next b.next × AreKnown (drop i hs) next

pub each_turn : (f : HostId → List ℕ → Made Reg) (hs : List HostId) (i : ℕ) (d : HostId) (xs ys : List (HostId × Part)) (next : List ℕ) (b : Builder) (goal : Places × Builder) (r : Reg) (b' : Builder)
    → i < length hs → (r, b') ≡ called (f (get_or hs i d) b.next) b → TakesAtMost 8 b.next b'.next → ys ≡ xs ++ (get_or hs i d, record { 0 = r }) ∷ []
    → EachSoFar f hs i xs next b goal → EachSoFar f hs (i + 1) ys next b' goal
each_turn f hs i d xs ys next b goal r b' low is few longer (e, taken, known) =
    let more = drop_more hs i d low in (
      each_step f (get_or hs i d) (drop (i + 1) hs) xs ys b goal r b' is longer (ap (λ (l : List HostId). behind (in_clear xs) (each_made f l b.next) b) (sym more) ∙ e),
      (few.0 ∙ taken.0, λ h. let p = few.1 h in let q = taken.1 h in omega (arith, p, q)),
      (subst (λ (l : List HostId). AreKnown l next) more known).1,
    )

pub each_ended : (f : HostId → List ℕ → Made Reg) (hs : List HostId) (i : ℕ) (xs : List (HostId × Part)) (next : List ℕ) (b start : Builder)
    → drop i hs ≡ [] → EachSoFar f hs i xs next b (called (each_made f hs start.next) start) → hosts_of (in_clear xs) ≡ hs
each_ended f hs i xs next b start none so_far =
    each_hosts f hs (in_clear xs) start b
    (sym (behind_end (in_clear xs) b) ∙ ap (λ (l : List HostId). behind (in_clear xs) (each_made f l b.next) b) (sym none) ∙ so_far.0)
