-- Which child ended first.
use Rattle.std.proofs.Common.{◌≡◌, ℕ, zero, suc, ◌+◌, ◌<◌, Bool, true, false, nat_lt, List, [], ◌∷◌, length, Option, Some, None, IfSome, slice_get, slice_set, refl, subst, sym, arith, if◌then◌else◌}
use Rattle.std.proofs.lemmas.Option.{none-some, slice_get_within}
use Rattle.vd_edge_processes.specs.Turns.{EndedAs, likelier, remoteness}

set_here : {P : Type 0} (children : List P) (place : ℕ) (child : P) → place < length children → slice_get (slice_set children place child) place ≡ Some child
set_here [] place child within = absurd (omega arith)
set_here (first ∷ children) zero child within = refl
set_here (first ∷ children) (suc place) child within = set_here children place child (omega arith)

set_behind : {P : Type 0} (children : List P) (place other : ℕ) (new child : P) → other < place → slice_get children other ≡ Some child
    → slice_get (slice_set children place new) other ≡ Some child
set_behind [] place other new child less is = absurd (none-some child is)
set_behind (first ∷ children) zero other new child less is = absurd (omega arith)
set_behind (first ∷ children) (suc place) zero new child less is = is
set_behind (first ∷ children) (suc place) (suc other) new child less is = set_behind children place other new child (omega arith) is

module _ {P : Type 0} (ended : P → ℕ → Type 0) where
  -- what was found among the children before this one ended so
  abbrev pub Found : List P → ℕ → Option (ℕ × ℕ) → Type 0
  Found children number found = IfSome found (λ f. (f.0 < number) × EndedAs ended children f.0 f.1)

  still : (children : List P) (number : ℕ) (new : P) (f : ℕ × ℕ) → Found children number (Some f) → Found (slice_set children number new) (number + 1) (Some f)
  still children number new f is = (omega (arith, is.0), (is.1.0, set_behind children number f.0 new is.1.0 is.0 is.1.1, is.1.2))

  one_more : (children : List P) (number : ℕ) (new : P) (status : ℕ) → number < length children → ended new status
      → Found (slice_set children number new) (number + 1) (Some (number, status))
  one_more children number new status within is = (omega arith, (new, set_here children number new within, is))

  either : (test : Bool) (children : List P) (number : ℕ) (f g : ℕ × ℕ) → Found children number (Some f) → Found children number (Some g)
      → Found children number (if test then Some g else Some f)
  either true children number f g one other = other
  either false children number f g one other = one

  -- one more child was asked
  pub found_more : (children : List P) (number : ℕ) (new : P) (found : Option (ℕ × ℕ)) (status : Option ℕ) → number < length children → Found children number found
      → IfSome status (λ s. ended new s) → Found (slice_set children number new) (number + 1) (likelier found number status)
  found_more children number new None None within is told = tt
  found_more children number new (Some f) None within is told = still children number new f is
  found_more children number new None (Some s) within is told = one_more children number new s within told
  found_more children number new (Some f) (Some s) within is told =
      either (nat_lt (remoteness s) (remoteness f.1)) (slice_set children number new) (number + 1) f (number, s)
      (still children number new f is) (one_more children number new s within told)
