-- What holds up a host holds it up hastened.
use Rattle.std.proofs.Common.{◌≡◌, ℕ, List, refl, sym, ap, ◌∙◌, subst}
use Rattle.std.specs.Prelude.{slice_get}
use Rattle.vd_execution.specs.Code.{Code}
use Rattle.vd_execution.specs.Step.{Need, Nothing, Item, Packet, Unequal, Ended, of_length, need}
use Rattle.vd_execution.specs.World.{Local, Tape, endless}
use Rattle.vd_execution.specs.Histories.{Goes, gone, IsLinked}
use Rattle.vd_reorder.specs.Hastening.{at, IsHastened}
use Rattle.vd_reorder.specs.Ahead.{Reaches, IsHeldUpAt, IsHeldUp, IsHeldUpAlike}
use Rattle.vd_reorder.proofs.Later.{never_later}

held_at : (t : Tape) (h : ℕ) (stream : ℕ → List (List ℕ)) (begun old : Local) (n : Need) → need old.state ≡ n → IsHeldUpAt stream old n → Reaches t h stream begun old
    → IsHeldUpAlike t h stream begun old
held_at t h stream begun old Nothing is held r = absurd held
held_at t h stream begun old (Item s) is held r = absurd held
held_at t h stream begun old (Packet p n) is held r =
    let needs = r.waits p n is in record {
      words = r.words;
      goes = r.goes;
      linked = r.linked;
      held = subst (IsHeldUpAt stream (gone begun r.words)) (sym needs) (ap (λ i. of_length n (slice_get (stream p) i)) (r.ahead.taken p) ∙ held);
      needs = needs ∙ sym is;
      taken = r.ahead.taken;
    }
held_at t h stream begun old (Unequal x y) is held r =
    let needs = r.differ x y is in record {
      words = r.words;
      goes = r.goes;
      linked = r.linked;
      held = subst (IsHeldUpAt stream (gone begun r.words)) (sym needs) _;
      needs = needs ∙ sym is;
      taken = r.ahead.taken;
    }
held_at t h stream begun old Ended is held r = absurd held

pub held_alike : (t : Tape) (h : ℕ) (stream : ℕ → List (List ℕ)) (l : Local) (c d : Code) (words : List (List ℕ)) → IsHastened c d
    → Goes (endless t) h (at l c) words → IsLinked stream (at l c) words → IsHeldUp stream (gone (at l c) words)
    → IsHeldUpAlike t h stream (at l d) (gone (at l c) words)
held_alike t h stream l c d words x goes linked held =
    held_at t h stream (at l d) (gone (at l c) words) (need (gone (at l c) words).state) refl held (never_later t h stream l c d words x goes linked)
