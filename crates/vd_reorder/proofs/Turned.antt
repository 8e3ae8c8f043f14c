-- One host of a world has another code before it.
use Rattle.std.specs.Prelude.{slice_get}
use Rattle.std.proofs.Common.{◌≡◌, ◌≢◌, inl, inr, ℕ, List, Some, refl, sym, ap, ◌∙◌}
use Rattle.vd_execution.specs.Registers.{Registers, put}
use Rattle.vd_execution.specs.Code.{Code, Then}
use Rattle.vd_execution.specs.Step.{State, Cursors, Deed, Quiet, Said, Heard, Printed, answer, need, next, deed}
use Rattle.vd_execution.specs.World.{Local, World, Supply, given, done, moved_on, step}
use Rattle.vd_execution.proofs.Front.{same_or_not, put_same, put_other, put_commutes}
use Rattle.vd_execution.proofs.Front.{Below, answer_more, stepped, steps_to}
use Rattle.vd_reorder.specs.Hastening.{Piece, Acts, Sends, Awaits, before, at}

-- host h of the world has this code before it
abbrev pub turned : World → ℕ → Code → World
turned w h d = put w h (at (w h) d)

turned_sent : (w : World) (h : ℕ) (d : Code) (p : ℕ) → (turned w h d p).sent ≡ (w p).sent
turned_sent w h d p =
    elim (same_or_not p h) [
      | inl same ↦ ap (λ q. (turned w h d q).sent) same ∙ ap (λ (l : Local). l.sent) (put_same w h (at (w h) d)) ∙ ap (λ q. (w q).sent) (sym same)
      | inr other ↦ ap (λ (l : Local). l.sent) (put_other w h (at (w h) d) p other)
    ]

pub turned_below : (s : Supply) (w : World) (h : ℕ) (d : Code) (g : ℕ) (m : Local) → Below (given s w g m) (given s (turned w h d) g m)
turned_below s w h d g m = record {
  item = λ q i x e. e;
  front = λ p x e. ap (λ f. slice_get (f g) (m.taken p)) (turned_sent w h d p) ∙ e;
}

-- another host steps
pub other_steps : (s : Supply) (w u : World) (h g : ℕ) (d : Code) → g ≢ h → step s g w ≡ Some u
    → (u h ≡ w h) × (step s g (turned w h d) ≡ Some (turned u h d))
other_steps s w u h g d ne e =
    let a = stepped s g w u e in
    let new : Local = moved_on (w g) a.words in
    let able : answer (given s (turned w h d) g (w g)) (w g).state.cursors (need (w g).state) ≡ Some a.words =
    answer_more _ _ (w g).state.cursors (need (w g).state) a.words (turned_below s w h d g (w g)) a.able in
    let there : u h ≡ w h = ap (λ x. x h) a.made ∙ put_other w g new h (λ q. ne (sym q)) in (
      there,
      steps_to s g (turned w h d) (w g) a.words (put_other w h (at (w h) d) g ne) able
          ∙ ap Some (put_commutes w h g (at (w h) d) new (λ q. ne (sym q)) ∙ ap (λ x. put x h (at (w h) d)) (sym a.made) ∙ ap (λ l. put u h (at l d)) (sym there)),
    )

-- what a deed does to a host does not hang on what is before it
done_at : (l : Local) (c d : Code) (m : State) (e : Deed) → done (at l c) m e ≡ done (at l d) m e
done_at l c d m Quiet = refl
done_at l c d m (Said p words) = refl
done_at l c d m (Heard p) = refl
done_at l c d m (Printed x) = refl

-- nor on what comes behind
done_pending : (l : Local) (f : Registers) (k : Cursors) (c d : Code) (e : Deed)
    → done l (record { pending = d; registers = f; cursors = k }) e ≡ at (done l (record { pending = c; registers = f; cursors = k }) e) d
done_pending l f k c d Quiet = refl
done_pending l f k c d (Said p words) = refl
done_pending l f k c d (Heard p) = refl
done_pending l f k c d (Printed x) = refl

-- a piece needs the same and does the same, whatever comes behind it
pub piece_needs : (x : Piece) (l : Local) (c d : Code) → need (at l (before x d)).state ≡ need (at l (before x c)).state
piece_needs (Acts a) l c d = refl
piece_needs (Sends p rs) l c d = refl
piece_needs (Awaits p rs) l c d = refl

pub piece_moves : (x : Piece) (l : Local) (c d : Code) (xs : List ℕ) → moved_on (at l (before x d)) xs ≡ at (moved_on (at l (before x c)) xs) d
piece_moves (Acts a) l c d xs =
    done_at l (Then a d) (Then a c) (next (at l (Then a d)).state xs) (deed (at l (Then a d)).state)
    ∙ done_pending (at l (Then a c)) (next (at l (Then a c)).state xs).registers (next (at l (Then a c)).state xs).cursors c d (deed (at l (Then a c)).state)
piece_moves (Sends p rs) l c d xs = refl
piece_moves (Awaits p rs) l c d xs = refl

pub piece_leaves : (x : Piece) (l : Local) (c : Code) (xs : List ℕ) → (moved_on (at l (before x c)) xs).state.pending ≡ c
piece_leaves (Acts a) l c xs = ap (λ (m : Local). m.state.pending) (piece_moves (Acts a) l c c xs)
piece_leaves (Sends p rs) l c xs = refl
piece_leaves (Awaits p rs) l c xs = refl
