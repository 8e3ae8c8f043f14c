-- Laid-out code does the same.
use Rattle.std.proofs.Common.{◌≡◌, ℕ, zero, suc, ◌+◌, ◌*◌, nat_le, if◌then◌else◌, Bool, true, false, List, length, refl, sym, ap, subst, ◌∙◌}
use Rattle.vd_execution.specs.World.{Tape}
use Rattle.vd_execution.specs.Joint.{Part, Apart, Joint, Done, Do, Msg, If, For, Hosts, is_other, turn_begun, turns, after_do, after_msg, joint, AllTurns, IsTidy, IsSmooth}
use Rattle.vd_choreography_reorder.specs.LaidOut.{then_joint, in_a_row, lines_in, laid_out, LaidOutCodeDoesTheSame, LaidOutCodeIsSmooth}
use Rattle.vd_choreography_reorder.proofs.Turns.{begins, begins_smooth}

module _ (t : Tape) where
  pub behind : (j k : Joint) (w : Hosts) → joint t (then_joint j k) w ≡ joint t k (joint t j w)
  behind Done k w = refl
  behind (Do h a j) k w = behind j k (after_do t h a w)
  behind (Msg a said b heard j) k w = behind j k (after_msg a said b heard w)
  behind (If ps first other j) k w = behind j k (if is_other ps w then joint t other w else joint t first w)
  behind (For ps count body j) k w = behind j k (turns (λ i v. joint t body (turn_begun ps i v)) count 0 w)

  pub smooth_behind : (j k : Joint) (w : Hosts) → IsSmooth t j w → IsSmooth t k (joint t j w) → IsSmooth t (then_joint j k) w
  smooth_behind Done k w s r = r
  smooth_behind (Do h a j) k w s r = (s.0, smooth_behind j k (after_do t h a w) s.1 r)
  smooth_behind (Msg a said b heard j) k w s r = smooth_behind j k (after_msg a said b heard w) s r
  smooth_behind (If ps first other j) k w s r = (s.0, (s.1.0, smooth_behind j k (if is_other ps w then joint t other w else joint t first w) s.1.1 r))
  smooth_behind (For ps count body j) k w s r = (s.0, smooth_behind j k (turns (λ i v. joint t body (turn_begun ps i v)) count 0 w) s.1 r)

  abbrev Same : Joint → Joint → Type 0
  Same j k = (w : Hosts) → joint t j w ≡ joint t k w

  row : (ps : List Part) (new old : Joint) → Apart ps → Same new old → (n i : ℕ) (rest : Joint) (w : Hosts)
      → joint t (in_a_row ps new n i rest) w ≡ joint t rest (turns (λ i v. joint t old (turn_begun ps i v)) n i w)
  row ps new old apart same zero i rest w = refl
  row ps new old apart same (suc n) i rest w =
      begins t ps i (then_joint new (in_a_row ps new n (suc i) rest)) w apart ∙ behind new (in_a_row ps new n (suc i) rest) (turn_begun ps i w)
      ∙ ap (λ (v : Hosts). joint t (in_a_row ps new n (suc i) rest) v) (same (turn_begun ps i w)) ∙ row ps new old apart same n (suc i) rest (joint t old (turn_begun ps i w))

  smooth_row : (ps : List Part) (new old : Joint) → Apart ps → Same new old → ((w : Hosts) → IsSmooth t old w → IsSmooth t new w) → (n i : ℕ) (rest : Joint) (w : Hosts)
      → AllTurns (λ i v. IsSmooth t old (turn_begun ps i v)) (λ i v. joint t old (turn_begun ps i v)) n i w
      → IsSmooth t rest (turns (λ i v. joint t old (turn_begun ps i v)) n i w) → IsSmooth t (in_a_row ps new n i rest) w
  smooth_row ps new old apart same each zero i rest w all r = r
  smooth_row ps new old apart same each (suc n) i rest w all r =
      let begun : Hosts = turn_begun ps i w in
      begins_smooth t ps i (then_joint new (in_a_row ps new n (suc i) rest)) w apart
      (smooth_behind new (in_a_row ps new n (suc i) rest) begun (each begun all.0)
      (subst (λ (v : Hosts). IsSmooth t (in_a_row ps new n (suc i) rest) v) (sym (same begun))
      (smooth_row ps new old apart same each n (suc i) rest (joint t old begun) all.1 r)))

  -- a loop whose turns do the same
  turns_alike : (old new : ℕ → Hosts → Hosts) → ((i : ℕ) (v : Hosts) → new i v ≡ old i v) → (n i : ℕ) (w : Hosts) → turns new n i w ≡ turns old n i w
  turns_alike old new each zero i w = refl
  turns_alike old new each (suc n) i w = ap (λ (v : Hosts). turns new n (suc i) v) (each i w) ∙ turns_alike old new each n (suc i) (old i w)

  smooth_turns : (ps : List Part) (new old : Joint) → Same new old → ((w : Hosts) → IsSmooth t old w → IsSmooth t new w) → (n i : ℕ) (w : Hosts)
      → AllTurns (λ i v. IsSmooth t old (turn_begun ps i v)) (λ i v. joint t old (turn_begun ps i v)) n i w
      → AllTurns (λ i v. IsSmooth t new (turn_begun ps i v)) (λ i v. joint t new (turn_begun ps i v)) n i w
  smooth_turns ps new old same each zero i w all = tt
  smooth_turns ps new old same each (suc n) i w all = (
    each (turn_begun ps i w) all.0,
    subst (λ (v : Hosts). AllTurns (λ k u. IsSmooth t new (turn_begun ps k u)) (λ k u. joint t new (turn_begun ps k u)) n (suc i) v)
        (sym (same (turn_begun ps i w))) (smooth_turns ps new old same each n (suc i) (joint t old (turn_begun ps i w)) all.1),
  )

  loop : (b : Bool) (ps : List Part) (new old : Joint) → Apart ps → Same new old → (n : ℕ) (rest : Joint) (w : Hosts)
      → joint t (if b then in_a_row ps new n 0 rest else For ps n new rest) w ≡ joint t rest (turns (λ i v. joint t old (turn_begun ps i v)) n 0 w)
  loop true ps new old apart same n rest w = row ps new old apart same n 0 rest w
  loop false ps new old apart same n rest w =
      ap (λ (v : Hosts). joint t rest v)
      (turns_alike (λ i v. joint t old (turn_begun ps i v)) (λ i v. joint t new (turn_begun ps i v)) (λ i v. same (turn_begun ps i v)) n 0 w)

  smooth_loop : (b : Bool) (ps : List Part) (new old : Joint) → Apart ps → Same new old → ((w : Hosts) → IsSmooth t old w → IsSmooth t new w) → (n : ℕ) (rest : Joint) (w : Hosts)
      → AllTurns (λ i v. IsSmooth t old (turn_begun ps i v)) (λ i v. joint t old (turn_begun ps i v)) n 0 w
      → IsSmooth t rest (turns (λ i v. joint t old (turn_begun ps i v)) n 0 w) → IsSmooth t (if b then in_a_row ps new n 0 rest else For ps n new rest) w
  smooth_loop true ps new old apart same each n rest w all r = smooth_row ps new old apart same each n 0 rest w all r
  smooth_loop false ps new old apart same each n rest w all r = (
    smooth_turns ps new old same each n 0 w all,
    subst (λ (v : Hosts). IsSmooth t rest v)
        (sym (turns_alike (λ i v. joint t old (turn_begun ps i v)) (λ i v. joint t new (turn_begun ps i v)) (λ i v. same (turn_begun ps i v)) n 0 w)) r,
  )

  either : (b : Bool) (x y u v : Hosts) → x ≡ u → y ≡ v → (if b then x else y) ≡ (if b then u else v)
  either true x y u v e f = e
  either false x y u v e f = f

  module _ (most : ℕ) where
    abbrev short : List Part → ℕ → Joint → Bool
    short ps count body = nat_le (count * (length ps + lines_in (laid_out most body))) most

    same : (j : Joint) (w : Hosts) → IsTidy j → joint t (laid_out most j) w ≡ joint t j w
    same Done w tidy = refl
    same (Do h a j) w tidy = same j (after_do t h a w) tidy
    same (Msg a said b heard j) w tidy = same j (after_msg a said b heard w) tidy.1.1
    same (If ps first other j) w tidy =
        ap (λ (v : Hosts). joint t (laid_out most j) v)
        (either (is_other ps w) (joint t (laid_out most other) w) (joint t (laid_out most first) w) (joint t other w) (joint t first w)
        (same other w tidy.1.1.0) (same first w tidy.1.0))
        ∙ same j (if is_other ps w then joint t other w else joint t first w) tidy.1.1.1
    same (For ps count body j) w tidy =
        loop (short ps count body) ps (laid_out most body) body tidy.0.0 (λ v. same body v tidy.1.0) count (laid_out most j) w
        ∙ same j (turns (λ i v. joint t body (turn_begun ps i v)) count 0 w) tidy.1.1

    smooth : (j : Joint) (w : Hosts) → IsTidy j → IsSmooth t j w → IsSmooth t (laid_out most j) w
    smooth Done w tidy s = s
    smooth (Do h a j) w tidy s = (s.0, smooth j (after_do t h a w) tidy s.1)
    smooth (Msg a said b heard j) w tidy s = smooth j (after_msg a said b heard w) tidy.1.1 s
    smooth (If ps first other j) w tidy s = (
      s.0,
      (
        (λ is. smooth other w tidy.1.1.0 (s.1.0.0 is), λ is. smooth first w tidy.1.0 (s.1.0.1 is)),
        subst (λ (v : Hosts). IsSmooth t (laid_out most j) v)
            (sym (either (is_other ps w) (joint t (laid_out most other) w) (joint t (laid_out most first) w) (joint t other w) (joint t first w)
            (same other w tidy.1.1.0) (same first w tidy.1.0)))
            (smooth j (if is_other ps w then joint t other w else joint t first w) tidy.1.1.1 s.1.1),
      ),
    )
    smooth (For ps count body j) w tidy s =
        smooth_loop (short ps count body) ps (laid_out most body) body tidy.0.0 (λ v. same body v tidy.1.0) (λ v. smooth body v tidy.1.0) count (laid_out most j) w s.0
        (smooth j (turns (λ i v. joint t body (turn_begun ps i v)) count 0 w) tidy.1.1 s.1)

pub does_the_same : LaidOutCodeDoesTheSame
does_the_same most t j w = same t most j w

pub is_smooth : LaidOutCodeIsSmooth
is_smooth most t j w = smooth t most j w
