-- Laid-out code is tidy.
use Rattle.std.proofs.Common.{ℕ, zero, suc, ◌+◌, ◌*◌, nat_le, if◌then◌else◌, Bool, true, false, List, [], ◌∷◌, length, inl, inr, refl}
use Rattle.vd_execution.specs.Joint.{Part, TakesPart, Apart, Joint, Done, Do, Msg, If, For, Within, IsTidy}
use Rattle.vd_choreography_reorder.specs.LaidOut.{turn_begins, then_joint, in_a_row, lines_in, laid_out, LaidOutCodeIsTidy}

abbrev AreAmong : List Part → List Part → Type 0
AreAmong ps qs = (h : ℕ) → TakesPart ps h → TakesPart qs h

wider : (ps qs : List Part) → AreAmong ps qs → (j : Joint) → Within ps j → Within qs j
wider ps qs among Done w = w
wider ps qs among (Do h a j) w = (among h w.0, wider ps qs among j w.1)
wider ps qs among (Msg a said b heard j) w = (among a w.0, (among b w.1.0, wider ps qs among j w.1.1))
wider ps qs among (If rs first other j) w = (λ h t. among h (w.0 h t), wider ps qs among j w.1)
wider ps qs among (For rs count body j) w = (λ h t. among h (w.0 h t), wider ps qs among j w.1)

module _ (qs : List Part) where
  both_within : (j k : Joint) → Within qs j → Within qs k → Within qs (then_joint j k)
  both_within Done k w v = v
  both_within (Do h a j) k w v = (w.0, both_within j k w.1 v)
  both_within (Msg a said b heard j) k w v = (w.0, (w.1.0, both_within j k w.1.1 v))
  both_within (If rs first other j) k w v = (w.0, both_within j k w.1 v)
  both_within (For rs count body j) k w v = (w.0, both_within j k w.1 v)

  begins_within : (ps : List Part) (i : ℕ) (j : Joint) → AreAmong ps qs → Within qs j → Within qs (turn_begins ps i j)
  begins_within [] i j among w = w
  begins_within (p ∷ ps) i j among w = (among p.0 (inl refl), begins_within ps i j (λ h t. among h (inr t)) w)

  row_within : (ps : List Part) (body : Joint) (n i : ℕ) (rest : Joint) → AreAmong ps qs → Within qs body → Within qs rest → Within qs (in_a_row ps body n i rest)
  row_within ps body zero i rest among w v = v
  row_within ps body (suc n) i rest among w v =
      begins_within ps i (then_joint body (in_a_row ps body n (suc i) rest)) among
      (both_within body (in_a_row ps body n (suc i) rest) w (row_within ps body n (suc i) rest among w v))

  loop_within : (b : Bool) (ps : List Part) (body : Joint) (n : ℕ) (rest : Joint) → AreAmong ps qs → Within qs body → Within qs rest
      → Within qs (if b then in_a_row ps body n 0 rest else For ps n body rest)
  loop_within true ps body n rest among w v = row_within ps body n 0 rest among w v
  loop_within false ps body n rest among w v = (among, v)

module _ (most : ℕ) where
  abbrev short : List Part → ℕ → Joint → Bool
  short ps count body = nat_le (count * (length ps + lines_in (laid_out most body))) most

  laid_within : (qs : List Part) (j : Joint) → IsTidy j → Within qs j → Within qs (laid_out most j)
  laid_within qs Done tidy w = w
  laid_within qs (Do h a j) tidy w = (w.0, laid_within qs j tidy w.1)
  laid_within qs (Msg a said b heard j) tidy w = (w.0, (w.1.0, laid_within qs j tidy.1.1 w.1.1))
  laid_within qs (If ps first other j) tidy w = (w.0, laid_within qs j tidy.1.1.1 w.1)
  laid_within qs (For ps count body j) tidy w =
      loop_within qs (short ps count body) ps (laid_out most body) count (laid_out most j) w.0
      (wider ps qs w.0 (laid_out most body) (laid_within ps body tidy.1.0 tidy.0.1)) (laid_within qs j tidy.1.1 w.1)

both_tidy : (j k : Joint) → IsTidy j → IsTidy k → IsTidy (then_joint j k)
both_tidy Done k s r = r
both_tidy (Do h a j) k s r = both_tidy j k s r
both_tidy (Msg a said b heard j) k s r = (s.0, (s.1.0, both_tidy j k s.1.1 r))
both_tidy (If ps first other j) k s r = (s.0, (s.1.0, (s.1.1.0, both_tidy j k s.1.1.1 r)))
both_tidy (For ps count body j) k s r = (s.0, (s.1.0, both_tidy j k s.1.1 r))

begins_tidy : (ps : List Part) (i : ℕ) (j : Joint) → IsTidy j → IsTidy (turn_begins ps i j)
begins_tidy [] i j s = s
begins_tidy (p ∷ ps) i j s = begins_tidy ps i j s

row_tidy : (ps : List Part) (body : Joint) (n i : ℕ) (rest : Joint) → IsTidy body → IsTidy rest → IsTidy (in_a_row ps body n i rest)
row_tidy ps body zero i rest s r = r
row_tidy ps body (suc n) i rest s r =
    begins_tidy ps i (then_joint body (in_a_row ps body n (suc i) rest)) (both_tidy body (in_a_row ps body n (suc i) rest) s (row_tidy ps body n (suc i) rest s r))

loop_tidy : (b : Bool) (ps : List Part) (body : Joint) (n : ℕ) (rest : Joint) → Apart ps → Within ps body → IsTidy body → IsTidy rest
    → IsTidy (if b then in_a_row ps body n 0 rest else For ps n body rest)
loop_tidy true ps body n rest apart within s r = row_tidy ps body n 0 rest s r
loop_tidy false ps body n rest apart within s r = ((apart, within), (s, r))

module _ (most : ℕ) where
  laid_tidy : (j : Joint) → IsTidy j → IsTidy (laid_out most j)
  laid_tidy Done s = s
  laid_tidy (Do h a j) s = laid_tidy j s
  laid_tidy (Msg a said b heard j) s = (s.0, (s.1.0, laid_tidy j s.1.1))
  laid_tidy (If ps first other j) s =
      ((s.0.0, laid_within most ps first s.1.0 s.0.1, laid_within most ps other s.1.1.0 s.0.2), (laid_tidy first s.1.0, (laid_tidy other s.1.1.0, laid_tidy j s.1.1.1)))
  laid_tidy (For ps count body j) s =
      loop_tidy (short most ps count body) ps (laid_out most body) count (laid_out most j) s.0.0 (laid_within most ps body s.1.0 s.0.1) (laid_tidy body s.1.0) (laid_tidy j s.1.1)

pub is_tidy : LaidOutCodeIsTidy
is_tidy most j = laid_tidy most j
