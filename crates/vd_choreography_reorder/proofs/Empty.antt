-- Blocks in which nobody takes part do nothing.
use Rattle.std.proofs.Common.{◌≡◌, ◌⊎◌, inl, inr, ℕ, zero, suc, Bool, true, false, if◌then◌else◌, List, [], ◌∷◌, refl, sym, ap, ap₂, ◌∙◌, subst}
use mathlib.Core.Path.{fun_ext}
use Rattle.vd_base.specs.HostSets.{host}
use Rattle.vd_execution.specs.declared.instructions.Line.{Line}
use Rattle.vd_execution.specs.declared.instructions.Line.TheVariants as line
use Rattle.vd_execution.specs.declared.instructions.Act.TheVariants as act
use Rattle.vd_execution.specs.World.{Tape}
use Rattle.vd_execution.specs.Joint.{Part, Joint, Done, Do, Msg, If, For, Hosts, TakesPart, Within, IsTidy, IsSmooth, GuardsAre, AllTurns, is_other, turn_begun, turns, joint, after_do, after_msg}
use Rattle.vd_execution.specs.Text.{each_then, flat, register}
use Rattle.vd_choreography_reorder.specs.Order.{without_empty}
use Rattle.vd_choreography_reorder.proofs.Leads.{ends_then, elses_then}
use Rattle.vd_choreography_reorder.proofs.Texts.{HasParts}

turns_nothing : (turn : ℕ → Hosts → Hosts) → ((i : ℕ) (w : Hosts) → turn i w ≡ w) → (n i : ℕ) (w : Hosts) → turns turn n i w ≡ w
turns_nothing turn each zero i w = refl
turns_nothing turn each (suc n) i w = ap (turns turn n (suc i)) (each i w) ∙ turns_nothing turn each n (suc i) w

-- code in which nobody acts
nothing_done : (t : Tape) (j : Joint) → Within [] j → IsTidy j → (w : Hosts) → joint t j w ≡ w
nothing_done t Done within tidy w = refl
nothing_done t (Do h a rest) within tidy w = absurd within.0
nothing_done t (Msg a said b heard rest) within tidy w = absurd within.0
nothing_done t (If [] first other rest) within tidy w =
    ap (joint t rest) (nothing_done t other tidy.0.2 tidy.1.1.0 w) ∙ nothing_done t rest within.1 tidy.1.1.1 w
nothing_done t (If (p ∷ ps) first other rest) within tidy w = absurd (within.0 p.0 (inl refl))
nothing_done t (For [] count body rest) within tidy w =
    ap (joint t rest) (turns_nothing (λ i v. joint t body (turn_begun [] i v)) (λ i v. nothing_done t body tidy.0.1 tidy.1.0 v) count 0 w)
    ∙ nothing_done t rest within.1 tidy.1.1 w
nothing_done t (For (p ∷ ps) count body rest) within tidy w = absurd (within.0 p.0 (inl refl))

no_lines : (j : Joint) → Within [] j → IsTidy j → (behind : List Line) → flat j behind ≡ behind
no_lines Done within tidy behind = refl
no_lines (Do h a rest) within tidy behind = absurd within.0
no_lines (Msg a said b heard rest) within tidy behind = absurd within.0
no_lines (If [] first other rest) within tidy behind =
    no_lines first tidy.0.1 tidy.1.0 (flat other (flat rest behind))
    ∙ no_lines other tidy.0.2 tidy.1.1.0 (flat rest behind)
    ∙ no_lines rest within.1 tidy.1.1.1 behind
no_lines (If (p ∷ ps) first other rest) within tidy behind = absurd (within.0 p.0 (inl refl))
no_lines (For [] count body rest) within tidy behind = no_lines body tidy.0.1 tidy.1.0 (flat rest behind) ∙ no_lines rest within.1 tidy.1.1 behind
no_lines (For (p ∷ ps) count body rest) within tidy behind = absurd (within.0 p.0 (inl refl))

-- ---- the code without them

pub same_lines : (j : Joint) → IsTidy j → (behind : List Line) → flat (without_empty j) behind ≡ flat j behind
same_lines Done tidy behind = refl
same_lines (Do h a rest) tidy behind = ap (λ ls. line.Act (act.Do (host h) a) ∷ ls) (same_lines rest tidy behind)
same_lines (Msg a said b heard rest) tidy behind = ap (λ ls. line.Act (act.Msg (host a) said (host b) heard) ∷ ls) (same_lines rest tidy.1.1 behind)
same_lines (If [] first other rest) tidy behind =
    same_lines rest tidy.1.1.1 behind
    ∙ sym (no_lines first tidy.0.1 tidy.1.0 (flat other (flat rest behind)) ∙ no_lines other tidy.0.2 tidy.1.1.0 (flat rest behind))
same_lines (If (p ∷ ps) first other rest) tidy behind =
    let qs = p ∷ ps in
    let ifs : List Line → List Line = λ ls. each_then qs (λ q. line.If (host q.0) (register q.1)) ls in
    ap (λ ls. ifs (flat (without_empty first) (elses_then qs (flat (without_empty other) (ends_then qs ls))))) (same_lines rest tidy.1.1.1 behind)
    ∙ ap (λ ls. ifs (flat (without_empty first) (elses_then qs ls))) (same_lines other tidy.1.1.0 (ends_then qs (flat rest behind)))
    ∙ ap ifs (same_lines first tidy.1.0 (elses_then qs (flat other (ends_then qs (flat rest behind)))))
same_lines (For [] count body rest) tidy behind = same_lines rest tidy.1.1 behind ∙ sym (no_lines body tidy.0.1 tidy.1.0 (flat rest behind))
same_lines (For (p ∷ ps) count body rest) tidy behind =
    let qs = p ∷ ps in
    let fors : List Line → List Line = λ ls. each_then qs (λ q. line.For (host q.0) (register q.1) count) ls in
    ap (λ ls. fors (flat (without_empty body) (ends_then qs ls))) (same_lines rest tidy.1.1 behind) ∙ ap fors (same_lines body tidy.1.0 (ends_then qs (flat rest behind)))

pub has_parts : (j : Joint) → HasParts (without_empty j)
has_parts Done = tt
has_parts (Do h a rest) = has_parts rest
has_parts (Msg a said b heard rest) = has_parts rest
has_parts (If [] first other rest) = has_parts rest
has_parts (If (p ∷ ps) first other rest) = (has_parts first, (has_parts other, has_parts rest))
has_parts (For [] count body rest) = has_parts rest
has_parts (For (p ∷ ps) count body rest) = (has_parts body, has_parts rest)

either_hosts : (b : Bool) (x y z u : Hosts) → x ≡ z → y ≡ u → (if b then x else y) ≡ (if b then z else u)
either_hosts true x y z u e f = e
either_hosts false x y z u e f = f

pub same_run : (t : Tape) (j : Joint) → IsTidy j → (w : Hosts) → joint t (without_empty j) w ≡ joint t j w
same_run t Done tidy w = refl
same_run t (Do h a rest) tidy w = same_run t rest tidy (after_do t h a w)
same_run t (Msg a said b heard rest) tidy w = same_run t rest tidy.1.1 (after_msg a said b heard w)
same_run t (If [] first other rest) tidy w = same_run t rest tidy.1.1.1 w ∙ sym (ap (joint t rest) (nothing_done t other tidy.0.2 tidy.1.1.0 w))
same_run t (If (p ∷ ps) first other rest) tidy w =
    ap (joint t (without_empty rest))
    (either_hosts (is_other (p ∷ ps) w) (joint t (without_empty other) w) (joint t (without_empty first) w) (joint t other w) (joint t first w) (same_run t other tidy.1.1.0 w)
    (same_run t first tidy.1.0 w))
    ∙ same_run t rest tidy.1.1.1 (if is_other (p ∷ ps) w then joint t other w else joint t first w)
same_run t (For [] count body rest) tidy w =
    same_run t rest tidy.1.1 w
    ∙ sym (ap (joint t rest) (turns_nothing (λ i v. joint t body (turn_begun [] i v)) (λ i v. nothing_done t body tidy.0.1 tidy.1.0 v) count 0 w))
same_run t (For (p ∷ ps) count body rest) tidy w =
    ap (λ (turn : ℕ → Hosts → Hosts). joint t (without_empty rest) (turns turn count 0 w)) (fun_ext (λ i. fun_ext (λ v. same_run t body tidy.1.0 (turn_begun (p ∷ ps) i v))))
    ∙ same_run t rest tidy.1.1 (turns (λ i v. joint t body (turn_begun (p ∷ ps) i v)) count 0 w)

all_turns : (P Q : ℕ → Hosts → Type 0) (turn : ℕ → Hosts → Hosts) → ((i : ℕ) (w : Hosts) → P i w → Q i w) → (n i : ℕ) (w : Hosts) → AllTurns P turn n i w → AllTurns Q turn n i w
all_turns P Q turn each zero i w all = tt
all_turns P Q turn each (suc n) i w all = (each i w all.0, all_turns P Q turn each n (suc i) (turn i w) all.1)

pub still_smooth : (t : Tape) (j : Joint) → IsTidy j → (w : Hosts) → IsSmooth t j w → IsSmooth t (without_empty j) w
still_smooth t Done tidy w s = tt
still_smooth t (Do h a rest) tidy w s = (s.0, still_smooth t rest tidy (after_do t h a w) s.1)
still_smooth t (Msg a said b heard rest) tidy w s = still_smooth t rest tidy.1.1 (after_msg a said b heard w) s
still_smooth t (If [] first other rest) tidy w s =
    still_smooth t rest tidy.1.1.1 w (subst (IsSmooth t rest) (nothing_done t other tidy.0.2 tidy.1.1.0 w) s.1.1)
still_smooth t (If (p ∷ ps) first other rest) tidy w s = (
  s.0,
  (
    (λ is. still_smooth t other tidy.1.1.0 w (s.1.0.0 is), λ is. still_smooth t first tidy.1.0 w (s.1.0.1 is)),
    subst (IsSmooth t (without_empty rest))
        (sym
        (either_hosts (is_other (p ∷ ps) w) (joint t (without_empty other) w) (joint t (without_empty first) w) (joint t other w) (joint t first w) (same_run t other tidy.1.1.0 w)
        (same_run t first tidy.1.0 w)))
        (still_smooth t rest tidy.1.1.1 (if is_other (p ∷ ps) w then joint t other w else joint t first w) s.1.1),
  ),
)
still_smooth t (For [] count body rest) tidy w s =
    still_smooth t rest tidy.1.1 w
    (subst (IsSmooth t rest) (turns_nothing (λ i v. joint t body (turn_begun [] i v)) (λ i v. nothing_done t body tidy.0.1 tidy.1.0 v) count 0 w) s.1)
still_smooth t (For (p ∷ ps) count body rest) tidy w s =
    let old : ℕ → Hosts → Hosts = λ i v. joint t body (turn_begun (p ∷ ps) i v) in
    let new : ℕ → Hosts → Hosts = λ i v. joint t (without_empty body) (turn_begun (p ∷ ps) i v) in
    let same : old ≡ new = sym (fun_ext (λ i. fun_ext (λ v. same_run t body tidy.1.0 (turn_begun (p ∷ ps) i v)))) in (
      subst (λ (turn : ℕ → Hosts → Hosts). AllTurns (λ i v. IsSmooth t (without_empty body) (turn_begun (p ∷ ps) i v)) turn count 0 w) same
          (all_turns (λ i v. IsSmooth t body (turn_begun (p ∷ ps) i v)) (λ i v. IsSmooth t (without_empty body) (turn_begun (p ∷ ps) i v)) old
          (λ i v one. still_smooth t body tidy.1.0 (turn_begun (p ∷ ps) i v) one) count 0 w s.0),
      subst (λ (turn : ℕ → Hosts → Hosts). IsSmooth t (without_empty rest) (turns turn count 0 w)) same (still_smooth t rest tidy.1.1 (turns old count 0 w) s.1),
    )

still_within : (ps : List Part) (j : Joint) → Within ps j → Within ps (without_empty j)
still_within ps Done within = tt
still_within ps (Do h a rest) within = (within.0, still_within ps rest within.1)
still_within ps (Msg a said b heard rest) within = (within.0, (within.1.0, still_within ps rest within.1.1))
still_within ps (If [] first other rest) within = still_within ps rest within.1
still_within ps (If (q ∷ qs) first other rest) within = (within.0, still_within ps rest within.1)
still_within ps (For [] count body rest) within = still_within ps rest within.1
still_within ps (For (q ∷ qs) count body rest) within = (within.0, still_within ps rest within.1)

pub still_tidy : (j : Joint) → IsTidy j → IsTidy (without_empty j)
still_tidy Done tidy = tt
still_tidy (Do h a rest) tidy = still_tidy rest tidy
still_tidy (Msg a said b heard rest) tidy = (tidy.0, (tidy.1.0, still_tidy rest tidy.1.1))
still_tidy (If [] first other rest) tidy = still_tidy rest tidy.1.1.1
still_tidy (If (p ∷ ps) first other rest) tidy = (
  (tidy.0.0, still_within (p ∷ ps) first tidy.0.1, still_within (p ∷ ps) other tidy.0.2),
  (still_tidy first tidy.1.0, (still_tidy other tidy.1.1.0, still_tidy rest tidy.1.1.1)),
)
still_tidy (For [] count body rest) tidy = still_tidy rest tidy.1.1
still_tidy (For (p ∷ ps) count body rest) tidy = ((tidy.0.0, still_within (p ∷ ps) body tidy.0.1), (still_tidy body tidy.1.0, still_tidy rest tidy.1.1))
