-- The pass over lines gives the lines of what the pass over the code gives.
use Rattle.std.proofs.Common.{◌≡◌, ℕ, zero, suc, Bool, true, false, if◌then◌else◌, List, [], ◌∷◌, refl, sym, ap, ◌∙◌, subst}
use Rattle.vd_base.specs.HostSets.{host}
use Rattle.vd_execution.specs.declared.instructions.Act.{Act}
use Rattle.vd_execution.specs.declared.instructions.Act.TheVariants as act
use Rattle.vd_execution.specs.declared.instructions.Line.{Line}
use Rattle.vd_execution.specs.declared.instructions.Line.TheVariants as line
use Rattle.vd_execution.specs.Joint.{Part, Joint, Done, Do, Msg, If, For}
use Rattle.vd_execution.specs.Text.{each_then, flat, register}
use Rattle.vd_reorder.specs.Turning.{Turn, Does, Tells, then_goes}
use Rattle.vd_choreography_reorder.specs.Passing.{turn_of, passes, sunk_line, arranged_lines}
use Rattle.vd_choreography_reorder.proofs.Leads.{sunk, arranged, ends_then, elses_then}

-- ---- marks

abbrev pub IsMark : Line → Type 0
IsMark (line.Act x) = ⊥
IsMark (line.If a g) = Unit {0}
IsMark (line.Else a) = Unit {0}
IsMark (line.For a r count) = Unit {0}
IsMark (line.End a) = Unit {0}

-- nothing, or a mark first
abbrev pub Halts : List Line → Type 0
Halts [] = Unit {0}
Halts (l ∷ ls) = IsMark l

-- in each block some host takes part
abbrev pub HasParts : Joint → Type 0
HasParts Done = Unit {0}
HasParts (Do h a rest) = HasParts rest
HasParts (Msg a said b heard rest) = HasParts rest
HasParts (If [] first other rest) = ⊥
HasParts (If (p ∷ ps) first other rest) = HasParts first × (HasParts other × HasParts rest)
HasParts (For [] count body rest) = ⊥
HasParts (For (p ∷ ps) count body rest) = HasParts body × HasParts rest

abbrev act_of : Turn → Act
act_of (Does h a) = act.Do (host h) a
act_of (Tells a said b heard) = act.Msg (host a) said (host b) heard

turn_back : (x : Turn) → turn_of (act_of x) ≡ x
turn_back (Does h a) = refl
turn_back (Tells a said b heard) = refl

flat_then : (x : Turn) (j : Joint) (behind : List Line) → flat (then_goes x j) behind ≡ line.Act (act_of x) ∷ flat j behind
flat_then (Does h a) j behind = refl
flat_then (Tells a said b heard) j behind = refl

module _ (test : Turn → Turn → Bool) where
  -- a mark stays where it is
  mark_stays : (n : ℕ) (l : Line) (ls : List Line) → IsMark l → sunk_line test n l ls ≡ l ∷ ls
  mark_stays n l [] is = refl
  mark_stays zero l (k ∷ ls) is = refl
  mark_stays (suc n) (line.Act x) (k ∷ ls) is = absurd is
  mark_stays (suc n) (line.If a g) (k ∷ ls) is = refl
  mark_stays (suc n) (line.Else a) (k ∷ ls) is = refl
  mark_stays (suc n) (line.For a r count) (k ∷ ls) is = refl
  mark_stays (suc n) (line.End a) (k ∷ ls) is = refl

  -- and is not passed
  act_stops : (n : ℕ) (x : Act) (ls : List Line) → Halts ls → sunk_line test n (line.Act x) ls ≡ line.Act x ∷ ls
  act_stops n x [] is = refl
  act_stops zero x (k ∷ ls) is = refl
  act_stops (suc n) x (line.Act y ∷ ls) is = absurd is
  act_stops (suc n) x (line.If a g ∷ ls) is = refl
  act_stops (suc n) x (line.Else a ∷ ls) is = refl
  act_stops (suc n) x (line.For a r count ∷ ls) is = refl
  act_stops (suc n) x (line.End a ∷ ls) is = refl

  module _ (far : List Line → ℕ) where
    halts_arranged : (ls : List Line) → Halts ls → Halts (arranged_lines test far ls)
    halts_arranged [] is = tt
    halts_arranged (l ∷ ls) is = subst Halts (sym (mark_stays (far ls) l (arranged_lines test far ls) is)) is

    each_arranged : (ps : List Part) (mark : Part → Line) (behind : List Line) → ((q : Part) → IsMark (mark q))
        → arranged_lines test far (each_then ps mark behind) ≡ each_then ps mark (arranged_lines test far behind)
    each_arranged [] mark behind is = refl
    each_arranged (p ∷ ps) mark behind is =
        mark_stays (far (each_then ps mark behind)) (mark p) (arranged_lines test far (each_then ps mark behind)) (is p) ∙ ap (λ ls. mark p ∷ ls) (each_arranged ps mark behind is)

  -- ---- what is done

  by_test : (x y : Turn) (j k : Joint) (ls ks : List Line) (behind : List Line) → flat j behind ≡ ls → flat k behind ≡ ks → (b c : Bool) → c ≡ b
      → flat (if b then then_goes y k else then_goes x (then_goes y j)) behind ≡ (if c then line.Act (act_of y) ∷ ks else line.Act (act_of x) ∷ line.Act (act_of y) ∷ ls)
  by_test x y j k ls ks behind e f true true same = flat_then y k behind ∙ ap (λ l. line.Act (act_of y) ∷ l) f
  by_test x y j k ls ks behind e f true false same = absurd cc
  by_test x y j k ls ks behind e f false true same = absurd cc
  by_test x y j k ls ks behind e f false false same =
      flat_then x (then_goes y j) behind ∙ ap (λ l. line.Act (act_of x) ∷ l) (flat_then y j behind ∙ ap (λ l. line.Act (act_of y) ∷ l) e)

  passes_turns : (x y : Turn) → passes test (line.Act (act_of x)) (line.Act (act_of y)) ≡ test x y
  passes_turns x y = ap (λ z. test z (turn_of (act_of y))) (turn_back x) ∙ ap (test x) (turn_back y)

  -- it stops before a block
  before_block : (n : ℕ) (x : Turn) (j : Joint) (behind : List Line) → Halts (flat j behind) → flat (then_goes x j) behind ≡ sunk_line test n (line.Act (act_of x)) (flat j behind)
  before_block n x j behind halts = flat_then x j behind ∙ sym (act_stops n (act_of x) (flat j behind) halts)

  sunk_flat : (n : ℕ) (x : Turn) (j : Joint) (behind : List Line) → HasParts j → Halts behind → flat (sunk test n x j) behind ≡ sunk_line test n (line.Act (act_of x)) (flat j behind)
  sunk_flat n x Done behind has halts = before_block n x Done behind halts
  sunk_flat zero x (Do h a j) behind has halts = flat_then x (Do h a j) behind
  sunk_flat (suc n) x (Do h a j) behind has halts =
      by_test x (Does h a) j (sunk test n x j) (flat j behind) (sunk_line test n (line.Act (act_of x)) (flat j behind)) behind refl (sunk_flat n x j behind has halts)
      (test x (Does h a)) (passes test (line.Act (act_of x)) (line.Act (act.Do (host h) a))) (passes_turns x (Does h a))
  sunk_flat zero x (Msg a said b heard j) behind has halts = flat_then x (Msg a said b heard j) behind
  sunk_flat (suc n) x (Msg a said b heard j) behind has halts =
      by_test x (Tells a said b heard) j (sunk test n x j) (flat j behind) (sunk_line test n (line.Act (act_of x)) (flat j behind)) behind refl (sunk_flat n x j behind has halts)
      (test x (Tells a said b heard)) (passes test (line.Act (act_of x)) (line.Act (act.Msg (host a) said (host b) heard))) (passes_turns x (Tells a said b heard))
  sunk_flat n x (If [] first other rest) behind has halts = absurd has
  sunk_flat n x (If (p ∷ ps) first other rest) behind has halts = before_block n x (If (p ∷ ps) first other rest) behind tt
  sunk_flat n x (For [] count body rest) behind has halts = absurd has
  sunk_flat n x (For (p ∷ ps) count body rest) behind has halts = before_block n x (For (p ∷ ps) count body rest) behind tt

  -- ---- blocks keep their parts

  parts_then : (x : Turn) (j : Joint) → HasParts j → HasParts (then_goes x j)
  parts_then (Does h a) j has = has
  parts_then (Tells a said b heard) j has = has

  chosen_parts : (b : Bool) (j k : Joint) → HasParts j → HasParts k → HasParts (if b then j else k)
  chosen_parts true j k f g = f
  chosen_parts false j k f g = g

  parts_sunk : (n : ℕ) (x : Turn) (j : Joint) → HasParts j → HasParts (sunk test n x j)
  parts_sunk n x Done has = parts_then x Done has
  parts_sunk zero x (Do h a j) has = parts_then x (Do h a j) has
  parts_sunk (suc n) x (Do h a j) has =
      chosen_parts (test x (Does h a)) (Do h a (sunk test n x j)) (then_goes x (Do h a j)) (parts_sunk n x j has) (parts_then x (Do h a j) has)
  parts_sunk zero x (Msg a said b heard j) has = parts_then x (Msg a said b heard j) has
  parts_sunk (suc n) x (Msg a said b heard j) has =
      chosen_parts (test x (Tells a said b heard)) (Msg a said b heard (sunk test n x j)) (then_goes x (Msg a said b heard j)) (parts_sunk n x j has) (parts_then x (Msg a said b heard j) has)
  parts_sunk n x (If ps first other rest) has = parts_then x (If ps first other rest) has
  parts_sunk n x (For ps count body rest) has = parts_then x (For ps count body rest) has

  module _ (far : List Line → ℕ) where
    parts_arranged : (j : Joint) (behind : List Line) → HasParts j → HasParts (arranged test far j behind)
    parts_arranged Done behind has = tt
    parts_arranged (Do h a j) behind has = parts_sunk (far (flat j behind)) (Does h a) (arranged test far j behind) (parts_arranged j behind has)
    parts_arranged (Msg a said b heard j) behind has = parts_sunk (far (flat j behind)) (Tells a said b heard) (arranged test far j behind) (parts_arranged j behind has)
    parts_arranged (If [] first other rest) behind has = absurd has
    parts_arranged (If (p ∷ ps) first other rest) behind has =
        (parts_arranged first _ has.0, (parts_arranged other _ has.1.0, parts_arranged rest behind has.1.1))
    parts_arranged (For [] count body rest) behind has = absurd has
    parts_arranged (For (p ∷ ps) count body rest) behind has = (parts_arranged body _ has.0, parts_arranged rest behind has.1)

    -- ---- the whole pass

    abbrev lines : List Line → List Line
    lines = arranged_lines test far

    -- the end of a block, and what follows
    ends_arranged : (ps : List Part) (rest : Joint) (behind : List Line) → flat (arranged test far rest behind) (lines behind) ≡ lines (flat rest behind)
        → ends_then ps (flat (arranged test far rest behind) (lines behind)) ≡ lines (ends_then ps (flat rest behind))
    ends_arranged ps rest behind ih = ap (ends_then ps) ih ∙ sym (each_arranged far ps (λ p. line.End (host p.0)) (flat rest behind) (λ q. tt))

    pub arranged_flat : (j : Joint) (behind : List Line) → HasParts j → Halts behind → flat (arranged test far j behind) (lines behind) ≡ lines (flat j behind)
    arranged_flat Done behind has halts = refl
    arranged_flat (Do h a j) behind has halts =
        sunk_flat (far (flat j behind)) (Does h a) (arranged test far j behind) (lines behind) (parts_arranged j behind has) (halts_arranged far behind halts)
        ∙ ap (sunk_line test (far (flat j behind)) (line.Act (act.Do (host h) a))) (arranged_flat j behind has halts)
    arranged_flat (Msg a said b heard j) behind has halts =
        sunk_flat (far (flat j behind)) (Tells a said b heard) (arranged test far j behind) (lines behind) (parts_arranged j behind has) (halts_arranged far behind halts)
        ∙ ap (sunk_line test (far (flat j behind)) (line.Act (act.Msg (host a) said (host b) heard))) (arranged_flat j behind has halts)
    arranged_flat (If [] first other rest) behind has halts = absurd has
    arranged_flat (If (p ∷ ps) first other rest) behind has halts =
        let qs = p ∷ ps in
        let ends = ends_then qs (flat rest behind) in
        let elses = elses_then qs (flat other ends) in
        let ifs : List Line → List Line = λ ls. each_then qs (λ q. line.If (host q.0) (register q.1)) ls in
        let f = arranged test far first elses in
        let o = arranged test far other ends in
        ap (λ ls. ifs (flat f (elses_then qs (flat o ls)))) (ends_arranged qs rest behind (arranged_flat rest behind has.1.1 halts))
        ∙ ap (λ ls. ifs (flat f (elses_then qs ls))) (arranged_flat other ends has.1.0 tt)
        ∙ ap (λ ls. ifs (flat f ls)) (sym (each_arranged far qs (λ q. line.Else (host q.0)) (flat other ends) (λ q. tt)))
        ∙ ap ifs (arranged_flat first elses has.0 tt)
        ∙ sym (each_arranged far qs (λ q. line.If (host q.0) (register q.1)) (flat first elses) (λ q. tt))
    arranged_flat (For [] count body rest) behind has halts = absurd has
    arranged_flat (For (p ∷ ps) count body rest) behind has halts =
        let qs = p ∷ ps in
        let ends = ends_then qs (flat rest behind) in
        let fors : List Line → List Line = λ ls. each_then qs (λ q. line.For (host q.0) (register q.1) count) ls in
        let b = arranged test far body ends in
        ap (λ ls. fors (flat b ls)) (ends_arranged qs rest behind (arranged_flat rest behind has.1 halts))
        ∙ ap fors (arranged_flat body ends has.0 tt)
        ∙ sym (each_arranged far qs (λ q. line.For (host q.0) (register q.1) count) (flat body ends) (λ q. tt))
