-- Joining the packets of lines gives the lines of the joined code.
use Rattle.std.proofs.Common.{◌≡◌, ℕ, Bool, true, false, if◌then◌else◌, List, [], ◌∷◌, ◌++◌, refl, sym, ap, ◌∙◌}
use Rattle.vd_base.specs.HostSets.{host}
use Rattle.vd_execution.specs.declared.instructions.Reg.{Reg}
use Rattle.vd_execution.specs.declared.instructions.Act.TheVariants as act
use Rattle.vd_execution.specs.declared.instructions.Line.{Line}
use Rattle.vd_execution.specs.declared.instructions.Line.TheVariants as line
use Rattle.vd_execution.specs.Joint.{Part, Joint, Done, Do, Msg, If, For}
use Rattle.vd_execution.specs.Text.{each_then, flat, register}
use Rattle.vd_choreography_reorder.proofs.Leads.{ends_then, elses_then}
use Rattle.vd_choreography_reorder.proofs.Texts.{IsMark, Halts, HasParts}
use Rattle.vd_choreography_reorder.specs.Joining.{can_share, message_before, joined, packet_before, line_before, joined_lines}

module _ (most : ℕ) where
  -- no packet is joined with what stands behind a mark
  before_mark : (a : ℕ) (said : List Reg) (b : ℕ) (heard : List Reg) (ls : List Line) → Halts ls → packet_before most (host a) said (host b) heard ls ≡ line.Act (act.Msg (host a) said (host b) heard) ∷ ls
  before_mark a said b heard [] halts = refl
  before_mark a said b heard (line.Act x ∷ ls) halts = absurd halts
  before_mark a said b heard (line.If h g ∷ ls) halts = refl
  before_mark a said b heard (line.Else h ∷ ls) halts = refl
  before_mark a said b heard (line.For h r count ∷ ls) halts = refl
  before_mark a said b heard (line.End h ∷ ls) halts = refl

  mark_before : (l : Line) (ls : List Line) → IsMark l → line_before most l ls ≡ l ∷ ls
  mark_before (line.Act x) ls is = absurd is
  mark_before (line.If h g) ls is = refl
  mark_before (line.Else h) ls is = refl
  mark_before (line.For h r count) ls is = refl
  mark_before (line.End h) ls is = refl

  each_joined : (ps : List Part) (mark : Part → Line) (behind : List Line) → ((q : Part) → IsMark (mark q)) → joined_lines most (each_then ps mark behind) ≡ each_then ps mark (joined_lines most behind)
  each_joined [] mark behind is = refl
  each_joined (p ∷ ps) mark behind is = mark_before (mark p) (joined_lines most (each_then ps mark behind)) (is p) ∙ ap (λ ls. mark p ∷ ls) (each_joined ps mark behind is)

  -- marks stay first
  halts_joined : (ls : List Line) → Halts ls → Halts (joined_lines most ls)
  halts_joined [] halts = tt
  halts_joined (line.Act x ∷ ls) halts = absurd halts
  halts_joined (line.If h g ∷ ls) halts = tt
  halts_joined (line.Else h ∷ ls) halts = tt
  halts_joined (line.For h r count ∷ ls) halts = tt
  halts_joined (line.End h ∷ ls) halts = tt

  chosen_flat : (b : Bool) (j k : Joint) (behind : List Line) → flat (if b then j else k) behind ≡ (if b then flat j behind else flat k behind)
  chosen_flat true j k behind = refl
  chosen_flat false j k behind = refl

  message_flat : (a : ℕ) (said : List Reg) (b : ℕ) (heard : List Reg) (j : Joint) (behind : List Line) → HasParts j → Halts behind
      → flat (message_before most a said b heard j) behind ≡ packet_before most (host a) said (host b) heard (flat j behind)
  message_flat a said b heard Done behind has halts = sym (before_mark a said b heard behind halts)
  message_flat a said b heard (Do h x j) behind has halts = refl
  message_flat a said b heard (Msg c says d hears j) behind has halts =
      chosen_flat (can_share most a said b c says d) (Msg a (said ++ says) b (heard ++ hears) j) (Msg a said b heard (Msg c says d hears j)) behind
  message_flat a said b heard (If [] first other rest) behind has halts = absurd has
  message_flat a said b heard (If (p ∷ ps) first other rest) behind has halts = refl
  message_flat a said b heard (For [] count body rest) behind has halts = absurd has
  message_flat a said b heard (For (p ∷ ps) count body rest) behind has halts = refl

  chosen_parts : (b : Bool) (j k : Joint) → HasParts j → HasParts k → HasParts (if b then j else k)
  chosen_parts true j k f g = f
  chosen_parts false j k f g = g

  parts_before : (a : ℕ) (said : List Reg) (b : ℕ) (heard : List Reg) (j : Joint) → HasParts j → HasParts (message_before most a said b heard j)
  parts_before a said b heard Done has = tt
  parts_before a said b heard (Do h x j) has = has
  parts_before a said b heard (Msg c says d hears j) has =
      chosen_parts (can_share most a said b c says d) (Msg a (said ++ says) b (heard ++ hears) j) (Msg a said b heard (Msg c says d hears j)) has has
  parts_before a said b heard (If ps first other rest) has = has
  parts_before a said b heard (For ps count body rest) has = has

  parts_joined : (j : Joint) → HasParts j → HasParts (joined most j)
  parts_joined Done has = tt
  parts_joined (Do h x j) has = parts_joined j has
  parts_joined (Msg a said b heard j) has = parts_before a said b heard (joined most j) (parts_joined j has)
  parts_joined (If [] first other rest) has = absurd has
  parts_joined (If (p ∷ ps) first other rest) has = (parts_joined first has.0, (parts_joined other has.1.0, parts_joined rest has.1.1))
  parts_joined (For [] count body rest) has = absurd has
  parts_joined (For (p ∷ ps) count body rest) has = (parts_joined body has.0, parts_joined rest has.1)

  abbrev lines : List Line → List Line
  lines = joined_lines most

  ends_joined : (ps : List Part) (rest : Joint) (behind : List Line) → flat (joined most rest) (lines behind) ≡ lines (flat rest behind)
      → ends_then ps (flat (joined most rest) (lines behind)) ≡ lines (ends_then ps (flat rest behind))
  ends_joined ps rest behind ih = ap (ends_then ps) ih ∙ sym (each_joined ps (λ p. line.End (host p.0)) (flat rest behind) (λ q. tt))

  pub joined_flat : (j : Joint) (behind : List Line) → HasParts j → Halts behind → flat (joined most j) (lines behind) ≡ lines (flat j behind)
  joined_flat Done behind has halts = refl
  joined_flat (Do h x j) behind has halts = ap (λ ls. line.Act (act.Do (host h) x) ∷ ls) (joined_flat j behind has halts)
  joined_flat (Msg a said b heard j) behind has halts =
      message_flat a said b heard (joined most j) (lines behind) (parts_joined j has) (halts_joined behind halts)
      ∙ ap (packet_before most (host a) said (host b) heard) (joined_flat j behind has halts)
  joined_flat (If [] first other rest) behind has halts = absurd has
  joined_flat (If (p ∷ ps) first other rest) behind has halts =
      let qs = p ∷ ps in
      let ends = ends_then qs (flat rest behind) in
      let elses = elses_then qs (flat other ends) in
      let ifs : List Line → List Line = λ ls. each_then qs (λ q. line.If (host q.0) (register q.1)) ls in
      let f = joined most first in
      let o = joined most other in
      ap (λ ls. ifs (flat f (elses_then qs (flat o ls)))) (ends_joined qs rest behind (joined_flat rest behind has.1.1 halts))
      ∙ ap (λ ls. ifs (flat f (elses_then qs ls))) (joined_flat other ends has.1.0 tt)
      ∙ ap (λ ls. ifs (flat f ls)) (sym (each_joined qs (λ q. line.Else (host q.0)) (flat other ends) (λ q. tt)))
      ∙ ap ifs (joined_flat first elses has.0 tt)
      ∙ sym (each_joined qs (λ q. line.If (host q.0) (register q.1)) (flat first elses) (λ q. tt))
  joined_flat (For [] count body rest) behind has halts = absurd has
  joined_flat (For (p ∷ ps) count body rest) behind has halts =
      let qs = p ∷ ps in
      let ends = ends_then qs (flat rest behind) in
      let fors : List Line → List Line = λ ls. each_then qs (λ q. line.For (host q.0) (register q.1) count) ls in
      let b = joined most body in
      ap (λ ls. fors (flat b ls)) (ends_joined qs rest behind (joined_flat rest behind has.1 halts))
      ∙ ap fors (joined_flat body ends has.0 tt)
      ∙ sym (each_joined qs (λ q. line.For (host q.0) (register q.1) count) (flat body ends) (λ q. tt))
