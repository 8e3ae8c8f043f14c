-- Hosts that are alike go on alike.
use Rattle.std.proofs.Common.{◌≡◌, ◌≢◌, inl, inr, ℕ, zero, suc, nat_eq, Bool, true, false, if◌then◌else◌, List, [], ◌∷◌, refl, sym, ap, ◌∙◌, subst}
use Rattle.vd_execution.specs.declared.instructions.Reg.{Reg}
use Rattle.vd_execution.specs.declared.instructions.Action.{Action}
use Rattle.vd_execution.specs.Registers.{Registers, put, put_each, written}
use Rattle.vd_execution.specs.Step.{Source, Cursors, advanced, need_of_action, word_printed, words_in}
use Rattle.vd_execution.specs.World.{Tape}
use Rattle.vd_execution.specs.Joint.{Part, Joint, Done, Do, Msg, If, For, Host, Hosts, acted, has_heard, said_to, supplied, with_print, if_part, is_other, turn_begun, turns, joint, Agrees, AllTurns, GuardsAre, IsSmooth}
use Rattle.vd_execution.proofs.Front.{same_or_not, put_same, put_other}
use Rattle.vd_reorder.specs.Turning.{Turn, Does, Tells, gone_by, Compares, Look, look, AreAlike}

put_alike : (w v : Hosts) (h : ℕ) (x y : Host) → AreAlike w v → look x ≡ look y → AreAlike (put w h x) (put v h y)
put_alike w v h x y all same g =
    elim (same_or_not g h) [
      | inl e ↦
          ap (λ i. look (put w h x i)) e ∙ ap look (put_same w h x) ∙ same ∙ sym (ap look (put_same v h y)) ∙ ap (λ i. look (put v h y i)) (sym e)
      | inr ne ↦ ap look (put_other w h x g ne) ∙ all g ∙ sym (ap look (put_other v h y g ne))
    ]

abbrev pub act_look : (Source → ℕ → List ℕ) → Action → Look → Look
act_look items a l =
    (written l.0 a (supplied items l.1.0 (need_of_action l.0 a)), (advanced l.1.0 (need_of_action l.0 a), with_print l.1.1 (word_printed l.0 a)))

abbrev pub heard_look : List Reg → List ℕ → Look → Look
heard_look rs words l = (put_each l.0 rs words, l.1)

heard_alike : (rs : List Reg) (ws vs : List ℕ) (s u : Host) → ws ≡ vs → look s ≡ look u → look (has_heard rs ws s) ≡ look (has_heard rs vs u)
heard_alike rs ws vs s u d e = ap (heard_look rs ws) e ∙ ap (λ k. heard_look rs k (look u)) d

pub gone_alike : (t : Tape) (x : Turn) (w v : Hosts) → AreAlike w v → AreAlike (gone_by t x w) (gone_by t x v)
gone_alike t (Does h a) w v all = put_alike w v h (acted (t h) a (w h)) (acted (t h) a (v h)) all (ap (act_look (t h) a) (all h))
gone_alike t (Tells a said b heard) w v all =
    let words : words_in (w a).registers said ≡ words_in (v a).registers said = ap (λ (l : Look). words_in l.0 said) (all a) in
    put_alike (put w a (said_to b (words_in (w a).registers said) (w a))) (put v a (said_to b (words_in (v a).registers said) (v a))) b
    (has_heard heard (words_in (w a).registers said) (w b)) (has_heard heard (words_in (v a).registers said) (v b))
    (put_alike w v a (said_to b (words_in (w a).registers said) (w a)) (said_to b (words_in (v a).registers said) (v a)) all (all a))
    (heard_alike heard (words_in (w a).registers said) (words_in (v a).registers said) (w b) (v b) words (all b))

compares_alike : (x : Turn) (w v : Hosts) → AreAlike w v → Compares x w → Compares x v
compares_alike (Does h a) w v all c = subst (λ (l : Look). Agrees l.0 a) (all h) c
compares_alike (Tells a said b heard) w v all c = tt

-- ---- blocks

guard_alike : (ps : List Part) (w v : Hosts) → AreAlike w v → is_other ps w ≡ is_other ps v
guard_alike [] w v all = refl
guard_alike (p ∷ ps) w v all = ap (λ (l : Look). nat_eq (l.0 p.1) 0) (all p.0)

guards_alike : (b : Bool) (ps : List Part) (w v : Hosts) → AreAlike w v → GuardsAre b ps w → GuardsAre b ps v
guards_alike b [] w v all g = tt
guards_alike b (p ∷ ps) w v all g = (subst (λ (l : Look). nat_eq (l.0 p.1) 0 ≡ b) (all p.0) g.0, guards_alike b ps w v all g.1)

begun_by : (b : Bool) (c i : ℕ) (s u x y : Host) → look s ≡ look u → look x ≡ look y
    → look (if b then record s { registers = put s.registers c i } else x) ≡ look (if b then record u { registers = put u.registers c i } else y)
begun_by true c i s u x y e f = ap (λ (l : Look). (put l.0 c i, l.1)) e
begun_by false c i s u x y e f = f

part_alike : (ps : List Part) (h i : ℕ) (s u : Host) → look s ≡ look u
    → look (if_part ps h (λ c. record s { registers = put s.registers c i }) s) ≡ look (if_part ps h (λ c. record u { registers = put u.registers c i }) u)
part_alike [] h i s u e = e
part_alike (p ∷ ps) h i s u e = begun_by (nat_eq h p.0) p.1 i s u _ _ e (part_alike ps h i s u e)

pub begun_alike : (ps : List Part) (i : ℕ) (w v : Hosts) → AreAlike w v → AreAlike (turn_begun ps i w) (turn_begun ps i v)
begun_alike ps i w v all h = part_alike ps h i (w h) (v h) (all h)

pub chosen_alike : (b d : Bool) (x y z u : Hosts) → b ≡ d → AreAlike x z → AreAlike y u → AreAlike (if b then x else y) (if d then z else u)
chosen_alike true true x y z u e f g = f
chosen_alike true false x y z u e f g = absurd cc
chosen_alike false true x y z u e f g = absurd cc
chosen_alike false false x y z u e f g = g

turns_alike : (turn : ℕ → Hosts → Hosts) → ((i : ℕ) (w v : Hosts) → AreAlike w v → AreAlike (turn i w) (turn i v)) → (n i : ℕ) (w v : Hosts) → AreAlike w v
    → AreAlike (turns turn n i w) (turns turn n i v)
turns_alike turn each zero i w v all = all
turns_alike turn each (suc n) i w v all = turns_alike turn each n (suc i) (turn i w) (turn i v) (each i w v all)

-- ---- whole code

pub joint_alike : (t : Tape) (j : Joint) (w v : Hosts) → AreAlike w v → AreAlike (joint t j w) (joint t j v)
joint_alike t Done w v all = all
joint_alike t (Do h a rest) w v all = joint_alike t rest (gone_by t (Does h a) w) (gone_by t (Does h a) v) (gone_alike t (Does h a) w v all)
joint_alike t (Msg a said b heard rest) w v all =
    joint_alike t rest (gone_by t (Tells a said b heard) w) (gone_by t (Tells a said b heard) v) (gone_alike t (Tells a said b heard) w v all)
joint_alike t (If ps first other rest) w v all =
    joint_alike t rest _ _
    (chosen_alike (is_other ps w) (is_other ps v) (joint t other w) (joint t first w) (joint t other v) (joint t first v) (guard_alike ps w v all) (joint_alike t other w v all)
    (joint_alike t first w v all))
joint_alike t (For ps count body rest) w v all =
    joint_alike t rest _ _
    (turns_alike (λ i x. joint t body (turn_begun ps i x)) (λ i x y e. joint_alike t body (turn_begun ps i x) (turn_begun ps i y) (begun_alike ps i x y e)) count 0 w v all)

turns_smooth : (P : ℕ → Hosts → Type 0) (turn : ℕ → Hosts → Hosts) → ((i : ℕ) (w v : Hosts) → AreAlike w v → P i w → P i v)
    → ((i : ℕ) (w v : Hosts) → AreAlike w v → AreAlike (turn i w) (turn i v)) → (n i : ℕ) (w v : Hosts) → AreAlike w v → AllTurns P turn n i w → AllTurns P turn n i v
turns_smooth P turn holds each zero i w v all s = tt
turns_smooth P turn holds each (suc n) i w v all s = (holds i w v all s.0, turns_smooth P turn holds each n (suc i) (turn i w) (turn i v) (each i w v all) s.1)

pub smooth_alike : (t : Tape) (j : Joint) (w v : Hosts) → AreAlike w v → IsSmooth t j w → IsSmooth t j v
smooth_alike t Done w v all s = tt
smooth_alike t (Do h a rest) w v all s =
    (compares_alike (Does h a) w v all s.0, smooth_alike t rest (gone_by t (Does h a) w) (gone_by t (Does h a) v) (gone_alike t (Does h a) w v all) s.1)
smooth_alike t (Msg a said b heard rest) w v all s =
    smooth_alike t rest (gone_by t (Tells a said b heard) w) (gone_by t (Tells a said b heard) v) (gone_alike t (Tells a said b heard) w v all) s
smooth_alike t (If ps first other rest) w v all s =
    let e = guard_alike ps w v all in (
      subst (λ b. GuardsAre b ps v) e (guards_alike (is_other ps w) ps w v all s.0),
      (
        (λ is. smooth_alike t other w v all (s.1.0.0 (e ∙ is)), λ is. smooth_alike t first w v all (s.1.0.1 (e ∙ is))),
        smooth_alike t rest _ _
            (chosen_alike (is_other ps w) (is_other ps v) (joint t other w) (joint t first w) (joint t other v) (joint t first v) e (joint_alike t other w v all) (joint_alike t first w v all))
            s.1.1,
      ),
    )
smooth_alike t (For ps count body rest) w v all s =
    let turn : ℕ → Hosts → Hosts = λ i x. joint t body (turn_begun ps i x) in
    let each : (i : ℕ) (x y : Hosts) → AreAlike x y → AreAlike (turn i x) (turn i y) = λ i x y e. joint_alike t body (turn_begun ps i x) (turn_begun ps i y) (begun_alike ps i x y e) in (
      turns_smooth (λ i x. IsSmooth t body (turn_begun ps i x)) turn (λ i x y e p. smooth_alike t body (turn_begun ps i x) (turn_begun ps i y) (begun_alike ps i x y e) p) each count 0 w v all s.0,
      smooth_alike t rest _ _ (turns_alike turn each count 0 w v all) s.1,
    )
