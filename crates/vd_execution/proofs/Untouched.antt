-- A host that takes no part ends as it began.
use Rattle.std.proofs.Common.{◌≡◌, ℕ, zero, suc, Bool, true, false, if◌then◌else◌, List, refl, sym, ◌∙◌, subst}
use Rattle.vd_execution.specs.Registers.{put}
use Rattle.vd_execution.specs.World.{Tape}
use Rattle.vd_execution.specs.Step.{words_in}
use Rattle.vd_execution.specs.Joint.{Part, Joint, Done, Do, Msg, If, For, Hosts, acted, after_do, after_msg, said_to, has_heard, is_other, turn_begun, turns, joint, TakesPart, Within, IsTidy}
use Rattle.vd_execution.proofs.Puts.{put_other}
use Rattle.vd_execution.proofs.Parts.{absent_part}

turns_keep : (h : ℕ) (turn : ℕ → Hosts → Hosts) → ((i : ℕ) (v : Hosts) → turn i v h ≡ v h) → (n i : ℕ) (w : Hosts) → turns turn n i w h ≡ w h
turns_keep h turn e zero i w = refl
turns_keep h turn e (suc n) i w = turns_keep h turn e n (suc i) (turn i w) ∙ e i w

pub untouched : (t : Tape) (ps : List Part) (h : ℕ) (j : Joint) → IsTidy j → Within ps j → (TakesPart ps h → ⊥) → (w : Hosts) → joint t j w h ≡ w h
untouched t ps h Done tidy within out w = refl
untouched t ps h (Do a x r) tidy within out w =
    let P : ℕ → Type 0 = λ q. TakesPart ps q in
    untouched t ps h r tidy within.1 out (after_do t a x w) ∙ put_other w a (acted (t a) x (w a)) h (λ e. out (subst P (sym e) within.0))
untouched t ps h (Msg a xs b ys r) tidy within out w =
    let P : ℕ → Type 0 = λ q. TakesPart ps q in
    let words : List ℕ = words_in (w a).registers xs in
    untouched t ps h r tidy.1.1 within.1.1 out (after_msg a xs b ys w)
    ∙ put_other (put w a (said_to b words (w a))) b (has_heard ys words (w b)) h (λ e. out (subst P (sym e) within.1.0))
    ∙ put_other w a (said_to b words (w a)) h (λ e. out (subst P (sym e) within.0))
untouched t ps h (If qs first other r) tidy within out w =
    branch (is_other qs w) (untouched t qs h first tidy.1.0 tidy.0.1 (λ q. out (within.0 h q)) w) (untouched t qs h other tidy.1.1.0 tidy.0.2 (λ q. out (within.0 h q)) w)
    (λ v. untouched t ps h r tidy.1.1.1 within.1 out v)
  where
    branch : (b : Bool) → joint t first w h ≡ w h → joint t other w h ≡ w h → ((v : Hosts) → joint t r v h ≡ v h) → joint t r (if b then joint t other w else joint t first w) h ≡ w h
    branch true e f g = g (joint t other w) ∙ f
    branch false e f g = g (joint t first w) ∙ e
untouched t ps h (For qs count body r) tidy within out w =
    untouched t ps h r tidy.1.1 within.1 out (turns (λ i v. joint t body (turn_begun qs i v)) count 0 w)
    ∙ turns_keep h (λ i v. joint t body (turn_begun qs i v)) (λ i v. turned i v (untouched t qs h body tidy.1.0 tidy.0.1 (λ q. out (within.0 h q)) (turn_begun qs i v))) count 0 w
  where
    turned : (i : ℕ) (v : Hosts) → joint t body (turn_begun qs i v) h ≡ turn_begun qs i v h → joint t body (turn_begun qs i v) h ≡ v h
    turned i v e = e ∙ absent_part qs h (λ c. record (v h) { registers = put (v h).registers c i }) (v h) (λ q. out (within.0 h q))
