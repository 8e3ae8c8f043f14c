-- Code with joined packets tells the same.
use Rattle.std.proofs.Common.{◌≡◌, ◌≢◌, ℕ, zero, suc, ◌+◌, ◌<◌, nat_eq, nat_le, Bool, true, false, ◌&&◌, if◌then◌else◌, List, [], ◌∷◌, ◌++◌, length, refl, sym, ap, ap₂, ◌∙◌, subst}
use Rattle.std.proofs.lemmas.Bool.{eqb-true}
use Rattle.std.proofs.lemmas.List.{length-append}
use Rattle.vd_execution.specs.declared.instructions.Reg.{Reg}
use Rattle.vd_execution.specs.declared.instructions.Line.{Line}
use Rattle.vd_execution.specs.World.{Tape, Supply, followed_by_zeros, words_of}
use Rattle.vd_execution.specs.Text.{flat}
use Rattle.vd_execution.specs.Joint.{Part, Joint, Done, Do, Msg, If, For, Hosts, fresh, TakesPart, Within, IsTidy, IsSmooth, AllTurns, is_other, turn_begun, turns, joint, after_do, after_msg}
use Rattle.vd_execution.specs.Claims.{RunsWell, RunsToItsEnd, last_of}
use Rattle.vd_reorder.specs.Turning.{Look, look, AreAlike, TellsTheSame}
use Rattle.vd_reorder.proofs.Front.{begun_alike, chosen_alike, joint_alike, smooth_alike}
use Rattle.vd_choreography_reorder.proofs.Sound.{both}
use Rattle.vd_choreography_reorder.proofs.Empty.{has_parts, same_lines, same_run, still_smooth, still_tidy}
use Rattle.vd_choreography_reorder.specs.Order.{RunsOn, without_empty}
use Rattle.vd_choreography_reorder.specs.Joining.{can_share, message_before, joined, joined_lines}
use Rattle.vd_choreography_reorder.specs.Telling.{IsJoined}
use Rattle.vd_choreography_reorder.proofs.Kept.{IsKept, chosen, all_turns, run_keeps}
use Rattle.vd_choreography_reorder.proofs.ChoreographyCoalescingSame.{alike_both, So, so_kept, one_so}
use Rattle.vd_choreography_reorder.proofs.Fitting.{all_joined, still_within, within_without}
use Rattle.vd_choreography_reorder.proofs.ChoreographyCoalescingTexts.{joined_flat}

back_alike : (x y : Hosts) → AreAlike x y → AreAlike y x
back_alike x y f h = sym (f h)

turns_both : (old new : ℕ → Hosts → Hosts) → ((i : ℕ) (w v : Hosts) → AreAlike w v → AreAlike (old i w) (new i v)) → (n i : ℕ) (w v : Hosts) → AreAlike w v
    → AreAlike (turns old n i w) (turns new n i v)
turns_both old new each zero i w v all = all
turns_both old new each (suc n) i w v all = turns_both old new each n (suc i) (old i w) (new i v) (each i w v all)

turns_smooth : (P Q : ℕ → Hosts → Type 0) (old new : ℕ → Hosts → Hosts) → ((i : ℕ) (w v : Hosts) → AreAlike w v → AreAlike (old i w) (new i v))
    → ((i : ℕ) (w v : Hosts) → AreAlike w v → P i w → Q i v) → (n i : ℕ) (w v : Hosts) → AreAlike w v → AllTurns P old n i w → AllTurns Q new n i v
turns_smooth P Q old new each holds zero i w v all s = tt
turns_smooth P Q old new each holds (suc n) i w v all s = (holds i w v all s.0, turns_smooth P Q old new each holds n (suc i) (old i w) (new i v) (each i w v all) s.1)

-- two packets one after the other lead to hosts that are so related to those behind one packet with the words of both
abbrev AreOne : (Hosts → Hosts → Type 0) → Type 0
AreOne R = (a : ℕ) (said says : List Reg) (b : ℕ) (heard hears : List Reg) (w : Hosts) → a ≢ b → length said ≡ length heard
    → R (after_msg a (said ++ says) b (heard ++ hears) w) (after_msg a says b hears (after_msg a said b heard w))

module _ (most : ℕ) where
  -- ---- one message before a code

  record SharesWith (a : ℕ) (said : List Reg) (b c : ℕ) (says : List Reg) (d : ℕ) : Type 0 where
    from : a ≡ c
    to : b ≡ d

  shares : (a : ℕ) (said : List Reg) (b c : ℕ) (says : List Reg) (d : ℕ) → can_share most a said b c says d ≡ true → SharesWith a said b c says d
  shares a said b c says d e =
      let w = both (nat_eq a c && nat_eq b d) (nat_le (length said + length says) most) e in
      let u = both (nat_eq a c) (nat_eq b d) w.0 in
      record { from = eqb-true a c u.0; to = eqb-true b d u.1 }

  -- ---- what each step keeps, joined code keeps

  module _ (R : Hosts → Hosts → Type 0) (is : IsKept R) (t : Tape) (one : AreOne R) where
    chosen_run : (e : Bool) (j k : Joint) (w v : Hosts) → (e ≡ true → R (joint t j w) v) → (e ≡ false → R (joint t k w) v) → R (joint t (if e then j else k) w) v
    chosen_run true j k w v f g = f refl
    chosen_run false j k w v f g = g refl

    shared_run : (a : ℕ) (said : List Reg) (b : ℕ) (heard : List Reg) (c : ℕ) (says : List Reg) (d : ℕ) (hears : List Reg) (w : Hosts) → a ≢ b → length said ≡ length heard
        → a ≡ c → b ≡ d → R (after_msg a (said ++ says) b (heard ++ hears) w) (after_msg c says d hears (after_msg a said b heard w))
    shared_run a said b heard c says d hears w apart size from to =
        subst (λ k. R (after_msg a (said ++ says) b (heard ++ hears) w) (after_msg k says d hears (after_msg a said b heard w))) from
        (subst (λ k. R (after_msg a (said ++ says) b (heard ++ hears) w) (after_msg a says k hears (after_msg a said b heard w))) to (one a said says b heard hears w apart size))

    before_keeps : (a : ℕ) (said : List Reg) (b : ℕ) (heard : List Reg) (j : Joint) (w : Hosts) → a ≢ b → length said ≡ length heard
        → R (joint t (message_before most a said b heard j) w) (joint t j (after_msg a said b heard w))
    before_keeps a said b heard Done w apart size = is.itself (after_msg a said b heard w)
    before_keeps a said b heard (Do g x j) w apart size = is.itself (joint t (Do g x j) (after_msg a said b heard w))
    before_keeps a said b heard (Msg c says d hears j) w apart size =
        chosen_run (can_share most a said b c says d) (Msg a (said ++ says) b (heard ++ hears) j) (Msg a said b heard (Msg c says d hears j)) w
        (joint t j (after_msg c says d hears (after_msg a said b heard w)))
        (λ e.
        let s = shares a said b c says d e in
        run_keeps R is t j (after_msg a (said ++ says) b (heard ++ hears) w) (after_msg c says d hears (after_msg a said b heard w))
        (shared_run a said b heard c says d hears w apart size s.from s.to))
        (λ e. is.itself (joint t j (after_msg c says d hears (after_msg a said b heard w))))
    before_keeps a said b heard (If ps first other rest) w apart size = is.itself (joint t (If ps first other rest) (after_msg a said b heard w))
    before_keeps a said b heard (For ps count body rest) w apart size = is.itself (joint t (For ps count body rest) (after_msg a said b heard w))

    joined_keeps : (j : Joint) → IsTidy j → (w : Hosts) → R (joint t (joined most j) w) (joint t j w)
    joined_keeps Done tidy w = is.itself w
    joined_keeps (Do g x j) tidy w = joined_keeps j tidy (after_do t g x w)
    joined_keeps (Msg a said b heard j) tidy w =
        is.onwards (joint t (message_before most a said b heard (joined most j)) w) (joint t (joined most j) (after_msg a said b heard w)) (joint t j (after_msg a said b heard w))
        (before_keeps a said b heard (joined most j) w tidy.0 tidy.1.0)
        (joined_keeps j tidy.1.1 (after_msg a said b heard w))
    joined_keeps (If ps first other rest) tidy w =
        let new : Hosts = if is_other ps w then joint t (joined most other) w else joint t (joined most first) w in
        let old : Hosts = if is_other ps w then joint t other w else joint t first w in
        let same : R new old =
        chosen R is t (is_other ps w) (is_other ps w) (joint t (joined most other) w) (joint t (joined most first) w) (joint t other w) (joint t first w) refl
        (joined_keeps other tidy.1.1.0 w) (joined_keeps first tidy.1.0 w) in
        is.onwards (joint t (joined most rest) new) (joint t (joined most rest) old) (joint t rest old) (run_keeps R is t (joined most rest) new old same) (joined_keeps rest tidy.1.1.1 old)
    joined_keeps (For ps count body rest) tidy w =
        let turn : ℕ → Hosts → Hosts = λ i v. joint t body (turn_begun ps i v) in
        let fewer : ℕ → Hosts → Hosts = λ i v. joint t (joined most body) (turn_begun ps i v) in
        let new : Hosts = turns fewer count 0 w in
        let old : Hosts = turns turn count 0 w in
        let same : R new old = all_turns R is t fewer turn
        (λ i x y r.
        is.onwards (joint t (joined most body) (turn_begun ps i x)) (joint t (joined most body) (turn_begun ps i y)) (joint t body (turn_begun ps i y))
        (run_keeps R is t (joined most body) (turn_begun ps i x) (turn_begun ps i y) (is.begun ps i x y r))
        (joined_keeps body tidy.1.0 (turn_begun ps i y)))
        count 0 w w (is.itself w) in
        is.onwards (joint t (joined most rest) new) (joint t (joined most rest) old) (joint t rest old) (run_keeps R is t (joined most rest) new old same) (joined_keeps rest tidy.1.1 old)

  joined_alike : (t : Tape) (j : Joint) → IsTidy j → (w : Hosts) → AreAlike (joint t (joined most j) w) (joint t j w)
  joined_alike t j tidy w = (joined_keeps (So 0 0) (so_kept 0 0) t (one_so t 0 0) j tidy w).alike

  same_talk : (t : Tape) (j : Joint) → IsTidy j → (w : Hosts) (a b : ℕ) → words_of ((joint t (joined most j) w a).sent b) ≡ words_of ((joint t j w a).sent b)
  same_talk t j tidy w a b = (joined_keeps (So a b) (so_kept a b) t (one_so t a b) j tidy w).told

  one_turn : (t : Tape) (ps : List Part) (body : Joint) → IsTidy body → (i : ℕ) (x y : Hosts) → AreAlike x y
      → AreAlike (joint t (joined most body) (turn_begun ps i x)) (joint t body (turn_begun ps i y))
  one_turn t ps body tidy i x y all h =
      joint_alike t (joined most body) (turn_begun ps i x) (turn_begun ps i y) (begun_alike ps i x y all) h ∙ joined_alike t body tidy (turn_begun ps i y) h

  -- ---- it runs smoothly

  shared_alike : (a : ℕ) (said : List Reg) (b : ℕ) (heard : List Reg) (c : ℕ) (says : List Reg) (d : ℕ) (hears : List Reg) (w : Hosts) → a ≢ b → length said ≡ length heard
      → a ≡ c → b ≡ d → AreAlike (after_msg a (said ++ says) b (heard ++ hears) w) (after_msg c says d hears (after_msg a said b heard w))
  shared_alike a said b heard c says d hears w apart size from to =
      subst (λ k. AreAlike (after_msg a (said ++ says) b (heard ++ hears) w) (after_msg k says d hears (after_msg a said b heard w))) from
      (subst (λ k. AreAlike (after_msg a (said ++ says) b (heard ++ hears) w) (after_msg a says k hears (after_msg a said b heard w))) to
      (alike_both a said says b heard hears w apart size))

  chosen_smooth : (t : Tape) (b : Bool) (j k : Joint) (w : Hosts) → (b ≡ true → IsSmooth t j w) → (b ≡ false → IsSmooth t k w) → IsSmooth t (if b then j else k) w
  chosen_smooth t true j k w f g = f refl
  chosen_smooth t false j k w f g = g refl

  before_smooth : (t : Tape) (a : ℕ) (said : List Reg) (b : ℕ) (heard : List Reg) (j : Joint) (w : Hosts) → a ≢ b → length said ≡ length heard → IsSmooth t j (after_msg a said b heard w)
      → IsSmooth t (message_before most a said b heard j) w
  before_smooth t a said b heard Done w apart size s = s
  before_smooth t a said b heard (Do g x j) w apart size s = s
  before_smooth t a said b heard (Msg c says d hears j) w apart size s =
      chosen_smooth t (can_share most a said b c says d) (Msg a (said ++ says) b (heard ++ hears) j) (Msg a said b heard (Msg c says d hears j)) w
      (λ e.
      let r = shares a said b c says d e in
      smooth_alike t j (after_msg c says d hears (after_msg a said b heard w)) (after_msg a (said ++ says) b (heard ++ hears) w)
      (back_alike (after_msg a (said ++ says) b (heard ++ hears) w) (after_msg c says d hears (after_msg a said b heard w))
      (shared_alike a said b heard c says d hears w apart size r.from r.to)) s)
      (λ e. s)
  before_smooth t a said b heard (If ps first other rest) w apart size s = s
  before_smooth t a said b heard (For ps count body rest) w apart size s = s

  -- ---- whole code

  joined_smooth : (t : Tape) (j : Joint) → IsTidy j → (w : Hosts) → IsSmooth t j w → IsSmooth t (joined most j) w
  joined_smooth t Done tidy w s = tt
  joined_smooth t (Do g x j) tidy w s = (s.0, joined_smooth t j tidy (after_do t g x w) s.1)
  joined_smooth t (Msg a said b heard j) tidy w s =
      before_smooth t a said b heard (joined most j) w tidy.0 tidy.1.0 (joined_smooth t j tidy.1.1 (after_msg a said b heard w) s)
  joined_smooth t (If ps first other rest) tidy w s =
      let new : Hosts = if is_other ps w then joint t (joined most other) w else joint t (joined most first) w in
      let old : Hosts = if is_other ps w then joint t other w else joint t first w in
      let same : AreAlike old new =
      chosen_alike (is_other ps w) (is_other ps w) (joint t other w) (joint t first w) (joint t (joined most other) w) (joint t (joined most first) w) refl
      (back_alike (joint t (joined most other) w) (joint t other w) (joined_alike t other tidy.1.1.0 w))
      (back_alike (joint t (joined most first) w) (joint t first w) (joined_alike t first tidy.1.0 w)) in (
        s.0,
        (
          (λ is. joined_smooth t other tidy.1.1.0 w (s.1.0.0 is), λ is. joined_smooth t first tidy.1.0 w (s.1.0.1 is)),
          smooth_alike t (joined most rest) old new same (joined_smooth t rest tidy.1.1.1 old s.1.1),
        ),
      )
  joined_smooth t (For ps count body rest) tidy w s =
      let turn : ℕ → Hosts → Hosts = λ i v. joint t body (turn_begun ps i v) in
      let fewer : ℕ → Hosts → Hosts = λ i v. joint t (joined most body) (turn_begun ps i v) in
      let new : Hosts = turns fewer count 0 w in
      let old : Hosts = turns turn count 0 w in
      let each : (i : ℕ) (x y : Hosts) → AreAlike x y → AreAlike (turn i x) (fewer i y) = λ i x y all. back_alike (fewer i y) (turn i x) (one_turn t ps body tidy.1.0 i y x (back_alike x y all)) in (
        turns_smooth (λ i v. IsSmooth t body (turn_begun ps i v)) (λ i v. IsSmooth t (joined most body) (turn_begun ps i v)) turn fewer each
            (λ i x y all one.
            joined_smooth t body tidy.1.0 (turn_begun ps i y) (smooth_alike t body (turn_begun ps i x) (turn_begun ps i y) (begun_alike ps i x y all) one))
            count 0 w w (λ h. refl) s.0,
        smooth_alike t (joined most rest) old new (turns_both turn fewer each count 0 w w (λ h. refl)) (joined_smooth t rest tidy.1.1 old s.1),
      )

  -- ---- tidy code

  within_before : (ps : List Part) (a : ℕ) (said : List Reg) (b : ℕ) (heard : List Reg) (j : Joint) → TakesPart ps a → TakesPart ps b → Within ps j → Within ps (message_before most a said b heard j)
  within_before ps a said b heard Done p q w = (p, (q, w))
  within_before ps a said b heard (Do h x j) p q w = (p, (q, w))
  within_before ps a said b heard (Msg c says d hears j) p q w = chosen_within (can_share most a said b c says d)
    where
      chosen_within : (e : Bool) → Within ps (if e then Msg a (said ++ says) b (heard ++ hears) j else Msg a said b heard (Msg c says d hears j))
      chosen_within true = (p, (q, w.1.1))
      chosen_within false = (p, (q, w))
  within_before ps a said b heard (If qs first other rest) p q w = (p, (q, w))
  within_before ps a said b heard (For qs count body rest) p q w = (p, (q, w))

  joined_within : (ps : List Part) (j : Joint) → Within ps j → Within ps (joined most j)
  joined_within ps Done w = tt
  joined_within ps (Do h x j) w = (w.0, joined_within ps j w.1)
  joined_within ps (Msg a said b heard j) w = within_before ps a said b heard (joined most j) w.0 w.1.0 (joined_within ps j w.1.1)
  joined_within ps (If qs first other rest) w = (w.0, joined_within ps rest w.1)
  joined_within ps (For qs count body rest) w = (w.0, joined_within ps rest w.1)

  tidy_before : (a : ℕ) (said : List Reg) (b : ℕ) (heard : List Reg) (j : Joint) → a ≢ b → length said ≡ length heard → IsTidy j → IsTidy (message_before most a said b heard j)
  tidy_before a said b heard Done apart size tidy = (apart, (size, tidy))
  tidy_before a said b heard (Do h x j) apart size tidy = (apart, (size, tidy))
  tidy_before a said b heard (Msg c says d hears j) apart size tidy = chosen_tidy (can_share most a said b c says d)
    where
      chosen_tidy : (e : Bool) → IsTidy (if e then Msg a (said ++ says) b (heard ++ hears) j else Msg a said b heard (Msg c says d hears j))
      chosen_tidy true = (apart, (length-append said says ∙ ap₂ (λ (n m : ℕ). n + m) size tidy.1.0 ∙ sym (length-append heard hears), tidy.1.1))
      chosen_tidy false = (apart, (size, tidy))
  tidy_before a said b heard (If qs first other rest) apart size tidy = (apart, (size, tidy))
  tidy_before a said b heard (For qs count body rest) apart size tidy = (apart, (size, tidy))

  pub joined_tidy : (j : Joint) → IsTidy j → IsTidy (joined most j)
  joined_tidy Done tidy = tt
  joined_tidy (Do h x j) tidy = joined_tidy j tidy
  joined_tidy (Msg a said b heard j) tidy = tidy_before a said b heard (joined most j) tidy.0 tidy.1.0 (joined_tidy j tidy.1.1)
  joined_tidy (If ps first other rest) tidy = (
    (tidy.0.0, joined_within ps first tidy.0.1, joined_within ps other tidy.0.2),
    (joined_tidy first tidy.1.0, (joined_tidy other tidy.1.1.0, joined_tidy rest tidy.1.1.1)),
  )
  joined_tidy (For ps count body rest) tidy = ((tidy.0.0, joined_within ps body tidy.0.1), (joined_tidy body tidy.1.0, joined_tidy rest tidy.1.1))

pub joined_tells : (most : ℕ) (j : Joint) → IsTidy j → IsJoined most j (joined_lines most (flat j []))
joined_tells most j tidy =
    let kept = without_empty j in
    let still = still_tidy j tidy in
    record {
      text = ap (joined_lines most) (sym (same_lines j tidy [])) ∙ sym (joined_flat most kept [] (has_parts j) tt);
      tidy = joined_tidy most kept still;
      all = all_joined most kept;
      within = λ few. still_within most kept (within_without most j few);
      talk = λ t w a b. same_talk most t kept still w a b ∙ ap (λ (v : Hosts). words_of ((v a).sent b)) (same_run t j tidy w);
      same = λ t w s. record {
        smooth = joined_smooth most t kept still w (still_smooth t j tidy w s);
        alike = λ h. sym (ap (λ (v : Hosts). look (v h)) (same_run t j tidy w)) ∙ sym (joined_alike most t kept still w h);
      };
    }

-- ---- runs of the joined code

module _ (most : ℕ) (j : Joint) (lines : List Line) (x : IsJoined most j lines) (s : Supply) where
  abbrev new : Joint
  new = joined most (without_empty j)

  runs_well : RunsWell s j → RunsWell s new
  runs_well well = record { tidy = x.tidy; smooth = (x.same (followed_by_zeros s) fresh well.smooth).smooth }

  alike_at_end : RunsWell s j → AreAlike (last_of s j) (last_of s new)
  alike_at_end well = (x.same (followed_by_zeros s) fresh well.smooth).alike

  pub joined_runs_on : RunsOn s j new
  joined_runs_on = record {
    well = runs_well;
    ends = λ runs. record {
      well = runs_well runs.well;
      enough = λ h source i lt. runs.enough h source i (subst (λ (l : Look). i < l.1.0 source) (sym (alike_at_end runs.well h)) lt);
    };
    alike = alike_at_end;
  }
