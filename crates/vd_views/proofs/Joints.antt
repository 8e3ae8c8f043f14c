-- A joint run depends on no other items than it takes.
use Rattle.std.proofs.Common.{◌≡◌, ℕ, zero, suc, ◌≤◌, Bool, true, false, if◌then◌else◌, List, refl, ap, ◌∙◌, arith}
use Rattle.vd_execution.specs.declared.instructions.Act.TheVariants as act
use Rattle.vd_execution.specs.Registers.{put}
use Rattle.vd_execution.specs.Step.{Source}
use Rattle.vd_execution.specs.World.{Tape}
use Rattle.vd_execution.specs.Joint.{Part, Joint, Done, Do, Msg, If, For, Host, Hosts, after_do, after_msg, is_other, turn_begun, turns, joint}
use Rattle.vd_execution.proofs.Front.{part_keeps}
use Rattle.vd_views.specs.Hiding.{TakenAlike}
use Rattle.vd_views.proofs.Frames.{act_grows, act_frame}

abbrev pub Grows : (Tape → Hosts → Hosts) → Type 0
Grows run = (t : Tape) (v : Hosts) (g : ℕ) (s : Source) → (v g).cursors s ≤ (run t v g).cursors s

abbrev pub HasFrame : (Tape → Hosts → Hosts) → Type 0
HasFrame run = (u y : Tape) (v : Hosts) → TakenAlike (run u v) u y → run y v ≡ run u v

pub before : (run : Tape → Hosts → Hosts) → Grows run → (t : Tape) (v : Hosts) (u y : Tape) → TakenAlike (run t v) u y → TakenAlike v u y
before run grows t v u y k g s i less = let more : (v g).cursors s ≤ (run t v g).cursors s = grows t v g s in k g s i (omega arith)

pub grows_after : (first second : Tape → Hosts → Hosts) → Grows first → Grows second → Grows (λ t v. second t (first t v))
grows_after first second f k t v g s =
    let a : (v g).cursors s ≤ (first t v g).cursors s = f t v g s in
    let b : (first t v g).cursors s ≤ (second t (first t v) g).cursors s = k t (first t v) g s in
    omega arith

pub frame_after : (first second : Tape → Hosts → Hosts) → Grows second → HasFrame first → HasFrame second → HasFrame (λ t v. second t (first t v))
frame_after first second grows f k u y v taken =
    ap (λ (x : Hosts). second y x) (f u y v (before second grows u (first u v) u y taken)) ∙ k u y (first u v) taken

pub begun_grows : (ps : List Part) (i : ℕ) → Grows (λ t v. turn_begun ps i v)
begun_grows ps i t v g s =
    part_keeps (λ (x : Host). (v g).cursors s ≤ x.cursors s) ps g (λ c. record (v g) { registers = put (v g).registers c i }) (v g) (λ r. omega arith) (omega arith)

pub turns_grow : (turn : Tape → ℕ → Hosts → Hosts) → ((i : ℕ) → Grows (λ t v. turn t i v)) → (n i : ℕ) → Grows (λ t v. turns (turn t) n i v)
turns_grow turn f zero i t v g s = omega arith
turns_grow turn f (suc n) i t v g s =
    let a : (v g).cursors s ≤ (turn t i v g).cursors s = f i t v g s in
    let b : (turn t i v g).cursors s ≤ (turns (turn t) n (suc i) (turn t i v) g).cursors s = turns_grow turn f n (suc i) t (turn t i v) g s in
    omega arith

pub branch_grows : (test : Hosts → Bool) (one two : Tape → Hosts → Hosts) → Grows one → Grows two → Grows (λ t v. if test v then one t v else two t v)
branch_grows test one two f k t v g s = at (test v)
  where
    at : (b : Bool) → (v g).cursors s ≤ ((if b then one t v else two t v) g).cursors s
    at true = f t v g s
    at false = k t v g s

pub joint_grows : (j : Joint) → Grows (λ t v. joint t j v)
joint_grows Done t v g s = omega arith
joint_grows (Do h a r) t v g s = grows_after (λ t v. after_do t h a v) (λ t v. joint t r v) (λ t v g s. act_grows t (act.Do (record { 0 = h }) a) v g s) (joint_grows r) t v g s
joint_grows (Msg a said b heard r) t v g s =
    grows_after (λ t v. after_msg a said b heard v) (λ t v. joint t r v) (λ t v g s. act_grows t (act.Msg (record { 0 = a }) said (record { 0 = b }) heard) v g s) (joint_grows r) t v g s
joint_grows (If ps first other r) t v g s =
    grows_after (λ t v. if is_other ps v then joint t other v else joint t first v) (λ t v. joint t r v)
    (branch_grows (λ v. is_other ps v) (λ t v. joint t other v) (λ t v. joint t first v) (joint_grows other) (joint_grows first)) (joint_grows r) t v g s
joint_grows (For ps count body r) t v g s =
    grows_after (λ t v. turns (λ i x. joint t body (turn_begun ps i x)) count 0 v) (λ t v. joint t r v)
    (turns_grow (λ t i x. joint t body (turn_begun ps i x)) (λ i. grows_after (λ t x. turn_begun ps i x) (λ t x. joint t body x) (begun_grows ps i) (joint_grows body)) count 0) (joint_grows r) t v g s

pub turns_frame : (turn : Tape → ℕ → Hosts → Hosts) → ((i : ℕ) → Grows (λ t v. turn t i v)) → ((i : ℕ) → HasFrame (λ t v. turn t i v)) → (n i : ℕ) → HasFrame (λ t v. turns (turn t) n i v)
turns_frame turn f k zero i u y v taken = refl
turns_frame turn f k (suc n) i u y v taken =
    ap (λ (x : Hosts). turns (turn y) n (suc i) x) (k i u y v (before (λ t x. turns (turn t) n (suc i) x) (turns_grow turn f n (suc i)) u (turn u i v) u y taken))
    ∙ turns_frame turn f k n (suc i) u y (turn u i v) taken

pub branch_frame : (test : Hosts → Bool) (one two : Tape → Hosts → Hosts) → HasFrame one → HasFrame two → HasFrame (λ t v. if test v then one t v else two t v)
branch_frame test one two f k u y v taken = at (test v) taken
  where
    at : (b : Bool) → TakenAlike (if b then one u v else two u v) u y → (if b then one y v else two y v) ≡ (if b then one u v else two u v)
    at true t = f u y v t
    at false t = k u y v t

pub joint_frame : (j : Joint) → HasFrame (λ t v. joint t j v)
joint_frame Done u y v taken = refl
joint_frame (Do h a r) u y v taken =
    frame_after (λ t v. after_do t h a v) (λ t v. joint t r v) (joint_grows r) (λ u y v k. act_frame u y (act.Do (record { 0 = h }) a) v k) (joint_frame r) u y v taken
joint_frame (Msg a said b heard r) u y v taken = joint_frame r u y (after_msg a said b heard v) taken
joint_frame (If ps first other r) u y v taken =
    frame_after (λ t v. if is_other ps v then joint t other v else joint t first v) (λ t v. joint t r v) (joint_grows r)
    (branch_frame (λ v. is_other ps v) (λ t v. joint t other v) (λ t v. joint t first v) (joint_frame other) (joint_frame first)) (joint_frame r) u y v taken
joint_frame (For ps count body r) u y v taken =
    frame_after (λ t v. turns (λ i x. joint t body (turn_begun ps i x)) count 0 v) (λ t v. joint t r v) (joint_grows r)
    (turns_frame (λ t i x. joint t body (turn_begun ps i x)) (λ i. grows_after (λ t x. turn_begun ps i x) (λ t x. joint t body x) (begun_grows ps i) (joint_grows body))
    (λ i. frame_after (λ t x. turn_begun ps i x) (λ t x. joint t body x) (joint_grows body) (λ u y v k. refl) (joint_frame body)) count 0)
    (joint_frame r) u y v taken
