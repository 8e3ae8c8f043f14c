-- What holds of usual gadgets, of the conversion to sums, of commitments and of what is joined holds of the plan of every program.
use Rattle.std.proofs.Common.{ℕ, ◌||◌, List, [], ◌∷◌, ◌++◌, map}
use Rattle.vd_base.specs.declared.ids.HostId.{HostId}
use Rattle.vd_base.specs.declared.ids.SlotId.{SlotId}
use Rattle.vd_base.specs.declared.protocols.Proto.{Proto}
use Rattle.vd_base.specs.declared.protocols.Proto.TheVariants.{Local, Commit}
use Rattle.vd_core.specs.declared.normal.Right.{Right}
use Rattle.vd_core.specs.declared.normal.Right.TheVariants.{Lit, Turn, Copy, Apply, Input, Declassify, Endorse, Load, Get}
use Rattle.vd_execution.specs.declared.instructions.Reg.{Reg}
use Rattle.vd_duet.specs.Calls.{Places}
use Rattle.vd_commit.specs.declared.ends.Held.{Held}
use Rattle.vd_commit.specs.declared.ends.Seen.{Seen}
use Rattle.vd_commit.specs.Commit.{committed, revealed}
use Rattle.vd_convert.specs.Convert.{to_add_made}
use Rattle.vd_execution.specs.Joint.{Part}
use Rattle.vd_execution.specs.Gadgets.{Gadget}
use Rattle.vd_execution.specs.Plans.{Plan, Ends, Branch, Loop}
use Rattle.vd_split.specs.Block.{Block, End, Let, NewVar, NewArray, Store, Put, Output, If, For, each}
use Rattle.vd_split.specs.Joint.{acts_then, and_then}
use Rattle.vd_split.specs.Suite.{holders_among, picked}
use Rattle.vd_split.specs.Emission.{Emitting, Emission, parts_at, delivered, all_moved, right_made, in_turn, stmt_emission, after_loop_registers, loop_registers}
use Rattle.vd_backend_laws.specs.Parts.{Parts, suite_calls, put_in, turned, back_end}
use Rattle.vd_views.proofs.Ordinary.{AreUsual, AreOrdinary, all_usual, literal_ordinary, apply_ordinary, keep_ordinary, renew_ordinary, turn_ordinary, input_ordinary, output_ordinary, cells_ordinary, get_ordinary, put_ordinary}
use Rattle.vd_views.proofs.Usual.{move_keeps}

-- a fact of gadgets in a row, and one of plans, where Q holds of each protocol
pub record IsKept (A : List Gadget → Type 0) (T : Plan Gadget → Type 0) (Q : Proto → Type 0) : Type 0 where
  pub local : (k : HostId) → Q (Local k)
  pub bound : (u v : HostId) → Q (Commit u v) → (x : Reg) (next : List ℕ) → A (committed u v x next).gadgets
  pub told_word : (u v : HostId) → Q (Commit u v) → (held : Held) (seen : Seen) (next : List ℕ) → A (revealed u v held seen next).gadgets
  pub usual : (gs : List Gadget) → AreUsual gs → A gs
  pub to_sums : (a b : HostId) (x : Places) (next : List ℕ) → A (to_add_made a b x next).gadgets
  pub both : (xs ys : List Gadget) → A xs → A ys → A (xs ++ ys)
  pub ends : T Ends
  pub branch : (ps : List Part) (first other : Plan Gadget) → T first → T other → T (Branch ps first other Ends)
  pub loop : (ps : List Part) (count : ℕ) (body : Plan Gadget) → T body → T (Loop ps count body Ends)
  pub acts : (xs : List Gadget) (j : Plan Gadget) → A xs → T j → T (acts_then xs j)
  pub on : (a b : Plan Gadget) → T a → T b → T (and_then a b)

module _ (A : List Gadget → Type 0) (T : Plan Gadget → Type 0) (Q : Proto → Type 0) (law : IsKept A T Q) (hosts : ℕ) (proto : ℕ → Proto) (each_is : (x : ℕ) → Q (proto x)) where
  abbrev pub E : Type 0
  E = Emitting (suite_calls hosts) proto

  abbrev pub emits : Block → Emission (suite_calls hosts) proto
  emits b = in_turn (suite_calls hosts) proto (each (stmt_emission (suite_calls hosts) proto) b)

  ordinary : (gs : List Gadget) → AreOrdinary gs → A gs
  ordinary gs e = law.usual gs (all_usual gs e)

  delivered_kept : (p : Proto) → Q p → (x : Parts) (ks : List HostId) (next : List ℕ) → A (delivered (suite_calls hosts) proto p x ks next).acts
  delivered_kept p e x [] next = law.usual [] tt
  delivered_kept p e x (k ∷ ks) next =
      let one = (suite_calls hosts).move p (Local k) x next in
      law.both one.acts (delivered (suite_calls hosts) proto p x ks one.next).acts (move_keeps A Q law.usual law.to_sums law.bound law.told_word hosts p (Local k) e (law.local k) x next) (delivered_kept p e x ks one.next)

  moved_kept : (q : Proto) → Q q → (e : E) (ys : List SlotId) (next : List ℕ) → A (all_moved (suite_calls hosts) proto q e ys next).acts
  moved_kept q f e [] next = law.usual [] tt
  moved_kept q f e (y ∷ ys) next =
      let one = (suite_calls hosts).move (proto y.0) q (parts_at (suite_calls hosts) proto e y) next in
      law.both one.acts (all_moved (suite_calls hosts) proto q e ys one.next).acts (move_keeps A Q law.usual law.to_sums law.bound law.told_word hosts (proto y.0) q (each_is y.0) f (parts_at (suite_calls hosts) proto e y) next) (moved_kept q f e ys one.next)

  right_kept : (q : Proto) → Q q → (right : Right) (e : E) → A (right_made (suite_calls hosts) proto q right e).acts
  right_kept q f (Lit n) e = ordinary ((back_end q).literal n e.next).gadgets (literal_ordinary q n e.next)
  right_kept q f Turn e = ordinary (turned q e.loop e.next).gadgets (turn_ordinary q e.loop e.next)
  right_kept q f (Copy y) e = move_keeps A Q law.usual law.to_sums law.bound law.told_word hosts (proto y.0) q (each_is y.0) f (parts_at (suite_calls hosts) proto e y) e.next
  right_kept q f (Apply o ys) e =
      let args = all_moved (suite_calls hosts) proto q e ys e.next in
      law.both args.acts ((suite_calls hosts).apply o q args.given args.next).acts (moved_kept q f e ys e.next)
      (ordinary ((suite_calls hosts).apply o q args.given args.next).acts (apply_ordinary q o (map (λ x. x.at) args.given) args.next))
  right_kept q f (Input k) e = ordinary (put_in k e.next).gadgets (input_ordinary k e.next)
  right_kept q f (Declassify y to) e = move_keeps A Q law.usual law.to_sums law.bound law.told_word hosts (proto y.0) q (each_is y.0) f (parts_at (suite_calls hosts) proto e y) e.next
  right_kept q f (Endorse y to) e = move_keeps A Q law.usual law.to_sums law.bound law.told_word hosts (proto y.0) q (each_is y.0) f (parts_at (suite_calls hosts) proto e y) e.next
  right_kept q f (Load v) e =
      let kept = (suite_calls hosts).keep (proto v.0) (parts_at (suite_calls hosts) proto e v) e.next in
      law.both kept.acts ((suite_calls hosts).move (proto v.0) q kept.given kept.next).acts (ordinary kept.acts (keep_ordinary (proto v.0) (parts_at (suite_calls hosts) proto e v).at e.next))
      (move_keeps A Q law.usual law.to_sums law.bound law.told_word hosts (proto v.0) q (each_is v.0) f kept.given kept.next)
  right_kept q f (Get v i) e =
      let x = parts_at (suite_calls hosts) proto e v in
      let index = delivered (suite_calls hosts) proto (proto i.0) (parts_at (suite_calls hosts) proto e i) (holders_among (suite_calls hosts) (proto v.0)) e.next in
      let got = (suite_calls hosts).get (proto v.0) x index.given index.next in
      law.both (index.acts ++ got.acts) ((suite_calls hosts).move (proto v.0) q got.given got.next).acts
      (law.both index.acts got.acts (delivered_kept (proto i.0) (each_is i.0) (parts_at (suite_calls hosts) proto e i) (holders_among (suite_calls hosts) (proto v.0)) e.next) (ordinary got.acts (get_ordinary (proto v.0) x index.given index.next)))
      (move_keeps A Q law.usual law.to_sums law.bound law.told_word hosts (proto v.0) q (each_is v.0) f got.given got.next)

  pub plan_kept : (b : Block) (e : E) → T ((emits b).emit e).tree
  plan_kept End e = law.ends
  plan_kept (Let x right rest) e =
      let made = right_made (suite_calls hosts) proto (proto x.0) right e in
      let s1 : E = record { next = made.next; held = e.held ++ made.given ∷ []; loop = e.loop } in
      law.on (acts_then made.acts Ends) ((emits rest).emit s1).tree (law.acts made.acts Ends (right_kept (proto x.0) (each_is x.0) right e) law.ends) (plan_kept rest s1)
  plan_kept (NewVar v x rest) e =
      let moved = (suite_calls hosts).move (proto x.0) (proto v.0) (parts_at (suite_calls hosts) proto e x) e.next in
      let kept = (suite_calls hosts).keep (proto v.0) moved.given moved.next in
      let s1 : E = record { next = kept.next; held = e.held ++ kept.given ∷ []; loop = e.loop } in
      law.on (acts_then (moved.acts ++ kept.acts) Ends) ((emits rest).emit s1).tree
      (law.acts (moved.acts ++ kept.acts) Ends
      (law.both moved.acts kept.acts (move_keeps A Q law.usual law.to_sums law.bound law.told_word hosts (proto x.0) (proto v.0) (each_is x.0) (each_is v.0) (parts_at (suite_calls hosts) proto e x) e.next) (ordinary kept.acts (keep_ordinary (proto v.0) moved.given.at moved.next))) law.ends)
      (plan_kept rest s1)
  plan_kept (NewArray v size rest) e =
      let made = (suite_calls hosts).cells (proto v.0) size e.next in
      let s1 : E = record { next = made.next; held = e.held ++ made.given ∷ []; loop = e.loop } in
      law.on (acts_then made.acts Ends) ((emits rest).emit s1).tree (law.acts made.acts Ends (ordinary made.acts (cells_ordinary (proto v.0) size e.next)) law.ends) (plan_kept rest s1)
  plan_kept (Store v x rest) e =
      let moved = (suite_calls hosts).move (proto x.0) (proto v.0) (parts_at (suite_calls hosts) proto e x) e.next in
      let acts = (suite_calls hosts).renew (proto v.0) (parts_at (suite_calls hosts) proto e v) moved.given in
      let s1 : E = record { next = moved.next; held = e.held; loop = e.loop } in
      law.on (acts_then (moved.acts ++ acts) Ends) ((emits rest).emit s1).tree
      (law.acts (moved.acts ++ acts) Ends
      (law.both moved.acts acts (move_keeps A Q law.usual law.to_sums law.bound law.told_word hosts (proto x.0) (proto v.0) (each_is x.0) (each_is v.0) (parts_at (suite_calls hosts) proto e x) e.next)
      (ordinary acts (renew_ordinary (proto v.0) (parts_at (suite_calls hosts) proto e v).at moved.given.at))) law.ends)
      (plan_kept rest s1)
  plan_kept (Put v i x rest) e =
      let index = delivered (suite_calls hosts) proto (proto i.0) (parts_at (suite_calls hosts) proto e i) (holders_among (suite_calls hosts) (proto v.0)) e.next in
      let moved = (suite_calls hosts).move (proto x.0) (proto v.0) (parts_at (suite_calls hosts) proto e x) index.next in
      let acts = (suite_calls hosts).put (proto v.0) (parts_at (suite_calls hosts) proto e v) index.given moved.given in
      let s1 : E = record { next = moved.next; held = e.held; loop = e.loop } in
      law.on (acts_then ((index.acts ++ moved.acts) ++ acts) Ends) ((emits rest).emit s1).tree
      (law.acts ((index.acts ++ moved.acts) ++ acts) Ends
      (law.both (index.acts ++ moved.acts) acts
      (law.both index.acts moved.acts (delivered_kept (proto i.0) (each_is i.0) (parts_at (suite_calls hosts) proto e i) (holders_among (suite_calls hosts) (proto v.0)) e.next)
      (move_keeps A Q law.usual law.to_sums law.bound law.told_word hosts (proto x.0) (proto v.0) (each_is x.0) (each_is v.0) (parts_at (suite_calls hosts) proto e x) index.next))
      (ordinary acts (put_ordinary (proto v.0) (parts_at (suite_calls hosts) proto e v) index.given moved.given.at))) law.ends)
      (plan_kept rest s1)
  plan_kept (Output x k offset rest) e =
      let moved = (suite_calls hosts).move (proto x.0) (Local k) (parts_at (suite_calls hosts) proto e x) e.next in
      let acts = (suite_calls hosts).output k moved.given in
      let s1 : E = record { next = moved.next; held = e.held; loop = e.loop } in
      law.on (acts_then (moved.acts ++ acts) Ends) ((emits rest).emit s1).tree
      (law.acts (moved.acts ++ acts) Ends
      (law.both moved.acts acts (move_keeps A Q law.usual law.to_sums law.bound law.told_word hosts (proto x.0) (Local k) (each_is x.0) (law.local k) (parts_at (suite_calls hosts) proto e x) e.next) (ordinary acts (output_ordinary k moved.given.at))) law.ends)
      (plan_kept rest s1)
  plan_kept (If x tb eb offset rest) e =
      let ks = picked 0 hosts (λ k. (emits tb).takes_part k || (emits eb).takes_part k) in
      let guard = delivered (suite_calls hosts) proto (proto x.0) (parts_at (suite_calls hosts) proto e x) ks e.next in
      let s1 : E = record { next = guard.next; held = e.held; loop = e.loop } in
      let s2 : E = ((emits tb).emit s1).state in
      let s3 : E = ((emits eb).emit s2).state in
      law.on (acts_then guard.acts (Branch guard.given ((emits tb).emit s1).tree ((emits eb).emit s2).tree Ends)) ((emits rest).emit s3).tree
      (law.acts guard.acts (Branch guard.given ((emits tb).emit s1).tree ((emits eb).emit s2).tree Ends) (delivered_kept (proto x.0) (each_is x.0) (parts_at (suite_calls hosts) proto e x) ks e.next) (law.branch guard.given ((emits tb).emit s1).tree ((emits eb).emit s2).tree (plan_kept tb s1) (plan_kept eb s2)))
      (plan_kept rest s3)
  plan_kept (For count body rest) e =
      let s1 : E = record { next = after_loop_registers (emits body).acts_at 0 e.next; held = e.held; loop = e.next } in
      let b = (emits body).emit s1 in
      let s2 : E = record { next = b.state.next; held = b.state.held; loop = e.loop } in
      law.on (Loop (loop_registers (emits body).acts_at 0 e.next) count b.tree Ends) ((emits rest).emit s2).tree (law.loop (loop_registers (emits body).acts_at 0 e.next) count b.tree (plan_kept body s1)) (plan_kept rest s2)
