-- A run as a list goes as the run as a function does, along acts and turns.
use Rattle.std.proofs.Common.{◌≡◌, ◌≢◌, ℕ, suc, ◌≤◌, ◌<◌, Bool, true, if◌then◌else◌, List, [], ◌∷◌, refl, sym, ap, subst, ◌∙◌, arith}
use Rattle.vd_execution.specs.declared.instructions.Act.{Act}
use Rattle.vd_execution.specs.declared.instructions.Act.TheVariants as act
use Rattle.vd_execution.specs.declared.instructions.Action.{Action}
use Rattle.vd_execution.specs.Step.{Source, Inputs, OwnWords, Triples, BitTriples, Pairs, Cursors, Need, Nothing, Item, Packet, Unequal, Ended, need_of_action, advanced}
use Rattle.vd_execution.specs.World.{Tape}
use Rattle.vd_execution.specs.Joint.{Part, Host, Hosts, supplied, acted as does, turn_begun}
use Rattle.vd_execution.specs.Acts.{run_act}
use Rattle.vd_views.proofs.Front.{acts_grow, itself, begun_cursors}
use Rattle.vd_excuse_runs.specs.declared.side.Side.{Side}
use Rattle.vd_excuse_runs.specs.Sides.{performed}
use Rattle.vd_excuse_runs.specs.Runs.{side_at, acted, begun}
use Rattle.vd_excuse_walk.specs.Supplies.{Lists, lists_of, supplies, dealt}
use Rattle.vd_excuse_walk.specs.Following.{IsIn, Within, Stands, Known, Goes}
use Rattle.vd_excuse_walk.proofs.Stands.{stands_on}
use Rattle.vd_excuse_walk.proofs.Runs.{host_here, stands_put, lists_put, msg_stands, begun_lists, begun_stands}

is_in : (l : Lists) (s : Source) (i : ℕ) → (s ≢ Inputs → i < dealt l s) → IsIn l s i
is_in l Inputs i f = tt
is_in l OwnWords i f = f (λ e. cc)
is_in l (Triples p) i f = f (λ e. cc)
is_in l (BitTriples p) i f = f (λ e. cc)
is_in l (Pairs p) i f = f (λ e. cc)

-- ---- the same lists

counts_same : (n : ℕ → Source → ℕ) (run new : List Side) → ((g : ℕ) → lists_of (side_at new g) ≡ lists_of (side_at run g)) → ((g : ℕ) (s : Source) → dealt (lists_of (side_at run g)) s ≡ n g s)
    → (g : ℕ) (s : Source) → dealt (lists_of (side_at new g)) s ≡ n g s
counts_same n run new same counts g s = ap (λ (l : Lists). dealt l s) (same g) ∙ counts g s

holds_same : (limit : Bool) (u : Tape) (run new : List Side) → ((g : ℕ) → lists_of (side_at new g) ≡ lists_of (side_at run g))
    → ((g : ℕ) (s : Source) (i : ℕ) → (limit ≡ true → IsIn (lists_of (side_at run g)) s i) → u g s i ≡ supplies (lists_of (side_at run g)) s i)
    → (g : ℕ) (s : Source) (i : ℕ) → (limit ≡ true → IsIn (lists_of (side_at new g)) s i) → u g s i ≡ supplies (lists_of (side_at new g)) s i
holds_same limit u run new same holds g s i there =
    let P : Lists → Type 0 = λ l. IsIn l s i in
    holds g s i (λ e. subst P (same g) (there e)) ∙ ap (λ (l : Lists). supplies l s i) (sym (same g))

-- ---- an act

act_lists : (a : Act) (run : List Side) (g : ℕ) → lists_of (side_at (acted a run) g) ≡ lists_of (side_at run g)
act_lists (act.Do h a) run g = lists_put run h.0 (performed a (side_at run h.0)) refl g
act_lists (act.Msg a said b heard) run g = lists_put run b.0 _ refl g

-- an item that is taken is one of the lists
reads_need : (need : Need) (items : Source → ℕ → List ℕ) (l : Lists) (c : Cursors) → ((s : Source) → need ≡ Item s → items s (c s) ≡ supplies l s (c s)) → supplied items c need ≡ supplied (supplies l) c need
reads_need Nothing items l c f = refl
reads_need (Item s) items l c f = f s refl
reads_need (Packet p n) items l c f = refl
reads_need (Unequal x y) items l c f = refl
reads_need Ended items l c f = refl

taken_once : (c : Cursors) (need : Need) (s : Source) → need ≡ Item s → advanced c need s ≡ suc (c s)
taken_once c need s e = ap (λ (x : Need). advanced c x s) e ∙ ap (λ (b : Bool). if b then suc (c s) else c s) (itself s)

do_reads : (n : ℕ → Source → ℕ) (limit : Bool) (u : Tape) (run : List Side) (w : Hosts) (h : ℕ) (a : Action) → ((g : ℕ) (s : Source) → dealt (lists_of (side_at run g)) s ≡ n g s) → Known limit u run w
    → (limit ≡ true → (s : Source) → s ≢ Inputs → advanced (w h).cursors (need_of_action (w h).registers a) s ≤ n h s)
    → supplied (u h) (w h).cursors (need_of_action (w h).registers a) ≡ supplied (supplies (lists_of (side_at run h))) (w h).cursors (need_of_action (w h).registers a)
do_reads n limit u run w h a counts known within =
    reads_need (need_of_action (w h).registers a) (u h) (lists_of (side_at run h)) (w h).cursors
    (λ s is. known.holds h s ((w h).cursors s)
    (λ e. is_in (lists_of (side_at run h)) s ((w h).cursors s)
    (λ apart. let one : advanced (w h).cursors (need_of_action (w h).registers a) s ≤ n h s = within e s apart in
    let more = taken_once (w h).cursors (need_of_action (w h).registers a) s is in
    let many = counts h s in
    omega (arith, one, more, many))))

act_stands : (n : ℕ → Source → ℕ) (limit : Bool) (u : Tape) (run : List Side) (w : Hosts) (a : Act) → ((g : ℕ) (s : Source) → dealt (lists_of (side_at run g)) s ≡ n g s) → Known limit u run w
    → (limit ≡ true → Within n (run_act u a w)) → (g : ℕ) → Stands (side_at (acted a run) g) (run_act u a w g)
act_stands n limit u run w (act.Do h a) counts known within =
    stands_put run w h.0 (performed a (side_at run h.0)) (does (u h.0) a (w h.0)) known.stands
    (stands_on (side_at run h.0) (w h.0) (u h.0) a (known.stands h.0)
    (do_reads n limit u run w h.0 a counts known
    (λ e s apart. let P : Host → Type 0 = λ x. x.cursors s ≤ n h.0 s in subst P (host_here w h.0 (does (u h.0) a (w h.0)) h.0 refl) (within e h.0 s apart))))
act_stands n limit u run w (act.Msg a said b heard) counts known within = msg_stands run w a.0 said b.0 heard known.stands

less : (a b c : ℕ) → a ≤ b → b ≤ c → a ≤ c
less a b c h k = omega (arith, h, k)

within_before : (n : ℕ → Source → ℕ) (w v : Hosts) → ((g : ℕ) (s : Source) → (w g).cursors s ≤ (v g).cursors s) → Within n v → Within n w
within_before n w v grow within g s apart = less _ _ _ (grow g s) (within g s apart)

pub act_goes : (n : ℕ → Source → ℕ) (limit : Bool) (u : Tape) (run : List Side) (w : Hosts) (a : Act) → Goes n limit u run w → Goes n limit u (acted a run) (run_act u a w)
act_goes n limit u run w a goes = record {
  counts = counts_same n run (acted a run) (act_lists a run) goes.counts;
  known = λ within.
      let k = goes.known (λ e. within_before n w (run_act u a w) (λ g s. acts_grow u (a ∷ []) w g s) (within e)) in
      record { holds = holds_same limit u run (acted a run) (act_lists a run) k.holds; stands = act_stands n limit u run w a goes.counts k within };
}

pub acted_lists : (a : Act) (run : List Side) (g : ℕ) → lists_of (side_at (acted a run) g) ≡ lists_of (side_at run g)
acted_lists = act_lists

-- ---- a turn begins

pub begun_goes : (n : ℕ → Source → ℕ) (limit : Bool) (u : Tape) (run : List Side) (w : Hosts) (ps : List Part) (i : ℕ) → Goes n limit u run w → Goes n limit u (begun ps i run) (turn_begun ps i w)
begun_goes n limit u run w ps i goes = record {
  counts = counts_same n run (begun ps i run) (begun_lists ps i run) goes.counts;
  known = λ within.
      let k = goes.known (λ e g s apart. let P : ℕ → Type 0 = λ x. x ≤ n g s in subst P (begun_cursors ps i w g s) (within e g s apart)) in
      record { holds = holds_same limit u run (begun ps i run) (begun_lists ps i run) k.holds; stands = begun_stands ps i run w k.stands };
}
