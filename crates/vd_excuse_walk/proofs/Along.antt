-- Who goes along steps in both runs as lists follows who goes along them in both runs as functions.
use Rattle.std.proofs.Common.{◌≡◌, ◌≢◌, ℕ, zero, suc, ◌≤◌, Bool, true, false, if◌then◌else◌, List, [], ◌∷◌, map, refl, sym, ap, subst, subst₂, ◌∙◌, arith}
use Rattle.vd_base.specs.declared.ids.HostId.{HostId}
use Rattle.vd_execution.specs.declared.instructions.Act.{Act}
use Rattle.vd_execution.specs.Step.{Source, Triples, BitTriples, Pairs}
use Rattle.vd_execution.specs.World.{Tape}
use Rattle.vd_execution.specs.Gadgets.{BySums, ByXors}
use Rattle.vd_execution.specs.Joint.{Part as HostPart, Hosts, is_other as other, turn_begun, turns}
use Rattle.vd_execution.specs.Acts.{run_act}
use Rattle.vd_views.specs.Views.{IsIn, alone}
use Rattle.vd_views.specs.Excused.{across, if_both}
use Rattle.vd_views.proofs.Front.{acts_grow, begun_cursors, of_alone}
use Rattle.vd_excuse_walk.specs.declared.equivocation_laws.step.Operands.{Operands}
use Rattle.vd_excuse_walk.specs.declared.equivocation_laws.step.Part.{Part}
use Rattle.vd_excuse_walk.specs.declared.equivocation_laws.step.Hidden.{Hidden}
use Rattle.vd_excuse_walk.specs.declared.equivocation_laws.step.Hidden.TheVariants.{Product, Bits, Word}
use Rattle.vd_excuse_walk.specs.declared.equivocation_laws.step.Step.{Step, roll-Step, map-Step, ind-Step}
use Rattle.vd_excuse_walk.specs.declared.equivocation_laws.step.Step.TheOpen.{Step-F}
use Rattle.vd_excuse_walk.specs.declared.equivocation_laws.step.Step.TheFolds.{fold-roll-Step}
use Rattle.vd_excuse_walk.specs.Walks.{Both, masked_again, paired_again, hidden_again, Walk, run_steps, both_steps, both_begun, step_walk, walk, walks}
use Rattle.vd_excuse_runs.specs.declared.side.Side.{Side}
use Rattle.vd_excuse_runs.specs.Sides.{next_triple, next_bits, shared_triple, shared_bits, shared_pair, triple_words, pair_words, with_triple, with_bits, with_pair}
use Rattle.vd_excuse_runs.specs.Runs.{side_at, put_side, acted, is_other, begun}
use Rattle.vd_excuse_walk.specs.declared.walker.Walker.{Walker}
use Rattle.vd_tape.specs.declared.deal_items.items.Triple.{Triple}
use Rattle.vd_tape.specs.declared.deal_items.items.PairItem.{PairItem}
use Rattle.vd_views.specs.Items.{raised, sum_item, xor_item, pair_item}
use Rattle.vd_excuse_walk.specs.Items.{triple_of, pair_of}
use Rattle.vd_excuse_walk.specs.Data as plain
use Rattle.vd_excuse_walk.specs.Data.{DataWalk, all_alone, all_both, data_step, data_walk, data_walks}
use Rattle.vd_excuse_walk.specs.Supplies.{lists_of, supplies, dealt}
use Rattle.vd_excuse_walk.proofs.Runs.{other_same, begun_lists}
use Rattle.vd_excuse_walk.specs.Following.{Within, Known, Goes, NotWith, Keeps, Follows}
use Rattle.vd_excuse_walk.proofs.Going.{act_goes, acted_lists, begun_goes}
use Rattle.vd_excuse_walk.proofs.Follows.{gone_on, changed_follows}
use Rattle.vd_excuse_walk.proofs.Changing.{triple_item, triples_changed, bits_item, bits_changed, pairs_item, pairs_changed, pair_made}

never : {A : Type 0} → false ≡ true → A
never e = absurd cc

less : (a b c : ℕ) → a ≤ b → b ≤ c → a ≤ c
less a b c h k = omega (arith, h, k)

module _ (h : HostId) (t : Tape) (n : ℕ → Source → ℕ) (start : List Side) (apart : (side_at start h.0).peer.0 ≢ h.0) where
  abbrev F : Walker → Both → Type 0
  F d r = Follows h t n start d r

  -- ---- what is hidden

  product_follows : (o : Operands) (d : Walker) (r : Both) → F d r → F (plain.product_hidden o d) (record { deal = masked_again h.0 t BySums o r; first = r.first; second = r.second })
  product_follows o d r is =
      let k : ℕ = o.host.0 in
      let new : HostId → Triple = λ x. triple_of (sum_item (triple_words (next_triple (side_at d.first k) x)) (triple_words (shared_triple (side_at d.second x.0) o.host (side_at d.second k).taken.triples))
      (plain.word_at d.first o.host o.x) (plain.word_at d.second o.host o.x) (plain.word_at d.first o.host o.y) (plain.word_at d.second o.host o.y)) in
      let P : HostId → Type 0 = λ x. F (record d { second = put_side d.second k (with_triple x (new x) (side_at d.second k)) }) (record { deal = masked_again h.0 t BySums o r; first = r.first; second = r.second }) in
      subst P (sym is.host)
      (changed_follows h t n start d r k (with_triple h (new h) (side_at d.second k)) (Triples h.0) ((r.second k).cursors (Triples h.0)) _ is
      (triples_changed h t n start apart d r is k (new h) _ (λ known peer at. triple_item h t n start apart d r is o known peer at)))

  bits_follows : (o : Operands) (d : Walker) (r : Both) → F d r → F (plain.bits_hidden o d) (record { deal = masked_again h.0 t ByXors o r; first = r.first; second = r.second })
  bits_follows o d r is =
      let k : ℕ = o.host.0 in
      let new : HostId → Triple = λ x. triple_of (xor_item (triple_words (next_bits (side_at d.first k) x)) (triple_words (shared_bits (side_at d.second x.0) o.host (side_at d.second k).taken.bits))
      (plain.word_at d.first o.host o.x) (plain.word_at d.second o.host o.x) (plain.word_at d.first o.host o.y) (plain.word_at d.second o.host o.y)) in
      let P : HostId → Type 0 = λ x. F (record d { second = put_side d.second k (with_bits x (new x) (side_at d.second k)) }) (record { deal = masked_again h.0 t ByXors o r; first = r.first; second = r.second }) in
      subst P (sym is.host)
      (changed_follows h t n start d r k (with_bits h (new h) (side_at d.second k)) (BitTriples h.0) ((r.second k).cursors (BitTriples h.0)) _ is
      (bits_changed h t n start apart d r is k (new h) _ (λ known peer at. bits_item h t n start apart d r is o known peer at)))

  word_follows : (p q : Part) (host : HostId) (d : Walker) (r : Both) → F d r → F (plain.word_hidden p q host d) (record { deal = paired_again h.0 t p q host.0 r; first = r.first; second = r.second })
  word_follows p q host d r is =
      let k : ℕ = host.0 in
      let dealt : ℕ = raised (plain.dealt_word p q d.first) (plain.word_of p q d.first) (plain.word_of p q d.second) in
      let new : HostId → PairItem = λ x. pair_of (pair_item dealt (pair_words (shared_pair (side_at d.second x.0) host (side_at d.second k).taken.pairs))) in
      let P : HostId → Type 0 = λ x. F (record d { second = put_side d.second k (with_pair x (new x) (side_at d.second k)) }) (record { deal = paired_again h.0 t p q k r; first = r.first; second = r.second }) in
      subst P (sym is.host)
      (changed_follows h t n start d r k (with_pair h (new h) (side_at d.second k)) (Pairs h.0) ((r.second k).cursors (Pairs h.0)) _ is
      (pairs_changed h t n start apart d r is k (new h) _ (λ known peer at. pairs_item h t n start apart d r is p q host known peer at ∙ sym (pair_made dealt _))))

  either_side : (a b : Bool) (x y z : Walker) (u v w : Tape) (f s : Hosts) → (a ≡ true → F x (record { deal = u; first = f; second = s })) → (b ≡ true → F y (record { deal = v; first = f; second = s }))
      → F z (record { deal = w; first = f; second = s }) → F (across a b x y z) (record { deal = across a b u v w; first = f; second = s })
  either_side true false x y z u v w f s p q e = p refl
  either_side false true x y z u v w f s p q e = q refl
  either_side true true x y z u v w f s p q e = e
  either_side false false x y z u v w f s p q e = e

  -- the host that looks is h
  with_looker : (x : Walker) (made : ℕ → Tape) (f s : Hosts) → F x (record { deal = made h.0; first = f; second = s }) → (g : ℕ) → IsIn (alone h.0) g → F x (record { deal = made g; first = f; second = s })
  with_looker x made f s p g i = of_alone h.0 (λ k. F x (record { deal = made k; first = f; second = s })) p g i

  hidden_follows : (x : Hidden) (d : Walker) (r : Both) → F d r → F (plain.hidden x d) (record { deal = hidden_again (alone h.0) t x r; first = r.first; second = r.second })
  hidden_follows (Product o q) d r is =
      let P : ℕ → Type 0 = λ y.
      F (across (alone y o.host.0) (alone y q.host.0) (plain.product_hidden q d) (plain.product_hidden o d) d) (record { deal = hidden_again (alone h.0) t (Product o q) r; first = r.first; second = r.second }) in
      subst P (ap (λ (x : HostId). x.0) (sym is.host))
      (either_side (alone h.0 o.host.0) (alone h.0 q.host.0) _ _ _ _ _ _ r.first r.second
      (λ i. with_looker (plain.product_hidden q d) (λ k. masked_again k t BySums q r) r.first r.second (product_follows q d r is) o.host.0 i)
      (λ i. with_looker (plain.product_hidden o d) (λ k. masked_again k t BySums o r) r.first r.second (product_follows o d r is) q.host.0 i) is)
  hidden_follows (Bits o q) d r is =
      let P : ℕ → Type 0 = λ y.
      F (across (alone y o.host.0) (alone y q.host.0) (plain.bits_hidden q d) (plain.bits_hidden o d) d) (record { deal = hidden_again (alone h.0) t (Bits o q) r; first = r.first; second = r.second }) in
      subst P (ap (λ (x : HostId). x.0) (sym is.host))
      (either_side (alone h.0 o.host.0) (alone h.0 q.host.0) _ _ _ _ _ _ r.first r.second
      (λ i. with_looker (plain.bits_hidden q d) (λ k. masked_again k t ByXors q r) r.first r.second (bits_follows q d r is) o.host.0 i)
      (λ i. with_looker (plain.bits_hidden o d) (λ k. masked_again k t ByXors o r) r.first r.second (bits_follows o d r is) q.host.0 i) is)
  hidden_follows (Word p q) d r is =
      let P : ℕ → Type 0 = λ y.
      F (across (alone y p.host.0) (alone y q.host.0) (plain.word_hidden p q q.host d) (plain.word_hidden p q p.host d) d) (record { deal = hidden_again (alone h.0) t (Word p q) r; first = r.first; second = r.second }) in
      subst P (ap (λ (x : HostId). x.0) (sym is.host))
      (either_side (alone h.0 p.host.0) (alone h.0 q.host.0) _ _ _ _ _ _ r.first r.second
      (λ i. with_looker (plain.word_hidden p q q.host d) (λ k. paired_again k t p q q.host.0 r) r.first r.second (word_follows p q q.host d r is) p.host.0 i)
      (λ i. with_looker (plain.word_hidden p q p.host d) (λ k. paired_again k t p q p.host.0 r) r.first r.second (word_follows p q p.host d r is) q.host.0 i) is)

  -- ---- steps

  -- what is known of one step, or of several, in both forms
  record Good (x : Walk) (y : DataWalk) : Type 0 where
    grows : (u : Tape) (w : Hosts) (g : ℕ) (s : Source) → (w g).cursors s ≤ (x.run u w g).cursors s
    grows_both : (r : Both) (g : ℕ) (s : Source) → (r.second g).cursors s ≤ ((x.both r).second g).cursors s
    first_is : (r : Both) → (x.both r).first ≡ x.run t r.first
    first_too : (d : Walker) → (y.both d).first ≡ y.alone d.first
    lists : (run : List Side) (g : ℕ) → lists_of (side_at (y.alone run) g) ≡ lists_of (side_at run g)
    alone : (limit : Bool) (u : Tape) (run : List Side) (w : Hosts) → Goes n limit u run w → Goes n limit u (y.alone run) (x.run u w)
    both : (d : Walker) (r : Both) → F d r → F (y.both d) (x.both r)

  abbrev all_of : List Walk → Walk
  all_of xs = record { run = λ u w. run_steps xs u w; both = λ r. both_steps xs r }

  abbrev all_data : List DataWalk → DataWalk
  all_data ys = record { alone = all_alone ys; both = all_both ys }

  none_good : Good (all_of []) (all_data [])
  none_good = record {
    grows = λ u w g s. omega arith;
    grows_both = λ r g s. omega arith;
    first_is = λ r. refl;
    first_too = λ d. refl;
    lists = λ run g. refl;
    alone = λ limit u run w is. is;
    both = λ d r is. is;
  }

  one_good : (x : Walk) (xs : List Walk) (y : DataWalk) (ys : List DataWalk) → Good x y → Good (all_of xs) (all_data ys) → Good (all_of (x ∷ xs)) (all_data (y ∷ ys))
  one_good x xs y ys a b = record {
    grows = λ u w g s. less _ _ _ (a.grows u w g s) (b.grows u (x.run u w) g s);
    grows_both = λ r g s. less _ _ _ (a.grows_both r g s) (b.grows_both (x.both r) g s);
    first_is = λ r. b.first_is (x.both r) ∙ ap (run_steps xs t) (a.first_is r);
    first_too = λ d. b.first_too (y.both d) ∙ ap (all_alone ys) (a.first_too d);
    lists = λ run g. b.lists (y.alone run) g ∙ a.lists run g;
    alone = λ limit u run w is. b.alone limit u (y.alone run) (x.run u w) (a.alone limit u run w is);
    both = λ d r is. b.both (y.both d) (x.both r) (a.both d r is);
  }

  hide_good : (x : Hidden) → Good (step_walk (alone h.0) t (Step-F.Hide x)) (data_step (Step-F.Hide x))
  hide_good x = record {
    grows = λ u w g s. omega arith;
    grows_both = λ r g s. omega arith;
    first_is = λ r. refl;
    first_too = λ d. hidden_first x d;
    lists = λ run g. refl;
    alone = λ limit u run w is. is;
    both = λ d r is. hidden_follows x d r is;
  }
    where
      either_first : (a b : Bool) (x y z : Walker) (f : List Side) → x.first ≡ f → y.first ≡ f → z.first ≡ f → (across a b x y z).first ≡ f
      either_first true false x y z f p q e = p
      either_first false true x y z f p q e = q
      either_first true true x y z f p q e = e
      either_first false false x y z f p q e = e

      hidden_first : (x : Hidden) (d : Walker) → (plain.hidden x d).first ≡ d.first
      hidden_first (Product o q) d = either_first (alone d.host.0 o.host.0) (alone d.host.0 q.host.0) _ _ _ d.first refl refl refl
      hidden_first (Bits o q) d = either_first (alone d.host.0 o.host.0) (alone d.host.0 q.host.0) _ _ _ d.first refl refl refl
      hidden_first (Word p q) d = either_first (alone d.host.0 p.host.0) (alone d.host.0 q.host.0) _ _ _ d.first refl refl refl

  act_good : (a : Act) → Good (step_walk (alone h.0) t (Step-F.Act a)) (data_step (Step-F.Act a))
  act_good a = record {
    grows = λ u w g s. acts_grow u (a ∷ []) w g s;
    grows_both = λ r g s. acts_grow r.deal (a ∷ []) r.second g s;
    first_is = λ r. refl;
    first_too = λ d. refl;
    lists = λ run g. acted_lists a run g;
    alone = λ limit u run w is. act_goes n limit u run w a is;
    both = λ d r is. gone_on h t n start d (plain.both_acted (acted a) d) r (run_act t a r.first) (run_act r.deal a r.second) is refl
        (act_goes n false t d.first r.first a is.first) (act_goes n true r.deal d.second r.second a is.second) (acted_lists a d.second);
  }

  -- ---- loops

  begun_grows : (ps : List HostPart) (i : ℕ) (x : Walk) (y : DataWalk) → Good x y → (u : Tape) (w : Hosts) (g : ℕ) (s : Source) → (w g).cursors s ≤ (x.run u (turn_begun ps i w) g).cursors s
  begun_grows ps i x y a u w g s = let P : ℕ → Type 0 = λ z. z ≤ (x.run u (turn_begun ps i w) g).cursors s in subst P (begun_cursors ps i w g s) (a.grows u (turn_begun ps i w) g s)

  begun_follows : (ps : List HostPart) (i : ℕ) (d : Walker) (r : Both) → F d r → F (plain.both_begun ps i d) (both_begun ps i r)
  begun_follows ps i d r is =
      gone_on h t n start d (plain.both_begun ps i d) r (turn_begun ps i r.first) (turn_begun ps i r.second) is refl
      (begun_goes n false t d.first r.first ps i is.first) (begun_goes n true r.deal d.second r.second ps i is.second) (begun_lists ps i d.second)

  turn_good : (ps : List HostPart) (x : Walk) (y : DataWalk) → Good x y → (i : ℕ)
      → Good (record { run = λ u w. x.run u (turn_begun ps i w); both = λ r. x.both (both_begun ps i r) }) (record { alone = λ run. y.alone (begun ps i run); both = λ d. y.both (plain.both_begun ps i d) })
  turn_good ps x y a i = record {
    grows = λ u w g s. begun_grows ps i x y a u w g s;
    grows_both = λ r g s. (let P : ℕ → Type 0 = λ z. z ≤ ((x.both (both_begun ps i r)).second g).cursors s in subst P (begun_cursors ps i r.second g s) (a.grows_both (both_begun ps i r) g s));
    first_is = λ r. a.first_is (both_begun ps i r);
    first_too = λ d. a.first_too (plain.both_begun ps i d);
    lists = λ run g. a.lists (begun ps i run) g ∙ begun_lists ps i run g;
    alone = λ limit u run w is. a.alone limit u (begun ps i run) (turn_begun ps i w) (begun_goes n limit u run w ps i is);
    both = λ d r is. a.both (plain.both_begun ps i d) (both_begun ps i r) (begun_follows ps i d r is);
  }

  abbrev turns_of : (ℕ → Walk) → ℕ → ℕ → Walk
  turns_of f k i = record { run = λ u w. turns (λ j v. (f j).run u v) k i w; both = λ r. turns (λ j z. (f j).both z) k i r }

  abbrev data_turns : (ℕ → DataWalk) → ℕ → ℕ → DataWalk
  data_turns f k i = record { alone = turns (λ j run. (f j).alone run) k i; both = turns (λ j d. (f j).both d) k i }

  turns_good : (f : ℕ → Walk) (e : ℕ → DataWalk) → ((i : ℕ) → Good (f i) (e i)) → (k i : ℕ) → Good (turns_of f k i) (data_turns e k i)
  turns_good f e all zero i = record {
    grows = λ u w g s. omega arith;
    grows_both = λ r g s. omega arith;
    first_is = λ r. refl;
    first_too = λ d. refl;
    lists = λ run g. refl;
    alone = λ limit u run w is. is;
    both = λ d r is. is;
  }
  turns_good f e all (suc k) i =
      let a = all i in
      let b = turns_good f e all k (suc i) in
      record {
        grows = λ u w g s. less _ _ _ (a.grows u w g s) (b.grows u ((f i).run u w) g s);
        grows_both = λ r g s. less _ _ _ (a.grows_both r g s) (b.grows_both ((f i).both r) g s);
        first_is = λ r. b.first_is ((f i).both r) ∙ ap (turns (λ j v. (f j).run t v) k (suc i)) (a.first_is r);
        first_too = λ d. b.first_too ((e i).both d) ∙ ap (turns (λ j run. (e j).alone run) k (suc i)) (a.first_too d);
        lists = λ run g. b.lists ((e i).alone run) g ∙ a.lists run g;
        alone = λ limit u run w is. b.alone limit u ((e i).alone run) ((f i).run u w) (a.alone limit u run w is);
        both = λ d r is. b.both ((e i).both d) ((f i).both r) (a.both d r is);
      }

  -- ---- branches

  pick : {X : Type 0} (P : X → Type 0) (b : Bool) (x y : X) → P x → P y → P (if b then x else y)
  pick P true x y p q = p
  pick P false x y p q = q

  before : (w v : Hosts) → ((g : ℕ) (s : Source) → (w g).cursors s ≤ (v g).cursors s) → Within n v → Within n w
  before w v grow within g s ne = less _ _ _ (grow g s) (within g s ne)

  either_goes : (limit : Bool) (u : Tape) (run x y : List Side) (w v z : Hosts) (b c : Bool) → Goes n limit u run w → Goes n limit u x v → Goes n limit u y z
      → ((g : ℕ) (s : Source) → (w g).cursors s ≤ (v g).cursors s) → ((g : ℕ) (s : Source) → (w g).cursors s ≤ (z g).cursors s) → (Known limit u run w → b ≡ c)
      → Goes n limit u (if b then x else y) (if c then v else z)
  either_goes limit u run x y w v z b c is one two grow grow_too same = record {
    counts = pick (λ (r : List Side). (g : ℕ) (s : Source) → dealt (lists_of (side_at r g)) s ≡ n g s) b x y one.counts two.counts;
    known = λ within. at b c (same (is.known (λ e. before w (if c then v else z) (pick (λ (q : Hosts). (g : ℕ) (s : Source) → (w g).cursors s ≤ (q g).cursors s) c v z grow grow_too) (within e)))) within;
  }
    where
      at : (b c : Bool) → b ≡ c → (limit ≡ true → Within n (if c then v else z)) → Known limit u (if b then x else y) (if c then v else z)
      at true true e within = one.known within
      at false false e within = two.known within
      at true false e within = absurd cc
      at false true e within = absurd cc

  module _ (ps : List HostPart) (a b : Walk) (x y : DataWalk) (one : Good a x) (two : Good b y) where
    abbrev one_run : Tape → Hosts → Hosts
    one_run u w = if other ps w then b.run u w else a.run u w

    abbrev one_data : List Side → List Side
    one_data run = if is_other ps run then y.alone run else x.alone run

    run_grows : (u : Tape) (w : Hosts) (g : ℕ) (s : Source) → (w g).cursors s ≤ (one_run u w g).cursors s
    run_grows u w g s = pick (λ (q : Hosts). (w g).cursors s ≤ (q g).cursors s) (other ps w) (b.run u w) (a.run u w) (two.grows u w g s) (one.grows u w g s)

    run_goes : (limit : Bool) (u : Tape) (run : List Side) (w : Hosts) → Goes n limit u run w → Goes n limit u (one_data run) (one_run u w)
    run_goes limit u run w is =
        either_goes limit u run (y.alone run) (x.alone run) w (b.run u w) (a.run u w) (is_other ps run) (other ps w) is (two.alone limit u run w is) (one.alone limit u run w is)
        (λ g s. two.grows u w g s) (λ g s. one.grows u w g s) (λ k. other_same ps run w k.stands)

    data_lists : (run : List Side) (g : ℕ) → lists_of (side_at (one_data run) g) ≡ lists_of (side_at run g)
    data_lists run g = pick (λ (q : List Side). lists_of (side_at q g) ≡ lists_of (side_at run g)) (is_other ps run) (y.alone run) (x.alone run) (two.lists run g) (one.lists run g)

    abbrev branch_walk : Walk
    branch_walk = record {
      run = one_run;
      both = λ r. if_both (other ps r.first) (other ps r.second) (b.both r) (a.both r) (record { deal = r.deal; first = one_run t r.first; second = one_run r.deal r.second });
    }

    abbrev branch_data : DataWalk
    branch_data = record { alone = one_data; both = λ d. if_both (is_other ps d.first) (is_other ps d.second) (y.both d) (x.both d) (plain.both_acted one_data d) }

    pick_both : {X : Type 0} (P : X → Type 0) (p q : Bool) (v w none : X) → P v → P w → P none → P (if_both p q v w none)
    pick_both P true true v w none e f g = e
    pick_both P false false v w none e f g = f
    pick_both P true false v w none e f g = g
    pick_both P false true v w none e f g = g

    -- where both runs go
    first_goes : (p q : Bool) (r : Both) → other ps r.first ≡ p → (if_both p q (b.both r) (a.both r) (record { deal = r.deal; first = one_run t r.first; second = one_run r.deal r.second })).first ≡ one_run t r.first
    first_goes true true r e = two.first_is r ∙ sym (ap (λ (c : Bool). if c then b.run t r.first else a.run t r.first) e)
    first_goes false false r e = one.first_is r ∙ sym (ap (λ (c : Bool). if c then b.run t r.first else a.run t r.first) e)
    first_goes true false r e = refl
    first_goes false true r e = refl

    data_goes : (p q : Bool) (d : Walker) → is_other ps d.first ≡ p → (if_both p q (y.both d) (x.both d) (plain.both_acted one_data d)).first ≡ one_data d.first
    data_goes true true d e = two.first_too d ∙ sym (ap (λ (c : Bool). if c then y.alone d.first else x.alone d.first) e)
    data_goes false false d e = one.first_too d ∙ sym (ap (λ (c : Bool). if c then y.alone d.first else x.alone d.first) e)
    data_goes true false d e = refl
    data_goes false true d e = refl

    branch_grows : (r : Both) (g : ℕ) (s : Source) → (r.second g).cursors s ≤ ((branch_walk.both r).second g).cursors s
    branch_grows r g s = pick_both (λ (z : Both). (r.second g).cursors s ≤ (z.second g).cursors s) (other ps r.first) (other ps r.second) (b.both r) (a.both r) _ (two.grows_both r g s) (one.grows_both r g s) (run_grows r.deal r.second g s)

    parted : (d : Walker) (r : Both) → F d r → F (plain.both_acted one_data d) (record { deal = r.deal; first = one_run t r.first; second = one_run r.deal r.second })
    parted d r is =
        gone_on h t n start d (plain.both_acted one_data d) r (one_run t r.first) (one_run r.deal r.second) is refl
        (run_goes false t d.first r.first is.first) (run_goes true r.deal d.second r.second is.second) (data_lists d.second)

    second_known : (p q v w : Bool) (d : Walker) (r : Both) → F d r → p ≡ v → q ≡ w → Within n (if_both v w (b.both r) (a.both r) (record { deal = r.deal; first = one_run t r.first; second = one_run r.deal r.second })).second
        → Known true (if_both v w (b.both r) (a.both r) (record { deal = r.deal; first = one_run t r.first; second = one_run r.deal r.second })).deal (if_both p q (y.both d) (x.both d) (plain.both_acted one_data d)).second
        (if_both v w (b.both r) (a.both r) (record { deal = r.deal; first = one_run t r.first; second = one_run r.deal r.second })).second
    second_known true true true true d r is e f within = (two.both d r is).second.known (λ z. within)
    second_known false false false false d r is e f within = (one.both d r is).second.known (λ z. within)
    second_known true false true false d r is e f within = (parted d r is).second.known (λ z. within)
    second_known false true false true d r is e f within = (parted d r is).second.known (λ z. within)
    second_known true q false w d r is e f within = absurd cc
    second_known false q true w d r is e f within = absurd cc
    second_known true true true false d r is e f within = absurd cc
    second_known true false true true d r is e f within = absurd cc
    second_known false true false false d r is e f within = absurd cc
    second_known false false false true d r is e f within = absurd cc

    branch_follows : (d : Walker) (r : Both) → F d r → F (branch_data.both d) (branch_walk.both r)
    branch_follows d r is =
        let w : Walker → Type 0 = λ z. z.host ≡ h in
        let p : Bool = is_other ps d.first in
        let q : Bool = is_other ps d.second in
        let one_is = one.both d r is in
        let two_is = two.both d r is in
        let none_is = parted d r is in
        record {
          host = pick_both (λ (z : Walker). z.host ≡ h) p q (y.both d) (x.both d) (plain.both_acted one_data d) two_is.host one_is.host none_is.host;
          first =
              subst₂ (Goes n false t) (sym (data_goes p q d refl)) (sym (first_goes (other ps r.first) (other ps r.second) r refl)) (run_goes false t d.first r.first is.first);
          second = record {
            counts = pick_both (λ (z : Walker). (g : ℕ) (s : Source) → dealt (lists_of (side_at z.second g)) s ≡ n g s) p q (y.both d) (x.both d) (plain.both_acted one_data d) two_is.second.counts one_is.second.counts none_is.second.counts;
            known = λ within.
                let k = is.second.known (λ e. before r.second (branch_walk.both r).second (λ g s. branch_grows r g s) (within e)) in
                second_known p q (other ps r.first) (other ps r.second) d r is
                (other_same ps d.first r.first (is.first.known (λ e. never e)).stands) (other_same ps d.second r.second k.stands) (within refl);
          };
          looker = pick_both (λ (z : Both). (s : Source) (i : ℕ) → NotWith h.0 s → z.deal h.0 s i ≡ supplies (lists_of (side_at start h.0)) s i) (other ps r.first) (other ps r.second) (b.both r) (a.both r) _
              two_is.looker one_is.looker is.looker;
          keeps = pick_both (λ (z : Walker). (g : ℕ) → Keeps (lists_of (side_at start g)) (lists_of (side_at z.second g))) p q (y.both d) (x.both d) (plain.both_acted one_data d) two_is.keeps one_is.keeps none_is.keeps;
          mine = pick_both (λ (z : Walker). lists_of (side_at z.second h.0) ≡ lists_of (side_at start h.0)) p q (y.both d) (x.both d) (plain.both_acted one_data d) two_is.mine one_is.mine none_is.mine;
        }

    branch_good : Good branch_walk branch_data
    branch_good = record {
      grows = run_grows;
      grows_both = branch_grows;
      first_is = λ r. first_goes (other ps r.first) (other ps r.second) r refl;
      first_too = λ d. data_goes (is_other ps d.first) (is_other ps d.second) d refl;
      lists = data_lists;
      alone = run_goes;
      both = branch_follows;
    }

  -- ---- all steps

  abbrev M : Type 0
  M = (s : Step) × Good (walk (alone h.0) t s) (data_walk s)

  abbrev steps_in : List M → List Step
  steps_in = map {B = Step} (λ (m : M). m.0)

  abbrev layer : Step-F M → Step-F Step
  layer = map-Step M Step (λ m. m.0)

  all_good : (ms : List M) → Good (all_of (walks (alone h.0) t (steps_in ms))) (all_data (data_walks (steps_in ms)))
  all_good [] = none_good
  all_good (m ∷ ms) = one_good (walk (alone h.0) t m.0) (walks (alone h.0) t (steps_in ms)) (data_walk m.0) (data_walks (steps_in ms)) m.1 (all_good ms)

  step : (y : Step-F M) → Good (step_walk (alone h.0) t (map-Step Step Walk (walk (alone h.0) t) (layer y))) (data_step (map-Step Step DataWalk data_walk (layer y)))
  step (Step-F.Hide x) = hide_good x
  step (Step-F.Act a) = act_good a
  step (Step-F.Branch ps first other) =
      branch_good ps (all_of (walks (alone h.0) t (steps_in first))) (all_of (walks (alone h.0) t (steps_in other))) (all_data (data_walks (steps_in first))) (all_data (data_walks (steps_in other))) (all_good first) (all_good other)
  step (Step-F.Loop ps count body) =
      turns_good (λ i. record { run = λ u w. run_steps (walks (alone h.0) t (steps_in body)) u (turn_begun ps i w); both = λ r. both_steps (walks (alone h.0) t (steps_in body)) (both_begun ps i r) })
      (λ i. record { alone = λ run. all_alone (data_walks (steps_in body)) (begun ps i run); both = λ d. all_both (data_walks (steps_in body)) (plain.both_begun ps i d) })
      (λ i. turn_good ps (all_of (walks (alone h.0) t (steps_in body))) (all_data (data_walks (steps_in body))) (all_good body) i) count 0

  step_good : (s : Step) → Good (walk (alone h.0) t s) (data_walk s)
  step_good = ind-Step (λ s. Good (walk (alone h.0) t s) (data_walk s)) (λ x y is. subst (λ z. Good (walk (alone h.0) t (roll-Step z)) (data_walk (roll-Step z))) is (at_roll y))
    where
      at_roll : (y : Step-F M) → Good (walk (alone h.0) t (roll-Step (layer y))) (data_walk (roll-Step (layer y)))
      at_roll y = subst₂ Good (sym (fold-roll-Step Walk (step_walk (alone h.0) t) (layer y))) (sym (fold-roll-Step DataWalk data_step (layer y))) (step y)

  steps_good : (steps : List Step) → Good (all_of (walks (alone h.0) t steps)) (all_data (data_walks steps))
  steps_good [] = none_good
  steps_good (s ∷ steps) = one_good (walk (alone h.0) t s) (walks (alone h.0) t steps) (data_walk s) (data_walks steps) (step_good s) (steps_good steps)

  pub steps_follow : (steps : List Step) (d : Walker) (r : Both) → F d r → F (all_both (data_walks steps) d) (both_steps (walks (alone h.0) t steps) r)
  steps_follow steps d r is = (steps_good steps).both d r is

  -- the lists of the first run stay as they are
  pub first_lists : (steps : List Step) (d : Walker) (g : ℕ) → lists_of (side_at (all_both (data_walks steps) d).first g) ≡ lists_of (side_at d.first g)
  first_lists steps d g = ap (λ (run : List Side). lists_of (side_at run g)) ((steps_good steps).first_too d) ∙ (steps_good steps).lists d.first g
