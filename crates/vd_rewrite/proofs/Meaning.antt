-- What is made of each statement does what the statement does.
use Rattle.std.proofs.Common.{◌≡◌, ℕ, ◌+◌, ◌<◌, Bool, true, false, ◌&&◌, List, [], ◌∷◌, ◌++◌, length, map, slice_index, refl, sym, ap, ◌∙◌, subst, arith, rules}
use Rattle.std.specs.List.{list_all, concat}
use Rattle.std.proofs.lemmas.Bool.{and_parts}
use Rattle.std.proofs.lemmas.List.{length-append}
use Rattle.vd_base.specs.declared.ids.SlotId.{SlotId}
use Rattle.vd_base.specs.declared.ids.HostId.{HostId}
use Rattle.vd_core.specs.declared.normal.Right.{Right}
use Rattle.vd_core.specs.declared.normal.Stmt.{Stmt, NewVar, NewArray, Store, Put, Output, If, For}
use Rattle.vd_core.specs.declared.normal.Stmt.TheFolds.{the_lemmas}
use Rattle.vd_core.specs.declared.normal.Stmt.TheOpen.{Stmt-F}
use Rattle.vd_core.specs.Facts.{Sight, Seeing, is_binding, right_sees, seeing_all, meets}
use Rattle.vd_semantics.specs.ProgramMeaning.{SlotState, right_word, after_right, with_word, Effect, in_order, stmt_effect, effect}
use Rattle.vd_rewrite.specs.declared.guard.Guard.{Guard}
use Rattle.vd_rewrite.specs.Rewriting.{Made, slot, with_stmt, is_pure_right, Rewriting, all_pure, is_some, run_all, Lets}
use Rattle.vd_rewrite.proofs.Stores.{pushed}
use Rattle.vd_rewrite.proofs.Tables.{Placed, Grown, grown_none, grown_both, Known, known_later}
use Rattle.vd_rewrite.proofs.Chain.{word, state, all_wanted, Adds}
use Rattle.vd_rewrite.proofs.Agree.{Agree, More, more_none, more_both, GuardsAt, guards_later, wanted_stays}

pub effect_var : (v x : SlotId) → effect (NewVar v x) ≡ stmt_effect (Stmt-F.NewVar v x)
effect_var v x = search (rules, the_lemmas)

pub effect_array : (v : SlotId) (n : ℕ) → effect (NewArray v n) ≡ stmt_effect (Stmt-F.NewArray v n)
effect_array v n = search (rules, the_lemmas)

pub effect_store : (v x : SlotId) → effect (Store v x) ≡ stmt_effect (Stmt-F.Store v x)
effect_store v x = search (rules, the_lemmas)

pub effect_put : (v i x : SlotId) → effect (Put v i x) ≡ stmt_effect (Stmt-F.Put v i x)
effect_put v i x = search (rules, the_lemmas)

pub effect_output : (x : SlotId) (h : HostId) (offset : ℕ) → effect (Output x h offset) ≡ stmt_effect (Stmt-F.Output x h offset)
effect_output x h offset = search (rules, the_lemmas)

pub effect_if : (x : SlotId) (a b : List Stmt) (offset : ℕ) → effect (If x a b offset) ≡ stmt_effect (Stmt-F.If x (map effect a) (map effect b) offset)
effect_if x a b offset = search (rules, the_lemmas)

pub effect_for : (n : ℕ) (body : List Stmt) → effect (For n body) ≡ stmt_effect (Stmt-F.For n (map effect body))
effect_for n body = search (rules, the_lemmas)

-- numbers from n on, one after another
abbrev pub Counts : ℕ → List ℕ → Type 0
Counts n [] = Unit {0}
Counts n (x ∷ xs) = (x ≡ n) × Counts (n + 1) xs

pub counts_split : (n : ℕ) (xs ys : List ℕ) → Counts n (xs ++ ys) → Counts n xs × Counts (n + length xs) ys
counts_split n [] ys h = (tt, subst (λ z. Counts z ys) (omega arith) h)
counts_split n (x ∷ xs) ys h =
    let p = counts_split (n + 1) xs ys h.1 in
    let e : n + 1 + length xs ≡ n + length (x ∷ xs) = omega arith in
    ((h.0, p.0), subst (λ z. Counts z ys) e p.1)

-- What a Let becomes, as the rest needs it.
pub record LetState (m m' : Made) (turn : ℕ) (s0 : SlotState) (r : Right) (s : SlotState) : Type 0 where
  pub world : (state m' turn s0).world ≡ after_right r s.world
  pub arrays : (state m' turn s0).arrays ≡ (state m turn s0).arrays
  pub below : (j : ℕ) → j < m.next → word (state m' turn s0) j ≡ word (state m turn s0) j
  pub word : word (state m' turn s0) (slice_index m'.table (length m.table)) ≡ right_word r turn s

pub record Laws (hides : SlotId → Bool) (lets : Lets) (Turns : Type 0) (Fine : ℕ → Type 0) (Holds : SlotState → Type 0) (good : Stmt-F Bool → Bool) : Type 0 where
  -- Lets
  pub grown : (x : SlotId) (r : Right) (block : ℕ) (m : Made) → Placed m.table m.next → Grown m (lets x r block m) 1
  pub pure : (x : SlotId) (r : Right) (block : ℕ) (m : Made) (seen : Sight) (turn : ℕ) (s0 : SlotState) → is_pure_right r ≡ true → Placed m.table m.next → Known (length m.table) seen → right_sees r seen ≡ true
      → Adds m.next (state m turn s0) (state (lets x r block m) turn s0)
  pub gives : (x : SlotId) (r : Right) (block : ℕ) (m : Made) (seen : Sight) (turn : ℕ) (s0 s : SlotState) → Placed m.table m.next → Known (length m.table) seen → right_sees r seen ≡ true → Holds s
      → Agree m.table seen s (state m turn s0) → LetState m (lets x r block m) turn s0 r s
  -- what holds of states of the old program
  pub keeps : (x : Stmt) → meets good x ≡ true → (turn : ℕ) (s : SlotState) → Fine turn → Holds s → Holds (effect x turn s)
  pub fine : (count : ℕ) (body : List Bool) → good (Stmt-F.For count body) ≡ true → (n : ℕ) → n < count → Fine n
  pub hidden : (g : SlotId) → hides g ≡ true → Turns
  pub guard : Turns → (g : SlotId) (a b : List Bool) (offset : ℕ) → good (Stmt-F.If g a b offset) ≡ true → (s : SlotState) → Holds s → word s g.0 < 2

-- what is said of a statement
pub record Parts : Type 0 where
  pub effect : Effect
  pub run : Rewriting
  pub sees : Seeing
  pub slots : List ℕ
  pub meets : Bool

-- a pure statement under guards changes no binding in sight, and where a branch is not taken nothing that was made before
pub record Stays (m m' : Made) (seen : Sight) (gs : List Guard) (turn : ℕ) (s0 : SlotState) : Type 0 where
  pub world : (state m' turn s0).world ≡ (state m turn s0).world
  pub arrays : (state m' turn s0).arrays ≡ (state m turn s0).arrays
  pub bindings : (k : ℕ) → is_binding seen (slot k) ≡ true → word (state m' turn s0) (slice_index m.table k) ≡ word (state m turn s0) (slice_index m.table k)
  pub inactive : all_wanted (state m turn s0) gs ≡ false → (j : ℕ) → j < m.next → word (state m' turn s0) j ≡ word (state m turn s0) j

pub adds_stays : (m m' : Made) (seen : Sight) (gs : List Guard) (turn : ℕ) (s0 : SlotState) → Placed m.table m.next → Known (length m.table) seen → Adds m.next (state m turn s0) (state m' turn s0) → Stays m m' seen gs turn s0
adds_stays m m' seen gs turn s0 p known a =
    record { world = a.world; arrays = a.arrays; bindings = λ k h. a.below (slice_index m.table k) (p.below k (known.bindings k h)); inactive = λ e j lt. a.below j lt }

-- a variable's word is written where all guards are as wanted
pub store_state : (v x : SlotId) (m : Made) (turn : ℕ) (s0 : SlotState) → state (with_stmt (Store v x) m) turn s0 ≡ with_word v (word (state m turn s0) x.0) (state m turn s0)
store_state v x m turn s0 = pushed m.body (Store v x) (stmt_effect (Stmt-F.Store v x)) (effect_store v x) turn s0

module _ (Turns : Type 0) (Fine : ℕ → Type 0) (Holds : SlotState → Type 0) where
  -- under guards alone pure statements may stand
  abbrev pub Under : List Guard → Bool → Type 0
  Under gs pure = is_some gs ≡ true → Turns × (pure ≡ true)

  pub record Meaning (p : Parts) : Type 0 where
    pub grows : (gs : List Guard) (block : ℕ) (m : Made) → Placed m.table m.next → Grown m (p.run.run gs block m) (length p.slots)
    pub known : (n : ℕ) (seen : Sight) → Known n seen → Counts n p.slots → Known (n + length p.slots) (p.sees seen).after
    pub more : (seen : Sight) → More seen (p.sees seen).after
    pub stays : p.run.is_pure ≡ true → (gs : List Guard) → is_some gs ≡ true → (block : ℕ) (m : Made) (seen : Sight) (turn : ℕ) (s0 : SlotState) → Placed m.table m.next → Known (length m.table) seen → Counts (length m.table) p.slots
        → (p.sees seen).all ≡ true → GuardsAt m.table seen gs → Stays m (p.run.run gs block m) seen gs turn s0
    pub keeps : p.meets ≡ true → (turn : ℕ) (s : SlotState) → Fine turn → Holds s → Holds (p.effect turn s)
    pub means : (gs : List Guard) (block : ℕ) (m : Made) (seen : Sight) (turn : ℕ) (s0 s : SlotState) → Placed m.table m.next → Known (length m.table) seen → Counts (length m.table) p.slots
        → (p.sees seen).all ≡ true → p.meets ≡ true → Fine turn → Holds s → GuardsAt m.table seen gs → Under gs p.run.is_pure
        → all_wanted (state m turn s0) gs ≡ true → Agree m.table seen s (state m turn s0)
        → Agree (p.run.run gs block m).table (p.sees seen).after (p.effect turn s) (state (p.run.run gs block m) turn s0)

-- Statements one after another.
module _ (X : Type 0) (parts : X → Parts) (Turns : Type 0) (Fine : ℕ → Type 0) (Holds : SlotState → Type 0) where
  abbrev pub Meant : Parts → Type 0
  Meant = Meaning Turns Fine Holds

  abbrev pub P : Type 0
  P = (x : X) × Meant (parts x)

  abbrev pub things : List P → List X
  things ps = map (λ (p : P). p.0) ps

  abbrev pub effects : List X → List Effect
  effects xs = map (λ (x : X). (parts x).effect) xs

  abbrev pub runs : List X → List Rewriting
  runs xs = map (λ (x : X). (parts x).run) xs

  abbrev pub sights : List X → List Seeing
  sights xs = map (λ (x : X). (parts x).sees) xs

  abbrev pub made_slots : List X → List ℕ
  made_slots xs = concat (map (λ (x : X). (parts x).slots) xs)

  abbrev pub all_met : List X → Bool
  all_met xs = list_all (λ b. b) (map (λ (x : X). (parts x).meets) xs)

  -- the parts of a list, as one
  abbrev pub list_parts : List X → Parts
  list_parts ps = record { effect = in_order (effects ps); run = record { is_pure = all_pure (runs ps); is_changed = false; run = run_all (runs ps) }; sees = seeing_all (sights ps); slots = made_slots ps; meets = all_met ps }

  under_first : (gs : List Guard) (a b : Bool) → Under Turns Fine Holds gs (a && b) → Under Turns Fine Holds gs a
  under_first gs a b u h = let p = u h in (p.0, (and_parts a b p.1).0)

  under_rest : (gs : List Guard) (a b : Bool) → Under Turns Fine Holds gs (a && b) → Under Turns Fine Holds gs b
  under_rest gs a b u h = let p = u h in (p.0, (and_parts a b p.1).1)

  abbrev count_after : (m m1 : Made) (n : ℕ) (xs : List ℕ) → length m1.table ≡ length m.table + n → Counts (length m.table + n) xs → Counts (length m1.table) xs
  count_after m m1 n xs e h = subst (λ z. Counts z xs) (sym e) h

  abbrev known_after : (m m1 : Made) (n : ℕ) (seen : Sight) → length m1.table ≡ length m.table + n → Known (length m.table + n) seen → Known (length m1.table) seen
  known_after m m1 n seen e h = subst (λ z. Known z seen) (sym e) h

  pub all_mean : (ps : List P) → Meant (list_parts (things ps))
  all_mean [] =
      record {
        grows = λ gs block m p. grown_none m p;
        known = λ n seen known counts. known_later n (n + 0) seen known (omega arith);
        more = λ seen. more_none seen;
        stays = λ pure gs some block m seen turn s0 p known counts sees at. record { world = refl; arrays = refl; bindings = λ k h. refl; inactive = λ e j lt. refl };
        keeps = λ met turn s fine holds. holds;
        means = λ gs block m seen turn s0 s p known counts sees met fine holds at under wanted a. a;
      }
  all_mean (q ∷ ps) = both q.0 q.1 (things ps) (all_mean ps)
    where
      both : (x : X) → Meant (parts x) → (ps : List X) → Meant (list_parts ps) → Meant (list_parts (x ∷ ps))
      both x mx ps rest =
          record {
            grows = λ gs block m p.
                let m1 = (parts x).run.run gs block m in
                let one = mx.grows gs block m p in
                subst (λ n. Grown m (run_all (runs ps) gs block m1) n) (sym (length-append (parts x).slots (made_slots ps)))
                (grown_both m m1 (run_all (runs ps) gs block m1) (length (parts x).slots) (length (made_slots ps)) one (rest.grows gs block m1 one.placed));
            known = λ n seen known counts.
                let c = counts_split n (parts x).slots (made_slots ps) counts in
                let e : n + length (parts x).slots + length (made_slots ps) ≡ n + length ((parts x).slots ++ made_slots ps) = omega (arith, length-append (parts x).slots (made_slots ps)) in
                subst (λ z. Known z (seeing_all (sights (x ∷ ps)) seen).after) e (rest.known (n + length (parts x).slots) ((parts x).sees seen).after (mx.known n seen known c.0) c.1);
            more = λ seen. more_both seen ((parts x).sees seen).after (seeing_all (sights ps) ((parts x).sees seen).after).after (mx.more seen) (rest.more ((parts x).sees seen).after);
            stays = λ pure gs some block m seen turn s0 p known counts sees at.
                let m1 = (parts x).run.run gs block m in
                let m2 = run_all (runs ps) gs block m1 in
                let one = mx.grows gs block m p in
                let seen1 = ((parts x).sees seen).after in
                let c = counts_split (length m.table) (parts x).slots (made_slots ps) counts in
                let pures = and_parts (parts x).run.is_pure (all_pure (runs ps)) pure in
                let see = and_parts ((parts x).sees seen).all (seeing_all (sights ps) seen1).all sees in
                let first = mx.stays pures.0 gs some block m seen turn s0 p known c.0 see.0 at in
                let known1 = known_after m m1 (length (parts x).slots) seen1 one.size (mx.known (length m.table) seen known c.0) in
                let at1 = guards_later m.table m1.table seen seen1 gs known one.kept (mx.more seen) at in
                let second = rest.stays pures.1 gs some block m1 seen1 turn s0 one.placed known1 (count_after m m1 (length (parts x).slots) (made_slots ps) one.size c.1) see.1 at1 in
                let same = wanted_stays m.table seen (state m turn s0) (state m1 turn s0) gs at first.bindings in
                let le = one.next in
                record {
                  world = second.world ∙ first.world;
                  arrays = second.arrays ∙ first.arrays;
                  bindings = λ k h.
                      ap (word (state m2 turn s0)) (sym (one.kept k (known.bindings k h))) ∙ second.bindings k ((mx.more seen).bindings k h) ∙ ap (word (state m1 turn s0)) (one.kept k (known.bindings k h)) ∙ first.bindings k h;
                  inactive = λ e j lt. second.inactive (same ∙ e) j (omega arith) ∙ first.inactive e j lt;
                };
            keeps = λ met turn s fine holds.
                let both = and_parts (parts x).meets (all_met ps) met in
                rest.keeps both.1 turn ((parts x).effect turn s) fine (mx.keeps both.0 turn s fine holds);
            means = λ gs block m seen turn s0 s p known counts sees met fine holds at under wants a.
                let m1 = (parts x).run.run gs block m in
                let one = mx.grows gs block m p in
                let seen1 = ((parts x).sees seen).after in
                let c = counts_split (length m.table) (parts x).slots (made_slots ps) counts in
                let see = and_parts ((parts x).sees seen).all (seeing_all (sights ps) seen1).all sees in
                let both = and_parts (parts x).meets (all_met ps) met in
                let known1 = known_after m m1 (length (parts x).slots) seen1 one.size (mx.known (length m.table) seen known c.0) in
                let at1 = guards_later m.table m1.table seen seen1 gs known one.kept (mx.more seen) at in
                let u = under_first gs (parts x).run.is_pure (all_pure (runs ps)) under in
                let u' = under_rest gs (parts x).run.is_pure (all_pure (runs ps)) under in
                let first = mx.means gs block m seen turn s0 s p known c.0 see.0 both.0 fine holds at u wants a in
                rest.means gs block m1 seen1 turn s0 ((parts x).effect turn s) one.placed known1 (count_after m m1 (length (parts x).slots) (made_slots ps) one.size c.1) see.1 both.1 fine (mx.keeps both.0 turn s fine holds) at1 u'
                (still gs m m1 seen turn s0 p known c.0 see.0 at u block wants refl) first;
          }
        where
          -- guards stay as they are
          still : (gs : List Guard) (m m1 : Made) (seen : Sight) (turn : ℕ) (s0 : SlotState) → Placed m.table m.next → Known (length m.table) seen → Counts (length m.table) (parts x).slots → ((parts x).sees seen).all ≡ true → GuardsAt m.table seen gs
              → Under Turns Fine Holds gs (parts x).run.is_pure → (block : ℕ) → all_wanted (state m turn s0) gs ≡ true → m1 ≡ (parts x).run.run gs block m → all_wanted (state m1 turn s0) gs ≡ true
          still [] m m1 seen turn s0 p known c see at u block wants is = refl
          still (g ∷ gs) m m1 seen turn s0 p known c see at u block wants is =
              let st = mx.stays (u refl).1 (g ∷ gs) refl block m seen turn s0 p known c see at in
              ap (λ (z : Made). all_wanted (state z turn s0) (g ∷ gs)) is ∙ wanted_stays m.table seen (state m turn s0) (state ((parts x).run.run (g ∷ gs) block m) turn s0) (g ∷ gs) at st.bindings ∙ wants
