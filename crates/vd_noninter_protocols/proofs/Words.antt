-- Two runs that agree on what a host may read, and on what is declassified to it, bring it the same clear words.
use Rattle.std.proofs.Common.{◌≡◌, ℕ, zero, suc, ◌*◌, Bool, true, false, true≢false, ◌&&◌, ◌||◌, not, List, [], ◌∷◌, ◌++◌, append_assoc, map, Option, Some, None, refl, sym, ap, ◌∙◌, subst, if◌then◌else◌, nat_eq, slice_get, slice_index}
use Rattle.std.specs.Prelude.{filter, is_some}
use Rattle.std.specs.List.{list_all, list_any, flat_map}
use Rattle.std.specs.Option.{option_map_or}
use Rattle.std.proofs.lemmas.Bool.{and_parts, and_left, or_parts, or_from, eqb-true, eq-eqb}
use Rattle.std.proofs.lemmas.List.Folds.{list_all-append}
use Rattle.vd_base.specs.declared.ids.SlotId.{SlotId}
use Rattle.vd_base.specs.declared.ids.HostId.{HostId}
use Rattle.vd_base.specs.HostSets.{same_host}
use Rattle.vd_base.specs.declared.protocols.Proto.{Proto}
use Rattle.vd_base.specs.Holders.{has_clear, is_holder, proto_in, same_protocol}
use Rattle.vd_core.specs.declared.normal.Right.{Right}
use Rattle.vd_core.specs.declared.normal.Right.TheVariants.{Lit, Turn, Copy, Apply, Input, Declassify, Endorse, Load, Get}
use Rattle.vd_core.specs.declared.normal.Stmt.{Stmt, roll-Stmt, map-Stmt, ind-Stmt}
use Rattle.vd_core.specs.declared.normal.Stmt.TheOpen.{Stmt-F}
use Rattle.vd_core.specs.declared.normal.Stmt.TheFolds.{fold-roll-Stmt}
use Rattle.vd_constraints.specs.declared.labels.Labels.{Labels}
use Rattle.vd_semantics.specs.ProgramMeaning.{SlotState, Effect, word_at, array_at, in_order, stmt_effect, effect}
use Rattle.vd_semantics.specs.Turns.{turns}
use Rattle.vd_formula.proofs.Front.{if_so}
use Rattle.vd_space.specs.declared.problem.Problem.{Problem}
use Rattle.vd_space.specs.declared.problem.Guard.{Guard}
use Rattle.vd_space.specs.Reading.{Read, all_parts, all_named, all_told, named_by, indexes_of, index_of, guard_of, read_step}
use Rattle.vd_space.specs.Validity.{protocol, holds_at, all_hosts, may_read, move_to_host, if_decided, is_told, takes_part, guard_told, index_test, index_told}
use Rattle.vd_noninter.specs.Flowing.{Knowledge, only_with, right_flows, Flow, all_flow, all_hide, flow_step, flow}
use Rattle.vd_noninter.specs.Agreement.{Agree}
use Rattle.vd_noninter.specs.Watching.{Watched, Words, run_of as watched_run, given_by, words_in_order, taken, right_downgraded, stmt_downgraded, Showing, watched_step, watched}
use Rattle.vd_noninter.specs.Reading.{right_names, stmt_names, names}
use Rattle.vd_noninter.specs.NoninterLawsDependence.{Reach, right_closes, Closing, all_close, stmt_closes, closes}
use Rattle.vd_noninter.proofs.Front.{Seen, block, loop, seen_loop, only, right_in_step, taps_of, Keeps, stmt_keeps, body_keeps, run_is, hearing, narrowed, and_of, false_if}
use Rattle.vd_noninter_protocols.proofs.Clear.{clear_holds}
use Rattle.vd_noninter_protocols.proofs.Places.{part_is, stands_is}
use Rattle.vd_noninter_protocols.specs.Hearing.{Heard, run_of, read_of, heard_in_order, heard_in_turns, word_if, stands, comes, comes_alone, index_comes, right_heard, is_part, heard_step, heard}

both_words : (a a' b b' : List ℕ) → a ≡ a' → b ≡ b' → a ++ b ≡ a' ++ b'
both_words a a' b b' e f = rw (e, f) refl

word_if_same : (test : Bool) (word word' : ℕ) → (test ≡ true → word ≡ word') → word_if test word ≡ word_if test word'
word_if_same true word word' same = ap (λ z. z ∷ []) (same refl)
word_if_same false word word' same = refl

no_word : (test : Bool) (word : ℕ) → test ≡ false → word_if test word ≡ []
no_word test word is = rw is refl

-- ---- what is heard is done
module _ (protocols : List Proto) (h : HostId) (l : Labels) where
  abbrev R : Type 0
  R = (s : Stmt) × ((heard protocols h l s).run ≡ effect s)

  abbrev named : List R → List Stmt
  named = map {B = Stmt} (λ (m : R). m.0)

  abbrev run_layer : Stmt-F R → Stmt-F Stmt
  run_layer = map-Stmt R Stmt (λ m. m.0)

  runs_are : (ms : List R) → map run_of (map (heard protocols h l) (named ms)) ≡ map effect (named ms)
  runs_are [] = refl
  runs_are (m ∷ ms) = rw (m.1, runs_are ms) refl

  run_step : (y : Stmt-F R) → (heard_step protocols h l (map-Stmt Stmt Heard (heard protocols h l) (run_layer y))).run ≡ stmt_effect (map-Stmt Stmt Effect effect (run_layer y))
  run_step (Stmt-F.Let x r) = refl
  run_step (Stmt-F.NewVar v y) = refl
  run_step (Stmt-F.NewArray v size) = refl
  run_step (Stmt-F.Store v y) = refl
  run_step (Stmt-F.Put v i y) = refl
  run_step (Stmt-F.Output y host offset) = refl
  run_step (Stmt-F.If g a b offset) = rw (runs_are a, runs_are b) refl
  run_step (Stmt-F.For count body) = rw (runs_are body) refl

  heard_runs : (s : Stmt) → (heard protocols h l s).run ≡ effect s
  heard_runs = ind-Stmt (λ s. (heard protocols h l s).run ≡ effect s) (λ x y is. subst (λ z. (heard protocols h l (roll-Stmt z)).run ≡ effect (roll-Stmt z)) is (at_roll y))
    where
      at_roll : (y : Stmt-F R) → (heard protocols h l (roll-Stmt (run_layer y))).run ≡ effect (roll-Stmt (run_layer y))
      at_roll y = ap run_of (fold-roll-Stmt Heard (heard_step protocols h l) (run_layer y)) ∙ run_step y ∙ sym (fold-roll-Stmt Effect stmt_effect (run_layer y))

module _ (problem : Problem) (list : List ℕ) (protocols : List Proto) (placed : protocols ≡ map (protocol problem) list) (h : HostId) (l : Labels) (reads V known : ℕ → Bool) (test : ℕ → ℕ → Bool) (r : Reach) (clear_read : (x : SlotId) → stands protocols h (has_clear h) x ≡ true → reads x.0 ≡ true) (told_read : (x : SlotId) → may_read problem h x.0 ≡ true → reads x.0 ≡ true) (told_all : (test : HostId → Bool) → list_all test (all_hosts problem) ≡ true → test h ≡ true) where
  abbrev k : Knowledge
  k = hearing (λ x. reads x && V x) test known h.0

  abbrev pub K : Knowledge
  K = narrowed (λ x. reads x && V x) test known h.0 r

  abbrev silent : Showing
  silent s = []

  abbrev w : Stmt → Watched
  w = watched (taps_of K silent)

  abbrev hs : Stmt → Heard
  hs = heard protocols h l

  abbrev guards_read : List SlotId → Bool
  guards_read = list_all (λ g. reads g.0)

  abbrev holds : SlotId → Bool
  holds = stands protocols h (λ p. is_holder p h)

  abbrev coming : SlotId → SlotId → Bool
  coming = comes protocols h

  -- runs that agree, and tell the same, bring the same
  abbrev Alike : Words → Words → Type 0
  Alike told words = (turn : ℕ) (s t : SlotState) (rest rest' : List ℕ) → Agree K s t → told turn s ++ rest ≡ told turn t ++ rest' → words turn s ≡ words turn t

  -- ---- which slots are kept
  kept_of : (x : ℕ) → reads x ≡ true → V x ≡ true → r.slots x ≡ true → K.kept x ≡ true
  kept_of x a b c = and_of (reads x && V x) (r.slots x) (and_of (reads x) (V x) a b) c

  -- a first slot: what is read of a slot, or is made by a declassification
  asked : (told : Bool) (x y : ℕ) → only_with (told && reads x) (r.slots y) ≡ true → told ≡ true → reads x ≡ true → r.slots y ≡ true
  asked told x y closed is read = only (told && reads x) (r.slots y) closed (and_of told (reads x) is read)

  -- from a slot that is read to the one that it is made of
  made_of : (told : Bool) (x y : ℕ) → only_with (k.kept x) (k.kept y) ≡ true → only_with (told && reads x) (r.slots y) ≡ true → told ≡ true → V x ≡ true → reads x ≡ true → K.kept y ≡ true
  made_of told x y flows closed is seen read =
      let p = and_parts (reads y) (V y) (only (k.kept x) (k.kept y) flows (and_of (reads x) (V x) read seen)) in
      kept_of y p.0 p.1 (asked told x y closed is read)

  comes_read : (y x : SlotId) → coming y x ≡ true → reads x.0 ≡ true
  comes_read y x is = clear_read x (and_parts (stands protocols h (has_clear h) x) (not (same_protocol (proto_in protocols y.0) (proto_in protocols x.0))) is).0

  read_if_told : (x : SlotId) → is_told problem list h x ≡ true → reads x.0 ≡ true
  read_if_told x is = told_read x (and_parts (may_read problem h x.0) (if_decided list x (λ q. is_some (move_to_host problem h q))) is).0

  -- an index of an array that is kept at the host
  index_read : (v i : SlotId) (weight : ℕ) → index_told problem list (index_of weight v i) ≡ true → index_comes protocols h v i ≡ true → reads i.0 ≡ true
  index_read v i weight told is = by (slice_get list v.0) told (sym (stands_is problem list protocols placed h (λ p. is_holder p h) v) ∙ (and_parts (holds v) (comes_alone protocols h i) is).0)
    where
      by : (o : Option ℕ) → option_map_or (λ q. list_all (index_test problem list (index_of weight v i) q) (all_hosts problem)) o true ≡ true
          → option_map_or (λ q. is_holder (protocol problem q) h) o false ≡ true → reads i.0 ≡ true
      by None told here = absurd (true≢false (sym here))
      by (Some q) told here = read_if_told i (if_so (holds_at problem h q) (is_told problem list h i) (told_all (index_test problem list (index_of weight v i) q) told) here)

  -- a guard of branches in which the host takes part
  guard_read : (g : SlotId) (a b : List Heard) (weight : ℕ) → guard_told problem list (guard_of g weight (map read_of a ++ map read_of b)) ≡ true → is_part protocols h g a b ≡ true → reads g.0 ≡ true
  guard_read g a b weight told is =
      let guard = guard_of g weight (map read_of a ++ map read_of b) in
      read_if_told g (if_so (takes_part problem list guard h) (is_told problem list h g) (told_all (λ j. not (takes_part problem list guard j) || is_told problem list j g) told) (sym (part_is problem list protocols placed h g a b weight) ∙ is))

  -- ---- right sides
  filtered_same : (s t : SlotState) (c : Bool) (test : SlotId → Bool) (ys : List SlotId) → Agree K s t → (c ≡ true → list_all (λ y. K.kept y.0) ys ≡ true)
      → map (word_at s) (filter (λ y. c && test y) ys) ≡ map (word_at t) (filter (λ y. c && test y) ys)
  filtered_same s t c test [] a all = refl
  filtered_same s t c test (y ∷ ys) a all =
      by (c && test y) (λ is. (head (and_parts c (test y) is).0).0) (filtered_same s t c test ys a (λ is. (head is).1))
    where
      head : c ≡ true → (K.kept y.0 ≡ true) × (list_all (λ z. K.kept z.0) ys ≡ true)
      head is = and_parts (K.kept y.0) (list_all (λ z. K.kept z.0) ys) (all is)

      by : (b : Bool) → (b ≡ true → K.kept y.0 ≡ true) → map (word_at s) (filter (λ z. c && test z) ys) ≡ map (word_at t) (filter (λ z. c && test z) ys)
          → map (word_at s) (if b then y ∷ filter (λ z. c && test z) ys else filter (λ z. c && test z) ys) ≡ map (word_at t) (if b then y ∷ filter (λ z. c && test z) ys else filter (λ z. c && test z) ys)
      by true kept more = rw (a.words y.0 (kept refl), more) refl
      by false kept more = more

  all_made_of : (told : Bool) (x : ℕ) (ys : List SlotId) → only_with (k.kept x) (list_all (λ y. k.kept y.0) ys) ≡ true → only_with (told && reads x) (list_all (λ y. r.slots y.0) ys) ≡ true
      → told ≡ true → V x ≡ true → reads x ≡ true → list_all (λ y. K.kept y.0) ys ≡ true
  all_made_of told x ys flows closed is seen read =
      both ys (only (k.kept x) (list_all (λ y. k.kept y.0) ys) flows (and_of (reads x) (V x) read seen)) (only (told && reads x) (list_all (λ y. r.slots y.0) ys) closed (and_of told (reads x) is read))
    where
      both : (zs : List SlotId) → list_all (λ y. k.kept y.0) zs ≡ true → list_all (λ y. r.slots y.0) zs ≡ true → list_all (λ y. K.kept y.0) zs ≡ true
      both [] first second = refl
      both (z ∷ zs) first second =
          let a = and_parts (k.kept z.0) (list_all (λ y. k.kept y.0) zs) first in
          let b = and_parts (r.slots z.0) (list_all (λ y. r.slots y.0) zs) second in
          and_of (K.kept z.0) (list_all (λ y. K.kept y.0) zs) (and_of (k.kept z.0) (r.slots z.0) a.0 b.0) (both zs a.1 b.1)

  -- what is asked of a right side
  record RightAsked (x : SlotId) (right : Right) (around told : Bool) (weight : ℕ) : Type 0 where
    seen : V x.0 ≡ true
    sees : right_names V right ≡ true
    flows : right_flows k x right ≡ true
    narrow : right_flows K x right ≡ true
    closed : right_closes reads r around told x right ≡ true
    guarded : told ≡ true
    indexes : list_all (index_told problem list) (indexes_of weight right) ≡ true

  right_alike : (x : SlotId) (right : Right) (around told : Bool) (weight : ℕ) → RightAsked x right around told weight
      → Alike (λ turn s. right_downgraded K.given x right s) (λ turn s. right_heard protocols h x right s)
  right_alike x (Lit n) around told weight is turn s t rest rest' a e = refl
  right_alike x Turn around told weight is turn s t rest rest' a e = refl
  right_alike x (Copy y) around told weight is turn s t rest rest' a e =
      let parts = and_parts (only_with (r.slots x.0) (around && r.slots y.0)) (only_with (told && reads x.0) (r.slots y.0)) is.closed in
      word_if_same (coming y x) (word_at s y) (word_at t y) (λ comes_here. a.words y.0 (made_of told x.0 y.0 is.flows parts.1 is.guarded is.seen (comes_read y x comes_here)))
  right_alike x (Apply op ys) around told weight is turn s t rest rest' a e =
      let all = list_all (λ y. r.slots y.0) ys in
      let parts = and_parts (only_with (r.slots x.0) (around && all)) (only_with (told && reads x.0) all) is.closed in
      filtered_same s t (stands protocols h (has_clear h) x) (λ y. not (same_protocol (proto_in protocols y.0) (proto_in protocols x.0))) ys a
      (λ clear. all_made_of told x.0 ys is.flows parts.1 is.guarded is.seen (clear_read x clear))
  right_alike x (Input host) around told weight is turn s t rest rest' a e = refl
  right_alike x (Declassify y to) around told weight is turn s t rest rest' a e =
      let parts = and_parts (only_with (r.slots x.0) around) (only_with (told && reads x.0) (r.slots x.0)) is.closed in
      let step = right_in_step K x (Declassify y to) turn s t rest rest' a is.narrow e in
      word_if_same (coming y x) (word_at s y) (word_at t y)
      (λ comes_here. let read = comes_read y x comes_here in step.same (kept_of x.0 read is.seen (asked told x.0 x.0 parts.1 is.guarded read)))
  right_alike x (Endorse y to) around told weight is turn s t rest rest' a e =
      let parts = and_parts (only_with (r.slots x.0) (around && r.slots y.0)) (only_with (told && reads x.0) (r.slots y.0)) is.closed in
      let flows = (and_parts (only_with (k.kept x.0) (k.kept y.0)) true is.flows).0 in
      word_if_same (coming y x) (word_at s y) (word_at t y) (λ comes_here. a.words y.0 (made_of told x.0 y.0 flows parts.1 is.guarded is.seen (comes_read y x comes_here)))
  right_alike x (Load v) around told weight is turn s t rest rest' a e =
      let parts = and_parts (only_with (r.slots x.0) (around && r.slots v.0)) (only_with (told && reads x.0) (r.slots x.0)) is.closed in
      let step = right_in_step K x (Load v) turn s t rest rest' a is.narrow e in
      word_if_same (coming v x) (word_at s v) (word_at t v)
      (λ comes_here. let read = comes_read v x comes_here in step.same (kept_of x.0 read is.seen (asked told x.0 x.0 parts.1 is.guarded read)))
  right_alike x (Get v i) around told weight is turn s t rest rest' a e =
      let parts = and_parts (only_with (r.slots x.0) (around && (r.slots v.0 && r.slots i.0))) (only_with (told && reads x.0) (r.slots x.0) && only_with (told && reads i.0) (r.slots i.0)) is.closed in
      let firsts = and_parts (only_with (told && reads x.0) (r.slots x.0)) (only_with (told && reads i.0) (r.slots i.0)) parts.1 in
      let step = right_in_step K x (Get v i) turn s t rest rest' a is.narrow e in
      let index = index_comes protocols h v i in
      both_words (word_if index (word_at s i)) (word_if index (word_at t i))
      (word_if (coming v x) (slice_index (array_at s v) (word_at s i))) (word_if (coming v x) (slice_index (array_at t v) (word_at t i)))
      (word_if_same index (word_at s i) (word_at t i) (index_same is.indexes firsts.1 is.sees))
      (word_if_same (coming v x) (slice_index (array_at s v) (word_at s i)) (slice_index (array_at t v) (word_at t i))
      (λ comes_here. let read = comes_read v x comes_here in step.same (kept_of x.0 read is.seen (asked told x.0 x.0 firsts.0 is.guarded read))))
    where
      index_same : (index_told problem list (index_of weight v i) && true) ≡ true → only_with (told && reads i.0) (r.slots i.0) ≡ true → (V v.0 && V i.0) ≡ true → index_comes protocols h v i ≡ true → word_at s i ≡ word_at t i
      index_same tells first seen comes_here =
          let read = index_read v i weight (and_parts (index_told problem list (index_of weight v i)) true tells).0 comes_here in
          a.words i.0 (kept_of i.0 read (and_parts (V v.0) (V i.0) seen).1 (asked told i.0 i.0 first is.guarded read))

  -- ---- statements
  record Asked (named : Bool) (f narrow : Flow) (closing : Closing) (read : Read) (guards : List SlotId) (weight : ℕ) : Type 0 where
    sees : named ≡ true
    flows : f.flows ≡ true
    narrow_flows : narrow.flows ≡ true
    closed : closing guards ≡ true
    guards_are_read : guards_read guards ≡ true
    guards_told : list_all (guard_told problem list) (read.parts weight).guards ≡ true
    indexes_told : list_all (index_told problem list) (read.parts weight).indexes ≡ true

  -- the host is told nothing, and nothing that is named is kept at it
  record IsApart (read : Read) : Type 0 where
    told : list_any (same_host h) read.told ≡ false
    named : list_any holds read.named ≡ false

  record Hears (named : Bool) (f narrow : Flow) (closing : Closing) (does : Watched) (hears : Heard) : Type 0 where
    quiet : IsApart hears.read → (turn : ℕ) (s : SlotState) → hears.words turn s ≡ []
    alike : (guards : List SlotId) (weight : ℕ) → Asked named f narrow closing hears.read guards weight → Alike does.given hears.words

  abbrev block_flow : List Flow → Flow
  block_flow fs = record { flows = all_flow fs; hides = all_hide fs }

  abbrev block_read : List Heard → Read
  block_read hears = record { parts = all_parts (map read_of hears); named = all_named (map read_of hears); told = all_told (map read_of hears) }

  abbrev block_heard : List Heard → Heard
  block_heard hears = record { run = in_order (map run_of hears); words = heard_in_order hears; read = block_read hears }

  abbrev all_true : List Bool → Bool
  all_true = list_all (λ b. b)

  none_hear : Hears true (block_flow []) (block_flow []) (all_close []) (block K []) (block_heard [])
  none_hear = record { quiet = λ apart turn s. refl; alike = λ guards weight is turn s t rest rest' a e. refl }

  any_both : {X : Type 0} (test : X → Bool) (xs ys : List X) → list_any test (xs ++ ys) ≡ false → (list_any test xs ≡ false) × (list_any test ys ≡ false)
  any_both test [] ys none = (refl, none)
  any_both test (x ∷ xs) ys none =
      let parts = or_parts (test x) (list_any test (xs ++ ys)) none in
      let more = any_both test xs ys parts.1 in
      (rw (parts.0, more.0) refl, more.1)

  all_both : {X : Type 0} (test : X → Bool) (xs ys : List X) → list_all test (xs ++ ys) ≡ true → (list_all test xs ≡ true) × (list_all test ys ≡ true)
  all_both test xs ys all = and_parts (list_all test xs) (list_all test ys) (sym (list_all-append test xs ys) ∙ all)

  -- one run after another
  then_alike : (one two : Watched) (first second : Words) (turn turn' : ℕ) (s t : SlotState) (rest rest' : List ℕ) → Seen K one → Alike one.given first → Alike two.given second → Agree K s t
      → (one.given turn s ++ two.given turn' (one.run turn s)) ++ rest ≡ (one.given turn t ++ two.given turn' (one.run turn t)) ++ rest'
      → first turn s ++ second turn' (one.run turn s) ≡ first turn t ++ second turn' (one.run turn t)
  then_alike one two first second turn turn' s t rest rest' seen here later a e =
      let left = two.given turn' (one.run turn s) ++ rest in
      let left' = two.given turn' (one.run turn t) ++ rest' in
      let e' : one.given turn s ++ left ≡ one.given turn t ++ left' =
      sym (append_assoc (one.given turn s) (two.given turn' (one.run turn s)) rest) ∙ e ∙ append_assoc (one.given turn t) (two.given turn' (one.run turn t)) rest'
      in
      let step = seen turn s t left left' a e' in
      both_words (first turn s) (first turn t) (second turn' (one.run turn s)) (second turn' (one.run turn t)) (here turn s t left left' a e') (later turn' (one.run turn s) (one.run turn t) rest rest' step.agree step.rest)

  more_hear : (b : Bool) (bs : List Bool) (f : Flow) (fs : List Flow) (n : Flow) (ns : List Flow) (c : Closing) (cs : List Closing) (one : Watched) (more : List Watched) (hears : Heard) (hear_more : List Heard)
      → Keeps K silent n one → hears.run ≡ one.run → Hears b f n c one hears → Hears (all_true bs) (block_flow fs) (block_flow ns) (all_close cs) (block K more) (block_heard hear_more)
      → Hears (all_true (b ∷ bs)) (block_flow (f ∷ fs)) (block_flow (n ∷ ns)) (all_close (c ∷ cs)) (block K (one ∷ more)) (block_heard (hears ∷ hear_more))
  more_hear b bs f fs n ns c cs one more hears hear_more keeps runs first rest_hears = record {
    quiet = λ apart turn s.
        let told = any_both (same_host h) hears.read.told (all_told (map read_of hear_more)) apart.told in
        let named = any_both holds hears.read.named (all_named (map read_of hear_more)) apart.named in
        rw (first.quiet (record { told = told.0; named = named.0 }) turn s, rest_hears.quiet (record { told = told.1; named = named.1 }) turn (hears.run turn s)) refl;
    alike = λ guards weight is turn s t rest rest' a e.
        let names_ = and_parts b (all_true bs) is.sees in
        let flows_ = and_parts f.flows (all_flow fs) is.flows in
        let narrow_ = and_parts n.flows (all_flow ns) is.narrow_flows in
        let closed_ = and_parts (c guards) (all_close cs guards) is.closed in
        let guards_ = all_both (guard_told problem list) (hears.read.parts weight).guards (all_parts (map read_of hear_more) weight).guards is.guards_told in
        let indexes_ = all_both (index_told problem list) (hears.read.parts weight).indexes (all_parts (map read_of hear_more) weight).indexes is.indexes_told in
        let here = first.alike guards weight (record { sees = names_.0; flows = flows_.0; narrow_flows = narrow_.0; closed = closed_.0; guards_are_read = is.guards_are_read; guards_told = guards_.0; indexes_told = indexes_.0 }) in
        let later = rest_hears.alike guards weight (record { sees = names_.1; flows = flows_.1; narrow_flows = narrow_.1; closed = closed_.1; guards_are_read = is.guards_are_read; guards_told = guards_.1; indexes_told = indexes_.1 }) in
        subst (λ (run : Effect). hears.words turn s ++ heard_in_order hear_more turn (run turn s) ≡ hears.words turn t ++ heard_in_order hear_more turn (run turn t)) (sym runs)
        (then_alike one (block K more) hears.words (heard_in_order hear_more) turn turn s t rest rest' (keeps.flows narrow_.0) here later a e);
  }

  loop_quiet : (n : ℕ) (hears : List Heard) → ((turn : ℕ) (s : SlotState) → heard_in_order hears turn s ≡ []) → (s : SlotState) → heard_in_turns n hears s ≡ []
  loop_quiet zero hears quiet s = refl
  loop_quiet (suc n) hears quiet s = rw (loop_quiet n hears quiet s, quiet n (turns n (in_order (map run_of hears)) s)) refl

  loop_alike : (n : ℕ) (does : List Watched) (hears : List Heard) → in_order (map run_of hears) ≡ in_order (map watched_run does) → Seen K (block K does) → Alike (block K does).given (heard_in_order hears)
      → Alike (loop K n does).given (λ turn s. heard_in_turns n hears s)
  loop_alike zero does hears runs seen each turn s t rest rest' a e = refl
  loop_alike (suc n) does hears runs seen each turn s t rest rest' a e =
      subst (λ (run : Effect). heard_in_turns n hears s ++ heard_in_order hears n (turns n run s) ≡ heard_in_turns n hears t ++ heard_in_order hears n (turns n run t)) (sym runs)
      (then_alike (loop K n does) (block K does) (λ turn s. heard_in_turns n hears s) (heard_in_order hears) turn n s t rest rest' (seen_loop K n does seen) (loop_alike n does hears runs seen each) each a e)

  -- ---- branches
  none_in_both : {Y : Type 0} (test : Y → Bool) (us vs : List Y) → list_any test us ≡ false → list_any test vs ≡ false → list_any test (us ++ vs) ≡ false
  none_in_both test [] vs a b = b
  none_in_both test (u ∷ us) vs a b = let parts = or_parts (test u) (list_any test us) a in rw (parts.0, none_in_both test us vs parts.1 b) refl

  split_any : {X Y : Type 0} (test : Y → Bool) (f : X → List Y) (xs ys : List X) → list_any test (flat_map f (xs ++ ys)) ≡ false → (list_any test (flat_map f xs) ≡ false) × (list_any test (flat_map f ys) ≡ false)
  split_any test f [] ys none = (refl, none)
  split_any test f (x ∷ xs) ys none =
      let parts = any_both test (f x) (flat_map f (xs ++ ys)) none in
      let more = split_any test f xs ys parts.1 in
      (none_in_both test (f x) (flat_map f xs) parts.0 more.0, more.1)

  join_any : {X Y : Type 0} (test : Y → Bool) (f : X → List Y) (xs ys : List X) → list_any test (flat_map f xs) ≡ false → list_any test (flat_map f ys) ≡ false → list_any test (flat_map f (xs ++ ys)) ≡ false
  join_any test f [] ys a b = b
  join_any test f (x ∷ xs) ys a b =
      let parts = any_both test (f x) (flat_map f xs) a in
      none_in_both test (f x) (flat_map f (xs ++ ys)) parts.0 (join_any test f xs ys parts.1 b)

  module _ (g : SlotId) (offset : ℕ) (as' bs : List Bool) (f f' n n' : List Flow) (c c' : List Closing) (does does' : List Watched) (hears hears' : List Heard) (first : Hears (all_true as') (block_flow f) (block_flow n) (all_close c) (block K does) (block_heard hears)) (second : Hears (all_true bs) (block_flow f') (block_flow n') (all_close c') (block K does') (block_heard hears')) where
    abbrev part : Bool
    part = is_part protocols h g hears hears'

    -- where the host takes no part, both branches bring it nothing
    no_part : part ≡ false → IsApart (block_read hears) × IsApart (block_read hears')
    no_part is =
        let both = or_parts (list_any (same_host h) (all_told (map read_of hears ++ map read_of hears'))) (list_any holds (all_named (map read_of hears ++ map read_of hears'))) is in
        let told = split_any (same_host h) (λ (read : Read). read.told) (map read_of hears) (map read_of hears') both.0 in
        let named = split_any holds (λ (read : Read). read.named) (map read_of hears) (map read_of hears') both.1 in
        (record { told = told.0; named = named.0 }, record { told = told.1; named = named.1 })

    taken_quiet : IsApart (block_read hears) → IsApart (block_read hears') → (turn : ℕ) (s : SlotState) → heard_in_order (taken g hears hears' s) turn s ≡ []
    taken_quiet one two turn s = by (nat_eq (word_at s g) 0)
      where
        by : (b : Bool) → heard_in_order (if b then hears' else hears) turn s ≡ []
        by true = second.quiet two turn s
        by false = first.quiet one turn s

    abbrev if_words : Words
    if_words turn s = word_if (part && comes_alone protocols h g) (word_at s g) ++ heard_in_order (taken g hears hears' s) turn s

    silent_words : part ≡ false → (turn : ℕ) (s : SlotState) → if_words turn s ≡ []
    silent_words is turn s =
        let apart = no_part is in
        both_words (word_if (part && comes_alone protocols h g) (word_at s g)) [] (heard_in_order (taken g hears hears' s) turn s) [] (no_word (part && comes_alone protocols h g) (word_at s g) (and_left part (comes_alone protocols h g) is)) (taken_quiet apart.0 apart.1 turn s)

    if_quiet : IsApart (read_step l (Stmt-F.If g (map read_of hears) (map read_of hears') offset)) → (turn : ℕ) (s : SlotState) → if_words turn s ≡ []
    if_quiet apart turn s = silent_words none turn s
      where
        told : list_any (same_host h) (all_told (map read_of hears ++ map read_of hears')) ≡ false
        told =
            let parts = any_both (same_host h) (all_told (map read_of hears)) (all_told (map read_of hears')) apart.told in
            join_any (same_host h) (λ (read : Read). read.told) (map read_of hears) (map read_of hears') parts.0 parts.1

        named : list_any holds (all_named (map read_of hears ++ map read_of hears')) ≡ false
        named =
            let parts = any_both holds (g ∷ all_named (map read_of hears)) (all_named (map read_of hears')) apart.named in
            join_any holds (λ (read : Read). read.named) (map read_of hears) (map read_of hears') (or_parts (holds g) (list_any holds (all_named (map read_of hears))) parts.0).1 parts.1

        none : part ≡ false
        none = or_from (list_any (same_host h) (all_told (map read_of hears ++ map read_of hears'))) (list_any holds (all_named (map read_of hears ++ map read_of hears'))) told named

    same_branch : (turn : ℕ) (s t : SlotState) (rest rest' : List ℕ) → Agree K s t → word_at s g ≡ word_at t g → Alike (block K does).given (heard_in_order hears) → Alike (block K does').given (heard_in_order hears')
        → words_in_order given_by (taken g does does' s) turn s ++ rest ≡ words_in_order given_by (taken g does does' t) turn t ++ rest'
        → heard_in_order (taken g hears hears' s) turn s ≡ heard_in_order (taken g hears hears' t) turn t
    same_branch turn s t rest rest' a same one two e = by (nat_eq (word_at s g) 0) (nat_eq (word_at t g) 0) (ap (λ z. nat_eq z 0) same) e
      where
        by : (b b' : Bool) → b ≡ b' → words_in_order given_by (if b then does' else does) turn s ++ rest ≡ words_in_order given_by (if b' then does' else does) turn t ++ rest'
            → heard_in_order (if b then hears' else hears) turn s ≡ heard_in_order (if b' then hears' else hears) turn t
        by true true is e = two turn s t rest rest' a e
        by false false is e = one turn s t rest rest' a e
        by true false is e = absurd (true≢false is)
        by false true is e = absurd (true≢false (sym is))

    if_alike : (guards : List SlotId) (weight : ℕ)
        → Asked (stmt_names reads V (Stmt-F.If g as' bs offset)) (flow_step k (Stmt-F.If g f f' offset)) (flow_step K (Stmt-F.If g n n' offset)) (stmt_closes reads h.0 r (Stmt-F.If g c c' offset)) (read_step l (Stmt-F.If g (map read_of hears) (map read_of hears') offset)) guards weight
        → Alike (stmt_downgraded K.given given_by (Stmt-F.If g does does' offset)) if_words
    if_alike guards weight is turn s t rest rest' a e = by (K.kept g.0) refl
      where
        asks : (V g.0 ≡ true) × ((if reads g.0 then all_true as' && all_true bs else true) ≡ true)
        asks = and_parts (V g.0) (if reads g.0 then all_true as' && all_true bs else true) is.sees

        closing : (only_with (guards_read guards && reads g.0) (r.slots g.0) ≡ true) × ((all_close c (g ∷ guards) && all_close c' (g ∷ guards)) ≡ true)
        closing = and_parts (only_with (guards_read guards && reads g.0) (r.slots g.0)) (all_close c (g ∷ guards) && all_close c' (g ∷ guards)) is.closed

        guard_here : Guard
        guard_here = guard_of g weight (map read_of hears ++ map read_of hears')

        tells : (guard_told problem list guard_here ≡ true) × (list_all (guard_told problem list) ((all_parts (map read_of hears) weight).guards ++ (all_parts (map read_of hears') weight).guards) ≡ true)
        tells = and_parts (guard_told problem list guard_here) (list_all (guard_told problem list) ((all_parts (map read_of hears) weight).guards ++ (all_parts (map read_of hears') weight).guards)) is.guards_told

        -- a guard of which the host is told is kept
        part_kept : part ≡ true → K.kept g.0 ≡ true
        part_kept here =
            let read = guard_read g hears hears' weight tells.0 here in
            kept_of g.0 read asks.0 (asked (guards_read guards) g.0 g.0 closing.0 is.guards_are_read read)

        kept_then : (b : Bool) (x y : Bool) → b ≡ true → (if b then x else y) ≡ true → x ≡ true
        kept_then true x y here all = all
        kept_then false x y here all = absurd (true≢false (sym here))

        by : (b : Bool) → K.kept g.0 ≡ b → if_words turn s ≡ if_words turn t
        by false kept =
            let none = false_if part (λ here. true≢false (sym (part_kept here) ∙ kept)) in
            silent_words none turn s ∙ sym (silent_words none turn t)
        by true kept =
            let both = and_parts (k.kept g.0) (r.slots g.0) kept in
            let seen = and_parts (reads g.0) (V g.0) both.0 in
            let names_ = and_parts (all_true as') (all_true bs) (kept_then (reads g.0) (all_true as' && all_true bs) true seen.0 asks.1) in
            let flows_ = and_parts (all_flow f) (all_flow f') (kept_then (k.kept g.0) (all_flow f && all_flow f') (all_hide f && all_hide f') both.0 is.flows) in
            let narrow_ = and_parts (all_flow n) (all_flow n') (kept_then (K.kept g.0) (all_flow n && all_flow n') (all_hide n && all_hide n') kept is.narrow_flows) in
            let closed_ = and_parts (all_close c (g ∷ guards)) (all_close c' (g ∷ guards)) closing.1 in
            let read_ = and_of (reads g.0) (guards_read guards) seen.0 is.guards_are_read in
            let guards_ = all_both (guard_told problem list) (all_parts (map read_of hears) weight).guards (all_parts (map read_of hears') weight).guards tells.1 in
            let indexes_ = all_both (index_told problem list) (all_parts (map read_of hears) weight).indexes (all_parts (map read_of hears') weight).indexes is.indexes_told in
            let one = first.alike (g ∷ guards) weight (record { sees = names_.0; flows = flows_.0; narrow_flows = narrow_.0; closed = closed_.0; guards_are_read = read_; guards_told = guards_.0; indexes_told = indexes_.0 }) in
            let two = second.alike (g ∷ guards) weight (record { sees = names_.1; flows = flows_.1; narrow_flows = narrow_.1; closed = closed_.1; guards_are_read = read_; guards_told = guards_.1; indexes_told = indexes_.1 }) in
            let same = a.words g.0 kept in
            let test = part && comes_alone protocols h g in
            both_words (word_if test (word_at s g)) (word_if test (word_at t g)) (heard_in_order (taken g hears hears' s) turn s) (heard_in_order (taken g hears hears' t) turn t)
            (word_if_same test (word_at s g) (word_at t g) (λ is. same)) (same_branch turn s t rest rest' a same one two e)

  -- ---- the walk
  abbrev StmtHears : Stmt → Type 0
  StmtHears s = Hears (names reads V s) (flow k s) (flow K s) (closes reads h.0 r s) (w s) (hs s)

  abbrev M : Type 0
  M = (s : Stmt) × StmtHears s

  abbrev statements : List M → List Stmt
  statements = map {B = Stmt} (λ (m : M). m.0)

  abbrev layer : Stmt-F M → Stmt-F Stmt
  layer = map-Stmt M Stmt (λ m. m.0)

  abbrev BlockHears : List Stmt → Type 0
  BlockHears body = Hears (all_true (map (names reads V) body)) (block_flow (map (flow k) body)) (block_flow (map (flow K) body)) (all_close (map (closes reads h.0 r) body)) (block K (map w body)) (block_heard (map hs body))

  runs_same : (s : Stmt) → (hs s).run ≡ (w s).run
  runs_same s = heard_runs protocols h l s ∙ sym (run_is (taps_of K silent) s)

  block_runs : (body : List Stmt) → map run_of (map hs body) ≡ map watched_run (map w body)
  block_runs [] = refl
  block_runs (s ∷ body) = rw (runs_same s, block_runs body) refl

  stmt_more : (s : Stmt) (body : List Stmt) → StmtHears s → BlockHears body → BlockHears (s ∷ body)
  stmt_more s body =
      more_hear (names reads V s) (map (names reads V) body) (flow k s) (map (flow k) body) (flow K s) (map (flow K) body) (closes reads h.0 r s) (map (closes reads h.0 r) body) (w s) (map w body) (hs s) (map hs body)
      (stmt_keeps K silent s) (runs_same s)

  all_hear : (ms : List M) → BlockHears (statements ms)
  all_hear [] = none_hear
  all_hear (m ∷ ms) = stmt_more m.0 (statements ms) m.1 (all_hear ms)

  -- a slot that is not kept at the host
  not_clear : (x : SlotId) → holds x ≡ false → stands protocols h (has_clear h) x ≡ false
  not_clear x none = by (slice_get protocols x.0) none
    where
      by : (o : Option Proto) → option_map_or (λ q. is_holder q h) o false ≡ false → option_map_or (has_clear h) o false ≡ false
      by None off = refl
      by (Some q) off = false_if (has_clear h q) (λ is. true≢false (sym (clear_holds h q is) ∙ off))

  not_coming : (y x : SlotId) → holds x ≡ false → coming y x ≡ false
  not_coming y x none = and_left (stands protocols h (has_clear h) x) (not (same_protocol (proto_in protocols y.0) (proto_in protocols x.0))) (not_clear x none)

  right_quiet : (x : SlotId) (right : Right) → list_any holds (x ∷ named_by right) ≡ false → (s : SlotState) → right_heard protocols h x right s ≡ []
  right_quiet x (Lit n) none s = refl
  right_quiet x Turn none s = refl
  right_quiet x (Copy y) none s = no_word (coming y x) (word_at s y) (not_coming y x (or_parts (holds x) (list_any holds (y ∷ [])) none).0)
  right_quiet x (Apply op ys) none s = filtered ys
    where
      off : holds x ≡ false
      off = (or_parts (holds x) (list_any holds ys) none).0

      filtered : (zs : List SlotId) → map (word_at s) (filter (λ y. coming y x) zs) ≡ []
      filtered [] = refl
      filtered (z ∷ zs) = rw (not_coming z x off) (filtered zs)
  right_quiet x (Input host) none s = refl
  right_quiet x (Declassify y to) none s = no_word (coming y x) (word_at s y) (not_coming y x (or_parts (holds x) (list_any holds (y ∷ [])) none).0)
  right_quiet x (Endorse y to) none s = no_word (coming y x) (word_at s y) (not_coming y x (or_parts (holds x) (list_any holds (y ∷ [])) none).0)
  right_quiet x (Load v) none s = no_word (coming v x) (word_at s v) (not_coming v x (or_parts (holds x) (list_any holds (v ∷ [])) none).0)
  right_quiet x (Get v i) none s =
      let parts = or_parts (holds x) (list_any holds (v ∷ i ∷ [])) none in
      let array = or_parts (holds v) (list_any holds (i ∷ [])) parts.1 in
      both_words (word_if (index_comes protocols h v i) (word_at s i)) [] (word_if (coming v x) (slice_index (array_at s v) (word_at s i))) []
      (no_word (index_comes protocols h v i) (word_at s i) (and_left (holds v) (comes_alone protocols h i) array.0)) (no_word (coming v x) (slice_index (array_at s v) (word_at s i)) (not_coming v x parts.0))

  -- a value is stored
  store_alike : (v y : SlotId) (around told : Bool) (s t : SlotState) → V v.0 ≡ true → only_with (k.kept v.0) (k.kept y.0) ≡ true → (only_with (r.slots v.0) (around && r.slots y.0) && only_with (told && reads v.0) (r.slots y.0)) ≡ true → told ≡ true → Agree K s t
      → word_if (coming y v) (word_at s y) ≡ word_if (coming y v) (word_at t y)
  store_alike v y around told s t seen flows closed is a =
      let parts = and_parts (only_with (r.slots v.0) (around && r.slots y.0)) (only_with (told && reads v.0) (r.slots y.0)) closed in
      word_if_same (coming y v) (word_at s y) (word_at t y) (λ comes_here. a.words y.0 (made_of told v.0 y.0 flows parts.1 is seen (comes_read y v comes_here)))

  abbrev around : List SlotId → Bool
  around = list_all (λ g. r.slots g.0)

  step : (y : Stmt-F M) → Hears (stmt_names reads V (map-Stmt Stmt Bool (names reads V) (layer y))) (flow_step k (map-Stmt Stmt Flow (flow k) (layer y))) (flow_step K (map-Stmt Stmt Flow (flow K) (layer y)))
      (stmt_closes reads h.0 r (map-Stmt Stmt Closing (closes reads h.0 r) (layer y))) (watched_step (taps_of K silent) (map-Stmt Stmt Watched w (layer y))) (heard_step protocols h l (map-Stmt Stmt Heard hs (layer y)))
  step (Stmt-F.Let x right) = record {
    quiet = λ apart turn s. right_quiet x right apart.named s;
    alike = λ guards weight is.
        let named = and_parts (V x.0) (right_names V right) is.sees in
        right_alike x right (around guards) (guards_read guards) weight
        (record { seen = named.0; sees = named.1; flows = is.flows; narrow = is.narrow_flows; closed = is.closed; guarded = is.guards_are_read; indexes = is.indexes_told });
  }
  step (Stmt-F.NewVar v y) = record {
    quiet = λ apart turn s. no_word (coming y v) (word_at s y) (not_coming y v (or_parts (holds v) (list_any holds (y ∷ [])) apart.named).0);
    alike = λ guards weight is turn s t rest rest' a e. store_alike v y (around guards) (guards_read guards) s t (and_parts (V v.0) (V y.0) is.sees).0 is.flows is.closed is.guards_are_read a;
  }
  step (Stmt-F.NewArray v size) = record { quiet = λ apart turn s. refl; alike = λ guards weight is turn s t rest rest' a e. refl }
  step (Stmt-F.Store v y) = record {
    quiet = λ apart turn s. no_word (coming y v) (word_at s y) (not_coming y v (or_parts (holds v) (list_any holds (y ∷ [])) apart.named).0);
    alike = λ guards weight is turn s t rest rest' a e. store_alike v y (around guards) (guards_read guards) s t (and_parts (V v.0) (V y.0) is.sees).0 is.flows is.closed is.guards_are_read a;
  }
  step (Stmt-F.Put v i y) = record {
    quiet = λ apart turn s.
        let parts = or_parts (holds v) (list_any holds (i ∷ y ∷ [])) apart.named in
        both_words (word_if (index_comes protocols h v i) (word_at s i)) [] (word_if (coming y v) (word_at s y)) []
        (no_word (index_comes protocols h v i) (word_at s i) (and_left (holds v) (comes_alone protocols h i) parts.0)) (no_word (coming y v) (word_at s y) (not_coming y v parts.0));
    alike = λ guards weight is turn s t rest rest' a e.
        let named = and_parts (V v.0 && V i.0) (V y.0) is.sees in
        let seen = and_parts (V v.0) (V i.0) named.0 in
        let told = guards_read guards in
        let closed = and_parts (only_with (r.slots v.0) (around guards && (r.slots i.0 && r.slots y.0))) (only_with (told && reads v.0) (r.slots y.0) && only_with (told && reads i.0) (r.slots i.0)) is.closed in
        let firsts = and_parts (only_with (told && reads v.0) (r.slots y.0)) (only_with (told && reads i.0) (r.slots i.0)) closed.1 in
        let index = index_comes protocols h v i in
        let tells = (and_parts (index_told problem list (index_of weight v i)) true is.indexes_told).0 in
        both_words (word_if index (word_at s i)) (word_if index (word_at t i)) (word_if (coming y v) (word_at s y)) (word_if (coming y v) (word_at t y))
        (word_if_same index (word_at s i) (word_at t i)
        (λ comes_here. let read = index_read v i weight tells comes_here in a.words i.0 (kept_of i.0 read seen.1 (asked told i.0 i.0 firsts.1 is.guards_are_read read))))
        (word_if_same (coming y v) (word_at s y) (word_at t y)
        (λ comes_here.
        let read = comes_read y v comes_here in
        let both = and_parts (k.kept i.0) (k.kept y.0) (only (k.kept v.0) (k.kept i.0 && k.kept y.0) is.flows (and_of (reads v.0) (V v.0) read seen.0)) in
        a.words y.0 (and_of (k.kept y.0) (r.slots y.0) both.1 (asked told v.0 y.0 firsts.0 is.guards_are_read read))));
  }
  step (Stmt-F.Output y other offset) = record {
    quiet = λ apart turn s. no_word (same_host h other && comes_alone protocols h y) (word_at s y) (and_left (same_host h other) (comes_alone protocols h y) (or_parts (same_host h other) false apart.told).0);
    alike = λ guards weight is turn s t rest rest' a e.
        word_if_same (same_host h other && comes_alone protocols h y) (word_at s y) (word_at t y)
        (λ comes_here.
        let same = (and_parts (same_host h other) (comes_alone protocols h y) comes_here).0 in
        let here : nat_eq other.0 h.0 ≡ true = eq-eqb other.0 h.0 (sym (eqb-true h.0 other.0 same)) in
        let kept = only (nat_eq other.0 h.0) (k.kept y.0) is.flows here in
        a.words y.0 (and_of (k.kept y.0) (r.slots y.0) kept (only (guards_read guards && nat_eq other.0 h.0) (r.slots y.0) is.closed (and_of (guards_read guards) (nat_eq other.0 h.0) is.guards_are_read here))));
  }
  step (Stmt-F.If g a b offset) =
      let as' = statements a in
      let bs = statements b in
      let one = all_hear a in
      let two = all_hear b in
      record {
        quiet = if_quiet g offset (map (names reads V) as') (map (names reads V) bs) (map (flow k) as') (map (flow k) bs) (map (flow K) as') (map (flow K) bs) (map (closes reads h.0 r) as') (map (closes reads h.0 r) bs) (map w as') (map w bs) (map hs as') (map hs bs) one two;
        alike = if_alike g offset (map (names reads V) as') (map (names reads V) bs) (map (flow k) as') (map (flow k) bs) (map (flow K) as') (map (flow K) bs) (map (closes reads h.0 r) as') (map (closes reads h.0 r) bs) (map w as') (map w bs) (map hs as') (map hs bs) one two;
      }
  step (Stmt-F.For count body) =
      let all = all_hear body in
      record {
        quiet = λ apart turn s. loop_quiet count (map hs (statements body)) (all.quiet (record { told = apart.told; named = apart.named })) s;
        alike = λ guards weight is turn s t rest rest' a e.
            let asked_ : Asked (all_true (map (names reads V) (statements body))) (block_flow (map (flow k) (statements body))) (block_flow (map (flow K) (statements body))) (all_close (map (closes reads h.0 r) (statements body))) (block_read (map hs (statements body))) guards (weight * count) =
            record { sees = is.sees; flows = is.flows; narrow_flows = is.narrow_flows; closed = is.closed; guards_are_read = is.guards_are_read; guards_told = is.guards_told; indexes_told = is.indexes_told }
            in
            loop_alike count (map w (statements body)) (map hs (statements body)) (ap in_order (block_runs (statements body))) ((body_keeps K silent (statements body)).flows is.narrow_flows) (all.alike guards (weight * count) asked_) turn s t rest rest' a e;
      }

  stmt_hears : (s : Stmt) → StmtHears s
  stmt_hears = ind-Stmt StmtHears (λ x y is. subst (λ z. StmtHears (roll-Stmt z)) is (at_roll y))
    where
      at_roll : (y : Stmt-F M) → StmtHears (roll-Stmt (layer y))
      at_roll y =
          rw (
            fold-roll-Stmt Bool (stmt_names reads V) (layer y),
            fold-roll-Stmt Flow (flow_step k) (layer y),
            fold-roll-Stmt Flow (flow_step K) (layer y),
            fold-roll-Stmt Closing (stmt_closes reads h.0 r) (layer y),
            fold-roll-Stmt Watched (watched_step (taps_of K silent)) (layer y),
            fold-roll-Stmt Heard (heard_step protocols h l) (layer y),
          ) (step y)

  body_hears : (body : List Stmt) → BlockHears body
  body_hears [] = none_hear
  body_hears (s ∷ body) = stmt_more s body (stmt_hears s) (body_hears body)

  -- two runs of a whole program
  pub same_words : (body : List Stmt) (weight : ℕ) (s t : SlotState) → list_all (λ b. b) (map (names reads V) body) ≡ true → all_flow (map (flow k) body) ≡ true → all_flow (map (flow K) body) ≡ true → all_close (map (closes reads h.0 r) body) [] ≡ true
      → list_all (guard_told problem list) (all_parts (map read_of (map hs body)) weight).guards ≡ true → list_all (index_told problem list) (all_parts (map read_of (map hs body)) weight).indexes ≡ true
      → Agree K s t → words_in_order given_by (map w body) 0 s ≡ words_in_order given_by (map w body) 0 t
      → heard_in_order (map hs body) 0 s ≡ heard_in_order (map hs body) 0 t
  same_words body weight s t named flows narrow closed told indexes a e =
      (body_hears body).alike [] weight (record { sees = named; flows = flows; narrow_flows = narrow; closed = closed; guards_are_read = refl; guards_told = told; indexes_told = indexes })
      0 s t [] [] a (ap (λ z. z ++ []) e)
