-- The new words that come to a host tell it all clear words that come: two runs, statement by statement.
use Rattle.std.proofs.Common.{◌≡◌, ℕ, zero, suc, Bool, true, false, true≢false, ◌&&◌, ◌||◌, not, List, [], ◌∷◌, ◌++◌, append_assoc, map, length, replicate, refl, sym, ap, ap₂, ◌∙◌, subst, if◌then◌else◌, nat_eq, slice_index, slice_index_or, slice_set}
use Rattle.std.specs.Prelude.{filter}
use Rattle.std.specs.List.{list_all, list_any, flat_map}
use Rattle.std.proofs.lemmas.Bool.{or_parts}
use Rattle.vd_base.specs.declared.ids.HostId.{HostId}
use Rattle.vd_base.specs.declared.ids.SlotId.{SlotId}
use Rattle.vd_base.specs.declared.protocols.Proto.{Proto}
use Rattle.vd_base.specs.declared.protocols.Proto.TheVariants.{Local, Rep, Commit, Add, Xor}
use Rattle.vd_base.specs.HostSets.{same_host}
use Rattle.vd_base.specs.Holders.{has_clear, is_alone, is_holder, proto_in, same_protocol}
use Rattle.vd_base.specs.Operations.{result_of}
use Rattle.vd_base.proofs.Front.{same_is}
use Rattle.vd_core.specs.declared.normal.Right.{Right}
use Rattle.vd_core.specs.declared.normal.Right.TheVariants.{Lit, Turn, Copy, Apply, Input, Declassify, Endorse, Load, Get}
use Rattle.vd_core.specs.declared.normal.Stmt.TheOpen.{Stmt-F}
use Rattle.vd_constraints.specs.declared.labels.Labels.{Labels}
use Rattle.vd_constraints.specs.Scoped.{is_below, right_below, stmt_below}
use Rattle.vd_semantics.specs.World.{later_words, after_input, after_output}
use Rattle.vd_semantics.specs.ProgramMeaning.{SlotState, Effect, word_at, array_at, with_word, with_array, in_world, right_word, after_right, in_order, stmt_effect}
use Rattle.vd_semantics.specs.Turns.{turns}
use Rattle.vd_space.specs.Reading.{Read, all_named, all_told, guard_of, named_by, read_step}
use Rattle.vd_split.specs.Block.{Block, End, Let, NewVar, NewArray, Store, Put, Output, If, For, each}
use Rattle.vd_split.proofs.Front.{and_left, and_right}
use Rattle.vd_noninter.specs.Agreement.{Agree}
use Rattle.vd_noninter.specs.Flowing.{Knowledge, only_with}
use Rattle.vd_noninter.specs.Watching.{nothing, taken}
use Rattle.vd_noninter.proofs.Front.{agree_after_right, agree_array, agree_output, agree_refl, agree_sym, agree_trans, agree_word, item_put_other, item_set_other, length_set, right_in_step, word_put_other}
use Rattle.vd_noninter_protocols.specs.Hearing.{Heard, run_of, read_of, heard_in_order, heard_in_turns, word_if, stands, comes, comes_alone, index_comes, right_heard, takes_part, is_part, heard_step}
use Rattle.vd_noninter_protocols.specs.Learning.{is_new, knows, learnt_step, right_learnt}
use Rattle.vd_noninter_protocols.proofs.Clear.{clear_holds}
use Rattle.vd_noninter_protocols.proofs.Hosts.{item_at, found_at, same_turned}
use Rattle.vd_noninter_protocols.proofs.Takers.{below}

-- ---- lists

both_words : (a a' b b' : List ℕ) → a ≡ a' → b ≡ b' → a ++ b ≡ a' ++ b'
both_words a a' b b' e f = rw (e, f) refl

word_if_same : (test : Bool) (w w' : ℕ) → (test ≡ true → w ≡ w') → word_if test w ≡ word_if test w'
word_if_same true w w' same = ap (λ z. z ∷ []) (same refl)
word_if_same false w w' same = refl

no_word : (test : Bool) (w : ℕ) → test ≡ false → word_if test w ≡ []
no_word test w is = rw is refl

head_same : (x y : ℕ) (xs ys : List ℕ) → x ∷ xs ≡ y ∷ ys → x ≡ y
head_same x y xs ys e = cc e

tail_same : (x y : ℕ) (xs ys : List ℕ) → x ∷ xs ≡ y ∷ ys → xs ≡ ys
tail_same x y xs ys e = cc e

-- a word that comes is the same where it was known to be, or where it is told as new
learn_word : (c k : Bool) (w w' : ℕ) (rest rest' : List ℕ) → (k ≡ true → w ≡ w') → word_if (c && not k) w ++ rest ≡ word_if (c && not k) w' ++ rest' → (c ≡ true → w ≡ w') × (rest ≡ rest')
learn_word false k w w' rest rest' known e = (λ is. absurd (true≢false (sym is)), e)
learn_word true true w w' rest rest' known e = (λ is. known refl, e)
learn_word true false w w' rest rest' known e = (λ is. head_same w w' rest rest' e, tail_same w w' rest rest' e)

any_both : {X : Type 0} (test : X → Bool) (xs ys : List X) → list_any test (xs ++ ys) ≡ false → (list_any test xs ≡ false) × (list_any test ys ≡ false)
any_both test [] ys none = (refl, none)
any_both test (x ∷ xs) ys none =
    let parts = or_parts (test x) (list_any test (xs ++ ys)) none in
    let more = any_both test xs ys parts.1 in
    (rw (parts.0, more.0) refl, more.1)

none_in_both : {X : Type 0} (test : X → Bool) (xs ys : List X) → list_any test xs ≡ false → list_any test ys ≡ false → list_any test (xs ++ ys) ≡ false
none_in_both test [] ys a b = b
none_in_both test (x ∷ xs) ys a b = let parts = or_parts (test x) (list_any test xs) a in rw (parts.0, none_in_both test xs ys parts.1 b) refl

split_any : {X Y : Type 0} (test : Y → Bool) (f : X → List Y) (xs ys : List X) → list_any test (flat_map f (xs ++ ys)) ≡ false → (list_any test (flat_map f xs) ≡ false) × (list_any test (flat_map f ys) ≡ false)
split_any test f [] ys none = (refl, none)
split_any test f (x ∷ xs) ys none =
    let parts = any_both test (f x) (flat_map f (xs ++ ys)) none in
    let more = split_any test f xs ys parts.1 in
    (none_in_both test (f x) (flat_map f xs) parts.0 more.0, more.1)

join_any : {X Y : Type 0} (test : Y → Bool) (f : X → List Y) (xs ys : List X) → list_any test (flat_map f xs) ≡ false → list_any test (flat_map f ys) ≡ false → list_any test (flat_map f (xs ++ ys)) ≡ false
join_any test f [] ys a b = b
join_any test f (x ∷ xs) ys a b =
    let parts = any_both test (f x) (flat_map f xs) a in
    none_in_both test (f x) (flat_map f (xs ++ ys)) parts.0 (join_any test f xs ys parts.1 b)

not_true : (a b : Bool) → (a ≡ true → b ≡ true) → b ≡ false → a ≡ false
not_true true b leads off = absurd (true≢false (sym (leads refl) ∙ off))
not_true false b leads off = refl

alone_clear : (h : HostId) (q : Proto) → is_alone h q ≡ true → has_clear h q ≡ true
alone_clear h (Local k) is = is
alone_clear h (Rep set) is = absurd (true≢false (sym is))
alone_clear h (Commit p v) is = absurd (true≢false (sym is))
alone_clear h (Add a b) is = absurd (true≢false (sym is))
alone_clear h (Xor a b) is = absurd (true≢false (sym is))

module _ (protocols : List Proto) (h : HostId) (l : Labels) where
  abbrev P : SlotId → Proto
  P x = proto_in protocols x.0

  abbrev pub K : Knowledge
  K = record {
    kept = λ x. has_clear h (proto_in protocols x);
    given = record { declassified = nothing; endorsed = nothing };
    freed = record { declassified = nothing; endorsed = nothing };
    known = λ k. nat_eq h.0 k;
    heard = λ k. false;
  }

  abbrev holds : SlotId → Bool
  holds x = stands protocols h (λ p. is_holder p h) x

  abbrev IsLow : SlotId → Type 0
  IsLow x = is_below (length protocols) x ≡ true

  stands_in : (test : Proto → Bool) (x : SlotId) → IsLow x → stands protocols h test x ≡ test (P x)
  stands_in test x low = item_at test protocols x.0 (below (length protocols) x low)

  -- what is not kept at the host does not come, and is not known
  not_known : (x : SlotId) → IsLow x → holds x ≡ false → K.kept x.0 ≡ false
  not_known x low off = not_true (has_clear h (P x)) (is_holder (P x) h) (clear_holds h (P x)) (sym (stands_in (λ p. is_holder p h) x low) ∙ off)

  not_standing : (x : SlotId) → IsLow x → holds x ≡ false → stands protocols h (has_clear h) x ≡ false
  not_standing x low off = stands_in (has_clear h) x low ∙ not_known x low off

  never_comes : (y x : SlotId) → IsLow x → holds x ≡ false → comes protocols h y x ≡ false
  never_comes y x low off = ap (λ b. b && not (same_protocol (P y) (P x))) (not_standing x low off)

  alone_known : (x : SlotId) → comes_alone protocols h x ≡ false → knows protocols h x ≡ true
  alone_known x off = alone_clear h (P x) (found_at (is_alone h) protocols x.0 (by (stands protocols h (is_alone h) x) off))
    where
      by : (b : Bool) → not b ≡ false → b ≡ true
      by true e = refl
      by false e = absurd (true≢false e)

  -- ---- one word that is moved
  record Moved (c kept : Bool) (w w' : ℕ) (rest rest' : List ℕ) : Type 0 where
    came : c ≡ true → w ≡ w'
    rest_same : rest ≡ rest'
    same : kept ≡ true → w ≡ w'

  moved : (y x : SlotId) (w w' : ℕ) (rest rest' : List ℕ) → IsLow x → (knows protocols h y ≡ true → w ≡ w')
      → word_if (is_new protocols h (comes protocols h y x) y) w ++ rest ≡ word_if (is_new protocols h (comes protocols h y x) y) w' ++ rest'
      → Moved (comes protocols h y x) (K.kept x.0) w w' rest rest'
  moved y x w w' rest rest' low known e =
      let lw = learn_word (comes protocols h y x) (knows protocols h y) w w' rest rest' known e in
      record { came = lw.0; rest_same = lw.1; same = λ k. by (same_protocol (P y) (P x)) refl k lw.0 }
    where
      by : (b : Bool) → same_protocol (P y) (P x) ≡ b → K.kept x.0 ≡ true → (comes protocols h y x ≡ true → w ≡ w') → w ≡ w'
      by true is k came = known (ap (has_clear h) (same_is (P y) (P x) is) ∙ k)
      by false is k came = came (ap₂ (λ a b. a && not b) (stands_in (has_clear h) x low ∙ k) is)

  -- an index
  index_known : (v i : SlotId) (w w' : ℕ) → IsLow v → (index_comes protocols h v i ≡ true → w ≡ w') → (knows protocols h i ≡ true → w ≡ w') → K.kept v.0 ≡ true → w ≡ w'
  index_known v i w w' low came known k = by (comes_alone protocols h i) refl
    where
      by : (b : Bool) → comes_alone protocols h i ≡ b → w ≡ w'
      by true is = came (ap₂ (λ a b. a && b) (stands_in (λ p. is_holder p h) v low ∙ clear_holds h (P v) k) is)
      by false is = known (alone_known i is)

  -- ---- right sides
  record RightDid (x : SlotId) (right : Right) (turn : ℕ) (s t : SlotState) (rest rest' : List ℕ) : Type 0 where
    heard : right_heard protocols h x right s ≡ right_heard protocols h x right t
    rest_same : rest ≡ rest'
    same : K.kept x.0 ≡ true → right_word right turn s ≡ right_word right turn t

  -- an input stands at its host alone
  abbrev pub InputStands : SlotId → Right → Type 0
  InputStands x (Input k) = P x ≡ Local k
  InputStands x other = Unit {0}

  one_did : (y x : SlotId) (s t : SlotState) (rest rest' : List ℕ) → IsLow x → Agree K s t
      → word_if (is_new protocols h (comes protocols h y x) y) (word_at s y) ++ rest ≡ word_if (is_new protocols h (comes protocols h y x) y) (word_at t y) ++ rest'
      → Moved (comes protocols h y x) (K.kept x.0) (word_at s y) (word_at t y) rest rest'
  one_did y x s t rest rest' low a e = moved y x (word_at s y) (word_at t y) rest rest' low (λ k. a.words y.0 k) e

  record OperandsDid (x : SlotId) (ys : List SlotId) (s t : SlotState) (rest rest' : List ℕ) : Type 0 where
    heard : map (word_at s) (filter (λ y. comes protocols h y x) ys) ≡ map (word_at t) (filter (λ y. comes protocols h y x) ys)
    rest_same : rest ≡ rest'
    same : K.kept x.0 ≡ true → map (word_at s) ys ≡ map (word_at t) ys

  abbrev told_operands : SlotId → List SlotId → SlotState → List ℕ
  told_operands x ys s = flat_map (λ y. word_if (is_new protocols h (comes protocols h y x) y) (word_at s y)) ys

  operands_did : (x : SlotId) (ys : List SlotId) (s t : SlotState) (rest rest' : List ℕ) → IsLow x → Agree K s t → told_operands x ys s ++ rest ≡ told_operands x ys t ++ rest' → OperandsDid x ys s t rest rest'
  operands_did x [] s t rest rest' low a e = record { heard = refl; rest_same = e; same = λ k. refl }
  operands_did x (y ∷ ys) s t rest rest' low a e =
      let c = comes protocols h y x in
      let one : SlotState → List ℕ = λ z. word_if (is_new protocols h c y) (word_at z y) in
      let e' : one s ++ (told_operands x ys s ++ rest) ≡ one t ++ (told_operands x ys t ++ rest') =
      sym (append_assoc (one s) (told_operands x ys s) rest) ∙ e ∙ append_assoc (one t) (told_operands x ys t) rest' in
      let m = one_did y x s t (told_operands x ys s ++ rest) (told_operands x ys t ++ rest') low a e' in
      let more = operands_did x ys s t rest rest' low a m.rest_same in
      record {
        heard = by c m.came more.heard;
        rest_same = more.rest_same;
        same = λ k. ap₂ (λ (w : ℕ) (ws : List ℕ). w ∷ ws) (m.same k) (more.same k);
      }
    where
      by : (b : Bool) → (b ≡ true → word_at s y ≡ word_at t y) → map (word_at s) (filter (λ z. comes protocols h z x) ys) ≡ map (word_at t) (filter (λ z. comes protocols h z x) ys)
          → map (word_at s) (if b then y ∷ filter (λ z. comes protocols h z x) ys else filter (λ z. comes protocols h z x) ys)
          ≡ map (word_at t) (if b then y ∷ filter (λ z. comes protocols h z x) ys else filter (λ z. comes protocols h z x) ys)
      by true same more = ap₂ (λ (w : ℕ) (ws : List ℕ). w ∷ ws) (same refl) more
      by false same more = more

  only_turned : (a b : ℕ) → only_with (nat_eq a b) (nat_eq b a) ≡ true
  only_turned a b = subst (λ z. only_with (nat_eq a b) z ≡ true) (same_turned a b) (itself (nat_eq a b))
    where
      itself : (z : Bool) → only_with z z ≡ true
      itself true = refl
      itself false = refl

  right_did : (x : SlotId) (right : Right) (turn : ℕ) (s t : SlotState) (rest rest' : List ℕ) → IsLow x → right_below (length protocols) right ≡ true → InputStands x right → Agree K s t
      → right_learnt protocols h x right s ++ rest ≡ right_learnt protocols h x right t ++ rest' → RightDid x right turn s t rest rest'
  right_did x (Lit n) turn s t rest rest' low lows at a e = record { heard = refl; rest_same = e; same = λ k. refl }
  right_did x Turn turn s t rest rest' low lows at a e = record { heard = refl; rest_same = e; same = λ k. refl }
  right_did x (Copy y) turn s t rest rest' low lows at a e =
      let m = one_did y x s t rest rest' low a e in record { heard = word_if_same (comes protocols h y x) (word_at s y) (word_at t y) m.came; rest_same = m.rest_same; same = m.same }
  right_did x (Apply op ys) turn s t rest rest' low lows at a e =
      let m = operands_did x ys s t rest rest' low a e in record { heard = m.heard; rest_same = m.rest_same; same = λ k. ap (result_of op) (m.same k) }
  right_did x (Input k) turn s t rest rest' low lows at a e =
      let flows : only_with (K.kept x.0) (nat_eq h.0 k.0) ≡ true = subst (λ q. only_with (has_clear h q) (nat_eq h.0 k.0) ≡ true) (sym at) (only_turned k.0 h.0) in
      let p = right_in_step K x (Input k) turn s t rest rest' a flows e in
      record { heard = refl; rest_same = e; same = p.same }
  right_did x (Declassify y to) turn s t rest rest' low lows at a e =
      let m = one_did y x s t rest rest' low a e in record { heard = word_if_same (comes protocols h y x) (word_at s y) (word_at t y) m.came; rest_same = m.rest_same; same = m.same }
  right_did x (Endorse y to) turn s t rest rest' low lows at a e =
      let m = one_did y x s t rest rest' low a e in record { heard = word_if_same (comes protocols h y x) (word_at s y) (word_at t y) m.came; rest_same = m.rest_same; same = m.same }
  right_did x (Load v) turn s t rest rest' low lows at a e =
      let m = one_did v x s t rest rest' low a e in record { heard = word_if_same (comes protocols h v x) (word_at s v) (word_at t v) m.came; rest_same = m.rest_same; same = m.same }
  right_did x (Get v i) turn s t rest rest' low lows at a e =
      let ci = index_comes protocols h v i in
      let cv = comes protocols h v x in
      let index : SlotState → List ℕ = λ z. word_if (is_new protocols h ci i) (word_at z i) in
      let item : SlotState → ℕ = λ z. slice_index (array_at z v) (word_at z i) in
      let word : SlotState → List ℕ = λ z. word_if (is_new protocols h cv v) (item z) in
      let e' : index s ++ (word s ++ rest) ≡ index t ++ (word t ++ rest') = sym (append_assoc (index s) (word s) rest) ∙ e ∙ append_assoc (index t) (word t) rest' in
      let first = learn_word ci (knows protocols h i) (word_at s i) (word_at t i) (word s ++ rest) (word t ++ rest') (λ k. a.words i.0 k) e' in
      let low_v = and_left (is_below (length protocols) v) (is_below (length protocols) i) lows in
      let known : K.kept v.0 ≡ true → item s ≡ item t = λ k. ap₂ (λ (xs : List ℕ) (n : ℕ). slice_index xs n) (a.arrays v.0 k) (index_known v i (word_at s i) (word_at t i) low_v first.0 (λ z. a.words i.0 z) k) in
      let m = moved v x (item s) (item t) rest rest' low known first.1 in
      record {
        heard = both_words (word_if ci (word_at s i)) (word_if ci (word_at t i)) (word_if cv (item s)) (word_if cv (item t)) (word_if_same ci (word_at s i) (word_at t i) first.0) (word_if_same cv (item s) (item t) m.came);
        rest_same = m.rest_same;
        same = m.same;
      }

  -- ---- statements: what two runs do, and what one does in which the host takes no part
  pub record Did (ws ws' : List ℕ) (rest rest' : List ℕ) (s t : SlotState) : Type 0 where
    pub heard : ws ≡ ws'
    pub rest_same : rest ≡ rest'
    pub agree : Agree K s t

  abbrev Teaches : Heard → Heard → Type 0
  Teaches x y = (turn : ℕ) (s t : SlotState) (rest rest' : List ℕ) → Agree K s t → y.words turn s ++ rest ≡ y.words turn t ++ rest' → Did (x.words turn s) (x.words turn t) rest rest' (x.run turn s) (x.run turn t)

  abbrev TeachAll : List Heard → List Heard → Type 0
  TeachAll xs ys = (turn : ℕ) (s t : SlotState) (rest rest' : List ℕ) → Agree K s t → heard_in_order ys turn s ++ rest ≡ heard_in_order ys turn t ++ rest'
      → Did (heard_in_order xs turn s) (heard_in_order xs turn t) rest rest' (in_order (map run_of xs) turn s) (in_order (map run_of xs) turn t)

  record Still (ws ws' : List ℕ) (s t : SlotState) : Type 0 where
    quiet : ws ≡ []
    untold : ws' ≡ []
    agree : Agree K s t

  abbrev IsStill : Heard → Heard → Type 0
  IsStill x y = (turn : ℕ) (s : SlotState) → Still (x.words turn s) (y.words turn s) s (x.run turn s)

  abbrev AreStill : List Heard → List Heard → Type 0
  AreStill xs ys = (turn : ℕ) (s : SlotState) → Still (heard_in_order xs turn s) (heard_in_order ys turn s) s (in_order (map run_of xs) turn s)

  then_teach : (x y : Heard) (xs ys : List Heard) → y.run ≡ x.run → Teaches x y → TeachAll xs ys → TeachAll (x ∷ xs) (y ∷ ys)
  then_teach x y xs ys runs one more turn s t rest rest' a e =
      let later : Effect → SlotState → List ℕ = λ run z. heard_in_order ys turn (run turn z) in
      let e' : y.words turn s ++ (later y.run s ++ rest) ≡ y.words turn t ++ (later y.run t ++ rest') =
      sym (append_assoc (y.words turn s) (later y.run s) rest) ∙ e ∙ append_assoc (y.words turn t) (later y.run t) rest' in
      let first = one turn s t (later y.run s ++ rest) (later y.run t ++ rest') a e' in
      let next = subst (λ (run : Effect). later run s ++ rest ≡ later run t ++ rest') runs first.rest_same in
      let second = more turn (x.run turn s) (x.run turn t) rest rest' first.agree next in
      record {
        heard = both_words (x.words turn s) (x.words turn t) (heard_in_order xs turn (x.run turn s)) (heard_in_order xs turn (x.run turn t)) first.heard second.heard;
        rest_same = second.rest_same;
        agree = second.agree;
      }

  then_still : (x y : Heard) (xs ys : List Heard) → y.run ≡ x.run → IsStill x y → AreStill xs ys → AreStill (x ∷ xs) (y ∷ ys)
  then_still x y xs ys runs one more turn s =
      let first = one turn s in
      let second = more turn (x.run turn s) in
      record {
        quiet = both_words (x.words turn s) [] (heard_in_order xs turn (x.run turn s)) [] first.quiet second.quiet;
        untold = both_words (y.words turn s) [] (heard_in_order ys turn (y.run turn s)) [] first.untold (ap (λ (run : Effect). heard_in_order ys turn (run turn s)) runs ∙ second.untold);
        agree = agree_trans K s (x.run turn s) (in_order (map run_of xs) turn (x.run turn s)) first.agree second.agree;
      }

  loop_teach : (n : ℕ) (xs ys : List Heard) → map run_of ys ≡ map run_of xs → TeachAll xs ys → (s t : SlotState) (rest rest' : List ℕ) → Agree K s t → heard_in_turns n ys s ++ rest ≡ heard_in_turns n ys t ++ rest'
      → Did (heard_in_turns n xs s) (heard_in_turns n xs t) rest rest' (turns n (in_order (map run_of xs)) s) (turns n (in_order (map run_of xs)) t)
  loop_teach zero xs ys runs one s t rest rest' a e = record { heard = refl; rest_same = e; agree = a }
  loop_teach (suc n) xs ys runs one s t rest rest' a e =
      let last : List Effect → SlotState → List ℕ = λ fs z. heard_in_order ys n (turns n (in_order fs) z) in
      let fy = map run_of ys in
      let fx = map run_of xs in
      let e' : heard_in_turns n ys s ++ (last fy s ++ rest) ≡ heard_in_turns n ys t ++ (last fy t ++ rest') =
      sym (append_assoc (heard_in_turns n ys s) (last fy s) rest) ∙ e ∙ append_assoc (heard_in_turns n ys t) (last fy t) rest' in
      let first = loop_teach n xs ys runs one s t (last fy s ++ rest) (last fy t ++ rest') a e' in
      let next = subst (λ (fs : List Effect). last fs s ++ rest ≡ last fs t ++ rest') runs first.rest_same in
      let second = one n (turns n (in_order fx) s) (turns n (in_order fx) t) rest rest' first.agree next in
      record {
        heard = both_words (heard_in_turns n xs s) (heard_in_turns n xs t) (heard_in_order xs n (turns n (in_order fx) s)) (heard_in_order xs n (turns n (in_order fx) t)) first.heard second.heard;
        rest_same = second.rest_same;
        agree = second.agree;
      }

  loop_still : (n : ℕ) (xs ys : List Heard) → map run_of ys ≡ map run_of xs → AreStill xs ys → (s : SlotState) → Still (heard_in_turns n xs s) (heard_in_turns n ys s) s (turns n (in_order (map run_of xs)) s)
  loop_still zero xs ys runs one s = record { quiet = refl; untold = refl; agree = agree_refl K s }
  loop_still (suc n) xs ys runs one s =
      let fx = map run_of xs in
      let first = loop_still n xs ys runs one s in
      let second = one n (turns n (in_order fx) s) in
      record {
        quiet = both_words (heard_in_turns n xs s) [] (heard_in_order xs n (turns n (in_order fx) s)) [] first.quiet second.quiet;
        untold = both_words (heard_in_turns n ys s) [] (heard_in_order ys n (turns n (in_order (map run_of ys)) s)) [] first.untold (ap (λ (fs : List Effect). heard_in_order ys n (turns n (in_order fs) s)) runs ∙ second.untold);
        agree = agree_trans K s (turns n (in_order fx) s) (in_order fx n (turns n (in_order fx) s)) first.agree second.agree;
      }

  -- ---- branches
  module _ (g : SlotId) (xs xs' ys ys' : List Heard) (first : TeachAll xs ys) (other : TeachAll xs' ys') where
    abbrev picked : Bool → List Heard → List Heard → List Heard
    picked b zs zs' = if b then zs' else zs

    abbrev done : Bool → SlotState → ℕ → SlotState
    done b s turn = in_order (if b then map run_of xs' else map run_of xs) turn s

    abbrev test : SlotState → Bool
    test s = nat_eq (word_at s g) 0

    same_way : (b b' : Bool) → b ≡ b' → (turn : ℕ) (s t : SlotState) (rest rest' : List ℕ) → Agree K s t → heard_in_order (picked b ys ys') turn s ++ rest ≡ heard_in_order (picked b' ys ys') turn t ++ rest'
        → Did (heard_in_order (picked b xs xs') turn s) (heard_in_order (picked b' xs xs') turn t) rest rest' (done b s turn) (done b' t turn)
    same_way true true is turn s t rest rest' a e = other turn s t rest rest' a e
    same_way true false is turn s t rest rest' a e = absurd (true≢false is)
    same_way false true is turn s t rest rest' a e = absurd (true≢false (sym is))
    same_way false false is turn s t rest rest' a e = first turn s t rest rest' a e

    module _ (still : AreStill xs ys) (still' : AreStill xs' ys') where
      either_still : (b : Bool) (turn : ℕ) (s : SlotState) → Still (heard_in_order (picked b xs xs') turn s) (heard_in_order (picked b ys ys') turn s) s (done b s turn)
      either_still true turn s = still' turn s
      either_still false turn s = still turn s

      apart_did : (b b' : Bool) (turn : ℕ) (s t : SlotState) (rest rest' : List ℕ) → Agree K s t → heard_in_order (picked b ys ys') turn s ++ rest ≡ heard_in_order (picked b' ys ys') turn t ++ rest'
          → Did (heard_in_order (picked b xs xs') turn s) (heard_in_order (picked b' xs xs') turn t) rest rest' (done b s turn) (done b' t turn)
      apart_did b b' turn s t rest rest' a e =
          let here = either_still b turn s in
          let there = either_still b' turn t in
          record {
            heard = here.quiet ∙ sym there.quiet;
            rest_same = sym (ap (λ (ws : List ℕ). ws ++ rest) here.untold) ∙ e ∙ ap (λ (ws : List ℕ). ws ++ rest') there.untold;
            agree = agree_trans K (done b s turn) s (done b' t turn) (agree_sym K s (done b s turn) here.agree) (agree_trans K s t (done b' t turn) a there.agree);
          }

    branch_did : (part : Bool) → (part ≡ false → AreStill xs ys) → (part ≡ false → AreStill xs' ys') → (turn : ℕ) (s t : SlotState) (rest rest' : List ℕ) → Agree K s t
        → (word_if (is_new protocols h (part && comes_alone protocols h g) g) (word_at s g) ++ heard_in_order (picked (test s) ys ys') turn s) ++ rest
        ≡ (word_if (is_new protocols h (part && comes_alone protocols h g) g) (word_at t g) ++ heard_in_order (picked (test t) ys ys') turn t) ++ rest'
        → Did (word_if (part && comes_alone protocols h g) (word_at s g) ++ heard_in_order (picked (test s) xs xs') turn s) (word_if (part && comes_alone protocols h g) (word_at t g) ++ heard_in_order (picked (test t) xs xs') turn t)
        rest rest' (done (test s) s turn) (done (test t) t turn)
    branch_did true still still' turn s t rest rest' a e =
        let c = comes_alone protocols h g in
        let told : SlotState → List ℕ = λ z. word_if (is_new protocols h c g) (word_at z g) in
        let later : SlotState → List ℕ = λ z. heard_in_order (picked (test z) ys ys') turn z in
        let e' : told s ++ (later s ++ rest) ≡ told t ++ (later t ++ rest') = sym (append_assoc (told s) (later s) rest) ∙ e ∙ append_assoc (told t) (later t) rest' in
        let lw = learn_word c (knows protocols h g) (word_at s g) (word_at t g) (later s ++ rest) (later t ++ rest') (λ k. a.words g.0 k) e' in
        let same = by c refl lw.0 in
        let way = same_way (test s) (test t) (ap (λ w. nat_eq w 0) same) turn s t rest rest' a lw.1 in
        record {
          heard = both_words (word_if c (word_at s g)) (word_if c (word_at t g)) (heard_in_order (picked (test s) xs xs') turn s) (heard_in_order (picked (test t) xs xs') turn t) (word_if_same c (word_at s g) (word_at t g) lw.0) way.heard;
          rest_same = way.rest_same;
          agree = way.agree;
        }
      where
        by : (b : Bool) → comes_alone protocols h g ≡ b → (comes_alone protocols h g ≡ true → word_at s g ≡ word_at t g) → word_at s g ≡ word_at t g
        by true is came = came is
        by false is came = a.words g.0 (alone_known g is)
    branch_did false still still' turn s t rest rest' a e = apart_did (still refl) (still' refl) (test s) (test t) turn s t rest rest' a e

  -- ---- a statement in which the host takes no part
  hidden_word : (s : SlotState) (x : SlotId) (w : ℕ) → K.kept x.0 ≡ false → Agree K s (with_word x w s)
  hidden_word s x w off = record {
    words = λ y is. sym (word_put_other s.words x.0 y w (λ same. true≢false (sym is ∙ sym (ap K.kept same) ∙ off)));
    arrays = λ y is. refl;
    inputs = λ k is i. refl;
    hosts = refl;
    outputs = λ k is. refl;
  }

  hidden_array : (s : SlotState) (x : SlotId) (w : List ℕ) → K.kept x.0 ≡ false → Agree K s (with_array x w s)
  hidden_array s x w off = record {
    words = λ y is. refl;
    arrays = λ y is. sym (item_put_other [] s.arrays x.0 y w (λ same. true≢false (sym is ∙ sym (ap K.kept same) ∙ off)));
    inputs = λ k is i. refl;
    hosts = refl;
    outputs = λ k is. refl;
  }

  hidden_input : (s : SlotState) (k : ℕ) → nat_eq h.0 k ≡ false → Agree K s (in_world (after_input s.world k) s)
  hidden_input s k off = record {
    words = λ y is. refl;
    arrays = λ y is. refl;
    inputs = λ j is i. ap (λ z. slice_index z i) (sym (item_set_other [] s.world.inputs k j (later_words (slice_index_or s.world.inputs k [])) (λ same. true≢false (sym is ∙ sym (ap K.known same) ∙ off))));
    hosts = refl;
    outputs = λ j is. refl;
  }

  hidden_output : (s : SlotState) (k w : ℕ) → Agree K s (in_world (after_output s.world k w) s)
  hidden_output s k w = record {
    words = λ y is. refl;
    arrays = λ y is. refl;
    inputs = λ j is i. refl;
    hosts = sym (length_set s.world.outputs k (slice_index_or s.world.outputs k [] ++ w ∷ []));
    outputs = λ j is. absurd (true≢false (sym is));
  }

  none_come : (c : Bool) (other : SlotId → Bool) (ys : List SlotId) → c ≡ false → filter (λ y. c && other y) ys ≡ []
  none_come c other [] off = refl
  none_come c other (y ∷ ys) off = by c off (none_come c other ys off)
    where
      by : (b : Bool) → b ≡ false → filter (λ z. c && other z) ys ≡ [] → (if b && other y then y ∷ filter (λ z. c && other z) ys else filter (λ z. c && other z) ys) ≡ []
      by true e more = absurd (true≢false e)
      by false e more = more

  none_told : (x : SlotId) (ys : List SlotId) (s : SlotState) → ((y : SlotId) → comes protocols h y x ≡ false) → told_operands x ys s ≡ []
  none_told x [] s off = refl
  none_told x (y ∷ ys) s off =
      both_words (word_if (is_new protocols h (comes protocols h y x) y) (word_at s y)) [] (told_operands x ys s) [] (no_word (is_new protocols h (comes protocols h y x) y) (word_at s y) (ap (λ b. b && not (knows protocols h y)) (off y))) (none_told x ys s off)

  unsaid : (c : Bool) (y : SlotId) (w : ℕ) → c ≡ false → word_if (is_new protocols h c y) w ≡ []
  unsaid c y w off = no_word (is_new protocols h c y) w (ap (λ b. b && not (knows protocols h y)) off)

  right_still : (x : SlotId) (right : Right) (turn : ℕ) (s : SlotState) → IsLow x → InputStands x right → holds x ≡ false → list_any holds (named_by right) ≡ false
      → Still (right_heard protocols h x right s) (right_learnt protocols h x right s) s (in_world (after_right right s.world) s)
  right_still x (Lit n) turn s low at off offs = record { quiet = refl; untold = refl; agree = agree_refl K s }
  right_still x Turn turn s low at off offs = record { quiet = refl; untold = refl; agree = agree_refl K s }
  right_still x (Copy y) turn s low at off offs =
      let c = never_comes y x low off in record { quiet = no_word (comes protocols h y x) (word_at s y) c; untold = unsaid (comes protocols h y x) y (word_at s y) c; agree = agree_refl K s }
  right_still x (Apply op ys) turn s low at off offs = record {
    quiet = ap (map (word_at s)) (none_come (stands protocols h (has_clear h) x) (λ y. not (same_protocol (P y) (P x))) ys (not_standing x low off));
    untold = none_told x ys s (λ y. never_comes y x low off);
    agree = agree_refl K s;
  }
  right_still x (Input k) turn s low at off offs =
      let other : nat_eq h.0 k.0 ≡ false = same_turned h.0 k.0 ∙ sym (ap (has_clear h) at) ∙ not_known x low off in record { quiet = refl; untold = refl; agree = hidden_input s k.0 other }
  right_still x (Declassify y to) turn s low at off offs =
      let c = never_comes y x low off in record { quiet = no_word (comes protocols h y x) (word_at s y) c; untold = unsaid (comes protocols h y x) y (word_at s y) c; agree = agree_refl K s }
  right_still x (Endorse y to) turn s low at off offs =
      let c = never_comes y x low off in record { quiet = no_word (comes protocols h y x) (word_at s y) c; untold = unsaid (comes protocols h y x) y (word_at s y) c; agree = agree_refl K s }
  right_still x (Load v) turn s low at off offs =
      let c = never_comes v x low off in record { quiet = no_word (comes protocols h v x) (word_at s v) c; untold = unsaid (comes protocols h v x) v (word_at s v) c; agree = agree_refl K s }
  right_still x (Get v i) turn s low at off offs =
      let c = never_comes v x low off in
      let kept = (or_parts (holds v) (list_any holds (i ∷ [])) offs).0 in
      let ci : index_comes protocols h v i ≡ false = ap (λ b. b && comes_alone protocols h i) kept in
      let item = slice_index (array_at s v) (word_at s i) in
      record {
        quiet = both_words (word_if (index_comes protocols h v i) (word_at s i)) [] (word_if (comes protocols h v x) item) [] (no_word (index_comes protocols h v i) (word_at s i) ci) (no_word (comes protocols h v x) item c);
        untold = both_words (word_if (is_new protocols h (index_comes protocols h v i) i) (word_at s i)) [] (word_if (is_new protocols h (comes protocols h v x) v) item) [] (unsaid (index_comes protocols h v i) i (word_at s i) ci) (unsaid (comes protocols h v x) v item c);
        agree = agree_refl K s;
      }

  -- ---- blocks
  abbrev HS : Block → List Heard
  HS b = each (heard_step protocols h l) b

  abbrev LS : Block → List Heard
  LS b = each (learnt_step protocols h l) b

  -- both walks do the same, and read the same
  same_runs : (b : Block) → map run_of (LS b) ≡ map run_of (HS b)
  same_runs End = refl
  same_runs (Let x right rest) = ap (λ (fs : List Effect). stmt_effect (Stmt-F.Let x right) ∷ fs) (same_runs rest)
  same_runs (NewVar v y rest) = ap (λ (fs : List Effect). stmt_effect (Stmt-F.NewVar v y) ∷ fs) (same_runs rest)
  same_runs (NewArray v size rest) = ap (λ (fs : List Effect). stmt_effect (Stmt-F.NewArray v size) ∷ fs) (same_runs rest)
  same_runs (Store v y rest) = ap (λ (fs : List Effect). stmt_effect (Stmt-F.Store v y) ∷ fs) (same_runs rest)
  same_runs (Put v i y rest) = ap (λ (fs : List Effect). stmt_effect (Stmt-F.Put v i y) ∷ fs) (same_runs rest)
  same_runs (Output y k offset rest) = ap (λ (fs : List Effect). stmt_effect (Stmt-F.Output y k offset) ∷ fs) (same_runs rest)
  same_runs (If g a b offset rest) =
      ap₂ (λ (f : Effect) (fs : List Effect). f ∷ fs) (ap₂ (λ (p q : List Effect). stmt_effect (Stmt-F.If g p q offset)) (same_runs a) (same_runs b)) (same_runs rest)
  same_runs (For count body rest) = ap₂ (λ (f : Effect) (fs : List Effect). f ∷ fs) (ap (λ (p : List Effect). stmt_effect (Stmt-F.For count p)) (same_runs body)) (same_runs rest)

  same_reads : (b : Block) → map read_of (LS b) ≡ map read_of (HS b)
  same_reads End = refl
  same_reads (Let x right rest) = ap (λ (rs : List Read). read_step l (Stmt-F.Let x right) ∷ rs) (same_reads rest)
  same_reads (NewVar v y rest) = ap (λ (rs : List Read). read_step l (Stmt-F.NewVar v y) ∷ rs) (same_reads rest)
  same_reads (NewArray v size rest) = ap (λ (rs : List Read). read_step l (Stmt-F.NewArray v size) ∷ rs) (same_reads rest)
  same_reads (Store v y rest) = ap (λ (rs : List Read). read_step l (Stmt-F.Store v y) ∷ rs) (same_reads rest)
  same_reads (Put v i y rest) = ap (λ (rs : List Read). read_step l (Stmt-F.Put v i y) ∷ rs) (same_reads rest)
  same_reads (Output y k offset rest) = ap (λ (rs : List Read). read_step l (Stmt-F.Output y k offset) ∷ rs) (same_reads rest)
  same_reads (If g a b offset rest) =
      ap₂ (λ (r : Read) (rs : List Read). r ∷ rs) (ap₂ (λ (p q : List Read). read_step l (Stmt-F.If g p q offset)) (same_reads a) (same_reads b)) (same_reads rest)
  same_reads (For count body rest) = ap₂ (λ (r : Read) (rs : List Read). r ∷ rs) (ap (λ (p : List Read). read_step l (Stmt-F.For count p)) (same_reads body)) (same_reads rest)

  same_part : (g : SlotId) (a b : Block) → is_part protocols h g (LS a) (LS b) ≡ is_part protocols h g (HS a) (HS b)
  same_part g a b = ap₂ (λ (p q : List Read). takes_part protocols h (guard_of g 1 (p ++ q))) (same_reads a) (same_reads b)

  -- each input stands at its host alone
  abbrev pub InputsStand : Block → Type 0
  InputsStand End = Unit {0}
  InputsStand (Let x right rest) = InputStands x right × InputsStand rest
  InputsStand (NewVar v y rest) = InputsStand rest
  InputsStand (NewArray v size rest) = InputsStand rest
  InputsStand (Store v y rest) = InputsStand rest
  InputsStand (Put v i y rest) = InputsStand rest
  InputsStand (Output y k offset rest) = InputsStand rest
  InputsStand (If g a b offset rest) = InputsStand a × (InputsStand b × InputsStand rest)
  InputsStand (For count body rest) = InputsStand body × InputsStand rest

  abbrev low_block : Block → Bool
  low_block b = list_all (λ x. x) (each (stmt_below (length protocols)) b)

  abbrev low : SlotId → Bool
  low x = is_below (length protocols) x

  -- the host is told nothing, and nothing that is named is kept at it
  record IsApart (rs : List Read) : Type 0 where
    told : list_any (same_host h) (all_told rs) ≡ false
    named : list_any holds (all_named rs) ≡ false

  apart_both : (xs ys : List Read) → IsApart (xs ++ ys) → IsApart xs × IsApart ys
  apart_both xs ys apart =
      let t = split_any (same_host h) (λ (r : Read). r.told) xs ys apart.told in
      let n = split_any holds (λ (r : Read). r.named) xs ys apart.named in
      (record { told = t.0; named = n.0 }, record { told = t.1; named = n.1 })

  both_apart : (xs ys : List Read) → IsApart xs → IsApart ys → IsApart (xs ++ ys)
  both_apart xs ys a b = record { told = join_any (same_host h) (λ (r : Read). r.told) xs ys a.told b.told; named = join_any holds (λ (r : Read). r.named) xs ys a.named b.named }

  abbrev takes : List Read → Bool
  takes rs = list_any (same_host h) (all_told rs) || list_any holds (all_named rs)

  apart_of : (rs : List Read) → takes rs ≡ false → IsApart rs
  apart_of rs off = let parts = or_parts (list_any (same_host h) (all_told rs)) (list_any holds (all_named rs)) off in record { told = parts.0; named = parts.1 }

  takes_not : (rs : List Read) → IsApart rs → takes rs ≡ false
  takes_not rs apart = ap₂ (λ (a b : Bool). a || b) apart.told apart.named

  -- what is named first, and what is read after it
  first_named : (xs : List SlotId) (rs : List Read) → list_any holds (xs ++ all_named rs) ≡ false → (list_any holds xs ≡ false) × (list_any holds (all_named rs) ≡ false)
  first_named xs rs off = any_both holds xs (all_named rs) off

  still_block : (b : Block) → low_block b ≡ true → InputsStand b → IsApart (map read_of (HS b)) → AreStill (HS b) (LS b)
  still_block End lows ins apart = λ turn s. record { quiet = refl; untold = refl; agree = agree_refl K s }
  still_block (Let x right rest) lows ins apart =
      let here = and_left (low x && right_below (length protocols) right) (low_block rest) lows in
      let low_x = and_left (low x) (right_below (length protocols) right) here in
      let n = first_named (x ∷ named_by right) (map read_of (HS rest)) apart.named in
      let off = or_parts (holds x) (list_any holds (named_by right)) n.0 in
      then_still (heard_step protocols h l (Stmt-F.Let x right)) (learnt_step protocols h l (Stmt-F.Let x right)) (HS rest) (LS rest) refl
      (λ turn s.
      let mid = in_world (after_right right s.world) s in
      let r = right_still x right turn s low_x ins.0 off.0 off.1 in
      record { quiet = r.quiet; untold = r.untold; agree = agree_trans K s mid (with_word x (right_word right turn s) mid) r.agree (hidden_word mid x (right_word right turn s) (not_known x low_x off.0)) })
      (still_block rest (and_right (low x && right_below (length protocols) right) (low_block rest) lows) ins.1 (record { told = apart.told; named = n.1 }))
  still_block (NewVar v y rest) lows ins apart =
      let here = and_left (low v && low y) (low_block rest) lows in
      let low_v = and_left (low v) (low y) here in
      let n = first_named (v ∷ y ∷ []) (map read_of (HS rest)) apart.named in
      let off = (or_parts (holds v) (list_any holds (y ∷ [])) n.0).0 in
      let c = never_comes y v low_v off in
      then_still (heard_step protocols h l (Stmt-F.NewVar v y)) (learnt_step protocols h l (Stmt-F.NewVar v y)) (HS rest) (LS rest) refl
      (λ turn s. record { quiet = no_word (comes protocols h y v) (word_at s y) c; untold = unsaid (comes protocols h y v) y (word_at s y) c; agree = hidden_word s v (word_at s y) (not_known v low_v off) })
      (still_block rest (and_right (low v && low y) (low_block rest) lows) ins (record { told = apart.told; named = n.1 }))
  still_block (NewArray v size rest) lows ins apart =
      let low_v = and_left (low v) (low_block rest) lows in
      let n = first_named (v ∷ []) (map read_of (HS rest)) apart.named in
      let off = (or_parts (holds v) false n.0).0 in
      then_still (heard_step protocols h l (Stmt-F.NewArray v size)) (learnt_step protocols h l (Stmt-F.NewArray v size)) (HS rest) (LS rest) refl
      (λ turn s. record { quiet = refl; untold = refl; agree = hidden_array s v (replicate size 0) (not_known v low_v off) })
      (still_block rest (and_right (low v) (low_block rest) lows) ins (record { told = apart.told; named = n.1 }))
  still_block (Store v y rest) lows ins apart =
      let here = and_left (low v && low y) (low_block rest) lows in
      let low_v = and_left (low v) (low y) here in
      let n = first_named (v ∷ y ∷ []) (map read_of (HS rest)) apart.named in
      let off = (or_parts (holds v) (list_any holds (y ∷ [])) n.0).0 in
      let c = never_comes y v low_v off in
      then_still (heard_step protocols h l (Stmt-F.Store v y)) (learnt_step protocols h l (Stmt-F.Store v y)) (HS rest) (LS rest) refl
      (λ turn s. record { quiet = no_word (comes protocols h y v) (word_at s y) c; untold = unsaid (comes protocols h y v) y (word_at s y) c; agree = hidden_word s v (word_at s y) (not_known v low_v off) })
      (still_block rest (and_right (low v && low y) (low_block rest) lows) ins (record { told = apart.told; named = n.1 }))
  still_block (Put v i y rest) lows ins apart =
      let here = and_left (low v && low i && low y) (low_block rest) lows in
      let low_v = and_left (low v) (low i) (and_left (low v && low i) (low y) here) in
      let n = first_named (v ∷ i ∷ y ∷ []) (map read_of (HS rest)) apart.named in
      let off = (or_parts (holds v) (list_any holds (i ∷ y ∷ [])) n.0).0 in
      let c = never_comes y v low_v off in
      let ci : index_comes protocols h v i ≡ false = ap (λ b. b && comes_alone protocols h i) off in
      then_still (heard_step protocols h l (Stmt-F.Put v i y)) (learnt_step protocols h l (Stmt-F.Put v i y)) (HS rest) (LS rest) refl
      (λ turn s. record {
        quiet = both_words (word_if (index_comes protocols h v i) (word_at s i)) [] (word_if (comes protocols h y v) (word_at s y)) [] (no_word (index_comes protocols h v i) (word_at s i) ci) (no_word (comes protocols h y v) (word_at s y) c);
        untold = both_words (word_if (is_new protocols h (index_comes protocols h v i) i) (word_at s i)) [] (word_if (is_new protocols h (comes protocols h y v) y) (word_at s y)) [] (unsaid (index_comes protocols h v i) i (word_at s i) ci) (unsaid (comes protocols h y v) y (word_at s y) c);
        agree = hidden_array s v (slice_set (array_at s v) (word_at s i) (word_at s y)) (not_known v low_v off);
      })
      (still_block rest (and_right (low v && low i && low y) (low_block rest) lows) ins (record { told = apart.told; named = n.1 }))
  still_block (Output y k offset rest) lows ins apart =
      let n = first_named (y ∷ []) (map read_of (HS rest)) apart.named in
      let t = or_parts (same_host h k) (list_any (same_host h) (all_told (map read_of (HS rest)))) apart.told in
      let c : (same_host h k && comes_alone protocols h y) ≡ false = ap (λ b. b && comes_alone protocols h y) t.0 in
      then_still (heard_step protocols h l (Stmt-F.Output y k offset)) (learnt_step protocols h l (Stmt-F.Output y k offset)) (HS rest) (LS rest) refl
      (λ turn s. record { quiet = no_word (same_host h k && comes_alone protocols h y) (word_at s y) c; untold = unsaid (same_host h k && comes_alone protocols h y) y (word_at s y) c; agree = hidden_output s k.0 (word_at s y) })
      (still_block rest (and_right (low y) (low_block rest) lows) ins (record { told = t.1; named = n.1 }))
  still_block (If g a b offset rest) lows ins apart =
      let here = and_left (low g && low_block a && low_block b) (low_block rest) lows in
      let first = and_left (low g && low_block a) (low_block b) here in
      let ra = map read_of (HS a) in
      let rb = map read_of (HS b) in
      let rr = map read_of (HS rest) in
      let n = first_named (g ∷ all_named ra ++ all_named rb) rr apart.named in
      let t = any_both (same_host h) (all_told ra ++ all_told rb) (all_told rr) apart.told in
      let inner_named = any_both holds (all_named ra) (all_named rb) (or_parts (holds g) (list_any holds (all_named ra ++ all_named rb)) n.0).1 in
      let inner_told = any_both (same_host h) (all_told ra) (all_told rb) t.0 in
      let apart_a : IsApart ra = record { told = inner_told.0; named = inner_named.0 } in
      let apart_b : IsApart rb = record { told = inner_told.1; named = inner_named.1 } in
      let off : is_part protocols h g (HS a) (HS b) ≡ false = takes_not (ra ++ rb) (both_apart ra rb apart_a apart_b) in
      let still = still_block a (and_right (low g) (low_block a) first) ins.0 apart_a in
      let still' = still_block b (and_right (low g && low_block a) (low_block b) here) ins.1.0 apart_b in
      let c : (is_part protocols h g (HS a) (HS b) && comes_alone protocols h g) ≡ false = ap (λ z. z && comes_alone protocols h g) off in
      let c' : (is_part protocols h g (LS a) (LS b) && comes_alone protocols h g) ≡ false = ap (λ z. z && comes_alone protocols h g) (same_part g a b ∙ off) in
      then_still (heard_step protocols h l (Stmt-F.If g (HS a) (HS b) offset)) (learnt_step protocols h l (Stmt-F.If g (LS a) (LS b) offset)) (HS rest) (LS rest)
      (ap₂ (λ (p q : List Effect). stmt_effect (Stmt-F.If g p q offset)) (same_runs a) (same_runs b))
      (λ turn s.
      let z = nat_eq (word_at s g) 0 in
      let one = still_way (HS a) (HS b) (LS a) (LS b) still still' z turn s in
      record {
        quiet = both_words (word_if (is_part protocols h g (HS a) (HS b) && comes_alone protocols h g) (word_at s g)) [] (heard_in_order (if z then HS b else HS a) turn s) [] (no_word (is_part protocols h g (HS a) (HS b) && comes_alone protocols h g) (word_at s g) c) one.quiet;
        untold = both_words (word_if (is_new protocols h (is_part protocols h g (LS a) (LS b) && comes_alone protocols h g) g) (word_at s g)) [] (heard_in_order (if z then LS b else LS a) turn s) []
            (unsaid (is_part protocols h g (LS a) (LS b) && comes_alone protocols h g) g (word_at s g) c') one.untold;
        agree = one.agree;
      })
      (still_block rest (and_right (low g && low_block a && low_block b) (low_block rest) lows) ins.1.1 (record { told = t.1; named = n.1 }))
    where
      still_way : (xs xs' ys ys' : List Heard) → AreStill xs ys → AreStill xs' ys' → (z : Bool) (turn : ℕ) (s : SlotState)
          → Still (heard_in_order (if z then xs' else xs) turn s) (heard_in_order (if z then ys' else ys) turn s) s (in_order (if z then map run_of xs' else map run_of xs) turn s)
      still_way xs xs' ys ys' still still' true turn s = still' turn s
      still_way xs xs' ys ys' still still' false turn s = still turn s
  still_block (For count body rest) lows ins apart =
      let rb = map read_of (HS body) in
      let rr = map read_of (HS rest) in
      let n = any_both holds (all_named rb) (all_named rr) apart.named in
      let t = any_both (same_host h) (all_told rb) (all_told rr) apart.told in
      then_still (heard_step protocols h l (Stmt-F.For count (HS body))) (learnt_step protocols h l (Stmt-F.For count (LS body))) (HS rest) (LS rest)
      (ap (λ (p : List Effect). stmt_effect (Stmt-F.For count p)) (same_runs body))
      (λ turn s. loop_still count (HS body) (LS body) (same_runs body) (still_block body (and_left (low_block body) (low_block rest) lows) ins.0 (record { told = t.0; named = n.0 })) s)
      (still_block rest (and_right (low_block body) (low_block rest) lows) ins.1 (record { told = t.1; named = n.1 }))

  -- a word that is moved to where a slot stands, and is stored there
  stored : (v y : SlotId) (s t : SlotState) (rest rest' : List ℕ) → IsLow v → Agree K s t
      → word_if (is_new protocols h (comes protocols h y v) y) (word_at s y) ++ rest ≡ word_if (is_new protocols h (comes protocols h y v) y) (word_at t y) ++ rest'
      → Did (word_if (comes protocols h y v) (word_at s y)) (word_if (comes protocols h y v) (word_at t y)) rest rest' (with_word v (word_at s y) s) (with_word v (word_at t y) t)
  stored v y s t rest rest' low_v a e =
      let m = one_did y v s t rest rest' low_v a e in
      record { heard = word_if_same (comes protocols h y v) (word_at s y) (word_at t y) m.came; rest_same = m.rest_same; agree = agree_word K s t v (word_at s y) (word_at t y) a m.same }

  pub teach_block : (b : Block) → low_block b ≡ true → InputsStand b → TeachAll (HS b) (LS b)
  teach_block End lows ins = λ turn s t rest rest' a e. record { heard = refl; rest_same = e; agree = a }
  teach_block (Let x right rest) lows ins =
      let here = and_left (low x && right_below (length protocols) right) (low_block rest) lows in
      then_teach (heard_step protocols h l (Stmt-F.Let x right)) (learnt_step protocols h l (Stmt-F.Let x right)) (HS rest) (LS rest) refl
      (λ turn s t more more' a e.
      let r = right_did x right turn s t more more' (and_left (low x) (right_below (length protocols) right) here) (and_right (low x) (right_below (length protocols) right) here) ins.0 a e in
      record {
        heard = r.heard;
        rest_same = r.rest_same;
        agree = agree_word K (in_world (after_right right s.world) s) (in_world (after_right right t.world) t) x (right_word right turn s) (right_word right turn t) (agree_after_right K right s t a) r.same;
      })
      (teach_block rest (and_right (low x && right_below (length protocols) right) (low_block rest) lows) ins.1)
  teach_block (NewVar v y rest) lows ins =
      let low_v = and_left (low v) (low y) (and_left (low v && low y) (low_block rest) lows) in
      then_teach (heard_step protocols h l (Stmt-F.NewVar v y)) (learnt_step protocols h l (Stmt-F.NewVar v y)) (HS rest) (LS rest) refl
      (λ turn s t more more' a e. stored v y s t more more' low_v a e) (teach_block rest (and_right (low v && low y) (low_block rest) lows) ins)
  teach_block (NewArray v size rest) lows ins =
      then_teach (heard_step protocols h l (Stmt-F.NewArray v size)) (learnt_step protocols h l (Stmt-F.NewArray v size)) (HS rest) (LS rest) refl
      (λ turn s t more more' a e. record { heard = refl; rest_same = e; agree = agree_array K s t v (replicate size 0) (replicate size 0) a (λ k. refl) })
      (teach_block rest (and_right (low v) (low_block rest) lows) ins)
  teach_block (Store v y rest) lows ins =
      let low_v = and_left (low v) (low y) (and_left (low v && low y) (low_block rest) lows) in
      then_teach (heard_step protocols h l (Stmt-F.Store v y)) (learnt_step protocols h l (Stmt-F.Store v y)) (HS rest) (LS rest) refl
      (λ turn s t more more' a e. stored v y s t more more' low_v a e) (teach_block rest (and_right (low v && low y) (low_block rest) lows) ins)
  teach_block (Put v i y rest) lows ins =
      let low_v = and_left (low v) (low i) (and_left (low v && low i) (low y) (and_left (low v && low i && low y) (low_block rest) lows)) in
      let ci = index_comes protocols h v i in
      let cy = comes protocols h y v in
      then_teach (heard_step protocols h l (Stmt-F.Put v i y)) (learnt_step protocols h l (Stmt-F.Put v i y)) (HS rest) (LS rest) refl
      (λ turn s t more more' a e.
      let index : SlotState → List ℕ = λ z. word_if (is_new protocols h ci i) (word_at z i) in
      let word : SlotState → List ℕ = λ z. word_if (is_new protocols h cy y) (word_at z y) in
      let e' : index s ++ (word s ++ more) ≡ index t ++ (word t ++ more') = sym (append_assoc (index s) (word s) more) ∙ e ∙ append_assoc (index t) (word t) more' in
      let first = learn_word ci (knows protocols h i) (word_at s i) (word_at t i) (word s ++ more) (word t ++ more') (λ k. a.words i.0 k) e' in
      let m = one_did y v s t more more' low_v a first.1 in
      record {
        heard = both_words (word_if ci (word_at s i)) (word_if ci (word_at t i)) (word_if cy (word_at s y)) (word_if cy (word_at t y)) (word_if_same ci (word_at s i) (word_at t i) first.0) (word_if_same cy (word_at s y) (word_at t y) m.came);
        rest_same = m.rest_same;
        agree = agree_array K s t v (slice_set (array_at s v) (word_at s i) (word_at s y)) (slice_set (array_at t v) (word_at t i) (word_at t y)) a
            (λ k. rw (a.arrays v.0 k, index_known v i (word_at s i) (word_at t i) low_v first.0 (λ z. a.words i.0 z) k, m.same k) refl);
      })
      (teach_block rest (and_right (low v && low i && low y) (low_block rest) lows) ins)
  teach_block (Output y k offset rest) lows ins =
      let c = same_host h k && comes_alone protocols h y in
      then_teach (heard_step protocols h l (Stmt-F.Output y k offset)) (learnt_step protocols h l (Stmt-F.Output y k offset)) (HS rest) (LS rest) refl
      (λ turn s t more more' a e.
      let first = learn_word c (knows protocols h y) (word_at s y) (word_at t y) more more' (λ z. a.words y.0 z) e in
      record { heard = word_if_same c (word_at s y) (word_at t y) first.0; rest_same = first.1; agree = agree_output K s t k.0 (word_at s y) (word_at t y) a (λ z. absurd (true≢false (sym z))) })
      (teach_block rest (and_right (low y) (low_block rest) lows) ins)
  teach_block (If g a b offset rest) lows ins =
      let here = and_left (low g && low_block a && low_block b) (low_block rest) lows in
      let first = and_left (low g && low_block a) (low_block b) here in
      let low_a = and_right (low g) (low_block a) first in
      let low_b = and_right (low g && low_block a) (low_block b) here in
      let part = is_part protocols h g (HS a) (HS b) in
      let apart : part ≡ false → IsApart (map read_of (HS a)) × IsApart (map read_of (HS b)) = λ off. apart_both (map read_of (HS a)) (map read_of (HS b)) (apart_of (map read_of (HS a) ++ map read_of (HS b)) off) in
      then_teach (heard_step protocols h l (Stmt-F.If g (HS a) (HS b) offset)) (learnt_step protocols h l (Stmt-F.If g (LS a) (LS b) offset)) (HS rest) (LS rest)
      (ap₂ (λ (p q : List Effect). stmt_effect (Stmt-F.If g p q offset)) (same_runs a) (same_runs b))
      (λ turn s t more more' agreed e.
      let told : Bool → SlotState → List ℕ = λ z w. word_if (is_new protocols h (z && comes_alone protocols h g) g) (word_at w g) ++ heard_in_order (taken g (LS a) (LS b) w) turn w in
      branch_did g (HS a) (HS b) (LS a) (LS b) (teach_block a low_a ins.0) (teach_block b low_b ins.1.0) part (λ off. still_block a low_a ins.0 (apart off).0) (λ off. still_block b low_b ins.1.0 (apart off).1) turn s t more more' agreed
      (subst (λ (z : Bool). told z s ++ more ≡ told z t ++ more') (same_part g a b) e))
      (teach_block rest (and_right (low g && low_block a && low_block b) (low_block rest) lows) ins.1.1)
  teach_block (For count body rest) lows ins =
      then_teach (heard_step protocols h l (Stmt-F.For count (HS body))) (learnt_step protocols h l (Stmt-F.For count (LS body))) (HS rest) (LS rest)
      (ap (λ (p : List Effect). stmt_effect (Stmt-F.For count p)) (same_runs body))
      (λ turn s t more more' a e. loop_teach count (HS body) (LS body) (same_runs body) (teach_block body (and_left (low_block body) (low_block rest) lows) ins.0) s t more more' a e)
      (teach_block rest (and_right (low_block body) (low_block rest) lows) ins.1)
