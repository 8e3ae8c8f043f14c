-- Slots keep their kinds while more is made, and what goes into slots of the kind Bool is 0 or 1.
use Rattle.std.proofs.Common.{◌≡◌, ℕ, zero, suc, ◌+◌, ◌<◌, ◌≤◌, Bool, true, false, true≢false, ◌&&◌, ◌||◌, not, List, [], ◌∷◌, ◌++◌, length, map, slice_index_or, Option, refl, sym, ap, ◌∙◌, subst, rules, arith}
use Rattle.std.specs.List.{list_all}
use Rattle.std.proofs.lemmas.List.Folds.{list_all-append, list_all-map}
use Rattle.vd_base.specs.declared.ids.SlotId.{SlotId}
use Rattle.vd_base.specs.declared.ids.HostId.{HostId}
use Rattle.vd_base.specs.declared.operations.Kind.{Kind}
use Rattle.vd_base.specs.declared.operations.Kind.TheVariants.{Word}
use Rattle.vd_core.specs.declared.normal.Right.{Right}
use Rattle.vd_core.specs.declared.normal.Slot.{Slot}
use Rattle.vd_core.specs.declared.normal.Stmt.{Stmt, Let, NewVar, NewArray, Store, Put, Output, If, For}
use Rattle.vd_core.specs.declared.normal.Stmt.TheFolds.{the_lemmas}
use Rattle.vd_core.specs.declared.normal.Stmt.TheOpen.{Stmt-F}
use Rattle.vd_core.specs.declared.source.Ident.{Ident}
use Rattle.vd_core.specs.declared.source.WrittenLabel.{WrittenLabel}
use Rattle.vd_core.specs.Facts.{meets, all_meet}
use Rattle.vd_elaborate.specs.declared.anf.here.Here.{Here}
use Rattle.vd_elaborate.specs.Normal.{Made, slot, nameless, with_slot, with_stmt, with_name_at, renamed, emitted, kind_at}
use Rattle.vd_mux.specs.BooleanGuards.{is_truth_kind, right_is_truth, keeps_truth}

abbrev pub truth_by : (ℕ → Kind) → SlotId → Bool
truth_by kinds x = is_truth_kind (kinds x.0)

abbrev pub test_by : (ℕ → Kind) → Stmt-F Bool → Bool
test_by kinds = keeps_truth (truth_by kinds)

-- these are the kinds of the slots so far
abbrev pub Agrees : (ℕ → Kind) → Made → Type 0
Agrees kinds m = (k : ℕ) → k < m.next → kinds k ≡ kind_at m k

-- a slot that is made has this kind
pub record Has (m : Made) (k : ℕ) (kind : Kind) : Type 0 where
  pub low : k < m.next
  pub is : kind_at m k ≡ kind

-- there are as many slots as numbers, and the statements meet the test whatever kinds later slots have
pub record Sound (m : Made) : Type 0 where
  pub sized : length m.slots ≡ m.next
  pub met : (kinds : ℕ → Kind) → Agrees kinds m → all_meet (test_by kinds) m.body ≡ true

pub record Grows (m m' : Made) : Type 0 where
  pub next : m.next ≤ m'.next
  pub kinds : (k : ℕ) → k < m.next → kind_at m' k ≡ kind_at m k

pub record Keeps (m m' : Made) : Type 0 where
  pub sound : Sound m'
  pub grows : Grows m m'

pub record Makes (m : Made) (p : ℕ × Made) (kind : Kind) : Type 0 where
  pub sound : Sound p.1
  pub grows : Grows m p.1
  pub has : Has p.1 p.0 kind

pub grows_none : (m : Made) → Grows m m
grows_none m = record { next = omega arith; kinds = λ k lt. refl }

pub grows_after : (m m1 m2 : Made) → Grows m m1 → Grows m1 m2 → Grows m m2
grows_after m m1 m2 a b =
    let first = a.next in
    let second = b.next in
    record { next = omega (arith, first, second); kinds = λ k lt. b.kinds k (omega (arith, first, lt)) ∙ a.kinds k lt }

pub has_stays : (m m' : Made) (k : ℕ) (kind : Kind) → Grows m m' → Has m k kind → Has m' k kind
has_stays m m' k kind g h =
    let more = g.next in
    let low = h.low in
    record { low = omega (arith, more, low); is = g.kinds k h.low ∙ h.is }

pub agrees_back : (m m' : Made) (kinds : ℕ → Kind) → Grows m m' → Agrees kinds m' → Agrees kinds m
agrees_back m m' kinds g a = λ k lt. let more = g.next in a k (omega (arith, more, lt)) ∙ g.kinds k lt

pub kind_is : (m : Made) (kinds : ℕ → Kind) (k : ℕ) (kind : Kind) → Agrees kinds m → Has m k kind → kinds k ≡ kind
kind_is m kinds k kind a h = a k h.low ∙ h.is

pub then_keeps : (m m1 m2 : Made) → Grows m m1 → Keeps m1 m2 → Keeps m m2
then_keeps m m1 m2 g k = record { sound = k.sound; grows = grows_after m m1 m2 g k.grows }

pub then_makes : (m m1 : Made) (q : ℕ × Made) (kind : Kind) → Grows m m1 → Makes m1 q kind → Makes m q kind
then_makes m m1 q kind g k = record { sound = k.sound; grows = grows_after m m1 q.1 g k.grows; has = k.has }

-- ---- one slot more

kind_old : (xs : List Slot) (entry : Slot) (k : ℕ) → k < length xs → slice_index_or (map (λ (s : Slot). s.kind) (xs ++ entry ∷ [])) k Word ≡ slice_index_or (map (λ (s : Slot). s.kind) xs) k Word
kind_old [] entry k h = absurd (omega arith)
kind_old (x ∷ xs) entry zero h = refl
kind_old (x ∷ xs) entry (suc k) h = kind_old xs entry k (omega arith)

kind_last : (xs : List Slot) (entry : Slot) → slice_index_or (map (λ (s : Slot). s.kind) (xs ++ entry ∷ [])) (length xs) Word ≡ entry.kind
kind_last [] entry = refl
kind_last (x ∷ xs) entry = kind_last xs entry

length_more : (xs : List Slot) (entry : Slot) → length (xs ++ entry ∷ []) ≡ length xs + 1
length_more [] entry = refl
length_more (x ∷ xs) entry = let rest = length_more xs entry in omega arith

with_true : (b : Bool) → b ≡ true → (b && true) ≡ true
with_true b e = rw e refl

pub push_met : (test : Stmt-F Bool → Bool) (body : List Stmt) (x : Stmt) → meets test x ≡ true → all_meet test body ≡ true → all_meet test (body ++ x ∷ []) ≡ true
push_met test body x e h = list_all-append (meets test) body (x ∷ []) ∙ rw (h, e) refl

module _ (entry : Slot) (s : Stmt) (m : Made) (sound : Sound m) where
  abbrev made : Made
  made = (with_slot entry s m).1

  pub slot_grows : Grows m made
  slot_grows = record { next = omega arith; kinds = λ k lt. kind_old m.slots entry k (subst (λ n. k < n) (sym sound.sized) lt) }

  pub slot_has : Has made m.next entry.kind
  slot_has = record { low = omega arith; is = ap (λ k. slice_index_or (map (λ (e : Slot). e.kind) (m.slots ++ entry ∷ [])) k Word) (sym sound.sized) ∙ kind_last m.slots entry }

  pub slot_sound : ((kinds : ℕ → Kind) → Agrees kinds made → meets (test_by kinds) s ≡ true) → Sound made
  slot_sound fits =
      record {
        sized = length_more m.slots entry ∙ ap (λ n. n + 1) sound.sized;
        met = λ kinds a. push_met (test_by kinds) m.body s (fits kinds a) (sound.met kinds (agrees_back m made kinds slot_grows a));
      }

-- ---- one statement more

pub stmt_keeps : (s : Stmt) (m : Made) → Sound m → ((kinds : ℕ → Kind) → Agrees kinds m → meets (test_by kinds) s ≡ true) → Keeps m (with_stmt s m)
stmt_keeps s m sound fits =
    record {
      sound = record { sized = sound.sized; met = λ kinds a. push_met (test_by kinds) m.body s (fits kinds a) (sound.met kinds a) };
      grows = record { next = omega arith; kinds = λ k lt. refl };
    }

-- ---- what a statement has to keep

implied : (a b : Bool) → (a ≡ true → b ≡ true) → (not a || b) ≡ true
implied true b h = h refl
implied false b h = refl

module _ (test : Stmt-F Bool → Bool) where
  let_is : (x : SlotId) (r : Right) → meets test (Let x r) ≡ (test (Stmt-F.Let x r) && true)
  let_is x r = search (rules, the_lemmas)

  var_is : (v x : SlotId) → meets test (NewVar v x) ≡ (test (Stmt-F.NewVar v x) && true)
  var_is v x = search (rules, the_lemmas)

  array_is : (v : SlotId) (n : ℕ) → meets test (NewArray v n) ≡ (test (Stmt-F.NewArray v n) && true)
  array_is v n = search (rules, the_lemmas)

  store_is : (v x : SlotId) → meets test (Store v x) ≡ (test (Stmt-F.Store v x) && true)
  store_is v x = search (rules, the_lemmas)

  put_is : (v i x : SlotId) → meets test (Put v i x) ≡ (test (Stmt-F.Put v i x) && true)
  put_is v i x = search (rules, the_lemmas)

  output_is : (x : SlotId) (h : HostId) (offset : ℕ) → meets test (Output x h offset) ≡ (test (Stmt-F.Output x h offset) && true)
  output_is x h offset = search (rules, the_lemmas)

  if_is : (x : SlotId) (a b : List Stmt) (offset : ℕ) → meets test (If x a b offset)
      ≡ (test (Stmt-F.If x (map (meets test) a) (map (meets test) b) offset) && (list_all (λ c. c) (map (meets test) a) && list_all (λ c. c) (map (meets test) b)))
  if_is x a b offset = search (rules, the_lemmas)

  for_is : (n : ℕ) (body : List Stmt) → meets test (For n body) ≡ (test (Stmt-F.For n (map (meets test) body)) && list_all (λ c. c) (map (meets test) body))
  for_is n body = search (rules, the_lemmas)

  all_here : (body : List Stmt) → all_meet test body ≡ true → list_all (λ c. c) (map (meets test) body) ≡ true
  all_here body h = list_all-map (λ c. c) (meets test) body ∙ h

module _ (kinds : ℕ → Kind) where
  pub let_met : (x : SlotId) (r : Right) → (truth_by kinds x ≡ true → right_is_truth (truth_by kinds) r ≡ true) → meets (test_by kinds) (Let x r) ≡ true
  let_met x r h = let_is (test_by kinds) x r ∙ with_true _ (implied (truth_by kinds x) (right_is_truth (truth_by kinds) r) h)

  pub var_met : (v x : SlotId) → (truth_by kinds v ≡ true → truth_by kinds x ≡ true) → meets (test_by kinds) (NewVar v x) ≡ true
  var_met v x h = var_is (test_by kinds) v x ∙ with_true _ (implied (truth_by kinds v) (truth_by kinds x) h)

  pub array_met : (v : SlotId) (n : ℕ) → meets (test_by kinds) (NewArray v n) ≡ true
  array_met v n = array_is (test_by kinds) v n

  pub store_met : (v x : SlotId) → (truth_by kinds v ≡ true → truth_by kinds x ≡ true) → meets (test_by kinds) (Store v x) ≡ true
  store_met v x h = store_is (test_by kinds) v x ∙ with_true _ (implied (truth_by kinds v) (truth_by kinds x) h)

  pub put_met : (v i x : SlotId) → (truth_by kinds v ≡ true → truth_by kinds x ≡ true) → meets (test_by kinds) (Put v i x) ≡ true
  put_met v i x h = put_is (test_by kinds) v i x ∙ with_true _ (implied (truth_by kinds v) (truth_by kinds x) h)

  pub output_met : (x : SlotId) (h : HostId) (offset : ℕ) → meets (test_by kinds) (Output x h offset) ≡ true
  output_met x h offset = output_is (test_by kinds) x h offset

  pub if_met : (x : SlotId) (a b : List Stmt) (offset : ℕ) → truth_by kinds x ≡ true → all_meet (test_by kinds) a ≡ true → all_meet (test_by kinds) b ≡ true → meets (test_by kinds) (If x a b offset) ≡ true
  if_met x a b offset e ha hb = if_is (test_by kinds) x a b offset ∙ rw (e, all_here (test_by kinds) a ha, all_here (test_by kinds) b hb) refl

  pub for_met : (n : ℕ) (body : List Stmt) → all_meet (test_by kinds) body ≡ true → meets (test_by kinds) (For n body) ≡ true
  for_met n body h = for_is (test_by kinds) n body ∙ all_here (test_by kinds) body h

-- ---- a binding without a name

pub emit : (here : Here) (kind : Kind) (r : Right) (m : Made) → Sound m → ((kinds : ℕ → Kind) → Agrees kinds m → is_truth_kind kind ≡ true → right_is_truth (truth_by kinds) r ≡ true) → Makes m (emitted here kind r m) kind
emit here kind r m sound fits =
    let entry = nameless here kind in
    let s = Let (slot m.next) r in
    let m' = (with_slot entry s m).1 in
    let grows = slot_grows entry s m sound in
    let has = slot_has entry s m sound in
    record {
      sound = slot_sound entry s m sound (λ kinds a. let_met kinds (slot m.next) r
          (λ is. fits kinds (agrees_back m m' kinds grows a) (subst (λ (k : Kind). is_truth_kind k ≡ true) (kind_is m' kinds m.next kind a has) is)));
      grows = grows;
      has = has;
    }

-- of a word nothing is asked
pub emit_word : (here : Here) (r : Right) (m : Made) → Sound m → Makes m (emitted here Word r m) Word
emit_word here r m sound = emit here Word r m sound (λ kinds a is. absurd (true≢false (sym is)))

-- ---- a slot that is given a name

kinds_renamed : (xs : List Slot) (k : ℕ) (x : Ident) (label : Option WrittenLabel) → map (λ (s : Slot). s.kind) (renamed xs k x label) ≡ map (λ (s : Slot). s.kind) xs
kinds_renamed [] k x label = refl
kinds_renamed (s ∷ ss) zero x label = refl
kinds_renamed (s ∷ ss) (suc k) x label = ap (λ (z : List Kind). s.kind ∷ z) (kinds_renamed ss k x label)

length_renamed : (xs : List Slot) (k : ℕ) (x : Ident) (label : Option WrittenLabel) → length (renamed xs k x label) ≡ length xs
length_renamed [] k x label = refl
length_renamed (s ∷ ss) zero x label = refl
length_renamed (s ∷ ss) (suc k) x label = ap suc (length_renamed ss k x label)

pub name_keeps : (k : ℕ) (x : Ident) (label : Option WrittenLabel) (m : Made) → Sound m → Keeps m (with_name_at k x label m)
name_keeps k x label m sound =
    let same : (j : ℕ) → kind_at (with_name_at k x label m) j ≡ kind_at m j = λ j. ap (λ (z : List Kind). slice_index_or z j Word) (kinds_renamed m.slots k x label) in
    record {
      sound = record { sized = length_renamed m.slots k x label ∙ sound.sized; met = λ kinds a. sound.met kinds (λ j lt. a j lt ∙ same j) };
      grows = record { next = omega arith; kinds = λ j lt. same j };
    }
