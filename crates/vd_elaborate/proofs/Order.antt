-- The slots of a let-normal form are made once, in program order.
use Rattle.std.proofs.Common.{◌≡◌, ℕ, zero, suc, ◌+◌, List, [], ◌∷◌, ◌++◌, length, Option, append_assoc, append-nil, refl, sym, ap, ◌∙◌, arith, rules, add-zero, suc-add}
use Rattle.std.specs.List.{range_with_len}
use Rattle.vd_base.specs.declared.ids.HostId.{HostId}
use Rattle.vd_core.specs.declared.normal.Right.{Right}
use Rattle.vd_core.specs.declared.normal.Right.TheVariants.{Turn}
use Rattle.vd_core.specs.declared.normal.Slot.{Slot}
use Rattle.vd_core.specs.declared.normal.Stmt.{Stmt, Let, NewVar, NewArray, Store, Put, Output, If, For}
use Rattle.vd_core.specs.declared.normal.Stmt.TheFolds.{the_lemmas}
use Rattle.vd_core.specs.declared.source.Ident.{Ident}
use Rattle.vd_core.specs.declared.source.WrittenLabel.{WrittenLabel}
use Rattle.vd_core.specs.declared.source.Source.{Source}
use Rattle.vd_core.specs.Facts.{slots_of, slots_made, SlotsInOrder}
use Rattle.vd_elaborate.specs.Normal.{Made, slot, with_slot, with_stmt, renamed, emptied, for_made, main_made, normal_form}
use Rattle.vd_elaborate.proofs.Tests.{Tests}
use Rattle.vd_elaborate.proofs.Laws.{with_if, block_more, turned, Laws}
use Rattle.vd_elaborate.proofs.AnfWellformedWalk.{main_keeps}
use Rattle.vd_elaborate.proofs.Plain.{always, source_always}

range_more : (n j k : ℕ) → range_with_len n (j + k) ≡ range_with_len n j ++ range_with_len (n + j) k
range_more n zero k = rw (zero_add k, add-zero n) refl
  where
    zero_add : (k : ℕ) → zero + k ≡ k
    zero_add k = omega arith
range_more n (suc j) k =
    let step : (n + 1) + j ≡ n + suc j = omega arith in
    rw (suc-add j k) (ap (λ z. n ∷ z) (range_more (n + 1) j k ∙ ap (λ z. range_with_len (n + 1) j ++ range_with_len z k) step))

slots_push : (xs : List Stmt) (x : Stmt) → slots_made (xs ++ x ∷ []) ≡ slots_made xs ++ slots_of x
slots_push [] x = append-nil (slots_of x)
slots_push (y ∷ ys) x = ap (λ z. slots_of y ++ z) (slots_push ys x) ∙ sym (append_assoc (slots_of y) (slots_made ys) (slots_of x))

length_push : {A : Type 0} (xs : List A) (x : A) → length (xs ++ x ∷ []) ≡ length xs + 1
length_push [] x = refl
length_push (y ∷ ys) x = let rest = length_push ys x in omega arith

-- from m to m' the next slots were made, in order, each with an entry
record Orders (m m' : Made) : Type 0 where
  pub count : ℕ
  pub next : m'.next ≡ m.next + count
  pub entries : length m'.slots ≡ length m.slots + count
  pub slots : slots_made m'.body ≡ slots_made m.body ++ range_with_len m.next count

none : (m : Made) → Orders m m
none m = record { count = 0; next = omega arith; entries = omega arith; slots = sym (append-nil (slots_made m.body)) }

after : (m m1 m2 : Made) → Orders m m1 → Orders m1 m2 → Orders m m2
after m m1 m2 a b =
    let n1 = a.next in
    let n2 = b.next in
    let e1 = a.entries in
    let e2 = b.entries in
    record {
      count = a.count + b.count;
      next = omega arith;
      entries = omega arith;
      slots = b.slots ∙ ap (λ z. z ++ range_with_len m1.next b.count) a.slots ∙ append_assoc (slots_made m.body) (range_with_len m.next a.count) (range_with_len m1.next b.count)
          ∙ ap (λ z. slots_made m.body ++ z) (ap (λ z. range_with_len m.next a.count ++ range_with_len z b.count) a.next ∙ sym (range_more m.next a.count b.count));
    }

-- a statement that makes the next slot
makes_one : (m : Made) (entry : Slot) (x : Stmt) → slots_of x ≡ m.next ∷ [] → Orders m (with_slot entry x m).1
makes_one m entry x is = record { count = 1; next = refl; entries = length_push m.slots entry; slots = slots_push m.body x ∙ ap (λ z. slots_made m.body ++ z) is }

makes_none : (m : Made) (x : Stmt) → slots_of x ≡ [] → Orders m (with_stmt x m)
makes_none m x is = record { count = 0; next = omega arith; entries = omega arith; slots = slots_push m.body x ∙ ap (λ z. slots_made m.body ++ z) is }

slots_let : (k : ℕ) (r : Right) → slots_of (Let (slot k) r) ≡ k ∷ []
slots_let k r = search (rules, the_lemmas)

slots_var : (v x : ℕ) → slots_of (NewVar (slot v) (slot x)) ≡ v ∷ []
slots_var v x = search (rules, the_lemmas)

slots_array : (v n : ℕ) → slots_of (NewArray (slot v) n) ≡ v ∷ []
slots_array v n = search (rules, the_lemmas)

slots_store : (v x : ℕ) → slots_of (Store (slot v) (slot x)) ≡ []
slots_store v x = search (rules, the_lemmas)

slots_put : (v i x : ℕ) → slots_of (Put (slot v) (slot i) (slot x)) ≡ []
slots_put v i x = search (rules, the_lemmas)

slots_output : (x : ℕ) (h : HostId) (offset : ℕ) → slots_of (Output (slot x) h offset) ≡ []
slots_output x h offset = search (rules, the_lemmas)

slots_if : (x : ℕ) (a b : List Stmt) (offset : ℕ) → slots_of (If (slot x) a b offset) ≡ slots_made a ++ slots_made b
slots_if x a b offset = search (rules, the_lemmas)

slots_for : (n : ℕ) (body : List Stmt) → slots_of (For n body) ≡ slots_made body
slots_for n body = search (rules, the_lemmas)

length_renamed : (ss : List Slot) (k : ℕ) (x : Ident) (label : Option WrittenLabel) → length (renamed ss k x label) ≡ length ss
length_renamed [] k x label = refl
length_renamed (s ∷ ss) zero x label = refl
length_renamed (s ∷ ss) (suc k) x label = ap suc (length_renamed ss k x label)

branches : (m : Made) (k offset : ℕ) (a b : Made) → Orders (block_more m) a → Orders (emptied a) b → Orders m (with_if k offset m a b)
branches m k offset a b oa ob =
    let na = oa.next in
    let nb = ob.next in
    let ea = oa.entries in
    let eb = ob.entries in
    let all : slots_of (If (slot k) a.body b.body offset) ≡ range_with_len m.next (oa.count + ob.count) =
    slots_if k a.body b.body offset ∙ ap (λ z. z ++ slots_made b.body) oa.slots ∙ ap (λ z. range_with_len m.next oa.count ++ z) (ob.slots ∙ ap (λ z. range_with_len z ob.count) oa.next) ∙ sym (range_more m.next oa.count ob.count) in
    record { count = oa.count + ob.count; next = omega arith; entries = omega arith; slots = slots_push m.body (If (slot k) a.body b.body offset) ∙ ap (λ z. slots_made m.body ++ z) all }

loops : (m : Made) (count : ℕ) (entry : Slot) (a : Made) → Orders (turned entry m) a → Orders m (for_made count a m)
loops m count entry a o =
    let inside = after (emptied m) (turned entry m) a (makes_one (emptied m) entry (Let (slot m.next) Turn) (slots_let m.next Turn)) o in
    record { count = inside.count; next = inside.next; entries = inside.entries; slots = slots_push m.body (For count a.body) ∙ ap (λ z. slots_made m.body ++ z) (slots_for count a.body ∙ inside.slots) }

abbrev W : Type 0
W = Unit {0}

order_laws : (tests : Tests) → Laws tests W (λ w m m'. Orders m m') (λ w m p. Unit {0}) (λ w m. tt)
order_laws tests = record {
  none = λ w m. none m;
  after = λ w m m1 m2 a b. after m m1 m2 a b;
  stays = λ w m m' p k h. tt;
  enters = λ w m e p h. tt;
  right = λ w m entry r ok fine. makes_one m entry (Let (slot m.next) r) (slots_let m.next r);
  right_here = λ w m entry r fine. tt;
  variable = λ w m entry k ok h. makes_one m entry (NewVar (slot m.next) (slot k)) (slots_var m.next k);
  variable_here = λ w m entry k. tt;
  array = λ w m entry n ok. makes_one m entry (NewArray (slot m.next) n) (slots_array m.next n);
  array_here = λ w m entry n. tt;
  renamed = λ w m k x label ok. record { count = 0; next = omega arith; entries = (let same = length_renamed m.slots k x label in omega arith); slots = sym (append-nil (slots_made m.body)) };
  stores = λ w m v k a b. makes_none m (Store (slot v) (slot k)) (slots_store v k);
  puts = λ w m v i k a b c. makes_none m (Put (slot v) (slot i) (slot k)) (slots_put v i k);
  outputs = λ w m k host offset a ok. makes_none m (Output (slot k) host offset) (slots_output k host offset);
  branches = λ w m k offset a b h oa ob. branches m k offset a b oa ob;
  loops = λ w m count entry a ok o. loops m count entry a o;
  turn_here = λ w m entry. tt;
  turn_stays = λ w m entry p h. tt;
}

-- the slots are 0, 1, .. up to the last, in program order
pub slots_in_order : (source : Source) → SlotsInOrder (normal_form source)
slots_in_order source =
    let o = main_keeps always W (λ w m m'. Orders m m') (λ w m p. Unit {0}) (λ w m. tt) (order_laws always) source (source_always source) tt in
    let n : o.count ≡ length (main_made source).slots = (let h = o.entries in omega arith) in
    o.slots ∙ ap (range_with_len 0) n
