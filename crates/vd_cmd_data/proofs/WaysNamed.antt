-- Whatever way the branches of a program go, each word that a host is told then has its output among those by which it is named.
use Rattle.std.proofs.Common.{◌≡◌, ◌⊎◌, inl, inr, ℕ, zero, suc, ◌+◌, ◌-◌, ◌*◌, ◌<◌, ◌≤◌, ◌^◌, min, max, Bool, true, false, ◌&&◌, List, [], ◌∷◌, ◌++◌, length, map, if◌then◌else◌, refl, sym, ap, ◌∙◌, subst, arith, nat_le, length-append}
use Rattle.std.specs.List.{fold}
use Rattle.std.proofs.lemmas.Bool.{and_from, le-leb}
use Rattle.vd_base.specs.declared.ids.HostId.{HostId}
use Rattle.vd_base.specs.declared.ids.SlotId.{SlotId}
use Rattle.vd_base.specs.HostSets.{same_host}
use Rattle.vd_core.specs.declared.normal.NormalForm.{NormalForm}
use Rattle.vd_core.specs.declared.normal.Slot.{Slot}
use Rattle.vd_core.specs.declared.normal.Stmt.{Stmt, roll-Stmt, map-Stmt, ind-Stmt}
use Rattle.vd_core.specs.declared.normal.Stmt.TheOpen.{Stmt-F}
use Rattle.vd_core.specs.declared.normal.Stmt.TheFolds.{fold-roll-Stmt}
use Rattle.vd_cmd_data.specs.declared.outputs.Around.{Around}
use Rattle.vd_cmd_data.specs.declared.outputs.Place.{Place}
use Rattle.vd_cmd_data.specs.declared.spans.Span.{Span}
use Rattle.vd_cmd_data.specs.Outputs.{Brings, all_count, all_places, around_first, around_rest, block_span, brings, brings_step, deeper, is_truth, output_count, output_places, outputs_count, place_name, total, turn_places}
use Rattle.vd_cmd_data.specs.Readings.{fits}
use Rattle.vd_cmd_data.specs.Spans.{either, exactly, is_within, plus, times}
use Rattle.vd_cmd_data.specs.WaysNamed.{AreAllPlaced, IsAmong, IsPlaced, Telling, Walk, WaysAreNamed, all_walk, later_ways, next_way, turns_walk, walk, walk_step}
use Rattle.vd_cmd_data.proofs.Laying.{body_counts}

-- ---- so many are within a span

record Within (n : ℕ) (a : Span) : Type 0 where
  low : a.least ≤ n
  high : n ≤ a.most

is_so : (n : ℕ) (a : Span) → Within n a → is_within n a ≡ true
is_so n a w = and_from (nat_le a.least n) (nat_le n a.most) (le-leb a.least n w.low) (le-leb n a.most w.high)

capped_low : (x y m n : ℕ) → x ≤ m → y ≤ n → min (x + y) (2 ^ 64 - 1) ≤ m + n
capped_low x y m n p q = omega (arith, p, q)

capped_high : (x y m n : ℕ) → m ≤ x → n ≤ y → m + n < 2 ^ 64 → m + n ≤ min (x + y) (2 ^ 64 - 1)
capped_high x y m n p q few = omega (arith, p, q, few)

both : (m n : ℕ) (a b : Span) → Within m a → Within n b → m + n < 2 ^ 64 → Within (m + n) (plus a b)
both m n a b w v few = record { low = capped_low a.least b.least m n w.low v.low; high = capped_high a.most b.most m n w.high v.high few }

low_left : (x y n : ℕ) → x ≤ n → min x y ≤ n
low_left x y n p = omega (arith, p)

low_right : (x y n : ℕ) → y ≤ n → min x y ≤ n
low_right x y n p = omega (arith, p)

high_left : (x y n : ℕ) → n ≤ x → n ≤ max x y
high_left x y n p = omega (arith, p)

high_right : (x y n : ℕ) → n ≤ y → n ≤ max x y
high_right x y n p = omega (arith, p)

first_of : (n : ℕ) (a b : Span) → Within n a → Within n (either a b)
first_of n a b w = record { low = low_left a.least b.least n w.low; high = high_left a.most b.most n w.high }

other_of : (n : ℕ) (a b : Span) → Within n b → Within n (either a b)
other_of n a b w = record { low = low_right a.least b.least n w.low; high = high_right a.most b.most n w.high }

none_in : Within 0 (exactly 0)
none_in = record { low = omega arith; high = omega arith }

no_turn : (a : Span) → Within 0 (times 0 a)
no_turn a = record { low = omega arith; high = omega arith }

capped_one : (x p m n : ℕ) → x ≤ m → min p (2 ^ 64 - 1) ≤ n → min (x + p) (2 ^ 64 - 1) ≤ m + n
capped_one x p m n h l = omega (arith, h, l)

within_one : (x p m n : ℕ) → m ≤ x → n ≤ min p (2 ^ 64 - 1) → m + n < 2 ^ 64 → m + n ≤ min (x + p) (2 ^ 64 - 1)
within_one x p m n h l few = omega (arith, h, l, few)

more_low : (x left m n : ℕ) → x ≤ m → min (left * x) (2 ^ 64 - 1) ≤ n → min (suc left * x) (2 ^ 64 - 1) ≤ m + n
more_low x left m n h l =
    let split : suc left * x ≡ x + left * x = omega arith in
    subst (λ (k : ℕ). min k (2 ^ 64 - 1) ≤ m + n) (sym split) (capped_one x (left * x) m n h l)

more_high : (x left m n : ℕ) → m ≤ x → n ≤ min (left * x) (2 ^ 64 - 1) → m + n < 2 ^ 64 → m + n ≤ min (suc left * x) (2 ^ 64 - 1)
more_high x left m n h l few =
    let split : suc left * x ≡ x + left * x = omega arith in
    subst (λ (k : ℕ). m + n ≤ min k (2 ^ 64 - 1)) (sym split) (within_one x (left * x) m n h l few)

turn_more : (m n left : ℕ) (a : Span) → Within m a → Within n (times left a) → m + n < 2 ^ 64 → Within (m + n) (times (suc left) a)
turn_more m n left a w v few = record { low = more_low a.least left m n w.low v.low; high = more_high a.most left m n w.high v.high few }

at_number : (m n : ℕ) (a : Span) → m ≡ n → Within m a → Within n a
at_number m n a same w = subst (λ (k : ℕ). Within k a) same w

-- ---- places

among_left : (place : Place) (xs ys : List Place) → IsAmong place xs → IsAmong place (xs ++ ys)
among_left place [] ys is = absurd is
among_left place (x ∷ xs) ys (inl is) = inl is
among_left place (x ∷ xs) ys (inr is) = inr (among_left place xs ys is)

among_right : (place : Place) (xs ys : List Place) → IsAmong place ys → IsAmong place (xs ++ ys)
among_right place [] ys is = is
among_right place (x ∷ xs) ys is = inr (among_right place xs ys is)

placed_left : (xs ys : List Place) (t : Telling) (b a : ℕ) → IsPlaced xs t b a → IsPlaced (xs ++ ys) t b a
placed_left xs ys t b a is = record { place = is.place; among = among_left is.place xs ys is.among; name = is.name; is_bool = is.is_bool; fits = is.fits }

placed_right : (xs ys : List Place) (t : Telling) (b a : ℕ) → IsPlaced ys t b a → IsPlaced (xs ++ ys) t b a
placed_right xs ys t b a is = record { place = is.place; among = among_right is.place xs ys is.among; name = is.name; is_bool = is.is_bool; fits = is.fits }

all_left : (xs ys : List Place) (b : ℕ) (told : List Telling) (a : ℕ) → AreAllPlaced xs b told a → AreAllPlaced (xs ++ ys) b told a
all_left xs ys b [] a are = tt
all_left xs ys b (t ∷ told) a are = (placed_left xs ys t b (length told + a) are.0, all_left xs ys (b + 1) told a are.1)

all_right : (xs ys : List Place) (b : ℕ) (told : List Telling) (a : ℕ) → AreAllPlaced ys b told a → AreAllPlaced (xs ++ ys) b told a
all_right xs ys b [] a are = tt
all_right xs ys b (t ∷ told) a are = (placed_right xs ys t b (length told + a) are.0, all_right xs ys (b + 1) told a are.1)

-- what is told first, and then more
all_both : (xs ys : List Place) (b : ℕ) (first more : List Telling) (a : ℕ) → AreAllPlaced xs b first (length more + a) → AreAllPlaced ys (b + length first) more a
    → AreAllPlaced (xs ++ ys) b (first ++ more) a
all_both xs ys b [] more a are next =
    let same : b + 0 ≡ b = omega arith in
    all_right xs ys b more a (subst (λ (n : ℕ). AreAllPlaced ys n more a) same next)
all_both xs ys b (t ∷ first) more a are next =
    let sum = length-append first more in
    let behind : length first + (length more + a) ≡ length (first ++ more) + a = omega (arith, sum) in
    let start : b + suc (length first) ≡ b + 1 + length first = omega arith in (
      subst (λ (n : ℕ). IsPlaced (xs ++ ys) t b n) behind (placed_left xs ys t b (length first + (length more + a)) are.0),
      all_both xs ys (b + 1) first more a are.1 (subst (λ (n : ℕ). AreAllPlaced ys n more a) start next),
    )

-- ---- what a statement brings is what it tells on each way

record Good (d : Brings) (w : Walk) : Type 0 where
  count : (turns : List ℕ) (ways : List Bool) → length (w turns ways).0 < 2 ^ 64 → Within (length (w turns ways).0) d.count
  placed : (turns : List ℕ) (ways : List Bool) (around : Around) (b a : ℕ) → Within b around.before → Within a around.after → b + length (w turns ways).0 + a < 2 ^ 64
      → AreAllPlaced (d.places turns around) b (w turns ways).0 a

module _ (source : List ℕ) (slots : List Slot) (host : HostId) where
  abbrev the : Stmt → Brings
  the = brings source slots host

  abbrev go : Stmt → Walk
  go = walk source slots host

  abbrev M : Type 0
  M = (s : Stmt) × Good (the s) (go s)

  abbrev layer : Stmt-F M → Stmt-F Stmt
  layer y = map-Stmt M Stmt (λ m. m.0) y

  abbrev statements : List M → List Stmt
  statements ms = map (λ (m : M). m.0) ms

  abbrev ds : List M → List Brings
  ds ms = map the (statements ms)

  abbrev ws : List M → List Walk
  ws ms = map go (statements ms)

  -- ---- blocks

  counted_from : (ms : List M) (turns : List ℕ) (ways : List Bool) (m : ℕ) (s : Span) → Within m s → m + length (all_walk (ws ms) turns ways).0 < 2 ^ 64
      → Within (m + length (all_walk (ws ms) turns ways).0) (fold plus s (map (λ (b : Brings). b.count) (ds ms)))
  counted_from [] turns ways m s w few = at_number m (m + 0) s (omega arith) w
  counted_from (q ∷ ms) turns ways m s w few =
      let one = go q.0 turns ways in
      let rest = all_walk (ws ms) turns one.1 in
      let sum = length-append one.0 rest.0 in
      let here = q.1.count turns ways (omega (arith, sum, few)) in
      let so_far = both m (length one.0) s (the q.0).count w here (omega (arith, sum, few)) in
      let next = counted_from ms turns one.1 (m + length one.0) (plus s (the q.0).count) so_far (omega (arith, sum, few)) in
      at_number (m + length one.0 + length rest.0) (m + length (one.0 ++ rest.0)) (fold plus (plus s (the q.0).count) (map (λ (b : Brings). b.count) (ds ms))) (omega (arith, sum)) next

  counted : (ms : List M) (turns : List ℕ) (ways : List Bool) → length (all_walk (ws ms) turns ways).0 < 2 ^ 64 → Within (length (all_walk (ws ms) turns ways).0) (all_count (ds ms))
  counted ms turns ways few = at_number (0 + length (all_walk (ws ms) turns ways).0) (length (all_walk (ws ms) turns ways).0) (all_count (ds ms)) (omega arith) (counted_from ms turns ways 0 (exactly 0) none_in (omega (arith, few)))

  block_placed : (ms : List M) (turns : List ℕ) (ways : List Bool) (around : Around) (b a : ℕ) → Within b around.before → Within a around.after
      → b + length (all_walk (ws ms) turns ways).0 + a < 2 ^ 64 → AreAllPlaced (all_places (ds ms) turns around) b (all_walk (ws ms) turns ways).0 a
  block_placed [] turns ways around b a before after few = tt
  block_placed (q ∷ ms) turns ways around b a before after few =
      let one = go q.0 turns ways in
      let rest = all_walk (ws ms) turns one.1 in
      let sum = length-append one.0 rest.0 in
      let here = q.1.count turns ways (omega (arith, sum, few)) in
      let behind = both (length rest.0) a (all_count (ds ms)) around.after (counted ms turns one.1 (omega (arith, sum, few))) after (omega (arith, sum, few)) in
      let first = q.1.placed turns ways (around_first around (all_count (ds ms))) b (length rest.0 + a) before behind (omega (arith, sum, few)) in
      let ahead = both b (length one.0) around.before (the q.0).count before here (omega (arith, sum, few)) in
      let more = block_placed ms turns one.1 (around_rest around (the q.0).count) (b + length one.0) a ahead after (omega (arith, sum, few)) in
      all_both ((the q.0).places turns (around_first around (all_count (ds ms)))) (all_places (ds ms) turns (around_rest around (the q.0).count)) b one.0 rest.0 a first more

  -- ---- loops

  turns_counted : (ms : List M) (left turn : ℕ) (turns : List ℕ) (ways : List Bool) → length (turns_walk (ws ms) left turn turns ways).0 < 2 ^ 64
      → Within (length (turns_walk (ws ms) left turn turns ways).0) (times left (all_count (ds ms)))
  turns_counted ms zero turn turns ways few = no_turn (all_count (ds ms))
  turns_counted ms (suc left) turn turns ways few =
      let one = all_walk (ws ms) (deeper turns turn) ways in
      let rest = turns_walk (ws ms) left (turn + 1) turns one.1 in
      let sum = length-append one.0 rest.0 in
      let here = counted ms (deeper turns turn) ways (omega (arith, sum, few)) in
      let more = turns_counted ms left (turn + 1) turns one.1 (omega (arith, sum, few)) in
      at_number (length one.0 + length rest.0) (length (one.0 ++ rest.0)) (times (suc left) (all_count (ds ms))) (sym sum)
      (turn_more (length one.0) (length rest.0) left (all_count (ds ms)) here more (omega (arith, sum, few)))

  turns_placed : (ms : List M) (left turn : ℕ) (turns : List ℕ) (ways : List Bool) (around : Around) (b a : ℕ) → Within b around.before → Within a around.after
      → b + length (turns_walk (ws ms) left turn turns ways).0 + a < 2 ^ 64 → AreAllPlaced (turn_places (ds ms) left turn turns around) b (turns_walk (ws ms) left turn turns ways).0 a
  turns_placed ms zero turn turns ways around b a before after few = tt
  turns_placed ms (suc left) turn turns ways around b a before after few =
      let one = all_walk (ws ms) (deeper turns turn) ways in
      let rest = turns_walk (ws ms) left (turn + 1) turns one.1 in
      let sum = length-append one.0 rest.0 in
      let c = all_count (ds ms) in
      let here = counted ms (deeper turns turn) ways (omega (arith, sum, few)) in
      let behind = both (length rest.0) a (times left c) around.after (turns_counted ms left (turn + 1) turns one.1 (omega (arith, sum, few))) after (omega (arith, sum, few)) in
      let first = block_placed ms (deeper turns turn) ways (around_first around (times left c)) b (length rest.0 + a) before behind (omega (arith, sum, few)) in
      let ahead = both b (length one.0) around.before c before here (omega (arith, sum, few)) in
      let more = turns_placed ms left (turn + 1) turns one.1 (around_rest around c) (b + length one.0) a ahead after (omega (arith, sum, few)) in
      all_both (all_places (ds ms) (deeper turns turn) (around_first around (times left c))) (turn_places (ds ms) left (turn + 1) turns (around_rest around c)) b one.0 rest.0 a first more

  -- ---- statements

  nothing_good : (d : Brings) (w : Walk) → d.count ≡ exactly 0 → ((turns : List ℕ) (ways : List Bool) → (w turns ways).0 ≡ []) → Good d w
  nothing_good d w zero_count none = record {
    count = λ turns ways few. subst (λ (told : List Telling). Within (length told) d.count) (sym (none turns ways)) (subst (λ (c : Span). Within 0 c) (sym zero_count) none_in);
    placed = λ turns ways around b a before after few. subst (λ (told : List Telling). AreAllPlaced (d.places turns around) b told a) (sym (none turns ways)) tt;
  }

  one_telling : (turns : List ℕ) → SlotId → ℕ → Telling
  one_telling turns slot offset = record { name = place_name source slots turns slot offset; is_bool = is_truth slots slot }

  output_counted : (t : Bool) (telling : Telling) → Within (length (if t then telling ∷ [] else [])) (if t then exactly 1 else exactly 0)
  output_counted true telling = record { low = omega arith; high = omega arith }
  output_counted false telling = none_in

  output_placed : (t : Bool) (telling : Telling) (place : Place) (b a : ℕ) → place.name ≡ telling.name → place.is_bool ≡ telling.is_bool → Within b place.around.before → Within a place.around.after
      → AreAllPlaced (if t then place ∷ [] else []) b (if t then telling ∷ [] else []) a
  output_placed false telling place b a name kind before after = tt
  output_placed true telling place b a name kind before after =
      let same : a ≡ 0 + a = omega arith in (
        subst (λ (n : ℕ). IsPlaced (place ∷ []) telling b n) same (record {
          place = place;
          among = inl refl;
          name = name;
          is_bool = kind;
          fits = and_from (is_within b place.around.before) (is_within a place.around.after) (is_so b place.around.before before) (is_so a place.around.after after);
        }),
        tt,
      )

  output_good : (slot : SlotId) (to : HostId) (offset : ℕ) → Good (brings_step source slots host (Stmt-F.Output slot to offset)) (walk_step source slots host (Stmt-F.Output slot to offset))
  output_good slot to offset = record {
    count = λ turns ways few. output_counted (same_host to host) (record { name = place_name source slots turns slot offset; is_bool = is_truth slots slot });
    placed = λ turns ways around b a before after few.
        output_placed (same_host to host) (record { name = place_name source slots turns slot offset; is_bool = is_truth slots slot })
        (record { name = place_name source slots turns slot offset; is_bool = is_truth slots slot; around = around }) b a refl refl before after;
  }

  branch_counted : (first other : List M) (turns : List ℕ) (ways : List Bool) (t : Bool)
      → length (if t then all_walk (ws first) turns ways else all_walk (ws other) turns ways).0 < 2 ^ 64
      → Within (length (if t then all_walk (ws first) turns ways else all_walk (ws other) turns ways).0) (either (all_count (ds first)) (all_count (ds other)))
  branch_counted first other turns ways true few = first_of (length (all_walk (ws first) turns ways).0) (all_count (ds first)) (all_count (ds other)) (counted first turns ways few)
  branch_counted first other turns ways false few = other_of (length (all_walk (ws other) turns ways).0) (all_count (ds first)) (all_count (ds other)) (counted other turns ways few)

  branch_placed : (first other : List M) (turns : List ℕ) (ways : List Bool) (around : Around) (b a : ℕ) (t : Bool) → Within b around.before → Within a around.after
      → b + length (if t then all_walk (ws first) turns ways else all_walk (ws other) turns ways).0 + a < 2 ^ 64
      → AreAllPlaced (all_places (ds first) turns around ++ all_places (ds other) turns around) b (if t then all_walk (ws first) turns ways else all_walk (ws other) turns ways).0 a
  branch_placed first other turns ways around b a true before after few =
      all_left (all_places (ds first) turns around) (all_places (ds other) turns around) b (all_walk (ws first) turns ways).0 a (block_placed first turns ways around b a before after few)
  branch_placed first other turns ways around b a false before after few =
      all_right (all_places (ds first) turns around) (all_places (ds other) turns around) b (all_walk (ws other) turns ways).0 a (block_placed other turns ways around b a before after few)

  step : (y : Stmt-F M) → Good (brings_step source slots host (map-Stmt Stmt Brings the (layer y))) (walk_step source slots host (map-Stmt Stmt Walk go (layer y)))
  step (Stmt-F.Let x r) = nothing_good _ _ refl (λ turns ways. refl)
  step (Stmt-F.NewVar v y) = nothing_good _ _ refl (λ turns ways. refl)
  step (Stmt-F.NewArray v cells) = nothing_good _ _ refl (λ turns ways. refl)
  step (Stmt-F.Store v y) = nothing_good _ _ refl (λ turns ways. refl)
  step (Stmt-F.Put v i y) = nothing_good _ _ refl (λ turns ways. refl)
  step (Stmt-F.Output slot to offset) = output_good slot to offset
  step (Stmt-F.If g first other offset) = record {
    count = λ turns ways few. branch_counted first other turns (later_ways ways) (next_way ways) few;
    placed = λ turns ways around b a before after few. branch_placed first other turns (later_ways ways) around b a (next_way ways) before after few;
  }
  step (Stmt-F.For count body) = record {
    count = λ turns ways few. turns_counted body count 0 turns ways few;
    placed = λ turns ways around b a before after few. turns_placed body count 0 turns ways around b a before after few;
  }

  all_good : (s : Stmt) → Good (the s) (go s)
  all_good = ind-Stmt (λ s. Good (the s) (go s)) (λ x y is. subst (λ z. Good (the (roll-Stmt z)) (go (roll-Stmt z))) is (at_roll y))
    where
      at_roll : (y : Stmt-F M) → Good (the (roll-Stmt (layer y))) (go (roll-Stmt (layer y)))
      at_roll y =
          subst (λ (d : Brings). Good d (go (roll-Stmt (layer y)))) (sym (fold-roll-Stmt Brings (brings_step source slots host) (layer y)))
          (subst (λ (w : Walk). Good (brings_step source slots host (map-Stmt Stmt Brings the (layer y))) w) (sym (fold-roll-Stmt Walk (walk_step source slots host) (layer y))) (step y))

  with_good : List Stmt → List M
  with_good body = map (λ (s : Stmt). (s, all_good s)) body

  same_body : (body : List Stmt) → statements (with_good body) ≡ body
  unfolding with_good
  same_body [] = refl
  same_body (s ∷ body) = ap (λ (l : List Stmt). s ∷ l) (same_body body)

  abbrev Named : List Stmt → List Bool → Type 0
  Named body ways = length (all_walk (map go body) [] ways).0 < 2 ^ 64
      → Within (length (all_walk (map go body) [] ways).0) (all_count (map the body))
      × AreAllPlaced (all_places (map the body) [] (record { before = exactly 0; after = exactly 0 })) 0 (all_walk (map go body) [] ways).0 0

  body_named : (body : List Stmt) (ways : List Bool) → Named body ways
  body_named body ways = subst (λ (l : List Stmt). Named l ways) (same_body body)
      (λ few. (counted (with_good body) [] ways few, block_placed (with_good body) [] ways (record { before = exactly 0; after = exactly 0 }) 0 0 none_in none_in (omega (arith, few))))

pub ways_named : WaysAreNamed
ways_named source p host ways few =
    let told = (all_walk (map (walk source p.slots host) p.body) [] ways).0 in
    let brought = map (brings source p.slots host) p.body in
    let named = body_named source p.slots host p.body ways few in
    (subst (λ (c : Span). is_within (length told) c ≡ true) (body_counts source p.slots host p.body) (is_so (length told) (all_count brought) named.0), named.1)
