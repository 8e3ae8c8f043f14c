-- An instruction or a block that goes behind others, neighbour by neighbour.
use Rattle.std.proofs.Common.{◌≡◌, ℕ, zero, suc, ◌+◌, ◌-◌, ◌<◌, ◌≤◌, Bool, true, false, ◌&&◌, if◌then◌else◌, List, [], ◌∷◌, ◌++◌, length, take, drop, get_or, set, refl, sym, ap, ◌∙◌, arith}
use Rattle.std.specs.List.{swap}
use Rattle.std.proofs.lemmas.List.{drop_more, take-append-drop, take_all, take_more, drop_all, append-nil, length-take-le, length-append, length_push, get_or_at, get_or_default, set_at, append_assoc, take_at, drop_at}
use Rattle.std.proofs.lemmas.List.Edits.{swap_is}
use Rattle.vd_execution.specs.declared.instructions.Instr.{Instr}
use Rattle.vd_execution.specs.declared.instructions.Instr.TheVariants as instr
use Rattle.vd_reorder.specs.Hastening.{Piece}
use Rattle.vd_reorder.specs.Passing.{has_room, room_behind, depth_behind, if_open, span, risen, stretch_passes, sunk_text, sunk_first, hastened_text}

-- ---- one instruction rises before others

module _ (place : ℕ) (front : List Instr) (first : Instr) (at : length front ≡ place) where
  swapped : (y : Instr) (rest : List Instr) → swap (front ++ first ∷ y ∷ rest) place (place + 1) ≡ (front ++ y ∷ []) ++ first ∷ rest
  swapped y rest =
      let code = front ++ first ∷ y ∷ rest in
      let l = length-append front (first ∷ y ∷ rest) in
      let one : length (front ++ first ∷ []) ≡ place + 1 = length_push front first ∙ ap (λ n. n + 1) at in
      let other : length (front ++ y ∷ []) ≡ place + 1 = length_push front y ∙ ap (λ n. n + 1) at in
      let joined : code ≡ (front ++ first ∷ []) ++ y ∷ rest = sym (append_assoc front (first ∷ []) (y ∷ rest)) in
      let here : get_or code place instr.Else ≡ first = get_or_at front first (y ∷ rest) instr.Else place at in
      let next : get_or code (place + 1) instr.Else ≡ y = ap (λ c. get_or c (place + 1) instr.Else) joined ∙ get_or_at (front ++ first ∷ []) y rest instr.Else (place + 1) one in
      sym (swap_is code place (place + 1) instr.Else (omega (arith, l, at)) (omega (arith, l, at)))
      ∙ ap (λ v. set (set code place (get_or code (place + 1) instr.Else)) (place + 1) v) here
      ∙ ap (λ v. set (set code place v) (place + 1) first) next
      ∙ ap (λ c. set c (place + 1) first) (set_at front first (y ∷ rest) y place at)
      ∙ ap (λ c. set c (place + 1) first) (sym (append_assoc front (y ∷ []) (y ∷ rest)))
      ∙ set_at (front ++ y ∷ []) y rest first (place + 1) other

module _ (last : ℕ) (old : List Instr) (lt : last < length old) where
  abbrev top : List Instr
  top = take last old

  abbrev moved : Instr
  moved = get_or old last instr.Else

  top_long : length top ≡ last
  top_long = length-take-le last old (omega (arith, lt))

  with_moved : take (suc last) old ≡ top ++ moved ∷ []
  with_moved = let e : suc last ≡ last + 1 = omega arith in ap (λ k. take k old) e ∙ take_more old last instr.Else lt

  only_moved : drop last (take (suc last) old) ≡ moved ∷ []
  only_moved = ap (drop last) with_moved ∙ drop_at top (moved ∷ []) last top_long

  pub rises_begun : old ≡ risen last last old
  rises_begun =
      let rest = drop (suc last) old in
      sym (take-append-drop (suc last) old)
      ∙ ap (λ l. l ++ rest) with_moved
      ∙ append_assoc top (moved ∷ []) rest
      ∙ ap (λ l. l ++ ((moved ∷ []) ++ rest)) (sym (take_all last top (omega (arith, top_long))))
      ∙ ap (λ l. take last top ++ (l ++ rest)) (sym only_moved)
      ∙ ap (λ l. take last top ++ (drop last (take (suc last) old) ++ (l ++ rest))) (sym (drop_all last top (omega (arith, top_long))))

  pub rises : (code new : List Instr) (place next : ℕ) → next + 1 ≡ place → place ≤ last → code ≡ risen place last old → new ≡ swap code next (next + 1) → new ≡ risen next last old
  rises code new place next one le is new_is =
      let rest = drop (suc last) old in
      let x = get_or top next instr.Else in
      let in_top : next < length top = omega (arith, one, le, top_long) in
      let more : take place top ≡ take next top ++ x ∷ [] = ap (λ k. take k top) (sym one) ∙ take_more top next instr.Else in_top in
      let opened : drop next top ≡ x ∷ drop place top = drop_more top next instr.Else in_top ∙ ap (λ k. x ∷ drop k top) one in
      let behind = drop place top ++ rest in
      let code_is : code ≡ take next top ++ x ∷ moved ∷ behind =
      is
      ∙ ap (λ l. take place top ++ (l ++ behind)) only_moved
      ∙ ap (λ l. l ++ moved ∷ behind) more
      ∙ append_assoc (take next top) (x ∷ []) (moved ∷ behind) in
      let long : length (take next top) ≡ next = length-take-le next top (omega (arith, in_top)) in
      new_is
      ∙ ap (λ l. swap l next (next + 1)) code_is
      ∙ swapped next (take next top) x long moved behind
      ∙ append_assoc (take next top) (moved ∷ []) (x ∷ behind)
      ∙ ap (λ l. take next top ++ (l ++ x ∷ behind)) (sym only_moved)
      ∙ ap (λ l. take next top ++ (drop last (take (suc last) old) ++ (l ++ rest))) (sym opened)

-- ---- what stands first sinks

module _ (test : Piece → Piece → Bool) (goal : List Instr) (size : ℕ) where
  -- it stands between these places, and from there on leads to the goal
  pub record Sinking (code : List Instr) (first behind room : ℕ) : Type 0 where
    pub size_is : length code ≡ size
    pub front : List Instr
    pub stretch : List Instr
    pub rest : List Instr
    pub split : code ≡ front ++ (stretch ++ rest)
    pub at : length front ≡ first
    pub till : length (front ++ stretch) ≡ behind
    pub leads : front ++ sunk_text test room stretch rest ≡ goal

span_within : (d : ℕ) (is : List Instr) → span d is ≤ length is
span_within d [] = omega arith
span_within d (i ∷ is) = by_depth (depth_behind d i) (span_within (depth_behind d i) is)
  where
    by_depth : (k : ℕ) → span k is ≤ length is → suc (if_open k (span k is)) ≤ suc (length is)
    by_depth zero ih = omega arith
    by_depth (suc k) ih = omega (arith, ih)

pub begun : (test : Piece → Piece → Bool) (code : List Instr) (start behind room : ℕ) → start < length code → behind ≡ start + span 0 (drop start code)
    → Sinking test (take start code ++ sunk_first test room (drop start code)) (length code) code start behind room
begun test code start behind room lt is =
    let rest = drop start code in
    let n = span 0 rest in
    let within = span_within 0 rest in
    let front_long : length (take start code) ≡ start = length-take-le start code (omega (arith, lt)) in
    let stretch_long : length (take n rest) ≡ n = length-take-le n rest within in
    let both = length-append (take start code) (take n rest) in record {
      size_is = refl;
      front = take start code;
      stretch = take n rest;
      rest = drop n rest;
      split = sym (take-append-drop start code) ∙ ap (λ l. take start code ++ l) (sym (take-append-drop n rest));
      at = front_long;
      till = omega (arith, front_long, stretch_long, both, is);
      leads = refl;
    }

module _ (test : Piece → Piece → Bool) (goal : List Instr) (size : ℕ) (code : List Instr) (first behind room : ℕ) (s : Sinking test goal size code first behind room) where
  joined : code ≡ (s.front ++ s.stretch) ++ s.rest
  joined = s.split ∙ sym (append_assoc s.front s.stretch s.rest)

  top_is : take behind code ≡ s.front ++ s.stretch
  top_is = ap (take behind) joined ∙ take_at (s.front ++ s.stretch) s.rest behind s.till

  stretch_is : drop first (take behind code) ≡ s.stretch
  stretch_is = ap (drop first) top_is ∙ drop_at s.front s.stretch first s.at

  stretch_there : take (behind - first) (drop first code) ≡ s.stretch
  stretch_there =
      let both = length-append s.front s.stretch in
      let till = s.till in
      let at = s.at in
      ap (λ l. take (behind - first) (drop first l)) s.split
      ∙ ap (take (behind - first)) (drop_at s.front (s.stretch ++ s.rest) first s.at)
      ∙ take_at s.stretch s.rest (behind - first) (omega (arith, both, till, at))

  front_is : take first (take behind code) ≡ s.front
  front_is = ap (take first) top_is ∙ take_at s.front s.stretch first s.at

  rest_is : drop behind code ≡ s.rest
  rest_is = ap (drop behind) joined ∙ drop_at (s.front ++ s.stretch) s.rest behind s.till

  rest_opened : (x : Instr) → behind < length code → x ≡ get_or code behind x → s.rest ≡ x ∷ drop (behind + 1) code
  rest_opened x lt there = sym rest_is ∙ drop_more code behind x lt ∙ ap (λ i. i ∷ drop (behind + 1) code) (sym there)

  -- it goes behind its neighbour
  pub step : (z : Instr) (new : List Instr) (less : ℕ) → behind < length code → z ≡ get_or code behind z
      → (stretch_passes test (take (behind - first) (drop first code)) (get_or code behind instr.Else) && has_room room (get_or code behind instr.Else)) ≡ true → less ≡ room_behind room z
      → length new ≡ length code → new ≡ risen first behind code → Sinking test goal size new (first + 1) (behind + 1) less
  step z new less lt z_there able less_is sized new_is =
      let x = get_or code behind instr.Else in
      let there : x ≡ get_or code behind x = get_or_default code behind instr.Else x lt in
      let rest = drop (behind + 1) code in
      let opened : s.rest ≡ x ∷ rest = rest_opened x lt there in
      let same : z ≡ x = z_there ∙ get_or_default code behind z x lt ∙ sym there in
      let able_here : (stretch_passes test s.stretch x && has_room room x) ≡ true = ap (λ l. stretch_passes test l x && has_room room x) (sym stretch_there) ∙ able in
      let sunk_is : sunk_text test room s.stretch s.rest ≡ x ∷ sunk_text test (room_behind room x) s.stretch rest =
      ap (sunk_text test room s.stretch) opened
      ∙ ap (λ b. if b then x ∷ sunk_text test (room_behind room x) s.stretch rest else s.stretch ++ x ∷ rest) able_here in
      let moved_is : drop behind (take (suc behind) code) ≡ x ∷ [] = only_moved behind code lt ∙ ap (λ i. i ∷ []) (get_or_default code behind instr.Else x lt ∙ sym there) in
      let one : suc behind ≡ behind + 1 = omega arith in
      let stretch_long = length-append s.front s.stretch in
      let long = length-append (s.front ++ x ∷ []) s.stretch in
      let till = s.till in
      let pushed = length_push s.front x in
      record {
        size_is = sized ∙ s.size_is;
        front = s.front ++ x ∷ [];
        stretch = s.stretch;
        rest = rest;
        split = new_is
            ∙ ap (λ l. l ++ (drop behind (take (suc behind) code) ++ (drop first (take behind code) ++ drop (suc behind) code))) front_is
            ∙ ap (λ l. s.front ++ (l ++ (drop first (take behind code) ++ drop (suc behind) code))) moved_is
            ∙ ap (λ l. s.front ++ x ∷ (l ++ drop (suc behind) code)) stretch_is
            ∙ ap (λ k. s.front ++ x ∷ (s.stretch ++ drop k code)) one
            ∙ sym (append_assoc s.front (x ∷ []) (s.stretch ++ rest));
        at = pushed ∙ ap (λ n. n + 1) s.at;
        till = omega (arith, stretch_long, long, till, pushed);
        leads =
            ap (λ n. (s.front ++ x ∷ []) ++ sunk_text test n s.stretch rest) (less_is ∙ ap (room_behind room) same)
            ∙ append_assoc s.front (x ∷ []) (sunk_text test (room_behind room x) s.stretch rest)
            ∙ ap (λ l. s.front ++ l) (sym sunk_is)
            ∙ s.leads;
      }

  -- or it cannot
  pub stopped : behind < length code → (stretch_passes test (take (behind - first) (drop first code)) (get_or code behind instr.Else) && has_room room (get_or code behind instr.Else)) ≡ false → code ≡ goal
  stopped lt stop =
      let x = get_or code behind instr.Else in
      let there : x ≡ get_or code behind x = get_or_default code behind instr.Else x lt in
      let rest = drop (behind + 1) code in
      let opened : s.rest ≡ x ∷ rest = rest_opened x lt there in
      let stop_here : (stretch_passes test s.stretch x && has_room room x) ≡ false = ap (λ l. stretch_passes test l x && has_room room x) (sym stretch_there) ∙ stop in
      s.split
      ∙ ap (λ l. s.front ++ (s.stretch ++ l)) opened
      ∙ ap (λ b. s.front ++ (if b then x ∷ sunk_text test (room_behind room x) s.stretch rest else s.stretch ++ x ∷ rest)) (sym stop_here)
      ∙ ap (λ l. s.front ++ sunk_text test room s.stretch l) (sym opened)
      ∙ s.leads

  -- or it has none
  pub last : length code ≤ behind → code ≡ goal
  last past =
      let none : s.rest ≡ [] = sym rest_is ∙ drop_all behind code past in
      s.split ∙ ap (λ l. s.front ++ (s.stretch ++ l)) none ∙ ap (λ l. s.front ++ l) (append-nil s.stretch) ∙ ap (λ l. s.front ++ sunk_text test room s.stretch l) (sym none) ∙ s.leads

-- ---- the whole pass

pub all_more : (test : Piece → Piece → Bool) (n : ℕ) (old code new : List Instr) (left next : ℕ) → next + 1 ≡ left → left ≤ length old → code ≡ take left old ++ hastened_text test n (drop left old)
    → new ≡ take next code ++ sunk_first test n (drop next code) → new ≡ take next old ++ hastened_text test n (drop next old)
all_more test n old code new left next one le is new_is =
    let lt : next < length old = omega (arith, one, le) in
    let x = get_or old next instr.Else in
    let rest = hastened_text test n (drop left old) in
    let more : take left old ≡ take next old ++ x ∷ [] = ap (λ k. take k old) (sym one) ∙ take_more old next instr.Else lt in
    let whole : code ≡ take next old ++ x ∷ rest = is ∙ ap (λ l. l ++ rest) more ∙ append_assoc (take next old) (x ∷ []) rest in
    let len : length (take next old) ≡ next = length-take-le next old (omega (arith, lt)) in
    let front : take next code ≡ take next old = ap (take next) whole ∙ take_at (take next old) (x ∷ rest) next len in
    let back : drop next code ≡ x ∷ rest = ap (drop next) whole ∙ drop_at (take next old) (x ∷ rest) next len in
    let opened : drop next old ≡ x ∷ drop left old = drop_more old next instr.Else lt ∙ ap (λ k. x ∷ drop k old) one in
    new_is ∙ ap (λ l. l ++ sunk_first test n (drop next code)) front ∙ ap (λ l. take next old ++ sunk_first test n l) back ∙ ap (λ l. take next old ++ hastened_text test n l) (sym opened)
