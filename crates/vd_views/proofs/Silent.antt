-- Nothing comes to a host by statements in which it takes no part.
use Rattle.std.proofs.Common.{◌≡◌, ℕ, zero, suc, ◌<◌, nat_eq, not, ◌&&◌, ◌||◌, Bool, true, false, if◌then◌else◌, List, [], ◌∷◌, ◌++◌, map, length, slice_index, refl, ap, ap₂, ◌∙◌}
use Rattle.std.specs.Prelude.{filter}
use Rattle.std.specs.List.{list_all}
use Rattle.vd_base.specs.declared.ids.HostId.{HostId}
use Rattle.vd_base.specs.declared.ids.SlotId.{SlotId}
use Rattle.vd_base.specs.declared.protocols.Proto.{Proto}
use Rattle.vd_base.specs.declared.protocols.Proto.TheVariants.{Local, Rep, Commit, Add, Xor}
use Rattle.vd_base.specs.HostSets.{host, same_host}
use Rattle.vd_base.specs.Holders.{has_clear, is_holder, proto_in, same_protocol}
use Rattle.vd_core.specs.declared.normal.Right.{Right}
use Rattle.vd_core.specs.declared.normal.Right.TheVariants.{Lit, Turn, Copy, Apply, Input, Declassify, Endorse, Load, Get}
use Rattle.vd_constraints.specs.declared.labels.Labels.{Labels}
use Rattle.vd_constraints.specs.Scoped.{is_below, right_below, stmt_below}
use Rattle.vd_semantics.specs.Turns.{turns}
use Rattle.vd_semantics.specs.ProgramMeaning.{SlotState, word_at, array_at, in_order}
use Rattle.vd_split.specs.Block.{Block, End, Let, NewVar, NewArray, Store, Put, Output, If, For, each}
use Rattle.vd_split.specs.Emission.{Emission, right_takes_part, in_turn, stmt_emission}
use Rattle.vd_split.proofs.Front.{and_left, and_right, or_none_left, or_none_right}
use Rattle.vd_backend_laws.specs.Parts.{suite_calls}
use Rattle.vd_noninter_protocols.specs.Hearing.{Heard, run_of, word_if, comes, comes_alone, index_comes, right_heard, heard_in_order, heard_in_turns, heard_step}
use Rattle.vd_noninter_protocols.proofs.Front.{same_turned, kept_at, below, part_is}
use Rattle.vd_views.proofs.ViewsProgramsCalls.{item}

absent_clear : (h : HostId) (q : Proto) → is_holder q (host h.0) ≡ false → has_clear h q ≡ false
absent_clear h (Local k) e = e
absent_clear h (Rep set) e = e
absent_clear h (Commit p v) e = at (nat_eq p.0 h.0) e
  where
    at : (b : Bool) → (b || same_host v (host h.0)) ≡ false → b ≡ false
    at true f = cc
    at false f = refl
absent_clear h (Add a b) e = refl
absent_clear h (Xor a b) e = refl

module _ (protocols : List Proto) (h : HostId) (l : Labels) (hosts : ℕ) where
  abbrev pub proto : ℕ → Proto
  proto = proto_in protocols

  abbrev pub emits : Block → Emission (suite_calls hosts) proto
  emits b = in_turn (suite_calls hosts) proto (each (stmt_emission (suite_calls hosts) proto) b)

  abbrev pub heards : Block → List Heard
  heards b = each (heard_step protocols h l) b

  abbrev pub low_block : Block → Bool
  low_block b = list_all (λ x. x) (each (stmt_below (length protocols)) b)

  abbrev here : SlotId → Bool
  here x = is_holder (proto x.0) (host h.0)

  not_come : (y x : SlotId) → x.0 < length protocols → here x ≡ false → comes protocols h y x ≡ false
  not_come y x lt out =
      ap (λ (z : Bool). z && not (same_protocol (proto_in protocols y.0) (proto_in protocols x.0))) (item (has_clear h) protocols x.0 lt ∙ absent_clear h (proto x.0) out)

  no_word : (y x : SlotId) (v : ℕ) → x.0 < length protocols → here x ≡ false → word_if (comes protocols h y x) v ≡ []
  no_word y x v lt out = ap (λ (b : Bool). word_if b v) (not_come y x lt out)

  no_words : (x : SlotId) (f : SlotId → ℕ) → x.0 < length protocols → here x ≡ false → (ys : List SlotId) → map f (filter (λ y. comes protocols h y x) ys) ≡ []
  no_words x f lt out [] = refl
  no_words x f lt out (y ∷ ys) = ap (λ (b : Bool). map f (if b then y ∷ filter (λ z. comes protocols h z x) ys else filter (λ z. comes protocols h z x) ys)) (not_come y x lt out) ∙ no_words x f lt out ys

  no_index : (a i : SlotId) (v : ℕ) → a.0 < length protocols → here a ≡ false → word_if (index_comes protocols h a i) v ≡ []
  no_index a i v lt out = ap (λ (b : Bool). word_if (b && comes_alone protocols h i) v) (kept_at protocols h a lt ∙ out)

  right_silent : (x : SlotId) (right : Right) → x.0 < length protocols → right_below (length protocols) right ≡ true → here x ≡ false → right_takes_part (suite_calls hosts) proto right h.0 ≡ false → (c : SlotState)
      → right_heard protocols h x right c ≡ []
  right_silent x (Lit n) lt low out none c = refl
  right_silent x Turn lt low out none c = refl
  right_silent x (Copy y) lt low out none c = no_word y x (word_at c y) lt out
  right_silent x (Apply o ys) lt low out none c = no_words x (word_at c) lt out ys
  right_silent x (Input k) lt low out none c = refl
  right_silent x (Declassify y to) lt low out none c = no_word y x (word_at c y) lt out
  right_silent x (Endorse y to) lt low out none c = no_word y x (word_at c y) lt out
  right_silent x (Load v) lt low out none c = no_word v x (word_at c v) lt out
  right_silent x (Get v i) lt low out none c =
      ap₂ (λ (p q : List ℕ). p ++ q) (no_index v i (word_at c i) (below (length protocols) v (and_left (is_below (length protocols) v) (is_below (length protocols) i) low)) (or_none_left (here v) (here i) none))
      (no_word v x (slice_index (array_at c v) (word_at c i)) lt out)

  silent_turns : (b : Block) (n : ℕ) (c : SlotState) → ((turn : ℕ) (c : SlotState) → heard_in_order (heards b) turn c ≡ []) → heard_in_turns n (heards b) c ≡ []
  silent_turns b zero c none = refl
  silent_turns b (suc n) c none = ap₂ (λ (p q : List ℕ). p ++ q) (silent_turns b n c none) (none n (turns n (in_order (map run_of (heards b))) c))

  either_silent : (b : Bool) (ts es : List Heard) (turn : ℕ) (c : SlotState) → heard_in_order ts turn c ≡ [] → heard_in_order es turn c ≡ [] → heard_in_order (if b then es else ts) turn c ≡ []
  either_silent true ts es turn c p q = q
  either_silent false ts es turn c p q = p

  -- the host takes no part
  pub silent : (b : Block) → low_block b ≡ true → (emits b).takes_part h.0 ≡ false → (turn : ℕ) (c : SlotState) → heard_in_order (heards b) turn c ≡ []
  silent End low none turn c = refl
  silent (Let x right rest) low none turn c =
      let this = and_left _ _ low in
      let out = or_none_left _ _ none in
      ap₂ (λ (p q : List ℕ). p ++ q)
      (right_silent x right (below (length protocols) x (and_left _ _ this)) (and_right _ _ this) (or_none_left _ _ out) (or_none_right _ _ out) c)
      (silent rest (and_right _ _ low) (or_none_right _ _ none) turn _)
  silent (NewVar v y rest) low none turn c =
      let this = and_left _ _ low in
      ap₂ (λ (p q : List ℕ). p ++ q) (no_word y v (word_at c y) (below (length protocols) v (and_left _ _ this)) (or_none_left _ _ (or_none_left _ _ none))) (silent rest (and_right _ _ low) (or_none_right _ _ none) turn _)
  silent (NewArray v size rest) low none turn c = silent rest (and_right _ _ low) (or_none_right _ _ none) turn _
  silent (Store v y rest) low none turn c =
      let this = and_left _ _ low in
      ap₂ (λ (p q : List ℕ). p ++ q) (no_word y v (word_at c y) (below (length protocols) v (and_left _ _ this)) (or_none_left _ _ (or_none_left _ _ none))) (silent rest (and_right _ _ low) (or_none_right _ _ none) turn _)
  silent (Put v i y rest) low none turn c =
      let this = and_left _ _ low in
      let lt = below (length protocols) v (and_left _ _ (and_left _ _ this)) in
      let out = or_none_left _ _ (or_none_left _ _ (or_none_left _ _ none)) in
      ap₂ (λ (p q : List ℕ). p ++ q) (ap₂ (λ (p q : List ℕ). p ++ q) (no_index v i (word_at c i) lt out) (no_word y v (word_at c y) lt out)) (silent rest (and_right _ _ low) (or_none_right _ _ none) turn _)
  silent (Output y k offset rest) low none turn c =
      ap₂ (λ (p q : List ℕ). p ++ q) (ap (λ (b : Bool). word_if (b && comes_alone protocols h y) (word_at c y)) (same_turned h.0 k.0 ∙ or_none_left _ _ (or_none_left _ _ none)))
      (silent rest (and_right _ _ low) (or_none_right _ _ none) turn _)
  silent (If x tb eb offset rest) low none turn c =
      let this = and_left _ _ low in
      let low1 = and_right _ _ (and_left _ _ this) in
      let low2 = and_right _ _ this in
      let out = or_none_left _ _ none in
      let out1 = or_none_right _ _ (or_none_left _ _ out) in
      let out2 = or_none_right _ _ out in
      ap₂ (λ (p q : List ℕ). p ++ q)
      (ap₂ (λ (p q : List ℕ). p ++ q)
      (ap (λ (b : Bool). word_if (b && comes_alone protocols h x) (word_at c x)) (part_is protocols h l (suite_calls hosts) x tb eb low1 low2 ∙ ap₂ (λ (a b : Bool). a || b) out1 out2))
      (either_silent (nat_eq (word_at c x) 0) (heards tb) (heards eb) turn c (silent tb low1 out1 turn c) (silent eb low2 out2 turn c)))
      (silent rest (and_right _ _ low) (or_none_right _ _ none) turn _)
  silent (For count body rest) low none turn c =
      ap₂ (λ (p q : List ℕ). p ++ q)
      (silent_turns body count c (silent body (and_left _ _ low) (or_none_left _ _ none)))
      (silent rest (and_right _ _ low) (or_none_right _ _ none) turn _)
