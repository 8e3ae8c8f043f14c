-- Where the words are those that the program endorses itself, the run is its own.
use Rattle.std.proofs.Common.{◌≡◌, ℕ, zero, suc, nat_eq, Bool, true, false, if◌then◌else◌, List, [], ◌∷◌, ◌++◌, append_assoc, append-nil, map, refl, sym, ap, ◌∙◌}
use Rattle.vd_base.specs.declared.ids.SlotId.{SlotId}
use Rattle.vd_core.specs.declared.normal.Right.{Right}
use Rattle.vd_core.specs.declared.normal.Right.TheVariants.{Lit, Turn, Copy, Apply, Input, Declassify, Endorse, Load, Get}
use Rattle.vd_semantics.specs.ProgramMeaning.{SlotState, Effect, word_at, with_word, in_world, right_word, after_right, in_order, stmt_effect}
use Rattle.vd_semantics.specs.Turns.{turns}
use Rattle.vd_core.specs.declared.normal.Stmt.TheOpen.{Stmt-F}
use Rattle.vd_split.specs.Block.{Block, End, Let, NewVar, NewArray, Store, Put, Output, If, For, block_of, each}
use Rattle.vd_split.proofs.Front.{fold_each}
use Rattle.vd_noninter.specs.Reading.{start}
use Rattle.vd_noninter.specs.Watching.{Watched, Taps, run_of, given_by, words_in_order, words_of_turns, endorsements, no_downgrades, right_downgraded, watched, watched_step}
use Rattle.vd_noninter.proofs.Front.{block_run_is}
use Rattle.vd_integrity_runs.specs.Endorsed.{Given, Doing, bound, all_done, given_step}
use Rattle.vd_integrity_runs.specs.IntegrityEndorsedLaws.{OwnWordsMakeTheRun}

abbrev given : SlotState → List ℕ → Given
given c left = record { state = c; left = left }

module _ (test : ℕ → ℕ → Bool) where
  abbrev taps : Taps
  taps = record { given = endorsements test; freed = no_downgrades; kept = λ x. false; shows = λ s. [] }

  abbrev watches : Block → List Watched
  watches b = each (watched_step taps) b

  abbrev words : Block → ℕ → SlotState → List ℕ
  words b turn c = words_in_order given_by (watches b) turn c

  abbrev runs : Block → ℕ → SlotState → SlotState
  runs b turn c = in_order (map run_of (watches b)) turn c

  abbrev does : Block → Doing
  does b = all_done (each (given_step test) b)

  abbrev IsOwn : Block → Type 0
  IsOwn b = (turn : ℕ) (c : SlotState) (more : List ℕ) → does b turn (given c (words b turn c ++ more)) ≡ given (runs b turn c) more

  right_own : (x : SlotId) (r : Right) (turn : ℕ) (c : SlotState) (more : List ℕ)
      → bound test x r turn (given c (right_downgraded (endorsements test) x r c ++ more)) ≡ given (with_word x (right_word r turn c) (in_world (after_right r c.world) c)) more
  right_own x (Lit n) turn c more = refl
  right_own x Turn turn c more = refl
  right_own x (Copy y) turn c more = refl
  right_own x (Apply op ys) turn c more = refl
  right_own x (Input host) turn c more = refl
  right_own x (Declassify y to) turn c more = refl
  right_own x (Endorse y to) turn c more = by (test x.0 y.0) refl
    where
      by : (b : Bool) → test x.0 y.0 ≡ b → bound test x (Endorse y to) turn (given c ((if test x.0 y.0 then word_at c y ∷ [] else []) ++ more)) ≡ given (with_word x (word_at c y) c) more
      by true is = rw is refl
      by false is = rw is refl
  right_own x (Load v) turn c more = refl
  right_own x (Get v i) turn c more = refl

  -- a statement whose own words are these, and then the rest
  then_own : (f : Doing) (rest : Block) (turn : ℕ) (c c1 : SlotState) (first more : List ℕ) → f turn (given c (first ++ (words rest turn c1 ++ more))) ≡ given c1 (words rest turn c1 ++ more) → IsOwn rest
      → does rest turn (f turn (given c ((first ++ words rest turn c1) ++ more))) ≡ given (runs rest turn c1) more
  then_own f rest turn c c1 first more one own =
      ap (λ (l : List ℕ). does rest turn (f turn (given c l))) (append_assoc first (words rest turn c1) more) ∙ ap (does rest turn) one ∙ own turn c1 more

  loop_own : (body : Block) → IsOwn body → (n : ℕ) (c : SlotState) (more : List ℕ)
      → turns n (does body) (given c (words_of_turns n given_by (watches body) c ++ more)) ≡ given (turns n (runs body) c) more
  loop_own body own zero c more = refl
  loop_own body own (suc n) c more =
      let before = words_of_turns n given_by (watches body) c in
      let here = words body n (turns n (runs body) c) in
      ap (λ (l : List ℕ). does body n (turns n (does body) (given c l))) (append_assoc before here more)
      ∙ ap (does body n) (loop_own body own n c (here ++ more)) ∙ own n (turns n (runs body) c) more

  branch_own : (b : Bool) (tb eb : Block) → IsOwn tb → IsOwn eb → (turn : ℕ) (c : SlotState) (more : List ℕ)
      → all_done (if b then each (given_step test) eb else each (given_step test) tb) turn (given c (words_in_order given_by (if b then watches eb else watches tb) turn c ++ more))
      ≡ given (in_order (if b then map run_of (watches eb) else map run_of (watches tb)) turn c) more
  branch_own true tb eb first other turn c more = other turn c more
  branch_own false tb eb first other turn c more = first turn c more

  own : (b : Block) → IsOwn b
  own End turn c more = refl
  own (Let x right rest) turn c more =
      then_own (bound test x right) rest turn c (with_word x (right_word right turn c) (in_world (after_right right c.world) c)) (right_downgraded (endorsements test) x right c) more
      (right_own x right turn c (words rest turn (with_word x (right_word right turn c) (in_world (after_right right c.world) c)) ++ more)) (own rest)
  own (NewVar v y rest) turn c more = own rest turn (stmt_effect (Stmt-F.NewVar v y) turn c) more
  own (NewArray v size rest) turn c more = own rest turn (stmt_effect (Stmt-F.NewArray v size) turn c) more
  own (Store v y rest) turn c more = own rest turn (stmt_effect (Stmt-F.Store v y) turn c) more
  own (Put v i y rest) turn c more = own rest turn (stmt_effect (Stmt-F.Put v i y) turn c) more
  own (Output y host offset rest) turn c more = own rest turn (stmt_effect (Stmt-F.Output y host offset) turn c) more
  own (If g tb eb offset rest) turn c more =
      let b = nat_eq (word_at c g) 0 in
      let c1 = in_order (if b then map run_of (watches eb) else map run_of (watches tb)) turn c in
      then_own (given_step test (Stmt-F.If g (each (given_step test) tb) (each (given_step test) eb) offset)) rest turn c c1 (words_in_order given_by (if b then watches eb else watches tb) turn c) more
      (branch_own b tb eb (own tb) (own eb) turn c (words rest turn c1 ++ more)) (own rest)
  own (For count body rest) turn c more =
      let c1 = turns count (runs body) c in
      then_own (given_step test (Stmt-F.For count (each (given_step test) body))) rest turn c c1 (words_of_turns count given_by (watches body) c) more
      (loop_own body (own body) count c (words rest turn c1 ++ more)) (own rest)

pub own_words : OwnWordsMakeTheRun
own_words p test inputs =
    let b = block_of p.body in
    let c = start p inputs in
    let endorsed = words_in_order given_by (map (watched (taps test)) p.body) 0 c in
    let watched_is : map (watched (taps test)) p.body ≡ watches test b = fold_each (watched_step (taps test)) p.body in
    ap (λ (fs : List Doing). all_done fs 0 (given c endorsed)) (fold_each (given_step test) p.body)
    ∙ ap (λ (ws : List Watched). does test b 0 (given c (words_in_order given_by ws 0 c))) watched_is
    ∙ ap (λ (l : List ℕ). does test b 0 (given c l)) (sym (append-nil (words test b 0 c)))
    ∙ own test b 0 c []
    ∙ ap (λ (ws : List Watched). given (in_order (map run_of ws) 0 c) []) (sym watched_is)
    ∙ ap (λ (f : Effect). given (f 0 c) []) (block_run_is (taps test) p.body)
