-- Runs with the same given words stay alike in what is kept.
use Rattle.std.proofs.Common.{◌≡◌, ℕ, zero, suc, nat_eq, Bool, true, false, true≢false, ◌&&◌, if◌then◌else◌, List, [], ◌∷◌, ◌++◌, replicate, slice_index_or, slice_set, refl, sym, ap, ◌∙◌}
use Rattle.std.specs.List.{list_any}
use Rattle.std.proofs.lemmas.Bool.{and_parts}
use Rattle.vd_base.specs.declared.ids.HostId.{HostId}
use Rattle.vd_base.specs.declared.ids.SlotId.{SlotId}
use Rattle.vd_core.specs.declared.normal.Right.{Right}
use Rattle.vd_core.specs.declared.normal.Right.TheVariants.{Lit, Turn, Copy, Apply, Input, Declassify, Endorse, Load, Get}
use Rattle.vd_semantics.specs.World.{first_word, later_words}
use Rattle.vd_semantics.specs.ProgramMeaning.{SlotState, word_at, array_at, with_word, in_world, right_word, after_right}
use Rattle.vd_semantics.specs.Turns.{turns}
use Rattle.vd_split.specs.Block.{Block, End, Let, NewVar, NewArray, Store, Put, Output, If, For, block_of, each}
use Rattle.vd_split.proofs.Front.{fold_each}
use Rattle.vd_noninter.specs.Agreement.{Agree}
use Rattle.vd_noninter.specs.Flowing.{Knowledge, all_flow, flow_step, only_with, right_flows}
use Rattle.vd_noninter.specs.Reading.{start, visible_slots}
use Rattle.vd_noninter.specs.Watching.{nothing, right_downgraded}
use Rattle.vd_noninter.proofs.Front.{agree_sym, agree_trans, agree_after_right, agree_array, agree_output, agree_word, only, right_in_step}
use Rattle.vd_noninter.specs.Trust.{OfEachTrust, becomes_trusted, trusts_slot}
use Rattle.vd_noninter.proofs.Front.{knowledge, trusted_flows}
use Rattle.vd_integrity_runs.specs.Endorsed.{Given, Doing, is_given, bound, all_done, given_step}
use Rattle.vd_integrity_runs.specs.IntegrityEndorsedLaws.{DecidesWhatIsTrusted}
use Rattle.vd_integrity_runs.proofs.Hiding.{hides, flows, run_of, hidden_still}

module _ (k : Knowledge) (declassified : (x y : ℕ) → k.given.declassified x y ≡ false) where
  -- the same words are still to be endorsed, and what is kept agrees
  record Alike (s t : Given) : Type 0 where
    pub left : s.left ≡ t.left
    pub agree : Agree k s.state t.state

  none_if : (b : Bool) (words : List ℕ) → b ≡ false → (if b then words else []) ≡ []
  none_if true words e = absurd (true≢false e)
  none_if false words e = refl

  not_downgraded : (x : SlotId) (r : Right) (c : SlotState) → is_given k.given.endorsed x r ≡ false → right_downgraded k.given x r c ≡ []
  not_downgraded x (Lit n) c off = refl
  not_downgraded x Turn c off = refl
  not_downgraded x (Copy y) c off = refl
  not_downgraded x (Apply op ys) c off = refl
  not_downgraded x (Input host) c off = refl
  not_downgraded x (Declassify y to) c off = none_if (k.given.declassified x.0 y.0) (word_at c y ∷ []) (declassified x.0 y.0)
  not_downgraded x (Endorse y to) c off = none_if (k.given.endorsed x.0 y.0) (word_at c y ∷ []) off
  not_downgraded x (Load v) c off = refl
  not_downgraded x (Get v i) c off = refl

  let_alike : (x : SlotId) (r : Right) (turn : ℕ) (s t : Given) → right_flows k x r ≡ true → Alike s t → Alike (bound k.given.endorsed x r turn s) (bound k.given.endorsed x r turn t)
  let_alike x r turn s t flow a = by (is_given k.given.endorsed x r) refl
    where
      by : (b : Bool) → is_given k.given.endorsed x r ≡ b → Alike (bound k.given.endorsed x r turn s) (bound k.given.endorsed x r turn t)
      by true is = record {
        left = rw is (ap later_words a.left);
        agree = rw is
            (agree_word k (in_world (after_right r s.state.world) s.state) (in_world (after_right r t.state.world) t.state) x (first_word s.left) (first_word t.left) (agree_after_right k r s.state t.state a.agree) (λ there. ap first_word a.left));
      }
      by false is =
          let none = not_downgraded x r s.state is in
          let none' = not_downgraded x r t.state is in
          let same = right_in_step k x r turn s.state t.state [] [] a.agree flow (ap (λ (l : List ℕ). l ++ []) (none ∙ sym none')) in
          record {
            left = rw is a.left;
            agree = rw is
                (agree_word k (in_world (after_right r s.state.world) s.state) (in_world (after_right r t.state.world) t.state) x (right_word r turn s.state) (right_word r turn t.state) (agree_after_right k r s.state t.state a.agree) same.same);
          }

  stored_alike : (v y : SlotId) (s t : Given) → only_with (k.kept v.0) (k.kept y.0) ≡ true → Alike s t
      → Agree k (with_word v (word_at s.state y) s.state) (with_word v (word_at t.state y) t.state)
  stored_alike v y s t flow a = agree_word k s.state t.state v (word_at s.state y) (word_at t.state y) a.agree (λ is. a.agree.words y.0 (only (k.kept v.0) (k.kept y.0) flow is))

  turns_alike : (f : Doing) → ((turn : ℕ) (s t : Given) → Alike s t → Alike (f turn s) (f turn t)) → (n : ℕ) (s t : Given) → Alike s t → Alike (turns n f s) (turns n f t)
  turns_alike f one zero s t a = a
  turns_alike f one (suc n) s t a = one n (turns n f s) (turns n f t) (turns_alike f one n s t a)

  branch_alike : (b b' : Bool) → b ≡ b' → (ts es : List Doing) (turn : ℕ) (s t : Given) → Alike (all_done ts turn s) (all_done ts turn t) → Alike (all_done es turn s) (all_done es turn t)
      → Alike (all_done (if b then es else ts) turn s) (all_done (if b' then es else ts) turn t)
  branch_alike true true e ts es turn s t first other = other
  branch_alike false false e ts es turn s t first other = first
  branch_alike true false e ts es turn s t first other = absurd (true≢false e)
  branch_alike false true e ts es turn s t first other = absurd (true≢false (sym e))

  -- a state, and what a hidden branch makes of it
  hidden_branch : (tb eb : Block) → hides k tb ≡ true → hides k eb ≡ true → (b : Bool) (turn : ℕ) (s : Given)
      → ((all_done (if b then each (given_step k.given.endorsed) eb else each (given_step k.given.endorsed) tb) turn s).left ≡ s.left)
      × Agree k s.state (all_done (if b then each (given_step k.given.endorsed) eb else each (given_step k.given.endorsed) tb) turn s).state
  hidden_branch tb eb h1 h2 true turn s = let q = hidden_still k eb h2 turn s in (q.left, q.agree)
  hidden_branch tb eb h1 h2 false turn s = let q = hidden_still k tb h1 turn s in (q.left, q.agree)

  block_alike : (b : Block) → flows k b ≡ true → (turn : ℕ) (s t : Given) → Alike s t → Alike (run_of k b turn s) (run_of k b turn t)
  block_alike End flow turn s t a = a
  block_alike (Let x right rest) flow turn s t a =
      let parts = and_parts (right_flows k x right) (flows k rest) flow in
      block_alike rest parts.1 turn (bound k.given.endorsed x right turn s) (bound k.given.endorsed x right turn t) (let_alike x right turn s t parts.0 a)
  block_alike (NewVar v y rest) flow turn s t a =
      let parts = and_parts (only_with (k.kept v.0) (k.kept y.0)) (flows k rest) flow in
      block_alike rest parts.1 turn _ _ (record { left = a.left; agree = stored_alike v y s t parts.0 a })
  block_alike (NewArray v size rest) flow turn s t a =
      block_alike rest flow turn _ _ (record { left = a.left; agree = agree_array k s.state t.state v (replicate size 0) (replicate size 0) a.agree (λ is. refl) })
  block_alike (Store v y rest) flow turn s t a =
      let parts = and_parts (only_with (k.kept v.0) (k.kept y.0)) (flows k rest) flow in
      block_alike rest parts.1 turn _ _ (record { left = a.left; agree = stored_alike v y s t parts.0 a })
  block_alike (Put v i y rest) flow turn s t a =
      let parts = and_parts (only_with (k.kept v.0) (k.kept i.0 && k.kept y.0)) (flows k rest) flow in
      block_alike rest parts.1 turn _ _ (record {
        left = a.left;
        agree = agree_array k s.state t.state v (slice_set (array_at s.state v) (word_at s.state i) (word_at s.state y)) (slice_set (array_at t.state v) (word_at t.state i) (word_at t.state y)) a.agree
            (λ is.
            let both = and_parts (k.kept i.0) (k.kept y.0) (only (k.kept v.0) (k.kept i.0 && k.kept y.0) parts.0 is) in
            rw (a.agree.arrays v.0 is, a.agree.words i.0 both.0, a.agree.words y.0 both.1) refl);
      })
  block_alike (Output y host offset rest) flow turn s t a =
      let parts = and_parts (only_with (k.heard host.0) (k.kept y.0)) (flows k rest) flow in
      block_alike rest parts.1 turn _ _ (record { left = a.left; agree = agree_output k s.state t.state host.0 (word_at s.state y) (word_at t.state y) a.agree (λ is. a.agree.words y.0 (only (k.heard host.0) (k.kept y.0) parts.0 is)) })
  block_alike (If g tb eb offset rest) flow turn s t a =
      let parts = and_parts (if k.kept g.0 then flows k tb && flows k eb else hides k tb && hides k eb) (flows k rest) flow in
      block_alike rest parts.1 turn _ _ (branch (k.kept g.0) refl parts.0 (block_alike tb) (block_alike eb))
    where
      branch : (b : Bool) → k.kept g.0 ≡ b → (if b then flows k tb && flows k eb else hides k tb && hides k eb) ≡ true
          → (flows k tb ≡ true → (turn : ℕ) (s t : Given) → Alike s t → Alike (run_of k tb turn s) (run_of k tb turn t)) → (flows k eb ≡ true → (turn : ℕ) (s t : Given) → Alike s t → Alike (run_of k eb turn s) (run_of k eb turn t))
          → Alike (all_done (if nat_eq (word_at s.state g) 0 then each (given_step k.given.endorsed) eb else each (given_step k.given.endorsed) tb) turn s)
          (all_done (if nat_eq (word_at t.state g) 0 then each (given_step k.given.endorsed) eb else each (given_step k.given.endorsed) tb) turn t)
      branch true is f first other =
          let both = and_parts (flows k tb) (flows k eb) f in
          branch_alike (nat_eq (word_at s.state g) 0) (nat_eq (word_at t.state g) 0) (ap (λ z. nat_eq z 0) (a.agree.words g.0 is)) (each (given_step k.given.endorsed) tb) (each (given_step k.given.endorsed) eb) turn s t
          (first both.0 turn s t a) (other both.1 turn s t a)
      branch false is f first other =
          let both = and_parts (hides k tb) (hides k eb) f in
          let one = hidden_branch tb eb both.0 both.1 (nat_eq (word_at s.state g) 0) turn s in
          let two = hidden_branch tb eb both.0 both.1 (nat_eq (word_at t.state g) 0) turn t in
          record { left = one.0 ∙ a.left ∙ sym two.0; agree = agree_trans k _ s.state _ (agree_sym k s.state _ one.1) (agree_trans k s.state t.state _ a.agree two.1) }
  block_alike (For count body rest) flow turn s t a =
      let parts = and_parts (flows k body) (flows k rest) flow in
      block_alike rest parts.1 turn _ _ (turns_alike (run_of k body) (block_alike body parts.0) count s t a)

abbrev told : HostId → Given → List ℕ
told h s = slice_index_or s.state.world.outputs h.0 []

pub words_decide : OfEachTrust (λ p l T. DecidesWhatIsTrusted p l T)
words_decide p l well satisfies T trust first second same words h trusted =
    let k : Knowledge = knowledge p l T (becomes_trusted l T) nothing (λ x. list_any (nat_eq x) (visible_slots (trusts_slot l T) p.body)) in
    let flow : flows k (block_of p.body) ≡ true = ap all_flow (sym (fold_each (flow_step k) p.body)) ∙ trusted_flows p l well satisfies T trust in
    let one : Given = record { state = start p first; left = words } in
    let two : Given = record { state = start p second; left = words } in
    let alike = block_alike k (λ x y. refl) (block_of p.body) flow 0 one two (record { left = refl; agree = record { words = λ x is. refl; arrays = λ x is. refl; inputs = same; hosts = refl; outputs = λ host is. refl } }) in
    let as_block = fold_each (given_step (becomes_trusted l T)) p.body in
    ap (λ (fs : List Doing). told h (all_done fs 0 one)) as_block ∙ alike.agree.outputs h.0 trusted ∙ ap (λ (fs : List Doing). told h (all_done fs 0 two)) (sym as_block)
