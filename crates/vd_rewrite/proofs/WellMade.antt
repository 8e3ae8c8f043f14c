-- A program that is made anew is well made.
use Rattle.std.proofs.Common.{◌≡◌, ℕ, zero, suc, ◌+◌, ◌≤◌, nat_eq, Bool, true, false, true≢false, ◌&&◌, not, List, [], ◌∷◌, ◌++◌, length, slice_index_or, refl, sym, ap, ◌∙◌, subst, arith}
use Rattle.std.specs.List.{list_all, range_with_len}
use Rattle.std.proofs.lemmas.Bool.{and_parts}
use Rattle.std.proofs.lemmas.List.{length-map}
use Rattle.std.proofs.lemmas.List.Sums.{AllPass-from_list_all, list_all-from_AllPass}
use Rattle.vd_base.specs.declared.ids.SlotId.{SlotId}
use Rattle.vd_base.specs.Arity.{arity}
use Rattle.vd_base.specs.Limits.{most_statements, most_weights, most_nesting}
use Rattle.vd_core.specs.declared.normal.Right.{Right}
use Rattle.vd_core.specs.declared.normal.Right.TheVariants.{Lit, Turn, Copy, Apply, Input, Declassify, Endorse, Load, Get}
use Rattle.vd_core.specs.declared.normal.Slot.{Slot}
use Rattle.vd_core.specs.declared.normal.NormalForm.{NormalForm}
use Rattle.vd_core.specs.declared.normal.Stmt.{Let}
use Rattle.vd_core.specs.declared.normal.Stmt.TheOpen.{Stmt-F}
use Rattle.vd_core.specs.declared.normal.Stmt.TheFolds.{fold-Stmt}
use Rattle.vd_core.specs.Facts.{nothing_seen, slots_made, blocks_meet, all_meet, of_rights, operands_fit, shift_fits, host_is_declared, right_is_declared, written_is_declared, is_turn, turns_step, has_turns_in_loops, statement_count, weight_sum, nesting, IsWellMade}
use Rattle.vd_semantics.specs.ProgramMeaning.{SlotState}
use Rattle.vd_rewrite.specs.Rewriting.{Made, slot, unnamed, entry_of, in_block, moved, moved_right, selection, made_at_start, Lets, kept_let, all_made, rewritten}
use Rattle.vd_rewrite.proofs.Tables.{Known, placed_at_start}
use Rattle.vd_rewrite.proofs.Meaning.{Counts, Laws}
use Rattle.vd_rewrite.proofs.Shape.{Makes, makes_kept, slots_let, cells_let, nest_let, body_makes}
use Rattle.vd_rewrite.proofs.Tests.{Looks, kept_keeps, test_let, body_keeps}
use Rattle.vd_rewrite.proofs.Sights.{Shows}
use Rattle.vd_rewrite.proofs.Seeing.{LetSees, kept_sees, body_sees}
use Rattle.vd_rewrite.proofs.Outputs.{counts_range}

-- ---- tests of right sides
and_true : (b : Bool) → (b && true) ≡ true → b ≡ true
and_true true h = refl
and_true false h = h

with_true : (b : Bool) → b ≡ true → (b && true) ≡ true
with_true true h = refl
with_true false h = h

looks_rights : (f : Right → Bool) → ((table : List ℕ) (r : Right) → f r ≡ true → f (moved_right table r) ≡ true) → ((v : SlotId) → f (Load v) ≡ true) → ((first : Bool) (g new old : SlotId) → f (selection first g new old) ≡ true)
    → Looks (λ s. of_rights f s && blocks_meet s)
looks_rights f moves load choice =
    record {
      lets = λ x x' table r ok. with_true (f (moved_right table r)) (moves table r (and_true (f r) ok));
      load = λ x v. with_true (f (Load v)) (load v);
      choice = λ x first g new old. with_true (f (selection first g new old)) (choice first g new old);
      variable = λ v x. refl;
      array = λ v n. refl;
      store = λ v x. refl;
      put = λ v i x. refl;
      output = λ x x' h offset ok. refl;
      parts = λ g a b offset ok. and_parts (list_all (λ b. b) a) (list_all (λ b. b) b) ok;
      branches = λ g g' a b a' b' offset ok ha hb. rw (ha, hb) refl;
      loop = λ n a a' ok h. h ok;
    }

operands_still : (table : List ℕ) (r : Right) → operands_fit r ≡ true → operands_fit (moved_right table r) ≡ true
operands_still table (Apply o xs) h = ap (λ n. nat_eq n (arity o)) (length-map xs (moved table)) ∙ h
operands_still table (Lit n) h = refl
operands_still table Turn h = refl
operands_still table (Copy x) h = refl
operands_still table (Input host) h = refl
operands_still table (Declassify x to) h = refl
operands_still table (Endorse x to) h = refl
operands_still table (Load v) h = refl
operands_still table (Get v i) h = refl

shifts_still : (table : List ℕ) (r : Right) → shift_fits r ≡ true → shift_fits (moved_right table r) ≡ true
shifts_still table (Apply o xs) h = h
shifts_still table (Lit n) h = refl
shifts_still table Turn h = refl
shifts_still table (Copy x) h = refl
shifts_still table (Input host) h = refl
shifts_still table (Declassify x to) h = refl
shifts_still table (Endorse x to) h = refl
shifts_still table (Load v) h = refl
shifts_still table (Get v i) h = refl

declared_still : (principals : List (List ℕ)) (table : List ℕ) (r : Right) → right_is_declared principals r ≡ true → right_is_declared principals (moved_right table r) ≡ true
declared_still principals table (Apply o xs) h = refl
declared_still principals table (Lit n) h = refl
declared_still principals table Turn h = refl
declared_still principals table (Copy x) h = refl
declared_still principals table (Input host) h = refl
declared_still principals table (Declassify x to) h = h
declared_still principals table (Endorse x to) h = h
declared_still principals table (Load v) h = refl
declared_still principals table (Get v i) h = refl

pub operands_look : Looks (λ s. of_rights operands_fit s && blocks_meet s)
operands_look = looks_rights operands_fit operands_still (λ v. refl) choice
  where
    choice : (first : Bool) (g new old : SlotId) → operands_fit (selection first g new old) ≡ true
    choice true g new old = refl
    choice false g new old = refl

pub shifts_look : Looks (λ s. of_rights shift_fits s && blocks_meet s)
shifts_look = looks_rights shift_fits shifts_still (λ v. refl) (λ first g new old. refl)

pub declared_look : (principals : List (List ℕ)) → Looks (λ s. of_rights (right_is_declared principals) s && blocks_meet s)
declared_look principals = looks_rights (right_is_declared principals) (declared_still principals) (λ v. refl) (λ first g new old. refl)

host_still : (hosts : ℕ) (x x' : SlotId) (table : List ℕ) (r : Right) → host_is_declared hosts (Stmt-F.Let x r) ≡ true → host_is_declared hosts (Stmt-F.Let x' (moved_right table r)) ≡ true
host_still hosts x x' table (Input host) h = h
host_still hosts x x' table (Apply o xs) h = refl
host_still hosts x x' table (Lit n) h = refl
host_still hosts x x' table Turn h = refl
host_still hosts x x' table (Copy y) h = refl
host_still hosts x x' table (Declassify y to) h = refl
host_still hosts x x' table (Endorse y to) h = refl
host_still hosts x x' table (Load v) h = refl
host_still hosts x x' table (Get v i) h = refl

pub hosts_look : (hosts : ℕ) → Looks (λ s. host_is_declared hosts s && blocks_meet s)
hosts_look hosts =
    record {
      lets = λ x x' table r ok. with_true (host_is_declared hosts (Stmt-F.Let x' (moved_right table r))) (host_still hosts x x' table r (and_true (host_is_declared hosts (Stmt-F.Let x r)) ok));
      load = λ x v. refl;
      choice = λ x first g new old. refl;
      variable = λ v x. refl;
      array = λ v n. refl;
      store = λ v x. refl;
      put = λ v i x. refl;
      output = λ x x' h offset ok. ok;
      parts = λ g a b offset ok. and_parts (list_all (λ b. b) a) (list_all (λ b. b) b) ok;
      branches = λ g g' a b a' b' offset ok ha hb. rw (ha, hb) refl;
      loop = λ n a a' ok h. h ok;
    }

turn_still : (table : List ℕ) (r : Right) → not (is_turn r) ≡ true → not (is_turn (moved_right table r)) ≡ true
turn_still table (Apply o xs) h = refl
turn_still table (Lit n) h = refl
turn_still table Turn h = h
turn_still table (Copy x) h = refl
turn_still table (Input host) h = refl
turn_still table (Declassify x to) h = refl
turn_still table (Endorse x to) h = refl
turn_still table (Load v) h = refl
turn_still table (Get v i) h = refl

pub turns_look : Looks turns_step
turns_look =
    record {
      lets = λ x x' table r ok. turn_still table r ok;
      load = λ x v. refl;
      choice = λ x first g new old. refl;
      variable = λ v x. refl;
      array = λ v n. refl;
      store = λ v x. refl;
      put = λ v i x. refl;
      output = λ x x' h offset ok. refl;
      parts = λ g a b offset ok. and_parts (list_all (λ b. b) a) (list_all (λ b. b) b) ok;
      branches = λ g g' a b a' b' offset ok ha hb. rw (ha, hb) refl;
      loop = λ n a a' ok h. refl;
    }

-- ---- entries
pub item_passes : {A : Type 0} (pass : A → Bool) (xs : List A) (d : A) (k : ℕ) → list_all pass xs ≡ true → pass d ≡ true → pass (slice_index_or xs k d) ≡ true
item_passes pass [] d k h hd = hd
item_passes pass (x ∷ xs) d zero h hd = (and_parts (pass x) (list_all pass xs) h).0
item_passes pass (x ∷ xs) d (suc k) h hd = item_passes pass xs d k (and_parts (pass x) (list_all pass xs) h).1 hd

abbrev pub entry_passes : List (List ℕ) → Slot → Bool
entry_passes principals s = written_is_declared principals s.label

-- what the rest needs of a Let
pub record LetsFit (lets : Lets) (principals : List (List ℕ)) (hosts deep : ℕ) : Type 0 where
  pub makes : (x : SlotId) (r : Right) (block : ℕ) (m : Made) → Makes (entry_passes principals) m (lets x r block m) 0 deep
  pub operands : (x : SlotId) (r : Right) (block : ℕ) (m : Made) → (operands_fit r && true) ≡ true → all_meet (of_rights operands_fit) m.body ≡ true → all_meet (of_rights operands_fit) (lets x r block m).body ≡ true
  pub shifts : (x : SlotId) (r : Right) (block : ℕ) (m : Made) → (shift_fits r && true) ≡ true → all_meet (of_rights shift_fits) m.body ≡ true → all_meet (of_rights shift_fits) (lets x r block m).body ≡ true
  pub rights : (x : SlotId) (r : Right) (block : ℕ) (m : Made) → (right_is_declared principals r && true) ≡ true → all_meet (of_rights (right_is_declared principals)) m.body ≡ true → all_meet (of_rights (right_is_declared principals)) (lets x r block m).body ≡ true
  pub known : (x : SlotId) (r : Right) (block : ℕ) (m : Made) → (host_is_declared hosts (Stmt-F.Let x r) && true) ≡ true → all_meet (host_is_declared hosts) m.body ≡ true → all_meet (host_is_declared hosts) (lets x r block m).body ≡ true
  pub turns : (x : SlotId) (r : Right) (block : ℕ) (m : Made) → not (is_turn r) ≡ true → list_all has_turns_in_loops m.body ≡ true → list_all has_turns_in_loops (lets x r block m).body ≡ true
  pub sees : LetSees lets

-- a Let that stays
pub kept_fits : (old : List Slot) (principals : List (List ℕ)) (hosts : ℕ) → list_all (entry_passes principals) old ≡ true → LetsFit (kept_let old) principals hosts 0
kept_fits old principals hosts pass =
    record {
      makes = λ x r block m.
          let st = Let (slot m.next) (moved_right m.table r) in
          makes_kept (entry_passes principals) m (in_block block (entry_of old x)) st 0 (item_passes (entry_passes principals) old unnamed x.0 pass refl)
          (slots_let (slot m.next) (moved_right m.table r)) (cells_let (slot m.next) (moved_right m.table r)) (nest_let (slot m.next) (moved_right m.table r));
      operands = λ x r block m ok h. kept (λ s. of_rights operands_fit s && blocks_meet s) operands_look x r m ok h;
      shifts = λ x r block m ok h. kept (λ s. of_rights shift_fits s && blocks_meet s) shifts_look x r m ok h;
      rights = λ x r block m ok h. kept (λ s. of_rights (right_is_declared principals) s && blocks_meet s) (declared_look principals) x r m ok h;
      known = λ x r block m ok h. kept (λ s. host_is_declared hosts s && blocks_meet s) (hosts_look hosts) x r m ok h;
      turns = λ x r block m ok h. kept turns_step turns_look x r m ok h;
      sees = kept_sees old;
    }
  where
    kept : (test : Stmt-F Bool → Bool) (looks : Looks test) (x : SlotId) (r : Right) (m : Made) → test (Stmt-F.Let x r) ≡ true → list_all (fold-Stmt Bool test) m.body ≡ true → list_all (fold-Stmt Bool test) (m.body ++ Let (slot m.next) (moved_right m.table r) ∷ []) ≡ true
    kept test looks x r m ok h =
        kept_keeps test looks (Let (slot m.next) (moved_right m.table r)) m.body (test_let test looks (slot m.next) (moved_right m.table r) ∙ looks.lets x (slot m.next) m.table r ok) h

-- whatever is made of Lets
pub rewritten_well_made : (hides : SlotId → Bool) (lets : Lets) (Turns : Type 0) (Fine : ℕ → Type 0) (Holds : SlotState → Type 0) (good : Stmt-F Bool → Bool) → Laws hides lets Turns Fine Holds good
    → (program : NormalForm) → IsWellMade program → (deep : ℕ) → LetsFit lets program.principals (length program.hosts) deep
    → (nesting (rewritten hides lets program).body ≤ nesting program.body + deep → nesting (rewritten hides lets program).body ≤ most_nesting) → statement_count (rewritten hides lets program).body ≤ most_statements → weight_sum (rewritten hides lets program).body ≤ most_weights → IsWellMade (rewritten hides lets program)
rewritten_well_made hides lets Turns Fine Holds good laws program well deep fit loops few light =
    let principals = program.principals in
    let pass = entry_passes principals in
    let old = program.slots in
    let hosts = length program.hosts in
    let m = all_made hides lets program in
    let makes = body_makes pass (λ kind offset block. refl) hides lets old (λ x block. item_passes pass old unnamed x.0 (list_all-from_AllPass pass old well.known_principals.slots) refl) deep fit.makes program.body [] 0 made_at_start in
    let counts : Counts 0 (slots_made program.body) = subst (Counts 0) (sym well.in_order) (counts_range 0 (length program.slots)) in
    let known : Known 0 nothing_seen =
    record {
      bindings = λ k h. absurd (true≢false (sym h));
      variables = λ k h. absurd (true≢false (sym h));
      arrays = λ k h. absurd (true≢false (sym h));
      apart = λ k h h'. absurd (true≢false (sym h));
    } in
    let shows : Shows [] nothing_seen nothing_seen =
    record {
      bindings = λ k h. absurd (true≢false (sym h));
      variables = λ k h. absurd (true≢false (sym h));
      arrays = λ k h. absurd (true≢false (sym h));
    } in
    let sights = body_sees hides lets old Turns Fine Holds good laws fit.sees program.body [] 0 made_at_start nothing_seen nothing_seen placed_at_start known counts well.made_before refl shows tt in
    let lim = well.limits in
    record {
      in_order = makes.slots ∙ ap (λ z. range_with_len 0 z) (let e = makes.entries in omega arith);
      made_before = sights.0.all;
      operands = body_keeps (λ s. of_rights operands_fit s && blocks_meet s) operands_look hides lets old fit.operands program.body well.operands [] 0 made_at_start refl;
      shifts = body_keeps (λ s. of_rights shift_fits s && blocks_meet s) shifts_look hides lets old fit.shifts program.body well.shifts [] 0 made_at_start refl;
      turns = body_keeps turns_step turns_look hides lets old fit.turns program.body well.turns [] 0 made_at_start refl;
      principals = well.principals;
      hosts = well.hosts;
      known_hosts = body_keeps (λ s. host_is_declared hosts s && blocks_meet s) (hosts_look hosts) hides lets old fit.known program.body well.known_hosts [] 0 made_at_start refl;
      known_principals =
          record {
            rights = body_keeps (λ s. of_rights (right_is_declared principals) s && blocks_meet s) (declared_look principals) hides lets old fit.rights program.body well.known_principals.rights [] 0 made_at_start refl;
            slots = AllPass-from_list_all pass m.slots (makes.passes refl);
            hosts = well.known_principals.hosts;
          };
      labels = well.labels;
      limits =
          record {
            some_principal = lim.some_principal;
            principals = lim.principals;
            some_host = lim.some_host;
            hosts = lim.hosts;
            statements = few;
            loops = loops (let e = makes.nest in omega arith);
            weights = light;
            cells = (let e = makes.cells in let l = lim.cells in omega arith);
          };
    }
