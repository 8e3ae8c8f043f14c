-- A Turn stands in a loop.
use Rattle.std.proofs.Common.{◌≡◌, ℕ, Bool, true, ◌&&◌, not, List, [], ◌∷◌, ◌++◌, map, refl, ◌∙◌, rules}
use Rattle.std.specs.List.{list_all}
use Rattle.std.proofs.lemmas.List.Folds.{list_all-append, list_all-map}
use Rattle.vd_base.specs.declared.ids.SlotId.{SlotId}
use Rattle.vd_base.specs.declared.ids.HostId.{HostId}
use Rattle.vd_core.specs.declared.normal.Right.{Right}
use Rattle.vd_core.specs.declared.normal.Right.TheVariants.{Lit, Turn, Copy, Apply, Input, Declassify, Endorse, Load, Get}
use Rattle.vd_core.specs.declared.normal.Stmt.{Stmt, Let, NewVar, NewArray, Store, Put, Output, If, For}
use Rattle.vd_core.specs.declared.normal.Stmt.TheFolds.{the_lemmas}
use Rattle.vd_core.specs.declared.source.Source.{Source}
use Rattle.vd_core.specs.Facts.{is_turn, has_turns_in_loops, TurnsInLoops}
use Rattle.vd_elaborate.specs.declared.anf.spot.Spot.{Spot}
use Rattle.vd_elaborate.specs.Normal.{Made, slot, normal_form}
use Rattle.vd_elaborate.proofs.Laws.{Laws}
use Rattle.vd_elaborate.proofs.Every.{IsMade}
use Rattle.vd_elaborate.proofs.AnfWellformedWalk.{main_keeps}
use Rattle.vd_elaborate.proofs.Plain.{always, source_always}

abbrev ok : Stmt → Bool
ok = has_turns_in_loops

push : (m : Made) (x : Stmt) → ok x ≡ true → list_all ok m.body ≡ true → list_all ok (m.body ++ x ∷ []) ≡ true
push m x e h = list_all-append ok m.body (x ∷ []) ∙ rw (h, e) refl

let_ok : (x : SlotId) (r : Right) → ok (Let x r) ≡ not (is_turn r)
let_ok x r = search (rules, the_lemmas)

var_ok : (v x : SlotId) → ok (NewVar v x) ≡ true
var_ok v x = search (rules, the_lemmas)

array_ok : (v : SlotId) (n : ℕ) → ok (NewArray v n) ≡ true
array_ok v n = search (rules, the_lemmas)

store_ok : (v x : SlotId) → ok (Store v x) ≡ true
store_ok v x = search (rules, the_lemmas)

put_ok : (v i x : SlotId) → ok (Put v i x) ≡ true
put_ok v i x = search (rules, the_lemmas)

output_ok : (x : SlotId) (h : HostId) (offset : ℕ) → ok (Output x h offset) ≡ true
output_ok x h offset = search (rules, the_lemmas)

if_ok : (x : SlotId) (a b : List Stmt) (offset : ℕ) → ok (If x a b offset) ≡ (list_all (λ c. c) (map ok a) && list_all (λ c. c) (map ok b))
if_ok x a b offset = search (rules, the_lemmas)

for_ok : (n : ℕ) (body : List Stmt) → ok (For n body) ≡ true
for_ok n body = search (rules, the_lemmas)

-- expressions make no Turn
no_turn : (r : Right) → IsMade always r → not (is_turn r) ≡ true
no_turn (Lit n) h = refl
no_turn Turn h = absurd h
no_turn (Copy x) h = refl
no_turn (Apply o xs) h = refl
no_turn (Input host) h = refl
no_turn (Declassify x to) h = refl
no_turn (Endorse x to) h = refl
no_turn (Load v) h = refl
no_turn (Get v i) h = refl

all_ok : (body : List Stmt) → list_all ok body ≡ true → list_all (λ c. c) (map ok body) ≡ true
all_ok body h = list_all-map (λ c. c) ok body ∙ h

abbrev Keeps : Unit {0} → Made → Made → Type 0
Keeps w m m' = list_all ok m.body ≡ true → list_all ok m'.body ≡ true

abbrev Here : Unit {0} → Made → Spot → Type 0
Here w m p = Unit {0}

turn_laws : Laws always (Unit {0}) Keeps Here (λ w m. tt)
turn_laws = record {
  none = λ w m h. h;
  after = λ w m m1 m2 a b h. b (a h);
  stays = λ w m m' p k h. tt;
  enters = λ w m e p h. tt;
  right = λ w m entry r ok fine. push m (Let (slot m.next) r) (let_ok (slot m.next) r ∙ no_turn r fine);
  right_here = λ w m entry r fine. tt;
  variable = λ w m entry k ok h. push m (NewVar (slot m.next) (slot k)) (var_ok (slot m.next) (slot k));
  variable_here = λ w m entry k. tt;
  array = λ w m entry n ok. push m (NewArray (slot m.next) n) (array_ok (slot m.next) n);
  array_here = λ w m entry n. tt;
  renamed = λ w m k x label ok h. h;
  stores = λ w m v k a b. push m (Store (slot v) (slot k)) (store_ok (slot v) (slot k));
  puts = λ w m v i k a b c. push m (Put (slot v) (slot i) (slot k)) (put_ok (slot v) (slot i) (slot k));
  outputs = λ w m k host offset a ok. push m (Output (slot k) host offset) (output_ok (slot k) host offset);
  branches = λ w m k offset a b h oa ob. push m (If (slot k) a.body b.body offset) (if_ok (slot k) a.body b.body offset ∙ rw (all_ok a.body (oa refl), all_ok b.body (ob refl)) refl);
  loops = λ w m count entry a ok o. push m (For count a.body) (for_ok count a.body);
  turn_here = λ w m entry. tt;
  turn_stays = λ w m entry p h. tt;
}

pub turns_in_loops : (source : Source) → TurnsInLoops (normal_form source)
turns_in_loops source = main_keeps always (Unit {0}) Keeps Here (λ w m. tt) turn_laws source (source_always source) tt refl
